-- What stands between two steps of a run, from the laws over all runs and of the passes.
use Rattle.std.proofs.Common.{◌≡◌, ◌<◌, true, false, List, [], ◌∷◌, ◌++◌, refl, sym, ap, ◌∙◌, subst}
use Rattle.std.proofs.lemmas.List.Elements.{All-same}
use Rattle.aio_base.specs.declared.steps.Step.{Step}
use Rattle.aio_base.specs.declared.steps.Step.TheVariants as step
use Rattle.aio_base.specs.World.{Registration, World, opening}
use Rattle.aio_base.specs.Runs.{PolledStep, outcome_of, world_of, scripted}
use Rattle.aio_laws.specs.Storings.{storings_of}
use Rattle.aio_laws.specs.Succession.{StoringsFollow}
use Rattle.aio_base.specs.Timers.{AllAbove}
use Rattle.aio_laws.specs.Between.{MakesPass, is_of_timer, StepStands, StandsBetween, StandsAfter}
use Rattle.aio_laws.proofs.steps.Answering.{answer_fits}
use Rattle.aio_laws.proofs.steps.AnswersLeft.{answers_left}
use Rattle.aio_laws.proofs.steps.Calling.{calls_follow}
use Rattle.aio_laws.proofs.timers.Awaiting.{run_waits_for_timers}
use Rattle.aio_laws.proofs.steps.Counting.{counts_rise}
use Rattle.aio_laws.proofs.steps.Drawing.{draws_follow}
use Rattle.aio_laws.proofs.cover.Rearming.{step_leaves_unbroken}
use Rattle.aio_laws.proofs.cover.CoverRuns.{run_covers, run_waits_for_live}
use Rattle.aio_laws.proofs.runs.FirstPolls.{run_polls_in_order}
use Rattle.aio_laws.proofs.runs.GivenOnce.{each_is_given_once}
use Rattle.aio_laws.proofs.storings.Following.{run_follows}
use Rattle.aio_laws.proofs.steps.Marking.{marks_follow}
use Rattle.aio_laws.proofs.steps.Mending.{broken_follows}
use Rattle.aio_laws.proofs.rounds.Noting.{handled_is_noted}
use Rattle.aio_laws.proofs.storings.OnceRuns.{run_once}
use Rattle.aio_laws.proofs.storings.Waking.{wakes_follow}
use Rattle.aio_laws.proofs.steps.Owning.{keeps_its_own}
use Rattle.aio_laws.proofs.timers.PassLemmas.{pass_leaves}
use Rattle.aio_laws.proofs.steps.Readying.{ready_is_told}
use Rattle.aio_laws.proofs.steps.RefusalLemmas.{refusal_leaves}
use Rattle.aio_laws.proofs.timers.Registering.{step_leaves_registered}
use Rattle.aio_laws.proofs.rounds.RoundArms.{round_arming}
use Rattle.aio_laws.proofs.rounds.RoundHands.{hand_follows}
use Rattle.aio_laws.proofs.rounds.RoundSteps.{rounds_follow, clock_is_set}
use Rattle.aio_laws.proofs.steps.Sourcing.{sources_follow}
use Rattle.aio_laws.proofs.steps.Untouched.{others_stand}
use Rattle.aio_laws.proofs.rounds.WaitedOut.{makes_pass, pass_is_made}
use Rattle.aio_laws.proofs.runs.Singles.{run_has_no_doubles, run_registers_timers, step_stands_once}

-- the world after one step more
one_more : (w : World) (before : List PolledStep) (last : PolledStep) → world_of w (before ++ last ∷ []) ≡ (outcome_of (world_of w before) last).world
one_more w [] last = refl
one_more w (first ∷ before) last = one_more (outcome_of w first).world before last

-- a step that makes a pass is not of a timer
pass_is_other : (w : World) (s : Step) → makes_pass w s ≡ true → is_of_timer s ≡ false
pass_is_other w (step.Tick number waker) passes = absurd cc
pass_is_other w (step.SetAt number deadline) passes = absurd cc
pass_is_other w (step.SetEvery number deadline period) passes = absurd cc
pass_is_other w (step.End number) passes = absurd cc
pass_is_other w _ passes = refl

passes_above : (w : World) (s : PolledStep) → MakesPass w s.step → AllAbove w.now (outcome_of w s).world.registrations
passes_above w s passes =
    let left = (step_leaves_registered w s.step s.answers (pass_is_other w s.step (pass_is_made w s.step passes))).pass passes in
    All-same (λ (r : Registration). w.now < r.deadline) _ _ left (pass_leaves w.now w.registrations)

-- each step of the machine stands, from any world and for any answers
pub step_stands : (w : World) (s : PolledStep) → StepStands w s (outcome_of w s)
step_stands w s = record {
  passed = passes_above w s;
  others = step_leaves_registered w s.step s.answers;
  counted = counts_rise w s.step s.answers;
  drawn = draws_follow w s.step s.answers;
  unbroken = step_leaves_unbroken w s.step s.answers;
  rounds = rounds_follow w s.step s.answers;
  hand = hand_follows w s.step s.answers;
  clock = clock_is_set w s.step s.answers;
  noted = handled_is_noted w s.step s.answers;
  alone = others_stand w s.step s.answers;
  marked = marks_follow w s.step s.answers;
  sources = sources_follow w s.step s.answers;
  ready = ready_is_told w s.step s.answers;
  fits = answer_fits w s.step s.answers;
  calls = calls_follow w s.step s.answers;
  left = answers_left w s.step s.answers;
  broken = broken_follows w s.step s.answers;
  rearmed = round_arming w s.step s.answers;
  own = keeps_its_own w s.step s.answers;
  woken = wakes_follow w s;
  once = step_stands_once w s;
  refused = refusal_leaves w s.step s.answers;
}

pub stands_between : (run : List PolledStep) → StandsBetween run
stands_between run = record {
  covered = run_covers run;
  live = run_waits_for_live run;
  once = run_once run;
  distinct = run_has_no_doubles run;
  timed = run_registers_timers run;
  polled = run_polls_in_order run;
  registered = run_waits_for_timers run;
  follows = λ before last is. subst (λ r. StoringsFollow (world_of opening before) last.step last.answers (storings_of opening before) (storings_of opening r)) (sym is) (run_follows before last);
  step = λ before last is. record { leaves = ap (world_of opening) is ∙ one_more opening before last; stands = step_stands (world_of opening before) last };
}

pub stands_after : (steps : List Step) → StandsAfter steps
stands_after steps = record { between = stands_between (scripted opening steps); given = each_is_given_once steps }
