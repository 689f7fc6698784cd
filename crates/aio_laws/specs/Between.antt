-- What stands between any two steps of a run.
use Rattle.std.specs.Prelude.{◌≡◌, ◌≢◌, ◌⊎◌, Bool, true, false, List, [], ◌∷◌, ◌++◌, None, Some}
use Rattle.std.specs.List.{All}
use Rattle.aio_base.specs.declared.steps.Step.{Step}
use Rattle.aio_base.specs.declared.steps.Step.TheVariants as step
use Rattle.aio_base.specs.World.{Succeeds, Gives, RoundState, World, opening}
use Rattle.aio_base.specs.Machine.{Outcome}
use Rattle.aio_base.specs.Runs.{PolledStep, answers_of, outcome_of, scripted, wakes_of, world_of}
use Rattle.aio_laws.specs.Storings.{Once, storings_of}
use Rattle.aio_laws.specs.Succession.{StoringsFollow}
use Rattle.aio_laws.specs.Arming.{UnbrokenAsTold}
use Rattle.aio_laws.specs.Covered.{Covered, WaitsForLive}
use Rattle.aio_laws.specs.Clock.{ClockIsSet}
use Rattle.aio_laws.specs.Counts.{CountsRise}
use Rattle.aio_laws.specs.Drawn.{DrawsFollow}
use Rattle.aio_laws.specs.Distinct.{IsOfTimer, NoDoubles, StandsOnce}
use Rattle.aio_laws.specs.FailedArms.{BrokenFollows}
use Rattle.aio_laws.specs.FirstPolls.{InPollOrder}
use Rattle.aio_laws.specs.Given.{EachIsGivenOnce}
use Rattle.aio_laws.specs.Handling.{HandledIsNoted}
use Rattle.aio_laws.specs.Marks.{MarksFollow}
use Rattle.aio_laws.specs.Others.{OthersStand}
use Rattle.aio_laws.specs.Answers.{FitsTheStep}
use Rattle.aio_laws.specs.Calls.{CallsFollow, LeavesOthers}
use Rattle.aio_laws.specs.Readiness.{ReadyIsTold}
use Rattle.aio_laws.specs.Sources.{SourcesFollow}
use Rattle.aio_laws.specs.Own.{KeepsItsOwn}
use Rattle.aio_base.specs.Refusals.{RefusalLeaves}
use Rattle.aio_laws.specs.Registered.{TimersAreRegistered}
use Rattle.aio_laws.specs.RoundArming.{RoundArming}
use Rattle.aio_laws.specs.RoundCounts.{RoundsFollow}
use Rattle.aio_laws.specs.RoundHands.{HandFollows}
use Rattle.aio_laws.specs.Waking.{WakesFollow}
use Rattle.aio_base.specs.Timers.{AllAbove, after_pass}

-- A round is waited out: nothing is in hand, its last wait neither failed nor was interrupted and gave no event, and its limit, if it has one, is not 0.
pub record IsWaitedOut (round : RoundState) : Type 0 where
  pub hand : round.in_hand ≡ []
  pub waited : (round.last_wait ≡ Some (Gives [])) ⊎ (round.last_wait ≡ Some Succeeds)
  pub limit : round.limit ≢ Some 0

-- The steps that make a pass over the registered timers: one that begins a round, a whole round, and a `finish` of a round that is waited out, for
-- timers may have come due meanwhile.
abbrev pub MakesPass : World → Step → Type 0
MakesPass w (step.Begin limit) = (w.round ≡ None)
MakesPass w step.Finish = (round : RoundState) × (w.round ≡ Some round) × IsWaitedOut round
MakesPass w step.React = (w.round ≡ None)
MakesPass w _ = ⊥

-- what a step that is not of a timer leaves registered: where it makes a pass what is not due, and else all
pub record RegistrationsFollow (w : World) (s : Step) (v : World) : Type 0 where
  pub pass : MakesPass w s → v.registrations ≡ after_pass w.now w.registrations
  pub none : (MakesPass w s → ⊥) → v.registrations ≡ w.registrations

-- the steps that register a timer or take its registration out
abbrev pub is_of_timer : Step → Bool
is_of_timer (step.Tick number waker) = true
is_of_timer (step.SetAt number deadline) = true
is_of_timer (step.SetEvery number deadline period) = true
is_of_timer (step.End number) = true
is_of_timer _ = false

-- What stands between a world and the outcome of a step from it, whatever the poller answered. Each field speaks of this step alone, so the
-- entries of a log are judged by it one by one, and a wrong machine breaks it by one step. Of whom the step wakes, who waits after it and whom the
-- running round has taken, `woken` speaks, where nothing stands twice in the world before; `once` hands that on from entry to entry.
pub record StepStands (w : World) (s : PolledStep) (o : Outcome) : Type 0 where
  -- where it made a pass, no timer is registered that was due at it
  pub passed : MakesPass w s.step → AllAbove w.now o.world.registrations
  -- where it is not of a timer, it took out what was due, if it made a pass, and no other registration
  pub others : is_of_timer s.step ≡ false → RegistrationsFollow w s.step o.world
  -- it let no count fall and gave no number again
  pub counted : CountsRise w o.world
  -- it drew a number of a listener or of a timer where it told one, an id where it registered a timer, and noted what it was told to note
  pub drawn : DrawsFollow w s.step o.answer o.world
  -- it left the source that it polled or handled unbroken, where its answer tells of no fault
  pub unbroken : UnbrokenAsTold w s.step s.answers o.answer o.world
  -- it counted a round where it began one, what ran ran on, and it was told so
  pub rounds : RoundsFollow w s.step s.answers o.answer o.world
  -- it moved the hand of the running round as it was told
  pub hand : HandFollows w s.step s.answers o.answer o.world
  -- it moved the clock where it was a `now` that was answered so
  pub clock : ClockIsSet w s.step o.answer o.world
  -- it noted each event that it handled, and nothing else
  pub noted : HandledIsNoted w s.step s.answers o.world
  -- it left the sources, marks, failed arms, listeners and timers of others alone
  pub alone : OthersStand w s.step s.answers o.world
  -- its own mark went where it was told ready, and is of this step where it stored a waker
  pub marked : MarksFollow w s.step o.answer o.world
  -- it added a source where it told a key, the least that was free, and took one out where it told so
  pub sources : SourcesFollow w s.step o.answer o.world
  -- it was told ready exactly where it polled what was ready
  pub ready : ReadyIsTold w s.step o.answer
  -- it was told what fits it, and that it is refused where what it needs was not to be had
  pub fits : FitsTheStep w s.step o.answer
  -- it called the poller as it told, told where one of its calls failed, and what is armed is what it asked for
  pub calls : CallsFollow w s.step s.answers o.answer o.calls o.world
  -- each of its calls took the poller's next answer, and it left all others
  pub left : LeavesOthers o.calls s.answers o.left
  -- its own source is broken where its last arm failed
  pub broken : BrokenFollows w s.step s.answers o.answer o.calls o.world
  -- a whole round armed just the sources whose events left a waiter, and what it left armed and broken is what these arms made of it
  pub rearmed : RoundArming w s.step s.answers o.calls o.world
  -- its own listener and timer are as it says
  pub own : KeepsItsOwn w s.step o.answer o.world
  -- it woke whom it had to, and who waits and whom the running round has taken is as it leaves them, by whatever storings the world before it is of
  pub woken : WakesFollow w s.step s.answers o.wakes o.world
  -- where nothing stood twice and each registration was that of a timer, so it is after it
  pub once : StandsOnce w → StandsOnce o.world
  -- where it was refused, it moved its position alone and woke nobody
  pub refused : RefusalLeaves w o.answer o.wakes o.world

-- the machine's step from a world, which leaves this world
pub record LastStands (w : World) (last : PolledStep) (v : World) : Type 0 where
  pub leaves : v ≡ (outcome_of w last).world
  pub stands : StepStands w last (outcome_of w last)

-- What stands after a run of the machine, whatever the poller answered in it. A run that is cut off after a step is a run, so this stands
-- between any two steps.
pub record StandsBetween (run : List PolledStep) : Type 0 where
  -- each waiter of each live source is covered
  pub covered : Covered (world_of opening run) (answers_of opening run)
  -- whoever waits waits for a live source
  pub live : WaitsForLive (world_of opening run)
  -- no storing of a waker is lost, and none is woken twice
  pub once : Once (world_of opening run) (wakes_of opening run) (storings_of opening run)
  -- nothing stands twice in the lists of the world
  pub distinct : NoDoubles (world_of opening run)
  -- each registration is that of a timer
  pub timed : All (IsOfTimer (world_of opening run).timers) (world_of opening run).registrations
  -- the listeners that were polled stand in the order of their first polls
  pub polled : InPollOrder (world_of opening run)
  -- each timer that waits is registered, or a pass took its registration
  pub registered : TimersAreRegistered (world_of opening run)
  -- the last step moved storings as such a step may
  pub follows : (before : List PolledStep) (last : PolledStep) → run ≡ before ++ last ∷ []
      → StoringsFollow (world_of opening before) last.step last.answers (storings_of opening before) (storings_of opening run)
  -- the last step led from the world before it to that after the run, by an outcome of which all stands that stands of a step
  pub step : (before : List PolledStep) (last : PolledStep) → run ≡ before ++ last ∷ []
      → LastStands (world_of opening before) last (world_of opening run)

-- what stands after these steps of a trace over the poller in memory
pub record StandsAfter (steps : List Step) : Type 0 where
  -- what stands after every run
  pub between : StandsBetween (scripted opening steps)
  -- the poller gave each event that it was told to give once, and in order
  pub given : EachIsGivenOnce steps
