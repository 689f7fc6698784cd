-- A round of a core that want of memory stopped: its sections had just the answers of their own calls.
use Rattle.std.proofs.Common.{◌≡◌, ℕ, List, [], ◌∷◌, ◌++◌, length, map, Option, None, refl, ap, ◌∙◌, sym, subst, append-nil}
use Rattle.std.specs.List.{All}
use Rattle.std.proofs.lemmas.List.{length-map}
use Rattle.std.proofs.lemmas.List.Elements.{All-nil, All-cons}
use Rattle.aio_base.specs.declared.outcomes.Which.{Which}
use Rattle.aio_base.specs.declared.outcomes.Which.TheVariants as which
use Rattle.aio_base.specs.declared.steps.Step.TheVariants as step
use Rattle.aio_base.specs.Devices.{PollerMove, Interests, RunOf}
use Rattle.aio_base.specs.Machine.{next_answer, later_answers, step_result}
use Rattle.aio_base.specs.Moves.{answer_of}
use Rattle.aio_base.specs.Runs.{PolledStep, outcome_of, world_of}
use Rattle.aio_base.specs.World.{PollerAnswer, RoundState, World}
use Rattle.aio_laws.specs.Resuming.{AnswersEachCall, IsHandling}
use Rattle.aio_laws.proofs.rounds.RoundLemmas.{round_state_begun}
use Rattle.aio_laws.proofs.steps.Calling.{answered_calls}
use Rattle.aio_react.specs.Cores.{CoreValue}
use Rattle.aio_react.specs.Meeting.{IsAt, kind_of}
use Rattle.aio_react.specs.Reacting.{Section, Stopped, handles_done, moment_in}
use Rattle.aio_react.specs.Standing.{Stands}
use Rattle.aio_sound.specs.Stopping.{StoppedFrom}

-- a section had an answer for each of its calls, and the core stands for the world that it leaves
record Counted (told : Option Interests) (core : CoreValue) (w : World) (s : PolledStep) : Type 0 where
  count : length s.answers ≡ length (outcome_of w s).calls
  stands : Stands told core (outcome_of w s).world

section_counts : {P : Type 0} (poller_step : P → PollerMove → P → Type 0) (tells : P → Option Interests) (now : ℕ) (old new : P × CoreValue) (s : PolledStep)
    (w : World) → Section poller_step tells now old s new → Stands (tells old.0) old.1 w → IsAt (moment_in s.step now) w → Counted (tells new.0) new.1 w s
section_counts poller_step tells now old new s w section stands at =
    let moves = section.meets.moves in
    let came = section.meets.comes w [] stands at in
    let own : map answer_of moves ++ [] ≡ s.answers = append-nil (map answer_of moves) ∙ sym section.answers_are in
    let calls : (outcome_of w s).calls ≡ map kind_of moves =
    subst (λ (answers : List PollerAnswer). (step_result w s.step answers).calls ≡ map kind_of moves) own came.calls_are in
    record {
      count = ap (λ (answers : List PollerAnswer). length answers) section.answers_are ∙ length-map moves answer_of ∙ sym (length-map moves kind_of)
          ∙ ap (λ (made : List Which). length made) (sym calls);
      stands = subst (λ (answers : List PollerAnswer). Stands (tells new.0) new.1 (step_result w s.step answers).world) own came.stands;
    }

handles_count : {P : Type 0} (poller_step : P → PollerMove → P → Type 0) (tells : P → Option Interests) (now : ℕ) (handled : List (List PollerAnswer))
    (old new : P × CoreValue) (w : World) → RunOf (Section poller_step tells now) old (handles_done handled) new → Stands (tells old.0) old.1 w
    → AnswersEachCall w (handles_done handled)
handles_count poller_step tells now [] old new w run stands = tt
handles_count poller_step tells now (answers ∷ handled) old new w run stands =
    let one = section_counts poller_step tells now old run.0 (record { step = step.Handle; answers = answers }) w run.1 stands tt in
    (one.count, handles_count poller_step tells now handled run.0 new (outcome_of w (record { step = step.Handle; answers = answers })).world run.2 one.stands)

all_handle : (handled : List (List PollerAnswer)) → All IsHandling (handles_done handled)
all_handle [] = All-nil IsHandling
all_handle (answers ∷ handled) = All-cons IsHandling (record { step = step.Handle; answers = answers }) (handles_done handled) refl (all_handle handled)

abbrev begins : Option ℕ → PolledStep
begins given = record { step = step.Begin given; answers = [] }

abbrev waits : List PollerAnswer → PolledStep
waits answers = record { step = step.Wait; answers = answers }

abbrev WaitsOnce : Option ℕ → List PollerAnswer → World → Type 0
WaitsOnce given answers w = (outcome_of (outcome_of w (begins given)).world (waits answers)).calls ≡ which.Wait ∷ []

begun_waits_once : (v : World) (given : Option ℕ) (answers : List PollerAnswer) → WaitsOnce given answers (record v { round = None })
unfolding step_result
begun_waits_once v given answers =
    answered_calls (outcome_of (record v { round = None }) (begins given)).world (round_state_begun v given) (next_answer answers) (later_answers answers)

-- so it has one answer
one_answer : (answers : List PollerAnswer) → length answers ≡ 1 → (told : PollerAnswer) × (answers ≡ told ∷ [])
one_answer [] count = absurd cc
one_answer (told ∷ []) count = (told, refl)
one_answer (told ∷ more ∷ answers) count = absurd cc

pub stopped_from : {P : Type 0} (poller_step : P → PollerMove → P → Type 0) (tells : P → Option Interests) (given : Option ℕ) (now : ℕ)
    (old new : P × CoreValue) (w : World) → Stopped poller_step tells given now old new → Stands (tells old.0) old.1 w → w.now ≡ now → w.round ≡ None
    → StoppedFrom w given (tells new.0) new.1
stopped_from poller_step tells given now old new w stopped stands at idle =
    let first = section_counts poller_step tells now old stopped.did.0 (begins given) w stopped.did.1 stands at in
    let begun = (outcome_of w (begins given)).world in
    let second = section_counts poller_step tells now stopped.did.0 stopped.did.2.0 (waits stopped.waited) begun stopped.did.2.1 first.stands tt in
    let waited = (outcome_of begun (waits stopped.waited)).world in
    let later = handles_count poller_step tells now stopped.handled stopped.did.2.0 new waited stopped.did.2.2 second.stands in
    let none : w ≡ record w { round = None } = ap (λ (round : Option RoundState). let v : World = record w { round = round } in v) idle in
    let once = subst (WaitsOnce given stopped.waited) (sym none) (begun_waits_once w given stopped.waited) in
    let one = one_answer stopped.waited (second.count ∙ ap (λ (calls : List Which). length calls) once) in
    let told = one.0 in
    let run : List PollerAnswer → List PolledStep = λ answers. begins given ∷ waits answers ∷ handles_done stopped.handled in
    record {
      waited = told;
      handled = stopped.handled;
      handles = all_handle stopped.handled;
      each = subst (λ (answers : List PollerAnswer). AnswersEachCall w (run answers)) one.1 (first.count, (second.count, later));
      stands = subst (λ (answers : List PollerAnswer). Stands (tells new.0) new.1 (world_of w (run answers))) one.1 (stopped.stands w stands at);
    }
