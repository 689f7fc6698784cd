-- One event after another is handled, until none is in hand.
use Rattle.std.proofs.Common.{◌≡◌, ℕ, List, [], ◌∷◌, ◌++◌, map, drop, slice_get, Option, None, Some, option_map, refl, sym, ap, ◌∙◌, subst, append-nil}
use Rattle.aio_base.specs.declared.names.Event.{Event}
use Rattle.aio_base.specs.declared.names.Key.{Key}
use Rattle.aio_base.specs.declared.outcomes.Which.{Which}
use Rattle.aio_base.specs.declared.steps.Answer.{Answer}
use Rattle.aio_base.specs.declared.steps.Answer.TheVariants as replies
use Rattle.aio_base.specs.declared.steps.Step.{Step}
use Rattle.aio_base.specs.declared.steps.Step.TheVariants as step
use Rattle.aio_base.specs.Devices.{Interests, PollerMove}
use Rattle.aio_base.specs.Machine.{Outcome, handle_each, handle_round, step_result}
use Rattle.aio_base.specs.Moves.{answer_of}
use Rattle.aio_base.specs.World.{PollerAnswer, World}
use Rattle.aio_react.specs.Cores.{CoreValue}
use Rattle.aio_react.specs.Meeting.{Meets, kind_of}
use Rattle.aio_react.specs.Parts.{ComesWithin, MeetsPart}
use Rattle.aio_react.specs.Reacting.{Handles}
use Rattle.aio_react.specs.Standing.{Stands}
use Rattle.aio_react.proofs.steps.PartRows.{runs_both, waits_both, answers_both, mapped_both}
use Rattle.aio_react.proofs.steps.PartMeets.{quiet_part}

-- ## As parts of one step

-- the events in hand are handled, and then none is
abbrev pub HandlesRest : {P : Type 0} → (P → PollerMove → P → Type 0) → (P → Option Interests) → P × CoreValue → P × CoreValue → Type 0
HandlesRest poller_step tells old last = (limit : Option ℕ) → MeetsPart poller_step tells (handle_each old.1.round.hand) None replies.Empty [] limit old last

-- the first event, and those behind it, where the handling of the first gave this
rest_handled : (bound : ℕ) (w : World) (first : Outcome) (events : List Event) (answer : Answer) (one rest : List PollerMove) (later : List PollerAnswer) (told told' : Option Interests)
    (mid core : CoreValue) → ComesWithin bound w first answer [] one (map answer_of rest ++ later) told mid
    → ComesWithin bound first.world (handle_each events first.world (map answer_of rest ++ later)) replies.Empty [] rest later told' core
    → (let o = handle_each events first.world first.left in ComesWithin bound w (record o { calls = first.calls ++ o.calls }) replies.Empty [] (one ++ rest) later told' core)
rest_handled bound w first events answer one rest later told told' mid core a b =
    subst (λ (left : List PollerAnswer). let o = handle_each events first.world left in ComesWithin bound w (record o { calls = first.calls ++ o.calls }) replies.Empty [] (one ++ rest) later told' core)
    (sym a.left_are)
    (record {
      answer_is = b.answer_is;
      wakes_are = b.wakes_are;
      calls_are = ap (λ (kinds : List Which). kinds ++ (handle_each events first.world (map answer_of rest ++ later)).calls) a.calls_are
          ∙ ap (λ (kinds : List Which). map kind_of one ++ kinds) b.calls_are ∙ sym (mapped_both kind_of one rest);
      left_are = b.left_are;
      moment_is = b.moment_is ∙ a.moment_is;
      position_is = b.position_is ∙ a.position_is;
      stands = b.stands;
    })

both_handled : {P : Type 0} (poller_step : P → PollerMove → P → Type 0) (tells : P → Option Interests) (event : Event) (events : List Event) (answer : Answer) (limit : Option ℕ)
    (old mid new : P × CoreValue) → MeetsPart poller_step tells handle_round None answer [] limit old mid → MeetsPart poller_step tells (handle_each events) None replies.Empty [] limit mid new
    → MeetsPart poller_step tells (handle_each (event ∷ events)) None replies.Empty [] limit old new
both_handled {P = P} poller_step tells event events answer limit old mid new a b = record {
  moves = a.moves ++ b.moves;
  run = runs_both poller_step a.moves b.moves old.0 mid.0 new.0 a.run b.run;
  waits = waits_both limit a.moves b.moves a.waits b.waits;
  comes = λ bound w later stands now.
      subst (λ (answers : List PollerAnswer). ComesWithin bound w (handle_each (event ∷ events) w answers) replies.Empty [] (a.moves ++ b.moves) later (tells new.0) new.1)
      (sym (answers_both a.moves b.moves later))
      (let first = handle_round w (map answer_of a.moves ++ (map answer_of b.moves ++ later)) in
      let one = a.comes bound w (map answer_of b.moves ++ later) stands tt in
      rest_handled bound w first events answer a.moves b.moves later (tells mid.0) (tells new.0) mid.1 new.1 one (b.comes bound first.world later one.stands tt));
}

first_event : (hand : List Event) (key : Key) → option_map (λ (event : Event). event.key) (slice_get hand 0) ≡ Some key → (event : Event) × (hand ≡ event ∷ drop 1 hand)
first_event [] key is = absurd (cc)
first_event (event ∷ hand) key is = (event, refl)

-- one more event is handled first
pub rest_before : {P : Type 0} (poller_step : P → PollerMove → P → Type 0) (tells : P → Option Interests) (answer : Answer) (key : Key) (old mid last : P × CoreValue)
    → option_map (λ (event : Event). event.key) (slice_get old.1.round.hand 0) ≡ Some key → mid.1.round.hand ≡ drop 1 old.1.round.hand
    → ((limit : Option ℕ) → MeetsPart poller_step tells handle_round None answer [] limit old mid) → HandlesRest poller_step tells mid last → HandlesRest poller_step tells old last
rest_before {P = P} poller_step tells answer key old mid last some left one rest limit =
    let first = first_event old.1.round.hand key some in
    subst (λ (hand : List Event). MeetsPart poller_step tells (handle_each hand) None replies.Empty [] limit old last) (sym (first.1 ∙ ap (λ (events : List Event). first.0 ∷ events) (sym left)))
    (both_handled poller_step tells first.0 mid.1.round.hand answer limit old mid last (one limit) (rest limit))

-- none is left
pub rest_none : {P : Type 0} (poller_step : P → PollerMove → P → Type 0) (tells : P → Option Interests) (old : P × CoreValue) → old.1.round.hand ≡ [] → HandlesRest poller_step tells old old
rest_none {P = P} poller_step tells old none limit =
    subst (λ (hand : List Event). MeetsPart poller_step tells (handle_each hand) None replies.Empty [] limit old old) (sym none)
    (quiet_part poller_step tells (handle_each []) None replies.Empty limit old.0 old.1 (λ bound w later stands. refl))

-- ## As steps

-- what a step left where the poller is asked no more
pub steps_stand : {P : Type 0} (poller_step : P → PollerMove → P → Type 0) (tells : P → Option Interests) (s : Step) (answer : Answer) (limit : Option ℕ) (old new : P × CoreValue)
    (m : Meets poller_step tells s None answer [] limit old new) (w : World) → Stands (tells old.0) old.1 w → Stands (tells new.0) new.1 (step_result w s (map answer_of m.moves)).world
steps_stand {P = P} poller_step tells s answer limit old new m w stands =
    subst (λ (answers : List PollerAnswer). Stands (tells new.0) new.1 (step_result w s answers).world) (append-nil (map answer_of m.moves)) (m.comes w [] stands tt).stands

pub handles_none : {P : Type 0} (poller_step : P → PollerMove → P → Type 0) (tells : P → Option Interests) (old : P × CoreValue) → Handles poller_step tells old old
handles_none {P = P} poller_step tells old = record { handled = []; did = λ now. refl; stands = λ w stands. stands }

pub handles_before : {P : Type 0} (poller_step : P → PollerMove → P → Type 0) (tells : P → Option Interests) (answer : Answer) (old mid new : P × CoreValue)
    → Meets poller_step tells step.Handle None answer [] None old mid → Handles poller_step tells mid new → Handles poller_step tells old new
handles_before {P = P} poller_step tells answer old mid new one rest = record {
  handled = map answer_of one.moves ∷ rest.handled;
  did = λ now. (mid, record { answer = answer; meets = one; answers_are = refl }, rest.did now);
  stands = λ w stands. rest.stands (step_result w step.Handle (map answer_of one.moves)).world (steps_stand poller_step tells step.Handle answer None old mid one w stands);
}
