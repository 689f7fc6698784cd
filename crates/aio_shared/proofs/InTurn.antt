-- One waker more is woken behind those that were woken in turn.
use Rattle.std.proofs.Common.{◌≡◌, ℕ, List, [], ◌∷◌, ◌++◌, refl, ap, ◌∙◌, subst, Option, None, Result, Ok, Err}
use Rattle.aio_base.specs.declared.names.Waker.{Waker}
use Rattle.aio_base.specs.declared.outcomes.CountFault.{CountFault}
use Rattle.aio_base.specs.declared.outcomes.Failed.{Failed}
use Rattle.aio_rules.specs.declared.seats.SeatView.{SeatView}
use Rattle.aio_shared.specs.Reacting.{first_fault}
use Rattle.aio_shared.specs.Waking.{TellsFirst, WakesInTurn, WakesOne, fault_among}

among_behind : (answers : List (Result (Unit {0}) CountFault)) (answer : Result (Unit {0}) CountFault) → first_fault (fault_among answers) answer ≡ fault_among (answers ++ answer ∷ [])
among_behind [] (Ok done) = refl
among_behind [] (Err fault) = refl
among_behind (Ok done ∷ answers) answer = among_behind answers answer
among_behind (Err fault ∷ answers) answer = refl

module _ {N : Type 0} (calls faults : N → ℕ) (step : N → Result (Unit {0}) Failed → N → Type 0) (parkers : ℕ) where
  -- nobody was woken yet
  pub tells_none : (view : SeatView) (n : N) → TellsFirst calls faults step parkers [] view view n n None
  tells_none view n = record { answers = []; woke = (refl, refl); first = refl }

  in_turn_behind : (wakers : List Waker) (answers : List (Result (Unit {0}) CountFault)) (waker : Waker) (answer : Result (Unit {0}) CountFault) (view next last : SeatView) (old mid new : N)
      → WakesInTurn calls faults step parkers wakers answers view next old mid → WakesOne calls faults step parkers waker next last mid new answer
      → WakesInTurn calls faults step parkers (wakers ++ waker ∷ []) (answers ++ answer ∷ []) view last old new
  in_turn_behind [] [] waker answer view next last old mid new so_far one =
      (last, new, subst (λ (x : SeatView × N). WakesOne calls faults step parkers waker x.0 last x.1 new answer) (λ i. (so_far.0 i, so_far.1 i)) one, (refl, refl))
  in_turn_behind [] (a ∷ answers) waker answer view next last old mid new so_far one = absurd so_far
  in_turn_behind (w ∷ wakers) [] waker answer view next last old mid new so_far one = absurd so_far
  in_turn_behind (w ∷ wakers) (a ∷ answers) waker answer view next last old mid new (after, between, woke, more) one =
      (after, between, woke, in_turn_behind wakers answers waker answer after next last between mid new more one)

  pub tells_behind : (wakers : List Waker) (waker : Waker) (view next last : SeatView) (old mid new : N) (told : Option CountFault) (answer : Result (Unit {0}) CountFault)
      → TellsFirst calls faults step parkers wakers view next old mid told → WakesOne calls faults step parkers waker next last mid new answer
      → TellsFirst calls faults step parkers (wakers ++ waker ∷ []) view last old new (first_fault told answer)
  tells_behind wakers waker view next last old mid new told answer so_far one = record {
    answers = so_far.answers ++ answer ∷ [];
    woke = in_turn_behind wakers so_far.answers waker answer view next last old mid new so_far.woke one;
    first = ap (λ t. first_fault t answer) so_far.first ∙ among_behind so_far.answers answer;
  }
