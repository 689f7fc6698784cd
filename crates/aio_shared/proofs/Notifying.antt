-- Calls of a notifier that follow one another are counted together.
use Rattle.std.proofs.Common.{◌≡◌, ℕ, zero, suc, ◌+◌, ◌/◌, ◌%◌, ◌==◌, Bool, true, false, if◌then◌else◌, List, [], ◌∷◌, ◌++◌, ◌||◌, length, append_assoc, append-nil, refl, sym, ap, ◌∙◌, Result, arith}
use Rattle.std.specs.Fn.{iterate}
use Rattle.std.specs.Prelude.{nat_lt}
use Rattle.aio_base.specs.declared.outcomes.CountFault.{CountFault}
use Rattle.aio_base.specs.declared.outcomes.Failed.{Failed}
use Rattle.aio_base.specs.Devices.{raised}
use Rattle.aio_rules.specs.declared.seats.SeatView.{SeatView}
use Rattle.aio_rules.specs.declared.seats.WordStep.{WordStep}
use Rattle.aio_rules.specs.declared.seats.WordStep.TheVariants as word_step
use Rattle.aio_rules.specs.SharedLock.{one_if}
use Rattle.aio_rules.specs.WordCalls.{Found, count_of, is_won, wake_steps, wins}
use Rattle.aio_rules.proofs.WordCounts.{count-append}
use Rattle.aio_words.specs.Calls.{Called, Offers}
use Rattle.aio_shared.specs.Notifying.{NotifiesAsWon}

-- ## The steps of one wake

-- so many of these steps won `notified` as calls of the notifier were owed: none, or one
abbrev WinsOnce : List WordStep → Type 0
WinsOnce steps = count_of is_won steps ≡ one_if (wins steps)

where_made : (made : Bool) (steps : List WordStep) → WinsOnce steps → WinsOnce (if made then steps else [])
where_made true steps once = once
where_made false steps once = refl

exchange_wins : (found : ℕ) → WinsOnce (word_step.ExchangeNotified found ∷ [])
exchange_wins found = by_answer (found == 0)
  where
    by_answer : (won : Bool) → length (if won then word_step.ExchangeNotified found ∷ [] else []) ≡ one_if (won || false)
    by_answer true = refl
    by_answer false = refl

wake_wins : (waker parkers : ℕ) (f : Found) → WinsOnce (wake_steps waker parkers f)
wake_wins waker parkers f =
    let parker = waker / 64 in
    let exchange : List WordStep = word_step.ExchangeNotified f.in_notified ∷ [] in
    let look : List WordStep = word_step.LoadBlocked parker f.in_blocked ∷ (if f.in_blocked == 1 then exchange else []) in
    let wake : List WordStep = word_step.SetBit parker (waker % 64) f.in_mask ∷ (if f.in_mask == 0 then look else []) in
    where_made (nat_lt parker parkers) wake (where_made (f.in_mask == 0) look (where_made (f.in_blocked == 1) exchange (exchange_wins f.in_notified)))

-- ## One call after another

rises_further : (m n count : ℕ) → iterate raised n (iterate raised m count) ≡ iterate raised (m + n) count
rises_further zero n count = let none : n ≡ 0 + n = omega arith in ap (λ k. iterate raised k count) none
rises_further (suc m) n count = let one : suc (m + n) ≡ suc m + n = omega arith in rises_further m n (raised count) ∙ ap (λ k. iterate raised k count) one

-- a seat that stood still called nobody
pub notifies_nobody : (v : SeatView) (count : ℕ) → NotifiesAsWon v v count count
notifies_nobody v count = record { made = []; view = sym (append-nil v.did); count = refl }

pub notifies_further : (u v w : SeatView) (a b c : ℕ) → NotifiesAsWon u v a b → NotifiesAsWon v w b c → NotifiesAsWon u w a c
notifies_further u v w a b c first second =
    let won = count_of is_won first.made in
    let more = count_of is_won second.made in
    let all : won + more ≡ count_of is_won (first.made ++ second.made) = sym (count-append is_won first.made second.made) in
    record {
      made = first.made ++ second.made;
      view = second.view ∙ ap (λ did. did ++ second.made) first.view ∙ append_assoc u.did first.made second.made;
      count = second.count ∙ ap (iterate raised more) first.count ∙ rises_further won more a ∙ ap (λ n. iterate raised n a) all;
    }

module _ {N : Type 0} (calls : N → ℕ) (step : N → Result (Unit {0}) Failed → N → Type 0) (old new : N) (answer : Result (Unit {0}) CountFault) where
  called_where : (won : Bool) → Called calls step won old new answer → calls new ≡ iterate raised (one_if won) (calls old)
  called_where true one = one.1
  called_where false none = ap calls none.0

  pub notifies_by_wake : (waker parkers : ℕ) (v w : SeatView) → Offers calls step (wake_steps waker parkers) v w old new answer → NotifiesAsWon v w (calls old) (calls new)
  notifies_by_wake waker parkers v w offer =
      let steps = wake_steps waker parkers offer.found in
      let once : one_if (wins steps) ≡ count_of is_won steps = sym (wake_wins waker parkers offer.found) in
      record {
        made = steps;
        view = ap (λ (s : SeatView). s.did) offer.did;
        count = called_where (wins steps) offer.called ∙ ap (λ n. iterate raised n (calls old)) once;
      }
