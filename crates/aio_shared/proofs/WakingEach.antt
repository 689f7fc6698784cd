-- The wakes of a list of wakers, one more behind those so far, and the first fault of them.
use Rattle.std.proofs.Common.{rules, ◌≡◌, ℕ, ◌+◌, ◌≤◌, Bool, true≢false, List, [], ◌∷◌, ◌++◌, length, length-append, append_assoc, append-nil, refl, sym, ap, ◌∙◌, subst, le_trans, Option, Some, None, Result, Ok, Err, IsSome, IsErr, IfSome, IfErr, IsTrue, arith}
use Rattle.aio_base.specs.declared.names.Waker.{Waker}
use Rattle.aio_base.specs.declared.outcomes.CountFault.{CountFault}
use Rattle.aio_rules.specs.declared.seats.WordStep.{WordStep}
use Rattle.aio_rules.specs.declared.seats.SeatView.{SeatView}
use Rattle.aio_base.specs.declared.outcomes.Failed.{Failed}
use Rattle.aio_base.specs.Devices.{HasCause, Rose, TellsFaults}
use Rattle.aio_rules.specs.WordCalls.{and_did, Found, wake_steps}
use Rattle.aio_words.specs.Calls.{Offers, TellsCounts, all_wake_steps}
use Rattle.aio_words.specs.Seats.{SeatValue}
use Rattle.aio_shared.specs.Reacting.{Wakes, IsFaultWithin, first_fault}
use Rattle.aio_shared.specs.Waking.{WakesThese}
use Rattle.aio_shared.proofs.InTurn.{tells_behind, tells_none}
use Rattle.aio_shared.proofs.Notifying.{notifies_by_wake, notifies_further}

one_behind : (wakers : List Waker) (parkers : ℕ) (founds : List Found) (found : Found) (w : Waker) → length founds ≡ length wakers
    → all_wake_steps (wakers ++ w ∷ []) parkers (founds ++ found ∷ []) ≡ all_wake_steps wakers parkers founds ++ wake_steps w.0 parkers found
one_behind [] parkers [] found w n = append-nil (wake_steps w.0 parkers found)
one_behind [] parkers (f ∷ fs) found w n = absurd (omega arith)
one_behind (x ∷ xs) parkers [] found w n = absurd (omega arith)
one_behind (x ∷ xs) parkers (f ∷ fs) found w n =
    ap (λ l. wake_steps x.0 parkers f ++ l) (one_behind xs parkers fs found w (omega arith)) ∙ sym (append_assoc (wake_steps x.0 parkers f) (all_wake_steps xs parkers fs) (wake_steps w.0 parkers found))

did_twice : (a b : List WordStep) (v : SeatView) → and_did b (and_did a v) ≡ and_did (a ++ b) v
did_twice a b v = λ i. record v { did = append_assoc v.did a b i }

-- one waker more, behind those woken so far
wakes_behind : (wakers : List Waker) (parkers : ℕ) (w : Waker) (p q r : SeatValue) (found : Found)
    → Wakes parkers wakers p q → r.words ≡ q.words → r.view ≡ and_did (wake_steps w.0 parkers found) q.view → Wakes parkers (wakers ++ w ∷ []) p r
wakes_behind wakers parkers w p q r found x words view = record {
  founds = x.founds ++ found ∷ [];
  each = (let a : length (x.founds ++ found ∷ []) ≡ length x.founds + 1 = length-append x.founds (found ∷ []) in
      let b : length (wakers ++ w ∷ []) ≡ length wakers + 1 = length-append wakers (w ∷ []) in let c = x.each in omega arith);
  seat = (let steps = all_wake_steps wakers parkers x.founds in
      let last = wake_steps w.0 parkers found in
      let v : r.view ≡ and_did (all_wake_steps (wakers ++ w ∷ []) parkers (x.founds ++ found ∷ [])) p.view =
      view ∙ ap (λ (s : SeatValue). and_did last s.view) x.seat ∙ did_twice steps last p.view
      ∙ ap (λ l. and_did l p.view) (sym (one_behind wakers parkers x.founds found w x.each)) in
      let ws : r.words ≡ p.words = words ∙ ap (λ (s : SeatValue). s.words) x.seat in
      λ k. record { words = ws k; view = v k });
}

cause_further : (first : Option CountFault) (woken : Result (Unit {0}) CountFault) (a b c : ℕ) (sure after : Bool) → HasCause a b sure (IsSome first) → after ≡ sure
    → HasCause b c after (IsErr woken) → HasCause a c sure (IsSome (first_fault first woken))
cause_further (Some f) woken a b c sure after x same y = record {
  later = le_trans x.later y.later;
  rose = λ some. let r = x.rose some in let l = y.later in omega arith;
  never = λ s. let n = x.never s in let m = y.never (subst IsTrue (sym same) s) in (n.0, m.1 ∙ n.1);
}
cause_further None (Ok done) a b c sure after x same y = record {
  later = le_trans x.later y.later;
  rose = λ some. absurd (true≢false (sym some));
  never = λ s. let n = x.never s in let m = y.never (subst IsTrue (sym same) s) in (n.0, m.1 ∙ n.1);
}
cause_further None (Err f) a b c sure after x same y = record {
  later = le_trans x.later y.later;
  rose = λ some. let r = y.rose refl in let l = x.later in omega arith;
  never = λ s. let n = x.never s in let m = y.never (subst IsTrue (sym same) s) in (m.0, m.1 ∙ n.1);
}

within_further : (first : Option CountFault) (woken : Result (Unit {0}) CountFault) (a b c : ℕ) (after : Bool) → a ≤ b → IfSome first (IsFaultWithin a b) → HasCause b c after (IsErr woken)
    → IfErr woken (TellsCounts b c) → IfSome (first_fault first woken) (IsFaultWithin a c)
within_further (Some f) woken a b c after ab x y counts = let l = y.later in record { least = x.least; most = le_trans x.most l; rose = x.rose }
within_further None (Ok done) a b c after ab x y counts = tt
within_further None (Err f) a b c after ab x y counts = let before = counts.0 in let then_after = counts.1 in
    record { least = (let e = before in omega arith); most = (let e = then_after in omega arith); rose = subst (λ (k : ℕ × ℕ). Rose k.0 k.1) (λ i. (sym before i, sym then_after i)) (y.rose refl) }

module _ {N : Type 0} (calls faults : N → ℕ) (is_sure : N → Bool) (step : N → Result (Unit {0}) Failed → N → Type 0) (parkers : ℕ) where
  -- nobody was woken yet
  pub woke_none : (p : SeatValue) (n : N) → WakesThese calls faults is_sure step parkers [] p p n n None
  woke_none p n = record { woke = search rules; calls = search rules; faults = search rules; cause = tt; first = tells_none calls faults step parkers p.view n }

  -- one waker more
  pub woke_one_more : (wakers all : List Waker) (w : Waker) (p q r : SeatValue) (n mid later : N) (told next : Option CountFault) (answer : Result (Unit {0}) CountFault)
      → all ≡ wakers ++ w ∷ [] → next ≡ first_fault told answer → WakesThese calls faults is_sure step parkers wakers p q n mid told
      → r.words ≡ q.words → Offers calls step (wake_steps w.0 parkers) q.view r.view mid later answer → TellsFaults faults is_sure mid later (IsErr answer)
      → IfErr answer (TellsCounts (faults mid) (faults later)) → WakesThese calls faults is_sure step parkers all p r n later next
  woke_one_more wakers all w p q r n mid later told next answer is next_is so_far words woke failed counts =
      subst (λ (x : List Waker × Option CountFault). WakesThese calls faults is_sure step parkers x.0 p r n later x.1) (λ i. (sym is i, sym next_is i)) record {
        woke = wakes_behind wakers parkers w p q r woke.found so_far.woke words woke.did;
        calls = notifies_further _ _ _ _ _ _ so_far.calls (notifies_by_wake calls step _ _ _ _ _ _ _ woke);
        faults = record { cause = cause_further told answer _ _ _ _ _ so_far.faults.cause so_far.faults.sure failed.cause; sure = failed.sure ∙ so_far.faults.sure };
        cause = within_further told answer _ _ _ _ so_far.faults.cause.later so_far.cause failed.cause counts;
        first = tells_behind calls faults step parkers wakers w _ _ _ _ _ _ told answer so_far.first (record { woke = woke; counts = counts });
      }

  -- the same of equal numbers, seats, notifiers and faults
  pub wakes_as : (wakers : List Waker) (these : ℕ) (p q last : SeatValue) (n m later : N) (told answer : Option CountFault) → parkers ≡ these → p ≡ q → n ≡ m → told ≡ answer
      → WakesThese calls faults is_sure step parkers wakers p last n later told → WakesThese calls faults is_sure step these wakers q last m later answer
  wakes_as wakers these p q last n m later told answer a b c d wakes =
      subst (λ (x : ℕ × SeatValue × N × Option CountFault). WakesThese calls faults is_sure step x.0 wakers x.1 last x.2 later x.3) (λ i. (a i, b i, c i, d i)) wakes
