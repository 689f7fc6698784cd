-- Lemmas on steps and turns, by what their calls answered.
use Rattle.std.proofs.Common.{◌≡◌, ℕ, ◌+◌, ◌<◌, ◌≤◌, Bool, true, false, List, [], length, take, refl, sym, ap, ◌∙◌, subst, arith, inl, inr, Option, None, Some, Result, Ok, Err}
use Rattle.std.specs.Prelude.{◌⊎◌, ◌||◌, nat_lt, IfSome, IfErr}
use Rattle.std.proofs.lemmas.Bool.{true≢false}
use Rattle.aio_base.specs.Connections.{Telling, WriteTells}
use Rattle.aio_base.specs.declared.names.Waker.{Waker}
use Rattle.aio_base.specs.declared.outcomes.CountFault.{CountFault}
use Rattle.aio_base.specs.declared.outcomes.Poll.TheVariants.{Ready, Pending}
use Rattle.aio_future.specs.Tries.{FaultsWithin, MovesWithin, IsReadAnswer, IsWriteAnswer, bytes_over, fault_counts}
use Rattle.aio_pairs.specs.Backlogs.{SideState, TakesUp, shrunk}
use Rattle.aio_pairs.specs.Calls.{EndCall, Reads, Writes, RoseIn}
use Rattle.aio_pairs.specs.Exchanges.{BothGoOn, GoesOn, IsLongAt, IsLongHere, IsLongThere, IsOver, IsReason, OneFailed, after_read, after_write, notify_fault_in, stop_in, tries_again, try_fault_in, woken_as}
use Rattle.aio_pairs.specs.Fits.{of_side}
use Rattle.aio_pairs.specs.Lines.{lines}
use Rattle.aio_pairs.specs.declared.outcomes.EndTried.{EndTried}
use Rattle.aio_pairs.specs.declared.outcomes.PairEnd.{PairEnd}
use Rattle.aio_pairs.specs.declared.outcomes.PairEnd.TheVariants as pair
use Rattle.aio_pairs.specs.declared.outcomes.Side.{Side}
use Rattle.aio_pairs.specs.declared.outcomes.Side.TheVariants.{A, B}
use Rattle.aio_pairs.specs.declared.outcomes.Tally.{Tally}
use Rattle.aio_pairs.proofs.ExchangeLemmas.{reads-go-on, writes-go-on, turned}
use Rattle.aio_relay.proofs.StepLemmas.{read-over, read-failure, read-notifies-none, write-over, write-failure, write-notifies-none, tries-within, reason-on}

module _ {E H : Type 0} (step : E → EndCall → E → Type 0) (told : E → Telling) (sure : E → Bool) (count : E → ℕ) (on_host : H → EndCall → H → Type 0) where
  -- ## Steps

  -- a read, whatever the step makes of its answer
  read-goes : (host new_host : H) (from to new_from : E) (side new_side : SideState) (tally new_tally : Tally) (room : ℕ) (w : Waker) (tried : EndTried) (more : Bool) (stop : Option PairEnd)
      → lines side.backlog ≡ [] → side.ended ≡ false → (taken : TakesUp step told from new_from side new_side room w tried)
      → on_host host (Reads room w tried taken.bytes) new_host
      → FaultsWithin (count from) (count new_from) (sure from) (sure new_from) (fault_counts tried.answer)
      → new_tally ≡ record { read = tally.read + bytes_over tried.answer; wrote = tally.wrote }
      → (more ≡ false → (bytes_over tried.answer ≡ 0) × ((tried.answer ≡ Ready (Ok 0)) ⊎ (tried.answer ≡ Pending)))
      → IfSome (try_fault_in stop) (λ f. (tried.answer ≡ Ready (Err f)) × IsReadAnswer (Ready (Err f))) → tried.woken ≡ woken_as (notify_fault_in stop)
      → GoesOn step told sure count on_host host new_host from to new_from to side new_side tally new_tally more stop
  read-goes host new_host from to new_from side new_side tally new_tally room w tried more stop none not_ended taken called faults counted over failed woken =
      subst (λ (t : Tally). GoesOn step told sure count on_host host new_host from to new_from to side new_side tally t more stop) (sym counted)
      (reads-go-on step told sure count on_host host new_host from to new_from side new_side tally room w tried more stop none not_ended taken called faults over failed woken)

  pub read-passes : (here : Side) (host new_host : H) (from to new_from : E) (side new_side : SideState) (tally new_tally : Tally) (room : ℕ) (w : Waker) (tried : EndTried)
      (result : Result Bool PairEnd)
      → lines side.backlog ≡ [] → side.ended ≡ false → (taken : TakesUp step told from new_from side new_side room w tried)
      → on_host host (Reads room w tried taken.bytes) new_host
      → FaultsWithin (count from) (count new_from) (sure from) (sure new_from) (fault_counts tried.answer) → IsReadAnswer tried.answer
      → new_tally ≡ record { read = tally.read + bytes_over tried.answer; wrote = tally.wrote } → tried.woken ≡ Ok tt → result ≡ after_read here new_side tried.answer
      → GoesOn step told sure count on_host host new_host from to new_from to side new_side tally new_tally (tries_again result) (stop_in result)
  read-passes here host new_host from to new_from side new_side tally new_tally room w tried result none not_ended taken called faults kind counted woken is =
      let answers = after_read here new_side tried.answer in
      subst (λ (r : Result Bool PairEnd). GoesOn step told sure count on_host host new_host from to new_from to side new_side tally new_tally (tries_again r) (stop_in r)) (sym is)
      (read-goes host new_host from to new_from side new_side tally new_tally room w tried (tries_again answers) (stop_in answers)
      none not_ended taken called faults counted (read-over here new_side tried.answer) (read-failure here new_side tried.answer kind)
      (woken ∙ ap woken_as (sym (read-notifies-none here new_side tried.answer))))

  -- the same where the wake of the replaced waker failed
  pub read-stops : (f : CountFault) (host new_host : H) (from to new_from : E) (side new_side : SideState) (tally new_tally : Tally) (room : ℕ) (w : Waker) (tried : EndTried)
      → lines side.backlog ≡ [] → side.ended ≡ false → (taken : TakesUp step told from new_from side new_side room w tried)
      → on_host host (Reads room w tried taken.bytes) new_host
      → FaultsWithin (count from) (count new_from) (sure from) (sure new_from) (fault_counts tried.answer)
      → new_tally ≡ record { read = tally.read + bytes_over tried.answer; wrote = tally.wrote } → tried.woken ≡ Err f
      → GoesOn step told sure count on_host host new_host from to new_from to side new_side tally new_tally true (Some (pair.NotifyFault f))
  read-stops f host new_host from to new_from side new_side tally new_tally room w tried none not_ended taken called faults counted woken =
      read-goes host new_host from to new_from side new_side tally new_tally room w tried true (Some (pair.NotifyFault f)) none not_ended taken called faults counted
      (λ over. absurd (true≢false over)) tt woken

  -- a write of the lines, likewise
  write-goes : (host new_host : H) (from to new_to : E) (side new_side : SideState) (tally new_tally : Tally) (piece : List ℕ) (n : ℕ) (w : Waker) (tried : EndTried)
      (more : Bool) (stop : Option PairEnd)
      → 0 < length (lines side.backlog) → piece ≡ lines side.backlog → n ≡ bytes_over tried.answer
      → MovesWithin (length piece) tried.answer → step to (Writes piece w tried) new_to → on_host host (Writes piece w tried) new_host
      → WriteTells (told to) (told new_to) (take (bytes_over tried.answer) piece) (tried.answer ≡ Pending)
      → FaultsWithin (count to) (count new_to) (sure to) (sure new_to) (fault_counts tried.answer)
      → new_side ≡ shrunk side n → new_tally ≡ record { read = tally.read; wrote = tally.wrote || nat_lt 0 n }
      → (more ≡ false → (bytes_over tried.answer ≡ 0) × (tried.answer ≡ Pending))
      → IfSome (try_fault_in stop) (λ f. (tried.answer ≡ Ready (Err f)) × IsWriteAnswer (Ready (Err f))) → tried.woken ≡ woken_as (notify_fault_in stop)
      → GoesOn step told sure count on_host host new_host from to from new_to side new_side tally new_tally more stop
  write-goes host new_host from to new_to side new_side tally new_tally piece n w tried more stop some is counted within call called tells faults shrinks tallied over failed woken =
      let m = bytes_over tried.answer in
      let fits : m ≤ length (lines side.backlog) = subst (λ (l : List ℕ). m ≤ length l) is (tries-within (length piece) tried.answer within) in
      let same_call = subst (λ (l : List ℕ). step to (Writes l w tried) new_to) is call in
      let same_called = subst (λ (l : List ℕ). on_host host (Writes l w tried) new_host) is called in
      let same_told = subst (λ (l : List ℕ). WriteTells (told to) (told new_to) (take m l) (tried.answer ≡ Pending)) is tells in
      let side_is : new_side ≡ shrunk side m = shrinks ∙ ap (shrunk side) counted in
      let tally_is : new_tally ≡ record { read = tally.read; wrote = tally.wrote || nat_lt 0 m } = tallied ∙ ap (λ k. record { read = tally.read; wrote = tally.wrote || nat_lt 0 k }) counted in
      subst (λ (s : SideState). GoesOn step told sure count on_host host new_host from to from new_to side s tally new_tally more stop) (sym side_is)
      (subst (λ (t : Tally). GoesOn step told sure count on_host host new_host from to from new_to side (shrunk side m) tally t more stop) (sym tally_is)
      (writes-go-on step told sure count on_host host new_host from to new_to side tally w tried more stop some fits same_call same_called same_told faults over failed woken))

  pub write-passes : (host new_host : H) (from to new_to : E) (side new_side : SideState) (tally new_tally : Tally) (piece : List ℕ) (n : ℕ) (w : Waker) (tried : EndTried)
      (result : Result Bool PairEnd)
      → 0 < length (lines side.backlog) → piece ≡ lines side.backlog → n ≡ bytes_over tried.answer
      → MovesWithin (length piece) tried.answer → step to (Writes piece w tried) new_to → on_host host (Writes piece w tried) new_host
      → WriteTells (told to) (told new_to) (take (bytes_over tried.answer) piece) (tried.answer ≡ Pending)
      → FaultsWithin (count to) (count new_to) (sure to) (sure new_to) (fault_counts tried.answer) → IsWriteAnswer tried.answer
      → new_side ≡ shrunk side n → new_tally ≡ record { read = tally.read; wrote = tally.wrote || nat_lt 0 n } → tried.woken ≡ Ok tt → result ≡ after_write tried.answer
      → GoesOn step told sure count on_host host new_host from to from new_to side new_side tally new_tally (tries_again result) (stop_in result)
  write-passes host new_host from to new_to side new_side tally new_tally piece n w tried result some is counted within call called tells faults kind shrinks tallied woken answers =
      let stop = stop_in (after_write tried.answer) in
      subst (λ (r : Result Bool PairEnd). GoesOn step told sure count on_host host new_host from to from new_to side new_side tally new_tally (tries_again r) (stop_in r)) (sym answers)
      (write-goes host new_host from to new_to side new_side tally new_tally piece n w tried (tries_again (after_write tried.answer)) stop
      some is counted within call called tells faults shrinks tallied (write-over tried.answer) (write-failure tried.answer kind)
      (woken ∙ ap woken_as (sym (write-notifies-none tried.answer))))

  pub write-stops : (f : CountFault) (host new_host : H) (from to new_to : E) (side new_side : SideState) (tally new_tally : Tally) (piece : List ℕ) (n : ℕ) (w : Waker) (tried : EndTried)
      → 0 < length (lines side.backlog) → piece ≡ lines side.backlog → n ≡ bytes_over tried.answer
      → MovesWithin (length piece) tried.answer → step to (Writes piece w tried) new_to → on_host host (Writes piece w tried) new_host
      → WriteTells (told to) (told new_to) (take (bytes_over tried.answer) piece) (tried.answer ≡ Pending)
      → FaultsWithin (count to) (count new_to) (sure to) (sure new_to) (fault_counts tried.answer)
      → new_side ≡ shrunk side n → new_tally ≡ record { read = tally.read; wrote = tally.wrote || nat_lt 0 n } → tried.woken ≡ Err f
      → GoesOn step told sure count on_host host new_host from to from new_to side new_side tally new_tally true (Some (pair.NotifyFault f))
  write-stops f host new_host from to new_to side new_side tally new_tally piece n w tried some is counted within call called tells faults shrinks tallied woken =
      write-goes host new_host from to new_to side new_side tally new_tally piece n w tried true (Some (pair.NotifyFault f)) some is counted within call called tells faults shrinks tallied
      (λ over. absurd (true≢false over)) tt woken

  -- ## Turns

  -- one step alone, after which the pair ended
  pub one-step : {over : Type 0} (host new_host : H) (a b new_a new_b : E) (from_a from_b new_from_a : SideState) (tally_a tally_b new_tally_a : Tally) (more : Bool) (stop : Option PairEnd)
      → GoesOn step told sure count on_host host new_host a b new_a new_b from_a new_from_a tally_a new_tally_a more stop → ¬ over
      → BothGoOn step told sure count on_host host new_host a b new_a new_b from_a from_b new_from_a from_b tally_a tally_b new_tally_a tally_b over stop
  one-step host new_host a b new_a new_b from_a from_b new_from_a tally_a tally_b new_tally_a more stop goes not_over host_old a_old b_old from_a_old from_b_old more_a more_b x = record {
    more_a = more;
    more_b = more_b;
    exchange = goes host_old a_old b_old from_a_old from_b_old from_b tally_b more_a more_b x;
    is_over = λ over. absurd (not_over over);
  }

  pub both-steps : {over : Type 0} (host mid_host new_host : H) (a b mid_a mid_b new_a new_b : E) (from_a from_b new_from_a new_from_b : SideState) (tally_a tally_b new_tally_a new_tally_b : Tally)
      (next_a next_b : Bool) (stop : Option PairEnd)
      → GoesOn step told sure count on_host host mid_host a b mid_a mid_b from_a new_from_a tally_a new_tally_a next_a None
      → GoesOn step told sure count on_host mid_host new_host mid_b mid_a new_b new_a from_b new_from_b tally_b new_tally_b next_b stop
      → (over → IsOver next_a next_b new_tally_a.read new_tally_b.read)
      → BothGoOn step told sure count on_host host new_host a b new_a new_b from_a from_b new_from_a new_from_b tally_a tally_b new_tally_a new_tally_b over stop
  both-steps host mid_host new_host a b mid_a mid_b new_a new_b from_a from_b new_from_a new_from_b tally_a tally_b new_tally_a new_tally_b next_a next_b stop first second is_over host_old a_old b_old from_a_old from_b_old more_a more_b x =
      let forth = first host_old a_old b_old from_a_old from_b_old from_b tally_b more_a more_b x in
      let seen = turned step told sure count on_host host_old mid_host a_old b_old mid_a mid_b from_a_old from_b_old new_from_a from_b new_tally_a tally_b next_a more_b None forth in
      let back = second host_old b_old a_old from_b_old from_a_old new_from_a new_tally_a more_b next_a seen in
      record {
        more_a = next_a;
        more_b = next_b;
        exchange = turned step told sure count on_host host_old new_host b_old a_old new_b new_a from_b_old from_a_old new_from_b new_from_a new_tally_b new_tally_a next_b next_a stop back;
        is_over = is_over;
      }

  pub no-turn : (host : H) (a b : E) (from_a from_b : SideState) (tally_a tally_b : Tally)
      → BothGoOn step told sure count on_host host host a b a b from_a from_b from_a from_b tally_a tally_b tally_a tally_b ⊥ None
  no-turn host a b from_a from_b tally_a tally_b host_old a_old b_old from_a_old from_b_old more_a more_b x = record { more_a = more_a; more_b = more_b; exchange = x; is_over = λ never. absurd never }

  pub turns-join : {P Q : Type 0} (host mid_host new_host : H) (a b mid_a mid_b new_a new_b : E) (from_a from_b mid_from_a mid_from_b new_from_a new_from_b : SideState)
      (tally_a tally_b mid_tally_a mid_tally_b new_tally_a new_tally_b : Tally) (stop : Option PairEnd)
      → BothGoOn step told sure count on_host host mid_host a b mid_a mid_b from_a from_b mid_from_a mid_from_b tally_a tally_b mid_tally_a mid_tally_b P None
      → BothGoOn step told sure count on_host mid_host new_host mid_a mid_b new_a new_b mid_from_a mid_from_b new_from_a new_from_b mid_tally_a mid_tally_b new_tally_a new_tally_b Q stop
      → BothGoOn step told sure count on_host host new_host a b new_a new_b from_a from_b new_from_a new_from_b tally_a tally_b new_tally_a new_tally_b Q stop
  turns-join host mid_host new_host a b mid_a mid_b new_a new_b from_a from_b mid_from_a mid_from_b new_from_a new_from_b tally_a tally_b mid_tally_a mid_tally_b new_tally_a new_tally_b stop
      first second host_old a_old b_old from_a_old from_b_old more_a more_b x =
      let mid = first host_old a_old b_old from_a_old from_b_old more_a more_b x in second host_old a_old b_old from_a_old from_b_old mid.more_a mid.more_b mid.exchange

  -- what is asked of a turn being over may be asked in other words
  pub over-so : {P Q : Type 0} (host new_host : H) (a b new_a new_b : E) (from_a from_b new_from_a new_from_b : SideState) (tally_a tally_b new_tally_a new_tally_b : Tally) (stop : Option PairEnd) → (Q → P)
      → BothGoOn step told sure count on_host host new_host a b new_a new_b from_a from_b new_from_a new_from_b tally_a tally_b new_tally_a new_tally_b P stop
      → BothGoOn step told sure count on_host host new_host a b new_a new_b from_a from_b new_from_a new_from_b tally_a tally_b new_tally_a new_tally_b Q stop
  over-so host new_host a b new_a new_b from_a from_b new_from_a new_from_b tally_a tally_b new_tally_a new_tally_b stop so goes host_old a_old b_old from_a_old from_b_old more_a more_b x =
      let e = goes host_old a_old b_old from_a_old from_b_old more_a more_b x in record { more_a = e.more_a; more_b = e.more_b; exchange = e.exchange; is_over = λ q. e.is_over (so q) }

-- ## Reasons

pub rose-longer : (earlier before after : ℕ) (sure : Bool) (f : CountFault) → earlier ≤ before → RoseIn before after sure f → RoseIn earlier after sure f
rose-longer earlier before after sure f order is = (is.0, omega (arith, order, is.1), is.2, is.3)

pub notified-longer : (earlier before after : ℕ) (sure_earlier sure : Bool) → earlier ≤ before → sure ≡ sure_earlier → (f : CountFault) → RoseIn before after sure f → RoseIn earlier after sure_earlier f
notified-longer earlier before after sure_earlier sure order same f is = (sym same ∙ is.0, omega (arith, order, is.1), is.2, is.3)

long-there : (here : Side) (state from_a from_b : SideState) → state ≡ of_side here from_a from_b → (side : Side) (at : ℕ) → IsLongHere here state side at → IsLongThere from_a from_b side at
long-there here state from_a from_b is side at long =
    subst (λ (s : Side). IsLongAt (of_side s from_a from_b) at) (sym long.0) (subst (λ (s : SideState). IsLongAt s at) is long.1)

module _ {E : Type 0} (sure : E → Bool) (count : E → ℕ) where
  pub failed-longer : (a_old a_mid a b_old b_mid b : E) → count a_old ≤ count a_mid → count b_old ≤ count b_mid → (f : CountFault) → OneFailed sure count a_mid a b_mid b f
      → OneFailed sure count a_old a b_old b f
  failed-longer a_old a_mid a b_old b_mid b order_a order_b f is = elim is [
    | inl x ↦ inl (rose-longer (count a_old) (count a_mid) (count a) (sure a) f order_a x)
    | inr y ↦ inr (rose-longer (count b_old) (count b_mid) (count b) (sure b) f order_b y)
  ]

  failed-turned : (a_old a_mid a b_old b_mid b : E) → count a_old ≤ count a_mid → count b_old ≤ count b_mid → (f : CountFault) → OneFailed sure count b_mid b a_mid a f
      → OneFailed sure count a_old a b_old b f
  failed-turned a_old a_mid a b_old b_mid b order_a order_b f is = elim is [
    | inl y ↦ inr (rose-longer (count b_old) (count b_mid) (count b) (sure b) f order_b y)
    | inr x ↦ inl (rose-longer (count a_old) (count a_mid) (count a) (sure a) f order_a x)
  ]

  -- of the first step of a turn, and of the second
  pub reason-forth : (a_old a b_old b : E) (from_a from_b : SideState) (notified : CountFault → Type 0) (end : PairEnd)
      → IsReason (IsLongHere A from_a) (OneFailed sure count a_old a b_old b) notified end → IsReason (IsLongThere from_a from_b) (OneFailed sure count a_old a b_old b) notified end
  reason-forth a_old a b_old b from_a from_b notified end =
      reason-on (IsLongHere A from_a) (IsLongThere from_a from_b) (OneFailed sure count a_old a b_old b) (OneFailed sure count a_old a b_old b) notified notified end
      (long-there A from_a from_a from_b refl) (λ f is. is) (λ f is. is)

  pub reason-back : (a_old a_mid a b_old b_mid b : E) (from_a from_b : SideState) (earlier before after : ℕ) (sure_earlier notifier_sure : Bool) (end : PairEnd)
      → count a_old ≤ count a_mid → count b_old ≤ count b_mid → earlier ≤ before → notifier_sure ≡ sure_earlier
      → IsReason (IsLongHere B from_b) (OneFailed sure count b_mid b a_mid a) (RoseIn before after notifier_sure) end
      → IsReason (IsLongThere from_a from_b) (OneFailed sure count a_old a b_old b) (RoseIn earlier after sure_earlier) end
  reason-back a_old a_mid a b_old b_mid b from_a from_b earlier before after sure_earlier notifier_sure end order_a order_b order same =
      reason-on (IsLongHere B from_b) (IsLongThere from_a from_b) (OneFailed sure count b_mid b a_mid a) (OneFailed sure count a_old a b_old b)
      (RoseIn before after notifier_sure) (RoseIn earlier after sure_earlier) end
      (long-there B from_b from_a from_b refl) (failed-turned a_old a_mid a b_old b_mid b order_a order_b) (notified-longer earlier before after sure_earlier notifier_sure order same)

  pub reason-later : (a_old a_mid a b_old b_mid b : E) (from_a from_b : SideState) (earlier before after : ℕ) (sure_earlier notifier_sure : Bool) (end : PairEnd)
      → count a_old ≤ count a_mid → count b_old ≤ count b_mid → earlier ≤ before → notifier_sure ≡ sure_earlier
      → IsReason (IsLongThere from_a from_b) (OneFailed sure count a_mid a b_mid b) (RoseIn before after notifier_sure) end
      → IsReason (IsLongThere from_a from_b) (OneFailed sure count a_old a b_old b) (RoseIn earlier after sure_earlier) end
  reason-later a_old a_mid a b_old b_mid b from_a from_b earlier before after sure_earlier notifier_sure end order_a order_b order same =
      reason-on (IsLongThere from_a from_b) (IsLongThere from_a from_b) (OneFailed sure count a_mid a b_mid b) (OneFailed sure count a_old a b_old b)
      (RoseIn before after notifier_sure) (RoseIn earlier after sure_earlier) end
      (λ side at is. is) (failed-longer a_old a_mid a b_old b_mid b order_a order_b) (notified-longer earlier before after sure_earlier notifier_sure order same)

-- the same of an answer, where nothing can be too long
pub answer-reason : {T : Type 0} (r : Result T PairEnd) (long : Side → ℕ → Type 0) (failed new_failed notified new_notified : CountFault → Type 0)
    → ((f : CountFault) → failed f → new_failed f) → ((f : CountFault) → notified f → new_notified f)
    → IfErr r (IsReason (λ side at. ⊥) failed notified) → IfErr r (IsReason long new_failed new_notified)
answer-reason (Ok done) long failed new_failed notified new_notified on_failed on_notified is = tt
answer-reason (Err end) long failed new_failed notified new_notified on_failed on_notified is =
    reason-on (λ side at. ⊥) long failed new_failed notified new_notified end (λ side at never. absurd never) on_failed on_notified is

module _ {E H : Type 0} (step : E → EndCall → E → Type 0) (told : E → Telling) (sure : E → Bool) (count : E → ℕ) (on_host : H → EndCall → H → Type 0) where
  pub steps-join : (host mid_host new_host : H) (from to mid_from mid_to new_from new_to : E) (side mid_side new_side : SideState) (tally mid_tally new_tally : Tally) (mid_more more : Bool)
      (stop : Option PairEnd)
      → GoesOn step told sure count on_host host mid_host from to mid_from mid_to side mid_side tally mid_tally mid_more None
      → GoesOn step told sure count on_host mid_host new_host mid_from mid_to new_from new_to mid_side new_side mid_tally new_tally more stop
      → GoesOn step told sure count on_host host new_host from to new_from new_to side new_side tally new_tally more stop
  steps-join host mid_host new_host from to mid_from mid_to new_from new_to side mid_side new_side tally mid_tally new_tally mid_more more stop first second
      host_old from_old to_old side_old other_old other other_tally before other_more x =
      second host_old from_old to_old side_old other_old other other_tally mid_more other_more (first host_old from_old to_old side_old other_old other other_tally before other_more x)
