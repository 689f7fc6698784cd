-- Lemmas on what passed between two ends: one more call of either.
use Rattle.std.proofs.Common.{◌≡◌, ℕ, ◌+◌, ◌^◌, ◌<◌, ◌≤◌, Bool, true, false, List, [], ◌∷◌, length, take, refl, sym, ◌∙◌, subst, arith, inl, inr, Option, Some, None, Ok, Err}
use Rattle.std.specs.Prelude.{◌⊎◌, ◌||◌, nat_lt, IfSome}
use Rattle.aio_base.specs.Connections.{Telling, WriteTells, IsAtItsEnd}
use Rattle.aio_base.specs.declared.names.Waker.{Waker}
use Rattle.aio_base.specs.declared.outcomes.CountFault.{CountFault}
use Rattle.aio_base.specs.declared.outcomes.Poll.TheVariants.{Ready, Pending}
use Rattle.aio_future.specs.Tries.{bytes_over, fault_counts, IsReadAnswer, IsWriteAnswer, FaultsWithin}
use Rattle.aio_future.specs.declared.tried.TryFault.{TryFault}
use Rattle.aio_pairs.specs.Backlogs.{SideState, TakesUp, shrunk}
use Rattle.aio_pairs.specs.Calls.{EndCall, Reads, Writes, tried_in}
use Rattle.aio_pairs.specs.Exchanges.{AreAll, Exchange, FailsAt, GoesOn, IsSameEnd, EndsIn, notify_fault_in, try_fault_in, woken_as}
use Rattle.aio_pairs.specs.Lines.{lines}
use Rattle.aio_pairs.specs.declared.outcomes.EndTried.{EndTried}
use Rattle.aio_pairs.specs.declared.outcomes.PairEnd.{PairEnd}
use Rattle.aio_pairs.specs.declared.outcomes.Tally.{Tally}
use Rattle.aio_pairs.proofs.PassingLemmas.{way-begins, way-reads, way-beside-read, way-writes, way-beside-write, way-rests}

-- the calls on both ends, as they are seen from the other end
all-turned : (calls a_calls b_calls : List EndCall) → AreAll calls a_calls b_calls → AreAll calls b_calls a_calls
all-turned [] a_calls b_calls none = (none.1, none.0)
all-turned (latest ∷ earlier) a_calls b_calls all = elim all [
  | inl a ↦ inr (a.0, a.1, all-turned earlier a.0 b_calls a.2)
  | inr b ↦ inl (b.0, b.1, all-turned earlier a_calls b.0 b.2)
]

-- one more call, in which the pair ended or not
read-failed : (stop : Option PairEnd) (room : ℕ) (w : Waker) (tried : EndTried) (bytes : List ℕ) (calls : List EndCall)
    → IfSome (try_fault_in stop) (λ f. (tried.answer ≡ Ready (Err f)) × IsReadAnswer (Ready (Err f))) → IfSome (try_fault_in stop) (λ f. EndsIn f (Reads room w tried bytes ∷ calls))
read-failed stop room w tried bytes calls h = h

write-failed : (stop : Option PairEnd) (piece : List ℕ) (w : Waker) (tried : EndTried) (calls : List EndCall)
    → IfSome (try_fault_in stop) (λ f. (tried.answer ≡ Ready (Err f)) × IsWriteAnswer (Ready (Err f))) → IfSome (try_fault_in stop) (λ f. EndsIn f (Writes piece w tried ∷ calls))
write-failed stop piece w tried calls h = h

one-more : (stop : Option CountFault) (call : EndCall) (calls : List EndCall) → (tried_in call).woken ≡ woken_as stop → FailsAt None calls → FailsAt stop (call ∷ calls)
one-more None call calls is none = (is, none)
one-more (Some f) call calls is none = (is, none)

module _ {E : Type 0} (step : E → EndCall → E → Type 0) (told : E → Telling) (sure : E → Bool) (count : E → ℕ) where
  pub same-begins : (end : E) → IsSameEnd told sure count end end
  same-begins end = record { still_sure = refl; still_prompt = refl; still_ends = refl; no_fewer = omega arith }

  pub same-on : (first mid last : E) → IsSameEnd told sure count first mid → IsSameEnd told sure count mid last → IsSameEnd told sure count first last
  same-on first mid last one two = record {
    still_sure = two.still_sure ∙ one.still_sure;
    still_prompt = two.still_prompt ∙ one.still_prompt;
    still_ends = two.still_ends ∙ one.still_ends;
    no_fewer = omega (arith, one.no_fewer, two.no_fewer);
  }

module _ {E H : Type 0} (step : E → EndCall → E → Type 0) (told : E → Telling) (sure : E → Bool) (count : E → ℕ) (on_host : H → EndCall → H → Type 0) where
  pub exchange-begins : (host : H) (a b : E) (from_a from_b : SideState) → from_a.forwarded < 2 ^ 64 → from_b.forwarded < 2 ^ 64
      → (from_a.ended ≡ true → IsAtItsEnd (told a)) → (from_b.ended ≡ true → IsAtItsEnd (told b))
      → Exchange step told sure count on_host host host a b a b from_a from_b from_a from_b (record { read = 0; wrote = false }) (record { read = 0; wrote = false }) true true None
  exchange-begins host a b from_a from_b small_a small_b a_ended b_ended = record {
    a_calls = [];
    b_calls = [];
    calls = [];
    all = (refl, refl);
    a_led = refl;
    b_led = refl;
    host_led = refl;
    forth = way-begins told a b from_a small_a a_ended;
    back = way-begins told b a from_b small_b b_ended;
    a_same = same-begins step told sure count a;
    b_same = same-begins step told sure count b;
    failed = tt;
    woken = tt;
  }

  -- as it is seen from the other end
  pub turned : (host_old host : H) (a_old b_old a b : E) (from_a_old from_b_old from_a from_b : SideState) (tally_a tally_b : Tally) (more_a more_b : Bool) (stop : Option PairEnd)
      → Exchange step told sure count on_host host_old host a_old b_old a b from_a_old from_b_old from_a from_b tally_a tally_b more_a more_b stop
      → Exchange step told sure count on_host host_old host b_old a_old b a from_b_old from_a_old from_b from_a tally_b tally_a more_b more_a stop
  turned host_old host a_old b_old a b from_a_old from_b_old from_a from_b tally_a tally_b more_a more_b stop x = record {
    a_calls = x.b_calls;
    b_calls = x.a_calls;
    calls = x.calls;
    all = all-turned x.calls x.a_calls x.b_calls x.all;
    a_led = x.b_led;
    b_led = x.a_led;
    host_led = x.host_led;
    forth = x.back;
    back = x.forth;
    a_same = x.b_same;
    b_same = x.a_same;
    failed = x.failed;
    woken = x.woken;
  }

  pub reads-go-on : (host new_host : H) (from to new_from : E) (side new_side : SideState) (tally : Tally) (room : ℕ) (w : Waker) (tried : EndTried) (more : Bool) (stop : Option PairEnd)
      → lines side.backlog ≡ [] → side.ended ≡ false → (taken : TakesUp step told from new_from side new_side room w tried)
      → on_host host (Reads room w tried taken.bytes) new_host
      → FaultsWithin (count from) (count new_from) (sure from) (sure new_from) (fault_counts tried.answer)
      → (more ≡ false → (bytes_over tried.answer ≡ 0) × ((tried.answer ≡ Ready (Ok 0)) ⊎ (tried.answer ≡ Pending)))
      → IfSome (try_fault_in stop) (λ f. (tried.answer ≡ Ready (Err f)) × IsReadAnswer (Ready (Err f))) → tried.woken ≡ woken_as (notify_fault_in stop)
      → GoesOn step told sure count on_host host new_host from to new_from to side new_side tally (record { read = tally.read + bytes_over tried.answer; wrote = tally.wrote }) more stop
  reads-go-on host new_host from to new_from side new_side tally room w tried more stop none not_ended taken called faults over failed woken
      host_old from_old to_old side_old other_old other other_tally before other_more x =
      let new_tally : Tally = record { read = tally.read + bytes_over tried.answer; wrote = tally.wrote } in
      let call = Reads room w tried taken.bytes in
      subst (λ (s : SideState). Exchange step told sure count on_host host_old new_host from_old to_old new_from to side_old other_old s other new_tally other_tally more other_more stop) (sym taken.side_is) (record {
        a_calls = call ∷ x.a_calls;
        b_calls = x.b_calls;
        calls = call ∷ x.calls;
        all = inl (x.a_calls, refl, x.all);
        a_led = (from, x.a_led, taken.call);
        b_led = x.b_led;
        host_led = (host, x.host_led, called);
        forth = way-reads told from_old to_old from to new_from x.a_calls x.b_calls side_old side tally before more room w tried taken.bytes x.forth none not_ended taken.size taken.tells over;
        back = way-beside-read told to_old from_old to from new_from x.b_calls x.a_calls other_old other other_tally other_more room w tried taken.bytes x.back taken.tells;
        a_same = same-on step told sure count from_old from new_from x.a_same (record { still_sure = faults.sure; still_prompt = taken.tells.prompt; still_ends = taken.tells.ends; no_fewer = faults.cause.later });
        b_same = x.b_same;
        failed = read-failed stop room w tried taken.bytes x.calls failed;
        woken = one-more (notify_fault_in stop) call x.calls woken x.woken;
      })

  pub writes-go-on : (host new_host : H) (from to new_to : E) (side : SideState) (tally : Tally) (w : Waker) (tried : EndTried) (more : Bool) (stop : Option PairEnd)
      → 0 < length (lines side.backlog) → bytes_over tried.answer ≤ length (lines side.backlog)
      → step to (Writes (lines side.backlog) w tried) new_to → on_host host (Writes (lines side.backlog) w tried) new_host
      → WriteTells (told to) (told new_to) (take (bytes_over tried.answer) (lines side.backlog)) (tried.answer ≡ Pending)
      → FaultsWithin (count to) (count new_to) (sure to) (sure new_to) (fault_counts tried.answer)
      → (more ≡ false → (bytes_over tried.answer ≡ 0) × (tried.answer ≡ Pending))
      → IfSome (try_fault_in stop) (λ f. (tried.answer ≡ Ready (Err f)) × IsWriteAnswer (Ready (Err f))) → tried.woken ≡ woken_as (notify_fault_in stop)
      → GoesOn step told sure count on_host host new_host from to from new_to side (shrunk side (bytes_over tried.answer)) tally
      (record { read = tally.read; wrote = tally.wrote || nat_lt 0 (bytes_over tried.answer) }) more stop
  writes-go-on host new_host from to new_to side tally w tried more stop some within call called tells faults over failed woken
      host_old from_old to_old side_old other_old other other_tally before other_more x = record {
        a_calls = x.a_calls;
        b_calls = Writes (lines side.backlog) w tried ∷ x.b_calls;
        calls = Writes (lines side.backlog) w tried ∷ x.calls;
        all = inr (x.b_calls, refl, x.all);
        a_led = x.a_led;
        b_led = (to, x.b_led, call);
        host_led = (host, x.host_led, called);
        forth = way-writes told from_old to_old from to new_to x.a_calls x.b_calls side_old side tally before more w tried x.forth some within tells over;
        back = way-beside-write told to_old from_old to from new_to x.b_calls x.a_calls other_old other other_tally other_more (lines side.backlog) w tried _ x.back tells;
        a_same = x.a_same;
        b_same = same-on step told sure count to_old to new_to x.b_same (record { still_sure = faults.sure; still_prompt = tells.prompt; still_ends = tells.ends; no_fewer = faults.cause.later });
        failed = write-failed stop (lines side.backlog) w tried x.calls failed;
        woken = one-more (notify_fault_in stop) (Writes (lines side.backlog) w tried) x.calls woken x.woken;
      }

  -- no call
  pub rests-go-on : (host : H) (from to : E) (side : SideState) (tally : Tally) (more : Bool) (stop : Option PairEnd) → (more ≡ false → (lines side.backlog ≡ []) × (side.ended ≡ true))
      → try_fault_in stop ≡ None → notify_fault_in stop ≡ None
      → GoesOn step told sure count on_host host host from to from to side side tally tally more stop
  rests-go-on host from to side tally more stop over no_fault no_notify host_old from_old to_old side_old other_old other other_tally before other_more x = record {
    a_calls = x.a_calls;
    b_calls = x.b_calls;
    calls = x.calls;
    all = x.all;
    a_led = x.a_led;
    b_led = x.b_led;
    host_led = x.host_led;
    forth = way-rests told from_old to_old from to x.a_calls x.b_calls side_old side tally before more x.forth over;
    back = x.back;
    a_same = x.a_same;
    b_same = x.b_same;
    failed = subst (λ (t : Option TryFault). IfSome t (λ f. EndsIn f x.calls)) (sym no_fault) tt;
    woken = subst (λ (f : Option CountFault). FailsAt f x.calls) (sym no_notify) x.woken;
  }
