-- The calls of a member on timers, as the calls of a host.
use Rattle.std.proofs.Common.{◌≡◌, sym, ap, subst, ℕ, ◌≤◌, Bool, true≢false, le_refl, None, OnErr, OnOk, Result, Ok, Err}
use Rattle.aio_base.specs.declared.names.TimerId.{TimerId}
use Rattle.aio_base.specs.declared.names.Waker.{Waker}
use Rattle.aio_base.specs.declared.outcomes.Failed.{Failed}
use Rattle.aio_base.specs.declared.outcomes.OutOfMemory.{OutOfMemory}
use Rattle.aio_timers.specs.declared.op.TimerOp.TheVariants as timer_op
use Rattle.aio_base.specs.declared.hosts.InsertRefusal.{InsertRefusal}
use Rattle.aio_base.specs.declared.hosts.InsertRefusal.TheVariants as refusal
use Rattle.aio_base.specs.Hosts.{NotifierTells, RegistersAs, registered_id}
use Rattle.aio_shared.specs.Inside.{InsideValue, inside_rules}
use Rattle.aio_shared.specs.Members.{MemberValue, SharedValue}
use Rattle.aio_shared.specs.TimerCalls.{CarriesOut, Inserts, NotCarriedOut, RemovesTimer}

module _ {N : Type 0} (shared : SharedValue) (m later : MemberValue N) (at : ℕ) where
  abbrev host : MemberValue N → InsideValue N
  host member = record { shared = shared; member = member }

  -- ## A removal

  module _ (id : TimerId) (answer : Result (Unit {0}) OutOfMemory) (r : RemovesTimer at id m later answer) where
    pub removal_kept : later ≡ record m { ops = later.ops }
    removal_kept = by_answer answer r
      where
        by_answer : (a : Result (Unit {0}) OutOfMemory) → RemovesTimer at id m later a → later ≡ record m { ops = later.ops }
        by_answer (Ok done) x = x.0
        by_answer (Err refused) x = x.0

    pub removal_done : OnOk answer ((host later ≡ host (record m { ops = later.ops })) × CarriesOut (timer_op.Remove at id) m.ops later.ops)
    removal_done = by_answer answer r
      where
        by_answer : (a : Result (Unit {0}) OutOfMemory) → RemovesTimer at id m later a
            → OnOk a ((host later ≡ host (record m { ops = later.ops })) × CarriesOut (timer_op.Remove at id) m.ops later.ops)
        by_answer (Ok done) x = ((λ i. host (x.0 i)), x.1)
        by_answer (Err refused) x = tt

    pub removal_refused : OnErr answer (NotCarriedOut m later)
    removal_refused = by_answer answer r
      where
        by_answer : (a : Result (Unit {0}) OutOfMemory) → RemovesTimer at id m later a → OnErr a (NotCarriedOut m later)
        by_answer (Ok done) x = tt
        by_answer (Err refused) x = x

    pub removal_tells : (faults : N → ℕ) (is_sure : N → Bool) → NotifierTells (is_sure m.notifier) (faults m.notifier) (faults later.notifier) None
    removal_tells faults is_sure = let same = ap (λ (x : MemberValue N). x.notifier) removal_kept in record {
      cause = record {
        later = subst (λ (n : N). faults m.notifier ≤ faults n) (sym same) (le_refl (faults m.notifier));
        rose = λ some. absurd (true≢false (sym some));
        never = λ s. ((λ some. true≢false (sym some)), ap faults same);
      };
      counts = tt;
    }

  -- ## An insert

  pub registers : (calls faults : N → ℕ) (step : N → Result (Unit {0}) Failed → N → Type 0) (waker : Waker) (answer : Result TimerId InsertRefusal) → Inserts calls step at waker m later answer
      → RegistersAs (inside_rules calls faults step) at waker (host m) (registered_id answer) (host later)
  registers calls faults step waker (Ok id) x = ((Ok tt, x), x.next, x.ids)
  registers calls faults step waker (Err (refusal.Notify id fault)) x = ((Err fault, x), x.next, x.ids)
  registers calls faults step waker (Err refusal.OutOfMemory) x = (x, ap (λ (y : MemberValue N). y.ids) x.0)
