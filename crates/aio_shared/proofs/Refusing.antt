-- A call of `react_in` that entered no round, and what it leaves of the cell and of the member; and one whose rounds are not spent.
use Rattle.std.proofs.Common.{◌≡◌, inl, refl, sym, ap, ◌∙◌, subst, ℕ, ◌^◌, ◌-◌, Bool, false, Result, Err, le_refl, ◌≤◌, List, arith}
use Rattle.std.specs.Prelude.{◌↔◌}
use Rattle.aio_base.specs.declared.names.Waker.{Waker}
use Rattle.aio_base.specs.declared.outcomes.Failed.{Failed}
use Rattle.aio_base.specs.Devices.{TellsFaults}
use Rattle.aio_rules.specs.SharedWords.{blocking}
use Rattle.aio_rules.specs.declared.seats.SeatView.{SeatView}
use Rattle.aio_ops.specs.Passes.{PassView}
use Rattle.aio_shared.specs.declared.reacting.ReactedIn.{ReactedIn}
use Rattle.aio_shared.specs.declared.reacting.ReactFault.{ReactFault}
use Rattle.aio_shared.specs.declared.reacting.ReactFault.TheVariants as react_fault
use Rattle.aio_source.specs.InHand.{RoundValue}
use Rattle.aio_shared.specs.Cells.{CellValue}
use Rattle.aio_shared.specs.Members.{IsLaterMember, IsMemberOf, MemberValue, SharedValue}
use Rattle.aio_shared.specs.Notifying.{NotifiesAsWon}
use Rattle.aio_shared.specs.OneCell.{IsCellOf}
use Rattle.aio_shared.specs.Reacting.{BeginsNone, EnterRefused, Enters, ReportsRound, NotifierCounts, NotifyFailed, Reacts, Start}
use Rattle.aio_shared.specs.TimerCalls.{PushedNothing}
use Rattle.aio_shared.specs.Waking.{TellsFirstWake}
use Rattle.aio_shared.proofs.Draining.{untouched_pushed_nothing}
use Rattle.aio_shared.proofs.DrainedOnly.{drained_is_later}
use Rattle.aio_shared.proofs.Notifying.{notifies_nobody}

module _ {N W : Type 0} (old new : CellValue W) (m later : MemberValue N) (kept : later ≡ record m { ops = later.ops }) where
  none_begun : (fault : ReactFault) → EnterRefused fault old new m.ops later.ops → BeginsNone old new × PushedNothing m.ops later.ops
  none_begun react_fault.RoundsSpent r = (r.0, untouched_pushed_nothing m.ops later.ops r.2)
  none_begun react_fault.OutOfMemory r = (r.0, r.2)
  none_begun (react_fault.Wait fault) r = absurd r
  none_begun (react_fault.Arm fault) r = absurd r
  none_begun (react_fault.Notify fault) r = absurd r

  pub refused_reacts : (parkers : ℕ) (all_sure : Bool) (start : Start W) (notifier : NotifierCounts) (fault : ReactFault) → EnterRefused fault old new m.ops later.ops
      → Reacts parkers all_sure start old new m later notifier (Err fault)
  refused_reacts parkers all_sure start notifier react_fault.RoundsSpent r = (r.0, kept ∙ (λ i. record m { ops = r.2 i }))
  refused_reacts parkers all_sure start notifier react_fault.OutOfMemory r = record { member = kept; ops = r.2; round = inl r.0 }
  refused_reacts parkers all_sure start notifier (react_fault.Wait fault) r = absurd r
  refused_reacts parkers all_sure start notifier (react_fault.Arm fault) r = absurd r
  refused_reacts parkers all_sure start notifier (react_fault.Notify fault) r = absurd r

  pub refused_spent : (fault : ReactFault) → EnterRefused fault old new m.ops later.ops
      → ◌≡◌ {A = Result ReactedIn ReactFault} (Err fault) (Err react_fault.RoundsSpent) ↔ ((old.round.running ≡ false) × (old.seat.view.seen ≡ 2 ^ 64 - 1))
  refused_spent react_fault.RoundsSpent r = (λ e. (r.0.was_idle, r.1), λ x. refl)
  refused_spent react_fault.OutOfMemory r = (λ e. cc, λ x. absurd (r.1 x.1))
  refused_spent (react_fault.Wait fault) r = absurd r
  refused_spent (react_fault.Arm fault) r = absurd r
  refused_spent (react_fault.Notify fault) r = absurd r

  pub refused_mode : (fault : ReactFault) → EnterRefused fault old new m.ops later.ops → new.seat.view.mode ≡ blocking old.seat.view.mode
  refused_mode fault r = (none_begun fault r).0.mode

  -- the cell says what it said, and the member knows what it knew
  pub refused_cell : (fault : ReactFault) → EnterRefused fault old new m.ops later.ops → IsCellOf m.claim old → IsCellOf later.claim new
  refused_cell fault r says = let b = (none_begun fault r).0 in
      subst (λ claim. IsCellOf claim new) (sym (ap (λ (x : MemberValue N). x.claim) kept)) (subst (λ (c : CellValue W). IsCellOf m.claim c) (sym b.cell)
      (record { words = b.words ∙ says.words; wait = says.wait; fault = says.fault }))

  pub refused_belongs : (shared : SharedValue) (fault : ReactFault) → EnterRefused fault old new m.ops later.ops → IsMemberOf shared m → IsMemberOf shared later
  refused_belongs shared fault r belongs = record {
    lock = ap (λ (x : MemberValue N). x.claim.lock) kept ∙ belongs.lock;
    words = ap (λ (x : MemberValue N). x.pass.words) kept ∙ belongs.words;
    ops = ap (λ (p : PassView). p.queue) (none_begun fault r).1.pass ∙ belongs.ops;
    cell = ap (λ (x : MemberValue N). x.claim.words) kept ∙ belongs.cell;
    arms = ap (λ (x : MemberValue N). x.claim.sure_of_arms) kept ∙ belongs.arms;
  }

  pub refused_later : (faults : N → ℕ) (is_sure : N → Bool) (fault : ReactFault) → EnterRefused fault old new m.ops later.ops → IsLaterMember faults is_sure m later
  refused_later faults is_sure fault r = drained_is_later faults is_sure m later kept (none_begun fault r).1

  pub refused_first : (calls faults : N → ℕ) (step : N → Result (Unit {0}) Failed → N → Type 0) (parkers : ℕ) (wakers : List Waker) (view last : SeatView) (n left : N) (fault : ReactFault)
      → EnterRefused fault old new m.ops later.ops → TellsFirstWake calls faults step parkers wakers view last n left (Err fault)
  refused_first calls faults step parkers wakers view last n left react_fault.RoundsSpent r = tt
  refused_first calls faults step parkers wakers view last n left react_fault.OutOfMemory r = tt
  refused_first calls faults step parkers wakers view last n left (react_fault.Wait fault) r = absurd r
  refused_first calls faults step parkers wakers view last n left (react_fault.Arm fault) r = absurd r
  refused_first calls faults step parkers wakers view last n left (react_fault.Notify fault) r = absurd r

  -- ## Whoever did nothing but drain

  pub quiet_faults : (faults : N → ℕ) (is_sure : N → Bool) → TellsFaults faults is_sure m.notifier later.notifier ⊥
  quiet_faults faults is_sure = let same = ap (λ (x : MemberValue N). x.notifier) kept in record {
    cause = record {
      later = subst (λ (n : N). faults m.notifier ≤ faults n) (sym same) (le_refl (faults m.notifier));
      rose = λ none. absurd none;
      never = λ s. ((λ none. none), ap faults same);
    };
    sure = ap is_sure same;
  }

  pub refused_faults : (faults : N → ℕ) (is_sure : N → Bool) (fault : ReactFault) → EnterRefused fault old new m.ops later.ops
      → TellsFaults faults is_sure m.notifier later.notifier (NotifyFailed (Err fault))
  refused_faults faults is_sure react_fault.RoundsSpent r = quiet_faults faults is_sure
  refused_faults faults is_sure react_fault.OutOfMemory r = quiet_faults faults is_sure
  refused_faults faults is_sure (react_fault.Wait fault) r = absurd r
  refused_faults faults is_sure (react_fault.Arm fault) r = absurd r
  refused_faults faults is_sure (react_fault.Notify fault) r = absurd r

  pub quiet_calls : (calls : N → ℕ) → NotifiesAsWon m.pass.view later.pass.view (calls m.notifier) (calls later.notifier)
  quiet_calls calls =
      subst (λ (x : MemberValue N). NotifiesAsWon m.pass.view x.pass.view (calls m.notifier) (calls x.notifier)) (sym kept) (notifies_nobody m.pass.view (calls m.notifier))

-- ## Whoever entered a round

module _ {W : Type 0} (start : Start W) (old new : CellValue W) (ops ops_after : PassView) (e : Enters start old new ops ops_after) where
  pub unspent : (answer : Result ReactedIn ReactFault) → (answer ≡ Err react_fault.RoundsSpent → ⊥)
      → (answer ≡ Err react_fault.RoundsSpent) ↔ ((old.round.running ≡ false) × (old.seat.view.seen ≡ 2 ^ 64 - 1))
  unspent answer other = (λ is. absurd (other is), λ x. let room = (e.begins x.0).room in let spent = x.1 in absurd (omega arith))

  pub reported_unspent : (round : RoundValue) (resumed : Bool) (in_hand : ℕ) (notifier : NotifierCounts) (answer : Result ReactedIn ReactFault) → ReportsRound round resumed in_hand notifier answer
      → (answer ≡ Err react_fault.RoundsSpent) ↔ ((old.round.running ≡ false) × (old.seat.view.seen ≡ 2 ^ 64 - 1))
  reported_unspent round resumed in_hand notifier answer told = unspent answer (λ is. subst (λ a. ReportsRound round resumed in_hand notifier a) is told)

-- memory ran out, which is no want of rounds
pub not_spent : ◌≡◌ {A = Result ReactedIn ReactFault} (Err react_fault.OutOfMemory) (Err react_fault.RoundsSpent) → ⊥
not_spent e = cc
