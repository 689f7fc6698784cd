-- What a call of `react_in` that told a fault, and a look at the ticker after it, come to together.
use Rattle.std.proofs.Common.{◌≡◌, ◌≢◌, ◌-◌, ◌^◌, ◌∙◌, ℕ, Bool, true, false, [], ◌∷◌, refl, ap, sym, subst, Option, Result, Ok, Err}
use Rattle.aio_base.specs.ClockBounds.{ClockBounds}
use Rattle.aio_base.specs.Devices.{HasCause, TellsFaults}
use Rattle.aio_rules.specs.declared.seats.WordStep.TheVariants as word_step
use Rattle.aio_shared.specs.declared.reacting.ReactedIn.{ReactedIn}
use Rattle.aio_shared.specs.declared.reacting.ReactFault.{ReactFault}
use Rattle.aio_shared.specs.declared.reacting.ReactFault.TheVariants as react_fault
use Rattle.aio_shared.specs.Cells.{CellValue}
use Rattle.aio_shared.specs.Members.{MemberValue, SharedValue, moved_on}
use Rattle.aio_shared.specs.Reacting.{NotifierCounts, NotifyFailed, Reacts, Start}
use Rattle.aio_park.specs.Blocking.{HasFaultCause, KeepsThread}
use Rattle.aio_park.specs.Driving.{Fails, GainsNone, LooksAfter, Tries, member_did}
use Rattle.aio_park.specs.Driving.LooksAfter.{HandsOn, FindsEnd, FindsLess}
use Rattle.aio_park.proofs.Gaining.{gains_itself, gains_none}
use Rattle.aio_park.proofs.Holding.{nothing_begun, spent_cause}
use Rattle.aio_park.proofs.Keeping.{keeps_as, keeps_look, keeps_then}

unsure : {before after : ℕ} {failed : Type 0} (sure : Bool) → HasCause before after sure failed → failed → sure ≡ false
unsure true cause failed = absurd ((cause.never refl).0 failed)
unsure false cause failed = refl

-- of a look at the ticker: nothing but the seat's view has changed
looked_rest : {N : Type 0} (found : ℕ) (m later : MemberValue N) → later ≡ member_did (word_step.LoadTicker found) m → later ≡ record m { pass = later.pass }
looked_rest found m later did = did ∙ ap (λ (x : MemberValue _). record m { pass = x.pass }) (sym did)

module _ {N : Type 0} (fault : ReactFault) where
  pub took_after : (m later : MemberValue N) (answer : Result (Option ReactedIn) ReactFault) → LooksAfter fault m later answer → GainsNone m.pass.view later.pass.view
  took_after m later answer (HandsOn other same is) = subst (λ (x : MemberValue N). GainsNone m.pass.view x.pass.view) (sym same) (gains_itself m.pass.view)
  took_after m later answer (FindsEnd found spent did end is) = subst (λ (x : MemberValue N). GainsNone m.pass.view x.pass.view) (sym did) (gains_none (word_step.LoadTicker found ∷ []) _ _ refl refl refl)
  took_after m later answer (FindsLess found spent did below is) = subst (λ (x : MemberValue N). GainsNone m.pass.view x.pass.view) (sym did) (gains_none (word_step.LoadTicker found ∷ []) _ _ refl refl refl)

  pub claim_after : (m later : MemberValue N) (answer : Result (Option ReactedIn) ReactFault) → LooksAfter fault m later answer → later.claim ≡ m.claim
  claim_after m later answer (HandsOn other same is) = ap (λ (x : MemberValue N). x.claim) same
  claim_after m later answer (FindsEnd found spent did end is) = ap (λ (x : MemberValue N). x.claim) did
  claim_after m later answer (FindsLess found spent did below is) = ap (λ (x : MemberValue N). x.claim) did

  pub kept_after : (old m later : MemberValue N) (answer : Result (Option ReactedIn) ReactFault) → m ≡ moved_on old m → LooksAfter fault m later answer → later ≡ moved_on old later
  kept_after old m later answer kept (HandsOn other same is) = subst (λ (x : MemberValue N). x ≡ moved_on old x) (sym same) kept
  kept_after old m later answer kept (FindsEnd found spent did end is) = subst (λ (x : MemberValue N). x ≡ moved_on old x) (sym did) (ap (member_did (word_step.LoadTicker found)) kept)
  kept_after old m later answer kept (FindsLess found spent did below is) = subst (λ (x : MemberValue N). x ≡ moved_on old x) (sym did) (ap (member_did (word_step.LoadTicker found)) kept)

module _ {N W : Type 0} (parkers : ℕ) (all_sure : Bool) (start : Start W) (old new : CellValue W) (m : MemberValue N) where
  -- a fault other than that no round can begin has its cause
  pub fault_cause : (faults : N → ℕ) (is_sure : N → Bool) (later : MemberValue N) (fault : ReactFault)
      → Reacts parkers all_sure start old new m later (record { before = faults m.notifier; after = faults later.notifier }) (Err fault)
      → TellsFaults faults is_sure m.notifier later.notifier (NotifyFailed (Err fault)) → fault ≢ react_fault.RoundsSpent → HasFaultCause faults is_sure m later fault
  fault_cause faults is_sure later (react_fault.Wait fault) r tells other = (r.1.1, r.1.0.1)
  fault_cause faults is_sure later (react_fault.Arm fault) r tells other = (r.1.1, r.1.0.1)
  fault_cause faults is_sure later (react_fault.Notify fault) r tells other = (r.1.1, unsure (is_sure m.notifier) tells.cause tt)
  fault_cause faults is_sure later react_fault.RoundsSpent r tells other = absurd (other refl)
  fault_cause faults is_sure later react_fault.OutOfMemory r tells other = tt

  handed_on : (later : MemberValue N) (notifier : NotifierCounts) (fault : ReactFault) → fault ≢ react_fault.RoundsSpent
      → Reacts parkers all_sure start old new m later notifier (Err fault) → Fails parkers all_sure start old new m later notifier fault
  handed_on later notifier (react_fault.Wait fault) other r = r
  handed_on later notifier (react_fault.Arm fault) other r = r
  handed_on later notifier (react_fault.Notify fault) other r = r
  handed_on later notifier react_fault.RoundsSpent other r = absurd (other refl)
  handed_on later notifier react_fault.OutOfMemory other r = r

  pub tries_after_fault : (faults : N → ℕ) (by later : MemberValue N) (fault : ReactFault) (answer : Result (Option ReactedIn) ReactFault)
      → (fault ≡ react_fault.RoundsSpent → old.seat.view.seen ≡ 2 ^ 64 - 1) → Reacts parkers all_sure start old new m by (record { before = faults m.notifier; after = faults by.notifier }) (Err fault) → LooksAfter fault by later answer
      → Tries parkers all_sure start old new m later (record { before = faults m.notifier; after = faults later.notifier }) answer
  tries_after_fault faults by later fault answer at_end r (HandsOn other same is) =
      subst (λ (p : MemberValue N × Result (Option ReactedIn) ReactFault). Tries parkers all_sure start old new m p.0 (record { before = faults m.notifier; after = faults p.0.notifier }) p.1)
      (λ i. (sym same i, sym is i)) (handed_on by _ fault other r)
  tries_after_fault faults by later fault answer at_end r (FindsEnd found spent did end is) =
      let none = subst (λ f. Reacts parkers all_sure start old new m by (record { before = faults m.notifier; after = faults by.notifier }) (Err f)) spent r in
      subst (λ (a : Result (Option ReactedIn) ReactFault). Tries parkers all_sure start old new m later (record { before = faults m.notifier; after = faults later.notifier }) a)
      (sym is) (none.0, at_end spent, did ∙ (λ i. member_did (word_step.LoadTicker (end i)) (none.1 i)))
  tries_after_fault faults by later fault answer at_end r (FindsLess found spent did below is) =
      let none = subst (λ f. Reacts parkers all_sure start old new m by (record { before = faults m.notifier; after = faults by.notifier }) (Err f)) spent r in
      subst (λ (a : Result (Option ReactedIn) ReactFault). Tries parkers all_sure start old new m later (record { before = faults m.notifier; after = faults later.notifier }) a)
      (sym is) (nothing_begun old new m by later found none.0 (at_end spent) none.1 did below)

module _ {N C : Type 0} {faults : N → ℕ} {is_sure : N → Bool} {calls_of : N → ℕ} {bounds_of : C → ClockBounds} {latest_of : C → ℕ} {shared : SharedValue} where
  -- what the call and the look keep of the thread
  pub keeps_after : (fault : ReactFault) (a b c : MemberValue N) (x y : C) (answer : Result (Option ReactedIn) ReactFault)
      → (fault ≢ react_fault.RoundsSpent → HasFaultCause faults is_sure a b fault)
      → KeepsThread faults is_sure {X = Unit {0}} calls_of bounds_of latest_of shared a b x y (Ok tt) → LooksAfter fault b c answer
      → KeepsThread faults is_sure calls_of bounds_of latest_of shared a c x y answer
  keeps_after fault a b c x y answer causes k (HandsOn other same is) =
      subst (λ (p : MemberValue N × Result (Option ReactedIn) ReactFault). KeepsThread faults is_sure calls_of bounds_of latest_of shared a p.0 x y p.1)
      (λ i. (sym same i, sym is i)) (keeps_as (λ none. causes other) k)
  keeps_after fault a b c x y answer causes k (FindsEnd found spent did end is) =
      let view = ap (λ (m : MemberValue N). m.pass.view) did in
      subst (λ (q : Result (Option ReactedIn) ReactFault). KeepsThread faults is_sure calls_of bounds_of latest_of shared a c x y q) (sym is)
      (keeps_then k (keeps_as (λ none. spent_cause b c found end view) (keeps_look found k.belongs (looked_rest found b c did) (ap (λ (m : MemberValue N). m.pass.words) did) view)))
  keeps_after fault a b c x y answer causes k (FindsLess found spent did below is) =
      let view = ap (λ (m : MemberValue N). m.pass.view) did in
      subst (λ (q : Result (Option ReactedIn) ReactFault). KeepsThread faults is_sure calls_of bounds_of latest_of shared a c x y q) (sym is)
      (keeps_then k (keeps_as (λ none. none) (keeps_look found k.belongs (looked_rest found b c did) (ap (λ (m : MemberValue N). m.pass.words) did) view)))
