-- What is asked for contains what is armed, after each call.
use Rattle.std.proofs.Common.{◌≡◌, ◌==◌, ℕ, Bool, true, false, if◌then◌else◌, Option, None, Some, refl, sym, ap, subst}
use mathlib.Core.Path.{fun_ext}
use Rattle.std.proofs.lemmas.Bool.{eqb-true}
use Rattle.aio_base.specs.declared.names.Key.{Key}
use Rattle.aio_base.specs.declared.names.Interest.{Interest}
use Rattle.aio_base.specs.declared.names.TheConstants.Interest.{NONE}
use Rattle.aio_base.specs.Devices.{Interests, with_interest, changed_by, ArmCall, AddOf, ArmOf, RemoveOf}
use Rattle.aio_modes.specs.declared.mode.Mode.{Mode}
use Rattle.aio_modes.specs.declared.mode.Mode.TheVariants.{Level, Edge, EdgeOneshot}
use Rattle.aio_modes.specs.Raw.{RawLists, ToldAfter, after_call}
use Rattle.aio_modes.specs.OneShots.{IsAsked, AreAsked}
use Rattle.aio_modes.proofs.DirectionSets.{common_self}

pub same_is_asked : (mode : Mode) (on : Interest) → IsAsked mode on on
same_is_asked Level on = common_self on
same_is_asked Edge on = common_self on
same_is_asked EdgeOneshot on = refl

asked-if : (mode : Mode) (same : Bool) (x on armed : Interest) → IsAsked mode on armed → IsAsked mode (if same then x else on) (if same then x else armed)
asked-if mode true x on armed asked = same_is_asked mode x
asked-if mode false x on armed asked = asked

-- a call that did not fail makes the same of what is asked for and of what is armed
pub asked_after_call : (mode : Mode) (old new : Option RawLists) (call : ArmCall) (armed : Interests) → ToldAfter old new (after_call call) → AreAsked mode old armed → AreAsked mode new (changed_by call armed)
asked_after_call mode None None call armed told asked = tt
asked_after_call mode None (Some new) call armed told asked = absurd told
asked_after_call mode (Some old) None call armed told asked = absurd told
asked_after_call mode (Some old) (Some new) (AddOf key) armed told asked =
    subst (λ (lists : RawLists). AreAsked mode (Some lists) (changed_by (AddOf key) armed)) (sym told) (λ k. asked-if mode (k == key.0) NONE (old.on k) (armed k) (asked k))
asked_after_call mode (Some old) (Some new) (ArmOf key on) armed told asked =
    subst (λ (lists : RawLists). AreAsked mode (Some lists) (changed_by (ArmOf key on) armed)) (sym told) (λ k. asked-if mode (k == key.0) on (old.on k) (armed k) (asked k))
asked_after_call mode (Some old) (Some new) (RemoveOf key) armed told asked =
    subst (λ (lists : RawLists). AreAsked mode (Some lists) (changed_by (RemoveOf key) armed)) (sym told) (λ k. asked-if mode (k == key.0) NONE (old.on k) (armed k) (asked k))

-- where the lists stay, what is asked for does
pub asked_still : (mode : Mode) (old new : Option RawLists) (armed : Interests) → ToldAfter old new (λ lists. lists) → AreAsked mode old armed → AreAsked mode new armed
asked_still mode None None armed told asked = tt
asked_still mode None (Some new) armed told asked = absurd told
asked_still mode (Some old) None armed told asked = absurd told
asked_still mode (Some old) (Some new) armed told asked = subst (λ (lists : RawLists). AreAsked mode (Some lists) armed) (sym told) asked

armed-cases : (b : Bool) (k key : ℕ) (armed : Interests) → (b ≡ true → k ≡ key) → (if b then armed key else armed k) ≡ armed k
armed-cases true k key armed same = ap armed (sym (same refl))
armed-cases false k key armed same = refl

-- a key that is armed as it was leaves all interests
pub armed_as_it_was : (key : ℕ) (armed : Interests) → with_interest key (armed key) armed ≡ armed
armed_as_it_was key armed = fun_ext (λ k. armed-cases (k == key) k key armed (λ same. eqb-true k key same))

-- a raw setting of what is armed for a key
pub asked_after_setting : (mode : Mode) (old new : Option RawLists) (key : Key) (armed : Interests) → ToldAfter old new (after_call (ArmOf key (armed key.0))) → AreAsked mode old armed → AreAsked mode new armed
asked_after_setting mode old new key armed told asked =
    subst (AreAsked mode new) (armed_as_it_was key.0 armed) (asked_after_call mode old new (ArmOf key (armed key.0)) armed told asked)

-- what is ready says nothing of what is asked for
pub asked_with_same_on : (mode now : Mode) (old new : RawLists) (armed : Interests) → now ≡ mode → new.on ≡ old.on → AreAsked mode (Some old) armed → AreAsked now (Some new) armed
asked_with_same_on mode now old new armed same on asked =
    subst (λ (m : Mode). AreAsked m (Some new) armed) (sym same) (λ k. subst (λ (x : Interest). IsAsked mode x (armed k)) (sym (ap (λ (f : Interests). f k) on)) (asked k))
