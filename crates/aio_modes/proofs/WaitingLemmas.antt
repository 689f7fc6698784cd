-- What a wait of the adapter makes of what is asked for, owed and counted.
use Rattle.std.proofs.Common.{◌≡◌, ◌⊎◌, ◌==◌, ℕ, Bool, true, false, if◌then◌else◌, List, [], ◌∷◌, Option, None, Some, Result, Ok, Err, refl, inl, inr, sym, ap, subst, ◌∙◌, ⊎_elim, cond}
use mathlib.Core.Path.{fun_ext}
use Rattle.aio_base.specs.declared.names.Key.{Key}
use Rattle.aio_base.specs.declared.names.Interest.{Interest}
use Rattle.aio_base.specs.declared.names.TheConstants.Interest.{NONE}
use Rattle.aio_base.specs.declared.names.Event.{Event}
use Rattle.aio_base.specs.declared.outcomes.Failed.{Failed}
use Rattle.aio_base.specs.declared.outcomes.Waited.{Waited}
use Rattle.aio_base.specs.declared.outcomes.Waited.TheVariants.{Given, Interrupted}
use Rattle.aio_base.specs.Devices.{Interests, with_interest, clear_interests, WaitCall, PollerMove, Armed, Awaited, ArmOf}
use Rattle.aio_base.specs.Waits.{IsCountOf}
use Rattle.aio_base.specs.World.{has_any}
use Rattle.aio_modes.specs.declared.mode.Mode.{Mode}
use Rattle.aio_modes.specs.declared.mode.Mode.TheVariants.{Level, Edge, EdgeOneshot}
use Rattle.aio_modes.specs.Interests.{common, Cut, cut_event}
use Rattle.aio_modes.specs.Raw.{RawLists, RawDid, RawTells, Owed}
use Rattle.aio_modes.specs.OneShots.{AreAsked, SetsOne, SetsEach}
use Rattle.aio_modes.proofs.DirectionSets.{common_none, common_within}
use Rattle.aio_modes.proofs.AskingLemmas.{asked_after_setting, asked_still}
use Rattle.aio_modes.proofs.KeepingLemmas.{AreOwed, given_is_owed}

-- ## The settings

asked-by-answer : (mode : Mode) (old new : Option RawLists) (key : Key) (armed : Interests) (answer : Result (Unit {0}) Failed) → RawTells mode (Armed (ArmOf key (armed key.0)) answer) old new → AreAsked mode old armed → AreAsked mode new armed
asked-by-answer mode old new key armed (Ok done) tells asked = asked_after_setting mode old new key armed tells asked
asked-by-answer mode old new key armed (Err failed) tells asked = asked_still mode old new armed tells asked

asked-after-one : {S : Type 0} (step : S → PollerMove → S → Type 0) (told : S → Option RawLists) (mode : S → Mode) (count : S → ℕ) (sure : S → Bool) (armed : Interests) (old : S) (key : Key) (new : S) → SetsOne (RawDid step told mode count sure) armed old key new → AreAsked (mode old) (told old) armed → AreAsked (mode new) (told new) armed
asked-after-one step told mode count sure armed old key new one asked =
    ⊎_elim
    (λ set. subst (λ (m : Mode). AreAsked m (told new) armed) (sym set.1.1.same_mode) (asked-by-answer (mode old) (told old) (told new) key armed set.1.0 set.1.1.lists asked))
    (λ left. subst (λ s. AreAsked (mode s) (told s) armed) (sym left.1) asked)
    one

pub asked_after_settings : {S : Type 0} (step : S → PollerMove → S → Type 0) (told : S → Option RawLists) (mode : S → Mode) (count : S → ℕ) (sure : S → Bool) (armed : Interests) (old : S) (keys : List Key) (new : S) → SetsEach (RawDid step told mode count sure) armed old keys new → AreAsked (mode old) (told old) armed → AreAsked (mode new) (told new) armed
asked_after_settings step told mode count sure armed old [] new same asked = subst (λ s. AreAsked (mode s) (told s) armed) (sym same) asked
asked_after_settings step told mode count sure armed old (key ∷ keys) new (mid, one, rest) asked =
    asked_after_settings step told mode count sure armed mid keys new rest (asked-after-one step told mode count sure armed old key mid one asked)

-- ## The raw wait

either-none : (same : Bool) (on x : Interest) → x ≡ (if same then NONE else on) → (x ≡ NONE) ⊎ (x ≡ on)
either-none true on x is = inl is
either-none false on x is = inr is

clear-cases : (events : List Event) (armed : Interests) (key : ℕ) → (clear_interests events armed key ≡ NONE) ⊎ (clear_interests events armed key ≡ armed key)
clear-cases [] armed key = inr refl
clear-cases (event ∷ events) armed key =
    ⊎_elim
    (λ none. inl none)
    (λ same. either-none (key == event.key.0) (armed key) (clear_interests (event ∷ events) armed key) same)
    (clear-cases events (with_interest event.key.0 NONE armed) key)

contained : (on armed now : Interest) → common armed on ≡ armed → (now ≡ NONE) ⊎ (now ≡ armed) → common now on ≡ now
contained on armed now asked cases =
    ⊎_elim
    (λ (none : now ≡ NONE). subst (λ (x : Interest). common x on ≡ x) (sym none) (common_none on))
    (λ (same : now ≡ armed). subst (λ (x : Interest). common x on ≡ x) (sym same) asked)
    cases

kept-whole : (some : Bool) (event cut : Event) (later all : List Event) → some ≡ true → cut ≡ event → later ≡ all → cond some (cut ∷ later) later ≡ event ∷ all
kept-whole true event cut later all kept same rest = ap (λ (e : Event). e ∷ later) same ∙ ap (λ (es : List Event). event ∷ es) rest
kept-whole false event cut later all wrong same rest = absurd cc

-- where what is armed is what is asked for, nothing is cut off
pub cut_is_whole : (events : List Event) (owed armed : Interests) → ((k : ℕ) → common (owed k) (armed k) ≡ owed k) → AreOwed owed events → Cut events armed ≡ events
cut_is_whole [] owed armed within all = refl
cut_is_whole (event ∷ events) owed armed within (first, some, all) =
    let whole : common event.on (armed event.key.0) ≡ event.on = ap (λ (on : Interest). common on (armed event.key.0)) first ∙ within event.key.0 ∙ sym first in
    kept-whole (has_any (common event.on (armed event.key.0))) event (cut_event armed event) (Cut events armed) events (ap has_any whole ∙ some) (ap (λ (on : Interest). record event { on = on }) whole) (cut_is_whole events owed armed within all)

owed-within : (lists : RawLists) (armed : Interests) → ((k : ℕ) → lists.on k ≡ armed k) → (k : ℕ) → common (Owed EdgeOneshot lists k) (armed k) ≡ Owed EdgeOneshot lists k
owed-within lists armed asked k =
    subst (λ (x : Interest). common (Owed EdgeOneshot lists k) x ≡ Owed EdgeOneshot lists k) (asked k) (common_within (lists.on k) (lists.edges k))

asked-after-given : (mode : Mode) (old new : Option RawLists) (call : WaitCall) (n : ℕ) (added : List Event) (armed : Interests) → RawTells mode (Awaited call (Ok (Given n)) added) old new → AreAsked mode old armed → AreAsked mode new (clear_interests (Cut added armed) armed)
asked-after-given mode None None call n added armed tells asked = tt
asked-after-given mode None (Some new) call n added armed (given, told) asked = absurd told
asked-after-given mode (Some old) None call n added armed (given, told) asked = absurd told
asked-after-given Level (Some old) (Some new) call n added armed (given, told) asked =
    subst (λ (lists : RawLists). AreAsked Level (Some lists) (clear_interests (Cut added armed) armed)) (sym told) (λ k. contained (old.on k) (armed k) (clear_interests (Cut added armed) armed k) (asked k) (clear-cases (Cut added armed) armed k))
asked-after-given Edge (Some old) (Some new) call n added armed (given, told) asked =
    subst (λ (lists : RawLists). AreAsked Edge (Some lists) (clear_interests (Cut added armed) armed)) (sym told) (λ k. contained (old.on k) (armed k) (clear_interests (Cut added armed) armed k) (asked k) (clear-cases (Cut added armed) armed k))
asked-after-given EdgeOneshot (Some old) (Some new) call n added armed (given, told) asked =
    let all : AreOwed (Owed EdgeOneshot old) added = subst (AreOwed (Owed EdgeOneshot old)) (sym given) (given_is_owed (Owed EdgeOneshot old) 4096 call.room) in
    let whole = cut_is_whole added (Owed EdgeOneshot old) armed (owed-within old armed asked) all in
    subst (λ (lists : RawLists). AreAsked EdgeOneshot (Some lists) (clear_interests (Cut added armed) armed)) (sym told)
    (λ k. ap (λ (on : Interests). clear_interests added on k) (fun_ext asked) ∙ ap (λ (events : List Event). clear_interests events armed k) (sym whole))

pub asked_after_wait : (mode : Mode) (old new : Option RawLists) (call : WaitCall) (answer : Result Waited Failed) (added : List Event) (armed : Interests) → IsCountOf answer call.room added → RawTells mode (Awaited call answer added) old new → AreAsked mode old armed → AreAsked mode new (clear_interests (Cut added armed) armed)
asked_after_wait mode old new call (Ok (Given n)) added armed counted tells asked = asked-after-given mode old new call n added armed tells asked
asked_after_wait mode old new call (Ok Interrupted) added armed none tells asked =
    subst (λ (events : List Event). AreAsked mode new (clear_interests (Cut events armed) armed)) (sym none) (asked_still mode old new armed tells asked)
asked_after_wait mode old new call (Err failed) added armed none tells asked =
    subst (λ (events : List Event). AreAsked mode new (clear_interests (Cut events armed) armed)) (sym none) (asked_still mode old new armed tells asked)
