-- What is owed of a key that no event names stays owed.
use Rattle.std.proofs.Common.{◌≡◌, ◌⊎◌, ◌==◌, ℕ, Bool, true, false, if◌then◌else◌, List, [], ◌∷◌, Option, None, Some, Result, Ok, Err, refl, inl, inr, sym, ap, subst, ◌∙◌, ⊎_elim}
use Rattle.std.proofs.lemmas.Bool.{eqb-false, ne_eqb}
use Rattle.std.specs.Prelude.{⊤}
use Rattle.aio_base.specs.declared.names.Key.{Key}
use Rattle.aio_base.specs.declared.names.Dir.{Dir}
use Rattle.aio_base.specs.declared.names.Interest.{Interest}
use Rattle.aio_base.specs.declared.names.Event.{Event}
use Rattle.aio_base.specs.declared.outcomes.Failed.{Failed}
use Rattle.aio_base.specs.declared.outcomes.Waited.{Waited}
use Rattle.aio_base.specs.declared.outcomes.Waited.TheVariants.{Given, Interrupted}
use Rattle.aio_base.specs.Devices.{Interests, with_interest, clear_interests, WaitCall, PollerMove, Armed, Awaited, ArmOf}
use Rattle.aio_base.specs.Waits.{IsCountOf}
use Rattle.aio_base.specs.World.{has_dir}
use Rattle.aio_modes.specs.declared.mode.Mode.{Mode}
use Rattle.aio_modes.specs.declared.mode.Mode.TheVariants.{Level, Edge, EdgeOneshot}
use Rattle.aio_modes.specs.Interests.{common, Cut, names_key, names_direction}
use Rattle.aio_modes.specs.Raw.{RawLists, RawDid, RawTells, ToldAfter, Owed, after_call, after_given}
use Rattle.aio_modes.specs.OneShots.{SetsOne, SetsEach, SwallowsNothing, owed_of, keys_to_set}
use Rattle.aio_modes.proofs.KeepingLemmas.{AreOwed, given_is_owed, named_is_given, unnamed_stays, unnamed_keeps_edges, cut_names_no_more, other-key}
use Rattle.aio_modes.proofs.SettingLemmas.{keys_of}

-- two lists have the same of a key
abbrev pub SameAt : ℕ → Option RawLists → Option RawLists → Type 0
SameAt key None None = ⊤
SameAt key None (Some new) = ⊥
SameAt key (Some old) None = ⊥
SameAt key (Some old) (Some new) = (new.on key ≡ old.on key) × (new.ready key ≡ old.ready key) × (new.edges key ≡ old.edges key)

pub same-self : (key : ℕ) (told : Option RawLists) → SameAt key told told
same-self key None = tt
same-self key (Some lists) = (refl, refl, refl)

pub same-then : (key : ℕ) (a b c : Option RawLists) → SameAt key a b → SameAt key b c → SameAt key a c
same-then key None None None one two = tt
same-then key None None (Some c) one two = absurd two
same-then key None (Some b) c one two = absurd one
same-then key (Some a) None c one two = absurd one
same-then key (Some a) (Some b) None one two = absurd two
same-then key (Some a) (Some b) (Some c) (on, ready, edges) (on2, ready2, edges2) = (on2 ∙ on, ready2 ∙ ready, edges2 ∙ edges)

same-told : (key : ℕ) (old new : Option RawLists) → ToldAfter old new (λ lists. lists) → SameAt key old new
same-told key None None told = tt
same-told key None (Some new) told = absurd told
same-told key (Some old) None told = absurd told
same-told key (Some old) (Some new) told = subst (λ (lists : RawLists). SameAt key (Some old) (Some lists)) (sym told) (refl, refl, refl)

elsewhere : (key other : ℕ) (on : Interest) (interests : Interests) → other == key ≡ false → with_interest other on interests key ≡ interests key
elsewhere key other on interests apart = ap (λ (same : Bool). if same then on else interests key) (ne_eqb key other (λ same. eqb-false other key apart (sym same)))

same-set : (key : ℕ) (old new : Option RawLists) (at : Key) (on : Interest) → at.0 == key ≡ false → ToldAfter old new (after_call (ArmOf at on)) → SameAt key old new
same-set key None None at on apart told = tt
same-set key None (Some new) at on apart told = absurd told
same-set key (Some old) None at on apart told = absurd told
same-set key (Some old) (Some new) at on apart told =
    subst (λ (lists : RawLists). SameAt key (Some old) (Some lists)) (sym told)
    (elsewhere key at.0 on old.on apart, refl, elsewhere key at.0 _ old.edges apart)

same-by-answer : (mode : Mode) (key : ℕ) (old new : Option RawLists) (at : Key) (on : Interest) (answer : Result (Unit {0}) Failed) → at.0 == key ≡ false → RawTells mode (Armed (ArmOf at on) answer) old new → SameAt key old new
same-by-answer mode key old new at on (Ok done) apart tells = same-set key old new at on apart tells
same-by-answer mode key old new at on (Err failed) apart tells = same-told key old new tells

same-after-one : {S : Type 0} (step : S → PollerMove → S → Type 0) (told : S → Option RawLists) (mode : S → Mode) (count : S → ℕ) (sure : S → Bool) (armed : Interests) (old : S) (at : Key) (new : S) (key : ℕ) → at.0 == key ≡ false → SetsOne (RawDid step told mode count sure) armed old at new → SameAt key (told old) (told new)
same-after-one step told mode count sure armed old at new key apart one =
    ⊎_elim
    (λ set. same-by-answer (mode old) key (told old) (told new) at (armed at.0) set.1.0 apart set.1.1.lists)
    (λ left. subst (λ s. SameAt key (told old) (told s)) (sym left.1) (same-self key (told old)))
    one

-- settings of other keys leave what there is of a key
same-after-settings : {S : Type 0} (step : S → PollerMove → S → Type 0) (told : S → Option RawLists) (mode : S → Mode) (count : S → ℕ) (sure : S → Bool) (armed : Interests) (old : S) (events : List Event) (new : S) (key : ℕ) → names_key events key ≡ false → SetsEach (RawDid step told mode count sure) armed old (keys_of events) new → SameAt key (told old) (told new)
same-after-settings step told mode count sure armed old [] new key unnamed same = subst (λ s. SameAt key (told old) (told s)) (sym same) (same-self key (told old))
same-after-settings step told mode count sure armed old (event ∷ events) new key unnamed (mid, one, rest) =
    let parts = other-key (event.key.0 == key) (names_key events key) unnamed in
    same-then key (told old) (told mid) (told new)
    (same-after-one step told mode count sure armed old event.key mid key parts.here one)
    (same-after-settings step told mode count sure armed mid events new key parts.later rest)

pub same_after_settings : {S : Type 0} (step : S → PollerMove → S → Type 0) (told : S → Option RawLists) (mode : S → Mode) (count : S → ℕ) (sure : S → Bool) (m : Mode) (armed : Interests) (old : S) (events : List Event) (new : S) (key : ℕ) → names_key events key ≡ false → SetsEach (RawDid step told mode count sure) armed old (keys_to_set m events) new → SameAt key (told old) (told new)
same_after_settings step told mode count sure Level armed old events new key unnamed sets = same-after-settings step told mode count sure armed old events new key unnamed sets
same_after_settings step told mode count sure Edge armed old events new key unnamed sets = same-after-settings step told mode count sure armed old events new key unnamed sets
same_after_settings step told mode count sure EdgeOneshot armed old events new key unnamed same = subst (λ s. SameAt key (told old) (told s)) (sym same) (same-self key (told old))

-- events of other keys leave what there is of a key
same-given : (mode : Mode) (old : RawLists) (added : List Event) (key : ℕ) → names_key added key ≡ false → SameAt key (Some old) (Some (after_given mode added old))
same-given Level old added key unnamed = (refl, refl, refl)
same-given Edge old added key unnamed = (refl, refl, unnamed_keeps_edges added old.edges key unnamed)
same-given EdgeOneshot old added key unnamed = (unnamed_stays added old.on key unnamed, refl, unnamed_keeps_edges added old.edges key unnamed)

pub same_after_wait : (mode : Mode) (old new : Option RawLists) (call : WaitCall) (answer : Result Waited Failed) (added : List Event) (key : ℕ) → names_key added key ≡ false → RawTells mode (Awaited call answer added) old new → SameAt key old new
same_after_wait mode None None call (Ok (Given n)) added key unnamed tells = tt
same_after_wait mode None (Some new) call (Ok (Given n)) added key unnamed (given, told) = absurd told
same_after_wait mode (Some old) None call (Ok (Given n)) added key unnamed (given, told) = absurd told
same_after_wait mode (Some old) (Some new) call (Ok (Given n)) added key unnamed (given, told) =
    subst (λ (lists : RawLists). SameAt key (Some old) (Some lists)) (sym told) (same-given mode old added key unnamed)
same_after_wait mode old new call (Ok Interrupted) added key unnamed tells = same-told key old new tells
same_after_wait mode old new call (Err failed) added key unnamed tells = same-told key old new tells

owed-same : (mode : Mode) (old new : Option RawLists) (key : ℕ) → SameAt key old new → owed_of mode new key ≡ owed_of mode old key
owed-same mode None None key same = refl
owed-same mode None (Some new) key same = absurd same
owed-same mode (Some old) None key same = absurd same
owed-same Level (Some old) (Some new) key (on, ready, edges) = ap (λ (x : Interest). common x (new.ready key)) on ∙ ap (λ (x : Interest). common (old.on key) x) ready
owed-same Edge (Some old) (Some new) key (on, ready, edges) = ap (λ (x : Interest). common x (new.edges key)) on ∙ ap (λ (x : Interest). common (old.on key) x) edges
owed-same EdgeOneshot (Some old) (Some new) key (on, ready, edges) = ap (λ (x : Interest). common x (new.edges key)) on ∙ ap (λ (x : Interest). common (old.on key) x) edges

are-owed : (mode : Mode) (lists : RawLists) (new : Option RawLists) (call : WaitCall) (answer : Result Waited Failed) (added : List Event) → IsCountOf answer call.room added → RawTells mode (Awaited call answer added) (Some lists) new → AreOwed (Owed mode lists) added
are-owed mode lists new call (Ok (Given n)) added counted (given, told) = subst (AreOwed (Owed mode lists)) (sym given) (given_is_owed (Owed mode lists) 4096 call.room)
are-owed mode lists new call (Ok Interrupted) added none tells = subst (AreOwed (Owed mode lists)) (sym none) tt
are-owed mode lists new call (Err failed) added none tells = subst (AreOwed (Owed mode lists)) (sym none) tt

swallow-cases : (named : Bool) (mode : Mode) (lists : RawLists) (mid new : Option RawLists) (call : WaitCall) (answer : Result Waited Failed) (raw : List Event) (armed : Interests) (key : ℕ) (dir : Dir) → names_key raw key ≡ named → IsCountOf answer call.room raw → RawTells mode (Awaited call answer raw) (Some lists) mid → (names_key raw key ≡ false → SameAt key mid new) → has_dir (common (Owed mode lists key) (armed key)) dir ≡ true → (names_direction (Cut raw armed) key dir ≡ true) ⊎ (has_dir (common (owed_of mode new key) (clear_interests (Cut raw armed) armed key)) dir ≡ true)
swallow-cases true mode lists mid new call answer raw armed key dir named counted tells later owed =
    inl (named_is_given raw (Owed mode lists) armed key dir (are-owed mode lists mid call answer raw counted tells) owed named)
swallow-cases false mode lists mid new call answer raw armed key dir unnamed counted tells later owed =
    let same = same-then key (Some lists) mid new (same_after_wait mode (Some lists) mid call answer raw key unnamed tells) (later unnamed) in
    inr (ap (λ (x : Interest). has_dir (common x (clear_interests (Cut raw armed) armed key)) dir) (owed-same mode (Some lists) new key same)
    ∙ ap (λ (x : Interest). has_dir (common (Owed mode lists key) x) dir) (unnamed_stays (Cut raw armed) armed key (cut_names_no_more raw armed key unnamed))
    ∙ owed)

pub swallows_nothing : (mode : Mode) (old mid new : Option RawLists) (call : WaitCall) (answer : Result Waited Failed) (raw : List Event) (armed : Interests) → IsCountOf answer call.room raw → RawTells mode (Awaited call answer raw) old mid → ((key : ℕ) → names_key raw key ≡ false → SameAt key mid new) → SwallowsNothing mode old armed (Cut raw armed) new (clear_interests (Cut raw armed) armed)
swallows_nothing mode None mid new call answer raw armed counted tells later = tt
swallows_nothing mode (Some lists) mid new call answer raw armed counted tells later =
    λ key dir owed. swallow-cases (names_key raw key) mode lists mid new call answer raw armed key dir refl counted tells (later key) owed
