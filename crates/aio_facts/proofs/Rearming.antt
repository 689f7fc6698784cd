-- What is armed once a key was armed for some directions, and what a poller tells then.
use Rattle.std.proofs.Common.{◌≡◌, ◌≢◌, ℕ, Bool, true, false, not, if◌then◌else◌, ◌&&◌, ◌||◌, ◌==◌, List, [], ◌∷◌, map, filter, Option, None, Some, Ok, Err, refl, sym, ap, ◌∙◌, ⊎_elim}
use Rattle.std.specs.List.{list_any}
use Rattle.std.proofs.lemmas.Bool.{cases_eq, eq-eqb, ne_eqb, eqb-true, and_parts}
use Rattle.std.proofs.lemmas.List.Folds.{list_any-append}
use Rattle.std.proofs.lemmas.Map.Views.{any-filter_same}
use Rattle.aio_base.specs.declared.names.Dir.{Dir}
use Rattle.aio_base.specs.declared.names.Interest.{Interest}
use Rattle.aio_base.specs.declared.names.Key.{Key}
use Rattle.aio_base.specs.Devices.{Interests, ArmCall, ArmOf, Arms, with_interest}
use Rattle.aio_base.specs.Moves.{interests_of}
use Rattle.aio_base.proofs.DirectionLemmas.{where_same}
use Rattle.aio_base.specs.World.{ArmedDirection, same_dir, has_dir, is_armed, set_armed}
use Rattle.aio_facts.specs.Armed.{AgreesWithArmed}

both_and : (b x y : Bool) → (b && x) || (b && y) ≡ b && (x || y)
both_and true x y = refl
both_and false x y = refl

and_false : (b : Bool) → false ≡ b && false
and_false true = refl
and_false false = refl

or_false : (b : Bool) → b || false ≡ b
or_false true = refl
or_false false = refl

of_key : (key : ℕ) (dirs : List Dir) (k : ℕ) (dir : Dir)
    → is_armed (map (λ d. record { key = key; dir = d }) dirs) k dir ≡ (key == k) && list_any (λ d. same_dir d dir) dirs
of_key key [] k dir = and_false (key == k)
of_key key (d ∷ dirs) k dir =
    ap (λ (b : Bool). ((key == k) && same_dir d dir) || b) (of_key key dirs k dir) ∙ both_and (key == k) (same_dir d dir) (list_any (λ d. same_dir d dir) dirs)

armed_is : (armed : List ArmedDirection) (key : ℕ) (dirs : List Dir) (k : ℕ) (dir : Dir)
    → is_armed (set_armed armed key dirs) k dir ≡ (not (k == key) && is_armed armed k dir) || ((key == k) && list_any (λ d. same_dir d dir) dirs)
armed_is armed key dirs k dir =
    list_any-append (λ (a : ArmedDirection). (a.key == k) && same_dir a.dir dir) (filter (λ (a : ArmedDirection). not (a.key == key)) armed) (map (λ d. record { key = key; dir = d }) dirs)
    ∙ ap (λ (b : Bool). b || is_armed (map (λ d. record { key = key; dir = d }) dirs) k dir)
    (any-filter_same (λ (a : ArmedDirection). (a.key == k) && same_dir a.dir dir) (λ (a : ArmedDirection). not (a.key == key)) (not (k == key))
    (λ a hit. ap (λ (m : ℕ). not (m == key)) (eqb-true a.key k (and_parts (a.key == k) (same_dir a.dir dir) hit).0)) armed)
    ∙ ap (λ (b : Bool). (not (k == key) && is_armed armed k dir) || b) (of_key key dirs k dir)

-- the key is armed for these directions
pub armed_here : (armed : List ArmedDirection) (key : ℕ) (dirs : List Dir) (dir : Dir) → is_armed (set_armed armed key dirs) key dir ≡ list_any (λ d. same_dir d dir) dirs
armed_here armed key dirs dir =
    armed_is armed key dirs key dir
    ∙ ap (λ (same : Bool). (not same && is_armed armed key dir) || (same && list_any (λ d. same_dir d dir) dirs)) (eq-eqb key key refl)

-- and every other key as before
pub armed_aside : (armed : List ArmedDirection) (key : ℕ) (dirs : List Dir) (k : ℕ) (dir : Dir) → k ≢ key → is_armed (set_armed armed key dirs) k dir ≡ is_armed armed k dir
armed_aside armed key dirs k dir apart =
    armed_is armed key dirs k dir
    ∙ ap (λ (same : Bool). (not same && is_armed armed k dir) || ((key == k) && list_any (λ d. same_dir d dir) dirs)) (ne_eqb k key apart)
    ∙ ap (λ (same : Bool). is_armed armed k dir || (same && list_any (λ d. same_dir d dir) dirs)) (ne_eqb key k (λ (e : key ≡ k). apart (sym e)))
    ∙ or_false (is_armed armed k dir)

interests_here : (armed : List ArmedDirection) (key : ℕ) (dirs : List Dir) (on : Interest) → ((dir : Dir) → list_any (λ d. same_dir d dir) dirs ≡ has_dir on dir)
    → on ≡ interests_of (set_armed armed key dirs) key
interests_here armed key dirs on wants =
    where_same (has_dir on) (is_armed (set_armed armed key dirs) key) (λ dir. sym (armed_here armed key dirs dir ∙ wants dir))

interests_are : (armed : List ArmedDirection) (key : ℕ) (dirs : List Dir) (on : Interest) → ((dir : Dir) → list_any (λ d. same_dir d dir) dirs ≡ has_dir on dir)
    → (k : ℕ) → with_interest key on (interests_of armed) k ≡ interests_of (set_armed armed key dirs) k
interests_are armed key dirs on wants k =
    ⊎_elim
    (λ (same : k ≡ key). rw (same, eq-eqb key key refl) (interests_here armed key dirs on wants))
    (λ (apart : k ≢ key). ap (λ (same : Bool). if same then on else interests_of armed k) (ne_eqb k key apart)
    ∙ where_same (is_armed armed k) (is_armed (set_armed armed key dirs) k) (λ dir. sym (armed_aside armed key dirs k dir apart)))
    (cases_eq k key)

-- what a poller tells once it was armed
pub tells_armed : (old new : Option Interests) (armed : List ArmedDirection) (key : Key) (on : Interest) (dirs : List Dir)
    → ((dir : Dir) → list_any (λ d. same_dir d dir) dirs ≡ has_dir on dir) → AgreesWithArmed old armed → Arms old (ArmOf key on) (Ok tt) new → AgreesWithArmed new (set_armed armed key.0 dirs)
tells_armed None None armed key on dirs wants tells arms = tt
tells_armed None (Some new) armed key on dirs wants tells arms = absurd arms
tells_armed (Some old) None armed key on dirs wants tells arms = absurd arms
tells_armed (Some old) (Some new) armed key on dirs wants tells arms =
    λ k. arms k ∙ ap (λ (i : Interest). if k == key.0 then on else i) (tells k) ∙ interests_are armed key.0 dirs on wants k

-- and once it failed
pub tells_unarmed : (old new : Option Interests) (armed : List ArmedDirection) (call : ArmCall) → AgreesWithArmed old armed → Arms old call (Err (record {})) new → AgreesWithArmed new armed
tells_unarmed None None armed call tells arms = tt
tells_unarmed None (Some new) armed call tells arms = absurd arms
tells_unarmed (Some old) None armed call tells arms = absurd arms
tells_unarmed (Some old) (Some new) armed call tells arms = λ k. arms k ∙ tells k
