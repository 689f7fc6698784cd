-- What is armed once events were given, each of which clears its key.
use Rattle.std.proofs.Common.{◌≡◌, ◌≢◌, ℕ, Bool, true, false, not, if◌then◌else◌, ◌&&◌, ◌||◌, ◌==◌, IsTrue, List, [], ◌∷◌, filter, Option, None, Some, IfSome, sym, refl, ap, ◌∙◌, ⊎_elim}
use Rattle.std.proofs.lemmas.Bool.{cases_eq, ne_eqb, eqb-true, and_parts}
use Rattle.std.proofs.lemmas.List.Folds.{list_any-append}
use Rattle.std.proofs.lemmas.Map.Views.{any-filter_same}
use Rattle.aio_base.specs.declared.names.Dir.{Dir}
use Rattle.aio_base.specs.declared.names.Event.{Event}
use Rattle.aio_base.specs.declared.names.Interest.{Interest}
use Rattle.aio_base.specs.declared.names.TheConstants.Interest.{NONE}
use Rattle.aio_base.specs.Devices.{Interests, Becomes, with_interest, clear_interests}
use Rattle.aio_base.specs.Moves.{interests_of}
use Rattle.aio_base.proofs.DirectionLemmas.{has_dir-where, where_same}
use Rattle.aio_base.specs.World.{ArmedDirection, same_dir, has_dir, interest_where, is_armed, set_armed, clear_armed}
use Rattle.aio_react.specs.declared.entries.SourceEntry.{SourceEntry}
use Rattle.aio_react.specs.Cores.{entry_at}
use Rattle.aio_react.specs.Standing.{AreAsked, is_in_hand}
use Rattle.aio_facts.specs.Armed.{AgreesWithArmed}

or_nothing : (b : Bool) → b || false ≡ b
or_nothing true = refl
or_nothing false = refl

-- a key that was cleared is armed in no direction, and every other one as before
pub unset_is : (armed : List ArmedDirection) (key k : ℕ) (dir : Dir) → is_armed (set_armed armed key []) k dir ≡ not (k == key) && is_armed armed k dir
unset_is armed key k dir =
    list_any-append (λ (a : ArmedDirection). (a.key == k) && same_dir a.dir dir) (filter (λ (a : ArmedDirection). not (a.key == key)) armed) []
    ∙ or_nothing _
    ∙ any-filter_same (λ (a : ArmedDirection). (a.key == k) && same_dir a.dir dir) (λ (a : ArmedDirection). not (a.key == key)) (not (k == key))
    (λ a hit. ap (λ (m : ℕ). not (m == key)) (eqb-true a.key k (and_parts (a.key == k) (same_dir a.dir dir) hit).0)) armed

either_interest : (hit : Bool) (on : Interest) → (if hit then NONE else on) ≡ interest_where (λ dir. not hit && has_dir on dir)
either_interest true on = refl
either_interest false on = refl

pub unset_tells : (interests : Interests) (armed : List ArmedDirection) (key : ℕ) → ((k : ℕ) → interests k ≡ interests_of armed k)
    → (k : ℕ) → with_interest key NONE interests k ≡ interests_of (set_armed armed key []) k
unset_tells interests armed key tells k =
    either_interest (k == key) (interests k)
    ∙ ap (λ (on : Interest). interest_where (λ dir. not (k == key) && has_dir on dir)) (tells k)
    ∙ where_same (λ dir. not (k == key) && has_dir (interests_of armed k) dir) (is_armed (set_armed armed key []) k)
    (λ dir. ap (λ (has : Bool). not (k == key) && has) (has_dir-where (is_armed armed k) dir) ∙ sym (unset_is armed key k dir))

cleared_tells : (events : List Event) (interests : Interests) (armed : List ArmedDirection) → ((k : ℕ) → interests k ≡ interests_of armed k)
    → (k : ℕ) → clear_interests events interests k ≡ interests_of (clear_armed armed events) k
cleared_tells [] interests armed tells k = tells k
cleared_tells (event ∷ events) interests armed tells k =
    cleared_tells events (with_interest event.key.0 NONE interests) (set_armed armed event.key.0 []) (unset_tells interests armed event.key.0 tells) k

-- what a poller tells after it gave events is armed
pub tells_cleared : (old new : Option Interests) (armed : List ArmedDirection) (events : List Event) → AgreesWithArmed old armed → Becomes old new (clear_interests events)
    → AgreesWithArmed new (clear_armed armed events)
tells_cleared None None armed events tells becomes = tt
tells_cleared None (Some new) armed events tells becomes = absurd becomes
tells_cleared (Some old) None armed events tells becomes = absurd becomes
tells_cleared (Some old) (Some new) armed events tells becomes = λ k. becomes k ∙ cleared_tells events old armed tells k

-- ## What was asked for

or_true : (b : Bool) → IsTrue (b || true)
or_true true = refl
or_true false = refl

-- a number equals another as the other equals it
same_turned : (a b : ℕ) → (a == b) ≡ (b == a)
same_turned a b = ⊎_elim (λ (e : a ≡ b). rw e refl) (λ (apart : a ≢ b). ne_eqb a b apart ∙ sym (ne_eqb b a (λ (e : b ≡ a). apart (sym e)))) (cases_eq a b)

next_armed : (hit was now others : Bool) → IsTrue was → (IsTrue (not hit && was) → IsTrue (now || others)) → IsTrue (now || (hit || others))
next_armed true was now others is step = or_true now
next_armed false was now others is step = step is

-- a direction that was armed still is, or an event of its key is among those given
armed_or_given : (events : List Event) (armed : List ArmedDirection) (key : ℕ) (dir : Dir) → IsTrue (is_armed armed key dir)
    → IsTrue (is_armed (clear_armed armed events) key dir || is_in_hand events key)
armed_or_given [] armed key dir is = rw is refl
armed_or_given (event ∷ events) armed key dir is =
    next_armed (event.key.0 == key) (is_armed armed key dir) (is_armed (clear_armed (set_armed armed event.key.0 []) events) key dir) (is_in_hand events key) is
    (λ stays. armed_or_given events (set_armed armed event.key.0 []) key dir (unset_is armed event.key.0 key dir ∙ ap (λ (b : Bool). not b && is_armed armed key dir) (same_turned key event.key.0) ∙ stays))

asked_place : (place : Option SourceEntry) (armed : List ArmedDirection) (events : List Event) (key : ℕ) (dir : Dir)
    → IfSome place (λ (e : SourceEntry). IsTrue (has_dir e.source.asked dir) → IsTrue (is_armed armed key dir || false))
    → IfSome place (λ (e : SourceEntry). IsTrue (has_dir e.source.asked dir) → IsTrue (is_armed (clear_armed armed events) key dir || is_in_hand events key))
asked_place None armed events key dir asked = tt
asked_place (Some e) armed events key dir asked = λ wants. armed_or_given events armed key dir (sym (or_nothing _) ∙ asked wants)

-- what was asked for is armed, or an event of the source is in hand
pub asked_cleared : (sources : List (Option SourceEntry)) (armed : List ArmedDirection) (events : List Event) → AreAsked sources armed []
    → AreAsked sources (clear_armed armed events) events
asked_cleared sources armed events asked key dir = asked_place (entry_at sources key) armed events key dir (asked key dir)
