-- Nothing that is armed and owed is swallowed.
use Rattle.std.proofs.Common.{◌≡◌, ◌==◌, ◌&&◌, ◌||◌, ◌+◌, ℕ, zero, suc, Bool, true, false, cond, if◌then◌else◌, List, [], ◌∷◌, map, filter, take, refl, sym, ap, ◌∙◌}
use Rattle.std.specs.List.{range_with_len}
use Rattle.std.proofs.lemmas.Bool.{eqb-true, eqb-false, ne_eqb}
use Rattle.aio_base.specs.declared.names.Interest.{Interest}
use Rattle.aio_base.specs.declared.names.TheConstants.Interest.{NONE}
use Rattle.aio_base.specs.declared.names.Dir.{Dir}
use Rattle.aio_base.specs.declared.names.Event.{Event}
use Rattle.aio_base.specs.Devices.{Interests, with_interest, clear_interests}
use Rattle.aio_base.specs.World.{except, has_any, has_dir}
use Rattle.aio_modes.specs.Interests.{common, has_directions, cut_event, Cut, names_key, names_direction}
use Rattle.aio_modes.specs.Raw.{owed_events, event_of, lessened}
use Rattle.aio_modes.proofs.DirectionSets.{some_direction}

-- an event with the directions that are owed of its key
abbrev pub IsOwed : Interests → Event → Type 0
IsOwed owed event = event.on ≡ owed event.key.0

-- each of these events is
abbrev pub AreOwed : Interests → List Event → Type 0
AreOwed owed [] = Unit {0}
AreOwed owed (event ∷ events) = IsOwed owed event × (has_any event.on ≡ true) × AreOwed owed events

owed-first : (some : Bool) (owed : Interests) (a : ℕ) (later : List Event) → has_any (owed a) ≡ some → AreOwed owed later → AreOwed owed (cond some (event_of owed a ∷ later) later)
owed-first true owed a later is all = (refl, is, all)
owed-first false owed a later is all = all

owed-filtered : (owed : Interests) (a n : ℕ) → AreOwed owed (filter has_directions (map (event_of owed) (range_with_len a n)))
owed-filtered owed a zero = tt
owed-filtered owed a (suc n) = owed-first (has_any (owed a)) owed a (filter has_directions (map (event_of owed) (range_with_len (a + 1) n))) refl (owed-filtered owed (a + 1) n)

owed-taken : (owed : Interests) (room : ℕ) (events : List Event) → AreOwed owed events → AreOwed owed (take room events)
owed-taken owed zero events all = tt
owed-taken owed (suc room) [] all = tt
owed-taken owed (suc room) (event ∷ events) (first, some, all) = (first, some, owed-taken owed room events all)

-- what a raw poller gives is what is owed
pub given_is_owed : (owed : Interests) (n room : ℕ) → AreOwed owed (take room (owed_events owed n))
unfolding owed_events
given_is_owed owed n room = owed-taken owed room (owed_events owed n) (owed-filtered owed 0 n)

-- the first is not of the key, and none of the later ones is
pub record Neither (same rest : Bool) : Type 0 where
  pub here : same ≡ false
  pub later : rest ≡ false

pub other-key : (same rest : Bool) → same || rest ≡ false → Neither same rest
other-key true rest wrong = absurd cc
other-key false rest none = record { here = refl; later = none }

other-interest : (key gone : ℕ) (on : Interest) (interests : Interests) → gone == key ≡ false → with_interest gone on interests key ≡ interests key
other-interest key gone on interests other = ap (λ (same : Bool). if same then on else interests key) (ne_eqb key gone (λ same. eqb-false gone key other (sym same)))

-- a key that no event names keeps what is armed
pub unnamed_stays : (events : List Event) (armed : Interests) (key : ℕ) → names_key events key ≡ false → clear_interests events armed key ≡ armed key
unnamed_stays [] armed key unnamed = refl
unnamed_stays (event ∷ events) armed key unnamed =
    let parts = other-key (event.key.0 == key) (names_key events key) unnamed in
    unnamed_stays events (with_interest event.key.0 NONE armed) key parts.later ∙ other-interest key event.key.0 NONE armed parts.here

-- and its edges
pub unnamed_keeps_edges : (events : List Event) (edges : Interests) (key : ℕ) → names_key events key ≡ false → lessened events edges key ≡ edges key
unnamed_keeps_edges [] edges key unnamed = refl
unnamed_keeps_edges (event ∷ events) edges key unnamed =
    let parts = other-key (event.key.0 == key) (names_key events key) unnamed in
    unnamed_keeps_edges events (with_interest event.key.0 (except (edges event.key.0) event.on) edges) key parts.later
    ∙ other-interest key event.key.0 (except (edges event.key.0) event.on) edges parts.here

cut-names : (some : Bool) (event : Event) (events : List Event) (key : ℕ) → names_key (cond some (event ∷ events) events) key ≡ cond some ((event.key.0 == key) || names_key events key) (names_key events key)
cut-names true event events key = refl
cut-names false event events key = refl

both-false : (some first later : Bool) → first ≡ false → later ≡ false → cond some (first || later) later ≡ false
both-false true first later none nor = ap (λ b. b || later) none ∙ nor
both-false false first later none nor = nor

-- a cut names no more keys
pub cut_names_no_more : (events : List Event) (armed : Interests) (key : ℕ) → names_key events key ≡ false → names_key (Cut events armed) key ≡ false
cut_names_no_more [] armed key unnamed = refl
cut_names_no_more (event ∷ events) armed key unnamed =
    let parts = other-key (event.key.0 == key) (names_key events key) unnamed in
    let some : Bool = has_any (common event.on (armed event.key.0)) in
    cut-names some (cut_event armed event) (Cut events armed) key
    ∙ both-false some (event.key.0 == key) (names_key (Cut events armed) key) parts.here (cut_names_no_more events armed key parts.later)

pub or_true : (b : Bool) → b || true ≡ true
or_true true = refl
or_true false = refl

named-here : (some : Bool) (event : Event) (later : List Event) (key : ℕ) (dir : Dir) → some ≡ true → event.key.0 == key ≡ true → has_dir event.on dir ≡ true → names_direction (cond some (event ∷ later) later) key dir ≡ true
named-here true event later key dir kept same has = ap (λ b. (b && has_dir event.on dir) || names_direction later key dir) same ∙ ap (λ b. b || names_direction later key dir) has
named-here false event later key dir wrong same has = absurd cc

named-later : (some : Bool) (event : Event) (later : List Event) (key : ℕ) (dir : Dir) → names_direction later key dir ≡ true → names_direction (cond some (event ∷ later) later) key dir ≡ true
named-later true event later key dir named = ap (λ b. ((event.key.0 == key) && has_dir event.on dir) || b) named ∙ or_true ((event.key.0 == key) && has_dir event.on dir)
named-later false event later key dir named = named

named-cases : (same : Bool) (event : Event) (events : List Event) (owed armed : Interests) (key : ℕ) (dir : Dir) → IsOwed owed event → AreOwed owed events → has_dir (common (owed key) (armed key)) dir ≡ true → (event.key.0 == key) ≡ same → same || names_key events key ≡ true → (names_key events key ≡ true → names_direction (Cut events armed) key dir ≡ true) → names_direction (Cut (event ∷ events) armed) key dir ≡ true
named-cases true event events owed armed key dir first all has same named later =
    let at_key : has_dir (common event.on (armed event.key.0)) dir ≡ true = ap (λ on. has_dir (common on (armed event.key.0)) dir) first ∙ ap (λ k. has_dir (common (owed k) (armed k)) dir) (eqb-true event.key.0 key same) ∙ has in
    named-here (has_any (common event.on (armed event.key.0))) (cut_event armed event) (Cut events armed) key dir (some_direction (common event.on (armed event.key.0)) dir at_key) same at_key
named-cases false event events owed armed key dir first all has other named later =
    named-later (has_any (common event.on (armed event.key.0))) (cut_event armed event) (Cut events armed) key dir (later named)

-- an event of a key gives each direction of it that is armed and owed
pub named_is_given : (events : List Event) (owed armed : Interests) (key : ℕ) (dir : Dir) → AreOwed owed events → has_dir (common (owed key) (armed key)) dir ≡ true → names_key events key ≡ true → names_direction (Cut events armed) key dir ≡ true
named_is_given [] owed armed key dir all has wrong = absurd cc
named_is_given (event ∷ events) owed armed key dir (first, some, all) has named =
    named-cases (event.key.0 == key) event events owed armed key dir first all has refl named (named_is_given events owed armed key dir all has)
