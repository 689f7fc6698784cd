-- The keys of what a raw poller gives rise.
use Rattle.std.proofs.Common.{◌≡◌, ◌<◌, ◌≤◌, ◌+◌, ◌==◌, ◌||◌, ◌⊎◌, ℕ, zero, suc, Bool, true, false, cond, List, [], ◌∷◌, map, filter, take, length, refl, ◌∙◌, ap, sym, subst, arith, le_trans, ⊎_elim}
use Rattle.std.specs.Prelude.{slice_index_or}
use Rattle.std.specs.List.{range_with_len, All, AllPairs}
use Rattle.std.proofs.lemmas.List.Kept.{AllPairs-cons}
use Rattle.std.proofs.lemmas.List.Elements.{All-cons}
use Rattle.std.proofs.lemmas.Bool.{eq-eqb}
use Rattle.std.proofs.Math.Nat.{eq-or-lt_of_le}
use Rattle.aio_base.specs.declared.names.Event.{Event}
use Rattle.aio_base.specs.Devices.{Interests}
use Rattle.aio_base.specs.World.{has_any}
use Rattle.aio_modes.specs.Interests.{has_directions, names_key}
use Rattle.aio_modes.specs.Raw.{event_of, owed_events}
use Rattle.aio_modes.proofs.KeepingLemmas.{AreOwed, or_true}

-- the keys rise, from this one on
abbrev RisesFrom : ℕ → List Event → Type 0
RisesFrom least [] = Unit {0}
RisesFrom least (event ∷ events) = (least ≤ event.key.0) × RisesFrom (event.key.0 + 1) events

rises-lower : (low least : ℕ) (events : List Event) → low ≤ least → RisesFrom least events → RisesFrom low events
rises-lower low least [] below rises = tt
rises-lower low least (event ∷ events) below (here, later) = (le_trans below here, later)

rises-first : (some : Bool) (owed : Interests) (a : ℕ) (later : List Event) → RisesFrom (a + 1) later → RisesFrom a (cond some (event_of owed a ∷ later) later)
rises-first true owed a later rises = (omega arith, rises)
rises-first false owed a later rises = rises-lower a (a + 1) later (omega arith) rises

rises-filtered : (owed : Interests) (a n : ℕ) → RisesFrom a (filter has_directions (map (event_of owed) (range_with_len a n)))
rises-filtered owed a zero = tt
rises-filtered owed a (suc n) = rises-first (has_any (owed a)) owed a (filter has_directions (map (event_of owed) (range_with_len (a + 1) n))) (rises-filtered owed (a + 1) n)

rises-taken : (room least : ℕ) (events : List Event) → RisesFrom least events → RisesFrom least (take room events)
rises-taken zero least events rises = tt
rises-taken (suc room) least [] rises = tt
rises-taken (suc room) least (event ∷ events) (here, later) = (here, rises-taken room (event.key.0 + 1) events later)

all-from : (least : ℕ) (events : List Event) → RisesFrom least events → All (λ (event : Event). least ≤ event.key.0) events
all-from least [] rises i d within = absurd (omega arith)
all-from least (event ∷ events) (here, later) zero d within = here
all-from least (event ∷ events) (here, later) (suc i) d within =
    let above : event.key.0 + 1 ≤ (slice_index_or events i d).key.0 = all-from (event.key.0 + 1) events later i d (omega arith) in
    omega arith

pairs-rise : (least : ℕ) (events : List Event) → RisesFrom least events → AllPairs (λ (first later : Event). first.key.0 < later.key.0) events
pairs-rise least [] rises = λ i j d before within. absurd (omega arith)
pairs-rise least (event ∷ events) (here, later) =
    AllPairs-cons (λ (first later : Event). first.key.0 < later.key.0) event events
    (λ i d within. let above = all-from (event.key.0 + 1) events later i d within in omega arith)
    (pairs-rise (event.key.0 + 1) events later)

pub given_rise : (owed : Interests) (n room : ℕ) → AllPairs (λ (first later : Event). first.key.0 < later.key.0) (take room (owed_events owed n))
unfolding owed_events
given_rise owed n room = pairs-rise 0 (take room (owed_events owed n)) (rises-taken room 0 (owed_events owed n) (rises-filtered owed 0 n))

-- each is what is owed of its key, and not none
pub each_is_owed : (owed : Interests) (events : List Event) → AreOwed owed events → All (λ (event : Event). event.on ≡ owed event.key.0) events
each_is_owed owed [] all i d within = absurd (omega arith)
each_is_owed owed (event ∷ events) (first, some, all) zero d within = first
each_is_owed owed (event ∷ events) (first, some, all) (suc i) d within = each_is_owed owed events all i d (omega arith)

pub each_is_some : (owed : Interests) (events : List Event) → AreOwed owed events → All (λ (event : Event). has_any event.on ≡ true) events
each_is_some owed [] all i d within = absurd (omega arith)
each_is_some owed (event ∷ events) (first, some, all) zero d within = some
each_is_some owed (event ∷ events) (first, some, all) (suc i) d within = each_is_some owed events all i d (omega arith)

-- ## No owed key is passed over

taken-whole : (room : ℕ) (events : List Event) → length (take room events) < room → take room events ≡ events
taken-whole zero events less = absurd (omega arith)
taken-whole (suc room) [] less = refl
taken-whole (suc room) (event ∷ events) less = ap (λ (es : List Event). event ∷ es) (taken-whole room events (omega arith))

pub taken_few : (room : ℕ) (events : List Event) → length (take room events) ≤ room
taken_few zero events = omega arith
taken_few (suc room) [] = omega arith
taken_few (suc room) (event ∷ events) =
    let less = taken_few room events in
    omega arith

first-named : (some : Bool) (owed : Interests) (a : ℕ) (later : List Event) → some ≡ true → names_key (cond some (event_of owed a ∷ later) later) a ≡ true
first-named true owed a later is = ap (λ (same : Bool). same || names_key later a) (eq-eqb a a refl)
first-named false owed a later is = absurd cc

later-named : (some : Bool) (owed : Interests) (a key : ℕ) (later : List Event) → names_key later key ≡ true → names_key (cond some (event_of owed a ∷ later) later) key ≡ true
later-named true owed a key later named = ap (λ (b : Bool). (a == key) || b) named ∙ or_true (a == key)
later-named false owed a key later named = named

named-filtered : (owed : Interests) (a n key : ℕ) → a ≤ key → key < a + n → has_any (owed key) ≡ true → names_key (filter has_directions (map (event_of owed) (range_with_len a n))) key ≡ true
named-filtered owed a zero key from below some = absurd (omega arith)
named-filtered owed a (suc n) key from below some =
    let later : List Event = filter has_directions (map (event_of owed) (range_with_len (a + 1) n)) in
    ⊎_elim
    (λ (here : a ≡ key). subst (λ (k : ℕ). names_key (cond (has_any (owed a)) (event_of owed a ∷ later) later) k ≡ true) here (first-named (has_any (owed a)) owed a later (subst (λ (k : ℕ). has_any (owed k) ≡ true) (sym here) some)))
    (λ (past : a < key). later-named (has_any (owed a)) owed a key later (named-filtered owed (a + 1) n key (omega arith) (omega arith) some))
    (eq-or-lt_of_le from)

pub owed_is_named : (owed : Interests) (n room key : ℕ) → length (take room (owed_events owed n)) < room → key < n → has_any (owed key) ≡ true → names_key (take room (owed_events owed n)) key ≡ true
unfolding owed_events
owed_is_named owed n room key less below some =
    ap (λ (events : List Event). names_key events key) (taken-whole room (owed_events owed n) less) ∙ named-filtered owed 0 n key (omega arith) (omega arith) some
