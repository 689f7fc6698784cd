-- Searches, filters and the listeners and keys of a world.
use Rattle.std.proofs.Common.{◌≡◌, ℕ, suc, ◌==◌, Bool, true, false, not, cond, nat_eq, List, [], ◌∷◌, length, map, filter, find, Option, None, Some, option_map, unwrap_or, refl, sym, ap, ◌∙◌, subst, arith, ⊎_elim, ◌||◌}
use Rattle.std.specs.List.{Contains, IsDistinct, list_any}
use Rattle.std.proofs.lemmas.Bool.{eq-eqb, ne_eqb, eqb-true}
use Rattle.std.proofs.lemmas.Map.Keys.{IsDistinct-tail}
use Rattle.aio_base.specs.World.{LiveSource, World, key_of}
use Rattle.aio_base.proofs.Membership.{among_cases, found_is_in, image_is_in, none_is_in}
use Rattle.aio_facts.specs.Facts.{serial_in}
use Rattle.aio_facts.specs.Sound.{LiveSound}
use Rattle.aio_facts.proofs.Serials.{differs}
use Rattle.aio_laws.specs.Covered.{HasSource}

-- among elements with different numbers, the one with its number is found
pub found_one : {X : Type 0} (number : X → ℕ) (xs : List X) (x : X) → IsDistinct nat_eq (map number xs) → Contains xs x → find (λ y. number y == number x) xs ≡ Some x
found_one number [] x distinct among = none_is_in x among
found_one number (y ∷ xs) x distinct among =
    ⊎_elim
    (λ (here : y ≡ x). ap (λ (b : Bool). cond b (Some y) (find (λ z. number z == number x) xs)) (eq-eqb (number y) (number x) (ap number here)) ∙ ap Some here)
    (λ (later : Contains xs x).
    ap (λ (b : Bool). cond b (Some y) (find (λ z. number z == number x) xs))
    (ne_eqb (number y) (number x) (differs (map number xs) (number y) (number x) distinct (image_is_in number xs x later)))
    ∙ found_one number xs x (IsDistinct-tail nat_eq (number y) (map number xs) distinct) later)
    (among_cases y xs x among)

abbrev pub source : ℕ → ℕ → LiveSource
source key serial = record { key = key; serial = serial }

-- a live source by its serial and by its key
pub key_found : (w : World) (key serial : ℕ) → LiveSound w.live w.serials → Contains w.live (source key serial) → key_of w serial ≡ Some key
key_found w key serial sound among =
    ap (option_map (λ (s : LiveSource). s.key)) (found_one (λ (s : LiveSource). s.serial) w.live (source key serial) sound.serials_differ among)

pub serial_found : (w : World) (key serial : ℕ) → LiveSound w.live w.serials → Contains w.live (source key serial) → serial_in w.live key ≡ Some serial
serial_found w key serial sound among =
    ap (option_map (λ (s : LiveSource). s.serial)) (found_one (λ (s : LiveSource). s.key) w.live (source key serial) sound.keys among)

-- the source of a listener lives under its key
pub lives_under : (w : World) (serial : ℕ) → LiveSound w.live w.serials → HasSource w.live serial → serial_in w.live (unwrap_or (key_of w serial) 0) ≡ Some serial
lives_under w serial sound has =
    ap (λ (o : Option ℕ). serial_in w.live (unwrap_or o 0)) (key_found w has.0 serial sound has.1) ∙ serial_found w has.0 serial sound has.1

some_is : (live : List LiveSource) (key serial : ℕ) (found : Option LiveSource) → find (λ (s : LiveSource). s.key == key) live ≡ found
    → option_map (λ (s : LiveSource). s.serial) found ≡ Some serial → Contains live (source key serial)
some_is live key serial None is e = absurd (let wrong : None ≡ Some serial = e in cc)
some_is live key serial (Some s) is e =
    let at = found_is_in (λ (s : LiveSource). s.key == key) live s is in
    let same_key : s.key ≡ key = eqb-true s.key key at.1 in
    let same_serial : s.serial ≡ serial = cc in
    subst (λ (t : LiveSource). Contains live t) (λ i. record { key = same_key i; serial = same_serial i }) at.0

pub lives_as : (live : List LiveSource) (key serial : ℕ) → serial_in live key ≡ Some serial → Contains live (source key serial)
lives_as live key serial is = some_is live key serial (find (λ (s : LiveSource). s.key == key) live) refl is

-- the key of a source that was found by it
pub key_back : (w : World) (key serial : ℕ) → LiveSound w.live w.serials → serial_in w.live key ≡ Some serial → unwrap_or (key_of w serial) 0 ≡ key
key_back w key serial sound is = ap (λ (o : Option ℕ). unwrap_or o 0) (key_found w key serial sound (lives_as w.live key serial is))

-- ## Counts

counted_step : {X : Type 0} (here : Bool) (any : Bool) (xs : List X) (x : X) → any ≡ not (length xs == 0)
    → cond here true any ≡ not (length (cond here (x ∷ xs) xs) == 0)
counted_step true any xs x e = sym (ap not (ne_eqb (suc (length xs)) 0 (λ (e : suc (length xs) ≡ 0). absurd (omega arith))))
counted_step false any xs x e = e

-- an element passes a test exactly where there are some that do
pub any_counted : {X : Type 0} (p : X → Bool) (xs : List X) → list_any p xs ≡ not (length (filter p xs) == 0)
any_counted p [] = refl
any_counted p (x ∷ xs) = or_is (p x) (list_any p xs) ∙ counted_step (p x) (list_any p xs) (filter p xs) x (any_counted p xs)
  where
    or_is : (a b : Bool) → (a || b) ≡ cond a true b
    or_is true b = refl
    or_is false b = refl
