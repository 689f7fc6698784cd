-- A list after one more element came, from which the others differ.
use Rattle.std.proofs.Common.{◌≡◌, ◌≢◌, ℕ, nat_eq, ◌<◌, ◌≤◌, false, ◌==◌, List, [], ◌∷◌, ◌++◌, map, find, Option, None, Some, option_map, refl, sym, ap, ◌∙◌, arith}
use Rattle.std.specs.List.{All, AllByRecursion, IsDistinct, list_any}
use Rattle.std.specs.Option.{option_or}
use Rattle.std.proofs.lemmas.Bool.{or_parts, or_from, ne_eqb, eq-eqb}
use Rattle.std.proofs.lemmas.List.Elements.{All-head, All-tail}
use Rattle.std.proofs.lemmas.List.Folds.{find-append}
use Rattle.aio_base.specs.World.{LiveSource}
use Rattle.aio_facts.specs.Facts.{serial_in}

-- a number is no other as the other is not it
pub turned : (a b : ℕ) → a == b ≡ false → b == a ≡ false
turned a b apart = ne_eqb b a (λ (same : b ≡ a). absurd (let there = eq-eqb a b (sym same) in cc))

differs_push : {X : Type 0} (number : X → ℕ) (n : ℕ) (xs : List X) (x : X) → AllByRecursion (λ m. nat_eq n m ≡ false) (map number xs) → n == number x ≡ false
    → AllByRecursion (λ m. nat_eq n m ≡ false) (map number (xs ++ x ∷ []))
differs_push number n [] x each own = (own, tt)
differs_push number n (y ∷ xs) x each own = (each.0, differs_push number n xs x each.1 own)

-- numbers that differ, and one more that is none of them
pub distinct_push : {X : Type 0} (number : X → ℕ) (xs : List X) (x : X) → IsDistinct nat_eq (map number xs) → list_any (λ y. number y == number x) xs ≡ false
    → IsDistinct nat_eq (map number (xs ++ x ∷ []))
unfolding IsDistinct
distinct_push number [] x distinct none = (tt, tt)
distinct_push number (y ∷ xs) x distinct none =
    let parts = or_parts (number y == number x) (list_any (λ y. number y == number x) xs) none in
    (differs_push number (number y) xs x distinct.0 parts.0, distinct_push number xs x distinct.1 parts.1)

-- a serial that was not given is that of no source
pub not_given : (live : List LiveSource) (serials serial : ℕ) → All (λ (s : LiveSource). s.serial ≤ serials) live → serials < serial
    → list_any (λ (s : LiveSource). s.serial == serial) live ≡ false
not_given [] serials serial given later = refl
not_given (s ∷ live) serials serial given later =
    let first = All-head (λ (s : LiveSource). s.serial ≤ serials) s live given in
    or_from (s.serial == serial) (list_any (λ (s : LiveSource). s.serial == serial) live) (ne_eqb s.serial serial (λ (same : s.serial ≡ serial). absurd (omega arith)))
    (not_given live serials serial (All-tail (λ (s : LiveSource). s.serial ≤ serials) s live given) later)

-- ## Serials

first_found : (found : Option LiveSource) (next : LiveSource) → found ≡ None → option_map (λ (s : LiveSource). s.serial) (option_or found (Some next)) ≡ Some next.serial
first_found found next none = ap (λ (o : Option LiveSource). option_map (λ (s : LiveSource). s.serial) (option_or o (Some next))) none

not_mapped : (found : Option LiveSource) → option_map (λ (s : LiveSource). s.serial) found ≡ None → found ≡ None
not_mapped None none = refl
not_mapped (Some s) none = absurd (cc)

or_no_other : (found : Option LiveSource) → option_or found None ≡ found
or_no_other None = refl
or_no_other (Some s) = refl

hit : (key : ℕ) (next : LiveSource) → next.key ≡ key → find (λ (s : LiveSource). s.key == key) (next ∷ []) ≡ Some next
hit key next same = rw (eq-eqb next.key key same) refl

miss : (key : ℕ) (next : LiveSource) → next.key ≢ key → find (λ (s : LiveSource). s.key == key) (next ∷ []) ≡ None
miss key next apart = rw (ne_eqb next.key key apart) refl

pub serial_of_next : (live : List LiveSource) (next : LiveSource) → serial_in live next.key ≡ None → serial_in (live ++ next ∷ []) next.key ≡ Some next.serial
serial_of_next live next none =
    ap (option_map (λ (s : LiveSource). s.serial)) (find-append (λ (s : LiveSource). s.key == next.key) live (next ∷ []))
    ∙ ap (λ (o : Option LiveSource). option_map (λ (s : LiveSource). s.serial) (option_or (find (λ (s : LiveSource). s.key == next.key) live) o)) (hit next.key next refl)
    ∙ first_found (find (λ (s : LiveSource). s.key == next.key) live) next (not_mapped _ none)

pub serial_of_other : (live : List LiveSource) (next : LiveSource) (key : ℕ) → key ≢ next.key → serial_in (live ++ next ∷ []) key ≡ serial_in live key
serial_of_other live next key apart =
    ap (option_map (λ (s : LiveSource). s.serial)) (find-append (λ (s : LiveSource). s.key == key) live (next ∷ []))
    ∙ ap (λ (o : Option LiveSource). option_map (λ (s : LiveSource). s.serial) (option_or (find (λ (s : LiveSource). s.key == key) live) o)) (miss key next (λ (same : next.key ≡ key). apart (sym same)))
    ∙ ap (option_map (λ (s : LiveSource). s.serial)) (or_no_other (find (λ (s : LiveSource). s.key == key) live))

kept_or : (found : Option LiveSource) (next : Option LiveSource) (serial : ℕ) → option_map (λ (s : LiveSource). s.serial) found ≡ Some serial
    → option_map (λ (s : LiveSource). s.serial) (option_or found next) ≡ Some serial
kept_or None next serial is = absurd (cc)
kept_or (Some s) next serial is = is

-- the serial of a live key stays
pub serial_stays : (live : List LiveSource) (next : LiveSource) (key serial : ℕ) → serial_in live key ≡ Some serial → serial_in (live ++ next ∷ []) key ≡ Some serial
serial_stays live next key serial is =
    ap (option_map (λ (s : LiveSource). s.serial)) (find-append (λ (s : LiveSource). s.key == key) live (next ∷ []))
    ∙ kept_or (find (λ (s : LiveSource). s.key == key) live) _ serial is
