-- Lists whose elements have different numbers.
use Rattle.std.proofs.Common.{◌≡◌, ◌≢◌, ◌⊎◌, ℕ, zero, suc, Bool, true, false, cond, ◌==◌, List, [], ◌∷◌, ◌++◌, map, Some, ap, ◌∙◌, sym, subst, inl, inr, ⊎_elim, arith}
use Rattle.std.specs.Prelude.{⊤}
use Rattle.std.specs.List.{Contains, filter, find}
use Rattle.std.proofs.lemmas.Bool.{eq-eqb, ne_eqb}
use Rattle.std.proofs.lemmas.List.Elements.{All-contains, Contains-push_cases}
use Rattle.std.proofs.lemmas.List.Kept.{AllPairs-cons}
use Rattle.aio_laws.specs.Distinct.{Differ}
use Rattle.aio_base.specs.World.{Registration}
use Rattle.aio_base.specs.Timers.{fires_before, placed, in_order}
use Rattle.aio_base.proofs.Membership.{none_is_in, first_is_in, later_is_in, among_cases, each_in, filtered_is_in, filtered_passes, mapped_from}

-- the number of each element, or whatever it is told apart by, differs from those of all behind it
abbrev pub Apart : {X K : Type 0} → (X → K) → List X → Type 0
Apart key [] = ⊤
Apart {X} key (x ∷ xs) = ((y : X) → Contains xs y → key x ≢ key y) × Apart key xs

-- an element is found by its number
pub found_apart : {X : Type 0} (key : X → ℕ) (xs : List X) (x : X) → Apart key xs → Contains xs x → find (λ y. key y == key x) xs ≡ Some x
found_apart key [] x apart among = none_is_in x among
found_apart key (y ∷ xs) x apart among =
    ⊎_elim
    (λ (same : y ≡ x). rw (eq-eqb (key y) (key x) (ap key same)) (ap Some same))
    (λ (later : Contains xs x). rw (ne_eqb (key y) (key x) (apart.0 x later)) (found_apart key xs x apart.1 later))
    (among_cases y xs x among)

some_same : {X : Type 0} (a b : X) → Some a ≡ Some b → a ≡ b
some_same a b e = cc

pub same_element : {X : Type 0} (key : X → ℕ) (xs : List X) (a b : X) → Apart key xs → Contains xs a → Contains xs b → key a ≡ key b → a ≡ b
same_element key xs a b apart first second same =
    some_same a b
    (sym (found_apart key xs a apart first) ∙ ap (λ n. find (λ y. key y == n) xs) same ∙ found_apart key xs b apart second)

-- ## Lists that were changed

filtered_step : {X K : Type 0} (key : X → K) (here : Bool) (x : X) (xs : List X) → ((y : X) → Contains xs y → key x ≢ key y) → Apart key xs
    → Apart key (cond here (x ∷ xs) xs)
filtered_step key true x xs first rest = (first, rest)
filtered_step key false x xs first rest = rest

pub filtered_apart : {X K : Type 0} (key : X → K) (p : X → Bool) (xs : List X) → Apart key xs → Apart key (filter p xs)
filtered_apart key p [] apart = apart
filtered_apart key p (x ∷ xs) apart =
    filtered_step key (p x) x (filter p xs) (λ y among. apart.0 y (filtered_is_in p xs y among)) (filtered_apart key p xs apart.1)

pub mapped_apart : {X K : Type 0} (key : X → K) (f : X → X) → ((x : X) → key (f x) ≡ key x) → (xs : List X) → Apart key xs → Apart key (map f xs)
mapped_apart key f same [] apart = apart
mapped_apart key f same (x ∷ xs) apart = (
  λ y among. let image = mapped_from f xs y among in
      λ (e : key (f x) ≡ key y). apart.0 image.0 image.1 (sym (same x) ∙ e ∙ sym (ap key image.2) ∙ same image.0),
  mapped_apart key f same xs apart.1,
)

pub pushed_apart : {X K : Type 0} (key : X → K) (xs : List X) (x : X) → Apart key xs → ((y : X) → Contains xs y → key y ≢ key x) → Apart key (xs ++ x ∷ [])
pushed_apart key [] x apart new = (λ y among. none_is_in y among, apart)
pushed_apart key (z ∷ xs) x apart new = (
  λ y among.
      ⊎_elim
      (λ (old : Contains xs y). apart.0 y old)
      (λ (same : x ≡ y). λ (e : key z ≡ key y). new z (first_is_in z xs) (e ∙ sym (ap key same)))
      (Contains-push_cases xs x y among),
  pushed_apart key xs x apart.1 (λ y among. new y (later_is_in z xs y among)),
)

-- an element that joins in place of those with its number
pub replaced_apart : {X K : Type 0} (key : X → K) (kept : X → Bool) (xs : List X) (x : X) → ((y : X) → kept y ≡ true → key y ≢ key x) → Apart key xs
    → Apart key (filter kept xs ++ x ∷ [])
replaced_apart key kept xs x others apart =
    pushed_apart key (filter kept xs) x (filtered_apart key kept xs apart) (λ y among. others y (filtered_passes kept xs y among))

-- as what holds of each two places of a list
pub apart_differ : {X K : Type 0} (key : X → K) (xs : List X) → Apart key xs → Differ key xs
apart_differ key [] apart = λ i j d before within. absurd (omega arith)
apart_differ key (x ∷ xs) apart =
    AllPairs-cons (λ first later. key first ≢ key later) x xs (each_in (λ y. key x ≢ key y) xs apart.0) (apart_differ key xs apart.1)

-- and back
pub differ_apart : {X K : Type 0} (key : X → K) (xs : List X) → Differ key xs → Apart key xs
differ_apart key [] differ = tt
differ_apart key (x ∷ xs) differ = (
  λ y among. All-contains (λ z. key x ≢ key z) xs y (λ k d within. differ zero (suc k) d (omega arith) (omega arith)) among,
  differ_apart key xs (λ i j d before within. differ (suc i) (suc j) d (omega arith) (omega arith)),
)

-- ## Registrations in the order in which they fire

either_in : (here : Bool) (r x : Registration) (ys zs : List Registration) (y : Registration)
    → (Contains ys y → (r ≡ y) ⊎ Contains zs y) → Contains (cond here (x ∷ ys) (r ∷ x ∷ zs)) y → (r ≡ y) ⊎ Contains (x ∷ zs) y
either_in true r x ys zs y rest among =
    ⊎_elim
    (λ (same : x ≡ y). inr (subst (Contains (x ∷ zs)) same (first_is_in x zs)))
    (λ (later : Contains ys y). ⊎_elim (λ (new : r ≡ y). inl new) (λ (old : Contains zs y). inr (later_is_in x zs y old)) (rest later))
    (among_cases x ys y among)
either_in false r x ys zs y rest among = among_cases r (x ∷ zs) y among

placed_from : (r : Registration) (xs : List Registration) (y : Registration) → Contains (placed r xs) y → (r ≡ y) ⊎ Contains xs y
placed_from r [] y among = among_cases r [] y among
placed_from r (x ∷ xs) y among = either_in (fires_before x r) r x (placed r xs) xs y (placed_from r xs y) among

pub ordered_from : (xs : List Registration) (y : Registration) → Contains (in_order xs) y → Contains xs y
ordered_from [] y among = among
ordered_from (r ∷ xs) y among =
    ⊎_elim
    (λ (same : r ≡ y). subst (Contains (r ∷ xs)) same (first_is_in r xs))
    (λ (later : Contains (in_order xs) y). later_is_in r xs y (ordered_from xs y later))
    (placed_from r (in_order xs) y among)

placed_step : (here : Bool) (r x : Registration) (ys xs : List Registration) → Apart (λ (r : Registration). r.id) ys → ((y : Registration) → Contains ys y → x.id ≢ y.id)
    → Apart (λ (r : Registration). r.id) (r ∷ x ∷ xs) → Apart (λ (r : Registration). r.id) (cond here (x ∷ ys) (r ∷ x ∷ xs))
placed_step true r x ys xs later first whole = (first, later)
placed_step false r x ys xs later first whole = whole

placed_apart : (r : Registration) (xs : List Registration) → Apart (λ (r : Registration). r.id) (r ∷ xs) → Apart (λ (r : Registration). r.id) (placed r xs)
placed_apart r [] apart = apart
placed_apart r (x ∷ xs) apart =
    placed_step (fires_before x r) r x (placed r xs) xs
    (placed_apart r xs (λ y among. apart.0 y (later_is_in x xs y among), apart.1.1))
    (λ y among.
    ⊎_elim
    (λ (same : r ≡ y). λ (e : x.id ≡ y.id). apart.0 x (first_is_in x xs) (ap (λ (r : Registration). r.id) same ∙ sym e))
    (λ (old : Contains xs y). apart.1.0 y old)
    (placed_from r xs y among)) apart

pub ordered_apart : (xs : List Registration) → Apart (λ (r : Registration). r.id) xs → Apart (λ (r : Registration). r.id) (in_order xs)
ordered_apart [] apart = apart
ordered_apart (r ∷ xs) apart = placed_apart r (in_order xs) (λ y among. apart.0 y (ordered_from xs y among), ordered_apart xs apart.1)
