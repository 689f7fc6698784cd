-- What searches and filters give of lists that were filtered, mapped and pushed to.
use Rattle.std.proofs.Common.{◌≡◌, ℕ, Bool, true, false, not, cond, ◌==◌, List, [], ◌∷◌, ◌++◌, map, Option, None, Some, option_map, refl, ap, ◌∙◌, sym}
use Rattle.std.specs.List.{Contains, filter, find}
use Rattle.std.specs.Option.{option_or}
use Rattle.std.proofs.lemmas.Bool.{eqb-true, eq-eqb}
use Rattle.std.proofs.lemmas.List.Elements.{filter-append}
use Rattle.std.proofs.lemmas.List.Folds.{find-append}
use Rattle.aio_base.proofs.Membership.{first_is_in, later_is_in}

-- ## Tests

pub false_unless : (b : Bool) → (b ≡ true → ⊥) → b ≡ false
false_unless true never = absurd (never refl)
false_unless false never = refl

pub of_not : (b : Bool) → not b ≡ false → b ≡ true
of_not true e = refl
of_not false e = absurd cc

-- ## Searches

lost_step : {X : Type 0} (p : X → Bool) (here : Bool) (x : X) (ys : List X) → (here ≡ true → p x ≡ false) → find p ys ≡ None
    → find p (cond here (x ∷ ys) ys) ≡ None
lost_step p true x ys apart rest = rw (apart refl) rest
lost_step p false x ys apart rest = rest

-- where no element that stays passes, nothing is found
pub filtered_lost : {X : Type 0} (p q : X → Bool) (xs : List X) → ((x : X) → Contains xs x → q x ≡ true → p x ≡ false) → find p (filter q xs) ≡ None
filtered_lost p q [] apart = refl
filtered_lost p q (x ∷ xs) apart =
    lost_step p (q x) x (filter q xs) (apart x (first_is_in x xs)) (filtered_lost p q xs (λ y among. apart y (later_is_in x xs y among)))

found_step : {X : Type 0} (p : X → Bool) (here : Bool) (x : X) (ys zs : List X) → (here ≡ false → p x ≡ false) → find p ys ≡ find p zs
    → find p (cond here (x ∷ ys) ys) ≡ find p (x ∷ zs)
found_step p true x ys zs passed rest = ap (λ o. cond (p x) (Some x) o) rest
found_step p false x ys zs passed rest = rw (passed refl) rest

-- where no element that goes passes, the same is found
pub filtered_found : {X : Type 0} (p q : X → Bool) (xs : List X) → ((x : X) → Contains xs x → q x ≡ false → p x ≡ false)
    → find p (filter q xs) ≡ find p xs
filtered_found p q [] passed = refl
filtered_found p q (x ∷ xs) passed =
    found_step p (q x) x (filter q xs) xs (passed x (first_is_in x xs)) (filtered_found p q xs (λ y among. passed y (later_is_in x xs y among)))

mapped_step : {X Y : Type 0} (f : X → Y) (here : Bool) (x : X) (o : Option Y) (before : Option X) → o ≡ option_map f before
    → cond here (Some (f x)) o ≡ option_map f (cond here (Some x) before)
mapped_step f true x o before rest = refl
mapped_step f false x o before rest = rest

-- a search by what a map keeps
pub mapped_found : {X Y : Type 0} (f : X → Y) (p : X → Bool) (q : Y → Bool) → ((x : X) → q (f x) ≡ p x) → (xs : List X)
    → find q (map f xs) ≡ option_map f (find p xs)
mapped_found f p q same [] = refl
mapped_found f p q same (x ∷ xs) = rw (same x) (mapped_step f (p x) x (find q (map f xs)) (find p xs) (mapped_found f p q same xs))

or_none : {X : Type 0} (o : Option X) → option_or o None ≡ o
or_none None = refl
or_none (Some x) = refl

-- what was pushed is found where nothing was before
pub pushed_found : {X : Type 0} (p : X → Bool) (xs : List X) (x : X) → find p xs ≡ None → p x ≡ true → find p (xs ++ x ∷ []) ≡ Some x
pushed_found p xs x none passes = rw (find-append, none, passes) refl

pub pushed_passed : {X : Type 0} (p : X → Bool) (xs : List X) (x : X) → p x ≡ false → find p (xs ++ x ∷ []) ≡ find p xs
pushed_passed p xs x passed = rw (find-append, passed) (or_none (find p xs))

-- ## Filters

refiltered_step : {X : Type 0} (q : X → Bool) (here : Bool) (x : X) (ys zs : List X) → (here ≡ false → q x ≡ false) → filter q ys ≡ filter q zs
    → filter q (cond here (x ∷ ys) ys) ≡ filter q (x ∷ zs)
refiltered_step q true x ys zs passed rest = rw rest refl
refiltered_step q false x ys zs passed rest = rw (passed refl) rest

pub refiltered : {X : Type 0} (q p : X → Bool) → ((x : X) → p x ≡ false → q x ≡ false) → (xs : List X) → filter q (filter p xs) ≡ filter q xs
refiltered q p passed [] = refl
refiltered q p passed (x ∷ xs) = refiltered_step q (p x) x (filter p xs) xs (passed x) (refiltered q p passed xs)

emptied_step : {X : Type 0} (q : X → Bool) (here : Bool) (x : X) (ys : List X) → (here ≡ true → q x ≡ false) → filter q ys ≡ []
    → filter q (cond here (x ∷ ys) ys) ≡ []
emptied_step q true x ys apart rest = rw (apart refl) rest
emptied_step q false x ys apart rest = rest

pub filtered_empty : {X : Type 0} (q p : X → Bool) → ((x : X) → p x ≡ true → q x ≡ false) → (xs : List X) → filter q (filter p xs) ≡ []
filtered_empty q p apart [] = refl
filtered_empty q p apart (x ∷ xs) = emptied_step q (p x) x (filter p xs) (apart x) (filtered_empty q p apart xs)

-- a filter does not see what was pushed and does not pass
pub unseen_push : {X : Type 0} (q : X → Bool) (xs : List X) (x : X) → q x ≡ false → filter q (xs ++ x ∷ []) ≡ filter q xs
unseen_push {X} q [] x out = ap (λ (t : Bool). cond t (x ∷ []) []) out
unseen_push {X} q (y ∷ xs) x out = ap (λ (rest : List X). cond (q y) (y ∷ rest) rest) (unseen_push q xs x out)

-- what alone passes of a list
pub kept_push : {X : Type 0} (q : X → Bool) (xs : List X) (x : X) → filter q xs ≡ [] → q x ≡ true → filter q (xs ++ x ∷ []) ≡ x ∷ []
kept_push q xs x none passes = rw (filter-append, none, passes) refl

pub none_kept : {X : Type 0} (xs : List X) → filter (λ (x : X). false) xs ≡ []
none_kept [] = refl
none_kept (x ∷ xs) = none_kept xs

-- ## Searches by a number

pub nothing_found : {X : Type 0} (p : X → Bool) (xs : List X) → ((x : X) → Contains xs x → p x ≡ false) → find p xs ≡ None
nothing_found p [] none = refl
nothing_found p (x ∷ xs) none = rw (none x (first_is_in x xs)) (nothing_found p xs (λ y among. none y (later_is_in x xs y among)))

without_step : {X : Type 0} (key : X → ℕ) (m n : ℕ) (xs : List X) (here : Bool) → (n == m) ≡ here
    → find (λ x. key x == n) (filter (λ x. not (key x == m)) xs) ≡ cond here None (find (λ x. key x == n) xs)
without_step key m n xs true same =
    filtered_lost (λ x. key x == n) (λ x. not (key x == m)) xs
    (λ x among stays. false_unless (key x == n) (λ found.
    let gone = eq-eqb (key x) m (eqb-true (key x) n found ∙ eqb-true n m same) in
    let wrong : false ≡ true = sym (ap not gone) ∙ stays in cc))
without_step key m n xs false other =
    filtered_found (λ x. key x == n) (λ x. not (key x == m)) xs
    (λ x among goes. false_unless (key x == n) (λ found.
    let there = eqb-true (key x) m (of_not (key x == m) goes) in
    let same = eq-eqb n m (sym (eqb-true (key x) n found) ∙ there) in cc))

-- what is found of a number where all of another one are gone
pub without_found : {X : Type 0} (key : X → ℕ) (m n : ℕ) (xs : List X)
    → find (λ x. key x == n) (filter (λ x. not (key x == m)) xs) ≡ cond (n == m) None (find (λ x. key x == n) xs)
without_found key m n xs = without_step key m n xs (n == m) refl

last_step : {X : Type 0} (key : X → ℕ) (x : X) (n : ℕ) (xs : List X) (here : Bool) → (n == key x) ≡ here → (n ≡ key x → find (λ y. key y == n) xs ≡ None)
    → find (λ y. key y == n) (xs ++ x ∷ []) ≡ cond here (Some x) (find (λ y. key y == n) xs)
last_step key x n xs true same free =
    let e = eqb-true n (key x) same in
    pushed_found (λ y. key y == n) xs x (free e) (eq-eqb (key x) n (sym e))
last_step key x n xs false other free =
    pushed_passed (λ y. key y == n) xs x (false_unless (key x == n) (λ found. let same = eq-eqb n (key x) (sym (eqb-true (key x) n found)) in cc))

-- what is found of a number where an element of a new number was pushed
pub last_found : {X : Type 0} (key : X → ℕ) (x : X) (n : ℕ) (xs : List X) → (n ≡ key x → find (λ y. key y == n) xs ≡ None)
    → find (λ y. key y == n) (xs ++ x ∷ []) ≡ cond (n == key x) (Some x) (find (λ y. key y == n) xs)
last_found key x n xs free = last_step key x n xs (n == key x) refl free
