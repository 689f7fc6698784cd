-- Which elements a list has that was filtered, mapped, pushed to or searched.
use Rattle.std.proofs.Common.{◌≡◌, ◌⊎◌, Bool, true, false, cond, List, [], ◌∷◌, map, Some, refl, ap, ◌∙◌, sym, subst, inl, inr, ⊎_elim, arith}
use Rattle.std.specs.Prelude.{flat_map}
use Rattle.std.specs.List.{All, Contains, filter, find, list_any}
use Rattle.std.proofs.lemmas.List.Elements.{All-contains, All-contains_itself, All-filter, All-map, All-weaker, Contains-append_cases, Contains-append_left, Contains-append_right, Contains-push, Contains-push_cases, filter_passes}
use Rattle.std.proofs.lemmas.List.Folds.{Any-from_list_any, list_any-from_Any}

pub none_is_in : {X A : Type 0} (y : X) → Contains [] y → A
none_is_in y among = absurd (let within = among.1 in omega arith)

pub first_is_in : {X : Type 0} (x : X) (xs : List X) → Contains (x ∷ xs) x
first_is_in x xs = Contains-append_left (x ∷ []) xs x (Contains-push [] x)

pub later_is_in : {X : Type 0} (x : X) (xs : List X) (y : X) → Contains xs y → Contains (x ∷ xs) y
later_is_in x xs y among = Contains-append_right (x ∷ []) xs y among

-- an element is the first one, or among the later ones
pub among_cases : {X : Type 0} (x : X) (xs : List X) (y : X) → Contains (x ∷ xs) y → (x ≡ y) ⊎ Contains xs y
among_cases x xs y among =
    ⊎_elim
    (λ (front : Contains (x ∷ []) y). ⊎_elim (λ (nowhere : Contains [] y). none_is_in y nowhere) (λ (same : x ≡ y). inl same) (Contains-push_cases [] x y front))
    (λ (later : Contains xs y). inr later)
    (Contains-append_cases (x ∷ []) xs y among)

-- what holds of each element holds of all
pub each_in : {X : Type 0} (P : X → Type 0) (xs : List X) → ((x : X) → Contains xs x → P x) → All P xs
each_in P xs each = All-weaker (Contains xs) P each xs (All-contains_itself xs)

-- ## Filters

pub filtered_is_in : {X : Type 0} (test : X → Bool) (xs : List X) (y : X) → Contains (filter test xs) y → Contains xs y
filtered_is_in test xs y among = All-contains (Contains xs) (filter test xs) y (All-filter test (Contains xs) xs (All-contains_itself xs)) among

pub filtered_passes : {X : Type 0} (test : X → Bool) (xs : List X) (y : X) → Contains (filter test xs) y → test y ≡ true
filtered_passes test xs y among = All-contains (λ x. test x ≡ true) (filter test xs) y (filter_passes test xs) among

kept_first : {X : Type 0} (t : Bool) (x : X) (xs : List X) → t ≡ true → Contains (cond t (x ∷ xs) xs) x
kept_first true x xs passes = first_is_in x xs
kept_first false x xs wrong = absurd cc

kept_later : {X : Type 0} (t : Bool) (x : X) (xs : List X) (y : X) → Contains xs y → Contains (cond t (x ∷ xs) xs) y
kept_later true x xs y among = later_is_in x xs y among
kept_later false x xs y among = among

pub passing_is_kept : {X : Type 0} (test : X → Bool) (xs : List X) (y : X) → test y ≡ true → Contains xs y → Contains (filter test xs) y
passing_is_kept test [] y passes among = none_is_in y among
passing_is_kept test (x ∷ xs) y passes among =
    ⊎_elim
    (λ (same : x ≡ y). subst (Contains (filter test (x ∷ xs))) same (kept_first (test x) x (filter test xs) (ap test same ∙ passes)))
    (λ (later : Contains xs y). kept_later (test x) x (filter test xs) y (passing_is_kept test xs y passes later))
    (among_cases x xs y among)

-- ## Maps

-- each element of a map is the image of one
pub mapped_from : {X Y : Type 0} (f : X → Y) (xs : List X) (y : Y) → Contains (map f xs) y → (x : X) × Contains xs x × (f x ≡ y)
mapped_from {X} {Y} f xs y among =
    let Image : Y → Type 0 = λ z. (x : X) × Contains xs x × (f x ≡ z) in
    All-contains Image (map f xs) y (All-map Image f xs (All-weaker (Contains xs) (λ x. Image (f x)) (λ x here. (x, here, refl)) xs (All-contains_itself xs))) among

pub image_is_in : {X Y : Type 0} (f : X → Y) (xs : List X) (x : X) → Contains xs x → Contains (map f xs) (f x)
image_is_in f [] y among = none_is_in y among
image_is_in f (x ∷ xs) y among =
    ⊎_elim
    (λ (same : x ≡ y). subst (λ z. Contains (map f (x ∷ xs)) (f z)) same (first_is_in (f x) (map f xs)))
    (λ (later : Contains xs y). later_is_in (f x) (map f xs) (f y) (image_is_in f xs y later))
    (among_cases x xs y among)

-- what one element gives is in what all give
pub piece_is_in : {X Y : Type 0} (f : X → List Y) (xs : List X) (x : X) (y : Y) → Contains xs x → Contains (f x) y → Contains (flat_map f xs) y
piece_is_in f [] x y among within = none_is_in x among
piece_is_in f (first ∷ xs) x y among within =
    ⊎_elim
    (λ (same : first ≡ x). Contains-append_left (f first) (flat_map f xs) y (subst (λ z. Contains (f z) y) (sym same) within))
    (λ (later : Contains xs x). Contains-append_right (f first) (flat_map f xs) y (piece_is_in f xs x y later within))
    (among_cases first xs x among)

-- ## Searches

pub any_from : {X : Type 0} (test : X → Bool) (xs : List X) (x : X) → Contains xs x → test x ≡ true → list_any test xs ≡ true
any_from test xs x among passes = list_any-from_Any test xs (among.0, x, among.1, among.2, passes)

pub any_gives : {X : Type 0} (test : X → Bool) (xs : List X) → list_any test xs ≡ true → (x : X) × Contains xs x × (test x ≡ true)
any_gives test xs some = let at = Any-from_list_any test xs some in (at.1, (at.0, at.2, at.3), at.4)

-- of what no element passes, none does
pub none_passes : {X : Type 0} (test : X → Bool) (xs : List X) (x : X) → list_any test xs ≡ false → Contains xs x → test x ≡ true → ⊥
none_passes test xs x none among passes = let some = any_from test xs x among passes in cc

found_step : {X : Type 0} (test : X → Bool) (here : Bool) (x : X) (xs : List X) (y : X) → test x ≡ here
    → (find test xs ≡ Some y → Contains xs y × (test y ≡ true)) → cond here (Some x) (find test xs) ≡ Some y → Contains (x ∷ xs) y × (test y ≡ true)
found_step test true x xs y e later found =
    let same : x ≡ y = cc in (subst (Contains (x ∷ xs)) same (first_is_in x xs), rw (← same) e)
found_step test false x xs y e later found = let there = later found in (later_is_in x xs y there.0, there.1)

-- what is found is an element and passes
pub found_is_in : {X : Type 0} (test : X → Bool) (xs : List X) (y : X) → find test xs ≡ Some y → Contains xs y × (test y ≡ true)
found_is_in test [] y found = absurd (cc)
found_is_in test (x ∷ xs) y found = found_step test (test x) x xs y refl (found_is_in test xs y) found

-- a search gives something where an element passes
search_step : {X : Type 0} (test : X → Bool) (here : Bool) (x : X) (xs : List X) (y : X) → test x ≡ here → test y ≡ true → Contains (x ∷ xs) y
    → (Contains xs y → (z : X) × (find test xs ≡ Some z)) → (z : X) × (cond here (Some x) (find test xs) ≡ Some z)
search_step test true x xs y e passes among later = (x, refl)
search_step test false x xs y e passes among later =
    ⊎_elim (λ (same : x ≡ y). absurd (let other = ap test same in cc)) (λ (there : Contains xs y). later there) (among_cases x xs y among)

pub passing_is_found : {X : Type 0} (test : X → Bool) (xs : List X) (y : X) → Contains xs y → test y ≡ true → (z : X) × (find test xs ≡ Some z)
passing_is_found test [] y among passes = none_is_in y among
passing_is_found test (x ∷ xs) y among passes =
    search_step test (test x) x xs y refl passes among (λ there. passing_is_found test xs y there passes)
