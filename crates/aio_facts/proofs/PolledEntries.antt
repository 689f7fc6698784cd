-- The entries of a world's listeners where one of them is polled or given up.
use Rattle.std.proofs.Common.{◌≡◌, ℕ, Bool, true, false, cond, nat_eq, List, [], ◌∷◌, ◌++◌, map, find, filter, Some, refl, sym, ap, ◌∙◌, subst, ⊎_elim}
use Rattle.std.specs.List.{Contains, IsDistinct}
use Rattle.std.proofs.lemmas.Bool.{eq-eqb, ne_eqb}
use Rattle.std.proofs.lemmas.Map.Keys.{IsDistinct-tail}
use Rattle.aio_base.specs.Machine.{is_listener}
use Rattle.aio_base.specs.World.{ListenerEntry}
use Rattle.aio_base.proofs.Membership.{none_is_in, among_cases, first_is_in, later_is_in, image_is_in}
use Rattle.aio_facts.proofs.Serials.{differs}

-- ## Lists

swap_step : {X : Type 0} (p q : X → Bool) (here there : Bool) (x : X) (xs ys : List X) → p x ≡ here → q x ≡ there → filter p xs ≡ filter q ys
    → filter p (cond there (x ∷ xs) xs) ≡ filter q (cond here (x ∷ ys) ys)
swap_step p q true true x xs ys e f rest = rw (e, f) (ap (λ (zs : List _). x ∷ zs) rest)
swap_step p q true false x xs ys e f rest = rw f rest
swap_step p q false true x xs ys e f rest = rw e rest
swap_step p q false false x xs ys e f rest = rest

-- two filters, in either order
pub filters_swap : {X : Type 0} (p q : X → Bool) (xs : List X) → filter p (filter q xs) ≡ filter q (filter p xs)
filters_swap p q [] = refl
filters_swap p q (x ∷ xs) = swap_step p q (p x) (q x) x (filter q xs) (filter p xs) refl refl (filters_swap p q xs)

pub kept_all : {X : Type 0} (q : X → Bool) (xs : List X) → ((x : X) → Contains xs x → q x ≡ true) → filter q xs ≡ xs
kept_all q [] all = refl
kept_all q (x ∷ xs) all = rw (all x (first_is_in x xs)) (ap (λ (ys : List _). x ∷ ys) (kept_all q xs (λ y among. all y (later_is_in x xs y among))))

mapped_step : {X Y : Type 0} (f : X → Y) (q : Y → Bool) (here : Bool) (x : X) (ys : List Y) (xs : List X) → q (f x) ≡ here → ys ≡ map f xs
    → cond (q (f x)) (f x ∷ ys) ys ≡ map f (cond here (x ∷ xs) xs)
mapped_step f q true x ys xs e rest = rw e (ap (λ (zs : List _). f x ∷ zs) rest)
mapped_step f q false x ys xs e rest = rw e rest

-- a filter of images is the image of a filter
pub mapped_filter : {X Y : Type 0} (f : X → Y) (p : X → Bool) (q : Y → Bool) (xs : List X) → ((x : X) → Contains xs x → q (f x) ≡ p x) → filter q (map f xs) ≡ map f (filter p xs)
mapped_filter f p q [] same = refl
mapped_filter f p q (x ∷ xs) same =
    mapped_step f q (p x) x (filter q (map f xs)) (filter p xs) (same x (first_is_in x xs)) (mapped_filter f p q xs (λ y among. same y (later_is_in x xs y among)))

-- a change of elements is a change of their images
pub mapped_through : {X Y : Type 0} (f : X → X) (g : X → Y) (h : Y → Y) (xs : List X) → ((x : X) → Contains xs x → g (f x) ≡ h (g x)) → map g (map f xs) ≡ map h (map g xs)
mapped_through f g h [] same = refl
mapped_through f g h (x ∷ xs) same =
    ap (λ (y : _). y ∷ map g (map f xs)) (same x (first_is_in x xs)) ∙ ap (λ (ys : List _). h (g x) ∷ ys) (mapped_through f g h xs (λ y among. same y (later_is_in x xs y among)))

pub mapped_same_all : {X : Type 0} (f : X → X) (xs : List X) → ((x : X) → Contains xs x → f x ≡ x) → map f xs ≡ xs
mapped_same_all f [] same = refl
mapped_same_all f (x ∷ xs) same =
    ap (λ (y : _). y ∷ map f xs) (same x (first_is_in x xs)) ∙ ap (λ (ys : List _). x ∷ ys) (mapped_same_all f xs (λ y among. same y (later_is_in x xs y among)))

pub pushed_in : {X : Type 0} (p : X → Bool) (xs : List X) (x : X) → p x ≡ true → filter p (xs ++ x ∷ []) ≡ filter p xs ++ x ∷ []
pushed_in p [] x passes = ap (λ (b : Bool). cond b (x ∷ []) []) passes
pushed_in p (y ∷ xs) x passes = pushed_step p (p y) y x (filter p (xs ++ x ∷ [])) (filter p xs) (pushed_in p xs x passes)
  where
    pushed_step : {X : Type 0} (p : X → Bool) (here : Bool) (y x : X) (zs ys : List X) → zs ≡ ys ++ x ∷ [] → cond here (y ∷ zs) zs ≡ cond here (y ∷ ys) ys ++ x ∷ []
    pushed_step p true y x zs ys rest = ap (λ (zs : List _). y ∷ zs) rest
    pushed_step p false y x zs ys rest = rest

-- ## The entry of a number

pub found_of : (ls : List ListenerEntry) (x : ListenerEntry) → IsDistinct nat_eq (map (λ (l : ListenerEntry). l.number) ls) → Contains ls x → find (is_listener x.number) ls ≡ Some x
found_of [] x distinct among = none_is_in x among
found_of (l ∷ ls) x distinct among =
    ⊎_elim
    (λ (here : l ≡ x). ap (λ (b : Bool). cond b (Some l) (find (is_listener x.number) ls)) (eq-eqb l.number x.number (ap (λ (k : ListenerEntry). k.number) here)) ∙ ap (λ (k : ListenerEntry). Some k) here)
    (λ (later : Contains ls x). ap (λ (b : Bool). cond b (Some l) (find (is_listener x.number) ls))
    (ne_eqb l.number x.number (differs (map (λ (k : ListenerEntry). k.number) ls) l.number x.number distinct (image_is_in (λ (k : ListenerEntry). k.number) ls x later)))
    ∙ found_of ls x (IsDistinct-tail nat_eq l.number (map (λ (k : ListenerEntry). k.number) ls) distinct) later)
    (among_cases l ls x among)

-- no other entry has the number of one that was found
pub same_entry : (ls : List ListenerEntry) (x entry : ListenerEntry) (number : ℕ) → IsDistinct nat_eq (map (λ (l : ListenerEntry). l.number) ls) → find (is_listener number) ls ≡ Some entry
    → Contains ls x → x.number ≡ number → x ≡ entry
same_entry ls x entry number distinct found among is =
    let mine : find (is_listener number) ls ≡ Some x = subst (λ n. find (is_listener n) ls ≡ Some x) is (found_of ls x distinct among) in
    let both : Some x ≡ Some entry = sym mine ∙ found in cc
