-- A pass over registrations and one over the book of them take the same wakers, and leave the same time to wait.
use Rattle.std.proofs.Common.{◌≡◌, ℕ, Bool, true, false, not, nat_eq, if◌then◌else◌, cond, List, [], ◌∷◌, map, Option, None, Some, refl, sym, ap, ◌∙◌, arith}
use Rattle.std.specs.Prelude.{nat_le}
use Rattle.std.specs.List.{All, AllByRecursion, IsDistinct, filter}
use Rattle.std.proofs.lemmas.Bool.{not-true}
use Rattle.std.proofs.lemmas.List.Elements.{All-head}
use Rattle.aio_base.specs.declared.names.Waker.{Waker}
use Rattle.aio_base.specs.World.{Registration, is_empty_list}
use Rattle.aio_base.specs.Timers.{fires_before, placed, in_order, due_wakers, after_pass, lesser, first_deadline, time_to, limit_of}
use Rattle.aio_base.proofs.Searching.{filtered_empty}
use Rattle.aio_base.proofs.BookChanges.{IsSorted, in_order_sorted, after_pass_in_order, due_wakers_in_order}

-- ## What is in order stays

placed_front : (r : Registration) (xs : List Registration) → All (λ (x : Registration). fires_before x r ≡ false) xs → placed r xs ≡ r ∷ xs
placed_front r [] none = refl
placed_front r (x ∷ xs) none =
    ap (λ test. cond test (x ∷ placed r xs) (r ∷ x ∷ xs)) (All-head (λ (y : Registration). fires_before y r ≡ false) x xs none)

sorted_stays : (xs : List Registration) → IsSorted xs → in_order xs ≡ xs
sorted_stays [] sorted = refl
sorted_stays (r ∷ xs) sorted = ap (placed r) (sorted_stays xs sorted.1) ∙ placed_front r xs sorted.0

-- the wakers that are due, of the book
pub due_of_book : (moment : ℕ) (rs : List Registration) → due_wakers moment rs ≡ due_wakers moment (in_order rs)
due_of_book moment rs =
    due_wakers_in_order moment rs
    ∙ sym (due_wakers_in_order moment (in_order rs)
    ∙ ap (λ (book : List Registration). map (λ (r : Registration). r.waker) (filter (λ (r : Registration). nat_le r.deadline moment) book)) (sorted_stays (in_order rs) (in_order_sorted rs)))

-- ## The first deadline

lesser_swap : (a b : ℕ) (o : Option ℕ) → lesser (Some a) (lesser (Some b) o) ≡ lesser (Some b) (lesser (Some a) o)
lesser_swap a b None = ap (λ (n : ℕ). Some n) (omega arith)
lesser_swap a b (Some c) = ap (λ (n : ℕ). Some n) (omega arith)

deadline_at : (behind : Bool) (r x : Registration) (xs : List Registration) → first_deadline (placed r xs) ≡ lesser (Some r.deadline) (first_deadline xs)
    → first_deadline (cond behind (x ∷ placed r xs) (r ∷ x ∷ xs)) ≡ lesser (Some r.deadline) (first_deadline (x ∷ xs))
deadline_at true r x xs rest = ap (lesser (Some x.deadline)) rest ∙ lesser_swap x.deadline r.deadline (first_deadline xs)
deadline_at false r x xs rest = refl

deadline_placed : (r : Registration) (xs : List Registration) → first_deadline (placed r xs) ≡ lesser (Some r.deadline) (first_deadline xs)
deadline_placed r [] = refl
deadline_placed r (x ∷ xs) = deadline_at (fires_before x r) r x xs (deadline_placed r xs)

deadline_of_book : (rs : List Registration) → first_deadline (in_order rs) ≡ first_deadline rs
deadline_of_book [] = refl
deadline_of_book (r ∷ rs) = deadline_placed r (in_order rs) ∙ ap (lesser (Some r.deadline)) (deadline_of_book rs)

deadline_left : (moment : ℕ) (rs : List Registration) → first_deadline (after_pass moment rs) ≡ first_deadline (after_pass moment (in_order rs))
deadline_left moment rs = sym (deadline_of_book (after_pass moment rs)) ∙ ap first_deadline (after_pass_in_order moment rs)

limit_same : (now : ℕ) (given : Option ℕ) (rs book : List Registration) → due_wakers now rs ≡ due_wakers now book
    → first_deadline (after_pass now rs) ≡ first_deadline (after_pass now book) → limit_of now rs given ≡ limit_of now book given
limit_same now given rs book same first =
    ap (λ (taken : List Waker). if is_empty_list taken then lesser (time_to now (first_deadline (after_pass now rs))) given else Some 0) same
    ∙ ap (λ (deadline : Option ℕ). if is_empty_list (due_wakers now book) then lesser (time_to now deadline) given else Some 0) first

-- the limit of the waits, of the book
pub limit_of_book : (now : ℕ) (given : Option ℕ) (rs : List Registration) → limit_of now rs given ≡ limit_of now (in_order rs) given
limit_of_book now given rs = limit_same now given rs (in_order rs) (due_of_book now rs) (deadline_left now rs)

-- ## Ids stay apart

others_at : (id : ℕ) (keep : Bool) (x : Registration) (xs : List Registration) → nat_eq id x.id ≡ false
    → AllByRecursion (λ other. nat_eq id other ≡ false) (map (λ (r : Registration). r.id) xs)
    → AllByRecursion (λ other. nat_eq id other ≡ false) (map (λ (r : Registration). r.id) (cond keep (x ∷ xs) xs))
others_at id true x xs first rest = (first, rest)
others_at id false x xs first rest = rest

others_filter : (id : ℕ) (p : Registration → Bool) (xs : List Registration)
    → AllByRecursion (λ other. nat_eq id other ≡ false) (map (λ (r : Registration). r.id) xs)
    → AllByRecursion (λ other. nat_eq id other ≡ false) (map (λ (r : Registration). r.id) (filter p xs))
others_filter id p [] all = tt
others_filter id p (x ∷ xs) all = others_at id (p x) x (filter p xs) all.0 (others_filter id p xs all.1)

distinct_at : (keep : Bool) (x : Registration) (xs : List Registration) → AllByRecursion (λ other. nat_eq x.id other ≡ false) (map (λ (r : Registration). r.id) xs)
    → IsDistinct nat_eq (map (λ (r : Registration). r.id) xs) → IsDistinct nat_eq (map (λ (r : Registration). r.id) (cond keep (x ∷ xs) xs))
unfolding IsDistinct
distinct_at true x xs first rest = (first, rest)
distinct_at false x xs first rest = rest

-- among those that a filter keeps
pub ids_filter : (p : Registration → Bool) (xs : List Registration) → IsDistinct nat_eq (map (λ (r : Registration). r.id) xs)
    → IsDistinct nat_eq (map (λ (r : Registration). r.id) (filter p xs))
unfolding IsDistinct
ids_filter p [] distinct = tt
ids_filter p (x ∷ xs) distinct = distinct_at (p x) x (filter p xs) (others_filter x.id p xs distinct.0) (ids_filter p xs distinct.1)

-- a pass leaves no waker that is due at its moment
pub none_due_left : (moment : ℕ) (book : List Registration) → due_wakers moment (after_pass moment book) ≡ []
none_due_left moment book =
    ap (λ (due : List Registration). map (λ (r : Registration). r.waker) (in_order due))
    (filtered_empty (λ (r : Registration). nat_le r.deadline moment) (λ (r : Registration). not (nat_le r.deadline moment))
    (λ r stays. not-true (nat_le r.deadline moment) stays) book)
