-- The book of registered timers as a set of pairs: what a filter makes of it, and that changes to different pairs may change places.
use Rattle.std.proofs.Common.{◌≡◌, ◌≢◌, ℕ, Bool, true, false, not, cond, List, [], ◌∷◌, ◌++◌, map, ⊎_elim, refl, sym, ap, ◌∙◌, arith}
use Rattle.std.specs.Prelude.{nat_le}
use Rattle.std.specs.List.{All, filter}
use Rattle.std.proofs.lemmas.Bool.{and_parts, cases_Bool, eqb-true, false_from_ne_true}
use Rattle.std.proofs.lemmas.Bool.Decides.{nat_tests}
use Rattle.std.proofs.lemmas.List.Elements.{All-nil, All-cons, All-head, All-tail, All-weaker, All-filter}
use Rattle.aio_base.specs.World.{Registration}
use Rattle.aio_base.specs.Timers.{fires_before, placed, in_order, due_wakers, after_pass, BookChange, Registers, Unregisters, is_pair, without_pair, changed, pair_of, IsBook}
use Rattle.aio_base.proofs.BookLemmas.{before_trans, before_asym, before_total, All-placed, filtered_book}

-- ## Lists in order

-- a registration does not fire before another
abbrev NotBefore : Registration → Registration → Type 0
NotBefore r x = fires_before x r ≡ false

-- no registration fires before one that stands in front of it
abbrev pub IsSorted : List Registration → Type 0
IsSorted [] = Unit {0}
IsSorted (r ∷ rs) = All (λ (x : Registration). fires_before x r ≡ false) rs × IsSorted rs

pub book_sorted : (book : List Registration) → IsBook book → IsSorted book
book_sorted [] ordered = tt
book_sorted (r ∷ book) ordered =
    (All-weaker (λ x. fires_before r x ≡ true) (NotBefore r) (λ x before. before_asym r x before) book ordered.0, book_sorted book ordered.1)

not_before_trans : (a b c : Registration) → fires_before a b ≡ false → fires_before b c ≡ false → fires_before a c ≡ false
not_before_trans a b c first second = grind (arith, nat_tests)

-- a registration behind one that does not fire before it stands at the place after it
placed_behind : (r x : Registration) (xs : List Registration) → fires_before x r ≡ true → placed r (x ∷ xs) ≡ x ∷ placed r xs
placed_behind r x xs before = ap (λ test. cond test (x ∷ placed r xs) (r ∷ x ∷ xs)) before

placed_here : (r x : Registration) (xs : List Registration) → fires_before x r ≡ false → placed r (x ∷ xs) ≡ r ∷ x ∷ xs
placed_here r x xs after = ap (λ test. cond test (x ∷ placed r xs) (r ∷ x ∷ xs)) after

placed_in_front : (r : Registration) (xs : List Registration) → All (NotBefore r) xs → placed r xs ≡ r ∷ xs
placed_in_front r [] none = refl
placed_in_front r (x ∷ xs) none = placed_here r x xs (All-head (NotBefore r) x xs none)

sorted_at : (test : Bool) (r x : Registration) (xs : List Registration) → fires_before x r ≡ test → IsSorted (x ∷ xs) → IsSorted (placed r xs)
    → IsSorted (cond test (x ∷ placed r xs) (r ∷ x ∷ xs))
sorted_at true r x xs before sorted rest = (All-placed (NotBefore x) r xs (before_asym x r before) sorted.0, rest)
sorted_at false r x xs after sorted rest =
    (All-cons (NotBefore r) x xs after (All-weaker (NotBefore x) (NotBefore r) (λ y behind. not_before_trans y x r behind after) xs sorted.0), sorted)

placed_sorted : (r : Registration) (xs : List Registration) → IsSorted xs → IsSorted (placed r xs)
placed_sorted r [] sorted = (All-nil (NotBefore r), tt)
placed_sorted r (x ∷ xs) sorted = sorted_at (fires_before x r) r x xs refl sorted (placed_sorted r xs sorted.1)

pub in_order_sorted : (xs : List Registration) → IsSorted (in_order xs)
in_order_sorted [] = tt
in_order_sorted (r ∷ xs) = placed_sorted r (in_order xs) (in_order_sorted xs)

-- ## A filter of a list in order

gone_at : (t : Bool) (test : Registration → Bool) (r x : Registration) (xs : List Registration) → test r ≡ false → filter test (placed r xs) ≡ filter test xs
    → filter test (cond t (x ∷ placed r xs) (r ∷ x ∷ xs)) ≡ filter test (x ∷ xs)
gone_at true test r x xs fails rest = ap (λ kept. cond (test x) (x ∷ kept) kept) rest
gone_at false test r x xs fails rest = ap (λ t. cond t (r ∷ filter test (x ∷ xs)) (filter test (x ∷ xs))) fails

-- what a filter does not keep may be left out before
pub filter_placed_gone : (test : Registration → Bool) (r : Registration) (xs : List Registration) → test r ≡ false → filter test (placed r xs) ≡ filter test xs
filter_placed_gone test r [] fails = ap (λ t. cond t (r ∷ []) []) fails
filter_placed_gone test r (x ∷ xs) fails = gone_at (fires_before x r) test r x xs fails (filter_placed_gone test r xs fails)

behind_or_gone : (t : Bool) (r x : Registration) (xs : List Registration) → fires_before x r ≡ true
    → cond t (x ∷ placed r xs) (placed r xs) ≡ placed r (cond t (x ∷ xs) xs)
behind_or_gone true r x xs before = sym (placed_behind r x xs before)
behind_or_gone false r x xs before = refl

kept_at : (t : Bool) (test : Registration → Bool) (r x : Registration) (xs : List Registration) → fires_before x r ≡ t → test r ≡ true → IsSorted (x ∷ xs)
    → filter test (placed r xs) ≡ placed r (filter test xs) → filter test (cond t (x ∷ placed r xs) (r ∷ x ∷ xs)) ≡ placed r (filter test (x ∷ xs))
kept_at true test r x xs before passes sorted rest =
    ap (λ kept. cond (test x) (x ∷ kept) kept) rest ∙ behind_or_gone (test x) r x (filter test xs) before
kept_at false test r x xs after passes sorted rest =
    let behind : All (NotBefore r) xs = All-weaker (NotBefore x) (NotBefore r) (λ y later. not_before_trans y x r later after) xs sorted.0 in
    ap (λ t. cond t (r ∷ filter test (x ∷ xs)) (filter test (x ∷ xs))) passes
    ∙ sym (placed_in_front r (filter test (x ∷ xs)) (All-filter test (NotBefore r) (x ∷ xs) (All-cons (NotBefore r) x xs after behind)))

-- what a filter keeps stands at its place in what it keeps of the others
pub filter_placed_kept : (test : Registration → Bool) (r : Registration) (xs : List Registration) → test r ≡ true → IsSorted xs
    → filter test (placed r xs) ≡ placed r (filter test xs)
filter_placed_kept test r [] passes sorted = ap (λ t. cond t (r ∷ []) []) passes
filter_placed_kept test r (x ∷ xs) passes sorted =
    kept_at (fires_before x r) test r x xs refl passes sorted (filter_placed_kept test r xs passes sorted.1)

filter_in_order_at : (t : Bool) (test : Registration → Bool) (r : Registration) (xs : List Registration) → test r ≡ t → filter test (in_order xs) ≡ in_order (filter test xs)
    → filter test (placed r (in_order xs)) ≡ in_order (cond t (r ∷ filter test xs) (filter test xs))
filter_in_order_at true test r xs passes rest = filter_placed_kept test r (in_order xs) passes (in_order_sorted xs) ∙ ap (placed r) rest
filter_in_order_at false test r xs fails rest = filter_placed_gone test r (in_order xs) fails ∙ rest

-- to filter and to put in order may change places
pub filter_in_order : (test : Registration → Bool) (xs : List Registration) → filter test (in_order xs) ≡ in_order (filter test xs)
filter_in_order test [] = refl
filter_in_order test (r ∷ xs) = filter_in_order_at (test r) test r xs refl (filter_in_order test xs)

-- the book after a pass, and the wakers that the pass takes of it
pub after_pass_in_order : (moment : ℕ) (xs : List Registration) → in_order (after_pass moment xs) ≡ after_pass moment (in_order xs)
after_pass_in_order moment xs = sym (filter_in_order (λ (r : Registration). not (nat_le r.deadline moment)) xs)

pub due_wakers_in_order : (moment : ℕ) (xs : List Registration)
    → due_wakers moment xs ≡ map (λ (r : Registration). r.waker) (filter (λ (r : Registration). nat_le r.deadline moment) (in_order xs))
due_wakers_in_order moment xs =
    ap (map (λ (r : Registration). r.waker)) (sym (filter_in_order (λ (r : Registration). nat_le r.deadline moment) xs))

-- ## Two that join

swapped_at : (t u : Bool) (r s y : Registration) (ys : List Registration) → fires_before y r ≡ t → fires_before y s ≡ u → fires_before r s ≡ true
    → placed r (placed s ys) ≡ placed s (placed r ys) → placed r (placed s (y ∷ ys)) ≡ placed s (placed r (y ∷ ys))
swapped_at true true r s y ys by_r by_s before rest =
    ap (placed r) (placed_behind s y ys by_s) ∙ placed_behind r y (placed s ys) by_r ∙ ap (λ more. y ∷ more) rest
    ∙ sym (ap (placed s) (placed_behind r y ys by_r) ∙ placed_behind s y (placed r ys) by_s)
swapped_at true false r s y ys by_r by_s before rest =
    absurd (let by_trans = before_trans y r s by_r before in cc)
swapped_at false true r s y ys by_r by_s before rest =
    ap (placed r) (placed_behind s y ys by_s) ∙ placed_here r y (placed s ys) by_r
    ∙ sym (ap (placed s) (placed_here r y ys by_r) ∙ placed_behind s r (y ∷ ys) before ∙ ap (λ more. r ∷ more) (placed_behind s y ys by_s))
swapped_at false false r s y ys by_r by_s before rest =
    ap (placed r) (placed_here s y ys by_s) ∙ placed_here r s (y ∷ ys) (before_asym r s before)
    ∙ sym (ap (placed s) (placed_here r y ys by_r) ∙ placed_behind s r (y ∷ ys) before ∙ ap (λ more. r ∷ more) (placed_here s y ys by_s))

placed_swap_after : (r s : Registration) (ys : List Registration) → fires_before r s ≡ true → placed r (placed s ys) ≡ placed s (placed r ys)
placed_swap_after r s [] before = placed_here r s [] (before_asym r s before) ∙ sym (placed_behind s r [] before)
placed_swap_after r s (y ∷ ys) before =
    swapped_at (fires_before y r) (fires_before y s) r s y ys refl refl before (placed_swap_after r s ys before)

-- of two registrations of different pairs either may join first
pub placed_swap : (r s : Registration) (ys : List Registration) → is_pair r.deadline r.id s ≡ false → placed r (placed s ys) ≡ placed s (placed r ys)
placed_swap r s ys other =
    ⊎_elim
    (λ (before : fires_before s r ≡ true). sym (placed_swap_after s r ys before))
    (λ (after : fires_before s r ≡ false). placed_swap_after r s ys (before_total s r after other))
    (cases_Bool (fires_before s r))

-- one that joins a list at its end joins it in order, where its pair is not there
pub in_order_push : (r : Registration) (xs : List Registration) → All (λ (x : Registration). is_pair r.deadline r.id x ≡ false) xs
    → in_order (xs ++ r ∷ []) ≡ placed r (in_order xs)
in_order_push r [] others = refl
in_order_push r (x ∷ xs) others =
    ap (placed x) (in_order_push r xs (All-tail (λ (y : Registration). is_pair r.deadline r.id y ≡ false) x xs others))
    ∙ sym (placed_swap r x (in_order xs) (All-head (λ (y : Registration). is_pair r.deadline r.id y ≡ false) x xs others))

-- ## Two changes

filters_swap_at : (t u : Bool) (p q : Registration → Bool) (x : Registration) (by_p by_q : List Registration) → p x ≡ t → q x ≡ u → filter p by_q ≡ filter q by_p
    → filter p (cond u (x ∷ by_q) by_q) ≡ filter q (cond t (x ∷ by_p) by_p)
filters_swap_at true true p q x by_p by_q is_p is_q rest =
    ap (λ t. cond t (x ∷ filter p by_q) (filter p by_q)) is_p ∙ ap (λ more. x ∷ more) rest
    ∙ sym (ap (λ t. cond t (x ∷ filter q by_p) (filter q by_p)) is_q)
filters_swap_at true false p q x by_p by_q is_p is_q rest = rest ∙ sym (ap (λ t. cond t (x ∷ filter q by_p) (filter q by_p)) is_q)
filters_swap_at false true p q x by_p by_q is_p is_q rest = ap (λ t. cond t (x ∷ filter p by_q) (filter p by_q)) is_p ∙ rest
filters_swap_at false false p q x by_p by_q is_p is_q rest = rest

filters_swap : (p q : Registration → Bool) (xs : List Registration) → filter p (filter q xs) ≡ filter q (filter p xs)
filters_swap p q [] = refl
filters_swap p q (x ∷ xs) = filters_swap_at (p x) (q x) p q x (filter p xs) (filter q xs) refl refl (filters_swap p q xs)

without_swap : (d i e j : ℕ) (book : List Registration) → without_pair d i (without_pair e j book) ≡ without_pair e j (without_pair d i book)
without_swap d i e j book = filters_swap (λ r. not (is_pair d i r)) (λ r. not (is_pair e j r)) book

other_pair : (deadline id : ℕ) (r : Registration) → (let a : ℕ × ℕ = (r.deadline, r.id) in let b : ℕ × ℕ = (deadline, id) in a ≢ b) → is_pair deadline id r ≡ false
other_pair deadline id r differ =
    false_from_ne_true (is_pair deadline id r) (λ same.
    let parts = and_parts _ _ same in
    differ (let by_deadline = eqb-true r.deadline deadline parts.0 in let by_id = eqb-true r.id id parts.1 in cc))

-- one that joins and one of another pair that leaves
join_and_leave : (r : Registration) (deadline id : ℕ) (book : List Registration) → is_pair deadline id r ≡ false → IsBook book
    → changed (Registers r) (changed (Unregisters deadline id) book) ≡ changed (Unregisters deadline id) (changed (Registers r) book)
join_and_leave r deadline id book other ordered =
    ap (placed r) (without_swap r.deadline r.id deadline id book)
    ∙ sym (filter_placed_kept (λ x. not (is_pair deadline id x)) r (without_pair r.deadline r.id book) (ap not other)
    (book_sorted _ (filtered_book (λ x. not (is_pair r.deadline r.id x)) book ordered)))

join_and_join : (r s : Registration) (book : List Registration) → is_pair r.deadline r.id s ≡ false → is_pair s.deadline s.id r ≡ false → IsBook book
    → changed (Registers r) (changed (Registers s) book) ≡ changed (Registers s) (changed (Registers r) book)
join_and_join r s book s_other r_other ordered =
    ap (placed r) (sym (join_and_leave s r.deadline r.id book s_other ordered))
    ∙ placed_swap r s (without_pair s.deadline s.id (without_pair r.deadline r.id book)) s_other
    ∙ ap (λ rest. placed s (placed r rest)) (without_swap s.deadline s.id r.deadline r.id book)
    ∙ ap (placed s) (join_and_leave r s.deadline s.id book r_other ordered)

pub changes_commute : (a b : BookChange) (book : List Registration) → pair_of a ≢ pair_of b → IsBook book
    → changed a (changed b book) ≡ changed b (changed a book)
changes_commute (Registers r) (Registers s) book differ ordered =
    join_and_join r s book (other_pair r.deadline r.id s (λ same. differ (sym same))) (other_pair s.deadline s.id r differ) ordered
changes_commute (Registers r) (Unregisters deadline id) book differ ordered =
    join_and_leave r deadline id book (other_pair deadline id r differ) ordered
changes_commute (Unregisters deadline id) (Registers r) book differ ordered =
    sym (join_and_leave r deadline id book (other_pair deadline id r (λ same. differ (sym same))) ordered)
changes_commute (Unregisters first_deadline first_id) (Unregisters second_deadline second_id) book differ ordered =
    without_swap first_deadline first_id second_deadline second_id book
