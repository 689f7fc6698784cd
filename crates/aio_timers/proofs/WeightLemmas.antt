-- The list of a book depends on the registrations alone, and not on where they stand: lists that
-- weigh the same, however each registration is weighed, make one book.
use Rattle.std.proofs.Common.{◌≡◌, ℕ, zero, suc, ◌+◌, ◌<◌, ◌≤◌, Bool, true, false, not, cond, List, [], ◌∷◌, length, get_or, set, Option, None, Some, refl, ap, ◌∙◌, arith}
use Rattle.std.specs.List.{All, filter, filter_map, cons_option}
use Rattle.std.proofs.lemmas.List.Elements.{All-nil, All-cons, All-head, All-tail, All-weaker}
use Rattle.std.proofs.lemmas.Bool.Decides.{nat_tests}
use Rattle.aio_base.specs.World.{Registration}
use Rattle.aio_base.specs.Timers.{fires_before, placed, in_order, is_pair, without_pair, IsBook}
use Rattle.aio_timers.proofs.OrderLemmas.{fires_before-asym}
use Rattle.aio_timers.proofs.BookLemmas.{Follows, IsOther, IsBook-placed, without_pair-others}

-- ## Weights

-- what the registrations of a list weigh together
abbrev total : (Registration → ℕ) → List Registration → ℕ
total f [] = 0
total f (r ∷ rs) = f r + total f rs

total-placed : (f : Registration → ℕ) (r : Registration) (rs : List Registration) → total f (placed r rs) ≡ f r + total f rs
total-placed f r [] = refl
total-placed f r (x ∷ rs) = elim (fires_before x r) as (λ b. total f (cond b (x ∷ placed r rs) (r ∷ x ∷ rs)) ≡ f r + total f (x ∷ rs)) [
  | true ↦ omega (arith, total-placed f r rs)
  | false ↦ refl
]

total-in_order : (f : Registration → ℕ) (rs : List Registration) → total f (in_order rs) ≡ total f rs
total-in_order f [] = refl
total-in_order f (r ∷ rs) = omega (arith, total-placed f r (in_order rs), total-in_order f rs)

total-none : (f : Registration → ℕ) (rs : List Registration) → All (λ r. f r ≡ 0) rs → total f rs ≡ 0
total-none f [] h = refl
total-none f (r ∷ rs) h = omega (arith, All-head (λ x. f x ≡ 0) r rs h, total-none f rs (All-tail (λ x. f x ≡ 0) r rs h))

none-total : (f : Registration → ℕ) (rs : List Registration) → total f rs ≡ 0 → All (λ r. f r ≡ 0) rs
none-total f [] e = All-nil (λ x. f x ≡ 0)
none-total f (r ∷ rs) e = All-cons (λ x. f x ≡ 0) r rs (omega (arith, e)) (none-total f rs (omega (arith, e)))

-- 1 for those that a test tells, else 0
abbrev one_where : (Registration → Bool) → Registration → ℕ
one_where test r = cond (test r) 1 0

one-yes : (b : Bool) → b ≡ true → ◌≡◌ {A = ℕ} (cond b 1 0) 1
one-yes b e = rw e refl

one-not : (b : Bool) → b ≡ false → ◌≡◌ {A = ℕ} (cond b 1 0) 0
one-not b e = rw e refl

not-one : (b : Bool) → ◌≡◌ {A = ℕ} (cond b 1 0) 0 → b ≡ false
not-one true e = absurd (omega (arith, e))
not-one false e = refl

own-pair : (r : Registration) → is_pair r.deadline r.id r ≡ true
own-pair r = grind (arith, nat_tests)

-- ## A book has each pair once, and lists that do make a book

other-behind : (d n : ℕ) (r x : Registration) → is_pair d n r ≡ true → fires_before r x ≡ true → is_pair d n x ≡ false
other-behind d n r x h k = grind (arith, nat_tests)

pair-once : (d n : ℕ) (book : List Registration) → IsBook book → total (one_where (is_pair d n)) book ≤ 1
pair-once d n [] h = omega arith
pair-once d n (r ∷ book) h = elim (is_pair d n r) as (λ b. is_pair d n r ≡ b → cond b 1 0 + total (one_where (is_pair d n)) book ≤ 1) [
  | true ↦ λ its. omega (arith, total-none (one_where (is_pair d n)) book (All-weaker (Follows r) (λ x. one_where (is_pair d n) x ≡ 0) (λ x k. one-not (is_pair d n x) (other-behind d n r x its k)) book h.0))
  | false ↦ λ _. omega (arith, pair-once d n book h.1)
] refl

others-where-none : (d n : ℕ) (rs : List Registration) → total (one_where (is_pair d n)) rs ≡ 0 → All (IsOther d n) rs
others-where-none d n rs e = All-weaker (λ x. one_where (is_pair d n) x ≡ 0) (IsOther d n) (λ x k. not-one (is_pair d n x) k) rs (none-total (one_where (is_pair d n)) rs e)

book-where-once : (rs : List Registration) → ((d n : ℕ) → total (one_where (is_pair d n)) rs ≤ 1) → IsBook (in_order rs)
book-where-once [] once = tt
book-where-once (r ∷ rs) once =
    let own : one_where (is_pair r.deadline r.id) r ≡ 1 = one-yes (is_pair r.deadline r.id r) (own-pair r) in
    let none : total (one_where (is_pair r.deadline r.id)) (in_order rs) ≡ 0 = omega (arith, once r.deadline r.id, own, total-in_order (one_where (is_pair r.deadline r.id)) rs) in
    IsBook-placed r (in_order rs) (book-where-once rs (λ d n. omega (arith, once d n))) (others-where-none r.deadline r.id (in_order rs) none)

-- ## Books that weigh the same are one

abbrev is_before : Registration → Registration → Bool
is_before r x = fires_before x r

before-own : (r : Registration) → fires_before r r ≡ false
before-own r = grind (arith, nat_tests)

none-before : (r : Registration) (book : List Registration) → All (Follows r) book → total (one_where (is_before r)) (r ∷ book) ≡ 0
none-before r book h = omega (
  arith,
  one-not (fires_before r r) (before-own r),
  total-none (one_where (is_before r)) book (All-weaker (Follows r) (λ x. one_where (is_before r) x ≡ 0) (λ x k. one-not (fires_before x r) (fires_before-asym r x k)) book h),
)

neither-first : (a b : Registration) → fires_before a b ≡ false → fires_before b a ≡ false → (a.deadline ≡ b.deadline) × (a.id ≡ b.id)
neither-first a b h k = grind (arith, nat_tests)

-- the waker of the registration of a pair
abbrev waker_where : ℕ → ℕ → Registration → ℕ
waker_where d n r = cond (is_pair d n r) r.waker.0 0

front-waker : (r : Registration) (book : List Registration) → All (Follows r) book → total (waker_where r.deadline r.id) (r ∷ book) ≡ r.waker.0
front-waker r book h = omega (
  arith,
  own,
  total-none (waker_where r.deadline r.id) book (All-weaker (Follows r) (λ x. waker_where r.deadline r.id x ≡ 0) (λ x k. other x (other-behind r.deadline r.id r x (own-pair r) k)) book h),
)
  where
    own : waker_where r.deadline r.id r ≡ r.waker.0
    own = let e : is_pair r.deadline r.id r ≡ true = own-pair r in rw e refl

    other : (x : Registration) → is_pair r.deadline r.id x ≡ false → waker_where r.deadline r.id x ≡ 0
    other x e = rw e refl

one-front : (x y : Registration) (xs ys : List Registration) → IsBook (x ∷ xs) → IsBook (y ∷ ys) → ((f : Registration → ℕ) → total f (x ∷ xs) ≡ total f (y ∷ ys)) → x ≡ y
one-front x y xs ys h k same =
    let not_sooner : fires_before y x ≡ false = not-one (fires_before y x) (omega (arith, same (one_where (is_before x)), none-before x xs h.0)) in
    let not_later : fires_before x y ≡ false = not-one (fires_before x y) (omega (arith, same (one_where (is_before y)), none-before y ys k.0)) in
    let pair = neither-first x y not_later not_sooner in
    let alike : total (waker_where x.deadline x.id) (y ∷ ys) ≡ total (waker_where y.deadline y.id) (y ∷ ys) = λ i. total (waker_where (pair.0 i) (pair.1 i)) (y ∷ ys) in
    let wakers : x.waker.0 ≡ y.waker.0 = omega (arith, same (waker_where x.deadline x.id), front-waker x xs h.0, alike, front-waker y ys k.0) in
    λ i. record { id = pair.1 i; deadline = pair.0 i; waker = record { 0 = wakers i } }

one-book : (xs ys : List Registration) → IsBook xs → IsBook ys → ((f : Registration → ℕ) → total f xs ≡ total f ys) → xs ≡ ys
one-book [] [] h k same = refl
one-book [] (y ∷ ys) h k same = absurd (omega (arith, same (λ r. 1)))
one-book (x ∷ xs) [] h k same = absurd (omega (arith, same (λ r. 1)))
one-book (x ∷ xs) (y ∷ ys) h k same =
    let front : x ≡ y = one-front x y xs ys h k same in
    ap (λ (r : Registration). r ∷ xs) front ∙ ap (λ (rs : List Registration). y ∷ rs) (one-book xs ys h.1 k.1 (λ f. omega (arith, same f, ap f front)))

-- a book that weighs as much as these registrations is that of them
in_order-is : (rs book : List Registration) → IsBook book → ((f : Registration → ℕ) → total f rs ≡ total f book) → in_order rs ≡ book
in_order-is rs book h same =
    one-book (in_order rs) book (book-where-once rs (λ d n. omega (arith, same (one_where (is_pair d n)), pair-once d n book h))) h (λ f. total-in_order f rs ∙ same f)

-- ## One place of many is written

abbrev total_option : (Registration → ℕ) → Option Registration → ℕ
total_option f None = 0
total_option f (Some r) = f r

total-cons : (f : Registration → ℕ) (o : Option Registration) (rs : List Registration) → total f (cons_option o rs) ≡ total_option f o + total f rs
total-cons f None rs = omega arith
total-cons f (Some r) rs = refl

module _ {X : Type 0} (g : X → Option Registration) where
  -- the weight of what stood there goes, and that of what stands there now comes
  total-set : (f : Registration → ℕ) (xs : List X) (i : ℕ) (d y : X) → i < length xs → total f (filter_map g (set xs i y)) + total_option f (g (get_or xs i d)) ≡ total f (filter_map g xs) + total_option f (g y)
  total-set f [] i d y lt = absurd (omega (arith, lt))
  total-set f (x ∷ xs) zero d y lt = omega (arith, total-cons f (g y) (filter_map g xs), total-cons f (g x) (filter_map g xs))
  total-set f (x ∷ xs) (suc i) d y lt = omega (arith, total-cons f (g x) (filter_map g (set xs i y)), total-cons f (g x) (filter_map g xs), total-set f xs i d y (omega (arith, lt)))

  abbrev pub ordered_of : List X → List Registration
  ordered_of xs = in_order (filter_map g xs)

  -- a free place takes a registration of another pair
  pub comes : (xs : List X) (i : ℕ) (d y : X) (r : Registration) → i < length xs → g (get_or xs i d) ≡ None → g y ≡ Some r → IsBook (ordered_of xs) → All (IsOther r.deadline r.id) (ordered_of xs) → ordered_of (set xs i y) ≡ placed r (ordered_of xs)
  comes xs i d y r lt none some book others =
      in_order-is (filter_map g (set xs i y)) (placed r (ordered_of xs)) (IsBook-placed r (ordered_of xs) book others)
      (λ f. omega (arith, total-set f xs i d y lt, ap (total_option f) none, ap (total_option f) some, total-placed f r (ordered_of xs), total-in_order f (filter_map g xs)))

  pub record Leaves (old new : List Registration) (r : Registration) : Type 0 where
    pub placed_is : old ≡ placed r new
    pub book : IsBook new
    pub others : All (IsOther r.deadline r.id) new

  -- a place gives up its registration
  pub goes : (xs : List X) (i : ℕ) (d y : X) (r : Registration) → i < length xs → g (get_or xs i d) ≡ Some r → g y ≡ None → IsBook (ordered_of xs) → Leaves (ordered_of xs) (ordered_of (set xs i y)) r
  goes xs i d y r lt some none h = record {
    placed_is = in_order-is (filter_map g xs) (placed r (in_order left)) (IsBook-placed r (in_order left) its-book its-others) (λ f. omega (arith, sum f, total-placed f r (in_order left), total-in_order f left));
    book = its-book;
    others = its-others;
  }
    where
      left : List Registration
      left = filter_map g (set xs i y)

      sum : (f : Registration → ℕ) → total f (filter_map g xs) ≡ f r + total f left
      sum f = omega (arith, total-set f xs i d y lt, ap (total_option f) none, ap (total_option f) some)

      before : (d n : ℕ) → total (one_where (is_pair d n)) (filter_map g xs) ≤ 1
      before d n = omega (arith, pair-once d n (ordered_of xs) h, total-in_order (one_where (is_pair d n)) (filter_map g xs))

      its-book : IsBook (in_order left)
      its-book = book-where-once left (λ d n. omega (arith, before d n, sum (one_where (is_pair d n))))

      its-others : All (IsOther r.deadline r.id) (in_order left)
      its-others = others-where-none r.deadline r.id (in_order left) (omega (
        arith,
        before r.deadline r.id,
        sum (one_where (is_pair r.deadline r.id)),
        one-yes (is_pair r.deadline r.id r) (own-pair r),
        total-in_order (one_where (is_pair r.deadline r.id)) left,
      ))

-- ## One that was placed

pub placed-own : (P : Registration → Type 0) (r : Registration) (book : List Registration) → All P (placed r book) → P r
placed-own P r [] h = All-head P r [] h
placed-own P r (x ∷ book) h = elim (fires_before x r) as (λ b. All P (cond b (x ∷ placed r book) (r ∷ x ∷ book)) → P r) [
  | true ↦ λ k. placed-own P r book (All-tail P x (placed r book) k)
  | false ↦ λ k. All-head P r (x ∷ book) k
] h

pub placed-rest : (P : Registration → Type 0) (r : Registration) (book : List Registration) → All P (placed r book) → All P book
placed-rest P r [] h = All-nil P
placed-rest P r (x ∷ book) h = elim (fires_before x r) as (λ b. All P (cond b (x ∷ placed r book) (r ∷ x ∷ book)) → All P (x ∷ book)) [
  | true ↦ λ k. All-cons P x book (All-head P x (placed r book) k) (placed-rest P r book (All-tail P x (placed r book) k))
  | false ↦ λ k. All-tail P r (x ∷ book) k
] h

-- one that a filter leaves out leaves no trace
filter-placed : (p : Registration → Bool) (r : Registration) (rs : List Registration) → p r ≡ false → filter p (placed r rs) ≡ filter p rs
filter-placed p r [] out = rw out refl
filter-placed p r (x ∷ rs) out = elim (fires_before x r) as (λ b. filter p (cond b (x ∷ placed r rs) (r ∷ x ∷ rs)) ≡ filter p (x ∷ rs)) [
  | true ↦ ap (λ (ys : List Registration). cond (p x) (x ∷ ys) ys) (filter-placed p r rs out)
  | false ↦ rw out refl
]

pub without_pair-placed : (r : Registration) (book : List Registration) → All (IsOther r.deadline r.id) book → without_pair r.deadline r.id (placed r book) ≡ book
without_pair-placed r book h =
    filter-placed (λ x. not (is_pair r.deadline r.id x)) r book (ap not (own-pair r)) ∙ without_pair-others r.deadline r.id book h
