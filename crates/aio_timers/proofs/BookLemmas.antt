-- Books: lists of registrations of which each fires before all behind it.
use Rattle.std.proofs.Common.{◌≤◌, sym, Option, None, Some, option_map, ◌≡◌, ℕ, suc, zero, ◌<◌, Bool, true, false, not, cond, List, [], ◌∷◌, ◌++◌, length, get_or, refl, ap, ◌∙◌, arith}
use Rattle.std.specs.List.{All, filter}
use Rattle.std.proofs.lemmas.List.Elements.{All-nil, All-cons, All-head, All-tail, All-filter, All-weaker}
use Rattle.aio_base.specs.declared.names.TimerId.{TimerId}
use Rattle.aio_base.specs.World.{Registration}
use Rattle.aio_base.specs.Timers.{fires_before, placed, in_order, is_pair, without_pair, BookChange, Registers, Unregisters, changed, fold_changes, lesser, first_deadline, IsBook}
use Rattle.aio_timers.specs.Book.{first_pair}
use Rattle.aio_timers.proofs.OrderLemmas.{fires_before-asym, fires_before-le, fires_before-trans, fires_before-total}

abbrev pub Follows : Registration → Registration → Type 0
Follows r next = fires_before r next ≡ true

-- a part of a book is a book
pub IsBook-filter : (p : Registration → Bool) (book : List Registration) → IsBook book → IsBook (filter p book)
IsBook-filter p [] h = tt
IsBook-filter p (r ∷ book) h =
    elim (p r) as (λ b. IsBook (cond b (r ∷ filter p book) (filter p book))) [
      | true ↦ (All-filter p (Follows r) book h.0, IsBook-filter p book h.1)
      | false ↦ IsBook-filter p book h.1
    ]

-- what holds of one more and of all others holds of all once it stands at its place
pub All-placed : (P : Registration → Type 0) (r : Registration) (book : List Registration) → P r → All P book → All P (placed r book)
All-placed P r [] one all = All-cons P r [] one all
All-placed P r (x ∷ book) one all =
    elim (fires_before x r) as (λ b. All P (cond b (x ∷ placed r book) (r ∷ x ∷ book))) [
      | true ↦ All-cons P x (placed r book) (All-head P x book all) (All-placed P r book one (All-tail P x book all))
      | false ↦ All-cons P r (x ∷ book) one all
    ]

abbrev pub IsOther : ℕ → ℕ → Registration → Type 0
IsOther d n r = is_pair d n r ≡ false

-- a book with one more of another deadline or id
pub IsBook-placed : (r : Registration) (book : List Registration) → IsBook book → All (IsOther r.deadline r.id) book → IsBook (placed r book)
IsBook-placed r [] h other = (All-nil (Follows r), tt)
IsBook-placed r (x ∷ book) h other =
    elim (fires_before x r) as (λ b. fires_before x r ≡ b → IsBook (cond b (x ∷ placed r book) (r ∷ x ∷ book))) [
      | true ↦ λ first. (All-placed (Follows x) r book first h.0, IsBook-placed r book h.1 (All-tail (IsOther r.deadline r.id) x book other))
      | false ↦ λ later.
          let next : fires_before r x ≡ true = fires_before-total x r later (All-head (IsOther r.deadline r.id) x book other) in
          (All-cons (Follows r) x book next (All-weaker (Follows x) (Follows r) (λ y k. fires_before-trans r x y next k) book h.0), h)
    ] refl

-- where all are others nothing leaves
pub without_pair-others : (d n : ℕ) (book : List Registration) → All (IsOther d n) book → without_pair d n book ≡ book
without_pair-others d n [] h = refl
without_pair-others d n (r ∷ book) h =
    let one : is_pair d n r ≡ false = All-head (IsOther d n) r book h in
    rw one (ap (λ (rs : List Registration). r ∷ rs) (without_pair-others d n book (All-tail (IsOther d n) r book h)))

-- without a pair all are others
pub others-without_pair : (d n : ℕ) (book : List Registration) → All (IsOther d n) (without_pair d n book)
others-without_pair d n [] = All-nil (IsOther d n)
others-without_pair d n (r ∷ book) =
    elim (is_pair d n r) as (λ b. is_pair d n r ≡ b → All (IsOther d n) (cond (not b) (r ∷ without_pair d n book) (without_pair d n book))) [
      | true ↦ λ _. others-without_pair d n book
      | false ↦ λ other. All-cons (IsOther d n) r (without_pair d n book) other (others-without_pair d n book)
    ] refl

-- a change keeps a book, and so do several
pub IsBook-changed : (change : BookChange) (book : List Registration) → IsBook book → IsBook (changed change book)
IsBook-changed (Registers r) book h =
    IsBook-placed r (without_pair r.deadline r.id book) (IsBook-filter (λ (x : Registration). not (is_pair r.deadline r.id x)) book h) (others-without_pair r.deadline r.id book)
IsBook-changed (Unregisters d n) book h = IsBook-filter (λ (x : Registration). not (is_pair d n x)) book h

pub IsBook-fold_changes : (book : List Registration) (changes : List BookChange) → IsBook book → IsBook (fold_changes book changes)
IsBook-fold_changes book [] h = h
IsBook-fold_changes book (change ∷ changes) h = IsBook-fold_changes (changed change book) changes (IsBook-changed change book h)

-- one more change after several
pub fold_changes-push : (book : List Registration) (changes : List BookChange) (change : BookChange) → fold_changes book (changes ++ change ∷ []) ≡ changed change (fold_changes book changes)
fold_changes-push book [] change = refl
fold_changes-push book (first ∷ changes) change = fold_changes-push (changed first book) changes change

-- one that fires before all of a book is placed at its front
pub placed-front : (r : Registration) (book : List Registration) → All (Follows r) book → placed r book ≡ r ∷ book
placed-front r [] h = refl
placed-front r (x ∷ book) h =
    let later : fires_before x r ≡ false = fires_before-asym r x (All-head (Follows r) x book h) in
    rw later refl

-- a book is in order already
pub in_order-book : (book : List Registration) → IsBook book → in_order book ≡ book
in_order-book [] h = refl
in_order-book (r ∷ book) h = ap (placed r) (in_order-book book h.1) ∙ placed-front r book h.0

-- of two places in a book the earlier fires before the later
pub fires_in_turn : (book : List Registration) (i j : ℕ) (d : Registration) → IsBook book → i < j → j < length book → fires_before (get_or book i d) (get_or book j d) ≡ true
fires_in_turn [] i j d h lt within = absurd (omega arith)
fires_in_turn (r ∷ book) i zero d h lt within = absurd (omega arith)
fires_in_turn (r ∷ book) zero (suc j) d h lt within = h.0 j d (omega arith)
fires_in_turn (r ∷ book) (suc i) (suc j) d h lt within = fires_in_turn book i j d h.1 (omega arith) (omega arith)

abbrev or_zero : Option ℕ → ℕ
or_zero None = 0
or_zero (Some n) = n

-- no deadline of a book is before that of its front
first_deadline-later : (r : Registration) (book : List Registration) → All (Follows r) book → lesser (Some r.deadline) (first_deadline book) ≡ Some r.deadline
first_deadline-later r [] h = refl
first_deadline-later r (x ∷ book) h =
    let le : r.deadline ≤ x.deadline = fires_before-le r x (All-head (Follows r) x book h) in
    kept (first_deadline book) (first_deadline-later r book (All-tail (Follows r) x book h)) le
  where
    kept : (o : Option ℕ) → lesser (Some r.deadline) o ≡ Some r.deadline → r.deadline ≤ x.deadline → lesser (Some r.deadline) (lesser (Some x.deadline) o) ≡ Some r.deadline
    kept None e le = ap (λ (n : ℕ). Some n) (omega arith)
    kept (Some n) e le = ap (λ (n : ℕ). Some n) (omega (arith, ap or_zero e))

pub first_deadline-book : (r : Registration) (book : List Registration) → IsBook (r ∷ book) → first_deadline (r ∷ book) ≡ Some r.deadline
first_deadline-book r book h = first_deadline-later r book h.0

pub first_deadline-pair : (book : List Registration) → IsBook book → option_map (λ (pair : ℕ × TimerId). pair.0) (first_pair book) ≡ first_deadline book
first_deadline-pair [] h = refl
first_deadline-pair (r ∷ book) h = sym (first_deadline-book r book h)
