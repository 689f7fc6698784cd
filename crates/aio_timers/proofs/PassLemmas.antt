-- A pass takes the front of a book, as long as it is due.
use Rattle.std.proofs.Common.{◌≡◌, ℕ, ◌<◌, Bool, true, false, not, List, [], ◌∷◌, map, refl, sym, ap, ◌∙◌, arith}
use Rattle.std.specs.Prelude.{nat_le}
use Rattle.std.specs.List.{All, filter}
use Rattle.std.proofs.lemmas.List.Elements.{All-head, All-tail, All-cons, All-weaker, filter_passes}
use Rattle.std.proofs.lemmas.Bool.Decides.{nat_tests}
use Rattle.aio_base.specs.declared.names.Waker.{Waker}
use Rattle.aio_base.specs.World.{Registration}
use Rattle.aio_base.specs.Timers.{fires_before, placed, is_pair, without_pair, due_wakers, after_pass, IsBook}
use Rattle.aio_timers.specs.Book.{is_first_due}
use Rattle.aio_timers.proofs.BookLemmas.{Follows, IsOther, IsBook-filter, in_order-book, without_pair-others}
use Rattle.aio_timers.proofs.WeightLemmas.{without_pair-placed}

abbrev pub is_due : ℕ → Registration → Bool
is_due now r = nat_le r.deadline now

-- the wakers of what is due in a book stand in order
pub due_wakers-book : (now : ℕ) (book : List Registration) → IsBook book → due_wakers now book ≡ map (λ (r : Registration). r.waker) (filter (is_due now) book)
due_wakers-book now book h = ap (map (λ (r : Registration). r.waker)) (in_order-book (filter (is_due now) book) (IsBook-filter (is_due now) book h))

-- after a pass no registration is due
pub later-after_pass : (now : ℕ) (book : List Registration) → All (λ (r : Registration). now < r.deadline) (after_pass now book)
later-after_pass now book =
    All-weaker (λ (r : Registration). not (is_due now r) ≡ true) (λ (r : Registration). now < r.deadline) (λ r h. grind (arith, nat_tests)) (after_pass now book) (filter_passes (λ (r : Registration). not (is_due now r)) book)

none-kept : (p : Registration → Bool) (xs : List Registration) → All (λ (x : Registration). p x ≡ false) xs → filter p xs ≡ []
none-kept p [] h = refl
none-kept p (x ∷ xs) h =
    let out : p x ≡ false = All-head (λ (x : Registration). p x ≡ false) x xs h in
    rw out (none-kept p xs (All-tail (λ (x : Registration). p x ≡ false) x xs h))

all-kept : (p : Registration → Bool) (xs : List Registration) → All (λ (x : Registration). p x ≡ false) xs → filter (λ (x : Registration). not (p x)) xs ≡ xs
all-kept p [] h = refl
all-kept p (x ∷ xs) h =
    let out : p x ≡ false = All-head (λ (x : Registration). p x ≡ false) x xs h in
    rw out (ap (λ (ys : List Registration). x ∷ ys) (all-kept p xs (All-tail (λ (x : Registration). p x ≡ false) x xs h)))

later-too : (now : ℕ) (r x : Registration) → is_due now r ≡ false → fires_before r x ≡ true → is_due now x ≡ false
later-too now r x h k = grind (arith, nat_tests)

-- where the front is not due nothing is
pub record Ends (now : ℕ) (book : List Registration) : Type 0 where
  pub due : due_wakers now book ≡ []
  pub left : after_pass now book ≡ book

pub ends : (now : ℕ) (book : List Registration) → IsBook book → is_first_due now book ≡ false → Ends now book
ends now [] h first = record { due = refl; left = refl }
ends now (r ∷ book) h first =
    let all : All (λ (x : Registration). is_due now x ≡ false) (r ∷ book) = All-cons (λ (x : Registration). is_due now x ≡ false) r book first (All-weaker (Follows r) (λ (x : Registration). is_due now x ≡ false) (λ x k. later-too now r x first k) book h.0) in
    record {
      due = due_wakers-book now (r ∷ book) h ∙ ap (map (λ (r : Registration). r.waker)) (none-kept (is_due now) (r ∷ book) all);
      left = all-kept (is_due now) (r ∷ book) all;
    }

-- a front that is due goes first
pub record Takes (now : ℕ) (book more : List Registration) (waker : Waker) : Type 0 where
  pub due : due_wakers now book ≡ waker ∷ due_wakers now more
  pub left : after_pass now book ≡ after_pass now more

pub takes : (now : ℕ) (book more : List Registration) (r : Registration) (w : Waker) → IsBook book → is_first_due now book ≡ true → book ≡ r ∷ more → w ≡ r.waker → Takes now book more w
takes now [] more r w h first is e = cc
takes now (x ∷ xs) more r w h first is e =
    let head : x ≡ r = cc in
    let tail : xs ≡ more = cc in
    rw (← tail, e, ← head) (record {
      due = due_wakers-book now (x ∷ xs) h ∙ rw first (ap (λ (ws : List Waker). x.waker ∷ ws) (sym (due_wakers-book now xs h.1)));
      left = rw first refl;
    })

other-next : (r x : Registration) → fires_before r x ≡ true → is_pair r.deadline r.id x ≡ false
other-next r x h = grind (arith, nat_tests)

same-pair : (r : Registration) → is_pair r.deadline r.id r ≡ true
same-pair r = grind (arith, nat_tests)

-- the front of a book that goes leaves the rest
pub front-goes : (r : Registration) (xs ys : List Registration) → IsBook (r ∷ xs) → All (IsOther r.deadline r.id) ys → r ∷ xs ≡ placed r ys → ys ≡ xs
front-goes r xs ys h others e =
    let own : is_pair r.deadline r.id r ≡ true = same-pair r in
    let out : without_pair r.deadline r.id (r ∷ xs) ≡ xs = rw own (without_pair-others r.deadline r.id xs (All-weaker (Follows r) (IsOther r.deadline r.id) (λ x k. other-next r x k) xs h.0)) in
    sym (without_pair-placed r ys others) ∙ ap (without_pair r.deadline r.id) (sym e) ∙ out
