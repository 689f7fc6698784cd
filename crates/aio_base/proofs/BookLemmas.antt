-- The book of registered timers stays in order under each change and each pass.
use Rattle.std.proofs.Common.{◌≡◌, ℕ, Bool, true, false, not, cond, List, [], ◌∷◌, refl, ap, ◌∙◌, arith}
use Rattle.std.specs.Prelude.{nat_le}
use Rattle.std.specs.List.{All, filter}
use Rattle.std.proofs.lemmas.Bool.{not-true}
use Rattle.std.proofs.lemmas.Bool.Decides.{nat_tests}
use Rattle.std.proofs.lemmas.List.Elements.{All-nil, All-cons, All-head, All-tail, All-weaker, All-filter, filter_passes}
use Rattle.aio_base.specs.World.{Registration}
use Rattle.aio_base.specs.Timers.{fires_before, placed, in_order, after_pass, BookChange, Registers, Unregisters, is_pair, without_pair, changed, IsBook}

-- ## The order

-- one registration fires before another
abbrev Follows : Registration → Registration → Type 0
Follows r next = fires_before r next ≡ true

pub before_trans : (a b c : Registration) → fires_before a b ≡ true → fires_before b c ≡ true → fires_before a c ≡ true
before_trans a b c first second = grind (arith, nat_tests)

pub before_asym : (a b : Registration) → fires_before a b ≡ true → fires_before b a ≡ false
before_asym a b before = grind (arith, nat_tests)

-- of two registrations of different pairs one fires before the other
pub before_total : (a b : Registration) → fires_before a b ≡ false → is_pair b.deadline b.id a ≡ false → fires_before b a ≡ true
before_total a b after other = grind (arith, nat_tests)

-- ## What leaves

kept_or_not : (test : Bool) (r : Registration) (book : List Registration) → All (λ (next : Registration). fires_before r next ≡ true) book → IsBook book
    → IsBook (cond test (r ∷ book) book)
kept_or_not true r book first rest = (first, rest)
kept_or_not false r book first rest = rest

pub filtered_book : (test : Registration → Bool) (book : List Registration) → IsBook book → IsBook (filter test book)
filtered_book test [] ordered = tt
filtered_book test (r ∷ book) ordered =
    kept_or_not (test r) r (filter test book) (All-filter test (Follows r) book ordered.0) (filtered_book test book ordered.1)

-- ## What joins

-- what holds of all of two lists holds of all of either
all_of_either : (P : Registration → Type 0) (test : Bool) (a b : List Registration) → All P a → All P b → All P (cond test a b)
all_of_either P true a b first second = first
all_of_either P false a b first second = second

-- what holds of a registration and of all others holds of all with it in its place
pub All-placed : (P : Registration → Type 0) (r : Registration) (book : List Registration) → P r → All P book → All P (placed r book)
All-placed P r [] here all = All-cons P r [] here all
All-placed P r (x ∷ xs) here all =
    all_of_either P (fires_before x r) (x ∷ placed r xs) (r ∷ x ∷ xs)
    (All-cons P x (placed r xs) (All-head P x xs all) (All-placed P r xs here (All-tail P x xs all)))
    (All-cons P r (x ∷ xs) here all)

-- a registration is of another pair
abbrev IsOther : ℕ → ℕ → Registration → Type 0
IsOther deadline id x = is_pair deadline id x ≡ false

placed_before : (test : Bool) (r x : Registration) (xs : List Registration) → fires_before x r ≡ test → IsOther r.deadline r.id x → IsBook (x ∷ xs) → IsBook (placed r xs)
    → IsBook (cond test (x ∷ placed r xs) (r ∷ x ∷ xs))
placed_before true r x xs before other ordered rest = (All-placed (Follows x) r xs before ordered.0, rest)
placed_before false r x xs after other ordered rest =
    let first : fires_before r x ≡ true = before_total x r after other in
    (All-cons (Follows r) x xs first (All-weaker (Follows x) (Follows r) (λ next later. before_trans r x next first later) xs ordered.0), ordered)

pub placed_book : (r : Registration) (book : List Registration) → All (λ (x : Registration). is_pair r.deadline r.id x ≡ false) book → IsBook book
    → IsBook (placed r book)
placed_book r [] others ordered = (All-nil (Follows r), tt)
placed_book r (x ∷ xs) others ordered =
    placed_before (fires_before x r) r x xs refl (All-head (IsOther r.deadline r.id) x xs others) ordered
    (placed_book r xs (All-tail (IsOther r.deadline r.id) x xs others) ordered.1)

-- ## The laws

without_pair_others : (deadline id : ℕ) (book : List Registration) → All (λ (x : Registration). is_pair deadline id x ≡ false) (without_pair deadline id book)
without_pair_others deadline id book =
    All-weaker (λ (x : Registration). not (is_pair deadline id x) ≡ true) (IsOther deadline id) (λ x kept. not-true (is_pair deadline id x) kept) (without_pair deadline id book)
    (filter_passes (λ (x : Registration). not (is_pair deadline id x)) book)

pub changed_book : (change : BookChange) (book : List Registration) → IsBook book → IsBook (changed change book)
changed_book (Registers r) book ordered =
    placed_book r (without_pair r.deadline r.id book) (without_pair_others r.deadline r.id book) (filtered_book (λ (x : Registration). not (is_pair r.deadline r.id x)) book ordered)
changed_book (Unregisters deadline id) book ordered = filtered_book (λ (x : Registration). not (is_pair deadline id x)) book ordered

pub passed_book : (moment : ℕ) (book : List Registration) → IsBook book → IsBook (after_pass moment book)
passed_book moment book ordered = filtered_book (λ (x : Registration). not (nat_le x.deadline moment)) book ordered

-- a registration that fires before all others is placed first
placed_first : (r : Registration) (book : List Registration) → All (λ (next : Registration). fires_before r next ≡ true) book → placed r book ≡ r ∷ book
placed_first r [] first = refl
placed_first r (x ∷ xs) first = ap (λ test. cond test (x ∷ placed r xs) (r ∷ x ∷ xs)) (before_asym r x (All-head (Follows r) x xs first))

pub book_in_order : (book : List Registration) → IsBook book → in_order book ≡ book
book_in_order [] ordered = refl
book_in_order (r ∷ book) ordered = ap (placed r) (book_in_order book ordered.1) ∙ placed_first r book ordered.0
