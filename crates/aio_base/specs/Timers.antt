-- Registered timers: the pass, by which those that are due leave in order, and the book of them that is kept in order.
use Rattle.std.specs.Prelude.{◌≡◌, ℕ, ◌-◌, ◌<◌, Bool, true, false, not, ◌&&◌, ◌||◌, ◌==◌, nat_lt, nat_le, if◌then◌else◌, List, [], ◌∷◌, map, filter, min, Option, None, Some, ⊤}
use Rattle.std.specs.List.{All, AllPairs}
use Rattle.std.specs.List.Sorted.{IsPermutation}
use Rattle.aio_base.specs.declared.names.Waker.{Waker}
use Rattle.aio_base.specs.World.{Registration, is_empty_list}

-- whether a registration fires before another: by deadline and then by id (`async-io` 2, `reactor.rs`, the key of the timers' map)
abbrev pub fires_before : Registration → Registration → Bool
fires_before a b = nat_lt a.deadline b.deadline || ((a.deadline == b.deadline) && nat_lt a.id b.id)

-- put at its place in an ordered list
abbrev pub placed : Registration → List Registration → List Registration
placed r [] = r ∷ []
placed r (x ∷ xs) = if fires_before x r then x ∷ placed r xs else r ∷ x ∷ xs

abbrev pub in_order : List Registration → List Registration
in_order [] = []
in_order (r ∷ rs) = placed r (in_order rs)

-- A list is these registrations in the order in which they fire: the same ones, each as often, and none stands behind one that it fires before.
pub record IsFiringOrder (registrations ordered : List Registration) : Type 0 where
  pub same : IsPermutation registrations ordered
  pub sorted : AllPairs (λ (first later : Registration). fires_before later first ≡ false) ordered

-- the wakers of a pass at a moment, in order: those of all registrations with a deadline at most the moment
abbrev pub due_wakers : ℕ → List Registration → List Waker
due_wakers moment registrations =
    map (λ (r : Registration). r.waker) (in_order (filter (λ (r : Registration). nat_le r.deadline moment) registrations))

-- what stays registered after a pass
abbrev pub after_pass : ℕ → List Registration → List Registration
after_pass moment registrations = filter (λ (r : Registration). not (nat_le r.deadline moment)) registrations

-- every registration has a deadline above this moment
abbrev pub AllAbove : ℕ → List Registration → Type 0
AllAbove moment registrations = All (λ (r : Registration). moment < r.deadline) registrations

abbrev pub lesser : Option ℕ → Option ℕ → Option ℕ
lesser None b = b
lesser (Some a) None = Some a
lesser (Some a) (Some b) = Some (min a b)

abbrev pub first_deadline : List Registration → Option ℕ
first_deadline [] = None
first_deadline (r ∷ rs) = lesser (Some r.deadline) (first_deadline rs)

abbrev pub time_to : ℕ → Option ℕ → Option ℕ
time_to now None = None
time_to now (Some deadline) = Some (deadline - now)

-- the limit of a wait in nanoseconds: 0 where the pass took a timer, else the lesser of the time to the first deadline and the given limit
-- (`async-io` 2, `reactor.rs`, `react`)
abbrev pub limit_of : ℕ → List Registration → Option ℕ → Option ℕ
limit_of now registrations given =
    if is_empty_list (due_wakers now registrations) then lesser (time_to now (first_deadline (after_pass now registrations))) given else Some 0

-- ## The book of registered timers

-- The book is the list of registrations in the order in which they fire. It is changed by operations: a registration joins, or the one with a
-- deadline and an id leaves (`async-io` 2, `reactor.rs`, `TimerOp`).
pub data BookChange : Type 0 where
  Registers : Registration → BookChange
  Unregisters : (deadline id : ℕ) → BookChange

-- whether a registration is the one with this deadline and this id
abbrev pub is_pair : ℕ → ℕ → Registration → Bool
is_pair deadline id r = (r.deadline == deadline) && (r.id == id)

abbrev pub without_pair : ℕ → ℕ → List Registration → List Registration
without_pair deadline id book = filter (λ (r : Registration). not (is_pair deadline id r)) book

-- The book after one change. A registration stands at its place, in place of the one with its deadline and id where that was there, whose waker
-- is so replaced; of one that leaves nothing is there any longer, and one that is not there changes nothing.
abbrev pub changed : BookChange → List Registration → List Registration
changed (Registers r) book = placed r (without_pair r.deadline r.id book)
changed (Unregisters deadline id) book = without_pair deadline id book

-- the deadline and the id that a change concerns
abbrev pub pair_of : BookChange → ℕ × ℕ
pair_of (Registers r) = (r.deadline, r.id)
pair_of (Unregisters deadline id) = (deadline, id)

-- the book after these changes, one after the other
abbrev pub fold_changes : List Registration → List BookChange → List Registration
fold_changes book [] = book
fold_changes book (change ∷ changes) = fold_changes (changed change book) changes

-- each registration fires before all behind it, so no deadline and id stand twice
abbrev pub IsBook : List Registration → Type 0
IsBook [] = ⊤
IsBook (r ∷ book) = All (λ (next : Registration). fires_before r next ≡ true) book × IsBook book
