-- An event takes the waiters of its directions, one direction after the other.
use Rattle.std.specs.Prelude.{◌≡◌, ℕ, ◌+◌, ◌<◌, ◌≤◌, if◌then◌else◌, Bool, true, false, List, [], ◌∷◌, ◌++◌, length}
use Rattle.std.proofs.Common.{sym, ◌∙◌, ap, subst, arith, length-append, append_assoc, drop, get_or, drop-cons, add-one}
use Rattle.aio_base.specs.declared.names.Dir.{Dir}
use Rattle.aio_base.specs.declared.names.Waker.{Waker}
use Rattle.aio_base.specs.declared.names.Interest.{Interest}
use Rattle.aio_base.specs.World.{directions, has_dir}
use Rattle.aio_source.specs.Values.{DirectionValue, DirectionValues}
use Rattle.aio_source.specs.Rules.{waiters_of, direction_of, with_direction, handled, handled_along, taken_along}

-- What is left to be done comes to what was to be done at first, from the directions as they were then; and there is room for it.
pub record Taking (on : Interest) (round : ℕ) (left : List Dir) (began now : DirectionValues) (before taken : List Waker) (capacity : ℕ) : Type 0 where
  pub values : handled_along on round left now ≡ handled_along on round directions began
  pub wakers : taken ++ taken_along on round left now ≡ before ++ taken_along on round directions began
  pub room : length taken + length (taken_along on round left now) ≤ capacity

-- a direction that the event names is taken next
taking_named : (on : Interest) (round : ℕ) (dir : Dir) (left : List Dir) (began now : DirectionValues) (before taken : List Waker) (capacity : ℕ) → has_dir on dir ≡ true → Taking on round (dir ∷ left) began now before taken capacity → Taking on round left began (with_direction now dir (handled round (direction_of now dir))) before (taken ++ waiters_of (direction_of now dir)) capacity
taking_named on round dir left began now before taken capacity named t =
    let after : DirectionValues = with_direction now dir (handled round (direction_of now dir)) in
    let found : List Waker = waiters_of (direction_of now dir) in
    let wakers : taken ++ (found ++ taken_along on round left after) ≡ before ++ taken_along on round directions began =
    subst (λ (b : Bool). taken ++ ((if b then found else []) ++ taken_along on round left (if b then after else now)) ≡ before ++ taken_along on round directions began) named t.wakers in
    let room : length taken + length (found ++ taken_along on round left after) ≤ capacity =
    subst (λ (b : Bool). length taken + length ((if b then found else []) ++ taken_along on round left (if b then after else now)) ≤ capacity) named t.room in
    record {
      values = subst (λ (b : Bool). handled_along on round left (if b then after else now) ≡ handled_along on round directions began) named t.values;
      wakers = append_assoc taken found (taken_along on round left after) ∙ wakers;
      room = omega (arith, length-append taken found, length-append found (taken_along on round left after));
    }

-- one that it does not name stays
taking_unnamed : (on : Interest) (round : ℕ) (dir : Dir) (left : List Dir) (began now : DirectionValues) (before taken : List Waker) (capacity : ℕ) → has_dir on dir ≡ false → Taking on round (dir ∷ left) began now before taken capacity → Taking on round left began now before taken capacity
taking_unnamed on round dir left began now before taken capacity unnamed t =
    let after : DirectionValues = with_direction now dir (handled round (direction_of now dir)) in
    let found : List Waker = waiters_of (direction_of now dir) in
    record {
      values = subst (λ (b : Bool). handled_along on round left (if b then after else now) ≡ handled_along on round directions began) unnamed t.values;
      wakers = subst (λ (b : Bool). taken ++ ((if b then found else []) ++ taken_along on round left (if b then after else now)) ≡ before ++ taken_along on round directions began) unnamed t.wakers;
      room = subst (λ (b : Bool). length taken + length ((if b then found else []) ++ taken_along on round left (if b then after else now)) ≤ capacity) unnamed t.room;
    }

-- the directions that are left begin with the one at this index
taking_at : (on : Interest) (round : ℕ) (dirs : List Dir) (index : ℕ) (began now : DirectionValues) (before taken : List Waker) (capacity : ℕ) (d : Dir) → index < length dirs → Taking on round (drop index dirs) began now before taken capacity → Taking on round (get_or dirs index d ∷ drop (index + 1) dirs) began now before taken capacity
taking_at on round dirs index began now before taken capacity d within t =
    subst (λ (left : List Dir). Taking on round left began now before taken capacity) (drop-cons dirs index d within ∙ ap (λ k. get_or dirs index d ∷ drop k dirs) (sym (add-one index))) t

-- what is left after a turn that took the waiters of a direction which the event names
pub taken_next : {on : Interest} {round : ℕ} {began now : DirectionValues} {before taken : List Waker} {capacity : ℕ} (dirs : List Dir) (index : ℕ) (d : Dir) (lent emptied : DirectionValue) (after : DirectionValues) (all : List Waker) (kept : ℕ)
    → Taking on round (drop index dirs) began now before taken capacity → index < length dirs → has_dir on (get_or dirs index d) ≡ true
    → lent ≡ direction_of now (get_or dirs index d) → emptied ≡ handled round lent → after ≡ with_direction now (get_or dirs index d) emptied → all ≡ taken ++ waiters_of lent → kept ≡ capacity
    → Taking on round (drop (index + 1) dirs) began after before all kept
taken_next {on} {round} {began} {now} {before} {taken} {capacity} dirs index d lent emptied after all kept t within named lent-is emptied-is after-is all-is kept-is =
    let dir : Dir = get_or dirs index d in
    let left : List Dir = drop (index + 1) dirs in
    let next : Taking on round left began (with_direction now dir (handled round (direction_of now dir))) before (taken ++ waiters_of (direction_of now dir)) capacity =
    taking_named on round dir left began now before taken capacity named (taking_at on round dirs index began now before taken capacity d within t) in
    let now-is : with_direction now dir (handled round (direction_of now dir)) ≡ after = cc in
    let taken-is : taken ++ waiters_of (direction_of now dir) ≡ all = ap (λ (l : DirectionValue). taken ++ waiters_of l) (sym lent-is) ∙ sym all-is in
    subst (λ (ds : DirectionValues). Taking on round left began ds before all kept) now-is
    (subst (λ (ws : List Waker). Taking on round left began (with_direction now dir (handled round (direction_of now dir))) before ws kept) taken-is
    (subst (λ (k : ℕ). Taking on round left began (with_direction now dir (handled round (direction_of now dir))) before (taken ++ waiters_of (direction_of now dir)) k) (sym kept-is) next))

-- what is left after a turn that passed over a direction
pub passed_next : {on : Interest} {round : ℕ} {began now : DirectionValues} {before taken : List Waker} {capacity : ℕ} (dirs : List Dir) (index : ℕ) (d : Dir)
    → Taking on round (drop index dirs) began now before taken capacity → index < length dirs → has_dir on (get_or dirs index d) ≡ false
    → Taking on round (drop (index + 1) dirs) began now before taken capacity
passed_next {on} {round} {began} {now} {before} {taken} {capacity} dirs index d t within unnamed =
    taking_unnamed on round (get_or dirs index d) (drop (index + 1) dirs) began now before taken capacity unnamed (taking_at on round dirs index began now before taken capacity d within t)
