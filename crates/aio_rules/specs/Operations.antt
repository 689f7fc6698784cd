-- The queue of operations of a shared reactor. What each pass knows, what each kind of step changes, and the rule that holds between any two steps.
use Rattle.std.specs.Prelude.{◌≡◌, ℕ, ◌+◌, ◌-◌, ◌<◌, ◌≤◌, ◌&&◌, ◌==◌, List, [], ◌∷◌, ◌++◌, length, map, filter}
use Rattle.std.specs.List.{AllByRecursion as Every}
use mathlib.Core.Option.{some}
use lib.ListN.{get_elem?}
use Rattle.aio_rules.specs.SharedLock.{one_if}
use Rattle.aio_rules.specs.declared.operations.OpEntry.{OpEntry}
use Rattle.aio_rules.specs.declared.operations.PushedOp.{PushedOp}
use Rattle.aio_rules.specs.declared.operations.QueueSeat.{QueueSeat}

-- the most entries that the queue holds, which is also the most that a drain takes
abbrev pub queue_limit : ℕ
queue_limit = 1000

-- ## What passes know

-- a pass: its seat, and how many of its pushes found the queue full and how many of its pops found it empty
pub record QueuePass (O : Type 0) : Type 0 where
  pub seat : QueueSeat O
  pub fulls : ℕ
  pub empties : ℕ

-- this holds of whatever stands at any place of a list
abbrev pub EachAt : {X : Type 0} → List X → (X → Type 0) → Type 0
EachAt {X} xs Holds = (place : ℕ) (x : X) → get_elem? xs place ≡ some x → Holds x

module _ {O : Type 0} where
  abbrev pub seat_of : ℕ → ℕ → List (PushedOp O) → List (OpEntry O) → QueueSeat O
  seat_of number splits own pulled = record { number = number; splits = splits; own = own; pulled = pulled }

  -- the seat of a pass before its first push and its first pop
  abbrev pub new_seat : ℕ → ℕ → QueueSeat O
  new_seat number splits = seat_of number splits [] []

  abbrev pub fresh_pass : ℕ → ℕ → QueuePass O
  fresh_pass number splits = record { seat = new_seat number splits; fulls = 0; empties = 0 }

  abbrev pub entries_of : List (PushedOp O) → List (OpEntry O)
  entries_of own = map (λ (p : PushedOp O). p.entry) own

  abbrev pub ops_of : List (OpEntry O) → List O
  ops_of entries = map (λ (e : OpEntry O). e.op) entries

  -- those entries that the pass of this number pushed, in order
  abbrev pub of_pass : ℕ → List (OpEntry O) → List (OpEntry O)
  of_pass pass entries = filter (λ (e : OpEntry O). e.pass == pass) entries

  -- ## The kinds of step

  -- after a push the entry is the last of the seat's own, beside the number of its pops until then
  abbrev pub with_push : OpEntry O → QueueSeat O → QueueSeat O
  with_push entry h = seat_of h.number h.splits (h.own ++ record { entry = entry; pulled = length h.pulled } ∷ []) h.pulled

  abbrev pub with_pop : OpEntry O → QueueSeat O → QueueSeat O
  with_pop entry h = seat_of h.number h.splits h.own (h.pulled ++ entry ∷ [])

  -- after a pass was made by it, which it counts
  abbrev pub with_split : QueueSeat O → QueueSeat O
  with_split h = seat_of h.number (h.splits + 1) h.own h.pulled

  -- what a pass pushes next, with this operation
  abbrev pub next_entry : O → QueuePass O → OpEntry O
  next_entry op v = record { pass = v.seat.number; number = length v.seat.own + 1; empties = v.empties; op = op }

  -- a push that succeeds
  abbrev pub pushed : O → QueuePass O → QueuePass O
  pushed op v = record v { seat = with_push (next_entry op v) v.seat }

  -- a push that finds the queue full
  abbrev pub found_full : QueuePass O → QueuePass O
  found_full v = record v { fulls = v.fulls + 1 }

  -- a pop that gives
  abbrev pub popped : OpEntry O → QueuePass O → QueuePass O
  popped entry v = record v { seat = with_pop entry v.seat }

  -- a pop that finds none
  abbrev pub found_none : QueuePass O → QueuePass O
  found_none v = record v { empties = v.empties + 1 }

  -- making a pass, which the first pass does
  abbrev pub split_pass : QueuePass O → QueuePass O
  split_pass v = record v { seat = with_split v.seat }

  -- ## The rule

  -- all are entries of one pass, numbered from k on without a gap
  abbrev pub Counts : ℕ → ℕ → List (OpEntry O) → Type 0
  Counts pass k [] = Unit {0}
  Counts pass k (e ∷ entries) = (e.pass ≡ pass) × (e.number ≡ k) × Counts pass (k + 1) entries

  -- of two entries of one pass the later one has the greater number
  abbrev pub Rises : List (OpEntry O) → Type 0
  Rises [] = Unit {0}
  Rises (e ∷ entries) = Every (λ (later : OpEntry O). later.pass ≡ e.pass → e.number < later.number) entries × Rises entries

  -- how often the k-th entry of a pass stands in a list
  abbrev pub times : ℕ → ℕ → List (OpEntry O) → ℕ
  times pass k [] = 0
  times pass k (e ∷ entries) = one_if ((e.pass == pass) && (e.number == k)) + times pass k entries

  -- and how often in all that was popped
  abbrev pub times_popped : ℕ → ℕ → List (QueueSeat O) → ℕ
  times_popped pass k [] = 0
  times_popped pass k (h ∷ seats) = times pass k h.pulled + times_popped pass k seats

  -- what a pass pushed is queued or was popped, each entry in one place alone: none is lost, and none is there twice
  abbrev pub AllThere : List (OpEntry O) → List (QueueSeat O) → Type 0
  AllThere items seats = (pass k : ℕ) (h : QueueSeat O) → get_elem? seats pass ≡ some h → 1 ≤ k → k ≤ length h.own
      → times pass k items + times_popped pass k seats ≡ 1

  -- The rule for one pass, whose seat stands at the place of its number. Its own entries are numbered from 1. The last of them, in order, are queued; a
  -- popped one is among those before, whoever popped it.
  pub record PassRule (items : List (OpEntry O)) (seats : List (QueueSeat O)) (pass : ℕ) (h : QueueSeat O) : Type 0 where
    pub number : h.number ≡ pass
    pub counted : Counts pass 1 (entries_of h.own)
    pub gone : List (OpEntry O)
    pub suffix : entries_of h.own ≡ gone ++ of_pass pass items
    pub behind : EachAt seats (λ w. Every (λ (e : OpEntry O). e.pass ≡ pass → e.number ≤ length gone) w.pulled)
    -- where one is still queued, fewer than 1,000 stand before it, less those that the pass has popped since its push
    pub soon : Every (λ (p : PushedOp O). (index : ℕ) → get_elem? items index ≡ some p.entry → index + (length h.pulled - p.pulled) < queue_limit) h.own

  -- The rule over the entries in the queue and the seats of all passes, each at the place of its number. A pass that was let go has its seat there still.
  pub record SeatsRule (items : List (OpEntry O)) (seats : List (QueueSeat O)) : Type 0 where
    -- the first pass knows how many there are
    pub splits : (h : QueueSeat O) → get_elem? seats 0 ≡ some h → h.splits ≡ length seats
    pub passes : (pass : ℕ) (h : QueueSeat O) → get_elem? seats pass ≡ some h → PassRule items seats pass h
    -- all entries are of passes that there are
    pub known : Every (λ (e : OpEntry O). e.pass < length seats) items
    pub popped_known : EachAt seats (λ w. Every (λ (e : OpEntry O). e.pass < length seats) w.pulled)
    -- no entry stands twice in the queue and all that was popped
    pub once : (pass k : ℕ) → times pass k items + times_popped pass k seats ≤ 1
    pub all_there : AllThere items seats
    pub rising : EachAt seats (λ w. Rises w.pulled)

  abbrev pub seats_of : List (QueuePass O) → List (QueueSeat O)
  seats_of views = map (λ (v : QueuePass O). v.seat) views

  -- The whole rule. Since the push of an entry that is queued, no pop of its pass has found the queue empty.
  pub record QueueRule (items : List (OpEntry O)) (views : List (QueuePass O)) : Type 0 where
    pub seats : SeatsRule items (seats_of views)
    pub empties : Every (λ (e : OpEntry O). (v : QueuePass O) → get_elem? views e.pass ≡ some v → e.empties ≡ v.empties) items
