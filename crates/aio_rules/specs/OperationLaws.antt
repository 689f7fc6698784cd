-- What is true of the rule of the queue of operations: it holds at the start, each kind of step keeps it, and what follows for the order in which operations
-- are applied.
use Rattle.std.specs.Prelude.{◌≡◌, ◌⊎◌, ℕ, ◌+◌, ◌<◌, ◌≤◌, ◌-◌, ◌==◌, if◌then◌else◌, List, [], ◌∷◌, ◌++◌, length, map, filter, slice_set}
use Rattle.std.specs.List.{All, AllByRecursion as Every}
use mathlib.Core.Option.{some}
use lib.ListN.{get_elem?}
use Rattle.aio_rules.specs.declared.operations.OpEntry.{OpEntry}
use Rattle.aio_rules.specs.declared.operations.PushedOp.{PushedOp}
use Rattle.aio_rules.specs.Operations.{QueuePass, QueueRule, Counts, Rises, entries_of, found_full, found_none, fresh_pass, next_entry, of_pass, ops_of, popped, pushed, queue_limit, seats_of, split_pass, times, times_popped}

-- an operation that reached its goal, and the number of the pass whose it was
pub record Applied (O : Type 0) : Type 0 where
  pub pass : ℕ
  pub op : O

module _ {O : Type 0} where
  -- between two steps: the rule holds, and this is what the pass at this place knows
  pub record StandsAt (items : List (OpEntry O)) (views : List (QueuePass O)) (pass : ℕ) (v : QueuePass O) : Type 0 where
    pub rule : QueueRule items views
    pub stands : get_elem? views pass ≡ some v

  -- Since the push of each of its entries, a pass has popped 1,000 entries, or found the queue empty.
  abbrev pub HasDrained : QueuePass O → Type 0
  HasDrained v = Every (λ (p : PushedOp O). (p.pulled + queue_limit ≤ length v.seat.pulled) ⊎ (p.entry.empties < v.empties)) v.seat.own

  -- In no queue that meets the rule is there an entry of this pass, whatever else it holds and whatever other passes know.
  abbrev pub NoneQueued : QueuePass O → Type 0
  NoneQueued v = (items : List (OpEntry O)) (views : List (QueuePass O)) (pass : ℕ) → StandsAt items views pass v → of_pass pass items ≡ []

  -- when each of its entries was pushed, a pass had popped no more, and found the queue empty no more often, than now
  abbrev pub KnowsItsPast : QueuePass O → Type 0
  KnowsItsPast v = All (λ (p : PushedOp O). (p.pulled ≤ length v.seat.pulled) × (p.entry.empties ≤ v.empties)) v.seat.own

  -- ## The rule, part by part

  pub record QueueParts (items : List (OpEntry O)) (views : List (QueuePass O)) : Type 0 where
    -- no two passes have one number, and each number is below the count that the first pass keeps
    pub different : (i j : ℕ) (v w : QueuePass O) → get_elem? views i ≡ some v → get_elem? views j ≡ some w → v.seat.number ≡ w.seat.number → i ≡ j
    pub below : (i : ℕ) (v first : QueuePass O) → get_elem? views i ≡ some v → get_elem? views 0 ≡ some first → v.seat.number < first.seat.splits
    -- of the own entries of a pass the last ones are queued, in order
    pub suffix : (i : ℕ) (v : QueuePass O) → get_elem? views i ≡ some v
        → (gone : List (OpEntry O)) × (entries_of v.seat.own ≡ gone ++ of_pass v.seat.number items)
    -- what is queued of any number, also of a pass that was let go, is numbered without a gap
    pub gapless : (pass : ℕ) → (k : ℕ) × Counts pass k (of_pass pass items)
    -- an entry is queued once, or popped once, or neither; one that its pass pushed is one of both
    pub once : (pass k : ℕ) → times pass k items + times_popped pass k (seats_of views) ≤ 1
    pub all_there : (i k : ℕ) (v : QueuePass O) → get_elem? views i ≡ some v → 1 ≤ k → k ≤ length v.seat.own
        → times v.seat.number k items + times_popped v.seat.number k (seats_of views) ≡ 1
    -- what a pass popped is in the order of its pushes, pass by pass, and before all of that pass that is queued
    pub rising : (i : ℕ) (v : QueuePass O) → get_elem? views i ≡ some v → Rises v.seat.pulled
    pub bound : (i : ℕ) (v : QueuePass O) (from to : ℕ) (e queued : OpEntry O) → get_elem? views i ≡ some v → get_elem? v.seat.pulled from ≡ some e
        → get_elem? items to ≡ some queued → e.pass ≡ queued.pass → e.number < queued.number
    -- A queued entry of a pass has fewer than 1,000 before it, less those that its pass has popped since the push; and the pass has not found the queue
    -- empty since.
    pub index : (i : ℕ) (v : QueuePass O) (at k : ℕ) (p : PushedOp O) → get_elem? views i ≡ some v → get_elem? v.seat.own k ≡ some p
        → get_elem? items at ≡ some p.entry → (at + (length v.seat.pulled - p.pulled) < queue_limit) × (p.entry.empties ≡ v.empties)

  -- ## In which order operations are applied

  -- of all that was applied, what was this pass's
  abbrev pub applied_of : ℕ → List (Applied O) → List O
  applied_of pass log = map (λ (a : Applied O). a.op) (filter (λ (a : Applied O). a.pass == pass) log)

  -- the operations of a pass's calls after a call of this caller with this operation
  abbrev pub with_call : ℕ → ℕ → O → List O → List O
  with_call pass caller op calls = if caller == pass then calls ++ op ∷ [] else calls

  -- The operations of a pass's calls, in the order of the calls, are those that were applied and then those that are queued: so each is applied once at
  -- most, and none before an earlier one.
  abbrev pub InOrder : ℕ → List O → List (Applied O) → List (OpEntry O) → Type 0
  InOrder pass calls log items = calls ≡ applied_of pass log ++ ops_of (of_pass pass items)

module _ (O : Type 0) where
  -- an empty queue with the first pass
  abbrev pub StartMeetsQueueRule : Type 0
  StartMeetsQueueRule = QueueRule {O = O} [] (fresh_pass 0 1 ∷ [])

  abbrev pub PushKeepsQueueRule : Type 0
  PushKeepsQueueRule = (items : List (OpEntry O)) (views : List (QueuePass O)) (pass : ℕ) (v : QueuePass O) (op : O)
      → StandsAt items views pass v → length items < queue_limit → QueueRule (items ++ next_entry op v ∷ []) (slice_set views pass (pushed op v))

  abbrev pub FullPushKeepsQueueRule : Type 0
  FullPushKeepsQueueRule = (items : List (OpEntry O)) (views : List (QueuePass O)) (pass : ℕ) (v : QueuePass O)
      → StandsAt items views pass v → QueueRule items (slice_set views pass (found_full v))

  abbrev pub PopKeepsQueueRule : Type 0
  PopKeepsQueueRule = (e : OpEntry O) (items : List (OpEntry O)) (views : List (QueuePass O)) (pass : ℕ) (v : QueuePass O)
      → StandsAt (e ∷ items) views pass v → QueueRule items (slice_set views pass (popped e v))

  abbrev pub EmptyPopKeepsQueueRule : Type 0
  EmptyPopKeepsQueueRule = (views : List (QueuePass O)) (pass : ℕ) (v : QueuePass O)
      → StandsAt [] views pass v → QueueRule [] (slice_set views pass (found_none v))

  -- the first pass makes one, whose number is how many there were
  abbrev pub NewPassKeepsQueueRule : Type 0
  NewPassKeepsQueueRule = (items : List (OpEntry O)) (views : List (QueuePass O)) (pass : ℕ) (v : QueuePass O)
      → StandsAt items views pass v → v.seat.number ≡ 0 → QueueRule items (slice_set views pass (split_pass v) ++ fresh_pass v.seat.splits 0 ∷ [])

  abbrev pub RuleHasItsParts : Type 0
  RuleHasItsParts = (items : List (OpEntry O)) (views : List (QueuePass O)) → QueueRule items views → QueueParts items views

  abbrev pub DrainedHasNoneQueued : Type 0
  DrainedHasNoneQueued = (v : QueuePass O) → HasDrained v → NoneQueued v

  -- every kind of step but a push that succeeds leaves it so
  abbrev pub DrainedStays : Type 0
  DrainedStays = (v : QueuePass O) (e : OpEntry O) → HasDrained v
      → HasDrained (found_full v) × HasDrained (popped e v) × HasDrained (found_none v) × HasDrained (split_pass v)

  -- a push, whose operation is queued last
  abbrev pub PushStaysInOrder : Type 0
  PushStaysInOrder = (pass : ℕ) (calls : List O) (log : List (Applied O)) (items : List (OpEntry O)) (e : OpEntry O)
      → InOrder pass calls log items → InOrder pass (with_call pass e.pass e.op calls) log (items ++ e ∷ [])

  -- a pop, by any pass, after which the operation is applied
  abbrev pub PopStaysInOrder : Type 0
  PopStaysInOrder = (pass : ℕ) (calls : List O) (log : List (Applied O)) (items : List (OpEntry O)) (e : OpEntry O)
      → InOrder pass calls log (e ∷ items) → InOrder pass calls (log ++ record { pass = e.pass; op = e.op } ∷ []) items

  -- an operation that its call applies itself, which has drained the queue before
  abbrev pub OwnApplicationStaysInOrder : Type 0
  OwnApplicationStaysInOrder = (pass caller : ℕ) (v : QueuePass O) (calls : List O) (log : List (Applied O)) (items : List (OpEntry O)) (views : List (QueuePass O)) (op : O)
      → StandsAt items views caller v → HasDrained v
      → InOrder pass calls log items → InOrder pass (with_call pass caller op calls) (log ++ record { pass = caller; op = op } ∷ []) items
