-- What is true of the rule of a deque: it holds at the start, each kind of step keeps it, and what follows.
use Rattle.std.specs.Prelude.{◌≡◌, ℕ, ◌+◌, ◌<◌, ◌≤◌, ◌==◌, List, [], ◌∷◌, ◌++◌, length, map, slice_set}
use mathlib.Core.Option.{some}
use lib.ListN.{get_elem?}
use Rattle.aio_turns.specs.declared.entries.TurnEntry.{TurnEntry}
use Rattle.aio_turns.specs.declared.entries.TurnHand.{TurnHand}
use Rattle.aio_turns.specs.Turns.{Rises, TurnsRule, count_pulled, new_hand, with_pushes, with_pulls, with_thief}

-- a pass, of the owner or of a thief: its hand, and how many of its pops or steals found none
pub record TurnPass : Type 0 where
  pub hand : TurnHand
  pub empties : ℕ

abbrev pub fresh_pass : TurnPass
fresh_pass = record { hand = new_hand; empties = 0 }

abbrev pub hands_of : List TurnPass → List TurnHand
hands_of views = map (λ (v : TurnPass). v.hand) views

-- the whole rule, over the entries in the deque and all passes, of which the owner is the first
abbrev pub DequeRule : List TurnEntry → List TurnPass → Type 0
DequeRule items views = TurnsRule items (hands_of views)

-- ## The kinds of step

-- what the owner pushes next, with this place
abbrev pub next_of : ℕ → TurnPass → TurnEntry
next_of place v = record { number = length v.hand.pushed + 1; place = place }

abbrev pub after_push : ℕ → TurnPass → TurnPass
after_push place v = record v { hand = with_pushes (next_of place v ∷ []) v.hand }

-- a pop or a steal that gives
abbrev pub after_pull : TurnEntry → TurnPass → TurnPass
after_pull e v = record v { hand = with_pulls (e ∷ []) v.hand }

-- a pop or a steal that finds none
abbrev pub found_none : TurnPass → TurnPass
found_none v = record v { empties = v.empties + 1 }

-- between two steps: the rule holds, and this is the pass at this place
pub record StandsAt (items : List TurnEntry) (views : List TurnPass) (pass : ℕ) (v : TurnPass) : Type 0 where
  pub rule : DequeRule items views
  pub stands : get_elem? views pass ≡ some v

abbrev pub StartMeetsRule : Type 0
StartMeetsRule = DequeRule [] (fresh_pass ∷ [])

abbrev pub PushKeepsRule : Type 0
PushKeepsRule = (items : List TurnEntry) (views : List TurnPass) (v : TurnPass) (place : ℕ)
    → StandsAt items views 0 v → DequeRule (items ++ next_of place v ∷ []) (slice_set views 0 (after_push place v))

-- by the owner or by a thief
abbrev pub PullKeepsRule : Type 0
PullKeepsRule = (e : TurnEntry) (items : List TurnEntry) (views : List TurnPass) (pass : ℕ) (v : TurnPass)
    → StandsAt (e ∷ items) views pass v → DequeRule items (slice_set views pass (after_pull e v))

abbrev pub EmptyPullKeepsRule : Type 0
EmptyPullKeepsRule = (views : List TurnPass) (pass : ℕ) (v : TurnPass) → StandsAt [] views pass v → DequeRule [] (slice_set views pass (found_none v))

-- the owner makes a thief, and counts it
abbrev pub after_thief : TurnPass → TurnPass
after_thief v = record v { hand = with_thief v.hand }

abbrev pub NewThiefKeepsRule : Type 0
NewThiefKeepsRule = (items : List TurnEntry) (views : List TurnPass) (v : TurnPass) → StandsAt items views 0 v → DequeRule items (slice_set views 0 (after_thief v) ++ fresh_pass ∷ [])

-- ## The rule, part by part

-- how often the k-th entry stands in what all passes pulled
abbrev pub times_pulled : ℕ → List TurnPass → ℕ
times_pulled k views = count_pulled (λ (e : TurnEntry). e.number == k) (hands_of views)

pub record DequeParts (items : List TurnEntry) (views : List TurnPass) : Type 0 where
  -- the deque is a suffix of what the owner pushed, in order
  pub suffix : (v : TurnPass) → get_elem? views 0 ≡ some v → (gone : List TurnEntry) × (v.hand.pushed ≡ gone ++ items)
  -- in all pulled lists together no entry stands twice
  pub once : (k : ℕ) → times_pulled k views ≤ 1
  -- and each that was pushed and is not in the deque stands there
  pub nothing_lost : (owner : TurnPass) (at : ℕ) (e : TurnEntry) → get_elem? views 0 ≡ some owner → get_elem? owner.hand.pushed at ≡ some e
      → at + length items < length owner.hand.pushed → times_pulled e.number views ≡ 1
  -- each that was pulled was pushed, with its place
  pub pushed : (pass at : ℕ) (v owner : TurnPass) (e : TurnEntry) → get_elem? views pass ≡ some v → get_elem? views 0 ≡ some owner → get_elem? v.hand.pulled at ≡ some e
      → (k : ℕ) × (get_elem? owner.hand.pushed k ≡ some e)
  -- and is older than all in the deque
  pub bound : (pass at : ℕ) (v owner : TurnPass) (e : TurnEntry) → get_elem? views pass ≡ some v → get_elem? views 0 ≡ some owner → get_elem? v.hand.pulled at ≡ some e
      → e.number ≤ length owner.hand.pushed
  pub oldest : (pass at to : ℕ) (v : TurnPass) (e queued : TurnEntry) → get_elem? views pass ≡ some v → get_elem? v.hand.pulled at ≡ some e → get_elem? items to ≡ some queued
      → e.number < queued.number
  -- the passes are the owner and the thieves that it made
  pub passes : (owner : TurnPass) → get_elem? views 0 ≡ some owner → length views ≡ owner.hand.thieves + 1
  -- each pass pulled in the order of the pushes
  pub rising : (pass : ℕ) (v : TurnPass) → get_elem? views pass ≡ some v → Rises v.hand.pulled

abbrev pub RuleHasItsParts : Type 0
RuleHasItsParts = (items : List TurnEntry) (views : List TurnPass) → DequeRule items views → DequeParts items views
