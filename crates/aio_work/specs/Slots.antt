-- The slots of a worker's parker, what woken slots put into its deque, and what it steals.
use Rattle.std.specs.Prelude.{◌≡◌, ◌==◌, ◌⊎◌, ℕ, zero, suc, ◌+◌, ◌<◌, ◌≤◌, ◌/◌, ◌%◌, ◌^◌, Bool, true, false, List, [], ◌∷◌, ◌++◌, length, slice_index_or, Option, None, Some}
use Rattle.aio_turns.specs.Passes.{OwnView, Steals, ThiefView, pushed}
use Rattle.aio_work.specs.declared.slots.Held.{Held}
use Rattle.aio_work.specs.declared.slots.Held.TheVariants as held

-- ## Slots

abbrev pub nothing : Held
nothing = held.Nothing

abbrev pub held_at : List Held → ℕ → Held
held_at slots slot = slice_index_or slots slot nothing

abbrev pub has_task : Held → Bool
has_task held.Nothing = false
has_task _ = true

-- what a slot has once the deque was found empty: what was put there and not taken out was stolen
abbrev pub let_go : Held → Held
let_go held.Nothing = held.Nothing
let_go (held.Waiting place) = held.Waiting place
let_go (held.Queued place) = held.Nothing
let_go (held.Due place) = held.Due place

-- no slot has this
abbrev pub HasNone : Held → List Held → Type 0
HasNone h slots = (slot : ℕ) → slot < 64 → ¬ (held_at slots slot ≡ h)

-- no task is due
abbrev pub NoneDue : List Held → Type 0
NoneDue slots = (slot place : ℕ) → slot < 64 → ¬ (held_at slots slot ≡ held.Due place)

-- ## Woken tasks

-- whether the bit of a slot, from 0, is set in a mask
abbrev pub is_woken : ℕ → ℕ → Bool
is_woken mask slot = (mask / 2 ^ slot) % 2 == 1

-- The place of a task that waits goes to the back of the deque; or it is due, where the deque has no room, which can only be after 1,024 pushes.
abbrev pub Queues : ℕ → OwnView → Held → OwnView → Type 0
Queues place own new by = ((new ≡ held.Queued place) × (by ≡ pushed place own)) ⊎ ((new ≡ held.Due place) × (by ≡ own) × (1024 ≤ length own.pushed))

-- it does so where its slot is woken; any other slot stays as it is
abbrev pub QueuesIf : (woken : Bool) → Held → OwnView → Held → OwnView → Type 0
QueuesIf true (held.Waiting place) own new by = Queues place own new by
QueuesIf true held.Nothing own new by = (new ≡ held.Nothing) × (by ≡ own)
QueuesIf true (held.Queued place) own new by = (new ≡ held.Queued place) × (by ≡ own)
QueuesIf true (held.Due place) own new by = (new ≡ held.Due place) × (by ≡ own)
QueuesIf false old own new by = (new ≡ old) × (by ≡ own)

-- and so on for each of these slots, which begin with this one
abbrev pub QueuesWoken : (mask slot : ℕ) → List Held → OwnView → List Held → OwnView → Type 0
QueuesWoken mask slot [] own [] by = by ≡ own
QueuesWoken mask slot [] own (new ∷ after) by = ⊥
QueuesWoken mask slot (old ∷ slots) own [] by = ⊥
QueuesWoken mask slot (old ∷ slots) own (new ∷ after) by = (mid : OwnView) × QueuesIf (is_woken mask slot) old own new mid × QueuesWoken mask (slot + 1) slots mid after by

-- ## Stolen tasks

-- Looks at so many deques of others, the first one first, each of which comes last then: this place is what the first gave that was not empty; or each was found
-- empty.
abbrev pub StealsFrom : ℕ → Option ℕ → List ThiefView → List ThiefView → Type 0
StealsFrom zero stolen old new = (stolen ≡ None) × (new ≡ old)
StealsFrom (suc looks) stolen [] new = ⊥
StealsFrom (suc looks) stolen (first ∷ rest) new = (after : ThiefView) × (
    (Steals None first after × StealsFrom looks stolen (rest ++ after ∷ []) new)
    ⊎ ((place : ℕ) × (stolen ≡ Some place) × Steals (Some place) first after × (new ≡ rest ++ after ∷ [])))

-- the slot in which a task was queued, or a free one where it was queued in none
abbrev pub IsSlotFor : ℕ → List Held → ℕ → Type 0
IsSlotFor place slots slot = (held_at slots slot ≡ held.Queued place) ⊎ ((held_at slots slot ≡ nothing) × HasNone (held.Queued place) slots)
