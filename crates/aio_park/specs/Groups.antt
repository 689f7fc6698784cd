-- Tasks polled as one: what a group is, and what a poll of it makes of its slots.
use Rattle.std.specs.Prelude.{◌≡◌, ℕ, ◌+◌, ◌/◌, ◌%◌, ◌^◌, ◌≤◌, ◌==◌, Bool, true, false, List, [], ◌∷◌, map, Vec, ⊤}
use Rattle.std.specs.declared.alloc.Global.{Global}
use Rattle.std.specs.List.{list_any}
use Rattle.aio_base.specs.declared.tasks.Cx.{Cx}
use Rattle.aio_base.specs.declared.outcomes.Poll.{Poll}
use Rattle.aio_base.specs.declared.outcomes.Poll.TheVariants.{Ready, Pending}
use Rattle.aio_base.specs.Devices.{raised}
use Rattle.aio_park.specs.declared.group.Slot.{Slot}
use Rattle.aio_park.specs.declared.group.Slot.TheVariants.{Running, Ended}

-- A group: the parker whose slots its tasks have, the slots in order, each with a task that has not ended or its answer, and how often it was polled.
pub record GroupValue (T O : Type 0) : Type 0 where
  pub parker : ℕ
  pub slots : List (Slot T O)
  pub polls : ℕ

-- whether the bit of a slot, from 0, is set in a mask
abbrev pub is_woken : ℕ → ℕ → Bool
is_woken mask slot = (mask / 2 ^ slot) % 2 == 1

-- what the task of a slot is told: the group's parker, a mask with the bit of the slot alone, and the moment of the group's own poll
abbrev pub slot_cx : ℕ → ℕ → Cx → Cx
slot_cx parker slot cx = record { parker = parker; mask = 2 ^ slot; now = cx.now }

module _ {T O : Type 0} where
  abbrev pub is_running : Slot T O → Bool
  is_running (Running task) = true
  is_running (Ended answer) = false

  -- ## One poll

  -- what a group answers whose slots are these after a poll, and which slots are left
  abbrev pub IsAnswer : List (Slot T O) → Poll (Vec O Global) → List (Slot T O) → Type 0
  IsAnswer slots (Ready outputs) left = (slots ≡ map Ended outputs.items) × (left ≡ [])
  IsAnswer slots Pending left = (list_any is_running slots ≡ true) × (left ≡ slots)

  module _ {H : Type 0} (step : T → H → Cx → Poll O → T → H → Type 0) (polls : T → ℕ) where
    -- a task was polled once: its answer stands in its slot, and the task is let go, or it runs on and its polls rose; and the host as it left it
    abbrev pub IsPolled : Cx → T → H → Slot T O → H → Type 0
    IsPolled cx task host (Running after) left = step task host cx Pending after left × (polls after ≡ raised (polls task))
    IsPolled cx task host (Ended answer) left = (after : T) × step task host cx (Ready answer) after left

    -- what a poll makes of one slot and the host: a running task whose slot is woken is polled; any other slot is as before, and so is the host then
    abbrev pub SlotAfter : Bool → Cx → Slot T O → H → Slot T O → H → Type 0
    SlotAfter true cx (Running task) host new left = IsPolled cx task host new left
    SlotAfter true cx (Ended answer) host new left = (new ≡ Ended answer) × (left ≡ host)
    SlotAfter false cx old host new left = (new ≡ old) × (left ≡ host)

    -- and of each of these slots, which begin with this one, one after the other
    abbrev pub SlotsAfter : ℕ → ℕ → Cx → List (Slot T O) → H → List (Slot T O) → H → Type 0
    SlotsAfter parker slot cx [] host [] left = left ≡ host
    SlotsAfter parker slot cx [] host (new ∷ after) left = ⊥
    SlotsAfter parker slot cx (old ∷ slots) host [] left = ⊥
    SlotsAfter parker slot cx (old ∷ slots) host (new ∷ after) left = (by : H)
        × SlotAfter (is_woken cx.mask slot) (slot_cx parker slot cx) old host new by × SlotsAfter parker (slot + 1) cx slots by after left

    -- A poll of a group: of its slots just the running ones of the mask are polled, once each, and the host is what these polls leave of it. It is Pending
    -- exactly where a task runs on then, and else its answers are handed out in the order of the slots, of which none is left.
    pub record GroupPolled (old : GroupValue T O) (host : H) (cx : Cx) (answer : Poll (Vec O Global)) (new : GroupValue T O) (left : H) : Type 0 where
      pub slots : List (Slot T O)
      pub each : SlotsAfter old.parker 0 cx old.slots host slots left
      pub answer_is : IsAnswer slots answer new.slots
      pub parker : new.parker ≡ old.parker
      pub polls_are : new.polls ≡ raised old.polls

  -- ## What a group allows

  module _ (gives : T → Bool → ℕ → O → Type 0) where
    -- of an ended slot its answer, and of a running one what its task allows at the moment
    abbrev pub SlotGives : Slot T O → Bool → ℕ → O → Type 0
    SlotGives (Running task) sure moment output = gives task sure moment output
    SlotGives (Ended answer) sure moment output = output ≡ answer

    -- one output for each slot
    abbrev pub SlotsGive : List (Slot T O) → Bool → ℕ → List O → Type 0
    SlotsGive [] sure moment [] = ⊤
    SlotsGive [] sure moment (output ∷ outputs) = ⊥
    SlotsGive (slot ∷ slots) sure moment [] = ⊥
    SlotsGive (slot ∷ slots) sure moment (output ∷ outputs) = SlotGives slot sure moment output × SlotsGive slots sure moment outputs

    -- what a group allows at a moment it allows later too, if its tasks do so
    slot_gives_later : ((task : T) (sure : Bool) (a b : ℕ) (output : O) → a ≤ b → gives task sure a output → gives task sure b output)
        → (slot : Slot T O) (sure : Bool) (a b : ℕ) (output : O) → a ≤ b → SlotGives slot sure a output → SlotGives slot sure b output
    slot_gives_later later (Running task) sure a b output bound given = later task sure a b output bound given
    slot_gives_later later (Ended answer) sure a b output bound given = given

    pub slots_give_later : ((task : T) (sure : Bool) (a b : ℕ) (output : O) → a ≤ b → gives task sure a output → gives task sure b output)
        → (slots : List (Slot T O)) (sure : Bool) (a b : ℕ) (outputs : List O) → a ≤ b → SlotsGive slots sure a outputs → SlotsGive slots sure b outputs
    slots_give_later later [] sure a b [] bound given = given
    slots_give_later later [] sure a b (output ∷ outputs) bound given = given
    slots_give_later later (slot ∷ slots) sure a b [] bound given = given
    slots_give_later later (slot ∷ slots) sure a b (output ∷ outputs) bound given =
        (slot_gives_later later slot sure a b output bound given.0, slots_give_later later slots sure a b outputs bound given.1)
