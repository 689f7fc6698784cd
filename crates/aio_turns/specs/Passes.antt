-- What contracts see of the passes of a deque, and what their calls do.
use Rattle.std.specs.Prelude.{◌≡◌, ℕ, ◌+◌, List, [], ◌∷◌, ◌++◌, length, Option, None, Some}
use Rattle.std.specs.declared.alloc.Global.{Global}
use Rattle.atomic_blocks.specs.Lent.{RowsId}
use Rattle.aio_turns.specs.declared.entries.TurnEntry.{TurnEntry}
use Rattle.aio_turns.specs.declared.entries.TurnHand.{TurnHand}
use Rattle.aio_turns.specs.Turns.{Met, MetFirst, OwnerMet, OwnerMetFirst, hand_of, thief_hand}

-- which deque it is
abbrev pub DequeId : Type 0
DequeId = RowsId × Global

-- An owner: its deque; the entries that it pushed and those that it pulled; how many of its pops found none; and how many thieves it made.
pub record OwnView : Type 0 where
  pub deque : DequeId
  pub pushed : List TurnEntry
  pub pulled : List TurnEntry
  pub empties : ℕ
  pub thieves : ℕ

-- A thief: the deque that it steals from; the entries that it pulled; and how many of its steals found none.
pub record ThiefView : Type 0 where
  pub deque : DequeId
  pub pulled : List TurnEntry
  pub empties : ℕ

-- those that did nothing yet
abbrev pub new_owner : DequeId → OwnView
new_owner deque = record { deque = deque; pushed = []; pulled = []; empties = 0; thieves = 0 }

abbrev pub new_thief : DequeId → ThiefView
new_thief deque = record { deque = deque; pulled = []; empties = 0 }

-- an owner that made one more thief
abbrev pub with_thief : OwnView → OwnView
with_thief p = record p { thieves = p.thieves + 1 }

-- its hand, as the rule of the deque has it
abbrev pub owner_hand : OwnView → TurnHand
owner_hand p = hand_of p.pushed p.pulled p.thieves

-- what an owner pushes next
abbrev pub next_entry : ℕ → OwnView → TurnEntry
next_entry place p = record { number = length p.pushed + 1; place = place }

-- an owner whose place is in the deque
abbrev pub pushed : ℕ → OwnView → OwnView
pushed place p = record p { pushed = p.pushed ++ next_entry place p ∷ [] }

-- How a pop leaves the owner: it took the entry with this place, which was the first in the deque; or it found the deque empty, and counted that.
abbrev pub Pops : Option ℕ → OwnView → OwnView → Type 0
Pops None before after = (after ≡ record before { empties = before.empties + 1 }) × OwnerMet [] (owner_hand before)
Pops (Some place) before after = (e : TurnEntry) × (e.place ≡ place) × (after ≡ record before { pulled = before.pulled ++ e ∷ [] })
    × OwnerMetFirst (e ∷ []) (owner_hand before)

-- how a steal leaves a thief
abbrev pub Steals : Option ℕ → ThiefView → ThiefView → Type 0
Steals None before after = (after ≡ record before { empties = before.empties + 1 }) × Met [] (thief_hand before.pulled)
Steals (Some place) before after = (e : TurnEntry) × (e.place ≡ place) × (after ≡ record before { pulled = before.pulled ++ e ∷ [] })
    × MetFirst (e ∷ []) (thief_hand before.pulled)
