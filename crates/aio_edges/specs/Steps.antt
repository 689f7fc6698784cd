-- The single steps of the calls on one key, in any order, and what they leave.
use Rattle.std.specs.Prelude.{◌≡◌, ◌⊎◌, ⊤, ℕ, ◌+◌, ◌-◌, ◌^◌, ◌<◌, Bool, true, false, if◌then◌else◌, List, [], ◌∷◌, bit_and, bit_or}
use Rattle.aio_base.specs.declared.names.Interest.{Interest}
use Rattle.aio_base.specs.declared.names.Dir.{Dir}
use Rattle.aio_base.specs.World.{has_any}
use Rattle.aio_modes.specs.Raw.{RawLists}
use Rattle.aio_edges.specs.Words.{armed_bits, armed_in, edge_bit, edge_bits, edges_in, owed_in, told_bits}

-- One step of a call on a key. `Tells`, `Arms`, `Keeps` and `Looks` see the word that they leave; `Gives` is an exchange that found the word that was
-- seen; `Puts` makes the key due.
pub data EdgeStep : Type 0 where
  Joins : EdgeStep
  Expects : Interest → EdgeStep
  Disarms : EdgeStep
  Arms : Interest → EdgeStep
  Takes : Dir → EdgeStep
  Keeps : Dir → EdgeStep
  Tells : Interest → Bool → EdgeStep
  Looks : EdgeStep
  Gives : EdgeStep
  Puts : EdgeStep

-- all bits of a word but these
abbrev pub without : ℕ → ℕ
without bits = (2 ^ 64 - 1) - bits

-- all that may be armed
abbrev pub all_armed : ℕ
all_armed = 12

-- the word of a source that has just joined
abbrev pub joined_word : ℕ
joined_word = 3

-- what a step makes of the word
abbrev pub word_after : EdgeStep → ℕ → ℕ
word_after Joins word = joined_word
word_after (Expects on) word = bit_and word (without (all_armed + edge_bits on))
word_after Disarms word = bit_and word (without all_armed)
word_after (Arms on) word = bit_or word (armed_bits on)
word_after (Takes dir) word = bit_and word (without (edge_bit dir))
word_after (Keeps dir) word = bit_or word (edge_bit dir)
word_after (Tells on unsure) word = bit_or word (told_bits on unsure)
word_after Looks word = word
word_after Gives word = bit_and word (without all_armed)
word_after Puts word = word

-- something is owed by a word
abbrev pub is_owed : ℕ → Bool
is_owed word = has_any (owed_in word)

-- A key: its word, whether it is due, and how many calls saw that something is owed of it and neither gave it nor made the key due since.
pub record Kept : Type 0 where
  pub word : ℕ
  pub due : Bool
  pub hands : ℕ

-- one call more, where it saw that something is owed
abbrev pub hands_after : (seen hands : ℕ) → ℕ
hands_after seen hands = if is_owed seen then hands + 1 else hands

-- what a step makes of a key
abbrev pub after_step : EdgeStep → Kept → Kept
after_step Joins kept = record kept { word = word_after Joins kept.word }
after_step (Expects on) kept = record kept { word = word_after (Expects on) kept.word }
after_step Disarms kept = record kept { word = word_after Disarms kept.word }
after_step (Arms on) kept =
    record kept { word = word_after (Arms on) kept.word; hands = hands_after (word_after (Arms on) kept.word) kept.hands }
after_step (Takes dir) kept = record kept { word = word_after (Takes dir) kept.word }
after_step (Keeps dir) kept =
    record kept { word = word_after (Keeps dir) kept.word; hands = hands_after (word_after (Keeps dir) kept.word) kept.hands }
after_step (Tells on unsure) kept =
    record kept { word = word_after (Tells on unsure) kept.word; hands = hands_after (word_after (Tells on unsure) kept.word) kept.hands }
after_step Looks kept = record kept { due = false; hands = hands_after kept.word kept.hands }
after_step Gives kept = record kept { word = word_after Gives kept.word; hands = kept.hands - 1 }
after_step Puts kept = record kept { due = true; hands = kept.hands - 1 }

-- a source that has just joined
abbrev pub just_joined : Kept
just_joined = record { word = joined_word; due = false; hands = 0 }

-- what these steps leave, of which the latest stands first
abbrev pub after_steps : List EdgeStep → Kept
after_steps [] = just_joined
after_steps (step ∷ earlier) = after_step step (after_steps earlier)

-- Nothing is owed, or the key is due, or a call has still to give it or to make it due.
abbrev pub IsSeenTo : Kept → Type 0
IsSeenTo kept = is_owed kept.word ≡ true → (kept.due ≡ true) ⊎ (0 < kept.hands)

-- a step that takes nothing from what is armed or from the edges
abbrev pub OnlyAdds : EdgeStep → Type 0
OnlyAdds (Arms on) = ⊤
OnlyAdds (Keeps dir) = ⊤
OnlyAdds (Tells on unsure) = ⊤
OnlyAdds Looks = ⊤
OnlyAdds Puts = ⊤
OnlyAdds Joins = ⊥
OnlyAdds (Expects on) = ⊥
OnlyAdds Disarms = ⊥
OnlyAdds (Takes dir) = ⊥
OnlyAdds Gives = ⊥

-- what a word says, as the lists of a poller in edge mode that is asked for what is armed
abbrev pub lists_of : ℕ → RawLists
lists_of word = record { on = λ key. armed_in word; ready = λ key. edges_in word; edges = λ key. edges_in word }
