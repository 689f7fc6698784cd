-- The text of a relay: the line of the port in use, and a line for what each pair came to.
use Rattle.std.specs.Prelude.{ℕ, List, [], ◌∷◌, ◌++◌, ◌+◌, codes, decimal}
use Rattle.aio_base.specs.Text.{ended_line}
use Rattle.aio_pairs.specs.declared.outcomes.PairEnd.{PairEnd}
use Rattle.aio_pairs.specs.declared.outcomes.PairEnd.TheVariants as pair
use Rattle.aio_pairs.specs.declared.outcomes.Side.{Side}
use Rattle.aio_pairs.specs.declared.outcomes.Side.TheVariants.{A, B}

-- the first line, with its line feed
abbrev pub listening_line : ℕ → List ℕ
listening_line port = ended_line (codes "listening " ++ decimal port)

abbrev pub side_text : Side → List ℕ
side_text A = codes "a"
side_text B = codes "b"

-- what a pair came to; of a fault no more than its kind
unfoldable pub outcome_text : PairEnd → List ℕ
outcome_text (pair.Ended to_a to_b) = codes "ended " ++ decimal to_a ++ codes " " ++ decimal to_b
outcome_text (pair.Idle last now) = codes "idle " ++ decimal last ++ codes " " ++ decimal now
outcome_text (pair.TooLong side at) = codes "too long " ++ side_text side ++ codes " " ++ decimal at
outcome_text (pair.ReadFault fault) = codes "read fault"
outcome_text (pair.WriteFault fault) = codes "write fault"
outcome_text (pair.ArmFault fault) = codes "arm fault"
outcome_text (pair.NotifyFault fault) = codes "notify fault"
outcome_text pair.OutOfMemory = codes "out of memory"

-- the line of the pair of this number, with its line feed
abbrev pub pair_line : ℕ → PairEnd → List ℕ
pair_line number end = ended_line (codes "pair " ++ decimal number ++ codes " " ++ outcome_text end)

-- the lines of pairs that came to these ends, in their order, the first of them being the pair of this number
abbrev pub pair_lines : ℕ → List PairEnd → List ℕ
pair_lines number [] = []
pair_lines number (end ∷ ends) = pair_line number end ++ pair_lines (number + 1) ends

-- the whole text of a relay that used this port, and whose pairs came to these ends
abbrev pub relay_text : ℕ → List PairEnd → List ℕ
relay_text port ends = listening_line port ++ pair_lines 1 ends
