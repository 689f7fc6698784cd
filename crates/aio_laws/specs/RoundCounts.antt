-- How rounds are counted: the number of each, the position at which it began, and which of them runs.
use Rattle.std.specs.Prelude.{◌≡◌, ℕ, ◌+◌, Bool, false, not, if◌then◌else◌, List, [], ◌∷◌, ◌++◌, Option, None, Some, is_some}
use Rattle.aio_base.specs.declared.steps.Step.{Step}
use Rattle.aio_base.specs.declared.steps.Step.TheVariants as step
use Rattle.aio_base.specs.declared.steps.Answer.{Answer}
use Rattle.aio_base.specs.declared.steps.Answer.TheVariants as answer
use Rattle.aio_base.specs.World.{PollerAnswer, RoundState, World}
use Rattle.aio_laws.specs.RoundAnswers.{RoundsTold}

-- what a round keeps from its begin to its end: its number, the position at which it began, and its limit
pub record RoundName : Type 0 where
  pub number : ℕ
  pub begin : ℕ
  pub limit : Option ℕ

abbrev pub name_of : Option RoundState → Option RoundName
name_of None = None
name_of (Some round) = Some (record { number = round.number; begin = round.begin; limit = round.limit })

-- whether a step begins a round: a `begin` or a whole round, where no round runs
abbrev pub begins_round : World → Step → Bool
begins_round w (step.Begin limit) = not (is_some w.round)
begins_round w step.React = not (is_some w.round)
begins_round w _ = false

-- the limit that an answer tells
abbrev pub limit_told : Answer → Option ℕ
limit_told (answer.Begin number limit) = limit
limit_told _ = None

-- The round that runs after a step. A `begin` where none runs begins the next one, here and with the limit that it tells. A `finish` that tells
-- the end leaves none. Else what ran runs on, the same round; a whole round has ended when it is answered.
abbrev pub running_after : World → Step → Answer → Option RoundName
running_after w (step.Begin limit) told =
    if is_some w.round then name_of w.round else Some (record { number = w.rounds + 1; begin = w.pos; limit = limit_told told })
running_after w step.Finish (answer.End word) = None
running_after w _ told = name_of w.round

-- what a step leaves of the rounds
pub record RoundsFollow (w : World) (s : Step) (answers : List PollerAnswer) (told : Answer) (v : World) : Type 0 where
  -- where a round begins one more was given, and in no other step
  pub rounds : v.rounds ≡ (if begins_round w s then w.rounds + 1 else w.rounds)
  -- its position is recorded, behind those of the earlier rounds
  pub begun : v.begun ≡ (if begins_round w s then w.begun ++ w.pos ∷ [] else w.begun)
  pub running : name_of v.round ≡ running_after w s told
  -- which steps of a round are refused, and what the others tell
  pub answered : RoundsTold w s answers told
