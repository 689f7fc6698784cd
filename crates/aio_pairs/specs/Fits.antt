-- What two connections may bring a pair to, by what they have to give.
use Rattle.std.specs.Prelude.{◌≡◌, ◌⊎◌, ℕ, ◌+◌, ◌≤◌, Bool, true, false, List, ◌++◌, length, take, Option, option_map, IfSome, ⊤}
use Rattle.aio_base.specs.Connections.{Telling}
use Rattle.aio_pairs.specs.Backlogs.{SideState, saturated}
use Rattle.aio_pairs.specs.Lines.{HasNoLineFeed, lines, longest_line, unfinished}
use Rattle.aio_pairs.specs.declared.outcomes.PairEnd.{PairEnd}
use Rattle.aio_pairs.specs.declared.outcomes.PairEnd.TheVariants as pair
use Rattle.aio_pairs.specs.declared.outcomes.Side.{Side}
use Rattle.aio_pairs.specs.declared.outcomes.Side.TheVariants.{A, B}

-- What a side has to give from some moment on: behind so many bytes that were written already all its further bytes, where they are told, and whether
-- these are all it will ever give. And whether its connection is sure and prompt.
pub record ToGive : Type 0 where
  pub forwarded : ℕ
  pub further : Option (List ℕ)
  pub ends : Bool
  pub is_sure : Bool
  pub is_prompt : Bool

-- a side's backlog comes before what its connection has left
abbrev pub to_give : SideState → Telling → (sure : Bool) → ToGive
to_give side telling sure = record {
  forwarded = side.forwarded;
  further = option_map (λ left. side.backlog ++ left) telling.left;
  ends = telling.ends;
  is_sure = sure;
  is_prompt = telling.prompt;
}

-- it ends, and of all its bytes so many are whole lines
abbrev pub LinesAre : ToGive → ℕ → Type 0
LinesAre side n = IfSome side.further (λ bytes. (side.ends ≡ true) × (n ≡ saturated (side.forwarded + length (lines bytes))))

-- behind its whole lines stand as many bytes without a line feed as a line may have, and with them they are the first so many
abbrev pub LongAt : ToGive → ℕ → Type 0
LongAt side n = IfSome side.further (λ bytes. (longest_line ≤ length (unfinished bytes)) × HasNoLineFeed (take longest_line (unfinished bytes))
    × (n ≡ saturated (side.forwarded + length (lines bytes) + longest_line)))

abbrev pub of_side : {X : Type 0} → Side → (a b : X) → X
of_side A a b = a
of_side B a b = b

-- one of the two connections is not sure
abbrev pub MayFail : (a b : ToGive) → Type 0
MayFail a b = (a.is_sure ≡ false) ⊎ (b.is_sure ≡ false)

-- The pair may end so. It is idle by a clock that says nothing before `earliest` and nothing after `latest`.
abbrev pub Fits : (a b : ToGive) → (earliest latest idle : ℕ) → (notifier_sure : Bool) → PairEnd → Type 0
Fits a b earliest latest idle notifier_sure (pair.Ended to_a to_b) = LinesAre b to_a × LinesAre a to_b
Fits a b earliest latest idle notifier_sure (pair.Idle last now) =
    ((a.is_prompt ≡ false) ⊎ (b.is_prompt ≡ false)) × (last + idle ≤ now) × (earliest ≤ last) × (now ≤ latest)
Fits a b earliest latest idle notifier_sure (pair.TooLong side at) = LongAt (of_side side a b) at
Fits a b earliest latest idle notifier_sure (pair.ReadFault f) = MayFail a b
Fits a b earliest latest idle notifier_sure (pair.WriteFault f) = MayFail a b
Fits a b earliest latest idle notifier_sure (pair.ArmFault f) = MayFail a b
Fits a b earliest latest idle notifier_sure (pair.NotifyFault f) = notifier_sure ≡ false
Fits a b earliest latest idle notifier_sure pair.OutOfMemory = ⊤
