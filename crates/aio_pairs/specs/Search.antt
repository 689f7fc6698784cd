-- The last line feed of a part of some bytes.
use Rattle.std.specs.Prelude.{◌≡◌, ℕ, ◌+◌, ◌<◌, ◌≤◌, List, slice_index, slice_range}
use Rattle.aio_pairs.specs.Lines.{HasNoLineFeed}

-- a line feed stands at this place, from `start` up to `stop`, and none behind it
pub record IsLastFeed (bytes : List ℕ) (start stop at : ℕ) : Type 0 where
  pub low : start ≤ at
  pub high : at < stop
  pub feed : slice_index bytes at ≡ 10
  pub none_behind : HasNoLineFeed (slice_range bytes (at + 1) stop)
