-- How often a notifier was called while a seat made its steps.
use Rattle.std.specs.Prelude.{◌≡◌, ℕ, List, ◌++◌}
use Rattle.std.specs.Fn.{iterate}
use Rattle.aio_base.specs.Devices.{raised}
use Rattle.aio_rules.specs.declared.seats.SeatView.{SeatView}
use Rattle.aio_rules.specs.declared.seats.WordStep.{WordStep}
use Rattle.aio_rules.specs.WordCalls.{count_of, is_won}

-- What a seat made between two views of it, and two counts of a notifier's calls: it was called once for each step that won `notified`, and for no other.
pub record NotifiesAsWon (old new : SeatView) (before after : ℕ) : Type 0 where
  pub made : List WordStep
  pub view : new.did ≡ old.did ++ made
  pub count : after ≡ iterate raised (count_of is_won made) before
