use Rattle.std.proofs.Common.{[], ◌∷◌, refl, ap, le_refl}
use Rattle.aio_rules.specs.declared.seats.SeatView.{SeatView}
use Rattle.aio_rules.specs.declared.seats.WordStep.TheVariants as word_step
use Rattle.aio_shared.proofs.SeatOnly.{seat_later}
use Rattle.aio_shared.proofs.shared.Shared.ticker_by.Goals as goal

pub returns-clause-later : goal.returns-clause-later
returns-clause-later g c =
    rw (← c.m.view_is) (seat_later _ _ _ _ refl c.ticker.ensures.words (word_step.LoadTicker c.ticker.result ∷ [], ap (λ (v : SeatView). v.did) c.ticker.ensures.view) refl (le_refl _))
