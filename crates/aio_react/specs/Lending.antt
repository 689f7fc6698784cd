-- The poller of a core is lent to be changed.
use Rattle.std.specs.Borrow.{Lends, Fml, RattleType, MutBor}
use Rattle.aio_react.specs.Cores.{CoreValue}
use Rattle.aio_react.specs.contracts.reactor.Core.{the_row}

module _ (P : RattleType) (core : MutBor (P.Denot × CoreValue)) where
  -- the core has the poller as it was left, and all else as before
  abbrev pub LendsPoller : MutBor P.Denot → Fml
  LendsPoller lent = Lends (the_row P) P core lent (λ poller. (poller, core.now.1))
