-- Six devices that are lent in one piece, for a call that may change each of them.
use Rattle.std.specs.Borrow.{Lends, Fml, MutBor, RattleType}
use Rattle.aio_jobs.specs.declared.kit.SixDevices.{SixDevices}
use Rattle.aio_jobs.specs.contracts.kit.SixDevices.{the_row}

module _ (S P W N C G T : RattleType) (with_six : SixDevices P.Denot W.Denot N.Denot C.Denot G.Denot T.Denot → S.Denot) where
  -- once the loan is over, the lender has the six as the borrower left them
  abbrev pub LendsSix : MutBor S.Denot → MutBor (SixDevices P.Denot W.Denot N.Denot C.Denot G.Denot T.Denot) → Fml
  LendsSix lender six = Lends S (the_row P W N C G T) lender six with_six
