use Rattle.std.proofs.Common.{map, arith}
use Rattle.std.proofs.lemmas.List.{length-map}
use Rattle.aio_react.specs.Seats.{opened}
use Rattle.aio_react.proofs.polls.SeatLemmas.{listeners-length}
use Rattle.aio_react.proofs.listener_table.ListenerTable.given.Goals as goal

pub returns-clause-value : goal.returns-clause-value
returns-clause-value c = rw (← c.self.view_is) (omega (arith, c.len.ensures, length-map c.self.inside.seats.items opened, listeners-length (map opened c.self.inside.seats.items) c.self.inside.first_polls.items))
