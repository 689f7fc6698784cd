-- What lies at the place of a number that was given is beside its seat.
use Rattle.std.proofs.Common.{◌-◌, map, length, ap, sym, ◌∙◌, arith}
use Rattle.std.proofs.lemmas.List.{length-map}
use Rattle.aio_react.specs.Seats.{opened}
use Rattle.aio_react.proofs.polls.SeatLemmas.{listeners-length, beside-there}
use Rattle.aio_react.proofs.listener_table.ListenerTable.first_poll.Goals as goal

pub index-requires : goal.index-requires
index-requires c =
    let i = c.self.inside in
    omega (arith, c.requires.given, c.requires.bound, ap length c.self.view_is, listeners-length (map opened i.seats.items) i.first_polls.items, length-map i.seats.items opened, c.self.invariant.0)

pub returns : goal.returns
returns c =
    let i = c.self.inside in
    rw (← c.self.view_is)
    (beside-there (map opened i.seats.items) i.first_polls.items c.args.number (c.args.number - 1) c.index.result.now (omega (arith, c.requires.given)) (c.self.invariant.0 ∙ sym (length-map i.seats.items opened)) c.index.ensures)
