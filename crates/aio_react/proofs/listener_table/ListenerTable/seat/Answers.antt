-- A number in range has the seat at its place, and no other number has one.
use Rattle.std.proofs.Common.{◌≡◌, suc, ◌-◌, map, sym, ap, ◌∙◌, arith}
use Rattle.std.proofs.lemmas.List.{length-map}
use Rattle.aio_react.specs.declared.listener_table.Seat.{Seat}
use Rattle.aio_react.specs.declared.listener_table.Seat.TheVariants as seat
use Rattle.aio_react.specs.Numbers.{value_of}
use Rattle.aio_react.specs.Seats.{seat_in, opened}
use Rattle.aio_react.proofs.polls.SeatLemmas.{opened-read, seat-there, value-past, value-zero}
use Rattle.aio_react.proofs.listener_table.ListenerTable.seat.Goals as goal
use Rattle.aio_react.proofs.listener_table.ListenerTable.seat.Goals.{then-number-eq0-via-then-number-eq0, then-number-eq0-via-else-number-eq0+then-number-len}

pub returns-then-number-eq0 : goal.returns-then-number-eq0
returns-then-number-eq0 c =
    let i = c.self.inside in
    elim c.then-number-eq0.branch as (λ _. ◌≡◌ {A = Seat} seat.Gone (seat_in (value_of c.args.self.now c.args.number))) [
      | then-number-eq0-via-then-number-eq0 w ↦ rw (← c.self.view_is) (ap seat_in (sym (value-zero (map opened i.seats.items) i.first_polls.items c.args.number (omega (arith, w.if-number-eq0.true)))))
      | then-number-eq0-via-else-number-eq0+then-number-len w ↦ rw (← c.self.view_is) (ap seat_in (sym (value-past (map opened i.seats.items) i.first_polls.items c.args.number (omega (arith, w.len.ensures, w.if-number-len.true, length-map i.seats.items opened)))))
    ]

pub returns : goal.returns
returns c =
    let i = c.self.inside in
    let next : c.args.number ≡ suc (c.args.number - 1) = omega (arith, c.if-number-eq0.false) in
    rw (← c.self.view_is)
    (c.open.ensures ∙ sym (seat-there (map opened i.seats.items) i.first_polls.items c.args.number (c.args.number - 1) (opened c.index.result.now) next (c.self.invariant.0 ∙ sym (length-map i.seats.items opened)) c.self.invariant.1
    (omega (arith, c.if-number-eq0.false, c.len.ensures, c.if-number-len.false, length-map i.seats.items opened)) (opened-read i.seats.items (c.args.number - 1) c.index.result.now c.index.ensures)))
