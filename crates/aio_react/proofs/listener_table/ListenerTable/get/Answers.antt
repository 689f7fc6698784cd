-- A number in range has its seat's listener, and no other number has one.
use Rattle.std.proofs.Common.{◌≡◌, suc, ◌-◌, map, None, Option, sym, ap, ◌∙◌, arith}
use Rattle.std.proofs.lemmas.List.{length-map}
use Rattle.aio_react.specs.declared.entries.Listener.{Listener}
use Rattle.aio_react.specs.declared.listener_table.Seat.{Seat}
use Rattle.aio_react.specs.Seats.{listener_in, opened}
use Rattle.aio_react.specs.Numbers.{value_of}
use Rattle.aio_react.proofs.polls.SeatLemmas.{opened-read, value-there, value-past, value-zero}
use Rattle.aio_react.proofs.listener_table.ListenerTable.get.Goals as goal
use Rattle.aio_react.proofs.listener_table.ListenerTable.get.Goals.{then-number-eq0-via-then-number-eq0, then-number-eq0-via-else-number-eq0+then-number-len}

pub returns-then-number-eq0 : goal.returns-then-number-eq0
returns-then-number-eq0 c =
    let i = c.self.inside in
    elim c.then-number-eq0.branch as (λ _. ◌≡◌ {A = Option Listener} None (value_of c.args.self.now c.args.number)) [
      | then-number-eq0-via-then-number-eq0 w ↦ rw (← c.self.view_is) (sym (value-zero (map opened i.seats.items) i.first_polls.items c.args.number (omega (arith, w.if-number-eq0.true))))
      | then-number-eq0-via-else-number-eq0+then-number-len w ↦ rw (← c.self.view_is) (sym (value-past (map opened i.seats.items) i.first_polls.items c.args.number (omega (arith, w.len.ensures, w.if-number-len.true, length-map i.seats.items opened))))
    ]

pub returns : goal.returns
returns c =
    let i = c.self.inside in
    let next : c.args.number ≡ suc (c.args.number - 1) = omega (arith, c.if-number-eq0.false) in
    rw (← c.self.view_is)
    (c.listener_in.ensures ∙ ap (λ (s : Seat). listener_in s c.index-2.result.now) c.open.ensures
    ∙ sym (value-there (map opened i.seats.items) i.first_polls.items c.args.number (c.args.number - 1) (opened c.index.result.now) c.index-2.result.now next
    (omega (arith, c.if-number-eq0.false, c.len.ensures, c.if-number-len.false, length-map i.seats.items opened)) (c.self.invariant.0 ∙ sym (length-map i.seats.items opened))
    (opened-read i.seats.items (c.args.number - 1) c.index.result.now c.index.ensures) c.index-2.ensures))
