-- A number in range gets the listener's seat and first poll, and no other number gets one.
use Rattle.std.proofs.Common.{rules, ◌≡◌, suc, ◌-◌, map, Some, Option, sym, ap, ◌∙◌, arith}
use Rattle.std.proofs.lemmas.List.{length-map, map-set}
use Rattle.aio_react.specs.declared.entries.Listener.{Listener}
use Rattle.aio_react.specs.Numbers.{with_value}
use Rattle.aio_react.specs.Seats.{listener_in, listeners_in, opened, IsEarly}
use Rattle.aio_react.proofs.polls.SeatLemmas.{early-again, early-set, listener-again, value-set, value-unset, value-zero-unset}
use Rattle.aio_react.proofs.listener_table.ListenerTable.set.Goals as goal
use Rattle.aio_react.proofs.listener_table.ListenerTable.set.Goals.{then-number-eq0-via-then-number-eq0, then-number-eq0-via-else-number-eq0+then-number-len}

pub returns-then-number-eq0 : goal.returns-then-number-eq0
returns-then-number-eq0 c =
    let i = c.self.inside in
    elim c.then-number-eq0.branch as (λ _. c.args.self.now ≡ with_value c.args.self.now c.args.number (Some c.args.listener)) [
      | then-number-eq0-via-then-number-eq0 w ↦ rw (← c.self.view_is) (sym (value-zero-unset (map opened i.seats.items) i.first_polls.items c.args.number (Some c.args.listener) (omega (arith, w.if-number-eq0.true))))
      | then-number-eq0-via-else-number-eq0+then-number-len w ↦ rw (← c.self.view_is) (sym (value-unset (map opened i.seats.items) i.first_polls.items c.args.number (Some c.args.listener) (omega (arith, w.len.ensures, w.if-number-len.true, length-map i.seats.items opened))))
    ]

pub returns : goal.returns
returns c =
    let i = c.self.inside in
    let next : c.args.number ≡ suc (c.args.number - 1) = omega (arith, c.if-number-eq0.false) in
    let again : listener_in (opened c.seat_of.result) c.first_poll_of.result ≡ Some c.args.listener = rw (c.seat_of.ensures, c.first_poll_of.ensures) (listener-again c.args.listener c.args.listener.first) in
    rw (← c.self.view_is, map-set opened i.seats.items (c.args.number - 1) c.seat_of.result)
    (value-set (map opened i.seats.items) i.first_polls.items c.args.number (c.args.number - 1) (opened c.seat_of.result) c.first_poll_of.result next (c.self.invariant.0 ∙ sym (length-map i.seats.items opened))
    ∙ ap (λ (o : Option Listener). with_value (listeners_in (map opened i.seats.items) i.first_polls.items) c.args.number o) again)

pub invariant_of-self : goal.invariant_of-self
invariant_of-self c =
    let i = c.self.inside in
    let one : IsEarly (opened c.seat_of.result) c.first_poll_of.result = rw (c.seat_of.ensures, c.first_poll_of.ensures) (early-again c.args.listener c.args.listener.first) in (
      search rules,
      rw (map-set opened i.seats.items (c.args.number - 1) c.seat_of.result)
          (early-set (map opened i.seats.items) i.first_polls.items (c.args.number - 1) (opened c.seat_of.result) c.first_poll_of.result (c.self.invariant.0 ∙ sym (length-map i.seats.items opened)) c.self.invariant.1 one),
    )
