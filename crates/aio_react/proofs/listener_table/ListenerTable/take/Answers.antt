-- A number in range has its seat's listener, which goes, and no other number has one.
use Rattle.std.proofs.Common.{rules, ◌≡◌, suc, ◌-◌, map, None, Option, sym, ap, ◌∙◌, arith}
use Rattle.std.proofs.lemmas.List.{length-map, map-set}
use Rattle.aio_react.specs.declared.entries.Listener.{Listener}
use Rattle.aio_react.specs.declared.listener_table.Seat.{Seat}
use Rattle.aio_react.specs.Seats.{listener_in, opened}
use Rattle.aio_react.specs.Numbers.{value_of, with_value}
use Rattle.aio_react.proofs.polls.SeatLemmas.{early-gone, opened-read, value-there, value-past, value-zero, value-gone, value-unset, value-zero-unset}
use Rattle.aio_react.proofs.listener_table.ListenerTable.take.Goals as goal
use Rattle.aio_react.proofs.listener_table.ListenerTable.take.Goals.{then-number-eq0-via-then-number-eq0, then-number-eq0-via-else-number-eq0+then-number-len}

pub returns-then-number-eq0-clause-value : goal.returns-then-number-eq0-clause-value
returns-then-number-eq0-clause-value c =
    let i = c.self.inside in
    elim c.then-number-eq0.branch as (λ _. ◌≡◌ {A = Option Listener} None (value_of c.args.self.now c.args.number)) [
      | then-number-eq0-via-then-number-eq0 w ↦ rw (← c.self.view_is) (sym (value-zero (map opened i.seats.items) i.first_polls.items c.args.number (omega (arith, w.if-number-eq0.true))))
      | then-number-eq0-via-else-number-eq0+then-number-len w ↦ rw (← c.self.view_is) (sym (value-past (map opened i.seats.items) i.first_polls.items c.args.number (omega (arith, w.len.ensures, w.if-number-len.true, length-map i.seats.items opened))))
    ]

pub returns-then-number-eq0-clause-after : goal.returns-then-number-eq0-clause-after
returns-then-number-eq0-clause-after c =
    let i = c.self.inside in
    elim c.then-number-eq0.branch as (λ _. c.args.self.now ≡ with_value c.args.self.now c.args.number None) [
      | then-number-eq0-via-then-number-eq0 w ↦ rw (← c.self.view_is) (sym (value-zero-unset (map opened i.seats.items) i.first_polls.items c.args.number None (omega (arith, w.if-number-eq0.true))))
      | then-number-eq0-via-else-number-eq0+then-number-len w ↦ rw (← c.self.view_is) (sym (value-unset (map opened i.seats.items) i.first_polls.items c.args.number None (omega (arith, w.len.ensures, w.if-number-len.true, length-map i.seats.items opened))))
    ]

pub returns-clause-value : goal.returns-clause-value
returns-clause-value c =
    let i = c.self.inside in
    let next : c.args.number ≡ suc (c.args.number - 1) = omega (arith, c.if-number-eq0.false) in
    rw (← c.self.view_is)
    (c.listener_in-taken.ensures ∙ ap (λ (s : Seat). listener_in s c.index-2.result.now) c.open.ensures
    ∙ sym (value-there (map opened i.seats.items) i.first_polls.items c.args.number (c.args.number - 1) (opened c.index.result.now) c.index-2.result.now next
    (omega (arith, c.if-number-eq0.false, c.len.ensures, c.if-number-len.false, length-map i.seats.items opened)) (c.self.invariant.0 ∙ sym (length-map i.seats.items opened))
    (opened-read i.seats.items (c.args.number - 1) c.index.result.now c.index.ensures) c.index-2.ensures))

pub returns-clause-after : goal.returns-clause-after
returns-clause-after c =
    let i = c.self.inside in
    let next : c.args.number ≡ suc (c.args.number - 1) = omega (arith, c.if-number-eq0.false) in
    rw (← c.self.view_is, map-set opened i.seats.items (c.args.number - 1) c.gone.result, c.gone.ensures) (value-gone (map opened i.seats.items) i.first_polls.items c.args.number (c.args.number - 1) next)

pub invariant_of-self : goal.invariant_of-self
invariant_of-self c =
    let i = c.self.inside in (
      search rules,
      rw (map-set opened i.seats.items (c.args.number - 1) c.gone.result, c.gone.ensures)
          (early-gone (map opened i.seats.items) i.first_polls.items (c.args.number - 1) (c.self.invariant.0 ∙ sym (length-map i.seats.items opened)) c.self.invariant.1),
    )
