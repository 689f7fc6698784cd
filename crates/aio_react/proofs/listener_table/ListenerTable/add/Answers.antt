-- Both columns grow by one.
use Rattle.std.proofs.Common.{rules, ◌≡◌, List, [], ◌∷◌, ◌++◌, map, Some, Option, ap, sym, ◌∙◌, arith}
use Rattle.std.proofs.lemmas.List.{length-map, map-append}
use Rattle.aio_react.specs.declared.entries.Listener.{Listener}
use Rattle.aio_react.specs.declared.listener_table.PackedSeat.{PackedSeat}
use Rattle.aio_react.specs.declared.listener_table.FirstPoll.{FirstPoll}
use Rattle.aio_react.specs.Seats.{listener_in, listeners_in, opened, IsEarly}
use Rattle.aio_react.proofs.polls.SeatLemmas.{listeners-length, listeners-more, listener-again, early-more, early-again}
use Rattle.aio_react.proofs.listener_table.ListenerTable.add.Goals as goal

pub returns-clause-number : goal.returns-clause-number
returns-clause-number c =
    omega (arith, c.len.ensures, length-map c.push_reserved.new.self.items opened, listeners-length (map opened c.push_reserved.new.self.items) c.push_reserved-2.new.self.items)

seats-more : (before after : List PackedSeat) (p : PackedSeat) → after ≡ before ++ p ∷ [] → map opened after ≡ map opened before ++ opened p ∷ []
seats-more before after p is = ap (map opened) is ∙ map-append opened before (p ∷ [])

pub invariant_of-self-2 : goal.invariant_of-self-2
invariant_of-self-2 c =
    let i = c.self.inside in
    let seats : map opened c.push_reserved.new.self.items ≡ map opened i.seats.items ++ opened c.seat_of.result ∷ [] =
    seats-more i.seats.items c.push_reserved.new.self.items c.seat_of.result (c.push_reserved.ensures.items ∙ ap (λ (xs : List PackedSeat). xs ++ c.seat_of.result ∷ []) c.reserve.ensures.items) in
    let polls : c.push_reserved-2.new.self.items ≡ i.first_polls.items ++ c.first_poll_of.result ∷ [] =
    c.push_reserved-2.ensures.items ∙ ap (λ (xs : List FirstPoll). xs ++ c.first_poll_of.result ∷ []) c.reserve-else-is_err.ensures.items in
    let one : IsEarly (opened c.seat_of.result) c.first_poll_of.result = rw (c.seat_of.ensures, c.first_poll_of.ensures) (early-again c.args.listener c.args.listener.first) in
    (search rules, rw (seats, polls) (early-more (map opened i.seats.items) i.first_polls.items (opened c.seat_of.result) c.first_poll_of.result (c.self.invariant.0 ∙ sym (length-map i.seats.items opened)) c.self.invariant.1 one))

pub returns-clause-added : goal.returns-clause-added
returns-clause-added c =
    let i = c.self.inside in
    let seats : map opened c.push_reserved.new.self.items ≡ map opened i.seats.items ++ opened c.seat_of.result ∷ [] =
    seats-more i.seats.items c.push_reserved.new.self.items c.seat_of.result (c.push_reserved.ensures.items ∙ ap (λ (xs : List PackedSeat). xs ++ c.seat_of.result ∷ []) c.reserve.ensures.items) in
    let polls : c.push_reserved-2.new.self.items ≡ i.first_polls.items ++ c.first_poll_of.result ∷ [] =
    c.push_reserved-2.ensures.items ∙ ap (λ (xs : List FirstPoll). xs ++ c.first_poll_of.result ∷ []) c.reserve-else-is_err.ensures.items in
    let again : listener_in (opened c.seat_of.result) c.first_poll_of.result ≡ Some c.args.listener = rw (c.seat_of.ensures, c.first_poll_of.ensures) (listener-again c.args.listener c.args.listener.first) in
    rw (← c.self.view_is)
    ((λ j. listeners_in (seats j) (polls j)) ∙ listeners-more (map opened i.seats.items) i.first_polls.items (opened c.seat_of.result) c.first_poll_of.result (c.self.invariant.0 ∙ sym (length-map i.seats.items opened))
    ∙ ap (λ (o : Option Listener). listeners_in (map opened i.seats.items) i.first_polls.items ++ o ∷ []) again)
