use Rattle.std.proofs.Common.{◌≡◌, ◌∙◌, None, Some, IfSome, Option, unwrap_or, Ok, sym, refl, ap, subst, arith}
use Rattle.aio_base.specs.Devices.{PollerStep}
use Rattle.aio_source.specs.Rules.{direction_of}
use Rattle.aio_source.specs.declared.answers.Listened.{Listened}
use Rattle.aio_react.specs.declared.entries.Listener.{Listener}
use Rattle.aio_react.specs.declared.refusals.CoreRefusal.TheVariants.{OutOfMemory}
use Rattle.aio_react.specs.Asking.{UsesPoller, step_part_of}
use Rattle.aio_react.specs.Cores.{CoreValue}
use Rattle.aio_react.specs.Listeners.{step_refusal_of}
use Rattle.aio_react.specs.Standing.{ticket_in}
use Rattle.aio_react.specs.Numbers.{value_of}
use Rattle.aio_react.specs.Seats.{listened_in}
use Rattle.aio_react.proofs.polls.Asked.{first_asked, first_fault, again_asked}
use Rattle.aio_react.proofs.listeners.HeardAgain.{keyed_changed}
use Rattle.aio_react.proofs.listeners.HeldSources.{key_is}
use Rattle.aio_react.proofs.polls.SeatLemmas.{within-sources, seated, gone-seat, gone-else, polled-seat, unpolled-seat}
use Rattle.aio_react.proofs.polls.StepKeeps.{again_key, listed_again_polled, listed_first_polled, listed_unpolled, first_key, first_unrefused, drew, drew_none, drew_unspent, source_unchanged, poller_unchanged, places_unchanged}
use Rattle.aio_react.proofs.polls.StepMeets.{again_meets, first_meets, step_misses}
use Rattle.aio_react.proofs.polls.LaterPolls.{again_read, listed_within, polled_given}
use Rattle.aio_react.proofs.reactor.Core.step.Goals as goal

-- ## A later poll

pub first_poll-first_poll-requires-clause-bound : goal.first_poll-first_poll-requires-clause-bound
first_poll-first_poll-requires-clause-bound g c =
    let seat = c.in-Polled in
    polled_given c.self.inside.listeners c.args.listener seat.key seat.dir seat.place seat.early seat.ensures

pub given_mut-requires : goal.given_mut-requires
given_mut-requires g c =
    let i = c.self.inside in
    let seat = c.in-Polled in
    let both = polled-seat (value_of i.listeners c.args.listener) seat.dir seat.key seat.place seat.early c.first_poll-first_poll.result.now seat.ensures c.first_poll-first_poll.ensures in
    listed_within i.sources i.listeners c.args.listener _ c.self.invariant.1 both.0

pub poll_again-requires-clause-early : goal.poll_again-requires-clause-early
poll_again-requires-clause-early g c =
    let i = c.self.inside in
    let seat = c.in-Polled in
    let e = c.in-Some.entry.now in
    let first = listened_in seat.place c.first_poll-first_poll.result.now in
    let l = seated seat.key seat.dir (Some first) in
    let r = again_read i.sources i.listeners c.args.listener seat.key seat.dir seat.place seat.early _ e c.self.invariant.1 seat.ensures c.first_poll-first_poll.ensures (sym c.in-Some.ensures.value) in
    r.early_is

pub poll_again-requires-clause-holds : goal.poll_again-requires-clause-holds
poll_again-requires-clause-holds g c =
    let i = c.self.inside in
    let seat = c.in-Polled in
    let e = c.in-Some.entry.now in
    let first = listened_in seat.place c.first_poll-first_poll.result.now in
    let l = seated seat.key seat.dir (Some first) in
    let r = again_read i.sources i.listeners c.args.listener seat.key seat.dir seat.place seat.early _ e c.self.invariant.1 seat.ensures c.first_poll-first_poll.ensures (sym c.in-Some.ensures.value) in
    r.held

pub invariant_of-self : goal.invariant_of-self
invariant_of-self g c =
    let i = c.self.inside in
    let seat = c.in-Polled in
    let e = c.in-Some.entry.now in
    let first = listened_in seat.place c.first_poll-first_poll.result.now in
    let l = seated seat.key seat.dir (Some first) in
    let r = again_read i.sources i.listeners c.args.listener seat.key seat.dir seat.place seat.early _ e c.self.invariant.1 seat.ensures c.first_poll-first_poll.ensures (sym c.in-Some.ensures.value) in
    let same = ap (λ s. s.key) c.poll_again.ensures.after ∙ again_key e.source l.dir first c.args.w in (
      keyed_changed i.sources l.key.0 e _ r.there same c.self.invariant.0,
      listed_again_polled i.sources i.listeners c.args.listener l first e c.poll_again.new.source c.args.w _ r.there r.is c.poll_again.ensures.after c.self.invariant.1,
      omega arith,
    )

pub returns-in-Some-clause-meets : goal.returns-in-Some-clause-meets
returns-in-Some-clause-meets g c =
    let i = c.self.inside in
    let seat = c.in-Polled in
    let e = c.in-Some.entry.now in
    let first = listened_in seat.place c.first_poll-first_poll.result.now in
    let l = seated seat.key seat.dir (Some first) in
    let r = again_read i.sources i.listeners c.args.listener seat.key seat.dir seat.place seat.early _ e c.self.invariant.1 seat.ensures c.first_poll-first_poll.ensures (sym c.in-Some.ensures.value) in
    let core : CoreValue = record { sources = i.sources; listeners = i.listeners; ticker = i.ticker; book = i.book.entries; ids_drawn = i.ids_drawn; round = i.round } in
    rw (← c.self.view_is)
    (again_meets g.P.Arm.arm_step g.P.EventWait.wait_step g.P.Arm.interests i.poller c.poll_again.new.arm core c.args.listener l first c.args.w e c.poll_again.new.source c.poll_again.result _ _
    (key_is i.sources l.key e c.self.invariant.0 r.there) r.there r.is refl c.self.invariant.1
    c.poll_again.ensures.answer c.poll_again.ensures.after c.poll_again.ensures.lent.once c.poll_again.ensures.lent.interests)

pub returns-in-Some-clause-lent : goal.returns-in-Some-clause-lent
returns-in-Some-clause-lent g c =
    let i = c.self.inside in
    let seat = c.in-Polled in
    let e = c.in-Some.entry.now in
    let first = listened_in seat.place c.first_poll-first_poll.result.now in
    let l = seated seat.key seat.dir (Some first) in
    let r = again_read i.sources i.listeners c.args.listener seat.key seat.dir seat.place seat.early _ e c.self.invariant.1 seat.ensures c.first_poll-first_poll.ensures (sym c.in-Some.ensures.value) in
    rw (← c.self.view_is)
    (again_asked g.P.Arm.arm_step g.P.Arm.interests g.P.Arm.rest g.P.Faults.fault_count g.P.Faults.is_sure i.sources i.listeners c.args.listener l first e c.args.w _
    c.poll_again.result i.poller c.poll_again.new.arm r.is r.there refl c.poll_again.ensures.lent)

-- ## No listener

pub returns-in_default-seat-clause-meets : goal.returns-in_default-seat-clause-meets
returns-in_default-seat-clause-meets g c =
    let i = c.self.inside in
    let none : value_of i.listeners c.args.listener ≡ None = gone-seat _ (gone-else c.seat-seat.result c.in_default-seat.not-Unpolled c.in_default.not-Polled ∙ c.seat-seat.ensures) in
    let core : CoreValue = record { sources = i.sources; listeners = i.listeners; ticker = i.ticker; book = i.book.entries; ids_drawn = i.ids_drawn; round = i.round } in
    rw (← c.self.view_is) (step_misses (PollerStep g.P.Arm.arm_step g.P.EventWait.wait_step) g.P.Arm.interests i.poller core c.args.listener c.args.w none)

pub returns-in_default-seat-clause-cause : goal.returns-in_default-seat-clause-cause
returns-in_default-seat-clause-cause g c =
    let i = c.self.inside in
    let none : value_of i.listeners c.args.listener ≡ None = gone-seat _ (gone-else c.seat-seat.result c.in_default-seat.not-Unpolled c.in_default.not-Polled ∙ c.seat-seat.ensures) in
    rw (← c.self.view_is) (ap (λ (v : Option Listener). unwrap_or (step_refusal_of i.sources v) OutOfMemory) (sym none))

pub returns-in_default-seat-clause-lent : goal.returns-in_default-seat-clause-lent
returns-in_default-seat-clause-lent g c =
    let i = c.self.inside in
    let none : value_of i.listeners c.args.listener ≡ None = gone-seat _ (gone-else c.seat-seat.result c.in_default-seat.not-Unpolled c.in_default.not-Polled ∙ c.seat-seat.ensures) in
    rw (← c.self.view_is)
    (subst (λ (v : Option Listener). UsesPoller g.P.Arm.arm_step g.P.Arm.interests g.P.Arm.rest g.P.Faults.fault_count g.P.Faults.is_sure (step_part_of i.sources c.args.w (ticket_in v) v) (Ok tt)
    i.poller i.poller) (sym none) refl)

-- ## A first poll

pub given_mut-requires-2 : goal.given_mut-requires-2
given_mut-requires-2 g c =
    let i = c.self.inside in
    let s = c.in-Unpolled in
    listed_within i.sources i.listeners c.args.listener (seated s.key s.dir None) c.self.invariant.1 (unpolled-seat _ s.dir s.key s.ensures)

pub invariant_of-self-in-Err : goal.invariant_of-self-in-Err
invariant_of-self-in-Err g c =
    let i = c.self.inside in
    let s = c.in-Unpolled in
    let l = seated s.key s.dir None in
    let e = c.in-Some-given_mut.entry.now in
    let is : value_of i.listeners c.args.listener ≡ Some l = unpolled-seat _ s.dir s.key s.ensures in
    let there = sym c.in-Some-given_mut.ensures.value in
    let none = drew_none c.first_listen-listened.result c.in-Err.refusal c.in-Err.ensures in
    let same = source_unchanged e.source c.first_listen-listened.new.self l.dir c.args.w _ _ none c.first_listen-listened.ensures.after in (
      keyed_changed i.sources l.key.0 e _ there (ap (λ s. s.key) same) c.self.invariant.0,
      listed_unpolled i.sources i.listeners l e c.first_listen-listened.new.self there same c.self.invariant.1,
      omega arith,
    )

pub returns-in-Err-clause-refused : goal.returns-in-Err-clause-refused
returns-in-Err-clause-refused g c =
    let i = c.self.inside in
    let s = c.in-Unpolled in
    let l = seated s.key s.dir None in
    let e = c.in-Some-given_mut.entry.now in
    let is : value_of i.listeners c.args.listener ≡ Some l = unpolled-seat _ s.dir s.key s.ensures in
    let there = sym c.in-Some-given_mut.ensures.value in
    let none = drew_none c.first_listen-listened.result c.in-Err.refusal c.in-Err.ensures in
    let same = source_unchanged e.source c.first_listen-listened.new.self l.dir c.args.w _ _ none c.first_listen-listened.ensures.after in
    let unarmed = poller_unchanged g.P.Arm.arm_step e.source l.dir c.args.w _ _ i.poller c.first_listen-listened.new.arm none c.first_listen-listened.ensures.lent.once in
    let placed = places_unchanged i.sources s.key e c.first_listen-listened.new.self there same in
    rw (← c.self.view_is)
    (λ j. (unarmed j, record { sources = placed j; listeners = i.listeners; ticker = i.ticker; book = i.book.entries; ids_drawn = i.ids_drawn; round = i.round }))

pub set-requires : goal.set-requires
set-requires g c =
    let i = c.self.inside in
    let s = c.in-Unpolled in
    let l = seated s.key s.dir None in
    let e = c.in-Some-given_mut.entry.now in
    let is : value_of i.listeners c.args.listener ≡ Some l = unpolled-seat _ s.dir s.key s.ensures in
    let there = sym c.in-Some-given_mut.ensures.value in
    omega (arith, within-sources i.sources l.key.0 e there, c.self.invariant.0)

pub invariant_of-self-2 : goal.invariant_of-self-2
invariant_of-self-2 g c =
    let i = c.self.inside in
    let s = c.in-Unpolled in
    let l = seated s.key s.dir None in
    let e = c.in-Some-given_mut.entry.now in
    let is : value_of i.listeners c.args.listener ≡ Some l = unpolled-seat _ s.dir s.key s.ensures in
    let there = sym c.in-Some-given_mut.ensures.value in
    let told = drew c.first_listen-listened.result c.in-Ok.told c.in-Ok.ensures in
    let same = ap (λ s. s.key) c.first_listen-listened.ensures.after ∙ first_key e.source l.dir c.args.w _ in (
      keyed_changed i.sources l.key.0 e _ there same c.self.invariant.0,
      rw c.set.ensures (listed_first_polled i.sources i.listeners c.args.listener l c.in-Ok.told.1 e c.first_listen-listened.new.self c.args.w _ _ there is told.ticket_is
          c.first_listen-listened.ensures.fresh c.first_listen-listened.ensures.after c.self.invariant.1),
      omega arith,
    )

pub returns-clause-meets : goal.returns-clause-meets
returns-clause-meets g c =
    let i = c.self.inside in
    let s = c.in-Unpolled in
    let l = seated s.key s.dir None in
    let e = c.in-Some-given_mut.entry.now in
    let is : value_of i.listeners c.args.listener ≡ Some l = unpolled-seat _ s.dir s.key s.ensures in
    let there = sym c.in-Some-given_mut.ensures.value in
    let core : CoreValue = record { sources = i.sources; listeners = i.listeners; ticker = i.ticker; book = i.book.entries; ids_drawn = i.ids_drawn; round = i.round } in
    let told = drew c.first_listen-listened.result c.in-Ok.told c.in-Ok.ensures in
    let first = c.in-Ok.told.1 in
    let numbers : (first.a ≡ i.ticker) × (first.b ≡ (direction_of e.source.directions l.dir).tick) =
    subst (λ (o : Option Listened). IfSome o (λ (f : Listened). (f.a ≡ i.ticker) × (f.b ≡ (direction_of e.source.directions l.dir).tick))) told.listened_is c.first_listen-listened.ensures.listened in
    rw (← c.self.view_is, c.set.ensures, told.answer_is)
    (first_meets g.P.Arm.arm_step g.P.EventWait.wait_step g.P.Arm.interests i.poller c.first_listen-listened.new.arm core c.args.listener l first c.args.w e c.first_listen-listened.new.self
    _ _ _ _ (key_is i.sources l.key e c.self.invariant.0 there) there is refl numbers.0 numbers.1 told.ticket_is
    c.first_listen-listened.ensures.fault c.first_listen-listened.ensures.after c.first_listen-listened.ensures.lent.once c.first_listen-listened.ensures.lent.interests)

pub returns-clause-cause : goal.returns-clause-cause
returns-clause-cause g c =
    let i = c.self.inside in
    let s = c.in-Unpolled in
    let l = seated s.key s.dir None in
    let e = c.in-Some-given_mut.entry.now in
    let is : value_of i.listeners c.args.listener ≡ Some l = unpolled-seat _ s.dir s.key s.ensures in
    let there = sym c.in-Some-given_mut.ensures.value in
    rw (← c.self.view_is) (first_unrefused i.sources _ l e is there (λ all. drew_unspent c.first_listen-listened.result c.in-Ok.told c.in-Ok.ensures (c.first_listen-listened.ensures.spent.1 all)))

pub returns-clause-lent : goal.returns-clause-lent
returns-clause-lent g c =
    let i = c.self.inside in
    let s = c.in-Unpolled in
    let l = seated s.key s.dir None in
    let e = c.in-Some-given_mut.entry.now in
    let is : value_of i.listeners c.args.listener ≡ Some l = unpolled-seat _ s.dir s.key s.ensures in
    let there = sym c.in-Some-given_mut.ensures.value in
    let told = drew c.first_listen-listened.result c.in-Ok.told c.in-Ok.ensures in
    rw (← c.self.view_is)
    (first_asked g.P.Arm.arm_step g.P.Arm.interests g.P.Arm.rest g.P.Faults.fault_count g.P.Faults.is_sure i.sources i.listeners c.set.new.self c.args.listener l c.in-Ok.told.1 e c.args.w
    c.first_listen-listened.result c.in-Ok.told.0 i.poller c.first_listen-listened.new.arm is there refl c.set.ensures told c.first_listen-listened.ensures.lent)

pub returns-clause-fault : goal.returns-clause-fault
returns-clause-fault g c =
    let i = c.self.inside in
    let s = c.in-Unpolled in
    let l = seated s.key s.dir None in
    let e = c.in-Some-given_mut.entry.now in
    let is : value_of i.listeners c.args.listener ≡ Some l = unpolled-seat _ s.dir s.key s.ensures in
    let there = sym c.in-Some-given_mut.ensures.value in
    let told = drew c.first_listen-listened.result c.in-Ok.told c.in-Ok.ensures in
    rw (← c.self.view_is)
    (first_fault _ l e.source.key _ _ c.first_listen-listened.result c.in-Ok.told.0 is (key_is i.sources l.key e c.self.invariant.0 there) told.answer_is c.first_listen-listened.ensures.fault)
