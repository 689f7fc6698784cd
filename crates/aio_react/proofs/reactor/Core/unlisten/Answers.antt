use Rattle.std.proofs.Common.{◌≡◌, None, Some, refl, sym, arith}
use Rattle.aio_base.specs.Devices.{PollerStep}
use Rattle.aio_react.specs.Cores.{CoreValue}
use Rattle.aio_react.specs.Numbers.{value_of}
use Rattle.aio_react.proofs.listeners.DropMeets.{drop_meets, drop_misses}
use Rattle.aio_react.proofs.listeners.HeardAgain.{value_untaken, counts_mine, listed_changed, keyed_changed, gives_up, left_key}
use Rattle.aio_react.proofs.polls.LaterPolls.{listed_within}
use Rattle.aio_react.proofs.listeners.ListenMeets.{count_at}
use Rattle.aio_react.proofs.reactor.Core.unlisten.Goals as goal

pub returns-in_default-clause-meets : goal.returns-in_default-clause-meets
returns-in_default-clause-meets g c =
    let i = c.self.inside in
    let core : CoreValue = record { sources = i.sources; listeners = i.listeners; ticker = i.ticker; book = i.book.entries; ids_drawn = i.ids_drawn; round = i.round } in
    let none : value_of i.listeners c.args.listener ≡ None = sym c.in_default.ensures.value in
    rw (← c.self.view_is, c.in_default.ensures.after, value_untaken i.listeners c.args.listener none)
    (drop_misses (PollerStep g.P.Arm.arm_step g.P.EventWait.wait_step) g.P.Arm.interests i.poller core c.args.listener none)

pub invariant_of-self : goal.invariant_of-self
invariant_of-self g c =
    let i = c.self.inside in
    let none : value_of i.listeners c.args.listener ≡ None = sym c.in_default.ensures.value in (
      c.self.invariant.0,
      rw (c.in_default.ensures.after, value_untaken i.listeners c.args.listener none) c.self.invariant.1,
      c.self.invariant.2,
    )

pub returns-in_default-clause-refused : goal.returns-in_default-clause-refused
returns-in_default-clause-refused g c =
    let i = c.self.inside in
    let none : value_of i.listeners c.args.listener ≡ None = sym c.in_default.ensures.value in
    (refl, rw (← c.self.view_is, c.in_default.ensures.after, value_untaken i.listeners c.args.listener none))

pub given_mut-requires : goal.given_mut-requires
given_mut-requires g c = listed_within c.self.inside.sources c.self.inside.listeners c.args.listener c.in-Some.heard c.self.invariant.1 (sym c.in-Some.ensures.value)

pub give_up-requires-clause-counted : goal.give_up-requires-clause-counted
give_up-requires-clause-counted g c =
    let i = c.self.inside in
    let l = c.in-Some.heard in
    let is : value_of i.listeners c.args.listener ≡ Some l = sym c.in-Some.ensures.value in
    let there = sym c.in-Some-given_mut.ensures.value in
    omega (arith, count_at i.sources i.listeners c.in-Some.heard.key.0 c.in-Some-given_mut.entry.now there c.self.invariant.1, counts_mine c.in-Some.heard.key.0 i.listeners c.args.listener c.in-Some.heard is refl)

pub invariant_of-self-2 : goal.invariant_of-self-2
invariant_of-self-2 g c =
    let i = c.self.inside in
    let l = c.in-Some.heard in
    let e = c.in-Some-given_mut.entry.now in
    let is : value_of i.listeners c.args.listener ≡ Some l = sym c.in-Some.ensures.value in
    let there = sym c.in-Some-given_mut.ensures.value in (
      rw c.give_up.ensures (keyed_changed i.sources l.key.0 e _ there (left_key e.source l.dir l.first) c.self.invariant.0),
      rw (c.give_up.ensures, c.in-Some.ensures.after) (listed_changed i.sources i.listeners _ l.key.0 c.args.listener e _ there (gives_up i.sources i.listeners c.args.listener l e there is c.self.invariant.1) c.self.invariant.1),
      omega arith,
    )

pub returns-clause-meets : goal.returns-clause-meets
returns-clause-meets g c =
    let i = c.self.inside in
    let core : CoreValue = record { sources = i.sources; listeners = i.listeners; ticker = i.ticker; book = i.book.entries; ids_drawn = i.ids_drawn; round = i.round } in
    let l = c.in-Some.heard in
    let e = c.in-Some-given_mut.entry.now in
    let is : value_of i.listeners c.args.listener ≡ Some l = sym c.in-Some.ensures.value in
    let there = sym c.in-Some-given_mut.ensures.value in
    rw (← c.self.view_is, c.in-Some.ensures.after, c.give_up.ensures)
    (drop_meets (PollerStep g.P.Arm.arm_step g.P.EventWait.wait_step) g.P.Arm.interests i.poller core c.args.listener l e there is c.self.invariant.1)
