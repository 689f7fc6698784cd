use Rattle.std.proofs.Common.{refl, sym, arith}
use Rattle.aio_base.specs.Devices.{PollerStep}
use Rattle.aio_react.proofs.listeners.HeldSources.{keyed_again}
use Rattle.aio_react.proofs.listeners.ListenMeets.{listen_meets, listen_misses, next_number, listed_more, few_listeners}
use Rattle.aio_react.proofs.listeners.NewListeners.{counted}
use Rattle.aio_react.proofs.polls.SeatLemmas.{within-sources}
use Rattle.aio_react.proofs.sources.SourceChanges.{placed_again}
use Rattle.aio_react.proofs.reactor.Core.listen.Goals as goal

pub returns-in_default-clause-meets : goal.returns-in_default-clause-meets
returns-in_default-clause-meets g c =
    let i = c.self.inside in
    let is = sym c.in_default.ensures.value in
    rw (← c.self.view_is)
    (listen_misses (PollerStep g.P.Arm.arm_step g.P.EventWait.wait_step) g.P.Arm.interests i.poller _ c.args.key c.args.dir is)

pub add-requires : goal.add-requires
add-requires g c = omega (arith, within-sources c.self.inside.sources c.args.key.0 c.in-Some.entry.now (sym c.in-Some.ensures.value), c.in-Some.ensures.few)

pub invariant_of-self-in_default-add : goal.invariant_of-self-in_default-add
invariant_of-self-in_default-add g c =
    let same = placed_again c.self.inside.sources c.args.key.0 c.in-Some.entry.now (sym c.in-Some.ensures.value) in
    rw (same, c.in_default-add.ensures.refused) c.self.invariant

pub returns-in_default-add-clause-refused : goal.returns-in_default-add-clause-refused
returns-in_default-add-clause-refused g c =
    let same = placed_again c.self.inside.sources c.args.key.0 c.in-Some.entry.now (sym c.in-Some.ensures.value) in
    rw (← c.self.view_is, same, c.in_default-add.ensures.refused)

pub overflow_add-entry : goal.overflow_add-entry
overflow_add-entry g c =
    let i = c.self.inside in
    let is = sym c.in-Some.ensures.value in
    let few = few_listeners i.sources i.listeners c.args.key.0 c.in-Some.entry.now is c.self.invariant.1 in
    omega (arith, few, c.given.ensures.value, c.given.ensures.bound)

pub invariant_of-self-2 : goal.invariant_of-self-2
invariant_of-self-2 g c =
    let i = c.self.inside in
    let is = sym c.in-Some.ensures.value in (
      keyed_again i.sources c.args.key.0 c.in-Some.entry.now (counted c.in-Some.entry.now) is (record { key_is = refl; listeners = λ d. refl }) c.self.invariant.0,
      rw c.in-Ok.ensures.added (listed_more i.sources i.listeners c.args.key c.args.dir c.in-Some.entry.now is c.self.invariant.1),
      omega arith,
    )

pub returns-clause-meets : goal.returns-clause-meets
returns-clause-meets g c =
    let i = c.self.inside in
    let is = sym c.in-Some.ensures.value in
    let next = next_number c.in-Ok.number i.listeners c.add.new.self _ c.in-Ok.ensures.number c.in-Ok.ensures.added in
    rw (c.in-Ok.ensures.added, ← c.self.view_is)
    (listen_meets (PollerStep g.P.Arm.arm_step g.P.EventWait.wait_step) g.P.Arm.interests i.poller _ c.args.key c.args.dir c.in-Some.entry.now c.in-Ok.number is next)
