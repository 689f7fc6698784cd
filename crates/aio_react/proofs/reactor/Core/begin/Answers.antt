use Rattle.std.proofs.Common.{◌≡◌, ◌+◌, Some, true, false, rules}
use Rattle.aio_base.specs.Devices.{PollerStep}
use Rattle.aio_react.specs.Cores.{CoreValue}
use Rattle.aio_react.proofs.rounds.BeginMeets.{begin_done, locked_meets}
use Rattle.aio_react.proofs.rounds.IdleRounds.{told_running, told_idle}
use Rattle.aio_react.proofs.reactor.Core.begin.Goals as goal

pub returns-then-not-is_idle-clause-meets : goal.returns-then-not-is_idle-clause-meets
returns-then-not-is_idle-clause-meets g c =
    let i = c.self.inside in
    let core : CoreValue = record { sources = i.sources; listeners = i.listeners; ticker = i.ticker; book = i.book.entries; ids_drawn = i.ids_drawn; round = i.round } in
    let running : i.round.running ≡ true = told_running c.is_idle.result i.round.running c.is_idle.ensures c.if-not-is_idle.true in
    rw (← c.self.view_is) (locked_meets (PollerStep g.P.Arm.arm_step g.P.EventWait.wait_step) g.P.Arm.interests i.poller core (Some c.args.now) c.args.given running)

pub returns-in-Ok-clause-meets : goal.returns-in-Ok-clause-meets
returns-in-Ok-clause-meets g c =
    let i = c.self.inside in
    let core : CoreValue = record { sources = i.sources; listeners = i.listeners; ticker = i.ticker; book = i.book.entries; ids_drawn = i.ids_drawn; round = i.round } in
    let idle : i.round.running ≡ false = told_idle c.is_idle.result i.round.running c.is_idle.ensures c.if-not-is_idle.false in
    let number : c.in-Some.number ≡ i.ticker + 1 = c.in-Some.ensures.1 in
    rw (← c.self.view_is)
    (begin_done (PollerStep g.P.Arm.arm_step g.P.EventWait.wait_step) g.P.Arm.interests i.poller core c.args.now c.args.given
    c.in-Some.number c.in-Ok.limit c.begin.new.book.entries c.begin.new.self idle number c.in-Ok.ensures.limit c.in-Ok.ensures.book c.in-Ok.ensures.round)

pub returns-in-Err-clause-refused : goal.returns-in-Err-clause-refused
returns-in-Err-clause-refused g c = search rules
