use Rattle.std.proofs.Common.{◌≡◌, ◌∙◌, ◌+◌, ◌-◌, ◌≤◌, ℕ, refl, sym, ap, arith}
use Rattle.aio_future.specs.Tries.{bytes_over}
use Rattle.aio_pairs.specs.Calls.{CallsFor}
use Rattle.aio_relay.proofs.TurnLemmas.{read-passes, read-stops}
use Rattle.aio_relay.proofs.WorkLemmas.{read-work, read-moves}
use Rattle.aio_relay.proofs.passing.read_more.Goals as goal

pub returns-in-Ok-clause-passes : goal.returns-in-Ok-clause-passes
returns-in-Ok-clause-passes g c =
    let r = c.read_from-tried in
    read-passes g.E.End.end_step g.E.Tells.telling g.E.Faults.is_sure g.E.Faults.fault_count
    (CallsFor g.H.TimerHost.rules g.H.Later.is_later g.H.Later.notifier_is_sure c.args.w) c.args.here c.args.host.now r.new.host c.args.from.now c.args.to.now r.new.end c.args.side.now r.new.self
    c.args.tally.now c.add_read.new.self (65536 - c.args.tally.now.read) c.args.w r.result c.read_answer.result
    c.requires.written c.requires.not_ended r.ensures.reads (record { own = refl; leaves = r.ensures.host }) r.ensures.faults r.ensures.kind
    (c.add_read.ensures ∙ ap (λ (n : ℕ). record { read = c.args.tally.now.read + n; wrote = c.args.tally.now.wrote }) c.count_of.ensures) c.in-Ok.is c.read_answer.ensures

pub returns-in-Err-clause-passes : goal.returns-in-Err-clause-passes
returns-in-Err-clause-passes g c =
    let r = c.read_from-tried in
    read-stops g.E.End.end_step g.E.Tells.telling g.E.Faults.is_sure g.E.Faults.fault_count
    (CallsFor g.H.TimerHost.rules g.H.Later.is_later g.H.Later.notifier_is_sure c.args.w) c.in-Err.fault c.args.host.now r.new.host c.args.from.now c.args.to.now r.new.end c.args.side.now r.new.self
    c.args.tally.now c.add_read.new.self (65536 - c.args.tally.now.read) c.args.w r.result
    c.requires.written c.requires.not_ended r.ensures.reads (record { own = refl; leaves = r.ensures.host }) r.ensures.faults
    (c.add_read.ensures ∙ ap (λ (n : ℕ). record { read = c.args.tally.now.read + n; wrote = c.args.tally.now.wrote }) c.count_of.ensures) c.in-Err.is

pub returns-in-Ok-clause-most : goal.returns-in-Ok-clause-most
returns-in-Ok-clause-most g c =
    let r = c.read_from-tried in
    let n : c.count_of.result ≡ bytes_over r.result.answer = c.count_of.ensures in
    let within : c.args.tally.now.read + c.count_of.result ≤ 65536 = omega (arith, r.ensures.most, n, c.requires.room) in
    let work = read-work c.args.side.now c.args.tally.now r.ensures.reads.bytes c.count_of.result (r.ensures.reads.size ∙ sym n) within in
    rw (r.ensures.reads.side_is, c.add_read.ensures) (omega (arith, work))

pub returns-in-Err-clause-most : goal.returns-in-Err-clause-most
returns-in-Err-clause-most g c =
    let r = c.read_from-tried in
    let n : c.count_of.result ≡ bytes_over r.result.answer = c.count_of.ensures in
    let within : c.args.tally.now.read + c.count_of.result ≤ 65536 = omega (arith, r.ensures.most, n, c.requires.room) in
    let work = read-work c.args.side.now c.args.tally.now r.ensures.reads.bytes c.count_of.result (r.ensures.reads.size ∙ sym n) within in
    rw (r.ensures.reads.side_is, c.add_read.ensures) (omega (arith, work))

pub returns-in-Ok-clause-less : goal.returns-in-Ok-clause-less
returns-in-Ok-clause-less g c on =
    let r = c.read_from-tried in
    let n : c.count_of.result ≡ bytes_over r.result.answer = c.count_of.ensures in
    let within : c.args.tally.now.read + c.count_of.result ≤ 65536 = omega (arith, r.ensures.most, n, c.requires.room) in
    let work = read-work c.args.side.now c.args.tally.now r.ensures.reads.bytes c.count_of.result (r.ensures.reads.size ∙ sym n) within in
    let moved = read-moves c.args.here r.new.self r.result.answer (sym c.read_answer.ensures ∙ on) in
    rw (r.ensures.reads.side_is, c.add_read.ensures) (omega (arith, work, moved, n))
