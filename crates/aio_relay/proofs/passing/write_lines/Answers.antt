use Rattle.std.proofs.Common.{◌∙◌, ◌≤◌, refl, true, sym, ap, arith, length}
use Rattle.aio_pairs.specs.Backlogs.{SideState}
use Rattle.aio_pairs.specs.Lines.{lines, unfinished}
use Rattle.aio_pairs.specs.Calls.{CallsFor}
use Rattle.aio_relay.proofs.StepLemmas.{tries-within, shrunk-rest, write-work}
use Rattle.aio_relay.proofs.TurnLemmas.{write-passes, write-stops}
use Rattle.aio_relay.proofs.WorkLemmas.{write-moves}
use Rattle.aio_relay.proofs.passing.write_lines.Goals as goal
use Rattle.aio_relay.proofs.passing.write_lines.Goals.{After-count_of-n}
use Rattle.aio_relay.proofs.passing.write_lines.Given.{Over}

pub returns-in-Ok-clause-passes : goal.returns-in-Ok-clause-passes
returns-in-Ok-clause-passes g c =
    let t = c.write-tried in
    write-passes g.E.End.end_step g.E.Tells.telling g.E.Faults.is_sure g.E.Faults.fault_count
    (CallsFor g.H.TimerHost.rules g.H.Later.is_later g.H.Later.notifier_is_sure c.args.w) c.args.host.now t.new.host c.args.from.now c.args.to.now t.new.self c.args.side.now c.shrink.new.self
    c.args.tally.now c.add_written.new.self c.lines.result.now c.count_of-n.result c.args.w t.result c.write_answer.result
    c.requires.some c.lines.ensures c.count_of-n.ensures t.ensures.most t.ensures.step (record { own = refl; leaves = t.ensures.host }) t.ensures.told t.ensures.faults t.ensures.kind
    c.shrink.ensures c.add_written.ensures c.in-Ok.is c.write_answer.ensures

pub returns-in-Err-clause-passes : goal.returns-in-Err-clause-passes
returns-in-Err-clause-passes g c =
    let t = c.write-tried in
    write-stops g.E.End.end_step g.E.Tells.telling g.E.Faults.is_sure g.E.Faults.fault_count
    (CallsFor g.H.TimerHost.rules g.H.Later.is_later g.H.Later.notifier_is_sure c.args.w) c.in-Err.fault c.args.host.now t.new.host c.args.from.now c.args.to.now t.new.self c.args.side.now c.shrink.new.self
    c.args.tally.now c.add_written.new.self c.lines.result.now c.count_of-n.result c.args.w t.result
    c.requires.some c.lines.ensures c.count_of-n.ensures t.ensures.most t.ensures.step (record { own = refl; leaves = t.ensures.host }) t.ensures.told t.ensures.faults
    c.shrink.ensures c.add_written.ensures c.in-Err.is

within : (g : Over) (c : After-count_of-n g) → c.count_of-n.result ≤ length (lines c.args.side.now.backlog)
within g c = omega (arith, tries-within (length c.lines.result.now) c.write-tried.result.answer c.write-tried.ensures.most, c.count_of-n.ensures, ap length c.lines.ensures)

pub returns-in-Ok-clause-rest : goal.returns-in-Ok-clause-rest
returns-in-Ok-clause-rest g c =
    ap (λ (s : SideState). unfinished s.backlog) c.shrink.ensures ∙ shrunk-rest c.args.side.now c.count_of-n.result (within g (goal.at.returns-in-Ok-clause-rest g c).After-count_of-n)

pub returns-in-Err-clause-rest : goal.returns-in-Err-clause-rest
returns-in-Err-clause-rest g c =
    ap (λ (s : SideState). unfinished s.backlog) c.shrink.ensures ∙ shrunk-rest c.args.side.now c.count_of-n.result (within g (goal.at.returns-in-Err-clause-rest g c).After-count_of-n)

pub returns-in-Ok-clause-most : goal.returns-in-Ok-clause-most
returns-in-Ok-clause-most g c =
    rw (c.shrink.ensures, c.add_written.ensures)
    (omega (arith, write-work c.args.side.now c.args.tally.now true c.count_of-n.result (within g (goal.at.returns-in-Ok-clause-most g c).After-count_of-n)))

pub returns-in-Err-clause-most : goal.returns-in-Err-clause-most
returns-in-Err-clause-most g c =
    rw (c.shrink.ensures, c.add_written.ensures)
    (omega (arith, write-work c.args.side.now c.args.tally.now true c.count_of-n.result (within g (goal.at.returns-in-Err-clause-most g c).After-count_of-n)))

pub returns-in-Ok-clause-less : goal.returns-in-Ok-clause-less
returns-in-Ok-clause-less g c on =
    let moved = write-moves (length c.lines.result.now) c.write-tried.result.answer c.write-tried.ensures.most (sym c.write_answer.ensures ∙ on) in
    rw (c.shrink.ensures, c.add_written.ensures)
    (omega (arith, moved, c.count_of-n.ensures, write-work c.args.side.now c.args.tally.now true c.count_of-n.result (within g (goal.at.returns-in-Ok-clause-less g c).After-count_of-n)))
