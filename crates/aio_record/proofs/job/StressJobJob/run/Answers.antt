use Rattle.std.proofs.Common.{arith}
use Rattle.aio_record.proofs.Working.{job_end, job_turn, none_done}
use Rattle.aio_record.proofs.job.StressJobJob.run.Goals as goal

pub loop-left-init : goal.loop-left-init
loop-left-init g c = (c.args.self.eight, none_done c.args.self.calls c.args.self.draws 0 c.args.self.desks.items)

pub loop-left-preserved : goal.loop-left-preserved
loop-left-preserved g c =
    let l = c.loop-left in
    let d = c.next_call-drawn in
    job_turn c.args.self.calls c.args.self.draws l.left l.draws c.args.self.desks.items l.desks.items d.result.cell d.result.call d.new.self
    c.index_mut.result.now c.call.new.self c.in_ok-call.field-0 (omega (arith, c.loop-left-test.true)) l.invariant.0 l.invariant.1
    d.ensures.cell d.ensures.call d.ensures.after d.ensures.bound c.index_mut.ensures.value c.in_ok-call.ensures.lock c.in_ok-call.ensures.maker c.in_ok-call.ensures.grew

pub returns : goal.returns
returns g c =
    let l = c.loop-left in
    job_end c.args.self.calls c.args.self.draws l.left l.draws c.args.self.desks.items l.desks.items (omega (arith, c.loop-left-test.false)) l.invariant.1
