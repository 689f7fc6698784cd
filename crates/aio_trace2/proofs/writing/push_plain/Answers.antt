use Rattle.std.proofs.Common.{sym, subst}
use Rattle.aio_base.specs.Text.{ended_line}
use Rattle.aio_writing.specs.Writing.{Pushes}
use Rattle.aio_trace2.proofs.Written2.{written_as_other}
use Rattle.aio_trace2.proofs.writing.push_plain.Goals as goal

pub returns-in_default : goal.returns-in_default
returns-in_default c = record {
  pushes = subst (λ line. Pushes c.args.out.now c.push_step.new.out (ended_line line) c.push_step.result) (sym (written_as_other c.args.step.now c.in_default.not-Note)) c.push_step.ensures.pushes;
}
