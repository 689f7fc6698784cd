use Rattle.std.proofs.Common.{length, min, arith}
use Rattle.std.proofs.lemmas.Grind.{common_steps}
use Rattle.aio_bytes.proofs.Fronts.{front_given, none_given}
use Rattle.aio_bytes.proofs.sure.SureSourceSource.read.Goals as goal

pub returns-clause-step : goal.returns-clause-step
returns-clause-step c = grind (arith, common_steps)

pub returns-clause-given : goal.returns-clause-given
returns-clause-given c = grind (arith, common_steps)

pub returns-clause-bytes : goal.returns-clause-bytes
returns-clause-bytes c =
    let i = c.self.inside in
    let all = c.deref.result.now in
    let room = length c.args.buf.now in
    let count = c.copy_front-count.result in (
      front_given i.bytes.items all c.copy_front-count.new.to c.args.self.now i.position count c.deref.ensures.value c.self.view_is c.copy_front-count.ensures.copied,
      λ none some. none_given i.bytes.items all i.position (min room room) count c.deref.ensures.value c.copy_front-count.ensures.count (omega arith) none,
    )
