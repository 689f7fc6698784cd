use Rattle.std.proofs.Common.{ap, length, min, arith}
use Rattle.std.proofs.lemmas.Grind.{common_steps}
use Rattle.aio_bytes.specs.Memory.{ScriptedSource}
use Rattle.aio_bytes.proofs.Fronts.{front_given, none_given}
use Rattle.aio_bytes.proofs.memory.MemSourceSource.read.Goals as goal

pub returns-clause-step : goal.returns-clause-step
returns-clause-step c = grind (arith, common_steps)

pub returns-clause-bytes : goal.returns-clause-bytes
returns-clause-bytes c =
    let i = c.self.inside in
    let all = c.deref.result.now in
    let count = c.copy_front-count.result in (
      front_given i.bytes.items all c.copy_front-count.new.to c.args.self.now.left i.position count c.deref.ensures.value (ap (λ (s : ScriptedSource). s.left) c.self.view_is)
          c.copy_front-count.ensures.copied,
      λ none some. none_given i.bytes.items all i.position (min (length c.args.buf.now) i.piece) count c.deref.ensures.value c.copy_front-count.ensures.count (omega arith) none,
    )
