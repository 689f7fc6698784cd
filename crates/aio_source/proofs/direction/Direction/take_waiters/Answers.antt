use Rattle.std.proofs.Common.{rules}
use Rattle.aio_source.proofs.WaiterLemmas.{handled_idle}
use Rattle.aio_source.proofs.direction.Direction.take_waiters.Goals as goal
use Rattle.aio_source.proofs.direction.Direction.take_waiters.Goals.{then-may, else-may}

pub returns-clause-after : goal.returns-clause-after
returns-clause-after c = elim c.if-may.branch [
  | then-may w ↦ search rules
  | else-may w ↦
      let kept = handled_idle c.args.round c.args.self.now (c.requires.nobody w.if-may.false) in
      search (rules, kept)
]
