use Rattle.aio_work.proofs.Queueing.{LetGoBefore}
use Rattle.aio_work.proofs.slots.let_queued_go.Given as goal

-- the slots before this one were gone through
abbrev pub invariant-loop-held : goal.invariant-loop-held
invariant-loop-held l = LetGoBefore l.held-index l.initial.slots l.slots
