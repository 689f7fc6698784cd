use Rattle.std.proofs.Common.{None, [], sym, subst}
use Rattle.aio_base.specs.declared.steps.Answer.{Answer}
use Rattle.aio_base.specs.declared.steps.Step.TheVariants as step
use Rattle.aio_replay.specs.Replaying.{Replays}
use Rattle.aio_replay.proofs.Calling.{replayed}
use Rattle.aio_replay.proofs.replayer.Replayer.wait_once.Goals as goal

pub returns : goal.returns
returns c =
    let r = c.args.self.now in
    subst (λ (a : Answer). Replays step.Wait a [] r (record r { core = c.wait.new.self })) (sym c.told_wait.ensures)
    (replayed step.Wait None r.core.1.round.limit _ [] r c.wait.new.self tt tt c.wait.ensures.meets)
