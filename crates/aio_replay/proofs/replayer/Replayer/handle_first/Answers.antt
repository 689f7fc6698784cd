use Rattle.std.proofs.Common.{[], None}
use Rattle.aio_base.specs.declared.steps.Step.TheVariants as step
use Rattle.aio_replay.specs.Replies.{handled_answer}
use Rattle.aio_replay.proofs.Calling.{told_met_so}
use Rattle.aio_replay.proofs.Refusing.{handled}
use Rattle.aio_replay.proofs.replayer.Replayer.handle_first.Goals as goal

pub told_handle-requires : goal.told_handle-requires
told_handle-requires c = handled c.args.self.now.core.1.round c.handle.result c.handle.ensures.cause

pub returns : goal.returns
returns c =
    told_met_so (handled_answer c.told_handle.result) _ step.Handle None None [] c.args.self.now c.handle.new.self tt tt c.told_handle.ensures c.handle.ensures.meets
