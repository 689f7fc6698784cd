use Rattle.aio_commands.proofs.Naming.{no_seed, no_steps}
use Rattle.aio_commands.proofs.commands.named_with_steps.Goals as goal

pub returns-in_err-n : goal.returns-in_err-n
returns-in_err-n c =
    let none = rw c.in_err-n.was at c.number_up_to.ensures in
    rw c.from_residual.ensures (no_steps c.args.name.now c.args.steps.now c.args.seed.now none)

pub returns-in_err-seed : goal.returns-in_err-seed
returns-in_err-seed c =
    let none = rw c.in_err-seed.was at c.number_up_to-2.ensures in
    rw c.from_residual-in_err-seed.ensures (no_seed c.args.name.now c.args.steps.now c.args.seed.now none)
