use Rattle.aio_line.proofs.Asking.{no_pairs, no_port, no_workers}
use Rattle.aio_line.proofs.words.named_order.Goals as goal

pub returns-in_err-pairs-clause-words : goal.returns-in_err-pairs-clause-words
returns-in_err-pairs-clause-words c =
    let none = rw c.in_err-pairs.was at c.number_from_to-3.ensures in
    let spells = rw c.in_ok-workers.was at c.number_from_to.ensures in
    rw c.from_residual-in_err-pairs.ensures
    (no_pairs c.args.name.now c.args.port.now c.args.workers.now c.args.idle.now c.args.pairs.now c.in_ok-workers.workers spells none)

pub returns-in_err-port-clause-words : goal.returns-in_err-port-clause-words
returns-in_err-port-clause-words c =
    let none = rw c.in_err-port.was at c.number_up_to.ensures in
    rw c.from_residual.ensures (no_port c.args.name.now c.args.port.now c.args.workers.now c.args.idle.now c.args.pairs.now none)

pub returns-in_err-workers-clause-words : goal.returns-in_err-workers-clause-words
returns-in_err-workers-clause-words c =
    let none = rw c.in_err-workers.was at c.number_from_to.ensures in
    rw c.from_residual-in_err-workers.ensures (no_workers c.args.name.now c.args.port.now c.args.workers.now c.args.idle.now c.args.pairs.now none)
