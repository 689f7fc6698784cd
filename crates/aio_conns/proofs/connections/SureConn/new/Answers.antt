use Rattle.aio_conns.proofs.Prompt.{new-stands}
use Rattle.aio_conns.proofs.connections.SureConn.new.Goals as goal

pub invariant_of-result : goal.invariant_of-result
invariant_of-result c =
    rw (c.new-2.ensures, c.new-3.ensures, c.is_prompt-prompt.ensures, c.deref.ensures.value)
    (new-stands c.args.reads.items c.args.ends c.args.at_once c.args.room c.in_ok-armed.armed c.requires.bounded)
