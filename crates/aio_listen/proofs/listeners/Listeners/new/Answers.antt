-- A list with no node.
use Rattle.aio_listen.proofs.ListedLemmas.{listed-none}
use Rattle.aio_listen.proofs.listeners.Listeners.new.Goals as goal

pub invariant_of-result : goal.invariant_of-result
invariant_of-result g c = listed-none c.new.result c.none.result c.none-2.result c.new.ensures.empty c.none.ensures c.none-2.ensures
