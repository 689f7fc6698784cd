use Rattle.aio_ops.proofs.Removals.{removed_is_out}
use Rattle.aio_ops.proofs.removal_laws.a_removed_timer_is_out_of_the_book.Goals as goal

pub returns : goal.returns
returns c = removed_is_out
