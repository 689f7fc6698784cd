use Rattle.aio_laws.proofs.runs.FirstPolls.{run_polls_in_order}
use Rattle.aio_laws.proofs.laws.polled_listeners_stand_in_the_order_of_their_first_poll.Goals as goal

pub returns : goal.returns
returns c = run_polls_in_order
