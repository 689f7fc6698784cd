use Rattle.aio_serve.proofs.Complete.{memory_alone}
use Rattle.aio_serve.proofs.laws.a_sure_server_stops_for_memory_alone.Goals as goal

pub returns : goal.returns
returns c = memory_alone
