use Rattle.std.proofs.Common.{arith}
use Rattle.std.proofs.lemmas.Grind.{common_steps}
use Rattle.aio_mio.proofs.ports.Listening.listen.Goals as goal

pub returns-in_err-listener : goal.returns-in_err-listener
returns-in_err-listener g c = grind (arith, common_steps)

pub returns-in_err-local_addr : goal.returns-in_err-local_addr
returns-in_err-local_addr g c = grind (arith, common_steps)

pub returns-in_err-register : goal.returns-in_err-register
returns-in_err-register g c = grind (arith, common_steps)

pub returns : goal.returns
returns g c = grind (arith, common_steps)
