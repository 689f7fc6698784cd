use Rattle.aio_laws.proofs.timers.Registering.{step_leaves_registered}
use Rattle.aio_laws.proofs.rounds.WaitedOut.{second_pass_is}
use Rattle.aio_laws.proofs.laws.a_waited_out_round_ends_with_a_pass.Goals as goal

pub returns-clause-step : goal.returns-clause-step
returns-clause-step c = step_leaves_registered

pub returns-clause-test : goal.returns-clause-test
returns-clause-test c = second_pass_is
