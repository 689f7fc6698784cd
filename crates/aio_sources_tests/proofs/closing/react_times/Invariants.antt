-- The member stays one of the reactor.
use Rattle.aio_shared.specs.Members.{IsMemberOf}
use Rattle.aio_sources_tests.proofs.closing.react_times.Given as goal

abbrev pub invariant-loop : goal.invariant-loop
invariant-loop g l = IsMemberOf l.shared l.m
