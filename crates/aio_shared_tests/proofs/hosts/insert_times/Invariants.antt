-- The host goes on.
use Rattle.aio_shared_tests.proofs.hosts.insert_times.Given as goal

abbrev pub invariant-loop : goal.invariant-loop
invariant-loop g l = g.H.Later.is_later l.initial.host l.host
