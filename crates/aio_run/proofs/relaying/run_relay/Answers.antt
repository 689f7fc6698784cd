use Rattle.aio_run.proofs.RelayEnds.{never_usage, reads_nothing, tells_counts, write_cause}
use Rattle.aio_run.proofs.relaying.run_relay.Goals as goal

pub returns-clause-usage : goal.returns-clause-usage
returns-clause-usage g c = rw c.why_of_relay.ensures (never_usage c.relay-answer.result)

pub returns-clause-relays : goal.returns-clause-relays
returns-clause-relays g c = record {
  answer = c.relay-answer.result;
  is_why = c.why_of_relay.ensures;
  written = c.relay-answer.ensures.written;
  cause = c.relay-answer.ensures.cause;
}

pub returns-clause-counts : goal.returns-clause-counts
returns-clause-counts g c = λ reads. rw c.why_of_relay.ensures (tells_counts _ _ _ _ _ _ reads c.relay-answer.result c.relay-answer.ensures.cause)

pub returns-clause-no_read : goal.returns-clause-no_read
returns-clause-no_read g c = rw c.why_of_relay.ensures (reads_nothing c.relay-answer.result)

pub returns-clause-cause : goal.returns-clause-cause
returns-clause-cause g c = rw c.why_of_relay.ensures
    (write_cause g.K.Faults.fault_count g.K.Faults.is_sure c.args.out.now c.relay-answer.new.out c.relay-answer.result c.relay-answer.ensures.output)
