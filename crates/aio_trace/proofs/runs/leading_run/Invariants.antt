use Rattle.std.proofs.Common.{◌-◌, ◌≤◌, length}
use Rattle.aio_trace.specs.Words.{IsRun}
use Rattle.aio_trace.proofs.runs.leading_run.Given as goal

-- nothing but this byte so far
abbrev pub invariant-loop-at : goal.invariant-loop-at
invariant-loop-at l = record {
  within : l.at ≤ length l.text;
  run : IsRun l.byte l.text l.at;
}

abbrev pub decreases-loop-at : goal.decreases-loop-at
decreases-loop-at l = length l.text - l.at
