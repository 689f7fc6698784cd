-- A line whose step is handed to a taker reads as that step.
use Rattle.std.proofs.Common.{◌≡◌, ℕ, ◌≤◌, List, length, Result, Ok, Err, sym, ap, ◌∙◌}
use Rattle.aio_base.specs.declared.steps.LineFault.{LineFault}
use Rattle.aio_base.specs.declared.steps.Step.{Step}
use Rattle.aio_base.specs.Lines.{IsInRange, Reads, first, line_bytes, line_read, words_in, words_read}
use Rattle.aio_base.proofs.FirstLines.{fault_back, line_reads, reads_back}
use Rattle.aio_trace.specs.Taking.{HandsLine}
use Rattle.aio_trace.proofs.LineLaws.{IsReading, is_reading, whole_read}
use Rattle.aio_trace.proofs.Ranges.{in_range}

-- words of the whole line that spell a step
pub words_reads : (line : List ℕ) (s : Step) → length line ≤ line_bytes → words_read first (words_in line) ≡ Ok s → Reads s line
words_reads line s short read = line_reads s line (whole_read line s short read)

pub words_in_range : (line : List ℕ) (s : Step) → length line ≤ line_bytes → words_read first (words_in line) ≡ Ok s → IsInRange s
words_in_range line s short read = let reads = words_reads line s short read in in_range s reads.in_range

pub read_in_range : (line : List ℕ) (s : Step) → line_read first line ≡ Ok s → IsInRange s
read_in_range line s read = let reads = line_reads s line read in in_range s reads.in_range

-- a step that is handed out as it is
pub handed_out : {S : Type 0} (line : List ℕ) (old new : S) (read : Result Step LineFault) → HandsLine (λ old step answer new. answer ≡ step) old line read new → IsReading read line
handed_out line old new (Ok s) hands = is_reading line (Ok s) (reads_back hands.step line hands.reads ∙ ap Ok (sym hands.taken))
handed_out line old new (Err f) hands = is_reading line (Err f) (fault_back f line hands.0)
