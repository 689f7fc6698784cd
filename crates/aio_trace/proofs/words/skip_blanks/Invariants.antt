use Rattle.std.proofs.Common.{◌≡◌, drop}
use Rattle.aio_base.specs.Lines.{words_in}
use Rattle.aio_trace.proofs.words.skip_blanks.Given as goal

-- nothing but blanks was passed over
abbrev pub invariant-loop-at : goal.invariant-loop-at
invariant-loop-at l = words_in (drop l.at l.text) ≡ words_in l.text
