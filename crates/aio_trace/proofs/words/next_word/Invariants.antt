use Rattle.std.proofs.Common.{◌≡◌, false, take}
use Rattle.std.specs.List.{All}
use Rattle.aio_base.specs.Lines.{is_blank}
use Rattle.aio_trace.proofs.words.next_word.Given as goal

-- no blank so far
abbrev pub invariant-loop-at : goal.invariant-loop-at
invariant-loop-at l = All (λ b. is_blank b ≡ false) (take l.at l.text)
