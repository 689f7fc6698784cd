use Rattle.std.proofs.Common.{◌≡◌, ◌+◌, ◌++◌, drop}
use Rattle.aio_line.specs.Texts.{pair_lines}
use Rattle.aio_line.proofs.texts.pair_lines.Given as goal

-- with the lines of the ends that are left the text is whole
abbrev pub invariant-loop-end : goal.invariant-loop-end
invariant-loop-end l = record {
  whole : l.text.items ++ pair_lines (l.end-index + 1) (drop l.end-index l.ends) ≡ pair_lines 1 l.ends;
  number : l.number ≡ l.end-index;
}
