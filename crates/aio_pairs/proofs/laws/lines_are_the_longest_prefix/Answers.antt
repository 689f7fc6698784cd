use Rattle.std.proofs.Common.{ap, sym, ◌∙◌, ◌++◌}
use Rattle.aio_pairs.specs.Lines.{longest_line, lines}
use Rattle.aio_pairs.proofs.LineLemmas.{lines-prefix, lines-made, lines-longest}
use Rattle.aio_pairs.proofs.laws.lines_are_the_longest_prefix.Goals as goal

pub returns-clause-prefix : goal.returns-clause-prefix
returns-clause-prefix c = lines-prefix

pub returns-clause-lines : goal.returns-clause-lines
returns-clause-lines c = lines-made

pub returns-clause-longest : goal.returns-clause-longest
returns-clause-longest c bytes other front made = record {
  suffix = lines front.suffix;
  is = ap lines (front.is ∙ ap (λ l. l ++ front.suffix) made.is) ∙ lines-longest longest_line made.texts front.suffix made.each ∙ ap (λ l. l ++ lines front.suffix) (sym made.is);
}
