use Rattle.std.proofs.Common.{◌∙◌, get_or, sym}
use Rattle.std.proofs.lemmas.Bool.{eqb-false, eqb-true}
use Rattle.aio_line.proofs.Spelling.{spells, spells_no_plus, spells_none}
use Rattle.aio_line.proofs.numbers.number_up_to.Goals as goal

pub returns-then-has_plus : goal.returns-then-has_plus
returns-then-has_plus c = spells_no_plus c.args.word.now c.args.most (eqb-true (get_or c.args.word.now 0 0) 43 (sym c.has_plus.ensures ∙ c.if-has_plus.true))

pub returns-in-Ok : goal.returns-in-Ok
returns-in-Ok c =
    let no_plus = eqb-false (get_or c.args.word.now 0 0) 43 (sym c.has_plus.ensures ∙ c.if-has_plus.false) in
    (spells c.args.word.now c.in-Ok.number c.parse.result no_plus c.parse.ensures.value.0 c.in-Ok.is, c.if-number-most.true)

pub returns-in_default-2 : goal.returns-in_default-2
returns-in_default-2 c =
    let no_plus = eqb-false (get_or c.args.word.now 0 0) 43 (sym c.has_plus.ensures ∙ c.if-has_plus.false) in
    spells_none c.args.word.now c.args.most _ c.parse.result c.ranges.most.fits no_plus c.parse.ensures.value.0 c.in_default.is
