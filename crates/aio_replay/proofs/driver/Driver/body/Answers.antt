use Rattle.std.proofs.Common.{◌≡◌, ◌+◌, ◌∙◌, arith}
use Rattle.aio_base.specs.Trace.{lines_of}
use Rattle.aio_replay.specs.Language.{lines_in}
use Rattle.aio_replay.proofs.driver.Driver.body.Goals as goal

pub returns-in-Some-clause-ends : goal.returns-in-Some-clause-ends
returns-in-Some-clause-ends g c = λ all first stands.
    let same : c.line_limit-line-end.result ≡ lines_in g.A.Answerer.rules.language (lines_of all) = c.line_limit-line-end.ensures.limit stands.answered.state stands.answered.stands ∙ stands.limit in
    c.in-Some.ensures.goes_on all first (omega (arith, same)) (c.loop-line.invariant.stands all first stands)

pub returns-clause-ends : goal.returns-clause-ends
returns-clause-ends g c = λ all first stands.
    let same : c.line_limit-line-end.result ≡ lines_in g.A.Answerer.rules.language (lines_of all) = c.line_limit-line-end.ensures.limit stands.answered.state stands.answered.stands ∙ stands.limit in
    let last : c.loop-line.line ≡ lines_in g.A.Answerer.rules.language (lines_of all) + 1 = omega (arith, c.line_limit-line-end.ensures.some, same) in
    c.after_last.ensures.ends all first (rw last at (c.loop-line.invariant.stands all first stands))
