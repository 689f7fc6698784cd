use Rattle.std.proofs.Common.{rules, reverse, refl, ap, ◌∙◌}
use Rattle.aio_source.specs.declared.answers.Polled.{Polled}
use Rattle.aio_source.specs.Rules.{polling}
use Rattle.aio_source.specs.Lent.{settled}
use Rattle.aio_record.proofs.Leaving.{answered, keeps_poll, sure_told}
use Rattle.aio_record.proofs.recorded.RecordedCell.poll.Goals as goal

pub returns-clause-answer : goal.returns-clause-answer
returns-clause-answer c =
    rw (← c.self.view_is) (c.beside_faults-answer.ensures
    ∙ answered (reverse c.self.inside.steps.items) c.self.inside.source.state c.args.dir c.args.w c.args.ticker _ _ _ _ c.poll_dir-polled.result.answer
    c.self.invariant.left (c.poll_dir-polled.ensures.lent.faults.cause.never refl).0 (ap (λ (p : Polled). p.answer) c.poll_dir-polled.ensures.answer))

pub invariant_of-self-2 : goal.invariant_of-self-2
invariant_of-self-2 c =
    let s = c.self.inside.source.state in
    let p = polling s c.args.dir c.args.w c.args.ticker in
    let sure = (c.poll_dir-polled.ensures.lent.faults.cause.never refl).0 in
    keeps_poll c.self.inside.steps.items s c.args.dir c.args.w c.args.ticker c.beside_faults-answer.result c.poll_dir-polled.new.self c.push_reserved.new.self.items
    c.self.invariant
    (c.beside_faults-answer.ensures
    ∙ answered (reverse c.self.inside.steps.items) s c.args.dir c.args.w c.args.ticker _ _ _ _ c.poll_dir-polled.result.answer
    c.self.invariant.left sure (ap (λ (p : Polled). p.answer) c.poll_dir-polled.ensures.answer))
    (c.poll_dir-polled.ensures.after ∙ ap (λ told. settled p.arms told p.source) (sure_told _ sure))
    (search rules)
    c.poll_dir-polled.ensures.key
