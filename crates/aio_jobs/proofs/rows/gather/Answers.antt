use Rattle.std.proofs.Common.{◌∷◌, [], ◌++◌, sym, ap, ◌∙◌, subst, append-nil, append_assoc}
use Rattle.aio_jobs.specs.Dealing.{GivesInTurn}
use Rattle.aio_jobs.proofs.Turns.{gives_one, one_less}
use Rattle.aio_jobs.proofs.rows.gather.Goals as goal

pub loop-next-preserved : goal.loop-next-preserved
loop-next-preserved g c more gives =
    let whole = c.loop-next.invariant (c.in-Some.next ∷ more) (gives_one c.loop-next.left c.take.new.self c.in-Some.next more c.in-Some.ensures.item gives) in
    subst (λ items. GivesInTurn c.args.rows items) (sym (ap (λ items. items ++ more) c.in-Ok.ensures.items ∙ append_assoc c.loop-next.all.items (c.in-Some.next ∷ []) more)) whole

pub loop-next-smaller : goal.loop-next-smaller
loop-next-smaller g c = one_less c.loop-next.left c.take.new.self c.in-Some.next c.in-Some.ensures.item

pub returns : goal.returns
returns g c = subst (λ items. GivesInTurn c.args.rows items) (append-nil c.loop-next.all.items) (c.loop-next.invariant [] c.in_default.ensures.none)
