use Rattle.std.proofs.Common.{◌≡◌, [], ◌∷◌, ◌++◌, length, sym, ap, ◌∙◌, subst, arith, length-append}
use Rattle.aio_jobs.proofs.Turns.{HaveNone, none_have, none_more}
use Rattle.aio_jobs.proofs.rows.empty_rows.Goals as goal

pub loop-made-preserved : goal.loop-made-preserved
loop-made-preserved g c =
    let more : c.add.new.self ≡ c.loop-made.rows ++ [] ∷ [] = c.in_ok-add.ensures.added ∙ ap (λ row. c.loop-made.rows ++ row ∷ []) c.new.ensures.items in (
      subst HaveNone (sym more) (none_more c.loop-made.rows c.loop-made.invariant.0),
      omega (arith, ap length more, length-append c.loop-made.rows ([] ∷ []), c.loop-made.invariant.1),
    )

pub returns-clause-shares : goal.returns-clause-shares
returns-clause-shares g c = none_have c.args.count 0 c.loop-made.rows c.loop-made.invariant.0 (omega (arith, c.loop-made.invariant.1, c.loop-made.auto._made-end))
