use Rattle.std.proofs.Common.{◌+◌, ◌++◌, refl, sym, ap, ◌∙◌}
use Rattle.aio_base.specs.Text.{ended_line}
use Rattle.aio_tasks.specs.Lines2.{written_line2}
use Rattle.aio_tasks.specs.Migrating.{plain_line}
use Rattle.aio_migrate.specs.declared.blocks.Migrator.{Migrator}
use Rattle.aio_migrate.proofs.MigratorLemmas.{joined_held, passed_held}
use Rattle.aio_migrate.proofs.blocks.pass.Goals as goal

pub returns-then-joins-clause-passes : goal.returns-then-joins-clause-passes
returns-then-joins-clause-passes c = λ held holds.
    let next = c.in-Ok.ensures.ok ∙ ap (λ x. x ++ ended_line (written_line2 (plain_line c.args.step))) c.clear.ensures.items in
    let old : Migrator = record { line = c.args.gathered.now.answerer.line; next = c.write_line2.new.out; times = c.args.gathered.now.answerer.times } in
    let new : Migrator = record { line = c.args.gathered.now.answerer.line; next = c.write_line2.new.out; times = c.args.gathered.now.answerer.times + 1 } in
    let p = joined_held old new c.args.step c.args.gathered.now.text.items next (sym c.joins.ensures ∙ c.if-joins.true) refl refl held holds in
    (p.text_is, p.holds)

pub returns-clause-passes : goal.returns-clause-passes
returns-clause-passes c = λ held holds.
    let next = c.in-Ok.ensures.ok ∙ ap (λ x. x ++ ended_line (written_line2 (plain_line c.args.step))) c.clear.ensures.items in
    let old : Migrator = record { line = c.args.gathered.now.answerer.line; next = c.write_line2.new.out; times = c.args.gathered.now.answerer.times } in
    let new : Migrator = record { line = c.swap.new.x; next = c.swap.new.y; times = 1 } in
    let p = passed_held old new c.args.step c.args.gathered.now.text.items c.put_held.new.text.items next (sym c.joins.ensures ∙ c.if-joins.false) refl (ap (λ v. v.items) c.swap.ensures.x_after)
    (λ held holds. c.in-Ok-put_held.ensures.held held holds) held holds in
    (p.text_is, p.holds)
