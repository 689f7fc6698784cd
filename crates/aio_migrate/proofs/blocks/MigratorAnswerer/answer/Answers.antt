use Rattle.std.proofs.Common.{Err, refl, sym, ap, ◌∙◌}
use Rattle.aio_base.specs.Lines.{step_read}
use Rattle.aio_migrate.specs.Migration.{migrate_reply, passed}
use Rattle.aio_trace.proofs.Ranges.{in_range}
use Rattle.aio_migrate.proofs.MigratorLemmas.{migrated_reply}
use Rattle.aio_migrate.proofs.blocks.MigratorAnswerer.answer.Goals as goal

pub returns-in-Err-clause-answers : goal.returns-in-Err-clause-answers
returns-in-Err-clause-answers c = (
  refl,
  refl,
  λ held stands. ap (λ f. migrate_reply held f (step_read c.args.line.now)) ((c.in-Err.ensures.fault c.in-Err.fault).1 refl) ∙ ap Err (sym c.from.ensures),
)

pub pass-requires-clause-range : goal.pass-requires-clause-range
pass-requires-clause-range c = in_range c.in-Ok.step ((c.in-Ok.ensures.step c.in-Ok.step).1 refl).in_range

pub returns-in-Ok-pass-clause-answers : goal.returns-in-Ok-pass-clause-answers
returns-in-Ok-pass-clause-answers c = λ held stands. record {
  added = (passed held c.in-Ok.step).0;
  state = (passed held c.in-Ok.step).1;
  is = migrated_reply c.in-Ok.step c.args.line.now held ((c.in-Ok.ensures.step c.in-Ok.step).1 refl);
  text = (c.in-Ok-pass.ensures.passes held stands).0;
  stands = (c.in-Ok-pass.ensures.passes held stands).1;
}
