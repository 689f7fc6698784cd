use Rattle.std.proofs.Common.{◌≡◌, ◌++◌, subst, OnOk}
use Rattle.aio_migrate.specs.Migrators.{repeated_text}
use Rattle.aio_migrate.proofs.MigratorLemmas.{held_put}
use Rattle.aio_migrate.proofs.blocks.MigratorAnswerer.put_held.Goals as goal

pub returns-clause-held : goal.returns-clause-held
returns-clause-held c =
    held_put c.put_repeated.result c.args.text.now.items c.put_repeated.new.text.items c.args.self.now
    (subst (λ line. OnOk c.put_repeated.result (c.put_repeated.new.text.items ≡ c.args.text.now.items ++ repeated_text line c.args.self.now.times)) c.as_slice.ensures.value c.put_repeated.ensures.ok)
    c.if-self-eq0.false
