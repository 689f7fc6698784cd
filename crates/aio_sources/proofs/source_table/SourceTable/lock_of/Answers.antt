use Rattle.aio_sources.proofs.Keys.{some_entry, none_entry}
use Rattle.aio_sources.proofs.source_table.SourceTable.lock_of.Goals as goal

pub returns-clause-some : goal.returns-clause-some
returns-clause-some g c = rw (← c.self.view_is) (some_entry c.self.inside.locks c.args.key.0 _ c.get.ensures.value)

pub returns-clause-none : goal.returns-clause-none
returns-clause-none g c = rw (← c.self.view_is) (none_entry c.self.inside.locks c.args.key.0 _ c.get.ensures.value)
