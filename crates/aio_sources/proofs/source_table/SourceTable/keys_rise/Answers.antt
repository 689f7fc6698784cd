use Rattle.aio_sources.proofs.Keys.{entries_rise}
use Rattle.aio_sources.proofs.source_table.SourceTable.keys_rise.Goals as goal

pub returns : goal.returns
returns g c = rw (← c.self.view_is) (entries_rise c.self.inside.locks)
