use Rattle.std.proofs.Common.{ap, subst, ◌∙◌}
use Rattle.std.specs.List.{Contains}
use Rattle.aio_sources.specs.Sources.{entries_from, keys_of}
use Rattle.aio_sources.proofs.Keys.{cleared_entries, is_gone}
use Rattle.aio_sources.proofs.source_table.SourceTable.take_out.Goals as goal

pub returns-clause-entries : goal.returns-clause-entries
returns-clause-entries g c = rw (← c.self.view_is, c.clear.ensures) (cleared_entries c.self.inside.locks c.args.key.0)

pub returns-clause-gone : goal.returns-clause-gone
returns-clause-gone g c = λ among.
    let locks = c.self.inside.locks in
    is_gone (entries_from 0 locks) c.args.key.0
    (subst (λ es. Contains (keys_of es) c.args.key.0) (ap (entries_from 0) c.clear.ensures ∙ cleared_entries locks c.args.key.0) among)
