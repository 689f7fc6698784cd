use Rattle.std.proofs.Common.{subst}
use Rattle.aio_source.specs.KeyTables.{least_free}
use Rattle.aio_sources.specs.Sources.{IsLeastFree, keys_of}
use Rattle.aio_sources.proofs.Keys.{first_is_free_of, one_least, put_entry}
use Rattle.aio_sources.proofs.source_table.SourceTable.put.Goals as goal

pub put-requires-clause-free : goal.put-requires-clause-free
put-requires-clause-free g c =
    let places = c.self.inside.locks in
    one_least _ c.args.key.0 (least_free places) c.requires.free (subst (λ entries. IsLeastFree (keys_of entries) (least_free places)) c.self.view_is (first_is_free_of places))

pub returns : goal.returns
returns g c =
    let places = c.self.inside.locks in
    let free = one_least _ c.args.key.0 (least_free places) c.requires.free (subst (λ entries. IsLeastFree (keys_of entries) (least_free places)) c.self.view_is (first_is_free_of places)) in
    rw (← c.self.view_is, c.put.ensures) (put_entry places c.args.key.0 c.args.lock free)
