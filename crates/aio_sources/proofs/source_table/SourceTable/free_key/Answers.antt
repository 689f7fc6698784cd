use Rattle.std.proofs.Common.{◌≤◌, length, refl, sym, ap, ◌∙◌, subst, arith}
use Rattle.aio_sources.specs.Sources.{IsLeastFree, entries_from, keys_of}
use Rattle.aio_sources.proofs.Keys.{first_is_free_of, full_entries, full_places, least_is_few}
use Rattle.aio_sources.proofs.source_table.SourceTable.free_key.Goals as goal

pub returns-in-Some-clause-room : goal.returns-in-Some-clause-room
returns-in-Some-clause-room g c full =
    let free = c.in-Some.ensures in
    let all = full_places c.self.inside.locks 4096 free.few (ap length c.self.view_is ∙ full) in omega (arith, all, free.least, free.bound)

pub returns-in-Some-clause-least : goal.returns-in-Some-clause-least
returns-in-Some-clause-least g c =
    let places = c.self.inside.locks in
    subst (λ entries. IsLeastFree (keys_of entries) c.in-Some.key.0) c.self.view_is
    (subst (λ n. IsLeastFree (keys_of (entries_from 0 places)) n) (sym c.in-Some.ensures.least) (first_is_free_of places))

pub returns-in-Some-clause-within : goal.returns-in-Some-clause-within
returns-in-Some-clause-within g c =
    let few = least_is_few c.self.inside.locks in
    subst (λ entries. c.in-Some.key.0 ≤ length entries) c.self.view_is (omega (arith, few, c.in-Some.ensures.least))

pub returns-in-None-clause-full : goal.returns-in-None-clause-full
returns-in-None-clause-full g c =
    let free = c.in-None.ensures in sym (ap length c.self.view_is) ∙ full_entries c.self.inside.locks 4096 free.few (free.full refl)
