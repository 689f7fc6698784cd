use Rattle.aio_base.proofs.FreshnessLemmas.{is_fresh-remembered}
use Rattle.aio_laws.proofs.freshness.remembered_rounds_tell_freshness.Goals as goal

pub returns : goal.returns
returns c = is_fresh-remembered
