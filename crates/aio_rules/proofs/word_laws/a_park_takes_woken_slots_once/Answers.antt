use Rattle.aio_rules.proofs.WordCounts.{park_takes_once}
use Rattle.aio_rules.proofs.word_laws.a_park_takes_woken_slots_once.Goals as goal

pub returns : goal.returns
returns c = park_takes_once
