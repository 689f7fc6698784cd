use Rattle.std.proofs.Common.{take}
use Rattle.aio_modes.specs.Raw.{Owed, owed_events}
use Rattle.aio_modes.proofs.KeepingLemmas.{given_is_owed}
use Rattle.aio_modes.proofs.GivenKeys.{given_rise, each_is_owed, each_is_some, owed_is_named, taken_few}
use Rattle.aio_modes.proofs.laws.given_keys_rise.Goals as goal

pub returns-clause-rising : goal.returns-clause-rising
returns-clause-rising c = λ mode lists room. given_rise (Owed mode lists) 4096 room

pub returns-clause-few : goal.returns-clause-few
returns-clause-few c = λ mode lists room. taken_few room (owed_events (Owed mode lists) 4096)

pub returns-clause-owed : goal.returns-clause-owed
returns-clause-owed c = λ mode lists room. each_is_owed (Owed mode lists) (take room (owed_events (Owed mode lists) 4096)) (given_is_owed (Owed mode lists) 4096 room)

pub returns-clause-some : goal.returns-clause-some
returns-clause-some c = λ mode lists room. each_is_some (Owed mode lists) (take room (owed_events (Owed mode lists) 4096)) (given_is_owed (Owed mode lists) 4096 room)

pub returns-clause-all : goal.returns-clause-all
returns-clause-all c = λ mode lists room key less below some. owed_is_named (Owed mode lists) 4096 room key less below some
