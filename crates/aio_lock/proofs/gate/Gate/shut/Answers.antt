use Rattle.std.proofs.Common.{rules}
use Rattle.aio_lock.proofs.Allowed.{begins, splits}
use Rattle.aio_lock.proofs.gate.Gate.shut.Goals as goal

pub vacant-requires : goal.vacant-requires
vacant-requires g c = begins _ _

pub split_seat-second-requires : goal.split_seat-second-requires
split_seat-second-requires g c = (search rules, search rules, splits _ _ _ _ (search rules))
