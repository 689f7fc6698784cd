-- What an arming leaves of a connection over a stream.
use Rattle.std.specs.Prelude.{◌≡◌, Result, Ok, Err}
use Rattle.aio_base.specs.Devices.{ArmCall, AddOf, ArmOf, RemoveOf}
use Rattle.aio_base.specs.declared.names.TheConstants.Interest.{NONE}
use Rattle.aio_base.specs.declared.outcomes.Failed.{Failed}
use Rattle.aio_mio.specs.Names.{watched_after}
use Rattle.aio_mio.specs.Values.{ConnValue}

-- the relation of an arming: a connection takes the key that it is added or armed under; it takes as watched what an arm that succeeded named, and
-- nothing once it was removed
abbrev pub ArmsStream : ConnValue → ArmCall → Result (Unit {0}) Failed → ConnValue → Type 0
ArmsStream old (AddOf key) answer new = (new.key ≡ key) × (new.watched ≡ old.watched)
ArmsStream old (ArmOf key on) (Ok done) new = (new.key ≡ key) × (new.watched ≡ watched_after old.watched on)
ArmsStream old (ArmOf key on) (Err failed) new = (new.key ≡ key) × (new.watched ≡ old.watched)
ArmsStream old (RemoveOf key) answer new = new.watched ≡ NONE
