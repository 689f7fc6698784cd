-- What a connection tells stays where its rest does.
use Rattle.std.proofs.Common.{◌≡◌, ℕ, Bool, List}
use Rattle.aio_base.specs.Connections.{Telling, rest_of}
use Rattle.aio_base.proofs.ConnectionRests.{equal_rests_tell_alike}

pub told_stays : (sure_a sure_b : Bool) (a b : Telling) (rest_a rest_b : List ℕ)
    → rest_a ≡ rest_of sure_a a → rest_b ≡ rest_of sure_b b → rest_b ≡ rest_a → b ≡ a
told_stays = equal_rests_tell_alike
