-- What becomes of told interests over two calls, one after the other.
use Rattle.std.proofs.Common.{◌∙◌, ap, if◌then◌else◌, Option, None, Some, Result, Ok, Err, is_ok}
use mathlib.Core.Path.{fun_ext}
use Rattle.aio_base.specs.declared.names.Key.{Key}
use Rattle.aio_base.specs.declared.names.Interest.{Interest}
use Rattle.aio_base.specs.declared.outcomes.Failed.{Failed}
use Rattle.aio_base.specs.Devices.{Interests, Becomes, Arms, ArmOf, with_interest}

-- what is told after one change and then another
pub Becomes-both : (old mid new : Option Interests) (first second : Interests → Interests)
    → Becomes old mid first → Becomes mid new second → Becomes old new (λ told. second (first told))
Becomes-both None None None first second once more = tt
Becomes-both None None (Some new) first second once more = absurd more
Becomes-both None (Some mid) new first second once more = absurd once
Becomes-both (Some old) None new first second once more = absurd once
Becomes-both (Some old) (Some mid) None first second once more = absurd more
Becomes-both (Some old) (Some mid) (Some new) first second once more =
    λ key. more key ∙ ap (λ (told : Interests). second told key) (fun_ext once)

-- what an arming makes of them, by its answer
pub Becomes-armed : (old new : Option Interests) (key : Key) (on : Interest) (answer : Result (Unit {0}) Failed)
    → Arms old (ArmOf key on) answer new
    → Becomes old new (λ told. if is_ok answer then with_interest key.0 on told else told)
Becomes-armed old new key on (Ok done) arms = arms
Becomes-armed old new key on (Err failed) arms = arms
