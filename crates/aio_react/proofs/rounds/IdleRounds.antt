-- Whether a round runs, by what it tells of being idle, and what is in hand then.
use Rattle.std.proofs.Common.{◌≡◌, Bool, true, false, not, [], Option, None, Some, refl, sym, ◌∙◌}
use Rattle.std.proofs.lemmas.Bool.{true≢false}
use Rattle.aio_base.specs.Devices.{Interests}
use Rattle.aio_base.specs.Machine.{hand_of}
use Rattle.aio_base.specs.World.{RoundState, World}
use Rattle.aio_react.specs.Cores.{CoreValue}
use Rattle.aio_react.specs.Standing.{RoundStands, Stands}
use Rattle.aio_source.specs.InHand.{RoundValue}

pub told_running : (idle running : Bool) → idle ≡ not running → idle ≡ false → running ≡ true
told_running idle true said is = refl
told_running idle false said is = absurd (true≢false (sym said ∙ is))

pub told_idle : (idle running : Bool) → idle ≡ not running → idle ≡ true → running ≡ false
told_idle idle true said is = absurd (true≢false (sym is ∙ said))
told_idle idle false said is = refl

hand_of_round : (r : RoundValue) (round : Option RoundState) → RoundStands r round → (r.running ≡ false → r.hand ≡ []) → r.hand ≡ hand_of round
hand_of_round r None stands idle = idle stands
hand_of_round r (Some s) stands idle = sym stands.hand_is

-- the events in hand are those of the world, where there are none on an idle round
pub hand_stands : (told : Option Interests) (core : CoreValue) (w : World) → Stands told core w → (core.round.running ≡ false → core.round.hand ≡ []) → core.round.hand ≡ hand_of w.round
hand_stands told core w stands idle = hand_of_round core.round w.round stands.round idle
