-- What work inside a source comes to.
use Rattle.std.specs.Prelude.{◌≡◌, ℕ, Bool, false, Option, None, Some, Result, Ok, Err}
use Rattle.aio_base.specs.declared.outcomes.ArmFault.{ArmFault}
use Rattle.aio_base.specs.declared.outcomes.Poll.{Poll}
use Rattle.aio_base.specs.declared.outcomes.Poll.TheVariants.{Ready, Pending}
use Rattle.aio_base.specs.Devices.{Rose}

-- the fault of an arm that work inside a source came to
abbrev pub arm_fault_of : {O : Type 0} → Poll (Result O ArmFault) → Option ArmFault
arm_fault_of (Ready (Err fault)) = Some fault
arm_fault_of (Ready (Ok output)) = None
arm_fault_of Pending = None

-- an arm of this key failed, and its count of faults rose, in a reactor that is not sure of its arms
pub record IsUnsureArm (all_sure : Bool) (key : ℕ) (fault : ArmFault) : Type 0 where
  pub key_is : fault.key.0 ≡ key
  pub unsure : all_sure ≡ false
  pub rose : Rose fault.before fault.after
