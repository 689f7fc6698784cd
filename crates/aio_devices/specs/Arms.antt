-- An arm in memory whose calls fail by a script.
use Rattle.std.specs.Prelude.{◌≡◌, ℕ, Result, is_err}
use Rattle.aio_base.specs.declared.outcomes.Failed.{Failed}
use Rattle.aio_devices.specs.Scripts.{ScriptValue, after_call, is_next_failing}

-- its number, and its calls of all kinds
pub record ArmValue : Type 0 where
  pub number : ℕ
  pub script : ScriptValue

-- the relation of each call: it fails exactly where the script says so, and the number stays
pub record ArmsByScript (old : ArmValue) (answer : Result (Unit {0}) Failed) (new : ArmValue) : Type 0 where
  pub fails : is_err answer ≡ is_next_failing old.script
  pub after : new ≡ record old { script = after_call old.script }
