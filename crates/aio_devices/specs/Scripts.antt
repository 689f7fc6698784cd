-- Calls that are numbered from 1, some of which fail by a script.
use Rattle.std.specs.Prelude.{◌==◌, ℕ, Bool, List, length, if◌then◌else◌}
use Rattle.std.specs.List.{list_any}
use Rattle.aio_base.specs.Devices.{raised}

-- the numbers of the calls that fail, how many were made, and how many of these failed
pub record ScriptValue : Type 0 where
  pub fails : List ℕ
  pub calls : ℕ
  pub faults : ℕ

-- before the first call
abbrev pub new_script : List ℕ → ScriptValue
new_script fails = record { fails = fails; calls = 0; faults = 0 }

-- no call is to fail
abbrev pub fails_never : ScriptValue → Bool
fails_never script = length script.fails == 0

-- how many calls failed, of a script by which one may
abbrev pub fault_count : ScriptValue → ℕ
fault_count script = if fails_never script then 0 else script.faults

-- the next call is to fail; the number of a call stands still at its end
abbrev pub is_next_failing : ScriptValue → Bool
is_next_failing script = list_any (λ number. number == raised script.calls) script.fails

-- after one more call
abbrev pub after_call : ScriptValue → ScriptValue
after_call script = record script { calls = raised script.calls; faults = if is_next_failing script then raised script.faults else script.faults }
