-- Why a thread stops before its task has ended.
use Rattle.std.specs.Prelude.{◌≡◌, ◌⊎◌, Bool, false, List, [], ◌∷◌, Result, Ok, Err, ⊤}
use Rattle.aio_base.specs.Devices.{Rose}
use Rattle.aio_park.specs.declared.to_end.WorkerFault.{WorkerFault}
use Rattle.aio_park.specs.declared.to_end.WorkerFault.TheVariants as stop

-- A thread stops for a fault of what is not sure, between two counts of which the second is the greater or stands at its type's end. Want of memory needs
-- no cause.
abbrev pub StopsFor : (sure_of_wait sure_notifier : Bool) → WorkerFault → Type 0
StopsFor sure_of_wait sure_notifier (stop.Wait fault) = (sure_of_wait ≡ false) × Rose fault.before fault.after
StopsFor sure_of_wait sure_notifier (stop.Notify fault) = (sure_notifier ≡ false) × Rose fault.before fault.after
StopsFor sure_of_wait sure_notifier stop.OutOfMemory = ⊤

-- the fault of the first of several threads that has one, or want of memory
abbrev pub IsFirstFault : {X : Type 0} → List (Result X WorkerFault) → WorkerFault → Type 0
IsFirstFault [] fault = fault ≡ stop.OutOfMemory
IsFirstFault (Ok end ∷ more) fault = IsFirstFault more fault
IsFirstFault (Err first ∷ more) fault = (fault ≡ first) ⊎ (fault ≡ stop.OutOfMemory)
