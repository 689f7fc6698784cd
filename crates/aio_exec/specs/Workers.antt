-- The workers of an executor: what they begin with, how they end, and why the executor stops.
use Rattle.std.specs.Prelude.{ℕ, Bool, List, Result, Ok, Err, ⊤}
use Rattle.aio_park.specs.Posts.{ThreadTerms}
use Rattle.aio_park.specs.Stopping.{StopsFor}
use Rattle.aio_park.specs.declared.to_end.WorkerFault.{WorkerFault}
use Rattle.aio_park.specs.declared.to_end.WorkerFault.TheVariants as stop
use Rattle.aio_exec.specs.declared.exec.ExecFault.{ExecFault}
use Rattle.aio_exec.specs.declared.exec.ExecFault.TheVariants as fault

-- ## Workers

-- A worker before it runs: its parker, under which devices it runs, and the places in its deque.
pub record WorkerValue : Type 0 where
  pub parker : ℕ
  pub terms : ThreadTerms
  pub places : List ℕ

-- how a worker ends: with its work, or with a fault of what is not sure
abbrev pub WorkerEnds : WorkerValue → Result (Unit {0}) WorkerFault → Type 0
WorkerEnds w (Ok done) = ⊤
WorkerEnds w (Err why) = StopsFor w.terms.sure_of_wait w.terms.is_sure why

-- ## Why an executor stops

-- A wait's or a notifier's fault comes only where that is not sure, with two counts of which the second is the greater or stands at its type's end. Want of memory
-- needs no cause.
abbrev pub HasExecCause : (sure_of_wait sure_notifier : Bool) → ExecFault → Type 0
HasExecCause sure_of_wait sure_notifier (fault.Wait f) = StopsFor sure_of_wait sure_notifier (stop.Wait f)
HasExecCause sure_of_wait sure_notifier (fault.Notify f) = StopsFor sure_of_wait sure_notifier (stop.Notify f)
HasExecCause sure_of_wait sure_notifier fault.OutOfMemory = StopsFor sure_of_wait sure_notifier stop.OutOfMemory

abbrev pub fault_of_worker : WorkerFault → ExecFault
fault_of_worker (stop.Wait f) = fault.Wait f
fault_of_worker (stop.Notify f) = fault.Notify f
fault_of_worker stop.OutOfMemory = fault.OutOfMemory
