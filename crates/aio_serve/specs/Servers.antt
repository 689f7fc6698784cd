-- What a server answers, and why it refuses.
use Rattle.std.specs.Prelude.{ℕ, ◌≤◌, Bool}
use Rattle.aio_base.specs.Devices.{Rose}
use Rattle.aio_serve.specs.declared.server.ServeFault.{ServeFault}
use Rattle.aio_serve.specs.declared.server.ServeFault.TheVariants as fault
use Rattle.aio_park.specs.declared.to_end.WorkerFault.{WorkerFault}
use Rattle.aio_park.specs.declared.to_end.WorkerFault.TheVariants as stop
use Rattle.aio_park.specs.Stopping.{StopsFor}

-- A port's fault has two counts of its faults in this call. All others are those of a thread that stops, with its causes: a wait's or a notifier's comes only
-- where that is not sure, and want of memory needs none.
abbrev pub HasServeCause : (port_before port_after : ℕ) → (sure_of_wait sure_notifier : Bool) → ServeFault → Type 0
HasServeCause port_before port_after sure_of_wait sure_notifier (fault.Port f) = (port_before ≤ f.before) × Rose f.before f.after × (f.after ≤ port_after)
HasServeCause port_before port_after sure_of_wait sure_notifier (fault.Wait f) = StopsFor sure_of_wait sure_notifier (stop.Wait f)
HasServeCause port_before port_after sure_of_wait sure_notifier (fault.Notify f) = StopsFor sure_of_wait sure_notifier (stop.Notify f)
HasServeCause port_before port_after sure_of_wait sure_notifier fault.OutOfMemory = StopsFor sure_of_wait sure_notifier stop.OutOfMemory

-- what a server tells of the fault for which a worker stopped
abbrev pub fault_of_worker : WorkerFault → ServeFault
fault_of_worker (stop.Wait f) = fault.Wait f
fault_of_worker (stop.Notify f) = fault.Notify f
fault_of_worker stop.OutOfMemory = fault.OutOfMemory
