-- Under which terms workers serve, and why a server stops.
use Rattle.std.proofs.Common.{◌≡◌, ℕ, Bool, true, List, [], ◌∷◌, sym, ◌∙◌}
use Rattle.std.specs.Prelude.{IsTrue}
use Rattle.std.specs.List.{AllByRecursion}
use Rattle.std.proofs.lemmas.Bool.{false≢true}
use Rattle.aio_park.specs.Posts.{OneStopsFor, RunsUnder}
use Rattle.aio_park.specs.Stopping.{StopsFor}
use Rattle.aio_park.proofs.Stops.{all_stop}
use Rattle.aio_serve.specs.Places.{AllServeUnder, Terms, WorkerValue, thread_terms, worker_terms}
use Rattle.aio_serve.specs.Servers.{HasServeCause, fault_of_worker}
use Rattle.aio_serve.specs.declared.server.ServeFault.{ServeFault}
use Rattle.aio_serve.specs.declared.server.ServeFault.TheVariants as fault
use Rattle.aio_park.specs.declared.to_end.WorkerFault.{WorkerFault}
use Rattle.aio_park.specs.declared.to_end.WorkerFault.TheVariants as stop

-- ## Terms

-- whoever serves by a twin of a notifier serves under the terms of the notifier itself
pub all_serve_lent : (own lent : Terms) (sure_of_wait : Bool) (workers : List WorkerValue) → own.bounds ≡ lent.bounds → own.idle ≡ lent.idle
    → (IsTrue lent.is_sure → IsTrue own.is_sure) → AllServeUnder own sure_of_wait workers → AllServeUnder lent sure_of_wait workers
all_serve_lent own lent sure_of_wait [] bounds idle twin all = tt
all_serve_lent own lent sure_of_wait (w ∷ workers) bounds idle twin all = (
  record {
    thread = record {
      bounds = all.0.thread.bounds ∙ bounds;
      notifier = λ sure. all.0.thread.notifier (twin sure);
      wait = all.0.thread.wait;
    };
    idle = all.0.idle ∙ idle;
  },
  all_serve_lent own lent sure_of_wait workers bounds idle twin all.1,
)

-- ## Causes

-- each thread runs under the lent devices
all_run : (t : Terms) (sure_of_wait : Bool) (workers : List WorkerValue) → AllServeUnder t sure_of_wait workers
    → AllByRecursion (λ (w : WorkerValue). RunsUnder (thread_terms t sure_of_wait) (worker_terms w)) workers
all_run t sure_of_wait [] all = tt
all_run t sure_of_wait (w ∷ workers) all = (all.0.thread, all_run t sure_of_wait workers all.1)

-- the fault of a worker has a cause in the lent devices
pub one_stops_for : (t : Terms) (sure_of_wait : Bool) (workers : List WorkerValue) (f : WorkerFault) → AllServeUnder t sure_of_wait workers
    → OneStopsFor worker_terms workers f → StopsFor sure_of_wait t.is_sure f
one_stops_for t sure_of_wait workers f all stops = all_stop worker_terms (thread_terms t sure_of_wait) workers f (all_run t sure_of_wait workers all) stops

pub worker_cause : (port_before port_after : ℕ) (sure_of_wait sure_notifier : Bool) (f : WorkerFault) → StopsFor sure_of_wait sure_notifier f
    → HasServeCause port_before port_after sure_of_wait sure_notifier (fault_of_worker f)
worker_cause port_before port_after sure_of_wait sure_notifier (stop.Wait f) stops = stops
worker_cause port_before port_after sure_of_wait sure_notifier (stop.Notify f) stops = stops
worker_cause port_before port_after sure_of_wait sure_notifier stop.OutOfMemory stops = tt

-- what has its cause where wait and notifier are sure has it anyway
pub any_cause : (port_before port_after : ℕ) (sure_of_wait sure_notifier : Bool) (f : ServeFault) → HasServeCause port_before port_after true true f
    → HasServeCause port_before port_after sure_of_wait sure_notifier f
any_cause port_before port_after sure_of_wait sure_notifier (fault.Port f) cause = cause
any_cause port_before port_after sure_of_wait sure_notifier (fault.Wait f) cause = absurd (false≢true (sym cause.0))
any_cause port_before port_after sure_of_wait sure_notifier (fault.Notify f) cause = absurd (false≢true (sym cause.0))
any_cause port_before port_after sure_of_wait sure_notifier fault.OutOfMemory cause = tt
