-- The command `relay`: how the program ends by it, and what that says of output and devices.
use Rattle.std.specs.Prelude.{◌≡◌, ℕ, Bool, List, Option, Result, Ok, Err, IfErr}
use Rattle.aio_pairs.specs.declared.outcomes.PairEnd.{PairEnd}
use Rattle.aio_serve.specs.Relays.{HasRelayCause, RelayWrites}
use Rattle.aio_serve.specs.declared.relaying.RelayStop.{RelayStop}
use Rattle.aio_serve.specs.declared.relaying.RelayStop.TheVariants as stop
use Rattle.aio_serve.specs.declared.server.ServeFault.{ServeFault}
use Rattle.aio_serve.specs.declared.server.ServeFault.TheVariants as fault
use Rattle.aio_commands.specs.declared.status.Why.{Why}
use Rattle.aio_commands.specs.declared.status.Why.TheVariants as why
use Rattle.aio_commands.specs.declared.status.Which6.TheVariants.{Port, Wait, Notify}

-- why the program ends where its server stopped for this fault
abbrev pub why_served : ServeFault → Why
why_served (fault.Port f) = why.DeviceFault Port f
why_served (fault.Wait f) = why.DeviceFault Wait f
why_served (fault.Notify f) = why.DeviceFault Notify f
why_served fault.OutOfMemory = why.OutOfMemory

-- why the program ends where a relay ended so
abbrev pub why_relayed : Result (Unit {0}) RelayStop → Why
why_relayed (Ok done) = why.Done
why_relayed (Err (stop.Bind f)) = why.DeviceFault Port f
why_relayed (Err (stop.Served f)) = why_served f
why_relayed (Err (stop.Output f)) = why.WriteFault f
why_relayed (Err stop.OutOfMemory) = why.OutOfMemory

-- A relay ended so that the program ends for this cause: the output grew by what such an end wrote, and the end has its cause. The port's own number, the one
-- that was asked for and the ends that pairs may come to are given; and of port and output the counts of faults before and after, and whether wait and
-- notifier are sure.
pub record Relayed {S : Type 0} (contents : S → Option (List ℕ)) (own : Option ℕ) (asked : ℕ) (MayEnd : List PairEnd → Type 0) (port_before port_after : ℕ)
    (sure_of_wait sure_notifier : Bool) (out_before out_after : ℕ) (w : Why) (old new : S) : Type 0 where
  pub answer : Result (Unit {0}) RelayStop
  pub is_why : w ≡ why_relayed answer
  pub written : RelayWrites contents own asked MayEnd answer old new
  pub cause : IfErr answer (HasRelayCause port_before port_after sure_of_wait sure_notifier out_before out_after)
