-- What became of a relay: what its output grew by, and why it stopped.
use Rattle.std.specs.Prelude.{◌≡◌, ◌⊎◌, ℕ, Bool, true, false, List, ◌++◌, length, Option, IfSome, Result, Ok, Err, ⊤}
use Rattle.std.specs.Io.KnownBytes.{Appends}
use Rattle.aio_base.specs.ClockBounds.{ClockBounds}
use Rattle.aio_base.specs.Connections.{IsInUse, Telling}
use Rattle.aio_base.specs.Devices.{Rose}
use Rattle.aio_base.specs.declared.outcomes.CountFault.{CountFault}
use Rattle.aio_bytes.specs.Sinks.{AppendsPart}
use Rattle.aio_bytes.specs.declared.traits.SinkRefusal.{SinkRefusal}
use Rattle.aio_bytes.specs.declared.traits.SinkRefusal.TheVariants as refused
use Rattle.aio_pairs.specs.declared.outcomes.PairEnd.{PairEnd}
use Rattle.aio_line.specs.Texts.{listening_line, relay_text}
use Rattle.aio_serve.specs.declared.relaying.RelayStop.{RelayStop}
use Rattle.aio_serve.specs.declared.relaying.RelayStop.TheVariants as stop
use Rattle.aio_serve.specs.Places.{EndsFit, Terms}
use Rattle.aio_serve.specs.Servers.{HasServeCause}

abbrev pub terms_of : ClockBounds → (idle : ℕ) → (sure : Bool) → Terms
terms_of bounds idle sure = record { bounds = bounds; idle = idle; is_sure = sure }

-- so many ends, which fit the connections two by two where a port tells these
abbrev pub MayEndSo : {C : Type 0} → (telling : C → Telling) → (sure : C → Bool) → Terms → Option (List C) → (pairs : ℕ) → List PairEnd → Type 0
MayEndSo telling sure t waiting pairs ends = (length ends ≡ pairs) × IfSome waiting (λ conns. EndsFit telling sure t conns ends)

-- The port in use is one that may be meant by the one that was asked for, and this holds of it.
abbrev pub AtPort : (own : Option ℕ) → (asked : ℕ) → (ℕ → Type 0) → Type 0
AtPort own asked Holds = (port : ℕ) × IsInUse own asked port × Holds port

-- The pairs came to ends that they may come to, and this holds of these.
abbrev pub OfEnds : (List PairEnd → Type 0) → (List PairEnd → Type 0) → Type 0
OfEnds MayEnd Holds = (ends : List PairEnd) × MayEnd ends × Holds ends

-- a front part of the first line, or of the whole text of pairs that came to ends that they may come to
abbrev pub AppendsFront : (List PairEnd → Type 0) → Option (List ℕ) → Option (List ℕ) → ℕ → Type 0
AppendsFront MayEnd old new port = AppendsPart old new (listening_line port) ⊎ OfEnds MayEnd (λ ends. AppendsPart old new (relay_text port ends))

-- What an output grew by over a relay that was asked for this port. Where the relay was done it is the whole text. Where the port was not bound the output
-- is as it was; where the server stopped it has the first line. Where the output failed, or memory ran out for the text, it has a front part of that.
module _ {S : Type 0} (contents : S → Option (List ℕ)) (own : Option ℕ) (asked : ℕ) (MayEnd : List PairEnd → Type 0) where
  abbrev pub RelayWrites : Result (Unit {0}) RelayStop → S → S → Type 0
  RelayWrites (Ok done) old new = AtPort own asked (λ port. OfEnds MayEnd (λ ends. Appends (contents old) (contents new) (relay_text port ends)))
  RelayWrites (Err (stop.Bind f)) old new = new ≡ old
  RelayWrites (Err (stop.Served f)) old new = AtPort own asked (λ port. Appends (contents old) (contents new) (listening_line port))
  RelayWrites (Err (stop.Output f)) old new = AtPort own asked (AppendsFront MayEnd (contents old) (contents new))
  RelayWrites (Err stop.OutOfMemory) old new = AtPort own asked (AppendsFront MayEnd (contents old) (contents new))

-- known bytes grew by these, and maybe by more behind them
abbrev pub AppendsMore : Option (List ℕ) → Option (List ℕ) → List ℕ → Type 0
AppendsMore old new bytes = (more : List ℕ) × Appends old new (bytes ++ more)

-- No connection is taken before the first line is out: a port has those that it had to hand out, where it tells them, or the output grew by that line first.
abbrev pub TakesAfterFirst : {C : Type 0} → (waiting_old waiting_new : Option (List C)) → (own : Option ℕ) → (asked : ℕ) → Option (List ℕ) → Option (List ℕ) → Type 0
TakesAfterFirst waiting_old waiting_new own asked old new =
    (waiting_new ≡ waiting_old) ⊎ AtPort own asked (λ port. AppendsMore old new (listening_line port))

-- Why a relay stopped, by the counts of faults that port and output had before and after it, and by whether wait and notifier are sure. A port that was not
-- bound failed in the one call of it, so its two counts are those of the whole relay. What its server stopped for has the server's cause.
abbrev pub HasRelayCause : (port_before port_after : ℕ) → (sure_of_wait sure_notifier : Bool) → (out_before out_after : ℕ) → RelayStop → Type 0
HasRelayCause port_before port_after sure_of_wait sure_notifier out_before out_after (stop.Bind f) =
    (f ≡ record { before = port_before; after = port_after }) × Rose f.before f.after
HasRelayCause port_before port_after sure_of_wait sure_notifier out_before out_after (stop.Served f) =
    HasServeCause port_before port_after sure_of_wait sure_notifier f
HasRelayCause port_before port_after sure_of_wait sure_notifier out_before out_after (stop.Output f) =
    (f ≡ record { before = out_before; after = out_after }) × Rose f.before f.after
HasRelayCause port_before port_after sure_of_wait sure_notifier out_before out_after stop.OutOfMemory = ⊤

-- whether the output failed
abbrev pub has_output_failed : Result (Unit {0}) RelayStop → Bool
has_output_failed (Err (stop.Output f)) = true
has_output_failed _ = false

-- why it stopped, by the refusal of the output, with its counts of faults before and after the relay
abbrev pub stop_written : SinkRefusal → CountFault → RelayStop
stop_written refused.Failed f = stop.Output f
stop_written refused.OutOfMemory f = stop.OutOfMemory
