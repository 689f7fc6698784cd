-- How a command ended, by cases of the command: what became of input, output and devices, and for which causes it may end.
use Rattle.std.specs.Prelude.{◌≡◌, ℕ, Bool, false, List, Option, Some, take}
use Rattle.aio_base.specs.ClockBounds.{ClockBounds}
use Rattle.aio_base.specs.Connections.{Telling}
use Rattle.aio_base.specs.Generated.{generated_steps}
use Rattle.aio_base.specs.Trace.{line_limit, trace_of}
use Rattle.aio_base.specs.declared.steps.Step.{Step}
use Rattle.aio_laws.specs.Between.{StandsAfter}
use Rattle.aio_jobs.specs.declared.kit.SixDevices.{SixDevices}
use Rattle.aio_line.specs.declared.words.RelayOrder.{RelayOrder}
use Rattle.aio_serve.specs.Relays.{MayEndSo, TakesAfterFirst, terms_of}
use Rattle.aio_bytes.specs.Unread.{LeavesAllBut}
use Rattle.aio_commands.specs.Commands.{WritesText, WritesTold, bytes_taken, is_device_fault, summary_text, trace_text}
use Rattle.aio_replay.specs.Driving.{most_bytes}
use Rattle.aio_replay.specs.Language.{Told, run_of}
use Rattle.aio_run.specs.Relaying.{Relayed}
use Rattle.aio_commands.specs.Stressing.{TouchesSpawner, stress_text}
use Rattle.aio_commands.specs.declared.commands.Command.{Command}
use Rattle.aio_commands.specs.declared.commands.Command.TheVariants as command
use Rattle.aio_commands.specs.declared.status.Why.{Why}

-- ## What contracts see

-- the functions by which contracts see an input, an output, six devices and the connections of their port
pub record Observers (S K D P W N C G T X : Type 0) : Type 0 where
  -- the bytes that an input has left, where it tells them
  pub remaining : S → Option (List ℕ)
  -- the bytes that an output holds, where it tells them, and its count of faults
  pub contents : K → Option (List ℕ)
  pub write_faults : K → ℕ
  -- the six that a lender has
  pub six : D → SixDevices P W N C G T
  -- a port's own number and the connections that wait there, where it tells them, and its count of faults
  pub own_port : P → Option ℕ
  pub waiting : P → Option (List X)
  pub port_faults : P → ℕ
  -- what a connection tells, and whether it is sure
  pub telling : X → Telling
  pub is_sure_conn : X → Bool
  -- whether a wait, or a notifier, is sure
  pub is_sure_wait : W → Bool
  pub is_sure_notify : N → Bool
  -- the moments that a clock may give
  pub bounds : C → ClockBounds

-- an input, an output and devices, as a call found them or left them
pub record Environment (S K D : Type 0) : Type 0 where
  pub input : S
  pub out : K
  pub devices : D

-- the input was not touched
abbrev pub KeepsInput : {S K D : Type 0} → (before after : Environment S K D) → Type 0
KeepsInput before after = after.input ≡ before.input

-- no device was touched
abbrev pub KeepsDevices : {S K D : Type 0} → (before after : Environment S K D) → Type 0
KeepsDevices before after = after.devices ≡ before.devices

-- it ended for no device
abbrev pub EndsForNoDevice : Why → Type 0
EndsForNoDevice why = is_device_fault why ≡ false

-- After any of these steps each waiter is covered, no storing of a waker is lost or woken twice and the last step moved storings as it may, and right
-- after a pass no timer is left that was due.
abbrev pub StandsThroughout : List Step → Type 0
StandsThroughout steps = (n : ℕ) → StandsAfter (take n steps)

-- ## What a command did

module _ {S K D P W N C G T X : Type 0} (see : Observers S K D P W N C G T X) where
  -- For every list of bytes that the input had left, where it tells them, this holds.
  abbrev pub OfInput : (List ℕ → Type 0) → Environment S K D → Type 0
  OfInput Holds before = (bytes : List ℕ) → see.remaining before.input ≡ Some bytes → Holds bytes

  -- A command answered the lines of these bytes, which come to this and may be so many: what was written of their text, that the end of the bytes is left,
  -- and how many were taken at most.
  pub record ReadsTrace {State : Type 0} (told : Told State) (limit : ℕ) (why : Why) (bytes : List ℕ) (before after : Environment S K D) : Type 0 where
    pub writes : WritesTold told why (see.remaining after.input) (see.contents before.out) (see.contents after.out)
    pub taken : LeavesAllBut (bytes_taken limit why bytes) (see.remaining after.input) bytes
    pub most : LeavesAllBut (most_bytes limit) (see.remaining after.input) bytes

  -- A text of the command's own was written, or a front part of it where the output failed or memory ran out; it ended for no other cause.
  abbrev pub WritesOwnText : List ℕ → Why → (before after : Environment S K D) → Type 0
  WritesOwnText text why before after = WritesText why (see.contents before.out) (see.contents after.out) text

  -- A relay wrote the port in use and an end for each pair, which its connections may come to, and no connection was taken before the first line was out;
  -- each other end of it has its cause, and says what was written by then.
  pub record Relays (asked : RelayOrder) (why : Why) (before after : Environment S K D) : Type 0 where
    pub relays : Relayed see.contents (see.own_port (see.six before.devices).port) asked.port
        (MayEndSo see.telling see.is_sure_conn
        (terms_of (see.bounds (see.six before.devices).clock) asked.idle (see.is_sure_notify (see.six before.devices).notify))
        (see.waiting (see.six before.devices).port) asked.pairs)
        (see.port_faults (see.six before.devices).port) (see.port_faults (see.six after.devices).port)
        (see.is_sure_wait (see.six before.devices).wait) (see.is_sure_notify (see.six before.devices).notify)
        (see.write_faults before.out) (see.write_faults after.out) why before.out after.out
    pub order : TakesAfterFirst (see.waiting (see.six before.devices).port) (see.waiting (see.six after.devices).port)
        (see.own_port (see.six before.devices).port) asked.port (see.contents before.out) (see.contents after.out)

  -- How each command ended. Where a part is not said to be kept, it may be another than before.
  abbrev pub Ran : Command → Why → (before after : Environment S K D) → Type 0
  Ran command.Replay why before after =
      OfInput (λ bytes. ReadsTrace (run_of (trace_of bytes)) line_limit why bytes before after × StandsThroughout (trace_of bytes).steps) before
      × KeepsDevices before after × EndsForNoDevice why
  Ran (command.Gen n seed) why before after =
      WritesOwnText (trace_text (generated_steps n seed)) why before after × KeepsInput before after × KeepsDevices before after
  Ran (command.Sum n seed) why before after =
      WritesOwnText (summary_text (generated_steps n seed)) why before after × KeepsInput before after × KeepsDevices before after
  Ran (command.Relay order) why before after = Relays order why before after × KeepsInput before after
  Ran (command.Stress calls seed) why before after =
      WritesOwnText (stress_text calls) why before after × KeepsInput before after × TouchesSpawner (see.six before.devices) (see.six after.devices)
