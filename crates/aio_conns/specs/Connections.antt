-- Connections in memory, and their port.
use Rattle.std.specs.Prelude.{◌≡◌, ℕ, ◌^◌, ◌<◌, ◌==◌, ◌&&◌, not, Bool, true, false, IsTrue, if◌then◌else◌, nat_lt, List, length, Option, None, Some, Result, Ok, OnOk, OnErr, is_err, IfSome, refl}
use Rattle.std.proofs.lemmas.Bool.{ltb-true}
use Rattle.std.specs.List.{list_any}
use Rattle.aio_base.specs.Connections.{ConnMove, ReadOf, WriteOf, Telling}
use Rattle.aio_base.specs.Devices.{ArmCall}
use Rattle.aio_base.specs.declared.connections.Did.{Did}
use Rattle.aio_base.specs.declared.names.Interest.{Interest}
use Rattle.aio_base.specs.declared.outcomes.Failed.{Failed}
use Rattle.aio_devices.specs.Scripts.{ScriptValue, after_call, is_next_failing, new_script}
use Rattle.aio_script.specs.Interests.{none_armed, entries_after}
use Rattle.aio_conns.specs.declared.pieces.Piece.{Piece}
use Rattle.aio_conns.specs.Given.{GivingValue, Reads, NeverBlocks, bytes_left, is_block, turns_of}
use Rattle.aio_conns.specs.Sent.{SendingValue, Writes, new_sending, told_sent}

-- ## A connection of which no call fails

-- what it gives and what it takes; whether it is prompt; and the interest of each key, in the order of the keys
pub record ConnValue : Type 0 where
  pub giving : GivingValue
  pub sending : SendingValue
  pub prompt : Bool
  pub armed : List Interest

-- it is prompt where no piece is that a read would block, it ends after them, and what it takes has no bound
abbrev pub is_prompt : List Piece → Bool → ℕ → Bool
is_prompt pieces ends room = not (list_any is_block pieces) && (ends && (room == 4294967295))

-- a connection that was just made
abbrev pub new_conn : List Piece → Bool → ℕ → ℕ → ConnValue
new_conn pieces ends at_once room = record {
  giving = record { turns = turns_of pieces; ends = ends };
  sending = new_sending at_once room;
  prompt = is_prompt pieces ends room;
  armed = none_armed;
}

-- what stands of every connection: it has fewer than 2^64 bytes left, and a prompt one never blocks
pub record IsConn (c : ConnValue) : Type 0 where
  pub bounded : length (bytes_left c.giving.turns) < 2 ^ 64
  pub reads : IsTrue c.prompt → NeverBlocks c.giving
  pub writes : IsTrue c.prompt → c.sending.room ≡ None

-- fewer than 2^64 bytes, which are told
abbrev pub told_left : List ℕ → Option (List ℕ)
told_left bytes = if nat_lt (length bytes) (2 ^ 64) then Some bytes else None

bounded_where : (short : Bool) (bytes : List ℕ) → nat_lt (length bytes) (2 ^ 64) ≡ short
    → IfSome (if short then Some bytes else None) (λ left. length left < 2 ^ 64)
bounded_where true bytes test = ltb-true (length bytes) (2 ^ 64) test
bounded_where false bytes test = tt

pub told_left_is_bounded : (bytes : List ℕ) → IfSome (told_left bytes) (λ left. length left < 2 ^ 64)
told_left_is_bounded bytes = bounded_where (nat_lt (length bytes) (2 ^ 64)) bytes refl

abbrev pub telling_of : ConnValue → Telling
telling_of c = record { left = told_left (bytes_left c.giving.turns); ends = c.giving.ends; sent = told_sent c.sending; prompt = c.prompt }

-- the relation of a read and of a write: none fails
abbrev pub ConnMoves : ConnValue → ConnMove → ConnValue → Type 0
ConnMoves old (ReadOf room answer bytes) new =
    (did : Did) × (answer ≡ Ok did) × Reads old.giving room did bytes new.giving × (new ≡ record old { giving = new.giving })
ConnMoves old (WriteOf piece answer) new =
    (did : Did) × (answer ≡ Ok did) × Writes old.sending piece did new.sending × (new ≡ record old { sending = new.sending })

-- the relation of a call that changes one key's interest: none fails
pub record ConnArms (old : ConnValue) (call : ArmCall) (answer : Result (Unit {0}) Failed) (new : ConnValue) : Type 0 where
  pub done : answer ≡ Ok tt
  pub after : new ≡ record old { armed = entries_after call old.armed }

-- ## A connection whose calls fail by a script

pub record ScriptedConn : Type 0 where
  pub conn : ConnValue
  pub script : ScriptValue

abbrev pub new_scripted : List Piece → Bool → ℕ → ℕ → List ℕ → ScriptedConn
new_scripted pieces ends at_once room fails = record { conn = new_conn pieces ends at_once room; script = new_script fails }

-- Calls of all kinds are counted. One fails exactly where the script says so, and then nothing else changes; one that does not fail does what it would
-- without a script.
pub record FailsByScript {T : Type 0} (old : ScriptedConn) (answer : Result T Failed) (does : ConnValue → ConnValue → Type 0) (new : ScriptedConn) : Type 0 where
  pub fails : is_err answer ≡ is_next_failing old.script
  pub counts : new.script ≡ after_call old.script
  pub done : OnOk answer (does old.conn new.conn)
  pub failed : OnErr answer (new.conn ≡ old.conn)

abbrev pub ScriptedMoves : ScriptedConn → ConnMove → ScriptedConn → Type 0
ScriptedMoves old (ReadOf room answer bytes) new = FailsByScript old answer (λ before after. ConnMoves before (ReadOf room answer bytes) after) new
ScriptedMoves old (WriteOf piece answer) new = FailsByScript old answer (λ before after. ConnMoves before (WriteOf piece answer) after) new

abbrev pub ScriptedArms : ScriptedConn → ArmCall → Result (Unit {0}) Failed → ScriptedConn → Type 0
ScriptedArms old call answer new = FailsByScript old answer (λ before after. ConnArms before call answer after) new

-- ## A port

-- the connections that it is still to hand out, and how many faults it had
pub record PortValue : Type 0 where
  pub waiting : List ScriptedConn
  pub faults : ℕ
