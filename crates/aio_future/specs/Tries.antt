-- Polls, reads and writes of an entered source: what they answer, and which calls of its connection they made for that, in which order.
use Rattle.std.specs.Prelude.{◌≡◌, ℕ, ◌<◌, ◌≤◌, Bool, List, length, Option, None, Some, IfSome, IsSome, Result, Ok, Err, take, ⊤}
use Rattle.aio_base.specs.Connections.{ConnMove, ReadOf, WriteOf, ReadTells, Telling, WriteTells, did_count}
use Rattle.aio_base.specs.Devices.{ArmCall, HasCause, Interests, Rose}
use Rattle.aio_base.specs.declared.connections.Did.{Did}
use Rattle.aio_base.specs.declared.connections.Did.TheVariants.{Bytes, Blocked}
use Rattle.aio_base.specs.declared.names.Dir.{Dir}
use Rattle.aio_base.specs.declared.names.Waker.{Waker}
use Rattle.aio_base.specs.declared.outcomes.ArmFault.{ArmFault}
use Rattle.aio_base.specs.declared.outcomes.CountFault.{CountFault}
use Rattle.aio_base.specs.declared.outcomes.Failed.{Failed}
use Rattle.aio_base.specs.declared.outcomes.Poll.{Poll}
use Rattle.aio_base.specs.declared.outcomes.Poll.TheVariants.{Ready, Pending}
use Rattle.aio_source.specs.Answers.{poll_answer, armed_in}
use Rattle.aio_source.specs.Lent.{UsesArm, arm_of, fault_of, settled, arm_answer}
use Rattle.aio_source.specs.Rules.{polling}
use Rattle.aio_source.specs.Values.{SourceValue}
use Rattle.aio_source.specs.declared.answers.Polled.{Polled}
use Rattle.aio_future.specs.Visits.{TriesCell}
use Rattle.aio_future.specs.declared.tried.Tried.{Tried}
use Rattle.aio_future.specs.declared.tried.TryFault.{TryFault}
use Rattle.aio_future.specs.declared.tried.TryFault.TheVariants as fault
use Rattle.aio_source.specs.declared.visit.Visited.{Visited}

-- ## Answers of a read or a write

-- how many bytes a call with this answer moved
abbrev pub bytes_over : Poll (Result ℕ TryFault) → ℕ
bytes_over Pending = 0
bytes_over (Ready (Err why)) = 0
bytes_over (Ready (Ok bytes)) = bytes

-- Of so many bytes that it was handed, a call that ended well moved one at least, and none beyond them.
abbrev pub MovesWithin : (handed : ℕ) → Poll (Result ℕ TryFault) → Type 0
MovesWithin handed Pending = ⊤
MovesWithin handed (Ready (Err why)) = ⊤
MovesWithin handed (Ready (Ok bytes)) = (0 < bytes) × (bytes ≤ handed)

-- what a fault tells of the connection's count of faults: what it was, and what it came to
abbrev pub counts_in : TryFault → CountFault
counts_in (fault.Arm why) = record { before = why.before; after = why.after }
counts_in (fault.Read why) = why
counts_in (fault.Write why) = why

-- those counts, of a call that failed
abbrev pub fault_counts : Poll (Result ℕ TryFault) → Option CountFault
fault_counts Pending = None
fault_counts (Ready (Err why)) = Some (counts_in why)
fault_counts (Ready (Ok bytes)) = None

-- which faults a read can tell, and which a write can: no one tells that of the other
abbrev pub IsReadFault : TryFault → Type 0
IsReadFault (fault.Arm why) = ⊤
IsReadFault (fault.Read why) = ⊤
IsReadFault (fault.Write why) = ⊥

abbrev pub IsWriteFault : TryFault → Type 0
IsWriteFault (fault.Arm why) = ⊤
IsWriteFault (fault.Read why) = ⊥
IsWriteFault (fault.Write why) = ⊤

-- what is said of the fault of a call that failed
abbrev pub IfFailed : Poll (Result ℕ TryFault) → (TryFault → Type 0) → Type 0
IfFailed Pending Holds = ⊤
IfFailed (Ready (Err why)) Holds = Holds why
IfFailed (Ready (Ok bytes)) Holds = ⊤

abbrev pub IsReadAnswer : Poll (Result ℕ TryFault) → Type 0
IsReadAnswer answer = IfFailed answer IsReadFault

abbrev pub IsWriteAnswer : Poll (Result ℕ TryFault) → Type 0
IsWriteAnswer answer = IfFailed answer IsWriteFault

-- A call between these counts of faults tells a fault only for a cause of its own, with two counts that lie between them; and it stays as sure as it was.
pub record FaultsWithin (before after : ℕ) (was_sure is_sure : Bool) (told : Option CountFault) : Type 0 where
  pub counts : IfSome told (λ two. (before ≤ two.before) × Rose two.before two.after × (two.after ≤ after))
  pub cause : HasCause before after was_sure (IsSome told)
  pub sure : is_sure ≡ was_sure

-- ## A poll

-- One poll of a direction with a waker, while so many rounds have begun: what it answers, the source that is left, and at most one arm of the connection.
pub record Polls {C : Type 0} (step : C → ArmCall → Result (Unit {0}) Failed → C → Type 0) (tells : C → Option Interests) (rest : C → List ℕ)
    (count : C → ℕ) (is_sure : C → Bool) (dir : Dir) (w : Waker) (ticker : ℕ) (old : SourceValue) (io_old : C) (polled : Polled) (new : SourceValue) (io_new : C) : Type 0 where
  pub answer : let p = polling old dir w ticker in
      polled ≡ record { answer = poll_answer p.ready (fault_of old.key (count io_old) (count io_new) (arm_answer (armed_in polled.answer))); replaced = p.replaced }
  pub after : let p = polling old dir w ticker in new ≡ settled p.arms (arm_answer (armed_in polled.answer)) p.source
  pub lent : let p = polling old dir w ticker in UsesArm step tells rest count is_sure p.arms (arm_of p.source) (arm_answer (armed_in polled.answer)) io_old io_new

-- ## A try

-- what an attempt gives by the connection's own answer: nothing where it was blocked, and where it failed this fault with the two counts
abbrev pub given_by : (CountFault → TryFault) → (before after : ℕ) → Result Did Failed → Option (Result ℕ TryFault)
given_by fails before after (Ok Blocked) = None
given_by fails before after (Ok (Bytes n)) = Some (Ok n)
given_by fails before after (Err failed) = Some (Err (fails (record { before = before; after = after })))

-- the same as the answer of a call, which is pending where the attempt gave nothing
abbrev pub answer_so_far : Option (Result ℕ TryFault) → Poll (Result ℕ TryFault)
answer_so_far None = Pending
answer_so_far (Some given) = Ready given

-- One try is one call of the connection, by its own relation. `call` is that call by its answer.
pub record TriesNow {C : Type 0} (conn : C → ConnMove → C → Type 0) (count : C → ℕ) (call : Result Did Failed → ConnMove) (fails : CountFault → TryFault)
    (io : C) (given : Option (Result ℕ TryFault)) (io_left : C) : Type 0 where
  pub did : Result Did Failed
  pub made : conn io (call did) io_left
  pub gives : given ≡ given_by fails (count io) (count io_left) did

-- a read with this room that left the buffer so, and a write of this piece, each by its answer
abbrev pub read_call : (room : ℕ) → (buf : List ℕ) → Result Did Failed → ConnMove
read_call room buf did = ReadOf room did (take (did_count did) buf)

abbrev pub write_call : List ℕ → Result Did Failed → ConnMove
write_call piece did = WriteOf piece did

-- A try to read into a buffer, which was left so; and a try to write a piece. What each tells is what the call of the connection tells.
pub record ReadsNow {C : Type 0} (conn : C → ConnMove → C → Type 0) (telling : C → Telling) (count : C → ℕ) (is_sure : C → Bool)
    (buf : List ℕ) (io : C) (given : Option (Result ℕ TryFault)) (buf_left : List ℕ) (io_left : C) : Type 0 where
  pub tries : TriesNow conn count (read_call (length buf) buf_left) fault.Read io given io_left
  pub room : length buf_left ≡ length buf
  pub most : bytes_over (answer_so_far given) ≤ length buf_left
  pub kind : IsReadAnswer (answer_so_far given)
  pub told : ReadTells (telling io) (telling io_left) (take (bytes_over (answer_so_far given)) buf_left) (given ≡ None) (given ≡ Some (Ok 0))
  pub faults : FaultsWithin (count io) (count io_left) (is_sure io) (is_sure io_left) (fault_counts (answer_so_far given))

pub record WritesNow {C : Type 0} (conn : C → ConnMove → C → Type 0) (telling : C → Telling) (count : C → ℕ) (is_sure : C → Bool)
    (piece : List ℕ) (io : C) (given : Option (Result ℕ TryFault)) (io_left : C) : Type 0 where
  pub tries : TriesNow conn count (write_call piece) fault.Write io given io_left
  pub most : MovesWithin (length piece) (answer_so_far given)
  pub kind : IsWriteAnswer (answer_so_far given)
  pub told : WriteTells (telling io) (telling io_left) (take (bytes_over (answer_so_far given)) piece) (given ≡ None)
  pub faults : FaultsWithin (count io) (count io_left) (is_sure io) (is_sure io_left) (fault_counts (answer_so_far given))

-- ## A whole call

-- what a try inside a source comes to, as the answer of a read or a write
abbrev pub try_answer : Poll (Result (Result ℕ TryFault) ArmFault) → Poll (Result ℕ TryFault)
try_answer Pending = Pending
try_answer (Ready (Err why)) = Ready (Err (fault.Arm why))
try_answer (Ready (Ok given)) = Ready given

abbrev pub tried_of : Visited (Result ℕ TryFault) → Tried
tried_of visited = record { answer = try_answer visited.answer; replaced = visited.replaced }

-- A try and, where it was blocked, a poll of the direction; both once more where that was ready. Each try is such a call of the connection.
pub record Tries {C : Type 0} (conn : C → ConnMove → C → Type 0) (step : C → ArmCall → Result (Unit {0}) Failed → C → Type 0) (tells : C → Option Interests)
    (rest : C → List ℕ) (count : C → ℕ) (is_sure : C → Bool) (call : Result Did Failed → ConnMove) (fails : CountFault → TryFault)
    (dir : Dir) (w : Waker) (ticker : ℕ) (old : SourceValue) (io_old : C) (result : Tried) (new : SourceValue) (io_new : C) : Type 0 where
  pub visited : Visited (Result ℕ TryFault)
  pub tries : TriesCell step tells rest count is_sure (λ (one : Unit {0}) io given (same : Unit {0}) io_left. TriesNow conn count call fails io given io_left)
      (record { dir = dir; waker = w }) tt (record { state = old; io = io_old }) ticker visited tt (record { state = new; io = io_new })
  pub result_is : result ≡ tried_of visited
