-- An end over a source of a shared reactor: what contracts see of it, and what its calls do.
use Rattle.std.specs.Prelude.{◌≡◌, ℕ, ◌-◌, ◌^◌, ◌<◌, ◌&&◌, ◌==◌, nat_lt, Bool, true, false, IsTrue, if◌then◌else◌, List, length, Option, None, Some, Result, Ok, Err}
use Rattle.std.specs.Prelude.{refl, IfSome}
use Rattle.std.proofs.Common.{arith}
use Rattle.std.proofs.lemmas.Bool.{ltb-true, false≢true}
use Rattle.std.proofs.lemmas.Bool.Decides.{nat_tests}
use Rattle.atomic_table.specs.Seated.{TableId}
use Rattle.aio_base.specs.Connections.{ConnMove, Telling, sure_read, telling_read}
use Rattle.aio_base.specs.Devices.{ArmCall, Interests, raised}
use Rattle.aio_base.specs.declared.outcomes.CountFault.{CountFault}
use Rattle.aio_base.specs.declared.outcomes.Failed.{Failed}
use Rattle.aio_base.specs.declared.outcomes.Poll.{Poll}
use Rattle.aio_base.specs.declared.outcomes.Poll.TheVariants.{Ready, Pending}
use Rattle.aio_future.specs.Tries.{counts_in, tried_of}
use Rattle.aio_future.specs.Visits.{TriesCell}
use Rattle.aio_future.specs.declared.visits.PollDir.{PollDir}
use Rattle.aio_source.specs.declared.visit.Visited.{Visited}
use Rattle.aio_future.specs.declared.tried.TryFault.{TryFault}
use Rattle.aio_future.specs.declared.tried.TryFault.TheVariants as fault
use Rattle.aio_pairs.specs.Calls.{EndCall, Enters, Reads, Writes, entered}
use Rattle.aio_pairs.specs.declared.outcomes.EndTried.{EndTried}
use Rattle.aio_source.specs.Values.{SourceValue}
use Rattle.aio_source.specs.declared.source.SourceCell.{SourceCell}

-- the words of its reactor, its key, the lock of its source, the rest of its connection, how many visits it made of the source and how often it handed that
-- out, and the greatest count of faults that it has told
pub record SourceEndValue : Type 0 where
  pub words : TableId
  pub key : ℕ
  pub lock : TableId
  pub rest : List ℕ
  pub visits : ℕ
  pub taken : ℕ
  pub told : ℕ

-- ## What it tells

-- bytes that a connection can have left: fewer than 2^64
abbrev pub if_bounded : Option (List ℕ) → Option (List ℕ)
if_bounded None = None
if_bounded (Some bytes) = if nat_lt (length bytes) (2 ^ 64) then Some bytes else None

where_short : (short : Bool) (bytes : List ℕ) → nat_lt (length bytes) (2 ^ 64) ≡ short
    → IfSome (if short then Some bytes else None) (λ left. length left < 2 ^ 64)
where_short true bytes test = ltb-true (length bytes) (2 ^ 64) test
where_short false bytes test = tt

pub is_bounded : (left : Option (List ℕ)) → IfSome (if_bounded left) (λ bytes. length bytes < 2 ^ 64)
is_bounded None = tt
is_bounded (Some bytes) = where_short (nat_lt (length bytes) (2 ^ 64)) bytes refl

-- what a connection of this rest tells
abbrev pub told_by : List ℕ → Telling
told_by rest = record {
  left = if_bounded (telling_read rest).left;
  ends = (telling_read rest).ends;
  sent = (telling_read rest).sent;
  prompt = (telling_read rest).prompt;
}

-- it is sure by this rest, and has told no fault
abbrev pub is_sure_end : List ℕ → (told : ℕ) → Bool
is_sure_end rest told = sure_read rest && (told == 0)

none_told : (sure : Bool) (told : ℕ) → IsTrue (sure && (told == 0)) → told < 2 ^ 64 - 1
none_told false told holds = absurd (false≢true holds)
none_told true told holds = grind (arith, nat_tests, holds)

pub sure_has_told_none : (rest : List ℕ) (told : ℕ) → IsTrue (is_sure_end rest told) → told < 2 ^ 64 - 1
sure_has_told_none rest told sure = none_told (sure_read rest) told sure

-- of all ends of the type none is told to be sure
pub not_all_are : (rest : List ℕ) (told : ℕ) → IsTrue false → IsTrue (is_sure_end rest told)
not_all_are rest told all = absurd (false≢true all)

-- some connection has this rest
abbrev pub IsRestOf : {C : Type 0} → (C → List ℕ) → List ℕ → Type 0
IsRestOf {C} rest_of rest = (conn : C) × (rest_of conn ≡ rest)

-- ## Its faults

-- The two counts of a fault, told from a count on that was told before. A connection's count does not fall, so it has the first form.
abbrev pub told_from : ℕ → CountFault → CountFault
told_from told f = if nat_lt f.before told then record { before = told; after = raised told } else f

-- the same of a try's fault, and of its answer
abbrev pub fault_from : ℕ → TryFault → TryFault
fault_from told (fault.Read f) = fault.Read (told_from told f)
fault_from told (fault.Write f) = fault.Write (told_from told f)
fault_from told (fault.Arm f) = let counts = told_from told (record { before = f.before; after = f.after }) in
    fault.Arm (record { key = f.key; before = counts.before; after = counts.after })

abbrev pub answer_from : ℕ → Poll (Result ℕ TryFault) → Poll (Result ℕ TryFault)
answer_from told (Ready (Ok n)) = Ready (Ok n)
answer_from told (Ready (Err f)) = Ready (Err (fault_from told f))
answer_from told Pending = Pending

-- the greatest count that was told by then
abbrev pub last_told : ℕ → Poll (Result ℕ TryFault) → ℕ
last_told told (Ready (Ok n)) = told
last_told told (Ready (Err f)) = (counts_in f).after
last_told told Pending = told

abbrev pub tried_from : ℕ → EndTried → EndTried
tried_from told tried = record tried { answer = answer_from told tried.answer }

abbrev pub call_from : ℕ → EndCall → EndCall
call_from told (Reads room w tried bytes) = Reads room w (tried_from told tried) bytes
call_from told (Writes piece w tried) = Writes piece w (tried_from told tried)

-- ## Its calls

-- What is attempted inside a source, as the answer of a call: the answer and the waker that was replaced are those of the try.
abbrev pub TriesCalls : {C T : Type 0} → (C → ArmCall → Result (Unit {0}) Failed → C → Type 0) → (C → Option Interests) → (C → List ℕ) → (C → ℕ) → (C → Bool)
    → (T → C → Option (Result ℕ TryFault) → T → C → Type 0) → PollDir → T → SourceCell C → ℕ → EndTried → T → SourceCell C → Type 0
TriesCalls arm_step interests rest_of count sure attempts poll attempt found ticker tried left put = (visited : Visited (Result ℕ TryFault))
    × (entered tried ≡ tried_of visited) × TriesCell arm_step interests rest_of count sure attempts poll attempt found ticker visited left put

-- what a call answered
abbrev pub answer_of : EndCall → Poll (Result ℕ TryFault)
answer_of (Reads room w tried bytes) = tried.answer
answer_of (Writes piece w tried) = tried.answer

-- A call entered the source once, whose connection had the rest that the end knew, tried it as an entered source is tried, and left it as the try did. The
-- end then knows the rest that was left, and the greatest count of faults that it has told.
pub record EntersShared {C : Type 0} (conn_step : C → ConnMove → C → Type 0) (arm_step : C → ArmCall → Result (Unit {0}) Failed → C → Type 0)
    (interests : C → Option Interests) (rest_of : C → List ℕ) (count : C → ℕ) (sure : C → Bool)
    (before : SourceEndValue) (call : EndCall) (after : SourceEndValue) : Type 0 where
  pub source : SourceValue
  pub conn : C
  pub made : EndCall
  pub source_after : SourceValue
  pub conn_after : C
  pub entered : rest_of conn ≡ before.rest
  pub key : source.key.0 ≡ before.key
  pub tries : Enters conn_step arm_step interests rest_of count sure source conn made source_after conn_after
  pub told : call ≡ call_from before.told made
  pub left : after ≡ record before { rest = rest_of conn_after; visits = raised before.visits; told = last_told before.told (answer_of call) }
