-- What passed between the two ends of a pair in one poll.
use Rattle.std.specs.Prelude.{◌≡◌, ◌⊎◌, ℕ, ◌+◌, ◌*◌, ◌-◌, ◌<◌, ◌≤◌, Bool, true, false, nat_lt, nat_le, if◌then◌else◌, zero, suc, List, [], ◌∷◌, ◌++◌, length, take, Option, None, Some, IfSome, Result, Ok, Err, ⊤}
use Rattle.aio_base.specs.Connections.{Telling, Takes, Joins, IsAtItsEnd}
use Rattle.aio_base.specs.declared.names.Dir.{Dir}
use Rattle.aio_base.specs.declared.names.Dir.TheVariants.{Read, Write, Priority}
use Rattle.aio_base.specs.declared.outcomes.CountFault.{CountFault}
use Rattle.aio_base.specs.declared.outcomes.Poll.{Poll}
use Rattle.aio_base.specs.declared.outcomes.Poll.TheVariants.{Ready, Pending}
use Rattle.aio_future.specs.Tries.{bytes_over, IsReadAnswer, IsWriteAnswer}
use Rattle.aio_future.specs.declared.tried.TryFault.{TryFault}
use Rattle.aio_future.specs.declared.tried.TryFault.TheVariants as fault
use Rattle.aio_pairs.specs.Backlogs.{SideState, saturated}
use Rattle.aio_pairs.specs.Calls.{EndCall, Reads, Writes, RoseIn, tried_in}
use Rattle.aio_pairs.specs.Fits.{of_side}
use Rattle.aio_pairs.specs.Lines.{IsPrefix, lines, unfinished, longest_line}
use Rattle.aio_pairs.specs.declared.outcomes.PairEnd.{PairEnd}
use Rattle.aio_pairs.specs.declared.outcomes.PairEnd.TheVariants as pair
use Rattle.aio_pairs.specs.declared.outcomes.Side.{Side}
use Rattle.aio_pairs.specs.declared.outcomes.Tally.{Tally}

-- ## The calls of one end

-- One state came out of the other by these calls, of which the latest stands first.
abbrev pub LeadTo : {S C : Type 0} → (S → C → S → Type 0) → List C → (old new : S) → Type 0
LeadTo step [] old new = new ≡ old
LeadTo {S} step (latest ∷ earlier) old new = (before : S) × LeadTo step earlier old before × step before latest new

-- the bytes that went over in this direction, all in order
abbrev pub went_over : Dir → List EndCall → List ℕ
went_over dir [] = []
went_over Read (Reads room w tried bytes ∷ earlier) = went_over Read earlier ++ bytes
went_over Write (Writes piece w tried ∷ earlier) = went_over Write earlier ++ take (bytes_over tried.answer) piece
went_over dir (call ∷ earlier) = went_over dir earlier

-- what the latest call in this direction answered
abbrev pub last_answer : Dir → List EndCall → Option (Poll (Result ℕ TryFault))
last_answer dir [] = None
last_answer Read (Reads room w tried bytes ∷ earlier) = Some tried.answer
last_answer Write (Writes piece w tried ∷ earlier) = Some tried.answer
last_answer dir (call ∷ earlier) = last_answer dir earlier

-- the latest call of all answered with this fault, and the fault is of such a call
abbrev pub EndsIn : TryFault → List EndCall → Type 0
EndsIn f [] = ⊥
EndsIn f (Reads room w tried bytes ∷ earlier) = (tried.answer ≡ Ready (Err f)) × IsReadAnswer (Ready (Err f))
EndsIn f (Writes piece w tried ∷ earlier) = (tried.answer ≡ Ready (Err f)) × IsWriteAnswer (Ready (Err f))

-- These are all the calls on both ends, in the order in which they were made: each is the latest of those on the one or on the other that are left.
abbrev pub AreAll : (calls a_calls b_calls : List EndCall) → Type 0
AreAll [] a_calls b_calls = (a_calls ≡ []) × (b_calls ≡ [])
AreAll (latest ∷ earlier) a_calls b_calls =
    ((rest : List EndCall) × (a_calls ≡ latest ∷ rest) × AreAll earlier rest b_calls) ⊎ ((rest : List EndCall) × (b_calls ≡ latest ∷ rest) × AreAll earlier a_calls rest)

-- No wake of a waker that one of these calls replaced failed; or the latest of all did, with this fault.
abbrev pub NoneFailed : List EndCall → Type 0
NoneFailed [] = ⊤
NoneFailed (latest ∷ earlier) = ((tried_in latest).woken ≡ Ok tt) × NoneFailed earlier

abbrev pub FailsAt : Option CountFault → List EndCall → Type 0
FailsAt None calls = NoneFailed calls
FailsAt (Some f) [] = ⊥
FailsAt (Some f) (latest ∷ earlier) = ((tried_in latest).woken ≡ Err f) × NoneFailed earlier

-- the latest call in this direction was to be tried again later, on an end that is not prompt
abbrev pub IsBlocked : Dir → List EndCall → (prompt : Bool) → Type 0
IsBlocked dir calls prompt = (last_answer dir calls ≡ Some Pending) × (prompt ≡ false)

-- What does not change of an end: whether it is sure and prompt, and whether it ends after what it has left. Its count of faults does not fall.
pub record IsSameEnd {E : Type 0} (told : E → Telling) (sure : E → Bool) (count : E → ℕ) (old new : E) : Type 0 where
  pub still_sure : sure new ≡ sure old
  pub still_prompt : (told new).prompt ≡ (told old).prompt
  pub still_ends : (told new).ends ≡ (told old).ends
  pub no_fewer : count old ≤ count new

-- ## One way

-- Of the old backlog and the bytes read behind it a prefix of the whole lines was written, and the new backlog is what is left of them.
pub record PairOk (old new read written : List ℕ) : Type 0 where
  pub prefix : IsPrefix written (lines (old ++ read))
  pub left : old ++ read ≡ written ++ new

-- Nothing can go over: no whole line is there to be written, and the side ended or its last read was blocked; or one is, and the last write was blocked.
pub record IsStuck (backlog : List ℕ) (ended : Bool) (read_blocked write_blocked : Type 0) : Type 0 where
  pub starved : lines backlog ≡ [] → (ended ≡ true) ⊎ read_blocked
  pub jammed : 0 < length (lines backlog) → write_blocked

-- What these calls on one end and on the other made of the side whose bytes go from the one to the other, where it is told and where not. `tally` is
-- what the code counts of it, and `more` whether it will try again.
pub record OneWay {E : Type 0} (told : E → Telling) (from_old to_old from to : E) (from_calls to_calls : List EndCall) (old new : SideState)
    (tally : Tally) (more : Bool) : Type 0 where
  pub ok : PairOk old.backlog new.backlog (went_over Read from_calls) (went_over Write to_calls)
  pub forwarded : new.forwarded ≡ saturated (old.forwarded + length (went_over Write to_calls))
  pub taken : Takes (told from_old).left (told from).left (went_over Read from_calls)
  pub sent : Joins (told to_old).sent (told to).sent (went_over Write to_calls)
  pub tally_read : tally.read ≡ length (went_over Read from_calls)
  pub tally_wrote : tally.wrote ≡ nat_lt 0 (length (went_over Write to_calls))
  pub stuck : more ≡ false → IsStuck new.backlog new.ended (IsBlocked Read from_calls (told from).prompt) (IsBlocked Write to_calls (told to).prompt)
  pub at_end : new.ended ≡ true → IsAtItsEnd (told from)

-- ## Both ways

-- the fault of a try, as an end of the pair and back
abbrev pub pair_end_of : TryFault → PairEnd
pair_end_of (fault.Read f) = pair.ReadFault f
pair_end_of (fault.Write f) = pair.WriteFault f
pair_end_of (fault.Arm f) = pair.ArmFault f

abbrev pub try_fault_of : PairEnd → Option TryFault
try_fault_of (pair.ReadFault f) = Some (fault.Read f)
try_fault_of (pair.WriteFault f) = Some (fault.Write f)
try_fault_of (pair.ArmFault f) = Some (fault.Arm f)
try_fault_of (pair.NotifyFault f) = None
try_fault_of (pair.TooLong side at) = None
try_fault_of (pair.Ended to_a to_b) = None
try_fault_of (pair.Idle last now) = None
try_fault_of pair.OutOfMemory = None

-- the fault of the host's notifier that an end of the pair tells
abbrev pub notify_fault_of : PairEnd → Option CountFault
notify_fault_of (pair.NotifyFault f) = Some f
notify_fault_of (pair.ReadFault f) = None
notify_fault_of (pair.WriteFault f) = None
notify_fault_of (pair.ArmFault f) = None
notify_fault_of (pair.TooLong side at) = None
notify_fault_of (pair.Ended to_a to_b) = None
notify_fault_of (pair.Idle last now) = None
notify_fault_of pair.OutOfMemory = None

-- the same of calls by which the pair ended, if they did
abbrev pub try_fault_in : Option PairEnd → Option TryFault
try_fault_in None = None
try_fault_in (Some end) = try_fault_of end

abbrev pub notify_fault_in : Option PairEnd → Option CountFault
notify_fault_in None = None
notify_fault_in (Some end) = notify_fault_of end

-- what the wake of the waker that a call replaced answered, by the fault that is told of it
abbrev pub woken_as : Option CountFault → Result (Unit {0}) CountFault
woken_as None = Ok tt
woken_as (Some f) = Err f

-- The calls on both ends so far: what they left of each end and, all in order, of the host; what they made of both sides; and the end of the pair by
-- the latest of them, if that was it. A fault of a connection is what that call answered; one of the notifier is what its wake answered, and no wake
-- failed but that one.
pub record Exchange {E H : Type 0} (step : E → EndCall → E → Type 0) (told : E → Telling) (sure : E → Bool) (count : E → ℕ)
    (on_host : H → EndCall → H → Type 0) (host_old host : H) (a_old b_old a b : E)
    (from_a_old from_b_old from_a from_b : SideState) (tally_a tally_b : Tally) (more_a more_b : Bool) (stop : Option PairEnd) : Type 0 where
  pub a_calls : List EndCall
  pub b_calls : List EndCall
  pub calls : List EndCall
  pub all : AreAll calls a_calls b_calls
  pub a_led : LeadTo step a_calls a_old a
  pub b_led : LeadTo step b_calls b_old b
  pub host_led : LeadTo on_host calls host_old host
  pub forth : OneWay told a_old b_old a b a_calls b_calls from_a_old from_a tally_a more_a
  pub back : OneWay told b_old a_old b a b_calls a_calls from_b_old from_b tally_b more_b
  pub a_same : IsSameEnd told sure count a_old a
  pub b_same : IsSameEnd told sure count b_old b
  pub failed : IfSome (try_fault_in stop) (λ f. EndsIn f calls)
  pub woken : FailsAt (notify_fault_in stop) calls

-- A step of the code from one end to the other: it goes on from whatever passed between them so far, and leaves what goes the other way as it is.
abbrev pub GoesOn : {E H : Type 0} → (step : E → EndCall → E → Type 0) → (told : E → Telling) → (sure : E → Bool) → (count : E → ℕ)
    → (on_host : H → EndCall → H → Type 0) → (host new_host : H) → (from to new_from new_to : E)
    → (side new_side : SideState) → (tally new_tally : Tally) → (more : Bool) → (stop : Option PairEnd) → Type 0
GoesOn {E} {H} step told sure count on_host host new_host from to new_from new_to side new_side tally new_tally more stop =
    (host_old : H) (from_old to_old : E) (side_old other_old other : SideState) (other_tally : Tally) (before other_more : Bool)
    → Exchange step told sure count on_host host_old host from_old to_old from to side_old other_old side other tally other_tally before other_more None
    → Exchange step told sure count on_host host_old new_host from_old to_old new_from new_to side_old other_old new_side other new_tally other_tally more other_more stop

-- the most bytes that one poll reads of a side
abbrev pub block : ℕ
block = 65536

-- The exchange is over: neither side can go on, or a block of one was read.
abbrev pub IsOver : (more_a more_b : Bool) → (read_a read_b : ℕ) → Type 0
IsOver more_a more_b read_a read_b = ((more_a ≡ false) × (more_b ≡ false)) ⊎ ((read_a ≡ block) ⊎ (read_b ≡ block))

-- some steps each way, from whatever passed so far
pub record Exchanged {E H : Type 0} (step : E → EndCall → E → Type 0) (told : E → Telling) (sure : E → Bool) (count : E → ℕ)
    (on_host : H → EndCall → H → Type 0) (host_old host : H) (a_old b_old a b : E)
    (from_a_old from_b_old from_a from_b : SideState) (tally_a tally_b : Tally) (over : Type 0) (stop : Option PairEnd) : Type 0 where
  pub more_a : Bool
  pub more_b : Bool
  pub exchange : Exchange step told sure count on_host host_old host a_old b_old a b from_a_old from_b_old from_a from_b tally_a tally_b more_a more_b stop
  pub is_over : over → IsOver more_a more_b tally_a.read tally_b.read

abbrev pub BothGoOn : {E H : Type 0} → (step : E → EndCall → E → Type 0) → (told : E → Telling) → (sure : E → Bool) → (count : E → ℕ)
    → (on_host : H → EndCall → H → Type 0) → (host new_host : H) → (a b new_a new_b : E)
    → (from_a from_b new_from_a new_from_b : SideState) → (tally_a tally_b new_tally_a new_tally_b : Tally) → (over : Type 0) → (stop : Option PairEnd) → Type 0
BothGoOn {E} {H} step told sure count on_host host new_host a b new_a new_b from_a from_b new_from_a new_from_b tally_a tally_b new_tally_a new_tally_b over stop =
    (host_old : H) (a_old b_old : E) (from_a_old from_b_old : SideState) (more_a more_b : Bool)
    → Exchange step told sure count on_host host_old host a_old b_old a b from_a_old from_b_old from_a from_b tally_a tally_b more_a more_b None
    → Exchanged step told sure count on_host host_old new_host a_old b_old new_a new_b from_a_old from_b_old new_from_a new_from_b new_tally_a new_tally_b over stop

-- whether a step that answers so will be tried again: one that ended the pair says nothing of it
abbrev pub tries_again : {T : Type 0} → Result Bool T → Bool
tries_again (Ok more) = more
tries_again (Err end) = true

-- what the rest of a poll has to do for a side at most: each byte that may still be read counts twice, since it is to be written too
abbrev pub work_left : SideState → Tally → ℕ
work_left side tally = length side.backlog + 2 * (block - tally.read)

-- ## Why an exchange ends a pair

-- the line behind the whole ones is too long, and its first bytes end at this place of the side
abbrev pub IsLongAt : SideState → ℕ → Type 0
IsLongAt side at = (longest_line ≤ length (unfinished side.backlog)) × (at ≡ saturated (side.forwarded + length (lines side.backlog) + longest_line))

abbrev pub IsLongHere : (here : Side) → SideState → (side : Side) → ℕ → Type 0
IsLongHere here state side at = (side ≡ here) × IsLongAt state at

abbrev pub IsLongThere : (from_a from_b : SideState) → (side : Side) → ℕ → Type 0
IsLongThere from_a from_b side at = IsLongAt (of_side side from_a from_b) at

-- one of two ends failed between these states of them
abbrev pub OneFailed : {E : Type 0} → (sure : E → Bool) → (count : E → ℕ) → (a_old a b_old b : E) → CountFault → Type 0
OneFailed sure count a_old a b_old b f = RoseIn (count a_old) (count a) (sure a) f ⊎ RoseIn (count b_old) (count b) (sure b) f

-- what passed between two ends is the reason for such an end of a pair: a line that is too long, or a fault
abbrev pub IsReason : (is_long : Side → ℕ → Type 0) → (failed notifier_failed : CountFault → Type 0) → PairEnd → Type 0
IsReason is_long failed notifier_failed (pair.TooLong side at) = is_long side at
IsReason is_long failed notifier_failed (pair.ReadFault f) = failed f
IsReason is_long failed notifier_failed (pair.WriteFault f) = failed f
IsReason is_long failed notifier_failed (pair.ArmFault f) = failed (record { before = f.before; after = f.after })
IsReason is_long failed notifier_failed (pair.NotifyFault f) = notifier_failed f
IsReason is_long failed notifier_failed (pair.Ended to_a to_b) = ⊥
IsReason is_long failed notifier_failed (pair.Idle last now) = ⊥
IsReason is_long failed notifier_failed pair.OutOfMemory = ⊥

-- what a call answered, for the pair: whether to try again, or its end
abbrev pub after_read : Side → SideState → Poll (Result ℕ TryFault) → Result Bool PairEnd
after_read here side (Ready (Ok zero)) = Ok false
after_read here side (Ready (Ok (suc n))) =
    if nat_le longest_line (length (unfinished side.backlog))
    then Err (pair.TooLong here (saturated (side.forwarded + length (lines side.backlog) + longest_line)))
    else Ok true
after_read here side (Ready (Err f)) = Err (pair_end_of f)
after_read here side Pending = Ok false

abbrev pub after_write : Poll (Result ℕ TryFault) → Result Bool PairEnd
after_write (Ready (Ok n)) = Ok true
after_write (Ready (Err f)) = Err (pair_end_of f)
after_write Pending = Ok false

-- the end of the pair that a step answered, if it did
abbrev pub stop_in : {T : Type 0} → Result T PairEnd → Option PairEnd
stop_in (Ok done) = None
stop_in (Err end) = Some end
