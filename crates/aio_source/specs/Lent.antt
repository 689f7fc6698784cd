-- What became of an arm that was lent to a call of a source: it was left alone, or armed once.
use Rattle.std.specs.Prelude.{◌≡◌, ℕ, Bool, true, false, not, ◌&&◌, ◌||◌, if◌then◌else◌, List, Option, None, Some, Result, Ok, Err, IsOk, IsErr}
use Rattle.aio_base.specs.declared.names.Dir.{Dir}
use Rattle.aio_base.specs.declared.names.Key.{Key}
use Rattle.aio_base.specs.declared.names.Interest.{Interest}
use Rattle.aio_base.specs.declared.outcomes.Failed.{Failed}
use Rattle.aio_base.specs.declared.outcomes.ArmFault.{ArmFault}
use Rattle.aio_base.specs.Devices.{Interests, ArmCall, ArmOf, Arms, TellsFaults}
use Rattle.aio_base.specs.declared.names.TheConstants.Interest.{NONE}
use Rattle.aio_base.specs.World.{has_dir, interest_where, with_dir}
use Rattle.aio_source.specs.Values.{DirectionValues, SourceValue}
use Rattle.aio_source.specs.Rules.{Prepared, wanted, is_idle, direction_of}

-- what the arm answered, by the answer of the call to which it was lent; where it was not asked, that it is done
abbrev pub arm_answer : Result (Unit {0}) ArmFault → Result (Unit {0}) Failed
arm_answer (Ok done) = Ok done
arm_answer (Err fault) = Err (record {})

-- the answer that tells a failed arm, by the two counts of faults
abbrev pub fault_of : Key → ℕ → ℕ → Result (Unit {0}) Failed → Result (Unit {0}) ArmFault
fault_of key before after (Ok done) = Ok done
fault_of key before after (Err failed) = Err (record { key = key; before = before; after = after })

-- no call was made, and the lent arm is the very one that was lent; or exactly this call, with this answer
abbrev pub ArmsOnce : {S : Type 0} → (S → ArmCall → Result (Unit {0}) Failed → S → Type 0) → Bool → ArmCall → S → Result (Unit {0}) Failed → S → Type 0
ArmsOnce step false call old answer new = (new ≡ old) × IsOk answer
ArmsOnce step true call old answer new = step old call answer new

-- the same of what a lent arm tells of its interests
abbrev pub TellsArmed : Bool → ArmCall → Option Interests → Result (Unit {0}) Failed → Option Interests → Type 0
TellsArmed false call old answer new = new ≡ old
TellsArmed true call old answer new = Arms old call answer new

-- What a call to which an arm was lent did with it: at most one call, this one with this answer, by the arm's own relation. What the arm tells
-- of its interests follows that call; its rest and its being sure stay; and a failure has its cause in the arm.
pub record UsesArm {S : Type 0} (step : S → ArmCall → Result (Unit {0}) Failed → S → Type 0) (tells : S → Option Interests) (rest : S → List ℕ)
    (count : S → ℕ) (is_sure : S → Bool) (arms : Bool) (call : ArmCall) (answer : Result (Unit {0}) Failed) (old new : S) : Type 0 where
  pub once : ArmsOnce step arms call old answer new
  pub interests : TellsArmed arms call (tells old) answer (tells new)
  pub stays : rest new ≡ rest old
  pub faults : TellsFaults count is_sure old new (IsErr answer)

-- the arm of a source for the directions that have a waiter
abbrev pub arm_of : SourceValue → ArmCall
arm_of s = ArmOf s.key (wanted s.directions)

abbrev pub asked_for : Bool → Interest → Option Interest
asked_for arms on = if arms then Some on else None

-- the interest for which the poller is armed then, and none where it is left alone
abbrev pub asked_by : Prepared → Option Interest
asked_by p = asked_for p.arms (wanted p.source.directions)

-- the interest that a new waiter of a direction asks for, where nobody waited for it or the last arm failed
abbrev pub asked_with : SourceValue → Dir → Option Interest
asked_with s dir = asked_for (is_idle (direction_of s.directions dir) || s.broken) (with_dir (wanted s.directions) dir)

-- who is left once an event took the waiters of the directions that it names
abbrev pub left_of : Interest → DirectionValues → Interest
left_of on ds = interest_where (λ dir. not (has_dir on dir) && not (is_idle (direction_of ds dir)))

-- an arm that succeeds leaves the interest that was asked for, and one that fails leaves none
abbrev pub asked_after : Bool → Interest → Result (Unit {0}) Failed → Interest → Interest
asked_after false on answer asked = asked
asked_after true on (Ok done) asked = on
asked_after true on (Err failed) asked = NONE

-- an arm that fails breaks a source, and one that succeeds mends it (the project's own repair)
abbrev pub broken_after : Bool → Result (Unit {0}) Failed → Bool → Bool
broken_after false answer broken = broken
broken_after true (Ok done) broken = false
broken_after true (Err failed) broken = true

-- the source once the poller was armed, or was not, and answered so
abbrev pub settled : Bool → Result (Unit {0}) Failed → SourceValue → SourceValue
settled arms answer s = record s {
  asked = asked_after arms (wanted s.directions) answer s.asked;
  broken = broken_after arms answer s.broken;
}
