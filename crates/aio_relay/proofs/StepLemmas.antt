-- Lemmas on one step from one end to the other.
use Rattle.std.proofs.Common.{◌≡◌, ℕ, ◌+◌, ◌≤◌, Bool, true, false, length, take, drop, refl, ap, ◌∙◌, arith, inl, inr, None, Result, Ok, Err, length-append, length-drop}
use Rattle.std.specs.Prelude.{◌⊎◌, zero, suc, nat_le, if◌then◌else◌, IfSome}
use Rattle.std.proofs.lemmas.Bool.{true≢false}
use Rattle.std.proofs.lemmas.List.{drop-drop, length-take-le}
use Rattle.aio_base.specs.declared.outcomes.CountFault.{CountFault}
use Rattle.aio_base.specs.declared.outcomes.Poll.{Poll}
use Rattle.aio_base.specs.declared.outcomes.Poll.TheVariants.{Ready, Pending}
use Rattle.aio_future.specs.Tries.{MovesWithin, IsReadAnswer, IsWriteAnswer, bytes_over}
use Rattle.aio_future.specs.declared.tried.TryFault.{TryFault}
use Rattle.aio_future.specs.declared.tried.TryFault.TheVariants as try
use Rattle.aio_pairs.specs.Backlogs.{SideState, shrunk, saturated}
use Rattle.aio_pairs.specs.Exchanges.{IsReason, after_read, after_write, notify_fault_in, stop_in, tries_again, try_fault_in, work_left}
use Rattle.aio_pairs.specs.Lines.{lines, longest_line, unfinished}
use Rattle.aio_pairs.specs.declared.outcomes.PairEnd.{PairEnd}
use Rattle.aio_pairs.specs.declared.outcomes.PairEnd.TheVariants as pair
use Rattle.aio_pairs.specs.declared.outcomes.Side.{Side}
use Rattle.aio_pairs.specs.declared.outcomes.Tally.{Tally}
use Rattle.aio_pairs.proofs.LineLemmas.{lines-left, lines-length}

-- ## What an answer means

abbrev on_more : Side → SideState → Bool → Result Bool PairEnd
on_more here side long = if long then Err (pair.TooLong here (saturated (side.forwarded + length (lines side.backlog) + longest_line))) else Ok true

abbrev answer_of : ℕ → Poll (Result ℕ TryFault)
answer_of n = Ready (Ok (suc n))

-- a side that does not go on after a read has ended, or the read was blocked
pub read-over : (here : Side) (side : SideState) (answer : Poll (Result ℕ TryFault)) → tries_again (after_read here side answer) ≡ false
    → (bytes_over answer ≡ 0) × ((answer ≡ Ready (Ok 0)) ⊎ (answer ≡ Pending))
read-over here side (Ready (Ok zero)) over = (refl, inl refl)
read-over here side (Ready (Ok (suc n))) over =
    (elim (nat_le longest_line (length (unfinished side.backlog))) as (λ b. tries_again (on_more here side b) ≡ false → (suc n ≡ 0) × ((answer_of n ≡ Ready (Ok 0)) ⊎ (answer_of n ≡ Pending))) [
      | true ↦ λ over. absurd (true≢false over)
      | false ↦ λ over. absurd (true≢false over)
    ]) over
read-over here side (Ready (Err (try.Read f))) over = absurd (true≢false over)
read-over here side (Ready (Err (try.Write f))) over = absurd (true≢false over)
read-over here side (Ready (Err (try.Arm f))) over = absurd (true≢false over)
read-over here side Pending over = (refl, inr refl)

pub write-over : (answer : Poll (Result ℕ TryFault)) → tries_again (after_write answer) ≡ false → (bytes_over answer ≡ 0) × (answer ≡ Pending)
write-over (Ready (Ok n)) over = absurd (true≢false over)
write-over (Ready (Err (try.Read f))) over = absurd (true≢false over)
write-over (Ready (Err (try.Write f))) over = absurd (true≢false over)
write-over (Ready (Err (try.Arm f))) over = absurd (true≢false over)
write-over Pending over = (refl, refl)

-- the fault that ends a pair is the answer's
pub read-failure : (here : Side) (side : SideState) (answer : Poll (Result ℕ TryFault)) → IsReadAnswer answer
    → IfSome (try_fault_in (stop_in (after_read here side answer))) (λ f. (answer ≡ Ready (Err f)) × IsReadAnswer (Ready (Err f)))
read-failure here side (Ready (Ok zero)) kind = tt
read-failure here side (Ready (Ok (suc n))) kind =
    elim (nat_le longest_line (length (unfinished side.backlog))) as (λ b. IfSome (try_fault_in (stop_in (on_more here side b))) (λ f. (answer_of n ≡ Ready (Err f)) × IsReadAnswer (Ready (Err f)))) [
      | true ↦ tt
      | false ↦ tt
    ]
read-failure here side (Ready (Err (try.Read f))) kind = (refl, tt)
read-failure here side (Ready (Err (try.Write f))) kind = absurd kind
read-failure here side (Ready (Err (try.Arm f))) kind = (refl, tt)
read-failure here side Pending kind = tt

pub write-failure : (answer : Poll (Result ℕ TryFault)) → IsWriteAnswer answer → IfSome (try_fault_in (stop_in (after_write answer))) (λ f. (answer ≡ Ready (Err f)) × IsWriteAnswer (Ready (Err f)))
write-failure (Ready (Ok n)) kind = tt
write-failure (Ready (Err (try.Read f))) kind = absurd kind
write-failure (Ready (Err (try.Write f))) kind = (refl, tt)
write-failure (Ready (Err (try.Arm f))) kind = (refl, tt)
write-failure Pending kind = tt

-- no answer of a connection tells a fault of the host's notifier
pub read-notifies-none : (here : Side) (side : SideState) (answer : Poll (Result ℕ TryFault)) → notify_fault_in (stop_in (after_read here side answer)) ≡ None
read-notifies-none here side (Ready (Ok zero)) = refl
read-notifies-none here side (Ready (Ok (suc n))) =
    elim (nat_le longest_line (length (unfinished side.backlog))) as (λ b. notify_fault_in (stop_in (on_more here side b)) ≡ None) [
      | true ↦ refl
      | false ↦ refl
    ]
read-notifies-none here side (Ready (Err (try.Read f))) = refl
read-notifies-none here side (Ready (Err (try.Write f))) = refl
read-notifies-none here side (Ready (Err (try.Arm f))) = refl
read-notifies-none here side Pending = refl

pub write-notifies-none : (answer : Poll (Result ℕ TryFault)) → notify_fault_in (stop_in (after_write answer)) ≡ None
write-notifies-none (Ready (Ok n)) = refl
write-notifies-none (Ready (Err (try.Read f))) = refl
write-notifies-none (Ready (Err (try.Write f))) = refl
write-notifies-none (Ready (Err (try.Arm f))) = refl
write-notifies-none Pending = refl

-- ## Reasons

-- what is a reason stays one where what it says is said by more
pub reason-on : (long new_long : Side → ℕ → Type 0) (failed new_failed notified new_notified : CountFault → Type 0) (end : PairEnd)
    → ((side : Side) (at : ℕ) → long side at → new_long side at) → ((f : CountFault) → failed f → new_failed f) → ((f : CountFault) → notified f → new_notified f)
    → IsReason long failed notified end → IsReason new_long new_failed new_notified end
reason-on long new_long failed new_failed notified new_notified (pair.TooLong side at) on_long on_failed on_notified is = on_long side at is
reason-on long new_long failed new_failed notified new_notified (pair.ReadFault f) on_long on_failed on_notified is = on_failed f is
reason-on long new_long failed new_failed notified new_notified (pair.WriteFault f) on_long on_failed on_notified is = on_failed f is
reason-on long new_long failed new_failed notified new_notified (pair.ArmFault f) on_long on_failed on_notified is = on_failed (record { before = f.before; after = f.after }) is
reason-on long new_long failed new_failed notified new_notified (pair.NotifyFault f) on_long on_failed on_notified is = on_notified f is
reason-on long new_long failed new_failed notified new_notified (pair.Ended to_a to_b) on_long on_failed on_notified is = is
reason-on long new_long failed new_failed notified new_notified (pair.Idle last now) on_long on_failed on_notified is = is
reason-on long new_long failed new_failed notified new_notified pair.OutOfMemory on_long on_failed on_notified is = is

-- ## What is left to do

pub write-work : (side : SideState) (tally : Tally) (wrote : Bool) (n : ℕ) → n ≤ length (lines side.backlog)
    → work_left (shrunk side n) (record { read = tally.read; wrote = wrote }) + n ≡ work_left side tally
write-work side tally wrote n within = omega (arith, within, lines-length side.backlog, length-drop n side.backlog)

pub tries-within : (room : ℕ) (answer : Poll (Result ℕ TryFault)) → MovesWithin room answer → bytes_over answer ≤ room
tries-within room (Ready (Ok n)) is = is.1
tries-within room (Ready (Err f)) is = omega arith
tries-within room Pending is = omega arith

-- what stands behind the lines stays there when some of them are written
pub shrunk-rest : (side : SideState) (n : ℕ) → n ≤ length (lines side.backlog) → unfinished (drop n side.backlog) ≡ unfinished side.backlog
shrunk-rest side n within =
    let all = lines-left side.backlog n within in
    let size : n + length (lines (drop n side.backlog)) ≡ length (lines side.backlog) =
    omega (arith, ap length all, length-append (take n side.backlog) (lines (drop n side.backlog)), length-take-le n side.backlog (omega (arith, within, lines-length side.backlog))) in
    drop-drop (length (lines (drop n side.backlog))) n side.backlog ∙ ap (λ k. drop k side.backlog) size
