-- The mark of a direction is a place of its past.
use Rattle.std.proofs.Common.{◌≡◌, ℕ, Bool, true, false, not, ◌&&◌, if◌then◌else◌, List, [], ◌∷◌, Option, Some, None, refl, ap, subst}
use Rattle.aio_base.specs.declared.names.Dir.{Dir}
use Rattle.aio_base.specs.declared.names.Waker.{Waker}
use Rattle.aio_base.specs.declared.outcomes.Poll.TheVariants.{Ready, Pending}
use Rattle.aio_base.specs.Machine.{is_waker}
use Rattle.aio_base.specs.World.{same_dir}
use Rattle.aio_base.proofs.DirectionLemmas.{same_dir-eq}
use Rattle.aio_history.specs.declared.steps.CellStep.{CellStep}
use Rattle.aio_history.specs.declared.steps.CellStep.TheVariants as step
use Rattle.aio_history.specs.Histories.{StoringPoll, IsPlace, storing_poll, stored_here, one_later, waiter_of}

further : (s : CellStep) (past : List CellStep) (dir : Dir) (kept : Option StoringPoll) (mark : StoringPoll)
    → ((m : StoringPoll) → kept ≡ Some m → IsPlace past dir m) → one_later s kept ≡ Some mark → IsPlace (s ∷ past) dir mark
further s past dir None mark place found = cc found
further s past dir (Some m) mark place found =
    let at = place m refl in
    let moved : StoringPoll = record m { since = s ∷ m.since } in
    let e : moved ≡ mark = cc found in
    subst (λ (k : StoringPoll). IsPlace (s ∷ past) dir k) {x = moved} e (at.0, ap (λ xs. s ∷ xs) at.1)

here : (waker : Waker) (ticker : ℕ) (past : List CellStep) (d dir : Dir) (mark : StoringPoll) → same_dir d dir ≡ true
    → Some (stored_here ticker past) ≡ Some mark → IsPlace (step.Poll d waker ticker Pending ∷ past) dir mark
here waker ticker past d dir mark same found =
    let e : stored_here ticker past ≡ mark = cc found in
    let d-is : d ≡ dir = same_dir-eq d dir same in
    subst (λ (k : StoringPoll). IsPlace (step.Poll d waker ticker Pending ∷ past) dir k) {x = stored_here ticker past} e
    (waker, ap (λ (x : Dir). step.Poll x waker ticker Pending ∷ past) d-is)

seen_step : (mine : Bool) (s : CellStep) (past : List CellStep) (dir : Dir) (mark : StoringPoll)
    → ((m : StoringPoll) → storing_poll past dir ≡ Some m → IsPlace past dir m)
    → (if mine then None else one_later s (storing_poll past dir)) ≡ Some mark → IsPlace (s ∷ past) dir mark
seen_step true s past dir mark place found = cc found
seen_step false s past dir mark place found = further s past dir (storing_poll past dir) mark place found

stored_step : (mine new : Bool) (d : Dir) (waker : Waker) (ticker : ℕ) (past : List CellStep) (dir : Dir) (mark : StoringPoll) → (mine ≡ true → same_dir d dir ≡ true)
    → ((m : StoringPoll) → storing_poll past dir ≡ Some m → IsPlace past dir m)
    → (if mine && new then Some (stored_here ticker past) else one_later (step.Poll d waker ticker Pending) (storing_poll past dir)) ≡ Some mark
    → IsPlace (step.Poll d waker ticker Pending ∷ past) dir mark
stored_step true true d waker ticker past dir mark same place found = here waker ticker past d dir mark (same refl) found
stored_step true false d waker ticker past dir mark same place found = further (step.Poll d waker ticker Pending) past dir (storing_poll past dir) mark place found
stored_step false new d waker ticker past dir mark same place found = further (step.Poll d waker ticker Pending) past dir (storing_poll past dir) mark place found

pub storing_poll_is_place : (past : List CellStep) (dir : Dir) (mark : StoringPoll) → storing_poll past dir ≡ Some mark → IsPlace past dir mark
storing_poll_is_place [] dir mark found = cc found
storing_poll_is_place (step.Poll d waker ticker (Ready done) ∷ past) dir mark found =
    seen_step (same_dir d dir) (step.Poll d waker ticker (Ready done)) past dir mark (storing_poll_is_place past dir) found
storing_poll_is_place (step.Poll d waker ticker Pending ∷ past) dir mark found =
    stored_step (same_dir d dir) (not (is_waker waker (waiter_of past dir))) d waker ticker past dir mark (λ e. e) (storing_poll_is_place past dir) found
storing_poll_is_place (step.Handle on round taken ∷ past) dir mark found =
    further (step.Handle on round taken) past dir (storing_poll past dir) mark (storing_poll_is_place past dir) found
