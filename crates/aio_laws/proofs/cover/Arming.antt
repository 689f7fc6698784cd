-- A poll that is told pending leaves its source unbroken, and the waiters of a source that is not broken are armed for or in hand.
use Rattle.std.proofs.Common.{◌≡◌, ℕ, Bool, true, false, cond, ◌||◌, ◌==◌, List, [], find, Option, None, Some, option_map, option_to_list, unwrap_or, refl, sym, subst, inl, inr}
use Rattle.std.specs.List.{Contains}
use Rattle.std.proofs.lemmas.Bool.{eq-eqb, or_parts}
use Rattle.aio_base.specs.declared.names.Waker.{Waker}
use Rattle.aio_base.specs.declared.names.Dir.{Dir}
use Rattle.aio_base.specs.declared.steps.Step.{Step}
use Rattle.aio_base.specs.declared.steps.Step.TheVariants as step
use Rattle.aio_base.specs.declared.steps.Answer.{Answer}
use Rattle.aio_base.specs.declared.steps.Answer.TheVariants as answer
use Rattle.aio_base.specs.World.{PollerAnswer, ListenerEntry, BrokenSource, World, serial_of, key_of, poll_waiter, waiters_of, mark_of, is_idle, is_broken}
use Rattle.aio_base.specs.Machine.{Outcome, fails, next_answer, broken_world, armed_world, pending, is_fresh_since, is_waker, with_waiter, poll_source, is_listener, with_listening, step_listener, step_result}
use Rattle.aio_laws.specs.Arming.{polled_source, IsArmedOrInHand}
use Rattle.aio_laws.specs.Covered.{Cover, IsArmed, InHand, FaultIsTold, Covered}
use Rattle.aio_base.proofs.Membership.{none_passes}
use Rattle.aio_base.proofs.BrokenSources.{without_unbroken}
use Rattle.aio_laws.proofs.steps.Frames.{either}

-- ## Polls

-- an outcome that is told pending leaves this source unbroken
abbrev Arms : ℕ → Outcome → Type 0
Arms serial o = o.answer ≡ answer.Pending → is_broken o.world serial ≡ false

-- of a failed arm nobody is told pending
told_pending : (failed : Bool) (x y : World) (serial : ℕ) → is_broken y serial ≡ false → cond failed answer.FaultArm answer.Pending ≡ answer.Pending
    → is_broken (cond failed x y) serial ≡ false
told_pending true x y serial whole told = absurd cc
told_pending false x y serial whole told = whole

pending_arms : (arms : Bool) (w : World) (key serial : ℕ) (wakes : List Waker) (answers : List PollerAnswer) → (arms ≡ false → is_broken w serial ≡ false)
    → Arms serial (pending arms w key serial wakes answers)
pending_arms false w key serial wakes answers calm told = calm refl
pending_arms true w key serial wakes answers calm told =
    told_pending (fails (next_answer answers)) (broken_world w serial) (armed_world w key serial) serial (without_unbroken w.broken serial) told

poll_arms : (w : World) (key : ℕ) (dir : Dir) (waker : Waker) (serial : ℕ) (answers : List PollerAnswer)
    → Arms serial (poll_source w key dir waker (Some serial) answers)
poll_arms w key dir waker serial answers =
    let waiter = poll_waiter w.poll_waiters serial dir in
    either (Arms serial) (is_fresh_since w serial dir (mark_of w.marks serial dir)) _ _ (λ ready. absurd cc)
    (either (Arms serial) (is_waker waker waiter) _ _ (pending_arms (is_broken w serial) w key serial [] answers (λ whole. whole))
    (pending_arms (is_idle w serial dir || is_broken w serial) (with_waiter w serial dir waker) key serial (option_to_list waiter) answers
    (λ calm. (or_parts (is_idle w serial dir) (is_broken w serial) calm).1)))

listener_arms : (w : World) (waker : Waker) (entry : ListenerEntry) (answers : List PollerAnswer)
    → Arms entry.serial (step_listener w waker (Some entry) answers)
listener_arms w waker entry answers =
    either (Arms entry.serial) (is_fresh_since w entry.serial entry.dir entry.position) _ _ (λ ready. absurd cc)
    (pending_arms (is_idle w entry.serial entry.dir || is_broken w entry.serial) (record w { listeners = with_listening w entry waker })
    (unwrap_or (key_of w entry.serial) 0) entry.serial [] answers
    (λ calm. (or_parts (is_idle w entry.serial entry.dir) (is_broken w entry.serial) calm).1))

some_is : (m n : ℕ) → Some m ≡ Some n → m ≡ n
some_is m n same = cc

step_arms : (w : World) (waker : Waker) (entry : Option ListenerEntry) (answers : List PollerAnswer) (serial : ℕ)
    → option_map (λ (l : ListenerEntry). l.serial) entry ≡ Some serial → Arms serial (step_listener w waker entry answers)
step_arms w waker None answers serial at = absurd cc
step_arms w waker (Some entry) answers serial at =
    subst (λ n. Arms n (step_listener w waker (Some entry) answers)) (some_is entry.serial serial at) (listener_arms w waker entry answers)

pub polled_arms : (w : World) (s : Step) (answers : List PollerAnswer) (serial : ℕ) → polled_source w s ≡ Some serial → Arms serial (step_result w s answers)
unfolding step_result
polled_arms w (step.Poll key dir waker) answers serial at =
    subst (λ o. Arms serial (poll_source w key.0 dir waker o answers)) (sym at) (poll_arms w key.0 dir waker serial answers)
polled_arms w (step.StepEar number waker) answers serial at = step_arms w waker (find (is_listener number) w.listeners) answers serial at
polled_arms w _ answers serial at = absurd cc

-- ## Cover of a source that is not broken

unbroken_holds : (w : World) (answered : List Answer) (key serial : ℕ) (dir : Dir) → is_broken w serial ≡ false → Cover w answered key serial dir
    → IsArmedOrInHand w key dir
unbroken_holds w answered key serial dir whole (IsArmed arms) = inl arms
unbroken_holds w answered key serial dir whole (InHand hands) = inr hands
unbroken_holds w answered key serial dir whole (FaultIsTold position among tells) =
    absurd (none_passes (λ (b : BrokenSource). b.serial == serial) w.broken (record { serial = serial; position = position }) whole among (eq-eqb serial serial refl))

pub unbroken_covers : (w : World) (answered : List Answer) → Covered w answered → (key serial : ℕ) (dir : Dir) (waiter : Waker)
    → is_broken w serial ≡ false → serial_of w key ≡ Some serial → Contains (waiters_of w serial dir) waiter → IsArmedOrInHand w key dir
unbroken_covers w answered covered key serial dir waiter whole lives among =
    unbroken_holds w answered key serial dir whole (covered key serial dir waiter lives among)
