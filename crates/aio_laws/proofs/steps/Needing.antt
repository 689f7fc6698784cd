-- A poll and a handled event arm just where they have to.
use Rattle.std.proofs.Common.{◌≡◌, ℕ, Bool, true, false, not, cond, ◌||◌, List, [], ◌∷◌, ◌++◌, Option, None, Some, option_to_list, unwrap_or, refl, ap, ◌∙◌, sym, subst}
use Rattle.std.proofs.lemmas.Bool.{cond_both}
use Rattle.aio_base.specs.declared.names.Key.{Key}
use Rattle.aio_base.specs.declared.names.Waker.{Waker}
use Rattle.aio_base.specs.declared.names.Dir.{Dir}
use Rattle.aio_base.specs.declared.names.Event.{Event}
use Rattle.aio_base.specs.declared.outcomes.EndWord.TheVariants.{FaultArm}
use Rattle.aio_base.specs.declared.steps.Step.{Step}
use Rattle.aio_base.specs.declared.steps.Answer.TheVariants as answer
use Rattle.aio_base.specs.World.{PollerAnswer, ListenerEntry, RoundState, World, directions_of, serial_of, key_of, poll_waiter, mark_of, listener_wakers, is_empty_list, is_broken, wanted}
use Rattle.aio_base.specs.Machine.{Outcome, fails, next_answer, broken_world, armed_world, pending, is_fresh_since, is_waker, with_waiter, poll_source, with_listening, step_listener, first_fault, world_taken, wakers_taken, rearmed, handle_source, handle_first, handle_in, case_of}
use Rattle.aio_laws.specs.Succession.{has_to_wait}
use Rattle.aio_laws.specs.Calls.{arms_where, has_to_arm, ArmsAsNeeded}

-- ## Polls

-- where an outcome has to wait it armed by this test
abbrev Arms : Bool → Outcome → Type 0
Arms test o = has_to_wait o.answer ≡ true → o.calls ≡ arms_where test

pending_arms : (arms : Bool) (w : World) (key serial : ℕ) (wakes : List Waker) (answers : List PollerAnswer) → (pending arms w key serial wakes answers).calls ≡ arms_where arms
pending_arms false w key serial wakes answers = refl
pending_arms true w key serial wakes answers = refl

-- a direction with this poll waiter has a waiter
has_waker : (waker : Waker) (waiter : Option Waker) (rest : List Waker) → is_waker waker waiter ≡ true → is_empty_list (option_to_list waiter ++ rest) ≡ false
has_waker waker None rest same = absurd cc
has_waker waker (Some v) rest same = refl

poll_arms : (w : World) (key : ℕ) (dir : Dir) (waker : Waker) (serial : ℕ) (answers : List PollerAnswer)
    → Arms (has_to_arm w serial dir) (poll_source w key dir waker (Some serial) answers)
poll_arms w key dir waker serial answers =
    let waiter = poll_waiter w.poll_waiters serial dir in
    cond_both (is_fresh_since w serial dir (mark_of w.marks serial dir)) _ _ (Arms (has_to_arm w serial dir)) (λ ready waits. absurd cc)
    (λ not_ready. cond_both (is_waker waker waiter) _ _ (Arms (has_to_arm w serial dir))
    (λ same waits.
    pending_arms (is_broken w serial) w key serial [] answers
    ∙ ap (λ idle. arms_where (idle || is_broken w serial)) (sym (has_waker waker waiter (listener_wakers w.listeners serial dir) same)))
    (λ other waits. pending_arms (has_to_arm w serial dir) (with_waiter w serial dir waker) key serial (option_to_list waiter) answers))

listen_arms : (w : World) (waker : Waker) (entry : ListenerEntry) (answers : List PollerAnswer)
    → Arms (has_to_arm w entry.serial entry.dir) (step_listener w waker (Some entry) answers)
listen_arms w waker entry answers =
    cond_both (is_fresh_since w entry.serial entry.dir entry.position) _ _ (Arms (has_to_arm w entry.serial entry.dir)) (λ ready waits. absurd cc)
    (λ not_ready waits.
    pending_arms (has_to_arm w entry.serial entry.dir) (record w { listeners = with_listening w entry waker }) (unwrap_or (key_of w entry.serial) 0) entry.serial [] answers)

-- ## Handled events

-- an outcome that handled an event of this source armed where a waiter of it is left
abbrev Rearms : World → Outcome → Type 0
Rearms w o = (key : Key) (failed : Bool) (serial : ℕ) → o.answer ≡ answer.Handled key failed → serial_of w key.0 ≡ Some serial
    → o.calls ≡ arms_where (not (is_empty_list (wanted o.world serial)))

abbrev Drops : World → Outcome → Type 0
Drops w o = (key : Key) (failed : Bool) → o.answer ≡ answer.Handled key failed → serial_of w key.0 ≡ None → o.calls ≡ []

key_handled : (a b : Key) (c d : Bool) → answer.Handled a c ≡ answer.Handled b d → a ≡ b
key_handled a b c d same = cc

some_is : (m n : ℕ) → Some m ≡ Some n → m ≡ n
some_is m n same = cc

-- the key of an event that was handled is live or not
found_is : (w : World) (a b : Key) (c d : Bool) (found o : Option ℕ) → serial_of w a.0 ≡ found → answer.Handled a c ≡ answer.Handled b d → serial_of w b.0 ≡ o → found ≡ o
found_is w a b c d found o at told lives = sym at ∙ ap (λ (k : Key). serial_of w k.0) (key_handled a b c d told) ∙ lives

-- an arm changes no waiter
arm_wants : (failed : Bool) (u : World) (round : RoundState) (key serial n : ℕ)
    → wanted (cond failed (record (cond failed (broken_world u serial) (armed_world u key serial)) { round = Some round }) (cond failed (broken_world u serial) (armed_world u key serial))) n
    ≡ wanted u n
arm_wants true u round key serial n = refl
arm_wants false u round key serial n = refl

rearmed_arms : (w u : World) (round : RoundState) (key : Key) (n : ℕ) (answers : List PollerAnswer) → serial_of w key.0 ≡ Some n
    → Rearms w (rearmed u round key n answers)
rearmed_arms w u round key n answers at =
    cond_both (is_empty_list (wanted u n)) _ _ (Rearms w)
    (λ none k failed serial told lives.
    let is : n ≡ serial = some_is n serial (found_is w key k false failed (Some n) (Some serial) at told lives) in
    ap (λ empty. arms_where (not empty)) (sym (subst (λ m. is_empty_list (wanted u m) ≡ true) is none)))
    (λ some k failed serial told lives.
    let fault = fails (next_answer answers) in
    let kept : RoundState = record round { fault = first_fault round.fault FaultArm } in
    let is : n ≡ serial = some_is n serial (found_is w key k fault failed (Some n) (Some serial) at told lives) in
    ap (λ empty. arms_where (not empty))
    (sym (ap is_empty_list (arm_wants fault u kept key.0 n serial) ∙ subst (λ m. is_empty_list (wanted u m) ≡ false) is some)))

rearmed_drops : (w u : World) (round : RoundState) (key : Key) (n : ℕ) (answers : List PollerAnswer) → serial_of w key.0 ≡ Some n
    → Drops w (rearmed u round key n answers)
rearmed_drops w u round key n answers at =
    cond_both (is_empty_list (wanted u n)) _ _ (Drops w) (λ none k failed told lives. refl)
    (λ some k failed told lives. absurd (let wrong = found_is w key k (fails (next_answer answers)) failed (Some n) None at told lives in cc))

source_arms : (w : World) (round : RoundState) (event : Event) (found : Option ℕ) (answers : List PollerAnswer) → serial_of w event.key.0 ≡ found
    → Rearms w (handle_source w round event found answers)
source_arms w round event None answers at = λ k failed serial told lives.
    absurd (let wrong = found_is w event.key k false failed None (Some serial) at told lives in cc)
source_arms w round event (Some n) answers at =
    let dirs = directions_of event.on in
    let taken : RoundState = record round { taken = round.taken ++ wakers_taken w n round.begin dirs } in
    rearmed_arms w (record (world_taken w n round.begin dirs) { round = Some taken }) taken event.key n answers at

source_drops : (w : World) (round : RoundState) (event : Event) (found : Option ℕ) (answers : List PollerAnswer) → serial_of w event.key.0 ≡ found
    → Drops w (handle_source w round event found answers)
source_drops w round event None answers at = λ k failed told lives. refl
source_drops w round event (Some n) answers at =
    let dirs = directions_of event.on in
    let taken : RoundState = record round { taken = round.taken ++ wakers_taken w n round.begin dirs } in
    rearmed_drops w (record (world_taken w n round.begin dirs) { round = Some taken }) taken event.key n answers at

first_arms : (w : World) (round : RoundState) (hand : List Event) (answers : List PollerAnswer) → Rearms w (handle_first w round hand answers)
first_arms w round [] answers = λ k failed serial told lives. absurd cc
first_arms w round (event ∷ events) answers = source_arms w (record round { in_hand = events }) event (serial_of w event.key.0) answers refl

first_drops : (w : World) (round : RoundState) (hand : List Event) (answers : List PollerAnswer) → Drops w (handle_first w round hand answers)
first_drops w round [] answers = λ k failed told lives. refl
first_drops w round (event ∷ events) answers = source_drops w (record round { in_hand = events }) event (serial_of w event.key.0) answers refl

handle_rearms : (w : World) (round : Option RoundState) (answers : List PollerAnswer) → Rearms w (handle_in w round answers)
handle_rearms w None answers = λ k failed serial told lives. absurd cc
handle_rearms w (Some round) answers = first_arms w round round.in_hand answers

handle_drops : (w : World) (round : Option RoundState) (answers : List PollerAnswer) → Drops w (handle_in w round answers)
handle_drops w None answers = λ k failed told lives. refl
handle_drops w (Some round) answers = first_drops w round round.in_hand answers

-- ## A step

pub case_needs : (w : World) (s : Step) (answers : List PollerAnswer)
    → ArmsAsNeeded w s (case_of w s answers).answer (case_of w s answers).calls (case_of w s answers).world
case_needs w s answers = record {
  polled = λ key dir waker serial is lives.
      subst (λ (x : Step). Arms (has_to_arm w serial dir) (case_of w x answers)) (sym is)
      (subst (λ found. Arms (has_to_arm w serial dir) (poll_source w key.0 dir waker found answers)) (sym lives) (poll_arms w key.0 dir waker serial answers));
  listened = λ number waker l is found.
      subst (λ (x : Step). Arms (has_to_arm w l.serial l.dir) (case_of w x answers)) (sym is)
      (subst (λ entry. Arms (has_to_arm w l.serial l.dir) (step_listener w waker entry answers)) (sym found) (listen_arms w waker l answers));
  handled = λ key failed serial is told lives.
      subst (λ (x : Step). Rearms w (case_of w x answers)) (sym is) (handle_rearms w w.round answers) key failed serial told lives;
  dropped = λ key failed is told lives. subst (λ (x : Step). Drops w (case_of w x answers)) (sym is) (handle_drops w w.round answers) key failed told lives;
}
