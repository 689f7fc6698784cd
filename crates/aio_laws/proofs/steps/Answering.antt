-- A step is told an answer that fits it, and its refusal exactly where what it needs is not to be had.
use Rattle.std.proofs.Common.{◌≡◌, ◌≤◌, ℕ, Bool, true, false, cond, ◌||◌, ◌==◌, List, [], length, find, Option, None, Some, option_to_list, refl, sym, ap, ◌∙◌}
use Rattle.std.specs.Prelude.{nat_le, unwrap_or}
use Rattle.std.specs.List.{list_any}
use Rattle.std.proofs.lemmas.Bool.{le-leb, leb-true}
use Rattle.aio_base.specs.declared.names.Waker.{Waker}
use Rattle.aio_base.specs.declared.names.Dir.{Dir}
use Rattle.aio_base.specs.declared.steps.Step.{Step}
use Rattle.aio_base.specs.declared.steps.Step.TheVariants as step
use Rattle.aio_base.specs.declared.steps.Answer.{Answer}
use Rattle.aio_base.specs.declared.steps.Answer.TheVariants as answer
use Rattle.aio_base.specs.World.{PollerAnswer, ListenerEntry, TimerEntry, World, serial_of, key_of, poll_waiter, mark_of, is_idle, is_broken}
use Rattle.aio_base.specs.Machine.{Outcome, fails, next_answer, pending, source_limit, free_key, add, del_source, is_fresh_since, is_waker, with_waiter, poll_source, new_listener, is_listener, with_listening, step_listener, drop_listener, is_timer, tick_timer, set_timer, end_timer, case_of, step_result}
use Rattle.aio_base.proofs.TimerCases.{tick_any}
use Rattle.aio_laws.specs.Answers.{Refuses, most_sources, is_added, is_taken_out, is_polled, is_new_listener, is_ticked, IsUsed, FitsTheStep}

-- ## Answers by a test

chosen : (Fits : Answer → Type 0) (test : Bool) (x y : Answer) → Fits x → Fits y → Fits (cond test x y)
chosen Fits true x y first second = first
chosen Fits false x y first second = second

either : (Fits : Answer → Type 0) (test : Bool) (x y : Outcome) → Fits x.answer → Fits y.answer → Fits (cond test x y).answer
either Fits true x y first second = first
either Fits false x y first second = second

-- refused by a test
decided : (Lacks : Type 0) (refusal : Answer) (Fits : Answer → Type 0) (test : Bool) (x y : Outcome) → (Lacks → test ≡ true) → (test ≡ true → Lacks)
    → x.answer ≡ refusal → Fits y.answer → Refuses Lacks refusal Fits (cond test x y).answer
decided Lacks refusal Fits true x y from gives said fitting = record { lacks = λ l. said; has = λ there. absurd (there (gives refl)) }
decided Lacks refusal Fits false x y from gives said fitting = record { lacks = λ l. absurd (let wrong = from l in cc); has = λ there. fitting }

-- nothing was found
nothing : {X : Type 0} (found : Option X) (refusal : Answer) (Fits : Answer → Type 0) (told : Answer) → found ≡ None → told ≡ refusal
    → Refuses (found ≡ None) refusal Fits told
nothing found refusal Fits told none said = record { lacks = λ l. said; has = λ there. absurd (there none) }

-- something was found
something : {X : Type 0} (found : Option X) (x : X) (refusal : Answer) (Fits : Answer → Type 0) (told : Answer) → found ≡ Some x → Fits told
    → Refuses (found ≡ None) refusal Fits told
something found x refusal Fits told some fitting = record { lacks = λ none. absurd (let wrong = sym none ∙ some in cc); has = λ there. fitting }

-- ## Sources and listeners

add_fits : (w : World) (answers : List PollerAnswer) → Refuses (most_sources ≤ length w.live) answer.Full (λ a. is_added a ≡ true) (add w answers).answer
add_fits w answers =
    decided (most_sources ≤ length w.live) answer.Full (λ a. is_added a ≡ true) (nat_le source_limit (length w.live)) _ _
    (le-leb source_limit (length w.live)) (λ is. leb-true source_limit (length w.live) is) refl
    (chosen (λ a. is_added a ≡ true) (fails (next_answer answers)) answer.FaultAdd (answer.KeyIs (record { 0 = free_key w.live })) refl refl)

some_is : (m n : ℕ) → Some m ≡ Some n → m ≡ n
some_is m n same = cc

used : (w : World) (key serial : ℕ) → serial_of w key ≡ Some serial → IsUsed w key → list_any (λ (l : ListenerEntry). l.serial == serial) w.listeners ≡ true
used w key serial is u =
    let same : u.0 ≡ serial = some_is u.0 serial (sym u.1 ∙ is) in
    ap (λ n. list_any (λ (l : ListenerEntry). l.serial == n) w.listeners) (sym same) ∙ u.2

del_fits : (w : World) (key : ℕ) (found : Option ℕ) (answers : List PollerAnswer) → serial_of w key ≡ found
    → Refuses (serial_of w key ≡ None) answer.NoSource (Refuses (IsUsed w key) answer.InUse (λ a. is_taken_out a ≡ true)) (del_source w key found answers).answer
del_fits w key None answers is = nothing (serial_of w key) answer.NoSource _ _ is refl
del_fits w key (Some serial) answers is =
    something (serial_of w key) serial answer.NoSource _ _ is
    (decided (IsUsed w key) answer.InUse (λ a. is_taken_out a ≡ true) (list_any (λ (l : ListenerEntry). l.serial == serial) w.listeners) _ _
    (used w key serial is) (λ among. (serial, is, among)) refl
    (chosen (λ a. is_taken_out a ≡ true) (fails (next_answer answers)) answer.FaultRemove answer.Gone refl refl))

pending_fits : (arms : Bool) (w : World) (key serial : ℕ) (wakes : List Waker) (answers : List PollerAnswer)
    → is_polled (pending arms w key serial wakes answers).answer ≡ true
pending_fits false w key serial wakes answers = refl
pending_fits true w key serial wakes answers = chosen (λ a. is_polled a ≡ true) (fails (next_answer answers)) answer.FaultArm answer.Pending refl refl

poll_fits : (w : World) (key : ℕ) (dir : Dir) (waker : Waker) (found : Option ℕ) (answers : List PollerAnswer) → serial_of w key ≡ found
    → Refuses (serial_of w key ≡ None) answer.NoSource (λ a. is_polled a ≡ true) (poll_source w key dir waker found answers).answer
poll_fits w key dir waker None answers is = nothing (serial_of w key) answer.NoSource _ _ is refl
poll_fits w key dir waker (Some serial) answers is =
    let waiter = poll_waiter w.poll_waiters serial dir in
    something (serial_of w key) serial answer.NoSource _ _ is
    (either (λ a. is_polled a ≡ true) (is_fresh_since w serial dir (mark_of w.marks serial dir)) _ _ refl
    (either (λ a. is_polled a ≡ true) (is_waker waker waiter) _ _ (pending_fits (is_broken w serial) w key serial [] answers)
    (pending_fits (is_idle w serial dir || is_broken w serial) (with_waiter w serial dir waker) key serial (option_to_list waiter) answers)))

new_fits : (w : World) (key : ℕ) (dir : Dir) (found : Option ℕ) (answers : List PollerAnswer) → serial_of w key ≡ found
    → Refuses (serial_of w key ≡ None) answer.NoSource (λ a. is_new_listener a ≡ true) (new_listener w dir found answers).answer
new_fits w key dir None answers is = nothing (serial_of w key) answer.NoSource _ _ is refl
new_fits w key dir (Some serial) answers is = something (serial_of w key) serial answer.NoSource _ _ is refl

listen_fits : (w : World) (sought : Option ListenerEntry) (waker : Waker) (found : Option ListenerEntry) (answers : List PollerAnswer) → sought ≡ found
    → Refuses (sought ≡ None) answer.NoListener (λ a. is_polled a ≡ true) (step_listener w waker found answers).answer
listen_fits w sought waker None answers is = nothing sought answer.NoListener _ _ is refl
listen_fits w sought waker (Some entry) answers is =
    something sought entry answer.NoListener _ _ is
    (either (λ a. is_polled a ≡ true) (is_fresh_since w entry.serial entry.dir entry.position) _ _ refl
    (pending_fits (is_idle w entry.serial entry.dir || is_broken w entry.serial) (record w { listeners = with_listening w entry waker })
    (unwrap_or (key_of w entry.serial) 0) entry.serial [] answers))

drop_fits : (w : World) (number : ℕ) (sought found : Option ListenerEntry) (answers : List PollerAnswer) → sought ≡ found
    → Refuses (sought ≡ None) answer.NoListener (λ a. a ≡ answer.Dropped) (drop_listener w number found answers).answer
drop_fits w number sought None answers is = nothing sought answer.NoListener _ _ is refl
drop_fits w number sought (Some entry) answers is = something sought entry answer.NoListener _ _ is refl

-- ## Timers

tick_fits : (w : World) (sought : Option TimerEntry) (waker : Waker) (found : Option TimerEntry) (answers : List PollerAnswer) → sought ≡ found
    → Refuses (sought ≡ None) answer.NoTimer (λ a. is_ticked a ≡ true) (tick_timer w waker found answers).answer
tick_fits w sought waker None answers is = nothing sought answer.NoTimer _ _ is refl
tick_fits w sought waker (Some entry) answers is =
    something sought entry answer.NoTimer _ _ is
    (tick_any (λ o. is_ticked o.answer ≡ true) w waker entry answers (λ timers registrations ids. refl) (λ deadline timers registrations ids. refl))

set_fits : (w : World) (sought : Option TimerEntry) (deadline : ℕ) (period : Option ℕ) (found : Option TimerEntry) (answers : List PollerAnswer) → sought ≡ found
    → Refuses (sought ≡ None) answer.NoTimer (λ a. a ≡ answer.Set) (set_timer w deadline period found answers).answer
set_fits w sought deadline period None answers is = nothing sought answer.NoTimer _ _ is refl
set_fits w sought deadline period (Some entry) answers is = something sought entry answer.NoTimer _ _ is refl

end_fits : (w : World) (sought found : Option TimerEntry) (answers : List PollerAnswer) → sought ≡ found
    → Refuses (sought ≡ None) answer.NoTimer (λ a. a ≡ answer.Ended) (end_timer w found answers).answer
end_fits w sought None answers is = nothing sought answer.NoTimer _ _ is refl
end_fits w sought (Some entry) answers is = something sought entry answer.NoTimer _ _ is refl

-- ## A step

case_fits : (w : World) (s : Step) (answers : List PollerAnswer) → FitsTheStep w s (case_of w s answers).answer
case_fits w step.Add answers = add_fits w answers
case_fits w (step.Del key) answers = del_fits w key.0 _ answers refl
case_fits w (step.Poll key dir waker) answers = poll_fits w key.0 dir waker _ answers refl
case_fits w (step.New key dir) answers = new_fits w key.0 dir _ answers refl
case_fits w (step.StepEar number waker) answers = listen_fits w (find (is_listener number) w.listeners) waker _ answers refl
case_fits w (step.DropEar number) answers = drop_fits w number (find (is_listener number) w.listeners) _ answers refl
case_fits w (step.Tick number waker) answers = tick_fits w (find (is_timer number) w.timers) waker _ answers refl
case_fits w (step.SetAt number deadline) answers = set_fits w (find (is_timer number) w.timers) deadline None _ answers refl
case_fits w (step.SetEvery number deadline period) answers = set_fits w (find (is_timer number) w.timers) deadline (Some period) _ answers refl
case_fits w (step.End number) answers = end_fits w (find (is_timer number) w.timers) _ answers refl
case_fits w (step.Note event) answers = refl
case_fits w (step.Fault kind) answers = refl
case_fits w step.Interrupt answers = refl
case_fits w _ answers = tt

pub answer_fits : (w : World) (s : Step) (answers : List PollerAnswer) → FitsTheStep w s (step_result w s answers).answer
unfolding step_result
answer_fits w s answers = case_fits w s answers
