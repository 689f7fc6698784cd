-- A step is told `ready` exactly where it polls what is ready.
use Rattle.std.proofs.Common.{◌≡◌, ◌↔◌, ℕ, ◌≤◌, Bool, true, false, cond, ◌&&◌, ◌||◌, ◌==◌, List, [], ◌∷◌, ◌++◌, length, find, Option, None, Some, is_some, option_to_list, refl, ap, ◌∙◌, sym, subst, arith}
use Rattle.std.specs.Prelude.{nat_lt, nat_le, unwrap_or}
use Rattle.std.specs.List.{list_any}
use Rattle.std.proofs.lemmas.Bool.{and_parts, and_from, lt-ltb, ltb-true, le-leb, leb-true}
use Rattle.aio_base.specs.declared.names.Key.{Key}
use Rattle.aio_base.specs.declared.names.Waker.{Waker}
use Rattle.aio_base.specs.declared.names.Dir.{Dir}
use Rattle.aio_base.specs.declared.names.Event.{Event}
use Rattle.aio_base.specs.declared.steps.Step.{Step}
use Rattle.aio_base.specs.declared.steps.Step.TheVariants as step
use Rattle.aio_base.specs.declared.steps.Answer.{Answer}
use Rattle.aio_base.specs.declared.steps.Answer.TheVariants as answer
use Rattle.aio_base.specs.World.{PollerAnswer, Succeeds, ListenerEntry, TimerEntry, HandledDirection, RoundState, World, directions_of, is_of, serial_of, key_of, poll_waiter, mark_of, is_empty_list, is_idle, is_broken, wanted, is_fresh}
use Rattle.aio_base.specs.Machine.{Outcome, fails, next_answer, later_answers, pending, source_limit, free_key, add, del_source, is_fresh_since, is_waker, with_waiter, poll_source, new_listener, is_listener, with_listening, step_listener, drop_listener, is_timer, tick_timer, set_timer, end_timer, wait_answered, wait_in, world_taken, wakers_taken, rearmed, handle_source, handle_first, handle_in, finish_in, case_of, step_result}
use Rattle.aio_base.proofs.TimerCases.{tick_deadline, tick_by_deadline, tick_any}
use Rattle.aio_laws.specs.Readiness.{IsHandledSince, SourceIsReady, ListenerIsReady, TimerIsReady, ReadyIsTold}
use Rattle.aio_base.proofs.Membership.{any_from, any_gives}
use Rattle.aio_base.proofs.WaiterLemmas.{is_of-eq, is_of-from}
use Rattle.aio_laws.proofs.steps.Frames.{either}

-- ## Answers

-- the two answers of what is ready, and all others
abbrev kind : Answer → ℕ
kind answer.Ready = 1
kind (answer.ReadyAt deadline) = 2
kind _ = 0

-- an outcome that is told neither
record IsPlain (o : Outcome) : Type 0 where
  plain : kind o.answer ≡ 0

is_plain : (o : Outcome) → kind o.answer ≡ 0 → IsPlain o
is_plain o plain = record { plain = plain }

never : (o : Outcome) → IsPlain o → (o.answer ≡ answer.Ready) ↔ ⊥
never o p = (λ same. let one : kind o.answer ≡ 1 = ap kind same in let none = p.plain in absurd (omega arith), λ wrong. absurd wrong)

never_at : (o : Outcome) → (kind o.answer ≡ 2 → ⊥) → (deadline : ℕ) → (o.answer ≡ answer.ReadyAt deadline) ↔ ⊥
never_at o other deadline = (λ same. other (ap kind same), λ wrong. absurd wrong)

not_at : (o : Outcome) → IsPlain o → kind o.answer ≡ 2 → ⊥
not_at o p at = let none = p.plain in absurd (omega arith)

-- an answer by a test
chosen : (test : Bool) (x y : Answer) → kind x ≡ 0 → kind y ≡ 0 → kind (cond test x y) ≡ 0
chosen true x y first second = first
chosen false x y first second = second

-- one of two outcomes
plainly : (test : Bool) (x y : Outcome) → IsPlain x → IsPlain y → IsPlain (cond test x y)
plainly test x y first second = either IsPlain test x y first second

pending_plain : (arms : Bool) (w : World) (key serial : ℕ) (wakes : List Waker) (answers : List PollerAnswer) → IsPlain (pending arms w key serial wakes answers)
pending_plain false w key serial wakes answers = is_plain _ refl
pending_plain true w key serial wakes answers = is_plain _ (chosen (fails (next_answer answers)) answer.FaultArm answer.Pending refl refl)

-- ## The past

handled_since : (w : World) (serial : ℕ) (dir : Dir) (position : ℕ) → is_fresh w.handled serial dir position ≡ true → IsHandledSince w serial dir position
handled_since w serial dir position fresh =
    let one = any_gives (λ (h : HandledDirection). is_of serial dir h.serial h.dir && nat_lt position h.begin) w.handled fresh in
    let parts = and_parts (is_of serial dir one.0.serial one.0.dir) (nat_lt position one.0.begin) one.2 in
    let same = is_of-eq serial dir one.0.serial one.0.dir parts.0 in
    record { entry = one.0; among = one.1; of = same.0; on = same.1; later = ltb-true position one.0.begin parts.1 }

fresh_since : (w : World) (serial : ℕ) (dir : Dir) (position : ℕ) → IsHandledSince w serial dir position → is_fresh w.handled serial dir position ≡ true
fresh_since w serial dir position h =
    any_from (λ (x : HandledDirection). is_of serial dir x.serial x.dir && nat_lt position x.begin) w.handled h.entry h.among
    (and_from (is_of serial dir h.entry.serial h.entry.dir) (nat_lt position h.entry.begin)
    (is_of-from serial dir h.entry.serial h.entry.dir h.of h.on) (lt-ltb position h.entry.begin h.later))

-- a direction that is fresh since a position, where there is one
told_since : (w : World) (serial : ℕ) (dir : Dir) (position : Option ℕ) → is_fresh_since w serial dir position ≡ true
    → (p : ℕ) × (position ≡ Some p) × IsHandledSince w serial dir p
told_since w serial dir None fresh = absurd cc
told_since w serial dir (Some p) fresh = (p, refl, handled_since w serial dir p fresh)

since_told : (w : World) (serial : ℕ) (dir : Dir) (position : Option ℕ) (p : ℕ) → position ≡ Some p → IsHandledSince w serial dir p
    → is_fresh_since w serial dir position ≡ true
since_told w serial dir position p is h = ap (is_fresh_since w serial dir) is ∙ fresh_since w serial dir p h

-- ## Polls

some_is : {X : Type 0} (m n : X) → Some m ≡ Some n → m ≡ n
some_is m n same = cc

-- ready by a test
decided : (test : Bool) (x y : Outcome) (R : Type 0) → (test ≡ true → R) → (R → test ≡ true) → x.answer ≡ answer.Ready → IsPlain y
    → ((cond test x y).answer ≡ answer.Ready) ↔ R
decided true x y R gives from ready waits = (λ same. gives refl, λ r. ready)
decided false x y R gives from ready waits =
    (λ same. absurd ((never y waits).0 same), λ r. absurd (let wrong = from r in cc))

poll_ready : (w : World) (key : ℕ) (dir : Dir) (waker : Waker) (found : Option ℕ) (answers : List PollerAnswer) → serial_of w key ≡ found
    → ((poll_source w key dir waker found answers).answer ≡ answer.Ready) ↔ SourceIsReady w key dir
poll_ready w key dir waker None answers is = (λ same. absurd cc, λ r. absurd (let live = r.live in cc))
poll_ready w key dir waker (Some serial) answers is =
    let waiter = poll_waiter w.poll_waiters serial dir in
    let mark = mark_of w.marks serial dir in
    decided (is_fresh_since w serial dir mark) _ _ (SourceIsReady w key dir)
    (λ fresh. let since = told_since w serial dir mark fresh in
    record { serial = serial; position = since.0; live = is; marked = since.1; handled = since.2 })
    (λ r.
    let same : r.serial ≡ serial = some_is r.serial serial (sym r.live ∙ is) in
    subst (λ n. is_fresh_since w n dir (mark_of w.marks n dir) ≡ true) same (since_told w r.serial dir (mark_of w.marks r.serial dir) r.position r.marked r.handled))
    refl
    (plainly (is_waker waker waiter) _ _ (pending_plain (is_broken w serial) w key serial [] answers)
    (pending_plain (is_idle w serial dir || is_broken w serial) (with_waiter w serial dir waker) key serial (option_to_list waiter) answers))

step_ready : (w : World) (number : ℕ) (waker : Waker) (found : Option ListenerEntry) (answers : List PollerAnswer) → find (is_listener number) w.listeners ≡ found
    → ((step_listener w waker found answers).answer ≡ answer.Ready) ↔ ListenerIsReady w number
step_ready w number waker None answers is = (λ same. absurd cc, λ r. absurd (let there = r.there in cc))
step_ready w number waker (Some entry) answers is =
    decided (is_fresh_since w entry.serial entry.dir entry.position) _ _ (ListenerIsReady w number)
    (λ fresh. let since = told_since w entry.serial entry.dir entry.position fresh in
    record { listener = entry; position = since.0; there = is; polled = since.1; handled = since.2 })
    (λ r.
    let same : r.listener ≡ entry = some_is r.listener entry (sym r.there ∙ is) in
    subst (λ (l : ListenerEntry). is_fresh_since w l.serial l.dir l.position ≡ true) same
    (since_told w r.listener.serial r.listener.dir r.listener.position r.position r.polled r.handled))
    refl
    (pending_plain (is_idle w entry.serial entry.dir || is_broken w entry.serial) (record w { listeners = with_listening w entry waker })
    (unwrap_or (key_of w entry.serial) 0) entry.serial [] answers)

-- neither is told a deadline
apart : (test : Bool) (x y : Outcome) → x.answer ≡ answer.Ready → IsPlain y → kind (cond test x y).answer ≡ 2 → ⊥
apart true x y ready waits at = absurd (let one = ap kind ready in omega arith)
apart false x y ready waits at = let none = waits.plain in absurd (omega arith)

poll_at : (w : World) (key : ℕ) (dir : Dir) (waker : Waker) (found : Option ℕ) (answers : List PollerAnswer)
    → kind (poll_source w key dir waker found answers).answer ≡ 2 → ⊥
poll_at w key dir waker None answers at = absurd (omega arith)
poll_at w key dir waker (Some serial) answers at =
    let waiter = poll_waiter w.poll_waiters serial dir in
    apart (is_fresh_since w serial dir (mark_of w.marks serial dir)) _ _ refl
    (plainly (is_waker waker waiter) _ _ (pending_plain (is_broken w serial) w key serial [] answers)
    (pending_plain (is_idle w serial dir || is_broken w serial) (with_waiter w serial dir waker) key serial (option_to_list waiter) answers)) at

step_at : (w : World) (waker : Waker) (found : Option ListenerEntry) (answers : List PollerAnswer) → kind (step_listener w waker found answers).answer ≡ 2 → ⊥
step_at w waker None answers at = absurd (omega arith)
step_at w waker (Some entry) answers at =
    apart (is_fresh_since w entry.serial entry.dir entry.position) _ _ refl
    (pending_plain (is_idle w entry.serial entry.dir || is_broken w entry.serial) (record w { listeners = with_listening w entry waker })
    (unwrap_or (key_of w entry.serial) 0) entry.serial [] answers) at

-- ## Timers

at_is : (a b : ℕ) → answer.ReadyAt a ≡ answer.ReadyAt b → a ≡ b
at_is a b same = cc

due_or : (w : World) (number : ℕ) (entry : TimerEntry) (t d : ℕ) (due : Bool) (x y : Outcome) → find (is_timer number) w.timers ≡ Some entry → entry.deadline ≡ Some t
    → nat_le t w.now ≡ due → x.answer ≡ answer.ReadyAt t → y.answer ≡ answer.Pending → ((cond due x y).answer ≡ answer.ReadyAt d) ↔ TimerIsReady w number d
due_or w number entry t d true x y there waits due ready pends = (
  λ same.
      let one : t ≡ d = at_is t d (sym ready ∙ same) in
      record { timer = entry; there = there; waits = waits ∙ ap Some one; come = subst (λ n. n ≤ w.now) one (leb-true t w.now due) },
  λ r.
      let one : r.timer ≡ entry = some_is r.timer entry (sym r.there ∙ there) in
      let same : t ≡ d = some_is t d (sym waits ∙ ap (λ (x : TimerEntry). x.deadline) (sym one) ∙ r.waits) in
      ready ∙ ap answer.ReadyAt same,
)
due_or w number entry t d false x y there waits due ready pends = (
  λ same. absurd (let wrong : answer.Pending ≡ answer.ReadyAt d = sym pends ∙ same in cc),
  λ r.
      let one : r.timer ≡ entry = some_is r.timer entry (sym r.there ∙ there) in
      let same : t ≡ d = some_is t d (sym waits ∙ ap (λ (x : TimerEntry). x.deadline) (sym one) ∙ r.waits) in
      let come : nat_le t w.now ≡ true = le-leb t w.now (subst (λ n. n ≤ w.now) (sym same) r.come) in
      absurd (let wrong : true ≡ false = sym come ∙ due in cc),
)

tick_ready_at : (w : World) (number : ℕ) (waker : Waker) (entry : TimerEntry) (deadline : Option ℕ) (answers : List PollerAnswer) (d : ℕ)
    → find (is_timer number) w.timers ≡ Some entry → entry.deadline ≡ deadline
    → ((tick_deadline w entry waker deadline answers).answer ≡ answer.ReadyAt d) ↔ TimerIsReady w number d
tick_ready_at w number waker entry None answers d there waits = (
  λ same. absurd cc,
  λ r.
      let one : r.timer ≡ entry = some_is r.timer entry (sym r.there ∙ there) in
      absurd (let wrong : None ≡ Some d = sym waits ∙ ap (λ (x : TimerEntry). x.deadline) (sym one) ∙ r.waits in cc),
)
tick_ready_at w number waker entry (Some t) answers d there waits = due_or w number entry t d (nat_le t w.now) _ _ there waits refl refl refl

tick_ready : (w : World) (number : ℕ) (waker : Waker) (found : Option TimerEntry) (answers : List PollerAnswer) (d : ℕ) → find (is_timer number) w.timers ≡ found
    → ((tick_timer w waker found answers).answer ≡ answer.ReadyAt d) ↔ TimerIsReady w number d
tick_ready w number waker None answers d is = (λ same. absurd cc, λ r. absurd (let there = r.there in cc))
tick_ready w number waker (Some entry) answers d is =
    subst (λ (o : Outcome). (o.answer ≡ answer.ReadyAt d) ↔ TimerIsReady w number d) (tick_by_deadline w waker entry answers)
    (tick_ready_at w number waker entry entry.deadline answers d is refl)

tick_other : (w : World) (waker : Waker) (found : Option TimerEntry) (answers : List PollerAnswer) → (tick_timer w waker found answers).answer ≡ answer.Ready → ⊥
tick_other w waker None answers = λ same. absurd cc
tick_other w waker (Some entry) answers =
    tick_any (λ o. o.answer ≡ answer.Ready → ⊥) w waker entry answers (λ timers registrations ids same. absurd cc)
    (λ deadline timers registrations ids same. absurd cc)

-- ## Other steps

add_plain : (w : World) (answers : List PollerAnswer) → IsPlain (add w answers)
add_plain w answers = plainly (nat_le source_limit (length w.live)) _ _ (is_plain _ refl)
    (is_plain _ (chosen (fails (next_answer answers)) answer.FaultAdd (answer.KeyIs (record { 0 = free_key w.live })) refl refl))

del_plain : (w : World) (key : ℕ) (found : Option ℕ) (answers : List PollerAnswer) → IsPlain (del_source w key found answers)
del_plain w key None answers = is_plain _ refl
del_plain w key (Some serial) answers =
    plainly (list_any (λ (l : ListenerEntry). l.serial == serial) w.listeners) _ _ (is_plain _ refl)
    (is_plain _ (chosen (fails (next_answer answers)) answer.FaultRemove answer.Gone refl refl))

new_plain : (w : World) (dir : Dir) (found : Option ℕ) (answers : List PollerAnswer) → IsPlain (new_listener w dir found answers)
new_plain w dir None answers = is_plain _ refl
new_plain w dir (Some serial) answers = is_plain _ refl

drop_plain : (w : World) (number : ℕ) (found : Option ListenerEntry) (answers : List PollerAnswer) → IsPlain (drop_listener w number found answers)
drop_plain w number None answers = is_plain _ refl
drop_plain w number (Some entry) answers = is_plain _ refl

set_plain : (w : World) (deadline : ℕ) (period : Option ℕ) (found : Option TimerEntry) (answers : List PollerAnswer) → IsPlain (set_timer w deadline period found answers)
set_plain w deadline period None answers = is_plain _ refl
set_plain w deadline period (Some entry) answers = is_plain _ refl

end_plain : (w : World) (found : Option TimerEntry) (answers : List PollerAnswer) → IsPlain (end_timer w found answers)
end_plain w None answers = is_plain _ refl
end_plain w (Some entry) answers = is_plain _ refl

answered_plain : (w : World) (round : RoundState) (told : PollerAnswer) (rest : List PollerAnswer) → IsPlain (wait_answered w round told rest)
answered_plain w round Succeeds rest = is_plain _ refl
answered_plain w round told rest = is_plain _ refl

wait_plain : (w : World) (round : Option RoundState) (answers : List PollerAnswer) → IsPlain (wait_in w round answers)
wait_plain w None answers = is_plain _ refl
wait_plain w (Some round) answers =
    plainly (is_empty_list round.in_hand) _ _ (answered_plain w round (next_answer answers) (later_answers answers)) (is_plain _ refl)

rearmed_plain : (w : World) (round : RoundState) (key : Key) (serial : ℕ) (answers : List PollerAnswer) → IsPlain (rearmed w round key serial answers)
rearmed_plain w round key serial answers = plainly (is_empty_list (wanted w serial)) _ _ (is_plain _ refl) (is_plain _ refl)

source_plain : (w : World) (round : RoundState) (event : Event) (found : Option ℕ) (answers : List PollerAnswer) → IsPlain (handle_source w round event found answers)
source_plain w round event None answers = is_plain _ refl
source_plain w round event (Some serial) answers =
    let taken = record round { taken = round.taken ++ wakers_taken w serial round.begin (directions_of event.on) } in
    rearmed_plain (record (world_taken w serial round.begin (directions_of event.on)) { round = Some taken }) taken event.key serial answers

first_plain : (w : World) (round : RoundState) (hand : List Event) (answers : List PollerAnswer) → IsPlain (handle_first w round hand answers)
first_plain w round [] answers = is_plain _ refl
first_plain w round (event ∷ events) answers = source_plain w (record round { in_hand = events }) event (serial_of w event.key.0) answers

handle_plain : (w : World) (round : Option RoundState) (answers : List PollerAnswer) → IsPlain (handle_in w round answers)
handle_plain w None answers = is_plain _ refl
handle_plain w (Some round) answers = first_plain w round round.in_hand answers

finish_plain : (w : World) (round : Option RoundState) (answers : List PollerAnswer) → IsPlain (finish_in w round answers)
finish_plain w None answers = is_plain _ refl
finish_plain w (Some round) answers = plainly (is_empty_list round.in_hand) _ _ (is_plain _ refl) (is_plain _ refl)

-- ## A step

case_told : (w : World) (s : Step) (answers : List PollerAnswer) → ReadyIsTold w s (case_of w s answers).answer
case_told w step.Add answers = let e : IsPlain (case_of w step.Add answers) = add_plain w answers in record { ready = never (case_of w step.Add answers) e; ready_at = never_at (case_of w step.Add answers) (not_at (case_of w step.Add answers) e) }
case_told w (step.Del key) answers =
    let e : IsPlain (case_of w (step.Del key) answers) = del_plain w key.0 (serial_of w key.0) answers in record { ready = never (case_of w (step.Del key) answers) e; ready_at = never_at (case_of w (step.Del key) answers) (not_at (case_of w (step.Del key) answers) e) }
case_told w (step.Poll key dir waker) answers =
    record {
      ready = poll_ready w key.0 dir waker (serial_of w key.0) answers refl;
      ready_at = never_at (case_of w (step.Poll key dir waker) answers) (poll_at w key.0 dir waker (serial_of w key.0) answers);
    }
case_told w (step.New key dir) answers =
    let e : IsPlain (case_of w (step.New key dir) answers) = new_plain w dir (serial_of w key.0) answers in record { ready = never (case_of w (step.New key dir) answers) e; ready_at = never_at (case_of w (step.New key dir) answers) (not_at (case_of w (step.New key dir) answers) e) }
case_told w (step.StepEar number waker) answers =
    record {
      ready = step_ready w number waker (find (is_listener number) w.listeners) answers refl;
      ready_at = never_at (case_of w (step.StepEar number waker) answers) (step_at w waker (find (is_listener number) w.listeners) answers);
    }
case_told w (step.DropEar number) answers =
    let e : IsPlain (case_of w (step.DropEar number) answers) = drop_plain w number (find (is_listener number) w.listeners) answers in record { ready = never (case_of w (step.DropEar number) answers) e; ready_at = never_at (case_of w (step.DropEar number) answers) (not_at (case_of w (step.DropEar number) answers) e) }
case_told w (step.Tick number waker) answers =
    record {
      ready = (λ same. tick_other w waker (find (is_timer number) w.timers) answers same, λ wrong. absurd wrong);
      ready_at = λ deadline. tick_ready w number waker (find (is_timer number) w.timers) answers deadline refl;
    }
case_told w (step.SetAt number deadline) answers =
    let e : IsPlain (case_of w (step.SetAt number deadline) answers) = set_plain w deadline None (find (is_timer number) w.timers) answers in record { ready = never (case_of w (step.SetAt number deadline) answers) e; ready_at = never_at (case_of w (step.SetAt number deadline) answers) (not_at (case_of w (step.SetAt number deadline) answers) e) }
case_told w (step.SetEvery number deadline period) answers =
    let e : IsPlain (case_of w (step.SetEvery number deadline period) answers) = set_plain w deadline (Some period) (find (is_timer number) w.timers) answers in record { ready = never (case_of w (step.SetEvery number deadline period) answers) e; ready_at = never_at (case_of w (step.SetEvery number deadline period) answers) (not_at (case_of w (step.SetEvery number deadline period) answers) e) }
case_told w (step.End number) answers =
    let e : IsPlain (case_of w (step.End number) answers) = end_plain w (find (is_timer number) w.timers) answers in record { ready = never (case_of w (step.End number) answers) e; ready_at = never_at (case_of w (step.End number) answers) (not_at (case_of w (step.End number) answers) e) }
case_told w (step.Now moment) answers =
    let e : IsPlain (case_of w (step.Now moment) answers) = plainly (nat_lt moment w.now) _ _ (is_plain _ refl) (is_plain _ refl) in record { ready = never (case_of w (step.Now moment) answers) e; ready_at = never_at (case_of w (step.Now moment) answers) (not_at (case_of w (step.Now moment) answers) e) }
case_told w (step.Begin limit) answers =
    let e : IsPlain (case_of w (step.Begin limit) answers) = plainly (is_some w.round) _ _ (is_plain _ refl) (is_plain _ refl) in record { ready = never (case_of w (step.Begin limit) answers) e; ready_at = never_at (case_of w (step.Begin limit) answers) (not_at (case_of w (step.Begin limit) answers) e) }
case_told w step.Wait answers = let e : IsPlain (case_of w step.Wait answers) = wait_plain w w.round answers in record { ready = never (case_of w step.Wait answers) e; ready_at = never_at (case_of w step.Wait answers) (not_at (case_of w step.Wait answers) e) }
case_told w step.Handle answers = let e : IsPlain (case_of w step.Handle answers) = handle_plain w w.round answers in record { ready = never (case_of w step.Handle answers) e; ready_at = never_at (case_of w step.Handle answers) (not_at (case_of w step.Handle answers) e) }
case_told w step.Finish answers = let e : IsPlain (case_of w step.Finish answers) = finish_plain w w.round answers in record { ready = never (case_of w step.Finish answers) e; ready_at = never_at (case_of w step.Finish answers) (not_at (case_of w step.Finish answers) e) }
case_told w step.React answers =
    let e : IsPlain (case_of w step.React answers) = plainly (is_some w.round) _ _ (is_plain _ refl) (is_plain _ refl) in record { ready = never (case_of w step.React answers) e; ready_at = never_at (case_of w step.React answers) (not_at (case_of w step.React answers) e) }
case_told w s answers = let e : IsPlain (case_of w s answers) = is_plain (case_of w s answers) refl in record { ready = never (case_of w s answers) e; ready_at = never_at (case_of w s answers) (not_at (case_of w s answers) e) }

pub ready_is_told : (w : World) (s : Step) (answers : List PollerAnswer) → ReadyIsTold w s (step_result w s answers).answer
unfolding step_result
ready_is_told w s answers = let c = case_told w s answers in record { ready = c.ready; ready_at = c.ready_at }
