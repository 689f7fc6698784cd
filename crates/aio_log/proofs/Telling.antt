-- What the line of an answer tells of the poller is enough: with the answer that it tells, the step gives what it gave.
use Rattle.std.proofs.Common.{◌≡◌, ℕ, ◌<◌, zero, suc, Bool, true, false, not, ◌&&◌, ◌==◌, cond, List, [], ◌∷◌, ◌++◌, length, take, Option, None, Some, is_some, option_to_list, refl, sym, ap, ◌∙◌, arith, decimal, append_assoc, ◌-◌, ◌/◌, ◌%◌, ◌||◌, if◌then◌else◌, inl, inr, ◌⊎◌, unwrap_or}
use Rattle.std.specs.Prelude.{codes, nat_le, nat_lt, find}
use Rattle.std.specs.Fmt.{digits, digits_onto, digit_glyph}
use Rattle.std.specs.List.{list_all, list_any}
use Rattle.std.proofs.lemmas.Bool.{true≢false}
use Rattle.std.proofs.lemmas.Bool.Decides.{Decides-eqb, nat_tests}
use Rattle.std.proofs.lemmas.List.Folds.{list_all-append}
use Rattle.std.proofs.lemmas.Slice.Eq.{ends_is}
use Rattle.aio_base.specs.declared.names.Dir.{Dir}
use Rattle.aio_base.specs.declared.names.Event.{Event}
use Rattle.aio_base.specs.declared.names.Key.{Key}
use Rattle.aio_base.specs.declared.names.Waker.{Waker}
use Rattle.aio_base.specs.declared.steps.Answer.{Answer}
use Rattle.aio_base.specs.declared.steps.Answer.TheVariants as answer
use Rattle.aio_base.specs.declared.steps.Step.{Step}
use Rattle.aio_base.specs.declared.steps.Step.TheVariants as step
use Rattle.aio_base.specs.Machine.{Outcome, add, begin_round, case_of, del_source, drop_listener, end_timer, fails, finish_in, handle_first, handle_in, handle_source, is_fresh_since, is_listener, is_timer, moved_on, new_listener, next_answer, pending, poll_source, quiet, rearmed, set_clock, source_limit, set_timer, step_listener, step_result, tick_timer, with_listening, with_waiter}
use Rattle.aio_base.specs.Text.{answer_line}
use Rattle.aio_base.specs.World.{PollerAnswer, Succeeds, Gives, IsInterrupted, Fails, ListenerEntry, RoundState, TimerEntry, World, is_broken, is_empty_list, is_idle, is_waker, key_of, mark_of, poll_waiter, serial_of, wanted, without_mark}
use Rattle.aio_log.specs.Entries.{has_entry}
use Rattle.aio_log.specs.Places.{has_arm_fault, is_fault, poller_told}

-- ## What a step gives

-- what is seen of a step: not the answers of the poller that it left
pub record Seen : Type 0 where
  pub answer : Answer
  pub wakes : List Waker
  pub world : World

abbrev pub seen : Outcome → Seen
seen o = record { answer = o.answer; wakes = o.wakes; world = o.world }

-- a call that failed, or not
abbrev pub call : Bool → PollerAnswer
call true = Fails
call false = Succeeds

-- what is so of each list of answers, by the first one
by_first : (P : List PollerAnswer → Type 0) → P [] → ((rest : List PollerAnswer) → P (Succeeds ∷ rest)) → ((events : List Event) (rest : List PollerAnswer) → P (Gives events ∷ rest))
    → ((rest : List PollerAnswer) → P (IsInterrupted ∷ rest)) → ((rest : List PollerAnswer) → P (Fails ∷ rest)) → (answers : List PollerAnswer) → P answers
by_first P none done gives interrupted failed [] = none
by_first P none done gives interrupted failed (Succeeds ∷ rest) = done rest
by_first P none done gives interrupted failed (Gives events ∷ rest) = gives events rest
by_first P none done gives interrupted failed (IsInterrupted ∷ rest) = interrupted rest
by_first P none done gives interrupted failed (Fails ∷ rest) = failed rest

-- the first answer matters as a failure or none
abbrev Decided : (List PollerAnswer → Outcome) → List PollerAnswer → Type 0
Decided f answers = seen (moved_on (f answers)) ≡ seen (moved_on (f (call (fails (next_answer answers)) ∷ [])))

-- a line says which of the two it was, or else it does not matter
abbrev Told : (List ℕ → Bool) → (List PollerAnswer → Outcome) → Type 0
Told tells f =
    ((tells (answer_line (f (Fails ∷ [])).answer) ≡ true) × (tells (answer_line (f (Succeeds ∷ [])).answer) ≡ false))
    ⊎ (seen (moved_on (f (Fails ∷ []))) ≡ seen (moved_on (f (Succeeds ∷ []))))

-- a case of a step, by the answers of the poller
record Case (tells : List ℕ → Bool) (f : List PollerAnswer → Outcome) : Type 0 where
  decided : (answers : List PollerAnswer) → Decided f answers
  told : Told tells f

-- a case that makes no call
no_call : (tells : List ℕ → Bool) (f : List PollerAnswer → Outcome) → ((a b : List PollerAnswer) → seen (moved_on (f a)) ≡ seen (moved_on (f b))) → Case tells f
no_call tells f same = record { decided = λ answers. same answers _; told = inr (same _ _) }

-- a test before two cases
tested : (tells : List ℕ → Bool) (test : Bool) (f g : List PollerAnswer → Outcome) → Case tells f → Case tells g → Case tells (λ answers. if test then f answers else g answers)
tested tells true f g first second = first
tested tells false f g first second = second

-- ## Lines of events that were handled

and_false : (b : Bool) → b && false ≡ false
and_false true = refl
and_false false = refl

glyph_is_other : (n x : ℕ) → (x < 48) ⊎ (57 < x) → (digit_glyph false (n % 10) == x) ≡ false
glyph_is_other n x far = by_side far
  where
    by_side : (x < 48) ⊎ (57 < x) → (digit_glyph false (n % 10) == x) ≡ false
    by_side (inl low) = let less : n % 10 < 10 = omega arith in grind (arith, nat_tests)
    by_side (inr high) = let less : n % 10 < 10 = omega arith in grind (arith, nat_tests)

abbrev without : ℕ → ℕ → Bool
without x b = not (b == x)

either_without : (p : ℕ → Bool) (t : Bool) (a b : List ℕ) → list_all p a ≡ true → list_all p b ≡ true → list_all p (cond t a b) ≡ true
either_without p true a b first second = first
either_without p false a b first second = second

digits_without_by : (k n x : ℕ) (acc : List ℕ) → (x < 48) ⊎ (57 < x) → list_all (without x) acc ≡ true → list_all (without x) (digits_onto k 10 false n acc) ≡ true
digits_without_by zero n x acc far all = all
digits_without_by (suc k) n x acc far all =
    let first : list_all (without x) (digit_glyph false (n % 10) ∷ acc) ≡ true = rw (glyph_is_other n x far) all in
    either_without (without x) (n / 10 == 0) _ _ first (digits_without_by k (n / 10) x (digit_glyph false (n % 10) ∷ acc) far first)

-- a number has no byte but digits
pub digits_without : (n x : ℕ) → (x < 48) ⊎ (57 < x) → list_all (without x) (decimal n) ≡ true
unfolding digits
digits_without n x far = digits_without_by 64 n x [] far refl

handled_with : (key : Key) → has_arm_fault (answer_line (answer.Handled key true)) ≡ true
unfolding answer_line
handled_with key =
    let line = answer_line (answer.Handled key true) in
    (ends_is Decides-eqb line (codes " fault arm") (has_arm_fault line) refl).1 (codes "handled " ++ decimal key.0) (sym (append_assoc (codes "handled ") (decimal key.0) (codes " fault arm")))

handled_without : (key : Key) → has_arm_fault (answer_line (answer.Handled key false)) ≡ false
unfolding answer_line
handled_without key = by_test (has_arm_fault line) refl
  where
    line : List ℕ
    line = codes "handled " ++ (decimal key.0 ++ [])

    none : list_all (without 102) line ≡ true
    none = list_all-append (without 102) (decimal key.0) [] ∙ ap (λ b. b && true) (digits_without key.0 102 (inr (omega arith)))

    some : (front : List ℕ) → list_all (without 102) (front ++ codes " fault arm") ≡ false
    some front = list_all-append (without 102) front (codes " fault arm") ∙ and_false (list_all (without 102) front)

    by_test : (t : Bool) → has_arm_fault line ≡ t → t ≡ false
    by_test false e = refl
    by_test true e =
        let ends = (ends_is Decides-eqb line (codes " fault arm") (has_arm_fault line) refl).0 e in
        absurd (true≢false (sym none ∙ ap (list_all (without 102)) ends ∙ some (take (length line - 10) line)))

-- ## The steps

quiet_case : (tells : List ℕ → Bool) (told : Answer) (w : World) → Case tells (λ answers. quiet told w answers)
quiet_case tells told w = no_call tells (λ answers. quiet told w answers) (λ a b. refl)

add_case : (w : World) → Case is_fault (add w)
unfolding answer_line
add_case w = by_test (nat_le source_limit (length w.live)) refl
  where
    by_test : (full : Bool) → nat_le source_limit (length w.live) ≡ full → Case is_fault (add w)
    by_test true e = no_call is_fault (add w) (λ a b. rw e refl)
    by_test false e = record {
      decided = by_first (Decided (add w)) (rw e refl) (λ rest. rw e refl) (λ events rest. rw e refl) (λ rest. rw e refl) (λ rest. rw e refl);
      told = inl (rw e refl, rw e refl);
    }

del_case : (w : World) (key : ℕ) (serial : Option ℕ) → Case is_fault (del_source w key serial)
unfolding answer_line
del_case w key None = quiet_case is_fault _ _
del_case w key (Some serial) = by_test (list_any (λ (l : ListenerEntry). l.serial == serial) w.listeners) refl
  where
    by_test : (used : Bool) → list_any (λ (l : ListenerEntry). l.serial == serial) w.listeners ≡ used → Case is_fault (del_source w key (Some serial))
    by_test true e = no_call is_fault (del_source w key (Some serial)) (λ a b. rw e refl)
    by_test false e =
        let f = del_source w key (Some serial) in
        record {
          decided = by_first (Decided f) (rw e refl) (λ rest. rw e refl) (λ events rest. rw e refl) (λ rest. rw e refl) (λ rest. rw e refl);
          told = inl (rw e refl, rw e refl);
        }

pending_case : (arms : Bool) (w : World) (key serial : ℕ) (wakes : List Waker) → Case is_fault (pending arms w key serial wakes)
unfolding answer_line
pending_case false w key serial wakes = no_call is_fault (pending false w key serial wakes) (λ a b. refl)
pending_case true w key serial wakes = record {
  decided = by_first (Decided (pending true w key serial wakes)) refl (λ rest. refl) (λ events rest. refl) (λ rest. refl) (λ rest. refl);
  told = inl (refl, refl);
}

poll_case : (w : World) (key : ℕ) (dir : Dir) (waker : Waker) (serial : Option ℕ) → Case is_fault (poll_source w key dir waker serial)
poll_case w key dir waker None = quiet_case is_fault _ _
poll_case w key dir waker (Some serial) =
    let waiter = poll_waiter w.poll_waiters serial dir in
    let arms = is_idle w serial dir || is_broken w serial in
    tested is_fault (is_fresh_since w serial dir (mark_of w.marks serial dir))
    (λ answers. quiet answer.Ready (record w { marks = without_mark w.marks serial dir }) answers)
    (λ answers. if is_waker waker waiter then pending (is_broken w serial) w key serial [] answers
    else pending arms (with_waiter w serial dir waker) key serial (option_to_list waiter) answers)
    (quiet_case is_fault answer.Ready (record w { marks = without_mark w.marks serial dir }))
    (tested is_fault (is_waker waker waiter) (λ answers. pending (is_broken w serial) w key serial [] answers)
    (λ answers. pending arms (with_waiter w serial dir waker) key serial (option_to_list waiter) answers)
    (pending_case (is_broken w serial) w key serial []) (pending_case arms (with_waiter w serial dir waker) key serial (option_to_list waiter)))

listener_case : (w : World) (waker : Waker) (entry : Option ListenerEntry) → Case is_fault (step_listener w waker entry)
listener_case w waker None = quiet_case is_fault _ _
listener_case w waker (Some entry) =
    let arms = is_idle w entry.serial entry.dir || is_broken w entry.serial in
    let listening : World = record w { listeners = with_listening w entry waker } in
    let key = unwrap_or (key_of w entry.serial) 0 in
    tested is_fault (is_fresh_since w entry.serial entry.dir entry.position) (λ answers. quiet answer.Ready w answers)
    (λ answers. pending arms listening key entry.serial [] answers)
    (quiet_case is_fault answer.Ready w) (pending_case arms listening key entry.serial [])

rearmed_case : (w : World) (round : RoundState) (key : Key) (serial : ℕ) → Case has_arm_fault (rearmed w round key serial)
rearmed_case w round key serial = by_test (is_empty_list (wanted w serial)) refl
  where
    by_test : (idle : Bool) → is_empty_list (wanted w serial) ≡ idle → Case has_arm_fault (rearmed w round key serial)
    by_test true e = no_call has_arm_fault (rearmed w round key serial) (λ a b. rw e refl)
    by_test false e =
        let f = rearmed w round key serial in
        record {
          decided = by_first (Decided f) (rw e refl) (λ rest. rw e refl) (λ events rest. rw e refl) (λ rest. rw e refl) (λ rest. rw e refl);
          told = inl (rw e (handled_with key), rw e (handled_without key));
        }

event_case : (w : World) (round : RoundState) (event : Event) (serial : Option ℕ) → Case has_arm_fault (handle_source w round event serial)
event_case w round event None = quiet_case has_arm_fault _ _
event_case w round event (Some serial) = rearmed_case _ _ event.key serial

first_case : (w : World) (round : RoundState) (hand : List Event) → Case has_arm_fault (handle_first w round hand)
first_case w round [] = quiet_case has_arm_fault _ _
first_case w round (event ∷ events) = event_case w (record round { in_hand = events }) event (serial_of w event.key.0)

handle_case : (w : World) (round : Option RoundState) → Case has_arm_fault (handle_in w round)
handle_case w None = quiet_case has_arm_fault _ _
handle_case w (Some round) = first_case w round round.in_hand

new_case : (w : World) (dir : Dir) (serial : Option ℕ) → Case is_fault (new_listener w dir serial)
new_case w dir None = quiet_case is_fault _ _
new_case w dir (Some serial) = quiet_case is_fault _ _

drop_case : (w : World) (number : ℕ) (entry : Option ListenerEntry) → Case is_fault (drop_listener w number entry)
drop_case w number None = quiet_case is_fault _ _
drop_case w number (Some entry) = quiet_case is_fault _ _

tick_case : (w : World) (waker : Waker) (entry : Option TimerEntry) → Case is_fault (tick_timer w waker entry)
tick_case w waker None = quiet_case is_fault _ _
tick_case w waker (Some entry) = quiet_case is_fault _ _

set_case : (w : World) (deadline : ℕ) (period : Option ℕ) (entry : Option TimerEntry) → Case is_fault (set_timer w deadline period entry)
set_case w deadline period None = quiet_case is_fault _ _
set_case w deadline period (Some entry) = quiet_case is_fault _ _

end_case : (w : World) (entry : Option TimerEntry) → Case is_fault (end_timer w entry)
end_case w None = quiet_case is_fault _ _
end_case w (Some entry) = quiet_case is_fault _ _

now_case : (w : World) (moment : ℕ) → Case is_fault (set_clock w moment)
now_case w moment = by_test (nat_lt moment w.now) refl
  where
    by_test : (back : Bool) → nat_lt moment w.now ≡ back → Case is_fault (set_clock w moment)
    by_test true e = no_call is_fault (set_clock w moment) (λ a b. rw e refl)
    by_test false e = no_call is_fault (set_clock w moment) (λ a b. rw e refl)

begin_case : (w : World) (given : Option ℕ) → Case is_fault (begin_round w given)
begin_case w given = by_test (is_some w.round) refl
  where
    by_test : (runs : Bool) → is_some w.round ≡ runs → Case is_fault (begin_round w given)
    by_test true e = no_call is_fault (begin_round w given) (λ a b. rw e refl)
    by_test false e = no_call is_fault (begin_round w given) (λ a b. rw e refl)

finish_case : (w : World) (round : Option RoundState) → Case is_fault (finish_in w round)
finish_case w None = quiet_case is_fault _ _
finish_case w (Some round) = by_test (is_empty_list round.in_hand) refl
  where
    by_test : (none : Bool) → is_empty_list round.in_hand ≡ none → Case is_fault (finish_in w (Some round))
    by_test true e = no_call is_fault (finish_in w (Some round)) (λ a b. rw e refl)
    by_test false e = no_call is_fault (finish_in w (Some round)) (λ a b. rw e refl)

-- the form of line by which a step tells that its call failed
abbrev pub tells : Step → List ℕ → Bool
tells step.Handle = has_arm_fault
tells _ = is_fault

step_case : (w : World) (s : Step) → has_entry s ≡ true → (s ≡ step.Wait → ⊥) → Case (tells s) (case_of w s)
step_case w step.Add entered other = add_case w
step_case w (step.Del key) entered other = del_case w key.0 (serial_of w key.0)
step_case w (step.Poll key dir waker) entered other = poll_case w key.0 dir waker (serial_of w key.0)
step_case w (step.New key dir) entered other = new_case w dir (serial_of w key.0)
step_case w (step.StepEar number waker) entered other = listener_case w waker (find (is_listener number) w.listeners)
step_case w (step.DropEar number) entered other = drop_case w number (find (is_listener number) w.listeners)
step_case w (step.TimerAt deadline) entered other = quiet_case is_fault _ _
step_case w (step.TimerEvery deadline period) entered other = quiet_case is_fault _ _
step_case w step.TimerNever entered other = quiet_case is_fault _ _
step_case w (step.Tick number waker) entered other = tick_case w waker (find (is_timer number) w.timers)
step_case w (step.SetAt number deadline) entered other = set_case w deadline None (find (is_timer number) w.timers)
step_case w (step.SetEvery number deadline period) entered other = set_case w deadline (Some period) (find (is_timer number) w.timers)
step_case w (step.End number) entered other = end_case w (find (is_timer number) w.timers)
step_case w (step.Now moment) entered other = now_case w moment
step_case w (step.Note event) entered other = absurd cc
step_case w (step.Fault kind) entered other = absurd cc
step_case w step.Interrupt entered other = absurd cc
step_case w (step.Begin limit) entered other = begin_case w limit
step_case w step.Wait entered other = absurd (other refl)
step_case w step.Handle entered other = handle_case w w.round
step_case w step.Finish entered other = finish_case w w.round
step_case w step.React entered other = absurd cc

-- ## The answer that is told

called : (t : Bool) → (if t then Fails else Succeeds) ≡ call t
called true = refl
called false = refl

told_is : (s : Step) (line : List ℕ) → has_entry s ≡ true → (s ≡ step.Wait → ⊥) → poller_told s line ≡ call (tells s line)
told_is step.Wait line entered other = absurd (other refl)
told_is step.Handle line entered other = called (has_arm_fault line)
told_is _ line entered other = called (is_fault line)

either_same : (f : Bool → Seen) (a b : Bool) → f true ≡ f false → f a ≡ f b
either_same f true true same = refl
either_same f true false same = same
either_same f false true same = sym same
either_same f false false same = refl

told_by : (tells : List ℕ → Bool) (f : List PollerAnswer → Outcome) (failed : Bool) → Told tells f
    → seen (moved_on (f (call (tells (answer_line (f (call failed ∷ [])).answer)) ∷ []))) ≡ seen (moved_on (f (call failed ∷ [])))
told_by tells f true (inl by_line) = ap (λ (t : Bool). seen (moved_on (f (call t ∷ [])))) by_line.0
told_by tells f false (inl by_line) = ap (λ (t : Bool). seen (moved_on (f (call t ∷ [])))) by_line.1
told_by tells f failed (inr same) = either_same (λ (t : Bool). seen (moved_on (f (call t ∷ [])))) (tells (answer_line (f (call failed ∷ [])).answer)) failed same

-- With the answer of the poller that its line tells, a step but a wait gives what it gave.
pub told_gives : (w : World) (s : Step) (answers : List PollerAnswer) → has_entry s ≡ true → (s ≡ step.Wait → ⊥)
    → seen (step_result w s (poller_told s (answer_line (step_result w s answers).answer) ∷ [])) ≡ seen (step_result w s answers)
unfolding step_result
told_gives w s answers entered other =
    let c = step_case w s entered other in
    let failed = fails (next_answer answers) in
    let same : seen (step_result w s answers) ≡ seen (moved_on (case_of w s (call failed ∷ []))) = c.decided answers in
    let line : answer_line (step_result w s answers).answer ≡ answer_line (case_of w s (call failed ∷ [])).answer = ap (λ (o : Seen). answer_line o.answer) same in
    ap (λ (text : List ℕ). seen (step_result w s (poller_told s text ∷ []))) line
    ∙ ap (λ (told : PollerAnswer). seen (step_result w s (told ∷ []))) (told_is s (answer_line (case_of w s (call failed ∷ [])).answer) entered other)
    ∙ told_by (tells s) (case_of w s) failed c.told
    ∙ sym same
