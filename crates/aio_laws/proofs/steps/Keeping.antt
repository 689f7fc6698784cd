-- What a timer keeps of its registration after a step.
use Rattle.std.proofs.Common.{◌≡◌, ℕ, ◌+◌, Bool, true, false, not, cond, ◌&&◌, ◌||◌, ◌==◌, List, [], ◌∷◌, ◌++◌, map, find, Option, None, Some, is_some, option_map, refl, ap, ◌∙◌, sym, subst, ⊎_elim}
use Rattle.std.specs.Prelude.{nat_le}
use Rattle.std.specs.List.{filter}
use Rattle.std.proofs.lemmas.Bool.{cases_Bool, cond_both, cond-true, cond-false, eq-eqb, eqb-true}
use Rattle.std.proofs.lemmas.List.Folds.{find-append}
use Rattle.aio_base.specs.declared.names.Waker.{Waker}
use Rattle.aio_base.specs.declared.steps.Step.{Step}
use Rattle.aio_base.specs.declared.steps.Step.TheVariants as step
use Rattle.aio_base.specs.declared.steps.Answer.{Answer}
use Rattle.aio_base.specs.declared.steps.Answer.TheVariants as answer
use Rattle.aio_base.specs.World.{PollerAnswer, TimerEntry, World}
use Rattle.aio_base.specs.Machine.{Outcome, is_waker, is_timer, with_timer, unregistered, registered, next_deadline, tick_timer, set_timer, end_timer, case_of, step_result}
use Rattle.aio_base.proofs.TimerCases.{fired, waiting, tick_deadline, tick_by_deadline, set_deadline, set_by_kept}
use Rattle.aio_laws.specs.Own.{keeping, registered_with, waits_on, keeping_after, new_timer_entry}
use Rattle.aio_base.proofs.Membership.{found_is_in}
use Rattle.aio_base.proofs.Searching.{mapped_found, without_found}
use Rattle.aio_laws.proofs.steps.Frames.{Frame, gone_keeps, case_keeps}

-- under each number, what the timer that is found there keeps after a step
abbrev pub Kept : World → Step → Answer → World → Type 0
Kept w s told v = (number : ℕ) (old t : TimerEntry) → find (is_timer number) w.timers ≡ Some old → find (is_timer number) v.timers ≡ Some t
    → keeping t ≡ keeping_after w s told number old t.deadline

same_timer : (a b : TimerEntry) → Some a ≡ Some b → a ≡ b
same_timer a b same = cc

-- ## Timers that stay

still : (w v : World) (s : Step) (told : Answer)
    → ((n : ℕ) (old : TimerEntry) (next : Option ℕ) → find (is_timer n) w.timers ≡ Some old → keeping_after w s told n old next ≡ keeping old)
    → v.timers ≡ w.timers → Kept w s told v
still w v s told none same n old t before after =
    let is : old ≡ t = same_timer old t (sym before ∙ ap (find (is_timer n)) (sym same) ∙ after) in
    ap keeping (sym is) ∙ sym (none n old t.deadline before)

made : (w v : World) (s : Step) (told : Answer) (new : TimerEntry)
    → ((n : ℕ) (old : TimerEntry) (next : Option ℕ) → keeping_after w s told n old next ≡ keeping old)
    → v.timers ≡ w.timers ++ new ∷ [] → Kept w s told v
made w v s told new none more n old t before after =
    let front : find (is_timer n) (w.timers ++ new ∷ []) ≡ Some old = rw (find-append, before) refl in
    let is : old ≡ t = same_timer old t (sym front ∙ ap (find (is_timer n)) (sym more) ∙ after) in
    ap keeping (sym is) ∙ sym (none n old t.deadline)

left : (gone : Bool) (found : Option TimerEntry) (t : TimerEntry) → cond gone None found ≡ Some t → found ≡ Some t
left true found t is = absurd cc
left false found t is = is

gone_timers : (w : World) (id : Option ℕ) → (unregistered w id).timers ≡ w.timers
gone_timers w id = ap (λ (f : Frame). f.timers) (gone_keeps w id)

gone_ids : (w : World) (id : Option ℕ) → (unregistered w id).ids_drawn ≡ w.ids_drawn
gone_ids w None = refl
gone_ids w (Some id) = refl

ended : (w u : World) (s : Step) (told : Answer) (m : ℕ) → u.timers ≡ w.timers
    → ((n : ℕ) (old : TimerEntry) (next : Option ℕ) → keeping_after w s told n old next ≡ keeping old)
    → Kept w s told (record u { timers = filter (λ (t : TimerEntry). not (is_timer m t)) u.timers })
ended w u s told m same none n old t before after =
    let stays : find (is_timer n) u.timers ≡ Some t =
    left (n == m) (find (is_timer n) u.timers) t (sym (without_found (λ (t : TimerEntry). t.number) m n u.timers) ∙ after) in
    let is : old ≡ t = same_timer old t (sym before ∙ ap (find (is_timer n)) (sym same) ∙ stays) in
    ap keeping (sym is) ∙ sym (none n old t.deadline)

-- ## Another entry in a timer's place

number_stays : (new t : TimerEntry) (here : Bool) (n : ℕ) → is_timer new.number t ≡ here → is_timer n (cond here new t) ≡ is_timer n t
number_stays new t true n own = ap (λ m. m == n) (sym (eqb-true t.number new.number own))
number_stays new t false n other = refl

placed : (w u : World) (s : Step) (told : Answer) (new : TimerEntry) → u.timers ≡ w.timers
    → ((n : ℕ) (old : TimerEntry) (next : Option ℕ) → (n == new.number) ≡ false → keeping_after w s told n old next ≡ keeping old)
    → ((old : TimerEntry) → find (is_timer new.number) w.timers ≡ Some old → keeping new ≡ keeping_after w s told new.number old new.deadline)
    → Kept w s told (with_timer u new)
placed w u s told new same others own n old t before after =
    let f : TimerEntry → TimerEntry = λ t. cond (is_timer new.number t) new t in
    let found : find (is_timer n) (map f u.timers) ≡ Some (f old) =
    mapped_found f (is_timer n) (is_timer n) (λ x. number_stays new x (is_timer new.number x) n refl) u.timers
    ∙ ap (λ (ts : List TimerEntry). option_map f (find (is_timer n) ts)) same ∙ ap (option_map f) before in
    let is : f old ≡ t = same_timer (f old) t (sym found ∙ after) in
    let number : old.number ≡ n = eqb-true old.number n (found_is_in (is_timer n) w.timers old before).1 in
    ⊎_elim
    (λ (here : (n == new.number) ≡ true).
    let at : n ≡ new.number = eqb-true n new.number here in
    let now : new ≡ t = sym (cond-true (is_timer new.number old) new old (ap (λ m. m == new.number) number ∙ here)) ∙ is in
    subst (λ (x : TimerEntry). keeping x ≡ keeping_after w s told n old x.deadline) now
    (subst (λ m. keeping new ≡ keeping_after w s told m old new.deadline) (sym at)
    (own old (subst (λ m. find (is_timer m) w.timers ≡ Some old) at before))))
    (λ (other : (n == new.number) ≡ false).
    let stays : old ≡ t = sym (cond-false (is_timer new.number old) new old (ap (λ m. m == new.number) number ∙ other)) ∙ is in
    ap keeping (sym stays) ∙ sym (others n old t.deadline other))
    (cases_Bool (n == new.number))

found_number : (number : ℕ) (timers : List TimerEntry) (entry : TimerEntry) → find (is_timer number) timers ≡ Some entry → entry.number ≡ number
found_number number timers entry found = eqb-true entry.number number (found_is_in (is_timer number) timers entry found).1

-- what a step of a timer gives to the one that it finds
given : {X : Type 0} (number n : ℕ) (x y : X) → n ≡ number → cond (n == number) x y ≡ x
given number n x y same = cond-true (n == number) x y (eq-eqb n number same)

-- ## Polls of timers

-- the entry that a step of a timer finds, in whose place another one is
tick_placed : (w u : World) (number : ℕ) (waker : Waker) (told : Answer) (entry new : TimerEntry) → u.timers ≡ w.timers
    → find (is_timer number) w.timers ≡ Some entry → new.number ≡ entry.number
    → ((n : ℕ) (old : TimerEntry) (next : Option ℕ) → (n == number) ≡ false → keeping_after w (step.Tick number waker) told n old next ≡ keeping old)
    → keeping new ≡ keeping_after w (step.Tick number waker) told number entry new.deadline
    → Kept w (step.Tick number waker) told (with_timer u new)
tick_placed w u number waker told entry new same found own others keeps =
    let at : new.number ≡ number = own ∙ found_number number w.timers entry found in
    placed w u (step.Tick number waker) told new same (λ n old next other. others n old next (subst (λ m. (n == m) ≡ false) at other))
    (λ old there.
    let is : entry ≡ old = same_timer entry old (sym found ∙ subst (λ m. find (is_timer m) w.timers ≡ Some old) at there) in
    subst (λ m. keeping new ≡ keeping_after w (step.Tick number waker) told m old new.deadline) (sym at)
    (subst (λ (x : TimerEntry). keeping new ≡ keeping_after w (step.Tick number waker) told number x new.deadline) is keeps))

fired_kept : (w : World) (number deadline : ℕ) (waker : Waker) (entry : TimerEntry) (next : Option ℕ) → find (is_timer number) w.timers ≡ Some entry
    → Kept w (step.Tick number waker) (answer.ReadyAt deadline) (fired (unregistered w entry.id) entry waker next)
fired_kept w number deadline waker entry None found =
    tick_placed w (unregistered w entry.id) number waker (answer.ReadyAt deadline) entry (record entry { deadline = None; id = None; kept = None })
    (gone_timers w entry.id) found refl (λ n old next other. cond-false (n == number) _ _ other) (sym (given number number _ _ refl))
fired_kept w number deadline waker entry (Some next) found =
    let u = unregistered w entry.id in
    tick_placed w u number waker (answer.ReadyAt deadline) entry (record entry { deadline = Some next; id = Some (u.ids_drawn + 1); kept = Some waker })
    (gone_timers w entry.id) found refl (λ n old next other. cond-false (n == number) _ _ other)
    (ap (λ ids. record { id = Some (ids + 1); waker = Some waker }) (gone_ids w entry.id) ∙ sym (given number number _ _ refl))

pending_given : (w : World) (number : ℕ) (waker : Waker) (entry : TimerEntry) (next : Option ℕ)
    → keeping_after w (step.Tick number waker) answer.Pending number entry next
    ≡ cond (waits_on waker entry) (keeping entry) (registered_with w (Some waker))
pending_given w number waker entry next = given number number _ _ refl

waits_by : (waker : Waker) (entry : TimerEntry) (deadline : ℕ) → entry.deadline ≡ Some deadline
    → waits_on waker entry ≡ (is_some entry.id && is_waker waker entry.kept)
waits_by waker entry deadline at = ap (λ (d : Option ℕ). not (is_some d) || (is_some entry.id && is_waker waker entry.kept)) at

-- a timer that is found and waits on
waiting_still : (w : World) (number : ℕ) (waker : Waker) (entry : TimerEntry) → find (is_timer number) w.timers ≡ Some entry → waits_on waker entry ≡ true
    → Kept w (step.Tick number waker) answer.Pending w
waiting_still w number waker entry found waits =
    still w w (step.Tick number waker) answer.Pending
    (λ n old next there.
    cond_both (n == number) (cond (waits_on waker old) (keeping old) (registered_with w (Some waker))) (keeping old) (λ k. k ≡ keeping old)
    (λ here.
    let is : entry ≡ old = same_timer entry old (sym found ∙ subst (λ m. find (is_timer m) w.timers ≡ Some old) (eqb-true n number here) there) in
    cond-true (waits_on waker old) _ _ (subst (λ (x : TimerEntry). waits_on waker x ≡ true) is waits))
    (λ other. refl))
    refl

waiting_kept : (w : World) (number deadline : ℕ) (waker : Waker) (entry : TimerEntry) → find (is_timer number) w.timers ≡ Some entry
    → entry.deadline ≡ Some deadline → Kept w (step.Tick number waker) answer.Pending (waiting w entry deadline waker)
waiting_kept w number deadline waker entry found at =
    let u = unregistered w entry.id in
    cond_both (is_some entry.id && is_waker waker entry.kept) w (registered u entry deadline waker) (λ (v : World). Kept w (step.Tick number waker) answer.Pending v)
    (λ same. waiting_still w number waker entry found (waits_by waker entry deadline at ∙ same))
    (λ other.
    tick_placed w u number waker answer.Pending entry (record entry { deadline = Some deadline; id = Some (u.ids_drawn + 1); kept = Some waker })
    (gone_timers w entry.id) found refl (λ n old next other. cond-false (n == number) _ _ other)
    (ap (λ ids. record { id = Some (ids + 1); waker = Some waker }) (gone_ids w entry.id)
    ∙ sym (pending_given w number waker entry (Some deadline) ∙ cond-false (waits_on waker entry) _ _ (waits_by waker entry deadline at ∙ other))))

tick_kept_at : (w : World) (number : ℕ) (waker : Waker) (entry : TimerEntry) (deadline : Option ℕ) (answers : List PollerAnswer)
    → find (is_timer number) w.timers ≡ Some entry → entry.deadline ≡ deadline
    → Kept w (step.Tick number waker) (tick_deadline w entry waker deadline answers).answer (tick_deadline w entry waker deadline answers).world
tick_kept_at w number waker entry None answers found at =
    waiting_still w number waker entry found (ap (λ (d : Option ℕ). not (is_some d) || (is_some entry.id && is_waker waker entry.kept)) at)
tick_kept_at w number waker entry (Some deadline) answers found at =
    cond_both (nat_le deadline w.now) _ _ (λ (o : Outcome). Kept w (step.Tick number waker) o.answer o.world)
    (λ due. fired_kept w number deadline waker entry (next_deadline deadline entry.period) found)
    (λ later. waiting_kept w number deadline waker entry found at)

tick_kept : (w : World) (number : ℕ) (waker : Waker) (found : Option TimerEntry) (answers : List PollerAnswer) → find (is_timer number) w.timers ≡ found
    → Kept w (step.Tick number waker) (tick_timer w waker found answers).answer (tick_timer w waker found answers).world
tick_kept w number waker None answers is = still w w (step.Tick number waker) answer.NoTimer (λ n old next there. refl) refl
tick_kept w number waker (Some entry) answers is =
    subst (λ (o : Outcome). Kept w (step.Tick number waker) o.answer o.world) (tick_by_deadline w waker entry answers)
    (tick_kept_at w number waker entry entry.deadline answers is refl)

-- ## Timers that are set

-- a step that sets a timer, by what it gives
record Sets (w : World) (s : Step) (number : ℕ) : Type 0 where
  others : (n : ℕ) (old : TimerEntry) (next : Option ℕ) → (n == number) ≡ false → keeping_after w s answer.Set n old next ≡ keeping old
  own : (old : TimerEntry) (next : Option ℕ) → keeping_after w s answer.Set number old next ≡ registered_with w old.kept
  none : (n : ℕ) (old : TimerEntry) (next : Option ℕ) → keeping_after w s answer.NoTimer n old next ≡ keeping old

set_placed : (w u : World) (s : Step) (number : ℕ) (entry new : TimerEntry) → Sets w s number → u.timers ≡ w.timers
    → find (is_timer number) w.timers ≡ Some entry → new.number ≡ entry.number → keeping new ≡ registered_with w entry.kept
    → Kept w s answer.Set (with_timer u new)
set_placed w u s number entry new sets same found own keeps =
    let at : new.number ≡ number = own ∙ found_number number w.timers entry found in
    placed w u s answer.Set new same (λ n old next other. sets.others n old next (subst (λ m. (n == m) ≡ false) at other))
    (λ old there.
    let is : entry ≡ old = same_timer entry old (sym found ∙ subst (λ m. find (is_timer m) w.timers ≡ Some old) at there) in
    subst (λ m. keeping new ≡ keeping_after w s answer.Set m old new.deadline) (sym at)
    (keeps ∙ ap (λ (x : TimerEntry). registered_with w x.kept) is ∙ sym (sets.own old new.deadline)))

set_kept_at : (w : World) (s : Step) (number deadline : ℕ) (entry set : TimerEntry) (kept : Option Waker) → Sets w s number
    → find (is_timer number) w.timers ≡ Some entry → set.number ≡ entry.number → entry.kept ≡ kept → set.kept ≡ kept
    → Kept w s answer.Set (set_deadline (unregistered w entry.id) set deadline kept)
set_kept_at w s number deadline entry set None sets found own had has =
    set_placed w (unregistered w entry.id) s number entry (record set { deadline = Some deadline; id = None }) sets (gone_timers w entry.id) found own
    (ap (λ (k : Option Waker). record { id = None; waker = k }) has ∙ sym (ap (registered_with w) had))
set_kept_at w s number deadline entry set (Some waker) sets found own had has =
    let u = unregistered w entry.id in
    set_placed w u s number entry (record set { deadline = Some deadline; id = Some (u.ids_drawn + 1); kept = Some waker }) sets (gone_timers w entry.id) found own
    (ap (λ ids. record { id = Some (ids + 1); waker = Some waker }) (gone_ids w entry.id) ∙ sym (ap (registered_with w) had))

set_kept_by : (w : World) (s : Step) (number deadline : ℕ) (entry : TimerEntry) (period : Option ℕ) (longer : Bool) → Sets w s number
    → find (is_timer number) w.timers ≡ Some entry
    → Kept w s answer.Set (set_deadline (unregistered w entry.id) (cond longer (record entry { period = period }) entry) deadline entry.kept)
set_kept_by w s number deadline entry period true sets found =
    set_kept_at w s number deadline entry (record entry { period = period }) entry.kept sets found refl refl refl
set_kept_by w s number deadline entry period false sets found = set_kept_at w s number deadline entry entry entry.kept sets found refl refl refl

set_kept : (w : World) (s : Step) (number deadline : ℕ) (period : Option ℕ) (found : Option TimerEntry) (answers : List PollerAnswer) → Sets w s number
    → find (is_timer number) w.timers ≡ found → Kept w s (set_timer w deadline period found answers).answer (set_timer w deadline period found answers).world
set_kept w s number deadline period None answers sets is = still w w s answer.NoTimer (λ n old next there. sets.none n old next) refl
set_kept w s number deadline period (Some entry) answers sets is =
    subst (λ (o : Outcome). Kept w s o.answer o.world) (set_by_kept w deadline period entry answers)
    (set_kept_by w s number deadline entry period (is_some period) sets is)

sets_at : (w : World) (number deadline : ℕ) → Sets w (step.SetAt number deadline) number
sets_at w number deadline = record {
  others = λ n old next other. cond-false (n == number) _ _ other;
  own = λ old next. given number number _ _ refl;
  none = λ n old next. refl;
}

sets_every : (w : World) (number deadline period : ℕ) → Sets w (step.SetEvery number deadline period) number
sets_every w number deadline period = record {
  others = λ n old next other. cond-false (n == number) _ _ other;
  own = λ old next. given number number _ _ refl;
  none = λ n old next. refl;
}

end_kept : (w : World) (number : ℕ) (found : Option TimerEntry) (answers : List PollerAnswer)
    → Kept w (step.End number) (end_timer w found answers).answer (end_timer w found answers).world
end_kept w number None answers = still w w (step.End number) answer.NoTimer (λ n old next there. refl) refl
end_kept w number (Some entry) answers =
    ended w (unregistered w entry.id) (step.End number) answer.Ended entry.number (gone_timers w entry.id) (λ n old next. refl)

-- ## A step

-- a step that is not of a timer
quietly : (w : World) (s : Step) (o : Outcome) → o.world.timers ≡ w.timers
    → ((n : ℕ) (old : TimerEntry) (next : Option ℕ) → keeping_after w s o.answer n old next ≡ keeping old) → Kept w s o.answer o.world
quietly w s o same none = still w o.world s o.answer (λ n old next there. none n old next) same

case_kept : (w : World) (s : Step) (answers : List PollerAnswer) → Kept w s (case_of w s answers).answer (case_of w s answers).world
case_kept w (step.TimerAt deadline) answers =
    made w (case_of w (step.TimerAt deadline) answers).world (step.TimerAt deadline) (answer.Timer (w.timers_made + 1)) (new_timer_entry w (Some deadline) None)
    (λ n old next. refl) refl
case_kept w (step.TimerEvery deadline period) answers =
    made w (case_of w (step.TimerEvery deadline period) answers).world (step.TimerEvery deadline period) (answer.Timer (w.timers_made + 1))
    (new_timer_entry w (Some deadline) (Some period)) (λ n old next. refl) refl
case_kept w step.TimerNever answers =
    made w (case_of w step.TimerNever answers).world step.TimerNever (answer.Timer (w.timers_made + 1)) (new_timer_entry w None None) (λ n old next. refl) refl
case_kept w (step.Tick number waker) answers = tick_kept w number waker (find (is_timer number) w.timers) answers refl
case_kept w (step.SetAt number deadline) answers =
    set_kept w (step.SetAt number deadline) number deadline None (find (is_timer number) w.timers) answers (sets_at w number deadline) refl
case_kept w (step.SetEvery number deadline period) answers =
    set_kept w (step.SetEvery number deadline period) number deadline (Some period) (find (is_timer number) w.timers) answers (sets_every w number deadline period) refl
case_kept w (step.End number) answers = end_kept w number (find (is_timer number) w.timers) answers
case_kept w s answers = quietly w s (case_of w s answers) (ap (λ (f : Frame). f.timers) (case_keeps w s answers)) (λ n old next. refl)

pub timers_keep : (w : World) (s : Step) (answers : List PollerAnswer) → Kept w s (step_result w s answers).answer (step_result w s answers).world
unfolding step_result
timers_keep w s answers = case_kept w s answers
