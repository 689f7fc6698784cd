-- A step that is refused moves no storing.
use Rattle.std.proofs.Common.{◌≡◌, ℕ, Bool, true, false, cond, List, [], ◌∷◌, find, Option, None, Some, is_some, refl, subst}
use Rattle.std.specs.Prelude.{◌==◌, nat_le}
use Rattle.std.specs.List.{list_any}
use Rattle.aio_base.specs.declared.names.Key.{Key}
use Rattle.aio_base.specs.declared.names.Waker.{Waker}
use Rattle.aio_base.specs.declared.names.Dir.{Dir}
use Rattle.aio_base.specs.declared.names.Event.{Event}
use Rattle.aio_base.specs.declared.steps.Step.{Step}
use Rattle.aio_base.specs.declared.steps.Step.TheVariants as step
use Rattle.aio_base.specs.declared.steps.Answer.{Answer}
use Rattle.aio_base.specs.World.{PollerAnswer, ListenerEntry, TimerEntry, RoundState, World, serial_of, poll_waiter, mark_of, is_empty_list, wanted}
use Rattle.aio_base.specs.Machine.{Outcome, is_listener, is_timer, next_answer, fails, pending, is_fresh_since, is_waker, del_source, poll_source, step_listener, drop_listener, tick_timer, set_timer, end_timer, begin_round, rearmed, handle_source, handle_first, handle_in, finish_in, hand_of, react, step_result}
use Rattle.aio_base.proofs.TimerCases.{tick_deadline, tick_by_deadline}
use Rattle.aio_base.specs.Refusals.{is_refusal}
use Rattle.aio_laws.specs.Storings.{Storings, del_moves, poll_moves, listener_moves, drop_moves, tick_moves_at, tick_moves, set_moves, end_moves, begin_moves, handle_moves_first, finish_moves_in, react_moves, step_storings}

-- this outcome is no refusal
record Proceeds (o : Outcome) : Type 0 where
  pub answer : is_refusal o.answer ≡ false

-- where this outcome is a refusal, the storings are as before
record Unmoved (l m : Storings) (o : Outcome) : Type 0 where
  pub same : is_refusal o.answer ≡ true → m ≡ l

proceeding : (l m : Storings) (o : Outcome) → Proceeds o → Unmoved l m o
proceeding l m o p = record { same = λ refused. absurd (let proceeds = p.answer in cc) }

left_alone : (l : Storings) (o : Outcome) → Unmoved l l o
left_alone l o = record { same = λ refused. refl }

-- one of two outcomes, with the storings of the same one
either : (l : Storings) (test : Bool) (m n : Storings) (x y : Outcome) → Unmoved l m x → Unmoved l n y → Unmoved l (cond test m n) (cond test x y)
either l true m n x y first second = first
either l false m n x y first second = second

-- an answer by a test
chosen : (test : Bool) (a b : Answer) → is_refusal a ≡ false → is_refusal b ≡ false → is_refusal (cond test a b) ≡ false
chosen true a b first second = first
chosen false a b first second = second

-- an outcome by a test
chosen_proceeds : (test : Bool) (x y : Outcome) → Proceeds x → Proceeds y → Proceeds (cond test x y)
chosen_proceeds true x y first second = first
chosen_proceeds false x y first second = second

pending_proceeds : (test : Bool) (w : World) (key serial : ℕ) (wakes : List Waker) (answers : List PollerAnswer) → Proceeds (pending test w key serial wakes answers)
pending_proceeds false w key serial wakes answers = record { answer = refl }
pending_proceeds true w key serial wakes answers = record { answer = chosen (fails (next_answer answers)) _ _ refl refl }

del_unmoved : (w : World) (key : ℕ) (serial : Option ℕ) (answers : List PollerAnswer) (l : Storings)
    → Unmoved l (del_moves w serial l) (del_source w key serial answers)
del_unmoved w key None answers l = left_alone l _
del_unmoved w key (Some serial) answers l =
    either l (list_any (λ (e : ListenerEntry). e.serial == serial) w.listeners) l _ _ _ (left_alone l _)
    (proceeding l _ _ (record { answer = chosen (fails (next_answer answers)) _ _ refl refl }))

poll_unmoved : (w : World) (key : ℕ) (dir : Dir) (waker : Waker) (serial : Option ℕ) (answers : List PollerAnswer) (l : Storings)
    → Unmoved l (poll_moves w dir waker serial l) (poll_source w key dir waker serial answers)
poll_unmoved w key dir waker None answers l = left_alone l _
poll_unmoved w key dir waker (Some serial) answers l =
    proceeding l _ _ (chosen_proceeds (is_fresh_since w serial dir (mark_of w.marks serial dir)) _ _ (record { answer = refl })
    (chosen_proceeds (is_waker waker (poll_waiter w.poll_waiters serial dir)) _ _ (pending_proceeds _ _ _ _ _ _) (pending_proceeds _ _ _ _ _ _)))

listener_unmoved : (w : World) (waker : Waker) (entry : Option ListenerEntry) (answers : List PollerAnswer) (l : Storings)
    → Unmoved l (listener_moves w waker entry l) (step_listener w waker entry answers)
listener_unmoved w waker None answers l = left_alone l _
listener_unmoved w waker (Some entry) answers l =
    proceeding l _ _ (chosen_proceeds (is_fresh_since w entry.serial entry.dir entry.position) _ _ (record { answer = refl }) (pending_proceeds _ _ _ _ _ _))

drop_unmoved : (w : World) (number : ℕ) (entry : Option ListenerEntry) (answers : List PollerAnswer) (l : Storings)
    → Unmoved l (drop_moves entry l) (drop_listener w number entry answers)
drop_unmoved w number None answers l = left_alone l _
drop_unmoved w number (Some entry) answers l = proceeding l _ _ (record { answer = refl })

tick_unmoved_at : (w : World) (waker : Waker) (entry : TimerEntry) (deadline : Option ℕ) (answers : List PollerAnswer) (l : Storings)
    → Unmoved l (tick_moves_at w waker entry deadline l) (tick_deadline w entry waker deadline answers)
tick_unmoved_at w waker entry None answers l = left_alone l _
tick_unmoved_at w waker entry (Some deadline) answers l =
    proceeding l _ _ (chosen_proceeds (nat_le deadline w.now) _ _ (record { answer = refl }) (record { answer = refl }))

tick_unmoved : (w : World) (waker : Waker) (entry : Option TimerEntry) (answers : List PollerAnswer) (l : Storings)
    → Unmoved l (tick_moves w waker entry l) (tick_timer w waker entry answers)
tick_unmoved w waker None answers l = left_alone l _
tick_unmoved w waker (Some entry) answers l =
    subst (λ o. Unmoved l (tick_moves w waker (Some entry) l) o) (tick_by_deadline w waker entry answers)
    (tick_unmoved_at w waker entry entry.deadline answers l)

set_unmoved : (w : World) (deadline : ℕ) (period : Option ℕ) (entry : Option TimerEntry) (answers : List PollerAnswer) (l : Storings)
    → Unmoved l (set_moves w entry l) (set_timer w deadline period entry answers)
set_unmoved w deadline period None answers l = left_alone l _
set_unmoved w deadline period (Some entry) answers l = proceeding l _ _ (record { answer = refl })

end_unmoved : (w : World) (entry : Option TimerEntry) (answers : List PollerAnswer) (l : Storings) → Unmoved l (end_moves entry l) (end_timer w entry answers)
end_unmoved w None answers l = left_alone l _
end_unmoved w (Some entry) answers l = proceeding l _ _ (record { answer = refl })

begin_unmoved : (w : World) (limit : Option ℕ) (answers : List PollerAnswer) (l : Storings) → Unmoved l (begin_moves w l) (begin_round w limit answers)
begin_unmoved w limit answers l = either l (is_some w.round) l _ _ _ (left_alone l _) (proceeding l _ _ (record { answer = refl }))

rearmed_proceeds : (w : World) (round : RoundState) (key : Key) (serial : ℕ) (answers : List PollerAnswer) → Proceeds (rearmed w round key serial answers)
rearmed_proceeds w round key serial answers = chosen_proceeds (is_empty_list (wanted w serial)) _ _ (record { answer = refl }) (record { answer = refl })

source_proceeds : (w : World) (round : RoundState) (event : Event) (serial : Option ℕ) (answers : List PollerAnswer)
    → Proceeds (handle_source w round event serial answers)
source_proceeds w round event None answers = record { answer = refl }
source_proceeds w round event (Some serial) answers = rearmed_proceeds _ _ event.key serial answers

first_unmoved : (w : World) (round : RoundState) (events : List Event) (answers : List PollerAnswer) (l : Storings)
    → Unmoved l (handle_moves_first w events l) (handle_first w round events answers)
first_unmoved w round [] answers l = left_alone l _
first_unmoved w round (event ∷ events) answers l =
    proceeding l _ _ (source_proceeds w (record round { in_hand = events }) event (serial_of w event.key.0) answers)

handle_unmoved : (w : World) (round : Option RoundState) (answers : List PollerAnswer) (l : Storings)
    → Unmoved l (handle_moves_first w (hand_of round) l) (handle_in w round answers)
handle_unmoved w None answers l = left_alone l _
handle_unmoved w (Some round) answers l = first_unmoved w round round.in_hand answers l

finish_unmoved : (w : World) (round : Option RoundState) (answers : List PollerAnswer) (l : Storings)
    → Unmoved l (finish_moves_in w round l) (finish_in w round answers)
finish_unmoved w None answers l = left_alone l _
finish_unmoved w (Some round) answers l =
    either l (is_empty_list round.in_hand) _ l _ _ (proceeding l _ _ (record { answer = refl })) (left_alone l _)

react_unmoved : (w : World) (answers : List PollerAnswer) (l : Storings) → Unmoved l (react_moves w answers l) (react w None answers)
react_unmoved w answers l = either l (is_some w.round) l _ _ _ (left_alone l _) (proceeding l _ _ (record { answer = refl }))

pub refused_moves_nothing : (w : World) (s : Step) (answers : List PollerAnswer) (l : Storings) → is_refusal (step_result w s answers).answer ≡ true
    → step_storings w s answers l ≡ l
unfolding step_result
refused_moves_nothing w (step.Del key) answers l refused = (del_unmoved w key.0 (serial_of w key.0) answers l).same refused
refused_moves_nothing w (step.Poll key dir waker) answers l refused = (poll_unmoved w key.0 dir waker (serial_of w key.0) answers l).same refused
refused_moves_nothing w (step.StepEar number waker) answers l refused = (listener_unmoved w waker (find (is_listener number) w.listeners) answers l).same refused
refused_moves_nothing w (step.DropEar number) answers l refused = (drop_unmoved w number (find (is_listener number) w.listeners) answers l).same refused
refused_moves_nothing w (step.Tick number waker) answers l refused = (tick_unmoved w waker (find (is_timer number) w.timers) answers l).same refused
refused_moves_nothing w (step.SetAt number deadline) answers l refused = (set_unmoved w deadline None (find (is_timer number) w.timers) answers l).same refused
refused_moves_nothing w (step.SetEvery number deadline period) answers l refused =
    (set_unmoved w deadline (Some period) (find (is_timer number) w.timers) answers l).same refused
refused_moves_nothing w (step.End number) answers l refused = (end_unmoved w (find (is_timer number) w.timers) answers l).same refused
refused_moves_nothing w (step.Begin limit) answers l refused = (begin_unmoved w limit answers l).same refused
refused_moves_nothing w step.Handle answers l refused = (handle_unmoved w w.round answers l).same refused
refused_moves_nothing w step.Finish answers l refused = (finish_unmoved w w.round answers l).same refused
refused_moves_nothing w step.React answers l refused = (react_unmoved w answers l).same refused
refused_moves_nothing w _ answers l refused = refl
