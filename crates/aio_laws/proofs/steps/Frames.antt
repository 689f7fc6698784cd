-- What the steps of the machine leave alone: the clock, the rounds, the sources, the listeners but for their wakers, the timers and the past.
use Rattle.std.proofs.Common.{◌≡◌, ℕ, Bool, true, false, not, cond, ◌||◌, ◌==◌, List, [], ◌∷◌, length, map, find, Option, None, Some, is_some, refl, ap, ◌∙◌, sym}
use Rattle.std.specs.Prelude.{nat_le, nat_lt, option_to_list, unwrap_or}
use Rattle.std.specs.List.{filter, list_any}
use Rattle.aio_base.specs.declared.names.Key.{Key}
use Rattle.aio_base.specs.declared.names.Waker.{Waker}
use Rattle.aio_base.specs.declared.names.Dir.{Dir}
use Rattle.aio_base.specs.declared.names.Event.{Event}
use Rattle.aio_base.specs.declared.steps.Step.{Step}
use Rattle.aio_base.specs.declared.steps.Step.TheVariants as step
use Rattle.aio_base.specs.World.{PollerAnswer, Succeeds, Gives, LiveSource, ListenerEntry, ArmedDirection, Registration, TimerEntry, RoundState, HandledDirection, World, directions_of, is_of, serial_of, key_of, poll_waiter, mark_of, is_empty_list, is_idle, is_broken, wanted}
use Rattle.aio_base.specs.Machine.{Outcome, fails, next_answer, later_answers, broken_world, armed_world, after_arm, pending, source_limit, add, del_source, is_fresh_since, is_waker, with_waiter, poll_source, new_listener, with_listening, step_listener, drop_listener, is_listener, is_timer, unregistered, tick_timer, set_timer, end_timer, begin_round, wait_answered, wait_in, wait_round, without_waiters, world_taken, rearmed, handle_source, handle_first, handle_in, handle_round, finish_in, handle_each, hand_of, react, case_of}
use Rattle.aio_base.proofs.TimerCases.{with_timers, tick_any, set_any}
use Rattle.aio_laws.specs.RoundCounts.{RoundName, name_of}

-- a listener but for its waker
abbrev pub bare : ListenerEntry → ListenerEntry
bare l = record l { waker = None }

pub record Frame : Type 0 where
  pub now : ℕ
  pub rounds : ℕ
  pub begun : List ℕ
  pub name : Option RoundName
  pub live : List LiveSource
  pub listeners : List ListenerEntry
  pub timers : List TimerEntry
  pub handled : List HandledDirection

abbrev pub frame : World → Frame
frame w = record {
  now = w.now;
  rounds = w.rounds;
  begun = w.begun;
  name = name_of w.round;
  live = w.live;
  listeners = map bare w.listeners;
  timers = w.timers;
  handled = w.handled;
}

-- the same but for what the steps of sources, of listeners, of timers, and the handling of events change
abbrev pub but_live : Frame → Frame
but_live f = record f { live = [] }

abbrev pub but_listeners : Frame → Frame
but_listeners f = record f { listeners = [] }

abbrev pub but_timers : Frame → Frame
but_timers f = record f { timers = [] }

abbrev pub but_handled : Frame → Frame
but_handled f = record f { handled = [] }

-- but for the round that runs, and for what a round counts as it begins
abbrev pub but_name : Frame → Frame
but_name f = record f { name = None }

abbrev pub but_rounds : Frame → Frame
but_rounds f = record f { rounds = 0; begun = []; name = None }

pub either : (P : Outcome → Type 0) (test : Bool) (x y : Outcome) → P x → P y → P (cond test x y)
either P true x y first second = first
either P false x y first second = second

pub either_world : (P : World → Type 0) (test : Bool) (x y : World) → P x → P y → P (cond test x y)
either_world P true x y first second = first
either_world P false x y first second = second

-- ## Whatever is kept

-- what each handling of an event keeps, all of them keep
pub each_any : (Inv : World → Type 0) → ((w : World) (answers : List PollerAnswer) → Inv w → Inv (handle_round w answers).world)
    → (events : List Event) (w : World) (answers : List PollerAnswer) → Inv w → Inv (handle_each events w answers).world
each_any Inv handles [] w answers i = i
each_any Inv handles (event ∷ events) w answers i =
    each_any Inv handles events (handle_round w answers).world (handle_round w answers).left (handles w answers i)

-- what holds once a round began, and is kept by its other sections, holds after a whole round
pub react_any : (Inv : World → Type 0) (w : World) (given : Option ℕ) (answers : List PollerAnswer) → Inv w → Inv (begin_round w given answers).world
    → ((v : World) (answers : List PollerAnswer) → Inv v → Inv (wait_in v v.round answers).world)
    → ((v : World) (answers : List PollerAnswer) → Inv v → Inv (handle_in v v.round answers).world)
    → ((v : World) (answers : List PollerAnswer) → Inv v → Inv (finish_in v v.round answers).world) → Inv (react w given answers).world
react_any Inv w given answers stays begins waits handles finishes =
    let begun = begin_round w given answers in
    let waited = wait_round begun.world begun.left in
    let hand = hand_of waited.world.round in
    let handled = handle_each hand waited.world waited.left in
    either (λ o. Inv o.world) (is_some w.round) _ _ stays
    (finishes handled.world handled.left (each_any Inv handles hand waited.world waited.left (waits begun.world begun.left begins)))

-- what holds of a world whatever round runs in it and whatever is armed holds after a wait
abbrev pub AnyRound : (World → Type 0) → World → Type 0
AnyRound Inv w = (round : Option RoundState) (armed : List ArmedDirection) → Inv (record w { round = round; armed = armed })

answered_any : (Inv : World → Type 0) (w : World) (round : RoundState) (told : PollerAnswer) (rest : List PollerAnswer) → AnyRound Inv w
    → Inv (wait_answered w round told rest).world
answered_any Inv w round (Gives events) rest given = given _ _
answered_any Inv w round told rest given = given _ w.armed

pub wait_any : (Inv : World → Type 0) (w : World) (round : Option RoundState) (answers : List PollerAnswer) → AnyRound Inv w → Inv (wait_in w round answers).world
wait_any Inv w None answers given = given w.round w.armed
wait_any Inv w (Some round) answers given =
    either (λ o. Inv o.world) (is_empty_list round.in_hand) _ _ (answered_any Inv w round (next_answer answers) (later_answers answers) given)
    (given w.round w.armed)

-- what holds of a world whatever its timers, its registrations and its count of ids holds after a call on a timer
abbrev pub AnyTimers : (World → Type 0) → World → Type 0
AnyTimers Inv w = (timers : List TimerEntry) (registrations : List Registration) (ids : ℕ) → Inv (with_timers w timers registrations ids)

pub tick_timers : (Inv : World → Type 0) (w : World) (waker : Waker) (entry : Option TimerEntry) (answers : List PollerAnswer) → AnyTimers Inv w
    → Inv (tick_timer w waker entry answers).world
tick_timers Inv w waker None answers given = given w.timers w.registrations w.ids_drawn
tick_timers Inv w waker (Some entry) answers given = tick_any (λ o. Inv o.world) w waker entry answers given (λ deadline. given)

pub set_timers : (Inv : World → Type 0) (w : World) (deadline : ℕ) (period : Option ℕ) (entry : Option TimerEntry) (answers : List PollerAnswer) → AnyTimers Inv w
    → Inv (set_timer w deadline period entry answers).world
set_timers Inv w deadline period None answers given = given w.timers w.registrations w.ids_drawn
set_timers Inv w deadline period (Some entry) answers given = set_any (λ o. Inv o.world) w deadline period entry answers given

without_timers : (Inv : World → Type 0) (w : World) (id : Option ℕ) (test : TimerEntry → Bool) → AnyTimers Inv w
    → Inv (let gone = unregistered w id in record gone { timers = filter test gone.timers })
without_timers Inv w None test given = given _ _ _
without_timers Inv w (Some id) test given = given _ _ _

pub end_timers : (Inv : World → Type 0) (w : World) (entry : Option TimerEntry) (answers : List PollerAnswer) → AnyTimers Inv w
    → Inv (end_timer w entry answers).world
end_timers Inv w None answers given = given w.timers w.registrations w.ids_drawn
end_timers Inv w (Some entry) answers given = without_timers Inv w entry.id (λ t. not (is_timer entry.number t)) given

-- ## Sources and listeners

pub arm_keeps : (w : World) (key serial : ℕ) (told : PollerAnswer) → frame (after_arm w key serial told) ≡ frame w
arm_keeps w key serial told = either_world (λ v. frame v ≡ frame w) (fails told) (broken_world w serial) (armed_world w key serial) refl refl

pub pending_keeps : (arms : Bool) (w : World) (key serial : ℕ) (wakes : List Waker) (answers : List PollerAnswer)
    → frame (pending arms w key serial wakes answers).world ≡ frame w
pending_keeps false w key serial wakes answers = refl
pending_keeps true w key serial wakes answers = arm_keeps w key serial (next_answer answers)

pub add_keeps : (w : World) (answers : List PollerAnswer) → but_live (frame (add w answers).world) ≡ but_live (frame w)
add_keeps w answers =
    either (λ o. but_live (frame o.world) ≡ but_live (frame w)) (nat_le source_limit (length w.live)) _ _ refl
    (either_world (λ v. but_live (frame v) ≡ but_live (frame w)) (fails (next_answer answers)) w _ refl refl)

pub del_keeps : (w : World) (key : ℕ) (serial : Option ℕ) (answers : List PollerAnswer)
    → but_live (frame (del_source w key serial answers).world) ≡ but_live (frame w)
del_keeps w key None answers = refl
del_keeps w key (Some serial) answers =
    either (λ o. but_live (frame o.world) ≡ but_live (frame w)) (list_any (λ (l : ListenerEntry). l.serial == serial) w.listeners) _ _ refl refl

pub poll_keeps : (w : World) (key : ℕ) (dir : Dir) (waker : Waker) (serial : Option ℕ) (answers : List PollerAnswer)
    → frame (poll_source w key dir waker serial answers).world ≡ frame w
poll_keeps w key dir waker None answers = refl
poll_keeps w key dir waker (Some serial) answers =
    let waiter = poll_waiter w.poll_waiters serial dir in
    either (λ o. frame o.world ≡ frame w) (is_fresh_since w serial dir (mark_of w.marks serial dir)) _ _ refl
    (either (λ o. frame o.world ≡ frame w) (is_waker waker waiter) _ _ (pending_keeps (is_broken w serial) w key serial [] answers)
    (pending_keeps (is_idle w serial dir || is_broken w serial) (with_waiter w serial dir waker) key serial (option_to_list waiter) answers))

pub new_keeps : (w : World) (dir : Dir) (serial : Option ℕ) (answers : List PollerAnswer)
    → but_listeners (frame (new_listener w dir serial answers).world) ≡ but_listeners (frame w)
new_keeps w dir None answers = refl
new_keeps w dir (Some serial) answers = refl

pub step_keeps : (w : World) (waker : Waker) (entry : Option ListenerEntry) (answers : List PollerAnswer)
    → but_listeners (frame (step_listener w waker entry answers).world) ≡ but_listeners (frame w)
step_keeps w waker None answers = refl
step_keeps w waker (Some entry) answers =
    let listening : World = record w { listeners = with_listening w entry waker } in
    either (λ o. but_listeners (frame o.world) ≡ but_listeners (frame w)) (is_fresh_since w entry.serial entry.dir entry.position) _ _ refl
    (ap but_listeners (pending_keeps (is_idle w entry.serial entry.dir || is_broken w entry.serial) listening
    (unwrap_or (key_of w entry.serial) 0) entry.serial [] answers))

pub drop_keeps : (w : World) (number : ℕ) (entry : Option ListenerEntry) (answers : List PollerAnswer)
    → but_listeners (frame (drop_listener w number entry answers).world) ≡ but_listeners (frame w)
drop_keeps w number None answers = refl
drop_keeps w number (Some entry) answers = refl

-- ## Timers

pub gone_keeps : (w : World) (id : Option ℕ) → frame (unregistered w id) ≡ frame w
gone_keeps w None = refl
gone_keeps w (Some id) = refl

pub tick_keeps : (w : World) (waker : Waker) (entry : Option TimerEntry) (answers : List PollerAnswer)
    → but_timers (frame (tick_timer w waker entry answers).world) ≡ but_timers (frame w)
tick_keeps w waker entry answers = tick_timers (λ v. but_timers (frame v) ≡ but_timers (frame w)) w waker entry answers (λ timers registrations ids. refl)

pub set_keeps : (w : World) (deadline : ℕ) (period : Option ℕ) (entry : Option TimerEntry) (answers : List PollerAnswer)
    → but_timers (frame (set_timer w deadline period entry answers).world) ≡ but_timers (frame w)
set_keeps w deadline period entry answers =
    set_timers (λ v. but_timers (frame v) ≡ but_timers (frame w)) w deadline period entry answers (λ timers registrations ids. refl)

pub end_keeps : (w : World) (entry : Option TimerEntry) (answers : List PollerAnswer) → but_timers (frame (end_timer w entry answers).world) ≡ but_timers (frame w)
end_keeps w entry answers = end_timers (λ v. but_timers (frame v) ≡ but_timers (frame w)) w entry answers (λ timers registrations ids. refl)

-- ## Rounds

-- the frame of a world in which this round runs
abbrev pub while : World → Option RoundState → Frame
while w round = record (frame w) { name = name_of round }

pub runs_in : (w : World) (round : Option RoundState) → w.round ≡ round → frame w ≡ while w round
runs_in w round is = ap (while w) is

answered_keeps : (w : World) (round : RoundState) (told : PollerAnswer) (rest : List PollerAnswer) → frame (wait_answered w round told rest).world ≡ while w (Some round)
answered_keeps w round Succeeds rest = refl
answered_keeps w round told rest = refl

pub wait_keeps : (w : World) (round : Option RoundState) (answers : List PollerAnswer) → w.round ≡ round → frame (wait_in w round answers).world ≡ frame w
wait_keeps w None answers is = refl
wait_keeps w (Some round) answers is =
    either (λ o. frame o.world ≡ frame w) (is_empty_list round.in_hand) _ _
    (answered_keeps w round (next_answer answers) (later_answers answers) ∙ sym (runs_in w (Some round) is)) refl

cleared : (here : Bool) (l : ListenerEntry) → bare (cond here (record l { waker = None }) l) ≡ bare l
cleared true l = refl
cleared false l = refl

still_bare : (serial : ℕ) (dir : Dir) (listeners : List ListenerEntry)
    → map bare (map (λ (l : ListenerEntry). cond (is_of serial dir l.serial l.dir) (record l { waker = None }) l) listeners) ≡ map bare listeners
still_bare serial dir [] = refl
still_bare serial dir (l ∷ listeners) =
    ap (λ first. first ∷ map bare (map (λ (l : ListenerEntry). cond (is_of serial dir l.serial l.dir) (record l { waker = None }) l) listeners)) (cleared (is_of serial dir l.serial l.dir) l)
    ∙ ap (λ rest. bare l ∷ rest) (still_bare serial dir listeners)

taken_keeps : (w : World) (serial begin : ℕ) (dirs : List Dir) → but_handled (frame (world_taken w serial begin dirs)) ≡ but_handled (frame w)
taken_keeps w serial begin [] = refl
taken_keeps w serial begin (dir ∷ dirs) =
    taken_keeps (without_waiters w serial begin dir) serial begin dirs
    ∙ ap (λ (listeners : List ListenerEntry). record (but_handled (frame w)) { listeners = listeners }) (still_bare serial dir w.listeners)

pub rearmed_keeps : (w : World) (round : RoundState) (key : Key) (serial : ℕ) (answers : List PollerAnswer) → w.round ≡ Some round
    → frame (rearmed w round key serial answers).world ≡ frame w
rearmed_keeps w round key serial answers is =
    let told = next_answer answers in
    let arm = arm_keeps w key.0 serial told in
    either (λ o. frame o.world ≡ frame w) (is_empty_list (wanted w serial)) _ _ refl
    (either_world (λ v. frame v ≡ frame w) (fails told) _ _
    (ap (λ (f : Frame). record f { name = name_of (Some round) }) arm ∙ sym (runs_in w (Some round) is)) arm)

source_keeps : (w : World) (round : RoundState) (event : Event) (serial : Option ℕ) (answers : List PollerAnswer) → name_of w.round ≡ name_of (Some round)
    → but_handled (frame (handle_source w round event serial answers).world) ≡ but_handled (frame w)
source_keeps w round event None answers is = ap (λ (name : Option RoundName). record (but_handled (frame w)) { name = name }) (sym is)
source_keeps w round event (Some serial) answers is =
    ap but_handled (rearmed_keeps _ _ event.key serial answers refl)
    ∙ ap (λ (f : Frame). record f { name = name_of (Some round) }) (taken_keeps w serial round.begin (directions_of event.on))
    ∙ ap (λ (name : Option RoundName). record (but_handled (frame w)) { name = name }) (sym is)

first_keeps : (w : World) (round : RoundState) (events : List Event) (answers : List PollerAnswer) → w.round ≡ Some round
    → but_handled (frame (handle_first w round events answers).world) ≡ but_handled (frame w)
first_keeps w round [] answers is = refl
first_keeps w round (event ∷ events) answers is = source_keeps w (record round { in_hand = events }) event (serial_of w event.key.0) answers (ap name_of is)

pub handle_keeps : (w : World) (round : Option RoundState) (answers : List PollerAnswer) → w.round ≡ round
    → but_handled (frame (handle_in w round answers).world) ≡ but_handled (frame w)
handle_keeps w None answers is = refl
handle_keeps w (Some round) answers is = first_keeps w round round.in_hand answers is

pub each_keeps : (events : List Event) (w : World) (answers : List PollerAnswer) → but_handled (frame (handle_each events w answers).world) ≡ but_handled (frame w)
each_keeps events w answers =
    each_any (λ v. but_handled (frame v) ≡ but_handled (frame w)) (λ v answers same. handle_keeps v v.round answers refl ∙ same) events w answers refl

pub finish_keeps : (w : World) (round : Option RoundState) (answers : List PollerAnswer) → but_name (frame (finish_in w round answers).world) ≡ but_name (frame w)
finish_keeps w None answers = refl
finish_keeps w (Some round) answers = either (λ o. but_name (frame o.world) ≡ but_name (frame w)) (is_empty_list round.in_hand) _ _ refl refl

pub begin_keeps : (w : World) (given : Option ℕ) (answers : List PollerAnswer) → but_rounds (frame (begin_round w given answers).world) ≡ but_rounds (frame w)
begin_keeps w given answers = either (λ o. but_rounds (frame o.world) ≡ but_rounds (frame w)) (is_some w.round) _ _ refl refl

-- what every step of a round leaves of a frame
abbrev pub core : Frame → Frame
core f = record f { rounds = 0; begun = []; name = None; handled = [] }

pub react_keeps : (w : World) (answers : List PollerAnswer) → core (frame (react w None answers).world) ≡ core (frame w)
react_keeps w answers =
    react_any (λ v. core (frame v) ≡ core (frame w)) w None answers refl (ap core (begin_keeps w None answers))
    (λ v answers same. ap core (wait_keeps v v.round answers refl) ∙ same) (λ v answers same. ap core (handle_keeps v v.round answers refl) ∙ same)
    (λ v answers same. ap core (finish_keeps v v.round answers) ∙ same)

-- ## A step

-- of a frame, what a step has no part in
abbrev pub unmoved : Step → Frame → Frame
unmoved step.Add f = but_live f
unmoved (step.Del key) f = but_live f
unmoved (step.New key dir) f = but_listeners f
unmoved (step.StepEar number waker) f = but_listeners f
unmoved (step.DropEar number) f = but_listeners f
unmoved (step.TimerAt deadline) f = but_timers f
unmoved (step.TimerEvery deadline period) f = but_timers f
unmoved step.TimerNever f = but_timers f
unmoved (step.Tick number waker) f = but_timers f
unmoved (step.SetAt number deadline) f = but_timers f
unmoved (step.SetEvery number deadline period) f = but_timers f
unmoved (step.End number) f = but_timers f
unmoved (step.Now moment) f = record f { now = 0 }
unmoved (step.Begin limit) f = but_rounds f
unmoved step.Handle f = but_handled f
unmoved step.Finish f = but_name f
unmoved step.React f = core f
unmoved _ f = f

pub case_keeps : (w : World) (s : Step) (answers : List PollerAnswer) → unmoved s (frame (case_of w s answers).world) ≡ unmoved s (frame w)
case_keeps w step.Add answers = add_keeps w answers
case_keeps w (step.Del key) answers = del_keeps w key.0 (serial_of w key.0) answers
case_keeps w (step.Poll key dir waker) answers = poll_keeps w key.0 dir waker (serial_of w key.0) answers
case_keeps w (step.New key dir) answers = new_keeps w dir (serial_of w key.0) answers
case_keeps w (step.StepEar number waker) answers = step_keeps w waker (find (is_listener number) w.listeners) answers
case_keeps w (step.DropEar number) answers = drop_keeps w number (find (is_listener number) w.listeners) answers
case_keeps w (step.Tick number waker) answers = tick_keeps w waker (find (is_timer number) w.timers) answers
case_keeps w (step.SetAt number deadline) answers = set_keeps w deadline None (find (is_timer number) w.timers) answers
case_keeps w (step.SetEvery number deadline period) answers = set_keeps w deadline (Some period) (find (is_timer number) w.timers) answers
case_keeps w (step.End number) answers = end_keeps w (find (is_timer number) w.timers) answers
case_keeps w (step.Now moment) answers = either (λ o. unmoved (step.Now moment) (frame o.world) ≡ unmoved (step.Now moment) (frame w)) (nat_lt moment w.now) _ _ refl refl
case_keeps w (step.Begin limit) answers = begin_keeps w limit answers
case_keeps w step.Wait answers = wait_keeps w w.round answers refl
case_keeps w step.Handle answers = handle_keeps w w.round answers refl
case_keeps w step.Finish answers = finish_keeps w w.round answers
case_keeps w step.React answers = react_keeps w answers
case_keeps w _ answers = refl
