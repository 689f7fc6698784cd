-- The storings of wakers, by number: where each of them stands, or how it went.
use Rattle.std.specs.Prelude.{◌≡◌, ℕ, ◌+◌, ◌<◌, ◌≤◌, Bool, false, not, ◌&&◌, ◌||◌, ◌==◌, nat_le, if◌then◌else◌, List, [], ◌∷◌, ◌++◌, map, filter, find, flat_map, Option, None, Some, is_some, option_map, option_to_list, option_and_then}
use Rattle.std.specs.List.{list_any}
use Rattle.aio_base.specs.declared.names.Waker.{Waker}
use Rattle.aio_base.specs.declared.names.Dir.{Dir}
use Rattle.aio_base.specs.declared.names.Event.{Event}
use Rattle.aio_base.specs.declared.steps.Step.{Step}
use Rattle.aio_base.specs.declared.steps.Step.TheVariants as step
use Rattle.aio_base.specs.World.{PollerAnswer, ListenerEntry, Registration, TimerEntry, RoundState, World, directions, directions_of, is_of, same_dir, serial_of, poll_waiter, mark_of, is_empty_list}
use Rattle.aio_base.specs.Timers.{in_order}
use Rattle.aio_base.specs.Machine.{is_waker, is_fresh_since, is_listener, is_timer, next_deadline, begin_round, wait_round, handle_round, handle_each, hand_of, makes_second_pass}
use Rattle.aio_base.specs.Runs.{PolledStep, outcome_of}

-- where a waker is stored: as the poll waiter of a direction, with a listener, or with the registration of an id
pub data Place : Type 0 where
  OfPoll : (serial : ℕ) (dir : Dir) → Place
  OfListener : (number : ℕ) → Place
  OfTimer : (id : ℕ) → Place

abbrev pub same_place : Place → Place → Bool
same_place (OfPoll s d) (OfPoll t e) = (s == t) && same_dir d e
same_place (OfListener m) (OfListener n) = m == n
same_place (OfTimer m) (OfTimer n) = m == n
same_place _ _ = false

-- a waker that was stored: the number of its storing, its place, and the waker
pub record Stored : Type 0 where
  pub number : ℕ
  pub place : Place
  pub waker : Waker

-- All storings so far, each with the next number from 0 on: those that stand, those that the running round has taken, in order, those that the
-- present step and each step before it woke, in order, and those that were given up.
pub record Storings : Type 0 where
  pub given : ℕ
  pub standing : List Stored
  pub taken : List Stored
  pub waking : List Stored
  pub woken : List (List Stored)
  pub given_up : List Stored

abbrev pub no_storings : Storings
no_storings = record { given = 0; standing = []; taken = []; waking = []; woken = []; given_up = [] }

-- ## What becomes of storings

abbrev pub standing_at : Place → List Stored → List Stored
standing_at p stored = filter (λ (s : Stored). same_place p s.place) stored

abbrev pub none_at : Place → List Stored → List Stored
none_at p stored = filter (λ (s : Stored). not (same_place p s.place)) stored

-- a waker is stored at a place, under the next number
abbrev pub stored_at : Place → Waker → Storings → Storings
stored_at p waker l = record l { given = l.given + 1; standing = l.standing ++ record { number = l.given; place = p; waker = waker } ∷ [] }

-- what stands at a place is given up; it is not woken
abbrev pub given_up_at : Place → Storings → Storings
given_up_at p l = record l { standing = none_at p l.standing; given_up = l.given_up ++ standing_at p l.standing }

-- what stands at a place is woken by the present step
abbrev pub woken_at : Place → Storings → Storings
woken_at p l = record l { standing = none_at p l.standing; waking = l.waking ++ standing_at p l.standing }

-- the running round takes what stands at a place
abbrev pub taken_at : Place → Storings → Storings
taken_at p l = record l { standing = none_at p l.standing; taken = l.taken ++ standing_at p l.standing }

-- the same at these places, one after the other
abbrev pub each_taken : List Place → Storings → Storings
each_taken [] l = l
each_taken (p ∷ ps) l = each_taken ps (taken_at p l)

-- what stands at these places is given up, one after the other
abbrev pub each_given_up : List Place → Storings → Storings
each_given_up [] l = l
each_given_up (p ∷ ps) l = each_given_up ps (given_up_at p l)

-- what the round has taken is woken by the present step
abbrev pub round_woken : Storings → Storings
round_woken l = record l { taken = []; waking = l.waking ++ l.taken }

-- ## The places of which a step speaks

abbrev pub timer_place : Option ℕ → List Place
timer_place id = map OfTimer (option_to_list id)

-- the poll waiter of a direction and its listeners, in the order in which an event takes them
abbrev pub places_of : World → ℕ → Dir → List Place
places_of w serial dir =
    OfPoll serial dir ∷ map (λ (l : ListenerEntry). OfListener l.number) (filter (λ (l : ListenerEntry). is_of serial dir l.serial l.dir) w.listeners)

-- the registrations with a deadline at most a moment, in the order in which they fire
abbrev pub due_places : ℕ → List Registration → List Place
due_places moment registrations =
    map (λ (r : Registration). OfTimer r.id) (in_order (filter (λ (r : Registration). nat_le r.deadline moment) registrations))

-- ## What each step does with them

-- a poll that is not ready stores its waker, unless that very waker is stored already; the one that it replaces is woken
abbrev pub poll_moves : World → Dir → Waker → Option ℕ → Storings → Storings
poll_moves w dir waker None l = l
poll_moves w dir waker (Some serial) l =
    if is_fresh_since w serial dir (mark_of w.marks serial dir) || is_waker waker (poll_waiter w.poll_waiters serial dir) then l
    else stored_at (OfPoll serial dir) waker (woken_at (OfPoll serial dir) l)

-- a listener's poll that is not ready stores its waker, also the same one; the listener's earlier one is given up
abbrev pub listener_moves : World → Waker → Option ListenerEntry → Storings → Storings
listener_moves w waker None l = l
listener_moves w waker (Some entry) l =
    if is_fresh_since w entry.serial entry.dir entry.position then l
    else stored_at (OfListener entry.number) waker (given_up_at (OfListener entry.number) l)

-- A timer is registered anew with a waker, under the next id; its registration is given up. With no waker that is all.
abbrev pub registered_anew : World → TimerEntry → Option Waker → Storings → Storings
registered_anew w entry None l = each_given_up (timer_place entry.id) l
registered_anew w entry (Some waker) l = stored_at (OfTimer (w.ids_drawn + 1)) waker (each_given_up (timer_place entry.id) l)

abbrev pub tick_moves_at : World → Waker → TimerEntry → Option ℕ → Storings → Storings
tick_moves_at w waker entry None l = l
tick_moves_at w waker entry (Some deadline) l =
    if nat_le deadline w.now then registered_anew w entry (option_map (λ later. waker) (next_deadline deadline entry.period)) l
    else (if is_some entry.id && is_waker waker entry.kept then l else registered_anew w entry (Some waker) l)

abbrev pub tick_moves : World → Waker → Option TimerEntry → Storings → Storings
tick_moves w waker None l = l
tick_moves w waker (Some entry) l = tick_moves_at w waker entry entry.deadline l

abbrev pub set_moves : World → Option TimerEntry → Storings → Storings
set_moves w None l = l
set_moves w (Some entry) l = registered_anew w entry entry.kept l

abbrev pub end_moves : Option TimerEntry → Storings → Storings
end_moves None l = l
end_moves (Some entry) l = each_given_up (timer_place entry.id) l

abbrev pub drop_moves : Option ListenerEntry → Storings → Storings
drop_moves None l = l
drop_moves (Some entry) l = given_up_at (OfListener entry.number) l

-- a source that is taken out gives up its poll waiters; it has no listener then
abbrev pub del_moves : World → Option ℕ → Storings → Storings
del_moves w None l = l
del_moves w (Some serial) l =
    if list_any (λ (e : ListenerEntry). e.serial == serial) w.listeners then l
    else each_given_up (map (OfPoll serial) directions) l

abbrev pub begin_moves : World → Storings → Storings
begin_moves w l = if is_some w.round then l else each_taken (due_places w.now w.registrations) l

abbrev pub event_moves : World → Event → Option ℕ → Storings → Storings
event_moves w event None l = l
event_moves w event (Some serial) l = each_taken (flat_map (places_of w serial) (directions_of event.on)) l

abbrev pub handle_moves_first : World → List Event → Storings → Storings
handle_moves_first w [] l = l
handle_moves_first w (event ∷ events) l = event_moves w event (serial_of w event.key.0) l

abbrev pub handle_moves : World → Storings → Storings
handle_moves w l = handle_moves_first w (hand_of w.round) l

-- the second pass takes what is due, where the round makes one; then all that the round has taken is woken
abbrev pub finish_moves_in : World → Option RoundState → Storings → Storings
finish_moves_in w None l = l
finish_moves_in w (Some round) l =
    if is_empty_list round.in_hand
    then round_woken (if makes_second_pass round.last_wait round.limit then each_taken (due_places w.now w.registrations) l else l)
    else l

abbrev pub finish_moves : World → Storings → Storings
finish_moves w l = finish_moves_in w w.round l

abbrev pub handle_each_moves : List Event → World → List PollerAnswer → Storings → Storings
handle_each_moves [] w answers l = l
handle_each_moves (event ∷ events) w answers l =
    let first = handle_round w answers in handle_each_moves events first.world first.left (handle_moves w l)

-- the worlds of the sections are those of the machine's whole round
abbrev pub react_moves : World → List PollerAnswer → Storings → Storings
react_moves w answers l =
    let begun = begin_round w None answers in
    let waited = wait_round begun.world begun.left in
    let hand = hand_of waited.world.round in
    let handled = handle_each hand waited.world waited.left in
    if is_some w.round then l
    else finish_moves handled.world (handle_each_moves hand waited.world waited.left (begin_moves w l))

abbrev pub step_storings : World → Step → List PollerAnswer → Storings → Storings
step_storings w (step.Del key) answers l = del_moves w (serial_of w key.0) l
step_storings w (step.Poll key dir waker) answers l = poll_moves w dir waker (serial_of w key.0) l
step_storings w (step.StepEar number waker) answers l = listener_moves w waker (find (is_listener number) w.listeners) l
step_storings w (step.DropEar number) answers l = drop_moves (find (is_listener number) w.listeners) l
step_storings w (step.Tick number waker) answers l = tick_moves w waker (find (is_timer number) w.timers) l
step_storings w (step.SetAt number deadline) answers l = set_moves w (find (is_timer number) w.timers) l
step_storings w (step.SetEvery number deadline period) answers l = set_moves w (find (is_timer number) w.timers) l
step_storings w (step.End number) answers l = end_moves (find (is_timer number) w.timers) l
step_storings w (step.Begin limit) answers l = begin_moves w l
step_storings w step.Handle answers l = handle_moves w l
step_storings w step.Finish answers l = finish_moves w l
step_storings w step.React answers l = react_moves w answers l
step_storings w _ answers l = l

-- the storings woken by a step stand at its position
abbrev pub step_ended : Storings → Storings
step_ended l = record l { waking = []; woken = l.woken ++ l.waking ∷ [] }

abbrev pub storings_from : World → Storings → List PolledStep → Storings
storings_from w l [] = l
storings_from w l (s ∷ run) = storings_from (outcome_of w s).world (step_ended (step_storings w s.step s.answers l)) run

-- the storings of a run
abbrev pub storings_of : World → List PolledStep → Storings
storings_of w run = storings_from w no_storings run

-- ## What holds of them

-- how often a number stands among some storings
abbrev pub times : ℕ → List Stored → ℕ
times n [] = 0
times n (s ∷ stored) = (if s.number == n then 1 else 0) + times n stored

-- how often a number stands anywhere
abbrev pub times_in : ℕ → Storings → ℕ
times_in n l = times n l.standing + times n l.taken + times n l.waking + times n (flat_map (λ stored. stored) l.woken) + times n l.given_up

-- the waker that the world holds at a place; after a run there is one at most, as nothing stands twice
abbrev pub waker_at : World → Place → Option Waker
waker_at w (OfPoll serial dir) = poll_waiter w.poll_waiters serial dir
waker_at w (OfListener number) = option_and_then (λ (l : ListenerEntry). l.waker) (find (is_listener number) w.listeners)
waker_at w (OfTimer id) = option_map (λ (r : Registration). r.waker) (find (λ (r : Registration). r.id == id) w.registrations)

abbrev pub wakers : List Stored → List Waker
wakers stored = map (λ (s : Stored). s.waker) stored

abbrev pub taken_of : Option RoundState → List Waker
taken_of None = []
taken_of (Some round) = round.taken

-- That no storing is lost, and none is woken twice, between two steps of which the last have these wakes.
pub record Once (w : World) (wakes : List (List Waker)) (l : Storings) : Type 0 where
  -- each number given so far is in exactly one of the five lists, and there once; no other number is in any
  pub each : (n : ℕ) → n < l.given → times_in n l ≡ 1
  pub no_other : (n : ℕ) → l.given ≤ n → times_in n l ≡ 0
  -- what stands is what the world holds, place by place
  pub stands : (p : Place) → wakers (standing_at p l.standing) ≡ option_to_list (waker_at w p)
  -- what the running round has taken are its wakers, in order
  pub round : wakers l.taken ≡ taken_of w.round
  -- what each step woke are its wakes, in order; between two steps nothing is on its way
  pub steps : map wakers l.woken ≡ wakes
  pub at_rest : l.waking ≡ []
