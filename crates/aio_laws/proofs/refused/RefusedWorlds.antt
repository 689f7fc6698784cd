-- Worlds and answers that a wrong machine would leave, each refused by what stands between two steps.
use Rattle.std.proofs.Common.{◌≡◌, ◌⊎◌, ℕ, ◌<◌, ◌≤◌, ◌==◌, true, false, List, [], ◌∷◌, map, Option, None, Some, is_some, refl, ap, sym, subst, ⊎_elim, arith, ◌+◌, ◌∙◌}
use Rattle.std.specs.List.{Contains, list_any}
use Rattle.std.proofs.lemmas.List.Elements.{All-head}
use Rattle.aio_base.specs.declared.names.TheConstants.Interest.{READ}
use Rattle.aio_base.specs.declared.names.Waker.{Waker}
use Rattle.aio_base.specs.declared.names.Dir.{Dir}
use Rattle.aio_base.specs.declared.names.Dir.TheVariants.{Read, Write}
use Rattle.aio_base.specs.declared.names.Event.{Event}
use Rattle.aio_base.specs.declared.steps.Step.TheVariants as step
use Rattle.aio_base.specs.declared.steps.Answer.{Answer}
use Rattle.aio_base.specs.declared.steps.Answer.TheVariants as answer
use Rattle.aio_base.specs.declared.outcomes.EndWord.TheVariants.{Clean}
use Rattle.aio_base.specs.World.{Gives, Fails, World, LiveSource, BrokenSource, ListenerEntry, PollWaiter, Registration, RoundState, opening, is_armed, TimerEntry}
use Rattle.aio_base.specs.Machine.{hand_of}
use Rattle.aio_laws.specs.Registered.{IsRegistered, TimersAreRegistered}
use Rattle.aio_base.specs.Timers.{AllAbove}
use Rattle.aio_laws.specs.Arming.{UnbrokenAsTold}
use Rattle.aio_laws.specs.Covered.{tells_at, Cover, IsArmed, InHand, FaultIsTold, Covered, HasSource, WaitsForLive}
use Rattle.aio_laws.specs.Counts.{NoneAgain, CountsRise}
use Rattle.aio_laws.specs.Distinct.{IsOfTimer, NoDoubles}
use Rattle.aio_laws.specs.FirstPolls.{InPollOrder}
use Rattle.aio_base.proofs.Membership.{none_is_in, first_is_in, later_is_in, among_cases}

some_is : (m n : ℕ) → Some m ≡ Some n → m ≡ n
some_is m n same = cc

-- a source of key 0 and serial 1 whose direction has this poll waiter
abbrev waiting : Dir → World
waiting dir = record opening {
  live = record { key = 0; serial = 1 } ∷ [];
  serials = 1;
  poll_waiters = record { serial = 1; dir = dir; waker = record { 0 = 7 } } ∷ [];
}

-- a direction that is not armed, of a source that is not broken, with nothing in hand, is not covered
uncovered : (w : World) (told : List Answer) (dir : Dir) → is_armed w.armed 0 dir ≡ false → hand_of w.round ≡ [] → w.broken ≡ [] → Cover w told 0 1 dir → ⊥
uncovered w told dir unarmed empty whole (IsArmed arms) = cc
uncovered w told dir unarmed empty whole (InHand hands) = let none = ap (λ (hand : List Event). list_any (λ (e : Event). e.key.0 == 0) hand) empty in cc
uncovered w told dir unarmed empty whole (FaultIsTold position among tells) =
    none_is_in (record { serial = 1; position = position }) (subst (λ (broken : List BrokenSource). Contains broken (record { serial = 1; position = position })) whole among)

-- nor is a reader whose broken source has not told it
untold : Cover (record (waiting Read) { broken = record { serial = 1; position = 1 } ∷ [] }) (answer.KeyIs (record { 0 = 0 }) ∷ answer.Pending ∷ []) 0 1 Read → ⊥
untold (IsArmed arms) = cc
untold (InHand hands) = cc
untold (FaultIsTold position among tells) =
    ⊎_elim
    (λ (same : record { serial = 1; position = 1 } ≡ record { serial = 1; position = position }).
    let at : 1 ≡ position = ap (λ (b : BrokenSource). b.position) same in
    let silent = subst (λ n. tells_at (answer.KeyIs (record { 0 = 0 }) ∷ answer.Pending ∷ []) n ≡ true) (sym at) tells in cc)
    (λ (none : Contains [] (record { serial = 1; position = position })). none_is_in (record { serial = 1; position = position }) none)
    (among_cases (record { serial = 1; position = 1 }) [] (record { serial = 1; position = position }) among)

-- a running round that has taken these wakers and has nothing in hand
abbrev round_with : List Waker → RoundState
round_with taken = record { number = 1; begin = 2; limit = None; in_hand = []; taken = taken; last_wait = None; fault = Clean }

-- a poll that stores its waker and arms nothing
pub a_poll_that_does_not_arm_is_refused : Covered (waiting Read) (answer.KeyIs (record { 0 = 0 }) ∷ answer.Pending ∷ []) → ⊥
a_poll_that_does_not_arm_is_refused covered =
    uncovered (waiting Read) _ Read refl refl refl (covered 0 1 Read (record { 0 = 7 }) refl (first_is_in (record { 0 = 7 }) []))

-- a poll whose arm failed and that answers nothing of it
pub a_poll_that_hides_its_failed_arm_is_refused :
    Covered (record (waiting Read) { broken = record { serial = 1; position = 1 } ∷ [] }) (answer.KeyIs (record { 0 = 0 }) ∷ answer.Pending ∷ []) → ⊥
a_poll_that_hides_its_failed_arm_is_refused covered =
    untold (covered 0 1 Read (record { 0 = 7 }) refl (first_is_in (record { 0 = 7 }) []))

-- a wait that clears the interests of the events that it gives, and whose events are lost
pub a_wait_that_loses_its_events_is_refused :
    Covered (record (waiting Read) { round = Some (round_with []) }) (answer.KeyIs (record { 0 = 0 }) ∷ answer.Pending ∷ answer.Begin 1 None ∷ answer.Given 1 ∷ []) → ⊥
a_wait_that_loses_its_events_is_refused covered =
    uncovered (record (waiting Read) { round = Some (round_with []) }) _ Read refl refl refl (covered 0 1 Read (record { 0 = 7 }) refl (first_is_in (record { 0 = 7 }) []))

-- a handled event that takes the reader and does not arm again for the writer
pub a_handling_that_does_not_arm_again_is_refused :
    Covered (record (waiting Write) { round = Some (round_with (record { 0 = 6 } ∷ [])) })
    (answer.KeyIs (record { 0 = 0 }) ∷ answer.Pending ∷ answer.Pending ∷ answer.Begin 1 None ∷ answer.Given 1 ∷ answer.Handled (record { 0 = 0 }) false ∷ []) → ⊥
a_handling_that_does_not_arm_again_is_refused covered =
    uncovered (record (waiting Write) { round = Some (round_with (record { 0 = 6 } ∷ [])) }) _ Write refl refl refl
    (covered 0 1 Write (record { 0 = 7 }) refl (first_is_in (record { 0 = 7 }) []))

-- a source that is taken out while its poll waiter stays
pub a_waiter_of_a_source_taken_out_is_refused : WaitsForLive (record (waiting Read) { live = [] }) → ⊥
a_waiter_of_a_source_taken_out_is_refused waits =
    let source = All-head (λ (p : PollWaiter). HasSource [] p.serial) (record { serial = 1; dir = Read; waker = record { 0 = 7 } }) [] waits.poll_waiters in
    none_is_in (record { key = source.0; serial = 1 }) source.1

-- a pass that leaves the timer whose deadline is its very moment
pub a_timer_left_at_its_moment_is_refused : (id : ℕ) (waker : Waker) → AllAbove 5 (record { id = id; deadline = 5; waker = waker } ∷ []) → ⊥
a_timer_left_at_its_moment_is_refused id waker above =
    let later : 5 < 5 = All-head (λ (r : Registration). 5 < r.deadline) (record { id = id; deadline = 5; waker = waker }) [] above in
    absurd (omega arith)

-- a source that is added under the key of another
pub a_key_given_twice_is_refused :
    NoDoubles (record opening { live = record { key = 0; serial = 1 } ∷ record { key = 0; serial = 2 } ∷ []; serials = 2 }) → ⊥
a_key_given_twice_is_refused distinct = distinct.keys 0 1 (record { key = 0; serial = 0 }) (omega arith) (omega arith) refl

-- a timer that ends and leaves its registration
pub a_registration_without_its_timer_is_refused : (r : Registration) → IsOfTimer [] r → ⊥
a_registration_without_its_timer_is_refused r of = none_is_in of.timer of.among

-- a timer that is set anew, registered under another id, and leaves its earlier registration
pub a_registration_that_its_timer_left_is_refused :
    (timer : TimerEntry) (r : Registration) → timer.id ≡ Some (r.id + 1) → IsOfTimer (timer ∷ []) r → ⊥
a_registration_that_its_timer_left_is_refused timer r later of =
    ⊎_elim
    (λ (same : timer ≡ of.timer). let both : Some (r.id + 1) ≡ Some r.id = sym later ∙ ap (λ (t : TimerEntry). t.id) same ∙ of.id in
    absurd (let one : r.id + 1 ≡ r.id = some_is (r.id + 1) r.id both in omega arith))
    (λ (none : Contains [] of.timer). none_is_in of.timer none)
    (among_cases timer [] of.timer of.among)

-- a number that is not above its count, where none stood before
unheard : {X : Type 0} (number : X → ℕ) (given : ℕ) (x : X) → number x ≤ given → NoneAgain number given [] (x ∷ []) → ⊥
unheard number given x old again =
    ⊎_elim
    (λ (none : Contains [] (number x)). none_is_in (number x) none)
    (λ (above : given < number x). absurd (omega arith))
    (All-head (λ y. Contains (map number []) (number y) ⊎ (given < number y)) x [] again)

-- a source that is added under the serial of one that was taken out
pub a_serial_given_again_is_refused : (w : World) (key serials : ℕ)
    → CountsRise (record w { live = []; serials = 1 })
    (record w { pos = w.pos + 1; live = record { key = key; serial = 1 } ∷ []; serials = serials }) → ⊥
a_serial_given_again_is_refused w key serials rise = unheard (λ (s : LiveSource). s.serial) 1 (record { key = key; serial = 1 }) (omega arith) rise.live

-- a listener that is made under the number of one that was given up
pub a_listener_number_given_again_is_refused : (w : World) (l : ListenerEntry) (drawn : ℕ) → l.number ≡ 1
    → CountsRise (record w { listeners = []; listeners_drawn = 1 }) (record w { pos = w.pos + 1; listeners = l ∷ []; listeners_drawn = drawn }) → ⊥
a_listener_number_given_again_is_refused w l drawn first rise = unheard (λ (l : ListenerEntry). l.number) 1 l (omega arith) rise.listeners

-- a timer that is made under the number of one that ended
pub a_timer_number_given_again_is_refused : (w : World) (t : TimerEntry) (made : ℕ) → t.number ≡ 1
    → CountsRise (record w { timers = []; timers_made = 1 }) (record w { pos = w.pos + 1; timers = t ∷ []; timers_made = made }) → ⊥
a_timer_number_given_again_is_refused w t made first rise = unheard (λ (t : TimerEntry). t.number) 1 t (omega arith) rise.timers

-- a timer that is registered under the id of a registration that a pass took
pub an_id_given_again_is_refused : (w : World) (r : Registration) (drawn : ℕ) → r.id ≡ 1
    → CountsRise (record w { registrations = []; ids_drawn = 1 }) (record w { pos = w.pos + 1; registrations = r ∷ []; ids_drawn = drawn }) → ⊥
an_id_given_again_is_refused w r drawn first rise = unheard (λ (r : Registration). r.id) 1 r (omega arith) rise.registrations

-- a source that is taken out, and whose serial is free again
pub a_count_that_falls_is_refused : (w : World) → CountsRise (record w { serials = 2 }) (record w { pos = w.pos + 1; serials = 1 }) → ⊥
a_count_that_falls_is_refused w rise = let fell : 2 ≤ 1 = rise.serials in absurd (omega arith)

-- a `now` of an earlier moment that is obeyed
pub a_clock_that_goes_back_is_refused : (w : World) (moment : ℕ) → moment < w.now → CountsRise w (record w { pos = w.pos + 1; now = moment }) → ⊥
a_clock_that_goes_back_is_refused w moment earlier rise = let on : w.now ≤ moment = rise.now in absurd (omega arith)

-- a listener of this number that reads from source 1, first polled at a position
abbrev reader : ℕ → ℕ → ListenerEntry
reader number position = record { number = number; serial = 1; dir = Read; position = Some position; waker = Some (record { 0 = number }) }

-- a first poll that leaves its entry where it was: the older listener is polled after the younger one and stands before it still
pub a_first_poll_that_does_not_move_its_entry_is_refused : InPollOrder (record opening { pos = 5; listeners = reader 1 4 ∷ reader 2 3 ∷ [] }) → ⊥
a_first_poll_that_does_not_move_its_entry_is_refused order =
    let rises : 4 < 3 = order.rising 0 1 (reader 1 4) (omega arith) (omega arith) 4 3 refl refl in absurd (omega arith)

-- a first poll that remembers the position after its own
pub a_first_poll_at_a_later_position_is_refused : InPollOrder (record opening { pos = 4; listeners = reader 1 4 ∷ [] }) → ⊥
a_first_poll_at_a_later_position_is_refused order =
    let past : 4 < 4 = All-head (λ (l : ListenerEntry). (p : ℕ) → l.position ≡ Some p → p < 4) (reader 1 4) [] order.past 4 refl in absurd (omega arith)

-- a poll that stores its waker with a listener and remembers no position
pub a_first_poll_that_remembers_no_position_is_refused : InPollOrder (record opening { pos = 4; listeners = record (reader 1 3) { position = None } ∷ [] }) → ⊥
a_first_poll_that_remembers_no_position_is_refused order =
    let silent : ◌≡◌ {A = Option Waker} (Some (record { 0 = 1 })) None =
    All-head (λ (l : ListenerEntry). l.position ≡ None → l.waker ≡ None) (record (reader 1 3) { position = None }) [] order.unpolled refl in absurd cc

-- the world at this moment with these timers and registrations, of whose ids two were drawn
abbrev timers_at : ℕ → List TimerEntry → List Registration → World
timers_at now timers registrations = record opening { now = now; timers = timers; timers_made = 2; registrations = registrations; ids_drawn = 2 }

-- a timer that waits for a deadline with this id and waker 7
abbrev waits_with : (number deadline id : ℕ) → TimerEntry
waits_with number deadline id =
    record { number = number; deadline = Some deadline; period = None; id = Some id; kept = Some (record { 0 = 7 }) }

-- a timer whose deadline is to come and that is registered nowhere
unregistered_timer : (now deadline : ℕ) → now < deadline → TimersAreRegistered (timers_at now (waits_with 1 deadline 1 ∷ []) []) → ⊥
unregistered_timer now deadline ahead r =
    let is = All-head (λ (t : TimerEntry). (id : ℕ) → t.id ≡ Some id → IsRegistered now [] t id) (waits_with 1 deadline 1) [] r.registered 1 refl in
    ⊎_elim
    (λ (none : Contains [] (record { id = 1; deadline = is.deadline; waker = is.waker })). none_is_in (record { id = 1; deadline = is.deadline; waker = is.waker }) none)
    (λ (due : is.deadline ≤ now). let same : deadline ≡ is.deadline = some_is deadline is.deadline is.waits in absurd (omega arith))
    is.stands

-- a `tick` that keeps id and waker and registers nothing
pub a_tick_that_registers_nothing_is_refused : TimersAreRegistered (timers_at 0 (waits_with 1 50 1 ∷ []) []) → ⊥
a_tick_that_registers_nothing_is_refused r = unregistered_timer 0 50 (omega arith) r

-- a `set` that takes out the earlier registration, keeps the waker and registers nothing
pub a_set_that_registers_nothing_is_refused : (deadline : ℕ)
    → TimersAreRegistered (timers_at 0 (record (waits_with 1 deadline 1) { id = None } ∷ []) []) → ⊥
a_set_that_registers_nothing_is_refused deadline r =
    let wrong : false ≡ true = All-head (λ (t : TimerEntry). is_some t.id ≡ is_some t.kept) (record (waits_with 1 deadline 1) { id = None }) [] r.together in cc

-- a `set` that leaves the registration at its earlier deadline
pub a_registration_at_an_earlier_deadline_is_refused :
    TimersAreRegistered (timers_at 0 (waits_with 1 50 1 ∷ []) (record { id = 1; deadline = 20; waker = record { 0 = 7 } } ∷ [])) → ⊥
a_registration_at_an_earlier_deadline_is_refused r =
    let is = All-head (λ (t : TimerEntry). (id : ℕ) → t.id ≡ Some id → IsRegistered 0 (record { id = 1; deadline = 20; waker = record { 0 = 7 } } ∷ []) t id)
    (waits_with 1 50 1) [] r.registered 1 refl in
    let same : 50 ≡ is.deadline = some_is 50 is.deadline is.waits in
    let own : Registration = record { id = 1; deadline = is.deadline; waker = is.waker } in
    ⊎_elim
    (λ (stood : Contains (record { id = 1; deadline = 20; waker = record { 0 = 7 } } ∷ []) own).
    ⊎_elim
    (λ (first : record { id = 1; deadline = 20; waker = record { 0 = 7 } } ≡ own).
    let early : 20 ≡ is.deadline = ap (λ (x : Registration). x.deadline) first in absurd (omega arith))
    (λ (none : Contains [] own). none_is_in own none)
    (among_cases (record { id = 1; deadline = 20; waker = record { 0 = 7 } }) [] own stood))
    (λ (due : is.deadline ≤ 0). absurd (omega arith))
    is.stands

-- a `begin` at one moment that takes the registration of the next
pub a_registration_taken_before_its_deadline_is_refused : (now : ℕ) → TimersAreRegistered (timers_at now (waits_with 1 (now + 1) 1 ∷ []) []) → ⊥
a_registration_taken_before_its_deadline_is_refused now r = unregistered_timer now (now + 1) (omega arith) r

not_one_number : (m n : ℕ) → m < n → m ≡ n → ⊥
not_one_number m n below same = absurd (omega arith)

-- two timers that keep one id
pub an_id_that_two_timers_keep_is_refused : (registrations : List Registration)
    → TimersAreRegistered (timers_at 0 (waits_with 1 50 1 ∷ waits_with 2 50 1 ∷ []) registrations) → ⊥
an_id_that_two_timers_keep_is_refused registrations r =
    let first = waits_with 1 50 1 in
    let second = waits_with 2 50 1 in
    not_one_number 1 2 (omega arith) (r.one first second (first_is_in first (second ∷ [])) (later_is_in first (second ∷ []) second (first_is_in second [])) 1 refl refl)

-- an id that is kept and was not drawn yet, so that the next timer draws it too
pub an_id_kept_before_it_is_drawn_is_refused : (registrations : List Registration) → TimersAreRegistered (timers_at 0 (waits_with 1 50 3 ∷ []) registrations) → ⊥
an_id_kept_before_it_is_drawn_is_refused registrations r =
    let drawn : 3 ≤ 2 = All-head (λ (t : TimerEntry). (id : ℕ) → t.id ≡ Some id → id ≤ 2) (waits_with 1 50 3) [] r.drawn 3 refl in absurd (omega arith)

-- a source whose arm failed at position 1, which told it; its waiter of a direction is covered by that
abbrev broken : Dir → World
broken dir = record (waiting dir) { pos = 3; broken = record { serial = 1; position = 1 } ∷ [] }

-- a poll of a broken source whose arm fails again, that is told pending and leaves the source broken as it was told before
pub a_poll_that_hides_behind_an_older_fault_is_refused : UnbrokenAsTold (broken Read) (step.Poll (record { 0 = 0 }) Read (record { 0 = 7 })) (Fails ∷ []) answer.Pending (broken Read) → ⊥
a_poll_that_hides_behind_an_older_fault_is_refused arms =
    let whole : true ≡ false = arms.polled 1 refl refl in cc

-- an event that is readable, of key 0
abbrev readable : Event
readable = record { key = record { 0 = 0 }; on = READ }

-- a handled event of a broken source whose arm for the waiter that is left fails again, told without a fault
pub a_handling_that_hides_behind_an_older_fault_is_refused :
    UnbrokenAsTold (record (broken Write) { round = Some (record (round_with []) { in_hand = readable ∷ [] }) }) step.Handle (Fails ∷ [])
    (answer.Handled (record { 0 = 0 }) false) (broken Write) → ⊥
a_handling_that_hides_behind_an_older_fault_is_refused arms =
    let whole : true ≡ false = arms.handled readable 1 (first_is_in readable []) refl refl refl in cc

-- so in a whole round that ends clean
pub a_round_that_hides_behind_an_older_fault_is_refused :
    UnbrokenAsTold (broken Write) step.React (Gives (readable ∷ []) ∷ Fails ∷ []) (answer.Round 1 1 Clean) (broken Write) → ⊥
a_round_that_hides_behind_an_older_fault_is_refused arms =
    let whole : true ≡ false = arms.handled readable 1 (first_is_in readable []) refl refl refl in cc
