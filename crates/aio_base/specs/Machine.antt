-- The reactor machine: what each step answers, whom it wakes and what world it leaves, given what the poller answers to its calls.
-- The rules are those of `async-io` 2 (`reactor.rs`, `driver.rs`, `lib.rs`) over `polling` 3 in oneshot mode; where the project chooses for
-- itself, a comment says so. What a case does not name stays.
use Rattle.std.specs.Prelude.{ℕ, ◌+◌, Bool, true, false, not, ◌&&◌, ◌||◌, ◌==◌, nat_lt, nat_le, if◌then◌else◌, List, [], ◌∷◌, ◌++◌, map, filter, find, length, Option, None, Some, is_some, option_to_list, unwrap_or}
use Rattle.std.specs.List.{list_any}
use Rattle.std.specs.Option.{option_map_or}
use Rattle.aio_base.specs.declared.names.Key.{Key}
use Rattle.aio_base.specs.declared.names.Waker.{Waker}
use Rattle.aio_base.specs.declared.names.Dir.{Dir}
use Rattle.aio_base.specs.declared.names.Event.{Event}
use Rattle.aio_base.specs.declared.outcomes.EndWord.{EndWord}
use Rattle.aio_base.specs.declared.outcomes.EndWord.TheVariants.{Clean, FaultWait, FaultArm}
use Rattle.aio_base.specs.declared.outcomes.Which.{Which}
use Rattle.aio_base.specs.declared.outcomes.Which.TheVariants as which
use Rattle.aio_base.specs.declared.steps.Step.{Step}
use Rattle.aio_base.specs.declared.steps.Step.TheVariants as step
use Rattle.aio_base.specs.declared.steps.Answer.{Answer}
use Rattle.aio_base.specs.declared.steps.Answer.TheVariants as answer
pub use Rattle.aio_base.specs.World.{is_waker}
pub use Rattle.aio_base.specs.TimerWork.{next_deadline}
use Rattle.aio_base.specs.declared.outcomes.DueFaults.{DueFaults}
use Rattle.aio_base.specs.World.{PollerAnswer, Succeeds, Gives, IsInterrupted, Fails, LiveSource, PollWaiter, Mark, ListenerEntry, Registration, TimerEntry, RoundState, World, directions_of, is_of, serial_of, key_of, poll_waiter, without_waiter, mark_of, without_mark, waiters_of, is_empty_list, is_idle, wanted, is_broken, without_broken, set_armed, clear_armed, is_fresh}
use Rattle.aio_base.specs.Timers.{due_wakers, after_pass, limit_of}
use Rattle.aio_base.specs.TimerWork.{TimerState, joining, tick_work, reset_work}

-- What a step, or a section of a round, gives: its answer, its wakes in order, the world after it, the kinds of the calls that it made on the
-- poller, in order, and the poller's answers that it did not ask for.
pub record Outcome : Type 0 where
  pub answer : Answer
  pub wakes : List Waker
  pub world : World
  pub calls : List Which
  pub left : List PollerAnswer

-- an outcome without a wake and without a call
abbrev pub quiet : Answer → World → List PollerAnswer → Outcome
quiet answer w answers = record { answer = answer; wakes = []; world = w; calls = []; left = answers }

-- the poller's next answer; where none is given, the call succeeds, and a wait gives no event
abbrev pub next_answer : List PollerAnswer → PollerAnswer
next_answer [] = Succeeds
next_answer (a ∷ rest) = a

abbrev pub later_answers : List PollerAnswer → List PollerAnswer
later_answers [] = []
later_answers (a ∷ rest) = rest

abbrev pub fails : PollerAnswer → Bool
fails Succeeds = false
fails (Gives events) = false
fails IsInterrupted = false
fails Fails = true

-- Arming: the interest of the key becomes what the source's waiters want, and the source is broken no longer. Where it fails the interests
-- stay and the source is broken at this position (the project's own repair; `async-io` 2 returns the error).
abbrev pub armed_world : World → ℕ → ℕ → World
armed_world w key serial = record w { armed = set_armed w.armed key (wanted w serial); broken = without_broken w.broken serial }

abbrev pub broken_world : World → ℕ → World
broken_world w serial = record w { broken = without_broken w.broken serial ++ record { serial = serial; position = w.pos } ∷ [] }

abbrev pub after_arm : World → ℕ → ℕ → PollerAnswer → World
after_arm w key serial told = if fails told then broken_world w serial else armed_world w key serial

-- a poll that stays pending: armed where it has to be, with the wakes that it has
abbrev pub pending : Bool → World → ℕ → ℕ → List Waker → List PollerAnswer → Outcome
pending false w key serial wakes answers =
    record { answer = answer.Pending; wakes = wakes; world = w; calls = []; left = answers }
pending true w key serial wakes answers =
    record {
      answer = if fails (next_answer answers) then answer.FaultArm else answer.Pending;
      wakes = wakes;
      world = after_arm w key serial (next_answer answers);
      calls = which.Arm ∷ [];
      left = later_answers answers;
    }

-- ## Sources

abbrev pub source_limit : ℕ
source_limit = 4096

abbrev pub is_live : List LiveSource → ℕ → Bool
is_live live key = list_any (λ (s : LiveSource). s.key == key) live

-- the least key from `key` on that is not live; among one more key than there are sources one is free
abbrev pub free_key_from : ℕ → List LiveSource → List LiveSource → ℕ
free_key_from key live [] = key
free_key_from key live (s ∷ more) = if is_live live key then free_key_from (key + 1) live more else key

-- the least key that is not live (the project's own choice; `async-io` 2 uses a slab)
abbrev pub free_key : List LiveSource → ℕ
free_key live = free_key_from 0 live live

abbrev pub add : World → List PollerAnswer → Outcome
add w answers =
    let key = free_key w.live in
    let failed = fails (next_answer answers) in
    if nat_le source_limit (length w.live) then quiet answer.Full w answers
    else record {
      answer = if failed then answer.FaultAdd else answer.KeyIs (record { 0 = key });
      wakes = [];
      world = if failed then w else record w {
        live = w.live ++ record { key = key; serial = w.serials + 1 } ∷ [];
        serials = w.serials + 1;
        armed = set_armed w.armed key [];
      };
      calls = which.Add ∷ [];
      left = later_answers answers;
    }

-- the source leaves with its poll waiters, marks and broken entry, without a wake; where the poller fails its interests stay
abbrev pub remove_source : World → ℕ → ℕ → List PollerAnswer → Outcome
remove_source w key serial answers =
    let failed = fails (next_answer answers) in
    record {
      answer = if failed then answer.FaultRemove else answer.Gone;
      wakes = [];
      world = record w {
        live = filter (λ (s : LiveSource). not (s.serial == serial)) w.live;
        poll_waiters = filter (λ (p : PollWaiter). not (p.serial == serial)) w.poll_waiters;
        marks = filter (λ (m : Mark). not (m.serial == serial)) w.marks;
        broken = without_broken w.broken serial;
        armed = if failed then w.armed else set_armed w.armed key [];
      };
      calls = which.Remove ∷ [];
      left = later_answers answers;
    }

abbrev pub del_source : World → ℕ → Option ℕ → List PollerAnswer → Outcome
del_source w key None answers = quiet answer.NoSource w answers
del_source w key (Some serial) answers =
    if list_any (λ (l : ListenerEntry). l.serial == serial) w.listeners then quiet answer.InUse w answers
    else remove_source w key serial answers

-- whether an event of a round that began after the last poll waiter was stored has come: `None` where none was stored
abbrev pub is_fresh_since : World → ℕ → Dir → Option ℕ → Bool
is_fresh_since w serial dir position = option_map_or (λ p. is_fresh w.handled serial dir p) position false

-- the waker becomes the poll waiter, marked with this position
abbrev pub with_waiter : World → ℕ → Dir → Waker → World
with_waiter w serial dir waker = record w {
  poll_waiters = without_waiter w.poll_waiters serial dir ++ record { serial = serial; dir = dir; waker = waker } ∷ [];
  marks = without_mark w.marks serial dir ++ record { serial = serial; dir = dir; position = w.pos } ∷ [];
}

-- `async-io` 2, `reactor.rs`, `Source::poll_ready`
abbrev pub poll_source : World → ℕ → Dir → Waker → Option ℕ → List PollerAnswer → Outcome
poll_source w key dir waker None answers = quiet answer.NoSource w answers
poll_source w key dir waker (Some serial) answers =
    let waiter = poll_waiter w.poll_waiters serial dir in
    if is_fresh_since w serial dir (mark_of w.marks serial dir)
    then quiet answer.Ready (record w { marks = without_mark w.marks serial dir }) answers
    else (if is_waker waker waiter then pending (is_broken w serial) w key serial [] answers
    else pending (is_idle w serial dir || is_broken w serial) (with_waiter w serial dir waker) key serial (option_to_list waiter) answers)

-- ## Listeners

abbrev pub new_listener : World → Dir → Option ℕ → List PollerAnswer → Outcome
new_listener w dir None answers = quiet answer.NoSource w answers
new_listener w dir (Some serial) answers =
    let number = w.listeners_drawn + 1 in
    quiet (answer.Listener number) (record w {
      listeners = w.listeners ++ record { number = number; serial = serial; dir = dir; position = None; waker = None } ∷ [];
      listeners_drawn = number;
    }) answers

abbrev pub is_listener : ℕ → ListenerEntry → Bool
is_listener number l = l.number == number

abbrev pub without_listener : List ListenerEntry → ℕ → List ListenerEntry
without_listener listeners number = filter (λ l. not (is_listener number l)) listeners

-- a listener's waker is stored; at its first poll it remembers this position and moves to the end
abbrev pub with_listening : World → ListenerEntry → Waker → List ListenerEntry
with_listening w entry waker =
    if is_some entry.position
    then map (λ (l : ListenerEntry). if is_listener entry.number l then record l { waker = Some waker } else l) w.listeners
    else without_listener w.listeners entry.number ++ record entry { position = Some w.pos; waker = Some waker } ∷ []

-- `async-io` 2, `reactor.rs`, the future `Ready`
abbrev pub step_listener : World → Waker → Option ListenerEntry → List PollerAnswer → Outcome
step_listener w waker None answers = quiet answer.NoListener w answers
step_listener w waker (Some entry) answers =
    if is_fresh_since w entry.serial entry.dir entry.position then quiet answer.Ready w answers
    else pending (is_idle w entry.serial entry.dir || is_broken w entry.serial)
    (record w { listeners = with_listening w entry waker }) (unwrap_or (key_of w entry.serial) 0) entry.serial [] answers

abbrev pub drop_listener : World → ℕ → Option ListenerEntry → List PollerAnswer → Outcome
drop_listener w number None answers = quiet answer.NoListener w answers
drop_listener w number (Some entry) answers =
    quiet answer.Dropped (record w { listeners = without_listener w.listeners number }) answers

-- ## Timers

abbrev pub is_timer : ℕ → TimerEntry → Bool
is_timer number t = t.number == number

abbrev pub new_timer : World → Option ℕ → Option ℕ → List PollerAnswer → Outcome
new_timer w deadline period answers =
    let number = w.timers_made + 1 in
    quiet (answer.Timer number) (record w {
      timers = w.timers ++ record { number = number; deadline = deadline; period = period; id = None; kept = None } ∷ [];
      timers_made = number;
    }) answers

-- the world with another entry in a timer's place
abbrev pub with_timer : World → TimerEntry → World
with_timer w entry = record w { timers = map (λ t. if is_timer entry.number t then entry else t) w.timers }

-- the registration of an id goes, where it is there
abbrev pub unregistered : World → Option ℕ → World
unregistered w None = w
unregistered w (Some id) = record w { registrations = filter (λ (r : Registration). not (r.id == id)) w.registrations }

-- the timer is registered with a waker: it draws the next id, and keeps id and waker
abbrev pub registered : World → TimerEntry → ℕ → Waker → World
registered w entry deadline waker =
    let id = w.ids_drawn + 1 in
    with_timer (record w {
      ids_drawn = id;
      registrations = w.registrations ++ record { id = id; deadline = deadline; waker = waker } ∷ [];
    })
    (record entry { deadline = Some deadline; id = Some id; kept = Some waker })

-- the timer is left like this, and registered under the next id where it wants to be
abbrev pub left_as : World → TimerEntry → Option (ℕ × Waker) → World
left_as w entry None = with_timer w entry
left_as w entry (Some registration) = registered w entry registration.0 registration.1

-- the world once the work of a call on a timer is done
abbrev pub worked : World → TimerEntry → Option TimerState → World
worked w entry None = w
worked w entry (Some timer) =
    let left = record entry { deadline = timer.deadline; period = timer.period; id = None; kept = timer.kept } in
    left_as (unregistered w entry.id) left (joining timer)

-- an entry without its number and its registration
abbrev pub state_of : TimerEntry → TimerState
state_of entry = record { deadline = entry.deadline; period = entry.period; kept = entry.kept }

-- the answer to a poll that reached this deadline, or none
abbrev pub tick_answer : Option ℕ → Answer
tick_answer None = answer.Pending
tick_answer (Some deadline) = answer.ReadyAt deadline

-- the work of a poll, done on the world
abbrev pub tick_timer : World → Waker → Option TimerEntry → List PollerAnswer → Outcome
tick_timer w waker None answers = quiet answer.NoTimer w answers
tick_timer w waker (Some entry) answers =
    let work = tick_work (is_some entry.id) (state_of entry) w.now waker in
    quiet (tick_answer work.reached) (worked w entry work.becomes) answers

-- the work of a setting, done on the world
abbrev pub set_timer : World → ℕ → Option ℕ → Option TimerEntry → List PollerAnswer → Outcome
set_timer w deadline period None answers = quiet answer.NoTimer w answers
set_timer w deadline period (Some entry) answers =
    quiet answer.Set (worked w entry (reset_work (state_of entry) deadline period).becomes) answers

abbrev pub end_timer : World → Option TimerEntry → List PollerAnswer → Outcome
end_timer w None answers = quiet answer.NoTimer w answers
end_timer w (Some entry) answers =
    let gone = unregistered w entry.id in
    quiet answer.Ended (record gone { timers = filter (λ t. not (is_timer entry.number t)) gone.timers }) answers

-- ## The clock and the poller's notes

abbrev pub set_clock : World → ℕ → List PollerAnswer → Outcome
set_clock w moment answers =
    if nat_lt moment w.now then quiet (answer.Back w.now) w answers else quiet (answer.At moment) (record w { now = moment }) answers

abbrev pub with_due : Which → DueFaults → DueFaults
with_due which.Add due = record due { add = true }
with_due which.Arm due = record due { arm = true }
with_due which.Remove due = record due { remove = true }
with_due which.Wait due = record due { wait = true }

-- ## A round in sections (`async-io` 2, `reactor.rs`, `ReactorLock::react`)

abbrev pub begin_round : World → Option ℕ → List PollerAnswer → Outcome
begin_round w given answers =
    if is_some w.round then quiet answer.Locked w answers
    else (let number = w.rounds + 1 in
    let limit = limit_of w.now w.registrations given in
    quiet (answer.Begin number limit) (record w {
      registrations = after_pass w.now w.registrations;
      rounds = number;
      begun = w.begun ++ w.pos ∷ [];
      round = Some (record {
        number = number;
        begin = w.pos;
        limit = limit;
        in_hand = [];
        taken = due_wakers w.now w.registrations;
        last_wait = None;
        fault = Clean;
      });
    }) answers)

-- the first fault of a round is kept
abbrev pub first_fault : EndWord → EndWord → EndWord
first_fault Clean new = new
first_fault FaultWait new = FaultWait
first_fault FaultArm new = FaultArm

abbrev pub wait_answered : World → RoundState → PollerAnswer → List PollerAnswer → Outcome
wait_answered w round told rest =
    let kept = record round { last_wait = Some told } in
    elim told [
      | Fails ↦ record {
        answer = answer.FaultWait;
        wakes = [];
        world = record w { round = Some (record kept { fault = first_fault round.fault FaultWait }) };
        calls = which.Wait ∷ [];
        left = rest;
      }
      | IsInterrupted ↦ record { answer = answer.Interrupted; wakes = []; world = record w { round = Some kept }; calls = which.Wait ∷ []; left = rest }
      | Succeeds ↦ record {
        answer = answer.Given 0;
        wakes = [];
        world = record w { round = Some (record kept { last_wait = Some (Gives []) }) };
        calls = which.Wait ∷ [];
        left = rest;
      }
      | Gives events ↦ record {
        answer = answer.Given (length events);
        wakes = [];
        world = record w { round = Some (record kept { in_hand = events }); armed = clear_armed w.armed events };
        calls = which.Wait ∷ [];
        left = rest;
      }
    ]

abbrev pub wait_in : World → Option RoundState → List PollerAnswer → Outcome
wait_in w None answers = quiet answer.NoRound w answers
wait_in w (Some round) answers =
    if is_empty_list round.in_hand then wait_answered w round (next_answer answers) (later_answers answers)
    else quiet (answer.Events (length round.in_hand)) w answers

abbrev pub wait_round : World → List PollerAnswer → Outcome
wait_round w answers = wait_in w w.round answers

-- the wakers taken of a direction are no longer held, and the past says that the round handled an event of it
abbrev pub without_waiters : World → ℕ → ℕ → Dir → World
without_waiters w serial begin dir = record w {
  poll_waiters = without_waiter w.poll_waiters serial dir;
  listeners = map (λ (l : ListenerEntry). if is_of serial dir l.serial l.dir then record l { waker = None } else l) w.listeners;
  handled = w.handled ++ record { serial = serial; dir = dir; begin = begin } ∷ [];
}

-- after the directions were taken one after the other
abbrev pub world_taken : World → ℕ → ℕ → List Dir → World
world_taken w serial begin [] = w
world_taken w serial begin (dir ∷ dirs) = world_taken (without_waiters w serial begin dir) serial begin dirs

-- the wakers that these directions hold, in order
abbrev pub wakers_taken : World → ℕ → ℕ → List Dir → List Waker
wakers_taken w serial begin [] = []
wakers_taken w serial begin (dir ∷ dirs) = waiters_of w serial dir ++ wakers_taken (without_waiters w serial begin dir) serial begin dirs

-- what is left after an event was taken of a source: armed again where a waiter is left
abbrev pub rearmed : World → RoundState → Key → ℕ → List PollerAnswer → Outcome
rearmed w round key serial answers =
    let told = next_answer answers in
    let armed = after_arm w key.0 serial told in
    if is_empty_list (wanted w serial) then quiet (answer.Handled key false) w answers
    else record {
      answer = answer.Handled key (fails told);
      wakes = [];
      world = if fails told then record armed { round = Some (record round { fault = first_fault round.fault FaultArm }) } else armed;
      calls = which.Arm ∷ [];
      left = later_answers answers;
    }

abbrev pub handle_source : World → RoundState → Event → Option ℕ → List PollerAnswer → Outcome
handle_source w round event None answers = quiet (answer.Handled event.key false) (record w { round = Some round }) answers
handle_source w round event (Some serial) answers =
    let dirs = directions_of event.on in
    let now_taken = record round { taken = round.taken ++ wakers_taken w serial round.begin dirs } in
    rearmed (record (world_taken w serial round.begin dirs) { round = Some now_taken }) now_taken event.key serial answers

abbrev pub handle_first : World → RoundState → List Event → List PollerAnswer → Outcome
handle_first w round [] answers = quiet answer.Empty w answers
handle_first w round (event ∷ events) answers =
    handle_source w (record round { in_hand = events }) event (serial_of w event.key.0) answers

abbrev pub handle_in : World → Option RoundState → List PollerAnswer → Outcome
handle_in w None answers = quiet answer.NoRound w answers
handle_in w (Some round) answers = handle_first w round round.in_hand answers

abbrev pub handle_round : World → List PollerAnswer → Outcome
handle_round w answers = handle_in w w.round answers

-- whether the last wait gave no event: neither a failed nor an interrupted wait did (the project's own choice)
abbrev pub gave_none : Option PollerAnswer → Bool
gave_none None = false
gave_none (Some Succeeds) = true
gave_none (Some (Gives events)) = is_empty_list events
gave_none (Some IsInterrupted) = false
gave_none (Some Fails) = false

abbrev pub is_zero : Option ℕ → Bool
is_zero None = false
is_zero (Some n) = n == 0

-- whether a round that ends makes a second pass over the timers: its last wait gave no event, and was not to return at once
abbrev pub makes_second_pass : Option PollerAnswer → Option ℕ → Bool
makes_second_pass last_wait limit = gave_none last_wait && not (is_zero limit)

abbrev pub finish_in : World → Option RoundState → List PollerAnswer → Outcome
finish_in w None answers = quiet answer.NoRound w answers
finish_in w (Some round) answers =
    let second = makes_second_pass round.last_wait round.limit in
    if is_empty_list round.in_hand
    then record {
      answer = answer.End round.fault;
      wakes = if second then round.taken ++ due_wakers w.now w.registrations else round.taken;
      world = record w { round = None; registrations = if second then after_pass w.now w.registrations else w.registrations };
      calls = [];
      left = answers;
    }
    else quiet (answer.Events (length round.in_hand)) w answers

abbrev pub finish_round : World → List PollerAnswer → Outcome
finish_round w answers = finish_in w w.round answers

-- whether a `finish` of what runs ends it with a second pass: a round with nothing in hand that makes one
abbrev pub ends_with_pass : Option RoundState → Bool
ends_with_pass None = false
ends_with_pass (Some round) = is_empty_list round.in_hand && makes_second_pass round.last_wait round.limit

-- one handling for each of these events
abbrev pub handle_each : List Event → World → List PollerAnswer → Outcome
handle_each [] w answers = quiet answer.Empty w answers
handle_each (event ∷ events) w answers =
    let first = handle_round w answers in
    let rest = handle_each events first.world first.left in
    record rest { calls = first.calls ++ rest.calls }

abbrev pub hand_of : Option RoundState → List Event
hand_of None = []
hand_of (Some round) = round.in_hand

abbrev pub fault_of_round : Option RoundState → EndWord
fault_of_round None = Clean
fault_of_round (Some round) = round.fault

-- a whole round, as one step: begin with a given limit, one wait, each event handled, finish
abbrev pub react : World → Option ℕ → List PollerAnswer → Outcome
react w given answers =
    let begun = begin_round w given answers in
    let waited = wait_round begun.world begun.left in
    let hand = hand_of waited.world.round in
    let handled = handle_each hand waited.world waited.left in
    let ended = finish_round handled.world handled.left in
    if is_some w.round then quiet answer.Locked w answers
    else record {
      answer = answer.Round (w.rounds + 1) (length hand) (fault_of_round handled.world.round);
      wakes = ended.wakes;
      world = ended.world;
      calls = waited.calls ++ handled.calls;
      left = ended.left;
    }

-- ## A step

-- the case of each step, at the position of the world
abbrev pub case_of : World → Step → List PollerAnswer → Outcome
case_of w step.Add answers = add w answers
case_of w (step.Del key) answers = del_source w key.0 (serial_of w key.0) answers
case_of w (step.Poll key dir waker) answers = poll_source w key.0 dir waker (serial_of w key.0) answers
case_of w (step.New key dir) answers = new_listener w dir (serial_of w key.0) answers
case_of w (step.StepEar number waker) answers = step_listener w waker (find (is_listener number) w.listeners) answers
case_of w (step.DropEar number) answers = drop_listener w number (find (is_listener number) w.listeners) answers
case_of w (step.TimerAt deadline) answers = new_timer w (Some deadline) None answers
case_of w (step.TimerEvery deadline period) answers = new_timer w (Some deadline) (Some period) answers
case_of w step.TimerNever answers = new_timer w None None answers
case_of w (step.Tick number waker) answers = tick_timer w waker (find (is_timer number) w.timers) answers
case_of w (step.SetAt number deadline) answers = set_timer w deadline None (find (is_timer number) w.timers) answers
case_of w (step.SetEvery number deadline period) answers = set_timer w deadline (Some period) (find (is_timer number) w.timers) answers
case_of w (step.End number) answers = end_timer w (find (is_timer number) w.timers) answers
case_of w (step.Now moment) answers = set_clock w moment answers
case_of w (step.Note event) answers = quiet answer.Noted (record w { noted = w.noted ++ event ∷ [] }) answers
case_of w (step.Fault kind) answers = quiet answer.Noted (record w { due = with_due kind w.due }) answers
case_of w step.Interrupt answers = quiet answer.Noted (record w { due = record w.due { interrupt = true } }) answers
case_of w (step.Begin limit) answers = begin_round w limit answers
case_of w step.Wait answers = wait_round w answers
case_of w step.Handle answers = handle_round w answers
case_of w step.Finish answers = finish_round w answers
case_of w step.React answers = react w None answers

-- the position rises by one with every step
abbrev pub moved_on : Outcome → Outcome
moved_on o = record o { world = record o.world { pos = o.world.pos + 1 } }

-- what a step gives from a world, for any answers of a poller
unfoldable pub step_result : World → Step → List PollerAnswer → Outcome
step_result w s answers = moved_on (case_of w s answers)
