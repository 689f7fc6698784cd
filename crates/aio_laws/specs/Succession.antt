-- How the storings of wakers after a step follow those before it: what any step, in any world, may store, replace, take and give up. Nothing here
-- rests on the functions by which storings are moved.
use Rattle.std.specs.Prelude.{◌≡◌, ◌⊎◌, ℕ, ◌+◌, Bool, true, false, not, ◌&&◌, ◌||◌, if◌then◌else◌, List, [], ◌∷◌, ◌++◌, map, find, flat_map, length, take, nat_le, Option, None, Some, is_some, option_to_list, option_and_then}
use Rattle.std.specs.List.{Contains}
use Rattle.aio_base.specs.declared.names.Waker.{Waker}
use Rattle.aio_base.specs.declared.names.Dir.{Dir}
use Rattle.aio_base.specs.declared.names.Event.{Event}
use Rattle.aio_base.specs.declared.steps.Step.{Step}
use Rattle.aio_base.specs.declared.steps.Step.TheVariants as step
use Rattle.aio_base.specs.declared.steps.Answer.{Answer}
use Rattle.aio_base.specs.declared.steps.Answer.TheVariants as answer
use Rattle.aio_base.specs.World.{PollerAnswer, Succeeds, Gives, IsInterrupted, Fails, TimerEntry, World, directions, directions_of, serial_of, poll_waiter}
use Rattle.aio_base.specs.Machine.{is_timer, is_waker, next_deadline, ends_with_pass, hand_of, next_answer, step_result}
use Rattle.aio_base.specs.Refusals.{is_refusal}
use Rattle.aio_laws.specs.Storings.{Place, OfPoll, OfListener, OfTimer, Stored, Storings, standing_at, none_at, step_ended, timer_place, places_of, due_places}

-- ## What a step stores

-- the places of the poll waiters of these directions of a source, where it lives
abbrev pub poll_places : Option ℕ → List Dir → List Place
poll_places None dirs = []
poll_places (Some serial) dirs = map (OfPoll serial) dirs

-- the waker that a timer keeps, and the id of its registration
abbrev pub waker_kept : Option TimerEntry → Option Waker
waker_kept None = None
waker_kept (Some entry) = entry.kept

abbrev pub id_kept : Option TimerEntry → Option ℕ
id_kept None = None
id_kept (Some entry) = entry.id

-- the answers to a poll that has to wait
abbrev pub has_to_wait : Answer → Bool
has_to_wait answer.Pending = true
has_to_wait answer.FaultArm = true
has_to_wait _ = false

-- whether a timer's deadline is after a moment
abbrev pub is_ahead : ℕ → Option ℕ → Bool
is_ahead now None = false
is_ahead now (Some deadline) = not (nat_le deadline now)

-- Whether the poll of a timer at a moment registers it with the waker of the poll, by its answer: where it waits, unless it keeps an id and that very
-- waker already, for a deadline that is still ahead; where it fired, if there is a next deadline.
abbrev pub registers : ℕ → Answer → Waker → Option TimerEntry → Bool
registers now answer.Pending waker (Some entry) =
    is_some entry.deadline && not ((is_some entry.id && is_waker waker entry.kept) && is_ahead now entry.deadline)
registers now (answer.ReadyAt deadline) waker (Some entry) = is_some (next_deadline deadline entry.period)
registers _ _ _ _ = false

-- Whether a step stores its waker: a poll that has to wait, of a source only where the waker is not its poll waiter already; a poll of a timer that
-- registers it; and each step that sets a timer, where that keeps a waker.
abbrev pub stores : World → Step → List PollerAnswer → Bool
stores w (step.Poll key dir waker) answers =
    has_to_wait (step_result w (step.Poll key dir waker) answers).answer
    && not (is_waker waker (option_and_then (λ serial. poll_waiter w.poll_waiters serial dir) (serial_of w key.0)))
stores w (step.StepEar number waker) answers = has_to_wait (step_result w (step.StepEar number waker) answers).answer
stores w (step.Tick number waker) answers =
    registers w.now (step_result w (step.Tick number waker) answers).answer waker (find (is_timer number) w.timers)
stores w (step.SetAt number deadline) answers = true
stores w (step.SetEvery number deadline period) answers = true
stores _ _ _ = false

abbrev pub stored_as : ℕ → Place → Waker → Stored
stored_as number place waker = record { number = number; place = place; waker = waker }

-- The one storing of a step that stores, by its number: a poll stores its own waker with the direction of the source, with the listener or with the
-- timer's new registration; a timer that is set stores the waker that it keeps with its new registration.
abbrev pub own_storing : World → Step → ℕ → List Stored
own_storing w (step.Poll key dir waker) number = map (λ p. stored_as number p waker) (poll_places (serial_of w key.0) (dir ∷ []))
own_storing w (step.StepEar listener waker) number = stored_as number (OfListener listener) waker ∷ []
own_storing w (step.Tick timer waker) number = stored_as number (OfTimer (w.ids_drawn + 1)) waker ∷ []
own_storing w (step.SetAt timer deadline) number =
    map (stored_as number (OfTimer (w.ids_drawn + 1))) (option_to_list (waker_kept (find (is_timer timer) w.timers)))
own_storing w (step.SetEvery timer deadline period) number =
    map (stored_as number (OfTimer (w.ids_drawn + 1))) (option_to_list (waker_kept (find (is_timer timer) w.timers)))
own_storing _ _ _ = []

-- ## Which places a step may empty

-- only a poll of a source replaces: what stands with the direction that it polls
abbrev pub replaced_places : World → Step → List Place
replaced_places w (step.Poll key dir waker) = poll_places (serial_of w key.0) (dir ∷ [])
replaced_places _ _ = []

-- the places of the waiters that an event takes: those of the directions that it names, where its source lives
abbrev pub event_places : World → Event → List Place
event_places w event = flat_map (λ serial. flat_map (places_of w serial) (directions_of event.on)) (option_to_list (serial_of w event.key.0))

-- the events that a wait gives by this answer
abbrev pub events_given : PollerAnswer → List Event
events_given Succeeds = []
events_given (Gives events) = events
events_given IsInterrupted = []
events_given Fails = []

-- Where a round takes what stands: what is due at a pass, and the waiters of the events that it handles, which are the first one in hand, or in a
-- whole round all that its wait gives.
abbrev pub taken_places : World → Step → List PollerAnswer → List Place
taken_places w (step.Begin limit) answers = if is_some w.round then [] else due_places w.now w.registrations
taken_places w step.Handle answers = flat_map (event_places w) (take 1 (hand_of w.round))
taken_places w step.Finish answers = if ends_with_pass w.round then due_places w.now w.registrations else []
taken_places w step.React answers =
    if is_some w.round then [] else (due_places w.now w.registrations ++ flat_map (event_places w) (events_given (next_answer answers)))
taken_places _ _ _ = []

-- what of some storings stands at these places, in the order of the places; what stands at a place that is named again is there once
abbrev pub standing_in : List Place → List Stored → List Stored
standing_in [] stored = []
standing_in (p ∷ places) stored = standing_at p stored ++ standing_in places (none_at p stored)

-- a source that is taken out gives up its poll waiters, a listener that is polled or dropped its own waker, a timer its own registration
abbrev pub may_give_up : World → Step → List Place
may_give_up w (step.Del key) = poll_places (serial_of w key.0) directions
may_give_up w (step.StepEar number waker) = OfListener number ∷ []
may_give_up w (step.DropEar number) = OfListener number ∷ []
may_give_up w (step.Tick number waker) = timer_place (id_kept (find (is_timer number) w.timers))
may_give_up w (step.SetAt number deadline) = timer_place (id_kept (find (is_timer number) w.timers))
may_give_up w (step.SetEvery number deadline period) = timer_place (id_kept (find (is_timer number) w.timers))
may_give_up w (step.End number) = timer_place (id_kept (find (is_timer number) w.timers))
may_give_up _ _ = []

-- the answer of a timer that has fired
abbrev pub has_fired : Answer → Bool
has_fired (answer.ReadyAt deadline) = true
has_fired _ = false

-- Whether a step gives up what stands where it may: a listener's poll where it stores its waker, the poll of a timer where it registers the timer or the
-- timer has fired, and each other step where it is not refused.
abbrev pub gives_up : World → Step → List PollerAnswer → Bool
gives_up w (step.StepEar number waker) answers = stores w (step.StepEar number waker) answers
gives_up w (step.Tick number waker) answers =
    stores w (step.Tick number waker) answers || has_fired (step_result w (step.Tick number waker) answers).answer
gives_up w s answers = not (is_refusal (step_result w s answers).answer)

-- ## How the storings after a step follow those before it

-- whether a step ends a round: a `finish` or a whole round that is not refused
abbrev pub ends_round : World → Step → List PollerAnswer → Bool
ends_round w step.Finish answers = not (is_refusal (step_result w step.Finish answers).answer)
ends_round w step.React answers = not (is_refusal (step_result w step.React answers).answer)
ends_round _ _ _ = false

-- a poll of a source or of a listener
abbrev pub is_poll : Step → Bool
is_poll (step.Poll key dir waker) = true
is_poll (step.StepEar number waker) = true
is_poll _ = false

-- each of these storings stood among those, the same number, place and waker, and at one of these places
abbrev pub StoodAt : List Place → List Stored → List Stored → Type 0
StoodAt places standing gone = (x : Stored) → Contains gone x → Contains standing x × Contains places x.place

-- How the storings after a step follow those before it, by the world before it and by what the poller answers in it. Between steps nothing is on
-- its way. A storing is the same one where its number, its place and its waker are the same.
pub record StoringsFollow (w : World) (s : Step) (answers : List PollerAnswer) (before after : Storings) : Type 0 where
  -- what this step stored; what it took from where it stood: replaced by a poll, taken by a round, given up
  pub stored_now : List Stored
  pub replaced_now : List Stored
  pub taken_now : List Stored
  pub given_up_now : List Stored
  -- a step stores its one storing or nothing, and each storing gets the next number
  pub stored : stored_now ≡ (if stores w s answers then own_storing w s before.given else [])
  pub given : after.given ≡ before.given + length stored_now
  pub stores_it : (x : Stored) → Contains stored_now x → Contains after.standing x
  -- what stands stood before, or was stored now; what stood before stands on, or was replaced, taken or given up
  pub stands : (x : Stored) → Contains after.standing x → Contains before.standing x ⊎ Contains stored_now x
  pub stood : (x : Stored) → Contains before.standing x
      → Contains after.standing x ⊎ Contains (replaced_now ++ taken_now ++ given_up_now) x
  -- a poll that stores replaces all that stood where it stores, and no other step replaces
  pub replaced : replaced_now ≡ (if stores w s answers then standing_in (replaced_places w s) before.standing else [])
  -- what was given up stood before, where this very step may give up
  pub given_up : StoodAt (may_give_up w s) before.standing given_up_now
  -- a round takes all that stood where it takes, in the order of those places, and leaves nothing standing there
  pub taken : taken_now ≡ standing_in (taken_places w s answers) before.standing
  pub emptied : (x : Stored) → Contains after.standing x → Contains (taken_places w s answers) x.place → ⊥
  -- where a step gives up nothing, all that stood where it may stands on; so a timer that waits on with the same waker stays registered
  pub keeps : gives_up w s answers ≡ false → given_up_now ≡ []
  -- where a step gives up, it leaves nothing standing but what it stores
  pub cleared : gives_up w s answers ≡ true → (x : Stored) → Contains after.standing x → Contains (may_give_up w s) x.place → Contains stored_now x
  -- a step that ends a round wakes all that the round has taken, also in this step, and leaves nothing taken
  pub ends : ends_round w s answers ≡ true
      → (after.woken ≡ before.woken ++ (before.taken ++ taken_now) ∷ []) × (after.taken ≡ [])
  -- any other step wakes what a poll replaced and no more, and what the round has taken stays taken
  pub goes_on : ends_round w s answers ≡ false
      → (after.woken ≡ before.woken ++ replaced_now ∷ []) × (after.taken ≡ before.taken ++ taken_now)
  -- what was given up stays so; after the step nothing is on its way
  pub gone : after.given_up ≡ before.given_up ++ given_up_now
  pub rests : after.waking ≡ []
  -- a poll that stores nothing, and a step that is refused, move nothing
  pub polls : is_poll s ≡ true → stored_now ≡ [] → after ≡ step_ended before
  pub refused : is_refusal (step_result w s answers).answer ≡ true → after ≡ step_ended before
