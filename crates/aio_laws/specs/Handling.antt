-- That each event which is handled is noted as handled, and nothing else is.
use Rattle.std.specs.Prelude.{◌≡◌, ℕ, ◌<◌, true, List, ◌++◌, map, flat_map, Some, option_to_list}
use Rattle.std.specs.List.{Contains}
use Rattle.std.specs.Option.{option_map_or}
use Rattle.aio_base.specs.declared.names.Dir.{Dir}
use Rattle.aio_base.specs.declared.names.Event.{Event}
use Rattle.aio_base.specs.declared.steps.Step.{Step}
use Rattle.aio_base.specs.declared.steps.Step.TheVariants as step
use Rattle.aio_base.specs.World.{PollerAnswer, HandledDirection, RoundState, World, directions_of, has_dir, serial_of, is_fresh}
use Rattle.aio_laws.specs.Arming.{handled_events}

-- where the round began that handles events in this step: a `handle` is of the running round, and a whole round begins with its own step
abbrev pub begin_of : World → Step → ℕ
begin_of w step.Handle = option_map_or (λ (round : RoundState). round.begin) w.round w.pos
begin_of w _ = w.pos

-- What is noted of an event that a round which began at this position handles: where the event's key is live, one entry for each direction that the
-- event names, writability first; and nothing where it is not.
abbrev pub notes_of : World → ℕ → Event → List HandledDirection
notes_of w begin event =
    flat_map (λ serial. map (λ dir. record { serial = serial; dir = dir; begin = begin }) (directions_of event.on)) (option_to_list (serial_of w event.key.0))

-- An event of a source that was live, handled by a round that began at this position: each of its directions is fresh for whoever was stored, or
-- first polled, before the round began. So a poll waiter or a listener that it woke is ready at the next poll.
abbrev pub IsNoted : World → Event → ℕ → World → Type 0
IsNoted w event begin v = (serial : ℕ) (dir : Dir) (position : ℕ) → serial_of w event.key.0 ≡ Some serial → has_dir event.on dir ≡ true
    → position < begin → is_fresh v.handled serial dir position ≡ true

-- What a step leaves of the past of handled events, by what the poller answers in it.
pub record HandledIsNoted (w : World) (s : Step) (answers : List PollerAnswer) (v : World) : Type 0 where
  -- what was noted stays, and behind it stands what the step handled, event by event; so a step that handles nothing notes nothing
  pub handled : v.handled ≡ w.handled ++ flat_map (notes_of w (begin_of w s)) (handled_events w s answers)
  -- so each event that it handled makes its directions fresh
  pub fresh : (event : Event) → Contains (handled_events w s answers) event → IsNoted w event (begin_of w s) v
  -- and what was fresh stays so
  pub kept : (serial : ℕ) (dir : Dir) (position : ℕ) → is_fresh w.handled serial dir position ≡ true → is_fresh v.handled serial dir position ≡ true
