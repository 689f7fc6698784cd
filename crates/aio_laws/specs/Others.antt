-- That a step leaves each source, mark, failed arm, listener and timer alone but its own.
use Rattle.std.specs.Prelude.{◌≡◌, ℕ, ◌+◌, Bool, false, not, ◌==◌, List, ◌++◌, map, filter, flat_map, None, option_to_list}
use Rattle.std.specs.List.{list_any}
use Rattle.std.specs.Option.{option_map_or}
use Rattle.aio_base.specs.declared.steps.Step.{Step}
use Rattle.aio_base.specs.declared.steps.Step.TheVariants as step
use Rattle.aio_base.specs.declared.names.Event.{Event}
use Rattle.aio_base.specs.World.{PollerAnswer, LiveSource, Mark, ListenerEntry, BrokenSource, TimerEntry, World, is_of, serial_of}
use Rattle.aio_laws.specs.Arming.{polled_source, handled_events}

-- the source that a step adds, under the next serial, or takes out
abbrev pub is_own_source : World → Step → LiveSource → Bool
is_own_source w step.Add x = x.serial == w.serials + 1
is_own_source w (step.Del key) x = option_map_or (λ n. x.serial == n) (serial_of w key.0) false
is_own_source w _ x = false

-- the mark of the direction that a step polls, or those of the source that it takes out
abbrev pub is_own_mark : World → Step → Mark → Bool
is_own_mark w (step.Poll key dir waker) m = option_map_or (λ n. is_of n dir m.serial m.dir) (serial_of w key.0) false
is_own_mark w (step.Del key) m = option_map_or (λ n. m.serial == n) (serial_of w key.0) false
is_own_mark w _ m = false

-- The sources of which a step may change whether their last arm failed: the one that it takes out, the one that it polls, itself or by a listener, and
-- those whose events it handles.
abbrev pub armed_sources : World → Step → List PollerAnswer → List ℕ
armed_sources w (step.Del key) answers = option_to_list (serial_of w key.0)
armed_sources w s answers =
    option_to_list (polled_source w s) ++ flat_map (λ (event : Event). option_to_list (serial_of w event.key.0)) (handled_events w s answers)

abbrev pub is_own_broken : World → Step → List PollerAnswer → BrokenSource → Bool
is_own_broken w s answers b = list_any (λ n. b.serial == n) (armed_sources w s answers)

-- the listener that a step makes, under the next number, or that it polls or drops
abbrev pub is_own_listener : World → Step → ListenerEntry → Bool
is_own_listener w (step.New key dir) l = l.number == w.listeners_drawn + 1
is_own_listener w (step.StepEar number waker) l = l.number == number
is_own_listener w (step.DropEar number) l = l.number == number
is_own_listener w _ l = false

-- the timer that a step makes, under the next number, or that it polls, sets or ends
abbrev pub is_own_timer : World → Step → TimerEntry → Bool
is_own_timer w (step.TimerAt deadline) t = t.number == w.timers_made + 1
is_own_timer w (step.TimerEvery deadline period) t = t.number == w.timers_made + 1
is_own_timer w step.TimerNever t = t.number == w.timers_made + 1
is_own_timer w (step.Tick number waker) t = t.number == number
is_own_timer w (step.SetAt number deadline) t = t.number == number
is_own_timer w (step.SetEvery number deadline period) t = t.number == number
is_own_timer w (step.End number) t = t.number == number
is_own_timer w _ t = false

-- a listener but for its waker, which a handled event takes
abbrev pub but_waker : ListenerEntry → ListenerEntry
but_waker l = record l { waker = None }

abbrev pub other_sources : World → Step → World → List LiveSource
other_sources w s v = filter (λ (x : LiveSource). not (is_own_source w s x)) v.live

abbrev pub other_marks : World → Step → World → List Mark
other_marks w s v = filter (λ (m : Mark). not (is_own_mark w s m)) v.marks

abbrev pub other_broken : World → Step → List PollerAnswer → World → List BrokenSource
other_broken w s answers v = filter (λ (b : BrokenSource). not (is_own_broken w s answers b)) v.broken

abbrev pub other_listeners : World → Step → World → List ListenerEntry
other_listeners w s v = map but_waker (filter (λ (l : ListenerEntry). not (is_own_listener w s l)) v.listeners)

abbrev pub other_timers : World → Step → World → List TimerEntry
other_timers w s v = filter (λ (t : TimerEntry). not (is_own_timer w s t)) v.timers

-- The others stand as they stood, in the same order: none is lost, none is changed, and none joins. By what the poller answers, since the events that
-- a whole round handles are those that its wait gives. The wakers that others hold are no part of this: how storings follow says what becomes of them.
pub record OthersStand (w : World) (s : Step) (answers : List PollerAnswer) (v : World) : Type 0 where
  pub sources : other_sources w s v ≡ other_sources w s w
  pub marks : other_marks w s v ≡ other_marks w s w
  pub broken : other_broken w s answers v ≡ other_broken w s answers w
  pub listeners : other_listeners w s v ≡ other_listeners w s w
  pub timers : other_timers w s v ≡ other_timers w s w
