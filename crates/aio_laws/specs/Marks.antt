-- What becomes of a step's own marks.
use Rattle.std.specs.Prelude.{◌≡◌, ℕ, if◌then◌else◌, List, [], ◌∷◌, filter, flat_map, option_to_list}
use Rattle.aio_base.specs.declared.names.Waker.{Waker}
use Rattle.aio_base.specs.declared.names.Dir.{Dir}
use Rattle.aio_base.specs.declared.steps.Step.{Step}
use Rattle.aio_base.specs.declared.steps.Step.TheVariants as step
use Rattle.aio_base.specs.declared.steps.Answer.{Answer}
use Rattle.aio_base.specs.declared.steps.Answer.TheVariants as answer
use Rattle.aio_base.specs.World.{Mark, World, serial_of, poll_waiter}
use Rattle.aio_base.specs.Machine.{is_waker}
use Rattle.aio_laws.specs.Others.{is_own_mark}

-- the marks of a world that are a step's own
abbrev pub own_marks : World → Step → World → List Mark
own_marks w s v = filter (is_own_mark w s) v.marks

-- The mark that a step leaves where it polls a direction of a source and has to wait: this position, where it stores its waker; the one that stood,
-- where that very waker is the poll waiter already.
abbrev pub waiting_mark : World → Dir → Waker → List Mark → ℕ → List Mark
waiting_mark w dir waker stood serial =
    if is_waker waker (poll_waiter w.poll_waiters serial dir) then stood else record { serial = serial; dir = dir; position = w.pos } ∷ []

-- A step's own marks after it, by its answer. A poll that is ready uses its mark up. A source that is taken out takes all its marks along. In any
-- other step, and where a `del` is told something else, they stand as they stood.
abbrev pub own_marks_after : World → Step → Answer → List Mark
own_marks_after w (step.Poll key dir waker) answer.Ready = []
own_marks_after w (step.Poll key dir waker) told =
    flat_map (waiting_mark w dir waker (own_marks w (step.Poll key dir waker) w)) (option_to_list (serial_of w key.0))
own_marks_after w (step.Del key) answer.Gone = []
own_marks_after w (step.Del key) answer.FaultRemove = []
own_marks_after w s told = own_marks w s w

pub record MarksFollow (w : World) (s : Step) (told : Answer) (v : World) : Type 0 where
  pub own : own_marks w s v ≡ own_marks_after w s told
