-- The answers of a step that was refused, and what such a step leaves.
use Rattle.std.specs.Prelude.{◌≡◌, ◌+◌, Bool, true, false, List, []}
use Rattle.aio_base.specs.declared.names.Waker.{Waker}
use Rattle.aio_base.specs.declared.steps.Answer.{Answer}
use Rattle.aio_base.specs.declared.steps.Answer.TheVariants as answer
use Rattle.aio_base.specs.World.{PollerAnswer, World}
use Rattle.aio_base.specs.Machine.{Outcome, quiet}

-- Whether an answer says that the step was refused: there is no room, no such source, listener, timer or round, a source that listeners use, a
-- moment in the past, a round that runs already, events in hand, or none of them.
abbrev pub is_refusal : Answer → Bool
is_refusal answer.Full = true
is_refusal answer.NoSource = true
is_refusal answer.InUse = true
is_refusal answer.NoListener = true
is_refusal answer.NoTimer = true
is_refusal (answer.Back moment) = true
is_refusal answer.Locked = true
is_refusal answer.NoRound = true
is_refusal (answer.Events count) = true
is_refusal answer.Empty = true
is_refusal _ = false

-- a step that did nothing but take its position: no wake, no call of the poller, and each answer of the poller is left
abbrev pub only_counted : Answer → World → List PollerAnswer → Outcome
only_counted answer w answers = quiet answer (record w { pos = w.pos + 1 }) answers

-- What a step leaves where it is refused: the world is the one before it but for its position, one more, and it woke nobody.
pub record RefusalLeaves (w : World) (told : Answer) (wakes : List Waker) (v : World) : Type 0 where
  pub world : is_refusal told ≡ true → v ≡ record w { pos = w.pos + 1 }
  pub woken : is_refusal told ≡ true → wakes ≡ []
