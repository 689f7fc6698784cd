-- What is so of each world of a run, beside that it is sound; and what two worlds of which the same is known give.
use Rattle.std.specs.Prelude.{◌≡◌}
use Rattle.std.specs.List.{All}
use Rattle.aio_base.specs.declared.steps.Step.{Step}
use Rattle.aio_base.specs.declared.steps.Step.TheVariants as step
use Rattle.aio_base.specs.Machine.{Outcome}
use Rattle.aio_base.specs.World.{ListenerEntry, World}
use Rattle.aio_facts.specs.Sound.{Sound}
use Rattle.aio_laws.specs.Covered.{HasSource}
use Rattle.aio_known.specs.Known.{known_of}

-- a world as a run reaches it: it is sound, and each listener is one of a live source
pub record Reached (w : World) : Type 0 where
  pub sound : Sound w.pos w
  pub listening : All (λ (l : ListenerEntry). HasSource w.live l.serial) w.listeners

-- a step that is no whole round
abbrev pub IsSection : Step → Type 0
IsSection step.React = ⊥
IsSection _ = Unit {0}

-- two steps give the same, and the same is known behind them
pub record Alike (o p : Outcome) : Type 0 where
  pub answers_are : o.answer ≡ p.answer
  pub wakes_are : o.wakes ≡ p.wakes
  pub known_are : known_of o.world ≡ known_of p.world
