-- Whom a step wakes and who waits after it, told of this step alone: by all storings of which the world before it may be, and how they follow.
use Rattle.std.specs.Prelude.{◌≡◌, ℕ, ◌<◌, ◌≤◌, List, [], ◌∷◌, ◌++◌, map, option_to_list}
use Rattle.aio_base.specs.declared.names.Waker.{Waker}
use Rattle.aio_base.specs.declared.steps.Step.{Step}
use Rattle.aio_base.specs.World.{PollerAnswer, World}
use Rattle.aio_laws.specs.Distinct.{NoDoubles}
use Rattle.aio_laws.specs.Storings.{Place, Storings, standing_at, times_in, waker_at, wakers, taken_of}
use Rattle.aio_laws.specs.Succession.{StoringsFollow}

-- Each number given so far is in exactly one of the five lists, and there once; no other number is in any; and nothing is on its way, as between steps.
pub record EachInOneList (l : Storings) : Type 0 where
  pub each : (n : ℕ) → n < l.given → times_in n l ≡ 1
  pub no_other : (n : ℕ) → l.given ≤ n → times_in n l ≡ 0
  pub at_rest : l.waking ≡ []

-- What stands is what the world holds, place by place, and what the running round has taken are its wakers, in order.
pub record AreOf (w : World) (l : Storings) : Type 0 where
  pub stands : (p : Place) → wakers (standing_at p l.standing) ≡ option_to_list (waker_at w p)
  pub round : wakers l.taken ≡ taken_of w.round

-- The storings after a step are those of this world, and the last that were woken are these wakes, in order.
pub record LeadTo (wakes : List Waker) (v : World) (before after : Storings) : Type 0 where
  pub are : AreOf v after
  pub woke : map wakers after.woken ≡ map wakers before.woken ++ wakes ∷ []

-- Where nothing stands twice in the world before a step: whatever storings it is of, those that the step may leave are of the world after it, and the
-- last that they woke are its wakes. So no step wakes another, leaves out one whom it has to wake, or changes who waits or whom its round has taken, but
-- as storings follow.
abbrev pub WakesFollow : World → Step → List PollerAnswer → List Waker → World → Type 0
WakesFollow w s answers wakes v = NoDoubles w → (before after : Storings) → EachInOneList before → AreOf w before
    → StoringsFollow w s answers before after → EachInOneList after → LeadTo wakes v before after

-- What a step woke and left waiting is the same as that: the same wakes in order, the same waker at each place, and the same ones that the running round
-- has taken.
pub record WokeTheSame (those : List Waker) (that : World) (woken : List Waker) (v : World) : Type 0 where
  pub wakes : woken ≡ those
  pub held : (p : Place) → waker_at v p ≡ waker_at that p
  pub taken : taken_of v.round ≡ taken_of that.round
