-- That a step lets no count fall and gives no number again.
use Rattle.std.specs.Prelude.{◌≡◌, ◌⊎◌, ℕ, ◌+◌, ◌<◌, ◌≤◌, List, map}
use Rattle.std.specs.List.{All, Contains}
use Rattle.aio_base.specs.World.{LiveSource, ListenerEntry, Registration, TimerEntry, World}

-- each number in a list stood in it before, or is above the count that was given before: one that left is never used again
abbrev pub NoneAgain : {X : Type 0} → (X → ℕ) → ℕ → List X → List X → Type 0
NoneAgain number given before after = All (λ x. Contains (map number before) (number x) ⊎ (given < number x)) after

-- what a step leaves of the counts of a world, and of the numbers in its lists
pub record CountsRise (before after : World) : Type 0 where
  -- the position is one more, and the clock never goes back
  pub pos : after.pos ≡ before.pos + 1
  pub now : before.now ≤ after.now
  -- no count falls
  pub serials : before.serials ≤ after.serials
  pub listeners_drawn : before.listeners_drawn ≤ after.listeners_drawn
  pub ids_drawn : before.ids_drawn ≤ after.ids_drawn
  pub timers_made : before.timers_made ≤ after.timers_made
  pub rounds : before.rounds ≤ after.rounds
  -- no number is given again
  pub live : NoneAgain (λ (s : LiveSource). s.serial) before.serials before.live after.live
  pub listeners : NoneAgain (λ (l : ListenerEntry). l.number) before.listeners_drawn before.listeners after.listeners
  pub registrations : NoneAgain (λ (r : Registration). r.id) before.ids_drawn before.registrations after.registrations
  pub timers : NoneAgain (λ (t : TimerEntry). t.number) before.timers_made before.timers after.timers
