-- What calls that a book hands on do.
use Rattle.std.specs.Prelude.{ℕ, ◌≡◌, ◌<◌, ◌≤◌, ◌++◌, Result, OnOk, OnErr, Vec, vec_capacity}
use Rattle.std.specs.List.{All}
use Rattle.aio_base.specs.declared.names.Waker.{Waker}
use Rattle.aio_base.specs.World.{Registration}
use Rattle.aio_base.specs.Timers.{due_wakers, after_pass}
use Rattle.aio_timers.specs.Room.{Book}

-- room for so many more registrations, or a refusal where there was less
pub record Reserves {E : Type 0} (old new : Book) (n : ℕ) (answer : Result (Unit {0}) E) : Type 0 where
  pub entries : new.entries ≡ old.entries
  pub room : OnOk answer (n ≤ new.spare)
  pub spare : old.spare ≤ new.spare
  pub refused : OnErr answer (old.spare < n)

-- the registrations that are due go, and their wakers come behind those that were taken before
pub record Passes {Z : Type 0} (now : ℕ) (old new : Book) (before after : Vec Waker Z) : Type 0 where
  pub taken : after.items ≡ before.items ++ due_wakers now old.entries
  pub capacity : vec_capacity after ≡ vec_capacity before
  pub entries : new.entries ≡ after_pass now old.entries
  pub later : All (λ (r : Registration). now < r.deadline) new.entries
  pub spare : old.spare ≤ new.spare
