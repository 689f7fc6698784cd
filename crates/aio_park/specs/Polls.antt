-- One poll of a task by a thread.
use Rattle.std.specs.Prelude.{ℕ, ◌^◌, ◌≤◌, Bool}
use Rattle.aio_base.specs.declared.outcomes.Poll.{Poll}
use Rattle.aio_base.specs.declared.tasks.Cx.{Cx}
use Rattle.aio_base.specs.Polls.{IfReady, WhilePending}
use Rattle.aio_shared.specs.Inside.{InsideValue}
use Rattle.aio_park.specs.Blocking.{Clocked, PollsWith}

module _ {N T O : Type 0} (step : T → InsideValue N → Cx → Poll O → T → InsideValue N → Type 0) (gives : T → Bool → ℕ → O → Type 0) where
  -- One poll: what the task was told, what it answered, and what it allows then.
  pub record Polled (parker mask : ℕ) (clock : Clocked) (sure : Bool) (old : T) (host : InsideValue N) (answer : Poll O) (new : T) (left : InsideValue N)
      : Type 0 where
    pub polls : PollsWith step parker clock mask old host answer new left
    pub most : polls.cx.now ≤ 10 ^ 18
    pub ready : IfReady answer (λ output. gives old sure polls.cx.now output)
    pub pending : WhilePending answer ((moment : ℕ) (output : O) → polls.cx.now ≤ moment → gives new sure moment output → gives old sure moment output)
