-- The calls that a seed gives for eight sources, by the draws of `Generated`.
use Rattle.std.specs.Prelude.{ℕ, zero, suc, ◌+◌, ◌%◌, ◌==◌, if◌then◌else◌, List, [], ◌∷◌, length}
use Rattle.aio_base.specs.Generated.{draw, state_after, dir_drawn}
use Rattle.aio_base.specs.declared.names.TheConstants.Interest.{READ_WRITE}
use Rattle.aio_history.specs.declared.steps.CellCall.{CellCall}
use Rattle.aio_history.specs.declared.steps.CellCall.TheVariants as call

-- a call, the source that it is for, and the state of the draws behind it
pub record Drawing : Type 0 where
  pub cell : ℕ
  pub call : CellCall
  pub after : ℕ

-- The call that follows a state. Each place of it is a draw of its own: the source, the kind, and then of an event its round, of a poll its direction
-- and its waker. One call of four is an event of reading and writing.
abbrev pub call_drawn : ℕ → Drawing
call_drawn state =
    let cell = draw 0 state % 8 in
    if draw 1 state % 4 == 0 then record { cell = cell; call = call.Handle READ_WRITE (draw 2 state % 1000); after = state_after 3 state }
    else record { cell = cell; call = call.Poll (dir_drawn (draw 2 state)) (record { 0 = draw 3 state % 64 }) 0; after = state_after 4 state }

-- of so many calls that follow a state those for one source, in order
abbrev pub calls_from : ℕ → ℕ → ℕ → List CellCall
calls_from zero state cell = []
calls_from (suc n) state cell =
    let one = call_drawn state in
    if one.cell == cell then one.call ∷ calls_from n one.after cell else calls_from n one.after cell

-- of the first calls that a seed gives those for one source
abbrev pub drawn_calls : ℕ → ℕ → ℕ → List CellCall
drawn_calls seed calls cell = calls_from calls seed cell

-- how many calls are for the eight sources together
abbrev pub calls_in_all : ℕ → ℕ → ℕ
calls_in_all seed calls =
    let count : ℕ → ℕ = λ cell. length (drawn_calls seed calls cell) in
    count 0 + count 1 + count 2 + count 3 + count 4 + count 5 + count 6 + count 7
