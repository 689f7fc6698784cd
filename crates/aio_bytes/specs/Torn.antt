-- A source whose bytes are all in hand, and of which the second read fails: its states, and what one read makes of them.
use Rattle.std.specs.Prelude.{◌≡◌, ℕ, ◌==◌, List, drop, length, min, take, Result, Ok, Err, IfOk, is_err}
use Rattle.aio_base.specs.Devices.{raised}
use Rattle.aio_base.specs.declared.outcomes.Failed.{Failed}

-- the bytes left, the reads that were made, the count of faults
pub record TornSource : Type 0 where
  pub left : List ℕ
  pub reads : ℕ
  pub fault_count : ℕ

-- the source after a read: the bytes given are gone; a read that failed took none
abbrev pub after_read : TornSource → Result (List ℕ) Failed → TornSource
after_read source (Ok bytes) = record source { left = drop (length bytes) source.left; reads = raised source.reads }
after_read source (Err failed) = record source { reads = raised source.reads; fault_count = raised source.fault_count }

-- The relation of a read: the second one fails, and any other gives the next bytes, as many as the room and what is left allow.
pub record TornReads (old : TornSource) (room : ℕ) (answer : Result (List ℕ) Failed) (new : TornSource) : Type 0 where
  pub fails : is_err answer ≡ (raised old.reads == 2)
  pub bytes : IfOk answer (λ bytes. bytes ≡ take (min room (length old.left)) old.left)
  pub state : new ≡ after_read old answer
