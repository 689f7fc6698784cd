use Rattle.std.proofs.Common.{◌≡◌, ◌+◌, ◌≤◌, vec_len, vec_capacity}
use Rattle.aio_modes.specs.Interests.{common}
use Rattle.aio_script.specs.Interests.{interests_in}
use Rattle.aio_modes.specs.Scripts.{GivesSoFar}
use Rattle.aio_base.specs.Devices.{Interests}
use Rattle.aio_modes.proofs.owed.give_owed.Given as goal

abbrev pub invariant-loop-number : goal.invariant-loop-number
invariant-loop-number l = let owed : Interests = λ key. common (interests_in l.on key) (interests_in l.there key) in record {
  gives : GivesSoFar owed l.room l.initial.out.items l.number l.out.items l.given;
  fits : l.given ≤ l.room;
  length : vec_len l.out ≡ vec_len l.initial.out + l.given;
  capacity : vec_capacity l.out ≡ vec_capacity l.initial.out;
}
