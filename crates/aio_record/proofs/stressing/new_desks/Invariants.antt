use Rattle.std.proofs.Common.{◌≡◌, ◌-◌, ◌≤◌, length}
use Rattle.std.specs.Prelude.{vec_capacity}
use Rattle.std.specs.List.{AllZip}
use Rattle.aio_record.specs.Desks.{IsFreshPair}
use Rattle.aio_record.proofs.stressing.new_desks.Given as goal

abbrev pub invariant-loop-made : goal.invariant-loop-made
invariant-loop-made l = record {
  fresh : AllZip IsFreshPair l.firsts.items l.seconds.items;
  first : length l.firsts.items ≡ l.made;
  second : length l.seconds.items ≡ l.made;
  bound : l.made ≤ 8;
  room : 8 ≤ vec_capacity l.firsts;
  space : 8 ≤ vec_capacity l.seconds;
}

abbrev pub decreases-loop-made : goal.decreases-loop-made
decreases-loop-made l = 8 - l.made
