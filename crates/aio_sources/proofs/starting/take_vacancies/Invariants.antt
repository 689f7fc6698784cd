use Rattle.std.proofs.Common.{◌≡◌, ◌≤◌}
use Rattle.std.specs.Prelude.{vec_len, vec_capacity}
use Rattle.std.specs.Arc.{arc_value}
use Rattle.std.specs.List.{All}
use Rattle.aio_sources.proofs.starting.take_vacancies.Given as goal

-- so many are there, of this reactor, and there is room for the others
abbrev pub invariant-loop-made : goal.invariant-loop-made
invariant-loop-made g l = record {
  words : All (λ vacancy. vacancy ≡ (arc_value l.words).identity) l.all.items;
  len : vec_len l.all ≡ l._made;
  room : l.count ≤ vec_capacity l.all;
}
