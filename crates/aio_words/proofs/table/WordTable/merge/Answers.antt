use Rattle.std.proofs.Common.{rules, ap, subst, sym, ◌∙◌}
use Rattle.aio_rules.specs.SharedWords.{IsFree}
use Rattle.aio_words.proofs.Allowed.{joins}
use Rattle.aio_words.proofs.table.WordTable.merge.Goals as goal

pub join_seat-requires : goal.join_seat-requires
join_seat-requires c = (
  search rules,
  search rules,
  c.other.invariant,
  search rules,
  joins _ _ _ _ _ (ap (λ s. s.view.role) c.into.view_is ∙ c.requires.into.1) (subst (λ s. IsFree s.view) (sym c.other.view_is) c.requires.other.1),
)
