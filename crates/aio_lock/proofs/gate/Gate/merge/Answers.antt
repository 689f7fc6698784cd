use Rattle.std.proofs.Common.{rules, ap, sym, ◌∙◌}
use Rattle.aio_lock.specs.Tokens.{view_of}
use Rattle.aio_lock.proofs.Allowed.{joins}
use Rattle.aio_lock.proofs.gate.Gate.merge.Goals as goal

pub join_seat-requires : goal.join_seat-requires
join_seat-requires g c = (
  search rules,
  search rules,
  search rules,
  search rules,
  joins _ _ _ _ _ _
      (ap (λ m. m.0.view.taken) c.seat-seat.ensures.rests ∙ ap (λ t. t.knows.taken) c.into.view_is ∙ c.requires.into.1)
      (ap (λ l. (view_of l).taken) (sym c.into_seat-other.ensures.2) ∙ ap (λ t. t.knows.taken) c.other.view_is ∙ c.requires.other.1),
)
