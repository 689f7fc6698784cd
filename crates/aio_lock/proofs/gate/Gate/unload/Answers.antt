use Rattle.std.proofs.Common.{rules, ap, sym, ◌∙◌, ◌∷◌, Some}
use Rattle.atomic_table.specs.Table.{rest}
use Rattle.aio_lock.proofs.Allowed.{may_leave_slot}
use Rattle.aio_lock.proofs.gate.Gate.unload.Goals as goal

pub exchange-content-requires : goal.exchange-content-requires
exchange-content-requires g c = let has = c.requires.laden in let out = ap (λ m. m.1) has.1 in (search rules, (Some has.0, out ∙ ap (λ l. (0, Some has.0) ∷ rest l) (sym out)))

pub load-requires : goal.load-requires
load-requires g c = (search rules, search rules, may_leave_slot _ _ _ _ _ _ c.requires.laden c.exchange-content.ensures.3)
