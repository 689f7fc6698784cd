use Rattle.std.proofs.Common.{rules, ◌≡◌, false, sym, subst}
use Rattle.aio_base.specs.World.{opening}
use Rattle.aio_script.specs.Script.{Script}
use Rattle.aio_react.specs.Standing.{Stands}
use Rattle.aio_facts.specs.Armed.{AgreesWithArmed}
use Rattle.aio_c.specs.declared.held.Held.{Held}
use Rattle.aio_c.specs.Promises.{tells}
use Rattle.aio_c.proofs.aio_new.Goals as goal

pub returns-in-Ok-new-2-clause-stands : goal.returns-in-Ok-new-2-clause-stands
returns-in-Ok-new-2-clause-stands c armed agrees made =
    let within : c.close.result.home ≡ record { core = c.in-Ok-new.core; clock = 0; unread = false } = search rules in
    subst (λ (held : Held). Stands (tells held.core.0) held.core.1 (record opening { armed = armed })) (sym within)
    (c.in-Ok-new.ensures.stands armed (subst (λ (p : Script). AgreesWithArmed (tells p) armed) (sym c.in-Ok.ensures.fresh) agrees))
