use Rattle.std.proofs.Common.{rules, arith, ◌≡◌, ◌<◌, ◌∙◌, true, ap, sym, length, take}
use Rattle.std.proofs.lemmas.Grind.{common_steps}
use Rattle.aio_base.specs.declared.names.Event.{Event}
use Rattle.aio_base.specs.World.{has_any}
use Rattle.aio_modes.specs.Raw.{owed_events}
use Rattle.aio_modes.proofs.GivingLemmas.{one_more_given}
use Rattle.aio_modes.proofs.owed.give_one.Goals as goal

pub returns-clause-gives : goal.returns-clause-gives
returns-clause-gives c = λ owed before n is so_far.
    let out = so_far.out in
    let count = so_far.count in
    let some : has_any (owed n) ≡ true = ap (λ (e : Event). has_any e.on) (sym is) ∙ (search rules) in
    let less : length (take c.args.room (owed_events owed n)) < c.args.room = omega arith in
    let more = one_more_given owed n c.args.room some less in
    record { out = grind (arith, common_steps); count = grind (arith, common_steps) }
