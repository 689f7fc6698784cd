use Rattle.std.proofs.Common.{arith, refl}
use Rattle.std.proofs.lemmas.Grind.{common_steps}
use Rattle.aio_modes.specs.Interests.{common}
use Rattle.aio_script.specs.Interests.{interests_in}
use Rattle.aio_modes.proofs.GivingLemmas.{none_owed}
use Rattle.aio_modes.proofs.owed.give_owed.Goals as goal

pub loop-number-init : goal.loop-number-init
loop-number-init c =
    let none = none_owed (λ key. common (interests_in c.args.on.now key) (interests_in c.args.there.now key)) c.args.room in
    record { gives = record { out = grind (arith, common_steps); count = grind (arith, common_steps) }; fits = omega arith; length = omega arith; capacity = refl }
