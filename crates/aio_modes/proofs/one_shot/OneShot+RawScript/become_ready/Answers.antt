use Rattle.std.proofs.Common.{ap}
use Rattle.aio_script.specs.Interests.{interests_in}
use Rattle.aio_modes.specs.Raw.{RawLists}
use Rattle.aio_modes.specs.Scripts.{lists_of}
use Rattle.aio_modes.proofs.AskingLemmas.{asked_with_same_on}
use Rattle.aio_modes.proofs.one_shot.OneShot+RawScript.become_ready.Goals as goal

pub invariant_of-self : goal.invariant_of-self
invariant_of-self c =
    asked_with_same_on c.self.inside.raw.mode c.become_ready.new.self.mode (lists_of c.self.inside.raw) (lists_of c.become_ready.new.self) (interests_in c.self.inside.armed) c.become_ready.ensures.same_mode (ap (λ (lists : RawLists). lists.on) c.become_ready.ensures.lists_are) c.self.invariant
