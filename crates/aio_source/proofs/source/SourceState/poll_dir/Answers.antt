use Rattle.std.proofs.Common.{◌≡◌, false, if◌then◌else◌, ap, ◌∙◌, arith}
use Rattle.std.proofs.lemmas.Grind.{common_steps}
use Rattle.aio_base.specs.Devices.{ArmOf}
use Rattle.aio_base.specs.Machine.{is_waker}
use Rattle.aio_source.proofs.AskLemmas.{lent_alike, polling_unready}
use Rattle.aio_source.specs.Rules.{is_ready, direction_of, with_direction, stored, wanted}
use Rattle.aio_source.specs.Values.{DirectionValue, SourceValue}
use Rattle.aio_source.proofs.source.SourceState.poll_dir.Goals as goal

pub returns-clause-lent : goal.returns-clause-lent
returns-clause-lent g c =
    let unready : is_ready (direction_of c.args.self.now.directions c.args.dir) ≡ false = grind (arith, common_steps) in
    let kept : DirectionValue → DirectionValue = λ d. if is_waker c.args.w d.waiter then d else stored c.args.w c.args.ticker d in
    rw (polling_unready c.args.self.now c.args.dir c.args.w c.args.ticker unready)
    (lent_alike c.arm_where-armed.result c.pending_unless.result c.pending_unless.ensures (grind (arith, common_steps))
    (ap (λ (d : DirectionValue). ArmOf c.self.inside.key (wanted (with_direction c.self.inside.directions c.args.dir d))) (c.store-replaced.ensures.after ∙ ap kept c.get_mut-direction.ensures.value)
    ∙ ap (λ (s : SourceValue). ArmOf s.key (wanted (with_direction s.directions c.args.dir (kept (direction_of s.directions c.args.dir))))) c.self.view_is)
    c.arm_where-armed.ensures.lent)
