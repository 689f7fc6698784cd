use Rattle.std.proofs.Common.{◌∙◌, List, ap, subst}
use Rattle.aio_base.specs.declared.names.Key.{Key}
use Rattle.aio_script.specs.Interests.{interests_in}
use Rattle.aio_modes.specs.Raw.{RawDid}
use Rattle.aio_modes.specs.OneShots.{SetsEach, keys_to_set}
use Rattle.aio_modes.proofs.SettingLemmas.{keys_to_set_cut}
use Rattle.aio_modes.proofs.answering.answer_events.Goals as goal

pub returns-clause-sets : goal.returns-clause-sets
returns-clause-sets g c =
    let mode = g.R.RawPoller.mode_of c.args.raw.now in
    subst (λ (keys : List Key). SetsEach (RawDid g.R.RawPoller.raw_step g.R.RawPoller.told g.R.RawPoller.mode_of g.R.Faults.fault_count g.R.Faults.is_sure) (interests_in c.unarm.new.armed) c.args.raw.now keys c.set_again.new.raw)
    (ap (keys_to_set mode) c.cut_all.ensures ∙ keys_to_set_cut mode (interests_in c.args.armed.now) c.args.events.now)
    c.set_again.ensures
