use Rattle.std.proofs.Common.{sym, ap, ◌∙◌, subst}
use Rattle.aio_base.specs.Hosts.{NotifierTells, wake_fault}
use Rattle.aio_rules.specs.SharedWords.{after}
use Rattle.aio_rules.specs.declared.seats.WordStep.TheVariants as word_step
use Rattle.aio_shared.specs.Inside.{InsideValue}
use Rattle.aio_shared.specs.Later.{later_further}
use Rattle.aio_places.proofs.ends.read_source.Goals as goal

pub returns-clause-tries : goal.returns-clause-tries
returns-clause-tries g c =
    let v = c.try_entered-made.ensures.tries in
    let rounds = c.once_woken.ensures.rounds in
    record {
      ticker = v.ticker;
      loaded = ap (λ n. after (word_step.LoadTicker n) c.args.host.now.member.pass.view) (rounds ∙ sym v.visited.0);
      least = v.least;
      found = v.found;
      key_is = v.key_is;
      rest_is = v.rest_is;
      put = v.put;
      visited = (v.visited.0 ∙ sym rounds, (c.try_entered-made.result.visited, c.once_woken.ensures.tried, v.visited.1));
      token_is = v.token_is;
    }

pub returns-clause-host : goal.returns-clause-host
returns-clause-host g c =
    let v = c.try_entered-made.ensures.tries in
    let kept = c.try_entered-made.ensures.kept in
    let woken = c.once_woken.ensures in
    record {
      between = c.try_entered-made.new.self;
      looks = (v.loaded ∙ ap (λ n. after (word_step.LoadTicker n) c.args.host.now.member.pass.view) (v.visited.0 ∙ sym woken.rounds), kept);
      wakes = woken.wakes;
      silent = c.try_entered-made.ensures.notifier;
      tells = subst (λ sure. NotifierTells sure (g.N.Faults.fault_count c.try_entered-made.new.self.member.notifier)
          (g.N.Faults.fault_count c.once_woken.new.host.member.notifier) (wake_fault c.once_woken.result.woken))
          (ap (λ (i : InsideValue g.row.N.Denot). g.N.Faults.is_sure i.member.notifier) kept) woken.notifier;
      goes = later_further g.N.Faults.fault_count g.N.Faults.is_sure c.args.host.now c.try_entered-made.new.self c.once_woken.new.host
          c.try_entered-made.ensures.later woken.later;
      same_pass = woken.pass ∙ ap (λ (i : InsideValue g.row.N.Denot). i.member.ops.number) kept;
      no_id = woken.ids ∙ ap (λ (i : InsideValue g.row.N.Denot). i.member.ids) kept;
    }
