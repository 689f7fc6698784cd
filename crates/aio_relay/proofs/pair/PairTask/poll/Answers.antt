use Rattle.std.proofs.Common.{ap, subst, sym, ◌∙◌}
use Rattle.aio_base.specs.declared.outcomes.Poll.TheVariants.{Ready}
use Rattle.aio_relay.specs.Pairs.{PairState, PollsPair}
use Rattle.aio_relay.proofs.pair.PairTask.poll.Goals as goal

pub returns-in-Ready-clause-step : goal.returns-in-Ready-clause-step
returns-in-Ready-clause-step g c =
    let p = c.self.inside in
    record {
      kept = p.timer;
      until = c.poll_on.new.host;
      polled = subst (λ (pair : PairState g.row.E.Denot). PollsPair g.E.End.end_step g.E.Tells.telling g.E.Faults.is_sure g.E.Faults.fault_count g.H.TimerHost.rules
          g.H.Later.is_later g.H.Later.notifier_is_sure c.args.self.now c.args.host.now c.args.cx (Ready c.in-Ready.end) pair c.poll_on.new.host) (sym c.self.view_is) c.in-Ready.ensures.step;
      goes_on = c.in-Ready.ensures.host;
      stays = λ before. ap (λ (pair : PairState g.row.E.Denot). pair.timer) c.self.view_is ∙ c.in-Ready.ensures.stays before;
      ends_timer = c.give_up.ensures.gives_up;
      ends_later = c.give_up.ensures.host;
    }
