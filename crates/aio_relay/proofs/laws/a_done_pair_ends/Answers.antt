use Rattle.aio_relay.proofs.PollLemmas.{done-tells, none-failed, no-rise}
use Rattle.aio_relay.proofs.laws.a_done_pair_ends.Goals as goal

pub returns : goal.returns
returns g c old new host left cx answer p short done still still_a still_b =
    done-tells _ _ new cx.now _ _ answer p.tells short done
    (λ f. none-failed g.E.Faults.is_sure g.E.Faults.fault_count old.a new.a old.b new.b f still_a still_b)
    (λ f. no-rise (g.H.TimerHost.rules.faults host) (g.H.TimerHost.rules.faults left) (g.H.Later.notifier_is_sure host) f still)
