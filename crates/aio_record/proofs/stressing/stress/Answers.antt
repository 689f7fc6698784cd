use Rattle.std.proofs.Common.{◌+◌}
use Rattle.aio_history.specs.DrawnCalls.{calls_from}
use Rattle.aio_record.proofs.Ending.{after_ok, end_of, paired, stressed, two_worked}
use Rattle.aio_record.proofs.stressing.stress.Goals as goal

pub join_all-requires : goal.join_all-requires
join_all-requires g c =
    let both = two_worked _ _ _ _ _ _ _ c.in-Ok.ensures.items c.two_ends-one.ensures c.in_ok-ends.ensures in
    paired (calls_from c.args.calls c.args.seed) (calls_from c.args.calls (c.args.seed + 1)) 0
    c.in_ok-firsts.firsts.items c.in_ok-firsts.seconds.items c.in_ok-firsts-2.firsts.items c.in_ok-seconds.seconds.items c.in_ok-firsts.ensures.fresh
    (end_of (λ v. v.items) c.args.calls c.new.result c.args.seed c.in_ok-firsts.firsts.items c.two_ends-one.result.0 c.in_ok-firsts-2.firsts c.in_ok-firsts-2.was c.new.ensures both.0)
    (end_of (λ v. v.items) c.args.calls c.new-2.result (c.args.seed + 1) c.in_ok-firsts.seconds.items c.two_ends-one.result.1 c.in_ok-seconds.seconds c.in_ok-seconds.was c.new-2.ensures both.1)

pub returns : goal.returns
returns g c =
    let both = two_worked _ _ _ _ _ _ _ c.in-Ok.ensures.items c.two_ends-one.ensures c.in_ok-ends.ensures in
    after_ok c.join_all.result _ _ (λ cells joint. stressed c.args.calls c.args.seed
    c.in_ok-firsts.firsts.items c.in_ok-firsts.seconds.items c.in_ok-firsts-2.firsts.items c.in_ok-seconds.seconds.items cells.items
    c.in_ok-firsts.ensures.first c.in_ok-firsts.ensures.fresh
    (end_of (λ v. v.items) c.args.calls c.new.result c.args.seed c.in_ok-firsts.firsts.items c.two_ends-one.result.0 c.in_ok-firsts-2.firsts c.in_ok-firsts-2.was c.new.ensures both.0)
    (end_of (λ v. v.items) c.args.calls c.new-2.result (c.args.seed + 1) c.in_ok-firsts.seconds.items c.two_ends-one.result.1 c.in_ok-seconds.seconds c.in_ok-seconds.was c.new-2.ensures both.1)
    joint) c.join_all.ensures
