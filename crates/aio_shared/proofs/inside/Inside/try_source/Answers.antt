use Rattle.std.proofs.Common.{rules}
use Rattle.aio_shared.proofs.Leaving.{leaves, visits_alike}
use Rattle.aio_shared.proofs.inside.Inside.try_source.Goals as goal

pub returns-clause-tries : goal.returns-clause-tries
returns-clause-tries g c = record {
  tried = c.try_entered-tried.result.visited;
  between = c.try_entered-tried.new.self.member.pass.view;
  visit = visits_alike _ _ _ (λ found ticker visited put both. both.1) _ _ _ _ _ c.try_entered-tried.ensures.tries;
  woken = c.wake_replaced-woken.result;
  woke = search rules;
  answer_is = c.told.ensures.answer;
}

pub returns-clause-leaves : goal.returns-clause-leaves
returns-clause-leaves g c =
    let visit = c.try_entered-tried.ensures in
    let wake = c.wake_replaced-woken.ensures in
    leaves _ _ _ _ _ c.try_entered-tried.new.self _ c.try_entered-tried.result.visited.answer c.wake_replaced-woken.result _ visit.kept visit.later wake.kept wake.later wake.notifier visit.arm
    c.told.ensures.answer c.told.ensures.arm
