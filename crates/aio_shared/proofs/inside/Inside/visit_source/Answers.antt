use Rattle.std.proofs.Common.{rules}
use Rattle.aio_shared.proofs.Leaving.{leaves, visits_alike}
use Rattle.aio_shared.proofs.inside.Inside.visit_source.Goals as goal

pub returns-clause-works : goal.returns-clause-works
returns-clause-works g c = record {
  tried = c.enter_and_leave-visited.result.visited;
  between = c.enter_and_leave-visited.new.self.member.pass.view;
  visit = visits_alike _ _ _ (λ found ticker visited put both. both.1) _ _ _ _ _ c.enter_and_leave-visited.ensures.visits;
  woken = c.wake_replaced-woken.result;
  woke = search rules;
  answer_is = c.told.ensures.answer;
}

pub returns-clause-leaves : goal.returns-clause-leaves
returns-clause-leaves g c =
    let visit = c.enter_and_leave-visited.ensures in
    let wake = c.wake_replaced-woken.ensures in
    leaves _ _ _ _ _ c.enter_and_leave-visited.new.self _ c.enter_and_leave-visited.result.visited.answer c.wake_replaced-woken.result _ visit.kept visit.later wake.kept wake.later wake.notifier visit.arm
    c.told.ensures.answer c.told.ensures.arm
