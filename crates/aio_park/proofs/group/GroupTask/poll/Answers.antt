use Rattle.std.proofs.Common.{◌≡◌, ◌++◌, List, length, take, drop, map, sym, ap, ◌∙◌, subst, arith}
use Rattle.std.specs.Prelude.{Vec}
use Rattle.std.specs.declared.alloc.Global.{Global}
use Rattle.std.specs.List.{list_any}
use Rattle.aio_base.specs.Devices.{raised}
use Rattle.aio_park.specs.declared.group.Slot.{Slot}
use Rattle.aio_park.specs.declared.group.Slot.TheVariants.{Ended}
use Rattle.aio_park.specs.Groups.{GroupValue, SlotsAfter, SlotsGive, is_running}
use Rattle.aio_park.proofs.Polling.{ended_give, own_front}
use Rattle.aio_park.proofs.group.GroupTask.poll.Goals as goal
use Rattle.aio_park.proofs.group.GroupTask.poll.Goals.{After-poll_woken, After-move_answers}
use Rattle.aio_park.proofs.group.GroupTask.poll.Given.{Over}

-- the slots that the group has after the polls
own : (g : Over) (c : After-poll_woken g) → take c.self.inside.slots.len (c.poll_woken.new.slots ++ drop (length c.poll_woken.new.slots) c.self.inside.slots.items) ≡ c.poll_woken.new.slots
own g c = own_front c.poll_woken.new.slots _ _ (omega (arith, c.poll_woken.auto.slots, c.deref_mut.ensures.len))

-- what the polls made of the slots of the group
each : (g : Over) (c : After-poll_woken g)
    → SlotsAfter g.T.Task.poll_step g.T.Task.poll_count c.args.self.now.parker 0 c.args.cx c.args.self.now.slots c.args.host.now c.poll_woken.new.slots c.poll_woken.new.host
each g c =
    subst (λ (v : GroupValue g.row.T.Denot g.row.O.Denot). SlotsAfter g.T.Task.poll_step g.T.Task.poll_count v.parker 0 c.args.cx v.slots c.args.host.now c.poll_woken.new.slots c.poll_woken.new.host)
    c.self.view_is
    (subst (λ (l : List (Slot g.row.T.Denot g.row.O.Denot)). SlotsAfter g.T.Task.poll_step g.T.Task.poll_count c.self.inside.parker 0 c.args.cx l c.args.host.now c.poll_woken.new.slots c.poll_woken.new.host)
    c.deref_mut.ensures.value c.poll_woken.ensures.each)

-- they have all ended with the answers
ended : (g : Over) (c : After-move_answers g) → c.poll_woken.new.slots ≡ map Ended c.move_answers.new.answers.items
ended g c =
    sym (own g (goal.at.returns-clause-ready g c).After-poll_woken) ∙ sym (ap (λ (v : Vec (Slot g.row.T.Denot g.row.O.Denot) Global). v.items) c.replace-slots.ensures.value) ∙ c.move_answers.ensures

pub returns-clause-ready : goal.returns-clause-ready
returns-clause-ready g c =
    let gives = g.T.Task.gives in
    let sure = g.H.Later.notifier_is_sure c.args.host.now in
    let outputs = c.move_answers.new.answers.items in
    let after = subst (λ slots. SlotsGive gives slots sure c.args.cx.now outputs) (sym (ended g c)) (ended_give gives outputs sure c.args.cx.now) in
    subst (λ (v : GroupValue g.row.T.Denot g.row.O.Denot). SlotsGive gives v.slots sure c.args.cx.now outputs) c.self.view_is
    (subst (λ (l : List (Slot g.row.T.Denot g.row.O.Denot)). SlotsGive gives l sure c.args.cx.now outputs) c.deref_mut.ensures.value (c.poll_woken.ensures.gives c.args.cx.now outputs (omega arith) after))

pub returns-clause-step : goal.returns-clause-step
returns-clause-step g c = record {
  slots = c.poll_woken.new.slots;
  each = each g (goal.at.returns-clause-step g c).After-poll_woken;
  answer_is = (ended g c, ap (λ (v : Vec (Slot g.row.T.Denot g.row.O.Denot) Global). v.items) c.replace-slots.ensures.after ∙ c.new.ensures.items);
  parker = ap (λ (v : GroupValue g.row.T.Denot g.row.O.Denot). v.parker) c.self.view_is;
  polls_are = c.saturating_add-self-inside.ensures ∙ ap (λ (v : GroupValue g.row.T.Denot g.row.O.Denot). raised v.polls) c.self.view_is;
}

pub move_answers-requires-clause-ended : goal.move_answers-requires-clause-ended
move_answers-requires-clause-ended g c =
    ap (λ (v : Vec (Slot g.row.T.Denot g.row.O.Denot) Global). list_any is_running v.items) c.replace-slots.ensures.value
    ∙ sym (ap (list_any is_running) c.deref.ensures.value) ∙ sym c.any_runs.ensures ∙ c.if-any_runs.false

pub returns-then-any_runs-clause-step : goal.returns-then-any_runs-clause-step
returns-then-any_runs-clause-step g c =
    let same = own g (goal.at.returns-then-any_runs-clause-step g c).After-poll_woken in record {
      slots = c.poll_woken.new.slots;
      each = each g (goal.at.returns-then-any_runs-clause-step g c).After-poll_woken;
      answer_is = (ap (list_any is_running) (sym (c.deref.ensures.value ∙ same)) ∙ sym c.any_runs.ensures ∙ c.if-any_runs.true, same);
      parker = ap (λ (v : GroupValue g.row.T.Denot g.row.O.Denot). v.parker) c.self.view_is;
      polls_are = c.saturating_add-self-inside.ensures ∙ ap (λ (v : GroupValue g.row.T.Denot g.row.O.Denot). raised v.polls) c.self.view_is;
    }

pub returns-then-any_runs-clause-pending : goal.returns-then-any_runs-clause-pending
returns-then-any_runs-clause-pending g c moment outputs bound given =
    let gives = g.T.Task.gives in
    let sure = g.H.Later.notifier_is_sure c.args.host.now in
    let after = subst (λ (l : List (Slot g.row.T.Denot g.row.O.Denot)). SlotsGive gives l sure moment outputs.items) (own g (goal.at.returns-then-any_runs-clause-pending g c).After-poll_woken) given in
    subst (λ (v : GroupValue g.row.T.Denot g.row.O.Denot). SlotsGive gives v.slots sure moment outputs.items) c.self.view_is
    (subst (λ (l : List (Slot g.row.T.Denot g.row.O.Denot)). SlotsGive gives l sure moment outputs.items) c.deref_mut.ensures.value (c.poll_woken.ensures.gives moment outputs.items bound after))

pub invariant_of-self : goal.invariant_of-self
invariant_of-self g c = c.self.invariant
