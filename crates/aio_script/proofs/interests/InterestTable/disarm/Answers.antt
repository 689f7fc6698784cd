use Rattle.std.proofs.Common.{arith, ◌≡◌, List, [], drop, ◌∙◌, ap, sym}
use Rattle.std.proofs.lemmas.List.{drop_all}
use Rattle.aio_base.specs.declared.names.Event.{Event}
use Rattle.aio_script.specs.Interests.{interests_in, cleared}
use Rattle.aio_script.proofs.TableLemmas.{told_cleared}
use Rattle.aio_script.proofs.interests.InterestTable.disarm.Goals as goal

pub returns-clause-told : goal.returns-clause-told
returns-clause-told c =
    let none_left : drop c.loop-event.event-index c.args.events.now ≡ [] = drop_all c.loop-event.event-index c.args.events.now (omega arith) in
    ap interests_in (ap (λ (left : List Event). cleared left c.loop-event.self) (sym none_left) ∙ c.loop-event.invariant)
    ∙ told_cleared c.args.events.now c.args.self.now
