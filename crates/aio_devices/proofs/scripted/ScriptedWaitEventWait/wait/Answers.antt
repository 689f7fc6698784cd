use Rattle.std.proofs.Common.{arith, rules, ◌≡◌, List, ◌∷◌, ◌++◌, Ok, length, min, take, ap, refl, subst, sym, ◌∙◌}
use Rattle.std.proofs.lemmas.List.{length-take}
use Rattle.std.specs.Vec.Iter.{into_iter_items}
use Rattle.aio_base.specs.declared.names.Event.{Event}
use Rattle.aio_base.specs.declared.outcomes.Waited.TheVariants.{Given}
use Rattle.aio_devices.specs.Answers.{ComesTo}
use Rattle.aio_devices.specs.declared.scripted.WaitAnswer.{WaitAnswer}
use Rattle.aio_devices.specs.declared.scripted.WaitAnswer.TheVariants.{Gives}
use Rattle.aio_devices.proofs.scripted.ScriptedWaitEventWait.wait.Goals as goal

-- the first events of the answer are given
pub returns-in-Some-Gives-clause-added : goal.returns-in-Some-Gives-clause-added
returns-in-Some-Gives-clause-added c =
    let room = c.args.room in
    let events = c.in-Some-Gives.events.items in
    let counted : length (take room events) ≡ c.give.result =
    length-take room events ∙ sym (c.give.ensures.count ∙ ap (λ (given : List Event). min room (length given)) c.as_slice.ensures.value) in
    let joined = c.give.ensures.added ∙ ap (λ (given : List Event). c.args.out.now.items ++ take room given) c.as_slice.ensures.value in
    let left : into_iter_items c.self.inside.left ≡ Gives c.in-Some-Gives.events ∷ into_iter_items c.next.new.self = search rules in
    let comes : ComesTo (into_iter_items c.self.inside.left) room (Ok (Given c.give.result)) (take room events) =
    subst (λ (left : List WaitAnswer). ComesTo left room (Ok (Given c.give.result)) (take room events)) (sym left)
    (ap (λ n. Ok (Given n)) (sym counted), refl) in
    (take room events, joined, (counted, omega (arith, c.give.ensures.count)), search rules)

pub returns-in-Some-Interrupted-clause-waits : goal.returns-in-Some-Interrupted-clause-waits
returns-in-Some-Interrupted-clause-waits c = search rules
