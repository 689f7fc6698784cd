use Rattle.std.proofs.Common.{List, ◌++◌, ◌∷◌, [], reverse, refl, sym, ap, ◌∙◌, arith}
use Rattle.aio_base.specs.World.{directions}
use Rattle.aio_base.specs.declared.names.Waker.{Waker}
use Rattle.aio_history.specs.declared.steps.CellStep.{CellStep}
use Rattle.aio_history.specs.declared.steps.CellStep.TheVariants as step
use Rattle.aio_source.specs.Lent.{settled}
use Rattle.aio_source.specs.Rules.{handling}
use Rattle.aio_record.proofs.Leaving.{keeps_handle, sure_told, where_done, counted, at_most_three, three_wait, has_room, has_place, fits_few}
use Rattle.aio_record.proofs.recorded.RecordedCell.handle.Goals as goal

pub handle-never_fails-requires-clause-room : goal.handle-never_fails-requires-clause-room
handle-never_fails-requires-clause-room c =
    let room = where_done c.reserve-2.result (sym c.is_err-2.ensures.value ∙ c.if-is_err-2.false) c.reserve-2.ensures.ok in
    has_room _ _ _ room (three_wait (reverse c.self.inside.steps.items) c.self.inside.source.state.directions c.self.invariant.left)

pub overflow_cast-taken : goal.overflow_cast-taken
overflow_cast-taken c =
    let past = reverse c.self.inside.steps.items in
    fits_few _ _
    (counted past c.self.inside.source.state c.args.on c.args.round c.len-taken.result c.clear.new.self.items c.reserve-2.new.self.items c.handle-never_fails.new.taken.items
    c.self.invariant.left c.clear.ensures.items c.reserve-2.ensures.items c.handle-never_fails.ensures.taken (c.len-taken.ensures ∙ c.handle-never_fails.new.taken.ok.0))
    (at_most_three past c.args.on)

pub push_reserved-requires : goal.push_reserved-requires
push_reserved-requires c =
    let room = where_done c.reserve.result (sym c.is_err.ensures.value ∙ c.if-is_err.false) c.reserve.ensures.ok in
    has_place _ _ room

pub invariant_of-self-2 : goal.invariant_of-self-2
invariant_of-self-2 c =
    let s = c.self.inside.source.state in
    let h = handling s c.args.on c.args.round in
    let sure = (c.handle-never_fails.ensures.lent.faults.cause.never refl).0 in
    keeps_handle c.self.inside.steps.items s c.args.on c.args.round c.len-taken.result c.handle-never_fails.new.self c.push_reserved.new.self.items
    c.self.invariant
    (counted (reverse c.self.inside.steps.items) s c.args.on c.args.round c.len-taken.result
    c.clear.new.self.items c.reserve-2.new.self.items c.handle-never_fails.new.taken.items
    c.self.invariant.left c.clear.ensures.items c.reserve-2.ensures.items c.handle-never_fails.ensures.taken (c.len-taken.ensures ∙ c.handle-never_fails.new.taken.ok.0))
    (c.handle-never_fails.ensures.after ∙ ap (λ told. settled h.arms told h.source) (sure_told _ sure))
    (c.push_reserved.ensures.items ∙ ap (λ (l : List CellStep). l ++ step.Handle c.args.on c.args.round c.len-taken.result ∷ []) c.reserve.ensures.items)

pub returns-clause-answer : goal.returns-clause-answer
returns-clause-answer c =
    rw (← c.self.view_is) (counted (reverse c.self.inside.steps.items) c.self.inside.source.state c.args.on c.args.round _
    c.clear.new.self.items c.reserve-2.new.self.items c.handle-never_fails.new.taken.items
    c.self.invariant.left c.clear.ensures.items c.reserve-2.ensures.items c.handle-never_fails.ensures.taken (omega arith))

pub returns-clause-source : goal.returns-clause-source
returns-clause-source c =
    let h = handling c.self.inside.source.state c.args.on c.args.round in
    rw (← c.self.view_is) (c.handle-never_fails.ensures.after
    ∙ ap (λ told. settled h.arms told h.source) (sure_told _ (c.handle-never_fails.ensures.lent.faults.cause.never refl).0))
