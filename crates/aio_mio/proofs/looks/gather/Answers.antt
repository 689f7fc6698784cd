use Rattle.std.proofs.Common.{arith, ◌++◌, List, [], ◌∷◌, length, ap, sym, subst, ◌∙◌}
use Rattle.std.proofs.lemmas.Bool.{not-false}
use Rattle.std.proofs.lemmas.List.{append-nil, append_assoc}
use Rattle.std.specs.Slice.Iter.{iter_rest}
use Rattle.mio.specs.Events.{items}
use Rattle.mio.specs.declared.event.event.Event as given
use Rattle.aio_base.specs.World.{has_any}
use Rattle.aio_base.specs.declared.names.Event.{Event}
use Rattle.aio_mio.specs.Gathering.{Came}
use Rattle.aio_mio.proofs.Gathered.{came_of_source, nothing_comes}
use Rattle.aio_mio.proofs.looks.gather.Goals as goal

-- one event more came, by an answer that names a direction
pub loop-event-preserved-then-not-is_none : goal.loop-event-preserved-then-not-is_none
loop-event-preserved-then-not-is_none g c =
    let answers = g.E.EdgeKeeper.answers c.args.edges.now in
    let e = c.in-Some.event.now in
    let told = c.in-Some-source_event.told in
    let on = c.tell-on.result in
    let one : Event = record { key = told.key; on = on } in (
      c.loop-event.invariant.0,
      c.loop-event.invariant.1,
      (λ behind came.
          subst (λ (events : List Event). Came answers (items c.args.events.now) (events ++ behind)) (sym c.push_reserved.ensures.items)
          (subst (Came answers (items c.args.events.now)) (sym (append_assoc c.loop-event.came.items (one ∷ []) behind))
          (c.loop-event.invariant.2 (one ∷ behind)
          (subst (λ (rest : List given.Event). Came answers rest (one ∷ behind)) (sym c.in-Some.ensures.steps)
          (came_of_source answers e (iter_rest c.next.new.self) told on behind (sym c.source_event.ensures ∙ c.in-Some-source_event.is)
          (subst (λ unsure. answers told unsure on) c.is_unsure.ensures c.tell-on.ensures)
          (not-false (has_any on) (sym c.if-not-is_none.ensures))
          came))))),
      omega (arith, ap length c.in-Some.ensures.steps, c.push_reserved.ensures.len, c.loop-event.invariant.3),
      c.push_reserved.ensures.capacity ∙ c.loop-event.invariant.4,
    )

-- no event is left of which anything could come
pub returns-clause-came : goal.returns-clause-came
returns-clause-came g c =
    let answers = g.E.EdgeKeeper.answers c.args.edges.now in
    subst (Came answers (items c.args.events.now)) (append-nil c.loop-event.came.items)
    (c.loop-event.invariant.2 [] (nothing_comes answers (iter_rest c.loop-event.event-iterator) c.in-None.ensures.steps.0))
