use Rattle.std.proofs.Common.{◌∙◌, List, ◌++◌, drop, None, Some, option_map, slice_get, refl, sym, ap, rules}
use Rattle.std.proofs.lemmas.List.{drop-drop}
use Rattle.aio_base.specs.declared.names.Event.{Event}
use Rattle.aio_base.specs.declared.names.Waker.{Waker}
use Rattle.aio_base.specs.World.{directions}
use Rattle.aio_source.specs.Rules.{taken_along}
use Rattle.aio_source.specs.InHand.{RoundValue}
use Rattle.aio_react.specs.Rounds.{wait_answer}
use Rattle.aio_react.proofs.rounds.FirstEvent.{first_on, handled_is, none_kept}
use Rattle.aio_react.proofs.round.RoundInHand.handle.Goals as goal

pub returns-in-Ok-handle-clause-lent : goal.returns-in-Ok-handle-clause-lent
returns-in-Ok-handle-clause-lent g c =
    let some = ap (λ (r : RoundValue). option_map (λ (event : Event). event.key) (slice_get r.hand 0)) c.self.view_is ∙ c.requires in
    let on = first_on c.self.inside.events.items c.self.inside.done c.index-event.result.now c.args.s.now.key some c.index-event.ensures in
    rw (← c.self.view_is, on) c.in-Ok-handle.ensures.lent

pub returns-in-Err-handle-clause-lent : goal.returns-in-Err-handle-clause-lent
returns-in-Err-handle-clause-lent g c =
    let some = ap (λ (r : RoundValue). option_map (λ (event : Event). event.key) (slice_get r.hand 0)) c.self.view_is ∙ c.requires in
    let on = first_on c.self.inside.events.items c.self.inside.done c.index-event.result.now c.args.s.now.key some c.index-event.ensures in
    rw (← c.self.view_is, on) c.in-Err-handle.ensures.lent

pub returns-in-Ok-handle-clause-source : goal.returns-in-Ok-handle-clause-source
returns-in-Ok-handle-clause-source g c =
    let some = ap (λ (r : RoundValue). option_map (λ (event : Event). event.key) (slice_get r.hand 0)) c.self.view_is ∙ c.requires in
    let on = first_on c.self.inside.events.items c.self.inside.done c.index-event.result.now c.args.s.now.key some c.index-event.ensures in
    rw (← c.self.view_is, on) c.in-Ok-handle.ensures.after

pub returns-in-Err-handle-clause-source : goal.returns-in-Err-handle-clause-source
returns-in-Err-handle-clause-source g c =
    let some = ap (λ (r : RoundValue). option_map (λ (event : Event). event.key) (slice_get r.hand 0)) c.self.view_is ∙ c.requires in
    let on = first_on c.self.inside.events.items c.self.inside.done c.index-event.result.now c.args.s.now.key some c.index-event.ensures in
    rw (← c.self.view_is, on) c.in-Err-handle.ensures.after

pub returns-in-Ok-handle-clause-round : goal.returns-in-Ok-handle-clause-round
returns-in-Ok-handle-clause-round g c =
    let i = c.self.inside in
    let some = ap (λ (r : RoundValue). option_map (λ (event : Event). event.key) (slice_get r.hand 0)) c.self.view_is ∙ c.requires in
    let on = first_on c.self.inside.events.items c.self.inside.done c.index-event.result.now c.args.s.now.key some c.index-event.ensures in
    let wakers = taken_along c.index-event.result.now.on i.number directions c.args.s.now.directions in
    let taken = c.in-Ok-handle.ensures.taken ∙ ap (λ (t : List Waker). t ++ wakers) c.make_room.ensures.items in
    let r : RoundValue = record {
      running = i.running;
      number = i.number;
      limit = i.limit;
      hand = drop i.done i.events.items;
      taken = i.taken.items;
      last = option_map (wait_answer i.limit i.events.items) i.last;
      fault = i.fault;
    } in
    rw (← c.self.view_is, on) (handled_is r _ _ wakers _ None (sym (drop-drop 1 i.done i.events.items)) taken (none_kept i.fault))

pub returns-in-Err-handle-clause-round : goal.returns-in-Err-handle-clause-round
returns-in-Err-handle-clause-round g c =
    let i = c.self.inside in
    let some = ap (λ (r : RoundValue). option_map (λ (event : Event). event.key) (slice_get r.hand 0)) c.self.view_is ∙ c.requires in
    let on = first_on c.self.inside.events.items c.self.inside.done c.index-event.result.now c.args.s.now.key some c.index-event.ensures in
    let wakers = taken_along c.index-event.result.now.on i.number directions c.args.s.now.directions in
    let taken = c.in-Err-handle.ensures.taken ∙ ap (λ (t : List Waker). t ++ wakers) c.make_room.ensures.items in
    let r : RoundValue = record {
      running = i.running;
      number = i.number;
      limit = i.limit;
      hand = drop i.done i.events.items;
      taken = i.taken.items;
      last = option_map (wait_answer i.limit i.events.items) i.last;
      fault = i.fault;
    } in
    rw (← c.self.view_is, on) (c.keep.ensures ∙ handled_is r _ _ wakers _ (Some c.in-Err-handle.fault) (sym (drop-drop 1 i.done i.events.items)) taken refl)

pub returns-in-Err-clause-refused : goal.returns-in-Err-clause-refused
returns-in-Err-clause-refused g c = search rules
