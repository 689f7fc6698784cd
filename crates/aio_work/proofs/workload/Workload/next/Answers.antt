use Rattle.std.proofs.Common.{◌≡◌, ◌∙◌, ℕ, List, Some, map, ap, subst, inr, arith}
use Rattle.aio_work.proofs.Queueing.{own_front}
use Rattle.aio_work.specs.Slots.{NoneDue, StealsFrom, held_at, let_go, nothing}
use Rattle.aio_work.specs.declared.slots.Held.{Held}
use Rattle.aio_work.proofs.workload.Workload.next.Goals as goal

pub returns-in-Some-steal_from-clause-found : goal.returns-in-Some-steal_from-clause-found
returns-in-Some-steal_from-clause-found g c =
    let others = c.args.self.now.others in
    let own = own_front c.let_queued_go.new.slots _ _ (omega (arith, c.let_queued_go.auto.slots, c.deref_mut.ensures.len)) in
    inr (inr (record {
      empty = record {
        none_due = subst NoneDue c.deref.ensures.value c.in_default.ensures.none;
        none = c.in_default-pop.ensures;
        slots = own ∙ c.let_queued_go.ensures ∙ ap (map let_go) c.deref_mut.ensures.value;
      };
      free = subst (λ (slots : List Held). held_at slots c.in-Some-first.slot ≡ nothing) c.deref-2.ensures.value c.in-Some-first.ensures.found;
      stolen = subst (λ (n : ℕ). StealsFrom n (Some c.in-Some-steal_from.place) others.items c.steal_from.new.others.items) others.ok.0 c.in-Some-steal_from.ensures;
    }))
