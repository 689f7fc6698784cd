use Rattle.std.proofs.Common.{◌≡◌, ◌∙◌, [], ◌∷◌, ◌++◌, List, length, refl, sym, ap, arith}
use Rattle.aio_park.specs.declared.group.Slot.{Slot}
use Rattle.aio_park.specs.declared.group.Slot.TheVariants.{Running}
use Rattle.aio_park.specs.Groups.{GroupValue}
use Rattle.aio_park.proofs.group.Group.add.Goals as goal
use Rattle.aio_park.proofs.group.Group.add.Goals.{After-len-slot}
use Rattle.aio_park.proofs.group.Group.add.Given.{Over}

-- the slot of the task that is to be added is the count of those that are there
slot : (g : Over) (c : After-len-slot g) → c.len-slot.result ≡ length c.args.self.now.slots
slot g c = omega (arith, c.len-slot.ensures, c.self.inside.slots.ok, ap (λ (v : GroupValue g.row.T.Denot g.row.O.Denot). length v.slots) c.self.view_is)

pub returns-then-slot-eq-SLOT_LIMIT-clause-full : goal.returns-then-slot-eq-SLOT_LIMIT-clause-full
returns-then-slot-eq-SLOT_LIMIT-clause-full g c =
    (λ same. sym (slot g (goal.at.returns-then-slot-eq-SLOT_LIMIT-clause-full g c).After-len-slot) ∙ c.if-slot-eq-SLOT_LIMIT.true, λ same. refl)

pub returns-then-slot-eq-SLOT_LIMIT-clause-refused : goal.returns-then-slot-eq-SLOT_LIMIT-clause-refused
returns-then-slot-eq-SLOT_LIMIT-clause-refused g c = refl

pub returns-then-is_err-clause-full : goal.returns-then-is_err-clause-full
returns-then-is_err-clause-full g c =
    (λ same. cc, λ same. absurd (c.if-slot-eq-SLOT_LIMIT.false (slot g (goal.at.returns-then-is_err-clause-full g c).After-len-slot ∙ same)))

pub returns-clause-slot : goal.returns-clause-slot
returns-clause-slot g c = slot g (goal.at.returns-clause-slot g c).After-len-slot

pub returns-clause-added : goal.returns-clause-added
returns-clause-added g c =
    let items = c.push_reserved.ensures.items
    ∙ ap (λ (l : List (Slot g.row.T.Denot g.row.O.Denot)). l ++ Running c.args.task ∷ []) (c.reserve.ensures.items ∙ ap (λ (v : GroupValue g.row.T.Denot g.row.O.Denot). v.slots) c.self.view_is) in
    λ i. record { parker = (c.self.view_is i).parker; slots = items i; polls = (c.self.view_is i).polls }

pub returns-clause-full : goal.returns-clause-full
returns-clause-full g c = (λ none. absurd none, λ same. c.if-slot-eq-SLOT_LIMIT.false (slot g (goal.at.returns-clause-full g c).After-len-slot ∙ same))
