use Rattle.std.proofs.Common.{◌+◌, ◌-◌, ℕ, suc, List, Some, None, refl, sym, subst, arith, inl, inr}
use Rattle.std.specs.VecDeque.{deque_len}
use Rattle.aio_turns.specs.Passes.{ThiefView}
use Rattle.aio_work.specs.Slots.{StealsFrom}
use Rattle.aio_work.proofs.slots.steal_from.Goals as goal

pub returns-in-Some-stolen : goal.returns-in-Some-stolen
returns-in-Some-stolen g c =
    let left : ℕ = deque_len c.args.others.now - (c.loop-look._look + 1) in
    let place = c.in-Some-stolen.place in
    c.loop-look.invariant.looks (suc left) (Some place) c.push_back_reserved.new.self.items (omega (arith, c.loop-look-test.true, c.len-look-end.ensures))
    (subst (λ (items : List ThiefView). StealsFrom (suc left) (Some place) items c.push_back_reserved.new.self.items) (sym c.in-Some.ensures.items)
    (c.steal-stolen.new.self, inr (place, refl, c.in-Some-stolen.ensures, c.push_back_reserved.ensures.items)))

pub loop-look-preserved : goal.loop-look-preserved
loop-look-preserved g c = record {
  looks = λ left stolen after all steals. c.loop-look.invariant.looks (suc left) stolen after (omega (arith, all))
      (subst (λ (items : List ThiefView). StealsFrom (suc left) stolen items after) (sym c.in-Some.ensures.items)
      (c.steal-stolen.new.self, inl (c.in_default-stolen.ensures, subst (λ (items : List ThiefView). StealsFrom left stolen items after) c.push_back_reserved.ensures.items steals)));
  len = omega (arith, c.loop-look.invariant.len, c.in-Some.ensures.len, c.push_back_reserved.ensures.len);
}

pub returns : goal.returns
returns g c = c.loop-look.invariant.looks 0 None c.loop-look.others.items (omega (arith, c.loop-look-test.false, c.len-look-end.ensures, c.loop-look.auto._look-end)) (refl, refl)
