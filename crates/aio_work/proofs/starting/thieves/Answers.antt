use Rattle.std.proofs.Common.{◌≡◌, ◌∙◌, ◌<◌, [], ◌∷◌, ◌++◌, length, map, refl, sym, ap, arith, append-nil, length-append}
use Rattle.std.proofs.lemmas.List.{length-map}
use Rattle.aio_work.specs.Starting.{deque_of_thief, sight}
use Rattle.aio_work.proofs.Rotating.{all_done, first_of, goes_back, seen_deques, some_left, still_all, takes_first, thief_more}
use Rattle.aio_work.proofs.starting.thieves.Goals as goal

pub loop-made-init : goal.loop-made-init
loop-made-init c = record {
  left = map sight c.args.owns.now.items;
  done = [];
  now = sym (append-nil (map sight c.args.owns.now.items));
  all = refl;
  thieves = ap (map deque_of_thief) c.in-Ok.ensures.items;
  made = refl;
  len = refl;
  others = omega (arith, c.in-Ok.ensures.len);
  room = omega (arith, c.in-Ok.ensures.capacity, c.len-count.ensures);
}

pub loop-made-preserved : goal.loop-made-preserved
loop-made-preserved c =
    let so_far = c.loop-made.invariant in
    let all = map sight c.args.owns.now.items in
    let own = c.in-Some.own in
    let popped = c.pop_front.new.self.items in
    let many : length all ≡ length c.args.owns.now.items = length-map c.args.owns.now.items sight in
    let fewer : length so_far.done < length all = omega (arith, so_far.made, c.loop-made-test.true, c.len-count.ensures, c.args.owns.now.ok.0, many) in
    let some : 0 < length so_far.left = some_left so_far.left so_far.done all fewer so_far.all in
    let turn = takes_first so_far.left so_far.done (sight own) (map sight popped) some (sym (ap (map sight) c.in-Some.ensures.items) ∙ so_far.now) in
    record {
      left = turn.rest;
      done = so_far.done ++ sight own ∷ [];
      now = goes_back so_far.left so_far.done (sight own) (map sight popped) popped c.push_back_reserved.new.self.items c.thief.new.self turn refl
          (ap sight c.in_ok-thief.ensures.own) c.push_back_reserved.ensures.items;
      all = still_all so_far.left so_far.done all (sight own) (map sight popped) turn so_far.all;
      thieves = thief_more c.loop-made.others.items c.push_reserved.new.self.items c.in_ok-thief.field-0 so_far.done (sight own) so_far.thieves
          (ap deque_of_thief c.in_ok-thief.ensures.thief) c.push_reserved.ensures.items;
      made = omega (arith, length-append so_far.done (sight own ∷ []), so_far.made);
      len = omega (arith, so_far.len, c.in-Some.ensures.len, c.push_back_reserved.ensures.len);
      others = omega (arith, so_far.others, c.push_reserved.ensures.len);
      room = omega (arith, so_far.room, c.push_reserved.ensures.capacity);
    }

pub returns-clause-thieves : goal.returns-clause-thieves
returns-clause-thieves c =
    let so_far = c.loop-made.invariant in
    let all = map sight c.args.owns.now.items in
    let many : length all ≡ length c.args.owns.now.items = length-map c.args.owns.now.items sight in
    let as_many : length so_far.done ≡ length all = omega (arith, so_far.made, c.loop-made-test.false, c.loop-made.auto._made-end, c.len-count.ensures, c.args.owns.now.ok.0, many) in
    let end = all_done so_far.left so_far.done all (map sight c.loop-made.owns.items) as_many so_far.all so_far.now in
    ap (map deque_of_thief) c.from.ensures.0 ∙ so_far.thieves ∙ ap (map first_of) end.done_is ∙ seen_deques c.args.owns.now.items

pub returns-clause-kept : goal.returns-clause-kept
returns-clause-kept c =
    let so_far = c.loop-made.invariant in
    let all = map sight c.args.owns.now.items in
    let many : length all ≡ length c.args.owns.now.items = length-map c.args.owns.now.items sight in
    let as_many : length so_far.done ≡ length all = omega (arith, so_far.made, c.loop-made-test.false, c.loop-made.auto._made-end, c.len-count.ensures, c.args.owns.now.ok.0, many) in
    (all_done so_far.left so_far.done all (map sight c.loop-made.owns.items) as_many so_far.all so_far.now).now_is
