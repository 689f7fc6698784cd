use Rattle.std.proofs.Common.{◌≡◌, ◌∙◌, ◌<◌, [], ◌∷◌, ◌++◌, length, map, refl, sym, ap, subst, arith, append-nil, length-append}
use Rattle.std.proofs.lemmas.List.{length-map, map-append}
use Rattle.std.specs.List.{AllZip}
use Rattle.aio_work.specs.Starting.{deques_of, sight}
use Rattle.aio_work.proofs.Rotating.{HasRow, all_done, all_others, first_of, goes_back, seen_deques, some_left, still_all, takes_first, where_done, zip_end}
use Rattle.aio_work.proofs.starting.thieves_of.Goals as goal

pub loop-made-init : goal.loop-made-init
loop-made-init c = record {
  left = map sight c.args.owns.now.items;
  done = [];
  now = sym (append-nil (map sight c.args.owns.now.items));
  all = refl;
  rows = subst (λ rows. AllZip (HasRow (deques_of c.args.owns.now.items)) [] rows) (sym c.in-Ok.ensures.items) tt;
  made = refl;
  len = omega (arith, c.in-Ok.ensures.len);
  room = omega (arith, c.in-Ok.ensures.capacity);
}

pub loop-made-preserved : goal.loop-made-preserved
loop-made-preserved c =
    let so_far = c.loop-made.invariant in
    let all = map sight c.args.owns.now.items in
    let deques = deques_of c.args.owns.now.items in
    let own = c.in-Some.own in
    let popped = c.pop_front.new.self.items in
    let back = c.thieves.new.owns.items in
    let row = c.in_ok-thieves.field-0 in
    let many : length all ≡ length c.args.owns.now.items = length-map c.args.owns.now.items sight in
    let fewer : length so_far.done < length all = omega (arith, so_far.made, c.loop-made-test.true, c.requires.count, many) in
    let some : 0 < length so_far.left = some_left so_far.left so_far.done all fewer so_far.all in
    let turn = takes_first so_far.left so_far.done (sight own) (map sight popped) some (sym (ap (map sight) c.in-Some.ensures.items) ∙ so_far.now) in
    let pushed : c.push_back.new.self.items ≡ back ++ own ∷ [] =
    where_done c.push_back.result (back ++ own ∷ []) back c.push_back.new.self.items c.push_back.ensures.items (sym c.is_err.ensures.value ∙ c.if-is_err.false) in
    let others = all_others so_far.left so_far.done (sight own) popped c.args.owns.now.items row.items turn so_far.all c.in_ok-thieves.ensures.thieves in
    record {
      left = turn.rest;
      done = so_far.done ++ sight own ∷ [];
      now = goes_back so_far.left so_far.done (sight own) (map sight popped) back c.push_back.new.self.items own turn c.in_ok-thieves.ensures.kept refl pushed;
      all = still_all so_far.left so_far.done all (sight own) (map sight popped) turn so_far.all;
      rows = subst (λ ds. AllZip (HasRow deques) ds c.push_reserved.new.self.items) (sym (map-append first_of so_far.done (sight own ∷ [])))
          (subst (λ rows. AllZip (HasRow deques) (map first_of so_far.done ++ own.deque ∷ []) rows) (sym c.push_reserved.ensures.items)
          (zip_end (HasRow deques) (map first_of so_far.done) c.loop-made.rows.items own.deque row so_far.rows others));
      made = omega (arith, length-append so_far.done (sight own ∷ []), so_far.made);
      len = omega (arith, so_far.len, c.push_reserved.ensures.len);
      room = omega (arith, so_far.room, c.push_reserved.ensures.capacity);
    }

pub returns-clause-rows : goal.returns-clause-rows
returns-clause-rows c =
    let so_far = c.loop-made.invariant in
    let all = map sight c.args.owns.now.items in
    let deques = deques_of c.args.owns.now.items in
    let many : length all ≡ length c.args.owns.now.items = length-map c.args.owns.now.items sight in
    let as_many : length so_far.done ≡ length all = omega (arith, so_far.made, c.loop-made-test.false, c.loop-made.auto._made-end, c.requires.count, many) in
    let end = all_done so_far.left so_far.done all (map sight c.loop-made.owns.items) as_many so_far.all so_far.now in
    subst (λ rows. AllZip (HasRow deques) deques rows) (sym c.from.ensures.0)
    (subst (λ ds. AllZip (HasRow deques) ds c.loop-made.rows.items) (ap (map first_of) end.done_is ∙ seen_deques c.args.owns.now.items) so_far.rows)

pub returns-clause-kept : goal.returns-clause-kept
returns-clause-kept c =
    let so_far = c.loop-made.invariant in
    let all = map sight c.args.owns.now.items in
    let many : length all ≡ length c.args.owns.now.items = length-map c.args.owns.now.items sight in
    let as_many : length so_far.done ≡ length all = omega (arith, so_far.made, c.loop-made-test.false, c.loop-made.auto._made-end, c.requires.count, many) in
    (all_done so_far.left so_far.done all (map sight c.loop-made.owns.items) as_many so_far.all so_far.now).now_is
