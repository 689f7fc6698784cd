use Rattle.std.proofs.Common.{◌≡◌, ◌∙◌, ◌≤◌, List, [], ◌∷◌, ◌++◌, ℕ, length, map, sym, ap, subst, arith, length-append}
use Rattle.std.proofs.lemmas.List.{length-map}
use Rattle.std.specs.List.{AllByRecursion, AllZip}
use Rattle.aio_jobs.specs.Dealing.{GivesInTurn}
use Rattle.aio_jobs.proofs.Turns.{each_at_most}
use Rattle.aio_turns.specs.Passes.{OwnView}
use Rattle.aio_work.specs.Starting.{HasAllOthers, IsUnused, deques_of, numbers, places_of, sight}
use Rattle.aio_work.specs.declared.workload.Workload.{Workload}
use Rattle.aio_work.proofs.Beginning.{begun_deque, begun_others, begun_places, deque_goes_over, length_numbers, row_goes_over}
use Rattle.aio_work.proofs.Rotating.{HasRow, all_end, same_deques, still_unused}
use Rattle.aio_work.proofs.starting.workloads_of.Goals as goal

pub loop-made-init : goal.loop-made-init
loop-made-init c =
    let rows = c.in_ok-rows.rows in
    let owns = c.in_ok-owns.owns.items in
    let now = c.thieves_of.new.owns.items in
    let kept : map sight now ≡ map sight owns = c.in_ok-thieves.ensures.kept in
    let same = same_deques now owns kept in
    let none : c.in-Ok.workloads.items ≡ [] = c.in-Ok.ensures.items in
    let places : length c.in_ok-places.field-0.items ≡ c.args.tasks = ap length c.in_ok-places.ensures ∙ length_numbers 0 c.args.tasks in
    let many : length now ≡ length owns = sym (length-map now sight) ∙ ap length kept ∙ length-map owns sight in
    record {
      dealt = subst (λ (ws : List Workload). GivesInTurn (map (λ (w : Workload). places_of w.own) ws ++ rows) (numbers 0 c.args.tasks)) (sym none)
          (subst (λ (l : List ℕ). GivesInTurn rows l) c.in_ok-places.ensures c.in_ok-rows.ensures.dealt);
      rows = omega (arith, c.in_ok-rows.ensures.rows);
      few = each_at_most (length c.in_ok-places.field-0.items) c.args.count 0 64 rows (omega (arith, places, c.requires.few)) c.in_ok-rows.ensures.shares;
      owns = omega (arith, many, c.in_ok-owns.ensures.count);
      unused = still_unused now owns kept c.in_ok-owns.ensures.unused;
      deques = deques_of owns;
      all = ap (λ (ws : List Workload). map (λ (w : Workload). w.own.deque) ws ++ deques_of now) none ∙ same;
      others = subst (AllByRecursion (HasAllOthers (deques_of owns))) (sym none) tt;
      next = subst (λ ds. AllZip (HasRow (deques_of owns)) ds c.in_ok-thieves.thieves.items) (sym same) c.in_ok-thieves.ensures.rows;
      made = ap length none;
      room = omega (arith, c.in-Ok.ensures.capacity);
    }

pub loop-made-preserved : goal.loop-made-preserved
loop-made-preserved c =
    let so_far = c.loop-made.invariant in
    let workloads = c.loop-made.workloads.items in
    let after = c.push_reserved.new.self.items in
    let row = c.in-Some.row.items in
    let own = c.in-Some-pop_front.own in
    let left = c.pop_front.new.self.items in
    let others = c.in-Some-pop_front-2.others.items in
    let w = c.in_ok-begin.field-0 in
    let holds = c.in_ok-begin.ensures in
    let more : after ≡ workloads ++ w ∷ [] = c.push_reserved.ensures.items in
    let rows_are : c.loop-made.rows ≡ row ∷ c.take_row.new.self = c.in-Some.ensures.row in
    let owns_are : c.loop-made.owns.items ≡ own ∷ left = c.in-Some-pop_front.ensures.items in
    let few = subst (AllByRecursion (λ (r : List ℕ). length r ≤ 64)) rows_are so_far.few in
    let unused = subst (AllByRecursion IsUnused) owns_are so_far.unused in
    let next = subst (λ rows. AllZip (HasRow so_far.deques) (own.deque ∷ deques_of left) rows) c.in-Some-pop_front-2.ensures.items
    (subst (λ (os : List OwnView). AllZip (HasRow so_far.deques) (deques_of os) c.loop-made.thieves.items) owns_are so_far.next) in
    record {
      dealt = subst (λ (all : List (List ℕ)). GivesInTurn all (numbers 0 c.args.tasks))
          (row_goes_over workloads after w c.loop-made.rows c.take_row.new.self row more (begun_places own others row w holds unused.0) rows_are) so_far.dealt;
      rows = omega (arith, so_far.rows, ap length rows_are);
      few = few.1;
      owns = omega (arith, so_far.owns, ap length owns_are);
      unused = unused.1;
      deques = so_far.deques;
      all = sym (deque_goes_over workloads after w (deques_of c.loop-made.owns.items) (deques_of left) own.deque more (begun_deque own others row w holds) (ap deques_of owns_are))
          ∙ so_far.all;
      others = subst (AllByRecursion (HasAllOthers so_far.deques)) (sym more)
          (all_end (HasAllOthers so_far.deques) workloads w so_far.others (begun_others own others row w holds so_far.deques next.0));
      next = next.1;
      made = omega (arith, so_far.made, ap length more, length-append workloads (w ∷ []));
      room = omega (arith, so_far.room, c.push_reserved.ensures.capacity);
    }
