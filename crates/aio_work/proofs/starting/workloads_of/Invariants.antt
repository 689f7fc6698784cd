use Rattle.std.proofs.Common.{◌≡◌, ◌+◌, ◌++◌, ◌≤◌, List, length, map, vec_capacity}
use Rattle.std.specs.List.{AllByRecursion, AllZip}
use Rattle.aio_jobs.specs.Dealing.{GivesInTurn}
use Rattle.aio_turns.specs.Passes.{DequeId}
use Rattle.aio_work.specs.Starting.{AreAllOthers, HasAllOthers, IsUnused, deques_of, numbers, places_of}
use Rattle.aio_work.proofs.starting.workloads_of.Given as goal

-- The workers so far have the first rows, deques and thieves, and for each that is to come there are such.
abbrev pub invariant-loop-made : goal.invariant-loop-made
invariant-loop-made l = record {
  dealt : GivesInTurn (map (λ w. places_of w.own) l.workloads.items ++ l.rows) (numbers 0 l.tasks);
  rows : length l.rows + l._made ≡ l.count;
  few : AllByRecursion (λ row. length row ≤ 64) l.rows;
  owns : length l.owns.items + l._made ≡ l.count;
  unused : AllByRecursion IsUnused l.owns.items;
  deques : List DequeId;
  all : map (λ w. w.own.deque) l.workloads.items ++ deques_of l.owns.items ≡ deques;
  others : AllByRecursion (HasAllOthers deques) l.workloads.items;
  next : AllZip (λ deque row. AreAllOthers deques deque row.items) (deques_of l.owns.items) l.thieves.items;
  made : length l.workloads.items ≡ l._made;
  room : l.count ≤ vec_capacity l.workloads;
}
