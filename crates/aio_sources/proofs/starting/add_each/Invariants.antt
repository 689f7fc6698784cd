use Rattle.std.proofs.Common.{◌≡◌, ◌+◌, ◌≤◌, List, ◌++◌, length, Result}
use Rattle.std.specs.Prelude.{vec_len, vec_capacity}
use Rattle.std.specs.VecDeque.{deque_len}
use Rattle.std.specs.Arc.{arc_value}
use Rattle.std.specs.List.{All}
use Rattle.aio_base.specs.declared.outcomes.ArmFault.{ArmFault}
use Rattle.aio_sources.specs.Sources.{SourceRefValue, TableEntry}
use Rattle.aio_sources.specs.Starting.{BeginAll}
use Rattle.aio_sources.proofs.starting.add_each.Given as goal

-- whatever the connections that are left come to, all came to the answers so far and then to theirs
abbrev pub invariant-loop-io : goal.invariant-loop-io
invariant-loop-io g l = record {
  begun : (more : List (Result SourceRefValue ArmFault)) (last : List TableEntry)
      → BeginAll g.A.Arm.arm_step g.A.Arm.rest g.A.Faults.fault_count g.A.Faults.is_sure (arc_value l.words).identity l.table l.ios.items more last
      → BeginAll g.A.Arm.arm_step g.A.Arm.rest g.A.Faults.fault_count g.A.Faults.is_sure (arc_value l.words).identity l.fn.table l.fn.ios.items (l.answers.items ++ more) last;
  keys : length l.table + deque_len l.ios ≤ 4096;
  words : All (λ vacancy. vacancy ≡ (arc_value l.words).identity) l.vacancies.items;
  enough : deque_len l.ios ≤ vec_len l.vacancies;
  room : vec_len l.answers + deque_len l.ios ≤ vec_capacity l.answers;
}

abbrev pub decreases-loop-io : goal.decreases-loop-io
decreases-loop-io g l = deque_len l.ios
