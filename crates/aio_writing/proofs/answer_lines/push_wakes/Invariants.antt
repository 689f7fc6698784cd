use Rattle.std.proofs.Common.{◌≡◌, ◌≤◌, ◌++◌, take, flat_map, vec_capacity}
use Rattle.aio_base.specs.declared.steps.Answer.TheVariants.{Wake}
use Rattle.aio_base.specs.Text.{answer_line, ended_line}
use Rattle.aio_writing.proofs.answer_lines.push_wakes.Given as goal

-- the lines of the wakes so far, and no room is lost
abbrev pub invariant-loop-waker : goal.invariant-loop-waker
invariant-loop-waker l = record {
  lines : l.out.items ≡ l.fn.out.items ++ flat_map (λ waker. ended_line (answer_line (Wake waker))) (take l.waker-index l.wakes);
  grown : vec_capacity l.fn.out ≤ vec_capacity l.out;
}
