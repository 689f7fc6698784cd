use Rattle.std.proofs.Common.{◌≡◌, ℕ, ◌+◌, ◌≤◌, List, [], ◌∷◌, ◌++◌, true, vec_len, vec_capacity}
use Rattle.std.specs.List.{AllZip}
use Rattle.std.specs.VecDeque.{deque_len}
use Rattle.aio_shared.specs.Inside.{IsLaterInside}
use Rattle.aio_exec.proofs.finishing.finish_all.Given as goal

-- the answers of what is left go behind those so far
abbrev pub invariant-loop-next : goal.invariant-loop-next
invariant-loop-next g l = record {
  answers : (abouts : List ℕ) (more : List _)
      → ((rest : List ℕ) → AllZip (λ (note : List ℕ) about. note ≡ about ∷ []) l.left.items rest → AllZip (λ about output. g.K.Work.allows about output ≡ true) rest more)
      → AllZip (λ (note : List ℕ) about. note ≡ about ∷ []) l.fn.kept.items abouts
      → AllZip (λ about output. g.K.Work.allows about output ≡ true) abouts (l.outputs.items ++ more);
  room : vec_len l.outputs + deque_len l.left ≤ vec_capacity l.outputs;
  later : IsLaterInside g.N.Faults.fault_count g.N.Faults.is_sure l.initial.thread.host l.thread.host;
}

abbrev pub decreases-loop-next : goal.decreases-loop-next
decreases-loop-next g l = deque_len l.left
