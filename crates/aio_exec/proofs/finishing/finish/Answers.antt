use Rattle.std.proofs.Common.{◌≡◌, ◌^◌, ◌∙◌, ℕ, true, sym, subst}
use Rattle.std.proofs.lemmas.Bool.{eqb-true}
use Rattle.aio_park.specs.Blocking.{past_end}
use Rattle.aio_exec.proofs.Ends.{same_head, with_ok}
use Rattle.aio_exec.proofs.finishing.finish.Goals as goal

pub returns-in-Running-clause-allowed : goal.returns-in-Running-clause-allowed
returns-in-Running-clause-allowed g c = with_ok c.run_to_end.result _ _
    (λ output given about is.
    subst (λ (n : ℕ). g.K.Work.allows n output ≡ true) (eqb-true _ _ c.in-Running.ensures.agrees ∙ same_head _ about (sym c.open.ensures ∙ is))
    (g.met.K.Work.gives_allowed c.in-Running.task _ (10 ^ 18) output (given (10 ^ 18) (past_end _))))
    c.run_to_end.ensures.output
