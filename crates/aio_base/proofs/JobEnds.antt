-- The ends that threads gave for a list of jobs, place by place, as one relation of the two lists.
use Rattle.std.proofs.Common.{◌≡◌, suc, List, [], ◌∷◌, length, refl, sym, subst, arith}
use denote.Param.Members.{Shared}
use Rattle.std.specs.Fork.{GivesJobs}
use Rattle.std.specs.List.{AllZip}
use Rattle.std.specs.Fn.{FnReturns}

module _ {F J E : Type 0} (runs : Shared F (J × Unit {0}) E) (f : F) (MayEnd : J → E → Type 0)
    (each : (job : J) (end : E) → FnReturns runs f (job, tt) end → MayEnd job end) where
  -- what was given for all was given for all but the first
  without_first : (job : J) (jobs : List J) (end : E) (ends : List E) → GivesJobs runs f (job ∷ jobs) (end ∷ ends) → GivesJobs runs f jobs ends
  without_first job jobs end ends all place e here =
      let given = (all (suc place) e (omega (arith, here))).1 in
      (refl, record { job = given.job; job_read = given.job_read; job_is = given.job_is; call = given.call })

  pub in_order : (jobs : List J) (ends : List E) → length ends ≡ length jobs → GivesJobs runs f jobs ends → AllZip MayEnd jobs ends
  in_order [] [] long all = tt
  in_order [] (end ∷ ends) long all = absurd (omega (arith, long))
  in_order (job ∷ jobs) [] long all = absurd (omega (arith, long))
  in_order (job ∷ jobs) (end ∷ ends) long all =
      let given = (all 0 end (omega arith)).1 in
      (subst (λ j. MayEnd j end) (sym (given.job_is job)) (each given.job end given.call), in_order jobs ends (omega (arith, long)) (without_first job jobs end ends all))
