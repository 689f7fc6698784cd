-- Posts of a reactor, whose members one of them made.
use Rattle.std.proofs.Common.{◌≡◌, ◌∙◌, ℕ, zero, suc, ◌+◌, Bool, false, List, [], ◌∷◌, ◌++◌, Result, Ok, Err, if◌then◌else◌, is_ok, is_err, length, refl, sym, ap, subst, arith}
use Rattle.std.specs.Prelude.{IsTrue}
use Rattle.std.specs.List.{AllByRecursion}
use Rattle.aio_base.specs.ClockBounds.{ClockBounds}
use Rattle.aio_shared.specs.Members.{IsMemberOf, IsNewMember, MemberValue, SharedValue, with_one_more_made}
use Rattle.aio_shared.specs.OneCell.{ClaimValue}
use Rattle.aio_park.specs.Posts.{HaveParkers, IsPostOf, PostValue, RunsUnder, ThreadTerms, member_terms, post_terms, with_made}

-- ## Lists

pub one_more_of_all : {X : Type 0} (P : X → Type 0) (xs : List X) (x : X) → AllByRecursion P xs → P x → AllByRecursion P (xs ++ x ∷ [])
one_more_of_all P [] x all last = (last, tt)
one_more_of_all P (y ∷ xs) x all last = (all.0, one_more_of_all P xs x all.1 last)

pub one_more_parker : {X : Type 0} (parker_of : X → ℕ) (first : ℕ) (xs : List X) (x : X) → HaveParkers parker_of first xs
    → parker_of x ≡ first + length xs → HaveParkers parker_of first (xs ++ x ∷ [])
one_more_parker parker_of first [] x have is = (omega (arith, is), tt)
one_more_parker parker_of first (y ∷ xs) x have is = (have.0, one_more_parker parker_of (first + 1) xs x have.1 (omega (arith, is)))

-- a push that did not fail was done
pub where_done : {X E : Type 0} (answer : Result (Unit {0}) E) (done as_before new : List X) → new ≡ (if is_ok answer then done else as_before) → is_err answer ≡ false
    → new ≡ done
where_done (Ok none) done as_before new is no_fault = is
where_done (Err fault) done as_before new is no_fault = cc

-- ## The first member

module _ {N : Type 0} where
  pub one_more_made : (n : ℕ) (first : MemberValue N) → with_made (n + 1) first ≡ with_one_more_made (with_made n first)
  one_more_made n first = let next : n + 1 ≡ suc n = omega arith in ap (λ (count : ℕ). with_made count first) next

  pub still_belongs : (shared : SharedValue) (n : ℕ) (first : MemberValue N) → IsMemberOf shared first → IsMemberOf shared (with_made n first)
  still_belongs shared zero first is = is
  still_belongs shared (suc n) first is =
      let before = still_belongs shared n first is in
      record { lock = before.lock; words = before.words; ops = before.ops; cell = before.cell; arms = before.arms }

  pub made_belongs : (shared : SharedValue) (n : ℕ) (first m : MemberValue N) → m ≡ with_made n first → IsMemberOf shared first → IsMemberOf shared m
  made_belongs shared n first m is belongs = subst (λ (made : MemberValue N). IsMemberOf shared made) (sym is) (still_belongs shared n first belongs)

  pub number_stays : (n : ℕ) (first : MemberValue N) → (with_made n first).ops.number ≡ first.ops.number
  number_stays zero first = refl
  number_stays (suc n) first = number_stays n first

  pub splits_rise : (n : ℕ) (first : MemberValue N) → (with_made n first).ops.splits ≡ first.ops.splits + n
  splits_rise zero first = omega arith
  splits_rise (suc n) first = omega (arith, splits_rise n first)

  notifier_stays : (n : ℕ) (first : MemberValue N) → (with_made n first).notifier ≡ first.notifier
  notifier_stays zero first = refl
  notifier_stays (suc n) first = notifier_stays n first

  wait_stays : (n : ℕ) (first : MemberValue N) → (with_made n first).claim.sure_of_wait ≡ first.claim.sure_of_wait
  wait_stays zero first = refl
  wait_stays (suc n) first = wait_stays n first

-- ## Posts

module _ {N C : Type 0} (bounds_of : C → ClockBounds) (is_sure : N → Bool) (shared : SharedValue) where
  pub is_post : (first made : MemberValue N) (lent clock : C) (p : PostValue N C) → p.shared ≡ shared → p.member ≡ made → p.clock ≡ clock → IsNewMember shared first made
      → (IsTrue (is_sure first.notifier) → IsTrue (is_sure made.notifier)) → bounds_of clock ≡ bounds_of lent
      → IsPostOf bounds_of is_sure shared (member_terms bounds_of is_sure first lent) p
  is_post first made lent clock p reactor by its new twin bounds = record {
    reactor = reactor;
    under = record {
      bounds = ap bounds_of its ∙ bounds;
      notifier = λ sure. subst (λ (m : MemberValue N). IsTrue (is_sure m.notifier)) (sym by) (twin sure);
      wait = λ sure. subst (λ (m : MemberValue N). IsTrue m.claim.sure_of_wait) (sym by)
          (subst (λ (claim : ClaimValue). IsTrue claim.sure_of_wait) (sym new.claim) sure);
    };
  }

  -- a post by a member that the first one made later runs under the devices of the first one as it was
  pub post_of_first : (n : ℕ) (first : MemberValue N) (clock : C) (p : PostValue N C)
      → IsPostOf bounds_of is_sure shared (member_terms bounds_of is_sure (with_made n first) clock) p
      → IsPostOf bounds_of is_sure shared (member_terms bounds_of is_sure first clock) p
  post_of_first n first clock p is = record {
    reactor = is.reactor;
    under = record {
      bounds = is.under.bounds;
      notifier = λ sure. is.under.notifier (subst (λ (notifier : N). IsTrue (is_sure notifier)) (sym (notifier_stays n first)) sure);
      wait = λ sure. is.under.wait (subst IsTrue (sym (wait_stays n first)) sure);
    };
  }
