-- Workers at the posts that the caller's thread made.
use Rattle.std.proofs.Common.{◌≡◌, ℕ, zero, suc, ◌+◌, Bool, List, [], ◌∷◌, ◌++◌, map, refl, sym, ap, ◌∙◌, subst, append_assoc, append-nil}
use Rattle.std.proofs.lemmas.List.{map-append}
use Rattle.std.specs.List.{AllByRecursion}
use Rattle.aio_base.specs.ClockBounds.{ClockBounds}
use Rattle.aio_shared.specs.Members.{MemberValue, SharedValue}
use Rattle.aio_park.specs.Posts.{HaveParkers, IsPostOf, PostValue, RunsUnder, ThreadTerms, post_terms, with_made}
use Rattle.aio_exec.specs.Workers.{WorkerValue}

abbrev Numbered : ℕ → List ℕ → Type 0
Numbered first ns = HaveParkers (λ (n : ℕ). n) first ns

to_numbers : {X : Type 0} (parker_of : X → ℕ) (first : ℕ) (xs : List X) → HaveParkers parker_of first xs → Numbered first (map parker_of xs)
to_numbers parker_of first [] have = tt
to_numbers parker_of first (x ∷ xs) have = (have.0, to_numbers parker_of (first + 1) xs have.1)

of_numbers : {X : Type 0} (parker_of : X → ℕ) (first : ℕ) (xs : List X) → Numbered first (map parker_of xs) → HaveParkers parker_of first xs
of_numbers parker_of first [] have = tt
of_numbers parker_of first (x ∷ xs) have = (have.0, of_numbers parker_of (first + 1) xs have.1)

module _ {N C : Type 0} (bounds_of : C → ClockBounds) (is_sure : N → Bool) where
  -- the workers have the parkers of their posts
  pub parkers_of_posts : (workers : List WorkerValue) (posts : List (PostValue N C)) → map (λ (w : WorkerValue). w.parker) workers ≡ map (λ (p : PostValue N C). p.parker) posts
      → HaveParkers (λ (p : PostValue N C). p.parker) 0 posts → HaveParkers (λ (w : WorkerValue). w.parker) 0 workers
  parkers_of_posts workers posts same have = of_numbers (λ (w : WorkerValue). w.parker) 0 workers
      (subst (Numbered 0) (sym same) (to_numbers (λ (p : PostValue N C). p.parker) 0 posts have))

  post_run : (shared : SharedValue) (lent : ThreadTerms) (posts : List (PostValue N C)) → AllByRecursion (IsPostOf bounds_of is_sure shared lent) posts
      → AllByRecursion (RunsUnder lent) (map (post_terms bounds_of is_sure) posts)
  post_run shared lent [] all = tt
  post_run shared lent (p ∷ posts) all = (all.0.under, post_run shared lent posts all.1)

  workers_run : (lent : ThreadTerms) (workers : List WorkerValue) → AllByRecursion (RunsUnder lent) (map (λ (w : WorkerValue). w.terms) workers)
      → AllByRecursion (λ (w : WorkerValue). RunsUnder lent w.terms) workers
  workers_run lent [] all = tt
  workers_run lent (w ∷ workers) all = (all.0, workers_run lent workers all.1)

  -- and run under their devices
  pub terms_of_posts : (shared : SharedValue) (lent : ThreadTerms) (workers : List WorkerValue) (posts : List (PostValue N C))
      → map (λ (w : WorkerValue). w.terms) workers ≡ map (post_terms bounds_of is_sure) posts → AllByRecursion (IsPostOf bounds_of is_sure shared lent) posts
      → AllByRecursion (λ (w : WorkerValue). RunsUnder lent w.terms) workers
  terms_of_posts shared lent workers posts same all =
      workers_run lent workers (subst (AllByRecursion (RunsUnder lent)) (sym same) (post_run shared lent posts all))

module _ {N : Type 0} where
  notifier_stays : (n : ℕ) (first : MemberValue N) → (with_made n first).notifier ≡ first.notifier
  notifier_stays zero first = refl
  notifier_stays (suc n) first = notifier_stays n first

  wait_stays : (n : ℕ) (first : MemberValue N) → (with_made n first).claim.sure_of_wait ≡ first.claim.sure_of_wait
  wait_stays zero first = refl
  wait_stays (suc n) first = wait_stays n first

  -- the first member has its notifier still, and is as sure of its wait
  pub keeps_notifier : (n : ℕ) (first m : MemberValue N) → m ≡ with_made n first → m.notifier ≡ first.notifier
  keeps_notifier n first m is = ap (λ (made : MemberValue N). made.notifier) is ∙ notifier_stays n first

  pub keeps_wait : (n : ℕ) (first m : MemberValue N) → m ≡ with_made n first → m.claim.sure_of_wait ≡ first.claim.sure_of_wait
  keeps_wait n first m is = ap (λ (made : MemberValue N). made.claim.sure_of_wait) is ∙ wait_stays n first

-- ## One after the other

-- the first of what is left goes over
pub goes_over : {A B X : Type 0} (f : A → X) (g : B → X) (xs after : List A) (x : A) (ys left : List B) (y : B) (all : List X) → map f xs ++ map g ys ≡ all
    → after ≡ xs ++ x ∷ [] → ys ≡ y ∷ left → f x ≡ g y → map f after ++ map g left ≡ all
goes_over f g xs after x ys left y all kept more are same =
    ap (λ l. map f l ++ map g left) more ∙ ap (λ l. l ++ map g left) (map-append f xs (x ∷ [])) ∙ append_assoc (map f xs) (f x ∷ []) (map g left)
    ∙ ap (λ v. map f xs ++ v ∷ map g left) same ∙ sym (ap (λ l. map f xs ++ map g l) are) ∙ kept

pub all_over : {A B X : Type 0} (f : A → X) (g : B → X) (xs : List A) (ys : List B) (all : List X) → map f xs ++ map g ys ≡ all → ys ≡ [] → map f xs ≡ all
all_over f g xs ys all kept none = sym (append-nil (map f xs)) ∙ sym (ap (λ l. map f xs ++ map g l) none) ∙ kept
