-- What wrong locks of a shared reactor would leave, which the rule of the reactor lock refuses.
use Rattle.std.proofs.Common.{◌≡◌, ◌≢◌, ◌+◌, ℕ, List, [], ◌∷◌, length, sym, ap, ◌∙◌, refl, subst, arith}
use Rattle.aio_rules.specs.declared.claims.ClaimView.{ClaimView}
use Rattle.aio_rules.specs.RoundLock.{About, knowing, holding, opening_claim, RoundLockRule}

not_one_more : (a : ℕ) → a ≡ a + 1 → ⊥
not_one_more a e = omega arith

module _ {X I : Type 0} (says : X → About I → Type 0) (is_idle : X → Type 0) where
  -- a reactor with two cells
  two_cells : (x y : X) (claims : List (ClaimView I)) → RoundLockRule says is_idle (x ∷ y ∷ []) claims → ⊥
  two_cells x y claims r = let one = r.one in omega arith

  -- a member that keeps the cell which it gave back, and a pop that leaves its cell in the queue
  held_and_queued : (x : X) (all : About I) → RoundLockRule says is_idle (x ∷ []) (holding (knowing all) ∷ []) → ⊥
  held_and_queued x all r = let one = r.one in omega arith

  -- a member that is made holding the cell of the one beside which it is made
  two_holders : (all : About I) → RoundLockRule says is_idle [] (holding (knowing all) ∷ holding (knowing all) ∷ []) → ⊥
  two_holders all r = let one = r.one in omega arith

  -- a cell that is given back while its seat blocks a parker
  queued_in_mid_wait : (x : X) (claims : List (ClaimView I)) → ¬ is_idle x → RoundLockRule says is_idle (x ∷ []) claims → ⊥
  queued_in_mid_wait x claims busy r = busy r.idle.0

  -- a cell of other words, or one whose half that waits is not as the members know it
  other_cell : (x : X) (all : About I) → ¬ says x all → RoundLockRule says is_idle (x ∷ []) (knowing all ∷ []) → ⊥
  other_cell x all apart r = apart (subst (says x) (sym (r.members 0 (knowing all) refl)) r.cells.0)

  -- members of two reactors
  members_disagree : (a b : About I) → a ≢ b → RoundLockRule says is_idle [] (knowing a ∷ knowing b ∷ []) → ⊥
  members_disagree a b apart r = apart (r.members 0 (knowing a) refl ∙ sym (r.members 1 (knowing b) refl))

  -- a second member that is made before the cell is
  made_before_the_cell : (words : I) (all : About I) → RoundLockRule says is_idle [] (opening_claim words ∷ knowing all ∷ []) → ⊥
  made_before_the_cell words all r = let alone = (r.opening 0 (opening_claim words) refl refl).1 in
      let two : 2 ≡ 1 = ap (λ (l : List (ClaimView I)). length l) alone in not_one_more 1 (sym two)
