-- Each kind of step keeps the rule of the lock of a shared reactor.
use Rattle.std.proofs.Common.{◌≡◌, ◌≢◌, ◌≤◌, ◌+◌, ℕ, zero, suc, true, false, true≢false, List, [], ◌∷◌, ◌++◌, length, map, set, sym, refl, ap, ◌∙◌, subst, ⊎_elim, arith}
use mathlib.Core.Option.{some, some-injective, some-ne-none}
use lib.ListN.{get_elem?}
use Rattle.aio_rules.specs.declared.claims.ClaimView.{ClaimView}
use Rattle.aio_rules.specs.SharedLock.{one_if}
use Rattle.aio_rules.specs.RoundLock.{About, RoundMember, about_of, opening_claim, knowing, holding, released, split_claim, next_claim, holders, EachClaim, OpensAlone, RoundLockRule, opened, popped, found_none, pushed, split_member, new_member}
use Rattle.aio_rules.specs.RoundLockLaws.{MayBePushed, StartMeetsRoundLockRule, FirstPushKeepsRule, PopKeepsRule, EmptyPopKeepsRule, PushKeepsRule, NewMemberKeepsRule, HolderFindsNone, OneHolds}
use Rattle.aio_rules.proofs.SeatLists.{set_or_before, at_end_or_before, set_to_itself}

no_true : {A : Type 0} → false ≡ true → A
no_true e = absurd (true≢false (sym e))

empty_list : {X : Type 0} (l : List X) → length l ≡ 0 → l ≡ []
empty_list [] e = refl
empty_list (x ∷ xs) e = absurd (omega arith)

module _ {I : Type 0} where
  holders_set : (claims : List (ClaimView I)) (i : ℕ) (t w : ClaimView I) → get_elem? claims i ≡ some t → holders (set claims i w) + one_if t.holds ≡ holders claims + one_if w.holds
  holders_set [] i t w e = absurd (some-ne-none t (sym e))
  holders_set (x ∷ xs) zero t w e = let same : one_if x.holds ≡ one_if t.holds = ap (λ (y : ClaimView I). one_if y.holds) (some-injective x t e) in omega arith
  holders_set (x ∷ xs) (suc i) t w e = let rest = holders_set xs i t w e in omega arith

  holders_end : (claims : List (ClaimView I)) (w : ClaimView I) → holders (claims ++ w ∷ []) ≡ holders claims + one_if w.holds
  holders_end [] w = omega arith
  holders_end (x ∷ xs) w = let rest = holders_end xs w in omega arith

  holder_counts : (claims : List (ClaimView I)) (i : ℕ) (t : ClaimView I) → get_elem? claims i ≡ some t → t.holds ≡ true → 1 ≤ holders claims
  holder_counts [] i t e h = absurd (some-ne-none t (sym e))
  holder_counts (x ∷ xs) zero t e h = let same : one_if x.holds ≡ 1 = ap (λ (y : ClaimView I). one_if y.holds) (some-injective x t e) ∙ ap one_if h in omega arith
  holder_counts (x ∷ xs) (suc i) t e h = let rest = holder_counts xs i t e h in omega arith

  -- where one member holds the cell at most, no other does
  sole_holder : (claims : List (ClaimView I)) (i j : ℕ) (t u : ClaimView I) → holders claims ≤ 1 → get_elem? claims i ≡ some t → t.holds ≡ true → get_elem? claims j ≡ some u → u.holds ≡ true → j ≡ i
  sole_holder [] i j t u most e h f k = absurd (some-ne-none t (sym e))
  sole_holder (x ∷ xs) zero zero t u most e h f k = refl
  sole_holder (x ∷ xs) zero (suc j) t u most e h f k =
      let same : one_if x.holds ≡ 1 = ap (λ (y : ClaimView I). one_if y.holds) (some-injective x t e) ∙ ap one_if h in let more = holder_counts xs j u f k in absurd (omega arith)
  sole_holder (x ∷ xs) (suc i) zero t u most e h f k =
      let same : one_if x.holds ≡ 1 = ap (λ (y : ClaimView I). one_if y.holds) (some-injective x u f) ∙ ap one_if k in let more = holder_counts xs i t e h in absurd (omega arith)
  sole_holder (x ∷ xs) (suc i) (suc j) t u most e h f k = ap suc (sole_holder xs i j t u (omega arith) e h f k)

  each_set : (Holds : ClaimView I → Type 0) (claims : List (ClaimView I)) (i : ℕ) (w : ClaimView I) → Holds w → ((j : ℕ) (u : ClaimView I) → get_elem? claims j ≡ some u → Holds u) → EachClaim (set claims i w) Holds
  each_set Holds claims i w mine others j u e = ⊎_elim (λ (x : (j ≡ i) × (w ≡ u)). subst Holds x.1 mine) (λ (x : (j ≢ i) × (get_elem? claims j ≡ some u)). others j u x.1) (set_or_before claims i j w u e)

  each_end : (Holds : ClaimView I → Type 0) (claims : List (ClaimView I)) (w : ClaimView I) → Holds w → EachClaim claims Holds → EachClaim (claims ++ w ∷ []) Holds
  each_end Holds claims w mine others j u e = ⊎_elim (λ x. others j u x) (λ x. subst Holds x.1 mine) (at_end_or_before claims w j u e)

  each_one : (Holds : ClaimView I → Type 0) (w : ClaimView I) → Holds w → EachClaim (w ∷ []) Holds
  each_one Holds w mine zero u e = subst Holds (some-injective w u e) mine
  each_one Holds w mine (suc j) u e = absurd (some-ne-none u (sym e))

  set_one : (t w : ClaimView I) (i : ℕ) → get_elem? (t ∷ []) i ≡ some t → set (t ∷ []) i w ≡ w ∷ []
  set_one t w zero e = refl
  set_one t w (suc i) e = absurd (some-ne-none t (sym e))

  -- where a member is not the opening one, none is
  none_opens : (claims : List (ClaimView I)) (i : ℕ) (t : ClaimView I) → get_elem? claims i ≡ some t → t.opening ≡ false → EachClaim claims (OpensAlone claims)
      → (j : ℕ) (u : ClaimView I) → get_elem? claims j ≡ some u → u.opening ≡ true → ⊥
  none_opens claims i t at begun opening j u e o =
      let alone = (opening j u e o).1 in
      let there : get_elem? (u ∷ []) i ≡ some t = ap (λ (l : List (ClaimView I)). get_elem? l i) (sym alone) ∙ at in
      true≢false (sym o ∙ each_one (λ w. u.opening ≡ w.opening) u refl i t there ∙ begun)

module _ {X I : Type 0} (says : X → About I → Type 0) (is_idle : X → Type 0) where
  -- ## The rule over the views alone

  pub claim_starts : (words : I) → RoundLockRule says is_idle [] (opening_claim words ∷ [])
  claim_starts words = let t = opening_claim words in record {
    one = omega arith;
    idle = tt;
    all = about_of t;
    cells = tt;
    members = each_one (λ v. about_of v ≡ about_of t) t refl;
    opening = each_one (OpensAlone (t ∷ [])) t (λ _. (refl, refl));
  }

  pub claim_finds_none : (items : List X) (claims : List (ClaimView I)) (i : ℕ) (t : ClaimView I) → RoundLockRule says is_idle items claims → get_elem? claims i ≡ some t → t.holds ≡ true → items ≡ []
  claim_finds_none items claims i t r at h = let mine = holder_counts claims i t at h in let one = r.one in empty_list items (omega arith)

  pub claim_opens : (items : List X) (claims : List (ClaimView I)) (i : ℕ) (t : ClaimView I) (x : X) (all : About I) → RoundLockRule says is_idle items claims → get_elem? claims i ≡ some t → t.opening ≡ true → MayBePushed says is_idle x all
      → RoundLockRule says is_idle (items ++ x ∷ []) (set claims i (knowing all))
  claim_opens items claims i t x all r at first may =
      let w = knowing all in
      let alone = r.opening i t at first in
      let empty = claim_finds_none items claims i t r at alone.0 in
      let only : set claims i w ≡ w ∷ [] = ap (λ (l : List (ClaimView I)). set l i w) alone.1 ∙ set_one t w i (ap (λ (l : List (ClaimView I)). get_elem? l i) (sym alone.1) ∙ at) in
      subst (λ (p : List X × List (ClaimView I)). RoundLockRule says is_idle (p.0 ++ x ∷ []) p.1) (λ k. (sym empty k, sym only k))
      record {
        one = omega arith;
        idle = (may.0, tt);
        all = all;
        cells = (may.1, tt);
        members = each_one (λ u. about_of u ≡ all) w refl;
        opening = each_one (OpensAlone (w ∷ [])) w (λ o. no_true o);
      }

  pub claim_pops : (x : X) (items : List X) (claims : List (ClaimView I)) (i : ℕ) (t : ClaimView I) → RoundLockRule says is_idle (x ∷ items) claims → get_elem? claims i ≡ some t
      → MayBePushed says is_idle x (about_of t) × RoundLockRule says is_idle items (set claims i (holding t))
  claim_pops x items claims i t r at =
      let w = holding t in
      let one = r.one in
      let few : holders (set claims i w) + one_if t.holds ≡ holders claims + 1 = holders_set claims i t w at in
      let agree = r.members i t at in
      let none : (j : ℕ) (u : ClaimView I) → get_elem? claims j ≡ some u → u.opening ≡ true → ⊥ = λ j u e o. let held = holder_counts claims j u e (r.opening j u e o).0 in omega arith in (
        (r.idle.0, subst (says x) (sym agree) r.cells.0),
        record {
          one = omega arith;
          idle = r.idle.1;
          all = r.all;
          cells = r.cells.1;
          members = each_set (λ u. about_of u ≡ r.all) claims i w agree r.members;
          opening = each_set (OpensAlone (set claims i w)) claims i w (λ o. absurd (none i t at o)) (λ j u e o. absurd (none j u e o));
        },
      )

  pub claim_pushes : (items : List X) (claims : List (ClaimView I)) (i : ℕ) (t : ClaimView I) (x : X) → RoundLockRule says is_idle items claims → get_elem? claims i ≡ some t → t.holds ≡ true → t.opening ≡ false
      → MayBePushed says is_idle x (about_of t) → RoundLockRule says is_idle (items ++ x ∷ []) (set claims i (released t))
  claim_pushes items claims i t x r at held begun may =
      let w = released t in
      let one = r.one in
      let mine = holder_counts claims i t at held in
      let agree = r.members i t at in
      let few : holders (set claims i w) + one_if t.holds ≡ holders claims + 0 = holders_set claims i t w at in
      let h : one_if t.holds ≡ 1 = ap one_if held in
      let none = none_opens claims i t at begun r.opening in
      subst (λ l. RoundLockRule says is_idle (l ++ x ∷ []) (set claims i w)) (sym (claim_finds_none items claims i t r at held))
      record {
        one = omega arith;
        idle = (may.0, tt);
        all = r.all;
        cells = (subst (says x) agree may.1, tt);
        members = each_set (λ u. about_of u ≡ r.all) claims i w agree r.members;
        opening = each_set (OpensAlone (set claims i w)) claims i w (λ o. absurd (true≢false (sym o ∙ begun))) (λ j u e o. absurd (none j u e o));
      }

  pub claim_makes : (items : List X) (claims : List (ClaimView I)) (i : ℕ) (t : ClaimView I) → RoundLockRule says is_idle items claims → get_elem? claims i ≡ some t → t.opening ≡ false
      → RoundLockRule says is_idle items (set claims i (split_claim t) ++ next_claim t ∷ [])
  claim_makes items claims i t r at begun =
      let v = split_claim t in
      let w = next_claim t in
      let mid = set claims i v in
      let same : holders mid + one_if t.holds ≡ holders claims + one_if t.holds = holders_set claims i t v at in
      let more : holders (mid ++ w ∷ []) ≡ holders mid + 0 = holders_end mid w in
      let one = r.one in
      let agree = r.members i t at in
      let none = none_opens claims i t at begun r.opening in
      record {
        one = omega arith;
        idle = r.idle;
        all = r.all;
        cells = r.cells;
        members = each_end (λ u. about_of u ≡ r.all) mid w agree (each_set (λ u. about_of u ≡ r.all) claims i v agree r.members);
        opening = each_end (OpensAlone (mid ++ w ∷ [])) mid w (λ o. absurd (true≢false (sym o ∙ begun)))
            (each_set (OpensAlone (mid ++ w ∷ [])) claims i v (λ o. absurd (true≢false (sym o ∙ begun))) (λ j u e o. absurd (none j u e o)));
      }

  -- ## The rule over members

  claim_at : (members : List (RoundMember I)) (i : ℕ) (m : RoundMember I) → get_elem? members i ≡ some m → get_elem? (map (λ (n : RoundMember I). n.claim) members) i ≡ some m.claim
  claim_at [] i m e = absurd (some-ne-none m (sym e))
  claim_at (x ∷ xs) zero m e = ap (λ (n : RoundMember I). some n.claim) (some-injective x m e)
  claim_at (x ∷ xs) (suc i) m e = claim_at xs i m e

  claims_set : (members : List (RoundMember I)) (i : ℕ) (w : RoundMember I) → set (map (λ (n : RoundMember I). n.claim) members) i w.claim ≡ map (λ (n : RoundMember I). n.claim) (set members i w)
  claims_set [] i w = refl
  claims_set (x ∷ xs) zero w = refl
  claims_set (x ∷ xs) (suc i) w = ap (λ l. x.claim ∷ l) (claims_set xs i w)

  claims_end : (members : List (RoundMember I)) (w : RoundMember I) → map (λ (n : RoundMember I). n.claim) members ++ w.claim ∷ [] ≡ map (λ (n : RoundMember I). n.claim) (members ++ w ∷ [])
  claims_end [] w = refl
  claims_end (x ∷ xs) w = ap (λ l. x.claim ∷ l) (claims_end xs w)

  pub start_meets_rule : StartMeetsRoundLockRule says is_idle
  start_meets_rule words = claim_starts words

  pub first_push_keeps_rule : FirstPushKeepsRule says is_idle
  first_push_keeps_rule items members i m x all s first may =
      subst (λ l. RoundLockRule says is_idle (items ++ x ∷ []) l) (claims_set members i (opened all m)) (claim_opens items _ i m.claim x all s.rule (claim_at members i m s.stands) first may)

  pub pop_keeps_rule : PopKeepsRule says is_idle
  pop_keeps_rule x items members i m s = let done = claim_pops x items _ i m.claim s.rule (claim_at members i m s.stands) in
      (done.0, subst (λ l. RoundLockRule says is_idle items l) (claims_set members i (popped m)) done.1)

  pub empty_pop_keeps_rule : EmptyPopKeepsRule says is_idle
  empty_pop_keeps_rule members i m count s =
      subst (λ l. RoundLockRule says is_idle [] l) (sym (set_to_itself (map (λ (n : RoundMember I). n.claim) members) i m.claim (claim_at members i m s.stands)) ∙ claims_set members i (found_none count m)) s.rule

  pub push_keeps_rule : PushKeepsRule says is_idle
  push_keeps_rule items members i m x s held begun may =
      subst (λ l. RoundLockRule says is_idle (items ++ x ∷ []) l) (claims_set members i (pushed m)) (claim_pushes items _ i m.claim x s.rule (claim_at members i m s.stands) held begun may)

  pub new_member_keeps_rule : NewMemberKeepsRule says is_idle
  new_member_keeps_rule items members i m s begun =
      subst (λ l. RoundLockRule says is_idle items l) (ap (λ l. l ++ next_claim m.claim ∷ []) (claims_set members i (split_member m)) ∙ claims_end (set members i (split_member m)) (new_member m)) (claim_makes items _ i m.claim s.rule (claim_at members i m s.stands) begun)

  pub holder_finds_none : HolderFindsNone says is_idle
  holder_finds_none items members i m s held = claim_finds_none items _ i m.claim s.rule (claim_at members i m s.stands) held

  pub one_holds : OneHolds says is_idle
  one_holds items members i j m o s held at held_too =
      let most = s.rule.one in sole_holder _ i j m.claim o.claim (omega arith) (claim_at members i m s.stands) held (claim_at members j o at) held_too
