-- A search along a chain, of a pair or of the node before another one: where it begins, its steps
-- and its end.
use Rattle.std.proofs.Common.{◌≡◌, ◌≢◌, ℕ, zero, suc, inl, inr, ◌+◌, ◌<◌, ◌≤◌, List, [], ◌∷◌, ◌++◌, length, Option, None, Some, arith, refl, sym, ap, ◌∙◌, append_assoc}
use Rattle.std.proofs.lemmas.Bool.{cases_eq}
use Rattle.aio_timers.specs.Held.{Held}
use Rattle.aio_timers.specs.Rows.{one_if, times_in}
use Rattle.aio_timers.specs.Chains.{IsChain, chain_steps, IsSearched, IsAmong, IsJustBefore}
use Rattle.aio_timers.proofs.CountLemmas.{one_if-same, one_if-other}
use Rattle.aio_timers.proofs.RunLemmas.{times-append, once-le}

module _ (f : ℕ → Held) (n : ℕ) where
  below-bound : (link : Option ℕ) (ks : List ℕ) (j : ℕ) → IsChain f n link ks → 0 < times_in j ks → j < n
  below-bound link [] j c more = absurd (omega (arith, more))
  below-bound link (k ∷ ks) j c more = elim (cases_eq j k) as (λ _. j < n) [
    | inl e ↦ rw e c.1
    | inr ne ↦ below-bound (f k).chain ks j c.2 (omega (arith, more, one_if-other j k ne))
  ]

  -- with fuel enough, the links count the nodes
  counts : (fuel : ℕ) (link : Option ℕ) (ks : List ℕ) → length ks ≤ fuel → IsChain f n link ks → chain_steps fuel f link ≡ length ks
  counts fuel link [] le c = rw c (idle fuel)
    where
      idle : (fuel : ℕ) → chain_steps fuel f None ≡ 0
      idle zero = refl
      idle (suc fuel) = refl
  counts zero link (k ∷ ks) le c = absurd (omega (arith, le))
  counts (suc fuel) link (k ∷ ks) le c = rw c.0 (omega (arith, counts fuel (f k).chain ks (omega (arith, le)) c.2))

  pub searches : (P : ℕ → Type 0) (ks : List ℕ) (link : Option ℕ) → IsChain f n link ks → IsSearched f n P ks link
  searches P ks link c = record { passed = []; left = ks; parts = refl; chain = c; missed = λ j more. absurd (omega (arith, more)) }

  -- where the chain ends, all of it was passed
  pub searched : (P : ℕ → Type 0) (ks : List ℕ) (link : Option ℕ) → link ≡ None → IsSearched f n P ks link → (j : ℕ) → 0 < times_in j ks → P j
  searched P ks link none s = go s.left s.parts s.chain
    where
      go : (left : List ℕ) → ks ≡ s.passed ++ left → IsChain f n link left → (j : ℕ) → 0 < times_in j ks → P j
      go [] parts c j more = s.missed j (omega (arith, more, ap (times_in j) parts, times-append j s.passed []))
      go (k ∷ left) parts c j more = cc (sym none ∙ c.0)

  -- a node on the way, from which the search goes on where the node is one of these too
  pub record Visits (P : ℕ → Type 0) (ks : List ℕ) (at : ℕ) : Type 0 where
    pub below : at < n
    pub inside : 0 < times_in at ks
    pub nearer : chain_steps n f (f at).chain < chain_steps n f (Some at)
    pub onward : P at → IsSearched f n P ks (f at).chain

  pub visits : (P : ℕ → Type 0) (ks : List ℕ) (link : Option ℕ) (at : ℕ) → ((j : ℕ) → times_in j ks ≤ 1) → link ≡ Some at → IsSearched f n P ks link → Visits P ks at
  visits P ks link at once here s = go s.left s.parts s.chain
    where
      inside-of : (left : List ℕ) → ks ≡ s.passed ++ left → (j : ℕ) → times_in j ks ≡ times_in j s.passed + times_in j left
      inside-of left parts j = ap (times_in j) parts ∙ times-append j s.passed left

      go : (left : List ℕ) → ks ≡ s.passed ++ left → IsChain f n link left → Visits P ks at
      go [] parts c = cc (sym here ∙ c)
      go (k ∷ left) parts c =
          let same : k ≡ at = cc (sym c.0 ∙ here) in
          let few : length (k ∷ left) ≤ n = once-le n (k ∷ left) (λ j. omega (arith, once j, inside-of (k ∷ left) parts j)) (λ j more. below-bound link (k ∷ left) j c more) in
          rw (← same) (record {
            below = c.1;
            inside = omega (arith, inside-of (k ∷ left) parts k, one_if-same k);
            nearer = omega (arith, counts n (Some k) (k ∷ left) few (refl, c.1, c.2), counts n (f k).chain left (omega (arith, few)) c.2);
            onward = λ its. record {
              passed = s.passed ++ k ∷ [];
              left = left;
              parts = parts ∙ sym (append_assoc s.passed (k ∷ []) left);
              chain = c.2;
              missed = λ j more. elim (cases_eq j k) as (λ _. P j) [
                | inl e ↦ rw e its
                | inr ne ↦ s.missed j (omega (arith, more, times-append j s.passed (k ∷ []), one_if-other j k ne))
              ];
            };
          })

-- ## The node before another one

-- a list in which a number stands once is parted at it in one way
parted-once : (front other : List ℕ) (k : ℕ) (back rest : List ℕ) → times_in k (front ++ k ∷ back) ≤ 1 → times_in k other ≡ 0 → front ++ k ∷ back ≡ other ++ k ∷ rest → front ≡ other
parted-once [] [] k back rest once none e = refl
parted-once [] (b ∷ other) k back rest once none e = let same : k ≡ b = cc in absurd (omega (arith, none, one_if-same k, ap (one_if k) same))
parted-once (a ∷ front) [] k back rest once none e = let same : a ≡ k = cc in absurd (omega (arith, once, one_if-same k, ap (one_if k) same, times-append k front (k ∷ back)))
parted-once (a ∷ front) (b ∷ other) k back rest once none e =
    let same : a ≡ b = cc in
    let tails : front ++ k ∷ back ≡ other ++ k ∷ rest = cc in
    ap (λ (x : ℕ). x ∷ front) same ∙ ap (λ (xs : List ℕ). b ∷ xs) (parted-once front other k back rest (omega (arith, once)) (omega (arith, none)) tails)

pub just-before : (f : ℕ → Held) (n at : ℕ) (front back : List ℕ) (head : Option ℕ) (here : ℕ) → IsAmong f n head at front back → here ≢ at → (f here).chain ≡ Some at → IsSearched f n (λ j. j ≢ at) (front ++ at ∷ back) (Some here)
    → IsJustBefore f n front here at
just-before f n at front back head here a ne leads s = go s.left s.parts s.chain
  where
    go : (left : List ℕ) → front ++ at ∷ back ≡ s.passed ++ left → IsChain f n (Some here) left → IsJustBefore f n front here at
    go [] parts c = cc
    go (k ∷ []) parts c = cc (sym c.2 ∙ ap (λ (x : ℕ). (f x).chain) (sym (its k c.0)) ∙ leads)
      where
        its : (k : ℕ) → ◌≡◌ {A = Option ℕ} (Some here) (Some k) → here ≡ k
        its k e = cc
    go (k ∷ m ∷ left) parts c =
        let same : here ≡ k = cc (c.0) in
        let next : m ≡ at = cc (sym c.2.0 ∙ ap (λ (x : ℕ). (f x).chain) (sym same) ∙ leads) in
        let whole : front ++ at ∷ back ≡ (s.passed ++ here ∷ []) ++ at ∷ left =
        parts ∙ ap (λ (x : ℕ). s.passed ++ x ∷ m ∷ left) (sym same) ∙ ap (λ (x : ℕ). s.passed ++ here ∷ x ∷ left) next ∙ sym (append_assoc s.passed (here ∷ []) (at ∷ left)) in
        let none : times_in at (s.passed ++ here ∷ []) ≡ 0 = omega (arith, a.once at, ap (times_in at) whole, times-append at (s.passed ++ here ∷ []) (at ∷ left), one_if-same at) in
        record {
          ahead = s.passed;
          is = parted-once front (s.passed ++ here ∷ []) at back left (a.once at) none whole;
          within = rw same c.1;
          leads = leads;
        }

-- the chain does not end before the node
pub not-ended : (f : ℕ → Held) (n at : ℕ) (front back : List ℕ) (head : Option ℕ) (here : ℕ) → IsAmong f n head at front back → here ≢ at → (f here).chain ≡ None → IsSearched f n (λ j. j ≢ at) (front ++ at ∷ back) (Some here) → ⊥
not-ended f n at front back head here a ne ended s =
    let v : Visits f n (λ j. j ≢ at) (front ++ at ∷ back) here = visits f n (λ j. j ≢ at) (front ++ at ∷ back) (Some here) here a.once refl s in
    searched f n (λ j. j ≢ at) (front ++ at ∷ back) (f here).chain ended (v.onward ne) at (omega (arith, times-append at front (at ∷ back), one_if-same at)) refl
