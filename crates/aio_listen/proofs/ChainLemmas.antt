-- Chains of nodes: in parts, after writes elsewhere, and with other neighbours.
use Rattle.std.proofs.Common.{◌≡◌, ◌≢◌, ℕ, zero, suc, inl, inr, ◌<◌, ◌≤◌, List, [], ◌∷◌, ◌++◌, length, Option, None, Some, IsSome, arith, refl, sym, ap, subst, ◌∙◌}
use Rattle.slab.specs.Slab.{Slab, get, slab_len}
use Rattle.aio_listen.specs.declared.node.Node.{Node}
use Rattle.aio_listen.specs.Nodes.{node_in, node_at}
use Rattle.aio_listen.specs.Order.{times, first_of, last_of, Stands, Chain, IsOrder, keys_along}
use Rattle.aio_listen.proofs.KeyLemmas.{one-same, same_or_other, first_of-append, last_of-told}

module _ {W : Type 0} where
  -- a chain of two lists is two chains
  pub Chain-parts : (s : Slab (Node W)) (before : Option ℕ) (ks ls : List ℕ) (behind : Option ℕ) → Chain s before (ks ++ ls) behind
      → Chain s before ks (first_of ls behind) × Chain s (last_of before ks) ls behind
  Chain-parts s before [] ls behind h = (tt, h)
  Chain-parts s before (k ∷ ks) ls behind h =
      let rest = Chain-parts s (Some k) ks ls behind h.1 in
      ((subst (λ (link : Option ℕ). Stands s k before link) (first_of-append ks ls behind) h.0, rest.0), rest.1)

  pub Chain-join : (s : Slab (Node W)) (before : Option ℕ) (ks ls : List ℕ) (behind : Option ℕ) → Chain s before ks (first_of ls behind) → Chain s (last_of before ks) ls behind
      → Chain s before (ks ++ ls) behind
  Chain-join s before [] ls behind h g = g
  Chain-join s before (k ∷ ks) ls behind h g =
      (subst (λ (link : Option ℕ). Stands s k before link) (sym (first_of-append ks ls behind)) h.0, Chain-join s (Some k) ks ls behind h.1 g)

  pub Chain-present : (s : Slab (Node W)) (before : Option ℕ) (ks : List ℕ) (behind : Option ℕ) (j : ℕ) → Chain s before ks behind → 0 < times j ks → IsSome (get s j)
  Chain-present s before [] behind j h c = absurd (omega (arith, c))
  Chain-present s before (k ∷ ks) behind j h c = elim (same_or_other j k) as (λ _. IsSome (get s j)) [
    | inl e ↦ rw e h.0.here
    | inr ne ↦ Chain-present s (Some k) ks behind j h.1 (omega (arith, c, ne))
  ]

  -- what is read where a node is as it was
  pub Stands-same : (s z : Slab (Node W)) (k : ℕ) (before behind : Option ℕ) → get z k ≡ get s k → Stands s k before behind → Stands z k before behind
  Stands-same s z k before behind same h = record {
    here = rw same h.here;
    previous = ap (λ (o : Option (Node W)). (node_in o).previous) same ∙ h.previous;
    next = ap (λ (o : Option (Node W)). (node_in o).next) same ∙ h.next;
  }

  pub Chain-same : (s z : Slab (Node W)) (before : Option ℕ) (ks : List ℕ) (behind : Option ℕ) → ((j : ℕ) → 0 < times j ks → get z j ≡ get s j) → Chain s before ks behind → Chain z before ks behind
  Chain-same s z before [] behind same h = tt
  Chain-same s z before (k ∷ ks) behind same h =
      (Stands-same s z k before (first_of ks behind) (same k (omega (arith, one-same k))) h.0, Chain-same s z (Some k) ks behind (λ j c. same j (omega (arith, c))) h.1)

  -- the last node leads on to another
  pub Chain-led_on : (s z : Slab (Node W)) (before : Option ℕ) (ks : List ℕ) (behind other : Option ℕ) → ((j : ℕ) → times j ks ≤ 1)
      → ((j : ℕ) → 0 < times j ks → last_of before ks ≢ Some j → get z j ≡ get s j)
      → ((j : ℕ) → 0 < times j ks → last_of before ks ≡ Some j → get z j ≡ Some (record (node_at s j) { next = other }))
      → Chain s before ks behind → Chain z before ks other
  Chain-led_on s z before [] behind other once same here h = tt
  Chain-led_on s z before (k ∷ []) behind other once same here h =
      let read : get z k ≡ Some (record (node_at s k) { next = other }) = here k (omega (arith, one-same k)) refl in (
        record {
          here = rw read refl;
          previous = ap (λ (o : Option (Node W)). (node_in o).previous) read ∙ h.0.previous;
          next = ap (λ (o : Option (Node W)). (node_in o).next) read;
        },
        tt,
      )
  Chain-led_on s z before (k ∷ l ∷ ls) behind other once same here h =
      let told = last_of-told (Some k) l ls in
      let apart : last_of (Some k) (l ∷ ls) ≢ Some k = λ e. let it : told.0 ≡ k = cc (told.1) in omega (arith, once k, one-same k, told.2, ap (λ (i : ℕ). times i (l ∷ ls)) it) in (
        Stands-same s z k before (Some l) (same k (omega (arith, one-same k)) apart) h.0,
        Chain-led_on s z (Some k) (l ∷ ls) behind other (λ j. omega (arith, once j)) (λ j c ne. same j (omega (arith, c)) ne) (λ j c e. here j (omega (arith, c)) e) h.1,
      )

  -- the first node leads back to another
  pub Chain-led_back : (s z : Slab (Node W)) (before other : Option ℕ) (ks : List ℕ) → ((j : ℕ) → times j ks ≤ 1)
      → ((j : ℕ) → 0 < times j ks → first_of ks None ≢ Some j → get z j ≡ get s j)
      → ((j : ℕ) → 0 < times j ks → first_of ks None ≡ Some j → get z j ≡ Some (record (node_at s j) { previous = other }))
      → Chain s before ks None → Chain z other ks None
  Chain-led_back s z before other [] once same here h = tt
  Chain-led_back s z before other (k ∷ ks) once same here h =
      let read : get z k ≡ Some (record (node_at s k) { previous = other }) = here k (omega (arith, one-same k)) refl in (
        record {
          here = rw read refl;
          previous = ap (λ (o : Option (Node W)). (node_in o).previous) read;
          next = ap (λ (o : Option (Node W)). (node_in o).next) read ∙ h.0.next;
        },
        Chain-same s z (Some k) ks None (λ j c. same j (omega (arith, c)) (λ e. let it : k ≡ j = cc in omega (arith, once k, one-same k, c, ap (λ (i : ℕ). times i ks) it))) h.1,
      )

  -- the keys along the links are those of the order
  keys_along-none : (more : ℕ) (s : Slab (Node W)) → keys_along more s None ≡ []
  keys_along-none zero s = refl
  keys_along-none (suc more) s = refl

  keys_along-chain : (more : ℕ) (s : Slab (Node W)) (before link : Option ℕ) (ks : List ℕ) → Chain s before ks None → link ≡ first_of ks None → length ks ≤ more → keys_along more s link ≡ ks
  keys_along-chain more s before link [] h is le = rw is (keys_along-none more s)
  keys_along-chain zero s before link (k ∷ ks) h is le = absurd (omega (arith, le))
  keys_along-chain (suc more) s before link (k ∷ ks) h is le = rw is (ap (λ (ls : List ℕ). k ∷ ls) (keys_along-chain more s (Some k) (node_at s k).next ks h.1 h.0.next (omega (arith, le))))

  pub keys_along-order : (s : Slab (Node W)) (first last : Option ℕ) (keys : List ℕ) → IsOrder s first last keys → keys_along (slab_len s) s first ≡ keys
  keys_along-order s first last keys h = keys_along-chain (slab_len s) s None first keys h.chain h.first_is (omega (arith, h.size))

  -- two slabs whose nodes differ in their wakers at most
  pub record SameBut (s z : Slab (Node W)) (j : ℕ) : Type 0 where
    pub there : IsSome (get s j) → IsSome (get z j)
    pub back : IsSome (get z j) → IsSome (get s j)
    pub serial : (node_at z j).serial ≡ (node_at s j).serial
    pub previous : (node_at z j).previous ≡ (node_at s j).previous
    pub next : (node_at z j).next ≡ (node_at s j).next

  pub SameBut-kept : (s z : Slab (Node W)) (j : ℕ) → get z j ≡ get s j → SameBut s z j
  SameBut-kept s z j same = record {
    there = λ h. rw same h;
    back = λ h. rw (← same) h;
    serial = ap (λ (o : Option (Node W)). (node_in o).serial) same;
    previous = ap (λ (o : Option (Node W)). (node_in o).previous) same;
    next = ap (λ (o : Option (Node W)). (node_in o).next) same;
  }

  pub SameBut-waker : (s z : Slab (Node W)) (j : ℕ) (waker : Option W) → IsSome (get s j) → get z j ≡ Some (record (node_at s j) { waker = waker }) → SameBut s z j
  SameBut-waker s z j waker held read = record {
    there = λ h. rw read refl;
    back = λ h. held;
    serial = ap (λ (o : Option (Node W)). (node_in o).serial) read;
    previous = ap (λ (o : Option (Node W)). (node_in o).previous) read;
    next = ap (λ (o : Option (Node W)). (node_in o).next) read;
  }

  Chain-but : (s z : Slab (Node W)) (before : Option ℕ) (ks : List ℕ) (behind : Option ℕ) → ((j : ℕ) → SameBut s z j) → Chain s before ks behind → Chain z before ks behind
  Chain-but s z before [] behind same h = tt
  Chain-but s z before (k ∷ ks) behind same h =
      (record { here = (same k).there h.0.here; previous = (same k).previous ∙ h.0.previous; next = (same k).next ∙ h.0.next }, Chain-but s z (Some k) ks behind same h.1)

  -- have one order
  pub IsOrder-but : (s z : Slab (Node W)) (first last : Option ℕ) (keys : List ℕ) → ((j : ℕ) → SameBut s z j) → slab_len z ≡ slab_len s → IsOrder s first last keys → IsOrder z first last keys
  IsOrder-but s z first last keys same len h = record {
    chain = Chain-but s z None keys None same h.chain;
    first_is = h.first_is;
    last_is = h.last_is;
    once = h.once;
    reached = λ j there. h.reached j ((same j).back there);
    size = h.size ∙ sym len;
  }
