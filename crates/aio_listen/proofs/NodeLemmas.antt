-- What is read of a slab of nodes after a write.
use Rattle.std.proofs.Common.{◌≡◌, ◌≢◌, ℕ, ◌+◌, cond, Option, None, Some, is_some, IsSome, arith, refl, sym, ap}
use Rattle.std.proofs.lemmas.List.{get_or-set_same, get_or-set_other}
use Rattle.std.proofs.lemmas.List.Sums.{sum_by-set}
use Rattle.slab.specs.Slab.{Slab, get, slab_len}
use Rattle.slab.proofs.SlabLemmas.{ContainsKey-within}
use Rattle.aio_listen.specs.declared.node.Node.{Node}
use Rattle.aio_listen.specs.Nodes.{node_at, with_node, with_change, slot_emptied}

counts-one : {X : Type 0} (o : Option X) → IsSome o → ◌≡◌ {A = ℕ} (cond (is_some o) 1 0) 1
counts-one None h = cc
counts-one (Some x) h = refl

module _ {W : Type 0} where
  pub written-here : (s : Slab (Node W)) (k : ℕ) (n : Node W) → IsSome (get s k) → get (with_node s k n) k ≡ Some n
  written-here s k n h = get_or-set_same s.slots k (Some n) None (ContainsKey-within s k h)

  pub written-other : (s : Slab (Node W)) (k : ℕ) (n : Node W) (j : ℕ) → j ≢ k → get (with_node s k n) j ≡ get s j
  written-other s k n j ne = get_or-set_other s.slots k j (Some n) None ne

  pub written-len : (s : Slab (Node W)) (k : ℕ) (n : Node W) → IsSome (get s k) → slab_len (with_node s k n) ≡ slab_len s
  written-len s k n h = omega (arith, sum_by-set (λ (o : Option (Node W)). cond (is_some o) 1 0) s.slots k (Some n) None (ContainsKey-within s k h), counts-one (get s k) h)

  pub released-here : (s : Slab (Node W)) (k : ℕ) → IsSome (get s k) → get (slot_emptied s k) k ≡ None
  released-here s k h = get_or-set_same s.slots k None None (ContainsKey-within s k h)

  pub released-other : (s : Slab (Node W)) (k j : ℕ) → j ≢ k → get (slot_emptied s k) j ≡ get s j
  released-other s k j ne = get_or-set_other s.slots k j None None ne

  pub released-len : (s : Slab (Node W)) (k : ℕ) → IsSome (get s k) → slab_len (slot_emptied s k) + 1 ≡ slab_len s
  released-len s k h = omega (arith, sum_by-set (λ (o : Option (Node W)). cond (is_some o) 1 0) s.slots k None None (ContainsKey-within s k h), counts-one (get s k) h)

  pub changed-here : (s : Slab (Node W)) (at : Option ℕ) (f : Node W → Node W) (j : ℕ) → IsSome (get s j) → at ≡ Some j → get (with_change s at f) j ≡ Some (f (node_at s j))
  changed-here s None f j h e = absurd cc
  changed-here s (Some k) f j h e = let same : k ≡ j = cc in rw same (written-here s j (f (node_at s j)) h)

  pub changed-other : (s : Slab (Node W)) (at : Option ℕ) (f : Node W → Node W) (j : ℕ) → at ≢ Some j → get (with_change s at f) j ≡ get s j
  changed-other s None f j ne = refl
  changed-other s (Some k) f j ne = written-other s k (f (node_at s k)) j (λ e. ne (ap Some (sym e)))

  pub changed-len : (s : Slab (Node W)) (at : Option ℕ) (f : Node W → Node W) → ((k : ℕ) → at ≡ Some k → IsSome (get s k)) → slab_len (with_change s at f) ≡ slab_len s
  changed-len s None f h = refl
  changed-len s (Some k) f h = written-len s k (f (node_at s k)) (h k refl)
