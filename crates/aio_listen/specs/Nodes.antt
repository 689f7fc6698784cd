-- Nodes in a slab: what is read at a key, and the slab after a write.
use Rattle.std.specs.Prelude.{ℕ, Option, None, Some, slice_set}
use Rattle.slab.specs.Slab.{Slab, get}
use Rattle.aio_listen.specs.declared.node.Node.{Node}

module _ {W : Type 0} where
  abbrev pub node_in : Option (Node W) → Node W
  node_in None = record { serial = 0; waker = None; previous = None; next = None }
  node_in (Some node) = node

  -- the node at a key, or one of zeros where there is none
  abbrev pub node_at : Slab (Node W) → ℕ → Node W
  node_at s key = node_in (get s key)

  -- the slab with another node at a key
  abbrev pub with_node : Slab (Node W) → ℕ → Node W → Slab (Node W)
  with_node s key node = record s { slots = slice_set s.slots key (Some node) }

  -- the slab once the node at the end of a link, if there is one, was changed so
  abbrev pub with_change : Slab (Node W) → Option ℕ → (Node W → Node W) → Slab (Node W)
  with_change s None change = s
  with_change s (Some key) change = with_node s key (change (node_at s key))

  -- it leads on to another
  abbrev pub with_next : Slab (Node W) → Option ℕ → Option ℕ → Slab (Node W)
  with_next s at next = with_change s at (λ (n : Node W). record n { next = next })

  -- it leads back to another
  abbrev pub with_previous : Slab (Node W) → Option ℕ → Option ℕ → Slab (Node W)
  with_previous s at previous = with_change s at (λ (n : Node W). record n { previous = previous })

  -- the slab without the node at a key, which the next node gets
  abbrev pub slot_emptied : Slab (Node W) → ℕ → Slab (Node W)
  slot_emptied s key = record s { slots = slice_set s.slots key None; vacant_key = key }

  -- the slab without a node, whose neighbours lead to each other
  abbrev pub unlinked : Slab (Node W) → ℕ → Slab (Node W)
  unlinked s key = with_previous (with_next (slot_emptied s key) (node_at s key).previous (node_at s key).next) (node_at s key).next (node_at s key).previous
