-- The heap and the free list in one row of nodes.
use Rattle.std.specs.Prelude.{ℕ, ◌≡◌, ◌<◌, if◌then◌else◌, List, length, Option, None, Some, IfSome, is_some, slice_set}
use Rattle.aio_timers.specs.declared.node.Node.{Node}
use Rattle.aio_timers.specs.Held.{Held, IsUsed, held_at, helds, node_at}
use Rattle.aio_timers.specs.Rows.{times_in, IsRun}
use Rattle.aio_timers.specs.Family.{Family, IsFamily, IsTop}

-- a root without siblings
pub record IsRoot (nodes : List Node) (f : Family) (r : ℕ) : Type 0 where
  pub top : IsTop nodes f r
  pub next : (node_at nodes r).next ≡ None
  pub prev : (node_at nodes r).prev ≡ None

-- 1 for a free node, else 0
abbrev pub one_free : Held → ℕ
one_free h = if is_some h.waker then 0 else 1

-- Each node in use is the root or stands once among the children of one other, and the links of
-- children agree in both directions; no child fires before its parent. Each free node stands once
-- in the free list, which is linked forward alone.
pub record IsHeap (nodes : List Node) (root free : Option ℕ) : Type 0 where
  pub family : Family
  pub spare : List ℕ
  pub rows : IsFamily nodes family
  pub root_is : IfSome root (λ r. IsRoot nodes family r)
  pub single : (j : ℕ) → IsTop nodes family j → root ≡ Some j
  pub run : IsRun nodes free spare
  pub idle : (j : ℕ) → j < length nodes → times_in j spare ≡ one_free (held_at nodes j)

-- one node holds something else, and the heap stands
pub record Holds (old new : List Node) (at : ℕ) (held : Held) (root free : Option ℕ) : Type 0 where
  pub heap : IsHeap new root free
  pub helds_are : helds new ≡ slice_set (helds old) at held

-- no node in use has this deadline and this id
abbrev pub IsNewPair : List Node → Held → Type 0
IsNewPair nodes h = (j : ℕ) → IsUsed (held_at nodes j) → (held_at nodes j).deadline ≡ h.deadline
    → (held_at nodes j).id ≡ h.id → ⊥
