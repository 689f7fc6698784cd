-- Which node stands above which. The heap is told by the lists of children alone: each node in use
-- stands once in the list of one other, which fires before it, or in none. So a way up ends at a
-- root, and nothing is said of the shape as a whole.
use Rattle.std.specs.Prelude.{ℕ, ◌≡◌, ◌≤◌, ◌<◌, if◌then◌else◌, true, List, [], ◌∷◌, ◌++◌, length, Option, None, Some, MatchOption}
use Rattle.aio_timers.specs.declared.node.Node.{Node}
use Rattle.aio_timers.specs.Precedes.{precedes}
use Rattle.aio_timers.specs.Held.{IsUsed, held_at, node_at}
use Rattle.aio_timers.specs.Rows.{times_in, IsRow, IsRun}
use Rattle.aio_timers.specs.Writes.{leads_to}

-- the parent of each node, if it has one, and its children, from the first on
pub record Family : Type 0 where
  pub above : ℕ → Option ℕ
  pub below : ℕ → List ℕ

-- 1 where this node is the parent of the other one, else 0
abbrev pub one_below : Family → ℕ → ℕ → ℕ
one_below f i j = if leads_to (f.above j) i then 1 else 0

-- a parent and its child, which are in use, and of which the parent fires first
pub record IsParent (nodes : List Node) (i j : ℕ) : Type 0 where
  pub parent : IsUsed (held_at nodes i)
  pub child : IsUsed (held_at nodes j)
  pub before : precedes (held_at nodes i) (held_at nodes j) ≡ true

pub record IsFamily (nodes : List Node) (f : Family) : Type 0 where
  -- the links of the children of a node in use agree in both directions
  pub linked : (i : ℕ) → IsUsed (held_at nodes i)
      → IsRow nodes i (node_at nodes i).child (f.below i)
  -- each stands there once, and nothing else does
  pub members : (i j : ℕ) → IsUsed (held_at nodes i) → times_in j (f.below i) ≡ one_below f i j
  -- no child comes before its parent
  pub order : (i j : ℕ) → f.above j ≡ Some i → IsParent nodes i j
  -- no two nodes in use have the same deadline and the same id
  pub apart : (i j : ℕ) → IsUsed (held_at nodes i) → IsUsed (held_at nodes j)
      → (held_at nodes i).deadline ≡ (held_at nodes j).deadline
      → (held_at nodes i).id ≡ (held_at nodes j).id → i ≡ j

-- a node in use without a parent
pub record IsTop (nodes : List Node) (f : Family) (i : ℕ) : Type 0 where
  pub used : IsUsed (held_at nodes i)
  pub free : f.above i ≡ None

-- what a merge is given: the roots of a row from this link on
pub record AreTops (nodes : List Node) (f : Family) (first : Option ℕ) (ks : List ℕ) : Type 0 where
  pub family : IsFamily nodes f
  pub run : IsRun nodes first ks
  pub tops : (j : ℕ) → 0 < times_in j ks → IsTop nodes f j
  pub once : (j : ℕ) → times_in j ks ≤ 1

-- timers and chains were not written
pub record KeepsHeld (old new : List Node) : Type 0 where
  pub len : length new ≡ length old
  pub held : (j : ℕ) → held_at new j ≡ held_at old j

-- Of the roots of a row these ones are left: each other one has a parent now. All other nodes have
-- the parent that they had, and other roots and free nodes have the links that they had.
pub record Melds (old new : List Node) (f : Family) (ks left : List ℕ) : Type 0 where
  pub now : Family
  pub family : IsFamily new now
  pub kept : KeepsHeld old new
  pub once : (j : ℕ) → times_in j left ≤ times_in j ks
  pub tops : (j : ℕ) → 0 < times_in j left → now.above j ≡ None
  pub others : (j : ℕ) → 0 < times_in j ks → now.above j ≡ None → 0 < times_in j left
  pub outside : (j : ℕ) → times_in j ks ≡ 0 → now.above j ≡ f.above j
  pub still : (j : ℕ) → times_in j ks ≡ 0 → f.above j ≡ None
      → ((node_at new j).next ≡ (node_at old j).next)
      × ((node_at new j).prev ≡ (node_at old j).prev)

-- the first pass, at some time: the roots of the row that are still to come, and those made of the
-- others
pub record Pairs (old new : List Node) (f : Family) (ks : List ℕ) (rest done : Option ℕ)
    : Type 0 where
  pub coming : List ℕ
  pub made : List ℕ
  pub coming_run : IsRun new rest coming
  pub made_run : IsRun new done made
  pub melds : Melds old new f ks (coming ++ made)
  -- until a root is made, nothing is written
  pub none : done ≡ None → (coming ≡ ks) × (new ≡ old)

-- the second pass, at some time: the root that was made, and those that are still to come
pub record CombinesAt (old new : List Node) (f : Family) (ks : List ℕ) (rest : Option ℕ)
    (top : ℕ) : Type 0 where
  pub coming : List ℕ
  pub run : IsRun new rest coming
  pub melds : Melds old new f ks (top ∷ coming)

abbrev pub Combines : List Node → List Node → Family → List ℕ → Option ℕ → Option ℕ → Type 0
Combines old new f ks rest None = (ks ≡ []) × (new ≡ old)
Combines old new f ks rest (Some top) = CombinesAt old new f ks rest top

-- a row became one tree, whose root has no siblings
pub record MergesTo (old new : List Node) (f : Family) (ks : List ℕ) (top : ℕ) : Type 0 where
  pub melds : Melds old new f ks (top ∷ [])
  pub next : (node_at new top).next ≡ None
  pub prev : (node_at new top).prev ≡ None

abbrev pub Merges : List Node → List Node → Family → List ℕ → Option ℕ → Type 0
Merges old new f ks answer =
    MatchOption answer ((ks ≡ []) × (new ≡ old)) (λ top. MergesTo old new f ks top)
