-- Nodes that stand one behind the other by their links.
use Rattle.std.specs.Prelude.{ℕ, zero, suc, ◌≡◌, ◌+◌, ◌<◌, ◌≤◌, ◌==◌, if◌then◌else◌, List, [], ◌∷◌, length, IfSome, Option, None, Some}
use Rattle.aio_timers.specs.declared.node.Node.{Node}
use Rattle.aio_timers.specs.Held.{node_at}

abbrev pub one_if : ℕ → ℕ → ℕ
one_if j i = if j == i then 1 else 0

-- how often an index stands in a list
abbrev pub times_in : ℕ → List ℕ → ℕ
times_in j [] = 0
times_in j (i ∷ more) = one_if j i + times_in j more

-- nodes from this link on, along the links forward
abbrev pub IsRun : List Node → Option ℕ → List ℕ → Type 0
IsRun nodes link [] = link ≡ None
IsRun nodes link (i ∷ more) = (link ≡ Some i) × (i < length nodes)
    × IsRun nodes (node_at nodes i).next more

-- a run in which no node stands twice
pub record IsRunOnce (nodes : List Node) (link : Option ℕ) (ks : List ℕ) : Type 0 where
  pub run : IsRun nodes link ks
  pub once : (j : ℕ) → times_in j ks ≤ 1

-- how many nodes there are along the links forward, at most so many
abbrev pub steps_from : ℕ → List Node → Option ℕ → ℕ
steps_from zero nodes link = 0
steps_from (suc fuel) nodes None = 0
steps_from (suc fuel) nodes (Some i) = steps_from fuel nodes (node_at nodes i).next + 1

-- nodes from this link on, where each leads back to the one before it, and the first to this one
abbrev pub IsRow : List Node → ℕ → Option ℕ → List ℕ → Type 0
IsRow nodes before link [] = link ≡ None
IsRow nodes before link (i ∷ more) = (link ≡ Some i) × (i < length nodes)
    × ((node_at nodes i).prev ≡ Some before) × IsRow nodes i (node_at nodes i).next more

-- the index of a node, whose first child is a node too
pub record IsInside (nodes : List Node) (i : ℕ) : Type 0 where
  pub here : i < length nodes
  pub child : IfSome (Node.child (node_at nodes i)) (λ f. f < length nodes)
