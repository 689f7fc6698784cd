-- What the functions on nodes write, each as an equation over the whole row of nodes.
use Rattle.std.specs.Prelude.{ℕ, if◌then◌else◌, Bool, false, ◌==◌, List, Option, None, Some, slice_set}
use Rattle.aio_base.specs.declared.names.Waker.{Waker}
use Rattle.aio_timers.specs.declared.node.Node.{Node}
use Rattle.aio_timers.specs.Precedes.{precedes}
use Rattle.aio_timers.specs.Held.{held_at, node_at}

-- one node is changed
abbrev pub with_write : List Node → ℕ → (Node → Node) → List Node
with_write nodes i change = slice_set nodes i (change (node_at nodes i))

abbrev pub with_child : List Node → ℕ → Option ℕ → List Node
with_child nodes i link = with_write nodes i (λ n. record n { child = link })

abbrev pub with_next : List Node → ℕ → Option ℕ → List Node
with_next nodes i link = with_write nodes i (λ n. record n { next = link })

abbrev pub with_prev : List Node → ℕ → Option ℕ → List Node
with_prev nodes i link = with_write nodes i (λ n. record n { prev = link })

abbrev pub with_chain : List Node → ℕ → Option ℕ → List Node
with_chain nodes i link = with_write nodes i (λ n. record n { chain = link })

abbrev pub with_waker : List Node → ℕ → Waker → List Node
with_waker nodes i w = with_write nodes i (λ n. record n { waker = Some w })

-- the timer of a node gets another id and another waker
abbrev pub renamed : List Node → ℕ → ℕ → Waker → List Node
renamed nodes i id w = with_write nodes i (λ n. record n { id = record { 0 = id }; waker = Some w })

-- the node that comes behind, if one does, leads back to this one
abbrev pub with_back : List Node → Option ℕ → Option ℕ → List Node
with_back nodes None link = nodes
with_back nodes (Some i) link = with_prev nodes i link

-- the node that a link leads to, or where it leads to none this one
abbrev pub leads_or : Option ℕ → ℕ → ℕ
leads_or None i = i
leads_or (Some j) i = j

-- a node comes in front of the children of another
abbrev pub under : List Node → ℕ → ℕ → List Node
under nodes parent i =
    let first = (node_at nodes parent).child in
    let a = with_next nodes i first in
    let b = with_prev a (leads_or first i) (Some i) in
    let c = with_prev b i (Some parent) in
    with_child c parent (Some i)

-- of two roots the one that fires first
abbrev pub upper : List Node → ℕ → ℕ → ℕ
upper nodes a b = if precedes (held_at nodes b) (held_at nodes a) then b else a

-- and the other one
abbrev pub lower : List Node → ℕ → ℕ → ℕ
lower nodes a b = if precedes (held_at nodes b) (held_at nodes a) then a else b

abbrev pub joined : List Node → ℕ → ℕ → List Node
joined nodes a b = under nodes (upper nodes a b) (lower nodes a b)

-- a root is joined with its next sibling, if there is one, and the upper one of the two leads to
-- these roots
abbrev pub upper_of_pair : List Node → ℕ → Option ℕ → ℕ
upper_of_pair nodes a None = a
upper_of_pair nodes a (Some b) = upper nodes a b

abbrev pub paired : List Node → ℕ → Option ℕ → Option ℕ → List Node
paired nodes a None done = with_next nodes a done
paired nodes a (Some b) done = with_next (joined nodes a b) (upper nodes a b) done

abbrev pub behind_pair : List Node → Option ℕ → Option ℕ
behind_pair nodes None = None
behind_pair nodes (Some b) = (node_at nodes b).next

-- a root without siblings
abbrev pub alone : List Node → ℕ → List Node
alone nodes i = with_prev (with_next nodes i None) i None

-- a test of a link: it leads to this node, and not to another or to none
abbrev pub leads_to : Option ℕ → ℕ → Bool
leads_to None i = false
leads_to (Some j) i = j == i

-- what leads to a node, its parent or the sibling before it, leads to the node behind it
abbrev pub skips : List Node → ℕ → Option ℕ → List Node
skips nodes i None = nodes
skips nodes i (Some p) = if leads_to (node_at nodes p).next i
    then with_next nodes p (node_at nodes i).next else with_child nodes p (node_at nodes i).next

-- a node leaves its row
abbrev pub without : List Node → ℕ → List Node
without nodes i =
    with_back (skips nodes i (node_at nodes i).prev) (node_at nodes i).next (node_at nodes i).prev

-- a node without its timer, at the head of the free list
abbrev pub put_on_free : List Node → ℕ → Option ℕ → List Node
put_on_free nodes at free = with_next (with_write nodes at (λ n. record n { waker = None })) at free
