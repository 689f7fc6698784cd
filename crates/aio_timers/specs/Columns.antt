-- The row of nodes, of which each lies in two columns: its links to siblings, and all else.
use Rattle.std.specs.Prelude.{List, [], ◌∷◌}
use Rattle.aio_timers.specs.declared.node.Node.{Node}
use Rattle.aio_timers.specs.declared.nodes.Entry.{Entry}
use Rattle.aio_timers.specs.declared.nodes.Siblings.{Siblings}

-- a node by what each column has of it
abbrev pub node_of : Entry → Siblings → Node
node_of e s = record {
  waker = e.waker;
  id = e.id;
  deadline = e.deadline;
  next = s.next;
  child = e.child;
  prev = s.prev;
  chain = e.chain;
}

-- and the other way round
abbrev pub entry_of : Node → Entry
entry_of n = record { waker = n.waker; id = n.id; deadline = n.deadline; child = n.child; chain = n.chain }

abbrev pub siblings_of : Node → Siblings
siblings_of n = record { next = n.next; prev = n.prev }

abbrev pub nodes_of : List Entry → List Siblings → List Node
nodes_of [] rows = []
nodes_of (e ∷ entries) [] = []
nodes_of (e ∷ entries) (s ∷ rows) = node_of e s ∷ nodes_of entries rows
