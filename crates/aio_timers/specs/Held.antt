-- What a node holds besides its place in the heap: a timer, where it is in use, and the link of
-- its chain.
use Rattle.std.specs.Prelude.{ℕ, ◌≡◌, Bool, true, is_some, ◌&&◌, ◌==◌, List, map, Option, None, Some, slice_index_or}
use Rattle.aio_base.specs.declared.names.TimerId.{TimerId}
use Rattle.aio_base.specs.declared.names.Waker.{Waker}
use Rattle.aio_base.specs.World.{Registration}
use Rattle.aio_timers.specs.declared.node.Node.{Node}

pub record Held : Type 0 where
  pub deadline : ℕ
  pub id : ℕ
  pub waker : Option Waker
  pub chain : Option ℕ

abbrev pub held_of : Node → Held
held_of n = record { deadline = n.deadline; id = n.id.0; waker = n.waker; chain = n.chain }

-- a node that no other one of the heap is linked with
abbrev pub lone_node : Held → Node
lone_node h = record {
  deadline = h.deadline;
  id = record { 0 = h.id };
  waker = h.waker;
  chain = h.chain;
  child = None;
  next = None;
  prev = None;
}

-- a node in front of this one in the free list
abbrev pub free_node : Option ℕ → Node
free_node next = record {
  deadline = 0;
  id = record { 0 = 0 };
  waker = None;
  chain = None;
  child = None;
  next = next;
  prev = None;
}

-- what a read behind the last node gives
abbrev pub blank_node : Node
blank_node = record {
  deadline = 0;
  id = record { 0 = 0 };
  waker = None;
  chain = None;
  child = None;
  next = None;
  prev = None;
}

abbrev pub node_at : List Node → ℕ → Node
node_at nodes i = slice_index_or nodes i blank_node

abbrev pub held_at : List Node → ℕ → Held
held_at nodes i = held_of (node_at nodes i)

abbrev pub helds : List Node → List Held
helds nodes = map held_of nodes

abbrev pub vacant : Held
vacant = held_of blank_node

-- a timer that left
abbrev pub gone : Held → Held
gone h = record h { waker = None }

-- a node that is not free
abbrev pub IsUsed : Held → Type 0
IsUsed h = is_some h.waker ≡ true

-- its deadline and its id
abbrev pub pair_of : Held → ℕ × TimerId
pair_of h = (h.deadline, record { 0 = h.id })

abbrev pub is_pair_of : ℕ → ℕ → Held → Bool
is_pair_of deadline id h = (h.id == id) && (h.deadline == deadline)

abbrev pub registration_in : ℕ → ℕ → Option Waker → Option Registration
registration_in deadline id None = None
registration_in deadline id (Some waker) = Some (record { id = id; deadline = deadline; waker = waker })

-- the registration of a node in use
abbrev pub live_of : Held → Option Registration
live_of h = registration_in h.deadline h.id h.waker
