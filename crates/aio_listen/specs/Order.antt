-- The order of a list of listeners: the keys of its nodes, from the first along the links to the last.
use Rattle.std.specs.Prelude.{ℕ, zero, suc, ◌≡◌, ◌+◌, ◌-◌, ◌^◌, ◌<◌, ◌≤◌, ◌==◌, if◌then◌else◌, IsSome, List, [], ◌∷◌, ◌++◌, length, map, Option, None, Some}
use Rattle.slab.specs.Slab.{Slab, get, slab_len, Updates}
use Rattle.aio_listen.specs.declared.node.Node.{Node}
use Rattle.aio_listen.specs.declared.ticket.Ticket.{Ticket}
use Rattle.aio_listen.specs.Nodes.{node_at, with_next, slot_emptied}
use Rattle.aio_listen.specs.Listening.{IsSound, wakers_of}

abbrev pub one_if_same : ℕ → ℕ → ℕ
one_if_same j k = if j == k then 1 else 0

-- how often a key stands among these
abbrev pub times : ℕ → List ℕ → ℕ
times j [] = 0
times j (k ∷ ks) = one_if_same j k + times j ks

-- the link to the first of these keys, or on to what is behind them
abbrev pub first_of : List ℕ → Option ℕ → Option ℕ
first_of [] behind = behind
first_of (k ∷ ks) behind = Some k

-- the link to the last of these keys, or back to what is before them
abbrev pub last_of : Option ℕ → List ℕ → Option ℕ
last_of before [] = before
last_of before (k ∷ ks) = last_of (Some k) ks

module _ {W : Type 0} where
  -- there is a node at this key, and its links lead to these
  pub record Stands (s : Slab (Node W)) (k : ℕ) (before behind : Option ℕ) : Type 0 where
    pub here : IsSome (get s k)
    pub previous : (node_at s k).previous ≡ before
    pub next : (node_at s k).next ≡ behind

  -- the nodes at these keys lead to one another, in both directions, the first back to what is before and the last on to what is behind
  abbrev pub Chain : Slab (Node W) → Option ℕ → List ℕ → Option ℕ → Type 0
  Chain s before [] behind = Unit {0}
  Chain s before (k ∷ ks) behind = Stands s k before (first_of ks behind) × Chain s (Some k) ks behind

  -- these are the keys along the links, each once, and the slab holds just these
  pub record IsOrder (s : Slab (Node W)) (first last : Option ℕ) (keys : List ℕ) : Type 0 where
    pub chain : Chain s None keys None
    pub first_is : first ≡ first_of keys None
    pub last_is : last ≡ last_of None keys
    pub once : (j : ℕ) → times j keys ≤ 1
    pub reached : (j : ℕ) → IsSome (get s j) → 0 < times j keys
    pub size : length keys ≡ slab_len s

  -- the ticket and the waker of a node
  abbrev pub entry_at : Slab (Node W) → ℕ → Ticket × Option W
  entry_at s k = (record { serial = (node_at s k).serial; place = k }, (node_at s k).waker)

  abbrev pub entries_at : Slab (Node W) → List ℕ → List (Ticket × Option W)
  entries_at s keys = map (entry_at s) keys

  -- the keys along the links, at most so many
  abbrev pub keys_along : ℕ → Slab (Node W) → Option ℕ → List ℕ
  keys_along zero s link = []
  keys_along (suc more) s None = []
  keys_along (suc more) s (Some k) = k ∷ keys_along more s (node_at s k).next

  -- the entries of the nodes along the links
  abbrev pub entries_along : Slab (Node W) → Option ℕ → List (Ticket × Option W)
  entries_along s first = entries_at s (keys_along (slab_len s) s first)

  -- what stands of every list's nodes: an order, whose entries are sound, and each key fits a ticket's place and a link
  pub record IsListed (s : Slab (Node W)) (first last : Option ℕ) (drawn waiting : ℕ) : Type 0 where
    pub keys : List ℕ
    pub order : IsOrder s first last keys
    pub sound : IsSound (entries_at s keys) drawn waiting
    pub fits : (j : ℕ) → 0 < times j keys → j < 2 ^ 32 - 1

  -- a node with this serial and no waker was put under a vacant key, and the last one leads on to it
  pub record Appended (old new : Slab (Node W)) (last : Option ℕ) (k serial : ℕ) : Type 0 where
    pub put : Slab (Node W)
    pub updates : Updates old put k (Some (record { serial = serial; waker = None; previous = last; next = None }))
    pub vacant : get old k ≡ None
    pub len : slab_len put ≡ slab_len old + 1
    pub linked : new ≡ with_next put last (Some k)

  -- there is a node at this key, and its links lead to nodes that the slab holds without it
  pub record IsLinked (s : Slab (Node W)) (k : ℕ) : Type 0 where
    pub here : IsSome (get s k)
    pub previous : (j : ℕ) → (node_at s k).previous ≡ Some j → IsSome (get (slot_emptied s k) j)
    pub next : (j : ℕ) → (node_at s k).next ≡ Some j → IsSome (get (slot_emptied s k) j)

  -- the keys in two parts: at the link back ends the first one, with so many wakers, and at the link on begins the second one, of this size
  pub record Seen (s : Slab (Node W)) (keys : List ℕ) (at start : Option ℕ) (left steps : ℕ) : Type 0 where
    pub front : List ℕ
    pub back : List ℕ
    pub parts : keys ≡ front ++ back
    pub before : at ≡ last_of None front
    pub behind : start ≡ first_of back None
    pub waiting : left ≡ length (wakers_of (entries_at s front))
    pub size : steps ≡ length back

  -- these keys, so many, are the last ones of an order, from a link on
  pub record IsTail (s : Slab (Node W)) (start : Option ℕ) (steps : ℕ) (keys : List ℕ) : Type 0 where
    pub before : Option ℕ
    pub chain : Chain s before keys None
    pub start_is : start ≡ first_of keys None
    pub once : (j : ℕ) → times j keys ≤ 1
    pub size : length keys ≡ steps

  -- the wakers of the nodes at these keys were taken, in order, and put behind the others; all else stays
  pub record Taken (old new : Slab (Node W)) (keys : List ℕ) (out more : List W) : Type 0 where
    pub emptied : (j : ℕ) → 0 < times j keys → get new j ≡ Some (record (node_at old j) { waker = None })
    pub kept : (j : ℕ) → times j keys ≡ 0 → get new j ≡ get old j
    pub len : slab_len new ≡ slab_len old
    pub pushed : more ≡ out ++ wakers_of (entries_at old keys)

  -- the wakers up to a link on were taken, so many of the nodes
  pub record Taking (old new : Slab (Node W)) (keys : List ℕ) (at : Option ℕ) (steps : ℕ) (out more : List W) : Type 0 where
    pub front : List ℕ
    pub back : List ℕ
    pub parts : keys ≡ front ++ back
    pub at_is : at ≡ first_of back None
    pub taken : Taken old new front out more
    pub size : steps ≡ length front
