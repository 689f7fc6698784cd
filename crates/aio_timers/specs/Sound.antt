-- What stands of a book of timers.
use Rattle.std.specs.Prelude.{ℕ, ◌≡◌, ◌<◌, ◌≤◌, ◌^◌, ◌+◌, false, List, length, Option, Some}
use Rattle.std.specs.List.{All, filter_map}
use Rattle.std.specs.Int.{IsPowerOfTwo}
use Rattle.aio_base.specs.declared.names.Waker.{Waker}
use Rattle.aio_base.specs.World.{Registration}
use Rattle.aio_base.specs.Timers.{in_order, placed, is_pair, without_pair, IsBook}
use Rattle.aio_timers.specs.declared.node.Node.{Node}
use Rattle.aio_timers.specs.Held.{Held, held_at, helds, live_of}
use Rattle.aio_timers.specs.Heap.{IsHeap}
use Rattle.aio_timers.specs.Chains.{IsTable, used_of}

-- the registrations of the nodes in use, in the order in which they fire
abbrev pub registrations : List Held → List Registration
registrations hs = in_order (filter_map live_of hs)

-- no id of a registration is greater
abbrev pub HasIdsTo : ℕ → List Registration → Type 0
HasIdsTo last book = All (λ (r : Registration). r.id ≤ last) book

pub record IsSound (nodes : List Node) (buckets : List (Option ℕ)) (root free : Option ℕ)
    (used : ℕ) : Type 0 where
  pub heap : IsHeap nodes root free
  -- no deadline and id stand at two nodes in use
  pub book : IsBook (registrations (helds nodes))
  pub table : IsTable (held_at nodes) (length nodes) buckets (λ j. used_of (held_at nodes j))
  pub row : length nodes ≤ length buckets
  pub power : 0 < length buckets → IsPowerOfTwo (length buckets)
  pub few : length nodes < 2 ^ 32
  pub used_is : used ≡ length (registrations (helds nodes))

-- no registration has this deadline and this id
abbrev pub IsAbsent : ℕ → ℕ → List Held → Type 0
IsAbsent deadline id hs =
    All (λ (r : Registration). is_pair deadline id r ≡ false) (registrations hs)

-- the node in use with this deadline and this id
pub record IsPairAt (nodes : List Node) (deadline id at : ℕ) : Type 0 where
  pub within : at < length nodes
  pub registration : Registration
  pub live : live_of (held_at nodes at) ≡ Some registration
  pub deadline_is : registration.deadline ≡ deadline
  pub id_is : registration.id ≡ id

-- a registration came
pub record Gains (old new : List Node) (buckets : List (Option ℕ)) (root free : Option ℕ)
    (used : ℕ) (r : Registration) : Type 0 where
  pub sound : IsSound new buckets root free (used + 1)
  pub entries : registrations (helds new) ≡ placed r (registrations (helds old))
  pub len : length new ≡ length old

-- a registration went
pub record Drops (old new : List Node) (buckets : List (Option ℕ)) (root free : Option ℕ)
    (used : ℕ) (r : Registration) : Type 0 where
  pub sound : (left : ℕ) → left + 1 ≡ used → IsSound new buckets root free left
  pub entries : registrations (helds old) ≡ placed r (registrations (helds new))
  pub others : IsAbsent r.deadline r.id (helds new)
  pub len : length new ≡ length old

-- a registration got another id and another waker
pub record Renews (old new : List Node) (buckets : List (Option ℕ)) (root free : Option ℕ)
    (used : ℕ) (r : Registration) (id : ℕ) (w : Waker) : Type 0 where
  pub sound : IsSound new buckets root free used
  pub entries : registrations (helds new)
      ≡ placed (record { id = id; deadline = r.deadline; waker = w })
      (without_pair r.deadline r.id (registrations (helds old)))
  pub len : length new ≡ length old
