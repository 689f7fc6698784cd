-- The buckets, and the chains of nodes that start at them.
use Rattle.std.specs.Prelude.{ℕ, zero, suc, ◌≡◌, ◌+◌, ◌<◌, ◌≤◌, ◌%◌, ◌==◌, if◌then◌else◌, List, [], ◌∷◌, ◌++◌, length, Option, None, Some, MatchOption, is_some, true, false, slice_index_or}
use Rattle.aio_timers.specs.declared.node.Node.{Node}
use Rattle.aio_timers.specs.Held.{Held, node_at, is_pair_of}
use Rattle.aio_timers.specs.Rows.{one_if, times_in}

-- nodes below a bound, each with a link to the next one of its bucket
abbrev pub IsChain : (ℕ → Held) → ℕ → Option ℕ → List ℕ → Type 0
IsChain f n link [] = link ≡ None
IsChain f n link (i ∷ more) = (link ≡ Some i) × (i < n) × IsChain f n (f i).chain more

-- how many nodes there are along the links of a chain, at most so many
abbrev pub chain_steps : ℕ → (ℕ → Held) → Option ℕ → ℕ
chain_steps zero f link = 0
chain_steps (suc fuel) f None = 0
chain_steps (suc fuel) f (Some i) = chain_steps fuel f (f i).chain + 1

-- a chain in which no node stands twice
pub record IsBucket (f : ℕ → Held) (n : ℕ) (head : Option ℕ) (ks : List ℕ) : Type 0 where
  pub chain : IsChain f n head ks
  pub once : (j : ℕ) → times_in j ks ≤ 1

-- 1 for a node in use, 0 for a free one
abbrev pub used_of : Held → ℕ
used_of h = if is_some h.waker then 1 else 0

abbrev pub bucket_in : ℕ → ℕ → ℕ
bucket_in id buckets = id % buckets

-- The chains hold exactly the nodes that are told to be in use, each once, in the bucket of its id.
pub record IsTable (f : ℕ → Held) (n : ℕ) (buckets : List (Option ℕ)) (used : ℕ → ℕ) : Type 0 where
  pub chains : ℕ → List ℕ
  pub linked : (b : ℕ) → b < length buckets → IsChain f n (slice_index_or buckets b None) (chains b)
  pub members : (b j : ℕ) → b < length buckets
      → times_in j (chains b) ≡ (if (bucket_in (f j).id (length buckets)) == b then used j else 0)
  pub single : (j : ℕ) → used j ≤ 1

-- a search of a chain: it found the pair, or none of the nodes has it
abbrev pub IsFound : (ℕ → Held) → ℕ → ℕ → List ℕ → Option ℕ → Type 0
IsFound f deadline id ks answer =
    MatchOption answer ((j : ℕ) → 0 < times_in j ks → is_pair_of deadline id (f j) ≡ false)
    (λ at. (0 < times_in at ks) × (is_pair_of deadline id (f at) ≡ true))

-- A search along a chain, under way: each node that it passed is one of these, and those from this
-- link on are still to come.
pub record IsSearched (f : ℕ → Held) (n : ℕ) (P : ℕ → Type 0) (ks : List ℕ) (link : Option ℕ)
    : Type 0 where
  pub passed : List ℕ
  pub left : List ℕ
  pub parts : ks ≡ passed ++ left
  pub chain : IsChain f n link left
  pub missed : (j : ℕ) → 0 < times_in j passed → P j

-- a node in a chain, behind these and before those
pub record IsAmong (f : ℕ → Held) (n : ℕ) (head : Option ℕ) (at : ℕ) (front back : List ℕ)
    : Type 0 where
  pub chain : IsChain f n head (front ++ at ∷ back)
  pub once : (j : ℕ) → times_in j (front ++ at ∷ back) ≤ 1

-- the node whose link leads to it
pub record IsJustBefore (f : ℕ → Held) (n : ℕ) (front : List ℕ) (before at : ℕ) : Type 0 where
  pub ahead : List ℕ
  pub is : front ≡ ahead ++ before ∷ []
  pub within : before < n
  pub leads : (f before).chain ≡ Some at

-- only links of chains were written
pub record ChainsChange (old new : List Node) : Type 0 where
  pub len : length new ≡ length old
  pub same : (j : ℕ) → node_at new j ≡ record (node_at old j) { chain = (node_at new j).chain }

-- nodes and buckets after a change of the chains, where this node was in use before and now only
-- the others are
abbrev pub IsWithout : (ℕ → ℕ) → (ℕ → ℕ) → ℕ → Type 0
IsWithout used left at = (j : ℕ) → left j + one_if j at ≡ used j
