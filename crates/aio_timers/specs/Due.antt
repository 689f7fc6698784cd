-- How many timers are due, and the way of the count over the nodes.
use Rattle.std.specs.Prelude.{ℕ, ◌≡◌, ◌+◌, ◌<◌, Bool, false, ◌&&◌, nat_le, if◌then◌else◌, List, [], ◌∷◌, ◌++◌, Option, None, Some, MatchOption, is_some}
use Rattle.aio_timers.specs.declared.node.Node.{Node}
use Rattle.aio_timers.specs.Held.{Held, IsUsed, held_at}
use Rattle.aio_timers.specs.Rows.{one_if, times_in}
use Rattle.aio_timers.specs.Family.{Family, IsTop}

abbrev pub is_due : ℕ → Held → Bool
is_due now h = nat_le h.deadline now

-- how many nodes in use are due
abbrev pub due_in : ℕ → List Held → ℕ
due_in now [] = 0
due_in now (h ∷ hs) = (if is_some h.waker && is_due now h then 1 else 0) + due_in now hs

-- a list with others in front of it, the nearest of these first
abbrev pub led_by : List ℕ → List ℕ → List ℕ
led_by [] ks = ks
led_by (i ∷ more) ks = led_by more (i ∷ ks)

-- none of these nodes is due
abbrev pub NoneDue : (ℕ → Held) → ℕ → List ℕ → Type 0
NoneDue f now ks = (j : ℕ) → 0 < times_in j ks → is_due now (f j) ≡ false

-- the last node of a list that is due, between those before it, the nearest first, and those behind
pub record IsLastDueAt (f : ℕ → Held) (now : ℕ) (ks : List ℕ) (i : ℕ) : Type 0 where
  pub before : List ℕ
  pub back : List ℕ
  pub is : ks ≡ led_by before (i ∷ back)
  pub others : NoneDue f now back

abbrev pub IsLastDue : (ℕ → Held) → ℕ → List ℕ → Option ℕ → Type 0
IsLastDue f now ks answer = MatchOption answer (NoneDue f now ks) (λ i. IsLastDueAt f now ks i)

-- a step down to a node: its parent, its siblings before it, the nearest first, and those behind it
pub record Down : Type 0 where
  pub parent : ℕ
  pub before : List ℕ
  pub back : List ℕ

-- the steps to a node, from the last one back to that from the root
abbrev pub Trail : Type 0
Trail = List Down

abbrev pub IsOnTrail : List Node → Family → ℕ → Trail → Type 0
IsOnTrail nodes f i [] = IsTop nodes f i
IsOnTrail nodes f i (d ∷ t) = (f.below d.parent ≡ led_by d.before (i ∷ d.back))
    × (f.above i ≡ Some d.parent) × IsOnTrail nodes f d.parent t

-- where the walk still goes: the siblings before the nodes of a trail
abbrev pub ahead : Trail → List ℕ
ahead [] = []
ahead (d ∷ t) = d.before ++ ahead t

-- the walk goes on at a node: of these new ones and those ahead, this one and those ahead of it
-- are left
pub record GoesTo (nodes : List Node) (f : Family) (more : List ℕ) (t : Trail) (i : ℕ)
    : Type 0 where
  pub trail : Trail
  pub is : IsOnTrail nodes f i trail
  pub same : (j : ℕ)
      → times_in j more + times_in j (ahead t) ≡ one_if j i + times_in j (ahead trail)

abbrev pub WalksOn : List Node → Family → List ℕ → Trail → Option ℕ → Type 0
WalksOn nodes f more t None = (j : ℕ) → times_in j more + times_in j (ahead t) ≡ 0
WalksOn nodes f more t (Some i) = GoesTo nodes f more t i

-- the walk goes on, and passes by some of the new ones, none of which is due
pub record GoesPast (nodes : List Node) (f : Family) (now : ℕ) (more : List ℕ) (t : Trail)
    (to : Option ℕ) : Type 0 where
  pub kept : List ℕ
  pub others : List ℕ
  pub parts : (j : ℕ) → times_in j more ≡ times_in j kept + times_in j others
  pub used : (j : ℕ) → 0 < times_in j others → IsUsed (held_at nodes j)
  pub idle : NoneDue (held_at nodes) now others
  pub goes : WalksOn nodes f kept t to
