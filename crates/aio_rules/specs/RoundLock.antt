-- The lock of a shared reactor. Its one cell (a round, the round seat and the half of the poller that waits) lies in a queue of one place, or is out with
-- one member. What members know, what each kind of step changes, and the rule that holds between any two steps.
use Rattle.std.specs.Prelude.{◌≡◌, ℕ, ◌+◌, ◌≤◌, Bool, true, false, List, [], ◌∷◌, ◌++◌, length}
use mathlib.Core.Option.{some}
use lib.ListN.{get_elem?}
use Rattle.aio_rules.specs.declared.claims.ClaimView.{ClaimView}
use Rattle.aio_rules.specs.SharedLock.{one_if}

-- ## What members know

-- what the members and a queued cell say the same of: the words to which the round seat belongs, whether the half that waits is sure, and whether the
-- reactor is sure of its arms
pub record About (I : Type 0) : Type 0 where
  pub words : I
  pub sure_of_wait : Bool
  pub sure_of_arms : Bool

-- a member: what it knows, and how many of its pops found the queue empty
pub record RoundMember (I : Type 0) : Type 0 where
  pub claim : ClaimView I
  pub empties : ℕ

module _ {I : Type 0} where
  abbrev pub about_of : ClaimView I → About I
  about_of t = record { words = t.words; sure_of_wait = t.sure_of_wait; sure_of_arms = t.sure_of_arms }

  -- the first member, for which the cell is still to be made; what it knows of the cell is of no account
  abbrev pub opening_claim : I → ClaimView I
  opening_claim words = record { holds = true; opening = true; words = words; sure_of_wait = false; sure_of_arms = false; splits = 0; lineage = [] }

  -- the first member, which holds no cell, and knows this
  abbrev pub knowing : About I → ClaimView I
  knowing all = record { holds = false; opening = false; words = all.words; sure_of_wait = all.sure_of_wait; sure_of_arms = all.sure_of_arms; splits = 0; lineage = [] }

  abbrev pub holding : ClaimView I → ClaimView I
  holding t = record t { holds = true }

  abbrev pub released : ClaimView I → ClaimView I
  released t = record t { holds = false }

  -- the claim of a member after another was split off it
  abbrev pub split_claim : ClaimView I → ClaimView I
  split_claim t = record t { splits = t.splits + 1 }

  -- the claim of the member that is split off: without the cell, without splits of its own, its lineage one number longer
  abbrev pub next_claim : ClaimView I → ClaimView I
  next_claim t = record t { holds = false; splits = 0; lineage = t.lineage ++ t.splits ∷ [] }

  -- ## The kinds of step

  -- the first push, of a cell that says this, by the first member
  abbrev pub opened : About I → RoundMember I → RoundMember I
  opened all m = record m { claim = knowing all }

  -- a pop that gives: the member holds the cell
  abbrev pub popped : RoundMember I → RoundMember I
  popped m = record m { claim = holding m.claim }

  -- a pop that finds none, after which the member has this count of them
  abbrev pub found_none : ℕ → RoundMember I → RoundMember I
  found_none count m = record m { empties = count }

  -- a push, by a member that holds the cell: it holds none afterwards
  abbrev pub pushed : RoundMember I → RoundMember I
  pushed m = record m { claim = released m.claim }

  -- what a split leaves of a member, and the new member that another thread gets
  abbrev pub split_member : RoundMember I → RoundMember I
  split_member m = record m { claim = split_claim m.claim }

  abbrev pub new_member : RoundMember I → RoundMember I
  new_member m = record { claim = next_claim m.claim; empties = 0 }

  -- ## The rule

  -- how many members hold the cell
  abbrev pub holders : List (ClaimView I) → ℕ
  holders [] = 0
  holders (t ∷ claims) = one_if t.holds + holders claims

  -- this holds of each member's view
  abbrev pub EachClaim : List (ClaimView I) → (ClaimView I → Type 0) → Type 0
  EachClaim claims Holds = (member : ℕ) (t : ClaimView I) → get_elem? claims member ≡ some t → Holds t

  -- while the cell is still to be made there is one member, and it holds the cell
  abbrev pub OpensAlone : List (ClaimView I) → ClaimView I → Type 0
  OpensAlone claims t = t.opening ≡ true → (t.holds ≡ true) × (claims ≡ t ∷ [])

-- this holds of each cell in the queue
abbrev pub EachCell : {X : Type 0} → List X → (X → Type 0) → Type 0
EachCell [] Holds = Unit {0}
EachCell (x ∷ items) Holds = Holds x × EachCell items Holds

module _ {X I : Type 0} (says : X → About I → Type 0) (is_idle : X → Type 0) where
  -- The rule over the queue's items and the views of all members.
  pub record RoundLockRule (items : List X) (claims : List (ClaimView I)) : Type 0 where
    -- the queue's items and the members that hold the cell are together at most one
    pub one : length items + holders claims ≤ 1
    -- the round seat of a queued cell is idle
    pub idle : EachCell items is_idle
    -- each member and a queued cell say the same
    pub all : About I
    pub cells : EachCell items (λ x. says x all)
    pub members : EachClaim claims (λ t. about_of t ≡ all)
    pub opening : EachClaim claims (OpensAlone claims)
