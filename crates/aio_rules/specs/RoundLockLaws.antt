-- What is true of the rule of the reactor lock: it holds at the start, and each kind of step keeps it.
use Rattle.std.specs.Prelude.{◌≡◌, ℕ, true, false, List, [], ◌∷◌, ◌++◌, map, slice_set}
use mathlib.Core.Option.{some}
use lib.ListN.{get_elem?}
use Rattle.aio_rules.specs.RoundLock.{About, RoundMember, about_of, opening_claim, opened, popped, found_none, pushed, split_member, new_member, RoundLockRule}

module _ {X I : Type 0} (says : X → About I → Type 0) (is_idle : X → Type 0) where
  abbrev pub MembersRule : List X → List (RoundMember I) → Type 0
  MembersRule items members = RoundLockRule says is_idle items (map (λ (m : RoundMember I). m.claim) members)

  -- a member stands at the lock, between two steps
  pub record StandsAt (items : List X) (members : List (RoundMember I)) (member : ℕ) (m : RoundMember I) : Type 0 where
    pub rule : MembersRule items members
    pub stands : get_elem? members member ≡ some m

  -- A cell may be pushed by a member that knows this: its round seat is idle, and it says the same.
  abbrev pub MayBePushed : X → About I → Type 0
  MayBePushed x all = is_idle x × says x all

  -- at the start there is one member, and the queue is empty
  abbrev pub StartMeetsRoundLockRule : Type 0
  StartMeetsRoundLockRule = (words : I) → MembersRule [] (record { claim = opening_claim words; empties = 0 } ∷ [])

  -- the first push, by the first member
  abbrev pub FirstPushKeepsRule : Type 0
  FirstPushKeepsRule = (items : List X) (members : List (RoundMember I)) (member : ℕ) (m : RoundMember I) (x : X) (all : About I)
      → StandsAt items members member m → m.claim.opening ≡ true → MayBePushed x all → MembersRule (items ++ x ∷ []) (slice_set members member (opened all m))

  -- a pop that gives: the cell is idle, and says what the member knows
  abbrev pub PopKeepsRule : Type 0
  PopKeepsRule = (x : X) (items : List X) (members : List (RoundMember I)) (member : ℕ) (m : RoundMember I)
      → StandsAt (x ∷ items) members member m → MayBePushed x (about_of m.claim) × MembersRule items (slice_set members member (popped m))

  -- a pop that finds none, whatever count of them the member has then
  abbrev pub EmptyPopKeepsRule : Type 0
  EmptyPopKeepsRule = (members : List (RoundMember I)) (member : ℕ) (m : RoundMember I) (count : ℕ)
      → StandsAt [] members member m → MembersRule [] (slice_set members member (found_none count m))

  -- a push by a member that holds the cell
  abbrev pub PushKeepsRule : Type 0
  PushKeepsRule = (items : List X) (members : List (RoundMember I)) (member : ℕ) (m : RoundMember I) (x : X)
      → StandsAt items members member m → m.claim.holds ≡ true → m.claim.opening ≡ false → MayBePushed x (about_of m.claim)
      → MembersRule (items ++ x ∷ []) (slice_set members member (pushed m))

  -- a member that is split off another
  abbrev pub NewMemberKeepsRule : Type 0
  NewMemberKeepsRule = (items : List X) (members : List (RoundMember I)) (member : ℕ) (m : RoundMember I)
      → StandsAt items members member m → m.claim.opening ≡ false → MembersRule items (slice_set members member (split_member m) ++ new_member m ∷ [])

  -- a member that holds the cell finds the queue empty, so a push of its own cannot find it full
  abbrev pub HolderFindsNone : Type 0
  HolderFindsNone = (items : List X) (members : List (RoundMember I)) (member : ℕ) (m : RoundMember I)
      → StandsAt items members member m → m.claim.holds ≡ true → items ≡ []

  -- no two members hold the cell
  abbrev pub OneHolds : Type 0
  OneHolds = (items : List X) (members : List (RoundMember I)) (member other : ℕ) (m o : RoundMember I)
      → StandsAt items members member m → m.claim.holds ≡ true → get_elem? members other ≡ some o → o.claim.holds ≡ true → other ≡ member
