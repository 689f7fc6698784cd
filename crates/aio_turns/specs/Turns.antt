-- A deque of places. What each pass knows, what each kind of step changes, and the rule that holds between any two steps.
use Rattle.std.specs.Prelude.{◌≡◌, ℕ, ◌+◌, ◌<◌, ◌≤◌, Bool, List, [], ◌∷◌, ◌++◌, length}
use Rattle.std.specs.List.{count_by, AllByRecursion as Every}
use mathlib.Core.Option.{some}
use lib.ListN.{get_elem?}
use Rattle.aio_rules.specs.Operations.{EachAt}
use Rattle.aio_turns.specs.declared.entries.TurnEntry.{TurnEntry}
use Rattle.aio_turns.specs.declared.entries.TurnHand.{TurnHand}

-- ## What passes know

abbrev pub hand_of : List TurnEntry → List TurnEntry → ℕ → TurnHand
hand_of pushed pulled thieves = record { pushed = pushed; pulled = pulled; thieves = thieves }

-- a thief's, which pushes nothing and makes no thief
abbrev pub thief_hand : List TurnEntry → TurnHand
thief_hand pulled = hand_of [] pulled 0

-- before its first call
abbrev pub new_hand : TurnHand
new_hand = thief_hand []

abbrev pub with_pushes : List TurnEntry → TurnHand → TurnHand
with_pushes entries h = hand_of (h.pushed ++ entries) h.pulled h.thieves

abbrev pub with_pulls : List TurnEntry → TurnHand → TurnHand
with_pulls entries h = hand_of h.pushed (h.pulled ++ entries) h.thieves

abbrev pub with_thief : TurnHand → TurnHand
with_thief h = hand_of h.pushed h.pulled (h.thieves + 1)

-- ## The rule

-- numbered from k on without a gap
abbrev pub Counts : ℕ → List TurnEntry → Type 0
Counts k [] = Unit {0}
Counts k (e ∷ entries) = (e.number ≡ k) × Counts (k + 1) entries

-- a later one has a greater number
abbrev pub Rises : List TurnEntry → Type 0
Rises [] = Unit {0}
Rises (e ∷ entries) = Every (λ (later : TurnEntry). e.number < later.number) entries × Rises entries

-- how many of all entries that were pulled pass a test
abbrev pub count_pulled : (TurnEntry → Bool) → List TurnHand → ℕ
count_pulled test [] = 0
count_pulled test (h ∷ hands) = count_by test h.pulled + count_pulled test hands

-- The rule over the entries in the deque, the oldest first, and the hands of all passes: the owner's is the first. A pass that was let go has its hand there
-- still.
pub record TurnsRule (items : List TurnEntry) (hands : List TurnHand) : Type 0 where
  pub pushed : List TurnEntry
  pub own : (h : TurnHand) → get_elem? hands 0 ≡ some h → h.pushed ≡ pushed
  -- each other pass is a thief that the owner made and counted
  pub made : (h : TurnHand) → get_elem? hands 0 ≡ some h → length hands ≡ h.thieves + 1
  pub counted : Counts 1 pushed
  -- the last ones of what was pushed are in the deque, in order
  pub gone : List TurnEntry
  pub suffix : pushed ≡ gone ++ items
  -- each of the others was pulled once, by one pass, and nothing else was
  pub once : (test : TurnEntry → Bool) → count_pulled test hands ≡ count_by test gone
  pub before : EachAt hands (λ h. Every (λ (e : TurnEntry). e.number ≤ length gone) h.pulled)
  pub rising : EachAt hands (λ h. Rises h.pulled)

-- ## What a call met

-- At one moment the deque held these entries, and this is what a pass knew.
abbrev pub Met : List TurnEntry → TurnHand → Type 0
Met items h = (hands : List TurnHand) × (pass : ℕ) × TurnsRule items hands × (get_elem? hands pass ≡ some h)

-- the same of the owner
abbrev pub OwnerMet : List TurnEntry → TurnHand → Type 0
OwnerMet items h = (hands : List TurnHand) × TurnsRule items hands × (get_elem? hands 0 ≡ some h)

-- At one moment the deque began with these entries.
abbrev pub MetFirst : List TurnEntry → TurnHand → Type 0
MetFirst front h = (rest : List TurnEntry) × Met (front ++ rest) h

abbrev pub OwnerMetFirst : List TurnEntry → TurnHand → Type 0
OwnerMetFirst front h = (rest : List TurnEntry) × OwnerMet (front ++ rest) h
