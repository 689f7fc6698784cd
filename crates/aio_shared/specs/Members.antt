-- What contracts see of a reactor that threads share and of its members, and what a member's calls keep.
use Rattle.std.specs.Prelude.{◌≡◌, ℕ, ◌+◌, ◌≤◌, Bool, List, ◌++◌}
use Rattle.atomic_table.specs.Seated.{TableId}
use Rattle.aio_rules.specs.SharedWords.{split_view, after_split}
use Rattle.aio_words.specs.Seats.{WordsValue, SeatValue, Belongs}
use Rattle.aio_ops.specs.Passes.{PassView, new_pass}
use Rattle.aio_shared.specs.OneCell.{ClaimValue, makes_claim, new_claim, with_empties}

-- a reactor: its lock, its words, which queue of operations on timers it has, and whether it is sure of its arms: whether the type of its
-- connections tells that all of them are
pub record SharedValue : Type 0 where
  pub lock : TableId
  pub words : WordsValue
  pub ops : TableId
  pub sure_of_arms : Bool

-- A member: what it is at the reactor lock, its seat at the words, its seat at the queue of operations, its notifier, and how many ids it has drawn.
pub record MemberValue (N : Type 0) : Type 0 where
  pub claim : ClaimValue
  pub pass : SeatValue
  pub ops : PassView
  pub notifier : N
  pub ids : ℕ

-- The member belongs to this reactor.
pub record IsMemberOf {N : Type 0} (shared : SharedValue) (m : MemberValue N) : Type 0 where
  pub lock : m.claim.lock ≡ shared.lock
  pub words : Belongs shared.words m.pass
  pub ops : m.ops.queue ≡ shared.ops
  -- the cell of its lock has its seat at the same words, and tells no fault of an arm where the reactor is sure of them
  pub cell : m.claim.words ≡ shared.words.identity
  pub arms : m.claim.sure_of_arms ≡ shared.sure_of_arms

-- A new member of a reactor, made by its first member: its seat has seen what that member's had seen, its seat at the queue has the next number, and it has done
-- nothing yet.
pub record IsNewMember {N : Type 0} (shared : SharedValue) (first m : MemberValue N) : Type 0 where
  pub member : IsMemberOf shared m
  pub claim : m.claim ≡ new_claim first.claim
  pub pass : m.pass.view ≡ split_view first.pass.view
  pub ops : m.ops ≡ new_pass shared.ops first.ops.splits 0
  pub ids : m.ids ≡ 0

-- the first member, once it has made one more: its claim, and its seats count it
abbrev pub with_one_more_made : {N : Type 0} → MemberValue N → MemberValue N
with_one_more_made first = record first {
  claim = makes_claim first.claim;
  pass = record first.pass { view = after_split first.pass.view };
  ops = record first.ops { splits = first.ops.splits + 1 };
}

-- the first state of a member with the seats and the notifier of the second one, and all else as before
abbrev pub moved_on : {N : Type 0} → MemberValue N → MemberValue N → MemberValue N
moved_on m later = record m { pass = later.pass; ops = later.ops; notifier = later.notifier }

-- the second list begins with the first one
abbrev pub Extends : {X : Type 0} → List X → List X → Type 0
Extends {X} old new = (more : List X) × (new ≡ old ++ more)

-- The second state of a member is later than the first, or is the first: it belongs to the same reactor and has the same seat at the queue, what it did, pushed
-- and popped still stands at the front, and no count has fallen.
pub record IsLaterMember {N : Type 0} (faults : N → ℕ) (is_sure : N → Bool) (old new : MemberValue N) : Type 0 where
  pub claim : new.claim ≡ with_empties new.claim.empties old.claim
  pub words : new.pass.words ≡ old.pass.words
  pub queue : new.ops.queue ≡ old.ops.queue
  pub number : new.ops.number ≡ old.ops.number
  pub sure : is_sure new.notifier ≡ is_sure old.notifier
  pub did : Extends old.pass.view.did new.pass.view.did
  pub own : Extends old.ops.own new.ops.own
  pub pulled : Extends old.ops.pulled new.ops.pulled
  pub fulls : old.ops.fulls ≤ new.ops.fulls
  pub empties : old.ops.empties ≤ new.ops.empties
  pub ids : old.ids ≤ new.ids
  pub notifier : faults old.notifier ≤ faults new.notifier
