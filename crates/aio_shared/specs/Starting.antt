-- What a new reactor is, and what becomes of the connections with which it starts.
use Rattle.std.specs.Prelude.{◌≡◌, ℕ, Bool}
use Rattle.atomic_table.specs.Seated.{TableId}
use Rattle.aio_rules.specs.RoundLock.{About}
use Rattle.aio_rules.specs.SharedWords.{first_view, split_view, after_split}
use Rattle.aio_ops.specs.Passes.{PassView, new_pass}
use Rattle.aio_words.specs.Seats.{WordsValue, SeatValue}
use Rattle.aio_shared.specs.Members.{SharedValue, MemberValue, IsMemberOf}
use Rattle.aio_shared.specs.OneCell.{first_claim}

-- ## A new reactor

-- What a reactor is made of: new words for so many parkers with the seat of the rounds and a first one, and the first seat at a queue of operations.
pub record AreParts (parkers : ℕ) (words : WordsValue) (seat pass : SeatValue) (queue : TableId) (ops : PassView) : Type 0 where
  pub parkers_are : words.parkers ≡ parkers
  pub seat_is : seat ≡ record { words = words.identity; view = after_split first_view }
  pub pass_is : pass ≡ record { words = words.identity; view = split_view first_view }
  pub ops_are : ops ≡ new_pass queue 0 1

-- what the cell of a reactor with these words says
abbrev pub new_about : TableId → Bool → Bool → About TableId
new_about words sure_of_wait sure_of_arms = record { words = words; sure_of_wait = sure_of_wait; sure_of_arms = sure_of_arms }

-- a reactor for so many parkers, over connections that are sure or not
pub record IsNewReactor (parkers : ℕ) (sure_of_arms : Bool) (shared : SharedValue) : Type 0 where
  pub parkers_are : shared.words.parkers ≡ parkers
  pub arms : shared.sure_of_arms ≡ sure_of_arms

-- The first member of a new reactor, over a wait that is sure or not: its seat has done nothing, its seat at the queue is the first, and it has this notifier and
-- has drawn no id.
pub record IsFirstMember {N : Type 0} (shared : SharedValue) (sure_of_wait : Bool) (notifier : N) (m : MemberValue N) : Type 0 where
  pub member : IsMemberOf shared m
  pub claim : m.claim ≡ first_claim shared.lock (new_about shared.words.identity sure_of_wait shared.sure_of_arms)
  pub pass : m.pass.view ≡ split_view first_view
  pub ops : m.ops ≡ new_pass shared.ops 0 1
  pub notifier_is : m.notifier ≡ notifier
  pub ids : m.ids ≡ 0
