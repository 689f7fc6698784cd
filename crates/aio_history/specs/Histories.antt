-- What the calls on a source so far say of the next one. A past is a list of steps, the latest one first; nothing of it is counted or remembered.
use Rattle.std.specs.Prelude.{◌≡◌, ℕ, Bool, true, false, not, ◌&&◌, nat_lt, if◌then◌else◌, List, [], ◌∷◌, ◌++◌, count_by, Option, None, Some, is_some, ⊤}
use Rattle.std.specs.List.{list_any, list_all}
use Rattle.aio_base.specs.declared.names.Dir.{Dir}
use Rattle.aio_base.specs.declared.names.Waker.{Waker}
use Rattle.aio_base.specs.declared.names.Interest.{Interest}
use Rattle.aio_base.specs.declared.outcomes.Poll.{Poll}
use Rattle.aio_base.specs.declared.outcomes.Poll.TheVariants.{Ready, Pending}
use Rattle.aio_base.specs.World.{directions, same_dir, has_dir}
use Rattle.aio_base.specs.Machine.{is_waker}
use Rattle.aio_history.specs.declared.steps.CellCall.{CellCall}
use Rattle.aio_history.specs.declared.steps.CellCall.TheVariants as call
use Rattle.aio_history.specs.declared.steps.CellStep.{CellStep}
use Rattle.aio_history.specs.declared.steps.CellStep.TheVariants as step

-- ## What a past leaves

-- The waiter of a direction: the waker of its last poll that was pending, unless an event of the direction was handled since.
abbrev pub waiter_of : List CellStep → Dir → Option Waker
waiter_of [] dir = None
waiter_of (step.Poll d waker ticker (Ready done) ∷ past) dir = waiter_of past dir
waiter_of (step.Poll d waker ticker Pending ∷ past) dir = if same_dir d dir then Some waker else waiter_of past dir
waiter_of (step.Handle on round taken ∷ past) dir = if has_dir on dir then None else waiter_of past dir

-- the rounds that handled an event of a direction, the latest first
abbrev pub rounds_of : List CellStep → Dir → List ℕ
rounds_of [] dir = []
rounds_of (step.Poll d waker ticker answer ∷ past) dir = rounds_of past dir
rounds_of (step.Handle on round taken ∷ past) dir = if has_dir on dir then round ∷ rounds_of past dir else rounds_of past dir

-- A poll that a past has: the steps since it, the latest first, its ticker, and the steps before it. So its index is how many are before it.
pub record StoringPoll : Type 0 where
  pub since : List CellStep
  pub ticker : ℕ
  pub before : List CellStep

-- the poll that comes right after a past
abbrev pub stored_here : ℕ → List CellStep → StoringPoll
stored_here ticker past = record { since = []; ticker = ticker; before = past }

-- the same poll, once one step more was made
abbrev pub one_later : CellStep → Option StoringPoll → Option StoringPoll
one_later s None = None
one_later s (Some mark) = Some (record mark { since = s ∷ mark.since })

-- The storing poll of a direction: its last poll that stored a waker, and none where a poll of the direction was ready since. A pending poll stores its waker
-- where the direction has another waiter or none.
abbrev pub storing_poll : List CellStep → Dir → Option StoringPoll
storing_poll [] dir = None
storing_poll (step.Poll d waker ticker (Ready done) ∷ past) dir =
    if same_dir d dir then None else one_later (step.Poll d waker ticker (Ready done)) (storing_poll past dir)
storing_poll (step.Poll d waker ticker Pending ∷ past) dir =
    if same_dir d dir && not (is_waker waker (waiter_of past dir)) then Some (stored_here ticker past)
    else one_later (step.Poll d waker ticker Pending) (storing_poll past dir)
storing_poll (step.Handle on round taken ∷ past) dir = one_later (step.Handle on round taken) (storing_poll past dir)

-- it is a place of the past: there stands a pending poll of the direction with this ticker
abbrev pub IsPlace : List CellStep → Dir → StoringPoll → Type 0
IsPlace past dir mark = (waker : Waker) × (past ≡ mark.since ++ step.Poll dir waker mark.ticker Pending ∷ mark.before)

-- ## What the next call answers

-- a round is above a ticker, and above each of these rounds
abbrev pub is_news : ℕ → List ℕ → ℕ → Bool
is_news ticker earlier round = nat_lt ticker round && list_all (λ e. nat_lt e round) earlier

-- since that poll some event of the direction was handled by a round above its ticker and above every round that had handled one before it
abbrev pub has_news_since : Dir → StoringPoll → Bool
has_news_since dir mark = list_any (is_news mark.ticker (rounds_of mark.before dir)) (rounds_of mark.since dir)

abbrev pub is_ready_by : Dir → Option StoringPoll → Bool
is_ready_by dir None = false
is_ready_by dir (Some mark) = has_news_since dir mark

-- whether a poll of the direction is ready now
abbrev pub is_ready_after : List CellStep → Dir → Bool
is_ready_after past dir = is_ready_by dir (storing_poll past dir)

abbrev pub answer_to_poll : List CellStep → Dir → Poll (Unit {0})
answer_to_poll past dir = if is_ready_after past dir then Ready tt else Pending

-- how many of the named directions have a waiter
abbrev pub waiters_among : Interest → List CellStep → ℕ
waiters_among on past = count_by (λ dir. has_dir on dir && is_some (waiter_of past dir)) directions

-- a call with the answer that the steps before it say
abbrev pub step_of : CellCall → List CellStep → CellStep
step_of (call.Poll dir waker ticker) past = step.Poll dir waker ticker (answer_to_poll past dir)
step_of (call.Handle on round) past = step.Handle on round (waiters_among on past)

abbrev pub call_of : CellStep → CellCall
call_of (step.Poll dir waker ticker answer) = call.Poll dir waker ticker
call_of (step.Handle on round taken) = call.Handle on round

-- each answer of a past is the one that the steps before it say
abbrev pub Replays : List CellStep → Type 0
Replays [] = ⊤
Replays (s ∷ past) = (s ≡ step_of (call_of s) past) × Replays past
