-- A pair while a worker serves it.
use Rattle.std.specs.Prelude.{◌≡◌, ℕ, zero, suc, ◌<◌, ◌≤◌, max, Bool, List, Result, Ok, Err}
use Rattle.std.proofs.Common.{arith}
use Rattle.aio_base.specs.ClockBounds.{ClockBounds}
use Rattle.aio_base.specs.declared.outcomes.CountFault.{CountFault}
use Rattle.aio_base.specs.declared.outcomes.Poll.{Poll}
use Rattle.aio_base.specs.declared.outcomes.Poll.TheVariants.{Ready, Pending}
use Rattle.aio_base.specs.declared.tasks.Cx.{Cx}
use Rattle.aio_pairs.specs.Fits.{to_give}
use Rattle.aio_pairs.specs.declared.outcomes.PairEnd.{PairEnd}
use Rattle.aio_pairs.specs.declared.outcomes.PairEnd.TheVariants as pair
use Rattle.aio_relay.specs.Pairs.{PairState, fits-longer, fresh_pair, may_come_to}
use Rattle.aio_places.specs.Places.{PlaceValue}
use Rattle.aio_places.specs.SourceEnds.{SourceEndValue, is_sure_end, told_by}
use Rattle.aio_serve.specs.Places.{latest_of}
use Rattle.aio_serve.specs.declared.served.Stage.{Stage}
use Rattle.aio_serve.specs.declared.served.Stage.TheVariants.{Open, Refused, Over}

-- The two connections are served; or the pair has only its fault to tell; or it told its end.
abbrev pub StageValue : Type 0
StageValue = Stage (PairState SourceEndValue)

-- how far a pair is, how often its slot was polled, and the bounds of its clock
pub record ServedValue : Type 0 where
  pub stage : StageValue
  pub polls : ℕ
  pub bounds : ClockBounds

-- what stands in the slot of a place before its first poll
abbrev pub first_stage : (idle start : ℕ) → PlaceValue → StageValue
first_stage idle start (Ok ends) = Open (fresh_pair ends.0 ends.1 idle start)
first_stage idle start (Err fault) = Refused fault

-- what it may come to at a moment
abbrev pub stage_gives : StageValue → (notifier_sure : Bool) → (moment : ℕ) → PairEnd → Type 0
stage_gives (Open p) notifier_sure moment end =
    may_come_to (λ (e : SourceEndValue). told_by e.rest) (λ (e : SourceEndValue). is_sure_end e.rest e.told) p notifier_sure moment end
stage_gives (Refused fault) notifier_sure moment end = end ≡ pair.ArmFault fault
stage_gives Over notifier_sure moment end = ⊥

pub stage_gives_later : (stage : StageValue) (notifier_sure : Bool) (early late : ℕ) (end : PairEnd) → early ≤ late
    → stage_gives stage notifier_sure early end → stage_gives stage notifier_sure late end
stage_gives_later (Open p) notifier_sure early late end order gives = fits-longer
    (to_give p.from_a (told_by p.a.rest) (is_sure_end p.a.rest p.a.told)) (to_give p.from_b (told_by p.b.rest) (is_sure_end p.b.rest p.b.told))
    p.last p.idle notifier_sure early late end order gives
stage_gives_later (Refused fault) notifier_sure early late end order gives = gives
stage_gives_later Over notifier_sure early late end order gives = gives

-- no poll of a turn of this moment has a later moment than that
abbrev pub latest_at : ClockBounds → (moment : ℕ) → ℕ
latest_at bounds moment = max moment (latest_of bounds.greatest)

-- what a pair in its slot may come to in a turn of this moment: its polls may have later moments, of its own clock
abbrev pub served_gives : ServedValue → (notifier_sure : Bool) → (moment : ℕ) → PairEnd → Type 0
served_gives served notifier_sure moment end = stage_gives served.stage notifier_sure (latest_at served.bounds moment) end

later_latest : (latest early late : ℕ) → early ≤ late → max early latest ≤ max late latest
later_latest latest early late order = omega (arith, order)

pub served_gives_later : (served : ServedValue) (notifier_sure : Bool) (early late : ℕ) (end : PairEnd) → early ≤ late
    → served_gives served notifier_sure early end → served_gives served notifier_sure late end
served_gives_later served notifier_sure early late end order = stage_gives_later served.stage notifier_sure
    (latest_at served.bounds early) (latest_at served.bounds late) end (later_latest (latest_of served.bounds.greatest) early late order)

-- Both ends of a pair were closed: for each, one `remove` of its key was made on a connection with its rest, and had some answer.
pub record ClosesBoth (removes : (key : ℕ) → (rest : List ℕ) → Result (Unit {0}) CountFault → Type 0) (p : PairState SourceEndValue) : Type 0 where
  pub answer_a : Result (Unit {0}) CountFault
  pub answer_b : Result (Unit {0}) CountFault
  pub a : removes p.a.key p.a.rest answer_a
  pub b : removes p.b.key p.b.rest answer_b

-- so many polls of a pair one after the other, each of them Pending and at a moment of its own, none before that of the turn
abbrev pub PollsPending : {H : Type 0} → (PairState SourceEndValue → H → Cx → Poll PairEnd → PairState SourceEndValue → H → Type 0)
    → ℕ → PairState SourceEndValue → H → Cx → PairState SourceEndValue → H → Type 0
PollsPending polls_pair zero p host cx after left = (after ≡ p) × (left ≡ host)
PollsPending {H} polls_pair (suc n) p host cx after left =
    (mid : PairState SourceEndValue) × (between : H) × (now : ℕ) × PollsPending polls_pair n p host cx mid between × (cx.now ≤ now)
    × polls_pair mid between (record cx { now = now }) Pending after left

-- A pair was polled once or more in a row, 128 times at most: each poll but the last was Pending, and the answer is that of the last.
pub record PollsInARow {H : Type 0} (polls_pair : PairState SourceEndValue → H → Cx → Poll PairEnd → PairState SourceEndValue → H → Type 0)
    (p : PairState SourceEndValue) (host : H) (cx : Cx) (answer : Poll PairEnd) (after : PairState SourceEndValue) (left : H) : Type 0 where
  pub before : ℕ
  pub most : before < 128
  pub mid : PairState SourceEndValue
  pub between : H
  pub now : ℕ
  pub order : cx.now ≤ now
  pub pending : PollsPending polls_pair before p host cx mid between
  pub last : polls_pair mid between (record cx { now = now }) answer after left

-- A poll of what stands in a slot. An open pair is polled in a row; it stays open where the last poll is Pending, and both its ends are closed as that poll
-- left them where it is not. A fault is told at once.
module _ {H : Type 0} (polls_pair : PairState SourceEndValue → H → Cx → Poll PairEnd → PairState SourceEndValue → H → Type 0)
    (removes : (key : ℕ) → (rest : List ℕ) → Result (Unit {0}) CountFault → Type 0) where
  abbrev pub PollsOpen : PairState SourceEndValue → H → Cx → Poll PairEnd → StageValue → H → Type 0
  PollsOpen p host cx Pending stage left = (after : PairState SourceEndValue) × PollsInARow polls_pair p host cx Pending after left × (stage ≡ Open after)
  PollsOpen p host cx (Ready end) stage left =
      (after : PairState SourceEndValue) × PollsInARow polls_pair p host cx (Ready end) after left × ClosesBoth removes after × (stage ≡ Over)

  abbrev pub PollsStage : StageValue → H → Cx → Poll PairEnd → StageValue → H → Type 0
  PollsStage (Open p) host cx answer stage left = PollsOpen p host cx answer stage left
  PollsStage (Refused fault) host cx answer stage left = (answer ≡ Ready (pair.ArmFault fault)) × (stage ≡ Over) × (left ≡ host)
  PollsStage Over host cx answer stage left = (answer ≡ Pending) × (stage ≡ Over) × (left ≡ host)

  abbrev pub PollsServed : ServedValue → H → Cx → Poll PairEnd → ServedValue → H → Type 0
  PollsServed old host cx answer new left = PollsStage old.stage host cx answer new.stage left
