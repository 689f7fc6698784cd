-- A pair that is polled in a row.
use Rattle.std.proofs.Common.{ℕ, suc, ◌+◌, ◌-◌, ◌≤◌, Bool, refl, sym, subst, le_refl, le_trans, arith}
use Rattle.aio_base.specs.declared.outcomes.Poll.{Poll}
use Rattle.aio_base.specs.declared.outcomes.Poll.TheVariants.{Pending}
use Rattle.aio_base.specs.declared.tasks.Cx.{Cx}
use Rattle.aio_pairs.specs.declared.outcomes.PairEnd.{PairEnd}
use Rattle.aio_relay.specs.Pairs.{PairState}
use Rattle.aio_places.specs.SourceEnds.{SourceEndValue}
use Rattle.aio_shared.specs.Inside.{InsideValue, IsLaterInside}
use Rattle.aio_shared.specs.Later.{later_itself, later_further}
use Rattle.aio_serve.specs.Served.{PollsInARow, PollsPending, stage_gives, stage_gives_later}
use Rattle.aio_serve.specs.declared.served.Stage.TheVariants.{Open}

module _ {N : Type 0} (polls_pair : PairState SourceEndValue → InsideValue N → Cx → Poll PairEnd → PairState SourceEndValue → InsideValue N → Type 0)
    (faults : N → ℕ) (is_sure : N → Bool) where
  -- what the pair may come to after these polls, it might come to before them
  abbrev AllowedBefore : (sure : Bool) (now : ℕ) (before after : PairState SourceEndValue) → Type 0
  AllowedBefore sure now before after =
      (moment : ℕ) (end : PairEnd) → now ≤ moment → stage_gives (Open after) sure moment end → stage_gives (Open before) sure moment end

  -- The polls so far were all Pending, at moments up to the latest one, and so many are left, one at least.
  pub record SoFar (latest : ℕ) (p : PairState SourceEndValue) (host : InsideValue N) (cx : Cx) (after : PairState SourceEndValue) (left : InsideValue N) (polls_left : ℕ) : Type 0 where
    pub before : ℕ
    pub count : before + polls_left ≤ 128
    pub some : 1 ≤ polls_left
    pub pending : PollsPending polls_pair before p host cx after left
    pub allowed : AllowedBefore (is_sure host.member.notifier) latest p after
    pub later : IsLaterInside faults is_sure host left

  pub starts : (latest : ℕ) (p : PairState SourceEndValue) (host : InsideValue N) (cx : Cx) (polls : ℕ) → 1 ≤ polls → polls ≤ 128
      → SoFar latest p host cx p host polls
  starts latest p host cx polls some few = record {
    before = 0;
    count = omega (arith, few);
    some = some;
    pending = (refl, refl);
    allowed = λ moment end past gives. gives;
    later = later_itself faults is_sure host;
  }

  module _ (latest : ℕ) (p : PairState SourceEndValue) (host : InsideValue N) (cx : Cx) (mid : PairState SourceEndValue) (between : InsideValue N) (polls_left : ℕ)
      (s : SoFar latest p host cx mid between polls_left) (now : ℕ) (order : cx.now ≤ now) (bound : now ≤ latest) where
    -- the next poll is the last
    pub row : (answer : Poll PairEnd) (after : PairState SourceEndValue) (left : InsideValue N) → polls_pair mid between (record cx { now = now }) answer after left
        → PollsInARow polls_pair p host cx answer after left
    row answer after left last = record {
      before = s.before;
      most = omega (arith, s.count, s.some);
      mid = mid;
      between = between;
      now = now;
      order = order;
      pending = s.pending;
      last = last;
    }

    pub may_end : (end : PairEnd) → stage_gives (Open mid) (is_sure between.member.notifier) now end → stage_gives (Open p) (is_sure host.member.notifier) latest end
    may_end end gives =
        s.allowed latest end (le_refl latest)
        (subst (λ (sure : Bool). stage_gives (Open mid) sure latest end) s.later.member.sure
        (stage_gives_later (Open mid) (is_sure between.member.notifier) now latest end bound gives))

    pub still_allowed : (after : PairState SourceEndValue) → AllowedBefore (is_sure between.member.notifier) now mid after
        → AllowedBefore (is_sure host.member.notifier) latest p after
    still_allowed after allows moment end past gives =
        let mine : stage_gives (Open after) (is_sure between.member.notifier) moment end =
        subst (λ (sure : Bool). stage_gives (Open after) sure moment end) (sym s.later.member.sure) gives in
        s.allowed moment end past
        (subst (λ (sure : Bool). stage_gives (Open mid) sure moment end) s.later.member.sure (allows moment end (le_trans bound past) mine))

    pub later_still : (left : InsideValue N) → IsLaterInside faults is_sure between left → IsLaterInside faults is_sure host left
    later_still left more = later_further faults is_sure host between left s.later more

    -- the next poll is Pending, and not the last
    pub one_more : (after : PairState SourceEndValue) (left : InsideValue N) → polls_pair mid between (record cx { now = now }) Pending after left
        → AllowedBefore (is_sure between.member.notifier) now mid after → IsLaterInside faults is_sure between left → 1 ≤ polls_left - 1
        → SoFar latest p host cx after left (polls_left - 1)
    one_more after left polled allows later more = record {
      before = suc s.before;
      count = omega (arith, s.count, s.some);
      some = more;
      pending = (mid, between, now, s.pending, order, polled);
      allowed = still_allowed after allows;
      later = later_still left later;
    }
