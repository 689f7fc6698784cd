-- Turns of a thread, one after the other, and that those of a call of the clock are also ones of a call that begins no later and ends no earlier.
use Rattle.std.proofs.Common.{◌≡◌, ◌≤◌, ℕ, zero, suc, Bool, refl, subst, le_trans, le_refl, Option, None, Some, Result, Ok, Err}
use Rattle.aio_base.specs.ClockBounds.{ClockBounds}
use Rattle.aio_shared.specs.declared.reacting.ReactedIn.{ReactedIn}
use Rattle.aio_shared.specs.declared.reacting.ReactFault.{ReactFault}
use Rattle.aio_shared.specs.Cells.{CellValue, WaitTells}
use Rattle.aio_shared.specs.Members.{MemberValue, SharedValue}
use Rattle.aio_shared.specs.OneCell.{ClaimValue}
use Rattle.aio_shared.specs.Reacting.{Start, until, start_of}
use Rattle.aio_park.specs.Driving.{Holds, Passes, ReactsAtOnce, ReactsBlocked, SwapsFirst, TakesTurns, TriesRound, TriesUntil, TriesWithoutLimit, TurnsInVain, TurnsOver, Waits}
use Rattle.aio_park.specs.Driving.Passes.{FindsNoCell, TriesOneRound}
use Rattle.aio_park.specs.Driving.Waits.{WaitsInRounds, WaitsParked}
use Rattle.aio_park.proofs.Holding.{held, try_of}

-- what a member did with the cell that it held, said so
held_as : {N W : Type 0} (Taken : ClaimValue → ClaimValue → CellValue W → Type 0) (Did Also : CellValue W → CellValue W → MemberValue N → MemberValue N → Type 0) (m later : MemberValue N)
    → ((taken left : CellValue W) (holding done : MemberValue N) → Did taken left holding done → Also taken left holding done) → Holds Taken Did m later → Holds Taken Also m later
held_as Taken Did Also m later also x = held Taken Also x.taken x.left m x.holding x.done later x.takes x.rest (also x.taken x.left x.holding x.done x.did) x.gave

module _ {N W : Type 0} (faults : N → ℕ) (parkers : ℕ) (all_sure : Bool) (start : Start W) (bounds : ClockBounds) (earliest latest : ℕ)
    (same : bounds ≡ start.bounds) (before : start.earliest ≤ earliest) (on : latest ≤ start.latest) where
  -- what a call is handed that has this clock
  abbrev within : Start W
  within = record start { bounds = bounds; earliest = earliest; latest = latest }

  try_wider : (given : Option ℕ) (old new : CellValue W) (m later : MemberValue N) (r : Result (Option ReactedIn) ReactFault)
      → TriesRound faults parkers all_sure within given old new m later r → TriesRound faults parkers all_sure start given old new m later r
  try_wider given old new m later r x =
      try_of faults parkers all_sure start given bounds x.moment x.stop old new m later r same (le_trans before x.not_before) (le_trans x.not_after on) x.tries

  tries_wider : (parker tries : ℕ) (old new : CellValue W) (m later : MemberValue N)
      → TriesWithoutLimit faults parkers all_sure within parker tries old new m later → TriesWithoutLimit faults parkers all_sure start parker tries old new m later
  tries_wider parker zero old new m later x = x
  tries_wider parker (suc tries) old new m later (last, by, reacted, front, tried) =
      (last, by, reacted, tries_wider parker tries old last m by front, try_wider None _ new by later (Ok reacted) tried)

  all_wider : {X : Type 0} (parker : ℕ) (r : Result X ReactFault) (old new : CellValue W) (m later : MemberValue N)
      → TriesUntil faults parkers all_sure within parker r old new m later → TriesUntil faults parkers all_sure start parker r old new m later
  all_wider parker (Ok done) old new m later (tries, found, last, made, woken, look) = (tries, found, last, tries_wider parker tries old last m later made, woken, look)
  all_wider parker (Err fault) old new m later (tries, last, by, front, tried) =
      (tries, last, by, tries_wider parker tries old last m by front, try_wider None _ new by later (Err fault) tried)

  at_once_wider : (m later : MemberValue N) (r : Result (Option ReactedIn) ReactFault)
      → ReactsAtOnce W faults parkers all_sure within m later r → ReactsAtOnce W faults parkers all_sure start m later r
  at_once_wider m later r x = held_as _ _ _ m later (λ taken left holding done. try_wider (Some 0) taken left holding done r) x

  blocked_wider : (parker : ℕ) (m later : MemberValue N) (r : Result (Unit {0}) ReactFault)
      → ReactsBlocked W faults parkers all_sure within parker m later r → ReactsBlocked W faults parkers all_sure start parker m later r
  blocked_wider parker m later r x = held_as _ _ _ m later (λ taken left holding done x. (x.0, record { left = x.1.left; tries = all_wider parker r _ x.1.left holding done x.1.tries; unblocks = x.1.unblocks })) x

  passes_wider : (m later : MemberValue N) → Passes W faults parkers all_sure within m later → Passes W faults parkers all_sure start m later
  passes_wider m later (FindsNoCell none kept) = FindsNoCell none kept
  passes_wider m later (TriesOneRound reacted x) = TriesOneRound reacted (at_once_wider m later (Ok reacted) x)

  waits_wider : (parker mask : ℕ) (m later : MemberValue N) → Waits W faults parkers all_sure within parker mask m later → Waits W faults parkers all_sure start parker mask m later
  waits_wider parker mask m later (WaitsParked none finds kept parks) = WaitsParked none finds kept parks
  waits_wider parker mask m later (WaitsInRounds gave x swapped) = WaitsInRounds gave (blocked_wider parker m gave (Ok tt) x) swapped

  pub turn_wider : (parker : ℕ) (m later : MemberValue N) (r : Result ℕ ReactFault)
      → SwapsFirst W faults parkers all_sure within parker m later r → SwapsFirst W faults parkers all_sure start parker m later r
  turn_wider parker m later (Ok mask) x = record {
    found = x.found;
    did = x.did;
    passes = λ some. ((x.passes some).0, passes_wider _ later (x.passes some).1);
    waits = λ none. waits_wider parker mask _ later (x.waits none);
    fails_passing = λ some. tt;
    fails_waiting = λ none. tt;
  }
  turn_wider parker m later (Err fault) x = record {
    found = x.found;
    did = x.did;
    passes = λ some. tt;
    waits = λ none. tt;
    fails_passing = λ some. at_once_wider _ later (Err fault) (x.fails_passing some);
    fails_waiting = λ none. blocked_wider parker _ later (Err fault) (x.fails_waiting none);
  }

  pub vain_wider : (parker turns : ℕ) (m later : MemberValue N)
      → TurnsInVain W faults parkers all_sure within parker turns m later → TurnsInVain W faults parkers all_sure start parker turns m later
  vain_wider parker zero m later x = x
  vain_wider parker (suc turns) m later (by, front, turn) = (by, vain_wider parker turns m by front, turn_wider parker by later (Ok 0) turn)

  pub turns_wider : (parker : ℕ) (m later : MemberValue N) (r : Result ℕ ReactFault)
      → TakesTurns W faults parkers all_sure within parker m later r → TakesTurns W faults parkers all_sure start parker m later r
  turns_wider parker m later r x =
      record { turns = x.turns; by = x.by; in_vain = vain_wider parker x.turns m x.by x.in_vain; last = turn_wider parker x.by later r x.last }

module _ {N W : Type 0} (faults : N → ℕ) (step : WaitTells W) where
  -- turns of a clock that is looked at until a moment are also ones where it is looked at until a later one
  pub turns_until : (shared : SharedValue) (parker : ℕ) (bounds : ClockBounds) (first last stop : ℕ) (m later : MemberValue N) (r : Result ℕ ReactFault) → last ≤ stop
      → TurnsOver W faults step shared parker (record { bounds = bounds; before = first; after = last }) m later r
      → TurnsOver W faults step shared parker (record { bounds = bounds; before = first; after = stop }) m later r
  turns_until shared parker bounds first last stop m later r on =
      turns_wider faults shared.words.parkers shared.sure_of_arms (record { given = None; bounds = bounds; earliest = first; latest = stop; step = step }) bounds first last refl (le_refl first) on
      parker m later r

  -- those of a call of a clock that has the same bounds, in the same reactor, in a call that began no later
  pub turns_of : (shared other : SharedValue) (parker : ℕ) (bounds also : ClockBounds) (first earliest last : ℕ) (m later : MemberValue N) (r : Result ℕ ReactFault)
      → other ≡ shared → also ≡ bounds → first ≤ earliest
      → TakesTurns W faults other.words.parkers other.sure_of_arms (record { given = None; bounds = also; earliest = earliest; latest = last; step = step }) parker m later r
      → TurnsOver W faults step shared parker (record { bounds = bounds; before = first; after = last }) m later r
  turns_of shared other parker bounds also first earliest last m later r is same before x =
      turns_wider faults shared.words.parkers shared.sure_of_arms (record { given = None; bounds = bounds; earliest = first; latest = last; step = step }) also earliest last same before (le_refl last)
      parker m later r
      (subst (λ (s : SharedValue). TakesTurns W faults s.words.parkers s.sure_of_arms (record { given = None; bounds = also; earliest = earliest; latest = last; step = step }) parker m later r) is x)

module _ {N W C : Type 0} (faults : N → ℕ) (bounds_of : C → ClockBounds) (latest_of : C → ℕ) (step : WaitTells W) (parkers : ℕ) (all_sure : Bool) (parker : ℕ) where
  -- what the rounds of a call are handed that has the clock from one state to another
  abbrev between : C → C → Start W
  between x y = until (latest_of y) (start_of bounds_of latest_of step x)

  module _ (x y z : C) (turns : ℕ) (m by later : MemberValue N) (same : bounds_of y ≡ bounds_of x) (before : latest_of x ≤ latest_of y) (on : latest_of y ≤ latest_of z)
      (vain : TurnsInVain W faults parkers all_sure (between x y) parker turns m by) where
    vain_on : TurnsInVain W faults parkers all_sure (between x z) parker turns m by
    vain_on = vain_wider faults parkers all_sure (between x z) (bounds_of x) (latest_of x) (latest_of y) refl (le_refl (latest_of x)) on parker turns m by vain

    turn_on : (r : Result ℕ ReactFault) → SwapsFirst W faults parkers all_sure (between y z) parker by later r → SwapsFirst W faults parkers all_sure (between x z) parker by later r
    turn_on r = turn_wider faults parkers all_sure (between x z) (bounds_of y) (latest_of y) (latest_of z) same before (le_refl (latest_of z)) parker by later r

    -- some turns in vain, and the last one
    pub turns_end : (r : Result ℕ ReactFault) → SwapsFirst W faults parkers all_sure (between y z) parker by later r → TakesTurns W faults parkers all_sure (between x z) parker m later r
    turns_end r last = record { turns = turns; by = by; in_vain = vain_on; last = turn_on r last }

    -- and one more in vain
    pub turns_more : (mask : ℕ) → mask ≡ 0 → SwapsFirst W faults parkers all_sure (between y z) parker by later (Ok mask)
        → TurnsInVain W faults parkers all_sure (between x z) parker (suc turns) m later
    turns_more mask none one =
        (by, vain_on, subst (λ k. SwapsFirst W faults parkers all_sure (between x z) parker by later (Ok k)) none (turn_on (Ok mask) one))
