-- Rounds that a member makes one after the other while it holds the round cell, and what its seat does.
use Rattle.std.specs.Prelude.{◌≡◌, ◌≢◌, ℕ, zero, suc, ◌+◌, ◌-◌, ◌^◌, ◌≤◌, Bool, false, ◌<◌, List, [], ◌∷◌, ◌++◌, map, All, Option, None, Some, Result, Ok, Err, IfOk, IfErr}
use Rattle.aio_rules.specs.declared.seats.SeatView.{SeatView}
use Rattle.aio_rules.specs.declared.seats.WordStep.{WordStep}
use Rattle.aio_rules.specs.declared.seats.WordStep.TheVariants as word_step
use Rattle.aio_rules.specs.SharedWords.{after}
use Rattle.aio_words.specs.Calls.{Parks}
use Rattle.aio_shared.specs.declared.reacting.ReactedIn.{ReactedIn}
use Rattle.aio_shared.specs.declared.reacting.ReactFault.{ReactFault}
use Rattle.aio_shared.specs.declared.reacting.ReactFault.TheVariants as react_fault
use Rattle.aio_shared.specs.Cells.{CellValue, WaitTells}
use Rattle.aio_shared.specs.Members.{Extends, MemberValue, SharedValue}
use Rattle.aio_shared.specs.OneCell.{ClaimValue, FindsNone, Takes, TakesCell}
use Rattle.aio_shared.specs.Reacting.{BeginsNone, NotifierCounts, Reacts, Start}
use Rattle.aio_park.specs.Blocking.{Clocked, Gains}
use Rattle.aio_park.specs.Looks.{BlocksWhile}

-- A seat took no mask, of no parker.
abbrev pub GainsNone : SeatView → SeatView → Type 0
GainsNone old new = (parker : ℕ) → Gains parker old new []

-- the member after a step of its seat
abbrev pub member_did : {N : Type 0} → WordStep → MemberValue N → MemberValue N
member_did step m = record m { pass = record m.pass { view = after step m.pass.view } }

-- What a member does after a call of `react_in` that told this fault, and what is answered then.
pub data LooksAfter {N : Type 0} (fault : ReactFault) (m later : MemberValue N) (answer : Result (Option ReactedIn) ReactFault) : Type 0 where
  -- it does nothing, and the fault is handed on, if that is not that no round can begin
  HandsOn : fault ≢ react_fault.RoundsSpent → later ≡ m → answer ≡ Err fault → LooksAfter fault m later answer
  -- otherwise it looks at the ticker: that stands at its end, and the fault is handed on
  FindsEnd : (found : ℕ) → fault ≡ react_fault.RoundsSpent → later ≡ member_did (word_step.LoadTicker found) m → found ≡ 2 ^ 64 - 1 → answer ≡ Err react_fault.RoundsSpent
      → LooksAfter fault m later answer
  -- or it stands below, and nothing came of the call
  FindsLess : (found : ℕ) → fault ≡ react_fault.RoundsSpent → later ≡ member_did (word_step.LoadTicker found) m → found ≢ 2 ^ 64 - 1 → answer ≡ Ok None
      → LooksAfter fault m later answer

-- the cell after a step of its seat
abbrev pub cell_did : {W : Type 0} → WordStep → CellValue W → CellValue W
cell_did step c = record c { seat = record c.seat { view = after step c.seat.view } }

module _ {N W : Type 0} where
  -- A try of a round came to nothing: a call of `react_in` answered that no round can begin, as the cell's seat knew the ticker at its end; and the member, which
  -- did nothing else, looked at the ticker after it and found less.
  pub record ComesToNothing (old new : CellValue W) (m later : MemberValue N) : Type 0 where
    pub none : BeginsNone old new
    pub spent : old.seat.view.seen ≡ 2 ^ 64 - 1
    pub found : ℕ
    pub looks : later ≡ member_did (word_step.LoadTicker found) m
    pub below : found ≢ 2 ^ 64 - 1

  -- so many of these tries, one after the other
  abbrev pub TriesInVain : ℕ → CellValue W → CellValue W → MemberValue N → MemberValue N → Type 0
  TriesInVain zero old new m later = (new ≡ old) × (later ≡ m)
  TriesInVain (suc tries) old new m later = (last : CellValue W) × (by : MemberValue N) × TriesInVain tries old last m by × ComesToNothing last new by later

  -- A call of `react_in` told this fault. Where the fault is that no round can begin, the member looked at the ticker afterwards, and found its end too.
  abbrev pub Fails : ℕ → Bool → Start W → CellValue W → CellValue W → MemberValue N → MemberValue N → NotifierCounts → ReactFault → Type 0
  Fails parkers all_sure start old new m later notifier react_fault.RoundsSpent =
      BeginsNone old new × (old.seat.view.seen ≡ 2 ^ 64 - 1) × (later ≡ member_did (word_step.LoadTicker (2 ^ 64 - 1)) m)
  Fails parkers all_sure start old new m later notifier fault = Reacts parkers all_sure start old new m later notifier (Err fault)

  -- a call of `react_in`, and a look at the ticker where that answered that no round can begin
  abbrev pub Tries : ℕ → Bool → Start W → CellValue W → CellValue W → MemberValue N → MemberValue N → NotifierCounts → Result (Option ReactedIn) ReactFault → Type 0
  Tries parkers all_sure start old new m later notifier (Ok (Some reacted)) = Reacts parkers all_sure start old new m later notifier (Ok reacted)
  Tries parkers all_sure start old new m later notifier (Ok None) = ComesToNothing old new m later
  Tries parkers all_sure start old new m later notifier (Err fault) = Fails parkers all_sure start old new m later notifier fault

  module _ (faults : N → ℕ) (parkers : ℕ) (all_sure : Bool) (start : Start W) where
    -- A whole round without a limit, or the rest of one that ran, after so many tries that came to nothing. It handled so many events.
    pub record DrivesRound (old new : CellValue W) (m later : MemberValue N) (events : ℕ) : Type 0 where
      pub tries : ℕ
      pub from : CellValue W
      pub by : MemberValue N
      pub first : TriesInVain tries old from m by
      pub moment : ℕ
      pub not_before : start.earliest ≤ moment
      pub stop : ℕ
      pub not_after : stop ≤ start.latest
      pub reacted : ReactedIn
      pub reacts : Reacts parkers all_sure (record start { given = None; earliest = moment; latest = stop }) from new by later
          (record { before = faults by.notifier; after = faults later.notifier }) (Ok reacted)
      pub events_are : events ≡ reacted.events

    -- so many rounds, one after the other, which handled so many events together
    abbrev pub DrivesRounds : ℕ → CellValue W → CellValue W → MemberValue N → MemberValue N → ℕ → Type 0
    DrivesRounds zero old new m later events = (new ≡ old) × (later ≡ m) × (events ≡ 0)
    DrivesRounds (suc rounds) old new m later events = (last : CellValue W) × (by : MemberValue N) × (before more : ℕ)
        × DrivesRounds rounds old last m by before × DrivesRound last new by later more × (events ≡ before + more)

    -- A try of a round with this limit, between two moments of the clock in the call, and what it came to.
    pub record TriesRound (given : Option ℕ) (old new : CellValue W) (m later : MemberValue N) (answer : Result (Option ReactedIn) ReactFault) : Type 0 where
      pub moment : ℕ
      pub not_before : start.earliest ≤ moment
      pub stop : ℕ
      pub not_after : stop ≤ start.latest
      pub tries : Tries parkers all_sure (record start { given = given; earliest = moment; latest = stop }) old new m later
          (record { before = faults m.notifier; after = faults later.notifier }) answer

    -- After so many tries that came to nothing, a try of a round without a limit failed by this fault.
    pub record FailsRound (old new : CellValue W) (m later : MemberValue N) (fault : ReactFault) : Type 0 where
      pub before : ℕ
      pub from : CellValue W
      pub by : MemberValue N
      pub first : TriesInVain before old from m by
      pub tries : TriesRound None from new by later (Err fault)

    -- Fewer rounds than this, one after the other, and then one that failed by this fault.
    pub record FailsWithin (rounds : ℕ) (old new : CellValue W) (m later : MemberValue N) (fault : ReactFault) : Type 0 where
      pub made : ℕ
      pub fewer : made < rounds
      pub events : ℕ
      pub last : CellValue W
      pub by : MemberValue N
      pub rounds_are : DrivesRounds made old last m by events
      pub fails : FailsRound last new by later fault

    -- So many tries of a round without a limit, none of which failed, one after the other. Right before each of them, and at no other time, the cell's seat
    -- looked at this parker's mask, and found no woken slot.
    abbrev pub TriesWithoutLimit : ℕ → ℕ → CellValue W → CellValue W → MemberValue N → MemberValue N → Type 0
    TriesWithoutLimit parker zero old new m later = (new ≡ old) × (later ≡ m)
    TriesWithoutLimit parker (suc tries) old new m later = (last : CellValue W) × (by : MemberValue N) × (reacted : Option ReactedIn)
        × TriesWithoutLimit parker tries old last m by × TriesRound None (cell_did (word_step.LoadMask parker 0) last) new by later (Ok reacted)

    -- The same of a call with this answer: then a look found woken slots; or it found none again, and the fault is that of the try after it, the last one.
    abbrev pub TriesUntil : {X : Type 0} → ℕ → Result X ReactFault → CellValue W → CellValue W → MemberValue N → MemberValue N → Type 0
    TriesUntil parker (Ok done) old new m later = (tries found : ℕ) × (last : CellValue W)
        × TriesWithoutLimit parker tries old last m later × (found ≢ 0) × (new ≡ cell_did (word_step.LoadMask parker found) last)
    TriesUntil parker (Err fault) old new m later = (tries : ℕ) × (last : CellValue W) × (by : MemberValue N)
        × TriesWithoutLimit parker tries old last m by × TriesRound None (cell_did (word_step.LoadMask parker 0) last) new by later (Err fault)

    -- The same while the cell's seat blocks the parker, which it does first; it unblocks it last.
    pub record TriesBlocked {X : Type 0} (parker : ℕ) (answer : Result X ReactFault) (old new : CellValue W) (m later : MemberValue N) : Type 0 where
      pub left : CellValue W
      pub tries : TriesUntil parker answer (cell_did (word_step.StoreBlocked parker 1 0) old) left m later
      pub unblocks : new ≡ cell_did (word_step.StoreBlocked parker 0 1) left

-- A member took a cell so, did this with it, and gave it back.
pub record Holds {N W : Type 0} (Taken : ClaimValue → ClaimValue → CellValue W → Type 0) (Did : CellValue W → CellValue W → MemberValue N → MemberValue N → Type 0) (m later : MemberValue N) : Type 0 where
  pub taken : CellValue W
  pub left : CellValue W
  pub holding : MemberValue N
  pub done : MemberValue N
  pub takes : Taken m.claim holding.claim taken
  pub rest : holding ≡ record m { claim = holding.claim }
  pub did : Did taken left holding done
  pub gave : later ≡ record done { claim = record done.claim { holds = false } }

-- A member parked for this parker, and did nothing else: only the last swap of the park found woken slots, these.
pub record ParksFor {N : Type 0} (parker mask : ℕ) (m later : MemberValue N) : Type 0 where
  pub parks : Parks parker mask m.pass.view later.pass.view
  pub rest : later ≡ record m { pass = record m.pass { view = later.pass.view } }

-- the kinds of cell are those of one half that waits
module _ {N : Type 0} (W : Type 0) (faults : N → ℕ) where
  -- A member took the cell, made so many rounds without a limit, which handled so many events together, and gave the cell back.
  abbrev pub Drives : ℕ → Bool → Start W → ℕ → MemberValue N → MemberValue N → ℕ → Type 0
  Drives parkers all_sure start rounds m later events = Holds Takes (λ taken left holding done. DrivesRounds faults parkers all_sure start rounds taken left holding done events) m later

  -- A member took the cell, made fewer rounds without a limit than this, then one that failed by this fault, and gave the cell back.
  abbrev pub DrivesUntilFault : ℕ → Bool → Start W → ℕ → MemberValue N → MemberValue N → ReactFault → Type 0
  DrivesUntilFault parkers all_sure start rounds m later fault = Holds Takes (λ taken left holding done. FailsWithin faults parkers all_sure start rounds taken left holding done fault) m later

  -- A member took the cell by one try, tried a round with the limit 0, which came to this, and gave the cell back.
  abbrev pub ReactsAtOnce : ℕ → Bool → Start W → MemberValue N → MemberValue N → Result (Option ReactedIn) ReactFault → Type 0
  ReactsAtOnce parkers all_sure start m later answer = Holds TakesCell (λ taken left holding done. TriesRound faults parkers all_sure start (Some 0) taken left holding done answer) m later

  -- What a member does for the reactor where its task may be polled at once.
  pub data Passes (parkers : ℕ) (all_sure : Bool) (start : Start W) (m later : MemberValue N) : Type 0 where
    -- nothing, as a pop of the call found no cell
    FindsNoCell : FindsNone m.claim later.claim → later ≡ record m { claim = later.claim } → Passes parkers all_sure start m later
    -- one round that does not wait, or a try of it
    TriesOneRound : (reacted : Option ReactedIn) → ReactsAtOnce parkers all_sure start m later (Ok reacted) → Passes parkers all_sure start m later

  -- A member took the cell by one try, tried rounds without a limit while the cell's seat blocked this parker, each right after a look at the parker's mask,
  -- and gave the cell back.
  abbrev pub ReactsBlocked : ℕ → Bool → Start W → ℕ → MemberValue N → MemberValue N → Result (Unit {0}) ReactFault → Type 0
  ReactsBlocked parkers all_sure start parker m later answer =
      Holds TakesCell (λ taken left holding done. BlocksWhile parker taken.seat.view left.seat.view answer × TriesBlocked faults parkers all_sure start parker answer taken left holding done) m later

  -- How a member waits for woken slots of this parker, and what its last swap of the mask then finds.
  pub data Waits (parkers : ℕ) (all_sure : Bool) (start : Start W) (parker mask : ℕ) (m later : MemberValue N) : Type 0 where
    -- a pop of the call found no cell, and the thread parked
    WaitsParked : (none : MemberValue N) → FindsNone m.claim none.claim → none ≡ record m { claim = none.claim } → ParksFor parker mask none later
        → Waits parkers all_sure start parker mask m later
    -- by rounds, and then it swapped the mask once
    WaitsInRounds : (gave : MemberValue N) → ReactsBlocked parkers all_sure start parker m gave (Ok tt) → later ≡ member_did (word_step.SwapMask parker mask) gave
        → Waits parkers all_sure start parker mask m later

  -- A turn of a member swapped its parker's mask first. Where that found woken slots, the turn answers just these, and the member passed a round; where it
  -- found none, the member waited for some. The fault of a turn is that of the last try of a round that it made so.
  pub record SwapsFirst (parkers : ℕ) (all_sure : Bool) (start : Start W) (parker : ℕ) (m later : MemberValue N) (answer : Result ℕ ReactFault) : Type 0 where
    pub found : ℕ
    pub did : Extends (m.pass.view.did ++ word_step.SwapMask parker found ∷ []) later.pass.view.did
    pub passes : found ≢ 0 → IfOk answer (λ mask. (mask ≡ found) × Passes parkers all_sure start (member_did (word_step.SwapMask parker found) m) later)
    pub waits : found ≡ 0 → IfOk answer (λ mask. Waits parkers all_sure start parker mask (member_did (word_step.SwapMask parker found) m) later)
    pub fails_passing : found ≢ 0
        → IfErr answer (λ fault. ReactsAtOnce parkers all_sure start (member_did (word_step.SwapMask parker found) m) later (Err fault))
    pub fails_waiting : found ≡ 0
        → IfErr answer (λ fault. ReactsBlocked parkers all_sure start parker (member_did (word_step.SwapMask parker found) m) later (Err fault))

  -- So many turns of a member, one after the other, none of which took woken slots.
  abbrev pub TurnsInVain : ℕ → Bool → Start W → ℕ → ℕ → MemberValue N → MemberValue N → Type 0
  TurnsInVain parkers all_sure start parker zero m later = later ≡ m
  TurnsInVain parkers all_sure start parker (suc turns) m later = (by : MemberValue N)
      × TurnsInVain parkers all_sure start parker turns m by × SwapsFirst parkers all_sure start parker by later (Ok 0)

  -- The turns of a member between two polls of its task: some in vain, and then one that answers this, the slots that it took or its fault.
  pub record TakesTurns (parkers : ℕ) (all_sure : Bool) (start : Start W) (parker : ℕ) (m later : MemberValue N) (answer : Result ℕ ReactFault) : Type 0 where
    pub turns : ℕ
    pub by : MemberValue N
    pub in_vain : TurnsInVain parkers all_sure start parker turns m by
    pub last : SwapsFirst parkers all_sure start parker by later answer

  -- the same of rounds over this clock
  abbrev pub TurnsOver : WaitTells W → SharedValue → ℕ → Clocked → MemberValue N → MemberValue N → Result ℕ ReactFault → Type 0
  TurnsOver step shared parker clock = TakesTurns shared.words.parkers shared.sure_of_arms
      (record { given = None; bounds = clock.bounds; earliest = clock.before; latest = clock.after; step = step }) parker
