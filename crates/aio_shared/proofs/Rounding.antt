-- A round of a shared reactor, section by section.
use Rattle.std.proofs.Common.{◌≡◌, inr, ℕ, ◌≤◌, Bool, true, false, true≢false, List, [], ◌∷◌, ◌++◌, length, append_assoc, append-nil, refl, sym, ap, ◌∙◌, subst, le_refl, le_trans, Option, Some, None, Result, Ok, Err, IsErr, arith}
use Rattle.aio_base.specs.declared.outcomes.CountFault.{CountFault}
use Rattle.aio_base.specs.declared.outcomes.Waited.{Waited}
use Rattle.aio_rules.specs.declared.seats.SeatView.{SeatView}
use Rattle.aio_rules.specs.declared.seats.WordStep.{WordStep}
use Rattle.aio_rules.specs.declared.seats.WordStep.TheVariants as word_step
use Rattle.aio_base.specs.ClockBounds.{ClockBounds, IsWithin}
use Rattle.aio_base.specs.Devices.{HasCause, Rose, TellsFaults}
use Rattle.aio_rules.specs.SharedWords.{after}
use Rattle.aio_words.specs.Calls.{all_wake_steps}
use Rattle.aio_ops.specs.Passes.{PassView, Drained}
use Rattle.aio_source.specs.declared.in_hand.RoundFault.{RoundFault}
use Rattle.aio_source.specs.declared.in_hand.RoundFault.TheVariants as round_fault
use Rattle.aio_source.specs.InHand.{RoundValue}
use Rattle.aio_react.specs.Rounds.{poller_told, wait_fault, wait_told, waited}
use Rattle.aio_words.specs.Seats.{SeatValue}
use Rattle.aio_shared.specs.declared.reacting.ReactedIn.{ReactedIn}
use Rattle.aio_shared.specs.declared.reacting.ReactFault.{ReactFault}
use Rattle.aio_shared.specs.declared.reacting.ReactFault.TheVariants as react_fault
use Rattle.aio_shared.specs.Cells.{CellValue, CellSays, Awaits, MayTell, WaitTells}
use Rattle.aio_shared.specs.Members.{IsLaterMember, MemberValue}
use Rattle.aio_shared.specs.OneCell.{ClaimValue, about, with_empties}
use Rattle.aio_sources.specs.Events.{KeepsFault, HandlesSome}
use Rattle.aio_shared.specs.TimerCalls.{PushedNothing}
use Rattle.aio_timers.specs.Room.{Book}
use Rattle.aio_shared.proofs.Draining.{drained_pushed_nothing, pushed_nothing_itself, pushed_nothing_further}
use Rattle.aio_shared.specs.Reacting.{Begins, BeginsAs, DrainsThen, Ends, Enters, Finished, Finishes, NotifierCounts, RaisesOnce, RanOut, Reacts, RunsOn, Start, ReportsRound, WaitFailed, Wakes, WholeRound, rose, until}

by_bool : {A : Type 0} (b : Bool) → (b ≡ true → A) → (b ≡ false → A) → A
by_bool true t f = t refl
by_bool false t f = f refl

not_both : {A : Type 0} (b : Bool) → b ≡ true → b ≡ false → A
not_both b t f = absurd (true≢false (sym t ∙ f))

-- ## Faults that a cell may tell

-- a failed wait is one of a half that is not sure
wait_may : (answer : Result Waited CountFault) (before after : ℕ) (sure arms : Bool) → HasCause before after sure (IsErr (poller_told answer)) → MayTell sure arms (wait_fault answer)
wait_may (Ok waited) before after sure arms cause = tt
wait_may (Err fault) before after sure arms cause = by_bool sure (λ t. absurd ((cause.never t).0 refl)) (λ f. f)

-- an arm that failed is one of a reactor that is not sure of its arms
pub handled_may : (wait arms : Bool) (f g : Option RoundFault) → MayTell wait arms f → KeepsFault arms f g → MayTell wait arms g
handled_may wait arms (Some fault) g may keeps = subst (λ z. MayTell wait arms z) (sym keeps) may
handled_may wait arms None None may keeps = tt
handled_may wait arms None (Some (round_fault.Arm fault)) may keeps = keeps.0
handled_may wait arms None (Some (round_fault.Wait fault)) may keeps = absurd keeps

-- the fault of a wait that a round tells in the end was that of its wait
told_wait : (all_sure : Bool) (answer : Result Waited CountFault) (before after : ℕ) (sure : Bool) (f g : Option RoundFault) (fault : CountFault) → f ≡ wait_fault answer → KeepsFault all_sure f g
    → g ≡ Some (round_fault.Wait fault) → answer ≡ wait_told before after (poller_told answer) → HasCause before after sure (IsErr (poller_told answer))
    → (fault ≡ record { before = before; after = after }) × Rose before after
told_wait all_sure (Ok waited) before after sure f g fault was keeps is counts cause =
    absurd (subst (λ z. KeepsFault all_sure None z) is (subst (λ z. KeepsFault all_sure z g) was keeps))
told_wait all_sure (Err told_fault) before after sure f g fault was keeps is counts cause =
    let same : Some (round_fault.Wait told_fault) ≡ Some (round_fault.Wait fault) = sym (subst (λ z. KeepsFault all_sure z g) was keeps) ∙ is in
    (sym (fault_of_wait same) ∙ ap error_of counts, cause.rose refl)
  where
    wait_of : CountFault → Option RoundFault → CountFault
    wait_of other (Some (round_fault.Wait x)) = x
    wait_of other (Some (round_fault.Arm x)) = other
    wait_of other None = other

    fault_of_wait : Some (round_fault.Wait told_fault) ≡ Some (round_fault.Wait fault) → told_fault ≡ fault
    fault_of_wait e = ap (wait_of told_fault) e

    error_of : Result Waited CountFault → CountFault
    error_of (Err x) = x
    error_of (Ok x) = told_fault

module _ {W : Type 0} (step : WaitTells W) (wait wait_after : W) (number : ℕ) (bounds : ClockBounds) (earliest latest : ℕ) (given : Option ℕ) (ops ops_after : PassView) (begun new : RoundValue) (waits faults after_waits after_faults : ℕ) (sure : Bool)
    (b : BeginsAs number bounds earliest latest given ops ops_after begun) (a : Awaits step begun new wait wait_after waits faults after_waits after_faults sure) where
  fault_is : new.fault ≡ wait_fault a.answer
  fault_is = ap (λ (r : RoundValue). r.fault) a.round ∙ ap (λ (r : RoundValue). (waited r a.answer new.hand).fault) b.2.did.0

  pub begun_may : (arms : Bool) → MayTell sure arms new.fault
  begun_may arms = subst (λ f. MayTell sure arms f) (sym fault_is) (wait_may a.answer faults after_faults sure arms a.cause)

-- ## The clock

-- what was done between two moments of a clock was done between two wider ones
drains_within : (bounds all : ClockBounds) (earliest later latest stop : ℕ) (ops ops_after : PassView) (found : Book) (Did : ℕ → Book → Type 0) → bounds ≡ all → earliest ≤ later → latest ≤ stop
    → DrainsThen bounds later latest ops ops_after found Did → DrainsThen all earliest stop ops ops_after found Did
drains_within bounds all earliest later latest stop ops ops_after found Did same from on x = record {
  count = x.count;
  book = x.book;
  drains = x.drains;
  now = x.now;
  moment = (le_trans from x.moment.0, le_trans x.moment.1 on, subst (λ (b : ClockBounds). IsWithin b x.now) same x.moment.2);
  did = x.did;
}

-- ## The seat

pub raises_once : (v : SeatView) (found : ℕ) → RaisesOnce v (after (word_step.SwapNotified found) (rose v))
raises_once v found = let a : List WordStep = word_step.LoadTicker v.seen ∷ [] in let b : List WordStep = word_step.AddTicker v.seen ∷ [] in let c : List WordStep = word_step.SwapNotified found ∷ [] in
    record { steps = a ++ (b ++ c); did = append_assoc (v.did ++ a) b c ∙ append_assoc v.did a (b ++ c); once = refl; seen = refl }

module _ {W : Type 0} where
  -- what a cell may tell once it was entered
  entered_may : (start : Start W) (old new : CellValue W) (ops ops_after : PassView) (arms : Bool) → Enters start old new ops ops_after → MayTell old.sure arms old.round.fault → MayTell old.sure arms new.round.fault
  entered_may start old new ops ops_after arms e may = by_bool old.round.running
      (λ runs. subst (λ (r : RoundValue). MayTell old.sure arms r.fault) (sym (ap (λ (c : CellValue W). c.round) (e.goes_on runs).cell)) may)
      (λ idle. let b = e.begins idle in begun_may start.step old.wait new.wait _ _ _ _ _ _ _ b.begun new.round _ _ _ _ old.sure b.begins b.waits arms)

  begins_until : (start : Start W) (latest : ℕ) (old new : CellValue W) (ops ops_after : PassView) → start.latest ≤ latest → Begins start old new ops ops_after
      → Begins (until latest start) old new ops ops_after
  begins_until start latest old new ops ops_after on b = let a = b.begins in record {
    room = b.room;
    begun = b.begun;
    begins = (a.0, a.1, drains_within start.bounds start.bounds start.earliest start.earliest start.latest latest ops ops_after a.0 _ refl (le_refl start.earliest) on a.2);
    found = b.found;
    seat = b.seat;
    waits = b.waits;
    drained = b.drained;
  }

  -- a round that was entered in the first part of a call was entered in the call
  pub entered_until : (start : Start W) (latest : ℕ) (old new : CellValue W) (ops ops_after : PassView) → Enters start old new ops ops_after → start.latest ≤ latest
      → Enters (until latest start) old new ops ops_after
  entered_until start latest old new ops ops_after e on = record {
    begins = λ idle. begins_until start latest old new ops ops_after on (e.begins idle);
    goes_on = e.goes_on;
    running = e.running;
    words = e.words;
    mode = e.mode;
    sure = e.sure;
  }

  -- what it did to the queue of operations
  pub entered_pushed : (start : Start W) (old new : CellValue W) (ops ops_after : PassView) → Enters start old new ops ops_after → PushedNothing ops ops_after
  entered_pushed start old new ops ops_after e = by_bool old.round.running
      (λ runs. subst (λ (o : PassView). PushedNothing ops o) (sym (e.goes_on runs).pass) (pushed_nothing_itself ops))
      (λ idle. drained_pushed_nothing ops ops_after (e.begins idle).drained)

  -- ## The end

  module _ (all_sure : Bool) (start : Start W) (old entered handled : CellValue W) (ops between : PassView) (e : Enters start old entered ops between)
      (h : HandlesSome all_sure entered.round handled.round) (hc : handled ≡ record entered { round = handled.round }) where
    pub runs_on : (ops_after : PassView) → PushedNothing between ops_after → RunsOn all_sure start old handled ops ops_after
    runs_on ops_after d = record { entered = entered; between = between; enters = e; handles = h; cell = hc; drained = d; running = h.running ∙ e.running }

    module _ (new : CellValue W) (ops_after : PassView) (bounds : ClockBounds) (later : ℕ) (one_clock : bounds ≡ start.bounds) (on : start.earliest ≤ later) (early : Enters (until later start) old entered ops between) (ended_by : later ≤ start.latest) (f : Finishes bounds later start.latest between ops_after handled.round new.round) (fc : new ≡ record handled { round = new.round })
        (none : handled.round.hand ≡ []) (d : Drained between ops_after) where
      new_is : new ≡ record entered { round = new.round }
      new_is = fc ∙ (λ i. record (hc i) { round = new.round })

      whole : old.round.running ≡ false → WholeRound old new ops ops_after
      whole idle = let b = e.begins idle in record {
        seat = subst (RaisesOnce old.seat.view) (sym (ap (λ (c : CellValue W). c.seat.view) new_is ∙ b.seat)) (raises_once old.seat.view b.found);
        waits = ap (λ (c : CellValue W). c.waits) new_is ∙ b.waits.waits_are;
        between = between;
        first = b.drained;
        second = d;
      }

      pub ends : Ends all_sure start old new ops ops_after
      ends = record {
        mid = later;
        not_before = on;
        not_after = ended_by;
        entered = entered;
        between = between;
        enters = early;
        handled = handled.round;
        handles = h;
        none_left = none;
        finishes = (f.0, f.1, drains_within bounds start.bounds later later start.latest start.latest between ops_after f.0 _ one_clock (le_refl later) (le_refl start.latest) f.2);
        cell = new_is;
        drained = d;
        idle = ap (λ (r : RoundValue). r.running) f.2.did.0;
        whole = whole;
      }

      fault_kept : new.round.fault ≡ handled.round.fault
      fault_kept = ap (λ (r : RoundValue). r.fault) f.2.did.0

      -- a wait that is told failed in this call, where the round began in it
      wait_failed : (fault : CountFault) → new.round.fault ≡ Some (round_fault.Wait fault) → old.round.running ≡ false → WaitFailed old new fault
      wait_failed fault told_is idle = let b = e.begins idle in
          let faults : new.faults ≡ entered.faults = ap (λ (c : CellValue W). c.faults) new_is in
          subst (λ (k : ℕ). (fault ≡ record { before = old.faults; after = k }) × Rose old.faults k) (sym faults)
          (told_wait all_sure b.waits.answer old.faults entered.faults old.sure entered.round.fault handled.round.fault fault
          (fault_is start.step old.wait entered.wait _ _ _ _ _ _ _ b.begun entered.round _ _ _ _ old.sure b.begins b.waits) h.fault (sym fault_kept ∙ told_is) b.waits.fault b.waits.cause)

module _ {N W : Type 0} (all_sure : Bool) (start : Start W) (old entered handled : CellValue W) (m m1 m2 : MemberValue N)
    (e : Enters start old entered m.ops m1.ops) (h : HandlesSome all_sure entered.round handled.round) (hc : handled ≡ record entered { round = handled.round })
    (says : CellSays old (about m.claim)) (sure : m.claim.sure_of_arms ≡ all_sure) where
  pub handled_says : (claim : ClaimValue) → claim ≡ m.claim → CellSays handled (about claim)
  handled_says claim same =
      let entered_tells : MayTell old.sure all_sure entered.round.fault =
      entered_may start old entered m.ops m1.ops all_sure e (subst (λ (s : Bool × Bool). MayTell s.0 s.1 old.round.fault) (λ i. (sym says.wait i, sure i)) says.fault) in
      let tells : MayTell old.sure all_sure handled.round.fault = handled_may old.sure all_sure entered.round.fault handled.round.fault entered_tells h.fault in
      let handled_sure : handled.sure ≡ old.sure = ap (λ (c : CellValue W). c.sure) hc ∙ e.sure in
      subst (λ (t : ClaimValue). CellSays handled (about t)) (sym same) record {
        words = ap (λ (c : CellValue W). c.seat.words) hc ∙ e.words ∙ says.words;
        wait = handled_sure ∙ says.wait;
        fault = subst (λ (s : Bool × Bool). MayTell s.0 s.1 handled.round.fault) (λ i. (says.wait i, sym sure i)) tells;
      }

  -- memory ran out once the round was entered
  pub ran_out : m1 ≡ record m { ops = m1.ops } → m2 ≡ record m1 { ops = m2.ops } → PushedNothing m.ops m2.ops → PushedNothing m1.ops m2.ops → RanOut all_sure start old handled m m2
  ran_out one two all last = record { member = two ∙ (λ i. record (one i) { ops = m2.ops }); ops = all; round = inr (runs_on all_sure start old entered handled m.ops m1.ops e h hc m2.ops last) }

  module _ (new : CellValue W) (m3 : MemberValue N) (bounds : ClockBounds) (later : ℕ) (one_clock : bounds ≡ start.bounds) (on : start.earliest ≤ later) (early : Enters (until later start) old entered m.ops m1.ops) (ended_by : later ≤ start.latest) (f : Finishes bounds later start.latest m1.ops m2.ops handled.round new.round) (fc : new ≡ record handled { round = new.round })
      (none : handled.round.hand ≡ []) (d : Drained m1.ops m2.ops) (one : m1 ≡ record m { ops = m1.ops }) (two : m2 ≡ record m1 { ops = m2.ops }) (three : m3 ≡ record m2 { pass = m3.pass; notifier = m3.notifier }) where
    ended : Ends all_sure start old new m.ops m2.ops
    ended = ends all_sure start old entered handled m.ops m1.ops e h hc new m2.ops bounds later one_clock on early ended_by f fc none d

    ops_are : m3.ops ≡ m2.ops
    ops_are = ap (λ (x : MemberValue N). x.ops) three

    claim_is : m3.claim ≡ m.claim
    claim_is = ap (λ (x : MemberValue N). x.claim) three ∙ ap (λ (x : MemberValue N). x.claim) two ∙ ap (λ (x : MemberValue N). x.claim) one

    pass_is : m2.pass ≡ m.pass
    pass_is = ap (λ (x : MemberValue N). x.pass) two ∙ ap (λ (x : MemberValue N). x.pass) one

    -- the cell still says what the member knows
    pub new_says : CellSays new (about m3.claim)
    new_says = let s = handled_says m3.claim claim_is in record {
      words = ap (λ (c : CellValue W). c.seat.words) fc ∙ s.words;
      wait = ap (λ (c : CellValue W). c.sure) fc ∙ s.wait;
      fault = subst (λ x. MayTell m3.claim.sure_of_wait m3.claim.sure_of_arms x) (sym (ap (λ (r : RoundValue). r.fault) f.2.did.0)) s.fault;
    }

    module _ (parkers : ℕ) (woke : Wakes parkers new.round.taken m2.pass m3.pass) where
      finished_is : Finished parkers all_sure start old new m m3
      finished_is = record {
        ends = subst (λ (o : PassView). Ends all_sure start old new m.ops o) (sym ops_are) ended;
        woke = subst (λ (p : SeatValue). Wakes parkers new.round.taken p m3.pass) pass_is woke;
      }

      pub is_later : (faults : N → ℕ) (is_sure : N → Bool) (failed : Type 0) → TellsFaults faults is_sure m2.notifier m3.notifier failed → IsLaterMember faults is_sure m m3
      is_later faults is_sure failed t =
          let woken = finished_is.woke in
          let pushed = subst (λ (o : PassView). PushedNothing m.ops o) (sym ops_are) (pushed_nothing_further m.ops m1.ops m2.ops (entered_pushed start old entered m.ops m1.ops e) (drained_pushed_nothing m1.ops m2.ops d)) in
          let notifier : m2.notifier ≡ m.notifier = ap (λ (x : MemberValue N). x.notifier) two ∙ ap (λ (x : MemberValue N). x.notifier) one in
          let ids : m3.ids ≡ m.ids = ap (λ (x : MemberValue N). x.ids) three ∙ ap (λ (x : MemberValue N). x.ids) two ∙ ap (λ (x : MemberValue N). x.ids) one in
          record {
            claim = claim_is ∙ (λ i. with_empties (sym (ap (λ (x : ClaimValue). x.empties) claim_is) i) m.claim);
            words = ap (λ (x : SeatValue). x.words) woken.seat;
            queue = ap (λ (x : PassView). x.queue) pushed.pass;
            number = ap (λ (x : PassView). x.number) pushed.pass;
            sure = t.sure ∙ ap is_sure notifier;
            did = (all_wake_steps new.round.taken parkers woken.founds, ap (λ (x : SeatValue). x.view.did) woken.seat);
            own = ([], ap (λ (x : PassView). x.own) pushed.pass ∙ sym (append-nil m.ops.own));
            pulled = (pushed.entries, ap (λ (x : PassView). x.pulled) pushed.pass);
            fulls = pushed.fulls;
            empties = pushed.empties;
            ids = omega arith;
            notifier = subst (λ (x : N). faults x ≤ faults m3.notifier) notifier t.cause.later;
          }

      told_may : (fault : RoundFault) → new.round.fault ≡ Some fault → MayTell m.claim.sure_of_wait m.claim.sure_of_arms (Some fault)
      told_may fault is = subst (λ (t : ClaimValue). MayTell t.sure_of_wait t.sure_of_arms (Some fault)) claim_is (subst (λ x. MayTell m3.claim.sure_of_wait m3.claim.sure_of_arms x) is new_says.fault)

      failed : (fault : CountFault) → new.round.fault ≡ Some (round_fault.Wait fault) → old.round.running ≡ false → WaitFailed old new fault
      failed fault is idle = wait_failed all_sure start old entered handled m.ops m1.ops e h hc new m2.ops bounds later one_clock on early ended_by f fc none d fault is idle

      answers : (notifier : NotifierCounts) (r : Result ReactedIn ReactFault) → ReportsRound new.round old.round.running (length old.round.hand) notifier r → Reacts parkers all_sure start old new m m3 notifier r
      answers notifier (Ok reacted) t = (finished_is, t)
      answers notifier (Err (react_fault.Wait fault)) t = (finished_is, (t, told_may (round_fault.Wait fault) t.0, failed fault t.0))
      answers notifier (Err (react_fault.Arm fault)) t = (finished_is, (t, told_may (round_fault.Arm fault) t.0))
      answers notifier (Err (react_fault.Notify fault)) t = (finished_is, t)
      answers notifier (Err react_fault.RoundsSpent) t = absurd t
      answers notifier (Err react_fault.OutOfMemory) t = absurd t

      pub reacts : (notifier told : NotifierCounts) (r : Result ReactedIn ReactFault) (resumed : Bool) (in_hand : ℕ) → told ≡ notifier → resumed ≡ old.round.running → in_hand ≡ length old.round.hand
          → ReportsRound new.round resumed in_hand told r → Reacts parkers all_sure start old new m m3 notifier r
      reacts notifier told r resumed in_hand same was many t =
          answers notifier r (subst (λ (x : NotifierCounts × Bool × ℕ). ReportsRound new.round x.1 x.2 x.0 r) (λ i. (same i, was i, many i)) t)
