-- The steps of the round seat in the rounds of a thread that waits for woken slots.
use Rattle.std.proofs.Common.{◌≡◌, ◌⊎◌, ℕ, ◌==◌, Bool, true, false, if◌then◌else◌, List, [], ◌∷◌, ◌++◌, refl, sym, ap, ◌∙◌, subst, append-nil, append_assoc, Result, Ok, Err, IfOk, inl, inr, eq-eqb}
use Rattle.std.proofs.lemmas.Bool.{false≢true}
use Rattle.aio_rules.specs.declared.seats.SeatView.{SeatView}
use Rattle.aio_rules.specs.declared.seats.WordStep.{WordStep}
use Rattle.aio_rules.specs.declared.seats.WordStep.TheVariants as word_step
use Rattle.aio_rules.specs.SharedWords.{after}
use Rattle.aio_words.specs.Seats.{is_waiting}
use Rattle.aio_ops.specs.Passes.{PassView}
use Rattle.aio_shared.specs.declared.reacting.ReactedIn.{ReactedIn}
use Rattle.aio_shared.specs.declared.reacting.ReactFault.{ReactFault}
use Rattle.aio_shared.specs.declared.reacting.ReactFault.TheVariants as react_fault
use Rattle.aio_shared.specs.Cells.{CellValue}
use Rattle.aio_shared.specs.Members.{MemberValue}
use Rattle.aio_shared.specs.Reacting.{BeginsNone, Enters, NotifierCounts, Reacts, RunsOn, Settles, Start, looked, until}
use Rattle.aio_park.specs.Looks.{LooksFirst, WaitsAfterLooks}

-- what holds without a look before holds with one too
looks_weaker : (parker : ℕ) (looked : Bool) (steps : List WordStep) → LooksFirst parker false steps → LooksFirst parker looked steps
looks_weaker parker looked [] looks = looks
looks_weaker parker looked (word_step.AddTicker found ∷ steps) looks = absurd (false≢true looks.0)
looks_weaker parker looked (word_step.LoadMask i found ∷ steps) looks = looks
looks_weaker parker looked (word_step.LoadTicker found ∷ steps) looks = looks_weaker parker looked steps looks
looks_weaker parker looked (word_step.SetBit i bit found ∷ steps) looks = looks
looks_weaker parker looked (word_step.LoadBlocked i found ∷ steps) looks = looks
looks_weaker parker looked (word_step.ExchangeNotified found ∷ steps) looks = looks
looks_weaker parker looked (word_step.StoreBlocked i stored found ∷ steps) looks = looks
looks_weaker parker looked (word_step.SwapMask i found ∷ steps) looks = looks
looks_weaker parker looked (word_step.SwapNotified found ∷ steps) looks = looks

looks-append : (parker : ℕ) (looked : Bool) (xs ys : List WordStep) → LooksFirst parker looked xs → LooksFirst parker false ys → LooksFirst parker looked (xs ++ ys)
looks-append parker looked [] ys front rest = looks_weaker parker looked ys rest
looks-append parker looked (word_step.AddTicker found ∷ xs) ys front rest = (front.0, looks-append parker false xs ys front.1 rest)
looks-append parker looked (word_step.LoadMask i found ∷ xs) ys front rest = looks-append parker (if i == parker then found == 0 else false) xs ys front rest
looks-append parker looked (word_step.LoadTicker found ∷ xs) ys front rest = looks-append parker looked xs ys front rest
looks-append parker looked (word_step.SetBit i bit found ∷ xs) ys front rest = looks-append parker false xs ys front rest
looks-append parker looked (word_step.LoadBlocked i found ∷ xs) ys front rest = looks-append parker false xs ys front rest
looks-append parker looked (word_step.ExchangeNotified found ∷ xs) ys front rest = looks-append parker false xs ys front rest
looks-append parker looked (word_step.StoreBlocked i stored found ∷ xs) ys front rest = looks-append parker false xs ys front rest
looks-append parker looked (word_step.SwapMask i found ∷ xs) ys front rest = looks-append parker false xs ys front rest
looks-append parker looked (word_step.SwapNotified found ∷ xs) ys front rest = looks-append parker false xs ys front rest

pub looks_itself : (parker : ℕ) (looked : Bool) (v : SeatView) → WaitsAfterLooks parker looked v v
looks_itself parker looked v = record { steps = []; did = sym (append-nil v.did); looks = tt }

pub looks_further : (parker : ℕ) (looked : Bool) (u v w : SeatView) → WaitsAfterLooks parker looked u v → WaitsAfterLooks parker false v w → WaitsAfterLooks parker looked u w
looks_further parker looked u v w x y = record {
  steps = x.steps ++ y.steps;
  did = y.did ∙ ap (λ l. l ++ y.steps) x.did ∙ append_assoc u.did x.steps y.steps;
  looks = looks-append parker looked x.steps y.steps x.looks y.looks;
}

-- a look that found no woken slot, and a round after it
pub looks_round : (parker : ℕ) (u v w : SeatView) → v ≡ after (word_step.LoadMask parker 0) u → WaitsAfterLooks parker true v w → WaitsAfterLooks parker false u w
looks_round parker u v w look x = record {
  steps = word_step.LoadMask parker 0 ∷ x.steps;
  did = x.did ∙ ap (λ (s : SeatView). s.did ++ x.steps) look ∙ append_assoc u.did (word_step.LoadMask parker 0 ∷ []) x.steps;
  looks = subst (λ (b : Bool). LooksFirst parker (if b then true else false) x.steps) (sym (eq-eqb parker parker refl)) x.looks;
}

-- a look that found woken slots
pub looks_woken : (parker found : ℕ) (u w : SeatView) → w ≡ after (word_step.LoadMask parker found) u → WaitsAfterLooks parker false u w
looks_woken parker found u w look = record { steps = word_step.LoadMask parker found ∷ []; did = ap (λ (s : SeatView). s.did) look; looks = tt }

-- ## One call of `react_in`

-- after these steps, which settle the seat where no wait was made
settles_looks : (b : Bool) (parker : ℕ) (u v w : SeatView) (x : WaitsAfterLooks parker true u v) → Settles b v w → WaitsAfterLooks parker true u w
settles_looks true parker u v w x settles =
    looks_further parker true u v w x
    (record { steps = word_step.SwapNotified settles.0 ∷ []; did = ap (λ (s : SeatView). s.did) settles.1; looks = tt })
settles_looks false parker u v w x settles = subst (λ (s : SeatView). WaitsAfterLooks parker true u s) (sym settles) x

looked_looks : (parker : ℕ) (v : SeatView) → WaitsAfterLooks parker true v (looked v)
looked_looks parker v = record { steps = word_step.LoadTicker v.seen ∷ []; did = refl; looks = tt }

module _ {W : Type 0} where
  none_looks : (parker : ℕ) (old new : CellValue W) → BeginsNone old new → WaitsAfterLooks parker true old.seat.view new.seat.view
  none_looks parker old new none =
      settles_looks (is_waiting old.seat.view.mode) parker old.seat.view (looked old.seat.view) new.seat.view (looked_looks parker old.seat.view) none.seat

  entered_by : (running : Bool) (parker : ℕ) (start : Start W) (old new : CellValue W) (ops ops_after : PassView) → old.round.running ≡ running → Enters start old new ops ops_after
      → WaitsAfterLooks parker true old.seat.view new.seat.view
  entered_by true parker start old new ops ops_after is enters =
      settles_looks (is_waiting old.seat.view.mode) parker old.seat.view old.seat.view new.seat.view (looks_itself parker true old.seat.view) (enters.goes_on is).seat
  entered_by false parker start old new ops ops_after is enters =
      let begins = enters.begins is in
      let seen = old.seat.view.seen in
      let steps : List WordStep = word_step.LoadTicker seen ∷ word_step.AddTicker seen ∷ word_step.SwapNotified begins.found ∷ [] in
      record {
        steps = steps;
        did = ap (λ (s : SeatView). s.did) begins.seat
            ∙ append_assoc (old.seat.view.did ++ word_step.LoadTicker seen ∷ []) (word_step.AddTicker seen ∷ []) (word_step.SwapNotified begins.found ∷ [])
            ∙ append_assoc old.seat.view.did (word_step.LoadTicker seen ∷ []) (word_step.AddTicker seen ∷ word_step.SwapNotified begins.found ∷ []);
        looks = (refl, tt);
      }

  entered_looks : (parker : ℕ) (start : Start W) (old entered new : CellValue W) (ops ops_after : PassView) → Enters start old entered ops ops_after → new.seat ≡ entered.seat
      → WaitsAfterLooks parker true old.seat.view new.seat.view
  entered_looks parker start old entered new ops ops_after enters same =
      subst (λ s. WaitsAfterLooks parker true old.seat.view s.view) (sym same) (entered_by old.round.running parker start old entered ops ops_after refl enters)

  module _ {N : Type 0} where
    ran_looks : (parker : ℕ) (all_sure : Bool) (start : Start W) (old new : CellValue W) (m later : MemberValue N) → BeginsNone old new ⊎ RunsOn all_sure start old new m.ops later.ops
        → WaitsAfterLooks parker true old.seat.view new.seat.view
    ran_looks parker all_sure start old new m later (inl none) = none_looks parker old new none
    ran_looks parker all_sure start old new m later (inr runs) =
        entered_looks parker start old runs.entered new m.ops runs.between runs.enters (ap (λ (c : CellValue W). c.seat) runs.cell)

    -- whatever it answers, its wait comes first among the steps of the seat, but for looks at the ticker
    pub reacts_looks : (parker parkers : ℕ) (all_sure : Bool) (start : Start W) (old new : CellValue W) (m later : MemberValue N) (notifier : NotifierCounts) (r : Result ReactedIn ReactFault)
        → Reacts parkers all_sure start old new m later notifier r → WaitsAfterLooks parker true old.seat.view new.seat.view
    reacts_looks parker parkers all_sure start old new m later notifier (Ok reacted) r =
        let e = r.0.ends in entered_looks parker (until e.mid start) old e.entered new m.ops e.between e.enters (ap (λ (c : CellValue W). c.seat) e.cell)
    reacts_looks parker parkers all_sure start old new m later notifier (Err (react_fault.Wait fault)) r =
        let e = r.0.ends in entered_looks parker (until e.mid start) old e.entered new m.ops e.between e.enters (ap (λ (c : CellValue W). c.seat) e.cell)
    reacts_looks parker parkers all_sure start old new m later notifier (Err (react_fault.Arm fault)) r =
        let e = r.0.ends in entered_looks parker (until e.mid start) old e.entered new m.ops e.between e.enters (ap (λ (c : CellValue W). c.seat) e.cell)
    reacts_looks parker parkers all_sure start old new m later notifier (Err (react_fault.Notify fault)) r =
        let e = r.0.ends in entered_looks parker (until e.mid start) old e.entered new m.ops e.between e.enters (ap (λ (c : CellValue W). c.seat) e.cell)
    reacts_looks parker parkers all_sure start old new m later notifier (Err react_fault.RoundsSpent) r = none_looks parker old new r.0
    reacts_looks parker parkers all_sure start old new m later notifier (Err react_fault.OutOfMemory) r = ran_looks parker all_sure start old new m later r.round

-- what an answer says of each parker that a mode is of, it says of this one
pub of_parker : {X M : Type 0} (Is : M → Type 0) (r : Result X ReactFault) (Holds : M → Type 0) (parker : M) → Is parker → IfOk r (λ x. (p : M) → Is p → Holds p) → IfOk r (λ x. Holds parker)
of_parker Is (Ok x) Holds parker is each = each parker is
of_parker Is (Err fault) Holds parker is each = tt
