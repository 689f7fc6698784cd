-- How a round is entered: it begins and makes its wait, or one goes on, or none begins.
use Rattle.std.proofs.Common.{◌≡◌, refl, sym, ap, ◌∙◌, subst, ℕ, ◌+◌, ◌-◌, ◌^◌, ◌<◌, Bool, true, false, true≢false, not}
use Rattle.std.specs.Prelude.{◌⊎◌}
use Rattle.aio_rules.specs.declared.seats.Mode.{Mode}
use Rattle.aio_rules.specs.declared.seats.Mode.TheVariants as mode
use Rattle.aio_rules.specs.declared.seats.SeatView.{SeatView}
use Rattle.aio_rules.specs.declared.seats.WordStep.TheVariants as word_step
use Rattle.aio_rules.specs.SharedWords.{after, blocking}
use Rattle.aio_ops.specs.Passes.{Drained, PassView}
use Rattle.aio_source.specs.InHand.{RoundValue}
use Rattle.aio_words.specs.Seats.{IsIdleOrWaits, SeatValue, is_waiting}
use Rattle.aio_shared.specs.declared.reacting.ReactFault.{ReactFault}
use Rattle.aio_shared.specs.declared.reacting.ReactFault.TheVariants as react_fault
use Rattle.aio_shared.specs.Cells.{Awaits, CellValue, EndsInRise}
use Rattle.aio_shared.specs.Reacting.{BeginRefused, BeginsAs, EnterRefused, Enters, Settles, Start, looked, rose}

not_both : {A : Type 0} (b : Bool) → b ≡ true → b ≡ false → A
not_both b t f = absurd (true≢false (sym t ∙ f))

-- what a test of an idle round says
pub is_off : (b : Bool) → true ≡ not b → b ≡ false
is_off true e = e
is_off false e = refl

pub is_on : (b : Bool) → false ≡ not b → b ≡ true
is_on true e = refl
is_on false e = e

-- a seat that looked at the ticker, or raised it too, is idle or waits as before
pub same_mode : (seat later : SeatValue) → later.view.mode ≡ seat.view.mode → IsIdleOrWaits seat → IsIdleOrWaits later
same_mode seat later same h = subst (λ (m : Mode). (m ≡ mode.Idle) ⊎ ((parker : ℕ) × (m ≡ mode.Wait parker))) (sym same) h

pub ends_in_rise : (v w : SeatView) → w ≡ rose v → EndsInRise w
ends_in_rise v w is = ((looked v).did, v.seen, ap (λ (x : SeatView). x.did) is)

module _ {W : Type 0} where
  pub enter_refused : (fault : ReactFault) (old new : CellValue W) (seat : SeatValue) (ops ops_after : PassView) → old.round.running ≡ false
      → BeginRefused fault old.seat.view seat.view old.round new.round ops ops_after → seat.view ≡ looked old.seat.view → new ≡ record old { seat = new.seat; round = new.round }
      → seat.words ≡ old.seat.words → new.seat.words ≡ seat.words → Settles (is_waiting seat.view.mode) seat.view new.seat.view → new.seat.view.mode ≡ blocking seat.view.mode
      → EnterRefused fault old new ops ops_after
  enter_refused fault old new seat ops ops_after idle refused look cell words kept settled blocks = by_fault fault refused
    where
      settles : Settles (is_waiting old.seat.view.mode) (looked old.seat.view) new.seat.view
      settles = subst (λ (v : SeatView). Settles (is_waiting v.mode) v new.seat.view) look settled

      by_fault : (f : ReactFault) → BeginRefused f old.seat.view seat.view old.round new.round ops ops_after → EnterRefused f old new ops ops_after
      by_fault react_fault.RoundsSpent r =
          (record { was_idle = idle; cell = cell ∙ (λ i. record old { seat = new.seat; round = r.2 i }); words = kept ∙ words; seat = settles; mode = blocks ∙ ap (λ (v : SeatView). blocking v.mode) look }, r.0, r.3)
      by_fault react_fault.OutOfMemory r =
          (record { was_idle = idle; cell = cell ∙ (λ i. record old { seat = new.seat; round = r.2 i }); words = kept ∙ words; seat = settles; mode = blocks ∙ ap (λ (v : SeatView). blocking v.mode) look }, r.0, r.3)
      by_fault (react_fault.Wait f) r = absurd r
      by_fault (react_fault.Arm f) r = absurd r
      by_fault (react_fault.Notify f) r = absurd r

  pub begun_enters : (start : Start W) (old new : CellValue W) (ops ops_after : PassView) (seat : SeatValue) (begun : RoundValue) (found : ℕ) → old.round.running ≡ false
      → old.seat.view.seen < 2 ^ 64 - 1 → BeginsAs (old.seat.view.seen + 1) start.bounds start.earliest start.latest start.given ops ops_after begun → Drained ops ops_after
      → seat.view ≡ rose old.seat.view → seat.words ≡ old.seat.words → new.seat.view ≡ after (word_step.SwapNotified found) seat.view → new.seat.words ≡ seat.words
      → Awaits start.step begun new.round old.wait new.wait old.waits old.faults new.waits new.faults old.sure → new.sure ≡ old.sure → Enters start old new ops ops_after
  begun_enters start old new ops ops_after seat begun found idle room begins drained risen words cleared kept awaits sure = record {
    begins = λ is_idle. record {
      room = room;
      begun = begun;
      begins = begins;
      found = found;
      seat = cleared ∙ ap (after (word_step.SwapNotified found)) risen;
      waits = awaits;
      drained = drained;
    };
    goes_on = λ runs. not_both old.round.running runs idle;
    running = ap (λ (r : RoundValue). r.running) awaits.round ∙ ap (λ (r : RoundValue). r.running) begins.2.did.0;
    words = kept ∙ words;
    mode = ap (λ (v : SeatView). v.mode) cleared ∙ ap (λ (v : SeatView). blocking v.mode) risen;
    sure = sure;
  }

  pub resumed_enters : (start : Start W) (old new : CellValue W) (ops : PassView) → old.round.running ≡ true → new ≡ record old { seat = new.seat } → new.seat.words ≡ old.seat.words
      → Settles (is_waiting old.seat.view.mode) old.seat.view new.seat.view → new.seat.view.mode ≡ blocking old.seat.view.mode → Enters start old new ops ops
  resumed_enters start old new ops runs cell words settled blocks = record {
    begins = λ idle. not_both old.round.running runs idle;
    goes_on = λ r. record { cell = cell; seat = settled; pass = refl };
    running = ap (λ (c : CellValue W). c.round.running) cell ∙ runs;
    words = words;
    mode = blocks;
    sure = ap (λ (c : CellValue W). c.sure) cell;
  }
