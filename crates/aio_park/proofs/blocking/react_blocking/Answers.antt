use Rattle.std.proofs.Common.{◌≡◌, ◌++◌, [], ◌∷◌, rules, ap, ◌∙◌, subst}
use Rattle.aio_rules.specs.declared.seats.Mode.TheVariants as mode
use Rattle.aio_rules.specs.declared.seats.SeatView.{SeatView}
use Rattle.aio_rules.specs.declared.seats.WordStep.TheVariants as word_step
use Rattle.aio_words.specs.Seats.{SeatValue}
use Rattle.aio_shared.specs.Cells.{CellValue}
use Rattle.aio_shared.specs.Reacting.{until, start_of}
use Rattle.aio_park.specs.Driving.{TriesUntil}
use Rattle.aio_park.specs.Looks.{HasSeenWoken}
use Rattle.aio_park.proofs.Holding.{cell_step}
use Rattle.aio_park.proofs.Looking.{of_parker}
use Rattle.aio_park.proofs.blocking.react_blocking.Goals as goal

pub react_until_woken-reacted-requires-clause-blocks : goal.react_until_woken-reacted-requires-clause-blocks
react_until_woken-reacted-requires-clause-blocks g c = (_, ap (λ (v : SeatView). v.mode) c.block.ensures.view)

pub unblock-requires : goal.unblock-requires
unblock-requires g c = (
  search rules,
  (_, ap (λ (s : SeatValue). s.view.mode) c.seat-2.ensures.value ∙ c.react_until_woken-reacted.ensures.mode ∙ ap (λ (v : SeatView). v.mode) c.block.ensures.view),
)

pub returns-clause-idle : goal.returns-clause-idle
returns-clause-idle g c =
    ap (λ (v : SeatView). v.mode) (c.unblock.ensures.view _
    (ap (λ (s : SeatValue). s.view.mode) c.seat-2.ensures.value ∙ c.react_until_woken-reacted.ensures.mode ∙ ap (λ (v : SeatView). v.mode) c.block.ensures.view))

pub returns-clause-blocks : goal.returns-clause-blocks
returns-clause-blocks g c =
    let parker = c.args.parker in
    let blocked = ap (λ (v : SeatView). v.mode) c.block.ensures.view in
    let left = c.react_until_woken-reacted.new.cell in
    record {
      blocked = c.block.new.s.view;
      left = left.seat.view;
      blocks = ap (λ (v : SeatView). v.did) c.block.ensures.view ∙ ap (λ (s : SeatValue). s.view.did ++ word_step.StoreBlocked parker 1 0 ∷ []) c.seat.ensures.value;
      waits = c.react_until_woken-reacted.ensures.looks parker blocked;
      woken = of_parker (λ p. c.block.new.s.view.mode ≡ mode.Block p) c.react_until_woken-reacted.result (λ p. HasSeenWoken p left.seat.view) parker blocked c.react_until_woken-reacted.ensures.woken;
      unblocks = ap (λ (v : SeatView). v.did)
          (c.unblock.ensures.view parker (ap (λ (s : SeatValue). s.view.mode) c.seat-2.ensures.value ∙ c.react_until_woken-reacted.ensures.mode ∙ blocked))
          ∙ ap (λ (s : SeatValue). s.view.did ++ word_step.StoreBlocked parker 0 1 ∷ []) c.seat-2.ensures.value;
    }

pub returns-clause-tries : goal.returns-clause-tries
returns-clause-tries g c =
    let parker = c.args.parker in
    let blocked = ap (λ (v : SeatView). v.mode) c.block.ensures.view in
    let left = c.react_until_woken-reacted.new.cell in
    let r = c.react_until_woken-reacted.result in
    record {
      left = left;
      tries = subst (λ (x : CellValue g.row.W.Denot). TriesUntil g.N.Faults.fault_count c.args.shared.now.words.parkers c.args.shared.now.sure_of_arms (until (g.C.Clock.latest c.react_until_woken-reacted.new.clock) (start_of g.C.Clock.bounds g.C.Clock.latest g.W.EventWait.wait_step c.args.clock.now))
          parker r x left c.args.m.now c.react_until_woken-reacted.new.m)
          (cell_step (word_step.StoreBlocked parker 1 0) c.args.cell.now _ c.block.new.s c.seat.ensures.value c.block.ensures.words c.block.ensures.view)
          (c.react_until_woken-reacted.ensures.tries parker blocked);
      unblocks = cell_step (word_step.StoreBlocked parker 0 1) left _ c.unblock.new.s c.seat-2.ensures.value c.unblock.ensures.words
          (c.unblock.ensures.view parker (ap (λ (s : SeatValue). s.view.mode) c.seat-2.ensures.value ∙ c.react_until_woken-reacted.ensures.mode ∙ blocked));
    }
