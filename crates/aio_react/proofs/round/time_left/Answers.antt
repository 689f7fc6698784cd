use Rattle.std.proofs.Common.{◌<◌, sym, ◌∙◌, arith}
use Rattle.aio_react.proofs.rounds.FirstDeadline.{first_above}
use Rattle.aio_react.proofs.round.time_left.Goals as goal

pub overflow_sub-left : goal.overflow_sub-left
overflow_sub-left c =
    let later : c.args.now < c.in_ok-deadline.deadline = first_above _ _ _ c.requires (sym c.in_ok-deadline.was ∙ c.first.ensures.value) in
    omega (arith, c.get.ensures.value, c.get-2.ensures.value)
