use Rattle.aio_rules.specs.declared.seats.WordStep.TheVariants as word_step
use Rattle.aio_park.proofs.Holding.{member_step}
use Rattle.aio_park.proofs.blocking.take.Goals as goal

pub returns-clause-swapped : goal.returns-clause-swapped
returns-clause-swapped g c =
    member_step (word_step.SwapMask c.args.parker c.take.result) c.args.m.now c.words_pass.result.now c.take.new.p c.words_pass.ensures.value c.take.ensures.words c.take.ensures.view
