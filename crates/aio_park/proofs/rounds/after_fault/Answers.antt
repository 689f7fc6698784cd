use Rattle.std.proofs.Common.{refl, ap, Err}
use Rattle.aio_rules.specs.declared.seats.WordStep.TheVariants as word_step
use Rattle.aio_park.specs.Driving.LooksAfter.{HandsOn, FindsEnd, FindsLess}
use Rattle.aio_park.proofs.Holding.{member_step}
use Rattle.aio_park.proofs.rounds.after_fault.Goals as goal

pub returns-then-ticker : goal.returns-then-ticker
returns-then-ticker g c =
    FindsEnd c.ticker.result c.in-RoundsSpent.is
    (member_step (word_step.LoadTicker c.ticker.result) c.args.m.now c.words_pass.result.now c.ticker.new.p c.words_pass.ensures.value c.ticker.ensures.words c.ticker.ensures.view) c.if-ticker.true (ap Err c.in-RoundsSpent.is)

pub returns-else-ticker : goal.returns-else-ticker
returns-else-ticker g c =
    FindsLess c.ticker.result c.in-RoundsSpent.is
    (member_step (word_step.LoadTicker c.ticker.result) c.args.m.now c.words_pass.result.now c.ticker.new.p c.words_pass.ensures.value c.ticker.ensures.words c.ticker.ensures.view) c.if-ticker.false refl

pub returns-in_default : goal.returns-in_default
returns-in_default g c = HandsOn c.in_default.not-RoundsSpent refl refl
