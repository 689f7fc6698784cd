-- A step that has a spelling is in range.
use Rattle.std.proofs.Common.{Some}
use Rattle.aio_base.specs.declared.steps.Step.{Step}
use Rattle.aio_base.specs.declared.steps.Step.TheVariants as step
use Rattle.aio_base.specs.Lines.{HasSpelling, IsInRange}

pub in_range : (s : Step) → HasSpelling s → IsInRange s
in_range (step.TimerEvery deadline period) fits = fits.1
in_range (step.SetEvery number deadline period) fits = fits.2
in_range (step.Begin (Some limit)) fits = fits
in_range _ fits = tt
