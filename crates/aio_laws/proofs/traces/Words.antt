-- Words for the steps of worked traces.
use Rattle.std.proofs.Common.{ℕ, true, false, List}
use Rattle.std.specs.Prelude.{flat_map}
use Rattle.aio_base.specs.declared.names.TheConstants.Interest.{READ, WRITE}
use Rattle.aio_base.specs.declared.names.Key.{Key}
use Rattle.aio_base.specs.declared.names.Waker.{Waker}
use Rattle.aio_base.specs.declared.names.Dir.{Dir}
use Rattle.aio_base.specs.declared.names.Interest.{Interest}
use Rattle.aio_base.specs.declared.steps.Step.{Step}
use Rattle.aio_base.specs.declared.steps.Step.TheVariants as step
use Rattle.aio_base.specs.Text.{ended_line}

abbrev pub key : ℕ → Key
key number = record { 0 = number }

abbrev pub waker : ℕ → Waker
waker number = record { 0 = number }

abbrev pub reads : Interest
reads = READ

abbrev pub writes : Interest
writes = WRITE

abbrev pub poll : ℕ → Dir → ℕ → Step
poll number dir task = step.Poll (key number) dir (waker task)

abbrev pub new : ℕ → Dir → Step
new number dir = step.New (key number) dir

-- a poll of a listener
abbrev pub listen : ℕ → ℕ → Step
listen number task = step.StepEar number (waker task)

abbrev pub tick : ℕ → ℕ → Step
tick number task = step.Tick number (waker task)

abbrev pub event : ℕ → Interest → Step
event number on = step.Note (record { key = key number; on = on })

abbrev pub lines : List (List ℕ) → List ℕ
lines texts = flat_map ended_line texts
