-- The logs of worked traces, computed.
use Rattle.std.proofs.Common.{◌≡◌, ℕ, [], ◌∷◌, None, codes, refl}
use Rattle.std.specs.Fmt.{digits}
use Rattle.aio_base.specs.declared.names.Dir.{Dir}
use Rattle.aio_base.specs.declared.names.Dir.TheVariants.{Read, Write}
use Rattle.aio_base.specs.declared.names.Interest.{Interest}
use Rattle.aio_base.specs.declared.names.TheConstants.Interest.{NONE, READ, READ_WRITE}
use Rattle.aio_base.specs.declared.outcomes.Which.TheVariants as which
use Rattle.aio_base.specs.declared.steps.Step.{Step}
use Rattle.aio_base.specs.declared.steps.Step.TheVariants as step
use Rattle.aio_base.specs.Lines.{written_line}
use Rattle.aio_base.specs.Machine.{step_result}
use Rattle.aio_base.specs.Script.{script_step}
use Rattle.aio_base.specs.Text.{answer_line}
use Rattle.aio_log.specs.Traces.{trace_log_lines}

abbrev poll : ℕ → Dir → ℕ → Step
poll key dir task = step.Poll (record { 0 = key }) dir (record { 0 = task })

abbrev event : ℕ → Interest → Step
event key on = step.Note (record { key = record { 0 = key }; on = on })

the_ordinary_path :
    trace_log_lines (step.Add ∷ poll 0 Read 7 ∷ event 0 READ ∷ step.React ∷ [])
    ≡ codes "log 1" ∷ codes "add" ∷ codes "key 0" ∷ codes "poll 0 r 7" ∷ codes "pending" ∷ codes "begin none" ∷ codes "begin 1 wait none" ∷ codes "wait"
    ∷ codes "given 1" ∷ codes "got 0 r" ∷ codes "handle" ∷ codes "handled 0" ∷ codes "finish" ∷ codes "end ok" ∷ codes "wake 7" ∷ []
unfolding step_result script_step written_line answer_line digits
the_ordinary_path = refl

no_step : trace_log_lines [] ≡ codes "log 1" ∷ []
no_step = refl

a_whole_round_within_another :
    trace_log_lines (step.Begin None ∷ step.React ∷ step.Finish ∷ [])
    ≡ codes "log 1" ∷ codes "begin none" ∷ codes "begin 1 wait none" ∷ codes "begin none" ∷ codes "locked" ∷ codes "finish" ∷ codes "end ok" ∷ []
unfolding step_result script_step written_line answer_line digits
a_whole_round_within_another = refl

a_wait_that_fails_and_one_that_is_interrupted :
    trace_log_lines (step.Fault which.Wait ∷ step.React ∷ step.Interrupt ∷ step.React ∷ [])
    ≡ codes "log 1" ∷ codes "begin none" ∷ codes "begin 1 wait none" ∷ codes "wait" ∷ codes "fault wait" ∷ codes "finish" ∷ codes "end fault wait"
    ∷ codes "begin none" ∷ codes "begin 2 wait none" ∷ codes "wait" ∷ codes "interrupted" ∷ codes "finish" ∷ codes "end ok" ∷ []
unfolding step_result script_step written_line answer_line digits
a_wait_that_fails_and_one_that_is_interrupted = refl

two_events_of_one_wait :
    trace_log_lines (event 0 READ_WRITE ∷ event 7 NONE ∷ step.React ∷ [])
    ≡ codes "log 1" ∷ codes "begin none" ∷ codes "begin 1 wait none" ∷ codes "wait" ∷ codes "given 2" ∷ codes "got 0 rw" ∷ codes "got 7 -"
    ∷ codes "handle" ∷ codes "handled 0" ∷ codes "handle" ∷ codes "handled 7" ∷ codes "finish" ∷ codes "end ok" ∷ []
unfolding step_result script_step written_line answer_line digits
two_events_of_one_wait = refl

an_arm_that_fails_in_a_whole_round :
    trace_log_lines (step.Add ∷ poll 0 Read 1 ∷ poll 0 Write 2 ∷ step.Fault which.Arm ∷ event 0 READ ∷ step.React ∷ [])
    ≡ codes "log 1" ∷ codes "add" ∷ codes "key 0" ∷ codes "poll 0 r 1" ∷ codes "pending" ∷ codes "poll 0 w 2" ∷ codes "pending"
    ∷ codes "begin none" ∷ codes "begin 1 wait none" ∷ codes "wait" ∷ codes "given 1" ∷ codes "got 0 r" ∷ codes "handle" ∷ codes "handled 0 fault arm"
    ∷ codes "finish" ∷ codes "end fault arm" ∷ codes "wake 1" ∷ []
unfolding step_result script_step written_line answer_line digits
an_arm_that_fails_in_a_whole_round = refl
