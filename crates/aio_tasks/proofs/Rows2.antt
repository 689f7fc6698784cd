-- Inputs of the second version that were worked out by hand.
use Rattle.std.proofs.Common.{◌≡◌, ℕ, true, List, [], ◌∷◌, None, Some, Ok, codes, refl}
use Rattle.std.specs.Fmt.{digits}
use Rattle.std.specs.Prelude.{flat_map}
use Rattle.aio_base.specs.declared.steps.Step.TheVariants as step
use Rattle.aio_base.specs.Lines.{fault_of, step_read}
use Rattle.aio_base.specs.Machine.{step_result}
use Rattle.aio_base.specs.Script.{script_step}
use Rattle.aio_base.specs.Text.{answer_line, ended_line}
use Rattle.aio_base.specs.Trace.{trace_of}
use Rattle.aio_tasks.specs.declared.steps.LineFault2.TheVariants as second
use Rattle.aio_tasks.specs.declared.steps.Line2.TheVariants as line
use Rattle.aio_tasks.specs.declared.steps.Step2.TheVariants as step2
use Rattle.aio_tasks.specs.Lines2.{fault_of2, flags, second_read, written_line2}
use Rattle.aio_tasks.specs.Inputs.{Faulty, NoHeader, NoStepBehind, TooManySteps, input_of, lines_say, refused2}
use Rattle.aio_tasks.specs.Migrating.{migrated}
use Rattle.aio_tasks.specs.Tasks.{output2, reply_text2}

abbrev text : List (List ℕ) → List ℕ
text lines = flat_map ended_line lines

-- ## Which line is refused

pub a_second_repeat_is_refused : input_of (text (codes "trace 2" ∷ codes "repeat 2" ∷ codes "repeat 2" ∷ [])) ≡ refused2 3 NoStepBehind
unfolding input_of second_read
a_second_repeat_is_refused = refl

pub a_last_repeat_is_refused : (input_of (text (codes "trace 2" ∷ codes "add" ∷ codes "repeat 2" ∷ []))).refusal ≡ Some (record { line = 3; reason = NoStepBehind })
unfolding input_of second_read
a_last_repeat_is_refused = refl

pub what_is_no_name_is_refused : input_of (text (codes "trace 2" ∷ codes "poll 0 r a-b" ∷ [])) ≡ refused2 2 (Faulty second.Name)
unfolding input_of second_read
what_is_no_name_is_refused = refl

-- the last row but for its first eighty-one lines, which leave a repeat of 100,000 behind 3,900,001 steps
pub too_many_steps : lines_say 82 (Some 100000) 3900001 (codes "now 0" ∷ []) ≡ refused2 82 TooManySteps
unfolding second_read
too_many_steps = refl

pub just_as_many_steps_are_not_refused : (lines_say 82 (Some 100000) 3900000 (codes "now 0" ∷ [])).refusal ≡ None
unfolding second_read
just_as_many_steps_are_not_refused = refl

pub a_fault_of_its_own_comes_before_the_repeat : lines_say 3 (Some 2) 0 (codes "repeat 0" ∷ []) ≡ refused2 3 (Faulty second.Number)
unfolding second_read
a_fault_of_its_own_comes_before_the_repeat = refl

pub another_version_is_no_header : input_of (text (codes "trace 3" ∷ [])) ≡ refused2 1 NoHeader
unfolding input_of
another_version_is_no_header = refl

-- ## Lines

pub an_event_names_three_directions : second_read (codes "event 00 rwp") ≡ Ok (line.Step (step2.Plain (step.Note (record { key = record { 0 = 0 }; on = flags true true true }))))
unfolding second_read
an_event_names_three_directions = refl

pub sixteen_bytes_are_a_name : second_read (codes "tick 007 abcdefghij123456") ≡ Ok (line.Step (step2.Named (step.Tick 7 (record { 0 = 0 })) (codes "abcdefghij123456")))
unfolding second_read
sixteen_bytes_are_a_name = refl

pub seventeen_are_none : fault_of2 (codes "tick 7 abcdefghij1234567") ≡ Some second.Name
unfolding second_read
seventeen_are_none = refl

pub a_capital_begins_a_number : fault_of2 (codes "poll 0 p Web") ≡ Some second.Number
unfolding second_read
a_capital_begins_a_number = refl

pub directions_have_one_order : fault_of2 (codes "event 0 pr") ≡ Some second.Flags
unfolding second_read
directions_have_one_order = refl

pub a_task_has_a_number : fault_of2 (codes "task web api") ≡ Some second.Number
unfolding second_read
a_task_has_a_number = refl

pub a_number_is_no_name : fault_of2 (codes "task 7 8") ≡ Some second.Name
unfolding second_read
a_number_is_no_name = refl

-- ## What runs write

pub a_named_waker_is_woken_by_its_name :
    output2 (input_of (text (codes "trace 2" ∷ codes "add" ∷ codes "task web 7" ∷ codes "poll 0 p web" ∷ codes "event 0 rp" ∷ codes "react" ∷ codes "poll 0 p web" ∷ codes "task web 8"
    ∷ codes "poll 0 r api" ∷ codes "repeat 3" ∷ codes "now 5" ∷ []))).steps
    ≡ text (codes "key 0" ∷ codes "named" ∷ codes "pending" ∷ codes "noted" ∷ codes "round 1 events 1 ok" ∷ codes "wake web" ∷ codes "ready" ∷ codes "name taken" ∷ codes "no task"
    ∷ codes "at 5" ∷ codes "at 5" ∷ codes "at 5" ∷ [])
unfolding input_of second_read step_result script_step reply_text2 answer_line digits
a_named_waker_is_woken_by_its_name = refl

-- a task polls by its name and by its number; the name of another is given while its waker waits
pub a_name_and_its_number_are_one_task :
    output2 (input_of (text (codes "trace 2" ∷ codes "add" ∷ codes "task a 1" ∷ codes "poll 0 r a" ∷ codes "poll 0 r 2" ∷ codes "poll 0 r 001" ∷ codes "task b 2" ∷ codes "poll 0 r a" ∷ []))).steps
    ≡ text (codes "key 0" ∷ codes "named" ∷ codes "pending" ∷ codes "pending" ∷ codes "wake a" ∷ codes "pending" ∷ codes "wake 2" ∷ codes "named" ∷ codes "pending" ∷ [])
unfolding input_of second_read step_result script_step reply_text2 answer_line digits
a_name_and_its_number_are_one_task = refl

pub no_task_comes_first :
    output2 (input_of (text (codes "trace 2" ∷ codes "step 1 web" ∷ codes "tick 1 web" ∷ codes "poll 0 r web" ∷ codes "task web 7" ∷ codes "step 1 web" ∷ codes "tick 1 web" ∷ codes "poll 0 r web" ∷ []))).steps
    ≡ text (codes "no task" ∷ codes "no task" ∷ codes "no task" ∷ codes "named" ∷ codes "no listener" ∷ codes "no timer" ∷ codes "no source" ∷ [])
unfolding input_of second_read step_result script_step reply_text2 answer_line digits
no_task_comes_first = refl

pub each_run_of_a_task_line_is_answered :
    output2 (input_of (text (codes "trace 2" ∷ codes "task a 1" ∷ codes "repeat 2" ∷ codes "task b 1" ∷ codes "repeat 2" ∷ codes "task b 2" ∷ []))).steps
    ≡ text (codes "named" ∷ codes "name taken" ∷ codes "name taken" ∷ codes "named" ∷ codes "name taken" ∷ [])
unfolding input_of second_read step_result script_step reply_text2 answer_line digits
each_run_of_a_task_line_is_answered = refl

-- ## Migration

pub equal_steps_are_repeated : migrated (trace_of (text (codes "trace 1" ∷ codes "add" ∷ codes "event 0 r" ∷ codes "event  00 r" ∷ codes "react" ∷ []))).steps
    ≡ text (codes "trace 2" ∷ codes "add" ∷ codes "repeat 2" ∷ codes "event 0 r" ∷ codes "react" ∷ [])
unfolding migrated trace_of step_read fault_of written_line2 digits
equal_steps_are_repeated = refl
