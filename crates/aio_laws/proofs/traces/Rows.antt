-- Worked traces, computed: what the machine writes for each list of steps, and what an input of bytes says.
use Rattle.std.proofs.Common.{◌≡◌, ℕ, [], ◌∷◌, ◌++◌, true, false, None, Some, codes, refl}
use Rattle.std.specs.Fmt.{digits}
use Rattle.aio_base.specs.declared.names.TheConstants.Interest.{READ_WRITE, NONE}
use Rattle.aio_base.specs.declared.names.Dir.TheVariants.{Read, Write}
use Rattle.aio_base.specs.declared.names.Interest.{Interest}
use Rattle.aio_base.specs.declared.outcomes.Which.TheVariants as which
use Rattle.aio_base.specs.declared.steps.LineFault.TheVariants as fault
use Rattle.aio_base.specs.declared.steps.Step.{Step}
use Rattle.aio_base.specs.declared.steps.Step.TheVariants as step
use Rattle.aio_base.specs.declared.steps.Reason.TheVariants as reason
use Rattle.aio_base.specs.Machine.{step_result}
use Rattle.aio_base.specs.Script.{script_step, reply_text, output}
use Rattle.aio_base.specs.Text.{answer_line}
use Rattle.aio_base.specs.Lines.{fault_of, step_read}
use Rattle.aio_base.specs.Trace.{trace_from, trace_of}
use Rattle.aio_laws.proofs.traces.Words.{key, reads, writes, poll, new, listen, tick, event, lines}

-- ## Words for steps

abbrev both : Interest
both = READ_WRITE

abbrev neither : Interest
neither = NONE

abbrev add : Step
add = step.Add

abbrev del : ℕ → Step
del number = step.Del (key number)

abbrev forget : ℕ → Step
forget number = step.DropEar number

-- ## What the machine writes

-- the ordinary path
pub an_event_wakes_the_poll_waiter_and_makes_it_ready :
    output (add ∷ poll 0 Read 7 ∷ event 0 reads ∷ step.React ∷ poll 0 Read 7 ∷ [])
    ≡ lines (codes "key 0" ∷ codes "pending" ∷ codes "noted" ∷ codes "round 1 events 1 ok" ∷ codes "wake 7" ∷ codes "ready" ∷ [])
unfolding step_result script_step reply_text answer_line digits
an_event_wakes_the_poll_waiter_and_makes_it_ready = refl

-- one poll waiter for each direction
pub a_second_waker_replaces_the_first_and_wakes_it :
    output (add ∷ poll 0 Read 1 ∷ poll 0 Read 2 ∷ [])
    ≡ lines (codes "key 0" ∷ codes "pending" ∷ codes "pending" ∷ codes "wake 1" ∷ [])
unfolding step_result script_step reply_text answer_line digits
a_second_waker_replaces_the_first_and_wakes_it = refl

-- a due fault shows which polls arm; the last one arms, since the source is broken
pub a_poll_with_the_same_waker_arms_nothing :
    output (add ∷ poll 0 Read 1 ∷ step.Fault which.Arm ∷ poll 0 Read 1 ∷ poll 0 Write 2 ∷ poll 0 Read 1 ∷ [])
    ≡ lines (codes "key 0" ∷ codes "pending" ∷ codes "noted" ∷ codes "pending" ∷ codes "fault arm" ∷ codes "pending" ∷ [])
unfolding step_result script_step reply_text answer_line digits
a_poll_with_the_same_waker_arms_nothing = refl

-- the waiter was stored after the round began
pub an_event_of_the_running_round_is_not_fresh :
    output (add ∷ step.Begin None ∷ poll 0 Read 7 ∷ event 0 reads ∷ step.Wait ∷ step.Handle ∷ step.Finish ∷ poll 0 Read 7 ∷ [])
    ≡ lines (codes "key 0" ∷ codes "begin 1 wait none" ∷ codes "pending" ∷ codes "noted" ∷ codes "given 1" ∷ codes "handled 0" ∷ codes "end ok" ∷
    codes "wake 7" ∷ codes "pending" ∷ [])
unfolding step_result script_step reply_text answer_line digits
an_event_of_the_running_round_is_not_fresh = refl

-- the second event is of reading and writing
pub the_rest_is_armed_again_and_write_goes_first :
    output (add ∷ poll 0 Read 1 ∷ poll 0 Write 2 ∷ event 0 reads ∷ step.React ∷ poll 0 Read 1 ∷ poll 0 Read 1 ∷ event 0 both ∷ step.React ∷ [])
    ≡ lines (codes "key 0" ∷ codes "pending" ∷ codes "pending" ∷ codes "noted" ∷ codes "round 1 events 1 ok" ∷ codes "wake 1" ∷ codes "ready" ∷
    codes "pending" ∷ codes "noted" ∷ codes "round 2 events 1 ok" ∷ codes "wake 2" ∷ codes "wake 1" ∷ [])
unfolding step_result script_step reply_text answer_line digits
the_rest_is_armed_again_and_write_goes_first = refl

-- the next poll arms again, though its waker is the same
pub a_failed_arm_in_a_round_is_told_and_loses_no_wake :
    output (add ∷ poll 0 Read 1 ∷ poll 0 Write 2 ∷ step.Fault which.Arm ∷ event 0 reads ∷ step.React ∷ poll 0 Write 2 ∷ event 0 writes ∷ step.React ∷
    [])
    ≡ lines (codes "key 0" ∷ codes "pending" ∷ codes "pending" ∷ codes "noted" ∷ codes "noted" ∷ codes "round 1 events 1 fault arm" ∷ codes "wake 1" ∷
    codes "pending" ∷ codes "noted" ∷ codes "round 2 events 1 ok" ∷ codes "wake 2" ∷ [])
unfolding step_result script_step reply_text answer_line digits
a_failed_arm_in_a_round_is_told_and_loses_no_wake = refl

-- it counts among the events of the round
pub an_event_of_an_unknown_key_is_dropped :
    output (event 9 both ∷ step.React ∷ [])
    ≡ lines (codes "noted" ∷ codes "round 1 events 1 ok" ∷ [])
unfolding step_result script_step reply_text answer_line digits
an_event_of_an_unknown_key_is_dropped = refl

-- the event was given before the key was used again
pub a_stale_event_makes_no_new_source_ready :
    output (add ∷ poll 0 Read 1 ∷ event 0 reads ∷ step.Begin None ∷ step.Wait ∷ del 0 ∷ add ∷ poll 0 Read 2 ∷ step.Handle ∷ step.Finish ∷
    poll 0 Read 2 ∷ [])
    ≡ lines (codes "key 0" ∷ codes "pending" ∷ codes "noted" ∷ codes "begin 1 wait none" ∷ codes "given 1" ∷ codes "gone" ∷ codes "key 0" ∷
    codes "pending" ∷ codes "handled 0" ∷ codes "end ok" ∷ codes "wake 2" ∷ codes "pending" ∷ [])
unfolding step_result script_step reply_text answer_line digits
a_stale_event_makes_no_new_source_ready = refl

-- the wait gave no event and its limit was not 0
pub a_deadline_equal_to_the_moment_fires_in_the_second_pass :
    output (step.Now 100 ∷ step.TimerAt 150 ∷ tick 1 5 ∷ step.Begin None ∷ step.Now 150 ∷ step.Wait ∷ step.Finish ∷ tick 1 5 ∷ tick 1 5 ∷ [])
    ≡ lines (codes "at 100" ∷ codes "timer 1" ∷ codes "pending" ∷ codes "begin 1 wait 50" ∷ codes "at 150" ∷ codes "given 0" ∷ codes "end ok" ∷
    codes "wake 5" ∷ codes "ready 150" ∷ codes "pending" ∷ [])
unfolding step_result script_step reply_text answer_line digits
a_deadline_equal_to_the_moment_fires_in_the_second_pass = refl

-- not in the order of their wakers
pub equal_deadlines_fire_in_the_order_of_registration :
    output (step.TimerAt 150 ∷ step.TimerAt 150 ∷ tick 1 5 ∷ tick 2 4 ∷ step.Now 150 ∷ step.React ∷ [])
    ≡ lines (codes "timer 1" ∷ codes "timer 2" ∷ codes "pending" ∷ codes "pending" ∷ codes "at 150" ∷ codes "round 1 events 0 ok" ∷ codes "wake 5" ∷
    codes "wake 4" ∷ [])
unfolding step_result script_step reply_text answer_line digits
equal_deadlines_fire_in_the_order_of_registration = refl

-- one that was given up is passed over, and a ready one stays ready
pub listeners_wake_in_the_order_of_their_first_poll :
    output (add ∷ new 0 Read ∷ new 0 Read ∷ new 0 Read ∷ listen 1 11 ∷ listen 2 12 ∷ listen 3 13 ∷ forget 2 ∷ new 0 Read ∷ listen 4 14 ∷
    event 0 reads ∷ step.React ∷ listen 4 14 ∷ listen 4 14 ∷ [])
    ≡ lines (codes "key 0" ∷ codes "listener 1" ∷ codes "listener 2" ∷ codes "listener 3" ∷ codes "pending" ∷ codes "pending" ∷ codes "pending" ∷
    codes "dropped" ∷ codes "listener 4" ∷ codes "pending" ∷ codes "noted" ∷ codes "round 1 events 1 ok" ∷ codes "wake 11" ∷ codes "wake 13" ∷
    codes "wake 14" ∷ codes "ready" ∷ codes "ready" ∷ [])
unfolding step_result script_step reply_text answer_line digits
listeners_wake_in_the_order_of_their_first_poll = refl

-- each at its own deadline
pub missed_periods_are_told_one_after_the_other :
    output (step.TimerEvery 10 10 ∷ step.Now 35 ∷ tick 1 5 ∷ tick 1 5 ∷ tick 1 5 ∷ tick 1 5 ∷ [])
    ≡ lines (codes "timer 1" ∷ codes "at 35" ∷ codes "ready 10" ∷ codes "ready 20" ∷ codes "ready 30" ∷ codes "pending" ∷ [])
unfolding step_result script_step reply_text answer_line digits
missed_periods_are_told_one_after_the_other = refl

-- the sum of deadline and period is above 10^18
pub a_period_past_the_last_moment_leaves_no_deadline :
    output (step.TimerEvery 1000000000000000000 1 ∷ step.Now 1000000000000000000 ∷ tick 1 5 ∷ tick 1 5 ∷ [])
    ≡ lines (codes "timer 1" ∷ codes "at 1000000000000000000" ∷ codes "ready 1000000000000000000" ∷ codes "pending" ∷ [])
unfolding step_result script_step reply_text answer_line digits
a_period_past_the_last_moment_leaves_no_deadline = refl

-- its registration goes with it
pub a_timer_that_was_given_up_wakes_nobody :
    output (step.TimerAt 50 ∷ tick 1 5 ∷ step.End 1 ∷ step.Now 60 ∷ step.React ∷ tick 1 5 ∷ [])
    ≡ lines (codes "timer 1" ∷ codes "pending" ∷ codes "ended" ∷ codes "at 60" ∷ codes "round 1 events 0 ok" ∷ codes "no timer" ∷ [])
unfolding step_result script_step reply_text answer_line digits
a_timer_that_was_given_up_wakes_nobody = refl

-- the pass took a timer, so the limit is 0
pub a_failed_wait_keeps_the_wakers_of_the_pass :
    output (step.TimerAt 10 ∷ tick 1 5 ∷ step.Now 10 ∷ step.Fault which.Wait ∷ step.Begin None ∷ step.Wait ∷ step.Finish ∷ [])
    ≡ lines (codes "timer 1" ∷ codes "pending" ∷ codes "at 10" ∷ codes "noted" ∷ codes "begin 1 wait 0" ∷ codes "fault wait" ∷
    codes "end fault wait" ∷ codes "wake 5" ∷ [])
unfolding step_result script_step reply_text answer_line digits
a_failed_wait_keeps_the_wakers_of_the_pass = refl

-- the timer is taken by the next round
pub an_interrupted_wait_gives_no_second_pass :
    output (step.TimerAt 10 ∷ tick 1 5 ∷ step.Interrupt ∷ step.Begin None ∷ step.Now 10 ∷ step.Wait ∷ step.Finish ∷ step.React ∷ [])
    ≡ lines (codes "timer 1" ∷ codes "pending" ∷ codes "noted" ∷ codes "begin 1 wait 10" ∷ codes "at 10" ∷ codes "interrupted" ∷ codes "end ok" ∷
    codes "round 2 events 0 ok" ∷ codes "wake 5" ∷ [])
unfolding step_result script_step reply_text answer_line digits
an_interrupted_wait_gives_no_second_pass = refl

-- sections of a round out of turn, and a source that a listener uses
pub a_step_out_of_its_phase_is_refused_and_changes_nothing :
    output (add ∷ step.Handle ∷ step.Begin (Some 0) ∷ step.React ∷ event 0 reads ∷ step.Wait ∷ step.Finish ∷ step.Handle ∷ step.Handle ∷ step.Finish ∷
    new 0 Write ∷ del 0 ∷ forget 1 ∷ del 0 ∷ poll 0 Read 1 ∷ [])
    ≡ lines (codes "key 0" ∷ codes "no round" ∷ codes "begin 1 wait 0" ∷ codes "locked" ∷ codes "noted" ∷ codes "given 1" ∷ codes "events 1" ∷
    codes "handled 0" ∷ codes "empty" ∷ codes "end ok" ∷ codes "listener 1" ∷ codes "in use" ∷ codes "dropped" ∷ codes "gone" ∷ codes "no source" ∷
    [])
unfolding step_result script_step reply_text answer_line digits
a_step_out_of_its_phase_is_refused_and_changes_nothing = refl

-- a source that could not be taken out is gone all the same
pub each_fault_of_the_poller_is_told_once :
    output (step.Fault which.Add ∷ add ∷ add ∷ step.Fault which.Remove ∷ del 0 ∷ add ∷ step.Fault which.Arm ∷ poll 0 Read 3 ∷ poll 0 Read 3 ∷
    event 0 reads ∷ step.React ∷ [])
    ≡ lines (codes "noted" ∷ codes "fault add" ∷ codes "key 0" ∷ codes "noted" ∷ codes "fault remove" ∷ codes "key 0" ∷ codes "noted" ∷
    codes "fault arm" ∷ codes "pending" ∷ codes "noted" ∷ codes "round 1 events 1 ok" ∷ codes "wake 3" ∷ [])
unfolding step_result script_step reply_text answer_line digits
each_fault_of_the_poller_is_told_once = refl

-- one that was never polled keeps no waker, so it is not registered; the clock never goes back
pub a_timer_that_is_set_fires_at_its_new_deadline :
    output (step.TimerAt 50 ∷ tick 1 5 ∷ step.SetAt 1 20 ∷ step.TimerNever ∷ tick 2 6 ∷ step.SetAt 2 20 ∷ step.Now 20 ∷ step.React ∷ tick 2 6 ∷
    step.Now 19 ∷ [])
    ≡ lines (codes "timer 1" ∷ codes "pending" ∷ codes "set" ∷ codes "timer 2" ∷ codes "pending" ∷ codes "set" ∷ codes "at 20" ∷
    codes "round 1 events 0 ok" ∷ codes "wake 5" ∷ codes "ready 20" ∷ codes "back 20" ∷ [])
unfolding step_result script_step reply_text answer_line digits
a_timer_that_is_set_fires_at_its_new_deadline = refl

-- each period is told from the deadline that was set
pub a_timer_that_is_set_with_a_period_goes_on_from_its_new_deadline :
    output (step.TimerAt 50 ∷ tick 1 1 ∷ step.SetEvery 1 10 10 ∷ step.Now 25 ∷ tick 1 1 ∷ tick 1 1 ∷ tick 1 1 ∷ [])
    ≡ lines (codes "timer 1" ∷ codes "pending" ∷ codes "set" ∷ codes "at 25" ∷ codes "ready 10" ∷ codes "ready 20" ∷ codes "pending" ∷ [])
unfolding step_result script_step reply_text answer_line digits
a_timer_that_is_set_with_a_period_goes_on_from_its_new_deadline = refl

-- a listener for the server, a poll and a timer with one waker for the connection
pub a_server_accepts_and_a_connection_times_out :
    output (add ∷ add ∷ new 0 Read ∷ listen 1 64 ∷ poll 1 Read 65 ∷ step.TimerAt 1000 ∷ tick 1 65 ∷ event 0 reads ∷ step.Begin None ∷ step.Wait ∷
    step.Handle ∷ step.Finish ∷ listen 1 64 ∷ forget 1 ∷ step.Now 1000 ∷ step.React ∷ tick 1 65 ∷ poll 1 Read 65 ∷ del 1 ∷ [])
    ≡ lines (codes "key 0" ∷ codes "key 1" ∷ codes "listener 1" ∷ codes "pending" ∷ codes "pending" ∷ codes "timer 1" ∷ codes "pending" ∷
    codes "noted" ∷ codes "begin 1 wait 1000" ∷ codes "given 1" ∷ codes "handled 0" ∷ codes "end ok" ∷ codes "wake 64" ∷ codes "ready" ∷
    codes "dropped" ∷ codes "at 1000" ∷ codes "round 2 events 0 ok" ∷ codes "wake 65" ∷ codes "ready 1000" ∷ codes "pending" ∷ codes "gone" ∷ [])
unfolding step_result script_step reply_text answer_line digits
a_server_accepts_and_a_connection_times_out = refl

-- the second waiter was stored while the round ran
pub two_events_of_a_source_in_one_round_wake_each_waiter_once :
    output (add ∷ poll 0 Read 1 ∷ event 0 reads ∷ event 0 reads ∷ step.Begin None ∷ step.Wait ∷ step.Handle ∷ poll 0 Read 2 ∷ poll 0 Read 2 ∷
    step.Handle ∷ step.Finish ∷ poll 0 Read 2 ∷ [])
    ≡ lines (codes "key 0" ∷ codes "pending" ∷ codes "noted" ∷ codes "noted" ∷ codes "begin 1 wait none" ∷ codes "given 2" ∷ codes "handled 0" ∷
    codes "ready" ∷ codes "pending" ∷ codes "handled 0" ∷ codes "end ok" ∷ codes "wake 1" ∷ codes "wake 2" ∷ codes "pending" ∷ [])
unfolding step_result script_step reply_text answer_line digits
two_events_of_a_source_in_one_round_wake_each_waiter_once = refl

-- a wait that failed may be made again in the same round
pub the_first_fault_of_a_round_is_the_one_that_its_end_tells :
    output (add ∷ poll 0 Read 1 ∷ poll 0 Write 2 ∷ event 0 reads ∷ step.Begin None ∷ step.Fault which.Wait ∷ step.Wait ∷ step.Wait ∷
    step.Fault which.Arm ∷ step.Handle ∷ step.Finish ∷ poll 0 Write 2 ∷ [])
    ≡ lines (codes "key 0" ∷ codes "pending" ∷ codes "pending" ∷ codes "noted" ∷ codes "begin 1 wait none" ∷ codes "noted" ∷ codes "fault wait" ∷
    codes "given 1" ∷ codes "noted" ∷ codes "handled 0 fault arm" ∷ codes "end fault wait" ∷ codes "wake 1" ∷ codes "pending" ∷ [])
unfolding step_result script_step reply_text answer_line digits
the_first_fault_of_a_round_is_the_one_that_its_end_tells = refl

-- ## What an input says

-- no step, and no line is refused
pub a_header_alone_says_no_step :
    trace_of (lines (codes "trace 1" ∷ []))
    ≡ record { steps = []; refusal = None }
unfolding trace_of step_read fault_of digits
a_header_alone_says_no_step = refl

-- the last line may lack its line feed
pub a_header_without_a_line_feed_says_no_step :
    trace_of (codes "trace 1")
    ≡ record { steps = []; refusal = None }
unfolding trace_of step_read fault_of digits
a_header_without_a_line_feed_says_no_step = refl

-- it is refused at its first line
pub an_empty_input_has_no_header :
    trace_of ([])
    ≡ record { steps = []; refusal = Some (record { line = 1; reason = reason.Header }) }
unfolding trace_of step_read fault_of digits
an_empty_input_has_no_header = refl

-- a line feed alone
pub an_empty_first_line_is_no_header :
    trace_of (10 ∷ [])
    ≡ record { steps = []; refusal = Some (record { line = 1; reason = reason.Header }) }
unfolding trace_of step_read fault_of digits
an_empty_first_line_is_no_header = refl

-- a header has exactly the two words
pub another_version_is_no_header :
    trace_of (lines (codes "trace 2" ∷ codes "add" ∷ []))
    ≡ record { steps = []; refusal = Some (record { line = 1; reason = reason.Header }) }
unfolding trace_of step_read fault_of digits
another_version_is_no_header = refl

-- it counts as a space
pub a_header_may_end_in_a_carriage_return :
    trace_of (codes "trace 1" ++ 13 ∷ 10 ∷ [])
    ≡ record { steps = []; refusal = None }
unfolding trace_of step_read fault_of digits
a_header_may_end_in_a_carriage_return = refl

-- words are parted by spaces and tabs
pub a_header_may_have_blanks :
    trace_of (codes "  trace " ++ 9 ∷ codes "1 " ++ 13 ∷ 10 ∷ codes "add")
    ≡ record { steps = add ∷ []; refusal = None }
unfolding trace_of step_read fault_of digits
a_header_may_have_blanks = refl

-- its second word is no number
pub a_leading_zero_makes_no_header :
    trace_of (codes "trace 01")
    ≡ record { steps = []; refusal = Some (record { line = 1; reason = reason.Header }) }
unfolding trace_of step_read fault_of digits
a_leading_zero_makes_no_header = refl

-- a third word
pub a_word_too_many_makes_no_header :
    trace_of (codes "trace 1 2")
    ≡ record { steps = []; refusal = Some (record { line = 1; reason = reason.Header }) }
unfolding trace_of step_read fault_of digits
a_word_too_many_makes_no_header = refl

-- whatever the fault of such a line
pub a_first_line_with_another_byte_is_no_header :
    trace_of (codes "trace 1" ++ 0 ∷ [])
    ≡ record { steps = []; refusal = Some (record { line = 1; reason = reason.Header }) }
unfolding trace_of step_read fault_of digits
a_first_line_with_another_byte_is_no_header = refl

-- the ordinary path from its bytes
pub an_input_says_its_steps_in_order :
    trace_of (lines (codes "trace 1" ∷ codes "add" ∷ codes "poll 0 r 7" ∷ codes "event 0 r" ∷ codes "react" ∷ codes "poll 0 r 7" ∷ []))
    ≡ record { steps = add ∷ poll 0 Read 7 ∷ event 0 reads ∷ step.React ∷ poll 0 Read 7 ∷ []; refusal = None }
unfolding trace_of step_read fault_of digits
an_input_says_its_steps_in_order = refl

-- a source with a listener, and a fault of its removal
pub an_input_with_a_listener_says_its_steps_in_order :
    trace_of (lines (codes "trace 1" ∷ codes "add" ∷ codes "new 0 r" ∷ codes "step 1 11" ∷ codes "drop 1" ∷ codes "fault remove" ∷ codes "del 0" ∷ []))
    ≡ record { steps = add ∷ new 0 Read ∷ listen 1 11 ∷ forget 1 ∷ step.Fault which.Remove ∷ del 0 ∷ []; refusal = None }
unfolding trace_of step_read fault_of digits
an_input_with_a_listener_says_its_steps_in_order = refl

-- no line after it counts
pub a_line_that_reads_as_no_step_is_refused_after_the_steps_before_it :
    trace_of (lines (codes "trace 1" ∷ codes "add" ∷ codes "intermit" ∷ codes "react" ∷ []))
    ≡ record { steps = add ∷ []; refusal = Some (record { line = 3; reason = reason.Command }) }
unfolding trace_of step_read fault_of digits
a_line_that_reads_as_no_step_is_refused_after_the_steps_before_it = refl

-- before the first word and behind the last
pub a_line_may_have_blanks_around_its_words :
    trace_of (lines (codes "trace 1" ∷ codes " add" ∷ codes " poll  007 r 1 " ∷ []))
    ≡ record { steps = add ∷ poll 7 Read 1 ∷ []; refusal = None }
unfolding trace_of step_read fault_of digits
a_line_may_have_blanks_around_its_words = refl

-- two line feeds one after the other
pub an_empty_line_is_refused :
    trace_of (lines (codes "trace 1" ∷ codes "" ∷ codes "add" ∷ []))
    ≡ record { steps = []; refusal = Some (record { line = 2; reason = reason.Empty }) }
unfolding trace_of step_read fault_of digits
an_empty_line_is_refused = refl

-- it is refused as a line
pub a_second_header_is_no_step :
    trace_of (lines (codes "trace 1" ∷ codes "trace 1" ∷ []))
    ≡ record { steps = []; refusal = Some (record { line = 2; reason = reason.Command }) }
unfolding trace_of step_read fault_of digits
a_second_header_is_no_step = refl

-- as any other
pub a_last_line_without_a_line_feed_is_read :
    trace_of (lines (codes "trace 1" ∷ codes "add" ∷ []) ++ codes "react")
    ≡ record { steps = add ∷ step.React ∷ []; refusal = None }
unfolding trace_of step_read fault_of digits
a_last_line_without_a_line_feed_is_read = refl

-- the header is among the million lines
pub the_last_line_within_the_limit_is_read : trace_from 1000000 (codes "add" ∷ []) ≡ record { steps = add ∷ []; refusal = None }
unfolding step_read fault_of digits
the_last_line_within_the_limit_is_read = refl

-- whatever it holds
pub a_line_past_the_limit_is_refused : trace_from 1000000 (codes "add" ∷ codes "none" ∷ []) ≡ record { steps = add ∷ []; refusal = Some (record { line = 1000001; reason = reason.Lines }) }
unfolding step_read fault_of digits
a_line_past_the_limit_is_refused = refl

-- ## What a line reads as

-- three places
pub a_poll_line_reads_as_a_poll : step_read (codes "poll 0 r 7") ≡ Some (poll 0 Read 7)
unfolding step_read digits
a_poll_line_reads_as_a_poll = refl

-- 4,294,967,295 in both places
pub the_greatest_number_is_read : step_read (codes "poll 4294967295 w 4294967295") ≡ Some (poll 4294967295 Write 4294967295)
unfolding step_read digits
the_greatest_number_is_read = refl

-- a number may have more than one spelling
pub leading_zeros_are_read : step_read (codes "poll 007 r 1") ≡ Some (poll 7 Read 1)
unfolding step_read digits
leading_zeros_are_read = refl

-- 2^32 is above every key
pub a_number_past_the_range_is_refused : fault_of (codes "poll 4294967296 r 1") ≡ Some fault.Number
unfolding fault_of digits
a_number_past_the_range_is_refused = refl

-- 2^32 is above every waker
pub a_waker_past_the_range_is_refused : fault_of (codes "poll 1 r 4294967296") ≡ Some fault.Number
unfolding fault_of digits
a_waker_past_the_range_is_refused = refl

-- read comes first
pub an_event_may_name_both_directions : step_read (codes "event 0 rw") ≡ Some (event 0 both)
unfolding step_read digits
an_event_may_name_both_directions = refl

-- a dash stands for none
pub an_event_may_name_no_direction : step_read (codes "event 0 -") ≡ Some (event 0 neither)
unfolding step_read digits
an_event_may_name_no_direction = refl

-- write alone
pub an_event_may_name_one_direction : step_read (codes "event 12 w") ≡ Some (event 12 writes)
unfolding step_read digits
an_event_may_name_one_direction = refl

-- read before write
pub the_directions_of_an_event_have_one_order : fault_of (codes "event 0 wr") ≡ Some fault.Flags
unfolding fault_of digits
the_directions_of_an_event_have_one_order = refl

-- behind the last word
pub a_trailing_space_is_read : step_read (codes "add ") ≡ Some add
unfolding step_read digits
a_trailing_space_is_read = refl

-- it counts as a space
pub a_carriage_return_at_the_end_is_read : step_read (codes "add" ++ 13 ∷ []) ≡ Some add
unfolding step_read digits
a_carriage_return_at_the_end_is_read = refl

-- a poll without a waker
pub a_missing_place_is_refused : fault_of (codes "poll 0 r") ≡ Some fault.Count
unfolding fault_of digits
a_missing_place_is_refused = refl

-- a poll with an empty waker
pub an_empty_place_is_refused : fault_of (codes "poll 0 r ") ≡ Some fault.Count
unfolding fault_of digits
an_empty_place_is_refused = refl

-- one step for a line
pub a_word_too_many_is_refused : fault_of (codes "react react") ≡ Some fault.Count
unfolding fault_of digits
a_word_too_many_is_refused = refl

-- as one space does
pub two_spaces_part_words : step_read (codes "poll  0 r 7") ≡ Some (poll 0 Read 7)
unfolding step_read digits
two_spaces_part_words = refl

-- only r and w
pub another_direction_is_refused : fault_of (codes "poll 0 x 1") ≡ Some fault.Direction
unfolding fault_of digits
another_direction_is_refused = refl

-- not both
pub a_poll_has_one_direction : fault_of (codes "poll 0 rw 1") ≡ Some fault.Direction
unfolding fault_of digits
a_poll_has_one_direction = refl

-- numbers have digits alone
pub a_sign_is_no_digit : fault_of (codes "poll +1 r 1") ≡ Some fault.Number
unfolding fault_of digits
a_sign_is_no_digit = refl

-- numbers have digits alone
pub a_letter_is_no_digit : fault_of (codes "poll a r 1") ≡ Some fault.Number
unfolding fault_of digits
a_letter_is_no_digit = refl

-- a slash stands right before the digits
pub a_byte_below_the_digits_is_no_digit : fault_of (codes "poll / r 1") ≡ Some fault.Number
unfolding fault_of digits
a_byte_below_the_digits_is_no_digit = refl

-- as written
pub commands_are_in_lower_case : fault_of (codes "Add") ≡ Some fault.Command
unfolding fault_of digits
commands_are_in_lower_case = refl

-- a key
pub a_del_line_reads_as_a_removal : step_read (codes "del 7") ≡ Some (del 7)
unfolding step_read digits
a_del_line_reads_as_a_removal = refl

-- 2^32 is above every key
pub a_key_past_the_range_is_refused : fault_of (codes "del 4294967296") ≡ Some fault.Number
unfolding fault_of digits
a_key_past_the_range_is_refused = refl

-- one key
pub a_removal_names_one_source : fault_of (codes "del 0 1") ≡ Some fault.Count
unfolding fault_of digits
a_removal_names_one_source = refl

-- a removal without a key
pub a_removal_names_a_source : fault_of (codes "del") ≡ Some fault.Count
unfolding fault_of digits
a_removal_names_a_source = refl

-- two places
pub a_new_line_reads_as_a_new_listener : step_read (codes "new 0 r") ≡ Some (new 0 Read)
unfolding step_read digits
a_new_line_reads_as_a_new_listener = refl

-- a listener has one direction
pub a_listener_of_both_directions_is_refused : fault_of (codes "new 0 rw") ≡ Some fault.Direction
unfolding fault_of digits
a_listener_of_both_directions_is_refused = refl

-- a listener without a direction
pub a_missing_direction_is_refused : fault_of (codes "new 0") ≡ Some fault.Count
unfolding fault_of digits
a_missing_direction_is_refused = refl

-- two places
pub a_step_line_reads_as_a_poll_of_a_listener : step_read (codes "step 1 11") ≡ Some (listen 1 11)
unfolding step_read digits
a_step_line_reads_as_a_poll_of_a_listener = refl

-- 4,294,967,295 in both places
pub the_greatest_listener_is_read : step_read (codes "step 4294967295 4294967295") ≡ Some (listen 4294967295 4294967295)
unfolding step_read digits
the_greatest_listener_is_read = refl

-- 2^32 is above every number of a listener
pub a_listener_past_the_range_is_refused : fault_of (codes "step 4294967296 1") ≡ Some fault.Number
unfolding fault_of digits
a_listener_past_the_range_is_refused = refl

-- 2^32 is above every waker
pub a_listener_with_a_waker_past_the_range_is_refused : fault_of (codes "step 1 4294967296") ≡ Some fault.Number
unfolding fault_of digits
a_listener_with_a_waker_past_the_range_is_refused = refl

-- a poll of a listener without a waker
pub a_missing_waker_is_refused : fault_of (codes "step 1") ≡ Some fault.Count
unfolding fault_of digits
a_missing_waker_is_refused = refl

-- a number
pub a_drop_line_reads_as_the_giving_up_of_a_listener : step_read (codes "drop 2") ≡ Some (forget 2)
unfolding step_read digits
a_drop_line_reads_as_the_giving_up_of_a_listener = refl

-- a number may have more than one spelling
pub a_leading_zero_of_a_listener_is_read : step_read (codes "drop 02") ≡ Some (forget 2)
unfolding step_read digits
a_leading_zero_of_a_listener_is_read = refl

-- one listener
pub a_giving_up_names_one_listener : fault_of (codes "drop 1 2") ≡ Some fault.Count
unfolding fault_of digits
a_giving_up_names_one_listener = refl

-- one of the calls of the poller
pub a_fault_may_be_of_an_add : step_read (codes "fault add") ≡ Some (step.Fault which.Add)
unfolding step_read digits
a_fault_may_be_of_an_add = refl

-- one of the calls of the poller
pub a_fault_may_be_of_an_arm : step_read (codes "fault arm") ≡ Some (step.Fault which.Arm)
unfolding step_read digits
a_fault_may_be_of_an_arm = refl

-- one of the calls of the poller
pub a_fault_may_be_of_a_remove : step_read (codes "fault remove") ≡ Some (step.Fault which.Remove)
unfolding step_read digits
a_fault_may_be_of_a_remove = refl

-- one of the calls of the poller
pub a_fault_may_be_of_a_wait : step_read (codes "fault wait") ≡ Some (step.Fault which.Wait)
unfolding step_read digits
a_fault_may_be_of_a_wait = refl

-- ## Lines of a round in sections

pub a_begin_line_may_have_no_limit : step_read (codes "begin none") ≡ Some (step.Begin None)
unfolding step_read digits
a_begin_line_may_have_no_limit = refl

pub a_begin_line_may_have_the_limit_0 : step_read (codes "begin 0") ≡ Some (step.Begin (Some 0))
unfolding step_read digits
a_begin_line_may_have_the_limit_0 = refl

pub the_greatest_limit_is_read : step_read (codes "begin 1000000000000000000") ≡ Some (step.Begin (Some 1000000000000000000))
unfolding step_read digits
the_greatest_limit_is_read = refl

pub a_limit_past_the_greatest_is_refused : fault_of (codes "begin 1000000000000000001") ≡ Some fault.Number
unfolding fault_of digits
a_limit_past_the_greatest_is_refused = refl

pub a_begin_line_has_a_limit : fault_of (codes "begin") ≡ Some fault.Count
unfolding fault_of digits
a_begin_line_has_a_limit = refl

pub a_begin_line_has_one_limit : fault_of (codes "begin none 0") ≡ Some fault.Count
unfolding fault_of digits
a_begin_line_has_one_limit = refl

pub a_wait_line_reads_as_a_wait : step_read (codes "wait") ≡ Some step.Wait
unfolding step_read digits
a_wait_line_reads_as_a_wait = refl

pub a_wait_line_has_one_word : fault_of (codes "wait 0") ≡ Some fault.Count
unfolding fault_of digits
a_wait_line_has_one_word = refl

pub a_handle_line_reads_as_the_handling_of_an_event : step_read (codes "handle") ≡ Some step.Handle
unfolding step_read digits
a_handle_line_reads_as_the_handling_of_an_event = refl

pub a_finish_line_reads_as_the_end_of_a_round : step_read (codes "finish") ≡ Some step.Finish
unfolding step_read digits
a_finish_line_reads_as_the_end_of_a_round = refl

pub an_interrupt_line_reads_as_an_interrupt : step_read (codes "interrupt") ≡ Some step.Interrupt
unfolding step_read digits
an_interrupt_line_reads_as_an_interrupt = refl

-- only the calls of the poller
pub a_fault_of_another_call_is_refused : fault_of (codes "fault del") ≡ Some fault.Choice
unfolding fault_of digits
a_fault_of_another_call_is_refused = refl

-- a fault without a call
pub a_fault_names_a_call : fault_of (codes "fault") ≡ Some fault.Count
unfolding fault_of digits
a_fault_names_a_call = refl

-- one call
pub a_fault_names_one_call : fault_of (codes "fault add arm") ≡ Some fault.Count
unfolding fault_of digits
a_fault_names_one_call = refl

-- no word
pub an_empty_line_has_no_word : fault_of (codes "") ≡ Some fault.Empty
unfolding fault_of digits
an_empty_line_has_no_word = refl
