-- Right and wrong logs, computed: how many steps a log tells, or which line is wrong and for what. A name says what is wrong, or what is right.
use Rattle.std.proofs.Common.{◌≡◌, ℕ, List, [], ◌∷◌, ◌++◌, length, take, drop, Option, None, Some, codes, refl, ◌-◌}
use Rattle.std.specs.Fmt.{digits}
use Rattle.std.specs.Prelude.{flat_map}
use Rattle.aio_base.specs.Lines.{step_read, written_line}
use Rattle.aio_base.specs.Machine.{step_result}
use Rattle.aio_base.specs.Text.{answer_line, ended_line}
use Rattle.aio_log.specs.declared.wrong.Wrong.{Wrong}
use Rattle.aio_log.specs.declared.wrong.Wrong.TheVariants as wrong
use Rattle.aio_log.specs.Logs.{Told, WrongLine, log_told}

-- a log is right and tells so many steps, or a line is wrong for this
data Verdict : Type 0 where
  Right : ℕ → Verdict
  WrongAt : ℕ → Wrong → Verdict

abbrev judged : Told → Option WrongLine → Verdict
judged told None = Right (length told.run)
judged told (Some line) = WrongAt line.line line.why

abbrev verdict_on : List (List ℕ) → Verdict
verdict_on lines = judged (log_told (flat_map ended_line lines)) (log_told (flat_map ended_line lines)).wrong

-- a source, who waits for it, and the round in which its event comes
abbrev ordinary : List (List ℕ)
ordinary =
    codes "log 1" ∷ codes "add" ∷ codes "key 0" ∷ codes "poll 0 r 7" ∷ codes "pending" ∷ codes "begin none" ∷ codes "begin 1 wait none" ∷ codes "wait" ∷ codes "given 1" ∷ codes "got 0 r" ∷ codes "handle" ∷ codes "handled 0" ∷ codes "finish" ∷ codes "end ok" ∷ codes "wake 7" ∷ []

-- the same with another line in place of one, by its number
abbrev with_line : ℕ → List ℕ → List (List ℕ)
with_line number line = take (number - 1) ordinary ++ line ∷ drop number ordinary

-- ## Of the ordinary path

the_ordinary_path_is_right : verdict_on (ordinary) ≡ Right 6
unfolding log_told step_result step_read written_line answer_line digits
the_ordinary_path_is_right = refl

a_failed_arm_is_no_wrong_line : verdict_on (with_line 5 (codes "fault arm")) ≡ Right 6
unfolding log_told step_result step_read written_line answer_line digits
a_failed_arm_is_no_wrong_line = refl

another_wake : verdict_on (with_line 15 (codes "wake 8")) ≡ WrongAt 15 wrong.Answer
unfolding log_told step_result step_read written_line answer_line digits
another_wake = refl

a_wake_that_is_missing : verdict_on (take 14 ordinary) ≡ WrongAt 15 wrong.End
unfolding log_told step_result step_read written_line answer_line digits
a_wake_that_is_missing = refl

a_wake_too_many : verdict_on (ordinary ++ (codes "wake 7" ∷ [])) ≡ WrongAt 16 wrong.Text
unfolding log_told step_result step_read written_line answer_line digits
a_wake_too_many = refl

a_step_in_place_of_a_wake : verdict_on (take 14 ordinary ++ (codes "now 1" ∷ [])) ≡ WrongAt 15 wrong.Answer
unfolding log_told step_result step_read written_line answer_line digits
a_step_in_place_of_a_wake = refl

ready_with_no_event : verdict_on (with_line 5 (codes "ready")) ≡ WrongAt 5 wrong.Answer
unfolding log_told step_result step_read written_line answer_line digits
ready_with_no_event = refl

nothing_at_all : verdict_on ([]) ≡ WrongAt 1 wrong.End
unfolding log_told step_result step_read written_line answer_line digits
nothing_at_all = refl

-- ## Headers and steps

a_header_alone : verdict_on (codes "log 1" ∷ []) ≡ Right 0
unfolding log_told step_result step_read written_line answer_line digits
a_header_alone = refl

the_header_of_a_trace : verdict_on (codes "trace 1" ∷ codes "add" ∷ codes "key 0" ∷ []) ≡ WrongAt 1 wrong.Text
unfolding log_told step_result step_read written_line answer_line digits
the_header_of_a_trace = refl

a_header_with_a_space_before_it : verdict_on (codes " log 1" ∷ []) ≡ WrongAt 1 wrong.Text
unfolding log_told step_result step_read written_line answer_line digits
a_header_with_a_space_before_it = refl

a_number_with_a_leading_zero : verdict_on (codes "log 1" ∷ codes "now 01" ∷ codes "at 1" ∷ []) ≡ WrongAt 2 wrong.Text
unfolding log_told step_result step_read written_line answer_line digits
a_number_with_a_leading_zero = refl

a_carriage_return_behind_a_step : verdict_on (codes "log 1" ∷ (codes "add" ++ 13 ∷ []) ∷ []) ≡ WrongAt 2 wrong.Text
unfolding log_told step_result step_read written_line answer_line digits
a_carriage_return_behind_a_step = refl

an_event_is_no_entry : verdict_on (codes "log 1" ∷ codes "event 0 r" ∷ codes "noted" ∷ []) ≡ WrongAt 2 wrong.Text
unfolding log_told step_result step_read written_line answer_line digits
an_event_is_no_entry = refl

a_fault_is_no_entry : verdict_on (codes "log 1" ∷ codes "fault arm" ∷ codes "noted" ∷ []) ≡ WrongAt 2 wrong.Text
unfolding log_told step_result step_read written_line answer_line digits
a_fault_is_no_entry = refl

a_whole_round_is_no_entry : verdict_on (codes "log 1" ∷ codes "react" ∷ codes "round 1 events 0 ok" ∷ []) ≡ WrongAt 2 wrong.Text
unfolding log_told step_result step_read written_line answer_line digits
a_whole_round_is_no_entry = refl

an_empty_line_at_the_end : verdict_on (ordinary ++ ([] ∷ [])) ≡ WrongAt 16 wrong.Text
unfolding log_told step_result step_read written_line answer_line digits
an_empty_line_at_the_end = refl

an_end_behind_a_step : verdict_on (take 2 ordinary) ≡ WrongAt 3 wrong.End
unfolding log_told step_result step_read written_line answer_line digits
an_end_behind_a_step = refl

-- ## Answers on sources

a_key_that_is_not_the_least : verdict_on (with_line 3 (codes "key 1")) ≡ WrongAt 3 wrong.Answer
unfolding log_told step_result step_read written_line answer_line digits
a_key_that_is_not_the_least = refl

an_add_that_failed_takes_no_key : verdict_on (codes "log 1" ∷ codes "add" ∷ codes "fault add" ∷ codes "add" ∷ codes "key 0" ∷ []) ≡ Right 2
unfolding log_told step_result step_read written_line answer_line digits
an_add_that_failed_takes_no_key = refl

a_key_behind_an_add_that_failed : verdict_on (codes "log 1" ∷ codes "add" ∷ codes "fault add" ∷ codes "add" ∷ codes "key 1" ∷ []) ≡ WrongAt 5 wrong.Answer
unfolding log_told step_result step_read written_line answer_line digits
a_key_behind_an_add_that_failed = refl

a_fault_of_a_call_that_is_not_made : verdict_on (codes "log 1" ∷ codes "add" ∷ codes "fault arm" ∷ []) ≡ WrongAt 3 wrong.Answer
unfolding log_told step_result step_read written_line answer_line digits
a_fault_of_a_call_that_is_not_made = refl

an_arm_for_the_waker_that_waits : verdict_on (take 5 ordinary ++ (codes "poll 0 r 7" ∷ codes "fault arm" ∷ [])) ≡ WrongAt 7 wrong.Answer
unfolding log_told step_result step_read written_line answer_line digits
an_arm_for_the_waker_that_waits = refl

an_arm_of_a_broken_source : verdict_on (take 4 ordinary ++ (codes "fault arm" ∷ codes "poll 0 r 7" ∷ codes "fault arm" ∷ [])) ≡ Right 3
unfolding log_told step_result step_read written_line answer_line digits
an_arm_of_a_broken_source = refl

a_replaced_waker_is_woken : verdict_on (take 5 ordinary ++ (codes "poll 0 r 8" ∷ codes "pending" ∷ codes "poll 0 r 8" ∷ [])) ≡ WrongAt 8 wrong.Answer
unfolding log_told step_result step_read written_line answer_line digits
a_replaced_waker_is_woken = refl

a_source_is_gone_though_the_removal_failed : verdict_on (codes "log 1" ∷ codes "add" ∷ codes "key 0" ∷ codes "del 0" ∷ codes "fault remove" ∷ codes "poll 0 r 1" ∷ codes "pending" ∷ []) ≡ WrongAt 7 wrong.Answer
unfolding log_told step_result step_read written_line answer_line digits
a_source_is_gone_though_the_removal_failed = refl

a_listener_has_the_next_number : verdict_on (codes "log 1" ∷ codes "add" ∷ codes "key 0" ∷ codes "new 0 r" ∷ codes "listener 1" ∷ codes "new 0 r" ∷ codes "listener 1" ∷ []) ≡ WrongAt 7 wrong.Answer
unfolding log_told step_result step_read written_line answer_line digits
a_listener_has_the_next_number = refl

a_source_with_a_listener_is_in_use : verdict_on (codes "log 1" ∷ codes "add" ∷ codes "key 0" ∷ codes "new 0 r" ∷ codes "listener 1" ∷ codes "del 0" ∷ codes "gone" ∷ []) ≡ WrongAt 7 wrong.Answer
unfolding log_told step_result step_read written_line answer_line digits
a_source_with_a_listener_is_in_use = refl

-- ## Answers on rounds

a_round_has_the_next_number : verdict_on (with_line 7 (codes "begin 2 wait none")) ≡ WrongAt 7 wrong.Answer
unfolding log_told step_result step_read written_line answer_line digits
a_round_has_the_next_number = refl

a_wait_with_no_round : verdict_on (codes "log 1" ∷ codes "wait" ∷ codes "given 0" ∷ []) ≡ WrongAt 3 wrong.Answer
unfolding log_told step_result step_read written_line answer_line digits
a_wait_with_no_round = refl

more_events_than_a_wait_may_give : verdict_on (with_line 9 (codes "given 1025")) ≡ WrongAt 9 wrong.Answer
unfolding log_told step_result step_read written_line answer_line digits
more_events_than_a_wait_may_give = refl

a_count_with_a_leading_zero : verdict_on (with_line 9 (codes "given 01")) ≡ WrongAt 9 wrong.Answer
unfolding log_told step_result step_read written_line answer_line digits
a_count_with_a_leading_zero = refl

an_event_that_is_missing : verdict_on (take 9 ordinary ++ (codes "handle" ∷ codes "handled 0" ∷ [])) ≡ WrongAt 10 wrong.Text
unfolding log_told step_result step_read written_line answer_line digits
an_event_that_is_missing = refl

an_end_behind_given : verdict_on (take 9 ordinary) ≡ WrongAt 10 wrong.End
unfolding log_told step_result step_read written_line answer_line digits
an_end_behind_given = refl

directions_in_another_order : verdict_on (with_line 10 (codes "got 0 wr")) ≡ WrongAt 10 wrong.Text
unfolding log_told step_result step_read written_line answer_line digits
directions_in_another_order = refl

a_key_with_a_leading_zero : verdict_on (with_line 10 (codes "got 00 r")) ≡ WrongAt 10 wrong.Text
unfolding log_told step_result step_read written_line answer_line digits
a_key_with_a_leading_zero = refl

a_key_past_the_last : verdict_on (with_line 10 (codes "got 4294967296 r")) ≡ WrongAt 10 wrong.Text
unfolding log_told step_result step_read written_line answer_line digits
a_key_past_the_last = refl

an_event_of_no_source : verdict_on (with_line 10 (codes "got 4294967295 r")) ≡ WrongAt 12 wrong.Answer
unfolding log_told step_result step_read written_line answer_line digits
an_event_of_no_source = refl

another_event_is_handled : verdict_on (with_line 12 (codes "handled 1")) ≡ WrongAt 12 wrong.Answer
unfolding log_told step_result step_read written_line answer_line digits
another_event_is_handled = refl

an_arm_with_nobody_waiting : verdict_on (with_line 12 (codes "handled 0 fault arm")) ≡ WrongAt 12 wrong.Answer
unfolding log_told step_result step_read written_line answer_line digits
an_arm_with_nobody_waiting = refl

an_event_of_the_other_direction_wakes_nobody : verdict_on (with_line 10 (codes "got 0 w")) ≡ WrongAt 15 wrong.Text
unfolding log_told step_result step_read written_line answer_line digits
an_event_of_the_other_direction_wakes_nobody = refl

who_still_waits_is_armed_for : verdict_on (take 9 ordinary ++ (codes "got 0 w" ∷ codes "handle" ∷ codes "handled 0 fault arm" ∷ codes "finish" ∷ codes "end fault arm" ∷ [])) ≡ Right 6
unfolding log_told step_result step_read written_line answer_line digits
who_still_waits_is_armed_for = refl

the_first_fault_of_a_round_is_told : verdict_on (take 9 ordinary ++ (codes "got 0 w" ∷ codes "handle" ∷ codes "handled 0 fault arm" ∷ codes "finish" ∷ codes "end ok" ∷ [])) ≡ WrongAt 14 wrong.Answer
unfolding log_told step_result step_read written_line answer_line digits
the_first_fault_of_a_round_is_told = refl

a_wait_that_failed_is_told_at_the_end : verdict_on (take 8 ordinary ++ (codes "fault wait" ∷ codes "finish" ∷ codes "end ok" ∷ [])) ≡ WrongAt 11 wrong.Answer
unfolding log_told step_result step_read written_line answer_line digits
a_wait_that_failed_is_told_at_the_end = refl

an_interrupted_wait_is_no_fault : verdict_on (take 8 ordinary ++ (codes "interrupted" ∷ codes "finish" ∷ codes "end ok" ∷ [])) ≡ Right 5
unfolding log_told step_result step_read written_line answer_line digits
an_interrupted_wait_is_no_fault = refl

an_end_with_an_event_in_hand : verdict_on (take 10 ordinary ++ (codes "finish" ∷ codes "end ok" ∷ [])) ≡ WrongAt 12 wrong.Answer
unfolding log_told step_result step_read written_line answer_line digits
an_end_with_an_event_in_hand = refl

an_event_of_the_round_in_which_the_waker_was_stored : verdict_on (codes "log 1" ∷ codes "add" ∷ codes "key 0" ∷ codes "begin none" ∷ codes "begin 1 wait none" ∷ codes "poll 0 r 7" ∷ codes "pending" ∷ codes "wait" ∷ codes "given 1" ∷ codes "got 0 r" ∷ codes "handle" ∷ codes "handled 0" ∷ codes "finish" ∷ codes "end ok" ∷ codes "wake 7" ∷ codes "poll 0 r 7" ∷ codes "ready" ∷ []) ≡ WrongAt 17 wrong.Answer
unfolding log_told step_result step_read written_line answer_line digits
an_event_of_the_round_in_which_the_waker_was_stored = refl

-- ## Answers on timers

another_limit_than_the_time_to_the_first_deadline : verdict_on (codes "log 1" ∷ codes "timer at 50" ∷ codes "timer 1" ∷ codes "tick 1 5" ∷ codes "pending" ∷ codes "begin none" ∷ codes "begin 1 wait 49" ∷ []) ≡ WrongAt 7 wrong.Answer
unfolding log_told step_result step_read written_line answer_line digits
another_limit_than_the_time_to_the_first_deadline = refl

the_greater_id_of_two_at_one_deadline : verdict_on (codes "log 1" ∷ codes "timer at 9" ∷ codes "timer 1" ∷ codes "timer at 9" ∷ codes "timer 2" ∷ codes "tick 1 1" ∷ codes "pending" ∷ codes "tick 2 2" ∷ codes "pending" ∷ codes "now 9" ∷ codes "at 9" ∷ codes "begin none" ∷ codes "begin 1 wait 0" ∷ codes "wait" ∷ codes "given 0" ∷ codes "finish" ∷ codes "end ok" ∷ codes "wake 2" ∷ []) ≡ WrongAt 18 wrong.Answer
unfolding log_told step_result step_read written_line answer_line digits
the_greater_id_of_two_at_one_deadline = refl

a_late_timer : verdict_on (codes "log 1" ∷ codes "timer at 9" ∷ codes "timer 1" ∷ codes "tick 1 5" ∷ codes "pending" ∷ codes "now 9" ∷ codes "at 9" ∷ codes "tick 1 5" ∷ codes "pending" ∷ []) ≡ WrongAt 9 wrong.Answer
unfolding log_told step_result step_read written_line answer_line digits
a_late_timer = refl

a_second_pass_behind_an_interrupted_wait : verdict_on (codes "log 1" ∷ codes "timer at 9" ∷ codes "timer 1" ∷ codes "tick 1 5" ∷ codes "pending" ∷ codes "begin none" ∷ codes "begin 1 wait 9" ∷ codes "wait" ∷ codes "interrupted" ∷ codes "now 9" ∷ codes "at 9" ∷ codes "finish" ∷ codes "end ok" ∷ codes "wake 5" ∷ []) ≡ WrongAt 14 wrong.Text
unfolding log_told step_result step_read written_line answer_line digits
a_second_pass_behind_an_interrupted_wait = refl

a_second_pass_behind_a_wait_that_gave_nothing : verdict_on (codes "log 1" ∷ codes "timer at 9" ∷ codes "timer 1" ∷ codes "tick 1 5" ∷ codes "pending" ∷ codes "begin none" ∷ codes "begin 1 wait 9" ∷ codes "wait" ∷ codes "given 0" ∷ codes "now 9" ∷ codes "at 9" ∷ codes "finish" ∷ codes "end ok" ∷ codes "wake 5" ∷ []) ≡ Right 6
unfolding log_told step_result step_read written_line answer_line digits
a_second_pass_behind_a_wait_that_gave_nothing = refl
