-- Worked rows of timers, computed: what an input with their lines says, what each of these lines spells, and the book of registered timers.
use Rattle.std.proofs.Common.{◌≡◌, ℕ, List, [], ◌∷◌, None, Some, codes, refl}
use Rattle.std.specs.Fmt.{digits}
use Rattle.aio_base.specs.declared.steps.LineFault.TheVariants as fault
use Rattle.aio_base.specs.declared.steps.Step.TheVariants as step
use Rattle.aio_base.specs.World.{Registration}
use Rattle.aio_base.specs.Timers.{due_wakers, BookChange, Registers, Unregisters, fold_changes}
use Rattle.aio_base.specs.Lines.{fault_of, step_read}
use Rattle.aio_base.specs.Trace.{trace_of}
use Rattle.aio_laws.proofs.traces.Words.{waker, tick, lines}

-- ## Words for steps and registrations

abbrev registration : ℕ → ℕ → ℕ → Registration
registration deadline id task = record { id = id; deadline = deadline; waker = waker task }

abbrev registers : ℕ → ℕ → ℕ → BookChange
registers deadline id task = Registers (registration deadline id task)

-- ## What an input says

-- two timers, one moment
pub an_input_with_equal_deadlines_says_its_steps :
    trace_of (lines (codes "trace 1" ∷ codes "timer at 150" ∷ codes "timer at 150" ∷ codes "tick 1 5" ∷ codes "tick 2 4" ∷ codes "now 150" ∷ codes "react" ∷ []))
    ≡ record { steps = step.TimerAt 150 ∷ step.TimerAt 150 ∷ tick 1 5 ∷ tick 2 4 ∷ step.Now 150 ∷ step.React ∷ []; refusal = None }
unfolding trace_of step_read fault_of digits
an_input_with_equal_deadlines_says_its_steps = refl

-- one timer with a period
pub an_input_with_missed_periods_says_its_steps :
    trace_of (lines (codes "trace 1" ∷ codes "timer every 10 10" ∷ codes "now 35" ∷ codes "tick 1 5" ∷ codes "tick 1 5" ∷ codes "tick 1 5" ∷ codes "tick 1 5" ∷ []))
    ≡ record { steps = step.TimerEvery 10 10 ∷ step.Now 35 ∷ tick 1 5 ∷ tick 1 5 ∷ tick 1 5 ∷ tick 1 5 ∷ []; refusal = None }
unfolding trace_of step_read fault_of digits
an_input_with_missed_periods_says_its_steps = refl

-- 10^18 nanoseconds
pub an_input_at_the_last_moment_says_its_steps :
    trace_of (lines (codes "trace 1" ∷ codes "timer every 1000000000000000000 1" ∷ codes "now 1000000000000000000" ∷ codes "tick 1 5" ∷ codes "tick 1 5" ∷ []))
    ≡ record { steps = step.TimerEvery 1000000000000000000 1 ∷ step.Now 1000000000000000000 ∷ tick 1 5 ∷ tick 1 5 ∷ []; refusal = None }
unfolding trace_of step_read fault_of digits
an_input_at_the_last_moment_says_its_steps = refl

-- the line of a timer that is given up
pub an_input_with_a_timer_given_up_says_its_steps :
    trace_of (lines (codes "trace 1" ∷ codes "timer at 50" ∷ codes "tick 1 5" ∷ codes "end 1" ∷ codes "now 60" ∷ codes "react" ∷ codes "tick 1 5" ∷ []))
    ≡ record { steps = step.TimerAt 50 ∷ tick 1 5 ∷ step.End 1 ∷ step.Now 60 ∷ step.React ∷ tick 1 5 ∷ []; refusal = None }
unfolding trace_of step_read fault_of digits
an_input_with_a_timer_given_up_says_its_steps = refl

-- one that was registered, and one that was not
pub an_input_with_timers_that_are_set_says_its_steps :
    trace_of (lines (codes "trace 1" ∷ codes "timer at 50" ∷ codes "tick 1 5" ∷ codes "set 1 at 20" ∷ codes "timer never" ∷ codes "tick 2 6" ∷ codes "set 2 at 20" ∷ codes "now 20" ∷ codes "react" ∷ codes "tick 2 6" ∷ codes "now 19" ∷ []))
    ≡ record { steps = step.TimerAt 50 ∷ tick 1 5 ∷ step.SetAt 1 20 ∷ step.TimerNever ∷ tick 2 6 ∷ step.SetAt 2 20 ∷ step.Now 20 ∷ step.React ∷ tick 2 6 ∷ step.Now 19 ∷ []; refusal = None }
unfolding trace_of step_read fault_of digits
an_input_with_timers_that_are_set_says_its_steps = refl

-- a timer without a period takes one
pub an_input_with_a_period_that_is_set_says_its_steps :
    trace_of (lines (codes "trace 1" ∷ codes "timer at 50" ∷ codes "tick 1 1" ∷ codes "set 1 every 10 10" ∷ codes "now 25" ∷ codes "tick 1 1" ∷ codes "tick 1 1" ∷ codes "tick 1 1" ∷ []))
    ≡ record { steps = step.TimerAt 50 ∷ tick 1 1 ∷ step.SetEvery 1 10 10 ∷ step.Now 25 ∷ tick 1 1 ∷ tick 1 1 ∷ tick 1 1 ∷ []; refusal = None }
unfolding trace_of step_read fault_of digits
an_input_with_a_period_that_is_set_says_its_steps = refl

-- ## What a line reads as

-- a moment
pub a_timer_line_reads_as_a_timer_at_a_moment : step_read (codes "timer at 150") ≡ Some (step.TimerAt 150)
unfolding step_read digits
a_timer_line_reads_as_a_timer_at_a_moment = refl

-- a moment and a period
pub a_timer_line_reads_as_a_timer_with_a_period : step_read (codes "timer every 10 20") ≡ Some (step.TimerEvery 10 20)
unfolding step_read digits
a_timer_line_reads_as_a_timer_with_a_period = refl

-- no moment
pub a_timer_line_reads_as_a_timer_without_a_deadline : step_read (codes "timer never") ≡ Some (step.TimerNever)
unfolding step_read digits
a_timer_line_reads_as_a_timer_without_a_deadline = refl

-- two places
pub a_tick_line_reads_as_a_poll_of_a_timer : step_read (codes "tick 1 5") ≡ Some (tick 1 5)
unfolding step_read digits
a_tick_line_reads_as_a_poll_of_a_timer = refl

-- 4,294,967,295 in both places
pub the_greatest_timer_is_read : step_read (codes "tick 4294967295 4294967295") ≡ Some (tick 4294967295 4294967295)
unfolding step_read digits
the_greatest_timer_is_read = refl

-- a number and a moment
pub a_set_line_reads_as_a_timer_set_at_a_moment : step_read (codes "set 1 at 20") ≡ Some (step.SetAt 1 20)
unfolding step_read digits
a_set_line_reads_as_a_timer_set_at_a_moment = refl

-- a number, a moment and a period
pub a_set_line_reads_as_a_timer_set_with_a_period : step_read (codes "set 1 every 10 20") ≡ Some (step.SetEvery 1 10 20)
unfolding step_read digits
a_set_line_reads_as_a_timer_set_with_a_period = refl

-- a number
pub an_end_line_reads_as_the_giving_up_of_a_timer : step_read (codes "end 2") ≡ Some (step.End 2)
unfolding step_read digits
an_end_line_reads_as_the_giving_up_of_a_timer = refl

-- a moment
pub a_now_line_reads_as_a_moment_of_the_clock : step_read (codes "now 35") ≡ Some (step.Now 35)
unfolding step_read digits
a_now_line_reads_as_a_moment_of_the_clock = refl

-- zero is a moment
pub the_first_moment_is_read : step_read (codes "now 0") ≡ Some (step.Now 0)
unfolding step_read digits
the_first_moment_is_read = refl

-- 10^18 nanoseconds in both places
pub the_last_moment_and_the_longest_period_are_read : step_read (codes "timer every 1000000000000000000 1000000000000000000") ≡ Some (step.TimerEvery 1000000000000000000 1000000000000000000)
unfolding step_read digits
the_last_moment_and_the_longest_period_are_read = refl

-- 10^18 + 1
pub a_moment_past_the_last_is_refused : fault_of (codes "now 1000000000000000001") ≡ Some fault.Number
unfolding fault_of digits
a_moment_past_the_last_is_refused = refl

-- 10^18 + 1
pub a_deadline_past_the_last_is_refused : fault_of (codes "timer at 1000000000000000001") ≡ Some fault.Number
unfolding fault_of digits
a_deadline_past_the_last_is_refused = refl

-- 10^18 + 1
pub a_period_past_the_longest_is_refused : fault_of (codes "timer every 5 1000000000000000001") ≡ Some fault.Number
unfolding fault_of digits
a_period_past_the_longest_is_refused = refl

-- a period is at least 1
pub a_period_of_zero_is_refused : fault_of (codes "timer every 1 0") ≡ Some fault.Number
unfolding fault_of digits
a_period_of_zero_is_refused = refl

-- a period is at least 1
pub a_set_period_of_zero_is_refused : fault_of (codes "set 1 every 1 0") ≡ Some fault.Number
unfolding fault_of digits
a_set_period_of_zero_is_refused = refl

-- a number may have more than one spelling
pub a_leading_zero_of_a_moment_is_read : step_read (codes "now 01") ≡ Some (step.Now 1)
unfolding step_read digits
a_leading_zero_of_a_moment_is_read = refl

-- a timer at no moment
pub a_missing_moment_is_refused : fault_of (codes "timer at") ≡ Some fault.Count
unfolding fault_of digits
a_missing_moment_is_refused = refl

-- a timer with a moment alone
pub a_missing_period_is_refused : fault_of (codes "timer every 1") ≡ Some fault.Count
unfolding fault_of digits
a_missing_period_is_refused = refl

-- a word too many
pub a_timer_that_never_fires_has_no_moment : fault_of (codes "timer never 1") ≡ Some fault.Count
unfolding fault_of digits
a_timer_that_never_fires_has_no_moment = refl

-- no other word
pub a_timer_is_at_every_or_never : fault_of (codes "timer on 1") ≡ Some fault.Choice
unfolding fault_of digits
a_timer_is_at_every_or_never = refl

-- a timer without a word
pub a_timer_names_its_kind : fault_of (codes "timer") ≡ Some fault.Count
unfolding fault_of digits
a_timer_names_its_kind = refl

-- a number and a word alone
pub a_set_names_a_moment : fault_of (codes "set 1 at") ≡ Some fault.Count
unfolding fault_of digits
a_set_names_a_moment = refl

-- no timer is set to never
pub a_set_is_at_or_every : fault_of (codes "set 1 never") ≡ Some fault.Choice
unfolding fault_of digits
a_set_is_at_or_every = refl

-- a poll of a timer without a waker
pub a_tick_names_a_waker : fault_of (codes "tick 1") ≡ Some fault.Count
unfolding fault_of digits
a_tick_names_a_waker = refl

-- no number
pub a_giving_up_names_a_timer : fault_of (codes "end") ≡ Some fault.Count
unfolding fault_of digits
a_giving_up_names_a_timer = refl

-- two numbers
pub a_giving_up_names_one_timer : fault_of (codes "end 1 2") ≡ Some fault.Count
unfolding fault_of digits
a_giving_up_names_one_timer = refl

-- no moment
pub a_clock_line_names_a_moment : fault_of (codes "now") ≡ Some fault.Count
unfolding fault_of digits
a_clock_line_names_a_moment = refl

-- ## The book

-- four registrations, and two that leave, one of which is not there
abbrev six_changes : List BookChange
six_changes = registers 30 1 1 ∷ registers 10 2 2 ∷ registers 20 3 3 ∷ registers 10 1 4 ∷ Unregisters 20 3 ∷ Unregisters 20 9 ∷ []

abbrev three_left : List Registration
three_left = registration 10 1 4 ∷ registration 10 2 2 ∷ registration 30 1 1 ∷ []

-- by deadline and then by id
pub the_book_is_kept_in_the_order_of_firing : fold_changes [] six_changes ≡ three_left
the_book_is_kept_in_the_order_of_firing = refl

-- the deadline of both is the moment
pub a_pass_of_the_book_takes_the_due_wakers_in_order : due_wakers 10 three_left ≡ waker 4 ∷ waker 2 ∷ []
a_pass_of_the_book_takes_the_due_wakers_in_order = refl

-- nothing is doubled
pub a_registration_of_the_same_pair_replaces_the_waker :
    fold_changes three_left (registers 30 1 5 ∷ [])
    ≡ registration 10 1 4 ∷ registration 10 2 2 ∷ registration 30 1 5 ∷ []
a_registration_of_the_same_pair_replaces_the_waker = refl
