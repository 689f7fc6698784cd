-- Steps of machines that run rounds wrongly, each refused by a law of rounds, of hands or of passes.
use Rattle.std.proofs.Common.{◌≡◌, ℕ, ◌<◌, ◌≤◌, Bool, true, false, List, [], ◌∷◌, Option, None, Some, refl, ap, ◌∙◌, sym, subst, ⊎_elim, inl, arith}
use Rattle.std.specs.List.{Contains}
use Rattle.aio_base.specs.declared.names.TheConstants.Interest.{READ}
use Rattle.aio_base.specs.declared.names.Key.{Key}
use Rattle.aio_base.specs.declared.names.Event.{Event}
use Rattle.aio_base.specs.declared.outcomes.EndWord.{EndWord}
use Rattle.aio_base.specs.declared.outcomes.EndWord.TheVariants.{Clean, FaultWait}
use Rattle.aio_base.specs.declared.steps.Step.TheVariants as step
use Rattle.aio_base.specs.declared.steps.Answer.{Answer}
use Rattle.aio_base.specs.declared.steps.Answer.TheVariants as answer
use Rattle.aio_base.specs.World.{PollerAnswer, Succeeds, Gives, IsInterrupted, Fails, Registration, RoundState, World, opening}
use Rattle.aio_laws.specs.RoundAnswers.{LimitIsWithin, time_left}
use Rattle.aio_laws.specs.RoundCounts.{RoundsFollow}
use Rattle.aio_laws.specs.RoundHands.{TakesFirst, HandFollows}
use Rattle.aio_laws.specs.Between.{IsWaitedOut, RegistrationsFollow}
use Rattle.aio_base.proofs.Membership.{among_cases, first_is_in, none_is_in}

abbrev event : ℕ → Event
event key = record { key = record { 0 = key }; on = READ }

abbrev timer : ℕ → Registration
timer deadline = record { id = 1; deadline = deadline; waker = record { 0 = 7 } }

-- a round with this hand, whose last wait was answered so, and with this limit
abbrev round : List Event → Option PollerAnswer → Option ℕ → RoundState
round hand last limit = record { number = 1; begin = 0; limit = limit; in_hand = hand; taken = []; last_wait = last; fault = Clean }

abbrev running : List Event → World
running hand = record opening { pos = 3; rounds = 1; begun = 0 ∷ []; round = Some (round hand None None) }

some_number : (m n : ℕ) → Some m ≡ Some n → m ≡ n
some_number m n same = cc

apart : (m n : ℕ) → m < n → m ≡ n → ⊥
apart m n less same = absurd (omega arith)

abbrev key_told : Answer → Option ℕ
key_told (answer.Handled key failed) = Some key.0
key_told _ = None

abbrev count_told : Answer → Option ℕ
count_told (answer.Given count) = Some count
count_told (answer.Round number count end) = Some count
count_told _ = None

abbrev later : List Event → List Event
later [] = []
later (e ∷ events) = events

later_same : {xs ys : List Event} {x y : Event} → x ∷ xs ≡ y ∷ ys → xs ≡ ys
later_same same = ap later same

-- ## What is told

-- a `begin` is told that a round runs, where none does, whatever it leaves
pub a_begin_told_locked_without_a_round_is_refused : (given : Option ℕ) (answers : List PollerAnswer) (v : World)
    → RoundsFollow opening (step.Begin given) answers answer.Locked v → ⊥
a_begin_told_locked_without_a_round_is_refused given answers v f = let told = f.answered.2 in cc

-- a `begin` is told that a round runs, and begins another
pub a_begin_told_locked_that_begins_is_refused : (answers : List PollerAnswer)
    → RoundsFollow (running []) (step.Begin None) answers answer.Locked
    (record (running []) { pos = 4; rounds = 2; begun = 0 ∷ 3 ∷ []; round = Some (record (round [] None None) { number = 2; begin = 3 }) }) → ⊥
a_begin_told_locked_that_begins_is_refused answers f = apart 1 2 (omega arith) (sym f.rounds)

-- a `begin` is told a number though a round runs
pub a_begin_within_a_round_is_refused : (given limit : Option ℕ) (answers : List PollerAnswer) (number : ℕ) (v : World)
    → RoundsFollow (running []) (step.Begin given) answers (answer.Begin number limit) v → ⊥
a_begin_within_a_round_is_refused given limit answers number v f = let told : answer.Begin number limit ≡ answer.Locked = f.answered in cc

-- a whole round is refused where none runs
pub a_react_told_locked_without_a_round_is_refused : (answers : List PollerAnswer) (v : World) → RoundsFollow opening step.React answers answer.Locked v → ⊥
a_react_told_locked_without_a_round_is_refused answers v f = let told = f.answered.2 in cc

-- a round ends with an event in hand
pub an_end_with_events_in_hand_is_refused : (answers : List PollerAnswer) (word : EndWord) (v : World)
    → RoundsFollow (running (event 0 ∷ [])) step.Finish answers (answer.End word) v → ⊥
an_end_with_events_in_hand_is_refused answers word v f = let told : answer.End word ≡ answer.Events 1 = f.answered in cc

-- a round waits with an event in hand
pub a_wait_with_events_in_hand_is_refused : (answers : List PollerAnswer) (count : ℕ) (v : World)
    → RoundsFollow (running (event 0 ∷ [])) step.Wait answers (answer.Given count) v → ⊥
a_wait_with_events_in_hand_is_refused answers count v f = let told : answer.Given count ≡ answer.Events 1 = f.answered in cc

-- a `finish` is told that events are in hand, and none is
pub events_told_of_an_empty_hand_are_refused : (answers : List PollerAnswer) (count : ℕ) (v : World)
    → RoundsFollow (running []) step.Finish answers (answer.Events count) v → ⊥
events_told_of_an_empty_hand_are_refused answers count v f = let told : answer.Events count ≡ answer.End Clean = f.answered in cc

-- a `handle` is told that the hand is empty, and an event is in it
pub an_empty_hand_told_of_an_event_is_refused : (answers : List PollerAnswer) (v : World)
    → RoundsFollow (running (event 0 ∷ [])) step.Handle answers answer.Empty v → ⊥
an_empty_hand_told_of_an_event_is_refused answers v f = let told = f.answered.1 in cc

-- a `wait` is told that no round runs, and one does
pub no_round_told_of_a_running_one_is_refused : (answers : List PollerAnswer) (v : World) → RoundsFollow (running (event 0 ∷ [])) step.Wait answers answer.NoRound v → ⊥
no_round_told_of_a_running_one_is_refused answers v f = let told : answer.NoRound ≡ answer.Events 1 = f.answered in cc

-- a `handle` tells another key than that of the first event
pub another_key_is_refused : (answers : List PollerAnswer) (v : World)
    → RoundsFollow (running (event 0 ∷ [])) step.Handle answers (answer.Handled (record { 0 = 1 }) false) v → ⊥
another_key_is_refused answers v f =
    let told : answer.Handled (record { 0 = 1 }) false ≡ answer.Handled (record { 0 = 0 }) f.answered.0 = f.answered.1 in
    apart 0 1 (omega arith) (sym (some_number 1 0 (ap key_told told)))

-- a `wait` tells another number of events than the poller gave
pub another_number_of_events_is_refused : (events : List Event) (v : World)
    → RoundsFollow (running []) step.Wait (Gives (event 0 ∷ []) ∷ []) (answer.Given 2) v → ⊥
another_number_of_events_is_refused events v f =
    let told : answer.Given 2 ≡ answer.Given 1 = f.answered in apart 1 2 (omega arith) (sym (some_number 2 1 (ap count_told told)))

-- so does a whole round
pub another_number_of_events_of_a_whole_round_is_refused : (end : EndWord) (v : World)
    → RoundsFollow opening step.React (Gives (event 0 ∷ []) ∷ []) (answer.Round 1 0 end) v → ⊥
another_number_of_events_of_a_whole_round_is_refused end v f =
    let told : answer.Round 1 0 end ≡ answer.Round 1 1 f.answered.0 = f.answered.2 in apart 0 1 (omega arith) (some_number 0 1 (ap count_told told))

-- a whole round tells that it ended clean, and its wait failed
pub a_failed_wait_of_a_whole_round_that_is_not_told_is_refused : (number events : ℕ) (v : World)
    → RoundsFollow opening step.React (Fails ∷ []) (answer.Round number events Clean) v → ⊥
a_failed_wait_of_a_whole_round_that_is_not_told_is_refused number events v f =
    let told : answer.Round number events Clean ≡ answer.Round 1 0 f.answered.0 = f.answered.2 in
    let failed : f.answered.0 ≡ FaultWait = f.answered.1 in
    cc

-- a `finish` tells that its round ended clean, and its wait had failed
pub a_fault_that_is_not_told_is_refused : (answers : List PollerAnswer) (v : World)
    → RoundsFollow (record opening { pos = 3; rounds = 1; round = Some (record (round [] (Some Fails) None) { fault = FaultWait }) }) step.Finish answers (answer.End Clean) v → ⊥
a_fault_that_is_not_told_is_refused answers v f = let told : answer.End Clean ≡ answer.End FaultWait = f.answered in cc

-- ## The limit of a round

same_limit : (m n : ℕ) (a b : Option ℕ) → answer.Begin m a ≡ answer.Begin n b → b ≡ a
same_limit m n a b same = cc

-- a world in which a timer is registered that is due at 50
abbrev registered : World
registered = record opening { registrations = timer 50 ∷ []; ids_drawn = 1 }

-- a round waits past the first deadline
pub a_limit_past_the_first_deadline_is_refused : (answers : List PollerAnswer) (v : World)
    → RoundsFollow registered (step.Begin None) answers (answer.Begin 1 (Some 70)) v → ⊥
a_limit_past_the_first_deadline_is_refused answers v f =
    let told : answer.Begin 1 (Some 70) ≡ answer.Begin 1 f.answered.0 = f.answered.2 in
    let bound : 70 ≤ 50 = subst (LimitIsWithin 50) (same_limit 1 1 (Some 70) f.answered.0 told) (f.answered.1.within_times (timer 50) (first_is_in (timer 50) [])) in
    absurd (omega arith)

-- a round waits for good though a limit was given
pub a_limit_that_is_forgotten_is_refused : (answers : List PollerAnswer) (v : World)
    → RoundsFollow opening (step.Begin (Some 9)) answers (answer.Begin 1 None) v → ⊥
a_limit_that_is_forgotten_is_refused answers v f =
    let told : answer.Begin 1 None ≡ answer.Begin 1 f.answered.0 = f.answered.2 in
    subst (LimitIsWithin 9) (same_limit 1 1 None f.answered.0 told) (f.answered.1.within_given 9 refl)

-- a round is cut off before its limit
pub a_limit_before_its_time_is_refused : (answers : List PollerAnswer) (v : World)
    → RoundsFollow registered (step.Begin (Some 60)) answers (answer.Begin 1 (Some 20)) v → ⊥
a_limit_before_its_time_is_refused answers v f =
    let told : answer.Begin 1 (Some 20) ≡ answer.Begin 1 f.answered.0 = f.answered.2 in
    ⊎_elim
    (λ (given : Some 60 ≡ Some 20). apart 20 60 (omega arith) (sym (some_number 60 20 given)))
    (λ (time : Contains (50 ∷ []) 20).
    ⊎_elim (λ (same : 50 ≡ 20). apart 20 50 (omega arith) (sym same)) (λ (none : Contains [] 20). none_is_in 20 none) (among_cases 50 [] 20 time))
    (f.answered.1.is_one 20 (same_limit 1 1 (Some 20) f.answered.0 told))

-- a round with a timer that is due waits
pub a_limit_past_a_due_timer_is_refused : (answers : List PollerAnswer) (v : World)
    → RoundsFollow (record registered { now = 60 }) (step.Begin None) answers (answer.Begin 1 None) v → ⊥
a_limit_past_a_due_timer_is_refused answers v f =
    let told : answer.Begin 1 None ≡ answer.Begin 1 f.answered.0 = f.answered.2 in
    subst (LimitIsWithin (time_left 60 (timer 50))) (same_limit 1 1 None f.answered.0 told) (f.answered.1.within_times (timer 50) (first_is_in (timer 50) []))

-- ## The hand

no_event : (e : Event) (events : List Event) → [] ≡ e ∷ events → ⊥
no_event e events same = cc

-- a `wait` tells of an event, and keeps none in hand
pub a_wait_that_keeps_no_event_is_refused :
    HandFollows (running []) step.Wait (Gives (event 0 ∷ []) ∷ []) (answer.Given 1) (record (running []) { pos = 4 }) → ⊥
a_wait_that_keeps_no_event_is_refused h = no_event (event 0) [] h.hand

-- a `wait` that was interrupted finds an event
pub an_event_of_an_interrupted_wait_is_refused :
    HandFollows (running []) step.Wait (IsInterrupted ∷ []) answer.Interrupted (record (running (event 0 ∷ [])) { pos = 4 }) → ⊥
an_event_of_an_interrupted_wait_is_refused h = no_event (event 0) [] (sym h.hand)

-- a `handle` drops the next event too
pub a_handle_that_drops_two_events_is_refused : (answers : List PollerAnswer) (key : Key) (failed : Bool)
    → HandFollows (running (event 0 ∷ event 1 ∷ [])) step.Handle answers (answer.Handled key failed) (record (running []) { pos = 4 }) → ⊥
a_handle_that_drops_two_events_is_refused answers key failed h =
    let first : TakesFirst key (event 0 ∷ event 1 ∷ []) [] = h.hand in
    let two : event 1 ∷ [] ≡ [] = later_same first.hand in
    no_event (event 1) [] (sym two)

-- a `handle` leaves its event in hand
pub a_handle_that_keeps_its_event_is_refused : (answers : List PollerAnswer) (key : Key) (failed : Bool)
    → HandFollows (running (event 0 ∷ [])) step.Handle answers (answer.Handled key failed) (record (running (event 0 ∷ [])) { pos = 4 }) → ⊥
a_handle_that_keeps_its_event_is_refused answers key failed h =
    let first : TakesFirst key (event 0 ∷ []) (event 0 ∷ []) = h.hand in
    let two : [] ≡ event 0 ∷ [] = later_same first.hand in
    no_event (event 0) [] two

-- a round begins with an event in hand
pub a_begin_with_an_event_in_hand_is_refused : (answers : List PollerAnswer)
    → HandFollows opening (step.Begin None) answers (answer.Begin 1 None) (record (running (event 0 ∷ [])) { pos = 1 }) → ⊥
a_begin_with_an_event_in_hand_is_refused answers h = no_event (event 0) [] (sym h.hand)

-- another step loses the hand
pub a_hand_lost_by_another_step_is_refused : (answers : List PollerAnswer) (told : Answer)
    → HandFollows (running (event 0 ∷ [])) step.Add answers told (record (running []) { pos = 4 }) → ⊥
a_hand_lost_by_another_step_is_refused answers told h = no_event (event 0) [] h.hand

-- a failed wait is forgotten
pub a_fault_that_is_not_kept_is_refused : HandFollows (running []) step.Wait (Fails ∷ []) answer.FaultWait (record (running []) { pos = 4 }) → ⊥
a_fault_that_is_not_kept_is_refused h = let same : Clean ≡ FaultWait = h.fault in cc

-- a round takes a wait that failed for one that gave no event
pub a_failed_wait_taken_for_a_void_one_is_refused : (fault : EndWord)
    → HandFollows (running []) step.Wait (Fails ∷ []) answer.FaultWait
    (record (running []) { pos = 4; round = Some (record (round [] (Some (Gives [])) None) { fault = fault }) }) → ⊥
a_failed_wait_taken_for_a_void_one_is_refused fault h = let same : Some (Gives []) ≡ Some Fails = h.waited in cc

-- ## Passes

-- a round with this last wait and this limit, past the deadline of a timer
abbrev ending : Option PollerAnswer → Option ℕ → World
ending last limit = record registered { now = 60; pos = 4; rounds = 1; begun = 0 ∷ []; round = Some (round [] last limit) }

no_timer : (r : Registration) (rs : List Registration) → [] ≡ r ∷ rs → ⊥
no_timer r rs same = cc

-- a round that is waited out ends without a second pass
pub a_second_pass_that_is_not_made_is_refused : RegistrationsFollow (ending (Some (Gives [])) (Some 50)) step.Finish (record registered { now = 60; pos = 5; rounds = 1 }) → ⊥
a_second_pass_that_is_not_made_is_refused f =
    let out : IsWaitedOut (round [] (Some (Gives [])) (Some 50)) = record { hand = refl; waited = inl refl; limit = λ zero. apart 0 50 (omega arith) (sym (some_number 50 0 zero)) } in
    let same : timer 50 ∷ [] ≡ [] = f.pass (round [] (Some (Gives [])) (Some 50), refl, out) in
    no_timer (timer 50) [] (sym same)

same_round : (a b : RoundState) → Some a ≡ Some b → a ≡ b
same_round a b same = cc

-- a round whose wait was interrupted ends with one
pub a_second_pass_after_an_interrupt_is_refused :
    RegistrationsFollow (ending (Some IsInterrupted) (Some 50)) step.Finish (record opening { now = 60; pos = 5; rounds = 1; ids_drawn = 1 }) → ⊥
a_second_pass_after_an_interrupt_is_refused f =
    let same : [] ≡ timer 50 ∷ [] = f.none (λ passes.
    let ends = same_round (round [] (Some IsInterrupted) (Some 50)) passes.0 passes.1 in
    ⊎_elim
    (λ (void : passes.0.last_wait ≡ Some (Gives [])). let last : Some IsInterrupted ≡ Some (Gives []) = ap (λ (r : RoundState). r.last_wait) ends ∙ void in cc)
    (λ (void : passes.0.last_wait ≡ Some Succeeds). let last : Some IsInterrupted ≡ Some Succeeds = ap (λ (r : RoundState). r.last_wait) ends ∙ void in cc)
    passes.2.waited) in
    no_timer (timer 50) [] same

-- so does one whose wait was to return at once
pub a_second_pass_after_no_time_is_refused :
    RegistrationsFollow (ending (Some (Gives [])) (Some 0)) step.Finish (record opening { now = 60; pos = 5; rounds = 1; ids_drawn = 1 }) → ⊥
a_second_pass_after_no_time_is_refused f =
    let same : [] ≡ timer 50 ∷ [] = f.none (λ passes.
    passes.2.limit (sym (ap (λ (r : RoundState). r.limit) (same_round (round [] (Some (Gives [])) (Some 0)) passes.0 passes.1)))) in
    no_timer (timer 50) [] same

-- a round begins without a pass
pub a_begin_without_a_pass_is_refused : (given : Option ℕ)
    → RegistrationsFollow (record registered { now = 60 }) (step.Begin given) (record registered { now = 60; pos = 1; rounds = 1 }) → ⊥
a_begin_without_a_pass_is_refused given f = let same : timer 50 ∷ [] ≡ [] = f.pass refl in no_timer (timer 50) [] (sym same)
