-- Answers of wrong machines, each refused by a law of a step: of sources that are added and taken out, and of what is ready.
use Rattle.std.proofs.Common.{◌≡◌, ℕ, ◌<◌, ◌≤◌, true, false, [], ◌∷◌, length, Option, None, Some, refl, ap, ◌∙◌, sym, subst, ◌⊎◌, inl, inr, ⊎_elim, arith}
use Rattle.std.specs.List.{Contains}
use Rattle.aio_base.specs.declared.names.Dir.{Dir}
use Rattle.aio_base.specs.declared.names.Dir.TheVariants.{Read, Write}
use Rattle.aio_base.specs.declared.steps.Step.TheVariants as step
use Rattle.aio_base.specs.declared.steps.Answer.TheVariants as answer
use Rattle.aio_base.specs.World.{LiveSource, ListenerEntry, TimerEntry, HandledDirection, World, opening, mark_of}
use Rattle.aio_laws.specs.Readiness.{IsHandledSince, ReadyIsTold}
use Rattle.aio_laws.specs.Sources.{SourcesFollow}
use Rattle.aio_base.proofs.Membership.{first_is_in, none_is_in, among_cases}
use Rattle.aio_laws.proofs.refused.FalseNotes.{task, key, entry, waiting}

-- ## Sources

abbrev source : ℕ → ℕ → LiveSource
source number serial = record { key = number; serial = serial }

-- sources of the keys 0 and 2
abbrev gap : World
gap = record opening { pos = 4; live = source 0 1 ∷ source 2 2 ∷ []; serials = 2 }

longer : (a b c : LiveSource) → a ∷ b ∷ c ∷ [] ≡ a ∷ b ∷ [] → ⊥
longer a b c same = let long = ap length same in absurd (omega arith)

third : (a b c d : LiveSource) → a ∷ b ∷ c ∷ [] ≡ a ∷ b ∷ d ∷ [] → c ≡ d
third a b c d same = cc

apart : (m n : ℕ) → m < n → m ≡ n → ⊥
apart m n less same = absurd (omega arith)

-- a new source stands under another key than the answer tells
pub a_source_under_another_key_than_told_is_refused :
    SourcesFollow gap step.Add (answer.KeyIs (key 1)) (record gap { pos = 5; live = source 0 1 ∷ source 2 2 ∷ source 3 3 ∷ []; serials = 3 }) → ⊥
a_source_under_another_key_than_told_is_refused f =
    apart 1 3 (omega arith) (sym (ap (λ (x : LiveSource). x.key) (third (source 0 1) (source 2 2) (source 3 3) (source 1 3) f.live)))

-- a key is told, and no source joins
pub a_source_that_does_not_join_is_refused : SourcesFollow gap step.Add (answer.KeyIs (key 1)) (record gap { pos = 5; serials = 3 }) → ⊥
a_source_that_does_not_join_is_refused f = longer (source 0 1) (source 2 2) (source 1 3) (sym f.live)

-- a fault is told, and a source joins
pub a_source_that_joins_at_a_fault_is_refused :
    SourcesFollow gap step.Add answer.FaultAdd (record gap { pos = 5; live = source 0 1 ∷ source 2 2 ∷ source 1 3 ∷ []; serials = 3 }) → ⊥
a_source_that_joins_at_a_fault_is_refused f = longer (source 0 1) (source 2 2) (source 1 3) f.live

-- the keys of `gap`
of_gap : (n : ℕ) → Contains (0 ∷ 2 ∷ []) n → (n ≡ 0) ⊎ (n ≡ 2)
of_gap n among =
    ⊎_elim
    (λ (zero_is : 0 ≡ n). inl (sym zero_is))
    (λ (later : Contains (2 ∷ []) n). ⊎_elim (λ (two_is : 2 ≡ n). inr (sym two_is)) (λ (none : Contains [] n). none_is_in n none) (among_cases 2 [] n later))
    (among_cases 0 (2 ∷ []) n among)

-- a key is given that is not the least free one
pub a_key_that_is_not_the_least_is_refused :
    SourcesFollow gap step.Add (answer.KeyIs (key 3)) (record gap { pos = 5; live = source 0 1 ∷ source 2 2 ∷ source 3 3 ∷ []; serials = 3 }) → ⊥
a_key_that_is_not_the_least_is_refused f =
    ⊎_elim (λ (wrong : 1 ≡ 0). absurd (omega arith)) (λ (wrong : 1 ≡ 2). absurd (omega arith)) (of_gap 1 (f.tells.least 1 (omega arith)))

-- a key is given that a source has
pub a_key_given_twice_is_refused :
    SourcesFollow gap step.Add (answer.KeyIs (key 0)) (record gap { pos = 5; live = source 0 1 ∷ source 2 2 ∷ source 0 3 ∷ []; serials = 3 }) → ⊥
a_key_given_twice_is_refused f = f.tells.free (first_is_in 0 (2 ∷ []))

-- a source is told gone, and stays
pub a_source_that_is_told_gone_and_stays_is_refused : SourcesFollow gap (step.Del (key 0)) answer.Gone (record gap { pos = 5 }) → ⊥
a_source_that_is_told_gone_and_stays_is_refused f =
    let same : source 0 1 ∷ source 2 2 ∷ [] ≡ source 2 2 ∷ [] = f.live in let long = ap length same in absurd (let wrong : 2 ≡ 1 = long in omega arith)

-- another source is taken out with it
pub another_source_that_is_taken_out_is_refused : SourcesFollow gap (step.Del (key 0)) answer.FaultRemove (record gap { pos = 5; live = [] }) → ⊥
another_source_that_is_taken_out_is_refused f = let same : [] ≡ source 2 2 ∷ [] = f.live in cc

-- a source that listeners use is taken out all the same
pub a_source_in_use_that_is_taken_out_is_refused : SourcesFollow gap (step.Del (key 0)) answer.InUse (record gap { pos = 5; live = source 2 2 ∷ [] }) → ⊥
a_source_in_use_that_is_taken_out_is_refused f =
    let same : source 2 2 ∷ [] ≡ source 0 1 ∷ source 2 2 ∷ [] = f.live in let long = ap length same in absurd (let wrong : 1 ≡ 2 = long in omega arith)

-- a key that no source has is told gone
pub a_source_that_is_gone_and_never_was_is_refused : SourcesFollow gap (step.Del (key 1)) answer.Gone (record gap { pos = 5 }) → ⊥
a_source_that_is_gone_and_never_was_is_refused f = let wrong : false ≡ true = f.tells in cc

-- the end of a round takes a source out
pub a_source_taken_out_by_another_step_is_refused : SourcesFollow gap step.Finish answer.NoRound (record gap { pos = 5; live = [] }) → ⊥
a_source_taken_out_by_another_step_is_refused f = let same : [] ≡ source 0 1 ∷ source 2 2 ∷ [] = f.live in cc

-- ## Readiness

nothing_handled : (serial : ℕ) (dir : Dir) (position : ℕ) (w : World) → w.handled ≡ [] → IsHandledSince w serial dir position → ⊥
nothing_handled serial dir position w none h = none_is_in h.entry (subst (λ hs. Contains hs h.entry) none h.among)

-- a poll is ready though nothing was handled
pub a_poll_ready_without_an_event_is_refused : ReadyIsTold waiting (step.Poll (key 0) Read (task 7)) answer.Ready → ⊥
a_poll_ready_without_an_event_is_refused r =
    let is = r.ready.0 refl in nothing_handled is.serial Read is.position waiting refl is.handled

some_is : (m n : ℕ) → Some m ≡ Some n → m ≡ n
some_is m n same = cc

-- what was handled since is the one entry there is
only_entry : (w : World) (h : HandledDirection) (serial : ℕ) (dir : Dir) (position : ℕ) → w.handled ≡ h ∷ [] → IsHandledSince w serial dir position
    → (h.serial ≡ serial) × (h.dir ≡ dir) × (position < h.begin)
only_entry w h serial dir position one is =
    ⊎_elim
    (λ (same : h ≡ is.entry). (
      ap (λ (e : HandledDirection). e.serial) same ∙ is.of,
      ap (λ (e : HandledDirection). e.dir) same ∙ is.on,
      subst (λ (e : HandledDirection). position < e.begin) (sym same) is.later,
    ))
    (λ (none : Contains [] is.entry). none_is_in is.entry none)
    (among_cases h [] is.entry (subst (λ hs. Contains hs is.entry) one is.among))

-- a poll is ready by an event of a round that began before its waiter was stored
pub a_poll_ready_by_an_earlier_round_is_refused :
    ReadyIsTold (record waiting { handled = entry 1 Read 0 ∷ [] }) (step.Poll (key 0) Read (task 7)) answer.Ready → ⊥
a_poll_ready_by_an_earlier_round_is_refused r =
    let is = r.ready.0 refl in
    let since = only_entry (record waiting { handled = entry 1 Read 0 ∷ [] }) (entry 1 Read 0) is.serial Read is.position refl is.handled in
    absurd (let before : is.position < 0 = since.2 in omega arith)

-- a reader is ready by a write
pub a_poll_ready_by_the_other_direction_is_refused :
    ReadyIsTold (record waiting { handled = entry 1 Write 2 ∷ [] }) (step.Poll (key 0) Read (task 7)) answer.Ready → ⊥
a_poll_ready_by_the_other_direction_is_refused r =
    let is = r.ready.0 refl in
    let since = only_entry (record waiting { handled = entry 1 Write 2 ∷ [] }) (entry 1 Write 2) is.serial Read is.position refl is.handled in
    absurd (let wrong : Write ≡ Read = since.1 in cc)

-- a direction that nobody has polled is ready
pub a_poll_ready_without_a_mark_is_refused :
    ReadyIsTold (record waiting { handled = entry 2 Read 2 ∷ [] }) (step.Poll (key 1) Read (task 8)) answer.Ready → ⊥
a_poll_ready_without_a_mark_is_refused r =
    let is = r.ready.0 refl in
    let two : 2 ≡ is.serial = some_is 2 is.serial is.live in
    absurd (let none : None ≡ Some is.position = subst (λ n. mark_of waiting.marks n Read ≡ Some is.position) (sym two) is.marked in cc)

-- a poll waits though an event of its direction was handled since
pub a_poll_that_waits_though_it_is_ready_is_refused :
    ReadyIsTold (record waiting { handled = entry 1 Read 2 ∷ [] }) (step.Poll (key 0) Read (task 7)) answer.Pending → ⊥
a_poll_that_waits_though_it_is_ready_is_refused r =
    let told = r.ready.1 (record {
      serial = 1;
      position = 1;
      live = refl;
      marked = refl;
      handled = record { entry = entry 1 Read 2; among = first_is_in (entry 1 Read 2) []; of = refl; on = refl; later = let before : 1 < 2 = omega arith in before };
    }) in
    absurd (let wrong : answer.Pending ≡ answer.Ready = told in cc)

abbrev listener : Option ℕ → ListenerEntry
listener position = record { number = 1; serial = 1; dir = Read; position = position; waker = None }

-- a listener is ready at its first poll, by an event that was handled before
pub a_listener_ready_at_its_first_poll_is_refused :
    ReadyIsTold (record waiting { listeners = listener None ∷ []; handled = entry 1 Read 2 ∷ [] }) (step.StepEar 1 (task 7)) answer.Ready → ⊥
a_listener_ready_at_its_first_poll_is_refused r =
    let is = r.ready.0 refl in
    let one : listener None ≡ is.listener = (let found : Some (listener None) ≡ Some is.listener = is.there in cc) in
    absurd (let wrong : None ≡ Some is.position = ap (λ (l : ListenerEntry). l.position) one ∙ is.polled in cc)

-- a listener waits though an event was handled by a round that began after its first poll
pub a_listener_that_waits_though_it_is_ready_is_refused :
    ReadyIsTold (record waiting { listeners = listener (Some 1) ∷ []; handled = entry 1 Read 2 ∷ [] }) (step.StepEar 1 (task 7)) answer.Pending → ⊥
a_listener_that_waits_though_it_is_ready_is_refused r =
    let told = r.ready.1 (record {
      listener = listener (Some 1);
      position = 1;
      there = refl;
      polled = refl;
      handled = record { entry = entry 1 Read 2; among = first_is_in (entry 1 Read 2) []; of = refl; on = refl; later = let before : 1 < 2 = omega arith in before };
    }) in
    absurd (let wrong : answer.Pending ≡ answer.Ready = told in cc)

-- another step is told ready
pub another_step_that_is_ready_is_refused : ReadyIsTold waiting (step.Now 9) answer.Ready → ⊥
another_step_that_is_ready_is_refused r = absurd (r.ready.0 refl)

abbrev timed : ℕ → ℕ → World
timed now deadline = record opening {
  pos = 4;
  now = now;
  timers = record { number = 1; deadline = Some deadline; period = None; id = None; kept = None } ∷ [];
  timers_made = 1;
}

abbrev timer : ℕ → TimerEntry
timer deadline = record { number = 1; deadline = Some deadline; period = None; id = None; kept = None }

same_timer : (now deadline : ℕ) (t : TimerEntry) → Some (timer deadline) ≡ Some t → timer deadline ≡ t
same_timer now deadline t same = cc

-- a timer is ready before its deadline
pub a_timer_ready_before_its_deadline_is_refused : ReadyIsTold (timed 4 5) (step.Tick 1 (task 7)) (answer.ReadyAt 5) → ⊥
a_timer_ready_before_its_deadline_is_refused r = let is = (r.ready_at 5).0 refl in absurd (let come : 5 ≤ 4 = is.come in omega arith)

-- a timer that is due tells another deadline
pub a_timer_ready_with_another_deadline_is_refused : ReadyIsTold (timed 9 5) (step.Tick 1 (task 7)) (answer.ReadyAt 6) → ⊥
a_timer_ready_with_another_deadline_is_refused r =
    let is = (r.ready_at 6).0 refl in
    let one : timer 5 ≡ is.timer = same_timer 9 5 is.timer is.there in
    absurd (let wrong : 5 ≡ 6 = some_is 5 6 (ap (λ (t : TimerEntry). t.deadline) one ∙ is.waits) in omega arith)

-- a timer waits though it is due
pub a_timer_that_waits_though_it_is_due_is_refused : ReadyIsTold (timed 5 5) (step.Tick 1 (task 7)) answer.Pending → ⊥
a_timer_that_waits_though_it_is_due_is_refused r =
    let told = (r.ready_at 5).1 (record { timer = timer 5; there = refl; waits = refl; come = let come : 5 ≤ 5 = omega arith in come }) in
    absurd (let wrong : answer.Pending ≡ answer.ReadyAt 5 = told in cc)
