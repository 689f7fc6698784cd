-- What a step leaves of its own source's failed arm.
use Rattle.std.proofs.Common.{◌≡◌, ℕ, Bool, true, false, not, cond, ◌||◌, ◌==◌, List, [], ◌∷◌, ◌++◌, map, find, Option, None, Some, option_map, option_to_list, refl, ap, ◌∙◌, sym}
use Rattle.std.specs.Prelude.{flat_map, take, unwrap_or}
use Rattle.std.specs.List.{filter, list_any}
use Rattle.std.proofs.lemmas.Bool.{cond_both, eq-eqb, not-true}
use Rattle.aio_base.specs.declared.names.Key.{Key}
use Rattle.aio_base.specs.declared.names.Waker.{Waker}
use Rattle.aio_base.specs.declared.names.Dir.{Dir}
use Rattle.aio_base.specs.declared.names.Event.{Event}
use Rattle.aio_base.specs.declared.outcomes.EndWord.TheVariants.{FaultArm}
use Rattle.aio_base.specs.declared.steps.Step.{Step}
use Rattle.aio_base.specs.declared.steps.Step.TheVariants as step
use Rattle.aio_base.specs.declared.steps.Answer.TheVariants as answer
use Rattle.aio_base.specs.World.{PollerAnswer, ListenerEntry, BrokenSource, RoundState, World, directions_of, serial_of, key_of, poll_waiter, mark_of, is_empty_list, is_idle, is_broken, without_broken, wanted}
use Rattle.aio_base.specs.Machine.{Outcome, fails, next_answer, broken_world, armed_world, pending, del_source, is_fresh_since, is_waker, with_waiter, poll_source, with_listening, step_listener, is_listener, first_fault, hand_of, without_waiters, world_taken, wakers_taken, rearmed, handle_source, handle_first, handle_in, case_of, step_result}
use Rattle.aio_laws.specs.Covered.{tells_arm_fault}
use Rattle.aio_laws.specs.FailedArms.{own_broken, breaks_here, own_broken_after, BrokenFollows}
use Rattle.aio_base.proofs.Searching.{filtered_empty, kept_push, none_kept}

-- the failed arms of these sources
abbrev own_of : List ℕ → BrokenSource → Bool
own_of serials b = list_any (λ n. b.serial == n) serials

-- what is told of the failed arms of a step's own sources
abbrev Leaves : World → List ℕ → Outcome → Type 0
Leaves w serials o =
    filter (own_of serials) o.world.broken
    ≡ cond (tells_arm_fault o.answer) (map (breaks_here w) serials) (cond (is_empty_list o.calls) (filter (own_of serials) w.broken) [])

-- a step that has no source of its own
nothing_by : (told silent : Bool) (w v : World)
    → filter (own_of []) v.broken ≡ cond told (map (breaks_here w) []) (cond silent (filter (own_of []) w.broken) [])
nothing_by true silent w v = none_kept v.broken
nothing_by false true w v = none_kept v.broken ∙ sym (none_kept w.broken)
nothing_by false false w v = none_kept v.broken

nothing : (w : World) (o : Outcome) → Leaves w [] o
nothing w o = nothing_by (tells_arm_fault o.answer) (is_empty_list o.calls) w o.world

-- ## One source

or_none : (test : Bool) → (test || false) ≡ test
or_none true = refl
or_none false = refl

gone : (serial : ℕ) (broken : List BrokenSource) → filter (own_of (serial ∷ [])) (without_broken broken serial) ≡ []
gone serial broken =
    filtered_empty (own_of (serial ∷ [])) (λ (b : BrokenSource). not (b.serial == serial))
    (λ b stays. or_none (b.serial == serial) ∙ not-true (b.serial == serial) stays) broken

broken_now : (u : World) (serial : ℕ) → filter (own_of (serial ∷ [])) (broken_world u serial).broken ≡ breaks_here u serial ∷ []
broken_now u serial =
    kept_push (own_of (serial ∷ [])) (without_broken u.broken serial) (breaks_here u serial) (gone serial u.broken)
    (or_none (serial == serial) ∙ eq-eqb serial serial refl)

here : (w u : World) (serial : ℕ) → u.pos ≡ w.pos → filter (own_of (serial ∷ [])) (broken_world u serial).broken ≡ breaks_here w serial ∷ []
here w u serial same = broken_now u serial ∙ ap (λ (position : ℕ). record { serial = serial; position = position } ∷ []) same

-- a poll by whether its arm failed
armed_leaves : (failed : Bool) (w u : World) (key serial : ℕ) → u.pos ≡ w.pos
    → filter (own_of (serial ∷ [])) (cond failed (broken_world u serial) (armed_world u key serial)).broken
    ≡ cond (tells_arm_fault (cond failed answer.FaultArm answer.Pending)) (breaks_here w serial ∷ []) []
armed_leaves true w u key serial same = here w u serial same
armed_leaves false w u key serial same = gone serial u.broken

pending_leaves : (arms : Bool) (w u : World) (key serial : ℕ) (wakes : List Waker) (answers : List PollerAnswer) → u.pos ≡ w.pos → u.broken ≡ w.broken
    → Leaves w (serial ∷ []) (pending arms u key serial wakes answers)
pending_leaves false w u key serial wakes answers same broken = ap (filter (own_of (serial ∷ []))) broken
pending_leaves true w u key serial wakes answers same broken = armed_leaves (fails (next_answer answers)) w u key serial same

poll_leaves : (w : World) (key : ℕ) (dir : Dir) (waker : Waker) (found : Option ℕ) (answers : List PollerAnswer)
    → Leaves w (option_to_list found ++ []) (poll_source w key dir waker found answers)
poll_leaves w key dir waker None answers = nothing w (poll_source w key dir waker None answers)
poll_leaves w key dir waker (Some serial) answers =
    let waiter = poll_waiter w.poll_waiters serial dir in
    cond_both (is_fresh_since w serial dir (mark_of w.marks serial dir)) _ _ (Leaves w (serial ∷ [])) (λ ready. refl)
    (λ waits. cond_both (is_waker waker waiter) _ _ (Leaves w (serial ∷ [])) (λ same. pending_leaves (is_broken w serial) w w key serial [] answers refl refl)
    (λ other. pending_leaves (is_idle w serial dir || is_broken w serial) w (with_waiter w serial dir waker) key serial (option_to_list waiter) answers refl refl))

listen_leaves : (w : World) (waker : Waker) (found : Option ListenerEntry) (answers : List PollerAnswer)
    → Leaves w (option_to_list (option_map (λ (l : ListenerEntry). l.serial) found) ++ []) (step_listener w waker found answers)
listen_leaves w waker None answers = nothing w (step_listener w waker None answers)
listen_leaves w waker (Some entry) answers =
    cond_both (is_fresh_since w entry.serial entry.dir entry.position) _ _ (Leaves w (entry.serial ∷ [])) (λ ready. refl)
    (λ waits. pending_leaves (is_idle w entry.serial entry.dir || is_broken w entry.serial) w (record w { listeners = with_listening w entry waker })
    (unwrap_or (key_of w entry.serial) 0) entry.serial [] answers refl refl)

removed_leaves : (failed : Bool) (serial : ℕ) (broken mended : List BrokenSource)
    → filter (own_of (serial ∷ [])) (without_broken broken serial) ≡ cond (tells_arm_fault (cond failed answer.FaultRemove answer.Gone)) mended []
removed_leaves true serial broken mended = gone serial broken
removed_leaves false serial broken mended = gone serial broken

del_leaves : (w : World) (key : ℕ) (found : Option ℕ) (answers : List PollerAnswer) → Leaves w (option_to_list found) (del_source w key found answers)
del_leaves w key None answers = nothing w (del_source w key None answers)
del_leaves w key (Some serial) answers =
    cond_both (list_any (λ (l : ListenerEntry). l.serial == serial) w.listeners) _ _ (Leaves w (serial ∷ [])) (λ used. refl)
    (λ free. removed_leaves (fails (next_answer answers)) serial w.broken (map (breaks_here w) (serial ∷ [])))

-- ## Events

pub taken_position : (dirs : List Dir) (w : World) (serial begin : ℕ) → (world_taken w serial begin dirs).pos ≡ w.pos
taken_position [] w serial begin = refl
taken_position (dir ∷ dirs) w serial begin = taken_position dirs (without_waiters w serial begin dir) serial begin

pub taken_broken : (dirs : List Dir) (w : World) (serial begin : ℕ) → (world_taken w serial begin dirs).broken ≡ w.broken
taken_broken [] w serial begin = refl
taken_broken (dir ∷ dirs) w serial begin = taken_broken dirs (without_waiters w serial begin dir) serial begin

rearming_leaves : (failed : Bool) (w u : World) (round : RoundState) (key serial : ℕ) → u.pos ≡ w.pos
    → filter (own_of (serial ∷ [])) (cond failed (record (cond failed (broken_world u serial) (armed_world u key serial)) { round = Some round })
    (cond failed (broken_world u serial) (armed_world u key serial))).broken
    ≡ cond failed (breaks_here w serial ∷ []) []
rearming_leaves true w u round key serial same = here w u serial same
rearming_leaves false w u round key serial same = gone serial u.broken

rearmed_leaves : (w u : World) (round : RoundState) (key : Key) (serial : ℕ) (answers : List PollerAnswer) → u.pos ≡ w.pos → u.broken ≡ w.broken
    → Leaves w (serial ∷ []) (rearmed u round key serial answers)
rearmed_leaves w u round key serial answers same broken =
    cond_both (is_empty_list (wanted u serial)) _ _ (Leaves w (serial ∷ [])) (λ none. ap (filter (own_of (serial ∷ []))) broken)
    (λ some. rearming_leaves (fails (next_answer answers)) w u (record round { fault = first_fault round.fault FaultArm }) key.0 serial same)

source_leaves : (w : World) (round : RoundState) (event : Event) (found : Option ℕ) (answers : List PollerAnswer)
    → Leaves w (option_to_list found ++ []) (handle_source w round event found answers)
source_leaves w round event None answers = nothing w (handle_source w round event None answers)
source_leaves w round event (Some serial) answers =
    let dirs = directions_of event.on in
    let taken : RoundState = record round { taken = round.taken ++ wakers_taken w serial round.begin dirs } in
    rearmed_leaves w (record (world_taken w serial round.begin dirs) { round = Some taken }) taken event.key serial answers
    (taken_position dirs w serial round.begin) (taken_broken dirs w serial round.begin)

-- the sources of events
abbrev sources_in : World → List Event → List ℕ
sources_in w events = flat_map (λ (event : Event). option_to_list (serial_of w event.key.0)) events

first_leaves : (w : World) (round : RoundState) (hand : List Event) (answers : List PollerAnswer)
    → Leaves w (sources_in w (take 1 hand)) (handle_first w round hand answers)
first_leaves w round [] answers = nothing w (handle_first w round [] answers)
first_leaves w round (event ∷ events) answers = source_leaves w (record round { in_hand = events }) event (serial_of w event.key.0) answers

handle_leaves : (w : World) (round : Option RoundState) (answers : List PollerAnswer)
    → Leaves w (sources_in w (take 1 (hand_of round))) (handle_in w round answers)
handle_leaves w None answers = nothing w (handle_in w None answers)
handle_leaves w (Some round) answers = first_leaves w round round.in_hand answers

-- ## A step

abbrev Follows : World → Step → List PollerAnswer → Type 0
Follows w s answers =
    own_broken w s answers (case_of w s answers).world ≡ own_broken_after w s answers (case_of w s answers).answer (case_of w s answers).calls

-- whether a step is no whole round
abbrev is_one : Step → Bool
is_one step.React = false
is_one _ = true

case_leaves : (w : World) (s : Step) (answers : List PollerAnswer) → is_one s ≡ true → Follows w s answers
case_leaves w (step.Del key) answers one = del_leaves w key.0 (serial_of w key.0) answers
case_leaves w (step.Poll key dir waker) answers one = poll_leaves w key.0 dir waker (serial_of w key.0) answers
case_leaves w (step.StepEar number waker) answers one = listen_leaves w waker (find (is_listener number) w.listeners) answers
case_leaves w step.Handle answers one = handle_leaves w w.round answers
case_leaves w step.React answers one = absurd cc
case_leaves w s answers one = nothing w (case_of w s answers)

no_round : (s : Step) → (s ≡ step.React → ⊥) → is_one s ≡ true
no_round step.React other = absurd (other refl)
no_round _ other = refl

pub broken_follows : (w : World) (s : Step) (answers : List PollerAnswer)
    → BrokenFollows w s answers (step_result w s answers).answer (step_result w s answers).calls (step_result w s answers).world
unfolding step_result
broken_follows w s answers = record { own = λ other. case_leaves w s answers (no_round s other) }
