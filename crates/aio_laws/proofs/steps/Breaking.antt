-- A step leaves the failed arms of others alone.
use Rattle.std.proofs.Common.{◌≡◌, ℕ, Bool, true, false, not, cond, ◌||◌, ◌==◌, List, [], ◌∷◌, ◌++◌, find, Option, None, Some, is_some, option_map, option_to_list, refl, ap, ◌∙◌, sym, subst}
use Rattle.std.specs.Prelude.{flat_map, take, unwrap_or}
use Rattle.std.specs.List.{Contains, filter, list_any}
use Rattle.std.proofs.lemmas.Bool.{eq-eqb}
use Rattle.std.proofs.lemmas.List.Elements.{Contains-append_left}
use Rattle.aio_base.specs.declared.names.Key.{Key}
use Rattle.aio_base.specs.declared.names.Waker.{Waker}
use Rattle.aio_base.specs.declared.names.Dir.{Dir}
use Rattle.aio_base.specs.declared.names.Event.{Event}
use Rattle.aio_base.specs.declared.steps.Step.{Step}
use Rattle.aio_base.specs.declared.steps.Step.TheVariants as step
use Rattle.aio_base.specs.World.{PollerAnswer, LiveSource, ListenerEntry, BrokenSource, RoundState, World, directions_of, serial_of, key_of, poll_waiter, mark_of, is_empty_list, is_idle, is_broken, without_broken, wanted}
use Rattle.aio_base.specs.Machine.{Outcome, fails, next_answer, broken_world, armed_world, after_arm, pending, del_source, is_fresh_since, is_waker, with_waiter, poll_source, with_listening, step_listener, is_listener, begin_round, wait_round, without_waiters, world_taken, rearmed, handle_source, handle_first, handle_in, handle_round, handle_each, hand_of, react, case_of}
use Rattle.aio_laws.specs.Succession.{events_given}
use Rattle.aio_laws.specs.Arming.{handled_events}
use Rattle.aio_laws.specs.Others.{other_broken}
use Rattle.aio_base.proofs.Membership.{first_is_in, later_is_in, any_from, piece_is_in}
use Rattle.aio_base.proofs.Searching.{of_not, refiltered, unseen_push}
use Rattle.aio_laws.proofs.rounds.RoundLemmas.{in_hand_of, event_handled, first_of, ended_of, begun_in_hand}
use Rattle.aio_laws.proofs.steps.Frames.{Frame, either, either_world, handle_keeps}
use Rattle.aio_laws.proofs.steps.Asides.{Aside, begin_leaves, wait_leaves, finish_leaves, leaves_aside}

-- a test that no failed arm of this source passes
abbrev Drops : (BrokenSource → Bool) → ℕ → Type 0
Drops q serial = (b : BrokenSource) → (b.serial == serial) ≡ true → q b ≡ false

-- ## One source

removed : (q : BrokenSource → Bool) (serial : ℕ) → Drops q serial → (broken : List BrokenSource) → filter q (without_broken broken serial) ≡ filter q broken
removed q serial drops broken = refiltered q (λ (b : BrokenSource). not (b.serial == serial)) (λ b out. drops b (of_not (b.serial == serial) out)) broken

arm_others : (q : BrokenSource → Bool) (w : World) (key serial : ℕ) (told : PollerAnswer) → Drops q serial → filter q (after_arm w key serial told).broken ≡ filter q w.broken
arm_others q w key serial told drops =
    either_world (λ v. filter q v.broken ≡ filter q w.broken) (fails told) (broken_world w serial) (armed_world w key serial)
    (unseen_push q (without_broken w.broken serial) (record { serial = serial; position = w.pos })
    (drops (record { serial = serial; position = w.pos }) (eq-eqb serial serial refl)) ∙ removed q serial drops w.broken)
    (removed q serial drops w.broken)

pending_others : (q : BrokenSource → Bool) (arms : Bool) (w : World) (key serial : ℕ) (wakes : List Waker) (answers : List PollerAnswer) → Drops q serial
    → filter q (pending arms w key serial wakes answers).world.broken ≡ filter q w.broken
pending_others q false w key serial wakes answers drops = refl
pending_others q true w key serial wakes answers drops = arm_others q w key serial (next_answer answers) drops

poll_others : (q : BrokenSource → Bool) (w : World) (key : ℕ) (dir : Dir) (waker : Waker) (found : Option ℕ) (answers : List PollerAnswer)
    → ((serial : ℕ) → found ≡ Some serial → Drops q serial) → filter q (poll_source w key dir waker found answers).world.broken ≡ filter q w.broken
poll_others q w key dir waker None answers drops = refl
poll_others q w key dir waker (Some serial) answers drops =
    let waiter = poll_waiter w.poll_waiters serial dir in
    either (λ o. filter q o.world.broken ≡ filter q w.broken) (is_fresh_since w serial dir (mark_of w.marks serial dir)) _ _ refl
    (either (λ o. filter q o.world.broken ≡ filter q w.broken) (is_waker waker waiter) _ _
    (pending_others q (is_broken w serial) w key serial [] answers (drops serial refl))
    (pending_others q (is_idle w serial dir || is_broken w serial) (with_waiter w serial dir waker) key serial (option_to_list waiter) answers (drops serial refl)))

step_others : (q : BrokenSource → Bool) (w : World) (waker : Waker) (found : Option ListenerEntry) (answers : List PollerAnswer)
    → ((entry : ListenerEntry) → found ≡ Some entry → Drops q entry.serial) → filter q (step_listener w waker found answers).world.broken ≡ filter q w.broken
step_others q w waker None answers drops = refl
step_others q w waker (Some entry) answers drops =
    either (λ o. filter q o.world.broken ≡ filter q w.broken) (is_fresh_since w entry.serial entry.dir entry.position) _ _ refl
    (pending_others q (is_idle w entry.serial entry.dir || is_broken w entry.serial) (record w { listeners = with_listening w entry waker })
    (unwrap_or (key_of w entry.serial) 0) entry.serial [] answers (drops entry refl))

del_others : (q : BrokenSource → Bool) (w : World) (key : ℕ) (found : Option ℕ) (answers : List PollerAnswer)
    → ((serial : ℕ) → found ≡ Some serial → Drops q serial) → filter q (del_source w key found answers).world.broken ≡ filter q w.broken
del_others q w key None answers drops = refl
del_others q w key (Some serial) answers drops =
    either (λ o. filter q o.world.broken ≡ filter q w.broken) (list_any (λ (l : ListenerEntry). l.serial == serial) w.listeners) _ _ refl
    (removed q serial (drops serial refl) w.broken)

-- ## Events

taken_broken : (w : World) (serial begin : ℕ) (dirs : List Dir) → (world_taken w serial begin dirs).broken ≡ w.broken
taken_broken w serial begin [] = refl
taken_broken w serial begin (dir ∷ dirs) = taken_broken (without_waiters w serial begin dir) serial begin dirs

rearmed_others : (q : BrokenSource → Bool) (w : World) (round : RoundState) (key : Key) (serial : ℕ) (answers : List PollerAnswer) → Drops q serial
    → filter q (rearmed w round key serial answers).world.broken ≡ filter q w.broken
rearmed_others q w round key serial answers drops =
    let told = next_answer answers in
    let arm = arm_others q w key.0 serial told drops in
    either (λ o. filter q o.world.broken ≡ filter q w.broken) (is_empty_list (wanted w serial)) _ _ refl
    (either_world (λ v. filter q v.broken ≡ filter q w.broken) (fails told) _ _ arm arm)

source_others : (q : BrokenSource → Bool) (w : World) (round : RoundState) (event : Event) (found : Option ℕ) (answers : List PollerAnswer)
    → ((serial : ℕ) → found ≡ Some serial → Drops q serial) → filter q (handle_source w round event found answers).world.broken ≡ filter q w.broken
source_others q w round event None answers drops = refl
source_others q w round event (Some serial) answers drops =
    rearmed_others q _ _ event.key serial answers (drops serial refl) ∙ ap (filter q) (taken_broken w serial round.begin (directions_of event.on))

-- a test that no failed arm of a source of these events passes, where these sources are live
abbrev DropsOf : (BrokenSource → Bool) → List LiveSource → List Event → Type 0
DropsOf q live events = (event : Event) → Contains events event → (serial : ℕ)
    → option_map (λ (s : LiveSource). s.serial) (find (λ (s : LiveSource). s.key == event.key.0) live) ≡ Some serial → Drops q serial

first_others : (q : BrokenSource → Bool) (w : World) (round : RoundState) (hand : List Event) (answers : List PollerAnswer) → DropsOf q w.live (take 1 hand)
    → filter q (handle_first w round hand answers).world.broken ≡ filter q w.broken
first_others q w round [] answers drops = refl
first_others q w round (event ∷ events) answers drops =
    source_others q w (record round { in_hand = events }) event (serial_of w event.key.0) answers (drops event (first_is_in event []))

handle_others : (q : BrokenSource → Bool) (w : World) (round : Option RoundState) (answers : List PollerAnswer) → DropsOf q w.live (take 1 (hand_of round))
    → filter q (handle_in w round answers).world.broken ≡ filter q w.broken
handle_others q w None answers drops = refl
handle_others q w (Some round) answers drops = first_others q w round round.in_hand answers drops

each_others : (q : BrokenSource → Bool) (events : List Event) (w : World) (answers : List PollerAnswer) → in_hand_of w.round ≡ Some events
    → DropsOf q w.live events → filter q (handle_each events w answers).world.broken ≡ filter q w.broken
each_others q [] w answers at drops = refl
each_others q (event ∷ events) w answers at drops =
    let first = handle_round w answers in
    let live : first.world.live ≡ w.live = ap (λ (f : Frame). f.live) (handle_keeps w w.round answers refl) in
    each_others q events first.world first.left (event_handled w event events answers at).hand
    (subst (λ sources. DropsOf q sources events) (sym live) (λ e among. drops e (later_is_in event events e among)))
    ∙ handle_others q w w.round answers
    (subst (DropsOf q w.live) (sym (first_of w.round event events at))
    (λ e among. drops e (Contains-append_left (event ∷ []) events e among)))

reacted_others : (q : BrokenSource → Bool) (w : World) (answers : List PollerAnswer) → is_some w.round ≡ false → DropsOf q w.live (events_given (next_answer answers))
    → filter q (ended_of w answers).world.broken ≡ filter q w.broken
reacted_others q w answers none drops =
    let begun = begin_round w None answers in
    let waited = wait_round begun.world begun.left in
    let hand = hand_of waited.world.round in
    let handled = handle_each hand waited.world waited.left in
    let h = begun_in_hand w answers none in
    ap (λ (a : Aside). filter q a.broken) (finish_leaves handled.world handled.world.round handled.left)
    ∙ each_others q hand waited.world waited.left h.held
    (subst (DropsOf q waited.world.live) (sym h.events) (subst (λ sources. DropsOf q sources (events_given (next_answer answers))) (sym h.live) drops))
    ∙ ap (λ (a : Aside). filter q a.broken) (wait_leaves begun.world begun.world.round begun.left)
    ∙ ap (λ (a : Aside). filter q a.broken) (begin_leaves w None answers)

-- ## A step

-- the failed arms of others
abbrev of_others : List ℕ → BrokenSource → Bool
of_others serials b = not (list_any (λ n. b.serial == n) serials)

own_drops : (serials : List ℕ) (serial : ℕ) → Contains serials serial → Drops (of_others serials) serial
own_drops serials serial among b same = ap not (any_from (λ n. b.serial == n) serials serial among same)

-- the serials of the sources of these events
abbrev serials_in : World → List Event → List ℕ
serials_in w events = flat_map (λ (event : Event). option_to_list (serial_of w event.key.0)) events

events_drop : (w : World) (events : List Event) → DropsOf (of_others (serials_in w events)) w.live events
events_drop w events event among serial live =
    own_drops (serials_in w events) serial
    (piece_is_in (λ (e : Event). option_to_list (serial_of w e.key.0)) events event serial among
    (subst (λ (found : Option ℕ). Contains (option_to_list found) serial) (sym live) (first_is_in serial [])))

found_drops : (found : Option ℕ) (serial : ℕ) → found ≡ Some serial → Drops (of_others (option_to_list found ++ [])) serial
found_drops found serial is =
    own_drops (option_to_list found ++ []) serial (subst (λ (f : Option ℕ). Contains (option_to_list f ++ []) serial) (sym is) (first_is_in serial []))

react_step : (w : World) (answers : List PollerAnswer) (runs : Bool) (locked round : Outcome) → locked.world.broken ≡ w.broken
    → (runs ≡ false → filter (of_others (serials_in w (events_given (next_answer answers)))) round.world.broken
    ≡ filter (of_others (serials_in w (events_given (next_answer answers)))) w.broken)
    → filter (of_others (serials_in w (cond runs [] (events_given (next_answer answers))))) (cond runs locked round).world.broken
    ≡ filter (of_others (serials_in w (cond runs [] (events_given (next_answer answers))))) w.broken
react_step w answers true locked round first second = ap (filter (of_others [])) first
react_step w answers false locked round first second = second refl

react_others : (w : World) (answers : List PollerAnswer)
    → filter (of_others (serials_in w (handled_events w step.React answers))) (react w None answers).world.broken
    ≡ filter (of_others (serials_in w (handled_events w step.React answers))) w.broken
react_others w answers = react_step w answers (is_some w.round) _ _ refl (λ none. reacted_others _ w answers none (events_drop w (events_given (next_answer answers))))

-- the failed arms of others are all of them
abbrev every : Aside → List BrokenSource
every a = filter (of_others []) a.broken

pub broken_stand : (w : World) (s : Step) (answers : List PollerAnswer) → other_broken w s answers (case_of w s answers).world ≡ other_broken w s answers w
broken_stand w (step.Del key) answers =
    del_others (of_others (option_to_list (serial_of w key.0))) w key.0 (serial_of w key.0) answers
    (λ serial is. own_drops (option_to_list (serial_of w key.0)) serial (subst (λ (f : Option ℕ). Contains (option_to_list f) serial) (sym is) (first_is_in serial [])))
broken_stand w (step.Poll key dir waker) answers =
    poll_others (of_others (option_to_list (serial_of w key.0) ++ [])) w key.0 dir waker (serial_of w key.0) answers (λ serial is. found_drops (serial_of w key.0) serial is)
broken_stand w (step.StepEar number waker) answers =
    let found = find (is_listener number) w.listeners in
    let serial = option_map (λ (l : ListenerEntry). l.serial) found in
    step_others (of_others (option_to_list serial ++ [])) w waker found answers
    (λ entry is. found_drops serial entry.serial (ap (option_map (λ (l : ListenerEntry). l.serial)) is))
broken_stand w step.Handle answers =
    handle_others (of_others (serials_in w (take 1 (hand_of w.round)))) w w.round answers (events_drop w (take 1 (hand_of w.round)))
broken_stand w step.React answers = react_others w answers
broken_stand w s answers = ap every (leaves_aside w s answers)
