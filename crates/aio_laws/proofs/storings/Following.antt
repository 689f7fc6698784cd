-- How the storings of a run follow from step to step.
use Rattle.std.proofs.Common.{◌≡◌, ◌⊎◌, ℕ, ◌+◌, Bool, true, false, not, cond, ◌&&◌, ◌||◌, List, [], ◌∷◌, ◌++◌, length, map, find, Option, None, Some, is_some, refl, ap, ◌∙◌, sym, subst, inl, inr, ⊎_elim, arith, append-nil}
use Rattle.std.specs.Prelude.{nat_le, flat_map, take, option_map, option_to_list, option_and_then}
use Rattle.std.specs.List.{Contains}
use Rattle.std.proofs.lemmas.Bool.{cond_both, cond-true, cond-false, eqb-true}
use Rattle.std.proofs.lemmas.List.{append_cancel_left}
use Rattle.std.proofs.lemmas.List.Elements.{Contains-append_left, Contains-append_right, Contains-append_cases}
use Rattle.aio_base.specs.declared.names.Key.{Key}
use Rattle.aio_base.specs.declared.names.Waker.{Waker}
use Rattle.aio_base.specs.declared.names.Dir.{Dir}
use Rattle.aio_base.specs.declared.names.Event.{Event}
use Rattle.aio_base.specs.declared.steps.Step.{Step}
use Rattle.aio_base.specs.declared.steps.Step.TheVariants as step
use Rattle.aio_base.specs.declared.steps.Answer.{Answer}
use Rattle.aio_base.specs.declared.steps.Answer.TheVariants as answer
use Rattle.aio_base.specs.World.{PollerAnswer, ListenerEntry, TimerEntry, RoundState, World, directions, directions_of, poll_waiter, mark_of, serial_of, is_empty_list, opening}
use Rattle.aio_base.specs.Machine.{Outcome, next_answer, fails, pending, poll_source, step_listener, tick_timer, next_deadline, is_waker, is_fresh_since, is_listener, is_timer, begin_round, wait_round, handle_round, handle_each, hand_of, gave_none, is_zero, ends_with_pass, finish_in, react, step_result}
use Rattle.aio_base.proofs.TimerCases.{tick_deadline, tick_by_deadline}
use Rattle.aio_base.specs.Refusals.{is_refusal}
use Rattle.aio_base.specs.Runs.{PolledStep, outcome_of, world_of}
use Rattle.aio_laws.specs.Storings.{Place, OfPoll, OfListener, OfTimer, Stored, Storings, no_storings, standing_at, none_at, stored_at, given_up_at, woken_at, each_taken, each_given_up, round_woken, timer_place, places_of, due_places, poll_moves, listener_moves, registered_anew, tick_moves_at, tick_moves, set_moves, end_moves, drop_moves, del_moves, begin_moves, event_moves, handle_moves_first, handle_moves, finish_moves_in, finish_moves, handle_each_moves, react_moves, step_storings, step_ended, storings_from, storings_of}
use Rattle.aio_laws.specs.Succession.{poll_places, waker_kept, id_kept, stored_as, own_storing, has_to_wait, is_ahead, registers, stores, event_places, events_given, taken_places, replaced_places, standing_in, may_give_up, gives_up, ends_round, is_poll, StoringsFollow}
use Rattle.aio_laws.proofs.storings.Clearing.{Cleared, step_clears, tick_rests}
use Rattle.aio_base.proofs.Membership.{none_is_in, first_is_in, found_is_in}
use Rattle.aio_laws.proofs.storings.Leaving.{Leave, one_leaves, Empties, Taking, none_taken, both_taken, all_taken, GivingUp, none_given_up, one_given_up, all_given_up}
use Rattle.aio_laws.proofs.rounds.RoundLemmas.{Same, listeners_places, same_events, in_hand_of, event_handled, all_handled, is_handled, handled_out, hand_is, none_due_left, begun_in_hand}
use Rattle.aio_laws.proofs.storings.UnmovedLemmas.{refused_moves_nothing}

-- ## What is stored

-- How a step may move storings that gives some up and then stores `may`, where it `does` store.
record Storing (P : Place → Type 0) (does : Bool) (may : List Stored) (l m : Storings) : Type 0 where
  pub stored : List Stored
  pub is : stored ≡ cond does may []
  pub now : List Stored
  pub given : m.given ≡ l.given + length stored
  pub stores_it : (x : Stored) → Contains stored x → Contains m.standing x
  pub stands : (x : Stored) → Contains m.standing x → Contains l.standing x ⊎ Contains stored x
  pub stood : (x : Stored) → Contains l.standing x → Contains m.standing x ⊎ Contains now x
  pub from : (x : Stored) → Contains now x → Contains l.standing x × P x.place
  pub given_up : m.given_up ≡ l.given_up ++ now
  pub waking : m.waking ≡ l.waking
  pub woken : m.woken ≡ l.woken
  pub taken : m.taken ≡ l.taken

stored_none : (P : Place → Type 0) (does : Bool) (may : List Stored) (l m : Storings) → cond does may [] ≡ [] → GivingUp P l m → Storing P does may l m
stored_none P does may l m none g = record {
  stored = [];
  is = sym none;
  now = g.now;
  given = g.given ∙ omega arith;
  stores_it = λ x none. none_is_in x none;
  stands = λ x here. inl (g.leave.stays x here);
  stood = g.leave.goes;
  from = g.leave.from;
  given_up = g.given_up;
  waking = g.waking;
  woken = g.woken;
  taken = g.taken;
}

nothing_stored : (P : Place → Type 0) (may : List Stored) (l m : Storings) → GivingUp P l m → Storing P false may l m
nothing_stored P may l m g = stored_none P false may l m refl g

nothing_moved : (P : Place → Type 0) (may : List Stored) (l : Storings) → Storing P false may l l
nothing_moved P may l = nothing_stored P may l l (none_given_up P l)

then_stored : (P : Place → Type 0) (p : Place) (waker : Waker) (l m : Storings) → GivingUp P l m
    → Storing P true (stored_as l.given p waker ∷ []) l (stored_at p waker m)
then_stored P p waker l m g =
    let last : List Stored = stored_as m.given p waker ∷ [] in
    record {
      stored = last;
      is = ap (λ n. stored_as n p waker ∷ []) g.given;
      now = g.now;
      given = ap (λ n. n + 1) g.given;
      stores_it = λ x now. Contains-append_right m.standing last x now;
      stands = λ x here.
          ⊎_elim (λ (before : Contains m.standing x). inl (g.leave.stays x before)) (λ (now : Contains last x). inr now) (Contains-append_cases m.standing last x here);
      stood = λ x here.
          ⊎_elim (λ (stays : Contains m.standing x). inl (Contains-append_left m.standing last x stays)) (λ (goes : Contains g.now x). inr goes) (g.leave.goes x here);
      from = g.leave.from;
      given_up = g.given_up;
      waking = g.waking;
      woken = g.woken;
      taken = g.taken;
    }

-- one of two cases, with the storings of the same one
by_case : {X : Type 0} (f : X → Bool) (C : Bool → Storings → Type 0) (test : Bool) (x y : X) (l m : Storings) → C (f x) l → C (f y) m
    → C (f (cond test x y)) (cond test l m)
by_case f C true x y l m first second = first
by_case f C false x y l m first second = second

-- ## Sources and listeners

del_stores : (w : World) (serial : Option ℕ) (l : Storings) → Storing (Contains (poll_places serial directions)) false [] l (del_moves w serial l)
del_stores w None l = nothing_moved _ [] l
del_stores w (Some serial) l =
    let places : List Place = map (OfPoll serial) directions in
    cond_both _ l (each_given_up places l) (Storing (Contains places) false [] l) (λ used. nothing_moved _ [] l)
    (λ free. nothing_stored _ [] l _ (all_given_up (Contains places) places (λ p among. among) l))

found_number : (number : ℕ) (listeners : List ListenerEntry) (entry : ListenerEntry) → find (is_listener number) listeners ≡ Some entry → entry.number ≡ number
found_number number listeners entry found = eqb-true entry.number number ((found_is_in (is_listener number) listeners entry found).1)

drop_stores : (number : ℕ) (listeners : List ListenerEntry) (entry : Option ListenerEntry) (l : Storings)
    → find (is_listener number) listeners ≡ entry → Storing (Contains (OfListener number ∷ [])) false [] l (drop_moves entry l)
drop_stores number listeners None l found = nothing_moved _ [] l
drop_stores number listeners (Some entry) l found =
    let place : Place = OfListener entry.number in
    subst (λ n. Storing (Contains (OfListener n ∷ [])) false [] l (given_up_at place l)) (found_number number listeners entry found)
    (nothing_stored _ [] l _ (one_given_up (Contains (place ∷ [])) place (first_is_in place []) l))

either_waits : (test : Bool) (a b : Answer) → has_to_wait a ≡ true → has_to_wait b ≡ true → has_to_wait (cond test a b) ≡ true
either_waits true a b first second = first
either_waits false a b first second = second

pending_waits : (test : Bool) (w : World) (key serial : ℕ) (wakes : List Waker) (answers : List PollerAnswer)
    → has_to_wait (pending test w key serial wakes answers).answer ≡ true
pending_waits false w key serial wakes answers = refl
pending_waits true w key serial wakes answers = either_waits (fails (next_answer answers)) answer.FaultArm answer.Pending refl refl

-- what a listener's poll stores and gives up; where it stores nothing, nothing has moved
Listens : (number : ℕ) (waker : Waker) (l : Storings) (does : Bool) (m : Storings) → Type 0
Listens number waker l does m =
    (x : Storing (Contains (OfListener number ∷ [])) does (stored_as l.given (OfListener number) waker ∷ []) l m) × (x.stored ≡ [] → m ≡ l)

listen_stores : (w : World) (number : ℕ) (waker : Waker) (entry : Option ListenerEntry) (answers : List PollerAnswer) (l : Storings)
    → find (is_listener number) w.listeners ≡ entry
    → Listens number waker l (has_to_wait (step_listener w waker entry answers).answer) (listener_moves w waker entry l)
unfolding Listens then_stored
listen_stores w number waker None answers l found = (nothing_moved _ _ l, λ none. refl)
listen_stores w number waker (Some entry) answers l found =
    let place : Place = OfListener entry.number in
    let m : Storings = stored_at place waker (given_up_at place l) in
    let stores : Listens entry.number waker l true m
    = (then_stored _ place waker l _ (one_given_up (Contains (place ∷ [])) place (first_is_in place []) l), λ none. absurd cc) in
    by_case (λ (o : Outcome). has_to_wait o.answer) (Listens number waker l) (is_fresh_since w entry.serial entry.dir entry.position) _ _ l m
    (nothing_moved _ _ l, λ none. refl)
    (subst (λ does. Listens number waker l does m) (sym (pending_waits _ _ _ _ _ _))
    (subst (λ n. Listens n waker l true m) (found_number number w.listeners entry found) stores))

-- ## Timers

-- what stands with a timer's registration is given up
registration_given_up : (entry : TimerEntry) (l : Storings) → GivingUp (Contains (timer_place entry.id)) l (each_given_up (timer_place entry.id) l)
registration_given_up entry l = all_given_up (Contains (timer_place entry.id)) (timer_place entry.id) (λ p among. among) l

-- what a step of a timer stores and gives up
abbrev Registers : World → TimerEntry → List Stored → Storings → Bool → Storings → Type 0
Registers w entry may l does m = Storing (Contains (timer_place entry.id)) does may l m

registered_one : (w : World) (entry : TimerEntry) (waker : Waker) (l : Storings)
    → Registers w entry (stored_as l.given (OfTimer (w.ids_drawn + 1)) waker ∷ []) l true (registered_anew w entry (Some waker) l)
registered_one w entry waker l = then_stored _ (OfTimer (w.ids_drawn + 1)) waker l _ (registration_given_up entry l)

set_anew : (w : World) (entry : TimerEntry) (waker : Option Waker) (l : Storings)
    → Registers w entry (map (stored_as l.given (OfTimer (w.ids_drawn + 1))) (option_to_list waker)) l true (registered_anew w entry waker l)
set_anew w entry None l = stored_none _ true [] l _ refl (registration_given_up entry l)
set_anew w entry (Some waker) l = registered_one w entry waker l

set_stores : (w : World) (entry : Option TimerEntry) (l : Storings)
    → Storing (Contains (timer_place (id_kept entry))) true
    (map (stored_as l.given (OfTimer (w.ids_drawn + 1))) (option_to_list (waker_kept entry))) l (set_moves w entry l)
set_stores w None l = stored_none _ true [] l l refl (none_given_up _ l)
set_stores w (Some entry) l = set_anew w entry entry.kept l

fired_anew : (w : World) (waker : Waker) (entry : TimerEntry) (next : Option ℕ) (l : Storings)
    → Registers w entry (stored_as l.given (OfTimer (w.ids_drawn + 1)) waker ∷ []) l (is_some next)
    (registered_anew w entry (option_map (λ later. waker) next) l)
fired_anew w waker entry None l = nothing_stored _ _ l _ (registration_given_up entry l)
fired_anew w waker entry (Some deadline) l = registered_one w entry waker l

-- where nothing is done, or something is
unless : (C : Bool → Storings → Type 0) (test : Bool) (l m : Storings) → C false l → C true m → C (not (test && true)) (cond test l m)
unless C true l m first second = first
unless C false l m first second = second

-- one of two cases, the second where the test fails
or_else : (f : Outcome → Bool) (C : Bool → Storings → Type 0) (test : Bool) (x y : Outcome) (l m : Storings) → C (f x) l → (test ≡ false → C (f y) m)
    → C (f (cond test x y)) (cond test l m)
or_else f C true x y l m first second = first
or_else f C false x y l m first second = second refl

tick_stores_at : (w : World) (waker : Waker) (entry : TimerEntry) (deadline : Option ℕ) (answers : List PollerAnswer) (l : Storings) → entry.deadline ≡ deadline
    → Registers w entry (stored_as l.given (OfTimer (w.ids_drawn + 1)) waker ∷ []) l
    (registers w.now (tick_deadline w entry waker deadline answers).answer waker (Some entry)) (tick_moves_at w waker entry deadline l)
tick_stores_at w waker entry None answers l at =
    let C : Bool → Storings → Type 0 = Registers w entry (stored_as l.given (OfTimer (w.ids_drawn + 1)) waker ∷ []) l in
    subst (λ (d : Option ℕ). C (is_some d && not ((is_some entry.id && is_waker waker entry.kept) && is_ahead w.now d)) l) (sym at) (nothing_moved _ _ l)
tick_stores_at w waker entry (Some deadline) answers l at =
    let C : Bool → Storings → Type 0 = Registers w entry (stored_as l.given (OfTimer (w.ids_drawn + 1)) waker ∷ []) l in
    let kept : Bool = is_some entry.id && is_waker waker entry.kept in
    or_else (λ (o : Outcome). registers w.now o.answer waker (Some entry)) C (nat_le deadline w.now) _ _ _ _
    (fired_anew w waker entry (next_deadline deadline entry.period) l)
    (λ later.
    subst (λ (d : Option ℕ). C (is_some d && not (kept && is_ahead w.now d)) (cond kept l (registered_anew w entry (Some waker) l))) (sym at)
    (subst (λ due. C (not (kept && not due)) (cond kept l (registered_anew w entry (Some waker) l))) (sym later)
    (unless C kept l _ (nothing_moved _ _ l) (registered_one w entry waker l))))

tick_stores : (w : World) (waker : Waker) (entry : Option TimerEntry) (answers : List PollerAnswer) (l : Storings)
    → Storing (Contains (timer_place (id_kept entry))) (registers w.now (tick_timer w waker entry answers).answer waker entry)
    (stored_as l.given (OfTimer (w.ids_drawn + 1)) waker ∷ []) l (tick_moves w waker entry l)
tick_stores w waker None answers l = nothing_moved _ _ l
tick_stores w waker (Some entry) answers l =
    subst (λ (o : Outcome). Registers w entry (stored_as l.given (OfTimer (w.ids_drawn + 1)) waker ∷ []) l (registers w.now o.answer waker (Some entry))
    (tick_moves w waker (Some entry) l))
    (tick_by_deadline w waker entry answers) (tick_stores_at w waker entry entry.deadline answers l refl)

end_stores : (entry : Option TimerEntry) (l : Storings) → Storing (Contains (timer_place (id_kept entry))) false [] l (end_moves entry l)
end_stores None l = nothing_moved _ [] l
end_stores (Some entry) l = nothing_stored _ [] l _ (registration_given_up entry l)

-- ## What a round takes

-- nothing is taken after that
nothing_after : (places : List Place) (l m : Storings) → Taking places l m → Taking (places ++ []) l m
nothing_after places l m t = subst (λ ps. Taking ps l m) (sym (append-nil places)) t

named_taken : (w : World) (event : Event) (serial : Option ℕ) (l : Storings)
    → Taking (flat_map (λ s. flat_map (places_of w s) (directions_of event.on)) (option_to_list serial)) l (event_moves w event serial l)
named_taken w event None l = none_taken l
named_taken w event (Some serial) l =
    let places : List Place = flat_map (places_of w serial) (directions_of event.on) in nothing_after places l _ (all_taken places l)

event_taken : (w : World) (event : Event) (serial : Option ℕ) (l : Storings) → serial_of w event.key.0 ≡ serial
    → Taking (event_places w event) l (event_moves w event serial l)
event_taken w event serial l at =
    subst (λ o. Taking (flat_map (λ s. flat_map (places_of w s) (directions_of event.on)) (option_to_list o)) l (event_moves w event serial l)) (sym at)
    (named_taken w event serial l)

first_taken : (w : World) (events : List Event) (l : Storings) → Taking (flat_map (event_places w) (take 1 events)) l (handle_moves_first w events l)
first_taken w [] l = none_taken l
first_taken w (event ∷ events) l = nothing_after (event_places w event) l _ (event_taken w event (serial_of w event.key.0) l refl)

hand_taken : (events : List Event) (v : World) (answers : List PollerAnswer) (l : Storings) → in_hand_of v.round ≡ Some events
    → Taking (flat_map (event_places v) events) l (handle_each_moves events v answers l)
hand_taken [] v answers l at = none_taken l
hand_taken (event ∷ events) v answers l at =
    let first = handle_round v answers in
    let one = event_handled v event events answers at in
    both_taken (event_places v event) (flat_map (event_places v) events) l (handle_moves v l) (handle_each_moves events first.world first.left (handle_moves v l))
    (subst (λ hand. Taking (event_places v event) l (handle_moves_first v hand l)) (sym (hand_is v.round (event ∷ events) at))
    (event_taken v event (serial_of v event.key.0) l refl))
    (subst (λ places. Taking places (handle_moves v l) (handle_each_moves events first.world first.left (handle_moves v l)))
    (same_events first.world v one.same events) (hand_taken events first.world first.left (handle_moves v l) one.hand))

-- one of two takings, at the places of the same one
either_taken : (test : Bool) (ps qs : List Place) (l m n : Storings) → Taking ps l m → Taking qs l n → Taking (cond test ps qs) l (cond test m n)
either_taken true ps qs l m n first second = first
either_taken false ps qs l m n first second = second

begin_taken : (w : World) (l : Storings) → Taking (cond (is_some w.round) [] (due_places w.now w.registrations)) l (begin_moves w l)
begin_taken w l =
    let due : List Place = due_places w.now w.registrations in
    either_taken (is_some w.round) [] due l l (each_taken due l) (none_taken l) (all_taken due l)

-- ## What may end a round

record Ending (places : List Place) (ends : Bool) (l m : Storings) : Type 0 where
  pub empties : Empties places l m
  pub open empties use *
  pub ended : ends ≡ true → (m.waking ≡ l.waking ++ (l.taken ++ now)) × (m.taken ≡ [])
  pub goes_on : ends ≡ false → (m.waking ≡ l.waking) × (m.taken ≡ l.taken ++ now)

going_on : (places : List Place) (l m : Storings) → Taking places l m → Ending places false l m
going_on places l m t = record {
  empties = t.empties;
  ended = λ ends. absurd cc;
  goes_on = λ runs. (t.waking, t.taken);
}

all_woken : (places : List Place) (l m : Storings) → Taking places l m → Ending places true l (round_woken m)
all_woken places l m t = record {
  empties = t.empties;
  ended = λ ends. (ap (λ (front : List Stored). front ++ m.taken) t.waking ∙ ap (λ (more : List Stored). l.waking ++ more) t.taken, refl);
  goes_on = λ runs. absurd cc;
}

-- a round with nothing in hand ends, after its second pass where it makes one
ended_by : (empty second : Bool) (due : List Place) (l m : Storings) → Taking due m (each_taken due m) → (places : List Place) → Taking places l m
    → Ending (places ++ cond (empty && second) due []) empty l (cond empty (round_woken (cond second (each_taken due m) m)) m)
ended_by true true due l m pass places t = all_woken (places ++ due) l (each_taken due m) (both_taken places due l m (each_taken due m) t pass)
ended_by true false due l m pass places t = all_woken (places ++ []) l m (both_taken places [] l m m t (none_taken m))
ended_by false second due l m pass places t = going_on (places ++ []) l m (both_taken places [] l m m t (none_taken m))

finish_ends : (w : World) (round : Option RoundState) (places : List Place) (l m : Storings) → Taking places l m
    → Ending (places ++ cond (ends_with_pass round) (due_places w.now w.registrations) []) (is_handled round) l (finish_moves_in w round m)
finish_ends w None places l m t = going_on (places ++ []) l m (both_taken places [] l m m t (none_taken m))
finish_ends w (Some round) places l m t =
    let due : List Place = due_places w.now w.registrations in
    ended_by (is_empty_list round.in_hand) (gave_none round.last_wait && not (is_zero round.limit)) due l m (all_taken due m) places t

react_by : (runs : Bool) (places : List Place) (l m : Storings) → (runs ≡ false → Ending places true l m)
    → Ending (cond runs [] places) (not runs) l (cond runs l m)
react_by true places l m ends = going_on [] l l (none_taken l)
react_by false places l m ends = ends refl

-- nothing is due any longer at the second pass of a whole round
nothing_more : (test : Bool) (due : List Place) → due ≡ [] → cond test due [] ≡ []
nothing_more true due none = none
nothing_more false due none = refl

react_ends : (w : World) (answers : List PollerAnswer) (l : Storings)
    → Ending (taken_places w step.React answers) (not (is_some w.round)) l (react_moves w answers l)
react_ends w answers l =
    let due : List Place = due_places w.now w.registrations in
    let named : List Place = flat_map (event_places w) (events_given (next_answer answers)) in
    let begun = begin_round w None answers in
    let waited = wait_round begun.world begun.left in
    let hand = hand_of waited.world.round in
    let handled = handle_each hand waited.world waited.left in
    react_by (is_some w.round) (due ++ named) l _
    (λ none.
    let h = begun_in_hand w answers none in
    let out = all_handled hand waited.world waited.left h.held in
    let same : Same w (record waited.world { registrations = w.registrations }) = record {
      live = h.live;
      now = h.full.same.now ∙ h.start.now;
      registrations = refl;
      places = λ s d. h.full.same.places s d ∙ listeners_places w begun.world s d h.start.listeners;
    } in
    let before : Storings = begin_moves w l in
    let m : Storings = handle_each_moves hand waited.world waited.left before in
    let begins : Taking due l before = subst (λ runs. Taking (cond runs [] due) l before) none (begin_taken w l) in
    let takes : Taking named before m =
    subst (λ places. Taking places before m)
    (same_events (record waited.world { registrations = w.registrations }) w same hand ∙ ap (flat_map (event_places w)) h.events)
    (hand_taken hand waited.world waited.left before h.held) in
    let nothing_due : due_places handled.world.now handled.world.registrations ≡ [] =
    ap (λ moment. due_places moment handled.world.registrations) (out.same.now ∙ h.full.same.now ∙ h.start.now)
    ∙ ap (due_places w.now) (out.same.registrations ∙ h.full.same.registrations ∙ h.start.registrations)
    ∙ none_due_left w.now w.registrations in
    let no_more : (due ++ named) ++ cond (ends_with_pass handled.world.round) (due_places handled.world.now handled.world.registrations) [] ≡ due ++ named =
    ap (λ more. (due ++ named) ++ more) (nothing_more (ends_with_pass handled.world.round) _ nothing_due) ∙ append-nil (due ++ named) in
    subst (λ places. Ending places true l (finish_moves handled.world m)) no_more
    (subst (λ ends. Ending ((due ++ named) ++ cond (ends_with_pass handled.world.round) (due_places handled.world.now handled.world.registrations) []) ends l
    (finish_moves handled.world m)) (handled_out handled.world.round out.hand)
    (finish_ends handled.world handled.world.round (due ++ named) l m (both_taken due named l before m begins takes))))

-- a `finish` ends its round where nothing is in hand, and a whole round where no other runs
proceeds_by : (test : Bool) (x y : Outcome) (first second : Bool) → is_refusal x.answer ≡ first → is_refusal y.answer ≡ second
    → not (is_refusal (cond test x y).answer) ≡ cond test (not first) (not second)
proceeds_by true x y first second refuses proceeds = ap not refuses
proceeds_by false x y first second refuses proceeds = ap not proceeds

by_itself : (test : Bool) → cond test true false ≡ test
by_itself true = refl
by_itself false = refl

by_its_contrary : (test : Bool) → cond test false true ≡ not test
by_its_contrary true = refl
by_its_contrary false = refl

finish_proceeds : (w : World) (round : Option RoundState) (answers : List PollerAnswer) → not (is_refusal (finish_in w round answers).answer) ≡ is_handled round
finish_proceeds w None answers = refl
finish_proceeds w (Some round) answers = proceeds_by (is_empty_list round.in_hand) _ _ false true refl refl ∙ by_itself (is_empty_list round.in_hand)

react_proceeds : (w : World) (answers : List PollerAnswer) → not (is_refusal (react w None answers).answer) ≡ not (is_some w.round)
react_proceeds w answers = proceeds_by (is_some w.round) _ _ true false refl refl ∙ by_its_contrary (is_some w.round)

-- ## Steps

-- what was woken before and what is on its way
woken_with : (l m : Storings) (now : List Stored) → m.woken ≡ l.woken → m.waking ≡ now → (step_ended m).woken ≡ l.woken ++ now ∷ []
woken_with l m now before waking =
    ap (λ (woken : List (List Stored)). woken ++ m.waking ∷ []) before ∙ ap (λ (last : List Stored). l.woken ++ last ∷ []) waking

-- a step that replaces nothing
none_replaced : (w : World) (s : Step) (answers : List PollerAnswer) (stored : List Stored) → replaced_places w s ≡ []
    → [] ≡ cond (stores w s answers) (standing_in (replaced_places w s) stored) []
none_replaced w s answers stored none =
    cond_both (stores w s answers) (standing_in (replaced_places w s) stored) [] (λ replaced. [] ≡ replaced)
    (λ does. sym (ap (λ places. standing_in places stored) none)) (λ never. refl)

-- where no storing has moved, none was given up
given_up_none : (l m : Storings) (now : List Stored) → m.given_up ≡ l.given_up ++ now → m ≡ l → now ≡ []
given_up_none l m now gone same =
    append_cancel_left l.given_up now [] (sym gone ∙ ap (λ (x : Storings). x.given_up) same ∙ sym (append-nil l.given_up))

not_false : (test : Bool) → not test ≡ false → test ≡ true
not_false true none = refl
not_false false none = absurd cc

-- a step that may give storings up and then store one
giving_follows : (w : World) (s : Step) (answers : List PollerAnswer) (l m : Storings) → l.waking ≡ [] → ends_round w s answers ≡ false
    → taken_places w s answers ≡ [] → [] ≡ cond (stores w s answers) (standing_in (replaced_places w s) l.standing) []
    → (x : Storing (Contains (may_give_up w s)) (stores w s answers) (own_storing w s l.given) l m)
    → (gives_up w s answers ≡ true → Cleared (may_give_up w s) (cond (stores w s answers) (own_storing w s l.given) []) m)
    → (gives_up w s answers ≡ false → m ≡ l)
    → (is_poll s ≡ true → x.stored ≡ [] → m ≡ l) → (is_refusal (step_result w s answers).answer ≡ true → m ≡ l)
    → StoringsFollow w s answers l (step_ended m)
giving_follows w s answers l m rests runs takes_none replaces_none x clears keeps polls refused = record {
  stored_now = x.stored;
  replaced_now = [];
  taken_now = [];
  given_up_now = x.now;
  stored = x.is;
  given = x.given;
  stores_it = x.stores_it;
  stands = x.stands;
  stood = x.stood;
  replaced = replaces_none;
  taken = sym (ap (λ places. standing_in places l.standing) takes_none);
  given_up = x.from;
  emptied = λ y here nowhere. none_is_in y.place (subst (λ places. Contains places y.place) takes_none nowhere);
  keeps = λ none. given_up_none l m x.now x.given_up (keeps none);
  cleared = λ gives y here place. subst (λ stored. Contains stored y) (sym x.is) (clears gives y here place);
  ends = λ ends. absurd cc;
  goes_on = λ on. (woken_with l m [] x.woken (x.waking ∙ rests), x.taken ∙ sym (append-nil l.taken));
  gone = x.given_up;
  rests = refl;
  polls = λ poll none. ap step_ended (polls poll none);
  refused = λ no_step. ap step_ended (refused no_step);
}

still_follows : (w : World) (s : Step) (answers : List PollerAnswer) (l : Storings) → l.waking ≡ [] → ends_round w s answers ≡ false
    → taken_places w s answers ≡ [] → may_give_up w s ≡ [] → stores w s answers ≡ false → StoringsFollow w s answers l (step_ended l)
still_follows w s answers l rests runs takes_none gives_none stores_none =
    giving_follows w s answers l l rests runs takes_none (sym (cond-false (stores w s answers) (standing_in (replaced_places w s) l.standing) [] stores_none))
    (subst (λ does. Storing (Contains (may_give_up w s)) does (own_storing w s l.given) l l) (sym stores_none) (nothing_moved _ _ l))
    (λ gives y here place. none_is_in y.place (subst (λ places. Contains places y.place) gives_none place))
    (λ none. refl) (λ poll none. refl) (λ refused. refl)

-- a step in which a round takes storings, and may end
taking_follows : (w : World) (s : Step) (answers : List PollerAnswer) (l m : Storings) → l.waking ≡ [] → is_poll s ≡ false → may_give_up w s ≡ []
    → stores w s answers ≡ false
    → Ending (taken_places w s answers) (ends_round w s answers) l m → (is_refusal (step_result w s answers).answer ≡ true → m ≡ l)
    → StoringsFollow w s answers l (step_ended m)
taking_follows w s answers l m rests no_poll gives_none stores_none x refused = record {
  stored_now = [];
  replaced_now = [];
  taken_now = x.now;
  given_up_now = [];
  stored = sym (cond-false (stores w s answers) (own_storing w s l.given) [] stores_none);
  given = x.given ∙ omega arith;
  stores_it = λ y none. none_is_in y none;
  stands = λ y here. inl (x.leave.stays y here);
  stood = λ y here.
      ⊎_elim (λ (stays : Contains m.standing y). inl stays) (λ (goes : Contains x.now y). inr (Contains-append_left x.now [] y goes)) (x.leave.goes y here);
  replaced = sym (cond-false (stores w s answers) (standing_in (replaced_places w s) l.standing) [] stores_none);
  taken = x.order;
  given_up = λ y gone. none_is_in y gone;
  emptied = x.emptied;
  keeps = λ none. refl;
  cleared = λ gives y here place. none_is_in y.place (subst (λ places. Contains places y.place) gives_none place);
  ends = λ ends. (woken_with l m (l.taken ++ x.now) x.woken ((x.ended ends).0 ∙ ap (λ (front : List Stored). front ++ (l.taken ++ x.now)) rests), (x.ended ends).1);
  goes_on = λ on. (woken_with l m [] x.woken ((x.goes_on on).0 ∙ rests), (x.goes_on on).1);
  gone = x.given_up ∙ sym (append-nil l.given_up);
  rests = refl;
  polls = λ poll none. absurd cc;
  refused = λ no_step. ap step_ended (refused no_step);
}

-- a poll of a source, which wakes what it replaces
replacing_follows : (w : World) (key : Key) (dir : Dir) (waker : Waker) (answers : List PollerAnswer) (serial : ℕ) (l : Storings)
    → l.waking ≡ [] → serial_of w key.0 ≡ Some serial → stores w (step.Poll key dir waker) answers ≡ true
    → (is_refusal (step_result w (step.Poll key dir waker) answers).answer ≡ true → stored_at (OfPoll serial dir) waker (woken_at (OfPoll serial dir) l) ≡ l)
    → StoringsFollow w (step.Poll key dir waker) answers l (step_ended (stored_at (OfPoll serial dir) waker (woken_at (OfPoll serial dir) l)))
replacing_follows w key dir waker answers serial l rests at does refused =
    let place : Place = OfPoll serial dir in
    let new : List Stored = stored_as l.given place waker ∷ [] in
    let old : List Stored = standing_at place l.standing in
    let left : List Stored = none_at place l.standing in
    let leave : Leave (Contains (place ∷ [])) l.standing left old = one_leaves (Contains (place ∷ [])) place (first_is_in place []) l.standing in
    let places : poll_places (serial_of w key.0) (dir ∷ []) ≡ place ∷ [] = ap (λ o. poll_places o (dir ∷ [])) at in
    record {
      stored_now = new;
      replaced_now = old;
      taken_now = [];
      given_up_now = [];
      stored = sym (cond-true (stores w (step.Poll key dir waker) answers) (own_storing w (step.Poll key dir waker) l.given) [] does
          ∙ ap (map (λ p. stored_as l.given p waker)) places);
      given = refl;
      stores_it = λ x now. Contains-append_right left new x now;
      stands = λ x here.
          ⊎_elim (λ (before : Contains left x). inl (leave.stays x before)) (λ (now : Contains new x). inr now) (Contains-append_cases left new x here);
      stood = λ x here.
          ⊎_elim (λ (stays : Contains left x). inl (Contains-append_left left new x stays))
          (λ (goes : Contains old x). inr (Contains-append_left (old ++ []) [] x (Contains-append_left old [] x goes))) (leave.goes x here);
      replaced = sym (cond-true (stores w (step.Poll key dir waker) answers) (standing_in (replaced_places w (step.Poll key dir waker)) l.standing) [] does
          ∙ ap (λ ps. standing_in ps l.standing) places ∙ append-nil old);
      taken = refl;
      given_up = λ x gone. none_is_in x gone;
      emptied = λ x here nowhere. none_is_in x.place nowhere;
      keeps = λ none. refl;
      cleared = λ gives x here nowhere. none_is_in x.place nowhere;
      ends = λ ends. absurd cc;
      goes_on = λ on. (ap (λ (front : List Stored). l.woken ++ (front ++ old) ∷ []) rests, sym (append-nil l.taken));
      gone = sym (append-nil l.given_up);
      rests = refl;
      polls = λ poll none. absurd cc;
      refused = λ no_step. ap step_ended (refused no_step);
    }

and-false : (test : Bool) → (test && false) ≡ false
and-false true = refl
and-false false = refl

-- a poll stores where it is not ready and its waker not there already
poll_stores : (fresh same : Bool) (x y z : Outcome) → has_to_wait x.answer ≡ false → has_to_wait z.answer ≡ true
    → (has_to_wait (cond fresh x (cond same y z)).answer && not same) ≡ not (fresh || same)
poll_stores true same x y z ready waits = ap (λ test. test && not same) ready
poll_stores false true x y z ready waits = and-false (has_to_wait y.answer)
poll_stores false false x y z ready waits = ap (λ test. test && true) waits

poll_follows : (w : World) (key : Key) (dir : Dir) (waker : Waker) (answers : List PollerAnswer) (serial : Option ℕ) (l : Storings)
    → l.waking ≡ [] → serial_of w key.0 ≡ serial
    → (is_refusal (step_result w (step.Poll key dir waker) answers).answer ≡ true → poll_moves w dir waker serial l ≡ l)
    → StoringsFollow w (step.Poll key dir waker) answers l (step_ended (poll_moves w dir waker serial l))
unfolding step_result
poll_follows w key dir waker answers None l rests at refused =
    still_follows w (step.Poll key dir waker) answers l rests refl refl refl
    (ap (λ o. has_to_wait (poll_source w key.0 dir waker o answers).answer && not (is_waker waker (option_and_then (λ serial. poll_waiter w.poll_waiters serial dir) o))) at)
poll_follows w key dir waker answers (Some serial) l rests at refused =
    let Follows : Storings → Type 0 = λ m. (is_refusal (step_result w (step.Poll key dir waker) answers).answer ≡ true → m ≡ l)
    → StoringsFollow w (step.Poll key dir waker) answers l (step_ended m) in
    let fresh : Bool = is_fresh_since w serial dir (mark_of w.marks serial dir) in
    let same : Bool = is_waker waker (poll_waiter w.poll_waiters serial dir) in
    let does : stores w (step.Poll key dir waker) answers ≡ not (fresh || same) =
    ap (λ o. has_to_wait (poll_source w key.0 dir waker o answers).answer && not (is_waker waker (option_and_then (λ serial. poll_waiter w.poll_waiters serial dir) o))) at
    ∙ poll_stores fresh same _ _ _ refl (pending_waits _ _ _ _ _ _) in
    cond_both (fresh || same) l (stored_at (OfPoll serial dir) waker (woken_at (OfPoll serial dir) l)) Follows
    (λ kept refused. still_follows w (step.Poll key dir waker) answers l rests refl refl refl (does ∙ ap not kept))
    (λ new refused. replacing_follows w key dir waker answers serial l rests at (does ∙ ap not new) refused) refused

moves_follow : (w : World) (s : Step) (answers : List PollerAnswer) (l : Storings) → l.waking ≡ []
    → (is_refusal (step_result w s answers).answer ≡ true → step_storings w s answers l ≡ l)
    → StoringsFollow w s answers l (step_ended (step_storings w s answers l))
unfolding Listens step_result
moves_follow w (step.Del key) answers l rests refused =
    giving_follows w (step.Del key) answers l _ rests refl refl (none_replaced w (step.Del key) answers l.standing refl) (del_stores w (serial_of w key.0) l) (step_clears w (step.Del key) answers l)
    (λ none. refused (not_false _ none)) (λ poll. absurd cc) refused
moves_follow w (step.Poll key dir waker) answers l rests refused = poll_follows w key dir waker answers (serial_of w key.0) l rests refl refused
moves_follow w (step.StepEar number waker) answers l rests refused =
    let listens = listen_stores w number waker (find (is_listener number) w.listeners) answers l refl in
    giving_follows w (step.StepEar number waker) answers l _ rests refl refl (none_replaced w (step.StepEar number waker) answers l.standing refl) listens.0 (step_clears w (step.StepEar number waker) answers l)
    (λ none. listens.1 (listens.0.is ∙ cond-false _ _ [] none)) (λ poll. listens.1) refused
moves_follow w (step.DropEar number) answers l rests refused =
    giving_follows w (step.DropEar number) answers l _ rests refl refl (none_replaced w (step.DropEar number) answers l.standing refl)
    (drop_stores number w.listeners (find (is_listener number) w.listeners) l refl) (step_clears w (step.DropEar number) answers l)
    (λ none. refused (not_false _ none)) (λ poll. absurd cc) refused
moves_follow w (step.Tick number waker) answers l rests refused =
    giving_follows w (step.Tick number waker) answers l _ rests refl refl (none_replaced w (step.Tick number waker) answers l.standing refl)
    (tick_stores w waker (find (is_timer number) w.timers) answers l) (step_clears w (step.Tick number waker) answers l)
    (tick_rests w waker (find (is_timer number) w.timers) answers l) (λ poll. absurd cc) refused
moves_follow w (step.SetAt number deadline) answers l rests refused =
    giving_follows w (step.SetAt number deadline) answers l _ rests refl refl (none_replaced w (step.SetAt number deadline) answers l.standing refl)
    (set_stores w (find (is_timer number) w.timers) l) (step_clears w (step.SetAt number deadline) answers l)
    (λ none. refused (not_false _ none)) (λ poll. absurd cc) refused
moves_follow w (step.SetEvery number deadline period) answers l rests refused =
    giving_follows w (step.SetEvery number deadline period) answers l _ rests refl refl (none_replaced w (step.SetEvery number deadline period) answers l.standing refl)
    (set_stores w (find (is_timer number) w.timers) l) (step_clears w (step.SetEvery number deadline period) answers l)
    (λ none. refused (not_false _ none)) (λ poll. absurd cc) refused
moves_follow w (step.End number) answers l rests refused =
    giving_follows w (step.End number) answers l _ rests refl refl (none_replaced w (step.End number) answers l.standing refl)
    (end_stores (find (is_timer number) w.timers) l) (step_clears w (step.End number) answers l)
    (λ none. refused (not_false _ none)) (λ poll. absurd cc) refused
moves_follow w (step.Begin limit) answers l rests refused =
    taking_follows w (step.Begin limit) answers l _ rests refl refl refl (going_on _ l _ (begin_taken w l)) refused
moves_follow w step.Handle answers l rests refused =
    taking_follows w step.Handle answers l _ rests refl refl refl (going_on _ l _ (first_taken w (hand_of w.round) l)) refused
moves_follow w step.Finish answers l rests refused =
    taking_follows w step.Finish answers l _ rests refl refl refl
    (subst (λ ends. Ending (taken_places w step.Finish answers) ends l (finish_moves w l)) (sym (finish_proceeds w w.round answers)) (finish_ends w w.round [] l l (none_taken l)))
    refused
moves_follow w step.React answers l rests refused =
    taking_follows w step.React answers l _ rests refl refl refl
    (subst (λ ends. Ending (taken_places w step.React answers) ends l (react_moves w answers l)) (sym (react_proceeds w answers)) (react_ends w answers l)) refused
moves_follow w s answers l rests refused = still_follows w s answers l rests refl refl refl refl

pub step_follows : (w : World) (s : Step) (answers : List PollerAnswer) (l : Storings) → l.waking ≡ []
    → StoringsFollow w s answers l (step_ended (step_storings w s answers l))
step_follows w s answers l rests = moves_follow w s answers l rests (refused_moves_nothing w s answers l)

-- ## Runs

follows_from : (run : List PolledStep) (w : World) (l : Storings) (s : PolledStep) → l.waking ≡ []
    → StoringsFollow (world_of w run) s.step s.answers (storings_from w l run) (storings_from w l (run ++ s ∷ []))
follows_from [] w l s rests = step_follows w s.step s.answers l rests
follows_from (first ∷ run) w l s rests =
    follows_from run (outcome_of w first).world (step_ended (step_storings w first.step first.answers l)) s refl

pub run_follows : (run : List PolledStep) (s : PolledStep)
    → StoringsFollow (world_of opening run) s.step s.answers (storings_of opening run) (storings_of opening (run ++ s ∷ []))
run_follows run s = follows_from run opening no_storings s refl
