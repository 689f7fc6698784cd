-- The storings over the sections of a round, and over a whole round.
use Rattle.std.proofs.Common.{◌≡◌, ℕ, Bool, true, false, not, cond, ◌&&◌, List, [], ◌∷◌, ◌++◌, Option, None, Some, is_some, refl, ap, ◌∙◌, subst}
use Rattle.std.proofs.lemmas.Bool.{cond_both}
use Rattle.std.proofs.lemmas.List.{map-append}
use Rattle.aio_base.specs.declared.names.Key.{Key}
use Rattle.aio_base.specs.declared.names.Event.{Event}
use Rattle.aio_base.specs.declared.outcomes.EndWord.{EndWord}
use Rattle.aio_base.specs.declared.outcomes.EndWord.TheVariants.{FaultArm}
use Rattle.aio_base.specs.declared.steps.Answer.TheVariants as answer
use Rattle.aio_base.specs.World.{PollerAnswer, Fails, RoundState, World, serial_of, directions_of, wanted, is_empty_list}
use Rattle.aio_base.specs.Timers.{due_wakers, after_pass}
use Rattle.aio_base.specs.Machine.{Outcome, first_fault, next_answer, later_answers, fails, broken_world, armed_world, begin_round, wait_answered, wait_in, wait_round, world_taken, wakers_taken, rearmed, handle_source, handle_first, handle_in, handle_round, gave_none, is_zero, finish_in, finish_round, hand_of, handle_each, react}
use Rattle.aio_laws.specs.Storings.{Stored, Storings, due_places, each_taken, round_woken, wakers, taken_of, begin_moves, event_moves, handle_moves_first, handle_moves, finish_moves_in, finish_moves, handle_each_moves, react_moves}
use Rattle.aio_laws.proofs.cover.CoverRounds.{rearming}
use Rattle.aio_laws.proofs.storings.Kept.{wake_taken_kept}
use Rattle.aio_laws.proofs.storings.Holding.{Holding, holding_with, holding_of, held, Stands, Leaves, quiet_leaves, either}
use Rattle.aio_laws.proofs.storings.HeldTimers.{passed, pass_stands}
use Rattle.aio_laws.proofs.storings.HeldEvents.{directions_stand}

-- ## A round begins

no_taken : (round : Option RoundState) → is_some round ≡ false → taken_of round ≡ []
no_taken None none = refl
no_taken (Some round) none = absurd cc

pub begin_leaves : (w : World) (woken : List (List Stored)) (l : Storings) (limit : Option ℕ) (answers : List PollerAnswer) → Stands (holding_of w) [] woken l
    → Leaves woken (begin_moves w l) (begin_round w limit answers)
begin_leaves w woken l limit answers s =
    either woken (is_some w.round) l (each_taken (due_places w.now w.registrations) l) _ _ (λ some. quiet_leaves w woken l _ answers s)
    (λ none.
    let first : Stands (holding_with w []) [] woken l = subst (λ t. Stands (holding_with w t) [] woken l) (no_taken w.round none) s in
    record { stands = pass_stands w.now (holding_with w []) [] woken l first })

-- ## A wait

answered_leaves : (w : World) (woken : List (List Stored)) (l : Storings) (round : RoundState) (said : PollerAnswer) (rest : List PollerAnswer)
    → Stands (holding_with w round.taken) [] woken l → Leaves woken l (wait_answered w round said rest)
answered_leaves w woken l round Fails rest s = record { stands = s }
answered_leaves w woken l round said rest s = record { stands = s }

-- the wakers that this round has taken
with_round : (w : World) (woken : List (List Stored)) (l : Storings) (round : RoundState) → w.round ≡ Some round → Stands (holding_of w) [] woken l
    → Stands (holding_with w round.taken) [] woken l
with_round w woken l round at s = subst (λ t. Stands (holding_with w t) [] woken l) (ap taken_of at) s

waited_leaves : (w : World) (woken : List (List Stored)) (l : Storings) (round : Option RoundState) (answers : List PollerAnswer) → w.round ≡ round
    → Stands (holding_of w) [] woken l → Leaves woken l (wait_in w round answers)
waited_leaves w woken l None answers at s = quiet_leaves w woken l answer.NoRound answers s
waited_leaves w woken l (Some round) answers at s =
    cond_both (is_empty_list round.in_hand) _ _ (Leaves woken l)
    (λ none. answered_leaves w woken l round (next_answer answers) (later_answers answers) (with_round w woken l round at s))
    (λ some. quiet_leaves w woken l _ answers s)

pub wait_leaves : (w : World) (woken : List (List Stored)) (l : Storings) (answers : List PollerAnswer) → Stands (holding_of w) [] woken l
    → Leaves woken l (wait_round w answers)
wait_leaves w woken l answers s = waited_leaves w woken l w.round answers refl s

-- ## An event is handled

rearming_stands : (failing : Bool) (woken : List (List Stored)) (l : Storings) (round : RoundState) (fault : EndWord) (broken armed : World)
    → Stands (holding_with broken round.taken) [] woken l → Stands (holding_of broken) [] woken l → Stands (holding_of armed) [] woken l
    → Stands (holding_of (cond failing (record (cond failing broken armed) { round = Some (record round { fault = fault }) }) (cond failing broken armed))) [] woken l
rearming_stands true woken l round fault broken armed kept first second = kept
rearming_stands false woken l round fault broken armed kept first second = second

armed_leaves : (w : World) (woken : List (List Stored)) (l : Storings) (round : RoundState) (key : Key) (serial : ℕ) (said : PollerAnswer) (rest : List PollerAnswer)
    → Stands (holding_with w round.taken) [] woken l → Leaves woken l (rearming (record w { round = Some round }) round key serial said rest)
armed_leaves w woken l round key serial said rest s =
    let v : World = record w { round = Some round } in
    record { stands = rearming_stands (fails said) woken l round (first_fault round.fault FaultArm) (broken_world v serial) (armed_world v key.0 serial) s s s }

rearmed_leaves : (w : World) (woken : List (List Stored)) (l : Storings) (round : RoundState) (key : Key) (serial : ℕ) (answers : List PollerAnswer)
    → Stands (holding_with w round.taken) [] woken l → Leaves woken l (rearmed (record w { round = Some round }) round key serial answers)
rearmed_leaves w woken l round key serial answers s =
    cond_both (is_empty_list (wanted (record w { round = Some round }) serial)) _ _ (Leaves woken l) (λ none. record { stands = s })
    (λ some. armed_leaves w woken l round key serial (next_answer answers) (later_answers answers) s)

source_leaves : (w : World) (woken : List (List Stored)) (l : Storings) (round : RoundState) (event : Event) (serial : Option ℕ) (answers : List PollerAnswer)
    → Stands (holding_with w round.taken) [] woken l → Leaves woken (event_moves w event serial l) (handle_source w round event serial answers)
source_leaves w woken l round event None answers s = record { stands = s }
source_leaves w woken l round event (Some serial) answers s =
    let dirs = directions_of event.on in
    let now_taken : RoundState = record round { taken = round.taken ++ wakers_taken w serial round.begin dirs } in
    rearmed_leaves (world_taken w serial round.begin dirs) woken _ now_taken event.key serial answers
    (directions_stand dirs w serial round.begin round.taken [] woken l s)

first_leaves : (w : World) (woken : List (List Stored)) (l : Storings) (round : RoundState) (events : List Event) (answers : List PollerAnswer)
    → w.round ≡ Some round → Stands (holding_of w) [] woken l → Leaves woken (handle_moves_first w events l) (handle_first w round events answers)
first_leaves w woken l round [] answers at s = quiet_leaves w woken l answer.Empty answers s
first_leaves w woken l round (event ∷ events) answers at s =
    source_leaves w woken l (record round { in_hand = events }) event (serial_of w event.key.0) answers (with_round w woken l round at s)

round_leaves : (w : World) (woken : List (List Stored)) (l : Storings) (round : Option RoundState) (answers : List PollerAnswer)
    → w.round ≡ round → Stands (holding_of w) [] woken l → Leaves woken (handle_moves_first w (hand_of round) l) (handle_in w round answers)
round_leaves w woken l None answers at s = quiet_leaves w woken l answer.NoRound answers s
round_leaves w woken l (Some round) answers at s = first_leaves w woken l round round.in_hand answers at s

pub handle_leaves : (w : World) (woken : List (List Stored)) (l : Storings) (answers : List PollerAnswer) → Stands (holding_of w) [] woken l
    → Leaves woken (handle_moves w l) (handle_round w answers)
handle_leaves w woken l answers s = round_leaves w woken l w.round answers refl s

-- ## A round ends

wake_all : (h : Holding) (woken : List (List Stored)) (l : Storings) → Stands h [] woken l → Stands (record h { taken = [] }) h.taken woken (round_woken l)
wake_all h woken l s = record {
  kept = wake_taken_kept (held h) l s.kept;
  orders = record {
    numbers_differ = s.orders.numbers_differ;
    numbers_drawn = s.orders.numbers_drawn;
    ids_differ = s.orders.ids_differ;
    ids_drawn = s.orders.ids_drawn;
  };
  taken_is = refl;
  waking_is = map-append (λ (s : Stored). s.waker) l.waking l.taken ∙ ap (λ front. front ++ wakers l.taken) s.waking_is ∙ s.taken_is;
  woken_is = s.woken_is;
}

ended_stands : (second : Bool) (w : World) (woken : List (List Stored)) (l : Storings) (round : RoundState) → Stands (holding_with w round.taken) [] woken l
    → Stands (record (holding_with w []) { registrations = cond second (after_pass w.now w.registrations) w.registrations })
    (cond second (round.taken ++ due_wakers w.now w.registrations) round.taken) woken
    (round_woken (cond second (each_taken (due_places w.now w.registrations) l) l))
ended_stands true w woken l round s =
    wake_all (passed w.now (holding_with w round.taken)) woken _ (pass_stands w.now (holding_with w round.taken) [] woken l s)
ended_stands false w woken l round s = wake_all (holding_with w round.taken) woken l s

ended_leaves : (w : World) (woken : List (List Stored)) (l : Storings) (round : Option RoundState) (answers : List PollerAnswer) → w.round ≡ round
    → Stands (holding_of w) [] woken l → Leaves woken (finish_moves_in w round l) (finish_in w round answers)
ended_leaves w woken l None answers at s = quiet_leaves w woken l answer.NoRound answers s
ended_leaves w woken l (Some round) answers at s =
    either woken (is_empty_list round.in_hand) _ _ _ _
    (λ none. record { stands = ended_stands (gave_none round.last_wait && not (is_zero round.limit)) w woken l round (with_round w woken l round at s) })
    (λ some. quiet_leaves w woken l _ answers s)

pub finish_leaves : (w : World) (woken : List (List Stored)) (l : Storings) (answers : List PollerAnswer) → Stands (holding_of w) [] woken l
    → Leaves woken (finish_moves w l) (finish_round w answers)
finish_leaves w woken l answers s = ended_leaves w woken l w.round answers refl s

-- ## A whole round

-- only the end of a round wakes
abbrev Silent : Outcome → Type 0
Silent o = o.wakes ≡ []

begin_silent : (w : World) (limit : Option ℕ) (answers : List PollerAnswer) → Silent (begin_round w limit answers)
begin_silent w limit answers = cond_both (is_some w.round) _ _ Silent (λ some. refl) (λ none. refl)

answered_silent : (w : World) (round : RoundState) (said : PollerAnswer) (rest : List PollerAnswer) → Silent (wait_answered w round said rest)
answered_silent w round Fails rest = refl
answered_silent w round said rest = refl

wait_silent : (w : World) (round : Option RoundState) (answers : List PollerAnswer) → Silent (wait_in w round answers)
wait_silent w None answers = refl
wait_silent w (Some round) answers =
    cond_both (is_empty_list round.in_hand) _ _ Silent (λ none. answered_silent w round (next_answer answers) (later_answers answers)) (λ some. refl)

source_silent : (w : World) (round : RoundState) (event : Event) (serial : Option ℕ) (answers : List PollerAnswer) → Silent (handle_source w round event serial answers)
source_silent w round event None answers = refl
source_silent w round event (Some serial) answers = cond_both _ _ _ Silent (λ none. refl) (λ some. refl)

first_silent : (w : World) (round : RoundState) (events : List Event) (answers : List PollerAnswer) → Silent (handle_first w round events answers)
first_silent w round [] answers = refl
first_silent w round (event ∷ events) answers = source_silent w (record round { in_hand = events }) event (serial_of w event.key.0) answers

handle_silent : (w : World) (round : Option RoundState) (answers : List PollerAnswer) → Silent (handle_in w round answers)
handle_silent w None answers = refl
handle_silent w (Some round) answers = first_silent w round round.in_hand answers

silently : (woken : List (List Stored)) (l : Storings) (o : Outcome) → Silent o → Leaves woken l o → Stands (holding_of o.world) [] woken l
silently woken l o silent leaves = subst (λ wakes. Stands (holding_of o.world) wakes woken l) silent leaves.stands

each_stands : (events : List Event) (w : World) (woken : List (List Stored)) (l : Storings) (answers : List PollerAnswer) → Stands (holding_of w) [] woken l
    → Stands (holding_of (handle_each events w answers).world) [] woken (handle_each_moves events w answers l)
each_stands [] w woken l answers s = s
each_stands (event ∷ events) w woken l answers s =
    let first = handle_round w answers in
    each_stands events first.world woken (handle_moves w l) first.left
    (silently woken (handle_moves w l) first (handle_silent w w.round answers) (handle_leaves w woken l answers s))

pub react_leaves : (w : World) (woken : List (List Stored)) (l : Storings) (answers : List PollerAnswer) → Stands (holding_of w) [] woken l
    → Leaves woken (react_moves w answers l) (react w None answers)
react_leaves w woken l answers s =
    let begun = begin_round w None answers in
    let waited = wait_round begun.world begun.left in
    let hand = hand_of waited.world.round in
    let handled = handle_each hand waited.world waited.left in
    let first = silently woken (begin_moves w l) begun (begin_silent w None answers) (begin_leaves w woken l None answers s) in
    let second = silently woken (begin_moves w l) waited (wait_silent begun.world begun.world.round begun.left) (wait_leaves begun.world woken (begin_moves w l) begun.left first) in
    let third = each_stands hand waited.world woken (begin_moves w l) waited.left second in
    let ended = finish_leaves handled.world woken (handle_each_moves hand waited.world waited.left (begin_moves w l)) handled.left third in
    either woken (is_some w.round) l _ _ _ (λ some. quiet_leaves w woken l _ answers s) (λ none. record { stands = ended.stands })
