-- What a step notes: each event that it handles, with the begin of the round that handles it.
use Rattle.std.proofs.Common.{◌≡◌, ℕ, ◌+◌, ◌<◌, Bool, true, false, cond, ◌&&◌, ◌==◌, List, [], ◌∷◌, ◌++◌, map, find, Option, None, Some, is_some, option_map, option_to_list, refl, ap, ◌∙◌, sym, subst, append_assoc, append-nil}
use Rattle.std.specs.Prelude.{nat_lt, flat_map, take}
use Rattle.std.specs.List.{Contains}
use Rattle.std.specs.Option.{option_map_or}
use Rattle.std.proofs.lemmas.Bool.{cond_both, lt-ltb}
use Rattle.std.proofs.lemmas.List.Elements.{Contains-append_left, Contains-append_right}
use Rattle.aio_base.specs.declared.names.Dir.{Dir}
use Rattle.aio_base.specs.declared.names.Event.{Event}
use Rattle.aio_base.specs.declared.steps.Step.{Step}
use Rattle.aio_base.specs.declared.steps.Step.TheVariants as step
use Rattle.aio_base.specs.World.{PollerAnswer, LiveSource, RoundState, HandledDirection, World, directions_of, has_dir, is_of, serial_of, is_fresh}
use Rattle.aio_base.specs.Machine.{Outcome, begin_round, wait_round, without_waiters, world_taken, handle_source, handle_first, handle_in, handle_round, handle_each, hand_of, case_of, step_result, next_answer}
use Rattle.aio_laws.specs.RoundCounts.{RoundName, name_of}
use Rattle.aio_laws.specs.Succession.{events_given}
use Rattle.aio_laws.specs.Arming.{handled_events}
use Rattle.aio_laws.specs.Handling.{begin_of, notes_of, HandledIsNoted}
use Rattle.aio_base.proofs.DirectionLemmas.{passing_direction}
use Rattle.aio_base.proofs.Membership.{image_is_in, any_from, any_gives, piece_is_in}
use Rattle.aio_base.proofs.WaiterLemmas.{is_of-from}
use Rattle.aio_laws.proofs.rounds.RoundLemmas.{in_hand_of, event_handled, first_of, ended_of, begun_in_hand}
use Rattle.aio_laws.proofs.steps.Frames.{Frame, wait_keeps, rearmed_keeps, handle_keeps, finish_keeps, case_keeps}

-- ## What an event adds

abbrev note : ℕ → ℕ → Dir → HandledDirection
note serial begin dir = record { serial = serial; dir = dir; begin = begin }

-- what is noted of an event, where its key is that of this serial
abbrev notes_as : ℕ → Event → Option ℕ → List HandledDirection
notes_as begin event found = flat_map (λ serial. map (note serial begin) (directions_of event.on)) (option_to_list found)

-- of these events, where these sources are live
abbrev notes_in : ℕ → List Event → List LiveSource → List HandledDirection
notes_in begin events live =
    flat_map (λ (event : Event). notes_as begin event (option_map (λ (s : LiveSource). s.serial) (find (λ (s : LiveSource). s.key == event.key.0) live))) events

-- nothing is noted
quiet : (past now : List HandledDirection) → now ≡ past → now ≡ past ++ []
quiet past now same = same ∙ sym (append-nil past)

taken_past : (dirs : List Dir) (w : World) (serial begin : ℕ) → (world_taken w serial begin dirs).handled ≡ w.handled ++ map (note serial begin) dirs
taken_past [] w serial begin = sym (append-nil w.handled)
taken_past (dir ∷ dirs) w serial begin =
    taken_past dirs (without_waiters w serial begin dir) serial begin
    ∙ append_assoc w.handled (note serial begin dir ∷ []) (map (note serial begin) dirs)

source_past : (w : World) (round : RoundState) (event : Event) (found : Option ℕ) (answers : List PollerAnswer)
    → (handle_source w round event found answers).world.handled ≡ w.handled ++ notes_as round.begin event found
source_past w round event None answers = sym (append-nil w.handled)
source_past w round event (Some serial) answers =
    ap (λ (f : Frame). f.handled) (rearmed_keeps _ _ event.key serial answers refl) ∙ taken_past (directions_of event.on) w serial round.begin
    ∙ ap (λ (notes : List HandledDirection). w.handled ++ notes) (sym (append-nil (map (note serial round.begin) (directions_of event.on))))

first_past : (w : World) (round : RoundState) (hand : List Event) (answers : List PollerAnswer)
    → (handle_first w round hand answers).world.handled ≡ w.handled ++ notes_in round.begin (take 1 hand) w.live
first_past w round [] answers = sym (append-nil w.handled)
first_past w round (event ∷ events) answers =
    source_past w (record round { in_hand = events }) event (serial_of w event.key.0) answers
    ∙ ap (λ (notes : List HandledDirection). w.handled ++ notes) (sym (append-nil (notes_as round.begin event (serial_of w event.key.0))))

abbrev begins_at : Option RoundState → ℕ → ℕ
begins_at round here = option_map_or (λ (r : RoundState). r.begin) round here

handle_past : (w : World) (round : Option RoundState) (here : ℕ) (answers : List PollerAnswer)
    → (handle_in w round answers).world.handled ≡ w.handled ++ notes_in (begins_at round here) (take 1 (hand_of round)) w.live
handle_past w None here answers = sym (append-nil w.handled)
handle_past w (Some round) here answers = first_past w round round.in_hand answers

-- ## Each event in hand

some_is : {X : Type 0} (m n : X) → Some m ≡ Some n → m ≡ n
some_is m n same = cc

-- a round began where its name says
named_begin : (round : Option RoundState) (name : RoundName) (here : ℕ) → name_of round ≡ Some name → begins_at round here ≡ name.begin
named_begin None name here is = absurd cc
named_begin (Some round) name here is =
    ap (λ (n : RoundName). n.begin) (some_is (record { number = round.number; begin = round.begin; limit = round.limit }) name is)

each_past : (events : List Event) (w : World) (name : RoundName) (answers : List PollerAnswer) → name_of w.round ≡ Some name → in_hand_of w.round ≡ Some events
    → (handle_each events w answers).world.handled ≡ w.handled ++ notes_in name.begin events w.live
each_past [] w name answers named at = sym (append-nil w.handled)
each_past (event ∷ events) w name answers named at =
    let first = handle_round w answers in
    let kept = handle_keeps w w.round answers refl in
    let live : first.world.live ≡ w.live = ap (λ (f : Frame). f.live) kept in
    let still : name_of first.world.round ≡ Some name = ap (λ (f : Frame). f.name) kept ∙ named in
    let one = notes_as name.begin event (serial_of w event.key.0) in
    let noted : first.world.handled ≡ w.handled ++ one =
    handle_past w w.round 0 answers
    ∙ ap (λ (begin : ℕ). w.handled ++ notes_in begin (take 1 (hand_of w.round)) w.live) (named_begin w.round name 0 named)
    ∙ ap (λ (es : List Event). w.handled ++ notes_in name.begin es w.live) (first_of w.round event events at)
    ∙ ap (λ (notes : List HandledDirection). w.handled ++ notes) (append-nil one) in
    each_past events first.world name first.left still (event_handled w event events answers at).hand
    ∙ ap (λ (past : List HandledDirection). past ++ notes_in name.begin events first.world.live) noted
    ∙ append_assoc w.handled one (notes_in name.begin events first.world.live)
    ∙ ap (λ (sources : List LiveSource). w.handled ++ (one ++ notes_in name.begin events sources)) live

-- ## A whole round

begun_named : (w : World) (given : Option ℕ) (answers : List PollerAnswer) → is_some w.round ≡ false
    → (limit : Option ℕ) × (name_of (begin_round w given answers).world.round ≡ Some (record { number = w.rounds + 1; begin = w.pos; limit = limit }))
    × ((begin_round w given answers).world.handled ≡ w.handled)
begun_named w given answers none =
    cond_both (is_some w.round) _ _
    (λ (o : Outcome). (limit : Option ℕ) × (name_of o.world.round ≡ Some (record { number = w.rounds + 1; begin = w.pos; limit = limit })) × (o.world.handled ≡ w.handled))
    (λ runs. absurd cc) (λ none. (_, refl, refl))

reacted : (w : World) (answers : List PollerAnswer) → is_some w.round ≡ false
    → (ended_of w answers).world.handled ≡ w.handled ++ notes_in w.pos (events_given (next_answer answers)) w.live
reacted w answers none =
    let begun = begin_round w None answers in
    let waited = wait_round begun.world begun.left in
    let hand = hand_of waited.world.round in
    let handled = handle_each hand waited.world waited.left in
    let h = begun_in_hand w answers none in
    let waits = wait_keeps begun.world begun.world.round begun.left refl in
    let named = begun_named w None answers none in
    let name : RoundName = record { number = w.rounds + 1; begin = w.pos; limit = named.0 } in
    let runs : name_of waited.world.round ≡ Some name = ap (λ (f : Frame). f.name) waits ∙ named.1 in
    let past : waited.world.handled ≡ w.handled = ap (λ (f : Frame). f.handled) waits ∙ named.2 in
    ap (λ (f : Frame). f.handled) (finish_keeps handled.world handled.world.round handled.left)
    ∙ each_past hand waited.world name waited.left runs h.held
    ∙ ap (λ (before : List HandledDirection). before ++ notes_in w.pos hand waited.world.live) past
    ∙ ap (λ (sources : List LiveSource). w.handled ++ notes_in w.pos hand sources) h.live
    ∙ ap (λ (events : List Event). w.handled ++ notes_in w.pos events w.live) h.events

react_step : (w : World) (answers : List PollerAnswer) (runs : Bool) (locked round : Outcome) → locked.world.handled ≡ w.handled
    → (runs ≡ false → round.world.handled ≡ w.handled ++ notes_in w.pos (events_given (next_answer answers)) w.live)
    → (cond runs locked round).world.handled ≡ w.handled ++ notes_in w.pos (cond runs [] (events_given (next_answer answers))) w.live
react_step w answers true locked round first second = quiet w.handled locked.world.handled first
react_step w answers false locked round first second = second refl

-- ## A step

case_past : (w : World) (s : Step) (answers : List PollerAnswer)
    → (case_of w s answers).world.handled ≡ w.handled ++ flat_map (notes_of w (begin_of w s)) (handled_events w s answers)
case_past w step.Handle answers = handle_past w w.round w.pos answers
case_past w step.React answers = react_step w answers (is_some w.round) _ _ refl (λ none. reacted w answers none)
case_past w s answers = quiet w.handled _ (ap (λ (f : Frame). f.handled) (case_keeps w s answers))

-- ## What is noted is fresh

abbrev fresh_for : ℕ → Dir → ℕ → HandledDirection → Bool
fresh_for serial dir position h = is_of serial dir h.serial h.dir && nat_lt position h.begin

-- an event of a live source is noted with each of its directions
noted_direction : (w : World) (event : Event) (begin serial : ℕ) (dir : Dir) → serial_of w event.key.0 ≡ Some serial → has_dir event.on dir ≡ true
    → Contains (notes_of w begin event) (note serial begin dir)
noted_direction w event begin serial dir live has =
    subst (λ (found : Option ℕ). Contains (notes_as begin event found) (note serial begin dir)) (sym live)
    (Contains-append_left (map (note serial begin) (directions_of event.on)) [] (note serial begin dir)
    (image_is_in (note serial begin) (directions_of event.on) dir (passing_direction (has_dir event.on) dir has)))

-- an entry of a later round makes its direction fresh
entry_is_fresh : (past : List HandledDirection) (serial begin : ℕ) (dir : Dir) (position : ℕ) → Contains past (note serial begin dir) → position < begin
    → is_fresh past serial dir position ≡ true
entry_is_fresh past serial begin dir position among before =
    let here = is_of-from serial dir serial dir refl refl in
    let later : nat_lt position begin ≡ true = lt-ltb position begin before in
    any_from (fresh_for serial dir position) past (note serial begin dir) among (ap (λ t. t && nat_lt position begin) here ∙ later)

-- the rest follows from what the past is
from_past : (w : World) (s : Step) (answers : List PollerAnswer) (v : World)
    → v.handled ≡ w.handled ++ flat_map (notes_of w (begin_of w s)) (handled_events w s answers) → HandledIsNoted w s answers v
from_past w s answers v is =
    let added = flat_map (notes_of w (begin_of w s)) (handled_events w s answers) in
    record {
      handled = is;
      fresh = λ event among serial dir position live has before.
          subst (λ (past : List HandledDirection). is_fresh past serial dir position ≡ true) (sym is)
          (entry_is_fresh (w.handled ++ added) serial (begin_of w s) dir position
          (Contains-append_right w.handled added (note serial (begin_of w s) dir)
          (piece_is_in (notes_of w (begin_of w s)) (handled_events w s answers) event (note serial (begin_of w s) dir) among
          (noted_direction w event (begin_of w s) serial dir live has))) before);
      kept = λ serial dir position fresh.
          let one = any_gives (fresh_for serial dir position) w.handled fresh in
          subst (λ (past : List HandledDirection). is_fresh past serial dir position ≡ true) (sym is)
          (any_from (fresh_for serial dir position) (w.handled ++ added) one.0 (Contains-append_left w.handled added one.0 one.1) one.2);
    }

pub handled_is_noted : (w : World) (s : Step) (answers : List PollerAnswer) → HandledIsNoted w s answers (step_result w s answers).world
unfolding step_result
handled_is_noted w s answers =
    let is = case_past w s answers in
    let f = from_past w s answers (case_of w s answers).world is in
    record { handled = f.handled; fresh = f.fresh; kept = f.kept }
