-- What the sections of a round leave as it was: the live sources, the clock, the listeners, and what a wait gives until it is handled.
use Rattle.std.proofs.Common.{◌≡◌, ℕ, ◌+◌, Bool, true, false, not, cond, List, [], ◌∷◌, ◌++◌, map, filter, find, Option, None, Some, is_some, option_map, option_to_list, refl, ap, ◌∙◌, sym, subst}
use Rattle.std.specs.Prelude.{◌==◌, flat_map, nat_le, take}
use Rattle.std.proofs.lemmas.Bool.{cond_both, not-true}
use Rattle.aio_base.specs.declared.names.Key.{Key}
use Rattle.aio_base.specs.declared.names.Dir.{Dir}
use Rattle.aio_base.specs.declared.names.Event.{Event}
use Rattle.aio_base.specs.declared.outcomes.EndWord.TheVariants.{Clean, FaultArm}
use Rattle.aio_base.specs.declared.steps.Answer.TheVariants as answer
use Rattle.aio_base.specs.World.{PollerAnswer, Gives, LiveSource, ListenerEntry, Registration, RoundState, World, directions_of, is_of, serial_of, wanted, is_empty_list}
use Rattle.aio_base.specs.Timers.{in_order, after_pass, due_wakers, limit_of}
use Rattle.aio_base.specs.Machine.{Outcome, quiet, next_answer, later_answers, fails, broken_world, armed_world, first_fault, without_waiters, world_taken, wakers_taken, begin_round, wait_answered, wait_in, wait_round, finish_round, rearmed, handle_source, handle_first, handle_in, handle_round, handle_each, hand_of}
use Rattle.aio_laws.specs.Storings.{OfPoll, OfListener, OfTimer, places_of, due_places}
use Rattle.aio_laws.specs.Succession.{event_places, events_given}
use Rattle.aio_base.proofs.Searching.{filtered_empty}

-- ## The same subjects

pub record Same (u v : World) : Type 0 where
  pub live : v.live ≡ u.live
  pub now : v.now ≡ u.now
  pub registrations : v.registrations ≡ u.registrations
  pub places : (serial : ℕ) (dir : Dir) → places_of v serial dir ≡ places_of u serial dir

pub same_itself : (u : World) → Same u u
same_itself u = record { live = refl; now = refl; registrations = refl; places = λ serial dir. refl }

pub same_both : (u v x : World) → Same u v → Same v x → Same u x
same_both u v x first second = record {
  live = second.live ∙ first.live;
  now = second.now ∙ first.now;
  registrations = second.registrations ∙ first.registrations;
  places = λ serial dir. second.places serial dir ∙ first.places serial dir;
}

pub listeners_places : (u v : World) (serial : ℕ) (dir : Dir) → v.listeners ≡ u.listeners → places_of v serial dir ≡ places_of u serial dir
listeners_places u v serial dir same =
    ap (λ entries. OfPoll serial dir ∷ map (λ (l : ListenerEntry). OfListener l.number) (filter (λ (l : ListenerEntry). is_of serial dir l.serial l.dir) entries)) same

same_flat_map : {X Y : Type 0} (f g : X → List Y) → ((x : X) → f x ≡ g x) → (xs : List X) → flat_map f xs ≡ flat_map g xs
same_flat_map f g same [] = refl
same_flat_map f g same (x ∷ xs) = ap (λ front. front ++ flat_map f xs) (same x) ∙ ap (λ rest. g x ++ rest) (same_flat_map f g same xs)

same_event : (u v : World) → Same u v → (event : Event) → event_places v event ≡ event_places u event
same_event u v same event =
    same_flat_map (λ serial. flat_map (places_of v serial) (directions_of event.on)) (λ serial. flat_map (places_of u serial) (directions_of event.on))
    (λ serial. same_flat_map (places_of v serial) (places_of u serial) (same.places serial) (directions_of event.on)) (option_to_list (serial_of v event.key.0))
    ∙ ap
    (λ live. flat_map (λ serial. flat_map (places_of u serial) (directions_of event.on))
    (option_to_list (option_map (λ (s : LiveSource). s.serial) (find (λ (s : LiveSource). s.key == event.key.0) live)))) same.live

pub same_events : (v u : World) → Same u v → (events : List Event) → flat_map (event_places v) events ≡ flat_map (event_places u) events
same_events v u same events = same_flat_map (event_places v) (event_places u) (same_event u v same) events

-- ## A direction is taken

filter_step : {X Y : Type 0} (g : X → Y) (b c : Bool) (y z : X) (ys zs : List X) → b ≡ c → g y ≡ g z → map g ys ≡ map g zs
    → map g (cond b (y ∷ ys) ys) ≡ map g (cond c (z ∷ zs) zs)
filter_step g true true y z ys zs test same rest = ap (λ first. first ∷ map g ys) same ∙ ap (λ later. g z ∷ later) rest
filter_step g false false y z ys zs test same rest = rest
filter_step g true false y z ys zs test same rest = absurd cc
filter_step g false true y z ys zs test same rest = absurd cc

-- a filter and a map that do not see what another map changes
pub unseen_change : {X Y : Type 0} (q : X → Bool) (f : X → X) (g : X → Y) → ((x : X) → q (f x) ≡ q x) → ((x : X) → g (f x) ≡ g x) → (xs : List X)
    → map g (filter q (map f xs)) ≡ map g (filter q xs)
unseen_change q f g tests sees [] = refl
unseen_change q f g tests sees (x ∷ xs) =
    filter_step g (q (f x)) (q x) (f x) x (filter q (map f xs)) (filter q xs) (tests x) (sees x) (unseen_change q f g tests sees xs)

direction_same : (v : World) (serial begin : ℕ) (dir : Dir) → Same v (without_waiters v serial begin dir)
direction_same v serial begin dir =
    let emptied : ListenerEntry → ListenerEntry = λ l. cond (is_of serial dir l.serial l.dir) (record l { waker = None }) l in
    record {
      live = refl;
      now = refl;
      registrations = refl;
      places = λ s d. ap (λ later. OfPoll s d ∷ later)
          (unseen_change (λ (l : ListenerEntry). is_of s d l.serial l.dir) emptied (λ (l : ListenerEntry). OfListener l.number)
          (λ l. cond_both (is_of serial dir l.serial l.dir) (record l { waker = None }) l (λ (x : ListenerEntry). is_of s d x.serial x.dir ≡ is_of s d l.serial l.dir) (λ here. refl) (λ other. refl))
          (λ l. cond_both (is_of serial dir l.serial l.dir) (record l { waker = None }) l (λ (x : ListenerEntry). OfListener x.number ≡ OfListener l.number) (λ here. refl) (λ other. refl))
          v.listeners);
    }

directions_same : (dirs : List Dir) (v : World) (serial begin : ℕ) → Same v (world_taken v serial begin dirs)
directions_same [] v serial begin = same_itself v
directions_same (dir ∷ dirs) v serial begin =
    same_both v (without_waiters v serial begin dir) (world_taken (without_waiters v serial begin dir) serial begin dirs) (direction_same v serial begin dir)
    (directions_same dirs (without_waiters v serial begin dir) serial begin)

-- ## An event is handled

-- the events in hand of a round, where one runs
abbrev pub in_hand_of : Option RoundState → Option (List Event)
in_hand_of None = None
in_hand_of (Some round) = Some round.in_hand

-- the same subjects, and a round with these events in hand
pub record Handled (v : World) (events : List Event) (x : World) : Type 0 where
  pub same : Same v x
  pub hand : in_hand_of x.round ≡ Some events

-- what changes none of them
unseen : (v u x : World) (events : List Event) → Same v u → x.live ≡ u.live → x.now ≡ u.now → x.registrations ≡ u.registrations → x.listeners ≡ u.listeners
    → in_hand_of x.round ≡ Some events → Handled v events x
unseen v u x events same live now registrations listeners hand = record {
  same = same_both v u x same (record { live = live; now = now; registrations = registrations; places = λ s d. listeners_places u x s d listeners });
  hand = hand;
}

armed_handled : (failing : Bool) (v u : World) (broken armed : World) (round : RoundState) → Handled v round.in_hand (record broken { round = Some round })
    → Handled v round.in_hand armed
    → Handled v round.in_hand (cond failing (record (cond failing broken armed) { round = Some round }) (cond failing broken armed))
armed_handled true v u broken armed round first second = first
armed_handled false v u broken armed round first second = second

rearmed_handled : (v u : World) (round : RoundState) (key : Key) (serial : ℕ) (answers : List PollerAnswer) → Same v u
    → Handled v round.in_hand (rearmed (record u { round = Some round }) round key serial answers).world
rearmed_handled v u round key serial answers same =
    let now_in : World = record u { round = Some round } in
    let failed : RoundState = record round { fault = first_fault round.fault FaultArm } in
    cond_both (is_empty_list (wanted now_in serial)) (quiet (answer.Handled key false) now_in answers) _ (λ (o : Outcome). Handled v round.in_hand o.world)
    (λ none. unseen v u now_in round.in_hand same refl refl refl refl refl)
    (λ some. armed_handled (fails (next_answer answers)) v u (broken_world now_in serial) (armed_world now_in key.0 serial) failed
    (unseen v u (record (broken_world now_in serial) { round = Some failed }) round.in_hand same refl refl refl refl refl)
    (unseen v u (armed_world now_in key.0 serial) round.in_hand same refl refl refl refl refl))

source_handled : (v : World) (round : RoundState) (event : Event) (serial : Option ℕ) (answers : List PollerAnswer)
    → Handled v round.in_hand (handle_source v round event serial answers).world
source_handled v round event None answers = unseen v v (record v { round = Some round }) round.in_hand (same_itself v) refl refl refl refl refl
source_handled v round event (Some serial) answers =
    let dirs = directions_of event.on in
    rearmed_handled v (world_taken v serial round.begin dirs) (record round { taken = round.taken ++ wakers_taken v serial round.begin dirs }) event.key serial answers
    (directions_same dirs v serial round.begin)

first_handled : (v : World) (round : RoundState) (hand : List Event) (event : Event) (events : List Event) (answers : List PollerAnswer)
    → hand ≡ event ∷ events → Handled v events (handle_first v round hand answers).world
first_handled v round [] event events answers at = absurd cc
first_handled v round (e ∷ es) event events answers at =
    let later : es ≡ events = cc in
    subst (λ es'. Handled v es' (handle_first v round (e ∷ es) answers).world) later
    (source_handled v (record round { in_hand = es }) e (serial_of v e.key.0) answers)

round_handled : (v : World) (round : Option RoundState) (event : Event) (events : List Event) (answers : List PollerAnswer)
    → in_hand_of round ≡ Some (event ∷ events) → Handled v events (handle_in v round answers).world
round_handled v None event events answers at = absurd cc
round_handled v (Some round) event events answers at =
    let hand : round.in_hand ≡ event ∷ events = cc in first_handled v round round.in_hand event events answers hand

pub event_handled : (v : World) (event : Event) (events : List Event) (answers : List PollerAnswer) → in_hand_of v.round ≡ Some (event ∷ events)
    → Handled v events (handle_round v answers).world
event_handled v event events answers at = round_handled v v.round event events answers at

pub all_handled : (events : List Event) (v : World) (answers : List PollerAnswer) → in_hand_of v.round ≡ Some events
    → Handled v [] (handle_each events v answers).world
all_handled [] v answers at = record { same = same_itself v; hand = at }
all_handled (event ∷ events) v answers at =
    let first = handle_round v answers in
    let one = event_handled v event events answers at in
    let rest = all_handled events first.world first.left one.hand in
    record { same = same_both v first.world (handle_each events first.world first.left).world one.same rest.same; hand = rest.hand }

-- whether a round runs that has no event in hand
abbrev pub is_handled : Option RoundState → Bool
is_handled None = false
is_handled (Some round) = is_empty_list round.in_hand

pub handled_out : (round : Option RoundState) → in_hand_of round ≡ Some [] → is_handled round ≡ true
handled_out None none = absurd cc
handled_out (Some round) none = let hand : round.in_hand ≡ [] = cc in ap is_empty_list hand

pub hand_is : (round : Option RoundState) (events : List Event) → in_hand_of round ≡ Some events → hand_of round ≡ events
hand_is None events at = absurd cc
hand_is (Some round) events at = cc

pub first_of : (round : Option RoundState) (event : Event) (events : List Event) → in_hand_of round ≡ Some (event ∷ events) → take 1 (hand_of round) ≡ event ∷ []
first_of round event events at = ap (take 1) (hand_is round (event ∷ events) at)

-- ## A round begins and waits

pub record Begun (w : World) (answers : List PollerAnswer) (o : Outcome) : Type 0 where
  pub live : o.world.live ≡ w.live
  pub now : o.world.now ≡ w.now
  pub listeners : o.world.listeners ≡ w.listeners
  pub registrations : o.world.registrations ≡ after_pass w.now w.registrations
  pub hand : in_hand_of o.world.round ≡ Some []
  pub left : o.left ≡ answers

pub round_begun : (w : World) (answers : List PollerAnswer) → is_some w.round ≡ false → Begun w answers (begin_round w None answers)
round_begun w answers none =
    cond_both (is_some w.round) _ _ (Begun w answers) (λ some. absurd cc)
    (λ none. record { live = refl; now = refl; listeners = refl; registrations = refl; hand = refl; left = refl })

answered : (v : World) (round : RoundState) (told : PollerAnswer) (rest : List PollerAnswer) → round.in_hand ≡ []
    → Handled v (events_given told) (wait_answered v round told rest).world
answered v round (Gives events) rest none = unseen v v _ _ (same_itself v) refl refl refl refl refl
answered v round told rest none = unseen v v _ _ (same_itself v) refl refl refl refl (ap Some none)

pub round_waited : (v : World) (round : Option RoundState) (answers : List PollerAnswer) → in_hand_of round ≡ Some []
    → Handled v (events_given (next_answer answers)) (wait_in v round answers).world
round_waited v None answers none = absurd cc
round_waited v (Some round) answers none =
    let hand : round.in_hand ≡ [] = cc in
    cond_both (is_empty_list round.in_hand) _ _ (λ (o : Outcome). Handled v (events_given (next_answer answers)) o.world)
    (λ empty. answered v round (next_answer answers) (later_answers answers) hand) (λ some. absurd (let empty = ap is_empty_list hand in cc))

-- the round that begins in a world, with this limit given
abbrev pub round_state_begun : World → Option ℕ → RoundState
round_state_begun w given = record {
  number = w.rounds + 1;
  begin = w.pos;
  limit = limit_of w.now w.registrations given;
  in_hand = [];
  taken = due_wakers w.now w.registrations;
  last_wait = None;
  fault = Clean;
}

-- a whole round after each of its sections
abbrev pub waited_of : World → List PollerAnswer → Outcome
waited_of w answers = let begun = begin_round w None answers in wait_round begun.world begun.left

abbrev pub handled_of : World → List PollerAnswer → Outcome
handled_of w answers = let waited = waited_of w answers in handle_each (hand_of waited.world.round) waited.world waited.left

abbrev pub ended_of : World → List PollerAnswer → Outcome
ended_of w answers = let handled = handled_of w answers in finish_round handled.world handled.left

-- a round that has begun and waited has in hand what its wait gave
pub record InHand (w : World) (answers : List PollerAnswer) (begun waited : Outcome) : Type 0 where
  pub start : Begun w answers begun
  pub full : Handled begun.world (events_given (next_answer begun.left)) waited.world
  pub held : in_hand_of waited.world.round ≡ Some (hand_of waited.world.round)
  pub events : hand_of waited.world.round ≡ events_given (next_answer answers)
  pub live : waited.world.live ≡ w.live

pub begun_in_hand : (w : World) (answers : List PollerAnswer) → is_some w.round ≡ false → InHand w answers (begin_round w None answers) (waited_of w answers)
begun_in_hand w answers none =
    let begun = begin_round w None answers in
    let start = round_begun w answers none in
    let full = round_waited begun.world begun.world.round begun.left start.hand in
    let given = hand_is (waited_of w answers).world.round _ full.hand in
    record {
      start = start;
      full = full;
      held = full.hand ∙ ap Some (sym given);
      events = given ∙ ap (λ (told : List PollerAnswer). events_given (next_answer told)) start.left;
      live = full.same.live ∙ start.live;
    }

-- ## A pass leaves nothing due

pub none_due_left : (moment : ℕ) (registrations : List Registration) → due_places moment (after_pass moment registrations) ≡ []
none_due_left moment registrations =
    ap (λ (due : List Registration). map (λ (r : Registration). OfTimer r.id) (in_order due))
    (filtered_empty (λ (r : Registration). nat_le r.deadline moment) (λ (r : Registration). not (nat_le r.deadline moment))
    (λ r stays. not-true (nat_le r.deadline moment) stays) registrations)
