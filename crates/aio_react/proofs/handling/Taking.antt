-- A core stands on where a running round takes the waiters of a source, direction by direction.
use Rattle.std.proofs.Common.{◌≡◌, ◌≢◌, ℕ, ◌≤◌, Bool, true, false, ◌||◌, if◌then◌else◌, cond, IsTrue, List, [], ◌∷◌, ◌++◌, filter, find, slice_set, Option, None, Some, IfSome, option_map, refl, sym, ap, ◌∙◌, subst, arith, ⊎_elim}
use Rattle.std.proofs.lemmas.Bool.{cases_eq}
use Rattle.aio_base.specs.declared.names.Dir.{Dir}
use Rattle.aio_base.specs.declared.names.Interest.{Interest}
use Rattle.aio_base.specs.declared.names.Waker.{Waker}
use Rattle.aio_base.specs.Devices.{Interests}
use Rattle.aio_base.specs.Machine.{is_listener, without_waiters, world_taken, wakers_taken, hand_of}
use Rattle.aio_base.specs.Rounds.{rounds_at, HasBegun}
use Rattle.aio_base.specs.World.{World, LiveSource, ListenerEntry, is_armed, is_broken, has_dir}
use Rattle.aio_base.proofs.Searching.{mapped_found}
use Rattle.aio_source.specs.Rules.{direction_of, with_source_direction, handled_along, taken_along}
use Rattle.aio_source.proofs.DirectionCases.{each_put}
use Rattle.aio_source.specs.Rules as source
use Rattle.aio_source.specs.Values.{SourceValue, DirectionValues}
use Rattle.aio_react.specs.declared.entries.Listener.{Listener}
use Rattle.aio_react.specs.declared.entries.SourceEntry.{SourceEntry}
use Rattle.aio_react.specs.Cores.{CoreValue, entry_at}
use Rattle.aio_facts.specs.Facts.{facts_in, serial_in}
use Rattle.aio_react.specs.Numbers.{value_of}
use Rattle.aio_react.specs.Standing.{SourceStands, PlaceStands, ListenerStands, AreFewTickets, is_in_hand, StandsWithin}
use Rattle.aio_facts.specs.Sound.{IsBefore}
use Rattle.aio_react.proofs.sources.DirectionFacts.{waiters_stand}
use Rattle.aio_react.proofs.sources.SourceChanges.{with_state, with_source, source_found, direction_changes, place_here, place_aside, placed_twice, placed_again, place_stands_aside, count_again, few_at}
use Rattle.aio_facts.proofs.Serials.{keys_agree, serial_given}
use Rattle.aio_react.proofs.handling.TakenFacts.{taken_here}
use Rattle.aio_facts.proofs.Taken.{all_cleared, cleared, cleared_same, sound_cleared, taken_aside}
use Rattle.aio_facts.proofs.Waiting.{serial_apart, dir_apart}
use Rattle.aio_facts.proofs.RoundPast.{begun_more}

-- ## The listeners

listener_cleared : (live : List LiveSource) (begun : List ℕ) (l : Option Listener) (f : ListenerEntry → ListenerEntry) (found : Option ListenerEntry)
    → ((e : ListenerEntry) → (f e).serial ≡ e.serial) → ((e : ListenerEntry) → (f e).dir ≡ e.dir) → ((e : ListenerEntry) → (f e).position ≡ e.position)
    → ListenerStands live begun l found → ListenerStands live begun l (option_map f found)
listener_cleared live begun None f None serials dirs positions stands = tt
listener_cleared live begun None f (Some e) serials dirs positions stands = absurd stands
listener_cleared live begun (Some l) f None serials dirs positions stands = absurd stands
listener_cleared live begun (Some l) f (Some e) serials dirs positions stands = rw (serials e, dirs e, positions e) stands

-- ## Tickets

tickets_taken : (bound : ℕ) (sources : List (Option SourceEntry)) (key : ℕ) (e new : SourceEntry) → entry_at sources key ≡ Some e
    → ((dir : Dir) → (direction_of new.source.directions dir).listeners.drawn ≡ (direction_of e.source.directions dir).listeners.drawn)
    → AreFewTickets bound sources → AreFewTickets bound (slice_set sources key (Some new))
tickets_taken bound sources key e new is same few k dir =
    let Few : Option SourceEntry → Type 0 = λ (p : Option SourceEntry). IfSome p (λ (e : SourceEntry). (direction_of e.source.directions dir).listeners.drawn ≤ bound) in
    let one = few_at bound (entry_at sources key) e dir is (few key dir) in
    let drawn = same dir in
    ⊎_elim
    (λ (here : k ≡ key). subst Few (ap (λ n. entry_at (slice_set sources key (Some new)) n) (sym here)) (subst Few (sym (place_here sources key e (Some new) is)) (omega (arith, one, drawn))))
    (λ (apart : k ≢ key). subst Few (sym (place_aside sources key k (Some new) apart)) (few k dir))
    (cases_eq k key)

-- ## One direction

-- the source once an event of a round took the waiters of a direction
abbrev source_taken : SourceValue → Dir → ℕ → SourceValue
source_taken s dir number = with_source_direction s dir (source.handled number (direction_of s.directions dir))

drawn_same : (s : SourceValue) (dir : Dir) (number : ℕ) (d : Dir) → (direction_of (source_taken s dir number).directions d).listeners.drawn ≡ (direction_of s.directions d).listeners.drawn
drawn_same s dir number =
    each_put (λ d v. v.listeners.drawn ≡ (direction_of s.directions d).listeners.drawn) s.directions dir (source.handled number (direction_of s.directions dir)) refl (λ d other. refl)

asked_place : (place : Option SourceEntry) (e new : SourceEntry) (armed hand : Bool) (dir : Dir) → place ≡ Some e → new.source.asked ≡ e.source.asked
    → IfSome place (λ (e : SourceEntry). IsTrue (has_dir e.source.asked dir) → IsTrue (armed || hand))
    → IsTrue (has_dir new.source.asked dir) → IsTrue (armed || hand)
asked_place place e new armed hand dir is same asked =
    subst (λ (on : Interest). IsTrue (has_dir on dir) → IsTrue (armed || hand)) (sym same)
    (subst (λ (p : Option SourceEntry). IfSome p (λ (e : SourceEntry). IsTrue (has_dir e.source.asked dir) → IsTrue (armed || hand))) is asked)

pub taken_stands : (bound : ℕ) (told : Option Interests) (core : CoreValue) (w : World) (key serial : ℕ) (e : SourceEntry) (begin : ℕ) (dir : Dir) (number : ℕ)
    → StandsWithin bound told core w → entry_at core.sources key ≡ Some e → serial_in w.live key ≡ Some serial → rounds_at w.begun begin ≡ number → HasBegun begin w.begun
    → StandsWithin bound told (with_source core key (with_state e (source_taken e.source dir number))) (without_waiters w serial begin dir)
taken_stands bound told core w key serial e begin dir number stands is found numbered has =
    let w' : World = without_waiters w serial begin dir in
    let e' : SourceEntry = with_state e (source_taken e.source dir number) in
    let given = serial_given w.live w.serials key serial stands.sound.live found in
    let before = source_found core w key serial e stands.sources is found in
    let aside : (other : ℕ) → other ≢ serial → (d : Dir) → facts_in w' other d ≡ facts_in w other d = λ other apart d. taken_aside w serial begin dir other d (serial_apart serial other dir d apart) in
    let now : SourceStands core.listeners e'.source (is_broken w serial) (facts_in w' serial) =
    direction_changes core.listeners e.source (is_broken w serial) (facts_in w serial) (facts_in w' serial) dir (source.handled number (direction_of e.source.directions dir)) before
    (taken_here core.listeners (direction_of e.source.directions dir) w serial begin dir number numbered (before.each dir))
    (λ d other. taken_aside w serial begin dir serial d (dir_apart serial dir d other)) in
    record {
      sources = λ k. ⊎_elim
          (λ (here : k ≡ key). subst (λ n. PlaceStands core.listeners (entry_at (slice_set core.sources key (Some e')) n) (serial_in w.live n) (is_broken w') (facts_in w')) (sym here)
          (subst (λ (place : Option SourceEntry). PlaceStands core.listeners place (serial_in w.live key) (is_broken w') (facts_in w')) (sym (place_here core.sources key e (Some e') is))
          (subst (λ (n : Option ℕ). PlaceStands core.listeners (Some e') n (is_broken w') (facts_in w')) (sym found) now)))
          (λ (apart : k ≢ key). subst (λ (place : Option SourceEntry). PlaceStands core.listeners place (serial_in w.live k) (is_broken w') (facts_in w')) (sym (place_aside core.sources key k (Some e') apart))
          (place_stands_aside core.listeners (entry_at core.sources k) (serial_in w.live k) (is_broken w) (is_broken w') (facts_in w) (facts_in w')
          (λ n there. record { broken_is = refl; facts_are = aside n (λ (same : n ≡ serial). apart (keys_agree w.live w.serials k key n serial stands.sound.live there found same)) }) (stands.sources k)))
          (cases_eq k key);
      count = stands.count ∙ sym (count_again core.sources key e e' is);
      tickets = tickets_taken bound core.sources key e e' is (drawn_same e.source dir number) stands.tickets;
      listeners = record {
        each = λ n. subst (ListenerStands w.live w.begun (value_of core.listeners n))
            (sym (mapped_found (cleared serial dir) (is_listener n) (is_listener n) (λ l. cleared_same (is_listener n) serial dir l refl) w.listeners))
            (listener_cleared w.live w.begun (value_of core.listeners n) (cleared serial dir) (find (is_listener n) w.listeners)
            (λ l. cleared_same (λ (l : ListenerEntry). l.serial) serial dir l refl) (λ l. cleared_same (λ (l : ListenerEntry). l.dir) serial dir l refl)
            (λ l. cleared_same (λ (l : ListenerEntry). l.position) serial dir l refl) (stands.listeners.each n));
        drawn_is = stands.listeners.drawn_is;
      };
      ticker_is = stands.ticker_is;
      book = stands.book;
      tells = stands.tells;
      asked = λ k d. ⊎_elim
          (λ (here : k ≡ key). subst (λ n. IfSome (entry_at (slice_set core.sources key (Some e')) n) (λ (e : SourceEntry). IsTrue (has_dir e.source.asked d) → IsTrue (is_armed w.armed n d || is_in_hand (hand_of w.round) n))) (sym here)
          (subst (λ (place : Option SourceEntry). IfSome place (λ (e : SourceEntry). IsTrue (has_dir e.source.asked d) → IsTrue (is_armed w.armed key d || is_in_hand (hand_of w.round) key))) (sym (place_here core.sources key e (Some e') is))
          (asked_place (entry_at core.sources key) e e' (is_armed w.armed key d) (is_in_hand (hand_of w.round) key) d is refl (stands.asked key d))))
          (λ (apart : k ≢ key). subst (λ (place : Option SourceEntry). IfSome place (λ (e : SourceEntry). IsTrue (has_dir e.source.asked d) → IsTrue (is_armed w.armed k d || is_in_hand (hand_of w.round) k))) (sym (place_aside core.sources key k (Some e') apart))
          (stands.asked k d))
          (cases_eq k key);
      round = stands.round;
      sound = record {
        live = stands.sound.live;
        unused = record {
          unbroken = stands.sound.unused.unbroken;
          nothing = λ other d more. aside other (λ (same : other ≡ serial). absurd (omega (arith, given, more, same))) d ∙ stands.sound.unused.nothing other d more;
        };
        listeners = sound_cleared serial dir w.listeners w.listeners_drawn w.serials stands.sound.listeners;
        past = record {
          counted = stands.sound.past.counted;
          rounds_before = stands.sound.past.rounds_before;
          marks_before = stands.sound.past.marks_before;
          polls_before = all_cleared (λ (l : ListenerEntry). IsBefore bound l.position) (λ (l : ListenerEntry). IsBefore bound l.position) serial dir w.listeners
              (λ l before. subst (IsBefore bound) (sym (cleared_same (λ (l : ListenerEntry). l.position) serial dir l refl)) before) stands.sound.past.polls_before;
          of_rounds = begun_more w.handled w.begun (record { serial = serial; dir = dir; begin = begin }) stands.sound.past.of_rounds has;
        };
        running = stands.sound.running;
        timers = stands.sound.timers;
      };
    }

-- ## All directions

-- the source with other directions
abbrev pub with_directions : SourceEntry → DirectionValues → SourceEntry
with_directions e ds = with_state e (record e.source { directions = ds })

-- what the taking of some directions leaves: the core stands on, with the same wakers taken
pub record Taken (bound : ℕ) (told : Option Interests) (core : CoreValue) (w w' : World) (key : ℕ) (e : SourceEntry) (ds : DirectionValues) (wakers taken : List Waker) : Type 0 where
  pub stands : StandsWithin bound told (with_source core key (with_directions e ds)) w'
  pub wakers_are : wakers ≡ taken
  pub round_is : w'.round ≡ w.round
  pub position_is : w'.pos ≡ w.pos
  pub moment_is : w'.now ≡ w.now
  pub live_is : w'.live ≡ w.live
  pub begun_is : w'.begun ≡ w.begun

along_step : (here : Bool) (on : Interest) (more : List Dir) (bound : ℕ) (told : Option Interests) (core : CoreValue) (w : World) (key serial : ℕ) (e : SourceEntry) (begin : ℕ) (dir : Dir) (number : ℕ)
    → StandsWithin bound told core w → entry_at core.sources key ≡ Some e → serial_in w.live key ≡ Some serial
    → (here ≡ true → let w1 : World = without_waiters w serial begin dir in let ds1 = (source_taken e.source dir number).directions in
    Taken bound told core w (world_taken w1 serial begin (filter (has_dir on) more)) key e (handled_along on number more ds1) (wakers_taken w1 serial begin (filter (has_dir on) more)) (taken_along on number more ds1))
    → (here ≡ false → Taken bound told core w (world_taken w serial begin (filter (has_dir on) more)) key e (handled_along on number more e.source.directions)
    (wakers_taken w serial begin (filter (has_dir on) more)) (taken_along on number more e.source.directions))
    → (let dirs = cond here (dir ∷ filter (has_dir on) more) (filter (has_dir on) more) in
    let d = direction_of e.source.directions dir in
    let ds = if here then source.with_direction e.source.directions dir (source.handled number d) else e.source.directions in
    Taken bound told core w (world_taken w serial begin dirs) key e (handled_along on number more ds) (wakers_taken w serial begin dirs) ((if here then source.waiters_of d else []) ++ taken_along on number more ds))
along_step true on more bound told core w key serial e begin dir number stands is found first second =
    let rest = first refl in
    let before = source_found core w key serial e stands.sources is found in
    let same = waiters_stand core.listeners (direction_of e.source.directions dir) w serial dir stands.sound.listeners.only_polled_hold (before.each dir) in
    record {
      stands = rest.stands;
      wakers_are = ap (λ (front : List Waker). front ++ wakers_taken (without_waiters w serial begin dir) serial begin (filter (has_dir on) more)) same
          ∙ ap (λ (later : List Waker). source.waiters_of (direction_of e.source.directions dir) ++ later) rest.wakers_are;
      round_is = rest.round_is;
      position_is = rest.position_is;
      moment_is = rest.moment_is;
      live_is = rest.live_is;
      begun_is = rest.begun_is;
    }
along_step false on more bound told core w key serial e begin dir number stands is found first second = second refl

pub along_stands : (on : Interest) (dirs : List Dir) (bound : ℕ) (told : Option Interests) (core : CoreValue) (w : World) (key serial : ℕ) (e : SourceEntry) (begin number : ℕ)
    → StandsWithin bound told core w → entry_at core.sources key ≡ Some e → serial_in w.live key ≡ Some serial → rounds_at w.begun begin ≡ number → HasBegun begin w.begun
    → Taken bound told core w (world_taken w serial begin (filter (has_dir on) dirs)) key e (handled_along on number dirs e.source.directions)
    (wakers_taken w serial begin (filter (has_dir on) dirs)) (taken_along on number dirs e.source.directions)
along_stands on [] bound told core w key serial e begin number stands is found numbered has = record {
  stands = subst (λ (sources : List (Option SourceEntry)). StandsWithin bound told (record core { sources = sources }) w) (sym (placed_again core.sources key e is)) stands;
  wakers_are = refl;
  round_is = refl;
  position_is = refl;
  moment_is = refl;
  live_is = refl;
  begun_is = refl;
}
along_stands on (dir ∷ dirs) bound told core w key serial e begin number stands is found numbered has =
    along_step (has_dir on dir) on dirs bound told core w key serial e begin dir number stands is found
    (λ here.
    let w1 : World = without_waiters w serial begin dir in
    let e1 : SourceEntry = with_state e (source_taken e.source dir number) in
    let one = taken_stands bound told core w key serial e begin dir number stands is found numbered has in
    let rest = along_stands on dirs bound told (with_source core key e1) w1 key serial e1 begin number one (place_here core.sources key e (Some e1) is) found numbered has in
    record {
      stands = subst (λ (sources : List (Option SourceEntry)). StandsWithin bound told (record core { sources = sources }) (world_taken w1 serial begin (filter (has_dir on) dirs)))
          (placed_twice core.sources key (Some e1) (Some (with_directions e1 (handled_along on number dirs e1.source.directions)))) rest.stands;
      wakers_are = rest.wakers_are;
      round_is = rest.round_is;
      position_is = rest.position_is;
      moment_is = rest.moment_is;
      live_is = rest.live_is;
      begun_is = rest.begun_is;
    })
    (λ other. along_stands on dirs bound told core w key serial e begin number stands is found numbered has)
