-- An `add` of a core meets the machine's, whatever the poller answered.
use Rattle.std.proofs.Common.{◌≡◌, ◌≢◌, ℕ, ◌+◌, ◌<◌, ◌≤◌, Bool, true, false, ◌||◌, if◌then◌else◌, nat_le, IsTrue, List, [], ◌∷◌, ◌++◌, length, Option, None, Some, IfSome, is_some, Result, Ok, Err, refl, sym, ap, ◌∙◌, subst, ⊎_elim, arith, length-append}
use Rattle.std.proofs.lemmas.Bool.{cases_eq, ne_eqb}
use Rattle.std.proofs.lemmas.Bool.Decides.{nat_tests}
use Rattle.std.proofs.lemmas.List.Elements.{All-push, All-weaker}
use Rattle.aio_base.specs.declared.names.Dir.{Dir}
use Rattle.aio_base.specs.declared.names.Event.{Event}
use Rattle.aio_base.specs.declared.names.Key.{Key}
use Rattle.aio_base.specs.declared.outcomes.Failed.{Failed}
use Rattle.aio_base.specs.declared.outcomes.Waited.{Waited}
use Rattle.aio_base.specs.declared.steps.Answer.TheVariants as replies
use Rattle.aio_base.specs.declared.steps.Step.TheVariants as step
use Rattle.aio_base.specs.Devices.{Interests, ArmCall, AddOf, Arms, Becomes, WaitCall, PollerMove, Armed, PollerStep}
use Rattle.aio_base.specs.Machine.{Outcome, add, is_live, moved_on, quiet, step_result, hand_of}
use Rattle.aio_base.specs.Machine as machine
use Rattle.aio_base.specs.World.{World, ArmedDirection, LiveSource, ListenerEntry, set_armed, is_armed, is_broken, has_dir}
use Rattle.aio_base.proofs.DirectionLemmas.{none_has}
use Rattle.aio_source.specs.Rules.{new_direction, new_directions, direction_of}
use Rattle.aio_source.proofs.DirectionCases.{each_new}
use Rattle.aio_source.specs.Values.{DirectionValue}
use Rattle.aio_react.specs.declared.entries.Listener.{Listener}
use Rattle.aio_react.specs.declared.entries.SourceEntry.{SourceEntry}
use Rattle.aio_react.specs.Cores.{CoreValue, entry_at}
use Rattle.aio_facts.specs.Facts.{Facts, facts_in, no_facts, serial_in}
use Rattle.aio_react.specs.Meeting.{Meets}
use Rattle.aio_react.specs.Sources.{free_key, placed, new_entry, with_sources}
use Rattle.aio_react.specs.Standing.{count_entries, AreAsked, DirectionStands, SourceStands, PlaceStands, ListenerStands, Stands, StandsWithin, is_in_hand}
use Rattle.aio_facts.specs.Armed.{AgreesWithArmed}
use Rattle.aio_facts.proofs.Arrivals.{distinct_push, not_given, serial_of_next, serial_of_other, serial_stays}
use Rattle.aio_react.proofs.sources.Clearing.{unset_is, unset_tells}
use Rattle.aio_react.proofs.steps.Later.{stands_later, quiet_comes}
use Rattle.aio_react.proofs.sources.Living.{live_stands}
use Rattle.aio_source.proofs.KeyPlaces.{free_within}
use Rattle.aio_react.proofs.sources.Places.{free_few, free_is_none, below_free, placed_here, placed_elsewhere, placed_count, each_placed}

-- ## The key

found_here : (live : List LiveSource) (n key : ℕ) (here : Bool) (later : ℕ) → is_live live key ≡ here → key ≤ n → (key < n → is_live live key ≡ true)
    → is_live live n ≡ false → (key < n → later ≡ n) → (if here then later else key) ≡ n
found_here live n key true later lives within below at rest =
    ⊎_elim (λ (same : key ≡ n). let both : true ≡ false = sym lives ∙ ap (is_live live) same ∙ at in absurd (cc)) (λ (apart : key ≢ n). rest (omega arith)) (cases_eq key n)
found_here live n key false later lives within below at rest =
    ⊎_elim (λ (same : key ≡ n). same) (λ (apart : key ≢ n). let both : false ≡ true = sym lives ∙ below (omega arith) in absurd (cc)) (cases_eq key n)

-- the machine's search ends at a key that is not live, below which all are
search_ends : (live : List LiveSource) (n : ℕ) → ((key : ℕ) → key < n → is_live live key ≡ true) → is_live live n ≡ false
    → (fuel : List LiveSource) (key : ℕ) → key ≤ n → n ≤ key + length fuel → machine.free_key_from key live fuel ≡ n
search_ends live n below at [] key within enough = omega arith
search_ends live n below at (s ∷ fuel) key within enough =
    found_here live n key (is_live live key) (machine.free_key_from (key + 1) live fuel) refl within (below key) at
    (λ later. search_ends live n below at fuel (key + 1) (omega arith) (omega arith))

same_key : (told : Option Interests) (core : CoreValue) (w : World) → Stands told core w → machine.free_key w.live ≡ free_key core.sources
same_key told core w stands =
    let n = free_key core.sources in
    let count = stands.count in
    search_ends w.live n (λ key below. sym (live_stands told core w key stands) ∙ below_free core.sources key below)
    (sym (live_stands told core w n stands) ∙ ap is_some (free_is_none core.sources)) w.live 0 (omega arith) (omega (arith, free_few core.sources, count))

pub no_serial : (listeners : List (Option Listener)) (place : Option SourceEntry) (serial : Option ℕ) (broken : ℕ → Bool) (facts : ℕ → Dir → Facts)
    → PlaceStands listeners place serial broken facts → place ≡ None → serial ≡ None
no_serial listeners None None broken facts stands none = refl
no_serial listeners None (Some serial) broken facts stands none = absurd stands
no_serial listeners (Some e) serial broken facts stands none = absurd (cc)

-- ## A source that came

new_direction_stands : (listeners : List (Option Listener)) (d : DirectionValue) (f : Facts) → f ≡ no_facts → d ≡ new_direction → DirectionStands listeners d f
new_direction_stands listeners d f nothing fresh = rw (nothing, fresh) (record { waiter_is = refl; tick_is = refl; remembers = tt; entries_are = refl })

few_new : (bound : ℕ) (dir : Dir) → (direction_of new_directions dir).listeners.drawn ≤ bound
few_new bound dir = subst (λ (d : DirectionValue). d.listeners.drawn ≤ bound) (sym (each_new dir)) (omega arith)

none_asked : (key : Key) (dir : Dir) (R : Type 0) → IsTrue (has_dir (new_entry key).source.asked dir) → R
none_asked key dir R asked = let has = none_has dir in absurd (cc)

registered : (listeners : List (Option Listener)) (live : List LiveSource) (next : LiveSource) (begun : List ℕ) (l : Option Listener) (entry : Option ListenerEntry)
    → ListenerStands live begun l entry → ListenerStands (live ++ next ∷ []) begun l entry
registered listeners live next begun None None stands = tt
registered listeners live next begun None (Some entry) stands = absurd stands
registered listeners live next begun (Some l) None stands = absurd stands
registered listeners live next begun (Some l) (Some entry) stands = (serial_stays live next l.key.0 entry.serial stands.0, stands.1, stands.2)

abbrev next_live : World → ℕ → LiveSource
next_live w key = record { key = key; serial = w.serials + 1 }

abbrev world_added : World → ℕ → World
world_added w key = record w {
  live = w.live ++ next_live w key ∷ [];
  serials = w.serials + 1;
  armed = set_armed w.armed key [];
}

pub other_asked : (place : Option SourceEntry) (armed : List ArmedDirection) (key k : ℕ) (dir : Dir) (in_hand : Bool) → k ≢ key
    → IfSome place (λ (e : SourceEntry). IsTrue (has_dir e.source.asked dir) → IsTrue (is_armed armed k dir || in_hand))
    → IfSome place (λ (e : SourceEntry). IsTrue (has_dir e.source.asked dir) → IsTrue (is_armed (set_armed armed key []) k dir || in_hand))
other_asked None armed key k dir in_hand apart asked = tt
other_asked (Some e) armed key k dir in_hand apart asked = rw (unset_is armed key k dir, ne_eqb k key apart) asked

added_asked : (core : CoreValue) (w : World) (key : Key) → key.0 ≤ length core.sources → AreAsked core.sources w.armed (hand_of w.round)
    → AreAsked (placed core.sources key.0 (new_entry key)) (set_armed w.armed key.0 []) (hand_of w.round)
added_asked core w key within asked k dir =
    let Wants : ℕ → SourceEntry → Type 0 = λ k e. IsTrue (has_dir e.source.asked dir) → IsTrue (is_armed (set_armed w.armed key.0 []) k dir || is_in_hand (hand_of w.round) k) in
    ⊎_elim
    (λ (same : k ≡ key.0). subst (λ (k : ℕ). IfSome (entry_at (placed core.sources key.0 (new_entry key)) k) (Wants k)) (sym same)
    (subst (λ (place : Option SourceEntry). IfSome place (Wants key.0)) (sym (placed_here core.sources key.0 (new_entry key) within)) (none_asked key dir _)))
    (λ (apart : k ≢ key.0). subst (λ (place : Option SourceEntry). IfSome place (Wants k)) (sym (placed_elsewhere core.sources key.0 k (new_entry key) within apart))
    (other_asked (entry_at core.sources k) w.armed key.0 k dir (is_in_hand (hand_of w.round) k) apart (asked k dir)))
    (cases_eq k key.0)

added_place : (told : Option Interests) (core : CoreValue) (w : World) (key : Key) → Stands told core w → key.0 ≤ length core.sources → serial_in w.live key.0 ≡ None
    → (k : ℕ) → PlaceStands core.listeners (entry_at (placed core.sources key.0 (new_entry key)) k) (serial_in (w.live ++ next_live w key.0 ∷ []) k) (is_broken w) (facts_in w)
added_place told core w key stands within none k =
    let fresh : SourceStands core.listeners (new_entry key).source (is_broken w (w.serials + 1)) (facts_in w (w.serials + 1)) = record {
      each = λ dir. new_direction_stands core.listeners (direction_of new_directions dir) (facts_in w (w.serials + 1) dir)
          (stands.sound.unused.nothing (w.serials + 1) dir (omega arith)) (each_new dir);
      broken_is = stands.sound.unused.unbroken (w.serials + 1) (omega arith);
    } in
    ⊎_elim
    (λ (same : k ≡ key.0). rw (same, placed_here core.sources key.0 (new_entry key) within, serial_of_next w.live (next_live w key.0) none) fresh)
    (λ (apart : k ≢ key.0). rw (placed_elsewhere core.sources key.0 k (new_entry key) within apart, serial_of_other w.live (next_live w key.0) k apart) (stands.sources k))
    (cases_eq k key.0)

added_stands : (told told' : Option Interests) (core : CoreValue) (w : World) (key : Key) → Stands told core w → key.0 ≤ length core.sources
    → entry_at core.sources key.0 ≡ None → AgreesWithArmed told' (set_armed w.armed key.0 [])
    → StandsWithin w.pos told' (with_sources core (placed core.sources key.0 (new_entry key))) (world_added w key.0)
added_stands told told' core w key stands within free tells =
    let next = next_live w key.0 in
    let none = no_serial core.listeners (entry_at core.sources key.0) (serial_in w.live key.0) (is_broken w) (facts_in w) (stands.sources key.0) free in
    let unlive : is_live w.live key.0 ≡ false = sym (live_stands told core w key.0 stands) ∙ ap is_some free in
    record {
      sources = added_place told core w key stands within none;
      count = length-append w.live (next ∷ []) ∙ ap (λ (n : ℕ). n + 1) stands.count ∙ sym (placed_count core.sources key.0 (new_entry key) within free);
      tickets = λ k dir. each_placed core.sources key.0 (new_entry key) (λ k e. (direction_of e.source.directions dir).listeners.drawn ≤ w.pos) within (few_new w.pos dir)
          (λ k. stands.tickets k dir) k;
      listeners = record {
        each = λ number. registered core.listeners w.live next w.begun _ _ (stands.listeners.each number);
        drawn_is = stands.listeners.drawn_is;
      };
      ticker_is = stands.ticker_is;
      book = stands.book;
      tells = tells;
      asked = added_asked core w key within stands.asked;
      round = stands.round;
      sound = record {
        live = record {
          keys = distinct_push (λ (s : LiveSource). s.key) w.live next stands.sound.live.keys unlive;
          serials_differ = distinct_push (λ (s : LiveSource). s.serial) w.live next stands.sound.live.serials_differ
              (not_given w.live w.serials (w.serials + 1) stands.sound.live.given (omega arith));
          given = All-push (λ (s : LiveSource). s.serial ≤ w.serials + 1) w.live next
              (All-weaker (λ (s : LiveSource). s.serial ≤ w.serials) (λ (s : LiveSource). s.serial ≤ w.serials + 1) (λ s h. omega arith) w.live stands.sound.live.given) (omega arith);
        };
        unused = record {
          unbroken = λ serial later. stands.sound.unused.unbroken serial (omega arith);
          nothing = λ serial dir later. stands.sound.unused.nothing serial dir (omega arith);
        };
        listeners = record {
          numbers = stands.sound.listeners.numbers;
          given = stands.sound.listeners.given;
          registered = All-weaker (λ (l : ListenerEntry). l.serial ≤ w.serials) (λ (l : ListenerEntry). l.serial ≤ w.serials + 1) (λ l h. omega arith) w.listeners stands.sound.listeners.registered;
          only_polled_hold = stands.sound.listeners.only_polled_hold;
        };
        past = stands.sound.past;
        running = stands.sound.running;
        timers = stands.sound.timers;
      };
    }

-- ## What the poller tells

tells_added : (old new : Option Interests) (armed : List ArmedDirection) (key : Key) → AgreesWithArmed old armed → Arms old (AddOf key) (Ok tt) new → AgreesWithArmed new (set_armed armed key.0 [])
tells_added None None armed key tells arms = tt
tells_added None (Some new) armed key tells arms = absurd arms
tells_added (Some old) None armed key tells arms = absurd arms
tells_added (Some old) (Some new) armed key tells arms = λ k. arms k ∙ unset_tells old armed key.0 tells k

-- a call that failed left what it tells
pub tells_still : (old new : Option Interests) (armed : List ArmedDirection) → AgreesWithArmed old armed → Becomes old new (λ interests. interests) → AgreesWithArmed new armed
tells_still None None armed tells same = tt
tells_still None (Some new) armed tells same = absurd same
tells_still (Some old) None armed tells same = absurd same
tells_still (Some old) (Some new) armed tells same = λ k. same k ∙ tells k

pub stands_telling : (told told' : Option Interests) (core : CoreValue) (w : World) → Stands told core w → AgreesWithArmed told' w.armed → Stands told' core w
stands_telling told told' core w stands tells = record {
  sources = stands.sources;
  count = stands.count;
  tickets = stands.tickets;
  listeners = stands.listeners;
  ticker_is = stands.ticker_is;
  book = stands.book;
  tells = tells;
  asked = stands.asked;
  round = stands.round;
  sound = stands.sound;
}

-- ## The step

is_full : (told : Option Interests) (core : CoreValue) (w : World) → Stands told core w → 4096 ≤ free_key core.sources → nat_le 4096 (length w.live) ≡ true
is_full told core w stands full = let count = stands.count in let few = free_few core.sources in grind (arith, nat_tests)

has_room : (told : Option Interests) (core : CoreValue) (w : World) → Stands told core w → count_entries core.sources < 4096 → nat_le 4096 (length w.live) ≡ false
has_room told core w stands few = let count = stands.count in grind (arith, nat_tests)

-- with 4,096 sources
pub full_meets : {P : Type 0} (poller_step : P → PollerMove → P → Type 0) (tells : P → Option Interests) (poller : P) (core : CoreValue) → 4096 ≤ free_key core.sources
    → Meets poller_step tells step.Add None replies.Full [] None (poller, core) (poller, core)
full_meets {P = P} poller_step tells poller core full = record {
  moves = [];
  run = refl;
  waits = tt;
  comes = λ w later stands now.
      quiet_comes (tells poller) core w step.Add replies.Full later (rw (is_full (tells poller) core w stands full) refl) stands;
}

-- where the poller registered the source
pub added_meets : {P : Type 0} (arm_step : P → ArmCall → Result (Unit {0}) Failed → P → Type 0) (wait_step : P → WaitCall → Result Waited Failed → List Event → P → Type 0)
    (tells : P → Option Interests) (old new : P) (core : CoreValue) (key : Key) → key.0 ≡ free_key core.sources → count_entries core.sources < 4096
    → arm_step old (AddOf key) (Ok tt) new → Arms (tells old) (AddOf key) (Ok tt) (tells new)
    → Meets (PollerStep arm_step wait_step) tells step.Add None (replies.KeyIs key) [] None (old, core) (new, with_sources core (placed core.sources key.0 (new_entry key)))
unfolding step_result
added_meets {P = P} arm_step wait_step tells old new core key is few did arms = record {
  moves = Armed (AddOf key) (Ok tt) ∷ [];
  run = (new, did, refl);
  waits = tt;
  comes = λ w later stands now.
      let within : key.0 ≤ length core.sources = omega (arith, free_within core.sources) in
      let free : entry_at core.sources key.0 ≡ None = ap (entry_at core.sources) is ∙ free_is_none core.sources in
      rw (has_room (tells old) core w stands few, same_key (tells old) core w stands ∙ sym is) (record {
        answer_is = refl;
        wakes_are = refl;
        calls_are = refl;
        left_are = refl;
        stands = stands_later (tells new) (with_sources core (placed core.sources key.0 (new_entry key))) (world_added w key.0)
            (added_stands (tells old) (tells new) core w key stands within free (tells_added (tells old) (tells new) w.armed key stands.tells arms));
      });
}

-- where it failed to
pub unadded_meets : {P : Type 0} (arm_step : P → ArmCall → Result (Unit {0}) Failed → P → Type 0) (wait_step : P → WaitCall → Result Waited Failed → List Event → P → Type 0)
    (tells : P → Option Interests) (old new : P) (core : CoreValue) (key : Key) → count_entries core.sources < 4096
    → arm_step old (AddOf key) (Err (record {})) new → Arms (tells old) (AddOf key) (Err (record {})) (tells new)
    → Meets (PollerStep arm_step wait_step) tells step.Add None replies.FaultAdd [] None (old, core) (new, core)
unfolding step_result
unadded_meets {P = P} arm_step wait_step tells old new core key few did arms = record {
  moves = Armed (AddOf key) (Err (record {})) ∷ [];
  run = (new, did, refl);
  waits = tt;
  comes = λ w later stands now.
      rw (has_room (tells old) core w stands few) (record {
        answer_is = refl;
        wakes_are = refl;
        calls_are = refl;
        left_are = refl;
        stands = stands_later (tells new) core w (stands_telling (tells old) (tells new) core w stands (tells_still (tells old) (tells new) w.armed stands.tells arms));
      });
}
