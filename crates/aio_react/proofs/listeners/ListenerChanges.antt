-- One listener of a core changes with its source, and the core stands on.
use Rattle.std.proofs.Common.{◌≡◌, ◌≢◌, ℕ, ◌≤◌, Bool, true, false, ◌&&◌, ◌||◌, IsTrue, List, map, find, filter, length, slice_set, Option, None, Some, IfSome, refl, sym, ap, ◌∙◌, subst, arith, ⊎_elim}
use Rattle.std.specs.List.{All, Contains}
use Rattle.std.proofs.lemmas.Bool.{cases_eq, false≢true}
use Rattle.aio_base.specs.declared.names.Dir.{Dir}
use Rattle.aio_base.specs.Devices.{Interests}
use Rattle.aio_base.specs.Machine.{is_listener, hand_of}
use Rattle.aio_base.specs.World.{World, ListenerEntry, is_armed, is_broken, is_of, has_dir}
use Rattle.aio_base.proofs.Membership.{filtered_is_in, filtered_passes}
use Rattle.aio_base.proofs.WaiterLemmas.{is_of-eq, is_of-from}
use Rattle.aio_source.specs.Rules.{direction_of, with_direction, with_source_direction}
use Rattle.aio_source.proofs.DirectionCases.{each_put}
use Rattle.aio_source.specs.Values.{DirectionValue, DirectionValues}
use Rattle.aio_react.specs.declared.entries.Listener.{Listener}
use Rattle.aio_react.specs.declared.entries.SourceEntry.{SourceEntry}
use Rattle.aio_react.specs.Cores.{CoreValue, entry_at}
use Rattle.aio_facts.specs.Facts.{Facts, facts_in, is_polled_of, serial_in}
use Rattle.aio_react.specs.Numbers.{value_of}
use Rattle.aio_react.specs.Standing.{DirectionStands, SourceStands, PlaceStands, ListenerStands, is_in_hand, polled_entry, ticket_in, StandsWithin}
use Rattle.aio_facts.specs.Sound.{ListenersSound, IsBefore}
use Rattle.aio_react.proofs.listeners.NewListeners.{each_place, mapped_same}
use Rattle.aio_react.proofs.sources.SourceChanges.{count_again, one_direction, place_here, place_aside, source_found}
use Rattle.aio_facts.proofs.Serials.{keys_agree, serial_given}
use Rattle.aio_facts.proofs.Waiting.{dir_apart, facts_are, serial_apart}

-- the world with other entries of listeners
abbrev pub with_entries : World → List ListenerEntry → World
with_entries w entries = record w { listeners = entries }

-- the core with another source at a key, and other listeners
abbrev pub with_heard : CoreValue → ℕ → SourceEntry → List (Option Listener) → CoreValue
with_heard core key e listeners = record core { sources = slice_set core.sources key (Some e); listeners = listeners }

-- a source with another direction, and so many listeners
abbrev pub with_ears : SourceEntry → Dir → DirectionValue → ℕ → SourceEntry
with_ears e dir d count = record { source = with_source_direction e.source dir d; listeners = count }

-- how one listener of a direction changes, with the direction and the entries of the world
pub record Hears (bound : ℕ) (core : CoreValue) (w : World) (serial number : ℕ) (dir : Dir) (new : DirectionValue) (listeners : List (Option Listener)) (entries : List ListenerEntry) : Type 0 where
  pub now : DirectionStands listeners new (facts_in (with_entries w entries) serial dir)
  pub drawn : new.listeners.drawn ≤ bound
  pub is_mine : (x : ListenerEntry) → Contains w.listeners x → x.number ≡ number → is_of serial dir x.serial x.dir ≡ true
  pub polled_aside : (n : ℕ) (d : Dir) → is_of serial dir n d ≡ false → filter (is_polled_of n d) entries ≡ filter (is_polled_of n d) w.listeners
  pub values_aside : (n : ℕ) → n ≢ number → value_of listeners n ≡ value_of core.listeners n
  pub each : (n : ℕ) → ListenerStands w.live w.begun (value_of listeners n) (find (is_listener n) entries)
  pub length_is : length listeners ≡ length core.listeners
  pub sound : ListenersSound entries w.listeners_drawn w.serials
  pub before : All (λ (l : ListenerEntry). IsBefore bound l.position) entries

-- ## Other directions

polled_is_of : (here polled : Bool) → (here && polled) ≡ true → here ≡ true
polled_is_of true polled is = refl
polled_is_of false polled is = absurd (false≢true is)

-- a polled entry of another direction does not have the number
pub numbered_aside : (ls : List ListenerEntry) (serial number : ℕ) (dir : Dir) (n : ℕ) (d : Dir) → is_of serial dir n d ≡ false
    → ((x : ListenerEntry) → Contains ls x → x.number ≡ number → is_of serial dir x.serial x.dir ≡ true)
    → (x : ListenerEntry) → Contains (filter (is_polled_of n d) ls) x → x.number ≢ number
numbered_aside ls serial number dir n d off mine x among same =
    let there = is_of-eq n d x.serial x.dir (polled_is_of (is_of n d x.serial x.dir) _ (filtered_passes (is_polled_of n d) ls x among)) in
    let here = is_of-eq serial dir x.serial x.dir (mine x (filtered_is_in (is_polled_of n d) ls x among) same) in
    false≢true (sym off ∙ is_of-from serial dir n d (sym there.0 ∙ here.0) (sym there.1 ∙ here.1))

-- entries that do not have the number are of the tickets that they were of
pub entries_aside : (listeners listeners' : List (Option Listener)) (number : ℕ) (ls : List ListenerEntry) → ((n : ℕ) → n ≢ number → value_of listeners' n ≡ value_of listeners n)
    → ((x : ListenerEntry) → Contains ls x → x.number ≢ number) → map (polled_entry listeners') ls ≡ map (polled_entry listeners) ls
entries_aside listeners listeners' number ls aside others =
    mapped_same (polled_entry listeners') (polled_entry listeners) ls
    (λ x among. ap (λ (value : Option Listener). (ticket_in value, x.waker)) (aside x.number (others x among)))

direction_aside : (bound : ℕ) (core : CoreValue) (w : World) (serial number : ℕ) (dir : Dir) (new : DirectionValue) (listeners : List (Option Listener)) (entries : List ListenerEntry) (n : ℕ) (d : Dir)
    (v : DirectionValue) → Hears bound core w serial number dir new listeners entries → is_of serial dir n d ≡ false → DirectionStands core.listeners v (facts_in w n d)
    → DirectionStands listeners v (facts_in (with_entries w entries) n d)
direction_aside bound core w serial number dir new listeners entries n d v c off stands = record {
  waiter_is = stands.waiter_is;
  tick_is = stands.tick_is;
  remembers = stands.remembers;
  entries_are = ap (λ (ls : List ListenerEntry). map (polled_entry listeners) ls) (c.polled_aside n d off)
      ∙ entries_aside core.listeners listeners number (filter (is_polled_of n d) w.listeners) c.values_aside (numbered_aside w.listeners serial number dir n d off c.is_mine) ∙ stands.entries_are;
}

place_on : (listeners listeners' : List (Option Listener)) (place : Option SourceEntry) (serial : Option ℕ) (broken : ℕ → Bool) (facts facts' : ℕ → Dir → Facts)
    → ((n : ℕ) → serial ≡ Some n → (d : Dir) (v : DirectionValue) → DirectionStands listeners v (facts n d) → DirectionStands listeners' v (facts' n d))
    → PlaceStands listeners place serial broken facts → PlaceStands listeners' place serial broken facts'
place_on listeners listeners' None None broken facts facts' each stands = tt
place_on listeners listeners' None (Some n) broken facts facts' each stands = absurd stands
place_on listeners listeners' (Some e) None broken facts facts' each stands = absurd stands
place_on listeners listeners' (Some e) (Some n) broken facts facts' each stands = record {
  each = λ d. each n refl d (direction_of e.source.directions d) (stands.each d);
  broken_is = stands.broken_is;
}

few_direction : (bound : ℕ) (ds : DirectionValues) (dir : Dir) (new : DirectionValue) (d : Dir) → new.listeners.drawn ≤ bound → (direction_of ds d).listeners.drawn ≤ bound
    → (direction_of (with_direction ds dir new) d).listeners.drawn ≤ bound
few_direction bound ds dir new d here =
    each_put (λ d v. (direction_of ds d).listeners.drawn ≤ bound → v.listeners.drawn ≤ bound) ds dir new (λ old. here) (λ d other old. old) d

-- ## The whole

pub listener_changes : (bound : ℕ) (told : Option Interests) (core : CoreValue) (w : World) (key serial number : ℕ) (dir : Dir) (e : SourceEntry) (new : DirectionValue) (count : ℕ)
    (listeners : List (Option Listener)) (entries : List ListenerEntry)
    → StandsWithin bound told core w → entry_at core.sources key ≡ Some e → serial_in w.live key ≡ Some serial
    → Hears bound core w serial number dir new listeners entries
    → StandsWithin bound told (with_heard core key (with_ears e dir new count) listeners) (with_entries w entries)
listener_changes bound told core w key serial number dir e new count listeners entries stands is found c =
    let w' : World = with_entries w entries in
    let e' : SourceEntry = with_ears e dir new count in
    let given = serial_given w.live w.serials key serial stands.sound.live found in
    let before = source_found core w key serial e stands.sources is found in
    let here : SourceStands listeners e'.source (is_broken w serial) (facts_in w' serial) = record {
      each = one_direction listeners (facts_in w' serial) e.source.directions dir new c.now
          (λ d other. direction_aside bound core w serial number dir new listeners entries serial d (direction_of e.source.directions d) c (dir_apart serial dir d other) (before.each d));
      broken_is = before.broken_is;
    } in
    record {
      sources = λ k. ⊎_elim
          (λ (same : k ≡ key). subst (λ n. PlaceStands listeners (entry_at (slice_set core.sources key (Some e')) n) (serial_in w.live n) (is_broken w) (facts_in w')) (sym same)
          (subst (λ (place : Option SourceEntry). PlaceStands listeners place (serial_in w.live key) (is_broken w) (facts_in w')) (sym (place_here core.sources key e (Some e') is))
          (subst (λ (n : Option ℕ). PlaceStands listeners (Some e') n (is_broken w) (facts_in w')) (sym found) here)))
          (λ (apart : k ≢ key). subst (λ (place : Option SourceEntry). PlaceStands listeners place (serial_in w.live k) (is_broken w) (facts_in w')) (sym (place_aside core.sources key k (Some e') apart))
          (place_on core.listeners listeners (entry_at core.sources k) (serial_in w.live k) (is_broken w) (facts_in w) (facts_in w')
          (λ n there d v stood. direction_aside bound core w serial number dir new listeners entries n d v c
          (serial_apart serial n dir d (λ (same : n ≡ serial). apart (keys_agree w.live w.serials k key n serial stands.sound.live there found same))) stood) (stands.sources k)))
          (cases_eq k key);
      count = stands.count ∙ sym (count_again core.sources key e e' is);
      tickets = λ k d. each_place (λ k place. IfSome place (λ (e : SourceEntry). (direction_of e.source.directions d).listeners.drawn ≤ bound)) core.sources key e e' is
          (λ few. few_direction bound e.source.directions dir new d c.drawn few) (λ k. stands.tickets k d) k;
      listeners = record { each = c.each; drawn_is = stands.listeners.drawn_is ∙ sym c.length_is };
      ticker_is = stands.ticker_is;
      book = stands.book;
      tells = stands.tells;
      asked = λ k d. each_place (λ k place. IfSome place (λ (e : SourceEntry). IsTrue (has_dir e.source.asked d) → IsTrue (is_armed w.armed k d || is_in_hand (hand_of w.round) k))) core.sources key e e' is
          (λ asks. asks) (λ k. stands.asked k d) k;
      round = stands.round;
      sound = record {
        live = stands.sound.live;
        unused = record {
          unbroken = stands.sound.unused.unbroken;
          nothing = λ n d more. facts_are _ _ refl refl refl (c.polled_aside n d (serial_apart serial n dir d (λ (same : n ≡ serial). absurd (omega (arith, given, more, same))))) ∙ stands.sound.unused.nothing n d more;
        };
        listeners = c.sound;
        past = record {
          counted = stands.sound.past.counted;
          rounds_before = stands.sound.past.rounds_before;
          marks_before = stands.sound.past.marks_before;
          polls_before = c.before;
          of_rounds = stands.sound.past.of_rounds;
        };
        running = stands.sound.running;
        timers = stands.sound.timers;
      };
    }
