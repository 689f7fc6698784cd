-- One source of a core changes, and the core stands on.
use Rattle.std.proofs.Common.{◌≡◌, ◌≢◌, ℕ, zero, suc, ◌+◌, ◌<◌, ◌≤◌, Bool, false, ◌||◌, IsTrue, List, [], ◌∷◌, slice_set, slice_index_or, Option, None, Some, IfSome, refl, sym, ap, ◌∙◌, subst, arith, ⊎_elim, get_or-set_other}
use Rattle.std.specs.List.{All}
use Rattle.std.proofs.lemmas.Bool.{cases_eq}
use Rattle.aio_base.specs.declared.names.Dir.{Dir}
use Rattle.aio_base.specs.Devices.{Interests}
use Rattle.aio_base.specs.Machine.{hand_of}
use Rattle.aio_base.specs.World.{World, PollWaiter, Mark, BrokenSource, ArmedDirection, is_armed, is_broken, has_dir, same_dir}
use Rattle.aio_source.specs.Values.{DirectionValue, DirectionValues, SourceValue}
use Rattle.aio_source.specs.Rules.{direction_of, with_direction, with_source_direction}
use Rattle.aio_source.proofs.DirectionCases.{each_put}
use Rattle.aio_react.specs.declared.entries.Listener.{Listener}
use Rattle.aio_react.specs.declared.entries.SourceEntry.{SourceEntry}
use Rattle.aio_react.specs.Cores.{CoreValue, entry_at}
use Rattle.aio_facts.specs.Facts.{Facts, facts_in, serial_in}
use Rattle.aio_react.specs.Standing.{DirectionStands, SourceStands, PlaceStands, SourcesStand, count_entries, AreFewTickets, is_in_hand, StandsWithin}
use Rattle.aio_facts.specs.Armed.{AgreesWithArmed}
use Rattle.aio_facts.proofs.Serials.{keys_agree, serial_given}

-- ## Places

module _ {X : Type 0} where
  pub place_here : (xs : List (Option X)) (key : ℕ) (x : X) (place : Option X) → slice_index_or xs key None ≡ Some x → slice_index_or (slice_set xs key place) key None ≡ place
  place_here [] key x place is = absurd (cc)
  place_here (p ∷ xs) zero x place is = refl
  place_here (p ∷ xs) (suc key) x place is = place_here xs key x place is

  pub place_aside : (xs : List (Option X)) (key k : ℕ) (place : Option X) → k ≢ key → slice_index_or (slice_set xs key place) k None ≡ slice_index_or xs k None
  place_aside xs key k place apart = get_or-set_other xs key k place None apart

  pub placed_twice : (xs : List (Option X)) (key : ℕ) (a b : Option X) → slice_set (slice_set xs key a) key b ≡ slice_set xs key b
  placed_twice [] key a b = refl
  placed_twice (x ∷ xs) zero a b = refl
  placed_twice (x ∷ xs) (suc key) a b = ap (λ (ys : List (Option X)). x ∷ ys) (placed_twice xs key a b)

  pub placed_again : (xs : List (Option X)) (key : ℕ) (x : X) → slice_index_or xs key None ≡ Some x → slice_set xs key (Some x) ≡ xs
  placed_again [] key x is = refl
  placed_again (p ∷ xs) zero x is = ap (λ (place : Option X). place ∷ xs) (sym is)
  placed_again (p ∷ xs) (suc key) x is = ap (λ (ys : List (Option X)). p ∷ ys) (placed_again xs key x is)

pub count_again : (sources : List (Option SourceEntry)) (key : ℕ) (e new : SourceEntry) → entry_at sources key ≡ Some e → count_entries (slice_set sources key (Some new)) ≡ count_entries sources
count_again [] key e new is = refl
count_again (None ∷ sources) zero e new is = absurd (cc)
count_again (Some old ∷ sources) zero e new is = refl
count_again (None ∷ sources) (suc key) e new is = count_again sources key e new is
count_again (Some old ∷ sources) (suc key) e new is = ap (λ n. n + 1) (count_again sources key e new is)

-- ## Other sources

-- the same is known of a serial
pub record IsAside (broken broken' : ℕ → Bool) (facts facts' : ℕ → Dir → Facts) (serial : ℕ) : Type 0 where
  pub broken_is : broken' serial ≡ broken serial
  pub facts_are : (dir : Dir) → facts' serial dir ≡ facts serial dir

stands_aside : (listeners : List (Option Listener)) (s : SourceValue) (broken broken' : ℕ → Bool) (facts facts' : ℕ → Dir → Facts) (serial : ℕ) → IsAside broken broken' facts facts' serial
    → SourceStands listeners s (broken serial) (facts serial) → SourceStands listeners s (broken' serial) (facts' serial)
stands_aside listeners s broken broken' facts facts' serial aside stands = record {
  each = λ dir. subst (DirectionStands listeners (direction_of s.directions dir)) (sym (aside.facts_are dir)) (stands.each dir);
  broken_is = aside.broken_is ∙ stands.broken_is;
}

pub place_stands_aside : (listeners : List (Option Listener)) (place : Option SourceEntry) (serial : Option ℕ) (broken broken' : ℕ → Bool) (facts facts' : ℕ → Dir → Facts)
    → ((n : ℕ) → serial ≡ Some n → IsAside broken broken' facts facts' n) → PlaceStands listeners place serial broken facts → PlaceStands listeners place serial broken' facts'
place_stands_aside listeners None None broken broken' facts facts' aside stands = tt
place_stands_aside listeners None (Some serial) broken broken' facts facts' aside stands = absurd stands
place_stands_aside listeners (Some e) None broken broken' facts facts' aside stands = absurd stands
place_stands_aside listeners (Some e) (Some serial) broken broken' facts facts' aside stands = stands_aside listeners e.source broken broken' facts facts' serial (aside serial refl) stands

-- what a world has of the source of a key
pub source_found : (core : CoreValue) (w : World) (key serial : ℕ) (e : SourceEntry) → SourcesStand core.sources core.listeners w.live (is_broken w) (facts_in w)
    → entry_at core.sources key ≡ Some e → serial_in w.live key ≡ Some serial → SourceStands core.listeners e.source (is_broken w serial) (facts_in w serial)
source_found core w key serial e stands is found =
    subst (λ (place : Option SourceEntry). PlaceStands core.listeners place (Some serial) (is_broken w) (facts_in w)) is
    (subst (λ (n : Option ℕ). PlaceStands core.listeners (entry_at core.sources key) n (is_broken w) (facts_in w)) found (stands key))

-- ## The change

-- the core with another state of the source of a key
abbrev pub with_state : SourceEntry → SourceValue → SourceEntry
with_state e s = record e { source = s }

abbrev pub with_source : CoreValue → ℕ → SourceEntry → CoreValue
with_source core key e = record core { sources = slice_set core.sources key (Some e) }

-- the world with other poll waiters, marks, broken sources and interests
abbrev pub with_parts : World → List PollWaiter → List Mark → List BrokenSource → List ArmedDirection → World
with_parts w waiters marks broken armed = record w { poll_waiters = waiters; marks = marks; broken = broken; armed = armed }

-- each direction has the listeners that it had
abbrev pub KeepsListeners : SourceValue → SourceValue → Type 0
KeepsListeners s new = (dir : Dir) → (direction_of new.directions dir).listeners ≡ (direction_of s.directions dir).listeners

-- what the source of a key asked for is armed, or an event of it is in hand
abbrev pub IsAsked : SourceValue → ℕ → World → Type 0
IsAsked s key w = (dir : Dir) → IsTrue (has_dir s.asked dir) → IsTrue (is_armed w.armed key dir || is_in_hand (hand_of w.round) key)

-- how one source and the world change together
pub record Changes (bound : ℕ) (told' : Option Interests) (core : CoreValue) (w w' : World) (key serial : ℕ) (s new : SourceValue) : Type 0 where
  pub now : SourceStands core.listeners new (is_broken w' serial) (facts_in w' serial)
  pub listeners : KeepsListeners s new
  pub aside : (other : ℕ) → other ≢ serial → IsAside (is_broken w) (is_broken w') (facts_in w) (facts_in w') other
  pub armed_aside : (k : ℕ) (dir : Dir) → k ≢ key → is_armed w'.armed k dir ≡ is_armed w.armed k dir
  pub marks_before : All (λ (m : Mark). m.position < bound) w'.marks
  pub tells : AgreesWithArmed told' w'.armed
  pub asked : IsAsked new key w'

pub few_at : (bound : ℕ) (place : Option SourceEntry) (e : SourceEntry) (dir : Dir) → place ≡ Some e
    → IfSome place (λ (e : SourceEntry). (direction_of e.source.directions dir).listeners.drawn ≤ bound) → (direction_of e.source.directions dir).listeners.drawn ≤ bound
few_at bound place e dir is few = subst (λ (p : Option SourceEntry). IfSome p (λ (e : SourceEntry). (direction_of e.source.directions dir).listeners.drawn ≤ bound)) is few

tickets_again : (bound : ℕ) (sources : List (Option SourceEntry)) (key : ℕ) (e new : SourceEntry) → entry_at sources key ≡ Some e → KeepsListeners e.source new.source
    → AreFewTickets bound sources → AreFewTickets bound (slice_set sources key (Some new))
tickets_again bound sources key e new is keeps few k dir =
    let Few : Option SourceEntry → Type 0 = λ (p : Option SourceEntry). IfSome p (λ (e : SourceEntry). (direction_of e.source.directions dir).listeners.drawn ≤ bound) in
    let one = few_at bound (entry_at sources key) e dir is (few key dir) in
    let same = ap (λ (l : _). l.drawn) (keeps dir) in
    ⊎_elim
    (λ (here : k ≡ key). subst Few (ap (λ n. entry_at (slice_set sources key (Some new)) n) (sym here)) (subst Few (sym (place_here sources key e (Some new) is)) (omega (arith, one, same))))
    (λ (apart : k ≢ key). subst Few (sym (place_aside sources key k (Some new) apart)) (few k dir))
    (cases_eq k key)

asked_at : (place : Option SourceEntry) (armed armed' hand : Bool) (dir : Dir) → armed' ≡ armed
    → IfSome place (λ (e : SourceEntry). IsTrue (has_dir e.source.asked dir) → IsTrue (armed || hand))
    → IfSome place (λ (e : SourceEntry). IsTrue (has_dir e.source.asked dir) → IsTrue (armed' || hand))
asked_at None armed armed' hand dir is asked = tt
asked_at (Some e) armed armed' hand dir is asked = λ wants. subst (λ (b : Bool). IsTrue (b || hand)) (sym is) (asked wants)

pub source_changes : (bound : ℕ) (told told' : Option Interests) (core : CoreValue) (w : World) (key serial : ℕ) (e : SourceEntry) (new : SourceValue)
    (waiters : List PollWaiter) (marks : List Mark) (broken : List BrokenSource) (armed : List ArmedDirection)
    → StandsWithin bound told core w → entry_at core.sources key ≡ Some e → serial_in w.live key ≡ Some serial
    → Changes bound told' core w (with_parts w waiters marks broken armed) key serial e.source new
    → StandsWithin bound told' (with_source core key (with_state e new)) (with_parts w waiters marks broken armed)
source_changes bound told told' core w key serial e new waiters marks broken armed stands is found c =
    let w' : World = with_parts w waiters marks broken armed in
    let e' : SourceEntry = with_state e new in
    let given = serial_given w.live w.serials key serial stands.sound.live found in
    record {
      sources = λ k. ⊎_elim
          (λ (here : k ≡ key). subst (λ n. PlaceStands core.listeners (entry_at (slice_set core.sources key (Some e')) n) (serial_in w.live n) (is_broken w') (facts_in w')) (sym here)
          (subst (λ (place : Option SourceEntry). PlaceStands core.listeners place (serial_in w.live key) (is_broken w') (facts_in w')) (sym (place_here core.sources key e (Some e') is))
          (subst (λ (n : Option ℕ). PlaceStands core.listeners (Some e') n (is_broken w') (facts_in w')) (sym found) c.now)))
          (λ (apart : k ≢ key). subst (λ (place : Option SourceEntry). PlaceStands core.listeners place (serial_in w.live k) (is_broken w') (facts_in w')) (sym (place_aside core.sources key k (Some e') apart))
          (place_stands_aside core.listeners (entry_at core.sources k) (serial_in w.live k) (is_broken w) (is_broken w') (facts_in w) (facts_in w')
          (λ n there. c.aside n (λ (same : n ≡ serial). apart (keys_agree w.live w.serials k key n serial stands.sound.live there found same))) (stands.sources k)))
          (cases_eq k key);
      count = stands.count ∙ sym (count_again core.sources key e e' is);
      tickets = tickets_again bound core.sources key e e' is c.listeners stands.tickets;
      listeners = stands.listeners;
      ticker_is = stands.ticker_is;
      book = stands.book;
      tells = c.tells;
      asked = λ k dir. ⊎_elim
          (λ (here : k ≡ key). subst (λ n. IfSome (entry_at (slice_set core.sources key (Some e')) n) (λ (e : SourceEntry). IsTrue (has_dir e.source.asked dir) → IsTrue (is_armed armed n dir || is_in_hand (hand_of w.round) n))) (sym here)
          (subst (λ (place : Option SourceEntry). IfSome place (λ (e : SourceEntry). IsTrue (has_dir e.source.asked dir) → IsTrue (is_armed armed key dir || is_in_hand (hand_of w.round) key))) (sym (place_here core.sources key e (Some e') is)) (c.asked dir)))
          (λ (apart : k ≢ key). subst (λ (place : Option SourceEntry). IfSome place (λ (e : SourceEntry). IsTrue (has_dir e.source.asked dir) → IsTrue (is_armed armed k dir || is_in_hand (hand_of w.round) k))) (sym (place_aside core.sources key k (Some e') apart))
          (asked_at (entry_at core.sources k) (is_armed w.armed k dir) (is_armed armed k dir) (is_in_hand (hand_of w.round) k) dir (c.armed_aside k dir apart) (stands.asked k dir)))
          (cases_eq k key);
      round = stands.round;
      sound = record {
        live = stands.sound.live;
        unused = record {
          unbroken = λ other more. (c.aside other (λ (same : other ≡ serial). absurd (omega (arith, given, more, same)))).broken_is ∙ stands.sound.unused.unbroken other more;
          nothing = λ other dir more. (c.aside other (λ (same : other ≡ serial). absurd (omega (arith, given, more, same)))).facts_are dir ∙ stands.sound.unused.nothing other dir more;
        };
        listeners = stands.sound.listeners;
        past = record {
          counted = stands.sound.past.counted;
          rounds_before = stands.sound.past.rounds_before;
          marks_before = c.marks_before;
          polls_before = stands.sound.past.polls_before;
          of_rounds = stands.sound.past.of_rounds;
        };
        running = stands.sound.running;
        timers = stands.sound.timers;
      };
    }

-- ## One direction

pub one_direction : (listeners : List (Option Listener)) (facts : Dir → Facts) (ds : DirectionValues) (dir : Dir) (new : DirectionValue) → DirectionStands listeners new (facts dir)
    → ((d : Dir) → same_dir d dir ≡ false → DirectionStands listeners (direction_of ds d) (facts d)) → (d : Dir) → DirectionStands listeners (direction_of (with_direction ds dir new) d) (facts d)
one_direction listeners facts ds dir new here apart = each_put (λ d v. DirectionStands listeners v (facts d)) ds dir new here apart

-- one direction of a source changes, and each other one stays
pub direction_changes : (listeners : List (Option Listener)) (s : SourceValue) (broken : Bool) (facts facts' : Dir → Facts) (dir : Dir) (new : DirectionValue) → SourceStands listeners s broken facts
    → DirectionStands listeners new (facts' dir) → ((d : Dir) → same_dir d dir ≡ false → facts' d ≡ facts d) → SourceStands listeners (with_source_direction s dir new) broken facts'
direction_changes listeners s broken facts facts' dir new stands here apart = record {
  each = one_direction listeners facts' s.directions dir new here (λ d other. subst (DirectionStands listeners (direction_of s.directions d)) (sym (apart d other)) (stands.each d));
  broken_is = stands.broken_is;
}

pub keeps_listeners : (s : SourceValue) (dir : Dir) (new : DirectionValue) → new.listeners ≡ (direction_of s.directions dir).listeners → KeepsListeners s (with_source_direction s dir new)
keeps_listeners s dir new same = each_put (λ d v. v.listeners ≡ (direction_of s.directions d).listeners) s.directions dir new same (λ d other. refl)
