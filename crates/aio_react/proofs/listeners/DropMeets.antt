-- A listener of a core that is given up meets the machine's.
use Rattle.std.proofs.Common.{◌≡◌, ◌≢◌, ℕ, ◌+◌, ◌-◌, ◌≤◌, Bool, not, cond, IsTrue, List, [], map, find, filter, Option, None, Some, IfSome, is_some, option_map, refl, sym, ap, ◌∙◌, subst, arith, ⊎_elim}
use Rattle.std.proofs.lemmas.Bool.{cases_eq, eq-eqb, ne_eqb, true≢false}
use Rattle.std.proofs.lemmas.List.Elements.{All-filter}
use Rattle.aio_base.specs.declared.names.Dir.{Dir}
use Rattle.aio_base.specs.declared.names.Waker.{Waker}
use Rattle.aio_base.specs.declared.steps.Answer.TheVariants as replies
use Rattle.aio_base.specs.declared.steps.Step.TheVariants as step
use Rattle.aio_base.specs.Devices.{Interests, PollerMove}
use Rattle.aio_base.specs.Machine.{is_listener, drop_listener}
use Rattle.aio_base.specs.Machine as machine
use Rattle.aio_base.specs.World.{World, ListenerEntry}
use Rattle.aio_base.proofs.Membership.{filtered_passes}
use Rattle.aio_base.proofs.Searching.{without_found}
use Rattle.aio_listen.specs.declared.ticket.Ticket.{Ticket}
use Rattle.aio_listen.specs.Tickets.{same_ticket}
use Rattle.aio_source.specs.Rules.{direction_of, with_source_direction, without_listener}
use Rattle.aio_source.proofs.DirectionCases.{put_itself}
use Rattle.aio_source.specs.Values.{DirectionValue, DirectionValues, SourceValue}
use Rattle.aio_source.specs.declared.answers.Listened.{Listened}
use Rattle.aio_react.specs.declared.entries.Listener.{Listener}
use Rattle.aio_react.specs.declared.entries.SourceEntry.{SourceEntry}
use Rattle.aio_react.specs.Cores.{CoreValue, entry_at, AreListed}
use Rattle.aio_facts.specs.Facts.{facts_in, is_polled_of}
use Rattle.aio_react.specs.Listeners.{left_by, given_up}
use Rattle.aio_react.specs.Meeting.{Meets}
use Rattle.aio_react.specs.Numbers.{value_of, with_value}
use Rattle.aio_react.specs.Standing.{DirectionStands, polled_entry, StandsWithin}
use Rattle.aio_facts.specs.Sound.{IsBefore}
use Rattle.aio_react.proofs.sources.ArmMeets.{Within, step_comes}
use Rattle.aio_facts.proofs.Departures.{distinct_filter}
use Rattle.aio_react.proofs.listeners.HeardAgain.{value_here, value_aside, value_length}
use Rattle.aio_react.proofs.listeners.KnownListeners.{Known, known, unknown, is_mine, unpolled_others, is_of_ticket, ticket_tells, without_aside}
use Rattle.aio_react.proofs.steps.Later.{quiet_comes, stands_inside}
use Rattle.aio_react.proofs.listeners.ListenerChanges.{Hears, with_entries, with_heard, numbered_aside, entries_aside, listener_changes}
use Rattle.aio_react.proofs.listeners.NewListeners.{listener_same}
use Rattle.aio_facts.proofs.PolledEntries.{filters_swap, mapped_filter}
use Rattle.aio_react.proofs.sources.SourceChanges.{source_found}

-- a direction without a listener, where it was polled
abbrev left_direction : DirectionValue → Option Listened → DirectionValue
left_direction d None = d
left_direction d (Some first) = without_listener first.ticket d

same_direction : (s : SourceValue) (dir : Dir) → s ≡ with_source_direction s dir (direction_of s.directions dir)
same_direction s dir = sym (ap (λ (ds : DirectionValues). record s { directions = ds }) (put_itself s.directions dir))

left_is : (s : SourceValue) (dir : Dir) (first : Option Listened) → left_by s dir first ≡ with_source_direction s dir (left_direction (direction_of s.directions dir) first)
left_is s dir None = same_direction s dir
left_is s dir (Some first) = refl

drawn_same : (d : DirectionValue) (first : Option Listened) → (left_direction d first).listeners.drawn ≡ d.listeners.drawn
drawn_same d None = refl
drawn_same d (Some first) = refl

-- the direction stands without the listener
left_stands : (bound : ℕ) (told : Option Interests) (core : CoreValue) (w : World) (number : ℕ) (l : Listener) (d : DirectionValue) (k : Known w number l) (first : Option Listened) → l.first ≡ first
    → StandsWithin bound told core w → AreListed core.sources core.listeners → value_of core.listeners number ≡ Some l → DirectionStands core.listeners d (facts_in w k.entry.serial l.dir)
    → DirectionStands (with_value core.listeners number None) (left_direction d first) (facts_in (with_entries w (machine.without_listener w.listeners number)) k.entry.serial l.dir)
left_stands bound told core w number l d k None never stands listed is old =
    let p = is_polled_of k.entry.serial l.dir in
    let others = unpolled_others w number l k stands.sound.listeners.numbers never k.entry.serial l.dir in
    record {
      waiter_is = old.waiter_is;
      tick_is = old.tick_is;
      remembers = old.remembers;
      entries_are = ap (λ (ls : List ListenerEntry). map (polled_entry (with_value core.listeners number None)) ls) (without_aside p number w.listeners others)
          ∙ entries_aside core.listeners (with_value core.listeners number None) number (filter p w.listeners) (λ n apart. value_aside core.listeners number None n apart) others ∙ old.entries_are;
    }
left_stands bound told core w number l d k (Some first) has stands listed is old =
    let p = is_polled_of k.entry.serial l.dir in
    let ticket = first.ticket in
    let q : ListenerEntry → Bool = λ x. not (is_listener number x) in
    let r : Option Ticket × Option Waker → Bool = λ e. not (is_of_ticket ticket e.0) in
    let listeners' = with_value core.listeners number None in
    let tells = ticket_tells bound told core w number l ticket k stands listed is (ap (option_map (λ (f : Listened). f.ticket)) has) in
    record {
      waiter_is = old.waiter_is;
      tick_is = old.tick_is;
      remembers = old.remembers;
      entries_are = ap (λ (ls : List ListenerEntry). map (polled_entry listeners') ls) (filters_swap p q w.listeners)
          ∙ entries_aside core.listeners listeners' number (filter q (filter p w.listeners)) (λ n apart. value_aside core.listeners number None n apart)
          (λ x among same. true≢false (sym (filtered_passes q (filter p w.listeners) x among) ∙ ap not (eq-eqb x.number number same)))
          ∙ sym (mapped_filter (polled_entry core.listeners) q r (filter p w.listeners) (λ x among. ap not (sym (tells x among))))
          ∙ ap (λ (es : List (Option Ticket × Option Waker)). filter r es) old.entries_are
          ∙ mapped_filter (λ (e : Ticket × Option Waker). (Some e.0, e.1)) (λ (e : Ticket × Option Waker). not (same_ticket e.0 ticket)) r d.listeners.entries (λ e among. refl);
    }

drop_hears : (bound : ℕ) (told : Option Interests) (core : CoreValue) (w : World) (number : ℕ) (l : Listener) (e : SourceEntry) (k : Known w number l) → StandsWithin bound told core w
    → AreListed core.sources core.listeners → value_of core.listeners number ≡ Some l → entry_at core.sources l.key.0 ≡ Some e
    → Hears bound core w k.entry.serial number l.dir (left_direction (direction_of e.source.directions l.dir) l.first) (with_value core.listeners number None) (machine.without_listener w.listeners number)
drop_hears bound told core w number l e k stands listed is there =
    let d = direction_of e.source.directions l.dir in
    let q : ListenerEntry → Bool = λ x. not (is_listener number x) in
    let before = source_found core w l.key.0 k.entry.serial e stands.sources there k.serial_is in
    let mine = is_mine w number l k stands.sound.listeners.numbers in
    let few : d.listeners.drawn ≤ bound = subst (λ (place : Option SourceEntry). IfSome place (λ (e : SourceEntry). (direction_of e.source.directions l.dir).listeners.drawn ≤ bound)) there (stands.tickets l.key.0 l.dir) in
    record {
      now = left_stands bound told core w number l d k l.first refl stands listed is (before.each l.dir);
      drawn = omega (arith, few, drawn_same d l.first);
      is_mine = mine;
      polled_aside = λ n dir off. without_aside (is_polled_of n dir) number w.listeners (numbered_aside w.listeners k.entry.serial number l.dir n dir off mine);
      values_aside = λ n apart. value_aside core.listeners number None n apart;
      each = λ n.
          let found = without_found (λ (x : ListenerEntry). x.number) number n w.listeners in
          ⊎_elim
          (λ (here : n ≡ number). listener_same w.live w.begun None (value_of (with_value core.listeners number None) n) None (find (is_listener n) (machine.without_listener w.listeners number))
          (ap (λ n. value_of (with_value core.listeners number None) n) here ∙ value_here core.listeners number None l is)
          (found ∙ ap (λ (b : Bool). cond b None (find (is_listener n) w.listeners)) (eq-eqb n number here)) tt)
          (λ (apart : n ≢ number). listener_same w.live w.begun (value_of core.listeners n) (value_of (with_value core.listeners number None) n) (find (is_listener n) w.listeners)
          (find (is_listener n) (machine.without_listener w.listeners number)) (value_aside core.listeners number None n apart)
          (found ∙ ap (λ (b : Bool). cond b None (find (is_listener n) w.listeners)) (ne_eqb n number apart)) (stands.listeners.each n))
          (cases_eq n number);
      length_is = value_length core.listeners number None;
      sound = record {
        numbers = distinct_filter (λ (x : ListenerEntry). x.number) q w.listeners stands.sound.listeners.numbers;
        given = All-filter q (λ (x : ListenerEntry). x.number ≤ w.listeners_drawn) w.listeners stands.sound.listeners.given;
        registered = All-filter q (λ (x : ListenerEntry). x.serial ≤ w.serials) w.listeners stands.sound.listeners.registered;
        only_polled_hold = All-filter q (λ (x : ListenerEntry). IsTrue (is_some x.waker) → IsTrue (is_some x.position)) w.listeners stands.sound.listeners.only_polled_hold;
      };
      before = All-filter q (λ (x : ListenerEntry). IsBefore bound x.position) w.listeners stands.sound.past.polls_before;
    }

pub drop_meets : {P : Type 0} (poller_step : P → PollerMove → P → Type 0) (tells : P → Option Interests) (poller : P) (core : CoreValue) (number : ℕ) (l : Listener) (e : SourceEntry)
    → entry_at core.sources l.key.0 ≡ Some e → value_of core.listeners number ≡ Some l → AreListed core.sources core.listeners
    → Meets poller_step tells (step.DropEar number) None replies.Dropped [] None (poller, core) (poller, with_heard core l.key.0 (given_up e l) (with_value core.listeners number None))
drop_meets {P = P} poller_step tells poller core number l e there is listed = record {
  moves = [];
  run = refl;
  waits = tt;
  comes = λ w later at_start now.
      let stands = stands_inside (tells poller) core w at_start in
      let k = known (w.pos + 1) (tells poller) core w number l stands is in
      let listeners' = with_value core.listeners number None in
      let w' : World = with_entries w (machine.without_listener w.listeners number) in
      let d = left_direction (direction_of e.source.directions l.dir) l.first in
      step_comes w (step.DropEar number) later replies.Dropped [] [] later (tells poller) (with_heard core l.key.0 (given_up e l) listeners')
      (subst (λ (x : Option ListenerEntry). Within (drop_listener w number x later) replies.Dropped [] [] later (tells poller) (with_heard core l.key.0 (given_up e l) listeners')) (sym k.found)
      (record {
        answer_is = refl;
        wakes_are = refl;
        calls_are = refl;
        left_are = refl;
        stands = subst (λ (s : SourceValue). StandsWithin (w.pos + 1) (tells poller) (with_heard core l.key.0 (record { source = s; listeners = e.listeners - 1 }) listeners') w')
            (sym (left_is e.source l.dir l.first))
            (listener_changes (w.pos + 1) (tells poller) core w l.key.0 k.entry.serial number l.dir e d (e.listeners - 1) listeners' (machine.without_listener w.listeners number) stands there k.serial_is
            (drop_hears (w.pos + 1) (tells poller) core w number l e k stands listed is there));
      }));
}

-- of a number that no listener has
pub drop_misses : {P : Type 0} (poller_step : P → PollerMove → P → Type 0) (tells : P → Option Interests) (poller : P) (core : CoreValue) (number : ℕ) → value_of core.listeners number ≡ None
    → Meets poller_step tells (step.DropEar number) None replies.NoListener [] None (poller, core) (poller, core)
drop_misses {P = P} poller_step tells poller core number is = record {
  moves = [];
  run = refl;
  waits = tt;
  comes = λ w later stands now.
      quiet_comes (tells poller) core w (step.DropEar number) replies.NoListener later
      (ap (λ (x : Option ListenerEntry). drop_listener w number x later) (unknown w.pos (tells poller) core w number stands is)) stands;
}
