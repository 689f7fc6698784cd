-- A listener of a core that is polled stands for its entry in a world.
use Rattle.std.proofs.Common.{◌≡◌, ◌≢◌, ℕ, ◌+◌, ◌<◌, ◌≤◌, nat_eq, Bool, true, false, not, cond, if◌then◌else◌, ◌&&◌, ◌==◌, IsTrue, List, [], ◌∷◌, ◌++◌, map, find, filter, Option, None, Some, IfSome, is_some, option_map, refl, sym, ap, ◌∙◌, subst, arith, ⊎_elim}
use Rattle.std.specs.List.{All, Contains, IsDistinct}
use Rattle.std.proofs.lemmas.Bool.{cases_eq, eq-eqb, ne_eqb, eqb-true, true≢false, false≢true}
use Rattle.std.proofs.lemmas.List.{map-append}
use Rattle.std.proofs.lemmas.List.Elements.{All-contains, All-filter}
use Rattle.aio_base.specs.declared.names.Dir.{Dir}
use Rattle.aio_base.specs.declared.names.Waker.{Waker}
use Rattle.aio_base.specs.Devices.{Interests}
use Rattle.aio_base.specs.Machine.{is_listener}
use Rattle.aio_base.specs.Machine as machine
use Rattle.aio_base.specs.Rounds.{rounds_at}
use Rattle.aio_base.specs.World.{World, LiveSource, ListenerEntry, is_of}
use Rattle.aio_base.proofs.FreshnessLemmas.{last_tick-bound}
use Rattle.aio_base.proofs.Membership.{each_in, mapped_from, found_is_in, filtered_passes}
use Rattle.aio_base.proofs.Searching.{false_unless, mapped_found, without_found, last_found}
use Rattle.aio_base.proofs.WaiterLemmas.{is_of-eq, is_of-from}
use Rattle.aio_listen.specs.declared.ticket.Ticket.{Ticket}
use Rattle.aio_listen.specs.Tickets.{same_ticket}
use Rattle.aio_source.specs.Rules.{direction_of, listening, listening_again}
use Rattle.aio_source.specs.Values.{DirectionValue}
use Rattle.aio_source.specs.declared.answers.Listened.{Listened}
use Rattle.aio_react.specs.declared.entries.Listener.{Listener}
use Rattle.aio_react.specs.declared.entries.SourceEntry.{SourceEntry}
use Rattle.aio_react.specs.Cores.{CoreValue, entry_at, AreListed}
use Rattle.aio_facts.specs.Facts.{facts_in, is_polled_of, serial_in}
use Rattle.aio_react.specs.Numbers.{value_of, with_value}
use Rattle.aio_react.specs.Standing.{Remembers, DirectionStands, ListenerStands, numbers_in, polled_entry, ticket_in, StandsWithin, Stands}
use Rattle.aio_facts.specs.Sound.{IsBefore}
use Rattle.aio_facts.proofs.Departures.{distinct_filter}
use Rattle.aio_react.proofs.listeners.HeardAgain.{value_here, value_aside, value_length}
use Rattle.aio_react.proofs.listeners.KnownListeners.{Known, is_its, is_mine, unpolled_others, is_of_ticket, ticket_tells, without_aside}
use Rattle.aio_react.proofs.listeners.ListenerChanges.{Hears, with_entries, numbered_aside, entries_aside}
use Rattle.aio_react.proofs.listeners.NewListeners.{listener_same, numbers_differ, pushed_all, pushed_out}
use Rattle.aio_facts.proofs.PolledEntries.{mapped_filter, mapped_through, mapped_same_all, pushed_in}
use Rattle.aio_react.proofs.steps.Later.{stands_inside}
use Rattle.aio_react.proofs.sources.SourceChanges.{source_found}
use Rattle.aio_facts.proofs.Waiting.{all_begun}

pub number_is : (w : World) (number : ℕ) (l : Listener) (k : Known w number l) → k.entry.number ≡ number
number_is w number l k = eqb-true k.entry.number number (found_is_in (is_listener number) w.listeners k.entry k.found).1

pub few_tickets : (bound : ℕ) (told : Option Interests) (core : CoreValue) (w : World) (key : ℕ) (e : SourceEntry) (dir : Dir) → StandsWithin bound told core w → entry_at core.sources key ≡ Some e
    → (direction_of e.source.directions dir).listeners.drawn ≤ bound
few_tickets bound told core w key e dir stands there =
    subst (λ (place : Option SourceEntry). IfSome place (λ (e : SourceEntry). (direction_of e.source.directions dir).listeners.drawn ≤ bound)) there (stands.tickets key dir)

-- ## A later poll

-- the entry of a number with another waker
abbrev pub woken : ℕ → Waker → ListenerEntry → ListenerEntry
woken number waker x = if is_listener number x then record x { waker = Some waker } else x

abbrev either : Bool → Waker → ListenerEntry → ListenerEntry
either b waker x = if b then record x { waker = Some waker } else x

number_kept : (b : Bool) (waker : Waker) (x : ListenerEntry) → (either b waker x).number ≡ x.number
number_kept true waker x = refl
number_kept false waker x = refl

serial_kept : (b : Bool) (waker : Waker) (x : ListenerEntry) → (either b waker x).serial ≡ x.serial
serial_kept true waker x = refl
serial_kept false waker x = refl

position_kept : (b : Bool) (waker : Waker) (x : ListenerEntry) → (either b waker x).position ≡ x.position
position_kept true waker x = refl
position_kept false waker x = refl

polled_kept : (n : ℕ) (d : Dir) (b : Bool) (waker : Waker) (x : ListenerEntry) → is_polled_of n d (either b waker x) ≡ is_polled_of n d x
polled_kept n d true waker x = refl
polled_kept n d false waker x = refl

numbers_kept : (number : ℕ) (waker : Waker) (ls : List ListenerEntry) → map (λ (x : ListenerEntry). x.number) (map (woken number waker) ls) ≡ map (λ (x : ListenerEntry). x.number) ls
numbers_kept number waker [] = refl
numbers_kept number waker (x ∷ ls) =
    ap (λ n. n ∷ map (λ (x : ListenerEntry). x.number) (map (woken number waker) ls)) (number_kept (is_listener number x) waker x) ∙ ap (λ ns. x.number ∷ ns) (numbers_kept number waker ls)

all_mapped : (P : ListenerEntry → Type 0) (f : ListenerEntry → ListenerEntry) (ls : List ListenerEntry) → ((x : ListenerEntry) → Contains ls x → P x → P (f x)) → All P ls → All P (map f ls)
all_mapped P f ls keeps all = each_in P (map f ls) (λ y among. let from = mapped_from f ls y among in subst P from.2 (keeps from.0 from.1 (All-contains P ls from.0 all from.1)))

stands_woken : (live : List LiveSource) (begun : List ℕ) (value : Option Listener) (x : ListenerEntry) (b : Bool) (waker : Waker) → ListenerStands live begun value (Some x)
    → ListenerStands live begun value (Some (either b waker x))
stands_woken live begun None x b waker stands = absurd stands
stands_woken live begun (Some l) x true waker stands = stands
stands_woken live begun (Some l) x false waker stands = stands

listener_woken : (live : List LiveSource) (begun : List ℕ) (value : Option Listener) (found : Option ListenerEntry) (number : ℕ) (waker : Waker) → ListenerStands live begun value found
    → ListenerStands live begun value (option_map (woken number waker) found)
listener_woken live begun value None number waker stands = stands
listener_woken live begun value (Some x) number waker stands = stands_woken live begun value x (is_listener number x) waker stands

entry_woken : (listeners : List (Option Listener)) (b : Bool) (waker : Waker) (x : ListenerEntry)
    → polled_entry listeners (either b waker x) ≡ (if b then ((polled_entry listeners x).0, Some waker) else polled_entry listeners x)
entry_woken listeners true waker x = refl
entry_woken listeners false waker x = refl

abbrev as_kept : Ticket × Option Waker → Option Ticket × Option Waker
as_kept e = (Some e.0, e.1)

abbrev held_by : Waker → Ticket × Option Waker → Ticket × Option Waker
held_by waker e = (e.0, Some waker)

kept_woken : (b : Bool) (waker : Waker) (e : Ticket × Option Waker) → as_kept (if b then held_by waker e else e) ≡ (if b then as_kept (held_by waker e) else as_kept e)
kept_woken true waker e = refl
kept_woken false waker e = refl

polled_position : (begun : List ℕ) (first : Option (ℕ × ℕ)) (position : Option ℕ) (ticks : ℕ × ℕ) → first ≡ Some ticks → Remembers first (option_map (rounds_at begun) position) → IsTrue (is_some position)
polled_position begun None position ticks is r = absurd (cc)
polled_position begun (Some old) None ticks is r = absurd r
polled_position begun (Some old) (Some p) ticks is r = refl

pub polled_there : (w : World) (number : ℕ) (l : Listener) (first : Listened) (k : Known w number l) → l.first ≡ Some first → is_some k.entry.position ≡ true
polled_there w number l first k has = polled_position w.begun (numbers_in l.first) k.entry.position (first.a, first.b) (ap numbers_in has) k.remembers

holds_woken : (b : Bool) (waker : Waker) (x : ListenerEntry) → (b ≡ true → IsTrue (is_some x.position)) → (IsTrue (is_some x.waker) → IsTrue (is_some x.position))
    → IsTrue (is_some (either b waker x).waker) → IsTrue (is_some (either b waker x).position)
holds_woken true waker x polled holds = λ held. polled refl
holds_woken false waker x polled holds = holds

again_stands : (bound : ℕ) (told : Option Interests) (core : CoreValue) (w : World) (number : ℕ) (l : Listener) (first : Listened) (waker : Waker) (d : DirectionValue) (k : Known w number l)
    → l.first ≡ Some first → StandsWithin bound told core w → AreListed core.sources core.listeners → value_of core.listeners number ≡ Some l
    → DirectionStands core.listeners d (facts_in w k.entry.serial l.dir)
    → DirectionStands core.listeners (listening_again first.ticket waker d) (facts_in (with_entries w (map (woken number waker) w.listeners)) k.entry.serial l.dir)
again_stands bound told core w number l first waker d k has stands listed is old =
    let p = is_polled_of k.entry.serial l.dir in
    let ticket = first.ticket in
    let f = woken number waker in
    let g : Ticket × Option Waker → Ticket × Option Waker = λ e. if same_ticket e.0 ticket then held_by waker e else e in
    let h : Option Ticket × Option Waker → Option Ticket × Option Waker = λ e. if is_of_ticket ticket e.0 then (e.0, Some waker) else e in
    let tells = ticket_tells bound told core w number l ticket k stands listed is (ap (option_map (λ (f : Listened). f.ticket)) has) in
    record {
      waiter_is = old.waiter_is;
      tick_is = old.tick_is;
      remembers = old.remembers;
      entries_are = ap (λ (ls : List ListenerEntry). map (polled_entry core.listeners) ls) (mapped_filter f p p w.listeners (λ x among. polled_kept k.entry.serial l.dir (is_listener number x) waker x))
          ∙ mapped_through f (polled_entry core.listeners) h (filter p w.listeners)
          (λ x among. entry_woken core.listeners (is_listener number x) waker x
          ∙ ap (λ (b : Bool). if b then ((polled_entry core.listeners x).0, Some waker) else polled_entry core.listeners x) (tells x among))
          ∙ ap (λ (es : List (Option Ticket × Option Waker)). map h es) old.entries_are
          ∙ sym (mapped_through g as_kept h d.listeners.entries (λ e among. kept_woken (same_ticket e.0 ticket) waker e));
    }

pub again_hears : (bound : ℕ) (told : Option Interests) (core : CoreValue) (w : World) (key number : ℕ) (l : Listener) (first : Listened) (waker : Waker) (e : SourceEntry) (k : Known w number l)
    → l.first ≡ Some first → StandsWithin bound told core w → AreListed core.sources core.listeners → value_of core.listeners number ≡ Some l → entry_at core.sources key ≡ Some e → l.key.0 ≡ key
    → Hears bound core w k.entry.serial number l.dir (listening_again first.ticket waker (direction_of e.source.directions l.dir)) core.listeners (map (woken number waker) w.listeners)
again_hears bound told core w key number l first waker e k has stands listed is there own =
    let f = woken number waker in
    let before = source_found core w key k.entry.serial e stands.sources there (ap (λ n. serial_in w.live n) (sym own) ∙ k.serial_is) in
    let distinct = stands.sound.listeners.numbers in
    let mine = is_mine w number l k distinct in
    record {
      now = again_stands bound told core w number l first waker (direction_of e.source.directions l.dir) k has stands listed is (before.each l.dir);
      drawn = few_tickets bound told core w key e l.dir stands there;
      is_mine = mine;
      polled_aside = λ n d off.
          mapped_filter f (is_polled_of n d) (is_polled_of n d) w.listeners (λ x among. polled_kept n d (is_listener number x) waker x)
          ∙ mapped_same_all f (filter (is_polled_of n d) w.listeners)
          (λ x among. ap (λ (b : Bool). either b waker x) (ne_eqb x.number number (numbered_aside w.listeners k.entry.serial number l.dir n d off mine x among)));
      values_aside = λ n apart. refl;
      each = λ n. subst (λ (y : Option ListenerEntry). ListenerStands w.live w.begun (value_of core.listeners n) y)
          (sym (mapped_found f (is_listener n) (is_listener n) (λ x. ap (λ m. m == n) (number_kept (is_listener number x) waker x)) w.listeners))
          (listener_woken w.live w.begun (value_of core.listeners n) (find (is_listener n) w.listeners) number waker (stands.listeners.each n));
      length_is = refl;
      sound = record {
        numbers = subst (λ ns. IsDistinct nat_eq ns) (sym (numbers_kept number waker w.listeners)) distinct;
        given = all_mapped (λ (x : ListenerEntry). x.number ≤ w.listeners_drawn) f w.listeners (λ x among most. subst (λ n. n ≤ w.listeners_drawn) (sym (number_kept (is_listener number x) waker x)) most) stands.sound.listeners.given;
        registered = all_mapped (λ (x : ListenerEntry). x.serial ≤ w.serials) f w.listeners (λ x among most. subst (λ n. n ≤ w.serials) (sym (serial_kept (is_listener number x) waker x)) most) stands.sound.listeners.registered;
        only_polled_hold = all_mapped (λ (x : ListenerEntry). IsTrue (is_some x.waker) → IsTrue (is_some x.position)) f w.listeners
            (λ x among holds. holds_woken (is_listener number x) waker x
            (λ hit. ap (λ (x : ListenerEntry). is_some x.position) (is_its w number l k distinct x among (eqb-true x.number number hit)) ∙ polled_there w number l first k has) holds)
            stands.sound.listeners.only_polled_hold;
      };
      before = all_mapped (λ (x : ListenerEntry). IsBefore bound x.position) f w.listeners (λ x among old. subst (IsBefore bound) (sym (position_kept (is_listener number x) waker x)) old) stands.sound.past.polls_before;
    }

-- ## A first poll

-- the entry of a listener once it was polled
abbrev pub begun_at : ℕ → Waker → ListenerEntry → ListenerEntry
begun_at position waker x = record x { position = Some position; waker = Some waker }

abbrev pub polled_last : World → ℕ → Waker → ListenerEntry → List ListenerEntry
polled_last w number waker x = machine.without_listener w.listeners number ++ begun_at w.pos waker x ∷ []

abbrev pub polled_listener : Listener → Listened → Listener
polled_listener l first = record l { first = Some first }

turned : (serial : ℕ) (dir : Dir) (n : ℕ) (d : Dir) (x : ListenerEntry) → is_of serial dir n d ≡ false → x.serial ≡ serial → x.dir ≡ dir → is_of n d x.serial x.dir ≡ false
turned serial dir n d x off same there =
    false_unless (is_of n d x.serial x.dir) (λ hit.
    let of = is_of-eq n d x.serial x.dir hit in
    false≢true (sym off ∙ is_of-from serial dir n d (sym of.0 ∙ same) (sym of.1 ∙ there)))

first_stands : (bound : ℕ) (told : Option Interests) (core : CoreValue) (w : World) (number : ℕ) (l : Listener) (first : Listened) (waker : Waker) (d : DirectionValue) (k : Known w number l)
    → l.first ≡ None → StandsWithin bound told core w → value_of core.listeners number ≡ Some l → DirectionStands core.listeners d (facts_in w k.entry.serial l.dir)
    → DirectionStands (with_value core.listeners number (Some (polled_listener l first))) (listening first.ticket waker d) (facts_in (with_entries w (polled_last w number waker k.entry)) k.entry.serial l.dir)
first_stands bound told core w number l first waker d k never stands is old =
    let p = is_polled_of k.entry.serial l.dir in
    let x = begun_at w.pos waker k.entry in
    let listeners' = with_value core.listeners number (Some (polled_listener l first)) in
    let others = unpolled_others w number l k stands.sound.listeners.numbers never k.entry.serial l.dir in
    let value : value_of listeners' k.entry.number ≡ Some (polled_listener l first) = ap (λ n. value_of listeners' n) (number_is w number l k) ∙ value_here core.listeners number (Some (polled_listener l first)) l is in
    record {
      waiter_is = old.waiter_is;
      tick_is = old.tick_is;
      remembers = old.remembers;
      entries_are = ap (λ (ls : List ListenerEntry). map (polled_entry listeners') ls)
          (pushed_in p (machine.without_listener w.listeners number) x (ap (λ (b : Bool). b && true) (is_of-from k.entry.serial l.dir k.entry.serial k.entry.dir refl k.dir_is))
          ∙ ap (λ (ls : List ListenerEntry). ls ++ x ∷ []) (without_aside p number w.listeners others))
          ∙ map-append (polled_entry listeners') (filter p w.listeners) (x ∷ [])
          ∙ ap (λ (es : List (Option Ticket × Option Waker)). es ++ polled_entry listeners' x ∷ [])
          (entries_aside core.listeners listeners' number (filter p w.listeners) (λ n apart. value_aside core.listeners number (Some (polled_listener l first)) n apart) others ∙ old.entries_are)
          ∙ ap (λ (v : Option Listener). map as_kept d.listeners.entries ++ (ticket_in v, Some waker) ∷ []) value
          ∙ sym (map-append as_kept d.listeners.entries ((first.ticket, Some waker) ∷ []));
    }

pub first_hears : (told : Option Interests) (core : CoreValue) (w : World) (key number : ℕ) (l : Listener) (first : Listened) (waker : Waker) (e : SourceEntry) (k : Known w number l)
    → l.first ≡ None → Stands told core w → value_of core.listeners number ≡ Some l → entry_at core.sources key ≡ Some e → l.key.0 ≡ key
    → first.a ≡ core.ticker → first.b ≡ (direction_of e.source.directions l.dir).tick
    → Hears (w.pos + 1) core w k.entry.serial number l.dir (listening first.ticket waker (direction_of e.source.directions l.dir)) (with_value core.listeners number (Some (polled_listener l first)))
    (polled_last w number waker k.entry)
first_hears told core w key number l first waker e k never at_start is there own ticker tick =
    let stands = stands_inside told core w at_start in
    let l' = polled_listener l first in
    let x = begun_at w.pos waker k.entry in
    let q : ListenerEntry → Bool = λ y. not (is_listener number y) in
    let rest = machine.without_listener w.listeners number in
    let listeners' = with_value core.listeners number (Some l') in
    let before = source_found core w key k.entry.serial e stands.sources there (ap (λ n. serial_in w.live n) (sym own) ∙ k.serial_is) in
    let distinct = stands.sound.listeners.numbers in
    let mine = is_mine w number l k distinct in
    let its = number_is w number l k in
    let few = few_tickets w.pos told core w key e l.dir at_start there in
    let all = all_begun w.begun w.pos (λ p among. All-contains (λ p. p < w.pos) w.begun p at_start.sound.past.rounds_before among) in
    let most = last_tick-bound w.begun w.handled k.entry.serial l.dir in
    let old_tick = (before.each l.dir).tick_is in
    let within = (found_is_in (is_listener number) w.listeners k.entry k.found).0 in
    let absent : find (λ (y : ListenerEntry). y.number == number) rest ≡ None =
    without_found (λ (y : ListenerEntry). y.number) number number w.listeners ∙ ap (λ (b : Bool). cond b None (find (λ (y : ListenerEntry). y.number == number) w.listeners)) (eq-eqb number number refl) in
    let last : (n : ℕ) → find (λ (y : ListenerEntry). y.number == n) (rest ++ x ∷ []) ≡ cond (n == x.number) (Some x) (find (λ (y : ListenerEntry). y.number == n) rest) =
    λ n. last_found (λ (y : ListenerEntry). y.number) x n rest (λ same. ap (λ m. find (λ (y : ListenerEntry). y.number == m) rest) (same ∙ its) ∙ absent) in
    record {
      now = first_stands (w.pos + 1) told core w number l first waker (direction_of e.source.directions l.dir) k never stands is (before.each l.dir);
      drawn = omega (arith, few);
      is_mine = mine;
      polled_aside = λ n d off.
          pushed_out (is_polled_of n d) rest x (ap (λ (b : Bool). b && true) (turned k.entry.serial l.dir n d k.entry off refl k.dir_is))
          ∙ without_aside (is_polled_of n d) number w.listeners (unpolled_others w number l k distinct never n d);
      values_aside = λ n apart. value_aside core.listeners number (Some l') n apart;
      each = λ n. ⊎_elim
          (λ (here : n ≡ number). listener_same w.live w.begun (Some l') (value_of listeners' n) (Some x) (find (is_listener n) (rest ++ x ∷ []))
          (ap (λ n. value_of listeners' n) here ∙ value_here core.listeners number (Some l') l is)
          (last n ∙ ap (λ (b : Bool). cond b (Some x) (find (λ (y : ListenerEntry). y.number == n) rest)) (eq-eqb n x.number (here ∙ sym its)))
          (k.serial_is, k.dir_is, (omega (arith, ticker, all, stands.sound.past.counted, stands.ticker_is), omega (arith, tick, all, most, old_tick))))
          (λ (apart : n ≢ number). listener_same w.live w.begun (value_of core.listeners n) (value_of listeners' n) (find (is_listener n) w.listeners) (find (is_listener n) (rest ++ x ∷ []))
          (value_aside core.listeners number (Some l') n apart)
          (last n ∙ ap (λ (b : Bool). cond b (Some x) (find (λ (y : ListenerEntry). y.number == n) rest)) (ne_eqb n x.number (λ (same : n ≡ x.number). apart (same ∙ its)))
          ∙ without_found (λ (y : ListenerEntry). y.number) number n w.listeners ∙ ap (λ (b : Bool). cond b None (find (λ (y : ListenerEntry). y.number == n) w.listeners)) (ne_eqb n number apart))
          (stands.listeners.each n))
          (cases_eq n number);
      length_is = value_length core.listeners number (Some l');
      sound = record {
        numbers = numbers_differ rest x (λ y among same. true≢false (sym (filtered_passes q w.listeners y among) ∙ ap not (eq-eqb y.number number (same ∙ its))))
            (distinct_filter (λ (y : ListenerEntry). y.number) q w.listeners distinct);
        given = pushed_all (λ (y : ListenerEntry). y.number ≤ w.listeners_drawn) rest x (All-filter q (λ (y : ListenerEntry). y.number ≤ w.listeners_drawn) w.listeners stands.sound.listeners.given)
            (All-contains (λ (y : ListenerEntry). y.number ≤ w.listeners_drawn) w.listeners k.entry stands.sound.listeners.given within);
        registered = pushed_all (λ (y : ListenerEntry). y.serial ≤ w.serials) rest x (All-filter q (λ (y : ListenerEntry). y.serial ≤ w.serials) w.listeners stands.sound.listeners.registered)
            (All-contains (λ (y : ListenerEntry). y.serial ≤ w.serials) w.listeners k.entry stands.sound.listeners.registered within);
        only_polled_hold = pushed_all (λ (y : ListenerEntry). IsTrue (is_some y.waker) → IsTrue (is_some y.position)) rest x
            (All-filter q (λ (y : ListenerEntry). IsTrue (is_some y.waker) → IsTrue (is_some y.position)) w.listeners stands.sound.listeners.only_polled_hold) (λ held. refl);
      };
      before = pushed_all (λ (y : ListenerEntry). IsBefore (w.pos + 1) y.position) rest x (All-filter q (λ (y : ListenerEntry). IsBefore (w.pos + 1) y.position) w.listeners stands.sound.past.polls_before) (omega arith);
    }
