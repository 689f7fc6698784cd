-- An event takes the wakers of its directions: for each its poll waiter, and then what its listeners hold, in order.
use Rattle.std.proofs.Common.{◌≡◌, ◌≢◌, ℕ, ◌≤◌, Bool, true, false, not, cond, ◌==◌, if◌then◌else◌, List, [], ◌∷◌, ◌++◌, map, find, Option, None, Some, option_map, option_to_list, refl, ap, ◌∙◌, sym, subst, append_assoc, append-nil}
use Rattle.std.specs.Prelude.{flat_map, option_and_then}
use Rattle.std.specs.List.{Contains, filter, cons_option, list_any}
use Rattle.std.proofs.lemmas.Bool.{eqb-true, ne_eqb}
use Rattle.aio_base.specs.declared.names.Waker.{Waker}
use Rattle.aio_base.specs.declared.names.Dir.{Dir}
use Rattle.aio_base.specs.World.{ListenerEntry, PollWaiter, Registration, World, is_of, poll_waiter, without_waiter, listener_wakers, waiters_of}
use Rattle.aio_base.specs.Machine.{is_listener, without_waiters, world_taken, wakers_taken}
use Rattle.aio_laws.specs.Storings.{Place, OfPoll, OfListener, OfTimer, same_place, Stored, Storings, places_of, taken_at, each_taken, wakers}
use Rattle.aio_base.proofs.Membership.{filtered_is_in, filtered_passes, passing_is_kept, mapped_from, any_from, any_gives, image_is_in, found_is_in}
use Rattle.aio_base.proofs.WaiterLemmas.{is_of-eq, is_of-from}
use Rattle.aio_base.proofs.Searching.{false_unless, of_not, filtered_lost, filtered_found, mapped_found}
use Rattle.aio_laws.proofs.storings.Places.{emptied, same_place-eq, same_place-refl}
use Rattle.aio_laws.proofs.storings.Kept.{held_same}
use Rattle.aio_laws.proofs.runs.Apart.{Apart, found_apart, same_element, filtered_apart, mapped_apart}
use Rattle.aio_laws.proofs.storings.Taking.{cleared, given, takes_each, cleared_at, no_place, gives_each}
use Rattle.aio_laws.proofs.storings.Holding.{Holding, holding_with, holder, held, Orders, Stands}

abbrev of_direction : ℕ → Dir → ListenerEntry → Bool
of_direction serial dir l = is_of serial dir l.serial l.dir

abbrev silent : ℕ → Dir → ListenerEntry → ListenerEntry
silent serial dir l = if is_of serial dir l.serial l.dir then record l { waker = None } else l

abbrev silenced : ℕ → Dir → List ListenerEntry → List ListenerEntry
silenced serial dir listeners = map (λ (l : ListenerEntry). if is_of serial dir l.serial l.dir then record l { waker = None } else l) listeners

-- the places of the listeners of a direction
abbrev ears : ℕ → Dir → List ListenerEntry → List Place
ears serial dir listeners = map (λ (l : ListenerEntry). OfListener l.number) (filter (λ (l : ListenerEntry). is_of serial dir l.serial l.dir) listeners)

either_silent : (here : Bool) (l : ListenerEntry) → (let m : ListenerEntry = cond here (record l { waker = None }) l in m.number) ≡ l.number
either_silent true l = refl
either_silent false l = refl

silent_number : (serial : ℕ) (dir : Dir) (l : ListenerEntry) → (silent serial dir l).number ≡ l.number
silent_number serial dir l = either_silent (is_of serial dir l.serial l.dir) l

-- ## Poll waiters

-- no waiter of one direction is of another
apart_from : (serial : ℕ) (dir : Dir) (n : ℕ) (d : Dir) (p : PollWaiter) → is_of serial dir n d ≡ false → not (is_of serial dir p.serial p.dir) ≡ false
    → p.serial ≡ n → p.dir ≡ d → ⊥
apart_from serial dir n d p other goes at_serial at_dir =
    let there = is_of-eq serial dir p.serial p.dir (of_not (is_of serial dir p.serial p.dir) goes) in
    let same = is_of-from serial dir n d (sym at_serial ∙ there.0) (sym at_dir ∙ there.1) in
    cc (other, same)

none_out : (b : Bool) (o : Option PollWaiter) → option_map (λ (p : PollWaiter). p.waker) (cond b None o) ≡ cond b None (option_map (λ (p : PollWaiter). p.waker) o)
none_out true o = refl
none_out false o = refl

polls_cleared_step : (polls : List PollWaiter) (serial : ℕ) (dir : Dir) (n : ℕ) (d : Dir) (here : Bool) → is_of serial dir n d ≡ here
    → find (λ (p : PollWaiter). is_of n d p.serial p.dir) (without_waiter polls serial dir)
    ≡ cond here None (find (λ (p : PollWaiter). is_of n d p.serial p.dir) polls)
polls_cleared_step polls serial dir n d true same =
    let of = is_of-eq serial dir n d same in
    filtered_lost (λ (p : PollWaiter). is_of n d p.serial p.dir) (λ (p : PollWaiter). not (is_of serial dir p.serial p.dir)) polls
    (λ p among stays. false_unless (is_of n d p.serial p.dir) (λ (here : is_of n d p.serial p.dir ≡ true).
    let at = is_of-eq n d p.serial p.dir here in
    let there = is_of-from serial dir p.serial p.dir (at.0 ∙ of.0) (at.1 ∙ of.1) in
    let gone : false ≡ true = sym (ap not there) ∙ stays in cc))
polls_cleared_step polls serial dir n d false other =
    filtered_found (λ (p : PollWaiter). is_of n d p.serial p.dir) (λ (p : PollWaiter). not (is_of serial dir p.serial p.dir)) polls
    (λ p among goes. false_unless (is_of n d p.serial p.dir) (λ (here : is_of n d p.serial p.dir ≡ true).
    let at = is_of-eq n d p.serial p.dir here in
    apart_from serial dir n d p other goes at.0 at.1))

pub polls_cleared : (polls : List PollWaiter) (serial : ℕ) (dir : Dir) (n : ℕ) (d : Dir)
    → poll_waiter (without_waiter polls serial dir) n d ≡ cond (same_place (OfPoll n d) (OfPoll serial dir)) None (poll_waiter polls n d)
polls_cleared polls serial dir n d =
    ap (option_map (λ (p : PollWaiter). p.waker)) (polls_cleared_step polls serial dir n d (is_of serial dir n d) refl)
    ∙ none_out (is_of serial dir n d) (find (λ (p : PollWaiter). is_of n d p.serial p.dir) polls)

-- ## Listeners

-- whether the number is that of a listener of the direction
abbrev is_heard : ℕ → Dir → List ListenerEntry → ℕ → Bool
is_heard serial dir listeners number = list_any (same_place (OfListener number)) (ears serial dir listeners)

listener_number : (m n : ℕ) → OfListener m ≡ OfListener n → m ≡ n
listener_number m n e = cc

listeners_differ : (m n : ℕ) → m ≢ n → same_place (OfListener m) (OfListener n) ≡ false
listeners_differ m n apart = ne_eqb m n apart

heard_from : (serial : ℕ) (dir : Dir) (listeners : List ListenerEntry) (number : ℕ) → is_heard serial dir listeners number ≡ true
    → (l : ListenerEntry) × Contains listeners l × (of_direction serial dir l ≡ true) × (l.number ≡ number)
heard_from serial dir listeners number heard =
    let some = any_gives (same_place (OfListener number)) (ears serial dir listeners) heard in
    let image = mapped_from (λ (l : ListenerEntry). OfListener l.number) (filter (of_direction serial dir) listeners) some.0 some.1 in (
      image.0,
      filtered_is_in (of_direction serial dir) listeners image.0 image.1,
      filtered_passes (of_direction serial dir) listeners image.0 image.1,
      listener_number image.0.number number (image.2 ∙ sym (same_place-eq (OfListener number) some.0 some.2)),
    )

is_heard_here : (serial : ℕ) (dir : Dir) (listeners : List ListenerEntry) (l : ListenerEntry) → Contains listeners l → of_direction serial dir l ≡ true
    → is_heard serial dir listeners l.number ≡ true
is_heard_here serial dir listeners l among of =
    any_from (same_place (OfListener l.number)) (ears serial dir listeners) (OfListener l.number)
    (image_is_in (λ (l : ListenerEntry). OfListener l.number) (filter (of_direction serial dir) listeners) l
    (passing_is_kept (of_direction serial dir) listeners l of among))
    (same_place-refl (OfListener l.number))

-- what a listener holds that is found by its number, after the direction was taken
heard_step : (serial : ℕ) (dir : Dir) (listeners : List ListenerEntry) (l : ListenerEntry) (here heard : Bool) → Apart (λ (l : ListenerEntry). l.number) listeners
    → Contains listeners l → of_direction serial dir l ≡ here → is_heard serial dir listeners l.number ≡ heard
    → (let m : ListenerEntry = cond here (record l { waker = None }) l in m.waker) ≡ cond heard None l.waker
heard_step serial dir listeners l true true apart among e f = refl
heard_step serial dir listeners l true false apart among e f = let heard = is_heard_here serial dir listeners l among e in absurd (cc)
heard_step serial dir listeners l false true apart among e f =
    let h = heard_from serial dir listeners l.number f in
    let same = same_element (λ (l : ListenerEntry). l.number) listeners h.0 l apart h.1 among h.3 in
    let of : of_direction serial dir l ≡ true = sym (ap (of_direction serial dir) same) ∙ h.2 in
    absurd (cc)
heard_step serial dir listeners l false false apart among e f = refl

none_of_none : (b : Bool) → ◌≡◌ {A = Option Waker} None (cond b None None)
none_of_none true = refl
none_of_none false = refl

heard_found : (serial : ℕ) (dir : Dir) (listeners : List ListenerEntry) (number : ℕ) (o : Option ListenerEntry) → Apart (λ (l : ListenerEntry). l.number) listeners
    → find (is_listener number) listeners ≡ o
    → option_and_then (λ (l : ListenerEntry). l.waker) (option_map (silent serial dir) o)
    ≡ cond (is_heard serial dir listeners number) None (option_and_then (λ (l : ListenerEntry). l.waker) o)
heard_found serial dir listeners number None apart found = none_of_none (is_heard serial dir listeners number)
heard_found serial dir listeners number (Some l) apart found =
    let at = found_is_in (is_listener number) listeners l found in
    let same : l.number ≡ number = eqb-true l.number number at.1 in
    heard_step serial dir listeners l (of_direction serial dir l) (is_heard serial dir listeners number) apart at.0 refl
    (ap (is_heard serial dir listeners) same)

listeners_cleared : (serial : ℕ) (dir : Dir) (listeners : List ListenerEntry) (number : ℕ) → Apart (λ (l : ListenerEntry). l.number) listeners
    → option_and_then (λ (l : ListenerEntry). l.waker) (find (is_listener number) (silenced serial dir listeners))
    ≡ cond (is_heard serial dir listeners number) None (option_and_then (λ (l : ListenerEntry). l.waker) (find (is_listener number) listeners))
listeners_cleared serial dir listeners number apart =
    ap (option_and_then (λ (l : ListenerEntry). l.waker))
    (mapped_found (silent serial dir) (is_listener number) (is_listener number) (λ l. ap (λ n. n == number) (silent_number serial dir l)) listeners)
    ∙ heard_found serial dir listeners number (find (is_listener number) listeners) apart refl

-- ## A direction is taken

direction_cleared : (polls : List PollWaiter) (listeners : List ListenerEntry) (registrations : List Registration) (serial : ℕ) (dir : Dir)
    → Apart (λ (l : ListenerEntry). l.number) listeners → (q : Place)
    → holder (without_waiter polls serial dir) (silenced serial dir listeners) registrations q
    ≡ cleared (OfPoll serial dir ∷ ears serial dir listeners) (holder polls listeners registrations) q
direction_cleared polls listeners registrations serial dir apart (OfPoll n d) =
    polls_cleared polls serial dir n d
    ∙ sym (cleared_at (ears serial dir listeners) (emptied (OfPoll serial dir) (holder polls listeners registrations)) (OfPoll n d)
    ∙ ap (λ b. cond b None (emptied (OfPoll serial dir) (holder polls listeners registrations) (OfPoll n d)))
    (no_place (λ (l : ListenerEntry). OfListener l.number) (OfPoll n d) (λ l. refl) (filter (of_direction serial dir) listeners)))
direction_cleared polls listeners registrations serial dir apart (OfListener number) =
    listeners_cleared serial dir listeners number apart
    ∙ sym (cleared_at (ears serial dir listeners) (emptied (OfPoll serial dir) (holder polls listeners registrations)) (OfListener number))
direction_cleared polls listeners registrations serial dir apart (OfTimer id) =
    sym (cleared_at (ears serial dir listeners) (emptied (OfPoll serial dir) (holder polls listeners registrations)) (OfTimer id)
    ∙ ap (λ b. cond b None (holder polls listeners registrations (OfTimer id)))
    (no_place (λ (l : ListenerEntry). OfListener l.number) (OfTimer id) (λ l. refl) (filter (of_direction serial dir) listeners)))

consed : (o : Option Waker) (ws : List Waker) → cons_option o ws ≡ option_to_list o ++ ws
consed None ws = refl
consed (Some w) ws = refl

holds_step : (here : Bool) (l : ListenerEntry) (ls : List ListenerEntry) (ws : List Waker) → flat_map (λ (l : ListenerEntry). option_to_list l.waker) ls ≡ ws
    → flat_map (λ (l : ListenerEntry). option_to_list l.waker) (cond here (l ∷ ls) ls) ≡ option_to_list (cond here l.waker None) ++ ws
holds_step true l ls ws rest = ap (λ more. option_to_list l.waker ++ more) rest
holds_step false l ls ws rest = rest

holds_all : (serial : ℕ) (dir : Dir) (listeners : List ListenerEntry)
    → flat_map (λ (l : ListenerEntry). option_to_list l.waker) (filter (of_direction serial dir) listeners) ≡ listener_wakers listeners serial dir
holds_all serial dir [] = refl
holds_all serial dir (l ∷ listeners) =
    holds_step (of_direction serial dir l) l (filter (of_direction serial dir) listeners) (listener_wakers listeners serial dir) (holds_all serial dir listeners)
    ∙ sym (consed (cond (of_direction serial dir l) l.waker None) (listener_wakers listeners serial dir))

direction_given : (polls : List PollWaiter) (listeners : List ListenerEntry) (registrations : List Registration) (serial : ℕ) (dir : Dir)
    → Apart (λ (l : ListenerEntry). l.number) listeners
    → given (OfPoll serial dir ∷ ears serial dir listeners) (holder polls listeners registrations)
    ≡ option_to_list (poll_waiter polls serial dir) ++ listener_wakers listeners serial dir
direction_given polls listeners registrations serial dir apart =
    ap (λ more. option_to_list (poll_waiter polls serial dir) ++ more)
    (gives_each (λ (l : ListenerEntry). l.number) (λ (l : ListenerEntry). l.waker) OfListener
    (emptied (OfPoll serial dir) (holder polls listeners registrations)) listeners_differ
    (filter (of_direction serial dir) listeners) (filtered_apart (λ (l : ListenerEntry). l.number) (of_direction serial dir) listeners apart)
    (λ l among. ap (option_and_then (λ (l : ListenerEntry). l.waker))
    (found_apart (λ (l : ListenerEntry). l.number) listeners l apart (filtered_is_in (of_direction serial dir) listeners l among)))
    ∙ holds_all serial dir listeners)

-- the parts after a direction was taken
abbrev heard : ℕ → Dir → Holding → Holding
heard serial dir h = record h {
  polls = without_waiter h.polls serial dir;
  listeners = silenced serial dir h.listeners;
  taken = h.taken ++ (option_to_list (poll_waiter h.polls serial dir) ++ listener_wakers h.listeners serial dir);
}

heard_orders : (serial : ℕ) (dir : Dir) (h : Holding) → Orders h → Orders (heard serial dir h)
heard_orders serial dir h o = record {
  numbers_differ = mapped_apart (λ (l : ListenerEntry). l.number) (silent serial dir) (silent_number serial dir) h.listeners o.numbers_differ;
  numbers_drawn = λ l among.
      let image = mapped_from (silent serial dir) h.listeners l among in
      subst (λ n. n ≤ h.drawn) (sym (silent_number serial dir image.0) ∙ ap (λ (l : ListenerEntry). l.number) image.2) (o.numbers_drawn image.0 image.1);
  ids_differ = o.ids_differ;
  ids_drawn = o.ids_drawn;
}

direction_stands : (serial : ℕ) (dir : Dir) (h : Holding) (wakes : List Waker) (woken : List (List Stored)) (l : Storings) → Stands h wakes woken l
    → Stands (heard serial dir h) wakes woken (each_taken (OfPoll serial dir ∷ ears serial dir h.listeners) l)
direction_stands serial dir h wakes woken l s =
    let t = takes_each (OfPoll serial dir ∷ ears serial dir h.listeners) (held h) l s.kept in
    let apart = s.orders.numbers_differ in
    record {
      kept = held_same _ (held (heard serial dir h)) _ (direction_cleared h.polls h.listeners h.registrations serial dir apart) t.kept;
      orders = heard_orders serial dir h s.orders;
      taken_is = t.taken_is ∙ ap (λ front. front ++ given (OfPoll serial dir ∷ ears serial dir h.listeners) (held h)) s.taken_is
          ∙ ap (λ more. h.taken ++ more) (direction_given h.polls h.listeners h.registrations serial dir apart);
      waking_is = ap wakers t.waking ∙ s.waking_is;
      woken_is = t.woken ∙ s.woken_is;
    }

-- ## The directions of an event

taken_after : (ps qs : List Place) (l : Storings) → each_taken (ps ++ qs) l ≡ each_taken qs (each_taken ps l)
taken_after [] qs l = refl
taken_after (p ∷ ps) qs l = taken_after ps qs (taken_at p l)

same_ear : (here : Bool) (l m : ListenerEntry) (ls ms : List ListenerEntry) → m.number ≡ l.number
    → map (λ (l : ListenerEntry). OfListener l.number) ms ≡ map (λ (l : ListenerEntry). OfListener l.number) ls
    → map (λ (l : ListenerEntry). OfListener l.number) (cond here (m ∷ ms) ms) ≡ map (λ (l : ListenerEntry). OfListener l.number) (cond here (l ∷ ls) ls)
same_ear true l m ls ms same rest = rw (same, rest) refl
same_ear false l m ls ms same rest = rest

either_of : (n : ℕ) (d : Dir) (here : Bool) (l : ListenerEntry) → of_direction n d (cond here (record l { waker = None }) l) ≡ of_direction n d l
either_of n d true l = refl
either_of n d false l = refl

-- taking a direction moves no listener
same_ears : (serial : ℕ) (dir : Dir) (n : ℕ) (d : Dir) (listeners : List ListenerEntry) → ears n d (silenced serial dir listeners) ≡ ears n d listeners
same_ears serial dir n d [] = refl
same_ears serial dir n d (l ∷ listeners) =
    rw (either_of n d (of_direction serial dir l) l)
    (same_ear (of_direction n d l) l (silent serial dir l) (filter (of_direction n d) listeners) (filter (of_direction n d) (silenced serial dir listeners))
    (silent_number serial dir l) (same_ears serial dir n d listeners))

same_places : (w : World) (serial begin : ℕ) (dir : Dir) (dirs : List Dir)
    → flat_map (places_of (without_waiters w serial begin dir) serial) dirs ≡ flat_map (places_of w serial) dirs
same_places w serial begin dir [] = refl
same_places w serial begin dir (d ∷ dirs) =
    ap (λ more. (OfPoll serial d ∷ more) ++ flat_map (places_of (without_waiters w serial begin dir) serial) dirs) (same_ears serial dir serial d w.listeners)
    ∙ ap (λ more. places_of w serial d ++ more) (same_places w serial begin dir dirs)

pub directions_stand : (dirs : List Dir) (w : World) (serial begin : ℕ) (taken wakes : List Waker) (woken : List (List Stored)) (l : Storings)
    → Stands (holding_with w taken) wakes woken l
    → Stands (holding_with (world_taken w serial begin dirs) (taken ++ wakers_taken w serial begin dirs)) wakes woken (each_taken (flat_map (places_of w serial) dirs) l)
directions_stand [] w serial begin taken wakes woken l s = subst (λ t. Stands (holding_with w t) wakes woken l) (sym (append-nil taken)) s
directions_stand (dir ∷ dirs) w serial begin taken wakes woken l s =
    let v = without_waiters w serial begin dir in
    let first = direction_stands serial dir (holding_with w taken) wakes woken l s in
    let rest = directions_stand dirs v serial begin (taken ++ waiters_of w serial dir) wakes woken (each_taken (places_of w serial dir) l) first in
    let after : each_taken (flat_map (places_of v serial) dirs) (each_taken (places_of w serial dir) l) ≡ each_taken (flat_map (places_of w serial) (dir ∷ dirs)) l =
    ap (λ ps. each_taken ps (each_taken (places_of w serial dir) l)) (same_places w serial begin dir dirs)
    ∙ sym (taken_after (places_of w serial dir) (flat_map (places_of w serial) dirs) l) in
    subst (λ m. Stands (holding_with (world_taken v serial begin dirs) (taken ++ wakers_taken w serial begin (dir ∷ dirs))) wakes woken m) after
    (subst (λ t. Stands (holding_with (world_taken v serial begin dirs) t) wakes woken (each_taken (flat_map (places_of v serial) dirs) (each_taken (places_of w serial dir) l)))
    (append_assoc taken (waiters_of w serial dir) (wakers_taken v serial begin dirs)) rest)
