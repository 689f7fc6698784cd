-- What a world has of a listener of a core, and of the others of its direction.
use Rattle.std.proofs.Common.{◌≡◌, ◌≢◌, ℕ, nat_eq, Bool, true, false, not, ◌&&◌, List, map, find, filter, Option, None, Some, IfSome, is_some, option_map, refl, sym, ap, ◌∙◌, subst, ⊎_elim}
use Rattle.std.specs.List.{Contains, IsDistinct}
use Rattle.std.proofs.lemmas.Bool.{cases_eq, false≢true, eq-eqb, ne_eqb}
use Rattle.aio_base.specs.declared.names.Dir.{Dir}
use Rattle.aio_base.specs.Devices.{Interests}
use Rattle.aio_base.specs.Machine.{is_listener}
use Rattle.aio_base.specs.Machine as machine
use Rattle.aio_base.specs.Rounds.{rounds_at}
use Rattle.aio_base.specs.World.{World, LiveSource, ListenerEntry, is_of}
use Rattle.aio_base.proofs.Membership.{filtered_is_in, filtered_passes}
use Rattle.aio_base.proofs.Searching.{false_unless}
use Rattle.aio_base.proofs.WaiterLemmas.{is_of-eq, is_of-from}
use Rattle.aio_listen.specs.declared.ticket.Ticket.{Ticket}
use Rattle.aio_listen.specs.Tickets.{same_ticket}
use Rattle.aio_listen.proofs.TicketLemmas.{same_ticket-refl, same_ticket-true}
use Rattle.aio_react.specs.declared.entries.Listener.{Listener}
use Rattle.aio_react.specs.Cores.{CoreValue, AreListed, HaveOwnTickets, ticket_of}
use Rattle.aio_facts.specs.Facts.{is_polled_of, serial_in}
use Rattle.aio_react.specs.Numbers.{value_of}
use Rattle.aio_react.specs.Standing.{Remembers, ListenerStands, numbers_in, ticket_in, StandsWithin}
use Rattle.aio_facts.proofs.Departures.{Numbered, one_key}
use Rattle.aio_react.proofs.listeners.HeardAgain.{own_tickets}
use Rattle.aio_facts.proofs.PolledEntries.{filters_swap, kept_all, found_of, same_entry}

-- the entry of a listener
pub record Known (w : World) (number : ℕ) (l : Listener) : Type 0 where
  pub entry : ListenerEntry
  pub found : find (is_listener number) w.listeners ≡ Some entry
  pub serial_is : serial_in w.live l.key.0 ≡ Some entry.serial
  pub dir_is : entry.dir ≡ l.dir
  pub remembers : Remembers (numbers_in l.first) (option_map (rounds_at w.begun) entry.position)

known_by : (w : World) (number : ℕ) (l : Listener) (value : Option Listener) (found : Option ListenerEntry) → find (is_listener number) w.listeners ≡ found → value ≡ Some l
    → ListenerStands w.live w.begun value found → Known w number l
known_by w number l None found at is stands = absurd (cc)
known_by w number l (Some m) None at is stands = absurd stands
known_by w number l (Some m) (Some entry) at is stands =
    let same : m ≡ l = cc in
    subst (λ (l : Listener). Known w number l) same (record { entry = entry; found = at; serial_is = stands.0; dir_is = stands.1; remembers = stands.2 })

pub known : (bound : ℕ) (told : Option Interests) (core : CoreValue) (w : World) (number : ℕ) (l : Listener) → StandsWithin bound told core w → value_of core.listeners number ≡ Some l → Known w number l
known bound told core w number l stands is = known_by w number l (value_of core.listeners number) (find (is_listener number) w.listeners) refl is (stands.listeners.each number)

unknown_by : (live : List LiveSource) (begun : List ℕ) (value : Option Listener) (found : Option ListenerEntry) → value ≡ None → ListenerStands live begun value found → found ≡ None
unknown_by live begun None None is stands = refl
unknown_by live begun None (Some entry) is stands = absurd stands
unknown_by live begun (Some l) found is stands = absurd (cc)

-- where a core has no listener the world has none
pub unknown : (bound : ℕ) (told : Option Interests) (core : CoreValue) (w : World) (number : ℕ) → StandsWithin bound told core w → value_of core.listeners number ≡ None
    → find (is_listener number) w.listeners ≡ None
unknown bound told core w number stands is = unknown_by w.live w.begun (value_of core.listeners number) (find (is_listener number) w.listeners) is (stands.listeners.each number)

abbrev pub Apart : List ListenerEntry → Type 0
Apart entries = IsDistinct nat_eq (map (λ (l : ListenerEntry). l.number) entries)

-- an entry of the number is the listener's
pub is_its : (w : World) (number : ℕ) (l : Listener) (k : Known w number l) → Apart w.listeners → (x : ListenerEntry) → Contains w.listeners x → x.number ≡ number → x ≡ k.entry
is_its w number l k distinct x among is = same_entry w.listeners x k.entry number distinct k.found among is

pub is_mine : (w : World) (number : ℕ) (l : Listener) (k : Known w number l) → Apart w.listeners → (x : ListenerEntry) → Contains w.listeners x → x.number ≡ number
    → is_of k.entry.serial l.dir x.serial x.dir ≡ true
is_mine w number l k distinct x among is =
    let same = is_its w number l k distinct x among is in
    is_of-from k.entry.serial l.dir x.serial x.dir (ap (λ (x : ListenerEntry). x.serial) same) (ap (λ (x : ListenerEntry). x.dir) same ∙ k.dir_is)

-- ## A listener that was not polled

unpolled_position : (begun : List ℕ) (first : Option (ℕ × ℕ)) (position : Option ℕ) → first ≡ None → Remembers first (option_map (rounds_at begun) position) → is_some position ≡ false
unpolled_position begun None None is r = refl
unpolled_position begun None (Some p) is r = absurd r
unpolled_position begun (Some ticks) position is r = absurd (cc)

pub unpolled : (w : World) (number : ℕ) (l : Listener) (k : Known w number l) → l.first ≡ None → is_some k.entry.position ≡ false
unpolled w number l k is = unpolled_position w.begun (numbers_in l.first) k.entry.position (ap numbers_in is) k.remembers

polled_of : (here polled : Bool) → (here && polled) ≡ true → (here ≡ true) × (polled ≡ true)
polled_of true true is = (refl, refl)
polled_of true false is = absurd (false≢true is)
polled_of false polled is = absurd (false≢true is)

-- its entry is not among the polled ones
pub unpolled_others : (w : World) (number : ℕ) (l : Listener) (k : Known w number l) → Apart w.listeners → l.first ≡ None → (n : ℕ) (d : Dir)
    → (x : ListenerEntry) → Contains (filter (is_polled_of n d) w.listeners) x → x.number ≢ number
unpolled_others w number l k distinct is n d x among same =
    let its = is_its w number l k distinct x (filtered_is_in (is_polled_of n d) w.listeners x among) same in
    let polled = (polled_of (is_of n d x.serial x.dir) (is_some x.position) (filtered_passes (is_polled_of n d) w.listeners x among)).1 in
    false≢true (sym (unpolled w number l k is) ∙ sym (ap (λ (x : ListenerEntry). is_some x.position) its) ∙ polled)

-- ## A listener that was polled

-- whether an entry is of a ticket
abbrev pub is_of_ticket : Ticket → Option Ticket → Bool
is_of_ticket ticket None = false
is_of_ticket ticket (Some t) = same_ticket t ticket

other_ticket : (ticket : Ticket) (t : Option Ticket) → t ≢ Some ticket → is_of_ticket ticket t ≡ false
other_ticket ticket None apart = refl
other_ticket ticket (Some t) apart = false_unless (same_ticket t ticket) (λ same. apart (ap (λ (t : Ticket). Some t) (same_ticket-true t ticket same)))

other_entry : (live : List LiveSource) (begun : List ℕ) (l : Listener) (serial : ℕ) (ticket : Ticket) (value : Option Listener) (x : ListenerEntry) → Numbered live
    → serial_in live l.key.0 ≡ Some serial → x.serial ≡ serial → x.dir ≡ l.dir → ticket_of l ≡ Some ticket → ListenerStands live begun value (Some x)
    → IfSome value (λ (m : Listener). HaveOwnTickets l m) → is_of_ticket ticket (ticket_in value) ≡ false
other_entry live begun l serial ticket None x numbered known same there is stands own = refl
other_entry live begun l serial ticket (Some m) x numbered known same there is stands own =
    other_ticket ticket (ticket_of m)
    (own_tickets l m ticket own (one_key live l.key.0 m.key.0 serial numbered known (stands.0 ∙ ap (λ (n : ℕ). Some n) same)) (sym there ∙ stands.1) is)

-- among the polled entries of its direction the one of its number is the one of its ticket
pub ticket_tells : (bound : ℕ) (told : Option Interests) (core : CoreValue) (w : World) (number : ℕ) (l : Listener) (ticket : Ticket) (k : Known w number l) → StandsWithin bound told core w
    → AreListed core.sources core.listeners → value_of core.listeners number ≡ Some l → ticket_of l ≡ Some ticket
    → (x : ListenerEntry) → Contains (filter (is_polled_of k.entry.serial l.dir) w.listeners) x → is_listener number x ≡ is_of_ticket ticket (ticket_in (value_of core.listeners x.number))
ticket_tells bound told core w number l ticket k stands listed is has x among =
    ⊎_elim
    (λ (same : x.number ≡ number).
    eq-eqb x.number number same
    ∙ sym (ap (λ n. is_of_ticket ticket (ticket_in (value_of core.listeners n))) same ∙ ap (λ (v : Option Listener). is_of_ticket ticket (ticket_in v)) is
    ∙ ap (is_of_ticket ticket) has ∙ same_ticket-refl ticket))
    (λ (apart : x.number ≢ number).
    let within = filtered_is_in (is_polled_of k.entry.serial l.dir) w.listeners x among in
    let of = is_of-eq k.entry.serial l.dir x.serial x.dir (polled_of (is_of k.entry.serial l.dir x.serial x.dir) (is_some x.position) (filtered_passes (is_polled_of k.entry.serial l.dir) w.listeners x among)).0 in
    ne_eqb x.number number apart
    ∙ sym (other_entry w.live w.begun l k.entry.serial ticket (value_of core.listeners x.number) x stands.sound.live.serials_differ k.serial_is of.0 of.1 has
    (subst (λ (y : Option ListenerEntry). ListenerStands w.live w.begun (value_of core.listeners x.number) y) (found_of w.listeners x stands.sound.listeners.numbers within) (stands.listeners.each x.number))
    (subst (λ (v : Option Listener). IfSome v (λ (l : Listener). IfSome (value_of core.listeners x.number) (λ (m : Listener). HaveOwnTickets l m))) is (listed.apart number x.number (λ (same : number ≡ x.number). apart (sym same))))))
    (cases_eq x.number number)

-- ## Without an entry

-- entries without one of another number
pub without_aside : (p : ListenerEntry → Bool) (number : ℕ) (ls : List ListenerEntry) → ((x : ListenerEntry) → Contains (filter p ls) x → x.number ≢ number)
    → filter p (machine.without_listener ls number) ≡ filter p ls
without_aside p number ls others =
    filters_swap p (λ (x : ListenerEntry). not (is_listener number x)) ls
    ∙ kept_all (λ (x : ListenerEntry). not (is_listener number x)) (filter p ls) (λ x among. ap not (ne_eqb x.number number (others x among)))
