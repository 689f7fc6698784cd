-- What the numbers and entries that a source keeps of a direction say of the world: freshness, who waits, and what the waiters want.
use Rattle.std.proofs.Common.{◌≡◌, ℕ, Bool, true, false, not, ◌&&◌, if◌then◌else◌, IsTrue, List, [], ◌∷◌, ◌++◌, map, filter, Option, None, Some, is_some, option_map, option_to_list, refl, sym, ap, ◌∙◌}
use Rattle.std.specs.Prelude.{filter_map}
use Rattle.std.specs.List.{All, Contains, list_any, cons_option}
use Rattle.std.specs.Option.{option_map_or}
use Rattle.std.proofs.lemmas.List.Elements.{All-contains}
use Rattle.aio_base.specs.declared.names.Dir.{Dir}
use Rattle.aio_base.specs.declared.names.Waker.{Waker}
use Rattle.aio_base.specs.Rounds.{rounds_at, last_tick, AllBegun}
use Rattle.aio_base.specs.World.{World, HandledDirection, ListenerEntry, is_of, is_fresh, mark_of, same_dir, has_dir, is_empty_list, listener_wakers}
use Rattle.aio_base.specs.World as machine
use Rattle.aio_base.specs.Machine.{is_fresh_since}
use Rattle.aio_base.proofs.FreshnessLemmas.{is_fresh-remembered}
use Rattle.aio_base.proofs.DirectionLemmas.{among_passing, has_dir-where}
use Rattle.aio_base.proofs.Membership.{first_is_in, later_is_in}
use Rattle.aio_listen.specs.declared.ticket.Ticket.{Ticket}
use Rattle.aio_listen.specs.Listening.{wakers_of}
use Rattle.aio_source.specs.Rules.{is_above_both, is_ready, direction_of}
use Rattle.aio_source.specs.Rules as source
use Rattle.aio_source.specs.Values.{DirectionValue, SourceValue}
use Rattle.aio_react.specs.declared.entries.Listener.{Listener}
use Rattle.aio_facts.specs.Facts.{facts_in, is_polled_of}
use Rattle.aio_react.specs.Standing.{Remembers, DirectionStands, SourceStands, polled_entry}

-- ## Freshness

pub remembered_fresh : (begun : List ℕ) (handled : List HandledDirection) (serial : ℕ) (dir : Dir) (tick : ℕ) (ticks : Option (ℕ × ℕ)) (position : Option ℕ) → AllBegun handled begun
    → last_tick begun handled serial dir ≡ tick → Remembers ticks (option_map (rounds_at begun) position)
    → option_map_or (λ p. is_fresh handled serial dir p) position false ≡ is_above_both ticks tick
remembered_fresh begun handled serial dir tick None None all is r = refl
remembered_fresh begun handled serial dir tick None (Some p) all is r = absurd r
remembered_fresh begun handled serial dir tick (Some ticks) None all is r = absurd r
remembered_fresh begun handled serial dir tick (Some ticks) (Some p) all is r = is_fresh-remembered begun handled serial dir p ticks.1 all r.1 ∙ rw (is, r.0) refl

-- a direction is ready exactly where an event came since its last poll waiter was stored
pub fresh_is_ready : (listeners : List (Option Listener)) (d : DirectionValue) (w : World) (serial : ℕ) (dir : Dir) → AllBegun w.handled w.begun
    → DirectionStands listeners d (facts_in w serial dir) → is_fresh_since w serial dir (mark_of w.marks serial dir) ≡ is_ready d
fresh_is_ready listeners d w serial dir all stands =
    remembered_fresh w.begun w.handled serial dir d.tick d.ticks (mark_of w.marks serial dir) all stands.tick_is stands.remembers

-- ## Who waits

held_step : (mine polled : Bool) (held : Option Waker) (l : ListenerEntry) (rest : List ListenerEntry) (wakers : List Waker) → l.waker ≡ held
    → (IsTrue (is_some held) → IsTrue polled) → wakers ≡ filter_map (λ (k : ListenerEntry). k.waker) rest
    → cons_option (if mine then held else None) wakers ≡ filter_map (λ (k : ListenerEntry). k.waker) (if mine && polled then l ∷ rest else rest)
held_step true true held l rest wakers is holds same = rw (is, same) refl
held_step true false None l rest wakers is holds same = same
held_step true false (Some waker) l rest wakers is holds same = cc (holds refl)
held_step false polled held l rest wakers is holds same = same

-- where only polled listeners hold a waker, those of a direction are held by its polled ones
polled_hold : (ls : List ListenerEntry) (serial : ℕ) (dir : Dir) → ((l : ListenerEntry) → Contains ls l → IsTrue (is_some l.waker) → IsTrue (is_some l.position))
    → listener_wakers ls serial dir ≡ filter_map (λ (l : ListenerEntry). l.waker) (filter (is_polled_of serial dir) ls)
polled_hold [] serial dir holds = refl
polled_hold (l ∷ ls) serial dir holds =
    held_step (is_of serial dir l.serial l.dir) (is_some l.position) l.waker l (filter (is_polled_of serial dir) ls) (listener_wakers ls serial dir) refl (holds l (first_is_in l ls))
    (polled_hold ls serial dir (λ k among. holds k (later_is_in l ls k among)))

entry_wakers : (listeners : List (Option Listener)) (ls : List ListenerEntry)
    → filter_map (λ (p : Option Ticket × Option Waker). p.1) (map (polled_entry listeners) ls) ≡ filter_map (λ (l : ListenerEntry). l.waker) ls
entry_wakers listeners [] = refl
entry_wakers listeners (l ∷ ls) = ap (cons_option l.waker) (entry_wakers listeners ls)

kept_wakers : (entries : List (Ticket × Option Waker))
    → filter_map (λ (p : Option Ticket × Option Waker). p.1) (map (λ (e : Ticket × Option Waker). (Some e.0, e.1)) entries) ≡ wakers_of entries
kept_wakers [] = refl
kept_wakers (e ∷ entries) = ap (cons_option e.1) (kept_wakers entries)

abbrev pub OnlyPolledHold : List ListenerEntry → Type 0
OnlyPolledHold entries = All (λ (l : ListenerEntry). IsTrue (is_some l.waker) → IsTrue (is_some l.position)) entries

-- a direction has the waiters that its source keeps
pub waiters_stand : (listeners : List (Option Listener)) (d : DirectionValue) (w : World) (serial : ℕ) (dir : Dir) → OnlyPolledHold w.listeners
    → DirectionStands listeners d (facts_in w serial dir) → machine.waiters_of w serial dir ≡ source.waiters_of d
waiters_stand listeners d w serial dir holds stands =
    let wakers : listener_wakers w.listeners serial dir ≡ wakers_of d.listeners.entries =
    polled_hold w.listeners serial dir (λ l among. All-contains (λ (k : ListenerEntry). IsTrue (is_some k.waker) → IsTrue (is_some k.position)) w.listeners l holds among)
    ∙ sym (entry_wakers listeners (filter (is_polled_of serial dir) w.listeners))
    ∙ ap (filter_map (λ (p : Option Ticket × Option Waker). p.1)) stands.entries_are ∙ kept_wakers d.listeners.entries in
    ap (λ (waiter : Option Waker). option_to_list waiter ++ listener_wakers w.listeners serial dir) stands.waiter_is
    ∙ ap (λ (ws : List Waker). option_to_list d.waiter ++ ws) wakers

pub idle_stands : (listeners : List (Option Listener)) (d : DirectionValue) (w : World) (serial : ℕ) (dir : Dir) → OnlyPolledHold w.listeners
    → DirectionStands listeners d (facts_in w serial dir) → machine.is_idle w serial dir ≡ source.is_idle d
idle_stands listeners d w serial dir holds stands = ap (λ (ws : List Waker). is_empty_list ws) (waiters_stand listeners d w serial dir holds stands)

-- ## What the waiters want

-- the world's waiters of a source want the interest that the source wants
pub wanted_stands : (listeners : List (Option Listener)) (s : SourceValue) (w : World) (serial : ℕ) (broken : Bool) → OnlyPolledHold w.listeners
    → SourceStands listeners s broken (facts_in w serial) → (dir : Dir) → list_any (λ d. same_dir d dir) (machine.wanted w serial) ≡ has_dir (source.wanted s.directions) dir
wanted_stands listeners s w serial broken holds stands dir =
    among_passing (λ d. not (machine.is_idle w serial d)) dir _ refl
    ∙ ap not (idle_stands listeners (direction_of s.directions dir) w serial dir holds (stands.each dir))
    ∙ sym (has_dir-where (λ d. not (source.is_idle (direction_of s.directions d))) dir)
