-- What a world has of the directions once the waiters of one were taken.
use Rattle.std.proofs.Common.{◌≡◌, ℕ, Bool, true, false, ◌&&◌, cond, max, if◌then◌else◌, List, [], ◌∷◌, map, filter, Option, None, Some, is_some, refl, ap, ◌∙◌}
use Rattle.aio_base.specs.declared.names.Dir.{Dir}
use Rattle.aio_base.specs.declared.names.Waker.{Waker}
use Rattle.aio_base.specs.Machine.{without_waiters}
use Rattle.aio_base.specs.Rounds.{rounds_at, last_tick}
use Rattle.aio_base.specs.World.{World, ListenerEntry, is_of}
use Rattle.aio_listen.specs.declared.ticket.Ticket.{Ticket}
use Rattle.aio_listen.specs.Listening.{emptied}
use Rattle.aio_source.specs.Rules as source
use Rattle.aio_source.specs.Values.{DirectionValue}
use Rattle.aio_react.specs.declared.entries.Listener.{Listener}
use Rattle.aio_facts.specs.Facts.{facts_in, is_polled_of}
use Rattle.aio_react.specs.Numbers.{value_of}
use Rattle.aio_react.specs.Standing.{DirectionStands, polled_entry, ticket_in}
use Rattle.aio_facts.proofs.Taken.{cleared, cleared_same, itself, tick_more, waiter_gone}

-- ## The listeners

-- an entry without its waker
abbrev cut : Option Ticket × Option Waker → Option Ticket × Option Waker
cut p = (p.0, None)

emptied_step : (listeners : List (Option Listener)) (mine polled test : Bool) (l : ListenerEntry) (rest rest' : List ListenerEntry) → test ≡ mine && polled
    → map (polled_entry listeners) rest' ≡ map cut (map (polled_entry listeners) rest)
    → map (polled_entry listeners) (cond test ((if mine then record l { waker = None } else l) ∷ rest') rest') ≡ map cut (map (polled_entry listeners) (cond (mine && polled) (l ∷ rest) rest))
emptied_step listeners true true test l rest rest' is same = rw is (ap (λ (ps : List (Option Ticket × Option Waker)). (ticket_in (value_of listeners l.number), None) ∷ ps) same)
emptied_step listeners true false test l rest rest' is same = rw is same
emptied_step listeners false polled test l rest rest' is same = rw is same

polled_emptied : (listeners : List (Option Listener)) (serial : ℕ) (dir : Dir) (ls : List ListenerEntry)
    → map (polled_entry listeners) (filter (is_polled_of serial dir) (map (cleared serial dir) ls)) ≡ map cut (map (polled_entry listeners) (filter (is_polled_of serial dir) ls))
polled_emptied listeners serial dir [] = refl
polled_emptied listeners serial dir (l ∷ ls) =
    emptied_step listeners (is_of serial dir l.serial l.dir) (is_some l.position) (is_polled_of serial dir (cleared serial dir l)) l
    (filter (is_polled_of serial dir) ls) (filter (is_polled_of serial dir) (map (cleared serial dir) ls)) (cleared_same (is_polled_of serial dir) serial dir l refl)
    (polled_emptied listeners serial dir ls)

kept_emptied : (entries : List (Ticket × Option Waker))
    → map cut (map (λ (e : Ticket × Option Waker). (Some e.0, e.1)) entries) ≡ map (λ (e : Ticket × Option Waker). (Some e.0, e.1)) (emptied entries)
kept_emptied [] = refl
kept_emptied (e ∷ entries) = ap (λ (ps : List (Option Ticket × Option Waker)). (Some e.0, None) ∷ ps) (kept_emptied entries)

-- ## The direction itself

pub taken_here : (listeners : List (Option Listener)) (d : DirectionValue) (w : World) (serial begin : ℕ) (dir : Dir) (number : ℕ) → rounds_at w.begun begin ≡ number
    → DirectionStands listeners d (facts_in w serial dir) → DirectionStands listeners (source.handled number d) (facts_in (without_waiters w serial begin dir) serial dir)
taken_here listeners d w serial begin dir number is stands = record {
  waiter_is = waiter_gone w.poll_waiters serial dir;
  tick_is = tick_more w.begun w.handled (record { serial = serial; dir = dir; begin = begin }) serial dir
      ∙ ap (λ (here : Bool). max (last_tick w.begun w.handled serial dir) (if here then rounds_at w.begun begin else 0)) (itself serial dir)
      ∙ ap (λ (n : ℕ). max (last_tick w.begun w.handled serial dir) n) is ∙ ap (λ (n : ℕ). max n number) stands.tick_is;
  remembers = stands.remembers;
  entries_are = polled_emptied listeners serial dir w.listeners ∙ ap (map cut) stands.entries_are ∙ kept_emptied d.listeners.entries;
}
