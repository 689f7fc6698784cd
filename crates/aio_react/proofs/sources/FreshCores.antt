-- The numbers that a core remembers tell freshness as the search of the past does.
use Rattle.std.proofs.Common.{◌≡◌, ◌∙◌, ℕ, Option, Some, option_map, sym, ap, subst, find}
use Rattle.aio_base.specs.declared.names.Dir.{Dir}
use Rattle.aio_base.specs.Devices.{Interests}
use Rattle.aio_base.specs.Machine.{is_fresh_since, is_listener}
use Rattle.aio_base.specs.Rounds.{rounds_at}
use Rattle.aio_base.specs.World.{World, ListenerEntry, is_broken, mark_of, serial_of}
use Rattle.aio_source.specs.Rules.{direction_of, is_above, is_ready}
use Rattle.aio_source.specs.declared.answers.Listened.{Listened}
use Rattle.aio_react.specs.declared.entries.Listener.{Listener}
use Rattle.aio_react.specs.declared.entries.SourceEntry.{SourceEntry}
use Rattle.aio_react.specs.Cores.{CoreValue, entry_at}
use Rattle.aio_facts.specs.Facts.{facts_in, serial_in}
use Rattle.aio_react.specs.Numbers.{value_of}
use Rattle.aio_react.specs.Standing.{ListenerStands, PlaceStands, Remembers, SourceStands, Stands, numbers_in}
use Rattle.aio_react.proofs.sources.DirectionFacts.{fresh_is_ready, remembered_fresh}

source_of : (told : Option Interests) (core : CoreValue) (w : World) (key : ℕ) (e : SourceEntry) (serial : ℕ) → Stands told core w → entry_at core.sources key ≡ Some e
    → serial_in w.live key ≡ Some serial → SourceStands core.listeners e.source (is_broken w serial) (facts_in w serial)
source_of told core w key e serial stands is lives =
    subst (λ (n : Option ℕ). PlaceStands core.listeners (Some e) n (is_broken w) (facts_in w)) lives
    (subst (λ (place : Option SourceEntry). PlaceStands core.listeners place (serial_in w.live key) (is_broken w) (facts_in w)) is (stands.sources key))

pub ready_tells : (told : Option Interests) (core : CoreValue) (w : World) (key : ℕ) (dir : Dir) (e : SourceEntry) (serial : ℕ) → Stands told core w
    → entry_at core.sources key ≡ Some e → serial_of w key ≡ Some serial
    → is_ready (direction_of e.source.directions dir) ≡ is_fresh_since w serial dir (mark_of w.marks serial dir)
ready_tells told core w key dir e serial stands is lives =
    sym (fresh_is_ready core.listeners (direction_of e.source.directions dir) w serial dir stands.sound.past.of_rounds ((source_of told core w key e serial stands is lives).each dir))

pub above_tells : (told : Option Interests) (core : CoreValue) (w : World) (number : ℕ) (l : Listener) (first : Listened) (e : SourceEntry) (entry : ListenerEntry) → Stands told core w
    → value_of core.listeners number ≡ Some l → l.first ≡ Some first → entry_at core.sources l.key.0 ≡ Some e → find (is_listener number) w.listeners ≡ Some entry
    → is_above first.a first.b (direction_of e.source.directions l.dir).tick ≡ is_fresh_since w entry.serial entry.dir entry.position
above_tells told core w number l first e entry stands is polled there found =
    let one : ListenerStands w.live w.begun (Some l) (Some entry) =
    subst (λ (x : Option ListenerEntry). ListenerStands w.live w.begun (Some l) x) found
    (subst (λ (v : Option Listener). ListenerStands w.live w.begun v (find (is_listener number) w.listeners)) is (stands.listeners.each number)) in
    let remembers : Remembers (Some (first.a, first.b)) (option_map (rounds_at w.begun) entry.position) =
    subst (λ (f : Option Listened). Remembers (numbers_in f) (option_map (rounds_at w.begun) entry.position)) polled one.2 in
    let source = source_of told core w l.key.0 e entry.serial stands there one.0 in
    ap (λ (d : Dir). is_above first.a first.b (direction_of e.source.directions d).tick) (sym one.1)
    ∙ sym (remembered_fresh w.begun w.handled entry.serial entry.dir (direction_of e.source.directions entry.dir).tick (Some (first.a, first.b)) entry.position stands.sound.past.of_rounds
    ((source.each entry.dir).tick_is) remembers)
