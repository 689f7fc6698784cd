-- A poll gives what follows from what is known.
use Rattle.std.proofs.Common.{◌≡◌, ℕ, ◌<◌, Bool, true, false, ◌||◌, ◌&&◌, if◌then◌else◌, IsTrue, List, [], ◌∷◌, ◌++◌, map, filter, Option, None, Some, is_some, option_map, option_to_list, refl, ap, ◌∙◌}
use Rattle.std.specs.Prelude.{filter_map}
use Rattle.std.specs.List.{All, Contains, cons_option}
use Rattle.std.specs.Option.{option_map_or}
use Rattle.std.proofs.lemmas.List.Elements.{All-contains}
use Rattle.aio_base.specs.declared.names.Dir.{Dir}
use Rattle.aio_base.specs.declared.names.Waker.{Waker}
use Rattle.aio_base.specs.Machine.{is_fresh_since, is_waker, moved_on, poll_source, with_waiter}
use Rattle.aio_base.specs.Machine as machine
use Rattle.aio_base.specs.Rounds.{rounds_at, last_tick, AllBegun}
use Rattle.aio_base.specs.World.{PollerAnswer, HandledDirection, ListenerEntry, World, is_broken, is_empty_list, is_fresh, is_of, listener_wakers, mark_of, poll_waiter, without_mark}
use Rattle.aio_base.specs.World as world
use Rattle.aio_base.proofs.FreshnessLemmas.{is_fresh-ticks}
use Rattle.aio_base.proofs.Membership.{first_is_in, later_is_in}
use Rattle.aio_facts.specs.Facts.{facts_in, is_polled_of, serial_in}
use Rattle.aio_facts.specs.Sound.{Sound}
use Rattle.aio_facts.proofs.Waiting.{waiter_here, mark_gone, mark_here, serial_apart, dir_apart, seen_aside, stored_aside, all_begun}
use Rattle.aio_known.specs.Known.{ListenerKnown, PolledKnown, SourceKnown, direction_known, known_of, listeners_known, polled_known, source_known}
use Rattle.aio_known.specs.KnownSteps.{Follows, is_idle, is_later, pending, poll_at, stored, waiters, with_direction}
use Rattle.aio_known.proofs.Changing.{Alters, Changes, arm_changes, direction_alters, follows_either, known_changes, source_same, unchanged}

-- ## Freshness

-- a search of the past, by the two counts
pub later_known : (begun : List ℕ) (handled : List HandledDirection) (serial : ℕ) (dir : Dir) (position : Option ℕ) → AllBegun handled begun
    → option_map_or (λ p. is_fresh handled serial dir p) position false ≡ is_later (option_map (rounds_at begun) position) (last_tick begun handled serial dir)
later_known begun handled serial dir None all = refl
later_known begun handled serial dir (Some p) all = is_fresh-ticks begun handled serial dir p all

-- ## Who waits

abbrev pub OnlyPolledHold : List ListenerEntry → Type 0
OnlyPolledHold ls = All (λ (l : ListenerEntry). IsTrue (is_some l.waker) → IsTrue (is_some l.position)) ls

held_step : (begun : List ℕ) (mine polled : Bool) (held : Option Waker) (l : ListenerEntry) (rest : List ListenerEntry) (wakers : List Waker) → l.waker ≡ held
    → (IsTrue (is_some held) → IsTrue polled) → wakers ≡ filter_map (λ (p : PolledKnown). p.waker) (map (polled_known begun) rest)
    → cons_option (if mine then held else None) wakers
    ≡ filter_map (λ (p : PolledKnown). p.waker) (map (polled_known begun) (if mine && polled then l ∷ rest else rest))
held_step begun true true held l rest wakers is holds same = rw (is, same) refl
held_step begun true false None l rest wakers is holds same = same
held_step begun true false (Some waker) l rest wakers is holds same = cc (holds refl)
held_step begun false polled held l rest wakers is holds same = same

polled_hold : (begun : List ℕ) (ls : List ListenerEntry) (serial : ℕ) (dir : Dir)
    → ((l : ListenerEntry) → Contains ls l → IsTrue (is_some l.waker) → IsTrue (is_some l.position))
    → listener_wakers ls serial dir ≡ filter_map (λ (p : PolledKnown). p.waker) (map (polled_known begun) (filter (is_polled_of serial dir) ls))
polled_hold begun [] serial dir holds = refl
polled_hold begun (l ∷ ls) serial dir holds =
    held_step begun (is_of serial dir l.serial l.dir) (is_some l.position) l.waker l (filter (is_polled_of serial dir) ls) (listener_wakers ls serial dir) refl
    (holds l (first_is_in l ls)) (polled_hold begun ls serial dir (λ k among. holds k (later_is_in l ls k among)))

pub waiters_known : (w : World) (serial : ℕ) (dir : Dir) → OnlyPolledHold w.listeners
    → world.waiters_of w serial dir ≡ waiters (direction_known w.begun (facts_in w serial dir))
waiters_known w serial dir holds =
    ap (λ (ws : List Waker). option_to_list (poll_waiter w.poll_waiters serial dir) ++ ws)
    (polled_hold w.begun w.listeners serial dir
    (λ l among. All-contains (λ (k : ListenerEntry). IsTrue (is_some k.waker) → IsTrue (is_some k.position)) w.listeners l holds among))

pub idle_known : (w : World) (serial : ℕ) (dir : Dir) → OnlyPolledHold w.listeners
    → world.is_idle w serial dir ≡ is_idle (direction_known w.begun (facts_in w serial dir))
idle_known w serial dir holds = ap (λ (ws : List Waker). is_empty_list ws) (waiters_known w serial dir holds)

-- ## The cases

-- a poll, or one of a listener, that stays pending
pub pending_follows : (arms : Bool) (w w' : World) (key serial : ℕ) (s : SourceKnown) (ls : ℕ → Option ListenerKnown) (wakes : List Waker) (told : PollerAnswer) → Sound w.pos w
    → serial_in w.live key ≡ Some serial → Changes w w' serial s ls w.listeners_drawn
    → Follows (moved_on (machine.pending arms w' key serial wakes (told ∷ []))) (pending arms (record (known_of w) { listeners = ls }) key s wakes told)
pending_follows false w w' key serial s ls wakes told sound found changes =
    record { answer_is = refl; wakes_are = refl; known_is = known_changes w w' key serial s ls w.listeners_drawn sound.live found changes }
pending_follows true w w' key serial s ls wakes told sound found changes = record {
  answer_is = refl;
  wakes_are = refl;
  known_is = known_changes w (machine.after_arm w' key serial told) key serial _ ls w.listeners_drawn sound.live found
      (arm_changes w w' key serial s ls w.listeners_drawn told changes);
}

seen_alters : (w : World) (serial : ℕ) (dir : Dir)
    → (let s = source_known w serial in
    Alters w (record w { marks = without_mark w.marks serial dir }) serial (with_direction s dir (record (s.at dir) { since = None })))
seen_alters w serial dir =
    let s = source_known w serial in
    let w' : World = record w { marks = without_mark w.marks serial dir } in
    let d = record (s.at dir) { since = None } in
    record {
      now_is = refl;
      live_is = refl;
      timers_are = refl;
      rounds_are = refl;
      round_is = refl;
      listeners_are = λ n. refl;
      drawn_is = refl;
      here = source_same (source_known w' serial) (with_direction s dir d) refl refl
          (direction_alters s dir d (source_known w' serial).at
          (λ i. record (s.at dir) { since = option_map (rounds_at w.begun) (mark_gone w.marks serial dir i) })
          (λ e other. ap (direction_known w.begun) (seen_aside w serial dir serial e (dir_apart serial dir e other))));
      aside = λ n apart. source_same (source_known w' n) (source_known w n) refl refl
          (λ e. ap (direction_known w.begun) (seen_aside w serial dir n e (serial_apart serial n dir e apart)));
    }

-- all rounds so far have begun
pub now_begun : (w : World) → Sound w.pos w → rounds_at w.begun w.pos ≡ w.rounds
now_begun w sound = all_begun w.begun w.pos (λ p among. All-contains (λ p. p < w.pos) w.begun p sound.past.rounds_before among) ∙ sound.past.counted

stored_alters : (w : World) (serial : ℕ) (dir : Dir) (waker : Waker) → Sound w.pos w
    → (let s = source_known w serial in Alters w (with_waiter w serial dir waker) serial (with_direction s dir (stored (s.at dir) waker w.rounds)))
stored_alters w serial dir waker sound =
    let s = source_known w serial in
    let w' : World = with_waiter w serial dir waker in
    let d = stored (s.at dir) waker w.rounds in
    record {
      now_is = refl;
      live_is = refl;
      timers_are = refl;
      rounds_are = refl;
      round_is = refl;
      listeners_are = λ n. refl;
      drawn_is = refl;
      here = source_same (source_known w' serial) (with_direction s dir d) refl refl
          (direction_alters s dir d (source_known w' serial).at
          (λ i. record (s.at dir) {
            waiter = waiter_here w.poll_waiters serial dir waker i;
            since = (ap (option_map (rounds_at w.begun)) (mark_here w.marks serial dir w.pos) ∙ ap Some (now_begun w sound)) i;
          })
          (λ e other. ap (direction_known w.begun) (stored_aside w serial dir waker serial e (dir_apart serial dir e other))));
      aside = λ n apart. source_same (source_known w' n) (source_known w n) refl refl
          (λ e. ap (direction_known w.begun) (stored_aside w serial dir waker n e (serial_apart serial n dir e apart)));
    }

poll_found : (w : World) (key serial : ℕ) (dir : Dir) (waker : Waker) (told : PollerAnswer) → Sound w.pos w → serial_in w.live key ≡ Some serial
    → Follows (moved_on (poll_source w key dir waker (Some serial) (told ∷ []))) (poll_at (known_of w) key dir waker (Some (source_known w serial)) told)
poll_found w key serial dir waker told sound found =
    let s = source_known w serial in
    let d = s.at dir in
    let ls = listeners_known w in
    rw (later_known w.begun w.handled serial dir (mark_of w.marks serial dir) sound.past.of_rounds, idle_known w serial dir sound.listeners.only_polled_hold)
    (follows_either (is_later d.since d.tick) _ _ _ _
    (λ later. record {
      answer_is = refl;
      wakes_are = refl;
      known_is = known_changes w (record w { marks = without_mark w.marks serial dir }) key serial _ ls w.listeners_drawn sound.live found (seen_alters w serial dir);
    })
    (λ early. follows_either (is_waker waker d.waiter) _ _ _ _
    (λ same. pending_follows (is_broken w serial) w w key serial s ls [] told sound found (unchanged w serial))
    (λ other. pending_follows (is_idle d || is_broken w serial) w (with_waiter w serial dir waker) key serial _ ls (option_to_list d.waiter) told sound found
    (stored_alters w serial dir waker sound))))

pub poll_follows : (w : World) (key : ℕ) (serial : Option ℕ) (dir : Dir) (waker : Waker) (told : PollerAnswer) → Sound w.pos w → serial_in w.live key ≡ serial
    → Follows (moved_on (poll_source w key dir waker serial (told ∷ []))) (poll_at (known_of w) key dir waker (option_map (source_known w) serial) told)
poll_follows w key None dir waker told sound found = record { answer_is = refl; wakes_are = refl; known_is = refl }
poll_follows w key (Some serial) dir waker told sound found = poll_found w key serial dir waker told sound found
