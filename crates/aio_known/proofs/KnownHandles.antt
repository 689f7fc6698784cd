-- The handling of an event gives what follows from what is known.
use Rattle.std.proofs.Common.{◌≡◌, ◌≢◌, ℕ, Bool, true, false, not, ◌&&◌, cond, max, if◌then◌else◌, IsTrue, List, [], ◌∷◌, ◌++◌, map, filter, find, length, Option, None, Some, is_some, option_map, refl, sym, ap, ◌∙◌, subst, ◌==◌}
use Rattle.std.specs.List.{All, list_all}
use Rattle.aio_base.specs.declared.names.Dir.{Dir}
use Rattle.aio_base.specs.declared.names.Dir.TheVariants.{Read, Write, Priority}
use Rattle.aio_base.specs.declared.names.Event.{Event}
use Rattle.aio_base.specs.declared.names.Waker.{Waker}
use Rattle.aio_base.specs.declared.outcomes.EndWord.TheVariants.{FaultArm}
use Rattle.aio_base.specs.Machine.{first_fault, fails, is_listener, moved_on, wakers_taken, without_waiters, world_taken}
use Rattle.aio_base.specs.Machine as machine
use Rattle.aio_base.specs.Rounds.{rounds_at, last_tick}
use Rattle.aio_base.specs.World.{PollerAnswer, HandledDirection, ListenerEntry, RoundState, World, directions_of, is_empty_list, is_of}
use Rattle.aio_base.specs.World as world
use Rattle.aio_base.proofs.Searching.{mapped_found}
use Rattle.aio_facts.specs.Facts.{is_polled_of, serial_in}
use Rattle.aio_facts.specs.Sound.{RunningSound, Sound}
use Rattle.aio_facts.proofs.Taken.{all_cleared, cleared, cleared_same, itself, taken_aside, tick_more, waiter_gone}
use Rattle.aio_facts.proofs.Waiting.{dir_apart, serial_apart}
use Rattle.aio_known.specs.Known.{Known, PolledKnown, RoundKnown, SourceKnown, direction_known, entry_known, known_of, listeners_known, polled_known, round_known, source_known}
use Rattle.aio_known.specs.KnownSteps.{Follows, handle_at, handle_first, handle_source, heard, heard_all, is_free, is_idle, rearmed, taken_all, waiters, with_direction, with_round, with_source}
use Rattle.aio_known.proofs.Changing.{Alters, arm_by, changes_on, direction_alters, follows_either, known_changes, source_same, unchanged}
use Rattle.aio_known.proofs.KnownPolls.{OnlyPolledHold, idle_known, waiters_known}

-- ## One direction is taken

abbrev cut : PolledKnown → PolledKnown
cut p = record p { waker = None }

cut_step : (begun : List ℕ) (mine polled test : Bool) (l : ListenerEntry) (rest rest' : List ListenerEntry) → test ≡ mine && polled
    → map (polled_known begun) rest' ≡ map cut (map (polled_known begun) rest)
    → map (polled_known begun) (cond test ((if mine then record l { waker = None } else l) ∷ rest') rest') ≡ map cut (map (polled_known begun) (cond (mine && polled) (l ∷ rest) rest))
cut_step begun true true test l rest rest' is same = rw is (ap (λ (ps : List PolledKnown). cut (polled_known begun l) ∷ ps) same)
cut_step begun true false test l rest rest' is same = rw is same
cut_step begun false polled test l rest rest' is same = rw is same

polled_cut : (begun : List ℕ) (serial : ℕ) (dir : Dir) (ls : List ListenerEntry)
    → map (polled_known begun) (filter (is_polled_of serial dir) (map (cleared serial dir) ls)) ≡ map cut (map (polled_known begun) (filter (is_polled_of serial dir) ls))
polled_cut begun serial dir [] = refl
polled_cut begun serial dir (l ∷ ls) =
    cut_step begun (is_of serial dir l.serial l.dir) (is_some l.position) (is_polled_of serial dir (cleared serial dir l)) l
    (filter (is_polled_of serial dir) ls) (filter (is_polled_of serial dir) (map (cleared serial dir) ls)) (cleared_same (is_polled_of serial dir) serial dir l refl)
    (polled_cut begun serial dir ls)

count_step : (here there : Bool) (x y : ListenerEntry) (xs ys : List ListenerEntry) → here ≡ there → length xs ≡ length ys → length (cond here (x ∷ xs) xs) ≡ length (cond there (y ∷ ys) ys)
count_step true true x y xs ys same rest = ap (λ n. Rattle.std.proofs.Common.suc n) rest
count_step false false x y xs ys same rest = rest
count_step true false x y xs ys same rest = absurd cc
count_step false true x y xs ys same rest = absurd cc

-- the listeners of each source are as many as before
count_cut : (serial : ℕ) (dir : Dir) (n : ℕ) (ls : List ListenerEntry)
    → length (filter (λ (l : ListenerEntry). l.serial == n) (map (cleared serial dir) ls)) ≡ length (filter (λ (l : ListenerEntry). l.serial == n) ls)
count_cut serial dir n [] = refl
count_cut serial dir n (l ∷ ls) =
    count_step ((cleared serial dir l).serial == n) (l.serial == n) (cleared serial dir l) l (filter (λ (l : ListenerEntry). l.serial == n) (map (cleared serial dir) ls))
    (filter (λ (l : ListenerEntry). l.serial == n) ls) (cleared_same (λ (l : ListenerEntry). l.serial == n) serial dir l refl) (count_cut serial dir n ls)

entry_cut : (w w' : World) (serial : ℕ) (dir : Dir) (found : Option ListenerEntry) → w'.live ≡ w.live → w'.begun ≡ w.begun
    → option_map (entry_known w') (option_map (cleared serial dir) found) ≡ option_map (entry_known w) found
entry_cut w w' serial dir None live begun = refl
entry_cut w w' serial dir (Some l) live begun =
    ap (λ (e : Rattle.aio_known.specs.Known.ListenerKnown). Some e)
    (cleared_same (entry_known w') serial dir l refl
    ∙ (λ i. record {
      key = Rattle.std.specs.Prelude.unwrap_or (option_map (λ (s : world.LiveSource). s.key) (find (λ (s : world.LiveSource). s.serial == l.serial) (live i))) 0;
      dir = l.dir;
      since = option_map (rounds_at (begun i)) l.position;
    }))

listeners_cut : (w : World) (serial begin : ℕ) (dir : Dir) (number : ℕ) → listeners_known (without_waiters w serial begin dir) number ≡ listeners_known w number
listeners_cut w serial begin dir number =
    ap (option_map (entry_known (without_waiters w serial begin dir)))
    (mapped_found (cleared serial dir) (is_listener number) (is_listener number) (λ l. cleared_same (is_listener number) serial dir l refl) w.listeners)
    ∙ entry_cut w (without_waiters w serial begin dir) serial dir (find (is_listener number) w.listeners) refl refl

hold_cleared : (here : Bool) (l : ListenerEntry) → (IsTrue (is_some l.waker) → IsTrue (is_some l.position))
    → IsTrue (is_some (if here then record l { waker = None } else l).waker) → IsTrue (is_some (if here then record l { waker = None } else l).position)
hold_cleared true l holds some = cc
hold_cleared false l holds some = holds some

still_hold : (serial : ℕ) (dir : Dir) (ls : List ListenerEntry) → OnlyPolledHold ls → OnlyPolledHold (map (cleared serial dir) ls)
still_hold serial dir ls holds =
    all_cleared (λ (l : ListenerEntry). IsTrue (is_some l.waker) → IsTrue (is_some l.position)) (λ (l : ListenerEntry). IsTrue (is_some l.waker) → IsTrue (is_some l.position)) serial dir ls
    (λ l holds. hold_cleared (is_of serial dir l.serial l.dir) l holds) holds

taken_alters : (w : World) (serial begin number : ℕ) (dir : Dir) → rounds_at w.begun begin ≡ number
    → (let s = source_known w serial in Alters w (without_waiters w serial begin dir) serial (with_direction s dir (heard number (s.at dir))))
taken_alters w serial begin number dir is =
    let s = source_known w serial in
    let w' : World = without_waiters w serial begin dir in
    let d = heard number (s.at dir) in
    let h : HandledDirection = record { serial = serial; dir = dir; begin = begin } in
    let tick : last_tick w.begun (w.handled ++ h ∷ []) serial dir ≡ max (last_tick w.begun w.handled serial dir) number =
    tick_more w.begun w.handled h serial dir
    ∙ ap (λ (here : Bool). max (last_tick w.begun w.handled serial dir) (if here then rounds_at w.begun begin else 0)) (itself serial dir)
    ∙ ap (λ (n : ℕ). max (last_tick w.begun w.handled serial dir) n) is in
    record {
      now_is = refl;
      live_is = refl;
      timers_are = refl;
      rounds_are = refl;
      round_is = refl;
      listeners_are = λ n. listeners_cut w serial begin dir n;
      drawn_is = refl;
      here = source_same (source_known w' serial) (with_direction s dir d) refl (count_cut serial dir serial w.listeners)
          (direction_alters s dir d (source_known w' serial).at
          (λ i. record {
            waiter = waiter_gone w.poll_waiters serial dir i;
            since = (s.at dir).since;
            tick = tick i;
            polled = polled_cut w.begun serial dir w.listeners i;
          })
          (λ e other. ap (direction_known w.begun) (taken_aside w serial begin dir serial e (dir_apart serial dir e other))));
      aside = λ n apart. source_same (source_known w' n) (source_known w n) refl (count_cut serial dir n w.listeners)
          (λ e. ap (direction_known w.begun) (taken_aside w serial begin dir n e (serial_apart serial n dir e apart)));
    }

-- ## All directions of an event

record Along (w w' : World) (serial : ℕ) (s : SourceKnown) (wakers taken : List Waker) : Type 0 where
  alters : Alters w w' serial s
  wakers_are : wakers ≡ taken
  holds : OnlyPolledHold w'.listeners

along : (w w' : World) (serial begin number : ℕ) (s : SourceKnown) (dirs : List Dir) → Alters w w' serial s → rounds_at w'.begun begin ≡ number → OnlyPolledHold w'.listeners
    → Along w (world_taken w' serial begin dirs) serial (heard_all number s dirs) (wakers_taken w' serial begin dirs) (taken_all number s dirs)
along w w' serial begin number s [] alters is holds = record { alters = alters; wakers_are = refl; holds = holds }
along w w' serial begin number s (dir ∷ dirs) alters is holds =
    let w1 : World = without_waiters w' serial begin dir in
    let s1 = with_direction s dir (heard number (s.at dir)) in
    let one : Alters w' w1 serial s1 =
    subst (λ (s : SourceKnown). Alters w' w1 serial (with_direction s dir (heard number (s.at dir)))) alters.here (taken_alters w' serial begin number dir is) in
    let rest = along w w1 serial begin number s1 dirs (changes_on w w' w1 serial s s1 (listeners_known w) w.listeners_drawn alters one) is (still_hold serial dir w'.listeners holds) in
    let first : world.waiters_of w' serial dir ≡ waiters (s.at dir) =
    waiters_known w' serial dir holds ∙ ap (λ (s : SourceKnown). waiters (s.at dir)) alters.here in
    record {
      alters = rest.alters;
      wakers_are = ap (λ (ws : List Waker). ws ++ wakers_taken w1 serial begin dirs) first ∙ ap (λ (ws : List Waker). waiters (s.at dir) ++ ws) rest.wakers_are;
      holds = rest.holds;
    }

none_wanted : (idle : Dir → Bool) (dirs : List Dir) → is_empty_list (filter (λ dir. not (idle dir)) dirs) ≡ list_all idle dirs
none_wanted idle [] = refl
none_wanted idle (dir ∷ dirs) = by_test (idle dir) (none_wanted idle dirs)
  where
    by_test : (t : Bool) → is_empty_list (filter (λ dir. not (idle dir)) dirs) ≡ list_all idle dirs
        → is_empty_list (cond (not t) (dir ∷ filter (λ dir. not (idle dir)) dirs) (filter (λ dir. not (idle dir)) dirs)) ≡ t && list_all idle dirs
    by_test true rest = rest
    by_test false rest = refl

free_known : (w w' : World) (serial : ℕ) (s : SourceKnown) → Alters w w' serial s → OnlyPolledHold w'.listeners → is_empty_list (world.wanted w' serial) ≡ is_free s
free_known w w' serial s alters holds =
    let of : (dir : Dir) → world.is_idle w' serial dir ≡ is_idle (s.at dir) = λ dir. idle_known w' serial dir holds ∙ ap (λ (s : SourceKnown). is_idle (s.at dir)) alters.here in
    none_wanted (world.is_idle w' serial) world.directions
    ∙ (λ i. of Write i && (of Read i && (of Priority i && true)))

-- ## Arming behind the event

arm_known : (w w' : World) (key serial : ℕ) (s : SourceKnown) (round : RoundState) (failed : Bool) → Sound w.pos w → serial_in w.live key ≡ Some serial → Alters w w' serial s
    → (let wr : World = record w' { round = Some round } in
    let armed : World = if failed then machine.broken_world wr serial else machine.armed_world wr key serial in
    known_of (if failed then record armed { round = Some (record round { fault = first_fault round.fault FaultArm }) } else armed)
    ≡ with_round (with_source (known_of w) key (record s { broken = failed }))
    (record (round_known round) { fault = if failed then first_fault round.fault FaultArm else round.fault }))
arm_known w w' key serial s round true sound found alters =
    ap (λ (k : Known). with_round k (record (round_known round) { fault = first_fault round.fault FaultArm }))
    (known_changes w (machine.broken_world w' serial) key serial _ (listeners_known w) w.listeners_drawn sound.live found
    (arm_by w w' key serial s (listeners_known w) w.listeners_drawn true alters))
arm_known w w' key serial s round false sound found alters =
    ap (λ (k : Known). with_round k (round_known round))
    (known_changes w (machine.armed_world w' key serial) key serial _ (listeners_known w) w.listeners_drawn sound.live found
    (arm_by w w' key serial s (listeners_known w) w.listeners_drawn false alters))

rearmed_follows : (w w' : World) (event : Event) (serial : ℕ) (s : SourceKnown) (round : RoundState) (told : PollerAnswer) → Sound w.pos w
    → serial_in w.live event.key.0 ≡ Some serial → Alters w w' serial s → OnlyPolledHold w'.listeners
    → Follows (moved_on (machine.rearmed (record w' { round = Some round }) round event.key serial (told ∷ []))) (rearmed (known_of w) (round_known round) event s told)
rearmed_follows w w' event serial s round told sound found alters holds =
    rw (free_known w w' serial s alters holds)
    (follows_either (is_free s) _ _ _ _
    (λ free. record {
      answer_is = refl;
      wakes_are = refl;
      known_is = ap (λ (k : Known). with_round k (round_known round)) (known_changes w w' event.key.0 serial s (listeners_known w) w.listeners_drawn sound.live found alters);
    })
    (λ waits. record { answer_is = refl; wakes_are = refl; known_is = arm_known w w' event.key.0 serial s round (fails told) sound found alters }))

-- ## An event

running : (w : World) (round : RoundState) → Sound w.pos w → w.round ≡ Some round → rounds_at w.begun round.begin ≡ round.number
running w round sound is = (subst (RunningSound w.begun) is sound.running).0

source_follows : (w : World) (round : RoundState) (event : Event) (serial : Option ℕ) (told : PollerAnswer) → Sound w.pos w
    → rounds_at w.begun round.begin ≡ round.number → serial_in w.live event.key.0 ≡ serial
    → Follows (moved_on (machine.handle_source w round event serial (told ∷ []))) (handle_source (known_of w) (round_known round) event (option_map (source_known w) serial) told)
source_follows w round event None told sound number found = record { answer_is = refl; wakes_are = refl; known_is = refl }
source_follows w round event (Some serial) told sound number found =
    let dirs = directions_of event.on in
    let all = along w w serial round.begin round.number (source_known w serial) dirs (unchanged w serial) number sound.listeners.only_polled_hold in
    let after : List Waker → RoundState = λ (ws : List Waker). record round { taken = round.taken ++ ws } in
    let s = heard_all round.number (source_known w serial) dirs in
    subst
    (λ (ws : List Waker). Follows (moved_on (machine.rearmed (record (world_taken w serial round.begin dirs) { round = Some (after (wakers_taken w serial round.begin dirs)) })
    (after (wakers_taken w serial round.begin dirs)) event.key serial (told ∷ [])))
    (rearmed (known_of w) (record (round_known round) { taken = round.taken ++ ws }) event s told))
    all.wakers_are
    (rearmed_follows w (world_taken w serial round.begin dirs) event serial s (after (wakers_taken w serial round.begin dirs)) told sound found all.alters all.holds)

first_follows : (w : World) (round : RoundState) (hand : List Event) (told : PollerAnswer) → Sound w.pos w → rounds_at w.begun round.begin ≡ round.number
    → Follows (moved_on (machine.handle_first w round hand (told ∷ []))) (handle_first (known_of w) (round_known round) hand told)
first_follows w round [] told sound number = record { answer_is = refl; wakes_are = refl; known_is = refl }
first_follows w round (event ∷ events) told sound number =
    source_follows w (record round { in_hand = events }) event (serial_in w.live event.key.0) told sound number refl

pub handle_follows : (w : World) (round : Option RoundState) (told : PollerAnswer) → Sound w.pos w → w.round ≡ round
    → Follows (moved_on (machine.handle_in w round (told ∷ []))) (handle_at (known_of w) (option_map round_known round) told)
handle_follows w None told sound is = record { answer_is = refl; wakes_are = refl; known_is = refl }
handle_follows w (Some round) told sound is = first_follows w round round.in_hand told sound (running w round sound is)
