-- Each world that a run of the machine reaches is sound, whatever the poller answered.
use Rattle.std.proofs.Common.{◌≡◌, ◌≢◌, ℕ, suc, ◌<◌, ◌≤◌, Bool, false, cond, ◌&&◌, ◌==◌, if◌then◌else◌, IsTrue, List, [], ◌∷◌, map, Option, None, Some, is_some, option_map, refl, ap, ◌∙◌, subst, arith}
use Rattle.std.specs.Prelude.{nat_eq, max}
use Rattle.std.specs.List.{AllByRecursion, Contains, IsDistinct, filter}
use Rattle.std.proofs.lemmas.Bool.{eqb-true, ne_eqb}
use Rattle.std.proofs.lemmas.List.Elements.{All-weaker}
use Rattle.aio_base.specs.declared.names.Dir.{Dir}
use Rattle.aio_base.specs.declared.names.Waker.{Waker}
use Rattle.aio_laws.specs.Distinct.{Differ}
use Rattle.aio_base.specs.Rounds.{rounds_at, last_tick}
use Rattle.aio_base.specs.Runs.{PolledStep, world_of}
use Rattle.aio_base.specs.World.{World, LiveSource, PollWaiter, Mark, BrokenSource, HandledDirection, ListenerEntry, Registration, opening, is_of, is_broken}
use Rattle.aio_laws.proofs.runs.FirstPolls.{run_polls_in_order}
use Rattle.aio_base.proofs.Membership.{first_is_in, later_is_in, each_in, any_gives}
use Rattle.aio_base.proofs.Searching.{false_unless, nothing_found}
use Rattle.aio_laws.proofs.runs.Singles.{run_has_no_doubles}
use Rattle.aio_facts.specs.Facts.{facts_in, no_facts, is_polled_of}
use Rattle.aio_facts.specs.Sound.{IsBefore, Sound, UnusedSound}
use Rattle.aio_known.proofs.PastKept.{KeptBefore, run_keeps}
use Rattle.aio_facts.proofs.Waiting.{facts_are, serial_apart}

-- ## Nothing twice

first_differs : {X : Type 0} (key : X → ℕ) (x : X) (xs : List X) → Differ key (x ∷ xs) → (y : X) → Contains xs y → key x ≢ key y
first_differs key x xs differ y among =
    subst (λ z. key x ≢ key z) among.2 (differ 0 (suc among.0) y (omega arith) (let within = among.1 in omega arith))

later_differ : {X : Type 0} (key : X → ℕ) (x : X) (xs : List X) → Differ key (x ∷ xs) → Differ key xs
later_differ key x xs differ = λ i j d before within. differ (suc i) (suc j) d (omega arith) (omega arith)

none_is : {X : Type 0} (key : X → ℕ) (n : ℕ) (xs : List X) → ((y : X) → Contains xs y → n ≢ key y) → AllByRecursion (λ m. nat_eq n m ≡ false) (map key xs)
none_is key n [] apart = tt
none_is key n (x ∷ xs) apart = (ne_eqb n (key x) (apart x (first_is_in x xs)), none_is key n xs (λ y among. apart y (later_is_in x xs y among)))

distinct : {X : Type 0} (key : X → ℕ) (xs : List X) → Differ key xs → IsDistinct nat_eq (map key xs)
unfolding IsDistinct
distinct key [] differ = tt
distinct key (x ∷ xs) differ = (none_is key (key x) xs (first_differs key x xs differ), distinct key xs (later_differ key x xs differ))

-- ## Serials that were not given yet

not_given : (serials serial n : ℕ) → serials < serial → n ≤ serials → n ≢ serial
not_given serials serial n later few = λ same. absurd (omega arith)

none_kept : {X : Type 0} (test : X → Bool) (xs : List X) → ((x : X) → Contains xs x → test x ≡ false) → filter test xs ≡ []
none_kept test [] none = refl
none_kept test (x ∷ xs) none =
    ap (λ (here : Bool). cond here (x ∷ filter test xs) (filter test xs)) (none x (first_is_in x xs)) ∙ none_kept test xs (λ y among. none y (later_is_in x xs y among))

no_tick : (begun : List ℕ) (handled : List HandledDirection) (serial : ℕ) (dir : Dir) → ((h : HandledDirection) → Contains handled h → h.serial ≢ serial)
    → last_tick begun handled serial dir ≡ 0
no_tick begun [] serial dir apart = refl
no_tick begun (h ∷ handled) serial dir apart =
    ap (λ (here : Bool). max (if here then rounds_at begun h.begin else 0) (last_tick begun handled serial dir)) (serial_apart serial h.serial dir h.dir (apart h (first_is_in h handled)))
    ∙ ap (λ n. max 0 n) (no_tick begun handled serial dir (λ k among. apart k (later_is_in h handled k among)))

unused : (w : World) → KeptBefore w.pos w → UnusedSound w.serials (is_broken w) (facts_in w)
unused w k = record {
  unbroken = λ serial later.
      false_unless (is_broken w serial) (λ some.
      let at = any_gives (λ (b : BrokenSource). b.serial == serial) w.broken some in
      not_given w.serials serial at.0.serial later (k.broken_given at.0 at.1) (eqb-true at.0.serial serial at.2));
  nothing = λ serial dir later.
      facts_are (facts_in w serial dir) no_facts
      (ap (option_map (λ (p : PollWaiter). p.waker)) (nothing_found (λ (p : PollWaiter). is_of serial dir p.serial p.dir) w.poll_waiters
      (λ p among. serial_apart serial p.serial dir p.dir (not_given w.serials serial p.serial later (k.waiters_given p among)))))
      (ap (option_map (rounds_at w.begun)) (ap (option_map (λ (m : Mark). m.position)) (nothing_found (λ (m : Mark). is_of serial dir m.serial m.dir) w.marks
      (λ m among. serial_apart serial m.serial dir m.dir (not_given w.serials serial m.serial later (k.marks_given m among))))))
      (no_tick w.begun w.handled serial dir (λ h among. not_given w.serials serial h.serial later (k.handled_given h among)))
      (none_kept (is_polled_of serial dir) w.listeners
      (λ l among. ap (λ (here : Bool). here && is_some l.position) (serial_apart serial l.serial dir l.dir (not_given w.serials serial l.serial later (k.listeners_given l among)))));
}

-- ## Listeners

polled_holds : (position : Option ℕ) (waker : Option Waker) → (position ≡ None → waker ≡ None) → IsTrue (is_some waker) → IsTrue (is_some position)
polled_holds (Some p) waker silent holds = refl
polled_holds None waker silent holds = let none = silent refl in cc

is_before : (bound : ℕ) (position : Option ℕ) → ((p : ℕ) → position ≡ Some p → p < bound) → IsBefore bound position
is_before bound None before = tt
is_before bound (Some p) before = before p refl

-- ## The law

pub run_is_sound : (run : List PolledStep) → Sound (world_of opening run).pos (world_of opening run)
run_is_sound run =
    let w = world_of opening run in
    let kept = run_keeps run in
    let single = run_has_no_doubles run in
    let order = run_polls_in_order run in
    record {
      live = record {
        keys = distinct (λ (s : LiveSource). s.key) w.live single.keys;
        serials_differ = distinct (λ (s : LiveSource). s.serial) w.live single.serials;
        given = single.serials_given;
      };
      unused = unused w kept;
      listeners = record {
        numbers = distinct (λ (l : ListenerEntry). l.number) w.listeners single.listeners;
        given = single.listeners_drawn;
        registered = each_in (λ (l : ListenerEntry). l.serial ≤ w.serials) w.listeners kept.listeners_given;
        only_polled_hold = All-weaker (λ (l : ListenerEntry). l.position ≡ None → l.waker ≡ None) (λ (l : ListenerEntry). IsTrue (is_some l.waker) → IsTrue (is_some l.position))
            (λ l silent. polled_holds l.position l.waker silent) w.listeners order.unpolled;
      };
      past = record {
        counted = kept.past.counted;
        rounds_before = each_in (λ p. p < w.pos) w.begun kept.past.before;
        marks_before = each_in (λ (m : Mark). m.position < w.pos) w.marks kept.past.marks_before;
        polls_before = All-weaker (λ (l : ListenerEntry). (p : ℕ) → l.position ≡ Some p → p < w.pos) (λ (l : ListenerEntry). IsBefore w.pos l.position)
            (λ l before. is_before w.pos l.position before) w.listeners order.past;
        of_rounds = kept.past.of_rounds;
      };
      running = kept.past.running;
      timers = record {
        ids = distinct (λ (r : Registration). r.id) w.registrations single.registrations;
        given = single.ids_drawn;
      };
    }
