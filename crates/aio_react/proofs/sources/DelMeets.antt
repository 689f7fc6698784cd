-- A `del` of a core meets the machine's, whatever the poller answered.
use Rattle.std.proofs.Common.{◌≡◌, ◌≢◌, ℕ, ◌<◌, ◌≤◌, Bool, not, ◌||◌, if◌then◌else◌, ◌==◌, IsTrue, List, [], ◌∷◌, filter, set, Option, None, Some, IfSome, option_map, Result, Ok, Err, refl, sym, ap, ◌∙◌, subst, ⊎_elim, arith}
use Rattle.std.proofs.lemmas.Bool.{cases_eq}
use Rattle.std.proofs.lemmas.List.Elements.{All-filter}
use Rattle.aio_base.specs.declared.names.Dir.{Dir}
use Rattle.aio_base.specs.declared.names.Event.{Event}
use Rattle.aio_base.specs.declared.names.Key.{Key}
use Rattle.aio_base.specs.declared.outcomes.Failed.{Failed}
use Rattle.aio_base.specs.declared.outcomes.Waited.{Waited}
use Rattle.aio_base.specs.declared.steps.Answer.{Answer}
use Rattle.aio_base.specs.declared.steps.Answer.TheVariants as replies
use Rattle.aio_base.specs.declared.steps.Step.TheVariants as step
use Rattle.aio_base.specs.Devices.{Interests, ArmCall, RemoveOf, Arms, WaitCall, PollerMove, Armed, PollerStep}
use Rattle.aio_base.specs.Machine.{Outcome, step_result, moved_on, hand_of, quiet, del_source, remove_source}
use Rattle.aio_base.specs.Moves.{answer_of}
use Rattle.aio_base.specs.Rounds.{rounds_at}
use Rattle.aio_base.specs.World.{World, PollerAnswer, ArmedDirection, LiveSource, PollWaiter, Mark, ListenerEntry, set_armed, is_armed, is_broken, without_broken, has_dir}
use Rattle.aio_source.specs.Rules.{direction_of}
use Rattle.aio_react.specs.declared.entries.Listener.{Listener}
use Rattle.aio_react.specs.declared.entries.SourceEntry.{SourceEntry}
use Rattle.aio_react.specs.Cores.{CoreValue, AreListed, entry_at, count_of}
use Rattle.aio_facts.specs.Facts.{Facts, facts_in, serial_in}
use Rattle.aio_react.specs.Meeting.{Comes, Meets}
use Rattle.aio_react.specs.Sources.{without_source}
use Rattle.aio_react.specs.Standing.{AreAsked, PlaceStands, ListenerStands, Stands, StandsWithin, is_in_hand}
use Rattle.aio_facts.specs.Armed.{AgreesWithArmed}
use Rattle.aio_react.proofs.sources.AddMeets.{no_serial, other_asked, tells_still}
use Rattle.aio_react.proofs.sources.Clearing.{unset_tells}
use Rattle.aio_facts.proofs.Departures.{one_key, one_less, key_is_free, others_stay, was_given, distinct_filter, waiter_stays, mark_stays, broken_stays}
use Rattle.aio_react.proofs.listeners.Hearing.{is_heard, is_unheard, uncounted_others}
use Rattle.aio_react.proofs.steps.Later.{quiet_comes, stands_later}
use Rattle.aio_react.proofs.listeners.Listed.{AreOfOthers, of_number}
use Rattle.aio_react.proofs.sources.Places.{cleared_here, cleared_elsewhere, cleared_count, each_left}

-- ## The source of the key

has_serial : (listeners : List (Option Listener)) (place : Option SourceEntry) (e : SourceEntry) (serial : Option ℕ) (broken : ℕ → Bool) (facts : ℕ → Dir → Facts)
    → PlaceStands listeners place serial broken facts → place ≡ Some e → (n : ℕ) × (serial ≡ Some n)
has_serial listeners None e serial broken facts stands some = absurd (cc)
has_serial listeners (Some d) e None broken facts stands some = absurd stands
has_serial listeners (Some d) e (Some n) broken facts stands some = (n, refl)

-- ## A source that left

abbrev world_left : World → ℕ → List ArmedDirection → World
world_left w serial armed = record w {
  live = filter (λ (s : LiveSource). not (s.serial == serial)) w.live;
  poll_waiters = filter (λ (p : PollWaiter). not (p.serial == serial)) w.poll_waiters;
  marks = filter (λ (m : Mark). not (m.serial == serial)) w.marks;
  broken = without_broken w.broken serial;
  armed = armed;
}

facts_same : (a b : Facts) → a.waiter ≡ b.waiter → a.since ≡ b.since → a.tick ≡ b.tick → a.polled ≡ b.polled → a ≡ b
facts_same a b waiter since tick polled = λ i. record { waiter = waiter i; since = since i; tick = tick i; polled = polled i }

facts_stay : (w : World) (serial other : ℕ) (armed : List ArmedDirection) (dir : Dir) → other ≢ serial → facts_in (world_left w serial armed) other dir ≡ facts_in w other dir
facts_stay w serial other armed dir apart =
    facts_same (facts_in (world_left w serial armed) other dir) (facts_in w other dir) (waiter_stays w.poll_waiters serial other dir apart)
    (ap (option_map (rounds_at w.begun)) (mark_stays w.marks serial other dir apart)) refl refl

place_stays : (listeners : List (Option Listener)) (place : Option SourceEntry) (serial : Option ℕ) (broken broken' : ℕ → Bool) (facts facts' : ℕ → Dir → Facts)
    → ((n : ℕ) → serial ≡ Some n → (broken' n ≡ broken n) × ((dir : Dir) → facts' n dir ≡ facts n dir))
    → PlaceStands listeners place serial broken facts → PlaceStands listeners place serial broken' facts'
place_stays listeners None None broken broken' facts facts' same stands = tt
place_stays listeners None (Some n) broken broken' facts facts' same stands = stands
place_stays listeners (Some e) None broken broken' facts facts' same stands = stands
place_stays listeners (Some e) (Some n) broken broken' facts facts' same stands =
    let alike = same n refl in
    record {
      each = λ dir. rw (alike.1 dir) (stands.each dir);
      broken_is = alike.0 ∙ stands.broken_is;
    }

left_place : (told : Option Interests) (core : CoreValue) (w : World) (key serial : ℕ) (armed : List ArmedDirection) → Stands told core w → serial_in w.live key ≡ Some serial
    → (k : ℕ) → PlaceStands core.listeners (entry_at (set core.sources key None) k) (serial_in (filter (λ (s : LiveSource). not (s.serial == serial)) w.live) k)
    (is_broken (world_left w serial armed)) (facts_in (world_left w serial armed))
left_place told core w key serial armed stands known k =
    let live = stands.sound.live in
    ⊎_elim
    (λ (same : k ≡ key). rw (same, cleared_here core.sources key, key_is_free w.live key serial live.keys live.serials_differ known) tt)
    (λ (apart : k ≢ key). rw (cleared_elsewhere core.sources key k apart, others_stay w.live key serial k live.keys live.serials_differ known apart)
    (place_stays core.listeners (entry_at core.sources k) (serial_in w.live k) (is_broken w) (is_broken (world_left w serial armed)) (facts_in w) (facts_in (world_left w serial armed))
    (λ n is.
    let other : n ≢ serial = λ (same : n ≡ serial). apart (one_key w.live k key serial live.serials_differ (is ∙ ap (λ (m : ℕ). Some m) same) known) in
    (broken_stays w.broken serial n other, λ dir. facts_stay w serial n armed dir other))
    (stands.sources k)))
    (cases_eq k key)

listener_stays : (live live' : List LiveSource) (begun : List ℕ) (key : ℕ) (l : Option Listener) (entry : Option ListenerEntry)
    → ((k : ℕ) → k ≢ key → serial_in live' k ≡ serial_in live k) → IfSome l (λ (l : Listener). l.key.0 ≢ key) → ListenerStands live begun l entry
    → ListenerStands live' begun l entry
listener_stays live live' begun key None None same other stands = tt
listener_stays live live' begun key None (Some entry) same other stands = stands
listener_stays live live' begun key (Some l) None same other stands = stands
listener_stays live live' begun key (Some l) (Some entry) same other stands = (same l.key.0 other ∙ stands.0, stands.1, stands.2)

left_stands : (told told' : Option Interests) (core : CoreValue) (w : World) (key serial : ℕ) (e : SourceEntry) (armed : List ArmedDirection) → Stands told core w
    → entry_at core.sources key ≡ Some e → serial_in w.live key ≡ Some serial → AreOfOthers key core.listeners → AgreesWithArmed told' armed
    → AreAsked (set core.sources key None) armed (hand_of w.round)
    → StandsWithin w.pos told' (without_source core key) (world_left w serial armed)
left_stands told told' core w key serial e armed stands is known others tells asked =
    let live = stands.sound.live in
    let less = one_less w.live key serial live.keys live.serials_differ known in
    let fewer = cleared_count core.sources key e is in
    let count = stands.count in
    let given = was_given w.live w.serials key serial live.given known in
    record {
      sources = left_place told core w key serial armed stands known;
      count = omega arith;
      tickets = λ k dir. each_left core.sources key (λ k e. (direction_of e.source.directions dir).listeners.drawn ≤ w.pos) (λ k apart. stands.tickets k dir) k;
      listeners = record {
        each = λ number. listener_stays w.live _ w.begun key _ _ (λ k apart. others_stay w.live key serial k live.keys live.serials_differ known apart)
            (of_number core.listeners key number others) (stands.listeners.each number);
        drawn_is = stands.listeners.drawn_is;
      };
      ticker_is = stands.ticker_is;
      book = stands.book;
      tells = tells;
      asked = asked;
      round = stands.round;
      sound = record {
        live = record {
          keys = distinct_filter (λ (s : LiveSource). s.key) (λ (s : LiveSource). not (s.serial == serial)) w.live live.keys;
          serials_differ = distinct_filter (λ (s : LiveSource). s.serial) (λ (s : LiveSource). not (s.serial == serial)) w.live live.serials_differ;
          given = All-filter (λ (s : LiveSource). not (s.serial == serial)) (λ (s : LiveSource). s.serial ≤ w.serials) w.live live.given;
        };
        unused = record {
          unbroken = λ n later. broken_stays w.broken serial n (λ (same : n ≡ serial). absurd (omega arith)) ∙ stands.sound.unused.unbroken n later;
          nothing = λ n dir later. facts_stay w serial n armed dir (λ (same : n ≡ serial). absurd (omega arith)) ∙ stands.sound.unused.nothing n dir later;
        };
        listeners = stands.sound.listeners;
        past = record {
          counted = stands.sound.past.counted;
          rounds_before = stands.sound.past.rounds_before;
          marks_before = All-filter (λ (m : Mark). not (m.serial == serial)) (λ (m : Mark). m.position < w.pos) w.marks stands.sound.past.marks_before;
          polls_before = stands.sound.past.polls_before;
          of_rounds = stands.sound.past.of_rounds;
        };
        running = stands.sound.running;
        timers = stands.sound.timers;
      };
    }

asked_left : (core : CoreValue) (w : World) (key : ℕ) → AreAsked core.sources w.armed (hand_of w.round) → AreAsked (set core.sources key None) w.armed (hand_of w.round)
asked_left core w key asked k dir =
    each_left core.sources key (λ k e. IsTrue (has_dir e.source.asked dir) → IsTrue (is_armed w.armed k dir || is_in_hand (hand_of w.round) k)) (λ k apart. asked k dir) k

asked_unset : (core : CoreValue) (w : World) (key : ℕ) → AreAsked core.sources w.armed (hand_of w.round)
    → AreAsked (set core.sources key None) (set_armed w.armed key []) (hand_of w.round)
asked_unset core w key asked k dir =
    each_left core.sources key (λ k e. IsTrue (has_dir e.source.asked dir) → IsTrue (is_armed (set_armed w.armed key []) k dir || is_in_hand (hand_of w.round) k))
    (λ k apart. other_asked (entry_at core.sources k) w.armed key k dir (is_in_hand (hand_of w.round) k) apart (asked k dir)) k

tells_removed : (old new : Option Interests) (armed : List ArmedDirection) (key : Key) → AgreesWithArmed old armed → Arms old (RemoveOf key) (Ok tt) new → AgreesWithArmed new (set_armed armed key.0 [])
tells_removed None None armed key tells arms = tt
tells_removed None (Some new) armed key tells arms = absurd arms
tells_removed (Some old) None armed key tells arms = absurd arms
tells_removed (Some old) (Some new) armed key tells arms = λ k. arms k ∙ unset_tells old armed key.0 tells k

-- ## The step

-- where the key is not live
pub missing_meets : {P : Type 0} (poller_step : P → PollerMove → P → Type 0) (tells : P → Option Interests) (poller : P) (core : CoreValue) (key : Key) → entry_at core.sources key.0 ≡ None
    → Meets poller_step tells (step.Del key) None replies.NoSource [] None (poller, core) (poller, core)
missing_meets {P = P} poller_step tells poller core key free = record {
  moves = [];
  run = refl;
  waits = tt;
  comes = λ w later stands now.
      quiet_comes (tells poller) core w (step.Del key) replies.NoSource later
      (ap (λ (serial : Option ℕ). del_source w key.0 serial later) (no_serial core.listeners _ _ (is_broken w) (facts_in w) (stands.sources key.0) free)) stands;
}

-- where it has a listener
pub used_meets : {P : Type 0} (poller_step : P → PollerMove → P → Type 0) (tells : P → Option Interests) (poller : P) (core : CoreValue) (key : Key) (e : SourceEntry)
    → entry_at core.sources key.0 ≡ Some e → 0 < count_of key.0 core.listeners
    → Meets poller_step tells (step.Del key) None replies.InUse [] None (poller, core) (poller, core)
used_meets {P = P} poller_step tells poller core key e is some = record {
  moves = [];
  run = refl;
  waits = tt;
  comes = λ w later stands now.
      let it = has_serial core.listeners _ e _ (is_broken w) (facts_in w) (stands.sources key.0) is in
      let heard = is_heard w.live w.begun core.listeners w.listeners key.0 it.0 stands.listeners.each it.1 some in
      quiet_comes (tells poller) core w (step.Del key) replies.InUse later
      (ap (λ (serial : Option ℕ). del_source w key.0 serial later) it.1
      ∙ ap (λ (used : Bool). if used then quiet replies.InUse w later else remove_source w key.0 it.0 later) heard) stands;
}

-- what the machine answers where the source goes
abbrev pub gone_reply : Result (Unit {0}) Failed → Answer
gone_reply (Ok done) = replies.Gone
gone_reply (Err failed) = replies.FaultRemove

removal : (told told' : Option Interests) (core : CoreValue) (w : World) (key : Key) (serial : ℕ) (e : SourceEntry) (answer : Result (Unit {0}) Failed) (later : List PollerAnswer)
    → Stands told core w → entry_at core.sources key.0 ≡ Some e → serial_in w.live key.0 ≡ Some serial → AreOfOthers key.0 core.listeners → Arms told (RemoveOf key) answer told'
    → Comes (moved_on (remove_source w key.0 serial (answer_of (Armed (RemoveOf key) answer) ∷ later))) (gone_reply answer) [] (Armed (RemoveOf key) answer ∷ []) later told'
    (without_source core key.0)
removal told told' core w key serial e (Ok done) later stands is known others arms = record {
  answer_is = refl;
  wakes_are = refl;
  calls_are = refl;
  left_are = refl;
  stands = stands_later told' (without_source core key.0) (world_left w serial (set_armed w.armed key.0 []))
      (left_stands told told' core w key.0 serial e (set_armed w.armed key.0 []) stands is known others (tells_removed told told' w.armed key stands.tells arms)
      (asked_unset core w key.0 stands.asked));
}
removal told told' core w key serial e (Err failed) later stands is known others arms = record {
  answer_is = refl;
  wakes_are = refl;
  calls_are = refl;
  left_are = refl;
  stands = stands_later told' (without_source core key.0) (world_left w serial w.armed)
      (left_stands told told' core w key.0 serial e w.armed stands is known others (tells_still told told' w.armed stands.tells arms) (asked_left core w key.0 stands.asked));
}

-- where it has none, whatever the poller answered
pub removed_meets : {P : Type 0} (arm_step : P → ArmCall → Result (Unit {0}) Failed → P → Type 0) (wait_step : P → WaitCall → Result Waited Failed → List Event → P → Type 0)
    (tells : P → Option Interests) (old new : P) (core : CoreValue) (key : Key) (e : SourceEntry) (answer : Result (Unit {0}) Failed)
    → entry_at core.sources key.0 ≡ Some e → count_of key.0 core.listeners ≡ 0
    → arm_step old (RemoveOf key) answer new → Arms (tells old) (RemoveOf key) answer (tells new)
    → Meets (PollerStep arm_step wait_step) tells (step.Del key) None (gone_reply answer) [] None (old, core) (new, without_source core key.0)
unfolding step_result
removed_meets {P = P} arm_step wait_step tells old new core key e answer is none did arms = record {
  moves = Armed (RemoveOf key) answer ∷ [];
  run = (new, did, refl);
  waits = tt;
  comes = λ w later stands now.
      let it = has_serial core.listeners _ e _ (is_broken w) (facts_in w) (stands.sources key.0) is in
      let others = uncounted_others core.listeners key.0 none in
      let unheard = is_unheard w.live w.begun core.listeners w.listeners key.0 it.0 stands.sound.live.serials_differ stands.sound.listeners.numbers stands.listeners.each it.1 others in
      let answers = answer_of (Armed (RemoveOf key) answer) ∷ later in
      subst (λ (o : Outcome). Comes (moved_on o) (gone_reply answer) [] (Armed (RemoveOf key) answer ∷ []) later (tells new) (without_source core key.0))
      (sym (ap (λ (serial : Option ℕ). del_source w key.0 serial answers) it.1
      ∙ ap (λ (used : Bool). if used then quiet replies.InUse w answers else remove_source w key.0 it.0 answers) unheard))
      (removal (tells old) (tells new) core w key it.0 e answer later stands is it.1 others arms);
}

-- the count of a source is that of its listeners
pub as_counted : (sources : List (Option SourceEntry)) (listeners : List (Option Listener)) (key : ℕ) (e : SourceEntry) → entry_at sources key ≡ Some e → AreListed sources listeners
    → e.listeners ≡ count_of key listeners
as_counted sources listeners key e is listed = subst (λ (place : Option SourceEntry). IfSome place (λ (e : SourceEntry). e.listeners ≡ count_of key listeners)) is (listed.counted key)
