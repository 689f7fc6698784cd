-- A poll of a core meets the machine's, whatever the poller answered.
use Rattle.std.proofs.Common.{◌≡◌, ℕ, ◌+◌, ◌<◌, Bool, true, false, if◌then◌else◌, ◌||◌, List, [], ◌∷◌, ◌++◌, map, Option, None, Some, option_to_list, IfSome, IsTrue, Result, Ok, Err, IsOk, refl, sym, ap, ◌∙◌, subst, arith}
use Rattle.std.specs.List.{All}
use Rattle.std.proofs.lemmas.List.Elements.{All-nil, All-cons, All-append, All-contains, All-filter}
use Rattle.aio_base.specs.declared.names.Dir.{Dir}
use Rattle.aio_base.specs.declared.names.Event.{Event}
use Rattle.aio_base.specs.declared.names.Key.{Key}
use Rattle.aio_base.specs.declared.names.Waker.{Waker}
use Rattle.aio_base.specs.declared.outcomes.Failed.{Failed}
use Rattle.aio_base.specs.declared.outcomes.Waited.{Waited}
use Rattle.aio_base.specs.declared.steps.Answer.{Answer}
use Rattle.aio_base.specs.declared.steps.Answer.TheVariants as replies
use Rattle.aio_base.specs.declared.steps.Step.TheVariants as step
use Rattle.aio_base.specs.Devices.{Interests, ArmCall, WaitCall, PollerMove, PollerStep}
use Rattle.aio_base.specs.Machine.{Outcome, quiet, is_waker, pending, with_waiter, poll_source, hand_of}
use Rattle.aio_base.specs.Moves.{answer_of}
use Rattle.aio_base.specs.World.{PollerAnswer, World, Mark, has_dir, is_armed, is_broken, without_mark}
use Rattle.aio_base.proofs.FreshnessLemmas.{last_tick-bound}
use Rattle.aio_source.specs.Answers.{poll_answer, armed_in}
use Rattle.aio_source.specs.Lent.{ArmsOnce, TellsArmed, arm_of, settled, fault_of}
use Rattle.aio_source.specs.Lent as lent
use Rattle.aio_source.specs.Rules.{Polling, polling, is_ready, seen, stored, direction_of, with_source_direction}
use Rattle.aio_source.specs.Rules as source
use Rattle.aio_source.specs.Values.{SourceValue}
use Rattle.aio_source.specs.declared.answers.Polled.{Polled}
use Rattle.aio_react.specs.declared.entries.Listener.{Listener}
use Rattle.aio_react.specs.declared.entries.SourceEntry.{SourceEntry}
use Rattle.aio_react.specs.Cores.{CoreValue, entry_at}
use Rattle.aio_facts.specs.Facts.{Facts, facts_in, serial_in}
use Rattle.aio_react.specs.Meeting.{Meets}
use Rattle.aio_react.specs.Polls.{waiting_reply}
use Rattle.aio_react.specs.Standing.{AreAsked, is_in_hand, DirectionStands, PlaceStands, Stands, StandsWithin}
use Rattle.aio_react.proofs.sources.ArmMeets.{Within, step_comes, arm_moves, arm_waits, arm_runs, unasked, arm_reply, arm_within}
use Rattle.aio_react.proofs.sources.DirectionFacts.{fresh_is_ready, idle_stands}
use Rattle.aio_react.proofs.steps.Later.{quiet_comes, stands_inside}
use Rattle.aio_react.proofs.sources.SourceChanges.{IsAsked, with_state, with_source, source_found, source_changes, direction_changes, keeps_listeners, place_here, placed_twice}
use Rattle.aio_facts.proofs.Waiting.{waiter_here, mark_gone, mark_here, serial_apart, dir_apart, seen_aside, stored_aside, all_begun}

abbrev pub poll_told : Bool → Result (Unit {0}) Failed → Answer
poll_told true answer = replies.Ready
poll_told false answer = arm_reply answer

-- a poll that found this, over a case of the machine
abbrev pub Finds : Option Interests → Option Interests → CoreValue → SourceEntry → Result (Unit {0}) Failed → (List PollerAnswer → Outcome) → Polling → Type 0
Finds told told' core e answer o p =
    (later : List PollerAnswer) → (p.arms ≡ false → IsOk answer) → TellsArmed p.arms (arm_of p.source) told answer told'
    → Within (o (map answer_of (arm_moves p.arms (arm_of p.source) answer) ++ later)) (poll_told p.ready answer) (option_to_list p.replaced) (arm_moves p.arms (arm_of p.source) answer) later told'
    (with_source core e.source.key.0 (with_state e (settled p.arms answer p.source)))

pub finds_either : (told told' : Option Interests) (core : CoreValue) (e : SourceEntry) (answer : Result (Unit {0}) Failed) (test : Bool) (x y : List PollerAnswer → Outcome) (a b : Polling)
    → (test ≡ true → Finds told told' core e answer x a) → (test ≡ false → Finds told told' core e answer y b)
    → Finds told told' core e answer (λ answers. if test then x answers else y answers) (if test then a else b)
finds_either told told' core e answer true x y a b first second = first refl
finds_either told told' core e answer false x y a b first second = second refl

one_before : (bound : ℕ) (m : Mark) → m.position < bound → All (λ (m : Mark). m.position < bound) (m ∷ [])
one_before bound m before = All-cons (λ (m : Mark). m.position < bound) m [] before (All-nil _)

asked_at : (core : CoreValue) (w : World) (e : SourceEntry) (key : ℕ) (asked : AreAsked core.sources w.armed (hand_of w.round)) → entry_at core.sources key ≡ Some e → IsAsked e.source key w
asked_at core w e key asked is dir =
    subst (λ (place : Option SourceEntry). IfSome place (λ (e : SourceEntry). IsTrue (has_dir e.source.asked dir) → IsTrue (is_armed w.armed key dir || is_in_hand (hand_of w.round) key))) is (asked key dir)

-- ## The cases

ready_found : (told told' : Option Interests) (core : CoreValue) (w : World) (serial : ℕ) (e : SourceEntry) (dir : Dir) (answer : Result (Unit {0}) Failed)
    → Stands told core w → entry_at core.sources e.source.key.0 ≡ Some e → serial_in w.live e.source.key.0 ≡ Some serial
    → Finds told told' core e answer (λ answers. quiet replies.Ready (record w { marks = without_mark w.marks serial dir }) answers)
    (record { ready = true; replaced = None; source = with_source_direction e.source dir (seen (direction_of e.source.directions dir)); arms = false })
ready_found told told' core w serial e dir answer at_start is found later none tells =
    let stands = stands_inside told core w at_start in
    let key = e.source.key.0 in
    let d = direction_of e.source.directions dir in
    let w' : World = record w { marks = without_mark w.marks serial dir } in
    let before = source_found core w key serial e stands.sources is found in
    let old = before.each dir in
    let here : DirectionStands core.listeners (seen d) (facts_in w' serial dir) = record {
      waiter_is = old.waiter_is;
      tick_is = old.tick_is;
      remembers = rw (mark_gone w.marks serial dir) tt;
      entries_are = old.entries_are;
    } in
    record {
      answer_is = refl;
      wakes_are = refl;
      calls_are = refl;
      left_are = refl;
      stands = subst (λ (t : Option Interests). StandsWithin (w.pos + 1) t (with_source core key (with_state e (with_source_direction e.source dir (seen d)))) w') (sym tells)
          (source_changes (w.pos + 1) told told core w key serial e (with_source_direction e.source dir (seen d)) w.poll_waiters (without_mark w.marks serial dir) w.broken w.armed stands is found
          (record {
            now = direction_changes core.listeners e.source (is_broken w serial) (facts_in w serial) (facts_in w' serial) dir (seen d) before here (λ d other. seen_aside w serial dir serial d (dir_apart serial dir d other));
            listeners = keeps_listeners e.source dir (seen d) refl;
            aside = λ other apart. record { broken_is = refl; facts_are = λ d. seen_aside w serial dir other d (serial_apart serial other dir d apart) };
            armed_aside = λ k d apart. refl;
            marks_before = All-filter _ (λ (m : Mark). m.position < w.pos + 1) w.marks stands.sound.past.marks_before;
            tells = stands.tells;
            asked = asked_at core w e key stands.asked is;
          }));
    }

held_found : (told told' : Option Interests) (core : CoreValue) (w : World) (serial : ℕ) (e : SourceEntry) (answer : Result (Unit {0}) Failed)
    → Stands told core w → entry_at core.sources e.source.key.0 ≡ Some e → serial_in w.live e.source.key.0 ≡ Some serial
    → Finds told told' core e answer (λ answers. pending e.source.broken w e.source.key.0 serial [] answers) (record { ready = false; replaced = None; source = e.source; arms = e.source.broken })
held_found told told' core w serial e answer stands is found later none tells =
    arm_within e.source.broken told told' core w serial e answer [] later (stands_inside told core w stands) is found none tells

stored_found : (told told' : Option Interests) (core : CoreValue) (w : World) (serial : ℕ) (e : SourceEntry) (dir : Dir) (waker : Waker) (answer : Result (Unit {0}) Failed)
    → Stands told core w → entry_at core.sources e.source.key.0 ≡ Some e → serial_in w.live e.source.key.0 ≡ Some serial
    → (let d = direction_of e.source.directions dir in
    Finds told told' core e answer (λ answers. pending (source.is_idle d || e.source.broken) (with_waiter w serial dir waker) e.source.key.0 serial (option_to_list d.waiter) answers)
    (record { ready = false; replaced = d.waiter; source = with_source_direction e.source dir (stored waker core.ticker d); arms = source.is_idle d || e.source.broken }))
stored_found told told' core w serial e dir waker answer at_start is found later none tells =
    let stands = stands_inside told core w at_start in
    let key = e.source.key.0 in
    let d = direction_of e.source.directions dir in
    let s' : SourceValue = with_source_direction e.source dir (stored waker core.ticker d) in
    let e' : SourceEntry = with_state e s' in
    let w' : World = with_waiter w serial dir waker in
    let mark : Mark = record { serial = serial; dir = dir; position = w.pos } in
    let before = source_found core w key serial e stands.sources is found in
    let old = before.each dir in
    let all = all_begun w.begun w.pos (λ p among. All-contains (λ p. p < w.pos) w.begun p at_start.sound.past.rounds_before among) in
    let most = last_tick-bound w.begun w.handled serial dir in
    let here : DirectionStands core.listeners (stored waker core.ticker d) (facts_in w' serial dir) = record {
      waiter_is = waiter_here w.poll_waiters serial dir waker;
      tick_is = old.tick_is;
      remembers = rw (mark_here w.marks serial dir w.pos) (omega (arith, all, stands.sound.past.counted, stands.ticker_is), omega (arith, all, most, old.tick_is));
      entries_are = old.entries_are;
    } in
    let next = source_changes (w.pos + 1) told told core w key serial e s' w'.poll_waiters w'.marks w.broken w.armed stands is found
    (record {
      now = direction_changes core.listeners e.source (is_broken w serial) (facts_in w serial) (facts_in w' serial) dir (stored waker core.ticker d) before here
          (λ d other. stored_aside w serial dir waker serial d (dir_apart serial dir d other));
      listeners = keeps_listeners e.source dir (stored waker core.ticker d) refl;
      aside = λ other apart. record { broken_is = refl; facts_are = λ d. stored_aside w serial dir waker other d (serial_apart serial other dir d apart) };
      armed_aside = λ k d apart. refl;
      marks_before = All-append (λ (m : Mark). m.position < w.pos + 1) (without_mark w.marks serial dir) (mark ∷ []) (All-filter _ (λ (m : Mark). m.position < w.pos + 1) w.marks stands.sound.past.marks_before)
          (one_before (w.pos + 1) mark (omega arith));
      tells = stands.tells;
      asked = asked_at core w e key stands.asked is;
    }) in
    subst (λ (sources : List (Option SourceEntry)). Within (pending (source.is_idle d || e.source.broken) w' key serial (option_to_list d.waiter) (map answer_of (arm_moves (source.is_idle d || e.source.broken) (arm_of s') answer) ++ later))
    (arm_reply answer) (option_to_list d.waiter) (arm_moves (source.is_idle d || e.source.broken) (arm_of s') answer) later told' (record core { sources = sources }))
    (placed_twice core.sources key (Some e') (Some (with_state e (settled (source.is_idle d || e.source.broken) answer s'))))
    (arm_within (source.is_idle d || e.source.broken) told told' (with_source core key e') w' serial e' answer (option_to_list d.waiter) later next (place_here core.sources key e (Some e') is) found none tells)

poll_finds : (told told' : Option Interests) (core : CoreValue) (w : World) (serial : ℕ) (e : SourceEntry) (dir : Dir) (waker : Waker) (answer : Result (Unit {0}) Failed)
    → Stands told core w → entry_at core.sources e.source.key.0 ≡ Some e → serial_in w.live e.source.key.0 ≡ Some serial
    → Finds told told' core e answer (λ answers. poll_source w e.source.key.0 dir waker (Some serial) answers) (polling e.source dir waker core.ticker)
poll_finds told told' core w serial e dir waker answer stands is found =
    let key = e.source.key.0 in
    let s = e.source in
    let d = direction_of s.directions dir in
    let before = source_found core w key serial e stands.sources is found in
    rw (
      fresh_is_ready core.listeners d w serial dir stands.sound.past.of_rounds (before.each dir),
      idle_stands core.listeners d w serial dir stands.sound.listeners.only_polled_hold (before.each dir),
      before.broken_is,
      (before.each dir).waiter_is,
    )
    (finds_either told told' core e answer (is_ready d)
    (λ answers. quiet replies.Ready (record w { marks = without_mark w.marks serial dir }) answers)
    (λ answers. if is_waker waker d.waiter then pending s.broken w key serial [] answers
    else pending (source.is_idle d || s.broken) (with_waiter w serial dir waker) key serial (option_to_list d.waiter) answers)
    (record { ready = true; replaced = None; source = with_source_direction s dir (seen d); arms = false })
    (if is_waker waker d.waiter then record { ready = false; replaced = None; source = s; arms = s.broken }
    else record { ready = false; replaced = d.waiter; source = with_source_direction s dir (stored waker core.ticker d); arms = source.is_idle d || s.broken })
    (λ fresh. ready_found told told' core w serial e dir answer stands is found)
    (λ stale. finds_either told told' core e answer (is_waker waker d.waiter)
    (λ answers. pending s.broken w key serial [] answers)
    (λ answers. pending (source.is_idle d || s.broken) (with_waiter w serial dir waker) key serial (option_to_list d.waiter) answers)
    (record { ready = false; replaced = None; source = s; arms = s.broken })
    (record { ready = false; replaced = d.waiter; source = with_source_direction s dir (stored waker core.ticker d); arms = source.is_idle d || s.broken })
    (λ same. held_found told told' core w serial e answer stands is found)
    (λ other. stored_found told told' core w serial e dir waker answer stands is found)))

-- ## The call

pub reply_is : (ready : Bool) (key : Key) (before after : ℕ) (answer : Result (Unit {0}) Failed) → waiting_reply (poll_answer ready (fault_of key before after answer)) ≡ poll_told ready answer
reply_is true key before after answer = refl
reply_is false key before after (Ok done) = refl
reply_is false key before after (Err failed) = refl

pub serial_by : (listeners : List (Option Listener)) (place : Option SourceEntry) (serial : Option ℕ) (broken : ℕ → Bool) (facts : ℕ → Dir → Facts) (e : SourceEntry) → place ≡ Some e
    → PlaceStands listeners place serial broken facts → (n : ℕ) × (serial ≡ Some n)
serial_by listeners None serial broken facts e is stands = absurd (cc)
serial_by listeners (Some old) None broken facts e is stands = absurd stands
serial_by listeners (Some old) (Some n) broken facts e is stands = (n, refl)

pub no_serial_by : (listeners : List (Option Listener)) (place : Option SourceEntry) (serial : Option ℕ) (broken : ℕ → Bool) (facts : ℕ → Dir → Facts) → place ≡ None
    → PlaceStands listeners place serial broken facts → serial ≡ None
no_serial_by listeners None None broken facts is stands = refl
no_serial_by listeners None (Some n) broken facts is stands = absurd stands
no_serial_by listeners (Some old) serial broken facts is stands = absurd (cc)

-- of a key that has a source
pub poll_meets : {P : Type 0} (arm_step : P → ArmCall → Result (Unit {0}) Failed → P → Type 0) (wait_step : P → WaitCall → Result Waited Failed → List Event → P → Type 0)
    (tells : P → Option Interests) (old new : P) (core : CoreValue) (key : Key) (dir : Dir) (waker : Waker) (e : SourceEntry) (s' : SourceValue) (polled : Polled) (before after : ℕ)
    → key ≡ e.source.key → entry_at core.sources key.0 ≡ Some e
    → (let p = polling e.source dir waker core.ticker in let r = lent.arm_answer (armed_in polled.answer) in
    polled ≡ record { answer = poll_answer p.ready (fault_of e.source.key before after r); replaced = p.replaced } → s' ≡ settled p.arms r p.source
    → ArmsOnce arm_step p.arms (arm_of p.source) old r new → TellsArmed p.arms (arm_of p.source) (tells old) r (tells new)
    → Meets (PollerStep arm_step wait_step) tells (step.Poll key dir waker) None (waiting_reply polled.answer) (option_to_list polled.replaced) None (old, core) (new, with_source core key.0 (with_state e s')))
poll_meets {P = P} arm_step wait_step tells old new core key dir waker e s' polled before after own is answered left did told =
    let p = polling e.source dir waker core.ticker in
    let r = lent.arm_answer (armed_in polled.answer) in
    record {
      moves = arm_moves p.arms (arm_of p.source) r;
      run = arm_runs arm_step wait_step p.arms (arm_of p.source) old new r did;
      waits = arm_waits p.arms (arm_of p.source) r None;
      comes = λ w later stands now.
          let at = e.source.key.0 in
          let here : entry_at core.sources at ≡ Some e = sym (ap (λ (k : Key). entry_at core.sources k.0) own) ∙ is in
          let serial = serial_by core.listeners (entry_at core.sources at) (serial_in w.live at) (is_broken w) (facts_in w) e here (stands.sources at) in
          let c = poll_finds (tells old) (tells new) core w serial.0 e dir waker r stands here serial.1 later (unasked arm_step p.arms (arm_of p.source) old new r did) told in
          let answers = map answer_of (arm_moves p.arms (arm_of p.source) r) ++ later in
          let o = poll_source w at dir waker (Some serial.0) answers in
          step_comes w (step.Poll key dir waker) answers (waiting_reply polled.answer) (option_to_list polled.replaced) (arm_moves p.arms (arm_of p.source) r) later (tells new) (with_source core key.0 (with_state e s'))
          (subst (λ (k : Key). Within (poll_source w k.0 dir waker (serial_in w.live k.0) answers) (waiting_reply polled.answer) (option_to_list polled.replaced) (arm_moves p.arms (arm_of p.source) r) later (tells new) (with_source core k.0 (with_state e s'))) (sym own)
          (subst (λ (n : Option ℕ). Within (poll_source w at dir waker n answers) (waiting_reply polled.answer) (option_to_list polled.replaced) (arm_moves p.arms (arm_of p.source) r) later (tells new) (with_source core at (with_state e s'))) (sym serial.1)
          (record {
            answer_is = c.answer_is ∙ sym (reply_is p.ready e.source.key before after r) ∙ sym (ap (λ (q : Polled). waiting_reply q.answer) answered);
            wakes_are = c.wakes_are ∙ sym (ap (λ (q : Polled). option_to_list q.replaced) answered);
            calls_are = c.calls_are;
            left_are = c.left_are;
            stands = subst (λ (s : SourceValue). StandsWithin (o.world.pos + 1) (tells new) (with_source core at (with_state e s)) o.world) (sym left) c.stands;
          })));
    }

-- of a key that has none
pub poll_misses : {P : Type 0} (poller_step : P → PollerMove → P → Type 0) (tells : P → Option Interests) (poller : P) (core : CoreValue) (key : Key) (dir : Dir) (waker : Waker)
    → entry_at core.sources key.0 ≡ None → Meets poller_step tells (step.Poll key dir waker) None replies.NoSource [] None (poller, core) (poller, core)
poll_misses {P = P} poller_step tells poller core key dir waker is = record {
  moves = [];
  run = refl;
  waits = tt;
  comes = λ w later stands now.
      quiet_comes (tells poller) core w (step.Poll key dir waker) replies.NoSource later
      (ap (λ (n : Option ℕ). poll_source w key.0 dir waker n later)
      (no_serial_by core.listeners (entry_at core.sources key.0) (serial_in w.live key.0) (is_broken w) (facts_in w) is (stands.sources key.0))) stands;
}
