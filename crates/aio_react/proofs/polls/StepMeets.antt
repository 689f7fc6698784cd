-- A poll of a listener of a core meets the machine's, whatever the poller answered.
use Rattle.std.proofs.Common.{◌≡◌, ℕ, ◌+◌, Bool, true, false, if◌then◌else◌, ◌||◌, ◌==◌, List, [], ◌∷◌, ◌++◌, map, find, Option, None, Some, is_some, option_map, option_to_list, unwrap_or, Result, IsOk, refl, sym, ap, ◌∙◌, subst}
use Rattle.std.proofs.lemmas.Bool.{eq-eqb, eqb-true}
use Rattle.aio_base.specs.declared.names.Dir.{Dir}
use Rattle.aio_base.specs.declared.names.Event.{Event}
use Rattle.aio_base.specs.declared.names.Key.{Key}
use Rattle.aio_base.specs.declared.names.Waker.{Waker}
use Rattle.aio_base.specs.declared.outcomes.ArmFault.{ArmFault}
use Rattle.aio_base.specs.declared.outcomes.Failed.{Failed}
use Rattle.aio_base.specs.declared.outcomes.Poll.{Poll}
use Rattle.aio_base.specs.declared.outcomes.Waited.{Waited}
use Rattle.aio_base.specs.declared.steps.Answer.TheVariants as replies
use Rattle.aio_base.specs.declared.steps.Step.TheVariants as step
use Rattle.aio_base.specs.Devices.{Interests, ArmCall, WaitCall, PollerMove, PollerStep}
use Rattle.aio_base.specs.Machine.{Outcome, quiet, pending, is_listener, is_fresh_since, with_listening, step_listener}
use Rattle.aio_base.specs.Machine as machine
use Rattle.aio_base.specs.Moves.{answer_of}
use Rattle.aio_base.specs.World.{PollerAnswer, World, LiveSource, ListenerEntry, is_idle, is_broken, key_of}
use Rattle.aio_base.proofs.Membership.{found_is_in, passing_is_found}
use Rattle.aio_source.specs.Answers.{poll_answer, armed_in}
use Rattle.aio_source.specs.Lent.{ArmsOnce, TellsArmed, arm_of, settled, fault_of}
use Rattle.aio_source.specs.Lent as lent
use Rattle.aio_source.specs.Rules.{Prepared, Polling, polling_again, listening_first, is_above, is_above_both, listening, listening_again, direction_of, with_source_direction}
use Rattle.aio_source.specs.Rules as source
use Rattle.aio_source.specs.Values.{SourceValue}
use Rattle.aio_source.specs.declared.answers.Listened.{Listened}
use Rattle.aio_listen.specs.declared.ticket.Ticket.{Ticket}
use Rattle.aio_react.specs.declared.entries.Listener.{Listener}
use Rattle.aio_react.specs.declared.entries.SourceEntry.{SourceEntry}
use Rattle.aio_react.specs.Cores.{CoreValue, entry_at, AreListed}
use Rattle.aio_react.specs.Meeting.{Meets}
use Rattle.aio_react.specs.Numbers.{value_of, with_value}
use Rattle.aio_react.specs.Polls.{waiting_reply}
use Rattle.aio_react.specs.Standing.{numbers_in, Stands, StandsWithin}
use Rattle.aio_facts.specs.Facts.{serial_in}
use Rattle.aio_facts.specs.Sound.{LiveSound}
use Rattle.aio_react.proofs.sources.ArmMeets.{Within, step_comes, arm_moves, arm_waits, arm_runs, unasked, arm_reply, arm_within}
use Rattle.aio_react.proofs.sources.DirectionFacts.{idle_stands, remembered_fresh}
use Rattle.aio_react.proofs.listeners.KnownListeners.{Known, known, unknown, unpolled}
use Rattle.aio_react.proofs.steps.Later.{quiet_comes, stands_inside}
use Rattle.aio_react.proofs.listeners.ListenerChanges.{with_entries, with_heard, listener_changes}
use Rattle.aio_react.proofs.sources.PollMeets.{poll_told, Finds, finds_either, reply_is}
use Rattle.aio_react.proofs.sources.SourceChanges.{source_found, with_state, with_source, place_here, placed_again, placed_twice}
use Rattle.aio_facts.proofs.Serials.{lives, same_source}
use Rattle.aio_react.proofs.polls.StepEntries.{number_is, woken, polled_there, again_hears, begun_at, polled_last, polled_listener, first_hears}

-- ## The machine

step_is : (w : World) (waker : Waker) (entry : ListenerEntry) (answers : List PollerAnswer) (fresh arms : Bool) (entries : List ListenerEntry) (key : ℕ)
    → is_fresh_since w entry.serial entry.dir entry.position ≡ fresh → is_idle w entry.serial entry.dir || is_broken w entry.serial ≡ arms → with_listening w entry waker ≡ entries
    → unwrap_or (key_of w entry.serial) 0 ≡ key
    → step_listener w waker (Some entry) answers ≡ (if fresh then quiet replies.Ready w answers else pending arms (with_entries w entries) key entry.serial [] answers)
step_is w waker entry answers fresh arms entries key a b c d =
    λ i. if a i then quiet replies.Ready w answers else pending (b i) (record w { listeners = c i }) (d i) entry.serial [] answers

key_by : (live : List LiveSource) (serials key serial : ℕ) → LiveSound live serials → serial_in live key ≡ Some serial
    → unwrap_or (option_map (λ (s : LiveSource). s.key) (find (λ (s : LiveSource). s.serial == serial) live)) 0 ≡ key
key_by live serials key serial sound is =
    let mine = lives live key serial is in
    let found = passing_is_found (λ (s : LiveSource). s.serial == serial) live mine.source mine.among (eq-eqb mine.source.serial serial mine.serial_is) in
    let at = found_is_in (λ (s : LiveSource). s.serial == serial) live found.0 found.1 in
    ap (λ (s : Option LiveSource). unwrap_or (option_map (λ (s : LiveSource). s.key) s) 0) found.1
    ∙ same_source live found.0 mine.source sound.serials_differ at.0 mine.among (eqb-true found.0.serial serial at.1 ∙ sym mine.serial_is) ∙ mine.key_is

-- what a world finds of a listener, in the numbers that its source and the core keep
record Found (w : World) (waker : Waker) (number : ℕ) (l : Listener) (e : SourceEntry) (k : Known w number l) : Type 0 where
  fresh_is : is_fresh_since w k.entry.serial k.entry.dir k.entry.position ≡ is_above_both (numbers_in l.first) (direction_of e.source.directions l.dir).tick
  arms_is : is_idle w k.entry.serial k.entry.dir || is_broken w k.entry.serial ≡ source.is_idle (direction_of e.source.directions l.dir) || e.source.broken
  key_is : unwrap_or (key_of w k.entry.serial) 0 ≡ e.source.key.0
  serial_is : serial_in w.live e.source.key.0 ≡ Some k.entry.serial

finds : (told : Option Interests) (core : CoreValue) (w : World) (waker : Waker) (number : ℕ) (l : Listener) (e : SourceEntry) (k : Known w number l) → Stands told core w
    → entry_at core.sources e.source.key.0 ≡ Some e → l.key.0 ≡ e.source.key.0 → Found w waker number l e k
finds told core w waker number l e k stands there own =
    let serial_is : serial_in w.live e.source.key.0 ≡ Some k.entry.serial = ap (λ n. serial_in w.live n) (sym own) ∙ k.serial_is in
    let before = source_found core w e.source.key.0 k.entry.serial e stands.sources there serial_is in
    let d = direction_of e.source.directions l.dir in
    record {
      fresh_is = ap (λ (dir : Dir). is_fresh_since w k.entry.serial dir k.entry.position) k.dir_is
          ∙ remembered_fresh w.begun w.handled k.entry.serial l.dir d.tick (numbers_in l.first) k.entry.position stands.sound.past.of_rounds (before.each l.dir).tick_is k.remembers;
      arms_is = ap (λ (dir : Dir). is_idle w k.entry.serial dir || is_broken w k.entry.serial) k.dir_is
          ∙ ap (λ (b : Bool). b || is_broken w k.entry.serial) (idle_stands core.listeners d w k.entry.serial l.dir stands.sound.listeners.only_polled_hold (before.each l.dir))
          ∙ ap (λ (b : Bool). source.is_idle d || b) before.broken_is;
      key_is = key_by w.live w.serials e.source.key.0 k.entry.serial stands.sound.live serial_is;
      serial_is = serial_is;
    }

listening_later : (w : World) (number : ℕ) (waker : Waker) (l : Listener) (k : Known w number l) → is_some k.entry.position ≡ true → with_listening w k.entry waker ≡ map (woken number waker) w.listeners
listening_later w number waker l k polled =
    ap (λ (b : Bool). if b then map (woken k.entry.number waker) w.listeners else machine.without_listener w.listeners k.entry.number ++ begun_at w.pos waker k.entry ∷ []) polled
    ∙ ap (λ n. map (woken n waker) w.listeners) (number_is w number l k)

listening_at_first : (w : World) (number : ℕ) (waker : Waker) (l : Listener) (k : Known w number l) → is_some k.entry.position ≡ false → with_listening w k.entry waker ≡ polled_last w number waker k.entry
listening_at_first w number waker l k polled =
    ap (λ (b : Bool). if b then map (woken k.entry.number waker) w.listeners else machine.without_listener w.listeners k.entry.number ++ begun_at w.pos waker k.entry ∷ []) polled
    ∙ ap (λ n. machine.without_listener w.listeners n ++ begun_at w.pos waker k.entry ∷ []) (number_is w number l k)

-- ## A later poll

ready_again : (told told' : Option Interests) (core : CoreValue) (w : World) (e : SourceEntry) (answer : Result (Unit {0}) Failed) → Stands told core w
    → entry_at core.sources e.source.key.0 ≡ Some e
    → Finds told told' core e answer (λ answers. quiet replies.Ready w answers) (record { ready = true; replaced = None; source = e.source; arms = false })
ready_again told told' core w e answer at_start there later none tells = record {
  answer_is = refl;
  wakes_are = refl;
  calls_are = refl;
  left_are = refl;
  stands = subst (λ (t : Option Interests). StandsWithin (w.pos + 1) t (with_source core e.source.key.0 e) w) (sym tells)
      (subst (λ (sources : List (Option SourceEntry)). StandsWithin (w.pos + 1) told (record core { sources = sources }) w) (sym (placed_again core.sources e.source.key.0 e there)) (stands_inside told core w at_start));
}

pending_again : (told told' : Option Interests) (core : CoreValue) (w : World) (number : ℕ) (l : Listener) (first : Listened) (waker : Waker) (e : SourceEntry) (k : Known w number l)
    (answer : Result (Unit {0}) Failed) → Stands told core w → AreListed core.sources core.listeners → value_of core.listeners number ≡ Some l → l.first ≡ Some first
    → entry_at core.sources e.source.key.0 ≡ Some e → l.key.0 ≡ e.source.key.0
    → (let d = direction_of e.source.directions l.dir in
    Finds told told' core e answer (λ answers. pending (source.is_idle d || e.source.broken) (with_entries w (map (woken number waker) w.listeners)) e.source.key.0 k.entry.serial [] answers)
    (record { ready = false; replaced = None; source = with_source_direction e.source l.dir (listening_again first.ticket waker d); arms = source.is_idle d || e.source.broken }))
pending_again told told' core w number l first waker e k answer at_start listed is has there own later none tells =
    let stands = stands_inside told core w at_start in
    let key = e.source.key.0 in
    let d = direction_of e.source.directions l.dir in
    let arms = source.is_idle d || e.source.broken in
    let s' : SourceValue = with_source_direction e.source l.dir (listening_again first.ticket waker d) in
    let e' : SourceEntry = with_state e s' in
    let w' : World = with_entries w (map (woken number waker) w.listeners) in
    let found : serial_in w.live key ≡ Some k.entry.serial = ap (λ n. serial_in w.live n) (sym own) ∙ k.serial_is in
    let next = listener_changes (w.pos + 1) told core w key k.entry.serial number l.dir e (listening_again first.ticket waker d) e.listeners core.listeners (map (woken number waker) w.listeners) stands there found
    (again_hears (w.pos + 1) told core w key number l first waker e k has stands listed is there own) in
    subst (λ (sources : List (Option SourceEntry)). Within (pending arms w' key k.entry.serial [] (map answer_of (arm_moves arms (arm_of s') answer) ++ later))
    (arm_reply answer) [] (arm_moves arms (arm_of s') answer) later told' (record core { sources = sources }))
    (placed_twice core.sources key (Some e') (Some (with_state e (settled arms answer s'))))
    (arm_within arms told told' (with_source core key e') w' k.entry.serial e' answer [] later next (place_here core.sources key e (Some e') there) found none tells)

again_finds : (told told' : Option Interests) (core : CoreValue) (w : World) (number : ℕ) (l : Listener) (first : Listened) (waker : Waker) (e : SourceEntry) (k : Known w number l)
    (answer : Result (Unit {0}) Failed) → Stands told core w → AreListed core.sources core.listeners → value_of core.listeners number ≡ Some l → l.first ≡ Some first
    → entry_at core.sources e.source.key.0 ≡ Some e → l.key.0 ≡ e.source.key.0
    → Finds told told' core e answer (λ answers. step_listener w waker (Some k.entry) answers) (polling_again e.source l.dir first waker)
again_finds told told' core w number l first waker e k answer stands listed is has there own later none tells =
    let d = direction_of e.source.directions l.dir in
    let fresh = is_above first.a first.b d.tick in
    let arms = source.is_idle d || e.source.broken in
    let entries = map (woken number waker) w.listeners in
    let f = finds told core w waker number l e k stands there own in
    let p = polling_again e.source l.dir first waker in
    let answers = map answer_of (arm_moves p.arms (arm_of p.source) answer) ++ later in
    subst (λ (o : Outcome). Within o (poll_told p.ready answer) (option_to_list p.replaced) (arm_moves p.arms (arm_of p.source) answer) later told' (with_source core e.source.key.0 (with_state e (settled p.arms answer p.source))))
    (sym (step_is w waker k.entry answers fresh arms entries e.source.key.0
    (f.fresh_is ∙ ap (λ (o : Option Listened). is_above_both (numbers_in o) d.tick) has) f.arms_is (listening_later w number waker l k (polled_there w number l first k has)) f.key_is))
    (finds_either told told' core e answer fresh
    (λ answers. quiet replies.Ready w answers)
    (λ answers. pending arms (with_entries w entries) e.source.key.0 k.entry.serial [] answers)
    (record { ready = true; replaced = None; source = e.source; arms = false })
    (record { ready = false; replaced = None; source = with_source_direction e.source l.dir (listening_again first.ticket waker d); arms = arms })
    (λ yes. ready_again told told' core w e answer stands there)
    (λ not_yet. pending_again told told' core w number l first waker e k answer stands listed is has there own)
    later none tells)

none_replaced : (b : Bool) (x y : Polling) → x.replaced ≡ None → y.replaced ≡ None → (if b then x else y).replaced ≡ None
none_replaced true x y first second = first
none_replaced false x y first second = second

pub again_meets : {P : Type 0} (arm_step : P → ArmCall → Result (Unit {0}) Failed → P → Type 0) (wait_step : P → WaitCall → Result Waited Failed → List Event → P → Type 0)
    (tells : P → Option Interests) (old new : P) (core : CoreValue) (number : ℕ) (l : Listener) (first : Listened) (waker : Waker) (e : SourceEntry) (s' : SourceValue)
    (polled : Poll (Result (Unit {0}) ArmFault)) (before after : ℕ)
    → l.key ≡ e.source.key → entry_at core.sources l.key.0 ≡ Some e → value_of core.listeners number ≡ Some l → l.first ≡ Some first → AreListed core.sources core.listeners
    → (let p = polling_again e.source l.dir first waker in let r = lent.arm_answer (armed_in polled) in
    polled ≡ poll_answer p.ready (fault_of e.source.key before after r) → s' ≡ settled p.arms r p.source
    → ArmsOnce arm_step p.arms (arm_of p.source) old r new → TellsArmed p.arms (arm_of p.source) (tells old) r (tells new)
    → Meets (PollerStep arm_step wait_step) tells (step.StepEar number waker) None (waiting_reply polled) [] None (old, core) (new, with_source core l.key.0 (with_state e s')))
again_meets {P = P} arm_step wait_step tells old new core number l first waker e s' polled before after own is there has listed answered left did told =
    let p = polling_again e.source l.dir first waker in
    let r = lent.arm_answer (armed_in polled) in
    let moves = arm_moves p.arms (arm_of p.source) r in
    record {
      moves = moves;
      run = arm_runs arm_step wait_step p.arms (arm_of p.source) old new r did;
      waits = arm_waits p.arms (arm_of p.source) r None;
      comes = λ w later stands now.
          let at = e.source.key.0 in
          let keys : l.key.0 ≡ at = ap (λ (k : Key). k.0) own in
          let here : entry_at core.sources at ≡ Some e = sym (ap (λ n. entry_at core.sources n) keys) ∙ is in
          let k = known w.pos (tells old) core w number l stands there in
          let answers = map answer_of moves ++ later in
          let c = again_finds (tells old) (tells new) core w number l first waker e k r stands listed there has here keys later (unasked arm_step p.arms (arm_of p.source) old new r did) told in
          let o = step_listener w waker (Some k.entry) answers in
          step_comes w (step.StepEar number waker) answers (waiting_reply polled) [] moves later (tells new) (with_source core l.key.0 (with_state e s'))
          (subst (λ (n : ℕ). Within (step_listener w waker (find (is_listener number) w.listeners) answers) (waiting_reply polled) [] moves later (tells new) (with_source core n (with_state e s'))) (sym keys)
          (subst (λ (x : Option ListenerEntry). Within (step_listener w waker x answers) (waiting_reply polled) [] moves later (tells new) (with_source core at (with_state e s'))) (sym k.found)
          (record {
            answer_is = c.answer_is ∙ sym (reply_is p.ready e.source.key before after r) ∙ sym (ap waiting_reply answered);
            wakes_are = c.wakes_are ∙ ap (λ (held : Option Waker). option_to_list held) (none_replaced (is_above first.a first.b (direction_of e.source.directions l.dir).tick) _ _ refl refl);
            calls_are = c.calls_are;
            left_are = c.left_are;
            stands = subst (λ (s : SourceValue). StandsWithin (o.world.pos + 1) (tells new) (with_source core at (with_state e s)) o.world) (sym left) c.stands;
          })));
    }

-- ## A first poll

first_finds : (told told' : Option Interests) (core : CoreValue) (w : World) (number : ℕ) (l : Listener) (first : Listened) (waker : Waker) (e : SourceEntry) (k : Known w number l)
    (answer : Result (Unit {0}) Failed) (later : List PollerAnswer) → Stands told core w → value_of core.listeners number ≡ Some l → l.first ≡ None
    → entry_at core.sources e.source.key.0 ≡ Some e → l.key.0 ≡ e.source.key.0 → first.a ≡ core.ticker → first.b ≡ (direction_of e.source.directions l.dir).tick
    → (let p = listening_first e.source l.dir waker (Some first.ticket) in
    (p.arms ≡ false → IsOk answer) → TellsArmed p.arms (arm_of p.source) told answer told'
    → Within (step_listener w waker (Some k.entry) (map answer_of (arm_moves p.arms (arm_of p.source) answer) ++ later)) (arm_reply answer) [] (arm_moves p.arms (arm_of p.source) answer) later told'
    (with_heard core e.source.key.0 (with_state e (settled p.arms answer p.source)) (with_value core.listeners number (Some (polled_listener l first)))))
first_finds told told' core w number l first waker e k answer later at_start is never there own ticker tick none tells =
    let stands = stands_inside told core w at_start in
    let key = e.source.key.0 in
    let d = direction_of e.source.directions l.dir in
    let arms = source.is_idle d || e.source.broken in
    let s' : SourceValue = with_source_direction e.source l.dir (listening first.ticket waker d) in
    let e' : SourceEntry = with_state e s' in
    let listeners' = with_value core.listeners number (Some (polled_listener l first)) in
    let entries = polled_last w number waker k.entry in
    let w' : World = with_entries w entries in
    let f = finds told core w waker number l e k at_start there own in
    let answers = map answer_of (arm_moves arms (arm_of s') answer) ++ later in
    let next = listener_changes (w.pos + 1) told core w key k.entry.serial number l.dir e (listening first.ticket waker d) e.listeners listeners' entries stands there f.serial_is
    (first_hears told core w key number l first waker e k never at_start is there own ticker tick) in
    subst (λ (o : Outcome). Within o (arm_reply answer) [] (arm_moves arms (arm_of s') answer) later told' (with_heard core key (with_state e (settled arms answer s')) listeners'))
    (sym (step_is w waker k.entry answers false arms entries key (f.fresh_is ∙ ap (λ (o : Option Listened). is_above_both (numbers_in o) d.tick) never) f.arms_is
    (listening_at_first w number waker l k (unpolled w number l k never)) f.key_is))
    (subst (λ (sources : List (Option SourceEntry)). Within (pending arms w' key k.entry.serial [] answers) (arm_reply answer) [] (arm_moves arms (arm_of s') answer) later told'
    (record core { sources = sources; listeners = listeners' }))
    (placed_twice core.sources key (Some e') (Some (with_state e (settled arms answer s'))))
    (arm_within arms told told' (with_heard core key e' listeners') w' k.entry.serial e' answer [] later next (place_here core.sources key e (Some e') there) f.serial_is none tells))

first_meets_with : {P : Type 0} (arm_step : P → ArmCall → Result (Unit {0}) Failed → P → Type 0) (wait_step : P → WaitCall → Result Waited Failed → List Event → P → Type 0)
    (tells : P → Option Interests) (old new : P) (core : CoreValue) (number : ℕ) (l : Listener) (first : Listened) (waker : Waker) (e : SourceEntry) (s' : SourceValue)
    (armed : Result (Unit {0}) ArmFault) (before after : ℕ)
    → l.key ≡ e.source.key → entry_at core.sources l.key.0 ≡ Some e → value_of core.listeners number ≡ Some l → l.first ≡ None
    → first.a ≡ core.ticker → first.b ≡ (direction_of e.source.directions l.dir).tick
    → (let p = listening_first e.source l.dir waker (Some first.ticket) in let r = lent.arm_answer armed in
    armed ≡ fault_of e.source.key before after r → s' ≡ settled p.arms r p.source
    → ArmsOnce arm_step p.arms (arm_of p.source) old r new → TellsArmed p.arms (arm_of p.source) (tells old) r (tells new)
    → Meets (PollerStep arm_step wait_step) tells (step.StepEar number waker) None (waiting_reply (poll_answer false armed)) [] None (old, core)
    (new, with_heard core l.key.0 (with_state e s') (with_value core.listeners number (Some (polled_listener l first)))))
first_meets_with {P = P} arm_step wait_step tells old new core number l first waker e s' armed before after own is there never ticker tick answered left did told =
    let p = listening_first e.source l.dir waker (Some first.ticket) in
    let r = lent.arm_answer armed in
    let moves = arm_moves p.arms (arm_of p.source) r in
    let listeners' = with_value core.listeners number (Some (polled_listener l first)) in
    record {
      moves = moves;
      run = arm_runs arm_step wait_step p.arms (arm_of p.source) old new r did;
      waits = arm_waits p.arms (arm_of p.source) r None;
      comes = λ w later stands now.
          let at = e.source.key.0 in
          let keys : l.key.0 ≡ at = ap (λ (k : Key). k.0) own in
          let here : entry_at core.sources at ≡ Some e = sym (ap (λ n. entry_at core.sources n) keys) ∙ is in
          let k = known w.pos (tells old) core w number l stands there in
          let answers = map answer_of moves ++ later in
          let c = first_finds (tells old) (tells new) core w number l first waker e k r later stands there never here keys ticker tick (unasked arm_step p.arms (arm_of p.source) old new r did) told in
          let o = step_listener w waker (Some k.entry) answers in
          step_comes w (step.StepEar number waker) answers (waiting_reply (poll_answer false armed)) [] moves later (tells new) (with_heard core l.key.0 (with_state e s') listeners')
          (subst (λ (n : ℕ). Within (step_listener w waker (find (is_listener number) w.listeners) answers) (waiting_reply (poll_answer false armed)) [] moves later (tells new)
          (with_heard core n (with_state e s') listeners')) (sym keys)
          (subst (λ (x : Option ListenerEntry). Within (step_listener w waker x answers) (waiting_reply (poll_answer false armed)) [] moves later (tells new) (with_heard core at (with_state e s') listeners')) (sym k.found)
          (record {
            answer_is = c.answer_is ∙ sym (reply_is false e.source.key before after r) ∙ sym (ap (λ (a : Result (Unit {0}) ArmFault). waiting_reply (poll_answer false a)) answered);
            wakes_are = c.wakes_are;
            calls_are = c.calls_are;
            left_are = c.left_are;
            stands = subst (λ (s : SourceValue). StandsWithin (o.world.pos + 1) (tells new) (with_heard core at (with_state e s) listeners') o.world) (sym left) c.stands;
          })));
    }

pub first_meets : {P : Type 0} (arm_step : P → ArmCall → Result (Unit {0}) Failed → P → Type 0) (wait_step : P → WaitCall → Result Waited Failed → List Event → P → Type 0)
    (tells : P → Option Interests) (old new : P) (core : CoreValue) (number : ℕ) (l : Listener) (first : Listened) (waker : Waker) (e : SourceEntry) (s' : SourceValue)
    (armed : Result (Unit {0}) ArmFault) (ticket : Option Ticket) (before after : ℕ)
    → l.key ≡ e.source.key → entry_at core.sources l.key.0 ≡ Some e → value_of core.listeners number ≡ Some l → l.first ≡ None
    → first.a ≡ core.ticker → first.b ≡ (direction_of e.source.directions l.dir).tick → ticket ≡ Some first.ticket
    → (let p = listening_first e.source l.dir waker ticket in let r = lent.arm_answer armed in
    armed ≡ fault_of e.source.key before after r → s' ≡ settled p.arms r p.source
    → ArmsOnce arm_step p.arms (arm_of p.source) old r new → TellsArmed p.arms (arm_of p.source) (tells old) r (tells new)
    → Meets (PollerStep arm_step wait_step) tells (step.StepEar number waker) None (waiting_reply (poll_answer false armed)) [] None (old, core)
    (new, with_heard core l.key.0 (with_state e s') (with_value core.listeners number (Some (polled_listener l first)))))
first_meets {P = P} arm_step wait_step tells old new core number l first waker e s' armed ticket before after own is there never ticker tick drew =
    subst (λ (ticket : Option Ticket). let p = listening_first e.source l.dir waker ticket in let r = lent.arm_answer armed in
    armed ≡ fault_of e.source.key before after r → s' ≡ settled p.arms r p.source
    → ArmsOnce arm_step p.arms (arm_of p.source) old r new → TellsArmed p.arms (arm_of p.source) (tells old) r (tells new)
    → Meets (PollerStep arm_step wait_step) tells (step.StepEar number waker) None (waiting_reply (poll_answer false armed)) [] None (old, core)
    (new, with_heard core l.key.0 (with_state e s') (with_value core.listeners number (Some (polled_listener l first))))) (sym drew)
    (first_meets_with arm_step wait_step tells old new core number l first waker e s' armed before after own is there never ticker tick)

-- of a number that no listener has
pub step_misses : {P : Type 0} (poller_step : P → PollerMove → P → Type 0) (tells : P → Option Interests) (poller : P) (core : CoreValue) (number : ℕ) (waker : Waker) → value_of core.listeners number ≡ None
    → Meets poller_step tells (step.StepEar number waker) None replies.NoListener [] None (poller, core) (poller, core)
step_misses {P = P} poller_step tells poller core number waker is = record {
  moves = [];
  run = refl;
  waits = tt;
  comes = λ w later stands now.
      quiet_comes (tells poller) core w (step.StepEar number waker) replies.NoListener later
      (ap (λ (x : Option ListenerEntry). step_listener w waker x later) (unknown w.pos (tells poller) core w number stands is)) stands;
}
