-- The handling of an event by a core meets the machine's, whatever the poller answered.
use Rattle.std.proofs.Common.{◌≡◌, ℕ, Bool, true, false, not, if◌then◌else◌, List, [], ◌∷◌, ◌++◌, map, filter, drop, slice_set, Option, None, Some, is_some, option_map, IfSome, Result, Ok, Err, IsOk, refl, sym, ap, ◌∙◌, subst}
use Rattle.std.specs.Option.{option_or}
use Rattle.std.proofs.lemmas.Bool.{false≢true}
use Rattle.aio_base.specs.declared.names.Event.{Event}
use Rattle.aio_base.specs.declared.names.Interest.{Interest}
use Rattle.aio_base.specs.declared.names.Key.{Key}
use Rattle.aio_base.specs.declared.names.Waker.{Waker}
use Rattle.aio_base.specs.declared.names.TheConstants.Interest.{NONE}
use Rattle.aio_base.specs.declared.outcomes.ArmFault.{ArmFault}
use Rattle.aio_base.specs.declared.outcomes.EndWord.{EndWord}
use Rattle.aio_base.specs.declared.outcomes.EndWord.TheVariants.{FaultArm}
use Rattle.aio_base.specs.declared.outcomes.Failed.{Failed}
use Rattle.aio_base.specs.declared.outcomes.Waited.{Waited}
use Rattle.aio_base.specs.declared.outcomes.Which.TheVariants as which
use Rattle.aio_base.specs.declared.steps.Answer.TheVariants as replies
use Rattle.aio_base.specs.Devices.{Interests, PollerMove, PollerStep, ArmCall, WaitCall}
use Rattle.aio_base.specs.Machine.{Outcome, quiet, fails, next_answer, later_answers, after_arm, armed_world, broken_world, first_fault, wakers_taken, world_taken, rearmed, handle_source, handle_first, handle_in, handle_round, hand_of}
use Rattle.aio_base.specs.Moves.{answer_of}
use Rattle.aio_base.specs.World.{PollerAnswer, World, RoundState, LiveSource, directions, directions_of, has_dir, is_empty_list, serial_of, is_broken}
use Rattle.aio_base.specs.World as machine
use Rattle.aio_source.specs.Lent.{ArmsOnce, TellsArmed, arm_of, settled, arm_answer}
use Rattle.std.specs.List.{list_any}
use Rattle.aio_base.specs.declared.names.Dir.{Dir}
use Rattle.aio_base.proofs.DirectionLemmas.{has_dir-where, none_passing}
use Rattle.aio_source.specs.Rules.{Prepared, has_any, wanted, direction_of, handled_along}
use Rattle.aio_source.specs.Rules as source
use Rattle.aio_source.specs.Values.{SourceValue}
use Rattle.aio_react.specs.declared.entries.SourceEntry.{SourceEntry}
use Rattle.aio_react.specs.declared.outcomes.Handled.{Handled}
use Rattle.aio_react.specs.declared.refusals.CoreRefusal.{CoreRefusal}
use Rattle.aio_react.specs.declared.refusals.CoreRefusal.TheVariants as refusal
use Rattle.aio_source.specs.declared.in_hand.RoundFault.{RoundFault}
use Rattle.aio_source.specs.declared.in_hand.RoundFault.TheVariants.{Wait, Arm}
use Rattle.aio_react.specs.Cores.{CoreValue, entry_at}
use Rattle.aio_facts.specs.Facts.{facts_in, serial_in}
use Rattle.aio_react.specs.Parts.{ComesWithin, MeetsPart}
use Rattle.aio_source.specs.InHand.{RoundValue, first_interest, handling_first, taken_first, arm_told, skipped, handled}
use Rattle.aio_react.specs.Sections.{handle_reply}
use Rattle.aio_react.specs.Standing.{AreAsked, Runs, StandsWithin, end_word}
use Rattle.aio_facts.specs.Sound.{RunningSound}
use Rattle.aio_react.proofs.sources.ArmMeets.{arm_moves, arm_runs, arm_waits, armed_stands, failed_stands, none_asked, unasked}
use Rattle.aio_react.proofs.sources.DirectionFacts.{idle_stands}
use Rattle.aio_react.proofs.steps.PartMeets.{quiet_part}
use Rattle.aio_react.proofs.sources.PollMeets.{serial_by, no_serial_by}
use Rattle.aio_react.proofs.rounds.RoundMoves.{AsksNothing, round_moves, hand_less}
use Rattle.aio_react.proofs.sources.SourceChanges.{with_state, with_source, source_found, source_changes, place_here, placed_twice, placed_again}
use Rattle.aio_react.proofs.handling.Taking.{with_directions, along_stands}
use Rattle.aio_react.proofs.rounds.WaitMeets.{none_runs, one_runs, with_round, or_none}

-- ## The phase

-- with no round
pub handle_idle : {P : Type 0} (poller_step : P → PollerMove → P → Type 0) (tells : P → Option Interests) (poller : P) (core : CoreValue) (limit : Option ℕ) → core.round.running ≡ false
    → MeetsPart poller_step tells handle_round None replies.NoRound [] limit (poller, core) (poller, core)
handle_idle {P = P} poller_step tells poller core limit idle =
    quiet_part poller_step tells handle_round None replies.NoRound limit poller core
    (λ bound w later stands. ap (λ (round : Option RoundState). handle_in w round later) (none_runs core.round w.round stands.round idle))

-- with none in hand
pub handle_empty : {P : Type 0} (poller_step : P → PollerMove → P → Type 0) (tells : P → Option Interests) (poller : P) (core : CoreValue) (limit : Option ℕ) → core.round.running ≡ true
    → core.round.hand ≡ [] → MeetsPart poller_step tells handle_round None replies.Empty [] limit (poller, core) (poller, core)
handle_empty {P = P} poller_step tells poller core limit running none =
    quiet_part poller_step tells handle_round None replies.Empty limit poller core
    (λ bound w later stands.
    let one = one_runs core.round w.round stands.round running in
    ap (λ (round : Option RoundState). handle_in w round later) one.1 ∙ ap (λ (hand : List Event). handle_first w one.0 hand later) (one.2.hand_is ∙ none))

-- the first event is handled, of which the directions are these
first_made : (w : World) (s : RoundState) (event : Event) (events : List Event) (on : Interest) (serial : Option ℕ) (answers : List PollerAnswer) → w.round ≡ Some s
    → s.in_hand ≡ event ∷ events → on ≡ event.on → serial_of w event.key.0 ≡ serial
    → handle_round w answers ≡ handle_source w (record s { in_hand = events }) (record { key = event.key; on = on }) serial answers
first_made w s event events on serial answers is hand on_is found =
    ap (λ (round : Option RoundState). handle_in w round answers) is ∙ ap (λ (hand : List Event). handle_first w s hand answers) hand
    ∙ ap (λ (n : Option ℕ). handle_source w (record s { in_hand = events }) event n answers) found
    ∙ ap (λ (i : Interest). handle_source w (record s { in_hand = events }) (record { key = event.key; on = i }) serial answers) (sym on_is)

-- ## An event of no source

pub handle_dropped : {P : Type 0} (poller_step : P → PollerMove → P → Type 0) (tells : P → Option Interests) (poller : P) (core : CoreValue) (event : Event) (limit : Option ℕ) → core.round.running ≡ true
    → core.round.hand ≡ event ∷ drop 1 core.round.hand → entry_at core.sources event.key.0 ≡ None
    → MeetsPart poller_step tells handle_round None (replies.Handled event.key false) [] limit (poller, core) (poller, with_round core (skipped core.round))
handle_dropped {P = P} poller_step tells poller core event limit running hand none = record {
  moves = [];
  run = refl;
  waits = tt;
  comes = λ bound w later stands now.
      let one = one_runs core.round w.round stands.round running in
      let s : RoundState = record one.0 { in_hand = drop 1 core.round.hand } in
      let lost = no_serial_by core.listeners (entry_at core.sources event.key.0) (serial_in w.live event.key.0) (is_broken w) (facts_in w) none (stands.sources event.key.0) in
      subst (λ (o : Outcome). ComesWithin bound w o (replies.Handled event.key false) [] [] later (tells poller) (with_round core (skipped core.round)))
      (sym (first_made w one.0 event (drop 1 core.round.hand) event.on None later one.1 (one.2.hand_is ∙ hand) refl lost))
      (record {
        answer_is = refl;
        wakes_are = refl;
        calls_are = refl;
        left_are = refl;
        moment_is = refl;
        position_is = refl;
        stands = round_moves bound (tells poller) core w one.0 s (skipped core.round) stands one.1 refl refl
            (record {
              running = one.2.running;
              number_is = one.2.number_is;
              limit_is = one.2.limit_is;
              hand_is = refl;
              taken_is = one.2.taken_is;
              last_is = one.2.last_is;
              fault_is = one.2.fault_is;
            })
            (hand_less core.sources w.armed event (drop 1 core.round.hand) (rw none tt)
            (subst (AreAsked core.sources w.armed) (ap hand_of one.1 ∙ one.2.hand_is ∙ hand) stands.asked));
      });
}

-- ## The poller is armed again

arm_fault_is : (kept : Option RoundFault) (fault : ArmFault) → first_fault (end_word kept) FaultArm ≡ end_word (option_or kept (Some (Arm fault)))
arm_fault_is None fault = refl
arm_fault_is (Some (Wait kept)) fault = refl
arm_fault_is (Some (Arm kept)) fault = refl

-- a source is armed again exactly where a waiter is left
wants_any : (bound : ℕ) (told : Option Interests) (core : CoreValue) (w : World) (serial : ℕ) (e : SourceEntry) → StandsWithin bound told core w
    → entry_at core.sources e.source.key.0 ≡ Some e → serial_in w.live e.source.key.0 ≡ Some serial
    → is_empty_list (machine.wanted w serial) ≡ not (has_any (wanted e.source.directions))
wants_any bound told core w serial e stands is found =
    let before = source_found core w e.source.key.0 serial e stands.sources is found in
    none_passing (λ d. not (machine.is_idle w serial d)) directions
    ∙ ap (λ (test : Dir → Bool). not (list_any test directions)) (λ i d.
    (ap not (idle_stands core.listeners (direction_of e.source.directions d) w serial d stands.sound.listeners.only_polled_hold (before.each d))
    ∙ sym (has_dir-where (λ d. not (source.is_idle (direction_of e.source.directions d))) d)) i)

abbrev armed_again : World → RoundState → Key → ℕ → List PollerAnswer → Outcome
armed_again w round key serial answers =
    let answered = next_answer answers in
    let armed = after_arm w key.0 serial answered in
    record {
      answer = replies.Handled key (fails answered);
      wakes = [];
      world = if fails answered then record armed { round = Some (record round { fault = first_fault round.fault FaultArm }) } else armed;
      calls = which.Arm ∷ [];
      left = later_answers answers;
    }

-- the round with the fault of an arm, where it failed
abbrev with_fault : RoundValue → Option ArmFault → RoundValue
with_fault r fault = record r { fault = option_or r.fault (option_map Arm fault) }

-- the core once the poller was armed again
abbrev core_armed : CoreValue → SourceEntry → Bool → Option ArmFault → CoreValue
core_armed core e arms fault =
    with_round (with_source core e.source.key.0 (with_state e (settled arms (arm_answer (arm_told fault)) e.source))) (with_fault core.round fault)

arms_either : (arms : Bool) (fault : Option ArmFault) (bound : ℕ) (old new : Option Interests) (core : CoreValue) (u : World) (s : RoundState) (serial : ℕ) (e : SourceEntry)
    (later : List PollerAnswer) → (let w : World = record u { round = Some s } in let answer = arm_answer (arm_told fault) in
    StandsWithin bound old core w → entry_at core.sources e.source.key.0 ≡ Some e → serial_in u.live e.source.key.0 ≡ Some serial
    → Runs core.round s → (arms ≡ false → IsOk answer) → TellsArmed arms (arm_of e.source) old answer new
    → (let answers = map answer_of (arm_moves arms (arm_of e.source) answer) ++ later in
    ComesWithin bound w (if not arms then quiet (replies.Handled e.source.key false) w answers else armed_again w s e.source.key serial answers)
    (replies.Handled e.source.key (is_some fault)) [] (arm_moves arms (arm_of e.source) answer) later new (core_armed core e arms fault)))
arms_either false (Some fault) bound old new core u s serial e later stands is found runs none tells = absurd (false≢true (none refl))
arms_either false None bound old new core u s serial e later stands is found runs none tells = record {
  answer_is = refl;
  wakes_are = refl;
  calls_are = refl;
  left_are = refl;
  moment_is = refl;
  position_is = refl;
  stands = subst (λ (t : Option Interests). StandsWithin bound t (core_armed core e false None) (record u { round = Some s })) (sym tells)
      (subst (λ (sources : List (Option SourceEntry)). StandsWithin bound old (with_round (record core { sources = sources }) (with_fault core.round None)) (record u { round = Some s })) (sym (placed_again core.sources e.source.key.0 e is))
      (round_moves bound old core (record u { round = Some s }) s s (with_fault core.round None) stands refl refl refl
      (record {
        running = runs.running;
        number_is = runs.number_is;
        limit_is = runs.limit_is;
        hand_is = runs.hand_is;
        taken_is = runs.taken_is;
        last_is = runs.last_is;
        fault_is = runs.fault_is ∙ or_none core.round.fault;
      }) stands.asked));
}
arms_either true None bound old new core u s serial e later stands is found runs none tells =
    let w : World = record u { round = Some s } in
    let armed = armed_stands bound old new core w serial e stands is found tells in
    record {
      answer_is = refl;
      wakes_are = refl;
      calls_are = refl;
      left_are = refl;
      moment_is = refl;
      position_is = refl;
      stands = round_moves bound new (with_source core e.source.key.0 (with_state e (settled true (Ok tt) e.source))) (armed_world w e.source.key.0 serial) s s (with_fault core.round None) armed refl refl refl
          (record {
            running = runs.running;
            number_is = runs.number_is;
            limit_is = runs.limit_is;
            hand_is = runs.hand_is;
            taken_is = runs.taken_is;
            last_is = runs.last_is;
            fault_is = runs.fault_is ∙ or_none core.round.fault;
          }) armed.asked;
    }
arms_either true (Some fault) bound old new core u s serial e later stands is found runs none tells =
    let w : World = record u { round = Some s } in
    let s' : RoundState = record s { fault = first_fault s.fault FaultArm } in
    let failed = failed_stands bound old new core w serial e stands is found tells in
    record {
      answer_is = refl;
      wakes_are = refl;
      calls_are = refl;
      left_are = refl;
      moment_is = refl;
      position_is = refl;
      stands = round_moves bound new (with_source core e.source.key.0 (with_state e (settled true (Err (record {})) e.source))) (broken_world w serial) s s' (with_fault core.round (Some fault)) failed refl refl refl
          (record {
            running = runs.running;
            number_is = runs.number_is;
            limit_is = runs.limit_is;
            hand_is = runs.hand_is;
            taken_is = runs.taken_is;
            last_is = runs.last_is;
            fault_is = ap (λ (word : EndWord). first_fault word FaultArm) runs.fault_is ∙ arm_fault_is core.round.fault fault;
          }) failed.asked;
    }

rearm_comes : (fault : Option ArmFault) (bound : ℕ) (old new : Option Interests) (core : CoreValue) (u : World) (s : RoundState) (serial : ℕ) (e : SourceEntry)
    (later : List PollerAnswer) → (let w : World = record u { round = Some s } in let answer = arm_answer (arm_told fault) in let arms = has_any (wanted e.source.directions) in
    StandsWithin bound old core w → entry_at core.sources e.source.key.0 ≡ Some e → serial_in u.live e.source.key.0 ≡ Some serial
    → Runs core.round s → (arms ≡ false → IsOk answer) → TellsArmed arms (arm_of e.source) old answer new
    → ComesWithin bound w (rearmed w s e.source.key serial (map answer_of (arm_moves arms (arm_of e.source) answer) ++ later))
    (replies.Handled e.source.key (is_some fault)) [] (arm_moves arms (arm_of e.source) answer) later new (core_armed core e arms fault))
rearm_comes fault bound old new core u s serial e later stands is found runs none tells =
    let w : World = record u { round = Some s } in
    let arms = has_any (wanted e.source.directions) in
    let answer = arm_answer (arm_told fault) in
    let answers = map answer_of (arm_moves arms (arm_of e.source) answer) ++ later in
    subst (λ (empty : Bool). ComesWithin bound w (if empty then quiet (replies.Handled e.source.key false) w answers else armed_again w s e.source.key serial answers)
    (replies.Handled e.source.key (is_some fault)) [] (arm_moves arms (arm_of e.source) answer) later new (core_armed core e arms fault))
    (sym (wants_any bound old core w serial e stands is found))
    (arms_either arms fault bound old new core u s serial e later stands is found runs none tells)

-- ## An event of a source

-- the round once it took the waiters of a source for its first event in hand
abbrev round_taken : RoundValue → SourceValue → RoundValue
round_taken r s = record (skipped r) { taken = r.taken ++ taken_first r s }

-- the core once the first event in hand was handled
abbrev core_handled : CoreValue → SourceEntry → Option ArmFault → CoreValue
core_handled core e fault =
    let p = handling_first core.round e.source in
    with_round (with_source core e.source.key.0 (with_state e (settled p.arms (arm_answer (arm_told fault)) p.source))) (handled core.round (taken_first core.round e.source) fault)

unasked_stands : (bound : ℕ) (old : Option Interests) (core : CoreValue) (w : World) (key serial : ℕ) (e : SourceEntry) → StandsWithin bound old core w → entry_at core.sources key ≡ Some e
    → serial_in w.live key ≡ Some serial → StandsWithin bound old (with_source core key (with_state e (record e.source { asked = NONE }))) w
unasked_stands bound old core w key serial e stands is found =
    let before = source_found core w key serial e stands.sources is found in
    source_changes bound old old core w key serial e (record e.source { asked = NONE }) w.poll_waiters w.marks w.broken w.armed stands is found
    (record {
      now = record { each = before.each; broken_is = before.broken_is };
      listeners = λ dir. refl;
      aside = λ other apart. record { broken_is = refl; facts_are = λ dir. refl };
      armed_aside = λ k dir apart. refl;
      marks_before = stands.sound.past.marks_before;
      tells = stands.tells;
      asked = λ dir asks. none_asked dir asks _;
    })

handle_found : (bound : ℕ) (old new : Option Interests) (core : CoreValue) (w : World) (e : SourceEntry) (on : Interest) (fault : Option ArmFault) (later : List PollerAnswer)
    → (let p = handling_first core.round e.source in let answer = arm_answer (arm_told fault) in let first : Event = record { key = e.source.key; on = on } in
    StandsWithin bound old core w → core.round.running ≡ true → core.round.hand ≡ first ∷ drop 1 core.round.hand → entry_at core.sources e.source.key.0 ≡ Some e
    → (p.arms ≡ false → IsOk answer) → TellsArmed p.arms (arm_of p.source) old answer new
    → ComesWithin bound w (handle_round w (map answer_of (arm_moves p.arms (arm_of p.source) answer) ++ later)) (replies.Handled e.source.key (is_some fault)) []
    (arm_moves p.arms (arm_of p.source) answer) later new (core_handled core e fault))
handle_found bound old new core w e on fault later stands running hand is none tells =
    let p : Prepared = handling_first core.round e.source in
    let first : Event = record { key = e.source.key; on = on } in
    let i = first_interest core.round.hand in
    let key = e.source.key.0 in
    let answer = arm_answer (arm_told fault) in
    let answers = map answer_of (arm_moves p.arms (arm_of p.source) answer) ++ later in
    let one = one_runs core.round w.round stands.round running in
    let s : RoundState = one.0 in
    let there = serial_by core.listeners (entry_at core.sources key) (serial_in w.live key) (is_broken w) (facts_in w) e is (stands.sources key) in
    let serial = there.0 in
    let sound : RunningSound w.begun (Some s) = subst (RunningSound w.begun) one.1 stands.sound.running in
    let dirs = filter (has_dir i) directions in
    let u : World = world_taken w serial s.begin dirs in
    let e1 : SourceEntry = with_directions e (handled_along i core.round.number directions e.source.directions) in
    let e2 : SourceEntry = with_state e p.source in
    let taken = along_stands i directions bound old core w key serial e s.begin core.round.number stands is there.1 (sound.0 ∙ one.2.number_is) sound.1 in
    let lives : serial_in u.live key ≡ Some serial = ap (λ (live : List LiveSource). serial_in live key) taken.live_is ∙ there.1 in
    let unasks : StandsWithin bound old (with_source core key e2) u =
    subst (λ (sources : List (Option SourceEntry)). StandsWithin bound old (record core { sources = sources }) u) (placed_twice core.sources key (Some e1) (Some e2))
    (unasked_stands bound old (with_source core key e1) u key serial e1 taken.stands (place_here core.sources key e (Some e1) is) lives) in
    let s' : RoundState = record s { in_hand = drop 1 core.round.hand; taken = s.taken ++ wakers_taken w serial s.begin dirs } in
    let runs : Runs (round_taken core.round e.source) s' = record {
      running = one.2.running;
      number_is = one.2.number_is;
      limit_is = one.2.limit_is;
      hand_is = refl;
      taken_is = ap (λ (front : List Waker). front ++ wakers_taken w serial s.begin dirs) one.2.taken_is ∙ ap (λ (wakers : List Waker). core.round.taken ++ wakers) taken.wakers_are;
      last_is = one.2.last_is;
      fault_is = one.2.fault_is;
    } in
    let rounds : StandsWithin bound old (with_round (with_source core key e2) (round_taken core.round e.source)) (record u { round = Some s' }) =
    round_moves bound old (with_source core key e2) u s s' (round_taken core.round e.source) unasks (taken.round_is ∙ one.1) refl refl runs
    (hand_less (slice_set core.sources key (Some e2)) u.armed first (drop 1 core.round.hand) (subst AsksNothing (sym (place_here core.sources key e (Some e2) is)) refl)
    (subst (AreAsked (slice_set core.sources key (Some e2)) u.armed) (ap hand_of (taken.round_is ∙ one.1) ∙ one.2.hand_is ∙ hand) unasks.asked)) in
    let c = rearm_comes fault bound old new (with_round (with_source core key e2) (round_taken core.round e.source)) u s' serial e2 later rounds (place_here core.sources key e (Some e2) is) lives runs none tells in
    subst (λ (o : Outcome). ComesWithin bound w o (replies.Handled e.source.key (is_some fault)) [] (arm_moves p.arms (arm_of p.source) answer) later new (core_handled core e fault))
    (sym (first_made w s first (drop 1 core.round.hand) i (Some serial) answers one.1 (one.2.hand_is ∙ hand) (ap first_interest hand) there.1))
    (record {
      answer_is = c.answer_is;
      wakes_are = c.wakes_are;
      calls_are = c.calls_are;
      left_are = c.left_are;
      moment_is = c.moment_is ∙ taken.moment_is;
      position_is = c.position_is ∙ taken.position_is;
      stands = subst (λ (sources : List (Option SourceEntry)). StandsWithin bound new (with_round (record core { sources = sources }) (handled core.round (taken_first core.round e.source) fault))
          (rearmed (record u { round = Some s' }) s' e.source.key serial answers).world)
          (placed_twice core.sources key (Some e2) (Some (with_state e (settled p.arms answer p.source)))) c.stands;
    })

-- ## The call

handle_meets : {P : Type 0} (arm_step : P → ArmCall → Result (Unit {0}) Failed → P → Type 0) (wait_step : P → WaitCall → Result Waited Failed → List Event → P → Type 0)
    (tells : P → Option Interests) (old new : P) (core : CoreValue) (e : SourceEntry) (on : Interest) (fault : Option ArmFault) (limit : Option ℕ)
    → (let p = handling_first core.round e.source in let answer = arm_answer (arm_told fault) in let first : Event = record { key = e.source.key; on = on } in
    core.round.running ≡ true → core.round.hand ≡ first ∷ drop 1 core.round.hand → entry_at core.sources e.source.key.0 ≡ Some e
    → ArmsOnce arm_step p.arms (arm_of p.source) old answer new → TellsArmed p.arms (arm_of p.source) (tells old) answer (tells new)
    → MeetsPart (PollerStep arm_step wait_step) tells handle_round None (replies.Handled e.source.key (is_some fault)) [] limit (old, core) (new, core_handled core e fault))
handle_meets {P = P} arm_step wait_step tells old new core e on fault limit running hand is did arms =
    let p : Prepared = handling_first core.round e.source in
    let answer = arm_answer (arm_told fault) in
    record {
      moves = arm_moves p.arms (arm_of p.source) answer;
      run = arm_runs arm_step wait_step p.arms (arm_of p.source) old new answer did;
      waits = arm_waits p.arms (arm_of p.source) answer limit;
      comes = λ bound w later stands now.
          handle_found bound (tells old) (tells new) core w e on fault later stands running hand is (unasked arm_step p.arms (arm_of p.source) old new answer did) arms;
    }

-- by what the call left and answered
pub handle_answered : {P : Type 0} (arm_step : P → ArmCall → Result (Unit {0}) Failed → P → Type 0) (wait_step : P → WaitCall → Result Waited Failed → List Event → P → Type 0)
    (tells : P → Option Interests) (old new : P) (core : CoreValue) (event : Event) (e : SourceEntry) (s : SourceValue) (r : RoundValue) (fault : Option ArmFault) (limit : Option ℕ) (result : Result Handled CoreRefusal)
    → (let p = handling_first core.round e.source in let answer = arm_answer (arm_told fault) in
    core.round.running ≡ true → core.round.hand ≡ event ∷ drop 1 core.round.hand → event.key ≡ e.source.key → entry_at core.sources event.key.0 ≡ Some e
    → result ≡ Ok (record { key = event.key; fault = fault })
    → s ≡ settled p.arms answer p.source → r ≡ handled core.round (taken_first core.round e.source) fault
    → ArmsOnce arm_step p.arms (arm_of p.source) old answer new → TellsArmed p.arms (arm_of p.source) (tells old) answer (tells new)
    → IfSome (handle_reply result) (λ reply. MeetsPart (PollerStep arm_step wait_step) tells handle_round None reply [] limit (old, core)
    (new, record core { sources = slice_set core.sources event.key.0 (Some (with_state e s)); round = r })))
handle_answered {P = P} arm_step wait_step tells old new core event e s r fault limit result running hand own is said left rounds did arms =
    let met : Key → SourceValue → RoundValue → Type 0 = λ k s r.
    MeetsPart (PollerStep arm_step wait_step) tells handle_round None (replies.Handled k (is_some fault)) [] limit (old, core)
    (new, record core { sources = slice_set core.sources k.0 (Some (with_state e s)); round = r }) in
    let p : Prepared = handling_first core.round e.source in
    rw said
    (subst (λ (k : Key). met k s r) (sym own)
    (subst (λ (s : SourceValue). met e.source.key s r) (sym left)
    (subst (λ (r : RoundValue). met e.source.key (settled p.arms (arm_answer (arm_told fault)) p.source) r) (sym rounds)
    (handle_meets arm_step wait_step tells old new core e event.on fault limit running
    (hand ∙ ap (λ (k : Key). record { key = k; on = event.on } ∷ drop 1 core.round.hand) own) (ap (λ (k : Key). entry_at core.sources k.0) (sym own) ∙ is) did arms))))

-- where memory ran out there is no reply
pub handle_unanswered : {P : Type 0} (poller_step : P → PollerMove → P → Type 0) (tells : P → Option Interests) (old new : P × CoreValue) (limit : Option ℕ) (result : Result Handled CoreRefusal)
    → result ≡ Err refusal.OutOfMemory → IfSome (handle_reply result) (λ reply. MeetsPart poller_step tells handle_round None reply [] limit old new)
handle_unanswered {P = P} poller_step tells old new limit result said = rw said tt
