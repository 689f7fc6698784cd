-- A whole round of a core meets the machine's, whatever the poller answered; and what is left of one that was stopped.
use Rattle.std.proofs.Common.{◌≡◌, ℕ, ◌+◌, ◌-◌, ◌^◌, ◌==◌, Bool, true, false, if◌then◌else◌, List, [], ◌++◌, map, length, Option, None, Some, is_some, IfSome, unwrap_or, Err, refl, sym, ap, ◌∙◌, subst, append-nil}
use Rattle.aio_base.specs.declared.names.Event.{Event}
use Rattle.aio_base.specs.declared.names.Waker.{Waker}
use Rattle.aio_base.specs.declared.outcomes.EndWord.{EndWord}
use Rattle.aio_base.specs.declared.outcomes.Which.{Which}
use Rattle.aio_base.specs.declared.steps.Answer.{Answer}
use Rattle.aio_base.specs.declared.steps.Answer.TheVariants as replies
use Rattle.aio_base.specs.declared.steps.Step.TheVariants as step
use Rattle.aio_base.specs.Devices.{Interests, PollerMove}
use Rattle.aio_base.specs.Machine.{Outcome, quiet, moved_on, begin_round, wait_round, handle_each, finish_in, finish_round, hand_of, fault_of_round, react, step_result}
use Rattle.aio_base.specs.Moves.{answer_of}
use Rattle.aio_base.specs.Timers.{limit_of}
use Rattle.aio_base.specs.World.{PollerAnswer, World, RoundState}
use Rattle.aio_react.specs.declared.refusals.CoreRefusal.{CoreRefusal}
use Rattle.aio_react.specs.declared.refusals.CoreRefusal.TheVariants as refusal
use Rattle.aio_source.specs.declared.in_hand.RoundFault.{RoundFault}
use Rattle.aio_react.specs.Cores.{CoreValue}
use Rattle.aio_react.specs.Meeting.{Comes, Meets, kind_of}
use Rattle.aio_react.specs.Parts.{MeetsPart}
use Rattle.aio_react.specs.Reacting.{react_reply, MeetsRound, Handles, Stopped}
use Rattle.aio_react.specs.Replies.{empty_hand_refusal}
use Rattle.aio_source.specs.InHand.{RoundValue}
use Rattle.aio_react.specs.Sections.{begin_refusal, core_begun}
use Rattle.aio_react.specs.Standing.{StandsWithin, end_word}
use Rattle.aio_react.proofs.rounds.BeginMeets.{world_begun, begun_stands, begin_is_made, begin_meets, busy_world}
use Rattle.aio_react.proofs.handling.HandleRows.{steps_stand}
use Rattle.aio_react.proofs.steps.Later.{stands_later, stands_moved}
use Rattle.aio_react.proofs.steps.PartRows.{runs_both, waits_both, answers_both, mapped_both}
use Rattle.aio_react.proofs.rounds.WaitMeets.{none_runs, one_runs}

-- ## The machine

-- a whole round, by its wait, the handling of its events and its finish
abbrev row : World → Outcome → Outcome → Outcome → ℕ → Outcome
row w waited handled ended given = record {
  answer = replies.Round (w.rounds + 1) given (fault_of_round handled.world.round);
  wakes = ended.wakes;
  world = ended.world;
  calls = waited.calls ++ handled.calls;
  left = ended.left;
}

-- by its wait, and the events that this gave
abbrev row_from : World → Outcome → List Event → List PollerAnswer → Outcome
row_from w waited hand left =
    let handled = handle_each hand waited.world left in
    row w waited handled (finish_round handled.world handled.left) (length hand)

-- by its begin
abbrev row_begun : World → Outcome → Outcome
row_begun w begun =
    let waited = wait_round begun.world begun.left in
    row_from w waited (hand_of waited.world.round) waited.left

react_made : (w : World) (given : Option ℕ) (answers : List PollerAnswer) → w.round ≡ None
    → react w given answers ≡ (let waited = wait_round (world_begun w given) answers in row_from w waited (hand_of waited.world.round) waited.left)
react_made w given answers none =
    ap (λ (busy : Bool). if busy then quiet replies.Locked w answers else row_begun w (begin_round w given answers)) (ap is_some none)
    ∙ ap (row_begun w) (begin_is_made w given answers none)

row_is : (w : World) (waited : Outcome) (hand : List Event) (first second : List PollerAnswer) → hand_of waited.world.round ≡ hand → waited.left ≡ first
    → (handle_each hand waited.world first).left ≡ second
    → row_from w waited (hand_of waited.world.round) waited.left ≡ (let handled = handle_each hand waited.world first in row w waited handled (finish_round handled.world second) (length hand))
row_is w waited hand first second given left rest =
    ap (λ (events : List Event). row_from w waited events waited.left) given ∙ ap (row_from w waited hand) left
    ∙ ap (λ (answers : List PollerAnswer). let handled = handle_each hand waited.world first in row w waited handled (finish_round handled.world answers) (length hand)) rest

either_calls : (test : Bool) (a b : Outcome) → a.calls ≡ [] → b.calls ≡ [] → (if test then a else b).calls ≡ []
either_calls true a b first second = first
either_calls false a b first second = second

-- a finish asks nothing of the poller
finish_calls : (w : World) (round : Option RoundState) (answers : List PollerAnswer) → (finish_in w round answers).calls ≡ []
finish_calls w None answers = refl
finish_calls w (Some round) answers = either_calls _ _ _ refl refl

-- ## The whole

reply_is : (number events rounds given : ℕ) (word : EndWord) (fault : Option RoundFault) → rounds + 1 ≡ number → given ≡ events → word ≡ end_word fault
    → replies.Round (rounds + 1) given word ≡ replies.Round number events (end_word fault)
reply_is number events rounds given word fault first second third =
    ap (λ (n : ℕ). replies.Round n given word) first ∙ ap (λ (n : ℕ). replies.Round number n word) second ∙ ap (λ (e : EndWord). replies.Round number events e) third

fault_in : (round : Option RoundState) (s : RoundState) (word : EndWord) → round ≡ Some s → s.fault ≡ word → fault_of_round round ≡ word
fault_in round s word is same = ap fault_of_round is ∙ same

calls_in : (a b c : List PollerMove) → map kind_of c ≡ [] → map kind_of a ++ map kind_of b ≡ map kind_of (a ++ (b ++ c))
calls_in a b c none =
    ap (λ (kinds : List Which). map kind_of a ++ kinds) (sym (append-nil (map kind_of b)) ∙ ap (λ (kinds : List Which). map kind_of b ++ kinds) (sym none) ∙ sym (mapped_both kind_of b c))
    ∙ sym (mapped_both kind_of a (b ++ c))

whole_meets : {P : Type 0} (poller_step : P → PollerMove → P → Type 0) (tells : P → Option Interests) (given : Option ℕ) (now events : ℕ) (fault : Option RoundFault) (waits : Answer) (wakes : List Waker)
    (poller : P) (core : CoreValue) (mid far new : P × CoreValue) → (let limit = limit_of now core.book given in
    core.round.running ≡ false → mid.1.round.running ≡ true → far.1.round.running ≡ true → length mid.1.round.hand ≡ events → far.1.round.fault ≡ fault
    → MeetsPart poller_step tells wait_round None waits [] limit (poller, core_begun core now given) mid
    → MeetsPart poller_step tells (handle_each mid.1.round.hand) None replies.Empty [] limit mid far
    → MeetsPart poller_step tells finish_round (Some now) (replies.End (end_word fault)) wakes limit far new
    → MeetsRound poller_step tells given now (replies.Round (core.ticker + 1) events (end_word fault)) wakes (poller, core) new)
whole_meets {P = P} poller_step tells given now events fault waits wakes poller core mid far new idle one_runs_on all_run_on events_are fault_is waited handled finished =
    let limit = limit_of now core.book given in
    let a = waited.moves in
    let b = handled.moves in
    let c = finished.moves in
    record {
      moves = a ++ (b ++ c);
      run = runs_both poller_step a (b ++ c) poller mid.0 new.0 waited.run (runs_both poller_step b c mid.0 far.0 new.0 handled.run finished.run);
      waits = waits_both limit a (b ++ c) waited.waits (waits_both limit b c handled.waits finished.waits);
      comes = λ w later stands at.
          let none = none_runs core.round w.round stands.round idle in
          let bound = w.pos + 1 in
          let v : World = world_begun w given in
          let second = map answer_of c ++ later in
          let first = map answer_of b ++ second in
          let answers = map answer_of a ++ first in
          let hand = mid.1.round.hand in
          let x : Outcome = wait_round v answers in
          let one = waited.comes bound v first (begun_stands (tells poller) core w now given stands none at) tt in
          let running = one_runs mid.1.round x.world.round one.stands.round one_runs_on in
          let y : Outcome = handle_each hand x.world first in
          let two = handled.comes bound x.world second one.stands tt in
          let still = one_runs far.1.round y.world.round two.stands.round all_run_on in
          let z : Outcome = finish_round y.world second in
          let three = finished.comes bound y.world later two.stands (two.moment_is ∙ one.moment_is ∙ at) in
          let as_asked = answers_both a (b ++ c) later ∙ ap (λ (rest : List PollerAnswer). map answer_of a ++ rest) (answers_both b c later) in
          let made = ap (react w given) as_asked ∙ react_made w given answers none
          ∙ row_is w x hand first second (ap hand_of running.1 ∙ running.2.hand_is) one.left_are two.left_are in
          subst (λ (o : Outcome). Comes (moved_on o) (replies.Round (core.ticker + 1) events (end_word fault)) wakes (a ++ (b ++ c)) later (tells new.0) new.1) (sym made)
          (record {
            answer_is = reply_is (core.ticker + 1) events w.rounds (length hand) (fault_of_round y.world.round) fault (ap (λ (n : ℕ). n + 1) stands.ticker_is) events_are
                (fault_in y.world.round still.0 (end_word fault) still.1 (still.2.fault_is ∙ ap end_word fault_is));
            wakes_are = three.wakes_are;
            calls_are = ap (λ (kinds : List Which). kinds ++ y.calls) one.calls_are ∙ ap (λ (kinds : List Which). map kind_of a ++ kinds) two.calls_are
                ∙ calls_in a b c (sym three.calls_are ∙ finish_calls y.world y.world.round second);
            left_are = three.left_are;
            stands = stands_moved (tells new.0) new.1 z.world
                (subst (λ (pos : ℕ). StandsWithin (pos + 1) (tells new.0) new.1 z.world) (sym (three.position_is ∙ two.position_is ∙ one.position_is)) three.stands);
          });
    }

pair_is : {A B : Type 0} (p : A × B) (a : A) (b : B) → p.0 ≡ a → p.1 ≡ b → p ≡ (a, b)
pair_is p a b e f = λ i. (e i, f i)

-- by what its sections say
pub react_meets : {P : Type 0} (poller_step : P → PollerMove → P → Type 0) (tells : P → Option Interests) (given : Option ℕ) (now number events : ℕ) (fault : Option RoundFault) (waits : Answer) (wakes : List Waker)
    (old first mid far new : P × CoreValue) → old.1.round.running ≡ false → first.0 ≡ old.0 → first.1 ≡ core_begun old.1 now given → mid.1.round.running ≡ true → far.1.round.running ≡ true
    → number ≡ old.1.ticker + 1 → length mid.1.round.hand ≡ events → far.1.round.fault ≡ fault
    → MeetsPart poller_step tells wait_round None waits [] first.1.round.limit first mid
    → ((limit : Option ℕ) → MeetsPart poller_step tells (handle_each mid.1.round.hand) None replies.Empty [] limit mid far)
    → ((limit : Option ℕ) → MeetsPart poller_step tells finish_round (Some now) (replies.End (end_word fault)) wakes limit far new)
    → MeetsRound poller_step tells given now (replies.Round number events (end_word fault)) wakes old new
react_meets {P = P} poller_step tells given now number events fault waits wakes old first mid far new idle poller_is begun_is running still number_is events_are fault_is waited handled finished =
    let limit = limit_of now old.1.book given in
    let begun = subst (λ (p : P × CoreValue). MeetsPart poller_step tells wait_round None waits [] p.1.round.limit p mid) (pair_is first old.0 (core_begun old.1 now given) poller_is begun_is) waited in
    subst (λ (n : ℕ). MeetsRound poller_step tells given now (replies.Round n events (end_word fault)) wakes old new) (sym number_is)
    (whole_meets poller_step tells given now events fault waits wakes old.0 old.1 mid far new idle running still events_are fault_is begun (handled limit) (finished limit))

-- with no given limit it is a step of its own
round_is_react : {P : Type 0} (poller_step : P → PollerMove → P → Type 0) (tells : P → Option Interests) (now : ℕ) (answer : Answer) (wakes : List Waker) (old new : P × CoreValue)
    → MeetsRound poller_step tells None now answer wakes old new → Meets poller_step tells step.React (Some now) answer wakes (limit_of now old.1.book None) old new
unfolding step_result
round_is_react {P = P} poller_step tells now answer wakes old new met =
    record { moves = met.moves; run = met.run; waits = met.waits; comes = λ w later stands at. met.comes w later stands at }

round_alone_by : {P : Type 0} (poller_step : P → PollerMove → P → Type 0) (tells : P → Option Interests) (now : ℕ) (reply : Option Answer) (wakes : List Waker) (old new : P × CoreValue)
    → IfSome reply (λ answer. MeetsRound poller_step tells None now answer wakes old new)
    → IfSome reply (λ answer. Meets poller_step tells step.React (Some now) answer wakes (limit_of now old.1.book None) old new)
round_alone_by {P = P} poller_step tells now None wakes old new met = tt
round_alone_by {P = P} poller_step tells now (Some answer) wakes old new met = round_is_react poller_step tells now answer wakes old new met

pub round_alone : {P : Type 0} (poller_step : P → PollerMove → P → Type 0) (tells : P → Option Interests) (given : Option ℕ) (now : ℕ) (reply : Option Answer) (wakes : List Waker) (old new : P × CoreValue)
    → given ≡ None → IfSome reply (λ answer. MeetsRound poller_step tells given now answer wakes old new)
    → IfSome reply (λ answer. Meets poller_step tells step.React (Some now) answer wakes (limit_of now old.1.book None) old new)
round_alone {P = P} poller_step tells given now reply wakes old new none met =
    round_alone_by poller_step tells now reply wakes old new
    (subst (λ (limit : Option ℕ). IfSome reply (λ answer. MeetsRound poller_step tells limit now answer wakes old new)) none met)

-- ## A round while another runs

busy_react : (w : World) (given : Option ℕ) (answers : List PollerAnswer) → is_some w.round ≡ true → react w given answers ≡ quiet replies.Locked w answers
busy_react w given answers busy = ap (λ (b : Bool). if b then quiet replies.Locked w answers else row_begun w (begin_round w given answers)) busy

pub react_locked : {P : Type 0} (poller_step : P → PollerMove → P → Type 0) (tells : P → Option Interests) (given : Option ℕ) (now : ℕ) (old : P × CoreValue) → old.1.round.running ≡ true
    → MeetsRound poller_step tells given now replies.Locked [] old old
react_locked {P = P} poller_step tells given now old running = record {
  moves = [];
  run = refl;
  waits = tt;
  comes = λ w later stands at.
      subst (λ (o : Outcome). Comes (moved_on o) replies.Locked [] [] later (tells old.0) old.1) (sym (busy_react w given later (busy_world old.1.round w.round stands.round running)))
      (record { answer_is = refl; wakes_are = refl; calls_are = refl; left_are = refl; stands = stands_later (tells old.0) old.1 w stands });
}

refused_by : {P : Type 0} (poller_step : P → PollerMove → P → Type 0) (tells : P → Option Interests) (given : Option ℕ) (now : ℕ) (old : P × CoreValue) (refused : CoreRefusal) (running spent : Bool)
    → old.1.round.running ≡ running → refused ≡ unwrap_or (if running then Some refusal.Locked else (if spent then Some refusal.RoundsSpent else None)) refusal.OutOfMemory
    → IfSome (react_reply (Err refused)) (λ reply. MeetsRound poller_step tells given now reply [] old old)
refused_by {P = P} poller_step tells given now old refused true spent running is =
    subst (λ (r : CoreRefusal). IfSome (react_reply (Err r)) (λ reply. MeetsRound poller_step tells given now reply [] old old)) (sym is)
    (react_locked poller_step tells given now old running)
refused_by {P = P} poller_step tells given now old refused false true running is = rw is tt
refused_by {P = P} poller_step tells given now old refused false false running is = rw is tt

-- where its begin is refused
pub react_refused : {P : Type 0} (poller_step : P → PollerMove → P → Type 0) (tells : P → Option Interests) (given : Option ℕ) (now : ℕ) (old new : P × CoreValue) (refused : CoreRefusal)
    → refused ≡ unwrap_or (begin_refusal old.1) refusal.OutOfMemory → new ≡ old
    → IfSome (react_reply (Err refused)) (λ reply. MeetsRound poller_step tells given now reply [] old new)
react_refused {P = P} poller_step tells given now old new refused is same =
    subst (λ (left : P × CoreValue). IfSome (react_reply (Err refused)) (λ reply. MeetsRound poller_step tells given now reply [] old left)) (sym same)
    (refused_by poller_step tells given now old refused old.1.round.running (old.1.ticker == 2 ^ 64 - 1) refl is)

idle_by : (running spent : Bool) → (if running then Some refusal.Locked else (if spent then Some refusal.RoundsSpent else None)) ≡ None → running ≡ false
idle_by true spent none = absurd (cc)
idle_by false spent none = refl

-- no round runs where none is refused
pub not_busy : (core : CoreValue) → begin_refusal core ≡ None → core.round.running ≡ false
not_busy core none = idle_by core.round.running (core.ticker == 2 ^ 64 - 1) none

-- a running round with nothing in hand may wait, and end
pub open_hand : (r : RoundValue) → r.running ≡ true → r.hand ≡ [] → empty_hand_refusal r ≡ None
open_hand r runs empty = rw (runs, empty) refl

-- ## A round that was stopped

stopped_by : {P : Type 0} (poller_step : P → PollerMove → P → Type 0) (tells : P → Option Interests) (given : Option ℕ) (now : ℕ) (waits : Answer) (poller : P) (core : CoreValue) (mid new : P × CoreValue)
    → core.round.running ≡ false → Meets poller_step tells step.Wait None waits [] (limit_of now core.book given) (poller, core_begun core now given) mid → Handles poller_step tells mid new
    → Stopped poller_step tells given now (poller, core) new
stopped_by {P = P} poller_step tells given now waits poller core mid new idle waited handles =
    let begun = begin_meets poller_step tells poller core now given idle in
    record {
      waited = map answer_of waited.moves;
      handled = handles.handled;
      did = (
        (poller, core_begun core now given),
        record { answer = replies.Begin (core.ticker + 1) (limit_of now core.book given); meets = begun; answers_are = refl },
        (mid, record { answer = waits; meets = waited; answers_are = refl }, handles.did now),
      );
      stands = λ w stands at.
          let first = (begun.comes w [] stands at).stands in
          handles.stands (step_result (step_result w (step.Begin given) []).world step.Wait (map answer_of waited.moves)).world
          (steps_stand poller_step tells step.Wait waits (limit_of now core.book given) (poller, core_begun core now given) mid waited (step_result w (step.Begin given) []).world first);
    }

pub react_stopped : {P : Type 0} (poller_step : P → PollerMove → P → Type 0) (tells : P → Option Interests) (given : Option ℕ) (now : ℕ) (waits : Answer) (old first mid new : P × CoreValue)
    → old.1.round.running ≡ false → first.0 ≡ old.0 → first.1 ≡ core_begun old.1 now given → Meets poller_step tells step.Wait None waits [] first.1.round.limit first mid
    → Handles poller_step tells mid new → Stopped poller_step tells given now old new
react_stopped {P = P} poller_step tells given now waits old first mid new idle poller_is begun_is waited handles =
    stopped_by poller_step tells given now waits old.0 old.1 mid new idle
    (subst (λ (p : P × CoreValue). Meets poller_step tells step.Wait None waits [] p.1.round.limit p mid) (pair_is first old.0 (core_begun old.1 now given) poller_is begun_is) waited) handles
