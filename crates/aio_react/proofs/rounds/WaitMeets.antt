-- A wait of a core meets the machine's, whatever the poller answered.
use Rattle.std.proofs.Common.{◌≡◌, ℕ, Bool, true, false, not, if◌then◌else◌, List, [], ◌∷◌, length, Option, None, Some, Result, Ok, Err, refl, sym, ap, ◌∙◌, subst}
use Rattle.std.specs.Option.{option_or}
use Rattle.std.proofs.lemmas.Bool.{true≢false}
use Rattle.aio_base.specs.declared.names.Event.{Event}
use Rattle.aio_base.specs.declared.outcomes.CountFault.{CountFault}
use Rattle.aio_base.specs.declared.outcomes.EndWord.{EndWord}
use Rattle.aio_base.specs.declared.outcomes.EndWord.TheVariants.{FaultWait}
use Rattle.aio_base.specs.declared.outcomes.Failed.{Failed}
use Rattle.aio_base.specs.declared.outcomes.Waited.{Waited}
use Rattle.aio_base.specs.declared.outcomes.Waited.TheVariants.{Given, Interrupted}
use Rattle.aio_base.specs.declared.steps.Answer.TheVariants as replies
use Rattle.aio_base.specs.Devices.{Interests, PollerMove, Awaited, ArmCall, WaitCall, PollerStep, Becomes, clear_interests}
use Rattle.aio_base.specs.Machine.{Outcome, quiet, first_fault, wait_in, wait_round, wait_answered, next_answer, later_answers, hand_of}
use Rattle.aio_base.specs.Waits.{IsCountOf}
use Rattle.aio_base.specs.World.{PollerAnswer, World, RoundState, Gives, IsInterrupted, Fails, clear_armed, is_empty_list}
use Rattle.aio_source.specs.declared.in_hand.RoundFault.{RoundFault}
use Rattle.aio_source.specs.declared.in_hand.RoundFault.TheVariants.{Wait, Arm}
use Rattle.aio_react.specs.Cores.{CoreValue}
use Rattle.aio_react.specs.Parts.{ComesWithin, MeetsPart}
use Rattle.aio_react.specs.declared.refusals.CoreRefusal.{CoreRefusal}
use Rattle.aio_react.specs.declared.refusals.CoreRefusal.TheVariants as refusal
use Rattle.aio_react.specs.Replies.{empty_hand_refusal, wait_reply}
use Rattle.aio_source.specs.InHand.{RoundValue}
use Rattle.aio_react.specs.Rounds.{wait_of, poller_told, wait_answer, waited}
use Rattle.aio_react.specs.Standing.{AreAsked, RoundStands, Runs, StandsWithin, end_word}
use Rattle.aio_facts.specs.Sound.{RunningSound}
use Rattle.aio_react.proofs.sources.Clearing.{tells_cleared, asked_cleared}
use Rattle.aio_react.proofs.steps.PartMeets.{quiet_part}

-- the answer of a core whose round answered so
abbrev pub core_wait : Result Waited CountFault → Result Waited CoreRefusal
core_wait (Ok waited) = Ok waited
core_wait (Err fault) = Err (refusal.WaitFault fault)

-- ## The phase

pub none_runs : (r : RoundValue) (round : Option RoundState) → RoundStands r round → r.running ≡ false → round ≡ None
none_runs r None stands idle = refl
none_runs r (Some s) stands idle = absurd (true≢false (sym stands.running ∙ idle))

pub one_runs : (r : RoundValue) (round : Option RoundState) → RoundStands r round → r.running ≡ true → (s : RoundState) × (round ≡ Some s) × Runs r s
one_runs r None stands running = absurd (true≢false (sym running ∙ stands))
one_runs r (Some s) stands running = (s, refl, stands)

-- with no round
pub idle_meets : {P : Type 0} (poller_step : P → PollerMove → P → Type 0) (tells : P → Option Interests) (poller : P) (core : CoreValue) → core.round.running ≡ false
    → MeetsPart poller_step tells wait_round None replies.NoRound [] core.round.limit (poller, core) (poller, core)
idle_meets {P = P} poller_step tells poller core idle =
    quiet_part poller_step tells wait_round None replies.NoRound core.round.limit poller core
    (λ bound w later stands. ap (λ (round : Option RoundState). wait_in w round later) (none_runs core.round w.round stands.round idle))

hand_refused : (w : World) (s : RoundState) (hand : List Event) (answers : List PollerAnswer) → is_empty_list hand ≡ false → s.in_hand ≡ hand
    → wait_in w (Some s) answers ≡ quiet (replies.Events (length hand)) w answers
hand_refused w s hand answers some is =
    ap (λ (given : List Event). if is_empty_list given then wait_answered w s (next_answer answers) (later_answers answers) else quiet (replies.Events (length given)) w answers) is
    ∙ ap (λ (b : Bool). if b then wait_answered w s (next_answer answers) (later_answers answers) else quiet (replies.Events (length hand)) w answers) some

-- with events in hand
pub left_meets : {P : Type 0} (poller_step : P → PollerMove → P → Type 0) (tells : P → Option Interests) (poller : P) (core : CoreValue) → core.round.running ≡ true
    → is_empty_list core.round.hand ≡ false → MeetsPart poller_step tells wait_round None (replies.Events (length core.round.hand)) [] core.round.limit (poller, core) (poller, core)
left_meets {P = P} poller_step tells poller core running some =
    quiet_part poller_step tells wait_round None (replies.Events (length core.round.hand)) core.round.limit poller core
    (λ bound w later stands.
    let one = one_runs core.round w.round stands.round running in
    ap (λ (round : Option RoundState). wait_in w round later) one.1 ∙ hand_refused w one.0 core.round.hand later some one.2.hand_is)

-- ## The wait

abbrev pub with_round : CoreValue → RoundValue → CoreValue
with_round core r = record core { round = r }

-- the world once a wait gave these events
abbrev world_waited : World → RoundState → List Event → World
world_waited w s events = record w { round = Some s; armed = clear_armed w.armed events }

pub running_same : (begun : List ℕ) (s s' : RoundState) → s'.number ≡ s.number → s'.begin ≡ s.begin → RunningSound begun (Some s) → RunningSound begun (Some s')
running_same begun s s' number begin sound = rw (number, begin) sound

waited_stands : (bound : ℕ) (told told' : Option Interests) (core : CoreValue) (w : World) (s s' : RoundState) (r : RoundValue) (events : List Event) → StandsWithin bound told core w
    → w.round ≡ Some s → s.in_hand ≡ [] → Runs r s' → s'.in_hand ≡ events → s'.number ≡ s.number → s'.begin ≡ s.begin → Becomes told told' (clear_interests events)
    → StandsWithin bound told' (with_round core r) (world_waited w s' events)
waited_stands bound told told' core w s s' r events stands is none runs given number begin becomes = record {
  sources = stands.sources;
  count = stands.count;
  tickets = stands.tickets;
  listeners = stands.listeners;
  ticker_is = stands.ticker_is;
  book = stands.book;
  tells = tells_cleared told told' w.armed events stands.tells becomes;
  asked = subst (AreAsked core.sources (clear_armed w.armed events)) (sym given)
      (asked_cleared core.sources w.armed events (subst (AreAsked core.sources w.armed) (ap hand_of is ∙ none) stands.asked));
  round = runs;
  sound = record {
    live = stands.sound.live;
    unused = stands.sound.unused;
    listeners = stands.sound.listeners;
    past = stands.sound.past;
    running = running_same w.begun s s' number begin (subst (RunningSound w.begun) is stands.sound.running);
    timers = stands.sound.timers;
  };
}

fault_is : (kept : Option RoundFault) (fault : CountFault) → first_fault (end_word kept) FaultWait ≡ end_word (option_or kept (Some (Wait fault)))
fault_is None fault = refl
fault_is (Some (Wait kept)) fault = refl
fault_is (Some (Arm kept)) fault = refl

pub or_none : (kept : Option RoundFault) → end_word kept ≡ end_word (option_or kept None)
or_none None = refl
or_none (Some kept) = refl

-- the machine's wait, over the running round of a core
waits_on : (bound : ℕ) (told told' : Option Interests) (core : CoreValue) (w : World) (s : RoundState) (answer : Result Waited CountFault) (events : List Event) (later : List PollerAnswer)
    → StandsWithin bound told core w → w.round ≡ Some s → s.in_hand ≡ [] → Runs core.round s → IsCountOf (poller_told answer) 1024 events → Becomes told told' (clear_interests events)
    → ComesWithin bound w (wait_answered w s (wait_answer core.round.limit events (poller_told answer)) later) (wait_reply (core_wait answer)) []
    (Awaited (wait_of core.round.limit) (poller_told answer) events ∷ []) later told' (with_round core (waited core.round answer events))
waits_on bound told told' core w s (Ok (Given n)) events later stands is none runs count becomes =
    let s' : RoundState = record s { in_hand = events; last_wait = Some (Gives events) } in
    record {
      answer_is = ap replies.Given count.0;
      wakes_are = refl;
      calls_are = refl;
      left_are = refl;
      moment_is = refl;
      position_is = refl;
      stands = waited_stands bound told told' core w s s' (waited core.round (Ok (Given n)) events) events stands is none
          (record {
            running = runs.running;
            number_is = runs.number_is;
            limit_is = runs.limit_is;
            hand_is = refl;
            taken_is = runs.taken_is;
            last_is = refl;
            fault_is = runs.fault_is ∙ or_none core.round.fault;
          })
          refl refl refl becomes;
    }
waits_on bound told told' core w s (Ok Interrupted) events later stands is none runs count becomes =
    let s' : RoundState = record s { last_wait = Some IsInterrupted } in
    subst (λ (given : List Event). ComesWithin bound w (wait_answered w s IsInterrupted later) replies.Interrupted []
    (Awaited (wait_of core.round.limit) (Ok Interrupted) given ∷ []) later told' (with_round core (waited core.round (Ok Interrupted) given))) (sym count)
    (record {
      answer_is = refl;
      wakes_are = refl;
      calls_are = refl;
      left_are = refl;
      moment_is = refl;
      position_is = refl;
      stands = waited_stands bound told told' core w s s' (waited core.round (Ok Interrupted) []) [] stands is none
          (record {
            running = runs.running;
            number_is = runs.number_is;
            limit_is = runs.limit_is;
            hand_is = none;
            taken_is = runs.taken_is;
            last_is = refl;
            fault_is = runs.fault_is ∙ or_none core.round.fault;
          })
          none refl refl (subst (λ (given : List Event). Becomes told told' (clear_interests given)) count becomes);
    })
waits_on bound told told' core w s (Err fault) events later stands is none runs count becomes =
    let s' : RoundState = record s { last_wait = Some Fails; fault = first_fault s.fault FaultWait } in
    subst (λ (given : List Event). ComesWithin bound w (wait_answered w s Fails later) replies.FaultWait []
    (Awaited (wait_of core.round.limit) (Err (record {})) given ∷ []) later told' (with_round core (waited core.round (Err fault) given))) (sym count)
    (record {
      answer_is = refl;
      wakes_are = refl;
      calls_are = refl;
      left_are = refl;
      moment_is = refl;
      position_is = refl;
      stands = waited_stands bound told told' core w s s' (waited core.round (Err fault) []) [] stands is none
          (record {
            running = runs.running;
            number_is = runs.number_is;
            limit_is = runs.limit_is;
            hand_is = none;
            taken_is = runs.taken_is;
            last_is = refl;
            fault_is = ap (λ (word : EndWord). first_fault word FaultWait) runs.fault_is ∙ fault_is core.round.fault fault;
          })
          none refl refl (subst (λ (given : List Event). Becomes told told' (clear_interests given)) count becomes);
    })

hand_is_none : (w : World) (s : RoundState) (hand : List Event) (told : PollerAnswer) (later : List PollerAnswer) → hand ≡ [] → s.in_hand ≡ hand
    → wait_in w (Some s) (told ∷ later) ≡ wait_answered w s told later
hand_is_none w s hand told later none is =
    ap (λ (given : List Event). if is_empty_list given then wait_answered w s told later else quiet (replies.Events (length given)) w (told ∷ later)) (is ∙ none)

wait_is_made : (w : World) (s : RoundState) (told : PollerAnswer) (later : List PollerAnswer) → w.round ≡ Some s → s.in_hand ≡ []
    → wait_in w w.round (told ∷ later) ≡ wait_answered w s told later
wait_is_made w s told later is none = ap (λ (round : Option RoundState). wait_in w round (told ∷ later)) is ∙ hand_is_none w s s.in_hand told later none refl

-- with a running round and none in hand
pub wait_meets : {P : Type 0} (arm_step : P → ArmCall → Result (Unit {0}) Failed → P → Type 0) (wait_step : P → WaitCall → Result Waited Failed → List Event → P → Type 0)
    (tells : P → Option Interests) (old new : P) (core : CoreValue) (answer : Result Waited CountFault) (events : List Event)
    → core.round.running ≡ true → core.round.hand ≡ [] → wait_step old (wait_of core.round.limit) (poller_told answer) events new
    → IsCountOf (poller_told answer) 1024 events → Becomes (tells old) (tells new) (clear_interests events)
    → MeetsPart (PollerStep arm_step wait_step) tells wait_round None (wait_reply (core_wait answer)) [] core.round.limit (old, core) (new, with_round core (waited core.round answer events))
wait_meets {P = P} arm_step wait_step tells old new core answer events running none did count becomes = record {
  moves = Awaited (wait_of core.round.limit) (poller_told answer) events ∷ [];
  run = (new, did, refl);
  waits = (refl, count, tt);
  comes = λ bound w later stands now.
      let one = one_runs core.round w.round stands.round running in
      let empty = one.2.hand_is ∙ none in
      subst (λ (o : Outcome). ComesWithin bound w o (wait_reply (core_wait answer)) [] (Awaited (wait_of core.round.limit) (poller_told answer) events ∷ []) later (tells new) (with_round core (waited core.round answer events)))
      (sym (wait_is_made w one.0 (wait_answer core.round.limit events (poller_told answer)) later one.1 empty))
      (waits_on bound (tells old) (tells new) core w one.0 answer events later stands one.1 empty one.2 count becomes);
}

-- the same, by what the call left and answered
pub wait_done : {P : Type 0} (arm_step : P → ArmCall → Result (Unit {0}) Failed → P → Type 0) (wait_step : P → WaitCall → Result Waited Failed → List Event → P → Type 0)
    (tells : P → Option Interests) (old new : P) (core : CoreValue) (answer : Result Waited CountFault) (r : RoundValue) (reply : Result Waited CoreRefusal)
    → core.round.running ≡ true → core.round.hand ≡ [] → wait_step old (wait_of core.round.limit) (poller_told answer) r.hand new
    → IsCountOf (poller_told answer) 1024 r.hand → Becomes (tells old) (tells new) (clear_interests r.hand)
    → r ≡ waited core.round answer r.hand → reply ≡ core_wait answer
    → MeetsPart (PollerStep arm_step wait_step) tells wait_round None (wait_reply reply) [] core.round.limit (old, core) (new, with_round core r)
wait_done {P = P} arm_step wait_step tells old new core answer r reply running none did count becomes left said =
    subst (λ (said : Result Waited CoreRefusal). MeetsPart (PollerStep arm_step wait_step) tells wait_round None (wait_reply said) [] core.round.limit (old, core) (new, with_round core r)) (sym said)
    (subst (λ (left : RoundValue). MeetsPart (PollerStep arm_step wait_step) tells wait_round None (wait_reply (core_wait answer)) [] core.round.limit (old, core) (new, with_round core left)) (sym left)
    (wait_meets arm_step wait_step tells old new core answer r.hand running none did count becomes))

-- ## A refused wait

refused_by : {P : Type 0} (poller_step : P → PollerMove → P → Type 0) (tells : P → Option Interests) (poller : P) (core : CoreValue) (refused : CoreRefusal) (running empty : Bool)
    → core.round.running ≡ running → is_empty_list core.round.hand ≡ empty
    → Some refused ≡ (if not running then Some refusal.NoRound else (if empty then None else Some (refusal.EventsLeft (length core.round.hand))))
    → MeetsPart poller_step tells wait_round None (wait_reply (Err refused)) [] core.round.limit (poller, core) (poller, core)
refused_by {P = P} poller_step tells poller core refused false empty idle some is =
    let same : refused ≡ refusal.NoRound = cc in
    subst (λ (r : CoreRefusal). MeetsPart poller_step tells wait_round None (wait_reply (Err r)) [] core.round.limit (poller, core) (poller, core)) (sym same)
    (idle_meets poller_step tells poller core idle)
refused_by {P = P} poller_step tells poller core refused true true running some is = absurd (cc)
refused_by {P = P} poller_step tells poller core refused true false running some is =
    let same : refused ≡ refusal.EventsLeft (length core.round.hand) = cc in
    subst (λ (r : CoreRefusal). MeetsPart poller_step tells wait_round None (wait_reply (Err r)) [] core.round.limit (poller, core) (poller, core)) (sym same)
    (left_meets poller_step tells poller core running some)

-- by the phase of the round
pub refused_meets : {P : Type 0} (poller_step : P → PollerMove → P → Type 0) (tells : P → Option Interests) (poller : P) (core : CoreValue) (refused : CoreRefusal)
    → Some refused ≡ empty_hand_refusal core.round → MeetsPart poller_step tells wait_round None (wait_reply (Err refused)) [] core.round.limit (poller, core) (poller, core)
refused_meets {P = P} poller_step tells poller core refused is =
    refused_by poller_step tells poller core refused core.round.running (is_empty_list core.round.hand) refl refl is
