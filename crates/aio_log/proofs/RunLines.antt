-- The log of a run is read, line by line, as that run.
use Rattle.std.proofs.Common.{◌≡◌, ℕ, suc, ◌+◌, ◌≤◌, Bool, true, false, cond, List, [], ◌∷◌, ◌++◌, map, length, Option, None, Some, option_map, refl, sym, ap, ◌∙◌, subst, append_assoc, append-nil, arith}
use Rattle.std.specs.Prelude.{bytes_eq, nat_lt}
use Rattle.std.specs.List.{All}
use Rattle.std.proofs.lemmas.Bool.Decides.{nat_tests}
use Rattle.std.proofs.lemmas.List.Elements.{All-head, All-tail}
use Rattle.aio_base.specs.declared.names.Event.{Event}
use Rattle.aio_base.specs.declared.names.Waker.{Waker}
use Rattle.aio_base.specs.declared.steps.Answer.{Answer}
use Rattle.aio_base.specs.declared.steps.Answer.TheVariants as answer
use Rattle.aio_base.specs.declared.steps.Step.{Step}
use Rattle.aio_base.specs.declared.steps.Step.TheVariants as step
use Rattle.aio_base.specs.Lines.{HasSpelling, line_bytes}
use Rattle.aio_base.specs.Machine.{Outcome, moved_on, next_answer, step_result, wait_in}
use Rattle.aio_base.specs.Runs.{PolledStep, answers_of, outcome_of, wakes_of, world_of}
use Rattle.aio_base.specs.Script.{wait_room}
use Rattle.aio_base.specs.Text.{answer_line}
use Rattle.aio_base.specs.Trace.{line_limit, lines_of}
use Rattle.aio_base.specs.World.{PollerAnswer, Succeeds, Gives, IsInterrupted, Fails, RoundState, World, opening}
use Rattle.aio_log.specs.declared.wrong.Wrong.TheVariants as wrong
use Rattle.aio_log.specs.Entries.{entries, entry, events_given, got_line, has_entry, log_header, log_lines, wake_line}
use Rattle.aio_log.specs.Logs.{Told, log_told, told_from, told_on, wrong_at}
use Rattle.aio_log.specs.Places.{AnswerPlace, EventPlace, Place, Reading, StepPlace, after_answer, after_events, after_step, before_wakes, given_by, given_in, line_for, may_wait, nothing_read, poller_told, read_in, read_next}
use Rattle.aio_log.specs.Written.{AllCanBeWritten, AreLogOf, CanBeWritten, EventHasSpelling, SameRun, steps_of}
use Rattle.aio_log.proofs.Telling.{Seen, seen, told_gives}
use Rattle.aio_log.proofs.WrittenBack.{event_back, given_back, itself, passes, step_back}

-- ## Lines that are read one after the other

-- these lines are right behind what was read, and lead to this
abbrev Reads : Reading → List (List ℕ) → Reading → Type 0
Reads r [] next = r ≡ next
Reads r (text ∷ texts) next = (mid : Reading) × (read_in r.place r text ≡ Some mid) × Reads mid texts next

reads_on : (texts more : List (List ℕ)) (r mid next : Reading) → Reads r texts mid → Reads mid more next → Reads r (texts ++ more) next
reads_on [] more r mid next first second = subst (λ r. Reads r more next) (sym first) second
reads_on (text ∷ texts) more r mid next first second = (first.0, first.1, reads_on texts more first.0 mid next first.2 second)

told_within : (line : ℕ) (r : Reading) (behind : Told) → line ≤ line_limit → cond (nat_lt line_limit line) (wrong_at r line wrong.Lines) behind ≡ behind
told_within line r behind few = let test : nat_lt line_limit line ≡ false = grind (arith, nat_tests) in rw test refl

next_is : (r : Reading) (text : List ℕ) (next : Option Reading) → length text ≤ line_bytes → read_in r.place r text ≡ next → read_next r text ≡ next
next_is r text next short e = let test : nat_lt line_bytes (length text) ≡ false = grind (arith, nat_tests) in rw test e

-- what the lines behind them tell is told
told_behind : (texts rest : List (List ℕ)) (line : ℕ) (r next : Reading) → Reads r texts next → All (λ text. length text ≤ line_bytes) texts
    → line + length texts ≤ line_limit + 1 → told_from line r (texts ++ rest) ≡ told_from (line + length texts) next rest
told_behind [] rest line r next reads short few = ap (λ r. told_from line r rest) reads ∙ ap (λ n. told_from n next rest) (let same : line ≡ line + 0 = omega arith in same)
told_behind (text ∷ texts) rest line r next reads short few =
    let mine : length text ≤ line_bytes = All-head (λ text. length text ≤ line_bytes) text texts short in
    told_within line r _ (omega arith)
    ∙ ap (λ found. told_on r line found (λ next. told_from (line + 1) next (texts ++ rest))) (next_is r text (Some reads.0) mine reads.1)
    ∙ told_behind texts rest (line + 1) reads.0 next reads.2 (All-tail (λ text. length text ≤ line_bytes) text texts short) (omega arith)
    ∙ ap (λ n. told_from n next rest) (let same : line + 1 + length texts ≡ line + suc (length texts) = omega arith in same)

-- ## The lines of an entry

abbrev polled : Step → PollerAnswer → PolledStep
polled s told = record { step = s; answers = told ∷ [] }

abbrev at : List PolledStep → Place → Reading
at run place = record { run = run; place = place }

wakes_read : (run : List PolledStep) (wakes : List Waker) → Reads (at run (before_wakes wakes)) (map wake_line wakes) (at run StepPlace)
wakes_read run [] = refl
wakes_read run (waker ∷ wakers) = (at run (before_wakes wakers), passes _ _ (itself (wake_line waker)), wakes_read run wakers)

events_read : (run : List PolledStep) (place : Place) (given events : List Event) → All EventHasSpelling events
    → Reads (after_events (at run place) (length events) given) (map got_line events) (after_step (at run StepPlace) step.Wait (Gives (given ++ events)))
events_read run place given [] spelled = ap (λ (all : List Event). after_step (at run StepPlace) step.Wait (Gives all)) (sym (append-nil given))
events_read run place given (event ∷ events) spelled =
    let mine : EventHasSpelling event = All-head EventHasSpelling event events spelled in
    let next = after_events (at run (EventPlace (length events) given)) (length events) (given ++ event ∷ []) in (
      next,
      ap (option_map (λ (e : Event). after_events (at run (EventPlace (length events) given)) (length events) (given ++ e ∷ []))) (event_back event mine),
      subst (λ (all : List Event). Reads next (map got_line events) (after_step (at run StepPlace) step.Wait (Gives all)))
          (append_assoc given (event ∷ []) events)
          (events_read run (EventPlace (length events) given) (given ++ event ∷ []) events (All-tail EventHasSpelling event events spelled)),
    )

-- An entry was read: the poller's answer that it told, with which the step gives the same.
record EntryRead (run : List PolledStep) (s : Step) (o : Outcome) : Type 0 where
  told : PollerAnswer
  same : seen (step_result (world_of opening run) s (told ∷ [])) ≡ seen o
  reads : Reads (at run StepPlace) (entry s o) (at (run ++ polled s told ∷ []) StepPlace)

-- the lines behind the answer, with the wakes that the told answer gives
wakes_same : (run : List PolledStep) (s : Step) (told : PollerAnswer) (o : Outcome) → seen (step_result (world_of opening run) s (told ∷ [])) ≡ seen o
    → Reads (after_step (at run StepPlace) s told) (map wake_line o.wakes) (at (run ++ polled s told ∷ []) StepPlace)
wakes_same run s told o same =
    subst (λ (wakes : List Waker). Reads (after_step (at run StepPlace) s told) (map wake_line wakes) (at (run ++ polled s told ∷ []) StepPlace))
    (ap (λ (o : Seen). o.wakes) same) (wakes_read (run ++ polled s told ∷ []) (step_result (world_of opening run) s (told ∷ [])).wakes)

-- an answer that gives no events is read
plain_read : (run : List PolledStep) (s : Step) (o : Outcome) → has_entry s ≡ true → HasSpelling s → events_given s o ≡ []
    → given_by (world_of opening run) s (answer_line o.answer) ≡ None
    → seen (step_result (world_of opening run) s (poller_told s (answer_line o.answer) ∷ [])) ≡ seen o
    → EntryRead run s o
plain_read run s o entered spelled none plain same =
    let w = world_of opening run in
    let line = answer_line o.answer in
    let told = poller_told s line in
    let answered : line_for w s told ≡ line = ap (λ (o : Seen). answer_line o.answer) same in
    let read : after_answer (at run (AnswerPlace s)) s line (given_by w s line) ≡ Some (after_step (at run StepPlace) s told) =
    ap (after_answer (at run (AnswerPlace s)) s line) plain ∙ passes _ _ (ap (λ text. bytes_eq line text) answered ∙ itself line) in
    record {
      told = told;
      same = same;
      reads = (
        at run (AnswerPlace s),
        ap (option_map (λ (s : Step). at run (AnswerPlace s))) (step_back s entered spelled),
        (
          after_step (at run StepPlace) s told,
          read,
          subst (λ (events : List Event). Reads (after_step (at run StepPlace) s told) (map got_line events ++ map wake_line o.wakes) (at (run ++ polled s told ∷ []) StepPlace))
              (sym none) (wakes_same run s told o same),
        ),
      );
    }

-- a wait that gives events is read
given_read : (run : List PolledStep) (o : Outcome) (events : List Event) → may_wait (world_of opening run) ≡ true → o.answer ≡ answer.Given (length events)
    → events_given step.Wait o ≡ events → length events ≤ wait_room → All EventHasSpelling events
    → seen (step_result (world_of opening run) step.Wait (Gives events ∷ [])) ≡ seen o → EntryRead run step.Wait o
given_read run o events may answered given few spelled same =
    let w = world_of opening run in
    let line = answer_line o.answer in
    let count : given_by w step.Wait line ≡ Some (length events) =
    ap (λ (t : Bool). cond t (given_in line) None) may ∙ ap (λ (a : Answer). given_in (answer_line a)) answered ∙ given_back (length events) few in
    record {
      told = Gives events;
      same = same;
      reads = (
        at run (AnswerPlace step.Wait),
        ap (option_map (λ (s : Step). at run (AnswerPlace s))) (step_back step.Wait refl tt),
        (
          after_events (at run (AnswerPlace step.Wait)) (length events) [],
          ap (after_answer (at run (AnswerPlace step.Wait)) step.Wait line) count,
          subst (λ (all : List Event). Reads (after_events (at run (AnswerPlace step.Wait)) (length events) []) (map got_line all ++ map wake_line o.wakes)
              (at (run ++ polled step.Wait (Gives events) ∷ []) StepPlace))
              (sym given)
              (reads_on (map got_line events) (map wake_line o.wakes) (after_events (at run (AnswerPlace step.Wait)) (length events) []) (after_step (at run StepPlace) step.Wait (Gives events))
              (at (run ++ polled step.Wait (Gives events) ∷ []) StepPlace) (events_read run (AnswerPlace step.Wait) [] events spelled) (wakes_same run step.Wait (Gives events) o same)),
        ),
      );
    }

-- ## Waits

-- the wait was made of a world with this round
abbrev waited : World → Option RoundState → List PollerAnswer → Outcome
waited w round answers = moved_on (wait_in w round answers)

-- how a wait comes out, by the answer of the poller
data WaitCase (w : World) (o : Outcome) : Type 0 where
  Plain : events_given step.Wait o ≡ [] → given_by w step.Wait (answer_line o.answer) ≡ None
      → seen (step_result w step.Wait (poller_told step.Wait (answer_line o.answer) ∷ [])) ≡ seen o → WaitCase w o
  Given : (events : List Event) → may_wait w ≡ true → o.answer ≡ answer.Given (length events) → events_given step.Wait o ≡ events
      → seen (step_result w step.Wait (Gives events ∷ [])) ≡ seen o → WaitCase w o

made_case : (w : World) (round : RoundState) (answers : List PollerAnswer) → w.round ≡ Some round → round.in_hand ≡ [] → (told : PollerAnswer) → next_answer answers ≡ told
    → WaitCase w (step_result w step.Wait answers)
unfolding step_result answer_line
made_case w round answers is none Fails e = Plain (rw (is, none, e) refl) (rw (is, none, e) refl) (rw (is, none, e) refl)
made_case w round answers is none IsInterrupted e = Plain (rw (is, none, e) refl) (rw (is, none, e) refl) (rw (is, none, e) refl)
made_case w round answers is none Succeeds e = Given [] (rw (is, none) refl) (rw (is, none, e) refl) (rw (is, none, e) refl) (rw (is, none, e) refl)
made_case w round answers is none (Gives events) e = Given events (rw (is, none) refl) (rw (is, none, e) refl) (rw (is, none, e) refl) (rw (is, none, e) refl)

hand_case : (w : World) (round : RoundState) (answers : List PollerAnswer) → w.round ≡ Some round → (hand : List Event) → round.in_hand ≡ hand → WaitCase w (step_result w step.Wait answers)
unfolding step_result answer_line
hand_case w round answers is [] e = made_case w round answers is e (next_answer answers) refl
hand_case w round answers is (event ∷ events) e = Plain (rw (is, e) refl) (rw (is, e) refl) (rw (is, e) refl)

round_case : (w : World) (answers : List PollerAnswer) (round : Option RoundState) → w.round ≡ round → WaitCase w (step_result w step.Wait answers)
unfolding step_result answer_line
round_case w answers None is = Plain (rw is refl) (rw is refl) (rw is refl)
round_case w answers (Some round) is = hand_case w round answers is round.in_hand refl

wait_read : (run : List PolledStep) (s : PolledStep) → s.step ≡ step.Wait → CanBeWritten s (outcome_of (world_of opening run) s)
    → WaitCase (world_of opening run) (outcome_of (world_of opening run) s) → EntryRead run step.Wait (outcome_of (world_of opening run) s)
wait_read run s is can (Plain none plain same) = plain_read run step.Wait (outcome_of (world_of opening run) s) refl tt none plain same
wait_read run s is can (Given events may answered given same) =
    let o = outcome_of (world_of opening run) s in
    let are : events_given s.step o ≡ events = ap (λ (s : Step). events_given s o) is ∙ given in
    given_read run o events may answered given (subst (λ (all : List Event). length all ≤ wait_room) are can.few) (subst (λ (all : List Event). All EventHasSpelling all) are can.events) same

-- ## Entries

abbrev is_wait : Step → Bool
is_wait step.Wait = true
is_wait _ = false

wait_is : (s : Step) → is_wait s ≡ true → s ≡ step.Wait
wait_is step.Wait e = refl
wait_is _ e = absurd cc

other_than : (s : Step) → is_wait s ≡ false → s ≡ step.Wait → ⊥
other_than s e same = let no : true ≡ false = ap is_wait (sym same) ∙ e in cc

no_events : (s : Step) (o : Outcome) → is_wait s ≡ false → events_given s o ≡ []
no_events step.Wait o e = absurd cc
no_events _ o e = refl

no_count : (w : World) (s : Step) (line : List ℕ) → is_wait s ≡ false → given_by w s line ≡ None
no_count w step.Wait line e = absurd cc
no_count w _ line e = refl

entry_by : (run : List PolledStep) (s : PolledStep) (waits : Bool) → is_wait s.step ≡ waits → CanBeWritten s (outcome_of (world_of opening run) s)
    → EntryRead run s.step (outcome_of (world_of opening run) s)
entry_by run s true is can =
    let same = wait_is s.step is in
    let w = world_of opening run in
    subst (λ (t : Step). EntryRead run t (outcome_of w s)) (sym same)
    (wait_read run s same can (subst (λ (t : Step). WaitCase w (step_result w t s.answers)) (sym same) (round_case w s.answers w.round refl)))
entry_by run s false is can =
    let w = world_of opening run in
    plain_read run s.step (outcome_of w s) can.has_entry can.spelled (no_events s.step (outcome_of w s) is) (no_count w s.step (answer_line (outcome_of w s).answer) is)
    (told_gives w s.step s.answers can.has_entry (other_than s.step is))

-- ## Runs

-- A run was read behind another: the run that was told, which is the same.
record RunRead (before : List PolledStep) (w : World) (run : List PolledStep) : Type 0 where
  told : List PolledStep
  reads : Reads (at before StepPlace) (entries w run) (at (before ++ told) StepPlace)
  steps : steps_of told ≡ steps_of run
  answers : answers_of w told ≡ answers_of w run
  wakes : wakes_of w told ≡ wakes_of w run
  world : world_of w told ≡ world_of w run

one_more : (w : World) (run : List PolledStep) (s : PolledStep) → world_of w (run ++ s ∷ []) ≡ (outcome_of (world_of w run) s).world
one_more w [] s = refl
one_more w (first ∷ run) s = one_more (outcome_of w first).world run s

run_reads : (before run : List PolledStep) → AllCanBeWritten (world_of opening before) run → RunRead before (world_of opening before) run
run_reads before [] all = record {
  told = [];
  reads = ap (λ run. at run StepPlace) (sym (append-nil before));
  steps = refl;
  answers = refl;
  wakes = refl;
  world = refl;
}
run_reads before (s ∷ run) all =
    let w = world_of opening before in
    let o = outcome_of w s in
    let e = entry_by before s (is_wait s.step) refl all.0 in
    let p : PolledStep = polled s.step e.told in
    let behind : world_of opening (before ++ p ∷ []) ≡ o.world = one_more opening before p ∙ ap (λ (o : Seen). o.world) e.same in
    let rest : RunRead (before ++ p ∷ []) o.world run =
    subst (λ (v : World). RunRead (before ++ p ∷ []) v run) behind
    (run_reads (before ++ p ∷ []) run (subst (λ (v : World). AllCanBeWritten v run) (sym behind) all.1)) in
    let here : (outcome_of w p).world ≡ o.world = ap (λ (o : Seen). o.world) e.same in
    record {
      told = p ∷ rest.told;
      reads = reads_on (entry s.step o) (entries o.world run) (at before StepPlace) (at (before ++ p ∷ []) StepPlace) (at (before ++ p ∷ rest.told) StepPlace) e.reads
          (subst (λ (all : List PolledStep). Reads (at (before ++ p ∷ []) StepPlace) (entries o.world run) (at all StepPlace)) (append_assoc before (p ∷ []) rest.told) rest.reads);
      steps = ap (λ (ss : List Step). s.step ∷ ss) rest.steps;
      answers = ap (λ (a : Answer). a ∷ answers_of (outcome_of w p).world rest.told) (ap (λ (o : Seen). o.answer) e.same)
          ∙ ap (λ (v : World). o.answer ∷ answers_of v rest.told) here ∙ ap (λ (later : List Answer). o.answer ∷ later) rest.answers;
      wakes = ap (λ (a : List Waker). a ∷ wakes_of (outcome_of w p).world rest.told) (ap (λ (o : Seen). o.wakes) e.same)
          ∙ ap (λ (v : World). o.wakes ∷ wakes_of v rest.told) here ∙ ap (λ (later : List (List Waker)). o.wakes ∷ later) rest.wakes;
      world = ap (λ (v : World). world_of v rest.told) here ∙ rest.world;
    }

-- ## Inputs

pub record LogRead (input : List ℕ) (run : List PolledStep) : Type 0 where
  pub right : (log_told input).wrong ≡ None
  pub same : SameRun (log_told input).run run

-- an input that is the log of a run tells that run, and none of its lines is wrong
pub log_read : (input : List ℕ) (run : List PolledStep) → AreLogOf (lines_of input) run → LogRead input run
unfolding log_told
log_read input run log =
    let read = run_reads [] run log.steps in
    let lines = log_lines run in
    let begins : Reads nothing_read lines (at read.told StepPlace) = (at [] StepPlace, passes _ _ (itself log_header), read.reads) in
    let short : All (λ text. length text ≤ line_bytes) lines = subst (λ (ls : List (List ℕ)). All (λ text. length text ≤ line_bytes) ls) log.lines_are log.short in
    let few : 1 + length lines ≤ line_limit + 1 = let few = subst (λ (ls : List (List ℕ)). length ls ≤ line_limit) log.lines_are log.few in omega arith in
    let told : told_from 1 nothing_read (lines_of input) ≡ record { run = read.told; wrong = None } =
    ap (told_from 1 nothing_read) (log.lines_are ∙ sym (append-nil lines)) ∙ told_behind lines [] 1 nothing_read (at read.told StepPlace) begins short few in
    record {
      right = ap (λ (t : Told). t.wrong) told;
      same = subst (λ (t : Told). SameRun t.run run) (sym told)
          (record { steps_are = read.steps; answers_are = read.answers; wakes_are = read.wakes; world_is = read.world });
    }
