-- Lines of which none is wrong are the log of the run that they tell.
use Rattle.std.proofs.Common.{◌≡◌, ℕ, zero, suc, ◌+◌, ◌≤◌, Bool, true, false, cond, List, [], ◌∷◌, ◌++◌, map, length, Option, None, Some, refl, sym, ap, ◌∙◌, subst, append_assoc, append-nil, arith, length-append}
use Rattle.std.specs.Prelude.{bytes_eq, nat_lt}
use Rattle.std.specs.List.{All}
use Rattle.std.proofs.lemmas.Bool.Decides.{nat_tests}
use Rattle.std.proofs.lemmas.List.Elements.{All-nil, All-push, All-append}
use Rattle.aio_base.specs.declared.names.Event.{Event}
use Rattle.aio_base.specs.declared.names.Waker.{Waker}
use Rattle.aio_base.specs.declared.steps.Step.{Step}
use Rattle.aio_base.specs.declared.steps.Step.TheVariants as step
use Rattle.aio_base.specs.declared.steps.Answer.{Answer}
use Rattle.aio_base.specs.declared.steps.Answer.TheVariants as answer
use Rattle.aio_base.specs.Lines.{HasSpelling, line_bytes, written_line}
use Rattle.aio_base.specs.Machine.{step_result}
use Rattle.aio_base.specs.Runs.{PolledStep, outcome_of, world_of}
use Rattle.aio_base.specs.Script.{wait_room}
use Rattle.aio_base.specs.Text.{answer_line}
use Rattle.aio_base.specs.Trace.{line_limit, lines_of}
use Rattle.aio_base.specs.World.{PollerAnswer, Gives, World, opening}
use Rattle.aio_log.specs.declared.wrong.Wrong.TheVariants as wrong
use Rattle.aio_log.specs.Entries.{entries, entry, events_given, got_line, has_entry, log_header, log_lines, wake_line}
use Rattle.aio_log.specs.Logs.{Told, is_whole, log_told, told_from, told_on, wrong_at}
use Rattle.aio_log.specs.Places.{AnswerPlace, EventPlace, HeaderPlace, Place, Reading, StepPlace, WakePlace, after_answer, after_events, after_step, before_wakes, event_of, given_by, line_for, may_wait, nothing_read, poller_told, read_in, read_next, step_of, world_at}
use Rattle.aio_log.specs.Written.{AllCanBeWritten, AreLogOf, CanBeWritten, EventHasSpelling}
use Rattle.aio_log.proofs.Tests.{is_event, is_step, mapped, passed, same_text, wait_gives}
use Rattle.aio_log.proofs.Waits.{gave_these, given_are, nothing_given, told_plain}

-- ## What was read

-- the lines of a wait behind a run, answered so and with these events
abbrev wait_lines : List PolledStep → Answer → List Event → List (List ℕ)
wait_lines run told given = log_lines run ++ written_line step.Wait ∷ answer_line told ∷ map got_line given

-- Lines before a place: the log of the run, with what was read of the next entry, or without the wakes that are to come.
abbrev pub Leads : List (List ℕ) → List PolledStep → Place → Type 0
Leads front run HeaderPlace = (front ≡ []) × (run ≡ [])
Leads front run StepPlace = front ≡ log_lines run
Leads front run (AnswerPlace s) = (has_entry s ≡ true) × HasSpelling s × (front ≡ log_lines run ++ written_line s ∷ [])
Leads front run (EventPlace more given) =
    (may_wait (world_of opening run) ≡ true) × (length given + suc more ≤ wait_room) × All EventHasSpelling given
    × (front ≡ wait_lines run (answer.Given (length given + suc more)) given)
Leads front run (WakePlace next later) = front ++ map wake_line (next ∷ later) ≡ log_lines run

pub record LeadsTo (front : List (List ℕ)) (r : Reading) : Type 0 where
  pub steps : AllCanBeWritten opening r.run
  pub leads : Leads front r.run r.place

-- ## One step more

entries_more : (w : World) (run : List PolledStep) (s : PolledStep)
    → entries w (run ++ s ∷ []) ≡ entries w run ++ entry s.step (outcome_of (world_of w run) s)
entries_more w [] s = append-nil (entry s.step (outcome_of w s))
entries_more w (first ∷ run) s =
    ap (λ lines. entry first.step (outcome_of w first) ++ lines) (entries_more (outcome_of w first).world run s)
    ∙ sym (append_assoc (entry first.step (outcome_of w first)) (entries (outcome_of w first).world run)
    (entry s.step (outcome_of (world_of (outcome_of w first).world run) s)))

all_more : (w : World) (run : List PolledStep) (s : PolledStep) → AllCanBeWritten w run → CanBeWritten s (outcome_of (world_of w run) s)
    → AllCanBeWritten w (run ++ s ∷ [])
all_more w [] s all can = (can, tt)
all_more w (first ∷ run) s all can = (all.0, all_more (outcome_of w first).world run s all.1 can)

leads_wakes : (front : List (List ℕ)) (run : List PolledStep) (wakes : List Waker) → front ++ map wake_line wakes ≡ log_lines run
    → Leads front run (before_wakes wakes)
leads_wakes front run [] is = sym (append-nil front) ∙ is
leads_wakes front run (waker ∷ wakers) is = is

abbrev polled : Step → PollerAnswer → PolledStep
polled s told = record { step = s; answers = told ∷ [] }

-- a step whose answer and events were read
step_leads : (front : List (List ℕ)) (r : Reading) (s : Step) (told : PollerAnswer) → AllCanBeWritten opening r.run
    → (let o = outcome_of (world_at r) (polled s told) in
    CanBeWritten (polled s told) o
    → front ≡ log_lines r.run ++ written_line s ∷ answer_line o.answer ∷ map got_line (events_given s o)
    → LeadsTo front (after_step r s told))
step_leads front r s told all can is =
    let o = outcome_of (world_at r) (polled s told) in
    let begun = written_line s ∷ answer_line o.answer ∷ map got_line (events_given s o) in
    record {
      steps = all_more opening r.run (polled s told) all can;
      leads = leads_wakes front (r.run ++ polled s told ∷ []) o.wakes
          (ap (λ lines. lines ++ map wake_line o.wakes) is
          ∙ append_assoc (log_lines r.run) begun (map wake_line o.wakes)
          ∙ ap (λ lines. log_header ∷ lines) (sym (entries_more opening r.run (polled s told))));
    }

-- ## Waits

-- events of a wait that were read
events_lead : (front : List (List ℕ)) (r : Reading) (more : ℕ) (given : List Event) → AllCanBeWritten opening r.run → may_wait (world_at r) ≡ true
    → length given + more ≤ wait_room → All EventHasSpelling given → front ≡ wait_lines r.run (answer.Given (length given + more)) given
    → LeadsTo front (after_events r more given)
events_lead front r zero given all may few spelled is =
    let o = step_result (world_at r) step.Wait (Gives given ∷ []) in
    let gave = gave_these (world_at r) given may in
    let are : events_given step.Wait o ≡ given = given_are o given gave in
    let count : length given + 0 ≡ length given = omega arith in
    step_leads front r step.Wait (Gives given) all
    (record {
      has_entry = refl;
      spelled = tt;
      few = subst (λ (events : List Event). length events ≤ wait_room) (sym are) (omega arith);
      events = subst (λ (events : List Event). All EventHasSpelling events) (sym are) spelled;
    })
    (is
    ∙ ap (λ n. wait_lines r.run (answer.Given n) given) count
    ∙ ap (λ told. wait_lines r.run told given) (sym gave.answer_is)
    ∙ ap (λ events. wait_lines r.run o.answer events) (sym are))
events_lead front r (suc more) given all may few spelled is = record { steps = all; leads = (may, few, spelled, is) }

got_more : (given : List Event) (event : Event) → map got_line (given ++ event ∷ []) ≡ map got_line given ++ got_line event ∷ []
got_more [] event = refl
got_more (first ∷ given) event = ap (λ lines. got_line first ∷ lines) (got_more given event)

-- one more event of a wait
event_more : (front : List (List ℕ)) (run : List PolledStep) (text : List ℕ) (more : ℕ) (given : List Event) (event : Event)
    → front ≡ wait_lines run (answer.Given (length given + suc more)) given → text ≡ got_line event
    → front ++ text ∷ [] ≡ wait_lines run (answer.Given (length (given ++ event ∷ []) + more)) (given ++ event ∷ [])
event_more front run text more given event is same =
    let count : length given + suc more ≡ length (given ++ event ∷ []) + more = omega (arith, length-append given (event ∷ [])) in
    let begun = written_line step.Wait ∷ answer_line (answer.Given (length given + suc more)) ∷ map got_line given in
    ap (λ lines. lines ++ text ∷ []) is
    ∙ append_assoc (log_lines run) begun (text ∷ [])
    ∙ ap (λ line. log_lines run ++ (begun ++ (line ∷ []))) same
    ∙ ap (λ lines. log_lines run ++ written_line step.Wait ∷ answer_line (answer.Given (length given + suc more)) ∷ lines) (sym (got_more given event))
    ∙ ap (λ n. wait_lines run (answer.Given n) (given ++ event ∷ [])) count

-- ## One line more

abbrev Next : List (List ℕ) → List ℕ → Reading → Type 0
Next front text next = LeadsTo (front ++ text ∷ []) next

answer_leads : (front : List (List ℕ)) (r : Reading) (s : Step) (text : List ℕ) (count : Option ℕ) (next : Reading) → AllCanBeWritten opening r.run
    → has_entry s ≡ true → HasSpelling s → front ≡ log_lines r.run ++ written_line s ∷ [] → given_by (world_at r) s text ≡ count
    → after_answer r s text count ≡ Some next → Next front text next
answer_leads front r s text (Some count) next all entered spelled is gives e =
    let told = wait_gives (world_at r) s count text gives in
    let same : after_events r count [] ≡ next = cc in
    let none_yet : count ≡ length {A = Event} [] + count = omega arith in
    let lines : front ++ text ∷ [] ≡ wait_lines r.run (answer.Given (length {A = Event} [] + count)) [] =
    ap (λ lines. lines ++ text ∷ []) is
    ∙ append_assoc (log_lines r.run) (written_line s ∷ []) (text ∷ [])
    ∙ ap (λ s. log_lines r.run ++ written_line s ∷ text ∷ []) told.step_is
    ∙ ap (λ line. log_lines r.run ++ written_line step.Wait ∷ line ∷ []) told.given.line_is
    ∙ ap (λ n. wait_lines r.run (answer.Given n) []) none_yet in
    subst (Next front text) same
    (events_lead (front ++ text ∷ []) r count [] all told.may (let few = told.given.few in omega arith) (All-nil EventHasSpelling) lines)
answer_leads front r s text None next all entered spelled is gives e =
    let told = poller_told s text in
    let test = passed (bytes_eq text (line_for (world_at r) s told)) (after_step r s told) next e in
    let o = outcome_of (world_at r) (polled s told) in
    let none : events_given s o ≡ [] = nothing_given (world_at r) s told (told_plain s text) in
    let lines : front ++ text ∷ [] ≡ log_lines r.run ++ written_line s ∷ answer_line o.answer ∷ map got_line (events_given s o) =
    ap (λ lines. lines ++ text ∷ []) is
    ∙ append_assoc (log_lines r.run) (written_line s ∷ []) (text ∷ [])
    ∙ ap (λ line. log_lines r.run ++ written_line s ∷ line ∷ []) (same_text text (answer_line o.answer) test.0)
    ∙ ap (λ events. log_lines r.run ++ written_line s ∷ answer_line o.answer ∷ map got_line events) (sym none) in
    subst (Next front text) test.1
    (step_leads (front ++ text ∷ []) r s told all
    (record {
      has_entry = entered;
      spelled = spelled;
      few = subst (λ (events : List Event). length events ≤ wait_room) (sym none) (omega arith);
      events = subst (λ (events : List Event). All EventHasSpelling events) (sym none) (All-nil EventHasSpelling);
    })
    lines)

line_leads : (front : List (List ℕ)) (r : Reading) (place : Place) (text : List ℕ) (next : Reading) → AllCanBeWritten opening r.run → Leads front r.run place
    → read_in place r text ≡ Some next → Next front text next
line_leads front r HeaderPlace text next all leads e =
    let test = passed (bytes_eq text log_header) (record r { place = StepPlace }) next e in
    let lines : front ++ text ∷ [] ≡ log_lines r.run =
    ap (λ lines. lines ++ text ∷ []) leads.0 ∙ ap (λ line. line ∷ []) (same_text text log_header test.0) ∙ ap log_lines (sym leads.1) in
    subst (Next front text) test.1 (record { steps = all; leads = lines })
line_leads front r StepPlace text next all leads e =
    let found = mapped (λ (s : Step). record r { place = AnswerPlace s }) (step_of text) next e in
    let is = is_step found.0 text found.1 in
    let lines : front ++ text ∷ [] ≡ log_lines r.run ++ written_line found.0 ∷ [] =
    ap (λ lines. lines ++ text ∷ []) leads ∙ ap (λ line. log_lines r.run ++ line ∷ []) is.line_is in
    subst (Next front text) found.2 (record { steps = all; leads = (is.entered, is.spelled, lines) })
line_leads front r (AnswerPlace s) text next all leads e =
    answer_leads front r s text (given_by (world_at r) s text) next all leads.0 leads.1 leads.2 refl e
line_leads front r (EventPlace more given) text next all leads e =
    let found = mapped (λ (event : Event). after_events r more (given ++ event ∷ [])) (event_of text) next e in
    let is = is_event found.0 text found.1 in
    let few : length (given ++ found.0 ∷ []) + more ≤ wait_room = (let before = leads.1 in omega (arith, length-append given (found.0 ∷ []))) in
    subst (Next front text) found.2
    (events_lead (front ++ text ∷ []) r more (given ++ found.0 ∷ []) all leads.0 few (All-push EventHasSpelling given found.0 leads.2 is.spelled)
    (event_more front r.run text more given found.0 leads.3 is.line_is))
line_leads front r (WakePlace waker later) text next all leads e =
    let test = passed (bytes_eq text (wake_line waker)) (record r { place = before_wakes later }) next e in
    let lines : (front ++ text ∷ []) ++ map wake_line later ≡ log_lines r.run =
    append_assoc front (text ∷ []) (map wake_line later)
    ∙ ap (λ line. front ++ line ∷ map wake_line later) (same_text text (wake_line waker) test.0) ∙ leads in
    subst (Next front text) test.1 (record { steps = all; leads = leads_wakes (front ++ text ∷ []) r.run later lines })

pub short_leads : (front : List (List ℕ)) (r : Reading) (text : List ℕ) (next : Reading) (long : Bool) → LeadsTo front r
    → cond long None (read_in r.place r text) ≡ Some next → Next front text next
short_leads front r text next true leads e = absurd cc
short_leads front r text next false leads e = line_leads front r r.place text next leads.steps leads.leads e

is_short : (r : Reading) (text : List ℕ) (next : Reading) → read_next r text ≡ Some next → length text ≤ line_bytes
is_short r text next e = by_test (nat_lt line_bytes (length text)) refl e
  where
    by_test : (long : Bool) → nat_lt line_bytes (length text) ≡ long → cond long None (read_in r.place r text) ≡ Some next → length text ≤ line_bytes
    by_test true is e = absurd cc
    by_test false is e = grind (arith, nat_tests)

-- ## All lines

-- lines are the log of what they tell, none of these is long, and they end at the last line or before
record AreTold (front lines : List (List ℕ)) (line : ℕ) (told : Told) : Type 0 where
  lines_are : front ++ lines ≡ log_lines told.run
  steps : AllCanBeWritten opening told.run
  short : All (λ line. length line ≤ line_bytes) lines
  few : (line ≤ line_limit + 1) → line + length lines ≤ line_limit + 1

abbrev ended : Reading → ℕ → Place → Told
ended r line place = cond (is_whole place) (record { run = r.run; wrong = None }) (wrong_at r line wrong.End)

end_told : (front : List (List ℕ)) (r : Reading) (line : ℕ) (place : Place) → AllCanBeWritten opening r.run → Leads front r.run place → (ended r line place).wrong ≡ None
    → AreTold front [] line (ended r line place)
end_told front r line StepPlace all leads e = record { lines_are = append-nil front ∙ leads; steps = all; short = All-nil _; few = λ few. omega arith }
end_told front r line _ all leads e = absurd cc

on_told : (front : List (List ℕ)) (r : Reading) (line : ℕ) (text : List ℕ) (lines : List (List ℕ)) (next : Option Reading) → read_next r text ≡ next
    → ((after : Reading) → read_next r text ≡ Some after → (told_from (line + 1) after lines).wrong ≡ None
    → AreTold (front ++ text ∷ []) lines (line + 1) (told_from (line + 1) after lines))
    → (told_on r line next (λ next. told_from (line + 1) next lines)).wrong ≡ None
    → AreTold (front ++ text ∷ []) lines (line + 1) (told_on r line next (λ next. told_from (line + 1) next lines)) × (length text ≤ line_bytes)
on_told front r line text lines None is rest e = absurd cc
on_told front r line text lines (Some after) is rest e = (rest after is e, is_short r text after is)

past_told : (front : List (List ℕ)) (r : Reading) (line : ℕ) (text : List ℕ) (lines : List (List ℕ)) (past : Bool) (behind : Told) → nat_lt line_limit line ≡ past
    → (behind.wrong ≡ None → AreTold (front ++ text ∷ []) lines (line + 1) behind × (length text ≤ line_bytes))
    → (cond past (wrong_at r line wrong.Lines) behind).wrong ≡ None
    → AreTold front (text ∷ lines) line (cond past (wrong_at r line wrong.Lines) behind)
past_told front r line text lines true behind is rest e = absurd cc
past_told front r line text lines false behind is rest e =
    let told = rest e in
    let within : line ≤ line_limit = grind (arith, nat_tests) in
    record {
      lines_are = sym (append_assoc front (text ∷ []) lines) ∙ told.0.lines_are;
      steps = told.0.steps;
      short = All-append (λ line. length line ≤ line_bytes) (text ∷ []) lines (All-push (λ line. length line ≤ line_bytes) [] text (All-nil _) told.1) told.0.short;
      few = λ few. let more = told.0.few (omega arith) in omega arith;
    }

lines_told : (front lines : List (List ℕ)) (line : ℕ) (r : Reading) → LeadsTo front r → (told_from line r lines).wrong ≡ None
    → AreTold front lines line (told_from line r lines)
lines_told front [] line r leads e = end_told front r line r.place leads.steps leads.leads e
lines_told front (text ∷ lines) line r leads e =
    past_told front r line text lines (nat_lt line_limit line) (told_on r line (read_next r text) (λ next. told_from (line + 1) next lines)) refl
    (on_told front r line text lines (read_next r text) refl
    (λ after is none. lines_told (front ++ text ∷ []) lines (line + 1) after (short_leads front r text after (nat_lt line_bytes (length text)) leads is) none))
    e

-- an input with no wrong line is the log of the run that it tells
pub input_told : (input : List ℕ) → (log_told input).wrong ≡ None → AreLogOf (lines_of input) (log_told input).run
unfolding log_told
input_told input none =
    let told = lines_told [] (lines_of input) 1 nothing_read (record { steps = tt; leads = (refl, refl) }) none in
    record { lines_are = told.lines_are; steps = told.steps; short = told.short; few = let few = told.few (omega arith) in omega arith }
