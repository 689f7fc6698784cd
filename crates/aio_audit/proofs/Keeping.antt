-- What an auditor keeps is known of the world behind the lines that it has read, and so it judges each line as the machine does.
use Rattle.std.proofs.Common.{◌≡◌, ℕ, zero, suc, ◌+◌, Bool, true, false, if◌then◌else◌, List, [], ◌∷◌, ◌++◌, length, Option, None, Some, option_map, refl, ap, ◌∙◌, subst, length-append}
use Rattle.std.specs.Prelude.{bytes_eq, nat_lt}
use Rattle.std.specs.Option.{option_map_or}
use Rattle.aio_base.specs.declared.names.Event.{Event}
use Rattle.aio_base.specs.declared.names.Waker.{Waker}
use Rattle.aio_base.specs.declared.steps.Step.{Step}
use Rattle.aio_base.specs.declared.steps.Step.TheVariants as step
use Rattle.aio_base.specs.Lines.{line_bytes}
use Rattle.aio_base.specs.Machine.{step_result}
use Rattle.aio_base.specs.Runs.{PolledStep, outcome_of, world_of}
use Rattle.aio_base.specs.Text.{answer_line}
use Rattle.aio_base.specs.Trace.{line_limit, lines_of}
use Rattle.aio_base.specs.World.{PollerAnswer, Gives, RoundState, World, is_empty_list, opening}
use Rattle.aio_known.specs.Known.{Known, RoundKnown, known_of, round_known}
use Rattle.aio_known.specs.KnownRuns.{IsSection}
use Rattle.aio_known.specs.KnownSteps.{Follows, known_step}
use Rattle.aio_known.proofs.KnownLaw.{run_is_reached, step_follows_known}
use Rattle.aio_log.specs.declared.wrong.Wrong.TheVariants as wrong
use Rattle.aio_log.specs.Entries.{has_entry, log_header, wake_line}
use Rattle.aio_log.specs.Logs.{Told, at_end, is_whole, log_told, told_from, told_on, wrong_at, wrong_in}
use Rattle.aio_log.specs.Places.{AnswerPlace, EventPlace, HeaderPlace, Place, Reading, StepPlace, WakePlace, before_wakes, event_of, given_in, nothing_read, poller_told, read_in, read_next, step_of, when, world_at}
use Rattle.aio_log.specs.Places as log
use Rattle.aio_log.proofs.Tests.{is_step}
use Rattle.aio_audit.specs.Auditor.{Auditor, Verdict, after_answer, after_events, after_step, audit_in, audit_next, given_by, may_wait, new_auditor, refutes, says_at_end, says_on, verdict_from, verdict_of, verdict_on}

-- a place at which the step that is to be answered has an entry
abbrev HasEntry : Place → Type 0
HasEntry (AnswerPlace s) = has_entry s ≡ true
HasEntry _ = Unit {0}

-- an auditor keeps what is known behind the lines of a reading
record Keeps (r : Reading) (a : Auditor) : Type 0 where
  known_is : known_of (world_at r) ≡ a.known
  place_is : r.place ≡ a.place
  steps_are : length r.run ≡ a.steps
  entered : HasEntry r.place

-- both go on, or neither does
abbrev KeepsOn : Option Reading → Option Auditor → Type 0
KeepsOn None None = Unit {0}
KeepsOn (Some r) (Some a) = Keeps r a
KeepsOn _ _ = ⊥

is_section : (s : Step) → has_entry s ≡ true → IsSection s
is_section step.React e = absurd cc
is_section _ e = tt

one_more : (w : World) (run : List PolledStep) (s : PolledStep) → world_of w (run ++ s ∷ []) ≡ (outcome_of (world_of w run) s).world
one_more w [] s = refl
one_more w (first ∷ run) s = one_more (outcome_of w first).world run s

waits_same : (round : Option RoundState) → option_map_or (λ (round : RoundState). is_empty_list round.in_hand) round false
    ≡ option_map_or (λ (round : RoundKnown). is_empty_list round.in_hand) (option_map round_known round) false
waits_same None = refl
waits_same (Some round) = refl

may_same : (r : Reading) (a : Auditor) → Keeps r a → log.may_wait (world_at r) ≡ may_wait a.known
may_same r a keeps = waits_same (world_at r).round ∙ ap may_wait keeps.known_is

entered_behind : (wakes : List Waker) → HasEntry (before_wakes wakes)
entered_behind [] = tt
entered_behind (waker ∷ wakers) = tt

-- what a step gives, of the world and of what is known
follows : (r : Reading) (a : Auditor) (s : Step) (told : PollerAnswer) → Keeps r a → has_entry s ≡ true → Follows (step_result (world_at r) s (told ∷ [])) (known_step a.known s told)
follows r a s told keeps entered =
    subst (λ (k : Known). Follows (step_result (world_at r) s (told ∷ [])) (known_step k s told)) keeps.known_is
    (step_follows_known (world_at r) s told (run_is_reached r.run) (is_section s entered))

step_kept : (r : Reading) (a : Auditor) (s : Step) (told : PollerAnswer) → Keeps r a → has_entry s ≡ true → Keeps (log.after_step r s told) (after_step a s told)
step_kept r a s told keeps entered =
    let f = follows r a s told keeps entered in
    let made : PolledStep = record { step = s; answers = told ∷ [] } in
    record {
      known_is = ap known_of (one_more opening r.run made) ∙ f.known_is;
      place_is = ap before_wakes f.wakes_are;
      steps_are = length-append r.run (made ∷ []) ∙ ap (λ n. n + 1) keeps.steps_are;
      entered = entered_behind (step_result (world_at r) s (told ∷ [])).wakes;
    }

-- the same reading at another place
kept_at : (r : Reading) (a : Auditor) (place : Place) → Keeps r a → HasEntry place → Keeps (record r { place = place }) (record a { place = place })
kept_at r a place keeps entered = record { known_is = keeps.known_is; place_is = refl; steps_are = keeps.steps_are; entered = entered }

events_kept : (r : Reading) (a : Auditor) (more : ℕ) (given : List Event) → Keeps r a → Keeps (log.after_events r more given) (after_events a more given)
events_kept r a zero given keeps = step_kept r a step.Wait (Gives given) keeps refl
events_kept r a (suc more) given keeps = kept_at r a (EventPlace more given) keeps tt

either_kept : (t : Bool) (r : Reading) (a : Auditor) → Keeps r a → KeepsOn (when t r) (when t a)
either_kept true r a keeps = keeps
either_kept false r a keeps = tt

mapped_kept : {X : Type 0} (found : Option X) (f : X → Reading) (g : X → Auditor) → ((x : X) → found ≡ Some x → Keeps (f x) (g x)) → KeepsOn (option_map f found) (option_map g found)
mapped_kept None f g each = tt
mapped_kept (Some x) f g each = each x refl

given_same : (r : Reading) (a : Auditor) (s : Step) (line : List ℕ) → Keeps r a → log.given_by (world_at r) s line ≡ given_by a.known s line
given_same r a step.Wait line keeps = ap (λ (t : Bool). if t then given_in line else None) (may_same r a keeps)
given_same r a _ line keeps = refl

answer_kept : (r : Reading) (a : Auditor) (s : Step) (line : List ℕ) (count : Option ℕ) → Keeps r a → has_entry s ≡ true
    → KeepsOn (log.after_answer r s line count) (after_answer a s line count)
answer_kept r a s line (Some count) keeps entered = events_kept r a count [] keeps
answer_kept r a s line None keeps entered =
    let told = poller_told s line in
    subst (λ (text : List ℕ). KeepsOn (log.after_answer r s line None) (when (bytes_eq line text) (after_step a s told)))
    (ap answer_line (follows r a s told keeps entered).answer_is)
    (either_kept (bytes_eq line (log.line_for (world_at r) s told)) (log.after_step r s told) (after_step a s told) (step_kept r a s told keeps entered))

line_kept : (r : Reading) (a : Auditor) (place : Place) (line : List ℕ) → Keeps r a → HasEntry place → KeepsOn (read_in place r line) (audit_in place a line)
line_kept r a HeaderPlace line keeps entered = either_kept (bytes_eq line log_header) _ _ (kept_at r a StepPlace keeps tt)
line_kept r a StepPlace line keeps entered =
    mapped_kept (step_of line) (λ (s : Step). record r { place = AnswerPlace s }) (λ (s : Step). record a { place = AnswerPlace s })
    (λ s is. kept_at r a (AnswerPlace s) keeps (is_step s line is).entered)
line_kept r a (AnswerPlace s) line keeps entered =
    subst (λ (count : Option ℕ). KeepsOn (log.after_answer r s line (log.given_by (world_at r) s line)) (after_answer a s line count))
    (given_same r a s line keeps) (answer_kept r a s line (log.given_by (world_at r) s line) keeps entered)
line_kept r a (EventPlace more given) line keeps entered =
    mapped_kept (event_of line) (λ (event : Event). log.after_events r more (given ++ event ∷ [])) (λ (event : Event). after_events a more (given ++ event ∷ []))
    (λ event is. events_kept r a more (given ++ event ∷ []) keeps)
line_kept r a (WakePlace next later) line keeps entered =
    either_kept (bytes_eq line (wake_line next)) _ _ (kept_at r a (before_wakes later) keeps (entered_behind later))

next_kept : (r : Reading) (a : Auditor) (line : List ℕ) → Keeps r a → KeepsOn (read_next r line) (audit_next a line)
next_kept r a line keeps =
    subst (λ (place : Place). KeepsOn (read_next r line) (if nat_lt line_bytes (length line) then None else audit_in place a line)) keeps.place_is (by_test (nat_lt line_bytes (length line)))
  where
    by_test : (long : Bool) → KeepsOn (if long then None else read_in r.place r line) (if long then None else audit_in r.place a line)
    by_test true = tt
    by_test false = line_kept r a r.place line keeps keeps.entered

-- ## All lines

wrong_judged : (r : Reading) (a : Auditor) (line : ℕ) (why : Rattle.aio_log.specs.declared.wrong.Wrong.Wrong) → Keeps r a → verdict_of (wrong_at r line why) ≡ refutes a line why
wrong_judged r a line why keeps = λ i. record { steps = keeps.steps_are i; wrong = Some (record { line = line; why = why }) }

end_judged : (r : Reading) (a : Auditor) (line : ℕ) → Keeps r a → verdict_of (at_end r line) ≡ says_at_end a line
end_judged r a line keeps =
    by_test (is_whole r.place)
    ∙ ap (λ (place : Place). if is_whole place then record { steps = a.steps; wrong = None } else refutes a line wrong.End) keeps.place_is
  where
    by_test : (whole : Bool) → verdict_of (if whole then record { run = r.run; wrong = None } else wrong_at r line wrong.End)
        ≡ (if whole then record { steps = a.steps; wrong = None } else refutes a line wrong.End)
    by_test true = λ i. record { steps = keeps.steps_are i; wrong = None }
    by_test false = wrong_judged r a line wrong.End keeps

on_judged : (r : Reading) (a : Auditor) (line : ℕ) (next : Option Reading) (after : Option Auditor) (behind : Reading → Told) (says : Auditor → Verdict) → Keeps r a → KeepsOn next after
    → ((r : Reading) (a : Auditor) → Keeps r a → verdict_of (behind r) ≡ says a) → verdict_of (told_on r line next behind) ≡ says_on a line after says
on_judged r a line None None behind says keeps both each =
    wrong_judged r a line (wrong_in r.place) keeps ∙ ap (λ (place : Place). refutes a line (wrong_in place)) keeps.place_is
on_judged r a line None (Some b) behind says keeps both each = absurd both
on_judged r a line (Some q) None behind says keeps both each = absurd both
on_judged r a line (Some q) (Some b) behind says keeps both each = each q b both

lines_judged : (lines : List (List ℕ)) (line : ℕ) (r : Reading) (a : Auditor) → Keeps r a → verdict_of (told_from line r lines) ≡ verdict_from line a lines
lines_judged [] line r a keeps = end_judged r a line keeps
lines_judged (text ∷ lines) line r a keeps =
    past (nat_lt line_limit line) (told_on r line (read_next r text) (λ next. told_from (line + 1) next lines)) (says_on a line (audit_next a text) (λ next. verdict_from (line + 1) next lines))
    (on_judged r a line (read_next r text) (audit_next a text) (λ next. told_from (line + 1) next lines) (λ next. verdict_from (line + 1) next lines) keeps (next_kept r a text keeps)
    (λ q b both. lines_judged lines (line + 1) q b both))
  where
    past : (t : Bool) (told : Told) (says : Verdict) → verdict_of told ≡ says → verdict_of (if t then wrong_at r line wrong.Lines else told) ≡ (if t then refutes a line wrong.Lines else says)
    past true told says same = wrong_judged r a line wrong.Lines keeps
    past false told says same = same

pub input_judged : (input : List ℕ) → verdict_of (log_told input) ≡ verdict_on input
unfolding log_told verdict_on
input_judged input = lines_judged (lines_of input) 1 nothing_read new_auditor (record { known_is = refl; place_is = refl; steps_are = refl; entered = tt })
