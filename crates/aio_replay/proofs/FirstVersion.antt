-- What the lines of an input come to in the first version is the run of its trace.
use Rattle.std.proofs.Common.{◌≡◌, ◌≢◌, ℕ, ◌+◌, ◌*◌, ◌≤◌, Bool, true, false, nat_lt, if◌then◌else◌, List, [], ◌∷◌, ◌++◌, Option, None, Some, refl, sym, ap, ◌∙◌, subst, append-nil, arith}
use Rattle.std.proofs.Common.{⊎_elim}
use Rattle.std.specs.Io.KnownBytes.{Appends}
use Rattle.aio_base.specs.declared.steps.LineFault.{LineFault}
use Rattle.aio_base.specs.declared.steps.Step.{Step}
use Rattle.aio_base.specs.declared.steps.Reason.TheVariants as reason
use Rattle.aio_base.specs.Lines.{Reads, fault_of, step_read}
use Rattle.aio_base.specs.Script.{output, output_from, world_after, script_step, reply_text}
use Rattle.aio_base.specs.Trace.{Refusal, Trace, refused, lines_of, trace_of, trace_of_lines, trace_from, trace_after, is_header, line_limit}
use Rattle.aio_base.specs.World.{World, opening}
use Rattle.aio_base.proofs.FirstLines.{no_fault, read_is}
use Rattle.aio_bytes.specs.Sinks.{AppendsPart}
use Rattle.aio_bytes.specs.Unread.{LeavesAllBut}
use Rattle.aio_react.specs.Cores.{CoreValue}
use Rattle.aio_script.specs.Script.{Script}
use Rattle.aio_replay.specs.declared.ends.Cause.TheVariants as cause
use Rattle.aio_replay.specs.declared.ends.Stop.{Stop}
use Rattle.aio_replay.specs.declared.replayer.Replayer.{Replayer}
use Rattle.aio_replay.specs.declared.version.FirstVersion.{FirstVersion}
use Rattle.aio_replay.specs.Answering.{Replied}
use Rattle.aio_replay.specs.Driving.{StoppedBehind, ToldWhole, most_bytes}
use Rattle.aio_replay.specs.Ends.{StandsAt, StandsOnTheWay}
use Rattle.aio_replay.specs.Language.{Told, LeadsTo, RunsTo, ends_in, first_header, first_reply, first_version, limit_behind, lines_in, refused_in, run_of, told_after, told_behind, told_from, told_of, with_text}
use Rattle.aio_replay.specs.Replaying.{StandsFor}
use Rattle.aio_replay.specs.Versions.{Answers, first_rules}
use Rattle.aio_replay.proofs.DrivingLemmas.{written_part, written_of_more}
use Rattle.aio_replay.proofs.StepLemmas.{leaves_more}

-- ## The run of a trace

-- what a trace comes to from a world on: the output of its steps, the world behind them, and its refusal
abbrev run_in : World → Trace → Told World
run_in w t = record { text = output_from w t.steps; state = world_after w t.steps; refusal = t.refusal }

runs_line : (past : Bool) (line : ℕ) (w : World) (fault : Option LineFault) (read : Option Step) (lines : List (List ℕ))
    → ((v : World) → told_from first_version (line + 1) v lines ≡ run_in v (trace_from (line + 1) lines))
    → (if past then refused_in first_version w line reason.Lines
    else told_after first_version w line (first_reply w fault read) (λ behind. told_from first_version (line + 1) behind lines))
    ≡ run_in w (if past then refused line reason.Lines else trace_after line fault read (trace_from (line + 1) lines))
runs_line true line w fault read lines behind = refl
runs_line false line w (Some f) read lines behind = refl
runs_line false line w None (Some s) lines behind =
    ap (with_text (reply_text (script_step w s).answer (script_step w s).wakes)) (behind (script_step w s).world)
runs_line false line w None None lines behind = behind w

runs_from : (line : ℕ) (w : World) (lines : List (List ℕ)) → told_from first_version line w lines ≡ run_in w (trace_from line lines)
runs_from line w [] = refl
runs_from line w (text ∷ lines) = runs_line (nat_lt line_limit line) line w (fault_of text) (step_read text) lines (λ v. runs_from (line + 1) v lines)

with_no_text : (t : Told World) → with_text [] t ≡ t
with_no_text t = refl

runs_headed : (headed : Bool) (lines : List (List ℕ))
    → told_behind first_version (first_header headed) lines ≡ run_of (if headed then trace_from 2 lines else refused 1 reason.Header)
runs_headed true lines = with_no_text (told_from first_version 2 opening lines) ∙ runs_from 2 opening lines
runs_headed false lines = refl

runs_lines : (lines : List (List ℕ)) → told_of first_version lines ≡ run_of (trace_of_lines lines)
runs_lines [] = refl
runs_lines (header ∷ lines) = runs_headed (is_header header) lines

says_of : (input : List ℕ) → trace_of_lines (lines_of input) ≡ trace_of input
unfolding trace_of
says_of input = refl

-- what an input comes to is the run of its trace
pub runs : (input : List ℕ) → told_of first_version (lines_of input) ≡ run_of (trace_of input)
runs input = runs_lines (lines_of input) ∙ ap run_of (says_of input)

-- ## The bytes that are taken

limit_headed : (headed : Bool) → limit_behind first_version (first_header headed) ≤ line_limit
limit_headed true = omega arith
limit_headed false = omega arith

-- an input may have no more lines than a trace
few_lines : (lines : List (List ℕ)) → lines_in first_version lines ≤ line_limit
few_lines [] = omega arith
few_lines (header ∷ lines) = limit_headed (is_header header)

pub takes_few : (now : Option (List ℕ)) (input : List ℕ) → LeavesAllBut (most_bytes (lines_in first_version (lines_of input))) now input
    → LeavesAllBut (most_bytes line_limit) now input
takes_few now input taken =
    leaves_more (257 * (lines_in first_version (lines_of input) + 1)) (257 * (line_limit + 1)) now input (omega (arith, few_lines (lines_of input))) taken

-- ## A front part of the lines

-- the steps of lines in front that are all answered are a front part of those of all lines
abbrev IsFront : Trace → Trace → Type 0
IsFront front whole = (more : List Step) × (whole.steps ≡ front.steps ++ more)

front_line : (past : Bool) (line : ℕ) (fault : Option LineFault) (read : Option Step) (front back : List (List ℕ))
    → ((trace_from (line + 1) front).refusal ≡ None → IsFront (trace_from (line + 1) front) (trace_from (line + 1) (front ++ back)))
    → (if past then refused line reason.Lines else trace_after line fault read (trace_from (line + 1) front)).refusal ≡ None
    → IsFront (if past then refused line reason.Lines else trace_after line fault read (trace_from (line + 1) front))
    (if past then refused line reason.Lines else trace_after line fault read (trace_from (line + 1) (front ++ back)))
front_line true line fault read front back behind none = absurd cc
front_line false line (Some f) read front back behind none = absurd cc
front_line false line None (Some s) front back behind none = let found = behind none in (found.0, ap (λ (steps : List Step). s ∷ steps) found.1)
front_line false line None None front back behind none = behind none

front_from : (line : ℕ) (front back : List (List ℕ)) → (trace_from line front).refusal ≡ None → IsFront (trace_from line front) (trace_from line (front ++ back))
front_from line [] back none = ((trace_from line back).steps, refl)
front_from line (text ∷ front) back none = front_line (nat_lt line_limit line) line (fault_of text) (step_read text) front back (front_from (line + 1) front back) none

front_headed : (headed : Bool) (front back : List (List ℕ)) → (if headed then trace_from 2 front else refused 1 reason.Header).refusal ≡ None
    → IsFront (if headed then trace_from 2 front else refused 1 reason.Header) (if headed then trace_from 2 (front ++ back) else refused 1 reason.Header)
front_headed true front back none = front_from 2 front back none
front_headed false front back none = absurd cc

-- lines in front that lead to a text and a world: these are the output of the first steps, and the world behind them
reached : (front back : List (List ℕ)) (text : List ℕ) (w : World) → LeadsTo first_version front text w → RunsTo (trace_of_lines (front ++ back)) text w
reached [] back text w leads = record { done = []; more = (trace_of_lines back).steps; whole = refl; text_is = leads.0; world_is = leads.1 }
reached (header ∷ front) back text w leads =
    let told : with_text text (ends_in first_version w None) ≡ run_of (trace_of_lines (header ∷ front)) =
    sym (leads []) ∙ ap (λ x. told_of first_version (header ∷ x)) (append-nil front) ∙ runs_lines (header ∷ front) in
    let before = front_headed (is_header header) front back (sym (ap (λ (t : Told World). t.refusal) told)) in
    record {
      done = (trace_of_lines (header ∷ front)).steps;
      more = before.0;
      whole = before.1;
      text_is = sym (append-nil text) ∙ ap (λ (t : Told World). t.text) told;
      world_is = ap (λ (t : Told World). t.state) told;
    }

-- ## What an end says

-- where the lines were answered, except those from one on that is refused
pub whole_says : (refusal : Option Refusal) (input : List ℕ) (old new : Option (List ℕ)) (first : FirstVersion) → ToldWhole first_rules refusal input old new first
    → ((trace_of input).refusal ≡ refusal) × Appends old new (output (trace_of input).steps) × StandsFor first.replayer (world_after opening (trace_of input).steps)
whole_says refusal input old new first t = (
  sym (ap (λ (told : Told World). told.refusal) (runs input)) ∙ t.refusal_is,
  subst (Appends old new) (ap (λ (told : Told World). told.text) (runs input)) t.written,
  subst (StandsFor first.replayer) (ap (λ (told : Told World). told.state) (runs input)) t.stands,
)

-- where it was stopped, a front part of its output is written
pub stopped_part : (s : Stop) (input : List ℕ) (old new : Option (List ℕ)) (first : FirstVersion) → StoppedBehind first_rules s input old new first
    → AppendsPart old new (output (trace_of input).steps)
stopped_part s input old new first b =
    subst (AppendsPart old new) (sym b.whole ∙ ap (λ (told : Told World). told.text) (runs input)) (written_of_more s.sent old new (b.text ++ b.held) b.left b.written)

-- what is handed back of a replayer: its core, over its poller
core_and_poller : (r : Replayer) (w : World) → StandsFor r w → StandsAt r.core w
core_and_poller r w s = record { stands = s.core; poller = s.poller }

-- where memory did not run out, the core that is handed back stands for a world on the way, behind all steps that the output tells of
pub core_on_the_way : (core : Script × CoreValue) (s : Stop) (input : List ℕ) (old new : Option (List ℕ)) (first : FirstVersion) → core ≡ first.replayer.core
    → s.cause ≢ cause.Memory → StoppedBehind first_rules s input old new first → StandsOnTheWay StandsAt (RunsTo (trace_of input)) core old new
core_on_the_way core s input old new first same other b =
    let none : b.held ≡ [] = ⊎_elim (λ is. is) (λ is. is) b.is_held in
    let text : b.text ++ b.held ≡ b.text = ap (λ x. b.text ++ x) none ∙ append-nil b.text in
    record {
      text = b.text;
      state = b.state;
      leads = subst (λ (t : Trace). RunsTo t b.text b.state) (ap trace_of_lines (sym b.lines) ∙ says_of input) (reached b.front b.back b.text b.state b.leads);
      written = subst (AppendsPart old new) text (written_part s.sent old new (b.text ++ b.held) b.written);
      stands = subst (λ (x : Script × CoreValue). StandsAt x b.state) (sym same) (core_and_poller first.replayer b.state (b.stands other));
    }

-- where the lines were answered, it stands for the world that they come to
pub core_stands : (core : Script × CoreValue) (refusal : Option Refusal) (input : List ℕ) (old new : Option (List ℕ)) (first : FirstVersion) → core ≡ first.replayer.core
    → ToldWhole first_rules refusal input old new first → StandsAt core (run_of (trace_of input)).state
core_stands core refusal input old new first same t =
    let w = world_after opening (trace_of input).steps in
    subst (λ (x : Script × CoreValue). StandsAt x w) (sym same) (core_and_poller first.replayer w (whole_says refusal input old new first t).2)

-- ## A line

-- a line that reads as a step is answered by the reply to it
pub replied : (s : Step) (line : List ℕ) (w : World) (old new : FirstVersion) (text_old text_new : List ℕ) → Reads s line
    → Answers s old.replayer new.replayer text_old text_new → StandsFor old.replayer w
    → Replied first_rules (first_reply w (fault_of line) (step_read line)) text_old text_new new
replied s line w old new text_old text_new reads answers stands = record {
  added = reply_text (script_step w s).answer (script_step w s).wakes;
  state = (script_step w s).world;
  is = ap (λ f. first_reply w f (step_read line)) (no_fault s line reads) ∙ ap (first_reply w None) (read_is s line reads);
  text = (answers w stands).0;
  stands = (answers w stands).1;
}
