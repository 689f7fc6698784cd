-- The steps of a trace are not too many, and their numbers are in range.
use Rattle.std.proofs.Common.{◌≡◌, ℕ, ◌+◌, ◌≤◌, Bool, true, false, cond, ltb, List, [], ◌∷◌, length, map, Option, None, Some, refl, ap, ◌∙◌, subst, arith}
use Rattle.std.proofs.lemmas.Bool.Decides.{nat_tests}
use Rattle.aio_base.specs.declared.steps.LineFault.{LineFault}
use Rattle.aio_base.specs.declared.steps.Step.{Step}
use Rattle.aio_base.specs.declared.steps.Reason.TheVariants as reason
use Rattle.aio_base.specs.Lines.{fault_of, step_read}
use Rattle.aio_base.specs.Script.{output}
use Rattle.aio_base.specs.Trace.{Trace, is_header, line_limit, lines_of, refused, trace_after, trace_from, trace_of, trace_of_lines}
use Rattle.aio_base.proofs.FirstLines.{is_read}
use Rattle.aio_tasks.specs.declared.steps.Step2.TheVariants as step2
use Rattle.aio_tasks.specs.Inputs.{Input2, input_of}
use Rattle.aio_tasks.specs.Migrating.{migrated}
use Rattle.aio_tasks.specs.Tasks.{output2}
use Rattle.aio_trace2.specs.MigratedTexts.{AreNumbered}
use Rattle.aio_trace2.proofs.Migrated.{migrated_answers, migrated_says}
use Rattle.aio_migrate.proofs.MigratorLemmas.{has_numbers}

-- what is asked of the steps of lines, the first of which has this number
record AreSteps (line : ℕ) (t : Trace) : Type 0 where
  few : length t.steps + line ≤ line_limit + 1
  numbered : AreNumbered t.steps

steps_line : (past : Bool) (line : ℕ) (text : List ℕ) (fault : Option LineFault) (read : Option Step) (lines : List (List ℕ)) → line ≤ line_limit + 1 → ltb line_limit line ≡ past → step_read text ≡ read
    → (line + 1 ≤ line_limit + 1 → AreSteps (line + 1) (trace_from (line + 1) lines))
    → AreSteps line (cond past (refused line reason.Lines) (trace_after line fault read (trace_from (line + 1) lines)))
steps_line true line text fault read lines within test is behind = record { few = omega (arith, within); numbered = tt }
steps_line false line text (Some f) read lines within test is behind = record { few = omega (arith, within); numbered = tt }
steps_line false line text None None lines within test is behind =
    let room : line ≤ line_limit = grind (arith, nat_tests) in
    let b = behind (omega (arith, room)) in
    let few = b.few in
    record { few = omega (arith, few); numbered = b.numbered }
steps_line false line text None (Some s) lines within test is behind =
    let room : line ≤ line_limit = grind (arith, nat_tests) in
    let b = behind (omega (arith, room)) in
    let few = b.few in
    record { few = omega (arith, few); numbered = (has_numbers s (is_read s text is).in_range, b.numbered) }

steps_from : (line : ℕ) (lines : List (List ℕ)) → line ≤ line_limit + 1 → AreSteps line (trace_from line lines)
steps_from line [] within = record { few = omega (arith, within); numbered = tt }
steps_from line (text ∷ lines) within =
    steps_line (ltb line_limit line) line text (fault_of text) (step_read text) lines within refl refl (λ within. steps_from (line + 1) lines within)

steps_headed : (headed : Bool) (lines : List (List ℕ)) → AreSteps 2 (cond headed (trace_from 2 lines) (refused 1 reason.Header))
steps_headed true lines = steps_from 2 lines (omega arith)
steps_headed false lines = record { few = omega arith; numbered = tt }

steps_lines : (lines : List (List ℕ)) → AreSteps 2 (trace_of_lines lines)
steps_lines [] = record { few = omega arith; numbered = tt }
steps_lines (header ∷ lines) = steps_headed (is_header header) lines

trace_steps : (bytes : List ℕ) → AreSteps 2 (trace_of bytes)
unfolding trace_of
trace_steps bytes = steps_lines (lines_of bytes)

pub is_valid : (bytes : List ℕ) → input_of (migrated (trace_of bytes).steps) ≡ record { steps = map (λ s. step2.Plain s) (trace_of bytes).steps; refusal = None }
is_valid bytes = let t = trace_steps bytes in let few = t.few in migrated_says (trace_of bytes).steps t.numbered (omega (arith, few))

pub answers_as_before : (bytes : List ℕ) → output2 (input_of (migrated (trace_of bytes).steps)).steps ≡ output (trace_of bytes).steps
answers_as_before bytes = let t = trace_steps bytes in let few = t.few in migrated_answers (trace_of bytes).steps t.numbered (omega (arith, few))
