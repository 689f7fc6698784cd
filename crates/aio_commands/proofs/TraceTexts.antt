-- What stands while the trace of a seed's steps is buffered and written.
use Rattle.std.proofs.Common.{◌≡◌, ℕ, ◌≤◌, List, [], ◌∷◌, ◌++◌, Option, Result, Ok, refl, sym, ap, ◌∙◌, subst, append_assoc, append-nil, arith}
use Rattle.std.specs.Prelude.{Bool, IsTrue, flat_map}
use Rattle.std.specs.List.{All}
use Rattle.std.specs.Io.KnownBytes.{Appends}
use Rattle.std.proofs.KnownBytes.{Appends-trans, Appends-nil}
use Rattle.std.proofs.lemmas.Grind.{flat_map-append}
use Rattle.std.proofs.lemmas.List.Elements.{All-head, All-tail}
use Rattle.aio_base.specs.declared.steps.Step.{Step}
use Rattle.aio_base.specs.declared.steps.Step.TheVariants as step
use Rattle.aio_base.specs.Devices.{TellsFaults}
use Rattle.aio_base.specs.Generated.{generated_steps}
use Rattle.aio_base.specs.Lines.{HasSpelling, IsInRange, NamesNoPriority, written_line}
use Rattle.aio_base.specs.Text.{ended_line}
use Rattle.aio_bytes.specs.declared.traits.SinkRefusal.{SinkRefusal}
use Rattle.aio_bytes.specs.Sinks.{AppendsPart, HasFailed, Writes}
use Rattle.aio_generator.specs.Generating.{StepsLeft, steps_left}
use Rattle.aio_generator.proofs.Ranges.{all_spelled}
use Rattle.aio_trace.proofs.Ranges.{in_range}
use Rattle.aio_replay.specs.Driving.{Sends}
use Rattle.aio_replay.proofs.DrivingLemmas.{Sends-writes}
use Rattle.aio_commands.specs.Commands.{header_text, trace_text}

-- the lines of some steps
abbrev lines_text : List Step → List ℕ
lines_text steps = flat_map (λ (s : Step). ended_line (written_line s)) steps

trace_text-append : (done more : List Step) → trace_text (done ++ more) ≡ trace_text done ++ lines_text more
trace_text-append done more =
    ap (λ lines. ended_line header_text ++ lines) (flat_map-append (λ (s : Step). ended_line (written_line s)) done more)
    ∙ sym (append_assoc (ended_line header_text) (lines_text done) (lines_text more))

trace_text-push : (done : List Step) (s : Step) → trace_text (done ++ s ∷ []) ≡ trace_text done ++ ended_line (written_line s)
trace_text-push done s = trace_text-append done (s ∷ []) ∙ ap (λ line. trace_text done ++ line) (append-nil (ended_line (written_line s)))

-- the step behind some steps that all have spellings
behind : (done : List Step) (s : Step) (rest : List Step) → All HasSpelling (done ++ s ∷ rest) → HasSpelling s
behind [] s rest all = All-head HasSpelling s rest all
behind (d ∷ done) s rest all = behind done s rest (All-tail HasSpelling d (done ++ s ∷ rest) all)

names_no_priority : (s : Step) → HasSpelling s → NamesNoPriority s
names_no_priority (step.Poll key dir waker) spelled = spelled.1
names_no_priority (step.New key dir) spelled = spelled.1
names_no_priority (step.Note event) spelled = spelled.1
names_no_priority _ spelled = tt

-- the steps done so far are the first of the seed's, and those that are left the others; what was sent, with the text that is kept, is their trace
pub record Tracing (n seed : ℕ) (left : StepsLeft) (first now : Option (List ℕ)) (text : List ℕ) : Type 0 where
  pub done : List Step
  pub whole : generated_steps n seed ≡ done ++ steps_left left
  pub sent : List ℕ
  pub appended : Appends first now sent
  pub text_is : sent ++ text ≡ trace_text done

pub traces_none : (n seed : ℕ) (left : StepsLeft) (first : Option (List ℕ)) (text : List ℕ) → generated_steps n seed ≡ steps_left left → text ≡ ended_line header_text
    → Tracing n seed left first first text
traces_none n seed left first text whole is = record {
  done = [];
  whole = whole;
  sent = [];
  appended = Appends-nil first;
  text_is = is ∙ sym (append-nil (ended_line header_text));
}

module _ (n seed : ℕ) (left rest : StepsLeft) (first now : Option (List ℕ)) (text : List ℕ) (traces : Tracing n seed left first now text) (next : Step)
    (is_next : steps_left left ≡ next ∷ steps_left rest) where
  with_next : generated_steps n seed ≡ traces.done ++ next ∷ steps_left rest
  with_next = traces.whole ∙ ap (λ more. traces.done ++ more) is_next

  next_spelled : n ≤ 999999 → HasSpelling next
  next_spelled few = behind traces.done next (steps_left rest) (subst (All HasSpelling) with_next (all_spelled n seed few))

  -- it may be written
  pub next_in_range : n ≤ 999999 → IsInRange next
  next_in_range few = in_range next (next_spelled few)

  pub next_no_priority : n ≤ 999999 → NamesNoPriority next
  next_no_priority few = names_no_priority next (next_spelled few)

  buffered : (line : List ℕ) → line ≡ ended_line (written_line next) → traces.sent ++ (text ++ line) ≡ trace_text (traces.done ++ next ∷ [])
  buffered line is =
      sym (append_assoc traces.sent text line) ∙ ap (λ t. t ++ line) traces.text_is ∙ ap (λ t. trace_text traces.done ++ t) is ∙ sym (trace_text-push traces.done next)

  -- its line was put at the end of the text
  pub traces_one : (new : Option (List ℕ)) (kept : List ℕ) → Sends now new (text ++ ended_line (written_line next)) kept → Tracing n seed rest first new kept
  traces_one new kept sends = record {
    done = traces.done ++ next ∷ [];
    whole = with_next ∙ sym (append_assoc traces.done (next ∷ []) (steps_left rest));
    sent = traces.sent ++ sends.sent;
    appended = Appends-trans first now new traces.sent sends.sent traces.appended sends.appended;
    text_is = append_assoc traces.sent sends.sent kept ∙ ap (λ t. traces.sent ++ t) (sym sends.whole) ∙ buffered (ended_line (written_line next)) refl;
  }

  -- it was refused
  pub traces_part : (new : Option (List ℕ)) → AppendsPart now new (text ++ ended_line (written_line next)) → AppendsPart first new (trace_text (generated_steps n seed))
  traces_part new part =
      let more = lines_text (steps_left rest) in
      let all : trace_text (generated_steps n seed) ≡ trace_text (traces.done ++ next ∷ []) ++ more =
      ap trace_text (with_next ∙ sym (append_assoc traces.done (next ∷ []) (steps_left rest))) ∙ trace_text-append (traces.done ++ next ∷ []) (steps_left rest) in
      record {
        added = traces.sent ++ part.added;
        rest = part.rest ++ more;
        whole = all ∙ ap (λ t. t ++ more) (sym (buffered (ended_line (written_line next)) refl) ∙ ap (λ t. traces.sent ++ t) part.whole ∙ sym (append_assoc traces.sent part.added part.rest))
            ∙ append_assoc (traces.sent ++ part.added) part.rest more;
        appended = Appends-trans first now new traces.sent part.added traces.appended part.appended;
      }

-- all steps are done, and the rest of the text was written as far as the output took it
pub traces_all : (n seed : ℕ) (left : StepsLeft) (first now new : Option (List ℕ)) (text : List ℕ) (r : Result (Unit {0}) SinkRefusal) → Tracing n seed left first now text
    → steps_left left ≡ [] → Writes r now new text → Writes r first new (trace_text (generated_steps n seed))
traces_all n seed left first now new text r traces none written =
    let whole : generated_steps n seed ≡ traces.done = traces.whole ∙ ap (λ more. traces.done ++ more) none ∙ append-nil traces.done in
    Sends-writes r first now new (trace_text (generated_steps n seed)) text (record {
      sent = traces.sent;
      appended = traces.appended;
      whole = sym (traces.text_is ∙ ap trace_text (sym whole));
    }) written

-- a call before which no call failed
pub tells_on : {S : Type 0} (count : S → ℕ) (is_sure : S → Bool) (old mid new : S) (failed : Type 0) → TellsFaults count is_sure old mid ⊥ → TellsFaults count is_sure mid new failed
    → TellsFaults count is_sure old new failed
tells_on count is_sure old mid new failed first second = record {
  cause = record {
    later = omega (arith, first.cause.later, second.cause.later);
    rose = λ fails. let rose = second.cause.rose fails in omega (arith, first.cause.later, rose);
    never = λ sure.
        let before = first.cause.never sure in
        let after = second.cause.never (subst IsTrue (sym first.sure) sure) in
        (after.0, after.1 ∙ before.1);
  };
  sure = second.sure ∙ first.sure;
}

-- no call was made
pub tells_none : {S : Type 0} (count : S → ℕ) (is_sure : S → Bool) (now : S) → TellsFaults count is_sure now now ⊥
tells_none count is_sure now = record {
  cause = record { later = omega arith; rose = λ failed. absurd failed; never = λ sure. (λ failed. failed, refl) };
  sure = refl;
}

-- a call that was answered `Ok` did not fail
pub tells_done : {S : Type 0} (count : S → ℕ) (is_sure : S → Bool) (old new : S) (r : Result (Unit {0}) SinkRefusal) (done : Unit {0}) → r ≡ Ok done
    → TellsFaults count is_sure old new (HasFailed r) → TellsFaults count is_sure old new ⊥
tells_done count is_sure old new r done is tells = record {
  cause = record { later = tells.cause.later; rose = λ failed. absurd failed; never = λ sure. (λ failed. failed, (tells.cause.never sure).1) };
  sure = tells.sure;
}
