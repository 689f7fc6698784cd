-- The text that tells which line is refused, as it is written in three pieces.
use Rattle.std.proofs.Common.{◌≡◌, ℕ, List, [], ◌∷◌, ◌++◌, Option, Result, ap, sym, ◌∙◌, subst, append_assoc}
use Rattle.std.specs.Prelude.{codes, decimal}
use Rattle.std.specs.Io.KnownBytes.{Appends}
use Rattle.std.proofs.KnownBytes.{Appends-trans}
use Rattle.aio_base.specs.declared.steps.Reason.{Reason}
use Rattle.aio_base.specs.Text.{ended_line, reason_text}
use Rattle.aio_bytes.specs.declared.traits.SinkRefusal.{SinkRefusal}
use Rattle.aio_bytes.specs.Sinks.{AppendsPart, Writes}
use Rattle.aio_commands.specs.Commands.{refusal_text}
use Rattle.aio_replay.proofs.DrivingLemmas.{Sends-writes}

parted : (a b c d e : List ℕ) → (((a ++ b) ++ c) ++ d) ++ e ≡ a ++ (b ++ ((c ++ d) ++ e))
parted a b c d e = ap (λ t. t ++ e) (append_assoc (a ++ b) c d) ∙ append_assoc (a ++ b) (c ++ d) e ∙ append_assoc a b ((c ++ d) ++ e)

in_pieces : (line : ℕ) (reason : Reason) → refusal_text line reason ≡ codes "line " ++ (decimal line ++ ended_line (codes ": " ++ reason_text reason))
in_pieces line reason = parted (codes "line ") (decimal line) (codes ": ") (reason_text reason) (10 ∷ [])

-- the first piece was refused
pub first_refused : (line : ℕ) (reason : Reason) (old new : Option (List ℕ)) → AppendsPart old new (codes "line ") → AppendsPart old new (refusal_text line reason)
first_refused line reason old new q =
    let more = decimal line ++ ended_line (codes ": " ++ reason_text reason) in
    subst (AppendsPart old new) (sym (in_pieces line reason)) (record {
      added = q.added;
      rest = q.rest ++ more;
      whole = ap (λ t. t ++ more) q.whole ∙ append_assoc q.added q.rest more;
      appended = q.appended;
    })

-- the number was refused
pub second_refused : (line : ℕ) (reason : Reason) (old mid new : Option (List ℕ)) → Appends old mid (codes "line ") → AppendsPart mid new (decimal line)
    → AppendsPart old new (refusal_text line reason)
second_refused line reason old mid new p q =
    let end = ended_line (codes ": " ++ reason_text reason) in
    subst (AppendsPart old new) (sym (in_pieces line reason)) (record {
      added = codes "line " ++ q.added;
      rest = q.rest ++ end;
      whole = ap (λ t. codes "line " ++ (t ++ end)) q.whole ∙ ap (λ t. codes "line " ++ t) (append_assoc q.added q.rest end)
          ∙ sym (append_assoc (codes "line ") q.added (q.rest ++ end));
      appended = Appends-trans old mid new (codes "line ") q.added p q.appended;
    })

-- both were written before the end of the text
pub end_written : (r : Result (Unit {0}) SinkRefusal) (line : ℕ) (reason : Reason) (old first second new : Option (List ℕ)) → Appends old first (codes "line ")
    → Appends first second (decimal line) → Writes r second new (ended_line (codes ": " ++ reason_text reason)) → Writes r old new (refusal_text line reason)
end_written r line reason old first second new p q w =
    let end = ended_line (codes ": " ++ reason_text reason) in
    Sends-writes r old second new (refusal_text line reason) end (record {
      sent = codes "line " ++ decimal line;
      appended = Appends-trans old first second (codes "line ") (decimal line) p q;
      whole = in_pieces line reason ∙ sym (append_assoc (codes "line ") (decimal line) end);
    }) w
