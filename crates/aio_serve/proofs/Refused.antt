-- What an output has where it refused the lines of the pairs.
use Rattle.std.proofs.Common.{◌≡◌, ℕ, Bool, List, [], ◌++◌, Option, Result, Ok, Err, inr, sym, ap, ◌∙◌, subst, append_assoc, append-nil}
use Rattle.std.specs.Io.KnownBytes.{Appends}
use Rattle.std.proofs.KnownBytes.{Appends-trans}
use Rattle.aio_base.specs.Connections.{IsInUse, Telling}
use Rattle.aio_base.specs.declared.outcomes.CountFault.{CountFault}
use Rattle.aio_bytes.specs.Sinks.{AppendsPart, Writes}
use Rattle.aio_bytes.specs.declared.traits.SinkRefusal.{SinkRefusal}
use Rattle.aio_bytes.specs.declared.traits.SinkRefusal.TheVariants as refused
use Rattle.aio_pairs.specs.declared.outcomes.PairEnd.{PairEnd}
use Rattle.aio_line.specs.Texts.{listening_line, pair_lines}
use Rattle.aio_serve.specs.declared.relaying.RelayStop.{RelayStop}
use Rattle.aio_serve.specs.Places.{Terms}
use Rattle.aio_serve.specs.Relays.{AppendsFront, AppendsMore, MayEndSo, RelayWrites, stop_written}

-- a bind leaves the connections as they were
pub may_end_still : {C : Type 0} (telling : C → Telling) (sure : C → Bool) (t : Terms) (before after : Option (List C)) (pairs : ℕ) (ends items : List PairEnd)
    → after ≡ before → items ≡ ends → MayEndSo telling sure t after pairs ends → MayEndSo telling sure t before pairs items
may_end_still telling sure t before after pairs ends items same is may =
    subst (λ (l : List PairEnd). MayEndSo telling sure t before pairs l) (sym is) (subst (λ waiting. MayEndSo telling sure t waiting pairs ends) same may)

module _ {S : Type 0} (contents : S → Option (List ℕ)) (own : Option ℕ) (asked : ℕ) (MayEnd : List PairEnd → Type 0) (port : ℕ)
    (in_use : IsInUse own asked port) (old mid : S) (first : Appends (contents old) (contents mid) (listening_line port)) where
  stopped_writing : (refusal : SinkRefusal) (f : CountFault) (s : RelayStop) (new : S) → s ≡ stop_written refusal f
      → AppendsFront MayEnd (contents old) (contents new) port → RelayWrites contents own asked MayEnd (Err s) old new
  stopped_writing refused.Failed f s new stops front = subst (λ (s : RelayStop). RelayWrites contents own asked MayEnd (Err s) old new) (sym stops) (port, in_use, front)
  stopped_writing refused.OutOfMemory f s new stops front = subst (λ (s : RelayStop). RelayWrites contents own asked MayEnd (Err s) old new) (sym stops) (port, in_use, front)

  -- the first line was written, and a front part of the others
  pub pairs_refused : (r : Result (Unit {0}) SinkRefusal) (refusal : SinkRefusal) (f : CountFault) (s : RelayStop) (new : S) (ends : List PairEnd)
      → r ≡ Err refusal → s ≡ stop_written refusal f → MayEnd ends → Writes r (contents mid) (contents new) (pair_lines 1 ends)
      → RelayWrites contents own asked MayEnd (Err s) old new
  pairs_refused r refusal f s new ends is stops may written =
      let part : AppendsPart (contents mid) (contents new) (pair_lines 1 ends) =
      subst (λ (r : Result (Unit {0}) SinkRefusal). Writes r (contents mid) (contents new) (pair_lines 1 ends)) is written in
      stopped_writing refusal f s new stops (inr (
        ends,
        may,
        record {
          added = listening_line port ++ part.added;
          rest = part.rest;
          whole = ap (λ t. listening_line port ++ t) part.whole ∙ sym (append_assoc (listening_line port) part.added part.rest);
          appended = Appends-trans (contents old) (contents mid) (contents new) (listening_line port) part.added first part.appended;
        },
      ))

-- The first line was written, and more behind it as far as the output took it.
pub first_and_more : (r : Result (Unit {0}) SinkRefusal) (old mid new : Option (List ℕ)) (line text : List ℕ) → Appends old mid line → Writes r mid new text
    → AppendsMore old new line
first_and_more (Ok done) old mid new line text first written = (text, Appends-trans old mid new line text first written)
first_and_more (Err refusal) old mid new line text first written = (written.added, Appends-trans old mid new line written.added first written.appended)

pub first_alone : (old new : Option (List ℕ)) (line : List ℕ) → Appends old new line → AppendsMore old new line
first_alone old new line first = ([], subst (Appends old new) (sym (append-nil line)) first)
