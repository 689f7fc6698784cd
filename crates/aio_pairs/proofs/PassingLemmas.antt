-- Lemmas on the bytes that go one way: what each call makes of them.
use Rattle.std.proofs.Common.{◌≡◌, ℕ, ◌+◌, ◌^◌, ◌<◌, ◌≤◌, Bool, true, false, List, [], ◌∷◌, ◌++◌, length, take, drop, refl, sym, ap, ◌∙◌, subst, arith, append_assoc, append-nil, length-append, inl, inr, Result, Ok, Err, Some}
use Rattle.std.specs.Prelude.{◌⊎◌, ◌||◌, nat_lt, zero, suc}
use Rattle.std.proofs.lemmas.Bool.{false_from_ne_true, true≢false, lt-ltb}
use Rattle.std.proofs.lemmas.List.{nil_from_length, length-take-le, take-append-drop}
use Rattle.aio_base.specs.Connections.{Telling, ReadTells, WriteTells, IsAtItsEnd, Joins, Takes}
use Rattle.aio_base.specs.declared.names.Dir.TheVariants.{Read, Write}
use Rattle.aio_base.specs.declared.names.Waker.{Waker}
use Rattle.aio_base.specs.declared.outcomes.Poll.{Poll}
use Rattle.aio_base.specs.declared.outcomes.Poll.TheVariants.{Ready, Pending}
use Rattle.aio_future.specs.Tries.{bytes_over}
use Rattle.aio_future.specs.declared.tried.TryFault.{TryFault}
use Rattle.aio_pairs.specs.Backlogs.{SideState, ends_with, grown, shrunk}
use Rattle.aio_pairs.specs.Calls.{EndCall, Reads, Writes}
use Rattle.aio_pairs.specs.Exchanges.{PairOk, OneWay, IsStuck, IsBlocked, went_over}
use Rattle.aio_pairs.specs.Lines.{IsPrefix, lines}
use Rattle.aio_pairs.specs.declared.outcomes.EndTried.{EndTried}
use Rattle.aio_pairs.specs.declared.outcomes.Tally.{Tally}
use Rattle.aio_pairs.proofs.LineLemmas.{goes-on, take-same}
use Rattle.aio_pairs.proofs.Tellings.{takes-nothing, takes-both, sends-nothing, sends-both, end-stays}

-- ## Bytes

-- whatever comes behind them, the lines are what was written and then the lines of what is left
pub ok-lines : (old new read written more : List ℕ) → PairOk old new read written → lines (old ++ (read ++ more)) ≡ written ++ lines (new ++ more)
ok-lines old new read written more ok =
    let taken : IsPrefix written (lines (written ++ new)) = record { suffix = ok.prefix.suffix; is = ap lines (sym ok.left) ∙ ok.prefix.is } in
    ap lines (sym (append_assoc old read more) ∙ ap (λ l. l ++ more) ok.left ∙ append_assoc written new more) ∙ goes-on written new more taken

pub ok-all : (old new read written more : List ℕ) → PairOk old new read written → old ++ (read ++ more) ≡ written ++ (new ++ more)
ok-all old new read written more ok = sym (append_assoc old read more) ∙ ap (λ l. l ++ more) ok.left ∙ append_assoc written new more

pub ok-joins : (first mid last read more written sent : List ℕ) → PairOk first mid read written → PairOk mid last more sent
    → PairOk first last (read ++ more) (written ++ sent)
ok-joins first mid last read more written sent one two = record {
  prefix = record {
    suffix = two.prefix.suffix;
    is = ok-lines first mid read written more one ∙ ap (λ l. written ++ l) two.prefix.is ∙ sym (append_assoc written sent two.prefix.suffix);
  };
  left = ok-all first mid read written more one ∙ ap (λ l. written ++ l) two.left ∙ sym (append_assoc written sent last);
}

ok-nothing : (backlog : List ℕ) → PairOk backlog backlog [] []
ok-nothing backlog = record { prefix = record { suffix = lines (backlog ++ []); is = refl }; left = append-nil backlog }

ok-reads : (old side read written bytes : List ℕ) → PairOk old side read written → PairOk old (side ++ bytes) (read ++ bytes) written
ok-reads old side read written bytes ok = record {
  prefix = record { suffix = lines (side ++ bytes); is = ok-lines old side read written bytes ok };
  left = ok-all old side read written bytes ok;
}

ok-writes : (old side read written : List ℕ) (n : ℕ) → PairOk old side read written → n ≤ length (lines side) → PairOk old (drop n side) read (written ++ take n (lines side))
ok-writes old side read written n ok within =
    let piece = take n (lines side) in
    let same = take-same side n within in
    let parts : side ≡ piece ++ drop n side = sym (take-append-drop n side) ∙ ap (λ l. l ++ drop n side) (sym same) in
    let whole : lines (old ++ read) ≡ written ++ lines side =
    ap (λ l. lines (old ++ l)) (sym (append-nil read)) ∙ ok-lines old side read written [] ok ∙ ap (λ l. written ++ lines l) (append-nil side) in
    record {
      prefix = record {
        suffix = drop n (lines side);
        is = whole ∙ ap (λ l. written ++ l) (sym (take-append-drop n (lines side))) ∙ sym (append_assoc written piece (drop n (lines side)));
      };
      left = ok.left ∙ ap (λ l. written ++ l) parts ∙ sym (append_assoc written piece (drop n side));
    }

-- ## Calls

-- an end that a read found
found-end : (answer : Poll (Result ℕ TryFault)) → ends_with answer false ≡ true → answer ≡ Ready (Ok 0)
found-end (Ready (Ok zero)) e = refl
found-end (Ready (Ok (suc n))) e = absurd (true≢false (sym e))
found-end (Ready (Err f)) e = absurd (true≢false (sym e))
found-end Pending e = absurd (true≢false (sym e))

-- whether anything was written, once a piece was
pub wrote-more : (m n : ℕ) → nat_lt 0 (m + n) ≡ (nat_lt 0 m || nat_lt 0 n)
wrote-more zero n = ap (nat_lt 0) (omega arith)
wrote-more (suc m) n = lt-ltb 0 (suc m + n) (omega arith) ∙ sym (ap (λ b. b || nat_lt 0 n) (lt-ltb 0 (suc m) (omega arith)))

module _ {E : Type 0} (told : E → Telling) where
  pub way-begins : (from to : E) (side : SideState) → side.forwarded < 2 ^ 64 → (side.ended ≡ true → IsAtItsEnd (told from))
      → OneWay told from to from to [] [] side side (record { read = 0; wrote = false }) true
  way-begins from to side small at_end = record {
    ok = ok-nothing side.backlog;
    forwarded = omega (arith, small);
    taken = takes-nothing (told from).left;
    sent = sends-nothing (told to).sent;
    tally_read = refl;
    tally_wrote = refl;
    stuck = λ over. absurd (true≢false over);
    at_end = at_end;
  }

  -- a read of the end from which the bytes come, while no whole line was there
  pub way-reads : (from_old to_old from to new_from : E) (from_calls to_calls : List EndCall) (old side : SideState) (tally : Tally) (before more : Bool)
      (room : ℕ) (w : Waker) (tried : EndTried) (bytes : List ℕ)
      → OneWay told from_old to_old from to from_calls to_calls old side tally before
      → lines side.backlog ≡ [] → side.ended ≡ false → length bytes ≡ bytes_over tried.answer
      → ReadTells (told from) (told new_from) bytes (tried.answer ≡ Pending) (tried.answer ≡ Ready (Ok 0))
      → (more ≡ false → (bytes_over tried.answer ≡ 0) × ((tried.answer ≡ Ready (Ok 0)) ⊎ (tried.answer ≡ Pending)))
      → OneWay told from_old to_old new_from to (Reads room w tried bytes ∷ from_calls) to_calls old (grown side bytes tried.answer)
      (record { read = tally.read + bytes_over tried.answer; wrote = tally.wrote }) more
  way-reads from_old to_old from to new_from from_calls to_calls old side tally before more room w tried bytes way none not_ended size tells over =
      record {
        ok = ok-reads old.backlog side.backlog _ _ bytes way.ok;
        forwarded = way.forwarded;
        taken = takes-both (told from_old).left (told from).left (told new_from).left _ bytes way.taken tells.taken;
        sent = way.sent;
        tally_read = omega (arith, way.tally_read, size, length-append (went_over Read from_calls) bytes);
        tally_wrote = way.tally_wrote;
        stuck = λ e.
            let o = over e in
            let nothing : lines (side.backlog ++ bytes) ≡ [] = ap (λ l. lines (side.backlog ++ l)) (nil_from_length bytes (size ∙ o.0)) ∙ ap lines (append-nil side.backlog) ∙ none in
            record {
              starved = λ same. elim o.1 [
                | inl at_end ↦ inl (ap (λ a. ends_with a side.ended) at_end)
                | inr blocked ↦ inr (ap (λ a. Some a) blocked, tells.prompt ∙ false_from_ne_true _ (λ prompt. tells.never prompt blocked))
              ];
              jammed = λ some. absurd (omega (arith, some, ap length nothing));
            };
        at_end = λ e. tells.at_end (found-end tried.answer (ap (ends_with tried.answer) (sym not_ended) ∙ e));
      }

  -- the same read, for the bytes that go the other way
  pub way-beside-read : (from_old to_old from to new_to : E) (from_calls to_calls : List EndCall) (old side : SideState) (tally : Tally) (more : Bool)
      {P Q : Type 0} (room : ℕ) (w : Waker) (tried : EndTried) (bytes : List ℕ)
      → OneWay told from_old to_old from to from_calls to_calls old side tally more → ReadTells (told to) (told new_to) bytes P Q
      → OneWay told from_old to_old from new_to from_calls (Reads room w tried bytes ∷ to_calls) old side tally more
  way-beside-read from_old to_old from to new_to from_calls to_calls old side tally more room w tried bytes way tells = record {
    ok = way.ok;
    forwarded = way.forwarded;
    taken = way.taken;
    sent = subst (λ sent. Joins (told to_old).sent sent (went_over Write to_calls)) (sym tells.sent) way.sent;
    tally_read = way.tally_read;
    tally_wrote = way.tally_wrote;
    stuck = λ over. subst (λ prompt. IsStuck side.backlog side.ended (IsBlocked Read from_calls (told from).prompt) (IsBlocked Write to_calls prompt)) (sym tells.prompt) (way.stuck over);
    at_end = way.at_end;
  }

  -- a write to the other end, of whole lines
  pub way-writes : (from_old to_old from to new_to : E) (from_calls to_calls : List EndCall) (old side : SideState) (tally : Tally) (before more : Bool)
      (w : Waker) (tried : EndTried)
      → OneWay told from_old to_old from to from_calls to_calls old side tally before
      → 0 < length (lines side.backlog) → bytes_over tried.answer ≤ length (lines side.backlog)
      → WriteTells (told to) (told new_to) (take (bytes_over tried.answer) (lines side.backlog)) (tried.answer ≡ Pending)
      → (more ≡ false → (bytes_over tried.answer ≡ 0) × (tried.answer ≡ Pending))
      → OneWay told from_old to_old from new_to from_calls (Writes (lines side.backlog) w tried ∷ to_calls) old (shrunk side (bytes_over tried.answer))
      (record { read = tally.read; wrote = tally.wrote || nat_lt 0 (bytes_over tried.answer) }) more
  way-writes from_old to_old from to new_to from_calls to_calls old side tally before more w tried way some within tells over =
      let n = bytes_over tried.answer in
      let piece = take n (lines side.backlog) in
      let size : length piece ≡ n = length-take-le n (lines side.backlog) within in
      let all = length-append (went_over Write to_calls) piece in
      record {
        ok = ok-writes old.backlog side.backlog _ _ n way.ok within;
        forwarded = omega (arith, way.forwarded, all, size);
        taken = way.taken;
        sent = sends-both (told to_old).sent (told to).sent (told new_to).sent _ piece way.sent tells.joined;
        tally_read = way.tally_read;
        tally_wrote = ap (λ b. b || nat_lt 0 n) way.tally_wrote ∙ ap (λ k. nat_lt 0 (length (went_over Write to_calls)) || nat_lt 0 k) (sym size)
            ∙ sym (wrote-more (length (went_over Write to_calls)) (length piece)) ∙ ap (nat_lt 0) (sym all);
        stuck = λ e.
            let o = over e in
            let same : drop n side.backlog ≡ side.backlog = ap (λ k. drop k side.backlog) o.0 in
            record {
              starved = λ none. absurd (omega (arith, some, ap length (sym (ap lines same) ∙ none)));
              jammed = λ there. (ap (λ a. Some a) o.1, tells.prompt ∙ false_from_ne_true _ (λ prompt. tells.never prompt o.1));
            };
        at_end = way.at_end;
      }

  -- the same write, for the bytes that go the other way
  pub way-beside-write : (from_old to_old from to new_from : E) (from_calls to_calls : List EndCall) (old side : SideState) (tally : Tally) (more : Bool)
      {P : Type 0} (piece : List ℕ) (w : Waker) (tried : EndTried) (sent : List ℕ)
      → OneWay told from_old to_old from to from_calls to_calls old side tally more → WriteTells (told from) (told new_from) sent P
      → OneWay told from_old to_old new_from to (Writes piece w tried ∷ from_calls) to_calls old side tally more
  way-beside-write from_old to_old from to new_from from_calls to_calls old side tally more piece w tried sent way tells = record {
    ok = way.ok;
    forwarded = way.forwarded;
    taken = subst (λ left. Takes (told from_old).left left (went_over Read from_calls)) (sym tells.left) way.taken;
    sent = way.sent;
    tally_read = way.tally_read;
    tally_wrote = way.tally_wrote;
    stuck = λ over. subst (λ prompt. IsStuck side.backlog side.ended (IsBlocked Read from_calls prompt) (IsBlocked Write to_calls (told to).prompt)) (sym tells.prompt) (way.stuck over);
    at_end = λ ended. end-stays (told from) (told new_from) tells.left tells.ends (way.at_end ended);
  }

  -- no call, of a side that can give nothing more
  pub way-rests : (from_old to_old from to : E) (from_calls to_calls : List EndCall) (old side : SideState) (tally : Tally) (before more : Bool)
      → OneWay told from_old to_old from to from_calls to_calls old side tally before → (more ≡ false → (lines side.backlog ≡ []) × (side.ended ≡ true))
      → OneWay told from_old to_old from to from_calls to_calls old side tally more
  way-rests from_old to_old from to from_calls to_calls old side tally before more way over = record {
    ok = way.ok;
    forwarded = way.forwarded;
    taken = way.taken;
    sent = way.sent;
    tally_read = way.tally_read;
    tally_wrote = way.tally_wrote;
    stuck = λ e. let o = over e in record { starved = λ none. inl o.1; jammed = λ some. absurd (omega (arith, some, ap length o.0)) };
    at_end = way.at_end;
  }
