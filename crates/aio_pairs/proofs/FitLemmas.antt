-- Lemmas on what fits two connections.
use Rattle.std.proofs.Common.{◌≡◌, ℕ, ◌+◌, ◌^◌, ◌<◌, ◌≤◌, Bool, true, false, List, [], ◌++◌, length, take, drop, sym, ap, ◌∙◌, subst, arith, append-nil, length-append, inl, inr, Option, Some, None}
use Rattle.std.specs.Prelude.{◌⊎◌, IfSome, IsTrue, option_map}
use Rattle.std.proofs.Math.Seq.{drop-append-add}
use Rattle.aio_base.specs.Connections.{Telling, Takes, IsAtItsEnd}
use Rattle.aio_base.specs.declared.names.Dir.TheVariants.{Read, Write}
use Rattle.aio_pairs.specs.Backlogs.{SideState, saturated}
use Rattle.aio_pairs.specs.Calls.{EndCall}
use Rattle.aio_pairs.specs.Exchanges.{PairOk, OneWay, Exchange, IsLongAt, went_over}
use Rattle.aio_pairs.specs.Fits.{to_give, LinesAre, LongAt, Fits}
use Rattle.aio_pairs.specs.Lines.{HasNoLineFeed, lines, unfinished, longest_line}
use Rattle.aio_pairs.specs.declared.outcomes.PairEnd.{PairEnd}
use Rattle.aio_pairs.specs.declared.outcomes.PairEnd.TheVariants as pair
use Rattle.aio_pairs.specs.declared.outcomes.Side.TheVariants.{A, B}
use Rattle.aio_pairs.specs.declared.outcomes.Tally.{Tally}
use Rattle.aio_pairs.proofs.LineLemmas.{long-stays, long-behind, unfinished-clear}
use Rattle.aio_pairs.proofs.PassingLemmas.{ok-lines, ok-all}

-- ## Before some calls and after them

-- of the bytes of a side some were written: its lines are these and those of the rest, and behind them stands the same
ok-unfinished : (old new read written more : List ℕ) → PairOk old new read written → unfinished (old ++ (read ++ more)) ≡ unfinished (new ++ more)
ok-unfinished old new read written more ok =
    ap (λ l. drop (length l) (old ++ (read ++ more))) (ok-lines old new read written more ok)
    ∙ ap (λ n. drop n (old ++ (read ++ more))) (length-append written (lines (new ++ more)))
    ∙ ap (drop (length written + length (lines (new ++ more)))) (ok-all old new read written more ok)
    ∙ drop-append-add written (new ++ more) (length (lines (new ++ more)))

module _ (old new : SideState) (t_old t : Telling) (sure_old sure : Bool) (read written : List ℕ) (ok : PairOk old.backlog new.backlog read written)
    (forwarded : new.forwarded ≡ saturated (old.forwarded + length written)) (taken : Takes t_old.left t.left read) where
  lines-before : (n : ℕ) → t.ends ≡ t_old.ends → LinesAre (to_give new t sure) n → LinesAre (to_give old t_old sure_old) n
  lines-before n ends fits = go t_old.left t.left taken fits where
    go : (left_old left : Option (List ℕ)) → Takes left_old left read
        → IfSome (option_map (λ l. new.backlog ++ l) left) (λ bytes. (t.ends ≡ true) × (n ≡ saturated (new.forwarded + length (lines bytes))))
        → IfSome (option_map (λ l. old.backlog ++ l) left_old) (λ bytes. (t_old.ends ≡ true) × (n ≡ saturated (old.forwarded + length (lines bytes))))
    go None left takes h = tt
    go (Some x) None takes h = absurd takes
    go (Some x) (Some y) takes h =
        let same : lines (old.backlog ++ x) ≡ written ++ lines (new.backlog ++ y) = ap (λ l. lines (old.backlog ++ l)) takes ∙ ok-lines old.backlog new.backlog read written y ok in
        (sym ends ∙ h.0, omega (arith, h.1, forwarded, ap length same, length-append written (lines (new.backlog ++ y))))

  long-before : (n : ℕ) → LongAt (to_give new t sure) n → LongAt (to_give old t_old sure_old) n
  long-before n fits = go t_old.left t.left taken fits where
    go : (left_old left : Option (List ℕ)) → Takes left_old left read
        → IfSome (option_map (λ l. new.backlog ++ l) left) (λ bytes. (longest_line ≤ length (unfinished bytes)) × HasNoLineFeed (take longest_line (unfinished bytes))
        × (n ≡ saturated (new.forwarded + length (lines bytes) + longest_line)))
        → IfSome (option_map (λ l. old.backlog ++ l) left_old) (λ bytes. (longest_line ≤ length (unfinished bytes)) × HasNoLineFeed (take longest_line (unfinished bytes))
        × (n ≡ saturated (old.forwarded + length (lines bytes) + longest_line)))
    go None left takes h = tt
    go (Some x) None takes h = absurd takes
    go (Some x) (Some y) takes h =
        let same : lines (old.backlog ++ x) ≡ written ++ lines (new.backlog ++ y) = ap (λ l. lines (old.backlog ++ l)) takes ∙ ok-lines old.backlog new.backlog read written y ok in
        let rest : unfinished (new.backlog ++ y) ≡ unfinished (old.backlog ++ x) =
        sym (ap (λ l. unfinished (old.backlog ++ l)) takes ∙ ok-unfinished old.backlog new.backlog read written y ok) in (
          subst (λ l. longest_line ≤ length l) rest h.0,
          subst (λ l. HasNoLineFeed (take longest_line l)) rest h.1,
          omega (arith, h.2, forwarded, ap length same, length-append written (lines (new.backlog ++ y))),
        )

module _ {E : Type 0} (step : E → EndCall → E → Type 0) (told : E → Telling) (sure : E → Bool) (count : E → ℕ) where
  way-lines : (from_old to_old from to : E) (from_calls to_calls : List EndCall) (old side : SideState) (tally : Tally) (more : Bool) (n : ℕ)
      → OneWay told from_old to_old from to from_calls to_calls old side tally more → (told from).ends ≡ (told from_old).ends
      → LinesAre (to_give side (told from) (sure from)) n → LinesAre (to_give old (told from_old) (sure from_old)) n
  way-lines from_old to_old from to from_calls to_calls old side tally more n way ends fits =
      lines-before old side (told from_old) (told from) (sure from_old) (sure from) (went_over Read from_calls) (went_over Write to_calls) way.ok way.forwarded way.taken n ends fits

  way-long : (from_old to_old from to : E) (from_calls to_calls : List EndCall) (old side : SideState) (tally : Tally) (more : Bool) (n : ℕ)
      → OneWay told from_old to_old from to from_calls to_calls old side tally more
      → LongAt (to_give side (told from) (sure from)) n → LongAt (to_give old (told from_old) (sure from_old)) n
  way-long from_old to_old from to from_calls to_calls old side tally more n way fits =
      long-before old side (told from_old) (told from) (sure from_old) (sure from) (went_over Read from_calls) (went_over Write to_calls) way.ok way.forwarded way.taken n fits

  -- what fits after an exchange fitted before it
  module _ {H : Type 0} {on_host : H → EndCall → H → Type 0} {host_old host : H} (a_old b_old a b : E) (from_a_old from_b_old from_a from_b : SideState)
      (tally_a tally_b : Tally) (more_a more_b : Bool) (stop : Option PairEnd)
      (x : Exchange step told sure count on_host host_old host a_old b_old a b from_a_old from_b_old from_a from_b tally_a tally_b more_a more_b stop) where
    may-fail : (sure a ≡ false) ⊎ (sure b ≡ false) → (sure a_old ≡ false) ⊎ (sure b_old ≡ false)
    may-fail h = elim h [ inl is_a ↦ inl (sym x.a_same.still_sure ∙ is_a) | inr is_b ↦ inr (sym x.b_same.still_sure ∙ is_b) ]

    pub fitted : (earlier earliest latest idle : ℕ) (notifier_sure : Bool) (end : PairEnd) → earlier ≤ earliest
        → Fits (to_give from_a (told a) (sure a)) (to_give from_b (told b) (sure b)) earliest latest idle notifier_sure end
        → Fits (to_give from_a_old (told a_old) (sure a_old)) (to_give from_b_old (told b_old) (sure b_old)) earlier latest idle notifier_sure end
    fitted earlier earliest latest idle notifier_sure (pair.Ended to_a to_b) order h = (
      way-lines b_old a_old b a x.b_calls x.a_calls from_b_old from_b tally_b more_b to_a x.back x.b_same.still_ends h.0,
      way-lines a_old b_old a b x.a_calls x.b_calls from_a_old from_a tally_a more_a to_b x.forth x.a_same.still_ends h.1,
    )
    fitted earlier earliest latest idle notifier_sure (pair.Idle last now) order h = (
      elim h.0 [ inl is_a ↦ inl (sym x.a_same.still_prompt ∙ is_a) | inr is_b ↦ inr (sym x.b_same.still_prompt ∙ is_b) ],
      h.1,
      omega (arith, order, h.2),
      h.3,
    )
    fitted earlier earliest latest idle notifier_sure (pair.TooLong A at) order h = way-long a_old b_old a b x.a_calls x.b_calls from_a_old from_a tally_a more_a at x.forth h
    fitted earlier earliest latest idle notifier_sure (pair.TooLong B at) order h = way-long b_old a_old b a x.b_calls x.a_calls from_b_old from_b tally_b more_b at x.back h
    fitted earlier earliest latest idle notifier_sure (pair.ReadFault f) order h = may-fail h
    fitted earlier earliest latest idle notifier_sure (pair.WriteFault f) order h = may-fail h
    fitted earlier earliest latest idle notifier_sure (pair.ArmFault f) order h = may-fail h
    fitted earlier earliest latest idle notifier_sure (pair.NotifyFault f) order h = h
    fitted earlier earliest latest idle notifier_sure pair.OutOfMemory order h = tt

-- ## What fits at an end

-- a side that ended, all of whose lines were written
pub done-fits : (side : SideState) (t : Telling) (sure : Bool) → side.forwarded < 2 ^ 64 → lines side.backlog ≡ [] → IsAtItsEnd t → LinesAre (to_give side t sure) side.forwarded
done-fits side t sure small none at_end = go t.left at_end where
  go : (left : Option (List ℕ)) → IfSome left (λ bytes. (bytes ≡ []) × IsTrue t.ends)
      → IfSome (option_map (λ l. side.backlog ++ l) left) (λ bytes. (t.ends ≡ true) × (side.forwarded ≡ saturated (side.forwarded + length (lines bytes))))
  go None h = tt
  go (Some left) h =
      let nothing : lines (side.backlog ++ left) ≡ [] = ap (λ l. lines (side.backlog ++ l)) h.0 ∙ ap lines (append-nil side.backlog) ∙ none in
      (h.1, omega (arith, small, ap length nothing))

pub long-fits : (side : SideState) (t : Telling) (sure : Bool) (at : ℕ) → IsLongAt side at → LongAt (to_give side t sure) at
long-fits side t sure at is = go t.left where
  go : (left : Option (List ℕ)) → IfSome (option_map (λ l. side.backlog ++ l) left) (λ bytes. (longest_line ≤ length (unfinished bytes)) × HasNoLineFeed (take longest_line (unfinished bytes))
      × (at ≡ saturated (side.forwarded + length (lines bytes) + longest_line)))
  go None = tt
  go (Some left) =
      let rest = long-behind side.backlog left is.0 in (
        omega (arith, is.0, ap length rest, length-append (unfinished side.backlog) left),
        unfinished-clear (side.backlog ++ left),
        is.1 ∙ ap (λ l. saturated (side.forwarded + length l + longest_line)) (sym (long-stays side.backlog left is.0)),
      )
