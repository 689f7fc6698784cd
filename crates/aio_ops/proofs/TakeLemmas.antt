-- A drain, one operation after the other.
use Rattle.std.proofs.Common.{◌≡◌, ℕ, ◌+◌, ◌≤◌, List, [], ◌∷◌, ◌++◌, refl, sym, ap, ◌∙◌, append_assoc, length, inl, inr, ◌<◌, arith}
use Rattle.std.specs.Prelude.{Some}
use Rattle.std.proofs.lemmas.List.{length-append}
use Rattle.aio_base.specs.Timers.{fold_changes}
use Rattle.aio_base.specs.World.{Registration}
use Rattle.aio_timers.specs.Book.{change_of, entries_needed}
use Rattle.aio_timers.specs.Room.{Book}
use Rattle.aio_timers.specs.declared.op.TimerOp.{TimerOp}
use Rattle.aio_timers.specs.declared.op.TimerOp.TheVariants.{Insert, Remove}
use Rattle.aio_rules.specs.declared.operations.OpEntry.{OpEntry}
use Rattle.aio_rules.specs.Operations.{queue_limit}
use Rattle.aio_rules.specs.OperationLaws.{KnowsItsPast}
use Rattle.aio_rules.proofs.OperationOrder.{drained_by}
use Rattle.aio_ops.specs.Passes.{PassView, Pops, Takes, Drains, queue_pass, changed_by}

-- an operation needs room for one timer at most
one_at_most : (op : TimerOp) → entries_needed op ≤ 1
one_at_most (Insert deadline id waker) = omega arith
one_at_most (Remove deadline id) = omega arith

-- one entry more changes the book once more
changed_by_one_more : (entries : List (OpEntry TimerOp)) (e : OpEntry TimerOp) (book : List Registration)
    → changed_by (entries ++ e ∷ []) book ≡ fold_changes (changed_by entries book) (change_of e.op ∷ [])
changed_by_one_more [] e book = refl
changed_by_one_more (first ∷ entries) e book = changed_by_one_more entries e (fold_changes book (change_of first.op ∷ []))

pub takes_one_more : (n : ℕ) (before mid after : PassView) (b c d : Book) (op : TimerOp) → Takes n before mid b c → Pops (Some op) mid after
    → d.entries ≡ fold_changes c.entries (change_of op ∷ []) → c.spare ≤ d.spare + entries_needed op → Takes (n + 1) before after b d
takes_one_more n before mid after b c d op t (e, is, popped) applied room = record {
  entries = t.entries ++ e ∷ [];
  number = length-append t.entries (e ∷ []) ∙ ap (λ k. k + 1) t.number;
  pass =
      let pulled = before.pulled ++ (t.entries ++ e ∷ []) in
      popped
      ∙ ap (λ (p : PassView). record p { pulled = p.pulled ++ e ∷ [] }) t.pass
      ∙ ap (λ (pulled : List (OpEntry TimerOp)). record before { pulled = pulled; empties = mid.empties }) (append_assoc before.pulled t.entries (e ∷ []))
      ∙ ap (λ (empties : ℕ). record before { pulled = pulled; empties = empties }) (sym (ap (λ (p : PassView). p.empties) popped));
  book =
      applied
      ∙ ap (λ (o : TimerOp). fold_changes c.entries (change_of o ∷ [])) (sym is)
      ∙ ap (λ (book : List Registration). fold_changes book (change_of e.op ∷ [])) t.book
      ∙ sym (changed_by_one_more t.entries e b.entries);
  spare = let one = one_at_most op in let before_it = t.spare in omega (arith, room);
}

-- a drain that took 1,000 entries
pub drains_full : (n : ℕ) (before after : PassView) (b c : Book) → KnowsItsPast (queue_pass before) → Takes n before after b c → after.empties ≡ before.empties
    → n ≤ queue_limit → queue_limit ≤ n → Drains n before after b c
drains_full n before after b c past t same most least =
    let long : length after.pulled ≡ length before.pulled + length t.entries = ap (λ (p : PassView). length p.pulled) t.pass ∙ length-append before.pulled t.entries in
    let taken = t.number in
    record {
      takes = t;
      most = most;
      ends = inl (omega (arith, most, least), same);
      none_left = drained_by (queue_pass before) (queue_pass after) (ap (λ (p : PassView). p.own) t.pass) past (inl (omega (arith, long, taken, least)));
    }

-- a drain that ended at a pop that found none
pub drains_empty : (n : ℕ) (before mid after : PassView) (b c : Book) → KnowsItsPast (queue_pass before) → Takes n before mid b c → mid.empties ≡ before.empties
    → n < queue_limit → after ≡ record mid { empties = mid.empties + 1 } → Drains n before after b c
drains_empty n before mid after b c past t same few none =
    let rose : after.empties ≡ before.empties + 1 = ap (λ (p : PassView). p.empties) none ∙ ap (λ (k : ℕ). k + 1) same in
    record {
      takes = record {
        entries = t.entries;
        number = t.number;
        pass = none ∙ ap (λ (p : PassView). record p { empties = mid.empties + 1 }) t.pass
            ∙ ap (λ (k : ℕ). record before { pulled = before.pulled ++ t.entries; empties = k }) (sym (ap (λ (p : PassView). p.empties) none));
        book = t.book;
        spare = t.spare;
      };
      most = omega (arith, few);
      ends = inr (few, rose);
      none_left = drained_by (queue_pass before) (queue_pass after) (ap (λ (p : PassView). p.own) none ∙ ap (λ (p : PassView). p.own) t.pass) past (inr (omega (arith, rose)));
    }
