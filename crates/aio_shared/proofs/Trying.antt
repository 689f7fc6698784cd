-- Tries of a seat to push an operation, one after the other, and what they leave of it.
use Rattle.std.proofs.Common.{◌≡◌, ℕ, zero, suc, Bool, true, false, Result, Ok, Err, OnOk, OnErr, inr, [], ◌∷◌, length, refl, sym, ap, ◌∙◌, subst, append-nil, le_refl, le_trans, arith}
use Rattle.aio_base.specs.declared.outcomes.OutOfMemory.{OutOfMemory}
use Rattle.aio_ops.specs.Passes.{PassView, AppliesItself, FindsFull, next_entry, pushed, with_applied, Drained}
use Rattle.aio_timers.specs.declared.op.TimerOp.{TimerOp}
use Rattle.aio_shared.specs.Later.{extends_itself, extends_further}
use Rattle.aio_shared.specs.TimerCalls.{CarriesOut, FoundFull, IsLaterPass, Tries, TriesAgain, TriesInVain}

later_itself : (p : PassView) → IsLaterPass p p
later_itself p = record {
  queue = refl;
  number = refl;
  own = extends_itself p.own;
  pulled = extends_itself p.pulled;
  fulls = le_refl p.fulls;
  empties = le_refl p.empties;
}

pub later_further : (p q r : PassView) → IsLaterPass p q → IsLaterPass q r → IsLaterPass p r
later_further p q r x y = record {
  queue = y.queue ∙ x.queue;
  number = y.number ∙ x.number;
  own = extends_further p.own q.own r.own x.own y.own;
  pulled = extends_further p.pulled q.pulled r.pulled x.pulled y.pulled;
  fulls = le_trans x.fulls y.fulls;
  empties = le_trans x.empties y.empties;
}

full_later : (p q : PassView) → FindsFull p q → IsLaterPass p q
full_later p q f = record {
  queue = ap (λ (r : PassView). r.queue) f.pass;
  number = ap (λ (r : PassView). r.number) f.pass;
  own = ([], ap (λ (r : PassView). r.own) f.pass ∙ sym (append-nil p.own));
  pulled = ([], ap (λ (r : PassView). r.pulled) f.pass ∙ sym (append-nil p.pulled));
  fulls = f.counted.0;
  empties = (let same : q.empties ≡ p.empties = ap (λ (r : PassView). r.empties) f.pass in omega arith);
}

pub pushed_later : (op : TimerOp) (p : PassView) → IsLaterPass p (pushed op p)
pushed_later op p = record {
  queue = refl;
  number = refl;
  own = (record { entry = next_entry p op; pulled = length p.pulled } ∷ [], refl);
  pulled = extends_itself p.pulled;
  fulls = le_refl p.fulls;
  empties = le_refl p.empties;
}

pub drained_later : (p q : PassView) → Drained p q → IsLaterPass p q
drained_later p q d = let fulls : q.fulls ≡ p.fulls = ap (λ (r : PassView). r.fulls) d.pass in record {
  queue = ap (λ (r : PassView). r.queue) d.pass;
  number = ap (λ (r : PassView). r.number) d.pass;
  own = ([], ap (λ (r : PassView). r.own) d.pass ∙ sym (append-nil p.own));
  pulled = (d.entries, ap (λ (r : PassView). r.pulled) d.pass);
  fulls = omega arith;
  empties = d.empties;
}

in_vain_later : (p q : PassView) → TriesInVain p q → IsLaterPass p q
in_vain_later p q t = later_further p t.room q (drained_later p t.room t.drained) (full_later t.room q t.full)

tries_later : (n : ℕ) (a b : PassView) → TriesAgain n a b → IsLaterPass a b
tries_later zero a b same = subst (λ r. IsLaterPass a r) (sym same) (later_itself a)
tries_later (suc n) a b (mid, many, once) = later_further a mid b (tries_later n a mid many) (in_vain_later mid b once)

pub found_full_later : (n : ℕ) (a b : PassView) → FoundFull n a b → IsLaterPass a b
found_full_later n a b f = later_further a f.first b (full_later a f.first f.full) (tries_later n f.first b f.again)

pub tried_later : (op : TimerOp) (p q : PassView) (answer : Result Bool OutOfMemory) → Tries op p q answer → IsLaterPass p q
tried_later op p q (Ok true) (room, drained, is_pushed) = later_further p room q (drained_later p room drained) (subst (λ r. IsLaterPass room r) (sym is_pushed) (pushed_later op room))
tried_later op p q (Ok false) in_vain = in_vain_later p q in_vain
tried_later op p q (Err refused) same = subst (λ r. IsLaterPass p r) (sym same) (later_itself p)

-- a seat whose operation the queue did not take at 1,000 tries more, once it was drained for the last time, or could not be
pub kept_out : (op : TimerOp) (n : ℕ) (p q r : PassView) (answer : Result (Unit {0}) OutOfMemory) → n ≡ 1000 → FoundFull n p q → OnOk answer (AppliesItself op q r)
    → OnOk answer (CarriesOut op p r)
kept_out op n p q r (Ok done) is full applies = inr record { last = q; full = subst (λ k. FoundFull k p q) is full; applies = applies }
kept_out op n p q r (Err refused) is full applies = tt

applied_later : (op : TimerOp) (p : PassView) → IsLaterPass p (with_applied op p)
applied_later op p = record {
  queue = refl;
  number = refl;
  own = extends_itself p.own;
  pulled = extends_itself p.pulled;
  fulls = le_refl p.fulls;
  empties = le_refl p.empties;
}

applies_later : (op : TimerOp) (p q : PassView) → AppliesItself op p q → IsLaterPass p q
applies_later op p q a =
    later_further p a.drained q (drained_later p a.drained a.drain) (subst (λ r. IsLaterPass a.drained r) (sym a.kept) (applied_later op a.drained))

pub last_later : (op : TimerOp) (n : ℕ) (p q r : PassView) (answer : Result (Unit {0}) OutOfMemory) → FoundFull n p q → OnOk answer (AppliesItself op q r)
    → OnErr answer (r ≡ q) → IsLaterPass p r
last_later op n p q r (Ok done) full applies same = later_further p q r (found_full_later n p q full) (applies_later op q r applies)
last_later op n p q r (Err refused) full applies same = subst (λ s. IsLaterPass p s) (sym same) (found_full_later n p q full)
