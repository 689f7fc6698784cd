-- What drains leave of a seat, one after the other.
use Rattle.std.proofs.Common.{◌≡◌, ℕ, List, [], ◌++◌, sym, ap, ◌∙◌, subst, append-nil, append_assoc, le_refl, le_trans, arith}
use Rattle.aio_ops.specs.Passes.{PassView, Drained}
use Rattle.aio_rules.specs.declared.operations.OpEntry.{OpEntry}
use Rattle.aio_timers.specs.declared.op.TimerOp.{TimerOp}
use Rattle.aio_shared.specs.TimerCalls.{PushedNothing}

abbrev with_pulled : PassView → List (OpEntry TimerOp) → ℕ → ℕ → PassView
with_pulled p pulled fulls empties = record p { pulled = pulled; fulls = fulls; empties = empties }

pub pushed_nothing_itself : (p : PassView) → PushedNothing p p
pushed_nothing_itself p = record { entries = []; pass = λ i. with_pulled p (sym (append-nil p.pulled) i) p.fulls p.empties; fulls = le_refl p.fulls; empties = le_refl p.empties }

pub untouched_pushed_nothing : (p q : PassView) → q ≡ p → PushedNothing p q
untouched_pushed_nothing p q same = subst (λ (r : PassView). PushedNothing p r) (sym same) (pushed_nothing_itself p)

pub drained_pushed_nothing : (p q : PassView) → Drained p q → PushedNothing p q
drained_pushed_nothing p q d = let fulls : q.fulls ≡ p.fulls = ap (λ (r : PassView). r.fulls) d.pass in record {
  entries = d.entries;
  pass = d.pass ∙ (λ i. with_pulled p (p.pulled ++ d.entries) (sym fulls i) q.empties);
  fulls = omega arith;
  empties = d.empties;
}

pub pushed_nothing_further : (p q r : PassView) → PushedNothing p q → PushedNothing q r → PushedNothing p r
pushed_nothing_further p q r x y = record {
  entries = x.entries ++ y.entries;
  pass = y.pass ∙ ap (λ (z : PassView). record z { pulled = z.pulled ++ y.entries; fulls = r.fulls; empties = r.empties }) x.pass
      ∙ (λ i. with_pulled p (append_assoc p.pulled x.entries y.entries i) r.fulls r.empties);
  fulls = le_trans x.fulls y.fulls;
  empties = le_trans x.empties y.empties;
}
