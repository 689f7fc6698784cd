use Rattle.std.proofs.Common.{◌≡◌, ◌+◌, [], ◌∷◌, ◌++◌, length, sym, ap, ◌∙◌, subst, append-nil, append_assoc, arith, rules}
use Rattle.aio_jobs.specs.Dealing.{HaveShares}
use Rattle.aio_jobs.proofs.rows.deal.Goals as goal

pub loop-last-init : goal.loop-last-init
loop-last-init g c = record {
  dealt = [];
  items = sym (append-nil c.args.items.items);
  given = c.in_ok-rows.ensures.over;
  rows = c.in_ok-rows.ensures.rows;
  shares = c.in_ok-rows.ensures.shares;
}

pub loop-last-preserved : goal.loop-last-preserved
loop-last-preserved g c =
    let kept = c.loop-last.invariant in
    let put = c.in_ok-put_first.ensures in
    let new = c.put_first.new.self in
    let rows : length new ≡ c.args.count = put.rows ∙ kept.rows in
    let more : length kept.dealt + 1 ≡ length (c.in-Some.last ∷ kept.dealt) = omega arith in
    record {
      dealt = c.in-Some.last ∷ kept.dealt;
      items = kept.items ∙ ap (λ items. items ++ kept.dealt) c.in-Some.ensures.items ∙ append_assoc c.pop.new.self.items (c.in-Some.last ∷ []) kept.dealt;
      given = put.first kept.dealt kept.given;
      rows = rows;
      shares = subst (λ total. HaveShares total c.args.count 0 new) more (subst (λ count. HaveShares (length kept.dealt + 1) count 0 new) rows
          (put.shares (length kept.dealt) (subst (λ count. HaveShares (length kept.dealt) count 0 c.loop-last.rows) (sym kept.rows) kept.shares)));
    }

pub put_first-requires : goal.put_first-requires
put_first-requires g c = search rules

pub returns-clause-rows : goal.returns-clause-rows
returns-clause-rows g c = search rules
