use Rattle.std.proofs.Common.{length, sym, subst}
use Rattle.aio_jobs.specs.Dealing.{HaveShares}
use Rattle.aio_jobs.proofs.Turns.{shares_with_one}
use Rattle.aio_jobs.proofs.rows.Rows.put_first.Goals as goal

pub returns-clause-shares : goal.returns-clause-shares
returns-clause-shares g c total have = shares_with_one (λ row. row.items) c.self.inside.rows.items c.pop_back.new.self.items c.in-Some.row c.push_front.new.self
    c.args.x c.push_front_reserved.new.self.items c.in-Some.ensures.items c.in-Ok.ensures.items c.push_front_reserved.ensures.items total
    (subst (λ rows. HaveShares total (length rows) 0 rows) (sym c.self.view_is) have)
