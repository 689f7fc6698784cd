use Rattle.std.proofs.Common.{rules, ◌/◌, ◌≤◌, ℕ, Bool, Ok, refl, sym, ap, ◌∙◌, subst}
use Rattle.aio_rules.specs.WordCalls.{Found, wins}
use Rattle.aio_words.specs.Calls.{Called}
use Rattle.aio_words.proofs.Waking.{found, no_steps, untouched}
use Rattle.aio_words.proofs.words.Words.wake.Goals as goal

pub returns-then-parker-self-clause-woke : goal.returns-then-parker-self-clause-woke
returns-then-parker-self-clause-woke g c = let n : ℕ = c.args.self.now.parkers in let w : ℕ = c.args.w.0 in let f : Found = found 0 0 0 0 0 in
    let none : n ≤ w / 64 = subst (λ (k : ℕ). k ≤ w / 64) (sym c.self.invariant.told ∙ ap (λ x. x.parkers) c.self.view_is) c.if-parker-self.true in record {
      found = f;
      did = untouched w n none f c.args.p.now.view;
      called = subst (λ (b : Bool). Called g.N.Notify.call_count g.N.Notify.notify_step b c.args.n.now c.args.n.now (Ok tt)) (sym (ap wins (no_steps w n none f))) (refl, search rules);
    }
