-- A member that did nothing but drain the queue of operations.
use Rattle.std.proofs.Common.{◌≡◌, ℕ, Bool, [], sym, ap, ◌∙◌, append-nil, arith}
use Rattle.aio_ops.specs.Passes.{PassView}
use Rattle.aio_shared.specs.Members.{IsLaterMember, MemberValue}
use Rattle.aio_shared.specs.OneCell.{ClaimValue, with_empties}
use Rattle.aio_shared.specs.TimerCalls.{PushedNothing}

pub drained_is_later : {N : Type 0} (faults : N → ℕ) (is_sure : N → Bool) (m later : MemberValue N) → later ≡ record m { ops = later.ops } → PushedNothing m.ops later.ops
    → IsLaterMember faults is_sure m later
drained_is_later {N} faults is_sure m later is pushed =
    let claim_is : later.claim ≡ m.claim = ap (λ (x : MemberValue N). x.claim) is in
    let notifier_is : later.notifier ≡ m.notifier = ap (λ (x : MemberValue N). x.notifier) is in
    let count : faults later.notifier ≡ faults m.notifier = ap faults notifier_is in
    let ids : later.ids ≡ m.ids = ap (λ (x : MemberValue N). x.ids) is in
    record {
      claim = claim_is ∙ (λ i. with_empties (sym (ap (λ (x : ClaimValue). x.empties) claim_is) i) m.claim);
      words = ap (λ (x : MemberValue N). x.pass.words) is;
      queue = ap (λ (x : PassView). x.queue) pushed.pass;
      number = ap (λ (x : PassView). x.number) pushed.pass;
      sure = ap is_sure notifier_is;
      did = ([], ap (λ (x : MemberValue N). x.pass.view.did) is ∙ sym (append-nil m.pass.view.did));
      own = ([], ap (λ (x : PassView). x.own) pushed.pass ∙ sym (append-nil m.ops.own));
      pulled = (pushed.entries, ap (λ (x : PassView). x.pulled) pushed.pass);
      fulls = pushed.fulls;
      empties = pushed.empties;
      ids = omega arith;
      notifier = omega arith;
    }
