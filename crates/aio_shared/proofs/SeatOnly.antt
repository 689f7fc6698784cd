-- A member of which only its seat at the words and its notifier changed.
use Rattle.std.proofs.Common.{◌≡◌, ℕ, ◌≤◌, Bool, [], sym, ap, ◌∙◌, subst, append-nil, le_refl, arith}
use Rattle.aio_base.specs.Devices.{TellsFaults}
use Rattle.aio_shared.specs.Members.{Extends, IsLaterMember, MemberValue}
use Rattle.aio_shared.specs.OneCell.{ClaimValue, with_empties}

module _ {N : Type 0} (faults : N → ℕ) (is_sure : N → Bool) (m after : MemberValue N) (kept : after ≡ record m { pass = after.pass; notifier = after.notifier }) where
  -- such a member is later, where its seat went on and its notifier's count did not fall
  pub seat_later : after.pass.words ≡ m.pass.words → Extends m.pass.view.did after.pass.view.did → is_sure after.notifier ≡ is_sure m.notifier
      → faults m.notifier ≤ faults after.notifier → IsLaterMember faults is_sure m after
  seat_later words did sure count = let ids : after.ids ≡ m.ids = ap (λ (x : MemberValue N). x.ids) kept in
      let claim : after.claim ≡ m.claim = ap (λ (x : MemberValue N). x.claim) kept in
      let own = ap (λ (x : MemberValue N). x.ops) kept in
      record {
        claim = claim ∙ (λ i. with_empties (sym (ap (λ (x : ClaimValue). x.empties) claim) i) m.claim);
        words = words;
        queue = ap (λ o. o.queue) own;
        number = ap (λ o. o.number) own;
        sure = sure;
        did = did;
        own = ([], ap (λ o. o.own) own ∙ sym (append-nil m.ops.own));
        pulled = ([], ap (λ o. o.pulled) own ∙ sym (append-nil m.ops.pulled));
        fulls = subst (λ o. m.ops.fulls ≤ o.fulls) (sym own) (le_refl m.ops.fulls);
        empties = subst (λ o. m.ops.empties ≤ o.empties) (sym own) (le_refl m.ops.empties);
        ids = omega arith;
        notifier = count;
      }

  -- the same where the notifier tells of its faults
  pub told_later : {failed : Type 0} → after.pass.words ≡ m.pass.words → Extends m.pass.view.did after.pass.view.did
      → TellsFaults faults is_sure m.notifier after.notifier failed → IsLaterMember faults is_sure m after
  told_later words did t = seat_later words did t.sure t.cause.later
