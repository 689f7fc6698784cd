-- Later states of a host follow one another.
use Rattle.std.proofs.Common.{ℕ, Bool, List, [], ◌++◌, refl, sym, ap, ◌∙◌, append-nil, append_assoc, le_refl, le_trans}
use Rattle.aio_shared.specs.OneCell.{with_empties}
use Rattle.aio_shared.specs.Members.{Extends, IsLaterMember, MemberValue}
use Rattle.aio_shared.specs.Inside.{InsideValue, IsLaterInside}

pub extends_itself : {X : Type 0} (xs : List X) → Extends xs xs
extends_itself xs = ([], sym (append-nil xs))

pub extends_further : {X : Type 0} (xs ys zs : List X) → Extends xs ys → Extends ys zs → Extends xs zs
extends_further xs ys zs (more, first) (yet, second) = (more ++ yet, second ∙ ap (λ l. l ++ yet) first ∙ append_assoc xs more yet)

module _ {N : Type 0} (faults : N → ℕ) (is_sure : N → Bool) where
  member_itself : (m : MemberValue N) → IsLaterMember faults is_sure m m
  member_itself m = record {
    claim = refl;
    words = refl;
    queue = refl;
    number = refl;
    sure = refl;
    did = extends_itself m.pass.view.did;
    own = extends_itself m.ops.own;
    pulled = extends_itself m.ops.pulled;
    fulls = le_refl m.ops.fulls;
    empties = le_refl m.ops.empties;
    ids = le_refl m.ids;
    notifier = le_refl (faults m.notifier);
  }

  member_further : (a b c : MemberValue N) → IsLaterMember faults is_sure a b → IsLaterMember faults is_sure b c → IsLaterMember faults is_sure a c
  member_further a b c x y = record {
    claim = y.claim ∙ ap (with_empties c.claim.empties) x.claim;
    words = y.words ∙ x.words;
    queue = y.queue ∙ x.queue;
    number = y.number ∙ x.number;
    sure = y.sure ∙ x.sure;
    did = extends_further a.pass.view.did b.pass.view.did c.pass.view.did x.did y.did;
    own = extends_further a.ops.own b.ops.own c.ops.own x.own y.own;
    pulled = extends_further a.ops.pulled b.ops.pulled c.ops.pulled x.pulled y.pulled;
    fulls = le_trans x.fulls y.fulls;
    empties = le_trans x.empties y.empties;
    ids = le_trans x.ids y.ids;
    notifier = le_trans x.notifier y.notifier;
  }

  pub later_itself : (i : InsideValue N) → IsLaterInside faults is_sure i i
  later_itself i = record { shared = refl; member = member_itself i.member }

  pub later_further : (a b c : InsideValue N) → IsLaterInside faults is_sure a b → IsLaterInside faults is_sure b c → IsLaterInside faults is_sure a c
  later_further a b c x y = record { shared = y.shared ∙ x.shared; member = member_further a.member b.member c.member x.member y.member }
