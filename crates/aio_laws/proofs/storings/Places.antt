-- The places at which wakers are stored, and what is held at each of them.
use Rattle.std.proofs.Common.{◌≡◌, ◌≢◌, true, false, cond, ◌==◌, Option, None, Some, refl, ap, ◌∙◌, subst}
use Rattle.std.proofs.lemmas.Bool.{and_parts, and_from, eqb-true, eq-eqb}
use Rattle.aio_base.specs.declared.names.Waker.{Waker}
use Rattle.aio_base.specs.World.{same_dir}
use Rattle.aio_laws.specs.Storings.{Place, OfPoll, OfListener, OfTimer, same_place}
use Rattle.aio_base.proofs.Searching.{false_unless}
use Rattle.aio_base.proofs.DirectionLemmas.{same_dir-eq, same_dir-from}

pub same_place-eq : (p q : Place) → same_place p q ≡ true → p ≡ q
same_place-eq (OfPoll s d) (OfPoll t e) same =
    let parts = and_parts (s == t) (same_dir d e) same in
    ap (λ n. OfPoll n d) (eqb-true s t parts.0) ∙ ap (OfPoll t) (same_dir-eq d e parts.1)
same_place-eq (OfListener m) (OfListener n) same = ap OfListener (eqb-true m n same)
same_place-eq (OfTimer m) (OfTimer n) same = ap OfTimer (eqb-true m n same)
same_place-eq p q same = absurd cc

pub same_place-refl : (p : Place) → same_place p p ≡ true
same_place-refl (OfPoll s d) = and_from (s == s) (same_dir d d) (eq-eqb s s refl) (same_dir-from d d refl)
same_place-refl (OfListener n) = eq-eqb n n refl
same_place-refl (OfTimer n) = eq-eqb n n refl

pub same_place-from : (p q : Place) → p ≡ q → same_place p q ≡ true
same_place-from p q e = subst (λ r. same_place p r ≡ true) e (same_place-refl p)

pub same_place-not : (p q : Place) → p ≢ q → same_place p q ≡ false
same_place-not p q apart = false_unless (same_place p q) (λ same. apart (same_place-eq p q same))

pub other_place : (p q : Place) → same_place p q ≡ false → p ≢ q
other_place p q other same = let yes = same_place-from p q same in cc

-- what is held at each place
abbrev pub Holder : Type 0
Holder = Place → Option Waker

-- where nothing is held at a place any longer
abbrev pub emptied : Place → Holder → Holder
emptied p at q = cond (same_place q p) None (at q)

abbrev pub filled : Place → Waker → Holder → Holder
filled p waker at q = cond (same_place q p) (Some waker) (at q)
