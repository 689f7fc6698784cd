-- A source that is taken out of the list of broken ones is not broken.
use Rattle.std.proofs.Common.{◌≡◌, ℕ, true, false, not, ◌==◌, List, ap, ◌∙◌, sym}
use Rattle.std.specs.List.{list_any}
use Rattle.aio_base.specs.World.{BrokenSource, without_broken}
use Rattle.aio_base.proofs.Membership.{any_gives, filtered_passes}
use Rattle.aio_base.proofs.Searching.{false_unless}

-- a source that is taken out of the broken ones is not broken
pub without_unbroken : (broken : List BrokenSource) (serial : ℕ) → list_any (λ (b : BrokenSource). b.serial == serial) (without_broken broken serial) ≡ false
without_unbroken broken serial =
    false_unless (list_any (λ (b : BrokenSource). b.serial == serial) (without_broken broken serial)) (λ some.
    let at = any_gives (λ (b : BrokenSource). b.serial == serial) (without_broken broken serial) some in
    let kept = filtered_passes (λ (b : BrokenSource). not (b.serial == serial)) broken at.0 at.1 in
    let wrong : false ≡ true = sym (ap not at.2) ∙ kept in cc)
