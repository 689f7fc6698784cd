-- Bytes behind others in a buffer.
use Rattle.std.proofs.Common.{◌≡◌, ℕ, ◌+◌, ◌++◌, List, length, take, drop, ap, ◌∙◌, subst}
use Rattle.std.proofs.Math.Seq.{drop-append_seam, take-append-add}

-- behind a front, so many of what follows it
pub behind_front : (front rest : List ℕ) (count more : ℕ) → length front ≡ count → drop count (take (count + more) (front ++ rest)) ≡ take more rest
behind_front front rest count more is =
    subst (λ n. drop n (take (n + more) (front ++ rest)) ≡ take more rest) is
    (ap (drop (length front)) (take-append-add front rest more) ∙ drop-append_seam front (take more rest))
