-- How a name holds its bytes.
use Rattle.std.proofs.Common.{◌≡◌, ℕ, ◌-◌, true, List, ◌++◌, length, take, drop, replicate, sym, ap, ◌∙◌}
use Rattle.std.proofs.Math.Seq.{take-append_seam}
use Rattle.std.proofs.lemmas.List.{drop-replicate}
use Rattle.aio_tasks.specs.Names.{IsName, is_name}

-- the bytes, with zeros behind them up to sixteen: the front of so many is the bytes, and they are a name
pub padded : (x bytes : List ℕ) → x ≡ bytes → IsName bytes
    → (x ++ drop (length bytes) (replicate 16 0) ≡ take (length bytes) (x ++ drop (length bytes) (replicate 16 0)) ++ replicate (16 - length bytes) 0)
    × (length (take (length bytes) (x ++ drop (length bytes) (replicate 16 0))) ≡ length bytes)
    × (is_name (take (length bytes) (x ++ drop (length bytes) (replicate 16 0))) ≡ true)
padded x bytes same name =
    let rest = drop (length bytes) (replicate 16 0) in
    let front : take (length bytes) (x ++ rest) ≡ bytes = ap (λ y. take (length bytes) (y ++ rest)) same ∙ take-append_seam bytes rest in (
      ap (λ y. y ++ rest) same ∙ ap (λ y. bytes ++ y) (drop-replicate (length bytes) 16 0) ∙ ap (λ y. y ++ replicate (16 - length bytes) 0) (sym front),
      ap length front,
      ap is_name front ∙ name,
    )
