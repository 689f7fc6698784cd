-- How many events of the first keys there are.
use Rattle.std.proofs.Common.{◌≡◌, ℕ, ◌+◌, ◌++◌, zero, suc, [], ◌∷◌, length, refl, arith}
use Rattle.std.proofs.lemmas.List.{length_push}
use Rattle.aio_devices.specs.Waits.{read_write_of, key_events}

-- one for each key
pub length-key_events : (n : ℕ) → length (key_events n) ≡ n
length-key_events zero = refl
length-key_events (suc n) =
    let pushed : length (key_events n ++ read_write_of n ∷ []) ≡ length (key_events n) + 1 = length_push (key_events n) (read_write_of n) in
    let before : length (key_events n) ≡ n = length-key_events n in
    let both : length (key_events n ++ read_write_of n ∷ []) ≡ suc n = omega arith in
    both
