-- Which words ask for a relay, and for which.
use Rattle.std.specs.Prelude.{◌≡◌, ℕ, ◌*◌, ◌^◌, ◌≤◌, List, [], ◌∷◌, Some, codes}
use Rattle.aio_base.specs.Lines.{numeral}
use Rattle.aio_line.specs.declared.words.RelayOrder.{RelayOrder}

-- a word spells this number, in decimal digits, and the number is at most so great
abbrev pub SpellsUpTo : ℕ → ℕ → List ℕ → Type 0
SpellsUpTo most n word = (numeral word ≡ Some n) × (n ≤ most)

-- the same of a number that is also at least so great
abbrev pub SpellsFromTo : ℕ → ℕ → ℕ → List ℕ → Type 0
SpellsFromTo least most n word = SpellsUpTo most n word × (least ≤ n)

-- the most workers that a relay may have
abbrev pub most_workers : ℕ
most_workers = 16

-- the most pairs of one worker
abbrev pub pairs_of_worker : ℕ
pairs_of_worker = 64

-- what a relay can be asked for: its idle time is 1 to 10^18 nanoseconds, it has 1 worker at least, and as many pairs as its workers can have, 1 at least
pub record IsServable (order : RelayOrder) : Type 0 where
  pub some_workers : 1 ≤ order.workers
  pub few_workers : order.workers ≤ most_workers
  pub some_idle : 1 ≤ order.idle
  pub bounded_idle : order.idle ≤ 10 ^ 18
  pub some_pairs : 1 ≤ order.pairs
  pub few_pairs : order.pairs ≤ pairs_of_worker * order.workers

-- the words `relay PORT WORKERS IDLE PAIRS`, each number in its range
abbrev pub IsRelay : RelayOrder → List (List ℕ) → Type 0
IsRelay order (name ∷ port ∷ workers ∷ idle ∷ pairs ∷ []) = (name ≡ codes "relay") × SpellsUpTo 65535 order.port port
    × SpellsFromTo 1 most_workers order.workers workers × SpellsFromTo 1 (10 ^ 18) order.idle idle
    × SpellsFromTo 1 (pairs_of_worker * order.workers) order.pairs pairs
IsRelay order _ = ⊥
