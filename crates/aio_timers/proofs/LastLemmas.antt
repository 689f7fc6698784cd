-- Ids of registrations up to a greatest one.
use Rattle.std.proofs.Common.{◌≡◌, ℕ, ◌<◌, ◌≤◌, false, not, max, List, arith}
use Rattle.std.specs.List.{All}
use Rattle.std.proofs.lemmas.Bool.Decides.{nat_tests}
use Rattle.std.proofs.lemmas.List.Elements.{All-filter, All-weaker}
use Rattle.aio_base.specs.World.{Registration}
use Rattle.aio_base.specs.Timers.{placed, is_pair, without_pair}
use Rattle.aio_timers.specs.Sound.{HasIdsTo}
use Rattle.aio_timers.proofs.BookLemmas.{IsOther, All-placed}
use Rattle.aio_timers.proofs.WeightLemmas.{placed-rest}

other-id : (d i : ℕ) (r : Registration) → r.id < i → is_pair d i r ≡ false
other-id d i r lt = grind (arith, nat_tests)

-- a later id is not there
pub none-past : (last d i : ℕ) (book : List Registration) → last < i → HasIdsTo last book → All (IsOther d i) book
none-past last d i book lt all = All-weaker (λ (r : Registration). r.id ≤ last) (IsOther d i) (λ r le. other-id d i r (omega (arith, le, lt))) book all

pub ids-more : (last i : ℕ) (book : List Registration) → HasIdsTo last book → HasIdsTo (max last i) book
ids-more last i book all = All-weaker (λ (r : Registration). r.id ≤ last) (λ (r : Registration). r.id ≤ max last i) (λ r le. omega (arith, le)) book all

pub ids-placed : (last : ℕ) (r : Registration) (book : List Registration) → r.id ≤ last → HasIdsTo last book → HasIdsTo last (placed r book)
ids-placed last r book le all = All-placed (λ (x : Registration). x.id ≤ last) r book le all

pub ids-rest : (last : ℕ) (r : Registration) (book : List Registration) → HasIdsTo last (placed r book) → HasIdsTo last book
ids-rest last r book all = placed-rest (λ (x : Registration). x.id ≤ last) r book all

pub ids-without : (last d i : ℕ) (book : List Registration) → HasIdsTo last book → HasIdsTo last (without_pair d i book)
ids-without last d i book all = All-filter (λ (r : Registration). not (is_pair d i r)) (λ (x : Registration). x.id ≤ last) book all
