-- The order of registrations, by deadline and then by id.
use Rattle.std.proofs.Common.{◌≡◌, ◌≤◌, true, false, arith}
use Rattle.std.proofs.lemmas.Bool.Decides.{nat_tests}
use Rattle.aio_base.specs.World.{Registration}
use Rattle.aio_base.specs.Timers.{fires_before, is_pair}

-- no two registrations fire before each other, and none before itself
pub fires_before-asym : (a b : Registration) → fires_before a b ≡ true → fires_before b a ≡ false
fires_before-asym a b h = grind (arith, nat_tests)

pub fires_before-trans : (a b c : Registration) → fires_before a b ≡ true → fires_before b c ≡ true → fires_before a c ≡ true
fires_before-trans a b c h k = grind (arith, nat_tests)

-- of two registrations of other deadlines or ids one fires before the other
pub fires_before-total : (a b : Registration) → fires_before a b ≡ false → is_pair b.deadline b.id a ≡ false → fires_before b a ≡ true
fires_before-total a b h k = grind (arith, nat_tests)

-- the deadlines of registrations in order do not fall
pub fires_before-le : (a b : Registration) → fires_before a b ≡ true → a.deadline ≤ b.deadline
fires_before-le a b h = grind (arith, nat_tests)
