use Rattle.std.proofs.Common.{arith, ◌≡◌, ℕ, List, [], ◌∷◌, length, ap, refl, subst, sym, ◌∙◌}
use Rattle.std.specs.List.{AllZip}
use Rattle.std.specs.List.Sorted.{IsNonDecreasing}
use Rattle.aio_devices.specs.Clocks.{ClockValue, bounds_of}
use Rattle.aio_devices.proofs.clock.MemClockClock.twin.Goals as goal

same_items : {X : Type 0} (xs ys : List X) → AllZip (λ x y. y ≡ x) xs ys → ys ≡ xs
same_items [] [] alike = refl
same_items [] (y ∷ ys) alike = absurd alike
same_items (x ∷ xs) [] alike = absurd alike
same_items (x ∷ xs) (y ∷ ys) alike = rw (alike.0, same_items xs ys alike.1) refl

abbrev new_clock : List ℕ → ClockValue
new_clock moments = record { moments = moments; next = 0 }

-- the copy has the same moments
pub returns-in-Ok : goal.returns-in-Ok
returns-in-Ok c =
    let moments = same_items c.self.inside.moments.items c.in-Ok.moments.items c.in-Ok.ensures.cases.0 ∙ ap (λ (clock : ClockValue). clock.moments) c.self.view_is in
    record { bounds = ap bounds_of moments; anew = ap new_clock moments }

pub invariant_of-result : goal.invariant_of-result
invariant_of-result c =
    let same = same_items c.self.inside.moments.items c.in-Ok.moments.items c.in-Ok.ensures.cases.0 in
    (omega (arith, c.self.invariant.0, ap length same), subst IsNonDecreasing (sym same) c.self.invariant.1)
