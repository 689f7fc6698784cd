-- Two remembered numbers tell freshness: the number of rounds begun when a waiter was stored, against the greatest round that has handled an
-- event of its direction, says whether a round that began later has handled one.
use Rattle.std.proofs.Common.{◌≡◌, ◌≢◌, ℕ, ◌<◌, ◌≤◌, Bool, true, false, ◌&&◌, ◌||◌, if◌then◌else◌, nat_lt, List, [], ◌∷◌, max, length, sym, ap, ◌∙◌, arith, ⊎_elim}
use Rattle.std.proofs.lemmas.Bool.{cases_eq, cases_lt}
use Rattle.std.proofs.lemmas.Bool.Decides.{nat_tests}
use Rattle.aio_base.specs.declared.names.Dir.{Dir}
use Rattle.aio_base.specs.World.{HandledDirection, is_of, is_fresh}
use Rattle.aio_base.specs.Rounds.{rounds_at, last_tick, HasBegun, AllBegun}

pub rounds_at-mono : (begun : List ℕ) (p q : ℕ) → p ≤ q → rounds_at begun p ≤ rounds_at begun q
rounds_at-mono [] p q le = omega arith
rounds_at-mono (b ∷ begun) p q le = let rest = rounds_at-mono begun p q le in grind (arith, nat_tests)

pub rounds_at-more : (begun : List ℕ) (p q : ℕ) → HasBegun q begun → p < q → rounds_at begun p < rounds_at begun q
rounds_at-more [] p q among lt = absurd among
rounds_at-more (b ∷ begun) p q among lt =
    ⊎_elim
    (λ (same : b ≡ q). let rest = rounds_at-mono begun p q (omega arith) in grind (arith, nat_tests))
    (λ (other : b ≢ q). let rest = rounds_at-more begun p q (among other) lt in grind (arith, nat_tests))
    (cases_eq b q)

nat_lt-max : (a x y : ℕ) → nat_lt a (max x y) ≡ nat_lt a x || nat_lt a y
nat_lt-max a x y = grind (arith, nat_tests)

-- a later position and a greater number of rounds are one thing, where a round began at the position
later_is_more : (begun : List ℕ) (p q : ℕ) → HasBegun q begun → nat_lt p q ≡ nat_lt (rounds_at begun p) (rounds_at begun q)
later_is_more begun p q among =
    ⊎_elim
    (λ (lt : p < q). let more = rounds_at-more begun p q among lt in grind (arith, nat_tests))
    (λ (ge : q ≤ p). let fewer = rounds_at-mono begun q p ge in grind (arith, nat_tests))
    (cases_lt p q)

fresh_step : (mine later rest : Bool) (a x last : ℕ) → later ≡ nat_lt a x → rest ≡ nat_lt a last
    → (mine && later) || rest ≡ nat_lt a (max (if mine then x else 0) last)
fresh_step true later rest a x last e f = ap (λ t. t || rest) e ∙ ap (λ t. nat_lt a x || t) f ∙ sym (nat_lt-max a x last)
fresh_step false later rest a x last e f = f ∙ grind (arith, nat_tests)

pub is_fresh-ticks : (begun : List ℕ) (handled : List HandledDirection) (serial : ℕ) (dir : Dir) (p : ℕ) → AllBegun handled begun
    → is_fresh handled serial dir p ≡ nat_lt (rounds_at begun p) (last_tick begun handled serial dir)
is_fresh-ticks begun [] serial dir p all = grind (arith, nat_tests)
is_fresh-ticks begun (h ∷ handled) serial dir p all =
    fresh_step _ _ _ _ _ _ (later_is_more begun p h.begin all.0) (is_fresh-ticks begun handled serial dir p all.1)

-- no more rounds than have begun
pub rounds_at-bound : (begun : List ℕ) (p : ℕ) → rounds_at begun p ≤ length begun
rounds_at-bound [] p = omega arith
rounds_at-bound (b ∷ begun) p = let rest = rounds_at-bound begun p in grind (arith, nat_tests)

bounded : (mine : Bool) (x y n : ℕ) → x ≤ n → y ≤ n → max (if mine then x else 0) y ≤ n
bounded true x y n p q = omega arith
bounded false x y n p q = omega arith

pub last_tick-bound : (begun : List ℕ) (handled : List HandledDirection) (serial : ℕ) (dir : Dir) → last_tick begun handled serial dir ≤ length begun
last_tick-bound begun [] serial dir = omega arith
last_tick-bound begun (h ∷ handled) serial dir =
    let rest = last_tick-bound begun handled serial dir in
    let first = rounds_at-bound begun h.begin in
    bounded (is_of serial dir h.serial h.dir) (rounds_at begun h.begin) (last_tick begun handled serial dir) (length begun) first rest

both_above : (a b tick : ℕ) → b ≤ a → nat_lt a tick ≡ nat_lt a tick && nat_lt b tick
both_above a b tick le = grind (arith, nat_tests)

-- The same with both numbers that a reactor remembers: the rounds begun when the waiter was stored, and the last round of the direction then,
-- which is no greater.
pub is_fresh-remembered : (begun : List ℕ) (handled : List HandledDirection) (serial : ℕ) (dir : Dir) (p second : ℕ) → AllBegun handled begun
    → second ≤ rounds_at begun p → is_fresh handled serial dir p
    ≡ nat_lt (rounds_at begun p) (last_tick begun handled serial dir) && nat_lt second (last_tick begun handled serial dir)
is_fresh-remembered begun handled serial dir p second all le =
    is_fresh-ticks begun handled serial dir p all ∙ both_above (rounds_at begun p) second (last_tick begun handled serial dir) le
