-- The steps that a seed gives have spellings.
use Rattle.std.proofs.Common.{ℕ, zero, suc, ◌+◌, ◌*◌, ◌%◌, ◌≤◌, ◌^◌, ◌==◌, Bool, true, false, cond, nat_lt, List, ◌∷◌, refl, arith}
use Rattle.std.specs.List.{All}
use Rattle.aio_base.specs.declared.steps.Step.{Step}
use Rattle.aio_base.specs.declared.names.Dir.TheVariants.{Read, Write}
use Rattle.aio_base.specs.declared.names.TheConstants.Interest.{READ, WRITE, READ_WRITE}
use Rattle.aio_base.specs.Lines.{HasWord, FlagsHaveWord, HasSpelling}
use Rattle.aio_base.specs.Generated.{Generator, Generated, dir_drawn, interest_drawn, draw, first_generator, generated_by, generated_of, generated_steps, steps_from, after_draws}

-- so many steps more keep a generator's counts and its moment small
abbrev Fits : ℕ → Generator → Type 0
Fits n g = (g.listeners + n ≤ 999999) × (g.timers + n ≤ 999999) × (g.moment + 100 * n ≤ 10 ^ 8)

abbrev IsGiven : ℕ → Generated → Type 0
IsGiven n one = HasSpelling one.step × Fits n one.after

either : (n : ℕ) (t : Bool) (a b : Generated) → IsGiven n a → IsGiven n b → IsGiven n (cond t a b)
either n true a b is other = is
either n false a b other is = is

fewer : (n : ℕ) (g : Generator) → Fits (suc n) g → Fits n g
fewer n g fits = let l = fits.0 in let t = fits.1 in let m = fits.2 in (omega arith, omega arith, omega arith)

-- no direction that is drawn is Priority
either_word : (read : Bool) → HasWord (cond read Read Write)
either_word true = refl
either_word false = refl

dir_has_word : (n : ℕ) → HasWord (dir_drawn n)
dir_has_word n = either_word (n % 2 == 0)

either_words : (read write : Bool) → FlagsHaveWord (cond read READ (cond write WRITE READ_WRITE))
either_words true write = refl
either_words false true = refl
either_words false false = refl

interest_has_word : (n : ℕ) → FlagsHaveWord (interest_drawn n)
interest_has_word n = either_words (n % 3 == 0) (n % 3 == 1)

one_given : (kind n : ℕ) (g : Generator) → Fits (suc n) g → IsGiven n (generated_of kind g)
one_given kind n g fits =
    let l = fits.0 in let t = fits.1 in let m = fits.2 in
    let has_word = dir_has_word (draw 1 g.state) in
    either n (kind == 0) _ _ (tt, fewer n g fits)
    (either n (nat_lt kind 5) _ _ ((omega arith, has_word, omega arith), fewer n g fits)
    (either n (kind == 5) _ _ ((omega arith, has_word), (omega arith, omega arith, omega arith))
    (either n (kind == 6) _ _ ((omega arith, omega arith), fewer n g fits)
    (either n (kind == 7) _ _ (omega arith, fewer n g fits)
    (either n (kind == 8) _ _ (omega arith, (omega arith, omega arith, omega arith))
    (either n (kind == 9) _ _ ((omega arith, omega arith), fewer n g fits)
    (either n (kind == 10) _ _ (omega arith, fewer n g fits)
    (either n (kind == 11) _ _ (omega arith, (omega arith, omega arith, omega arith))
    (either n (nat_lt kind 14) _ _ ((omega arith, interest_has_word (draw 1 g.state)), fewer n g fits) (tt, fewer n g fits))))))))))

all_more : (s : Step) (steps : List Step) → HasSpelling s → All HasSpelling steps → All HasSpelling (s ∷ steps)
all_more s steps first others zero d within = first
all_more s steps first others (suc k) d within = others k d (omega arith)

all_given : (n : ℕ) (g : Generator) → Fits n g → All HasSpelling (steps_from n g)
all_given zero g fits = λ k d within. absurd (omega arith)
all_given (suc n) g fits =
    let one = one_given (draw 0 g.state % 16) n (after_draws 1 g) fits in
    all_more (generated_by g).step (steps_from n (generated_by g).after) one.0 (all_given n (generated_by g).after one.1)

pub all_spelled : (n seed : ℕ) → n ≤ 999999 → All HasSpelling (generated_steps n seed)
unfolding generated_steps
all_spelled n seed few = all_given n (first_generator seed) (omega arith, omega arith, omega arith)
