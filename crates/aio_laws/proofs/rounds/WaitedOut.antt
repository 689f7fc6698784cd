-- Which steps make a pass: the test of the machine is that of the definition.
use Rattle.std.proofs.Common.{◌≡◌, ◌≢◌, ◌⊎◌, ◌↔◌, ℕ, Bool, true, false, not, ◌&&◌, List, [], ◌∷◌, Option, None, Some, is_some, refl, ap, ◌∙◌, inl, inr}
use Rattle.std.proofs.lemmas.Bool.{ne_eqb}
use Rattle.aio_base.specs.declared.steps.Step.{Step}
use Rattle.aio_base.specs.declared.steps.Step.TheVariants as step
use Rattle.aio_base.specs.World.{PollerAnswer, Succeeds, Gives, IsInterrupted, Fails, RoundState, World, is_empty_list}
use Rattle.aio_base.specs.Machine.{gave_none, is_zero, makes_second_pass, ends_with_pass}
use Rattle.aio_laws.specs.Between.{IsWaitedOut, MakesPass}

both_true : (a b : Bool) → (a && b) ≡ true → (a ≡ true) × (b ≡ true)
both_true true b both = (refl, both)
both_true false b both = absurd cc

true_both : (a b : Bool) → a ≡ true → b ≡ true → (a && b) ≡ true
true_both true b first second = second
true_both false b first second = absurd cc

none_given : (last : Option PollerAnswer) → gave_none last ≡ true → (last ≡ Some (Gives [])) ⊎ (last ≡ Some Succeeds)
none_given None none = absurd cc
none_given (Some Succeeds) none = inr refl
none_given (Some (Gives [])) none = inl refl
none_given (Some (Gives (event ∷ events))) none = absurd cc
none_given (Some IsInterrupted) none = absurd cc
none_given (Some Fails) none = absurd cc

given_none : (last : Option PollerAnswer) → (last ≡ Some (Gives [])) ⊎ (last ≡ Some Succeeds) → gave_none last ≡ true
given_none last (inl none) = ap gave_none none
given_none last (inr none) = ap gave_none none

not_zero : (limit : Option ℕ) → not (is_zero limit) ≡ true → limit ≢ Some 0
not_zero limit above none = let wrong : not (is_zero limit) ≡ false = ap (λ l. not (is_zero l)) none in cc

above_zero : (limit : Option ℕ) → limit ≢ Some 0 → not (is_zero limit) ≡ true
above_zero None other = refl
above_zero (Some n) other = ap not (ne_eqb n 0 (λ (same : n ≡ 0). other (ap Some same)))

empty_is : {X : Type 0} (xs : List X) → is_empty_list xs ≡ true → xs ≡ []
empty_is [] empty = refl
empty_is (x ∷ xs) empty = absurd cc

-- the machine's test of a second pass
pub second_pass_is : (round : RoundState) → ((round.in_hand ≡ []) × (makes_second_pass round.last_wait round.limit ≡ true)) ↔ IsWaitedOut round
second_pass_is round = (
  (λ passes.
      let both = both_true (gave_none round.last_wait) (not (is_zero round.limit)) passes.1 in
      record { hand = passes.0; waited = none_given round.last_wait both.0; limit = not_zero round.limit both.1 }),
  (λ out. (out.hand, true_both (gave_none round.last_wait) (not (is_zero round.limit)) (given_none round.last_wait out.waited) (above_zero round.limit out.limit))),
)

-- the machine's test of a pass
abbrev pub makes_pass : World → Step → Bool
makes_pass w (step.Begin limit) = not (is_some w.round)
makes_pass w step.Finish = ends_with_pass w.round
makes_pass w step.React = not (is_some w.round)
makes_pass w _ = false

none_runs : (round : Option RoundState) → not (is_some round) ≡ true → round ≡ None
none_runs None none = refl
none_runs (Some round) none = absurd cc

ends_waited_out : (round : Option RoundState) → ends_with_pass round ≡ true → (r : RoundState) × (round ≡ Some r) × IsWaitedOut r
ends_waited_out None ends = absurd cc
ends_waited_out (Some round) ends =
    let both = both_true (is_empty_list round.in_hand) (makes_second_pass round.last_wait round.limit) ends in
    (round, refl, (second_pass_is round).0 (empty_is round.in_hand both.0, both.1))

waited_out_ends : (r : RoundState) → IsWaitedOut r → ends_with_pass (Some r) ≡ true
waited_out_ends r out =
    let passes = (second_pass_is r).1 out in
    true_both (is_empty_list r.in_hand) (makes_second_pass r.last_wait r.limit) (ap is_empty_list passes.0) passes.1

pub pass_is_made : (w : World) (s : Step) → MakesPass w s → makes_pass w s ≡ true
pass_is_made w (step.Begin given) passes = ap (λ r. not (is_some r)) passes
pass_is_made w step.Finish passes = ap ends_with_pass passes.1 ∙ waited_out_ends passes.0 passes.2
pass_is_made w step.React passes = ap (λ r. not (is_some r)) passes
pass_is_made w _ passes = absurd passes

pub made_pass_is : (w : World) (s : Step) → makes_pass w s ≡ true → MakesPass w s
made_pass_is w (step.Begin given) passes = none_runs w.round passes
made_pass_is w step.Finish passes = ends_waited_out w.round passes
made_pass_is w step.React passes = none_runs w.round passes
made_pass_is w _ passes = absurd cc
