-- Worked lines and ends of pairs, as checks of the definitions.
use Rattle.std.proofs.Common.{◌≡◌, true, false, [], ◌∷◌, Some, refl, arith, inl, inr}
use Rattle.std.proofs.lemmas.Bool.{true≢false}
use Rattle.aio_pairs.specs.Fits.{ToGive, Fits}
use Rattle.aio_pairs.specs.Lines.{lines, lines_behind, unfinished}
use Rattle.aio_pairs.specs.declared.outcomes.PairEnd.TheVariants.{Ended, Idle, WriteFault}

-- `x`, a line feed, an empty line, and `yz` without a line feed
two_lines : lines (120 ∷ 10 ∷ 10 ∷ 121 ∷ 122 ∷ []) ≡ 120 ∷ 10 ∷ 10 ∷ []
two_lines = refl

torn_line_is_left : unfinished (120 ∷ 10 ∷ 10 ∷ 121 ∷ 122 ∷ []) ≡ 121 ∷ 122 ∷ []
torn_line_is_left = refl

-- with at most two bytes a line, `xy` and its line feed are too long, and so the next line does not count
stops_at_a_long_line : lines_behind 2 [] (120 ∷ 10 ∷ 120 ∷ 121 ∷ 10 ∷ 120 ∷ 10 ∷ []) ≡ 120 ∷ 10 ∷ []
stops_at_a_long_line = refl

counts_what_stands_before : lines_behind 2 (120 ∷ []) (10 ∷ 10 ∷ []) ≡ 120 ∷ 10 ∷ 10 ∷ []
counts_what_stands_before = refl

-- one side has `ab`, a line feed and `cd` to give, and the other one, of which 7 bytes were written, nothing more
abbrev talker : ToGive
talker = record { forwarded = 0; further = Some (97 ∷ 98 ∷ 10 ∷ 99 ∷ 100 ∷ []); ends = true; is_sure = true; is_prompt = false }

abbrev listener : ToGive
listener = record { forwarded = 7; further = Some []; ends = true; is_sure = true; is_prompt = true }

lines_alone : Fits talker listener 0 0 1000 true (Ended 7 3)
lines_alone = ((refl, refl), (refl, refl))

not_the_torn_line : ¬ Fits talker listener 0 0 1000 true (Ended 7 5)
not_the_torn_line fits = omega (arith, fits.1.1)

not_the_other_way_round : ¬ Fits talker listener 0 0 1000 true (Ended 3 7)
not_the_other_way_round fits = omega (arith, fits.0.1)

sure_ends_never_fail : ¬ Fits talker listener 0 0 1000 true (WriteFault (record { before = 0; after = 1 }))
sure_ends_never_fail fits = elim fits [ inl a ↦ true≢false a | inr b ↦ true≢false b ]

idle_not_too_early : ¬ Fits talker listener 0 2000 1000 true (Idle 1001 2000)
idle_not_too_early fits = omega (arith, fits.1)

idle_not_before_it_began : ¬ Fits talker listener 500 2000 1000 true (Idle 499 2000)
idle_not_before_it_began fits = omega (arith, fits.2)
