-- Runs of one byte at the front of a text: of blanks, which part nothing, and of zeros, which stand for nothing.
use Rattle.std.proofs.Common.{◌≡◌, ℕ, zero, suc, ◌+◌, ◌-◌, ◌%◌, ◌^◌, ◌<◌, ◌≤◌, ◌∷◌, [], List, Bool, true, false, not, eqb, eqb-true, leb, get_or, map, replicate, w8, eq-eqb, ne_eqb, length, take, drop, refl, sym, ap, ◌∙◌, subst, arith, cond}
use Rattle.std.specs.List.{position_or_len}
use Rattle.std.specs.Simd.Lanes.{zip2, mask_l, top}
use Rattle.std.specs.Int.Count.{count_trailing_zeros}
use Rattle.std.specs.Str.Parse.{digits_value}
use Rattle.std.proofs.lemmas.Bool.{cond-true, cond-false, leb-true, leb-false}
use Rattle.std.proofs.lemmas.List.{get_or-drop, get_or-take, length-take}
use Rattle.std.proofs.lemmas.List.Sums.{fails_before_first}
use Rattle.std.proofs.lemmas.Simd.{bitmask_splat, first_set_mask_l}
use Rattle.aio_base.specs.Lines.{is_blank, words_in}
use Rattle.aio_trace.specs.Words.{IsRun, is_other}
use Rattle.aio_trace.proofs.LineWords.{words_behind_blank}
use Rattle.aio_trace.proofs.LineNumbers.{AreDigits, one_more_digit, one_digit_more}

-- ## In a block

block_long : (text : List ℕ) → 32 ≤ length text → length (take 32 text) ≡ 32
block_long text room = omega (arith, length-take 32 text)

-- the mask of the comparison has a bit for each other byte
pub others_mask : (text : List ℕ) (byte : ℕ) → 32 ≤ length text
    → mask_l (map (top 7) (zip2 (λ a b. cond (not (eqb a b)) 255 0) (take 32 text) (replicate 32 byte))) % 2 ^ 64 ≡ mask_l (map (is_other byte) (take 32 text))
others_mask text byte room = bitmask_splat w8 (λ a b. not (eqb a b)) (take 32 text) 32 byte (block_long text room) (omega arith)

pub none_other : (text : List ℕ) (byte : ℕ) → 32 ≤ length text → mask_l (map (is_other byte) (take 32 text)) ≡ 0 → 32 ≡ position_or_len (is_other byte) (take 32 text)
none_other text byte room none =
    sym (cond-true _ 32 _ (eq-eqb _ 0 none)) ∙ first_set_mask_l (is_other byte) (take 32 text) 32 (block_long text room) (omega arith)

pub first_other : (text : List ℕ) (byte : ℕ) → 32 ≤ length text → (mask_l (map (is_other byte) (take 32 text)) ≡ 0 → ⊥)
    → count_trailing_zeros 64 (mask_l (map (is_other byte) (take 32 text))) ≡ position_or_len (is_other byte) (take 32 text)
first_other text byte room some =
    sym (cond-false _ 32 _ (ne_eqb _ 0 some)) ∙ first_set_mask_l (is_other byte) (take 32 text) 32 (block_long text room) (omega arith)

-- ## A run

by_eqb : (a b : ℕ) (t : Bool) → eqb a b ≡ t → not t ≡ false → a ≡ b
by_eqb a b true e same = eqb-true a b e
by_eqb a b false e same = absurd cc

no_other : (b byte : ℕ) → is_other byte b ≡ false → b ≡ byte
no_other b byte same = by_eqb b byte (eqb b byte) refl same

-- a run goes on by the bytes of a block before its first other one
pub run_on : (text : List ℕ) (byte at more : ℕ) → IsRun byte text at → more ≤ position_or_len (is_other byte) (take 32 (drop at text)) → more ≤ 32 → IsRun byte text (at + more)
run_on text byte at more run is few k within = by_place (leb at k) refl
  where
    by_place : (t : Bool) → leb at k ≡ t → get_or text k 0 ≡ byte
    by_place true e =
        let past : at ≤ k = leb-true at k e in
        let n = k - at in
        let here : at + n ≡ k = omega arith in
        ap (λ i. get_or text i 0) (sym here) ∙ sym (get_or-drop at text n 0) ∙ sym (get_or-take 32 (drop at text) n 0 (omega arith))
        ∙ no_other _ byte (fails_before_first (is_other byte) (take 32 (drop at text)) n 0 (omega arith))
    by_place false e = run k (leb-false at k e)

-- ## Of blanks

-- blanks in front part nothing
pub words_past_blanks : (text : List ℕ) (at : ℕ) → at ≤ length text → IsRun 32 text at → words_in (drop at text) ≡ words_in text
words_past_blanks text zero within spaces = refl
words_past_blanks [] (suc at) within spaces = absurd (omega arith)
words_past_blanks (b ∷ bytes) (suc at) within spaces =
    words_past_blanks bytes at (omega arith) (λ k before. spaces (suc k) (omega arith)) ∙ sym (words_behind_blank b bytes (ap is_blank (spaces 0 (omega arith))))

-- ## Of zeros

-- what digits of a number's front stand for nothing
pub record AreZeros (text : List ℕ) (at : ℕ) : Type 0 where
  pub digits : AreDigits (take at text)
  pub value : 0 ≡ digits_value 10 (take at text)

one_more_zero : (text : List ℕ) (at : ℕ) → at < length text → get_or text at 0 ≡ 48 → AreZeros text at → AreZeros text (at + 1)
one_more_zero text at within here before =
    let more = one_digit_more text at within (omega (arith, here)) (omega (arith, here)) in
    record {
      digits = one_more_digit text at within before.digits (omega (arith, here)) (omega (arith, here));
      value = omega (arith, more, here, before.value);
    }

pub zeros_of_number : (text : List ℕ) (at : ℕ) → at ≤ length text → IsRun 48 text at → AreZeros text at
zeros_of_number text zero within zeros = record { digits = refl; value = refl }
zeros_of_number text (suc at) within zeros =
    let up : at + 1 ≡ suc at = omega arith in
    subst (AreZeros text) up
    (one_more_zero text at (omega arith) (zeros at (omega arith)) (zeros_of_number text at (omega arith) (λ k before. zeros k (omega arith))))
