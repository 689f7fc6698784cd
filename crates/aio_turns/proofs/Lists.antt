-- Lists of entries, read by number and counted.
use Rattle.std.proofs.Common.{◌≡◌, ℕ, zero, suc, ◌+◌, ◌<◌, ◌≤◌, Bool, cond, List, [], ◌∷◌, ◌++◌, length, set, sym, ap, subst, arith}
use Rattle.std.specs.List.{count_by, AllByRecursion as Every}
use Rattle.std.proofs.lemmas.List.Sums.{sum_by-append}
use mathlib.Core.Option.{some, some-injective, some-ne-none}
use lib.ListN.{get_elem?}
use Rattle.aio_rules.proofs.OperationLists.{each_end, each_with}
use Rattle.aio_turns.specs.declared.entries.TurnEntry.{TurnEntry}
use Rattle.aio_turns.specs.declared.entries.TurnHand.{TurnHand}
use Rattle.aio_turns.specs.Turns.{Counts, Rises, count_pulled}

-- ## Entries numbered without a gap

pub counts_rest : (k : ℕ) (es fs : List TurnEntry) → Counts k (es ++ fs) → Counts (k + length es) fs
counts_rest k [] fs c = let same : k ≡ k + 0 = omega arith in subst (λ (n : ℕ). Counts n fs) same c
counts_rest k (e ∷ es) fs c =
    let same : (k + 1) + length es ≡ k + suc (length es) = omega arith in subst (λ (n : ℕ). Counts n fs) same (counts_rest (k + 1) es fs c.1)

pub counts_end : (k : ℕ) (es : List TurnEntry) (x : TurnEntry) → Counts k es → x.number ≡ k + length es → Counts k (es ++ x ∷ [])
counts_end k [] x c number = ((let same : x.number ≡ k = omega (arith, number) in same), tt)
counts_end k (e ∷ es) x c number = (c.0, counts_end (k + 1) es x c.1 (omega (arith, number)))

abbrev pub Within : ℕ → ℕ → TurnEntry → Type 0
Within low high e = (low ≤ e.number) × (e.number < high)

pub counts_within : (k : ℕ) (es : List TurnEntry) → Counts k es → Every (Within k (k + length es)) es
counts_within k [] c = tt
counts_within k (e ∷ es) c =
    let same = c.0 in (
      (omega arith, omega arith),
      each_with (Within (k + 1) ((k + 1) + length es)) (Within k (k + suc (length es))) es (λ f w. let low = w.0 in let high = w.1 in (omega arith, omega arith))
          (counts_within (k + 1) es c.1),
    )

-- the number of an entry tells its place
pub counts_at : (k : ℕ) (es : List TurnEntry) (at : ℕ) (e : TurnEntry) → Counts k es → get_elem? es at ≡ some e → e.number ≡ k + at
counts_at k [] at e c is = absurd (some-ne-none e (sym is))
counts_at k (f ∷ es) zero e c is = let same : e.number ≡ f.number = ap (λ (x : TurnEntry). x.number) (sym (some-injective f e is)) in let first = c.0 in omega (arith, same, first)
counts_at k (f ∷ es) (suc at) e c is = let rest = counts_at (k + 1) es at e c.1 is in omega (arith, rest)

-- ## How many pass a test

pub count_append : (test : TurnEntry → Bool) (es fs : List TurnEntry) → count_by test (es ++ fs) ≡ count_by test es + count_by test fs
count_append test es fs = sum_by-append (λ (e : TurnEntry). cond (test e) 1 0) es fs

pub count_pulled_set : (test : TurnEntry → Bool) (hands : List TurnHand) (at : ℕ) (h w : TurnHand) → get_elem? hands at ≡ some h
    → count_pulled test (set hands at w) + count_by test h.pulled ≡ count_pulled test hands + count_by test w.pulled
count_pulled_set test [] at h w e = absurd (some-ne-none h (sym e))
count_pulled_set test (x ∷ hands) zero h w e =
    let same : count_by test x.pulled ≡ count_by test h.pulled = ap (λ (y : TurnHand). count_by test y.pulled) (some-injective x h e) in omega (arith, same)
count_pulled_set test (x ∷ hands) (suc at) h w e = let rest = count_pulled_set test hands at h w e in omega (arith, rest)

pub count_pulled_end : (test : TurnEntry → Bool) (hands : List TurnHand) (w : TurnHand) → count_pulled test (hands ++ w ∷ []) ≡ count_pulled test hands + count_by test w.pulled
count_pulled_end test [] w = omega arith
count_pulled_end test (x ∷ hands) w = let rest = count_pulled_end test hands w in omega (arith, rest)

-- ## Rising numbers

pub rises_end : (es : List TurnEntry) (x : TurnEntry) → Rises es → Every (λ (e : TurnEntry). e.number < x.number) es → Rises (es ++ x ∷ [])
rises_end [] x r b = (tt, tt)
rises_end (e ∷ es) x r b = (each_end (λ (later : TurnEntry). e.number < later.number) es x r.0 b.0, rises_end es x r.1 b.1)
