-- The places of a core's sources: the first free one, a source at a place, and how many there are.
use Rattle.std.proofs.Common.{◌≡◌, ◌≢◌, ℕ, zero, suc, ◌+◌, ◌<◌, ◌≤◌, true, List, [], ◌∷◌, length, set, Option, None, Some, IfSome, is_some, refl, sym, ap, ◌∙◌, subst, ⊎_elim, arith}
use Rattle.std.proofs.lemmas.Bool.{cases_lt, cases_eq}
use Rattle.aio_react.specs.declared.entries.SourceEntry.{SourceEntry}
use Rattle.aio_react.specs.Cores.{entry_at, AreKeyed}
use Rattle.aio_react.specs.Sources.{free_key, placed}
use Rattle.aio_react.specs.Standing.{count_entries}

-- ## Counts

pub count_few : (sources : List (Option SourceEntry)) → count_entries sources ≤ length sources
count_few [] = omega arith
count_few (None ∷ sources) = omega (arith, count_few sources)
count_few (Some e ∷ sources) = omega (arith, count_few sources)

-- ## The first free place

pub free_few : (sources : List (Option SourceEntry)) → free_key sources ≤ count_entries sources
free_few [] = omega arith
free_few (None ∷ sources) = omega arith
free_few (Some e ∷ sources) = omega (arith, free_few sources)

one_later : (e : SourceEntry) (sources : List (Option SourceEntry)) → free_key (Some e ∷ sources) ≡ suc (free_key sources)
one_later e sources = omega arith

pub free_is_none : (sources : List (Option SourceEntry)) → entry_at sources (free_key sources) ≡ None
free_is_none [] = refl
free_is_none (None ∷ sources) = refl
free_is_none (Some e ∷ sources) = ap (entry_at (Some e ∷ sources)) (one_later e sources) ∙ free_is_none sources

pub below_free : (sources : List (Option SourceEntry)) (key : ℕ) → key < free_key sources → is_some (entry_at sources key) ≡ true
below_free [] key below = absurd (omega arith)
below_free (None ∷ sources) key below = absurd (omega arith)
below_free (Some e ∷ sources) zero below = refl
below_free (Some e ∷ sources) (suc key) below = below_free sources key (omega arith)

-- where every place has a source none is free
all_filled : (sources : List (Option SourceEntry)) → length sources ≤ count_entries sources → length sources ≤ free_key sources
all_filled [] full = omega arith
all_filled (None ∷ sources) full = absurd (omega (arith, count_few sources))
all_filled (Some e ∷ sources) full = let rest = all_filled sources (omega arith) in omega arith

-- below a limit to the places, a key below it is free exactly where fewer sources live
pub has_free : (sources : List (Option SourceEntry)) (limit : ℕ) → length sources ≤ limit → free_key sources < limit → count_entries sources < limit
has_free sources limit few free =
    ⊎_elim (λ (below : count_entries sources < limit). below)
    (λ (full : limit ≤ count_entries sources). absurd (omega (arith, count_few sources, all_filled sources (omega (arith, count_few sources)))))
    (cases_lt (count_entries sources) limit)

-- ## A source at a place

pub placed_here : (sources : List (Option SourceEntry)) (at : ℕ) (e : SourceEntry) → at ≤ length sources → entry_at (placed sources at e) at ≡ Some e
placed_here [] zero e within = refl
placed_here [] (suc at) e within = absurd (omega arith)
placed_here (place ∷ sources) zero e within = refl
placed_here (place ∷ sources) (suc at) e within = placed_here sources at e (omega arith)

pub placed_elsewhere : (sources : List (Option SourceEntry)) (at key : ℕ) (e : SourceEntry) → at ≤ length sources → key ≢ at
    → entry_at (placed sources at e) key ≡ entry_at sources key
placed_elsewhere [] zero zero e within apart = absurd (apart refl)
placed_elsewhere [] zero (suc key) e within apart = refl
placed_elsewhere [] (suc at) key e within apart = absurd (omega arith)
placed_elsewhere (place ∷ sources) zero zero e within apart = absurd (apart refl)
placed_elsewhere (place ∷ sources) zero (suc key) e within apart = refl
placed_elsewhere (place ∷ sources) (suc at) zero e within apart = refl
placed_elsewhere (place ∷ sources) (suc at) (suc key) e within apart =
    placed_elsewhere sources at key e (omega arith) (λ (same : key ≡ at). apart (ap suc same))

pub placed_count : (sources : List (Option SourceEntry)) (at : ℕ) (e : SourceEntry) → at ≤ length sources → entry_at sources at ≡ None
    → count_entries (placed sources at e) ≡ count_entries sources + 1
placed_count [] zero e within none = refl
placed_count [] (suc at) e within none = absurd (omega arith)
placed_count (None ∷ sources) zero e within none = refl
placed_count (Some d ∷ sources) zero e within none = absurd (cc)
placed_count (None ∷ sources) (suc at) e within none = placed_count sources at e (omega arith) none
placed_count (Some d ∷ sources) (suc at) e within none = ap (λ (n : ℕ). n + 1) (placed_count sources at e (omega arith) none)

-- what is so of the source at each place is so after a source came to one, of which it is so
pub each_placed : (sources : List (Option SourceEntry)) (at : ℕ) (e : SourceEntry) (Is : ℕ → SourceEntry → Type 0) → at ≤ length sources → Is at e
    → ((key : ℕ) → IfSome (entry_at sources key) (Is key)) → (key : ℕ) → IfSome (entry_at (placed sources at e) key) (Is key)
each_placed sources at e Is within own each key =
    ⊎_elim
    (λ (same : key ≡ at). subst (λ (k : ℕ). IfSome (entry_at (placed sources at e) k) (Is k)) (sym same)
    (subst (λ (place : Option SourceEntry). IfSome place (Is at)) (sym (placed_here sources at e within)) own))
    (λ (apart : key ≢ at). subst (λ (place : Option SourceEntry). IfSome place (Is key)) (sym (placed_elsewhere sources at key e within apart)) (each key))
    (cases_eq key at)

pub keyed_placed : (sources : List (Option SourceEntry)) (at : ℕ) (e : SourceEntry) → AreKeyed sources → at ≤ length sources → e.source.key.0 ≡ at
    → AreKeyed (placed sources at e)
keyed_placed sources at e keyed within own = each_placed sources at e (λ key e. e.source.key.0 ≡ key) within own keyed

-- ## A place without its source

pub cleared_here : (sources : List (Option SourceEntry)) (at : ℕ) → entry_at (set sources at None) at ≡ None
cleared_here [] at = refl
cleared_here (place ∷ sources) zero = refl
cleared_here (place ∷ sources) (suc at) = cleared_here sources at

pub cleared_elsewhere : (sources : List (Option SourceEntry)) (at key : ℕ) → key ≢ at → entry_at (set sources at None) key ≡ entry_at sources key
cleared_elsewhere [] at key apart = refl
cleared_elsewhere (place ∷ sources) zero zero apart = absurd (apart refl)
cleared_elsewhere (place ∷ sources) zero (suc key) apart = refl
cleared_elsewhere (place ∷ sources) (suc at) zero apart = refl
cleared_elsewhere (place ∷ sources) (suc at) (suc key) apart = cleared_elsewhere sources at key (λ (same : key ≡ at). apart (ap suc same))

pub cleared_count : (sources : List (Option SourceEntry)) (at : ℕ) (e : SourceEntry) → entry_at sources at ≡ Some e
    → count_entries (set sources at None) + 1 ≡ count_entries sources
cleared_count [] at e is = absurd (cc)
cleared_count (None ∷ sources) zero e is = absurd (cc)
cleared_count (Some d ∷ sources) zero e is = refl
cleared_count (None ∷ sources) (suc at) e is = cleared_count sources at e is
cleared_count (Some d ∷ sources) (suc at) e is = ap (λ (n : ℕ). n + 1) (cleared_count sources at e is)

-- what is so of the source at each other place is so of each that is left
pub each_left : (sources : List (Option SourceEntry)) (at : ℕ) (Is : ℕ → SourceEntry → Type 0) → ((key : ℕ) → key ≢ at → IfSome (entry_at sources key) (Is key))
    → (key : ℕ) → IfSome (entry_at (set sources at None) key) (Is key)
each_left sources at Is each key =
    ⊎_elim
    (λ (same : key ≡ at). subst (λ (k : ℕ). IfSome (entry_at (set sources at None) k) (Is k)) (sym same)
    (subst (λ (place : Option SourceEntry). IfSome place (Is at)) (sym (cleared_here sources at)) tt))
    (λ (apart : key ≢ at). subst (λ (place : Option SourceEntry). IfSome place (Is key)) (sym (cleared_elsewhere sources at key apart)) (each key apart))
    (cases_eq key at)

pub keyed_left : (sources : List (Option SourceEntry)) (at : ℕ) → AreKeyed sources → AreKeyed (set sources at None)
keyed_left sources at keyed = each_left sources at (λ key e. e.source.key.0 ≡ key) (λ key apart. keyed key)
