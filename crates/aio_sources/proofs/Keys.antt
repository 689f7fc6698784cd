-- The places of a table, their keys and their entries: which is the least free one, how many there are, and what a change of one place makes of them.
use Rattle.std.proofs.Common.{◌≡◌, ◌≢◌, ℕ, zero, suc, ◌+◌, ◌<◌, ◌≤◌, List, [], ◌∷◌, length, set, Option, None, Some, IfSome, IsNone, Bor, refl, sym, ap, ◌∙◌, ⊎_elim, subst, arith}
use Rattle.std.specs.Prelude.{slice_index}
use Rattle.std.specs.List.Sorted.{IsStrictlyIncreasing}
use Rattle.std.specs.List.{Contains, insert}
use Rattle.std.specs.Option.{option_copied}
use Rattle.std.proofs.lemmas.Bool.{cases_eq, cases_lt, eq-eqb, ne_eqb}
use Rattle.aio_source.specs.KeyTables.{at_key, least_free, put_at}
use Rattle.atomic_table.specs.Seated.{TableId}
use Rattle.aio_sources.specs.Sources.{IsLeastFree, TableEntry, entries_from, keys_of, with_entry, without_entry}

later_is_in : (k : ℕ) (ks : List ℕ) (key : ℕ) → Contains ks key → Contains (k ∷ ks) key
later_is_in k ks key among = (suc among.0, omega (arith, among.1), among.2)

-- the keys of the places that have something, where the first place has this key
abbrev live_keys : {X : Type 0} → ℕ → List (Option X) → List ℕ
live_keys first [] = []
live_keys first (None ∷ places) = live_keys (suc first) places
live_keys first (Some x ∷ places) = first ∷ live_keys (suc first) places

module _ {X : Type 0} where
  -- ## Which keys are live

  none_below : (first key : ℕ) (places : List (Option X)) → key < first → Contains (live_keys first places) key → ⊥
  none_below first key [] below among = let within = among.1 in omega arith
  none_below first key (None ∷ places) below among = none_below (suc first) key places (omega arith) among
  none_below first key (Some x ∷ places) below (zero, within, is) = omega (arith, is)
  none_below first key (Some x ∷ places) below (suc k, within, is) = none_below (suc first) key places (omega arith) (k, omega (arith, within), is)

  free_from : (first key : ℕ) (places : List (Option X)) → key ≡ first + least_free places → Contains (live_keys first places) key → ⊥
  free_from first key [] at among = let within = among.1 in omega arith
  free_from first key (None ∷ places) at among = none_below (suc first) key places (omega arith) among
  free_from first key (Some x ∷ places) at (zero, within, is) = omega (arith, is)
  free_from first key (Some x ∷ places) at (suc k, within, is) = free_from (suc first) key places (omega arith) (k, omega (arith, within), is)

  live_from : (first key : ℕ) (places : List (Option X)) → first ≤ key → key < first + least_free places → Contains (live_keys first places) key
  live_from first key [] from below = absurd (omega arith)
  live_from first key (None ∷ places) from below = absurd (omega arith)
  live_from first key (Some x ∷ places) from below =
      ⊎_elim (λ (same : first ≡ key). (0, omega arith, same))
      (λ (apart : first ≢ key). later_is_in first (live_keys (suc first) places) key (live_from (suc first) key places (omega arith) (omega arith)))
      (cases_eq first key)

  first_is_free : (places : List (Option X)) → IsLeastFree (live_keys 0 places) (least_free places)
  first_is_free places = record {
    free = free_from 0 (least_free places) places (omega arith);
    least = λ lesser below. live_from 0 lesser places (omega arith) (omega arith);
  }

  -- ## They rise

  lowest : (first : ℕ) (places : List (Option X)) → 0 < length (live_keys first places) → first ≤ slice_index (live_keys first places) 0
  lowest first [] some = absurd (omega arith)
  lowest first (None ∷ places) some = omega (arith, lowest (suc first) places some)
  lowest first (Some x ∷ places) some = omega arith

  rises_at : (first : ℕ) (places : List (Option X)) (k : ℕ) → suc k < length (live_keys first places)
      → slice_index (live_keys first places) k < slice_index (live_keys first places) (suc k)
  rises_at first [] k within = absurd (omega arith)
  rises_at first (None ∷ places) k within = rises_at (suc first) places k within
  rises_at first (Some x ∷ places) zero within = omega (arith, lowest (suc first) places (omega (arith, within)))
  rises_at first (Some x ∷ places) (suc k) within = rises_at (suc first) places k (omega (arith, within))

  keys_rise : (first : ℕ) (places : List (Option X)) → IsStrictlyIncreasing (live_keys first places)
  keys_rise first places k within =
      let keys = live_keys first places in
      let next : suc k ≡ k + 1 = omega arith in
      subst (λ (n : ℕ). slice_index keys k < slice_index keys n) next (rises_at first places k (omega (arith, within)))

  -- ## How many there are

  few_keys : (first : ℕ) (places : List (Option X)) → length (live_keys first places) ≤ length places
  few_keys first [] = omega arith
  few_keys first (None ∷ places) = omega (arith, few_keys (suc first) places)
  few_keys first (Some x ∷ places) = omega (arith, few_keys (suc first) places)

  first_few : (first : ℕ) (places : List (Option X)) → least_free places ≤ length (live_keys first places)
  first_few first [] = omega arith
  first_few first (None ∷ places) = omega arith
  first_few first (Some x ∷ places) = omega (arith, first_few (suc first) places)

  all_filled : (first : ℕ) (places : List (Option X)) → length places ≤ length (live_keys first places) → length places ≤ least_free places
  all_filled first [] full = omega arith
  all_filled first (None ∷ places) full = absurd (omega (arith, few_keys (suc first) places))
  all_filled first (Some x ∷ places) full = omega (arith, all_filled (suc first) places (omega arith))

  full_keys : (places : List (Option X)) (limit : ℕ) → length places ≤ limit → limit ≤ least_free places → length (live_keys 0 places) ≡ limit
  full_keys places limit few full = omega (arith, few_keys 0 places, first_few 0 places)

  full_first : (places : List (Option X)) (limit : ℕ) → length places ≤ limit → length (live_keys 0 places) ≡ limit → limit ≤ least_free places
  full_first places limit few full = omega (arith, few_keys 0 places, all_filled 0 places (omega (arith, few_keys 0 places)))

-- there is one least free key
pub one_least : (keys : List ℕ) (a b : ℕ) → IsLeastFree keys a → IsLeastFree keys b → a ≡ b
one_least keys a b of_a of_b =
    ⊎_elim (λ (below : a < b). absurd (of_a.free (of_b.least a below)))
    (λ (from : b ≤ a). ⊎_elim (λ (below : b < a). absurd (of_b.free (of_a.least b below))) (λ (to : a ≤ b). omega arith) (cases_lt b a))
    (cases_lt a b)

module _ {X : Type 0} where
  gone_at : (first key : ℕ) (places : List (Option X)) (at : ℕ) → at_key places at ≡ None → key ≡ first + at → Contains (live_keys first places) key → ⊥
  gone_at first key [] at is same among = let within = among.1 in omega arith
  gone_at first key (None ∷ places) zero is same among = none_below (suc first) key places (omega arith) among
  gone_at first key (None ∷ places) (suc at) is same among = gone_at (suc first) key places at is (omega arith) among
  gone_at first key (Some x ∷ places) zero is same among = absurd cc
  gone_at first key (Some x ∷ places) (suc at) is same (zero, within, found) = omega (arith, found)
  gone_at first key (Some x ∷ places) (suc at) is same (suc k, within, found) = gone_at (suc first) key places at is (omega arith) (k, omega (arith, within), found)

  has_no_key : (places : List (Option X)) (at : ℕ) → at_key places at ≡ None → Contains (live_keys 0 places) at → ⊥
  has_no_key places at is among = gone_at 0 at places at is (omega arith) among

-- ## Entries

-- an entry of another key stays
other_stays : (e : TableEntry) (key : ℕ) (es kept : List TableEntry) → e.key ≢ key → kept ≡ without_entry es key → e ∷ kept ≡ without_entry (e ∷ es) key
other_stays e key es kept apart rest = rw (ne_eqb e.key key apart) (ap (λ more. e ∷ more) rest)

-- and that of the key goes
same_goes : (e : TableEntry) (key : ℕ) (es kept : List TableEntry) → e.key ≡ key → kept ≡ without_entry es key → kept ≡ without_entry (e ∷ es) key
same_goes e key es kept same rest = rw (eq-eqb e.key key same) rest

pub keys_are : (first : ℕ) (places : List (Option TableId)) → keys_of (entries_from first places) ≡ live_keys first places
keys_are first [] = refl
keys_are first (None ∷ places) = keys_are (suc first) places
keys_are first (Some lock ∷ places) = ap (λ ks. first ∷ ks) (keys_are (suc first) places)

pub entries_long : (es : List TableEntry) → length (keys_of es) ≡ length es
entries_long [] = refl
entries_long (e ∷ es) = ap suc (entries_long es)

-- the key of an entry is one of the keys
pub key_among : (es : List TableEntry) (e : TableEntry) → Contains es e → Contains (keys_of es) e.key
key_among [] e among = let within = among.1 in absurd (omega arith)
key_among (x ∷ es) e (zero, within, is) = (0, omega arith, ap (λ (y : TableEntry). y.key) is)
key_among (x ∷ es) e (suc k, within, is) = later_is_in x.key (keys_of es) e.key (key_among es e (k, omega (arith, within), is))

-- the least free key of the places is that of the entries
pub first_is_free_of : (places : List (Option TableId)) → IsLeastFree (keys_of (entries_from 0 places)) (least_free places)
first_is_free_of places = subst (λ keys. IsLeastFree keys (least_free places)) (sym (keys_are 0 places)) (first_is_free places)

put_from : (first key : ℕ) (places : List (Option TableId)) (at : ℕ) (x : TableId) → at ≡ least_free places → key ≡ first + at
    → entries_from first (put_at places at x) ≡ insert (entries_from first places) at (record { key = key; lock = x })
put_from first key [] zero x free is = let same : first ≡ key = omega arith in ap (λ k. record { key = k; lock = x } ∷ []) same
put_from first key [] (suc at) x free is = absurd (omega arith)
put_from first key (None ∷ places) zero x free is = let same : first ≡ key = omega arith in ap (λ k. record { key = k; lock = x } ∷ entries_from (suc first) places) same
put_from first key (None ∷ places) (suc at) x free is = absurd (omega arith)
put_from first key (Some y ∷ places) zero x free is = absurd (omega arith)
put_from first key (Some y ∷ places) (suc at) x free is = ap (λ es. record { key = first; lock = y } ∷ es) (put_from (suc first) key places at x (omega arith) (omega arith))

pub put_entry : (places : List (Option TableId)) (at : ℕ) (x : TableId) → at ≡ least_free places
    → entries_from 0 (put_at places at x) ≡ with_entry (entries_from 0 places) (record { key = at; lock = x })
put_entry places at x free = put_from 0 at places at x free (omega arith)

all_stay : (first key : ℕ) (places : List (Option TableId)) → key < first → entries_from first places ≡ without_entry (entries_from first places) key
all_stay first key [] below = refl
all_stay first key (None ∷ places) below = all_stay (suc first) key places (omega arith)
all_stay first key (Some x ∷ places) below = let more = entries_from (suc first) places in
    other_stays (record { key = first; lock = x }) key more more (omega arith) (all_stay (suc first) key places (omega arith))

cleared_from : (first key : ℕ) (places : List (Option TableId)) (at : ℕ) → key ≡ first + at
    → entries_from first (set places at None) ≡ without_entry (entries_from first places) key
cleared_from first key [] at is = refl
cleared_from first key (None ∷ places) zero is = all_stay (suc first) key places (omega arith)
cleared_from first key (None ∷ places) (suc at) is = cleared_from (suc first) key places at (omega arith)
cleared_from first key (Some x ∷ places) zero is = let more = entries_from (suc first) places in
    same_goes (record { key = first; lock = x }) key more more (omega arith) (all_stay (suc first) key places (omega arith))
cleared_from first key (Some x ∷ places) (suc at) is =
    other_stays (record { key = first; lock = x }) key (entries_from (suc first) places) (entries_from (suc first) (set places at None)) (omega arith)
    (cleared_from (suc first) key places at (omega arith))

pub cleared_entries : (places : List (Option TableId)) (at : ℕ) → entries_from 0 (set places at None) ≡ without_entry (entries_from 0 places) at
cleared_entries places at = cleared_from 0 at places at (omega arith)

-- a key that was taken out is no longer there
pub is_gone : (es : List TableEntry) (key : ℕ) → Contains (keys_of (without_entry es key)) key → ⊥
is_gone [] key among = let within = among.1 in omega arith
is_gone (e ∷ es) key among =
    ⊎_elim (λ (same : e.key ≡ key). is_gone es key (subst (λ xs. Contains (keys_of xs) key) (sym (same_goes e key es (without_entry es key) same refl)) among))
    (λ (apart : e.key ≢ key). still_gone (without_entry es key) apart (is_gone es key)
    (subst (λ xs. Contains (keys_of xs) key) (sym (other_stays e key es (without_entry es key) apart refl)) among))
    (cases_eq e.key key)
  where
    still_gone : (kept : List TableEntry) → e.key ≢ key → (Contains (keys_of kept) key → ⊥) → Contains (e.key ∷ keys_of kept) key → ⊥
    still_gone kept apart none (zero, within, is) = apart is
    still_gone kept apart none (suc at, within, is) = none (at, omega (arith, within), is)

entry_at : (first key : ℕ) (places : List (Option TableId)) (at : ℕ) (x : TableId) → at_key places at ≡ Some x → key ≡ first + at
    → Contains (entries_from first places) (record { key = key; lock = x })
entry_at first key [] at x is same = absurd cc
entry_at first key (None ∷ places) zero x is same = absurd cc
entry_at first key (None ∷ places) (suc at) x is same = entry_at (suc first) key places at x is (omega arith)
entry_at first key (Some y ∷ places) zero x is same =
    let of_key : first ≡ key = omega arith in
    let of_lock : y ≡ x = cc in (0, omega arith, λ i. record { key = of_key i; lock = of_lock i })
entry_at first key (Some y ∷ places) (suc at) x is same =
    let among = entry_at (suc first) key places at x is (omega arith) in (suc among.0, omega (arith, among.1), among.2)

-- what a table answers at a key is the lock of the entry of that key
pub some_entry : (places : List (Option TableId)) (at : ℕ) (found : Option (Bor TableId)) → option_copied found ≡ at_key places at
    → IfSome found (λ (lock : Bor TableId). Contains (entries_from 0 places) (record { key = at; lock = lock.now }))
some_entry places at None is = tt
some_entry places at (Some x) is = entry_at 0 at places at x.now (sym is) (omega arith)

pub none_entry : (places : List (Option TableId)) (at : ℕ) (found : Option (Bor TableId)) → option_copied found ≡ at_key places at → IsNone found
    → Contains (keys_of (entries_from 0 places)) at → ⊥
none_entry places at None is none among = has_no_key places at (sym is) (subst (λ keys. Contains keys at) (keys_are 0 places) among)
none_entry places at (Some x) is none among = absurd cc

entries_many : (places : List (Option TableId)) → length (entries_from 0 places) ≡ length (live_keys 0 places)
entries_many places = sym (entries_long (entries_from 0 places)) ∙ ap length (keys_are 0 places)

pub full_entries : (places : List (Option TableId)) (limit : ℕ) → length places ≤ limit → limit ≤ least_free places → length (entries_from 0 places) ≡ limit
full_entries places limit few full = entries_many places ∙ full_keys places limit few full

pub full_places : (places : List (Option TableId)) (limit : ℕ) → length places ≤ limit → length (entries_from 0 places) ≡ limit → limit ≤ least_free places
full_places places limit few full = full_first places limit few (sym (entries_many places) ∙ full)

pub least_is_few : (places : List (Option TableId)) → least_free places ≤ length (entries_from 0 places)
least_is_few places = omega (arith, first_few 0 places, entries_many places)

pub entries_rise : (places : List (Option TableId)) → IsStrictlyIncreasing (keys_of (entries_from 0 places))
entries_rise places = subst IsStrictlyIncreasing (sym (keys_are 0 places)) (keys_rise 0 places)
