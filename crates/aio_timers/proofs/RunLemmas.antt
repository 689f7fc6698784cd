-- Lists of nodes: how often a node stands in one, and runs and rows along the links.
use Rattle.std.proofs.Common.{inl, inr, ◌⊎◌, ◌≡◌, ◌≢◌, ℕ, zero, suc, ◌+◌, ◌<◌, ◌≤◌, true, false, List, [], ◌∷◌, ◌++◌, length, Option, arith, refl, ap, ◌∙◌, length-append}
use Rattle.std.proofs.lemmas.List.{get_or_past}
use Rattle.std.proofs.lemmas.Bool.{cases_eq}
use Rattle.std.proofs.lemmas.Bool.Decides.{nat_tests}
use Rattle.aio_timers.specs.declared.node.Node.{Node}
use Rattle.aio_timers.specs.Held.{Held, IsUsed, held_at, node_at, blank_node}
use Rattle.aio_timers.specs.Precedes.{precedes}
use Rattle.aio_timers.specs.Rows.{one_if, times_in, IsRun, IsRow, steps_from}
use Rattle.aio_timers.proofs.CountLemmas.{one_if-same, one_if-other, some_or_none}

-- what is read behind the last node is free
pub used-within : (ns : List Node) (i : ℕ) → IsUsed (held_at ns i) → i < length ns
used-within ns i u = elim (within_or_past i (length ns)) as (λ _. i < length ns) [
  | inl lt ↦ lt
  | inr past ↦ let blank : node_at ns i ≡ blank_node = get_or_past ns i blank_node past in absurd (free (rw blank at u))
]
  where
    within_or_past : (a b : ℕ) → (a < b) ⊎ (b ≤ a)
    within_or_past a b = grind arith

    free : false ≡ true → ⊥
    free e = cc

-- ## How often an index stands in a list

pub times-append : (j : ℕ) (xs ys : List ℕ) → times_in j (xs ++ ys) ≡ times_in j xs + times_in j ys
times-append j [] ys = omega arith
times-append j (x ∷ xs) ys = omega (arith, times-append j xs ys)

-- an index at one place of a list
pub record Split (i : ℕ) (ks : List ℕ) : Type 0 where
  pub front : List ℕ
  pub back : List ℕ
  pub is : ks ≡ front ++ i ∷ back

pub split-at : (i : ℕ) (ks : List ℕ) → 0 < times_in i ks → Split i ks
split-at i [] h = absurd (omega (arith, h))
split-at i (k ∷ ks) h = elim (cases_eq i k) as (λ _. Split i (k ∷ ks)) [
  | inl e ↦ rw e (record { front = []; back = ks; is = refl })
  | inr ne ↦ let s : Split i ks = split-at i ks (omega (arith, h, one_if-other i k ne)) in record { front = k ∷ s.front; back = s.back; is = ap (λ (xs : List ℕ). k ∷ xs) s.is }
]

-- different indices below a bound are no more than it
pub once-le : (n : ℕ) (ks : List ℕ) → ((j : ℕ) → times_in j ks ≤ 1) → ((j : ℕ) → 0 < times_in j ks → j < n) → length ks ≤ n
once-le zero [] once below = omega arith
once-le zero (k ∷ ks) once below = absurd (omega (arith, below k (omega (arith, one_if-same k))))
once-le (suc n) ks once below = elim (some_or_none (times_in n ks)) as (λ _. length ks ≤ suc n) [
  | inl h ↦ without (λ xs. once-le n xs) (split-at n ks h)
  | inr z ↦ omega (arith, once-le n ks once (λ j h. less j (below j h) (λ e. omega (arith, h, z, ap (λ (x : ℕ). times_in x ks) e))))
]
  where
    less : (j : ℕ) → j < suc n → j ≢ n → j < n
    less j h ne = omega arith

    without : ((xs : List ℕ) → ((j : ℕ) → times_in j xs ≤ 1) → ((j : ℕ) → 0 < times_in j xs → j < n) → length xs ≤ n) → Split n ks → length ks ≤ suc n
    without shorter s =
        let parts : (j : ℕ) → times_in j ks ≡ times_in j s.front + (one_if j n + times_in j s.back) = λ j. ap (times_in j) s.is ∙ times-append j s.front (n ∷ s.back) in
        let rest : length (s.front ++ s.back) ≤ n =
        shorter (s.front ++ s.back) (λ j. omega (arith, once j, parts j, times-append j s.front s.back))
        (λ j h. let here : 0 < times_in j ks = omega (arith, h, parts j, times-append j s.front s.back) in
        less j (below j here) (λ e. omega (arith, h, once n, parts n, one_if-same n, times-append n s.front s.back, ap (λ (x : ℕ). times_in x (s.front ++ s.back)) e))) in
        omega (arith, rest, ap (λ (xs : List ℕ). length xs) s.is, length-append s.front (n ∷ s.back), length-append s.front s.back)

-- ## Runs and rows

pub run-within : (ns : List Node) (l : Option ℕ) (ks : List ℕ) (j : ℕ) → IsRun ns l ks → 0 < times_in j ks → j < length ns
run-within ns l [] j r h = absurd (omega (arith, h))
run-within ns l (i ∷ ks) j r h = elim (cases_eq j i) as (λ _. j < length ns) [
  | inl e ↦ rw e r.1
  | inr ne ↦ run-within ns (node_at ns i).next ks j r.2 (omega (arith, h, one_if-other j i ne))
]

pub run-frame : (old new : List Node) (l : Option ℕ) (ks : List ℕ) → length new ≡ length old → ((j : ℕ) → 0 < times_in j ks → (node_at new j).next ≡ (node_at old j).next) → IsRun old l ks → IsRun new l ks
run-frame old new l [] len same r = r
run-frame old new l (i ∷ ks) len same r =
    let here : (node_at new i).next ≡ (node_at old i).next = same i (omega (arith, one_if-same i)) in
    (r.0, omega (arith, r.1, len), rw here (run-frame old new (node_at old i).next ks len (λ j h. same j (omega (arith, h))) r.2))

pub row-run : (ns : List Node) (b : ℕ) (l : Option ℕ) (ks : List ℕ) → IsRow ns b l ks → IsRun ns l ks
row-run ns b l [] r = r
row-run ns b l (i ∷ ks) r = (r.0, r.1, row-run ns i (node_at ns i).next ks r.3)

pub row-frame : (old new : List Node) (b : ℕ) (l : Option ℕ) (ks : List ℕ) → length new ≡ length old
    → ((j : ℕ) → 0 < times_in j ks → ((node_at new j).next ≡ (node_at old j).next) × ((node_at new j).prev ≡ (node_at old j).prev)) → IsRow old b l ks → IsRow new b l ks
row-frame old new b l [] len same r = r
row-frame old new b l (i ∷ ks) len same r =
    let here : ((node_at new i).next ≡ (node_at old i).next) × ((node_at new i).prev ≡ (node_at old i).prev) = same i (omega (arith, one_if-same i)) in
    (r.0, omega (arith, r.1, len), here.1 ∙ r.2, rw here.0 (row-frame old new i (node_at old i).next ks len (λ j h. same j (omega (arith, h))) r.3))

-- the steps along a run are as many as its nodes
pub steps-of-run : (fuel : ℕ) (ns : List Node) (l : Option ℕ) (ks : List ℕ) → IsRun ns l ks → length ks ≤ fuel → steps_from fuel ns l ≡ length ks
steps-of-run zero ns l [] r h = refl
steps-of-run zero ns l (i ∷ ks) r h = absurd (omega (arith, h))
steps-of-run (suc fuel) ns l [] r h = rw r refl
steps-of-run (suc fuel) ns l (i ∷ ks) r h = rw r.0 (omega (arith, steps-of-run fuel ns (node_at ns i).next ks r.2 (omega (arith, h))))

-- ## Induction along the order in which nodes fire

-- what holds of a node where it holds of all that fire before it holds of each
pub by-order : (held : ℕ → Held) (P : ℕ → Type 0) → ((j : ℕ) → ((i : ℕ) → precedes (held i) (held j) ≡ true → P i) → P j) → (j : ℕ) → P j
by-order held P step j = earlier (suc (held j).deadline) j (omega arith)
  where
    sooner : (a b : Held) → precedes a b ≡ true → (a.deadline < b.deadline) ⊎ ((a.deadline ≡ b.deadline) × (a.id < b.id))
    sooner a b h = grind (arith, nat_tests)

    -- of one deadline by the ids
    alike : (d : ℕ) → ((i : ℕ) → (held i).deadline < d → P i) → (n : ℕ) (j : ℕ) → (held j).deadline ≡ d → (held j).id < n → P j
    alike d before zero j e h = absurd (omega (arith, h))
    alike d before (suc n) j e h = step j (λ i p. elim (sooner (held i) (held j) p) as (λ _. P i) [
      | inl lt ↦ before i (omega (arith, lt, e))
      | inr same ↦ alike d before n i (same.0 ∙ e) (omega (arith, same.1, h))
    ])

    earlier : (d : ℕ) (j : ℕ) → (held j).deadline < d → P j
    earlier zero j h = absurd (omega (arith, h))
    earlier (suc d) j h = elim (cases_eq (held j).deadline d) as (λ _. P j) [
      | inl e ↦ alike d (earlier d) (suc (held j).id) j e (omega arith)
      | inr ne ↦ earlier d j (omega (arith, h, ne))
    ]
