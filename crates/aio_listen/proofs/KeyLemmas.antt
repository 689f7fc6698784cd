-- Lists of keys, each of which stands there once: how one is parted at a key, where it begins and ends, and how long it can be.
use Rattle.std.proofs.Common.{◌≡◌, ◌≢◌, ℕ, zero, suc, inl, inr, ◌⊎◌, ◌+◌, ◌<◌, ◌≤◌, List, [], ◌∷◌, ◌++◌, length, Option, None, Some, arith, refl, sym, ap}
use Rattle.std.proofs.lemmas.Bool.{cases_eq}
use Rattle.std.proofs.lemmas.Bool.Decides.{nat_tests}
use Rattle.aio_listen.specs.Order.{one_if_same, times, first_of, last_of}

pub one-same : (k : ℕ) → one_if_same k k ≡ 1
one-same k = grind (arith, nat_tests)

one-other : (j k : ℕ) → j ≢ k → one_if_same j k ≡ 0
one-other j k ne = grind (arith, nat_tests)

pub zero-other : (j k : ℕ) → one_if_same j k ≡ 0 → j ≢ k
zero-other j k h e = omega (arith, h, one-same k, ap (λ (i : ℕ). one_if_same i k) e)

pub same_or_other : (j k : ℕ) → (j ≡ k) ⊎ (one_if_same j k ≡ 0)
same_or_other j k = elim (cases_eq j k) as (λ _. (j ≡ k) ⊎ (one_if_same j k ≡ 0)) [ inl e ↦ inl e | inr ne ↦ inr (one-other j k ne) ]

pub there_or_not : (n : ℕ) → (0 < n) ⊎ (n ≡ 0)
there_or_not zero = inr refl
there_or_not (suc n) = inl (omega arith)

pub leads_or_not : (link : Option ℕ) (j : ℕ) → (link ≡ Some j) ⊎ (link ≢ Some j)
leads_or_not None j = inr (λ e. cc)
leads_or_not (Some k) j = elim (cases_eq k j) as (λ _. (Some k ≡ Some j) ⊎ (Some k ≢ Some j)) [ inl e ↦ inl (ap Some e) | inr ne ↦ inr (λ e. ne cc) ]

pub times-append : (j : ℕ) (ks ls : List ℕ) → times j (ks ++ ls) ≡ times j ks + times j ls
times-append j [] ls = omega arith
times-append j (k ∷ ks) ls = omega (arith, times-append j ks ls)

-- a list parted at a key
pub record Parted (j : ℕ) (ks : List ℕ) : Type 0 where
  pub front : List ℕ
  pub back : List ℕ
  pub is : ks ≡ front ++ j ∷ back

pub parted : (j : ℕ) (ks : List ℕ) → 0 < times j ks → Parted j ks
parted j [] h = absurd (omega (arith, h))
parted j (k ∷ ks) h = elim (same_or_other j k) as (λ _. Parted j (k ∷ ks)) [
  | inl e ↦ record { front = []; back = ks; is = ap (λ (i : ℕ). i ∷ ks) (sym e) }
  | inr ne ↦ let p = parted j ks (omega (arith, h, ne)) in record { front = k ∷ p.front; back = p.back; is = ap (λ (ls : List ℕ). k ∷ ls) p.is }
]

-- the ends of two lists together
pub first_of-append : (ks ls : List ℕ) (behind : Option ℕ) → first_of (ks ++ ls) behind ≡ first_of ks (first_of ls behind)
first_of-append [] ls behind = refl
first_of-append (k ∷ ks) ls behind = refl

pub last_of-append : (before : Option ℕ) (ks ls : List ℕ) → last_of before (ks ++ ls) ≡ last_of (last_of before ks) ls
last_of-append before [] ls = refl
last_of-append before (k ∷ ks) ls = last_of-append (Some k) ks ls

-- the first of some keys is one of them
pub first_of-in : (ks : List ℕ) (j : ℕ) → first_of ks None ≡ Some j → 0 < times j ks
first_of-in [] j e = absurd cc
first_of-in (k ∷ ks) j e = let same : k ≡ j = cc in rw same (omega (arith, one-same j))

-- and the last
last_of-some : (before : Option ℕ) (k : ℕ) (ks : List ℕ) (j : ℕ) → last_of before (k ∷ ks) ≡ Some j → 0 < times j (k ∷ ks)
last_of-some before k [] j e = let same : k ≡ j = cc in rw same (omega (arith, one-same j))
last_of-some before k (l ∷ ls) j e = omega (arith, last_of-some (Some k) l ls j e)

pub last_of-in : (ks : List ℕ) (j : ℕ) → last_of None ks ≡ Some j → 0 < times j ks
last_of-in [] j e = absurd cc
last_of-in (k ∷ ks) j e = last_of-some None k ks j e

-- where there are keys, the last is told
pub last_of-told : (before : Option ℕ) (k : ℕ) (ks : List ℕ) → (j : ℕ) × (last_of before (k ∷ ks) ≡ Some j) × (0 < times j (k ∷ ks))
last_of-told before k [] = (k, refl, omega (arith, one-same k))
last_of-told before k (l ∷ ls) = let r = last_of-told (Some k) l ls in (r.0, r.1, omega (arith, r.2))

-- a list parted before its last key
pub record Ending (ks : List ℕ) (j : ℕ) : Type 0 where
  pub rest : List ℕ
  pub is : ks ≡ rest ++ j ∷ []

pub ending : (before : Option ℕ) (k : ℕ) (ks : List ℕ) (j : ℕ) → last_of before (k ∷ ks) ≡ Some j → Ending (k ∷ ks) j
ending before k [] j e = let same : k ≡ j = cc in record { rest = []; is = ap (λ (i : ℕ). i ∷ []) same }
ending before k (l ∷ ls) j e = let r = ending (Some k) l ls j e in record { rest = k ∷ r.rest; is = ap (λ (xs : List ℕ). k ∷ xs) r.is }

-- how many of the keys are below a bound
abbrev below : ℕ → List ℕ → ℕ
below zero ks = 0
below (suc n) ks = times n ks + below n ks

below-none : (n : ℕ) → below n [] ≡ 0
below-none zero = refl
below-none (suc n) = omega (arith, below-none n)

below-le : (n : ℕ) (ks : List ℕ) → ((j : ℕ) → times j ks ≤ 1) → below n ks ≤ n
below-le zero ks once = omega arith
below-le (suc n) ks once = omega (arith, once n, below-le n ks once)

below-past : (n k : ℕ) (ks : List ℕ) → n ≤ k → below n (k ∷ ks) ≡ below n ks
below-past zero k ks le = refl
below-past (suc n) k ks le = omega (arith, below-past n k ks (omega (arith, le)), one-other n k (λ e. omega (arith, e, le)))

below-next : (n k : ℕ) (ks : List ℕ) → k < n → below n (k ∷ ks) ≡ below n ks + 1
below-next zero k ks lt = absurd (omega (arith, lt))
below-next (suc n) k ks lt = elim (same_or_other n k) as (λ _. below (suc n) (k ∷ ks) ≡ below (suc n) ks + 1) [
  | inl e ↦ omega (arith, below-past n k ks (omega (arith, e)), one-same k, ap (λ (i : ℕ). one_if_same i k) e)
  | inr ne ↦ omega (arith, ne, below-next n k ks (let other = zero-other n k ne in elim (cases_eq n k) as (λ _. k < n) [ inl e ↦ absurd (other e) | inr d ↦ omega (arith, lt, d) ]))
]

length-below : (n : ℕ) (ks : List ℕ) → ((j : ℕ) → 0 < times j ks → j < n) → length ks ≡ below n ks
length-below n [] all = sym (below-none n)
length-below n (k ∷ ks) all = omega (arith, below-next n k ks (all k (omega (arith, one-same k))), length-below n ks (λ j c. all j (omega (arith, c))))

-- so many different keys are below a bound at most
pub length-once : (n : ℕ) (ks : List ℕ) → ((j : ℕ) → times j ks ≤ 1) → ((j : ℕ) → 0 < times j ks → j < n) → length ks ≤ n
length-once n ks once all = omega (arith, length-below n ks all, below-le n ks once)
