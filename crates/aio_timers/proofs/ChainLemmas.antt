-- What a change of nodes or of buckets does to the chains.
use Rattle.std.proofs.Common.{◌≡◌, ◌≢◌, ℕ, inl, inr, ◌+◌, ◌<◌, ◌≤◌, ◌==◌, Bool, true, false, cond, List, [], ◌∷◌, ◌++◌, length, get_or, set, Option, None, Some, arith, refl, sym, ap, ◌∙◌, length-set, append_assoc}
use Rattle.std.proofs.lemmas.List.{get_or-set_same, get_or-set_other}
use Rattle.std.proofs.lemmas.Bool.{cases_eq}
use Rattle.std.proofs.lemmas.Bool.Decides.{nat_tests}
use Rattle.aio_timers.specs.Held.{Held}
use Rattle.aio_timers.specs.Rows.{one_if, times_in}
use Rattle.aio_timers.specs.Chains.{IsChain, IsTable, IsAmong, IsJustBefore, IsWithout, bucket_in}
use Rattle.aio_timers.proofs.CountLemmas.{one_if-same, one_if-other, some_or_none}
use Rattle.aio_timers.proofs.RunLemmas.{times-append, Split, split-at}

pub IsChain-frame : (f g : ℕ → Held) (n m : ℕ) (l : Option ℕ) (xs : List ℕ) → n ≤ m → ((j : ℕ) → 0 < times_in j xs → (g j).chain ≡ (f j).chain) → IsChain f n l xs → IsChain g m l xs
IsChain-frame f g n m l [] le same c = c
IsChain-frame f g n m l (i ∷ xs) le same c =
    let here : (g i).chain ≡ (f i).chain = same i (omega (arith, one_if-same i)) in
    (c.0, omega (arith, c.1, le), rw here (IsChain-frame f g n m (f i).chain xs le (λ j h. same j (omega (arith, h))) c.2))

same-test : (a : ℕ) → (a == a) ≡ true
same-test a = grind (arith, nat_tests)

other-test : (a b : ℕ) → a ≢ b → (a == b) ≡ false
other-test a b ne = grind (arith, nat_tests)

pub cond-zero : (b : Bool) (n : ℕ) → n ≡ 0 → ◌≡◌ {A = ℕ} (cond b n 0) 0
cond-zero true n z = z
cond-zero false n z = refl

pub cond-le : (b : Bool) (n : ℕ) → cond b n 0 ≤ n
cond-le true n = omega arith
cond-le false n = omega arith

cond-positive : (x b n : ℕ) → 0 < cond (x == b) n 0 → x ≡ b
cond-positive x b n h =
    elim (cases_eq x b) as (λ _. x ≡ b) [
      | inl e ↦ e
      | inr ne ↦ absurd (nothing (x == b) (other-test x b ne) h)
    ]
  where
    nothing : (t : Bool) → t ≡ false → 0 < cond t n 0 → ⊥
    nothing true e k = cc
    nothing false e k = omega (arith, k)

module _ (f : ℕ → Held) (n : ℕ) (bs : List (Option ℕ)) (used : ℕ → ℕ) (t : IsTable f n bs used) where
  -- what stands in a chain is in use
  pub in-use : (b j : ℕ) → b < length bs → 0 < times_in j (t.chains b) → 0 < used j
  in-use b j hb h = omega (arith, h, t.members b j hb, cond-le ((bucket_in (f j).id (length bs)) == b) (used j))

  pub in-bucket : (b j : ℕ) → b < length bs → 0 < times_in j (t.chains b) → bucket_in (f j).id (length bs) ≡ b
  in-bucket b j hb h = cond-positive (bucket_in (f j).id (length bs)) b (used j) (omega (arith, h, t.members b j hb))

  -- a node in use stands in the chain of its bucket
  pub in-chain : (k j : ℕ) → bucket_in (f j).id (length bs) ≡ k → k < length bs → times_in j (t.chains k) ≡ used j
  in-chain k j is hk =
      let test : ((bucket_in (f j).id (length bs)) == k) ≡ true = rw is (same-test k) in
      t.members k j hk ∙ ap (λ (b : Bool). cond b (used j) 0) test

-- links of nodes in use and their ids stay, and so does the table
pub IsTable-frame : (f g : ℕ → Held) (n m : ℕ) (bs : List (Option ℕ)) (used more : ℕ → ℕ) → n ≤ m → ((j : ℕ) → 0 < used j → ((g j).chain ≡ (f j).chain) × ((g j).id ≡ (f j).id)) → ((j : ℕ) → more j ≡ used j)
    → IsTable f n bs used → IsTable g m bs more
IsTable-frame f g n m bs used more le same equal t = record {
  chains = t.chains;
  linked = λ b hb. IsChain-frame f g n m (get_or bs b None) (t.chains b) le (λ j h. let both = same j (in-use f n bs used t b j hb h) in both.0) (t.linked b hb);
  members = λ b j hb. elim (some_or_none (used j)) as (λ _. times_in j (t.chains b) ≡ cond ((bucket_in (g j).id (length bs)) == b) (more j) 0) [
    | inl h ↦ let both = same j h in rw (equal j, both.1) (t.members b j hb)
    | inr z ↦ t.members b j hb ∙ cond-zero ((bucket_in (f j).id (length bs)) == b) (used j) z ∙ sym (cond-zero ((bucket_in (g j).id (length bs)) == b) (more j) (equal j ∙ z))
  ];
  single = λ j. omega (arith, equal j, t.single j);
}

-- ## A node joins its chain

pub joins : (f g : ℕ → Held) (n : ℕ) (bs : List (Option ℕ)) (at k : ℕ) (used more : ℕ → ℕ) → at < n → bucket_in (g at).id (length bs) ≡ k → k < length bs → used at ≡ 0 → (g at).chain ≡ get_or bs k None
    → ((j : ℕ) → j ≢ at → ((g j).chain ≡ (f j).chain) × ((g j).id ≡ (f j).id)) → IsWithout more used at → IsTable f n bs used → IsTable g n (set bs k (Some at)) more
joins f g n bs at k used more lt is kt none head same adds t =
    let row : length (set bs k (Some at)) ≡ length bs = length-set bs k _ in
    let out : (b : ℕ) → b < length bs → times_in at (t.chains b) ≡ 0 = λ b h. t.members b at h ∙ cond-zero ((bucket_in (f at).id (length bs)) == b) (used at) none in
    let apart : (b : ℕ) → b < length bs → (j : ℕ) → 0 < times_in j (t.chains b) → j ≢ at = λ b h j c e. omega (arith, out b h, c, ap (λ (i : ℕ). times_in i (t.chains b)) e) in
    record {
      chains = λ b. cond (b == k) (at ∷ t.chains k) (t.chains b);
      linked = λ b h. elim (cases_eq b k) as (λ _. IsChain g n (get_or (set bs k (Some at)) b None) (cond (b == k) (at ∷ t.chains k) (t.chains b))) [
        | inl e ↦ rw (e, same-test k) (get_or-set_same bs k (Some at) None kt, lt, rw head (IsChain-frame f g n n (get_or bs k None) (t.chains k) (omega arith) (λ j c. let both = same j (apart k kt j c) in both.0) (t.linked k kt)))
        | inr ne ↦ let hb : b < length bs = omega (arith, h, row) in rw (other-test b k ne, get_or-set_other bs k b (Some at) None ne) (IsChain-frame f g n n (get_or bs b None) (t.chains b) (omega arith) (λ j c. let both = same j (apart b hb j c) in both.0) (t.linked b hb))
      ];
      members = λ b j h. rw row (counted out b j (omega (arith, h, row)));
      single = λ j. elim (cases_eq j at) as (λ _. more j ≤ 1) [
        | inl e ↦ rw e (omega (arith, adds at, none, one_if-same at))
        | inr ne ↦ omega (arith, adds j, one_if-other j at ne, t.single j)
      ];
    }
  where
    counted : ((b : ℕ) → b < length bs → times_in at (t.chains b) ≡ 0) → (b j : ℕ) → b < length bs → times_in j (cond (b == k) (at ∷ t.chains k) (t.chains b)) ≡ cond ((bucket_in (g j).id (length bs)) == b) (more j) 0
    counted out b j hb =
        elim (cases_eq b k) as (λ _. times_in j (cond (b == k) (at ∷ t.chains k) (t.chains b)) ≡ cond ((bucket_in (g j).id (length bs)) == b) (more j) 0) [
          | inl e ↦ rw (e, same-test k) (elim (cases_eq j at) as (λ _. one_if j at + times_in j (t.chains k) ≡ cond ((bucket_in (g j).id (length bs)) == k) (more j) 0) [
            | inl f_ ↦ let test : ((bucket_in (g at).id (length bs)) == k) ≡ true = rw is (same-test k) in rw (f_, test) (omega (arith, out k kt, none, adds at, one_if-same at))
            | inr nf ↦ let both = same j nf in let as_used : more j ≡ used j = omega (arith, adds j, one_if-other j at nf) in rw (both.1, as_used) (omega (arith, one_if-other j at nf, t.members k j kt))
          ])
          | inr ne ↦ rw (other-test b k ne) (elim (cases_eq j at) as (λ _. times_in j (t.chains b) ≡ cond ((bucket_in (g j).id (length bs)) == b) (more j) 0) [
            | inl f_ ↦ let test : ((bucket_in (g at).id (length bs)) == b) ≡ false = rw is (other-test k b (λ x. ne (sym x))) in rw (f_, test) (out b hb)
            | inr nf ↦ let both = same j nf in let as_used : more j ≡ used j = omega (arith, adds j, one_if-other j at nf) in rw (both.1, as_used) (t.members b j hb)
          ])
        ]

-- ## A node leaves its chain

-- one chain is without a node, and the others are as they were
without : (f g : ℕ → Held) (n : ℕ) (bs ds : List (Option ℕ)) (at k : ℕ) (used left : ℕ → ℕ) (ks : List ℕ) → bucket_in (f at).id (length bs) ≡ k → k < length bs → length ds ≡ length bs
    → ((b : ℕ) → b ≢ k → get_or ds b None ≡ get_or bs b None) → ((j : ℕ) → (g j).id ≡ (f j).id) → (t : IsTable f n bs used)
    → ((b j : ℕ) → b < length bs → b ≢ k → 0 < times_in j (t.chains b) → (g j).chain ≡ (f j).chain)
    → IsChain g n (get_or ds k None) ks → ((j : ℕ) → times_in j (t.chains k) ≡ one_if j at + times_in j ks) → IsWithout used left at → IsTable g n ds left
without f g n bs ds at k used left ks is kt row others ids t same chain counts takes = record {
  chains = λ b. cond (b == k) ks (t.chains b);
  linked = λ b h. elim (cases_eq b k) as (λ _. IsChain g n (get_or ds b None) (cond (b == k) ks (t.chains b))) [
    | inl e ↦ rw (e, same-test k) chain
    | inr ne ↦ let hb : b < length bs = omega (arith, h, row) in rw (other-test b k ne, others b ne) (IsChain-frame f g n n (get_or bs b None) (t.chains b) (omega arith) (λ j c. same b j hb ne c) (t.linked b hb))
  ];
  members = λ b j h. rw (row, ids j) (counted b j (omega (arith, h, row)));
  single = λ j. omega (arith, takes j, t.single j);
}
  where
    counted : (b j : ℕ) → b < length bs → times_in j (cond (b == k) ks (t.chains b)) ≡ cond ((bucket_in (f j).id (length bs)) == b) (left j) 0
    counted b j hb =
        elim (cases_eq b k) as (λ _. times_in j (cond (b == k) ks (t.chains b)) ≡ cond ((bucket_in (f j).id (length bs)) == b) (left j) 0) [
          | inl e ↦ rw (e, same-test k) (elim (cases_eq j at) as (λ _. times_in j ks ≡ cond ((bucket_in (f j).id (length bs)) == k) (left j) 0) [
            | inl f_ ↦ let test : ((bucket_in (f at).id (length bs)) == k) ≡ true = rw is (same-test k) in rw (f_, test) (omega (arith, counts at, one_if-same at, in-chain f n bs used t k at is kt, takes at))
            | inr nf ↦ let as_used : left j ≡ used j = omega (arith, takes j, one_if-other j at nf) in rw as_used (omega (arith, counts j, one_if-other j at nf, t.members k j kt))
          ])
          | inr ne ↦ rw (other-test b k ne) (elim (cases_eq j at) as (λ _. times_in j (t.chains b) ≡ cond ((bucket_in (f j).id (length bs)) == b) (left j) 0) [
            | inl f_ ↦ let test : ((bucket_in (f at).id (length bs)) == b) ≡ false = rw is (other-test k b (λ x. ne (sym x))) in rw (f_, test) (t.members b at hb ∙ ap (λ (x : Bool). cond x (used at) 0) test)
            | inr nf ↦ let as_used : left j ≡ used j = omega (arith, takes j, one_if-other j at nf) in rw as_used (t.members b j hb)
          ])
        ]

-- the first of a chain, and those behind it
record Tail (f : ℕ → Held) (n at : ℕ) (ks : List ℕ) : Type 0 where
  more : List ℕ
  chain : IsChain f n (f at).chain more
  counts : (j : ℕ) → times_in j ks ≡ one_if j at + times_in j more

tail-of : (f : ℕ → Held) (n at : ℕ) (ks : List ℕ) → IsChain f n (Some at) ks → Tail f n at ks
tail-of f n at [] c = cc (c)
tail-of f n at (i ∷ more) c = let e : i ≡ at = cc (c.0) in rw (← e) (record { more = more; chain = c.2; counts = λ j. refl })

pub leaves-first : (f : ℕ → Held) (n : ℕ) (bs : List (Option ℕ)) (at k : ℕ) (used left : ℕ → ℕ) → bucket_in (f at).id (length bs) ≡ k → k < length bs → get_or bs k None ≡ Some at → IsWithout used left at
    → IsTable f n bs used → IsTable f n (set bs k (f at).chain) left
leaves-first f n bs at k used left is kt first takes t =
    let c : IsChain f n (Some at) (t.chains k) = rw (← first) (t.linked k kt) in
    let tail : Tail f n at (t.chains k) = tail-of f n at (t.chains k) c in
    without f f n bs (set bs k (f at).chain) at k used left tail.more is kt (length-set bs k _) (λ b ne. get_or-set_other bs k b _ None ne) (λ j. refl) t (λ b j hb ne h. refl)
    (rw (get_or-set_same bs k (f at).chain None kt) tail.chain) tail.counts takes

-- the link of the node before leads past it
bypass : (f g : ℕ → Held) (n before at : ℕ) (ahead back : List ℕ) (l : Option ℕ) → (g before).chain ≡ (f at).chain → ((j : ℕ) → j ≢ before → (g j).chain ≡ (f j).chain)
    → ((j : ℕ) → times_in j (ahead ++ before ∷ at ∷ back) ≤ 1) → IsChain f n l (ahead ++ before ∷ at ∷ back) → IsChain g n l (ahead ++ before ∷ back)
bypass f g n before at [] back l here same once c =
    (c.0, c.1, rw here (IsChain-frame f g n n (f at).chain back (omega arith) (λ j h. same j (λ e. omega (arith, once before, one_if-same before, h, ap (λ (x : ℕ). times_in x back) e))) c.2.2))
bypass f g n before at (x ∷ ahead) back l here same once c =
    let ne : x ≢ before = λ e. omega (arith, once before, times-append before ahead (before ∷ at ∷ back), one_if-same before, ap (one_if before) e) in
    (c.0, c.1, rw (same x ne) (bypass f g n before at ahead back (f x).chain here same (λ j. omega (arith, once j)) c.2))

pub leaves-behind : (f g : ℕ → Held) (n : ℕ) (bs : List (Option ℕ)) (at before k : ℕ) (front back : List ℕ) (used left : ℕ → ℕ) → bucket_in (f at).id (length bs) ≡ k → k < length bs
    → (g before).chain ≡ (f at).chain → ((j : ℕ) → j ≢ before → (g j).chain ≡ (f j).chain) → ((j : ℕ) → (g j).id ≡ (f j).id)
    → (t : IsTable f n bs used) → t.chains k ≡ front ++ at ∷ back → ((j : ℕ) → times_in j (t.chains k) ≤ 1) → IsJustBefore f n front before at → IsWithout used left at → IsTable g n bs left
leaves-behind f g n bs at before k front back used left is kt here same ids t parts once j_ takes =
    let long : t.chains k ≡ j_.ahead ++ before ∷ at ∷ back = parts ∙ ap (λ (xs : List ℕ). xs ++ at ∷ back) j_.is ∙ append_assoc j_.ahead (before ∷ []) (at ∷ back) in
    let counted : (j : ℕ) → times_in j (t.chains k) ≡ times_in j j_.ahead + (one_if j before + (one_if j at + times_in j back)) = λ j. ap (times_in j) long ∙ times-append j j_.ahead (before ∷ at ∷ back) in
    let once_ : (j : ℕ) → times_in j (j_.ahead ++ before ∷ at ∷ back) ≤ 1 = λ j. omega (arith, once j, ap (times_in j) long) in
    let c : IsChain f n (get_or bs k None) (j_.ahead ++ before ∷ at ∷ back) = rw (← long) (t.linked k kt) in
    let its : bucket_in (f before).id (length bs) ≡ k = in-bucket f n bs used t k before kt (omega (arith, counted before, one_if-same before)) in
    without f g n bs bs at k used left (j_.ahead ++ before ∷ back) is kt refl (λ b ne. refl) ids t
    (λ b j hb ne h. same j (λ e. ne (sym (in-bucket f n bs used t b j hb h) ∙ ap (λ (x : ℕ). bucket_in (f x).id (length bs)) e ∙ its)))
    (bypass f g n before at j_.ahead back (get_or bs k None) here same once_ c)
    (λ j. omega (arith, counted j, times-append j j_.ahead (before ∷ back))) takes

-- ## A node in its chain

pub first-below : (f : ℕ → Held) (n a : ℕ) (ks : List ℕ) → IsChain f n (Some a) ks → a < n
first-below f n a [] c = cc (c)
first-below f n a (i ∷ more) c = let e : i ≡ a = cc (c.0) in rw (← e) c.1

pub none-empty : (f : ℕ → Held) (n j : ℕ) (ks : List ℕ) → IsChain f n None ks → 0 < times_in j ks → ⊥
none-empty f n j [] c h = omega (arith, h)
none-empty f n j (i ∷ more) c h = cc (c.0)

-- where a node in use stands in its chain
pub record InItsChain (f : ℕ → Held) (n : ℕ) (head : Option ℕ) (ks : List ℕ) (at : ℕ) : Type 0 where
  pub front : List ℕ
  pub back : List ℕ
  pub is : ks ≡ front ++ at ∷ back
  pub among : IsAmong f n head at front back
  pub once : (j : ℕ) → times_in j ks ≤ 1

pub in-its-chain : (f : ℕ → Held) (n : ℕ) (bs : List (Option ℕ)) (at k : ℕ) (head : Option ℕ) (used : ℕ → ℕ) → bucket_in (f at).id (length bs) ≡ k → k < length bs → get_or bs k None ≡ head → used at ≡ 1
    → (t : IsTable f n bs used) → InItsChain f n head (t.chains k) at
in-its-chain f n bs at k head used is kt first one t =
    let a : Split at (t.chains k) = split-at at (t.chains k) (omega (arith, in-chain f n bs used t k at is kt, one)) in
    let once : (j : ℕ) → times_in j (t.chains k) ≤ 1 = λ j. omega (arith, t.members k j kt, cond-le ((bucket_in (f j).id (length bs)) == k) (used j), t.single j) in
    record {
      front = a.front;
      back = a.back;
      is = a.is;
      once = once;
      among = record { chain = rw (← a.is, ← first) (t.linked k kt); once = λ j. omega (arith, once j, ap (times_in j) a.is) };
    }
