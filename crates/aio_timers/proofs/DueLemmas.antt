-- The walk of the count: where it goes from a node, and what it has passed.
use Rattle.std.proofs.Common.{inl, inr, ◌≡◌, ◌≢◌, ℕ, suc, ◌+◌, ◌<◌, ◌≤◌, Bool, true, false, cond, List, [], ◌∷◌, ◌++◌, length, length-append, map, Option, None, Some, IfSome, arith, refl, sym, ap, ◌∙◌}
use Rattle.std.specs.Prelude.{MatchOption}
use Rattle.std.proofs.lemmas.Bool.{cases_eq}
use Rattle.std.proofs.lemmas.Bool.Decides.{nat_tests}
use Rattle.std.proofs.lemmas.List.{length-map}
use Rattle.aio_timers.specs.declared.node.Node.{Node}
use Rattle.aio_timers.specs.Held.{Held, IsUsed, held_at, helds, node_at}
use Rattle.aio_timers.specs.Precedes.{precedes}
use Rattle.aio_timers.specs.Rows.{one_if, times_in, IsRun, IsRow, IsRunOnce, steps_from}
use Rattle.aio_timers.specs.Writes.{leads_to}
use Rattle.aio_timers.specs.Family.{Family, IsFamily, IsParent, IsTop}
use Rattle.aio_timers.specs.Heap.{IsHeap, IsRoot}
use Rattle.aio_timers.specs.Due.{is_due, due_in, led_by, NoneDue, IsLastDueAt, IsLastDue, Down, Trail, IsOnTrail, ahead, GoesTo, WalksOn, GoesPast}
use Rattle.aio_timers.proofs.CountLemmas.{one_if-same, one_if-other, one_if-le, some_or_none}
use Rattle.aio_timers.proofs.RunLemmas.{used-within, times-append, once-le, run-within, row-run, steps-of-run, by-order}
use Rattle.aio_timers.proofs.WriteLemmas.{leads-same, leads-other}
use Rattle.aio_timers.proofs.FamilyLemmas.{below-has, has-below, none-below, once-below, not-before, no-own-child, row-first}
use Rattle.aio_timers.proofs.LeastLemmas.{precedes-trans, rootless}
use Rattle.aio_timers.proofs.DueCountLemmas.{one_due, due_among, due_among-le, count-all}

-- ## A list with others in front of it

pub led-times : (j : ℕ) (xs ks : List ℕ) → times_in j (led_by xs ks) ≡ times_in j xs + times_in j ks
led-times j [] ks = omega arith
led-times j (x ∷ xs) ks = omega (arith, led-times j xs (x ∷ ks))

-- what leads back from the rest of a row, and on to it
abbrev nearest : ℕ → List ℕ → ℕ
nearest b [] = b
nearest b (x ∷ xs) = x

abbrev link_on : List Node → Option ℕ → List ℕ → Option ℕ
link_on ns l [] = l
link_on ns l (x ∷ xs) = (node_at ns x).next

led-row : (ns : List Node) (b : ℕ) (l : Option ℕ) (xs ks : List ℕ) → IsRow ns b l (led_by xs ks) → IsRow ns (nearest b xs) (link_on ns l xs) ks
led-row ns b l [] ks r = r
led-row ns b l (x ∷ xs) ks r = let h : IsRow ns (nearest b xs) (link_on ns l xs) (x ∷ ks) = led-row ns b l xs (x ∷ ks) r in h.3

-- ## The last of a row that is due

led-length : (xs ks : List ℕ) → length (led_by xs ks) ≡ length xs + length ks
led-length [] ks = omega arith
led-length (x ∷ xs) ks = omega (arith, led-length xs (x ∷ ks))

led-both : (xs ys ks : List ℕ) → led_by (xs ++ ys) ks ≡ led_by ys (led_by xs ks)
led-both [] ys ks = refl
led-both (x ∷ xs) ys ks = led-both xs ys (x ∷ ks)

-- of the nodes of a row that were looked at, the nearest first, the last one that is due
pub record Nearest (held : ℕ → Held) (now : ℕ) (seen : List ℕ) (i : ℕ) : Type 0 where
  pub near : List ℕ
  pub far : List ℕ
  pub is : seen ≡ near ++ i ∷ far
  pub others : NoneDue held now near

-- a row was looked at up to a link
pub record Sees (ns : List Node) (now : ℕ) (ks : List ℕ) (link last : Option ℕ) : Type 0 where
  pub seen : List ℕ
  pub left : List ℕ
  pub is : ks ≡ led_by seen left
  pub run : IsRun ns link left
  pub found : MatchOption last (NoneDue (held_at ns) now seen) (λ i. Nearest (held_at ns) now seen i)

pub sees-start : (ns : List Node) (now : ℕ) (ks : List ℕ) (first : Option ℕ) → IsRunOnce ns first ks → Sees ns now ks first None
sees-start ns now ks first r = record { seen = []; left = ks; is = refl; run = r.run; found = λ j more. absurd (omega (arith, more)) }

pub sees-end : (ns : List Node) (now : ℕ) (ks : List ℕ) (link last : Option ℕ) → link ≡ None → Sees ns now ks link last → IsLastDue (held_at ns) now ks last
sees-end ns now ks link last none s = go s.left s.is s.run last s.found
  where
    go : (left : List ℕ) → ks ≡ led_by s.seen left → IsRun ns link left → (last : Option ℕ) → MatchOption last (NoneDue (held_at ns) now s.seen) (λ i. Nearest (held_at ns) now s.seen i) → IsLastDue (held_at ns) now ks last
    go (x ∷ xs) is r last found = cc (sym none ∙ r.0)
    go [] is r None found = λ j more. found j (omega (arith, more, ap (times_in j) is, led-times j s.seen []))
    go [] is r (Some i) found = record {
      before = found.far;
      back = led_by found.near [];
      is = is ∙ ap (λ (xs : List ℕ). led_by xs []) found.is ∙ led-both found.near (i ∷ found.far) [];
      others = λ j more. found.others j (omega (arith, more, led-times j found.near []));
    }

-- one node more
pub record SeesOn (ns : List Node) (now : ℕ) (ks : List ℕ) (i : ℕ) (last : Option ℕ) : Type 0 where
  pub within : i < length ns
  pub shorter : steps_from (length ns) ns (node_at ns i).next < steps_from (length ns) ns (Some i)
  pub due : is_due now (held_at ns i) ≡ true → Sees ns now ks (node_at ns i).next (Some i)
  pub other : is_due now (held_at ns i) ≡ false → Sees ns now ks (node_at ns i).next last

pub sees-on : (ns : List Node) (now : ℕ) (ks : List ℕ) (first link last : Option ℕ) (i : ℕ) → IsRunOnce ns first ks → link ≡ Some i → Sees ns now ks link last → SeesOn ns now ks i last
sees-on ns now ks first link last i whole here s = go s.left s.is s.run
  where
    le : length ks ≤ length ns
    le = once-le (length ns) ks whole.once (λ k more. run-within ns first ks k whole.run more)

    further : (o : Option ℕ) → is_due now (held_at ns i) ≡ false → MatchOption o (NoneDue (held_at ns) now s.seen) (λ k. Nearest (held_at ns) now s.seen k)
        → MatchOption o (NoneDue (held_at ns) now (i ∷ s.seen)) (λ k. Nearest (held_at ns) now (i ∷ s.seen) k)
    further None miss found = also s.seen miss found
      where
        also : (xs : List ℕ) → is_due now (held_at ns i) ≡ false → NoneDue (held_at ns) now xs → NoneDue (held_at ns) now (i ∷ xs)
        also xs miss none j more = elim (cases_eq j i) as (λ _. is_due now (held_at ns j) ≡ false) [
          | inl e ↦ rw e miss
          | inr ne ↦ none j (omega (arith, more, one_if-other j i ne))
        ]
    further (Some k) miss found = record {
      near = i ∷ found.near;
      far = found.far;
      is = ap (λ (xs : List ℕ). i ∷ xs) found.is;
      others = λ j more. elim (cases_eq j i) as (λ _. is_due now (held_at ns j) ≡ false) [
        | inl e ↦ rw e miss
        | inr ne ↦ found.others j (omega (arith, more, one_if-other j i ne))
      ];
    }

    go : (left : List ℕ) → ks ≡ led_by s.seen left → IsRun ns link left → SeesOn ns now ks i last
    go [] is r = cc (sym here ∙ r)
    go (x ∷ xs) is r =
        let same : x ≡ i = cc (sym r.0 ∙ here) in
        let len : length ks ≡ length s.seen + suc (length xs) = ap length is ∙ led-length s.seen (x ∷ xs) in
        let more : steps_from (length ns) ns (Some x) ≡ suc (length xs) = steps-of-run (length ns) ns (Some x) (x ∷ xs) (refl, r.1, r.2) (omega (arith, le, len)) in
        let fewer : steps_from (length ns) ns (node_at ns x).next ≡ length xs = steps-of-run (length ns) ns (node_at ns x).next xs r.2 (omega (arith, le, len)) in
        let is_i : ks ≡ led_by (i ∷ s.seen) xs = is ∙ ap (λ (k : ℕ). led_by s.seen (k ∷ xs)) same in
        let run_i : IsRun ns (node_at ns i).next xs = rw (← same) r.2 in
        record {
          within = rw (← same) r.1;
          shorter = rw (← same) (omega (arith, more, fewer));
          due = λ yes. record { seen = i ∷ s.seen; left = xs; is = is_i; run = run_i; found = record { near = []; far = s.seen; is = refl; others = λ j h. absurd (omega (arith, h)) } };
          other = λ miss. record { seen = i ∷ s.seen; left = xs; is = is_i; run = run_i; found = further last miss s.found };
        }

-- ## The way up

pub on-used : (ns : List Node) (f : Family) (i : ℕ) (t : Trail) → IsFamily ns f → IsOnTrail ns f i t → IsUsed (held_at ns i)
on-used ns f i [] h on = on.used
on-used ns f i (d ∷ t) h on = let p : IsParent ns d.parent i = h.order d.parent i on.1 in p.child

pub on-within : (ns : List Node) (f : Family) (i : ℕ) (t : Trail) → IsFamily ns f → IsOnTrail ns f i t → i < length ns
on-within ns f i t h on = used-within ns i (on-used ns f i t h on)

abbrev up : Trail → List ℕ
up t = map (λ (d : Down). d.parent) t

record Above (ns : List Node) (p i : ℕ) : Type 0 where
  used : IsUsed (held_at ns p)
  before : precedes (held_at ns p) (held_at ns i) ≡ true

above : (ns : List Node) (f : Family) (i : ℕ) (t : Trail) (p : ℕ) → IsFamily ns f → IsOnTrail ns f i t → 0 < times_in p (up t) → Above ns p i
above ns f i [] p h on more = absurd (omega (arith, more))
above ns f i (d ∷ t) p h on more =
    let q : IsParent ns d.parent i = h.order d.parent i on.1 in
    elim (cases_eq p d.parent) as (λ _. Above ns p i) [
      | inl e ↦ rw e (record { used = q.parent; before = q.before })
      | inr ne ↦
          let a : Above ns p d.parent = above ns f d.parent t p h on.2 (omega (arith, more, one_if-other p d.parent ne)) in
          record { used = a.used; before = precedes-trans (held_at ns p) (held_at ns d.parent) (held_at ns i) a.before q.before }
    ]

lineage-once : (ns : List Node) (f : Family) (i : ℕ) (t : Trail) → IsFamily ns f → IsOnTrail ns f i t → (j : ℕ) → times_in j (i ∷ up t) ≤ 1
lineage-once ns f i [] h on j = omega (arith, one_if-le j i)
lineage-once ns f i (d ∷ t) h on j = elim (cases_eq j i) as (λ _. times_in j (i ∷ up (d ∷ t)) ≤ 1) [
  | inl e ↦ omega (arith, one_if-le j i, ap (λ (k : ℕ). times_in k (up (d ∷ t))) e ∙ own)
  | inr ne ↦ omega (arith, one_if-other j i ne, lineage-once ns f d.parent t h on.2 j)
]
  where
    own : times_in i (up (d ∷ t)) ≡ 0
    own = elim (some_or_none (times_in i (up (d ∷ t)))) as (λ _. times_in i (up (d ∷ t)) ≡ 0) [
      | inl more ↦ let a : Above ns i i = above ns f i (d ∷ t) i h on more in absurd (not-before (held_at ns i) a.before)
      | inr none ↦ none
    ]

-- a way up is shorter than the row of all nodes
pub trail-short : (ns : List Node) (f : Family) (i : ℕ) (t : Trail) → IsFamily ns f → IsOnTrail ns f i t → length t < length ns
trail-short ns f i t h on =
    let le : length (i ∷ up t) ≤ length ns = once-le (length ns) (i ∷ up t) (lineage-once ns f i t h on) (λ j more. used-within ns j (used j more)) in
    omega (arith, le, length-map t (λ (d : Down). d.parent))
  where
    used : (j : ℕ) → 0 < times_in j (i ∷ up t) → IsUsed (held_at ns j)
    used j more = elim (cases_eq j i) as (λ _. IsUsed (held_at ns j)) [
      | inl e ↦ rw e (on-used ns f i t h on)
      | inr ne ↦ let a : Above ns j i = above ns f i t j h on (omega (arith, more, one_if-other j i ne)) in a.used
    ]

-- ## Back from a node

-- the link back leads to the parent
pub record Climbs (ns : List Node) (f : Family) (t : Trail) (p : ℕ) : Type 0 where
  pub trail : Trail
  pub is : IsOnTrail ns f p trail
  pub same : (j : ℕ) → times_in j (ahead t) ≡ times_in j (ahead trail)
  pub shorter : length t ≡ suc (length trail)

-- the three ways back
pub record Back (ns : List Node) (f : Family) (t : Trail) (i : ℕ) : Type 0 where
  pub none : (node_at ns i).prev ≡ None → WalksOn ns f [] t None
  pub climbs : (p : ℕ) → (node_at ns i).prev ≡ Some p → leads_to (node_at ns p).child i ≡ true → Climbs ns f t p
  pub goes : (p : ℕ) → (node_at ns i).prev ≡ Some p → leads_to (node_at ns p).child i ≡ false → GoesTo ns f [] t p
  pub within : (p : ℕ) → (node_at ns i).prev ≡ Some p → p < length ns

root-prev : (ns : List Node) (root free : Option ℕ) (i : ℕ) (h : IsHeap ns root free) → IsTop ns h.family i → (node_at ns i).prev ≡ None
root-prev ns root free i h top = go root (h.single i top) h.root_is
  where
    go : (o : Option ℕ) → o ≡ Some i → IfSome o (λ r. IsRoot ns h.family r) → (node_at ns i).prev ≡ None
    go None e is = cc
    go (Some r) e is = let same : i ≡ r = cc in rw same is.prev

pub back : (ns : List Node) (root free : Option ℕ) (i : ℕ) (t : Trail) (h : IsHeap ns root free) → IsOnTrail ns h.family i t → Back ns h.family t i
back ns root free i [] h on =
    let none : (node_at ns i).prev ≡ None = root-prev ns root free i h on in
    record {
      none = λ e j. refl;
      climbs = λ p e l. absurd (differ p (sym none ∙ e));
      goes = λ p e l. absurd (differ p (sym none ∙ e));
      within = λ p e. absurd (differ p (sym none ∙ e));
    }
  where
    differ : (p : ℕ) → ◌≡◌ {A = Option ℕ} None (Some p) → ⊥
    differ p e = cc
back ns root free i (d ∷ t) h on = go d.before on.0
  where
    f : Family
    f = h.family

    q : IsParent ns d.parent i
    q = h.rows.order d.parent i on.1

    row : (xs : List ℕ) → f.below d.parent ≡ led_by xs (i ∷ d.back) → IsRow ns (nearest d.parent xs) (link_on ns (node_at ns d.parent).child xs) (i ∷ d.back)
    row xs e = led-row ns d.parent (node_at ns d.parent).child xs (i ∷ d.back) (rw (← e) (h.rows.linked d.parent q.parent))

    some : {p : ℕ} → ◌≡◌ {A = Option ℕ} None (Some p) → ⊥
    some e = cc

    clash : true ≡ false → ⊥
    clash e = cc

    child-used : (x : ℕ) → f.above x ≡ Some d.parent → IsUsed (held_at ns x)
    child-used x e = let p : IsParent ns d.parent x = h.rows.order d.parent x e in p.child

    x-below : (x : ℕ) (xs : List ℕ) → f.below d.parent ≡ led_by (x ∷ xs) (i ∷ d.back) → f.above x ≡ Some d.parent
    x-below x xs e = below-has ns f d.parent x h.rows q.parent (omega (arith, ap (times_in x) e, led-times x (x ∷ xs) (i ∷ d.back), one_if-same x))

    -- a sibling has not this node as its child
    stranger : (x : ℕ) → f.above x ≡ Some d.parent → (node_at ns x).child ≢ Some i
    stranger x e c =
        let used : IsUsed (held_at ns x) = child-used x e in
        let its : f.above i ≡ Some x = below-has ns f x i h.rows used (row-first ns x (node_at ns x).child (f.below x) i (h.rows.linked x used) c) in
        let same : d.parent ≡ x = cc (sym on.1 ∙ its) in
        no-own-child ns f x h.rows (e ∙ ap (λ (k : ℕ). Some k) same)

    go : (xs : List ℕ) → f.below d.parent ≡ led_by xs (i ∷ d.back) → Back ns f (record { parent = d.parent; before = xs; back = d.back } ∷ t) i
    go [] e =
        let r : IsRow ns d.parent (node_at ns d.parent).child (i ∷ d.back) = row [] e in
        record {
          none = λ n. absurd (some (sym n ∙ r.2));
          climbs = λ p b l. let same : p ≡ d.parent = cc (sym b ∙ r.2) in rw same (record { trail = t; is = on.2; same = λ j. refl; shorter = refl });
          goes = λ p b l.
              let same : p ≡ d.parent = cc (sym b ∙ r.2) in
              let its : leads_to (node_at ns p).child i ≡ true = rw same (ap (λ (k : Option ℕ). leads_to k i) r.0 ∙ leads-same i) in
              absurd (clash (sym its ∙ l));
          within = λ p b. let same : p ≡ d.parent = cc (sym b ∙ r.2) in rw same (used-within ns d.parent q.parent);
        }
    go (x ∷ xs) e =
        let r : IsRow ns x (node_at ns x).next (i ∷ d.back) = row (x ∷ xs) e in
        record {
          none = λ n. absurd (some (sym n ∙ r.2));
          climbs = λ p b l.
              let same : p ≡ x = cc (sym b ∙ r.2) in
              let its : leads_to (node_at ns p).child i ≡ false = rw same (leads-other (node_at ns x).child i (stranger x (x-below x xs e))) in
              absurd (clash (sym l ∙ its));
          goes = λ p b l. let same : p ≡ x = cc (sym b ∙ r.2) in rw same (record {
            trail = record { parent = d.parent; before = xs; back = i ∷ d.back } ∷ t;
            is = (e, x-below x xs e, on.2);
            same = λ j. omega arith;
          });
          within = λ p b. let same : p ≡ x = cc (sym b ∙ r.2) in rw same (used-within ns x (child-used x (x-below x xs e)));
        }

-- ## Down to the children

pub goes-down : (ns : List Node) (f : Family) (now i c : ℕ) (t : Trail) → IsFamily ns f → IsOnTrail ns f i t → IsLastDueAt (held_at ns) now (f.below i) c → GoesPast ns f now (f.below i) t (Some c)
goes-down ns f now i c t h on last = record {
  kept = led_by last.before (c ∷ []);
  others = last.back;
  parts = λ j. omega (arith, parts j, led-times j last.before (c ∷ []));
  used = λ j more. child-used j (omega (arith, more, parts j));
  idle = last.others;
  goes = record {
    trail = record { parent = i; before = last.before; back = last.back } ∷ t;
    is = (last.is, below-has ns f i c h (on-used ns f i t h on) (omega (arith, parts c, one_if-same c)), on);
    same = λ j. omega (arith, led-times j last.before (c ∷ []), times-append j last.before (ahead t));
  };
}
  where
    parts : (j : ℕ) → times_in j (f.below i) ≡ times_in j last.before + (one_if j c + times_in j last.back)
    parts j = ap (times_in j) last.is ∙ led-times j last.before (c ∷ last.back)

    child-used : (j : ℕ) → 0 < times_in j (f.below i) → IsUsed (held_at ns j)
    child-used j more = let p : IsParent ns i j = h.order i j (below-has ns f i j h (on-used ns f i t h on) more) in p.child

pub children : (ns : List Node) (f : Family) (i : ℕ) → IsFamily ns f → IsUsed (held_at ns i) → IsRunOnce ns (node_at ns i).child (f.below i)
children ns f i h u = record { run = row-run ns i (node_at ns i).child (f.below i) (h.linked i u); once = λ j. once-below ns f i j h u }

-- no child is due
pub goes-by : (ns : List Node) (f : Family) (now i : ℕ) (t : Trail) (to : Option ℕ) → IsFamily ns f → IsUsed (held_at ns i) → NoneDue (held_at ns) now (f.below i) → WalksOn ns f [] t to → GoesPast ns f now (f.below i) t to
goes-by ns f now i t to h u none g = record {
  kept = [];
  others = f.below i;
  parts = λ j. omega arith;
  used = λ j more. let p : IsParent ns i j = h.order i j (below-has ns f i j h u more) in p.child;
  idle = none;
  goes = g;
}

-- there are no children to go to
pub goes-back : (ns : List Node) (f : Family) (now : ℕ) (t : Trail) (to : Option ℕ) → WalksOn ns f [] t to → GoesPast ns f now [] t to
goes-back ns f now t to g = record { kept = []; others = []; parts = λ j. refl; used = λ j more. absurd (omega (arith, more)); idle = λ j more. absurd (omega (arith, more)); goes = g }

-- ## What was passed

-- Each child of a node that is due is passed or still to come where its parent was passed; of other nodes none is.
pub record Passed (ns : List Node) (f : Family) (now : ℕ) (coming visited : List ℕ) : Type 0 where
  pub used : (j : ℕ) → 0 < times_in j visited → IsUsed (held_at ns j)
  pub top : (j : ℕ) → IsTop ns f j → times_in j visited + times_in j coming ≡ 1
  pub child : (j d : ℕ) → f.above j ≡ Some d → times_in j visited + times_in j coming ≡ cond (is_due now (held_at ns d)) (times_in d visited) 0

root-top : (ns : List Node) (root free : Option ℕ) (top : ℕ) (h : IsHeap ns root free) → root ≡ Some top → IsTop ns h.family top
root-top ns root free top h e = go root e h.root_is
  where
    go : (o : Option ℕ) → o ≡ Some top → IfSome o (λ r. IsRoot ns h.family r) → IsTop ns h.family top
    go None k is = cc
    go (Some r) k is = let same : top ≡ r = cc in rw same is.top

passed-start : (ns : List Node) (root free : Option ℕ) (now top : ℕ) (h : IsHeap ns root free) → root ≡ Some top → Passed ns h.family now (top ∷ []) []
passed-start ns root free now top h is = record {
  used = λ j more. absurd (omega (arith, more));
  top = λ j t. let same : j ≡ top = cc (sym (h.single j t) ∙ is) in rw same (omega (arith, one_if-same top));
  child = λ j d e. omega (arith, one_if-other j top (lower j d e), none (is_due now (held_at ns d)));
}
  where
    none : (b : Bool) → ◌≡◌ {A = ℕ} (cond b 0 0) 0
    none true = refl
    none false = refl

    lower : (j d : ℕ) → h.family.above j ≡ Some d → j ≢ top
    lower j d e same = differ (sym (root-top ns root free top h is).free ∙ ap h.family.above (sym same) ∙ e)
      where
        differ : ◌≡◌ {A = Option ℕ} None (Some d) → ⊥
        differ k = cc

pub passed-on : (ns : List Node) (f : Family) (now at : ℕ) (rest next visited : List ℕ) → IsFamily ns f → IsUsed (held_at ns at)
    → ((j : ℕ) → times_in j (cond (is_due now (held_at ns at)) (f.below at) []) + times_in j rest ≡ times_in j next) → Passed ns f now (at ∷ rest) visited → Passed ns f now next (at ∷ visited)
passed-on ns f now at rest next visited h u same p = record {
  used = λ j more. elim (cases_eq j at) as (λ _. IsUsed (held_at ns j)) [
    | inl e ↦ rw e u
    | inr ne ↦ p.used j (omega (arith, more, one_if-other j at ne))
  ];
  top = λ j t. omega (arith, p.top j t, same j, no-kid (is_due now (held_at ns at)) j (stranger j t));
  child = λ j d e. elim (cases_eq d at) as (λ _. times_in j (at ∷ visited) + times_in j next ≡ cond (is_due now (held_at ns d)) (times_in d (at ∷ visited)) 0) [
    | inl is ↦ omega (arith, p.child j d e, same j, own j d is e)
    | inr ne ↦ omega (arith, p.child j d e, same j, no-kid (is_due now (held_at ns at)) j (none-below ns f at j h u (λ k. ne (cc (sym e ∙ k)))), as-before (is_due now (held_at ns d)) d ne)
  ];
}
  where
    no-kid : (b : Bool) (j : ℕ) → times_in j (f.below at) ≡ 0 → times_in j (cond b (f.below at) []) ≡ 0
    no-kid true j e = e
    no-kid false j e = refl

    stranger : (j : ℕ) → IsTop ns f j → times_in j (f.below at) ≡ 0
    stranger j t = none-below ns f at j h u (λ k. differ (sym t.free ∙ k))
      where
        differ : ◌≡◌ {A = Option ℕ} None (Some at) → ⊥
        differ k = cc

    as-before : (b : Bool) (d : ℕ) → d ≢ at → cond b (times_in d (at ∷ visited)) 0 ≡ cond b (times_in d visited) 0
    as-before true d ne = omega (arith, one_if-other d at ne)
    as-before false d ne = refl

    counted : (b : Bool) (j : ℕ) → f.above j ≡ Some at → cond b (times_in at (at ∷ visited)) 0 ≡ times_in j (cond b (f.below at) []) + cond b (times_in at visited) 0
    counted true j e = omega (arith, has-below ns f at j h e, one_if-same at)
    counted false j e = refl

    own : (j d : ℕ) → d ≡ at → f.above j ≡ Some d
        → cond (is_due now (held_at ns d)) (times_in d (at ∷ visited)) 0 ≡ times_in j (cond (is_due now (held_at ns at)) (f.below at) []) + cond (is_due now (held_at ns d)) (times_in d visited) 0
    own j d is e = omega (
      arith,
      ap (λ (k : ℕ). cond (is_due now (held_at ns k)) (times_in k (at ∷ visited)) 0) is,
      ap (λ (k : ℕ). cond (is_due now (held_at ns k)) (times_in k visited) 0) is,
      counted (is_due now (held_at ns at)) j (e ∙ ap (λ (k : ℕ). Some k) is),
    )

-- some that are not due are passed by, and with them all below them
pub passed-over : (ns : List Node) (f : Family) (now : ℕ) (coming rest others visited : List ℕ) → ((j : ℕ) → times_in j coming ≡ times_in j rest + times_in j others) → ((j : ℕ) → 0 < times_in j others → IsUsed (held_at ns j))
    → NoneDue (held_at ns) now others → Passed ns f now coming visited → Passed ns f now rest (others ++ visited)
passed-over ns f now coming rest others visited parts used idle p = record {
  used = λ j more. elim (some_or_none (times_in j others)) as (λ _. IsUsed (held_at ns j)) [
    | inl some ↦ used j some
    | inr none ↦ p.used j (omega (arith, more, none, times-append j others visited))
  ];
  top = λ j t. omega (arith, p.top j t, parts j, times-append j others visited);
  child = λ j d e. omega (arith, p.child j d e, parts j, times-append j others visited, as_before d);
}
  where
    clash : (d : ℕ) → is_due now (held_at ns d) ≡ true → times_in d others ≡ 0
    clash d due = elim (some_or_none (times_in d others)) as (λ _. times_in d others ≡ 0) [
      | inl some ↦ cc (sym due ∙ idle d some)
      | inr none ↦ none
    ]

    as_before : (d : ℕ) → cond (is_due now (held_at ns d)) (times_in d (others ++ visited)) 0 ≡ cond (is_due now (held_at ns d)) (times_in d visited) 0
    as_before d = elim (is_due now (held_at ns d)) as (λ b. is_due now (held_at ns d) ≡ b → cond b (times_in d (others ++ visited)) 0 ≡ cond b (times_in d visited) 0) [
      | true ↦ λ due. omega (arith, clash d due, times-append d others visited)
      | false ↦ λ _. refl
    ] refl

-- no node is passed twice, nor passed and still to come
pub passed-both : (ns : List Node) (f : Family) (now : ℕ) (coming visited : List ℕ) → IsFamily ns f → Passed ns f now coming visited → (j : ℕ) → IsUsed (held_at ns j) → times_in j visited + times_in j coming ≤ 1
passed-both ns f now coming visited h p = by-order (held_at ns) (λ j. IsUsed (held_at ns j) → times_in j visited + times_in j coming ≤ 1) (λ j earlier u. go j (f.above j) refl earlier u)
  where
    fewer : (b : Bool) (n : ℕ) → n ≤ 1 → cond b n 0 ≤ 1
    fewer true n le = le
    fewer false n le = omega arith

    go : (j : ℕ) (o : Option ℕ) → f.above j ≡ o → ((i : ℕ) → precedes (held_at ns i) (held_at ns j) ≡ true → IsUsed (held_at ns i) → times_in i visited + times_in i coming ≤ 1)
        → IsUsed (held_at ns j) → times_in j visited + times_in j coming ≤ 1
    go j None e earlier u = omega (arith, p.top j (record { used = u; free = e }))
    go j (Some i) e earlier u =
        let q : IsParent ns i j = h.order i j e in
        omega (arith, p.child j i e, fewer (is_due now (held_at ns i)) (times_in i visited) (omega (arith, earlier i q.before q.parent)))

-- while one is to come, fewer were passed than there are
pub passed-short : (ns : List Node) (f : Family) (now at : ℕ) (rest visited : List ℕ) → IsFamily ns f → IsUsed (held_at ns at) → Passed ns f now (at ∷ rest) visited → length visited < length ns
passed-short ns f now at rest visited h u p = once-le (length ns) (at ∷ visited) once (λ j more. used-within ns j (used j more))
  where
    used : (j : ℕ) → 0 < times_in j (at ∷ visited) → IsUsed (held_at ns j)
    used j more = elim (cases_eq j at) as (λ _. IsUsed (held_at ns j)) [
      | inl e ↦ rw e u
      | inr ne ↦ p.used j (omega (arith, more, one_if-other j at ne))
    ]

    once : (j : ℕ) → times_in j (at ∷ visited) ≤ 1
    once j = elim (some_or_none (times_in j (at ∷ visited))) as (λ _. times_in j (at ∷ visited) ≤ 1) [
      | inl more ↦ omega (arith, passed-both ns f now (at ∷ rest) visited h p j (used j more))
      | inr none ↦ omega (arith, none)
    ]

-- at the end each one that is due was passed
pub passed-all : (ns : List Node) (f : Family) (now : ℕ) (visited : List ℕ) → IsFamily ns f → Passed ns f now [] visited → (j : ℕ) → IsUsed (held_at ns j) → is_due now (held_at ns j) ≡ true → times_in j visited ≡ 1
passed-all ns f now visited h p = by-order (held_at ns) (λ j. IsUsed (held_at ns j) → is_due now (held_at ns j) ≡ true → times_in j visited ≡ 1) (λ j earlier u due. go j (f.above j) refl earlier u due)
  where
    sooner : (a b : Held) → precedes a b ≡ true → is_due now b ≡ true → is_due now a ≡ true
    sooner a b k due = grind (arith, nat_tests)

    taken : (b : Bool) (n : ℕ) → b ≡ true → cond b n 0 ≡ n
    taken true n e = refl
    taken false n e = cc

    go : (j : ℕ) (o : Option ℕ) → f.above j ≡ o → ((i : ℕ) → precedes (held_at ns i) (held_at ns j) ≡ true → IsUsed (held_at ns i) → is_due now (held_at ns i) ≡ true → times_in i visited ≡ 1)
        → IsUsed (held_at ns j) → is_due now (held_at ns j) ≡ true → times_in j visited ≡ 1
    go j None e earlier u due = omega (arith, p.top j (record { used = u; free = e }))
    go j (Some i) e earlier u due =
        let q : IsParent ns i j = h.order i j e in
        let also : is_due now (held_at ns i) ≡ true = sooner (held_at ns i) (held_at ns j) q.before due in
        omega (arith, p.child j i e, taken (is_due now (held_at ns i)) (times_in i visited) also, earlier i q.before q.parent also)

-- ## The loops

-- a node that was reached by so many steps up
pub record Climbed (ns : List Node) (f : Family) (t : Trail) (i n : ℕ) : Type 0 where
  pub trail : Trail
  pub is : IsOnTrail ns f i trail
  pub same : (j : ℕ) → times_in j (ahead t) ≡ times_in j (ahead trail)
  pub short : length trail + n < length ns

pub climb-start : (ns : List Node) (f : Family) (t : Trail) (i : ℕ) → IsFamily ns f → IsOnTrail ns f i t → Climbed ns f t i 0
climb-start ns f t i h on = record { trail = t; is = on; same = λ j. refl; short = omega (arith, trail-short ns f i t h on) }

-- the end of the way back, and each step of it
pub record Steps (ns : List Node) (f : Family) (t : Trail) (i n : ℕ) : Type 0 where
  pub none : (node_at ns i).prev ≡ None → WalksOn ns f [] t None
  pub climbs : (p : ℕ) → (node_at ns i).prev ≡ Some p → leads_to (node_at ns p).child i ≡ true → Climbed ns f t p (n + 1)
  pub goes : (p : ℕ) → (node_at ns i).prev ≡ Some p → leads_to (node_at ns p).child i ≡ false → GoesTo ns f [] t p
  pub within : (p : ℕ) → (node_at ns i).prev ≡ Some p → p < length ns
  pub here : i < length ns

pub steps : (ns : List Node) (root free : Option ℕ) (t : Trail) (i n : ℕ) (h : IsHeap ns root free) → Climbed ns h.family t i n → Steps ns h.family t i n
steps ns root free t i n h c =
    let b : Back ns h.family c.trail i = back ns root free i c.trail h c.is in
    record {
      none = λ e j. omega (arith, c.same j, b.none e j);
      climbs = λ p e l.
          let m : Climbs ns h.family c.trail p = b.climbs p e l in
          record { trail = m.trail; is = m.is; same = λ j. omega (arith, c.same j, m.same j); short = omega (arith, c.short, m.shorter) };
      goes = λ p e l.
          let g : GoesTo ns h.family [] c.trail p = b.goes p e l in
          record { trail = g.trail; is = g.is; same = λ j. omega (arith, c.same j, g.same j) };
      within = b.within;
      here = used-within ns i (on-used ns h.family i c.trail h.rows c.is);
    }

-- the walk stands at a node after so many steps, and what it passed was counted
pub record Walked (ns : List Node) (f : Family) (now i count n : ℕ) : Type 0 where
  pub trail : Trail
  pub is : IsOnTrail ns f i trail
  pub visited : List ℕ
  pub passed : Passed ns f now (i ∷ ahead trail) visited
  pub count_is : count ≡ due_among (held_at ns) now visited
  pub len : n ≤ length visited

pub walk-start : (ns : List Node) (root free : Option ℕ) (now top : ℕ) (h : IsHeap ns root free) → root ≡ Some top → Walked ns h.family now top 0 0
walk-start ns root free now top h e = record {
  trail = [];
  is = root-top ns root free top h e;
  visited = [];
  passed = passed-start ns root free now top h e;
  count_is = refl;
  len = omega arith;
}

pub walk-used : (ns : List Node) (f : Family) (now i count n : ℕ) → IsFamily ns f → Walked ns f now i count n → i < length ns
walk-used ns f now i count n h w = used-within ns i (on-used ns f i w.trail h w.is)

pub walk-short : (ns : List Node) (f : Family) (now i count n : ℕ) → IsFamily ns f → Walked ns f now i count n → n < length ns
walk-short ns f now i count n h w = omega (arith, w.len, passed-short ns f now i (ahead w.trail) w.visited h (on-used ns f i w.trail h w.is) w.passed)

pub walk-few : (ns : List Node) (f : Family) (now i count n : ℕ) → IsFamily ns f → Walked ns f now i count n → count < length ns
walk-few ns f now i count n h w = omega (arith, w.count_is, due_among-le (held_at ns) now w.visited, passed-short ns f now i (ahead w.trail) w.visited h (on-used ns f i w.trail h w.is) w.passed)

-- those that are passed by are not counted
uncounted : (held : ℕ → Held) (now : ℕ) (others visited : List ℕ) → NoneDue held now others → due_among held now (others ++ visited) ≡ due_among held now visited
uncounted held now [] visited idle = refl
uncounted held now (i ∷ others) visited idle = omega (arith, none (is_due now (held i)) (idle i (omega (arith, one_if-same i))), uncounted held now others visited (λ j more. idle j (omega (arith, more))))
  where
    none : (b : Bool) → b ≡ false → ◌≡◌ {A = ℕ} (cond b 1 0) 0
    none true k = cc
    none false k = refl

-- one more is counted where the node is due
pub count-due : (now : ℕ) (h : Held) (due : Bool) (count : ℕ) → due ≡ is_due now h → due ≡ true → count + 1 ≡ one_due now h + count
count-due now h due count e it_is = omega (arith, one (is_due now h) (sym e ∙ it_is))
  where
    one : (b : Bool) → b ≡ true → ◌≡◌ {A = ℕ} (cond b 1 0) 1
    one true k = refl
    one false k = cc

pub count-other : (now : ℕ) (h : Held) (due : Bool) (count : ℕ) → due ≡ is_due now h → due ≡ false → count ≡ one_due now h + count
count-other now h due count e no_ = omega (arith, none (is_due now h) (sym e ∙ no_))
  where
    none : (b : Bool) → b ≡ false → ◌≡◌ {A = ℕ} (cond b 1 0) 0
    none true k = cc
    none false k = refl

pub walk-on : (ns : List Node) (f : Family) (now i next count more n : ℕ) (due : Bool) (to : Option ℕ) → IsFamily ns f → (w : Walked ns f now i count n) → due ≡ is_due now (held_at ns i)
    → more ≡ one_due now (held_at ns i) + count → to ≡ Some next → GoesPast ns f now (cond due (f.below i) []) w.trail to → Walked ns f now next more (n + 1)
walk-on ns f now i next count more n due to h w e counted on past =
    let g : GoesTo ns f past.kept w.trail next = rw on at past.goes in
    let through : Passed ns f now ((next ∷ ahead g.trail) ++ past.others) (i ∷ w.visited) = passed-on ns f now i (ahead w.trail) ((next ∷ ahead g.trail) ++ past.others) w.visited h (on-used ns f i w.trail h w.is)
    (λ j. omega (arith, ap (λ (b : Bool). times_in j (cond b (f.below i) [])) (sym e), past.parts j, g.same j, times-append j (next ∷ ahead g.trail) past.others)) w.passed in
    record {
      trail = g.trail;
      is = g.is;
      visited = past.others ++ i ∷ w.visited;
      passed = passed-over ns f now ((next ∷ ahead g.trail) ++ past.others) (next ∷ ahead g.trail) past.others (i ∷ w.visited) (λ j. times-append j (next ∷ ahead g.trail) past.others) past.used past.idle through;
      count_is = omega (arith, counted, w.count_is, uncounted (held_at ns) now past.others (i ∷ w.visited) past.idle);
      len = omega (arith, w.len, length-append past.others (i ∷ w.visited));
    }

pub walk-end : (ns : List Node) (f : Family) (now i count more n : ℕ) (due : Bool) (to : Option ℕ) → IsFamily ns f → (w : Walked ns f now i count n) → due ≡ is_due now (held_at ns i)
    → more ≡ one_due now (held_at ns i) + count → to ≡ None → GoesPast ns f now (cond due (f.below i) []) w.trail to → more ≡ due_in now (helds ns)
walk-end ns f now i count more n due to h w e counted on past =
    let none : (j : ℕ) → times_in j past.kept + times_in j (ahead w.trail) ≡ 0 = rw on at past.goes in
    let through : Passed ns f now past.others (i ∷ w.visited) = passed-on ns f now i (ahead w.trail) past.others w.visited h (on-used ns f i w.trail h w.is)
    (λ j. omega (arith, ap (λ (b : Bool). times_in j (cond b (f.below i) [])) (sym e), past.parts j, none j)) w.passed in
    let p : Passed ns f now [] (past.others ++ i ∷ w.visited) = passed-over ns f now past.others [] past.others (i ∷ w.visited) (λ j. omega arith) past.used past.idle through in
    let all : due_among (held_at ns) now (past.others ++ i ∷ w.visited) ≡ due_in now (helds ns) = count-all ns now (past.others ++ i ∷ w.visited) p.used (passed-all ns f now (past.others ++ i ∷ w.visited) h p) in
    omega (arith, counted, w.count_is, uncounted (held_at ns) now past.others (i ∷ w.visited) past.idle, all)

-- without a root no node is due
pub none-due : (ns : List Node) (free : Option ℕ) (now : ℕ) → IsHeap ns None free → 0 ≡ due_in now (helds ns)
none-due ns free now h = count-all ns now [] (λ j more. absurd (omega (arith, more))) (λ j u due. absurd (rootless ns free h j u))
