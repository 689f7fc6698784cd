-- Who stands above whom, after the writes of links.
use Rattle.std.proofs.Common.{inl, inr, ◌⊎◌, ◌≡◌, ◌≢◌, ℕ, ◌+◌, ◌==◌, ◌<◌, ◌≤◌, Bool, true, false, cond, List, [], ◌∷◌, ◌++◌, length, Option, None, Some, IfSome, is_some, arith, refl, sym, ap, ◌∙◌}
use Rattle.std.proofs.lemmas.Bool.{cases_eq}
use Rattle.std.proofs.lemmas.Bool.Decides.{nat_tests}
use Rattle.aio_timers.specs.declared.node.Node.{Node}
use Rattle.aio_timers.specs.Held.{Held, IsUsed, held_at, node_at, gone}
use Rattle.aio_timers.specs.Precedes.{precedes}
use Rattle.aio_timers.specs.Rows.{one_if, times_in, IsRow, IsInside}
use Rattle.aio_timers.specs.Writes.{leads_to, under, without, put_on_free}
use Rattle.aio_timers.specs.Family.{Family, one_below, IsParent, IsFamily, IsTop, AreTops, KeepsHeld}
use Rattle.aio_timers.proofs.CountLemmas.{one_if-same, one_if-other}
use Rattle.aio_timers.proofs.RunLemmas.{used-within, times-append, run-frame, row-run, row-frame}
use Rattle.aio_timers.proofs.WriteLemmas.{leads-same, leads-other, Puts, puts, Leaves, LeavesFirst, leaves-first, LeavesInner, leaves-inner, Frees, frees}

-- ## Parents and children

pub leads_or : (l : Option ℕ) (i : ℕ) → (l ≡ Some i) ⊎ (l ≢ Some i)
leads_or None i = inr (λ e. cc)
leads_or (Some j) i = elim (cases_eq j i) as (λ _. (◌≡◌ {A = Option ℕ} (Some j) (Some i)) ⊎ (◌≢◌ {A = Option ℕ} (Some j) (Some i))) [
  | inl e ↦ inl (ap (λ (x : ℕ). Some x) e)
  | inr ne ↦ inr (λ e. ne (cc (e)))
]

-- 1 where a link leads to a node, else 0
pub one-led : (l : Option ℕ) (i : ℕ) → l ≡ Some i → ◌≡◌ {A = ℕ} (cond (leads_to l i) 1 0) 1
one-led l i e = ap (λ (b : Bool). cond b 1 0) (ap (λ (x : Option ℕ). leads_to x i) e ∙ leads-same i)

pub none-led : (l : Option ℕ) (i : ℕ) → l ≢ Some i → ◌≡◌ {A = ℕ} (cond (leads_to l i) 1 0) 0
none-led l i ne = ap (λ (b : Bool). cond b 1 0) (leads-other l i ne)

led-as : (l m : Option ℕ) (i : ℕ) → l ≡ m → ◌≡◌ {A = ℕ} (cond (leads_to l i) 1 0) (cond (leads_to m i) 1 0)
led-as l m i e = rw e refl

pub below-has : (ns : List Node) (f : Family) (i j : ℕ) → IsFamily ns f → IsUsed (held_at ns i) → 0 < times_in j (f.below i) → f.above j ≡ Some i
below-has ns f i j h u more = elim (leads_or (f.above j) i) as (λ _. f.above j ≡ Some i) [
  | inl e ↦ e
  | inr ne ↦ absurd (omega (arith, more, h.members i j u, none-led (f.above j) i ne))
]

pub has-below : (ns : List Node) (f : Family) (i j : ℕ) → IsFamily ns f → f.above j ≡ Some i → times_in j (f.below i) ≡ 1
has-below ns f i j h e = let p : IsParent ns i j = h.order i j e in omega (arith, h.members i j p.parent, one-led (f.above j) i e)

pub none-below : (ns : List Node) (f : Family) (i j : ℕ) → IsFamily ns f → IsUsed (held_at ns i) → f.above j ≢ Some i → times_in j (f.below i) ≡ 0
none-below ns f i j h u ne = omega (arith, h.members i j u, none-led (f.above j) i ne)

pub once-below : (ns : List Node) (f : Family) (i j : ℕ) → IsFamily ns f → IsUsed (held_at ns i) → times_in j (f.below i) ≤ 1
once-below ns f i j h u = elim (leads_or (f.above j) i) as (λ _. times_in j (f.below i) ≤ 1) [
  | inl e ↦ omega (arith, has-below ns f i j h e)
  | inr ne ↦ omega (arith, none-below ns f i j h u ne)
]

-- a node does not fire before itself
pub not-before : (h : Held) → precedes h h ≡ true → ⊥
not-before h e = grind (arith, nat_tests)

-- no node is its own child
pub no-own-child : (ns : List Node) (f : Family) (i : ℕ) → IsFamily ns f → f.above i ≢ Some i
no-own-child ns f i h e = not-before (held_at ns i) (let p : IsParent ns i i = h.order i i e in p.before)

-- the first node of a row
pub row-first : (ns : List Node) (b : ℕ) (l : Option ℕ) (ks : List ℕ) (j : ℕ) → IsRow ns b l ks → l ≡ Some j → 0 < times_in j ks
row-first ns b l [] j r e = absurd (differ (sym r ∙ e))
  where
    differ : ◌≡◌ {A = Option ℕ} None (Some j) → ⊥
    differ d = cc
row-first ns b l (i ∷ ks) j r e = let same : i ≡ j = cc (sym r.0 ∙ e) in omega (arith, one_if-same j, ap (one_if j) same)

pub row-link : (ns : List Node) (b : ℕ) (l : Option ℕ) (ks : List ℕ) → IsRow ns b l ks → IfSome l (λ j. j < length ns)
row-link ns b l [] r = rw r tt
row-link ns b l (i ∷ ks) r = rw r.0 r.1

pub inside-of : (ns : List Node) (f : Family) (i : ℕ) → IsFamily ns f → IsUsed (held_at ns i) → IsInside ns i
inside-of ns f i h u = record { here = used-within ns i u; child = row-link ns i (node_at ns i).child (f.below i) (h.linked i u) }

-- of two nodes the one that does not fire later fires first
pub strict : (ns : List Node) (f : Family) (a b : ℕ) → IsFamily ns f → IsUsed (held_at ns a) → IsUsed (held_at ns b) → a ≢ b → precedes (held_at ns b) (held_at ns a) ≡ false → precedes (held_at ns a) (held_at ns b) ≡ true
strict ns f a b h ua ub ne no_ = sooner (held_at ns a) (held_at ns b) (λ d i. ne (h.apart a b ua ub d i)) no_
  where
    sooner : (x y : Held) → (x.deadline ≡ y.deadline → x.id ≡ y.id → ⊥) → precedes y x ≡ false → precedes x y ≡ true
    sooner x y differ n = grind (arith, nat_tests)

-- ## What nodes hold

pub used-as : (a b : Held) → a ≡ b → IsUsed b → IsUsed a
used-as a b e u = ap (λ (h : Held). is_some h.waker) e ∙ u

precedes-as : (a b c d : Held) → a ≡ c → b ≡ d → precedes c d ≡ true → precedes a b ≡ true
precedes-as a b c d e g p = ap (λ (h : Held). precedes h b) e ∙ ap (λ (h : Held). precedes c h) g ∙ p

pub parent-as : (old new : List Node) (i j : ℕ) → held_at new i ≡ held_at old i → held_at new j ≡ held_at old j → IsParent old i j → IsParent new i j
parent-as old new i j e g p = record {
  parent = used-as (held_at new i) (held_at old i) e p.parent;
  child = used-as (held_at new j) (held_at old j) g p.child;
  before = precedes-as (held_at new i) (held_at new j) (held_at old i) (held_at old j) e g p.before;
}

-- where nodes in use hold what they held, no two have the same pair
pub apart-as : (old new : List Node) (f : Family) → IsFamily old f → ((i : ℕ) → IsUsed (held_at new i) → held_at new i ≡ held_at old i) → (i j : ℕ) → IsUsed (held_at new i) → IsUsed (held_at new j)
    → (held_at new i).deadline ≡ (held_at new j).deadline → (held_at new i).id ≡ (held_at new j).id → i ≡ j
apart-as old new f h same i j ui uj d n =
    let e : held_at new i ≡ held_at old i = same i ui in
    let g : held_at new j ≡ held_at old j = same j uj in
    h.apart i j (used-as (held_at old i) (held_at new i) (sym e) ui) (used-as (held_at old j) (held_at new j) (sym g) uj)
    (ap (λ (x : Held). x.deadline) (sym e) ∙ d ∙ ap (λ (x : Held). x.deadline) g) (ap (λ (x : Held). x.id) (sym e) ∙ n ∙ ap (λ (x : Held). x.id) g)

-- ## Writes at roots and free nodes

pub family-alike : (old new : List Node) (f : Family) → IsFamily old f → KeepsHeld old new → ((j : ℕ) → (node_at new j).child ≡ (node_at old j).child)
    → ((j i : ℕ) → f.above j ≡ Some i → ((node_at new j).next ≡ (node_at old j).next) × ((node_at new j).prev ≡ (node_at old j).prev)) → IsFamily new f
family-alike old new f h k child same =
    let was : (i : ℕ) → IsUsed (held_at new i) → IsUsed (held_at old i) = λ i u. used-as (held_at old i) (held_at new i) (sym (k.held i)) u in
    record {
      linked = λ i u. rw (child i) (row-frame old new i (node_at old i).child (f.below i) k.len (λ j c. same j i (below-has old f i j h (was i u) c)) (h.linked i (was i u)));
      members = λ i j u. h.members i j (was i u);
      order = λ i j e. parent-as old new i j (k.held i) (k.held j) (h.order i j e);
      apart = apart-as old new f h (λ i u. k.held i);
    }

-- ## A root comes below another node

abbrev pub put : Family → ℕ → ℕ → Family
put f p i = record { above = λ j. cond (j == i) (Some p) (f.above j); below = λ k. cond (k == p) (i ∷ f.below p) (f.below k) }

pub same-test : (a : ℕ) → (a == a) ≡ true
same-test a = grind (arith, nat_tests)

pub other-test : (a b : ℕ) → a ≢ b → (a == b) ≡ false
other-test a b ne = grind (arith, nat_tests)

pub put-here : (f : Family) (p i : ℕ) → (put f p i).above i ≡ Some p
put-here f p i = ap (λ (b : Bool). cond b (Some p) (f.above i)) (same-test i)

pub put-other : (f : Family) (p i j : ℕ) → j ≢ i → (put f p i).above j ≡ f.above j
put-other f p i j ne = ap (λ (b : Bool). cond b (Some p) (f.above j)) (other-test j i ne)

-- another node comes before a row
row-behind : (old new : List Node) (b c : ℕ) (l : Option ℕ) (ks : List ℕ) → length new ≡ length old → ((j : ℕ) → times_in j ks ≤ 1) → ((j : ℕ) → 0 < times_in j ks → (node_at new j).next ≡ (node_at old j).next)
    → ((j : ℕ) → 0 < times_in j ks → l ≢ Some j → (node_at new j).prev ≡ (node_at old j).prev) → ((j : ℕ) → j < length old → l ≡ Some j → (node_at new j).prev ≡ Some c) → IsRow old b l ks → IsRow new c l ks
row-behind old new b c l [] len once next prev first r = r
row-behind old new b c l (i ∷ ks) len once next prev first r =
    let here : (node_at new i).next ≡ (node_at old i).next = next i (omega (arith, one_if-same i)) in
    let others : (j : ℕ) → 0 < times_in j ks → l ≢ Some j = λ j h e. let same : i ≡ j = cc (sym r.0 ∙ e) in omega (arith, h, once j, one_if-same j, ap (one_if j) same) in (
      r.0,
      omega (arith, r.1, len),
      first i r.1 r.0,
      rw here (row-frame old new i (node_at old i).next ks len (λ j h. (next j (omega (arith, h)), prev j (omega (arith, h)) (others j h))) r.3),
    )

family-put : (old new : List Node) (f : Family) (p i : ℕ) → IsFamily old f → IsUsed (held_at old p) → IsTop old f i → precedes (held_at old p) (held_at old i) ≡ true → Puts old new p i → IsFamily new (put f p i)
family-put old new f p i h up top before w =
    let was : (k : ℕ) → IsUsed (held_at new k) → IsUsed (held_at old k) = λ k u. used-as (held_at old k) (held_at new k) (sym (w.held k)) u in
    let not_i : (k j : ℕ) → f.above j ≡ Some k → j ≢ i = λ k j e d. absurd (free j k e d) in
    record {
      linked = λ k u. elim (cases_eq k p) as (λ _. IsRow new k (node_at new k).child (cond (k == p) (i ∷ f.below p) (f.below k))) [
        | inl e ↦ rw (e, same-test p) (
          w.child_here,
          omega (arith, used-within old i top.used, w.len),
          w.prev_here,
          rw w.next_here (row-behind old new p i (node_at old p).child (f.below p) w.len (λ j. once-below old f p j h up)
              (λ j c. w.next j (not_i p j (below-has old f p j h up c))) (λ j c. w.prev j (not_i p j (below-has old f p j h up c))) w.prev_first (h.linked p up)),
        )
        | inr ne ↦ rw (other-test k p ne, w.child k ne) (row-frame old new k (node_at old k).child (f.below k) w.len
            (λ j c. let e : f.above j ≡ Some k = below-has old f k j h (was k u) c in
            (w.next j (not_i k j e), w.prev j (not_i k j e) (λ d. ne (one_parent k j e (below-has old f p j h up (row-first old p (node_at old p).child (f.below p) j (h.linked p up) d))))))
            (h.linked k (was k u)))
      ];
      members = λ k j u. counted k j (was k u);
      order = λ k j e. elim (cases_eq j i) as (λ _. IsParent new k j) [
        | inl d ↦ let same : p ≡ k = cc (sym (put-here f p i) ∙ ap (put f p i).above (sym d) ∙ e) in
            rw (← same, d) (record {
              parent = used-as (held_at new p) (held_at old p) (w.held p) up;
              child = used-as (held_at new i) (held_at old i) (w.held i) top.used;
              before = precedes-as (held_at new p) (held_at new i) (held_at old p) (held_at old i) (w.held p) (w.held i) before;
            })
        | inr ne ↦ parent-as old new k j (w.held k) (w.held j) (h.order k j (sym (put-other f p i j ne) ∙ e))
      ];
      apart = apart-as old new f h (λ k u. w.held k);
    }
  where
    none_some : (k : ℕ) → ◌≡◌ {A = Option ℕ} None (Some k) → ⊥
    none_some k e = cc

    free : (j k : ℕ) → f.above j ≡ Some k → j ≡ i → ⊥
    free j k e d = none_some k (sym top.free ∙ ap f.above (sym d) ∙ e)

    one_parent : (k j : ℕ) → f.above j ≡ Some k → f.above j ≡ Some p → k ≡ p
    one_parent k j e d = cc (sym e ∙ d)

    top_of : (k : ℕ) → IsUsed (held_at old k) → times_in i (f.below k) ≡ 0
    top_of k u = none-below old f k i h u (λ e. none_some k (sym top.free ∙ e))

    counted : (k j : ℕ) → IsUsed (held_at old k) → times_in j (cond (k == p) (i ∷ f.below p) (f.below k)) ≡ one_below (put f p i) k j
    counted k j u = elim (cases_eq k p) as (λ _. times_in j (cond (k == p) (i ∷ f.below p) (f.below k)) ≡ one_below (put f p i) k j) [
      | inl e ↦ rw (e, same-test p) (elim (cases_eq j i) as (λ _. one_if j i + times_in j (f.below p) ≡ one_below (put f p i) p j) [
        | inl d ↦ rw d (omega (arith, one_if-same i, top_of p up, one-led ((put f p i).above i) p (put-here f p i)))
        | inr ne ↦ omega (arith, one_if-other j i ne, h.members p j up, led-as ((put f p i).above j) (f.above j) p (put-other f p i j ne))
      ])
      | inr nk ↦ rw (other-test k p nk) (elim (cases_eq j i) as (λ _. times_in j (f.below k) ≡ one_below (put f p i) k j) [
        | inl d ↦ rw d (omega (arith, top_of k u, none-led ((put f p i).above i) k (λ e. nk (cc (sym (put-here f p i) ∙ e)))))
        | inr ne ↦ omega (arith, h.members k j u, led-as ((put f p i).above j) (f.above j) k (put-other f p i j ne))
      ])
    ]

pub under-puts : (ns : List Node) (f : Family) (p i : ℕ) → IsFamily ns f → IsUsed (held_at ns p) → IsTop ns f i → Puts ns (under ns p i) p i
under-puts ns f p i h up top = puts ns p i (used-within ns p up) (used-within ns i top.used) (λ e. none (sym top.free ∙ below-has ns f p i h up (row-first ns p (node_at ns p).child (f.below p) i (h.linked p up) e)))
  where
    none : ◌≡◌ {A = Option ℕ} None (Some p) → ⊥
    none e = cc

pub family-under : (ns : List Node) (f : Family) (p i : ℕ) → IsFamily ns f → IsUsed (held_at ns p) → IsTop ns f i → precedes (held_at ns p) (held_at ns i) ≡ true → IsFamily (under ns p i) (put f p i)
family-under ns f p i h up top before = family-put ns (under ns p i) f p i h up top before (under-puts ns f p i h up top)

pub under-held : (ns : List Node) (f : Family) (p i : ℕ) → IsFamily ns f → IsUsed (held_at ns p) → IsTop ns f i → KeepsHeld ns (under ns p i)
under-held ns f p i h up top = let w : Puts ns (under ns p i) p i = under-puts ns f p i h up top in record { len = w.len; held = w.held }

-- another root, or a free node, has the links that it had
pub under-still : (ns : List Node) (f : Family) (p i j : ℕ) → IsFamily ns f → IsUsed (held_at ns p) → IsTop ns f i → f.above j ≡ None → j ≢ i
    → ((node_at (under ns p i) j).next ≡ (node_at ns j).next) × ((node_at (under ns p i) j).prev ≡ (node_at ns j).prev)
under-still ns f p i j h up top free ne =
    let w : Puts ns (under ns p i) p i = under-puts ns f p i h up top in
    (w.next j ne, w.prev j ne (λ e. none (sym free ∙ below-has ns f p j h up (row-first ns p (node_at ns p).child (f.below p) j (h.linked p up) e))))
  where
    none : ◌≡◌ {A = Option ℕ} None (Some p) → ⊥
    none e = cc

-- ## A root gives its timer up

-- the children of a node are roots
abbrev pub orphaned : Family → ℕ → Family
orphaned f i = record { above = λ j. cond (leads_to (f.above j) i) None (f.above j); below = f.below }

pub orphaned-child : (f : Family) (i j : ℕ) → f.above j ≡ Some i → (orphaned f i).above j ≡ None
orphaned-child f i j e = ap (λ (b : Bool). cond b None (f.above j)) (ap (λ (l : Option ℕ). leads_to l i) e ∙ leads-same i)

pub orphaned-other : (f : Family) (i j : ℕ) → f.above j ≢ Some i → (orphaned f i).above j ≡ f.above j
orphaned-other f i j ne = ap (λ (b : Bool). cond b None (f.above j)) (leads-other (f.above j) i ne)

-- who has a parent then had that one, another than the node
pub orphaned-has : (f : Family) (i j k : ℕ) → (orphaned f i).above j ≡ Some k → (f.above j ≡ Some k) × (k ≢ i)
orphaned-has f i j k e = elim (leads_or (f.above j) i) as (λ _. (f.above j ≡ Some k) × (k ≢ i)) [
  | inl d ↦ absurd (none (sym (orphaned-child f i j d) ∙ e))
  | inr ne ↦ let was : f.above j ≡ Some k = sym (orphaned-other f i j ne) ∙ e in (was, λ d. ne (was ∙ ap (λ (x : ℕ). Some x) d))
]
  where
    none : ◌≡◌ {A = Option ℕ} None (Some k) → ⊥
    none d = cc

-- a node that is free is not in use
gone-unused : (h : Held) → IsUsed (gone h) → ⊥
gone-unused h u = cc

module _ (old new : List Node) (f : Family) (i : ℕ) (free : Option ℕ) (h : IsFamily old f) (top : IsTop old f i) (w : Frees old new i free) where
  freed-ne : (k : ℕ) → IsUsed (held_at new k) → k ≢ i
  freed-ne k u e = gone-unused (held_at old i) (used-as (gone (held_at old i)) (held_at new k) (sym w.held_here ∙ ap (held_at new) (sym e)) u)

  freed-was : (k : ℕ) → IsUsed (held_at new k) → IsUsed (held_at old k)
  freed-was k u = used-as (held_at old k) (held_at new k) (sym (w.held k (freed-ne k u))) u

  child-ne : (k j : ℕ) → f.above j ≡ Some k → j ≢ i
  child-ne k j e d = none (sym top.free ∙ ap f.above (sym d) ∙ e)
    where
      none : ◌≡◌ {A = Option ℕ} None (Some k) → ⊥
      none n = cc

  family-freed : IsFamily new (orphaned f i)
  family-freed = record {
    linked = λ k u. let was : IsUsed (held_at old k) = freed-was k u in
        rw (w.child k) (row-frame old new k (node_at old k).child (f.below k) w.len (λ j c. (w.next j (child-ne k j (below-has old f k j h was c)), w.prev j)) (h.linked k was));
    members = λ k j u. elim (leads_or (f.above j) i) as (λ _. times_in j (f.below k) ≡ one_below (orphaned f i) k j) [
      | inl e ↦ omega (arith, none-below old f k j h (freed-was k u) (λ d. freed-ne k u (cc (sym d ∙ e))), none-led ((orphaned f i).above j) k (λ d. none k (sym (orphaned-child f i j e) ∙ d)))
      | inr ne ↦ omega (arith, h.members k j (freed-was k u), led-as ((orphaned f i).above j) (f.above j) k (orphaned-other f i j ne))
    ];
    order = λ k j e. let both : (f.above j ≡ Some k) × (k ≢ i) = orphaned-has f i j k e in parent-as old new k j (w.held k both.1) (w.held j (child-ne k j both.0)) (h.order k j both.0);
    apart = apart-as old new f h (λ k u. w.held k (freed-ne k u));
  }
    where
      none : (k : ℕ) → ◌≡◌ {A = Option ℕ} None (Some k) → ⊥
      none k n = cc

  orphans-freed : AreTops new (orphaned f i) (node_at old i).child (f.below i)
  orphans-freed =
      let child : (j : ℕ) → 0 < times_in j (f.below i) → f.above j ≡ Some i = λ j c. below-has old f i j h top.used c in
      record {
        family = family-freed;
        run = run-frame old new (node_at old i).child (f.below i) w.len (λ j c. w.next j (child-ne i j (child j c))) (row-run old i (node_at old i).child (f.below i) (h.linked i top.used));
        tops = λ j c. let p : IsParent old i j = h.order i j (child j c) in record { used = used-as (held_at new j) (held_at old j) (w.held j (child-ne i j (child j c))) p.child; free = orphaned-child f i j (child j c) };
        once = λ j. once-below old f i j h top.used;
      }

pub orphans : (ns : List Node) (f : Family) (i : ℕ) (free : Option ℕ) → IsFamily ns f → IsTop ns f i → AreTops (put_on_free ns i free) (orphaned f i) (node_at ns i).child (f.below i)
orphans ns f i free h top = orphans-freed ns (put_on_free ns i free) f i free h top (frees ns i free (used-within ns i top.used))

-- ## A child leaves its row

-- the last of a list, or this one before it
abbrev pub last_or : ℕ → List ℕ → ℕ
last_or b [] = b
last_or b (x ∷ xs) = last_or x xs

pub last-inside : (x : ℕ) (xs : List ℕ) → 0 < times_in (last_or x xs) (x ∷ xs)
last-inside x [] = omega (arith, one_if-same x)
last-inside x (y ∷ ys) = omega (arith, last-inside y ys)

-- the link to a row, where the one behind these leaves
abbrev resumes : List ℕ → Option ℕ → Option ℕ → Option ℕ
resumes [] l m = m
resumes (x ∷ xs) l m = l

pub row-before : (ns : List Node) (b : ℕ) (l : Option ℕ) (front : List ℕ) (i : ℕ) (back : List ℕ) → IsRow ns b l (front ++ i ∷ back) → (node_at ns i).prev ≡ Some (last_or b front)
row-before ns b l [] i back r = r.2
row-before ns b l (x ∷ xs) i back r = row-before ns x (node_at ns x).next xs i back r.3

-- the node before another one leads on to it
row-onto : (ns : List Node) (b : ℕ) (l : Option ℕ) (x : ℕ) (xs : List ℕ) (i : ℕ) (back : List ℕ) → IsRow ns b l (x ∷ xs ++ i ∷ back) → (node_at ns (last_or x xs)).next ≡ Some i
row-onto ns b l x [] i back r = r.3.0
row-onto ns b l x (y ∷ ys) i back r = row-onto ns x (node_at ns x).next y ys i back r.3

-- a node of a row leads on to nodes of the row alone
row-on : (ns : List Node) (b : ℕ) (l : Option ℕ) (ks : List ℕ) (q i : ℕ) → IsRow ns b l ks → 0 < times_in q ks → (node_at ns q).next ≡ Some i → 0 < times_in i ks
row-on ns b l [] q i r c e = absurd (omega (arith, c))
row-on ns b l (x ∷ ks) q i r c e = elim (cases_eq q x) as (λ _. 0 < times_in i (x ∷ ks)) [
  | inl same ↦ omega (arith, row-first ns x (node_at ns x).next ks i r.3 (ap (λ (k : ℕ). (node_at ns k).next) (sym same) ∙ e))
  | inr ne ↦ omega (arith, row-on ns x (node_at ns x).next ks q i r.3 (omega (arith, c, one_if-other q x ne)) e)
]

pub row-rest : (ns : List Node) (b : ℕ) (l : Option ℕ) (front : List ℕ) (i : ℕ) (back : List ℕ) → IsRow ns b l (front ++ i ∷ back) → IsRow ns i (node_at ns i).next back
row-rest ns b l [] i back r = r.3
row-rest ns b l (x ∷ xs) i back r = row-rest ns x (node_at ns x).next xs i back r.3

row-skip : (old new : List Node) (b : ℕ) (l : Option ℕ) (front : List ℕ) (i : ℕ) (back : List ℕ) → ((j : ℕ) → times_in j (b ∷ front ++ i ∷ back) ≤ 1) → Leaves old new (last_or b front) i
    → (0 < length front → (node_at new (last_or b front)).next ≡ (node_at old i).next) → IsRow old b l (front ++ i ∷ back) → IsRow new b (resumes front l (node_at old i).next) (front ++ back)
row-skip old new b l [] i back once w behind r =
    row-behind old new i b (node_at old i).next back w.len (λ j. omega (arith, once j))
    (λ j c. w.next j (λ e. omega (arith, once b, c, one_if-same b, ap (λ (x : ℕ). times_in x back) e))) (λ j c ne. w.prev j ne) (λ j lt e. w.prev_behind j lt e) r.3
row-skip old new b l (x ∷ xs) i back once w behind r =
    let inside : (j : ℕ) → (node_at old i).next ≡ Some j → 0 < times_in j back = λ j e. row-first old i (node_at old i).next back j (row-rest old b l (x ∷ xs) i back r) e in
    let not_x : (node_at old i).next ≢ Some x = λ e. omega (arith, inside x e, once x, one_if-same x, times-append x xs (i ∷ back)) in (
      r.0,
      omega (arith, r.1, w.len),
      w.prev x not_x ∙ r.2,
      rw (goes xs once w behind) (row-skip old new x (node_at old x).next xs i back (λ j. omega (arith, once j)) w (λ h. behind (omega (arith, h))) r.3),
    )
  where
    goes : (xs : List ℕ) → ((j : ℕ) → times_in j (b ∷ x ∷ xs ++ i ∷ back) ≤ 1) → Leaves old new (last_or x xs) i → (0 < length (x ∷ xs) → (node_at new (last_or x xs)).next ≡ (node_at old i).next)
        → (node_at new x).next ≡ resumes xs (node_at old x).next (node_at old i).next
    goes [] once w behind = behind (omega arith)
    goes (y ∷ ys) once w behind = w.next x (λ e. omega (arith, once x, one_if-same x, times-append x (y ∷ ys) (i ∷ back), last-inside y ys, ap (λ (k : ℕ). times_in k (y ∷ ys)) e))

-- a parent does not lead on to its child
parent-on : (ns : List Node) (f : Family) (i q : ℕ) → IsFamily ns f → f.above i ≡ Some q → (f.above q ≡ None → (node_at ns q).next ≢ Some i) → (node_at ns q).next ≢ Some i
parent-on ns f i q h up top e = go (f.above q) refl
  where
    go : (o : Option ℕ) → f.above q ≡ o → ⊥
    go None above = top above e
    go (Some r) above =
        let p : IsParent ns r q = h.order r q above in
        let inside : 0 < times_in i (f.below r) = row-on ns r (node_at ns r).child (f.below r) q i (h.linked r p.parent) (omega (arith, has-below ns f r q h above)) e in
        let same : r ≡ q = cc (sym (below-has ns f r i h p.parent inside) ∙ up) in
        no-own-child ns f q h (above ∙ ap (λ (x : ℕ). Some x) same)

-- the row without the node, and what is left elsewhere
record RowWithout (old new : List Node) (f : Family) (q : ℕ) (front back : List ℕ) : Type 0 where
  kept : KeepsHeld old new
  row : IsRow new q (node_at new q).child (front ++ back)
  child : (k : ℕ) → k ≢ q → (node_at new k).child ≡ (node_at old k).child
  still : (j : ℕ) → f.above j ≢ Some q → ((node_at new j).next ≡ (node_at old j).next) × ((node_at new j).prev ≡ (node_at old j).prev)

row-without : (ns : List Node) (f : Family) (i q : ℕ) (front back : List ℕ) → IsFamily ns f → f.above i ≡ Some q → (f.above q ≡ None → (node_at ns q).next ≢ Some i) → f.below q ≡ front ++ i ∷ back → RowWithout ns (without ns i) f q front back
row-without ns f i q front back h up tops is =
    let p : IsParent ns q i = h.order q i up in
    let r : IsRow ns q (node_at ns q).child (front ++ i ∷ back) = rw (← is) (h.linked q p.parent) in
    let has : (j : ℕ) → 0 < times_in j (front ++ i ∷ back) → f.above j ≡ Some q = λ j c. below-has ns f q j h p.parent (omega (arith, c, ap (times_in j) is)) in
    let once : (j : ℕ) → times_in j (front ++ i ∷ back) ≤ 1 = λ j. omega (arith, once-below ns f q j h p.parent, ap (times_in j) is) in
    let own : times_in q (front ++ i ∷ back) ≡ 0 = omega (arith, none-below ns f q q h p.parent (no-own-child ns f q h), ap (times_in q) is) in
    let all_once : (j : ℕ) → times_in j (q ∷ front ++ i ∷ back) ≤ 1 = λ j. elim (cases_eq j q) as (λ _. one_if j q + times_in j (front ++ i ∷ back) ≤ 1) [
      | inl e ↦ rw e (omega (arith, own, one_if-same q))
      | inr ne ↦ omega (arith, once j, one_if-other j q ne)
    ] in
    let behind : (j : ℕ) → (node_at ns i).next ≡ Some j → f.above j ≡ Some q = λ j e. has j (omega (arith, row-first ns i (node_at ns i).next back j (row-rest ns q (node_at ns q).child front i back r) e, times-append j front (i ∷ back))) in
    go front r has all_once behind p
  where
    go : (xs : List ℕ) → IsRow ns q (node_at ns q).child (xs ++ i ∷ back) → ((j : ℕ) → 0 < times_in j (xs ++ i ∷ back) → f.above j ≡ Some q) → ((j : ℕ) → times_in j (q ∷ xs ++ i ∷ back) ≤ 1)
        → ((j : ℕ) → (node_at ns i).next ≡ Some j → f.above j ≡ Some q) → IsParent ns q i → RowWithout ns (without ns i) f q xs back
    go [] r has once behind p =
        let w : LeavesFirst ns (without ns i) q i = leaves-first ns q i (used-within ns q p.parent) r.2 (parent-on ns f i q h up tops) in
        let l : Leaves ns (without ns i) q i = w.leaves in
        record {
          kept = record { len = l.len; held = l.held };
          row = rw w.child (row-skip ns (without ns i) q (node_at ns q).child [] i back once l (λ c. absurd (omega (arith, c))) r);
          child = l.child;
          still = λ j ne. (
            elim (cases_eq j q) as (λ _. (node_at (without ns i) j).next ≡ (node_at ns j).next) [
              | inl e ↦ rw e w.next
              | inr d ↦ l.next j d
            ],
            l.prev j (λ e. ne (behind j e)),
          );
        }
    go (x ∷ xs) r has once behind p =
        let before : ℕ = last_or x xs in
        let above : f.above before ≡ Some q = has before (omega (arith, last-inside x xs, times-append before xs (i ∷ back))) in
        let b : IsParent ns q before = h.order q before above in
        let w : LeavesInner ns (without ns i) before i = leaves-inner ns before i (used-within ns before b.child) (row-before ns q (node_at ns q).child (x ∷ xs) i back r) (row-onto ns q (node_at ns q).child x xs i back r) in
        let l : Leaves ns (without ns i) before i = w.leaves in
        let children : (k : ℕ) → (node_at (without ns i) k).child ≡ (node_at ns k).child = λ k. elim (cases_eq k before) as (λ _. (node_at (without ns i) k).child ≡ (node_at ns k).child) [
          | inl e ↦ rw e w.child
          | inr d ↦ l.child k d
        ] in
        record {
          kept = record { len = l.len; held = l.held };
          row = rw (children q) (row-skip ns (without ns i) q (node_at ns q).child (x ∷ xs) i back once l (λ c. w.next) r);
          child = λ k ne. children k;
          still = λ j ne. (l.next j (λ e. ne (ap f.above e ∙ above)), l.prev j (λ e. ne (behind j e)));
        }

-- a child is a root
abbrev pub parted : Family → ℕ → ℕ → List ℕ → List ℕ → Family
parted f i q front back = record { above = λ j. cond (j == i) None (f.above j); below = λ k. cond (k == q) (front ++ back) (f.below k) }

pub parted-here : (f : Family) (i q : ℕ) (front back : List ℕ) → (parted f i q front back).above i ≡ None
parted-here f i q front back = ap (λ (b : Bool). cond b None (f.above i)) (same-test i)

pub parted-other : (f : Family) (i q j : ℕ) (front back : List ℕ) → j ≢ i → (parted f i q front back).above j ≡ f.above j
parted-other f i q j front back ne = ap (λ (b : Bool). cond b None (f.above j)) (other-test j i ne)

pub family-without : (ns : List Node) (f : Family) (i q : ℕ) (front back : List ℕ) → IsFamily ns f → f.above i ≡ Some q → (f.above q ≡ None → (node_at ns q).next ≢ Some i) → f.below q ≡ front ++ i ∷ back → IsFamily (without ns i) (parted f i q front back)
family-without ns f i q front back h up tops is = rest (row-without ns f i q front back h up tops is)
  where
    none : (k : ℕ) → ◌≡◌ {A = Option ℕ} None (Some k) → ⊥
    none k e = cc

    counted : (k j : ℕ) → IsUsed (held_at ns k) → times_in j (cond (k == q) (front ++ back) (f.below k)) ≡ one_below (parted f i q front back) k j
    counted k j u =
        let parts : (j : ℕ) → times_in j (f.below q) ≡ times_in j (front ++ back) + one_if j i = λ j. omega (arith, ap (times_in j) is, times-append j front (i ∷ back), times-append j front back) in
        elim (cases_eq j i) as (λ _. times_in j (cond (k == q) (front ++ back) (f.below k)) ≡ one_below (parted f i q front back) k j) [
          | inl d ↦ rw d (elim (cases_eq k q) as (λ _. times_in i (cond (k == q) (front ++ back) (f.below k)) ≡ one_below (parted f i q front back) k i) [
            | inl e ↦ rw (e, same-test q) (omega (arith, parts i, one_if-same i, has-below ns f q i h up, none-led ((parted f i q front back).above i) q (λ x. none q (sym (parted-here f i q front back) ∙ x))))
            | inr ne ↦ rw (other-test k q ne) (omega (arith, none-below ns f k i h u (λ x. ne (cc (sym x ∙ up))), none-led ((parted f i q front back).above i) k (λ x. none k (sym (parted-here f i q front back) ∙ x))))
          ])
          | inr nj ↦ let as_was = led-as ((parted f i q front back).above j) (f.above j) k (parted-other f i q j front back nj) in
              elim (cases_eq k q) as (λ _. times_in j (cond (k == q) (front ++ back) (f.below k)) ≡ one_below (parted f i q front back) k j) [
                | inl e ↦ rw (e, same-test q) (omega (arith, parts j, one_if-other j i nj, h.members q j (owner k u e), led-as ((parted f i q front back).above j) (f.above j) q (parted-other f i q j front back nj)))
                | inr ne ↦ rw (other-test k q ne) (omega (arith, h.members k j u, as_was))
              ]
        ]
      where
        owner : (k : ℕ) → IsUsed (held_at ns k) → k ≡ q → IsUsed (held_at ns q)
        owner k u e = used-as (held_at ns q) (held_at ns k) (ap (held_at ns) (sym e)) u

    rest : RowWithout ns (without ns i) f q front back → IsFamily (without ns i) (parted f i q front back)
    rest s =
        let was : (k : ℕ) → IsUsed (held_at (without ns i) k) → IsUsed (held_at ns k) = λ k u. used-as (held_at ns k) (held_at (without ns i) k) (sym (s.kept.held k)) u in
        record {
          linked = λ k u. elim (cases_eq k q) as (λ _. IsRow (without ns i) k (node_at (without ns i) k).child (cond (k == q) (front ++ back) (f.below k))) [
            | inl e ↦ rw (e, same-test q) s.row
            | inr ne ↦ rw (other-test k q ne, s.child k ne) (row-frame ns (without ns i) k (node_at ns k).child (f.below k) s.kept.len (λ j c. s.still j (λ e. ne (cc (sym (below-has ns f k j h (was k u) c) ∙ e)))) (h.linked k (was k u)))
          ];
          members = λ k j u. counted k j (was k u);
          order = λ k j e. elim (cases_eq j i) as (λ _. IsParent (without ns i) k j) [
            | inl d ↦ absurd (none k (sym (parted-here f i q front back) ∙ ap (parted f i q front back).above (sym d) ∙ e))
            | inr ne ↦ parent-as ns (without ns i) k j (s.kept.held k) (s.kept.held j) (h.order k j (sym (parted-other f i q j front back ne) ∙ e))
          ];
          apart = apart-as ns (without ns i) f h (λ k u. s.kept.held k);
        }

-- what it leaves: timers, the children of the node, and the links of roots and free nodes
pub record Stands (old new : List Node) (f : Family) (i : ℕ) : Type 0 where
  pub kept : KeepsHeld old new
  pub child : (node_at new i).child ≡ (node_at old i).child
  pub still : (j : ℕ) → f.above j ≡ None → ((node_at new j).next ≡ (node_at old j).next) × ((node_at new j).prev ≡ (node_at old j).prev)

pub without-still : (ns : List Node) (f : Family) (i q : ℕ) (front back : List ℕ) → IsFamily ns f → f.above i ≡ Some q → (f.above q ≡ None → (node_at ns q).next ≢ Some i) → f.below q ≡ front ++ i ∷ back → Stands ns (without ns i) f i
without-still ns f i q front back h up tops is =
    let s : RowWithout ns (without ns i) f q front back = row-without ns f i q front back h up tops is in
    record { kept = s.kept; child = s.child i (λ e. no-own-child ns f q h (ap f.above (sym e) ∙ up)); still = λ j free. s.still j (λ e. none (sym free ∙ e)) }
  where
    none : ◌≡◌ {A = Option ℕ} None (Some q) → ⊥
    none e = cc
