-- A timer joins the heap, or leaves it: what stands of the tree and of the free list.
use Rattle.std.proofs.Common.{inl, inr, ◌≡◌, ◌≢◌, ℕ, ◌+◌, ◌<◌, ◌≤◌, ◌==◌, Bool, true, false, cond, List, [], ◌∷◌, ◌++◌, length, get_or, set, Option, None, Some, IfSome, is_some, arith, refl, sym, ap, ◌∙◌, length-set}
use Rattle.std.proofs.lemmas.Bool.{cases_eq}
use Rattle.std.proofs.lemmas.List.{length-map, get_or-set_same, get_or-set_other, ext_get_or}
use Rattle.aio_timers.specs.declared.node.Node.{Node}
use Rattle.aio_timers.specs.Held.{Held, IsUsed, held_of, held_at, helds, node_at, lone_node, vacant, gone}
use Rattle.aio_timers.specs.Precedes.{precedes}
use Rattle.aio_timers.specs.Rows.{one_if, times_in, IsRun, IsRow, IsInside}
use Rattle.aio_timers.specs.Writes.{under, upper, joined, without, put_on_free}
use Rattle.aio_timers.specs.Family.{Family, one_below, IsFamily, IsParent, IsTop, AreTops, KeepsHeld, MergesTo, Merges}
use Rattle.aio_timers.specs.Heap.{IsRoot, IsHeap, Holds, IsNewPair, one_free}
use Rattle.aio_timers.proofs.CountLemmas.{one_if-same, one_if-other, some_or_none}
use Rattle.aio_timers.proofs.RunLemmas.{used-within, times-append, run-within, run-frame, row-run, row-frame, Split, split-at}
use Rattle.aio_timers.proofs.WriteLemmas.{apart, here, Frees, frees}
use Rattle.aio_timers.proofs.FamilyLemmas.{none-led, below-has, has-below, none-below, inside-of, strict, used-as, parent-as, row-link, same-test, other-test, put, put-here, put-other, family-under, under-held, under-still, orphaned, orphaned-other, orphans, last_or, last-inside, row-before, row-rest, parted, parted-here, parted-other, family-without, Stands, without-still}
use Rattle.aio_timers.proofs.MeldLemmas.{melds-top}
use Rattle.aio_timers.proofs.AlikeLemmas.{held-read}

-- ## What all nodes hold

none_some : {X : Type 0} (x : X) → ◌≡◌ {A = Option X} None (Some x) → ⊥
none_some x e = cc

pub helds-same : (old new : List Node) → KeepsHeld old new → helds new ≡ helds old
helds-same old new k =
    ext_get_or vacant (helds new) (helds old) (length-map new held_of ∙ k.len ∙ sym (length-map old held_of)) (λ j lt. held-read new j ∙ k.held j ∙ sym (held-read old j))

-- where one node holds something else
pub helds-one : (old new : List Node) (at : ℕ) (h : Held) → at < length old → length new ≡ length old → held_at new at ≡ h → ((j : ℕ) → j ≢ at → held_at new j ≡ held_at old j) → helds new ≡ set (helds old) at h
helds-one old new at h lt len is others =
    ext_get_or vacant (helds new) (set (helds old) at h) (length-map new held_of ∙ len ∙ sym (length-map old held_of) ∙ sym (length-set (helds old) at h))
    (λ j _. held-read new j ∙ elim (cases_eq j at) as (λ _. held_at new j ≡ get_or (set (helds old) at h) j vacant) [
      | inl e ↦ rw e (is ∙ sym (get_or-set_same (helds old) at h vacant (omega (arith, lt, length-map old held_of))))
      | inr ne ↦ others j ne ∙ sym (held-read old j) ∙ sym (get_or-set_other (helds old) at j h vacant ne)
    ])

-- ## The free list

pub record Spares (ns : List Node) (free : Option ℕ) : Type 0 where
  pub spare : List ℕ
  pub run : IsRun ns free spare
  pub idle : (j : ℕ) → j < length ns → times_in j spare ≡ one_free (held_at ns j)

pub spares-of : (ns : List Node) (root free : Option ℕ) → IsHeap ns root free → Spares ns free
spares-of ns root free h = record { spare = h.spare; run = h.run; idle = h.idle }

free-used : (h : Held) → IsUsed h → one_free h ≡ 0
free-used h u = ap (λ (b : Bool). cond b 0 1) u

free-le : (h : Held) → one_free h ≤ 1
free-le h = elim (is_some h.waker) as (λ (b : Bool). cond b 0 1 ≤ 1) [ true ↦ omega arith | false ↦ omega arith ]

pub spare-unused : (ns : List Node) (free : Option ℕ) (s : Spares ns free) (j : ℕ) → 0 < times_in j s.spare → IsUsed (held_at ns j) → ⊥
spare-unused ns free s j c u = omega (arith, c, s.idle j (run-within ns free s.spare j s.run c), free-used (held_at ns j) u)

-- a node that is not in use has no parent
pub unowned : (ns : List Node) (f : Family) (j : ℕ) → IsFamily ns f → (IsUsed (held_at ns j) → ⊥) → f.above j ≡ None
unowned ns f j h idle = go (f.above j) refl
  where
    go : (o : Option ℕ) → f.above j ≡ o → f.above j ≡ None
    go None e = e
    go (Some i) e = let p : IsParent ns i j = h.order i j e in absurd (idle p.child)

spares-keep : (old new : List Node) (f : Family) (free : Option ℕ) → IsFamily old f → KeepsHeld old new → ((j : ℕ) → f.above j ≡ None → (IsUsed (held_at old j) → ⊥) → (node_at new j).next ≡ (node_at old j).next) → Spares old free
    → Spares new free
spares-keep old new f free h k still s = record {
  spare = s.spare;
  run = run-frame old new free s.spare k.len (λ j c. let idle = spare-unused old free s j c in still j (unowned old f j h idle) idle) s.run;
  idle = λ j lt. s.idle j (omega (arith, lt, k.len)) ∙ ap one_free (sym (k.held j));
}

-- a node in use becomes the first free one
spares-released : (ns : List Node) (at : ℕ) (free : Option ℕ) → IsUsed (held_at ns at) → Spares ns free → Spares (put_on_free ns at free) (Some at)
spares-released ns at free used s =
    let lt : at < length ns = used-within ns at used in
    let w : Frees ns (put_on_free ns at free) at free = frees ns at free lt in
    let ne : (j : ℕ) → 0 < times_in j s.spare → j ≢ at = λ j c e. spare-unused ns free s j c (used-as (held_at ns j) (held_at ns at) (ap (held_at ns) e) used) in
    record {
      spare = at ∷ s.spare;
      run = (refl, omega (arith, lt, w.len), rw w.next_here (run-frame ns (put_on_free ns at free) free s.spare w.len (λ j c. w.next j (ne j c)) s.run));
      idle = λ j within. elim (cases_eq j at) as (λ _. one_if j at + times_in j s.spare ≡ one_free (held_at (put_on_free ns at free) j)) [
        | inl e ↦ rw e (omega (arith, one_if-same at, s.idle at lt, free-used (held_at ns at) used, ap one_free w.held_here))
        | inr other ↦ omega (arith, one_if-other j at other, s.idle j (omega (arith, within, w.len)), ap one_free (w.held j other))
      ];
    }

-- the first free node, and those behind it
pub record FirstFree (ns : List Node) (at : ℕ) : Type 0 where
  pub within : at < length ns
  pub unused : IsUsed (held_at ns at) → ⊥
  pub behind : List ℕ
  pub run : IsRun ns (node_at ns at).next behind
  pub idle : (j : ℕ) → j < length ns → one_if j at + times_in j behind ≡ one_free (held_at ns j)

pub first-free : (ns : List Node) (at : ℕ) → Spares ns (Some at) → FirstFree ns at
first-free ns at s = go s.spare s.run s.idle
  where
    go : (ks : List ℕ) → IsRun ns (Some at) ks → ((j : ℕ) → j < length ns → times_in j ks ≡ one_free (held_at ns j)) → FirstFree ns at
    go [] run idle = absurd (none_some at (sym run))
    go (k ∷ more) run idle =
        let is : at ≡ k = cc (run.0) in
        rw is (record { within = run.1; unused = λ u. omega (arith, idle k run.1, one_if-same k, free-used (held_at ns k) u); behind = more; run = run.2; idle = idle })

spares-placed : (ns : List Node) (at : ℕ) (n : Node) → IsUsed (held_of n) → FirstFree ns at → Spares (set ns at n) (node_at ns at).next
spares-placed ns at n used s =
    let len : length (set ns at n) ≡ length ns = length-set ns at n in
    let ne : (j : ℕ) → 0 < times_in j s.behind → j ≢ at = λ j c e. omega (arith, c, s.idle at s.within, one_if-same at, free-le (held_at ns at), ap (λ (k : ℕ). times_in k s.behind) e) in
    record {
      spare = s.behind;
      run = run-frame ns (set ns at n) (node_at ns at).next s.behind len (λ j c. apart (λ (x : Node). x.next) ns at j n (ne j c)) s.run;
      idle = λ j within. elim (cases_eq j at) as (λ _. times_in j s.behind ≡ one_free (held_at (set ns at n) j)) [
        | inl e ↦ rw e (omega (arith, s.idle at s.within, one_if-same at, free-le (held_at ns at), free-used (held_of n) used, ap one_free (here held_of ns at n s.within)))
        | inr other ↦ omega (arith, s.idle j (omega (arith, within, len)), one_if-other j at other, ap one_free (apart held_of ns at j n other))
      ];
    }

-- ## Two trees become one

pub record Joins (ns ms : List Node) (root : ℕ) (free : Option ℕ) : Type 0 where
  pub heap : IsHeap ms (Some root) free
  pub kept : KeepsHeld ns ms

joins-under : (ns : List Node) (f : Family) (p i : ℕ) (free : Option ℕ) → IsFamily ns f → IsRoot ns f p → IsTop ns f i → p ≢ i → precedes (held_at ns p) (held_at ns i) ≡ true → ((j : ℕ) → IsTop ns f j → j ≢ i → j ≡ p) → Spares ns free
    → Joins ns (under ns p i) p free
joins-under ns f p i free h root top ne before others s =
    let up : IsUsed (held_at ns p) = root.top.used in
    let k : KeepsHeld ns (under ns p i) = under-held ns f p i h up top in
    let own = under-still ns f p i p h up top root.top.free ne in
    let rest : Spares (under ns p i) free = spares-keep ns (under ns p i) f free h k
    (λ j none idle. let still = under-still ns f p i j h up top none (λ e. idle (used-as (held_at ns j) (held_at ns i) (ap (held_at ns) e) top.used)) in still.0) s in
    record {
      kept = k;
      heap = record {
        family = put f p i;
        spare = rest.spare;
        rows = family-under ns f p i h up top before;
        root_is = record { top = record { used = used-as (held_at (under ns p i) p) (held_at ns p) (k.held p) up; free = put-other f p i p ne ∙ root.top.free }; next = own.0 ∙ root.next; prev = own.1 ∙ root.prev };
        single = λ j t. elim (cases_eq j i) as (λ _. ◌≡◌ {A = Option ℕ} (Some p) (Some j)) [
          | inl e ↦ absurd (none_some p (sym t.free ∙ ap (put f p i).above e ∙ put-here f p i))
          | inr nj ↦
              let was : IsTop ns f j = record { used = used-as (held_at ns j) (held_at (under ns p i) j) (sym (k.held j)) t.used; free = sym (put-other f p i j nj) ∙ t.free } in
              ap (λ (x : ℕ). Some x) (sym (others j was nj))
        ];
        run = rest.run;
        idle = rest.idle;
      };
    }

pub joins : (ns : List Node) (f : Family) (a b : ℕ) (free : Option ℕ) → IsFamily ns f → IsRoot ns f a → IsRoot ns f b → a ≢ b → ((j : ℕ) → IsTop ns f j → j ≢ a → j ≡ b) → Spares ns free
    → Joins ns (joined ns a b) (upper ns a b) free
joins ns f a b free h ra rb ne others s = go (precedes (held_at ns b) (held_at ns a)) refl
  where
    go : (x : Bool) → precedes (held_at ns b) (held_at ns a) ≡ x → Joins ns (under ns (cond x b a) (cond x a b)) (cond x b a) free
    go true e = joins-under ns f b a free h rb ra.top (λ d. ne (sym d)) e others s
    go false e = joins-under ns f a b free h ra rb.top ne (strict ns f a b h ra.top.used rb.top.used ne e)
        (λ j t nb. elim (cases_eq j a) as (λ _. j ≡ a) [ inl d ↦ d | inr na ↦ absurd (nb (others j t na)) ]) s

-- ## A timer joins the heap

-- one more root, without children
abbrev pub newcomer : Family → ℕ → Family
newcomer f at = record { above = f.above; below = λ k. cond (k == at) [] (f.below k) }

module _ (ns : List Node) (at : ℕ) (n : Node) (s : FirstFree ns at) (used : IsUsed (held_of n)) where
  placed-used : (k : ℕ) → k ≢ at → IsUsed (held_at (set ns at n) k) → IsUsed (held_at ns k)
  placed-used k ne u = used-as (held_at ns k) (held_at (set ns at n) k) (sym (apart held_of ns at k n ne)) u

  not-there : (k : ℕ) → IsUsed (held_at ns k) → k ≢ at
  not-there k u e = s.unused (used-as (held_at ns at) (held_at ns k) (ap (held_at ns) (sym e)) u)

  pub family-new : (f : Family) → IsFamily ns f → n.child ≡ None → IsNewPair ns (held_of n) → IsFamily (set ns at n) (newcomer f at)
  family-new f h lone new =
      let ms : List Node = set ns at n in
      let same : (k : ℕ) → k ≢ at → held_at (set ns at n) k ≡ held_at ns k = λ k ne. apart held_of ns at k n ne in
      let here_ : held_at (set ns at n) at ≡ held_of n = here held_of ns at n s.within in
      record {
        linked = λ k u. elim (cases_eq k at) as (λ _. IsRow (set ns at n) k (node_at (set ns at n) k).child (cond (k == at) [] (f.below k))) [
          | inl e ↦ rw (e, same-test at) (here (λ (x : Node). x.child) ns at n s.within ∙ lone)
          | inr ne ↦ rw (other-test k at ne, apart (λ (x : Node). x.child) ns at k n ne)
              (row-frame ns ms k (node_at ns k).child (f.below k) (length-set ns at n)
              (λ j c. let p : IsParent ns k j = h.order k j (below-has ns f k j h (placed-used k ne u) c) in let nj = not-there j p.child in (apart (λ (x : Node). x.next) ns at j n nj, apart (λ (x : Node). x.prev) ns at j n nj))
              (h.linked k (placed-used k ne u)))
        ];
        members = λ k j u. elim (cases_eq k at) as (λ _. times_in j (cond (k == at) [] (f.below k)) ≡ one_below (newcomer f at) k j) [
          | inl e ↦ rw (e, same-test at) (sym (none-led (f.above j) at (λ d. let p : IsParent ns at j = h.order at j d in s.unused p.parent)))
          | inr ne ↦ rw (other-test k at ne) (h.members k j (placed-used k ne u))
        ];
        order = λ k j e. let p : IsParent ns k j = h.order k j e in parent-as ns ms k j (same k (not-there k p.parent)) (same j (not-there j p.child)) p;
        apart = λ i j u v d e. elim (cases_eq i at) as (λ _. i ≡ j) [
          | inl a ↦ elim (cases_eq j at) as (λ _. i ≡ j) [
            | inl b ↦ a ∙ sym b
            | inr nb ↦ absurd (clash i j a (same j nb) here_ (placed-used j nb v) d e)
          ]
          | inr na ↦ elim (cases_eq j at) as (λ _. i ≡ j) [
            | inl b ↦ absurd (clash j i b (same i na) here_ (placed-used i na u) (sym d) (sym e))
            | inr nb ↦ h.apart i j (placed-used i na u) (placed-used j nb v) (ap (λ (x : Held). x.deadline) (sym (same i na)) ∙ d ∙ ap (λ (x : Held). x.deadline) (same j nb))
                (ap (λ (x : Held). x.id) (sym (same i na)) ∙ e ∙ ap (λ (x : Held). x.id) (same j nb))
          ]
        ];
      }
    where
      clash : (i j : ℕ) → i ≡ at → held_at (set ns at n) j ≡ held_at ns j → held_at (set ns at n) at ≡ held_of n → IsUsed (held_at ns j) → (held_at (set ns at n) i).deadline ≡ (held_at (set ns at n) j).deadline → (held_at (set ns at n) i).id ≡ (held_at (set ns at n) j).id → ⊥
      clash i j a same here_ u d e =
          let own : held_at (set ns at n) i ≡ held_of n = ap (held_at (set ns at n)) a ∙ here_ in
          new j u (ap (λ (x : Held). x.deadline) (sym same) ∙ sym d ∙ ap (λ (x : Held). x.deadline) own) (ap (λ (x : Held). x.id) (sym same) ∙ sym e ∙ ap (λ (x : Held). x.id) own)

-- the heap with the timer as one more root
pub record Placed (ns : List Node) (root : Option ℕ) (at : ℕ) (n : Node) : Type 0 where
  pub family : Family
  pub rows : IsFamily (set ns at n) family
  pub own : IsRoot (set ns at n) family at
  pub root_is : IfSome root (λ r. IsRoot (set ns at n) family r × (r ≢ at))
  pub others : (j : ℕ) → IsTop (set ns at n) family j → j ≢ at → root ≡ Some j
  pub spares : Spares (set ns at n) (node_at ns at).next
  pub helds_are : helds (set ns at n) ≡ set (helds ns) at (held_of n)

pub placed : (ns : List Node) (root : Option ℕ) (at : ℕ) (n : Node) → IsHeap ns root (Some at) → IsUsed (held_of n) → n ≡ lone_node (held_of n) → IsNewPair ns (held_of n) → Placed ns root at n
placed ns root at n h used lone new =
    let s : FirstFree ns at = first-free ns at (spares-of ns root (Some at) h) in
    record {
      family = newcomer h.family at;
      rows = family-new ns at n s used h.family h.rows (ap Node.child lone) new;
      own = record {
        top = record { used = used-as (held_at (set ns at n) at) (held_of n) (here held_of ns at n s.within) used; free = unowned ns h.family at h.rows s.unused };
        next = here (λ (x : Node). x.next) ns at n s.within ∙ ap Node.next lone;
        prev = here (λ (x : Node). x.prev) ns at n s.within ∙ ap Node.prev lone;
      };
      root_is = old_root s root h.root_is;
      others = λ j t ne. h.single j (record { used = placed-used ns at n s used j ne t.used; free = t.free });
      spares = spares-placed ns at n used s;
      helds_are = helds-one ns (set ns at n) at (held_of n) s.within (length-set ns at n) (here held_of ns at n s.within) (λ j ne. apart held_of ns at j n ne);
    }
  where
    old_root : FirstFree ns at → (o : Option ℕ) → IfSome o (λ r. IsRoot ns h.family r) → IfSome o (λ r. IsRoot (set ns at n) (newcomer h.family at) r × (r ≢ at))
    old_root s None r = tt
    old_root s (Some i) r =
        let ne : i ≢ at = not-there ns at n s used i r.top.used in (
          record {
            top = record { used = used-as (held_at (set ns at n) i) (held_at ns i) (apart held_of ns at i n ne) r.top.used; free = r.top.free };
            next = apart (λ (x : Node). x.next) ns at i n ne ∙ r.next;
            prev = apart (λ (x : Node). x.prev) ns at i n ne ∙ r.prev;
          },
          ne,
        )

-- it is the only one
pub placed-alone : (ns : List Node) (at : ℕ) (n : Node) → Placed ns None at n → Holds ns (set ns at n) at (held_of n) (Some at) (node_at ns at).next
placed-alone ns at n p = record {
  helds_are = p.helds_are;
  heap = record {
    family = p.family;
    spare = p.spares.spare;
    rows = p.rows;
    root_is = p.own;
    single = λ j t. elim (cases_eq j at) as (λ _. ◌≡◌ {A = Option ℕ} (Some at) (Some j)) [ inl e ↦ ap (λ (x : ℕ). Some x) (sym e) | inr ne ↦ absurd (none_some j (p.others j t ne)) ];
    run = p.spares.run;
    idle = p.spares.idle;
  };
}

-- or it is joined with the root
pub placed-beside : (ns : List Node) (top at : ℕ) (n : Node) → Placed ns (Some top) at n → Holds ns (joined (set ns at n) top at) at (held_of n) (Some (upper (set ns at n) top at)) (node_at ns at).next
placed-beside ns top at n p =
    let j : Joins (set ns at n) (joined (set ns at n) top at) (upper (set ns at n) top at) (node_at ns at).next = joins (set ns at n) p.family top at (node_at ns at).next p.rows p.root_is.0 p.own p.root_is.1
    (λ j t ne. elim (cases_eq j at) as (λ _. j ≡ at) [ inl e ↦ e | inr na ↦ absurd (ne (cc (p.others j t na))) ]) p.spares in
    record { heap = j.heap; helds_are = helds-same (set ns at n) (joined (set ns at n) top at) j.kept ∙ p.helds_are }

-- ## A timer leaves the heap

-- what a merge is given: the roots of a row, and the other ones
pub record Opens (ns mid : List Node) (at : ℕ) (root : Option ℕ) (first : Option ℕ) : Type 0 where
  pub family : Family
  pub row : List ℕ
  pub tops : AreTops mid family first row
  -- the one that is no part of the row
  pub root_is : IfSome root (λ r. IsRoot mid family r × (times_in r row ≡ 0))
  pub others : (j : ℕ) → IsTop mid family j → times_in j row ≡ 0 → root ≡ Some j
  pub spares : Spares mid (Some at)
  pub helds_are : helds mid ≡ set (helds ns) at (gone (held_at ns at))

-- the roots after a node was freed are its children and those before
opened-others : (ns : List Node) (f : Family) (at : ℕ) (free : Option ℕ) → IsFamily ns f → IsTop ns f at → (j : ℕ) → IsTop (put_on_free ns at free) (orphaned f at) j → times_in j (f.below at) ≡ 0 → IsTop ns f j × (j ≢ at)
opened-others ns f at free h top j t none =
    let w : Frees ns (put_on_free ns at free) at free = frees ns at free (used-within ns at top.used) in
    let ne : j ≢ at = λ e. absurd (gone-used (used-as (gone (held_at ns at)) (held_at (put_on_free ns at free) j) (sym (ap (held_at (put_on_free ns at free)) e ∙ w.held_here)) t.used)) in
    let not_below : f.above j ≢ Some at = λ e. omega (arith, none, has-below ns f at j h e) in
    (record { used = used-as (held_at ns j) (held_at (put_on_free ns at free) j) (sym (w.held j ne)) t.used; free = sym (orphaned-other f at j not_below) ∙ t.free }, ne)
  where
    gone-used : IsUsed (gone (held_at ns at)) → ⊥
    gone-used u = cc

released-helds : (ns : List Node) (at : ℕ) (free : Option ℕ) → at < length ns → helds (put_on_free ns at free) ≡ set (helds ns) at (gone (held_at ns at))
released-helds ns at free lt = let w : Frees ns (put_on_free ns at free) at free = frees ns at free lt in helds-one ns (put_on_free ns at free) at (gone (held_at ns at)) lt w.len w.held_here w.held

pub opens-root : (ns mid : List Node) (r : ℕ) (first free : Option ℕ) → first ≡ (node_at ns r).child → mid ≡ put_on_free ns r free → IsHeap ns (Some r) free → Opens ns mid r None first
opens-root ns mid r first free child is h =
    let top : IsTop ns h.family r = h.root_is.top in
    rw (child, is) (record {
      family = orphaned h.family r;
      row = h.family.below r;
      tops = orphans ns h.family r free h.rows top;
      root_is = tt;
      others = λ j t none. let was = opened-others ns h.family r free h.rows top j t none in absurd (was.1 (cc (h.single j was.0)));
      spares = spares-released ns r free top.used (spares-of ns (Some r) free h);
      helds_are = released-helds ns r free (used-within ns r top.used);
    })

-- a node that is not the root stands among the children of another one
record Child (ns : List Node) (f : Family) (at : ℕ) : Type 0 where
  parent : ℕ
  front : List ℕ
  back : List ℕ
  up : f.above at ≡ Some parent
  is : f.below parent ≡ front ++ at ∷ back

its-parent : (ns : List Node) (root at : ℕ) (free : Option ℕ) → (h : IsHeap ns (Some root) free) → IsUsed (held_at ns at) → at ≢ root → Child ns h.family at
its-parent ns root at free h used ne = go (h.family.above at) refl
  where
    go : (o : Option ℕ) → h.family.above at ≡ o → Child ns h.family at
    go None e = absurd (ne (cc (h.single at (record { used = used; free = e }))))
    go (Some q) e =
        let s : Split at (h.family.below q) = split-at at (h.family.below q) (omega (arith, has-below ns h.family q at h.rows e)) in
        record { parent = q; front = s.front; back = s.back; up = e; is = s.is }

-- the siblings beside it are nodes
pub record LinksInside (ns : List Node) (at : ℕ) : Type 0 where
  pub next : IfSome (node_at ns at).next (λ i. i < length ns)
  pub prev : IfSome (node_at ns at).prev (λ i. i < length ns)

pub links-inside : (ns : List Node) (root at : ℕ) (free : Option ℕ) → IsHeap ns (Some root) free → IsUsed (held_at ns at) → at ≢ root → LinksInside ns at
links-inside ns root at free h used ne =
    let c : Child ns h.family at = its-parent ns root at free h used ne in
    let p : IsParent ns c.parent at = h.rows.order c.parent at c.up in
    let first : Option ℕ = (node_at ns c.parent).child in
    let r : IsRow ns c.parent (node_at ns c.parent).child (c.front ++ at ∷ c.back) = rw (← c.is) (h.rows.linked c.parent p.parent) in
    record {
      next = row-link ns at (node_at ns at).next c.back (row-rest ns c.parent first c.front at c.back r);
      prev = rw (row-before ns c.parent first c.front at c.back r) (before c.parent c.front at c.back (used-within ns c.parent p.parent) (λ j k. run-within ns first (c.front ++ at ∷ c.back) j (row-run ns c.parent first (c.front ++ at ∷ c.back) r) k));
    }
  where
    before : (q : ℕ) (front : List ℕ) (i : ℕ) (back : List ℕ) → q < length ns → ((j : ℕ) → 0 < times_in j (front ++ i ∷ back) → j < length ns) → last_or q front < length ns
    before q [] i back lt within = lt
    before q (x ∷ xs) i back lt within = within (last_or x xs) (omega (arith, last-inside x xs, times-append (last_or x xs) (x ∷ xs) (i ∷ back)))

pub opens-inner : (ns us mid : List Node) (root at : ℕ) (first free : Option ℕ) → us ≡ without ns at → first ≡ (node_at us at).child → mid ≡ put_on_free us at free → IsHeap ns (Some root) free → IsUsed (held_at ns at) → at ≢ root
    → Opens ns mid at (Some root) first
opens-inner ns us mid root at first free left child is h used ne =
    let c : Child ns h.family at = its-parent ns root at free h used ne in
    let p : IsParent ns c.parent at = h.rows.order c.parent at c.up in
    let tops : h.family.above c.parent ≡ None → (node_at ns c.parent).next ≢ Some at = λ above e. none_on at (sym (alone c.parent (cc (h.single c.parent (record { used = p.parent; free = above })))) ∙ e) in
    rw (child, is, left) (opened c (family-without ns h.family at c.parent c.front c.back h.rows c.up tops c.is) (without-still ns h.family at c.parent c.front c.back h.rows c.up tops c.is))
  where
    none_on : (k : ℕ) → ◌≡◌ {A = Option ℕ} None (Some k) → ⊥
    none_on k e = cc

    alone : (q : ℕ) → root ≡ q → (node_at ns q).next ≡ None
    alone q e = ap (λ (x : ℕ). (node_at ns x).next) (sym e) ∙ h.root_is.next

    opened : (c : Child ns h.family at) → IsFamily (without ns at) (parted h.family at c.parent c.front c.back) → Stands ns (without ns at) h.family at → Opens ns (put_on_free (without ns at) at free) at (Some root) (node_at (without ns at) at).child
    opened c fam st =
        let us : List Node = without ns at in
        let f : Family = parted h.family at c.parent c.front c.back in
        let top : IsTop (without ns at) (parted h.family at c.parent c.front c.back) at = record { used = used-as (held_at us at) (held_at ns at) (st.kept.held at) used; free = parted-here h.family at c.parent c.front c.back } in
        let w : Frees (without ns at) (put_on_free (without ns at) at free) at free = frees us at free (used-within us at top.used) in
        let rne : root ≢ at = λ e. ne (sym e) in
        let rfree : (parted h.family at c.parent c.front c.back).above root ≡ None = parted-other h.family at c.parent root c.front c.back rne ∙ h.root_is.top.free in
        let links : ((node_at (without ns at) root).next ≡ (node_at ns root).next) × ((node_at (without ns at) root).prev ≡ (node_at ns root).prev) = st.still root h.root_is.top.free in
        record {
          family = orphaned f at;
          row = f.below at;
          tops = orphans us f at free fam top;
          root_is = (
            record {
              top = record { used = used-as (held_at (put_on_free us at free) root) (held_at ns root) (w.held root rne ∙ st.kept.held root) h.root_is.top.used; free = orphaned-other f at root (λ e. none_some at (sym rfree ∙ e)) ∙ rfree };
              next = w.next root rne ∙ links.0 ∙ h.root_is.next;
              prev = w.prev root ∙ links.1 ∙ h.root_is.prev;
            },
            none-below us f at root fam top.used (λ e. none_some at (sym rfree ∙ e)),
          );
          others = λ j t none.
              let was = opened-others us f at free fam top j t none in
              h.single j (record { used = used-as (held_at ns j) (held_at us j) (sym (st.kept.held j)) was.0.used; free = sym (parted-other h.family at c.parent j c.front c.back was.1) ∙ was.0.free });
          spares = spares-released us at free top.used (spares-keep ns us h.family free h.rows st.kept (λ j none idle. let still = st.still j none in still.0) (spares-of ns (Some root) free h));
          helds_are = released-helds us at free (used-within us at top.used) ∙ ap (λ (hs : List Held). set hs at (gone (held_at us at))) (helds-same ns us st.kept) ∙ ap (λ (x : Held). set (helds ns) at (gone x)) (st.kept.held at);
        }

-- what a merge leaves of them
module _ (mid new : List Node) (f : Family) (l : Option ℕ) (ks : List ℕ) (top : ℕ) (t : AreTops mid f l ks) (m : MergesTo mid new f ks top) where
  merged-root : IsRoot new m.melds.now top
  merged-root = record { top = melds-top mid new f l ks (top ∷ []) top t m.melds (omega (arith, one_if-same top)); next = m.next; prev = m.prev }

  -- each other root was one before
  merged-other : (j : ℕ) → IsTop new m.melds.now j → j ≢ top → IsTop mid f j × (times_in j ks ≡ 0)
  merged-other j r ne = elim (some_or_none (times_in j ks)) as (λ _. IsTop mid f j × (times_in j ks ≡ 0)) [
    | inl c ↦ absurd (omega (arith, m.melds.others j c r.free, one_if-other j top ne))
    | inr z ↦ (record { used = used-as (held_at mid j) (held_at new j) (sym (m.melds.kept.held j)) r.used; free = sym (m.melds.outside j z) ∙ r.free }, z)
  ]

  merged-beside : (r : ℕ) → IsRoot mid f r → times_in r ks ≡ 0 → IsRoot new m.melds.now r
  merged-beside r is z =
      let still : ((node_at new r).next ≡ (node_at mid r).next) × ((node_at new r).prev ≡ (node_at mid r).prev) = m.melds.still r z is.top.free in
      record {
        top = record { used = used-as (held_at new r) (held_at mid r) (m.melds.kept.held r) is.top.used; free = m.melds.outside r z ∙ is.top.free };
        next = still.0 ∙ is.next;
        prev = still.1 ∙ is.prev;
      }

  merged-spares : (free : Option ℕ) → Spares mid free → Spares new free
  merged-spares free s = spares-keep mid new f free t.family m.melds.kept (λ j none idle. let still = m.melds.still j (out j idle) none in still.0) s
    where
      out : (j : ℕ) → (IsUsed (held_at mid j) → ⊥) → times_in j ks ≡ 0
      out j idle = elim (some_or_none (times_in j ks)) as (λ _. times_in j ks ≡ 0) [ inl c ↦ let r : IsTop mid f j = t.tops j c in absurd (idle r.used) | inr z ↦ z ]

-- where the row was empty, what was the root is it still
pub merged-none : (ns mid new : List Node) (at : ℕ) (root first : Option ℕ) → (o : Opens ns mid at root first) → Merges mid new o.family o.row None → Holds ns new at (gone (held_at ns at)) root (Some at)
merged-none ns mid new at root first o m = rw m.1 (record {
  helds_are = o.helds_are;
  heap = record {
    family = o.family;
    spare = o.spares.spare;
    rows = o.tops.family;
    root_is = its root o.root_is;
    single = λ j t. o.others j t (ap (times_in j) m.0);
    run = o.spares.run;
    idle = o.spares.idle;
  };
})
  where
    its : (r : Option ℕ) → IfSome r (λ i. IsRoot mid o.family i × (times_in i o.row ≡ 0)) → IfSome r (λ i. IsRoot mid o.family i)
    its None h = tt
    its (Some i) h = h.0

-- where there was no other root, the merged one is the root
pub merged-alone : (ns mid new : List Node) (at : ℕ) (first answer : Option ℕ) → (o : Opens ns mid at None first) → Merges mid new o.family o.row answer → Holds ns new at (gone (held_at ns at)) answer (Some at)
merged-alone ns mid new at first None o m = merged-none ns mid new at None first o m
merged-alone ns mid new at first (Some top) o m =
    let s : Spares new (Some at) = merged-spares mid new o.family first o.row top o.tops m (Some at) o.spares in
    record {
      helds_are = helds-same mid new m.melds.kept ∙ o.helds_are;
      heap = record {
        family = m.melds.now;
        spare = s.spare;
        rows = m.melds.family;
        root_is = merged-root mid new o.family first o.row top o.tops m;
        single = λ j t. elim (cases_eq j top) as (λ _. ◌≡◌ {A = Option ℕ} (Some top) (Some j)) [
          | inl e ↦ ap (λ (x : ℕ). Some x) (sym e)
          | inr ne ↦ let was = merged-other mid new o.family first o.row top o.tops m j t ne in absurd (none_some j (o.others j was.0 was.1))
        ];
        run = s.run;
        idle = s.idle;
      };
    }

-- else it is joined with that one
pub record Rejoins (ns new : List Node) (at root top : ℕ) : Type 0 where
  pub first : IsInside new root
  pub second : IsInside new top
  pub len : length new ≡ length ns
  pub holds : Holds ns (joined new root top) at (gone (held_at ns at)) (Some (upper new root top)) (Some at)

pub rejoins : (ns mid new : List Node) (at root top : ℕ) (first : Option ℕ) → (o : Opens ns mid at (Some root) first) → MergesTo mid new o.family o.row top → Rejoins ns new at root top
rejoins ns mid new at root top first o m =
    let rr : IsRoot new m.melds.now root = merged-beside mid new o.family first o.row top o.tops m root o.root_is.0 o.root_is.1 in
    let rt : IsRoot new m.melds.now top = merged-root mid new o.family first o.row top o.tops m in
    let j : Joins new (joined new root top) (upper new root top) (Some at) = joins new m.melds.now root top (Some at) m.melds.family rr rt
    (λ e. omega (arith, o.root_is.1, m.melds.once top, one_if-same top, ap (λ (x : ℕ). times_in x o.row) e))
    (λ j t ne. elim (cases_eq j top) as (λ _. j ≡ top) [
      | inl e ↦ e
      | inr nt ↦ let was = merged-other mid new o.family first o.row top o.tops m j t nt in absurd (ne (cc (o.others j was.0 was.1)))
    ]) (merged-spares mid new o.family first o.row top o.tops m (Some at) o.spares) in
    record {
      first = inside-of new m.melds.now root m.melds.family rr.top.used;
      second = inside-of new m.melds.now top m.melds.family rt.top.used;
      len = m.melds.kept.len ∙ sym (length-map mid held_of) ∙ ap (λ (hs : List Held). length hs) o.helds_are ∙ length-set (helds ns) at _ ∙ length-map ns held_of;
      holds = record { heap = j.heap; helds_are = helds-same new (joined new root top) j.kept ∙ helds-same mid new m.melds.kept ∙ o.helds_are };
    }
