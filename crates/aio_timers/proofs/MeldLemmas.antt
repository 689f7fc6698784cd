-- The merge of a row: of its roots fewer and fewer are left.
use Rattle.std.proofs.Common.{inl, inr, ◌≡◌, ◌≢◌, ℕ, ◌<◌, ◌≤◌, Bool, true, false, cond, List, [], ◌∷◌, ◌++◌, length, Option, None, Some, IfSome, arith, refl, sym, ap, ◌∙◌, length-set}
use Rattle.std.proofs.lemmas.Bool.{cases_eq}
use Rattle.aio_timers.specs.declared.node.Node.{Node}
use Rattle.aio_timers.specs.Held.{held_of, held_at, node_at}
use Rattle.aio_timers.specs.Precedes.{precedes}
use Rattle.aio_timers.specs.Rows.{one_if, times_in, IsRun, IsInside, steps_from}
use Rattle.aio_timers.specs.Writes.{with_next, under, upper, joined, paired, behind_pair, upper_of_pair, alone}
use Rattle.aio_timers.specs.Family.{Family, IsTop, AreTops, KeepsHeld, Melds, Pairs, CombinesAt, Combines, MergesTo}
use Rattle.aio_timers.proofs.CountLemmas.{one_if-same, one_if-other, some_or_none}
use Rattle.aio_timers.proofs.RunLemmas.{times-append, once-le, run-within, run-frame, steps-of-run}
use Rattle.aio_timers.proofs.WriteLemmas.{kept, apart, here}
use Rattle.aio_timers.proofs.FamilyLemmas.{strict, used-as, inside-of, family-alike, put, put-here, put-other, family-under, under-held, under-still}

none_some : (k : ℕ) → ◌≡◌ {A = Option ℕ} None (Some k) → ⊥
none_some k e = cc

pub keeps-then : (a b c : List Node) → KeepsHeld a b → KeepsHeld b c → KeepsHeld a c
keeps-then a b c k m = record { len = m.len ∙ k.len; held = λ j. m.held j ∙ k.held j }

-- ## What is left of a row

pub melds-none : (ns : List Node) (f : Family) (l : Option ℕ) (ks : List ℕ) → AreTops ns f l ks → Melds ns ns f ks ks
melds-none ns f l ks t = record {
  now = f;
  family = t.family;
  kept = record { len = refl; held = λ j. refl };
  once = λ j. omega arith;
  tops = λ j h. let top : IsTop ns f j = t.tops j h in top.free;
  others = λ j h e. h;
  outside = λ j h. refl;
  still = λ j h e. (refl, refl);
}

pub melds-same : (old new : List Node) (f : Family) (ks a b : List ℕ) → ((j : ℕ) → times_in j a ≡ times_in j b) → Melds old new f ks a → Melds old new f ks b
melds-same old new f ks a b same m = record {
  now = m.now;
  family = m.family;
  kept = m.kept;
  once = λ j. omega (arith, m.once j, same j);
  tops = λ j h. m.tops j (omega (arith, h, same j));
  others = λ j h e. omega (arith, m.others j h e, same j);
  outside = m.outside;
  still = m.still;
}

pub melds-then : (old mid new : List Node) (f : Family) (ks a b : List ℕ) (m : Melds old mid f ks a) → Melds mid new m.now a b → Melds old new f ks b
melds-then old mid new f ks a b m n = record {
  now = n.now;
  family = n.family;
  kept = keeps-then old mid new m.kept n.kept;
  once = λ j. omega (arith, m.once j, n.once j);
  tops = n.tops;
  others = λ j h e. elim (some_or_none (times_in j a)) as (λ _. 0 < times_in j b) [
    | inl in_a ↦ n.others j in_a e
    | inr out ↦ absurd (omega (arith, out, m.others j h (sym (n.outside j out) ∙ e)))
  ];
  outside = λ j h. let out : times_in j a ≡ 0 = omega (arith, h, m.once j) in n.outside j out ∙ m.outside j h;
  still = λ j h e.
      let out : times_in j a ≡ 0 = omega (arith, h, m.once j) in
      let late : ((node_at new j).next ≡ (node_at mid j).next) × ((node_at new j).prev ≡ (node_at mid j).prev) = n.still j out (m.outside j h ∙ e) in
      let soon : ((node_at mid j).next ≡ (node_at old j).next) × ((node_at mid j).prev ≡ (node_at old j).prev) = m.still j h e in
      (late.0 ∙ soon.0, late.1 ∙ soon.1);
}

pub melds-top : (old new : List Node) (f : Family) (l : Option ℕ) (ks left : List ℕ) (j : ℕ) → AreTops old f l ks → (m : Melds old new f ks left) → 0 < times_in j left → IsTop new m.now j
melds-top old new f l ks left j t m h =
    let was : IsTop old f j = t.tops j (omega (arith, h, m.once j)) in
    record { used = used-as (held_at new j) (held_at old j) (m.kept.held j) was.used; free = m.tops j h }

pub melds-once : (old new : List Node) (f : Family) (l : Option ℕ) (ks left : List ℕ) (j : ℕ) → AreTops old f l ks → Melds old new f ks left → times_in j left ≤ 1
melds-once old new f l ks left j t m = omega (arith, m.once j, t.once j)

-- what is left in a row is a row of roots again
pub melds-tops : (old new : List Node) (f : Family) (l to : Option ℕ) (ks left : List ℕ) → AreTops old f l ks → (m : Melds old new f ks left) → IsRun new to left → AreTops new m.now to left
melds-tops old new f l to ks left t m r = record { family = m.family; run = r; tops = λ j h. melds-top old new f l ks left j t m h; once = λ j. melds-once old new f l ks left j t m }

pub melds-inside : (old new : List Node) (f : Family) (l : Option ℕ) (ks left : List ℕ) (j : ℕ) → AreTops old f l ks → Melds old new f ks left → 0 < times_in j left → IsInside new j
melds-inside old new f l ks left j t m h = let top : IsTop new m.now j = melds-top old new f l ks left j t m h in inside-of new m.now j m.family top.used

-- ## Two roots are joined

-- one of two roots comes below the other
pub record Lowers (old mid new : List Node) (f : Family) (ks : List ℕ) (top : ℕ) (left : List ℕ) : Type 0 where
  pub melds : Melds old new f ks (top ∷ left)
  pub len : length new ≡ length mid
  pub next : (j : ℕ) → 0 < times_in j left → (node_at new j).next ≡ (node_at mid j).next

melds-under : (old mid : List Node) (f : Family) (l : Option ℕ) (ks : List ℕ) (p i : ℕ) (left : List ℕ) → AreTops old f l ks → Melds old mid f ks (p ∷ i ∷ left) → precedes (held_at mid p) (held_at mid i) ≡ true → Lowers old mid (under mid p i) f ks p left
melds-under old mid f l ks p i left t m before =
    let up : IsTop mid m.now p = melds-top old mid f l ks (p ∷ i ∷ left) p t m (omega (arith, one_if-same p)) in
    let top : IsTop mid m.now i = melds-top old mid f l ks (p ∷ i ∷ left) i t m (omega (arith, one_if-same i)) in
    let once : (j : ℕ) → times_in j (p ∷ i ∷ left) ≤ 1 = λ j. melds-once old mid f l ks (p ∷ i ∷ left) j t m in
    let not_i : (j : ℕ) → 0 < times_in j (p ∷ left) → j ≢ i = λ j h e. omega (arith, h, once i, one_if-same i, ap (λ (x : ℕ). times_in x (p ∷ left)) e) in
    let inside : 0 < times_in i ks = omega (arith, m.once i, one_if-same i) in
    let out : (j : ℕ) → times_in j ks ≡ 0 → j ≢ i = λ j h e. omega (arith, h, inside, ap (λ (x : ℕ). times_in x ks) e) in
    let k : KeepsHeld mid (under mid p i) = under-held mid m.now p i m.family up.used top in
    record {
      melds = record {
        now = put m.now p i;
        family = family-under mid m.now p i m.family up.used top before;
        kept = keeps-then old mid (under mid p i) m.kept k;
        once = λ j. omega (arith, m.once j);
        tops = λ j h. put-other m.now p i j (not_i j h) ∙ m.tops j (omega (arith, h));
        others = λ j h e. elim (cases_eq j i) as (λ _. 0 < times_in j (p ∷ left)) [
          | inl d ↦ absurd (none_some p (sym e ∙ ap (put m.now p i).above d ∙ put-here m.now p i))
          | inr ne ↦ omega (arith, m.others j h (sym (put-other m.now p i j ne) ∙ e), one_if-other j i ne)
        ];
        outside = λ j h. put-other m.now p i j (out j h) ∙ m.outside j h;
        still = λ j h e.
            let late : ((node_at (under mid p i) j).next ≡ (node_at mid j).next) × ((node_at (under mid p i) j).prev ≡ (node_at mid j).prev) = under-still mid m.now p i j m.family up.used top (m.outside j h ∙ e) (out j h) in
            let soon : ((node_at mid j).next ≡ (node_at old j).next) × ((node_at mid j).prev ≡ (node_at old j).prev) = m.still j h e in
            (late.0 ∙ soon.0, late.1 ∙ soon.1);
      };
      len = k.len;
      next = λ j h. let both : ((node_at (under mid p i) j).next ≡ (node_at mid j).next) × ((node_at (under mid p i) j).prev ≡ (node_at mid j).prev)
          = under-still mid m.now p i j m.family up.used top (m.tops j (omega (arith, h))) (not_i j (omega (arith, h))) in both.0;
    }

pub melds-join : (old mid : List Node) (f : Family) (l : Option ℕ) (ks : List ℕ) (a b : ℕ) (left : List ℕ) (ms : List Node) (top : ℕ) → AreTops old f l ks → Melds old mid f ks (a ∷ b ∷ left)
    → ms ≡ joined mid a b → top ≡ upper mid a b → Lowers old mid ms f ks top left
melds-join old mid f l ks a b left ms top t m is top_is = rw (is, top_is) (go (precedes (held_at mid b) (held_at mid a)) refl)
  where
    go : (x : Bool) → precedes (held_at mid b) (held_at mid a) ≡ x → Lowers old mid (under mid (cond x b a) (cond x a b)) f ks (cond x b a) left
    go true e = melds-under old mid f l ks b a left t (melds-same old mid f ks (a ∷ b ∷ left) (b ∷ a ∷ left) (λ j. omega arith) m) e
    go false e =
        let ta : IsTop mid m.now a = melds-top old mid f l ks (a ∷ b ∷ left) a t m (omega (arith, one_if-same a)) in
        let tb : IsTop mid m.now b = melds-top old mid f l ks (a ∷ b ∷ left) b t m (omega (arith, one_if-same b)) in
        let ne : a ≢ b = λ d. omega (arith, melds-once old mid f l ks (a ∷ b ∷ left) a t m, one_if-same a, ap (one_if a) d) in
        melds-under old mid f l ks a b left t m (strict mid m.now a b m.family ta.used tb.used ne e)

-- ## The links of a root are written

melds-written : (old mid new : List Node) (f : Family) (l : Option ℕ) (ks left : List ℕ) (a : ℕ) → AreTops old f l ks → Melds old mid f ks left → 0 < times_in a left → KeepsHeld mid new
    → ((j : ℕ) → (node_at new j).child ≡ (node_at mid j).child) → ((j : ℕ) → j ≢ a → ((node_at new j).next ≡ (node_at mid j).next) × ((node_at new j).prev ≡ (node_at mid j).prev)) → Melds old new f ks left
melds-written old mid new f l ks left a t m h k child same =
    let out : (j : ℕ) → times_in j ks ≡ 0 → j ≢ a = λ j z e. omega (arith, z, h, m.once a, ap (λ (x : ℕ). times_in x ks) e) in
    record {
      now = m.now;
      family = family-alike mid new m.now m.family k child (λ j i e. same j (λ d. none_some i (sym (m.tops a h) ∙ ap m.now.above (sym d) ∙ e)));
      kept = keeps-then old mid new m.kept k;
      once = m.once;
      tops = m.tops;
      others = m.others;
      outside = m.outside;
      still = λ j z e.
          let late : ((node_at new j).next ≡ (node_at mid j).next) × ((node_at new j).prev ≡ (node_at mid j).prev) = same j (out j z) in
          let soon : ((node_at mid j).next ≡ (node_at old j).next) × ((node_at mid j).prev ≡ (node_at old j).prev) = m.still j z e in
          (late.0 ∙ soon.0, late.1 ∙ soon.1);
    }

pub melds-next : (old mid : List Node) (f : Family) (l : Option ℕ) (ks left : List ℕ) (a : ℕ) (to : Option ℕ) → AreTops old f l ks → Melds old mid f ks left → 0 < times_in a left → Melds old (with_next mid a to) f ks left
melds-next old mid f l ks left a to t m h = melds-written old mid (with_next mid a to) f l ks left a t m h
    (record { len = length-set mid a _; held = λ j. kept held_of mid a j _ refl }) (λ j. kept (λ (n : Node). n.child) mid a j _ refl)
    (λ j ne. (apart (λ (n : Node). n.next) mid a j _ ne, apart (λ (n : Node). n.prev) mid a j _ ne))

pub melds-alone : (old mid : List Node) (f : Family) (l : Option ℕ) (ks left : List ℕ) (a : ℕ) → AreTops old f l ks → Melds old mid f ks left → 0 < times_in a left → Melds old (alone mid a) f ks left
melds-alone old mid f l ks left a t m h = melds-written old mid (alone mid a) f l ks left a t m h
    (record { len = length-set (with_next mid a None) a _ ∙ length-set mid a _; held = λ j. kept held_of (with_next mid a None) a j _ refl ∙ kept held_of mid a j _ refl })
    (λ j. kept (λ (n : Node). n.child) (with_next mid a None) a j _ refl ∙ kept (λ (n : Node). n.child) mid a j _ refl)
    (λ j ne. (apart (λ (n : Node). n.next) (with_next mid a None) a j _ ne ∙ apart (λ (n : Node). n.next) mid a j _ ne, apart (λ (n : Node). n.prev) (with_next mid a None) a j _ ne ∙ apart (λ (n : Node). n.prev) mid a j _ ne))

-- ## Steps of the first pass

pub pairs-start : (ns : List Node) (f : Family) (l : Option ℕ) (ks : List ℕ) → AreTops ns f l ks → Pairs ns ns f ks l None
pairs-start ns f l ks t = record {
  coming = ks;
  made = [];
  coming_run = t.run;
  made_run = refl;
  melds = melds-same ns ns f ks ks (ks ++ []) (λ j. omega (arith, times-append j ks [])) (melds-none ns f l ks t);
  none = λ e. (refl, refl);
}

pub pairs-steps : (old mid : List Node) (f : Family) (l rest row : Option ℕ) (ks : List ℕ) → AreTops old f l ks → (p : Pairs old mid f ks rest row) → steps_from (length mid) mid rest ≡ length p.coming
pairs-steps old mid f l rest row ks t p = steps-of-run (length mid) mid rest p.coming p.coming_run
    (once-le (length mid) p.coming (λ j. omega (arith, melds-once old mid f l ks (p.coming ++ p.made) j t p.melds, times-append j p.coming p.made)) (λ j h. run-within mid rest p.coming j p.coming_run h))

-- a root and its next sibling, if it has one
pub record AreInside (ns : List Node) (a : ℕ) : Type 0 where
  pub first : IsInside ns a
  pub second : IfSome (node_at ns a).next (λ b. IsInside ns b)

pub pair-safe : (old mid : List Node) (f : Family) (l link row : Option ℕ) (ks : List ℕ) (a : ℕ) → AreTops old f l ks → Pairs old mid f ks link row → Some a ≡ link → AreInside mid a
pair-safe old mid f l link row ks a t p leads = go p.coming p.coming_run p.melds
  where
    second : (link : Option ℕ) (more : List ℕ) → IsRun mid link more → ((j : ℕ) → 0 < times_in j more → IsInside mid j) → IfSome link (λ b. IsInside mid b)
    second link [] r inside = rw r tt
    second link (b ∷ more) r inside = rw r.0 (inside b (omega (arith, one_if-same b)))

    go : (coming : List ℕ) → IsRun mid link coming → Melds old mid f ks (coming ++ p.made) → AreInside mid a
    go [] r m = absurd (none_some a (sym (leads ∙ r)))
    go (x ∷ more) r m =
        let same : x ≡ a = cc (leads ∙ r.0) in
        let inside : (j : ℕ) → 0 < times_in j (x ∷ more) → IsInside mid j = λ j h. melds-inside old mid f l ks (x ∷ more ++ p.made) j t m (omega (arith, h, times-append j more p.made)) in
        rw (← same) (record { first = inside x (omega (arith, one_if-same x)); second = second (node_at mid x).next more r.2 (λ j h. inside j (omega (arith, h))) })

-- a step, after which fewer roots are to come
pub record PairsOn (old ms : List Node) (f : Family) (ks : List ℕ) (rest row : Option ℕ) (before : ℕ) : Type 0 where
  pub pairs : Pairs old ms f ks rest row
  pub fewer : length pairs.coming < before

pub pair-goes : (old mid : List Node) (f : Family) (l link row : Option ℕ) (ks : List ℕ) (a : ℕ) (ms : List Node) (rest made : Option ℕ) → AreTops old f l ks → (p : Pairs old mid f ks link row) → Some a ≡ link
    → ms ≡ paired mid a (node_at mid a).next row → rest ≡ behind_pair mid (node_at mid a).next → made ≡ Some (upper_of_pair mid a (node_at mid a).next) → PairsOn old ms f ks rest made (length p.coming)
pair-goes old mid f l link row ks a ms rest made t p leads is rest_is made_is = rw (is, rest_is, made_is) (go p.coming p.coming_run p.melds)
  where
    -- roots are put in front of those that were made
    made-run : (new : List Node) (top : ℕ) → length new ≡ length mid → IsInside mid top → ((j : ℕ) → 0 < times_in j p.made → (node_at new j).next ≡ (node_at mid j).next) → (node_at new top).next ≡ row → IsRun new (Some top) (top ∷ p.made)
    made-run new top len inside same next = (refl, omega (arith, inside.here, len), rw next (run-frame mid new row p.made len same p.made_run))

    some_none : (k : ℕ) → ◌≡◌ {A = Option ℕ} (Some k) None → ⊥
    some_none k e = cc

    one : (more : List ℕ) → IsRun mid None more → Melds old mid f ks (a ∷ more ++ p.made) → IsInside mid a → PairsOn old (with_next mid a row) f ks None (Some a) (length (a ∷ more))
    one [] r m inside = record {
      pairs = record {
        coming = [];
        made = a ∷ p.made;
        coming_run = refl;
        made_run = made-run (with_next mid a row) a (length-set mid a _) inside
            (λ j h. apart (λ (n : Node). n.next) mid a j _ (λ e. omega (arith, h, melds-once old mid f l ks (a ∷ p.made) a t m, one_if-same a, ap (λ (x : ℕ). times_in x p.made) e)))
            (here (λ (n : Node). n.next) mid a _ inside.here);
        melds = melds-next old mid f l ks (a ∷ p.made) a row t m (omega (arith, one_if-same a));
        none = λ e. absurd (some_none a e);
      };
      fewer = omega arith;
    }
    one (x ∷ more) r m inside = cc (r.0)

    two : (b : ℕ) (more : List ℕ) → IsRun mid (Some b) more → Melds old mid f ks (a ∷ more ++ p.made)
        → PairsOn old (with_next (joined mid a b) (upper mid a b) row) f ks (node_at mid b).next (Some (upper mid a b)) (length (a ∷ more))
    two b [] r m = cc (r)
    two b (x ∷ more) r m =
        let same : b ≡ x = cc (r.0) in
        rw same (paired-up x more r.2 m)
      where
        paired-up : (b : ℕ) (more : List ℕ) → IsRun mid (node_at mid b).next more → Melds old mid f ks (a ∷ b ∷ more ++ p.made)
            → PairsOn old (with_next (joined mid a b) (upper mid a b) row) f ks (node_at mid b).next (Some (upper mid a b)) (length (a ∷ b ∷ more))
        paired-up b more r m =
            let top : ℕ = upper mid a b in
            let new : List Node = joined mid a b in
            let w : Lowers old mid new f ks top (more ++ p.made) = melds-join old mid f l ks a b (more ++ p.made) new top t m refl refl in
            let once : (j : ℕ) → times_in j (top ∷ more ++ p.made) ≤ 1 = λ j. melds-once old new f l ks (top ∷ more ++ p.made) j t w.melds in
            let inside : IsInside new top = melds-inside old new f l ks (top ∷ more ++ p.made) top t w.melds (omega (arith, one_if-same top)) in
            let not_top : (j : ℕ) → 0 < times_in j (more ++ p.made) → j ≢ top = λ j h e. omega (arith, h, once top, one_if-same top, ap (λ (x : ℕ). times_in x (more ++ p.made)) e) in
            let next : (j : ℕ) → 0 < times_in j (more ++ p.made) → (node_at (with_next new top row) j).next ≡ (node_at mid j).next = λ j h. apart (λ (n : Node). n.next) new top j _ (not_top j h) ∙ w.next j h in
            let len : length (with_next new top row) ≡ length mid = length-set new top _ ∙ w.len in
            record {
              pairs = record {
                coming = more;
                made = top ∷ p.made;
                coming_run = run-frame mid (with_next new top row) (node_at mid b).next more len (λ j h. next j (omega (arith, h, times-append j more p.made))) r;
                made_run = (
                  refl,
                  omega (arith, inside.here, w.len, len),
                  rw (here (λ (n : Node). n.next) new top (record (node_at new top) { next = row }) inside.here)
                      (run-frame mid (with_next new top row) row p.made len (λ j h. next j (omega (arith, h, times-append j more p.made))) p.made_run),
                );
                melds = melds-next old new f l ks (more ++ top ∷ p.made) top row t
                    (melds-same old new f ks (top ∷ more ++ p.made) (more ++ top ∷ p.made) (λ j. omega (arith, times-append j more p.made, times-append j more (top ∷ p.made))) w.melds)
                    (omega (arith, times-append top more (top ∷ p.made), one_if-same top));
                none = λ e. absurd (some_none top e);
              };
              fewer = omega arith;
            }

    step : (link : Option ℕ) (more : List ℕ) → IsRun mid link more → Melds old mid f ks (a ∷ more ++ p.made) → IsInside mid a
        → PairsOn old (paired mid a link row) f ks (behind_pair mid link) (Some (upper_of_pair mid a link)) (length (a ∷ more))
    step None more r m inside = one more r m inside
    step (Some b) more r m inside = two b more r m

    go : (coming : List ℕ) → IsRun mid link coming → Melds old mid f ks (coming ++ p.made) → PairsOn old (paired mid a (node_at mid a).next row) f ks (behind_pair mid (node_at mid a).next) (Some (upper_of_pair mid a (node_at mid a).next)) (length coming)
    go [] r m = absurd (none_some a (sym (leads ∙ r)))
    go (x ∷ more) r m =
        let same : x ≡ a = cc (leads ∙ r.0) in
        let here_ : Melds old mid f ks (a ∷ more ++ p.made) = rw (← same) m in
        step (node_at mid a).next more (rw (← same) r.2) here_ (melds-inside old mid f l ks (a ∷ more ++ p.made) a t here_ (omega (arith, one_if-same a)))

-- ## Steps of the second pass

-- a run that leads nowhere is empty
pub run-none : (ns : List Node) (l : Option ℕ) (ks : List ℕ) → None ≡ l → IsRun ns l ks → ks ≡ []
run-none ns l [] e r = refl
run-none ns l (x ∷ more) e r = absurd (none_some x (e ∙ r.0))

-- and the other way round
run-empty : (ns : List Node) (l : Option ℕ) (ks : List ℕ) → ks ≡ [] → IsRun ns l ks → l ≡ None
run-empty ns l [] e r = r
run-empty ns l (x ∷ more) e r = cc (e)

pub combine-start : (ns : List Node) (f : Family) (l : Option ℕ) (top : ℕ) (ks : List ℕ) → Some top ≡ l → AreTops ns f l ks → CombinesAt ns ns f ks (node_at ns top).next top
combine-start ns f l top [] e t = absurd (none_some top (sym (e ∙ t.run)))
combine-start ns f l top (x ∷ more) e t = let same : x ≡ top = cc (e ∙ t.run.0) in rw (← same) (record { coming = more; run = t.run.2; melds = melds-none ns f l (x ∷ more) t })

pub combine-steps : (old mid : List Node) (f : Family) (l rest : Option ℕ) (ks : List ℕ) (top : ℕ) → AreTops old f l ks → (g : CombinesAt old mid f ks rest top) → steps_from (length mid) mid rest ≡ length g.coming
combine-steps old mid f l rest ks top t g = steps-of-run (length mid) mid rest g.coming g.run
    (once-le (length mid) g.coming (λ j. omega (arith, melds-once old mid f l ks (top ∷ g.coming) j t g.melds)) (λ j h. run-within mid rest g.coming j g.run h))

-- the root that was made, and the first of those that are to come
pub record MeetInside (ns : List Node) (top at : ℕ) : Type 0 where
  pub first : IsInside ns top
  pub second : IsInside ns at

pub combine-top : (old mid : List Node) (f : Family) (l rest : Option ℕ) (ks : List ℕ) (top : ℕ) → AreTops old f l ks → CombinesAt old mid f ks rest top → IsInside mid top
combine-top old mid f l rest ks top t g = melds-inside old mid f l ks (top ∷ g.coming) top t g.melds (omega (arith, one_if-same top))

pub combine-safe : (old mid : List Node) (f : Family) (l link : Option ℕ) (ks : List ℕ) (top at : ℕ) → AreTops old f l ks → CombinesAt old mid f ks link top → Some at ≡ link → MeetInside mid top at
combine-safe old mid f l link ks top at t g leads = record { first = combine-top old mid f l link ks top t g; second = go g.coming g.run g.melds }
  where
    go : (coming : List ℕ) → IsRun mid link coming → Melds old mid f ks (top ∷ coming) → IsInside mid at
    go [] r m = absurd (none_some at (sym (leads ∙ r)))
    go (x ∷ more) r m = let same : x ≡ at = cc (leads ∙ r.0) in rw (← same) (melds-inside old mid f l ks (top ∷ x ∷ more) x t m (omega (arith, one_if-same x)))

-- a step, after which fewer roots are to come
pub record CombinesOn (old ms : List Node) (f : Family) (ks : List ℕ) (rest : Option ℕ) (top before : ℕ) : Type 0 where
  pub combines : CombinesAt old ms f ks rest top
  pub fewer : length combines.coming < before

pub combine-goes : (old mid : List Node) (f : Family) (l link : Option ℕ) (ks : List ℕ) (top at : ℕ) (ms : List Node) (rest : Option ℕ) (new_top : ℕ) → AreTops old f l ks → (g : CombinesAt old mid f ks link top) → Some at ≡ link
    → ms ≡ joined mid top at → rest ≡ (node_at mid at).next → new_top ≡ upper mid top at → CombinesOn old ms f ks rest new_top (length g.coming)
combine-goes old mid f l link ks top at ms rest new_top t g leads is rest_is top_is = rw rest_is (go g.coming g.run g.melds)
  where
    go : (coming : List ℕ) → IsRun mid link coming → Melds old mid f ks (top ∷ coming) → CombinesOn old ms f ks (node_at mid at).next new_top (length coming)
    go [] r m = absurd (none_some at (sym (leads ∙ r)))
    go (x ∷ more) r m =
        let same : x ≡ at = cc (leads ∙ r.0) in
        let here_ : Melds old mid f ks (top ∷ at ∷ more) = rw (← same) m in
        let w : Lowers old mid ms f ks new_top more = melds-join old mid f l ks top at more ms new_top t here_ is top_is in
        record { combines = record { coming = more; run = run-frame mid ms (node_at mid at).next more w.len w.next (rw (← same) r.2); melds = w.melds }; fewer = omega arith }

-- ## Both passes

-- what the first pass leaves
pub record Halves (old mid : List Node) (f : Family) (ks : List ℕ) (to : Option ℕ) : Type 0 where
  pub made : List ℕ
  pub melds : Melds old mid f ks made
  pub tops : AreTops mid melds.now to made
  pub none : to ≡ None → (ks ≡ []) × (mid ≡ old)

pub halves : (old mid : List Node) (f : Family) (l to : Option ℕ) (ks : List ℕ) → AreTops old f l ks → Pairs old mid f ks None to → Halves old mid f ks to
halves old mid f l to ks t p = go p.coming p.coming_run p.melds p.none
  where
    go : (coming : List ℕ) → IsRun mid None coming → Melds old mid f ks (coming ++ p.made) → (to ≡ None → (coming ≡ ks) × (mid ≡ old)) → Halves old mid f ks to
    go [] r m none = record { made = p.made; melds = m; tops = melds-tops old mid f l to ks p.made t m p.made_run; none = λ e. let both : ([] ≡ ks) × (mid ≡ old) = none e in (sym both.0, both.1) }
    go (x ∷ more) r m none = absurd (none_some x r.0)

pub merges-none : (old mid new : List Node) (f : Family) (ks : List ℕ) (to : Option ℕ) (h : Halves old mid f ks to) → Combines mid new h.melds.now h.made None None → (ks ≡ []) × (new ≡ old)
merges-none old mid new f ks to h g =
    let both : (ks ≡ []) × (mid ≡ old) = h.none (run-empty mid to h.made g.0 h.tops.run) in
    (both.0, g.1 ∙ both.1)

pub merges-some : (old mid new last : List Node) (f : Family) (l : Option ℕ) (ks : List ℕ) (to : Option ℕ) (top : ℕ) → AreTops old f l ks → (h : Halves old mid f ks to) → CombinesAt mid new h.melds.now h.made None top
    → last ≡ alone new top → MergesTo old last f ks top
merges-some old mid new last f l ks to top t h g is = rw is (go g.coming g.run g.melds)
  where
    go : (coming : List ℕ) → IsRun new None coming → Melds mid new h.melds.now h.made (top ∷ coming) → MergesTo old (alone new top) f ks top
    go [] r m =
        let both : Melds old new f ks (top ∷ []) = melds-then old mid new f ks h.made (top ∷ []) h.melds m in
        let inside : IsInside new top = melds-inside old new f l ks (top ∷ []) top t both (omega (arith, one_if-same top)) in
        record {
          melds = melds-alone old new f l ks (top ∷ []) top t both (omega (arith, one_if-same top));
          next = kept (λ (n : Node). n.next) (with_next new top None) top top _ refl ∙ here (λ (n : Node). n.next) new top _ inside.here;
          prev = here (λ (n : Node). n.prev) (with_next new top None) top _ (omega (arith, inside.here, length-set new top (record (node_at new top) { next = None })));
        }
    go (x ∷ more) r m = absurd (none_some x r.0)
