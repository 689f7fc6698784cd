-- Free nodes that join the others, and a row of buckets that is filled anew.
use Rattle.std.proofs.Common.{inl, inr, ◌≡◌, ◌≢◌, ℕ, zero, suc, ◌+◌, ◌<◌, ◌≤◌, ◌^◌, ◌==◌, false, List, [], ◌∷◌, ◌++◌, length, Option, None, Some, IfSome, Result, Ok, Err, IfOk, OnErr, refl, sym, ap, ◌∙◌, arith}
use Rattle.std.specs.Prelude.{nat_lt}
use Rattle.std.specs.Int.{IsPowerOfTwo}
use Rattle.std.specs.List.{filter_map, cons_option}
use Rattle.std.proofs.lemmas.Bool.{cases_eq}
use Rattle.std.proofs.lemmas.Bool.Decides.{nat_tests}
use Rattle.std.proofs.lemmas.List.{length-append}
use Rattle.aio_base.specs.World.{Registration}
use Rattle.aio_base.specs.Timers.{in_order}
use Rattle.aio_timers.specs.declared.node.Node.{Node}
use Rattle.aio_timers.specs.Held.{Held, IsUsed, held_at, held_of, helds, node_at, blank_node, free_node, live_of}
use Rattle.aio_timers.specs.Rows.{one_if, times_in, IsRun, IsRow}
use Rattle.aio_timers.specs.Family.{Family, IsFamily, IsParent}
use Rattle.aio_timers.specs.Heap.{IsHeap, IsRoot, one_free}
use Rattle.aio_timers.specs.Chains.{IsTable, ChainsChange, used_of, bucket_in}
use Rattle.aio_timers.specs.Sound.{registrations, IsSound}
use Rattle.aio_timers.specs.Growth.{IsBlankRow, used_before, Rehashes, Extends, GrowsTo, Grows}
use Rattle.aio_timers.proofs.CountLemmas.{one_if-same, one_if-other, some_or_none}
use Rattle.aio_timers.proofs.RunLemmas.{used-within, run-within}
use Rattle.aio_timers.proofs.FamilyLemmas.{used-as, parent-as, apart-as}
use Rattle.aio_timers.proofs.ChainLemmas.{IsTable-frame, cond-zero}
use Rattle.aio_timers.proofs.AlikeLemmas.{IsHeap-alike, Alike-chains, live-chains}
use Rattle.aio_timers.proofs.SoundLemmas.{used-some}

-- ## One more free node

push-here : (ns : List Node) (x : Node) → node_at (ns ++ x ∷ []) (length ns) ≡ x
push-here [] x = refl
push-here (y ∷ ns) x = push-here ns x

push-there : (ns : List Node) (x : Node) (j : ℕ) → j ≢ length ns → node_at (ns ++ x ∷ []) j ≡ node_at ns j
push-there [] x zero ne = absurd (ne refl)
push-there [] x (suc j) ne = refl
push-there (y ∷ ns) x zero ne = refl
push-there (y ∷ ns) x (suc j) ne = push-there ns x j (λ e. ne (omega (arith, e)))

past-end : (ns : List Node) → node_at ns (length ns) ≡ blank_node
past-end [] = refl
past-end (x ∷ ns) = past-end ns

live-push : (ns : List Node) (l : Option ℕ) → filter_map live_of (helds (ns ++ free_node l ∷ [])) ≡ filter_map live_of (helds ns)
live-push [] l = refl
live-push (x ∷ ns) l = ap (cons_option (live_of (held_of x))) (live-push ns l)

-- runs and rows of nodes that are there go on
run-longer : (ns ms : List Node) (l : Option ℕ) (ks : List ℕ) → length ns ≤ length ms → ((j : ℕ) → j < length ns → node_at ms j ≡ node_at ns j) → IsRun ns l ks → IsRun ms l ks
run-longer ns ms l [] le same r = r
run-longer ns ms l (i ∷ ks) le same r = (r.0, omega (arith, r.1, le), rw (same i r.1) (run-longer ns ms (node_at ns i).next ks le same r.2))

row-longer : (ns ms : List Node) (b : ℕ) (l : Option ℕ) (ks : List ℕ) → length ns ≤ length ms → ((j : ℕ) → j < length ns → node_at ms j ≡ node_at ns j) → IsRow ns b l ks → IsRow ms b l ks
row-longer ns ms b l [] le same r = r
row-longer ns ms b l (i ∷ ks) le same r =
    (r.0, omega (arith, r.1, le), ap Node.prev (same i r.1) ∙ r.2, rw (ap Node.next (same i r.1)) (row-longer ns ms i (node_at ns i).next ks le same r.3))

-- one more free node, in front of the others
module _ (ns ms : List Node) (free : Option ℕ) (len : length ms ≡ length ns + 1) (own : node_at ms (length ns) ≡ free_node free) (there : (j : ℕ) → j ≢ length ns → node_at ms j ≡ node_at ns j) where
  extended-same : (j : ℕ) → j < length ns → node_at ms j ≡ node_at ns j
  extended-same j lt = there j (λ e. omega (arith, lt, e))

  -- it is not in use
  extended-other : (j : ℕ) → IsUsed (held_at ms j) → j ≢ length ns
  extended-other j u e = unused (used-as (held_of (free_node free)) (held_at ms j) (sym (ap (held_at ms) e ∙ ap held_of own)) u)
    where
      unused : IsUsed (held_of (free_node free)) → ⊥
      unused k = cc

  extended-used : (j : ℕ) → IsUsed (held_at ms j) → IsUsed (held_at ns j)
  extended-used j u = used-as (held_at ns j) (held_at ms j) (sym (ap held_of (there j (extended-other j u)))) u

  extended-held : (j : ℕ) → IsUsed (held_at ns j) → held_at ms j ≡ held_at ns j
  extended-held j u = ap held_of (extended-same j (used-within ns j u))

  extended-family : (f : Family) → IsFamily ns f → IsFamily ms f
  extended-family f h = record {
    linked = λ i u. let was : IsUsed (held_at ns i) = extended-used i u in
        rw (there i (extended-other i u)) (row-longer ns ms i (node_at ns i).child (f.below i) (omega (arith, len)) extended-same (h.linked i was));
    members = λ i j u. h.members i j (extended-used i u);
    order = λ i j e. let p : IsParent ns i j = h.order i j e in parent-as ns ms i j (extended-held i p.parent) (extended-held j p.child) p;
    apart = apart-as ns ms f h (λ i u. extended-held i (extended-used i u));
  }

  extended-heap : (root : Option ℕ) → IsHeap ns root free → IsHeap ms root (Some (length ns))
  extended-heap root h = record {
    family = h.family;
    spare = length ns ∷ h.spare;
    rows = extended-family h.family h.rows;
    root_is = its_root root h.root_is;
    single = λ j t. h.single j (record { used = extended-used j t.used; free = t.free });
    run = (refl, omega (arith, len), rw (ap Node.next own) (run-longer ns ms free h.spare (omega (arith, len)) extended-same h.run));
    idle = λ j lt. elim (cases_eq j (length ns)) as (λ _. one_if j (length ns) + times_in j h.spare ≡ one_free (held_at ms j)) [
      | inl e ↦ rw e (omega (arith, one_if-same (length ns), not-behind, ap (λ (x : Node). one_free (held_of x)) own))
      | inr ne ↦ omega (arith, one_if-other j (length ns) ne, h.idle j (omega (arith, lt, len, ne)), ap (λ (x : Node). one_free (held_of x)) (there j ne))
    ];
  }
    where
      not-behind : times_in (length ns) h.spare ≡ 0
      not-behind = elim (some_or_none (times_in (length ns) h.spare)) as (λ _. times_in (length ns) h.spare ≡ 0) [ inl c ↦ absurd (omega (arith, run-within ns free h.spare (length ns) h.run c)) | inr z ↦ z ]

      its_root : (o : Option ℕ) → IfSome o (λ r. IsRoot ns h.family r) → IfSome o (λ r. IsRoot ms h.family r)
      its_root None r = tt
      its_root (Some i) r =
          let same : node_at ms i ≡ node_at ns i = extended-same i (used-within ns i r.top.used) in
          record { top = record { used = used-as (held_at ms i) (held_at ns i) (ap held_of same) r.top.used; free = r.top.free }; next = ap Node.next same ∙ r.next; prev = ap Node.prev same ∙ r.prev }

pub pushed : (ns : List Node) (free : Option ℕ) → Extends ns (ns ++ free_node free ∷ []) free (Some (length ns))
pushed ns free = record {
  longer = omega (arith, length-append ns (free_node free ∷ []));
  heap = λ root h. extended-heap ns (ns ++ free_node free ∷ []) free (length-append ns (free_node free ∷ [])) (push-here ns (free_node free)) (push-there ns (free_node free)) root h;
  lives = live-push ns free;
  used = λ j. elim (cases_eq j (length ns)) as (λ _. used_of (held_at (ns ++ free_node free ∷ []) j) ≡ used_of (held_at ns j)) [
    | inl e ↦ rw e (ap (λ (x : Node). used_of (held_of x)) (push-here ns (free_node free)) ∙ sym (ap (λ (x : Node). used_of (held_of x)) (past-end ns)))
    | inr ne ↦ ap (λ (x : Node). used_of (held_of x)) (push-there ns (free_node free) j ne)
  ];
  same = λ j h. ap held_of (push-there ns (free_node free) j (λ e. omega (arith, used-within ns j (used-some (held_at ns j) h), e)));
}

pub Extends-refl : (ns : List Node) (free : Option ℕ) → Extends ns ns free free
Extends-refl ns free = record { longer = omega arith; heap = λ root h. h; lives = refl; used = λ j. refl; same = λ j h. refl }

pub Extends-trans : (ns us ms : List Node) (free middle first : Option ℕ) → Extends ns us free middle → Extends us ms middle first → Extends ns ms free first
Extends-trans ns us ms free middle first a b = record {
  longer = omega (arith, a.longer, b.longer);
  heap = λ root h. b.heap root (a.heap root h);
  lives = b.lives ∙ a.lives;
  used = λ j. b.used j ∙ a.used j;
  same = λ j h. b.same j (omega (arith, h, a.used j)) ∙ a.same j h;
}

-- ## The buckets anew

pub ChainsChange-refl : (ns : List Node) → ChainsChange ns ns
ChainsChange-refl ns = record { len = refl; same = λ j. refl }

before-above : (i : ℕ) (f : ℕ → Held) (j : ℕ) → i ≤ j → used_before i f j ≡ 0
before-above i f j h = let t : nat_lt j i ≡ false = grind (arith, nat_tests) in rw t refl

pub blank-table : (ns : List Node) (bs : List (Option ℕ)) → IsBlankRow bs → IsTable (held_at ns) (length ns) bs (used_before 0 (held_at ns))
blank-table ns bs blank = record {
  chains = λ b. [];
  linked = λ b h. blank b;
  members = λ b j h. sym (cond-zero ((bucket_in (held_at ns j).id (length bs)) == b) (used_before 0 (held_at ns) j) (before-above 0 (held_at ns) j (omega arith)));
  single = λ j. omega (arith, before-above 0 (held_at ns) j (omega arith));
}

-- ## Both

pub grown : (ns us ms : List Node) (ds : List (Option ℕ)) (root free first : Option ℕ) (used total : ℕ) (bs : List (Option ℕ)) → IsSound ns bs root free used → Rehashes ns us ds → Extends us ms free first → length ms ≡ total → total ≤ length ds → total < 2 ^ 32 → (0 < length ds → IsPowerOfTwo (length ds))
    → GrowsTo ns ms ds root first used total
grown ns us ms ds root free first used total bs s r e len row few power =
    let regs : registrations (helds ms) ≡ registrations (helds ns) = ap in_order (e.lives ∙ live-chains ns us r.change) in
    record {
      len = len;
      entries = regs;
      sound = record {
        heap = e.heap root (IsHeap-alike ns us root free (Alike-chains ns us r.change) s.heap);
        book = rw regs s.book;
        table = IsTable-frame (held_at us) (held_at ms) (length us) (length ms) ds (λ j. used_of (held_at us j)) (λ j. used_of (held_at ms j)) e.longer
            (λ j h. (ap Held.chain (e.same j h), ap Held.id (e.same j h))) e.used r.table;
        row = omega (arith, len, row);
        power = power;
        few = omega (arith, len, few);
        used_is = omega (arith, s.used_is, ap (λ (rs : List Registration). length rs) regs);
      };
    }

-- or where there was no memory for more nodes, they are as they were
pub grows : {E : Type 0} (ns us ms : List Node) (ds : List (Option ℕ)) (root free : Option ℕ) (used total : ℕ) (bs : List (Option ℕ)) (r : Result (Option ℕ) E) → IsSound ns bs root free used → Rehashes ns us ds → IfOk r (λ first. Extends us ms free first) → IfOk r (λ first. length ms ≡ total)
    → OnErr r (ms ≡ us) → total ≤ length ds → length ns ≤ total → total < 2 ^ 32 → (0 < length ds → IsPowerOfTwo (length ds)) → Grows ns ms ds root free used total r
grows ns us ms ds root free used total bs (Ok first) s r e len none row more few power = grown ns us ms ds root free first used total bs s r e len row few power
grows ns us ms ds root free used total bs (Err x) s r e len none row more few power =
    rw none (grown ns us us ds root free free used (length ns) bs s r (Extends-refl us free) r.change.len (omega (arith, row, more)) (omega (arith, more, few)) power)
