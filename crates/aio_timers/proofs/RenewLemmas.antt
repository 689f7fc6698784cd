-- A timer gets another id and another waker, and stays where it is in the heap.
use Rattle.std.proofs.Common.{inl, inr, ◌≡◌, ◌≢◌, ℕ, zero, suc, ◌+◌, ◌-◌, ◌<◌, ◌≤◌, Bool, true, false, cond, List, [], ◌∷◌, length, get_or, set, Option, None, Some, IfSome, is_some, refl, sym, ap, ◌∙◌, arith, length-set}
use Rattle.std.specs.List.{All}
use Rattle.std.proofs.lemmas.Bool.{cases_eq}
use Rattle.std.proofs.lemmas.Bool.Decides.{nat_tests}
use Rattle.std.proofs.lemmas.List.{length-map, map-set, get_or-set_same}
use Rattle.aio_base.specs.declared.names.Waker.{Waker}
use Rattle.aio_base.specs.World.{Registration}
use Rattle.aio_base.specs.Timers.{in_order, placed, without_pair}
use Rattle.aio_timers.specs.declared.node.Node.{Node}
use Rattle.aio_timers.specs.Held.{Held, IsUsed, held_at, held_of, helds, node_at, vacant, gone, live_of}
use Rattle.aio_timers.specs.Precedes.{precedes}
use Rattle.aio_timers.specs.Rows.{one_if, times_in}
use Rattle.aio_timers.specs.Family.{Family, IsFamily, IsParent, IsTop}
use Rattle.aio_timers.specs.Heap.{IsHeap, IsRoot}
use Rattle.aio_timers.specs.Due.{NoneDue, is_due}
use Rattle.aio_timers.specs.Chains.{IsTable, IsWithout, ChainsChange, used_of}
use Rattle.aio_timers.specs.Writes.{renamed, leads_to}
use Rattle.aio_timers.specs.Sound.{registrations, IsSound, IsAbsent, Renews}
use Rattle.aio_timers.proofs.AlikeLemmas.{held-read, live-chains}
use Rattle.aio_timers.proofs.BookLemmas.{IsOther, IsBook-placed}
use Rattle.aio_timers.proofs.ChainLemmas.{IsTable-frame}
use Rattle.aio_timers.proofs.CountLemmas.{one_if-same, one_if-other}
use Rattle.aio_timers.proofs.LeastLemmas.{OfNode, of-node, absent-each}
use Rattle.aio_timers.proofs.RunLemmas.{run-frame, row-frame}
use Rattle.aio_timers.proofs.SoundLemmas.{length-placed, used-yes}
use Rattle.aio_timers.proofs.WeightLemmas.{Leaves, goes, comes, placed-rest, without_pair-placed}
use Rattle.aio_timers.proofs.WriteLemmas.{kept, apart, here}

-- nodes with the same links of the heap, the same deadlines and the same use, and but for one the same ids
pub record AlikeBut (ns ms : List Node) (at i : ℕ) : Type 0 where
  pub len : length ms ≡ length ns
  pub child : (j : ℕ) → (node_at ms j).child ≡ (node_at ns j).child
  pub next : (j : ℕ) → (node_at ms j).next ≡ (node_at ns j).next
  pub prev : (j : ℕ) → (node_at ms j).prev ≡ (node_at ns j).prev
  pub deadline : (j : ℕ) → (held_at ms j).deadline ≡ (held_at ns j).deadline
  pub used : (j : ℕ) → is_some (held_at ms j).waker ≡ is_some (held_at ns j).waker
  pub id : (j : ℕ) → j ≢ at → (held_at ms j).id ≡ (held_at ns j).id
  pub own : (held_at ms at).id ≡ i

precedes-alike : (a b x y : Held) → x.deadline ≡ a.deadline → x.id ≡ a.id → y.deadline ≡ b.deadline → y.id ≡ b.id → precedes a b ≡ true → precedes x y ≡ true
precedes-alike a b x y ad ai bd bi h = rw (ad, ai, bd, bi) h

precedes-later : (a b x y : Held) → x.deadline ≡ a.deadline → x.id ≡ a.id → y.deadline ≡ b.deadline → b.id ≤ y.id → precedes a b ≡ true → precedes x y ≡ true
precedes-later a b x y ad ai bd le h = grind (arith, nat_tests)

precedes-sooner : (x y : Held) → x.deadline < y.deadline → precedes x y ≡ true
precedes-sooner x y lt = grind (arith, nat_tests)

module _ (ns ms : List Node) (at i : ℕ) (a : AlikeBut ns ms at i) (up : (held_at ns at).id ≤ i) where
  order-but : (f : Family) → ((j : ℕ) → f.above j ≡ Some at → (held_at ns at).deadline < (held_at ns j).deadline) → IsFamily ns f → (k j : ℕ) → f.above j ≡ Some k → precedes (held_at ms k) (held_at ms j) ≡ true
  order-but f later h k j e =
      let p : IsParent ns k j = h.order k j e in
      elim (cases_eq k at) as (λ _. precedes (held_at ms k) (held_at ms j) ≡ true) [
        | inl is ↦
            let lt : (held_at ns at).deadline < (held_at ns j).deadline = later j (e ∙ ap (λ (x : ℕ). Some x) is) in
            let same : (held_at ns k).deadline ≡ (held_at ns at).deadline = ap (λ (x : ℕ). (held_at ns x).deadline) is in
            precedes-sooner (held_at ms k) (held_at ms j) (omega (arith, lt, same, a.deadline k, a.deadline j))
        | inr other ↦ elim (cases_eq j at) as (λ _. precedes (held_at ms k) (held_at ms j) ≡ true) [
          | inl is ↦
              let ids : (held_at ns j).id ≡ (held_at ns at).id = ap (λ (x : ℕ). (held_at ns x).id) is in
              let own : (held_at ms j).id ≡ i = ap (λ (x : ℕ). (held_at ms x).id) is ∙ a.own in
              precedes-later (held_at ns k) (held_at ns j) (held_at ms k) (held_at ms j) (a.deadline k) (a.id k other) (a.deadline j) (omega (arith, up, ids, own)) p.before
          | inr apart_ ↦ precedes-alike (held_at ns k) (held_at ns j) (held_at ms k) (held_at ms j) (a.deadline k) (a.id k other) (a.deadline j) (a.id j apart_) p.before
        ]
      ]

  apart-but : (f : Family) → ((j : ℕ) → IsUsed (held_at ns j) → (held_at ns j).deadline ≡ (held_at ns at).deadline → (held_at ns j).id ≡ i → ⊥) → IsFamily ns f → (k j : ℕ) → IsUsed (held_at ns k) → IsUsed (held_at ns j)
      → (held_at ms k).deadline ≡ (held_at ms j).deadline → (held_at ms k).id ≡ (held_at ms j).id → k ≡ j
  apart-but f new h k j u v d e =
      elim (cases_eq k at) as (λ _. k ≡ j) [
        | inl is ↦ elim (cases_eq j at) as (λ _. k ≡ j) [
          | inl too ↦ is ∙ sym too
          | inr other ↦
              let deadlines : (held_at ns j).deadline ≡ (held_at ns at).deadline = sym (a.deadline j) ∙ sym d ∙ a.deadline k ∙ ap (λ (x : ℕ). (held_at ns x).deadline) is in
              let ids : (held_at ns j).id ≡ i = sym (a.id j other) ∙ sym e ∙ ap (λ (x : ℕ). (held_at ms x).id) is ∙ a.own in
              absurd (new j v deadlines ids)
        ]
        | inr other ↦ elim (cases_eq j at) as (λ _. k ≡ j) [
          | inl is ↦
              let deadlines : (held_at ns k).deadline ≡ (held_at ns at).deadline = sym (a.deadline k) ∙ d ∙ a.deadline j ∙ ap (λ (x : ℕ). (held_at ns x).deadline) is in
              let ids : (held_at ns k).id ≡ i = sym (a.id k other) ∙ e ∙ ap (λ (x : ℕ). (held_at ms x).id) is ∙ a.own in
              absurd (new k u deadlines ids)
          | inr neither ↦ h.apart k j u v (sym (a.deadline k) ∙ d ∙ a.deadline j) (sym (a.id k other) ∙ e ∙ a.id j neither)
        ]
      ]

  IsTop-but : (f : Family) (j : ℕ) → IsTop ns f j → IsTop ms f j
  IsTop-but f j t = record { used = a.used j ∙ t.used; free = t.free }

  top-back : (f : Family) (j : ℕ) → IsTop ms f j → IsTop ns f j
  top-back f j t = record { used = sym (a.used j) ∙ t.used; free = t.free }

  pub IsHeap-but : (root free : Option ℕ) → (h : IsHeap ns root free) → ((j : ℕ) → h.family.above j ≡ Some at → (held_at ns at).deadline < (held_at ns j).deadline)
      → ((j : ℕ) → IsUsed (held_at ns j) → (held_at ns j).deadline ≡ (held_at ns at).deadline → (held_at ns j).id ≡ i → ⊥) → IsHeap ms root free
  IsHeap-but root free h later new =
      let f = h.family in
      let was : (k : ℕ) → IsUsed (held_at ms k) → IsUsed (held_at ns k) = λ k u. sym (a.used k) ∙ u in
      record {
        family = f;
        spare = h.spare;
        rows = record {
          linked = λ k u. rw (a.child k) (row-frame ns ms k (node_at ns k).child (f.below k) a.len (λ j c. (a.next j, a.prev j)) (h.rows.linked k (was k u)));
          members = λ k j u. h.rows.members k j (was k u);
          order = λ k j e.
              let p : IsParent ns k j = h.rows.order k j e in
              record { parent = a.used k ∙ p.parent; child = a.used j ∙ p.child; before = order-but f later h.rows k j e };
          apart = λ k j u v d e. apart-but f new h.rows k j (was k u) (was j v) d e;
        };
        root_is = its_root root h.root_is;
        single = λ j t. h.single j (top-back f j t);
        run = run-frame ns ms free h.spare a.len (λ j c. a.next j) h.run;
        idle = λ j lt. h.idle j (omega (arith, lt, a.len)) ∙ ap (λ (b : Bool). cond b 0 1) (sym (a.used j));
      }
    where
      its_root : (o : Option ℕ) → IfSome o (λ r. IsRoot ns h.family r) → IfSome o (λ r. IsRoot ms h.family r)
      its_root None r = tt
      its_root (Some k) r = record { top = IsTop-but h.family k r.top; next = a.next k ∙ r.next; prev = a.prev k ∙ r.prev }

set-twice : {X : Type 0} (xs : List X) (i : ℕ) (x y : X) → set (set xs i x) i y ≡ set xs i y
set-twice [] i x y = refl
set-twice (a ∷ xs) zero x y = refl
set-twice (a ∷ xs) (suc i) x y = ap (λ (zs : List _). a ∷ zs) (set-twice xs i x y)

-- none that is due at a deadline, so all are later
later-than : (f : ℕ → Held) (d j : ℕ) → is_due d (f j) ≡ false → d < (f j).deadline
later-than f d j e = grind (arith, nat_tests)

-- what neither the chain nor the id nor the waker of a node tells is as it was
links-same : {A : Type 0} (p : Node → A) (ns us vs ms : List Node) (at i : ℕ) (w : Waker) → ChainsChange ns us → vs ≡ renamed us at i w → ChainsChange vs ms → ((x : Node) (c : Option ℕ) → p (record x { chain = c }) ≡ p x)
    → p (record (node_at us at) { id = record { 0 = i }; waker = Some w }) ≡ p (node_at us at) → (j : ℕ) → p (node_at ms j) ≡ p (node_at ns j)
links-same p ns us vs ms at i w left_chain wrote joined_chain free_ e j =
    ap p (joined_chain.same j) ∙ free_ (node_at vs j) (node_at ms j).chain ∙ ap (λ (xs : List Node). p (node_at xs j)) wrote ∙ kept p us at j (record (node_at us at) { id = record { 0 = i }; waker = Some w }) e
    ∙ ap p (left_chain.same j) ∙ free_ (node_at ns j) (node_at us j).chain

-- the node leaves its chain, gets the id and the waker, and joins the chain of its new bucket
pub renewed : (ns us vs ms : List Node) (bs ds es : List (Option ℕ)) (root free : Option ℕ) (at used i : ℕ) (w : Waker) (r : Registration) → (s : IsSound ns bs root free used) → live_of (held_at ns at) ≡ Some r → at < length ns
    → ChainsChange ns us → length ds ≡ length bs → ((left : ℕ → ℕ) → IsWithout (λ j. used_of (held_at ns j)) left at → IsTable (held_at us) (length us) ds left)
    → vs ≡ renamed us at i w
    → ChainsChange vs ms → length es ≡ length ds → ((before more : ℕ → ℕ) → IsTable (held_at vs) (length vs) ds before → before at ≡ 0 → IsWithout more before at → IsTable (held_at ms) (length ms) es more)
    → r.id < i → IsAbsent r.deadline i (helds ns) → NoneDue (held_at ns) r.deadline (s.heap.family.below at) → Renews ns ms es root free used r i w
renewed ns us vs ms bs ds es root free at used i w r s is_live lt left_chain row out wrote joined_chain row_too into up absent none =
    let own : OfNode (held_at ns at) r = of-node (held_at ns at) r is_live in
    let n : Node = record (node_at us at) { id = record { 0 = i }; waker = Some w } in
    let lt_us : at < length us = omega (arith, lt, left_chain.len) in
    let len_vs : length vs ≡ length us = ap (λ (xs : List Node). length xs) wrote ∙ length-set us at n in
    let there : (j : ℕ) → j ≢ at → held_at vs j ≡ held_at us j = λ j ne. ap (λ (xs : List Node). held_at xs j) wrote ∙ apart held_of us at j n ne in
    let here_ : held_at vs at ≡ held_of n = ap (λ (xs : List Node). held_at xs at) wrote ∙ here held_of us at n lt_us in
    let used_here : is_some (node_at us at).waker ≡ true = ap (λ (x : Node). is_some x.waker) (left_chain.same at) ∙ own.used in
    let a : AlikeBut ns ms at i = record {
      len = joined_chain.len ∙ len_vs ∙ left_chain.len;
      child = λ j. links-same (λ (x : Node). x.child) ns us vs ms at i w left_chain wrote joined_chain (λ x c. refl) refl j;
      next = λ j. links-same (λ (x : Node). x.next) ns us vs ms at i w left_chain wrote joined_chain (λ x c. refl) refl j;
      prev = λ j. links-same (λ (x : Node). x.prev) ns us vs ms at i w left_chain wrote joined_chain (λ x c. refl) refl j;
      deadline = λ j. links-same (λ (x : Node). x.deadline) ns us vs ms at i w left_chain wrote joined_chain (λ x c. refl) refl j;
      used = λ j. links-same (λ (x : Node). is_some x.waker) ns us vs ms at i w left_chain wrote joined_chain (λ x c. refl) (sym used_here) j;
      id = λ j ne. ap (λ (x : Node). x.id.0) (joined_chain.same j) ∙ ap Held.id (there j ne) ∙ ap (λ (x : Node). x.id.0) (left_chain.same j);
      own = ap (λ (x : Node). x.id.0) (joined_chain.same at) ∙ ap Held.id here_;
    } in
    let own_used : used_of (held_at ns at) ≡ 1 = used-yes (held_at ns at) own.used in
    let left : ℕ → ℕ = λ j. used_of (held_at ns j) - one_if j at in
    let left_none : left at ≡ 0 = omega (arith, own_used, one_if-same at) in
    let without : IsWithout (λ j. used_of (held_at ns j)) left at = λ j. elim (cases_eq j at) as (λ _. left j + one_if j at ≡ used_of (held_at ns j)) [
      | inl e ↦ rw e (omega (arith, own_used, one_if-same at))
      | inr ne ↦ omega (arith, one_if-other j at ne)
    ] in
    let back_in : IsWithout (λ j. used_of (held_at ms j)) left at = λ j. without j ∙ ap (λ (b : Bool). cond b 1 0) (sym (a.used j)) in
    let framed : IsTable (held_at vs) (length vs) ds left =
    IsTable-frame (held_at us) (held_at vs) (length us) (length vs) ds left left (omega (arith, len_vs))
    (λ j h. let ne : j ≢ at = λ e. omega (arith, h, left_none, ap left e) in (ap Held.chain (there j ne), ap Held.id (there j ne))) (λ j. refl) (out left without) in
    let regs_us : registrations (helds us) ≡ registrations (helds ns) = ap in_order (live-chains ns us left_chain) in
    let regs_ms : registrations (helds ms) ≡ registrations (helds vs) = ap in_order (live-chains vs ms joined_chain) in
    let old : length (helds us) ≡ length us = length-map us held_of in
    let lt_hs : at < length (helds us) = omega (arith, lt_us, old) in
    let is_live_us : live_of (held_at us at) ≡ Some r = ap (λ (x : Node). live_of (held_of x)) (left_chain.same at) ∙ is_live in
    let g : Held = gone (held_at us at) in
    let l : Leaves live_of (registrations (helds us)) (registrations (set (helds us) at g)) r = goes live_of (helds us) at vacant g r lt_hs (ap live_of (held-read us at) ∙ is_live_us) refl (rw regs_us s.book) in
    let its : Registration = record { id = i; deadline = r.deadline; waker = w } in
    let all_other : All (IsOther r.deadline i) (registrations (helds us)) = rw regs_us absent in
    let others : All (IsOther r.deadline i) (registrations (set (helds us) at g)) = placed-rest (IsOther r.deadline i) r (registrations (set (helds us) at g)) (rw (← l.placed_is) all_other) in
    let empty : live_of (get_or (set (helds us) at g) at vacant) ≡ None = ap live_of (get_or-set_same (helds us) at g vacant lt_hs) in
    let deadline_here : (node_at us at).deadline ≡ r.deadline = ap Node.deadline (left_chain.same at) ∙ sym own.deadline_is in
    let now : live_of (held_of n) ≡ Some its = ap (λ (x : ℕ). Some (record { id = i; deadline = x; waker = w })) deadline_here in
    let got = comes live_of (set (helds us) at g) at vacant (held_of n) its (omega (arith, lt_hs, length-set (helds us) at g)) empty now l.book others in
    let now_helds : helds vs ≡ set (helds us) at (held_of n) = ap helds wrote ∙ map-set held_of us at n in
    let regs : registrations (helds ms) ≡ placed its (registrations (set (helds us) at g)) = regs_ms ∙ ap registrations (now_helds ∙ sym (set-twice (helds us) at g (held_of n))) ∙ got in
    let back : without_pair r.deadline r.id (registrations (helds ns)) ≡ registrations (set (helds us) at g) =
    ap (without_pair r.deadline r.id) (sym regs_us ∙ l.placed_is) ∙ without_pair-placed r (registrations (set (helds us) at g)) l.others in
    let d_is : (held_at ns at).deadline ≡ r.deadline = sym own.deadline_is in
    record {
      len = a.len;
      entries = regs ∙ ap (placed its) (sym back);
      sound = record {
        heap = IsHeap-but ns ms at i a (omega (arith, up, own.id_is)) root free s.heap
            (λ j e. omega (arith, d_is, later-than (held_at ns) r.deadline j (none j (child-times j e))))
            (λ j u d e. absent-each ns r.deadline i j absent u (d ∙ d_is) e);
        book = rw regs (IsBook-placed its (registrations (set (helds us) at g)) l.book others);
        table = into left (λ j. used_of (held_at ms j)) framed left_none back_in;
        row = omega (arith, s.row, a.len, row, row_too);
        power = λ some. rw (row_too, row) (s.power (omega (arith, some, row, row_too)));
        few = omega (arith, s.few, a.len);
        used_is = omega (
          arith,
          s.used_is,
          ap (λ (rs : List Registration). length rs) regs,
          ap (λ (rs : List Registration). length rs) (sym regs_us ∙ l.placed_is),
          length-placed its (registrations (set (helds us) at g)),
          length-placed r (registrations (set (helds us) at g)),
        );
      };
    }
  where
    child-times : (j : ℕ) → s.heap.family.above j ≡ Some at → 0 < times_in j (s.heap.family.below at)
    child-times j e =
        let p : IsParent ns at j = s.heap.rows.order at j e in
        omega (arith, s.heap.rows.members at j p.parent, led (s.heap.family.above j) e)
      where
        same-test : (x : ℕ) → leads_to (Some x) x ≡ true
        same-test x = grind (arith, nat_tests)

        led : (o : Option ℕ) → o ≡ Some at → ◌≡◌ {A = ℕ} (cond (leads_to o at) 1 0) 1
        led o is = rw (is, same-test at) refl
