-- The book after a step.
use Rattle.std.proofs.Common.{inl, inr, ◌≡◌, ◌≢◌, ℕ, zero, suc, ◌+◌, ◌<◌, ◌≤◌, ◌==◌, Bool, true, false, cond, List, [], ◌∷◌, length, get_or, set, Option, None, Some, is_some, refl, sym, ap, ◌∙◌, arith}
use Rattle.std.specs.Prelude.{MatchOption}
use Rattle.std.specs.List.{All, filter_map, cons_option}
use Rattle.std.proofs.lemmas.Bool.{cases_eq}
use Rattle.std.proofs.lemmas.List.Elements.{All-head}
use Rattle.std.proofs.lemmas.Bool.Decides.{nat_tests}
use Rattle.std.proofs.lemmas.List.{length-map, get_or-set_same, get_or-set_other, length-set, map-set}
use Rattle.aio_base.specs.declared.names.Waker.{Waker}
use Rattle.aio_base.specs.World.{Registration}
use Rattle.aio_base.specs.Timers.{fires_before, placed, in_order, is_pair, without_pair}
use Rattle.aio_timers.specs.declared.node.Node.{Node}
use Rattle.aio_timers.specs.Held.{Held, IsUsed, held_at, held_of, helds, node_at, blank_node, vacant, gone, live_of, registration_in, is_pair_of}
use Rattle.aio_timers.specs.Rows.{one_if, times_in, IsRun}
use Rattle.aio_timers.specs.Heap.{Holds, one_free}
use Rattle.aio_timers.specs.Chains.{IsTable, IsBucket, IsWithout, IsFound, ChainsChange, used_of, bucket_in}
use Rattle.aio_timers.specs.Sound.{registrations, IsSound, IsAbsent, IsPairAt, Gains, Drops}
use Rattle.aio_timers.proofs.BookLemmas.{IsOther, IsBook-placed}
use Rattle.aio_timers.proofs.WeightLemmas.{comes, Leaves, goes, without_pair-placed}
use Rattle.aio_timers.proofs.AlikeLemmas.{held-read, Alike, IsHeap-alike, Alike-chains, live-chains}
use Rattle.aio_timers.proofs.CountLemmas.{one_if-same, one_if-other}
use Rattle.aio_timers.proofs.ChainLemmas.{IsTable-frame, joins, in-chain, in-use, cond-le}
use Rattle.aio_timers.proofs.RunLemmas.{used-within}
use Rattle.aio_timers.proofs.HeapLemmas.{FirstFree, first-free, spares-of}
use Rattle.aio_timers.proofs.LeastLemmas.{OfNode, of-node, Live, live, all-of-each, least-first, rootless}

pub length-placed : (r : Registration) (book : List Registration) → length (placed r book) ≡ length book + 1
length-placed r [] = omega arith
length-placed r (x ∷ book) = elim (fires_before x r) as (λ b. length (cond b (x ∷ placed r book) (r ∷ x ∷ book)) ≡ length (x ∷ book) + 1) [ true ↦ omega (arith, length-placed r book) | false ↦ omega arith ]

pub length-in_order : (rs : List Registration) → length (in_order rs) ≡ length rs
length-in_order [] = refl
length-in_order (r ∷ rs) = omega (arith, length-placed r (in_order rs), length-in_order rs)

pub used-yes : (h : Held) → is_some h.waker ≡ true → used_of h ≡ 1
used-yes h e = rw e refl

pub used-no : (h : Held) → h.waker ≡ None → used_of h ≡ 0
used-no h e = rw e refl

pub used-some : (h : Held) → 0 < used_of h → is_some h.waker ≡ true
used-some h = go h.waker
  where
    go : (o : Option Waker) → 0 < cond (is_some o) 1 0 → is_some o ≡ true
    go None k = absurd (omega (arith, k))
    go (Some w) k = refl

-- what stands in each place after one was written
pub record Reads (ns ms : List Node) (at : ℕ) (h : Held) : Type 0 where
  pub len : length ms ≡ length ns
  pub here : held_at ms at ≡ h
  pub there : (j : ℕ) → j ≢ at → held_at ms j ≡ held_at ns j

pub reads : (ns ms : List Node) (at : ℕ) (h : Held) → at < length ns → helds ms ≡ set (helds ns) at h → Reads ns ms at h
reads ns ms at h lt e =
    let old : length (helds ns) ≡ length ns = length-map ns held_of in
    record {
      len = sym (length-map ms held_of) ∙ ap (λ (hs : List Held). length hs) e ∙ length-set (helds ns) at h ∙ old;
      here = sym (held-read ms at) ∙ ap (λ (hs : List Held). get_or hs at vacant) e ∙ get_or-set_same (helds ns) at h vacant (omega (arith, lt, old));
      there = λ j ne. sym (held-read ms j) ∙ ap (λ (hs : List Held). get_or hs j vacant) e ∙ get_or-set_other (helds ns) at j h vacant ne ∙ held-read ns j;
    }

-- ## A timer comes

not-used : (h : Held) → (IsUsed h → ⊥) → h.waker ≡ None
not-used h free = go h.waker free
  where
    go : (o : Option Waker) → (is_some o ≡ true → ⊥) → o ≡ None
    go None k = refl
    go (Some w) k = absurd (k refl)

pub added : (ns ms : List Node) (bs : List (Option ℕ)) (root top free head : Option ℕ) (at k used d i : ℕ) (w : Waker) → IsSound ns bs root (Some at) used → bucket_in i (length bs) ≡ k → k < length bs → head ≡ get_or bs k None
    → IsAbsent d i (helds ns) → Holds ns ms at (record { deadline = d; id = i; waker = Some w; chain = head }) top free → Gains ns ms (set bs k (Some at)) top free used (record { id = i; deadline = d; waker = w })
added ns ms bs root top free head at k used d i w s is kt first absent c =
    let first_free : FirstFree ns at = first-free ns at (spares-of ns root (Some at) s.heap) in
    let is_free : (held_at ns at).waker ≡ None = not-used (held_at ns at) first_free.unused in
    let lt : at < length ns = first_free.within in
    let old : length (helds ns) ≡ length ns = length-map ns held_of in
    let read : Reads ns ms at (record { deadline = d; id = i; waker = Some w; chain = head }) = reads ns ms at (record { deadline = d; id = i; waker = Some w; chain = head }) lt c.helds_are in
    let empty : live_of (get_or (helds ns) at vacant) ≡ None = ap live_of (held-read ns at) ∙ ap (registration_in (held_at ns at).deadline (held_at ns at).id) is_free in
    let entries : registrations (helds ms) ≡ placed (record { id = i; deadline = d; waker = w }) (registrations (helds ns)) =
    rw c.helds_are (comes live_of (helds ns) at vacant (record { deadline = d; id = i; waker = Some w; chain = head }) (record { id = i; deadline = d; waker = w }) (omega (arith, lt, old)) empty refl s.book absent) in
    let its_id : (held_at ms at).id ≡ i = ap Held.id read.here in
    record {
      entries = entries;
      len = read.len;
      sound = record {
        heap = c.heap;
        book = rw entries (IsBook-placed (record { id = i; deadline = d; waker = w }) (registrations (helds ns)) s.book absent);
        table = rw read.len (joins (held_at ns) (held_at ms) (length ns) bs at k (λ j. used_of (held_at ns j)) (λ j. used_of (held_at ms j)) lt (ap (λ (x : ℕ). bucket_in x (length bs)) its_id ∙ is) kt
            (used-no (held_at ns at) is_free) (ap Held.chain read.here ∙ first) (λ j ne. (ap Held.chain (read.there j ne), ap Held.id (read.there j ne)))
            (λ j. elim (cases_eq j at) as (λ _. used_of (held_at ns j) + one_if j at ≡ used_of (held_at ms j)) [
              | inl e ↦ rw e (omega (arith, used-no (held_at ns at) is_free, one_if-same at, ap used_of read.here))
              | inr ne ↦ omega (arith, one_if-other j at ne, ap used_of (read.there j ne))
            ]) s.table);
        row = omega (arith, s.row, read.len, length-set bs k (Some at));
        power = λ some. rw (length-set bs k (Some at)) (s.power (omega (arith, kt)));
        few = omega (arith, s.few, read.len);
        used_is = omega (arith, s.used_is, ap (λ (rs : List Registration). length rs) entries, length-placed (record { id = i; deadline = d; waker = w }) (registrations (helds ns)));
      };
    }

-- ## A timer goes

pub dropped : (ns us ms : List Node) (bs ds : List (Option ℕ)) (root top free : Option ℕ) (at used : ℕ) (r : Registration) → IsSound ns bs root free used → ChainsChange ns us → length ds ≡ length bs
    → ((left : ℕ → ℕ) → IsWithout (λ j. used_of (held_at ns j)) left at → IsTable (held_at us) (length us) ds left) → live_of (held_at ns at) ≡ Some r → at < length ns
    → Holds us ms at (gone (held_at us at)) top (Some at) → Drops ns ms ds top (Some at) used r
dropped ns us ms bs ds root top free at used r s change row table is_live lt c =
    let a : Alike ns us = Alike-chains ns us change in
    let regs : registrations (helds us) ≡ registrations (helds ns) = ap in_order (live-chains ns us change) in
    let old : length (helds us) ≡ length us = length-map us held_of in
    let lt_us : at < length us = omega (arith, lt, a.len) in
    let read : Reads us ms at (gone (held_at us at)) = reads us ms at (gone (held_at us at)) lt_us c.helds_are in
    let is_live_us : live_of (held_at us at) ≡ Some r = ap (λ (x : Node). live_of (held_of x)) (change.same at) ∙ is_live in
    let own : OfNode (held_at ns at) r = of-node (held_at ns at) r is_live in
    let l : Leaves live_of (registrations (helds us)) (registrations (helds ms)) r = rw c.helds_are (goes live_of (helds us) at vacant (gone (held_at us at)) r (omega (arith, lt_us, old)) (ap live_of (held-read us at) ∙ is_live_us) refl (rw regs s.book)) in
    let one_used : used_of (held_at ns at) ≡ 1 = used-yes (held_at ns at) own.used in
    let none_left : used_of (held_at ms at) ≡ 0 = used-no (held_at ms at) (ap Held.waker read.here) in
    let same_used : (j : ℕ) → used_of (held_at us j) ≡ used_of (held_at ns j) = λ j. ap (λ (b : Bool). cond b 1 0) (a.used j) in
    let without : IsWithout (λ j. used_of (held_at ns j)) (λ j. used_of (held_at ms j)) at = λ j. elim (cases_eq j at) as (λ _. used_of (held_at ms j) + one_if j at ≡ used_of (held_at ns j)) [
      | inl e ↦ rw e (omega (arith, none_left, one_used, one_if-same at))
      | inr ne ↦ omega (arith, one_if-other j at ne, ap used_of (read.there j ne), same_used j)
    ] in
    let entries : registrations (helds ns) ≡ placed r (registrations (helds ms)) = sym regs ∙ l.placed_is in
    record {
      entries = entries;
      others = l.others;
      len = read.len ∙ a.len;
      sound = λ left e. record {
        heap = c.heap;
        book = l.book;
        table = IsTable-frame (held_at us) (held_at ms) (length us) (length ms) ds (λ j. used_of (held_at ms j)) (λ j. used_of (held_at ms j)) (omega (arith, read.len))
            (λ j h. let ne : j ≢ at = λ e. omega (arith, h, none_left, ap (λ (x : ℕ). used_of (held_at ms x)) e) in (ap Held.chain (read.there j ne), ap Held.id (read.there j ne))) (λ j. refl) (table (λ j. used_of (held_at ms j)) without);
        row = omega (arith, s.row, read.len, a.len, row);
        power = λ some. rw row (s.power (omega (arith, some, row)));
        few = omega (arith, s.few, read.len, a.len);
        used_is = omega (arith, e, s.used_is, ap (λ (rs : List Registration). length rs) entries, length-placed r (registrations (helds ms)));
      };
    }

-- ## A pair is found, or is not there

other-pair : (d i : ℕ) (h : Held) (r : Registration) → r.deadline ≡ h.deadline → r.id ≡ h.id → is_pair_of d i h ≡ false → is_pair d i r ≡ false
other-pair d i h r a b k = grind (arith, nat_tests)

other-id : (d i : ℕ) (r : Registration) → r.id ≢ i → is_pair d i r ≡ false
other-id d i r ne = grind (arith, nat_tests)

pub absent : (ns : List Node) (bs : List (Option ℕ)) (root free : Option ℕ) (used d i k : ℕ) → (s : IsSound ns bs root free used) → bucket_in i (length bs) ≡ k → k < length bs → IsFound (held_at ns) d i (s.table.chains k) None
    → IsAbsent d i (helds ns)
absent ns bs root free used d i k s is kt none =
    all-of-each (λ (r : Registration). is_pair d i r ≡ false) (helds ns) (λ j r live_.
    let its : OfNode (held_at ns j) r = of-node (held_at ns j) r (sym (ap live_of (held-read ns j)) ∙ live_) in
    elim (cases_eq (held_at ns j).id i) as (λ _. is_pair d i r ≡ false) [
      | inl e ↦
          let inside = in-chain (held_at ns) (length ns) bs (λ (x : ℕ). used_of (held_at ns x)) s.table k j (ap (λ (x : ℕ). bucket_in x (length bs)) e ∙ is) kt in
          other-pair d i (held_at ns j) r its.deadline_is its.id_is (none j (omega (arith, inside, used-yes (held_at ns j) its.used)))
      | inr ne ↦ other-id d i r (λ e. ne (sym its.id_is ∙ e))
    ])

its-pair : (d i : ℕ) (h : Held) → is_pair_of d i h ≡ true → (h.deadline ≡ d) × (h.id ≡ i)
its-pair d i h k = grind (arith, nat_tests)

pub found : (ns : List Node) (bs : List (Option ℕ)) (root free : Option ℕ) (used d i k at : ℕ) → (s : IsSound ns bs root free used) → k < length bs → IsFound (held_at ns) d i (s.table.chains k) (Some at) → IsPairAt ns d i at
found ns bs root free used d i k at s kt both =
    let used_here : is_some (held_at ns at).waker ≡ true = used-some (held_at ns at) (in-use (held_at ns) (length ns) bs (λ (x : ℕ). used_of (held_at ns x)) s.table k at kt both.0) in
    let l : Live (held_at ns at) = live (held_at ns at) used_here in
    let its : OfNode (held_at ns at) l.registration = of-node (held_at ns at) l.registration l.is in
    let p = its-pair d i (held_at ns at) both.1 in
    record { within = used-within ns at used_here; registration = l.registration; live = l.is; deadline_is = its.deadline_is ∙ p.0; id_is = its.id_is ∙ p.1 }

-- ## A waker takes the place of another

pub record Rewakes (ns ms : List Node) (bs : List (Option ℕ)) (root free : Option ℕ) (used d i : ℕ) (w : Waker) : Type 0 where
  pub sound : IsSound ms bs root free used
  pub entries : registrations (helds ms) ≡ placed (record { id = i; deadline = d; waker = w }) (without_pair d i (registrations (helds ns)))
  pub len : length ms ≡ length ns

set-twice : {X : Type 0} (xs : List X) (i : ℕ) (x y : X) → set (set xs i x) i y ≡ set xs i y
set-twice [] i x y = refl
set-twice (a ∷ xs) zero x y = refl
set-twice (a ∷ xs) (suc i) x y = ap (λ (zs : List _). a ∷ zs) (set-twice xs i x y)

pub rewoken : (ns ms : List Node) (bs : List (Option ℕ)) (root free : Option ℕ) (used d i at : ℕ) (w : Waker) → IsSound ns bs root free used → IsPairAt ns d i at → ms ≡ set ns at (record (node_at ns at) { waker = Some w })
    → Rewakes ns ms bs root free used d i w
rewoken ns ms bs root free used d i at w s p e =
    let own : OfNode (held_at ns at) p.registration = of-node (held_at ns at) p.registration p.live in
    let h : Held = record (held_at ns at) { waker = Some w } in
    let old : length (helds ns) ≡ length ns = length-map ns held_of in
    let lt : at < length (helds ns) = omega (arith, old, p.within) in
    let here : node_at ms at ≡ record (node_at ns at) { waker = Some w } = rw e (get_or-set_same ns at _ blank_node p.within) in
    let there : (j : ℕ) → j ≢ at → node_at ms j ≡ node_at ns j = λ j ne. rw e (get_or-set_other ns at j _ blank_node ne) in
    let len : length ms ≡ length ns = ap (λ (xs : List Node). length xs) e ∙ length-set ns at _ in
    let a : Alike ns ms = record {
      len = len;
      child = λ j. elim (cases_eq j at) as (λ _. (node_at ms j).child ≡ (node_at ns j).child) [ inl k ↦ rw k (ap Node.child here) | inr ne ↦ ap Node.child (there j ne) ];
      next = λ j. elim (cases_eq j at) as (λ _. (node_at ms j).next ≡ (node_at ns j).next) [ inl k ↦ rw k (ap Node.next here) | inr ne ↦ ap Node.next (there j ne) ];
      prev = λ j. elim (cases_eq j at) as (λ _. (node_at ms j).prev ≡ (node_at ns j).prev) [ inl k ↦ rw k (ap Node.prev here) | inr ne ↦ ap Node.prev (there j ne) ];
      deadline = λ j. elim (cases_eq j at) as (λ _. (held_at ms j).deadline ≡ (held_at ns j).deadline) [ inl k ↦ rw k (ap Node.deadline here) | inr ne ↦ ap Node.deadline (there j ne) ];
      id = λ j. elim (cases_eq j at) as (λ _. (held_at ms j).id ≡ (held_at ns j).id) [ inl k ↦ rw k (ap (λ (x : Node). (held_of x).id) here) | inr ne ↦ ap (λ (x : Node). (held_of x).id) (there j ne) ];
      used = λ j. elim (cases_eq j at) as (λ _. is_some (held_at ms j).waker ≡ is_some (held_at ns j).waker) [ inl k ↦ rw k (ap (λ (x : Node). is_some x.waker) here ∙ sym own.used) | inr ne ↦ ap (λ (x : Node). is_some x.waker) (there j ne) ];
    } in
    let chain : (j : ℕ) → (held_at ms j).chain ≡ (held_at ns j).chain = λ j. elim (cases_eq j at) as (λ _. (held_at ms j).chain ≡ (held_at ns j).chain) [ inl k ↦ rw k (ap Node.chain here) | inr ne ↦ ap Node.chain (there j ne) ] in
    let l : Leaves live_of (registrations (helds ns)) (registrations (set (helds ns) at (gone (held_at ns at)))) p.registration =
    goes live_of (helds ns) at vacant (gone (held_at ns at)) p.registration lt (ap live_of (held-read ns at) ∙ p.live) refl s.book in
    let d_is : (held_at ns at).deadline ≡ d = sym own.deadline_is ∙ p.deadline_is in
    let i_is : (held_at ns at).id ≡ i = sym own.id_is ∙ p.id_is in
    let others : All (IsOther d i) (registrations (set (helds ns) at (gone (held_at ns at)))) = rw (← p.deadline_is, ← p.id_is) l.others in
    let empty : live_of (get_or (set (helds ns) at (gone (held_at ns at))) at vacant) ≡ None = ap live_of (get_or-set_same (helds ns) at (gone (held_at ns at)) vacant lt) in
    let now : live_of (record (held_at ns at) { waker = Some w }) ≡ Some (record { id = i; deadline = d; waker = w }) = ap (λ (x : ℕ). Some (record { id = x; deadline = (held_at ns at).deadline; waker = w })) i_is ∙ ap (λ (x : ℕ). Some (record { id = i; deadline = x; waker = w })) d_is in
    let got = comes live_of (set (helds ns) at (gone (held_at ns at))) at vacant (record (held_at ns at) { waker = Some w }) (record { id = i; deadline = d; waker = w }) (omega (arith, lt, length-set (helds ns) at (gone (held_at ns at)))) empty now l.book others in
    let now_helds : helds ms ≡ set (helds ns) at (record (held_at ns at) { waker = Some w }) = ap helds e ∙ map-set held_of ns at _ in
    let regs : registrations (helds ms) ≡ placed (record { id = i; deadline = d; waker = w }) (registrations (set (helds ns) at (gone (held_at ns at)))) =
    ap registrations (now_helds ∙ sym (set-twice (helds ns) at (gone (held_at ns at)) (record (held_at ns at) { waker = Some w }))) ∙ got in
    let back : without_pair d i (registrations (helds ns)) ≡ registrations (set (helds ns) at (gone (held_at ns at))) =
    ap (without_pair d i) l.placed_is ∙ rw (← p.deadline_is, ← p.id_is) (without_pair-placed p.registration (registrations (set (helds ns) at (gone (held_at ns at)))) l.others) in
    record {
      len = len;
      entries = regs ∙ ap (placed (record { id = i; deadline = d; waker = w })) (sym back);
      sound = record {
        heap = IsHeap-alike ns ms root free a s.heap;
        book = rw regs (IsBook-placed (record { id = i; deadline = d; waker = w }) (registrations (set (helds ns) at (gone (held_at ns at)))) l.book others);
        table = IsTable-frame (held_at ns) (held_at ms) (length ns) (length ms) bs (λ j. used_of (held_at ns j)) (λ j. used_of (held_at ms j)) (omega (arith, len))
            (λ j _. (chain j, a.id j)) (λ j. ap (λ (b : Bool). cond b 1 0) (a.used j)) s.table;
        row = omega (arith, s.row, len);
        power = s.power;
        few = omega (arith, s.few, len);
        used_is = omega (
          arith,
          s.used_is,
          ap (λ (rs : List Registration). length rs) regs,
          ap (λ (rs : List Registration). length rs) l.placed_is,
          length-placed (record { id = i; deadline = d; waker = w }) (registrations (set (helds ns) at (gone (held_at ns at)))),
          length-placed p.registration (registrations (set (helds ns) at (gone (held_at ns at)))),
        );
      };
    }

-- ## A search of a bucket

pub its-bucket : (ns : List Node) (bs : List (Option ℕ)) (root free : Option ℕ) (used k : ℕ) → (s : IsSound ns bs root free used) → k < length bs → IsBucket (held_at ns) (length ns) (get_or bs k None) (s.table.chains k)
its-bucket ns bs root free used k s kt = record {
  chain = s.table.linked k kt;
  once = λ j. omega (arith, s.table.members k j kt, cond-le ((bucket_in (held_at ns j).id (length bs)) == k) (used_of (held_at ns j)), s.table.single j);
}

pub search-tells : (ns : List Node) (bs : List (Option ℕ)) (root free : Option ℕ) (used d i k : ℕ) (answer : Option ℕ) → (s : IsSound ns bs root free used) → bucket_in i (length bs) ≡ k → k < length bs
    → IsFound (held_at ns) d i (s.table.chains k) answer → MatchOption answer (IsAbsent d i (helds ns)) (λ at. IsPairAt ns d i at)
search-tells ns bs root free used d i k None s is kt f = absent ns bs root free used d i k s is kt f
search-tells ns bs root free used d i k (Some at) s is kt f = found ns bs root free used d i k at s kt f

-- ## The number of timers

filter-le : (hs : List Held) → length (filter_map live_of hs) ≤ length hs
filter-le [] = omega arith
filter-le (h ∷ hs) = go (live_of h) (filter-le hs)
  where
    go : (o : Option Registration) → length (filter_map live_of hs) ≤ length hs → length (cons_option o (filter_map live_of hs)) ≤ suc (length hs)
    go None k = omega (arith, k)
    go (Some r) k = omega (arith, k)

pub used-fits : (ns : List Node) (bs : List (Option ℕ)) (root free : Option ℕ) (used : ℕ) → IsSound ns bs root free used → used ≤ length ns
used-fits ns bs root free used s = omega (arith, s.used_is, length-in_order (filter_map live_of (helds ns)), filter-le (helds ns), length-map ns held_of)

all-live : (hs : List Held) → ((i : ℕ) → i < length hs → is_some (get_or hs i vacant).waker ≡ true) → length (filter_map live_of hs) ≡ length hs
all-live [] h = refl
all-live (x ∷ hs) h = go x.waker (h 0 (omega arith)) (all-live hs (λ i lt. h (suc i) (omega (arith, lt))))
  where
    go : (o : Option Waker) → is_some o ≡ true → length (filter_map live_of hs) ≡ length hs → length (cons_option (registration_in x.deadline x.id o) (filter_map live_of hs)) ≡ suc (length hs)
    go None k more = cc
    go (Some w) k more = omega (arith, more)

-- with no free node all are in use
pub no-room : (ns : List Node) (bs : List (Option ℕ)) (root : Option ℕ) (used : ℕ) → IsSound ns bs root None used → used ≡ length ns
no-room ns bs root used s = go s.heap.spare s.heap.run s.heap.idle
  where
    in-use : (h : Held) → 0 ≡ one_free h → is_some h.waker ≡ true
    in-use h = elim (is_some h.waker) as (λ (b : Bool). ◌≡◌ {A = ℕ} 0 (cond b 0 1) → b ≡ true) [ true ↦ λ e. refl | false ↦ λ e. absurd (omega (arith, e)) ]

    go : (spare : List ℕ) → IsRun ns None spare → ((j : ℕ) → j < length ns → times_in j spare ≡ one_free (held_at ns j)) → used ≡ length ns
    go (i ∷ more) c idle = cc (c.0)
    go [] c idle = omega (
      arith,
      s.used_is,
      length-in_order (filter_map live_of (helds ns)),
      length-map ns held_of,
      all-live (helds ns) (λ i lt. ap (λ (h : Held). is_some h.waker) (held-read ns i) ∙ in-use (held_at ns i) (idle i (omega (arith, lt, length-map ns held_of)))),
    )

-- with no root none is in use
pub no-root : (ns : List Node) (bs : List (Option ℕ)) (free : Option ℕ) (used : ℕ) → IsSound ns bs None free used → registrations (helds ns) ≡ []
no-root ns bs free used s = none (registrations (helds ns)) (all-of-each (λ (r : Registration). ⊥) (helds ns) (λ j r e.
    let its : OfNode (held_at ns j) r = of-node (held_at ns j) r (sym (ap live_of (held-read ns j)) ∙ e) in rootless ns free s.heap j its.used))
  where
    none : (rs : List Registration) → All (λ (r : Registration). ⊥) rs → rs ≡ []
    none [] h = refl
    none (r ∷ rs) h = absurd (All-head (λ (r : Registration). ⊥) r rs h)

-- the root is in use
pub record RootLive (ns : List Node) (root : ℕ) : Type 0 where
  pub within : root < length ns
  pub registration : Registration
  pub is : live_of (held_at ns root) ≡ Some registration
  pub more : List Registration
  pub book : registrations (helds ns) ≡ registration ∷ more

pub root-live : (ns : List Node) (bs : List (Option ℕ)) (root : ℕ) (free : Option ℕ) (used : ℕ) → IsSound ns bs (Some root) free used → RootLive ns root
root-live ns bs root free used s =
    let used_here : is_some (held_at ns root).waker ≡ true = s.heap.root_is.top.used in
    let l : Live (held_at ns root) = live (held_at ns root) used_here in
    record {
      within = used-within ns root used_here;
      registration = l.registration;
      is = l.is;
      more = registrations (set (helds ns) root (gone (held_at ns root)));
      book = least-first ns root free l.registration s.heap s.book l.is;
    }

pub empty-sound : IsSound [] [] None None 0
empty-sound = record {
  heap = record {
    family = record { above = λ j. None; below = λ j. [] };
    spare = [];
    rows = record {
      linked = λ i u. refl;
      members = λ i j u. refl;
      order = λ i j e. cc;
      apart = λ i j u v d e. cc;
    };
    root_is = tt;
    single = λ j t. cc;
    run = refl;
    idle = λ j lt. absurd (omega (arith, lt));
  };
  book = tt;
  table = record { chains = λ b. []; linked = λ b h. absurd (omega (arith, h)); members = λ b j h. absurd (omega (arith, h)); single = λ j. omega arith };
  row = omega arith;
  power = λ some. absurd (omega (arith, some));
  few = omega arith;
  used_is = refl;
}

-- where there is room there is a free node
pub has-free : (ns : List Node) (bs : List (Option ℕ)) (root free : Option ℕ) (used : ℕ) → IsSound ns bs root free used → used < length ns → is_some free ≡ true
has-free ns bs root None used s lt = absurd (omega (arith, lt, no-room ns bs root used s))
has-free ns bs root (Some at) used s lt = refl

-- the book without the timer that went
pub dropped-entries : (ns ms : List Node) (bs : List (Option ℕ)) (root free : Option ℕ) (used d i : ℕ) (r : Registration) → Drops ns ms bs root free used r → r.deadline ≡ d → r.id ≡ i
    → registrations (helds ms) ≡ without_pair d i (registrations (helds ns))
dropped-entries ns ms bs root free used d i r x di ii =
    rw (← di, ← ii) (sym (ap (without_pair r.deadline r.id) x.entries ∙ without_pair-placed r (registrations (helds ms)) x.others))

pub dropped-many : (ns ms : List Node) (bs ds : List (Option ℕ)) (root free top first : Option ℕ) (used : ℕ) (r : Registration) → IsSound ns bs root free used → Drops ns ms ds top first used r → 1 ≤ used
dropped-many ns ms bs ds root free top first used r s x = omega (arith, s.used_is, ap (λ (rs : List Registration). length rs) x.entries, length-placed r (registrations (helds ms)))
