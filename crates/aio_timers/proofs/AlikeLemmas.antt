-- Nodes that differ in their chains or their wakers alone make the same heap.
use Rattle.std.proofs.Common.{◌≡◌, ℕ, zero, suc, Bool, cond, true, List, [], ◌∷◌, length, get_or, Option, None, Some, IfSome, is_some, arith, refl, sym, ap, ◌∙◌}
use Rattle.std.specs.List.{filter_map}
use Rattle.std.proofs.lemmas.List.{length-map}
use Rattle.aio_timers.specs.declared.node.Node.{Node}
use Rattle.aio_timers.specs.Held.{Held, IsUsed, held_at, held_of, helds, node_at, vacant, live_of}
use Rattle.aio_timers.specs.Precedes.{precedes}
use Rattle.aio_timers.specs.Family.{Family, IsFamily, IsParent, IsTop}
use Rattle.aio_timers.specs.Heap.{IsHeap, IsRoot}
use Rattle.aio_timers.specs.Chains.{ChainsChange}
use Rattle.aio_timers.proofs.RunLemmas.{run-frame, row-frame}

-- what a node holds is read where it stands, and nothing behind the last node
pub held-read : (ns : List Node) (j : ℕ) → get_or (helds ns) j vacant ≡ held_at ns j
held-read [] j = refl
held-read (x ∷ ns) zero = refl
held-read (x ∷ ns) (suc j) = held-read ns j

-- nodes with the same links of the heap and the same pairs, of which the same ones are in use
pub record Alike (ns ms : List Node) : Type 0 where
  pub len : length ms ≡ length ns
  pub child : (j : ℕ) → (node_at ms j).child ≡ (node_at ns j).child
  pub next : (j : ℕ) → (node_at ms j).next ≡ (node_at ns j).next
  pub prev : (j : ℕ) → (node_at ms j).prev ≡ (node_at ns j).prev
  pub deadline : (j : ℕ) → (held_at ms j).deadline ≡ (held_at ns j).deadline
  pub id : (j : ℕ) → (held_at ms j).id ≡ (held_at ns j).id
  pub used : (j : ℕ) → is_some (held_at ms j).waker ≡ is_some (held_at ns j).waker

precedes-alike : (a b x y : Held) → x.deadline ≡ a.deadline → x.id ≡ a.id → y.deadline ≡ b.deadline → y.id ≡ b.id → precedes a b ≡ true → precedes x y ≡ true
precedes-alike a b x y ad ai bd bi h = rw (ad, ai, bd, bi) h

IsFamily-alike : (ns ms : List Node) (f : Family) → Alike ns ms → IsFamily ns f → IsFamily ms f
IsFamily-alike ns ms f a h =
    let was : (i : ℕ) → IsUsed (held_at ms i) → IsUsed (held_at ns i) = λ i u. sym (a.used i) ∙ u in
    record {
      linked = λ i u. rw (a.child i) (row-frame ns ms i (node_at ns i).child (f.below i) a.len (λ j c. (a.next j, a.prev j)) (h.linked i (was i u)));
      members = λ i j u. h.members i j (was i u);
      order = λ i j e.
          let p : IsParent ns i j = h.order i j e in
          record {
            parent = a.used i ∙ p.parent;
            child = a.used j ∙ p.child;
            before = precedes-alike (held_at ns i) (held_at ns j) (held_at ms i) (held_at ms j) (a.deadline i) (a.id i) (a.deadline j) (a.id j) p.before;
          };
      apart = λ i j u v d e. h.apart i j (was i u) (was j v) (sym (a.deadline i) ∙ d ∙ a.deadline j) (sym (a.id i) ∙ e ∙ a.id j);
    }

IsTop-alike : (ns ms : List Node) (f : Family) (j : ℕ) → ((i : ℕ) → is_some (held_at ms i).waker ≡ is_some (held_at ns i).waker) → IsTop ns f j → IsTop ms f j
IsTop-alike ns ms f j same t = record { used = same j ∙ t.used; free = t.free }

pub IsHeap-alike : (ns ms : List Node) (root free : Option ℕ) → Alike ns ms → IsHeap ns root free → IsHeap ms root free
IsHeap-alike ns ms root free a h = record {
  family = h.family;
  spare = h.spare;
  rows = IsFamily-alike ns ms h.family a h.rows;
  root_is = its_root root h.root_is;
  single = λ j t. h.single j (IsTop-alike ms ns h.family j (λ i. sym (a.used i)) t);
  run = run-frame ns ms free h.spare a.len (λ j c. a.next j) h.run;
  idle = λ j lt. h.idle j (omega (arith, lt, a.len)) ∙ ap (λ (b : Bool). cond b 0 1) (sym (a.used j));
}
  where
    its_root : (o : Option ℕ) → IfSome o (λ r. IsRoot ns h.family r) → IfSome o (λ r. IsRoot ms h.family r)
    its_root None r = tt
    its_root (Some i) r = record { top = IsTop-alike ns ms h.family i a.used r.top; next = a.next i ∙ r.next; prev = a.prev i ∙ r.prev }

pub Alike-chains : (ns ms : List Node) → ChainsChange ns ms → Alike ns ms
Alike-chains ns ms c = record {
  len = c.len;
  child = λ j. ap Node.child (c.same j);
  next = λ j. ap Node.next (c.same j);
  prev = λ j. ap Node.prev (c.same j);
  deadline = λ j. ap (λ (x : Node). (held_of x).deadline) (c.same j);
  id = λ j. ap (λ (x : Node). (held_of x).id) (c.same j);
  used = λ j. ap (λ (x : Node). is_some x.waker) (c.same j);
}

-- the registrations are those of the nodes in use, whatever their chains
pub live-same : (hs ks : List Held) → length ks ≡ length hs → ((j : ℕ) → live_of (get_or ks j vacant) ≡ live_of (get_or hs j vacant)) → filter_map live_of ks ≡ filter_map live_of hs
live-same [] [] len same = refl
live-same [] (k ∷ ks) len same = absurd (omega (arith, len))
live-same (h ∷ hs) [] len same = absurd (omega (arith, len))
live-same (h ∷ hs) (k ∷ ks) len same =
    let here : live_of k ≡ live_of h = same 0 in
    let more : filter_map live_of ks ≡ filter_map live_of hs = live-same hs ks (omega (arith, len)) (λ j. same (suc j)) in
    rw (here, more) refl

pub live-chains : (ns ms : List Node) → ChainsChange ns ms → filter_map live_of (helds ms) ≡ filter_map live_of (helds ns)
live-chains ns ms c =
    live-same (helds ns) (helds ms) (length-map ms held_of ∙ c.len ∙ sym (length-map ns held_of))
    (λ j. ap live_of (held-read ms j) ∙ ap (λ (x : Node). live_of (held_of x)) (c.same j) ∙ sym (ap live_of (held-read ns j)))
