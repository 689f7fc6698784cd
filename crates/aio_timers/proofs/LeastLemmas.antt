-- The root fires first, and its registration stands at the front of the book.
use Rattle.std.proofs.Common.{inl, inr, ◌≡◌, ◌≢◌, ℕ, zero, suc, ◌<◌, true, false, List, [], ◌∷◌, length, get_or, set, Option, None, Some, is_some, refl, sym, ap, ◌∙◌, arith}
use Rattle.std.specs.List.{All, filter_map, cons_option}
use Rattle.std.proofs.lemmas.Bool.{cases_eq}
use Rattle.std.proofs.lemmas.Bool.Decides.{nat_tests}
use Rattle.std.proofs.lemmas.List.{length-map, get_or-set_same, get_or-set_other}
use Rattle.std.proofs.lemmas.List.Elements.{All-nil}
use Rattle.aio_base.specs.declared.names.Waker.{Waker}
use Rattle.aio_base.specs.World.{Registration}
use Rattle.aio_base.specs.Timers.{fires_before, in_order, is_pair, IsBook}
use Rattle.aio_timers.specs.declared.node.Node.{Node}
use Rattle.aio_timers.specs.Held.{Held, IsUsed, held_at, held_of, helds, vacant, gone, live_of, registration_in}
use Rattle.aio_timers.specs.Precedes.{precedes}
use Rattle.aio_timers.specs.Family.{Family, IsFamily, IsParent, IsTop}
use Rattle.aio_timers.specs.Heap.{IsHeap}
use Rattle.aio_timers.specs.Sound.{registrations, IsAbsent}
use Rattle.aio_timers.proofs.BookLemmas.{Follows, All-placed, placed-front}
use Rattle.aio_timers.proofs.WeightLemmas.{placed-own, placed-rest, Leaves, goes}
use Rattle.aio_timers.proofs.AlikeLemmas.{held-read}
use Rattle.aio_timers.proofs.RunLemmas.{used-within, by-order}

-- ## The registrations are those of the nodes in use

pub record OfNode (h : Held) (r : Registration) : Type 0 where
  pub deadline_is : r.deadline ≡ h.deadline
  pub id_is : r.id ≡ h.id
  pub used : IsUsed h

pub of-node : (h : Held) (r : Registration) → live_of h ≡ Some r → OfNode h r
of-node h r e = go h.waker refl e
  where
    go : (o : Option Waker) → h.waker ≡ o → registration_in h.deadline h.id o ≡ Some r → OfNode h r
    go None is k = cc
    go (Some w) is k =
        let its : ◌≡◌ {A = Registration} (record { id = h.id; deadline = h.deadline; waker = w }) r = cc in
        record { deadline_is = ap Registration.deadline (sym its); id_is = ap Registration.id (sym its); used = ap is_some is }

pub record Live (h : Held) : Type 0 where
  pub registration : Registration
  pub is : live_of h ≡ Some registration

pub live : (h : Held) → IsUsed h → Live h
live h u = go h.waker refl u
  where
    go : (o : Option Waker) → h.waker ≡ o → is_some o ≡ true → Live h
    go None is k = cc
    go (Some w) is k = record { registration = record { id = h.id; deadline = h.deadline; waker = w }; is = ap (registration_in h.deadline h.id) is }

-- what holds of the registration of each node holds of all, and back
pub all-of-each : (P : Registration → Type 0) (hs : List Held) → ((j : ℕ) (r : Registration) → live_of (get_or hs j vacant) ≡ Some r → P r) → All P (registrations hs)
all-of-each P [] each = All-nil P
all-of-each P (h ∷ hs) each = go (live_of h) (λ r e. each 0 r e) (all-of-each P hs (λ j r e. each (suc j) r e))
  where
    go : (o : Option Registration) → ((r : Registration) → o ≡ Some r → P r) → All P (registrations hs) → All P (in_order (cons_option o (filter_map live_of hs)))
    go None own rest = rest
    go (Some r) own rest = All-placed P r (registrations hs) (own r refl) rest

pub each-of-all : (P : Registration → Type 0) (hs : List Held) → All P (registrations hs) → (j : ℕ) (r : Registration) → live_of (get_or hs j vacant) ≡ Some r → P r
each-of-all P [] all j r e = cc
each-of-all P (h ∷ hs) all j r e = go (live_of h) refl all j e (λ rest k. each-of-all P hs rest k r)
  where
    go : (o : Option Registration) → live_of h ≡ o → All P (in_order (cons_option o (filter_map live_of hs))) → (j : ℕ) → live_of (get_or (h ∷ hs) j vacant) ≡ Some r
        → (All P (registrations hs) → (k : ℕ) → live_of (get_or hs k vacant) ≡ Some r → P r) → P r
    go None is all zero e behind = cc
    go None is all (suc j) e behind = behind all j e
    go (Some x) is all zero e behind = let same : x ≡ r = cc in rw (← same) (placed-own P x (registrations hs) all)
    go (Some x) is all (suc j) e behind = behind (placed-rest P x (registrations hs) all) j e

-- a pair that no registration has stands at no node in use
pub absent-each : (ns : List Node) (d i j : ℕ) → IsAbsent d i (helds ns) → IsUsed (held_at ns j) → (held_at ns j).deadline ≡ d → (held_at ns j).id ≡ i → ⊥
absent-each ns d i j absent used de ie =
    let l : Live (held_at ns j) = live (held_at ns j) used in
    let own : OfNode (held_at ns j) l.registration = of-node (held_at ns j) l.registration l.is in
    differ l.registration (each-of-all (λ (r : Registration). is_pair d i r ≡ false) (helds ns) absent j l.registration (ap live_of (held-read ns j) ∙ l.is)) (own.deadline_is ∙ de) (own.id_is ∙ ie)
  where
    differ : (r : Registration) → is_pair d i r ≡ false → r.deadline ≡ d → r.id ≡ i → ⊥
    differ r no_ a b = grind (arith, nat_tests)

-- ## The root

pub precedes-trans : (a b c : Held) → precedes a b ≡ true → precedes b c ≡ true → precedes a c ≡ true
precedes-trans a b c h k = grind (arith, nat_tests)

-- what holds of the nodes without a parent, and of each node where it holds of its parent, holds of all in use
pub from-tops : (ns : List Node) (f : Family) (P : ℕ → Type 0) → IsFamily ns f → ((j : ℕ) → IsTop ns f j → P j) → ((i j : ℕ) → IsParent ns i j → P i → P j) → (j : ℕ) → IsUsed (held_at ns j) → P j
from-tops ns f P h top child = by-order (held_at ns) (λ j. IsUsed (held_at ns j) → P j) (λ j earlier used. go j (f.above j) refl earlier used)
  where
    go : (j : ℕ) (o : Option ℕ) → f.above j ≡ o → ((i : ℕ) → precedes (held_at ns i) (held_at ns j) ≡ true → IsUsed (held_at ns i) → P i) → IsUsed (held_at ns j) → P j
    go j None e earlier used = top j (record { used = used; free = e })
    go j (Some i) e earlier used = let p : IsParent ns i j = h.order i j e in child i j p (earlier i p.before p.parent)

-- it fires before each other node in use
pub root-least : (ns : List Node) (root : ℕ) (free : Option ℕ) → IsHeap ns (Some root) free → (j : ℕ) → IsUsed (held_at ns j) → j ≢ root → precedes (held_at ns root) (held_at ns j) ≡ true
root-least ns root free h = from-tops ns h.family (λ j. j ≢ root → precedes (held_at ns root) (held_at ns j) ≡ true) h.rows (λ j t ne. absurd (ne (cc (h.single j t))))
    (λ i j p above ne. elim (cases_eq i root) as (λ _. precedes (held_at ns root) (held_at ns j) ≡ true) [
      | inl is ↦ ap (λ (x : ℕ). precedes (held_at ns x) (held_at ns j)) (sym is) ∙ p.before
      | inr other ↦ precedes-trans (held_at ns root) (held_at ns i) (held_at ns j) (above other) p.before
    ])

-- without a root no node is in use
pub rootless : (ns : List Node) (free : Option ℕ) → IsHeap ns None free → (j : ℕ) → IsUsed (held_at ns j) → ⊥
rootless ns free h = from-tops ns h.family (λ j. ⊥) h.rows (λ j t. none (h.single j t)) (λ i j p no_. no_)
  where
    none : {i : ℕ} → ◌≡◌ {A = Option ℕ} None (Some i) → ⊥
    none e = cc

-- a node before another one has the registration before
fires-before : (a b : Held) (r x : Registration) → OfNode a r → OfNode b x → precedes a b ≡ true → fires_before r x ≡ true
fires-before a b r x own its h = rw (own.deadline_is, own.id_is, its.deadline_is, its.id_is) h

-- without the root, the book is what stood behind its front
pub least-first : (ns : List Node) (root : ℕ) (free : Option ℕ) (r : Registration) → IsHeap ns (Some root) free → IsBook (registrations (helds ns)) → live_of (held_at ns root) ≡ Some r
    → registrations (helds ns) ≡ r ∷ registrations (set (helds ns) root (gone (held_at ns root)))
least-first ns root free r h book is =
    let hs : List Held = helds ns in
    let g : Held = gone (held_at ns root) in
    let own : OfNode (held_at ns root) r = of-node (held_at ns root) r is in
    let lt : root < length (helds ns) = omega (arith, used-within ns root own.used, length-map ns held_of) in
    let l : Leaves live_of (registrations (helds ns)) (registrations (set (helds ns) root (gone (held_at ns root)))) r = goes live_of hs root vacant g r lt (ap live_of (held-read ns root) ∙ is) refl book in
    l.placed_is ∙ placed-front r (registrations (set hs root g)) (all-of-each (Follows r) (set hs root g) (λ j x e.
    let ne : j ≢ root = λ d. vacated x (sym (ap live_of (ap (λ (k : ℕ). get_or (set hs root g) k vacant) d ∙ get_or-set_same hs root g vacant lt)) ∙ e) in
    let its : OfNode (held_at ns j) x = of-node (held_at ns j) x (sym (ap live_of (get_or-set_other hs root j g vacant ne ∙ held-read ns j)) ∙ e) in
    fires-before (held_at ns root) (held_at ns j) r x own its (root-least ns root free h j its.used ne)))
  where
    vacated : (x : Registration) → live_of (gone (held_at ns root)) ≡ Some x → ⊥
    vacated x e = cc
