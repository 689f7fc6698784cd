-- What is read after writes of links.
use Rattle.std.proofs.Common.{◌≡◌, ◌≢◌, ℕ, zero, suc, ◌<◌, true, false, List, [], ◌∷◌, length, set, Option, None, Some, arith, refl, sym, ap, ◌∙◌, length-set}
use Rattle.std.proofs.lemmas.List.{get_or-set_same, get_or-set_other}
use Rattle.std.proofs.lemmas.Bool.Decides.{nat_tests}
use Rattle.aio_timers.specs.declared.node.Node.{Node}
use Rattle.aio_timers.specs.Held.{held_of, held_at, node_at, blank_node, gone}
use Rattle.aio_timers.specs.Writes.{with_child, with_next, with_prev, with_back, under, leads_or, leads_to, without, put_on_free}

pub leads-same : (i : ℕ) → leads_to (Some i) i ≡ true
leads-same i = grind (arith, nat_tests)

pub leads-other : (l : Option ℕ) (i : ℕ) → l ≢ Some i → leads_to l i ≡ false
leads-other None i ne = refl
leads-other (Some j) i ne = other j i (λ e. ne (ap (λ (x : ℕ). Some x) e))
  where
    other : (a b : ℕ) → a ≢ b → leads_to (Some a) b ≡ false
    other a b h = grind (arith, nat_tests)

-- ## One write

-- what a write of a node leaves as it was there, it leaves so everywhere
pub kept : {A : Type 0} (p : Node → A) (ns : List Node) (i j : ℕ) (n : Node) → p n ≡ p (node_at ns i) → p (node_at (set ns i n) j) ≡ p (node_at ns j)
kept p [] i j n e = refl
kept p (m ∷ ns) zero zero n e = e
kept p (m ∷ ns) zero (suc j) n e = refl
kept p (m ∷ ns) (suc i) zero n e = refl
kept p (m ∷ ns) (suc i) (suc j) n e = kept p ns i j n e

pub apart : {A : Type 0} (p : Node → A) (ns : List Node) (i j : ℕ) (n : Node) → j ≢ i → p (node_at (set ns i n) j) ≡ p (node_at ns j)
apart p ns i j n ne = ap p (get_or-set_other ns i j n blank_node ne)

pub here : {A : Type 0} (p : Node → A) (ns : List Node) (i : ℕ) (n : Node) → i < length ns → p (node_at (set ns i n) i) ≡ p n
here p ns i n lt = ap p (get_or-set_same ns i n blank_node lt)

-- ## A link back

pub back-length : (ns : List Node) (to l : Option ℕ) → length (with_back ns to l) ≡ length ns
back-length ns None l = refl
back-length ns (Some i) l = length-set ns i _

pub back-kept : {A : Type 0} (p : Node → A) (ns : List Node) (to l : Option ℕ) (j : ℕ) → ((n : Node) → p (record n { prev = l }) ≡ p n) → p (node_at (with_back ns to l) j) ≡ p (node_at ns j)
back-kept p ns None l j e = refl
back-kept p ns (Some i) l j e = kept p ns i j _ (e (node_at ns i))

pub back-apart : (ns : List Node) (to l : Option ℕ) (j : ℕ) → to ≢ Some j → (node_at (with_back ns to l) j).prev ≡ (node_at ns j).prev
back-apart ns None l j ne = refl
back-apart ns (Some i) l j ne = apart (λ (n : Node). n.prev) ns i j _ (λ e. ne (ap (λ (x : ℕ). Some x) (sym e)))

pub back-here : (ns : List Node) (to l : Option ℕ) (j : ℕ) → to ≡ Some j → j < length ns → (node_at (with_back ns to l) j).prev ≡ l
back-here ns to l j e lt = rw e (here (λ (n : Node). n.prev) ns j _ lt)

-- ## A node comes below another one

-- what is read after it
pub record Puts (old new : List Node) (p i : ℕ) : Type 0 where
  pub len : length new ≡ length old
  pub held : (j : ℕ) → held_at new j ≡ held_at old j
  pub child : (j : ℕ) → j ≢ p → (node_at new j).child ≡ (node_at old j).child
  pub child_here : (node_at new p).child ≡ Some i
  pub next : (j : ℕ) → j ≢ i → (node_at new j).next ≡ (node_at old j).next
  pub next_here : (node_at new i).next ≡ (node_at old p).child
  pub prev : (j : ℕ) → j ≢ i → (node_at old p).child ≢ Some j → (node_at new j).prev ≡ (node_at old j).prev
  pub prev_here : (node_at new i).prev ≡ Some p
  pub prev_first : (j : ℕ) → j < length old → (node_at old p).child ≡ Some j → (node_at new j).prev ≡ Some i

leads_or-apart : (l : Option ℕ) (i j : ℕ) → l ≢ Some j → j ≢ i → j ≢ leads_or l i
leads_or-apart None i j other ne = ne
leads_or-apart (Some k) i j other ne = λ e. other (ap (λ (x : ℕ). Some x) (sym e))

-- the first three of the four writes
abbrev forward : List Node → ℕ → ℕ → List Node
forward ns p i = with_next ns i (node_at ns p).child

abbrev behind : List Node → ℕ → ℕ → List Node
behind ns p i = with_prev (forward ns p i) (leads_or (node_at ns p).child i) (Some i)

abbrev before_last : List Node → ℕ → ℕ → List Node
before_last ns p i = with_prev (behind ns p i) i (Some p)

pub puts : (ns : List Node) (p i : ℕ) → p < length ns → i < length ns → (node_at ns p).child ≢ Some i → Puts ns (under ns p i) p i
puts ns p i hp hi new =
    let first : Option ℕ = (node_at ns p).child in
    let to : ℕ = leads_or first i in
    let a : List Node = forward ns p i in
    let b : List Node = behind ns p i in
    let c : List Node = before_last ns p i in
    let a_len : length a ≡ length ns = length-set ns i _ in
    let b_len : length b ≡ length ns = length-set a to _ ∙ a_len in
    let c_len : length c ≡ length ns = length-set b i _ ∙ b_len in
    record {
      len = length-set c p _ ∙ c_len;
      held = λ j. kept held_of c p j _ refl ∙ kept held_of b i j _ refl ∙ kept held_of a to j _ refl ∙ kept held_of ns i j _ refl;
      child = λ j ne. apart (λ (n : Node). n.child) c p j _ ne ∙ kept (λ (n : Node). n.child) b i j _ refl ∙ kept (λ (n : Node). n.child) a to j _ refl ∙ kept (λ (n : Node). n.child) ns i j _ refl;
      child_here = here (λ (n : Node). n.child) c p _ (omega (arith, hp, c_len));
      next = λ j ne. kept (λ (n : Node). n.next) c p j _ refl ∙ kept (λ (n : Node). n.next) b i j _ refl ∙ kept (λ (n : Node). n.next) a to j _ refl ∙ apart (λ (n : Node). n.next) ns i j _ ne;
      next_here = kept (λ (n : Node). n.next) c p i _ refl ∙ kept (λ (n : Node). n.next) b i i _ refl ∙ kept (λ (n : Node). n.next) a to i _ refl ∙ here (λ (n : Node). n.next) ns i _ hi;
      prev = λ j ne other. kept (λ (n : Node). n.prev) c p j _ refl ∙ apart (λ (n : Node). n.prev) b i j _ ne ∙ apart (λ (n : Node). n.prev) a to j _ (leads_or-apart first i j other ne) ∙ kept (λ (n : Node). n.prev) ns i j _ refl;
      prev_here = kept (λ (n : Node). n.prev) c p i _ refl ∙ here (λ (n : Node). n.prev) b i _ (omega (arith, hi, b_len));
      prev_first = λ j lt e.
          let to_is : to ≡ j = ap (λ (l : Option ℕ). leads_or l i) e in
          kept (λ (n : Node). n.prev) c p j _ refl ∙ apart (λ (n : Node). n.prev) b i j _ (λ d. new (e ∙ ap (λ (x : ℕ). Some x) d)) ∙ written a to j to_is (omega (arith, lt, a_len));
    }
  where
    written : (ns : List Node) (to j : ℕ) → to ≡ j → j < length ns → (node_at (with_prev ns to (Some i)) j).prev ≡ Some i
    written ns to j e lt = rw e (here (λ (n : Node). n.prev) ns j _ lt)

-- ## A node leaves its row

-- what is read after it, where this node stood before it
pub record Leaves (old new : List Node) (b i : ℕ) : Type 0 where
  pub len : length new ≡ length old
  pub held : (j : ℕ) → held_at new j ≡ held_at old j
  pub child : (j : ℕ) → j ≢ b → (node_at new j).child ≡ (node_at old j).child
  pub next : (j : ℕ) → j ≢ b → (node_at new j).next ≡ (node_at old j).next
  pub prev : (j : ℕ) → (node_at old i).next ≢ Some j → (node_at new j).prev ≡ (node_at old j).prev
  pub prev_behind : (j : ℕ) → j < length old → (node_at old i).next ≡ Some j → (node_at new j).prev ≡ Some b

-- a first child
pub record LeavesFirst (old new : List Node) (b i : ℕ) : Type 0 where
  pub leaves : Leaves old new b i
  pub child : (node_at new b).child ≡ (node_at old i).next
  pub next : (node_at new b).next ≡ (node_at old b).next

-- another one
pub record LeavesInner (old new : List Node) (b i : ℕ) : Type 0 where
  pub leaves : Leaves old new b i
  pub child : (node_at new b).child ≡ (node_at old b).child
  pub next : (node_at new b).next ≡ (node_at old i).next

pub leaves-first : (ns : List Node) (b i : ℕ) → b < length ns → (node_at ns i).prev ≡ Some b → (node_at ns b).next ≢ Some i → LeavesFirst ns (without ns i) b i
leaves-first ns b i hb prev at_next =
    let next : Option ℕ = (node_at ns i).next in
    let a : List Node = with_child ns b next in
    let a_len : length a ≡ length ns = length-set ns b _ in
    let test : leads_to (node_at ns b).next i ≡ false = leads-other (node_at ns b).next i at_next in
    let is : without ns i ≡ with_back a next (Some b) = rw (prev, test) refl in
    rw is (record {
      leaves = record {
        len = back-length a next (Some b) ∙ a_len;
        held = λ j. back-kept held_of a next (Some b) j (λ n. refl) ∙ kept held_of ns b j _ refl;
        child = λ j ne. back-kept (λ (n : Node). n.child) a next (Some b) j (λ n. refl) ∙ apart (λ (n : Node). n.child) ns b j _ ne;
        next = λ j ne. back-kept (λ (n : Node). n.next) a next (Some b) j (λ n. refl) ∙ apart (λ (n : Node). n.next) ns b j _ ne;
        prev = λ j ne. back-apart a next (Some b) j ne ∙ kept (λ (n : Node). n.prev) ns b j _ refl;
        prev_behind = λ j lt e. back-here a next (Some b) j e (omega (arith, lt, a_len));
      };
      child = back-kept (λ (n : Node). n.child) a next (Some b) b (λ n. refl) ∙ here (λ (n : Node). n.child) ns b _ hb;
      next = back-kept (λ (n : Node). n.next) a next (Some b) b (λ n. refl) ∙ kept (λ (n : Node). n.next) ns b b _ refl;
    })

pub leaves-inner : (ns : List Node) (b i : ℕ) → b < length ns → (node_at ns i).prev ≡ Some b → (node_at ns b).next ≡ Some i → LeavesInner ns (without ns i) b i
leaves-inner ns b i hb prev at_next =
    let next : Option ℕ = (node_at ns i).next in
    let a : List Node = with_next ns b next in
    let a_len : length a ≡ length ns = length-set ns b _ in
    let test : leads_to (node_at ns b).next i ≡ true = ap (λ (l : Option ℕ). leads_to l i) at_next ∙ leads-same i in
    let is : without ns i ≡ with_back a next (Some b) = rw (prev, test) refl in
    rw is (record {
      leaves = record {
        len = back-length a next (Some b) ∙ a_len;
        held = λ j. back-kept held_of a next (Some b) j (λ n. refl) ∙ kept held_of ns b j _ refl;
        child = λ j ne. back-kept (λ (n : Node). n.child) a next (Some b) j (λ n. refl) ∙ apart (λ (n : Node). n.child) ns b j _ ne;
        next = λ j ne. back-kept (λ (n : Node). n.next) a next (Some b) j (λ n. refl) ∙ apart (λ (n : Node). n.next) ns b j _ ne;
        prev = λ j ne. back-apart a next (Some b) j ne ∙ kept (λ (n : Node). n.prev) ns b j _ refl;
        prev_behind = λ j lt e. back-here a next (Some b) j e (omega (arith, lt, a_len));
      };
      child = back-kept (λ (n : Node). n.child) a next (Some b) b (λ n. refl) ∙ kept (λ (n : Node). n.child) ns b b _ refl;
      next = back-kept (λ (n : Node). n.next) a next (Some b) b (λ n. refl) ∙ here (λ (n : Node). n.next) ns b _ hb;
    })

-- ## A node gives its timer up

pub record Frees (old new : List Node) (i : ℕ) (free : Option ℕ) : Type 0 where
  pub len : length new ≡ length old
  pub held : (j : ℕ) → j ≢ i → held_at new j ≡ held_at old j
  pub held_here : held_at new i ≡ gone (held_at old i)
  pub child : (j : ℕ) → (node_at new j).child ≡ (node_at old j).child
  pub next : (j : ℕ) → j ≢ i → (node_at new j).next ≡ (node_at old j).next
  pub next_here : (node_at new i).next ≡ free
  pub prev : (j : ℕ) → (node_at new j).prev ≡ (node_at old j).prev

abbrev emptied : List Node → ℕ → List Node
emptied ns i = set ns i (record (node_at ns i) { waker = None })

pub frees : (ns : List Node) (i : ℕ) (free : Option ℕ) → i < length ns → Frees ns (put_on_free ns i free) i free
frees ns i free lt =
    let a : List Node = emptied ns i in
    let a_len : length a ≡ length ns = length-set ns i _ in
    record {
      len = length-set a i _ ∙ a_len;
      held = λ j ne. kept held_of a i j _ refl ∙ apart held_of ns i j _ ne;
      held_here = kept held_of a i i _ refl ∙ here held_of ns i _ lt;
      child = λ j. kept (λ (n : Node). n.child) a i j _ refl ∙ kept (λ (n : Node). n.child) ns i j _ refl;
      next = λ j ne. apart (λ (n : Node). n.next) a i j _ ne ∙ kept (λ (n : Node). n.next) ns i j _ refl;
      next_here = here (λ (n : Node). n.next) a i _ (omega (arith, lt, a_len));
      prev = λ j. kept (λ (n : Node). n.prev) a i j _ refl ∙ kept (λ (n : Node). n.prev) ns i j _ refl;
    }
