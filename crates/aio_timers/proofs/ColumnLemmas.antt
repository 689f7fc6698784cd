-- Reads and writes of one column are those of the row of nodes.
use Rattle.std.proofs.Common.{◌≡◌, ℕ, zero, suc, ◌<◌, List, [], ◌∷◌, ◌++◌, length, get_or, set, Vec, Option, None, Some, IfSome, refl, ap, sym, arith, ◌∙◌, length-set}
use Rattle.std.specs.Vec.{with_items}
use Rattle.std.proofs.lemmas.List.{get_or_default, get_or_read_under, with_items_is}
use Rattle.aio_timers.specs.declared.node.Node.{Node}
use Rattle.aio_timers.specs.declared.nodes.Entry.{Entry}
use Rattle.aio_timers.specs.declared.nodes.Siblings.{Siblings}
use Rattle.aio_timers.specs.Held.{node_at, blank_node}
use Rattle.aio_timers.specs.Writes.{with_child, with_next, with_prev, under, leads_or}
use Rattle.aio_timers.specs.Columns.{node_of, entry_of, siblings_of, nodes_of}

pub nodes-length : (es : List Entry) (ss : List Siblings) → length ss ≡ length es → length (nodes_of es ss) ≡ length es
nodes-length [] ss e = refl
nodes-length (x ∷ es) [] e = e
nodes-length (x ∷ es) (s ∷ ss) e = omega (arith, nodes-length es ss (omega (arith, e)))

pub nodes-read : (es : List Entry) (ss : List Siblings) (i : ℕ) → length ss ≡ length es → node_at (nodes_of es ss) i ≡ node_of (get_or es i (entry_of blank_node)) (get_or ss i (siblings_of blank_node))
nodes-read [] [] i e = refl
nodes-read [] (s ∷ ss) i e = absurd (omega (arith, e))
nodes-read (x ∷ es) [] i e = absurd (omega (arith, e))
nodes-read (x ∷ es) (s ∷ ss) zero e = refl
nodes-read (x ∷ es) (s ∷ ss) (suc i) e = nodes-read es ss i (omega (arith, e))

-- a write of both columns
pub nodes-set : (es : List Entry) (ss : List Siblings) (i : ℕ) (x : Entry) (s : Siblings) → nodes_of (set es i x) (set ss i s) ≡ set (nodes_of es ss) i (node_of x s)
nodes-set [] ss i x s = refl
nodes-set (y ∷ es) [] zero x s = refl
nodes-set (y ∷ es) [] (suc i) x s = refl
nodes-set (y ∷ es) (t ∷ ss) zero x s = refl
nodes-set (y ∷ es) (t ∷ ss) (suc i) x s = ap (λ (ns : List Node). node_of y t ∷ ns) (nodes-set es ss i x s)

-- a write of the first one
pub entry-set : (es : List Entry) (ss : List Siblings) (i : ℕ) (x : Entry) → length ss ≡ length es → nodes_of (set es i x) ss ≡ set (nodes_of es ss) i (node_of x (get_or ss i (siblings_of blank_node)))
entry-set [] ss i x e = refl
entry-set (y ∷ es) [] i x e = absurd (omega (arith, e))
entry-set (y ∷ es) (t ∷ ss) zero x e = refl
entry-set (y ∷ es) (t ∷ ss) (suc i) x e = ap (λ (ns : List Node). node_of y t ∷ ns) (entry-set es ss i x (omega (arith, e)))

-- a write of the second one
pub row-set : (es : List Entry) (ss : List Siblings) (i : ℕ) (s : Siblings) → length ss ≡ length es → nodes_of es (set ss i s) ≡ set (nodes_of es ss) i (node_of (get_or es i (entry_of blank_node)) s)
row-set [] [] i s e = refl
row-set [] (t ∷ ss) zero s e = refl
row-set [] (t ∷ ss) (suc i) s e = refl
row-set (y ∷ es) [] i s e = absurd (omega (arith, e))
row-set (y ∷ es) (t ∷ ss) zero s e = refl
row-set (y ∷ es) (t ∷ ss) (suc i) s e = ap (λ (ns : List Node). node_of y t ∷ ns) (row-set es ss i s (omega (arith, e)))

-- one more node
pub nodes-more : (es : List Entry) (ss : List Siblings) (x : Entry) (s : Siblings) → length ss ≡ length es → nodes_of (es ++ x ∷ []) (ss ++ s ∷ []) ≡ nodes_of es ss ++ node_of x s ∷ []
nodes-more [] [] x s e = refl
nodes-more [] (t ∷ ss) x s e = absurd (omega (arith, e))
nodes-more (y ∷ es) [] x s e = absurd (omega (arith, e))
nodes-more (y ∷ es) (t ∷ ss) x s e = ap (λ (ns : List Node). node_of y t ∷ ns) (nodes-more es ss x s (omega (arith, e)))

-- ## Writes of the row, by the slice of a column

pub rows_within : (es : List Entry) (ss xs : List Siblings) (ns : List Node) (i : ℕ) → length ss ≡ length es → nodes_of es ss ≡ ns → xs ≡ ss → i < length ns → i < length xs
rows_within es ss xs ns i e view is lt = omega (arith, lt, e, nodes-length es ss e, ap (λ (x : List Node). length x) view, ap (λ (x : List Siblings). length x) is)

pub entries_within : (es xs : List Entry) (ss : List Siblings) (ns : List Node) (i : ℕ) → length ss ≡ length es → nodes_of es ss ≡ ns → xs ≡ es → i < length ns → i < length xs
entries_within es xs ss ns i e view is lt = omega (arith, lt, e, nodes-length es ss e, ap (λ (x : List Node). length x) view, ap (λ (x : List Entry). length x) is)

pub row-written : (es : List Entry) (ss xs : List Siblings) (ns : List Node) (i : ℕ) (d : Siblings) (f : Siblings → Siblings) (g : Node → Node) → length ss ≡ length es → nodes_of es ss ≡ ns → xs ≡ ss → i < length ns
    → ((x : Entry) (s : Siblings) → node_of x (f s) ≡ g (node_of x s)) → nodes_of es (set xs i (f (get_or xs i d))) ≡ set ns i (g (node_at ns i))
row-written es ss xs ns i d f g e view is lt alike =
    rw (is, get_or_default ss i d (siblings_of blank_node) (rows_within es ss ss ns i e view refl lt), ← view, nodes-read es ss i e)
    (row-set es ss i (f (get_or ss i (siblings_of blank_node))) e ∙ ap (λ (n : Node). set (nodes_of es ss) i n) (alike (get_or es i (entry_of blank_node)) (get_or ss i (siblings_of blank_node))))

pub entry-written : (es xs : List Entry) (ss : List Siblings) (ns : List Node) (i : ℕ) (d : Entry) (f : Entry → Entry) (g : Node → Node) → length ss ≡ length es → nodes_of es ss ≡ ns → xs ≡ es → i < length ns
    → ((x : Entry) (s : Siblings) → node_of (f x) s ≡ g (node_of x s)) → nodes_of (set xs i (f (get_or xs i d))) ss ≡ set ns i (g (node_at ns i))
entry-written es xs ss ns i d f g e view is lt alike =
    rw (is, get_or_default es i d (entry_of blank_node) (entries_within es es ss ns i e view refl lt), ← view, nodes-read es ss i e)
    (entry-set es ss i (f (get_or es i (entry_of blank_node))) e ∙ ap (λ (n : Node). set (nodes_of es ss) i n) (alike (get_or es i (entry_of blank_node)) (get_or ss i (siblings_of blank_node))))

-- a node is what both columns have of it
pub node-told : (es : List Entry) (ss : List Siblings) (ns : List Node) (i : ℕ) (x : Entry) (s : Siblings) → length ss ≡ length es → nodes_of es ss ≡ ns → i < length ns → x ≡ get_or es i x → s ≡ get_or ss i s → node_of x s ≡ node_at ns i
node-told es ss ns i x s e view lt xs_is ss_is =
    let entry : x ≡ get_or es i (entry_of blank_node) = get_or_read_under es i (length es) x (entry_of blank_node) xs_is (entries_within es es ss ns i e view refl lt) refl in
    let row : s ≡ get_or ss i (siblings_of blank_node) = get_or_read_under ss i (length ss) s (siblings_of blank_node) ss_is (rows_within es ss ss ns i e view refl lt) refl in
    (λ j. node_of (entry j) (row j)) ∙ sym (nodes-read es ss i e) ∙ ap (λ (ms : List Node). node_at ms i) view

-- where the slices go back to their vectors

pub length-back : {X Z : Type 0} (v : Vec X Z) (xs ys : List X) → xs ≡ v.items → length xs ≡ v.len → length ys ≡ length xs → length (with_items v ys).items ≡ length v.items
length-back v xs ys is len same = ap length (with_items_is v ys (same ∙ len)) ∙ same ∙ ap length is

pub both-back : {Y Z : Type 0} (v : Vec Entry Y) (w : Vec Siblings Z) (xs : List Entry) (ys : List Siblings) (ns : List Node) (i : ℕ) (x : Entry) (s : Siblings) → nodes_of v.items w.items ≡ ns → xs ≡ v.items → length xs ≡ v.len → ys ≡ w.items → length ys ≡ w.len
    → nodes_of (with_items v (set xs i x)).items (with_items w (set ys i s)).items ≡ set ns i (node_of x s)
both-back v w xs ys ns i x s view xs_is xs_len ys_is ys_len =
    let entries = with_items_is v (set xs i x) (length-set xs i x ∙ xs_len) ∙ ap (λ (es : List Entry). set es i x) xs_is in
    let rows = with_items_is w (set ys i s) (length-set ys i s ∙ ys_len) ∙ ap (λ (ss : List Siblings). set ss i s) ys_is in
    (λ j. nodes_of (entries j) (rows j)) ∙ nodes-set v.items w.items i x s ∙ ap (λ (ms : List Node). set ms i (node_of x s)) view

pub row-back : {Z : Type 0} (es : List Entry) (v : Vec Siblings Z) (xs : List Siblings) (ns : List Node) (i : ℕ) (d : Siblings) (f : Siblings → Siblings) (g : Node → Node) → length v.items ≡ length es → nodes_of es v.items ≡ ns → xs ≡ v.items → length xs ≡ v.len → i < length ns
    → ((x : Entry) (s : Siblings) → node_of x (f s) ≡ g (node_of x s)) → nodes_of es (with_items v (set xs i (f (get_or xs i d)))).items ≡ set ns i (g (node_at ns i))
row-back es v xs ns i d f g e view is len lt alike = ap (nodes_of es) (with_items_is v (set xs i (f (get_or xs i d))) (length-set xs i _ ∙ len)) ∙ row-written es v.items xs ns i d f g e view is lt alike

pub entry-back : {Z : Type 0} (v : Vec Entry Z) (xs : List Entry) (ss : List Siblings) (ns : List Node) (i : ℕ) (d : Entry) (f : Entry → Entry) (g : Node → Node) → length ss ≡ length v.items → nodes_of v.items ss ≡ ns → xs ≡ v.items → length xs ≡ v.len → i < length ns
    → ((x : Entry) (s : Siblings) → node_of (f x) s ≡ g (node_of x s)) → nodes_of (with_items v (set xs i (f (get_or xs i d)))).items ss ≡ set ns i (g (node_at ns i))
entry-back v xs ss ns i d f g e view is len lt alike = ap (λ (es : List Entry). nodes_of es ss) (with_items_is v (set xs i (f (get_or xs i d))) (length-set xs i _ ∙ len)) ∙ entry-written v.items xs ss ns i d f g e view is lt alike

-- ## A node comes below another one

pub leads-inside : (l : Option ℕ) (i n : ℕ) → IfSome l (λ j. j < n) → i < n → leads_or l i < n
leads-inside None i n h lt = lt
leads-inside (Some j) i n h lt = h

pub child-read : (es xs : List Entry) (ss : List Siblings) (ns : List Node) (i : ℕ) (d : Entry) → length ss ≡ length es → nodes_of es ss ≡ ns → xs ≡ es → i < length ns → (get_or xs i d).child ≡ (node_at ns i).child
child-read es xs ss ns i d e view is lt =
    ap (λ (x : Entry). x.child) (ap (λ (ys : List Entry). get_or ys i d) is ∙ get_or_default es i d (entry_of blank_node) (entries_within es es ss ns i e view refl lt)) ∙ ap (λ (n : Node). n.child) (sym (nodes-read es ss i e) ∙ ap (λ (ms : List Node). node_at ms i) view)

-- where the node behind leads to, the first child of the parent or the node itself
pub behind-inside : (es xs : List Entry) (ss : List Siblings) (ns : List Node) (p i k : ℕ) (d : Entry) → length ss ≡ length es → nodes_of es ss ≡ ns → xs ≡ es → p < length ns → i < length ns → IfSome (node_at ns p).child (λ j. j < length ns) → k ≡ leads_or (get_or xs p d).child i → k < length ns
behind-inside es xs ss ns p i k d e view is hp hi first leads = rw (leads, child-read es xs ss ns p d e view is hp) (leads-inside (node_at ns p).child i (length ns) first hi)

pub set-within : {A : Type 0} (xs : List A) (i k : ℕ) (x : A) → k < length xs → k < length (set xs i x)
set-within xs i k x lt = omega (arith, lt, length-set xs i x)

abbrev pub on_to : List Siblings → ℕ → Siblings → Option ℕ → List Siblings
on_to ss i d l = set ss i (record (get_or ss i d) { next = l })

abbrev pub back_to : List Siblings → ℕ → Siblings → Option ℕ → List Siblings
back_to ss i d l = set ss i (record (get_or ss i d) { prev = l })

abbrev pub down_to : List Entry → ℕ → Entry → Option ℕ → List Entry
down_to es i d l = set es i (record (get_or es i d) { child = l })

under-columns : (es : List Entry) (ss : List Siblings) (ns : List Node) (p i k : ℕ) (d : Entry) (a b c : Siblings) (l t u w : Option ℕ) → length ss ≡ length es → nodes_of es ss ≡ ns → p < length ns → i < length ns → k < length ns
    → nodes_of (down_to es p d w) (back_to (back_to (on_to ss i a l) k b t) i c u) ≡ with_child (with_prev (with_prev (with_next ns i l) k t) i u) p w
under-columns es ss ns p i k d a b c l t u w e view hp hi hk =
    let one : List Siblings = on_to ss i a l in
    let two : List Siblings = back_to (on_to ss i a l) k b t in
    let three : List Siblings = back_to (back_to (on_to ss i a l) k b t) i c u in
    let len_one : length (on_to ss i a l) ≡ length es = length-set ss i _ ∙ e in
    let len_two : length (back_to (on_to ss i a l) k b t) ≡ length es = length-set one k _ ∙ len_one in
    let len_three : length (back_to (back_to (on_to ss i a l) k b t) i c u) ≡ length es = length-set two i _ ∙ len_two in
    let first : nodes_of es (on_to ss i a l) ≡ with_next ns i l = row-written es ss ss ns i a (λ (s : Siblings). record s { next = l }) (λ (n : Node). record n { next = l }) e view refl hi (λ x s. refl) in
    let ns_one : length (with_next ns i l) ≡ length ns = length-set ns i _ in
    let second : nodes_of es (back_to (on_to ss i a l) k b t) ≡ with_prev (with_next ns i l) k t = row-written es one one (with_next ns i l) k b (λ (s : Siblings). record s { prev = t }) (λ (n : Node). record n { prev = t }) len_one first refl (omega (arith, hk, ns_one)) (λ x s. refl) in
    let ns_two : length (with_prev (with_next ns i l) k t) ≡ length ns = length-set (with_next ns i l) k _ ∙ ns_one in
    let third : nodes_of es (back_to (back_to (on_to ss i a l) k b t) i c u) ≡ with_prev (with_prev (with_next ns i l) k t) i u =
    row-written es two two (with_prev (with_next ns i l) k t) i c (λ (s : Siblings). record s { prev = u }) (λ (n : Node). record n { prev = u }) len_two second refl (omega (arith, hi, ns_two)) (λ x s. refl) in
    let ns_three : length (with_prev (with_prev (with_next ns i l) k t) i u) ≡ length ns = length-set (with_prev (with_next ns i l) k t) i _ ∙ ns_two in
    entry-written es es three (with_prev (with_prev (with_next ns i l) k t) i u) p d (λ (x : Entry). record x { child = w }) (λ (n : Node). record n { child = w }) len_three third refl (omega (arith, hp, ns_three)) (λ x s. refl)

pub under-back : {Y Z : Type 0} (v : Vec Entry Y) (y : Vec Siblings Z) (es : List Entry) (ss : List Siblings) (ns : List Node) (p i k : ℕ) (d g : Entry) (a b c : Siblings) (t u w : Option ℕ) → length y.items ≡ length v.items → nodes_of v.items y.items ≡ ns → es ≡ v.items → length es ≡ v.len → ss ≡ y.items → length ss ≡ y.len
    → p < length ns → i < length ns → IfSome (node_at ns p).child (λ j. j < length ns) → k ≡ leads_or (get_or es p g).child i → t ≡ Some i → u ≡ Some p → w ≡ Some i
    → nodes_of (with_items v (down_to es p d w)).items (with_items y (back_to (back_to (on_to ss i a (get_or es p g).child) k b t) i c u)).items ≡ under ns p i
under-back v y es ss ns p i k d g a b c t u w e view es_is es_len ss_is ss_len hp hi inside leads ti up wi =
    let l : Option ℕ = (get_or es p g).child in
    let one : List Siblings = on_to ss i a l in
    let two : List Siblings = back_to one k b t in
    let entries = with_items_is v (down_to es p d w) (length-set es p _ ∙ es_len) in
    let rows = with_items_is y (back_to two i c u) (length-set two i _ ∙ length-set one k _ ∙ length-set ss i _ ∙ ss_len) in
    let same : length ss ≡ length es = omega (arith, e, ap (λ (x : List Entry). length x) es_is, ap (λ (x : List Siblings). length x) ss_is) in
    let seen : nodes_of es ss ≡ ns = (λ j. nodes_of (es_is j) (ss_is j)) ∙ view in
    let first : (get_or es p g).child ≡ (node_at ns p).child = child-read es es ss ns p g same seen refl hp in
    let behind : k ≡ leads_or (node_at ns p).child i = leads ∙ ap (λ (x : Option ℕ). leads_or x i) first in
    (λ j. nodes_of (entries j) (rows j)) ∙ under-columns es ss ns p i k d a b c l t u w same seen hp hi (behind-inside es es ss ns p i k g same seen refl hp hi inside leads)
    ∙ (λ j. with_child (with_prev (with_prev (with_next ns i (first j)) (behind j) (ti j)) i (up j)) p (wi j))
