-- The walks of a drain: back until all wakers were seen, and forward to take them.
use Rattle.std.proofs.Common.{◌≡◌, ◌≢◌, ℕ, inl, inr, ◌+◌, ◌<◌, ◌≤◌, List, [], ◌∷◌, ◌++◌, length, Option, None, Some, IsSome, arith, refl, sym, ap, subst, append_assoc, ◌∙◌}
use Rattle.std.specs.Prelude.{option_to_list}
use Rattle.std.proofs.lemmas.List.{length-append, append-nil, map-append}
use Rattle.slab.specs.Slab.{Slab, get, slab_len}
use Rattle.aio_listen.specs.declared.node.Node.{Node}
use Rattle.aio_listen.specs.Nodes.{node_in, node_at, with_node}
use Rattle.aio_listen.specs.Listening.{Entry, wakers_of, emptied}
use Rattle.aio_listen.specs.Order.{one_if_same, times, first_of, last_of, Stands, Chain, IsOrder, IsListed, IsTail, Seen, Taken, Taking, entry_at, entries_at, entries_along}
use Rattle.aio_listen.proofs.KeyLemmas.{one-same, zero-other, same_or_other, there_or_not, times-append, last_of-told, ending, Ending}
use Rattle.aio_listen.proofs.NodeLemmas.{written-here, written-other, written-len}
use Rattle.aio_listen.proofs.ChainLemmas.{Chain-parts, Chain-present, SameBut, SameBut-kept, SameBut-waker, IsOrder-but, keys_along-order}
use Rattle.aio_listen.proofs.PlaceLemmas.{entries_at-same, entry_at-kept, length-parted}
use Rattle.aio_listen.proofs.SoundLemmas.{IsSound-emptied}
use Rattle.aio_listen.proofs.DrainLemmas.{wakers_at-append, wakers_at-last, length-wakers_at, emptied-none, no-wakers}

module _ {W : Type 0} where
  pub Seen-start : (s : Slab (Node W)) (first last : Option ℕ) (keys : List ℕ) (waiting : ℕ) → IsOrder s first last keys → waiting ≡ length (wakers_of (entries_at s keys)) → Seen s keys last None waiting 0
  Seen-start s first last keys waiting h w = record { front = keys; back = []; parts = sym (append-nil keys); before = h.last_is; behind = refl; waiting = w; size = refl }

  -- or all at once
  pub Seen-whole : (s : Slab (Node W)) (first last : Option ℕ) (keys : List ℕ) (steps : ℕ) → IsOrder s first last keys → steps ≡ length keys → Seen s keys None first 0 steps
  Seen-whole s first last keys steps h all = record { front = []; back = keys; parts = refl; before = refl; behind = h.first_is; waiting = refl; size = all }

  -- one node further back
  pub record Back (s : Slab (Node W)) (keys : List ℕ) (k left steps : ℕ) : Type 0 where
    pub here : IsSome (get s k)
    pub enough : length (option_to_list (node_at s k).waker) ≤ left
    pub seen : (less : ℕ) → less + length (option_to_list (node_at s k).waker) ≡ left → Seen s keys (node_at s k).previous (Some k) less (steps + 1)

  pub back : (s : Slab (Node W)) (first last : Option ℕ) (keys : List ℕ) (k : ℕ) (start : Option ℕ) (left steps : ℕ) → IsOrder s first last keys → Seen s keys (Some k) start left steps → Back s keys k left steps
  back s first last keys k start left steps h c = go c.front c.parts c.before c.waiting
    where
      go : (front : List ℕ) → keys ≡ front ++ c.back → Some k ≡ last_of None front → left ≡ length (wakers_of (entries_at s front)) → Back s keys k left steps
      go [] parts before waiting = absurd cc
      go (j ∷ js) parts before waiting =
          let e : Ending (j ∷ js) k = ending None j js k (sym before) in
          let whole : keys ≡ e.rest ++ k ∷ c.back = parts ∙ ap (λ (ks : List ℕ). ks ++ c.back) e.is ∙ append_assoc e.rest (k ∷ []) c.back in
          let own : Stands s k (last_of None e.rest) (first_of c.back None) = (Chain-parts s None e.rest (k ∷ c.back) None (subst (λ (ks : List ℕ). Chain s None ks None) whole h.chain)).1.0 in
          let wakers : length (wakers_of (entries_at s e.rest)) + length (option_to_list (node_at s k).waker) ≡ length (wakers_of (entries_at s (j ∷ js))) =
          omega (arith, length-parted s e.rest k [], ap (λ (ks : List ℕ). length (wakers_of (entries_at s ks))) (append-nil e.rest), ap (λ (ks : List ℕ). length (wakers_of (entries_at s ks))) e.is) in
          record {
            here = own.here;
            enough = omega (arith, waiting, wakers);
            seen = λ less fewer. record {
              front = e.rest;
              back = k ∷ c.back;
              parts = whole;
              before = own.previous;
              behind = refl;
              waiting = omega (arith, waiting, wakers, fewer);
              size = omega (arith, c.size);
            };
          }

  -- where no node is left, or as many were seen as there are, nothing is left to see
  pub Seen-none : (s : Slab (Node W)) (keys : List ℕ) (start : Option ℕ) (left steps : ℕ) → Seen s keys None start left steps → left ≡ 0
  Seen-none s keys start left steps c = go c.front c.before c.waiting
    where
      go : (front : List ℕ) → None ≡ last_of None front → left ≡ length (wakers_of (entries_at s front)) → left ≡ 0
      go [] before waiting = waiting
      go (j ∷ js) before waiting = let told = last_of-told None j js in absurd (cc (told.1))

  pub Seen-all : (s : Slab (Node W)) (keys : List ℕ) (at start : Option ℕ) (left steps : ℕ) → Seen s keys at start left steps → length keys ≤ steps → left ≡ 0
  Seen-all s keys at start left steps c all = go c.front c.parts c.waiting
    where
      go : (front : List ℕ) → keys ≡ front ++ c.back → left ≡ length (wakers_of (entries_at s front)) → left ≡ 0
      go [] parts waiting = waiting
      go (j ∷ js) parts waiting = absurd (omega (arith, all, c.size, ap length parts, length-append (j ∷ js) c.back))

  -- from there on the order ends as it did
  pub Seen-tail : (s : Slab (Node W)) (first last : Option ℕ) (keys : List ℕ) (at start : Option ℕ) (left steps : ℕ) → IsOrder s first last keys → (c : Seen s keys at start left steps) → IsTail s start steps c.back
  Seen-tail s first last keys at start left steps h c = record {
    before = last_of None c.front;
    chain = (Chain-parts s None c.front c.back None (subst (λ (ks : List ℕ). Chain s None ks None) c.parts h.chain)).1;
    start_is = c.behind;
    once = λ j. omega (arith, h.once j, ap (times j) c.parts, times-append j c.front c.back);
    size = sym c.size;
  }

  pub Taking-start : (s : Slab (Node W)) (start : Option ℕ) (steps : ℕ) (keys : List ℕ) (out : List W) → IsTail s start steps keys → Taking s s keys start 0 out out
  Taking-start s start steps keys out h = record {
    front = [];
    back = keys;
    parts = refl;
    at_is = h.start_is;
    taken = record { emptied = λ j c. absurd (omega (arith, c)); kept = λ j c. refl; len = refl; pushed = sym (append-nil out) };
    size = refl;
  }

  -- one node further on
  pub record On (s z : Slab (Node W)) (keys : List ℕ) (k steps : ℕ) (out more : List W) : Type 0 where
    pub here : IsSome (get z k)
    pub room : length more + length (option_to_list (node_at z k).waker) ≤ length out + length (wakers_of (entries_at s keys))
    pub taking : (y : Slab (Node W)) → y ≡ with_node z k (record (node_at z k) { waker = None }) → Taking s y keys (node_at z k).next (steps + 1) out (more ++ option_to_list (node_at z k).waker)

  pub on : (s z : Slab (Node W)) (start : Option ℕ) (all : ℕ) (keys : List ℕ) (k steps : ℕ) (out more : List W) → IsTail s start all keys → Taking s z keys (Some k) steps out more → On s z keys k steps out more
  on s z start all keys k steps out more h d = go d.back d.parts d.at_is
    where
      go : (back : List ℕ) → keys ≡ d.front ++ back → Some k ≡ first_of back None → On s z keys k steps out more
      go [] parts at = absurd cc
      go (j ∷ rest) parts at = step (parts ∙ ap (λ (i : ℕ). d.front ++ i ∷ rest) (let same : j ≡ k = cc in same))
        where
          step : keys ≡ d.front ++ k ∷ rest → On s z keys k steps out more
          step whole =
              let once : (i : ℕ) → times i d.front + (one_if_same i k + times i rest) ≤ 1 = λ i. omega (arith, h.once i, ap (times i) whole, times-append i d.front (k ∷ rest)) in
              let own : Stands s k (last_of h.before d.front) (first_of rest None) = (Chain-parts s h.before d.front (k ∷ rest) None (subst (λ (ks : List ℕ). Chain s h.before ks None) whole h.chain)).1.0 in
              let same : get z k ≡ get s k = d.taken.kept k (omega (arith, once k, one-same k)) in
              let node : node_at z k ≡ node_at s k = ap node_in same in
              let held : IsSome (get z k) = rw same own.here in
              let all_parts : keys ≡ (d.front ++ k ∷ []) ++ rest = whole ∙ sym (append_assoc d.front (k ∷ []) rest) in
              let waker : length (option_to_list (node_at z k).waker) ≡ length (option_to_list (node_at s k).waker) = ap (λ (n : Node W). length (option_to_list n.waker)) node in
              record {
                here = held;
                room = omega (
                  arith,
                  waker,
                  ap length d.taken.pushed,
                  length-append out (wakers_of (entries_at s d.front)),
                  ap (λ (ks : List ℕ). length (wakers_of (entries_at s ks))) whole,
                  length-parted s d.front k rest,
                  length-wakers_at s d.front rest,
                );
                taking = λ y is.
                    let here : get y k ≡ Some (record (node_at z k) { waker = None }) = ap (λ (t : Slab (Node W)). get t k) is ∙ written-here z k (record (node_at z k) { waker = None }) held in
                    let other : (i : ℕ) → i ≢ k → get y i ≡ get z i = λ i ne. ap (λ (t : Slab (Node W)). get t i) is ∙ written-other z k (record (node_at z k) { waker = None }) i ne in
                    record {
                      front = d.front ++ k ∷ [];
                      back = rest;
                      parts = all_parts;
                      at_is = ap (λ (n : Node W). n.next) node ∙ own.next;
                      taken = record {
                        emptied = λ i c. elim (same_or_other i k) as (λ _. get y i ≡ Some (record (node_at s i) { waker = None })) [
                          | inl e ↦ rw e (here ∙ ap (λ (n : Node W). Some (record n { waker = None })) node)
                          | inr ne ↦ other i (zero-other i k ne) ∙ d.taken.emptied i (omega (arith, c, ne, times-append i d.front (k ∷ [])))
                        ];
                        kept = λ i c. other i (zero-other i k (omega (arith, c, times-append i d.front (k ∷ [])))) ∙ d.taken.kept i (omega (arith, c, times-append i d.front (k ∷ [])));
                        len = ap slab_len is ∙ written-len z k (record (node_at z k) { waker = None }) held ∙ d.taken.len;
                        pushed = ap (λ (ws : List W). ws ++ option_to_list (node_at z k).waker) d.taken.pushed ∙ append_assoc out (wakers_of (entries_at s d.front)) (option_to_list (node_at z k).waker)
                            ∙ ap (λ (n : Node W). out ++ (wakers_of (entries_at s d.front) ++ option_to_list n.waker)) node ∙ ap (λ (ws : List W). out ++ ws) (sym (wakers_at-last s d.front k));
                      };
                      size = omega (arith, d.size, length-append d.front (k ∷ []));
                    };
              }

  -- while steps are left there is a node, and behind them all is taken
  pub Taking-none : (s z : Slab (Node W)) (start : Option ℕ) (all : ℕ) (keys : List ℕ) (steps : ℕ) (out more : List W) → IsTail s start all keys → Taking s z keys None steps out more → steps < all → ⊥
  Taking-none s z start all keys steps out more h d lt = go d.back d.parts d.at_is
    where
      go : (back : List ℕ) → keys ≡ d.front ++ back → None ≡ first_of back None → ⊥
      go [] parts at = omega (arith, h.size, lt, d.size, ap length parts, length-append d.front [])
      go (j ∷ rest) parts at = cc

  pub Taking-end : (s z : Slab (Node W)) (start : Option ℕ) (all : ℕ) (keys : List ℕ) (at : Option ℕ) (steps : ℕ) (out more : List W) → IsTail s start all keys → Taking s z keys at steps out more → all ≤ steps → Taken s z keys out more
  Taking-end s z start all keys at steps out more h d le = go d.back d.parts
    where
      go : (back : List ℕ) → keys ≡ d.front ++ back → Taken s z keys out more
      go [] parts = rw (parts ∙ append-nil d.front) d.taken
      go (j ∷ rest) parts = absurd (omega (arith, h.size, le, d.size, ap length parts, length-append d.front (j ∷ rest)))

  -- the list once its wakers were taken
  pub record Drained (s z : Slab (Node W)) (first last : Option ℕ) (drawn : ℕ) (out more : List W) : Type 0 where
    pub listed : IsListed z first last drawn 0
    pub entries : entries_along z first ≡ emptied (entries_along s first)
    pub pushed : more ≡ out ++ wakers_of (entries_along s first)

  entries_at-emptied : (s z : Slab (Node W)) (ks : List ℕ) → ((j : ℕ) → 0 < times j ks → get z j ≡ Some (record (node_at s j) { waker = None })) → entries_at z ks ≡ emptied (entries_at s ks)
  entries_at-emptied s z [] gone = refl
  entries_at-emptied s z (k ∷ ks) gone =
      let here : entry_at z k ≡ ((entry_at s k).0, None) = ap (λ (o : Option (Node W)). (record { serial = (node_in o).serial; place = k }, (node_in o).waker)) (gone k (omega (arith, one-same k))) in
      let rest = entries_at-emptied s z ks (λ j c. gone j (omega (arith, c))) in
      λ i. here i ∷ rest i

  pub drained : (s z : Slab (Node W)) (first last : Option ℕ) (drawn waiting : ℕ) (at start : Option ℕ) (steps : ℕ) (out more : List W) → (h : IsListed s first last drawn waiting)
      → (c : Seen s h.keys at start 0 steps) → Taken s z c.back out more → Drained s z first last drawn out more
  drained s z first last drawn waiting at start steps out more h c d =
      let once : (j : ℕ) → times j c.front + times j c.back ≤ 1 = λ j. omega (arith, h.order.once j, ap (times j) c.parts, times-append j c.front c.back) in
      let present : (j : ℕ) → 0 < times j c.back → IsSome (get s j) = λ j m. Chain-present s None h.keys None j h.order.chain (omega (arith, m, ap (times j) c.parts, times-append j c.front c.back)) in
      let same : (j : ℕ) → SameBut s z j = λ j. elim (there_or_not (times j c.back)) as (λ _. SameBut s z j) [
        | inl m ↦ SameBut-waker s z j None (present j m) (d.emptied j m)
        | inr none ↦ SameBut-kept s z j (d.kept j none)
      ] in
      let order : IsOrder z first last h.keys = IsOrder-but s z first last h.keys same d.len h.order in
      let front : entries_at z c.front ≡ emptied (entries_at s c.front) =
      entries_at-same s z c.front (λ j m. entry_at-kept s z j (d.kept j (omega (arith, once j, m)))) ∙ sym (emptied-none (entries_at s c.front) (sym c.waiting)) in
      let back : entries_at z c.back ≡ emptied (entries_at s c.back) = entries_at-emptied s z c.back d.emptied in
      let parts : entries_at z (c.front ++ c.back) ≡ emptied (entries_at s c.front) ++ emptied (entries_at s c.back) = map-append (entry_at z) c.front c.back ∙ (λ i. front i ++ back i) in
      let whole : emptied (entries_at s (c.front ++ c.back)) ≡ emptied (entries_at s c.front) ++ emptied (entries_at s c.back) =
      ap emptied (map-append (entry_at s) c.front c.back) ∙ map-append (λ (e : Entry W). (e.0, None)) (entries_at s c.front) (entries_at s c.back) in
      let entries : entries_at z h.keys ≡ emptied (entries_at s h.keys) = ap (entries_at z) c.parts ∙ parts ∙ sym whole ∙ ap (λ (ks : List ℕ). emptied (entries_at s ks)) (sym c.parts) in
      let wakers : wakers_of (entries_at s h.keys) ≡ wakers_of (entries_at s c.back) =
      ap (λ (ks : List ℕ). wakers_of (entries_at s ks)) c.parts ∙ wakers_at-append s c.front c.back ∙ ap (λ (ws : List W). ws ++ wakers_of (entries_at s c.back)) (no-wakers (wakers_of (entries_at s c.front)) (sym c.waiting)) in
      let along = keys_along-order s first last h.keys h.order in
      record {
        listed = record { keys = h.keys; order = order; sound = rw entries (IsSound-emptied (entries_at s h.keys) drawn waiting h.sound); fits = h.fits };
        entries = ap (entries_at z) (keys_along-order z first last h.keys order) ∙ entries ∙ ap (λ (ks : List ℕ). emptied (entries_at s ks)) (sym along);
        pushed = d.pushed ∙ ap (λ (ws : List W). out ++ ws) (sym wakers ∙ ap (λ (ks : List ℕ). wakers_of (entries_at s ks)) (sym along));
      }
