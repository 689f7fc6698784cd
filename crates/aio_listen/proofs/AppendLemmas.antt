-- A node that joins the order at its end.
use Rattle.std.proofs.Common.{◌≡◌, ◌≢◌, ℕ, inl, inr, ◌+◌, ◌-◌, ◌^◌, ◌<◌, ◌≤◌, List, [], ◌∷◌, ◌++◌, Option, None, Some, IsSome, IfSome, arith, refl, sym, ap, subst, ◌∙◌}
use Rattle.std.proofs.lemmas.List.{length-append, map-append}
use Rattle.slab.specs.Slab.{Slab, get, slab_len}
use Rattle.aio_listen.specs.declared.node.Node.{Node}
use Rattle.aio_listen.specs.Links.{kept_if}
use Rattle.aio_listen.specs.Nodes.{node_in, node_at, with_next}
use Rattle.aio_listen.specs.Listening.{Entry}
use Rattle.aio_listen.specs.Order.{one_if_same, times, first_of, last_of, Chain, IsOrder, IsListed, Appended, entry_at, entries_at, entries_along}
use Rattle.aio_listen.proofs.KeyLemmas.{one-same, zero-other, same_or_other, there_or_not, leads_or_not, times-append, last_of-in, last_of-append}
use Rattle.aio_listen.proofs.NodeLemmas.{changed-here, changed-other, changed-len}
use Rattle.aio_listen.proofs.ChainLemmas.{Chain-join, Chain-present, Chain-led_on, keys_along-order}
use Rattle.aio_listen.proofs.PlaceLemmas.{entries_at-same, entry_at-read, entry_at-kept}
use Rattle.aio_listen.proofs.SoundLemmas.{IsSound-add}

pub IfSome-each : (link : Option ℕ) (Q : ℕ → Type 0) → ((j : ℕ) → link ≡ Some j → Q j) → IfSome link Q
IfSome-each None Q h = tt
IfSome-each (Some j) Q h = h j refl

first-kept : (keys : List ℕ) (first : Option ℕ) (k : ℕ) → first ≡ first_of keys None → kept_if first first (Some k) ≡ first_of (keys ++ k ∷ []) None
first-kept [] first k e = rw e refl
first-kept (j ∷ keys) first k e = rw e refl

module _ {W : Type 0} where
  -- the last node is there
  pub last-present : (s : Slab (Node W)) (first last : Option ℕ) (keys : List ℕ) → IsOrder s first last keys → (j : ℕ) → last ≡ Some j → IsSome (get s j)
  last-present s first last keys h j e = Chain-present s None keys None j h.chain (last_of-in keys j (sym h.last_is ∙ e))

  -- a listener that joined
  pub record Joined (s z : Slab (Node W)) (first last : Option ℕ) (keys : List ℕ) (k serial : ℕ) : Type 0 where
    pub order : IsOrder z (kept_if first first (Some k)) (Some k) (keys ++ k ∷ [])
    pub entries : entries_at z (keys ++ k ∷ []) ≡ entries_at s keys ++ (record { serial = serial; place = k }, None) ∷ []

  pub joined : (s z : Slab (Node W)) (first last : Option ℕ) (keys : List ℕ) (k serial : ℕ) → IsOrder s first last keys → Appended s z last k serial → Joined s z first last keys k serial
  joined s z first last keys k serial h a =
      let apart : (j : ℕ) → 0 < times j keys → j ≢ k = λ j c same. let held : IsSome (get s k) = subst (λ (i : ℕ). IsSome (get s i)) same (Chain-present s None keys None j h.chain c) in cc (a.vacant) in
      let out : times k keys ≡ 0 = elim (there_or_not (times k keys)) as (λ _. times k keys ≡ 0) [ inl c ↦ absurd (apart k c refl) | inr none ↦ none ] in
      let among : (j : ℕ) → last ≡ Some j → 0 < times j keys = λ j e. last_of-in keys j (sym h.last_is ∙ e) in
      let change : Node W → Node W = λ n. record n { next = Some k } in
      let read : (j : ℕ) → get z j ≡ get (with_next a.put last (Some k)) j = λ j. ap (λ (t : Slab (Node W)). get t j) a.linked in
      let kept : (j : ℕ) → 0 < times j keys → get a.put j ≡ get s j = λ j c. a.updates.others j (apart j c) in
      let there : (j : ℕ) → last ≡ Some j → IsSome (get a.put j) = λ j e. rw (kept j (among j e)) (last-present s first last keys h j e) in
      let same : (j : ℕ) → 0 < times j keys → last ≢ Some j → get z j ≡ get s j = λ j c ne. read j ∙ changed-other a.put last (λ (n : Node W). record n { next = Some k }) j ne ∙ kept j c in
      let here : (j : ℕ) → 0 < times j keys → last ≡ Some j → get z j ≡ Some (record (node_at s j) { next = Some k }) =
      λ j c e. read j ∙ changed-here a.put last (λ (n : Node W). record n { next = Some k }) j (there j e) e ∙ ap (λ (o : Option (Node W)). Some (record (node_in o) { next = Some k })) (kept j c) in
      let new : get z k ≡ Some (record { serial = serial; waker = None; previous = last; next = None }) =
      read k ∙ changed-other a.put last (λ (n : Node W). record n { next = Some k }) k (λ e. omega (arith, among k e, out)) ∙ a.updates.changed in
      let front : Chain z None keys (Some k) = Chain-led_on s z None keys None (Some k) h.once (λ j c ne. same j c (λ e. ne (sym h.last_is ∙ e))) (λ j c e. here j c (h.last_is ∙ e)) h.chain in
      let end : Chain z (last_of None keys) (k ∷ []) None = (
        record {
          here = rw new refl;
          previous = ap (λ (o : Option (Node W)). (node_in o).previous) new ∙ h.last_is;
          next = ap (λ (o : Option (Node W)). (node_in o).next) new;
        },
        tt,
      ) in
      record {
        order = record {
          chain = Chain-join z None keys (k ∷ []) None front end;
          first_is = first-kept keys first k h.first_is;
          last_is = sym (last_of-append None keys (k ∷ []));
          once = λ j. elim (same_or_other j k) as (λ _. times j (keys ++ k ∷ []) ≤ 1) [
            | inl e ↦ omega (arith, times-append j keys (k ∷ []), ap (λ (i : ℕ). times i keys) e, ap (λ (i : ℕ). one_if_same i k) e, one-same k, out)
            | inr ne ↦ omega (arith, times-append j keys (k ∷ []), ne, h.once j)
          ];
          reached = λ j held. elim (same_or_other j k) as (λ _. 0 < times j (keys ++ k ∷ [])) [
            | inl e ↦ omega (arith, times-append j keys (k ∷ []), ap (λ (i : ℕ). one_if_same i k) e, one-same k)
            | inr ne ↦ elim (leads_or_not last j) as (λ _. 0 < times j (keys ++ k ∷ [])) [
              | inl e ↦ omega (arith, times-append j keys (k ∷ []), among j e)
              | inr nl ↦
                  let as_was : get z j ≡ get s j = read j ∙ changed-other a.put last (λ (n : Node W). record n { next = Some k }) j nl ∙ a.updates.others j (zero-other j k ne) in
                  let held_before : IsSome (get s j) = subst (λ (o : Option (Node W)). IsSome o) as_was held in
                  omega (arith, times-append j keys (k ∷ []), h.reached j held_before)
            ]
          ];
          size = omega (arith, ap slab_len a.linked, changed-len a.put last (λ (n : Node W). record n { next = Some k }) there, a.len, h.size, length-append keys (k ∷ []));
        };
        entries = map-append (entry_at z) keys (k ∷ []) ∙ both {f = (record { serial = serial; place = k }, None)}
            (entries_at-same s z keys (λ j c. elim (leads_or_not last j) as (λ _. entry_at z j ≡ entry_at s j) [
              | inl e ↦ entry_at-read s z j (record (node_at s j) { next = Some k }) (here j c e) refl refl
              | inr ne ↦ entry_at-kept s z j (same j c ne)
            ]))
            (ap (λ (o : Option (Node W)). (record { serial = (node_in o).serial; place = k }, (node_in o).waker)) new);
      }
    where
      both : {es fs : List (Entry W)} {e f : Entry W} → es ≡ fs → e ≡ f → es ++ e ∷ [] ≡ fs ++ f ∷ []
      both p q = λ i. p i ++ q i ∷ []

  -- the list then
  pub record Grown (s z : Slab (Node W)) (first last : Option ℕ) (drawn waiting k : ℕ) : Type 0 where
    pub listed : IsListed z (kept_if first first (Some k)) (Some k) (drawn + 1) waiting
    pub entries : entries_along z (kept_if first first (Some k)) ≡ entries_along s first ++ (record { serial = drawn + 1; place = k }, None) ∷ []

  pub grown : (s z : Slab (Node W)) (first last : Option ℕ) (drawn waiting k : ℕ) → IsListed s first last drawn waiting → Appended s z last k (drawn + 1) → drawn + 1 < 2 ^ 64 → k < 2 ^ 32 - 1 → Grown s z first last drawn waiting k
  grown s z first last drawn waiting k h a lt fits =
      let j = joined s z first last h.keys k (drawn + 1) h.order a in
      record {
        listed = record {
          keys = h.keys ++ k ∷ [];
          order = j.order;
          sound = rw j.entries (IsSound-add (entries_at s h.keys) drawn waiting (record { serial = drawn + 1; place = k }) h.sound lt refl);
          fits = λ i c. elim (same_or_other i k) as (λ _. i < 2 ^ 32 - 1) [
            | inl e ↦ omega (arith, e, fits)
            | inr ne ↦ h.fits i (omega (arith, c, times-append i h.keys (k ∷ []), ne))
          ];
        };
        entries = ap (entries_at z) (keys_along-order z (kept_if first first (Some k)) (Some k) (h.keys ++ k ∷ []) j.order) ∙ j.entries
            ∙ ap (λ (ks : List ℕ). entries_at s ks ++ (record { serial = drawn + 1; place = k }, None) ∷ []) (sym (keys_along-order s first last h.keys h.order));
      }
