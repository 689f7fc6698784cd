-- A node that leaves the order.
use Rattle.std.proofs.Common.{◌≡◌, ◌≢◌, ℕ, inl, inr, ◌+◌, ◌-◌, ◌^◌, ◌<◌, ◌≤◌, true, false, List, [], ◌∷◌, ◌++◌, length, Option, None, Some, IsSome, arith, refl, sym, ap, subst, eqb-true, ◌∙◌}
use Rattle.std.specs.Prelude.{option_to_list}
use Rattle.std.proofs.lemmas.List.{length-append, append-nil}
use Rattle.slab.specs.Slab.{Slab, get, slab_len}
use Rattle.aio_listen.specs.declared.node.Node.{Node}
use Rattle.aio_listen.specs.declared.ticket.Ticket.{Ticket}
use Rattle.aio_listen.specs.Links.{kept_if}
use Rattle.aio_listen.specs.Nodes.{node_in, node_at, with_next, with_previous, slot_emptied, unlinked}
use Rattle.aio_listen.specs.Listening.{Holds, has_ticket, IsSound, SerialsRise, without}
use Rattle.aio_listen.specs.Order.{one_if_same, times, first_of, last_of, Stands, Chain, IsOrder, IsListed, IsLinked, entry_at, entries_at, entries_along}
use Rattle.aio_listen.proofs.EntryLemmas.{SerialsRise-lower}
use Rattle.aio_listen.proofs.KeyLemmas.{zero-other, same_or_other, there_or_not, leads_or_not, times-append, first_of-in, last_of-in, last_of-append, last_of-told, parted}
use Rattle.aio_listen.proofs.NodeLemmas.{changed-here, changed-other, changed-len, released-here, released-other, released-len}
use Rattle.aio_listen.proofs.ChainLemmas.{Chain-parts, Chain-join, Chain-present, Chain-led_on, Chain-led_back, keys_along-order}
use Rattle.aio_listen.proofs.PlaceLemmas.{entries_at-same, entry_at-read, entry_at-kept, has_ticket-in, has_ticket-out, without-parted, length-parted}

first-left : (front : List ℕ) (k : ℕ) (back : List ℕ) (first : Option ℕ) → first ≡ first_of (front ++ k ∷ back) None → kept_if (last_of None front) first (first_of back None) ≡ first_of (front ++ back) None
first-left [] k back first e = refl
first-left (j ∷ front) k back first e = let told = last_of-told None j front in rw (told.1) e

last-left : (front : List ℕ) (k : ℕ) (back : List ℕ) (last : Option ℕ) → last ≡ last_of None (front ++ k ∷ back) → kept_if (first_of back None) last (last_of None front) ≡ last_of None (front ++ back)
last-left front k [] last e = ap (λ (ks : List ℕ). last_of None ks) (sym (append-nil front))
last-left front k (j ∷ back) last e = e ∙ last_of-append None front (k ∷ j ∷ back) ∙ sym (last_of-append None front (j ∷ back))

module _ {W : Type 0} where
  -- the order without a key in its middle or at an end
  pub record Parting (s z : Slab (Node W)) (first last : Option ℕ) (front : List ℕ) (k : ℕ) (back : List ℕ) : Type 0 where
    pub order : IsOrder z (kept_if (last_of None front) first (first_of back None)) (kept_if (first_of back None) last (last_of None front)) (front ++ back)
    pub entries : entries_at z (front ++ back) ≡ entries_at s (front ++ back)

  parting : (s z : Slab (Node W)) (first last : Option ℕ) (front : List ℕ) (k : ℕ) (back : List ℕ) → IsOrder s first last (front ++ k ∷ back)
      → z ≡ with_previous (with_next (slot_emptied s k) (last_of None front) (first_of back None)) (first_of back None) (last_of None front) → Parting s z first last front k back
  parting s z first last front k back h is =
      let P : Option ℕ = last_of None front in
      let N : Option ℕ = first_of back None in
      let parts = Chain-parts s None front (k ∷ back) None h.chain in
      let own : Stands s k (last_of None front) (first_of back None) = parts.1.0 in
      let once : (j : ℕ) → times j front + (one_if_same j k + times j back) ≤ 1 = λ j. omega (arith, h.once j, times-append j front (k ∷ back)) in
      let in_front : (j : ℕ) → last_of None front ≡ Some j → 0 < times j front = λ j e. last_of-in front j e in
      let in_back : (j : ℕ) → first_of back None ≡ Some j → 0 < times j back = λ j e. first_of-in back j e in
      let read : (j : ℕ) → get z j ≡ get (with_previous (with_next (slot_emptied s k) (last_of None front) (first_of back None)) (first_of back None) (last_of None front)) j = λ j. ap (λ (t : Slab (Node W)). get t j) is in
      let past_back : (j : ℕ) → first_of back None ≢ Some j → get z j ≡ get (with_next (slot_emptied s k) (last_of None front) (first_of back None)) j =
      λ j ne. read j ∙ changed-other (with_next (slot_emptied s k) (last_of None front) (first_of back None)) (first_of back None) (λ (n : Node W). record n { previous = last_of None front }) j ne in
      let past_front : (j : ℕ) → last_of None front ≢ Some j → get (with_next (slot_emptied s k) (last_of None front) (first_of back None)) j ≡ get (slot_emptied s k) j =
      λ j ne. changed-other (slot_emptied s k) (last_of None front) (λ (n : Node W). record n { next = first_of back None }) j ne in
      let kept : (j : ℕ) → 0 < times j front + times j back → get (slot_emptied s k) j ≡ get s j = λ j c. released-other s k j (zero-other j k (omega (arith, once j, c))) in
      let there : (j : ℕ) → 0 < times j front + times j back → IsSome (get (slot_emptied s k) j) =
      λ j c. rw (kept j c) (Chain-present s None (front ++ k ∷ back) None j h.chain (omega (arith, c, times-append j front (k ∷ back)))) in
      let front_same : (j : ℕ) → 0 < times j front → last_of None front ≢ Some j → get z j ≡ get s j =
      λ j c ne. past_back j (λ e. omega (arith, in_back j e, once j, c)) ∙ past_front j ne ∙ kept j (omega (arith, c)) in
      let front_here : (j : ℕ) → 0 < times j front → last_of None front ≡ Some j → get z j ≡ Some (record (node_at s j) { next = first_of back None }) =
      λ j c e. past_back j (λ e. omega (arith, in_back j e, once j, c)) ∙ changed-here (slot_emptied s k) (last_of None front) (λ (n : Node W). record n { next = first_of back None }) j (there j (omega (arith, c))) e
      ∙ ap (λ (o : Option (Node W)). Some (record (node_in o) { next = first_of back None })) (kept j (omega (arith, c))) in
      let back_read : (j : ℕ) → 0 < times j back → get (with_next (slot_emptied s k) (last_of None front) (first_of back None)) j ≡ get s j =
      λ j c. past_front j (λ e. omega (arith, in_front j e, once j, c)) ∙ kept j (omega (arith, c)) in
      let back_there : (j : ℕ) → 0 < times j back → IsSome (get (with_next (slot_emptied s k) (last_of None front) (first_of back None)) j) =
      λ j c. rw (past_front j (λ e. omega (arith, in_front j e, once j, c))) (there j (omega (arith, c))) in
      let back_same : (j : ℕ) → 0 < times j back → first_of back None ≢ Some j → get z j ≡ get s j = λ j c ne. past_back j ne ∙ back_read j c in
      let back_here : (j : ℕ) → 0 < times j back → first_of back None ≡ Some j → get z j ≡ Some (record (node_at s j) { previous = last_of None front }) =
      λ j c e. read j ∙ changed-here (with_next (slot_emptied s k) (last_of None front) (first_of back None)) (first_of back None) (λ (n : Node W). record n { previous = last_of None front }) j (back_there j c) e
      ∙ ap (λ (o : Option (Node W)). Some (record (node_in o) { previous = last_of None front })) (back_read j c) in
      let new_front : Chain z None front (first_of back None) = Chain-led_on s z None front (Some k) (first_of back None) (λ j. omega (arith, once j)) front_same front_here parts.0 in
      let new_back : Chain z (last_of None front) back None = Chain-led_back s z (Some k) (last_of None front) back (λ j. omega (arith, once j)) back_same back_here parts.1.1 in
      record {
        order = record {
          chain = Chain-join z None front back None new_front new_back;
          first_is = first-left front k back first h.first_is;
          last_is = last-left front k back last h.last_is;
          once = λ j. omega (arith, once j, times-append j front back);
          reached = λ j held. elim (leads_or_not (first_of back None) j) as (λ _. 0 < times j (front ++ back)) [
            | inl e ↦ omega (arith, in_back j e, times-append j front back)
            | inr nb ↦ elim (leads_or_not (last_of None front) j) as (λ _. 0 < times j (front ++ back)) [
              | inl e ↦ omega (arith, in_front j e, times-append j front back)
              | inr nf ↦
                  let left : IsSome (get (slot_emptied s k) j) = subst (λ (o : Option (Node W)). IsSome o) (past_back j nb ∙ past_front j nf) held in
                  elim (same_or_other j k) as (λ _. 0 < times j (front ++ back)) [
                    | inl e ↦
                        let gone : get (slot_emptied s k) k ≡ None = released-here s k own.here in
                        let still : IsSome (get (slot_emptied s k) k) = subst (λ (i : ℕ). IsSome (get (slot_emptied s k) i)) e left in
                        absurd cc
                    | inr ne ↦
                        let held_before : IsSome (get s j) = subst (λ (o : Option (Node W)). IsSome o) (released-other s k j (zero-other j k ne)) left in
                        omega (arith, h.reached j held_before, times-append j front (k ∷ back), times-append j front back, ne)
                  ]
            ]
          ];
          size = omega (
            arith,
            ap slab_len is,
            changed-len (with_next (slot_emptied s k) (last_of None front) (first_of back None)) (first_of back None) (λ (n : Node W). record n { previous = last_of None front }) (λ j e. back_there j (in_back j e)),
            changed-len (slot_emptied s k) (last_of None front) (λ (n : Node W). record n { next = first_of back None }) (λ j e. there j (omega (arith, in_front j e))),
            released-len s k own.here,
            h.size,
            length-append front (k ∷ back),
            length-append front back,
          );
        };
        entries = entries_at-same s z (front ++ back) (λ j c. elim (there_or_not (times j front)) as (λ _. entry_at z j ≡ entry_at s j) [
          | inl in_f ↦ elim (leads_or_not (last_of None front) j) as (λ _. entry_at z j ≡ entry_at s j) [
            | inl e ↦ entry_at-read s z j (record (node_at s j) { next = first_of back None }) (front_here j in_f e) refl refl
            | inr ne ↦ entry_at-kept s z j (front_same j in_f ne)
          ]
          | inr none ↦
              let in_b : 0 < times j back = omega (arith, c, none, times-append j front back) in
              elim (leads_or_not (first_of back None) j) as (λ _. entry_at z j ≡ entry_at s j) [
                | inl e ↦ entry_at-read s z j (record (node_at s j) { previous = last_of None front }) (back_here j in_b e) refl refl
                | inr ne ↦ entry_at-kept s z j (back_same j in_b ne)
              ]
        ]);
      }

  -- the neighbours of a node of the order are there
  pub linked-parted : (s : Slab (Node W)) (first last : Option ℕ) (front : List ℕ) (k : ℕ) (back : List ℕ) → IsOrder s first last (front ++ k ∷ back) → IsLinked s k
  linked-parted s first last front k back h =
      let own : Stands s k (last_of None front) (first_of back None) = (Chain-parts s None front (k ∷ back) None h.chain).1.0 in
      let there : (j : ℕ) → 0 < times j front + times j back → IsSome (get (slot_emptied s k) j) =
      λ j c. rw (released-other s k j (zero-other j k (omega (arith, h.once j, times-append j front (k ∷ back), c)))) (Chain-present s None (front ++ k ∷ back) None j h.chain (omega (arith, c, times-append j front (k ∷ back)))) in
      record {
        here = own.here;
        previous = λ j e. there j (omega (arith, last_of-in front j (sym own.previous ∙ e)));
        next = λ j e. there j (omega (arith, first_of-in back j (sym own.next ∙ e)));
      }

  -- a ticket that a list holds is the key and the serial of one of its nodes
  pub record IsThere (s : Slab (Node W)) (keys : List ℕ) (t : Ticket) : Type 0 where
    pub among : 0 < times t.place keys
    pub serial : (node_at s t.place).serial ≡ t.serial

  pub there : (s : Slab (Node W)) (first last : Option ℕ) (drawn waiting : ℕ) (t : Ticket) (h : IsListed s first last drawn waiting) → Holds (entries_along s first) t → IsThere s h.keys t
  there s first last drawn waiting t h held =
      let at_keys : has_ticket (entries_at s h.keys) t ≡ true = ap (λ (ks : List ℕ). has_ticket (entries_at s ks) t) (sym (keys_along-order s first last h.keys h.order)) ∙ held in
      elim (there_or_not (times t.place h.keys)) as (λ _. IsThere s h.keys t) [
        | inl c ↦ record { among = c; serial = eqb-true (node_at s t.place).serial t.serial (sym (has_ticket-in s h.keys t h.order.once c) ∙ at_keys) }
        | inr none ↦ let out : has_ticket (entries_at s h.keys) t ≡ false = has_ticket-out s h.keys t none in absurd cc
      ]

  SerialsRise-parted : (s : Slab (Node W)) (low : ℕ) (front : List ℕ) (k : ℕ) (back : List ℕ) (drawn : ℕ) → SerialsRise low (entries_at s (front ++ k ∷ back)) drawn → SerialsRise low (entries_at s (front ++ back)) drawn
  SerialsRise-parted s low [] k back drawn h = SerialsRise-lower (node_at s k).serial low (entries_at s back) drawn (omega (arith, h.0)) h.1
  SerialsRise-parted s low (j ∷ front) k back drawn h = (h.0, SerialsRise-parted s (node_at s j).serial front k back drawn h.1)

  -- the list without the listener
  pub record Shrunk (s z : Slab (Node W)) (first last : Option ℕ) (drawn waiting : ℕ) (t : Ticket) : Type 0 where
    pub enough : length (option_to_list (node_at s t.place).waker) ≤ waiting
    pub listed : (left : ℕ) → left + length (option_to_list (node_at s t.place).waker) ≡ waiting
        → IsListed z (kept_if (node_at s t.place).previous first (node_at s t.place).next) (kept_if (node_at s t.place).next last (node_at s t.place).previous) drawn left
    pub entries : entries_along z (kept_if (node_at s t.place).previous first (node_at s t.place).next) ≡ without (entries_along s first) t

  shrunk-parted : (s z : Slab (Node W)) (first last : Option ℕ) (front back : List ℕ) (drawn waiting : ℕ) (t : Ticket) (P N : Option ℕ) → P ≡ last_of None front → N ≡ first_of back None
      → IsOrder s first last (front ++ t.place ∷ back) → IsSound (entries_at s (front ++ t.place ∷ back)) drawn waiting → ((j : ℕ) → 0 < times j (front ++ t.place ∷ back) → j < 2 ^ 32 - 1)
      → (node_at s t.place).serial ≡ t.serial → z ≡ with_previous (with_next (slot_emptied s t.place) P N) N P
      → (length (option_to_list (node_at s t.place).waker) ≤ waiting)
      × ((left : ℕ) → left + length (option_to_list (node_at s t.place).waker) ≡ waiting → IsListed z (kept_if P first N) (kept_if N last P) drawn left)
      × (entries_along z (kept_if P first N) ≡ without (entries_along s first) t)
  shrunk-parted s z first last front back drawn waiting t P N pe ne order sound fits serial is =
      let p = parting s z first last front t.place back order (is ∙ (λ i. with_previous (with_next (slot_emptied s t.place) (pe i) (ne i)) (ne i) (pe i))) in
      let order_z : IsOrder z (kept_if P first N) (kept_if N last P) (front ++ back) = rw (pe, ne) p.order in
      let count = length-parted s front t.place back in (
        omega (arith, sound.counted, count),
        (λ left less. record {
          keys = front ++ back;
          order = order_z;
          sound = rw p.entries (record {
            order = SerialsRise-parted s 0 front t.place back drawn sound.order;
            bound = sound.bound;
            counted = omega (arith, sound.counted, count, less);
          });
          fits = λ j c. fits j (omega (arith, c, times-append j front back, times-append j front (t.place ∷ back)));
        }),
        ap (entries_at z) (keys_along-order z (kept_if P first N) (kept_if N last P) (front ++ back) order_z) ∙ p.entries ∙ sym (without-parted s front back t order.once serial)
            ∙ ap (λ (ks : List ℕ). without (entries_at s ks) t) (sym (keys_along-order s first last (front ++ t.place ∷ back) order)),
      )

  -- what unlinking it comes to
  pub record Leaves (s : Slab (Node W)) (first last : Option ℕ) (drawn waiting : ℕ) (t : Ticket) : Type 0 where
    pub linked : IsLinked s t.place
    pub shrunk : (z : Slab (Node W)) → z ≡ unlinked s t.place → Shrunk s z first last drawn waiting t

  pub leaves : (s : Slab (Node W)) (first last : Option ℕ) (drawn waiting : ℕ) (t : Ticket) → IsListed s first last drawn waiting → Holds (entries_along s first) t → Leaves s first last drawn waiting t
  leaves s first last drawn waiting t h held =
      let it = there s first last drawn waiting t h held in
      let p = parted t.place h.keys it.among in
      let order : IsOrder s first last (p.front ++ t.place ∷ p.back) = subst (λ (ks : List ℕ). IsOrder s first last ks) p.is h.order in
      let own : Stands s t.place (last_of None p.front) (first_of p.back None) = (Chain-parts s None p.front (t.place ∷ p.back) None order.chain).1.0 in
      record {
        linked = linked-parted s first last p.front t.place p.back order;
        shrunk = λ z is.
            let r = shrunk-parted s z first last p.front p.back drawn waiting t (node_at s t.place).previous (node_at s t.place).next own.previous own.next order
            (subst (λ (ks : List ℕ). IsSound (entries_at s ks) drawn waiting) p.is h.sound) (λ j c. h.fits j (rw p.is c)) it.serial is in
            record { enough = r.0; listed = r.1; entries = r.2 };
      }
