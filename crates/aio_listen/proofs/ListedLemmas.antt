-- What stands of every list's nodes, told of the entries that contracts see.
use Rattle.std.proofs.Common.{◌≡◌, ◌≢◌, ℕ, inl, inr, ◌+◌, ◌-◌, ◌^◌, ◌<◌, ◌==◌, true, false, not, List, [], length, Option, None, Some, is_some, IsSome, arith, refl, sym, ap, subst, ◌∙◌}
use Rattle.std.specs.Prelude.{option_to_list}
use Rattle.std.proofs.lemmas.List.{length-map}
use Rattle.slab.specs.Slab.{Slab, get, slab_len}
use Rattle.aio_listen.specs.declared.node.Node.{Node}
use Rattle.aio_listen.specs.declared.ticket.Ticket.{Ticket}
use Rattle.aio_listen.specs.Nodes.{node_in, node_at, with_node}
use Rattle.aio_listen.specs.Listening.{Entry, Holds, has_ticket, wakers_of, with_waker, SerialsRise}
use Rattle.aio_listen.specs.Order.{times, IsOrder, IsListed, entry_at, entries_at, entries_along}
use Rattle.aio_listen.proofs.SoundLemmas.{length-wakers_of}
use Rattle.aio_listen.proofs.KeyLemmas.{there_or_not, same_or_other, zero-other, length-once}
use Rattle.aio_listen.proofs.NodeLemmas.{written-here, written-other, written-len}
use Rattle.aio_listen.proofs.ChainLemmas.{Chain-present, SameBut, SameBut-kept, SameBut-waker, IsOrder-but, keys_along-order}
use Rattle.aio_listen.proofs.PlaceLemmas.{has_ticket-in, has_ticket-out, with_waker-written, length-written, SerialsRise-same}
use Rattle.aio_listen.proofs.UnlinkLemmas.{there}

pub waker-none : {X : Type 0} (o : Option X) → not (is_some o) ≡ true → length (option_to_list o) ≡ 0
waker-none None h = refl
waker-none (Some x) h = absurd cc

pub waker-some : {X : Type 0} (o : Option X) → not (is_some o) ≡ false → length (option_to_list o) ≡ 1
waker-some None h = absurd cc
waker-some (Some x) h = refl

module _ {W : Type 0} where
  along : (s : Slab (Node W)) (first last : Option ℕ) (drawn waiting : ℕ) (h : IsListed s first last drawn waiting) → entries_along s first ≡ entries_at s h.keys
  along s first last drawn waiting h = ap (entries_at s) (keys_along-order s first last h.keys h.order)

  pub listed-counted : (s : Slab (Node W)) (first last : Option ℕ) (drawn waiting : ℕ) → IsListed s first last drawn waiting → waiting ≡ length (wakers_of (entries_along s first))
  listed-counted s first last drawn waiting h = h.sound.counted ∙ ap (λ (es : List (Entry W)). length (wakers_of es)) (sym (along s first last drawn waiting h))

  pub listed-rises : (s : Slab (Node W)) (first last : Option ℕ) (drawn waiting : ℕ) → IsListed s first last drawn waiting → SerialsRise 0 (entries_along s first) drawn
  listed-rises s first last drawn waiting h = subst (λ (es : List (Entry W)). SerialsRise 0 es drawn) (sym (along s first last drawn waiting h)) h.sound.order

  pub listed-length : (s : Slab (Node W)) (first last : Option ℕ) (drawn waiting : ℕ) → IsListed s first last drawn waiting → slab_len s ≡ length (entries_along s first)
  listed-length s first last drawn waiting h = sym h.order.size ∙ sym (length-map h.keys (entry_at s)) ∙ ap length (sym (along s first last drawn waiting h))

  -- so many keys fit a ticket's place
  pub listed-small : (s : Slab (Node W)) (first last : Option ℕ) (drawn waiting : ℕ) → IsListed s first last drawn waiting → slab_len s < 2 ^ 32
  listed-small s first last drawn waiting h = omega (arith, h.order.size, length-once (2 ^ 32 - 1) h.keys h.order.once h.fits)

  pub waiting-small : (s : Slab (Node W)) (first last : Option ℕ) (drawn waiting : ℕ) → IsListed s first last drawn waiting → waiting < 2 ^ 32
  waiting-small s first last drawn waiting h =
      omega (arith, listed-small s first last drawn waiting h, listed-length s first last drawn waiting h, listed-counted s first last drawn waiting h, length-wakers_of (entries_along s first))

  -- a slab with no slot
  vacant-at : (s : Slab (Node W)) → s.slots ≡ [] → (j : ℕ) → get s j ≡ None
  vacant-at s none j = ap (λ (xs : List (Option (Node W))). get (record s { slots = xs }) j) none

  pub listed-none : (s : Slab (Node W)) (first last : Option ℕ) → s.slots ≡ [] → first ≡ None → last ≡ None → IsListed s first last 0 0
  listed-none s first last none f l = record {
    keys = [];
    order = record {
      chain = tt;
      first_is = f;
      last_is = l;
      once = λ j. omega arith;
      reached = λ j held. let out : get s j ≡ None = vacant-at s none j in absurd cc;
      size = sym (ap (λ (xs : List (Option (Node W))). slab_len (record s { slots = xs })) none);
    };
    sound = record { order = omega arith; bound = omega arith; counted = refl };
    fits = λ j c. absurd (omega (arith, c));
  }

  -- the room of the slab is beside the list
  order-room : (s : Slab (Node W)) (room : ℕ) (first last : Option ℕ) (keys : List ℕ) → IsOrder s first last keys → IsOrder (record s { capacity = room }) first last keys
  order-room s room first last keys h = IsOrder-but s (record s { capacity = room }) first last keys (λ j. SameBut-kept s (record s { capacity = room }) j refl) refl h

  pub listed-room : (s : Slab (Node W)) (room : ℕ) (first last : Option ℕ) (drawn waiting : ℕ) → IsListed s first last drawn waiting → IsListed (record s { capacity = room }) first last drawn waiting
  listed-room s room first last drawn waiting h = record { keys = h.keys; order = order-room s room first last h.keys h.order; sound = h.sound; fits = h.fits }

  pub along-room : (s : Slab (Node W)) (room : ℕ) (first last : Option ℕ) (drawn waiting : ℕ) → IsListed s first last drawn waiting → entries_along (record s { capacity = room }) first ≡ entries_along s first
  along-room s room first last drawn waiting h =
      ap (entries_at s) (keys_along-order (record s { capacity = room }) first last h.keys (order-room s room first last h.keys h.order)) ∙ sym (along s first last drawn waiting h)

  -- the node at a ticket's place settles whether the list holds it
  pub held-node : (s : Slab (Node W)) (first last : Option ℕ) (drawn waiting : ℕ) (t : Ticket) (n : Node W) → IsListed s first last drawn waiting → get s t.place ≡ Some n → has_ticket (entries_along s first) t ≡ (n.serial == t.serial)
  held-node s first last drawn waiting t n h read =
      let here : IsSome (get s t.place) = rw read refl in
      ap (λ (es : List (Entry W)). has_ticket es t) (along s first last drawn waiting h) ∙ has_ticket-in s h.keys t h.order.once (h.order.reached t.place here) ∙ ap (λ (o : Option (Node W)). (node_in o).serial == t.serial) read

  pub held-none : (s : Slab (Node W)) (first last : Option ℕ) (drawn waiting : ℕ) (t : Ticket) → IsListed s first last drawn waiting → get s t.place ≡ None → has_ticket (entries_along s first) t ≡ false
  held-none s first last drawn waiting t h read =
      ap (λ (es : List (Entry W)). has_ticket es t) (along s first last drawn waiting h) ∙ has_ticket-out s h.keys t (elim (there_or_not (times t.place h.keys)) as (λ _. times t.place h.keys ≡ 0) [
        | inl c ↦ let here : IsSome (get s t.place) = Chain-present s None h.keys None t.place h.order.chain c in absurd cc
        | inr none ↦ none
      ])

  -- a waker for a listener
  pub record Rewoken (s z : Slab (Node W)) (first last : Option ℕ) (drawn waiting : ℕ) (t : Ticket) (w : W) : Type 0 where
    pub listed : (count : ℕ) → count + length (option_to_list (node_at s t.place).waker) ≡ waiting + 1 → IsListed z first last drawn count
    pub entries : entries_along z first ≡ with_waker (entries_along s first) t w

  pub held-present : (s : Slab (Node W)) (first last : Option ℕ) (drawn waiting : ℕ) (t : Ticket) → IsListed s first last drawn waiting → Holds (entries_along s first) t → IsSome (get s t.place)
  held-present s first last drawn waiting t h held = Chain-present s None h.keys None t.place h.order.chain (there s first last drawn waiting t h held).among

  pub rewoken : (s z : Slab (Node W)) (first last : Option ℕ) (drawn waiting : ℕ) (t : Ticket) (w : W) → IsListed s first last drawn waiting → Holds (entries_along s first) t
      → z ≡ with_node s t.place (record (node_at s t.place) { waker = Some w }) → Rewoken s z first last drawn waiting t w
  rewoken s z first last drawn waiting t w h held is =
      let it = there s first last drawn waiting t h held in
      let present = held-present s first last drawn waiting t h held in
      let here : get z t.place ≡ Some (record (node_at s t.place) { waker = Some w }) = ap (λ (y : Slab (Node W)). get y t.place) is ∙ written-here s t.place (record (node_at s t.place) { waker = Some w }) present in
      let other : (j : ℕ) → j ≢ t.place → get z j ≡ get s j = λ j ne. ap (λ (y : Slab (Node W)). get y j) is ∙ written-other s t.place (record (node_at s t.place) { waker = Some w }) j ne in
      let same : (j : ℕ) → SameBut s z j = λ j. elim (same_or_other j t.place) as (λ _. SameBut s z j) [
        | inl e ↦ rw e (SameBut-waker s z t.place (Some w) present here)
        | inr ne ↦ SameBut-kept s z j (other j (zero-other j t.place ne))
      ] in
      let order : IsOrder z first last h.keys = IsOrder-but s z first last h.keys same (ap slab_len is ∙ written-len s t.place (record (node_at s t.place) { waker = Some w }) present) h.order in
      record {
        listed = λ count counts. record {
          keys = h.keys;
          order = order;
          sound = record {
            order = SerialsRise-same s z 0 h.keys drawn (λ j. (same j).serial) h.sound.order;
            bound = h.sound.bound;
            counted = omega (arith, counts, h.sound.counted, length-written s h.keys t.place w z h.order.once it.among here other);
          };
          fits = h.fits;
        };
        entries = ap (entries_at z) (keys_along-order z first last h.keys order) ∙ with_waker-written s h.keys t w z it.serial here other ∙ ap (λ (es : List (Entry W)). with_waker es t w) (sym (along s first last drawn waiting h));
      }
