-- The entries of nodes, told by the keys at which these stand: a ticket's place settles which node it can be.
use Rattle.std.proofs.Common.{◌≡◌, ◌≢◌, ℕ, inl, inr, ◌+◌, ◌<◌, ◌≤◌, ◌==◌, ◌||◌, Bool, true, false, List, [], ◌∷◌, ◌++◌, length, Option, Some, arith, tests, refl, sym, ap, ◌∙◌}
use Rattle.std.specs.Prelude.{option_to_list, if◌then◌else◌, cond, not}
use Rattle.slab.specs.Slab.{Slab, get}
use Rattle.aio_listen.specs.declared.node.Node.{Node}
use Rattle.aio_listen.specs.declared.ticket.Ticket.{Ticket}
use Rattle.aio_listen.specs.Nodes.{node_in, node_at}
use Rattle.aio_listen.specs.Tickets.{same_ticket}
use Rattle.aio_listen.specs.Listening.{Entry, has_ticket, with_waker, without, wakers_of, SerialsRise}
use Rattle.aio_listen.specs.Order.{one_if_same, times, entry_at, entries_at}
use Rattle.aio_listen.proofs.TicketLemmas.{same_ticket-refl}
use Rattle.aio_listen.proofs.EntryLemmas.{without-absent}
use Rattle.aio_listen.proofs.SoundLemmas.{length-cons_option}
use Rattle.aio_listen.proofs.KeyLemmas.{one-same, zero-other, same_or_other}

-- another place is another ticket, and at its place the serial tells
place-other : (a b : Ticket) → a.place ≢ b.place → same_ticket a b ≡ false
place-other a b ne = grind (arith, tests)

place-same : (a b : Ticket) → a.place ≡ b.place → same_ticket a b ≡ (a.serial == b.serial)
place-same a b e = grind (arith, tests)

or-false : (b : Bool) → (b || false) ≡ b
or-false true = refl
or-false false = refl

module _ {W : Type 0} where
  pub has_ticket-out : (s : Slab (Node W)) (ks : List ℕ) (t : Ticket) → times t.place ks ≡ 0 → has_ticket (entries_at s ks) t ≡ false
  has_ticket-out s [] t out = refl
  has_ticket-out s (k ∷ ks) t out =
      let ne : t.place ≢ k = zero-other t.place k (omega (arith, out)) in
      let other : same_ticket (entry_at s k).0 t ≡ false = place-other (entry_at s k).0 t (λ e. ne (sym e)) in
      let rest : has_ticket (entries_at s ks) t ≡ false = has_ticket-out s ks t (omega (arith, out)) in
      rw (other, rest) refl

  pub has_ticket-in : (s : Slab (Node W)) (ks : List ℕ) (t : Ticket) → ((j : ℕ) → times j ks ≤ 1) → 0 < times t.place ks → has_ticket (entries_at s ks) t ≡ ((node_at s t.place).serial == t.serial)
  has_ticket-in s [] t once c = absurd (omega (arith, c))
  has_ticket-in s (k ∷ ks) t once c = elim (same_or_other t.place k) as (λ _. has_ticket (entries_at s (k ∷ ks)) t ≡ ((node_at s t.place).serial == t.serial)) [
    | inl e ↦
        let here : same_ticket (entry_at s k).0 t ≡ ((node_at s k).serial == t.serial) = place-same (entry_at s k).0 t (sym e) in
        let rest : has_ticket (entries_at s ks) t ≡ false = has_ticket-out s ks t (omega (arith, once t.place, one-same k, ap (λ (i : ℕ). one_if_same i k) e)) in
        ap (λ (b : Bool). same_ticket (entry_at s k).0 t || b) rest ∙ or-false (same_ticket (entry_at s k).0 t) ∙ here ∙ ap (λ (i : ℕ). (node_at s i).serial == t.serial) (sym e)
    | inr ne ↦
        let apart : t.place ≢ k = zero-other t.place k ne in
        let other : same_ticket (entry_at s k).0 t ≡ false = place-other (entry_at s k).0 t (λ e. apart (sym e)) in
        ap (λ (b : Bool). b || has_ticket (entries_at s ks) t) other ∙ has_ticket-in s ks t (λ j. omega (arith, once j)) (omega (arith, c, ne))
  ]

  -- the nodes of these keys are the same in both slabs
  pub entries_at-same : (s z : Slab (Node W)) (ks : List ℕ) → ((j : ℕ) → 0 < times j ks → entry_at z j ≡ entry_at s j) → entries_at z ks ≡ entries_at s ks
  entries_at-same s z [] same = refl
  entries_at-same s z (k ∷ ks) same =
      let here = same k (omega (arith, one-same k)) in
      let rest = entries_at-same s z ks (λ j c. same j (omega (arith, c))) in
      λ i. here i ∷ rest i

  pub entry_at-read : (s z : Slab (Node W)) (j : ℕ) (n : Node W) → get z j ≡ Some n → n.serial ≡ (node_at s j).serial → n.waker ≡ (node_at s j).waker → entry_at z j ≡ entry_at s j
  entry_at-read s z j n read serial waker =
      let a : (node_at z j).serial ≡ (node_at s j).serial = ap (λ (o : Option (Node W)). (node_in o).serial) read ∙ serial in
      let b : (node_at z j).waker ≡ (node_at s j).waker = ap (λ (o : Option (Node W)). (node_in o).waker) read ∙ waker in
      λ i. (record { serial = a i; place = j }, b i)

  pub entry_at-kept : (s z : Slab (Node W)) (j : ℕ) → get z j ≡ get s j → entry_at z j ≡ entry_at s j
  entry_at-kept s z j same = ap (λ (o : Option (Node W)). (record { serial = (node_in o).serial; place = j }, (node_in o).waker)) same

  -- the entry of a ticket taken out of a list that is parted there
  pub without-parted : (s : Slab (Node W)) (front back : List ℕ) (t : Ticket) → ((j : ℕ) → times j (front ++ t.place ∷ back) ≤ 1) → (node_at s t.place).serial ≡ t.serial
      → without (entries_at s (front ++ t.place ∷ back)) t ≡ entries_at s (front ++ back)
  without-parted s [] back t once serial =
      let here : same_ticket (entry_at s t.place).0 t ≡ true = ap (λ (n : ℕ). same_ticket (record { serial = n; place = t.place }) t) serial ∙ same_ticket-refl t in
      let rest : without (entries_at s back) t ≡ entries_at s back = without-absent (entries_at s back) t (has_ticket-out s back t (omega (arith, once t.place, one-same t.place))) in
      ap (λ (b : Bool). cond (not b) (entry_at s t.place ∷ without (entries_at s back) t) (without (entries_at s back) t)) here ∙ rest
  without-parted s (k ∷ front) back t once serial =
      elim (same_or_other t.place k) as (λ _. without (entries_at s (k ∷ front ++ t.place ∷ back)) t ≡ entries_at s (k ∷ front ++ back)) [
        | inl e ↦ absurd (omega (arith, once t.place, one-same t.place, one-same k, ap (λ (i : ℕ). one_if_same i k) e, times-later t.place front back))
        | inr ne ↦
            let apart : t.place ≢ k = zero-other t.place k ne in
            let other : same_ticket (entry_at s k).0 t ≡ false = place-other (entry_at s k).0 t (λ e. apart (sym e)) in
            let rest = without-parted s front back t (λ j. omega (arith, once j)) serial in
            ap (λ (b : Bool). cond (not b) (entry_at s k ∷ without (entries_at s (front ++ t.place ∷ back)) t) (without (entries_at s (front ++ t.place ∷ back)) t)) other
            ∙ ap (λ (es : List (Entry W)). entry_at s k ∷ es) rest
      ]
    where
      times-later : (j : ℕ) (ks ls : List ℕ) → 0 < times j (ks ++ j ∷ ls)
      times-later j [] ls = omega (arith, one-same j)
      times-later j (k ∷ ks) ls = omega (arith, times-later j ks ls)

  -- a waker for the entry of a ticket
  pub with_waker-written : (s : Slab (Node W)) (ks : List ℕ) (t : Ticket) (w : W) (z : Slab (Node W)) → (node_at s t.place).serial ≡ t.serial
      → get z t.place ≡ Some (record (node_at s t.place) { waker = Some w }) → ((j : ℕ) → j ≢ t.place → get z j ≡ get s j) → entries_at z ks ≡ with_waker (entries_at s ks) t w
  with_waker-written s [] t w z serial here others = refl
  with_waker-written s (k ∷ ks) t w z serial here others =
      let rest = with_waker-written s ks t w z serial here others in
      let head : entry_at z k ≡ (if same_ticket (entry_at s k).0 t then ((entry_at s k).0, Some w) else entry_at s k) =
      elim (same_or_other t.place k) as (λ _. entry_at z k ≡ (if same_ticket (entry_at s k).0 t then ((entry_at s k).0, Some w) else entry_at s k)) [
        | inl e ↦ rw (← e) (new refl)
        | inr ne ↦
            let apart : t.place ≢ k = zero-other t.place k ne in
            let other : same_ticket (entry_at s k).0 t ≡ false = place-other (entry_at s k).0 t (λ e. apart (sym e)) in
            rw other (entry_at-kept s z k (others k (λ e. apart (sym e))))
      ] in
      λ i. head i ∷ rest i
    where
      new : t.place ≡ t.place → entry_at z t.place ≡ (if same_ticket (entry_at s t.place).0 t then ((entry_at s t.place).0, Some w) else entry_at s t.place)
      new e =
          let same : same_ticket (entry_at s t.place).0 t ≡ true = ap (λ (n : ℕ). same_ticket (record { serial = n; place = t.place }) t) serial ∙ same_ticket-refl t in
          rw same (ap (λ (o : Option (Node W)). (record { serial = (node_in o).serial; place = t.place }, (node_in o).waker)) here)

  -- how many wakers there are then
  pub length-written : (s : Slab (Node W)) (ks : List ℕ) (k : ℕ) (w : W) (z : Slab (Node W)) → ((j : ℕ) → times j ks ≤ 1) → 0 < times k ks
      → get z k ≡ Some (record (node_at s k) { waker = Some w }) → ((j : ℕ) → j ≢ k → get z j ≡ get s j)
      → length (wakers_of (entries_at z ks)) + length (option_to_list (node_at s k).waker) ≡ length (wakers_of (entries_at s ks)) + 1
  length-written s [] k w z once c here others = absurd (omega (arith, c))
  length-written s (l ∷ ls) k w z once c here others =
      elim (same_or_other k l) as (λ _. length (wakers_of (entries_at z (l ∷ ls))) + length (option_to_list (node_at s k).waker) ≡ length (wakers_of (entries_at s (l ∷ ls))) + 1) [
        | inl e ↦
            let rest : entries_at z ls ≡ entries_at s ls = entries_at-same s z ls (λ j d. entry_at-kept s z j (others j (λ same. omega (arith, once k, one-same l, ap (λ (i : ℕ). one_if_same i l) e, d, ap (λ (i : ℕ). times i ls) same)))) in
            let waker : (node_at z l).waker ≡ Some w = ap (λ (i : ℕ). (node_at z i).waker) (sym e) ∙ ap (λ (o : Option (Node W)). (node_in o).waker) here in
            omega (
              arith,
              length-cons_option (node_at z l).waker (wakers_of (entries_at z ls)),
              length-cons_option (node_at s l).waker (wakers_of (entries_at s ls)),
              ap (λ (o : Option W). length (option_to_list o)) waker,
              ap (λ (i : ℕ). length (option_to_list (node_at s i).waker)) e,
              ap (λ (es : List (Entry W)). length (wakers_of es)) rest,
            )
        | inr ne ↦
            let same : get z l ≡ get s l = others l (λ e. zero-other k l ne (sym e)) in
            let waker : (node_at z l).waker ≡ (node_at s l).waker = ap (λ (o : Option (Node W)). (node_in o).waker) same in
            omega (
              arith,
              length-cons_option (node_at z l).waker (wakers_of (entries_at z ls)),
              length-cons_option (node_at s l).waker (wakers_of (entries_at s ls)),
              ap (λ (o : Option W). length (option_to_list o)) waker,
              length-written s ls k w z (λ j. omega (arith, once j)) (omega (arith, c, ne)) here others,
            )
      ]

  -- and without a node
  pub length-parted : (s : Slab (Node W)) (front : List ℕ) (k : ℕ) (back : List ℕ)
      → length (wakers_of (entries_at s (front ++ back))) + length (option_to_list (node_at s k).waker) ≡ length (wakers_of (entries_at s (front ++ k ∷ back)))
  length-parted s [] k back = omega (arith, length-cons_option (node_at s k).waker (wakers_of (entries_at s back)))
  length-parted s (l ∷ front) k back =
      omega (arith, length-parted s front k back, length-cons_option (node_at s l).waker (wakers_of (entries_at s (front ++ back))), length-cons_option (node_at s l).waker (wakers_of (entries_at s (front ++ k ∷ back))))

  -- serials that are the same rise alike
  pub SerialsRise-same : (s z : Slab (Node W)) (low : ℕ) (ks : List ℕ) (drawn : ℕ) → ((j : ℕ) → (node_at z j).serial ≡ (node_at s j).serial) → SerialsRise low (entries_at s ks) drawn → SerialsRise low (entries_at z ks) drawn
  SerialsRise-same s z low [] drawn same h = h
  SerialsRise-same s z low (k ∷ ks) drawn same h = (rw (same k) h.0, rw (same k) (SerialsRise-same s z (node_at s k).serial ks drawn same h.1))
