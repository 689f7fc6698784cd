-- What the calls on a list of listeners come to together, for callers.
use Rattle.std.proofs.Common.{◌≡◌, ◌<◌, ◌≤◌, Bool, true, false, cond, ◌||◌, not, if◌then◌else◌, IsTrue, List, [], ◌∷◌, ◌++◌, length, option_to_list, Option, Some, refl, ap, ◌∙◌, arith}
use Rattle.std.specs.List.{cons_option}
use Rattle.std.proofs.lemmas.List.{map-append}
use Rattle.std.proofs.lemmas.List.Elements.{filter_map-append}
use Rattle.aio_listen.specs.declared.ticket.Ticket.{Ticket}
use Rattle.aio_listen.specs.Tickets.{same_ticket}
use Rattle.aio_listen.specs.Listening.{Entry, has_ticket, Holds, wakers_of, with_waker, without, emptied}
use Rattle.aio_listen.proofs.TicketLemmas.{same_ticket-refl, same_ticket-true}
use Rattle.aio_listen.proofs.EntryLemmas.{with_waker-absent}
use Rattle.aio_listen.proofs.SoundLemmas.{length-cons_option}
use Rattle.aio_listen.proofs.DrainLemmas.{cons_option-to_list}

absent : (b : Bool) → (IsTrue b → ⊥) → b ≡ false
absent true h = absurd (h refl)
absent false h = refl

or-false : (b : Bool) → (b || false) ≡ b
or-false true = refl
or-false false = refl

or-true : (b : Bool) → (b || true) ≡ true
or-true true = refl
or-true false = refl

or-assoc : (a b c : Bool) → (a || (b || c)) ≡ ((a || b) || c)
or-assoc true b c = refl
or-assoc false b c = refl

module _ {W : Type 0} where
  -- a new last entry has its ticket, and the others have theirs
  pub has_ticket-added : (es : List (Entry W)) (t : Ticket) (o : Option W) (u : Ticket) → has_ticket (es ++ (t, o) ∷ []) u ≡ (has_ticket es u || same_ticket t u)
  has_ticket-added [] t o u = or-false (same_ticket t u)
  has_ticket-added (e ∷ es) t o u = ap (λ b. same_ticket e.0 u || b) (has_ticket-added es t o u) ∙ or-assoc (same_ticket e.0 u) (has_ticket es u) (same_ticket t u)

  pub Holds-added : (es : List (Entry W)) (t : Ticket) (o : Option W) → Holds (es ++ (t, o) ∷ []) t
  Holds-added es t o = has_ticket-added es t o t ∙ ap (λ b. has_ticket es t || b) (same_ticket-refl t) ∙ or-true (has_ticket es t)

  -- a waker for it is the waker of the last entry
  pub with_waker-added : (es : List (Entry W)) (t : Ticket) (o : Option W) (w : W) → (Holds es t → ⊥) → with_waker (es ++ (t, o) ∷ []) t w ≡ es ++ (t, Some w) ∷ []
  with_waker-added es t o w fresh =
      let before = with_waker-absent es t w (absent (has_ticket es t) fresh) in
      let last : with_waker ((t, o) ∷ []) t w ≡ (t, Some w) ∷ [] = rw (same_ticket-refl t) in
      map-append (λ (e : Entry W). if same_ticket e.0 t then (e.0, Some w) else e) es ((t, o) ∷ []) ∙ (λ i. before i ++ last i)

  pub wakers_of-added : (es : List (Entry W)) (t : Ticket) (o : Option W) → wakers_of (es ++ (t, o) ∷ []) ≡ wakers_of es ++ option_to_list o
  wakers_of-added es t o = filter_map-append (λ (e : Entry W). e.1) es ((t, o) ∷ []) ∙ ap (λ ws. wakers_of es ++ ws) (cons_option-to_list o)

  -- a waker for an entry, and taking all wakers, leave every ticket
  pub has_ticket-with_waker : (es : List (Entry W)) (t : Ticket) (w : W) (u : Ticket) → has_ticket (with_waker es t w) u ≡ has_ticket es u
  has_ticket-with_waker [] t w u = refl
  has_ticket-with_waker (e ∷ es) t w u = λ i. same_ticket (kept (same_ticket e.0 t) i) u || has_ticket-with_waker es t w u i
    where
      kept : (b : Bool) → (if b then (e.0, Some w) else e).0 ≡ e.0
      kept true = refl
      kept false = refl

  pub has_ticket-emptied : (es : List (Entry W)) (u : Ticket) → has_ticket (emptied es) u ≡ has_ticket es u
  has_ticket-emptied [] u = refl
  has_ticket-emptied (e ∷ es) u = ap (λ b. same_ticket e.0 u || b) (has_ticket-emptied es u)

  -- an entry that got a waker holds one
  pub wakers_of-with_waker : (es : List (Entry W)) (t : Ticket) (w : W) → Holds es t → 0 < length (wakers_of (with_waker es t w))
  wakers_of-with_waker [] t w h = cc
  wakers_of-with_waker (e ∷ es) t w h =
      elim (same_ticket e.0 t) as (λ b. (b || has_ticket es t) ≡ true → 0 < length (cons_option (if b then (e.0, Some w) else e).1 (wakers_of (with_waker es t w)))) [
        | true ↦ λ _. omega arith
        | false ↦ λ later. omega (arith, wakers_of-with_waker es t w later, length-cons_option e.1 (wakers_of (with_waker es t w)))
      ] h

  -- one that was taken out is gone, with its waker; the others stand
  pub has_ticket-without : (es : List (Entry W)) (t : Ticket) → has_ticket (without es t) t ≡ false
  has_ticket-without [] t = refl
  has_ticket-without (e ∷ es) t =
      elim (same_ticket e.0 t) as (λ b. same_ticket e.0 t ≡ b → has_ticket (cond (not b) (e ∷ without es t) (without es t)) t ≡ false) [
        | true ↦ λ _. has_ticket-without es t
        | false ↦ λ other. rw other (has_ticket-without es t)
      ] refl

  pub has_ticket-without_other : (es : List (Entry W)) (t u : Ticket) → same_ticket t u ≡ false → has_ticket (without es t) u ≡ has_ticket es u
  has_ticket-without_other [] t u h = refl
  has_ticket-without_other (e ∷ es) t u h =
      elim (same_ticket e.0 t) as (λ b. same_ticket e.0 t ≡ b → has_ticket (cond (not b) (e ∷ without es t) (without es t)) u ≡ has_ticket (e ∷ es) u) [
        | true ↦ λ same. let other : same_ticket e.0 u ≡ false = ap (λ x. same_ticket x u) (same_ticket-true e.0 t same) ∙ h in rw other (has_ticket-without_other es t u h)
        | false ↦ λ _. ap (λ b. same_ticket e.0 u || b) (has_ticket-without_other es t u h)
      ] refl

  pub length-wakers_of-without : (es : List (Entry W)) (t : Ticket) → length (wakers_of (without es t)) ≤ length (wakers_of es)
  length-wakers_of-without [] t = omega arith
  length-wakers_of-without (e ∷ es) t =
      elim (same_ticket e.0 t) as (λ b. length (wakers_of (cond (not b) (e ∷ without es t) (without es t))) ≤ length (wakers_of (e ∷ es))) [
        | true ↦ omega (arith, length-wakers_of-without es t, length-cons_option e.1 (wakers_of es))
        | false ↦ omega (arith, length-wakers_of-without es t, length-cons_option e.1 (wakers_of es), length-cons_option e.1 (wakers_of (without es t)))
      ]
