-- Each change of a list of entries keeps what stands of every list.
use Rattle.std.proofs.Common.{◌≡◌, ℕ, ◌+◌, ◌<◌, ◌≤◌, ◌^◌, List, [], ◌∷◌, ◌++◌, length, Option, Some, None, option_to_list, refl, ap, sym, ◌∙◌, arith}
use Rattle.std.specs.List.{cons_option}
use Rattle.aio_listen.specs.declared.ticket.Ticket.{Ticket}
use Rattle.aio_listen.specs.Listening.{Entry, wakers_of, emptied, SerialsRise, IsSound}

pub length-cons_option : {X : Type 0} (o : Option X) (xs : List X) → length (cons_option o xs) ≡ length (option_to_list o) + length xs
length-cons_option None xs = omega arith
length-cons_option (Some x) xs = omega arith

length-option_to_list : {X : Type 0} (o : Option X) → length (option_to_list o) ≤ 1
length-option_to_list None = omega arith
length-option_to_list (Some x) = omega arith

module _ {W : Type 0} where
  -- no more wakers than entries
  pub length-wakers_of : (es : List (Entry W)) → length (wakers_of es) ≤ length es
  length-wakers_of [] = omega arith
  length-wakers_of (e ∷ es) = omega (arith, length-wakers_of es, length-cons_option e.1 (wakers_of es), length-option_to_list e.1)

  SerialsRise-add : (low : ℕ) (es : List (Entry W)) (drawn : ℕ) (t : Ticket) (o : Option W) → SerialsRise low es drawn → t.serial ≡ drawn + 1 → SerialsRise low (es ++ (t, o) ∷ []) (drawn + 1)
  SerialsRise-add low [] drawn t o h same = (omega (arith, h), omega arith)
  SerialsRise-add low (e ∷ es) drawn t o h same = (h.0, SerialsRise-add e.0.serial es drawn t o h.1 same)

  wakers_of-add : (es : List (Entry W)) (t : Ticket) → wakers_of (es ++ (t, None) ∷ []) ≡ wakers_of es
  wakers_of-add [] t = refl
  wakers_of-add (e ∷ es) t = ap (λ ws. cons_option e.1 ws) (wakers_of-add es t)

  -- a new last entry with no waker, of the ticket drawn next
  pub IsSound-add : (es : List (Entry W)) (drawn waiting : ℕ) (t : Ticket) → IsSound es drawn waiting → drawn + 1 < 2 ^ 64 → t.serial ≡ drawn + 1 → IsSound (es ++ (t, None) ∷ []) (drawn + 1) waiting
  IsSound-add es drawn waiting t h lt same = record {
    order = SerialsRise-add 0 es drawn t None h.order same;
    bound = lt;
    counted = h.counted ∙ sym (ap length (wakers_of-add es t));
  }

  SerialsRise-emptied : (low : ℕ) (es : List (Entry W)) (drawn : ℕ) → SerialsRise low es drawn → SerialsRise low (emptied es) drawn
  SerialsRise-emptied low [] drawn h = h
  SerialsRise-emptied low (e ∷ es) drawn h = (h.0, SerialsRise-emptied e.0.serial es drawn h.1)

  pub wakers_of-emptied : (es : List (Entry W)) → wakers_of (emptied es) ≡ []
  wakers_of-emptied [] = refl
  wakers_of-emptied (e ∷ es) = wakers_of-emptied es

  -- with all wakers taken
  pub IsSound-emptied : (es : List (Entry W)) (drawn waiting : ℕ) → IsSound es drawn waiting → IsSound (emptied es) drawn 0
  IsSound-emptied es drawn waiting h = record {
    order = SerialsRise-emptied 0 es drawn h.order;
    bound = h.bound;
    counted = sym (ap length (wakers_of-emptied es));
  }
