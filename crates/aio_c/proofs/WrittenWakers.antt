-- The first numbers that a loop wrote, and the places behind, are what a finish writes.
use Rattle.std.proofs.Common.{◌≡◌, ℕ, List, ◌++◌, take, drop, map, length, min, sym, ap, ◌∙◌, arith}
use Rattle.std.proofs.lemmas.List.{take-append-drop, take-map, take_all, drop_all}
use Rattle.aio_base.specs.declared.names.Waker.{Waker}
use Rattle.aio_c.specs.Promises.{written}

abbrev number : Waker → ℕ
number waker = waker.0

-- as far as the shorter of two lists goes is as far as the first goes in so many places
cut : {X : Type 0} (xs : List X) (room n : ℕ) → n ≡ min (length xs) room → take n xs ≡ take room xs
cut xs room n least = grind (arith, least, take_all)

left : {X Y : Type 0} (xs : List X) (ys : List Y) (n : ℕ) → n ≡ min (length xs) (length ys) → drop n ys ≡ drop (length xs) ys
left xs ys n least = grind (arith, least, drop_all)

pub all_written : (wakers : List Waker) (old new : List ℕ) (n : ℕ) → n ≡ min (length wakers) (length old)
    → take n new ≡ map number (take n wakers) → drop n new ≡ drop n old → new ≡ written wakers old
all_written wakers old new n least front back =
    sym (take-append-drop n new)
    ∙ ap (λ (fs : List ℕ). fs ++ drop n new) (front ∙ ap (map number) (cut wakers (length old) n least) ∙ sym (take-map number (length old) wakers))
    ∙ ap (λ (bs : List ℕ). take (length old) (map number wakers) ++ bs) (back ∙ left wakers old n least)
