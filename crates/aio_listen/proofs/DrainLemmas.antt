-- The wakers of lists in parts, and what is left of them once they were taken.
use Rattle.std.proofs.Common.{◌≡◌, ℕ, ◌+◌, List, [], ◌∷◌, ◌++◌, length, Option, Some, None, option_to_list, refl, ap, sym, ◌∙◌, arith, length-append}
use Rattle.std.specs.List.{cons_option}
use Rattle.slab.specs.Slab.{Slab}
use Rattle.aio_listen.specs.declared.node.Node.{Node}
use Rattle.aio_listen.specs.Nodes.{node_at}
use Rattle.aio_listen.specs.Listening.{Entry, wakers_of, emptied}
use Rattle.aio_listen.specs.Order.{entries_at}
use Rattle.aio_listen.proofs.SoundLemmas.{length-cons_option}

cons_option-append : {X : Type 0} (o : Option X) (xs ys : List X) → cons_option o (xs ++ ys) ≡ cons_option o xs ++ ys
cons_option-append None xs ys = refl
cons_option-append (Some x) xs ys = refl

pub cons_option-to_list : {X : Type 0} (o : Option X) → cons_option o [] ≡ option_to_list o
cons_option-to_list None = refl
cons_option-to_list (Some x) = refl

module _ {W : Type 0} where
  pub wakers_at-append : (s : Slab (Node W)) (ks ls : List ℕ) → wakers_of (entries_at s (ks ++ ls)) ≡ wakers_of (entries_at s ks) ++ wakers_of (entries_at s ls)
  wakers_at-append s [] ls = refl
  wakers_at-append s (k ∷ ks) ls = ap (λ (ws : List W). cons_option (node_at s k).waker ws) (wakers_at-append s ks ls) ∙ cons_option-append (node_at s k).waker (wakers_of (entries_at s ks)) (wakers_of (entries_at s ls))

  pub wakers_at-last : (s : Slab (Node W)) (ks : List ℕ) (k : ℕ) → wakers_of (entries_at s (ks ++ k ∷ [])) ≡ wakers_of (entries_at s ks) ++ option_to_list (node_at s k).waker
  wakers_at-last s ks k = wakers_at-append s ks (k ∷ []) ∙ ap (λ (ws : List W). wakers_of (entries_at s ks) ++ ws) (cons_option-to_list (node_at s k).waker)

  pub length-wakers_at : (s : Slab (Node W)) (ks ls : List ℕ) → length (wakers_of (entries_at s (ks ++ ls))) ≡ length (wakers_of (entries_at s ks)) + length (wakers_of (entries_at s ls))
  length-wakers_at s ks ls = ap length (wakers_at-append s ks ls) ∙ length-append (wakers_of (entries_at s ks)) (wakers_of (entries_at s ls))

  -- nothing is taken where nothing waits
  no-waker : (o : Option W) → length (option_to_list o) ≡ 0 → o ≡ None
  no-waker None h = refl
  no-waker (Some w) h = cc

  pub emptied-none : (es : List (Entry W)) → length (wakers_of es) ≡ 0 → emptied es ≡ es
  emptied-none [] h = refl
  emptied-none (e ∷ es) h =
      let none : e.1 ≡ None = no-waker e.1 (omega (arith, h, length-cons_option e.1 (wakers_of es))) in
      let rest : emptied es ≡ es = emptied-none es (omega (arith, h, length-cons_option e.1 (wakers_of es))) in
      λ i. (e.0, (sym none) i) ∷ rest i

  pub no-wakers : (ws : List W) → length ws ≡ 0 → ws ≡ []
  no-wakers [] h = refl
  no-wakers (w ∷ ws) h = absurd (omega (arith, h))
