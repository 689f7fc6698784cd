-- Words that ask for no relay, and the five words of one as a list.
use Rattle.std.proofs.Common.{◌≡◌, ◌≢◌, ℕ, ◌*◌, List, [], ◌∷◌, length, map, get_or, refl, arith}
use Rattle.aio_line.specs.declared.words.RelayOrder.{RelayOrder}
use Rattle.aio_line.specs.Words.{IsRelay, SpellsFromTo, SpellsUpTo, most_workers, pairs_of_worker}

-- a word spells one number
spells_one : (most other : ℕ) (m n : ℕ) (word : List ℕ) → SpellsUpTo most m word → SpellsUpTo other n word → m ≡ n
spells_one most other m n word first second = let a = first.0 in let b = second.0 in cc

-- five texts of five words
pub five_words : {X : Type 0} (f : X → List ℕ) (xs : List X) (a b c d e : X) (p q r s t : List ℕ) → length xs ≡ 5
    → a ≡ get_or xs 0 a → b ≡ get_or xs 1 b → c ≡ get_or xs 2 c → d ≡ get_or xs 3 d → e ≡ get_or xs 4 e
    → p ≡ f a → q ≡ f b → r ≡ f c → s ≡ f d → t ≡ f e → map f xs ≡ p ∷ q ∷ r ∷ s ∷ t ∷ []
five_words f [] a b c d e p q r s t five ia ib ic id ie ip iq ir is it = absurd (omega (arith, five))
five_words f (u ∷ []) a b c d e p q r s t five ia ib ic id ie ip iq ir is it = absurd (omega (arith, five))
five_words f (u ∷ v ∷ []) a b c d e p q r s t five ia ib ic id ie ip iq ir is it = absurd (omega (arith, five))
five_words f (u ∷ v ∷ w ∷ []) a b c d e p q r s t five ia ib ic id ie ip iq ir is it = absurd (omega (arith, five))
five_words f (u ∷ v ∷ w ∷ x ∷ []) a b c d e p q r s t five ia ib ic id ie ip iq ir is it = absurd (omega (arith, five))
five_words f (u ∷ v ∷ w ∷ x ∷ y ∷ []) a b c d e p q r s t five ia ib ic id ie ip iq ir is it =
    rw (ip, iq, ir, is, it, ia, ib, ic, id, ie) refl
five_words f (u ∷ v ∷ w ∷ x ∷ y ∷ z ∷ xs) a b c d e p q r s t five ia ib ic id ie ip iq ir is it = absurd (omega (arith, five))

-- there are five words
pub no_five : (words : List (List ℕ)) → length words ≢ 5 → (order : RelayOrder) → IsRelay order words → ⊥
no_five [] five order is = is
no_five (a ∷ []) five order is = is
no_five (a ∷ b ∷ []) five order is = is
no_five (a ∷ b ∷ c ∷ []) five order is = is
no_five (a ∷ b ∷ c ∷ d ∷ []) five order is = is
no_five (a ∷ b ∷ c ∷ d ∷ e ∷ []) five order is = five refl
no_five (a ∷ b ∷ c ∷ d ∷ e ∷ f ∷ words) five order is = is

-- The range of pairs is that of the workers that the third word spells, and the fifth spells no number in it.
pub no_pairs : (name port workers idle pairs : List ℕ) (count : ℕ) → SpellsFromTo 1 most_workers count workers
    → ((n : ℕ) → SpellsFromTo 1 (pairs_of_worker * count) n pairs → ⊥)
    → (order : RelayOrder) → IsRelay order (name ∷ port ∷ workers ∷ idle ∷ pairs ∷ []) → ⊥
no_pairs name port workers idle pairs count spells none order is =
    let same : order.workers ≡ count = spells_one most_workers most_workers order.workers count workers is.2.0 spells.0 in
    none order.pairs (rw same at is.4)

pub no_port : (name port workers idle pairs : List ℕ) → ((n : ℕ) → SpellsUpTo 65535 n port → ⊥)
    → (order : RelayOrder) → IsRelay order (name ∷ port ∷ workers ∷ idle ∷ pairs ∷ []) → ⊥
no_port name port workers idle pairs none order is = none order.port is.1

pub no_workers : (name port workers idle pairs : List ℕ) → ((n : ℕ) → SpellsFromTo 1 most_workers n workers → ⊥)
    → (order : RelayOrder) → IsRelay order (name ∷ port ∷ workers ∷ idle ∷ pairs ∷ []) → ⊥
no_workers name port workers idle pairs none order is = none order.workers is.2
