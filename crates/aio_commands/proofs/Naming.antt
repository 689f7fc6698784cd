-- Which command words name: one at most; and words that name none.
use Rattle.std.proofs.Common.{◌≡◌, ◌≢◌, ℕ, ◌-◌, ◌^◌, List, [], ◌∷◌, length, map, get_or, Option, None, Some, sym, ap, ◌∙◌, refl, arith}
use Rattle.std.specs.Prelude.{MatchOption, codes, sum}
use Rattle.aio_line.specs.declared.words.RelayOrder.{RelayOrder}
use Rattle.aio_line.specs.Words.{IsRelay, SpellsUpTo}
use Rattle.aio_commands.specs.declared.commands.Command.{Command}
use Rattle.aio_commands.specs.declared.commands.Command.TheVariants as command
use Rattle.aio_commands.specs.Commands.{IsOfNumbers, IsReplay, Names}

-- ## The words as a list

pub one_word : {X : Type 0} (f : X → List ℕ) (xs : List X) (x : X) → length xs ≡ 1 → x ≡ get_or xs 0 x → map f xs ≡ f x ∷ []
one_word f [] x one is = absurd (omega (arith, one))
one_word f (y ∷ []) x one is = ap (λ z. f z ∷ []) (sym is)
one_word f (y ∷ z ∷ xs) x one is = absurd (omega (arith, one))

pub three_words : {X : Type 0} (f : X → List ℕ) (xs : List X) (x y z : X) → length xs ≡ 3 → x ≡ get_or xs 0 x → y ≡ get_or xs 1 y → z ≡ get_or xs 2 z
    → map f xs ≡ f x ∷ f y ∷ f z ∷ []
three_words f [] x y z three first second third = absurd (omega (arith, three))
three_words f (a ∷ []) x y z three first second third = absurd (omega (arith, three))
three_words f (a ∷ b ∷ []) x y z three first second third = absurd (omega (arith, three))
three_words f (a ∷ b ∷ c ∷ []) x y z three first second third = rw (first, second, third) refl
three_words f (a ∷ b ∷ c ∷ d ∷ xs) x y z three first second third = absurd (omega (arith, three))

-- ## Words that name none

no_replay : (a b : List ℕ) (words : List (List ℕ)) → IsReplay (a ∷ b ∷ words) → ⊥
no_replay a b words is = absurd cc

-- so many words name no command but that of a relay
pub no_such_count : (words : List (List ℕ)) → length words ≢ 1 → length words ≢ 3 → ((order : RelayOrder) → IsRelay order words → ⊥) → (c : Command) → Names c words → ⊥
no_such_count words one three none (command.Relay order) is = none order is
no_such_count [] one three none command.Replay is = absurd cc
no_such_count [] one three none (command.Gen n seed) is = is
no_such_count [] one three none (command.Sum n seed) is = is
no_such_count [] one three none (command.Stress n seed) is = is
no_such_count (a ∷ []) one three none command.Replay is = one refl
no_such_count (a ∷ []) one three none (command.Gen n seed) is = one refl
no_such_count (a ∷ []) one three none (command.Sum n seed) is = one refl
no_such_count (a ∷ []) one three none (command.Stress n seed) is = one refl
no_such_count (a ∷ b ∷ []) one three none command.Replay is = no_replay a b [] is
no_such_count (a ∷ b ∷ []) one three none (command.Gen n seed) is = is
no_such_count (a ∷ b ∷ []) one three none (command.Sum n seed) is = is
no_such_count (a ∷ b ∷ []) one three none (command.Stress n seed) is = is
no_such_count (a ∷ b ∷ c ∷ []) one three none command.Replay is = three refl
no_such_count (a ∷ b ∷ c ∷ []) one three none (command.Gen n seed) is = three refl
no_such_count (a ∷ b ∷ c ∷ []) one three none (command.Sum n seed) is = three refl
no_such_count (a ∷ b ∷ c ∷ []) one three none (command.Stress n seed) is = three refl
no_such_count (a ∷ b ∷ c ∷ d ∷ words) one three none command.Replay is = no_replay a b (c ∷ d ∷ words) is
no_such_count (a ∷ b ∷ c ∷ d ∷ words) one three none (command.Gen n seed) is = is
no_such_count (a ∷ b ∷ c ∷ d ∷ words) one three none (command.Sum n seed) is = is
no_such_count (a ∷ b ∷ c ∷ d ∷ words) one three none (command.Stress n seed) is = is

-- so they name what they ask for as those of a relay, or nothing
pub relay_or_none : (words : List (List ℕ)) → length words ≢ 1 → length words ≢ 3 → (o : Option Command)
    → MatchOption o ((order : RelayOrder) → IsRelay order words → ⊥) (λ c. Names c words) → MatchOption o ((c : Command) → Names c words → ⊥) (λ c. Names c words)
relay_or_none words one three None none = no_such_count words one three none
relay_or_none words one three (Some c) names = names

pub not_alone : (a : List ℕ) → a ≢ codes "replay" → (c : Command) → Names c (a ∷ []) → ⊥
not_alone a other command.Replay is = other (ap (λ words. get_or words 0 a) is)
not_alone a other (command.Gen n seed) is = is
not_alone a other (command.Sum n seed) is = is
not_alone a other (command.Relay order) is = is
not_alone a other (command.Stress n seed) is = is

-- words of two numbers that are no command but `stress`
module _ (a count from : List ℕ) where
  -- the second word spells no number of steps
  pub no_steps : ((n : ℕ) → SpellsUpTo 999999 n count → ⊥) → (c : Command) → Names c (a ∷ count ∷ from ∷ []) → a ≡ codes "stress"
  no_steps none command.Replay is = absurd (no_replay a count (from ∷ []) is)
  no_steps none (command.Gen n seed) is = absurd (none n is.1)
  no_steps none (command.Sum n seed) is = absurd (none n is.1)
  no_steps none (command.Relay order) is = absurd is
  no_steps none (command.Stress n seed) is = is.0

  -- the third word spells no seed
  pub no_seed : ((seed : ℕ) → SpellsUpTo (2 ^ 48 - 1) seed from → ⊥) → (c : Command) → Names c (a ∷ count ∷ from ∷ []) → a ≡ codes "stress"
  no_seed none command.Replay is = absurd (no_replay a count (from ∷ []) is)
  no_seed none (command.Gen n seed) is = absurd (none seed is.2)
  no_seed none (command.Sum n seed) is = absurd (none seed is.2)
  no_seed none (command.Relay order) is = absurd is
  no_seed none (command.Stress n seed) is = is.0

  -- the first word is the name of neither command of steps
  pub no_name : a ≢ codes "gen" → a ≢ codes "sum" → (c : Command) → Names c (a ∷ count ∷ from ∷ []) → a ≡ codes "stress"
  no_name gen sum command.Replay is = absurd (no_replay a count (from ∷ []) is)
  no_name gen sum (command.Gen n seed) is = absurd (gen is.0)
  no_name gen sum (command.Sum n seed) is = absurd (sum is.0)
  no_name gen sum (command.Relay order) is = absurd is
  no_name gen sum (command.Stress n seed) is = is.0

gen_no_stress : codes "stress" ≡ codes "gen" → ⊥
gen_no_stress same = let first : 115 ≡ 103 = ap (λ name. get_or name 0 0) same in absurd (omega (arith, first))

sum_no_stress : codes "stress" ≡ codes "sum" → ⊥
sum_no_stress same = let second : 116 ≡ 117 = ap (λ name. get_or name 1 0) same in absurd (omega (arith, second))

-- words behind `stress` that are none of it
module _ (count from : List ℕ) where
  -- the first of them spells no number of calls
  pub no_calls : ((n : ℕ) → SpellsUpTo 100000 n count → ⊥) → (c : Command) → Names c (codes "stress" ∷ count ∷ from ∷ []) → ⊥
  no_calls none command.Replay is = no_replay (codes "stress") count (from ∷ []) is
  no_calls none (command.Gen n seed) is = gen_no_stress is.0
  no_calls none (command.Sum n seed) is = sum_no_stress is.0
  no_calls none (command.Relay order) is = is
  no_calls none (command.Stress n seed) is = none n is.1

  -- the second spells no seed
  pub no_seed_of_calls : ((seed : ℕ) → SpellsUpTo (2 ^ 48 - 1) seed from → ⊥) → (c : Command) → Names c (codes "stress" ∷ count ∷ from ∷ []) → ⊥
  no_seed_of_calls none command.Replay is = no_replay (codes "stress") count (from ∷ []) is
  no_seed_of_calls none (command.Gen n seed) is = gen_no_stress is.0
  no_seed_of_calls none (command.Sum n seed) is = sum_no_stress is.0
  no_seed_of_calls none (command.Relay order) is = is
  no_seed_of_calls none (command.Stress n seed) is = none seed is.2

-- words of another name that name none by their numbers of steps name none
pub none_by_steps : (a count from : List ℕ) → a ≢ codes "stress" → (o : Option Command)
    → MatchOption o ((c : Command) → Names c (a ∷ count ∷ from ∷ []) → a ≡ codes "stress") (λ c. Names c (a ∷ count ∷ from ∷ []))
    → MatchOption o ((c : Command) → Names c (a ∷ count ∷ from ∷ []) → ⊥) (λ c. Names c (a ∷ count ∷ from ∷ []))
none_by_steps a count from other None none = λ c is. other (none c is)
none_by_steps a count from other (Some c) names = names

-- ## One command at most

-- the name and the numbers of words
same_numbers : (most many : ℕ) (name other : List ℕ) (n seed m from : ℕ) (words : List (List ℕ)) → IsOfNumbers most name n seed words → IsOfNumbers many other m from words
    → (name ≡ other) × (n ≡ m) × (seed ≡ from)
same_numbers most many name other n seed m from [] p q = absurd p
same_numbers most many name other n seed m from (a ∷ []) p q = absurd p
same_numbers most many name other n seed m from (a ∷ b ∷ []) p q = absurd p
same_numbers most many name other n seed m from (a ∷ b ∷ c ∷ []) p q =
    let first = p.1.0 in let second = q.1.0 in let third = p.2.0 in let fourth = q.2.0 in
    (sym p.0 ∙ q.0, cc, cc)
same_numbers most many name other n seed m from (a ∷ b ∷ c ∷ d ∷ words) p q = absurd p

one_number : (most other m n : ℕ) (word : List ℕ) → SpellsUpTo most m word → SpellsUpTo other n word → m ≡ n
one_number most other m n word first second = let a = first.0 in let b = second.0 in cc

-- words ask for one relay at most
same_order : (x y : RelayOrder) (words : List (List ℕ)) → IsRelay x words → IsRelay y words → x ≡ y
same_order x y [] p q = absurd p
same_order x y (a ∷ []) p q = absurd p
same_order x y (a ∷ b ∷ []) p q = absurd p
same_order x y (a ∷ b ∷ c ∷ []) p q = absurd p
same_order x y (a ∷ b ∷ c ∷ d ∷ []) p q = absurd p
same_order x y (a ∷ b ∷ c ∷ d ∷ e ∷ []) p q =
    let port = one_number _ _ x.port y.port b p.1 q.1 in
    let workers = one_number _ _ x.workers y.workers c p.2.0 q.2.0 in
    let idle = one_number _ _ x.idle y.idle d p.3.0 q.3.0 in
    let pairs = one_number _ _ x.pairs y.pairs e p.4.0 q.4.0 in
    λ j. record { port = port j; workers = workers j; idle = idle j; pairs = pairs j }
same_order x y (a ∷ b ∷ c ∷ d ∷ e ∷ f ∷ words) p q = absurd p

-- the sum of the letters of the first word, which is another for each command
abbrev letters_of : Command → ℕ
letters_of command.Replay = sum (codes "replay")
letters_of (command.Gen n seed) = sum (codes "gen")
letters_of (command.Sum n seed) = sum (codes "sum")
letters_of (command.Relay order) = sum (codes "relay")
letters_of (command.Stress calls seed) = sum (codes "stress")

letters_of_numbers : (most : ℕ) (name : List ℕ) (n seed : ℕ) (words : List (List ℕ)) → IsOfNumbers most name n seed words → sum (get_or words 0 []) ≡ sum name
letters_of_numbers most name n seed [] is = absurd is
letters_of_numbers most name n seed (a ∷ []) is = absurd is
letters_of_numbers most name n seed (a ∷ b ∷ []) is = absurd is
letters_of_numbers most name n seed (a ∷ b ∷ c ∷ []) is = ap sum is.0
letters_of_numbers most name n seed (a ∷ b ∷ c ∷ d ∷ words) is = absurd is

letters_of_relay : (order : RelayOrder) (words : List (List ℕ)) → IsRelay order words → sum (get_or words 0 []) ≡ sum (codes "relay")
letters_of_relay order [] is = absurd is
letters_of_relay order (a ∷ []) is = absurd is
letters_of_relay order (a ∷ b ∷ []) is = absurd is
letters_of_relay order (a ∷ b ∷ c ∷ []) is = absurd is
letters_of_relay order (a ∷ b ∷ c ∷ d ∷ []) is = absurd is
letters_of_relay order (a ∷ b ∷ c ∷ d ∷ e ∷ []) is = ap sum is.0
letters_of_relay order (a ∷ b ∷ c ∷ d ∷ e ∷ f ∷ words) is = absurd is

named : (command : Command) (words : List (List ℕ)) → Names command words → sum (get_or words 0 []) ≡ letters_of command
named command.Replay words is = ap (λ all. sum (get_or all 0 [])) is
named (command.Gen n seed) words is = letters_of_numbers _ (codes "gen") n seed words is
named (command.Sum n seed) words is = letters_of_numbers _ (codes "sum") n seed words is
named (command.Relay order) words is = letters_of_relay order words is
named (command.Stress calls seed) words is = letters_of_numbers _ (codes "stress") calls seed words is

-- words name one command at most
module _ (words : List (List ℕ)) where
  of_one_name : (x y : Command) → Names x words → Names y words → letters_of x ≡ letters_of y → x ≡ y
  of_one_name command.Replay command.Replay p q same = refl
  of_one_name (command.Gen n seed) (command.Gen m from) p q same =
      let numbers = same_numbers _ _ (codes "gen") (codes "gen") n seed m from words p q in λ j. command.Gen (numbers.1 j) (numbers.2 j)
  of_one_name (command.Sum n seed) (command.Sum m from) p q same =
      let numbers = same_numbers _ _ (codes "sum") (codes "sum") n seed m from words p q in λ j. command.Sum (numbers.1 j) (numbers.2 j)
  of_one_name (command.Relay order) (command.Relay other) p q same = ap (λ o. command.Relay o) (same_order order other words p q)
  of_one_name (command.Stress calls seed) (command.Stress m from) p q same =
      let numbers = same_numbers _ _ (codes "stress") (codes "stress") calls seed m from words p q in λ j. command.Stress (numbers.1 j) (numbers.2 j)
  of_one_name x y p q same = absurd (omega (arith, same))

  pub one_command : (x y : Command) → Names x words → Names y words → x ≡ y
  one_command x y p q = of_one_name x y p q (sym (named x words p) ∙ named y words q)
