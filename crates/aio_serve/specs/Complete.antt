-- When pairs have to end, and when a server has to answer their ends.
use Rattle.std.specs.Prelude.{ℕ, ◌+◌, ◌<◌, ◌≤◌, IsTrue, List, [], ◌∷◌, length, take, drop, IsSomeAnd, ⊤}
use Rattle.aio_base.specs.Connections.{Telling}
use Rattle.aio_pairs.specs.Lines.{HasNoLineFeed, longest_line}
use Rattle.aio_pairs.specs.declared.outcomes.PairEnd.{PairEnd}
use Rattle.aio_pairs.specs.declared.outcomes.PairEnd.TheVariants as pair
use Rattle.aio_serve.specs.Places.{Terms, earliest_of, latest_of}

-- no 4,096 bytes, one behind the other, are without a line feed
abbrev pub AreShortLines : List ℕ → Type 0
AreShortLines bytes = (n : ℕ) → n + longest_line ≤ length bytes → ¬ HasNoLineFeed (take longest_line (drop n bytes))

-- a connection that tells all its bytes, ends behind them, and has no line that is too long
abbrev pub EndsInShortLines : Telling → Type 0
EndsInShortLines t = IsSomeAnd t.left AreShortLines × IsTrue t.ends

-- this holds of the connections of pairs with these ends: of the first two for each end
abbrev pub AllOfPairs : {C : Type 0} → (C → Type 0) → List C → List PairEnd → Type 0
AllOfPairs Holds conns [] = ⊤
AllOfPairs Holds [] (end ∷ ends) = ⊥
AllOfPairs Holds (a ∷ []) (end ∷ ends) = ⊥
AllOfPairs Holds (a ∷ b ∷ conns) (end ∷ ends) = Holds a × Holds b × AllOfPairs Holds conns ends

-- the idle time can't pass by this clock
abbrev pub NoneIsIdle : Terms → Type 0
NoneIsIdle t = latest_of t.bounds.greatest < earliest_of t.bounds.least + t.idle

-- all whole lines of both sides went over, or memory ran out
abbrev pub IsComplete : PairEnd → Type 0
IsComplete (pair.Ended to_a to_b) = ⊤
IsComplete pair.OutOfMemory = ⊤
IsComplete _ = ⊥
