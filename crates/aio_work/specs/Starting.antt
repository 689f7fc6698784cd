-- What workers begin with: their deques, and the places in them.
use Rattle.std.specs.Prelude.{◌≡◌, ℕ, zero, suc, ◌+◌, List, [], ◌∷◌, ◌++◌, map}
use Rattle.aio_turns.specs.Passes.{DequeId, OwnView, ThiefView}
use Rattle.aio_turns.specs.declared.entries.TurnEntry.{TurnEntry}
use Rattle.aio_work.specs.declared.workload.Workload.{Workload}

-- so many numbers, from this one on
abbrev pub numbers : ℕ → ℕ → List ℕ
numbers first zero = []
numbers first (suc n) = first ∷ numbers (first + 1) n

-- the places that an owner pushed
abbrev pub places_of : OwnView → List ℕ
places_of own = map (λ (e : TurnEntry). e.place) own.pushed

-- an owner that pushed nothing yet
abbrev pub IsUnused : OwnView → Type 0
IsUnused own = own.pushed ≡ []

-- what an owner is but for the thieves that it made: its deque, and what it pushed
abbrev pub sight : OwnView → DequeId × List TurnEntry
sight own = (own.deque, own.pushed)

abbrev pub deques_of : List OwnView → List DequeId
deques_of owns = map (λ (own : OwnView). own.deque) owns

abbrev pub deque_of_thief : ThiefView → DequeId
deque_of_thief thief = thief.deque

-- Of these deques these are thieves at all but this one, at the next one first.
pub record AreAllOthers (deques : List DequeId) (deque : DequeId) (others : List ThiefView) : Type 0 where
  pub before : List DequeId
  pub behind : List DequeId
  pub all : deques ≡ before ++ deque ∷ behind
  pub are : map deque_of_thief others ≡ behind ++ before

-- a worker has thieves at all deques but its own
abbrev pub HasAllOthers : List DequeId → Workload → Type 0
HasAllOthers deques w = AreAllOthers deques w.own.deque w.others.items
