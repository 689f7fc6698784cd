-- The places of pairs, and what became of the connections that stand behind them.
use Rattle.std.specs.Prelude.{◌≡◌, ◌⊎◌, ℕ, Bool, false, List, [], ◌∷◌, Result, Ok, Err, ⊤}
use Rattle.atomic_table.specs.Seated.{TableId}
use Rattle.aio_base.specs.Connections.{Telling}
use Rattle.aio_base.specs.declared.outcomes.ArmFault.{ArmFault}
use Rattle.aio_base.specs.declared.outcomes.CountFault.{CountFault}
use Rattle.aio_pairs.specs.Fits.{ToGive, to_give}
use Rattle.aio_places.specs.SourceEnds.{IsRestOf, SourceEndValue, is_sure_end, told_by}
use Rattle.aio_pairs.specs.Backlogs.{fresh_side}
use Rattle.aio_sources.specs.Sources.{SourceRefValue}

-- ## Places

-- what a connection has to give of which no byte went over yet
abbrev pub all_of : Telling → (sure : Bool) → ToGive
all_of telling sure = to_give fresh_side telling sure

abbrev pub end_gives : SourceEndValue → ToGive
end_gives end = all_of (told_by end.rest) (is_sure_end end.rest end.told)

-- the place of a pair: the ends of its two connections, that of side A first; or the fault of a connection that could not join the reactor
abbrev pub PlaceValue : Type 0
PlaceValue = Result (SourceEndValue × SourceEndValue) ArmFault

-- ## The connections of the places

-- the end over the source of a token, which told no fault yet
abbrev pub new_end : SourceRefValue → SourceEndValue
new_end token = record { words = token.words; key = token.key; lock = token.lock; rest = token.rest; visits = token.visits; taken = token.taken; told = 0 }

-- The place of two connections, by what became of them as the reactor began: their ends, or the first fault of the two.
abbrev pub IsPlaceOf : (a b : Result SourceRefValue ArmFault) → PlaceValue → Type 0
IsPlaceOf (Err fault) b place = place ≡ Err fault
IsPlaceOf (Ok a) (Err fault) place = place ≡ Err fault
IsPlaceOf (Ok a) (Ok b) place = place ≡ Ok (new_end a, new_end b)

-- Where one of two connections alone has joined, it was closed: one `remove` of its key was made on a connection with its rest, and had some answer.
abbrev pub ClosesOther : (removes : (key : ℕ) → (rest : List ℕ) → Result (Unit {0}) CountFault → Type 0) → (a b : Result SourceRefValue ArmFault) → Type 0
ClosesOther removes (Ok a) (Ok b) = ⊤
ClosesOther removes (Ok a) (Err fault) = (answer : Result (Unit {0}) CountFault) × removes a.key a.rest answer
ClosesOther removes (Err fault) (Ok b) = (answer : Result (Unit {0}) CountFault) × removes b.key b.rest answer
ClosesOther removes (Err fault) (Err other) = ⊤

-- two answers for each place, in order
abbrev pub ArePlacesOf : List (Result SourceRefValue ArmFault) → List PlaceValue → Type 0
ArePlacesOf [] [] = ⊤
ArePlacesOf [] (place ∷ places) = ⊥
ArePlacesOf (a ∷ []) places = ⊥
ArePlacesOf (a ∷ b ∷ answers) [] = ⊥
ArePlacesOf (a ∷ b ∷ answers) (place ∷ places) = IsPlaceOf a b place × ArePlacesOf answers places

-- A connection that joined the reactor with these words has a token, which is outside and knows the rest of some connection.
abbrev pub HasJoined : {C : Type 0} → (C → List ℕ) → TableId → Result SourceRefValue ArmFault → Type 0
HasJoined rest_of words (Ok token) = (token.words ≡ words) × (token.inside ≡ false) × IsRestOf rest_of token.rest
HasJoined rest_of words (Err fault) = ⊤

-- A place stands for two connections: its ends have to give what they give, side A's first; or it has a fault, and then one of the two is not sure.
abbrev pub StandsFor : {C : Type 0} → (C → Telling) → (sure : C → Bool) → (a b : C) → PlaceValue → Type 0
StandsFor telling sure a b (Ok ends) = (end_gives ends.0 ≡ all_of (telling a) (sure a)) × (end_gives ends.1 ≡ all_of (telling b) (sure b))
StandsFor telling sure a b (Err fault) = (sure a ≡ false) ⊎ (sure b ≡ false)

-- two connections for each place, in order
abbrev pub AllStandFor : {C : Type 0} → (C → Telling) → (sure : C → Bool) → List C → List PlaceValue → Type 0
AllStandFor telling sure [] [] = ⊤
AllStandFor telling sure [] (place ∷ places) = ⊥
AllStandFor telling sure (a ∷ []) places = ⊥
AllStandFor telling sure (a ∷ b ∷ conns) [] = ⊥
AllStandFor telling sure (a ∷ b ∷ conns) (place ∷ places) = StandsFor telling sure a b place × AllStandFor telling sure conns places
