-- What the threads of a reactor are made of, and under which devices each of them runs.
use Rattle.std.specs.Prelude.{◌≡◌, ◌⊎◌, ℕ, zero, suc, ◌+◌, Bool, IsTrue, List, [], ◌∷◌, ⊤}
use Rattle.aio_base.specs.ClockBounds.{ClockBounds}
use Rattle.aio_shared.specs.Members.{MemberValue, SharedValue, with_one_more_made}
use Rattle.aio_park.specs.Stopping.{StopsFor}
use Rattle.aio_park.specs.declared.to_end.WorkerFault.{WorkerFault}
use Rattle.aio_park.specs.declared.to_end.WorkerFault.TheVariants as stop

-- a post: the reactor, a member of it, a clock and a parker
pub record PostValue (N C : Type 0) : Type 0 where
  pub shared : SharedValue
  pub member : MemberValue N
  pub clock : C
  pub parker : ℕ

-- ## Terms

-- Under which devices a thread runs: the bounds that its clock tells, whether its notifier is sure, and whether its reactor is sure of its wait.
pub record ThreadTerms : Type 0 where
  pub bounds : ClockBounds
  pub is_sure : Bool
  pub sure_of_wait : Bool

module _ {N C : Type 0} (bounds_of : C → ClockBounds) (is_sure : N → Bool) where
  -- those of a thread by this member and this clock
  abbrev pub member_terms : MemberValue N → C → ThreadTerms
  member_terms m clock = record { bounds = bounds_of clock; is_sure = is_sure m.notifier; sure_of_wait = m.claim.sure_of_wait }

  abbrev pub post_terms : PostValue N C → ThreadTerms
  post_terms p = member_terms p.member p.clock

-- A thread runs under lent devices: by a clock with the same bounds, by a notifier that is sure where the lent one is, and in a reactor that is sure of its
-- wait where the lent wait is sure.
pub record RunsUnder (lent own : ThreadTerms) : Type 0 where
  pub bounds : own.bounds ≡ lent.bounds
  pub notifier : IsTrue lent.is_sure → IsTrue own.is_sure
  pub wait : IsTrue lent.sure_of_wait → IsTrue own.sure_of_wait

-- ## Posts of one reactor

-- each has a parker of its own: these have the parkers from a first one on, in their order
abbrev pub HaveParkers : {X : Type 0} → (parker_of : X → ℕ) → (first : ℕ) → List X → Type 0
HaveParkers parker_of first [] = ⊤
HaveParkers parker_of first (x ∷ xs) = (parker_of x ≡ first) × HaveParkers parker_of (first + 1) xs

-- A post of this reactor, which runs under these devices.
pub record IsPostOf {N C : Type 0} (bounds_of : C → ClockBounds) (is_sure : N → Bool) (shared : SharedValue) (lent : ThreadTerms) (p : PostValue N C) : Type 0 where
  pub reactor : p.shared ≡ shared
  pub under : RunsUnder lent (post_terms bounds_of is_sure p)

-- the first member of a reactor, once it has made so many more
abbrev pub with_made : {N : Type 0} → ℕ → MemberValue N → MemberValue N
with_made zero first = first
with_made (suc n) first = with_one_more_made (with_made n first)

-- ## Why threads stop

-- one of these threads stops for this fault, or memory ran out
abbrev pub OneStopsFor : {X : Type 0} → (terms_of : X → ThreadTerms) → List X → WorkerFault → Type 0
OneStopsFor terms_of [] fault = fault ≡ stop.OutOfMemory
OneStopsFor terms_of (x ∷ xs) fault = StopsFor (terms_of x).sure_of_wait (terms_of x).is_sure fault ⊎ OneStopsFor terms_of xs fault
