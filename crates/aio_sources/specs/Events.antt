-- What becomes of the events of a round at the sources of a table.
use Rattle.std.specs.Prelude.{◌≡◌, ◌⊎◌, ℕ, Bool, false, List, [], ◌∷◌, ◌++◌, Option, None, Some, Result, ⊤}
use Rattle.std.specs.List.{Contains}
use Rattle.aio_base.specs.declared.names.Event.{Event}
use Rattle.aio_base.specs.declared.names.Key.{Key}
use Rattle.aio_base.specs.declared.outcomes.ArmFault.{ArmFault}
use Rattle.aio_base.specs.declared.outcomes.Failed.{Failed}
use Rattle.aio_base.specs.Devices.{ArmCall, Interests, Rose}
use Rattle.aio_source.specs.declared.in_hand.RoundFault.{RoundFault}
use Rattle.aio_source.specs.declared.in_hand.RoundFault.TheVariants.{Wait, Arm}
use Rattle.aio_source.specs.InHand.{RoundValue, arm_told, handled, handling_first, skipped, taken_first}
use Rattle.aio_source.specs.declared.source.SourceCell.{SourceCell}
use Rattle.aio_source.specs.Lent.{arm_answer, fault_of, UsesArm, arm_of, settled}
use Rattle.aio_source.specs.Values.{SourceValue}
use Rattle.aio_base.specs.declared.names.Waker.{Waker}

-- The first fault of a round stays. A new one is that of an arm, whose count rose, in a reactor that is not sure of its arms.
abbrev pub KeepsFault : Bool → Option RoundFault → Option RoundFault → Type 0
KeepsFault all_sure (Some fault) after = after ≡ Some fault
KeepsFault all_sure None None = ⊤
KeepsFault all_sure None (Some (Arm fault)) = (all_sure ≡ false) × Rose fault.before fault.after
KeepsFault all_sure None (Some (Wait fault)) = ⊥

-- The first event in hand was handled on a source of this key: the wakers that it gave joined those taken, and the first fault stays.
pub record HandlesOn (key : Key) (old new : RoundValue) : Type 0 where
  pub source : SourceValue
  pub key_is : source.key ≡ key
  pub fault : Option ArmFault
  pub round : new ≡ handled old (taken_first old source) fault

module _ {S : Type 0} (step : S → ArmCall → Result (Unit {0}) Failed → S → Type 0) (tells : S → Option Interests) (rest : S → List ℕ) (count : S → ℕ)
    (is_sure : S → Bool) where
  -- The same on this source, as it was found and as it was put back, whose own connection was lent to it as the arm: the waiters of the directions that the
  -- event names went, the connection was armed where the source asked for it, and the fault is the connection's. Nothing else was done to either.
  pub record HandlesBy (found put : SourceCell S) (old new : RoundValue) : Type 0 where
    pub fault : Option ArmFault
    pub round : new ≡ handled old (taken_first old found.state) fault
    pub source : put.state ≡ settled (handling_first old found.state).arms (arm_answer (arm_told fault)) (handling_first old found.state).source
    pub lent : UsesArm step tells rest count is_sure (handling_first old found.state).arms (arm_of (handling_first old found.state).source)
        (arm_answer (arm_told fault)) found.io put.io
    pub counts : arm_told fault ≡ fault_of found.state.key (count found.io) (count put.io) (arm_answer (arm_told fault))

  -- A source of this key did so, which is not named.
  pub record HandlesByKey (key : Key) (old new : RoundValue) : Type 0 where
    pub found : SourceCell S
    pub key_is : found.state.key ≡ key
    pub put : SourceCell S
    pub handles : HandlesBy found put old new

-- What became of the first event in hand, where there are sources of these keys: a source of its key handled it, and it was skipped exactly where none
-- has its key. It is in hand no longer.
pub record HandlesOne (all_sure : Bool) (keys : List ℕ) (event : Event) (old new : RoundValue) : Type 0 where
  pub hand : old.hand ≡ event ∷ new.hand
  pub became : (Contains keys event.key.0 × HandlesOn event.key old new) ⊎ ((Contains keys event.key.0 → ⊥) × (new ≡ skipped old))
  pub fault : KeepsFault all_sure old.fault new.fault

-- What became of these events, the first ones in hand, one after the other.
abbrev pub HandlesEach : Bool → List ℕ → List Event → RoundValue → RoundValue → Type 0
HandlesEach all_sure keys [] old new = new ≡ old
HandlesEach all_sure keys (event ∷ events) old new =
    (mid : RoundValue) × HandlesOne all_sure keys event old mid × HandlesEach all_sure keys events mid new

-- Some events are in hand no longer, the first ones: each was handled by a source of its key, or skipped where the table had none. The wakers that their
-- sources gave joined those taken, at their end. The first fault stays.
pub record HandlesSome (all_sure : Bool) (old new : RoundValue) : Type 0 where
  pub keys : List ℕ
  pub handled : List Event
  pub each : HandlesEach all_sure keys handled old new
  pub hand : old.hand ≡ handled ++ new.hand
  pub more : List Waker
  pub taken : new.taken ≡ old.taken ++ more
  pub fault : KeepsFault all_sure old.fault new.fault
  pub running : new.running ≡ old.running
  pub number : new.number ≡ old.number
  pub limit : new.limit ≡ old.limit
  pub last : new.last ≡ old.last

-- The same at a table with these keys: the events were handled by sources of this table, and those that were skipped are of keys that it has not.
abbrev pub HandlesAt : List ℕ → Bool → RoundValue → RoundValue → Type 0
HandlesAt keys all_sure old new = (some : HandlesSome all_sure old new) × (some.keys ≡ keys)
