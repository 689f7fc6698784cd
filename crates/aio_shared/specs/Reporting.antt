-- What is answered for a round that ended, and for a timer that was registered.
use Rattle.std.specs.Prelude.{◌≡◌, ℕ, ◌≤◌, Bool, if◌then◌else◌, length, Option, None, Some, Result, Ok, Err}
use Rattle.aio_base.specs.declared.names.TimerId.{TimerId}
use Rattle.aio_base.specs.declared.outcomes.CountFault.{CountFault}
use Rattle.aio_base.specs.Devices.{Rose}
use Rattle.aio_base.specs.declared.hosts.InsertRefusal.{InsertRefusal}
use Rattle.aio_base.specs.declared.hosts.InsertRefusal.TheVariants as refusal
use Rattle.aio_source.specs.declared.in_hand.RoundFault.TheVariants as round_fault
use Rattle.aio_source.specs.InHand.{RoundValue}
use Rattle.aio_react.specs.Rounds.{given_by}
use Rattle.aio_shared.specs.declared.reacting.ReactedIn.{ReactedIn}
use Rattle.aio_shared.specs.declared.reacting.ReactFault.{ReactFault}
use Rattle.aio_shared.specs.declared.reacting.ReactFault.TheVariants as react_fault

-- what is answered for a round that ended, by the first fault of its wakes, where there was one: its own fault first
abbrev pub Reports : RoundValue → Option CountFault → Bool → ℕ → Result ReactedIn ReactFault → Type 0
Reports round failed resumed in_hand (Ok reacted) = (failed ≡ None) × (round.fault ≡ None) × (reacted.resumed ≡ resumed)
    × (reacted.events ≡ (if resumed then in_hand else given_by round.last)) × (reacted.events ≤ 1024) × (reacted.woken ≡ length round.taken)
Reports round failed resumed in_hand (Err (react_fault.Wait fault)) = (round.fault ≡ Some (round_fault.Wait fault)) × Rose fault.before fault.after
Reports round failed resumed in_hand (Err (react_fault.Arm fault)) = (round.fault ≡ Some (round_fault.Arm fault)) × Rose fault.before fault.after
Reports round failed resumed in_hand (Err (react_fault.Notify fault)) = (round.fault ≡ None) × (failed ≡ Some fault)
Reports round failed resumed in_hand (Err react_fault.RoundsSpent) = ⊥
Reports round failed resumed in_hand (Err react_fault.OutOfMemory) = ⊥

-- what an insert answers that registered its timer under this id, by what its notify answered
abbrev pub told_of : TimerId → Result (Unit {0}) CountFault → Result TimerId InsertRefusal
told_of id (Ok done) = Ok id
told_of id (Err fault) = Err (refusal.Notify id fault)
