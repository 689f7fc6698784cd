-- The faults of a poller over the sections of a round, of which the first is kept.
use Rattle.std.proofs.Common.{◌≡◌, ℕ, ◌≤◌, Bool, Option, None, Some, IfSome, IsSome, option_map, refl, sym, ap, ◌∙◌, subst, arith}
use Rattle.std.specs.Option.{option_or}
use Rattle.aio_base.specs.declared.names.Key.{Key}
use Rattle.aio_base.specs.declared.outcomes.ArmFault.{ArmFault}
use Rattle.aio_base.specs.Devices.{TellsFaults}
use Rattle.aio_react.specs.declared.outcomes.Handled.{Handled}
use Rattle.aio_source.specs.declared.in_hand.RoundFault.{RoundFault}
use Rattle.aio_source.specs.declared.in_hand.RoundFault.TheVariants.{Wait, Arm}
use Rattle.aio_react.specs.Reacting.{RisesWithin, FaultsSince}

rises_wider : (a b c d : ℕ) (fault : RoundFault) → a ≤ b → c ≤ d → RisesWithin b c fault → RisesWithin a d fault
rises_wider a b c d (Wait fault) low high rises = (omega (arith, rises.0), rises.1, omega (arith, rises.2))
rises_wider a b c d (Arm fault) low high rises = (omega (arith, rises.0), rises.1, omega (arith, rises.2))

either_rises : (start now next : ℕ) (kept fault : Option RoundFault) → start ≤ now → now ≤ next → IfSome kept (RisesWithin start now) → IfSome fault (RisesWithin now next)
    → IfSome (option_or kept fault) (RisesWithin start next)
either_rises start now next None None low high first second = tt
either_rises start now next None (Some fault) low high first second = rises_wider start now next next fault low (omega arith) second
either_rises start now next (Some kept) fault low high first second = rises_wider start start now next kept (omega arith) high first

none_failed : (fault : Option RoundFault) → ¬ (IsSome fault) → fault ≡ None
none_failed None never = refl
none_failed (Some fault) never = absurd (never refl)

-- one more call of the poller, with the fault that it made
pub since_kept : {P : Type 0} (count : P → ℕ) (is_sure : P → Bool) (start now next : P) (kept fault : Option RoundFault) → FaultsSince count is_sure start now kept
    → TellsFaults count is_sure now next (IsSome fault) → IfSome fault (RisesWithin (count now) (count next)) → FaultsSince count is_sure start next (option_or kept fault)
since_kept {P = P} count is_sure start now next kept fault since tells rises =
    let one = since.later in
    let two = tells.cause.later in
    record {
      later = omega (arith, one, two);
      sure = tells.sure ∙ since.sure;
      never = λ surely.
          let before = since.never surely in
          let after = tells.cause.never (since.sure ∙ surely) in
          (ap (λ (k : Option RoundFault). option_or k fault) before.0 ∙ none_failed fault after.0, after.1 ∙ before.1);
      rises = either_rises (count start) (count now) (count next) kept fault one two since.rises rises;
    }

pub arm_since : {P : Type 0} (count : P → ℕ) (is_sure : P → Bool) (start now next : P) (kept : Option RoundFault) (key : Key) (fault : Option ArmFault) → FaultsSince count is_sure start now kept
    → TellsFaults count is_sure now next (IsSome fault) → IfSome fault (λ fault. fault ≡ record { key = key; before = count now; after = count next })
    → FaultsSince count is_sure start next (option_or kept (option_map Arm fault))
arm_since {P = P} count is_sure start now next kept key None since tells is = since_kept count is_sure start now next kept None since tells tt
arm_since {P = P} count is_sure start now next kept key (Some fault) since tells is =
    since_kept count is_sure start now next kept (Some (Arm fault)) since tells
    (subst (λ (f : ArmFault). RisesWithin (count now) (count next) (Arm f)) (sym is) (omega arith, tells.cause.rose refl, omega arith))

-- by the handling of an event that was done
pub handle_since : {P : Type 0} (count : P → ℕ) (is_sure : P → Bool) (start now next : P) (kept left : Option RoundFault) (handled : Handled) → FaultsSince count is_sure start now kept
    → TellsFaults count is_sure now next (IsSome handled.fault) → IfSome handled.fault (λ fault. fault ≡ record { key = handled.key; before = count now; after = count next })
    → left ≡ option_or kept (option_map Arm handled.fault) → FaultsSince count is_sure start next left
handle_since {P = P} count is_sure start now next kept left handled since tells is left_is =
    subst (FaultsSince count is_sure start next) (sym left_is) (arm_since count is_sure start now next kept handled.key handled.fault since tells is)
