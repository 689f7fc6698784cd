-- What wrong locks would leave, which the rule of a lock refuses.
use Rattle.std.proofs.Common.{◌≡◌, ◌≢◌, ℕ, true, List, [], ◌∷◌, sym, ap, ◌∙◌, refl, Some, None, arith}
use Rattle.std.proofs.lemmas.Option.{same_Some, none-some}
use mathlib.Core.Option.{some, none, some-injective, some-ne-none}
use Rattle.aio_rules.specs.declared.lock_views.LockView.{LockView}
use Rattle.aio_rules.specs.declared.lock_views.LockSeat.{LockSeat}
use Rattle.aio_rules.specs.SharedLock.{nobody, first_owner, second_owner, took_out, with_slot, without_slot}
use Rattle.aio_rules.specs.LockLaws.{SeatsRule}

module _ {T : Type 0} (n0 n1 : T → List ℕ) where
  -- a new lock that is open before there is a value
  opens_without_value : (seats : List LockSeat) → SeatsRule n0 n1 0 (some None) seats → ⊥
  opens_without_value seats r = let full = r.full refl in none-some full.value (some-injective None (Some full.value) full.there)

  -- a new lock whose owner of number 0 owns number 1 too
  abbrev owns_both : LockView → LockView
  owns_both v = record v { owns_second = true }

  number_with_two_owners : (place : _) → SeatsRule n0 n1 1 place (without_slot (owns_both (took_out [] [] (first_owner []))) ∷ without_slot (second_owner []) ∷ []) → ⊥
  number_with_two_owners place r = let two : 2 ≡ 1 = r.second_owned in omega arith

  -- a visit that goes on where it found the lock taken
  two_inside : (place : _) (a b : List ℕ) → SeatsRule n0 n1 1 place (without_slot (took_out [] [] (first_owner [])) ∷ without_slot (second_owner []) ∷ with_slot (took_out a b nobody) ∷ []) → ⊥
  two_inside place a b r = let two : 2 ≡ 1 = r.takers in omega arith

  -- a store that leaves the slot out
  opens_with_slot_out : (seats : List LockSeat) → SeatsRule n0 n1 0 none seats → ⊥
  opens_with_slot_out seats r = let full = r.full refl in some-ne-none (Some full.value) (sym full.there)

  -- a visitor that changes the note of number 0
  visitor_changes_note : (y : T) (note : List ℕ) → n0 y ≢ note → SeatsRule n0 n1 0 (some (Some y)) (without_slot (first_owner note) ∷ without_slot (second_owner []) ∷ without_slot nobody ∷ []) → ⊥
  visitor_changes_note y note apart r = let full = r.full refl in
      apart (ap n0 (same_Some y full.value (some-injective (Some y) (Some full.value) full.there)) ∙ full.first_is ∙ sym ((r.knows 0 (without_slot (first_owner note)) refl).of_first refl))
