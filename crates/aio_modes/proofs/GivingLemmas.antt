-- The events of the first keys of which something is owed, one key more.
use Rattle.std.proofs.Common.{◌≡◌, ◌<◌, ◌≤◌, ◌+◌, ◌++◌, ℕ, zero, suc, Bool, true, false, cond, List, [], ◌∷◌, length, take, refl, ◌∙◌, ap, arith}
use Rattle.std.proofs.lemmas.List.FromFn.{filter_of_map_range_with_len_more}
use Rattle.aio_base.specs.Devices.{Interests}
use Rattle.aio_base.specs.World.{has_any}
use Rattle.aio_modes.specs.Interests.{has_directions}
use Rattle.aio_modes.specs.Raw.{owed_events, event_of}

take-one : {X : Type 0} (n : ℕ) (x : X) → take (suc n) (x ∷ []) ≡ x ∷ []
take-one zero x = refl
take-one (suc n) x = refl

-- one more fits
fits : {X : Type 0} (n : ℕ) (xs : List X) (x : X) → length (take n xs) < n → take n (xs ++ x ∷ []) ≡ take n xs ++ x ∷ []
fits zero xs x less = absurd (omega arith)
fits (suc n) [] x less = take-one n x
fits (suc n) (y ∷ ys) x less = ap (λ zs. y ∷ zs) (fits n ys x (omega arith))

-- one more is cut off
cut_off : {X : Type 0} (n : ℕ) (xs : List X) (x : X) → n ≤ length (take n xs) → take n (xs ++ x ∷ []) ≡ take n xs
cut_off zero xs x full = refl
cut_off (suc n) [] x full = absurd (omega arith)
cut_off (suc n) (y ∷ ys) x full = ap (λ zs. y ∷ zs) (cut_off n ys x (omega arith))

append-nil : {X : Type 0} (xs : List X) → xs ++ [] ≡ xs
append-nil [] = refl
append-nil (x ∷ xs) = ap (λ zs. x ∷ zs) (append-nil xs)

more : (owed : Interests) (n : ℕ) → owed_events owed (n + 1) ≡ owed_events owed n ++ cond (has_any (owed n)) (event_of owed n ∷ []) []
unfolding owed_events
more owed n = filter_of_map_range_with_len_more has_directions (event_of owed) 0 n n (omega arith)

-- the next key is given
pub one_more_given : (owed : Interests) (n room : ℕ) → has_any (owed n) ≡ true → length (take room (owed_events owed n)) < room → take room (owed_events owed (n + 1)) ≡ take room (owed_events owed n) ++ event_of owed n ∷ []
one_more_given owed n room some less =
    ap (take room) (more owed n ∙ ap (λ (t : Bool). owed_events owed n ++ cond t (event_of owed n ∷ []) []) some) ∙ fits room (owed_events owed n) (event_of owed n) less

-- there is no room for the next key
pub one_more_cut_off : (owed : Interests) (n room : ℕ) → has_any (owed n) ≡ true → room ≤ length (take room (owed_events owed n)) → take room (owed_events owed (n + 1)) ≡ take room (owed_events owed n)
one_more_cut_off owed n room some full =
    ap (take room) (more owed n ∙ ap (λ (t : Bool). owed_events owed n ++ cond t (event_of owed n ∷ []) []) some) ∙ cut_off room (owed_events owed n) (event_of owed n) full

-- nothing is owed of the next key
pub one_more_passed : (owed : Interests) (n room : ℕ) → has_any (owed n) ≡ false → take room (owed_events owed (n + 1)) ≡ take room (owed_events owed n)
one_more_passed owed n room none =
    ap (take room) (more owed n ∙ ap (λ (t : Bool). owed_events owed n ++ cond t (event_of owed n ∷ []) []) none ∙ append-nil (owed_events owed n))

pub none_owed : (owed : Interests) (room : ℕ) → take room (owed_events owed 0) ≡ []
unfolding owed_events
none_owed owed zero = refl
none_owed owed (suc room) = refl
