-- A loop that cuts each event in its place.
use Rattle.std.proofs.Common.{◌≡◌, ◌<◌, ◌≤◌, ◌+◌, ◌-◌, ◌++◌, ℕ, zero, suc, true, false, List, [], ◌∷◌, length, map, take, drop, get_or, set, refl, ap, subst, ◌∙◌, arith}
use Rattle.std.proofs.Math.Seq.{drop-append_seam}
use Rattle.std.proofs.lemmas.List.{take_all, length-append}
use Rattle.std.proofs.lemmas.List.Edits.{map_over_more}
use Rattle.aio_base.specs.declared.names.Event.{Event}
use Rattle.aio_base.specs.Devices.{Interests}
use Rattle.std.proofs.lemmas.List.Filters.{FiltersInPlace, FiltersInPlace-more_set, FiltersInPlace-more_no}
use Rattle.aio_modes.specs.Interests.{cut_event, has_directions}

pub one_more_cut : (armed : Interests) (xs ys : List Event) (i : ℕ) (x : Event) → i < length xs → ys ≡ map (cut_event armed) (take i xs) ++ drop i xs → x ≡ get_or ys i x → set ys i (cut_event armed x) ≡ map (cut_event armed) (take (i + 1) xs) ++ drop (i + 1) xs
one_more_cut armed xs ys i x = map_over_more (cut_event armed) xs ys i x

pub one_more_kept : {all now : List Event} {left i : ℕ} {x : Event} → FiltersInPlace has_directions all now left i → i < length now → has_directions x ≡ true → x ≡ get_or now i x → FiltersInPlace has_directions all (set now left x) (left + 1) (i + 1)
one_more_kept so_far within some same = FiltersInPlace-more_set so_far within some same

pub one_more_dropped : {all now : List Event} {left i : ℕ} {x : Event} → FiltersInPlace has_directions all now left i → i < length now → has_directions x ≡ false → x ≡ get_or now i x → FiltersInPlace has_directions all now left (i + 1)
one_more_dropped so_far within none same = FiltersInPlace-more_no so_far within none same

-- what stands behind the first ones, as a slice
pub slice_from : (before events now : List Event) (start : ℕ) → length before ≡ start → now ≡ before ++ events → take (length now - start) (drop start now) ≡ events
slice_from before events now start long is =
    let dropped : drop start now ≡ events = subst (λ (k : ℕ). drop k now ≡ events) long (ap (drop (length before)) is ∙ drop-append_seam before events) in
    let len : length now ≡ length before + length events = ap length is ∙ length-append before events in
    ap (take (length now - start)) dropped ∙ take_all (length now - start) events (omega arith)

take-shorter : (n m : ℕ) (xs : List Event) → n ≤ m → take n (take m xs) ≡ take n xs
take-shorter zero m xs less = refl
take-shorter (suc n) zero xs less = absurd (omega arith)
take-shorter (suc n) (suc m) [] less = refl
take-shorter (suc n) (suc m) (x ∷ xs) less = ap (λ ys. x ∷ ys) (take-shorter n m xs (omega arith))

take-over : (before xs : List Event) (k n : ℕ) → k ≡ length before + n → take k (before ++ xs) ≡ before ++ take n xs
take-over [] xs k n is = ap (λ j. take j xs) (omega arith)
take-over (b ∷ before) xs zero n is = absurd (omega arith)
take-over (b ∷ before) xs (suc k) n is = ap (λ ys. b ∷ ys) (take-over before xs k n (omega arith))

take-first : (n : ℕ) (xs ys : List Event) → n ≤ length xs → take n (xs ++ ys) ≡ take n xs
take-first zero xs ys less = refl
take-first (suc n) [] ys less = absurd (omega arith)
take-first (suc n) (x ∷ xs) ys less = ap (λ zs. x ∷ zs) (take-first n xs ys (omega arith))

append-assoc : (xs ys zs : List Event) → (xs ++ ys) ++ zs ≡ xs ++ (ys ++ zs)
append-assoc [] ys zs = refl
append-assoc (x ∷ xs) ys zs = ap (λ us. x ∷ us) (append-assoc xs ys zs)

-- what is left of a list whose end was changed in place
pub front_of : (before now behind rest : List Event) (start left len : ℕ) → length before ≡ start → left ≤ length now → start + left ≤ len → take (start + left) (take len ((before ++ (now ++ behind)) ++ rest)) ≡ before ++ take left now
front_of before now behind rest start left len long less within =
    take-shorter (start + left) len ((before ++ (now ++ behind)) ++ rest) within
    ∙ ap (take (start + left)) (append-assoc before (now ++ behind) rest)
    ∙ take-over before ((now ++ behind) ++ rest) (start + left) left (omega arith)
    ∙ ap (λ xs. before ++ xs) (ap (take left) (append-assoc now behind rest) ∙ take-first left now (behind ++ rest) less)

-- the same, where the first ones are what stood before
pub front_in : (first before now behind rest : List Event) (start left len : ℕ) → first ≡ before → length before ≡ start → left ≤ length now → start + left ≤ len → take (start + left) (take len ((first ++ (now ++ behind)) ++ rest)) ≡ before ++ take left now
front_in first before now behind rest start left len same long less within =
    ap (λ (xs : List Event). take (start + left) (take len ((xs ++ (now ++ behind)) ++ rest))) same ∙ front_of before now behind rest start left len long less within
