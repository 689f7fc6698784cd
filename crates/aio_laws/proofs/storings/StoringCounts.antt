-- How often a number stands among storings that were parted, put together and moved.
use Rattle.std.proofs.Common.{◌≡◌, ℕ, ◌+◌, Bool, true, false, not, cond, ◌==◌, List, [], ◌∷◌, ◌++◌, refl, ap, ◌∙◌, arith}
use Rattle.std.specs.Prelude.{flat_map}
use Rattle.std.proofs.lemmas.Grind.{flat_map-append}
use Rattle.std.proofs.lemmas.List.{append-nil}
use Rattle.aio_base.specs.declared.names.Waker.{Waker}
use Rattle.aio_laws.specs.Storings.{Place, same_place, Stored, Storings, standing_at, none_at, given_up_at, woken_at, taken_at, stored_at, round_woken, step_ended, times, times_in}

pub times-append : (n : ℕ) (xs ys : List Stored) → times n (xs ++ ys) ≡ times n xs + times n ys
times-append n [] ys = omega arith
times-append n (x ∷ xs) ys = let rest = times-append n xs ys in omega arith

parted_step : (n : ℕ) (here : Bool) (x : Stored) (at others xs : List Stored) → times n at + times n others ≡ times n xs
    → times n (cond here (x ∷ at) at) + times n (cond (not here) (x ∷ others) others) ≡ times n (x ∷ xs)
parted_step n true x at others xs rest = omega arith
parted_step n false x at others xs rest = omega arith

-- what stands at a place and what stands elsewhere are all that stand
pub times-parted : (n : ℕ) (p : Place) (xs : List Stored) → times n (standing_at p xs) + times n (none_at p xs) ≡ times n xs
times-parted n p [] = refl
times-parted n p (x ∷ xs) = parted_step n (same_place p x.place) x (standing_at p xs) (none_at p xs) xs (times-parted n p xs)

pub taken_times : (n : ℕ) (p : Place) (l : Storings) → times_in n (taken_at p l) ≡ times_in n l
taken_times n p l =
    let parted = times-parted n p l.standing in let joined = times-append n l.taken (standing_at p l.standing) in omega arith

pub woken_times : (n : ℕ) (p : Place) (l : Storings) → times_in n (woken_at p l) ≡ times_in n l
woken_times n p l =
    let parted = times-parted n p l.standing in let joined = times-append n l.waking (standing_at p l.standing) in omega arith

pub given_up_times : (n : ℕ) (p : Place) (l : Storings) → times_in n (given_up_at p l) ≡ times_in n l
given_up_times n p l =
    let parted = times-parted n p l.standing in let joined = times-append n l.given_up (standing_at p l.standing) in omega arith

pub wake_taken_times : (n : ℕ) (l : Storings) → times_in n (round_woken l) ≡ times_in n l
wake_taken_times n l = let joined = times-append n l.waking l.taken in omega arith

pub stored_times : (n : ℕ) (p : Place) (waker : Waker) (l : Storings) → times_in n (stored_at p waker l) ≡ times_in n l + (cond (l.given == n) 1 0)
stored_times n p waker l =
    let new : Stored = record { number = l.given; place = p; waker = waker } in
    let joined = times-append n l.standing (new ∷ []) in omega arith

pub woken_all : (woken : List (List Stored)) (waking : List Stored)
    → flat_map (λ (stored : List Stored). stored) (woken ++ waking ∷ []) ≡ flat_map (λ (stored : List Stored). stored) woken ++ waking
woken_all woken waking =
    flat_map-append (λ (stored : List Stored). stored) woken (waking ∷ []) ∙ ap (λ rest. flat_map (λ (stored : List Stored). stored) woken ++ rest) (append-nil waking)

pub ended_times : (n : ℕ) (l : Storings) → times_in n (step_ended l) ≡ times_in n l
ended_times n l =
    let all = ap (times n) (woken_all l.woken l.waking) in
    let joined = times-append n (flat_map (λ (stored : List Stored). stored) l.woken) l.waking in
    omega arith
