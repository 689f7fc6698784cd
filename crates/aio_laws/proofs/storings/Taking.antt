-- A round takes what stands at several places, one after the other.
use Rattle.std.proofs.Common.{◌≡◌, ◌≢◌, ℕ, Bool, true, false, cond, ◌||◌, List, [], ◌∷◌, ◌++◌, map, Option, None, option_to_list, refl, ap, ◌∙◌, sym, append_assoc, append-nil}
use Rattle.std.specs.Prelude.{flat_map}
use Rattle.std.specs.List.{Contains, list_any}
use Rattle.aio_base.specs.declared.names.Waker.{Waker}
use Rattle.aio_laws.specs.Storings.{Place, same_place, Storings, taken_at, each_taken, wakers}
use Rattle.aio_base.proofs.Membership.{first_is_in, later_is_in}
use Rattle.aio_laws.proofs.storings.Places.{Holder, emptied}
use Rattle.aio_laws.proofs.storings.Kept.{Kept, take_kept, added_wakers}
use Rattle.aio_laws.proofs.runs.Apart.{Apart}

-- where nothing is held at these places any longer
abbrev pub cleared : List Place → Holder → Holder
cleared [] at = at
cleared (p ∷ ps) at = cleared ps (emptied p at)

-- the wakers that are held there, in this order
abbrev pub given : List Place → Holder → List Waker
given [] at = []
given (p ∷ ps) at = option_to_list (at p) ++ given ps (emptied p at)

-- what a taking leaves, by the storings before it
pub record Takes (at : Holder) (taken : List Waker) (before l : Storings) : Type 0 where
  pub kept : Kept at l
  pub taken_is : wakers l.taken ≡ wakers before.taken ++ taken
  pub waking : l.waking ≡ before.waking
  pub woken : l.woken ≡ before.woken

pub takes_each : (ps : List Place) (at : Holder) (l : Storings) → Kept at l → Takes (cleared ps at) (given ps at) l (each_taken ps l)
takes_each [] at l k = record { kept = k; taken_is = sym (append-nil (wakers l.taken)); waking = refl; woken = refl }
takes_each (p ∷ ps) at l k =
    let rest = takes_each ps (emptied p at) (taken_at p l) (take_kept at p l k) in
    record {
      kept = rest.kept;
      taken_is = rest.taken_is ∙ ap (λ front. front ++ given ps (emptied p at)) (added_wakers at p l.taken l k)
          ∙ append_assoc (wakers l.taken) (option_to_list (at p)) (given ps (emptied p at));
      waking = rest.waking;
      woken = rest.woken;
    }

-- what is held at a place, by whether it is one of those
none_twice : (here among : Bool) (o : Option Waker) → cond among None (cond here None o) ≡ cond (here || among) None o
none_twice true true o = refl
none_twice true false o = refl
none_twice false among o = refl

pub cleared_at : (ps : List Place) (at : Holder) (q : Place) → cleared ps at q ≡ cond (list_any (same_place q) ps) None (at q)
cleared_at [] at q = refl
cleared_at (p ∷ ps) at q = cleared_at ps (emptied p at) q ∙ none_twice (same_place q p) (list_any (same_place q) ps) (at q)

pub no_place : {X : Type 0} (f : X → Place) (q : Place) → ((x : X) → same_place q (f x) ≡ false) → (xs : List X) → list_any (same_place q) (map f xs) ≡ false
no_place f q other [] = refl
no_place f q other (x ∷ xs) = rw (other x) (no_place f q other xs)

-- of entries with different numbers each gives what it holds
pub gives_each : {X : Type 0} (key : X → ℕ) (hold : X → Option Waker) (place : ℕ → Place) (at : Holder)
    → ((m n : ℕ) → m ≢ n → same_place (place m) (place n) ≡ false) → (xs : List X) → Apart key xs
    → ((x : X) → Contains xs x → at (place (key x)) ≡ hold x)
    → given (map (λ x. place (key x)) xs) at ≡ flat_map (λ x. option_to_list (hold x)) xs
gives_each key hold place at differ [] apart holds = refl
gives_each {X} key hold place at differ (x ∷ xs) apart holds =
    let rest = gives_each key hold place (emptied (place (key x)) at) differ xs apart.1
    (λ (y : X) (among : Contains xs y).
    ap (λ b. cond b None (at (place (key y)))) (differ (key y) (key x) (λ (e : key y ≡ key x). apart.0 y among (sym e)))
    ∙ holds y (later_is_in x xs y among)) in
    ap (λ o. option_to_list o ++ given (map (λ y. place (key y)) xs) (emptied (place (key x)) at)) (holds x (first_is_in x xs))
    ∙ ap (λ later. option_to_list (hold x) ++ later) rest
