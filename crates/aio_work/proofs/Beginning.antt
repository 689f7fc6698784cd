-- Workers that begin with their row of the places.
use Rattle.std.proofs.Common.{◌≡◌, ℕ, zero, suc, ◌+◌, List, [], ◌∷◌, ◌++◌, length, map, refl, sym, ap, ◌∙◌, subst, arith, append_assoc, append-nil}
use Rattle.std.proofs.lemmas.List.{map-append}
use Rattle.aio_turns.specs.declared.entries.TurnEntry.{TurnEntry}
use Rattle.aio_turns.specs.Passes.{DequeId, OwnView, ThiefView, next_entry, pushed}
use Rattle.std.specs.List.{AllByRecursion}
use Rattle.aio_jobs.specs.Dealing.{GivesInTurn}
use Rattle.aio_work.specs.Starting.{AreAllOthers, HasAllOthers, IsUnused, numbers, places_of}
use Rattle.aio_work.specs.Workloads.{HoldsAtStart, with_places}
use Rattle.aio_work.specs.declared.workload.Workload.{Workload}

deque_stays : (places : List ℕ) (own : OwnView) → (with_places places own).deque ≡ own.deque
deque_stays [] own = refl
deque_stays (place ∷ places) own = deque_stays places (pushed place own)

has_places : (places : List ℕ) (own : OwnView) → places_of (with_places places own) ≡ places_of own ++ places
has_places [] own = sym (append-nil (places_of own))
has_places (place ∷ places) own =
    has_places places (pushed place own) ∙ ap (λ l. l ++ places) (map-append (λ (e : TurnEntry). e.place) own.pushed (next_entry place own ∷ []))
    ∙ append_assoc (places_of own) (place ∷ []) places

module _ (own : OwnView) (others : List ThiefView) (places : List ℕ) (w : Workload) (holds : HoldsAtStart own others places w) where
  pub begun_deque : w.own.deque ≡ own.deque
  begun_deque = ap (λ (o : OwnView). o.deque) holds.own_is ∙ deque_stays places own

  pub begun_places : IsUnused own → places_of w.own ≡ places
  begun_places unused = ap places_of holds.own_is ∙ has_places places own ∙ ap (λ (l : List TurnEntry). map (λ (e : TurnEntry). e.place) l ++ places) unused

  pub begun_others : (deques : List DequeId) → AreAllOthers deques own.deque others → HasAllOthers deques w
  begun_others deques are = subst (λ (d : DequeId). AreAllOthers deques d w.others.items) (sym begun_deque)
      (subst (λ (l : List ThiefView). AreAllOthers deques own.deque l) (sym holds.others_are) are)

-- the row that a worker has was the first of those that were left
pub row_goes_over : (workloads after : List Workload) (w : Workload) (rows left : List (List ℕ)) (row : List ℕ) → after ≡ workloads ++ w ∷ [] → places_of w.own ≡ row → rows ≡ row ∷ left
    → map (λ (v : Workload). places_of v.own) workloads ++ rows ≡ map (λ (v : Workload). places_of v.own) after ++ left
row_goes_over workloads after w rows left row more has are =
    let places = map (λ (v : Workload). places_of v.own) in
    let all : places after ≡ places workloads ++ row ∷ [] =
    ap places more ∙ map-append (λ (v : Workload). places_of v.own) workloads (w ∷ []) ∙ ap (λ (r : List ℕ). places workloads ++ r ∷ []) has in
    ap (λ (r : List (List ℕ)). places workloads ++ r) are ∙ sym (append_assoc (places workloads) (row ∷ []) left) ∙ sym (ap (λ (a : List (List ℕ)). a ++ left) all)

-- and its deque was the first of those
pub deque_goes_over : (workloads after : List Workload) (w : Workload) (deques left : List DequeId) (deque : DequeId) → after ≡ workloads ++ w ∷ [] → w.own.deque ≡ deque → deques ≡ deque ∷ left
    → map (λ (v : Workload). v.own.deque) workloads ++ deques ≡ map (λ (v : Workload). v.own.deque) after ++ left
deque_goes_over workloads after w deques left deque more has are =
    let own = map (λ (v : Workload). v.own.deque) in
    let all : own after ≡ own workloads ++ deque ∷ [] =
    ap own more ∙ map-append (λ (v : Workload). v.own.deque) workloads (w ∷ []) ∙ ap (λ (d : DequeId). own workloads ++ d ∷ []) has in
    ap (λ (l : List DequeId). own workloads ++ l) are ∙ sym (append_assoc (own workloads) (deque ∷ []) left) ∙ sym (ap (λ (a : List DequeId). a ++ left) all)

pub length_numbers : (first n : ℕ) → length (numbers first n) ≡ n
length_numbers first zero = refl
length_numbers first (suc n) = omega (arith, length_numbers (first + 1) n)

-- ## The same of what has these workloads

map_over : {A B C : Type 0} (f : B → C) (g : A → B) (xs : List A) → map (λ (x : A). f (g x)) xs ≡ map f (map g xs)
map_over f g [] = refl
map_over f g (x ∷ xs) = ap (λ l. f (g x) ∷ l) (map_over f g xs)

all_over : {A B : Type 0} (P : B → Type 0) (g : A → B) (xs : List A) → AllByRecursion P (map g xs) → AllByRecursion (λ (x : A). P (g x)) xs
all_over P g [] all = tt
all_over P g (x ∷ xs) all = (all.0, all_over P g xs all.1)

pub dealt_over : {S : Type 0} (g : S → Workload) (shifts : List S) (workloads : List Workload) (given : List ℕ) → map g shifts ≡ workloads
    → GivesInTurn (map (λ (w : Workload). places_of w.own) workloads) given → GivesInTurn (map (λ (s : S). places_of (g s).own) shifts) given
dealt_over {S} g shifts workloads given same dealt =
    subst (λ (rows : List (List ℕ)). GivesInTurn rows given)
    (ap (map (λ (w : Workload). places_of w.own)) (sym same) ∙ sym (map_over (λ (w : Workload). places_of w.own) g shifts)) dealt

pub others_over : {S : Type 0} (g : S → Workload) (shifts : List S) (workloads : List Workload) → map g shifts ≡ workloads
    → AllByRecursion (HasAllOthers (map (λ (w : Workload). w.own.deque) workloads)) workloads
    → AllByRecursion (λ (s : S). HasAllOthers (map (λ (t : S). (g t).own.deque) shifts) (g s)) shifts
others_over {S} g shifts workloads same all =
    let own : Workload → DequeId = λ w. w.own.deque in
    let deques : map (λ (t : S). (g t).own.deque) shifts ≡ map own workloads = map_over own g shifts ∙ ap (map own) same in
    subst (λ (ds : List DequeId). AllByRecursion (λ (s : S). HasAllOthers ds (g s)) shifts) (sym deques)
    (all_over (HasAllOthers (map own workloads)) g shifts (subst (AllByRecursion (HasAllOthers (map own workloads))) (sym same) all))
