-- Deques that are gone through one after the other: the first of them goes to the back.
use Rattle.std.proofs.Common.{◌≡◌, ◌<◌, false, Result, Ok, Err, if◌then◌else◌, is_ok, is_err, List, [], ◌∷◌, ◌++◌, length, map, refl, sym, ap, ◌∙◌, subst, arith, append_assoc, append-nil, length-append}
use Rattle.std.proofs.lemmas.List.{map-append}
use Rattle.std.specs.List.{AllByRecursion, AllZip}
use Rattle.std.specs.declared.alloc.Global.{Global}
use Rattle.std.specs.declared.collections.VecDeque.{VecDeque}
use Rattle.aio_turns.specs.declared.entries.TurnEntry.{TurnEntry}
use Rattle.aio_turns.specs.Passes.{DequeId, OwnView, ThiefView}
use Rattle.aio_work.specs.Starting.{AreAllOthers, IsUnused, deque_of_thief, deques_of, sight}

abbrev pub Sight : Type 0
Sight = DequeId × List TurnEntry

abbrev pub first_of : Sight → DequeId
first_of seen = seen.0

-- ## Lists

abbrev head_of : {X : Type 0} → X → List X → X
head_of d [] = d
head_of d (x ∷ xs) = x

abbrev tail_of : {X : Type 0} → List X → List X
tail_of [] = []
tail_of (x ∷ xs) = xs

pub zip_end : {A B : Type 0} (R : A → B → Type 0) (xs : List A) (ys : List B) (a : A) (b : B) → AllZip R xs ys → R a b → AllZip R (xs ++ a ∷ []) (ys ++ b ∷ [])
zip_end R [] [] a b all last = (last, tt)
zip_end R [] (y ∷ ys) a b all last = elim all [ ]
zip_end R (x ∷ xs) [] a b all last = elim all [ ]
zip_end R (x ∷ xs) (y ∷ ys) a b all last = (all.0, zip_end R xs ys a b all.1 last)

pub all_end : {X : Type 0} (P : X → Type 0) (xs : List X) (x : X) → AllByRecursion P xs → P x → AllByRecursion P (xs ++ x ∷ [])
all_end P [] x all last = (last, tt)
all_end P (y ∷ xs) x all last = (all.0, all_end P xs x all.1 last)

-- a push that did not fail was done
pub where_done : {X E : Type 0} (answer : Result (Unit {0}) E) (done as_before new : List X) → new ≡ (if is_ok answer then done else as_before) → is_err answer ≡ false
    → new ≡ done
where_done (Ok none) done as_before new is no_fault = is
where_done (Err fault) done as_before new is no_fault = cc

-- ## What is seen of deques

abbrev pub HasRow : List DequeId → DequeId → VecDeque ThiefView Global → Type 0
HasRow deques deque row = AreAllOthers deques deque row.items

pub seen_deques : (owns : List OwnView) → map first_of (map sight owns) ≡ deques_of owns
seen_deques [] = refl
seen_deques (own ∷ owns) = ap (λ l. own.deque ∷ l) (seen_deques owns)

pub same_deques : (now old : List OwnView) → map sight now ≡ map sight old → deques_of now ≡ deques_of old
same_deques now old same = sym (seen_deques now) ∙ ap (map first_of) same ∙ seen_deques old

abbrev SeenUnused : List Sight → Type 0
SeenUnused seen = AllByRecursion (λ (s : Sight). s.1 ≡ []) seen

see : (owns : List OwnView) → AllByRecursion IsUnused owns → SeenUnused (map sight owns)
see [] all = tt
see (own ∷ owns) all = (all.0, see owns all.1)

seen : (owns : List OwnView) → SeenUnused (map sight owns) → AllByRecursion IsUnused owns
seen [] all = tt
seen (own ∷ owns) all = (all.0, seen owns all.1)

pub still_unused : (now old : List OwnView) → map sight now ≡ map sight old → AllByRecursion IsUnused old → AllByRecursion IsUnused now
still_unused now old same all = seen now (subst SeenUnused (sym same) (see old all))

-- ## One turn

-- The first of those that are left goes, and these follow it.
pub record Rotated (left done : List Sight) (x : Sight) (after : List Sight) : Type 0 where
  pub rest : List Sight
  pub first : left ≡ x ∷ rest
  pub others : after ≡ rest ++ done

pub takes_first : (left done : List Sight) (x : Sight) (after : List Sight) → 0 < length left → x ∷ after ≡ left ++ done → Rotated left done x after
takes_first [] done x after some is = absurd (omega (arith, some))
takes_first (y ∷ left) done x after some is = record {
  rest = left;
  first = ap (λ z. z ∷ left) (sym (ap (head_of x) is));
  others = ap tail_of is;
}

-- some are left, where not all are done
pub some_left : (left done all : List Sight) → length done < length all → done ++ left ≡ all → 0 < length left
some_left left done all fewer is = omega (arith, fewer, ap length is, length-append done left)

-- what is seen once it went to the back
pub goes_back : (left done : List Sight) (x : Sight) (after : List Sight) (back now : List OwnView) (own : OwnView) (r : Rotated left done x after)
    → map sight back ≡ after → sight own ≡ x → now ≡ back ++ own ∷ [] → map sight now ≡ r.rest ++ (done ++ x ∷ [])
goes_back left done x after back now own r behind same is =
    ap (map sight) is ∙ map-append sight back (own ∷ []) ∙ ap (λ l. l ++ sight own ∷ []) (behind ∙ r.others) ∙ ap (λ s. (r.rest ++ done) ++ s ∷ []) same
    ∙ append_assoc r.rest done (x ∷ [])

pub still_all : (left done all : List Sight) (x : Sight) (after : List Sight) (r : Rotated left done x after) → done ++ left ≡ all → (done ++ x ∷ []) ++ r.rest ≡ all
still_all left done all x after r is = append_assoc done (x ∷ []) r.rest ∙ ap (λ l. done ++ l) (sym r.first) ∙ is

-- a thief more
pub thief_more : (others now : List ThiefView) (other : ThiefView) (done : List Sight) (x : Sight) → map deque_of_thief others ≡ map first_of done → other.deque ≡ x.0
    → now ≡ others ++ other ∷ [] → map deque_of_thief now ≡ map first_of (done ++ x ∷ [])
thief_more others now other done x are at is =
    ap (map deque_of_thief) is ∙ map-append deque_of_thief others (other ∷ []) ∙ ap (λ l. l ++ other.deque ∷ []) are ∙ ap (λ d. map first_of done ++ d ∷ []) at
    ∙ sym (map-append first_of done (x ∷ []))

-- the worker of the deque that goes has thieves at all others
pub all_others : (left done : List Sight) (x : Sight) (after all : List OwnView) (others : List ThiefView) (r : Rotated left done x (map sight after)) → done ++ left ≡ map sight all
    → map deque_of_thief others ≡ deques_of after → AreAllOthers (deques_of all) x.0 others
all_others left done x after all others r is are = record {
  before = map first_of done;
  behind = map first_of r.rest;
  all = sym (seen_deques all) ∙ ap (map first_of) (sym is) ∙ map-append first_of done left ∙ ap (λ l. map first_of done ++ map first_of l) r.first;
  are = are ∙ sym (seen_deques after) ∙ ap (map first_of) r.others ∙ map-append first_of r.rest done;
}

-- ## The end

-- all are done, and stand in their order again
pub record AllDone (done all now : List Sight) : Type 0 where
  pub done_is : done ≡ all
  pub now_is : now ≡ all

pub all_done : (left done all now : List Sight) → length done ≡ length all → done ++ left ≡ all → now ≡ left ++ done → AllDone done all now
all_done [] done all now as_many is are =
    let whole : done ≡ all = sym (append-nil done) ∙ is in
    record { done_is = whole; now_is = are ∙ whole }
all_done (x ∷ left) done all now as_many is are = absurd (omega (arith, as_many, ap length is, length-append done (x ∷ left)))
