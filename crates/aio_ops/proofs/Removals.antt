-- What was applied after a removal leaves the timer out of the book.
use Rattle.std.proofs.Common.{◌≡◌, ◌≢◌, ℕ, suc, ◌<◌, false, not, List, [], ◌∷◌, ◌++◌, length, drop, sym, ap, ◌∙◌, subst, ⊎_elim, arith}
use Rattle.std.specs.List.{AllByRecursion as Every}
use Rattle.std.proofs.lemmas.Bool.{cases_eq, not-true}
use Rattle.std.proofs.lemmas.List.Elements.{All-filter, filter_passes}
use mathlib.Core.Option.{some-injective}
use lib.ListN.{get_elem?}
use Rattle.aio_base.specs.World.{Registration}
use Rattle.aio_base.specs.Timers.{changed, is_pair, without_pair}
use Rattle.aio_base.specs.declared.names.TimerId.{TimerId}
use Rattle.aio_base.proofs.BookLemmas.{All-placed}
use Rattle.aio_rules.specs.Operations.{of_pass, ops_of}
use Rattle.aio_rules.specs.OperationLaws.{Applied, applied_of}
use Rattle.aio_rules.proofs.OperationLists.{each_front}
use Rattle.aio_rules.proofs.OperationOrder.{applied_here, applied_other}
use Rattle.aio_timers.specs.Book.{change_of}
use Rattle.aio_timers.specs.declared.op.TimerOp.{TimerOp}
use Rattle.aio_timers.specs.declared.op.TimerOp.TheVariants.{Insert, Remove}
use Rattle.aio_ops.specs.Removals.{IsOut, RemovedIsOut, applied_to, inserts}

same_rest : {X : Type 0} (x y : X) (xs ys : List X) → x ∷ xs ≡ y ∷ ys → xs ≡ ys
same_rest {X} x y xs ys e = ap (λ (l : List X). drop 1 l) e

same_first : {X : Type 0} (x y : X) (xs ys : List X) → x ∷ xs ≡ y ∷ ys → x ≡ y
same_first {X} x y xs ys e = some-injective x y (ap (λ (l : List X). get_elem? l 0) e)

-- of two ways to cut a list, the longer front has the rest of the other's back
reaches : {X : Type 0} (front rest first later : List X) (x : X) → front ++ rest ≡ first ++ x ∷ later → length first < length front
    → (more : List X) × (front ≡ first ++ x ∷ more) × (later ≡ more ++ rest)
reaches [] rest first later x e below = absurd (omega (arith, below))
reaches {X} (y ∷ front) rest [] later x e below =
    (front, ap (λ (z : X). z ∷ front) (same_first y x (front ++ rest) later e), sym (same_rest y x (front ++ rest) later e))
reaches {X} (y ∷ front) rest (z ∷ first) later x e below =
    let inner = reaches front rest first later x (same_rest y z (front ++ rest) (first ++ x ∷ later) e) (omega (arith, below)) in
    (inner.0, ap (λ (l : List X). y ∷ l) inner.1 ∙ ap (λ (w : X). w ∷ (first ++ x ∷ inner.0)) (same_first y z (front ++ rest) (first ++ x ∷ later) e), inner.2)

module _ (deadline : ℕ) (id : TimerId) where
  abbrev Not : TimerOp → Type 0
  Not op = inserts deadline id op ≡ false

  stays_out : (op : TimerOp) (book : List Registration) → Not op → IsOut deadline id book → IsOut deadline id (changed (change_of op) book)
  stays_out (Insert at timer waker) book not_this out =
      All-placed (λ (x : Registration). is_pair deadline id.0 x ≡ false) (record { id = timer.0; deadline = at; waker = waker }) (without_pair at timer.0 book) not_this
      (All-filter (λ (x : Registration). not (is_pair at timer.0 x)) (λ (x : Registration). is_pair deadline id.0 x ≡ false) book out)
  stays_out (Remove at timer) book not_this out =
      All-filter (λ (x : Registration). not (is_pair at timer.0 x)) (λ (x : Registration). is_pair deadline id.0 x ≡ false) book out

  goes_out : (book : List Registration) → IsOut deadline id (changed (change_of (Remove deadline id)) book)
  goes_out book = let kept = filter_passes (λ (x : Registration). not (is_pair deadline id.0 x)) book in λ k d below. not-true _ (kept k d below)

  module _ (pass : ℕ) where
    abbrev NotOfOthers : Applied TimerOp → Type 0
    NotOfOthers a = a.pass ≢ pass → Not a.op

    out_through : (log : List (Applied TimerOp)) (book : List Registration) → Every Not (applied_of pass log) → Every NotOfOthers log → IsOut deadline id book
        → IsOut deadline id (applied_to book log)
    out_through [] book mine others out = out
    out_through (a ∷ log) book mine others out = ⊎_elim
        (λ (is : a.pass ≡ pass).
        let all : Every Not (a.op ∷ applied_of pass log) = subst (Every Not) (applied_here pass a log is) mine in
        out_through log (changed (change_of a.op) book) all.1 others.1 (stays_out a.op book all.0 out))
        (λ (other : a.pass ≢ pass).
        out_through log (changed (change_of a.op) book) (subst (Every Not) (applied_other pass a log other) mine) others.1 (stays_out a.op book (others.0 other) out))
        (cases_eq a.pass pass)

    out_after : (log : List (Applied TimerOp)) (book : List Registration) (first later : List TimerOp) → applied_of pass log ≡ first ++ Remove deadline id ∷ later
        → Every Not later → Every NotOfOthers log → IsOut deadline id (applied_to book log)
    out_after [] book [] later e mine others = let none : 0 ≡ suc (length later) = ap (λ (l : List TimerOp). length l) e in absurd (omega (arith, none))
    out_after [] book (f ∷ first) later e mine others = let none : 0 ≡ suc (length (first ++ Remove deadline id ∷ later)) = ap (λ (l : List TimerOp). length l) e in absurd (omega (arith, none))
    out_after (a ∷ log) book [] later e mine others = ⊎_elim
        (λ (here : a.pass ≡ pass).
        let both : a.op ∷ applied_of pass log ≡ Remove deadline id ∷ later = sym (applied_here pass a log here) ∙ e in
        let same : a.op ≡ Remove deadline id = same_first a.op (Remove deadline id) (applied_of pass log) later both in
        out_through log (changed (change_of a.op) book) (subst (Every Not) (sym (same_rest a.op (Remove deadline id) (applied_of pass log) later both)) mine) others.1
        (subst (λ (op : TimerOp). IsOut deadline id (changed (change_of op) book)) (sym same) (goes_out book)))
        (λ (other : a.pass ≢ pass). out_after log (changed (change_of a.op) book) [] later (sym (applied_other pass a log other) ∙ e) mine others.1)
        (cases_eq a.pass pass)
    out_after (a ∷ log) book (f ∷ first) later e mine others = ⊎_elim
        (λ (here : a.pass ≡ pass).
        let both : a.op ∷ applied_of pass log ≡ f ∷ (first ++ Remove deadline id ∷ later) = sym (applied_here pass a log here) ∙ e in
        out_after log (changed (change_of a.op) book) first later (same_rest a.op f (applied_of pass log) (first ++ Remove deadline id ∷ later) both) mine others.1)
        (λ (other : a.pass ≢ pass). out_after log (changed (change_of a.op) book) (f ∷ first) later (sym (applied_other pass a log other) ∙ e) mine others.1)
        (cases_eq a.pass pass)

pub removed_is_out : RemovedIsOut
removed_is_out pass deadline id calls first later log items book so split reached mine others =
    let found = reaches (applied_of pass log) (ops_of (of_pass pass items)) first later (Remove deadline id) (sym so ∙ split) reached in
    out_after deadline id pass log book first found.0 found.1
    (each_front (Not deadline id) found.0 (ops_of (of_pass pass items)) (subst (Every (Not deadline id)) found.2 mine))
    others
