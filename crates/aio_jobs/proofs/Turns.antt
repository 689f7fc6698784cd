-- Rows that give their items in turn.
use Rattle.std.proofs.Common.{◌≡◌, ℕ, ◌+◌, ◌*◌, ◌<◌, ◌≤◌, List, [], ◌∷◌, ◌++◌, map, length, refl, sym, ap, ◌∙◌, subst, arith, length-append}
use Rattle.std.specs.Prelude.{⊤, suc}
use Rattle.std.proofs.Math.Nat.{lt_of_mul-lt-mul_right, suc-mul}
use Rattle.std.specs.List.{AllByRecursion, AllZip}
use Rattle.std.proofs.lemmas.List.{map-append}
use Rattle.aio_jobs.specs.Dealing.{GivesInTurn, HaveShares, IsAtTurn, IsOver, count_all}

-- ## Rows behind a structure whose items they are

module _ {Q X : Type 0} (items_of : Q → List X) where
  pub first_leaves : (rows others : List Q) (row shorter : Q) (x : X) → rows ≡ row ∷ others → items_of row ≡ x ∷ items_of shorter
      → IsAtTurn (map items_of rows) x (λ left. map items_of (others ++ shorter ∷ []) ≡ left)
  first_leaves rows others row shorter x are is =
      subst (λ all. IsAtTurn (map items_of all) x (λ left. map items_of (others ++ shorter ∷ []) ≡ left)) (sym are)
      (subst (λ items. IsAtTurn (items ∷ map items_of others) x (λ left. map items_of (others ++ shorter ∷ []) ≡ left)) (sym is)
      (refl, map-append items_of others (shorter ∷ [])))

  pub ends_there : (rows others : List Q) (row : Q) → rows ≡ row ∷ others → items_of row ≡ [] → IsOver (map items_of rows)
  ends_there rows others row are is =
      subst (λ all. IsOver (map items_of all)) (sym are) (subst (λ items. IsOver (items ∷ map items_of others)) (sym is) tt)

  pub comes_first : (rows others : List Q) (row longer : Q) (x : X) → rows ≡ others ++ row ∷ [] → items_of longer ≡ x ∷ items_of row
      → (xs : List X) → GivesInTurn (map items_of rows) xs → GivesInTurn (map items_of (longer ∷ others)) (x ∷ xs)
  comes_first rows others row longer x are is xs gives =
      subst (λ items. IsAtTurn (items ∷ map items_of others) x (λ left. GivesInTurn left xs)) (sym is)
      (refl, subst (λ all. GivesInTurn all xs) (ap (map items_of) are ∙ map-append items_of others (row ∷ [])) gives)

-- ## Taking one

count-append : {X : Type 0} (rows more : List (List X)) → count_all (rows ++ more) ≡ count_all rows + count_all more
count-append [] more = omega arith
count-append (row ∷ rows) more = omega (arith, count-append rows more)

pub one_less : {X : Type 0} (rows left : List (List X)) (x : X) → IsAtTurn rows x (λ after. left ≡ after) → count_all left < count_all rows
one_less [] left x taken = elim taken [ ]
one_less ([] ∷ rows) left x taken = elim taken [ ]
one_less ((first ∷ row) ∷ rows) left x taken =
    let all : count_all left ≡ count_all (rows ++ row ∷ []) = ap count_all taken.1 in
    omega (arith, all, count-append rows (row ∷ []))

pub gives_one : {X : Type 0} (rows left : List (List X)) (x : X) (xs : List X)
    → IsAtTurn rows x (λ after. left ≡ after) → GivesInTurn left xs → GivesInTurn rows (x ∷ xs)
gives_one [] left x xs taken gives = elim taken [ ]
gives_one ([] ∷ rows) left x xs taken gives = elim taken [ ]
gives_one ((first ∷ row) ∷ rows) left x xs taken gives = (taken.0, subst (λ all. GivesInTurn all xs) taken.1 gives)

-- ## What holds of rows, item by item, holds of what they give

one_more : {A B : Type 0} (R : A → B → Type 0) (xs : List A) (ys : List B) (a : A) (b : B) → AllZip R xs ys → R a b → AllZip R (xs ++ a ∷ []) (ys ++ b ∷ [])
one_more R [] [] a b all last = (last, tt)
one_more R [] (y ∷ ys) a b all last = elim all [ ]
one_more R (x ∷ xs) [] a b all last = elim all [ ]
one_more R (x ∷ xs) (y ∷ ys) a b all last = (all.0, one_more R xs ys a b all.1 last)

pub alike_in_turn : {A B : Type 0} (R : A → B → Type 0) (xs : List A) (ys : List B) (rows : List (List A)) (ends : List (List B))
    → AllZip (AllZip R) rows ends → GivesInTurn rows xs → GivesInTurn ends ys → AllZip R xs ys
alike_in_turn R [] [] rows ends all given told = tt
alike_in_turn R [] (b ∷ ys) [] [] all given told = elim told [ ]
alike_in_turn R [] (b ∷ ys) [] (end ∷ ends) all given told = elim all [ ]
alike_in_turn R [] (b ∷ ys) ([] ∷ rows) [] all given told = elim all [ ]
alike_in_turn R [] (b ∷ ys) ([] ∷ rows) ([] ∷ ends) all given told = elim told [ ]
alike_in_turn R [] (b ∷ ys) ([] ∷ rows) ((y ∷ end) ∷ ends) all given told = elim all.0 [ ]
alike_in_turn R [] (b ∷ ys) ((x ∷ row) ∷ rows) ends all given told = elim given [ ]
alike_in_turn R (a ∷ xs) ys [] ends all given told = elim given [ ]
alike_in_turn R (a ∷ xs) ys ([] ∷ rows) ends all given told = elim given [ ]
alike_in_turn R (a ∷ xs) ys ((x ∷ row) ∷ rows) [] all given told = elim all [ ]
alike_in_turn R (a ∷ xs) ys ((x ∷ row) ∷ rows) ([] ∷ ends) all given told = elim all.0 [ ]
alike_in_turn R (a ∷ xs) [] ((x ∷ row) ∷ rows) ((y ∷ end) ∷ ends) all given told = elim told [ ]
alike_in_turn R (a ∷ xs) (b ∷ ys) ((x ∷ row) ∷ rows) ((y ∷ end) ∷ ends) all given told = (
  subst (λ item. R item b) given.0 (subst (λ item. R x item) told.0 all.0.0),
  alike_in_turn R xs ys (rows ++ row ∷ []) (ends ++ end ∷ []) (one_more (AllZip R) rows ends row end all.1 all.0.1) given.1 told.1,
)

-- ## Rows without items

abbrev pub HaveNone : {X : Type 0} → List (List X) → Type 0
HaveNone [] = ⊤
HaveNone ([] ∷ rows) = HaveNone rows
HaveNone ((x ∷ row) ∷ rows) = ⊥

pub none_more : {X : Type 0} (rows : List (List X)) → HaveNone rows → HaveNone (rows ++ [] ∷ [])
none_more [] none = tt
none_more ([] ∷ rows) none = none_more rows none
none_more ((x ∷ row) ∷ rows) none = elim none [ ]

pub over_from : {X : Type 0} (rows : List (List X)) → HaveNone rows → IsOver rows
over_from [] none = tt
over_from ([] ∷ rows) none = tt
over_from ((x ∷ row) ∷ rows) none = elim none [ ]

-- ## Shares

-- of the rows before the last one, with one item more behind them
shifted : {X : Type 0} (total count place : ℕ) (others : List (List X)) (row : List X) → HaveShares total count place (others ++ row ∷ [])
    → HaveShares (total + 1) count (place + 1) others
shifted total count place [] row have = tt
shifted total count place (other ∷ others) row have =
    (omega (arith, have.0), shifted total count (place + 1) others row have.1)

of_last : {X : Type 0} (total count place : ℕ) (others : List (List X)) (row : List X) → HaveShares total count place (others ++ row ∷ [])
    → length row * count + (place + length others) < total + count
of_last total count place [] row have = omega (arith, have.0)
of_last total count place (other ∷ others) row have = omega (arith, of_last total count (place + 1) others row have.1)

pub one_more_first : {X : Type 0} (total count : ℕ) (others : List (List X)) (row : List X) (x : X) → length others + 1 ≡ count
    → HaveShares total count 0 (others ++ row ∷ []) → HaveShares (total + 1) count 0 ((x ∷ row) ∷ others)
one_more_first total count others row x all have =
    let last = of_last total count 0 others row have in
    let one : length (x ∷ row) * count ≡ length row * count + count = suc-mul (length row) count in
    (omega (arith, last, one, all), shifted total count 0 others row have)

-- the same of rows behind a structure whose items they are
module _ {Q X : Type 0} (items_of : Q → List X) where
  pub shares_with_one : (rows others : List Q) (row longer : Q) (x : X) (after : List Q) → rows ≡ others ++ row ∷ [] → items_of longer ≡ x ∷ items_of row
      → after ≡ longer ∷ others → (total : ℕ) → HaveShares total (length (map items_of rows)) 0 (map items_of rows)
      → HaveShares (total + 1) (length (map items_of after)) 0 (map items_of after)
  shares_with_one rows others row longer x after are is new total have =
      let behind : map items_of rows ≡ map items_of others ++ items_of row ∷ [] = ap (map items_of) are ∙ map-append items_of others (row ∷ []) in
      let ahead : map items_of after ≡ (x ∷ items_of row) ∷ map items_of others = ap (map items_of) new ∙ ap (λ items. items ∷ map items_of others) is in
      let count : length (map items_of after) ≡ length (map items_of rows) =
      omega (arith, ap length ahead, ap length behind, length-append (map items_of others) (items_of row ∷ [])) in
      let had : HaveShares total (length (map items_of rows)) 0 (map items_of others ++ items_of row ∷ []) =
      subst (λ all. HaveShares total (length (map items_of rows)) 0 all) behind have in
      let one : length (map items_of others) + 1 ≡ length (map items_of rows) =
      omega (arith, ap length behind, length-append (map items_of others) (items_of row ∷ [])) in
      subst (λ all. HaveShares (total + 1) (length (map items_of after)) 0 all) (sym ahead)
      (subst (λ n. HaveShares (total + 1) n 0 ((x ∷ items_of row) ∷ map items_of others)) (sym count)
      (one_more_first total (length (map items_of rows)) (map items_of others) (items_of row) x one had))

pub none_have : {X : Type 0} (count place : ℕ) (rows : List (List X)) → HaveNone rows → place + length rows ≤ count → HaveShares 0 count place rows
none_have count place [] none within = tt
none_have count place ([] ∷ rows) none within = (omega (arith, within), none_have count (place + 1) rows none (omega (arith, within)))
none_have count place ((x ∷ row) ∷ rows) none within = elim none [ ]

share_at_most : (count most total share place : ℕ) → total ≤ most * count → share * count + place < total + count → share ≤ most
share_at_most count most total share place few have =
    let less : share < suc most = lt_of_mul-lt-mul_right count (omega (arith, few, have, suc-mul most count)) in
    omega (arith, less)

pub each_at_most : {X : Type 0} (total count place most : ℕ) (rows : List (List X)) → total ≤ most * count → HaveShares total count place rows
    → AllByRecursion (λ row. length row ≤ most) rows
each_at_most total count place most [] few have = tt
each_at_most total count place most (row ∷ rows) few have =
    (share_at_most count most total (length row) place few have.0, each_at_most total count (place + 1) most rows few have.1)
