-- Lists of which a first part was given.
use Rattle.std.proofs.Common.{◌≡◌, ℕ, ◌+◌, ◌≤◌, min, List, [], length, drop, ap, sym, ◌∙◌}
use Rattle.std.proofs.lemmas.List.{drop-drop, drop_all, drop_min}

-- nothing is left once all was given
pub nothing_is_left : {X : Type 0} (xs : List X) (given : ℕ) → length xs ≤ given → drop given xs ≡ []
nothing_is_left xs given all = drop_all given xs all

-- what is left once as much more was given as there was room for
pub left_after_giving : {X : Type 0} (xs : List X) (given room count : ℕ) → count ≡ min room (length (drop given xs))
    → drop (given + count) xs ≡ drop room (drop given xs)
left_after_giving xs given room count counted =
    sym (drop-drop count given xs) ∙ ap (λ n. drop n (drop given xs)) counted ∙ drop_min room (drop given xs)
