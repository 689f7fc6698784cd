-- The directions. What has to look at each of them by its name stands here; all else speaks of any direction.
use Rattle.std.proofs.Common.{◌≡◌, Bool, true, false, not, cond, ◌&&◌, ◌||◌, List, [], ◌∷◌, refl, ap, ◌∙◌, sym}
use Rattle.std.specs.List.{All, Contains, filter, list_any}
use Rattle.std.proofs.lemmas.Bool.{and_from, and_parts}
use Rattle.std.proofs.lemmas.List.Elements.{All-contains}
use Rattle.aio_base.specs.declared.names.Dir.{Dir}
use Rattle.aio_base.specs.declared.names.Dir.TheVariants.{Read, Write, Priority}
use Rattle.aio_base.specs.declared.names.Interest.{Interest}
use Rattle.aio_base.specs.declared.names.TheConstants.Interest.{NONE}
use Rattle.aio_base.specs.World.{directions, directions_of, same_dir, has_dir, interest_where, is_empty_list}
use Rattle.aio_base.proofs.Membership.{first_is_in, later_is_in, passing_is_kept, filtered_passes, any_from, any_gives}
use Rattle.aio_base.proofs.Searching.{false_unless}

-- ## One direction is another

pub same_dir-refl : (d : Dir) → same_dir d d ≡ true
same_dir-refl Read = refl
same_dir-refl Write = refl
same_dir-refl Priority = refl

pub same_dir-eq : (a b : Dir) → same_dir a b ≡ true → a ≡ b
same_dir-eq Read Read same = refl
same_dir-eq Write Write same = refl
same_dir-eq Priority Priority same = refl
same_dir-eq a b same = absurd cc

pub same_dir-from : (a b : Dir) → a ≡ b → same_dir a b ≡ true
same_dir-from a b e = rw e (same_dir-refl b)

same_tests : (a b : Bool) → (a ≡ true → b ≡ true) → (b ≡ true → a ≡ true) → a ≡ b
same_tests true b first second = sym (first refl)
same_tests false true first second = second refl
same_tests false false first second = refl

-- and that one is this
pub same_dir-turned : (a b : Dir) → same_dir a b ≡ same_dir b a
same_dir-turned a b =
    same_tests (same_dir a b) (same_dir b a) (λ same. same_dir-from b a (sym (same_dir-eq a b same))) (λ same. same_dir-from a b (sym (same_dir-eq b a same)))

-- ## Each direction

-- all of them are listed
pub each_direction : (dir : Dir) → Contains directions dir
each_direction Write = first_is_in Write (Read ∷ Priority ∷ [])
each_direction Read = later_is_in Write (Read ∷ Priority ∷ []) Read (first_is_in Read (Priority ∷ []))
each_direction Priority = later_is_in Write (Read ∷ Priority ∷ []) Priority (later_is_in Read (Priority ∷ []) Priority (first_is_in Priority []))

pub each_named : (dir : Dir) → list_any (same_dir dir) directions ≡ true
each_named dir = any_from (same_dir dir) directions dir (each_direction dir) (same_dir-refl dir)

-- what holds of each listed direction holds of each
pub of_each : (P : Dir → Type 0) → All P directions → (dir : Dir) → P dir
of_each P all dir = All-contains P directions dir all (each_direction dir)

-- ## Interests

pub has_dir-where : (test : Dir → Bool) (dir : Dir) → has_dir (interest_where test) dir ≡ test dir
has_dir-where test Read = refl
has_dir-where test Write = refl
has_dir-where test Priority = refl

pub interest_of : (on : Interest) → interest_where (has_dir on) ≡ on
interest_of on = refl

-- interests with the same directions are one
pub where_same : (f g : Dir → Bool) → ((dir : Dir) → f dir ≡ g dir) → interest_where f ≡ interest_where g
where_same f g same = λ i. record { read = same Read i; write = same Write i; priority = same Priority i }

pub same_interest : (a b : Interest) → ((dir : Dir) → has_dir a dir ≡ has_dir b dir) → a ≡ b
same_interest a b same = where_same (has_dir a) (has_dir b) same

-- an interest that has the directions that pass a test is theirs
pub tested : (on : Interest) (test : Dir → Bool) → ((dir : Dir) → has_dir on dir ≡ test dir) → on ≡ interest_where test
tested on test has = where_same (has_dir on) test has

-- no interest has no direction
pub none_has : (dir : Dir) → has_dir NONE dir ≡ false
none_has dir = has_dir-where (λ d. false) dir

-- ## Directions that pass a test

pub passing_direction : (test : Dir → Bool) (dir : Dir) → test dir ≡ true → Contains (filter test directions) dir
passing_direction test dir passes = passing_is_kept test directions dir passes (each_direction dir)

-- a direction is among those that pass a test where it passes
pub among_passing : (test : Dir → Bool) (dir : Dir) (passes : Bool) → test dir ≡ passes → list_any (λ (d : Dir). same_dir d dir) (filter test directions) ≡ passes
among_passing test dir true is = any_from (λ (d : Dir). same_dir d dir) (filter test directions) dir (passing_direction test dir is) (same_dir-refl dir)
among_passing test dir false is =
    false_unless (list_any (λ (d : Dir). same_dir d dir) (filter test directions)) (λ found.
    let one = any_gives (λ (d : Dir). same_dir d dir) (filter test directions) found in
    let passes : test dir ≡ true = sym (ap test (same_dir-eq one.0 dir one.2)) ∙ filtered_passes test directions one.0 one.1 in
    let wrong : true ≡ false = sym passes ∙ is in cc)

-- a test of one direction is asked where that one is looked for
pub named_where : (test : Dir → Bool) (dir : Dir) (passes : Bool) → test dir ≡ passes → list_any (λ (d : Dir). test d && same_dir dir d) directions ≡ passes
named_where test dir true is =
    any_from (λ (d : Dir). test d && same_dir dir d) directions dir (each_direction dir) (and_from (test dir) (same_dir dir dir) is (same_dir-refl dir))
named_where test dir false is =
    false_unless (list_any (λ (d : Dir). test d && same_dir dir d) directions) (λ found.
    let one = any_gives (λ (d : Dir). test d && same_dir dir d) directions found in
    let parts = and_parts (test one.0) (same_dir dir one.0) one.2 in
    let passes : test dir ≡ true = ap test (same_dir-eq dir one.0 parts.1) ∙ parts.0 in
    let wrong : true ≡ false = sym passes ∙ is in cc)

-- and among those of an interest where the interest has it
pub among_directions : (on : Interest) (dir : Dir) → list_any (λ (d : Dir). same_dir d dir) (directions_of on) ≡ has_dir on dir
among_directions on dir = among_passing (has_dir on) dir (has_dir on dir) refl

none_of : (own : Bool) (test : Dir → Bool) (dirs : List Dir) → list_any (λ (d : Dir). own && test d) dirs ≡ (own && list_any test dirs)
none_of true test dirs = refl
none_of false test [] = refl
none_of false test (d ∷ dirs) = none_of false test dirs

-- the same beside a further test
pub own_among_directions : (own : Bool) (on : Interest) (dir : Dir) → list_any (λ (d : Dir). own && same_dir dir d) (directions_of on) ≡ (own && has_dir on dir)
own_among_directions own on dir =
    none_of own (same_dir dir) (directions_of on)
    ∙ ap (λ (found : Bool). own && found) (ap (λ (test : Dir → Bool). list_any test (directions_of on)) (λ i d. same_dir-turned dir d i) ∙ among_directions on dir)

none_step : {X : Type 0} (passes : Bool) (x : X) (xs : List X) (rest : Bool) → is_empty_list xs ≡ not rest → is_empty_list (cond passes (x ∷ xs) xs) ≡ not (passes || rest)
none_step true x xs rest is = refl
none_step false x xs rest is = is

-- none passes where not any does
pub none_passing : {X : Type 0} (test : X → Bool) (xs : List X) → is_empty_list (filter test xs) ≡ not (list_any test xs)
none_passing test [] = refl
none_passing test (x ∷ xs) = none_step (test x) x (filter test xs) (list_any test xs) (none_passing test xs)
