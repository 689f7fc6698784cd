-- The past once one more round begins, at a position after all that is stored: no count of rounds at an earlier position changes.
use Rattle.std.proofs.Common.{◌≡◌, ◌≢◌, ℕ, ◌+◌, ◌<◌, Bool, true, false, cond, List, [], ◌∷◌, ◌++◌, length, find, Option, None, Some, IfSome, option_map, refl, ap, arith, ⊎_elim}
use Rattle.std.specs.List.{All}
use Rattle.std.proofs.lemmas.Bool.{cases_eq}
use Rattle.std.proofs.lemmas.Bool.Decides.{nat_tests}
use Rattle.std.proofs.lemmas.List.Elements.{All-head, All-tail}
use Rattle.aio_base.specs.declared.names.Dir.{Dir}
use Rattle.aio_base.specs.Rounds.{rounds_at, last_tick, HasBegun, AllBegun}
use Rattle.aio_base.specs.World.{HandledDirection}
use Rattle.aio_facts.specs.Sound.{IsBefore}

-- ## What is found

found_at : {X : Type 0} (P : X → Type 0) (here : Bool) (x : X) (rest : Option X) → P x → IfSome rest P → IfSome (cond here (Some x) rest) P
found_at P true x rest first others = first
found_at P false x rest first others = others

-- what holds of each element holds of the one that is found
pub found_holds : {X : Type 0} (P : X → Type 0) (p : X → Bool) (xs : List X) → All P xs → IfSome (find p xs) P
found_holds P p [] all = tt
found_holds P p (x ∷ xs) all = found_at P (p x) x (find p xs) (All-head P x xs all) (found_holds P p xs (All-tail P x xs all))

-- ## One more round

pub rounds_longer : (begun : List ℕ) (pos p : ℕ) → p < pos → rounds_at (begun ++ pos ∷ []) p ≡ rounds_at begun p
rounds_longer [] pos p before = grind (arith, nat_tests)
rounds_longer (b ∷ begun) pos p before = let rest = rounds_longer begun pos p before in omega arith

-- all rounds had begun when the last one did
pub rounds_last : (begun : List ℕ) (pos : ℕ) → All (λ p. p < pos) begun → rounds_at (begun ++ pos ∷ []) pos ≡ length begun + 1
rounds_last [] pos before = grind (arith, nat_tests)
rounds_last (b ∷ begun) pos before =
    let first : b < pos = All-head (λ p. p < pos) b begun before in
    let rest = rounds_last begun pos (All-tail (λ p. p < pos) b begun before) in
    grind (arith, nat_tests)

begun_longer : (begun : List ℕ) (pos p : ℕ) → HasBegun p begun → HasBegun p (begun ++ pos ∷ [])
begun_longer [] pos p among = absurd among
begun_longer (b ∷ begun) pos p among = λ other. begun_longer begun pos p (among other)

pub last_has_begun : (begun : List ℕ) (pos : ℕ) → HasBegun pos (begun ++ pos ∷ [])
last_has_begun [] pos = λ other. other refl
last_has_begun (b ∷ begun) pos = λ other. last_has_begun begun pos

begun_before : (begun : List ℕ) (pos p : ℕ) → HasBegun p begun → All (λ q. q < pos) begun → p < pos
begun_before [] pos p among before = absurd among
begun_before (b ∷ begun) pos p among before =
    let first : b < pos = All-head (λ q. q < pos) b begun before in
    ⊎_elim (λ (same : b ≡ p). omega arith) (λ (other : b ≢ p). begun_before begun pos p (among other) (All-tail (λ q. q < pos) b begun before)) (cases_eq b p)

pub all_begun_longer : (handled : List HandledDirection) (begun : List ℕ) (pos : ℕ) → AllBegun handled begun → AllBegun handled (begun ++ pos ∷ [])
all_begun_longer [] begun pos all = tt
all_begun_longer (h ∷ handled) begun pos all = (begun_longer begun pos h.begin all.0, all_begun_longer handled begun pos all.1)

-- each handled event belongs to a round that began before
pub tick_longer : (begun : List ℕ) (handled : List HandledDirection) (pos serial : ℕ) (dir : Dir) → AllBegun handled begun → All (λ q. q < pos) begun
    → last_tick (begun ++ pos ∷ []) handled serial dir ≡ last_tick begun handled serial dir
tick_longer begun [] pos serial dir all before = refl
tick_longer begun (h ∷ handled) pos serial dir all before =
    let first = rounds_longer begun pos h.begin (begun_before begun pos h.begin all.0 before) in
    let rest = tick_longer begun handled pos serial dir all.1 before in
    cc

-- of a position that was stored before
pub since_longer : (begun : List ℕ) (pos : ℕ) (position : Option ℕ) → IsBefore pos position
    → option_map (rounds_at (begun ++ pos ∷ [])) position ≡ option_map (rounds_at begun) position
since_longer begun pos None before = refl
since_longer begun pos (Some p) before = ap Some (rounds_longer begun pos p before)

-- one more handled event, of a round that began
pub begun_more : (handled : List HandledDirection) (begun : List ℕ) (h : HandledDirection) → AllBegun handled begun → HasBegun h.begin begun → AllBegun (handled ++ h ∷ []) begun
begun_more [] begun h all has = (has, tt)
begun_more (k ∷ handled) begun h all has = (all.0, begun_more handled begun h all.1 has)
