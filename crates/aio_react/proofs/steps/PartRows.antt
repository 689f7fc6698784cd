-- Parts of a step in a row: what a core asked of its poller in one after the other.
use Rattle.std.proofs.Common.{◌≡◌, List, [], ◌∷◌, ◌++◌, map, Option, ℕ, refl, ap, ◌∙◌, subst, append_assoc}
use Rattle.aio_base.specs.Devices.{PollerMove, Armed, Awaited, RunOf}
use Rattle.aio_base.specs.Moves.{answer_of}
use Rattle.aio_base.specs.World.{PollerAnswer}
use Rattle.aio_react.specs.Meeting.{WaitsWithin}

pub runs_both : {S M : Type 0} (step : S → M → S → Type 0) (xs ys : List M) (a b c : S) → RunOf step a xs b → RunOf step b ys c → RunOf step a (xs ++ ys) c
runs_both {S = S} step [] ys a b c first second = subst (λ (s : S). RunOf step s ys c) first second
runs_both step (x ∷ xs) ys a b c first second = (first.0, first.1, runs_both step xs ys first.0 b c first.2 second)

pub waits_both : (limit : Option ℕ) (xs ys : List PollerMove) → WaitsWithin limit xs → WaitsWithin limit ys → WaitsWithin limit (xs ++ ys)
waits_both limit [] ys first second = second
waits_both limit (Armed call answer ∷ xs) ys first second = waits_both limit xs ys first second
waits_both limit (Awaited call answer events ∷ xs) ys first second = (first.0, first.1, waits_both limit xs ys first.2 second)

pub mapped_both : {X Y : Type 0} (f : X → Y) (xs ys : List X) → map f (xs ++ ys) ≡ map f xs ++ map f ys
mapped_both f [] ys = refl
mapped_both f (x ∷ xs) ys = ap (λ (rest : List _). f x ∷ rest) (mapped_both f xs ys)

pub answers_both : (xs ys : List PollerMove) (later : List PollerAnswer) → map answer_of (xs ++ ys) ++ later ≡ map answer_of xs ++ (map answer_of ys ++ later)
answers_both xs ys later = ap (λ (answers : List PollerAnswer). answers ++ later) (mapped_both answer_of xs ys) ∙ append_assoc (map answer_of xs) (map answer_of ys) later
