-- The key of a new source is not live: among one more key than there are sources one is free.
use Rattle.std.proofs.Common.{◌≡◌, ℕ, zero, suc, ◌+◌, ◌<◌, ◌≤◌, Bool, true, false, not, cond, ◌==◌, List, [], ◌∷◌, length, refl, ap, ◌∙◌, ⊎_elim, arith}
use Rattle.std.specs.List.{Contains, filter}
use Rattle.std.proofs.lemmas.Bool.{cases_lt, eqb-true, not_from_false, ne_eqb}
use Rattle.std.proofs.lemmas.List.Filters.{length-filter_both}
use Rattle.aio_base.specs.World.{LiveSource}
use Rattle.aio_base.specs.Machine.{is_live, free_key_from, free_key}
use Rattle.aio_base.proofs.Membership.{passing_is_kept, any_from, any_gives}

-- all keys below a bound are live
abbrev AllLive : List LiveSource → ℕ → Type 0
AllLive live bound = (key : ℕ) → key < bound → is_live live key ≡ true

-- the sources without those of a key
abbrev without_key : List LiveSource → ℕ → List LiveSource
without_key live key = filter (λ (s : LiveSource). not (s.key == key)) live

filled : (xs : List LiveSource) (x : LiveSource) → Contains xs x → 0 < length xs
filled [] x among = let within = among.1 in omega arith
filled (y ∷ xs) x among = omega arith

-- without the sources of a live key there are fewer
fewer : (live : List LiveSource) (key : ℕ) → is_live live key ≡ true → length (without_key live key) < length live
fewer live key lives =
    let some = any_gives (λ (s : LiveSource). s.key == key) live lives in
    let kept = passing_is_kept (λ (s : LiveSource). s.key == key) live some.0 some.2 some.1 in
    let one = filled (filter (λ (s : LiveSource). s.key == key) live) some.0 kept in
    let both = length-filter_both (λ (s : LiveSource). s.key == key) (λ (s : LiveSource). not (s.key == key)) (λ s. refl) live in
    omega arith

-- and every other live key is live still
others_live : (live : List LiveSource) (key : ℕ) → AllLive live (suc key) → AllLive (without_key live key) key
others_live live key all k below =
    let some = any_gives (λ (s : LiveSource). s.key == k) live (all k (omega arith)) in
    let same : some.0.key ≡ k = eqb-true some.0.key k some.2 in
    let apart : not (some.0.key == key) ≡ true = not_from_false (some.0.key == key) (ne_eqb some.0.key key (λ e. absurd (omega arith))) in
    any_from (λ (s : LiveSource). s.key == k) (filter (λ (s : LiveSource). not (s.key == key)) live) some.0
    (passing_is_kept (λ (s : LiveSource). not (s.key == key)) live some.0 apart some.1) some.2

-- there are as many sources as there are live keys below a bound
as_many : (bound : ℕ) (live : List LiveSource) → AllLive live bound → bound ≤ length live
as_many zero live all = omega arith
as_many (suc key) live all =
    let rest = as_many key (without_key live key) (others_live live key all) in
    let less = fewer live key (all key (omega arith)) in
    omega arith

more_live : (live : List LiveSource) (key : ℕ) → is_live live key ≡ true → AllLive live key → AllLive live (key + 1)
more_live live key here below k within =
    ⊎_elim (λ (lt : k < key). below k lt) (λ (past : key ≤ k). let same : k ≡ key = omega arith in ap (is_live live) same ∙ here) (cases_lt k key)

search_step : (live : List LiveSource) (key later : ℕ) (here : Bool) → is_live live key ≡ here → (here ≡ true → is_live live later ≡ false)
    → is_live live (cond here later key) ≡ false
search_step live key later true e rest = rest refl
search_step live key later false e rest = e

last_step : (live : List LiveSource) (key : ℕ) (here : Bool) → is_live live key ≡ here → (here ≡ true → ⊥) → is_live live key ≡ false
last_step live key true e not_here = absurd (not_here refl)
last_step live key false e not_here = e

free_from : (live fuel : List LiveSource) (key : ℕ) → AllLive live key → length live ≤ key + length fuel → is_live live (free_key_from key live fuel) ≡ false
free_from live [] key below enough =
    last_step live key (is_live live key) refl (λ here. let many = as_many (key + 1) live (more_live live key here below) in absurd (omega arith))
free_from live (s ∷ fuel) key below enough =
    search_step live key (free_key_from (key + 1) live fuel) (is_live live key) refl
    (λ here. free_from live fuel (key + 1) (more_live live key here below) (omega arith))

pub free_key-free : (live : List LiveSource) → is_live live (free_key live) ≡ false
free_key-free live = free_from live live 0 (λ k below. absurd (omega arith)) (omega arith)

-- and it is the least: every lesser key is live
least_step : (live : List LiveSource) (key later : ℕ) (here : Bool) → is_live live key ≡ here → AllLive live key
    → (here ≡ true → AllLive live later) → AllLive live (cond here later key)
least_step live key later true e below rest = rest refl
least_step live key later false e below rest = below

least_from : (live fuel : List LiveSource) (key : ℕ) → AllLive live key → AllLive live (free_key_from key live fuel)
least_from live [] key below = below
least_from live (s ∷ fuel) key below =
    least_step live key (free_key_from (key + 1) live fuel) (is_live live key) refl below
    (λ here. least_from live fuel (key + 1) (more_live live key here below))

pub free_key-least : (live : List LiveSource) (key : ℕ) → key < free_key live → is_live live key ≡ true
free_key-least live = least_from live live 0 (λ k below. absurd (omega arith))
