-- How many nodes are due: counted in a list of their indices, in the row of all, and in the book.
use Rattle.std.proofs.Common.{◌≡◌, ℕ, zero, suc, ◌+◌, ◌<◌, ◌≤◌, Bool, true, false, cond, ◌&&◌, nat_le, List, [], ◌∷◌, length, filter, get_or, Option, None, Some, is_some, arith, refl, sym, ap, ◌∙◌}
use Rattle.std.specs.List.{filter_map, cons_option}
use Rattle.std.proofs.lemmas.List.{length-map}
use Rattle.std.proofs.lemmas.Bool.Decides.{nat_tests}
use Rattle.aio_base.specs.declared.names.Waker.{Waker}
use Rattle.aio_base.specs.World.{Registration}
use Rattle.aio_base.specs.Timers.{fires_before, placed, in_order, due_wakers}
use Rattle.aio_timers.specs.declared.node.Node.{Node}
use Rattle.aio_timers.specs.Held.{Held, IsUsed, held_at, helds, vacant, live_of, registration_in}
use Rattle.aio_timers.specs.Rows.{one_if, times_in}
use Rattle.aio_timers.specs.Due.{is_due, due_in}
use Rattle.aio_timers.specs.Sound.{registrations}
use Rattle.aio_timers.proofs.CountLemmas.{one_if-same, one_if-other}
use Rattle.aio_timers.proofs.AlikeLemmas.{held-read}

-- ## In a list of indices

abbrev pub one_due : ℕ → Held → ℕ
one_due now h = cond (is_due now h) 1 0

abbrev pub due_among : (ℕ → Held) → ℕ → List ℕ → ℕ
due_among held now [] = 0
due_among held now (i ∷ more) = one_due now (held i) + due_among held now more

one-le : (b : Bool) → cond b 1 0 ≤ 1
one-le true = omega arith
one-le false = omega arith

pub due_among-le : (held : ℕ → Held) (now : ℕ) (ks : List ℕ) → due_among held now ks ≤ length ks
due_among-le held now [] = omega arith
due_among-le held now (k ∷ ks) = omega (arith, one-le (is_due now (held k)), due_among-le held now ks)

-- ## In the row of all

abbrev is_live_due : ℕ → Held → Bool
is_live_due now h = is_some h.waker && is_due now h

-- each node in use that is due, as often as this says of its index
abbrev tally : ℕ → List Held → (ℕ → ℕ) → ℕ
tally now [] c = 0
tally now (h ∷ hs) c = cond (is_live_due now h) (c 0) 0 + tally now hs (λ i. c (suc i))

tally-none : (now : ℕ) (hs : List Held) (c : ℕ → ℕ) → ((i : ℕ) → c i ≡ 0) → tally now hs c ≡ 0
tally-none now [] c none = refl
tally-none now (h ∷ hs) c none = omega (arith, nothing (is_live_due now h), tally-none now hs (λ i. c (suc i)) (λ i. none (suc i)))
  where
    nothing : (b : Bool) → cond b (c 0) 0 ≡ 0
    nothing true = none 0
    nothing false = refl

tally-add : (now : ℕ) (hs : List Held) (a b c : ℕ → ℕ) → ((i : ℕ) → c i ≡ a i + b i) → tally now hs c ≡ tally now hs a + tally now hs b
tally-add now [] a b c sum = refl
tally-add now (h ∷ hs) a b c sum = omega (arith, here (is_live_due now h), tally-add now hs (λ i. a (suc i)) (λ i. b (suc i)) (λ i. c (suc i)) (λ i. sum (suc i)))
  where
    here : (t : Bool) → cond t (c 0) 0 ≡ cond t (a 0) 0 + cond t (b 0) 0
    here true = sum 0
    here false = refl

-- of one index
tally-one : (now : ℕ) (hs : List Held) (x : ℕ) (c : ℕ → ℕ) → ((i : ℕ) → c i ≡ one_if i x) → tally now hs c ≡ cond (is_live_due now (get_or hs x vacant)) 1 0
tally-one now [] x c is = refl
tally-one now (h ∷ hs) zero c is = omega (arith, here (is_live_due now h), tally-none now hs (λ i. c (suc i)) (λ i. is (suc i) ∙ one_if-other (suc i) 0 (λ e. cc (e))))
  where
    here : (b : Bool) → cond b (c 0) 0 ≡ cond b 1 0
    here true = is 0 ∙ one_if-same 0
    here false = refl
tally-one now (h ∷ hs) (suc x) c is = omega (arith, here (is_live_due now h), tally-one now hs x (λ i. c (suc i)) (λ i. is (suc i) ∙ behind i x))
  where
    here : (b : Bool) → cond b (c 0) 0 ≡ 0
    here true = is 0 ∙ one_if-other 0 (suc x) (λ e. cc (e))
    here false = refl

    behind : (i x : ℕ) → one_if (suc i) (suc x) ≡ one_if i x
    behind i x = grind (arith, nat_tests)

-- of the indices of a list of nodes in use
tally-list : (now : ℕ) (hs : List Held) (held : ℕ → Held) (ks : List ℕ) → ((i : ℕ) → get_or hs i vacant ≡ held i) → ((j : ℕ) → 0 < times_in j ks → IsUsed (held j)) → tally now hs (λ i. times_in i ks) ≡ due_among held now ks
tally-list now hs held [] read used = tally-none now hs (λ i. times_in i []) (λ i. refl)
tally-list now hs held (k ∷ ks) read used =
    let sum : tally now hs (λ i. times_in i (k ∷ ks)) ≡ tally now hs (λ i. one_if i k) + tally now hs (λ i. times_in i ks) = tally-add now hs (λ i. one_if i k) (λ i. times_in i ks) (λ i. times_in i (k ∷ ks)) (λ i. refl) in
    let one : tally now hs (λ i. one_if i k) ≡ cond (is_live_due now (get_or hs k vacant)) 1 0 = tally-one now hs k (λ i. one_if i k) (λ i. refl) in
    let as_held : cond (is_live_due now (get_or hs k vacant)) 1 0 ≡ one_due now (held k) = ap (λ (h : Held). cond (is_live_due now h) 1 0) (read k) ∙ in_use (held k) (used k (omega (arith, one_if-same k))) in
    let rest : tally now hs (λ i. times_in i ks) ≡ due_among held now ks = tally-list now hs held ks read (λ j more. used j (omega (arith, more))) in
    omega (arith, sum, one, as_held, rest)
  where
    in_use : (h : Held) → IsUsed h → cond (is_live_due now h) 1 0 ≡ one_due now h
    in_use h u = rw u refl

tally-all : (now : ℕ) (hs : List Held) (c : ℕ → ℕ) → ((i : ℕ) → is_live_due now (get_or hs i vacant) ≡ true → c i ≡ 1) → tally now hs c ≡ due_in now hs
tally-all now [] c all = refl
tally-all now (h ∷ hs) c all = omega (arith, here (is_live_due now h) refl, tally-all now hs (λ i. c (suc i)) (λ i e. all (suc i) e))
  where
    here : (b : Bool) → is_live_due now h ≡ b → cond b (c 0) 0 ≡ cond b 1 0
    here true e = all 0 e
    here false e = refl

-- a list with each node in use that is due, once, and no free one
pub count-all : (ns : List Node) (now : ℕ) (ks : List ℕ) → ((j : ℕ) → 0 < times_in j ks → IsUsed (held_at ns j)) → ((j : ℕ) → IsUsed (held_at ns j) → is_due now (held_at ns j) ≡ true → times_in j ks ≡ 1)
    → due_among (held_at ns) now ks ≡ due_in now (helds ns)
count-all ns now ks used all =
    sym (tally-list now (helds ns) (held_at ns) ks (held-read ns) used)
    ∙ tally-all now (helds ns) (λ i. times_in i ks) (λ i e.
    let both : is_live_due now (held_at ns i) ≡ true = ap (is_live_due now) (sym (held-read ns i)) ∙ e in
    all i (first (is_some (held_at ns i).waker) (is_due now (held_at ns i)) both) (second (is_some (held_at ns i).waker) (is_due now (held_at ns i)) both))
  where
    first : (a b : Bool) → (a && b) ≡ true → a ≡ true
    first true b e = refl
    first false b e = cc

    second : (a b : Bool) → (a && b) ≡ true → b ≡ true
    second true b e = e
    second false b e = cc

-- ## In the book

abbrev one_late : ℕ → Registration → ℕ
one_late now r = cond (nat_le r.deadline now) 1 0

abbrev late_in : ℕ → List Registration → ℕ
late_in now [] = 0
late_in now (r ∷ rs) = one_late now r + late_in now rs

length-filter : (now : ℕ) (rs : List Registration) → length (filter (λ (r : Registration). nat_le r.deadline now) rs) ≡ late_in now rs
length-filter now [] = refl
length-filter now (r ∷ rs) = go (nat_le r.deadline now) (length-filter now rs)
  where
    go : (b : Bool) → length (filter (λ (x : Registration). nat_le x.deadline now) rs) ≡ late_in now rs
        → length (cond b (r ∷ filter (λ (x : Registration). nat_le x.deadline now) rs) (filter (λ (x : Registration). nat_le x.deadline now) rs)) ≡ cond b 1 0 + late_in now rs
    go true e = omega (arith, e)
    go false e = omega (arith, e)

late-placed : (now : ℕ) (r : Registration) (rs : List Registration) → late_in now (placed r rs) ≡ one_late now r + late_in now rs
late-placed now r [] = refl
late-placed now r (x ∷ rs) = go (fires_before x r) (late-placed now r rs)
  where
    go : (b : Bool) → late_in now (placed r rs) ≡ one_late now r + late_in now rs → late_in now (cond b (x ∷ placed r rs) (r ∷ x ∷ rs)) ≡ one_late now r + (one_late now x + late_in now rs)
    go true e = omega (arith, e)
    go false e = refl

length-placed : (r : Registration) (rs : List Registration) → length (placed r rs) ≡ suc (length rs)
length-placed r [] = refl
length-placed r (x ∷ rs) = go (fires_before x r) (length-placed r rs)
  where
    go : (b : Bool) → length (placed r rs) ≡ suc (length rs) → length (cond b (x ∷ placed r rs) (r ∷ x ∷ rs)) ≡ suc (suc (length rs))
    go true e = omega (arith, e)
    go false e = refl

length-in_order : (rs : List Registration) → length (in_order rs) ≡ length rs
length-in_order [] = refl
length-in_order (r ∷ rs) = omega (arith, length-placed r (in_order rs), length-in_order rs)

due-length : (now : ℕ) (rs : List Registration) → length (due_wakers now rs) ≡ late_in now rs
due-length now rs =
    length-map (in_order (filter (λ (r : Registration). nat_le r.deadline now) rs)) (λ (r : Registration). r.waker)
    ∙ length-in_order (filter (λ (r : Registration). nat_le r.deadline now) rs)
    ∙ length-filter now rs

late-registrations : (now : ℕ) (hs : List Held) → late_in now (registrations hs) ≡ due_in now hs
late-registrations now [] = refl
late-registrations now (h ∷ hs) = go h.waker (late-registrations now hs)
  where
    go : (w : Option Waker) → late_in now (registrations hs) ≡ due_in now hs
        → late_in now (in_order (cons_option (registration_in h.deadline h.id w) (filter_map live_of hs))) ≡ cond (is_some w && nat_le h.deadline now) 1 0 + due_in now hs
    go None e = omega (arith, e)
    go (Some w) e = omega (arith, e, late-placed now (record { id = h.id; deadline = h.deadline; waker = w }) (registrations hs))

pub due-wakers : (now : ℕ) (hs : List Held) → due_in now hs ≡ length (due_wakers now (registrations hs))
due-wakers now hs = sym (due-length now (registrations hs) ∙ late-registrations now hs)

-- no more are late than there are
late-few : (now : ℕ) (rs : List Registration) → late_in now rs ≤ length rs
late-few now [] = omega arith
late-few now (r ∷ rs) = omega (arith, one-le (nat_le r.deadline now), late-few now rs)

-- a pass takes no more wakers than there are timers
pub few-due_wakers : (now : ℕ) (rs : List Registration) → length (due_wakers now rs) ≤ length rs
few-due_wakers now rs = omega (arith, due-length now rs, late-few now rs)

-- how many are due where one more is placed
pub due-placed : (now : ℕ) (r : Registration) (rs : List Registration) → length (due_wakers now (placed r rs)) ≡ cond (nat_le r.deadline now) 1 0 + length (due_wakers now rs)
due-placed now r rs = omega (arith, due-length now (placed r rs), late-placed now r rs, due-length now rs)
