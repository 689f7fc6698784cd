-- A registration that is not the first is taken out later.
use Rattle.std.proofs.Common.{inl, inr, ◌≡◌, ◌≢◌, ℕ, ◌+◌, Bool, true, false, not, nat_eq, cond, ◌<◌, ◌⊎◌, List, [], ◌∷◌, length, set, Option, None, Some, IfSome, refl, sym, ap, ◌∙◌, arith}
use Rattle.std.specs.Bool.{OnTrue}
use Rattle.std.specs.Prelude.{nat_le}
use Rattle.std.proofs.lemmas.Bool.{cases_eq}
use Rattle.std.proofs.lemmas.Bool.Decides.{nat_tests}
use Rattle.std.proofs.lemmas.List.{length-map}
use Rattle.aio_base.specs.declared.names.TimerId.{TimerId}
use Rattle.aio_base.specs.World.{Registration}
use Rattle.aio_base.specs.Timers.{placed, is_pair, without_pair, due_wakers, IsBook}
use Rattle.aio_timers.specs.declared.node.Node.{Node}
use Rattle.aio_timers.specs.Held.{held_at, held_of, helds, vacant, gone, live_of}
use Rattle.aio_timers.specs.Book.{first_pair, IsBehind}
use Rattle.aio_timers.specs.Room.{entries_without}
use Rattle.aio_timers.specs.Sound.{IsSound, IsPairAt, registrations}
use Rattle.aio_timers.proofs.AlikeLemmas.{held-read}
use Rattle.aio_timers.proofs.BookLemmas.{IsBook-filter}
use Rattle.aio_timers.proofs.DueCountLemmas.{due-placed}
use Rattle.aio_timers.proofs.LeastLemmas.{OfNode, of-node}
use Rattle.aio_timers.proofs.SoundLemmas.{RootLive, root-live, length-placed}
use Rattle.aio_timers.proofs.WeightLemmas.{Leaves, goes, without_pair-placed}

same-test : (a : ℕ) → nat_eq a a ≡ true
same-test a = grind (arith, nat_tests)

other-test : (a b : ℕ) → a ≢ b → nat_eq a b ≡ false
other-test a b ne = grind (arith, nat_tests)

-- what holds where two numbers differ
pub where-other : (a b : ℕ) (P : Type 0) → (a ≢ b → P) → OnTrue (not (nat_eq a b)) P
where-other a b P holds = elim (cases_eq a b) as (λ _. OnTrue (not (nat_eq a b)) P) [
  | inl e ↦ rw (e, same-test b) tt
  | inr ne ↦ rw (other-test a b ne) (holds ne)
]

-- a node of a pair that is not the root
pub is-behind : (ns : List Node) (bs : List (Option ℕ)) (root at : ℕ) (free : Option ℕ) (used d i : ℕ) → IsSound ns bs (Some root) free used → IsPairAt ns d i at → root ≢ at → IsBehind (registrations (helds ns)) d i
is-behind ns bs root at free used d i s p ne =
    let own : OfNode (held_at ns at) p.registration = of-node (held_at ns at) p.registration p.live in
    let lt : at < length (helds ns) = omega (arith, length-map ns held_of, p.within) in
    let l : Leaves live_of (registrations (helds ns)) (registrations (set (helds ns) at (gone (held_at ns at)))) p.registration =
    goes live_of (helds ns) at vacant (gone (held_at ns at)) p.registration lt (ap live_of (held-read ns at) ∙ p.live) refl s.book in
    let back : without_pair d i (registrations (helds ns)) ≡ registrations (set (helds ns) at (gone (held_at ns at))) =
    ap (without_pair d i) l.placed_is ∙ rw (← p.deadline_is, ← p.id_is) (without_pair-placed p.registration (registrations (set (helds ns) at (gone (held_at ns at)))) l.others) in
    let r : RootLive ns root = root-live ns bs root free used s in
    let its : OfNode (held_at ns root) r.registration = of-node (held_at ns root) r.registration r.is in
    record {
      registration = p.registration;
      deadline_is = p.deadline_is;
      id_is = p.id_is;
      placed_is = l.placed_is ∙ ap (placed p.registration) (sym back);
      front = λ first more e.
          let same : r.registration ≡ first = head (sym r.book ∙ e) in
          elim (cases_test (is_pair d i first)) as (λ _. is_pair d i first ≡ false) [
            | inl same_pair ↦
                let pair = its-pair first same_pair in
                absurd (ne (s.heap.rows.apart root at its.used own.used
                (sym its.deadline_is ∙ ap Registration.deadline same ∙ pair.0 ∙ sym p.deadline_is ∙ own.deadline_is)
                (sym its.id_is ∙ ap Registration.id same ∙ pair.1 ∙ sym p.id_is ∙ own.id_is)))
            | inr differs ↦ differs
          ];
    }
  where
    head : {x y : Registration} {xs ys : List Registration} → x ∷ xs ≡ y ∷ ys → x ≡ y
    head e = cc

    its-pair : (r : Registration) → is_pair d i r ≡ true → (r.deadline ≡ d) × (r.id ≡ i)
    its-pair r h = grind (arith, nat_tests)

    cases_test : (b : Bool) → (b ≡ true) ⊎ (b ≡ false)
    cases_test true = inl refl
    cases_test false = inr refl

-- the front stays
pub first-behind : (entries : List Registration) (d i : ℕ) → IsBehind entries d i → first_pair (without_pair d i entries) ≡ first_pair entries
first-behind [] d i h = refl
first-behind (x ∷ more) d i h = let other : is_pair d i x ≡ false = h.front x more refl in rw other refl

pub length-behind : (entries : List Registration) (d i : ℕ) → IsBehind entries d i → length entries ≡ length (without_pair d i entries) + 1
length-behind entries d i h = ap (λ (rs : List Registration). length rs) h.placed_is ∙ length-placed h.registration (without_pair d i entries)

-- one more is due, or none
pub due-behind : (now : ℕ) (entries : List Registration) (d i : ℕ) → IsBehind entries d i → length (due_wakers now entries) ≡ cond (nat_le d now) 1 0 + length (due_wakers now (without_pair d i entries))
due-behind now entries d i h =
    ap (λ (rs : List Registration). length (due_wakers now rs)) h.placed_is ∙ due-placed now h.registration (without_pair d i entries)
    ∙ ap (λ (x : ℕ). cond (nat_le x now) 1 0 + length (due_wakers now (without_pair d i entries))) h.deadline_is

-- ## The book without it

pub left-length : (late : Option (ℕ × TimerId)) (pair : ℕ × TimerId) (entries : List Registration) → late ≡ Some pair → IfSome late (λ p. IsBehind entries p.0 p.1.0) → length entries ≡ length (entries_without late entries) + 1
left-length None pair entries is h = absurd cc
left-length (Some own) pair entries is h = length-behind entries own.0 own.1.0 h

pub left-book : (late : Option (ℕ × TimerId)) (entries : List Registration) → IsBook entries → IsBook (entries_without late entries)
left-book None entries h = h
left-book (Some own) entries h = IsBook-filter (λ (r : Registration). not (is_pair own.0 own.1.0 r)) entries h

pub left-first : (late : Option (ℕ × TimerId)) (entries : List Registration) → IfSome late (λ p. IsBehind entries p.0 p.1.0) → first_pair (entries_without late entries) ≡ first_pair entries
left-first None entries h = refl
left-first (Some own) entries h = first-behind entries own.0 own.1.0 h

pub left-due : (now : ℕ) (late : Option (ℕ × TimerId)) (pair : ℕ × TimerId) (entries : List Registration) → late ≡ Some pair → IfSome late (λ p. IsBehind entries p.0 p.1.0)
    → length (due_wakers now entries) ≡ cond (nat_le pair.0 now) 1 0 + length (due_wakers now (entries_without late entries))
left-due now None pair entries is h = absurd cc
left-due now (Some own) pair entries is h =
    let same : own ≡ pair = cc in
    due-behind now entries own.0 own.1.0 h ∙ ap (λ (p : ℕ × TimerId). cond (nat_le p.0 now) 1 0 + length (due_wakers now (without_pair own.0 own.1.0 entries))) same
