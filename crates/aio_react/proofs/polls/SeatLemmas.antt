-- What is read and written of seats and first polls, as the list of listeners that they are.
use Rattle.std.proofs.Math.ListN.{get_or-map}
use Rattle.std.proofs.Common.{map, ◌≡◌, ℕ, zero, suc, ◌<◌, ◌≤◌, List, [], ◌∷◌, ◌++◌, length, slice_set, slice_index_or, get_or, Option, None, Some, IfSome, refl, sym, ap, ◌∙◌, arith}
use Rattle.aio_base.specs.declared.names.Dir.{Dir}
use Rattle.aio_react.specs.declared.entries.Listener.{Listener}
use Rattle.aio_react.specs.declared.listener_table.Seat.{Seat}
use Rattle.aio_react.specs.declared.listener_table.Seat.TheVariants as seat
use Rattle.aio_react.specs.declared.listener_table.FirstPoll.{FirstPoll}
use Rattle.aio_react.specs.declared.listener_table.PackedSeat.{PackedSeat}
use Rattle.aio_source.specs.declared.answers.Listened.{Listened}
use Rattle.aio_react.specs.Numbers.{value_of, with_value}
use Rattle.aio_react.specs.Seats.{listener_in, listened_in, listeners_in, early_of, seat_for, seat_in, first_poll_of, IsBeside, IsEarly, AreEarly, opened}

pub listeners-length : (seats : List Seat) (polls : List FirstPoll) → length (listeners_in seats polls) ≡ length seats
listeners-length [] polls = refl
listeners-length (s ∷ seats) [] = ap suc (listeners-length seats [])
listeners-length (s ∷ seats) (p ∷ polls) = ap suc (listeners-length seats polls)

-- what stands at a place
pub listener-at : (seats : List Seat) (polls : List FirstPoll) (at : ℕ) (s : Seat) (p : FirstPoll) → at < length seats → length polls ≡ length seats → s ≡ get_or seats at s → p ≡ get_or polls at p
    → slice_index_or (listeners_in seats polls) at None ≡ listener_in s p
listener-at [] polls at s p within same is_s is_p = absurd (omega arith)
listener-at (t ∷ seats) [] at s p within same is_s is_p = absurd (omega arith)
listener-at (t ∷ seats) (q ∷ polls) zero s p within same is_s is_p = sym (λ j. listener_in (is_s j) (is_p j))
listener-at (t ∷ seats) (q ∷ polls) (suc at) s p within same is_s is_p = listener-at seats polls at s p (omega arith) (omega arith) is_s is_p

pub no-listener-past : (seats : List Seat) (polls : List FirstPoll) (at : ℕ) → length seats ≤ at → slice_index_or (listeners_in seats polls) at None ≡ None
no-listener-past [] polls at past = refl
no-listener-past (s ∷ seats) polls zero past = absurd (omega arith)
no-listener-past (s ∷ seats) [] (suc at) past = no-listener-past seats [] at (omega arith)
no-listener-past (s ∷ seats) (p ∷ polls) (suc at) past = no-listener-past seats polls at (omega arith)

-- a new last one
pub listeners-more : (seats : List Seat) (polls : List FirstPoll) (s : Seat) (p : FirstPoll) → length polls ≡ length seats
    → listeners_in (seats ++ s ∷ []) (polls ++ p ∷ []) ≡ listeners_in seats polls ++ listener_in s p ∷ []
listeners-more [] [] s p same = refl
listeners-more [] (q ∷ polls) s p same = absurd (omega arith)
listeners-more (t ∷ seats) [] s p same = absurd (omega arith)
listeners-more (t ∷ seats) (q ∷ polls) s p same = ap (λ (ls : List (Option Listener)). listener_in t q ∷ ls) (listeners-more seats polls s p (omega arith))

-- another one at a place
pub listener-set : (seats : List Seat) (polls : List FirstPoll) (at : ℕ) (s : Seat) (p : FirstPoll) → length polls ≡ length seats
    → listeners_in (slice_set seats at s) (slice_set polls at p) ≡ slice_set (listeners_in seats polls) at (listener_in s p)
listener-set [] [] at s p same = refl
listener-set [] (q ∷ polls) at s p same = absurd (omega arith)
listener-set (t ∷ seats) [] at s p same = absurd (omega arith)
listener-set (t ∷ seats) (q ∷ polls) zero s p same = refl
listener-set (t ∷ seats) (q ∷ polls) (suc at) s p same = ap (λ (ls : List (Option Listener)). listener_in t q ∷ ls) (listener-set seats polls at s p (omega arith))

pub listener-gone : (seats : List Seat) (polls : List FirstPoll) (at : ℕ) → listeners_in (slice_set seats at seat.Gone) polls ≡ slice_set (listeners_in seats polls) at None
listener-gone [] polls at = refl
listener-gone (t ∷ seats) [] zero = refl
listener-gone (t ∷ seats) (q ∷ polls) zero = refl
listener-gone (t ∷ seats) [] (suc at) = ap (λ (ls : List (Option Listener)). listener_in t (first_poll_of None) ∷ ls) (listener-gone seats [] at)
listener-gone (t ∷ seats) (q ∷ polls) (suc at) = ap (λ (ls : List (Option Listener)). listener_in t q ∷ ls) (listener-gone seats polls at)

-- what is put for a listener is that listener
pub listener-again : (l : Listener) (first : Option Listened) → listener_in (seat_for l first) (first_poll_of first) ≡ Some (record l { first = first })
listener-again l None = refl
listener-again l (Some first) = refl

-- ## Seats by themselves

-- what is read of seats in eight bytes
pub opened-read : (seats : List PackedSeat) (at : ℕ) (p : PackedSeat) → p ≡ get_or seats at p → opened p ≡ get_or (map opened seats) at (opened p)
opened-read seats at p is = ap opened is ∙ sym (get_or-map opened seats at p)

-- a seat is that of its listener
seat-back : (s : Seat) (p : FirstPoll) → IsEarly s p → seat_in (listener_in s p) ≡ s
seat-back seat.Gone p early = refl
seat-back (seat.Unpolled dir key) p early = refl
seat-back (seat.Polled dir key place rounds) p early = ap (λ (x : ℕ). seat.Polled dir key place x) (sym early)

seat-at : (seats : List Seat) (polls : List FirstPoll) (at : ℕ) (s : Seat) → length polls ≡ length seats → AreEarly seats polls → at < length seats → s ≡ get_or seats at s → seat_in (slice_index_or (listeners_in seats polls) at None) ≡ s
seat-at [] polls at s same early within is = absurd (omega arith)
seat-at (t ∷ seats) [] at s same early within is = absurd (omega arith)
seat-at (t ∷ seats) (q ∷ polls) zero s same early within is = seat-back t q early.0 ∙ sym is
seat-at (t ∷ seats) (q ∷ polls) (suc at) s same early within is = seat-at seats polls at s (omega arith) early.1 (omega arith) is

pub seat-there : (seats : List Seat) (polls : List FirstPoll) (number at : ℕ) (s : Seat) → number ≡ suc at → length polls ≡ length seats → AreEarly seats polls → at < length seats → s ≡ get_or seats at s
    → seat_in (value_of (listeners_in seats polls) number) ≡ s
seat-there seats polls number at s is same early within is_s = rw is (seat-at seats polls at s same early within is_s)

-- ## Rounds of first polls

pub early-more : (seats : List Seat) (polls : List FirstPoll) (s : Seat) (p : FirstPoll) → length polls ≡ length seats → AreEarly seats polls → IsEarly s p → AreEarly (seats ++ s ∷ []) (polls ++ p ∷ [])
early-more [] [] s p same are one = (one, tt)
early-more [] (q ∷ polls) s p same are one = absurd (omega arith)
early-more (t ∷ seats) [] s p same are one = absurd (omega arith)
early-more (t ∷ seats) (q ∷ polls) s p same are one = (are.0, early-more seats polls s p (omega arith) are.1 one)

pub early-set : (seats : List Seat) (polls : List FirstPoll) (at : ℕ) (s : Seat) (p : FirstPoll) → length polls ≡ length seats → AreEarly seats polls → IsEarly s p → AreEarly (slice_set seats at s) (slice_set polls at p)
early-set [] polls at s p same are one = tt
early-set (t ∷ seats) [] at s p same are one = absurd (omega arith)
early-set (t ∷ seats) (q ∷ polls) zero s p same are one = (one, are.1)
early-set (t ∷ seats) (q ∷ polls) (suc at) s p same are one = (are.0, early-set seats polls at s p (omega arith) are.1 one)

pub early-gone : (seats : List Seat) (polls : List FirstPoll) (at : ℕ) → length polls ≡ length seats → AreEarly seats polls → AreEarly (slice_set seats at seat.Gone) polls
early-gone [] polls at same are = tt
early-gone (t ∷ seats) [] at same are = absurd (omega arith)
early-gone (t ∷ seats) (q ∷ polls) zero same are = (tt, are.1)
early-gone (t ∷ seats) (q ∷ polls) (suc at) same are = (are.0, early-gone seats polls at (omega arith) are.1)

pub early-again : (l : Listener) (first : Option Listened) → IsEarly (seat_for l first) (first_poll_of first)
early-again l None = tt
early-again l (Some first) = refl

-- a listener of a key and a direction
abbrev pub seated : ℕ → Dir → Option Listened → Listener
seated key dir first = record { key = record { 0 = key }; dir = dir; first = first }

gone-for : (l : Listener) (first : Option Listened) → seat.Gone ≡ seat_for l first → ⊥
gone-for l None is = cc
gone-for l (Some first) is = cc

-- a seat tells whether there is a listener, and which one but for the rest of its first poll
pub gone-seat : (v : Option Listener) → seat.Gone ≡ seat_in v → v ≡ None
gone-seat None is = refl
gone-seat (Some l) is = absurd (gone-for l l.first is)

pub gone-else : (s : Seat) → ((dir : Dir) (key : ℕ) → s ≡ seat.Unpolled dir key → ⊥) → ((dir : Dir) (key place early : ℕ) → s ≡ seat.Polled dir key place early → ⊥) → seat.Gone ≡ s
gone-else seat.Gone unpolled polled = refl
gone-else (seat.Unpolled dir key) unpolled polled = absurd (unpolled dir key refl)
gone-else (seat.Polled dir key place early) unpolled polled = absurd (polled dir key place early refl)

unpolled-for : (l : Listener) (first : Option Listened) (dir : Dir) (key : ℕ) → l.first ≡ first → seat.Unpolled dir key ≡ seat_for l first → l ≡ seated key dir None
unpolled-for l None dir key has is =
    let dirs : l.dir ≡ dir = cc in
    let keys : l.key.0 ≡ key = cc in
    λ i. seated (keys i) (dirs i) (has i)
unpolled-for l (Some first) dir key has is = absurd cc

pub unpolled-seat : (v : Option Listener) (dir : Dir) (key : ℕ) → seat.Unpolled dir key ≡ seat_in v → v ≡ Some (seated key dir None)
unpolled-seat None dir key is = absurd cc
unpolled-seat (Some l) dir key is = ap (λ (l : Listener). Some l) (unpolled-for l l.first dir key refl is)

polled-for : (l : Listener) (rest : Option Listened) (dir : Dir) (key place early : ℕ) (p : FirstPoll) → l.first ≡ rest → seat.Polled dir key place early ≡ seat_for l rest
    → IfSome rest (λ first. first ≡ listened_in first.ticket.place p) → (l ≡ seated key dir (Some (listened_in place p))) × (early ≡ early_of p.a)
polled-for l None dir key place early p has is beside = absurd cc
polled-for l (Some first) dir key place early p has is beside =
    let dirs : l.dir ≡ dir = cc in
    let keys : l.key.0 ≡ key = cc in
    let places : first.ticket.place ≡ place = cc in
    let rounds : early_of first.a ≡ early = cc in
    let firsts : first ≡ listened_in place p = beside ∙ (λ i. listened_in (places i) p) in
    let rest : l.first ≡ Some (listened_in place p) = has ∙ ap (λ (f : Listened). Some f) firsts in
    (λ i. seated (keys i) (dirs i) (rest i), sym rounds ∙ ap (λ (f : Listened). early_of f.a) beside)

pub polled-seat : (v : Option Listener) (dir : Dir) (key place early : ℕ) (p : FirstPoll) → seat.Polled dir key place early ≡ seat_in v → IsBeside v p → (v ≡ Some (seated key dir (Some (listened_in place p)))) × (early ≤ p.a)
polled-seat None dir key place early p is beside = absurd cc
polled-seat (Some l) dir key place early p is beside =
    let both = polled-for l l.first dir key place early p refl is beside in
    (ap (λ (l : Listener). Some l) both.0, omega (arith, both.1))

-- ## First polls by themselves

beside-here : (s : Seat) (p q : FirstPoll) → p ≡ q → IsBeside (listener_in s q) p
beside-here seat.Gone p q is = tt
beside-here (seat.Unpolled dir key) p q is = tt
beside-here (seat.Polled dir key place early) p q is = ap (λ (p : FirstPoll). listened_in place p) (sym is)

beside-at : (seats : List Seat) (polls : List FirstPoll) (at : ℕ) (p : FirstPoll) → length polls ≡ length seats → p ≡ get_or polls at p → IsBeside (slice_index_or (listeners_in seats polls) at None) p
beside-at [] polls at p same is = tt
beside-at (s ∷ seats) [] at p same is = absurd (omega arith)
beside-at (s ∷ seats) (q ∷ polls) zero p same is = beside-here s p q is
beside-at (s ∷ seats) (q ∷ polls) (suc at) p same is = beside-at seats polls at p (omega arith) is

-- what lies at the place of a number is the rest of its listener's first poll
pub beside-there : (seats : List Seat) (polls : List FirstPoll) (number at : ℕ) (p : FirstPoll) → number ≡ suc at → length polls ≡ length seats → p ≡ get_or polls at p
    → IsBeside (value_of (listeners_in seats polls) number) p
beside-there seats polls number at p is same read = rw is (beside-at seats polls at p same read)

-- ## By number

pub value-there : (seats : List Seat) (polls : List FirstPoll) (number at : ℕ) (s : Seat) (p : FirstPoll) → number ≡ suc at → at < length seats → length polls ≡ length seats
    → s ≡ get_or seats at s → p ≡ get_or polls at p → value_of (listeners_in seats polls) number ≡ listener_in s p
value-there seats polls number at s p is within same is_s is_p = rw is (listener-at seats polls at s p within same is_s is_p)

pub value-past : (seats : List Seat) (polls : List FirstPoll) (number : ℕ) → length seats < number → value_of (listeners_in seats polls) number ≡ None
value-past seats polls zero past = refl
value-past seats polls (suc at) past = no-listener-past seats polls at (omega arith)

pub value-set : (seats : List Seat) (polls : List FirstPoll) (number at : ℕ) (s : Seat) (p : FirstPoll) → number ≡ suc at → length polls ≡ length seats
    → listeners_in (slice_set seats at s) (slice_set polls at p) ≡ with_value (listeners_in seats polls) number (listener_in s p)
value-set seats polls number at s p is same = rw is (listener-set seats polls at s p same)

pub value-gone : (seats : List Seat) (polls : List FirstPoll) (number at : ℕ) → number ≡ suc at → listeners_in (slice_set seats at seat.Gone) polls ≡ with_value (listeners_in seats polls) number None
value-gone seats polls number at is = rw is (listener-gone seats polls at)

not-set : {X : Type 0} (xs : List X) (at : ℕ) (x : X) → length xs ≤ at → slice_set xs at x ≡ xs
not-set [] at x past = refl
not-set (y ∷ xs) zero x past = absurd (omega arith)
not-set (y ∷ xs) (suc at) x past = ap (λ (ys : List _). y ∷ ys) (not-set xs at x (omega arith))

-- nothing is put under a number that was not given
pub value-unset : (seats : List Seat) (polls : List FirstPoll) (number : ℕ) (l : Option Listener) → length seats < number → with_value (listeners_in seats polls) number l ≡ listeners_in seats polls
value-unset seats polls zero l past = refl
value-unset seats polls (suc at) l past = not-set (listeners_in seats polls) at l (omega (arith, listeners-length seats polls, past))

-- no number that was not given has a listener, nor gets one
pub value-zero : (seats : List Seat) (polls : List FirstPoll) (number : ℕ) → number ≡ 0 → value_of (listeners_in seats polls) number ≡ None
value-zero seats polls number is = rw is refl

pub value-zero-unset : (seats : List Seat) (polls : List FirstPoll) (number : ℕ) (l : Option Listener) → number ≡ 0 → with_value (listeners_in seats polls) number l ≡ listeners_in seats polls
value-zero-unset seats polls number l is = rw is refl

-- a key with a source is within the sources
pub within-sources : {X : Type 0} (xs : List (Option X)) (at : ℕ) (x : X) → slice_index_or xs at None ≡ Some x → at < length xs
within-sources [] at x is = absurd cc
within-sources (y ∷ xs) zero x is = omega arith
within-sources (y ∷ xs) (suc at) x is = omega (arith, within-sources xs at x is)
