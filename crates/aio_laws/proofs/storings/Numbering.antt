-- Storings of a world: each waker that it holds, and each that its running round has taken, under a number of its own.
use Rattle.std.proofs.Common.{◌≡◌, ◌≢◌, ℕ, ◌+◌, ◌<◌, ◌≤◌, Bool, true, false, cond, ◌==◌, List, [], ◌∷◌, ◌++◌, length, map, find, Option, None, Some, option_map, option_to_list, refl, ap, ◌∙◌, sym, ⊎_elim, arith, append-nil}
use Rattle.std.specs.Prelude.{flat_map, option_and_then}
use Rattle.std.specs.List.{Contains, filter}
use Rattle.std.proofs.lemmas.Bool.{cases_lt, eqb-true, eq-eqb, ne_eqb, and_parts, and_from}
use Rattle.std.proofs.lemmas.List.{map-append}
use Rattle.std.proofs.lemmas.List.Elements.{filter-append}
use Rattle.aio_base.specs.declared.names.Waker.{Waker}
use Rattle.aio_base.specs.declared.names.Dir.{Dir}
use Rattle.aio_base.specs.World.{PollWaiter, ListenerEntry, Registration, World, is_of, same_dir}
use Rattle.aio_base.specs.Machine.{is_listener}
use Rattle.aio_laws.specs.Distinct.{NoDoubles, waiter_direction}
use Rattle.aio_laws.specs.Storings.{Place, OfPoll, OfListener, OfTimer, same_place, Stored, Storings, standing_at, times, taken_of, waker_at, wakers}
use Rattle.aio_laws.specs.Waking.{AreOf, EachInOneList}
use Rattle.aio_base.proofs.Membership.{first_is_in, later_is_in}
use Rattle.aio_base.proofs.Searching.{false_unless}
use Rattle.aio_base.proofs.DirectionLemmas.{same_dir-eq, same_dir-from}
use Rattle.aio_base.proofs.WaiterLemmas.{is_of-eq, is_of-from}
use Rattle.aio_laws.proofs.runs.Apart.{Apart, differ_apart}

-- a waker at its place
abbrev Held : Type 0
Held = Place × Waker

-- under the numbers from this one on
abbrev numbered : ℕ → List Held → List Stored
numbered n [] = []
numbered n (h ∷ held) = record { number = n; place = h.0; waker = h.1 } ∷ numbered (n + 1) held

-- ## How often a number is there

counted_one : (same : Bool) (rest : ℕ) → same ≡ true → cond same 1 0 + rest ≡ rest + 1
counted_one true rest e = omega arith
counted_one false rest e = absurd cc

counted_not : (same : Bool) (rest : ℕ) → same ≡ false → cond same 1 0 + rest ≡ rest
counted_not true rest e = absurd cc
counted_not false rest e = omega arith

none_below : (held : List Held) (n k : ℕ) → k < n → times k (numbered n held) ≡ 0
none_below [] n k below = refl
none_below (h ∷ held) n k below =
    let rest = none_below held (n + 1) k (omega arith) in
    let other = counted_not (n == k) (times k (numbered (n + 1) held)) (ne_eqb n k (λ same. absurd (omega arith))) in
    omega arith

none_above : (held : List Held) (n k : ℕ) → n + length held ≤ k → times k (numbered n held) ≡ 0
none_above [] n k above = refl
none_above (h ∷ held) n k above =
    let rest = none_above held (n + 1) k (omega arith) in
    let other = counted_not (n == k) (times k (numbered (n + 1) held)) (ne_eqb n k (λ same. absurd (omega arith))) in
    omega arith

one_within : (held : List Held) (n k : ℕ) → n ≤ k → k < n + length held → times k (numbered n held) ≡ 1
one_within [] n k from within = absurd (omega arith)
one_within (h ∷ held) n k from within =
    ⊎_elim
    (λ (later : n < k).
    let rest = one_within held (n + 1) k (omega arith) (omega arith) in
    let other = counted_not (n == k) (times k (numbered (n + 1) held)) (ne_eqb n k (λ same. absurd (omega arith))) in
    omega arith)
    (λ (here : k ≤ n).
    let none = none_below held (n + 1) k (omega arith) in
    let one = counted_one (n == k) (times k (numbered (n + 1) held)) (eq-eqb n k (omega arith)) in
    omega arith)
    (cases_lt n k)

-- ## What stands at a place

-- the wakers at a place
abbrev at : Place → List Held → List Waker
at p held = map (λ (h : Held). h.1) (filter (λ (h : Held). same_place p h.0) held)

numbered_step : (here : Bool) (x : Stored) (xs : List Stored) (later : List Held) (h : Held) → x.waker ≡ h.1
    → wakers xs ≡ map (λ (h : Held). h.1) later → wakers (cond here (x ∷ xs) xs) ≡ map (λ (h : Held). h.1) (cond here (h ∷ later) later)
numbered_step true x xs later h same rest = ap (λ w. w ∷ wakers xs) same ∙ ap (λ ws. h.1 ∷ ws) rest
numbered_step false x xs later h same rest = rest

numbered_at : (p : Place) (held : List Held) (n : ℕ) → wakers (standing_at p (numbered n held)) ≡ at p held
numbered_at p [] n = refl
numbered_at p (h ∷ held) n =
    numbered_step (same_place p h.0) (record { number = n; place = h.0; waker = h.1 }) (standing_at p (numbered (n + 1) held))
    (filter (λ (h : Held). same_place p h.0) held) h refl (numbered_at p held (n + 1))

at-append : (p : Place) (xs ys : List Held) → at p (xs ++ ys) ≡ at p xs ++ at p ys
at-append p xs ys = ap (map (λ (h : Held). h.1)) (filter-append (λ (h : Held). same_place p h.0) xs ys)
    ∙ map-append (λ (h : Held). h.1) (filter (λ (h : Held). same_place p h.0) xs) (filter (λ (h : Held). same_place p h.0) ys)

-- what one entry holds at its place, where it holds anything
abbrev one : Place → Option Waker → List Held
one p waker = map (λ waker. (p, waker)) (option_to_list waker)

-- what these entries hold
abbrev all : {X : Type 0} → (X → Place) → (X → Option Waker) → List X → List Held
all {X} place hold xs = flat_map (λ x. one (place x) (hold x)) xs

one_here : (p q : Place) (waker : Option Waker) (here : Bool) → same_place p q ≡ here → at p (one q waker) ≡ cond here (option_to_list waker) []
one_here p q None true same = refl
one_here p q None false same = refl
one_here p q (Some waker) true same = rw same refl
one_here p q (Some waker) false same = rw same refl

none_held : {X : Type 0} (place : X → Place) (hold : X → Option Waker) (p : Place) (xs : List X)
    → ((x : X) → Contains xs x → same_place p (place x) ≡ false) → at p (all place hold xs) ≡ []
none_held place hold p [] other = refl
none_held place hold p (x ∷ xs) other =
    at-append p (one (place x) (hold x)) (all place hold xs)
    ∙ ap (λ front. front ++ at p (all place hold xs)) (one_here p (place x) (hold x) false (other x (first_is_in x xs)))
    ∙ none_held place hold p xs (λ y among. other y (later_is_in x xs y among))

found_step : {X K : Type 0} (key : X → K) (place : X → Place) (hold : X → Option Waker) (p : Place) (test : X → Bool)
    → ((x : X) → same_place p (place x) ≡ test x) → ((x y : X) → test x ≡ true → test y ≡ true → key x ≡ key y) → (x : X) (xs : List X)
    → ((y : X) → Contains xs y → key x ≢ key y) → at p (all place hold xs) ≡ option_to_list (option_and_then hold (find test xs)) → (here : Bool) → test x ≡ here
    → at p (one (place x) (hold x)) ++ at p (all place hold xs) ≡ option_to_list (option_and_then hold (cond here (Some x) (find test xs)))
found_step key place hold p test same one_key x xs apart rest true is =
    ap (λ back. at p (one (place x) (hold x)) ++ back)
    (none_held place hold p xs (λ y among. same y ∙ false_unless (test y) (λ yes. apart y among (one_key x y is yes))))
    ∙ append-nil (at p (one (place x) (hold x))) ∙ one_here p (place x) (hold x) true (same x ∙ is)
found_step key place hold p test same one_key x xs apart rest false is =
    ap (λ front. front ++ at p (all place hold xs)) (one_here p (place x) (hold x) false (same x ∙ is)) ∙ rest

found_held : {X K : Type 0} (key : X → K) (place : X → Place) (hold : X → Option Waker) (p : Place) (test : X → Bool)
    → ((x : X) → same_place p (place x) ≡ test x) → ((x y : X) → test x ≡ true → test y ≡ true → key x ≡ key y) → (xs : List X) → Apart key xs
    → at p (all place hold xs) ≡ option_to_list (option_and_then hold (find test xs))
found_held key place hold p test same one_key [] apart = refl
found_held key place hold p test same one_key (x ∷ xs) apart =
    at-append p (one (place x) (hold x)) (all place hold xs)
    ∙ found_step key place hold p test same one_key x xs apart.0 (found_held key place hold p test same one_key xs apart.1) (test x) refl

-- ## What a world holds

abbrev poll_place : PollWaiter → Place
poll_place x = OfPoll x.serial x.dir

abbrev poll_hold : PollWaiter → Option Waker
poll_hold x = Some x.waker

abbrev listener_place : ListenerEntry → Place
listener_place x = OfListener x.number

abbrev listener_hold : ListenerEntry → Option Waker
listener_hold x = x.waker

abbrev timer_place : Registration → Place
timer_place x = OfTimer x.id

abbrev timer_hold : Registration → Option Waker
timer_hold x = Some x.waker

abbrev all_held : World → List Held
all_held w = all poll_place poll_hold w.poll_waiters ++ all listener_place listener_hold w.listeners ++ all timer_place timer_hold w.registrations

held_at : (p : Place) (polls listeners timers : List Held) (a b c : List Waker) → at p polls ≡ a → at p listeners ≡ b → at p timers ≡ c
    → at p (polls ++ listeners ++ timers) ≡ a ++ b ++ c
held_at p polls listeners timers a b c first second third =
    at-append p (polls ++ listeners) timers
    ∙ ap (λ front. front ++ at p timers) (at-append p polls listeners ∙ ap (λ polls. polls ++ at p listeners) first ∙ ap (λ listeners. a ++ listeners) second)
    ∙ ap (λ timers. (a ++ b) ++ timers) third

of_some : {X : Type 0} (f : X → Waker) (x : Option X) → option_and_then (λ (x : X). Some (f x)) x ≡ option_map f x
of_some f None = refl
of_some f (Some x) = refl

turned : (a b : Bool) → (a ≡ true → b ≡ true) → (b ≡ true → a ≡ true) → a ≡ b
turned true true to from = refl
turned false false to from = refl
turned true false to from = sym (to refl)
turned false true to from = from refl

same_direction : (s : ℕ) (d : Dir) (t : ℕ) (e : Dir) → same_place (OfPoll s d) (OfPoll t e) ≡ is_of s d t e
same_direction s d t e =
    turned (same_place (OfPoll s d) (OfPoll t e)) (is_of s d t e)
    (λ same. let parts = and_parts (s == t) (same_dir d e) same in
    is_of-from s d t e (sym (eqb-true s t parts.0)) (sym (same_dir-eq d e parts.1)))
    (λ of. let parts = is_of-eq s d t e of in
    and_from (s == t) (same_dir d e) (eq-eqb s t (sym parts.0)) (same_dir-from d e (sym parts.1)))

same_number : (m n : ℕ) → (m == n) ≡ (n == m)
same_number m n = turned (m == n) (n == m) (λ same. eq-eqb n m (sym (eqb-true m n same))) (λ same. eq-eqb m n (sym (eqb-true n m same)))

each_place : (w : World) → NoDoubles w → (p : Place) → at p (all_held w) ≡ option_to_list (waker_at w p)
each_place w distinct (OfPoll serial dir) =
    let test : PollWaiter → Bool = λ (x : PollWaiter). is_of serial dir x.serial x.dir in
    let polls = found_held waiter_direction poll_place poll_hold (OfPoll serial dir) test (λ x. same_direction serial dir x.serial x.dir)
    (λ x y first second.
    let a = is_of-eq serial dir x.serial x.dir first in let b = is_of-eq serial dir y.serial y.dir second in
    ap (λ (s : ℕ). (s, x.dir)) (a.0 ∙ sym b.0) ∙ ap (λ (d : Dir). (y.serial, d)) (a.1 ∙ sym b.1))
    w.poll_waiters (differ_apart waiter_direction w.poll_waiters distinct.poll_waiters) in
    let is : List Waker = option_to_list (option_and_then poll_hold (find test w.poll_waiters)) in
    held_at (OfPoll serial dir) (all poll_place poll_hold w.poll_waiters) (all listener_place listener_hold w.listeners)
    (all timer_place timer_hold w.registrations) is [] [] polls
    (none_held listener_place listener_hold (OfPoll serial dir) w.listeners (λ x among. refl))
    (none_held timer_place timer_hold (OfPoll serial dir) w.registrations (λ x among. refl))
    ∙ append-nil (is ++ []) ∙ append-nil is ∙ ap option_to_list (of_some (λ (x : PollWaiter). x.waker) (find test w.poll_waiters))
each_place w distinct (OfListener number) =
    let is : List Waker = option_to_list (waker_at w (OfListener number)) in
    held_at (OfListener number) (all poll_place poll_hold w.poll_waiters) (all listener_place listener_hold w.listeners)
    (all timer_place timer_hold w.registrations) [] is []
    (none_held poll_place poll_hold (OfListener number) w.poll_waiters (λ x among. refl))
    (found_held (λ (x : ListenerEntry). x.number) listener_place listener_hold (OfListener number) (is_listener number) (λ x. same_number number x.number)
    (λ x y first second. eqb-true x.number number first ∙ sym (eqb-true y.number number second))
    w.listeners (differ_apart (λ (x : ListenerEntry). x.number) w.listeners distinct.listeners))
    (none_held timer_place timer_hold (OfListener number) w.registrations (λ x among. refl))
    ∙ append-nil is
each_place w distinct (OfTimer id) =
    let test : Registration → Bool = λ (x : Registration). x.id == id in
    held_at (OfTimer id) (all poll_place poll_hold w.poll_waiters) (all listener_place listener_hold w.listeners)
    (all timer_place timer_hold w.registrations) [] [] (option_to_list (option_and_then timer_hold (find test w.registrations)))
    (none_held poll_place poll_hold (OfTimer id) w.poll_waiters (λ x among. refl))
    (none_held listener_place listener_hold (OfTimer id) w.listeners (λ x among. refl))
    (found_held (λ (x : Registration). x.id) timer_place timer_hold (OfTimer id) test (λ x. same_number id x.id)
    (λ x y first second. eqb-true x.id id first ∙ sym (eqb-true y.id id second))
    w.registrations (differ_apart (λ (x : Registration). x.id) w.registrations distinct.registrations))
    ∙ ap option_to_list (of_some (λ (x : Registration). x.waker) (find test w.registrations))

-- ## The storings

-- of no place that matters: what a round has taken has left its place
abbrev taken_held : List Waker → List Held
taken_held wakers = map (λ (waker : Waker). (OfTimer 0, waker)) wakers

taken_wakers : (taken : List Waker) (n : ℕ) → wakers (numbered n (taken_held taken)) ≡ taken
taken_wakers [] n = refl
taken_wakers (waker ∷ taken) n = ap (λ later. waker ∷ later) (taken_wakers taken (n + 1))

abbrev pub storings_held : World → Storings
storings_held w =
    let held = all_held w in
    let taken = taken_held (taken_of w.round) in
    record {
      given = length held + length taken;
      standing = numbered 0 held;
      taken = numbered (length held) taken;
      waking = [];
      woken = [];
      given_up = [];
    }

pub held_are_of : (w : World) → NoDoubles w → AreOf w (storings_held w)
held_are_of w distinct = record {
  stands = λ p. numbered_at p (all_held w) 0 ∙ each_place w distinct p;
  round = taken_wakers (taken_of w.round) (length (all_held w));
}

pub held_once : (w : World) → EachInOneList (storings_held w)
held_once w =
    let held = all_held w in
    let taken = taken_held (taken_of w.round) in
    record {
      each = λ n below.
          ⊎_elim
          (λ (first : n < length held).
          let stands = one_within held 0 n (omega arith) (omega arith) in let none = none_below taken (length held) n first in omega arith)
          (λ (second : length held ≤ n).
          let none = none_above held 0 n (omega arith) in let is = one_within taken (length held) n second below in omega arith)
          (cases_lt n (length held));
      no_other = λ n above. let none = none_above held 0 n (omega arith) in let never = none_above taken (length held) n above in omega arith;
      at_rest = refl;
    }
