-- The waiters of a direction as entries of the world's lists, and the live sources as entries of theirs.
use Rattle.std.proofs.Common.{◌≡◌, ℕ, Bool, true, false, not, cond, ◌==◌, List, [], ◌∷◌, ◌++◌, Option, None, Some, option_map, is_some, option_to_list, unwrap_or, refl, ap, ◌∙◌, subst, sym, ⊎_elim}
use Rattle.std.specs.List.{Contains, filter_map, find}
use Rattle.std.proofs.lemmas.Bool.{and_parts, and_from, eqb-true, eq-eqb, not_from_false}
use Rattle.std.proofs.lemmas.List.Elements.{Contains-append_cases, Contains-append_right}
use Rattle.aio_base.specs.declared.names.Waker.{Waker}
use Rattle.aio_base.specs.declared.names.Dir.{Dir}
use Rattle.aio_base.specs.World.{LiveSource, PollWaiter, ListenerEntry, World, same_dir, is_of, serial_of, key_of, poll_waiter, listener_wakers, waiters_of, is_empty_list, is_idle, wanted}
use Rattle.aio_base.proofs.DirectionLemmas.{same_dir-eq, same_dir-refl, passing_direction}
use Rattle.aio_base.proofs.Membership.{none_is_in, first_is_in, later_is_in, among_cases, found_is_in, passing_is_found}

-- ## Directions of serials

pub is_of-eq : (serial : ℕ) (dir : Dir) (s : ℕ) (d : Dir) → is_of serial dir s d ≡ true → (s ≡ serial) × (d ≡ dir)
is_of-eq serial dir s d same =
    let parts = and_parts (s == serial) (same_dir d dir) same in (eqb-true s serial parts.0, same_dir-eq d dir parts.1)

pub is_of-from : (serial : ℕ) (dir : Dir) (s : ℕ) (d : Dir) → s ≡ serial → d ≡ dir → is_of serial dir s d ≡ true
is_of-from serial dir s d e f = and_from (s == serial) (same_dir d dir) (eq-eqb s serial e) (rw f (same_dir-refl dir))

-- ## Waiters

-- a waiter of a direction: its poll waiter, or a listener of it that holds a waker
pub data Wants (polls : List PollWaiter) (listeners : List ListenerEntry) (serial : ℕ) (dir : Dir) : Type 0 where
  Polls : (p : PollWaiter) → Contains polls p → p.serial ≡ serial → p.dir ≡ dir → Wants polls listeners serial dir
  Listens : (l : ListenerEntry) → Contains listeners l → l.serial ≡ serial → l.dir ≡ dir → is_some l.waker ≡ true → Wants polls listeners serial dir

-- what a listener gives to the wakers of a direction
abbrev held : ℕ → Dir → ListenerEntry → Option Waker
held serial dir l = cond (is_of serial dir l.serial l.dir) l.waker None

given_step : {X Y : Type 0} (h : X → Option Y) (o : Option Y) (x : X) (xs : List X) (y : Y) → h x ≡ o
    → (Contains (filter_map h xs) y → (z : X) × Contains xs z × (h z ≡ Some y))
    → Contains (option_to_list o ++ filter_map h xs) y → (z : X) × Contains (x ∷ xs) z × (h z ≡ Some y)
given_step h None x xs y e later among = let there = later among in (there.0, later_is_in x xs there.0 there.1, there.2)
given_step h (Some v) x xs y e later among =
    ⊎_elim
    (λ (same : v ≡ y). (x, first_is_in x xs, e ∙ ap Some same))
    (λ (rest : Contains (filter_map h xs) y). let there = later rest in (there.0, later_is_in x xs there.0 there.1, there.2))
    (among_cases v (filter_map h xs) y among)

cons_as_append : {X Y : Type 0} (h : X → Option Y) (o : Option Y) (x : X) (xs : List X) (y : Y) → h x ≡ o
    → Contains (filter_map h (x ∷ xs)) y → Contains (option_to_list o ++ filter_map h xs) y
cons_as_append h None x xs y e among = rw e at among
cons_as_append h (Some v) x xs y e among = rw e at among

-- what a filtering map has was given by an element
pub given_from : {X Y : Type 0} (h : X → Option Y) (xs : List X) (y : Y) → Contains (filter_map h xs) y → (z : X) × Contains xs z × (h z ≡ Some y)
given_from h [] y among = none_is_in y among
given_from h (x ∷ xs) y among = given_step h (h x) x xs y refl (given_from h xs y) (cons_as_append h (h x) x xs y refl among)

into_step : {X Y : Type 0} (h : X → Option Y) (o : Option Y) (x : X) (xs : List X) (y : Y) → h x ≡ o
    → Contains (option_to_list o ++ filter_map h xs) y → Contains (filter_map h (x ∷ xs)) y
into_step h None x xs y e among = rw e among
into_step h (Some v) x xs y e among = rw e among

pub given_is_in : {X Y : Type 0} (h : X → Option Y) (xs : List X) (z : X) (y : Y) → Contains xs z → h z ≡ Some y → Contains (filter_map h xs) y
given_is_in h [] z y among gives = none_is_in z among
given_is_in h (x ∷ xs) z y among gives =
    ⊎_elim
    (λ (same : x ≡ z). into_step h (Some y) x xs y (ap h same ∙ gives) (first_is_in y (filter_map h xs)))
    (λ (there : Contains xs z). into_step h (h x) x xs y refl
    (Contains-append_right (option_to_list (h x)) (filter_map h xs) y (given_is_in h xs z y there gives)))
    (among_cases x xs z among)

poll_wants : (polls : List PollWaiter) (listeners : List ListenerEntry) (serial : ℕ) (dir : Dir) (o : Option PollWaiter) (waiter : Waker)
    → find (λ (p : PollWaiter). is_of serial dir p.serial p.dir) polls ≡ o
    → Contains (option_to_list (option_map (λ (p : PollWaiter). p.waker) o)) waiter → Wants polls listeners serial dir
poll_wants polls listeners serial dir None waiter e among = none_is_in waiter among
poll_wants polls listeners serial dir (Some p) waiter e among =
    let found = found_is_in (λ (p : PollWaiter). is_of serial dir p.serial p.dir) polls p e in
    let of = is_of-eq serial dir p.serial p.dir found.1 in
    Polls p found.0 of.0 of.1

held_some : (serial : ℕ) (dir : Dir) (l : ListenerEntry) (waiter : Waker) (here : Bool) → is_of serial dir l.serial l.dir ≡ here
    → cond here l.waker None ≡ Some waiter → (l.serial ≡ serial) × (l.dir ≡ dir) × (is_some l.waker ≡ true)
held_some serial dir l waiter true e gives = let of = is_of-eq serial dir l.serial l.dir e in (of.0, of.1, ap is_some gives)
held_some serial dir l waiter false e gives = absurd cc

listener_wants : (polls : List PollWaiter) (listeners : List ListenerEntry) (serial : ℕ) (dir : Dir) (waiter : Waker)
    → Contains (listener_wakers listeners serial dir) waiter → Wants polls listeners serial dir
listener_wants polls listeners serial dir waiter among =
    let given = given_from (held serial dir) listeners waiter among in
    let of = held_some serial dir given.0 waiter (is_of serial dir given.0.serial given.0.dir) refl given.2 in
    Listens given.0 given.1 of.0 of.1 of.2

pub waiter_wants : (w : World) (serial : ℕ) (dir : Dir) (waiter : Waker) → Contains (waiters_of w serial dir) waiter
    → Wants w.poll_waiters w.listeners serial dir
waiter_wants w serial dir waiter among =
    ⊎_elim
    (λ (poll : Contains (option_to_list (poll_waiter w.poll_waiters serial dir)) waiter).
    poll_wants w.poll_waiters w.listeners serial dir (find (λ (p : PollWaiter). is_of serial dir p.serial p.dir) w.poll_waiters) waiter refl poll)
    (λ (listens : Contains (listener_wakers w.listeners serial dir) waiter). listener_wants w.poll_waiters w.listeners serial dir waiter listens)
    (Contains-append_cases (option_to_list (poll_waiter w.poll_waiters serial dir)) (listener_wakers w.listeners serial dir) waiter among)

some_value : {X : Type 0} (o : Option X) → is_some o ≡ true → (x : X) × (o ≡ Some x)
some_value None some = absurd cc
some_value (Some x) some = (x, refl)

-- who wants a direction is among its waiters
wants_waiter : (w : World) (serial : ℕ) (dir : Dir) → Wants w.poll_waiters w.listeners serial dir → (waiter : Waker) × Contains (waiters_of w serial dir) waiter
wants_waiter w serial dir (Polls p among of_serial of_dir) =
    let found = passing_is_found (λ (p : PollWaiter). is_of serial dir p.serial p.dir) w.poll_waiters p among
    (is_of-from serial dir p.serial p.dir of_serial of_dir) in
    let here : poll_waiter w.poll_waiters serial dir ≡ Some found.0.waker = ap (option_map (λ (p : PollWaiter). p.waker)) found.1 in
    (found.0.waker, rw here (first_is_in found.0.waker (listener_wakers w.listeners serial dir)))
wants_waiter w serial dir (Listens l among of_serial of_dir some) =
    let held_by = some_value l.waker some in
    let gives : held serial dir l ≡ Some held_by.0 = rw (is_of-from serial dir l.serial l.dir of_serial of_dir) held_by.1 in (
      held_by.0,
      Contains-append_right (option_to_list (poll_waiter w.poll_waiters serial dir)) (listener_wakers w.listeners serial dir) held_by.0
          (given_is_in (held serial dir) w.listeners l held_by.0 among gives),
    )

filled : {X : Type 0} (xs : List X) (x : X) → Contains xs x → is_empty_list xs ≡ false
filled [] x among = none_is_in x among
filled (y ∷ xs) x among = refl

pub some_of : {X : Type 0} (xs : List X) → is_empty_list xs ≡ false → (x : X) × Contains xs x
some_of [] some = absurd cc
some_of (x ∷ xs) some = (x, first_is_in x xs)

-- a direction that is not idle is wanted, and the other way round
pub busy_wants : (w : World) (serial : ℕ) (dir : Dir) → is_idle w serial dir ≡ false → Wants w.poll_waiters w.listeners serial dir
busy_wants w serial dir busy = let some = some_of (waiters_of w serial dir) busy in waiter_wants w serial dir some.0 some.1

pub wants_busy : (w : World) (serial : ℕ) (dir : Dir) → Wants w.poll_waiters w.listeners serial dir → is_idle w serial dir ≡ false
wants_busy w serial dir wants = let waiter = wants_waiter w serial dir wants in filled (waiters_of w serial dir) waiter.0 waiter.1

-- an arming arms each direction that is wanted
pub wants_wanted : (w : World) (serial : ℕ) (dir : Dir) → Wants w.poll_waiters w.listeners serial dir → Contains (wanted w serial) dir
wants_wanted w serial dir wants =
    passing_direction (λ d. not (is_idle w serial d)) dir (not_from_false (is_idle w serial dir) (wants_busy w serial dir wants))

pub none_wants : (w : World) (serial : ℕ) (dir : Dir) → is_empty_list (wanted w serial) ≡ true → Wants w.poll_waiters w.listeners serial dir → ⊥
none_wants w serial dir none wants = let some = filled (wanted w serial) dir (wants_wanted w serial dir wants) in cc

-- ## Live sources

abbrev pub source : ℕ → ℕ → LiveSource
source key serial = record { key = key; serial = serial }

mapped_some : {X Y : Type 0} (f : X → Y) (o : Option X) (y : Y) → option_map f o ≡ Some y → (x : X) × (o ≡ Some x) × (f x ≡ y)
mapped_some f None y some = absurd cc
mapped_some f (Some x) y some = (x, refl, cc)

pub serial_of-live : (w : World) (key serial : ℕ) → serial_of w key ≡ Some serial → Contains w.live (source key serial)
serial_of-live w key serial some =
    let named = mapped_some (λ (s : LiveSource). s.serial) (find (λ (s : LiveSource). s.key == key) w.live) serial some in
    let found = found_is_in (λ (s : LiveSource). s.key == key) w.live named.0 named.1 in
    let same : named.0.key ≡ key = eqb-true named.0.key key found.1 in
    subst (λ k. Contains w.live (source k serial)) same (subst (λ s. Contains w.live (source named.0.key s)) named.2 found.0)

pub none_live : (w : World) (key serial : ℕ) → serial_of w key ≡ None → Contains w.live (source key serial) → ⊥
none_live w key serial none among =
    let found = passing_is_found (λ (s : LiveSource). s.key == key) w.live (source key serial) among (eq-eqb key key refl) in
    let some : serial_of w key ≡ Some found.0.serial = ap (option_map (λ (s : LiveSource). s.serial)) found.1 in
    cc

-- the key that is found of a live serial is that of a live source with this serial
pub key_of-live : (w : World) (key serial : ℕ) → Contains w.live (source key serial) → Contains w.live (source (unwrap_or (key_of w serial) 0) serial)
key_of-live w key serial among =
    let found = passing_is_found (λ (s : LiveSource). s.serial == serial) w.live (source key serial) among (eq-eqb serial serial refl) in
    let at = found_is_in (λ (s : LiveSource). s.serial == serial) w.live found.0 found.1 in
    let some : key_of w serial ≡ Some found.0.key = ap (option_map (λ (s : LiveSource). s.key)) found.1 in
    let here : Contains w.live (source found.0.key serial) = subst (λ s. Contains w.live (source found.0.key s)) (eqb-true found.0.serial serial at.1) at.0 in
    subst (λ (o : Option ℕ). Contains w.live (source (unwrap_or o 0) serial)) (sym some) here
