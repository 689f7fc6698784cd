-- The storings where timers are registered, set and ended.
use Rattle.std.proofs.Common.{◌≡◌, ℕ, ◌+◌, Bool, true, false, not, cond, ◌==◌, ◌&&◌, List, [], ◌∷◌, ◌++◌, find, Option, None, Some, option_map, is_some, refl, ap, ◌∙◌, sym, subst, arith, ⊎_elim}
use Rattle.std.specs.Prelude.{nat_le}
use Rattle.std.specs.List.{Contains, filter}
use Rattle.std.proofs.lemmas.Bool.{ne_eqb}
use Rattle.std.proofs.lemmas.List.Elements.{Contains-push_cases}
use Rattle.aio_base.specs.declared.names.Waker.{Waker}
use Rattle.aio_base.specs.World.{PollerAnswer, PollWaiter, ListenerEntry, Registration, TimerEntry, World}
use Rattle.aio_base.specs.Machine.{is_waker, unregistered, registered, next_deadline, tick_timer, set_timer, end_timer}
use Rattle.aio_base.proofs.TimerCases.{fired, tick_deadline, tick_by_deadline, set_deadline, set_period, set_by_kept}
use Rattle.aio_laws.specs.Storings.{Place, OfPoll, OfListener, OfTimer, Stored, Storings, stored_at, given_up_at, each_given_up, timer_place, registered_anew, tick_moves_at, tick_moves, set_moves, end_moves}
use Rattle.aio_base.proofs.Membership.{filtered_is_in}
use Rattle.aio_base.proofs.Searching.{nothing_found, without_found, last_found}
use Rattle.aio_laws.proofs.storings.Places.{emptied, filled}
use Rattle.aio_laws.proofs.storings.Kept.{held_same, give_up_kept, store_kept}
use Rattle.aio_laws.proofs.runs.Apart.{filtered_apart, pushed_apart}
use Rattle.aio_laws.proofs.storings.Holding.{Holding, holding_of, holder, held, Orders, Stands, Leaves, quiet_leaves, either}

-- ## What is given up and what is stored, at any place

pub give_up_stands : (p : Place) (h now : Holding) (wakes : List Waker) (woken : List (List Stored)) (l : Storings)
    → ((q : Place) → held now q ≡ emptied p (held h) q) → (Orders h → Orders now) → now.taken ≡ h.taken → Stands h wakes woken l
    → Stands now wakes woken (given_up_at p l)
give_up_stands p h now wakes woken l same orders taken s = record {
  kept = held_same (emptied p (held h)) (held now) (given_up_at p l) same (give_up_kept (held h) p l s.kept);
  orders = orders s.orders;
  taken_is = s.taken_is ∙ sym taken;
  waking_is = s.waking_is;
  woken_is = s.woken_is;
}

pub store_stands : (p : Place) (waker : Waker) (h now : Holding) (wakes : List Waker) (woken : List (List Stored)) (l : Storings)
    → held h p ≡ None → ((q : Place) → held now q ≡ filled p waker (held h) q) → Orders now → now.taken ≡ h.taken → Stands h wakes woken l
    → Stands now wakes woken (stored_at p waker l)
store_stands p waker h now wakes woken l free same orders taken s = record {
  kept = held_same (filled p waker (held h)) (held now) (stored_at p waker l) same (store_kept (held h) p waker l free s.kept);
  orders = orders;
  taken_is = s.taken_is ∙ sym taken;
  waking_is = s.waking_is;
  woken_is = s.woken_is;
}

-- ## Registrations

map_none : (b : Bool) (o : Option Registration) → option_map (λ (r : Registration). r.waker) (cond b None o) ≡ cond b None (option_map (λ (r : Registration). r.waker) o)
map_none true o = refl
map_none false o = refl

map_some : (b : Bool) (r : Registration) (o : Option Registration)
    → option_map (λ (r : Registration). r.waker) (cond b (Some r) o) ≡ cond b (Some r.waker) (option_map (λ (r : Registration). r.waker) o)
map_some true r o = refl
map_some false r o = refl

abbrev without_id : ℕ → List Registration → List Registration
without_id id registrations = filter (λ (r : Registration). not (r.id == id)) registrations

id_emptied : (polls : List PollWaiter) (listeners : List ListenerEntry) (registrations : List Registration) (id : ℕ) (q : Place)
    → holder polls listeners (without_id id registrations) q ≡ emptied (OfTimer id) (holder polls listeners registrations) q
id_emptied polls listeners registrations id (OfPoll serial dir) = refl
id_emptied polls listeners registrations id (OfListener number) = refl
id_emptied polls listeners registrations id (OfTimer n) =
    ap (option_map (λ (r : Registration). r.waker)) (without_found (λ (r : Registration). r.id) id n registrations)
    ∙ map_none (n == id) (find (λ (r : Registration). r.id == n) registrations)

without_id_orders : (h : Holding) (id : ℕ) → Orders h → Orders (record h { registrations = without_id id h.registrations })
without_id_orders h id o = record {
  numbers_differ = o.numbers_differ;
  numbers_drawn = o.numbers_drawn;
  ids_differ = filtered_apart (λ (r : Registration). r.id) (λ (r : Registration). not (r.id == id)) h.registrations o.ids_differ;
  ids_drawn = λ r among. o.ids_drawn r (filtered_is_in (λ (r : Registration). not (r.id == id)) h.registrations r among);
}

unregistered_stands : (w : World) (woken : List (List Stored)) (l : Storings) (id : Option ℕ) → Stands (holding_of w) [] woken l
    → Stands (holding_of (unregistered w id)) [] woken (each_given_up (timer_place id) l)
unregistered_stands w woken l None s = s
unregistered_stands w woken l (Some id) s =
    give_up_stands (OfTimer id) (holding_of w) (holding_of (unregistered w (Some id))) [] woken l
    (id_emptied w.poll_waiters w.listeners w.registrations id) (without_id_orders (holding_of w) id) refl s

unregistered_drawn : (w : World) (id : Option ℕ) → (unregistered w id).ids_drawn ≡ w.ids_drawn
unregistered_drawn w None = refl
unregistered_drawn w (Some id) = refl

-- the registrations with one of the next id
abbrev with_next : Holding → ℕ → Waker → Holding
with_next h deadline waker = record h {
  registrations = h.registrations ++ record { id = h.ids + 1; deadline = deadline; waker = waker } ∷ [];
  ids = h.ids + 1;
}

next_is_free : (h : Holding) → Orders h → find (λ (r : Registration). r.id == h.ids + 1) h.registrations ≡ None
next_is_free h o =
    nothing_found (λ (r : Registration). r.id == h.ids + 1) h.registrations
    (λ r among. ne_eqb r.id (h.ids + 1) (λ (e : r.id ≡ h.ids + 1). let drawn = o.ids_drawn r among in absurd (omega arith)))

id_filled : (h : Holding) (deadline : ℕ) (waker : Waker) → Orders h → (q : Place)
    → held (with_next h deadline waker) q ≡ filled (OfTimer (h.ids + 1)) waker (held h) q
id_filled h deadline waker o (OfPoll serial dir) = refl
id_filled h deadline waker o (OfListener number) = refl
id_filled h deadline waker o (OfTimer n) =
    let new : Registration = record { id = h.ids + 1; deadline = deadline; waker = waker } in
    ap (option_map (λ (r : Registration). r.waker))
    (last_found (λ (r : Registration). r.id) new n h.registrations
    (λ (e : n ≡ h.ids + 1). ap (λ k. find (λ (r : Registration). r.id == k) h.registrations) e ∙ next_is_free h o))
    ∙ map_some (n == h.ids + 1) new (find (λ (r : Registration). r.id == n) h.registrations)

next_orders : (h : Holding) (deadline : ℕ) (waker : Waker) → Orders h → Orders (with_next h deadline waker)
next_orders h deadline waker o =
    let new : Registration = record { id = h.ids + 1; deadline = deadline; waker = waker } in
    record {
      numbers_differ = o.numbers_differ;
      numbers_drawn = o.numbers_drawn;
      ids_differ = pushed_apart (λ (r : Registration). r.id) h.registrations new o.ids_differ
          (λ r among. λ (e : r.id ≡ h.ids + 1). let drawn = o.ids_drawn r among in absurd (omega arith));
      ids_drawn = λ r among.
          ⊎_elim
          (λ (old : Contains h.registrations r). let drawn = o.ids_drawn r old in omega arith)
          (λ (same : new ≡ r). let e : h.ids + 1 ≡ r.id = ap (λ (r : Registration). r.id) same in omega arith)
          (Contains-push_cases h.registrations new r among);
    }

registered_stands : (w : World) (woken : List (List Stored)) (l : Storings) (entry : TimerEntry) (deadline : ℕ) (waker : Waker) → Stands (holding_of w) [] woken l
    → Stands (holding_of (registered w entry deadline waker)) [] woken (stored_at (OfTimer (w.ids_drawn + 1)) waker l)
registered_stands w woken l entry deadline waker s =
    let h = holding_of w in
    store_stands (OfTimer (w.ids_drawn + 1)) waker h (with_next h deadline waker) [] woken l
    (ap (option_map (λ (r : Registration). r.waker)) (next_is_free h s.orders)) (id_filled h deadline waker s.orders) (next_orders h deadline waker s.orders) refl s

-- a timer is registered anew
anew_stands : (w : World) (woken : List (List Stored)) (l : Storings) (old entry : TimerEntry) (deadline : ℕ) (waker : Waker) → Stands (holding_of w) [] woken l
    → Stands (holding_of (registered (unregistered w old.id) entry deadline waker)) [] woken (registered_anew w old (Some waker) l)
anew_stands w woken l old entry deadline waker s =
    let v = unregistered w old.id in
    subst (λ drawn. Stands (holding_of (registered v entry deadline waker)) [] woken (stored_at (OfTimer (drawn + 1)) waker (each_given_up (timer_place old.id) l)))
    (unregistered_drawn w old.id)
    (registered_stands v woken (each_given_up (timer_place old.id) l) entry deadline waker (unregistered_stands w woken l old.id s))

-- ## Steps of timers

fired_stands : (w : World) (woken : List (List Stored)) (l : Storings) (entry : TimerEntry) (waker : Waker) (next : Option ℕ) → Stands (holding_of w) [] woken l
    → Stands (holding_of (fired (unregistered w entry.id) entry waker next)) [] woken (registered_anew w entry (option_map (λ later. waker) next) l)
fired_stands w woken l entry waker None s = unregistered_stands w woken l entry.id s
fired_stands w woken l entry waker (Some deadline) s = anew_stands w woken l entry entry deadline waker s

either_stands : (woken : List (List Stored)) (test : Bool) (l m : Storings) (v w : World) → Stands (holding_of v) [] woken l → Stands (holding_of w) [] woken m
    → Stands (holding_of (cond test v w)) [] woken (cond test l m)
either_stands woken true l m v w first second = first
either_stands woken false l m v w first second = second

tick_leaves_at : (w : World) (woken : List (List Stored)) (l : Storings) (entry : TimerEntry) (waker : Waker) (deadline : Option ℕ) (answers : List PollerAnswer)
    → Stands (holding_of w) [] woken l → Leaves woken (tick_moves_at w waker entry deadline l) (tick_deadline w entry waker deadline answers)
tick_leaves_at w woken l entry waker None answers s = quiet_leaves w woken l _ answers s
tick_leaves_at w woken l entry waker (Some deadline) answers s =
    either woken (nat_le deadline w.now) _ _ _ _
    (λ due. record { stands = fired_stands w woken l entry waker (next_deadline deadline entry.period) s })
    (λ later. record {
      stands = either_stands woken (is_some entry.id && is_waker waker entry.kept) l (registered_anew w entry (Some waker) l) w
          (registered (unregistered w entry.id) entry deadline waker) s (anew_stands w woken l entry entry deadline waker s);
    })

pub tick_leaves : (w : World) (woken : List (List Stored)) (l : Storings) (waker : Waker) (entry : Option TimerEntry) (answers : List PollerAnswer)
    → Stands (holding_of w) [] woken l → Leaves woken (tick_moves w waker entry l) (tick_timer w waker entry answers)
tick_leaves w woken l waker None answers s = quiet_leaves w woken l _ answers s
tick_leaves w woken l waker (Some entry) answers s =
    subst (λ o. Leaves woken (tick_moves w waker (Some entry) l) o) (tick_by_deadline w waker entry answers)
    (tick_leaves_at w woken l entry waker entry.deadline answers s)

set_stands : (w : World) (woken : List (List Stored)) (l : Storings) (old entry : TimerEntry) (deadline : ℕ) (kept : Option Waker) → Stands (holding_of w) [] woken l
    → Stands (holding_of (set_deadline (unregistered w old.id) entry deadline kept)) [] woken (registered_anew w old kept l)
set_stands w woken l old entry deadline None s = unregistered_stands w woken l old.id s
set_stands w woken l old entry deadline (Some waker) s = anew_stands w woken l old entry deadline waker s

pub set_leaves : (w : World) (woken : List (List Stored)) (l : Storings) (deadline : ℕ) (period : Option ℕ) (entry : Option TimerEntry) (answers : List PollerAnswer)
    → Stands (holding_of w) [] woken l → Leaves woken (set_moves w entry l) (set_timer w deadline period entry answers)
set_leaves w woken l deadline period None answers s = quiet_leaves w woken l _ answers s
set_leaves w woken l deadline period (Some entry) answers s =
    subst (λ o. Leaves woken (set_moves w (Some entry) l) o) (set_by_kept w deadline period entry answers)
    (record { stands = set_stands w woken l entry (set_period entry period) deadline entry.kept s })

pub end_leaves : (w : World) (woken : List (List Stored)) (l : Storings) (entry : Option TimerEntry) (answers : List PollerAnswer)
    → Stands (holding_of w) [] woken l → Leaves woken (end_moves entry l) (end_timer w entry answers)
end_leaves w woken l None answers s = quiet_leaves w woken l _ answers s
end_leaves w woken l (Some entry) answers s = record { stands = unregistered_stands w woken l entry.id s }
