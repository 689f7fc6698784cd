-- A pass takes the wakers of the registrations that are due, in order, and leaves the others.
use Rattle.std.proofs.Common.{◌≡◌, ◌≢◌, ℕ, Bool, true, false, not, cond, ◌==◌, List, ◌++◌, find, None, Some, option_map, refl, ap, ◌∙◌, sym, ⊎_elim}
use Rattle.std.specs.Prelude.{nat_le, option_and_then}
use Rattle.std.specs.List.{Contains, filter, list_any}
use Rattle.std.proofs.lemmas.Bool.{cases_Bool, eqb-true, ne_eqb}
use Rattle.std.proofs.lemmas.List.Concat.{flat_map_single}
use Rattle.aio_laws.proofs.timers.PassLemmas.{ordered_is_in}
use Rattle.aio_base.specs.declared.names.Waker.{Waker}
use Rattle.aio_base.specs.World.{ListenerEntry, PollWaiter, Registration, poll_waiter}
use Rattle.aio_base.specs.Timers.{in_order, due_wakers, after_pass}
use Rattle.aio_base.specs.Machine.{is_listener}
use Rattle.aio_laws.specs.Storings.{Place, OfPoll, OfListener, OfTimer, same_place, Stored, Storings, due_places, each_taken, wakers}
use Rattle.aio_base.proofs.Membership.{filtered_is_in, filtered_passes, passing_is_kept, mapped_from, any_from, any_gives, image_is_in}
use Rattle.aio_base.proofs.Searching.{false_unless, of_not, filtered_lost, filtered_found}
use Rattle.aio_laws.proofs.storings.Places.{same_place-eq, same_place-refl}
use Rattle.aio_laws.proofs.storings.Kept.{held_same}
use Rattle.aio_laws.proofs.runs.Apart.{Apart, found_apart, same_element, filtered_apart, ordered_apart, ordered_from}
use Rattle.aio_laws.proofs.storings.Taking.{cleared, given, takes_each, cleared_at, no_place, gives_each}
use Rattle.aio_laws.proofs.storings.Holding.{Holding, holder, held, Orders, Stands}

abbrev is_due : ℕ → Registration → Bool
is_due moment r = nat_le r.deadline moment

abbrev due : ℕ → List Registration → List Registration
due moment registrations = in_order (filter (is_due moment) registrations)

timer_id : (m n : ℕ) → OfTimer m ≡ OfTimer n → m ≡ n
timer_id m n e = cc

pub timers_differ : (m n : ℕ) → m ≢ n → same_place (OfTimer m) (OfTimer n) ≡ false
timers_differ m n apart = ne_eqb m n apart

-- whether the id is that of one that is due
abbrev is_taken : ℕ → List Registration → ℕ → Bool
is_taken moment registrations id = list_any (same_place (OfTimer id)) (due_places moment registrations)

due_is_in : (moment : ℕ) (registrations : List Registration) (r : Registration) → Contains (due moment registrations) r
    → Contains registrations r × (is_due moment r ≡ true)
due_is_in moment registrations r among =
    let passing = ordered_from (filter (is_due moment) registrations) r among in
    (filtered_is_in (is_due moment) registrations r passing, filtered_passes (is_due moment) registrations r passing)

due_is_taken : (moment : ℕ) (registrations : List Registration) (r : Registration) → Contains registrations r → is_due moment r ≡ true
    → is_taken moment registrations r.id ≡ true
due_is_taken moment registrations r among now =
    any_from (same_place (OfTimer r.id)) (due_places moment registrations) (OfTimer r.id)
    (image_is_in (λ (r : Registration). OfTimer r.id) (due moment registrations) r
    (ordered_is_in (filter (is_due moment) registrations) r (passing_is_kept (is_due moment) registrations r now among)))
    (same_place-refl (OfTimer r.id))

taken_is_due : (moment : ℕ) (registrations : List Registration) (id : ℕ) → is_taken moment registrations id ≡ true
    → (r : Registration) × Contains registrations r × (is_due moment r ≡ true) × (r.id ≡ id)
taken_is_due moment registrations id taken =
    let some = any_gives (same_place (OfTimer id)) (due_places moment registrations) taken in
    let image = mapped_from (λ (r : Registration). OfTimer r.id) (due moment registrations) some.0 some.1 in
    let here = due_is_in moment registrations image.0 image.1 in
    (image.0, here.0, here.1, timer_id image.0.id id (image.2 ∙ sym (same_place-eq (OfTimer id) some.0 some.2)))

both : (b : Bool) → b ≡ true → not b ≡ true → ⊥
both true e f = cc
both false e f = cc

after_lost : (moment : ℕ) (registrations : List Registration) (id : ℕ) → Apart (λ (r : Registration). r.id) registrations
    → is_taken moment registrations id ≡ true → find (λ (r : Registration). r.id == id) (after_pass moment registrations) ≡ None
after_lost moment registrations id apart taken =
    let d = taken_is_due moment registrations id taken in
    filtered_lost (λ (r : Registration). r.id == id) (λ (r : Registration). not (is_due moment r)) registrations
    (λ r among later. false_unless (r.id == id) (λ same.
    let e : d.0 ≡ r = same_element (λ (r : Registration). r.id) registrations d.0 r apart d.1 among (d.3 ∙ sym (eqb-true r.id id same)) in
    both (is_due moment r) (sym (ap (is_due moment) e) ∙ d.2) later))

after_found : (moment : ℕ) (registrations : List Registration) (id : ℕ) → is_taken moment registrations id ≡ false
    → find (λ (r : Registration). r.id == id) (after_pass moment registrations) ≡ find (λ (r : Registration). r.id == id) registrations
after_found moment registrations id left =
    filtered_found (λ (r : Registration). r.id == id) (λ (r : Registration). not (is_due moment r)) registrations
    (λ r among now. false_unless (r.id == id) (λ same.
    let taken = due_is_taken moment registrations r among (of_not (is_due moment r) now) in
    let here : is_taken moment registrations id ≡ true = sym (ap (is_taken moment registrations) (eqb-true r.id id same)) ∙ taken in
    cc (here, left)))

timers_cleared : (moment : ℕ) (registrations : List Registration) (id : ℕ)
    → Apart (λ (r : Registration). r.id) registrations
    → option_map (λ (r : Registration). r.waker) (find (λ (r : Registration). r.id == id) (after_pass moment registrations))
    ≡ cond (is_taken moment registrations id) None (option_map (λ (r : Registration). r.waker) (find (λ (r : Registration). r.id == id) registrations))
timers_cleared moment registrations id apart =
    let before = option_map (λ (r : Registration). r.waker) (find (λ (r : Registration). r.id == id) registrations) in
    ⊎_elim
    (λ (taken : is_taken moment registrations id ≡ true).
    ap (option_map (λ (r : Registration). r.waker)) (after_lost moment registrations id apart taken) ∙ sym (ap (λ b. cond b None before) taken))
    (λ (left : is_taken moment registrations id ≡ false).
    ap (option_map (λ (r : Registration). r.waker)) (after_found moment registrations id left) ∙ sym (ap (λ b. cond b None before) left))
    (cases_Bool (is_taken moment registrations id))

-- after a pass nothing is held at the places of those that were due, and elsewhere what was held before
pass_cleared : (polls : List PollWaiter) (listeners : List ListenerEntry) (moment : ℕ) (registrations : List Registration)
    → Apart (λ (r : Registration). r.id) registrations → (q : Place)
    → holder polls listeners (after_pass moment registrations) q ≡ cleared (due_places moment registrations) (holder polls listeners registrations) q
pass_cleared polls listeners moment registrations apart (OfPoll serial dir) =
    sym (cleared_at (due_places moment registrations) (holder polls listeners registrations) (OfPoll serial dir)
    ∙ ap (λ b. cond b None (poll_waiter polls serial dir))
    (no_place (λ (r : Registration). OfTimer r.id) (OfPoll serial dir) (λ r. refl) (due moment registrations)))
pass_cleared polls listeners moment registrations apart (OfListener number) =
    sym (cleared_at (due_places moment registrations) (holder polls listeners registrations) (OfListener number)
    ∙ ap (λ b. cond b None (option_and_then (λ (l : ListenerEntry). l.waker) (find (is_listener number) listeners)))
    (no_place (λ (r : Registration). OfTimer r.id) (OfListener number) (λ r. refl) (due moment registrations)))
pass_cleared polls listeners moment registrations apart (OfTimer id) =
    timers_cleared moment registrations id apart
    ∙ sym (cleared_at (due_places moment registrations) (holder polls listeners registrations) (OfTimer id))

pass_given : (polls : List PollWaiter) (listeners : List ListenerEntry) (moment : ℕ) (registrations : List Registration)
    → Apart (λ (r : Registration). r.id) registrations
    → given (due_places moment registrations) (holder polls listeners registrations) ≡ due_wakers moment registrations
pass_given polls listeners moment registrations apart =
    gives_each (λ (r : Registration). r.id) (λ (r : Registration). Some r.waker) OfTimer (holder polls listeners registrations) timers_differ
    (due moment registrations) (ordered_apart (filter (is_due moment) registrations) (filtered_apart (λ (r : Registration). r.id) (is_due moment) registrations apart))
    (λ r among. ap (option_map (λ (r : Registration). r.waker))
    (found_apart (λ (r : Registration). r.id) registrations r apart (due_is_in moment registrations r among).0))
    ∙ flat_map_single (λ (r : Registration). r.waker) (due moment registrations)

-- the parts after a pass
abbrev pub passed : ℕ → Holding → Holding
passed moment h = record h {
  registrations = after_pass moment h.registrations;
  taken = h.taken ++ due_wakers moment h.registrations;
}

pass_orders : (moment : ℕ) (h : Holding) → Orders h → Orders (passed moment h)
pass_orders moment h o = record {
  numbers_differ = o.numbers_differ;
  numbers_drawn = o.numbers_drawn;
  ids_differ = filtered_apart (λ (r : Registration). r.id) (λ (r : Registration). not (is_due moment r)) h.registrations o.ids_differ;
  ids_drawn = λ r among. o.ids_drawn r (filtered_is_in (λ (r : Registration). not (is_due moment r)) h.registrations r among);
}

pub pass_stands : (moment : ℕ) (h : Holding) (wakes : List Waker) (woken : List (List Stored)) (l : Storings) → Stands h wakes woken l
    → Stands (passed moment h) wakes woken (each_taken (due_places moment h.registrations) l)
pass_stands moment h wakes woken l s =
    let t = takes_each (due_places moment h.registrations) (held h) l s.kept in
    let apart = s.orders.ids_differ in
    record {
      kept = held_same _ (held (passed moment h)) _ (pass_cleared h.polls h.listeners moment h.registrations apart) t.kept;
      orders = pass_orders moment h s.orders;
      taken_is = t.taken_is ∙ ap (λ front. front ++ given (due_places moment h.registrations) (held h)) s.taken_is
          ∙ ap (λ more. h.taken ++ more) (pass_given h.polls h.listeners moment h.registrations apart);
      waking_is = ap wakers t.waking ∙ s.waking_is;
      woken_is = t.woken ∙ s.woken_is;
    }
