-- The storings where sources are taken out and where tasks poll them.
use Rattle.std.proofs.Common.{◌≡◌, ℕ, Bool, true, false, not, cond, ◌==◌, ◌&&◌, ◌||◌, List, [], ◌∷◌, ◌++◌, map, find, Option, None, Some, option_map, option_to_list, refl, ap, ◌∙◌, sym, subst}
use Rattle.std.specs.List.{filter, list_any}
use Rattle.std.proofs.lemmas.Bool.{eqb-true, eq-eqb}
use Rattle.aio_base.specs.declared.names.Waker.{Waker}
use Rattle.aio_base.specs.declared.names.Dir.{Dir}
use Rattle.aio_base.specs.World.{PollerAnswer, PollWaiter, ListenerEntry, Registration, World, directions, same_dir, is_of, poll_waiter, without_waiter, mark_of, is_idle, is_broken}
use Rattle.aio_base.specs.Machine.{Outcome, fails, next_answer, broken_world, armed_world, after_arm, pending, del_source, is_fresh_since, is_waker, with_waiter, poll_source}
use Rattle.aio_laws.specs.Storings.{Place, OfPoll, OfListener, OfTimer, Stored, Storings, stored_at, given_up_at, each_given_up, woken_at, poll_moves, del_moves}
use Rattle.aio_base.proofs.DirectionLemmas.{each_named}
use Rattle.aio_base.proofs.WaiterLemmas.{is_of-eq, is_of-from}
use Rattle.aio_base.proofs.Searching.{of_not, false_unless, filtered_lost, filtered_found, pushed_found, pushed_passed}
use Rattle.aio_laws.proofs.storings.Places.{Holder, emptied, filled, same_place-refl}
use Rattle.aio_laws.proofs.storings.Kept.{Kept, held_same, give_up_kept, wake_kept, store_kept, added_wakers}
use Rattle.aio_laws.proofs.storings.Holding.{Holding, holding_of, holder, held, Orders, Stands, Leaves, quiet_leaves, either}
use Rattle.aio_laws.proofs.storings.HeldEvents.{polls_cleared}

-- ## A source is taken out

abbrev without_serial : ℕ → List PollWaiter → List PollWaiter
without_serial serial polls = filter (λ (p : PollWaiter). not (p.serial == serial)) polls

serial_lost : (polls : List PollWaiter) (serial n : ℕ) (d : Dir) → (n == serial) ≡ true → poll_waiter (without_serial serial polls) n d ≡ None
serial_lost polls serial n d same =
    ap (option_map (λ (p : PollWaiter). p.waker))
    (filtered_lost (λ (p : PollWaiter). is_of n d p.serial p.dir) (λ (p : PollWaiter). not (p.serial == serial)) polls
    (λ p among stays. false_unless (is_of n d p.serial p.dir) (λ found.
    let at = is_of-eq n d p.serial p.dir found in
    let gone = eq-eqb p.serial serial (at.0 ∙ eqb-true n serial same) in
    let wrong : false ≡ true = sym (ap not gone) ∙ stays in cc)))

serial_found : (polls : List PollWaiter) (serial n : ℕ) (d : Dir) → (n == serial) ≡ false → poll_waiter (without_serial serial polls) n d ≡ poll_waiter polls n d
serial_found polls serial n d other =
    ap (option_map (λ (p : PollWaiter). p.waker))
    (filtered_found (λ (p : PollWaiter). is_of n d p.serial p.dir) (λ (p : PollWaiter). not (p.serial == serial)) polls
    (λ p among goes. false_unless (is_of n d p.serial p.dir) (λ found.
    let at = is_of-eq n d p.serial p.dir found in
    let there = eqb-true p.serial serial (of_not (p.serial == serial) goes) in
    let same = eq-eqb n serial (sym at.0 ∙ there) in cc)))

-- where nothing is held at these places
abbrev each_emptied : List Place → Holder → Holder
each_emptied [] at = at
each_emptied (p ∷ ps) at = each_emptied ps (emptied p at)

each_kept : (ps : List Place) (at : Holder) (l : Storings) → Kept at l → Kept (each_emptied ps at) (each_given_up ps l)
each_kept [] at l k = k
each_kept (p ∷ ps) at l k = each_kept ps (emptied p at) (given_up_at p l) (give_up_kept at p l k)

emptied_twice : (own here later : Bool) (waker : Option Waker) → cond (own && later) None (cond (own && here) None waker) ≡ cond (own && (here || later)) None waker
emptied_twice false here later waker = refl
emptied_twice true true true waker = refl
emptied_twice true true false waker = refl
emptied_twice true false later waker = refl

emptied_never : (own : Bool) (waker : Option Waker) → waker ≡ cond (own && false) None waker
emptied_never true waker = refl
emptied_never false waker = refl

-- a poll waiter of these directions of a source is held no longer
polls_emptied : (dirs : List Dir) (serial n : ℕ) (d : Dir) (at : Holder)
    → each_emptied (map (OfPoll serial) dirs) at (OfPoll n d) ≡ cond ((n == serial) && list_any (same_dir d) dirs) None (at (OfPoll n d))
polls_emptied [] serial n d at = emptied_never (n == serial) (at (OfPoll n d))
polls_emptied (dir ∷ dirs) serial n d at =
    polls_emptied dirs serial n d (emptied (OfPoll serial dir) at) ∙ emptied_twice (n == serial) (same_dir d dir) (list_any (same_dir d) dirs) (at (OfPoll n d))

-- where nothing is held of any direction of a source
abbrev source_emptied : ℕ → Holder → Holder
source_emptied serial at = each_emptied (map (OfPoll serial) directions) at

serial_emptied_at : (polls : List PollWaiter) (listeners : List ListenerEntry) (registrations : List Registration) (serial n : ℕ) (d : Dir) (here : Bool)
    → (n == serial) ≡ here
    → poll_waiter (without_serial serial polls) n d ≡ source_emptied serial (holder polls listeners registrations) (OfPoll n d)
serial_emptied_at polls listeners registrations serial n d true same =
    serial_lost polls serial n d same
    ∙ sym (polls_emptied directions serial n d (holder polls listeners registrations)
    ∙ ap (λ own. cond (own && list_any (same_dir d) directions) None (poll_waiter polls n d)) same
    ∙ ap (λ named. cond named None (poll_waiter polls n d)) (each_named d))
serial_emptied_at polls listeners registrations serial n d false other =
    serial_found polls serial n d other
    ∙ sym (polls_emptied directions serial n d (holder polls listeners registrations)
    ∙ ap (λ own. cond (own && list_any (same_dir d) directions) None (poll_waiter polls n d)) other)

serial_emptied : (polls : List PollWaiter) (listeners : List ListenerEntry) (registrations : List Registration) (serial : ℕ) (q : Place)
    → holder (without_serial serial polls) listeners registrations q ≡ source_emptied serial (holder polls listeners registrations) q
serial_emptied polls listeners registrations serial (OfPoll n d) = serial_emptied_at polls listeners registrations serial n d (n == serial) refl
serial_emptied polls listeners registrations serial (OfListener number) = refl
serial_emptied polls listeners registrations serial (OfTimer id) = refl

same_orders : (h : Holding) (polls : List PollWaiter) (taken : List Waker) → Orders h → Orders (record h { polls = polls; taken = taken })
same_orders h polls taken o = record {
  numbers_differ = o.numbers_differ;
  numbers_drawn = o.numbers_drawn;
  ids_differ = o.ids_differ;
  ids_drawn = o.ids_drawn;
}

removed_stands : (h : Holding) (woken : List (List Stored)) (l : Storings) (serial : ℕ) → Stands h [] woken l
    → Stands (record h { polls = without_serial serial h.polls }) [] woken (each_given_up (map (OfPoll serial) directions) l)
removed_stands h woken l serial s = record {
  kept = held_same (source_emptied serial (held h)) (held (record h { polls = without_serial serial h.polls })) _
      (serial_emptied h.polls h.listeners h.registrations serial)
      (each_kept (map (OfPoll serial) directions) (held h) l s.kept);
  orders = same_orders h (without_serial serial h.polls) h.taken s.orders;
  taken_is = s.taken_is;
  waking_is = s.waking_is;
  woken_is = s.woken_is;
}

pub del_leaves : (w : World) (woken : List (List Stored)) (l : Storings) (key : ℕ) (serial : Option ℕ) (answers : List PollerAnswer)
    → Stands (holding_of w) [] woken l → Leaves woken (del_moves w serial l) (del_source w key serial answers)
del_leaves w woken l key None answers s = quiet_leaves w woken l _ answers s
del_leaves w woken l key (Some serial) answers s =
    either woken (list_any (λ (e : ListenerEntry). e.serial == serial) w.listeners) _ _ _ _
    (λ used. quiet_leaves w woken l _ answers s)
    (λ free. record { stands = removed_stands (holding_of w) woken l serial s })

-- ## Arming what stays pending

pub either_world : (test : Bool) (v w : World) (h : Holding) → holding_of v ≡ h → holding_of w ≡ h → holding_of (cond test v w) ≡ h
either_world true v w h first second = first
either_world false v w h first second = second

arm_holding : (w : World) (key serial : ℕ) (said : PollerAnswer) → holding_of (after_arm w key serial said) ≡ holding_of w
arm_holding w key serial said = either_world (fails said) (broken_world w serial) (armed_world w key serial) (holding_of w) refl refl

pub pending_leaves : (test : Bool) (w : World) (woken : List (List Stored)) (l : Storings) (key serial : ℕ) (wakes : List Waker) (answers : List PollerAnswer)
    → Stands (holding_of w) wakes woken l → Leaves woken l (pending test w key serial wakes answers)
pending_leaves false w woken l key serial wakes answers s = record { stands = s }
pending_leaves true w woken l key serial wakes answers s =
    record { stands = subst (λ h. Stands h wakes woken l) (sym (arm_holding w key serial (next_answer answers))) s }

-- ## A task polls a source

abbrev with_poll : List PollWaiter → ℕ → Dir → Waker → List PollWaiter
with_poll polls serial dir waker = without_waiter polls serial dir ++ record { serial = serial; dir = dir; waker = waker } ∷ []

map_lost : (o : Option PollWaiter) → option_map (λ (p : PollWaiter). p.waker) o ≡ None → o ≡ None
map_lost None e = refl
map_lost (Some p) e = absurd cc

poll_filled_at : (polls : List PollWaiter) (serial : ℕ) (dir : Dir) (waker : Waker) (n : ℕ) (d : Dir) (here : Bool) → is_of serial dir n d ≡ here
    → poll_waiter (with_poll polls serial dir waker) n d ≡ cond here (Some waker) (cond here None (poll_waiter polls n d))
poll_filled_at polls serial dir waker n d true same =
    let of = is_of-eq serial dir n d same in
    let none = polls_cleared polls serial dir n d ∙ ap (λ b. cond b None (poll_waiter polls n d)) same in
    ap (option_map (λ (p : PollWaiter). p.waker))
    (pushed_found (λ (p : PollWaiter). is_of n d p.serial p.dir) (without_waiter polls serial dir) (record { serial = serial; dir = dir; waker = waker })
    (map_lost (find (λ (p : PollWaiter). is_of n d p.serial p.dir) (without_waiter polls serial dir)) none) (is_of-from n d serial dir (sym of.0) (sym of.1)))
poll_filled_at polls serial dir waker n d false other =
    ap (option_map (λ (p : PollWaiter). p.waker))
    (pushed_passed (λ (p : PollWaiter). is_of n d p.serial p.dir) (without_waiter polls serial dir) (record { serial = serial; dir = dir; waker = waker })
    (false_unless (is_of n d serial dir) (λ found.
    let of = is_of-eq n d serial dir found in
    let same = is_of-from serial dir n d (sym of.0) (sym of.1) in cc)))
    ∙ polls_cleared polls serial dir n d ∙ ap (λ b. cond b None (poll_waiter polls n d)) other

poll_filled : (polls : List PollWaiter) (listeners : List ListenerEntry) (registrations : List Registration) (serial : ℕ) (dir : Dir) (waker : Waker) (q : Place)
    → holder (with_poll polls serial dir waker) listeners registrations q
    ≡ filled (OfPoll serial dir) waker (emptied (OfPoll serial dir) (holder polls listeners registrations)) q
poll_filled polls listeners registrations serial dir waker (OfPoll n d) = poll_filled_at polls serial dir waker n d (is_of serial dir n d) refl
poll_filled polls listeners registrations serial dir waker (OfListener number) = refl
poll_filled polls listeners registrations serial dir waker (OfTimer id) = refl

-- nothing is held at a place that was emptied
pub now_free : (p : Place) (at : Holder) → emptied p at p ≡ None
now_free p at = ap (λ b. cond b None (at p)) (same_place-refl p)

polled_stands : (h : Holding) (woken : List (List Stored)) (l : Storings) (serial : ℕ) (dir : Dir) (waker : Waker) → Stands h [] woken l
    → Stands (record h { polls = with_poll h.polls serial dir waker }) (option_to_list (poll_waiter h.polls serial dir)) woken
    (stored_at (OfPoll serial dir) waker (woken_at (OfPoll serial dir) l))
polled_stands h woken l serial dir waker s =
    let p = OfPoll serial dir in
    record {
      kept = held_same (filled p waker (emptied p (held h))) (held (record h { polls = with_poll h.polls serial dir waker })) _
          (poll_filled h.polls h.listeners h.registrations serial dir waker)
          (store_kept (emptied p (held h)) p waker (woken_at p l) (now_free p (held h)) (wake_kept (held h) p l s.kept));
      orders = same_orders h (with_poll h.polls serial dir waker) h.taken s.orders;
      taken_is = s.taken_is;
      waking_is = added_wakers (held h) p l.waking l s.kept
          ∙ ap (λ front. front ++ option_to_list (poll_waiter h.polls serial dir)) s.waking_is;
      woken_is = s.woken_is;
    }

poll_cases : (woken : List (List Stored)) (fresh again : Bool) (l m : Storings) (x y z : Outcome) → Leaves woken l x → Leaves woken l y → Leaves woken m z
    → Leaves woken (cond (fresh || again) l m) (cond fresh x (cond again y z))
poll_cases woken true again l m x y z first second third = first
poll_cases woken false true l m x y z first second third = second
poll_cases woken false false l m x y z first second third = third

pub poll_leaves : (w : World) (woken : List (List Stored)) (l : Storings) (key : ℕ) (dir : Dir) (waker : Waker) (serial : Option ℕ) (answers : List PollerAnswer)
    → Stands (holding_of w) [] woken l → Leaves woken (poll_moves w dir waker serial l) (poll_source w key dir waker serial answers)
poll_leaves w woken l key dir waker None answers s = quiet_leaves w woken l _ answers s
poll_leaves w woken l key dir waker (Some serial) answers s =
    let waiter = poll_waiter w.poll_waiters serial dir in
    poll_cases woken (is_fresh_since w serial dir (mark_of w.marks serial dir)) (is_waker waker waiter) l
    (stored_at (OfPoll serial dir) waker (woken_at (OfPoll serial dir) l)) _ _ _
    (record { stands = s }) (pending_leaves (is_broken w serial) w woken l key serial [] answers s)
    (pending_leaves (is_idle w serial dir || is_broken w serial) (with_waiter w serial dir waker) woken _ key serial (option_to_list waiter) answers
    (polled_stands (holding_of w) woken l serial dir waker s))
