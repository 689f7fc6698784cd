-- Who waits for a direction, and what its calls make of that.
use Rattle.std.specs.Prelude.{◌≡◌, ◌==◌, ◌≤◌, Bool, true, false, not, ◌||◌, IsTrue, if◌then◌else◌, List, [], ◌∷◌, ◌++◌, length, Option, None, Some, option_to_list, ℕ, max, refl}
use Rattle.std.proofs.Common.{ap, sym, ◌∙◌, arith, length-append}
use Rattle.std.specs.List.{list_any}
use Rattle.std.proofs.lemmas.Bool.Decides.{nat_tests}
use Rattle.aio_base.specs.declared.names.Dir.{Dir}
use Rattle.aio_base.specs.declared.names.Waker.{Waker}
use Rattle.aio_base.specs.declared.names.Interest.{Interest}
use Rattle.aio_base.specs.World.{directions, has_any, has_dir, is_empty_list}
use Rattle.aio_base.specs.Machine.{is_waker}
use Rattle.aio_listen.specs.declared.ticket.Ticket.{Ticket}
use Rattle.aio_listen.specs.Tickets.{same_ticket}
use Rattle.aio_listen.specs.Listening.{Entry, Holds, has_ticket, wakers_of, with_waker, without, emptied}
use Rattle.aio_source.specs.Values.{DirectionValue, DirectionValues}
use Rattle.aio_source.specs.Rules.{is_idle, waiters_of, waiters_in, handled, without_listener, direction_of, with_direction, Covers}
use Rattle.aio_base.proofs.DirectionLemmas.{each_direction}
use Rattle.aio_base.proofs.Membership.{any_from}
use Rattle.aio_base.proofs.Searching.{false_unless}
use Rattle.aio_source.proofs.DirectionCases.{each_put}

pub empty_by_length : {A : Type 0} (xs : List A) → (length xs == 0) ≡ is_empty_list xs
empty_by_length [] = refl
empty_by_length (x ∷ xs) = grind (arith, nat_tests)

held_first : (waker : Waker) (waiter : Option Waker) (wakers : List Waker) → is_waker waker waiter ≡ true → is_empty_list (option_to_list waiter ++ wakers) ≡ false
held_first waker None wakers held = cc
held_first waker (Some waiter) wakers held = refl

-- a direction whose poll waiter is this waker has a waiter
pub held_waits : (waker : Waker) (d : DirectionValue) → is_waker waker d.waiter ≡ true → is_idle d ≡ false
held_waits waker d held = held_first waker d.waiter (wakers_of d.listeners.entries) held

none_without_step : (same : Bool) (held : Option Waker) (t : Ticket) (entries : List (Entry Waker)) (ticket : Ticket) → (is_empty_list (wakers_of entries) ≡ true → is_empty_list (wakers_of (without entries ticket)) ≡ true) → is_empty_list (wakers_of ((t, held) ∷ entries)) ≡ true → is_empty_list (wakers_of (if not same then (t, held) ∷ without entries ticket else without entries ticket)) ≡ true
none_without_step same (Some waker) t entries ticket step none = cc
none_without_step true None t entries ticket step none = step none
none_without_step false None t entries ticket step none = step none

-- the entries without one hold no waker where all of them hold none
none_without : (entries : List (Entry Waker)) (ticket : Ticket) → is_empty_list (wakers_of entries) ≡ true → is_empty_list (wakers_of (without entries ticket)) ≡ true
none_without [] ticket none = refl
none_without (e ∷ entries) ticket none = none_without_step (same_ticket e.0 ticket) e.1 e.0 entries ticket (none_without entries ticket) none

still_idle : (waiter : Option Waker) (wakers fewer : List Waker) → (is_empty_list wakers ≡ true → is_empty_list fewer ≡ true) → is_empty_list (option_to_list waiter ++ wakers) ≡ true → is_empty_list (option_to_list waiter ++ fewer) ≡ true
still_idle None wakers fewer step idle = step idle
still_idle (Some waiter) wakers fewer step idle = cc

-- giving up a listener makes no idle direction wait
pub idle_unlistened : (ticket : Ticket) (d : DirectionValue) → is_idle d ≡ true → is_idle (without_listener ticket d) ≡ true
idle_unlistened ticket d idle =
    still_idle d.waiter (wakers_of d.listeners.entries) (wakers_of (without d.listeners.entries ticket)) (none_without d.listeners.entries ticket) idle

waits_before : (before after : Bool) → (before ≡ true → after ≡ true) → IsTrue (not after) → IsTrue (not before)
waits_before true after step waits = cc (step refl)
waits_before false after step waits = refl

pub waits_unlistened : (ticket : Ticket) (d : DirectionValue) → IsTrue (not (is_idle (without_listener ticket d))) → IsTrue (not (is_idle d))
waits_unlistened ticket d waits = waits_before (is_idle d) (is_idle (without_listener ticket d)) (idle_unlistened ticket d) waits

-- and what was asked for covers the listeners that are left
pub covers_unlistened : (ds : DirectionValues) (asked : Interest) (broken : Bool) (dir : Dir) (ticket : Ticket) → Covers ds asked broken → Covers (with_direction ds dir (without_listener ticket (direction_of ds dir))) asked broken
covers_unlistened ds asked broken dir ticket covers =
    each_put (λ e d. IsTrue (not (is_idle d)) → IsTrue (has_dir asked e || broken)) ds dir (without_listener ticket (direction_of ds dir))
    (λ waits. covers dir (waits_unlistened ticket (direction_of ds dir) waits)) (λ e other. covers e)

same_ticket_itself : (t : Ticket) → same_ticket t t ≡ true
same_ticket_itself t = grind (arith, nat_tests)

last_with_step : (same : Bool) (e : Entry Waker) (entries : List (Entry Waker)) (ticket : Ticket) (waker : Waker) → (IsTrue (same || has_ticket entries ticket) → ⊥) → ((IsTrue (has_ticket entries ticket) → ⊥) → with_waker (entries ++ (ticket, None) ∷ []) ticket waker ≡ entries ++ (ticket, Some waker) ∷ []) → (if same then (e.0, Some waker) else e) ∷ with_waker (entries ++ (ticket, None) ∷ []) ticket waker ≡ e ∷ (entries ++ (ticket, Some waker) ∷ [])
last_with_step true e entries ticket waker fresh rest = absurd (fresh refl)
last_with_step false e entries ticket waker fresh rest = ap (λ es. e ∷ es) (rest fresh)

-- a new last listener that gets a waker is the last one with that waker
pub last_with_waker : (entries : List (Entry Waker)) (ticket : Ticket) (waker : Waker) → (Holds entries ticket → ⊥) → with_waker (entries ++ (ticket, None) ∷ []) ticket waker ≡ entries ++ (ticket, Some waker) ∷ []
last_with_waker [] ticket waker fresh = ap (λ same. (if same then (ticket, Some waker) else (ticket, None)) ∷ []) (same_ticket_itself ticket)
last_with_waker (e ∷ entries) ticket waker fresh =
    last_with_step (same_ticket e.0 ticket) e entries ticket waker fresh (last_with_waker entries ticket waker)

-- the listeners of which an event took the wakers hold none
pub none_emptied : (entries : List (Entry Waker)) → wakers_of (emptied entries) ≡ []
none_emptied [] = refl
none_emptied (e ∷ entries) = none_emptied entries

none_kept : (held : Option Waker) (t : Ticket) (entries : List (Entry Waker)) → (is_empty_list (wakers_of entries) ≡ true → emptied entries ≡ entries)
    → is_empty_list (wakers_of ((t, held) ∷ entries)) ≡ true → emptied ((t, held) ∷ entries) ≡ (t, held) ∷ entries
none_kept (Some waker) t entries step none = absurd cc
none_kept None t entries step none = ap (λ es. (t, None) ∷ es) (step none)

-- and those of which none held one stay as they are
pub kept_emptied : (entries : List (Entry Waker)) → is_empty_list (wakers_of entries) ≡ true → emptied entries ≡ entries
kept_emptied [] none = refl
kept_emptied (e ∷ entries) none = none_kept e.1 e.0 entries (kept_emptied entries) none

idle_parts : (waiter : Option Waker) (wakers : List Waker) → is_empty_list (option_to_list waiter ++ wakers) ≡ true
    → (waiter ≡ None) × (is_empty_list wakers ≡ true)
idle_parts None wakers idle = (refl, idle)
idle_parts (Some waker) wakers idle = absurd cc

no_waker : (wakers : List Waker) → is_empty_list wakers ≡ true → wakers ≡ []
no_waker [] none = refl
no_waker (w ∷ wakers) none = absurd cc

-- an event of a round raises the tick of a direction without a waiter, and that is all
pub handled_idle : (round : ℕ) (d : DirectionValue) → is_idle d ≡ true → handled round d ≡ record d { tick = max d.tick round }
handled_idle round d idle =
    let parts = idle_parts d.waiter (wakers_of d.listeners.entries) idle in
    ap (λ (waiter : Option Waker). record d { tick = max d.tick round; waiter = waiter; listeners = record d.listeners { entries = emptied d.listeners.entries } }) (sym parts.0)
    ∙ ap (λ (entries : List (Entry Waker)). record d { tick = max d.tick round; listeners = record d.listeners { entries = entries } }) (kept_emptied d.listeners.entries parts.1)

pub idle_none : (d : DirectionValue) → is_idle d ≡ true → waiters_of d ≡ []
idle_none d idle = no_waker (waiters_of d) idle

-- where nothing was asked for, no direction is
pub unasked : (asked : Interest) → has_any asked ≡ false → (dir : Dir) → has_dir asked dir ≡ false
unasked asked none dir =
    false_unless (has_dir asked dir) (λ has.
    let any = any_from (has_dir asked) directions dir (each_direction dir) has in
    let wrong : true ≡ false = sym any ∙ none in cc)

-- whether one of these directions has a waiter
abbrev pub any_waits : DirectionValues → List Dir → Bool
any_waits ds dirs = list_any (λ dir. not (is_idle (direction_of ds dir))) dirs

-- where each direction has one waiter at most, they are no more than the directions
at_most_one : (ds : DirectionValues) (dirs : List Dir) → ((dir : Dir) → length (waiters_of (direction_of ds dir)) ≤ 1) → length (waiters_in dirs ds) ≤ length dirs
at_most_one ds [] each = omega arith
at_most_one ds (dir ∷ dirs) each =
    let sum = length-append (waiters_of (direction_of ds dir)) (waiters_in dirs ds) in
    let here = each dir in
    let later = at_most_one ds dirs each in
    omega (arith, sum, here, later)

-- and each has where none is among those that may have more
pub only_polled : (ds : DirectionValues) (more : Interest) → ((dir : Dir) → has_dir more dir ≡ false → length (waiters_of (direction_of ds dir)) ≤ 1) → has_any more ≡ false
    → length (waiters_in directions ds) ≤ length directions
only_polled ds more few none = at_most_one ds directions (λ dir. few dir (unasked more none dir))
