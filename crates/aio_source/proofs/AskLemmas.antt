-- For which interest a source's calls arm the poller, by who waits before them.
use Rattle.std.specs.Prelude.{◌≡◌, ℕ, Bool, true, false, not, ◌&&◌, ◌||◌, IsTrue, if◌then◌else◌, List, [], ◌∷◌, ◌++◌, Option, None, Some, option_to_list, refl}
use Rattle.std.specs.List.{list_any}
use Rattle.std.proofs.Common.{ap, sym, ◌∙◌, subst, Result, Ok, Err}
use Rattle.aio_base.specs.Devices.{Interests, ArmCall}
use Rattle.aio_base.specs.declared.outcomes.ArmFault.{ArmFault}
use Rattle.aio_base.specs.declared.outcomes.Failed.{Failed}
use Rattle.aio_base.specs.declared.outcomes.Poll.{Poll}
use Rattle.aio_source.specs.Answers.{poll_answer, armed_in}
use Rattle.aio_base.specs.declared.names.Dir.{Dir}
use Rattle.aio_base.specs.declared.names.Waker.{Waker}
use Rattle.aio_base.specs.declared.names.Interest.{Interest}
use Rattle.aio_base.specs.World.{directions, same_dir, has_any, has_dir, with_dir, is_empty_list}
use Rattle.aio_base.specs.Machine.{is_waker}
use Rattle.aio_listen.specs.declared.ticket.Ticket.{Ticket}
use Rattle.aio_listen.specs.Tickets.{same_ticket}
use Rattle.aio_listen.specs.Listening.{Entry, Holds, has_ticket, wakers_of, with_waker}
use Rattle.aio_source.specs.Values.{DirectionValue, DirectionValues, SourceValue}
use Rattle.aio_source.specs.declared.answers.Listened.{Listened}
use Rattle.aio_source.specs.Rules.{Polling, is_idle, is_ready, is_above, wanted, waiters_in, waiters_of, direction_of, with_direction, with_source_direction, seen, listening, listening_again, stored, handled, handled_in, handled_along, part_of, polling, listening_first, polling_again, handling, Covers}
use Rattle.aio_source.specs.Lent.{UsesArm, arm_answer, asked_by, asked_for, asked_with, left_of}
use Rattle.aio_base.proofs.DirectionLemmas.{same_dir-refl, where_same, has_dir-where, named_where}
use Rattle.aio_source.proofs.DirectionCases.{each_put, put_itself}
use Rattle.aio_source.proofs.WaiterLemmas.{held_waits, none_emptied, unasked}

-- once a direction has a waiter, it is wanted beside what was wanted before
wanted_with : (ds : DirectionValues) (dir : Dir) (d : DirectionValue) → is_idle d ≡ false → wanted (with_direction ds dir d) ≡ with_dir (wanted ds) dir
wanted_with ds dir d waits =
    where_same (λ e. not (is_idle (direction_of (with_direction ds dir d) e))) (λ e. same_dir e dir || has_dir (wanted ds) e)
    (each_put (λ e v. not (is_idle v) ≡ (same_dir e dir || has_dir (wanted ds) e)) ds dir d
    (ap not waits ∙ sym (ap (λ (same : Bool). same || has_dir (wanted ds) dir) (same_dir-refl dir)))
    (λ e other. sym (ap (λ (same : Bool). same || has_dir (wanted ds) e) other ∙ has_dir-where (λ dir. not (is_idle (direction_of ds dir))) e)))

asked_once : (s : SourceValue) (dir : Dir) (d : DirectionValue) → is_idle d ≡ false → asked_for (is_idle (direction_of s.directions dir) || s.broken) (wanted (with_direction s.directions dir d)) ≡ asked_with s dir
asked_once s dir d waits = ap (λ (on : Interest). asked_for (is_idle (direction_of s.directions dir) || s.broken) on) (wanted_with s.directions dir d waits)

wanted_still : (ds : DirectionValues) (dir : Dir) → is_idle (direction_of ds dir) ≡ false → wanted ds ≡ with_dir (wanted ds) dir
wanted_still ds dir waits = ap wanted (sym (put_itself ds dir)) ∙ wanted_with ds dir (direction_of ds dir) waits

asked_still : (s : SourceValue) (dir : Dir) → is_idle (direction_of s.directions dir) ≡ false → asked_for s.broken (wanted s.directions) ≡ asked_with s dir
asked_still s dir waits =
    ap (λ (on : Interest). asked_for s.broken on) (wanted_still s.directions dir waits)
    ∙ sym (ap (λ (idle : Bool). asked_for (idle || s.broken) (with_dir (wanted s.directions) dir)) waits)

-- a poll that is not ready asks as a new waiter does, whatever its waker
polling_step : (ready held : Bool) (s : SourceValue) (dir : Dir) (waker : Waker) (ticker : ℕ)
    → ready ≡ false → (held ≡ true → is_idle (direction_of s.directions dir) ≡ false)
    → asked_by (part_of (if ready then record { ready = true; replaced = None; source = s; arms = false }
    else (if held then record { ready = false; replaced = None; source = s; arms = s.broken }
    else record { ready = false; replaced = (direction_of s.directions dir).waiter; source = record s { directions = with_direction s.directions dir (stored waker ticker (direction_of s.directions dir)) }; arms = is_idle (direction_of s.directions dir) || s.broken })))
    ≡ asked_with s dir
polling_step true held s dir waker ticker unready waits = cc
polling_step false true s dir waker ticker unready waits = asked_still s dir (waits refl)
polling_step false false s dir waker ticker unready waits = asked_once s dir (stored waker ticker (direction_of s.directions dir)) refl

-- a poll that is not ready comes to one source, whatever its waker
polling_either : (ready held : Bool) (s : SourceValue) (dir : Dir) (waker : Waker) (ticker : ℕ)
    → ready ≡ false → (held ≡ true → is_idle (direction_of s.directions dir) ≡ false)
    → (let d = direction_of s.directions dir in
    ◌≡◌ {A = Polling} (if ready then record { ready = true; replaced = None; source = with_source_direction s dir (seen d); arms = false }
    else (if held then record { ready = false; replaced = None; source = s; arms = s.broken }
    else record { ready = false; replaced = d.waiter; source = with_source_direction s dir (stored waker ticker d); arms = is_idle d || s.broken }))
    (record {
      ready = false;
      replaced = if held then None else d.waiter;
      source = with_source_direction s dir (if held then d else stored waker ticker d);
      arms = is_idle d || s.broken;
    }))
polling_either true held s dir waker ticker unready waits = absurd cc
polling_either false true s dir waker ticker unready waits =
    let same = sym (put_itself s.directions dir) in
    let arms = sym (ap (λ (idle : Bool). idle || s.broken) (waits refl)) in
    λ i. record { ready = false; replaced = None; source = record s { directions = same i }; arms = arms i }
polling_either false false s dir waker ticker unready waits = refl

pub polling_unready : (s : SourceValue) (dir : Dir) (waker : Waker) (ticker : ℕ) → is_ready (direction_of s.directions dir) ≡ false
    → (let d = direction_of s.directions dir in
    polling s dir waker ticker ≡ record {
      ready = false;
      replaced = if is_waker waker d.waiter then None else d.waiter;
      source = with_source_direction s dir (if is_waker waker d.waiter then d else stored waker ticker d);
      arms = is_idle d || s.broken;
    })
polling_unready s dir waker ticker unready =
    let d = direction_of s.directions dir in
    polling_either (is_ready d) (is_waker waker d.waiter) s dir waker ticker unready (held_waits waker d)

pub asked_polling : (s : SourceValue) (dir : Dir) (waker : Waker) (ticker : ℕ) → is_ready (direction_of s.directions dir) ≡ false → asked_by (part_of (polling s dir waker ticker)) ≡ asked_with s dir
asked_polling s dir waker ticker unready =
    rw (unready, polling_step false (is_waker waker (direction_of s.directions dir).waiter) s dir waker ticker refl (held_waits waker (direction_of s.directions dir)))

-- ## Listeners

waits_behind : (waiter : Option Waker) (wakers : List Waker) → is_empty_list wakers ≡ false → is_empty_list (option_to_list waiter ++ wakers) ≡ false
waits_behind None wakers waits = waits
waits_behind (Some waiter) wakers waits = refl

last_step : (held : Option Waker) (t : Ticket) (entries : List (Entry Waker)) → is_empty_list (wakers_of entries) ≡ false → is_empty_list (wakers_of ((t, held) ∷ entries)) ≡ false
last_step None t entries waits = waits
last_step (Some waker) t entries waits = refl

last_waits : (entries : List (Entry Waker)) (ticket : Ticket) (waker : Waker) → is_empty_list (wakers_of (entries ++ (ticket, Some waker) ∷ [])) ≡ false
last_waits [] ticket waker = refl
last_waits (e ∷ entries) ticket waker = last_step e.1 e.0 (entries ++ (ticket, Some waker) ∷ []) (last_waits entries ticket waker)

held_step : (same has : Bool) (held : Option Waker) (t : Ticket) (waker : Waker) (entries : List (Entry Waker)) → (IsTrue has → is_empty_list (wakers_of entries) ≡ false) → IsTrue (same || has) → is_empty_list (wakers_of ((if same then (t, Some waker) else (t, held)) ∷ entries)) ≡ false
held_step true has held t waker entries step holds = refl
held_step false has None t waker entries step holds = step holds
held_step false has (Some other) t waker entries step holds = refl

held_again : (entries : List (Entry Waker)) (ticket : Ticket) (waker : Waker) → Holds entries ticket → is_empty_list (wakers_of (with_waker entries ticket waker)) ≡ false
held_again [] ticket waker holds = cc
held_again (e ∷ entries) ticket waker holds =
    held_step (same_ticket e.0 ticket) (has_ticket entries ticket) e.1 e.0 waker (with_waker entries ticket waker) (held_again entries ticket waker) holds

pub asked_first : (s : SourceValue) (dir : Dir) (ticket : Ticket) (waker : Waker) → asked_by (listening_first s dir waker (Some ticket)) ≡ asked_with s dir
asked_first s dir ticket waker =
    let d = direction_of s.directions dir in
    asked_once s dir (listening ticket waker d) (waits_behind d.waiter _ (last_waits d.listeners.entries ticket waker))

again_step : (above : Bool) (s : SourceValue) (dir : Dir) (l : Listened) (waker : Waker) → is_above l.a l.b (direction_of s.directions dir).tick ≡ false → asked_for (is_idle (direction_of s.directions dir) || s.broken) (wanted (with_direction s.directions dir (listening_again l.ticket waker (direction_of s.directions dir)))) ≡ asked_with s dir → asked_by (part_of (polling_again s dir l waker)) ≡ asked_with s dir
again_step above s dir l waker below asked = rw (below, asked)

pub asked_again : (s : SourceValue) (dir : Dir) (l : Listened) (waker : Waker) → Holds (direction_of s.directions dir).listeners.entries l.ticket → is_above l.a l.b (direction_of s.directions dir).tick ≡ false → asked_by (part_of (polling_again s dir l waker)) ≡ asked_with s dir
asked_again s dir l waker holds below =
    let d = direction_of s.directions dir in
    again_step false s dir l waker below (asked_once s dir (listening_again l.ticket waker d) (waits_behind d.waiter _ (held_again d.listeners.entries l.ticket waker holds)))

-- ## An event

idle_handled : (round : ℕ) (d : DirectionValue) → is_idle (handled round d) ≡ true
idle_handled round d = ap (λ (wakers : List Waker). is_empty_list wakers) (none_emptied d.listeners.entries)

idle_in : (has : Bool) (round : ℕ) (ds : DirectionValues) (dir e : Dir)
    → is_idle (direction_of (if has then with_direction ds dir (handled round (direction_of ds dir)) else ds) e) ≡ ((has && same_dir e dir) || is_idle (direction_of ds e))
idle_in true round ds dir e =
    each_put (λ e d. is_idle d ≡ (same_dir e dir || is_idle (direction_of ds e))) ds dir (handled round (direction_of ds dir))
    (idle_handled round (direction_of ds dir) ∙ sym (ap (λ (same : Bool). same || is_idle (direction_of ds dir)) (same_dir-refl dir)))
    (λ e other. sym (ap (λ (same : Bool). same || is_idle (direction_of ds e)) other)) e
idle_in false round ds dir e = refl

or_turned : (a b c : Bool) → (b || (a || c)) ≡ ((a || b) || c)
or_turned true true c = refl
or_turned true false c = refl
or_turned false b c = refl

-- a direction that an event took has no waiter, and every other one those that it had
idle_along : (on : Interest) (round : ℕ) (dirs : List Dir) (ds : DirectionValues) (e : Dir)
    → is_idle (direction_of (handled_along on round dirs ds) e) ≡ (list_any (λ (d : Dir). has_dir on d && same_dir e d) dirs || is_idle (direction_of ds e))
idle_along on round [] ds e = refl
idle_along on round (dir ∷ dirs) ds e =
    idle_along on round dirs (handled_in on round dir ds) e
    ∙ ap (λ (idle : Bool). list_any (λ (d : Dir). has_dir on d && same_dir e d) dirs || idle) (idle_in (has_dir on dir) round ds dir e)
    ∙ or_turned (has_dir on dir && same_dir e dir) (list_any (λ (d : Dir). has_dir on d && same_dir e d) dirs) (is_idle (direction_of ds e))

not_or : (a b : Bool) → not (a || b) ≡ (not a && not b)
not_or true b = refl
not_or false b = refl

wanted_left : (on : Interest) (round : ℕ) (ds : DirectionValues) → wanted (handled_along on round directions ds) ≡ left_of on ds
wanted_left on round ds =
    where_same (λ e. not (is_idle (direction_of (handled_along on round directions ds) e))) (λ e. not (has_dir on e) && not (is_idle (direction_of ds e)))
    (λ e. ap not (idle_along on round directions ds e
    ∙ ap (λ (has : Bool). has || is_idle (direction_of ds e)) (named_where (has_dir on) e (has_dir on e) refl)) ∙ not_or (has_dir on e) (is_idle (direction_of ds e)))

pub asked_handling : (s : SourceValue) (on : Interest) (round : ℕ) → asked_by (handling s on round) ≡ asked_for (has_any (left_of on s.directions)) (left_of on s.directions)
asked_handling s on round = ap (λ (left : Interest). asked_for (has_any left) left) (wanted_left on round s.directions)

-- ## Nobody waits

or_parts : (a b : Bool) → (a || b) ≡ false → (a ≡ false) × (b ≡ false)
or_parts true b e = absurd cc
or_parts false b e = (refl, e)

or_always : (b : Bool) → (b || true) ≡ true
or_always true = refl
or_always false = refl

idle_step : (idle has broken : Bool) → (IsTrue (not idle) → IsTrue (has || broken)) → has ≡ false → broken ≡ false → idle ≡ true
idle_step true has broken covers none whole = refl
idle_step false true broken covers none whole = absurd cc
idle_step false false true covers none whole = absurd cc
idle_step false false false covers none whole = cc (covers refl)

-- where nothing was asked for and no arm failed, nobody waits
pub nobody : (ds : DirectionValues) (asked : Interest) (broken : Bool) (may : Bool) → Covers ds asked broken → may ≡ (broken || has_any asked) → may ≡ false
    → (dir : Dir) → is_idle (direction_of ds dir) ≡ true
nobody ds asked broken may covers is none dir =
    let parts = or_parts broken (has_any asked) (sym is ∙ none) in
    idle_step (is_idle (direction_of ds dir)) (has_dir asked dir) broken (covers dir) (unasked asked parts.1 dir) parts.0

empty_with : (ws rest : List Waker) → is_empty_list ws ≡ true → rest ≡ [] → ws ++ rest ≡ []
empty_with [] rest none empty = empty
empty_with (w ∷ ws) rest none empty = absurd cc

nobody_along : (ds : DirectionValues) (dirs : List Dir) → ((dir : Dir) → is_idle (direction_of ds dir) ≡ true) → waiters_in dirs ds ≡ []
nobody_along ds [] idle = refl
nobody_along ds (dir ∷ dirs) idle = empty_with (waiters_of (direction_of ds dir)) (waiters_in dirs ds) (idle dir) (nobody_along ds dirs idle)

pub nobody_in : (ds : DirectionValues) (asked : Interest) (broken : Bool) (may : Bool) → Covers ds asked broken → may ≡ (broken || has_any asked) → may ≡ false
    → waiters_in directions ds ≡ []
nobody_in ds asked broken may covers is none = nobody_along ds directions (nobody ds asked broken may covers is none)

-- nobody waits where an event took the waiters of one more direction, either
pub nobody_next : (round : ℕ) (now after : DirectionValues) (dir : Dir) (lent emptied : DirectionValue) → emptied ≡ handled round lent → after ≡ with_direction now dir emptied
    → ((e : Dir) → is_idle (direction_of now e) ≡ true) → (e : Dir) → is_idle (direction_of after e) ≡ true
nobody_next round now after dir lent emptied emptied-is after-is idle e =
    subst (λ (ds : DirectionValues). is_idle (direction_of ds e) ≡ true) (sym after-is)
    (each_put (λ e d. is_idle d ≡ true) now dir emptied (ap is_idle emptied-is ∙ idle_handled round lent) (λ e other. idle e) e)

-- an event leaves nobody, then
pub none_left : (ds left : DirectionValues) (asked : Interest) (broken : Bool) (on : Interest) (round : ℕ) (may : Bool) → Covers ds asked broken → may ≡ (broken || has_any asked)
    → left ≡ handled_along on round directions ds → may ≡ false → has_any (wanted left) ≡ false
none_left ds left asked broken on round may covers is after none =
    ap (λ (d : DirectionValues). has_any (wanted d)) after
    ∙ ap has_any (where_same (λ e. not (is_idle (direction_of (handled_along on round directions ds) e))) (λ e. false)
    (λ e. ap not (idle_along on round directions ds e
    ∙ ap (λ (idle : Bool). list_any (λ (d : Dir). has_dir on d && same_dir e d) directions || idle)
    (nobody ds asked broken may covers is none e)
    ∙ or_always (list_any (λ (d : Dir). has_dir on d && same_dir e d) directions))))

-- ## A lent arm

armed_back : (armed : Result (Unit {0}) ArmFault) → armed_in (poll_answer false armed) ≡ armed
armed_back (Ok done) = refl
armed_back (Err fault) = refl

-- what an arm was lent for, said otherwise
pub lent_alike : {S : Type 0} {step : S → ArmCall → Result (Unit {0}) Failed → S → Type 0} {tells : S → Option Interests} {rest : S → List ℕ} {count : S → ℕ} {is_sure : S → Bool}
    {a b : Bool} {x y : ArmCall} {old new : S} (armed : Result (Unit {0}) ArmFault) (answer : Poll (Result (Unit {0}) ArmFault)) → answer ≡ poll_answer false armed → a ≡ b → x ≡ y
    → UsesArm step tells rest count is_sure a x (arm_answer armed) old new → UsesArm step tells rest count is_sure b y (arm_answer (armed_in answer)) old new
lent_alike {S} {step} {tells} {rest} {count} {is_sure} {a} {b} {x} {y} {old} {new} armed answer is arms call uses =
    let told : arm_answer armed ≡ arm_answer (armed_in answer) = sym (ap (λ (p : Poll (Result (Unit {0}) ArmFault)). arm_answer (armed_in p)) is ∙ ap arm_answer (armed_back armed)) in
    subst (λ t. UsesArm step tells rest count is_sure b y t old new) told
    (subst (λ z. UsesArm step tells rest count is_sure b z (arm_answer armed) old new) call
    (subst (λ c. UsesArm step tells rest count is_sure c x (arm_answer armed) old new) arms uses))
