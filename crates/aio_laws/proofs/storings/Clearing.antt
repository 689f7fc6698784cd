-- Where a step gives up what stands, it leaves nothing standing but what it stores.
use Rattle.std.proofs.Common.{◌≡◌, ℕ, Bool, true, false, not, cond, ◌&&◌, ◌||◌, List, [], ◌∷◌, map, find, Option, None, Some, is_some, refl, ap, ◌∙◌, sym, subst, ⊎_elim}
use Rattle.std.specs.Prelude.{◌+◌, ◌==◌, nat_le, option_map, option_to_list}
use Rattle.std.specs.List.{Contains, list_any}
use Rattle.std.proofs.lemmas.Bool.{eqb-true}
use Rattle.std.proofs.lemmas.List.Elements.{Contains-append_cases}
use Rattle.aio_base.specs.declared.names.Waker.{Waker}
use Rattle.aio_base.specs.declared.steps.Step.{Step}
use Rattle.aio_base.specs.declared.steps.Step.TheVariants as step
use Rattle.aio_base.specs.World.{PollerAnswer, ListenerEntry, TimerEntry, World, directions, serial_of}
use Rattle.aio_base.specs.Machine.{Outcome, del_source, drop_listener, step_listener, tick_timer, set_timer, end_timer, next_deadline, is_waker, is_fresh_since, is_listener, is_timer, step_result}
use Rattle.aio_base.proofs.TimerCases.{tick_deadline, tick_by_deadline}
use Rattle.aio_base.specs.Refusals.{is_refusal}
use Rattle.aio_laws.specs.Storings.{Place, OfPoll, OfListener, OfTimer, Stored, Storings, stored_at, given_up_at, each_given_up, timer_place, registered_anew, tick_moves_at, tick_moves, set_moves, end_moves, drop_moves, del_moves, listener_moves, step_storings}
use Rattle.aio_laws.specs.Succession.{poll_places, id_kept, waker_kept, stored_as, own_storing, has_to_wait, is_ahead, registers, has_fired, stores, gives_up, may_give_up}
use Rattle.aio_laws.proofs.storings.Leaving.{emptied_place, all_given_up}
use Rattle.aio_base.proofs.Membership.{none_is_in, first_is_in, among_cases, found_is_in}

-- nothing of these storings stands at these places, but for some
abbrev pub Cleared : List Place → List Stored → Storings → Type 0
Cleared places new m = (x : Stored) → Contains m.standing x → Contains places x.place → Contains new x

-- where a test holds
abbrev When : List Place → List Stored → Bool → Storings → Type 0
When places new test m = test ≡ true → Cleared places new m

-- one of two outcomes, with the storings of the same one
either : (C : Outcome → Storings → Type 0) (test : Bool) (o p : Outcome) (l m : Storings) → C o l → C p m → C (cond test o p) (cond test l m)
either C true o p l m first second = first
either C false o p l m first second = second

all_emptied : (ps : List Place) (l : Storings) (x : Stored) → Contains (each_given_up ps l).standing x → Contains ps x.place → ⊥
all_emptied [] l x here nowhere = none_is_in x.place nowhere
all_emptied (p ∷ ps) l x here among =
    ⊎_elim
    (λ (same : p ≡ x.place).
    emptied_place p l.standing x ((all_given_up (Contains ps) ps (λ q there. there) (given_up_at p l)).leave.stays x here)
    (subst (λ q. Contains (p ∷ []) q) same (first_is_in p [])))
    (λ (later : Contains ps x.place). all_emptied ps (given_up_at p l) x here later) (among_cases p ps x.place among)

-- what stood at these places is given up, and that is all
emptied : (ps : List Place) (new : List Stored) (l : Storings) → Cleared ps new (each_given_up ps l)
emptied ps new l x here among = absurd (all_emptied ps l x here among)

-- and then a waker is stored, which is the new storing
emptied_then : (ps : List Place) (p : Place) (waker : Waker) (l : Storings)
    → Cleared ps (stored_as l.given p waker ∷ []) (stored_at p waker (each_given_up ps l))
emptied_then ps p waker l x here among =
    let m : Storings = each_given_up ps l in
    let number : m.given ≡ l.given = (all_given_up (Contains ps) ps (λ q there. there) l).given in
    ⊎_elim (λ (old : Contains m.standing x). absurd (all_emptied ps l x old among))
    (λ (now : Contains (stored_as m.given p waker ∷ []) x). subst (λ n. Contains (stored_as n p waker ∷ []) x) number now)
    (Contains-append_cases m.standing (stored_as m.given p waker ∷ []) x here)

never : (ps : List Place) (new : List Stored) (test : Bool) (m : Storings) → test ≡ false → When ps new test m
never ps new test m none holds = absurd (let wrong : false ≡ true = sym none ∙ holds in cc)

-- ## Sources and listeners

del_clears : (w : World) (key : ℕ) (serial : Option ℕ) (answers : List PollerAnswer) (new : List Stored) (l : Storings)
    → When (poll_places serial directions) new (not (is_refusal (del_source w key serial answers).answer)) (del_moves w serial l)
del_clears w key None answers new l = never [] new false l refl
del_clears w key (Some serial) answers new l =
    let places : List Place = map (OfPoll serial) directions in
    either (λ o. When places new (not (is_refusal o.answer))) (list_any (λ (e : ListenerEntry). e.serial == serial) w.listeners) _ _ l (each_given_up places l)
    (never places new false l refl) (λ gives. emptied places new l)

found_number : (number : ℕ) (listeners : List ListenerEntry) (entry : ListenerEntry) → find (is_listener number) listeners ≡ Some entry → entry.number ≡ number
found_number number listeners entry found = eqb-true entry.number number ((found_is_in (is_listener number) listeners entry found).1)

drop_clears : (w : World) (number : ℕ) (entry : Option ListenerEntry) (answers : List PollerAnswer) (new : List Stored) (l : Storings)
    → find (is_listener number) w.listeners ≡ entry
    → When (OfListener number ∷ []) new (not (is_refusal (drop_listener w number entry answers).answer)) (drop_moves entry l)
drop_clears w number None answers new l found = never (OfListener number ∷ []) new false l refl
drop_clears w number (Some entry) answers new l found =
    λ gives. subst (λ n. Cleared (OfListener n ∷ []) new (drop_moves (Some entry) l)) (found_number number w.listeners entry found)
    (emptied (OfListener entry.number ∷ []) new l)

listen_clears : (w : World) (number : ℕ) (waker : Waker) (entry : Option ListenerEntry) (answers : List PollerAnswer) (l : Storings)
    → find (is_listener number) w.listeners ≡ entry
    → When (OfListener number ∷ []) (stored_as l.given (OfListener number) waker ∷ []) (has_to_wait (step_listener w waker entry answers).answer)
    (listener_moves w waker entry l)
listen_clears w number waker None answers l found = never (OfListener number ∷ []) (stored_as l.given (OfListener number) waker ∷ []) false l refl
listen_clears w number waker (Some entry) answers l found =
    let C : Outcome → Storings → Type 0 = λ o. When (OfListener number ∷ []) (stored_as l.given (OfListener number) waker ∷ []) (has_to_wait o.answer) in
    either C (is_fresh_since w entry.serial entry.dir entry.position) _ _ l _ (never (OfListener number ∷ []) (stored_as l.given (OfListener number) waker ∷ []) false l refl)
    (λ gives. subst (λ n. Cleared (OfListener n ∷ []) (stored_as l.given (OfListener n) waker ∷ [])
    (stored_at (OfListener entry.number) waker (given_up_at (OfListener entry.number) l))) (found_number number w.listeners entry found)
    (emptied_then (OfListener entry.number ∷ []) (OfListener entry.number) waker l))

-- ## Timers

anew_clears : (w : World) (entry : TimerEntry) (waker : Option Waker) (l : Storings)
    → Cleared (timer_place entry.id) (map (stored_as l.given (OfTimer (w.ids_drawn + 1))) (option_to_list waker)) (registered_anew w entry waker l)
anew_clears w entry None l = emptied (timer_place entry.id) [] l
anew_clears w entry (Some waker) l = emptied_then (timer_place entry.id) (OfTimer (w.ids_drawn + 1)) waker l

set_clears : (w : World) (deadline : ℕ) (period : Option ℕ) (entry : Option TimerEntry) (answers : List PollerAnswer) (l : Storings)
    → When (timer_place (id_kept entry)) (map (stored_as l.given (OfTimer (w.ids_drawn + 1))) (option_to_list (waker_kept entry)))
    (not (is_refusal (set_timer w deadline period entry answers).answer)) (set_moves w entry l)
set_clears w deadline period None answers l = never [] [] false l refl
set_clears w deadline period (Some entry) answers l = λ gives. anew_clears w entry entry.kept l

end_clears : (w : World) (entry : Option TimerEntry) (answers : List PollerAnswer) (new : List Stored) (l : Storings)
    → When (timer_place (id_kept entry)) new (not (is_refusal (end_timer w entry answers).answer)) (end_moves entry l)
end_clears w None answers new l = never [] new false l refl
end_clears w (Some entry) answers new l = λ gives. emptied (timer_place entry.id) new l

fired_clears : (w : World) (waker : Waker) (entry : TimerEntry) (next : Option ℕ) (l : Storings)
    → Cleared (timer_place entry.id) (cond (is_some next) (stored_as l.given (OfTimer (w.ids_drawn + 1)) waker ∷ []) [])
    (registered_anew w entry (option_map (λ later. waker) next) l)
fired_clears w waker entry None l = anew_clears w entry None l
fired_clears w waker entry (Some deadline) l = anew_clears w entry (Some waker) l

-- what the poll of a timer stores, by its answer
abbrev Ticked : World → Waker → TimerEntry → Storings → Outcome → Storings → Type 0
Ticked w waker entry l o m =
    (registers w.now o.answer waker (Some entry) || has_fired o.answer) ≡ true
    → Cleared (timer_place entry.id) (cond (registers w.now o.answer waker (Some entry)) (stored_as l.given (OfTimer (w.ids_drawn + 1)) waker ∷ []) []) m

-- where a timer waits, it is registered anew or left
left_or_anew : (w : World) (waker : Waker) (entry : TimerEntry) (l : Storings) (dated kept ahead : Bool) → dated ≡ true → ahead ≡ true
    → ((dated && not (kept && ahead)) || false) ≡ true
    → Cleared (timer_place entry.id) (cond (dated && not (kept && ahead)) (stored_as l.given (OfTimer (w.ids_drawn + 1)) waker ∷ []) [])
    (cond kept l (registered_anew w entry (Some waker) l))
left_or_anew w waker entry l true true true is still gives = absurd cc
left_or_anew w waker entry l true true false is still gives = absurd cc
left_or_anew w waker entry l true false ahead is still gives = anew_clears w entry (Some waker) l
left_or_anew w waker entry l false kept ahead is still gives = absurd cc

-- one of two outcomes, the second where the test fails
or_else : (C : Outcome → Storings → Type 0) (test : Bool) (o p : Outcome) (l m : Storings) → C o l → (test ≡ false → C p m) → C (cond test o p) (cond test l m)
or_else C true o p l m first second = first
or_else C false o p l m first second = second refl

tick_clears_at : (w : World) (waker : Waker) (entry : TimerEntry) (deadline : Option ℕ) (answers : List PollerAnswer) (l : Storings)
    → entry.deadline ≡ deadline → Ticked w waker entry l (tick_deadline w entry waker deadline answers) (tick_moves_at w waker entry deadline l)
tick_clears_at w waker entry None answers l at = λ gives.
    absurd (let none : is_some entry.deadline ≡ false = ap is_some at in
    let kept : Bool = (is_some entry.id && is_waker waker entry.kept) && is_ahead w.now entry.deadline in
    let wrong : ((false && not kept) || false) ≡ true = subst (λ d. ((d && not kept) || false) ≡ true) none gives in cc)
tick_clears_at w waker entry (Some deadline) answers l at =
    or_else (Ticked w waker entry l) (nat_le deadline w.now) _ _ _ _ (λ gives. fired_clears w waker entry (next_deadline deadline entry.period) l)
    (λ later gives.
    left_or_anew w waker entry l (is_some entry.deadline) (is_some entry.id && is_waker waker entry.kept) (is_ahead w.now entry.deadline) (ap is_some at)
    (ap (is_ahead w.now) at ∙ ap not later) gives)

tick_clears : (w : World) (waker : Waker) (entry : Option TimerEntry) (answers : List PollerAnswer) (l : Storings)
    → (registers w.now (tick_timer w waker entry answers).answer waker entry || has_fired (tick_timer w waker entry answers).answer) ≡ true
    → Cleared (timer_place (id_kept entry))
    (cond (registers w.now (tick_timer w waker entry answers).answer waker entry) (stored_as l.given (OfTimer (w.ids_drawn + 1)) waker ∷ []) [])
    (tick_moves w waker entry l)
tick_clears w waker None answers l gives = absurd cc
tick_clears w waker (Some entry) answers l gives =
    subst (λ o. Ticked w waker entry l o (tick_moves w waker (Some entry) l)) (tick_by_deadline w waker entry answers)
    (tick_clears_at w waker entry entry.deadline answers l refl) gives

-- ## A timer that gives up nothing

-- the poll of a timer moves nothing where it neither registers the timer nor is told that it fired
abbrev Rests : World → Waker → TimerEntry → Storings → Outcome → Storings → Type 0
Rests w waker entry l o m = (registers w.now o.answer waker (Some entry) || has_fired o.answer) ≡ false → m ≡ l

or_fired : (test : Bool) → (test || true) ≡ false → ⊥
or_fired true none = cc
or_fired false none = cc

left_alone : (dated kept ahead : Bool) (l m : Storings) → dated ≡ true → ahead ≡ true → ((dated && not (kept && ahead)) || false) ≡ false → cond kept l m ≡ l
left_alone true true ahead l m is still none = refl
left_alone true false ahead l m is still none = absurd cc
left_alone false kept ahead l m is still none = absurd cc

tick_rests_at : (w : World) (waker : Waker) (entry : TimerEntry) (deadline : Option ℕ) (answers : List PollerAnswer) (l : Storings)
    → entry.deadline ≡ deadline → Rests w waker entry l (tick_deadline w entry waker deadline answers) (tick_moves_at w waker entry deadline l)
tick_rests_at w waker entry None answers l at = λ none. refl
tick_rests_at w waker entry (Some deadline) answers l at =
    or_else (Rests w waker entry l) (nat_le deadline w.now) _ _ _ _ (λ none. absurd (or_fired (is_some (next_deadline deadline entry.period)) none))
    (λ later none.
    left_alone (is_some entry.deadline) (is_some entry.id && is_waker waker entry.kept) (is_ahead w.now entry.deadline) l (registered_anew w entry (Some waker) l)
    (ap is_some at) (ap (is_ahead w.now) at ∙ ap not later) none)

pub tick_rests : (w : World) (waker : Waker) (entry : Option TimerEntry) (answers : List PollerAnswer) (l : Storings)
    → (registers w.now (tick_timer w waker entry answers).answer waker entry || has_fired (tick_timer w waker entry answers).answer) ≡ false
    → tick_moves w waker entry l ≡ l
tick_rests w waker None answers l none = refl
tick_rests w waker (Some entry) answers l none =
    subst (λ o. Rests w waker entry l o (tick_moves w waker (Some entry) l)) (tick_by_deadline w waker entry answers)
    (tick_rests_at w waker entry entry.deadline answers l refl) none

-- ## A step

pub step_clears : (w : World) (s : Step) (answers : List PollerAnswer) (l : Storings) → gives_up w s answers ≡ true
    → Cleared (may_give_up w s) (cond (stores w s answers) (own_storing w s l.given) []) (step_storings w s answers l)
unfolding step_result
step_clears w (step.Del key) answers l gives = del_clears w key.0 (serial_of w key.0) answers [] l gives
step_clears w (step.StepEar number waker) answers l gives =
    subst (λ does. Cleared (OfListener number ∷ []) (cond does (stored_as l.given (OfListener number) waker ∷ []) [])
    (listener_moves w waker (find (is_listener number) w.listeners) l)) (sym gives)
    (listen_clears w number waker (find (is_listener number) w.listeners) answers l refl gives)
step_clears w (step.DropEar number) answers l gives = drop_clears w number (find (is_listener number) w.listeners) answers [] l refl gives
step_clears w (step.Tick number waker) answers l gives = tick_clears w waker (find (is_timer number) w.timers) answers l gives
step_clears w (step.SetAt number deadline) answers l gives = set_clears w deadline None (find (is_timer number) w.timers) answers l gives
step_clears w (step.SetEvery number deadline period) answers l gives = set_clears w deadline (Some period) (find (is_timer number) w.timers) answers l gives
step_clears w (step.End number) answers l gives = end_clears w (find (is_timer number) w.timers) answers [] l gives
step_clears w _ answers l gives = λ x here nowhere. none_is_in x.place nowhere
