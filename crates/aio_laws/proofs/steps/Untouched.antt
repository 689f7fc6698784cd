-- A step leaves each source, listener and timer alone but its own.
use Rattle.std.proofs.Common.{◌≡◌, ℕ, ◌+◌, Bool, true, false, not, cond, ◌||◌, ◌==◌, List, [], ◌∷◌, ◌++◌, length, map, find, Option, None, Some, is_some, refl, ap, ◌∙◌, sym, subst}
use Rattle.std.specs.Prelude.{nat_le, unwrap_or}
use Rattle.std.specs.List.{filter, list_any}
use Rattle.std.specs.Option.{option_map_or}
use Rattle.std.proofs.lemmas.Bool.{eq-eqb, eqb-true}
use Rattle.aio_base.specs.declared.names.Waker.{Waker}
use Rattle.aio_base.specs.declared.names.Dir.{Dir}
use Rattle.aio_base.specs.declared.steps.Step.{Step}
use Rattle.aio_base.specs.declared.steps.Step.TheVariants as step
use Rattle.aio_base.specs.World.{PollerAnswer, LiveSource, ListenerEntry, TimerEntry, World, serial_of, key_of, is_idle, is_broken}
use Rattle.aio_base.specs.Machine.{fails, next_answer, source_limit, free_key, add, del_source, is_fresh_since, pending, is_listener, with_listening, step_listener, drop_listener, new_listener, is_timer, with_timer, unregistered, registered, tick_timer, set_timer, end_timer, case_of, step_result, left_as, worked, state_of}
use Rattle.aio_base.specs.TimerWork.{TimerState, joining, reset_work}
use Rattle.aio_laws.specs.Others.{is_own_source, but_waker, other_sources, other_listeners, other_timers, OthersStand}
use Rattle.aio_laws.proofs.steps.Breaking.{broken_stand}
use Rattle.aio_laws.proofs.steps.Marking.{marks_stand}
use Rattle.aio_base.proofs.Membership.{found_is_in}
use Rattle.aio_base.proofs.Searching.{refiltered, unseen_push}
use Rattle.aio_laws.proofs.rounds.RoundLemmas.{unseen_change}
use Rattle.aio_laws.proofs.steps.Frames.{Frame, either, either_world, gone_keeps, case_keeps}

-- ## Filtered lists

-- a filter that drops nothing
all_kept : {X : Type 0} (xs : List X) → filter (λ (x : X). not false) xs ≡ xs
all_kept [] = refl
all_kept (x ∷ xs) = ap (λ rest. x ∷ rest) (all_kept xs)

changed_step : {X : Type 0} (here there : Bool) (x y : X) (ys zs : List X) → (here ≡ true → (there ≡ true) × (y ≡ x)) → (here ≡ false → there ≡ false)
    → ys ≡ zs → cond there (y ∷ ys) ys ≡ cond here (x ∷ zs) zs
changed_step true true x y ys zs stays out rest = let same = (stays refl).1 in cc
changed_step true false x y ys zs stays out rest = absurd (let wrong = (stays refl).0 in cc)
changed_step false true x y ys zs stays out rest = absurd (let wrong = out refl in cc)
changed_step false false x y ys zs stays out rest = rest

-- nor what is changed of those that do not pass
unseen_in_place : {X : Type 0} (q : X → Bool) (f : X → X) → ((x : X) → q x ≡ true → f x ≡ x) → ((x : X) → q x ≡ false → q (f x) ≡ false) → (xs : List X)
    → filter q (map f xs) ≡ filter q xs
unseen_in_place q f stays out [] = refl
unseen_in_place q f stays out (x ∷ xs) =
    changed_step (q x) (q (f x)) x (f x) (filter q (map f xs)) (filter q xs) (λ here. (ap q (stays x here) ∙ here, stays x here)) (out x)
    (unseen_in_place q f stays out xs)

not_itself : (n : ℕ) → not (n == n) ≡ false
not_itself n = ap not (eq-eqb n n refl)

-- ## What is left where a step is of no source, no listener or no timer

listeners_stand : (u v : World) → map but_waker v.listeners ≡ map but_waker u.listeners
    → map but_waker (filter (λ (l : ListenerEntry). not false) v.listeners) ≡ map but_waker (filter (λ (l : ListenerEntry). not false) u.listeners)
listeners_stand u v same = ap (map but_waker) (all_kept v.listeners) ∙ same ∙ sym (ap (map but_waker) (all_kept u.listeners))

-- ## Sources

add_sources : (w : World) (answers : List PollerAnswer) → other_sources w step.Add (add w answers).world ≡ other_sources w step.Add w
add_sources w answers =
    let q : LiveSource → Bool = λ x. not (x.serial == w.serials + 1) in
    either (λ o. filter q o.world.live ≡ filter q w.live) (nat_le source_limit (length w.live)) _ _ refl
    (either_world (λ v. filter q v.live ≡ filter q w.live) (fails (next_answer answers)) w _ refl
    (unseen_push q w.live (record { key = free_key w.live; serial = w.serials + 1 }) (not_itself (w.serials + 1))))

abbrev own_serial : Option ℕ → LiveSource → Bool
own_serial None x = false
own_serial (Some n) x = x.serial == n

del_sources : (w : World) (key : ℕ) (found : Option ℕ) (answers : List PollerAnswer)
    → filter (λ (x : LiveSource). not (own_serial found x)) (del_source w key found answers).world.live ≡ filter (λ (x : LiveSource). not (own_serial found x)) w.live
del_sources w key None answers = refl
del_sources w key (Some n) answers =
    let q : LiveSource → Bool = λ x. not (x.serial == n) in
    either (λ o. filter q o.world.live ≡ filter q w.live) (list_any (λ (l : ListenerEntry). l.serial == n) w.listeners) _ _ refl
    (refiltered q q (λ x out. out) w.live)

own_is : (found : Option ℕ) (x : LiveSource) → option_map_or (λ n. x.serial == n) found false ≡ own_serial found x
own_is None x = refl
own_is (Some n) x = refl

same_filter : {X : Type 0} (p q : X → Bool) → ((x : X) → p x ≡ q x) → (xs : List X) → filter p xs ≡ filter q xs
same_filter p q same [] = refl
same_filter {X} p q same (x ∷ xs) =
    ap (λ (t : Bool). cond t (x ∷ filter p xs) (filter p xs)) (same x) ∙ ap (λ (rest : List X). cond (q x) (x ∷ rest) rest) (same_filter p q same xs)

-- ## Listeners

abbrev bare_others : ℕ → World → List ListenerEntry
bare_others number v = map but_waker (filter (λ (l : ListenerEntry). not (l.number == number)) v.listeners)

waker_seen : (number : ℕ) (waker : Option Waker) (here : Bool) (l : ListenerEntry)
    → not ((cond here (record l { waker = waker }) l).number == number) ≡ not (l.number == number)
waker_seen number waker true l = refl
waker_seen number waker false l = refl

waker_unseen : (waker : Option Waker) (here : Bool) (l : ListenerEntry) → but_waker (cond here (record l { waker = waker }) l) ≡ but_waker l
waker_unseen waker true l = refl
waker_unseen waker false l = refl

either_list : {X : Type 0} (P : List X → Type 0) (test : Bool) (xs ys : List X) → P xs → P ys → P (cond test xs ys)
either_list P true xs ys first second = first
either_list P false xs ys first second = second

listening_others : (w : World) (entry : ListenerEntry) (waker : Waker)
    → bare_others entry.number (record w { listeners = with_listening w entry waker }) ≡ bare_others entry.number w
listening_others w entry waker =
    let q : ListenerEntry → Bool = λ l. not (l.number == entry.number) in
    either_list (λ ls. map but_waker (filter q ls) ≡ map but_waker (filter q w.listeners)) (is_some entry.position) _ _
    (unseen_change q (λ l. cond (is_listener entry.number l) (record l { waker = Some waker }) l) but_waker
    (λ l. waker_seen entry.number (Some waker) (is_listener entry.number l) l) (λ l. waker_unseen (Some waker) (is_listener entry.number l) l) w.listeners)
    (ap (map but_waker)
    (unseen_push q (filter q w.listeners) (record entry { position = Some w.pos; waker = Some waker }) (not_itself entry.number)
    ∙ refiltered q q (λ l out. out) w.listeners))

-- the entries that a pending poll leaves
pub pending_entries : (arms : Bool) (w : World) (key serial : ℕ) (wakes : List Waker) (answers : List PollerAnswer) → (pending arms w key serial wakes answers).world.listeners ≡ w.listeners
pending_entries false w key serial wakes answers = refl
pending_entries true w key serial wakes answers = either_world (λ v. v.listeners ≡ w.listeners) (fails (next_answer answers)) _ _ refl refl

step_others_at : (w : World) (waker : Waker) (entry : ListenerEntry) (answers : List PollerAnswer)
    → bare_others entry.number (step_listener w waker (Some entry) answers).world ≡ bare_others entry.number w
step_others_at w waker entry answers =
    let listening : World = record w { listeners = with_listening w entry waker } in
    let pends = pending_entries (is_idle w entry.serial entry.dir || is_broken w entry.serial) listening (unwrap_or (key_of w entry.serial) 0) entry.serial [] answers in
    either (λ o. bare_others entry.number o.world ≡ bare_others entry.number w) (is_fresh_since w entry.serial entry.dir entry.position) _ _ refl
    (ap (λ (ls : List ListenerEntry). map but_waker (filter (λ (l : ListenerEntry). not (l.number == entry.number)) ls)) pends ∙ listening_others w entry waker)

step_others : (w : World) (number : ℕ) (waker : Waker) (found : Option ListenerEntry) (answers : List PollerAnswer) → find (is_listener number) w.listeners ≡ found
    → bare_others number (step_listener w waker found answers).world ≡ bare_others number w
step_others w number waker None answers is = refl
step_others w number waker (Some entry) answers is =
    let same : entry.number ≡ number = eqb-true entry.number number (found_is_in (is_listener number) w.listeners entry is).1 in
    subst (λ n. bare_others n (step_listener w waker (Some entry) answers).world ≡ bare_others n w) same (step_others_at w waker entry answers)

drop_others : (w : World) (number : ℕ) (found : Option ListenerEntry) (answers : List PollerAnswer)
    → bare_others number (drop_listener w number found answers).world ≡ bare_others number w
drop_others w number None answers = refl
drop_others w number (Some entry) answers =
    let q : ListenerEntry → Bool = λ l. not (l.number == number) in
    ap (map but_waker) (refiltered q q (λ l out. out) w.listeners)

new_others : (w : World) (dir : Dir) (found : Option ℕ) (answers : List PollerAnswer)
    → bare_others (w.listeners_drawn + 1) (new_listener w dir found answers).world ≡ bare_others (w.listeners_drawn + 1) w
new_others w dir None answers = refl
new_others w dir (Some serial) answers =
    ap (map but_waker) (unseen_push (λ (l : ListenerEntry). not (l.number == w.listeners_drawn + 1)) w.listeners
    (record { number = w.listeners_drawn + 1; serial = serial; dir = dir; position = None; waker = None }) (not_itself (w.listeners_drawn + 1)))

-- ## Timers

abbrev but_timer : ℕ → World → List TimerEntry
but_timer number v = filter (λ (t : TimerEntry). not (t.number == number)) v.timers

placed_here : (entry t : TimerEntry) (here : Bool) → (t.number == entry.number) ≡ here → not (t.number == entry.number) ≡ true → cond here entry t ≡ t
placed_here entry t true is other = absurd cc
placed_here entry t false is other = refl

placed_out : (entry t : TimerEntry) (here : Bool) → not (t.number == entry.number) ≡ false → not ((cond here entry t).number == entry.number) ≡ false
placed_out entry t true out = not_itself entry.number
placed_out entry t false out = out

placed_others : (w : World) (entry : TimerEntry) → but_timer entry.number (with_timer w entry) ≡ but_timer entry.number w
placed_others w entry =
    unseen_in_place (λ (t : TimerEntry). not (t.number == entry.number)) (λ t. cond (is_timer entry.number t) entry t)
    (λ t other. placed_here entry t (t.number == entry.number) refl other) (λ t out. placed_out entry t (t.number == entry.number) out) w.timers

gone_timers : (w : World) (id : Option ℕ) (number : ℕ) → but_timer number (unregistered w id) ≡ but_timer number w
gone_timers w id number = ap (λ (f : Frame). filter (λ (t : TimerEntry). not (t.number == number)) f.timers) (gone_keeps w id)

registered_others : (w : World) (entry : TimerEntry) (deadline : ℕ) (waker : Waker) → but_timer entry.number (registered w entry deadline waker) ≡ but_timer entry.number w
registered_others w entry deadline waker = placed_others w (record entry { deadline = Some deadline; id = Some (w.ids_drawn + 1); kept = Some waker })

left_others : (w : World) (left : TimerEntry) (registration : Option (ℕ × Waker)) → but_timer left.number (left_as w left registration) ≡ but_timer left.number w
left_others w left None = placed_others w left
left_others w left (Some registration) = registered_others w left registration.0 registration.1

worked_others : (w : World) (entry : TimerEntry) (becomes : Option TimerState) → but_timer entry.number (worked w entry becomes) ≡ but_timer entry.number w
worked_others w entry None = refl
worked_others w entry (Some timer) = left_others (unregistered w entry.id) _ (joining timer) ∙ gone_timers w entry.id entry.number

found_number : (number : ℕ) (w : World) (entry : TimerEntry) → find (is_timer number) w.timers ≡ Some entry → entry.number ≡ number
found_number number w entry is = eqb-true entry.number number (found_is_in (is_timer number) w.timers entry is).1

tick_others : (w : World) (number : ℕ) (waker : Waker) (found : Option TimerEntry) (answers : List PollerAnswer) → find (is_timer number) w.timers ≡ found
    → but_timer number (tick_timer w waker found answers).world ≡ but_timer number w
tick_others w number waker None answers is = refl
tick_others w number waker (Some entry) answers is =
    subst (λ n. but_timer n (tick_timer w waker (Some entry) answers).world ≡ but_timer n w) (found_number number w entry is)
    (worked_others w entry _)

set_others : (w : World) (number deadline : ℕ) (period : Option ℕ) (found : Option TimerEntry) (answers : List PollerAnswer) → find (is_timer number) w.timers ≡ found
    → but_timer number (set_timer w deadline period found answers).world ≡ but_timer number w
set_others w number deadline period None answers is = refl
set_others w number deadline period (Some entry) answers is =
    subst (λ n. but_timer n (set_timer w deadline period (Some entry) answers).world ≡ but_timer n w) (found_number number w entry is)
    (worked_others w entry (reset_work (state_of entry) deadline period).becomes)

end_others : (w : World) (number : ℕ) (found : Option TimerEntry) (answers : List PollerAnswer) → find (is_timer number) w.timers ≡ found
    → but_timer number (end_timer w found answers).world ≡ but_timer number w
end_others w number None answers is = refl
end_others w number (Some entry) answers is =
    let q : TimerEntry → Bool = λ t. not (t.number == entry.number) in
    subst (λ n. but_timer n (end_timer w (Some entry) answers).world ≡ but_timer n w) (found_number number w entry is)
    (refiltered q q (λ t out. out) (unregistered w entry.id).timers ∙ gone_timers w entry.id entry.number)

made_others : (w : World) (deadline period : Option ℕ)
    → filter (λ (t : TimerEntry). not (t.number == w.timers_made + 1))
    (w.timers ++ record { number = w.timers_made + 1; deadline = deadline; period = period; id = None; kept = None } ∷ [])
    ≡ but_timer (w.timers_made + 1) w
made_others w deadline period =
    unseen_push (λ (t : TimerEntry). not (t.number == w.timers_made + 1)) w.timers
    (record { number = w.timers_made + 1; deadline = deadline; period = period; id = None; kept = None }) (not_itself (w.timers_made + 1))

-- ## A step

-- a step of no source, of no listener, of no timer
abbrev all_sources : Frame → List LiveSource
all_sources f = filter (λ (x : LiveSource). not false) f.live

abbrev all_timers : Frame → List TimerEntry
all_timers f = filter (λ (t : TimerEntry). not false) f.timers

abbrev pub entries : Frame → List ListenerEntry
entries f = f.listeners

sources_stand : (w : World) (s : Step) (answers : List PollerAnswer) → other_sources w s (case_of w s answers).world ≡ other_sources w s w
sources_stand w step.Add answers = add_sources w answers
sources_stand w (step.Del key) answers =
    same_filter (λ (x : LiveSource). not (is_own_source w (step.Del key) x)) (λ (x : LiveSource). not (own_serial (serial_of w key.0) x))
    (λ x. ap not (own_is (serial_of w key.0) x)) (del_source w key.0 (serial_of w key.0) answers).world.live
    ∙ del_sources w key.0 (serial_of w key.0) answers
    ∙ sym (same_filter (λ (x : LiveSource). not (is_own_source w (step.Del key) x)) (λ (x : LiveSource). not (own_serial (serial_of w key.0) x))
    (λ x. ap not (own_is (serial_of w key.0) x)) w.live)
sources_stand w s answers = ap all_sources (case_keeps w s answers)

entries_stand : (w : World) (s : Step) (answers : List PollerAnswer) → other_listeners w s (case_of w s answers).world ≡ other_listeners w s w
entries_stand w (step.New key dir) answers = new_others w dir (serial_of w key.0) answers
entries_stand w (step.StepEar number waker) answers = step_others w number waker (find (is_listener number) w.listeners) answers refl
entries_stand w (step.DropEar number) answers = drop_others w number (find (is_listener number) w.listeners) answers
entries_stand w s answers = listeners_stand w (case_of w s answers).world (ap entries (case_keeps w s answers))

timers_stand : (w : World) (s : Step) (answers : List PollerAnswer) → other_timers w s (case_of w s answers).world ≡ other_timers w s w
timers_stand w (step.TimerAt deadline) answers = made_others w (Some deadline) None
timers_stand w (step.TimerEvery deadline period) answers = made_others w (Some deadline) (Some period)
timers_stand w step.TimerNever answers = made_others w None None
timers_stand w (step.Tick number waker) answers = tick_others w number waker (find (is_timer number) w.timers) answers refl
timers_stand w (step.SetAt number deadline) answers = set_others w number deadline None (find (is_timer number) w.timers) answers refl
timers_stand w (step.SetEvery number deadline period) answers = set_others w number deadline (Some period) (find (is_timer number) w.timers) answers refl
timers_stand w (step.End number) answers = end_others w number (find (is_timer number) w.timers) answers refl
timers_stand w s answers = ap all_timers (case_keeps w s answers)

pub others_stand : (w : World) (s : Step) (answers : List PollerAnswer) → OthersStand w s answers (step_result w s answers).world
unfolding step_result
others_stand w s answers = record {
  sources = sources_stand w s answers;
  marks = marks_stand w s answers;
  broken = broken_stand w s answers;
  listeners = entries_stand w s answers;
  timers = timers_stand w s answers;
}
