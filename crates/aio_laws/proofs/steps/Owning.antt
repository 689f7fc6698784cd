-- What a step leaves of its own listener and timer.
use Rattle.std.proofs.Common.{◌≡◌, ℕ, ◌+◌, ◌≤◌, Bool, true, false, not, cond, ◌&&◌, ◌||◌, ◌==◌, List, [], ◌∷◌, ◌++◌, map, find, Option, None, Some, is_some, refl, ap, ◌∙◌, sym, subst, ⊎_elim}
use Rattle.std.specs.Prelude.{nat_le, unwrap_or}
use Rattle.std.specs.List.{Contains, filter}
use Rattle.std.proofs.lemmas.Bool.{cases_Bool, cond-true, cond-false, eqb-true, le-leb, leb-true, lt-leb}
use Rattle.std.proofs.lemmas.List.Elements.{Contains-append_left, Contains-push, Contains-push_cases}
use Rattle.aio_base.specs.declared.names.Key.{Key}
use Rattle.aio_base.specs.declared.names.Waker.{Waker}
use Rattle.aio_base.specs.declared.names.Dir.{Dir}
use Rattle.aio_base.specs.declared.steps.Step.{Step}
use Rattle.aio_base.specs.declared.steps.Step.TheVariants as step
use Rattle.aio_base.specs.declared.steps.Answer.{Answer}
use Rattle.aio_base.specs.declared.steps.Answer.TheVariants as answer
use Rattle.aio_base.specs.World.{PollerAnswer, ListenerEntry, TimerEntry, World, serial_of, key_of, is_idle, is_broken, last_moment}
use Rattle.aio_base.specs.Machine.{Outcome, is_fresh_since, is_waker, is_listener, with_listening, step_listener, drop_listener, new_listener, is_timer, with_timer, unregistered, next_deadline, tick_timer, set_timer, end_timer, case_of, step_result, left_as, worked, state_of}
use Rattle.aio_base.specs.TimerWork.{TimerState, joining, reset_work}
use Rattle.aio_base.proofs.TimerCases.{fired, tick_deadline, tick_by_deadline, set_deadline, set_by_kept}
use Rattle.aio_laws.specs.Others.{but_waker}
use Rattle.aio_laws.specs.Own.{new_listener_entry, new_timer_entry, ComesFrom, Stood, FirstPolled, Made, MakesTimer, FollowsReady, redates, Redated, TimerFrom, StoodDated, IsRedated, MadeTimer, StandsMade, drops_listener, ends_timer, KeepsItsOwn}
use Rattle.aio_laws.proofs.steps.GivingUp.{what_is_given_up_goes}
use Rattle.aio_laws.proofs.steps.Keeping.{timers_keep}
use Rattle.aio_base.proofs.Membership.{found_is_in, filtered_is_in, passing_is_kept, mapped_from, image_is_in}
use Rattle.aio_laws.proofs.steps.Frames.{Frame, either, new_keeps, step_keeps, drop_keeps, tick_keeps, set_keeps, end_keeps, gone_keeps, case_keeps}
use Rattle.aio_laws.proofs.steps.Untouched.{entries, pending_entries}

-- ## Listeners

abbrev Come : World → Step → World → Type 0
Come w s v = (l : ListenerEntry) → Contains v.listeners l → ComesFrom w s l

-- the same entries but for their wakers
still : (w v : World) (s : Step) → map but_waker v.listeners ≡ map but_waker w.listeners → Come w s v
still w v s same l among =
    let there = subst (λ ls. Contains ls (but_waker l)) same (image_is_in but_waker v.listeners l among) in
    let old = mapped_from but_waker w.listeners (but_waker l) there in
    Stood old.0 old.1 old.2

stood : (w : World) (s : Step) (ls : List ListenerEntry) → ((l : ListenerEntry) → Contains ls l → Contains w.listeners l) → (l : ListenerEntry) → Contains ls l → ComesFrom w s l
stood w s ls within l among = Stood l (within l among) refl

new_comes : (w : World) (key : Key) (dir : Dir) (found : Option ℕ) (answers : List PollerAnswer) → serial_of w key.0 ≡ found
    → Come w (step.New key dir) (new_listener w dir found answers).world
new_comes w key dir None answers at = λ l among. Stood l among refl
new_comes w key dir (Some serial) answers at = λ l among.
    ⊎_elim
    (λ (old : Contains w.listeners l). Stood l old refl)
    (λ (is : new_listener_entry w serial dir ≡ l). Made key dir serial refl at (sym is))
    (Contains-push_cases w.listeners (new_listener_entry w serial dir) l among)

unset : (position : Option ℕ) → is_some position ≡ false → position ≡ None
unset None none = refl
unset (Some p) none = absurd cc

waker_only : (waker : Option Waker) (here : Bool) (l : ListenerEntry) → but_waker l ≡ but_waker (cond here (record l { waker = waker }) l)
waker_only waker true l = refl
waker_only waker false l = refl

by_test : {X : Type 0} (P : List X → Type 0) (test : Bool) (xs ys : List X) → (test ≡ true → P xs) → (test ≡ false → P ys) → P (cond test xs ys)
by_test P true xs ys first second = first refl
by_test P false xs ys first second = second refl

listening_comes : (w : World) (number : ℕ) (waker : Waker) (entry : ListenerEntry) → Contains w.listeners entry → (entry.number == number) ≡ true
    → (l : ListenerEntry) → Contains (with_listening w entry waker) l → ComesFrom w (step.StepEar number waker) l
listening_comes w number waker entry here own =
    by_test (λ ls. (l : ListenerEntry) → Contains ls l → ComesFrom w (step.StepEar number waker) l) (is_some entry.position) _ _
    (λ polled. λ l among.
    let f : ListenerEntry → ListenerEntry = λ l. cond (is_listener entry.number l) (record l { waker = Some waker }) l in
    let from = mapped_from f w.listeners l among in
    Stood from.0 from.1 (waker_only (Some waker) (is_listener entry.number from.0) from.0 ∙ ap but_waker from.2))
    (λ first. λ l among.
    let q : ListenerEntry → Bool = λ l. not (is_listener entry.number l) in
    let now : ListenerEntry = record entry { position = Some w.pos; waker = Some waker } in
    ⊎_elim
    (λ (old : Contains (filter q w.listeners) l). Stood l (filtered_is_in q w.listeners l old) refl)
    (λ (is : now ≡ l). FirstPolled entry here (unset entry.position first) (subst (λ (x : ListenerEntry). (x.number == number) ≡ true) is own) (ap but_waker is))
    (Contains-push_cases (filter q w.listeners) now l among))

step_comes : (w : World) (number : ℕ) (waker : Waker) (found : Option ListenerEntry) (answers : List PollerAnswer) → find (is_listener number) w.listeners ≡ found
    → Come w (step.StepEar number waker) (step_listener w waker found answers).world
step_comes w number waker None answers is = λ l among. Stood l among refl
step_comes w number waker (Some entry) answers is =
    let listening : World = record w { listeners = with_listening w entry waker } in
    let here = found_is_in (is_listener number) w.listeners entry is in
    let pends = pending_entries (is_idle w entry.serial entry.dir || is_broken w entry.serial) listening (unwrap_or (key_of w entry.serial) 0) entry.serial [] answers in
    either (λ o. Come w (step.StepEar number waker) o.world) (is_fresh_since w entry.serial entry.dir entry.position) _ _ (λ l among. Stood l among refl)
    (λ l among. listening_comes w number waker entry here.0 here.1 l (subst (λ (ls : List ListenerEntry). Contains ls l) pends among))

drop_comes : (w : World) (number : ℕ) (found : Option ListenerEntry) (answers : List PollerAnswer) → Come w (step.DropEar number) (drop_listener w number found answers).world
drop_comes w number None answers = λ l among. Stood l among refl
drop_comes w number (Some entry) answers = λ l among. Stood l (filtered_is_in (λ l. not (is_listener number l)) w.listeners l among) refl

-- ## No listener is lost

-- one of this number is among these
abbrev Listed : List ListenerEntry → ℕ → Type 0
Listed ls number = (after : ListenerEntry) × Contains ls after × (after.number ≡ number)

abbrev Stay : World → Step → World → Type 0
Stay w s v = (l : ListenerEntry) → Contains w.listeners l → drops_listener s l.number ≡ false → Listed v.listeners l.number

still_stay : (w v : World) (s : Step) → map but_waker v.listeners ≡ map but_waker w.listeners → Stay w s v
still_stay w v s same l among kept =
    let there = subst (λ ls. Contains ls (but_waker l)) (sym same) (image_is_in but_waker w.listeners l among) in
    let after = mapped_from but_waker v.listeners (but_waker l) there in
    (after.0, after.1, ap (λ (x : ListenerEntry). x.number) after.2)

new_stay : (w : World) (key : Key) (dir : Dir) (found : Option ℕ) (answers : List PollerAnswer) → Stay w (step.New key dir) (new_listener w dir found answers).world
new_stay w key dir None answers l among kept = (l, among, refl)
new_stay w key dir (Some serial) answers l among kept = (l, Contains-append_left w.listeners (new_listener_entry w serial dir ∷ []) l among, refl)

waker_number : (waker : Option Waker) (here : Bool) (l : ListenerEntry) → (cond here (record l { waker = waker }) l).number ≡ l.number
waker_number waker true l = refl
waker_number waker false l = refl

listening_stay : (w : World) (waker : Waker) (entry : ListenerEntry) (l : ListenerEntry) → Contains w.listeners l → Listed (with_listening w entry waker) l.number
listening_stay w waker entry l among =
    by_test (λ ls. Listed ls l.number) (is_some entry.position) _ _
    (λ polled.
    let f : ListenerEntry → ListenerEntry = λ l. cond (is_listener entry.number l) (record l { waker = Some waker }) l in
    (f l, image_is_in f w.listeners l among, waker_number (Some waker) (is_listener entry.number l) l))
    (λ first.
    let q : ListenerEntry → Bool = λ l. not (is_listener entry.number l) in
    let now : ListenerEntry = record entry { position = Some w.pos; waker = Some waker } in
    ⊎_elim
    (λ (here : is_listener entry.number l ≡ true). (now, Contains-push (filter q w.listeners) now, sym (eqb-true l.number entry.number here)))
    (λ (other : is_listener entry.number l ≡ false). (l, Contains-append_left (filter q w.listeners) (now ∷ []) l (passing_is_kept q w.listeners l (ap not other) among), refl))
    (cases_Bool (is_listener entry.number l)))

step_stay : (w : World) (number : ℕ) (waker : Waker) (found : Option ListenerEntry) (answers : List PollerAnswer)
    → Stay w (step.StepEar number waker) (step_listener w waker found answers).world
step_stay w number waker None answers = λ l among kept. (l, among, refl)
step_stay w number waker (Some entry) answers =
    let listening : World = record w { listeners = with_listening w entry waker } in
    let pends = pending_entries (is_idle w entry.serial entry.dir || is_broken w entry.serial) listening (unwrap_or (key_of w entry.serial) 0) entry.serial [] answers in
    either (λ o. Stay w (step.StepEar number waker) o.world) (is_fresh_since w entry.serial entry.dir entry.position) _ _ (λ l among kept. (l, among, refl))
    (λ l among kept. subst (λ (ls : List ListenerEntry). Listed ls l.number) (sym pends) (listening_stay w waker entry l among))

drop_stay : (w : World) (number : ℕ) (found : Option ListenerEntry) (answers : List PollerAnswer) → Stay w (step.DropEar number) (drop_listener w number found answers).world
drop_stay w number None answers l among kept = (l, among, refl)
drop_stay w number (Some entry) answers l among kept =
    (l, passing_is_kept (λ (x : ListenerEntry). not (is_listener number x)) w.listeners l (ap not kept) among, refl)

-- ## Timers

abbrev Dated : World → Step → Answer → World → Type 0
Dated w s told v = (t : TimerEntry) → Contains v.timers t → TimerFrom w s told t

undated : (w v : World) (s : Step) (told : Answer) → ((n : ℕ) → redates s told n ≡ false) → v.timers ≡ w.timers → Dated w s told v
undated w v s told none same t among = StoodDated t (subst (λ (ts : List TimerEntry). Contains ts t) same among) refl (none t.number) refl refl

made_dated : (w : World) (s : Step) (told : Answer) (deadline period : Option ℕ) → ((n : ℕ) → redates s told n ≡ false) → MakesTimer s deadline period
    → (t : TimerEntry) → Contains (w.timers ++ new_timer_entry w deadline period ∷ []) t → TimerFrom w s told t
made_dated w s told deadline period none makes t among =
    ⊎_elim (λ (old : Contains w.timers t). StoodDated t old refl (none t.number) refl refl)
    (λ (is : new_timer_entry w deadline period ≡ t). MadeTimer deadline period makes (sym is))
    (Contains-push_cases w.timers (new_timer_entry w deadline period) t among)

placed_from : (w : World) (s : Step) (told : Answer) (entry x : TimerEntry) (here : Bool) → is_timer entry.number x ≡ here
    → ((n : ℕ) → (n == entry.number) ≡ false → redates s told n ≡ false) → TimerFrom w s told entry → Contains w.timers x → TimerFrom w s told (cond here entry x)
placed_from w s told entry x true at others from among = from
placed_from w s told entry x false at others from among = StoodDated x among refl (others x.number at) refl refl

-- another entry in its place
placed : (w u : World) (s : Step) (told : Answer) (entry : TimerEntry) → u.timers ≡ w.timers
    → ((n : ℕ) → (n == entry.number) ≡ false → redates s told n ≡ false) → TimerFrom w s told entry → Dated w s told (with_timer u entry)
placed w u s told entry same others way t among =
    let f : TimerEntry → TimerEntry = λ t. cond (is_timer entry.number t) entry t in
    let from = mapped_from f u.timers t among in
    subst (TimerFrom w s told) from.2
    (placed_from w s told entry from.0 (is_timer entry.number from.0) refl others way (subst (λ (ts : List TimerEntry). Contains ts from.0) same from.1))

gone_same : (w : World) (id : Option ℕ) → (unregistered w id).timers ≡ w.timers
gone_same w id = ap (λ (f : Frame). f.timers) (gone_keeps w id)

-- a timer with another deadline and another period in the place of one
set_from : (w u : World) (s : Step) (old set : TimerEntry) (deadline : ℕ) (kept : Option Waker) → u.timers ≡ w.timers → Contains w.timers old → old.number ≡ set.number
    → redates s answer.Set set.number ≡ true → ((n : ℕ) → (n == set.number) ≡ false → redates s answer.Set n ≡ false)
    → ((id : Option ℕ) (kept : Option Waker) → Redated w s answer.Set old (record set { deadline = Some deadline; id = id; kept = kept }))
    → Dated w s answer.Set (set_deadline u set deadline kept)
set_from w u s old set deadline None same among number own others redated =
    placed w u s answer.Set (record set { deadline = Some deadline; id = None }) same others (IsRedated old among number own (redated None set.kept))
set_from w u s old set deadline (Some waker) same among number own others redated =
    placed w u s answer.Set (record set { deadline = Some deadline; id = Some (u.ids_drawn + 1); kept = Some waker }) same others
    (IsRedated old among number own (redated (Some (u.ids_drawn + 1)) (Some waker)))

set_at_dated : (w : World) (number deadline : ℕ) (found : Option TimerEntry) (answers : List PollerAnswer) → find (is_timer number) w.timers ≡ found
    → Dated w (step.SetAt number deadline) (set_timer w deadline None found answers).answer (set_timer w deadline None found answers).world
set_at_dated w number deadline None answers is = undated w w (step.SetAt number deadline) answer.NoTimer (λ n. refl) refl
set_at_dated w number deadline (Some entry) answers is =
    let here = found_is_in (is_timer number) w.timers entry is in
    let same : entry.number ≡ number = eqb-true entry.number number here.1 in
    subst (λ (o : Outcome). Dated w (step.SetAt number deadline) o.answer o.world) (set_by_kept w deadline None entry answers)
    (set_from w (unregistered w entry.id) (step.SetAt number deadline) entry entry deadline entry.kept (gone_same w entry.id) here.0 refl here.1
    (λ n other. subst (λ k. (n == k) ≡ false) same other) (λ id kept. (refl, refl)))

set_every_dated : (w : World) (number deadline period : ℕ) (found : Option TimerEntry) (answers : List PollerAnswer) → find (is_timer number) w.timers ≡ found
    → Dated w (step.SetEvery number deadline period) (set_timer w deadline (Some period) found answers).answer (set_timer w deadline (Some period) found answers).world
set_every_dated w number deadline period None answers is = undated w w (step.SetEvery number deadline period) answer.NoTimer (λ n. refl) refl
set_every_dated w number deadline period (Some entry) answers is =
    let here = found_is_in (is_timer number) w.timers entry is in
    let same : entry.number ≡ number = eqb-true entry.number number here.1 in
    subst (λ (o : Outcome). Dated w (step.SetEvery number deadline period) o.answer o.world) (set_by_kept w deadline (Some period) entry answers)
    (set_from w (unregistered w entry.id) (step.SetEvery number deadline period) entry (record entry { period = Some period }) deadline entry.kept (gone_same w entry.id) here.0 refl here.1
    (λ n other. subst (λ k. (n == k) ≡ false) same other) (λ id kept. (refl, refl)))

follows_ready : (deadline : ℕ) (period : Option ℕ) → FollowsReady deadline period (next_deadline deadline period)
follows_ready deadline None = refl
follows_ready deadline (Some period) = (
  (λ within. cond-true (nat_le (deadline + period) last_moment) _ _ (le-leb (deadline + period) last_moment within)),
  (λ past. cond-false (nat_le (deadline + period) last_moment) _ _ (lt-leb (deadline + period) last_moment past)),
)

fired_dated : (w u : World) (number : ℕ) (waker : Waker) (deadline : ℕ) (entry : TimerEntry) (next : Option ℕ) → u.timers ≡ w.timers → Contains w.timers entry
    → (entry.number == number) ≡ true → entry.deadline ≡ Some deadline → deadline ≤ w.now → FollowsReady deadline entry.period next
    → Dated w (step.Tick number waker) (answer.ReadyAt deadline) (fired u entry waker next)
fired_dated w u number waker deadline entry None same among own at come follows =
    let is : entry.number ≡ number = eqb-true entry.number number own in
    placed w u (step.Tick number waker) (answer.ReadyAt deadline) (record entry { deadline = None; id = None; kept = None }) same
    (λ n other. subst (λ k. (n == k) ≡ false) is other) (IsRedated entry among refl own (at, come, follows, refl))
fired_dated w u number waker deadline entry (Some next) same among own at come follows =
    let is : entry.number ≡ number = eqb-true entry.number number own in
    placed w u (step.Tick number waker) (answer.ReadyAt deadline) (record entry { deadline = Some next; id = Some (u.ids_drawn + 1); kept = Some waker }) same
    (λ n other. subst (λ k. (n == k) ≡ false) is other) (IsRedated entry among refl own (at, come, follows, refl))

either_dated : (w : World) (s : Step) (told : Answer) (test : Bool) (u v : World) → Dated w s told u → Dated w s told v → Dated w s told (cond test u v)
either_dated w s told true u v first second = first
either_dated w s told false u v first second = second

outcome_by_test : (P : Outcome → Type 0) (test : Bool) (x y : Outcome) → (test ≡ true → P x) → P y → P (cond test x y)
outcome_by_test P true x y first second = first refl
outcome_by_test P false x y first second = second

tick_dated_at : (w : World) (number : ℕ) (waker : Waker) (entry : TimerEntry) (deadline : Option ℕ) (answers : List PollerAnswer) → Contains w.timers entry
    → (entry.number == number) ≡ true → entry.deadline ≡ deadline
    → Dated w (step.Tick number waker) (tick_deadline w entry waker deadline answers).answer (tick_deadline w entry waker deadline answers).world
tick_dated_at w number waker entry None answers here own at = undated w w (step.Tick number waker) answer.Pending (λ n. refl) refl
tick_dated_at w number waker entry (Some deadline) answers here own at =
    let gone = unregistered w entry.id in
    let same = gone_same w entry.id in
    let now : TimerEntry = record entry { deadline = Some deadline; id = Some (gone.ids_drawn + 1); kept = Some waker } in
    let way : TimerFrom w (step.Tick number waker) answer.Pending now = StoodDated entry here refl refl (sym at) refl in
    outcome_by_test (λ o. Dated w (step.Tick number waker) o.answer o.world) (nat_le deadline w.now) _ _
    (λ come. fired_dated w gone number waker deadline entry (next_deadline deadline entry.period) same here own at (leb-true deadline w.now come) (follows_ready deadline entry.period))
    (either_dated w (step.Tick number waker) answer.Pending (is_some entry.id && is_waker waker entry.kept) w _
    (undated w w (step.Tick number waker) answer.Pending (λ n. refl) refl) (placed w gone (step.Tick number waker) answer.Pending now same (λ n other. refl) way))

tick_dated : (w : World) (number : ℕ) (waker : Waker) (found : Option TimerEntry) (answers : List PollerAnswer) → find (is_timer number) w.timers ≡ found
    → Dated w (step.Tick number waker) (tick_timer w waker found answers).answer (tick_timer w waker found answers).world
tick_dated w number waker None answers is = undated w w (step.Tick number waker) answer.NoTimer (λ n. refl) refl
tick_dated w number waker (Some entry) answers is =
    let here = found_is_in (is_timer number) w.timers entry is in
    subst (λ (o : Outcome). Dated w (step.Tick number waker) o.answer o.world) (tick_by_deadline w waker entry answers)
    (tick_dated_at w number waker entry entry.deadline answers here.0 here.1 refl)

end_dated : (w : World) (number : ℕ) (found : Option TimerEntry) (answers : List PollerAnswer) (told : Answer) → Dated w (step.End number) told (end_timer w found answers).world
end_dated w number None answers told = undated w w (step.End number) told (λ n. refl) refl
end_dated w number (Some entry) answers told = λ t among.
    StoodDated t (subst (λ (ts : List TimerEntry). Contains ts t) (gone_same w entry.id)
    (filtered_is_in (λ t. not (is_timer entry.number t)) (unregistered w entry.id).timers t among)) refl refl refl refl

-- ## No timer is lost

abbrev Timed : List TimerEntry → ℕ → Type 0
Timed ts number = (after : TimerEntry) × Contains ts after × (after.number ≡ number)

abbrev Last : World → Step → World → Type 0
Last w s v = (t : TimerEntry) → Contains w.timers t → ends_timer s t.number ≡ false → Timed v.timers t.number

same_last : (w v : World) (s : Step) → v.timers ≡ w.timers → Last w s v
same_last w v s same t among kept = (t, subst (λ (ts : List TimerEntry). Contains ts t) (sym same) among, refl)

made_last : (w : World) (s : Step) (new t : TimerEntry) → Contains w.timers t → Timed (w.timers ++ new ∷ []) t.number
made_last w s new t among = (t, Contains-append_left w.timers (new ∷ []) t among, refl)

placed_number : (entry t : TimerEntry) (here : Bool) → is_timer entry.number t ≡ here → (cond here entry t).number ≡ t.number
placed_number entry t true at = sym (eqb-true t.number entry.number at)
placed_number entry t false at = refl

placed_last : (w u : World) (s : Step) (entry : TimerEntry) → u.timers ≡ w.timers → Last w s (with_timer u entry)
placed_last w u s entry same t among kept =
    let f : TimerEntry → TimerEntry = λ t. cond (is_timer entry.number t) entry t in
    (f t, image_is_in f u.timers t (subst (λ (ts : List TimerEntry). Contains ts t) (sym same) among), placed_number entry t (is_timer entry.number t) refl)

left_last : (w u : World) (s : Step) (left : TimerEntry) (registration : Option (ℕ × Waker)) → u.timers ≡ w.timers → Last w s (left_as u left registration)
left_last w u s left None same = placed_last w u s left same
left_last w u s left (Some registration) same =
    placed_last w u s (record left { deadline = Some registration.0; id = Some (u.ids_drawn + 1); kept = Some registration.1 }) same

worked_last : (w : World) (s : Step) (entry : TimerEntry) (becomes : Option TimerState) → Last w s (worked w entry becomes)
worked_last w s entry None = same_last w w s refl
worked_last w s entry (Some timer) = left_last w (unregistered w entry.id) s _ (joining timer) (gone_same w entry.id)

set_last : (w : World) (s : Step) (deadline : ℕ) (period : Option ℕ) (found : Option TimerEntry) (answers : List PollerAnswer) → Last w s (set_timer w deadline period found answers).world
set_last w s deadline period None answers = same_last w w s refl
set_last w s deadline period (Some entry) answers = worked_last w s entry (reset_work (state_of entry) deadline period).becomes

tick_last : (w : World) (s : Step) (waker : Waker) (found : Option TimerEntry) (answers : List PollerAnswer) → Last w s (tick_timer w waker found answers).world
tick_last w s waker None answers = same_last w w s refl
tick_last w s waker (Some entry) answers = worked_last w s entry _

end_last : (w : World) (number : ℕ) (found : Option TimerEntry) (answers : List PollerAnswer) → find (is_timer number) w.timers ≡ found
    → Last w (step.End number) (end_timer w found answers).world
end_last w number None answers is = same_last w w (step.End number) refl
end_last w number (Some entry) answers is = λ t among kept.
    let same : entry.number ≡ number = eqb-true entry.number number (found_is_in (is_timer number) w.timers entry is).1 in (
      t,
      passing_is_kept (λ x. not (is_timer entry.number x)) (unregistered w entry.id).timers t (ap not (subst (λ k. (t.number == k) ≡ false) (sym same) kept))
          (subst (λ (ts : List TimerEntry). Contains ts t) (sym (gone_same w entry.id)) among),
      refl,
    )

-- ## What is made

new_made : (w : World) (dir : Dir) (found : Option ℕ) (answers : List PollerAnswer) (serial : ℕ) → found ≡ Some serial
    → ((new_listener w dir found answers).answer ≡ answer.Listener (w.listeners_drawn + 1)) × Contains (new_listener w dir found answers).world.listeners (new_listener_entry w serial dir)
new_made w dir None answers serial is = absurd cc
new_made w dir (Some n) answers serial is =
    let same : n ≡ serial = cc in
    (refl, subst (λ k. Contains (w.listeners ++ new_listener_entry w n dir ∷ []) (new_listener_entry w k dir)) same (Contains-push w.listeners (new_listener_entry w n dir)))

timer_made : (w : World) (a b deadline period : Option ℕ) → deadline ≡ a → period ≡ b
    → Contains (w.timers ++ new_timer_entry w a b ∷ []) (new_timer_entry w deadline period)
timer_made w a b deadline period at every =
    subst (λ d. Contains (w.timers ++ new_timer_entry w a b ∷ []) (new_timer_entry w d period)) (sym at)
    (subst (λ p. Contains (w.timers ++ new_timer_entry w a b ∷ []) (new_timer_entry w a p)) (sym every) (Contains-push w.timers (new_timer_entry w a b)))

-- ## A step

record Owned (w : World) (s : Step) (o : Outcome) : Type 0 where
  listeners : Come w s o.world
  timers : Dated w s o.answer o.world
  made : StandsMade w s o.answer o.world.listeners o.world.timers
  stay : Stay w s o.world
  last : Last w s o.world

-- a step that changes no timer, and of no listener but the waker
unowned : (w : World) (s : Step) (o : Outcome) → map but_waker o.world.listeners ≡ map but_waker w.listeners → o.world.timers ≡ w.timers
    → ((n : ℕ) → redates s o.answer n ≡ false) → StandsMade w s o.answer o.world.listeners o.world.timers → Owned w s o
unowned w s o listeners timers none made = record {
  listeners = still w o.world s listeners;
  timers = undated w o.world s o.answer none timers;
  made = made;
  stay = still_stay w o.world s listeners;
  last = same_last w o.world s timers;
}

case_owns : (w : World) (s : Step) (answers : List PollerAnswer) → Owned w s (case_of w s answers)
case_owns w (step.New key dir) answers =
    record {
      listeners = new_comes w key dir (serial_of w key.0) answers refl;
      timers = undated w (case_of w (step.New key dir) answers).world (step.New key dir) (case_of w (step.New key dir) answers).answer (λ n. refl) (ap (λ (f : Frame). f.timers) (new_keeps w dir (serial_of w key.0) answers));
      made = λ serial at. new_made w dir (serial_of w key.0) answers serial at;
      stay = new_stay w key dir (serial_of w key.0) answers;
      last = same_last w (case_of w (step.New key dir) answers).world (step.New key dir) (ap (λ (f : Frame). f.timers) (new_keeps w dir (serial_of w key.0) answers));
    }
case_owns w (step.StepEar number waker) answers =
    record {
      listeners = step_comes w number waker (find (is_listener number) w.listeners) answers refl;
      timers = undated w (case_of w (step.StepEar number waker) answers).world (step.StepEar number waker) (case_of w (step.StepEar number waker) answers).answer (λ n. refl) (ap (λ (f : Frame). f.timers) (step_keeps w waker (find (is_listener number) w.listeners) answers));
      made = λ d p none. absurd none;
      stay = step_stay w number waker (find (is_listener number) w.listeners) answers;
      last = same_last w (case_of w (step.StepEar number waker) answers).world (step.StepEar number waker) (ap (λ (f : Frame). f.timers) (step_keeps w waker (find (is_listener number) w.listeners) answers));
    }
case_owns w (step.DropEar number) answers =
    record {
      listeners = drop_comes w number (find (is_listener number) w.listeners) answers;
      timers = undated w (case_of w (step.DropEar number) answers).world (step.DropEar number) (case_of w (step.DropEar number) answers).answer (λ n. refl) (ap (λ (f : Frame). f.timers) (drop_keeps w number (find (is_listener number) w.listeners) answers));
      made = λ d p none. absurd none;
      stay = drop_stay w number (find (is_listener number) w.listeners) answers;
      last = same_last w (case_of w (step.DropEar number) answers).world (step.DropEar number) (ap (λ (f : Frame). f.timers) (drop_keeps w number (find (is_listener number) w.listeners) answers));
    }
case_owns w (step.TimerAt deadline) answers =
    record {
      listeners = λ l among. Stood l among refl;
      timers = made_dated w (step.TimerAt deadline) (answer.Timer (w.timers_made + 1)) (Some deadline) None (λ n. refl) (refl, refl);
      made = λ d p makes. (refl, timer_made w (Some deadline) None d p makes.0 makes.1);
      stay = λ l among kept. (l, among, refl);
      last = λ t among kept. made_last w (step.TimerAt deadline) (new_timer_entry w (Some deadline) None) t among;
    }
case_owns w (step.TimerEvery deadline period) answers =
    record {
      listeners = λ l among. Stood l among refl;
      timers = made_dated w (step.TimerEvery deadline period) (answer.Timer (w.timers_made + 1)) (Some deadline) (Some period) (λ n. refl) (refl, refl);
      made = λ d p makes. (refl, timer_made w (Some deadline) (Some period) d p makes.0 makes.1);
      stay = λ l among kept. (l, among, refl);
      last = λ t among kept. made_last w (step.TimerEvery deadline period) (new_timer_entry w (Some deadline) (Some period)) t among;
    }
case_owns w step.TimerNever answers =
    record {
      listeners = λ l among. Stood l among refl;
      timers = made_dated w step.TimerNever (answer.Timer (w.timers_made + 1)) None None (λ n. refl) (refl, refl);
      made = λ d p makes. (refl, timer_made w None None d p makes.0 makes.1);
      stay = λ l among kept. (l, among, refl);
      last = λ t among kept. made_last w step.TimerNever (new_timer_entry w None None) t among;
    }
case_owns w (step.Tick number waker) answers =
    record {
      listeners = still w (case_of w (step.Tick number waker) answers).world (step.Tick number waker) (ap entries (tick_keeps w waker (find (is_timer number) w.timers) answers));
      timers = tick_dated w number waker (find (is_timer number) w.timers) answers refl;
      made = λ d p none. absurd none;
      stay = still_stay w (case_of w (step.Tick number waker) answers).world (step.Tick number waker) (ap entries (tick_keeps w waker (find (is_timer number) w.timers) answers));
      last = tick_last w (step.Tick number waker) waker (find (is_timer number) w.timers) answers;
    }
case_owns w (step.SetAt number deadline) answers =
    record {
      listeners = still w (case_of w (step.SetAt number deadline) answers).world (step.SetAt number deadline) (ap entries (set_keeps w deadline None (find (is_timer number) w.timers) answers));
      timers = set_at_dated w number deadline (find (is_timer number) w.timers) answers refl;
      made = λ d p none. absurd none;
      stay = still_stay w (case_of w (step.SetAt number deadline) answers).world (step.SetAt number deadline) (ap entries (set_keeps w deadline None (find (is_timer number) w.timers) answers));
      last = set_last w (step.SetAt number deadline) deadline None (find (is_timer number) w.timers) answers;
    }
case_owns w (step.SetEvery number deadline period) answers =
    record {
      listeners = still w (case_of w (step.SetEvery number deadline period) answers).world (step.SetEvery number deadline period) (ap entries (set_keeps w deadline (Some period) (find (is_timer number) w.timers) answers));
      timers = set_every_dated w number deadline period (find (is_timer number) w.timers) answers refl;
      made = λ d p none. absurd none;
      stay = still_stay w (case_of w (step.SetEvery number deadline period) answers).world (step.SetEvery number deadline period) (ap entries (set_keeps w deadline (Some period) (find (is_timer number) w.timers) answers));
      last = set_last w (step.SetEvery number deadline period) deadline (Some period) (find (is_timer number) w.timers) answers;
    }
case_owns w (step.End number) answers =
    record {
      listeners = still w (case_of w (step.End number) answers).world (step.End number) (ap entries (end_keeps w (find (is_timer number) w.timers) answers));
      timers = end_dated w number (find (is_timer number) w.timers) answers (end_timer w (find (is_timer number) w.timers) answers).answer;
      made = λ d p none. absurd none;
      stay = still_stay w (case_of w (step.End number) answers).world (step.End number) (ap entries (end_keeps w (find (is_timer number) w.timers) answers));
      last = end_last w number (find (is_timer number) w.timers) answers refl;
    }
case_owns w s answers =
    let same = case_keeps w s answers in
    unowned w s (case_of w s answers) (ap entries same) (ap (λ (f : Frame). f.timers) same) (λ n. refl) (λ d p none. absurd none)

pub keeps_its_own : (w : World) (s : Step) (answers : List PollerAnswer) → KeepsItsOwn w s (step_result w s answers).answer (step_result w s answers).world
unfolding step_result
keeps_its_own w s answers =
    let c = case_owns w s answers in record { listeners = c.listeners; timers = c.timers; made = c.made; keeps = timers_keep w s answers; listeners_stand = c.stay; timers_stand = c.last; goes = what_is_given_up_goes w s answers }
