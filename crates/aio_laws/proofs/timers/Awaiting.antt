-- A timer that waits is registered, or a pass took its registration, after each step and so after every run.
use Rattle.std.proofs.Common.{◌≡◌, ◌≢◌, ℕ, ◌+◌, ◌<◌, ◌≤◌, Bool, true, false, not, cond, ◌&&◌, ◌==◌, List, [], ◌∷◌, ◌++◌, map, find, Option, None, Some, is_some, refl, ap, ◌∙◌, sym, subst, ⊎_elim, arith, ◌⊎◌, inl, inr}
use Rattle.std.specs.Prelude.{nat_lt, nat_le}
use Rattle.std.specs.List.{Contains, filter}
use Rattle.std.proofs.lemmas.Bool.{cases_Bool, cond-true, cond-false, eq-eqb, ne_eqb, not_from_false, leb-true, ltb-false}
use Rattle.std.proofs.lemmas.List.Elements.{Contains-append_left, Contains-push, Contains-push_cases}
use Rattle.aio_base.specs.declared.names.Waker.{Waker}
use Rattle.aio_base.specs.declared.steps.Step.{Step}
use Rattle.aio_base.specs.declared.steps.Step.TheVariants as step
use Rattle.aio_base.specs.World.{PollerAnswer, Registration, TimerEntry, RoundState, World, opening, serial_of, is_empty_list}
use Rattle.aio_base.specs.Machine.{Outcome, add, del_source, poll_source, new_listener, step_listener, drop_listener, is_timer, is_listener, is_waker, new_timer, with_timer, unregistered, registered, next_deadline, tick_timer, set_timer, end_timer, begin_round, wait_in, handle_in, finish_in, makes_second_pass, react, case_of, step_result}
use Rattle.aio_base.proofs.TimerCases.{fired, tick_deadline, tick_by_deadline, set_deadline, set_by_kept}
use Rattle.aio_laws.specs.Registered.{IsRegistered, TimersAreRegistered}
use Rattle.aio_base.specs.Runs.{PolledStep, outcome_of, world_of}
use Rattle.aio_base.specs.Timers.{after_pass}
use Rattle.aio_base.proofs.Membership.{none_is_in, each_in, filtered_is_in, filtered_passes, passing_is_kept, mapped_from, found_is_in}
use Rattle.aio_laws.proofs.timers.PassLemmas.{Timed, timed, Keeps, wait_keeps, handle_keeps}
use Rattle.aio_laws.proofs.timers.Registering.{add_keeps, del_keeps, poll_keeps, new_keeps, step_keeps, drop_keeps}
use Rattle.aio_laws.proofs.runs.Singles.{none_is_some, same_id}
use Rattle.aio_laws.proofs.steps.Frames.{either, either_world, react_any}

-- the timers wait for these registrations
record Awaits (t : Timed) : Type 0 where
  together : (x : TimerEntry) → Contains t.timers x → is_some x.id ≡ is_some x.kept
  registered : (x : TimerEntry) → Contains t.timers x → (id : ℕ) → x.id ≡ Some id → IsRegistered t.now t.registrations x id
  drawn : (x : TimerEntry) → Contains t.timers x → (id : ℕ) → x.id ≡ Some id → id ≤ t.ids
  one : (a b : TimerEntry) → Contains t.timers a → Contains t.timers b → (id : ℕ) → a.id ≡ Some id → b.id ≡ Some id → a.number ≡ b.number

-- what a step, or a section of a round, leaves
abbrev Leaves : Outcome → Type 0
Leaves o = Awaits (timed o.world)

stays : (w : World) (o : Outcome) → Keeps (timed w) o → Awaits (timed w) → Leaves o
stays w o keeps a = subst Awaits (sym keeps) a

-- ## The clock and passes

still_registered : (now later : ℕ) (before after : List Registration) (t : TimerEntry) (id : ℕ) → now ≤ later
    → ((r : Registration) → r.id ≡ id → Contains before r → Contains after r ⊎ (r.deadline ≤ later))
    → IsRegistered now before t id → IsRegistered later after t id
still_registered now later before after t id on stand is = record {
  deadline = is.deadline;
  waker = is.waker;
  waits = is.waits;
  keeps = is.keeps;
  stands = ⊎_elim
      (λ (stood : Contains before (record { id = id; deadline = is.deadline; waker = is.waker })). stand _ refl stood)
      (λ (due : is.deadline ≤ now). inr (omega arith))
      is.stands;
}

clock_awaits : (t : Timed) (moment : ℕ) → t.now ≤ moment → Awaits t → Awaits (record t { now = moment })
clock_awaits t moment on a = record {
  together = a.together;
  registered = λ x among id keeps. still_registered t.now moment t.registrations t.registrations x id on (λ r is stood. inl stood) (a.registered x among id keeps);
  drawn = a.drawn;
  one = a.one;
}

left_or_due : (now : ℕ) (registrations : List Registration) (r : Registration) → Contains registrations r
    → Contains (after_pass now registrations) r ⊎ (r.deadline ≤ now)
left_or_due now registrations r among =
    ⊎_elim
    (λ (due : nat_le r.deadline now ≡ true). inr (leb-true r.deadline now due))
    (λ (later : nat_le r.deadline now ≡ false). inl (passing_is_kept (λ (x : Registration). not (nat_le x.deadline now)) registrations r (ap not later) among))
    (cases_Bool (nat_le r.deadline now))

passed_awaits : (t : Timed) → Awaits t → Awaits (record t { registrations = after_pass t.now t.registrations })
passed_awaits t a = record {
  together = a.together;
  registered = λ x among id keeps.
      still_registered t.now t.now t.registrations (after_pass t.now t.registrations) x id (omega arith) (λ r is stood. left_or_due t.now t.registrations r stood)
      (a.registered x among id keeps);
  drawn = a.drawn;
  one = a.one;
}

-- ## A timer is made, changed or ended

made_awaits : (t : Timed) (new : TimerEntry) → new.id ≡ None → new.kept ≡ None → Awaits t → Awaits (record t { timers = t.timers ++ new ∷ [] })
made_awaits t new no_id no_waker a =
    let id_of : (x : TimerEntry) → new ≡ x → x.id ≡ None = λ x is. ap (λ (t : TimerEntry). t.id) (sym is) ∙ no_id in
    record {
      together = λ x among.
          ⊎_elim
          (λ (old : Contains t.timers x). a.together x old)
          (λ (is : new ≡ x). ap is_some (id_of x is) ∙ sym (ap is_some (ap (λ (t : TimerEntry). t.kept) (sym is) ∙ no_waker)))
          (Contains-push_cases t.timers new x among);
      registered = λ x among id keeps.
          ⊎_elim
          (λ (old : Contains t.timers x). a.registered x old id keeps)
          (λ (is : new ≡ x). none_is_some x.id id (id_of x is) keeps)
          (Contains-push_cases t.timers new x among);
      drawn = λ x among id keeps.
          ⊎_elim
          (λ (old : Contains t.timers x). a.drawn x old id keeps)
          (λ (is : new ≡ x). none_is_some x.id id (id_of x is) keeps)
          (Contains-push_cases t.timers new x among);
      one = λ x y first second id keeps also.
          ⊎_elim
          (λ (old : Contains t.timers x).
          ⊎_elim
          (λ (too : Contains t.timers y). a.one x y old too id keeps also)
          (λ (is : new ≡ y). none_is_some y.id id (id_of y is) also)
          (Contains-push_cases t.timers new y second))
          (λ (is : new ≡ x). none_is_some x.id id (id_of x is) keeps)
          (Contains-push_cases t.timers new x first);
    }

-- a timer that is to be changed has no registration any longer, and the others have theirs
record Released (t : Timed) (entry : TimerEntry) : Type 0 where
  together : (x : TimerEntry) → Contains t.timers x → is_some x.id ≡ is_some x.kept
  others : (x : TimerEntry) → Contains t.timers x → x.number ≢ entry.number → (id : ℕ) → x.id ≡ Some id → IsRegistered t.now t.registrations x id
  drawn : (x : TimerEntry) → Contains t.timers x → (id : ℕ) → x.id ≡ Some id → id ≤ t.ids
  one : (a b : TimerEntry) → Contains t.timers a → Contains t.timers b → (id : ℕ) → a.id ≡ Some id → b.id ≡ Some id → a.number ≡ b.number

released : (w : World) (entry : TimerEntry) (id : Option ℕ) → entry.id ≡ id → Contains w.timers entry → Awaits (timed w)
    → Released (timed (unregistered w id)) entry
released w entry None at here a =
    record { together = a.together; others = λ x among other id keeps. a.registered x among id keeps; drawn = a.drawn; one = a.one }
released w entry (Some gone) at here a =
    let p : Registration → Bool = λ r. not (r.id == gone) in
    record {
      together = a.together;
      others = λ x among other id keeps.
          still_registered w.now w.now w.registrations (filter p w.registrations) x id (omega arith)
          (λ r is stood.
          inl (passing_is_kept p w.registrations r
          (not_from_false (r.id == gone) (ne_eqb r.id gone (λ same. other (a.one x entry among here gone (keeps ∙ ap Some (sym is ∙ same)) at)))) stood))
          (a.registered x among id keeps);
      drawn = a.drawn;
      one = a.one;
    }

-- a timer in the list with another entry in one's place is that entry, or has another number and was there
in_place_cases : (timers : List TimerEntry) (new x : TimerEntry) → Contains (map (λ t. cond (is_timer new.number t) new t) timers) x
    → (new ≡ x) ⊎ (Contains timers x × (x.number ≢ new.number))
in_place_cases timers new x among =
    let from = mapped_from (λ t. cond (is_timer new.number t) new t) timers x among in
    ⊎_elim
    (λ (here : is_timer new.number from.0 ≡ true). inl (sym (cond-true (is_timer new.number from.0) new from.0 here) ∙ from.2))
    (λ (other : is_timer new.number from.0 ≡ false).
    let is : from.0 ≡ x = sym (cond-false (is_timer new.number from.0) new from.0 other) ∙ from.2 in
    inr (subst (λ y. Contains timers y × (y.number ≢ new.number)) is
    (from.1, λ same. let yes = eq-eqb from.0.number new.number same in cc)))
    (cases_Bool (is_timer new.number from.0))

-- what an entry in the place of one has to keep
record Fits (t : Timed) (ids : ℕ) (new : TimerEntry) : Type 0 where
  together : is_some new.id ≡ is_some new.kept
  registered : (id : ℕ) → new.id ≡ Some id → IsRegistered t.now t.registrations new id
  above : (id : ℕ) → new.id ≡ Some id → ids < id
  drawn : (id : ℕ) → new.id ≡ Some id → id ≤ t.ids

changed_awaits : (t : Timed) (entry new : TimerEntry) (ids : ℕ) (registrations : List Registration) → Released t entry → new.number ≡ entry.number
    → t.ids ≤ ids → ((r : Registration) → Contains t.registrations r → Contains registrations r)
    → Fits (record t { ids = ids; registrations = registrations }) t.ids new
    → Awaits (record t { ids = ids; registrations = registrations; timers = map (λ x. cond (is_timer new.number x) new x) t.timers })
changed_awaits t entry new ids registrations f same rise stand fits =
    let now : (x : TimerEntry) (id : ℕ) → new ≡ x → x.id ≡ Some id → new.id ≡ Some id = λ x id is keeps. ap (λ (t : TimerEntry). t.id) is ∙ keeps in
    record {
      together = λ x among.
          ⊎_elim
          (λ (is : new ≡ x). subst (λ (y : TimerEntry). is_some y.id ≡ is_some y.kept) is fits.together)
          (λ (old : Contains t.timers x × (x.number ≢ new.number)). f.together x old.0)
          (in_place_cases t.timers new x among);
      registered = λ x among id keeps.
          ⊎_elim
          (λ (is : new ≡ x). subst (λ (y : TimerEntry). IsRegistered t.now registrations y id) is (fits.registered id (now x id is keeps)))
          (λ (old : Contains t.timers x × (x.number ≢ new.number)).
          still_registered t.now t.now t.registrations registrations x id (omega arith) (λ r is stood. inl (stand r stood))
          (f.others x old.0 (λ e. old.1 (e ∙ sym same)) id keeps))
          (in_place_cases t.timers new x among);
      drawn = λ x among id keeps.
          ⊎_elim
          (λ (is : new ≡ x). fits.drawn id (now x id is keeps))
          (λ (old : Contains t.timers x × (x.number ≢ new.number)). let before : id ≤ t.ids = f.drawn x old.0 id keeps in omega arith)
          (in_place_cases t.timers new x among);
      one = λ a b first second id keeps also.
          ⊎_elim
          (λ (is : new ≡ a).
          ⊎_elim
          (λ (too : new ≡ b). ap (λ (t : TimerEntry). t.number) (sym is ∙ too))
          (λ (old : Contains t.timers b × (b.number ≢ new.number)).
          let above : t.ids < id = fits.above id (now a id is keeps) in let before : id ≤ t.ids = f.drawn b old.0 id also in absurd (omega arith))
          (in_place_cases t.timers new b second))
          (λ (old : Contains t.timers a × (a.number ≢ new.number)).
          ⊎_elim
          (λ (is : new ≡ b).
          let above : t.ids < id = fits.above id (now b id is also) in let before : id ≤ t.ids = f.drawn a old.0 id keeps in absurd (omega arith))
          (λ (too : Contains t.timers b × (b.number ≢ new.number)). f.one a b old.0 too.0 id keeps also)
          (in_place_cases t.timers new b second))
          (in_place_cases t.timers new a first);
    }

-- with neither an id nor a waker
quiet_awaits : (w : World) (entry new : TimerEntry) → Released (timed w) entry → new.number ≡ entry.number → new.id ≡ None → new.kept ≡ None
    → Awaits (timed (with_timer w new))
quiet_awaits w entry new f same no_id no_waker =
    changed_awaits (timed w) entry new w.ids_drawn w.registrations f same (omega arith) (λ r stood. stood)
    (record {
      together = ap is_some no_id ∙ sym (ap is_some no_waker);
      registered = λ id keeps. none_is_some new.id id no_id keeps;
      above = λ id keeps. none_is_some new.id id no_id keeps;
      drawn = λ id keeps. none_is_some new.id id no_id keeps;
    })

registered_awaits : (w : World) (entry set : TimerEntry) (deadline : ℕ) (waker : Waker) → Released (timed w) entry → set.number ≡ entry.number
    → Awaits (timed (registered w set deadline waker))
registered_awaits w entry set deadline waker f same =
    let new : Registration = record { id = w.ids_drawn + 1; deadline = deadline; waker = waker } in
    let is : (id : ℕ) → Some (w.ids_drawn + 1) ≡ Some id → w.ids_drawn + 1 ≡ id = λ id keeps. sym (same_id (Some (w.ids_drawn + 1)) (w.ids_drawn + 1) id refl keeps) in
    changed_awaits (timed w) entry (record set { deadline = Some deadline; id = Some (w.ids_drawn + 1); kept = Some waker }) (w.ids_drawn + 1)
    (w.registrations ++ new ∷ []) f same (omega arith) (λ r stood. Contains-append_left w.registrations (new ∷ []) r stood)
    (record {
      together = refl;
      registered = λ id keeps.
          record {
            deadline = deadline;
            waker = waker;
            waits = refl;
            keeps = refl;
            stands = inl (subst (λ n. Contains (w.registrations ++ new ∷ []) (record { id = n; deadline = deadline; waker = waker })) (is id keeps)
                (Contains-push w.registrations new));
          };
      above = λ id keeps. let next = is id keeps in omega arith;
      drawn = λ id keeps. let next = is id keeps in omega arith;
    })

made_leaves : (w : World) (deadline period : Option ℕ) (answers : List PollerAnswer) → Awaits (timed w) → Leaves (new_timer w deadline period answers)
made_leaves w deadline period answers a =
    made_awaits (timed w) (record { number = w.timers_made + 1; deadline = deadline; period = period; id = None; kept = None }) refl refl a

fired_awaits : (w : World) (entry : TimerEntry) (waker : Waker) (next : Option ℕ) → Released (timed w) entry → Awaits (timed (fired w entry waker next))
fired_awaits w entry waker None f = quiet_awaits w entry (record entry { deadline = None; id = None; kept = None }) f refl refl refl
fired_awaits w entry waker (Some deadline) f = registered_awaits w entry entry deadline waker f refl

set_awaits : (w : World) (entry set : TimerEntry) (deadline : ℕ) (kept : Option Waker) → Released (timed w) entry → set.number ≡ entry.number
    → set.kept ≡ kept → Awaits (timed (set_deadline w set deadline kept))
set_awaits w entry set deadline None f same keeps = quiet_awaits w entry (record set { deadline = Some deadline; id = None }) f same refl keeps
set_awaits w entry set deadline (Some waker) f same keeps = registered_awaits w entry set deadline waker f same

tick_leaves_at : (w : World) (entry : TimerEntry) (waker : Waker) (deadline : Option ℕ) (answers : List PollerAnswer) → Contains w.timers entry
    → Awaits (timed w) → Leaves (tick_deadline w entry waker deadline answers)
tick_leaves_at w entry waker None answers here a = a
tick_leaves_at w entry waker (Some deadline) answers here a =
    let gone = released w entry entry.id refl here a in
    either Leaves (nat_le deadline w.now) _ _ (fired_awaits (unregistered w entry.id) entry waker (next_deadline deadline entry.period) gone)
    (either_world (λ v. Awaits (timed v)) (is_some entry.id && is_waker waker entry.kept) w _ a (registered_awaits (unregistered w entry.id) entry entry deadline waker gone refl))

tick_leaves : (w : World) (number : ℕ) (waker : Waker) (entry : Option TimerEntry) (answers : List PollerAnswer)
    → find (is_timer number) w.timers ≡ entry → Awaits (timed w) → Leaves (tick_timer w waker entry answers)
tick_leaves w number waker None answers found a = a
tick_leaves w number waker (Some entry) answers found a =
    subst Leaves (tick_by_deadline w waker entry answers)
    (tick_leaves_at w entry waker entry.deadline answers (found_is_in (is_timer number) w.timers entry found).0 a)

set_leaves_at : (w : World) (entry : TimerEntry) (period : Option ℕ) (deadline : ℕ) (longer : Bool) → Released (timed w) entry
    → Awaits (timed (set_deadline w (cond longer (record entry { period = period }) entry) deadline entry.kept))
set_leaves_at w entry period deadline true f = set_awaits w entry (record entry { period = period }) deadline entry.kept f refl refl
set_leaves_at w entry period deadline false f = set_awaits w entry entry deadline entry.kept f refl refl

set_leaves : (w : World) (number deadline : ℕ) (period : Option ℕ) (entry : Option TimerEntry) (answers : List PollerAnswer)
    → find (is_timer number) w.timers ≡ entry → Awaits (timed w) → Leaves (set_timer w deadline period entry answers)
set_leaves w number deadline period None answers found a = a
set_leaves w number deadline period (Some entry) answers found a =
    subst Leaves (set_by_kept w deadline period entry answers)
    (set_leaves_at (unregistered w entry.id) entry period deadline (is_some period)
    (released w entry entry.id refl (found_is_in (is_timer number) w.timers entry found).0 a))

ended_awaits : (t : Timed) (entry : TimerEntry) → Released t entry → Awaits (record t { timers = filter (λ x. not (is_timer entry.number x)) t.timers })
ended_awaits t entry f =
    let p : TimerEntry → Bool = λ x. not (is_timer entry.number x) in
    let stood : (x : TimerEntry) → Contains (filter p t.timers) x → Contains t.timers x = λ x among. filtered_is_in p t.timers x among in
    record {
      together = λ x among. f.together x (stood x among);
      registered = λ x among id keeps.
          f.others x (stood x among)
          (λ same. let here = eq-eqb x.number entry.number same in let kept = filtered_passes p t.timers x among in cc) id keeps;
      drawn = λ x among id keeps. f.drawn x (stood x among) id keeps;
      one = λ a b first second id keeps also. f.one a b (stood a first) (stood b second) id keeps also;
    }

end_leaves : (w : World) (number : ℕ) (entry : Option TimerEntry) (answers : List PollerAnswer) → find (is_timer number) w.timers ≡ entry
    → Awaits (timed w) → Leaves (end_timer w entry answers)
end_leaves w number None answers found a = a
end_leaves w number (Some entry) answers found a =
    ended_awaits (timed (unregistered w entry.id)) entry (released w entry entry.id refl (found_is_in (is_timer number) w.timers entry found).0 a)

clock_leaves_at : (w : World) (moment : ℕ) (back : Bool) (x y : Outcome) → nat_lt moment w.now ≡ back → timed x.world ≡ timed w
    → timed y.world ≡ record (timed w) { now = moment } → Awaits (timed w) → Leaves (cond back x y)
clock_leaves_at w moment true x y test first second a = subst Awaits (sym first) a
clock_leaves_at w moment false x y test first second a = subst Awaits (sym second) (clock_awaits (timed w) moment (ltb-false moment w.now test) a)

-- ## Rounds

begin_leaves : (w : World) (given : Option ℕ) (answers : List PollerAnswer) → Awaits (timed w) → Leaves (begin_round w given answers)
begin_leaves w given answers a = either Leaves (is_some w.round) _ _ a (passed_awaits (timed w) a)

finish_with : (w : World) (second : Bool) → Awaits (timed w)
    → Awaits (record (timed w) { registrations = cond second (after_pass w.now w.registrations) w.registrations })
finish_with w true a = passed_awaits (timed w) a
finish_with w false a = a

finish_leaves : (w : World) (round : Option RoundState) (answers : List PollerAnswer) → Awaits (timed w) → Leaves (finish_in w round answers)
finish_leaves w None answers a = a
finish_leaves w (Some round) answers a =
    either Leaves (is_empty_list round.in_hand) _ _ (finish_with w (makes_second_pass round.last_wait round.limit) a) a

react_leaves : (w : World) (given : Option ℕ) (answers : List PollerAnswer) → Awaits (timed w) → Leaves (react w given answers)
react_leaves w given answers a =
    react_any (λ v. Awaits (timed v)) w given answers a (begin_leaves w given answers a)
    (λ v answers a. stays v (wait_in v v.round answers) (wait_keeps v v.round answers) a)
    (λ v answers a. stays v (handle_in v v.round answers) (handle_keeps v v.round answers) a) (λ v answers a. finish_leaves v v.round answers a)

-- ## Steps and runs

case_leaves : (w : World) (s : Step) (answers : List PollerAnswer) → Awaits (timed w) → Leaves (case_of w s answers)
case_leaves w step.Add answers a = stays w (add w answers) (add_keeps w answers) a
case_leaves w (step.Del key) answers a = stays w (del_source w key.0 (serial_of w key.0) answers) (del_keeps w key.0 (serial_of w key.0) answers) a
case_leaves w (step.Poll key dir waker) answers a = stays w (poll_source w key.0 dir waker (serial_of w key.0) answers) (poll_keeps w key.0 dir waker (serial_of w key.0) answers) a
case_leaves w (step.New key dir) answers a = stays w (new_listener w dir (serial_of w key.0) answers) (new_keeps w dir (serial_of w key.0) answers) a
case_leaves w (step.StepEar number waker) answers a = stays w (step_listener w waker (find (is_listener number) w.listeners) answers) (step_keeps w waker (find (is_listener number) w.listeners) answers) a
case_leaves w (step.DropEar number) answers a = stays w (drop_listener w number (find (is_listener number) w.listeners) answers) (drop_keeps w number (find (is_listener number) w.listeners) answers) a
case_leaves w (step.TimerAt deadline) answers a = made_leaves w (Some deadline) None answers a
case_leaves w (step.TimerEvery deadline period) answers a = made_leaves w (Some deadline) (Some period) answers a
case_leaves w step.TimerNever answers a = made_leaves w None None answers a
case_leaves w (step.Tick number waker) answers a = tick_leaves w number waker (find (is_timer number) w.timers) answers refl a
case_leaves w (step.SetAt number deadline) answers a = set_leaves w number deadline None (find (is_timer number) w.timers) answers refl a
case_leaves w (step.SetEvery number deadline period) answers a = set_leaves w number deadline (Some period) (find (is_timer number) w.timers) answers refl a
case_leaves w (step.End number) answers a = end_leaves w number (find (is_timer number) w.timers) answers refl a
case_leaves w (step.Now moment) answers a = clock_leaves_at w moment (nat_lt moment w.now) _ _ refl refl refl a
case_leaves w (step.Begin limit) answers a = begin_leaves w limit answers a
case_leaves w step.Wait answers a = stays w (wait_in w w.round answers) (wait_keeps w w.round answers) a
case_leaves w step.Handle answers a = stays w (handle_in w w.round answers) (handle_keeps w w.round answers) a
case_leaves w step.Finish answers a = finish_leaves w w.round answers a
case_leaves w step.React answers a = react_leaves w None answers a
case_leaves w _ answers a = a

step_awaits : (w : World) (s : PolledStep) → Awaits (timed w) → Awaits (timed (outcome_of w s).world)
unfolding step_result
step_awaits w s a = case_leaves w s.step s.answers a

run_awaits : (run : List PolledStep) (w : World) → Awaits (timed w) → Awaits (timed (world_of w run))
run_awaits [] w a = a
run_awaits (s ∷ run) w a = run_awaits run (outcome_of w s).world (step_awaits w s a)

pub run_waits_for_timers : (run : List PolledStep) → TimersAreRegistered (world_of opening run)
run_waits_for_timers run =
    let w = world_of opening run in
    let a = run_awaits run opening (record {
      together = λ x among. none_is_in x among;
      registered = λ x among id keeps. none_is_in x among;
      drawn = λ x among id keeps. none_is_in x among;
      one = λ x y first second id keeps also. none_is_in x first;
    }) in
    record {
      together = each_in (λ (t : TimerEntry). is_some t.id ≡ is_some t.kept) w.timers a.together;
      registered = each_in (λ (t : TimerEntry). (id : ℕ) → t.id ≡ Some id → IsRegistered w.now w.registrations t id) w.timers a.registered;
      drawn = each_in (λ (t : TimerEntry). (id : ℕ) → t.id ≡ Some id → id ≤ w.ids_drawn) w.timers a.drawn;
      one = a.one;
    }
