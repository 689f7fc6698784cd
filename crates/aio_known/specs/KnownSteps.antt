-- What each step gives from what is known, and what is known behind it.
use Rattle.std.specs.Prelude.{◌≡◌, ℕ, zero, suc, ◌+◌, ◌-◌, ◌==◌, nat_le, nat_lt, Bool, true, false, not, ◌||◌, if◌then◌else◌, List, [], ◌∷◌, ◌++◌, map, filter, filter_map, find, length, max, Option, None, Some, is_some, option_to_list, unwrap_or}
use Rattle.std.specs.List.{list_all}
use Rattle.std.specs.Option.{option_map_or}
use Rattle.aio_base.specs.declared.names.Dir.{Dir}
use Rattle.aio_base.specs.declared.names.Event.{Event}
use Rattle.aio_base.specs.declared.names.Waker.{Waker}
use Rattle.aio_base.specs.declared.outcomes.EndWord.TheVariants.{Clean, FaultWait, FaultArm}
use Rattle.aio_base.specs.declared.steps.Answer.{Answer}
use Rattle.aio_base.specs.declared.steps.Answer.TheVariants as answer
use Rattle.aio_base.specs.declared.steps.Step.{Step}
use Rattle.aio_base.specs.declared.steps.Step.TheVariants as step
use Rattle.aio_base.specs.Machine.{Outcome, fails, first_fault, is_timer, makes_second_pass, source_limit, state_of, tick_answer}
use Rattle.aio_base.specs.Timers.{after_pass, due_wakers, limit_of}
use Rattle.aio_base.specs.TimerWork.{TimerState, joining, reset_work, tick_work}
use Rattle.aio_base.specs.World.{PollerAnswer, Succeeds, Gives, IsInterrupted, Fails, Registration, TimerEntry, directions, directions_of, is_empty_list, is_waker, same_dir}
use Rattle.aio_known.specs.Known.{DirectionKnown, Known, ListenerKnown, PolledKnown, RoundKnown, SourceKnown, TimersKnown, known_of}

-- what a step gives: its answer, its wakes, and what is known behind it
pub record KnownOutcome : Type 0 where
  pub answer : Answer
  pub wakes : List Waker
  pub known : Known

abbrev pub quiet : Answer → Known → KnownOutcome
quiet told k = record { answer = told; wakes = []; known = k }

-- what the machine gives is what follows from what was known
pub record Follows (o : Outcome) (k : KnownOutcome) : Type 0 where
  pub answer_is : o.answer ≡ k.answer
  pub wakes_are : o.wakes ≡ k.wakes
  pub known_is : known_of o.world ≡ k.known

-- ## Parts

abbrev pub with_direction : SourceKnown → Dir → DirectionKnown → SourceKnown
with_direction s dir d = record s { at = λ e. if same_dir e dir then d else s.at e }

abbrev pub with_source : Known → ℕ → SourceKnown → Known
with_source k key s = record k { sources = λ n. if n == key then Some s else k.sources n }

abbrev pub with_listener : Known → ℕ → Option ListenerKnown → Known
with_listener k number l = record k { listeners = λ n. if n == number then l else k.listeners n }

-- whether a round later than this count has handled an event
abbrev pub is_later : Option ℕ → ℕ → Bool
is_later since tick = option_map_or (λ since. nat_lt since tick) since false

abbrev pub waiters : DirectionKnown → List Waker
waiters d = option_to_list d.waiter ++ filter_map (λ (p : PolledKnown). p.waker) d.polled

abbrev pub is_idle : DirectionKnown → Bool
is_idle d = is_empty_list (waiters d)

-- a poll that stays pending, and arms where it has to
abbrev pub pending : Bool → Known → ℕ → SourceKnown → List Waker → PollerAnswer → KnownOutcome
pending false k key s wakes told = record { answer = answer.Pending; wakes = wakes; known = with_source k key s }
pending true k key s wakes told = record {
  answer = if fails told then answer.FaultArm else answer.Pending;
  wakes = wakes;
  known = with_source k key (record s { broken = fails told });
}

-- ## Sources

-- the least key from this one on that no source has, where one of so many more is free
abbrev pub free_from : ℕ → (ℕ → Option SourceKnown) → ℕ → ℕ
free_from zero sources key = key
free_from (suc more) sources key = if is_some (sources key) then free_from more sources (key + 1) else key

abbrev pub new_direction : DirectionKnown
new_direction = record { waiter = None; since = None; tick = 0; polled = [] }

abbrev pub new_source : SourceKnown
new_source = record { broken = false; listeners = 0; at = λ dir. new_direction }

abbrev pub add_known : Known → PollerAnswer → KnownOutcome
add_known k told =
    let key = free_from k.count k.sources 0 in
    if nat_le source_limit k.count then quiet answer.Full k
    else (if fails told then quiet answer.FaultAdd k
    else quiet (answer.KeyIs (record { 0 = key })) (record (with_source k key new_source) { count = k.count + 1 }))

abbrev pub del_at : Known → ℕ → Option SourceKnown → PollerAnswer → KnownOutcome
del_at k key None told = quiet answer.NoSource k
del_at k key (Some s) told =
    if s.listeners == 0
    then quiet (if fails told then answer.FaultRemove else answer.Gone)
    (record k { sources = λ n. if n == key then None else k.sources n; count = k.count - 1 })
    else quiet answer.InUse k

abbrev pub stored : DirectionKnown → Waker → ℕ → DirectionKnown
stored d waker rounds = record d { waiter = Some waker; since = Some rounds }

abbrev pub poll_at : Known → ℕ → Dir → Waker → Option SourceKnown → PollerAnswer → KnownOutcome
poll_at k key dir waker None told = quiet answer.NoSource k
poll_at k key dir waker (Some s) told =
    let d = s.at dir in
    if is_later d.since d.tick then quiet answer.Ready (with_source k key (with_direction s dir (record d { since = None })))
    else (if is_waker waker d.waiter then pending s.broken k key s [] told
    else pending (is_idle d || s.broken) k key (with_direction s dir (stored d waker k.rounds)) (option_to_list d.waiter) told)

-- ## Listeners

abbrev pub new_at : Known → ℕ → Dir → Option SourceKnown → KnownOutcome
new_at k key dir None = quiet answer.NoSource k
new_at k key dir (Some s) =
    let number = k.drawn + 1 in
    quiet (answer.Listener number)
    (record (with_listener (with_source k key (record s { listeners = s.listeners + 1 })) number (Some (record { key = key; dir = dir; since = None }))) { drawn = number })

-- the listeners of a direction once one of them is polled: at its first poll it joins at the end
abbrev pub polled_by : List PolledKnown → ℕ → Waker → Option ℕ → ℕ → List PolledKnown
polled_by ps number waker None rounds = ps ++ record { number = number; since = rounds; waker = Some waker } ∷ []
polled_by ps number waker (Some since) rounds = map (λ (p : PolledKnown). if p.number == number then record p { waker = Some waker } else p) ps

abbrev pub step_source : Known → ℕ → Waker → ListenerKnown → SourceKnown → PollerAnswer → KnownOutcome
step_source k number waker l s told =
    let d = s.at l.dir in
    if is_later l.since d.tick then quiet answer.Ready k
    else pending (is_idle d || s.broken)
    (with_listener k number (Some (record l { since = Some (unwrap_or l.since k.rounds) })))
    l.key (with_direction s l.dir (record d { polled = polled_by d.polled number waker l.since k.rounds })) [] told

-- a listener stands for a live source
abbrev pub step_by : Known → ℕ → Waker → ListenerKnown → Option SourceKnown → PollerAnswer → KnownOutcome
step_by k number waker l None told = quiet answer.NoListener k
step_by k number waker l (Some s) told = step_source k number waker l s told

abbrev pub step_at : Known → ℕ → Waker → Option ListenerKnown → PollerAnswer → KnownOutcome
step_at k number waker None told = quiet answer.NoListener k
step_at k number waker (Some l) told = step_by k number waker l (k.sources l.key) told

abbrev pub without_polled : List PolledKnown → ℕ → List PolledKnown
without_polled ps number = filter (λ (p : PolledKnown). not (p.number == number)) ps

abbrev pub drop_by : Known → ℕ → ListenerKnown → Option SourceKnown → KnownOutcome
drop_by k number l None = quiet answer.NoListener k
drop_by k number l (Some s) =
    let d = s.at l.dir in
    quiet answer.Dropped
    (with_listener (with_source k l.key
    (record (with_direction s l.dir (record d { polled = without_polled d.polled number })) { listeners = s.listeners - 1 })) number None)

abbrev pub drop_at : Known → ℕ → Option ListenerKnown → KnownOutcome
drop_at k number None = quiet answer.NoListener k
drop_at k number (Some l) = drop_by k number l (k.sources l.key)

-- ## Timers

abbrev pub with_timers : Known → TimersKnown → Known
with_timers k t = record k { timers = t }

abbrev pub timer_made : Known → Option ℕ → Option ℕ → KnownOutcome
timer_made k deadline period =
    let number = k.timers.made + 1 in
    quiet (answer.Timer number) (with_timers k (record k.timers {
      entries = k.timers.entries ++ record { number = number; deadline = deadline; period = period; id = None; kept = None } ∷ [];
      made = number;
    }))

abbrev pub with_entry : TimersKnown → TimerEntry → TimersKnown
with_entry t entry = record t { entries = map (λ e. if is_timer entry.number e then entry else e) t.entries }

abbrev pub unregistered : TimersKnown → Option ℕ → TimersKnown
unregistered t None = t
unregistered t (Some id) = record t { registrations = filter (λ (r : Registration). not (r.id == id)) t.registrations }

-- registered under the next id, where a deadline and a waker are wanted
abbrev pub registered : TimersKnown → TimerEntry → Option (ℕ × Waker) → TimersKnown
registered t entry None = with_entry t entry
registered t entry (Some wanted) =
    let id = t.drawn + 1 in
    with_entry (record t { drawn = id; registrations = t.registrations ++ record { id = id; deadline = wanted.0; waker = wanted.1 } ∷ [] })
    (record entry { deadline = Some wanted.0; id = Some id; kept = Some wanted.1 })

abbrev pub worked : TimersKnown → TimerEntry → Option TimerState → TimersKnown
worked t entry None = t
worked t entry (Some timer) =
    registered (unregistered t entry.id) (record entry { deadline = timer.deadline; period = timer.period; id = None; kept = timer.kept }) (joining timer)

abbrev pub tick_at : Known → Waker → Option TimerEntry → KnownOutcome
tick_at k waker None = quiet answer.NoTimer k
tick_at k waker (Some entry) =
    let work = tick_work (is_some entry.id) (state_of entry) k.now waker in
    quiet (tick_answer work.reached) (with_timers k (worked k.timers entry work.becomes))

abbrev pub set_at : Known → ℕ → Option ℕ → Option TimerEntry → KnownOutcome
set_at k deadline period None = quiet answer.NoTimer k
set_at k deadline period (Some entry) = quiet answer.Set (with_timers k (worked k.timers entry (reset_work (state_of entry) deadline period).becomes))

abbrev pub end_at : Known → Option TimerEntry → KnownOutcome
end_at k None = quiet answer.NoTimer k
end_at k (Some entry) =
    let gone = unregistered k.timers entry.id in
    quiet answer.Ended (with_timers k (record gone { entries = filter (λ e. not (is_timer entry.number e)) gone.entries }))

abbrev pub now_known : Known → ℕ → KnownOutcome
now_known k moment = if nat_lt moment k.now then quiet (answer.Back k.now) k else quiet (answer.At moment) (record k { now = moment })

-- ## Rounds

abbrev pub begin_known : Known → Option ℕ → KnownOutcome
begin_known k given =
    if is_some k.round then quiet answer.Locked k
    else (let number = k.rounds + 1 in
    let limit = limit_of k.now k.timers.registrations given in
    quiet (answer.Begin number limit) (record k {
      timers = record k.timers { registrations = after_pass k.now k.timers.registrations };
      rounds = number;
      round = Some (record {
        number = number;
        limit = limit;
        in_hand = [];
        taken = due_wakers k.now k.timers.registrations;
        last_wait = None;
        fault = Clean;
      });
    }))

abbrev pub with_round : Known → RoundKnown → Known
with_round k r = record k { round = Some r }

abbrev pub wait_told : Known → RoundKnown → PollerAnswer → KnownOutcome
wait_told k r Fails = quiet answer.FaultWait (with_round k (record r { last_wait = Some Fails; fault = first_fault r.fault FaultWait }))
wait_told k r IsInterrupted = quiet answer.Interrupted (with_round k (record r { last_wait = Some IsInterrupted }))
wait_told k r Succeeds = quiet (answer.Given 0) (with_round k (record r { last_wait = Some (Gives []) }))
wait_told k r (Gives events) = quiet (answer.Given (length events)) (with_round k (record r { last_wait = Some (Gives events); in_hand = events }))

abbrev pub wait_at : Known → Option RoundKnown → PollerAnswer → KnownOutcome
wait_at k None told = quiet answer.NoRound k
wait_at k (Some r) told = if is_empty_list r.in_hand then wait_told k r told else quiet (answer.Events (length r.in_hand)) k

-- the waiters of a direction are taken by a round with this number
abbrev pub heard : ℕ → DirectionKnown → DirectionKnown
heard number d = record d { waiter = None; tick = max d.tick number; polled = map (λ (p : PolledKnown). record p { waker = None }) d.polled }

-- those of these directions, one after the other
abbrev pub heard_all : ℕ → SourceKnown → List Dir → SourceKnown
heard_all number s [] = s
heard_all number s (dir ∷ dirs) = heard_all number (with_direction s dir (heard number (s.at dir))) dirs

abbrev pub taken_all : ℕ → SourceKnown → List Dir → List Waker
taken_all number s [] = []
taken_all number s (dir ∷ dirs) = waiters (s.at dir) ++ taken_all number (with_direction s dir (heard number (s.at dir))) dirs

-- whether nobody waits for a source
abbrev pub is_free : SourceKnown → Bool
is_free s = list_all (λ dir. is_idle (s.at dir)) directions

abbrev pub rearmed : Known → RoundKnown → Event → SourceKnown → PollerAnswer → KnownOutcome
rearmed k r event s told =
    if is_free s then quiet (answer.Handled event.key false) (with_round (with_source k event.key.0 s) r)
    else quiet (answer.Handled event.key (fails told))
    (with_round (with_source k event.key.0 (record s { broken = fails told })) (record r { fault = if fails told then first_fault r.fault FaultArm else r.fault }))

abbrev pub handle_source : Known → RoundKnown → Event → Option SourceKnown → PollerAnswer → KnownOutcome
handle_source k r event None told = quiet (answer.Handled event.key false) (with_round k r)
handle_source k r event (Some s) told =
    let dirs = directions_of event.on in
    rearmed k (record r { taken = r.taken ++ taken_all r.number s dirs }) event (heard_all r.number s dirs) told

abbrev pub handle_first : Known → RoundKnown → List Event → PollerAnswer → KnownOutcome
handle_first k r [] told = quiet answer.Empty k
handle_first k r (event ∷ events) told = handle_source k (record r { in_hand = events }) event (k.sources event.key.0) told

abbrev pub handle_at : Known → Option RoundKnown → PollerAnswer → KnownOutcome
handle_at k None told = quiet answer.NoRound k
handle_at k (Some r) told = handle_first k r r.in_hand told

abbrev pub finish_at : Known → Option RoundKnown → KnownOutcome
finish_at k None = quiet answer.NoRound k
finish_at k (Some r) =
    let second = makes_second_pass r.last_wait r.limit in
    let registrations = k.timers.registrations in
    if is_empty_list r.in_hand then record {
      answer = answer.End r.fault;
      wakes = if second then r.taken ++ due_wakers k.now registrations else r.taken;
      known = record k { round = None; timers = record k.timers { registrations = if second then after_pass k.now registrations else registrations } };
    }
    else quiet (answer.Events (length r.in_hand)) k

-- ## A step

-- Each step but a whole round, whose sections are steps of their own.
abbrev pub known_step : Known → Step → PollerAnswer → KnownOutcome
known_step k step.Add told = add_known k told
known_step k (step.Del key) told = del_at k key.0 (k.sources key.0) told
known_step k (step.Poll key dir waker) told = poll_at k key.0 dir waker (k.sources key.0) told
known_step k (step.New key dir) told = new_at k key.0 dir (k.sources key.0)
known_step k (step.StepEar number waker) told = step_at k number waker (k.listeners number) told
known_step k (step.DropEar number) told = drop_at k number (k.listeners number)
known_step k (step.TimerAt deadline) told = timer_made k (Some deadline) None
known_step k (step.TimerEvery deadline period) told = timer_made k (Some deadline) (Some period)
known_step k step.TimerNever told = timer_made k None None
known_step k (step.Tick number waker) told = tick_at k waker (find (is_timer number) k.timers.entries)
known_step k (step.SetAt number deadline) told = set_at k deadline None (find (is_timer number) k.timers.entries)
known_step k (step.SetEvery number deadline period) told = set_at k deadline (Some period) (find (is_timer number) k.timers.entries)
known_step k (step.End number) told = end_at k (find (is_timer number) k.timers.entries)
known_step k (step.Now moment) told = now_known k moment
known_step k (step.Note event) told = quiet answer.Noted k
known_step k (step.Fault kind) told = quiet answer.Noted k
known_step k step.Interrupt told = quiet answer.Noted k
known_step k (step.Begin limit) told = begin_known k limit
known_step k step.Wait told = wait_at k k.round told
known_step k step.Handle told = handle_at k k.round told
known_step k step.Finish told = finish_at k k.round
known_step k step.React told = quiet answer.Locked k
