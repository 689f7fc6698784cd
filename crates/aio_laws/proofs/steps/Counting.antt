-- A step lets no count fall and gives no number again.
use Rattle.std.proofs.Common.{◌≡◌, ℕ, ◌+◌, ◌<◌, ◌≤◌, Bool, true, false, not, cond, ◌&&◌, ◌||◌, ◌==◌, List, [], ◌∷◌, ◌++◌, length, map, find, Option, None, Some, is_some, refl, ap, ◌∙◌, sym, subst, ⊎_elim, arith, ◌⊎◌, inl, inr}
use Rattle.std.specs.Prelude.{nat_lt, nat_le, option_to_list, unwrap_or}
use Rattle.std.specs.List.{Contains, filter, list_any}
use Rattle.std.proofs.lemmas.Bool.{ltb-false}
use Rattle.std.proofs.lemmas.List.Elements.{Contains-push_cases}
use Rattle.aio_base.specs.declared.names.Key.{Key}
use Rattle.aio_base.specs.declared.names.Waker.{Waker}
use Rattle.aio_base.specs.declared.names.Dir.{Dir}
use Rattle.aio_base.specs.declared.names.Event.{Event}
use Rattle.aio_base.specs.declared.steps.Step.{Step}
use Rattle.aio_base.specs.declared.steps.Step.TheVariants as step
use Rattle.aio_base.specs.World.{PollerAnswer, LiveSource, ListenerEntry, Registration, TimerEntry, RoundState, World, directions_of, is_of, serial_of, key_of, poll_waiter, mark_of, is_empty_list, is_idle, is_broken, wanted}
use Rattle.aio_base.specs.Machine.{Outcome, fails, next_answer, broken_world, armed_world, after_arm, pending, source_limit, free_key, add, del_source, is_fresh_since, is_waker, with_waiter, poll_source, new_listener, is_listener, with_listening, step_listener, drop_listener, is_timer, new_timer, with_timer, unregistered, registered, tick_timer, set_timer, end_timer, set_clock, begin_round, wait_in, without_waiters, world_taken, rearmed, handle_source, handle_first, handle_in, finish_in, react, case_of, step_result, gave_none, is_zero, left_as, worked, state_of}
use Rattle.aio_base.specs.TimerWork.{TimerState, joining, reset_work}
use Rattle.aio_base.specs.Timers.{after_pass}
use Rattle.aio_laws.specs.Counts.{NoneAgain, CountsRise}
use Rattle.aio_base.proofs.Membership.{each_in, filtered_is_in, mapped_from, image_is_in, found_is_in}
use Rattle.aio_laws.proofs.runs.Singles.{number_stays}
use Rattle.aio_laws.proofs.steps.Frames.{either, either_world, react_any, wait_any}

-- ## Numbered lists

-- the count does not fall, and each number stood before or is above it
abbrev Follow : {X : Type 0} → (X → ℕ) → ℕ → List X → ℕ → List X → Type 0
Follow {X} number given before later after =
    (given ≤ later) × ((x : X) → Contains after x → Contains (map number before) (number x) ⊎ (given < number x))

stay : {X : Type 0} (number : X → ℕ) (given : ℕ) (xs : List X) → Follow number given xs given xs
stay number given xs = (omega arith, λ x among. inl (image_is_in number xs x among))

fewer : {X : Type 0} (number : X → ℕ) (p : X → Bool) (given : ℕ) (xs : List X) → Follow number given xs given (filter p xs)
fewer number p given xs = (omega arith, λ x among. inl (image_is_in number xs x (filtered_is_in p xs x among)))

changed : {X : Type 0} (number : X → ℕ) (f : X → X) (given : ℕ) (xs : List X) → ((x : X) → number (f x) ≡ number x)
    → Follow number given xs given (map f xs)
changed number f given xs same = (
  omega arith,
  λ x among.
      let from = mapped_from f xs x among in
      inl (subst (Contains (map number xs)) (sym (same from.0) ∙ ap number from.2) (image_is_in number xs from.0 from.1)),
)

one_more : {X : Type 0} (number : X → ℕ) (given : ℕ) (xs : List X) (new : X) → number new ≡ given + 1 → Follow number given xs (given + 1) (xs ++ new ∷ [])
one_more number given xs new next = (
  omega arith,
  λ x among.
      ⊎_elim
      (λ (old : Contains xs x). inl (image_is_in number xs x old))
      (λ (is : new ≡ x). inr (let same : number x ≡ given + 1 = ap number (sym is) ∙ next in omega arith))
      (Contains-push_cases xs new x among),
)

-- one that stood before, in place of some
moved : {X : Type 0} (number : X → ℕ) (p : X → Bool) (given : ℕ) (xs : List X) (old now : X) → Contains xs old → number now ≡ number old
    → Follow number given xs given (filter p xs ++ now ∷ [])
moved number p given xs old now here same = (
  omega arith,
  λ x among.
      ⊎_elim
      (λ (stood : Contains (filter p xs) x). inl (image_is_in number xs x (filtered_is_in p xs x stood)))
      (λ (is : now ≡ x). inl (subst (Contains (map number xs)) (sym same ∙ ap number is) (image_is_in number xs old here)))
      (Contains-push_cases (filter p xs) now x among),
)

-- one change after another
in_turn : {X : Type 0} (number : X → ℕ) (a b c : ℕ) (xs ys zs : List X) → Follow number a xs b ys → Follow number b ys c zs → Follow number a xs c zs
in_turn {X} number a b c xs ys zs first second = (
  let low : a ≤ b = first.0 in let high : b ≤ c = second.0 in omega arith,
  λ x among.
      ⊎_elim
      (λ (stood : Contains (map number ys) (number x)).
      let from = mapped_from number ys (number x) stood in
      subst (λ n. Contains (map number xs) n ⊎ (a < n)) from.2 (first.1 from.0 from.1))
      (λ (above : b < number x). inr (let low : a ≤ b = first.0 in omega arith))
      (second.1 x among),
)

-- ## Worlds

record Counted : Type 0 where
  pos : ℕ
  now : ℕ
  rounds : ℕ
  serials : ℕ
  live : List LiveSource
  drawn : ℕ
  listeners : List ListenerEntry
  ids : ℕ
  registrations : List Registration
  made : ℕ
  timers : List TimerEntry

abbrev counted : World → Counted
counted w = record {
  pos = w.pos;
  now = w.now;
  rounds = w.rounds;
  serials = w.serials;
  live = w.live;
  drawn = w.listeners_drawn;
  listeners = w.listeners;
  ids = w.ids_drawn;
  registrations = w.registrations;
  made = w.timers_made;
  timers = w.timers;
}

-- what a section of a step leaves
record Rise (a b : Counted) : Type 0 where
  pos : b.pos ≡ a.pos
  now : a.now ≤ b.now
  rounds : a.rounds ≤ b.rounds
  live : Follow (λ (s : LiveSource). s.serial) a.serials a.live b.serials b.live
  listeners : Follow (λ (l : ListenerEntry). l.number) a.drawn a.listeners b.drawn b.listeners
  registrations : Follow (λ (r : Registration). r.id) a.ids a.registrations b.ids b.registrations
  timers : Follow (λ (t : TimerEntry). t.number) a.made a.timers b.made b.timers

abbrev Rises : World → World → Type 0
Rises w v = Rise (counted w) (counted v)

same : (a : Counted) → Rise a a
same a = record {
  pos = refl;
  now = omega arith;
  rounds = omega arith;
  live = stay (λ (s : LiveSource). s.serial) a.serials a.live;
  listeners = stay (λ (l : ListenerEntry). l.number) a.drawn a.listeners;
  registrations = stay (λ (r : Registration). r.id) a.ids a.registrations;
  timers = stay (λ (t : TimerEntry). t.number) a.made a.timers;
}

after : (a b c : Counted) → Rise a b → Rise b c → Rise a c
after a b c first second = record {
  pos = second.pos ∙ first.pos;
  now = let low : a.now ≤ b.now = first.now in let high : b.now ≤ c.now = second.now in omega arith;
  rounds = let low : a.rounds ≤ b.rounds = first.rounds in let high : b.rounds ≤ c.rounds = second.rounds in omega arith;
  live = in_turn (λ (s : LiveSource). s.serial) a.serials b.serials c.serials a.live b.live c.live first.live second.live;
  listeners = in_turn (λ (l : ListenerEntry). l.number) a.drawn b.drawn c.drawn a.listeners b.listeners c.listeners first.listeners second.listeners;
  registrations = in_turn (λ (r : Registration). r.id) a.ids b.ids c.ids a.registrations b.registrations c.registrations first.registrations second.registrations;
  timers = in_turn (λ (t : TimerEntry). t.number) a.made b.made c.made a.timers b.timers c.timers first.timers second.timers;
}

-- with other listeners, registrations or timers
listeners_rise : (a : Counted) (drawn : ℕ) (listeners : List ListenerEntry) → Follow (λ (l : ListenerEntry). l.number) a.drawn a.listeners drawn listeners
    → Rise a (record a { drawn = drawn; listeners = listeners })
listeners_rise a drawn listeners follow =
    let s = same a in
    record { pos = refl; now = s.now; rounds = s.rounds; live = s.live; listeners = follow; registrations = s.registrations; timers = s.timers }

timers_rise : (a : Counted) (ids made : ℕ) (registrations : List Registration) (timers : List TimerEntry)
    → Follow (λ (r : Registration). r.id) a.ids a.registrations ids registrations → Follow (λ (t : TimerEntry). t.number) a.made a.timers made timers
    → Rise a (record a { ids = ids; registrations = registrations; made = made; timers = timers })
timers_rise a ids made registrations timers follow others =
    let s = same a in
    record { pos = refl; now = s.now; rounds = s.rounds; live = s.live; listeners = s.listeners; registrations = follow; timers = others }

-- with other sources
live_rise : (a : Counted) (serials : ℕ) (live : List LiveSource) → Follow (λ (s : LiveSource). s.serial) a.serials a.live serials live
    → Rise a (record a { serials = serials; live = live })
live_rise a serials live follow =
    let s = same a in
    record { pos = refl; now = s.now; rounds = s.rounds; live = follow; listeners = s.listeners; registrations = s.registrations; timers = s.timers }

-- ## Sources and listeners

arm_rises : (w : World) (key serial : ℕ) (told : PollerAnswer) → Rises w (after_arm w key serial told)
arm_rises w key serial told = either_world (Rises w) (fails told) (broken_world w serial) (armed_world w key serial) (same (counted w)) (same (counted w))

pending_rises : (arms : Bool) (w : World) (key serial : ℕ) (wakes : List Waker) (answers : List PollerAnswer)
    → Rises w (pending arms w key serial wakes answers).world
pending_rises false w key serial wakes answers = same (counted w)
pending_rises true w key serial wakes answers = arm_rises w key serial (next_answer answers)

add_rises : (w : World) (answers : List PollerAnswer) → Rises w (add w answers).world
add_rises w answers =
    let source : LiveSource = record { key = free_key w.live; serial = w.serials + 1 } in
    either (λ o. Rises w o.world) (nat_le source_limit (length w.live)) _ _ (same (counted w))
    (either_world (Rises w) (fails (next_answer answers)) w _ (same (counted w))
    (live_rise (counted w) (w.serials + 1) (w.live ++ source ∷ []) (one_more (λ (s : LiveSource). s.serial) w.serials w.live source refl)))

del_rises : (w : World) (key : ℕ) (serial : Option ℕ) (answers : List PollerAnswer) → Rises w (del_source w key serial answers).world
del_rises w key None answers = same (counted w)
del_rises w key (Some serial) answers =
    let p : LiveSource → Bool = λ s. not (s.serial == serial) in
    either (λ o. Rises w o.world) (list_any (λ (l : ListenerEntry). l.serial == serial) w.listeners) _ _ (same (counted w))
    (live_rise (counted w) w.serials (filter p w.live) (fewer (λ (s : LiveSource). s.serial) p w.serials w.live))

poll_rises : (w : World) (key : ℕ) (dir : Dir) (waker : Waker) (serial : Option ℕ) (answers : List PollerAnswer)
    → Rises w (poll_source w key dir waker serial answers).world
poll_rises w key dir waker None answers = same (counted w)
poll_rises w key dir waker (Some serial) answers =
    let waiter = poll_waiter w.poll_waiters serial dir in
    either (λ o. Rises w o.world) (is_fresh_since w serial dir (mark_of w.marks serial dir)) _ _ (same (counted w))
    (either (λ o. Rises w o.world) (is_waker waker waiter) _ _ (pending_rises (is_broken w serial) w key serial [] answers)
    (pending_rises (is_idle w serial dir || is_broken w serial) (with_waiter w serial dir waker) key serial (option_to_list waiter) answers))

new_rises : (w : World) (dir : Dir) (serial : Option ℕ) (answers : List PollerAnswer) → Rises w (new_listener w dir serial answers).world
new_rises w dir None answers = same (counted w)
new_rises w dir (Some serial) answers =
    let entry : ListenerEntry = record { number = w.listeners_drawn + 1; serial = serial; dir = dir; position = None; waker = None } in
    listeners_rise (counted w) (w.listeners_drawn + 1) (w.listeners ++ entry ∷ [])
    (one_more (λ (l : ListenerEntry). l.number) w.listeners_drawn w.listeners entry refl)

-- a listener's waker is stored or taken
waker_set : (waker : Option Waker) (here : Bool) (l : ListenerEntry) → (cond here (record l { waker = waker }) l).number ≡ l.number
waker_set waker true l = refl
waker_set waker false l = refl

either_follows : (given : ℕ) (test : Bool) (xs ys zs : List ListenerEntry) → Follow (λ (l : ListenerEntry). l.number) given xs given ys
    → Follow (λ (l : ListenerEntry). l.number) given xs given zs → Follow (λ (l : ListenerEntry). l.number) given xs given (cond test ys zs)
either_follows given true xs ys zs first second = first
either_follows given false xs ys zs first second = second

listening_rises : (w : World) (entry : ListenerEntry) (waker : Waker) → Contains w.listeners entry
    → Rises w (record w { listeners = with_listening w entry waker })
listening_rises w entry waker here =
    let number : ListenerEntry → ℕ = λ l. l.number in
    listeners_rise (counted w) w.listeners_drawn (with_listening w entry waker)
    (either_follows w.listeners_drawn (is_some entry.position) w.listeners _ _
    (changed number (λ l. cond (is_listener entry.number l) (record l { waker = Some waker }) l) w.listeners_drawn w.listeners
    (λ l. waker_set (Some waker) (is_listener entry.number l) l))
    (moved number (λ l. not (is_listener entry.number l)) w.listeners_drawn w.listeners entry
    (record entry { position = Some w.pos; waker = Some waker }) here refl))

step_rises : (w : World) (number : ℕ) (waker : Waker) (entry : Option ListenerEntry) (answers : List PollerAnswer)
    → find (is_listener number) w.listeners ≡ entry → Rises w (step_listener w waker entry answers).world
step_rises w number waker None answers found = same (counted w)
step_rises w number waker (Some entry) answers found =
    let listening : World = record w { listeners = with_listening w entry waker } in
    either (λ o. Rises w o.world) (is_fresh_since w entry.serial entry.dir entry.position) _ _ (same (counted w))
    (after (counted w) (counted listening) _ (listening_rises w entry waker (found_is_in (is_listener number) w.listeners entry found).0)
    (pending_rises (is_idle w entry.serial entry.dir || is_broken w entry.serial) listening (unwrap_or (key_of w entry.serial) 0) entry.serial [] answers))

drop_rises : (w : World) (number : ℕ) (entry : Option ListenerEntry) (answers : List PollerAnswer) → Rises w (drop_listener w number entry answers).world
drop_rises w number None answers = same (counted w)
drop_rises w number (Some entry) answers =
    let p : ListenerEntry → Bool = λ l. not (is_listener number l) in
    listeners_rise (counted w) w.listeners_drawn (filter p w.listeners) (fewer (λ (l : ListenerEntry). l.number) p w.listeners_drawn w.listeners)

-- ## Timers and the clock

made_rises : (w : World) (deadline period : Option ℕ) (answers : List PollerAnswer) → Rises w (new_timer w deadline period answers).world
made_rises w deadline period answers =
    let timer : TimerEntry = record { number = w.timers_made + 1; deadline = deadline; period = period; id = None; kept = None } in
    timers_rise (counted w) w.ids_drawn (w.timers_made + 1) w.registrations (w.timers ++ timer ∷ [])
    (stay (λ (r : Registration). r.id) w.ids_drawn w.registrations) (one_more (λ (t : TimerEntry). t.number) w.timers_made w.timers timer refl)

fewer_rise : (w : World) (p : Registration → Bool) → Rises w (record w { registrations = filter p w.registrations })
fewer_rise w p =
    timers_rise (counted w) w.ids_drawn w.timers_made (filter p w.registrations) w.timers
    (fewer (λ (r : Registration). r.id) p w.ids_drawn w.registrations) (stay (λ (t : TimerEntry). t.number) w.timers_made w.timers)

gone_rises : (w : World) (id : Option ℕ) → Rises w (unregistered w id)
gone_rises w None = same (counted w)
gone_rises w (Some id) = fewer_rise w (λ r. not (r.id == id))

-- another entry in a timer's place, with its number
in_place : (w : World) (now : TimerEntry) → Follow (λ (t : TimerEntry). t.number) w.timers_made w.timers w.timers_made (with_timer w now).timers
in_place w now =
    changed (λ (t : TimerEntry). t.number) (λ t. cond (is_timer now.number t) now t) w.timers_made w.timers
    (λ t. number_stays now t (t.number == now.number) refl)

quiet_rises : (w : World) (now : TimerEntry) → Rises w (with_timer w now)
quiet_rises w now =
    timers_rise (counted w) w.ids_drawn w.timers_made w.registrations (with_timer w now).timers
    (stay (λ (r : Registration). r.id) w.ids_drawn w.registrations) (in_place w now)

registered_rises : (w : World) (entry : TimerEntry) (deadline : ℕ) (waker : Waker) → Rises w (registered w entry deadline waker)
registered_rises w entry deadline waker =
    let new : Registration = record { id = w.ids_drawn + 1; deadline = deadline; waker = waker } in
    let now : TimerEntry = record entry { deadline = Some deadline; id = Some (w.ids_drawn + 1); kept = Some waker } in
    timers_rise (counted w) (w.ids_drawn + 1) w.timers_made (w.registrations ++ new ∷ []) (with_timer w now).timers
    (one_more (λ (r : Registration). r.id) w.ids_drawn w.registrations new refl) (in_place w now)

left_rises : (w : World) (left : TimerEntry) (registration : Option (ℕ × Waker)) → Rises w (left_as w left registration)
left_rises w left None = quiet_rises w left
left_rises w left (Some registration) = registered_rises w left registration.0 registration.1

worked_rises : (w : World) (entry : TimerEntry) (becomes : Option TimerState) → Rises w (worked w entry becomes)
worked_rises w entry None = same (counted w)
worked_rises w entry (Some timer) =
    let gone = unregistered w entry.id in after (counted w) (counted gone) _ (gone_rises w entry.id) (left_rises gone _ (joining timer))

tick_rises : (w : World) (waker : Waker) (entry : Option TimerEntry) (answers : List PollerAnswer) → Rises w (tick_timer w waker entry answers).world
tick_rises w waker None answers = same (counted w)
tick_rises w waker (Some entry) answers = worked_rises w entry _

set_rises : (w : World) (deadline : ℕ) (period : Option ℕ) (entry : Option TimerEntry) (answers : List PollerAnswer)
    → Rises w (set_timer w deadline period entry answers).world
set_rises w deadline period None answers = same (counted w)
set_rises w deadline period (Some entry) answers = worked_rises w entry (reset_work (state_of entry) deadline period).becomes

end_rises : (w : World) (entry : Option TimerEntry) (answers : List PollerAnswer) → Rises w (end_timer w entry answers).world
end_rises w None answers = same (counted w)
end_rises w (Some entry) answers =
    let gone = unregistered w entry.id in
    let p : TimerEntry → Bool = λ t. not (is_timer entry.number t) in
    after (counted w) (counted gone) _ (gone_rises w entry.id)
    (timers_rise (counted gone) gone.ids_drawn gone.timers_made gone.registrations (filter p gone.timers)
    (stay (λ (r : Registration). r.id) gone.ids_drawn gone.registrations) (fewer (λ (t : TimerEntry). t.number) p gone.timers_made gone.timers))

clock_rises_at : (w : World) (moment : ℕ) (back : Bool) (x y : Outcome) → nat_lt moment w.now ≡ back → x.world ≡ w → y.world ≡ record w { now = moment }
    → Rises w (cond back x y).world
clock_rises_at w moment true x y test first second = subst (Rises w) (sym first) (same (counted w))
clock_rises_at w moment false x y test first second =
    let s = same (counted w) in
    let on : w.now ≤ moment = ltb-false moment w.now test in
    subst (Rises w) (sym second)
    (record { pos = refl; now = on; rounds = s.rounds; live = s.live; listeners = s.listeners; registrations = s.registrations; timers = s.timers })

clock_rises : (w : World) (moment : ℕ) (answers : List PollerAnswer) → Rises w (set_clock w moment answers).world
clock_rises w moment answers = clock_rises_at w moment (nat_lt moment w.now) _ _ refl refl refl

-- ## Rounds

begin_rises : (w : World) (given : Option ℕ) (answers : List PollerAnswer) → Rises w (begin_round w given answers).world
begin_rises w given answers =
    let f = fewer_rise w (λ (r : Registration). not (nat_le r.deadline w.now)) in
    either (λ o. Rises w o.world) (is_some w.round) _ _ (same (counted w))
    (record { pos = refl; now = f.now; rounds = omega arith; live = f.live; listeners = f.listeners; registrations = f.registrations; timers = f.timers })

wait_rises : (w : World) (round : Option RoundState) (answers : List PollerAnswer) → Rises w (wait_in w round answers).world
wait_rises w round answers = wait_any (Rises w) w round answers (λ after armed. same (counted w))

taken_rises : (w : World) (serial begin : ℕ) (dirs : List Dir) → Rises w (world_taken w serial begin dirs)
taken_rises w serial begin [] = same (counted w)
taken_rises w serial begin (dir ∷ dirs) =
    let next = without_waiters w serial begin dir in
    after (counted w) (counted next) _
    (listeners_rise (counted w) w.listeners_drawn next.listeners
    (changed (λ (l : ListenerEntry). l.number) (λ l. cond (is_of serial dir l.serial l.dir) (record l { waker = None }) l) w.listeners_drawn w.listeners
    (λ l. waker_set None (is_of serial dir l.serial l.dir) l)))
    (taken_rises next serial begin dirs)

rearmed_rises : (w : World) (round : RoundState) (key : Key) (serial : ℕ) (answers : List PollerAnswer) → Rises w (rearmed w round key serial answers).world
rearmed_rises w round key serial answers =
    let arm = arm_rises w key.0 serial (next_answer answers) in
    either (λ o. Rises w o.world) (is_empty_list (wanted w serial)) _ _ (same (counted w)) (either_world (Rises w) (fails (next_answer answers)) _ _ arm arm)

source_rises : (w : World) (round : RoundState) (event : Event) (serial : Option ℕ) (answers : List PollerAnswer)
    → Rises w (handle_source w round event serial answers).world
source_rises w round event None answers = same (counted w)
source_rises w round event (Some serial) answers =
    after (counted w) (counted (world_taken w serial round.begin (directions_of event.on))) _ (taken_rises w serial round.begin (directions_of event.on))
    (rearmed_rises _ _ event.key serial answers)

first_rises : (w : World) (round : RoundState) (events : List Event) (answers : List PollerAnswer) → Rises w (handle_first w round events answers).world
first_rises w round [] answers = same (counted w)
first_rises w round (event ∷ events) answers = source_rises w _ event (serial_of w event.key.0) answers

handle_rises : (w : World) (round : Option RoundState) (answers : List PollerAnswer) → Rises w (handle_in w round answers).world
handle_rises w None answers = same (counted w)
handle_rises w (Some round) answers = first_rises w round round.in_hand answers

either_pass : (w : World) (second : Bool)
    → Follow (λ (r : Registration). r.id) w.ids_drawn w.registrations w.ids_drawn (cond second (after_pass w.now w.registrations) w.registrations)
either_pass w true = fewer (λ (r : Registration). r.id) (λ r. not (nat_le r.deadline w.now)) w.ids_drawn w.registrations
either_pass w false = stay (λ (r : Registration). r.id) w.ids_drawn w.registrations

finish_rises : (w : World) (round : Option RoundState) (answers : List PollerAnswer) → Rises w (finish_in w round answers).world
finish_rises w None answers = same (counted w)
finish_rises w (Some round) answers =
    let second = gave_none round.last_wait && not (is_zero round.limit) in
    either (λ o. Rises w o.world) (is_empty_list round.in_hand) _ _
    (timers_rise (counted w) w.ids_drawn w.timers_made (cond second (after_pass w.now w.registrations) w.registrations) w.timers
    (either_pass w second) (stay (λ (t : TimerEntry). t.number) w.timers_made w.timers))
    (same (counted w))

react_rises : (w : World) (given : Option ℕ) (answers : List PollerAnswer) → Rises w (react w given answers).world
react_rises w given answers =
    react_any (Rises w) w given answers (same (counted w)) (begin_rises w given answers)
    (λ v answers so. after (counted w) (counted v) _ so (wait_rises v v.round answers))
    (λ v answers so. after (counted w) (counted v) _ so (handle_rises v v.round answers))
    (λ v answers so. after (counted w) (counted v) _ so (finish_rises v v.round answers))

-- ## A step

case_rises : (w : World) (s : Step) (answers : List PollerAnswer) → Rises w (case_of w s answers).world
case_rises w step.Add answers = add_rises w answers
case_rises w (step.Del key) answers = del_rises w key.0 (serial_of w key.0) answers
case_rises w (step.Poll key dir waker) answers = poll_rises w key.0 dir waker (serial_of w key.0) answers
case_rises w (step.New key dir) answers = new_rises w dir (serial_of w key.0) answers
case_rises w (step.StepEar number waker) answers = step_rises w number waker (find (is_listener number) w.listeners) answers refl
case_rises w (step.DropEar number) answers = drop_rises w number (find (is_listener number) w.listeners) answers
case_rises w (step.TimerAt deadline) answers = made_rises w (Some deadline) None answers
case_rises w (step.TimerEvery deadline period) answers = made_rises w (Some deadline) (Some period) answers
case_rises w step.TimerNever answers = made_rises w None None answers
case_rises w (step.Tick number waker) answers = tick_rises w waker (find (is_timer number) w.timers) answers
case_rises w (step.SetAt number deadline) answers = set_rises w deadline None (find (is_timer number) w.timers) answers
case_rises w (step.SetEvery number deadline period) answers = set_rises w deadline (Some period) (find (is_timer number) w.timers) answers
case_rises w (step.End number) answers = end_rises w (find (is_timer number) w.timers) answers
case_rises w (step.Now moment) answers = clock_rises w moment answers
case_rises w (step.Begin limit) answers = begin_rises w limit answers
case_rises w step.Wait answers = wait_rises w w.round answers
case_rises w step.Handle answers = handle_rises w w.round answers
case_rises w step.Finish answers = finish_rises w w.round answers
case_rises w step.React answers = react_rises w None answers
case_rises w _ answers = same (counted w)

none_again : {X : Type 0} (number : X → ℕ) (given later : ℕ) (before after : List X) → Follow number given before later after
    → NoneAgain number given before after
none_again number given later before after follow = each_in (λ x. Contains (map number before) (number x) ⊎ (given < number x)) after follow.1

pub counts_rise : (w : World) (s : Step) (answers : List PollerAnswer) → CountsRise w (step_result w s answers).world
unfolding step_result
counts_rise w s answers =
    let r = case_rises w s answers in
    let v = (case_of w s answers).world in
    record {
      pos = ap (λ n. n + 1) r.pos;
      now = r.now;
      serials = r.live.0;
      listeners_drawn = r.listeners.0;
      ids_drawn = r.registrations.0;
      timers_made = r.timers.0;
      rounds = r.rounds;
      live = none_again (λ (s : LiveSource). s.serial) w.serials v.serials w.live v.live r.live;
      listeners = none_again (λ (l : ListenerEntry). l.number) w.listeners_drawn v.listeners_drawn w.listeners v.listeners r.listeners;
      registrations = none_again (λ (r : Registration). r.id) w.ids_drawn v.ids_drawn w.registrations v.registrations r.registrations;
      timers = none_again (λ (t : TimerEntry). t.number) w.timers_made v.timers_made w.timers v.timers r.timers;
    }
