-- What each step of the machine keeps of its world, whatever the poller answered: each serial that stands was given, and the past lies before the
-- position, with its rounds counted and each handled event of a round that began.
use Rattle.std.proofs.Common.{◌≡◌, ℕ, ◌+◌, ◌<◌, ◌≤◌, Bool, true, false, not, cond, ◌||◌, ◌==◌, if◌then◌else◌, List, [], ◌∷◌, ◌++◌, length, map, find, Option, None, Some, is_some, option_map, refl, ap, ◌∙◌, sym, subst, ⊎_elim, arith, length-append}
use Rattle.std.specs.Prelude.{nat_lt, nat_le, option_to_list, unwrap_or}
use Rattle.std.specs.List.{Contains, filter, list_any}
use Rattle.std.proofs.lemmas.List.Elements.{Contains-push_cases}
use Rattle.aio_base.specs.declared.names.Key.{Key}
use Rattle.aio_base.specs.declared.names.Waker.{Waker}
use Rattle.aio_base.specs.declared.names.Dir.{Dir}
use Rattle.aio_base.specs.declared.names.Event.{Event}
use Rattle.aio_base.specs.declared.steps.Step.{Step}
use Rattle.aio_base.specs.declared.steps.Step.TheVariants as step
use Rattle.aio_base.specs.Rounds.{AllBegun}
use Rattle.aio_base.specs.World.{PollerAnswer, Succeeds, Gives, IsInterrupted, Fails, LiveSource, PollWaiter, Mark, BrokenSource, HandledDirection, ListenerEntry, RoundState, World, opening, directions_of, is_of, serial_of, key_of, poll_waiter, without_waiter, mark_of, without_mark, is_empty_list, is_idle, wanted, is_broken, without_broken}
use Rattle.aio_base.specs.Machine.{Outcome, fails, next_answer, later_answers, armed_world, broken_world, after_arm, pending, source_limit, add, free_key, del_source, is_fresh_since, is_waker, with_waiter, poll_source, new_listener, is_listener, without_listener, with_listening, step_listener, drop_listener, is_timer, set_clock, begin_round, wait_answered, wait_in, without_waiters, world_taken, wakers_taken, rearmed, handle_source, handle_first, handle_in, finish_in, react, case_of, step_result}
use Rattle.aio_base.specs.Runs.{PolledStep, outcome_of, world_of}
use Rattle.aio_base.proofs.Membership.{none_is_in, each_in, filtered_is_in, mapped_from, found_is_in}
use Rattle.aio_laws.proofs.steps.Frames.{either, either_world, react_any, tick_timers, set_timers, end_timers}
use Rattle.aio_facts.specs.Sound.{RunningSound}
use Rattle.aio_facts.proofs.RoundPast.{rounds_last, last_has_begun, all_begun_longer}
use Rattle.aio_facts.proofs.RoundPast.{begun_more}

-- ## Numbers that were given

abbrev pub AreGiven : {X : Type 0} → (X → ℕ) → ℕ → List X → Type 0
AreGiven {X} number count xs = (x : X) → Contains xs x → number x ≤ count

filtered_given : {X : Type 0} (number : X → ℕ) (count : ℕ) (test : X → Bool) (xs : List X) → AreGiven number count xs → AreGiven number count (filter test xs)
filtered_given number count test xs given = λ x among. given x (filtered_is_in test xs x among)

mapped_given : {X : Type 0} (number : X → ℕ) (count : ℕ) (f : X → X) (xs : List X) → ((x : X) → number (f x) ≡ number x) → AreGiven number count xs → AreGiven number count (map f xs)
mapped_given number count f xs same given = λ y among.
    let image = mapped_from f xs y among in
    subst (λ z. number z ≤ count) image.2 (subst (λ n. n ≤ count) (sym (same image.0)) (given image.0 image.1))

pushed_given : {X : Type 0} (number : X → ℕ) (count : ℕ) (xs : List X) (x : X) → AreGiven number count xs → number x ≤ count → AreGiven number count (xs ++ x ∷ [])
pushed_given number count xs x given new = λ y among.
    ⊎_elim (λ (old : Contains xs y). given y old) (λ (same : x ≡ y). subst (λ z. number z ≤ count) same new) (Contains-push_cases xs x y among)

more_given : {X : Type 0} (number : X → ℕ) (count : ℕ) (xs : List X) → AreGiven number count xs → AreGiven number (count + 1) xs
more_given number count xs given = λ x among. let old = given x among in omega arith

-- ## What is kept

-- of the past before a bound
pub record Past (bound rounds : ℕ) (begun : List ℕ) (marks : List Mark) (handled : List HandledDirection) (round : Option RoundState) : Type 0 where
  pub counted : length begun ≡ rounds
  pub before : (p : ℕ) → Contains begun p → p < bound
  pub marks_before : (m : Mark) → Contains marks m → m.position < bound
  pub of_rounds : AllBegun handled begun
  pub running : RunningSound begun round

pub record Kept (bound serials rounds : ℕ) (live : List LiveSource) (waiters : List PollWaiter) (marks : List Mark) (listeners : List ListenerEntry)
    (broken : List BrokenSource) (handled : List HandledDirection) (begun : List ℕ) (round : Option RoundState) : Type 0 where
  pub live_given : AreGiven (λ (s : LiveSource). s.serial) serials live
  pub waiters_given : AreGiven (λ (p : PollWaiter). p.serial) serials waiters
  pub marks_given : AreGiven (λ (m : Mark). m.serial) serials marks
  pub listeners_given : AreGiven (λ (l : ListenerEntry). l.serial) serials listeners
  pub broken_given : AreGiven (λ (b : BrokenSource). b.serial) serials broken
  pub handled_given : AreGiven (λ (h : HandledDirection). h.serial) serials handled
  pub past : Past bound rounds begun marks handled round

abbrev pub KeptBefore : ℕ → World → Type 0
KeptBefore bound w = Kept bound w.serials w.rounds w.live w.poll_waiters w.marks w.listeners w.broken w.handled w.begun w.round

-- inside a step, whose own position may stand in the past
abbrev Within : World → Type 0
Within w = KeptBefore (w.pos + 1) w

inside : (w : World) → KeptBefore w.pos w → Within w
inside w k = record {
  live_given = k.live_given;
  waiters_given = k.waiters_given;
  marks_given = k.marks_given;
  listeners_given = k.listeners_given;
  broken_given = k.broken_given;
  handled_given = k.handled_given;
  past = record {
    counted = k.past.counted;
    before = λ p among. let old = k.past.before p among in omega arith;
    marks_before = λ m among. let old = k.past.marks_before m among in omega arith;
    of_rounds = k.past.of_rounds;
    running = k.past.running;
  };
}

record Leaves (o : Outcome) : Type 0 where
  stands : Within o.world

serial_few : (w : World) (key : ℕ) (found : Option LiveSource) → find (λ (s : LiveSource). s.key == key) w.live ≡ found → Within w → (n : ℕ)
    → option_map (λ (s : LiveSource). s.serial) found ≡ Some n → n ≤ w.serials
serial_few w key None is k n at = absurd cc
serial_few w key (Some s) is k n at =
    let given = k.live_given s (found_is_in (λ (s : LiveSource). s.key == key) w.live s is).0 in
    let same : s.serial ≡ n = cc in
    subst (λ m. m ≤ w.serials) same given

-- ## Sources

with_broken : (w : World) (broken : List BrokenSource) → AreGiven (λ (b : BrokenSource). b.serial) w.serials broken → Within w → Within (record w { broken = broken })
with_broken w broken given k = record {
  live_given = k.live_given;
  waiters_given = k.waiters_given;
  marks_given = k.marks_given;
  listeners_given = k.listeners_given;
  broken_given = given;
  handled_given = k.handled_given;
  past = k.past;
}

arm_within : (w : World) (key serial : ℕ) (told : PollerAnswer) → serial ≤ w.serials → Within w → Within (after_arm w key serial told)
arm_within w key serial told few k =
    let mended = filtered_given (λ (b : BrokenSource). b.serial) w.serials (λ (b : BrokenSource). not (b.serial == serial)) w.broken k.broken_given in
    either_world Within (fails told) (broken_world w serial) (armed_world w key serial)
    (with_broken w _ (pushed_given (λ (b : BrokenSource). b.serial) w.serials (without_broken w.broken serial) (record { serial = serial; position = w.pos }) mended few) k)
    (with_broken w _ mended k)

pending_leaves : (arms : Bool) (w : World) (key serial : ℕ) (wakes : List Waker) (answers : List PollerAnswer) → serial ≤ w.serials → Within w
    → Leaves (pending arms w key serial wakes answers)
pending_leaves false w key serial wakes answers few k = record { stands = k }
pending_leaves true w key serial wakes answers few k = record { stands = arm_within w key serial (next_answer answers) few k }

added : (w : World) (key : ℕ) → Within w → Within (record w { live = w.live ++ record { key = key; serial = w.serials + 1 } ∷ []; serials = w.serials + 1 })
added w key k = record {
  live_given = pushed_given (λ (s : LiveSource). s.serial) (w.serials + 1) w.live (record { key = key; serial = w.serials + 1 })
      (more_given (λ (s : LiveSource). s.serial) w.serials w.live k.live_given) (omega arith);
  waiters_given = more_given (λ (p : PollWaiter). p.serial) w.serials w.poll_waiters k.waiters_given;
  marks_given = more_given (λ (m : Mark). m.serial) w.serials w.marks k.marks_given;
  listeners_given = more_given (λ (l : ListenerEntry). l.serial) w.serials w.listeners k.listeners_given;
  broken_given = more_given (λ (b : BrokenSource). b.serial) w.serials w.broken k.broken_given;
  handled_given = more_given (λ (h : HandledDirection). h.serial) w.serials w.handled k.handled_given;
  past = k.past;
}

add_leaves : (w : World) (answers : List PollerAnswer) → Within w → Leaves (add w answers)
add_leaves w answers k =
    either Leaves (nat_le source_limit (length w.live)) _ _ (record { stands = k })
    (record { stands = either_world Within (fails (next_answer answers)) w _ k (added w (free_key w.live) k) })

with_marks : (w : World) (waiters : List PollWaiter) (marks : List Mark) → AreGiven (λ (p : PollWaiter). p.serial) w.serials waiters
    → AreGiven (λ (m : Mark). m.serial) w.serials marks → ((m : Mark) → Contains marks m → m.position < w.pos + 1) → Within w
    → Within (record w { poll_waiters = waiters; marks = marks })
with_marks w waiters marks waiting given before k = record {
  live_given = k.live_given;
  waiters_given = waiting;
  marks_given = given;
  listeners_given = k.listeners_given;
  broken_given = k.broken_given;
  handled_given = k.handled_given;
  past = record { counted = k.past.counted; before = k.past.before; marks_before = before; of_rounds = k.past.of_rounds; running = k.past.running };
}

with_live : (w : World) (live : List LiveSource) → AreGiven (λ (s : LiveSource). s.serial) w.serials live → Within w → Within (record w { live = live })
with_live w live given k = record {
  live_given = given;
  waiters_given = k.waiters_given;
  marks_given = k.marks_given;
  listeners_given = k.listeners_given;
  broken_given = k.broken_given;
  handled_given = k.handled_given;
  past = k.past;
}

removed : (w : World) (serial : ℕ) → Within w → Within (record w {
  live = filter (λ (s : LiveSource). not (s.serial == serial)) w.live;
  poll_waiters = filter (λ (p : PollWaiter). not (p.serial == serial)) w.poll_waiters;
  marks = filter (λ (m : Mark). not (m.serial == serial)) w.marks;
  broken = without_broken w.broken serial;
})
removed w serial k =
    let live = filter (λ (s : LiveSource). not (s.serial == serial)) w.live in
    let waiters = filter (λ (p : PollWaiter). not (p.serial == serial)) w.poll_waiters in
    let marks = filter (λ (m : Mark). not (m.serial == serial)) w.marks in
    let one = with_live w live (filtered_given (λ (s : LiveSource). s.serial) w.serials (λ (s : LiveSource). not (s.serial == serial)) w.live k.live_given) k in
    let two = with_marks (record w { live = live }) waiters marks
    (filtered_given (λ (p : PollWaiter). p.serial) w.serials (λ (p : PollWaiter). not (p.serial == serial)) w.poll_waiters k.waiters_given)
    (filtered_given (λ (m : Mark). m.serial) w.serials (λ (m : Mark). not (m.serial == serial)) w.marks k.marks_given)
    (λ m among. k.past.marks_before m (filtered_is_in (λ (m : Mark). not (m.serial == serial)) w.marks m among)) one in
    with_broken (record w { live = live; poll_waiters = waiters; marks = marks }) (without_broken w.broken serial)
    (filtered_given (λ (b : BrokenSource). b.serial) w.serials (λ (b : BrokenSource). not (b.serial == serial)) w.broken k.broken_given) two

del_leaves : (w : World) (key : ℕ) (serial : Option ℕ) (answers : List PollerAnswer) → Within w → Leaves (del_source w key serial answers)
del_leaves w key None answers k = record { stands = k }
del_leaves w key (Some serial) answers k =
    either Leaves (list_any (λ (l : ListenerEntry). l.serial == serial) w.listeners) _ _ (record { stands = k }) (record { stands = removed w serial k })

stored : (w : World) (serial : ℕ) (dir : Dir) (waker : Waker) → serial ≤ w.serials → Within w → Within (with_waiter w serial dir waker)
stored w serial dir waker few k =
    with_marks w _ _
    (pushed_given (λ (p : PollWaiter). p.serial) w.serials (without_waiter w.poll_waiters serial dir) (record { serial = serial; dir = dir; waker = waker })
    (filtered_given (λ (p : PollWaiter). p.serial) w.serials (λ (p : PollWaiter). not (is_of serial dir p.serial p.dir)) w.poll_waiters k.waiters_given) few)
    (pushed_given (λ (m : Mark). m.serial) w.serials (without_mark w.marks serial dir) (record { serial = serial; dir = dir; position = w.pos })
    (filtered_given (λ (m : Mark). m.serial) w.serials (λ (m : Mark). not (is_of serial dir m.serial m.dir)) w.marks k.marks_given) few)
    (λ m among.
    ⊎_elim
    (λ (old : Contains (without_mark w.marks serial dir) m). k.past.marks_before m (filtered_is_in (λ (m : Mark). not (is_of serial dir m.serial m.dir)) w.marks m old))
    (λ (same : record { serial = serial; dir = dir; position = w.pos } ≡ m). subst (λ (m : Mark). m.position < w.pos + 1) same (omega arith))
    (Contains-push_cases (without_mark w.marks serial dir) (record { serial = serial; dir = dir; position = w.pos }) m among))
    k

seen_within : (w : World) (serial : ℕ) (dir : Dir) → Within w → Within (record w { marks = without_mark w.marks serial dir })
seen_within w serial dir k =
    with_marks w w.poll_waiters (without_mark w.marks serial dir) k.waiters_given
    (filtered_given (λ (m : Mark). m.serial) w.serials (λ (m : Mark). not (is_of serial dir m.serial m.dir)) w.marks k.marks_given)
    (λ m among. k.past.marks_before m (filtered_is_in (λ (m : Mark). not (is_of serial dir m.serial m.dir)) w.marks m among)) k

poll_leaves : (w : World) (key : ℕ) (dir : Dir) (waker : Waker) (serial : Option ℕ) (answers : List PollerAnswer) → ((n : ℕ) → serial ≡ Some n → n ≤ w.serials)
    → Within w → Leaves (poll_source w key dir waker serial answers)
poll_leaves w key dir waker None answers few k = record { stands = k }
poll_leaves w key dir waker (Some serial) answers few k =
    let waiter = poll_waiter w.poll_waiters serial dir in
    either Leaves (is_fresh_since w serial dir (mark_of w.marks serial dir)) _ _ (record { stands = seen_within w serial dir k })
    (either Leaves (is_waker waker waiter) _ _ (pending_leaves (is_broken w serial) w key serial [] answers (few serial refl) k)
    (pending_leaves (is_idle w serial dir || is_broken w serial) (with_waiter w serial dir waker) key serial (option_to_list waiter) answers (few serial refl)
    (stored w serial dir waker (few serial refl) k)))

-- ## Listeners

with_entries : (w : World) (listeners : List ListenerEntry) → AreGiven (λ (l : ListenerEntry). l.serial) w.serials listeners → Within w
    → Within (record w { listeners = listeners })
with_entries w listeners given k = record {
  live_given = k.live_given;
  waiters_given = k.waiters_given;
  marks_given = k.marks_given;
  listeners_given = given;
  broken_given = k.broken_given;
  handled_given = k.handled_given;
  past = k.past;
}

new_leaves : (w : World) (dir : Dir) (serial : Option ℕ) (answers : List PollerAnswer) → ((n : ℕ) → serial ≡ Some n → n ≤ w.serials) → Within w
    → Leaves (new_listener w dir serial answers)
new_leaves w dir None answers few k = record { stands = k }
new_leaves w dir (Some serial) answers few k =
    let new : ListenerEntry = record { number = w.listeners_drawn + 1; serial = serial; dir = dir; position = None; waker = None } in
    record { stands = with_entries w (w.listeners ++ new ∷ []) (pushed_given (λ (l : ListenerEntry). l.serial) w.serials w.listeners new k.listeners_given (few serial refl)) k }

again_serial : (waker : Waker) (l : ListenerEntry) (here : Bool) → (let m : ListenerEntry = cond here (record l { waker = Some waker }) l in m.serial) ≡ l.serial
again_serial waker l true = refl
again_serial waker l false = refl

either_given : (count : ℕ) (test : Bool) (xs ys : List ListenerEntry) → AreGiven (λ (l : ListenerEntry). l.serial) count xs → AreGiven (λ (l : ListenerEntry). l.serial) count ys
    → AreGiven (λ (l : ListenerEntry). l.serial) count (cond test xs ys)
either_given count true xs ys first second = first
either_given count false xs ys first second = second

listening_given : (w : World) (entry : ListenerEntry) (waker : Waker) → entry.serial ≤ w.serials → Within w
    → AreGiven (λ (l : ListenerEntry). l.serial) w.serials (with_listening w entry waker)
listening_given w entry waker few k =
    either_given w.serials (is_some entry.position) _ _
    (mapped_given (λ (l : ListenerEntry). l.serial) w.serials (λ (l : ListenerEntry). if is_listener entry.number l then record l { waker = Some waker } else l) w.listeners
    (λ l. again_serial waker l (l.number == entry.number)) k.listeners_given)
    (pushed_given (λ (l : ListenerEntry). l.serial) w.serials (without_listener w.listeners entry.number) (record entry { position = Some w.pos; waker = Some waker })
    (filtered_given (λ (l : ListenerEntry). l.serial) w.serials (λ l. not (is_listener entry.number l)) w.listeners k.listeners_given) few)

step_leaves : (w : World) (number : ℕ) (waker : Waker) (entry : Option ListenerEntry) (answers : List PollerAnswer) → find (is_listener number) w.listeners ≡ entry
    → Within w → Leaves (step_listener w waker entry answers)
step_leaves w number waker None answers found k = record { stands = k }
step_leaves w number waker (Some entry) answers found k =
    let few = k.listeners_given entry (found_is_in (is_listener number) w.listeners entry found).0 in
    either Leaves (is_fresh_since w entry.serial entry.dir entry.position) _ _ (record { stands = k })
    (pending_leaves (is_idle w entry.serial entry.dir || is_broken w entry.serial) (record w { listeners = with_listening w entry waker })
    (unwrap_or (key_of w entry.serial) 0) entry.serial [] answers few
    (with_entries w (with_listening w entry waker) (listening_given w entry waker few k) k))

drop_leaves : (w : World) (number : ℕ) (entry : Option ListenerEntry) (answers : List PollerAnswer) → Within w → Leaves (drop_listener w number entry answers)
drop_leaves w number None answers k = record { stands = k }
drop_leaves w number (Some entry) answers k =
    record {
      stands = with_entries w (without_listener w.listeners number)
          (filtered_given (λ (l : ListenerEntry). l.serial) w.serials (λ l. not (is_listener number l)) w.listeners k.listeners_given) k;
    }

-- ## The clock

clock_leaves : (w : World) (moment : ℕ) (answers : List PollerAnswer) → Within w → Leaves (set_clock w moment answers)
clock_leaves w moment answers k = either Leaves (nat_lt moment w.now) _ _ (record { stands = k }) (record { stands = k })

-- ## Rounds

with_round : (w : World) (round : Option RoundState) → RunningSound w.begun round → Within w → Within (record w { round = round })
with_round w round runs k = record {
  live_given = k.live_given;
  waiters_given = k.waiters_given;
  marks_given = k.marks_given;
  listeners_given = k.listeners_given;
  broken_given = k.broken_given;
  handled_given = k.handled_given;
  past = record {
    counted = k.past.counted;
    before = k.past.before;
    marks_before = k.past.marks_before;
    of_rounds = k.past.of_rounds;
    running = runs;
  };
}

one_more : (begun : List ℕ) (p rounds : ℕ) → length begun ≡ rounds → length (begun ++ p ∷ []) ≡ rounds + 1
one_more begun p rounds counted = length-append begun (p ∷ []) ∙ ap (λ n. n + 1) counted

begun_within : (w : World) (s : RoundState) → s.number ≡ w.rounds + 1 → s.begin ≡ w.pos → KeptBefore w.pos w
    → Within (record w { rounds = w.rounds + 1; begun = w.begun ++ w.pos ∷ []; round = Some s })
begun_within w s number begin k =
    let i = inside w k in
    record {
      live_given = k.live_given;
      waiters_given = k.waiters_given;
      marks_given = k.marks_given;
      listeners_given = k.listeners_given;
      broken_given = k.broken_given;
      handled_given = k.handled_given;
      past = record {
        counted = one_more w.begun w.pos w.rounds k.past.counted;
        before = λ p among. ⊎_elim (λ (old : Contains w.begun p). i.past.before p old) (λ (same : w.pos ≡ p). omega arith) (Contains-push_cases w.begun w.pos p among);
        marks_before = i.past.marks_before;
        of_rounds = all_begun_longer w.handled w.begun w.pos k.past.of_rounds;
        running = rw (begin, number) (
          rounds_last w.begun w.pos (each_in (λ p. p < w.pos) w.begun k.past.before) ∙ ap (λ n. n + 1) k.past.counted,
          last_has_begun w.begun w.pos,
        );
      };
    }

begin_leaves : (w : World) (given : Option ℕ) (answers : List PollerAnswer) → KeptBefore w.pos w → Leaves (begin_round w given answers)
begin_leaves w given answers k = either Leaves (is_some w.round) _ _ (record { stands = inside w k }) (record { stands = begun_within w _ refl refl k })

answered_leaves : (w : World) (round : RoundState) (told : PollerAnswer) (rest : List PollerAnswer) → RunningSound w.begun (Some round) → Within w
    → Leaves (wait_answered w round told rest)
answered_leaves w round Succeeds rest runs k = record { stands = with_round w _ runs k }
answered_leaves w round (Gives events) rest runs k = record { stands = with_round w _ runs k }
answered_leaves w round IsInterrupted rest runs k = record { stands = with_round w _ runs k }
answered_leaves w round Fails rest runs k = record { stands = with_round w _ runs k }

wait_leaves : (w : World) (round : Option RoundState) (answers : List PollerAnswer) → RunningSound w.begun round → Within w → Leaves (wait_in w round answers)
wait_leaves w None answers runs k = record { stands = k }
wait_leaves w (Some round) answers runs k =
    either Leaves (is_empty_list round.in_hand) _ _ (answered_leaves w round (next_answer answers) (later_answers answers) runs k) (record { stands = k })

-- a world from which a round takes waiters of a source
record Takes (w : World) (serial : ℕ) (round : RoundState) : Type 0 where
  few : serial ≤ w.serials
  runs : RunningSound w.begun (Some round)
  stands : Within w

emptied_serial : (l : ListenerEntry) (here : Bool) → (let m : ListenerEntry = cond here (record l { waker = None }) l in m.serial) ≡ l.serial
emptied_serial l true = refl
emptied_serial l false = refl

without_within : (w : World) (serial : ℕ) (round : RoundState) (dir : Dir) → Takes w serial round → Within (without_waiters w serial round.begin dir)
without_within w serial round dir t = record {
  live_given = t.stands.live_given;
  waiters_given = filtered_given (λ (p : PollWaiter). p.serial) w.serials (λ (p : PollWaiter). not (is_of serial dir p.serial p.dir)) w.poll_waiters t.stands.waiters_given;
  marks_given = t.stands.marks_given;
  listeners_given = mapped_given (λ (l : ListenerEntry). l.serial) w.serials (λ (l : ListenerEntry). if is_of serial dir l.serial l.dir then record l { waker = None } else l) w.listeners
      (λ l. emptied_serial l (is_of serial dir l.serial l.dir)) t.stands.listeners_given;
  broken_given = t.stands.broken_given;
  handled_given = pushed_given (λ (h : HandledDirection). h.serial) w.serials w.handled (record { serial = serial; dir = dir; begin = round.begin }) t.stands.handled_given t.few;
  past = record {
    counted = t.stands.past.counted;
    before = t.stands.past.before;
    marks_before = t.stands.past.marks_before;
    of_rounds = begun_more w.handled w.begun (record { serial = serial; dir = dir; begin = round.begin }) t.stands.past.of_rounds t.runs.1;
    running = t.stands.past.running;
  };
}

taken : (w : World) (serial : ℕ) (round : RoundState) (dirs : List Dir) → Takes w serial round → Takes (world_taken w serial round.begin dirs) serial round
taken w serial round [] t = t
taken w serial round (dir ∷ dirs) t =
    taken (without_waiters w serial round.begin dir) serial round dirs (record { few = t.few; runs = t.runs; stands = without_within w serial round dir t })

rearmed_leaves : (w : World) (round : RoundState) (key : Key) (serial : ℕ) (answers : List PollerAnswer) → Takes w serial round
    → Leaves (rearmed w round key serial answers)
rearmed_leaves w round key serial answers t =
    let told = next_answer answers in
    let arm = arm_within w key.0 serial told t.few t.stands in
    let runs = either_world (λ (v : World). RunningSound v.begun (Some round)) (fails told) (broken_world w serial) (armed_world w key.0 serial) t.runs t.runs in
    either Leaves (is_empty_list (wanted w serial)) _ _ (record { stands = t.stands })
    (record { stands = either_world Within (fails told) _ (after_arm w key.0 serial told) (with_round (after_arm w key.0 serial told) _ runs arm) arm })

source_leaves : (w : World) (round : RoundState) (event : Event) (serial : Option ℕ) (answers : List PollerAnswer) → ((n : ℕ) → serial ≡ Some n → n ≤ w.serials)
    → RunningSound w.begun (Some round) → Within w → Leaves (handle_source w round event serial answers)
source_leaves w round event None answers few runs k = record { stands = with_round w (Some round) runs k }
source_leaves w round event (Some serial) answers few runs k =
    let dirs = directions_of event.on in
    let t = taken w serial round dirs (record { few = few serial refl; runs = runs; stands = k }) in
    let now_taken : RoundState = record round { taken = round.taken ++ wakers_taken w serial round.begin dirs } in
    rearmed_leaves (record (world_taken w serial round.begin dirs) { round = Some now_taken }) now_taken event.key serial answers
    (record { few = t.few; runs = t.runs; stands = with_round (world_taken w serial round.begin dirs) (Some now_taken) t.runs t.stands })

first_leaves : (w : World) (round : RoundState) (events : List Event) (answers : List PollerAnswer) → RunningSound w.begun (Some round) → Within w
    → Leaves (handle_first w round events answers)
first_leaves w round [] answers runs k = record { stands = k }
first_leaves w round (event ∷ events) answers runs k =
    source_leaves w (record round { in_hand = events }) event (serial_of w event.key.0) answers (serial_few w event.key.0 _ refl k) runs k

handle_leaves : (w : World) (round : Option RoundState) (answers : List PollerAnswer) → RunningSound w.begun round → Within w → Leaves (handle_in w round answers)
handle_leaves w None answers runs k = record { stands = k }
handle_leaves w (Some round) answers runs k = first_leaves w round round.in_hand answers runs k

finish_leaves : (w : World) (round : Option RoundState) (answers : List PollerAnswer) → Within w → Leaves (finish_in w round answers)
finish_leaves w None answers k = record { stands = k }
finish_leaves w (Some round) answers k = either Leaves (is_empty_list round.in_hand) _ _ (record { stands = with_round w None tt k }) (record { stands = k })

react_leaves : (w : World) (given : Option ℕ) (answers : List PollerAnswer) → KeptBefore w.pos w → Leaves (react w given answers)
react_leaves w given answers k = record {
  stands = react_any Within w given answers (inside w k) (begin_leaves w given answers k).stands
      (λ v answers k. (wait_leaves v v.round answers k.past.running k).stands) (λ v answers k. (handle_leaves v v.round answers k.past.running k).stands)
      (λ v answers k. (finish_leaves v v.round answers k).stands);
}

-- ## Steps and runs

case_leaves : (w : World) (s : Step) (answers : List PollerAnswer) → KeptBefore w.pos w → Within w → Leaves (case_of w s answers)
case_leaves w step.Add answers x k = add_leaves w answers k
case_leaves w (step.Del key) answers x k = del_leaves w key.0 (serial_of w key.0) answers k
case_leaves w (step.Poll key dir waker) answers x k = poll_leaves w key.0 dir waker (serial_of w key.0) answers (serial_few w key.0 _ refl k) k
case_leaves w (step.New key dir) answers x k = new_leaves w dir (serial_of w key.0) answers (serial_few w key.0 _ refl k) k
case_leaves w (step.StepEar number waker) answers x k = step_leaves w number waker (find (is_listener number) w.listeners) answers refl k
case_leaves w (step.DropEar number) answers x k = drop_leaves w number (find (is_listener number) w.listeners) answers k
case_leaves w (step.Tick number waker) answers x k = record { stands = tick_timers Within w waker (find (is_timer number) w.timers) answers (λ timers registrations ids. k) }
case_leaves w (step.SetAt number deadline) answers x k = record { stands = set_timers Within w deadline None (find (is_timer number) w.timers) answers (λ timers registrations ids. k) }
case_leaves w (step.SetEvery number deadline period) answers x k =
    record { stands = set_timers Within w deadline (Some period) (find (is_timer number) w.timers) answers (λ timers registrations ids. k) }
case_leaves w (step.End number) answers x k = record { stands = end_timers Within w (find (is_timer number) w.timers) answers (λ timers registrations ids. k) }
case_leaves w (step.Now moment) answers x k = clock_leaves w moment answers k
case_leaves w (step.Begin limit) answers x k = begin_leaves w limit answers x
case_leaves w step.Wait answers x k = wait_leaves w w.round answers k.past.running k
case_leaves w step.Handle answers x k = handle_leaves w w.round answers k.past.running k
case_leaves w step.Finish answers x k = finish_leaves w w.round answers k
case_leaves w step.React answers x k = react_leaves w None answers x
case_leaves w _ answers x k = record { stands = k }

step_kept : (w : World) (s : PolledStep) → KeptBefore w.pos w → KeptBefore (outcome_of w s).world.pos (outcome_of w s).world
unfolding step_result
step_kept w s k = (case_leaves w s.step s.answers k (inside w k)).stands

kept_along : (run : List PolledStep) (w : World) → KeptBefore w.pos w → KeptBefore (world_of w run).pos (world_of w run)
kept_along [] w k = k
kept_along (s ∷ run) w k = kept_along run (outcome_of w s).world (step_kept w s k)

pub run_keeps : (run : List PolledStep) → KeptBefore (world_of opening run).pos (world_of opening run)
run_keeps run = kept_along run opening (record {
  live_given = λ s among. none_is_in s among;
  waiters_given = λ p among. none_is_in p among;
  marks_given = λ m among. none_is_in m among;
  listeners_given = λ l among. none_is_in l among;
  broken_given = λ b among. none_is_in b among;
  handled_given = λ h among. none_is_in h among;
  past = record { counted = refl; before = λ p among. none_is_in p among; marks_before = λ m among. none_is_in m among; of_rounds = tt; running = tt };
})
