-- Nothing stands twice in the lists of a world, and each registration is that of a timer, after each step and so after every run. That listeners
-- and registrations differ is said where storings are counted.
use Rattle.std.proofs.Common.{◌≡◌, ◌≢◌, ℕ, ◌+◌, ◌≤◌, Bool, true, false, not, cond, ◌&&◌, ◌||◌, ◌==◌, List, [], ◌∷◌, ◌++◌, length, map, find, Option, None, Some, is_some, refl, ap, ◌∙◌, sym, ⊎_elim, arith, ◌⊎◌, inl, inr, subst}
use Rattle.std.specs.Prelude.{nat_lt, nat_le, option_to_list, unwrap_or}
use Rattle.std.specs.List.{All, Contains, filter, list_any}
use Rattle.std.proofs.lemmas.Bool.{cond-true, cond-false, eq-eqb, eqb-true, ne_eqb, not_from_false}
use Rattle.std.proofs.lemmas.List.Elements.{All-contains, Contains-append_left, Contains-push_cases}
use Rattle.aio_base.specs.declared.names.Key.{Key}
use Rattle.aio_base.specs.declared.names.Waker.{Waker}
use Rattle.aio_base.specs.declared.names.Dir.{Dir}
use Rattle.aio_base.specs.declared.names.Event.{Event}
use Rattle.aio_base.specs.declared.steps.Step.{Step}
use Rattle.aio_base.specs.declared.steps.Step.TheVariants as step
use Rattle.aio_base.specs.World.{PollerAnswer, LiveSource, PollWaiter, Mark, ListenerEntry, BrokenSource, Registration, TimerEntry, RoundState, World, opening, directions_of, is_of, serial_of, key_of, poll_waiter, mark_of, is_empty_list, is_idle, wanted, is_broken}
use Rattle.aio_base.specs.Machine.{Outcome, fails, next_answer, broken_world, armed_world, after_arm, pending, source_limit, free_key, add, del_source, is_fresh_since, is_waker, with_waiter, poll_source, new_listener, is_listener, with_listening, step_listener, drop_listener, is_timer, new_timer, with_timer, unregistered, registered, tick_timer, set_timer, end_timer, set_clock, begin_round, wait_in, without_waiters, world_taken, rearmed, handle_source, handle_first, handle_in, finish_in, react, case_of, step_result, gave_none, is_zero, left_as, worked, state_of}
use Rattle.aio_base.specs.TimerWork.{TimerState, joining, reset_work}
use Rattle.aio_base.specs.Timers.{after_pass}
use Rattle.aio_laws.specs.Distinct.{waiter_direction, mark_direction, IsOfTimer, NoDoubles, StandsOnce}
use Rattle.aio_base.specs.Runs.{PolledStep, outcome_of, world_of}
use Rattle.aio_laws.proofs.runs.Apart.{Apart, same_element, filtered_apart, mapped_apart, pushed_apart, replaced_apart, apart_differ, differ_apart}
use Rattle.aio_laws.proofs.steps.FreeKeys.{free_key-free}
use Rattle.aio_laws.proofs.steps.Frames.{either, either_world, react_any, wait_any}
use Rattle.aio_base.proofs.Membership.{none_is_in, each_in, filtered_is_in, filtered_passes, passing_is_kept, mapped_from, image_is_in, found_is_in, none_passes}
use Rattle.aio_laws.proofs.storings.Holding.{Orders, holding_of}
use Rattle.aio_laws.proofs.storings.OnceRuns.{run_orders}
use Rattle.aio_laws.proofs.storings.Waking.{step_orders}
use Rattle.aio_base.proofs.WaiterLemmas.{is_of-from}

-- these lists of a world, and how many numbers were given
record Lists : Type 0 where
  live : List LiveSource
  serials : ℕ
  polls : List PollWaiter
  marks : List Mark
  broken : List BrokenSource
  timers : List TimerEntry
  made : ℕ
  registrations : List Registration

abbrev lists_of : World → Lists
lists_of w = record {
  live = w.live;
  serials = w.serials;
  polls = w.poll_waiters;
  marks = w.marks;
  broken = w.broken;
  timers = w.timers;
  made = w.timers_made;
  registrations = w.registrations;
}

-- keys and serials differ, and the serials were given
record SourcesDiffer (live : List LiveSource) (given : ℕ) : Type 0 where
  keys : Apart (λ (s : LiveSource). s.key) live
  serials : Apart (λ (s : LiveSource). s.serial) live
  were_given : (s : LiveSource) → Contains live s → s.serial ≤ given

-- the numbers of timers differ, and were given
record TimersDiffer (timers : List TimerEntry) (made : ℕ) : Type 0 where
  numbers : Apart (λ (t : TimerEntry). t.number) timers
  were_made : (t : TimerEntry) → Contains timers t → t.number ≤ made

-- each registration is that of a timer
abbrev Timed : List TimerEntry → List Registration → Type 0
Timed timers registrations = (r : Registration) → Contains registrations r → IsOfTimer timers r

-- nothing stands twice in these lists
record Singles (l : Lists) : Type 0 where
  sources : SourcesDiffer l.live l.serials
  polls : Apart waiter_direction l.polls
  marks : Apart mark_direction l.marks
  broken : Apart (λ (b : BrokenSource). b.serial) l.broken
  timers : TimersDiffer l.timers l.made
  timed : Timed l.timers l.registrations

-- what a step, or a section of a round, leaves
abbrev Within : World → Type 0
Within w = Singles (lists_of w)

record Leaves (o : Outcome) : Type 0 where
  stands : Within o.world

-- ## Sources

broken_apart : (serial : ℕ) (b : BrokenSource) → not (b.serial == serial) ≡ true → b.serial ≢ serial
broken_apart serial b kept same = let there = eq-eqb b.serial serial same in cc

direction_apart : (serial : ℕ) (dir : Dir) (a b : ℕ × Dir) → b.0 ≡ serial → b.1 ≡ dir → not (is_of serial dir a.0 a.1) ≡ true → a ≢ b
direction_apart serial dir a b first second kept same =
    let there = is_of-from serial dir a.0 a.1 (ap (λ (pair : ℕ × Dir). pair.0) same ∙ first) (ap (λ (pair : ℕ × Dir). pair.1) same ∙ second) in cc

arm_singles : (w : World) (key serial : ℕ) (told : PollerAnswer) → Singles (lists_of w) → Singles (lists_of (after_arm w key serial told))
arm_singles w key serial told s =
    either_world Within (fails told) (broken_world w serial) (armed_world w key serial)
    (record {
      sources = s.sources;
      polls = s.polls;
      marks = s.marks;
      broken = replaced_apart (λ (b : BrokenSource). b.serial) (λ (b : BrokenSource). not (b.serial == serial)) w.broken
          (record { serial = serial; position = w.pos }) (broken_apart serial) s.broken;
      timers = s.timers;
      timed = s.timed;
    })
    (record {
      sources = s.sources;
      polls = s.polls;
      marks = s.marks;
      broken = filtered_apart (λ (b : BrokenSource). b.serial) (λ (b : BrokenSource). not (b.serial == serial)) w.broken s.broken;
      timers = s.timers;
      timed = s.timed;
    })

pending_leaves : (arms : Bool) (w : World) (key serial : ℕ) (wakes : List Waker) (answers : List PollerAnswer) → Singles (lists_of w)
    → Leaves (pending arms w key serial wakes answers)
pending_leaves false w key serial wakes answers s = record { stands = s }
pending_leaves true w key serial wakes answers s = record { stands = arm_singles w key serial (next_answer answers) s }

one_more_differs : (live : List LiveSource) (given : ℕ) → SourcesDiffer live given
    → SourcesDiffer (live ++ record { key = free_key live; serial = given + 1 } ∷ []) (given + 1)
one_more_differs live given d =
    let source : LiveSource = record { key = free_key live; serial = given + 1 } in
    record {
      keys = pushed_apart (λ (s : LiveSource). s.key) live source d.keys
          (λ y among same. none_passes (λ (s : LiveSource). s.key == free_key live) live y (free_key-free live) among (eq-eqb y.key (free_key live) same));
      serials = pushed_apart (λ (s : LiveSource). s.serial) live source d.serials
          (λ y among same. let before = d.were_given y among in let now : y.serial ≡ given + 1 = same in absurd (omega arith));
      were_given = λ y among.
          ⊎_elim
          (λ (old : Contains live y). let before = d.were_given y old in omega arith)
          (λ (new : source ≡ y). let same : given + 1 ≡ y.serial = ap (λ (s : LiveSource). s.serial) new in omega arith)
          (Contains-push_cases live source y among);
    }

add_leaves : (w : World) (answers : List PollerAnswer) → Singles (lists_of w) → Leaves (add w answers)
add_leaves w answers s =
    either Leaves (nat_le source_limit (length w.live)) _ _ (record { stands = s })
    (record {
      stands = either_world Within (fails (next_answer answers)) w _ s
          (record {
            sources = one_more_differs w.live w.serials s.sources;
            polls = s.polls;
            marks = s.marks;
            broken = s.broken;
            timers = s.timers;
            timed = s.timed;
          });
    })

del_leaves : (w : World) (key : ℕ) (serial : Option ℕ) (answers : List PollerAnswer) → Singles (lists_of w) → Leaves (del_source w key serial answers)
del_leaves w key None answers s = record { stands = s }
del_leaves w key (Some serial) answers s =
    either Leaves (list_any (λ (l : ListenerEntry). l.serial == serial) w.listeners) _ _ (record { stands = s })
    (record {
      stands = record {
        sources = record {
          keys = filtered_apart (λ (s : LiveSource). s.key) (λ (s : LiveSource). not (s.serial == serial)) w.live s.sources.keys;
          serials = filtered_apart (λ (s : LiveSource). s.serial) (λ (s : LiveSource). not (s.serial == serial)) w.live s.sources.serials;
          were_given = λ y among. s.sources.were_given y (filtered_is_in (λ (s : LiveSource). not (s.serial == serial)) w.live y among);
        };
        polls = filtered_apart waiter_direction (λ (p : PollWaiter). not (p.serial == serial)) w.poll_waiters s.polls;
        marks = filtered_apart mark_direction (λ (m : Mark). not (m.serial == serial)) w.marks s.marks;
        broken = filtered_apart (λ (b : BrokenSource). b.serial) (λ (b : BrokenSource). not (b.serial == serial)) w.broken s.broken;
        timers = s.timers;
        timed = s.timed;
      };
    })

waiter_singles : (w : World) (serial : ℕ) (dir : Dir) (waker : Waker) → Singles (lists_of w) → Singles (lists_of (with_waiter w serial dir waker))
waiter_singles w serial dir waker s = record {
  sources = s.sources;
  polls = replaced_apart waiter_direction (λ (p : PollWaiter). not (is_of serial dir p.serial p.dir)) w.poll_waiters
      (record { serial = serial; dir = dir; waker = waker }) (λ y kept. direction_apart serial dir (waiter_direction y) _ refl refl kept) s.polls;
  marks = replaced_apart mark_direction (λ (m : Mark). not (is_of serial dir m.serial m.dir)) w.marks
      (record { serial = serial; dir = dir; position = w.pos }) (λ y kept. direction_apart serial dir (mark_direction y) _ refl refl kept) s.marks;
  broken = s.broken;
  timers = s.timers;
  timed = s.timed;
}

poll_leaves : (w : World) (key : ℕ) (dir : Dir) (waker : Waker) (serial : Option ℕ) (answers : List PollerAnswer) → Singles (lists_of w)
    → Leaves (poll_source w key dir waker serial answers)
poll_leaves w key dir waker None answers s = record { stands = s }
poll_leaves w key dir waker (Some serial) answers s =
    let waiter = poll_waiter w.poll_waiters serial dir in
    either Leaves (is_fresh_since w serial dir (mark_of w.marks serial dir)) _ _
    (record {
      stands = record {
        sources = s.sources;
        polls = s.polls;
        marks = filtered_apart mark_direction (λ (m : Mark). not (is_of serial dir m.serial m.dir)) w.marks s.marks;
        broken = s.broken;
        timers = s.timers;
        timed = s.timed;
      };
    })
    (either Leaves (is_waker waker waiter) _ _ (pending_leaves (is_broken w serial) w key serial [] answers s)
    (pending_leaves (is_idle w serial dir || is_broken w serial) (with_waiter w serial dir waker) key serial (option_to_list waiter) answers
    (waiter_singles w serial dir waker s)))

-- ## Listeners

new_leaves : (w : World) (dir : Dir) (serial : Option ℕ) (answers : List PollerAnswer) → Singles (lists_of w) → Leaves (new_listener w dir serial answers)
new_leaves w dir None answers s = record { stands = s }
new_leaves w dir (Some serial) answers s = record { stands = s }

step_leaves : (w : World) (waker : Waker) (entry : Option ListenerEntry) (answers : List PollerAnswer) → Singles (lists_of w)
    → Leaves (step_listener w waker entry answers)
step_leaves w waker None answers s = record { stands = s }
step_leaves w waker (Some entry) answers s =
    either Leaves (is_fresh_since w entry.serial entry.dir entry.position) _ _ (record { stands = s })
    (pending_leaves (is_idle w entry.serial entry.dir || is_broken w entry.serial) (record w { listeners = with_listening w entry waker })
    (unwrap_or (key_of w entry.serial) 0) entry.serial [] answers s)

drop_leaves : (w : World) (number : ℕ) (entry : Option ListenerEntry) (answers : List PollerAnswer) → Singles (lists_of w)
    → Leaves (drop_listener w number entry answers)
drop_leaves w number None answers s = record { stands = s }
drop_leaves w number (Some entry) answers s = record { stands = s }

-- ## Timers and the clock

one_more_made : (timers : List TimerEntry) (made : ℕ) (timer : TimerEntry) → timer.number ≡ made + 1 → TimersDiffer timers made
    → TimersDiffer (timers ++ timer ∷ []) (made + 1)
one_more_made timers made timer next d = record {
  numbers = pushed_apart (λ (t : TimerEntry). t.number) timers timer d.numbers
      (λ y among same. let before = d.were_made y among in let now : y.number ≡ made + 1 = same ∙ next in absurd (omega arith));
  were_made = λ y among.
      ⊎_elim
      (λ (old : Contains timers y). let before = d.were_made y old in omega arith)
      (λ (new : timer ≡ y). let same : made + 1 ≡ y.number = sym next ∙ ap (λ (t : TimerEntry). t.number) new in omega arith)
      (Contains-push_cases timers timer y among);
}

-- the world with other timers and registrations
with_timers : (w : World) (timers : List TimerEntry) (made : ℕ) (registrations : List Registration) → Singles (lists_of w) → TimersDiffer timers made
    → Timed timers registrations → Singles (lists_of (record w { timers = timers; timers_made = made; registrations = registrations }))
with_timers w timers made registrations s differ timed = record {
  sources = s.sources;
  polls = s.polls;
  marks = s.marks;
  broken = s.broken;
  timers = differ;
  timed = timed;
}

still_timed : (timers later : List TimerEntry) (r : Registration) → ((t : TimerEntry) → Contains timers t → Contains later t) → IsOfTimer timers r
    → IsOfTimer later r
still_timed timers later r stays of = record { timer = of.timer; among = stays of.timer of.among; id = of.id; deadline = of.deadline; kept = of.kept }

-- fewer registrations are those of timers too
fewer_timed : (w : World) (p : Registration → Bool) → Singles (lists_of w) → Singles (lists_of (record w { registrations = filter p w.registrations }))
fewer_timed w p s =
    with_timers w w.timers w.timers_made (filter p w.registrations) s s.timers (λ r among. s.timed r (filtered_is_in p w.registrations r among))

made_leaves : (w : World) (deadline period : Option ℕ) (answers : List PollerAnswer) → Singles (lists_of w) → Leaves (new_timer w deadline period answers)
made_leaves w deadline period answers s =
    let timer : TimerEntry = record { number = w.timers_made + 1; deadline = deadline; period = period; id = None; kept = None } in
    record {
      stands = with_timers w (w.timers ++ timer ∷ []) (w.timers_made + 1) w.registrations s (one_more_made w.timers w.timers_made timer refl s.timers)
          (λ r among. still_timed w.timers (w.timers ++ timer ∷ []) r (λ t here. Contains-append_left w.timers (timer ∷ []) t here) (s.timed r among));
    }

pub number_stays : (entry t : TimerEntry) (here : Bool) → (t.number == entry.number) ≡ here → (cond here entry t).number ≡ t.number
number_stays entry t true same = sym (eqb-true t.number entry.number same)
number_stays entry t false other = refl

-- ### A timer is changed

-- a registration is that of a timer of another number
record IsOfOther (timers : List TimerEntry) (number : ℕ) (r : Registration) : Type 0 where
  of : IsOfTimer timers r
  other : of.timer.number ≢ number

abbrev Others : List TimerEntry → ℕ → List Registration → Type 0
Others timers number registrations = (r : Registration) → Contains registrations r → IsOfOther timers number r

-- what a timer that is to be changed leaves: the other timers' registrations alone
record Freed (w : World) (entry : TimerEntry) : Type 0 where
  singles : Singles (lists_of w)
  here : Contains w.timers entry
  others : Others w.timers entry.number w.registrations

pub none_is_some : {X : Type 0} (id : Option ℕ) (n : ℕ) → id ≡ None → id ≡ Some n → X
none_is_some id n none some = let wrong : None ≡ Some n = sym none ∙ some in absurd cc

pub same_id : (id : Option ℕ) (m n : ℕ) → id ≡ Some m → id ≡ Some n → n ≡ m
same_id id m n first second = let same : Some n ≡ Some m = sym second ∙ first in cc

freed : (w : World) (entry : TimerEntry) (id : Option ℕ) → entry.id ≡ id → Contains w.timers entry → Singles (lists_of w) → Freed (unregistered w id) entry
freed w entry None at here s = record {
  singles = s;
  here = here;
  others = λ r among.
      let of = s.timed r among in
      record {
        of = of;
        other = λ same.
            let entry_is = same_element (λ (t : TimerEntry). t.number) w.timers of.timer entry s.timers.numbers of.among here same in
            none_is_some entry.id r.id at (ap (λ (t : TimerEntry). t.id) (sym entry_is) ∙ of.id);
      };
}
freed w entry (Some id) at here s = record {
  singles = fewer_timed w (λ (r : Registration). not (r.id == id)) s;
  here = here;
  others = λ r among.
      let of = s.timed r (filtered_is_in (λ (r : Registration). not (r.id == id)) w.registrations r among) in
      record {
        of = of;
        other = λ same.
            let entry_is = same_element (λ (t : TimerEntry). t.number) w.timers of.timer entry s.timers.numbers of.among here same in
            let gone = eq-eqb r.id id (same_id entry.id id r.id at (ap (λ (t : TimerEntry). t.id) (sym entry_is) ∙ of.id)) in
            let kept = filtered_passes (λ (r : Registration). not (r.id == id)) w.registrations r among in
            let wrong : false ≡ true = sym (ap not gone) ∙ kept in cc;
      };
}

-- with the changed timer in its place, and these registrations
changed_singles : (w : World) (entry now : TimerEntry) (registrations : List Registration) → Freed w entry → now.number ≡ entry.number
    → ((r : Registration) → Contains registrations r
    → Contains w.registrations r ⊎ ((now.id ≡ Some r.id) × (now.deadline ≡ Some r.deadline) × (now.kept ≡ Some r.waker)))
    → Singles (lists_of (record (with_timer w now) { registrations = registrations }))
changed_singles w entry now registrations f same cases =
    let s = f.singles in
    let g : TimerEntry → TimerEntry = λ t. cond (is_timer now.number t) now t in
    with_timers w (map g w.timers) w.timers_made registrations s
    (record {
      numbers = mapped_apart (λ (t : TimerEntry). t.number) g (λ t. number_stays now t (t.number == now.number) refl) w.timers s.timers.numbers;
      were_made = λ y among.
          let image = mapped_from g w.timers y among in
          let before = s.timers.were_made image.0 image.1 in
          let kept : y.number ≡ image.0.number = ap (λ (t : TimerEntry). t.number) (sym image.2) ∙ number_stays now image.0 (image.0.number == now.number) refl in
          omega arith;
    })
    (λ r among.
    ⊎_elim
    (λ (old : Contains w.registrations r).
    let o = f.others r old in
    let stays : g o.of.timer ≡ o.of.timer = cond-false (is_timer now.number o.of.timer) _ _ (ne_eqb o.of.timer.number now.number (λ e. o.other (e ∙ same))) in
    record {
      timer = o.of.timer;
      among = subst (Contains (map g w.timers)) stays (image_is_in g w.timers o.of.timer o.of.among);
      id = o.of.id;
      deadline = o.of.deadline;
      kept = o.of.kept;
    })
    (λ (new : (now.id ≡ Some r.id) × (now.deadline ≡ Some r.deadline) × (now.kept ≡ Some r.waker)).
    let becomes : g entry ≡ now = cond-true (is_timer now.number entry) _ _ (eq-eqb entry.number now.number (sym same)) in
    record {
      timer = now;
      among = subst (Contains (map g w.timers)) becomes (image_is_in g w.timers entry f.here);
      id = new.0;
      deadline = new.1;
      kept = new.2;
    })
    (cases r among))

-- with no registration of its own
quiet_singles : (w : World) (entry now : TimerEntry) → Freed w entry → now.number ≡ entry.number → Singles (lists_of (with_timer w now))
quiet_singles w entry now f same = changed_singles w entry now w.registrations f same (λ r among. inl among)

registered_singles : (w : World) (entry now : TimerEntry) (deadline : ℕ) (waker : Waker) → Freed w entry → now.number ≡ entry.number
    → Singles (lists_of (registered w now deadline waker))
registered_singles w entry now deadline waker f same =
    let new : Registration = record { id = w.ids_drawn + 1; deadline = deadline; waker = waker } in
    changed_singles w entry (record now { deadline = Some deadline; id = Some (w.ids_drawn + 1); kept = Some waker }) (w.registrations ++ new ∷ []) f same
    (λ r among.
    ⊎_elim
    (λ (old : Contains w.registrations r). inl old)
    (λ (is : new ≡ r).
    inr (ap (λ (x : Registration). Some x.id) is, ap (λ (x : Registration). Some x.deadline) is, ap (λ (x : Registration). Some x.waker) is))
    (Contains-push_cases w.registrations new r among))

left_singles : (w : World) (entry left : TimerEntry) (registration : Option (ℕ × Waker)) → Freed w entry → left.number ≡ entry.number
    → Singles (lists_of (left_as w left registration))
left_singles w entry left None f same = quiet_singles w entry left f same
left_singles w entry left (Some registration) f same = registered_singles w entry left registration.0 registration.1 f same

worked_singles : (w : World) (entry : TimerEntry) (becomes : Option TimerState) → Contains w.timers entry → Singles (lists_of w)
    → Singles (lists_of (worked w entry becomes))
worked_singles w entry None here s = s
worked_singles w entry (Some timer) here s =
    left_singles (unregistered w entry.id) entry _ (joining timer) (freed w entry entry.id refl here s) refl

tick_leaves : (w : World) (number : ℕ) (waker : Waker) (entry : Option TimerEntry) (answers : List PollerAnswer)
    → find (is_timer number) w.timers ≡ entry → Singles (lists_of w) → Leaves (tick_timer w waker entry answers)
tick_leaves w number waker None answers found s = record { stands = s }
tick_leaves w number waker (Some entry) answers found s =
    record { stands = worked_singles w entry _ (found_is_in (is_timer number) w.timers entry found).0 s }

set_leaves : (w : World) (number deadline : ℕ) (period : Option ℕ) (entry : Option TimerEntry) (answers : List PollerAnswer)
    → find (is_timer number) w.timers ≡ entry → Singles (lists_of w) → Leaves (set_timer w deadline period entry answers)
set_leaves w number deadline period None answers found s = record { stands = s }
set_leaves w number deadline period (Some entry) answers found s =
    record { stands = worked_singles w entry (reset_work (state_of entry) deadline period).becomes (found_is_in (is_timer number) w.timers entry found).0 s }

ended_singles : (w : World) (entry : TimerEntry) → Freed w entry
    → Singles (lists_of (record w { timers = filter (λ t. not (is_timer entry.number t)) w.timers }))
ended_singles w entry f =
    let s = f.singles in
    let p : TimerEntry → Bool = λ t. not (is_timer entry.number t) in
    with_timers w (filter p w.timers) w.timers_made w.registrations s
    (record {
      numbers = filtered_apart (λ (t : TimerEntry). t.number) p w.timers s.timers.numbers;
      were_made = λ y among. s.timers.were_made y (filtered_is_in p w.timers y among);
    })
    (λ r among.
    let o = f.others r among in
    record {
      timer = o.of.timer;
      among = passing_is_kept p w.timers o.of.timer (not_from_false (o.of.timer.number == entry.number) (ne_eqb o.of.timer.number entry.number o.other)) o.of.among;
      id = o.of.id;
      deadline = o.of.deadline;
      kept = o.of.kept;
    })

end_leaves : (w : World) (number : ℕ) (entry : Option TimerEntry) (answers : List PollerAnswer) → find (is_timer number) w.timers ≡ entry
    → Singles (lists_of w) → Leaves (end_timer w entry answers)
end_leaves w number None answers found s = record { stands = s }
end_leaves w number (Some entry) answers found s =
    record { stands = ended_singles (unregistered w entry.id) entry (freed w entry entry.id refl (found_is_in (is_timer number) w.timers entry found).0 s) }

clock_leaves : (w : World) (moment : ℕ) (answers : List PollerAnswer) → Singles (lists_of w) → Leaves (set_clock w moment answers)
clock_leaves w moment answers s = either Leaves (nat_lt moment w.now) _ _ (record { stands = s }) (record { stands = s })

-- ## Rounds

begin_leaves : (w : World) (given : Option ℕ) (answers : List PollerAnswer) → Singles (lists_of w) → Leaves (begin_round w given answers)
begin_leaves w given answers s =
    either Leaves (is_some w.round) _ _ (record { stands = s }) (record { stands = fewer_timed w (λ (r : Registration). not (nat_le r.deadline w.now)) s })

wait_leaves : (w : World) (round : Option RoundState) (answers : List PollerAnswer) → Within w → Leaves (wait_in w round answers)
wait_leaves w round answers s = record { stands = wait_any Within w round answers (λ after armed. s) }

taken_singles : (w : World) (serial begin : ℕ) (dirs : List Dir) → Singles (lists_of w) → Singles (lists_of (world_taken w serial begin dirs))
taken_singles w serial begin [] s = s
taken_singles w serial begin (dir ∷ dirs) s =
    taken_singles (without_waiters w serial begin dir) serial begin dirs
    (record {
      sources = s.sources;
      polls = filtered_apart waiter_direction (λ (p : PollWaiter). not (is_of serial dir p.serial p.dir)) w.poll_waiters s.polls;
      marks = s.marks;
      broken = s.broken;
      timers = s.timers;
      timed = s.timed;
    })

rearmed_leaves : (w : World) (round : RoundState) (key : Key) (serial : ℕ) (answers : List PollerAnswer) → Singles (lists_of w)
    → Leaves (rearmed w round key serial answers)
rearmed_leaves w round key serial answers s =
    let arm = arm_singles w key.0 serial (next_answer answers) s in
    either Leaves (is_empty_list (wanted w serial)) _ _ (record { stands = s })
    (record { stands = either_world Within (fails (next_answer answers)) _ (after_arm w key.0 serial (next_answer answers)) arm arm })

source_leaves : (w : World) (round : RoundState) (event : Event) (serial : Option ℕ) (answers : List PollerAnswer) → Singles (lists_of w)
    → Leaves (handle_source w round event serial answers)
source_leaves w round event None answers s = record { stands = s }
source_leaves w round event (Some serial) answers s =
    rearmed_leaves _ _ event.key serial answers (taken_singles w serial round.begin (directions_of event.on) s)

first_leaves : (w : World) (round : RoundState) (events : List Event) (answers : List PollerAnswer) → Singles (lists_of w)
    → Leaves (handle_first w round events answers)
first_leaves w round [] answers s = record { stands = s }
first_leaves w round (event ∷ events) answers s = source_leaves w _ event (serial_of w event.key.0) answers s

handle_leaves : (w : World) (round : Option RoundState) (answers : List PollerAnswer) → Singles (lists_of w) → Leaves (handle_in w round answers)
handle_leaves w None answers s = record { stands = s }
handle_leaves w (Some round) answers s = first_leaves w round round.in_hand answers s

either_timed : (test : Bool) (timers : List TimerEntry) (a b : List Registration) → Timed timers a → Timed timers b → Timed timers (cond test a b)
either_timed true timers a b first second = first
either_timed false timers a b first second = second

finish_leaves : (w : World) (round : Option RoundState) (answers : List PollerAnswer) → Singles (lists_of w) → Leaves (finish_in w round answers)
finish_leaves w None answers s = record { stands = s }
finish_leaves w (Some round) answers s =
    let second = gave_none round.last_wait && not (is_zero round.limit) in
    either Leaves (is_empty_list round.in_hand) _ _
    (record {
      stands = with_timers w w.timers w.timers_made (cond second (after_pass w.now w.registrations) w.registrations) s s.timers
          (either_timed second w.timers (after_pass w.now w.registrations) w.registrations
          (λ r among. s.timed r (filtered_is_in (λ (r : Registration). not (nat_le r.deadline w.now)) w.registrations r among)) s.timed);
    })
    (record { stands = s })

react_leaves : (w : World) (given : Option ℕ) (answers : List PollerAnswer) → Within w → Leaves (react w given answers)
react_leaves w given answers s = record {
  stands = react_any Within w given answers s (begin_leaves w given answers s).stands (λ v answers s. (wait_leaves v v.round answers s).stands)
      (λ v answers s. (handle_leaves v v.round answers s).stands) (λ v answers s. (finish_leaves v v.round answers s).stands);
}

-- ## Steps and runs

case_leaves : (w : World) (s : Step) (answers : List PollerAnswer) → Singles (lists_of w) → Leaves (case_of w s answers)
case_leaves w step.Add answers x = add_leaves w answers x
case_leaves w (step.Del key) answers x = del_leaves w key.0 (serial_of w key.0) answers x
case_leaves w (step.Poll key dir waker) answers x = poll_leaves w key.0 dir waker (serial_of w key.0) answers x
case_leaves w (step.New key dir) answers x = new_leaves w dir (serial_of w key.0) answers x
case_leaves w (step.StepEar number waker) answers x = step_leaves w waker (find (is_listener number) w.listeners) answers x
case_leaves w (step.DropEar number) answers x = drop_leaves w number (find (is_listener number) w.listeners) answers x
case_leaves w (step.TimerAt deadline) answers x = made_leaves w (Some deadline) None answers x
case_leaves w (step.TimerEvery deadline period) answers x = made_leaves w (Some deadline) (Some period) answers x
case_leaves w step.TimerNever answers x = made_leaves w None None answers x
case_leaves w (step.Tick number waker) answers x = tick_leaves w number waker (find (is_timer number) w.timers) answers refl x
case_leaves w (step.SetAt number deadline) answers x = set_leaves w number deadline None (find (is_timer number) w.timers) answers refl x
case_leaves w (step.SetEvery number deadline period) answers x = set_leaves w number deadline (Some period) (find (is_timer number) w.timers) answers refl x
case_leaves w (step.End number) answers x = end_leaves w number (find (is_timer number) w.timers) answers refl x
case_leaves w (step.Now moment) answers x = clock_leaves w moment answers x
case_leaves w (step.Begin limit) answers x = begin_leaves w limit answers x
case_leaves w step.Wait answers x = wait_leaves w w.round answers x
case_leaves w step.Handle answers x = handle_leaves w w.round answers x
case_leaves w step.Finish answers x = finish_leaves w w.round answers x
case_leaves w step.React answers x = react_leaves w None answers x
case_leaves w _ answers x = record { stands = x }

step_singles : (w : World) (s : PolledStep) → Singles (lists_of w) → Singles (lists_of (outcome_of w s).world)
unfolding step_result
step_singles w s x = (case_leaves w s.step s.answers x).stands

run_singles : (run : List PolledStep) (w : World) → Singles (lists_of w) → Singles (lists_of (world_of w run))
run_singles [] w x = x
run_singles (s ∷ run) w x = run_singles run (outcome_of w s).world (step_singles w s x)

opening_singles : Singles (lists_of opening)
opening_singles = record {
  sources = record { keys = tt; serials = tt; were_given = λ s among. none_is_in s among };
  polls = tt;
  marks = tt;
  broken = tt;
  timers = record { numbers = tt; were_made = λ t among. none_is_in t among };
  timed = λ r among. none_is_in r among;
}

-- where nothing stands twice, in these lists and among listeners and registrations
no_doubles : (w : World) → Singles (lists_of w) → Orders (holding_of w) → NoDoubles w
no_doubles w s o = record {
  keys = apart_differ (λ (s : LiveSource). s.key) w.live s.sources.keys;
  serials = apart_differ (λ (s : LiveSource). s.serial) w.live s.sources.serials;
  serials_given = each_in (λ (s : LiveSource). s.serial ≤ w.serials) w.live s.sources.were_given;
  poll_waiters = apart_differ waiter_direction w.poll_waiters s.polls;
  marks = apart_differ mark_direction w.marks s.marks;
  broken = apart_differ (λ (b : BrokenSource). b.serial) w.broken s.broken;
  listeners = apart_differ (λ (l : ListenerEntry). l.number) w.listeners o.numbers_differ;
  listeners_drawn = each_in (λ (l : ListenerEntry). l.number ≤ w.listeners_drawn) w.listeners o.numbers_drawn;
  registrations = apart_differ (λ (r : Registration). r.id) w.registrations o.ids_differ;
  ids_drawn = each_in (λ (r : Registration). r.id ≤ w.ids_drawn) w.registrations o.ids_drawn;
  timers = apart_differ (λ (t : TimerEntry). t.number) w.timers s.timers.numbers;
  timers_made = each_in (λ (t : TimerEntry). t.number ≤ w.timers_made) w.timers s.timers.were_made;
}

pub run_has_no_doubles : (run : List PolledStep) → NoDoubles (world_of opening run)
run_has_no_doubles run = no_doubles (world_of opening run) (run_singles run opening opening_singles) (run_orders run)

pub run_registers_timers : (run : List PolledStep) → All (IsOfTimer (world_of opening run).timers) (world_of opening run).registrations
run_registers_timers run =
    let w = world_of opening run in each_in (IsOfTimer w.timers) w.registrations (run_singles run opening opening_singles).timed

-- ## One step

singles_of : (w : World) → StandsOnce w → Singles (lists_of w)
singles_of w o =
    let d = o.distinct in
    record {
      sources = record {
        keys = differ_apart (λ (s : LiveSource). s.key) w.live d.keys;
        serials = differ_apart (λ (s : LiveSource). s.serial) w.live d.serials;
        were_given = λ s among. All-contains (λ (s : LiveSource). s.serial ≤ w.serials) w.live s d.serials_given among;
      };
      polls = differ_apart waiter_direction w.poll_waiters d.poll_waiters;
      marks = differ_apart mark_direction w.marks d.marks;
      broken = differ_apart (λ (b : BrokenSource). b.serial) w.broken d.broken;
      timers = record {
        numbers = differ_apart (λ (t : TimerEntry). t.number) w.timers d.timers;
        were_made = λ t among. All-contains (λ (t : TimerEntry). t.number ≤ w.timers_made) w.timers t d.timers_made among;
      };
      timed = λ r among. All-contains (IsOfTimer w.timers) w.registrations r o.timed among;
    }

pub step_stands_once : (w : World) (s : PolledStep) → StandsOnce w → StandsOnce (outcome_of w s).world
step_stands_once w s once =
    let v = (outcome_of w s).world in
    let after = step_singles w s (singles_of w once) in
    record {
      distinct = no_doubles v after (step_orders w s once.distinct);
      timed = each_in (IsOfTimer v.timers) v.registrations after.timed;
    }
