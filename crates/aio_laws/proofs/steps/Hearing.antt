-- A step tells a failure exactly where its call of the poller failed, and such a call changes no interest.
use Rattle.std.proofs.Common.{◌≡◌, ◌≢◌, ℕ, ◌+◌, Bool, true, false, cond, ◌||◌, ◌==◌, List, [], ◌∷◌, ◌++◌, length, Option, None, Some, is_some, option_to_list, refl, sym, ap, ◌∙◌}
use Rattle.std.specs.Prelude.{nat_le, nat_lt, unwrap_or}
use Rattle.std.specs.List.{list_any}
use Rattle.aio_base.specs.declared.names.Key.{Key}
use Rattle.aio_base.specs.declared.names.Waker.{Waker}
use Rattle.aio_base.specs.declared.names.Dir.{Dir}
use Rattle.aio_base.specs.declared.names.Event.{Event}
use Rattle.aio_base.specs.declared.steps.Step.{Step}
use Rattle.aio_base.specs.declared.steps.Step.TheVariants as step
use Rattle.aio_base.specs.declared.steps.Answer.{Answer}
use Rattle.aio_base.specs.declared.steps.Answer.TheVariants as answer
use Rattle.aio_base.specs.World.{PollerAnswer, Fails, ListenerEntry, TimerEntry, ArmedDirection, RoundState, World, directions_of, serial_of, key_of, poll_waiter, mark_of, is_empty_list, is_idle, is_broken, wanted, set_armed}
use Rattle.aio_base.specs.Machine.{Outcome, fails, next_answer, later_answers, armed_world, broken_world, pending, source_limit, free_key, add, del_source, is_fresh_since, is_waker, with_waiter, poll_source, new_listener, with_listening, step_listener, drop_listener, tick_timer, set_timer, end_timer, wait_answered, wait_in, without_waiters, world_taken, wakers_taken, rearmed, handle_source, handle_first, handle_in, finish_in, case_of}
use Rattle.aio_base.proofs.TimerCases.{tick_any}
use Rattle.aio_laws.specs.Calls.{tells_failure, has_failed}
use Rattle.aio_laws.proofs.steps.Frames.{either}

-- an outcome tells a failure exactly where its call failed, and leaves what is armed where it does
record Hears (w : World) (answers : List PollerAnswer) (o : Outcome) : Type 0 where
  heard : tells_failure o.answer ≡ has_failed o.calls answers
  stays : tells_failure o.answer ≡ true → o.world.armed ≡ w.armed

no_fault : {A : Type 0} → false ≡ true → A
no_fault wrong = absurd cc

-- an answer that is a fault where the poller failed, and none else
told_so : (failed : Bool) (fault success : Answer) → tells_failure fault ≡ true → tells_failure success ≡ false → tells_failure (cond failed fault success) ≡ failed
told_so true fault success told holds = told
told_so false fault success told holds = holds

-- what is armed after it, by whether it failed
stays_so : (failed : Bool) (fault success : Answer) (left : Bool → List ArmedDirection) (armed : List ArmedDirection) → tells_failure success ≡ false
    → left true ≡ armed → tells_failure (cond failed fault success) ≡ true → left failed ≡ armed
stays_so true fault success left armed holds same tells = same
stays_so false fault success left armed holds same tells = let wrong : false ≡ true = sym holds ∙ tells in no_fault wrong

-- ## Sources and listeners

add_hears : (w : World) (answers : List PollerAnswer) → Hears w answers (add w answers)
add_hears w answers =
    let failed = fails (next_answer answers) in
    let told = answer.KeyIs (record { 0 = free_key w.live }) in
    either (Hears w answers) (nat_le source_limit (length w.live)) _ _ (record { heard = refl; stays = λ fault. no_fault fault })
    (record {
      heard = told_so failed answer.FaultAdd told refl refl;
      stays = stays_so failed answer.FaultAdd told
          (λ b. (cond b w (record w {
            live = w.live ++ record { key = free_key w.live; serial = w.serials + 1 } ∷ [];
            serials = w.serials + 1;
            armed = set_armed w.armed (free_key w.live) [];
          })).armed) w.armed refl refl;
    })

del_hears : (w : World) (key : ℕ) (found : Option ℕ) (answers : List PollerAnswer) → Hears w answers (del_source w key found answers)
del_hears w key None answers = record { heard = refl; stays = λ fault. no_fault fault }
del_hears w key (Some serial) answers =
    let failed = fails (next_answer answers) in
    either (Hears w answers) (list_any (λ (l : ListenerEntry). l.serial == serial) w.listeners) _ _ (record { heard = refl; stays = λ fault. no_fault fault })
    (record {
      heard = told_so failed answer.FaultRemove answer.Gone refl refl;
      stays = stays_so failed answer.FaultRemove answer.Gone (λ b. cond b w.armed (set_armed w.armed key [])) w.armed refl refl;
    })

pending_hears : (w v : World) (arms : Bool) (key serial : ℕ) (wakes : List Waker) (answers : List PollerAnswer) → v.armed ≡ w.armed
    → Hears w answers (pending arms v key serial wakes answers)
pending_hears w v false key serial wakes answers same = record { heard = refl; stays = λ fault. no_fault fault }
pending_hears w v true key serial wakes answers same =
    let failed = fails (next_answer answers) in
    record {
      heard = told_so failed answer.FaultArm answer.Pending refl refl;
      stays = stays_so failed answer.FaultArm answer.Pending (λ b. (cond b (broken_world v serial) (armed_world v key serial)).armed) w.armed refl same;
    }

poll_hears : (w : World) (key : ℕ) (dir : Dir) (waker : Waker) (found : Option ℕ) (answers : List PollerAnswer)
    → Hears w answers (poll_source w key dir waker found answers)
poll_hears w key dir waker None answers = record { heard = refl; stays = λ fault. no_fault fault }
poll_hears w key dir waker (Some serial) answers =
    let waiter = poll_waiter w.poll_waiters serial dir in
    either (Hears w answers) (is_fresh_since w serial dir (mark_of w.marks serial dir)) _ _ (record { heard = refl; stays = λ fault. no_fault fault })
    (either (Hears w answers) (is_waker waker waiter) _ _ (pending_hears w w (is_broken w serial) key serial [] answers refl)
    (pending_hears w (with_waiter w serial dir waker) (is_idle w serial dir || is_broken w serial) key serial (option_to_list waiter) answers refl))

new_hears : (w : World) (dir : Dir) (found : Option ℕ) (answers : List PollerAnswer) → Hears w answers (new_listener w dir found answers)
new_hears w dir None answers = record { heard = refl; stays = λ fault. no_fault fault }
new_hears w dir (Some serial) answers = record { heard = refl; stays = λ fault. no_fault fault }

listen_hears : (w : World) (waker : Waker) (found : Option ListenerEntry) (answers : List PollerAnswer) → Hears w answers (step_listener w waker found answers)
listen_hears w waker None answers = record { heard = refl; stays = λ fault. no_fault fault }
listen_hears w waker (Some entry) answers =
    either (Hears w answers) (is_fresh_since w entry.serial entry.dir entry.position) _ _ (record { heard = refl; stays = λ fault. no_fault fault })
    (pending_hears w (record w { listeners = with_listening w entry waker }) (is_idle w entry.serial entry.dir || is_broken w entry.serial)
    (unwrap_or (key_of w entry.serial) 0) entry.serial [] answers refl)

drop_hears : (w : World) (number : ℕ) (found : Option ListenerEntry) (answers : List PollerAnswer) → Hears w answers (drop_listener w number found answers)
drop_hears w number None answers = record { heard = refl; stays = λ fault. no_fault fault }
drop_hears w number (Some entry) answers = record { heard = refl; stays = λ fault. no_fault fault }

-- ## Timers

tick_hears : (w : World) (waker : Waker) (found : Option TimerEntry) (answers : List PollerAnswer) → Hears w answers (tick_timer w waker found answers)
tick_hears w waker None answers = record { heard = refl; stays = λ fault. no_fault fault }
tick_hears w waker (Some entry) answers =
    tick_any (Hears w answers) w waker entry answers (λ timers registrations ids. record { heard = refl; stays = λ fault. no_fault fault })
    (λ deadline timers registrations ids. record { heard = refl; stays = λ fault. no_fault fault })

set_hears : (w : World) (deadline : ℕ) (period : Option ℕ) (found : Option TimerEntry) (answers : List PollerAnswer)
    → Hears w answers (set_timer w deadline period found answers)
set_hears w deadline period None answers = record { heard = refl; stays = λ fault. no_fault fault }
set_hears w deadline period (Some entry) answers = record { heard = refl; stays = λ fault. no_fault fault }

end_hears : (w : World) (found : Option TimerEntry) (answers : List PollerAnswer) → Hears w answers (end_timer w found answers)
end_hears w None answers = record { heard = refl; stays = λ fault. no_fault fault }
end_hears w (Some entry) answers = record { heard = refl; stays = λ fault. no_fault fault }

-- ## Rounds

answered_hears : (w : World) (round : RoundState) (told : PollerAnswer) (rest answers : List PollerAnswer) → next_answer answers ≡ told
    → Hears w answers (wait_answered w round told rest)
answered_hears w round Fails rest answers is = record { heard = ap fails (sym is); stays = λ fault. refl }
answered_hears w round told rest answers is = record { heard = ap fails (sym is); stays = λ fault. no_fault fault }

wait_hears : (w : World) (round : Option RoundState) (answers : List PollerAnswer) → Hears w answers (wait_in w round answers)
wait_hears w None answers = record { heard = refl; stays = λ fault. no_fault fault }
wait_hears w (Some round) answers =
    either (Hears w answers) (is_empty_list round.in_hand) _ _ (answered_hears w round (next_answer answers) (later_answers answers) answers refl)
    (record { heard = refl; stays = λ fault. no_fault fault })

-- taking waiters arms nothing
taken_arms : (dirs : List Dir) (w : World) (serial begin : ℕ) → (world_taken w serial begin dirs).armed ≡ w.armed
taken_arms [] w serial begin = refl
taken_arms (dir ∷ dirs) w serial begin = taken_arms dirs (without_waiters w serial begin dir) serial begin

-- an arm that failed leaves the interests, also with its fault noted in the round
fault_stays : (v : World) (round : Option RoundState) (key serial : ℕ) (failed : Bool) (armed : List ArmedDirection) → v.armed ≡ armed → failed ≡ true
    → (cond failed (record (cond failed (broken_world v serial) (armed_world v key serial)) { round = round })
    (cond failed (broken_world v serial) (armed_world v key serial))).armed ≡ armed
fault_stays v round key serial true armed same told = same
fault_stays v round key serial false armed same told = no_fault told

rearmed_hears : (w v : World) (round : RoundState) (key : Key) (serial : ℕ) (answers : List PollerAnswer) → v.armed ≡ w.armed
    → Hears w answers (rearmed v round key serial answers)
rearmed_hears w v round key serial answers same =
    either (Hears w answers) (is_empty_list (wanted v serial)) _ _ (record { heard = refl; stays = λ fault. no_fault fault })
    (record { heard = refl; stays = fault_stays v _ key.0 serial (fails (next_answer answers)) w.armed same })

source_hears : (w : World) (round : RoundState) (event : Event) (found : Option ℕ) (answers : List PollerAnswer)
    → Hears w answers (handle_source w round event found answers)
source_hears w round event None answers = record { heard = refl; stays = λ fault. no_fault fault }
source_hears w round event (Some serial) answers =
    let taken = record round { taken = round.taken ++ wakers_taken w serial round.begin (directions_of event.on) } in
    rearmed_hears w (record (world_taken w serial round.begin (directions_of event.on)) { round = Some taken }) taken event.key serial answers
    (taken_arms (directions_of event.on) w serial round.begin)

first_hears : (w : World) (round : RoundState) (hand : List Event) (answers : List PollerAnswer) → Hears w answers (handle_first w round hand answers)
first_hears w round [] answers = record { heard = refl; stays = λ fault. no_fault fault }
first_hears w round (event ∷ events) answers = source_hears w (record round { in_hand = events }) event (serial_of w event.key.0) answers

handle_hears : (w : World) (round : Option RoundState) (answers : List PollerAnswer) → Hears w answers (handle_in w round answers)
handle_hears w None answers = record { heard = refl; stays = λ fault. no_fault fault }
handle_hears w (Some round) answers = first_hears w round round.in_hand answers

finish_hears : (w : World) (round : Option RoundState) (answers : List PollerAnswer) → Hears w answers (finish_in w round answers)
finish_hears w None answers = record { heard = refl; stays = λ fault. no_fault fault }
finish_hears w (Some round) answers =
    either (Hears w answers) (is_empty_list round.in_hand) _ _ (record { heard = refl; stays = λ fault. no_fault fault }) (record { heard = refl; stays = λ fault. no_fault fault })

-- ## A step

case_hears : (w : World) (s : Step) (answers : List PollerAnswer) → s ≢ step.React → Hears w answers (case_of w s answers)
case_hears w step.Add answers other = add_hears w answers
case_hears w (step.Del key) answers other = del_hears w key.0 _ answers
case_hears w (step.Poll key dir waker) answers other = poll_hears w key.0 dir waker _ answers
case_hears w (step.New key dir) answers other = new_hears w dir _ answers
case_hears w (step.StepEar number waker) answers other = listen_hears w waker _ answers
case_hears w (step.DropEar number) answers other = drop_hears w number _ answers
case_hears w (step.Tick number waker) answers other = tick_hears w waker _ answers
case_hears w (step.SetAt number deadline) answers other = set_hears w deadline None _ answers
case_hears w (step.SetEvery number deadline period) answers other = set_hears w deadline (Some period) _ answers
case_hears w (step.End number) answers other = end_hears w _ answers
case_hears w (step.Now moment) answers other =
    either (Hears w answers) (nat_lt moment w.now) _ _ (record { heard = refl; stays = λ fault. no_fault fault }) (record { heard = refl; stays = λ fault. no_fault fault })
case_hears w (step.Begin limit) answers other =
    either (Hears w answers) (is_some w.round) _ _ (record { heard = refl; stays = λ fault. no_fault fault }) (record { heard = refl; stays = λ fault. no_fault fault })
case_hears w step.Wait answers other = wait_hears w w.round answers
case_hears w step.Handle answers other = handle_hears w w.round answers
case_hears w step.Finish answers other = finish_hears w w.round answers
case_hears w step.React answers other = absurd (other refl)
case_hears w _ answers other = record { heard = refl; stays = λ fault. no_fault fault }

pub case_heard : (w : World) (s : Step) (answers : List PollerAnswer) → s ≢ step.React
    → tells_failure (case_of w s answers).answer ≡ has_failed (case_of w s answers).calls answers
case_heard w s answers other = (case_hears w s answers other).heard

pub case_stays : (w : World) (s : Step) (answers : List PollerAnswer) → s ≢ step.React → tells_failure (case_of w s answers).answer ≡ true
    → (case_of w s answers).world.armed ≡ w.armed
case_stays w s answers other = (case_hears w s answers other).stays
