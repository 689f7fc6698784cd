-- An event that is handled without a fault leaves its source unbroken where it has a waiter left, as a step of its own and in a whole round.
use Rattle.std.proofs.Common.{◌≡◌, ℕ, Bool, true, false, not, cond, ◌==◌, List, [], ◌∷◌, ◌++◌, find, Option, None, Some, is_some, option_map, refl, ap, ◌∙◌, sym, subst, ⊎_elim}
use Rattle.std.specs.Prelude.{take}
use Rattle.std.specs.List.{Contains, list_any}
use Rattle.std.proofs.lemmas.Bool.{cond_both, not-true}
use Rattle.aio_base.specs.declared.names.Key.{Key}
use Rattle.aio_base.specs.declared.names.Dir.{Dir}
use Rattle.aio_base.specs.declared.names.Event.{Event}
use Rattle.aio_base.specs.declared.outcomes.EndWord.{EndWord}
use Rattle.aio_base.specs.declared.outcomes.EndWord.TheVariants.{Clean, FaultWait, FaultArm}
use Rattle.aio_base.specs.declared.outcomes.Which.{Which}
use Rattle.aio_base.specs.declared.steps.Step.{Step}
use Rattle.aio_base.specs.declared.steps.Step.TheVariants as step
use Rattle.aio_base.specs.declared.steps.Answer.TheVariants as answer
use Rattle.aio_base.specs.World.{PollerAnswer, LiveSource, BrokenSource, RoundState, World, directions, directions_of, serial_of, is_empty_list, is_idle, wanted, is_broken, without_broken}
use Rattle.aio_base.specs.Machine.{Outcome, fails, next_answer, later_answers, broken_world, armed_world, first_fault, begin_round, wait_round, without_waiters, world_taken, wakers_taken, rearmed, handle_source, handle_first, handle_in, handle_round, finish_in, handle_each, hand_of, fault_of_round, react, step_result}
use Rattle.aio_laws.specs.Arming.{handled_events, is_clean, tells_no_fault, UnbrokenAsTold}
use Rattle.aio_laws.specs.Succession.{events_given}
use Rattle.aio_base.proofs.BrokenSources.{without_unbroken}
use Rattle.aio_laws.proofs.cover.Arming.{polled_arms}
use Rattle.aio_laws.proofs.cover.CoverRounds.{nowhere, taken_rewaits}
use Rattle.aio_base.proofs.Membership.{none_is_in, any_gives, filtered_is_in, filtered_passes, none_passes, among_cases}
use Rattle.aio_laws.proofs.cover.Rewaiting.{wants_before}
use Rattle.aio_laws.proofs.rounds.RoundLemmas.{in_hand_of, event_handled, handled_of, ended_of, begun_in_hand}
use Rattle.aio_base.proofs.Searching.{false_unless}
use Rattle.aio_laws.proofs.cover.Standing.{parts_with}
use Rattle.aio_base.proofs.WaiterLemmas.{Wants, some_of, busy_wants, none_wants}

-- ## Waiters that are left

-- a source has a waiter
abbrev Waits : World → ℕ → Type 0
Waits w serial = is_empty_list (wanted w serial) ≡ false

-- a source is not broken where it has a waiter
abbrev Whole : World → ℕ → Type 0
Whole w serial = Waits w serial → is_broken w serial ≡ false

taken_waits : (dirs : List Dir) (w : World) (serial begin n : ℕ) → Waits (world_taken w serial begin dirs) n → Waits w n
taken_waits [] w serial begin n waits = waits
taken_waits (dir ∷ dirs) w serial begin n waits =
    let v = without_waiters w serial begin dir in
    let some = some_of (wanted v n) (taken_waits dirs v serial begin n waits) in
    let busy = not-true (is_idle v n some.0) (filtered_passes (λ d. not (is_idle v n d)) directions some.0 some.1) in
    let p = parts_with w [] in
    ⊎_elim (λ (never : ⊥). absurd never)
    (λ (before : Wants w.poll_waiters w.listeners n some.0). false_unless (is_empty_list (wanted w n)) (λ none. none_wants w n some.0 none before))
    (wants_before p v.poll_waiters v.listeners nowhere (taken_rewaits p serial dir) n some.0 (busy_wants v n some.0 busy))

taken_broken : (dirs : List Dir) (w : World) (serial begin n : ℕ) → is_broken (world_taken w serial begin dirs) n ≡ is_broken w n
taken_broken [] w serial begin n = refl
taken_broken (dir ∷ dirs) w serial begin n = taken_broken dirs (without_waiters w serial begin dir) serial begin n

-- a source that is not broken is not so without another
still_unbroken : (broken : List BrokenSource) (serial n : ℕ) → list_any (λ (b : BrokenSource). b.serial == n) broken ≡ false
    → list_any (λ (b : BrokenSource). b.serial == n) (without_broken broken serial) ≡ false
still_unbroken broken serial n none =
    false_unless (list_any (λ (b : BrokenSource). b.serial == n) (without_broken broken serial)) (λ some.
    let at = any_gives (λ (b : BrokenSource). b.serial == n) (without_broken broken serial) some in
    none_passes (λ (b : BrokenSource). b.serial == n) broken at.0 none
    (filtered_is_in (λ (b : BrokenSource). not (b.serial == serial)) broken at.0 at.1) at.2)

-- ## One event

-- What the handling of an event leaves of a world, by the fault that the round had before: a round that is still clean was so and was told of no fault; where
-- none is told no source breaks, and none gets a waiter.
record Handling (v : World) (before : EndWord) (o : Outcome) : Type 0 where
  told : fault_of_round o.world.round ≡ Clean → tells_no_fault o.answer ≡ true
  clean : fault_of_round o.world.round ≡ Clean → before ≡ Clean
  breaks : tells_no_fault o.answer ≡ true → (n : ℕ) → is_broken v n ≡ false → is_broken o.world n ≡ false
  waits : (n : ℕ) → Waits o.world n → Waits v n

-- and it leaves this source whole
record HandlingOf (v : World) (before : EndWord) (serial : ℕ) (o : Outcome) : Type 0 where
  handling : Handling v before o
  whole : tells_no_fault o.answer ≡ true → Whole o.world serial

never_clean : (fault : EndWord) → first_fault fault FaultArm ≡ Clean → ⊥
never_clean Clean same = cc
never_clean FaultWait same = cc
never_clean FaultArm same = cc

-- a source that is armed again, by whether that fails
abbrev rearming : Bool → World → RoundState → Key → ℕ → List Which → List PollerAnswer → Outcome
rearming failing u round key serial calls rest = record {
  answer = answer.Handled key failing;
  wakes = [];
  world = cond failing (record (cond failing (broken_world u serial) (armed_world u key.0 serial)) { round = Some (record round { fault = first_fault round.fault FaultArm }) })
      (cond failing (broken_world u serial) (armed_world u key.0 serial));
  calls = calls;
  left = rest;
}

armed_again : (failing : Bool) (u : World) (round : RoundState) (key : Key) (serial : ℕ) (calls : List Which) (rest : List PollerAnswer) → u.round ≡ Some round
    → HandlingOf u round.fault serial (rearming failing u round key serial calls rest)
armed_again true u round key serial calls rest runs = record {
  handling = record {
    told = λ clean. absurd (never_clean round.fault clean);
    clean = λ clean. absurd (never_clean round.fault clean);
    breaks = λ told. absurd cc;
    waits = λ n waits. waits;
  };
  whole = λ told. absurd cc;
}
armed_again false u round key serial calls rest runs = record {
  handling = record {
    told = λ clean. refl;
    clean = λ clean. sym (ap fault_of_round runs) ∙ clean;
    breaks = λ told n whole. still_unbroken u.broken serial n whole;
    waits = λ n waits. waits;
  };
  whole = λ told waits. without_unbroken u.broken serial;
}

rearmed_handling : (u : World) (round : RoundState) (key : Key) (serial : ℕ) (answers : List PollerAnswer) → u.round ≡ Some round
    → HandlingOf u round.fault serial (rearmed u round key serial answers)
rearmed_handling u round key serial answers runs =
    cond_both (is_empty_list (wanted u serial)) _ _ (HandlingOf u round.fault serial)
    (λ none. record {
      handling = record {
        told = λ clean. refl;
        clean = λ clean. sym (ap fault_of_round runs) ∙ clean;
        breaks = λ told n whole. whole;
        waits = λ n waits. waits;
      };
      whole = λ told waits. let wrong : true ≡ false = sym none ∙ waits in absurd cc;
    })
    (λ some. armed_again (fails (next_answer answers)) u round key serial _ (later_answers answers) runs)

-- a world before, in which no more sources are broken and no fewer have waiters
from_before : (v u : World) (before : EndWord) (serial : ℕ) (o : Outcome) → ((n : ℕ) → is_broken u n ≡ is_broken v n) → ((n : ℕ) → Waits u n → Waits v n)
    → HandlingOf u before serial o → HandlingOf v before serial o
from_before v u before serial o same waits h = record {
  handling = record {
    told = h.handling.told;
    clean = h.handling.clean;
    breaks = λ told n whole. h.handling.breaks told n (same n ∙ whole);
    waits = λ n now. waits n (h.handling.waits n now);
  };
  whole = h.whole;
}

taken_handling : (v : World) (round : RoundState) (event : Event) (serial : ℕ) (answers : List PollerAnswer)
    → HandlingOf v round.fault serial (handle_source v round event (Some serial) answers)
taken_handling v round event serial answers =
    let dirs = directions_of event.on in
    let taken : RoundState = record round { taken = round.taken ++ wakers_taken v serial round.begin dirs } in
    let u : World = record (world_taken v serial round.begin dirs) { round = Some taken } in
    from_before v u round.fault serial _ (taken_broken dirs v serial round.begin) (taken_waits dirs v serial round.begin)
    (rearmed_handling u taken event.key serial answers refl)

-- what the handling of the first of these events leaves, also of the source of its key
record HandlingFirst (v : World) (before : EndWord) (event : Event) (o : Outcome) : Type 0 where
  handling : Handling v before o
  whole : (n : ℕ) → serial_of v event.key.0 ≡ Some n → tells_no_fault o.answer ≡ true → Whole o.world n

some_is : (m n : ℕ) → Some m ≡ Some n → m ≡ n
some_is m n same = cc

source_handling : (v : World) (round : RoundState) (event : Event) (serial : Option ℕ) (answers : List PollerAnswer) → serial_of v event.key.0 ≡ serial
    → HandlingFirst v round.fault event (handle_source v round event serial answers)
source_handling v round event None answers at = record {
  handling = record { told = λ clean. refl; clean = λ clean. clean; breaks = λ told n whole. whole; waits = λ n waits. waits };
  whole = λ n is told waits. let wrong : None ≡ Some n = sym at ∙ is in absurd cc;
}
source_handling v round event (Some serial) answers at =
    let h = taken_handling v round event serial answers in
    record {
      handling = h.handling;
      whole = λ n is told.
          subst (λ m. Whole (handle_source v round event (Some serial) answers).world m) (some_is serial n (sym at ∙ is)) (h.whole told);
    }

first_handling : (v : World) (round : RoundState) (hand : List Event) (event : Event) (events : List Event) (answers : List PollerAnswer) → hand ≡ event ∷ events
    → HandlingFirst v round.fault event (handle_first v round hand answers)
first_handling v round [] event events answers at = absurd cc
first_handling v round (e ∷ es) event events answers at =
    let same : e ≡ event = cc in
    subst (λ named. HandlingFirst v round.fault named (handle_first v round (e ∷ es) answers)) same
    (source_handling v (record round { in_hand = es }) e (serial_of v e.key.0) answers refl)

event_handling : (v : World) (round : Option RoundState) (event : Event) (events : List Event) (answers : List PollerAnswer)
    → in_hand_of round ≡ Some (event ∷ events) → HandlingFirst v (fault_of_round round) event (handle_in v round answers)
event_handling v None event events answers at = absurd cc
event_handling v (Some round) event events answers at =
    let hand : round.in_hand ≡ event ∷ events = cc in first_handling v round round.in_hand event events answers hand

-- ## A handled event as a step

handle_rearms : (w : World) (round : Option RoundState) (answers : List PollerAnswer) (event : Event) (serial : ℕ)
    → Contains (take 1 (hand_of round)) event → tells_no_fault (handle_in w round answers).answer ≡ true → serial_of w event.key.0 ≡ Some serial
    → is_empty_list (wanted (handle_in w round answers).world serial) ≡ false → is_broken (handle_in w round answers).world serial ≡ false
handle_rearms w None answers event serial among told = none_is_in event among
handle_rearms w (Some round) answers event serial among told = in_hand round.in_hand refl among
  where
    in_hand : (hand : List Event) → round.in_hand ≡ hand → Contains (take 1 hand) event → serial_of w event.key.0 ≡ Some serial
        → is_empty_list (wanted (handle_in w (Some round) answers).world serial) ≡ false → is_broken (handle_in w (Some round) answers).world serial ≡ false
    in_hand [] at among lives waits = none_is_in event among
    in_hand (e ∷ es) at among lives waits =
        let first = event_handling w (Some round) e es answers (ap Some at) in
        ⊎_elim
        (λ (same : e ≡ event). first.whole serial (ap (λ (x : Event). serial_of w x.key.0) same ∙ lives) told waits)
        (λ (none : Contains [] event). none_is_in event none)
        (among_cases e [] event among)

-- ## All events of a whole round

lives_by : (u v : World) (key : ℕ) → u.live ≡ v.live → serial_of u key ≡ serial_of v key
lives_by u v key same = ap (λ live. option_map (λ (s : LiveSource). s.serial) (find (λ (s : LiveSource). s.key == key) live)) same

-- What the handling of these events leaves: where the round is clean at the end it was so all along, and each source whose event was handled is whole.
record HandlingAll (v : World) (events : List Event) (o : Outcome) : Type 0 where
  clean : fault_of_round o.world.round ≡ Clean → fault_of_round v.round ≡ Clean
  breaks : fault_of_round o.world.round ≡ Clean → (n : ℕ) → is_broken v n ≡ false → is_broken o.world n ≡ false
  waits : (n : ℕ) → Waits o.world n → Waits v n
  whole : fault_of_round o.world.round ≡ Clean → (event : Event) (n : ℕ) → Contains events event → serial_of v event.key.0 ≡ Some n → Whole o.world n

all_handling : (events : List Event) (v : World) (answers : List PollerAnswer) → in_hand_of v.round ≡ Some events
    → HandlingAll v events (handle_each events v answers)
all_handling [] v answers at = record {
  clean = λ clean. clean;
  breaks = λ clean n whole. whole;
  waits = λ n waits. waits;
  whole = λ clean event n among. none_is_in event among;
}
all_handling (event ∷ events) v answers at =
    let first = handle_round v answers in
    let one = event_handling v v.round event events answers at in
    let still = event_handled v event events answers at in
    let rest = all_handling events first.world first.left still.hand in
    record {
      clean = λ clean. one.handling.clean (rest.clean clean);
      breaks = λ clean n whole. rest.breaks clean n (one.handling.breaks (one.handling.told (rest.clean clean)) n whole);
      waits = λ n waits. one.handling.waits n (rest.waits n waits);
      whole = λ clean named n among lives waits.
          ⊎_elim
          (λ (same : event ≡ named).
          rest.breaks clean n
          (one.whole n (ap (λ (x : Event). serial_of v x.key.0) same ∙ lives) (one.handling.told (rest.clean clean)) (rest.waits n waits)))
          (λ (later : Contains events named).
          rest.whole clean named n later (lives_by (handle_round v answers).world v named.key.0 still.same.live ∙ lives) waits)
          (among_cases event events named among);
    }

-- the end of a round leaves waiters and broken sources
finish_whole : (w : World) (round : Option RoundState) (answers : List PollerAnswer) (n : ℕ) → Whole w n → Whole (finish_in w round answers).world n
finish_whole w None answers n whole = whole
finish_whole w (Some round) answers n whole =
    cond_both (is_empty_list round.in_hand) _ _ (λ (o : Outcome). Whole o.world n) (λ none. whole) (λ some. whole)

clean_is : (fault : EndWord) → is_clean fault ≡ true → fault ≡ Clean
clean_is Clean clean = refl
clean_is FaultWait clean = absurd cc
clean_is FaultArm clean = absurd cc

-- a whole round that is not refused
begun_rearms : (w : World) (answers : List PollerAnswer) (event : Event) (n : ℕ) → is_some w.round ≡ false → Contains (events_given (next_answer answers)) event
    → serial_of w event.key.0 ≡ Some n
    → is_clean (fault_of_round (handled_of w answers).world.round) ≡ true → Whole (ended_of w answers).world n
begun_rearms w answers event n none among lives clean =
    let begun = begin_round w None answers in
    let waited = wait_round begun.world begun.left in
    let hand = hand_of waited.world.round in
    let handled = handle_each hand waited.world waited.left in
    let h = begun_in_hand w answers none in
    let all = all_handling hand waited.world waited.left h.held in
    let same : serial_of waited.world event.key.0 ≡ serial_of w event.key.0 = lives_by waited.world w event.key.0 h.live in
    finish_whole handled.world handled.world.round handled.left n
    (all.whole (clean_is _ clean) event n (subst (λ es. Contains es event) (sym h.events) among) (same ∙ lives))

-- what a whole round tells and leaves
abbrev Rearms : ℕ → Outcome → Type 0
Rearms n o = tells_no_fault o.answer ≡ true → Whole o.world n

react_by : (runs : Bool) (events : List Event) (event : Event) (n : ℕ) (x y : Outcome) → Contains (cond runs [] events) event
    → (runs ≡ false → Contains events event → Rearms n y) → Rearms n (cond runs x y)
react_by true events event n x y among rearms = none_is_in event among
react_by false events event n x y among rearms = rearms refl among

react_rearms : (w : World) (answers : List PollerAnswer) (event : Event) (serial : ℕ)
    → Contains (cond (is_some w.round) [] (events_given (next_answer answers))) event → serial_of w event.key.0 ≡ Some serial
    → tells_no_fault (react w None answers).answer ≡ true
    → is_empty_list (wanted (react w None answers).world serial) ≡ false → is_broken (react w None answers).world serial ≡ false
react_rearms w answers event serial among lives =
    react_by (is_some w.round) (events_given (next_answer answers)) event serial _ _ among
    (λ none named told. begun_rearms w answers event serial none named lives told)

-- ## A step

handled_rearms : (w : World) (s : Step) (answers : List PollerAnswer) (event : Event) (serial : ℕ) → Contains (handled_events w s answers) event
    → tells_no_fault (step_result w s answers).answer ≡ true → serial_of w event.key.0 ≡ Some serial → Whole (step_result w s answers).world serial
unfolding step_result
handled_rearms w step.Handle answers event serial among told lives = handle_rearms w w.round answers event serial among told lives
handled_rearms w step.React answers event serial among told lives = react_rearms w answers event serial among lives told
handled_rearms w _ answers event serial among told lives = none_is_in event among

pub step_leaves_unbroken : (w : World) (s : Step) (answers : List PollerAnswer)
    → UnbrokenAsTold w s answers (step_result w s answers).answer (step_result w s answers).world
step_leaves_unbroken w s answers = record {
  polled = λ serial at told. polled_arms w s answers serial at told;
  handled = λ event serial among told lives waits. handled_rearms w s answers event serial among told lives waits;
}
