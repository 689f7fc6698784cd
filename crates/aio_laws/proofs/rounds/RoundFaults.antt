-- What an event that is handled leaves of the round, and how a whole round ends by the answer of its wait.
use Rattle.std.proofs.Common.{◌≡◌, ◌≢◌, ℕ, Bool, true, false, cond, List, [], ◌∷◌, ◌++◌, Option, None, Some, is_some, refl, ap, ◌∙◌, sym, subst}
use Rattle.std.proofs.lemmas.Bool.{cond_both, cond-false}
use Rattle.aio_base.specs.declared.names.Key.{Key}
use Rattle.aio_base.specs.declared.names.Event.{Event}
use Rattle.aio_base.specs.declared.outcomes.EndWord.{EndWord}
use Rattle.aio_base.specs.declared.outcomes.EndWord.TheVariants.{Clean, FaultWait, FaultArm}
use Rattle.aio_base.specs.declared.steps.Answer.TheVariants as answer
use Rattle.aio_base.specs.World.{PollerAnswer, Succeeds, Gives, IsInterrupted, Fails, RoundState, World, serial_of, directions_of, is_empty_list, wanted}
use Rattle.aio_base.specs.Machine.{Outcome, next_answer, later_answers, fails, broken_world, armed_world, begin_round, first_fault, wait_answered, wait_in, world_taken, wakers_taken, rearmed, handle_source, handle_first, handle_in, handle_round, handle_each, hand_of, fault_of_round}
use Rattle.aio_laws.specs.RoundHands.{last_wait_of, fault_kept}
use Rattle.aio_laws.specs.Succession.{events_given}
use Rattle.aio_laws.specs.RoundAnswers.{EndsAsWaited}
use Rattle.aio_laws.proofs.steps.Frames.{either}
use Rattle.aio_laws.proofs.rounds.RoundLemmas.{in_hand_of}

pub first_is_kept : (before new : EndWord) → first_fault before new ≡ fault_kept before new
first_is_kept Clean new = refl
first_is_kept FaultWait new = refl
first_is_kept FaultArm new = refl

-- ## An event is handled

-- what an outcome leaves of a round in which an event of a key was handled
pub record Handles (round : RoundState) (key : Key) (o : Outcome) : Type 0 where
  pub failed : Bool
  pub told : o.answer ≡ answer.Handled key failed
  pub hand : hand_of o.world.round ≡ round.in_hand
  pub waited : last_wait_of o.world.round ≡ round.last_wait
  pub fault : fault_of_round o.world.round ≡ cond failed (fault_kept round.fault FaultArm) round.fault

arm_handles : (failing : Bool) (v : World) (round : RoundState) (key : Key) (serial : ℕ) (answers : List PollerAnswer)
    → let u : World = record v { round = Some round } in
    let armed : World = cond failing (broken_world u serial) (armed_world u key.0 serial) in
    let after : World = cond failing (record armed { round = Some (record round { fault = first_fault round.fault FaultArm }) }) armed in
    (hand_of after.round ≡ round.in_hand) × (last_wait_of after.round ≡ round.last_wait) × (fault_of_round after.round ≡ cond failing (fault_kept round.fault FaultArm) round.fault)
arm_handles true v round key serial answers = (refl, refl, first_is_kept round.fault FaultArm)
arm_handles false v round key serial answers = (refl, refl, refl)

rearmed_handles : (v : World) (round : RoundState) (key : Key) (serial : ℕ) (answers : List PollerAnswer)
    → Handles round key (rearmed (record v { round = Some round }) round key serial answers)
rearmed_handles v round key serial answers =
    let armed = arm_handles (fails (next_answer answers)) v round key serial answers in
    either (Handles round key) (is_empty_list (wanted (record v { round = Some round }) serial)) _ _
    (record { failed = false; told = refl; hand = refl; waited = refl; fault = refl })
    (record { failed = fails (next_answer answers); told = refl; hand = armed.0; waited = armed.1; fault = armed.2 })

pub source_handles : (w : World) (round : RoundState) (event : Event) (serial : Option ℕ) (answers : List PollerAnswer)
    → Handles round event.key (handle_source w round event serial answers)
source_handles w round event None answers = record { failed = false; told = refl; hand = refl; waited = refl; fault = refl }
source_handles w round event (Some serial) answers =
    let dirs = directions_of event.on in
    let h = rearmed_handles (world_taken w serial round.begin dirs) (record round { taken = round.taken ++ wakers_taken w serial round.begin dirs }) event.key serial answers in
    record { failed = h.failed; told = h.told; hand = h.hand; waited = h.waited; fault = h.fault }

-- ## A whole round

no_wait_fault : (failed : Bool) (before : EndWord) → before ≢ FaultWait → cond failed (fault_kept before FaultArm) before ≢ FaultWait
no_wait_fault false before other = other
no_wait_fault true Clean other = λ same. cc
no_wait_fault true FaultWait other = λ same. other refl
no_wait_fault true FaultArm other = λ same. cc

first_faults : (w : World) (round : RoundState) (hand : List Event) (answers : List PollerAnswer) → fault_of_round w.round ≢ FaultWait → round.fault ≢ FaultWait
    → fault_of_round (handle_first w round hand answers).world.round ≢ FaultWait
first_faults w round [] answers before other = before
first_faults w round (event ∷ events) answers before other =
    let h = source_handles w (record round { in_hand = events }) event (serial_of w event.key.0) answers in
    subst (λ (end : EndWord). end ≢ FaultWait) (sym h.fault) (no_wait_fault h.failed round.fault other)

handle_faults : (w : World) (round : Option RoundState) (answers : List PollerAnswer) → w.round ≡ round → fault_of_round w.round ≢ FaultWait
    → fault_of_round (handle_in w round answers).world.round ≢ FaultWait
handle_faults w None answers is other = other
handle_faults w (Some round) answers is other = first_faults w round round.in_hand answers other (subst (λ r. fault_of_round r ≢ FaultWait) is other)

each_faults : (events : List Event) (w : World) (answers : List PollerAnswer) → fault_of_round w.round ≢ FaultWait
    → fault_of_round (handle_each events w answers).world.round ≢ FaultWait
each_faults [] w answers other = other
each_faults (event ∷ events) w answers other =
    each_faults events (handle_round w answers).world (handle_round w answers).left (handle_faults w w.round answers refl other)

-- the events that a wait gave are handled
pub handled_ends : (given : PollerAnswer) (events : List Event) (w : World) (answers : List PollerAnswer) → events ≡ events_given given
    → EndsAsWaited given (fault_of_round w.round) → EndsAsWaited given (fault_of_round (handle_each events w answers).world.round)
handled_ends Succeeds events w answers are ends = each_faults events w answers ends
handled_ends (Gives given) events w answers are ends = each_faults events w answers ends
handled_ends IsInterrupted events w answers are ends = each_faults events w answers ends
handled_ends Fails [] w answers are ends = ends
handled_ends Fails (event ∷ events) w answers are ends = absurd cc

clean_ends : (fault : EndWord) → fault ≡ Clean → fault ≢ FaultWait
clean_ends fault clean same = let wrong : Clean ≡ FaultWait = sym clean ∙ same in cc

answered_ends : (w : World) (round : RoundState) (given : PollerAnswer) (rest : List PollerAnswer) → round.fault ≡ Clean
    → EndsAsWaited given (fault_of_round (wait_answered w round given rest).world.round)
answered_ends w round Succeeds rest clean = clean_ends round.fault clean
answered_ends w round (Gives events) rest clean = clean_ends round.fault clean
answered_ends w round IsInterrupted rest clean = clean_ends round.fault clean
answered_ends w round Fails rest clean = ap (λ (fault : EndWord). first_fault fault FaultWait) clean

pub waited_ends : (w : World) (round : Option RoundState) (answers : List PollerAnswer) → in_hand_of round ≡ Some [] → fault_of_round round ≡ Clean
    → EndsAsWaited (next_answer answers) (fault_of_round (wait_in w round answers).world.round)
waited_ends w None answers empty clean = absurd cc
waited_ends w (Some round) answers empty clean =
    let hand : round.in_hand ≡ [] = cc in
    cond_both (is_empty_list round.in_hand) _ _ (λ (o : Outcome). EndsAsWaited (next_answer answers) (fault_of_round o.world.round))
    (λ empty. answered_ends w round (next_answer answers) (later_answers answers) clean) (λ some. absurd (let none = ap is_empty_list hand in cc))

pub begun_clean : (w : World) (given : Option ℕ) (answers : List PollerAnswer) → is_some w.round ≡ false → fault_of_round (begin_round w given answers).world.round ≡ Clean
begun_clean w given answers none = ap (λ (o : Outcome). fault_of_round o.world.round) (cond-false (is_some w.round) _ _ none)
