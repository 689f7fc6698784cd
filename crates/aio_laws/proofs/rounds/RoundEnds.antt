-- A whole round tells by its end whether its wait or one of its arms failed.
use Rattle.std.proofs.Common.{◌≡◌, ℕ, ◌+◌, ◌≤◌, Bool, true, false, cond, ◌||◌, List, [], ◌∷◌, ◌++◌, length, Option, None, Some, is_some, refl, sym, ap, ◌∙◌, arith}
use Rattle.std.proofs.lemmas.Bool.{cond_both}
use Rattle.aio_base.specs.declared.names.Key.{Key}
use Rattle.aio_base.specs.declared.names.Event.{Event}
use Rattle.aio_base.specs.declared.outcomes.EndWord.{EndWord}
use Rattle.aio_base.specs.declared.outcomes.EndWord.TheVariants.{Clean, FaultWait, FaultArm}
use Rattle.aio_base.specs.declared.outcomes.Which.{Which}
use Rattle.aio_base.specs.declared.outcomes.Which.TheVariants as which
use Rattle.aio_base.specs.declared.steps.Step.{Step}
use Rattle.aio_base.specs.declared.steps.Step.TheVariants as step
use Rattle.aio_base.specs.World.{PollerAnswer, Fails, RoundState, World, serial_of, directions_of, is_empty_list, wanted}
use Rattle.aio_base.specs.Machine.{Outcome, next_answer, later_answers, fails, broken_world, armed_world, begin_round, first_fault, wait_answered, wait_in, wait_round, world_taken, wakers_taken, rearmed, handle_source, handle_first, handle_in, handle_round, handle_each, hand_of, fault_of_round, case_of}
use Rattle.aio_laws.specs.Calls.{arm_failed, end_of_calls, EndFits}
use Rattle.aio_laws.proofs.steps.Frames.{either}
use Rattle.aio_laws.proofs.rounds.RoundLemmas.{in_hand_of, round_begun}
use Rattle.aio_laws.proofs.rounds.RoundFaults.{begun_clean}

-- the poller's answers behind those to these calls
abbrev pub answers_behind : List Which → List PollerAnswer → List PollerAnswer
answers_behind [] answers = answers
answers_behind (call ∷ calls) answers = answers_behind calls (later_answers answers)

-- the fault of a round after arms, by whether one failed
abbrev pub after_arms : EndWord → Bool → EndWord
after_arms before failed = cond failed (first_fault before FaultArm) before

kept_once : (before : EndWord) → first_fault (first_fault before FaultArm) FaultArm ≡ first_fault before FaultArm
kept_once Clean = refl
kept_once FaultWait = refl
kept_once FaultArm = refl

after_both : (before : EndWord) (first second : Bool) → after_arms (after_arms before first) second ≡ after_arms before (first || second)
after_both before true true = kept_once before
after_both before true false = refl
after_both before false true = refl
after_both before false false = refl

or_later : (first second third : Bool) → (first || (second || third)) ≡ ((first || second) || third)
or_later true second third = refl
or_later false second third = refl

failed_both : (first second : List Which) (answers : List PollerAnswer)
    → arm_failed (first ++ second) answers ≡ (arm_failed first answers || arm_failed second (answers_behind first answers))
failed_both [] second answers = refl
failed_both (call ∷ first) second answers =
    ap (λ (b : Bool). fails (next_answer answers) || b) (failed_both first second (later_answers answers))
    ∙ or_later (fails (next_answer answers)) (arm_failed first (later_answers answers)) (arm_failed second (answers_behind first (later_answers answers)))

behind_both : (first second : List Which) (answers : List PollerAnswer) → answers_behind (first ++ second) answers ≡ answers_behind second (answers_behind first answers)
behind_both [] second answers = refl
behind_both (call ∷ first) second answers = behind_both first second (later_answers answers)

counts_both : (first second : List Which) → length (first ++ second) ≡ length first + length second
counts_both [] second = omega arith
counts_both (call ∷ first) second = let later = counts_both first second in omega arith

-- ## Events are handled

-- an outcome of arms, at most so many, whose failures are the round's faults
pub record Arms (before : EndWord) (most : ℕ) (answers : List PollerAnswer) (o : Outcome) : Type 0 where
  pub fault : fault_of_round o.world.round ≡ after_arms before (arm_failed o.calls answers)
  pub left : o.left ≡ answers_behind o.calls answers
  pub few : length o.calls ≤ most

arm_fault : (failing : Bool) (v : World) (round : RoundState) (key serial : ℕ)
    → let u : World = record v { round = Some round } in
    let armed : World = cond failing (broken_world u serial) (armed_world u key serial) in
    fault_of_round (cond failing (record armed { round = Some (record round { fault = first_fault round.fault FaultArm }) }) armed).round
    ≡ after_arms round.fault (failing || false)
arm_fault true v round key serial = refl
arm_fault false v round key serial = refl

rearmed_arms : (v : World) (round : RoundState) (key : Key) (serial : ℕ) (answers : List PollerAnswer)
    → Arms round.fault 1 answers (rearmed (record v { round = Some round }) round key serial answers)
rearmed_arms v round key serial answers =
    either (Arms round.fault 1 answers) (is_empty_list (wanted (record v { round = Some round }) serial)) _ _
    (record { fault = refl; left = refl; few = omega arith })
    (record { fault = arm_fault (fails (next_answer answers)) v round key.0 serial; left = refl; few = omega arith })

source_arms : (w : World) (round : RoundState) (event : Event) (serial : Option ℕ) (answers : List PollerAnswer)
    → Arms round.fault 1 answers (handle_source w round event serial answers)
source_arms w round event None answers = record { fault = refl; left = refl; few = omega arith }
source_arms w round event (Some serial) answers =
    let dirs = directions_of event.on in
    rearmed_arms (world_taken w serial round.begin dirs) (record round { taken = round.taken ++ wakers_taken w serial round.begin dirs }) event.key serial answers

first_arms : (w : World) (round : RoundState) (hand : List Event) (answers : List PollerAnswer) → fault_of_round w.round ≡ round.fault
    → Arms round.fault 1 answers (handle_first w round hand answers)
first_arms w round [] answers same = record { fault = same; left = refl; few = omega arith }
first_arms w round (event ∷ events) answers same = source_arms w (record round { in_hand = events }) event (serial_of w event.key.0) answers

pub handle_arms : (w : World) (round : Option RoundState) (answers : List PollerAnswer) → w.round ≡ round → Arms (fault_of_round round) 1 answers (handle_in w round answers)
handle_arms w None answers is = record { fault = ap fault_of_round is; left = refl; few = omega arith }
handle_arms w (Some round) answers is = first_arms w round round.in_hand answers (ap fault_of_round is)

each_arms : (events : List Event) (w : World) (answers : List PollerAnswer) → Arms (fault_of_round w.round) (length events) answers (handle_each events w answers)
each_arms [] w answers = record { fault = refl; left = refl; few = omega arith }
each_arms (event ∷ events) w answers =
    let first = handle_round w answers in
    let rest = handle_each events first.world first.left in
    let one = handle_arms w w.round answers refl in
    let later = each_arms events first.world first.left in
    let before = fault_of_round w.round in
    let failed = arm_failed first.calls answers in
    record {
      fault = later.fault ∙ ap (λ (b : EndWord). after_arms b (arm_failed rest.calls first.left)) one.fault
          ∙ ap (λ (a : List PollerAnswer). after_arms (after_arms before failed) (arm_failed rest.calls a)) one.left
          ∙ after_both before failed (arm_failed rest.calls (answers_behind first.calls answers))
          ∙ ap (after_arms before) (sym (failed_both first.calls rest.calls answers));
      left = later.left ∙ ap (answers_behind rest.calls) one.left ∙ sym (behind_both first.calls rest.calls answers);
      few = let few_first = one.few in let few_later = later.few in let both = counts_both first.calls rest.calls in omega arith;
    }

-- ## A round waits

pub record Waits (told : PollerAnswer) (rest : List PollerAnswer) (o : Outcome) : Type 0 where
  pub calls : o.calls ≡ which.Wait ∷ []
  pub left : o.left ≡ rest
  pub fault : fault_of_round o.world.round ≡ cond (fails told) FaultWait Clean

answered_waits : (w : World) (round : RoundState) (told : PollerAnswer) (rest : List PollerAnswer) → round.fault ≡ Clean
    → Waits told rest (wait_answered w round told rest)
answered_waits w round Fails rest clean = record { calls = refl; left = refl; fault = ap (λ (fault : EndWord). first_fault fault FaultWait) clean }
answered_waits w round told rest clean = record { calls = refl; left = refl; fault = clean }

pub round_waits : (w : World) (round : Option RoundState) (answers : List PollerAnswer) → in_hand_of round ≡ Some [] → fault_of_round round ≡ Clean
    → Waits (next_answer answers) (later_answers answers) (wait_in w round answers)
round_waits w None answers empty clean = absurd cc
round_waits w (Some round) answers empty clean =
    let hand : round.in_hand ≡ [] = cc in
    cond_both (is_empty_list round.in_hand) _ _ (Waits (next_answer answers) (later_answers answers))
    (λ none. answered_waits w round (next_answer answers) (later_answers answers) clean) (λ some. absurd (let none = ap is_empty_list hand in cc))

-- ## A whole round ends

end_word : (waited armed : Bool) → after_arms (cond waited FaultWait Clean) armed ≡ cond waited FaultWait (cond armed FaultArm Clean)
end_word true true = refl
end_word true false = refl
end_word false true = refl
end_word false false = refl

end_is : (answers asked left : List PollerAnswer) (waited arms : List Which) (before : EndWord) → waited ≡ which.Wait ∷ [] → left ≡ later_answers asked → asked ≡ answers
    → before ≡ cond (fails (next_answer asked)) FaultWait Clean → after_arms before (arm_failed arms left) ≡ end_of_calls (waited ++ arms) answers
end_is answers asked left waited arms before calls behind same fault =
    ap (λ (b : EndWord). after_arms b (arm_failed arms left)) fault
    ∙ ap (λ (a : List PollerAnswer). after_arms (cond (fails (next_answer asked)) FaultWait Clean) (arm_failed arms a)) behind
    ∙ end_word (fails (next_answer asked)) (arm_failed arms (later_answers asked)) ∙ ap (end_of_calls (which.Wait ∷ arms)) same
    ∙ ap (λ (w : List Which). end_of_calls (w ++ arms) answers) (sym calls)

few_calls : (waited arms : List Which) (most : ℕ) → waited ≡ which.Wait ∷ [] → length arms ≤ most → length (waited ++ arms) ≤ most + 1
few_calls waited arms most calls few = let count : length (waited ++ arms) ≡ length (which.Wait ∷ arms) = ap (λ (w : List Which). length (w ++ arms)) calls in omega arith

react_or : (answers : List PollerAnswer) (runs : Bool) (x y : Outcome) → EndFits step.React answers x.answer x.calls
    → (runs ≡ false → EndFits step.React answers y.answer y.calls) → EndFits step.React answers (cond runs x y).answer (cond runs x y).calls
react_or answers true x y first second = first
react_or answers false x y first second = second refl

react_ends : (w : World) (answers : List PollerAnswer) → EndFits step.React answers (case_of w step.React answers).answer (case_of w step.React answers).calls
react_ends w answers =
    react_or answers (is_some w.round) _ _ tt
    (λ none.
    let begun = begin_round w None answers in
    let waited = wait_round begun.world begun.left in
    let hand = hand_of waited.world.round in
    let handled = handle_each hand waited.world waited.left in
    let start = round_begun w answers none in
    let waits = round_waits begun.world begun.world.round begun.left start.hand (begun_clean w None answers none) in
    let arms = each_arms hand waited.world waited.left in (
      arms.fault ∙ end_is answers begun.left waited.left waited.calls handled.calls (fault_of_round waited.world.round) waits.calls waits.left start.left waits.fault,
      few_calls waited.calls handled.calls (length hand) waits.calls arms.few,
    ))

pub case_ends : (w : World) (s : Step) (answers : List PollerAnswer) → EndFits s answers (case_of w s answers).answer (case_of w s answers).calls
case_ends w step.React answers = react_ends w answers
case_ends w _ answers = tt
