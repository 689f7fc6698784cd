-- How a step counts rounds, and what it leaves of the clock.
use Rattle.std.proofs.Common.{◌≡◌, ℕ, ◌+◌, Bool, true, false, not, cond, List, [], ◌∷◌, ◌++◌, Option, None, Some, is_some, refl, ap, ◌∙◌}
use Rattle.std.specs.Prelude.{nat_lt}
use Rattle.std.proofs.lemmas.Bool.{cond_both}
use Rattle.aio_base.specs.declared.steps.Step.{Step}
use Rattle.aio_base.specs.declared.steps.Step.TheVariants as step
use Rattle.aio_base.specs.declared.steps.Answer.{Answer}
use Rattle.aio_base.specs.declared.steps.Answer.TheVariants as answer
use Rattle.aio_base.specs.World.{PollerAnswer, RoundState, World, is_empty_list}
use Rattle.aio_base.specs.Machine.{Outcome, set_clock, begin_round, wait_round, finish_in, handle_each, hand_of, react, case_of, step_result}
use Rattle.aio_laws.specs.RoundCounts.{RoundName, name_of, begins_round, limit_told, running_after, RoundsFollow}
use Rattle.aio_laws.specs.Clock.{clock_after, TellsTheMoment, ClockIsSet}
use Rattle.aio_laws.proofs.rounds.RoundAnswers.{rounds_told}
use Rattle.aio_laws.proofs.rounds.RoundLemmas.{in_hand_of, all_handled, ended_of, begun_in_hand}
use Rattle.aio_laws.proofs.steps.Frames.{Frame, frame, either, wait_keeps, each_keeps, case_keeps}

-- the clock's moment and the rounds of a frame
record Count : Type 0 where
  now : ℕ
  rounds : ℕ
  begun : List ℕ
  name : Option RoundName

abbrev count : Frame → Count
count f = record { now = f.now; rounds = f.rounds; begun = f.begun; name = f.name }

-- what the definitions say of them after a step
abbrev expected : World → Step → Answer → Count
expected w s told = record {
  now = clock_after w s told;
  rounds = cond (begins_round w s) (w.rounds + 1) w.rounds;
  begun = cond (begins_round w s) (w.begun ++ w.pos ∷ []) w.begun;
  name = running_after w s told;
}

record Counts (w : World) (s : Step) (o : Outcome) : Type 0 where
  count : count (frame o.world) ≡ expected w s o.answer
  moment : TellsTheMoment w s o.answer

-- an outcome by a test, with an expectation that speaks of the test
by_test : (C : Bool → Outcome → Type 0) (test : Bool) (x y : Outcome) → (test ≡ true → C true x) → (test ≡ false → C false y) → C test (cond test x y)
by_test C true x y first second = first refl
by_test C false x y first second = second refl

clock_counts : (w : World) (moment : ℕ) (answers : List PollerAnswer) → Counts w (step.Now moment) (set_clock w moment answers)
clock_counts w moment answers =
    let C : Bool → Outcome → Type 0 = λ test o. (count (frame o.world) ≡ expected w (step.Now moment) o.answer) × (o.answer ≡ cond test (answer.Back w.now) (answer.At moment)) in
    let both = by_test C (nat_lt moment w.now) _ _ (λ back. (refl, refl)) (λ on. (refl, refl)) in
    record { count = both.0; moment = both.1 }

-- ## Rounds

-- what is expected where a round begins or is refused, by whether one runs
abbrev begun_count : World → Bool → Answer → Count
begun_count w running told = record {
  now = w.now;
  rounds = cond (not running) (w.rounds + 1) w.rounds;
  begun = cond (not running) (w.begun ++ w.pos ∷ []) w.begun;
  name = cond running (name_of w.round) (Some (record { number = w.rounds + 1; begin = w.pos; limit = limit_told told }));
}

begin_counts : (w : World) (given : Option ℕ) (answers : List PollerAnswer) → Counts w (step.Begin given) (begin_round w given answers)
begin_counts w given answers =
    let C : Bool → Outcome → Type 0 = λ running o. count (frame o.world) ≡ begun_count w running o.answer in
    record { count = by_test C (is_some w.round) _ _ (λ runs. refl) (λ none. refl); moment = tt }

-- with nothing in hand a round ends
ends : (w : World) (round : Option RoundState) (answers : List PollerAnswer) → in_hand_of round ≡ Some []
    → frame (finish_in w round answers).world ≡ record (frame w) { name = None }
ends w None answers empty = absurd cc
ends w (Some round) answers empty =
    let hand : round.in_hand ≡ [] = cc in
    cond_both (is_empty_list round.in_hand) _ _ (λ (o : Outcome). frame o.world ≡ record (frame w) { name = None }) (λ empty. refl)
    (λ some. absurd (let none = ap is_empty_list hand in cc))

finish_counts : (w : World) (round : Option RoundState) (answers : List PollerAnswer) → w.round ≡ round
    → count (frame (finish_in w round answers).world) ≡ expected w step.Finish (finish_in w round answers).answer
finish_counts w None answers is = refl
finish_counts w (Some round) answers is =
    either (λ o. count (frame o.world) ≡ expected w step.Finish o.answer) (is_empty_list round.in_hand) _ _ refl refl

begun_frame : (w : World) (given : Option ℕ) (answers : List PollerAnswer) → is_some w.round ≡ false
    → (record (count (frame (begin_round w given answers).world)) { name = None })
    ≡ (record { now = w.now; rounds = w.rounds + 1; begun = w.begun ++ w.pos ∷ []; name = None })
begun_frame w given answers none =
    cond_both (is_some w.round) _ _
    (λ (o : Outcome). (record (count (frame o.world)) { name = None }) ≡ (record { now = w.now; rounds = w.rounds + 1; begun = w.begun ++ w.pos ∷ []; name = None }))
    (λ runs. absurd cc) (λ none. refl)

none_named : (round : Option RoundState) → is_some round ≡ false → None ≡ name_of round
none_named None none = refl
none_named (Some round) none = absurd cc

abbrev unnamed : Frame → Count
unnamed f = record (count f) { name = None }

reacted : (w : World) (answers : List PollerAnswer) → is_some w.round ≡ false
    → count (frame (ended_of w answers).world)
    ≡ (record { now = w.now; rounds = w.rounds + 1; begun = w.begun ++ w.pos ∷ []; name = name_of w.round })
reacted w answers none =
    let begun = begin_round w None answers in
    let waited = wait_round begun.world begun.left in
    let hand = hand_of waited.world.round in
    let handled = handle_each hand waited.world waited.left in
    let out = (all_handled hand waited.world waited.left (begun_in_hand w answers none).held).hand in
    ap count (ends handled.world handled.world.round handled.left out)
    ∙ ap unnamed (each_keeps hand waited.world waited.left)
    ∙ ap unnamed (wait_keeps begun.world begun.world.round begun.left refl)
    ∙ begun_frame w None answers none
    ∙ ap (λ (name : Option RoundName). record { now = w.now; rounds = w.rounds + 1; begun = w.begun ++ w.pos ∷ []; name = name }) (none_named w.round none)

-- a whole round leaves none that runs
pub react_ends : (w : World) (answers : List PollerAnswer) → is_some w.round ≡ false
    → name_of (ended_of w answers).world.round ≡ name_of w.round
react_ends w answers none = ap (λ (n : Count). n.name) (reacted w answers none)

react_counts : (w : World) (answers : List PollerAnswer) → Counts w step.React (react w None answers)
react_counts w answers =
    let C : Bool → Outcome → Type 0 = λ running o.
    count (frame o.world)
    ≡ (record { now = w.now; rounds = cond (not running) (w.rounds + 1) w.rounds; begun = cond (not running) (w.begun ++ w.pos ∷ []) w.begun; name = name_of w.round }) in
    record { count = by_test C (is_some w.round) _ _ (λ runs. refl) (λ none. reacted w answers none); moment = tt }

-- ## A step

step_counts : (w : World) (s : Step) (answers : List PollerAnswer) → Counts w s (case_of w s answers)
step_counts w (step.Now moment) answers = clock_counts w moment answers
step_counts w (step.Begin limit) answers = begin_counts w limit answers
step_counts w step.Finish answers = record { count = finish_counts w w.round answers refl; moment = tt }
step_counts w step.React answers = react_counts w answers
step_counts w s answers = record { count = ap count (case_keeps w s answers); moment = tt }

pub rounds_follow : (w : World) (s : Step) (answers : List PollerAnswer)
    → RoundsFollow w s answers (step_result w s answers).answer (step_result w s answers).world
unfolding step_result
rounds_follow w s answers =
    let c = step_counts w s answers in
    record { rounds = ap (λ (n : Count). n.rounds) c.count; begun = ap (λ (n : Count). n.begun) c.count; running = ap (λ (n : Count). n.name) c.count; answered = rounds_told w s answers }

pub clock_is_set : (w : World) (s : Step) (answers : List PollerAnswer)
    → ClockIsSet w s (step_result w s answers).answer (step_result w s answers).world
unfolding step_result
clock_is_set w s answers =
    let c = step_counts w s answers in
    record { now = ap (λ (n : Count). n.now) c.count; moment = c.moment }
