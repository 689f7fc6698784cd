-- A round in sections comes to what the whole round comes to as one step. What a step gives of a world is what it gives of one that differs in
-- positions of the past alone, and what it takes of the poller's answers are those of its own calls.
use Rattle.std.proofs.Common.{◌≡◌, ℕ, ◌+◌, Bool, true, false, not, cond, ◌==◌, List, [], ◌∷◌, ◌++◌, length, map, Option, None, Some, refl, ap, ◌∙◌, sym, subst, append_assoc}
use Rattle.std.specs.List.{All}
use Rattle.std.proofs.lemmas.List.Elements.{All-nil, All-cons, All-head, All-tail, All-append}
use Rattle.aio_base.specs.declared.names.Key.{Key}
use Rattle.aio_base.specs.declared.names.Waker.{Waker}
use Rattle.aio_base.specs.declared.names.Dir.{Dir}
use Rattle.aio_base.specs.declared.names.Event.{Event}
use Rattle.aio_base.specs.declared.outcomes.EndWord.{EndWord}
use Rattle.aio_base.specs.declared.outcomes.EndWord.TheVariants.{FaultArm}
use Rattle.aio_base.specs.declared.outcomes.Which.{Which}
use Rattle.aio_base.specs.declared.outcomes.Which.TheVariants as which
use Rattle.aio_base.specs.declared.steps.Answer.{Answer}
use Rattle.aio_base.specs.declared.steps.Answer.TheVariants as answer
use Rattle.aio_base.specs.declared.steps.Step.{Step}
use Rattle.aio_base.specs.declared.steps.Step.TheVariants as step
use Rattle.aio_base.specs.World.{PollerAnswer, Succeeds, BrokenSource, RoundState, World, directions_of, serial_of, waiters_of, is_empty_list, wanted, without_broken}
use Rattle.aio_base.specs.Machine.{Outcome, quiet, fails, next_answer, later_answers, broken_world, armed_world, after_arm, first_fault, without_waiters, world_taken, wakers_taken, rearmed, handle_source, handle_first, handle_in, handle_round, handle_each, hand_of, fault_of_round, begin_round, wait_answered, finish_in, finish_round, react, step_result}
use Rattle.aio_base.specs.Runs.{PolledStep, outcome_of, outcomes_of, world_of}
use Rattle.aio_laws.proofs.steps.Frames.{either}
use Rattle.aio_laws.proofs.rounds.RoundLemmas.{round_state_begun, in_hand_of, hand_is, event_handled, all_handled}
use Rattle.aio_laws.specs.Resuming.{begin_and_wait, finish, IsHandling, AnswersEachCall, answers_in, calls_in, IsSameButForPositions, end_told, EndsAsWhole, GoesOn, GoesOnAsWhole}

-- ## The same but for positions

abbrev serials : List BrokenSource → List ℕ
serials broken = map (λ (b : BrokenSource). b.serial) broken

abbrev Same : World → World → Type 0
Same w v = IsSameButForPositions w v

-- the world at another position, with other failed arms
abbrev at : ℕ → List BrokenSource → World → World
at pos broken w = record w { pos = pos; broken = broken }

same_itself : (w : World) → Same w w
same_itself w = record { all = refl; broken = refl }

-- the failed arms but for those of a source
filtered : (serial : ℕ) (one : Bool) (b c : BrokenSource) (bs cs : List BrokenSource) → b.serial ≡ c.serial → serials bs ≡ serials cs
    → serials (cond one (b ∷ bs) bs) ≡ serials (cond one (c ∷ cs) cs)
filtered serial true b c bs cs first rest = ap (λ (s : ℕ). s ∷ serials bs) first ∙ ap (λ (ss : List ℕ). c.serial ∷ ss) rest
filtered serial false b c bs cs first rest = rest

without_same : (serial : ℕ) (bs cs : List BrokenSource) → serials bs ≡ serials cs → serials (without_broken bs serial) ≡ serials (without_broken cs serial)
without_same serial [] [] same = refl
without_same serial [] (c ∷ cs) same = absurd cc
without_same serial (b ∷ bs) [] same = absurd cc
without_same serial (b ∷ bs) (c ∷ cs) same =
    let first : b.serial ≡ c.serial = cc in
    let rest : serials bs ≡ serials cs = cc in
    ap (λ (s : ℕ). serials (cond (not (s == serial)) (b ∷ without_broken bs serial) (without_broken bs serial))) first
    ∙ filtered serial (not (c.serial == serial)) b c (without_broken bs serial) (without_broken cs serial) first (without_same serial bs cs rest)

serials_then : (bs cs : List BrokenSource) (b c : BrokenSource) → serials bs ≡ serials cs → b.serial ≡ c.serial
    → serials (bs ++ b ∷ []) ≡ serials (cs ++ c ∷ [])
serials_then [] [] b c same last = ap (λ (s : ℕ). s ∷ []) last
serials_then [] (d ∷ ds) b c same last = absurd cc
serials_then (d ∷ ds) [] b c same last = absurd cc
serials_then (d ∷ ds) (e ∷ es) b c same last =
    let first : d.serial ≡ e.serial = cc in
    let rest : serials ds ≡ serials es = cc in
    ap (λ (s : ℕ). s ∷ serials (ds ++ b ∷ [])) first ∙ ap (λ (ss : List ℕ). e.serial ∷ ss) (serials_then ds es b c rest last)

either_same : (test : Bool) (u v x y : World) → Same u x → Same v y → Same (cond test u v) (cond test x y)
either_same true u v x y first second = first
either_same false u v x y first second = second

round_same : (round : Option RoundState) (w v : World) → Same w v → Same (record w { round = round }) (record v { round = round })
round_same round w v same = record {
  all = ap (λ (u : World). let x : World = record u { round = round } in x) same.all;
  broken = same.broken;
}

-- a step moves the position on
moved_same : (w v : World) → Same w v → Same w (record v { pos = v.pos + 1 })
moved_same w v same = record {
  all = ap (λ (u : World). let x : World = record u { pos = u.pos + 1 } in x) same.all;
  broken = same.broken;
}

round_is : (w v : World) → Same w v → v.round ≡ w.round
round_is w v same = ap (λ (u : World). u.round) same.all

-- ## The handling of an event

-- the second outcome is the first, in a world that is the same but for positions
record Alike (o p : Outcome) : Type 0 where
  rest : p ≡ record o { world = p.world }
  world : Same o.world p.world

either_alike : (test : Bool) (x y u v : Outcome) → Alike x u → Alike y v → Alike (cond test x y) (cond test u v)
either_alike true x y u v first second = first
either_alike false x y u v first second = second

arm_same : (p : ℕ) (q : List BrokenSource) (w : World) (key serial : ℕ) (told : PollerAnswer) → serials q ≡ serials w.broken
    → Same (after_arm w key serial told) (after_arm (at p q w) key serial told)
arm_same p q w key serial told failed =
    let less = without_same serial q w.broken failed in
    either_same (fails told) (broken_world w serial) (armed_world w key serial) (broken_world (at p q w) serial) (armed_world (at p q w) key serial)
    (record { all = refl; broken = serials_then (without_broken q serial) (without_broken w.broken serial) _ _ less refl })
    (record { all = refl; broken = less })

rearmed_alike : (p : ℕ) (q : List BrokenSource) (w : World) (round : RoundState) (key : Key) (serial : ℕ) (answers : List PollerAnswer)
    → serials q ≡ serials w.broken → Alike (rearmed w round key serial answers) (rearmed (at p q w) round key serial answers)
rearmed_alike p q w round key serial answers failed =
    let told = next_answer answers in
    let arm = arm_same p q w key.0 serial told failed in
    let faulty : Option RoundState = Some (record round { fault = first_fault round.fault FaultArm }) in
    let one = after_arm w key.0 serial told in
    let other = after_arm (at p q w) key.0 serial told in
    either_alike (is_empty_list (wanted w serial)) (quiet (answer.Handled key false) w answers) _ (quiet (answer.Handled key false) (at p q w) answers) _
    (record { rest = refl; world = record { all = refl; broken = failed } })
    (record {
      rest = refl;
      world = either_same (fails told) (record one { round = faulty }) one (record other { round = faulty }) other (round_same faulty one other arm) arm;
    })

taken_at : (p : ℕ) (q : List BrokenSource) (w : World) (serial begin : ℕ) (dirs : List Dir)
    → world_taken (at p q w) serial begin dirs ≡ at p q (world_taken w serial begin dirs)
taken_at p q w serial begin [] = refl
taken_at p q w serial begin (dir ∷ dirs) = taken_at p q (without_waiters w serial begin dir) serial begin dirs

taken_broken : (w : World) (serial begin : ℕ) (dirs : List Dir) → (world_taken w serial begin dirs).broken ≡ w.broken
taken_broken w serial begin [] = refl
taken_broken w serial begin (dir ∷ dirs) = taken_broken (without_waiters w serial begin dir) serial begin dirs

wakers_at : (p : ℕ) (q : List BrokenSource) (w : World) (serial begin : ℕ) (dirs : List Dir)
    → wakers_taken (at p q w) serial begin dirs ≡ wakers_taken w serial begin dirs
wakers_at p q w serial begin [] = refl
wakers_at p q w serial begin (dir ∷ dirs) =
    ap (λ (more : List Waker). waiters_of w serial dir ++ more) (wakers_at p q (without_waiters w serial begin dir) serial begin dirs)

source_alike : (p : ℕ) (q : List BrokenSource) (w : World) (round : RoundState) (event : Event) (serial : Option ℕ) (answers : List PollerAnswer)
    → serials q ≡ serials w.broken → Alike (handle_source w round event serial answers) (handle_source (at p q w) round event serial answers)
source_alike p q w round event None answers failed = record { rest = refl; world = record { all = refl; broken = failed } }
source_alike p q w round event (Some serial) answers failed =
    let dirs = directions_of event.on in
    let taken : RoundState = record round { taken = round.taken ++ wakers_taken w serial round.begin dirs } in
    let left : World = record (world_taken w serial round.begin dirs) { round = Some taken } in
    let is : handle_source (at p q w) round event (Some serial) answers ≡ rearmed (at p q left) taken event.key serial answers =
    ap (λ (wakers : List Waker). let now : RoundState = record round { taken = round.taken ++ wakers } in
    rearmed (record (world_taken (at p q w) serial round.begin dirs) { round = Some now }) now event.key serial answers)
    (wakers_at p q w serial round.begin dirs)
    ∙ ap (λ (v : World). rearmed (record v { round = Some taken }) taken event.key serial answers) (taken_at p q w serial round.begin dirs) in
    subst (λ (o : Outcome). Alike (handle_source w round event (Some serial) answers) o) (sym is)
    (rearmed_alike p q left taken event.key serial answers (failed ∙ ap serials (sym (taken_broken w serial round.begin dirs))))

first_alike : (p : ℕ) (q : List BrokenSource) (w : World) (round : RoundState) (events : List Event) (answers : List PollerAnswer)
    → serials q ≡ serials w.broken → Alike (handle_first w round events answers) (handle_first (at p q w) round events answers)
first_alike p q w round [] answers failed = record { rest = refl; world = record { all = refl; broken = failed } }
first_alike p q w round (event ∷ events) answers failed = source_alike p q w _ event (serial_of w event.key.0) answers failed

in_alike : (p : ℕ) (q : List BrokenSource) (w : World) (round : Option RoundState) (answers : List PollerAnswer)
    → serials q ≡ serials w.broken → Alike (handle_in w round answers) (handle_in (at p q w) round answers)
in_alike p q w None answers failed = record { rest = refl; world = record { all = refl; broken = failed } }
in_alike p q w (Some round) answers failed = first_alike p q w round round.in_hand answers failed

handle_alike : (w v : World) (answers : List PollerAnswer) → Same w v → Alike (handle_round w answers) (handle_round v answers)
handle_alike w v answers same =
    subst (λ (u : World). Alike (handle_round w answers) (handle_round u answers)) (sym same.all) (in_alike v.pos v.broken w w.round answers same.broken)

-- ## What the handling of an event takes of the poller's answers

quiet_takes : (told : Answer) (w : World) (own more : List PollerAnswer) → length own ≡ 0
    → quiet told w (own ++ more) ≡ record (quiet told w own) { left = more }
quiet_takes told w [] more count = refl
quiet_takes told w (a ∷ own) more count = absurd cc

-- an arm, or none
abbrev armed_or : Bool → (List PollerAnswer → Outcome) → (PollerAnswer → List PollerAnswer → Outcome) → List PollerAnswer → Outcome
armed_or test none arms answers = cond test (none answers) (arms (next_answer answers) (later_answers answers))

rearmed_takes : (test : Bool) (w : World) (round : RoundState) (key : Key) (serial : ℕ) (own more : List PollerAnswer)
    → let faulty : Option RoundState = Some (record round { fault = first_fault round.fault FaultArm }) in
    let arms : PollerAnswer → List PollerAnswer → Outcome = λ told later. record {
      answer = answer.Handled key (fails told);
      wakes = [];
      world = cond (fails told) (record (after_arm w key.0 serial told) { round = faulty }) (after_arm w key.0 serial told);
      calls = which.Arm ∷ [];
      left = later;
    } in
    let made : List PollerAnswer → Outcome = armed_or test (λ answers. quiet (answer.Handled key false) w answers) arms in
    length own ≡ length (made own).calls → made (own ++ more) ≡ record (made own) { left = more }
rearmed_takes true w round key serial [] more count = refl
rearmed_takes true w round key serial (a ∷ own) more count = absurd cc
rearmed_takes false w round key serial [] more count = absurd cc
rearmed_takes false w round key serial (a ∷ []) more count = refl
rearmed_takes false w round key serial (a ∷ b ∷ own) more count = absurd cc

source_takes : (w : World) (round : RoundState) (event : Event) (serial : Option ℕ) (own more : List PollerAnswer)
    → length own ≡ length (handle_source w round event serial own).calls
    → handle_source w round event serial (own ++ more) ≡ record (handle_source w round event serial own) { left = more }
source_takes w round event None own more count = quiet_takes (answer.Handled event.key false) (record w { round = Some round }) own more count
source_takes w round event (Some serial) own more count =
    let dirs = directions_of event.on in
    let taken : RoundState = record round { taken = round.taken ++ wakers_taken w serial round.begin dirs } in
    let left : World = record (world_taken w serial round.begin dirs) { round = Some taken } in
    rearmed_takes (is_empty_list (wanted left serial)) left taken event.key serial own more count

first_takes : (w : World) (round : RoundState) (events : List Event) (own more : List PollerAnswer)
    → length own ≡ length (handle_first w round events own).calls
    → handle_first w round events (own ++ more) ≡ record (handle_first w round events own) { left = more }
first_takes w round [] own more count = quiet_takes answer.Empty w own more count
first_takes w round (event ∷ events) own more count = source_takes w (record round { in_hand = events }) event (serial_of w event.key.0) own more count

in_takes : (w : World) (round : Option RoundState) (own more : List PollerAnswer) → length own ≡ length (handle_in w round own).calls
    → handle_in w round (own ++ more) ≡ record (handle_in w round own) { left = more }
in_takes w None own more count = quiet_takes answer.NoRound w own more count
in_takes w (Some round) own more count = first_takes w round round.in_hand own more count

-- nobody is woken
rearmed_silent : (w : World) (round : RoundState) (key : Key) (serial : ℕ) (answers : List PollerAnswer) → (rearmed w round key serial answers).wakes ≡ []
rearmed_silent w round key serial answers = either (λ (o : Outcome). o.wakes ≡ []) (is_empty_list (wanted w serial)) _ _ refl refl

source_silent : (w : World) (round : RoundState) (event : Event) (serial : Option ℕ) (answers : List PollerAnswer)
    → (handle_source w round event serial answers).wakes ≡ []
source_silent w round event None answers = refl
source_silent w round event (Some serial) answers = rearmed_silent _ _ event.key serial answers

first_silent : (w : World) (round : RoundState) (events : List Event) (answers : List PollerAnswer) → (handle_first w round events answers).wakes ≡ []
first_silent w round [] answers = refl
first_silent w round (event ∷ events) answers = source_silent w _ event (serial_of w event.key.0) answers

in_silent : (w : World) (round : Option RoundState) (answers : List PollerAnswer) → (handle_in w round answers).wakes ≡ []
in_silent w None answers = refl
in_silent w (Some round) answers = first_silent w round round.in_hand answers

-- ## A step that handles an event

-- a step in a world, beside the same section in a world that is the same but for positions, with further answers behind
record Handling (w v : World) (s : PolledStep) (more : List PollerAnswer) : Type 0 where
  calls : (outcome_of v s).calls ≡ (handle_round w (s.answers ++ more)).calls
  left : (handle_round w (s.answers ++ more)).left ≡ more
  world : Same (handle_round w (s.answers ++ more)).world (outcome_of v s).world
  silent : (outcome_of v s).wakes ≡ []

handling_of : (w v : World) (own more : List PollerAnswer) → Same w v
    → length own ≡ length (outcome_of v (record { step = step.Handle; answers = own })).calls → Handling w v (record { step = step.Handle; answers = own }) more
unfolding step_result
handling_of w v own more same count =
    let alike = handle_alike w v own same in
    let calls : (handle_round v own).calls ≡ (handle_round w own).calls = ap (λ (o : Outcome). o.calls) alike.rest in
    let takes = in_takes w w.round own more (count ∙ ap (λ (cs : List Which). length cs) calls) in
    record {
      calls = calls ∙ sym (ap (λ (o : Outcome). o.calls) takes);
      left = ap (λ (o : Outcome). o.left) takes;
      world = subst (λ (o : Outcome). Same o.world (record (handle_round v own).world { pos = (handle_round v own).world.pos + 1 })) (sym takes)
          (moved_same (handle_round w own).world (handle_round v own).world alike.world);
      silent = in_silent v v.round own;
    }

handling : (w v : World) (s : PolledStep) (more : List PollerAnswer) → Same w v → IsHandling s
    → length s.answers ≡ length (outcome_of v s).calls → Handling w v s more
handling w v s more same is count =
    let named : s ≡ record { step = step.Handle; answers = s.answers } = ap (λ (of : Step). let x : PolledStep = record { step = of; answers = s.answers } in x) is in
    subst (λ (x : PolledStep). Handling w v x more) (sym named)
    (handling_of w v s.answers more same (subst (λ (x : PolledStep). length s.answers ≡ length (outcome_of v x).calls) named count))

-- ## The events in hand, one after the other

abbrev WakesNobody : Outcome → Type 0
WakesNobody o = o.wakes ≡ []

-- what came of some sections is what comes of one handling of all events
record Comes (o : Outcome) (v : World) (run : List PolledStep) : Type 0 where
  same : Same o.world (world_of v run)
  calls : calls_in (outcomes_of v run) ≡ o.calls
  silent : All WakesNobody (outcomes_of v run)

no_hand : (w : World) (round : Option RoundState) (answers : List PollerAnswer) → in_hand_of round ≡ Some []
    → ((handle_in w round answers).calls ≡ []) × ((handle_in w round answers).world ≡ w)
no_hand w None answers none = absurd cc
no_hand w (Some round) answers none =
    let hand : round.in_hand ≡ [] = cc in
    subst (λ (events : List Event). ((handle_first w round events answers).calls ≡ []) × ((handle_first w round events answers).world ≡ w)) (sym hand) (refl, refl)

all_comes : (run : List PolledStep) (w v : World) (hand : List Event) → in_hand_of w.round ≡ Some hand → Same w v → All IsHandling run
    → AnswersEachCall v run → hand_of (world_of v run).round ≡ [] → Comes (handle_each hand w (answers_in run)) v run
all_comes [] w v [] holds same handles each empty = record { same = same; calls = refl; silent = All-nil WakesNobody }
all_comes [] w v (event ∷ events) holds same handles each empty =
    let held : hand_of v.round ≡ event ∷ events = hand_is v.round (event ∷ events) (ap in_hand_of (round_is w v same) ∙ holds) in
    absurd (let none = sym held ∙ empty in cc)
all_comes (s ∷ run) w v [] holds same handles each empty =
    let one = handling w v s (answers_in run) same (All-head IsHandling s run handles) each.0 in
    let none = no_hand w w.round (s.answers ++ answers_in run) holds in
    let next : Same w (outcome_of v s).world = subst (λ (u : World). Same u (outcome_of v s).world) none.1 one.world in
    let rest = all_comes run w (outcome_of v s).world [] holds next (All-tail IsHandling s run handles) each.1 empty in
    record {
      same = rest.same;
      calls = ap (λ (calls : List Which). calls ++ calls_in (outcomes_of (outcome_of v s).world run)) (one.calls ∙ none.0) ∙ rest.calls;
      silent = All-cons WakesNobody (outcome_of v s) (outcomes_of (outcome_of v s).world run) one.silent rest.silent;
    }
all_comes (s ∷ run) w v (event ∷ events) holds same handles each empty =
    let first = handle_round w (s.answers ++ answers_in run) in
    let one = handling w v s (answers_in run) same (All-head IsHandling s run handles) each.0 in
    let held = (event_handled w event events (s.answers ++ answers_in run) holds).hand in
    let all = all_comes run first.world (outcome_of v s).world events held one.world (All-tail IsHandling s run handles) each.1 empty in
    let rest = subst (λ (answers : List PollerAnswer). Comes (handle_each events first.world answers) (outcome_of v s).world run) (sym one.left) all in
    record {
      same = rest.same;
      calls = ap (λ (calls : List Which). calls ++ calls_in (outcomes_of (outcome_of v s).world run)) one.calls
          ∙ ap (λ (calls : List Which). first.calls ++ calls) rest.calls;
      silent = All-cons WakesNobody (outcome_of v s) (outcomes_of (outcome_of v s).world run) one.silent rest.silent;
    }

-- ## The wait, and the end

waited_same : (p : ℕ) (w : World) (round : RoundState) (told : PollerAnswer) (more : List PollerAnswer)
    → Same (wait_answered w round told more).world (wait_answered (at p w.broken w) round told []).world
waited_same p w round Succeeds more = record { all = refl; broken = refl }
waited_same p w round told more = record { all = refl; broken = refl }

record WaitedOnce (w : World) (round : RoundState) (told : PollerAnswer) (more : List PollerAnswer) : Type 0 where
  left : (wait_answered w round told more).left ≡ more
  calls : (wait_answered w round told more).calls ≡ which.Wait ∷ []
  silent : (wait_answered w round told more).wakes ≡ []

waited_once : (w : World) (round : RoundState) (told : PollerAnswer) (more : List PollerAnswer) → WaitedOnce w round told more
waited_once w round Succeeds more = record { left = refl; calls = refl; silent = refl }
waited_once w round told more = record { left = refl; calls = refl; silent = refl }

waited_hand : (w : World) (round : RoundState) (told : PollerAnswer) (more : List PollerAnswer)
    → let after = (wait_answered w round told more).world.round in in_hand_of after ≡ Some (hand_of after)
waited_hand w round Succeeds more = refl
waited_hand w round told more = refl

-- the ends of two rounds with nothing in hand, the first with this fault
record Ended (fault : EndWord) (o p : Outcome) : Type 0 where
  wakes : p.wakes ≡ o.wakes
  told : p.answer ≡ answer.End fault
  calls : p.calls ≡ []
  world : Same o.world p.world

both_ended : (fault : EndWord) (test : Bool) (o p x y : Outcome) → test ≡ true → Ended fault o x → Ended fault (cond test o p) (cond test x y)
both_ended fault true o p x y is first = first
both_ended fault false o p x y is first = absurd cc

ended_at : (p : ℕ) (q : List BrokenSource) (w : World) (round : Option RoundState) (left : List PollerAnswer) → in_hand_of round ≡ Some []
    → serials q ≡ serials w.broken → Ended (fault_of_round round) (finish_in w round left) (finish_in (at p q w) round [])
ended_at p q w None left none failed = absurd cc
ended_at p q w (Some round) left none failed =
    let hand : round.in_hand ≡ [] = cc in
    both_ended round.fault (is_empty_list round.in_hand) _ _ _ _ (ap is_empty_list hand)
    (record { wakes = refl; told = refl; calls = refl; world = record { all = refl; broken = failed } })

ended : (w v : World) (left : List PollerAnswer) → Same w v → in_hand_of w.round ≡ Some []
    → Ended (fault_of_round w.round) (finish_round w left) (finish_round v [])
ended w v left same none =
    subst (λ (u : World). Ended (fault_of_round w.round) (finish_round w left) (finish_round u [])) (sym same.all)
    (ended_at v.pos v.broken w w.round left none same.broken)

-- ## The whole round

-- where no round runs, it is begun and waited, all events are handled, and it is ended
abbrev EndsSo : Option ℕ → PollerAnswer → List PolledStep → World → Type 0
EndsSo given told run w = AnswersEachCall w (begin_and_wait given told ++ run) → hand_of (world_of w (begin_and_wait given told ++ run)).round ≡ []
    → EndsAsWhole (react w given (told ∷ answers_in run)) (outcomes_of w (begin_and_wait given told ++ run))
    (outcome_of (world_of w (begin_and_wait given told ++ run)) finish)

ends_so : (v : World) (given : Option ℕ) (told : PollerAnswer) (run : List PolledStep) → All IsHandling run → EndsSo given told run (record v { round = None })
unfolding step_result
ends_so v given told run handles each empty =
    let w : World = record v { round = None } in
    let begun = begin_round w given (told ∷ answers_in run) in
    let round = round_state_begun w given in
    let waited = wait_answered begun.world round told (answers_in run) in
    let first = outcome_of w (record { step = step.Begin given; answers = [] }) in
    let second = outcome_of first.world (record { step = step.Wait; answers = told ∷ [] }) in
    let apart = wait_answered first.world round told [] in
    let same : Same waited.world second.world = moved_same waited.world apart.world (waited_same (v.pos + 1) begun.world round told (answers_in run)) in
    let one = waited_once begun.world round told (answers_in run) in
    let other = waited_once first.world round told [] in
    let hand = hand_of waited.world.round in
    let holds = waited_hand begun.world round told (answers_in run) in
    let handled = handle_each hand waited.world waited.left in
    let came : Comes handled second.world run =
    subst (λ (answers : List PollerAnswer). Comes (handle_each hand waited.world answers) second.world run) (sym one.left)
    (all_comes run waited.world second.world hand holds same handles each.1.1 empty) in
    let over = ended handled.world (world_of second.world run) handled.left came.same (all_handled hand waited.world waited.left holds).hand in
    record {
      silent = All-cons WakesNobody first (second ∷ outcomes_of second.world run) refl
          (All-cons WakesNobody second (outcomes_of second.world run) other.silent came.silent);
      wakes = over.wakes;
      fault = ap end_told over.told;
      calls = ap (λ (calls : List Which). calls ++ calls_in (outcomes_of second.world run)) (other.calls ∙ sym one.calls)
          ∙ ap (λ (calls : List Which). waited.calls ++ calls) came.calls;
      none = over.calls;
      world = moved_same (finish_round handled.world handled.left).world (finish_round (world_of second.world run) []).world over.world;
    }

-- ## A run in two parts

world_both : (run more : List PolledStep) (w : World) → world_of w (run ++ more) ≡ world_of (world_of w run) more
world_both [] more w = refl
world_both (s ∷ run) more w = world_both run more (outcome_of w s).world

outcomes_both : (run more : List PolledStep) (w : World) → outcomes_of w (run ++ more) ≡ outcomes_of w run ++ outcomes_of (world_of w run) more
outcomes_both [] more w = refl
outcomes_both (s ∷ run) more w = ap (λ (later : List Outcome). outcome_of w s ∷ later) (outcomes_both run more (outcome_of w s).world)

each_both : (run more : List PolledStep) (w : World) → AnswersEachCall w run → AnswersEachCall (world_of w run) more → AnswersEachCall w (run ++ more)
each_both [] more w first second = second
each_both (s ∷ run) more w first second = (first.0, each_both run more (outcome_of w s).world first.1 second)

answers_both : (run more : List PolledStep) → answers_in (run ++ more) ≡ answers_in run ++ answers_in more
answers_both [] more = refl
answers_both (s ∷ run) more =
    ap (λ (later : List PollerAnswer). s.answers ++ later) (answers_both run more) ∙ sym (append_assoc s.answers (answers_in run) (answers_in more))

pub goes_on : (w : World) (given : Option ℕ) (told : PollerAnswer) (done rest : List PolledStep) → GoesOn w given told done rest
    → GoesOnAsWhole w given told done rest
goes_on w given told done rest g =
    let front = begin_and_wait given told ++ done in
    let idle : w ≡ record w { round = None } = ap (λ (round : Option RoundState). let v : World = record w { round = round } in v) g.idle in
    let handles = All-append IsHandling done rest g.done_handle g.rest_handle in
    let worlds = world_both front rest w in
    let whole = subst (EndsSo given told (done ++ rest)) (sym idle) (ends_so w given told (done ++ rest) handles)
    (each_both front rest w g.before g.after) (ap (λ (v : World). hand_of v.round) worlds ∙ g.empty) in
    subst (λ (answers : List PollerAnswer). EndsAsWhole (react w given (told ∷ answers)) (outcomes_of w front ++ outcomes_of (world_of w front) rest)
    (outcome_of (world_of (world_of w front) rest) finish)) (answers_both done rest)
    (subst (λ (outcomes : List Outcome). EndsAsWhole (react w given (told ∷ answers_in (done ++ rest))) outcomes
    (outcome_of (world_of (world_of w front) rest) finish)) (outcomes_both front rest w)
    (subst (λ (v : World). EndsAsWhole (react w given (told ∷ answers_in (done ++ rest))) (outcomes_of w (front ++ rest)) (outcome_of v finish)) worlds whole))
