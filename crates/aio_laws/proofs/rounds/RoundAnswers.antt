-- What the steps of a round tell: the limit of a `begin`, and the answer of each by the round that runs and its hand.
use Rattle.std.proofs.Common.{◌≡◌, ◌⊎◌, ℕ, ◌+◌, ◌-◌, ◌<◌, ◌≤◌, Bool, true, false, not, cond, List, [], ◌∷◌, length, map, filter, min, Option, None, Some, is_some, refl, ap, ◌∙◌, sym, subst, ⊎_elim, inl, inr, arith}
use Rattle.std.specs.Prelude.{nat_le}
use Rattle.std.specs.List.{Contains}
use Rattle.std.proofs.lemmas.Bool.{cases_Bool, cases_lt, cond-true, cond-false, leb-true}
use Rattle.std.proofs.Math.Nat.{min-le_left, min-le_right, min-eq_left, min-eq_right}
use Rattle.aio_base.specs.declared.names.Key.{Key}
use Rattle.aio_base.specs.declared.names.Event.{Event}
use Rattle.aio_base.specs.declared.steps.Step.{Step}
use Rattle.aio_base.specs.declared.steps.Step.TheVariants as step
use Rattle.aio_base.specs.declared.steps.Answer.{Answer}
use Rattle.aio_base.specs.declared.steps.Answer.TheVariants as answer
use Rattle.aio_base.specs.World.{PollerAnswer, Succeeds, Registration, RoundState, World, serial_of, is_empty_list, wanted}
use Rattle.aio_base.specs.Timers.{fires_before, placed, in_order, due_wakers, after_pass, lesser, first_deadline, time_to, limit_of}
use Rattle.aio_base.specs.Machine.{Outcome, next_answer, later_answers, fails, begin_round, wait_answered, wait_in, wait_round, rearmed, handle_source, handle_first, handle_in, handle_each, hand_of, fault_of_round, finish_in, react, case_of}
use Rattle.aio_laws.specs.Succession.{events_given}
use Rattle.aio_laws.specs.RoundAnswers.{LimitIsWithin, time_left, IsRoundLimit, BeginTold, with_empty_hand, wait_tells, FirstTold, HandleTold, EndsAsWaited, ReactTold, RoundsTold}
use Rattle.aio_base.proofs.Membership.{none_is_in, first_is_in, later_is_in, among_cases, filtered_is_in, filtered_passes, passing_is_kept, image_is_in}
use Rattle.aio_laws.proofs.steps.Frames.{either}
use Rattle.aio_laws.proofs.rounds.RoundFaults.{waited_ends, handled_ends, begun_clean}
use Rattle.aio_laws.proofs.rounds.RoundLemmas.{hand_is, begun_in_hand}

-- ## The lesser of two limits

within_left : (n : ℕ) (a b : Option ℕ) → LimitIsWithin n a → LimitIsWithin n (lesser a b)
within_left n None b within = absurd within
within_left n (Some a) None within = within
within_left n (Some a) (Some b) within = let least : min a b ≤ a = min-le_left a b in let bound : a ≤ n = within in omega arith

within_right : (n : ℕ) (a b : Option ℕ) → LimitIsWithin n b → LimitIsWithin n (lesser a b)
within_right n None b within = within
within_right n (Some a) None within = absurd within
within_right n (Some a) (Some b) within = let least : min a b ≤ b = min-le_right a b in let bound : b ≤ n = within in omega arith

lesser_is_one : (n : ℕ) (a b : Option ℕ) → lesser a b ≡ Some n → (a ≡ Some n) ⊎ (b ≡ Some n)
lesser_is_one n None b is = inr is
lesser_is_one n (Some a) None is = inl is
lesser_is_one n (Some a) (Some b) is =
    ⊎_elim
    (λ (less : a < b). inl (ap Some (sym (min-eq_left {n = a} {m = b} (omega arith))) ∙ is))
    (λ (more : b ≤ a). inr (ap Some (sym (min-eq_right {n = b} {m = a} (omega arith))) ∙ is))
    (cases_lt a b)

-- ## The first deadline

first_within : (rs : List Registration) (r : Registration) → Contains rs r → LimitIsWithin r.deadline (first_deadline rs)
first_within [] r among = none_is_in r among
first_within (x ∷ rs) r among =
    ⊎_elim
    (λ (same : x ≡ r). within_left r.deadline (Some x.deadline) (first_deadline rs) (let at : x.deadline ≡ r.deadline = ap (λ (y : Registration). y.deadline) same in omega arith))
    (λ (later : Contains rs r). within_right r.deadline (Some x.deadline) (first_deadline rs) (first_within rs r later))
    (among_cases x rs r among)

first_is_one : (rs : List Registration) (n : ℕ) → first_deadline rs ≡ Some n → (r : Registration) × Contains rs r × (r.deadline ≡ n)
first_is_one [] n is = absurd cc
first_is_one (x ∷ rs) n is =
    ⊎_elim
    (λ (here : Some x.deadline ≡ Some n). (x, first_is_in x rs, let same : x.deadline ≡ n = cc in same))
    (λ (later : first_deadline rs ≡ Some n). let at = first_is_one rs n later in (at.0, later_is_in x rs at.0 at.1, at.2))
    (lesser_is_one n (Some x.deadline) (first_deadline rs) is)

time_within : (now n : ℕ) (first : Option ℕ) → LimitIsWithin n first → LimitIsWithin (n - now) (time_to now first)
time_within now n None within = within
time_within now n (Some deadline) within = let bound : deadline ≤ n = within in omega arith

time_is : (now n : ℕ) (first : Option ℕ) → time_to now first ≡ Some n → (deadline : ℕ) × (first ≡ Some deadline) × (deadline - now ≡ n)
time_is now n None is = absurd cc
time_is now n (Some deadline) is = (deadline, refl, let same : deadline - now ≡ n = cc in same)

-- ## Whether a timer is due

abbrev is_due : ℕ → Registration → Bool
is_due now r = nat_le r.deadline now

either_some : (test : Bool) (xs ys : List Registration) → is_empty_list xs ≡ false → is_empty_list ys ≡ false → is_empty_list (cond test xs ys) ≡ false
either_some true xs ys first second = first
either_some false xs ys first second = second

placed_some : (r : Registration) (xs : List Registration) → is_empty_list (placed r xs) ≡ false
placed_some r [] = refl
placed_some r (x ∷ xs) = either_some (fires_before x r) (x ∷ placed r xs) (r ∷ x ∷ xs) refl refl

ordered_empty : (xs : List Registration) → is_empty_list (in_order xs) ≡ is_empty_list xs
ordered_empty [] = refl
ordered_empty (r ∷ xs) = placed_some r (in_order xs)

mapped_empty : {X Y : Type 0} (f : X → Y) (xs : List X) → is_empty_list (map f xs) ≡ is_empty_list xs
mapped_empty f [] = refl
mapped_empty f (x ∷ xs) = refl

due_empty : (now : ℕ) (rs : List Registration) → is_empty_list (due_wakers now rs) ≡ is_empty_list (filter (is_due now) rs)
due_empty now rs = mapped_empty (λ (r : Registration). r.waker) (in_order (filter (is_due now) rs)) ∙ ordered_empty (filter (is_due now) rs)

some_is_in : {X : Type 0} (xs : List X) → is_empty_list xs ≡ false → (x : X) × Contains xs x
some_is_in [] some = absurd cc
some_is_in (x ∷ xs) some = (x, first_is_in x xs)

none_among : {X : Type 0} (xs : List X) (x : X) → is_empty_list xs ≡ true → Contains xs x → ⊥
none_among [] x empty among = none_is_in x among
none_among (y ∷ xs) x empty among = cc

-- ## The limit of a round

-- where a timer is due
zero_limit : (now : ℕ) (rs : List Registration) (given : Option ℕ) → is_empty_list (filter (is_due now) rs) ≡ false → IsRoundLimit now rs given (Some 0)
zero_limit now rs given some =
    let due = some_is_in (filter (is_due now) rs) some in
    let passed : (due.0).deadline ≤ now = leb-true (due.0).deadline now (filtered_passes (is_due now) rs due.0 due.1) in
    record {
      within_given = λ n is. omega arith;
      within_times = λ r among. omega arith;
      is_one = λ n is.
          let zero : 0 ≡ n = cc in
          let none_left : (due.0).deadline - now ≡ n = omega arith in
          inr (subst (Contains (map (time_left now) rs)) none_left (image_is_in (time_left now) rs due.0 (filtered_is_in (is_due now) rs due.0 due.1)));
    }

given_within : (given : Option ℕ) (n : ℕ) → given ≡ Some n → LimitIsWithin n given
given_within None n is = absurd cc
given_within (Some m) n is = let same : m ≡ n = cc in omega arith

least_limit : (now : ℕ) (rs : List Registration) (given : Option ℕ) → is_empty_list (filter (is_due now) rs) ≡ true
    → IsRoundLimit now rs given (lesser (time_to now (first_deadline (after_pass now rs))) given)
least_limit now rs given none =
    let first = first_deadline (after_pass now rs) in
    let later : (r : Registration) → Contains rs r → Contains (after_pass now rs) r = λ r among.
    ⊎_elim
    (λ (due : is_due now r ≡ true). absurd (none_among (filter (is_due now) rs) r none (passing_is_kept (is_due now) rs r due among)))
    (λ (above : is_due now r ≡ false). passing_is_kept (λ x. not (is_due now x)) rs r (ap not above) among)
    (cases_Bool (is_due now r)) in
    record {
      within_given = λ n is. within_right n (time_to now first) given (given_within given n is);
      within_times = λ r among. within_left (r.deadline - now) (time_to now first) given (time_within now r.deadline first (first_within (after_pass now rs) r (later r among)));
      is_one = λ n is.
          ⊎_elim
          (λ (time : time_to now first ≡ Some n).
          let at = time_is now n first time in
          let one = first_is_one (after_pass now rs) at.0 at.1 in
          inr (subst (Contains (map (time_left now) rs)) (ap (λ (d : ℕ). d - now) one.2 ∙ at.2)
          (image_is_in (time_left now) rs one.0 (filtered_is_in (λ x. not (is_due now x)) rs one.0 one.1))))
          (λ (limit : given ≡ Some n). inl limit)
          (lesser_is_one n (time_to now first) given is);
    }

pub round_limit : (now : ℕ) (rs : List Registration) (given : Option ℕ) → IsRoundLimit now rs given (limit_of now rs given)
round_limit now rs given =
    let least = lesser (time_to now (first_deadline (after_pass now rs))) given in
    let same = due_empty now rs in
    ⊎_elim
    (λ (none : is_empty_list (due_wakers now rs) ≡ true).
    subst (IsRoundLimit now rs given) (sym (cond-true (is_empty_list (due_wakers now rs)) least (Some 0) none)) (least_limit now rs given (sym same ∙ none)))
    (λ (some : is_empty_list (due_wakers now rs) ≡ false).
    subst (IsRoundLimit now rs given) (sym (cond-false (is_empty_list (due_wakers now rs)) least (Some 0) some)) (zero_limit now rs given (sym same ∙ some)))
    (cases_Bool (is_empty_list (due_wakers now rs)))

-- ## What is told

begin_told : (w : World) (given : Option ℕ) (answers : List PollerAnswer) (round : Option RoundState) → w.round ≡ round
    → BeginTold w given round (begin_round w given answers).answer
begin_told w given answers None is =
    (limit_of w.now w.registrations given, round_limit w.now w.registrations given, ap (λ (o : Outcome). o.answer) (cond-false (is_some w.round) _ _ (ap is_some is)))
begin_told w given answers (Some round) is = ap (λ (o : Outcome). o.answer) (cond-true (is_some w.round) _ _ (ap is_some is))

waited_told : (w : World) (round : RoundState) (given : PollerAnswer) (rest : List PollerAnswer) → (wait_answered w round given rest).answer ≡ wait_tells given
waited_told w round Succeeds rest = refl
waited_told w round told rest = refl

-- the answer of one of two outcomes
chosen : (test : Bool) (x y : Outcome) (a b : Answer) → x.answer ≡ a → y.answer ≡ b → (cond test x y).answer ≡ cond test a b
chosen true x y a b first second = first
chosen false x y a b first second = second

wait_told : (w : World) (round : Option RoundState) (answers : List PollerAnswer) → (wait_in w round answers).answer ≡ with_empty_hand round (wait_tells (next_answer answers))
wait_told w None answers = refl
wait_told w (Some round) answers =
    chosen (is_empty_list round.in_hand) _ _ _ _ (waited_told w round (next_answer answers) (later_answers answers)) refl

rearmed_told : (w : World) (round : RoundState) (key : Key) (serial : ℕ) (answers : List PollerAnswer)
    → (failed : Bool) × ((rearmed w round key serial answers).answer ≡ answer.Handled key failed)
rearmed_told w round key serial answers =
    either (λ o. (failed : Bool) × (o.answer ≡ answer.Handled key failed)) (is_empty_list (wanted w serial)) _ _ (false, refl) (fails (next_answer answers), refl)

source_told : (w : World) (round : RoundState) (event : Event) (serial : Option ℕ) (answers : List PollerAnswer)
    → (failed : Bool) × ((handle_source w round event serial answers).answer ≡ answer.Handled event.key failed)
source_told w round event None answers = (false, refl)
source_told w round event (Some serial) answers = rearmed_told _ _ event.key serial answers

first_told : (w : World) (round : RoundState) (hand : List Event) (answers : List PollerAnswer) → FirstTold hand (handle_first w round hand answers).answer
first_told w round [] answers = refl
first_told w round (event ∷ events) answers = source_told w (record round { in_hand = events }) event (serial_of w event.key.0) answers

handle_told : (w : World) (round : Option RoundState) (answers : List PollerAnswer) → HandleTold round (handle_in w round answers).answer
handle_told w None answers = refl
handle_told w (Some round) answers = first_told w round round.in_hand answers

finish_told : (w : World) (round : Option RoundState) (answers : List PollerAnswer) → (finish_in w round answers).answer ≡ with_empty_hand round (answer.End (fault_of_round round))
finish_told w None answers = refl
finish_told w (Some round) answers = chosen (is_empty_list round.in_hand) _ _ _ _ refl refl

react_told : (w : World) (answers : List PollerAnswer) (round : Option RoundState) → w.round ≡ round → ReactTold w round (next_answer answers) (react w None answers).answer
react_told w answers None is =
    let begun = begin_round w None answers in
    let waited = wait_round begun.world begun.left in
    let hand = hand_of waited.world.round in
    let handled = handle_each hand waited.world waited.left in
    let h = begun_in_hand w answers (ap is_some is) in
    let ends : EndsAsWaited (next_answer begun.left) (fault_of_round waited.world.round) = waited_ends begun.world begun.world.round begun.left h.start.hand (begun_clean w None answers (ap is_some is)) in
    let given = hand_is waited.world.round _ h.full.hand in
    let counted : length hand ≡ length (events_given (next_answer answers)) = ap length h.events in (
      fault_of_round handled.world.round,
      subst (λ (rest : List PollerAnswer). EndsAsWaited (next_answer rest) (fault_of_round handled.world.round)) h.start.left
          (handled_ends (next_answer begun.left) hand waited.world waited.left given ends),
      ap (λ (o : Outcome). o.answer) (cond-false (is_some w.round) _ _ (ap is_some is)) ∙ ap (λ (n : ℕ). answer.Round (w.rounds + 1) n (fault_of_round handled.world.round)) counted,
    )
react_told w answers (Some round) is = ap (λ (o : Outcome). o.answer) (cond-true (is_some w.round) _ _ (ap is_some is))

pub rounds_told : (w : World) (s : Step) (answers : List PollerAnswer) → RoundsTold w s answers (case_of w s answers).answer
rounds_told w (step.Begin given) answers = begin_told w given answers w.round refl
rounds_told w step.Wait answers = wait_told w w.round answers
rounds_told w step.Handle answers = handle_told w w.round answers
rounds_told w step.Finish answers = finish_told w w.round answers
rounds_told w step.React answers = react_told w answers w.round refl
rounds_told w _ answers = tt
