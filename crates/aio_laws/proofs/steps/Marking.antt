-- What a step does with marks: those of others stand, and its own follow its answer.
use Rattle.std.proofs.Common.{◌≡◌, ℕ, Bool, true, false, not, cond, ◌||◌, ◌==◌, List, [], ◌∷◌, Option, None, Some, option_to_list, refl, ap, ◌∙◌, sym, append-nil}
use Rattle.std.specs.Prelude.{flat_map}
use Rattle.std.specs.List.{filter, list_any}
use Rattle.std.specs.Option.{option_map_or}
use Rattle.std.proofs.lemmas.Bool.{cond-true, cond-false, cond_both, not-true}
use Rattle.aio_base.specs.declared.names.Key.{Key}
use Rattle.aio_base.specs.declared.names.Waker.{Waker}
use Rattle.aio_base.specs.declared.names.Dir.{Dir}
use Rattle.aio_base.specs.declared.steps.Step.{Step}
use Rattle.aio_base.specs.declared.steps.Step.TheVariants as step
use Rattle.aio_base.specs.declared.steps.Answer.{Answer}
use Rattle.aio_base.specs.declared.steps.Answer.TheVariants as answer
use Rattle.aio_base.specs.World.{PollerAnswer, Mark, ListenerEntry, World, is_of, serial_of, poll_waiter, mark_of, without_mark, is_idle, is_broken}
use Rattle.aio_base.specs.Machine.{Outcome, fails, next_answer, pending, del_source, is_fresh_since, is_waker, with_waiter, poll_source, case_of, step_result}
use Rattle.aio_laws.specs.Others.{is_own_mark, other_marks}
use Rattle.aio_laws.specs.Marks.{own_marks, waiting_mark, own_marks_after, MarksFollow}
use Rattle.aio_base.proofs.Searching.{refiltered, unseen_push, filtered_empty, kept_push, none_kept}
use Rattle.aio_base.proofs.WaiterLemmas.{is_of-from}
use Rattle.aio_laws.proofs.steps.Frames.{either}
use Rattle.aio_laws.proofs.steps.Asides.{Aside, pending_leaves, leaves_aside}

-- the marks of a direction, and those of a source, where there is one
abbrev of_direction : Option ℕ → Dir → Mark → Bool
of_direction found dir m = option_map_or (λ n. is_of n dir m.serial m.dir) found false

abbrev of_source : Option ℕ → Mark → Bool
of_source found m = option_map_or (λ n. m.serial == n) found false

-- the mark that a poll leaves
abbrev new_mark : World → ℕ → Dir → Mark
new_mark w serial dir = record { serial = serial; dir = dir; position = w.pos }

-- ## The marks of others

poll_others : (w : World) (key : ℕ) (dir : Dir) (waker : Waker) (found : Option ℕ) (answers : List PollerAnswer)
    → filter (λ (m : Mark). not (of_direction found dir m)) (poll_source w key dir waker found answers).world.marks
    ≡ filter (λ (m : Mark). not (of_direction found dir m)) w.marks
poll_others w key dir waker None answers = refl
poll_others w key dir waker (Some serial) answers =
    let q : Mark → Bool = λ m. not (is_of serial dir m.serial m.dir) in
    let waiter = poll_waiter w.poll_waiters serial dir in
    let twice = refiltered q q (λ m out. out) w.marks in
    either (λ o. filter q o.world.marks ≡ filter q w.marks) (is_fresh_since w serial dir (mark_of w.marks serial dir)) _ _ twice
    (either (λ o. filter q o.world.marks ≡ filter q w.marks) (is_waker waker waiter) _ _
    (ap (λ (a : Aside). filter q a.marks) (pending_leaves (is_broken w serial) w key serial [] answers))
    (ap (λ (a : Aside). filter q a.marks)
    (pending_leaves (is_idle w serial dir || is_broken w serial) (with_waiter w serial dir waker) key serial (option_to_list waiter) answers)
    ∙ unseen_push q (without_mark w.marks serial dir) (new_mark w serial dir) (ap not (is_of-from serial dir serial dir refl refl)) ∙ twice))

del_others : (w : World) (key : ℕ) (found : Option ℕ) (answers : List PollerAnswer)
    → filter (λ (m : Mark). not (of_source found m)) (del_source w key found answers).world.marks ≡ filter (λ (m : Mark). not (of_source found m)) w.marks
del_others w key None answers = refl
del_others w key (Some serial) answers =
    let q : Mark → Bool = λ m. not (m.serial == serial) in
    either (λ o. filter q o.world.marks ≡ filter q w.marks) (list_any (λ (l : ListenerEntry). l.serial == serial) w.listeners) _ _ refl
    (refiltered q q (λ m out. out) w.marks)

-- all marks are of others
abbrev every : Aside → List Mark
every a = filter (λ (m : Mark). not false) a.marks

pub marks_stand : (w : World) (s : Step) (answers : List PollerAnswer) → other_marks w s (case_of w s answers).world ≡ other_marks w s w
marks_stand w (step.Del key) answers = del_others w key.0 (serial_of w key.0) answers
marks_stand w (step.Poll key dir waker) answers = poll_others w key.0 dir waker (serial_of w key.0) answers
marks_stand w s answers = ap every (leaves_aside w s answers)

-- ## A step's own marks

-- a pending poll is told so, or that the arm failed
pending_told : (P : Answer → Type 0) (arms : Bool) (w : World) (key serial : ℕ) (wakes : List Waker) (answers : List PollerAnswer)
    → P answer.Pending → P answer.FaultArm → P (pending arms w key serial wakes answers).answer
pending_told P false w key serial wakes answers waits failed = waits
pending_told P true w key serial wakes answers waits failed =
    cond_both (fails (next_answer answers)) answer.FaultArm answer.Pending P (λ fails. failed) (λ arms. waits)

-- of one of two outcomes, by what the test is
by_test : (P : Outcome → Type 0) (test : Bool) (x y : Outcome) → (test ≡ true → P x) → (test ≡ false → P y) → P (cond test x y)
by_test P true x y first second = first refl
by_test P false x y first second = second refl

-- what a poll that has to wait leaves of its own mark
abbrev left_waiting : World → Key → Dir → Waker → Option ℕ → List Mark
left_waiting w key dir waker found = flat_map (waiting_mark w dir waker (own_marks w (step.Poll key dir waker) w)) (option_to_list found)

poll_own : (w : World) (key : Key) (dir : Dir) (waker : Waker) (found : Option ℕ) (answers : List PollerAnswer) → serial_of w key.0 ≡ found
    → let o = poll_source w key.0 dir waker found answers in
    own_marks w (step.Poll key dir waker) o.world ≡ own_marks_after w (step.Poll key dir waker) o.answer
poll_own w key dir waker None answers is =
    ap (λ (f : Option ℕ). filter (of_direction f dir) w.marks) is ∙ none_kept w.marks ∙ sym (ap (left_waiting w key dir waker) is)
poll_own w key dir waker (Some serial) answers is =
    let s = step.Poll key dir waker in
    let P : Outcome → Type 0 = λ o. own_marks w s o.world ≡ own_marks_after w s o.answer in
    let waiter = poll_waiter w.poll_waiters serial dir in
    let own : Mark → Bool = λ m. is_of serial dir m.serial m.dir in
    let stood = own_marks w s w in
    let sees : (marks : List Mark) → filter (is_own_mark w s) marks ≡ filter own marks = λ marks. ap (λ (f : Option ℕ). filter (of_direction f dir) marks) is in
    let used : filter own (without_mark w.marks serial dir) ≡ [] = filtered_empty own (λ m. not (own m)) (λ m stays. not-true (own m) stays) w.marks in
    let left : left_waiting w key dir waker (serial_of w key.0) ≡ waiting_mark w dir waker stood serial =
    ap (left_waiting w key dir waker) is ∙ append-nil (waiting_mark w dir waker stood serial) in
    either P (is_fresh_since w serial dir (mark_of w.marks serial dir)) _ _ (sees (without_mark w.marks serial dir) ∙ used)
    (by_test P (is_waker waker waiter) _ _
    (λ same.
    let arms = is_broken w serial in
    let there = ap (λ (a : Aside). filter (is_own_mark w s) a.marks) (pending_leaves arms w key.0 serial [] answers)
    ∙ sym (left ∙ cond-true (is_waker waker waiter) stood (new_mark w serial dir ∷ []) same) in
    pending_told (λ told. own_marks w s (pending arms w key.0 serial [] answers).world ≡ own_marks_after w s told) arms w key.0 serial [] answers there there)
    (λ other.
    let arms = is_idle w serial dir || is_broken w serial in
    let u = with_waiter w serial dir waker in
    let wakes = option_to_list waiter in
    let here = ap (λ (a : Aside). filter (is_own_mark w s) a.marks) (pending_leaves arms u key.0 serial wakes answers) ∙ sees u.marks
    ∙ kept_push own (without_mark w.marks serial dir) (new_mark w serial dir) used (is_of-from serial dir serial dir refl refl)
    ∙ sym (left ∙ cond-false (is_waker waker waiter) stood (new_mark w serial dir ∷ []) other) in
    pending_told (λ told. own_marks w s (pending arms u key.0 serial wakes answers).world ≡ own_marks_after w s told) arms u key.0 serial wakes answers here here))

del_own : (w : World) (key : Key) (found : Option ℕ) (answers : List PollerAnswer) → serial_of w key.0 ≡ found
    → let o = del_source w key.0 found answers in own_marks w (step.Del key) o.world ≡ own_marks_after w (step.Del key) o.answer
del_own w key None answers is = refl
del_own w key (Some serial) answers is =
    let s = step.Del key in
    let left = filter (λ (m : Mark). not (m.serial == serial)) w.marks in
    let none : filter (is_own_mark w s) left ≡ [] =
    ap (λ (f : Option ℕ). filter (of_source f) left) is
    ∙ filtered_empty (λ (m : Mark). m.serial == serial) (λ (m : Mark). not (m.serial == serial)) (λ m stays. not-true (m.serial == serial) stays) w.marks in
    either (λ o. own_marks w s o.world ≡ own_marks_after w s o.answer) (list_any (λ (l : ListenerEntry). l.serial == serial) w.listeners) _ _ refl
    (cond_both (fails (next_answer answers)) answer.FaultRemove answer.Gone (λ told. filter (is_own_mark w s) left ≡ own_marks_after w s told)
    (λ failed. none) (λ done. none))

-- no mark is the step's own
abbrev no_own : Aside → List Mark
no_own a = filter (λ (m : Mark). false) a.marks

own_follow : (w : World) (s : Step) (answers : List PollerAnswer) → own_marks w s (case_of w s answers).world ≡ own_marks_after w s (case_of w s answers).answer
own_follow w (step.Del key) answers = del_own w key (serial_of w key.0) answers refl
own_follow w (step.Poll key dir waker) answers = poll_own w key dir waker (serial_of w key.0) answers refl
own_follow w s answers = ap no_own (leaves_aside w s answers)

pub marks_follow : (w : World) (s : Step) (answers : List PollerAnswer) → MarksFollow w s (step_result w s answers).answer (step_result w s answers).world
unfolding step_result
marks_follow w s answers = record { own = own_follow w s answers }
