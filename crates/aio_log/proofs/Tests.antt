-- What is so where a test of a line was passed.
use Rattle.std.proofs.Common.{◌≡◌, ℕ, Bool, true, false, ◌&&◌, cond, List, ◌++◌, Option, None, Some, option_map, refl, ap, subst}
use Rattle.std.specs.Prelude.{bytes_eq, codes, drop, option_and_then, nat_le}
use Rattle.std.proofs.lemmas.Bool.{and_parts, leb-true}
use Rattle.std.proofs.lemmas.Slice.Eq.{bytes_eq-Decides}
use Rattle.std.specs.Prelude.{◌≤◌}
use Rattle.aio_base.specs.declared.names.Event.{Event}
use Rattle.aio_base.specs.declared.steps.Step.{Step}
use Rattle.aio_base.specs.declared.steps.Step.TheVariants as step
use Rattle.aio_base.specs.declared.steps.Answer.TheVariants as answer
use Rattle.aio_base.specs.Lines.{HasSpelling, Reads, numeral, step_read, written_line}
use Rattle.aio_base.specs.Script.{wait_room}
use Rattle.aio_base.specs.Text.{answer_line}
use Rattle.aio_base.specs.World.{World}
use Rattle.aio_base.proofs.FirstLines.{is_read}
use Rattle.aio_log.specs.Entries.{got_line, has_entry}
use Rattle.aio_log.specs.Places.{event_of, given_by, given_in, may_wait, noted_in, step_of, when}
use Rattle.aio_log.specs.Written.{EventHasSpelling}

pub same_text : (a b : List ℕ) → bytes_eq a b ≡ true → a ≡ b
same_text a b = (bytes_eq-Decides a b).0

pub passed : {A : Type 0} (t : Bool) (a b : A) → when t a ≡ Some b → (t ≡ true) × (a ≡ b)
passed true a b e = (refl, cc)
passed false a b e = absurd cc

pub mapped : {A B : Type 0} (f : A → B) (o : Option A) (b : B) → option_map f o ≡ Some b → (a : A) × (o ≡ Some a) × (f a ≡ b)
mapped f None b e = absurd cc
mapped f (Some a) b e = (a, refl, cc)

-- a line that is a step: the step has an entry and a spelling, and the line is that
pub record IsStep (s : Step) (line : List ℕ) : Type 0 where
  pub entered : has_entry s ≡ true
  pub spelled : HasSpelling s
  pub line_is : line ≡ written_line s

step_by : (read : Option Step) (s : Step) (line : List ℕ) → step_read line ≡ read
    → option_and_then (λ (s : Step). when (has_entry s && bytes_eq line (written_line s)) s) read ≡ Some s → IsStep s line
step_by None s line is e = absurd cc
step_by (Some t) s line is e =
    let test = passed (has_entry t && bytes_eq line (written_line t)) t s e in
    let parts = and_parts (has_entry t) (bytes_eq line (written_line t)) test.0 in
    let reads : Reads t line = is_read t line is in
    subst (λ s. IsStep s line) test.1
    (record { entered = parts.0; spelled = reads.in_range; line_is = same_text line (written_line t) parts.1 })

pub is_step : (s : Step) (line : List ℕ) → step_of line ≡ Some s → IsStep s line
is_step s line e = step_by (step_read line) s line refl e

-- a line that is an event
pub record IsEvent (event : Event) (line : List ℕ) : Type 0 where
  pub spelled : EventHasSpelling event
  pub line_is : line ≡ got_line event

noted_is : (read : Option Step) (event : Event) → noted_in read ≡ Some event → read ≡ Some (step.Note event)
noted_is (Some (step.Note noted)) event e = let same : noted ≡ event = cc in ap (λ event. Some (step.Note event)) same
noted_is _ event e = absurd cc

event_by : (noted : Option Event) (event : Event) (line : List ℕ) → noted_in (step_read (codes "event" ++ drop 3 line)) ≡ noted
    → option_and_then (λ (event : Event). when (bytes_eq line (got_line event)) event) noted ≡ Some event → IsEvent event line
event_by None event line is e = absurd cc
event_by (Some noted) event line is e =
    let test = passed (bytes_eq line (got_line noted)) noted event e in
    let read = noted_is (step_read (codes "event" ++ drop 3 line)) noted is in
    let reads : Reads (step.Note noted) (codes "event" ++ drop 3 line) = is_read (step.Note noted) (codes "event" ++ drop 3 line) read in
    subst (λ event. IsEvent event line) test.1 (record { spelled = reads.in_range; line_is = same_text line (got_line noted) test.0 })

pub is_event : (event : Event) (line : List ℕ) → event_of line ≡ Some event → IsEvent event line
is_event event line e = event_by (noted_in (step_read (codes "event" ++ drop 3 line))) event line refl e

-- a line that says how many events a wait gave
pub record IsGiven (count : ℕ) (line : List ℕ) : Type 0 where
  pub few : count ≤ wait_room
  pub line_is : line ≡ answer_line (answer.Given count)

given_at : (read : Option ℕ) (count : ℕ) (line : List ℕ)
    → option_and_then (λ n. when (nat_le n wait_room && bytes_eq line (answer_line (answer.Given n))) n) read ≡ Some count → IsGiven count line
given_at None count line e = absurd cc
given_at (Some n) count line e =
    let test = passed (nat_le n wait_room && bytes_eq line (answer_line (answer.Given n))) n count e in
    let parts = and_parts (nat_le n wait_room) (bytes_eq line (answer_line (answer.Given n))) test.0 in
    subst (λ count. IsGiven count line) test.1
    (record { few = leb-true n wait_room parts.0; line_is = same_text line (answer_line (answer.Given n)) parts.1 })

pub is_given : (count : ℕ) (line : List ℕ) → given_in line ≡ Some count → IsGiven count line
is_given count line e = given_at (numeral (drop 6 line)) count line e

-- the same, of a wait that may be made
pub record WaitGives (w : World) (s : Step) (count : ℕ) (line : List ℕ) : Type 0 where
  pub step_is : s ≡ step.Wait
  pub may : may_wait w ≡ true
  pub given : IsGiven count line

gives_where : (may : Bool) (w : World) (count : ℕ) (line : List ℕ) → may_wait w ≡ may → cond may (given_in line) None ≡ Some count → WaitGives w step.Wait count line
gives_where true w count line is e = record { step_is = refl; may = is; given = is_given count line e }
gives_where false w count line is e = absurd cc

pub wait_gives : (w : World) (s : Step) (count : ℕ) (line : List ℕ) → given_by w s line ≡ Some count → WaitGives w s count line
wait_gives w step.Wait count line e = gives_where (may_wait w) w count line refl e
wait_gives w _ count line e = absurd cc
