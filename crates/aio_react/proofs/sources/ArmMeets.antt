-- The machine arms a source as a core's poller was armed for it, whatever the poller answered.
use Rattle.std.proofs.Common.{◌≡◌, ◌≢◌, ℕ, ◌+◌, Bool, true, false, not, ◌||◌, ◌==◌, IsTrue, List, [], ◌∷◌, ◌++◌, map, Option, Some, Result, Ok, Err, IsOk, refl, sym, ap, ◌∙◌, subst}
use Rattle.std.specs.List.{list_any}
use Rattle.std.proofs.lemmas.Bool.{false≢true, eq-eqb, ne_eqb, eqb-true}
use Rattle.std.proofs.lemmas.List.Folds.{list_any-append}
use Rattle.std.proofs.lemmas.Map.Views.{any-filter_same}
use Rattle.aio_base.specs.declared.names.Dir.{Dir}
use Rattle.aio_base.specs.declared.names.Event.{Event}
use Rattle.aio_base.specs.declared.names.Waker.{Waker}
use Rattle.aio_base.specs.declared.names.TheConstants.Interest.{NONE}
use Rattle.aio_base.specs.declared.outcomes.Failed.{Failed}
use Rattle.aio_base.specs.declared.outcomes.Waited.{Waited}
use Rattle.aio_base.specs.declared.steps.Answer.{Answer}
use Rattle.aio_base.specs.declared.steps.Answer.TheVariants as replies
use Rattle.aio_base.specs.declared.steps.Step.{Step}
use Rattle.aio_base.specs.Devices.{Interests, ArmCall, Arms, WaitCall, PollerMove, PollerStep, Armed, RunOf}
use Rattle.aio_base.specs.Machine.{Outcome, armed_world, broken_world, case_of, step_result, hand_of, pending}
use Rattle.aio_base.specs.Moves.{answer_of}
use Rattle.aio_base.specs.World.{PollerAnswer, World, BrokenSource, without_broken, set_armed, is_broken, is_armed, has_dir}
use Rattle.aio_base.specs.World as machine
use Rattle.aio_base.proofs.BrokenSources.{without_unbroken}
use Rattle.aio_source.specs.Lent.{ArmsOnce, TellsArmed, arm_of, settled}
use Rattle.aio_base.proofs.DirectionLemmas.{none_has}
use Rattle.aio_source.specs.Rules.{wanted}
use Rattle.aio_react.specs.declared.entries.SourceEntry.{SourceEntry}
use Rattle.aio_react.specs.Cores.{CoreValue, entry_at}
use Rattle.aio_react.specs.Meeting.{kind_of, Comes, WaitsWithin}
use Rattle.aio_react.specs.Standing.{is_in_hand, StandsWithin}
use Rattle.aio_facts.specs.Facts.{serial_in}
use Rattle.aio_react.proofs.sources.DirectionFacts.{wanted_stands}
use Rattle.aio_facts.proofs.Rearming.{armed_here, armed_aside, tells_armed, tells_unarmed}
use Rattle.aio_react.proofs.steps.Later.{stands_moved}
use Rattle.aio_react.proofs.sources.SourceChanges.{with_state, with_source, source_found, source_changes, placed_again}

-- ## Inside a step

-- what a step gives before its position is counted
pub record Within (o : Outcome) (answer : Answer) (wakes : List Waker) (moves : List PollerMove) (left : List PollerAnswer) (told : Option Interests) (core : CoreValue) : Type 0 where
  pub answer_is : o.answer ≡ answer
  pub wakes_are : o.wakes ≡ wakes
  pub calls_are : o.calls ≡ map kind_of moves
  pub left_are : o.left ≡ left
  pub stands : StandsWithin (o.world.pos + 1) told core o.world

pub step_comes : (w : World) (s : Step) (answers : List PollerAnswer) (answer : Answer) (wakes : List Waker) (moves : List PollerMove) (left : List PollerAnswer) (told : Option Interests) (core : CoreValue)
    → Within (case_of w s answers) answer wakes moves left told core → Comes (step_result w s answers) answer wakes moves left told core
unfolding step_result
step_comes w s answers answer wakes moves left told core c = record {
  answer_is = c.answer_is;
  wakes_are = c.wakes_are;
  calls_are = c.calls_are;
  left_are = c.left_are;
  stands = stands_moved told core (case_of w s answers).world c.stands;
}

-- ## The moves

-- of a call that arms at most once
abbrev pub arm_moves : Bool → ArmCall → Result (Unit {0}) Failed → List PollerMove
arm_moves false call answer = []
arm_moves true call answer = Armed call answer ∷ []

pub arm_waits : (arms : Bool) (call : ArmCall) (answer : Result (Unit {0}) Failed) (limit : Option ℕ) → WaitsWithin limit (arm_moves arms call answer)
arm_waits false call answer limit = tt
arm_waits true call answer limit = tt

pub arm_runs : {P : Type 0} (arm_step : P → ArmCall → Result (Unit {0}) Failed → P → Type 0) (wait_step : P → WaitCall → Result Waited Failed → List Event → P → Type 0)
    (arms : Bool) (call : ArmCall) (old new : P) (answer : Result (Unit {0}) Failed) → ArmsOnce arm_step arms call old answer new
    → RunOf (PollerStep arm_step wait_step) old (arm_moves arms call answer) new
arm_runs {P = P} arm_step wait_step false call old new answer did = did.0
arm_runs {P = P} arm_step wait_step true call old new answer did = (new, did, refl)

-- an arm that was not asked did not fail
pub unasked : {P : Type 0} (arm_step : P → ArmCall → Result (Unit {0}) Failed → P → Type 0) (arms : Bool) (call : ArmCall) (old new : P) (answer : Result (Unit {0}) Failed)
    → ArmsOnce arm_step arms call old answer new → arms ≡ false → IsOk answer
unasked {P = P} arm_step true call old new answer did none = absurd (false≢true (sym none))
unasked {P = P} arm_step false call old new answer did none = did.1

abbrev pub arm_reply : Result (Unit {0}) Failed → Answer
arm_reply (Ok done) = replies.Pending
arm_reply (Err failed) = replies.FaultArm

-- ## Broken sources

unbroken_aside : (broken : List BrokenSource) (serial other : ℕ) → other ≢ serial
    → list_any (λ (b : BrokenSource). b.serial == other) (without_broken broken serial) ≡ list_any (λ (b : BrokenSource). b.serial == other) broken
unbroken_aside broken serial other apart =
    any-filter_same (λ (b : BrokenSource). b.serial == other) (λ (b : BrokenSource). not (b.serial == serial)) true
    (λ b hit. ap (λ (n : ℕ). not (n == serial)) (eqb-true b.serial other hit) ∙ ap not (ne_eqb other serial apart)) broken

or_false : (b : Bool) → b || false ≡ b
or_false true = refl
or_false false = refl

or_true : (b : Bool) → b || true ≡ true
or_true true = refl
or_true false = refl

broken_aside : (broken : List BrokenSource) (b : BrokenSource) (other : ℕ) → other ≢ b.serial
    → list_any (λ (b : BrokenSource). b.serial == other) (without_broken broken b.serial ++ b ∷ []) ≡ list_any (λ (b : BrokenSource). b.serial == other) broken
broken_aside broken b other apart =
    list_any-append (λ (b : BrokenSource). b.serial == other) (without_broken broken b.serial) (b ∷ [])
    ∙ ap (λ (hit : Bool). list_any (λ (b : BrokenSource). b.serial == other) (without_broken broken b.serial) || (hit || false)) (ne_eqb b.serial other (λ (e : b.serial ≡ other). apart (sym e)))
    ∙ or_false (list_any (λ (b : BrokenSource). b.serial == other) (without_broken broken b.serial)) ∙ unbroken_aside broken b.serial other apart

broken_here : (broken : List BrokenSource) (b : BrokenSource) → list_any (λ (c : BrokenSource). c.serial == b.serial) (without_broken broken b.serial ++ b ∷ []) ≡ true
broken_here broken b =
    list_any-append (λ (c : BrokenSource). c.serial == b.serial) (without_broken broken b.serial) (b ∷ [])
    ∙ ap (λ (hit : Bool). list_any (λ (c : BrokenSource). c.serial == b.serial) (without_broken broken b.serial) || (hit || false)) (eq-eqb b.serial b.serial refl)
    ∙ or_true (list_any (λ (c : BrokenSource). c.serial == b.serial) (without_broken broken b.serial))

-- ## The arm

pub none_asked : (dir : Dir) → IsTrue (has_dir NONE dir) → (b : Bool) → IsTrue b
none_asked dir wants b = absurd (false≢true (sym (none_has dir) ∙ wants))

-- the source armed, within any bound of the past
pub armed_stands : (bound : ℕ) (told told' : Option Interests) (core : CoreValue) (w : World) (serial : ℕ) (e : SourceEntry)
    → StandsWithin bound told core w → entry_at core.sources e.source.key.0 ≡ Some e → serial_in w.live e.source.key.0 ≡ Some serial
    → Arms told (arm_of e.source) (Ok tt) told'
    → StandsWithin bound told' (with_source core e.source.key.0 (with_state e (settled true (Ok tt) e.source))) (armed_world w e.source.key.0 serial)
armed_stands bound told told' core w serial e stands is found arms =
    let key = e.source.key.0 in
    let before = source_found core w key serial e stands.sources is found in
    let wants = wanted_stands core.listeners e.source w serial (is_broken w serial) stands.sound.listeners.only_polled_hold before in
    source_changes bound told told' core w key serial e (settled true (Ok tt) e.source) w.poll_waiters w.marks (without_broken w.broken serial) (set_armed w.armed key (machine.wanted w serial))
    stands is found
    (record {
      now = record { each = before.each; broken_is = without_unbroken w.broken serial };
      listeners = λ dir. refl;
      aside = λ other apart. record { broken_is = unbroken_aside w.broken serial other apart; facts_are = λ dir. refl };
      armed_aside = λ k dir apart. armed_aside w.armed key (machine.wanted w serial) k dir apart;
      marks_before = stands.sound.past.marks_before;
      tells = tells_armed told told' w.armed e.source.key (wanted e.source.directions) (machine.wanted w serial) wants stands.tells arms;
      asked = λ dir asks. ap (λ (b : Bool). b || is_in_hand (hand_of w.round) key) (armed_here w.armed key (machine.wanted w serial) dir ∙ wants dir ∙ asks);
    })

-- and one whose arm failed
pub failed_stands : (bound : ℕ) (told told' : Option Interests) (core : CoreValue) (w : World) (serial : ℕ) (e : SourceEntry)
    → StandsWithin bound told core w → entry_at core.sources e.source.key.0 ≡ Some e → serial_in w.live e.source.key.0 ≡ Some serial
    → Arms told (arm_of e.source) (Err (record {})) told'
    → StandsWithin bound told' (with_source core e.source.key.0 (with_state e (settled true (Err (record {})) e.source))) (broken_world w serial)
failed_stands bound told told' core w serial e stands is found arms =
    let key = e.source.key.0 in
    let b : BrokenSource = record { serial = serial; position = w.pos } in
    let before = source_found core w key serial e stands.sources is found in
    source_changes bound told told' core w key serial e (settled true (Err (record {})) e.source) w.poll_waiters w.marks (without_broken w.broken serial ++ b ∷ []) w.armed
    stands is found
    (record {
      now = record { each = before.each; broken_is = broken_here w.broken b };
      listeners = λ dir. refl;
      aside = λ other apart. record { broken_is = broken_aside w.broken b other apart; facts_are = λ dir. refl };
      armed_aside = λ k dir apart. refl;
      marks_before = stands.sound.past.marks_before;
      tells = tells_unarmed told told' w.armed (arm_of e.source) stands.tells arms;
      asked = λ dir asks. none_asked dir asks (is_armed w.armed key dir || is_in_hand (hand_of w.round) key);
    })

armed_within : (told told' : Option Interests) (core : CoreValue) (w : World) (serial : ℕ) (e : SourceEntry) (wakes : List Waker) (later : List PollerAnswer)
    → StandsWithin (w.pos + 1) told core w → entry_at core.sources e.source.key.0 ≡ Some e → serial_in w.live e.source.key.0 ≡ Some serial
    → Arms told (arm_of e.source) (Ok tt) told'
    → Within (pending true w e.source.key.0 serial wakes (answer_of (Armed (arm_of e.source) (Ok tt)) ∷ later)) replies.Pending wakes (Armed (arm_of e.source) (Ok tt) ∷ []) later told'
    (with_source core e.source.key.0 (with_state e (settled true (Ok tt) e.source)))
armed_within told told' core w serial e wakes later stands is found arms = record {
  answer_is = refl;
  wakes_are = refl;
  calls_are = refl;
  left_are = refl;
  stands = armed_stands (w.pos + 1) told told' core w serial e stands is found arms;
}

failed_within : (told told' : Option Interests) (core : CoreValue) (w : World) (serial : ℕ) (e : SourceEntry) (wakes : List Waker) (later : List PollerAnswer)
    → StandsWithin (w.pos + 1) told core w → entry_at core.sources e.source.key.0 ≡ Some e → serial_in w.live e.source.key.0 ≡ Some serial
    → Arms told (arm_of e.source) (Err (record {})) told'
    → Within (pending true w e.source.key.0 serial wakes (answer_of (Armed (arm_of e.source) (Err (record {}))) ∷ later)) replies.FaultArm wakes (Armed (arm_of e.source) (Err (record {})) ∷ []) later told'
    (with_source core e.source.key.0 (with_state e (settled true (Err (record {})) e.source)))
failed_within told told' core w serial e wakes later stands is found arms = record {
  answer_is = refl;
  wakes_are = refl;
  calls_are = refl;
  left_are = refl;
  stands = failed_stands (w.pos + 1) told told' core w serial e stands is found arms;
}

-- an arm, or none, of the source as it stands
pub arm_within : (arms : Bool) (told told' : Option Interests) (core : CoreValue) (w : World) (serial : ℕ) (e : SourceEntry) (answer : Result (Unit {0}) Failed) (wakes : List Waker) (later : List PollerAnswer)
    → StandsWithin (w.pos + 1) told core w → entry_at core.sources e.source.key.0 ≡ Some e → serial_in w.live e.source.key.0 ≡ Some serial
    → (arms ≡ false → IsOk answer) → TellsArmed arms (arm_of e.source) told answer told'
    → Within (pending arms w e.source.key.0 serial wakes (map answer_of (arm_moves arms (arm_of e.source) answer) ++ later)) (arm_reply answer) wakes (arm_moves arms (arm_of e.source) answer) later told'
    (with_source core e.source.key.0 (with_state e (settled arms answer e.source)))
arm_within false told told' core w serial e (Err failed) wakes later stands is found none tells = absurd (false≢true (none refl))
arm_within false told told' core w serial e (Ok done) wakes later stands is found none tells = record {
  answer_is = refl;
  wakes_are = refl;
  calls_are = refl;
  left_are = refl;
  stands = subst (λ (t : Option Interests). StandsWithin (w.pos + 1) t (with_source core e.source.key.0 e) w) (sym tells)
      (subst (λ (sources : List (Option SourceEntry)). StandsWithin (w.pos + 1) told (record core { sources = sources }) w) (sym (placed_again core.sources e.source.key.0 e is)) stands);
}
arm_within true told told' core w serial e (Ok done) wakes later stands is found none tells = armed_within told told' core w serial e wakes later stands is found tells
arm_within true told told' core w serial e (Err failed) wakes later stands is found none tells = failed_within told told' core w serial e wakes later stands is found tells
