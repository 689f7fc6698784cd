-- For which sources a whole round arms, and what it leaves armed and broken.
use Rattle.std.proofs.Common.{◌≡◌, ◌↔◌, ℕ, Bool, true, false, not, cond, ◌&&◌, ◌||◌, ◌==◌, List, [], ◌∷◌, ◌++◌, map, find, Option, None, Some, is_some, option_map, option_to_list, refl, ap, ◌∙◌, sym, subst, ⊎_elim, append-nil}
use Rattle.std.specs.Prelude.{flat_map}
use Rattle.std.specs.List.{Contains, filter, list_any}
use Rattle.std.specs.Option.{option_map_or, option_or}
use Rattle.std.proofs.lemmas.Bool.{cond_both, eqb-true, eq-eqb}
use Rattle.std.proofs.lemmas.List.{map-append}
use Rattle.std.proofs.lemmas.List.Elements.{Contains-append_left, Contains-push, Contains-push_cases}
use Rattle.aio_base.specs.declared.names.Key.{Key}
use Rattle.aio_base.specs.declared.names.Dir.{Dir}
use Rattle.aio_base.specs.declared.names.Event.{Event}
use Rattle.aio_base.specs.declared.outcomes.EndWord.TheVariants.{FaultArm}
use Rattle.aio_base.specs.declared.outcomes.Which.{Which}
use Rattle.aio_base.specs.declared.outcomes.Which.TheVariants as which
use Rattle.aio_base.specs.declared.steps.Step.{Step}
use Rattle.aio_base.specs.declared.steps.Step.TheVariants as step
use Rattle.aio_base.specs.World.{PollerAnswer, Succeeds, LiveSource, BrokenSource, ArmedDirection, RoundState, World, directions, directions_of, has_dir, serial_of, is_empty_list, is_idle, wanted, without_broken, set_armed}
use Rattle.aio_base.specs.Machine.{Outcome, fails, next_answer, later_answers, broken_world, armed_world, begin_round, wait_answered, wait_in, wait_round, first_fault, world_taken, wakers_taken, rearmed, handle_source, handle_first, handle_in, handle_round, handle_each, hand_of, finish_in, finish_round, case_of, step_result}
use Rattle.aio_laws.specs.Succession.{events_given}
use Rattle.aio_laws.specs.Interests.{IsArmedIn, NoneOf, SetsInterest}
use Rattle.aio_laws.specs.RoundArming.{takes, is_left, left_waiting, Arming, arming_for, event_arms, events_arms, ArmTried, arms_tried, last_such, round_arms, is_arm_of, has_armed, BrokenBy, ArmedBy, RoundArming}
use Rattle.aio_base.proofs.Membership.{filtered_is_in, filtered_passes, passing_is_kept}
use Rattle.aio_laws.proofs.rounds.RoundEnds.{round_waits}
use Rattle.aio_laws.proofs.rounds.RoundFaults.{begun_clean}
use Rattle.aio_laws.proofs.rounds.RoundLemmas.{in_hand_of, event_handled, waited_of, handled_of, ended_of, begun_in_hand}
use Rattle.aio_laws.proofs.rounds.TakenWaiters.{idle_after_event}
use Rattle.aio_laws.proofs.steps.Calling.{finish_arms, begin_waiters, wait_waiters, cleared_is, round_clears}
use Rattle.aio_laws.proofs.steps.Interesting.{sets, taken_arms, taken_live}
use Rattle.aio_laws.proofs.steps.Mending.{taken_position, taken_broken}

-- ## Who is left waiting

-- a world in which these events of a round have been handled
record After (w : World) (handled : List Event) (u : World) : Type 0 where
  live : u.live ≡ w.live
  pos : u.pos ≡ w.pos
  idle : (n : ℕ) (d : Dir) → is_idle u n d ≡ not (is_left w handled n d)

serial_by : (u w : World) (key : ℕ) → u.live ≡ w.live → serial_of u key ≡ serial_of w key
serial_by u w key same = ap (λ live. option_map (λ (s : LiveSource). s.serial) (find (λ (s : LiveSource). s.key == key) live)) same

left_step : (waits earlier takes : Bool) → (not (waits && not earlier) || takes) ≡ not (waits && not (takes || earlier))
left_step true true true = refl
left_step true true false = refl
left_step true false true = refl
left_step true false false = refl
left_step false true true = refl
left_step false true false = refl
left_step false false true = refl
left_step false false false = refl

or_no : (test : Bool) → test ≡ (test || false)
or_no true = refl
or_no false = refl

left_later : (w : World) (handled : List Event) (event : Event) (n : ℕ) (d : Dir)
    → not (is_left w (event ∷ handled) n d) ≡ (not (is_left w handled n d) || takes w n d event)
left_later w handled event n d = sym (left_step (not (is_idle w n d)) (list_any (takes w n d) handled) (takes w n d event))

twice_not : (test : Bool) → not (not test) ≡ test
twice_not true = refl
twice_not false = refl

filter_same : (p q : Dir → Bool) → ((d : Dir) → p d ≡ q d) → (dirs : List Dir) → filter p dirs ≡ filter q dirs
filter_same p q same [] = refl
filter_same p q same (d ∷ dirs) =
    ap (λ test. cond test (d ∷ filter p dirs) (filter p dirs)) (same d) ∙ ap (λ (rest : List Dir). cond (q d) (d ∷ rest) rest) (filter_same p q same dirs)

wanted_is : (w u : World) (handled : List Event) (n : ℕ) → ((d : Dir) → is_idle u n d ≡ not (is_left w handled n d)) → wanted u n ≡ left_waiting w handled n
wanted_is w u handled n idle =
    filter_same (λ d. not (is_idle u n d)) (is_left w handled n) (λ d. ap not (idle d) ∙ twice_not (is_left w handled n d)) directions

-- ## What arms leave

-- the poller's answers behind those to these arms
abbrev behind : List Arming → List PollerAnswer → List PollerAnswer
behind [] answers = answers
behind (arming ∷ more) answers = behind more (later_answers answers)

abbrev arm_calls : List ArmTried → List Which
arm_calls tried = map (λ (t : ArmTried). which.Arm) tried

-- An outcome made these arms, and left broken and armed what they leave of what was.
record Arms (position : ℕ) (broken : List BrokenSource) (armed : List ArmedDirection) (arms : List Arming) (answers : List PollerAnswer) (o : Outcome) : Type 0 where
  calls : o.calls ≡ arm_calls (arms_tried arms answers)
  left : o.left ≡ behind arms answers
  breaks : (b : BrokenSource) → Contains o.world.broken b ↔ BrokenBy position (Contains broken b) b (last_such (is_arm_of b.serial) (arms_tried arms answers))
  interests : (k : ℕ) (d : Dir) → IsArmedIn o.world.armed k d ↔ ArmedBy (IsArmedIn armed k d) d (last_such (has_armed k) (arms_tried arms answers))

no_arms : (position : ℕ) (broken : List BrokenSource) (armed : List ArmedDirection) (answers : List PollerAnswer) (o : Outcome) → o.calls ≡ [] → o.left ≡ answers
    → o.world.broken ≡ broken → o.world.armed ≡ armed → Arms position broken armed [] answers o
no_arms position broken armed answers o calls left same also = record {
  calls = calls;
  left = left;
  breaks = λ b. (λ here. subst (λ xs. Contains xs b) same here, λ here. subst (λ xs. Contains xs b) (sym same) here);
  interests = λ k d. (λ here. subst (λ xs. IsArmedIn xs k d) also here, λ here. subst (λ xs. IsArmedIn xs k d) (sym also) here);
}

-- ## One arm

and_no : (test : Bool) → (test && false) ≡ false
and_no true = refl
and_no false = refl

and_yes : (test : Bool) → (test && true) ≡ test
and_yes true = refl
and_yes false = refl

-- whether a source is broken once an arm of one failed
broken_by_failure : (position : ℕ) (broken : List BrokenSource) (n at : ℕ) (arming : Arming) (b : BrokenSource) (own : Bool) → at ≡ position
    → (b.serial == n) ≡ own
    → Contains (without_broken broken n ++ record { serial = n; position = at } ∷ []) b
    ↔ BrokenBy position (Contains broken b) b (cond own (Some (record { arming = arming; failed = true })) None)
broken_by_failure position broken n at arming b true same own = (
  λ here. (
    refl,
    ⊎_elim
        (λ (old : Contains (without_broken broken n) b).
        let passes = filtered_passes (λ (x : BrokenSource). not (x.serial == n)) broken b old in
        absurd (let wrong : false ≡ true = sym (ap not own) ∙ passes in cc))
        (λ (is : record { serial = n; position = at } ≡ b). ap (λ (x : BrokenSource). x.position) (sym is) ∙ same)
        (Contains-push_cases (without_broken broken n) (record { serial = n; position = at }) b here),
  ),
  λ failed.
      let is : record { serial = n; position = at } ≡ b =
      ap (λ m. record { serial = m; position = at }) (sym (eqb-true b.serial n own)) ∙ ap (λ p. record { serial = b.serial; position = p }) (same ∙ sym failed.1) in
      subst (Contains (without_broken broken n ++ record { serial = n; position = at } ∷ [])) is
      (Contains-push (without_broken broken n) (record { serial = n; position = at })),
)
broken_by_failure position broken n at arming b false same other = (
  λ here. ⊎_elim
      (λ (old : Contains (without_broken broken n) b). filtered_is_in (λ (x : BrokenSource). not (x.serial == n)) broken b old)
      (λ (is : record { serial = n; position = at } ≡ b).
      let own = eq-eqb b.serial n (ap (λ (x : BrokenSource). x.serial) (sym is)) in absurd (let wrong : true ≡ false = sym own ∙ other in cc))
      (Contains-push_cases (without_broken broken n) (record { serial = n; position = at }) b here),
  λ old. Contains-append_left (without_broken broken n) (record { serial = n; position = at } ∷ []) b
      (passing_is_kept (λ (x : BrokenSource). not (x.serial == n)) broken b (ap not other) old),
)

-- and once it succeeded
broken_by_success : (position : ℕ) (broken : List BrokenSource) (n : ℕ) (arming : Arming) (b : BrokenSource) (own : Bool) → (b.serial == n) ≡ own
    → Contains (without_broken broken n) b
    ↔ BrokenBy position (Contains broken b) b (cond own (Some (record { arming = arming; failed = false })) None)
broken_by_success position broken n arming b true own = (
  λ old.
      let passes = filtered_passes (λ (x : BrokenSource). not (x.serial == n)) broken b old in
      absurd (let wrong : false ≡ true = sym (ap not own) ∙ passes in cc),
  λ failed. absurd (let wrong : false ≡ true = failed.0 in cc),
)
broken_by_success position broken n arming b false other = (
  λ old. filtered_is_in (λ (x : BrokenSource). not (x.serial == n)) broken b old,
  λ old. passing_is_kept (λ (x : BrokenSource). not (x.serial == n)) broken b (ap not other) old,
)

armed_by_success : (armed : List ArmedDirection) (key : ℕ) (dirs : List Dir) (arming : Arming) (k : ℕ) (d : Dir) (own : Bool) → (k == key) ≡ own → arming.dirs ≡ dirs
    → IsArmedIn (set_armed armed key dirs) k d ↔ ArmedBy (IsArmedIn armed k d) d (cond own (Some (record { arming = arming; failed = false })) None)
armed_by_success armed key dirs arming k d true own is =
    let set : SetsInterest armed (set_armed armed key dirs) key (Contains dirs) = sets armed key dirs (Contains dirs) (λ e among. among) (λ e among. among) in
    let at : k ≡ key = eqb-true k key own in (
      λ here. subst (λ ds. Contains ds d) (sym is) ((set.own d).0 (subst (λ x. IsArmedIn (set_armed armed key dirs) x d) at here)),
      λ among. subst (λ x. IsArmedIn (set_armed armed key dirs) x d) (sym at) ((set.own d).1 (subst (λ ds. Contains ds d) is among)),
    )
armed_by_success armed key dirs arming k d false other is =
    let set : SetsInterest armed (set_armed armed key dirs) key (Contains dirs) = sets armed key dirs (Contains dirs) (λ e among. among) (λ e among. among) in
    set.others k d (λ same. absurd (let own = eq-eqb k key same in let wrong : true ≡ false = sym own ∙ other in cc))

-- a source that is armed again, by whether that fails
abbrev rearming : Bool → World → RoundState → ℕ → ℕ → World
rearming failed u round key n =
    cond failed (record (cond failed (broken_world u n) (armed_world u key n)) { round = Some round }) (cond failed (broken_world u n) (armed_world u key n))

rearming_breaks : (failed : Bool) (position : ℕ) (u : World) (round : RoundState) (key n : ℕ) (arming : Arming) → u.pos ≡ position → arming.serial ≡ n → (b : BrokenSource)
    → Contains (rearming failed u round key n).broken b
    ↔ BrokenBy position (Contains u.broken b) b (cond (b.serial == arming.serial) (Some (record { arming = arming; failed = failed })) None)
rearming_breaks true position u round key n arming same is b = broken_by_failure position u.broken n u.pos arming b (b.serial == arming.serial) same (ap (λ m. b.serial == m) (sym is))
rearming_breaks false position u round key n arming same is b = broken_by_success position u.broken n arming b (b.serial == arming.serial) (ap (λ m. b.serial == m) (sym is))

rearming_arms : (failed : Bool) (u : World) (round : RoundState) (key n : ℕ) (arming : Arming) → arming.key ≡ key → arming.dirs ≡ wanted u n → (k : ℕ) (d : Dir)
    → IsArmedIn (rearming failed u round key n).armed k d
    ↔ ArmedBy (IsArmedIn u.armed k d) d (cond ((k == arming.key) && not failed) (Some (record { arming = arming; failed = failed })) None)
rearming_arms true u round key n arming is dirs k d =
    subst (λ test. IsArmedIn u.armed k d ↔ ArmedBy (IsArmedIn u.armed k d) d (cond test (Some (record { arming = arming; failed = true })) None))
    (sym (and_no (k == arming.key))) (λ here. here, λ here. here)
rearming_arms false u round key n arming is dirs k d =
    subst (λ test. IsArmedIn (set_armed u.armed key (wanted u n)) k d ↔ ArmedBy (IsArmedIn u.armed k d) d (cond test (Some (record { arming = arming; failed = false })) None))
    (sym (and_yes (k == arming.key))) (armed_by_success u.armed key (wanted u n) arming k d (k == arming.key) (ap (λ m. k == m) (sym is)) dirs)

rearmed_arms : (position : ℕ) (u : World) (round : RoundState) (key : Key) (n : ℕ) (answers : List PollerAnswer) (dirs : List Dir) → u.pos ≡ position
    → wanted u n ≡ dirs → Arms position u.broken u.armed (arming_for dirs key.0 n) answers (rearmed u round key n answers)
rearmed_arms position u round key n answers [] same is =
    cond_both (is_empty_list (wanted u n)) _ _ (Arms position u.broken u.armed [] answers) (λ none. no_arms position u.broken u.armed answers _ refl refl refl refl)
    (λ some. absurd (let none : is_empty_list (wanted u n) ≡ true = ap is_empty_list is in let wrong : true ≡ false = sym none ∙ some in cc))
rearmed_arms position u round key n answers (dir ∷ dirs) same is =
    let arming : Arming = record { key = key.0; serial = n; dirs = dir ∷ dirs } in
    cond_both (is_empty_list (wanted u n)) _ _ (Arms position u.broken u.armed (arming ∷ []) answers)
    (λ none. absurd (let some : is_empty_list (wanted u n) ≡ false = ap is_empty_list is in let wrong : true ≡ false = sym none ∙ some in cc))
    (λ some. record {
      calls = refl;
      left = refl;
      breaks = rearming_breaks (fails (next_answer answers)) position u (record round { fault = first_fault round.fault FaultArm }) key.0 n arming same refl;
      interests = rearming_arms (fails (next_answer answers)) u (record round { fault = first_fault round.fault FaultArm }) key.0 n arming refl (sym is);
    })

-- ## One event

rearming_after : (failed : Bool) (w u : World) (handled : List Event) (round : RoundState) (key n : ℕ) → After w handled u → After w handled (rearming failed u round key n)
rearming_after true w u handled round key n a = record { live = a.live; pos = a.pos; idle = a.idle }
rearming_after false w u handled round key n a = record { live = a.live; pos = a.pos; idle = a.idle }

rearmed_after : (w u : World) (handled : List Event) (round : RoundState) (key : Key) (n : ℕ) (answers : List PollerAnswer) → After w handled u
    → After w handled (rearmed u round key n answers).world
rearmed_after w u handled round key n answers a =
    cond_both (is_empty_list (wanted u n)) _ _ (λ (o : Outcome). After w handled o.world) (λ none. a)
    (λ some. rearming_after (fails (next_answer answers)) w u handled (record round { fault = first_fault round.fault FaultArm }) key.0 n a)

-- what the handling of an event arms, and who is left
record EventDone (w u : World) (handled : List Event) (event : Event) (answers : List PollerAnswer) (o : Outcome) : Type 0 where
  arms : Arms w.pos u.broken u.armed (event_arms w (event ∷ handled) event) answers o
  after : After w (event ∷ handled) o.world

taken_after : (w u : World) (handled : List Event) (event : Event) (n begin : ℕ) (round : Option RoundState) → serial_of w event.key.0 ≡ Some n → After w handled u
    → After w (event ∷ handled) (record (world_taken u n begin (directions_of event.on)) { round = round })
taken_after w u handled event n begin round at a = record {
  live = taken_live (directions_of event.on) u n begin ∙ a.live;
  pos = taken_position (directions_of event.on) u n begin ∙ a.pos;
  idle = λ m d.
      idle_after_event u event.on n begin m d ∙ ap (λ idle. idle || ((m == n) && has_dir event.on d)) (a.idle m d)
      ∙ ap (λ (o : Option ℕ). not (is_left w handled m d) || (option_map_or (λ k. m == k) o false && has_dir event.on d)) (sym at)
      ∙ sym (left_later w handled event m d);
}

dropped_after : (w u : World) (handled : List Event) (event : Event) (round : Option RoundState) → serial_of w event.key.0 ≡ None → After w handled u
    → After w (event ∷ handled) (record u { round = round })
dropped_after w u handled event round at a = record {
  live = a.live;
  pos = a.pos;
  idle = λ m d.
      a.idle m d ∙ or_no (not (is_left w handled m d))
      ∙ ap (λ (o : Option ℕ). not (is_left w handled m d) || (option_map_or (λ k. m == k) o false && has_dir event.on d)) (sym at)
      ∙ sym (left_later w handled event m d);
}

-- the arm behind an event of this source, or of none
arms_of : (w : World) (handled : List Event) (event : Event) (found : Option ℕ) → serial_of w event.key.0 ≡ found
    → event_arms w handled event ≡ flat_map (λ serial. arming_for (left_waiting w handled serial) event.key.0 serial) (option_to_list found)
arms_of w handled event found at = ap (λ (o : Option ℕ). flat_map (λ serial. arming_for (left_waiting w handled serial) event.key.0 serial) (option_to_list o)) at

source_did : (w u : World) (handled : List Event) (round : RoundState) (event : Event) (found : Option ℕ) (answers : List PollerAnswer) → After w handled u
    → serial_of w event.key.0 ≡ found → EventDone w u handled event answers (handle_source u round event found answers)
source_did w u handled round event None answers a at = record {
  arms = subst (λ arms. Arms w.pos u.broken u.armed arms answers (handle_source u round event None answers)) (sym (arms_of w (event ∷ handled) event None at))
      (no_arms w.pos u.broken u.armed answers (handle_source u round event None answers) refl refl refl refl);
  after = dropped_after w u handled event (Some round) at a;
}
source_did w u handled round event (Some n) answers a at =
    let dirs = directions_of event.on in
    let taken : RoundState = record round { taken = round.taken ++ wakers_taken u n round.begin dirs } in
    let v : World = record (world_taken u n round.begin dirs) { round = Some taken } in
    let left : List Dir = left_waiting w (event ∷ handled) n in
    let o : Outcome = rearmed v taken event.key n answers in
    let after : After w (event ∷ handled) v = taken_after w u handled event n round.begin (Some taken) at a in
    let wants : wanted v n ≡ left = wanted_is w v (event ∷ handled) n (after.idle n) in
    let one : Arms w.pos v.broken v.armed (arming_for left event.key.0 n) answers o = rearmed_arms w.pos v taken event.key n answers left after.pos wants in
    let two : Arms w.pos u.broken u.armed (arming_for left event.key.0 n) answers o =
    subst (λ broken. Arms w.pos broken u.armed (arming_for left event.key.0 n) answers o) (taken_broken dirs u n round.begin)
    (subst (λ armed. Arms w.pos v.broken armed (arming_for left event.key.0 n) answers o) (taken_arms dirs u n round.begin) one) in
    record {
      arms = subst (λ arms. Arms w.pos u.broken u.armed arms answers o)
          (sym (arms_of w (event ∷ handled) event (Some n) at ∙ append-nil (arming_for left event.key.0 n))) two;
      after = rearmed_after w v (event ∷ handled) taken event.key n answers after;
    }

first_did : (w u : World) (handled : List Event) (round : RoundState) (hand : List Event) (event : Event) (events : List Event) (answers : List PollerAnswer)
    → hand ≡ event ∷ events → After w handled u → EventDone w u handled event answers (handle_first u round hand answers)
first_did w u handled round [] event events answers at a = absurd cc
first_did w u handled round (e ∷ es) event events answers at a =
    let same : e ≡ event = cc in
    subst (λ x. EventDone w u handled x answers (handle_first u round (e ∷ es) answers)) same
    (subst (λ found. EventDone w u handled e answers (handle_source u (record round { in_hand = es }) e found answers)) (sym (serial_by u w e.key.0 a.live))
    (source_did w u handled (record round { in_hand = es }) e (serial_of w e.key.0) answers a refl))

event_did : (w u : World) (handled : List Event) (round : Option RoundState) (event : Event) (events : List Event) (answers : List PollerAnswer)
    → in_hand_of round ≡ Some (event ∷ events) → After w handled u → EventDone w u handled event answers (handle_in u round answers)
event_did w u handled None event events answers at a = absurd cc
event_did w u handled (Some round) event events answers at a =
    let hand : round.in_hand ≡ event ∷ events = cc in first_did w u handled round round.in_hand event events answers hand a

-- ## All events

tried_both : (first second : List Arming) (answers : List PollerAnswer)
    → arms_tried (first ++ second) answers ≡ arms_tried first answers ++ arms_tried second (behind first answers)
tried_both [] second answers = refl
tried_both (arming ∷ first) second answers =
    ap (λ (more : List ArmTried). record { arming = arming; failed = fails (next_answer answers) } ∷ more) (tried_both first second (later_answers answers))

behind_both : (first second : List Arming) (answers : List PollerAnswer) → behind (first ++ second) answers ≡ behind second (behind first answers)
behind_both [] second answers = refl
behind_both (arming ∷ first) second answers = behind_both first second (later_answers answers)

or_nothing : (o : Option ArmTried) → option_or o None ≡ o
or_nothing None = refl
or_nothing (Some x) = refl

or_each : (a b c : Option ArmTried) → option_or (option_or a b) c ≡ option_or a (option_or b c)
or_each None b c = refl
or_each (Some x) b c = refl

last_both : (test : ArmTried → Bool) (first second : List ArmTried) → last_such test (first ++ second) ≡ option_or (last_such test second) (last_such test first)
last_both test [] second = sym (or_nothing (last_such test second))
last_both test (tried ∷ first) second =
    ap (λ o. option_or o (cond (test tried) (Some tried) None)) (last_both test first second)
    ∙ or_each (last_such test second) (last_such test first) (cond (test tried) (Some tried) None)

broken_both : (position : ℕ) (Now Was : Type 0) (b : BrokenSource) (first last : Option ArmTried) → Now ↔ BrokenBy position Was b first
    → BrokenBy position Now b last ↔ BrokenBy position Was b (option_or last first)
broken_both position Now Was b first None same = same
broken_both position Now Was b first (Some tried) same = (λ here. here, λ here. here)

armed_both : (Now Was : Type 0) (d : Dir) (first last : Option ArmTried) → Now ↔ ArmedBy Was d first → ArmedBy Now d last ↔ ArmedBy Was d (option_or last first)
armed_both Now Was d first None same = same
armed_both Now Was d first (Some tried) same = (λ here. here, λ here. here)

arms_both : (position : ℕ) (broken : List BrokenSource) (armed : List ArmedDirection) (first second : List Arming) (answers : List PollerAnswer) (o p : Outcome)
    → Arms position broken armed first answers o → Arms position o.world.broken o.world.armed second o.left p
    → Arms position broken armed (first ++ second) answers (record p { calls = o.calls ++ p.calls })
arms_both position broken armed first second answers o p one two =
    let early : List ArmTried = arms_tried first answers in
    let late : List ArmTried = arms_tried second (behind first answers) in
    let both : arms_tried (first ++ second) answers ≡ early ++ late = tried_both first second answers in
    let then : arms_tried second o.left ≡ late = ap (arms_tried second) one.left in
    record {
      calls = ap (λ (calls : List Which). calls ++ p.calls) one.calls ∙ ap (λ (calls : List Which). arm_calls early ++ calls) (two.calls ∙ ap arm_calls then)
          ∙ sym (map-append (λ (t : ArmTried). which.Arm) early late) ∙ ap arm_calls (sym both);
      left = two.left ∙ ap (behind second) one.left ∙ sym (behind_both first second answers);
      breaks = λ b.
          let last : last_such (is_arm_of b.serial) (arms_tried (first ++ second) answers)
          ≡ option_or (last_such (is_arm_of b.serial) (arms_tried second o.left)) (last_such (is_arm_of b.serial) early) =
          ap (last_such (is_arm_of b.serial)) both ∙ last_both (is_arm_of b.serial) early late
          ∙ ap (λ (ts : List ArmTried). option_or (last_such (is_arm_of b.serial) ts) (last_such (is_arm_of b.serial) early)) (sym then) in
          let combined = broken_both position (Contains o.world.broken b) (Contains broken b) b (last_such (is_arm_of b.serial) early)
          (last_such (is_arm_of b.serial) (arms_tried second o.left)) (one.breaks b) in
          subst (λ x. Contains p.world.broken b ↔ BrokenBy position (Contains broken b) b x) (sym last)
          (λ here. combined.0 ((two.breaks b).0 here), λ here. (two.breaks b).1 (combined.1 here));
      interests = λ k d.
          let last : last_such (has_armed k) (arms_tried (first ++ second) answers)
          ≡ option_or (last_such (has_armed k) (arms_tried second o.left)) (last_such (has_armed k) early) =
          ap (last_such (has_armed k)) both ∙ last_both (has_armed k) early late
          ∙ ap (λ (ts : List ArmTried). option_or (last_such (has_armed k) ts) (last_such (has_armed k) early)) (sym then) in
          let combined = armed_both (IsArmedIn o.world.armed k d) (IsArmedIn armed k d) d (last_such (has_armed k) early)
          (last_such (has_armed k) (arms_tried second o.left)) (one.interests k d) in
          subst (λ x. IsArmedIn p.world.armed k d ↔ ArmedBy (IsArmedIn armed k d) d x) (sym last)
          (λ here. combined.0 ((two.interests k d).0 here), λ here. (two.interests k d).1 (combined.1 here));
    }

all_did : (events : List Event) (w u : World) (handled : List Event) (answers : List PollerAnswer) → After w handled u → in_hand_of u.round ≡ Some events
    → Arms w.pos u.broken u.armed (events_arms w handled events) answers (handle_each events u answers)
all_did [] w u handled answers a at = no_arms w.pos u.broken u.armed answers (handle_each [] u answers) refl refl refl refl
all_did (event ∷ events) w u handled answers a at =
    let first = handle_round u answers in
    let one = event_did w u handled u.round event events answers at a in
    let rest = all_did events w first.world (event ∷ handled) first.left one.after (event_handled u event events answers at).hand in
    arms_both w.pos u.broken u.armed (event_arms w (event ∷ handled) event) (events_arms w (event ∷ handled) events) answers first (handle_each events first.world first.left)
    one.arms rest

-- ## A whole round

record Still (w v : World) : Type 0 where
  pos : v.pos ≡ w.pos
  broken : v.broken ≡ w.broken

begin_still : (w : World) (answers : List PollerAnswer) → Still w (begin_round w None answers).world
begin_still w answers =
    cond_both (is_some w.round) _ _ (λ (o : Outcome). Still w o.world) (λ runs. record { pos = refl; broken = refl }) (λ none. record { pos = refl; broken = refl })

answered_still : (w : World) (round : RoundState) (told : PollerAnswer) (rest : List PollerAnswer) → Still w (wait_answered w round told rest).world
answered_still w round Succeeds rest = record { pos = refl; broken = refl }
answered_still w round told rest = record { pos = refl; broken = refl }

wait_still : (w : World) (round : Option RoundState) (answers : List PollerAnswer) → Still w (wait_in w round answers).world
wait_still w None answers = record { pos = refl; broken = refl }
wait_still w (Some round) answers =
    cond_both (is_empty_list round.in_hand) _ _ (λ (o : Outcome). Still w o.world) (λ empty. answered_still w round (next_answer answers) (later_answers answers))
    (λ some. record { pos = refl; broken = refl })

finish_broken : (w : World) (round : Option RoundState) (answers : List PollerAnswer) → (finish_in w round answers).world.broken ≡ w.broken
finish_broken w None answers = refl
finish_broken w (Some round) answers =
    cond_both (is_empty_list round.in_hand) _ _ (λ (o : Outcome). o.world.broken ≡ w.broken) (λ ends. refl) (λ some. refl)

all_left : (idle : Bool) → idle ≡ not (not idle && not false)
all_left true = refl
all_left false = refl

-- what a whole round is asked, and leaves
record Rounds (w : World) (answers : List PollerAnswer) (made : List Which) (v : World) : Type 0 where
  calls : made ≡ which.Wait ∷ arm_calls (round_arms w answers)
  breaks : (b : BrokenSource) → Contains v.broken b ↔ BrokenBy w.pos (Contains w.broken b) b (last_such (is_arm_of b.serial) (round_arms w answers))
  interests : (k : ℕ) (d : Dir) → IsArmedIn v.armed k d
      ↔ ArmedBy (IsArmedIn w.armed k d × NoneOf (events_given (next_answer answers)) k) d (last_such (has_armed k) (round_arms w answers))

armed_same : (Now Was : Type 0) (d : Dir) (last : Option ArmTried) → Now ↔ Was → ArmedBy Now d last ↔ ArmedBy Was d last
armed_same Now Was d None same = same
armed_same Now Was d (Some tried) same = (λ here. here, λ here. here)

begun_rounds : (w : World) (answers : List PollerAnswer) → is_some w.round ≡ false
    → Rounds w answers ((waited_of w answers).calls ++ (handled_of w answers).calls) (ended_of w answers).world
begun_rounds w answers none =
    let begun = begin_round w None answers in
    let waited = wait_round begun.world begun.left in
    let hand = hand_of waited.world.round in
    let handled = handle_each hand waited.world waited.left in
    let ended = finish_round handled.world handled.left in
    let events = events_given (next_answer answers) in
    let h = begun_in_hand w answers none in
    let waits = round_waits begun.world begun.world.round begun.left h.start.hand (begun_clean w None answers none) in
    let first = begin_still w answers in
    let second = wait_still begun.world begun.world.round begun.left in
    let after : After w [] waited.world = record {
      live = h.live;
      pos = second.pos ∙ first.pos;
      idle = λ n d. wait_waiters begun.world begun.world.round begun.left n d ∙ begin_waiters w answers n d ∙ all_left (is_idle w n d);
    } in
    let did : Arms w.pos waited.world.broken waited.world.armed (events_arms w [] hand) waited.left handled = all_did hand w waited.world [] waited.left after h.held in
    let behind_wait : waited.left ≡ later_answers answers = waits.left ∙ ap later_answers h.start.left in
    let tried : arms_tried (events_arms w [] hand) waited.left ≡ round_arms w answers =
    ap (λ (es : List Event). arms_tried (events_arms w [] es) waited.left) h.events ∙ ap (arms_tried (events_arms w [] events)) behind_wait in
    record {
      calls = ap (λ (calls : List Which). calls ++ handled.calls) waits.calls ∙ ap (λ (calls : List Which). which.Wait ∷ calls) (did.calls ∙ ap arm_calls tried);
      breaks = λ b.
          subst (λ broken. Contains broken b ↔ BrokenBy w.pos (Contains w.broken b) b (last_such (is_arm_of b.serial) (round_arms w answers)))
          (sym (finish_broken handled.world handled.world.round handled.left))
          (subst (λ ts. Contains handled.world.broken b ↔ BrokenBy w.pos (Contains w.broken b) b (last_such (is_arm_of b.serial) ts)) tried
          (subst (λ broken. Contains handled.world.broken b
          ↔ BrokenBy w.pos (Contains broken b) b (last_such (is_arm_of b.serial) (arms_tried (events_arms w [] hand) waited.left))) (second.broken ∙ first.broken) (did.breaks b)));
      interests = λ k d.
          let cleared = cleared_is events w.armed waited.world.armed (round_clears w answers none) k d in
          let same = armed_same (IsArmedIn waited.world.armed k d) (IsArmedIn w.armed k d × NoneOf events k) d
          (last_such (has_armed k) (arms_tried (events_arms w [] hand) waited.left)) cleared in
          subst (λ armed. IsArmedIn armed k d ↔ ArmedBy (IsArmedIn w.armed k d × NoneOf events k) d (last_such (has_armed k) (round_arms w answers)))
          (sym (finish_arms handled.world handled.world.round handled.left))
          (subst (λ ts. IsArmedIn handled.world.armed k d ↔ ArmedBy (IsArmedIn w.armed k d × NoneOf events k) d (last_such (has_armed k) ts)) tried
          (λ here. same.0 ((did.interests k d).0 here), λ here. (did.interests k d).1 (same.1 here)));
    }

react_rounds : (w : World) (answers : List PollerAnswer) → w.round ≡ None → Rounds w answers (case_of w step.React answers).calls (case_of w step.React answers).world
react_rounds w answers none =
    cond_both (is_some w.round) _ _ (λ (o : Outcome). Rounds w answers o.calls o.world)
    (λ runs. absurd (let quiet : is_some w.round ≡ false = ap is_some none in let wrong : true ≡ false = sym runs ∙ quiet in cc)) (λ begins. begun_rounds w answers begins)

pub round_arming : (w : World) (s : Step) (answers : List PollerAnswer)
    → RoundArming w s answers (step_result w s answers).calls (step_result w s answers).world
unfolding step_result
round_arming w s answers = record {
  asks = λ is none. subst (λ (x : Step). (case_of w x answers).calls ≡ which.Wait ∷ arm_calls (round_arms w answers)) (sym is) (react_rounds w answers none).calls;
  broken = λ is none b.
      subst (λ (x : Step). Contains (case_of w x answers).world.broken b ↔ BrokenBy w.pos (Contains w.broken b) b (last_such (is_arm_of b.serial) (round_arms w answers))) (sym is)
      ((react_rounds w answers none).breaks b);
  armed = λ is none key dir.
      subst (λ (x : Step). IsArmedIn (case_of w x answers).world.armed key dir
      ↔ ArmedBy (IsArmedIn w.armed key dir × NoneOf (events_given (next_answer answers)) key) dir (last_such (has_armed key) (round_arms w answers))) (sym is)
      ((react_rounds w answers none).interests key dir);
}
