-- Cover stands through the sections of a round, and over a whole round.
use Rattle.std.proofs.Common.{◌≡◌, ◌≢◌, ◌⊎◌, ℕ, Bool, true, false, not, cond, if◌then◌else◌, List, [], ◌∷◌, ◌++◌, map, Option, None, Some, is_some, refl, ap, ◌∙◌, subst, sym, inl, inr, ⊎_elim}
use Rattle.std.specs.List.{Contains}
use Rattle.std.proofs.lemmas.Bool.{cases_eq, cond_both}
use Rattle.aio_base.specs.declared.names.Dir.{Dir}
use Rattle.aio_base.specs.declared.names.Event.{Event}
use Rattle.aio_base.specs.declared.names.Key.{Key}
use Rattle.aio_base.specs.declared.outcomes.EndWord.{EndWord}
use Rattle.aio_base.specs.declared.outcomes.EndWord.TheVariants.{Clean, FaultArm}
use Rattle.aio_base.specs.declared.outcomes.Which.TheVariants as which
use Rattle.aio_base.specs.declared.steps.Answer.{Answer}
use Rattle.aio_base.specs.declared.steps.Answer.TheVariants as answer
use Rattle.aio_base.specs.World.{PollerAnswer, Succeeds, Gives, IsInterrupted, Fails, PollWaiter, ListenerEntry, ArmedDirection, RoundState, World, is_of, serial_of, directions_of, is_empty_list, wanted, without_waiter, set_armed, clear_armed}
use Rattle.aio_base.specs.Machine.{Outcome, fails, next_answer, later_answers, after_arm, begin_round, first_fault, wait_answered, wait_in, wait_round, without_waiters, world_taken, wakers_taken, rearmed, handle_source, hand_of, fault_of_round}
use Rattle.aio_laws.specs.Covered.{tells_arm_fault}
use Rattle.aio_base.proofs.Membership.{none_is_in, first_is_in, later_is_in, among_cases, filtered_is_in, mapped_from}
use Rattle.aio_base.proofs.WaiterLemmas.{Wants, source, serial_of-live, none_live, none_wants}
use Rattle.aio_laws.proofs.cover.Standing.{Parts, parts_with, parts_of, Holds, Armed, Handed, Broken, Standing, StandingBut, weaker, other_key, armed_stays, holds_in, arm_stands}
use Rattle.aio_laws.proofs.cover.Rewaiting.{Comes, stays_listening, Rewaits, rewaits_all_but}
use Rattle.aio_laws.proofs.cover.CoverSources.{Stands, either, at_rest, quiet_stands}

pub empty_is : {X : Type 0} (xs : List X) → is_empty_list xs ≡ true → xs ≡ []
empty_is [] e = refl
empty_is (x ∷ xs) e = absurd cc

-- a world in which another hand is the same
pub rehanded : (w : World) (told : List Answer) (F : Type 0) (hand : List Event) → hand_of w.round ≡ hand → Standing (parts_of w) told F
    → Standing (parts_with w hand) told F
rehanded w told F hand same s = subst (λ h. Standing (parts_with w h) told F) same s

-- ## A round begins

no_hand : (round : Option RoundState) → is_some round ≡ false → hand_of round ≡ []
no_hand None none = refl
no_hand (Some round) none = absurd cc

-- what a round that has begun leaves
pub record Begins (told : List Answer) (o : Outcome) : Type 0 where
  pub stands : Standing (parts_of o.world) told ⊥
  pub clean : fault_of_round o.world.round ≡ Clean

pub begun_stands : (w : World) (told : List Answer) (given : Option ℕ) (answers : List PollerAnswer) → is_some w.round ≡ false → Standing (parts_of w) told ⊥
    → Begins told (begin_round w given answers)
begun_stands w told given answers none s =
    cond_both (is_some w.round) _ _ (Begins told) (λ some. absurd (cc (some, none)))
    (λ still. record { stands = rehanded w told ⊥ [] (no_hand w.round none) s; clean = refl })

pub begin_stands : (w : World) (told : List Answer) (given : Option ℕ) (answers : List PollerAnswer) → Standing (parts_of w) told ⊥
    → Stands told (begin_round w given answers)
begin_stands w told given answers s =
    either told (is_some w.round) _ _ (λ some. quiet_stands w told _ answers s)
    (λ none. record { stands = weaker (parts_with w []) told ⊥ _ (λ never. absurd never) (rehanded w told ⊥ [] (no_hand w.round none) s) })

-- ## A wait

cleared_step : (armed : List ArmedDirection) (event : Event) (events : List Event) (k : ℕ) (dir : Dir)
    → ((armed : List ArmedDirection) → Contains armed (record { key = k; dir = dir })
    → Contains (clear_armed armed events) (record { key = k; dir = dir }) ⊎ ((e : Event) × Contains events e × (e.key.0 ≡ k)))
    → Contains armed (record { key = k; dir = dir })
    → Contains (clear_armed armed (event ∷ events)) (record { key = k; dir = dir }) ⊎ ((e : Event) × Contains (event ∷ events) e × (e.key.0 ≡ k))
cleared_step armed event events k dir later among =
    ⊎_elim
    (λ (same : k ≡ event.key.0). inr (event, first_is_in event events, sym same))
    (λ (apart : k ≢ event.key.0).
    ⊎_elim
    (λ (kept : Contains (clear_armed (set_armed armed event.key.0 []) events) (record { key = k; dir = dir })). inl kept)
    (λ (named : (e : Event) × Contains events e × (e.key.0 ≡ k)). inr (named.0, later_is_in event events named.0 named.1, named.2))
    (later (set_armed armed event.key.0 []) (armed_stays armed event.key.0 [] k dir apart among)))
    (cases_eq k event.key.0)

-- a direction that was armed is armed still, or an event of its key was given
cleared_cases : (events : List Event) (k : ℕ) (dir : Dir) (armed : List ArmedDirection) → Contains armed (record { key = k; dir = dir })
    → Contains (clear_armed armed events) (record { key = k; dir = dir }) ⊎ ((e : Event) × Contains events e × (e.key.0 ≡ k))
cleared_cases [] k dir armed among = inl among
cleared_cases (event ∷ events) k dir armed among = cleared_step armed event events k dir (cleared_cases events k dir) among

-- the parts after these events were given
abbrev given_parts : World → List Event → Parts
given_parts w events = record (parts_with w events) { armed = clear_armed w.armed events }

holds_given : (w : World) (events : List Event) (k n : ℕ) (dir : Dir) → Holds (parts_with w []) k n dir → Holds (given_parts w events) k n dir
holds_given w events k n dir (Armed among) =
    ⊎_elim
    (λ (kept : Contains (clear_armed w.armed events) (record { key = k; dir = dir })). Armed kept)
    (λ (named : (e : Event) × Contains events e × (e.key.0 ≡ k)). Handed named.0 named.1 named.2)
    (cleared_cases events k dir w.armed among)
holds_given w events k n dir (Handed e among same) = none_is_in e among
holds_given w events k n dir (Broken b among same) = Broken b among same

given_stands : (w : World) (told : List Answer) (F : Type 0) (events : List Event) → Standing (parts_with w []) told F → Standing (given_parts w events) told F
given_stands w told F events s = record {
  counted = s.counted;
  ordered = s.ordered;
  broken_told = s.broken_told;
  covers = λ k n dir lives wants. holds_given w events k n dir (s.covers k n dir lives wants);
}

-- what a wait leaves, by the fault that the round kept before: where the wait failed there is nothing in hand
pub record Waits (told : List Answer) (Failed : Type 0) (before : EndWord) (o : Outcome) : Type 0 where
  pub stands : Standing (parts_of o.world) told Failed
  pub fault : (hand_of o.world.round ≡ []) ⊎ (fault_of_round o.world.round ≡ before)

answered_waits : (w : World) (told : List Answer) (F : Type 0) (round : RoundState) (said : PollerAnswer) (rest : List PollerAnswer) → round.in_hand ≡ []
    → Standing (parts_with w round.in_hand) told F → Waits told F round.fault (wait_answered w round said rest)
answered_waits w told F round Fails rest none s = record { stands = s; fault = inl none }
answered_waits w told F round IsInterrupted rest none s = record { stands = s; fault = inr refl }
answered_waits w told F round Succeeds rest none s = record { stands = s; fault = inr refl }
answered_waits w told F round (Gives events) rest none s = record {
  stands = given_stands w told F events (subst (λ h. Standing (parts_with w h) told F) none s);
  fault = inr refl;
}

pub waited_stands : (w : World) (told : List Answer) (F : Type 0) (round : Option RoundState) (answers : List PollerAnswer) → w.round ≡ round
    → Standing (parts_of w) told F → Waits told F (fault_of_round round) (wait_in w round answers)
waited_stands w told F None answers at s = record { stands = s; fault = inl (ap hand_of at) }
waited_stands w told F (Some round) answers at s =
    cond_both (is_empty_list round.in_hand) _ _ (Waits told F round.fault)
    (λ none. answered_waits w told F round (next_answer answers) (later_answers answers) (empty_is round.in_hand none)
    (rehanded w told F round.in_hand (ap hand_of at) s))
    (λ some. record { stands = s; fault = inr (ap fault_of_round at) })

pub wait_stands : (w : World) (told : List Answer) (answers : List PollerAnswer) → Standing (parts_of w) told ⊥ → Stands told (wait_round w answers)
wait_stands w told answers s =
    let waited = waited_stands w told ⊥ w.round answers refl s in
    record { stands = at_rest (wait_round w answers).world told _ waited.stands }

-- ## An event is handled

abbrev pub nowhere : ℕ → Dir → Type 0
nowhere n d = ⊥

silent_comes : (before : List ListenerEntry) (x l : ListenerEntry) (here : Bool) → Contains before x → cond here (record x { waker = None }) x ≡ l
    → Comes before nowhere l
silent_comes before x l true among same = record {
  from = x;
  among = among;
  number = ap (λ (y : ListenerEntry). y.number) same;
  serial = ap (λ (y : ListenerEntry). y.serial) same;
  dir = ap (λ (y : ListenerEntry). y.dir) same;
  waker = λ some. let none : false ≡ is_some l.waker = ap (λ (y : ListenerEntry). is_some y.waker) same in absurd (cc);
}
silent_comes before x l false among same = stays_listening before nowhere l (subst (Contains before) same among)

-- taking the waiters of a direction brings none
pub taken_rewaits : (p : Parts) (serial : ℕ) (dir : Dir)
    → Rewaits p (without_waiter p.polls serial dir) (map (λ (l : ListenerEntry). if is_of serial dir l.serial l.dir then record l { waker = None } else l) p.listeners) nowhere
taken_rewaits p serial dir = record {
  stored_live = λ n d never. absurd never;
  polls_from = λ q kept. inr (filtered_is_in (λ (q : PollWaiter). not (is_of serial dir q.serial q.dir)) p.polls q kept);
  listeners_from = λ l among.
      let image = mapped_from (λ (l : ListenerEntry). if is_of serial dir l.serial l.dir then record l { waker = None } else l) p.listeners l among in
      silent_comes p.listeners image.0 l (is_of serial dir image.0.serial image.0.dir) image.1 image.2;
}

taken_stands : (dirs : List Dir) (w : World) (hand : List Event) (told : List Answer) (F : Type 0) (key serial n begin : ℕ)
    → StandingBut (parts_with w hand) told F key serial → StandingBut (parts_with (world_taken w n begin dirs) hand) told F key serial
taken_stands [] w hand told F key serial n begin s = s
taken_stands (dir ∷ dirs) w hand told F key serial n begin s =
    taken_stands dirs (without_waiters w n begin dir) hand told F key serial n begin
    (rewaits_all_but (parts_with w hand) told F _ _ nowhere key serial (taken_rewaits (parts_with w hand) n dir) (λ m d never. absurd never) s)

-- without the first event in hand each source but that of its key is covered as before
holds_later : (w : World) (event : Event) (events : List Event) (k n : ℕ) (dir : Dir) → k ≢ event.key.0 → Holds (parts_with w (event ∷ events)) k n dir
    → Holds (parts_with w events) k n dir
holds_later w event events k n dir apart holds =
    holds_in (parts_with w (event ∷ events)) (parts_with w events) k n dir (λ among. among)
    (λ e among of_key.
    ⊎_elim
    (λ (same : event ≡ e). absurd (apart (sym of_key ∙ sym (ap (λ (x : Event). x.key.0) same))))
    (λ (later : Contains events e). later)
    (among_cases event events e among))
    (λ b among of_serial. among) holds

later_but : (w : World) (told : List Answer) (F : Type 0) (event : Event) (events : List Event) (serial : ℕ) → Contains w.live (source event.key.0 serial)
    → Standing (parts_with w (event ∷ events)) told F → StandingBut (parts_with w events) told F event.key.0 serial
later_but w told F event events serial here s = record {
  counted = s.counted;
  ordered = s.ordered;
  broken_told = s.broken_told;
  is_live = here;
  others = λ k n dir lives wants apart.
      holds_later w event events k n dir (other_key (parts_with w (event ∷ events)) s.ordered event.key.0 serial k n here lives apart)
      (s.covers k n dir lives wants);
}

-- where the key of the first event is not live each source is covered as before
later_stands : (w : World) (told : List Answer) (F : Type 0) (event : Event) (events : List Event) → serial_of w event.key.0 ≡ None
    → Standing (parts_with w (event ∷ events)) told F → Standing (parts_with w events) told F
later_stands w told F event events none s = record {
  counted = s.counted;
  ordered = s.ordered;
  broken_told = s.broken_told;
  covers = λ k n dir lives wants.
      holds_later w event events k n dir
      (λ same. none_live w event.key.0 n none (subst (λ x. Contains w.live (source x n)) same lives))
      (s.covers k n dir lives wants);
}

-- where nobody waits for the source that was to be armed all are covered
unwanted_stands : (p : Parts) (told : List Answer) (F : Type 0) (key serial : ℕ) → ((dir : Dir) → Wants p.polls p.listeners serial dir → ⊥)
    → StandingBut p told F key serial → Standing p told F
unwanted_stands p told F key serial none s = record {
  counted = s.counted;
  ordered = s.ordered;
  broken_told = s.broken_told;
  covers = λ k n dir lives wants.
      ⊎_elim
      (λ (same : n ≡ serial). absurd (none dir (subst (λ x. Wants p.polls p.listeners x dir) same wants)))
      (λ (apart : n ≢ serial). s.others k n dir lives wants apart)
      (cases_eq n serial);
}

-- What an event that was handled leaves, by the fault that the round kept before: whether an arm failed, its answer tells, and the round keeps it.
pub record Handles (told : List Answer) (Failed : Type 0) (before : EndWord) (o : Outcome) : Type 0 where
  pub failed : Bool
  pub says : tells_arm_fault o.answer ≡ failed
  pub fault : fault_of_round o.world.round ≡ cond failed (first_fault before FaultArm) before
  pub stands : Standing (parts_of o.world) told (Failed ⊎ (failed ≡ true))

-- a source armed again after an event, by what the poller said
abbrev pub rearming : World → RoundState → Key → ℕ → PollerAnswer → List PollerAnswer → Outcome
rearming w round key serial said rest = record {
  answer = answer.Handled key (fails said);
  wakes = [];
  world = if fails said then record (after_arm w key.0 serial said) { round = Some (record round { fault = first_fault round.fault FaultArm }) } else after_arm w key.0 serial said;
  calls = which.Arm ∷ [];
  left = rest;
}

armed_handles : (w : World) (told : List Answer) (F : Type 0) (round : RoundState) (key : Key) (serial : ℕ) (said : PollerAnswer) (rest : List PollerAnswer)
    → StandingBut (parts_with w round.in_hand) told F key.0 serial
    → Handles told F round.fault (rearming (record w { round = Some round }) round key serial said rest)
armed_handles w told F round key serial Fails rest s = record {
  failed = true;
  says = refl;
  fault = refl;
  stands = arm_stands (record w { round = Some round }) told F _ key.0 serial Fails (λ f. inl f) (λ e. inr e) s;
}
armed_handles w told F round key serial said rest s = record {
  failed = false;
  says = refl;
  fault = refl;
  stands = arm_stands (record w { round = Some round }) told F _ key.0 serial said (λ f. inl f) (λ e. absurd cc) s;
}

rearmed_handles : (w : World) (told : List Answer) (F : Type 0) (round : RoundState) (key : Key) (serial : ℕ) (answers : List PollerAnswer)
    → StandingBut (parts_with w round.in_hand) told F key.0 serial
    → Handles told F round.fault (rearmed (record w { round = Some round }) round key serial answers)
rearmed_handles w told F round key serial answers s =
    cond_both (is_empty_list (wanted (record w { round = Some round }) serial)) _ _ (Handles told F round.fault)
    (λ none. record {
      failed = false;
      says = refl;
      fault = refl;
      stands = weaker (parts_with w round.in_hand) told F _ (λ f. inl f)
          (unwanted_stands (parts_with w round.in_hand) told F key.0 serial (λ dir wants. none_wants (record w { round = Some round }) serial dir none wants) s);
    })
    (λ some. armed_handles w told F round key serial (next_answer answers) (later_answers answers) s)

pub source_handles : (w : World) (told : List Answer) (F : Type 0) (round : RoundState) (event : Event) (serial : Option ℕ) (answers : List PollerAnswer)
    → serial_of w event.key.0 ≡ serial → Standing (parts_with w (event ∷ round.in_hand)) told F
    → Handles told F round.fault (handle_source w round event serial answers)
source_handles w told F round event None answers named s = record {
  failed = false;
  says = refl;
  fault = refl;
  stands = weaker (parts_with w round.in_hand) told F _ (λ f. inl f) (later_stands w told F event round.in_hand named s);
}
source_handles w told F round event (Some serial) answers named s =
    let dirs = directions_of event.on in
    let now_taken : RoundState = record round { taken = round.taken ++ wakers_taken w serial round.begin dirs } in
    rearmed_handles (world_taken w serial round.begin dirs) told F now_taken event.key serial answers
    (taken_stands dirs w round.in_hand told F event.key.0 serial serial round.begin
    (later_but w told F event round.in_hand serial (serial_of-live w event.key.0 serial named) s))
