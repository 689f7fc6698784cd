-- What each call promises across the handle: there is an answer of the core that crossed, and of it and of the core before and after stands what the
-- core's own call promises, clause by clause.
use Rattle.std.specs.Prelude.{◌≡◌, ◌≢◌, ◌≤◌, ℕ, ◌+◌, Bool, true, false, ◌&&◌, ltb, if◌then◌else◌, List, [], ◌∷◌, ◌++◌, length, map, take, drop, slice_get, Option, None, Some, option_map, is_ok, is_some, IsSome, IsErr, IfSome, IfErr, IfOk, OnOk, OnErr, Result, Err}
use Rattle.std.specs.Option.{option_or}
use Rattle.aio_base.specs.declared.names.Dir.{Dir}
use Rattle.aio_base.specs.declared.names.Event.{Event}
use Rattle.aio_base.specs.declared.names.Key.{Key}
use Rattle.aio_base.specs.declared.names.TimerId.{TimerId}
use Rattle.aio_base.specs.declared.names.Waker.{Waker}
use Rattle.aio_base.specs.declared.outcomes.ArmFault.{ArmFault}
use Rattle.aio_base.specs.declared.outcomes.CountFault.{CountFault}
use Rattle.aio_base.specs.declared.outcomes.OutOfMemory.{OutOfMemory}
use Rattle.aio_base.specs.declared.outcomes.Poll.{Poll}
use Rattle.aio_base.specs.declared.outcomes.Waited.{Waited}
use Rattle.aio_base.specs.declared.steps.Answer.{Answer}
use Rattle.aio_base.specs.declared.steps.Step.{Step}
use Rattle.aio_base.specs.declared.steps.Step.TheVariants as step
use Rattle.aio_base.specs.Devices.{Interests, PollerStep, TellsFaults, AddOf, RemoveOf}
use Rattle.aio_base.specs.Machine.{Outcome, wait_round, handle_round, finish_round}
use Rattle.aio_base.specs.Timers.{due_wakers}
use Rattle.aio_base.specs.World.{World, PollerAnswer}
use Rattle.aio_c.specs.Codes.{moment_from}
use Rattle.aio_c.specs.declared.held.Held.{Held}
use Rattle.aio_script.specs.Script.{Script, interests_of, ScriptArms, ScriptWaits}
use Rattle.aio_source.specs.Rules.{Prepared}
use Rattle.aio_source.specs.declared.answers.Polled.{Polled}
use Rattle.aio_base.specs.declared.hosts.InsertRefusal.{InsertRefusal}
use Rattle.aio_react.specs.declared.outcomes.Handled.{Handled}
use Rattle.aio_react.specs.declared.refusals.CoreRefusal.{CoreRefusal}
use Rattle.aio_react.specs.declared.refusals.CoreRefusal.TheVariants as refusal
use Rattle.aio_source.specs.declared.in_hand.RoundFault.{RoundFault}
use Rattle.aio_source.specs.declared.in_hand.RoundFault.TheVariants as round
use Rattle.aio_react.specs.Asking.{UsesPoller, poll_part, step_part, handle_part}
use Rattle.aio_react.specs.Cores.{CoreValue, entry_at}
use Rattle.aio_react.specs.Hosting.{core_rules}
use Rattle.aio_base.specs.Hosts.{RegistersAs, registered_id, insert_fault}
use Rattle.aio_react.specs.Listeners.{listen_reply, listen_refusal, step_reply, step_refusal, step_armed, IsFirstPoll, drop_reply}
use Rattle.aio_react.specs.Meeting.{Meets}
use Rattle.aio_react.specs.Numbers.{value_of}
use Rattle.aio_react.specs.Parts.{MeetsPart}
use Rattle.aio_react.specs.Polls.{poll_reply, poll_wakes, poll_armed}
use Rattle.aio_react.specs.Replies.{empty_hand_refusal, wait_phase, wait_failure, wait_given, wait_reply}
use Rattle.aio_source.specs.InHand.{arm_told}
use Rattle.aio_react.specs.Rounds.{HasRisen}
use Rattle.aio_react.specs.Sections.{IsRefusedBy, begin_refusal, core_begun, begin_reply, handle_refusal, handle_reply, handle_fault, finish_reply, finish_wakes}
use Rattle.aio_react.specs.Sources.{free_key, AnswersAdd, after_add, add_told, add_failure, add_reply, AnswersDel, after_del, del_told, del_failure, del_reply}

-- an answer of the core crossed as this one, and it was promised so much of that answer
pub record Crossed {A B : Type 0} (crosses : A → B) (promises : A → Type 0) (answer : B) : Type 0 where
  pub told : A
  pub answer_is : answer ≡ crosses told
  pub promised : promises told

-- ## What several calls promise

-- the poller in memory and the core beside it
abbrev pub State : Type 0
State = Script × CoreValue

abbrev pub tells : Script → Option Interests
tells p = Some (interests_of p)

-- the core did a step of the machine at a moment, where one is needed, with a limit for its waits
abbrev pub Does : Step → Option ℕ → Answer → List Waker → Option ℕ → State → State → Type 0
Does s now answer wakes limit old new = Meets (PollerStep ScriptArms ScriptWaits) tells s now answer wakes limit old new

-- the same of a part of a whole round
abbrev pub DoesPart : (World → List PollerAnswer → Outcome) → Option ℕ → Answer → List Waker → Option ℕ → State → State → Type 0
DoesPart part now answer wakes limit old new = MeetsPart (PollerStep ScriptArms ScriptWaits) tells part now answer wakes limit old new

-- of its poller it asked what the source's part says, and nothing else
abbrev pub Asks : Option Prepared → Result (Unit {0}) ArmFault → State → State → Type 0
Asks part armed old new = UsesPoller ScriptArms tells (λ p. p.waits ∷ []) (λ p. p.faults) (λ p. false) part armed old.0 new.0

-- it failed only where the poller's count of faults rose
abbrev pub Faults : State → State → Type 0 → Type 0
Faults old new failed = TellsFaults (λ p. p.faults) (λ p. false) old.0 new.0 failed

-- the poller's counts before and after
abbrev pub counts : State → State → CountFault
counts old new = record { before = old.0.faults; after = new.0.faults }

abbrev pub counts_for : Key → State → State → ArmFault
counts_for key old new = record { key = key; before = old.0.faults; after = new.0.faults }

-- ## What a handle holds beside its core

-- of what the handle holds the core alone may be another one
abbrev pub ChangesCoreAlone : Held → Held → Type 0
ChangesCoreAlone old new = new ≡ record old { core = new.core }

abbrev pub has_wakers : List Waker → Bool
has_wakers [] = false
has_wakers (waker ∷ wakers) = true

-- whom the last finish has to wake, where they were not all read since
abbrev pub unread_wakers : Held → List Waker
unread_wakers held = if held.unread then held.core.1.round.taken else []

-- whether some of them are unread still, after a reading into so many places
abbrev pub unread_behind : Held → ℕ → Bool
unread_behind held places = held.unread && ltb places (length held.core.1.round.taken)

-- ## Sources

pub record AddPromises (old : State) (told : Result Key CoreRefusal) (new : State) : Type 0 where
  pub meets : Does step.Add None (add_reply told) [] None old new
  pub answer : AnswersAdd old.1.sources told
  pub after : new.1 ≡ after_add old.1 told
  pub refused : told ≡ Err refusal.Full → new ≡ old
  pub asked : IfSome (add_told told) (λ answered. ScriptArms old.0 (AddOf (record { 0 = free_key old.1.sources })) answered new.0)
  pub faults : Faults old new (IsSome (add_failure told))
  pub fault : IfSome (add_failure told) (λ counted. counted ≡ counts old new)

pub record DelPromises (old : State) (key : Key) (told : Result (Unit {0}) CoreRefusal) (new : State) : Type 0 where
  pub meets : Does (step.Del key) None (del_reply told) [] None old new
  pub answer : AnswersDel old.1.sources old.1.listeners key.0 told
  pub after : new.1 ≡ after_del old.1 key.0 told
  pub no_source : told ≡ Err refusal.NoSource → new ≡ old
  pub in_use : told ≡ Err refusal.InUse → new ≡ old
  pub asked : IfSome (del_told told) (λ answered. ScriptArms old.0 (RemoveOf key) answered new.0)
  pub faults : Faults old new (IsSome (del_failure told))
  pub fault : IfSome (del_failure told) (λ counted. counted ≡ counts old new)

-- ## Tasks

pub record PollPromises (old : State) (key : Key) (dir : Dir) (waker : Waker) (told : Result Polled CoreRefusal) (new : State) : Type 0 where
  pub meets : Does (step.Poll key dir waker) None (poll_reply told) (poll_wakes told) None old new
  pub live : is_ok told ≡ is_some (entry_at old.1.sources key.0)
  pub refused : IfErr told (λ refused. (refused ≡ refusal.NoSource) × (new ≡ old))
  pub round : new.1.round ≡ old.1.round
  pub asked : Asks (poll_part old.1 key.0 dir waker) (poll_armed told) old new
  pub faults : Faults old new (IsErr (poll_armed told))
  pub fault : IfErr (poll_armed told) (λ counted. counted ≡ counts_for key old new)

pub record ListenPromises (old : State) (key : Key) (dir : Dir) (told : Result ℕ CoreRefusal) (new : State) : Type 0 where
  pub meets : IfSome (listen_reply told) (λ reply. Does (step.New key dir) None reply [] None old new)
  pub cause : IsRefusedBy (listen_refusal old.1 key.0) told
  pub refused : OnErr told (new ≡ old)
  pub round : new.1.round ≡ old.1.round
  pub poller : new.0 ≡ old.0

pub record StepPromises (old : State) (listener : ℕ) (waker : Waker) (told : Result (Poll (Result (Unit {0}) ArmFault)) CoreRefusal) (new : State) : Type 0 where
  pub meets : IfSome (step_reply told) (λ reply. Does (step.StepEar listener waker) None reply [] None old new)
  pub cause : IsRefusedBy (step_refusal old.1 listener) told
  pub memory : told ≡ Err refusal.OutOfMemory → IsFirstPoll old.1.listeners listener
  pub refused : OnErr told (new ≡ old)
  pub round : new.1.round ≡ old.1.round
  pub asked : Asks (step_part old.1 new.1 listener waker) (step_armed told) old new
  pub faults : Faults old new (IsErr (step_armed told))
  pub fault : IfErr (step_armed told) (λ counted. IfSome (value_of old.1.listeners listener) (λ heard. counted ≡ counts_for heard.key old new))

pub record UnlistenPromises (old : State) (listener : ℕ) (told : Result (Unit {0}) CoreRefusal) (new : State) : Type 0 where
  pub meets : Does (step.DropEar listener) None (drop_reply told) [] None old new
  pub known : is_ok told ≡ is_some (value_of old.1.listeners listener)
  pub refused : IfErr told (λ refused. (refused ≡ refusal.NoListener) × (new ≡ old))
  pub round : new.1.round ≡ old.1.round
  pub poller : new.0 ≡ old.0

-- ## A round

pub record BeginPromises (old : State) (now : ℕ) (given : Option ℕ) (told : Result (ℕ × Option ℕ) CoreRefusal) (new : State) : Type 0 where
  pub meets : IfSome (begin_reply told) (λ reply. Does (step.Begin given) (Some now) reply [] None old new)
  pub cause : IsRefusedBy (begin_refusal old.1) told
  pub refused : OnErr told (new ≡ old)
  pub poller : new.0 ≡ old.0
  pub begun : OnOk told (new.1 ≡ core_begun old.1 now given)
  pub number : IfOk told (λ begun. begun.0 ≡ old.1.ticker + 1)

pub record WaitPromises (old : State) (told : Result Waited CoreRefusal) (new : State) : Type 0 where
  pub meets : Does step.Wait None (wait_reply told) [] old.1.round.limit old new
  pub phase : wait_phase told ≡ empty_hand_refusal old.1.round
  pub part : DoesPart wait_round None (wait_reply told) [] old.1.round.limit old new
  pub refused : IsSome (wait_phase told) → new ≡ old
  pub given : wait_phase told ≡ None → length new.1.round.hand ≡ wait_given told
  pub bound : wait_given told ≤ 1024
  pub runs : new.1.round.running ≡ old.1.round.running
  pub book : new.1.book ≡ old.1.book
  pub kept : new.1.round.fault ≡ option_or old.1.round.fault (option_map round.Wait (wait_failure told))
  pub faults : Faults old new (IsSome (wait_failure told))
  pub fault : IfSome (wait_failure told) (λ counted. counted ≡ counts old new)

pub record HandlePromises (old : State) (told : Result Handled CoreRefusal) (new : State) : Type 0 where
  pub meets : IfSome (handle_reply told) (λ reply. Does step.Handle None reply [] None old new)
  pub part : (limit : Option ℕ) → IfSome (handle_reply told) (λ reply. DoesPart handle_round None reply [] limit old new)
  pub cause : IsRefusedBy (handle_refusal old.1.round) told
  pub refused : OnErr told (new ≡ old)
  pub first : IfOk told (λ handled. option_map (λ (event : Event). event.key) (slice_get old.1.round.hand 0) ≡ Some handled.key)
  pub hand : OnOk told (new.1.round.hand ≡ drop 1 old.1.round.hand)
  pub runs : new.1.round.running ≡ old.1.round.running
  pub book : new.1.book ≡ old.1.book
  pub kept : new.1.round.fault ≡ option_or old.1.round.fault (option_map round.Arm (handle_fault told))
  pub asked : IfOk told (λ handled. Asks (handle_part old.1) (arm_told handled.fault) old new)
  pub faults : Faults old new (IsSome (handle_fault told))
  pub fault : IfOk told (λ handled. IfSome handled.fault (λ counted. counted ≡ counts_for handled.key old new))

pub record FinishPromises (old : State) (now : ℕ) (told : Result (Option RoundFault) CoreRefusal) (new : State) : Type 0 where
  pub meets : IfSome (finish_reply told) (λ reply. Does step.Finish (Some now) reply (finish_wakes told new.1.round) None old new)
  pub part : (limit : Option ℕ) → IfSome (finish_reply told) (λ reply. DoesPart finish_round (Some now) reply (finish_wakes told new.1.round) limit old new)
  pub cause : IsRefusedBy (empty_hand_refusal old.1.round) told
  pub refused : OnErr told (new ≡ old)
  pub wanting : OnErr told (empty_hand_refusal old.1.round ≡ None → due_wakers now old.1.book ≢ [])
  pub poller : new.0 ≡ old.0
  pub idle : OnOk told (new.1.round.running ≡ false)
  pub fault : IfOk told (λ first. first ≡ old.1.round.fault)
  pub rose : IfOk told (λ first. IfSome first HasRisen)

-- a begin, at a moment that does not fall: what the core's own promises, and the moment is kept
pub record Begins (old : Held) (now : ℕ) (given : Option ℕ) (told : Result (ℕ × Option ℕ) CoreRefusal) (new : Held) : Type 0 where
  pub core : BeginPromises old.core (moment_from old.clock now) given told new.core
  pub clock : OnOk told (new.clock ≡ moment_from old.clock now)
  pub unread : new.unread ≡ old.unread
  pub refused : OnErr told (new ≡ old)

-- a finish so; its wakers, where it has any, are unread
pub record Finishes (old : Held) (now : ℕ) (told : Result (Option RoundFault) CoreRefusal) (new : Held) : Type 0 where
  pub core : FinishPromises old.core (moment_from old.clock now) told new.core
  pub clock : OnOk told (new.clock ≡ moment_from old.clock now)
  pub unread : OnOk told (new.unread ≡ has_wakers new.core.1.round.taken)
  pub refused : OnErr told (new ≡ old)

-- ## Timers and what the poller in memory is told

-- a core has nobody to notify
pub record InsertPromises (old : State) (at : ℕ) (waker : Waker) (told : Result TimerId InsertRefusal) (new : State) : Type 0 where
  pub inserted : RegistersAs core_rules at waker old (registered_id told) new
  pub quiet : insert_fault told ≡ None

pub record GivePromises (old : State) (event : Event) (told : Result (Unit {0}) OutOfMemory) (new : State) : Type 0 where
  pub core : new.1 ≡ old.1
  pub given : OnOk told (new.0 ≡ record old.0 { noted = old.0.noted ++ event ∷ [] })
  pub refused : OnErr told (new ≡ old)

-- ## Wakers

-- the numbers of the first wakers, as far as there are places, and what stood in the places behind
abbrev pub written : List Waker → List ℕ → List ℕ
written wakers slots = take (length slots) (map (λ (waker : Waker). waker.0) wakers) ++ drop (length wakers) slots
