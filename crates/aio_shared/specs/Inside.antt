-- A reactor of several threads with the member of one of them, as a host of timers and tasks.
use Rattle.std.specs.Prelude.{◌≡◌, ℕ, Bool, Result}
use Rattle.aio_base.specs.declared.outcomes.CountFault.{CountFault}
use Rattle.aio_base.specs.declared.outcomes.Failed.{Failed}
use Rattle.aio_rules.specs.SharedWords.{after}
use Rattle.aio_rules.specs.WordCalls.{wake_steps}
use Rattle.aio_rules.specs.declared.seats.WordStep.TheVariants as word_step
use Rattle.aio_timers.specs.declared.op.TimerOp.TheVariants as timer_op
use Rattle.aio_words.specs.Calls.{Offers}
use Rattle.aio_words.specs.Seats.{SeatValue}
use Rattle.aio_base.specs.Hosts.{HostRules}
use Rattle.aio_shared.specs.Members.{IsLaterMember, MemberValue, SharedValue}
use Rattle.aio_shared.specs.TimerCalls.{CarriesOut, Inserted, NotCarriedOut}

-- a host: the reactor, and the member of the thread
pub record InsideValue (N : Type 0) : Type 0 where
  pub shared : SharedValue
  pub member : MemberValue N

-- The second state of a host is later than the first, or is the first: the reactor is the same, and the member is later.
pub record IsLaterInside {N : Type 0} (faults : N → ℕ) (is_sure : N → Bool) (old new : InsideValue N) : Type 0 where
  pub shared : new.shared ≡ old.shared
  pub member : IsLaterMember faults is_sure old.member new.member

-- the host with another seat and notifier of its member, and all else as before
abbrev pub with_seat : {N : Type 0} → InsideValue N → SeatValue → N → InsideValue N
with_seat inside seat notifier = record inside { member = record inside.member { pass = seat; notifier = notifier } }

-- what such a host tells of its calls, where its notifier is called by such a relation and has such counts of calls and of faults
abbrev pub inside_rules : {N : Type 0} → (calls faults : N → ℕ) → (N → Result (Unit {0}) Failed → N → Type 0) → HostRules (InsideValue N)
inside_rules calls faults step = record {
  inserted = λ old at waker id new. (told : Result (Unit {0}) CountFault) × Inserted calls step at waker old.member new.member id told;
  removed = λ old at id new. (new ≡ record old { member = record old.member { ops = new.member.ops } })
      × CarriesOut (timer_op.Remove at id) old.member.ops new.member.ops;
  insert_refused = λ old at waker new. NotCarriedOut old.member new.member;
  removal_refused = λ old at id new. NotCarriedOut old.member new.member;
  looked = λ old rounds new. (new.member.pass.view ≡ after (word_step.LoadTicker rounds) old.member.pass.view)
      × (new ≡ with_seat old new.member.pass old.member.notifier);
  woke = λ old waker told new. Offers calls step (wake_steps waker.0 old.shared.words.parkers) old.member.pass.view new.member.pass.view
      old.member.notifier new.member.notifier told × (new ≡ with_seat old new.member.pass new.member.notifier);
  faults = λ inside. faults inside.member.notifier;
  pass = λ inside. inside.member.ops.number;
  drawn = λ inside. inside.member.ids;
}
