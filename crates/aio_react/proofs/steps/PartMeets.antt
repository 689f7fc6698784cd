-- What a part of a step says: of a part that is a step of its own, and of one that is refused.
use Rattle.std.proofs.Common.{◌≡◌, ℕ, ◌+◌, List, [], ◌++◌, map, Option, None, Some, IfSome, refl, sym, subst}
use Rattle.aio_base.specs.declared.names.Waker.{Waker}
use Rattle.aio_base.specs.declared.steps.Answer.{Answer}
use Rattle.aio_base.specs.declared.steps.Step.{Step}
use Rattle.aio_base.specs.Devices.{PollerMove, Interests}
use Rattle.aio_base.specs.Machine.{Outcome, quiet, case_of}
use Rattle.aio_base.specs.Moves.{answer_of}
use Rattle.aio_base.specs.World.{PollerAnswer, World}
use Rattle.aio_react.specs.Cores.{CoreValue}
use Rattle.aio_react.specs.Meeting.{Meets}
use Rattle.aio_react.specs.Parts.{ComesWithin, MeetsPart}
use Rattle.aio_react.specs.Standing.{StandsWithin}
use Rattle.aio_react.proofs.sources.ArmMeets.{step_comes}
use Rattle.aio_react.proofs.steps.Later.{stands_inside}

pub part_steps : {P : Type 0} (poller_step : P → PollerMove → P → Type 0) (tells : P → Option Interests) (s : Step) (now : Option ℕ) (answer : Answer) (wakes : List Waker) (limit : Option ℕ)
    (old new : P × CoreValue) → MeetsPart poller_step tells (λ w answers. case_of w s answers) now answer wakes limit old new → Meets poller_step tells s now answer wakes limit old new
part_steps {P = P} poller_step tells s now answer wakes limit old new part = record {
  moves = part.moves;
  run = part.run;
  waits = part.waits;
  comes = λ w later stands at.
      let c = part.comes (w.pos + 1) w later (stands_inside (tells old.0) old.1 w stands) at in
      let answers = map answer_of part.moves ++ later in
      step_comes w s answers answer wakes part.moves later (tells new.0) new.1
      (record {
        answer_is = c.answer_is;
        wakes_are = c.wakes_are;
        calls_are = c.calls_are;
        left_are = c.left_are;
        stands = subst (λ (pos : ℕ). StandsWithin (pos + 1) (tells new.0) new.1 (case_of w s answers).world) (sym c.position_is) c.stands;
      });
}

-- where there is a reply
pub replies_step : {P : Type 0} (poller_step : P → PollerMove → P → Type 0) (tells : P → Option Interests) (s : Step) (now : Option ℕ) (wakes : List Waker) (limit : Option ℕ)
    (old new : P × CoreValue) (reply : Option Answer) → IfSome reply (λ answer. MeetsPart poller_step tells (λ w answers. case_of w s answers) now answer wakes limit old new)
    → IfSome reply (λ answer. Meets poller_step tells s now answer wakes limit old new)
replies_step {P = P} poller_step tells s now wakes limit old new None part = tt
replies_step {P = P} poller_step tells s now wakes limit old new (Some answer) part = part_steps poller_step tells s now answer wakes limit old new part

-- nothing changes
pub quiet_part : {P : Type 0} (poller_step : P → PollerMove → P → Type 0) (tells : P → Option Interests) (part : World → List PollerAnswer → Outcome) (now : Option ℕ) (answer : Answer)
    (limit : Option ℕ) (poller : P) (core : CoreValue)
    → ((bound : ℕ) (w : World) (later : List PollerAnswer) → StandsWithin bound (tells poller) core w → part w later ≡ quiet answer w later)
    → MeetsPart poller_step tells part now answer [] limit (poller, core) (poller, core)
quiet_part {P = P} poller_step tells part now answer limit poller core is = record {
  moves = [];
  run = refl;
  waits = tt;
  comes = λ bound w later stands at.
      subst (λ (o : Outcome). ComesWithin bound w o answer [] [] later (tells poller) core) (sym (is bound w later stands))
      (record { answer_is = refl; wakes_are = refl; calls_are = refl; left_are = refl; moment_is = refl; position_is = refl; stands = stands });
}
