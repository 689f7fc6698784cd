-- A step that says no more than its answer, and what stands at a later position.
use Rattle.std.proofs.Common.{◌≡◌, ℕ, ◌+◌, ◌<◌, ◌≤◌, List, [], Option, None, Some, IfSome, refl, sym, subst, arith}
use Rattle.std.proofs.lemmas.List.Elements.{All-weaker}
use Rattle.aio_base.specs.declared.names.Dir.{Dir}
use Rattle.aio_base.specs.declared.steps.Answer.{Answer}
use Rattle.aio_base.specs.declared.steps.Step.{Step}
use Rattle.aio_base.specs.Devices.{Interests}
use Rattle.aio_base.specs.Machine.{Outcome, quiet, moved_on, case_of, step_result}
use Rattle.aio_base.specs.World.{PollerAnswer, World, ListenerEntry, Mark}
use Rattle.aio_source.specs.Rules.{direction_of}
use Rattle.aio_react.specs.declared.entries.SourceEntry.{SourceEntry}
use Rattle.aio_react.specs.Cores.{CoreValue, entry_at}
use Rattle.aio_react.specs.Meeting.{Comes}
use Rattle.aio_react.specs.Standing.{AreFewTickets, StandsWithin, Stands}
use Rattle.aio_facts.specs.Sound.{IsBefore, PastSound}

tickets_at : (place : Option SourceEntry) (bound later : ℕ) (dir : Dir) → bound ≤ later
    → IfSome place (λ (e : SourceEntry). (direction_of e.source.directions dir).listeners.drawn ≤ bound)
    → IfSome place (λ (e : SourceEntry). (direction_of e.source.directions dir).listeners.drawn ≤ later)
tickets_at None bound later dir less few = tt
tickets_at (Some e) bound later dir less few = omega arith

pub tickets_later : (sources : List (Option SourceEntry)) (bound later : ℕ) → bound ≤ later → AreFewTickets bound sources → AreFewTickets later sources
tickets_later sources bound later less few key dir = tickets_at (entry_at sources key) bound later dir less (few key dir)

before_later : (position : Option ℕ) (bound later : ℕ) → bound ≤ later → IsBefore bound position → IsBefore later position
before_later None bound later less before = tt
before_later (Some p) bound later less before = omega arith

pub past_later : (bound later : ℕ) (w : World) → bound ≤ later → PastSound bound w.rounds w.begun w.marks w.listeners w.handled
    → PastSound later w.rounds w.begun w.marks w.listeners w.handled
past_later bound later w less past = record {
  counted = past.counted;
  rounds_before = All-weaker (λ p. p < bound) (λ p. p < later) (λ p h. omega arith) w.begun past.rounds_before;
  marks_before = All-weaker (λ (m : Mark). m.position < bound) (λ (m : Mark). m.position < later) (λ m h. omega arith) w.marks past.marks_before;
  polls_before = All-weaker (λ (l : ListenerEntry). IsBefore bound l.position) (λ (l : ListenerEntry). IsBefore later l.position) (λ l h. before_later l.position bound later less h) w.listeners past.polls_before;
  of_rounds = past.of_rounds;
}

-- inside the step at a position, whose own marks are allowed
pub stands_inside : (told : Option Interests) (core : CoreValue) (w : World) → Stands told core w → StandsWithin (w.pos + 1) told core w
stands_inside told core w stands = record {
  sources = stands.sources;
  count = stands.count;
  tickets = tickets_later core.sources w.pos (w.pos + 1) (omega arith) stands.tickets;
  listeners = stands.listeners;
  ticker_is = stands.ticker_is;
  book = stands.book;
  tells = stands.tells;
  asked = stands.asked;
  round = stands.round;
  sound = record {
    live = stands.sound.live;
    unused = stands.sound.unused;
    listeners = stands.sound.listeners;
    past = past_later w.pos (w.pos + 1) w (omega arith) stands.sound.past;
    running = stands.sound.running;
    timers = stands.sound.timers;
  };
}

-- and once the step is over
pub stands_moved : (told : Option Interests) (core : CoreValue) (w : World) → StandsWithin (w.pos + 1) told core w → Stands told core (record w { pos = w.pos + 1 })
stands_moved told core w stands = record {
  sources = stands.sources;
  count = stands.count;
  tickets = stands.tickets;
  listeners = stands.listeners;
  ticker_is = stands.ticker_is;
  book = stands.book;
  tells = stands.tells;
  asked = stands.asked;
  round = stands.round;
  sound = record {
    live = stands.sound.live;
    unused = stands.sound.unused;
    listeners = stands.sound.listeners;
    past = stands.sound.past;
    running = stands.sound.running;
    timers = stands.sound.timers;
  };
}

-- the world a position later
pub stands_later : (told : Option Interests) (core : CoreValue) (w : World) → Stands told core w → Stands told core (record w { pos = w.pos + 1 })
stands_later told core w stands = stands_moved told core w (stands_inside told core w stands)

-- a step that is refused
pub quiet_comes : (told : Option Interests) (core : CoreValue) (w : World) (s : Step) (answer : Answer) (later : List PollerAnswer)
    → case_of w s later ≡ quiet answer w later → Stands told core w → Comes (step_result w s later) answer [] [] later told core
unfolding step_result
quiet_comes told core w s answer later is stands =
    subst (λ (o : Outcome). Comes (moved_on o) answer [] [] later told core) (sym is)
    (record { answer_is = refl; wakes_are = refl; calls_are = refl; left_are = refl; stands = stands_later told core w stands })
