-- A round that was stopped and goes on in sections: what came of it in the end is what comes of the same round as one step.
use Rattle.std.specs.Prelude.{◌≡◌, ℕ, List, [], ◌∷◌, ◌++◌, length, map, Option, None, Some, ⊤}
use Rattle.std.specs.List.{All}
use Rattle.aio_base.specs.declared.outcomes.EndWord.{EndWord}
use Rattle.aio_base.specs.declared.outcomes.Which.{Which}
use Rattle.aio_base.specs.declared.steps.Answer.{Answer}
use Rattle.aio_base.specs.declared.steps.Answer.TheVariants as answer
use Rattle.aio_base.specs.declared.steps.Step.TheVariants as step
use Rattle.aio_base.specs.World.{PollerAnswer, BrokenSource, World}
use Rattle.aio_base.specs.Machine.{Outcome, hand_of, react}
use Rattle.aio_base.specs.Runs.{PolledStep, outcome_of, outcomes_of, world_of}

-- ## Sections

-- the begin of a round with a given limit and its wait, with what the poller answered to it
abbrev pub begin_and_wait : Option ℕ → PollerAnswer → List PolledStep
begin_and_wait given told = record { step = step.Begin given; answers = [] } ∷ record { step = step.Wait; answers = told ∷ [] } ∷ []

-- the end of a round, which asks nothing of the poller
abbrev pub finish : PolledStep
finish = record { step = step.Finish; answers = [] }

-- the handling of the next event in hand
abbrev pub IsHandling : PolledStep → Type 0
IsHandling s = s.step ≡ step.Handle

-- each step of a run has an answer of the poller for each of its calls, and no other
abbrev pub AnswersEachCall : World → List PolledStep → Type 0
AnswersEachCall w [] = ⊤
AnswersEachCall w (s ∷ run) = (length s.answers ≡ length (outcome_of w s).calls) × AnswersEachCall (outcome_of w s).world run

-- what the poller answered in a run, in order
abbrev pub answers_in : List PolledStep → List PollerAnswer
answers_in [] = []
answers_in (s ∷ run) = s.answers ++ answers_in run

-- the calls of the poller that were made, in order
abbrev pub calls_in : List Outcome → List Which
calls_in [] = []
calls_in (o ∷ outcomes) = o.calls ++ calls_in outcomes

-- ## The same end

-- Two worlds are the same but for positions in the past: how many steps were run, and at which of them the last arm of a source failed.
pub record IsSameButForPositions (w v : World) : Type 0 where
  pub all : v ≡ record w { pos = v.pos; broken = v.broken }
  pub broken : map (λ (b : BrokenSource). b.serial) v.broken ≡ map (λ (b : BrokenSource). b.serial) w.broken

-- the first fault of a round that has ended
abbrev pub end_told : Answer → Option EndWord
end_told (answer.Round number events end) = Some end
end_told (answer.End end) = Some end
end_told _ = None

-- The sections of a round before its end, and its end, came to what the whole round comes to as one step. Nobody was woken before the end, and then
-- all whom the whole round wakes, in this order. The same fault is told, the same calls of the poller were made, and the world is the same but for
-- positions in the past: registrations, handled events, waiters, listeners and armed interests among all else.
pub record EndsAsWhole (whole : Outcome) (sections : List Outcome) (ended : Outcome) : Type 0 where
  pub silent : All (λ (o : Outcome). o.wakes ≡ []) sections
  pub wakes : ended.wakes ≡ whole.wakes
  pub fault : end_told ended.answer ≡ end_told whole.answer
  pub calls : calls_in sections ≡ whole.calls
  pub none : ended.calls ≡ []
  pub world : IsSameButForPositions whole.world ended.world

-- A round with a given limit was begun and waited, and handled some events; it was stopped, and its other events were handled then, until none was
-- left in hand. Each of these was a step of its own, which had just the answers of its own calls.
pub record GoesOn (w : World) (given : Option ℕ) (told : PollerAnswer) (done rest : List PolledStep) : Type 0 where
  pub idle : w.round ≡ None
  pub done_handle : All IsHandling done
  pub rest_handle : All IsHandling rest
  pub before : AnswersEachCall w (begin_and_wait given told ++ done)
  pub after : AnswersEachCall (world_of w (begin_and_wait given told ++ done)) rest
  pub empty : hand_of (world_of (world_of w (begin_and_wait given told ++ done)) rest).round ≡ []

-- it ends as the whole round does, for which the poller has the same answers
abbrev pub GoesOnAsWhole : World → Option ℕ → PollerAnswer → List PolledStep → List PolledStep → Type 0
GoesOnAsWhole w given told done rest =
    let stopped = world_of w (begin_and_wait given told ++ done) in
    EndsAsWhole (react w given (told ∷ answers_in done ++ answers_in rest))
    (outcomes_of w (begin_and_wait given told ++ done) ++ outcomes_of stopped rest) (outcome_of (world_of stopped rest) finish)
