-- Steps on which the definition of a history is tried: some that replay, and some that a wrong source would make.
use Rattle.std.specs.Prelude.{ℕ, true, false, List, [], ◌∷◌, ⊤}
use Rattle.aio_base.specs.declared.names.Dir.{Dir}
use Rattle.aio_base.specs.declared.names.Dir.TheVariants.{Read, Write}
use Rattle.aio_base.specs.declared.names.Interest.{Interest}
use Rattle.aio_base.specs.declared.names.TheConstants.Interest.{NONE, READ, READ_WRITE}
use Rattle.aio_base.specs.declared.outcomes.Poll.TheVariants.{Ready, Pending}
use Rattle.aio_history.specs.declared.steps.CellStep.{CellStep}
use Rattle.aio_history.specs.declared.steps.CellStep.TheVariants as step
use Rattle.aio_history.specs.Histories.{Replays}

abbrev reading : Interest
reading = READ

abbrev waits : Dir → ℕ → ℕ → CellStep
waits dir waker ticker = step.Poll dir (record { 0 = waker }) ticker Pending

abbrev goes_on : Dir → ℕ → ℕ → CellStep
goes_on dir waker ticker = step.Poll dir (record { 0 = waker }) ticker (Ready tt)

-- The last poll waits: round 1 is above neither its ticker nor the round that was handled before it.
abbrev pub worked_steps : List CellStep
worked_steps =
    waits Read 1 0 ∷ step.Handle reading 1 1 ∷ goes_on Read 1 1 ∷ waits Read 2 1 ∷ step.Handle reading 1 1 ∷ waits Read 2 1 ∷ []

-- steps, the latest first, of which all but the latest replay
abbrev pub FailsAtLast : List CellStep → Type 0
FailsAtLast [] = ⊥
FailsAtLast (s ∷ past) = (Replays (s ∷ past) → ⊥) × Replays past

abbrev pub EachFails : List (List CellStep) → Type 0
EachFails [] = ⊤
EachFails (past ∷ pasts) = FailsAtLast past × EachFails pasts

abbrev pub wrong_pasts : List (List CellStep)
wrong_pasts =
    -- ready without an event
    (goes_on Read 1 0 ∷ waits Read 1 0 ∷ [])
    -- ready by an event of another direction
    ∷ (goes_on Write 1 0 ∷ step.Handle reading 1 1 ∷ waits Write 2 0 ∷ waits Read 1 0 ∷ [])
    -- ready by a round that had begun before the poll
    ∷ (goes_on Read 1 3 ∷ step.Handle reading 3 1 ∷ waits Read 1 3 ∷ [])
    -- ready by a round that is not above one from before the poll was stored
    ∷ (goes_on Read 1 0 ∷ step.Handle reading 4 1 ∷ waits Read 1 0 ∷ step.Handle reading 4 0 ∷ [])
    -- pending although such a round came
    ∷ (waits Read 1 1 ∷ step.Handle reading 1 1 ∷ waits Read 1 0 ∷ [])
    -- pending as if the waker's second poll were stored anew
    ∷ (waits Read 1 5 ∷ step.Handle reading 3 1 ∷ waits Read 1 5 ∷ waits Read 1 0 ∷ [])
    -- ready as another waker did not move it
    ∷ (goes_on Read 2 5 ∷ step.Handle reading 3 1 ∷ waits Read 2 5 ∷ waits Read 1 0 ∷ [])
    -- ready twice by one event
    ∷ (goes_on Read 1 1 ∷ goes_on Read 1 1 ∷ step.Handle reading 1 1 ∷ waits Read 1 0 ∷ [])
    -- one waker taken twice
    ∷ (step.Handle reading 2 1 ∷ step.Handle reading 1 1 ∷ waits Read 1 0 ∷ [])
    -- directions counted in place of their waiters
    ∷ (step.Handle READ_WRITE 1 2 ∷ waits Read 1 0 ∷ [])
    -- the waiter of a direction taken that the event does not name
    ∷ (step.Handle NONE 1 1 ∷ waits Read 1 0 ∷ [])
    -- a waiter that was replaced taken too
    ∷ (step.Handle reading 1 2 ∷ waits Read 2 0 ∷ waits Read 1 0 ∷ [])
    ∷ []
