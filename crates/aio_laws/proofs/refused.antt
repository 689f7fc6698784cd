-- Steps, histories and worlds of wrong machines, each refused by a law.
mod FalseAnswers
mod FalseArms
mod FalseDraws
mod FalseEnds
mod FalseCalls
mod FalseInterests
mod FalseRefusals
mod FalseHistories
mod FalseKinds
mod FalseNotes
mod FalseRounds
mod FalseSteps
mod FalseTimers
mod FalseWakes
mod RefusedWorlds
