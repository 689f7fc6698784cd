mod WordLemmas
mod StepLemmas
mod GivenLemmas
