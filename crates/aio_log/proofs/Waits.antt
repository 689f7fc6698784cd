-- What the waits of a run give: the events that the poller gave, and none where it answered anything else.
use Rattle.std.proofs.Common.{◌≡◌, ℕ, Bool, true, false, cond, List, [], ◌∷◌, length, Option, None, Some, refl, ap, ◌∙◌}
use Rattle.std.specs.Prelude.{bytes_eq, codes}
use Rattle.std.specs.Option.{option_map_or}
use Rattle.aio_base.specs.declared.names.Event.{Event}
use Rattle.aio_base.specs.declared.steps.Step.{Step}
use Rattle.aio_base.specs.declared.steps.Step.TheVariants as step
use Rattle.aio_base.specs.declared.steps.Answer.TheVariants as answer
use Rattle.aio_base.specs.Machine.{Outcome, hand_of, moved_on, quiet, step_result, wait_answered, wait_in}
use Rattle.aio_base.specs.World.{PollerAnswer, Succeeds, Gives, IsInterrupted, Fails, RoundState, World, is_empty_list}
use Rattle.aio_log.specs.Entries.{events_given, where_given}
use Rattle.aio_log.specs.Places.{has_arm_fault, is_fault, may_wait, poller_told}

-- a wait that was given these events
pub record GaveThese (o : Outcome) (given : List Event) : Type 0 where
  pub answer_is : o.answer ≡ answer.Given (length given)
  pub wakes_are : o.wakes ≡ []
  pub hand_is : hand_of o.world.round ≡ given

gave_in : (w : World) (round : Option RoundState) (given : List Event)
    → option_map_or (λ (round : RoundState). is_empty_list round.in_hand) round false ≡ true
    → GaveThese (moved_on (wait_in w round (Gives given ∷ []))) given
gave_in w None given may = absurd cc
gave_in w (Some round) given may = record { answer_is = rw may refl; wakes_are = rw may refl; hand_is = rw may refl }

pub gave_these : (w : World) (given : List Event) → may_wait w ≡ true → GaveThese (step_result w step.Wait (Gives given ∷ [])) given
unfolding step_result
gave_these w given may = gave_in w w.round given may

pub given_are : (o : Outcome) (given : List Event) → GaveThese o given → events_given step.Wait o ≡ given
given_are o given gave = ap (λ told. where_given told (hand_of o.world.round)) gave.answer_is ∙ gave.hand_is

-- an answer of the poller that gives no events
abbrev pub IsPlain : PollerAnswer → Type 0
IsPlain (Gives events) = ⊥
IsPlain _ = Unit {0}

plain_or : (t : Bool) (told : PollerAnswer) → IsPlain told → IsPlain (cond t Fails told)
plain_or true told plain = tt
plain_or false told plain = plain

plain_interrupted : (t : Bool) → IsPlain (cond t IsInterrupted Succeeds)
plain_interrupted true = tt
plain_interrupted false = tt

-- no line alone tells of events
pub told_plain : (s : Step) (line : List ℕ) → IsPlain (poller_told s line)
told_plain step.Wait line = plain_or (is_fault line) _ (plain_interrupted (bytes_eq line (codes "interrupted")))
told_plain step.Handle line = plain_or (has_arm_fault line) Succeeds tt
told_plain _ line = plain_or (is_fault line) Succeeds tt

pub is_empty : {X : Type 0} (xs : List X) → is_empty_list xs ≡ true → xs ≡ []
is_empty [] e = refl
is_empty (x ∷ xs) e = absurd cc

nothing_answered : (w : World) (round : RoundState) (told : PollerAnswer) → IsPlain told → round.in_hand ≡ []
    → where_given (wait_answered w round told []).answer (hand_of (wait_answered w round told []).world.round) ≡ []
nothing_answered w round Succeeds plain none = none
nothing_answered w round Fails plain none = refl
nothing_answered w round IsInterrupted plain none = refl
nothing_answered w round (Gives events) plain none = absurd plain

nothing_where : (w : World) (round : RoundState) (told : PollerAnswer) (empty : Bool) → IsPlain told → is_empty_list round.in_hand ≡ empty
    → (let o = cond empty (wait_answered w round told []) (quiet (answer.Events (length round.in_hand)) w (told ∷ [])) in
    where_given o.answer (hand_of o.world.round) ≡ [])
nothing_where w round told true plain e = nothing_answered w round told plain (is_empty round.in_hand e)
nothing_where w round told false plain e = refl

nothing_in : (w : World) (round : Option RoundState) (told : PollerAnswer) → IsPlain told
    → where_given (wait_in w round (told ∷ [])).answer (hand_of (wait_in w round (told ∷ [])).world.round) ≡ []
nothing_in w None told plain = refl
nothing_in w (Some round) told plain = nothing_where w round told (is_empty_list round.in_hand) plain refl

-- a step to which the poller gave no events has none
pub nothing_given : (w : World) (s : Step) (told : PollerAnswer) → IsPlain told → events_given s (step_result w s (told ∷ [])) ≡ []
unfolding step_result
nothing_given w step.Wait told plain = nothing_in w w.round told plain
nothing_given w _ told plain = refl
