-- A listener that is dropped, and a timer that is ended, is gone.
use Rattle.std.proofs.Common.{◌≡◌, ℕ, true, false, not, ◌==◌, List, find, Option, None, Some, refl, ap, ◌∙◌, sym, inl, inr}
use Rattle.std.specs.List.{Contains, filter}
use Rattle.std.proofs.lemmas.Bool.{eq-eqb, eqb-true}
use Rattle.aio_base.specs.declared.steps.Step.{Step}
use Rattle.aio_base.specs.declared.steps.Step.TheVariants as step
use Rattle.aio_base.specs.declared.steps.Answer.TheVariants as answer
use Rattle.aio_base.specs.World.{PollerAnswer, ListenerEntry, TimerEntry, World}
use Rattle.aio_base.specs.Machine.{is_listener, drop_listener, is_timer, end_timer, unregistered, case_of, step_result}
use Rattle.aio_laws.specs.Own.{HasListener, HasTimer, GivesUp, OwnGoes}
use Rattle.aio_base.proofs.Membership.{filtered_passes, found_is_in, passing_is_found}

-- a list without those of a number has none of it
filtered_has_none : {X : Type 0} (number_of : X → ℕ) (number : ℕ) (xs : List X) (x : X)
    → Contains (filter (λ (y : X). not (number_of y == number)) xs) x → number_of x ≡ number → ⊥
filtered_has_none number_of number xs x among is =
    let here : (number_of x == number) ≡ true = eq-eqb (number_of x) number is in
    let passes : not (number_of x == number) ≡ true = filtered_passes (λ y. not (number_of y == number)) xs x among in
    absurd (let clash : false ≡ true = sym (ap not here) ∙ passes in cc)

-- a search that finds nothing leaves nothing to be found
unfound_has_none : {X : Type 0} (number_of : X → ℕ) (number : ℕ) (xs : List X) (x : X)
    → find (λ (y : X). number_of y == number) xs ≡ None → Contains xs x → number_of x ≡ number → ⊥
unfound_has_none number_of number xs x none among is =
    let found = passing_is_found (λ y. number_of y == number) xs x among (eq-eqb (number_of x) number is) in
    absurd (let clash = sym none ∙ found.1 in cc)

drop_goes : (w : World) (number : ℕ) (found : Option ListenerEntry) (answers : List PollerAnswer) → find (is_listener number) w.listeners ≡ found
    → GivesUp (HasListener w.listeners number) (HasListener (drop_listener w number found answers).world.listeners number) answer.Dropped answer.NoListener
    (drop_listener w number found answers).answer
drop_goes w number None answers none = record {
  tells = inr refl;
  was = λ told. absurd cc;
  gone = λ told. absurd cc;
  never = λ told had. unfound_has_none (λ (l : ListenerEntry). l.number) number w.listeners had.0 none had.1 had.2;
}
drop_goes w number (Some entry) answers there = record {
  tells = inl refl;
  was = λ told. let here = found_is_in (is_listener number) w.listeners entry there in (entry, here.0, eqb-true entry.number number here.1);
  gone = λ told has. filtered_has_none (λ (l : ListenerEntry). l.number) number w.listeners has.0 has.1 has.2;
  never = λ told. absurd cc;
}

end_goes : (w : World) (number : ℕ) (found : Option TimerEntry) (answers : List PollerAnswer) → find (is_timer number) w.timers ≡ found
    → GivesUp (HasTimer w.timers number) (HasTimer (end_timer w found answers).world.timers number) answer.Ended answer.NoTimer
    (end_timer w found answers).answer
end_goes w number None answers none = record {
  tells = inr refl;
  was = λ told. absurd cc;
  gone = λ told. absurd cc;
  never = λ told had. unfound_has_none (λ (t : TimerEntry). t.number) number w.timers had.0 none had.1 had.2;
}
end_goes w number (Some entry) answers there =
    let here = found_is_in (is_timer number) w.timers entry there in
    let own = eqb-true entry.number number here.1 in
    record {
      tells = inl refl;
      was = λ told. (entry, here.0, own);
      gone = λ told has. filtered_has_none (λ (t : TimerEntry). t.number) entry.number (unregistered w entry.id).timers has.0 has.1 (has.2 ∙ sym own);
      never = λ told. absurd cc;
    }

own_goes : (w : World) (s : Step) (answers : List PollerAnswer) → OwnGoes w s (case_of w s answers).answer (case_of w s answers).world
own_goes w (step.DropEar number) answers = drop_goes w number (find (is_listener number) w.listeners) answers refl
own_goes w (step.End number) answers = end_goes w number (find (is_timer number) w.timers) answers refl
own_goes w _ answers = tt

pub what_is_given_up_goes : (w : World) (s : Step) (answers : List PollerAnswer) → OwnGoes w s (step_result w s answers).answer (step_result w s answers).world
unfolding step_result
what_is_given_up_goes w (step.DropEar number) answers = own_goes w (step.DropEar number) answers
what_is_given_up_goes w (step.End number) answers = own_goes w (step.End number) answers
what_is_given_up_goes w _ answers = tt
