-- Cover stands after each step, of whatever kind.
use Rattle.std.proofs.Common.{◌≡◌, ℕ, zero, suc, ◌+◌, true, List, [], ◌∷◌, ◌++◌, length, find, Option, None, Some, refl, ap, ◌∙◌, sym, subst, inl, ⊎_elim, arith, length-append}
use Rattle.std.specs.Prelude.{nat_lt}
use Rattle.std.proofs.lemmas.List.{get_or_at}
use Rattle.aio_base.specs.declared.names.Waker.{Waker}
use Rattle.aio_base.specs.declared.steps.Step.{Step}
use Rattle.aio_base.specs.declared.steps.Step.TheVariants as step
use Rattle.aio_base.specs.declared.steps.Answer.{Answer}
use Rattle.aio_base.specs.declared.steps.Answer.TheVariants as answer
use Rattle.aio_base.specs.World.{PollerAnswer, TimerEntry, World, serial_of}
use Rattle.aio_base.specs.Machine.{quiet, is_listener, is_timer, unregistered, tick_timer, set_timer, end_timer, set_clock, case_of, step_result}
use Rattle.aio_base.proofs.TimerCases.{tick_any, set_any}
use Rattle.aio_laws.specs.Covered.{tells_arm_fault, tells_at}
use Rattle.aio_laws.proofs.cover.Standing.{Parts, parts_of, Standing, holds_in}
use Rattle.aio_laws.proofs.cover.CoverSources.{Stands, either, quiet_stands, add_stands, del_stands}
use Rattle.aio_laws.proofs.cover.CoverWaiters.{poll_stands, new_stands, step_stands, drop_stands}
use Rattle.aio_laws.proofs.cover.CoverRounds.{begin_stands, wait_stands}
use Rattle.aio_laws.proofs.cover.CoverReact.{handle_stands, finish_stands, react_stands}

-- ## Timers and the clock

-- a world with the same parts
same_stands : (w v : World) (told : List Answer) (a : Answer) (answers : List PollerAnswer) → parts_of v ≡ parts_of w → Standing (parts_of w) told ⊥
    → Stands told (quiet a v answers)
same_stands w v told a answers same s = quiet_stands v told a answers (subst (λ p. Standing p told ⊥) (sym same) s)

unregistered_parts : (w : World) (id : Option ℕ) → parts_of (unregistered w id) ≡ parts_of w
unregistered_parts w None = refl
unregistered_parts w (Some id) = refl

tick_stands : (w : World) (told : List Answer) (waker : Waker) (entry : Option TimerEntry) (answers : List PollerAnswer)
    → Standing (parts_of w) told ⊥ → Stands told (tick_timer w waker entry answers)
tick_stands w told waker None answers s = quiet_stands w told _ answers s
tick_stands w told waker (Some entry) answers s =
    tick_any (Stands told) w waker entry answers (λ timers registrations ids. same_stands w _ told _ answers refl s)
    (λ deadline timers registrations ids. same_stands w _ told _ answers refl s)

set_stands : (w : World) (told : List Answer) (deadline : ℕ) (period : Option ℕ) (entry : Option TimerEntry) (answers : List PollerAnswer)
    → Standing (parts_of w) told ⊥ → Stands told (set_timer w deadline period entry answers)
set_stands w told deadline period None answers s = quiet_stands w told _ answers s
set_stands w told deadline period (Some entry) answers s =
    set_any (Stands told) w deadline period entry answers (λ timers registrations ids. same_stands w _ told _ answers refl s)

end_stands : (w : World) (told : List Answer) (entry : Option TimerEntry) (answers : List PollerAnswer) → Standing (parts_of w) told ⊥
    → Stands told (end_timer w entry answers)
end_stands w told None answers s = quiet_stands w told _ answers s
end_stands w told (Some entry) answers s = same_stands w _ told _ answers (unregistered_parts w entry.id) s

clock_stands : (w : World) (told : List Answer) (moment : ℕ) (answers : List PollerAnswer) → Standing (parts_of w) told ⊥
    → Stands told (set_clock w moment answers)
clock_stands w told moment answers s =
    either told (nat_lt moment w.now) _ _ (λ back. quiet_stands w told _ answers s) (λ on. quiet_stands (record w { now = moment }) told _ answers s)

-- ## Each case

case_stands : (w : World) (told : List Answer) (s : Step) (answers : List PollerAnswer) → Standing (parts_of w) told ⊥ → Stands told (case_of w s answers)
case_stands w told step.Add answers x = add_stands w told answers x
case_stands w told (step.Del key) answers x = del_stands w told key.0 (serial_of w key.0) answers refl x
case_stands w told (step.Poll key dir waker) answers x = poll_stands w told key.0 dir waker (serial_of w key.0) answers refl x
case_stands w told (step.New key dir) answers x = new_stands w told key.0 dir (serial_of w key.0) answers refl x
case_stands w told (step.StepEar number waker) answers x = step_stands w told number waker (find (is_listener number) w.listeners) answers refl x
case_stands w told (step.DropEar number) answers x = drop_stands w told number (find (is_listener number) w.listeners) answers x
case_stands w told (step.Tick number waker) answers x = tick_stands w told waker (find (is_timer number) w.timers) answers x
case_stands w told (step.SetAt number deadline) answers x = set_stands w told deadline None (find (is_timer number) w.timers) answers x
case_stands w told (step.SetEvery number deadline period) answers x = set_stands w told deadline (Some period) (find (is_timer number) w.timers) answers x
case_stands w told (step.End number) answers x = end_stands w told (find (is_timer number) w.timers) answers x
case_stands w told (step.Now moment) answers x = clock_stands w told moment answers x
case_stands w told (step.Begin limit) answers x = begin_stands w told limit answers x
case_stands w told step.Wait answers x = wait_stands w told answers x
case_stands w told step.Handle answers x = handle_stands w told answers x
case_stands w told step.Finish answers x = finish_stands w told answers x
case_stands w told step.React answers x = react_stands w told None answers x
case_stands w told _ answers x = same_stands w _ told _ answers refl x

-- ## A step takes its position

silent_past : {A : Type 0} (position : ℕ) → tells_at [] position ≡ true → A
silent_past zero tells = absurd cc
silent_past (suc position) tells = absurd cc

-- what was told stays told
tells_more : (told more : List Answer) (position : ℕ) → tells_at told position ≡ true → tells_at (told ++ more) position ≡ true
tells_more [] more position tells = silent_past position tells
tells_more (a ∷ told) more zero tells = tells
tells_more (a ∷ told) more (suc position) tells = tells_more told more position tells

tells_last : (told : List Answer) (a : Answer) (position : ℕ) → length told ≡ position → tells_arm_fault a ≡ true → tells_at (told ++ a ∷ []) position ≡ true
tells_last told a position at tells = ap tells_arm_fault (get_or_at told a [] answer.Pending position at) ∙ tells

-- the parts at the next position
abbrev moved : Parts → Parts
moved p = record p { pos = p.pos + 1 }

-- with its answer told, a step in which an arm failed is one of those that told it
moved_stands : (p : Parts) (told : List Answer) (a : Answer) → Standing p told (tells_arm_fault a ≡ true) → Standing (moved p) (told ++ a ∷ []) ⊥
moved_stands p told a s = record {
  counted = let before = s.counted in let both = length-append told (a ∷ []) in omega arith;
  ordered = s.ordered;
  broken_told = λ b among.
      inl (⊎_elim
      (λ (earlier : tells_at told b.position ≡ true). tells_more told (a ∷ []) b.position earlier)
      (λ (now : (b.position ≡ p.pos) × (tells_arm_fault a ≡ true)). tells_last told a b.position (s.counted ∙ sym now.0) now.1)
      (s.broken_told b among));
  covers = λ k n dir lives wants.
      holds_in p (moved p) k n dir (λ among. among) (λ e among same. among) (λ b among same. among) (s.covers k n dir lives wants);
}

-- after each step cover stands, with its answer among those that were told
pub step_result_stands : (w : World) (told : List Answer) (s : Step) (answers : List PollerAnswer) → Standing (parts_of w) told ⊥
    → Standing (parts_of (step_result w s answers).world) (told ++ (step_result w s answers).answer ∷ []) ⊥
unfolding step_result
step_result_stands w told s answers x =
    let o = case_of w s answers in
    let y = case_stands w told s answers x in
    moved_stands (parts_of o.world) told o.answer y.stands
