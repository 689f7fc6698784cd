use Rattle.std.proofs.Common.{rules, ◌≡◌, refl, ℕ, ◌<◌, ◌≤◌, ◌++◌, List, length, length-append, take, get_or, ap, arith, Result, Ok, Err, flat_map}
use Rattle.std.specs.Prelude.{OnErr}
use Rattle.std.proofs.lemmas.Grind.{common_steps}
use Rattle.std.proofs.lemmas.List.Folds.{length-flat_map-take}
use Rattle.aio_base.specs.declared.names.Waker.{Waker}
use Rattle.aio_base.specs.declared.steps.Answer.TheVariants.{Wake}
use Rattle.aio_base.specs.Text.{answer_line, ended_line}
use Rattle.aio_writing.specs.Writing.{LacksRoom}
use Rattle.aio_writing.proofs.answer_lines.push_wakes.Goals as goal

on_err : {T E : Type 0} (r : Result T E) (P : Type 0) → P → OnErr r P
on_err (Ok x) P p = tt
on_err (Err e) P p = p

-- there was no room for one line behind some of these, so there was none for all of them
wakes_lack_room : (f : Waker → List ℕ) (old items line : List ℕ) (wakes : List Waker) (i : ℕ) (d : Waker) (before capacity : ℕ)
    → before ≤ capacity → items ≡ old ++ flat_map f (take i wakes) → i < length wakes → line ≡ f (get_or wakes i d) → LacksRoom capacity items line
    → LacksRoom before old (flat_map f wakes)
wakes_lack_room f old items line wakes i d before capacity le is lt same full =
    omega (arith, le, ap length is, length-append old (flat_map f (take i wakes)), length-flat_map-take f wakes i d lt, full, ap length same)

pub returns-in_err-push_wake : goal.returns-in_err-push_wake
unfolding answer_line
returns-in_err-push_wake c = record {
  pushes = record {
    ok = search rules;
    kept = grind (arith, common_steps);
    full =
        on_err c.from_residual.result _
        (wakes_lack_room (λ waker. ended_line (answer_line (Wake waker))) c.args.out.now.items _ _ c.args.wakes.now _ _ _ _
        c.loop-waker.invariant.grown c.loop-waker.invariant.lines c.loop-waker-test.true refl c.in_err-push_wake.ensures.pushes.full);
    grown = search rules;
  };
}
