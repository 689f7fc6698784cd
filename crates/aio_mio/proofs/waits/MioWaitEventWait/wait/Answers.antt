use Rattle.std.proofs.Common.{arith, [], take, ap, refl, sym, ◌∙◌}
use Rattle.std.proofs.lemmas.List.{append-nil, length-take}
use Rattle.aio_mio.specs.Looks.{left_over}
use Rattle.aio_mio.specs.Values.{WaitValue}
use Rattle.aio_mio.proofs.waits.MioWaitEventWait.wait.Goals as goal

-- the first of the events that were left or came are given
pub returns-clause-added : goal.returns-clause-added
returns-clause-added c =
    let came = left_over c.refill.new.self in
    let given = c.give_on-count.ensures in
    let left = ap (λ (w : WaitValue). w.left) c.self.view_is in (
      take c.args.room came,
      given.added,
      (length-take c.args.room came ∙ sym given.count, omega (arith, given.count)),
      record {
        came = came;
        kept = λ some. c.in_default.ensures.kept (λ none. some (sym left ∙ none)) ∙ left;
        first = refl;
        left = given.left;
      },
    )

-- an interrupted look gives nothing, and none was left
pub returns-then-eq-clause-added : goal.returns-then-eq-clause-added
returns-then-eq-clause-added c =
    let none = c.in-Err.ensures.none in
    ([], sym (append-nil c.args.out.now.items), refl, (sym (ap (λ (w : WaitValue). w.left) c.self.view_is) ∙ none.0, none.1))
