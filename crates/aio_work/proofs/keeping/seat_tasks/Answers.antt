use Rattle.std.proofs.Common.{◌≡◌, ◌∙◌, ◌∷◌, [], ℕ, List, sym, subst, append-nil}
use Rattle.std.proofs.lemmas.List.{nil_from_length}
use Rattle.std.specs.List.{AllZip}
use Rattle.aio_work.proofs.keeping.seat_tasks.Goals as goal

pub returns : goal.returns
returns g c =
    let Seats : g.row.K.Denot → List ℕ → Type 0 = λ task kept. kept ≡ g.K.Work.about_of task ∷ [] in
    let none : c.loop-task.left.items ≡ [] = nil_from_length c.loop-task.left.items (sym c.loop-task.left.ok.0 ∙ c.in_default.ensures.cases.0) in
    let whole = c.loop-task.invariant [] (subst (λ (left : List g.row.K.Denot). AllZip Seats left []) (sym none) tt) in
    record { kept = subst (λ (kept : List (List ℕ)). AllZip Seats c.args.tasks.items kept) (append-nil c.loop-task.kept.items) whole }
