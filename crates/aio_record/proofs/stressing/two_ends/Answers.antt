use Rattle.std.proofs.Common.{◌≡◌, ◌∷◌, length, sym, ap, ◌∙◌, arith}
use Rattle.std.proofs.lemmas.List.{nil_from_length}
use Rattle.aio_record.proofs.stressing.two_ends.Goals as goal

pub returns : goal.returns
returns g c =
    let w = c.in-Some-Some in
    let rest = c.pop_front-2.new.self.items in
    let all : c.args.ends.items ≡ w.first ∷ w.second ∷ rest = sym c.from-ends.ensures.0 ∙ w.ensures.items ∙ ap (λ l. w.first ∷ l) w.ensures'.items in
    all ∙ ap (λ l. w.first ∷ w.second ∷ l) (nil_from_length rest (omega (arith, c.requires, ap length all)))
