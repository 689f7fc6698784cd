use Rattle.std.proofs.Common.{◌≡◌, ◌∙◌, ◌∷◌, ◌++◌, [], ℕ, List, true, sym, ap, subst, append-nil, append_assoc, arith}
use Rattle.std.proofs.lemmas.List.{nil_from_length}
use Rattle.std.specs.List.{AllZip}
use Rattle.aio_shared.specs.Later.{later_further}
use Rattle.aio_exec.proofs.Ends.{first_about, none_left}
use Rattle.aio_exec.proofs.finishing.finish_all.Goals as goal

pub loop-next-preserved : goal.loop-next-preserved
loop-next-preserved g c =
    let About : List ℕ → ℕ → Type 0 = λ note about. note ≡ about ∷ [] in
    let Allowed : ℕ → g.row.K-Output.Denot → Type 0 = λ about output. g.K.Work.allows about output ≡ true in
    let output = c.in-Ok.output in
    record {
      answers = λ abouts more others zip.
          subst (λ (outputs : List g.row.K-Output.Denot). AllZip Allowed abouts outputs)
          (sym (ap (λ (items : List g.row.K-Output.Denot). items ++ more) c.push_reserved.ensures.items ∙ append_assoc c.loop-next.outputs.items (output ∷ []) more))
          (c.loop-next.invariant.answers abouts (output ∷ more)
          (λ rest kept. first_about g.K.Work.about_of g.K.Work.allows c.in-Some.next c.pop_front.new.self.items output more rest c.in-Ok.ensures.allowed others
          (subst (λ (notes : List (List ℕ)). AllZip About notes rest) c.in-Some.ensures.items kept)) zip);
      room = omega (arith, c.loop-next.invariant.room, c.push_reserved.ensures.len, c.push_reserved.ensures.capacity, c.in-Some.ensures.len);
      later = later_further _ _ _ _ _ c.loop-next.invariant.later c.in-Ok.ensures.later;
    }

pub returns-clause-allowed : goal.returns-clause-allowed
returns-clause-allowed g c abouts zip =
    let About : List ℕ → ℕ → Type 0 = λ note about. note ≡ about ∷ [] in
    let Allowed : ℕ → g.row.K-Output.Denot → Type 0 = λ about output. g.K.Work.allows about output ≡ true in
    let none : c.loop-next.left.items ≡ [] = nil_from_length c.loop-next.left.items (sym c.loop-next.left.ok.0 ∙ c.in_default.ensures.cases.0) in
    subst (λ (outputs : List g.row.K-Output.Denot). AllZip Allowed abouts outputs) (append-nil c.loop-next.outputs.items)
    (c.loop-next.invariant.answers abouts []
    (λ rest kept. none_left g.K.Work.about_of g.K.Work.allows rest (subst (λ (notes : List (List ℕ)). AllZip About notes rest) none kept)) zip)
