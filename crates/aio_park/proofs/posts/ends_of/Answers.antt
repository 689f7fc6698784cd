use Rattle.std.proofs.Common.{◌≡◌, List, Ok, [], ◌∷◌, ◌++◌, map, refl, sym, ap, ◌∙◌, subst, append-nil, append_assoc, inl}
use Rattle.std.proofs.lemmas.List.{map-append, nil_from_length}
use Rattle.std.specs.Prelude.{Result, Err}
use Rattle.aio_park.specs.Stopping.{IsFirstFault}
use Rattle.aio_park.specs.declared.to_end.WorkerFault.{WorkerFault}
use Rattle.aio_park.proofs.Fellows.{where_done}
use Rattle.aio_park.proofs.Stops.{memory_is_free}
use Rattle.aio_park.proofs.posts.ends_of.Goals as goal

pub loop-next-preserved : goal.loop-next-preserved
loop-next-preserved g c =
    let ends = c.loop-next.ends.items in
    let end = c.in_ok-end.end in
    let after = c.pop_front.new.self.items in
    let left : c.loop-next.left.items ≡ Ok end ∷ after = c.in-Some.ensures.items ∙ ap (λ next. next ∷ after) c.in_ok-end.was in
    let pushed : c.push_back.new.self.items ≡ ends ++ end ∷ [] =
    where_done c.push_back.result (ends ++ end ∷ []) ends c.push_back.new.self.items c.push_back.ensures.items (sym c.is_err.ensures.value ∙ c.if-is_err.false) in
    record {
      ends = c.loop-next.invariant.ends ∙ ap (λ l. map Ok ends ++ l) left ∙ sym (append_assoc (map Ok ends) (Ok end ∷ []) after)
          ∙ ap (λ l. l ++ after) (sym (ap (map Ok) pushed ∙ map-append Ok ends (end ∷ [])));
      fault = λ fault is. c.loop-next.invariant.fault fault (subst (λ l. IsFirstFault l fault) (sym left) is);
    }

pub returns-clause-ends : goal.returns-clause-ends
returns-clause-ends g c =
    let ends = c.loop-next.ends.items in
    let none : c.loop-next.left.items ≡ [] = nil_from_length c.loop-next.left.items (sym c.loop-next.left.ok.0 ∙ c.in_default.ensures.cases.0) in
    c.loop-next.invariant.ends ∙ ap (λ l. map Ok ends ++ l) none ∙ append-nil (map Ok ends)

pub returns-then-is_err-clause-fault : goal.returns-then-is_err-clause-fault
returns-then-is_err-clause-fault g c = memory_is_free c.args.ended.items
