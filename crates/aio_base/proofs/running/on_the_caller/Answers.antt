use Rattle.std.proofs.Common.{arith, ◌≡◌, List, [], ◌∷◌, ◌++◌, ap, sym, ◌∙◌, subst}
use Rattle.std.proofs.lemmas.List.{append-nil, append_assoc, nil_from_length}
use Rattle.std.specs.List.{AllZip}
use Rattle.aio_base.proofs.running.on_the_caller.Goals as goal

-- an end that may come of the first job, before ends that may come of those behind it
first_by : {A B : Type 0} (R : A → B → Type 0) (left behind : List A) (later : List B) (job : A) (one : B) → left ≡ job ∷ behind → R job one
    → AllZip R behind later → AllZip R left (one ∷ later)
first_by R left behind later job one first met others = subst (λ jobs. AllZip R jobs (one ∷ later)) (sym first) (met, others)

-- what came before, and one behind it, and then the later ones
one_behind : {A : Type 0} (before after later : List A) (one : A) → after ≡ before ++ (one ∷ []) → before ++ (one ∷ later) ≡ after ++ later
one_behind before after later one joined = sym (ap (λ items. items ++ later) joined ∙ append_assoc before (one ∷ []) later)

pub loop-next-init : goal.loop-next-init
loop-next-init g c = record {
  rest = λ later all. subst (λ ends. AllZip g.J.Job.may_end c.args.jobs.items (ends ++ later)) (sym c.in-Ok.ensures.items)
      (subst (λ left. AllZip g.J.Job.may_end left later) c.from-left.ensures.0 all);
  room = omega (arith, c.in-Ok.ensures.len, c.in-Ok.ensures.capacity, c.from-left.ensures.1, c.len.ensures);
}

-- the end of the next job goes behind those that came
pub loop-next-preserved : goal.loop-next-preserved
loop-next-preserved g c =
    let one = c.run.result in
    let may_end = g.J.Job.may_end in
    record {
      rest = λ later all.
          let jobs = first_by may_end c.loop-next.left.items c.pop_front.new.self.items later c.in-Some.next one c.in-Some.ensures.items c.run.ensures all in
          let behind = one_behind c.loop-next.ends.items c.push_reserved.new.self.items later one c.push_reserved.ensures.items in
          subst (λ all. AllZip may_end c.args.jobs.items all) behind (c.loop-next.invariant.rest (one ∷ later) jobs);
      room = omega (arith, c.loop-next.invariant.room, c.in-Some.ensures.cases, c.push_reserved.ensures.len, c.push_reserved.ensures.capacity);
    }

pub push_reserved-requires : goal.push_reserved-requires
push_reserved-requires g c = omega (arith, c.loop-next.invariant.room, c.in-Some.ensures.cases)

pub returns : goal.returns
returns g c =
    let none : c.loop-next.left.items ≡ [] = nil_from_length c.loop-next.left.items (sym c.loop-next.left.ok.0 ∙ c.in_default-pop_front.ensures.cases.0) in
    let whole = c.loop-next.invariant.rest [] (subst (λ left. AllZip g.J.Job.may_end left []) (sym none) tt) in
    subst (λ ends. AllZip g.J.Job.may_end c.args.jobs.items ends) (append-nil c.loop-next.ends.items) whole
