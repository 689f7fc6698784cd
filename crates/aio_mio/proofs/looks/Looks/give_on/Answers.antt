use Rattle.std.proofs.Common.{arith, ◌≡◌, ◌-◌, List, ◌++◌, length, min, take, drop, ap, ◌∙◌}
use Rattle.std.proofs.lemmas.List.{length-drop, take_all}
use Rattle.aio_base.specs.declared.names.Event.{Event}
use Rattle.aio_mio.proofs.LeftOver.{left_after_giving}
use Rattle.aio_mio.proofs.looks.Looks.give_on.Goals as goal

-- the slice that is given from is all that is left over
pub returns : goal.returns
returns g c =
    let given = c.args.self.now.given in
    let came = c.args.self.now.came.items in
    let seen = c.deref.result.now in
    let behind : take (length seen - given) (drop given seen) ≡ drop given came =
    take_all (length seen - given) (drop given seen) (omega (arith, length-drop given seen)) ∙ ap (drop given) c.deref.ensures.value in
    let count : c.give-count.result ≡ min c.args.room (length (drop given came)) =
    c.give-count.ensures.count ∙ ap (λ (events : List Event). min c.args.room (length events)) behind in
    record {
      count = count;
      added = c.give-count.ensures.added ∙ ap (λ (events : List Event). c.args.out.now.items ++ take c.args.room events) behind;
      left = left_after_giving came given c.args.room c.give-count.result count;
      capacity = c.give-count.ensures.capacity;
    }
