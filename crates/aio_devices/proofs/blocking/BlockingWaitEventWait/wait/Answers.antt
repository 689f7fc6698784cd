use Rattle.std.proofs.Common.{rules, [], ap, refl, sym, ◌∙◌}
use Rattle.std.proofs.lemmas.List.{append-nil}
use Rattle.aio_devices.proofs.blocking.BlockingWaitEventWait.wait.Goals as goal

pub returns-in-Some-clause-added : goal.returns-in-Some-clause-added
returns-in-Some-clause-added g c =
    let gives = c.in-Some.ensures.some in
    (gives.added, gives.joined, (gives.counted, gives.fits), search rules)

pub returns-clause-added : goal.returns-clause-added
returns-clause-added g c = ([], ap (λ out. out.items) c.in_default.ensures.none ∙ sym (append-nil c.args.out.now.items), refl, search rules)
