use Rattle.std.proofs.Common.{◌≡◌, ◌∙◌, sym, ap, arith}
use Rattle.aio_react.specs.Cores.{CoreValue}
use Rattle.aio_react.specs.Sources.{del_reply}
use Rattle.aio_react.proofs.sources.DelMeets.{missing_meets, used_meets, removed_meets, gone_reply, as_counted}
use Rattle.aio_react.proofs.listeners.Hearing.{uncounted_others}
use Rattle.aio_react.proofs.listeners.Listed.{listed_left}
use Rattle.aio_react.proofs.sources.Places.{keyed_left}
use Rattle.aio_react.proofs.reactor.Core.del.Goals as goal
use Rattle.aio_react.proofs.reactor.Core.del.Goals.{in-Ok, in-Err}

pub returns-in_default-clause-meets : goal.returns-in_default-clause-meets
returns-in_default-clause-meets g c =
    let i = c.self.inside in
    let core : CoreValue = record { sources = i.sources; listeners = i.listeners; ticker = i.ticker; book = i.book.entries; ids_drawn = i.ids_drawn; round = i.round } in
    rw (← c.self.view_is) (missing_meets _ g.P.Arm.interests i.poller core c.args.key (sym c.in_default.ensures.value))

pub returns-then-entry-gt0-clause-meets : goal.returns-then-entry-gt0-clause-meets
returns-then-entry-gt0-clause-meets g c =
    let i = c.self.inside in
    let core : CoreValue = record { sources = i.sources; listeners = i.listeners; ticker = i.ticker; book = i.book.entries; ids_drawn = i.ids_drawn; round = i.round } in
    let e = c.in-Some.entry.now in
    let is = sym c.in-Some.ensures.value in
    let count = as_counted i.sources i.listeners c.args.key.0 e is c.self.invariant.1 in
    rw (← c.self.view_is) (used_meets _ g.P.Arm.interests i.poller core c.args.key e is (omega (arith, count)))

pub invariant_of-self : goal.invariant_of-self
invariant_of-self g c =
    let i = c.self.inside in
    let e = c.in-Some.entry.now in
    let is = sym c.in-Some.ensures.value in
    let count = as_counted i.sources i.listeners c.args.key.0 e is c.self.invariant.1 in (
      rw c.clear.ensures (keyed_left i.sources c.args.key.0 c.self.invariant.0),
      rw c.clear.ensures (listed_left i.sources i.listeners c.args.key.0 c.self.invariant.1 (uncounted_others i.listeners c.args.key.0 (omega (arith, count)))),
      c.self.invariant.2,
    )

pub returns-clause-meets : goal.returns-clause-meets
returns-clause-meets g c =
    let i = c.self.inside in
    let core : CoreValue = record { sources = i.sources; listeners = i.listeners; ticker = i.ticker; book = i.book.entries; ids_drawn = i.ids_drawn; round = i.round } in
    let e = c.in-Some.entry.now in
    let is = sym c.in-Some.ensures.value in
    let count = as_counted i.sources i.listeners c.args.key.0 e is c.self.invariant.1 in
    let said : del_reply c.match-removed.result ≡ gone_reply c.remove-removed.result = elim c.match-removed.branch [
      | in-Ok w ↦ ap del_reply w.result-is ∙ sym (ap gone_reply w.in-Ok.is)
      | in-Err w ↦ ap del_reply w.result-is ∙ sym (ap gone_reply w.in-Err.is)
    ] in
    rw (← c.self.view_is, c.clear.ensures, said) (removed_meets g.P.Arm.arm_step g.P.EventWait.wait_step g.P.Arm.interests i.poller c.remove-removed.new.self core c.args.key e c.remove-removed.result is
    (omega (arith, count)) c.remove-removed.ensures.step c.remove-removed.ensures.interests)
