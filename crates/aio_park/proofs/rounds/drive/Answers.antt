use Rattle.std.proofs.Common.{◌≡◌, true, false, sym, ap, ◌∙◌}
use Rattle.aio_shared.specs.Members.{MemberValue}
use Rattle.aio_shared.specs.OneCell.{ClaimValue}
use Rattle.aio_shared.specs.Reacting.{until, start_of}
use Rattle.aio_park.proofs.Holding.{drives_where, fails_where}
use Rattle.aio_park.proofs.Keeping.{keeps_locked}
use Rattle.aio_park.proofs.rounds.drive.Goals as goal

pub returns-clause-drives : goal.returns-clause-drives
returns-clause-drives g c =
    drives_where g.N.Faults.fault_count c.args.shared.now.words.parkers c.args.shared.now.sure_of_arms (until (g.C.Clock.latest c.drive_rounds-driven.new.clock) (start_of g.C.Clock.bounds g.C.Clock.latest g.W.EventWait.wait_step c.args.clock.now)) c.args.rounds c.args.m.now c.take_round-cell.new.m
    c.drive_rounds-driven.new.m c.give_round.new.m c.take_round-cell.result c.drive_rounds-driven.new.cell c.drive_rounds-driven.result
    c.take_round-cell.ensures.takes c.take_round-cell.ensures.kept c.give_round.ensures.gave c.drive_rounds-driven.ensures.rounds

pub returns-clause-cell : goal.returns-clause-cell
returns-clause-cell g c =
    let free : c.args.m.now.claim.holds ≡ false = sym (ap (λ (t : ClaimValue). t.holds) c.take_round-cell.ensures.takes.waited) ∙ c.take_round-cell.ensures.takes.takes.before in
    ap (λ (x : MemberValue g.row.N.Denot). x.claim.holds) c.give_round.ensures.gave ∙ sym free

pub returns-clause-keeps : goal.returns-clause-keeps
returns-clause-keeps g c =
    let free : c.args.m.now.claim.holds ≡ false = sym (ap (λ (t : ClaimValue). t.holds) c.take_round-cell.ensures.takes.waited) ∙ c.take_round-cell.ensures.takes.takes.before in
    keeps_locked {a = c.args.m.now} c.take_round-cell.ensures.takes.last.empties free c.take_round-cell.ensures.kept
    (c.take_round-cell.ensures.takes.takes.claim ∙ ap (λ (t : ClaimValue). record t { holds = true }) c.take_round-cell.ensures.takes.waited)
    c.drive_rounds-driven.ensures.keeps c.give_round.ensures.gave c.give_round.ensures.belongs

pub returns-clause-fails : goal.returns-clause-fails
returns-clause-fails g c =
    fails_where g.N.Faults.fault_count c.args.shared.now.words.parkers c.args.shared.now.sure_of_arms (until (g.C.Clock.latest c.drive_rounds-driven.new.clock) (start_of g.C.Clock.bounds g.C.Clock.latest g.W.EventWait.wait_step c.args.clock.now)) c.args.rounds c.args.m.now c.take_round-cell.new.m
    c.drive_rounds-driven.new.m c.give_round.new.m c.take_round-cell.result c.drive_rounds-driven.new.cell c.drive_rounds-driven.result
    c.take_round-cell.ensures.takes c.take_round-cell.ensures.kept c.give_round.ensures.gave c.drive_rounds-driven.ensures.fails
