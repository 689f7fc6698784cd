-- The chains are new, or as they were; then free nodes join the others.
use Rattle.std.proofs.Common.{◌≡◌, ℕ, Option, List, length, arith, ap}
use Rattle.aio_timers.proofs.GrowthLemmas.{grown, grows, Extends-refl}
use Rattle.aio_timers.proofs.room.grow.Goals as goal

pub returns-in-Err : goal.returns-in-Err
returns-in-Err c = λ root used s.
    let same : length c.widen.new.buckets ≡ length c.args.buckets.now = ap (λ (xs : List (Option ℕ)). length xs) c.in-Err.ensures.refused in
    grown c.args.nodes.now c.widen.new.nodes c.widen.new.nodes c.widen.new.buckets root c.args.free c.args.free used (length c.args.nodes.now) c.args.buckets.now s c.widen.ensures.table
    (Extends-refl c.widen.new.nodes c.args.free) c.widen.ensures.table.change.len (omega (arith, s.row, same)) s.few (λ some. rw same (s.power (omega (arith, some, same))))

pub returns-in-Ok : goal.returns-in-Ok
returns-in-Ok c = λ root used s.
    grows c.args.nodes.now c.widen.new.nodes c.grow.new.self c.widen.new.buckets root c.args.free used c.args.total c.args.buckets.now c.grow.result s c.widen.ensures.table
    c.grow.ensures.extends c.grow.ensures.len c.grow.ensures.refused c.in-Ok.ensures.row (omega (arith, c.requires.more)) c.requires.few (λ some. c.in-Ok.ensures.power)
