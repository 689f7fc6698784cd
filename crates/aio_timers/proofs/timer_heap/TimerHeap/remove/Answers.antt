-- The node of the pair leaves; where there is none, nothing changes.
use Rattle.std.proofs.Common.{◌≡◌, ◌-◌, List, length, arith, ap, sym, subst, ◌∙◌}
use Rattle.std.specs.List.{All}
use Rattle.aio_base.specs.World.{Registration}
use Rattle.aio_base.specs.Timers.{without_pair}
use Rattle.aio_timers.specs.Held.{helds}
use Rattle.aio_timers.specs.Room.{Book}
use Rattle.aio_timers.specs.Sound.{registrations}
use Rattle.aio_timers.proofs.BookLemmas.{IsOther, without_pair-others}
use Rattle.aio_timers.proofs.LastLemmas.{ids-rest}
use Rattle.aio_timers.proofs.SoundLemmas.{dropped-entries, dropped-many}
use Rattle.aio_timers.proofs.timer_heap.TimerHeap.remove.Goals as goal

pub take-root-requires-clause-within : goal.take-root-requires-clause-within
take-root-requires-clause-within c = let p = c.in-Some.ensures c.self.inside.root c.self.inside.free c.self.inside.used c.self.invariant.0 in p.within

pub take-root-requires-clause-live : goal.take-root-requires-clause-live
take-root-requires-clause-live c = let p = c.in-Some.ensures c.self.inside.root c.self.inside.free c.self.inside.used c.self.invariant.0 in (p.registration, p.live)

pub overflow_sub-self : goal.overflow_sub-self
overflow_sub-self c =
    let p = c.in-Some.ensures c.self.inside.root c.self.inside.free c.self.inside.used c.self.invariant.0 in
    let d = c.take-root.ensures c.self.inside.used p.registration c.self.invariant.0 p.live in
    dropped-many c.self.inside.nodes c.take-root.new.nodes c.self.inside.buckets c.take-root.new.buckets c.self.inside.root c.self.inside.free c.take-root.result.0 c.take-root.result.1 c.self.inside.used p.registration c.self.invariant.0 d

pub invariant_of-self : goal.invariant_of-self
invariant_of-self c =
    let p = c.in-Some.ensures c.self.inside.root c.self.inside.free c.self.inside.used c.self.invariant.0 in
    let d = c.take-root.ensures c.self.inside.used p.registration c.self.invariant.0 p.live in (
      d.sound _ (omega (arith, dropped-many c.self.inside.nodes c.take-root.new.nodes c.self.inside.buckets c.take-root.new.buckets c.self.inside.root c.self.inside.free c.take-root.result.0 c.take-root.result.1 c.self.inside.used p.registration c.self.invariant.0 d)),
      ids-rest c.self.inside.last p.registration _ (rw (← d.entries) c.self.invariant.1),
    )

pub returns-in-Some-clause-entries : goal.returns-in-Some-clause-entries
returns-in-Some-clause-entries c =
    let entries_is : registrations (helds c.self.inside.nodes) ≡ c.args.self.now.entries = ap Book.entries c.self.view_is in
    let p = c.in-Some.ensures c.self.inside.root c.self.inside.free c.self.inside.used c.self.invariant.0 in
    let d = c.take-root.ensures c.self.inside.used p.registration c.self.invariant.0 p.live in
    dropped-entries c.self.inside.nodes c.take-root.new.nodes c.take-root.new.buckets c.take-root.result.0 c.take-root.result.1 c.self.inside.used c.args.deadline c.args.id.0 p.registration d p.deadline_is p.id_is
    ∙ ap (λ (rs : List Registration). without_pair c.args.deadline c.args.id.0 rs) entries_is

pub returns-in-Some-clause-spare : goal.returns-in-Some-clause-spare
returns-in-Some-clause-spare c =
    let spare_is : length c.self.inside.nodes - c.self.inside.used ≡ c.args.self.now.spare = ap Book.spare c.self.view_is in
    let p = c.in-Some.ensures c.self.inside.root c.self.inside.free c.self.inside.used c.self.invariant.0 in
    let d = c.take-root.ensures c.self.inside.used p.registration c.self.invariant.0 p.live in
    omega (arith, spare_is, d.len)

pub returns-in_default-clause-entries : goal.returns-in_default-clause-entries
returns-in_default-clause-entries c =
    let entries_is : registrations (helds c.self.inside.nodes) ≡ c.args.self.now.entries = ap Book.entries c.self.view_is in
    let absent = c.in_default.ensures c.self.inside.root c.self.inside.free c.self.inside.used c.self.invariant.0 in
    sym (without_pair-others c.args.deadline c.args.id.0 c.args.self.now.entries (subst (λ (rs : List Registration). All (IsOther c.args.deadline c.args.id.0) rs) entries_is absent))
