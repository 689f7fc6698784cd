-- One that was unregistered is counted by the heap.
use Rattle.std.proofs.Common.{◌≡◌, List, length, arith, ap, subst}
use Rattle.aio_base.specs.World.{Registration}
use Rattle.aio_base.specs.Timers.{IsBook}
use Rattle.aio_timers.specs.Room.{Book, entries_without}
use Rattle.aio_timers.proofs.LateLemmas.{left-length, left-book}
use Rattle.aio_timers.proofs.book.TimerBook.len.Goals as goal

pub returns-in-Some-clause-value : goal.returns-in-Some-clause-value
returns-in-Some-clause-value c =
    let i = c.self.inside in
    let entries_is : entries_without c.self.inside.late c.self.inside.heap.entries ≡ c.args.self.now.entries = ap Book.entries c.self.view_is in
    omega (arith, c.len-all.ensures.value, left-length i.late _ i.heap.entries c.in-Some.is c.self.invariant, ap (λ (rs : List Registration). length rs) entries_is)

pub returns-in-Some-clause-order : goal.returns-in-Some-clause-order
returns-in-Some-clause-order c =
    let i = c.self.inside in
    let entries_is : entries_without c.self.inside.late c.self.inside.heap.entries ≡ c.args.self.now.entries = ap Book.entries c.self.view_is in
    subst IsBook entries_is (left-book i.late i.heap.entries c.len-all.ensures.order)
