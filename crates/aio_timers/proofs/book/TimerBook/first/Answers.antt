-- One that was unregistered is not the first.
use Rattle.std.proofs.Common.{◌≡◌, ap, subst, sym, ◌∙◌}
use Rattle.aio_base.specs.Timers.{IsBook}
use Rattle.aio_timers.specs.Book.{first_pair}
use Rattle.aio_timers.specs.Room.{Book, entries_without}
use Rattle.aio_timers.proofs.BookLemmas.{first_deadline-pair}
use Rattle.aio_timers.proofs.LateLemmas.{left-first, left-book}
use Rattle.aio_timers.proofs.book.TimerBook.first.Goals as goal

order : (c : goal.After-first) → IsBook c.args.self.now.entries
order c =
    let i = c.self.inside in
    let entries_is : entries_without c.self.inside.late c.self.inside.heap.entries ≡ c.args.self.now.entries = ap Book.entries c.self.view_is in
    subst IsBook entries_is (left-book i.late i.heap.entries c.first.ensures.order)

value : (c : goal.After-first) → c.first.result ≡ first_pair c.args.self.now.entries
value c =
    let i = c.self.inside in
    let entries_is : entries_without c.self.inside.late c.self.inside.heap.entries ≡ c.args.self.now.entries = ap Book.entries c.self.view_is in
    c.first.ensures.value ∙ sym (left-first i.late i.heap.entries c.self.invariant) ∙ ap first_pair entries_is

pub returns-clause-value : goal.returns-clause-value
returns-clause-value c = value c

pub returns-clause-deadline : goal.returns-clause-deadline
returns-clause-deadline c = rw (value c) (first_deadline-pair c.args.self.now.entries (order c))

pub returns-clause-order : goal.returns-clause-order
returns-clause-order c = order c
