-- One that was unregistered may be due.
use Rattle.std.proofs.Common.{◌≡◌, ℕ, ◌+◌, ◌≤◌, ◌<◌, Bool, true, false, cond, List, length, Option, arith, ap, sym, ◌∙◌}
use Rattle.std.specs.Prelude.{nat_le}
use Rattle.std.proofs.lemmas.Bool.Decides.{nat_tests}
use Rattle.aio_base.specs.World.{Registration}
use Rattle.aio_base.specs.Timers.{due_wakers}
use Rattle.aio_timers.specs.Room.{Book, entries_without}
use Rattle.aio_timers.proofs.DueCountLemmas.{few-due_wakers}
use Rattle.aio_timers.proofs.LateLemmas.{left-due}
use Rattle.aio_timers.proofs.book.TimerBook.due_count.Goals as goal

is-due : (a b : ℕ) → a ≤ b → nat_le a b ≡ true
is-due a b le = grind (arith, nat_tests)

is-later : (a b : ℕ) → b < a → nat_le a b ≡ false
is-later a b lt = grind (arith, nat_tests)

counted : (c : goal.Then-get) → c.due_count-all.result ≡ 1 + length (due_wakers c.args.now c.args.self.now.entries)
counted c =
    let i = c.self.inside in
    let entries_is : entries_without c.self.inside.late c.self.inside.heap.entries ≡ c.args.self.now.entries = ap Book.entries c.self.view_is in
    let due : nat_le c.in-Some.deadline c.args.now ≡ true = is-due c.in-Some.deadline c.args.now (omega (arith, c.if-get.true, c.get.ensures.value, c.get-in-Some.ensures.value)) in
    c.due_count-all.ensures ∙ left-due c.args.now i.late (c.in-Some.deadline, c.in-Some.field-0-1) i.heap.entries c.in-Some.is c.self.invariant
    ∙ ap (λ (b : Bool). cond b 1 0 + length (due_wakers c.args.now (entries_without c.self.inside.late c.self.inside.heap.entries))) due ∙ ap (λ (rs : List Registration). 1 + length (due_wakers c.args.now rs)) entries_is

counted_later : (c : goal.Else-get) → c.due_count-all.result ≡ length (due_wakers c.args.now c.args.self.now.entries)
counted_later c =
    let i = c.self.inside in
    let entries_is : entries_without c.self.inside.late c.self.inside.heap.entries ≡ c.args.self.now.entries = ap Book.entries c.self.view_is in
    let later : nat_le c.in-Some.deadline c.args.now ≡ false = is-later c.in-Some.deadline c.args.now (omega (arith, c.if-get.false, c.get.ensures.value, c.get-in-Some.ensures.value)) in
    let sum : c.due_count-all.result ≡ 0 + length (due_wakers c.args.now (entries_without c.self.inside.late c.self.inside.heap.entries)) =
    c.due_count-all.ensures ∙ left-due c.args.now i.late (c.in-Some.deadline, c.in-Some.field-0-1) i.heap.entries c.in-Some.is c.self.invariant
    ∙ ap (λ (b : Bool). cond b 1 0 + length (due_wakers c.args.now (entries_without c.self.inside.late c.self.inside.heap.entries))) later in
    omega (arith, sum, ap (λ (rs : List Registration). length (due_wakers c.args.now rs)) entries_is)

pub overflow_sub-result : goal.overflow_sub-result
overflow_sub-result c = omega (arith, counted c)

pub returns-then-get-clause-value : goal.returns-then-get-clause-value
returns-then-get-clause-value c = omega (arith, counted c)

pub returns-then-get-clause-bound : goal.returns-then-get-clause-bound
returns-then-get-clause-bound c = omega (arith, counted c, few-due_wakers c.args.now c.args.self.now.entries)

pub returns-else-get-clause-value : goal.returns-else-get-clause-value
returns-else-get-clause-value c = counted_later c

pub returns-else-get-clause-bound : goal.returns-else-get-clause-bound
returns-else-get-clause-bound c = omega (arith, counted_later c, few-due_wakers c.args.now c.args.self.now.entries)

pub returns-in-None-clause-bound : goal.returns-in-None-clause-bound
returns-in-None-clause-bound c =
    let none : entries_without c.self.inside.late c.self.inside.heap.entries ≡ c.args.self.now.entries = ap Book.entries c.self.view_is in
    let all : c.self.inside.heap.entries ≡ c.args.self.now.entries = ap (λ (late : Option _). entries_without late c.self.inside.heap.entries) (sym c.in-None.is) ∙ none in
    omega (arith, c.due_count-all.ensures, ap (λ (rs : List Registration). length (due_wakers c.args.now rs)) all, few-due_wakers c.args.now c.args.self.now.entries)
