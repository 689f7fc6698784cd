-- What an insert that registered its timer answers, by what its notify answered.
use Rattle.std.proofs.Common.{◌≡◌, sym, subst, ℕ, Bool, Result, Ok, Err, IsErr, IfErr}
use Rattle.aio_base.specs.declared.names.TimerId.{TimerId}
use Rattle.aio_base.specs.declared.names.Waker.{Waker}
use Rattle.aio_base.specs.declared.outcomes.CountFault.{CountFault}
use Rattle.aio_base.specs.declared.outcomes.Failed.{Failed}
use Rattle.aio_base.specs.Devices.{HasCause}
use Rattle.aio_base.specs.declared.hosts.InsertRefusal.{InsertRefusal}
use Rattle.aio_base.specs.Hosts.{NotifierTells, insert_fault}
use Rattle.aio_words.specs.Calls.{TellsCounts}
use Rattle.aio_shared.specs.Members.{MemberValue}
use Rattle.aio_shared.specs.TimerCalls.{Inserted, Inserts}
use Rattle.aio_shared.specs.Reporting.{told_of}

pub inserts_told : {N : Type 0} (calls : N → ℕ) (step : N → Result (Unit {0}) Failed → N → Type 0) (at : ℕ) (waker : Waker) (old new : MemberValue N) (id : TimerId)
    (told : Result (Unit {0}) CountFault) (answer : Result TimerId InsertRefusal) → answer ≡ told_of id told → Inserted calls step at waker old new id told
    → Inserts calls step at waker old new answer
inserts_told calls step at waker old new id (Ok done) answer is inserted = subst (λ a. Inserts calls step at waker old new a) (sym is) inserted
inserts_told calls step at waker old new id (Err fault) answer is inserted = subst (λ a. Inserts calls step at waker old new a) (sym is) inserted

pub notifier_tells : (sure : Bool) (before after : ℕ) (id : TimerId) (told : Result (Unit {0}) CountFault) (answer : Result TimerId InsertRefusal) → answer ≡ told_of id told
    → HasCause before after sure (IsErr told) → IfErr told (TellsCounts before after) → NotifierTells sure before after (insert_fault answer)
notifier_tells sure before after id (Ok done) answer is cause counts = subst (λ a. NotifierTells sure before after (insert_fault a)) (sym is) (record { cause = cause; counts = tt })
notifier_tells sure before after id (Err fault) answer is cause counts =
    subst (λ a. NotifierTells sure before after (insert_fault a)) (sym is) (record { cause = cause; counts = λ i. record { before = counts.0 i; after = counts.1 i } })
