-- What the answers of a host of timers mean: the ids that a pass draws, and the faults of a host's notifier.
use Rattle.std.specs.Prelude.{◌≡◌, ℕ, ◌+◌, ◌-◌, ◌*◌, ◌^◌, Bool, not, ◌==◌, Option, None, Some, IsSome, IfSome, Result, Ok, Err}
use Rattle.aio_base.specs.declared.names.TimerId.{TimerId}
use Rattle.aio_base.specs.declared.names.Waker.{Waker}
use Rattle.aio_base.specs.declared.outcomes.CountFault.{CountFault}
use Rattle.aio_base.specs.Devices.{HasCause}
use Rattle.aio_base.specs.declared.hosts.InsertRefusal.{InsertRefusal}
use Rattle.aio_base.specs.declared.hosts.InsertRefusal.TheVariants as refusal

-- ## A host

-- What a host tells of its calls: the relations of an insert (the state before it, the deadline, the waker, the id drawn, the state after it) and of a
-- removal (the deadline and the id), and of each where it was refused; of a look at its rounds (their count) and of a wake (the waker, and what the
-- call answered); its notifier's count of faults; the number of its pass, and how many ids the pass has drawn. A host of timers alone looks at no
-- rounds and wakes nobody: it tells nothing of these two, and they always hold.
pub record HostRules (H : Type 0) : Type 1 where
  pub inserted : H → ℕ → Waker → TimerId → H → Type 0
  pub removed : H → ℕ → TimerId → H → Type 0
  pub insert_refused : H → ℕ → Waker → H → Type 0
  pub removal_refused : H → ℕ → TimerId → H → Type 0
  pub looked : H → ℕ → H → Type 0
  pub woke : H → Waker → Result (Unit {0}) CountFault → H → Type 0
  pub faults : H → ℕ
  pub pass : H → ℕ
  pub drawn : H → ℕ

-- ## Ids

-- whether a pass that has drawn so many ids has one left: it draws at most 2^40 - 1 of them
abbrev pub has_id_left : ℕ → Bool
has_id_left drawn = not (drawn == 2 ^ 40 - 1)

-- the id that a pass draws after so many others: its ids count from 1, and each pass has 2^40 numbers of its own
abbrev pub next_id : ℕ → ℕ → TimerId
next_id pass drawn = record { 0 = pass * 2 ^ 40 + (drawn + 1) }

-- the id of the registration that stands after an insert that was answered so
abbrev pub registered_id : Result TimerId InsertRefusal → Option TimerId
registered_id (Ok id) = Some id
registered_id (Err (refusal.Notify id fault)) = Some id
registered_id (Err refusal.OutOfMemory) = None

-- An insert that registered its timer drew the pass's next id, by which the host's own relation holds. One that was refused drew none, and the
-- host's relation of refused inserts holds.
abbrev pub RegistersAs : {H : Type 0} → HostRules H → (at : ℕ) → Waker → (old : H) → Option TimerId → (new : H) → Type 0
RegistersAs rules at waker old None new = rules.insert_refused old at waker new × (rules.drawn new ≡ rules.drawn old)
RegistersAs rules at waker old (Some id) new =
    rules.inserted old at waker id new × (id ≡ next_id (rules.pass old) (rules.drawn old)) × (rules.drawn new ≡ rules.drawn old + 1)

-- ## Faults of a notifier

-- the fault of the notifier that an insert told
abbrev pub insert_fault : Result TimerId InsertRefusal → Option CountFault
insert_fault (Ok id) = None
insert_fault (Err (refusal.Notify id fault)) = Some fault
insert_fault (Err refusal.OutOfMemory) = None

-- the fault of the notifier that a wake told
abbrev pub wake_fault : Result (Unit {0}) CountFault → Option CountFault
wake_fault (Ok done) = None
wake_fault (Err fault) = Some fault

-- a fault that is told has a cause in the host's notifier, and carries its count of faults before the call and after it
pub record NotifierTells (sure : Bool) (before after : ℕ) (told : Option CountFault) : Type 0 where
  pub cause : HasCause before after sure (IsSome told)
  pub counts : IfSome told (λ fault. fault ≡ record { before = before; after = after })
