-- What a core that hosts timers makes of a registration and of its removal; all else stays.
use Rattle.std.specs.Prelude.{◌≡◌, ℕ, ◌+◌, [], ◌∷◌}
use Rattle.aio_base.specs.declared.names.TimerId.{TimerId}
use Rattle.aio_base.specs.declared.names.Waker.{Waker}
use Rattle.aio_base.specs.Timers.{Registers, Unregisters, fold_changes}
use Rattle.aio_react.specs.Cores.{CoreValue}
use Rattle.aio_base.specs.Hosts.{HostRules}

-- one id was drawn, under which the timer is registered
abbrev pub with_registered : CoreValue → ℕ → Waker → TimerId → CoreValue
with_registered core deadline waker id = record core {
  book = fold_changes core.book (Registers (record { id = id.0; deadline = deadline; waker = waker }) ∷ []);
  ids_drawn = core.ids_drawn + 1;
}

-- nothing is registered with this deadline and id
abbrev pub unregistered : CoreValue → ℕ → TimerId → CoreValue
unregistered core deadline id = record core { book = fold_changes core.book (Unregisters deadline id.0 ∷ []) }

-- what a core tells as a host of timers: it is pass 0, has nobody to notify, and a removal is never refused
abbrev pub core_rules : {P : Type 0} → HostRules (P × CoreValue)
core_rules = record {
  inserted = λ old at waker id new. new ≡ (old.0, with_registered old.1 at waker id);
  removed = λ old at id new. new ≡ (old.0, unregistered old.1 at id);
  insert_refused = λ old at waker new. new ≡ old;
  removal_refused = λ old at id new. ⊥;
  looked = λ old rounds new. Unit {0};
  woke = λ old waker told new. Unit {0};
  faults = λ core. 0;
  pass = λ core. 0;
  drawn = λ core. core.1.ids_drawn;
}
