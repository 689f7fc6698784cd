-- What adding a source and taking one out make of a core, and how each is answered.
use Rattle.std.specs.Prelude.{◌≡◌, ℕ, ◌<◌, ◌≤◌, List, slice_set, Option, None, Some, IsSome, Result, Ok, Err}
use Rattle.aio_base.specs.declared.names.Key.{Key}
use Rattle.aio_base.specs.declared.outcomes.CountFault.{CountFault}
use Rattle.aio_base.specs.declared.outcomes.Failed.{Failed}
use Rattle.aio_base.specs.declared.steps.Answer.{Answer}
use Rattle.aio_base.specs.declared.steps.Answer.TheVariants as answer
use Rattle.aio_source.specs.Rules.{new_source}
use Rattle.aio_react.specs.declared.entries.Listener.{Listener}
use Rattle.aio_react.specs.declared.entries.SourceEntry.{SourceEntry}
use Rattle.aio_react.specs.declared.refusals.CoreRefusal.{CoreRefusal}
use Rattle.aio_react.specs.declared.refusals.CoreRefusal.TheVariants as refusal
use Rattle.aio_react.specs.Cores.{CoreValue, entry_at, count_of}
use Rattle.aio_source.specs.KeyTables.{least_free, put_at}
use Rattle.aio_react.specs.Standing.{count_entries}

-- ## Adding

-- the least key that is not live
abbrev pub free_key : List (Option SourceEntry) → ℕ
free_key sources = least_free sources

-- a source at a place, which may be the first past the end
abbrev pub placed : List (Option SourceEntry) → ℕ → SourceEntry → List (Option SourceEntry)
placed sources at entry = put_at sources at entry

-- a source of which nothing has happened, with no listener
abbrev pub new_entry : Key → SourceEntry
new_entry key = record { source = new_source key; listeners = 0 }

abbrev pub with_sources : CoreValue → List (Option SourceEntry) → CoreValue
with_sources core sources = record core { sources = sources }

-- `Full` exactly where as many sources live as may; else the least free key, or a fault of the poller
abbrev pub AnswersAdd : List (Option SourceEntry) → Result Key CoreRefusal → Type 0
AnswersAdd sources (Ok key) = (count_entries sources < 4096) × (key.0 ≡ free_key sources)
AnswersAdd sources (Err refusal.Full) = 4096 ≤ count_entries sources
AnswersAdd sources (Err (refusal.AddFault fault)) = count_entries sources < 4096
AnswersAdd sources (Err refused) = ⊥

-- the core once an `add` answered so
abbrev pub after_add : CoreValue → Result Key CoreRefusal → CoreValue
after_add core (Ok key) = with_sources core (placed core.sources key.0 (new_entry key))
after_add core (Err refused) = core

-- what the poller answered to an `add`, where it was asked
abbrev pub add_told : Result Key CoreRefusal → Option (Result (Unit {0}) Failed)
add_told (Ok key) = Some (Ok tt)
add_told (Err (refusal.AddFault fault)) = Some (Err (record {}))
add_told (Err refused) = None

-- the fault of the poller that an `add` answered
abbrev pub add_failure : Result Key CoreRefusal → Option CountFault
add_failure (Err (refusal.AddFault fault)) = Some fault
add_failure answered = None

-- the answer of the machine to an `add`
abbrev pub add_reply : Result Key CoreRefusal → Answer
add_reply (Ok key) = answer.KeyIs key
add_reply (Err (refusal.AddFault fault)) = answer.FaultAdd
add_reply (Err refused) = answer.Full

-- ## Taking out

-- whether the key of a live source has no listener
abbrev pub IsUnheard : List (Option SourceEntry) → List (Option Listener) → ℕ → Type 0
IsUnheard sources listeners key = IsSome (entry_at sources key) × (count_of key listeners ≡ 0)

-- `NoSource` exactly where the key is not live, then `InUse` exactly where a listener of it lives; else done, or a fault of the poller
abbrev pub AnswersDel : List (Option SourceEntry) → List (Option Listener) → ℕ → Result (Unit {0}) CoreRefusal → Type 0
AnswersDel sources listeners key (Ok done) = IsUnheard sources listeners key
AnswersDel sources listeners key (Err refusal.NoSource) = entry_at sources key ≡ None
AnswersDel sources listeners key (Err refusal.InUse) = IsSome (entry_at sources key) × (0 < count_of key listeners)
AnswersDel sources listeners key (Err (refusal.RemoveFault fault)) = IsUnheard sources listeners key
AnswersDel sources listeners key (Err refused) = ⊥

abbrev pub without_source : CoreValue → ℕ → CoreValue
without_source core key = with_sources core (slice_set core.sources key None)

-- the core once a `del` answered so: a source goes where the poller failed as well
abbrev pub after_del : CoreValue → ℕ → Result (Unit {0}) CoreRefusal → CoreValue
after_del core key (Ok done) = without_source core key
after_del core key (Err (refusal.RemoveFault fault)) = without_source core key
after_del core key (Err refused) = core

-- what the poller answered to a `del`, where it was asked
abbrev pub del_told : Result (Unit {0}) CoreRefusal → Option (Result (Unit {0}) Failed)
del_told (Ok done) = Some (Ok tt)
del_told (Err (refusal.RemoveFault fault)) = Some (Err (record {}))
del_told (Err refused) = None

-- the fault of the poller that a `del` answered
abbrev pub del_failure : Result (Unit {0}) CoreRefusal → Option CountFault
del_failure (Err (refusal.RemoveFault fault)) = Some fault
del_failure answered = None

-- the answer of the machine to a `del`
abbrev pub del_reply : Result (Unit {0}) CoreRefusal → Answer
del_reply (Ok done) = answer.Gone
del_reply (Err refusal.InUse) = answer.InUse
del_reply (Err (refusal.RemoveFault fault)) = answer.FaultRemove
del_reply (Err refused) = answer.NoSource
