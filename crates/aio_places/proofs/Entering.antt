-- What a read or a write inside a source comes to, as the answer of a call.
use Rattle.std.proofs.Common.{◌≡◌, ℕ, ◌≤◌, Bool, List, Option, Result, Ok, subst, sym, ap, refl}
use Rattle.std.specs.Prelude.{length, take}
use Rattle.aio_base.specs.Connections.{ConnMove, ReadTells, Telling, WriteTells, rest_of}
use Rattle.aio_base.specs.Devices.{ArmCall, Interests}
use Rattle.aio_base.specs.declared.names.Dir.TheVariants as dir
use Rattle.aio_base.specs.declared.names.Waker.{Waker}
use Rattle.aio_base.specs.declared.outcomes.Failed.{Failed}
use Rattle.aio_base.specs.declared.outcomes.Poll.TheVariants.{Ready, Pending}
use Rattle.aio_source.specs.declared.source.SourceCell.{SourceCell}
use Rattle.aio_future.specs.declared.tried.Tried.{Tried}
use Rattle.aio_future.specs.declared.tried.TryFault.{TryFault}
use Rattle.aio_future.specs.declared.tried.TryFault.TheVariants as fault
use Rattle.aio_future.specs.Tries.{FaultsWithin, IsReadAnswer, IsWriteAnswer, MovesWithin, ReadsNow, Tries, WritesNow, bytes_over, fault_counts, read_call, try_answer, write_call}
use Rattle.aio_future.proofs.Trying.{read_faults, read_kind, read_most, read_told, read_tries, write_faults, write_kind, write_most, write_told, write_tries}
use Rattle.aio_pairs.specs.Calls.{EntersToRead, EntersToWrite}
use Rattle.aio_pairs.specs.declared.outcomes.EndTried.{EndTried}
use Rattle.aio_places.specs.SourceEnds.{TriesCalls}

module _ {C T : Type 0} (conn : C → ConnMove → C → Type 0) (step : C → ArmCall → Result (Unit {0}) Failed → C → Type 0) (tells : C → Option Interests)
    (rest : C → List ℕ) (count : C → ℕ) (is_sure : C → Bool) (telling : C → Telling) (laid : (c : C) → rest c ≡ rest_of (is_sure c) (telling c))
    (attempts : T → C → Option (Result ℕ TryFault) → T → C → Type 0) (bytes_in : T → List ℕ) (w : Waker) (a : T) (found : SourceCell C) (ticker : ℕ) (tried : EndTried)
    (left : T) (put : SourceCell C) (rounds : ticker ≡ tried.rounds) where
  module _ (reads : (a : T) (io : C) (given : Option (Result ℕ TryFault)) (left : T) (io_left : C) → attempts a io given left io_left
      → ReadsNow conn telling count is_sure (bytes_in a) io given (bytes_in left) io_left)
      (calls : TriesCalls step tells rest count is_sure attempts (record { dir = dir.Read; waker = w }) a found ticker tried left put) where
    answer_read : try_answer calls.0.answer ≡ tried.answer
    answer_read = sym (ap (λ (t : Tried). t.answer) calls.1)

    pub enters_to_read : EntersToRead conn step tells rest count is_sure found.state found.io (length (bytes_in a)) w tried
        (take (bytes_over tried.answer) (bytes_in left)) put.state put.io
    enters_to_read = record {
      buffer = bytes_in left;
      given = refl;
      tries = subst (λ n. Tries conn step tells rest count is_sure (read_call (length (bytes_in a)) (bytes_in left)) fault.Read dir.Read w n found.state found.io
          (record { answer = tried.answer; replaced = tried.replaced }) put.state put.io) rounds
          (subst (λ (t : Tried). Tries conn step tells rest count is_sure (read_call (length (bytes_in a)) (bytes_in left)) fault.Read dir.Read w ticker
          found.state found.io t put.state put.io) (sym calls.1)
          (read_tries conn step tells rest count is_sure telling laid attempts bytes_in reads _ a found ticker calls.0 left put calls.2));
    }

    pub has_read : ReadTells (telling found.io) (telling put.io) (take (bytes_over tried.answer) (bytes_in left)) (tried.answer ≡ Pending) (tried.answer ≡ Ready (Ok 0))
    has_read = subst (λ answer. ReadTells (telling found.io) (telling put.io) (take (bytes_over answer) (bytes_in left)) (answer ≡ Pending) (answer ≡ Ready (Ok 0)))
        answer_read (read_told conn step tells rest count is_sure telling laid attempts bytes_in reads _ a found ticker calls.0 left put calls.2)

    pub reads_most : bytes_over tried.answer ≤ length (bytes_in left)
    reads_most = subst (λ answer. bytes_over answer ≤ length (bytes_in left)) answer_read
        (read_most conn step tells rest count is_sure telling laid attempts bytes_in reads _ a found ticker calls.0 left put calls.2)

    pub reads_kind : IsReadAnswer tried.answer
    reads_kind = subst IsReadAnswer answer_read
        (read_kind conn step tells rest count is_sure telling laid attempts bytes_in reads _ a found ticker calls.0 left put calls.2)

    pub reads_faults : FaultsWithin (count found.io) (count put.io) (is_sure found.io) (is_sure put.io) (fault_counts tried.answer)
    reads_faults = subst (λ answer. FaultsWithin (count found.io) (count put.io) (is_sure found.io) (is_sure put.io) (fault_counts answer)) answer_read
        (read_faults conn step tells rest count is_sure telling laid attempts bytes_in reads _ a found ticker calls.0 left put calls.2)

  module _ (writes : (a : T) (io : C) (given : Option (Result ℕ TryFault)) (left : T) (io_left : C) → attempts a io given left io_left
      → (left ≡ a) × WritesNow conn telling count is_sure (bytes_in a) io given io_left)
      (calls : TriesCalls step tells rest count is_sure attempts (record { dir = dir.Write; waker = w }) a found ticker tried left put) where
    answer_written : try_answer calls.0.answer ≡ tried.answer
    answer_written = sym (ap (λ (t : Tried). t.answer) calls.1)

    pub enters_to_write : EntersToWrite conn step tells rest count is_sure found.state found.io (bytes_in a) w tried put.state put.io
    enters_to_write = record {
      tries = subst (λ n. Tries conn step tells rest count is_sure (write_call (bytes_in a)) fault.Write dir.Write w n found.state found.io
          (record { answer = tried.answer; replaced = tried.replaced }) put.state put.io) rounds
          (subst (λ (t : Tried). Tries conn step tells rest count is_sure (write_call (bytes_in a)) fault.Write dir.Write w ticker found.state found.io t
          put.state put.io) (sym calls.1)
          (write_tries conn step tells rest count is_sure telling laid attempts bytes_in writes _ a found ticker calls.0 left put calls.2));
    }

    pub has_written : WriteTells (telling found.io) (telling put.io) (take (bytes_over tried.answer) (bytes_in a)) (tried.answer ≡ Pending)
    has_written = subst (λ answer. WriteTells (telling found.io) (telling put.io) (take (bytes_over answer) (bytes_in a)) (answer ≡ Pending)) answer_written
        (write_told conn step tells rest count is_sure telling laid attempts bytes_in writes _ a found ticker calls.0 left put calls.2)

    pub writes_most : MovesWithin (length (bytes_in a)) tried.answer
    writes_most = subst (MovesWithin (length (bytes_in a))) answer_written
        (write_most conn step tells rest count is_sure telling laid attempts bytes_in writes _ a found ticker calls.0 left put calls.2)

    pub writes_kind : IsWriteAnswer tried.answer
    writes_kind = subst IsWriteAnswer answer_written
        (write_kind conn step tells rest count is_sure telling laid attempts bytes_in writes _ a found ticker calls.0 left put calls.2)

    pub writes_faults : FaultsWithin (count found.io) (count put.io) (is_sure found.io) (is_sure put.io) (fault_counts tried.answer)
    writes_faults = subst (λ answer. FaultsWithin (count found.io) (count put.io) (is_sure found.io) (is_sure put.io) (fault_counts answer)) answer_written
        (write_faults conn step tells rest count is_sure telling laid attempts bytes_in writes _ a found ticker calls.0 left put calls.2)
