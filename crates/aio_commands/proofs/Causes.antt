-- What a replay did, said of the cause for which the program ends.
use Rattle.std.proofs.Common.{◌≡◌, ℕ, List, Option}
use Rattle.aio_replay.specs.declared.ends.ReplayEnd.{ReplayEnd}
use Rattle.aio_replay.specs.declared.ends.ReplayEnd.TheVariants as ends
use Rattle.aio_bytes.specs.Unread.{LeavesAllBut}
use Rattle.aio_replay.specs.Ends as replay_ends
use Rattle.aio_replay.specs.Language.{Told}
use Rattle.aio_commands.specs.declared.status.Why.{Why}
use Rattle.aio_commands.specs.Commands.{WritesTold, bytes_taken, why_of}

pub writes_of : {State : Type 0} (told : Told State) (w : Why) (end : ReplayEnd) (left out_old out_new : Option (List ℕ)) → w ≡ why_of end
    → replay_ends.WritesTold told end left out_old out_new → WritesTold told w left out_old out_new
writes_of told w ends.Done left out_old out_new e p = rw e p
writes_of told w (ends.Refused line reason) left out_old out_new e p = rw e p
writes_of told w (ends.ReadFault fault) left out_old out_new e p = rw e p
writes_of told w (ends.WriteFault fault) left out_old out_new e p = rw e p
writes_of told w ends.OutOfMemory left out_old out_new e p = rw e p

pub taken_of : (limit : ℕ) (w : Why) (end : ReplayEnd) (input : List ℕ) (left : Option (List ℕ)) → w ≡ why_of end
    → LeavesAllBut (replay_ends.bytes_taken limit end input) left input → LeavesAllBut (bytes_taken limit w input) left input
taken_of limit w ends.Done input left e p = rw e p
taken_of limit w (ends.Refused line reason) input left e p = rw e p
taken_of limit w (ends.ReadFault fault) input left e p = rw e p
taken_of limit w (ends.WriteFault fault) input left e p = rw e p
taken_of limit w ends.OutOfMemory input left e p = rw e p
