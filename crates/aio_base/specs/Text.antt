-- The trace language in writing: the line of each answer, and the words of a step's places.
use Rattle.std.specs.Prelude.{ℕ, Bool, true, false, List, [], ◌∷◌, ◌++◌, Option, None, Some, codes, decimal}
use Rattle.aio_base.specs.declared.names.Dir.{Dir}
use Rattle.aio_base.specs.declared.names.Dir.TheVariants.{Read, Write, Priority}
use Rattle.aio_base.specs.declared.names.Interest.{Interest}
use Rattle.aio_base.specs.declared.outcomes.EndWord.{EndWord}
use Rattle.aio_base.specs.declared.outcomes.EndWord.TheVariants.{Clean, FaultWait, FaultArm}
use Rattle.aio_base.specs.declared.outcomes.Which.{Which}
use Rattle.aio_base.specs.declared.outcomes.Which.TheVariants as which
use Rattle.aio_base.specs.declared.steps.Answer.{Answer}
use Rattle.aio_base.specs.declared.steps.Answer.TheVariants as answer
use Rattle.aio_base.specs.declared.steps.Reason.{Reason}
use Rattle.aio_base.specs.declared.steps.Reason.TheVariants as reason

-- a line with its line feed
abbrev pub ended_line : List ℕ → List ℕ
ended_line line = line ++ 10 ∷ []

-- ## Answers

abbrev pub end_text : EndWord → List ℕ
end_text Clean = codes "ok"
end_text FaultWait = codes "fault wait"
end_text FaultArm = codes "fault arm"

-- a limit: a number of nanoseconds, or `none`
abbrev pub limit_text : Option ℕ → List ℕ
limit_text None = codes "none"
limit_text (Some limit) = decimal limit

abbrev pub fault_text : Bool → List ℕ
fault_text false = []
fault_text true = codes " fault arm"

-- the line of an answer, without its line feed
unfoldable pub answer_line : Answer → List ℕ
answer_line (answer.KeyIs key) = codes "key " ++ decimal key.0
answer_line answer.Full = codes "full"
answer_line answer.FaultAdd = codes "fault add"
answer_line answer.Gone = codes "gone"
answer_line answer.NoSource = codes "no source"
answer_line answer.InUse = codes "in use"
answer_line answer.FaultRemove = codes "fault remove"
answer_line answer.Ready = codes "ready"
answer_line answer.Pending = codes "pending"
answer_line answer.FaultArm = codes "fault arm"
answer_line (answer.Listener number) = codes "listener " ++ decimal number
answer_line answer.NoListener = codes "no listener"
answer_line answer.Dropped = codes "dropped"
answer_line (answer.Timer number) = codes "timer " ++ decimal number
answer_line (answer.ReadyAt deadline) = codes "ready " ++ decimal deadline
answer_line answer.NoTimer = codes "no timer"
answer_line answer.Set = codes "set"
answer_line answer.Ended = codes "ended"
answer_line (answer.At moment) = codes "at " ++ decimal moment
answer_line (answer.Back moment) = codes "back " ++ decimal moment
answer_line answer.Noted = codes "noted"
answer_line (answer.Begin number limit) = codes "begin " ++ decimal number ++ codes " wait " ++ limit_text limit
answer_line answer.Locked = codes "locked"
answer_line (answer.Given count) = codes "given " ++ decimal count
answer_line answer.Interrupted = codes "interrupted"
answer_line answer.FaultWait = codes "fault wait"
answer_line answer.NoRound = codes "no round"
answer_line (answer.Events count) = codes "events " ++ decimal count
answer_line (answer.Handled key fault) = codes "handled " ++ decimal key.0 ++ fault_text fault
answer_line answer.Empty = codes "empty"
answer_line (answer.End word) = codes "end " ++ end_text word
answer_line (answer.Round number events word) = codes "round " ++ decimal number ++ codes " events " ++ decimal events ++ codes " " ++ end_text word
answer_line (answer.Wake waker) = codes "wake " ++ decimal waker.0

-- the word of a reason
abbrev pub reason_text : Reason → List ℕ
reason_text reason.Long = codes "long"
reason_text reason.Byte = codes "byte"
reason_text reason.Empty = codes "empty"
reason_text reason.Command = codes "command"
reason_text reason.Count = codes "count"
reason_text reason.Number = codes "number"
reason_text reason.Direction = codes "direction"
reason_text reason.Flags = codes "flags"
reason_text reason.Choice = codes "choice"
reason_text reason.Header = codes "header"
reason_text reason.Lines = codes "lines"

-- ## Words of a step

-- the word of a direction; no line has that of Priority
abbrev pub dir_text : Dir → List ℕ
dir_text Read = codes "r"
dir_text Write = codes "w"
dir_text Priority = codes "p"

-- the directions of an event that has no Priority: `-`, `r`, `w` or `rw`
abbrev pub flags_of : Bool → Bool → List ℕ
flags_of false false = codes "-"
flags_of true false = codes "r"
flags_of false true = codes "w"
flags_of true true = codes "rw"

abbrev pub flags_text : Interest → List ℕ
flags_text on = flags_of on.read on.write

abbrev pub which_text : Which → List ℕ
which_text which.Add = codes "add"
which_text which.Arm = codes "arm"
which_text which.Remove = codes "remove"
which_text which.Wait = codes "wait"
