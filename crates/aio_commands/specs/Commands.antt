-- Which words name a command; and what a status says: its number, its text, and what became of input and output.
use Rattle.std.specs.Prelude.{◌≡◌, ℕ, ◌-◌, ◌^◌, Bool, true, false, List, [], ◌∷◌, ◌++◌, flat_map, Option, None, Some, MatchOption, Result, Ok, Err, IfErr, codes, decimal, ⊤}
use Rattle.std.specs.Io.KnownBytes.{Appends}
use Rattle.std.specs.Option.{option_map_or}
use Rattle.aio_base.specs.declared.outcomes.CountFault.{CountFault}
use Rattle.aio_base.specs.declared.steps.Step.{Step}
use Rattle.aio_base.specs.Generated.{counts_line, run_counts}
use Rattle.aio_base.specs.Lines.{written_line}
use Rattle.aio_base.specs.declared.steps.Reason.{Reason}
use Rattle.aio_base.specs.Text.{ended_line, reason_text}
use Rattle.aio_base.specs.Devices.{TellsFaults}
use Rattle.aio_bytes.specs.Sinks.{AppendsPart, HasFailed, RefusedBy, Writes}
use Rattle.aio_bytes.specs.declared.traits.SinkRefusal.{SinkRefusal}
use Rattle.aio_bytes.specs.declared.traits.SinkRefusal.TheVariants as refused
use Rattle.aio_line.specs.Words.{IsRelay, SpellsUpTo}
use Rattle.aio_commands.specs.declared.commands.Command.{Command}
use Rattle.aio_commands.specs.declared.commands.Command.TheVariants as command
use Rattle.aio_commands.specs.declared.status.Why.{Why}
use Rattle.aio_commands.specs.declared.status.Why.TheVariants as why
use Rattle.aio_replay.specs.declared.ends.ReplayEnd.{ReplayEnd}
use Rattle.aio_replay.specs.declared.ends.ReplayEnd.TheVariants as ends
use Rattle.aio_replay.specs.Ends as replay_ends
use Rattle.aio_replay.specs.Ends.{tells_read_fault, tells_write_fault}
use Rattle.aio_replay.specs.Language.{Told}

-- ## The words of commands

-- the words of the command that replays a trace
abbrev pub IsReplay : List (List ℕ) → Type 0
IsReplay words = words ≡ codes "replay" ∷ []

-- the words are a name, a number that is at most so great, and a seed
abbrev pub IsOfNumbers : ℕ → List ℕ → ℕ → ℕ → List (List ℕ) → Type 0
IsOfNumbers most name n seed (word ∷ count ∷ from ∷ []) = (word ≡ name) × SpellsUpTo most n count × SpellsUpTo (2 ^ 48 - 1) seed from
IsOfNumbers most name n seed _ = ⊥

-- the words of the command that writes the trace of so many steps from a seed
abbrev pub IsGen : ℕ → ℕ → List (List ℕ) → Type 0
IsGen n seed words = IsOfNumbers 999999 (codes "gen") n seed words

-- the words of the command that writes what a run of these steps comes to
abbrev pub IsSum : ℕ → ℕ → List (List ℕ) → Type 0
IsSum n seed words = IsOfNumbers 999999 (codes "sum") n seed words

-- the words of the command that lets two jobs make so many calls each, drawn from this seed and the next
abbrev pub IsStress : ℕ → ℕ → List (List ℕ) → Type 0
IsStress calls seed words = IsOfNumbers 100000 (codes "stress") calls seed words

-- the words of each command that is built
abbrev pub Names : Command → List (List ℕ) → Type 0
Names command.Replay words = IsReplay words
Names (command.Gen n seed) words = IsGen n seed words
Names (command.Sum n seed) words = IsSum n seed words
Names (command.Relay order) words = IsRelay order words
Names (command.Stress calls seed) words = IsStress calls seed words

-- ## The ends of the program

-- the line that tells which line of a trace is refused, and why
abbrev pub refusal_text : ℕ → Reason → List ℕ
refusal_text line reason = ended_line (codes "line " ++ decimal line ++ codes ": " ++ reason_text reason)

-- the exit status of the program
abbrev pub exit_of : Why → ℕ
exit_of why.Done = 0
exit_of why.Usage = 1
exit_of (why.Refused line reason) = 2
exit_of (why.ReadFault fault) = 3
exit_of (why.WriteFault fault) = 4
exit_of why.OutOfMemory = 5
exit_of (why.DeviceFault which fault) = 6

abbrev pub usage_text : List ℕ
usage_text = codes "usage: replay; gen N SEED; sum N SEED; relay PORT WORKERS IDLE PAIRS; stress CALLS SEED"

-- the text for the user, with its line feed
abbrev pub text_of : Why → List ℕ
text_of why.Done = []
text_of why.Usage = ended_line usage_text
text_of (why.Refused line reason) = refusal_text line reason
text_of (why.ReadFault fault) = ended_line (codes "read fault")
text_of (why.WriteFault fault) = ended_line (codes "write fault")
text_of why.OutOfMemory = ended_line (codes "out of memory")
text_of (why.DeviceFault which fault) = ended_line (codes "device fault")

-- ## A replay

-- why the program ends where a replay ended so
abbrev pub why_of : ReplayEnd → Why
why_of ends.Done = why.Done
why_of (ends.Refused line reason) = why.Refused line reason
why_of (ends.ReadFault fault) = why.ReadFault fault
why_of (ends.WriteFault fault) = why.WriteFault fault
why_of ends.OutOfMemory = why.OutOfMemory

-- the end of the replay for which the program ends so; none of another cause
abbrev pub end_of : Why → Option ReplayEnd
end_of why.Done = Some ends.Done
end_of why.Usage = None
end_of (why.Refused line reason) = Some (ends.Refused line reason)
end_of (why.ReadFault fault) = Some (ends.ReadFault fault)
end_of (why.WriteFault fault) = Some (ends.WriteFault fault)
end_of why.OutOfMemory = Some ends.OutOfMemory
end_of (why.DeviceFault which fault) = None

-- What a command that answers the lines of an input, which come to this, has done where the program ended so; no other cause comes of such a command.
abbrev pub WritesTold : {State : Type 0} → Told State → Why → (left out_old out_new : Option (List ℕ)) → Type 0
WritesTold told w left out_old out_new = MatchOption (end_of w) ⊥ (λ end. replay_ends.WritesTold told end left out_old out_new)

-- whether the program ends for a device
abbrev pub is_device_fault : Why → Bool
is_device_fault (why.DeviceFault which fault) = true
is_device_fault _ = false

abbrev pub is_read_fault : Why → Bool
is_read_fault w = option_map_or tells_read_fault (end_of w) false

abbrev pub is_write_fault : Why → Bool
is_write_fault w = option_map_or tells_write_fault (end_of w) false

-- a fault is told by the counts before and after the call of the device that failed
abbrev pub TellsCounts : Why → ℕ → ℕ → ℕ → ℕ → Type 0
TellsCounts w reads_old reads_new writes_old writes_new =
    MatchOption (end_of w) ⊤ (λ end. replay_ends.TellsCounts end reads_old reads_new writes_old writes_new)

-- the bytes that are taken of a source at most, where its input may have so many lines
abbrev pub bytes_taken : ℕ → Why → List ℕ → ℕ
bytes_taken limit w input = option_map_or (λ end. replay_ends.bytes_taken limit end input) (end_of w) 0

-- ## A text that is written

-- the header as it is written, one space between its words
abbrev pub header_text : List ℕ
header_text = codes "trace 1"

-- the text of the trace of some steps: the header, and the line of each
abbrev pub trace_text : List Step → List ℕ
trace_text steps = ended_line header_text ++ flat_map (λ s. ended_line (written_line s)) steps

-- the line of what the run of some steps comes to
abbrev pub summary_text : List Step → List ℕ
summary_text steps = ended_line (counts_line (run_counts steps))

-- What was written of a text by a command that writes one, where the program ended so: all of it; or a front part, where the output failed or memory
-- ran out. No other cause comes of such a command.
abbrev pub WritesText : Why → Option (List ℕ) → Option (List ℕ) → List ℕ → Type 0
WritesText why.Done out_old out_new text = Appends out_old out_new text
WritesText (why.WriteFault fault) out_old out_new text = AppendsPart out_old out_new text
WritesText why.OutOfMemory out_old out_new text = AppendsPart out_old out_new text
WritesText _ out_old out_new text = ⊥

-- why the program ends where the output answered so to a text, with what its counts of faults tell
abbrev pub why_written : Result (Unit {0}) SinkRefusal → CountFault → Why
why_written (Ok done) fault = why.Done
why_written (Err refused.Failed) fault = why.WriteFault fault
why_written (Err refused.OutOfMemory) fault = why.OutOfMemory

-- ## What the user is told

-- The text for the user was written to a sink: whole, or a front part of it where a call of the sink was answered by a refusal; being sure stays.
pub record WritesCause {S : Type 0} (contents : S → Option (List ℕ)) (write_step : S → List ℕ → Result ℕ SinkRefusal → S → Type 0)
    (count : S → ℕ) (is_sure : S → Bool) (old new : S) (text : List ℕ) : Type 0 where
  pub answer : Result (Unit {0}) SinkRefusal
  pub written : Writes answer (contents old) (contents new) text
  pub refused : IfErr answer (RefusedBy write_step new)
  pub cause : TellsFaults count is_sure old new (HasFailed answer)
