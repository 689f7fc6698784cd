-- The writing in the second version as a language: what it makes of the lines of an input, one by one.
use Rattle.std.specs.Prelude.{ℕ, ◌+◌, Bool, true, false, nat_lt, List, [], Option, None, Some, Ok, Err}
use Rattle.aio_base.specs.declared.steps.LineFault.{LineFault}
use Rattle.aio_base.specs.declared.steps.Step.{Step}
use Rattle.aio_base.specs.declared.steps.Reason.TheVariants as reason
use Rattle.aio_base.specs.Lines.{fault_of, step_read}
use Rattle.aio_base.specs.Text.{ended_line}
use Rattle.aio_base.specs.Trace.{is_header, line_limit, reason_of}
use Rattle.aio_replay.specs.Language.{Language, Reply}
use Rattle.aio_tasks.specs.Lines2.{repeat_limit}
use Rattle.aio_tasks.specs.Migrating.{Block, header2, lines_text, repeated, same_step}

-- how a block that is held is written
abbrev pub part_text : Block → List ℕ
part_text b = lines_text (repeated b.step b.times)

-- One more step behind a block that is held: it joins it, unless it is another, or as many are held as one line may repeat.
abbrev pub joined : Block → Step → (same few : Bool) → List ℕ × Option Block
joined b t true true = ([], Some (record { step = b.step; times = b.times + 1 }))
joined b t true false = (part_text b, Some (record { step = b.step; times = 1 }))
joined b t false few = (part_text b, Some (record { step = t; times = 1 }))

abbrev pub passed : Option Block → Step → List ℕ × Option Block
passed None t = ([], Some (record { step = t; times = 1 }))
passed (Some b) t = joined b t (same_step b.step t) (nat_lt b.times repeat_limit)

abbrev pub migrate_reply : Option Block → Option LineFault → Option Step → Reply (Option Block)
migrate_reply held (Some fault) read = Err (reason_of fault)
migrate_reply held None (Some t) = Ok (passed held t)
migrate_reply held None None = Ok ([], held)

abbrev pub migrate_header : Bool → Reply (Option Block)
migrate_header true = Ok (ended_line header2, None)
migrate_header false = Err reason.Header

abbrev pub held_text : Option Block → List ℕ
held_text None = []
held_text (Some b) = part_text b

-- a state is the block that is held back, where there is one
abbrev pub migration : Language (Option Block)
migration = record {
  opening = None;
  header = λ bytes. migrate_header (is_header bytes);
  limit = λ held. line_limit;
  long = reason.Long;
  line = λ held bytes. migrate_reply held (fault_of bytes) (step_read bytes);
  held = held_text;
  unended = λ held. None;
}
