use Rattle.std.proofs.Common.{take, sym, subst}
use Rattle.std.specs.Io.KnownBytes.{Consumes}
use Rattle.aio_mio.specs.Answers.{moved}
use Rattle.aio_mio.proofs.Reading.{behind_front}
use Rattle.aio_mio.proofs.reads.read_on.Goals as goal

pub returns-in-Ok-Bytes-clause-bytes : goal.returns-in-Ok-Bytes-clause-bytes
returns-in-Ok-Bytes-clause-bytes g c =
    subst (Consumes (g.R.Read.remaining c.args.reader.now) (g.R.Read.remaining c.read_from.new.reader))
    (sym (behind_front c.split_at_mut-behind.result.0.now c.read_from.new.buf c.args.count c.in-Ok-Bytes.more c.split_at_mut-behind.ensures.front_len))
    (subst (λ did. Consumes (g.R.Read.remaining c.args.reader.now) (g.R.Read.remaining c.read_from.new.reader) (take (moved did) c.read_from.new.buf))
    c.in-Ok-Bytes.field-0-is c.in-Ok-Bytes.ensures.bytes)
