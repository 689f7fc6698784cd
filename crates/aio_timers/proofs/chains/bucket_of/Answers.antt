-- The low bits of an id are its rest by a power of two.
use Rattle.std.proofs.lemmas.Nat.{and_mask}
use Rattle.aio_timers.proofs.chains.bucket_of.Goals as goal

pub returns-clause-value : goal.returns-clause-value
returns-clause-value c = rw (c.len.ensures, c.requires.1) (and_mask c.args.id.0 c.requires.0)
