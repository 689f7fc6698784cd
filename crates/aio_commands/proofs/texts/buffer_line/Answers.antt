use Rattle.std.proofs.Common.{arith, rules}
use Rattle.std.proofs.lemmas.Grind.{common_steps}
use Rattle.aio_commands.proofs.texts.buffer_line.Goals as goal

pub returns-then-is_err-clause-buffers : goal.returns-then-is_err-clause-buffers
returns-then-is_err-clause-buffers g c = grind (arith, common_steps)

pub returns-then-is_err-clause-cause : goal.returns-then-is_err-clause-cause
returns-then-is_err-clause-cause g c = search rules

pub returns-then-len-lt-BLOCK-clause-buffers : goal.returns-then-len-lt-BLOCK-clause-buffers
returns-then-len-lt-BLOCK-clause-buffers g c = search rules

pub returns-then-len-lt-BLOCK-clause-blocks : goal.returns-then-len-lt-BLOCK-clause-blocks
returns-then-len-lt-BLOCK-clause-blocks g c = search rules

pub returns-then-len-lt-BLOCK-clause-cause : goal.returns-then-len-lt-BLOCK-clause-cause
returns-then-len-lt-BLOCK-clause-cause g c = search rules

pub returns-clause-buffers : goal.returns-clause-buffers
returns-clause-buffers g c = search rules

pub returns-clause-blocks : goal.returns-clause-blocks
returns-clause-blocks g c = search rules

pub returns-clause-cause : goal.returns-clause-cause
returns-clause-cause g c = search rules
