use Rattle.std.proofs.Common.{rules}
use Rattle.aio_ops.proofs.ops.Ops.apply_after_drain.Goals as goal

pub returns-in_err-reserve-clause-applied : goal.returns-in_err-reserve-clause-applied
returns-in_err-reserve-clause-applied g c = search rules

pub returns-in_err-reserve-clause-pass : goal.returns-in_err-reserve-clause-pass
returns-in_err-reserve-clause-pass g c = search rules

pub returns-in_err-reserve-clause-refused : goal.returns-in_err-reserve-clause-refused
returns-in_err-reserve-clause-refused g c = search rules

pub returns-in_err-reserve-clause-kept : goal.returns-in_err-reserve-clause-kept
returns-in_err-reserve-clause-kept g c = search rules

pub returns-clause-applied : goal.returns-clause-applied
returns-clause-applied g c = search rules

pub returns-clause-pass : goal.returns-clause-pass
returns-clause-pass g c = search rules
