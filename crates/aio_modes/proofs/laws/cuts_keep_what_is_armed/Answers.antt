use Rattle.aio_modes.proofs.CutLaws.{cut_is_left, cut_names, whole_is_kept}
use Rattle.aio_modes.proofs.laws.cuts_keep_what_is_armed.Goals as goal

pub returns-clause-named : goal.returns-clause-named
returns-clause-named c = cut_names

pub returns-clause-order : goal.returns-clause-order
returns-clause-order c = cut_is_left

pub returns-clause-whole : goal.returns-clause-whole
returns-clause-whole c = whole_is_kept
