use Rattle.aio_laws.proofs.storings.Numbering.{held_are_of, held_once, storings_held}
use Rattle.aio_laws.proofs.storings.Waking.{only_these, wakes_follow}
use Rattle.aio_laws.proofs.laws.a_step_wakes_whom_it_has_to.Goals as goal

pub returns-clause-follows : goal.returns-clause-follows
returns-clause-follows c = wakes_follow

pub returns-clause-held : goal.returns-clause-held
returns-clause-held c w distinct = (storings_held w, held_once w, held_are_of w distinct)

pub returns-clause-only : goal.returns-clause-only
returns-clause-only c = only_these
