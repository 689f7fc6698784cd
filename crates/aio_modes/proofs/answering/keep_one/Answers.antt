use Rattle.aio_base.specs.declared.names.TheConstants.Interest.{NONE}
use Rattle.std.proofs.Common.{rules}
use Rattle.std.specs.Prelude.{slice_index_or}
use Rattle.aio_base.specs.declared.names.Event.{Event}
use Rattle.std.proofs.lemmas.List.Filters.{FiltersInPlace-more_set, FiltersInPlace-more_no}
use Rattle.aio_modes.proofs.answering.keep_one.Goals as goal

abbrev first : Event
first = record { key = record { 0 = 0 }; on = NONE }

pub returns-then-not-has_some-clause-keeps : goal.returns-then-not-has_some-clause-keeps
returns-then-not-has_some-clause-keeps c = λ all so_far. FiltersInPlace-more_no {x = slice_index_or c.args.events.now c.args.index first} so_far (search rules) (search rules) (search rules)

pub returns-clause-keeps : goal.returns-clause-keeps
returns-clause-keeps c = λ all so_far. FiltersInPlace-more_set {x = slice_index_or c.args.events.now c.args.index first} so_far (search rules) (search rules) (search rules)
