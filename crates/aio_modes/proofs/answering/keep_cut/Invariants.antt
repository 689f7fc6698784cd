use Rattle.aio_modes.specs.Interests.{has_directions}
use Rattle.std.proofs.lemmas.List.Filters.{FiltersInPlace}
use Rattle.aio_modes.proofs.answering.keep_cut.Given as goal

abbrev pub invariant-loop-index : goal.invariant-loop-index
invariant-loop-index l = FiltersInPlace has_directions l.initial.events l.events l.left l.index
