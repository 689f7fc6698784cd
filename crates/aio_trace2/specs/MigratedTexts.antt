-- The steps that can be written in the second version.
use Rattle.std.specs.Prelude.{List, [], ◌∷◌}
use Rattle.aio_base.specs.declared.steps.Step.{Step}
use Rattle.aio_tasks.specs.Lines2.{HasNumbers}

-- each number of each of these steps is in the range of its place
abbrev pub AreNumbered : List Step → Type 0
AreNumbered [] = Unit {0}
AreNumbered (s ∷ steps) = HasNumbers s × AreNumbered steps
