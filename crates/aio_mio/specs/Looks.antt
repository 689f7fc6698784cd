-- The events of the last look at the system.
use Rattle.std.specs.Prelude.{List, drop}
use Rattle.aio_base.specs.declared.names.Event.{Event}
use Rattle.aio_mio.specs.declared.looks.Looks.{Looks}

-- the events that came at the last look and that no wait has given yet
abbrev pub left_over : {E : Type 0} → Looks E → List Event
left_over l = drop l.given l.came.items
