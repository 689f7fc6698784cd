use Rattle.aio_source.proofs.Noting.{note_tells_cell}
use Rattle.aio_source.proofs.notes.a_note_tells_its_cell.Goals as goal

pub returns : goal.returns
returns g c = note_tells_cell _
