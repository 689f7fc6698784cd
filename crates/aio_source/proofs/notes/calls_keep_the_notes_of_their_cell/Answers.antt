use Rattle.aio_source.proofs.Noting.{calls_keep_note}
use Rattle.aio_source.proofs.notes.calls_keep_the_notes_of_their_cell.Goals as goal

pub returns : goal.returns
returns g c = calls_keep_note _ _ _ _ _
