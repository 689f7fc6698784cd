use Rattle.std.proofs.Common.{sym, ap, ◌∙◌}
use Rattle.aio_base.specs.Connections.{sure_read, telling_read}
use Rattle.aio_base.proofs.ConnectionRests.{reads_sure, reads_telling}
use Rattle.aio_base.proofs.connections.a_connection_is_read_off_its_rest.Goals as goal

pub returns-clause-sure : goal.returns-clause-sure
returns-clause-sure g c = λ conn. sym (ap sure_read (g.met.C.Conn.rest_is_laid_out conn) ∙ reads_sure (g.C.Faults.is_sure conn) (g.C.Tells.telling conn))

pub returns-clause-told : goal.returns-clause-told
returns-clause-told g c = λ conn. sym (ap telling_read (g.met.C.Conn.rest_is_laid_out conn) ∙ reads_telling (g.C.Faults.is_sure conn) (g.C.Tells.telling conn))
