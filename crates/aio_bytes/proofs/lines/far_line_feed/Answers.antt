use Rattle.aio_bytes.proofs.LineLemmas.{searched}
use Rattle.aio_bytes.proofs.lines.far_line_feed.Goals as goal

pub returns : goal.returns
returns c = searched c.args.bytes.now c.memchr.result c.memchr.ensures
