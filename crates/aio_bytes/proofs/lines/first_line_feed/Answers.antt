use Rattle.aio_bytes.proofs.LineLemmas.{near_is_first}
use Rattle.aio_bytes.proofs.lines.first_line_feed.Goals as goal

pub returns-then-len-lt-NEAR : goal.returns-then-len-lt-NEAR
returns-then-len-lt-NEAR c = near_is_first c.args.bytes.now c.near_line_feed-len.result c.if-bytes-ge-NEAR.true c.near_line_feed-len.ensures c.if-len-lt-NEAR.true
