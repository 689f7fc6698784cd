use Rattle.aio_pairs.proofs.SearchLemmas.{search-goes, search-ends}
use Rattle.aio_pairs.proofs.lines.lines_end.Goals as goal

pub loop-feed-preserved : goal.loop-feed-preserved
loop-feed-preserved c = search-goes _ c.loop-feed.line c.loop-feed.searched _ _ c.loop-feed.invariant c.window_end-window.ensures c.in-Some.ensures

pub returns-in-None : goal.returns-in-None
returns-in-None c = search-ends _ c.loop-feed.line c.loop-feed.searched _ c.loop-feed.invariant c.window_end-window.ensures c.in-None.ensures
