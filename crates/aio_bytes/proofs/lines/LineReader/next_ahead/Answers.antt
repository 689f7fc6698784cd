use Rattle.aio_bytes.proofs.Finding.{begins_long, takes_line, unread-most, unread-same}
use Rattle.aio_bytes.proofs.lines.LineReader.next_ahead.Goals as goal

pub returns-then-find_line-clause-found : goal.returns-then-find_line-clause-found
returns-then-find_line-clause-found c = λ told unread is.
    takes_line told _ _ _ unread is c.if-find_line.ensures.found c.if-find_line.ensures.first c.find_line.ensures.held

pub returns-then-is_full-clause-found : goal.returns-then-is_full-clause-found
returns-then-is_full-clause-found c = λ told unread is.
    let same = unread-same told _ c.find_line.new.self.ahead unread is c.if-find_line.ensures.kept in (
      begins_long told _ unread same (c.is_full.ensures.full.0 c.if-is_full.true) (rw c.if-find_line.ensures.kept c.if-find_line.ensures.none),
      unread-most told _ unread is c.find_line.ensures.held,
    )
