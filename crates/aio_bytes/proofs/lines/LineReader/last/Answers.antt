use Rattle.std.proofs.Common.{ap, length, arith}
use Rattle.aio_bytes.proofs.Finding.{ends_unread, none_of_length, takes_last}
use Rattle.aio_bytes.proofs.lines.LineReader.last.Goals as goal

pub returns-clause-found : goal.returns-clause-found
returns-clause-found c = λ none told unread is at_end.
    rw (c.take_rest.ensures.line, c.take_rest.ensures.ahead)
    (takes_last told c.args.self.now.ahead unread is at_end (λ empty. c.if-ahead_len-eq0.false (omega (arith, c.ahead_len.ensures.value, ap length empty)))
    none (omega (arith, c.ahead_len.ensures.value, c.ahead_len.ensures.bound)))

pub returns-then-ahead_len-eq0-clause-found : goal.returns-then-ahead_len-eq0-clause-found
returns-then-ahead_len-eq0-clause-found c = λ none told unread is at_end.
    ends_unread told _ unread is at_end (none_of_length _ (omega (arith, c.ahead_len.ensures.value, c.if-ahead_len-eq0.true)))
