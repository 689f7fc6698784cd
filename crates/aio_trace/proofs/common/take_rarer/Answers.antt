use Rattle.std.proofs.Common.{ap, arith, codes}
use Rattle.std.proofs.lemmas.Slice.Eq.{text_from_reads}
use Rattle.aio_base.specs.Lines.{first, words_in, words_read}
use Rattle.aio_trace.proofs.common.take_rarer.Goals as goal

pub hand-requires-in-react-clause-read : goal.hand-requires-in-react-clause-read
hand-requires-in-react-clause-read g c =
    ap (λ line. words_read first (words_in line)) (text_from_reads c.args.line.now (codes "react") (omega arith) assumption)

pub hand-requires-clause-read : goal.hand-requires-clause-read
hand-requires-clause-read g c =
    ap (λ line. words_read first (words_in line)) (text_from_reads c.args.line.now (codes "add") (omega arith) assumption)

pub hand-requires-in-handle-clause-read : goal.hand-requires-in-handle-clause-read
hand-requires-in-handle-clause-read g c =
    ap (λ line. words_read first (words_in line)) (text_from_reads c.args.line.now (codes "handle") (omega arith) assumption)

pub hand-requires-in-wait-clause-read : goal.hand-requires-in-wait-clause-read
hand-requires-in-wait-clause-read g c =
    ap (λ line. words_read first (words_in line)) (text_from_reads c.args.line.now (codes "wait") (omega arith) assumption)

pub hand-requires-in-finish-clause-read : goal.hand-requires-in-finish-clause-read
hand-requires-in-finish-clause-read g c =
    ap (λ line. words_read first (words_in line)) (text_from_reads c.args.line.now (codes "finish") (omega arith) assumption)

pub hand-requires-in-interrupt-clause-read : goal.hand-requires-in-interrupt-clause-read
hand-requires-in-interrupt-clause-read g c =
    ap (λ line. words_read first (words_in line)) (text_from_reads c.args.line.now (codes "interrupt") (omega arith) assumption)
