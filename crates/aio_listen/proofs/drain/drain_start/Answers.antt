-- Where all wait the drain takes the whole order, else what the walk back has seen.
use Rattle.std.proofs.Common.{None, arith}
use Rattle.aio_listen.proofs.WalkLemmas.{Seen-whole}
use Rattle.aio_listen.proofs.drain.drain_start.Goals as goal

pub go_back-requires : goal.go_back-requires
go_back-requires g c = (c.args.first, c.requires.0, c.requires.1, c.requires.2)

pub returns-then-waiting-len : goal.returns-then-waiting-len
returns-then-waiting-len g c = λ keys h w. (None, Seen-whole c.args.nodes.now c.args.first c.args.last keys c.args.waiting h (omega (arith, h.size, c.len.ensures, c.if-waiting-len.true)))

pub returns : goal.returns
returns g c = λ keys h w. c.go_back.ensures c.args.first keys h w
