use Rattle.std.proofs.Common.{rules}
use Rattle.aio_timers.proofs.DueCountLemmas.{few-due_wakers}
use Rattle.aio_react.proofs.round.make_pass_room.Goals as goal

pub returns-then-is_ok-clause-room : goal.returns-then-is_ok-clause-room
returns-then-is_ok-clause-room c = search (rules, few-due_wakers c.args.now c.args.book.now.entries)
