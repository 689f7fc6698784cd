use Rattle.std.proofs.Common.{◌∙◌, sym}
use Rattle.aio_source.proofs.AskLemmas.{asked_again}
use Rattle.aio_source.proofs.source.SourceState.listen_again_asks.Goals as goal

-- below one of its two numbers a listener asks as a new waiter does
pub returns : goal.returns
returns c w = c.asks_with.ensures ∙ sym (asked_again c.args.self.now c.args.dir c.args.l w c.requires (sym c.ready_since.ensures ∙ c.if-ready_since.false))
