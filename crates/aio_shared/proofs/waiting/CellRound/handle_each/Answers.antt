use Rattle.aio_shared.proofs.waiting.CellRound.handle_each.Goals as goal

pub returns-clause-handled : goal.returns-clause-handled
returns-clause-handled g c = rw (← c.self.view_is) c.handle_each.ensures.handled
