use Rattle.std.proofs.lemmas.List.{drop-drop}
use Rattle.aio_react.proofs.round.RoundInHand.skip.Goals as goal

pub returns : goal.returns
returns c = rw (← c.self.view_is, drop-drop 1 c.self.inside.done c.self.inside.events.items)
