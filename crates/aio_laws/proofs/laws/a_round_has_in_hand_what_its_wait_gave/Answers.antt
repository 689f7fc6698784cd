use Rattle.aio_laws.proofs.rounds.RoundHands.{hand_follows}
use Rattle.aio_laws.proofs.laws.a_round_has_in_hand_what_its_wait_gave.Goals as goal

pub returns : goal.returns
returns c = hand_follows
