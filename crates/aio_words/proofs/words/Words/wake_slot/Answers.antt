use Rattle.aio_words.proofs.Waking.{woke_by_bit, woke_by_look, woke_by_exchange}
use Rattle.aio_words.proofs.words.Words.wake_slot.Goals as goal

pub returns-then-others-ne0 : goal.returns-then-others-ne0
returns-then-others-ne0 c = woke_by_bit _ _ _ 0 0 _ c.requires.1.2.1 _ c.set_bit-others.ensures c.if-others-ne0.true

pub returns-then-waits-ne1 : goal.returns-then-waits-ne1
returns-then-waits-ne1 c = woke_by_look _ _ _ _ 0 _ c.requires.1.2.1 _ _ c.set_bit-others.ensures c.load_blocked-waits.ensures c.if-others-ne0.false c.if-waits-ne1.true

pub returns : goal.returns
returns c = woke_by_exchange _ _ _ _ _ _ c.requires.1.2.1 _ _ _ c.set_bit-others.ensures c.load_blocked-waits.ensures c.exchange_notified.ensures c.if-others-ne0.false c.if-waits-ne1.false
