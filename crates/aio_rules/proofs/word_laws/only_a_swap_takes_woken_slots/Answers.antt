use Rattle.aio_rules.proofs.WordBits.{only_swap_takes_bits}
use Rattle.aio_rules.proofs.word_laws.only_a_swap_takes_woken_slots.Goals as goal

pub returns : goal.returns
returns c = only_swap_takes_bits
