use Rattle.std.proofs.Common.{rules}
use Rattle.aio_words.proofs.Allowed.{splits}
use Rattle.aio_words.proofs.table.WordTable.split.Goals as goal

pub split_seat-seat-requires : goal.split_seat-seat-requires
split_seat-seat-requires c = (search rules, search rules, splits _ _ _)
