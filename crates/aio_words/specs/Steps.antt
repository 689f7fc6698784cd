-- A step of a seat, in what contracts see: which steps it may make, and what it is after them.
use Rattle.aio_rules.specs.declared.seats.WordStep.{WordStep}
use Rattle.aio_rules.specs.SharedWords.{May, after}
use Rattle.aio_rules.specs.WordCalls.{and_did}
use Rattle.std.specs.Prelude.{List}
use Rattle.aio_words.specs.Seats.{WordsValue, SeatValue, Belongs}

-- the seat is one of these words, by whose rule it may make this step
abbrev pub MayStep : WordsValue → SeatValue → WordStep → Type 0
MayStep words seat s = Belongs words seat × May words.parkers seat.view s

-- the seat after one step
abbrev pub stepped : WordStep → SeatValue → SeatValue
stepped s seat = record seat { view = after s seat.view }

-- the seat after steps that left nothing behind but themselves
abbrev pub did_all : List WordStep → SeatValue → SeatValue
did_all steps seat = record seat { view = and_did steps seat.view }
