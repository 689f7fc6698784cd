use Rattle.aio_rules.proofs.WordAccounts.{views_tell_words, no_seat_appears}
use Rattle.aio_rules.proofs.word_laws.every_change_of_the_words_shows_in_a_seat.Goals as goal

pub returns-clause-words : goal.returns-clause-words
returns-clause-words c = views_tell_words

pub returns-clause-seats : goal.returns-clause-seats
returns-clause-seats c = no_seat_appears
