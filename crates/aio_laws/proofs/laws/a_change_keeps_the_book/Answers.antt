use Rattle.aio_base.proofs.BookChanges.{changes_commute}
use Rattle.aio_base.proofs.BookLemmas.{changed_book, passed_book, book_in_order}
use Rattle.aio_laws.proofs.laws.a_change_keeps_the_book.Goals as goal

pub returns-clause-change : goal.returns-clause-change
returns-clause-change c = changed_book

pub returns-clause-pass : goal.returns-clause-pass
returns-clause-pass c = passed_book

pub returns-clause-ordered : goal.returns-clause-ordered
returns-clause-ordered c = book_in_order

pub returns-clause-commute : goal.returns-clause-commute
returns-clause-commute c = changes_commute
