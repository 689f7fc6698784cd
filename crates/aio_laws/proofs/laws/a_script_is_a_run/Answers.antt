use Rattle.aio_laws.proofs.runs.NotesUnread.{notes_unread}
use Rattle.aio_laws.proofs.runs.RunLemmas.{scripted_steps, scripted_answers, scripted_wakes, scripted_world}
use Rattle.aio_laws.proofs.laws.a_script_is_a_run.Goals as goal

pub returns-clause-steps : goal.returns-clause-steps
returns-clause-steps c = scripted_steps

pub returns-clause-answers : goal.returns-clause-answers
returns-clause-answers c = scripted_answers

pub returns-clause-wakes : goal.returns-clause-wakes
returns-clause-wakes c = scripted_wakes

pub returns-clause-world : goal.returns-clause-world
returns-clause-world c = scripted_world

pub returns-clause-unread : goal.returns-clause-unread
returns-clause-unread c = notes_unread
