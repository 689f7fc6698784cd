use Rattle.std.proofs.Common.{◌≡◌, Err, ap, sym, ◌∙◌, subst}
use Rattle.aio_replay.specs.declared.ends.End.TheVariants as ends
use Rattle.aio_replay.specs.Answering.{Replied}
use Rattle.aio_replay.specs.Steps.{Closes, LacksMemory}
use Rattle.aio_replay.proofs.StepLemmas.{header_closes, header_lacks, header_long, header_missing, header_read, header_refused, header_unfound, opens_unread}
use Rattle.aio_replay.proofs.driver.Driver.header.Goals as goal

pub returns-in-Err-clause-goes_on : goal.returns-in-Err-clause-goes_on
returns-in-Err-clause-goes_on g c = λ all told.
    header_unfound _ all _ _ _ _ _ _ _ c.requires.opens (c.in-Err.ensures.found all (opens_unread _ all _ _ _ _ c.requires.opens told)) c.in-Err.ensures.sends

pub returns-in-Ok-open-clause-goes_on : goal.returns-in-Ok-open-clause-goes_on
returns-in-Ok-open-clause-goes_on g c = λ all told.
    let r = g.A.Answerer.rules in
    let found = rw c.in-Line.is at (c.in-Ok.ensures.found all (opens_unread _ all _ _ _ _ c.requires.opens told)) in
    header_read _ all _ _ _ _ _ _ _ _ _ _ _ c.requires.opens found c.in-Ok.ensures.sends
    (subst (λ bytes. Replied r (r.language.header bytes) c.next_line.new.text.items c.open.new.gathered.text.items c.open.new.gathered.answerer) c.line.ensures.value
    (c.in-Ok-open.ensures.opens c.requires.opens.stands))

pub returns-in-Err-Refused-clause-goes_on : goal.returns-in-Err-Refused-clause-goes_on
returns-in-Err-Refused-clause-goes_on g c = λ all told.
    let r = g.A.Answerer.rules in
    let found = rw c.in-Line.is at (c.in-Ok.ensures.found all (opens_unread _ all _ _ _ _ c.requires.opens told)) in
    let unchanged = rw c.in-Err-Refused.field-0-is at c.in-Err-Refused.ensures.opens in
    let refused : r.language.header c.next_line.new.reader.line ≡ Err c.in-Err-Refused.reason =
    ap r.language.header (sym c.line.ensures.value) ∙ unchanged.2 in
    header_closes r _ all _ _ _ _ _ _ _ _ _ _ c.requires.opens (header_refused r all _ _ _ _ found refused) found.held c.in-Ok.ensures.sends
    (c.refuse_first.ensures.answerer ∙ unchanged.0)
    (subst (Closes c.refuse_first.result (ends.Refused 1 c.in-Err-Refused.reason) (g.K.Sink.contents c.next_line.new.out) (g.K.Sink.contents c.refuse_first.new.out)) unchanged.1 c.refuse_first.ensures.closes)

pub returns-in-Err-OutOfMemory-clause-goes_on : goal.returns-in-Err-OutOfMemory-clause-goes_on
returns-in-Err-OutOfMemory-clause-goes_on g c = λ all told.
    let found = rw c.in-Line.is at (c.in-Ok.ensures.found all (opens_unread _ all _ _ _ _ c.requires.opens told)) in
    header_lacks _ _ all _ _ _ _ _ _ _ _ _ c.requires.opens found.held c.in-Ok.ensures.sends
    (subst (LacksMemory c.lacks_memory.result _ _) (rw c.in-Err-OutOfMemory.field-0-is at c.in-Err-OutOfMemory.ensures.opens) c.lacks_memory.ensures.lacks)

pub returns-in-Long-clause-goes_on : goal.returns-in-Long-clause-goes_on
returns-in-Long-clause-goes_on g c = λ all told.
    let r = g.A.Answerer.rules in
    let found = rw c.in-Long.is at (c.in-Ok.ensures.found all (opens_unread _ all _ _ _ _ c.requires.opens told)) in
    header_closes r _ all _ _ _ _ _ _ _ _ _ _ c.requires.opens (header_long r all g.met.A.Answerer.language_rules found.0) found.1 c.in-Ok.ensures.sends
    c.refuse_first-in-Long.ensures.answerer c.refuse_first-in-Long.ensures.closes

pub returns-in-End-clause-goes_on : goal.returns-in-End-clause-goes_on
returns-in-End-clause-goes_on g c = λ all told.
    let r = g.A.Answerer.rules in
    let found = rw c.in-End.is at (c.in-Ok.ensures.found all (opens_unread _ all _ _ _ _ c.requires.opens told)) in
    let missing = header_missing r all _ found in
    header_closes r _ all _ _ _ _ _ _ _ _ _ _ c.requires.opens missing.0 missing.1 c.in-Ok.ensures.sends
    c.refuse_first-in-End.ensures.answerer c.refuse_first-in-End.ensures.closes
