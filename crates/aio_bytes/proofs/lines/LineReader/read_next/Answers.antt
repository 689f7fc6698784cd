use Rattle.std.proofs.Common.{◌≡◌, refl, arith, ap, ◌∙◌}
use Rattle.std.proofs.lemmas.Grind.{common_steps}
use Rattle.std.specs.List.{list_any}
use Rattle.aio_bytes.specs.Held.{is_line_feed}
use Rattle.aio_bytes.proofs.Finding.{unread-same, read-none, unread-read, unread-kept, unread-most}
use Rattle.aio_bytes.proofs.lines.LineReader.read_next.Goals as goal

pub returns-in-Ok-eq0-clause-found : goal.returns-in-Ok-eq0-clause-found
returns-in-Ok-eq0-clause-found g c = λ unread is.
    let ahead = c.loop-self.invariant.unread unread is in
    let read = c.in-Ok-eq0.ensures.ok in
    let zero : c.in-Ok-eq0.field-0 ≡ 0 = cc in
    let same = read-none _ _ _ _ _ zero read in
    c.last.ensures.found (ap (list_any is_line_feed) same ∙ c.loop-self.invariant.no_line) _ unread (unread-read _ _ _ _ unread _ ahead read) (read.at_end zero)

pub returns-in-Err-clause-found : goal.returns-in-Err-clause-found
returns-in-Err-clause-found g c = λ unread is.
    unread-most _ c.read.new.self.ahead unread (unread-kept _ _ _ _ unread (c.loop-self.invariant.unread unread is) c.in-Err.ensures.kept c.in-Err.ensures.ahead) c.read.ensures.bound

pub returns-in-Err-clause-kept : goal.returns-in-Err-clause-kept
returns-in-Err-clause-kept g c = λ unread is.
    unread-kept _ _ _ _ unread (c.loop-self.invariant.unread unread is) c.in-Err.ensures.kept c.in-Err.ensures.ahead

pub returns-in-Some-clause-found : goal.returns-in-Some-clause-found
returns-in-Some-clause-found g c = λ unread is.
    c.in-Some.ensures.found _ unread (unread-read _ _ _ _ unread _ (c.loop-self.invariant.unread unread is) c.in-Ok.ensures.ok)

pub loop-self-preserved : goal.loop-self-preserved
loop-self-preserved g c = record {
  room = c.in-None.ensures.room refl;
  no_line = ap (list_any is_line_feed) (c.in-None.ensures.kept refl) ∙ c.in-None.ensures.none refl;
  unread = λ unread is.
      unread-same _ _ c.next_ahead.new.self.ahead unread (unread-read _ _ _ _ unread _ (c.loop-self.invariant.unread unread is) c.in-Ok.ensures.ok)
      (c.in-None.ensures.kept refl);
  faults = grind (arith, common_steps);
}
