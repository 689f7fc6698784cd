use Rattle.std.proofs.Common.{◌≡◌, cond, Ok, Err, refl, sym, ap, ◌∙◌}
use Rattle.aio_base.specs.declared.steps.LineFault.TheVariants as fault
use Rattle.std.specs.List.{list_all}
use Rattle.aio_base.specs.Lines.{words_in, body_of, first, is_allowed, words_read}
use Rattle.aio_trace.proofs.LineLaws.{long_read, step_read, fault_read}
use Rattle.aio_trace.proofs.reading.read_any_line.Goals as goal

pub returns-then-line-gt-LINE_BYTES : goal.returns-then-line-gt-LINE_BYTES
returns-then-line-gt-LINE_BYTES c = sym (long_read c.args.line.now c.if-line-gt-LINE_BYTES.true)

pub returns-in-Ok : goal.returns-in-Ok
returns-in-Ok c =
    let line = c.args.line.now in
    let words : words_read first (words_in (body_of line)) ≡ Ok c.in-Ok.step =
    ap (λ body. words_read first (words_in body)) (sym c.body_of-body.ensures) ∙ sym c.read_words.ensures ∙ c.in-Ok.is in
    sym (step_read line c.in-Ok.step c.if-line-gt-LINE_BYTES.false words)

pub returns-in-Err : goal.returns-in-Err
returns-in-Err c =
    let line = c.args.line.now in
    let words : words_read first (words_in (body_of line)) ≡ Err c.in-Err.fault =
    ap (λ body. words_read first (words_in body)) (sym c.body_of-body.ensures) ∙ sym c.read_words.ensures ∙ c.in-Err.is in
    let f : c.byte_before.result ≡ cond (list_all is_allowed (body_of line)) c.in-Err.fault fault.Byte =
    c.byte_before.ensures ∙ ap (λ body. cond (list_all is_allowed body) c.in-Err.fault fault.Byte) c.body_of-body.ensures in
    sym (fault_read line c.in-Err.fault (list_all is_allowed (body_of line)) c.if-line-gt-LINE_BYTES.false words refl ∙ ap Err (sym f))
