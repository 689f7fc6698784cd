use Rattle.std.proofs.Common.{◌∙◌, sym, ap, subst, arith, decimal}
use Rattle.std.specs.Prelude.{IsUtf8}
use Rattle.std.specs.Result.{result_ok}
use Rattle.std.proofs.lemmas.Fmt.{IsAscii-decimal, parse-decimal}
use Rattle.std.proofs.lemmas.Str.{IsUtf8-from_ascii}
use Rattle.aio_log.proofs.reading.number_in.Goals as goal

pub returns-in_default : goal.returns-in_default
returns-in_default c = λ n few is.
    absurd (c.in_default.ensures.cases.0 (subst IsUtf8 (sym is) (IsUtf8-from_ascii (decimal n) (IsAscii-decimal n (omega arith)))))

pub returns : goal.returns
returns c = λ n few is.
    c.ok.ensures.value ∙ ap result_ok (parse-decimal 32 n c.in-Ok.digits.now c.parse.result (omega arith) (omega arith) (c.in-Ok.ensures.cases.0 ∙ is) c.parse.ensures.value.0)
