use Rattle.std.proofs.Common.{rules, ◌≡◌, subst}
use Rattle.std.specs.Prelude.{decimal}
use Rattle.std.specs.Io.KnownBytes.{Appends}
use Rattle.aio_bytes.specs.Sinks.{AppendsPart, Writes}
use Rattle.aio_commands.proofs.Telling.{first_refused, second_refused, end_written}
use Rattle.aio_commands.proofs.ends.tell_refusal.Goals as goal

pub returns-in-Err-clause-written : goal.returns-in-Err-clause-written
returns-in-Err-clause-written g c = first_refused c.args.line c.args.reason _ _ c.in-Err.ensures.written

pub returns-in-Err-write_all-clause-written : goal.returns-in-Err-write_all-clause-written
returns-in-Err-write_all-clause-written g c =
    let digits : c.as_bytes.result.now ≡ decimal c.args.line = search rules in
    second_refused c.args.line c.args.reason _ _ _ c.in-Ok.ensures.written (subst (AppendsPart _ _) digits c.in-Err-write_all.ensures.written)

pub returns-clause-written : goal.returns-clause-written
returns-clause-written g c =
    let digits : c.as_bytes.result.now ≡ decimal c.args.line = search rules in
    end_written c.write_all-3.result c.args.line c.args.reason _ _ _ _ c.in-Ok.ensures.written
    (subst (Appends _ _) digits c.in-Ok-write_all.ensures.written) (subst (Writes c.write_all-3.result _ _) c.refusal_end.ensures c.write_all-3.ensures.written)
