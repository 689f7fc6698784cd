use Rattle.std.proofs.Common.{◌∙◌, sym}
use Rattle.aio_tasks.proofs.NameFields.{padded}
use Rattle.aio_tasks.proofs.names.Name.new.Goals as goal

pub invariant_of-result : goal.invariant_of-result
invariant_of-result c = padded c.copy_from_slice.new.self c.args.bytes.now c.copy_from_slice.ensures.after (sym c.is_name.ensures ∙ c.if-not-is_name.false)
