use Rattle.std.proofs.Common.{rules, ◌≡◌, ◌-◌, ◌≤◌, length, drop, arith, length-drop, length-take-le}
use Rattle.std.specs.Prelude.{decimal}
use Rattle.std.proofs.lemmas.Grind.{common_steps}
use Rattle.std.proofs.lemmas.Fmt.{length-decimal-le}
use Rattle.aio_writing.proofs.writing.push_close.Goals as goal

pub write_digits-digits-requires : goal.write_digits-digits-requires
write_digits-digits-requires g c =
    let few : length (decimal c.args.number) ≤ 20 = search (rules, length-decimal-le 20) in
    (omega (arith, few), omega arith)

pub overflow_sub-start : goal.overflow_sub-start
overflow_sub-start g c =
    let few : length (decimal c.args.number) ≤ 20 = search (rules, length-decimal-le 20) in
    omega (arith, few, c.requires, c.write_digits-digits.ensures.start)

pub copy_from_slice-requires : goal.copy_from_slice-requires
copy_from_slice-requires g c =
    let few : length (decimal c.args.number) ≤ 20 = search (rules, length-decimal-le 20) in
    let at = c.write_digits-digits.result in
    let start = c.write_digits-digits.ensures.start in
    let size : at - (at - g.row.N) ≡ g.row.N = omega (arith, few, c.requires, start) in
    let whole : length c.write_digits-digits.new.buf ≡ 32 = search rules in
    let own : length c.args.word.now ≡ g.row.N = search rules in
    rw (size, own) (length-take-le g.row.N (drop (at - g.row.N) c.write_digits-digits.new.buf) (omega (arith, few, c.requires, start, whole, length-drop (at - g.row.N) c.write_digits-digits.new.buf)))

pub returns : goal.returns
returns g c = record {
  pushes = record {
    ok = grind (arith, common_steps);
    kept = search rules;
    full = grind (arith, common_steps);
    grown = search rules;
  };
}
