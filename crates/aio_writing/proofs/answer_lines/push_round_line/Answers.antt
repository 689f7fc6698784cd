-- The line has room for the longest numbers: 6 and 20 bytes, 8 and 20 bytes, and 12 behind them.
use Rattle.std.proofs.Common.{rules, ◌≡◌, ℕ, ◌-◌, ◌≤◌, List, length, drop, take, ap, arith, length-drop, length-take, length-take-le}
use Rattle.std.specs.Prelude.{decimal}
use Rattle.std.proofs.lemmas.Grind.{common_steps}
use Rattle.std.proofs.lemmas.Fmt.{length-decimal-le}
use Rattle.std.proofs.lemmas.Slice.{take-put_mid_below}
use borrow.Rule.Slice.PartMut.{put_mid}
use Rattle.aio_writing.proofs.answer_lines.push_round_line.Goals as goal

-- what was in front of a write is in front of it still
front : (a k : ℕ) (xs ys : List ℕ) → a ≤ length xs → a ≤ length (put_mid a k xs ys)
front a k xs ys within =
    let same : take a (put_mid a k xs ys) ≡ take a xs = take-put_mid_below a k xs ys a (omega arith) within in
    omega (arith, ap length same, length-take-le a xs within, length-take a (put_mid a k xs ys))

pub write_digits-events_at-requires : goal.write_digits-events_at-requires
write_digits-events_at-requires g c =
    let few : length (decimal c.from.result) ≤ 20 = search (rules, length-decimal-le 20) in
    (omega (arith, few, c.requires), front (72 - g.row.N) _ _ _ (omega arith))

pub overflow_sub-word_at : goal.overflow_sub-word_at
overflow_sub-word_at g c =
    let few : length (decimal c.from.result) ≤ 20 = search (rules, length-decimal-le 20) in
    omega (arith, few, c.requires, c.write_digits-events_at.ensures.start)

pub copy_from_slice-requires-2 : goal.copy_from_slice-requires-2
copy_from_slice-requires-2 g c =
    let few : length (decimal c.from.result) ≤ 20 = search (rules, length-decimal-le 20) in
    let at = c.write_digits-events_at.result in
    let start = c.write_digits-events_at.ensures.start in
    let eight : at - (at - 8) ≡ 8 = omega (arith, few, c.requires, start) in
    let whole : length c.write_digits-events_at.new.buf ≡ 72 = search rules in
    rw eight (length-take-le 8 (drop (at - 8) c.write_digits-events_at.new.buf) (omega (arith, few, c.requires, start, whole, length-drop (at - 8) c.write_digits-events_at.new.buf)))

pub write_digits-number_at-requires : goal.write_digits-number_at-requires
write_digits-number_at-requires g c =
    let few : length (decimal c.from.result) ≤ 20 = search (rules, length-decimal-le 20) in
    let few_more : length (decimal c.args.number) ≤ 20 = search (rules, length-decimal-le 20) in
    let whole : length c.write_digits-events_at.new.buf ≡ 72 = search rules in (
      omega (arith, few, few_more, c.requires, c.write_digits-events_at.ensures.start),
      front (c.write_digits-events_at.result - 8) _ c.write_digits-events_at.new.buf _ (omega (arith, few, c.requires, c.write_digits-events_at.ensures.start, whole)),
    )

pub overflow_sub-start : goal.overflow_sub-start
overflow_sub-start g c =
    let few : length (decimal c.from.result) ≤ 20 = search (rules, length-decimal-le 20) in
    let few_more : length (decimal c.args.number) ≤ 20 = search (rules, length-decimal-le 20) in
    omega (arith, few, few_more, c.requires, c.write_digits-events_at.ensures.start, c.write_digits-number_at.ensures.start)

pub copy_from_slice-requires-3 : goal.copy_from_slice-requires-3
copy_from_slice-requires-3 g c =
    let few : length (decimal c.from.result) ≤ 20 = search (rules, length-decimal-le 20) in
    let few_more : length (decimal c.args.number) ≤ 20 = search (rules, length-decimal-le 20) in
    let at = c.write_digits-number_at.result in
    let first = c.write_digits-events_at.ensures.start in
    let start = c.write_digits-number_at.ensures.start in
    let six : at - (at - 6) ≡ 6 = omega (arith, few, few_more, c.requires, first, start) in
    let whole : length c.write_digits-number_at.new.buf ≡ 72 = search rules in
    rw six (length-take-le 6 (drop (at - 6) c.write_digits-number_at.new.buf) (omega (arith, few, few_more, c.requires, first, start, whole, length-drop (at - 6) c.write_digits-number_at.new.buf)))

pub returns : goal.returns
returns g c = record {
  pushes = record {
    ok = grind (arith, common_steps);
    kept = search rules;
    full = grind (arith, common_steps);
    grown = search rules;
  };
}
