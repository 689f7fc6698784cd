use Rattle.std.proofs.Common.{◌≡◌, ◌≤◌, true, take}
use Rattle.std.specs.Str.{all_ascii_digits}
use Rattle.std.specs.Str.Parse.{digits_value}
use Rattle.aio_trace.proofs.words.next_number.Given as goal

-- the bytes so far are digits, and this is what they stand for
abbrev pub invariant-loop-at : goal.invariant-loop-at
invariant-loop-at l = record {
  digits : all_ascii_digits (take l.at l.text) ≡ true;
  value : l.value ≡ digits_value 10 (take l.at l.text);
  small : l.value ≤ l.most;
}
