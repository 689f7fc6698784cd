-- Lemmas on the bytes of a backlog in its buffer.
use Rattle.std.proofs.Common.{◌≡◌, ℕ, ◌+◌, ◌-◌, ◌<◌, ◌≤◌, List, [], ◌++◌, length, take, drop, sym, ap, ◌∙◌, subst, arith, slice_range, take-add, length-drop, length-append}
use Rattle.std.proofs.lemmas.List.{take-take, take_all, length-take-le}
use Rattle.aio_pairs.specs.Lines.{HasNoLineFeed, lines, unfinished, longest_line}
use Rattle.aio_pairs.proofs.LineLemmas.{lines-take, lines-length, lines-left, unfinished-clear}
use Rattle.aio_pairs.proofs.SearchLemmas.{slice-length, slice-drop}

pub lines-in : (items : List ℕ) (start mid stop : ℕ) → start ≤ stop → stop ≤ length items → mid ≡ start + length (lines (slice_range items start stop)) → mid ≤ stop
lines-in items start mid stop order within is =
    omega (arith, order, is, lines-length (slice_range items start stop), slice-length items start stop within)

pub lines-are : (items : List ℕ) (start mid stop : ℕ) → start ≤ stop → stop ≤ length items → mid ≡ start + length (lines (slice_range items start stop))
    → slice_range items start mid ≡ lines (slice_range items start stop)
lines-are items start mid stop order within is =
    let bytes = slice_range items start stop in
    let n = length (lines bytes) in
    let size : mid - start ≡ n = omega (arith, is) in
    let fits : n ≤ stop - start = omega (arith, lines-length bytes, slice-length items start stop within) in
    ap (λ k. take k (drop start items)) size ∙ sym (take-take n (stop - start) (drop start items) fits) ∙ lines-take bytes

pub unfinished-size : (items : List ℕ) (start mid stop : ℕ) → start ≤ stop → stop ≤ length items → mid ≡ start + length (lines (slice_range items start stop))
    → length (unfinished (slice_range items start stop)) ≡ stop - mid
unfinished-size items start mid stop order within is =
    let bytes = slice_range items start stop in
    omega (arith, is, length-drop (length (lines bytes)) bytes, slice-length items start stop within)

-- once so many bytes of the lines were written
pub lines-shrink : (items : List ℕ) (start mid stop n : ℕ) → start ≤ stop → stop ≤ length items → mid ≡ start + length (lines (slice_range items start stop))
    → n ≤ length (lines (slice_range items start stop)) → mid ≡ start + n + length (lines (slice_range items (start + n) stop))
lines-shrink items start mid stop n order within is some =
    let bytes = slice_range items start stop in
    let size = slice-length items start stop within in
    let fits : start + n ≤ stop = omega (arith, order, some, lines-length bytes, size) in
    let rest = slice-drop items start stop n fits in
    omega (arith, is, ap length (lines-left bytes n some), length-append (take n bytes) (lines (drop n bytes)), length-take-le n bytes (omega (arith, some, lines-length bytes)), ap (λ l. length (lines l)) rest)

-- bytes of which none is a whole line, and not as many as a line may have
pub held-clear : (bytes : List ℕ) → lines bytes ≡ [] → length (unfinished bytes) < longest_line → (length bytes < longest_line) × HasNoLineFeed bytes
held-clear bytes none short =
    let all : unfinished bytes ≡ bytes = ap (λ l. drop (length l) bytes) none in
    let size : length bytes < longest_line = omega (arith, short, ap length all) in
    (size, subst HasNoLineFeed (ap (take longest_line) all ∙ take_all longest_line bytes (omega (arith, size))) (unfinished-clear bytes))

-- what was held, and what was read behind it
pub read-behind : (items held_bytes : List ℕ) (held n : ℕ) → take held items ≡ held_bytes → slice_range items 0 (held + n) ≡ held_bytes ++ take n (drop held items)
read-behind items held_bytes held n front =
    let size : held + n - 0 ≡ held + n = omega arith in
    ap (λ k. take k items) size ∙ take-add held n items ∙ ap (λ l. l ++ take n (drop held items)) front
