-- Lemmas on the search for the end of whole lines.
use Rattle.std.proofs.Common.{◌≡◌, ℕ, ◌+◌, ◌-◌, ◌<◌, ◌≤◌, true, List, [], ◌∷◌, ◌++◌, length, take, drop, get_or, sym, ap, ◌∙◌, subst, arith, slice_range, Some, None, eqb-true, length-drop, length-append, take-add}
use Rattle.std.specs.Prelude.{min}
use Rattle.std.proofs.lemmas.List.{drop-drop, drop-take, get_or-take, get_or-drop, length-take, drop_more, take_min, get_or_default}
use Rattle.std.proofs.lemmas.List.Folds.{list_any_none, drop_split}
use Rattle.std.proofs.lemmas.Bool.{false_from_ne_true}
use Rattle.memchr.specs.Find.{IsLastByte, is_byte}
use Rattle.aio_pairs.specs.Lines.{HasNoLineFeed, is_line_feed, lines, longest_line}
use Rattle.aio_pairs.specs.Search.{IsLastFeed}
use Rattle.aio_pairs.proofs.LineLemmas.{none-there, feed-cuts, clear-both}

-- ## Parts of bytes

pub slice-length : (bytes : List ℕ) (start stop : ℕ) → stop ≤ length bytes → length (slice_range bytes start stop) ≡ stop - start
slice-length bytes start stop within = omega (arith, length-take (stop - start) (drop start bytes), length-drop start bytes, within)

pub slice-drop : (bytes : List ℕ) (start stop n : ℕ) → start + n ≤ stop → drop n (slice_range bytes start stop) ≡ slice_range bytes (start + n) stop
slice-drop bytes start stop n within =
    let size : stop - start ≡ n + (stop - (start + n)) = omega (arith, within) in
    ap (λ k. drop n (take k (drop start bytes))) size ∙ drop-take n (stop - (start + n)) (drop start bytes) ∙ ap (take (stop - (start + n))) (drop-drop n start bytes)

slices-join : (bytes : List ℕ) (start mid stop : ℕ) → start ≤ mid → mid ≤ stop → slice_range bytes start stop ≡ slice_range bytes start mid ++ slice_range bytes mid stop
slices-join bytes start mid stop low high =
    let size : stop - start ≡ (mid - start) + (stop - mid) = omega (arith, low, high) in
    let place : start + (mid - start) ≡ mid = omega (arith, low) in
    ap (λ k. take k (drop start bytes)) size ∙ take-add (mid - start) (stop - mid) (drop start bytes)
    ∙ ap (λ l. slice_range bytes start mid ++ take (stop - mid) l) (drop-drop (mid - start) start bytes ∙ ap (λ k. drop k bytes) place)

-- ## One window

-- bytes whose last places hold no line feed
clear-last : (bytes : List ℕ) (start stop n : ℕ) → stop ≤ length bytes → start + n ≤ stop
    → ((k : ℕ) → n ≤ k → k < length (slice_range bytes start stop) → ¬ (is_byte 10 (get_or (slice_range bytes start stop) k 0) ≡ true))
    → HasNoLineFeed (slice_range bytes (start + n) stop)
clear-last bytes start stop n within room none =
    let part = slice_range bytes start stop in
    let size = slice-length bytes start stop within in
    subst HasNoLineFeed (slice-drop bytes start stop n room) (list_any_none is_line_feed (drop n part) (λ k d inside.
    let place : n + k < length part = omega (arith, inside, length-drop n part) in
    ap is_line_feed (get_or-drop n part k d ∙ get_or_default part (n + k) d 0 place)
    ∙ false_from_ne_true _ (λ feed. none (n + k) (omega arith) place feed)))

pub found : (bytes : List ℕ) (start stop place : ℕ) → start ≤ stop → stop ≤ length bytes → IsLastByte (is_byte 10) (slice_range bytes start stop) (Some place)
    → IsLastFeed bytes start stop (start + place)
found bytes start stop place order within is =
    let near : place < stop - start = omega (arith, is.0.high, slice-length bytes start stop within) in
    record {
      low = omega arith;
      high = omega (arith, near);
      feed = sym (get_or-take (stop - start) (drop start bytes) place 0 near ∙ get_or-drop start bytes place 0) ∙ eqb-true _ 10 is.1;
      none_behind = subst (λ k. HasNoLineFeed (slice_range bytes k stop)) (omega arith)
          (clear-last bytes start stop (place + 1) within (omega (arith, near)) (λ k low high. is.0.after k low high));
    }

pub not-found : (bytes : List ℕ) (start stop : ℕ) → start ≤ stop → stop ≤ length bytes → IsLastByte (is_byte 10) (slice_range bytes start stop) None
    → HasNoLineFeed (slice_range bytes start stop)
not-found bytes start stop order within is =
    subst (λ k. HasNoLineFeed (slice_range bytes k stop)) (omega arith) (clear-last bytes start stop 0 within (omega (arith, order)) (λ k low high. is k (omega arith) high))

-- ## All windows

-- A line begins at `line`, behind whole lines alone, and no line feed stands from there up to `searched`, which is within its window.
pub record Searched (bytes : List ℕ) (line searched : ℕ) : Type 0 where
  pub order : line ≤ searched
  pub near : searched ≤ line + longest_line
  pub within : searched ≤ length bytes
  pub clear : HasNoLineFeed (slice_range bytes line searched)
  pub before : length (lines bytes) ≡ line + length (lines (drop line bytes))

pub search-begins : (bytes : List ℕ) (clear : ℕ) → clear ≤ length bytes → clear ≤ longest_line → HasNoLineFeed (take clear bytes) → Searched bytes 0 clear
search-begins bytes clear within short is = record { order = omega arith; near = omega (arith, short); within = within; clear = subst (λ n. HasNoLineFeed (take n bytes)) (omega arith) is; before = omega arith }

pub search-goes : (bytes : List ℕ) (line searched window feed : ℕ) → Searched bytes line searched → window ≡ line + min longest_line (length bytes - line)
    → IsLastFeed bytes searched window feed → Searched bytes (feed + 1) window
search-goes bytes line searched window feed s is last =
    let text = slice_range bytes line feed in
    let more = drop (feed + 1) bytes in
    let inside : feed < length bytes = omega (arith, is, last.high, s.order, s.within) in
    let parted : drop line bytes ≡ text ++ 10 ∷ more =
    drop_split bytes line feed (omega (arith, s.order, last.low)) ∙ ap (λ l. text ++ l) (drop_more bytes feed 0 inside ∙ ap (λ b. b ∷ more) last.feed) in
    let size : length text ≡ feed - line = slice-length bytes line feed (omega (arith, inside)) in
    let found = ap lines parted ∙ feed-cuts longest_line [] text more (omega (arith, size, is, last.high)) in
    record {
      order = omega (arith, last.high);
      near = omega (arith, is, s.order, last.low);
      within = omega (arith, is, s.order, s.within);
      clear = last.none_behind;
      before = omega (arith, s.before, ap length found, length-append text (10 ∷ lines more), size, s.order, last.low);
    }

pub search-ends : (bytes : List ℕ) (line searched window : ℕ) → Searched bytes line searched → window ≡ line + min longest_line (length bytes - line)
    → HasNoLineFeed (slice_range bytes searched window) → line ≡ length (lines bytes)
search-ends bytes line searched window s is none =
    let rest = drop line bytes in
    let high : searched ≤ window = omega (arith, s.near, s.within, s.order, is) in
    let clear : HasNoLineFeed (slice_range bytes line window) = subst HasNoLineFeed (sym (slices-join bytes line searched window s.order high)) (clear-both (slice_range bytes line searched) (slice_range bytes searched window) s.clear none) in
    let size : window - line ≡ min longest_line (length rest) = omega (arith, is, length-drop line bytes) in
    let window_clear : HasNoLineFeed (take longest_line rest) = subst HasNoLineFeed (ap (λ k. take k rest) size ∙ take_min longest_line rest) clear in
    let nothing = none-there longest_line longest_line [] rest (omega arith) window_clear in
    omega (arith, s.before, ap length nothing)
