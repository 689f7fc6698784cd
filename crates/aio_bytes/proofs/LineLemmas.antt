-- Lemmas on the first line feed of some bytes and on parts of a buffer.
use Rattle.std.proofs.Common.{◌≡◌, ℕ, ◌+◌, ◌-◌, ◌%◌, ◌^◌, ◌<◌, ◌≤◌, ◌∷◌, ◌++◌, List, Bool, true, false, eqb, get_or, map, replicate, w8, eq-eqb, ne_eqb, length, take, drop, MatchOption, refl, sym, ap, ◌∙◌, subst, arith, cond, slice_range, eqb-true, ltb-true, ltb-false, lt-ltb, le-ltb, take-add, Option, Some, None}
use Rattle.std.proofs.lemmas.List.{take-take, drop-drop, drop-take, take-append-drop, take_all, get_or-take, length-take, drop_more}
use Rattle.std.proofs.lemmas.List.Sums.{fails_before_first, passes_at_first, position_or_len_is}
use Rattle.std.proofs.lemmas.List.Folds.{list_any_none}
use Rattle.std.proofs.lemmas.Bool.{false_from_ne_true, cond-true, cond-false}
use Rattle.std.proofs.lemmas.Simd.{bitmask_splat, first_set_mask_l}
use Rattle.std.specs.Simd.Lanes.{zip2, mask_l, top}
use Rattle.std.specs.Int.Count.{count_trailing_zeros}
use Rattle.std.specs.List.{position, position_or_len}
use Rattle.memchr.specs.Find.{IsFirstByte, is_byte}
use Rattle.std.specs.Prelude.{nat_lt}
use Rattle.std.proofs.lemmas.Grind.{common_steps}
use Rattle.aio_bytes.specs.Held.{HasNoLineFeed, is_line_feed}

-- no byte before the first line feed is one
pub HasNoLineFeed-before_first : (bytes : List ℕ) → HasNoLineFeed (take (position_or_len is_line_feed bytes) bytes)
HasNoLineFeed-before_first bytes =
    let n = position_or_len is_line_feed bytes in
    list_any_none is_line_feed (take n bytes) (λ k d within.
    let before : k < n = omega (arith, length-take n bytes) in
    subst (λ byte. is_line_feed byte ≡ false) (sym (get_or-take n bytes k d before)) (fails_before_first is_line_feed bytes k d before))

-- what the first line feed's place says of the bytes
abbrev pub CutsLine : List ℕ → ℕ → Type 0
CutsLine bytes n = (n < length bytes) × HasNoLineFeed (take n bytes) × (drop n bytes ≡ 10 ∷ drop (n + 1) bytes)

cuts_by_test : (bytes : List ℕ) (found : Bool) → nat_lt (position_or_len is_line_feed bytes) (length bytes) ≡ found
    → MatchOption (cond found (Some (position_or_len is_line_feed bytes)) None) (HasNoLineFeed bytes) (CutsLine bytes)
cuts_by_test bytes true e =
    let n = position_or_len is_line_feed bytes in
    let within : n < length bytes = ltb-true n (length bytes) e in
    (within, HasNoLineFeed-before_first bytes, drop_more bytes n 0 within ∙ ap (λ byte. byte ∷ drop (n + 1) bytes) (eqb-true _ 10 (passes_at_first is_line_feed bytes 0 within)))
cuts_by_test bytes false e =
    let n = position_or_len is_line_feed bytes in
    subst HasNoLineFeed (take_all n bytes (ltb-false n (length bytes) e)) (HasNoLineFeed-before_first bytes)

pub position_cuts : (bytes : List ℕ) → MatchOption (position is_line_feed bytes) (HasNoLineFeed bytes) (CutsLine bytes)
position_cuts bytes = cuts_by_test bytes _ refl

-- the same, of a place that a search gave
pub line_at_place : (bytes : List ℕ) (n : ℕ) → Some n ≡ position is_line_feed bytes → CutsLine bytes n
line_at_place bytes n e = subst (λ (place : Option ℕ). MatchOption place (HasNoLineFeed bytes) (CutsLine bytes)) (sym e) (position_cuts bytes)

pub no_line_where_none : (bytes : List ℕ) → None ≡ position is_line_feed bytes → HasNoLineFeed bytes
no_line_where_none bytes e = subst (λ (place : Option ℕ). MatchOption place (HasNoLineFeed bytes) (CutsLine bytes)) (sym e) (position_cuts bytes)

pub take-slice_range : (items : List ℕ) (start stop n : ℕ) → start + n ≤ stop → take n (slice_range items start stop) ≡ slice_range items start (start + n)
take-slice_range items start stop n h = grind (arith, common_steps, take-take)

pub drop-slice_range : (items : List ℕ) (start stop n : ℕ) → start + n ≤ stop → drop n (slice_range items start stop) ≡ slice_range items (start + n) stop
drop-slice_range items start stop n h =
    let parted : stop - start ≡ n + (stop - (start + n)) = omega arith in
    ap (λ k. drop n (take k (drop start items))) parted ∙ drop-take n (stop - (start + n)) (drop start items) ∙ ap (take (stop - (start + n))) (drop-drop n start items)

-- a line and what follows it, as two parts of the buffer
pub slice_range-cut : (items : List ℕ) (start stop n : ℕ) → start + n < stop → drop n (slice_range items start stop) ≡ 10 ∷ drop (n + 1) (slice_range items start stop)
    → slice_range items start stop ≡ slice_range items start (start + n) ++ 10 ∷ slice_range items (start + (n + 1)) stop
slice_range-cut items start stop n h cut =
    let rest : start + (n + 1) ≤ stop = omega arith in
    let front : start + n ≤ stop = omega arith in
    sym (take-append-drop n (slice_range items start stop))
    ∙ ap (λ l. l ++ drop n (slice_range items start stop)) (take-slice_range items start stop n front)
    ∙ ap (λ l. slice_range items start (start + n) ++ l) (cut ∙ ap (λ l. 10 ∷ l) (drop-slice_range items start stop (n + 1) rest))

-- a part of a buffer is no longer than its ends are apart
pub slice_range-most : (items : List ℕ) (start stop most : ℕ) → stop ≤ start + most → length (slice_range items start stop) ≤ most
slice_range-most items start stop most within = omega (arith, length-take (stop - start) (drop start items))

-- the bytes in hand stand where a move put them, in front of those that a read put behind them
pub moved_first : (items before moved second new ahead : List ℕ) (start stop : ℕ) → before ≡ items → take (stop - start) moved ≡ slice_range before start stop
    → second ≡ moved → take (stop - start) new ≡ take (stop - start) second → slice_range items start stop ≡ ahead → take (stop - start) new ≡ ahead
moved_first items before moved second new ahead start stop first front same kept is =
    kept ∙ ap (take (stop - start)) same ∙ front ∙ ap (λ l. slice_range l start stop) first ∙ is

-- the bytes in hand, where a read put none behind them
pub slice_range-front : (whole new ahead : List ℕ) (held : ℕ) → whole ≡ new → take held new ≡ ahead → slice_range whole 0 held ≡ ahead
slice_range-front whole new ahead held same front =
    let all : held - 0 ≡ held = omega arith in
    ap (λ k. take k whole) all ∙ ap (take held) same ∙ front

-- what a read put behind the bytes in hand
pub slice_range-read : (whole new ahead : List ℕ) (held n : ℕ) → whole ≡ new → take held new ≡ ahead → slice_range whole 0 (held + n) ≡ ahead ++ take n (drop held new)
slice_range-read whole new ahead held n same front =
    let all : held + n - 0 ≡ held + n = omega arith in
    ap (λ k. take k whole) all ∙ ap (take (held + n)) same ∙ take-add held n new ∙ ap (λ l. l ++ take n (drop held new)) front

-- ---- the search for a line feed

-- the place that a search found is that of the first line feed
pub searched : (bytes : List ℕ) (found : Option ℕ) → IsFirstByte (is_byte 10) bytes found → found ≡ position is_line_feed bytes
searched bytes (Some n) h =
    let first : position_or_len is_line_feed bytes ≡ n =
    position_or_len_is is_line_feed bytes n 0 (omega (arith, h.0.high)) (λ k before. false_from_ne_true _ (h.0.before k (omega arith) before)) (λ within. h.1) in
    sym (ap (λ k. cond (nat_lt k (length bytes)) (Some k) None) first ∙ ap (λ found. cond found (Some n) None) (lt-ltb n (length bytes) h.0.high))
searched bytes None h =
    let none : position_or_len is_line_feed bytes ≡ length bytes =
    position_or_len_is is_line_feed bytes (length bytes) 0 (omega arith) (λ k before. false_from_ne_true _ (h k (omega arith) before)) (λ within. absurd (omega (arith, within))) in
    sym (ap (λ k. cond (nat_lt k (length bytes)) (Some k) None) none ∙ ap (λ found. cond found (Some (length bytes)) None) (le-ltb (length bytes) (length bytes) (omega arith)))

-- the lanes of the first bytes
front_long : (bytes : List ℕ) → 32 ≤ length bytes → length (take 32 bytes) ≡ 32
front_long bytes room = omega (arith, length-take 32 bytes)

-- the mask of the comparison with line feeds has a bit for each of them
pub line_feed_mask : (bytes : List ℕ) → 32 ≤ length bytes
    → mask_l (map (top 7) (zip2 (λ a b. cond (eqb a b) 255 0) (take 32 bytes) (replicate 32 10))) % 2 ^ 64 ≡ mask_l (map is_line_feed (take 32 bytes))
line_feed_mask bytes room = bitmask_splat w8 eqb (take 32 bytes) 32 10 (front_long bytes room) (omega arith)

pub none_set : (bytes : List ℕ) → 32 ≤ length bytes → mask_l (map is_line_feed (take 32 bytes)) ≡ 0 → 32 ≡ position_or_len is_line_feed (take 32 bytes)
none_set bytes room none =
    sym (cond-true _ 32 _ (eq-eqb _ 0 none)) ∙ first_set_mask_l is_line_feed (take 32 bytes) 32 (front_long bytes room) (omega arith)

pub first_set : (bytes : List ℕ) → 32 ≤ length bytes → (mask_l (map is_line_feed (take 32 bytes)) ≡ 0 → ⊥)
    → count_trailing_zeros 64 (mask_l (map is_line_feed (take 32 bytes))) ≡ position_or_len is_line_feed (take 32 bytes)
first_set bytes room some =
    sym (cond-false _ 32 _ (ne_eqb _ 0 some)) ∙ first_set_mask_l is_line_feed (take 32 bytes) 32 (front_long bytes room) (omega arith)

-- the first line feed of the first bytes is the first of all
pub near_is_first : (bytes : List ℕ) (n : ℕ) → 32 ≤ length bytes → n ≡ position_or_len is_line_feed (take 32 bytes) → n < 32 → Some n ≡ position is_line_feed bytes
near_is_first bytes n room is near =
    let front = take 32 bytes in
    let within : n < length bytes = omega arith in
    let inside : position_or_len is_line_feed front < length front = omega (arith, front_long bytes room, is) in
    let first : position_or_len is_line_feed bytes ≡ n =
    position_or_len_is is_line_feed bytes n 0 (omega arith)
    (λ k before. subst (λ byte. is_line_feed byte ≡ false) (get_or-take 32 bytes k 0 (omega arith)) (fails_before_first is_line_feed front k 0 (omega (arith, is))))
    (λ here. subst (λ byte. is_line_feed byte ≡ true) (ap (λ k. get_or front k 0) (sym is) ∙ get_or-take 32 bytes n 0 near) (passes_at_first is_line_feed front 0 inside)) in
    sym (ap (λ k. cond (nat_lt k (length bytes)) (Some k) None) first ∙ ap (λ found. cond found (Some n) None) (lt-ltb n (length bytes) within))
