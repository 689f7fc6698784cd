-- What is found next of the bytes that are unread of a source.
use Rattle.std.proofs.Common.{◌≡◌, ◌≢◌, ℕ, ◌≤◌, Bool, true, false, ◌||◌, if◌then◌else◌, List, [], ◌∷◌, ◌++◌, length, Option, None, Some, refl, sym, ap, ◌∙◌, subst, append_assoc, append-nil, length-append, arith}
use Rattle.std.specs.List.{list_any}
use Rattle.std.specs.Io.KnownBytes.{Consumes, Keeps, IsAtEnd}
use Rattle.aio_base.specs.Trace.{lines_of, onto_first_line}
use Rattle.aio_bytes.specs.Held.{HasNoLineFeed, is_line_feed, PutsAhead}
use Rattle.aio_bytes.specs.Unread.{Unread, LeavesAllBut, BeginsLong, TakesLine}

consumed : (left : List ℕ) (after : Option (List ℕ)) (piece : List ℕ) → Consumes (Some left) after piece
    → (rest : List ℕ) × (after ≡ Some rest) × (left ≡ piece ++ rest)
consumed left None piece h = absurd h
consumed left (Some rest) piece h = (rest, refl, h)

kept : (left : List ℕ) (after : Option (List ℕ)) → Keeps (Some left) after → after ≡ Some left
kept left None h = absurd h
kept left (Some rest) h = ap Some h

-- ## What is unread

pub unread-read : (told after : Option (List ℕ)) (ahead new unread : List ℕ) (n : ℕ) → Unread told ahead unread → PutsAhead told after ahead new n
    → Unread after new unread
unread-read told after ahead new unread n u p =
    let found = consumed u.left after p.piece (subst (λ t. Consumes t after p.piece) u.is_left p.taken) in
    record {
      left = found.0;
      is_left = found.1;
      whole = u.whole ∙ ap (λ t. ahead ++ t) found.2 ∙ sym (append_assoc ahead p.piece found.0) ∙ ap (λ t. t ++ found.0) (sym p.ahead);
    }

pub unread-kept : (told after : Option (List ℕ)) (ahead new unread : List ℕ) → Unread told ahead unread → Keeps told after → new ≡ ahead
    → Unread after new unread
unread-kept told after ahead new unread u k same = record {
  left = u.left;
  is_left = kept u.left after (subst (λ t. Keeps t after) u.is_left k);
  whole = u.whole ∙ ap (λ t. t ++ u.left) (sym same);
}

pub unread-most : (told : Option (List ℕ)) (ahead unread : List ℕ) → Unread told ahead unread → length ahead ≤ 257 → LeavesAllBut 257 told unread
unread-most told ahead unread u le = record { taken = ahead; left = u.left; is_left = u.is_left; whole = u.whole; most = le }

cons_not_nil : (c : ℕ) (bytes : List ℕ) → c ∷ bytes ≡ [] → ⊥
cons_not_nil c bytes e = cc

-- ## Lines

or-false : (a b : Bool) → (a || b) ≡ false → (a ≡ false) × (b ≡ false)
or-false true b h = cc
or-false false b h = (refl, h)

pub lines_of-first : (line rest : List ℕ) → HasNoLineFeed line → lines_of (line ++ 10 ∷ rest) ≡ line ∷ lines_of rest
lines_of-first [] rest none = refl
lines_of-first (b ∷ line) rest none =
    let parts = or-false (is_line_feed b) (list_any is_line_feed line) none in
    let tail = lines_of-first line rest parts.1 in
    ap (λ t. if t then [] ∷ lines_of (line ++ 10 ∷ rest) else onto_first_line b (lines_of (line ++ 10 ∷ rest))) parts.0 ∙ ap (onto_first_line b) tail

onto_first : (c : ℕ) (lines : List (List ℕ)) → (after : List ℕ) × (others : List (List ℕ)) × (onto_first_line c lines ≡ (c ∷ after) ∷ others)
onto_first c [] = ([], [], refl)
onto_first c (line ∷ lines) = (line, lines, refl)

-- one byte that is no line feed
first_byte : (c : ℕ) (bytes : List ℕ) → is_line_feed c ≡ false → lines_of (c ∷ bytes) ≡ onto_first_line c (lines_of bytes)
first_byte c bytes other = ap (λ t. if t then [] ∷ lines_of bytes else onto_first_line c (lines_of bytes)) other

-- bytes without a line feed begin the first line
pub lines_of-begins : (front more : List ℕ) (c : ℕ) → HasNoLineFeed (c ∷ front)
    → (after : List ℕ) × (others : List (List ℕ)) × (lines_of (c ∷ front ++ more) ≡ (c ∷ front ++ after) ∷ others)
lines_of-begins [] more c none =
    let parts = or-false (is_line_feed c) false none in
    let found = onto_first c (lines_of more) in
    (found.0, found.1, first_byte c more parts.0 ∙ found.2)
lines_of-begins (d ∷ front) more c none =
    let parts = or-false (is_line_feed c) (list_any is_line_feed (d ∷ front)) none in
    let found = lines_of-begins front more d parts.1 in
    (found.0, found.1, first_byte c (d ∷ front ++ more) parts.0 ∙ ap (onto_first_line c) found.2)

last_line : (front : List ℕ) (c : ℕ) → HasNoLineFeed (c ∷ front) → lines_of (c ∷ front) ≡ (c ∷ front) ∷ []
last_line [] c none = first_byte c [] (or-false (is_line_feed c) false none).0
last_line (d ∷ front) c none =
    let parts = or-false (is_line_feed c) (list_any is_line_feed (d ∷ front)) none in
    first_byte c (d ∷ front) parts.0 ∙ ap (onto_first_line c) (last_line front d parts.1)

pub lines_of-last : (line : List ℕ) → line ≢ [] → HasNoLineFeed line → lines_of line ≡ line ∷ []
lines_of-last [] some none = absurd (some refl)
lines_of-last (c ∷ front) some none = last_line front c none

pub takes_line : (told : Option (List ℕ)) (ahead line new unread : List ℕ) → Unread told ahead unread → ahead ≡ line ++ 10 ∷ new → HasNoLineFeed line
    → length ahead ≤ 257 → TakesLine told line new unread
takes_line told ahead line new unread u cut none le =
    let split : unread ≡ line ++ 10 ∷ (new ++ u.left) = u.whole ∙ ap (λ t. t ++ u.left) cut ∙ append_assoc line (10 ∷ new) u.left in
    record {
      rest = new ++ u.left;
      is_rest = record { left = u.left; is_left = u.is_left; whole = refl };
      lines = ap lines_of split ∙ lines_of-first line (new ++ u.left) none;
      taken = line ++ 10 ∷ [];
      whole = split ∙ sym (append_assoc line (10 ∷ []) (new ++ u.left));
      within = omega (arith, length-append line (10 ∷ []));
      most = omega (arith, le, ap length cut, length-append line (10 ∷ []), length-append line (10 ∷ new));
      held = unread-most told ahead unread u le;
    }

pub takes_last : (told : Option (List ℕ)) (ahead unread : List ℕ) → Unread told ahead unread → IsAtEnd told → ahead ≢ [] → HasNoLineFeed ahead
    → length ahead ≤ 257 → TakesLine told ahead [] unread
takes_last told ahead unread u at_end some none le =
    let empty : u.left ≡ [] = subst IsAtEnd u.is_left at_end in
    let whole : unread ≡ ahead = u.whole ∙ ap (λ t. ahead ++ t) empty ∙ append-nil ahead in
    record {
      rest = [];
      is_rest = record { left = []; is_left = u.is_left ∙ ap Some empty; whole = refl };
      lines = ap lines_of whole ∙ lines_of-last ahead some none;
      taken = ahead;
      whole = whole ∙ sym (append-nil ahead);
      within = omega arith;
      most = le;
      held = unread-most told ahead unread u le;
    }

pub ends_unread : (told : Option (List ℕ)) (ahead unread : List ℕ) → Unread told ahead unread → IsAtEnd told → ahead ≡ []
    → (unread ≡ []) × (told ≡ Some [])
ends_unread told ahead unread u at_end nothing =
    let empty : u.left ≡ [] = subst IsAtEnd u.is_left at_end in
    (u.whole ∙ ap (λ t. t ++ u.left) nothing ∙ empty, u.is_left ∙ ap Some empty)

pub begins_long : (told : Option (List ℕ)) (ahead unread : List ℕ) → Unread told ahead unread → length ahead ≡ 257 → HasNoLineFeed ahead
    → BeginsLong unread
begins_long told ahead unread u full none = record { front = ahead; more = u.left; whole = u.whole; long = full; no_line_feed = none }

pub unread-same : (told : Option (List ℕ)) (ahead new unread : List ℕ) → Unread told ahead unread → new ≡ ahead → Unread told new unread
unread-same told ahead new unread u same = record {
  left = u.left;
  is_left = u.is_left;
  whole = u.whole ∙ ap (λ t. t ++ u.left) (sym same);
}

added-none : (ahead piece : List ℕ) → length piece ≡ 0 → ahead ++ piece ≡ ahead
added-none ahead [] zero = append-nil ahead
added-none ahead (b ∷ piece) zero = absurd (omega (arith, zero))

-- bytes of which there is none
pub none_of_length : (bytes : List ℕ) → length bytes ≡ 0 → bytes ≡ []
none_of_length [] zero = refl
none_of_length (b ∷ bytes) zero = absurd (omega (arith, zero))

-- a read of no byte leaves what is ahead
pub read-none : (told after : Option (List ℕ)) (ahead new : List ℕ) (n : ℕ) → n ≡ 0 → PutsAhead told after ahead new n → new ≡ ahead
read-none told after ahead new n zero p = p.ahead ∙ added-none ahead p.piece (p.count ∙ zero)
