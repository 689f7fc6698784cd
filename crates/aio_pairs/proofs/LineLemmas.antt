-- Lemmas on whole lines. `part` is the begin of a line that stands before the bytes.
use Rattle.std.proofs.Common.{◌≡◌, ℕ, ◌+◌, ◌<◌, ◌≤◌, Bool, true, false, List, [], ◌∷◌, ◌++◌, length, take, drop, refl, sym, ap, ◌∙◌, subst, arith, append_assoc, append-nil, length-append, inl, inr}
use Rattle.std.specs.Prelude.{◌⊎◌, ◌||◌, zero, suc, min, nat_lt, if◌then◌else◌}
use Rattle.std.specs.List.{list_any}
use Rattle.std.proofs.lemmas.Bool.{true≢false, eqb-true, lt-ltb, ltb-true, ltb-false, or_parts}
use Rattle.std.proofs.lemmas.List.{append_cancel_left, take-append-drop, take-append-le, take-take, take_at, drop_at}
use Rattle.std.proofs.lemmas.List.Folds.{list_any-append}
use Rattle.std.proofs.Math.Seq.{drop-append-add}
use Rattle.aio_pairs.specs.Lines.{is_line_feed, HasNoLineFeed, lines_behind, longest_line, lines, unfinished, IsPrefix, terminated, AreTexts, AreLines}

-- ## Bytes without a line feed

pub clear-both : (xs ys : List ℕ) → HasNoLineFeed xs → HasNoLineFeed ys → HasNoLineFeed (xs ++ ys)
clear-both xs ys clear_xs clear_ys = list_any-append is_line_feed xs ys ∙ ap (λ b. b || list_any is_line_feed ys) clear_xs ∙ clear_ys

pub clear-first : (xs ys : List ℕ) → HasNoLineFeed (xs ++ ys) → HasNoLineFeed xs
clear-first xs ys clear = (or_parts _ _ (sym (list_any-append is_line_feed xs ys) ∙ clear)).0

pub clear-take : (n : ℕ) (xs : List ℕ) → HasNoLineFeed xs → HasNoLineFeed (take n xs)
clear-take n xs clear = clear-first (take n xs) (drop n xs) (subst HasNoLineFeed (sym (take-append-drop n xs)) clear)

clear-more : (part : List ℕ) (byte : ℕ) → HasNoLineFeed part → is_line_feed byte ≡ false → HasNoLineFeed (part ++ byte ∷ [])
clear-more part byte clear plain = clear-both part (byte ∷ []) clear (ap (λ b. b || false) plain)

-- ## Where lines are found

-- what a line feed comes to: its line is there where it is short enough
short-line : (limit : ℕ) (part line : List ℕ) → length part < limit → (if nat_lt (length part) limit then line else []) ≡ line
short-line limit part line short = ap (λ (b : Bool). if b then line else []) (lt-ltb (length part) limit short)

is-short : (limit : ℕ) (part line : List ℕ) → 0 < length (if nat_lt (length part) limit then line else []) → length part < limit
is-short limit part line there =
    (elim (nat_lt (length part) limit) as (λ (b : Bool). nat_lt (length part) limit ≡ b → 0 < length (if b then line else []) → length part < limit) [
      | true ↦ λ e there. ltb-true (length part) limit e
      | false ↦ λ e there. absurd (omega (arith, there))
    ]) refl there

-- bytes of which a line could hold no more than those that are known to be clear have no whole line
pub none-there : (limit room : ℕ) (part bytes : List ℕ) → min limit (length part + length bytes) ≤ length part + room → HasNoLineFeed (take room bytes)
    → lines_behind limit part bytes ≡ []
none-there limit room part [] all clear = refl
none-there limit zero part (byte ∷ bytes) all clear =
    elim (is_line_feed byte) as (λ (b : Bool). (if b then (if nat_lt (length part) limit then part ++ byte ∷ lines_behind limit [] bytes else []) else lines_behind limit (part ++ byte ∷ []) bytes) ≡ []) [
      | true ↦ (elim (nat_lt (length part) limit) as (λ (b : Bool). nat_lt (length part) limit ≡ b → (if b then part ++ byte ∷ lines_behind limit [] bytes else []) ≡ []) [
        | true ↦ λ e. absurd (omega (arith, all, ltb-true (length part) limit e))
        | false ↦ λ e. refl
      ]) refl
      | false ↦ none-there limit zero (part ++ byte ∷ []) bytes (omega (arith, all, length-append part (byte ∷ []))) refl
    ]
none-there limit (suc room) part (byte ∷ bytes) all clear =
    (elim (is_line_feed byte) as (λ (b : Bool). (b || list_any is_line_feed (take room bytes)) ≡ false
    → (if b then (if nat_lt (length part) limit then part ++ byte ∷ lines_behind limit [] bytes else []) else lines_behind limit (part ++ byte ∷ []) bytes) ≡ []) [
      | true ↦ λ clear. absurd (true≢false clear)
      | false ↦ λ clear. none-there limit room (part ++ byte ∷ []) bytes (omega (arith, all, length-append part (byte ∷ []))) clear
    ]) clear

-- a line feed near enough ends whole lines, whatever stands before it
pub feed-cuts : (limit : ℕ) (part text more : List ℕ) → length part + length text < limit
    → lines_behind limit part (text ++ 10 ∷ more) ≡ part ++ (text ++ 10 ∷ lines_behind limit [] more)
feed-cuts limit part [] more near = short-line limit part (part ++ 10 ∷ lines_behind limit [] more) (omega (arith, near))
feed-cuts limit part (byte ∷ text) more near =
    elim (is_line_feed byte) as (λ (b : Bool). (if b then (if nat_lt (length part) limit then part ++ byte ∷ lines_behind limit [] (text ++ 10 ∷ more) else [])
    else lines_behind limit (part ++ byte ∷ []) (text ++ 10 ∷ more)) ≡ part ++ (byte ∷ (text ++ 10 ∷ lines_behind limit [] more))) [
      | true ↦ short-line limit part (part ++ byte ∷ lines_behind limit [] (text ++ 10 ∷ more)) (omega (arith, near))
          ∙ ap (λ l. part ++ byte ∷ l) (feed-cuts limit [] text more (omega (arith, near)))
      | false ↦ feed-cuts limit (part ++ byte ∷ []) text more (omega (arith, near, length-append part (byte ∷ [])))
          ∙ append_assoc part (byte ∷ []) (text ++ 10 ∷ lines_behind limit [] more)
    ]

-- ## What follows

-- a line that is found stays found, whatever follows
still-there : (limit : ℕ) (part bytes more : List ℕ) → 0 < length (lines_behind limit part bytes) → 0 < length (lines_behind limit part (bytes ++ more))
still-there limit part [] more there = absurd (omega (arith, there))
still-there limit part (byte ∷ bytes) more there =
    (elim (is_line_feed byte) as (λ (b : Bool). 0 < length (if b then (if nat_lt (length part) limit then part ++ byte ∷ lines_behind limit [] bytes else []) else lines_behind limit (part ++ byte ∷ []) bytes)
    → 0 < length (if b then (if nat_lt (length part) limit then part ++ byte ∷ lines_behind limit [] (bytes ++ more) else []) else lines_behind limit (part ++ byte ∷ []) (bytes ++ more))) [
      | true ↦ λ there.
          let short = is-short limit part _ there in
          subst (λ (l : List ℕ). 0 < length l) (sym (short-line limit part (part ++ byte ∷ lines_behind limit [] (bytes ++ more)) short))
          (omega (arith, length-append part (byte ∷ lines_behind limit [] (bytes ++ more))))
      | false ↦ λ there. still-there limit (part ++ byte ∷ []) bytes more there
    ]) there

-- where its line is found, the begin of a line can be split off
split-off : (limit : ℕ) (first part bytes : List ℕ) → 0 < length (lines_behind limit (first ++ part) bytes)
    → lines_behind limit (first ++ part) bytes ≡ first ++ lines_behind limit part bytes
split-off limit first part [] there = absurd (omega (arith, there))
split-off limit first part (byte ∷ bytes) there =
    (elim (is_line_feed byte) as (λ (b : Bool).
    0 < length (if b then (if nat_lt (length (first ++ part)) limit then (first ++ part) ++ byte ∷ lines_behind limit [] bytes else []) else lines_behind limit ((first ++ part) ++ byte ∷ []) bytes)
    → (if b then (if nat_lt (length (first ++ part)) limit then (first ++ part) ++ byte ∷ lines_behind limit [] bytes else []) else lines_behind limit ((first ++ part) ++ byte ∷ []) bytes)
    ≡ first ++ (if b then (if nat_lt (length part) limit then part ++ byte ∷ lines_behind limit [] bytes else []) else lines_behind limit (part ++ byte ∷ []) bytes)) [
      | true ↦ λ there.
          let short = is-short limit (first ++ part) _ there in
          short-line limit (first ++ part) _ short ∙ append_assoc first part (byte ∷ lines_behind limit [] bytes)
          ∙ ap (λ l. first ++ l) (sym (short-line limit part (part ++ byte ∷ lines_behind limit [] bytes) (omega (arith, short, length-append first part))))
      | false ↦ λ there.
          let same : (first ++ part) ++ byte ∷ [] ≡ first ++ (part ++ byte ∷ []) = append_assoc first part (byte ∷ []) in
          ap (λ l. lines_behind limit l bytes) same ∙ split-off limit first (part ++ byte ∷ []) bytes (subst (λ l. 0 < length (lines_behind limit l bytes)) same there)
    ]) there

-- What was taken of whole lines, be it up to the midst of one, stays whole whatever follows, and the lines of the rest come behind it.
taken-goes : (limit : ℕ) (part taken left more rest : List ℕ) → lines_behind limit part (taken ++ left) ≡ part ++ (taken ++ rest)
    → (part ≡ []) ⊎ (0 < length (lines_behind limit part (taken ++ left)))
    → lines_behind limit part (taken ++ (left ++ more)) ≡ part ++ (taken ++ lines_behind limit [] (left ++ more))
taken-goes limit part [] left more rest e (inl none) = ap (λ p. lines_behind limit p (left ++ more)) none ∙ ap (λ p. p ++ lines_behind limit [] (left ++ more)) (sym none)
taken-goes limit part [] left more rest e (inr there) =
    let same : part ++ [] ≡ part = append-nil part in
    ap (λ p. lines_behind limit p (left ++ more)) (sym same)
    ∙ split-off limit part [] (left ++ more) (subst (λ p. 0 < length (lines_behind limit p (left ++ more))) (sym same) (still-there limit part left more there))
taken-goes limit part (byte ∷ taken) left more rest e either =
    (elim (is_line_feed byte) as (λ (b : Bool).
    (if b then (if nat_lt (length part) limit then part ++ byte ∷ lines_behind limit [] (taken ++ left) else []) else lines_behind limit (part ++ byte ∷ []) (taken ++ left)) ≡ part ++ (byte ∷ (taken ++ rest))
    → (if b then (if nat_lt (length part) limit then part ++ byte ∷ lines_behind limit [] (taken ++ (left ++ more)) else []) else lines_behind limit (part ++ byte ∷ []) (taken ++ (left ++ more)))
    ≡ part ++ (byte ∷ (taken ++ lines_behind limit [] (left ++ more)))) [
      | true ↦ λ e.
          let short = is-short limit part (part ++ byte ∷ lines_behind limit [] (taken ++ left)) (omega (arith, ap length e, length-append part (byte ∷ (taken ++ rest)))) in
          let inner : byte ∷ lines_behind limit [] (taken ++ left) ≡ byte ∷ (taken ++ rest) = append_cancel_left part _ _ (sym (short-line limit part _ short) ∙ e) in
          let whole : lines_behind limit [] (taken ++ left) ≡ taken ++ rest = append_cancel_left (byte ∷ []) _ _ inner in
          short-line limit part _ short ∙ ap (λ l. part ++ byte ∷ l) (taken-goes limit [] taken left more rest whole (inl refl))
      | false ↦ λ e.
          let longer = sym (append_assoc part (byte ∷ []) (taken ++ rest)) in
          taken-goes limit (part ++ byte ∷ []) taken left more rest (e ∙ longer)
          (inr (omega (arith, ap length e, length-append part (byte ∷ (taken ++ rest)))))
          ∙ append_assoc part (byte ∷ []) (taken ++ lines_behind limit [] (left ++ more))
    ]) e

pub goes-on : (taken left more : List ℕ) → IsPrefix taken (lines (taken ++ left)) → lines (taken ++ (left ++ more)) ≡ taken ++ lines (left ++ more)
goes-on taken left more p = taken-goes longest_line [] taken left more p.suffix p.is (inl refl)

pub goes : (taken left : List ℕ) → IsPrefix taken (lines (taken ++ left)) → lines (taken ++ left) ≡ taken ++ lines left
goes taken left p = ap (λ l. lines (taken ++ l)) (sym (append-nil left)) ∙ goes-on taken left [] p ∙ ap (λ l. taken ++ lines l) (append-nil left)

-- ## The longest prefix of whole lines

prefix-behind : (limit : ℕ) (part bytes : List ℕ) → IsPrefix (lines_behind limit part bytes) (part ++ bytes)
prefix-behind limit part [] = record { suffix = part ++ []; is = refl }
prefix-behind limit part (byte ∷ bytes) =
    elim (is_line_feed byte) as (λ (b : Bool). IsPrefix (if b then (if nat_lt (length part) limit then part ++ byte ∷ lines_behind limit [] bytes else []) else lines_behind limit (part ++ byte ∷ []) bytes) (part ++ byte ∷ bytes)) [
      | true ↦ elim (nat_lt (length part) limit) as (λ (b : Bool). IsPrefix (if b then part ++ byte ∷ lines_behind limit [] bytes else []) (part ++ byte ∷ bytes)) [
        | true ↦ let p = prefix-behind limit [] bytes in record {
          suffix = p.suffix;
          is = ap (λ l. part ++ byte ∷ l) p.is ∙ sym (append_assoc part (byte ∷ lines_behind limit [] bytes) p.suffix);
        }
        | false ↦ record { suffix = part ++ byte ∷ bytes; is = refl }
      ]
      | false ↦ subst (IsPrefix (lines_behind limit (part ++ byte ∷ []) bytes)) (append_assoc part (byte ∷ []) bytes) (prefix-behind limit (part ++ byte ∷ []) bytes)
    ]

pub lines-prefix : (bytes : List ℕ) → IsPrefix (lines bytes) bytes
lines-prefix bytes = prefix-behind longest_line [] bytes

made-behind : (limit : ℕ) (part bytes : List ℕ) → HasNoLineFeed part → AreLines limit (lines_behind limit part bytes)
made-behind limit part [] clear = record { texts = []; each = tt; is = refl }
made-behind limit part (byte ∷ bytes) clear =
    (elim (is_line_feed byte) as (λ (b : Bool). is_line_feed byte ≡ b
    → AreLines limit (if b then (if nat_lt (length part) limit then part ++ byte ∷ lines_behind limit [] bytes else []) else lines_behind limit (part ++ byte ∷ []) bytes)) [
      | true ↦ λ feed. (elim (nat_lt (length part) limit) as (λ (b : Bool). nat_lt (length part) limit ≡ b → AreLines limit (if b then part ++ byte ∷ lines_behind limit [] bytes else [])) [
        | true ↦ λ short. let later = made-behind limit [] bytes refl in record {
          texts = part ∷ later.texts;
          each = (clear, ltb-true (length part) limit short, later.each);
          is = ap (λ b. part ++ b ∷ lines_behind limit [] bytes) (eqb-true byte 10 feed) ∙ ap (λ l. part ++ 10 ∷ l) later.is;
        }
        | false ↦ λ long. record { texts = []; each = tt; is = refl }
      ]) refl
      | false ↦ λ plain. made-behind limit (part ++ byte ∷ []) bytes (clear-more part byte clear plain)
    ]) refl

pub lines-made : (bytes : List ℕ) → AreLines longest_line (lines bytes)
lines-made bytes = made-behind longest_line [] bytes refl

pub lines-longest : (limit : ℕ) (texts : List (List ℕ)) (more : List ℕ) → AreTexts limit texts
    → lines_behind limit [] (terminated texts ++ more) ≡ terminated texts ++ lines_behind limit [] more
lines-longest limit [] more each = refl
lines-longest limit (text ∷ texts) more each =
    ap (lines_behind limit []) (append_assoc text (10 ∷ terminated texts) more)
    ∙ feed-cuts limit [] text (terminated texts ++ more) (omega (arith, each.1))
    ∙ ap (λ l. text ++ 10 ∷ l) (lines-longest limit texts more each.2)
    ∙ sym (append_assoc text (10 ∷ terminated texts) (lines_behind limit [] more))

-- ## What stands behind them

-- as many bytes as a line may have, or all, have no line feed there
clear-behind : (limit : ℕ) (part bytes : List ℕ) → HasNoLineFeed part → HasNoLineFeed (take limit (drop (length (lines_behind limit part bytes)) (part ++ bytes)))
clear-behind limit part [] clear = clear-take limit (part ++ []) (subst HasNoLineFeed (sym (append-nil part)) clear)
clear-behind limit part (byte ∷ bytes) clear =
    (elim (is_line_feed byte) as (λ (b : Bool). is_line_feed byte ≡ b
    → HasNoLineFeed (take limit (drop (length (if b then (if nat_lt (length part) limit then part ++ byte ∷ lines_behind limit [] bytes else []) else lines_behind limit (part ++ byte ∷ []) bytes)) (part ++ byte ∷ bytes)))) [
      | true ↦ λ feed. (elim (nat_lt (length part) limit) as (λ (b : Bool). nat_lt (length part) limit ≡ b
          → HasNoLineFeed (take limit (drop (length (if b then part ++ byte ∷ lines_behind limit [] bytes else [])) (part ++ byte ∷ bytes)))) [
            | true ↦ λ short.
                let line = part ++ byte ∷ [] in
                let later = lines_behind limit [] bytes in
                let past : drop (length (part ++ byte ∷ later)) (part ++ byte ∷ bytes) ≡ drop (length later) bytes =
                ap (λ l. drop (length l) (part ++ byte ∷ bytes)) (sym (append_assoc part (byte ∷ []) later))
                ∙ ap (λ n. drop n (part ++ byte ∷ bytes)) (length-append line later)
                ∙ ap (drop (length line + length later)) (sym (append_assoc part (byte ∷ []) bytes))
                ∙ drop-append-add line bytes (length later) in
                subst (λ l. HasNoLineFeed (take limit l)) (sym past) (clear-behind limit [] bytes refl)
            | false ↦ λ long. subst HasNoLineFeed (sym (take-append-le limit part (byte ∷ bytes) (ltb-false (length part) limit long))) (clear-take limit part clear)
          ]) refl
      | false ↦ λ plain. subst (λ l. HasNoLineFeed (take limit (drop (length (lines_behind limit (part ++ byte ∷ []) bytes)) l))) (append_assoc part (byte ∷ []) bytes)
          (clear-behind limit (part ++ byte ∷ []) bytes (clear-more part byte clear plain))
    ]) refl

pub unfinished-clear : (bytes : List ℕ) → HasNoLineFeed (take longest_line (unfinished bytes))
unfinished-clear bytes = clear-behind longest_line [] bytes refl

-- the lines and what stands behind them are all there is
pub lines-take : (bytes : List ℕ) → take (length (lines bytes)) bytes ≡ lines bytes
lines-take bytes = let p = lines-prefix bytes in ap (take (length (lines bytes))) p.is ∙ take_at (lines bytes) p.suffix (length (lines bytes)) refl

pub lines-split : (bytes : List ℕ) → bytes ≡ lines bytes ++ unfinished bytes
lines-split bytes = sym (take-append-drop (length (lines bytes)) bytes) ∙ ap (λ l. l ++ unfinished bytes) (lines-take bytes)

pub lines-length : (bytes : List ℕ) → length (lines bytes) ≤ length bytes
lines-length bytes = omega (arith, ap length (lines-split bytes), length-append (lines bytes) (unfinished bytes))

-- ## Once some of the lines were taken

pub take-same : (bytes : List ℕ) (n : ℕ) → n ≤ length (lines bytes) → take n (lines bytes) ≡ take n bytes
take-same bytes n within = ap (take n) (sym (lines-take bytes)) ∙ take-take n (length (lines bytes)) bytes within

pub lines-left : (bytes : List ℕ) (n : ℕ) → n ≤ length (lines bytes) → lines bytes ≡ take n bytes ++ lines (drop n bytes)
lines-left bytes n within =
    let parts = take-append-drop n bytes in
    let taken : IsPrefix (take n bytes) (lines (take n bytes ++ drop n bytes)) = record {
      suffix = drop n (lines bytes);
      is = ap lines parts ∙ sym (take-append-drop n (lines bytes)) ∙ ap (λ l. l ++ drop n (lines bytes)) (take-same bytes n within);
    } in
    ap lines (sym parts) ∙ goes (take n bytes) (drop n bytes) taken

-- ## A line that is too long

pub long-stays : (bytes more : List ℕ) → longest_line ≤ length (unfinished bytes) → lines (bytes ++ more) ≡ lines bytes
long-stays bytes more long =
    let rest = unfinished bytes in
    let taken : IsPrefix (lines bytes) (lines (lines bytes ++ rest)) = record { suffix = []; is = ap lines (sym (lines-split bytes)) ∙ sym (append-nil (lines bytes)) } in
    let clear : HasNoLineFeed (take longest_line (rest ++ more)) = subst HasNoLineFeed (sym (take-append-le longest_line rest more long)) (unfinished-clear bytes) in
    let none : lines (rest ++ more) ≡ [] = none-there longest_line longest_line [] (rest ++ more) (omega arith) clear in
    ap (λ l. lines (l ++ more)) (lines-split bytes) ∙ ap lines (append_assoc (lines bytes) rest more) ∙ goes-on (lines bytes) rest more taken
    ∙ ap (λ l. lines bytes ++ l) none ∙ append-nil (lines bytes)

pub long-behind : (bytes more : List ℕ) → longest_line ≤ length (unfinished bytes) → unfinished (bytes ++ more) ≡ unfinished bytes ++ more
long-behind bytes more long =
    ap (λ l. drop (length l) (bytes ++ more)) (long-stays bytes more long)
    ∙ ap (λ l. drop (length (lines bytes)) (l ++ more)) (lines-split bytes)
    ∙ ap (drop (length (lines bytes))) (append_assoc (lines bytes) (unfinished bytes) more)
    ∙ drop_at (lines bytes) (unfinished bytes ++ more) (length (lines bytes)) refl
