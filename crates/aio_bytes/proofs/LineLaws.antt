-- A law for the callers of a reader of lines: how a recursion over bytes passes a line.
use Rattle.std.proofs.Common.{◌≡◌, ℕ, ◌∷◌, ◌++◌, List, [], Bool, true, false, ◌||◌, refl, sym, ap, ◌∙◌, append_assoc, append-nil}
use Rattle.aio_bytes.specs.Held.{HasNoLineFeed, is_line_feed}

or_false_left : (a b : Bool) → (a || b) ≡ false → a ≡ false
or_false_left true b e = e
or_false_left false b e = refl

or_false_right : (a b : Bool) → (a || b) ≡ false → b ≡ false
or_false_right true b e = cc
or_false_right false b e = e

pub HasNoLineFeed-head : (byte : ℕ) (bytes : List ℕ) → HasNoLineFeed (byte ∷ bytes) → is_line_feed byte ≡ false
HasNoLineFeed-head byte bytes clear = or_false_left (is_line_feed byte) _ clear

pub HasNoLineFeed-tail : (byte : ℕ) (bytes : List ℕ) → HasNoLineFeed (byte ∷ bytes) → HasNoLineFeed bytes
HasNoLineFeed-tail byte bytes clear = or_false_right (is_line_feed byte) _ clear

-- a walk that gathers the bytes of a line passes a line in one step
pub walk-line : {R : Type 0} (walk : List ℕ → List ℕ → R)
    → ((begun : List ℕ) (byte : ℕ) (bytes : List ℕ) → is_line_feed byte ≡ false → walk begun (byte ∷ bytes) ≡ walk (begun ++ byte ∷ []) bytes)
    → (begun line more : List ℕ) → HasNoLineFeed line → walk begun (line ++ more) ≡ walk (begun ++ line) more
walk-line walk step begun [] more clear = ap (λ l. walk l more) (sym (append-nil begun))
walk-line walk step begun (byte ∷ line) more clear =
    step begun byte (line ++ more) (HasNoLineFeed-head byte line clear)
    ∙ walk-line walk step (begun ++ byte ∷ []) line more (HasNoLineFeed-tail byte line clear)
    ∙ ap (λ l. walk l more) (append_assoc begun (byte ∷ []) line)

-- a recursion that puts each byte of a line in front of what follows passes a line in one step
pub recursion-line : {R : Type 0} (lines : List ℕ → R) (put : ℕ → R → R) (finish : List ℕ → R → R)
    → ((byte : ℕ) (bytes : List ℕ) → is_line_feed byte ≡ false → lines (byte ∷ bytes) ≡ put byte (lines bytes))
    → ((byte : ℕ) (line : List ℕ) (rest : R) → put byte (finish line rest) ≡ finish (byte ∷ line) rest)
    → ((more : List ℕ) → lines (10 ∷ more) ≡ finish [] (lines more))
    → (line more : List ℕ) → HasNoLineFeed line → lines (line ++ 10 ∷ more) ≡ finish line (lines more)
recursion-line lines put finish step joins ends [] more clear = ends more
recursion-line lines put finish step joins ends (byte ∷ line) more clear =
    step byte (line ++ 10 ∷ more) (HasNoLineFeed-head byte line clear)
    ∙ ap (put byte) (recursion-line lines put finish step joins ends line more (HasNoLineFeed-tail byte line clear))
    ∙ joins byte line (lines more)
