-- How the counts of a list of steps grow.
use Rattle.std.proofs.Common.{◌≡◌, ◌≢◌, ℕ, zero, suc, ◌+◌, ◌==◌, Bool, true, false, if◌then◌else◌, List, [], ◌∷◌, ◌++◌, length, length-append, replicate, filter, refl, ap, ◌∙◌, ne_eqb, arith}
use Rattle.std.proofs.lemmas.List.Elements.{filter-append}
use Rattle.aio_rules.specs.declared.seats.WordStep.{WordStep}
use Rattle.aio_rules.specs.declared.seats.WordStep.TheVariants as word_step
use Rattle.aio_rules.specs.WordCalls.{count_of, taken_masks, is_raise, park_steps, ParkTakesOnce}

pub count-append : (kind : WordStep → Bool) (a b : List WordStep) → count_of kind (a ++ b) ≡ count_of kind a + count_of kind b
count-append kind a b = ap length (filter-append kind a b) ∙ length-append (filter kind a) (filter kind b)

-- steps that are not of the kind count for nothing
count-none : (kind : WordStep → Bool) (s : WordStep) (k : ℕ) → kind s ≡ false → count_of kind (replicate k s) ≡ 0
count-none kind s zero not_such = refl
count-none kind s (suc k) not_such = ap (λ (b : Bool). length (if b then s ∷ filter kind (replicate k s) else filter kind (replicate k s))) not_such ∙ count-none kind s k not_such

-- one more step took nothing or something
took-append : (nothing : Bool) (found : ℕ) (xs ys zs : List ℕ) → xs ≡ ys ++ zs → (if nothing then xs else found ∷ xs) ≡ (if nothing then ys else found ∷ ys) ++ zs
took-append true found xs ys zs e = e
took-append false found xs ys zs e = ap (λ (l : List ℕ). found ∷ l) e

-- what the swaps of two lists of steps took is what those of the first took, and then those of the second
pub taken-append : (a b : List WordStep) → taken_masks (a ++ b) ≡ taken_masks a ++ taken_masks b
taken-append [] b = refl
taken-append (word_step.SwapMask i found ∷ a) b = took-append (found == 0) found (taken_masks (a ++ b)) (taken_masks a) (taken_masks b) (taken-append a b)
taken-append (word_step.LoadTicker found ∷ a) b = taken-append a b
taken-append (word_step.AddTicker found ∷ a) b = taken-append a b
taken-append (word_step.SetBit i bit found ∷ a) b = taken-append a b
taken-append (word_step.LoadBlocked i found ∷ a) b = taken-append a b
taken-append (word_step.ExchangeNotified found ∷ a) b = taken-append a b
taken-append (word_step.StoreBlocked i stored found ∷ a) b = taken-append a b
taken-append (word_step.LoadMask i found ∷ a) b = taken-append a b
taken-append (word_step.SwapNotified found ∷ a) b = taken-append a b

-- swaps that found nothing took nothing
taken-none : (parker k : ℕ) → taken_masks (replicate k (word_step.SwapMask parker 0)) ≡ []
taken-none parker zero = refl
taken-none parker (suc k) = taken-none parker k

-- the swaps of a park took what the last of them found
pub taken-park : (parker idle found : ℕ) → found ≢ 0 → taken_masks (park_steps parker idle found) ≡ found ∷ []
taken-park parker idle found some =
    let last : taken_masks (word_step.SwapMask parker found ∷ []) ≡ found ∷ [] = ap (λ (b : Bool). if b then [] else found ∷ []) (ne_eqb found 0 some) in
    taken-append (replicate idle (word_step.SwapMask parker 0)) (word_step.SwapMask parker found ∷ []) ∙ ap (λ l. l ++ taken_masks (word_step.SwapMask parker found ∷ [])) (taken-none parker idle) ∙ last

pub park_takes_once : ParkTakesOnce
park_takes_once before parker idle found some =
    let nothing : List WordStep = replicate idle (word_step.SwapMask parker 0) in let last : List WordStep = word_step.SwapMask parker found ∷ [] in
    let d = count-append is_raise before (park_steps parker idle found) in let e = count-append is_raise nothing last in let f = count-none is_raise (word_step.SwapMask parker 0) idle refl in
    (taken-append before (park_steps parker idle found) ∙ ap (λ l. taken_masks before ++ l) (taken-park parker idle found some), omega arith)
