-- How far the writing of some bytes has come, and what one more write makes of it.
use Rattle.std.proofs.Common.{◌≡◌, ℕ, ◌≤◌, Bool, IsTrue, List, [], ◌∷◌, ◌++◌, Option, Result, Ok, refl, sym, ap, subst, ◌∙◌, length, take, drop, take-append-drop, append_assoc, ◌-◌, length-append, arith}
use Rattle.std.proofs.lemmas.List.{take_rest}
use Rattle.std.specs.Io.KnownBytes.{Appends}
use Rattle.std.proofs.KnownBytes.{Appends-trans}
use Rattle.aio_base.specs.Devices.{HasCause}
use Rattle.aio_bytes.specs.declared.traits.SinkRefusal.{SinkRefusal}
use Rattle.aio_bytes.specs.Sinks.{HasFailed, InTurn}

-- some front part of the bytes is written and the rest is not, and no fault came of a sure sink
pub record Standing (old new : Option (List ℕ)) (bytes rest : List ℕ) (before after : ℕ) (sure : Bool) : Type 0 where
  pub added : List ℕ
  pub whole : bytes ≡ added ++ rest
  pub appended : Appends old new added
  pub later : before ≤ after
  pub steady : IsTrue sure → after ≡ before

-- one more write; what is left is given as the code's slice has it
pub Standing-goes : (old mid new : Option (List ℕ)) (bytes rest : List ℕ) (taken before middle after : ℕ) (sure same : Bool)
    → Standing old mid bytes rest before middle sure → same ≡ sure → Appends mid new (take taken rest) → HasCause middle after same (HasFailed {T = ℕ} (Ok taken))
    → Standing old new bytes (take (length rest - taken) (drop taken rest)) before after sure
Standing-goes old mid new bytes rest taken before middle after sure same begun is_same grown cause = record {
  added = begun.added ++ take taken rest;
  whole = begun.whole ∙ ap (λ l. begun.added ++ l) (sym (take-append-drop taken rest)) ∙ sym (append_assoc begun.added (take taken rest) (drop taken rest))
      ∙ ap (λ l. (begun.added ++ take taken rest) ++ l) (sym (take_rest rest taken));
  appended = Appends-trans old mid new begun.added (take taken rest) begun.appended grown;
  later = omega (arith, begun.later, cause.later);
  steady = λ is. (cause.never (is_same ∙ is)).1 ∙ begun.steady is;
}

-- of no bytes none is left
pub Standing-none : (old new : Option (List ℕ)) (bytes rest : List ℕ) (before after : ℕ) (sure : Bool)
    → Standing old new bytes rest before after sure → bytes ≡ [] → length rest ≡ 0
Standing-none old new bytes rest before after sure begun none =
    omega (arith, length-append begun.added rest, ap length begun.whole, ap length none)

-- calls led to this state, with these bytes left
abbrev pub LedTo : {S : Type 0} → S → List ℕ → S → List ℕ → Type 0
LedTo mid left at rest = (at ≡ mid) × (rest ≡ left)

-- one more call, which is handed what is left
pub InTurn-goes : {S : Type 0} (write_step : S → List ℕ → Result ℕ SinkRefusal → S → Type 0) (at : S) (bytes counts : List ℕ) (mid : S) (rest : List ℕ)
    (count : ℕ) (next : S) (left : List ℕ) → InTurn write_step at bytes counts (LedTo mid rest) → write_step mid rest (Ok count) next → left ≡ drop count rest
    → InTurn write_step at bytes (counts ++ count ∷ []) (LedTo next left)
InTurn-goes write_step at bytes [] mid rest count next left here took is = (
  next,
  subst (λ s. write_step s bytes (Ok count) next) (sym here.0) (subst (λ r. write_step mid r (Ok count) next) (sym here.1) took),
  (refl, ap (drop count) here.1 ∙ sym is),
)
InTurn-goes write_step at bytes (first ∷ counts) mid rest count next left told took is =
    (told.0, told.1, InTurn-goes write_step told.0 (drop first bytes) counts mid rest count next left told.2 took is)

-- what holds where the calls led
pub InTurn-ends : {S : Type 0} (write_step : S → List ℕ → Result ℕ SinkRefusal → S → Type 0) (at : S) (bytes counts : List ℕ) (mid : S) (rest : List ℕ)
    (Led : S → List ℕ → Type 0) → InTurn write_step at bytes counts (LedTo mid rest) → Led mid rest → InTurn write_step at bytes counts Led
InTurn-ends write_step at bytes [] mid rest Led here ends =
    subst (λ s. Led s bytes) (sym here.0) (subst (λ r. Led mid r) (sym here.1) ends)
InTurn-ends write_step at bytes (first ∷ counts) mid rest Led told ends =
    (told.0, told.1, InTurn-ends write_step told.0 (drop first bytes) counts mid rest Led told.2 ends)
