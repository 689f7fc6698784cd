-- A read that gives the front of the bytes behind a place, and one that a reader within answers.
use Rattle.std.proofs.Common.{◌≡◌, ℕ, ◌+◌, ◌-◌, ◌<◌, ◌++◌, List, [], length, take, drop, min, sym, ap, ◌∙◌, arith}
use Rattle.std.specs.Prelude.{Option, Result, Ok, Err, false, is_err}
use Rattle.std.specs.Io.KnownBytes.{ReadConsumes}
use Rattle.aio_base.specs.declared.outcomes.Failed.{Failed}
use Rattle.aio_bytes.specs.Adapters.{Adapter, ReadsBy}
use Rattle.aio_bytes.specs.Held.{with_bytes}
use Rattle.std.proofs.lemmas.List.{drop-drop, length-drop, length-take, nil_from_length, take-append-drop, take_all}

-- what was left is the front that was given and what is behind it
pub front_given : (items all given left : List ℕ) (position count : ℕ) → all ≡ items → drop position items ≡ left → take count given ≡ take count (take (length all - position) (drop position all))
    → left ≡ take count given ++ drop (position + count) items
front_given items all given left position count same left-is copied =
    let front = copied ∙ ap (λ (l : List ℕ). take count (take (length l - position) (drop position l))) same
    ∙ ap (take count) (take_all (length items - position) (drop position items) (omega (arith, length-drop position items))) in
    sym left-is ∙ sym (take-append-drop count (drop position items)) ∙ ap (λ l. l ++ drop count (drop position items)) (sym front)
    ∙ ap (λ l. take count given ++ l) (drop-drop count position items)

-- where none is given though there is room, none is left
pub none_given : (items all : List ℕ) (position room count : ℕ) → all ≡ items → count ≡ min room (length (take (length all - position) (drop position all))) → 0 < room → count ≡ 0
    → drop (position + count) items ≡ []
none_given items all position room count same is some none =
    nil_from_length (drop (position + count) items)
    (omega (arith, is, none, some, ap length same, length-drop (position + count) items, length-drop position all, length-take (length all - position) (drop position all)))

-- a read of the reader within that succeeds
pub read_within : {T : Type 0} (remaining : T → Option (List ℕ)) (old new : Adapter T) (answer : Result ℕ Failed) (given : List ℕ)
    → is_err answer ≡ false → new.fault_count ≡ old.fault_count → ReadConsumes (remaining old.inner) (remaining new.inner) answer given → 0 < length given
    → ReadsBy remaining old (with_bytes answer given) new
read_within remaining old new (Err failed) given well faults consumed some = absurd cc
read_within remaining old new (Ok count) given well faults consumed some = record {
  faults = faults;
  inner = (consumed.0, λ none. consumed.1 (omega (arith, ap length none, length-take count given)) some);
}
