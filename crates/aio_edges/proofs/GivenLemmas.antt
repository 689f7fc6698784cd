-- Lists to which events were added that each name a direction.
use Rattle.std.proofs.Common.{◌≡◌, true, List, [], ◌∷◌, ◌++◌, refl, sym, ap, ◌∙◌}
use Rattle.std.proofs.lemmas.List.{append-nil, append_assoc}
use Rattle.std.proofs.lemmas.List.Elements.{All-append, All-nil, All-cons}
use Rattle.aio_base.specs.declared.names.Event.{Event}
use Rattle.aio_modes.specs.Interests.{has_directions}
use Rattle.aio_edges.specs.Given.{AddsNamed}

-- none was added
pub adds_none : (xs : List Event) → AddsNamed xs xs
adds_none xs = record { added = []; is = sym (append-nil xs); named = All-nil (λ event. has_directions event ≡ true) }

-- one was added
pub adds_one : (xs : List Event) (event : Event) → has_directions event ≡ true → AddsNamed xs (xs ++ event ∷ [])
adds_one xs event named =
    record { added = event ∷ []; is = refl; named = All-cons (λ event. has_directions event ≡ true) event [] named (All-nil (λ event. has_directions event ≡ true)) }

-- some were added, and then others
pub adds_then : (xs ys zs : List Event) → AddsNamed xs ys → AddsNamed ys zs → AddsNamed xs zs
adds_then xs ys zs first then =
    record {
      added = first.added ++ then.added;
      is = then.is ∙ ap (λ (before : List Event). before ++ then.added) first.is ∙ append_assoc xs first.added then.added;
      named = All-append (λ event. has_directions event ≡ true) first.added then.added first.named then.named;
    }
