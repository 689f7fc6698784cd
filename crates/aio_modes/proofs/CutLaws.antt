-- What is left of events where it is armed.
use Rattle.std.proofs.Common.{◌≡◌, ◌⊎◌, ◌==◌, ◌&&◌, ◌||◌, ℕ, suc, Bool, true, false, cond, List, [], ◌∷◌, length, refl, inl, inr, sym, ap, ◌∙◌, arith}
use Rattle.std.specs.Prelude.{slice_index_or}
use Rattle.std.specs.List.{All}
use Rattle.std.proofs.lemmas.Bool.{and_parts, eqb-true}
use Rattle.aio_base.specs.declared.names.Dir.{Dir}
use Rattle.aio_base.specs.declared.names.Interest.{Interest}
use Rattle.aio_base.specs.declared.names.Event.{Event}
use Rattle.aio_base.specs.Devices.{Interests}
use Rattle.aio_base.specs.World.{has_any, has_dir}
use Rattle.aio_base.proofs.Searching.{false_unless}
use Rattle.aio_modes.specs.Interests.{common, cut_event, Cut, names_direction}
use Rattle.aio_modes.specs.Laws.{IsArmedWhole, IsLeftOf, IsWithin}
use Rattle.aio_modes.proofs.DirectionSets.{common_has, some_direction}

-- ## The order

common-is-within : (a b : Interest) → IsWithin (common a b) a
common-is-within a b = λ dir has. (and_parts (has_dir a dir) (has_dir b dir) (sym (common_has a b dir) ∙ has)).0

left-first : (some : Bool) (armed : Interests) (event : Event) (events left : List Event) → IsLeftOf events left → IsLeftOf (event ∷ events) (cond some (cut_event armed event ∷ left) left)
left-first true armed event events left rest = inr (common event.on (armed event.key.0), left, refl, common-is-within event.on (armed event.key.0), rest)
left-first false armed event events left rest = inl rest

pub cut_is_left : (events : List Event) (armed : Interests) → IsLeftOf events (Cut events armed)
cut_is_left [] armed = refl
cut_is_left (event ∷ events) armed = left-first (has_any (common event.on (armed event.key.0))) armed event events (Cut events armed) (cut_is_left events armed)

-- ## The directions

none-has : (on : Interest) (dir : Dir) → has_any on ≡ false → has_dir on dir ≡ false
none-has on dir none =
    false_unless (has_dir on dir) (λ has. let wrong : true ≡ false = sym (some_direction on dir has) ∙ none in cc)

and-false : (same : Bool) → (same && false) ≡ false
and-false true = refl
and-false false = refl

kept-names : (some : Bool) (event : Event) (later : List Event) (key : ℕ) (dir : Dir) → has_any event.on ≡ some → names_direction (cond some (event ∷ later) later) key dir ≡ (((event.key.0 == key) && has_dir event.on dir) || names_direction later key dir)
kept-names true event later key dir is = refl
kept-names false event later key dir is =
    sym (ap (λ (b : Bool). ((event.key.0 == key) && b) || names_direction later key dir) (none-has event.on dir is)
    ∙ ap (λ (b : Bool). b || names_direction later key dir) (and-false (event.key.0 == key)))

armed-apart : (here rest armed : Bool) → ((here && armed) || (rest && armed)) ≡ ((here || rest) && armed)
armed-apart true true true = refl
armed-apart true true false = refl
armed-apart true false true = refl
armed-apart true false false = refl
armed-apart false rest armed = refl

at-key : (same : Bool) (event : Event) (rest : Bool) (armed : Interests) (key : ℕ) (dir : Dir) → (event.key.0 == key) ≡ same
    → ((same && has_dir (common event.on (armed event.key.0)) dir) || (rest && has_dir (armed key) dir)) ≡ (((same && has_dir event.on dir) || rest) && has_dir (armed key) dir)
at-key true event rest armed key dir same =
    ap (λ (b : Bool). b || (rest && has_dir (armed key) dir)) (common_has event.on (armed event.key.0) dir ∙ ap (λ (k : ℕ). has_dir event.on dir && has_dir (armed k) dir) (eqb-true event.key.0 key same))
    ∙ armed-apart (has_dir event.on dir) rest (has_dir (armed key) dir)
at-key false event rest armed key dir other = refl

pub cut_names : (events : List Event) (armed : Interests) (key : ℕ) (dir : Dir) → names_direction (Cut events armed) key dir ≡ (names_direction events key dir && has_dir (armed key) dir)
cut_names [] armed key dir = refl
cut_names (event ∷ events) armed key dir =
    kept-names (has_any (common event.on (armed event.key.0))) (cut_event armed event) (Cut events armed) key dir refl
    ∙ ap (λ (b : Bool). ((event.key.0 == key) && has_dir (common event.on (armed event.key.0)) dir) || b) (cut_names events armed key dir)
    ∙ at-key (event.key.0 == key) event (names_direction events key dir) armed key dir refl

-- ## Where all is armed

whole-first : (some : Bool) (event cut : Event) (later all : List Event) → some ≡ true → cut ≡ event → later ≡ all → cond some (cut ∷ later) later ≡ event ∷ all
whole-first true event cut later all kept same rest = ap (λ (e : Event). e ∷ later) same ∙ ap (λ (es : List Event). event ∷ es) rest
whole-first false event cut later all wrong same rest = absurd cc

pub whole_is_kept : (events : List Event) (armed : Interests) → All (IsArmedWhole armed) events → Cut events armed ≡ events
whole_is_kept [] armed all = refl
whole_is_kept (event ∷ events) armed all =
    let here = all 0 event (omega arith) in
    whole-first (has_any (common event.on (armed event.key.0))) event (cut_event armed event) (Cut events armed) events
    (ap has_any here.within ∙ here.some)
    (ap (λ (on : Interest). record event { on = on }) here.within)
    (whole_is_kept events armed (λ i d within. all (suc i) d (omega arith)))
