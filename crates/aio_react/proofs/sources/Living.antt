-- The keys that live in a world are those under which a core has a source.
use Rattle.std.proofs.Common.{◌≡◌, ◌==◌, ℕ, Bool, true, false, ◌||◌, cond, List, [], ◌∷◌, find, Option, None, Some, is_some, option_map, refl, sym, ◌∙◌}
use Rattle.std.specs.List.{list_any}
use Rattle.aio_base.specs.declared.names.Dir.{Dir}
use Rattle.aio_base.specs.Devices.{Interests}
use Rattle.aio_base.specs.Machine.{is_live}
use Rattle.aio_base.specs.World.{World, LiveSource, is_broken}
use Rattle.aio_react.specs.declared.entries.Listener.{Listener}
use Rattle.aio_react.specs.declared.entries.SourceEntry.{SourceEntry}
use Rattle.aio_react.specs.Cores.{CoreValue, entry_at}
use Rattle.aio_facts.specs.Facts.{Facts, facts_in, serial_in}
use Rattle.aio_react.specs.Standing.{PlaceStands, Stands}

found_or : {X : Type 0} (here others : Bool) (x : X) (rest : Option X) → others ≡ is_some rest → here || others ≡ is_some (cond here (Some x) rest)
found_or true others x rest same = refl
found_or false others x rest same = same

-- an element passes exactly where one is found
pub any_is_found : {X : Type 0} (p : X → Bool) (xs : List X) → list_any p xs ≡ is_some (find p xs)
any_is_found p [] = refl
any_is_found p (x ∷ xs) = found_or (p x) (list_any p xs) x (find p xs) (any_is_found p xs)

serial_or_none : (found : Option LiveSource) → is_some (option_map (λ (s : LiveSource). s.serial) found) ≡ is_some found
serial_or_none None = refl
serial_or_none (Some s) = refl

place_or_none : (listeners : List (Option Listener)) (place : Option SourceEntry) (serial : Option ℕ) (broken : ℕ → Bool) (facts : ℕ → Dir → Facts)
    → PlaceStands listeners place serial broken facts → is_some place ≡ is_some serial
place_or_none listeners None None broken facts stands = refl
place_or_none listeners None (Some serial) broken facts stands = absurd stands
place_or_none listeners (Some e) None broken facts stands = absurd stands
place_or_none listeners (Some e) (Some serial) broken facts stands = refl

pub live_stands : (told : Option Interests) (core : CoreValue) (w : World) (key : ℕ) → Stands told core w → is_some (entry_at core.sources key) ≡ is_live w.live key
live_stands told core w key stands =
    place_or_none core.listeners (entry_at core.sources key) (serial_in w.live key) (is_broken w) (facts_in w) (stands.sources key)
    ∙ serial_or_none (find (λ (s : LiveSource). s.key == key) w.live) ∙ sym (any_is_found (λ (s : LiveSource). s.key == key) w.live)
