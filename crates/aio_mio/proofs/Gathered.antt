-- What comes of the events of the system, one by one.
use Rattle.std.proofs.Common.{◌≡◌, ◌++◌, Bool, true, List, [], ◌∷◌, length, Some, refl, sym, ap, subst}
use Rattle.std.specs.Prelude.{if◌then◌else◌}
use Rattle.aio_base.specs.World.{has_any}
use Rattle.aio_base.specs.declared.names.Event.{Event}
use Rattle.aio_base.specs.declared.names.Interest.{Interest}
use Rattle.mio.specs.declared.event.event.Event as given
use Rattle.aio_mio.specs.Names.{source_event, tells_more}
use Rattle.aio_mio.specs.Gathering.{Came, CameOf}

-- an event of a source for which directions were answered brings them, and then what the later ones bring
pub came_of_source : (answers : Event → Bool → Interest → Type 0) (e : given.Event) (later : List given.Event) (told : Event) (on : Interest) (behind : List Event)
    → source_event e ≡ Some told → answers told (tells_more e) on → has_any on ≡ true → Came answers later behind
    → Came answers (e ∷ later) (record told { on = on } ∷ behind)
came_of_source answers e later told on behind is answered any came =
    subst (λ source. CameOf answers source (tells_more e) (Came answers later) (record told { on = on } ∷ behind)) (sym is)
    (on, behind, answered, came, ap (λ (some : Bool). (if some then record told { on = on } ∷ [] else []) ++ behind) (sym any))

-- where no event is left nothing more comes
pub nothing_comes : (answers : Event → Bool → Interest → Type 0) (rest : List given.Event) → length rest ≡ 0 → Came answers rest []
nothing_comes answers [] none = refl
nothing_comes answers (e ∷ later) none = absurd cc
