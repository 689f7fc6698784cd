-- The sources after a step are those that its answer tells, and a new one has the least free key.
use Rattle.std.proofs.Common.{◌≡◌, ℕ, ◌+◌, Bool, true, false, not, cond, ◌==◌, List, [], ◌∷◌, ◌++◌, length, Option, None, Some, is_some, refl, ap, ◌∙◌, sym, subst}
use Rattle.std.specs.Prelude.{nat_le}
use Rattle.std.specs.List.{Contains, filter, list_any}
use Rattle.std.specs.Option.{option_map_or}
use Rattle.std.proofs.lemmas.Bool.{eq-eqb, eqb-true}
use Rattle.aio_base.specs.declared.names.Key.{Key}
use Rattle.aio_base.specs.declared.steps.Step.{Step}
use Rattle.aio_base.specs.declared.steps.Step.TheVariants as step
use Rattle.aio_base.specs.declared.steps.Answer.{Answer}
use Rattle.aio_base.specs.declared.steps.Answer.TheVariants as answer
use Rattle.aio_base.specs.World.{PollerAnswer, LiveSource, ListenerEntry, World, serial_of}
use Rattle.aio_base.specs.Machine.{fails, next_answer, source_limit, free_key, add, del_source, case_of, step_result}
use Rattle.aio_laws.specs.Sources.{sources_after, serials_after, keys_of, IsLeastFree, TellsOfSources, SourcesFollow}
use Rattle.aio_base.proofs.Membership.{any_from, any_gives, image_is_in, mapped_from}
use Rattle.aio_laws.proofs.steps.FreeKeys.{free_key-free, free_key-least}
use Rattle.aio_laws.proofs.steps.Frames.{Frame, either, case_keeps}
use Rattle.aio_laws.proofs.steps.Asides.{Aside, leaves_aside}

-- ## The least free key

least_free : (live : List LiveSource) → IsLeastFree live (free_key live)
least_free live = record {
  free = λ among.
      let one = mapped_from (λ (x : LiveSource). x.key) live (free_key live) among in
      let lives = any_from (λ (x : LiveSource). x.key == free_key live) live one.0 one.1 (eq-eqb one.0.key (free_key live) one.2) in
      let not_live = free_key-free live in
      cc;
  least = λ lesser below.
      let one = any_gives (λ (x : LiveSource). x.key == lesser) live (free_key-least live lesser below) in
      subst (Contains (keys_of live)) (eqb-true one.0.key lesser one.2) (image_is_in (λ (x : LiveSource). x.key) live one.0 one.1);
}

-- ## A step

-- the answer of a step and the world after it, as far as sources go
record Sourced (w : World) (s : Step) (told : Answer) (v : World) : Type 0 where
  live : v.live ≡ sources_after w s told
  serials : v.serials ≡ serials_after w s told
  tells : TellsOfSources w s told

added : (w : World) (v : World) (failed : Bool) → v.live ≡ w.live ++ record { key = free_key w.live; serial = w.serials + 1 } ∷ [] → v.serials ≡ w.serials + 1
    → Sourced w step.Add (cond failed answer.FaultAdd (answer.KeyIs (record { 0 = free_key w.live }))) (cond failed w v)
added w v true live serials = record { live = refl; serials = refl; tells = tt }
added w v false live serials = record { live = live; serials = serials; tells = least_free w.live }

add_sourced : (w : World) (answers : List PollerAnswer) → Sourced w step.Add (add w answers).answer (add w answers).world
add_sourced w answers =
    either (λ o. Sourced w step.Add o.answer o.world) (nat_le source_limit (length w.live)) _ _ (record { live = refl; serials = refl; tells = tt })
    (added w _ (fails (next_answer answers)) refl refl)

-- the sources without those of a serial
abbrev but_serial : List LiveSource → Option ℕ → List LiveSource
but_serial live found = filter (λ (x : LiveSource). not (option_map_or (λ n. x.serial == n) found false)) live

removed : (w : World) (key : Key) (serial : ℕ) (v : World) (failed : Bool) → serial_of w key.0 ≡ Some serial → v.live ≡ but_serial w.live (Some serial)
    → v.serials ≡ w.serials → Sourced w (step.Del key) (cond failed answer.FaultRemove answer.Gone) v
removed w key serial v true is live serials = record { live = live ∙ ap (but_serial w.live) (sym is); serials = serials; tells = ap is_some is }
removed w key serial v false is live serials = record { live = live ∙ ap (but_serial w.live) (sym is); serials = serials; tells = ap is_some is }

del_sourced : (w : World) (key : Key) (found : Option ℕ) (answers : List PollerAnswer) → serial_of w key.0 ≡ found
    → Sourced w (step.Del key) (del_source w key.0 found answers).answer (del_source w key.0 found answers).world
del_sourced w key None answers is = record { live = refl; serials = refl; tells = tt }
del_sourced w key (Some serial) answers is =
    either (λ o. Sourced w (step.Del key) o.answer o.world) (list_any (λ (l : ListenerEntry). l.serial == serial) w.listeners) _ _
    (record { live = refl; serials = refl; tells = tt })
    (removed w key serial _ (fails (next_answer answers)) is refl refl)

-- a step that is of no source
abbrev sources : Frame → List LiveSource
sources f = f.live

abbrev given : Aside → ℕ
given a = a.serials

case_sourced : (w : World) (s : Step) (answers : List PollerAnswer) → Sourced w s (case_of w s answers).answer (case_of w s answers).world
case_sourced w step.Add answers = add_sourced w answers
case_sourced w (step.Del key) answers = del_sourced w key (serial_of w key.0) answers refl
case_sourced w s answers = record { live = ap sources (case_keeps w s answers); serials = ap given (leaves_aside w s answers); tells = tt }

pub sources_follow : (w : World) (s : Step) (answers : List PollerAnswer) → SourcesFollow w s (step_result w s answers).answer (step_result w s answers).world
unfolding step_result
sources_follow w s answers =
    let c = case_sourced w s answers in
    record { live = c.live; serials = c.serials; tells = c.tells }
