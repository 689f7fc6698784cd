-- Which sources are registered after a step, and under which key a new one is.
use Rattle.std.specs.Prelude.{◌≡◌, ℕ, ◌+◌, ◌<◌, true, not, List, [], ◌∷◌, ◌++◌, map, filter, is_some}
use Rattle.std.specs.List.{Contains}
use Rattle.aio_base.specs.declared.steps.Step.{Step}
use Rattle.aio_base.specs.declared.steps.Step.TheVariants as step
use Rattle.aio_base.specs.declared.steps.Answer.{Answer}
use Rattle.aio_base.specs.declared.steps.Answer.TheVariants as answer
use Rattle.aio_base.specs.World.{LiveSource, World, serial_of}
use Rattle.aio_laws.specs.Others.{is_own_source}

-- The sources after a step, by its answer. An `add` that is told a key joins one at the end, under that key and the next serial. A `del` that is told
-- `gone` or `fault remove` takes out the source of its key, which is all that has the serial of it. Any other step, and one that is told anything
-- else, leaves the list as it was.
abbrev pub sources_after : World → Step → Answer → List LiveSource
sources_after w step.Add (answer.KeyIs key) = w.live ++ record { key = key.0; serial = w.serials + 1 } ∷ []
sources_after w (step.Del key) answer.Gone = filter (λ (x : LiveSource). not (is_own_source w (step.Del key) x)) w.live
sources_after w (step.Del key) answer.FaultRemove = filter (λ (x : LiveSource). not (is_own_source w (step.Del key) x)) w.live
sources_after w _ told = w.live

-- how many serials were given after a step: one more where a source joined
abbrev pub serials_after : World → Step → Answer → ℕ
serials_after w step.Add (answer.KeyIs key) = w.serials + 1
serials_after w _ told = w.serials

-- the keys of the sources
abbrev pub keys_of : List LiveSource → List ℕ
keys_of live = map (λ (x : LiveSource). x.key) live

-- a key that no source has, while each lesser one is that of a source
pub record IsLeastFree (live : List LiveSource) (key : ℕ) : Type 0 where
  pub free : Contains (keys_of live) key → ⊥
  pub least : (lesser : ℕ) → lesser < key → Contains (keys_of live) lesser

-- what an answer says of the sources before the step: the key of a new one was the least free key, and the key of one that is taken out was live
abbrev pub TellsOfSources : World → Step → Answer → Type 0
TellsOfSources w step.Add (answer.KeyIs key) = IsLeastFree w.live key.0
TellsOfSources w (step.Del key) answer.Gone = (is_some (serial_of w key.0) ≡ true)
TellsOfSources w (step.Del key) answer.FaultRemove = (is_some (serial_of w key.0) ≡ true)
TellsOfSources w _ told = Unit {0}

pub record SourcesFollow (w : World) (s : Step) (told : Answer) (v : World) : Type 0 where
  pub live : v.live ≡ sources_after w s told
  pub serials : v.serials ≡ serials_after w s told
  pub tells : TellsOfSources w s told
