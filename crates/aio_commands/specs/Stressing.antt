-- The command `stress`: what it writes, and which device it touches.
use Rattle.std.specs.Prelude.{◌≡◌, ℕ, ◌*◌, List, ◌++◌, codes, decimal}
use Rattle.aio_base.specs.Text.{ended_line}
use Rattle.aio_jobs.specs.declared.kit.SixDevices.{SixDevices}

-- The line of two jobs that made so many calls each: how many both made, and how many steps the cells have.
abbrev pub stress_line : ℕ → ℕ → List ℕ
stress_line made replayed = ended_line (codes "calls " ++ decimal made ++ codes " replayed " ++ decimal replayed)

-- both are the same
abbrev pub stress_text : ℕ → List ℕ
stress_text calls = stress_line (2 * calls) (2 * calls)

-- of six devices only what runs jobs may be another than before
abbrev pub TouchesSpawner : {P W N C G T : Type 0} → SixDevices P W N C G T → SixDevices P W N C G T → Type 0
TouchesSpawner old new = new ≡ record old { spawner = new.spawner }
