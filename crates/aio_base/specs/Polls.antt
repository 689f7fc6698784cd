-- What an answer of a poll says.
use Rattle.std.specs.Prelude.{⊤}
use Rattle.aio_base.specs.declared.outcomes.Poll.{Poll}
use Rattle.aio_base.specs.declared.outcomes.Poll.TheVariants.{Ready, Pending}

-- what holds of what is there
abbrev pub IfReady : {T : Type 0} → Poll T → (T → Type 0) → Type 0
IfReady (Ready x) Holds = Holds x
IfReady Pending Holds = ⊤

-- what holds where nothing is there yet
abbrev pub WhilePending : {T : Type 0} → Poll T → Type 0 → Type 0
WhilePending (Ready x) Holds = ⊤
WhilePending Pending Holds = Holds
