-- What nodes hold after a write of a link of a chain.
use Rattle.std.proofs.Common.{◌≡◌, ◌≢◌, ℕ, ◌<◌, List, length, Option, refl}
use Rattle.aio_timers.specs.declared.node.Node.{Node}
use Rattle.aio_timers.specs.Held.{held_at, held_of}
use Rattle.aio_timers.specs.Writes.{with_chain}
use Rattle.aio_timers.proofs.WriteLemmas.{kept, apart, here}

pub chain-here : (ns : List Node) (i : ℕ) (l : Option ℕ) → i < length ns → (held_at (with_chain ns i l) i).chain ≡ l
chain-here ns i l lt = here (λ (n : Node). n.chain) ns i _ lt

pub chain-there : (ns : List Node) (i : ℕ) (l : Option ℕ) (j : ℕ) → j ≢ i → held_at (with_chain ns i l) j ≡ held_at ns j
chain-there ns i l j ne = apart held_of ns i j _ ne

pub chain-id : (ns : List Node) (i : ℕ) (l : Option ℕ) (j : ℕ) → (held_at (with_chain ns i l) j).id ≡ (held_at ns j).id
chain-id ns i l j = kept (λ (n : Node). (held_of n).id) ns i j _ refl
