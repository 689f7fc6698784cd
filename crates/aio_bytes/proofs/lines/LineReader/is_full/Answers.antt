use Rattle.std.proofs.Common.{◌≡◌, ◌-◌, ap, drop, length, arith}
use Rattle.std.proofs.lemmas.Grind.{common_steps}
use Rattle.std.proofs.lemmas.List.{length-take, length-drop}
use Rattle.aio_bytes.specs.Held.{Held}
use Rattle.aio_bytes.proofs.lines.LineReader.is_full.Goals as goal
use Rattle.aio_bytes.proofs.lines.LineReader.is_full.Goals.{After-self}

-- as many bytes lie ahead as there are between the places
size : (c : After-self) → length c.args.self.now.ahead ≡ c.self.inside.end - c.self.inside.start
size c =
    let i = c.self.inside in
    omega (arith, ap (λ (h : Held). length h.ahead) c.self.view_is, length-take (i.end - i.start) (drop i.start i.buffer.items), length-drop i.start i.buffer.items)

pub returns-clause-full : goal.returns-clause-full
returns-clause-full c = let is = size c in grind (arith, common_steps)

pub returns-clause-room : goal.returns-clause-room
returns-clause-room c = let is = size c in grind (arith, common_steps)
