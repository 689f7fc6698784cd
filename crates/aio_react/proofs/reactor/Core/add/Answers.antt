use Rattle.std.proofs.Common.{◌≡◌, ◌≤◌, ◌∙◌, length, None, refl, ap, arith}
use Rattle.aio_react.specs.Cores.{CoreValue, entry_at}
use Rattle.aio_react.specs.Sources.{free_key}
use Rattle.aio_react.proofs.sources.AddMeets.{full_meets, added_meets, unadded_meets}
use Rattle.aio_source.proofs.KeyPlaces.{free_within}
use Rattle.aio_react.proofs.listeners.Listed.{listed_placed}
use Rattle.aio_react.proofs.sources.Places.{free_few, free_is_none, has_free, keyed_placed}
use Rattle.aio_react.proofs.reactor.Core.add.Goals as goal

pub returns-in_default-clause-meets : goal.returns-in_default-clause-meets
returns-in_default-clause-meets g c =
    let i = c.self.inside in
    let core : CoreValue = record { sources = i.sources; listeners = i.listeners; ticker = i.ticker; book = i.book.entries; ids_drawn = i.ids_drawn; round = i.round } in
    rw (← c.self.view_is) (full_meets _ g.P.Arm.interests i.poller core (c.free_key.ensures.full c.in_default.is))

pub returns-in_default-clause-answer : goal.returns-in_default-clause-answer
returns-in_default-clause-answer g c =
    let i = c.self.inside in
    rw (← c.self.view_is) (omega (arith, c.free_key.ensures.full c.in_default.is, free_few i.sources))

pub returns-in-Err-clause-meets : goal.returns-in-Err-clause-meets
returns-in-Err-clause-meets g c =
    let i = c.self.inside in
    let key = c.in-Some.key in
    let core : CoreValue = record { sources = i.sources; listeners = i.listeners; ticker = i.ticker; book = i.book.entries; ids_drawn = i.ids_drawn; round = i.round } in
    rw (← c.self.view_is) (unadded_meets g.P.Arm.arm_step g.P.EventWait.wait_step g.P.Arm.interests i.poller c.add.new.self core key
    (has_free i.sources 4096 c.in-Some.ensures.few (omega (arith, c.in-Some.ensures.least, c.in-Some.ensures.bound))) c.in-Err.ensures.step c.in-Err.ensures.interests)

pub returns-in-Err-clause-answer : goal.returns-in-Err-clause-answer
returns-in-Err-clause-answer g c =
    let i = c.self.inside in
    rw (← c.self.view_is) (has_free i.sources 4096 c.in-Some.ensures.few (omega (arith, c.in-Some.ensures.least, c.in-Some.ensures.bound)))

pub invariant_of-self-2 : goal.invariant_of-self-2
invariant_of-self-2 g c =
    let i = c.self.inside in
    let key = c.in-Some.key in
    let free : key.0 ≡ free_key i.sources = c.in-Some.ensures.least in
    let within : key.0 ≤ length i.sources = omega (arith, free, free_within i.sources) in
    let none : entry_at i.sources key.0 ≡ None = ap (entry_at i.sources) free ∙ free_is_none i.sources in (
      rw (c.put.ensures, c.new.ensures) (keyed_placed i.sources key.0 _ c.self.invariant.0 within refl),
      rw (c.put.ensures, c.new.ensures) (listed_placed i.sources i.listeners key c.self.invariant.1 within none),
      c.self.invariant.2,
    )

pub returns-clause-meets : goal.returns-clause-meets
returns-clause-meets g c =
    let i = c.self.inside in
    let key = c.in-Some.key in
    let core : CoreValue = record { sources = i.sources; listeners = i.listeners; ticker = i.ticker; book = i.book.entries; ids_drawn = i.ids_drawn; round = i.round } in
    let free : key.0 ≡ free_key i.sources = c.in-Some.ensures.least in
    rw (← c.self.view_is, c.put.ensures, c.new.ensures) (added_meets g.P.Arm.arm_step g.P.EventWait.wait_step g.P.Arm.interests i.poller c.add.new.self core
    key free (has_free i.sources 4096 c.in-Some.ensures.few (omega (arith, free, c.in-Some.ensures.bound))) c.in-Ok.ensures.step c.in-Ok.ensures.interests)

pub returns-clause-answer : goal.returns-clause-answer
returns-clause-answer g c =
    let i = c.self.inside in
    let free : c.in-Some.key.0 ≡ free_key i.sources = c.in-Some.ensures.least in
    rw (← c.self.view_is) (has_free i.sources 4096 c.in-Some.ensures.few (omega (arith, free, c.in-Some.ensures.bound)), free)
