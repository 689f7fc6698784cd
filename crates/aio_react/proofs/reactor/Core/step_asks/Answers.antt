use Rattle.std.proofs.Common.{◌≡◌, Some, sym}
use Rattle.aio_react.specs.Numbers.{value_of}
use Rattle.aio_react.proofs.reactor.Core.step_asks.Goals as goal

-- the source of a listener that is there asks as that listener does
pub returns-in-Some-get : goal.returns-in-Some-get
returns-in-Some-get g c w t =
    let i = c.self.inside in
    let l = c.in-Some.heard in
    let e = c.in-Some-get.entry.now in
    let is : value_of i.listeners c.args.listener ≡ Some l = sym c.in-Some.ensures in
    let there = sym c.in-Some-get.ensures.value in
    rw (← c.self.view_is, is, there) (c.listener_asks.ensures w t)
