use Rattle.std.proofs.Common.{◌≡◌, [], length, sym, subst, arith, rules}
use Rattle.std.specs.List.{AllByRecursion}
use Rattle.aio_shared.specs.Members.{SharedValue}
use Rattle.aio_places.specs.Places.{AllStandFor, HasJoined}
use Rattle.aio_places.proofs.Standing.{all_have_joined, all_stand_for, two_each}
use Rattle.aio_places.proofs.places.begin.Goals as goal

pub places_of-requires-clause-joined : goal.places_of-requires-clause-joined
places_of-requires-clause-joined g c =
    let answers = c.in-Ok-start.started.sources.items in
    let begun = c.in-Ok-start.ensures.begun in
    subst (λ (shared : SharedValue). AllByRecursion (HasJoined g.A.Arm.rest shared.words.identity) answers) (sym c.in-Ok-new.ensures.ok)
    (all_have_joined g.A.Arm.arm_step g.A.Arm.rest g.A.Faults.fault_count g.A.Faults.is_sure g.A.Tells.telling g.met.A.Conn.rest_is_laid_out
    g.A.Tells.left_is_bounded c.in-Ok-start.started.shared.words.identity [] begun.0 c.args.conns.items answers begun.1).0

pub places_of-requires-clause-two_each : goal.places_of-requires-clause-two_each
places_of-requires-clause-two_each g c =
    let answers = c.in-Ok-start.started.sources.items in
    let begun = c.in-Ok-start.ensures.begun in
    let as_many : length answers ≡ length c.args.conns.items =
    (all_have_joined g.A.Arm.arm_step g.A.Arm.rest g.A.Faults.fault_count g.A.Faults.is_sure g.A.Tells.telling g.met.A.Conn.rest_is_laid_out
    g.A.Tells.left_is_bounded c.in-Ok-start.started.shared.words.identity [] begun.0 c.args.conns.items answers begun.1).1 in
    omega (arith, as_many, c.requires.two_each)

pub returns-clause-count : goal.returns-clause-count
returns-clause-count g c =
    let conns = c.args.conns.items in
    let places = c.in_ok-places.places.items in
    let begun = c.in-Ok-start.ensures.begun in
    let stand : AllStandFor g.A.Tells.telling g.A.Faults.is_sure conns places =
    all_stand_for g.A.Arm.arm_step g.A.Arm.rest g.A.Faults.fault_count g.A.Faults.is_sure g.A.Tells.telling g.met.A.Conn.rest_is_laid_out
    g.A.Tells.left_is_bounded c.in-Ok-start.started.shared.words.identity [] begun.0 conns c.in-Ok-start.started.sources.items places begun.1
    c.in_ok-places.ensures in
    omega (arith, two_each g.A.Tells.telling g.A.Faults.is_sure conns places stand, c.requires.two_each)

pub returns-clause-places : goal.returns-clause-places
returns-clause-places g c =
    let begun = c.in-Ok-start.ensures.begun in
    all_stand_for g.A.Arm.arm_step g.A.Arm.rest g.A.Faults.fault_count g.A.Faults.is_sure g.A.Tells.telling g.met.A.Conn.rest_is_laid_out
    g.A.Tells.left_is_bounded c.in-Ok-start.started.shared.words.identity [] begun.0 c.args.conns.items c.in-Ok-start.started.sources.items
    c.in_ok-places.places.items begun.1 c.in_ok-places.ensures

pub returns-clause-parkers : goal.returns-clause-parkers
returns-clause-parkers g c = search rules

pub returns-in_err-places-clause-parkers : goal.returns-in_err-places-clause-parkers
returns-in_err-places-clause-parkers g c = search rules
