use Rattle.std.proofs.Common.{◌≡◌, OnOk, slice_get, refl, sym, subst}
use Rattle.std.specs.List.{Contains}
use Rattle.aio_base.specs.declared.names.Event.{Event}
use Rattle.aio_sources.specs.Events.{HandlesByKey}
use Rattle.aio_sources.specs.Sources.{keys_of}
use Rattle.aio_sources.proofs.Handling.{handles_one, one_first, skips_one}
use Rattle.aio_sources.proofs.Keys.{key_among}
use Rattle.aio_sources.proofs.source_table.SourceTable.handle.Goals as goal

pub returns-in-None-clause-handled : goal.returns-in-None-clause-handled
returns-in-None-clause-handled g c = (
  c.in-Some.event,
  skips_one g.A.Faults.all_sure (keys_of c.args.self.now) c.in-Some.event (g.H.InHand.round c.args.events.now.round.now) (g.H.InHand.round c.skip.new.self.round.now)
      (sym c.in-Some.ensures.value) (c.in-None.ensures.none refl) c.skip.ensures.skips,
)

pub returns-in-None-clause-lent : goal.returns-in-None-clause-lent
returns-in-None-clause-lent g c event is among =
    let same = one_first (slice_get (g.H.InHand.round c.args.events.now.round.now).hand 0) c.in-Some.event event (sym c.in-Some.ensures.value) is in
    absurd (c.in-None.ensures.none refl (subst (λ (e : Event). Contains (keys_of c.args.self.now) e.key.0) same among))

pub returns-in-Some-lock_of-clause-handled : goal.returns-in-Some-lock_of-clause-handled
returns-in-Some-lock_of-clause-handled g c =
    let by = c.handle_at.ensures in
    handles_one g.A.Arm.arm_step g.A.Arm.interests g.A.Arm.rest g.A.Faults.fault_count g.A.Faults.is_sure g.A.Faults.all_sure (keys_of c.args.self.now) c.in-Some.event
    (g.H.InHand.round c.args.events.now.round.now) (g.H.InHand.round c.handle_at.new.self.round.now) c.handle_at.result (sym c.in-Some.ensures.value)
    (key_among c.args.self.now (record { key = c.in-Some.event.key.0; lock = c.in-Some-lock_of.lock.now }) c.in-Some-lock_of.ensures.some) by.handled by.fault

pub returns-in-Some-lock_of-clause-lent : goal.returns-in-Some-lock_of-clause-lent
returns-in-Some-lock_of-clause-lent g c event is among =
    let first = slice_get (g.H.InHand.round c.args.events.now.round.now).hand 0 in
    let same : c.in-Some.event ≡ event = sym (one_first first c.in-Some.event event (sym c.in-Some.ensures.value) is) in
    subst (λ (e : Event). OnOk c.handle_at.result (HandlesByKey g.A.Arm.arm_step g.A.Arm.interests g.A.Arm.rest g.A.Faults.fault_count g.A.Faults.is_sure e.key
    (g.H.InHand.round c.args.events.now.round.now) (g.H.InHand.round c.handle_at.new.self.round.now))) same c.handle_at.ensures.handled
