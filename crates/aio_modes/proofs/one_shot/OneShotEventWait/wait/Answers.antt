use Rattle.std.proofs.Common.{rules, sym, subst, ◌∙◌, List}
use Rattle.std.proofs.lemmas.List.{append_cancel_left}
use Rattle.aio_base.specs.declared.names.Event.{Event}
use Rattle.aio_script.specs.Interests.{interests_in}
use Rattle.aio_modes.specs.OneShots.{GivesCut, SwallowsNothing}
use Rattle.aio_modes.proofs.DoneLemmas.{asked_when_waited, swallows_when_waited, gives_when_waited}
use Rattle.aio_modes.proofs.FaultLemmas.{faults_of_wait}
use Rattle.aio_modes.proofs.one_shot.OneShotEventWait.wait.Goals as goal

pub invariant_of-self : goal.invariant_of-self
invariant_of-self g c =
    let a = c.in-Ok-Given.ensures.added in let ans = c.answer_from-left.ensures.answered c.args.out.now.items a.0 a.1 (search rules) in
    asked_when_waited g.R.RawPoller.raw_step g.R.RawPoller.told g.R.RawPoller.mode_of g.R.Faults.fault_count g.R.Faults.is_sure c.self.inside.raw c.wait.new.self c.answer_from-left.new.raw (record { room = c.args.room; limit = c.args.limit }) _ a.0 (interests_in c.self.inside.armed) (interests_in c.answer_from-left.new.armed) a.3 a.2 c.self.invariant ans.unarmed ans.set_again

pub returns-in-Ok-Given-clause-faults : goal.returns-in-Ok-Given-clause-faults
returns-in-Ok-Given-clause-faults g c =
    let a = c.in-Ok-Given.ensures.added in let ans = c.answer_from-left.ensures.answered c.args.out.now.items a.0 a.1 (search rules) in
    let f = faults_of_wait g.R.RawPoller.raw_step g.R.RawPoller.told g.R.RawPoller.mode_of g.R.Faults.fault_count g.R.Faults.is_sure (interests_in c.answer_from-left.new.armed) c.self.inside.raw c.wait.new.self _ c.answer_from-left.new.raw _ a.3.faults ans.set_again in
    rw (← c.self.view_is) (record { cause = f.cause; sure = f.sure })

pub returns-in-Ok-Given-clause-given : goal.returns-in-Ok-Given-clause-given
returns-in-Ok-Given-clause-given g c =
    let a = c.in-Ok-Given.ensures.added in let ans = c.answer_from-left.ensures.answered c.args.out.now.items a.0 a.1 (search rules) in
    rw (← c.self.view_is) (λ added is.
    subst (GivesCut (g.R.RawPoller.mode_of c.self.inside.raw) (g.R.RawPoller.told c.self.inside.raw) (interests_in c.self.inside.armed) c.args.room _)
    (append_cancel_left c.args.out.now.items _ _ (sym ans.out ∙ is))
    (gives_when_waited g.R.RawPoller.raw_step g.R.RawPoller.told g.R.RawPoller.mode_of g.R.Faults.fault_count g.R.Faults.is_sure c.self.inside.raw c.wait.new.self (record { room = c.args.room; limit = c.args.limit }) _ c.in-Ok-Given.field-0-0 _ a.0 (interests_in c.self.inside.armed) (search rules) a.3))

pub returns-in-Ok-Given-clause-kept : goal.returns-in-Ok-Given-clause-kept
returns-in-Ok-Given-clause-kept g c =
    let a = c.in-Ok-Given.ensures.added in let ans = c.answer_from-left.ensures.answered c.args.out.now.items a.0 a.1 (search rules) in
    rw (← c.self.view_is) (λ added is.
    subst (λ (events : List Event). SwallowsNothing (g.R.RawPoller.mode_of c.self.inside.raw) (g.R.RawPoller.told c.self.inside.raw) (interests_in c.self.inside.armed) events (g.R.RawPoller.told c.answer_from-left.new.raw) (interests_in c.answer_from-left.new.armed))
    (append_cancel_left c.args.out.now.items _ _ (sym ans.out ∙ is))
    (swallows_when_waited g.R.RawPoller.raw_step g.R.RawPoller.told g.R.RawPoller.mode_of g.R.Faults.fault_count g.R.Faults.is_sure c.self.inside.raw c.wait.new.self c.answer_from-left.new.raw (record { room = c.args.room; limit = c.args.limit }) _ a.0 (interests_in c.self.inside.armed) (interests_in c.answer_from-left.new.armed) a.3 a.2 ans.unarmed ans.set_again))
