use Rattle.std.proofs.Common.{rules, arith, ◌≡◌, ◌≤◌, ◌+◌, ◌-◌, ◌++◌, ℕ, List, ap, subst, ◌∙◌, length, take, drop}
use Rattle.std.proofs.Math.Seq.{take-append_seam}
use borrow.Rule.Slice.PartMut.{post_of}
use Rattle.aio_base.specs.declared.names.Event.{Event}
use Rattle.aio_base.specs.Devices.{clear_interests}
use Rattle.aio_modes.specs.Interests.{Cut}
use Rattle.aio_script.specs.Interests.{interests_in}
use Rattle.aio_modes.specs.Raw.{RawDid}
use Rattle.aio_modes.specs.OneShots.{SetsEach, keys_to_set}
use Rattle.aio_modes.proofs.CuttingLemmas.{slice_from, front_in}
use Rattle.aio_modes.proofs.answering.answer_from.Goals as goal

pub returns-clause-answered : goal.returns-clause-answered
returns-clause-answered g c = λ before events is long.
    let whole : c.deref_mut.result.now ≡ before ++ events = c.deref_mut.ensures.value ∙ is in
    let piece : take (length c.deref_mut.result.now - c.args.start) (drop c.args.start c.deref_mut.result.now) ≡ events = slice_from before events c.deref_mut.result.now c.args.start long whole in
    let taken : take c.args.start c.deref_mut.result.now ≡ before = subst (λ (k : ℕ). take k c.deref_mut.result.now ≡ before) long (ap (take (length before)) whole ∙ take-append_seam before events) in
    let left = c.answer_events-left.result in
    let armed = interests_in c.args.armed.now in
    let front : take left c.answer_events-left.new.events ≡ Cut events armed = c.answer_events-left.ensures.front ∙ ap (λ (es : List Event). Cut es armed) piece in
    let within = c.answer_events-left.ensures.within in
    let size = c.answer_events-left.ensures.size in
    let fits : left ≤ length c.answer_events-left.new.events = omega arith in
    let bound : c.args.start + left ≤ c.args.out.now.len = search rules in
    let first = take c.args.start c.deref_mut.result.now in
    let now = c.answer_events-left.new.events in
    let behind = post_of c.args.start (length c.deref_mut.result.now - c.args.start) c.deref_mut.result.now in
    record {
      out = c.truncate.ensures.items
          ∙ front_in first before now behind (drop (length (first ++ (now ++ behind))) c.args.out.now.items) c.args.start left c.args.out.now.len taken long fits bound
          ∙ ap (λ (es : List Event). before ++ es) front;
      counted = (search rules) ∙ ap length front;
      unarmed = subst (λ (es : List Event). interests_in c.answer_events-left.new.armed ≡ clear_interests (Cut es armed) armed) piece c.answer_events-left.ensures.armed;
      set_again = subst (λ (es : List Event). SetsEach (RawDid g.R.RawPoller.raw_step g.R.RawPoller.told g.R.RawPoller.mode_of g.R.Faults.fault_count g.R.Faults.is_sure) (interests_in c.answer_events-left.new.armed) c.args.raw.now (keys_to_set (g.R.RawPoller.mode_of c.args.raw.now) es) c.answer_events-left.new.raw) piece c.answer_events-left.ensures.sets;
    }
