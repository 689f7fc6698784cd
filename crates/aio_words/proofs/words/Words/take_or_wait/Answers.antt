use Rattle.std.proofs.Common.{rules, ◌≡◌, ◌==◌, ◌<◌, ℕ, ap, sym, ◌∙◌, subst, unwrap_or}
use Rattle.aio_rules.specs.declared.seats.Mode.TheVariants as mode
use Rattle.aio_rules.specs.declared.seats.WordStep.TheVariants as word_step
use Rattle.aio_rules.specs.SharedWords.{after, word_count}
use Rattle.aio_rules.proofs.WordSteps.{looking_holds}
use Rattle.aio_words.specs.Seats.{IsRoundSeat}
use Rattle.aio_words.proofs.Holding.{holds_still, looking_waits, the_parker, blocks_it, in_words, saw, waits_at_zero}
use Rattle.aio_words.proofs.words.Words.take_or_wait.Goals as goal
use Rattle.aio_words.proofs.words.Words.take_or_wait.Goals.{then-mask-eq0, else-mask-eq0}

pub load_mask-mask-requires : goal.load_mask-mask-requires
load_mask-mask-requires c = let seat = c.s.inside.seat in let was = c.s.invariant in
    let many : seat.words.words ≡ word_count c.self.inside.parkers = ap (λ t. t.words) (ap (λ s. s.words) c.s.view_is ∙ c.requires.0 ∙ sym (ap (λ w. w.identity) c.self.view_is)) ∙ c.self.invariant.sized in
    let blocks = ap (λ s. s.view.mode) c.s.view_is ∙ c.requires.1.1 in
    (search rules, (subst (λ n. c.s.inside.parker < n) (sym c.self.invariant.told) (in_words seat.view.mode _ _ was.holds c.requires.1.0 blocks _ many), was.role, blocks_it seat.view.mode _ _ was.holds c.requires.1.0 blocks))

pub invariant_of-s : goal.invariant_of-s
invariant_of-s c = let was = c.s.invariant in let found = c.load_mask-mask.result in let seat = c.s.inside.seat in let parker = c.s.inside.parker in
    let blocks = blocks_it seat.view.mode _ _ was.holds c.requires.1.0 (ap (λ s. s.view.mode) c.s.view_is ∙ c.requires.1.1) in
    subst (λ s. IsRoundSeat s c.s.inside.rounds parker (found == 0)) (sym c.load_mask-mask.ensures) (record {
      role = was.role;
      owes = was.owes;
      seen = was.seen;
      holds = holds_still seat.view.mode (after (word_step.LoadMask parker found) seat.view).mode _ _ (looking_holds seat.view.mode parker found blocks) was.holds;
      waiting = looking_waits (found == 0) seat.view.mode parker blocks;
    })

pub returns-clause-view : goal.returns-clause-view
returns-clause-view c parker blocks = let seat = c.s.inside.seat in let mask = c.load_mask-mask.result in let answer = c.if-mask-eq0.result in
    let named : parker ≡ c.s.inside.parker = the_parker seat.view.mode _ _ c.s.invariant.holds parker (ap (λ s. s.view.mode) c.s.view_is ∙ blocks) in
    let found : mask ≡ unwrap_or answer 0 = elim c.if-mask-eq0.branch [
      | then-mask-eq0 w ↦ w.if-mask-eq0.true ∙ ap (λ r. unwrap_or r 0) (sym w.result-is)
      | else-mask-eq0 w ↦ ap (λ r. unwrap_or r 0) (sym w.result-is)
    ] in
    saw seat c.load_mask-mask.new.s _ mask c.load_mask-mask.ensures parker named (unwrap_or answer 0) found ∙ ap (λ s. after (word_step.LoadMask parker (unwrap_or answer 0)) s.view) c.s.view_is

pub returns-clause-none : goal.returns-clause-none
returns-clause-none c = let seat = c.s.inside.seat in let new = c.load_mask-mask.new.s in let mask = c.load_mask-mask.result in
    elim c.if-mask-eq0.branch [
      | then-mask-eq0 w ↦ (
          let fact : (parker : ℕ) → c.args.s.now.view.mode ≡ mode.Block parker → new.view.mode ≡ mode.Wait parker = λ parker blocks.
          waits_at_zero seat new _ mask c.load_mask-mask.ensures parker (the_parker seat.view.mode _ _ c.s.invariant.holds parker (ap (λ s. s.view.mode) c.s.view_is ∙ blocks)) w.if-mask-eq0.true in
          rw w.result-is fact)
      | else-mask-eq0 w ↦ rw w.result-is (search rules)
    ]
