use Rattle.std.proofs.Common.{rules, ◌≡◌, ◌<◌, subst, ap, sym, refl, inr, ◌∙◌}
use Rattle.aio_rules.specs.declared.seats.WordStep.TheVariants as word_step
use Rattle.aio_rules.specs.SharedWords.{after, word_count}
use Rattle.aio_words.proofs.Holding.{the_parker, blocks_it, in_words}
use Rattle.aio_words.proofs.words.Words.unblock.Goals as goal

pub store_blocked-requires : goal.store_blocked-requires
store_blocked-requires c = let seat = c.s.inside.seat in let was = c.s.invariant in
    let many : seat.words.words ≡ word_count c.self.inside.parkers = ap (λ t. t.words) (ap (λ s. s.words) c.s.view_is ∙ c.requires.0 ∙ sym (ap (λ w. w.identity) c.self.view_is)) ∙ c.self.invariant.sized in
    let blocks = ap (λ s. s.view.mode) c.s.view_is ∙ c.requires.1.1 in
    (search rules, (subst (λ n. c.s.inside.parker < n) (sym c.self.invariant.told) (in_words seat.view.mode _ _ was.holds c.requires.1.0 blocks _ many), was.role, inr (refl, blocks_it seat.view.mode _ _ was.holds c.requires.1.0 blocks)))

pub returns-clause-view : goal.returns-clause-view
returns-clause-view c parker blocks = let same : parker ≡ c.s.inside.parker = the_parker c.s.inside.seat.view.mode _ _ c.s.invariant.holds parker (ap (λ s. s.view.mode) c.s.view_is ∙ blocks) in
    ap (λ s. s.view) c.store_blocked.ensures ∙ (λ k. after (word_step.StoreBlocked (sym same k) 0 1) (c.s.view_is k).view)
