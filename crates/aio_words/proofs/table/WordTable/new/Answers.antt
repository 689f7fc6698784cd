use Rattle.std.proofs.Common.{rules, ◌≡◌, ◌∙◌, sym, subst, List, [], ◌∷◌, ℕ, replicate}
use Rattle.aio_rules.specs.SharedWords.{WordRule, first_view, word_count}
use Rattle.aio_rules.proofs.WordAccounts.{start_meets_rule}
use Rattle.aio_words.proofs.table.WordTable.new.Goals as goal

pub of_words-requires : goal.of_words-requires
of_words-requires c = let n = c.args.parkers in let zeros : c.in_ok-zeros.zeros.items ≡ replicate (word_count n) 0 = search rules in
    subst (λ (words : List ℕ). WordRule n words (first_view ∷ [])) (sym (c.as_slice.ensures.value ∙ zeros)) (start_meets_rule n)
