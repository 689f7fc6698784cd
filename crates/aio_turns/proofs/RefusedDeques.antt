-- What wrong deques would come to, which the rule of a deque refuses.
use Rattle.std.proofs.Common.{◌≡◌, ◌≢◌, ℕ, ◌+◌, ◌<◌, ◌≤◌, true, List, [], ◌∷◌, length, refl, sym, ap, ◌∙◌, arith}
use Rattle.std.specs.List.{count_by}
use Rattle.std.proofs.lemmas.List.{length-append}
use mathlib.Core.Option.{some}
use lib.ListN.{get_elem?}
use Rattle.aio_turns.specs.declared.entries.TurnEntry.{TurnEntry}
use Rattle.aio_turns.specs.declared.entries.TurnHand.{TurnHand}
use Rattle.aio_turns.specs.Turns.{TurnsRule}
use Rattle.aio_turns.specs.Laws.{DequeRule, TurnPass, times_pulled}
use Rattle.aio_turns.proofs.Lists.{count_append}
use Rattle.aio_turns.proofs.Parts.{rule_has_its_parts}

-- a pop at the back, a steal past an older entry, and an entry that stays in the deque when it was pulled
not_the_oldest : (items : List TurnEntry) (views : List TurnPass) (pass at to : ℕ) (v : TurnPass) (e queued : TurnEntry) → DequeRule items views
    → get_elem? views pass ≡ some v → get_elem? v.hand.pulled at ≡ some e → get_elem? items to ≡ some queued → queued.number ≤ e.number → ⊥
not_the_oldest items views pass at to v e queued r v_at e_at queued_at late =
    let low = (rule_has_its_parts items views r).oldest pass at to v e queued v_at e_at queued_at in omega (arith, low, late)

-- an entry that two thieves take
pulled_twice : (items : List TurnEntry) (views : List TurnPass) (k : ℕ) → DequeRule items views → 2 ≤ times_pulled k views → ⊥
pulled_twice items views k r two = let most = (rule_has_its_parts items views r).once k in omega (arith, most, two)

-- a push that drops its entry once others are behind it
dropped : (items : List TurnEntry) (views : List TurnPass) (owner : TurnPass) (at : ℕ) (e : TurnEntry) → DequeRule items views → get_elem? views 0 ≡ some owner
    → get_elem? owner.hand.pushed at ≡ some e → at + length items < length owner.hand.pushed → times_pulled e.number views ≡ 0 → ⊥
dropped items views owner at e r owner_at e_at below none =
    let one = (rule_has_its_parts items views r).nothing_lost owner at e owner_at e_at below in omega (arith, one, none)

-- a steal that answers another place than it took
other_place : (items : List TurnEntry) (views : List TurnPass) (pass at : ℕ) (v owner : TurnPass) (e : TurnEntry) → DequeRule items views → get_elem? views pass ≡ some v
    → get_elem? views 0 ≡ some owner → get_elem? v.hand.pulled at ≡ some e → ((k : ℕ) → get_elem? owner.hand.pushed k ≢ some e) → ⊥
other_place items views pass at v owner e r v_at owner_at e_at never =
    let found = (rule_has_its_parts items views r).pushed pass at v owner e v_at owner_at e_at in never found.0 found.1

-- a thief that the owner did not count, as one that a call makes for itself
uncounted_thief : (items : List TurnEntry) (views : List TurnPass) (owner : TurnPass) → DequeRule items views → get_elem? views 0 ≡ some owner
    → length views ≡ owner.hand.thieves + 2 → ⊥
uncounted_thief items views owner r owner_at more = let all = (rule_has_its_parts items views r).passes owner owner_at in omega (arith, all, more)

all_pass : (es : List TurnEntry) → count_by (λ (e : TurnEntry). true) es ≡ length es
all_pass [] = refl
all_pass (e ∷ es) =
    let one : count_by (λ (f : TurnEntry). true) (e ∷ []) ≡ 1 = refl in
    let both = count_append (λ (f : TurnEntry). true) (e ∷ []) es in
    let rest = all_pass es in omega (arith, both, one, rest)

-- a pull of the first entry that no pass shows
hidden_pull : (x : TurnEntry) (items : List TurnEntry) (hands : List TurnHand) (owner : TurnHand) → get_elem? hands 0 ≡ some owner → TurnsRule (x ∷ items) hands
    → TurnsRule items hands → ⊥
hidden_pull x items hands owner at r left =
    let before = r.once (λ (e : TurnEntry). true) in
    let after = left.once (λ (e : TurnEntry). true) in
    let gone = all_pass r.gone in
    let gone_too = all_pass left.gone in
    let same : length r.pushed ≡ length left.pushed = ap (λ (l : List TurnEntry). length l) (sym (r.own owner at) ∙ left.own owner at) in
    let long : length r.pushed ≡ length r.gone + length (x ∷ items) = ap (λ (l : List TurnEntry). length l) r.suffix ∙ length-append r.gone (x ∷ items) in
    let long_too : length left.pushed ≡ length left.gone + length items = ap (λ (l : List TurnEntry). length l) left.suffix ∙ length-append left.gone items in
    let more : length (x ∷ items) ≡ length items + 1 = omega arith in
    omega (arith, before, after, gone, gone_too, same, long, long_too, more)
