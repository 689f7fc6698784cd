-- The rule of a deque with the counts beside the hands: it holds at the start, each kind of step keeps it, and it has its parts.
use Rattle.std.proofs.Common.{◌≡◌, ℕ, zero, suc, ◌+◌, ◌<◌, ◌≤◌, Bool, true, false, cond, ◌&&◌, eqb, List, [], ◌∷◌, ◌++◌, length, set, sym, refl, ap, ◌∙◌, subst, ⊎_elim, zero-add, arith}
use Rattle.std.specs.List.{count_by, AllByRecursion as Every}
use Rattle.std.proofs.lemmas.Bool.{cases_Bool, eq-eqb, ne_eqb, eqb-true, and_parts, and_from}
use Rattle.std.proofs.lemmas.List.{map_push, map-set, length-append, length-map}
use mathlib.Core.Option.{some, some-injective, some-ne-none}
use lib.ListN.{get_elem?}
use Rattle.aio_rules.proofs.SeatLists.{set_to_itself}
use Rattle.aio_rules.proofs.OperationLists.{each_at, each_with}
use Rattle.aio_turns.specs.declared.entries.TurnEntry.{TurnEntry}
use Rattle.aio_turns.specs.declared.entries.TurnHand.{TurnHand}
use Rattle.aio_turns.specs.Turns.{Counts, TurnsRule, count_pulled, new_hand}
use Rattle.aio_turns.specs.Laws.{TurnPass, after_push, after_pull, after_thief, found_none, fresh_pass, hands_of, next_of, StartMeetsRule, PushKeepsRule, PullKeepsRule, EmptyPullKeepsRule, NewThiefKeepsRule, RuleHasItsParts, times_pulled}
use Rattle.aio_turns.proofs.Lists.{Within, count_append, counts_at, counts_rest, counts_within}
use Rattle.aio_turns.proofs.Steps.{begins, push_keeps, pull_keeps, thief_keeps}

hand_at : (views : List TurnPass) (pass : ℕ) (v : TurnPass) → get_elem? views pass ≡ some v → get_elem? (hands_of views) pass ≡ some v.hand
hand_at [] pass v e = absurd (some-ne-none v (sym e))
hand_at (x ∷ xs) zero v e = ap (λ (u : TurnPass). some u.hand) (some-injective x v e)
hand_at (x ∷ xs) (suc pass) v e = hand_at xs pass v e

hands_set : (views : List TurnPass) (pass : ℕ) (w : TurnPass) → set (hands_of views) pass w.hand ≡ hands_of (set views pass w)
hands_set views pass w = sym (map-set (λ (u : TurnPass). u.hand) views pass w)

pub start_meets_rule : StartMeetsRule
start_meets_rule = begins

pub push_keeps_rule : PushKeepsRule
push_keeps_rule items views v place s =
    let x = next_of place v in
    subst (TurnsRule (items ++ x ∷ [])) (hands_set views 0 (after_push place v)) (push_keeps items (hands_of views) v.hand x s.rule (hand_at views 0 v s.stands) refl)

pub pull_keeps_rule : PullKeepsRule
pull_keeps_rule x items views pass v s =
    subst (TurnsRule items) (hands_set views pass (after_pull x v)) (pull_keeps x items (hands_of views) pass v.hand s.rule (hand_at views pass v s.stands))

pub empty_pull_keeps_rule : EmptyPullKeepsRule
empty_pull_keeps_rule views pass v s =
    subst (TurnsRule []) (sym (set_to_itself (hands_of views) pass v.hand (hand_at views pass v s.stands)) ∙ hands_set views pass (found_none v)) s.rule

pub new_thief_keeps_rule : NewThiefKeepsRule
new_thief_keeps_rule items views v s =
    let counted = set views 0 (after_thief v) in
    let beside : hands_of (counted ++ fresh_pass ∷ []) ≡ hands_of counted ++ new_hand ∷ [] = map_push (λ (u : TurnPass). u.hand) counted fresh_pass in
    subst (TurnsRule items) (sym beside)
    (subst (λ (l : List TurnHand). TurnsRule items (l ++ new_hand ∷ [])) (hands_set views 0 (after_thief v))
    (thief_keeps items (hands_of views) v.hand s.rule (hand_at views 0 v s.stands)))

-- ## The parts

counts_front : (k : ℕ) (es fs : List TurnEntry) → Counts k (es ++ fs) → Counts k es
counts_front k [] fs c = tt
counts_front k (e ∷ es) fs c = (c.0, counts_front (k + 1) es fs c.1)

-- as `count_by` counts it
abbrev one : Bool → ℕ
one b = cond b 1 0

count_cons : (test : TurnEntry → Bool) (e : TurnEntry) (es : List TurnEntry) → count_by test (e ∷ es) ≡ one (test e) + count_by test es
count_cons test e es =
    let single : count_by test (e ∷ []) ≡ one (test e) = zero-add (one (test e)) in let both = count_append test (e ∷ []) es in omega (arith, both, single)

count_none : (test : TurnEntry → Bool) (es : List TurnEntry) → Every (λ (e : TurnEntry). test e ≡ false) es → count_by test es ≡ 0
count_none test [] all = refl
count_none test (e ∷ es) all = let here : one (test e) ≡ 0 = ap one all.0 in let rest = count_none test es all.1 in omega (arith, here, rest, count_cons test e es)

-- one number stands once among entries that are numbered without a gap
count_once : (n k : ℕ) (es : List TurnEntry) → Counts k es → count_by (λ (e : TurnEntry). eqb e.number n) es ≤ 1
count_once n k [] c = omega arith
count_once n k (e ∷ es) c =
    let test : TurnEntry → Bool = λ f. eqb f.number n in
    let rest = count_once n (k + 1) es c.1 in
    let first = c.0 in
    ⊎_elim
    (λ (hit : test e ≡ true).
    let here : one (test e) ≡ 1 = ap one hit in
    let same = eqb-true e.number n hit in
    let none = count_none test es (each_with (Within (k + 1) ((k + 1) + length es)) (λ (f : TurnEntry). test f ≡ false) es
    (λ f w. let low = w.0 in ne_eqb f.number n (λ is. omega (arith, low, is, same, first))) (counts_within (k + 1) es c.1)) in
    omega (arith, here, none, count_cons test e es))
    (λ (miss : test e ≡ false). let here : one (test e) ≡ 0 = ap one miss in omega (arith, here, rest, count_cons test e es))
    (cases_Bool (test e))

count_there : (test : TurnEntry → Bool) (es : List TurnEntry) (at : ℕ) (e : TurnEntry) → get_elem? es at ≡ some e → test e ≡ true → 1 ≤ count_by test es
count_there test [] at e is hit = absurd (some-ne-none e (sym is))
count_there test (f ∷ es) zero e is hit =
    let here : one (test f) ≡ 1 = ap one (ap test (some-injective f e is) ∙ hit) in omega (arith, here, count_cons test f es)
count_there test (f ∷ es) (suc at) e is hit = let rest = count_there test es at e is hit in omega (arith, rest, count_cons test f es)

found_counted : (test : TurnEntry → Bool) (es : List TurnEntry) → 1 ≤ count_by test es → (at : ℕ) × (e : TurnEntry) × (get_elem? es at ≡ some e) × (test e ≡ true)
found_counted test [] some_one = absurd (omega (arith, some_one))
found_counted test (e ∷ es) some_one = ⊎_elim
    (λ (hit : test e ≡ true). (0, e, refl, hit))
    (λ (miss : test e ≡ false).
    let here : one (test e) ≡ 0 = ap one miss in
    let rest = found_counted test es (omega (arith, here, some_one, count_cons test e es)) in (suc rest.0, rest.1, rest.2, rest.3))
    (cases_Bool (test e))

count_pulled_there : (test : TurnEntry → Bool) (hands : List TurnHand) (pass : ℕ) (h : TurnHand) → get_elem? hands pass ≡ some h → count_by test h.pulled ≤ count_pulled test hands
count_pulled_there test [] pass h e = absurd (some-ne-none h (sym e))
count_pulled_there test (x ∷ hands) zero h e = let same : count_by test x.pulled ≡ count_by test h.pulled = ap (λ (y : TurnHand). count_by test y.pulled) (some-injective x h e) in omega (arith, same)
count_pulled_there test (x ∷ hands) (suc pass) h e = let rest = count_pulled_there test hands pass h e in omega (arith, rest)

in_front : {X : Type 0} (xs ys : List X) (at : ℕ) (x : X) → get_elem? xs at ≡ some x → get_elem? (xs ++ ys) at ≡ some x
in_front [] ys at x e = absurd (some-ne-none x (sym e))
in_front (y ∷ xs) ys zero x e = e
in_front (y ∷ xs) ys (suc at) x e = in_front xs ys at x e

from_front : {X : Type 0} (xs ys : List X) (at : ℕ) (x : X) → at < length xs → get_elem? (xs ++ ys) at ≡ some x → get_elem? xs at ≡ some x
from_front [] ys at x below e = absurd (omega (arith, below))
from_front (y ∷ xs) ys zero x below e = e
from_front (y ∷ xs) ys (suc at) x below e = from_front xs ys at x (omega (arith, below)) e

same_entry : (e f : TurnEntry) → e.number ≡ f.number → e.place ≡ f.place → e ≡ f
same_entry e f number place = λ i. record { number = number i; place = place i }

module _ (items : List TurnEntry) (views : List TurnPass) (r : TurnsRule items (hands_of views)) where
  gone_counts : Counts 1 r.gone
  gone_counts = counts_front 1 r.gone items (subst (Counts 1) r.suffix r.counted)

  all_long : length r.pushed ≡ length r.gone + length items
  all_long = ap (λ (l : List TurnEntry). length l) r.suffix ∙ length-append r.gone items

  owns : (v : TurnPass) → get_elem? views 0 ≡ some v → v.hand.pushed ≡ r.pushed
  owns v at = r.own v.hand (hand_at views 0 v at)

  low : (pass at : ℕ) (v : TurnPass) (e : TurnEntry) → get_elem? views pass ≡ some v → get_elem? v.hand.pulled at ≡ some e → e.number ≤ length r.gone
  low pass at v e v_at e_at = each_at (λ (f : TurnEntry). f.number ≤ length r.gone) v.hand.pulled at e (r.before pass v.hand (hand_at views pass v v_at)) e_at

  was_pushed : (pass at : ℕ) (v owner : TurnPass) (e : TurnEntry) → get_elem? views pass ≡ some v → get_elem? views 0 ≡ some owner → get_elem? v.hand.pulled at ≡ some e
      → (k : ℕ) × (get_elem? owner.hand.pushed k ≡ some e)
  was_pushed pass at v owner e v_at owner_at e_at =
      let test : TurnEntry → Bool = λ f. eqb f.number e.number && eqb f.place e.place in
      let hit : test e ≡ true = and_from (eqb e.number e.number) (eqb e.place e.place) (eq-eqb e.number e.number refl) (eq-eqb e.place e.place refl) in
      let one = count_there test v.hand.pulled at e e_at hit in
      let few = count_pulled_there test (hands_of views) pass v.hand (hand_at views pass v v_at) in
      let all = r.once test in
      let found = found_counted test r.gone (omega (arith, one, few, all)) in
      let parts = and_parts (eqb found.1.number e.number) (eqb found.1.place e.place) found.3 in
      let same : found.1 ≡ e = same_entry found.1 e (eqb-true found.1.number e.number parts.0) (eqb-true found.1.place e.place parts.1) in (
        found.0,
        subst (λ (l : List TurnEntry). get_elem? l found.0 ≡ some e) (sym (owns owner owner_at ∙ r.suffix))
            (in_front r.gone items found.0 e (found.2 ∙ ap (λ (f : TurnEntry). some f) same)),
      )

  not_lost : (owner : TurnPass) (at : ℕ) (e : TurnEntry) → get_elem? views 0 ≡ some owner → get_elem? owner.hand.pushed at ≡ some e
      → at + length items < length owner.hand.pushed → times_pulled e.number views ≡ 1
  not_lost owner at e owner_at e_at below =
      let test : TurnEntry → Bool = λ f. eqb f.number e.number in
      let long : length owner.hand.pushed ≡ length r.pushed = ap (λ (l : List TurnEntry). length l) (owns owner owner_at) in
      let both = all_long in
      let here : get_elem? r.gone at ≡ some e = from_front r.gone items at e (omega (arith, below, long, both))
      (subst (λ (l : List TurnEntry). get_elem? l at ≡ some e) (owns owner owner_at ∙ r.suffix) e_at) in
      let least = count_there test r.gone at e here (eq-eqb e.number e.number refl) in
      let most = count_once e.number 1 r.gone gone_counts in
      let all = r.once test in
      omega (arith, least, most, all)

pub rule_has_its_parts : RuleHasItsParts
rule_has_its_parts items views r = record {
  suffix = λ v at. (r.gone, owns items views r v at ∙ r.suffix);
  once = λ k. let most = count_once k 1 r.gone (gone_counts items views r) in let all = r.once (λ (e : TurnEntry). eqb e.number k) in omega (arith, most, all);
  nothing_lost = not_lost items views r;
  pushed = was_pushed items views r;
  bound = λ pass at v owner e v_at owner_at e_at.
      let few = low items views r pass at v e v_at e_at in
      let all = all_long items views r in
      let long : length owner.hand.pushed ≡ length r.pushed = ap (λ (l : List TurnEntry). length l) (owns items views r owner owner_at) in
      omega (arith, few, all, long);
  oldest = λ pass at to v e queued v_at e_at queued_at.
      let few = low items views r pass at v e v_at e_at in
      let far = counts_at (1 + length r.gone) items to queued (counts_rest 1 r.gone items (subst (Counts 1) r.suffix r.counted)) queued_at in
      omega (arith, few, far);
  passes = λ owner owner_at. sym (length-map views (λ (u : TurnPass). u.hand)) ∙ r.made owner.hand (hand_at views 0 owner owner_at);
  rising = λ pass v v_at. r.rising pass v.hand (hand_at views pass v v_at);
}
