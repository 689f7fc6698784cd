-- Words and views agree at the start, and still do after each move of a seat.
use Rattle.std.proofs.Common.{◌≡◌, ◌≢◌, ℕ, zero, suc, ◌≤◌, List, [], ◌∷◌, ◌++◌, length-append, set, get_or, replicate, sym, refl, ap, ◌∙◌, subst, inl, inr, ⊎_elim, arith}
use Rattle.std.proofs.lemmas.List.{length-replicate}
use mathlib.Core.Option.{some, some-injective, some-ne-none}
use lib.ListN.{get_elem?}
use Rattle.aio_rules.specs.declared.seats.Role.TheVariants as role
use Rattle.aio_rules.specs.declared.seats.Mode.TheVariants as mode
use Rattle.aio_rules.specs.declared.seats.SeatView.{SeatView}
use Rattle.aio_rules.specs.SharedWords.{ticker, blocked_place, word_count, first_view, split_view, after_split, spent_view, joined_seat, held, IsFree, Each, IsTold, AgreesWithWords, WordsAgree}
use Rattle.aio_rules.proofs.SeatLists.{beside_set, before_end, at_end_or_before}
use Rattle.aio_rules.proofs.WordFrames.{not_both, idle_holds_none, idle_pass, still, by_seat}
use Rattle.aio_rules.proofs.WordSteps.{tells_beside, owed_none}

pub zeros : (k at : ℕ) → get_or (replicate k zero) at zero ≡ zero
zeros zero at = refl
zeros (suc k) zero = refl
zeros (suc k) (suc at) = zeros k at

alone : (Holds : ℕ → SeatView → Type 0) (v : SeatView) → Holds 0 v → Each (v ∷ []) Holds
alone Holds v here zero u e = subst (Holds 0) (some-injective v u e) here
alone Holds v here (suc at) u e = absurd (some-ne-none u (sym e))

pub start_agrees : (n : ℕ) → WordsAgree n (replicate (word_count n) 0) (first_view ∷ [])
start_agrees n = let words : List ℕ = replicate (word_count n) 0 in let zero_at : (at : ℕ) → get_or words at 0 ≡ 0 = zeros (word_count n) in
    record {
      sized = length-replicate (word_count n) 0;
      one_round = (0, omega arith, alone _ first_view ((λ _. refl), (λ _. refl)));
      notified_bit = let z = zero_at 1 in omega arith;
      blocked_bit = λ i. subst (λ (b : ℕ). b ≤ 1) (sym (zero_at (blocked_place i))) (omega arith);
      each = alone _ first_view (record {
        seen = omega arith;
        exact = λ _. sym (zero_at 0);
        idle = λ _. refl;
        flag = λ i holds. idle_holds_none mode.Idle i refl holds;
        alone = λ _ i set. absurd (set (zero_at (blocked_place i)));
        told = λ i waits. idle_holds_none mode.Idle i refl (ap held waits);
      });
    }

-- the rule with one pass more at the end of the seats, whose ticker has come by then
with_pass_at_end : (n : ℕ) (words : List ℕ) (views : List SeatView) (from : SeatView) → from.seen ≤ ticker words → WordsAgree n words views → WordsAgree n words (views ++ split_view from ∷ [])
with_pass_at_end n words views from below rule = let new : SeatView = split_view from in let all : List SeatView = views ++ new ∷ [] in let round = rule.one_round in
    let tells : (i : ℕ) → IsTold words views i → IsTold words all i =
    λ i told woken. ⊎_elim inl (λ mid. inr (mid.0, mid.1, before_end views new mid.0 mid.1 mid.2, mid.3)) (told woken) in
    record {
      sized = rule.sized;
      one_round = (
        round.0,
        (let long = length-append views (new ∷ []) in let b = round.1 in omega arith),
        (λ at u e. ⊎_elim (λ was. round.2 at u was)
            (λ last. ((λ r. not_both u.role r (ap (λ (x : SeatView). x.role) (sym last.1))), (λ is. absurd (let b = round.1 in let here = last.0 in omega arith)))) (at_end_or_before views new at u e)),
      );
      notified_bit = rule.notified_bit;
      blocked_bit = rule.blocked_bit;
      each = λ at u e. ⊎_elim
          (λ was. still words words all views u refl (λ _. refl) (λ i _ told. tells i told) (rule.each at u was))
          (λ last. subst (AgreesWithWords words all) last.1 (idle_pass words words all new refl refl below)) (at_end_or_before views new at u e);
    }

-- the rule does not read the number of splits
with_split_counted : (n : ℕ) (words : List ℕ) (views : List SeatView) (seat : ℕ) (v : SeatView) → WordsAgree n words views → get_elem? views seat ≡ some v
    → WordsAgree n words (set views seat (after_split v))
with_split_counted n words views seat v rule stands = let w : SeatView = after_split v in let after_it : List SeatView = set views seat w in
    let still_told : (i : ℕ) → IsTold words views i → IsTold words after_it i = λ i told. tells_beside n words views seat v rule stands words w i refl refl (λ owes. owes) told in
    let own = rule.each seat v stands in
    by_seat n words views seat v rule stands words w rule.sized refl rule.notified_bit rule.blocked_bit
    (record { seen = own.seen; exact = own.exact; idle = own.idle; flag = own.flag; alone = own.alone; told = λ i waits. still_told i (own.told i waits) })
    (λ other u _ _ agrees. still words words after_it views u refl (λ _. refl) (λ i _ told. still_told i told) agrees)

pub split_agrees : (n : ℕ) (words : List ℕ) (views : List SeatView) (seat : ℕ) (v : SeatView) → WordsAgree n words views → get_elem? views seat ≡ some v
    → WordsAgree n words (set views seat (after_split v) ++ split_view v ∷ [])
split_agrees n words views seat v rule stands =
    let counted : WordsAgree n words (set views seat (after_split v)) = with_split_counted n words views seat v rule stands in
    with_pass_at_end n words (set views seat (after_split v)) v (rule.each seat v stands).seen counted

-- a pass gets another view that has seen no more than the ticker, and keeps its debts
pass_becomes : (n : ℕ) (words : List ℕ) (views : List SeatView) (seat : ℕ) (v w : SeatView) (rule : WordsAgree n words views) (stands : get_elem? views seat ≡ some v)
    → v.role ≡ role.Pass → w.role ≡ role.Pass → w.mode ≡ mode.Idle → w.seen ≤ ticker words
    → ((i : ℕ) → IsTold words views i → IsTold words (set views seat w) i) → WordsAgree n words (set views seat w)
pass_becomes n words views seat v w rule stands pass pass' idle seen tells = by_seat n words views seat v rule stands words w rule.sized (pass' ∙ sym pass) rule.notified_bit rule.blocked_bit
    (idle_pass words words (set views seat w) w pass' idle seen)
    (λ other u _ _ was. still words words (set views seat w) views u refl (λ _. refl) (λ i _ told. tells i told) was)

pub join_agrees : (n : ℕ) (words : List ℕ) (views : List SeatView) (seat other : ℕ) (v w : SeatView) → WordsAgree n words views → get_elem? views seat ≡ some v → v.role ≡ role.Pass
    → other ≢ seat → get_elem? views other ≡ some w → IsFree w → WordsAgree n words (set (set views seat (joined_seat v w)) other spent_view)
join_agrees n words views seat other v w rule stands pass apart there free = let both : SeatView = joined_seat v w in let mid : List SeatView = set views seat both in
    let here = rule.each seat v stands in let seen_here = here.seen in let seen_there = (rule.each other w there).seen in
    let taken_in : WordsAgree n words mid = pass_becomes n words views seat v both rule stands pass pass (here.idle pass) (omega arith)
    (λ i told. tells_beside n words views seat v rule stands words both i refl refl (λ o. o) told) in
    let still_there : get_elem? mid other ≡ some w = beside_set views seat other both apart ∙ there in
    pass_becomes n words mid other w spent_view taken_in still_there free.0 refl refl (omega arith)
    (λ i told. tells_beside n words mid other w taken_in still_there words spent_view i refl refl (owed_none n words mid other w taken_in still_there i free.1) told)
