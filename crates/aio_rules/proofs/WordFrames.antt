-- What a step of one seat has to show for the rule of the shared words to hold after it.
use Rattle.std.proofs.Common.{◌≡◌, ◌≢◌, ◌⊎◌, ℕ, ◌≤◌, Bool, true, false, true≢false, List, length, length-set, set, Some, sym, refl, ap, ◌∙◌, subst, inl, inr, ⊎_elim, arith}
use Rattle.std.proofs.lemmas.Option.{none-some}
use mathlib.Core.Option.{some, some-injective}
use mathlib.Core.Logic.{dite}
use native.Mathlib.Decide.{ℕ_discrete}
use lib.ListN.{get_elem?}
use Rattle.aio_rules.specs.declared.seats.Role.{Role}
use Rattle.aio_rules.specs.declared.seats.Role.TheVariants as role
use Rattle.aio_rules.specs.declared.seats.Mode.{Mode}
use Rattle.aio_rules.specs.declared.seats.Mode.TheVariants as mode
use Rattle.aio_rules.specs.declared.seats.SeatView.{SeatView}
use Rattle.aio_rules.specs.SharedWords.{ticker, notified, blocked, word_count, held, owed_to, Each, IsInMidCall, IsTold, AgreesWithWords, WordsAgree}
use Rattle.aio_rules.proofs.SeatLists.{in_range, where_set, beside_set}

abbrev is_round : Role → Bool
is_round role.Round = true
is_round role.Pass = false

pub not_both : {A : Type 0} (r : Role) → r ≡ role.Round → r ≡ role.Pass → A
not_both r a b = absurd (true≢false (ap is_round (sym a ∙ b)))

pub round_or_pass : (r : Role) → (r ≡ role.Round) ⊎ (r ≡ role.Pass)
round_or_pass role.Round = inl refl
round_or_pass role.Pass = inr refl

-- an idle seat holds no parker
pub idle_holds_none : {A : Type 0} (m : Mode) (i : ℕ) → m ≡ mode.Idle → held m ≡ Some i → A
idle_holds_none m i idle holds = absurd (none-some i (sym (ap held idle) ∙ holds))

-- what holds of each view, after one was set
pub each_set : (Holds : ℕ → SeatView → Type 0) (views : List SeatView) (seat : ℕ) (w : SeatView) → Holds seat w
    → ((other : ℕ) (u : SeatView) → other ≢ seat → get_elem? views other ≡ some u → Holds other u) → Each (set views seat w) Holds
each_set Holds views seat w mine others at u e = dite (ℕ_discrete at seat)
    (λ here. let there : get_elem? (set views seat w) seat ≡ some u = subst (λ (k : ℕ). get_elem? (set views seat w) k ≡ some u) here e in
    let below = in_range (set views seat w) seat u there in let same = length-set views seat w in
    let is : w ≡ u = some-injective w u (sym (where_set views seat w (omega arith)) ∙ there) in
    subst (λ (k : ℕ). Holds k u) (sym here) (subst (Holds seat) is mine))
    (λ apart. others at u apart (sym (beside_set views seat at w apart) ∙ e))

module _ (words after : List ℕ) (views : List SeatView) where
  -- an idle pass agrees with any words whose ticker is not below what it has seen
  pub idle_pass : (w : SeatView) → w.role ≡ role.Pass → w.mode ≡ mode.Idle → w.seen ≤ ticker after → AgreesWithWords after views w
  idle_pass w pass idle seen = record {
    seen = seen;
    exact = λ round. not_both w.role round pass;
    idle = λ _. idle;
    flag = λ i holds. idle_holds_none w.mode i idle holds;
    alone = λ round. not_both w.role round pass;
    told = λ i waits. idle_holds_none w.mode i idle (ap held waits);
  }

  -- a view that agreed still does where the ticker and the flags are as they were, and who was told still is
  pub still : (before : List SeatView) (u : SeatView) → ticker after ≡ ticker words → ((i : ℕ) → blocked after i ≡ blocked words i)
      → ((i : ℕ) → blocked words i ≡ 1 → IsTold words before i → IsTold after views i)
      → AgreesWithWords words before u → AgreesWithWords after views u
  still before u tick flags tells was = record {
    seen = subst (λ (t : ℕ). u.seen ≤ t) (sym tick) was.seen;
    exact = λ round. was.exact round ∙ sym tick;
    idle = was.idle;
    flag = λ i holds. flags i ∙ was.flag i holds;
    alone = λ round i set. was.alone round i (λ z. set (flags i ∙ z));
    told = λ i waits. tells i (was.flag i (ap held waits)) (was.told i waits);
  }

-- a debt that stands after one seat's view was changed
pub mid_call_after : (views : List SeatView) (seat : ℕ) (v w : SeatView) (i : ℕ) → get_elem? views seat ≡ some v
    → (owed_to v.owes ≡ Some i → owed_to w.owes ≡ Some i) → IsInMidCall views i → IsInMidCall (set views seat w) i
mid_call_after views seat v w i stands goes_on (at, u, e, owes) = dite (ℕ_discrete at seat)
    (λ here. let same : u ≡ v = some-injective u v (sym e ∙ ap (get_elem? views) here ∙ stands) in
    (seat, w, where_set views seat w (in_range views seat v stands), goes_on (ap (λ (x : SeatView). owed_to x.owes) (sym same) ∙ owes)))
    (λ apart. (at, u, beside_set views seat at w apart ∙ e, owes))

module _ (n : ℕ) (words : List ℕ) (views : List SeatView) (seat : ℕ) (v : SeatView) (rule : WordsAgree n words views) (stands : get_elem? views seat ≡ some v) where
  -- a step of a seat keeps the rule where its new view agrees with the new words, and the view of each other seat still does
  pub by_seat : (after : List ℕ) (w : SeatView) → length after ≡ word_count n → w.role ≡ v.role → notified after ≤ 1 → ((i : ℕ) → blocked after i ≤ 1)
      → AgreesWithWords after (set views seat w) w
      → ((other : ℕ) (u : SeatView) → other ≢ seat → get_elem? views other ≡ some u → AgreesWithWords words views u → AgreesWithWords after (set views seat w) u)
      → WordsAgree n after (set views seat w)
  by_seat after w sized same notified_bit blocked_bit mine others = let round = rule.one_round in record {
    sized = sized;
    one_round = (
      round.0,
      (let long = length-set views seat w in let below = round.1 in omega arith),
      each_set _ views seat w
          (let was = round.2 seat v stands in ((λ r. was.0 (sym same ∙ r)), (λ e. same ∙ was.1 e)))
          (λ other u apart e. round.2 other u e),
    );
    notified_bit = notified_bit;
    blocked_bit = blocked_bit;
    each = each_set _ views seat w mine (λ other u apart e. others other u apart e (rule.each other u e));
  }

  -- beside the round seat all seats are idle passes
  pub others_idle : v.role ≡ role.Round → (after : List ℕ) (changed : List SeatView) → ticker words ≤ ticker after
      → (other : ℕ) (u : SeatView) → other ≢ seat → get_elem? views other ≡ some u → AgreesWithWords words views u → AgreesWithWords after changed u
  others_idle round after changed rises other u apart e was = let one = rule.one_round.2 in
      let pass : u.role ≡ role.Pass = ⊎_elim (λ r. absurd (apart ((one other u e).0 r ∙ sym ((one seat v stands).0 round)))) (λ p. p) (round_or_pass u.role) in
      idle_pass words after changed u pass (was.idle pass) (let seen = was.seen in omega arith)
