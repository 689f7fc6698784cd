-- Each kind of step keeps the rule of a deque, and so do the calls of the kit's deque.
use Rattle.std.proofs.Common.{◌≡◌, ◌≢◌, ℕ, ◌+◌, ◌<◌, ◌≤◌, List, [], ◌∷◌, ◌++◌, length, set, sym, refl, ap, ◌∙◌, subst, ⊎_elim, append_assoc, arith}
use Rattle.std.specs.List.{AllByRecursion as Every}
use Rattle.std.proofs.lemmas.List.{length_push, length-set}
use mathlib.Core.Option.{some, some-injective}
use lib.ListN.{get_elem?}
use Rattle.crossbeam_deque.specs.Tasks.{Pushes, Takes, Finds, FindsFew, Forks}
use Rattle.aio_rules.specs.Operations.{EachAt}
use Rattle.aio_rules.proofs.SeatLists.{in_range, set_or_before, at_end_or_before}
use Rattle.aio_rules.proofs.OperationLists.{each_end, each_with, eachat_set, eachat_end, eachat_one}
use Rattle.aio_turns.specs.declared.entries.TurnEntry.{TurnEntry}
use Rattle.aio_turns.specs.declared.entries.TurnHand.{TurnHand}
use Rattle.aio_turns.specs.Turns.{Counts, Met, MetFirst, OwnerMet, OwnerMetFirst, Rises, TurnsRule, new_hand, with_pushes, with_pulls, with_thief}
use Rattle.aio_turns.proofs.Lists.{counts_rest, counts_end, count_append, count_pulled_set, count_pulled_end, rises_end}

abbrev Before : ℕ → TurnHand → Type 0
Before n h = Every (λ (e : TurnEntry). e.number ≤ n) h.pulled

abbrev Rising : TurnHand → Type 0
Rising h = Rises h.pulled

-- What is said of the owner still holds once the hand of a pass has changed,
owner_after : (Q : TurnHand → Type 0) (hands : List TurnHand) (pass : ℕ) (w : TurnHand) → (pass ≡ 0 → Q w) → (0 ≢ pass → (u : TurnHand) → get_elem? hands 0 ≡ some u → Q u)
    → (u : TurnHand) → get_elem? (set hands pass w) 0 ≡ some u → Q u
owner_after Q hands pass w mine others u e = ⊎_elim
    (λ (me : (0 ≡ pass) × (w ≡ u)). subst Q me.1 (mine (sym me.0)))
    (λ (other : (0 ≢ pass) × (get_elem? hands 0 ≡ some u)). others other.0 u other.1)
    (set_or_before hands pass 0 w u e)

-- and once a pass has joined.
owner_beside : (Q : TurnHand → Type 0) (hands : List TurnHand) (w : TurnHand) → 0 < length hands → ((u : TurnHand) → get_elem? hands 0 ≡ some u → Q u)
    → (u : TurnHand) → get_elem? (hands ++ w ∷ []) 0 ≡ some u → Q u
owner_beside Q hands w below before u e = ⊎_elim (λ there. before u there)
    (λ (end : (0 ≡ length hands) × (w ≡ u)). let none = end.0 in absurd (omega (arith, none, below)))
    (at_end_or_before hands w 0 u e)

pub begins : TurnsRule [] (new_hand ∷ [])
begins = record {
  pushed = [];
  own = λ h at. ap (λ (y : TurnHand). y.pushed) (sym (some-injective new_hand h at));
  made = λ h at. ap (λ (y : TurnHand). y.thieves + 1) (some-injective new_hand h at);
  counted = tt;
  gone = [];
  suffix = refl;
  once = λ test. refl;
  before = eachat_one (Before 0) new_hand tt;
  rising = eachat_one Rising new_hand tt;
}

pub push_keeps : (items : List TurnEntry) (hands : List TurnHand) (h : TurnHand) (x : TurnEntry) → TurnsRule items hands → get_elem? hands 0 ≡ some h
    → x.number ≡ length h.pushed + 1 → TurnsRule (items ++ x ∷ []) (set hands 0 (with_pushes (x ∷ []) h))
push_keeps items hands h x r at number =
    let w = with_pushes (x ∷ []) h in
    let mine : h.pushed ≡ r.pushed = r.own h at in
    let long : length h.pushed ≡ length r.pushed = ap (λ (l : List TurnEntry). length l) mine in
    record {
      pushed = r.pushed ++ x ∷ [];
      own = owner_after (λ u. u.pushed ≡ r.pushed ++ x ∷ []) hands 0 w (λ owner. ap (λ (l : List TurnEntry). l ++ x ∷ []) mine) (λ other. absurd (other refl));
      made = owner_after (λ u. length (set hands 0 w) ≡ u.thieves + 1) hands 0 w (λ owner. length-set hands 0 w ∙ r.made h at) (λ other. absurd (other refl));
      counted = counts_end 1 r.pushed x r.counted (omega (arith, number, long));
      gone = r.gone;
      suffix = ap (λ (l : List TurnEntry). l ++ x ∷ []) r.suffix ∙ append_assoc r.gone items (x ∷ []);
      once = λ test. let kept = count_pulled_set test hands 0 h w at in let each = r.once test in omega (arith, kept, each);
      before = eachat_set (Before (length r.gone)) hands 0 w (r.before 0 h at) r.before;
      rising = eachat_set Rising hands 0 w (r.rising 0 h at) r.rising;
    }

pub pull_keeps : (x : TurnEntry) (items : List TurnEntry) (hands : List TurnHand) (pass : ℕ) (h : TurnHand) → TurnsRule (x ∷ items) hands → get_elem? hands pass ≡ some h
    → TurnsRule items (set hands pass (with_pulls (x ∷ []) h))
pull_keeps x items hands pass h r at =
    let w = with_pulls (x ∷ []) h in
    let gone' = r.gone ++ x ∷ [] in
    let at_first : pass ≡ 0 → get_elem? hands 0 ≡ some h = λ owner. subst (λ (i : ℕ). get_elem? hands i ≡ some h) owner at in
    let long : length gone' ≡ length r.gone + 1 = length_push r.gone x in
    let same : length (set hands pass w) ≡ length hands = length-set hands pass w in
    let next : x.number ≡ 1 + length r.gone = (counts_rest 1 r.gone (x ∷ items) (subst (Counts 1) r.suffix r.counted)).0 in
    let older : EachAt hands (Before (length gone')) =
    λ j v e. each_with (λ (f : TurnEntry). f.number ≤ length r.gone) (λ (f : TurnEntry). f.number ≤ length gone') v.pulled (λ f low. omega (arith, low, long)) (r.before j v e) in
    record {
      pushed = r.pushed;
      own = owner_after (λ u. u.pushed ≡ r.pushed) hands pass w (λ owner. r.own h (at_first owner)) (λ other. r.own);
      made = owner_after (λ u. length (set hands pass w) ≡ u.thieves + 1) hands pass w (λ owner. same ∙ r.made h (at_first owner)) (λ other u e. same ∙ r.made u e);
      counted = r.counted;
      gone = gone';
      suffix = r.suffix ∙ sym (append_assoc r.gone (x ∷ []) items);
      once = λ test.
          let moved = count_pulled_set test hands pass h w at in
          let mine = count_append test h.pulled (x ∷ []) in
          let all = count_append test r.gone (x ∷ []) in
          let each = r.once test in
          omega (arith, moved, mine, all, each);
      before = eachat_set (Before (length gone')) hands pass w
          (each_end (λ (f : TurnEntry). f.number ≤ length gone') h.pulled x (older pass h at) (omega (arith, next, long))) older;
      rising = eachat_set Rising hands pass w
          (rises_end h.pulled x (r.rising pass h at)
          (each_with (λ (f : TurnEntry). f.number ≤ length r.gone) (λ (f : TurnEntry). f.number < x.number) h.pulled (λ f low. omega (arith, low, next)) (r.before pass h at)))
          r.rising;
    }

pub thief_keeps : (items : List TurnEntry) (hands : List TurnHand) (h : TurnHand) → TurnsRule items hands → get_elem? hands 0 ≡ some h
    → TurnsRule items (set hands 0 (with_thief h) ++ new_hand ∷ [])
thief_keeps items hands h r at =
    let w = with_thief h in
    let counted = set hands 0 w in
    let same : length counted ≡ length hands = length-set hands 0 w in
    let more : length (counted ++ new_hand ∷ []) ≡ length counted + 1 = length_push counted new_hand in
    let all = r.made h at in
    let some_one : 0 < length counted = let first = in_range hands 0 h at in omega (arith, same, first) in
    record {
      pushed = r.pushed;
      own = owner_beside (λ u. u.pushed ≡ r.pushed) counted new_hand some_one
          (owner_after (λ u. u.pushed ≡ r.pushed) hands 0 w (λ owner. r.own h at) (λ other. absurd (other refl)));
      made = owner_beside (λ u. length (counted ++ new_hand ∷ []) ≡ u.thieves + 1) counted new_hand some_one
          (owner_after (λ u. length (counted ++ new_hand ∷ []) ≡ u.thieves + 1) hands 0 w (λ owner. omega (arith, same, more, all)) (λ other. absurd (other refl)));
      counted = r.counted;
      gone = r.gone;
      suffix = r.suffix;
      once = λ test.
          let kept = count_pulled_set test hands 0 h w at in
          let end = count_pulled_end test counted new_hand in
          let each = r.once test in
          omega (arith, kept, end, each);
      before = eachat_end (Before (length r.gone)) counted new_hand tt (eachat_set (Before (length r.gone)) hands 0 w (r.before 0 h at) r.before);
      rising = eachat_end Rising counted new_hand tt (eachat_set Rising hands 0 w (r.rising 0 h at) r.rising);
    }

-- ## What the calls of the kit's deque owe

pub pushes : (pass : ℕ) (h : TurnHand) (x : TurnEntry) → pass ≡ 0 → x.number ≡ length h.pushed + 1
    → Pushes TurnsRule pass h (x ∷ []) (λ after. after ≡ with_pushes (x ∷ []) h)
pushes pass h x owner number items hands r at =
    let w = with_pushes (x ∷ []) h in
    let at_first : get_elem? hands 0 ≡ some h = subst (λ (i : ℕ). get_elem? hands i ≡ some h) owner at in
    (w, subst (λ (i : ℕ). TurnsRule (items ++ x ∷ []) (set hands i w)) (sym owner) (push_keeps items hands h x r at_first number), refl)

pub pops : (pass : ℕ) (h : TurnHand) → pass ≡ 0 → Takes TurnsRule pass h 1 (λ xs after. (after ≡ with_pulls xs h) × OwnerMetFirst xs h)
pops pass h owner [] items hands some_one few r at = absurd (omega (arith, some_one))
pops pass h owner (x ∷ []) items hands some_one few r at =
    (with_pulls (x ∷ []) h, pull_keeps x items hands pass h r at, (refl, (items, (hands, r, subst (λ (i : ℕ). get_elem? hands i ≡ some h) owner at))))
pops pass h owner (x ∷ y ∷ xs) items hands some_one few r at = absurd (omega (arith, few))

pub steals : (pass : ℕ) (h : TurnHand) → Takes TurnsRule pass h 1 (λ xs after. (after ≡ with_pulls xs h) × MetFirst xs h)
steals pass h [] items hands some_one few r at = absurd (omega (arith, some_one))
steals pass h (x ∷ []) items hands some_one few r at = (with_pulls (x ∷ []) h, pull_keeps x items hands pass h r at, (refl, (items, (hands, pass, r, at))))
steals pass h (x ∷ y ∷ xs) items hands some_one few r at = absurd (omega (arith, few))

pub finds : (pass : ℕ) (h : TurnHand) → pass ≡ 0 → Finds TurnsRule pass h (OwnerMet [] h)
finds pass h owner hands r at = (hands, r, subst (λ (i : ℕ). get_elem? hands i ≡ some h) owner at)

pub finds_few : (most pass : ℕ) (h : TurnHand) → most ≡ 0 → FindsFew TurnsRule most pass h (Met [] h)
finds_few most pass h none [] hands few r at = (hands, pass, r, at)
finds_few most pass h none (x ∷ items) hands few r at = absurd (omega (arith, few, none))

pub forks : (pass : ℕ) (h : TurnHand) → pass ≡ 0 → Forks TurnsRule pass h (with_thief h) new_hand
forks pass h owner items hands r at =
    subst (λ (i : ℕ). TurnsRule items (set hands i (with_thief h) ++ new_hand ∷ [])) (sym owner)
    (thief_keeps items hands h r (subst (λ (i : ℕ). get_elem? hands i ≡ some h) owner at))
