-- The steps of a member's seat, one list of them after another, what the swaps among them took, and the causes that they show.
use Rattle.std.proofs.Common.{◌≡◌, ◌≢◌, ◌==◌, ◌≤◌, ℕ, zero, suc, Bool, true, false, ◌||◌, if◌then◌else◌, nat_lt, ◌/◌, ◌%◌, List, [], ◌∷◌, ◌++◌, length, drop, filter, refl, sym, ap, ◌∙◌, subst, append-nil, append_assoc, le_refl, le_trans, Result, Ok, Err, IfOk, IfErr, OnErr, eq-eqb, ne_eqb, arith}
use Rattle.std.proofs.Math.Bool.{or-true}
use Rattle.std.proofs.Math.Seq.{drop-append_seam}
use Rattle.std.proofs.lemmas.List.Elements.{filter-append}
use Rattle.std.proofs.lemmas.List.Folds.{list_any-append}
use Rattle.std.specs.List.{list_any}
use Rattle.aio_base.specs.declared.names.Waker.{Waker}
use Rattle.aio_rules.specs.declared.seats.SeatView.{SeatView}
use Rattle.aio_rules.specs.declared.seats.WordStep.{WordStep}
use Rattle.aio_rules.specs.declared.seats.WordStep.TheVariants as word_step
use Rattle.aio_rules.specs.WordCalls.{Found, is_look_at_end, park_steps, slot_steps, taken_masks, wake_steps}
use Rattle.aio_rules.proofs.WordCounts.{taken-append, taken-park}
use Rattle.aio_words.specs.Calls.{Parks, all_wake_steps}
use Rattle.aio_words.specs.Seats.{SeatValue}
use Rattle.aio_shared.specs.declared.reacting.ReactedIn.{ReactedIn}
use Rattle.aio_shared.specs.declared.reacting.ReactFault.{ReactFault}
use Rattle.aio_shared.specs.declared.reacting.ReactFault.TheVariants as react_fault
use Rattle.aio_shared.specs.Cells.{CellValue}
use Rattle.aio_shared.specs.Later.{later_itself, later_further}
use Rattle.aio_shared.specs.Members.{Extends, IsLaterMember, MemberValue, SharedValue}
use Rattle.aio_shared.specs.Reacting.{NotifierCounts, Reacts, Start, Wakes}
use Rattle.aio_park.specs.Blocking.{Gains, GainsOneAtMost, HasFaultCause, gained, mask_list, swaps_mask_of, taken_of}
use Rattle.aio_park.specs.Driving.{GainsNone}

-- ## What the steps of a wake take: nothing

exchange_takes : (b : Bool) (n : ℕ) → taken_masks (if b then word_step.ExchangeNotified n ∷ [] else []) ≡ []
exchange_takes true n = refl
exchange_takes false n = refl

look_takes : (b c : Bool) (i n m : ℕ) → taken_masks (if b then word_step.LoadBlocked i n ∷ (if c then word_step.ExchangeNotified m ∷ [] else []) else []) ≡ []
look_takes true c i n m = exchange_takes c m
look_takes false c i n m = refl

chosen_takes : (b : Bool) (steps : List WordStep) → taken_masks steps ≡ [] → taken_masks (if b then steps else []) ≡ []
chosen_takes true steps none = none
chosen_takes false steps none = refl

slot_takes : (parker slot : ℕ) (f : Found) → taken_masks (slot_steps parker slot f) ≡ []
slot_takes parker slot f = look_takes (f.in_mask == 0) (f.in_blocked == 1) parker f.in_blocked f.in_notified

wake_takes : (waker parkers : ℕ) (f : Found) → taken_masks (wake_steps waker parkers f) ≡ []
wake_takes waker parkers f = chosen_takes (nat_lt (waker / 64) parkers) (slot_steps (waker / 64) (waker % 64) f) (slot_takes (waker / 64) (waker % 64) f)

wakes_take : (wakers : List Waker) (parkers : ℕ) (founds : List Found) → taken_masks (all_wake_steps wakers parkers founds) ≡ []
wakes_take [] parkers founds = refl
wakes_take (w ∷ wakers) parkers [] = refl
wakes_take (w ∷ wakers) parkers (f ∷ founds) =
    taken-append (wake_steps w.0 parkers f) (all_wake_steps wakers parkers founds) ∙ (λ i. wake_takes w.0 parkers f i ++ wakes_take wakers parkers founds i)

-- ## What the swaps of one parker's mask took

-- one more step leaves nothing taken only where it took nothing
nothing_further : (mine nothing : Bool) (i found : ℕ) (own : List WordStep) (all : List ℕ) → (found == 0) ≡ nothing → (all ≡ [] → taken_masks own ≡ [])
    → (if nothing then all else found ∷ all) ≡ [] → taken_masks (if mine then word_step.SwapMask i found ∷ own else own) ≡ []
nothing_further false true i found own all is rest none = rest none
nothing_further true true i found own all is rest none = ap (λ (b : Bool). if b then taken_masks own else found ∷ taken_masks own) is ∙ rest none
nothing_further mine false i found own all is rest none = let long : length (found ∷ all) ≡ 0 = ap length none in absurd (omega (arith, long))

-- where the swaps of some steps took nothing, those of one parker's mask took nothing
pub own_none : (parker : ℕ) (steps : List WordStep) → taken_masks steps ≡ [] → taken_of parker steps ≡ []
own_none parker [] none = refl
own_none parker (word_step.SwapMask i found ∷ steps) none =
    nothing_further (i == parker) (found == 0) i found (filter (swaps_mask_of parker) steps) (taken_masks steps) refl (own_none parker steps) none
own_none parker (word_step.LoadTicker found ∷ steps) none = own_none parker steps none
own_none parker (word_step.AddTicker found ∷ steps) none = own_none parker steps none
own_none parker (word_step.SetBit i bit found ∷ steps) none = own_none parker steps none
own_none parker (word_step.LoadBlocked i found ∷ steps) none = own_none parker steps none
own_none parker (word_step.ExchangeNotified found ∷ steps) none = own_none parker steps none
own_none parker (word_step.StoreBlocked i stored found ∷ steps) none = own_none parker steps none
own_none parker (word_step.LoadMask i found ∷ steps) none = own_none parker steps none
own_none parker (word_step.SwapNotified found ∷ steps) none = own_none parker steps none

pub own-append : (parker : ℕ) (a b : List WordStep) → taken_of parker (a ++ b) ≡ taken_of parker a ++ taken_of parker b
own-append parker a b = ap taken_masks (filter-append (swaps_mask_of parker) a b) ∙ taken-append (filter (swaps_mask_of parker) a) (filter (swaps_mask_of parker) b)

-- a swap of the parker's own mask is one
own_swap : (parker found : ℕ) → taken_of parker (word_step.SwapMask parker found ∷ []) ≡ mask_list found
own_swap parker found = ap (λ (b : Bool). taken_masks (if b then word_step.SwapMask parker found ∷ [] else [])) (eq-eqb parker parker refl)

-- and so is each swap of a park
own_park : (parker idle found : ℕ) → taken_of parker (park_steps parker idle found) ≡ mask_list found
own_park parker zero found = own_swap parker found
own_park parker (suc idle) found =
    let rest = filter (swaps_mask_of parker) (park_steps parker idle found) in
    ap (λ (b : Bool). taken_masks (if b then word_step.SwapMask parker 0 ∷ rest else rest)) (eq-eqb parker parker refl) ∙ own_park parker idle found

-- ## What a seat gains

-- steps that took nothing
pub gains_none : (steps : List WordStep) (v w : SeatView) → w.did ≡ v.did ++ steps → w.splits ≡ v.splits → taken_masks steps ≡ [] → GainsNone v w
gains_none steps v w did made none = λ parker. record { steps = steps; did = did; splits = made; taken = none; own = own_none parker steps none }

pub gains_itself : (v : SeatView) → GainsNone v v
gains_itself v = gains_none [] v v (sym (append-nil v.did)) refl refl

pub gains_further : (parker : ℕ) (a b c : SeatView) (xs ys : List ℕ) → Gains parker a b xs → Gains parker b c ys → Gains parker a c (xs ++ ys)
gains_further parker a b c xs ys x y = record {
  steps = x.steps ++ y.steps;
  did = y.did ∙ ap (λ l. l ++ y.steps) x.did ∙ append_assoc a.did x.steps y.steps;
  splits = y.splits ∙ x.splits;
  taken = taken-append x.steps y.steps ∙ (λ i. x.taken i ++ y.taken i);
  own = own-append parker x.steps y.steps ∙ (λ i. x.own i ++ y.own i);
}

-- a seat that is the same has gained nothing
pub gains_same : (p q : SeatValue) → q ≡ p → GainsNone p.view q.view
gains_same p q same = subst (λ (s : SeatValue). GainsNone p.view s.view) (sym same) (gains_itself p.view)

-- a swap that found nothing took nothing, and any other took what it found
pub mask_none : (mask : ℕ) → mask ≡ 0 → mask_list mask ≡ []
mask_none mask none = ap mask_list none

pub mask_some : (mask : ℕ) → mask ≢ 0 → mask_list mask ≡ mask ∷ []
mask_some mask some = ap (λ (b : Bool). if b then [] else mask ∷ []) (ne_eqb mask 0 some)

-- so a swap that found nothing took nothing of any parker
pub gains_nothing : (parker found : ℕ) (v w : SeatView) → found ≡ 0 → Gains parker v w (mask_list found) → GainsNone v w
gains_nothing parker found v w nothing x = gains_none x.steps v w x.did x.splits (x.taken ∙ mask_none found nothing)

pub gains_park : (parker found : ℕ) (v w : SeatView) → Parks parker found v w → Gains parker v w (mask_list found)
gains_park parker found v w parked = record {
  steps = park_steps parker parked.1.0 found;
  did = ap (λ (x : SeatView). x.did) parked.1.1;
  splits = ap (λ (x : SeatView). x.splits) parked.1.1;
  taken = taken-park parker parked.1.0 found parked.0 ∙ sym (mask_some found parked.0);
  own = own_park parker parked.1.0 found;
}

-- and then nothing more
pub gains_before : (parker : ℕ) (a b c : SeatView) (xs : List ℕ) → Gains parker a b xs → GainsNone b c → Gains parker a c xs
gains_before parker a b c xs x y = subst (Gains parker a c) (append-nil xs) (gains_further parker a b c xs [] x (y parker))

-- nothing, and then this
pub gains_after : (parker : ℕ) (a b c : SeatView) (ys : List ℕ) → GainsNone a b → Gains parker b c ys → Gains parker a c ys
gains_after parker a b c ys x y = gains_further parker a b c [] ys (x parker) y

-- nothing, and then nothing more
pub gains_neither : (a b c : SeatView) → GainsNone a b → GainsNone b c → GainsNone a c
gains_neither a b c x y = λ parker. gains_after parker a b c [] x (y parker)

-- the member took the cell, took no mask while it held it, and gave it back
pub gains_locked : {N : Type 0} (a b c d : MemberValue N) → b ≡ record a { claim = b.claim } → GainsNone b.pass.view c.pass.view → d ≡ record c { claim = record c.claim { holds = false } }
    → GainsNone a.pass.view d.pass.view
gains_locked {N} a b c d taken took gave =
    gains_neither a.pass.view b.pass.view d.pass.view (gains_same a.pass b.pass (ap (λ (x : MemberValue N). x.pass) taken))
    (gains_neither b.pass.view c.pass.view d.pass.view took (gains_same c.pass d.pass (ap (λ (x : MemberValue N). x.pass) gave)))

-- a wait that began where nothing was taken
pub gains_where : (parker : ℕ) (a b c : SeatView) (none : ℕ) (r : Result ℕ ReactFault) → none ≡ 0 → Gains parker a b (mask_list none)
    → IfOk r (λ mask. Gains parker b c (mask_list mask)) → IfOk r (λ mask. Gains parker a c (mask_list mask))
gains_where parker a b c none (Ok mask) is x y =
    subst (λ l. Gains parker a c (l ++ mask_list mask)) (mask_none none is) (gains_further parker a b c (mask_list none) (mask_list mask) x y)
gains_where parker a b c none (Err fault) is x y = tt

-- and at its fault too
pub gains_most : {X : Type 0} (parker : ℕ) (a b c : SeatView) (none : ℕ) (r : Result X ReactFault) → none ≡ 0 → Gains parker a b (mask_list none) → OnErr r (GainsNone b c)
    → OnErr r (GainsOneAtMost parker a c)
gains_most parker a b c none (Ok x) is x_took y = tt
gains_most parker a b c none (Err fault) is took y =
    (0, subst (Gains parker a c) (sym (mask_none 0 refl)) (gains_neither a b c (gains_nothing parker none a b is took) y parker))

pub gains_wakes : (parkers : ℕ) (wakers : List Waker) (p q : SeatValue) → Wakes parkers wakers p q → GainsNone p.view q.view
gains_wakes parkers wakers p q woken =
    gains_none (all_wake_steps wakers parkers woken.founds) p.view q.view (ap (λ (x : SeatValue). x.view.did) woken.seat) (ap (λ (x : SeatValue). x.view.splits) woken.seat) (wakes_take wakers parkers woken.founds)

-- ## Causes

any_within : {X : Type 0} (p : X → Bool) (xs ys zs : List X) → list_any p ys ≡ true → list_any p (xs ++ (ys ++ zs)) ≡ true
any_within p xs ys zs some = list_any-append p xs (ys ++ zs) ∙ ap (λ b. list_any p xs || b) (list_any-append p ys zs ∙ ap (λ b. b || list_any p zs) some) ∙ or-true (list_any p xs)

pub gained_is : (a b : SeatView) (steps : List WordStep) → b.did ≡ a.did ++ steps → gained a b ≡ steps
gained_is a b steps did = ap (drop (length a.did)) did ∙ drop-append_seam a.did steps

module _ {N W : Type 0} where
  -- a call of `react_in` takes no mask
  pub gains_reacts : (parkers : ℕ) (all_sure : Bool) (start : Start W) (old new : CellValue W) (m later : MemberValue N) (notifier : NotifierCounts) (r : Result ReactedIn ReactFault)
      → Reacts parkers all_sure start old new m later notifier r → GainsNone m.pass.view later.pass.view
  gains_reacts parkers all_sure start old new m later notifier (Ok reacted) r = gains_wakes parkers new.round.taken m.pass later.pass r.0.woke
  gains_reacts parkers all_sure start old new m later notifier (Err (react_fault.Wait fault)) r = gains_wakes parkers new.round.taken m.pass later.pass r.0.woke
  gains_reacts parkers all_sure start old new m later notifier (Err (react_fault.Arm fault)) r = gains_wakes parkers new.round.taken m.pass later.pass r.0.woke
  gains_reacts parkers all_sure start old new m later notifier (Err (react_fault.Notify fault)) r = gains_wakes parkers new.round.taken m.pass later.pass r.0.woke
  gains_reacts parkers all_sure start old new m later notifier (Err react_fault.RoundsSpent) r = gains_same m.pass later.pass (ap (λ (x : MemberValue N). x.pass) r.1)
  gains_reacts parkers all_sure start old new m later notifier (Err react_fault.OutOfMemory) r = gains_same m.pass later.pass (ap (λ (x : MemberValue N). x.pass) r.member)

-- What holds of a member's state and a later one, also where it took or gave the cell between them.
pub record Follows {N : Type 0} (faults : N → ℕ) (is_sure : N → Bool) (old new : MemberValue N) : Type 0 where
  pub wait : new.claim.sure_of_wait ≡ old.claim.sure_of_wait
  pub arms : new.claim.sure_of_arms ≡ old.claim.sure_of_arms
  pub did : Extends old.pass.view.did new.pass.view.did
  pub notifier : faults old.notifier ≤ faults new.notifier
  pub sure : is_sure new.notifier ≡ is_sure old.notifier

module _ {N : Type 0} (faults : N → ℕ) (is_sure : N → Bool) where
  -- a cause in the middle of some steps is one over all of them
  pub cause_within : (a b c d : MemberValue N) (fault : ReactFault) → Follows faults is_sure a b → Follows faults is_sure b c → HasFaultCause faults is_sure b c fault → Follows faults is_sure c d
      → HasFaultCause faults is_sure a d fault
  cause_within a b c d (react_fault.Wait fault) first mid cause last = (sym first.wait ∙ cause.0, cause.1)
  cause_within a b c d (react_fault.Arm fault) first mid cause last = (sym first.arms ∙ cause.0, cause.1)
  cause_within a b c d (react_fault.Notify fault) first mid cause last =
      (record { least = le_trans first.notifier cause.0.least; most = le_trans cause.0.most last.notifier; rose = cause.0.rose }, sym first.sure ∙ cause.1)
  cause_within a b c d react_fault.RoundsSpent first mid cause last =
      let xs = first.did.0 in let ys = mid.did.0 in let zs = last.did.0 in
      let whole : d.pass.view.did ≡ a.pass.view.did ++ (xs ++ (ys ++ zs)) = last.did.1 ∙ ap (λ l. l ++ zs) (mid.did.1 ∙ ap (λ l. l ++ ys) first.did.1)
      ∙ append_assoc (a.pass.view.did ++ xs) ys zs ∙ append_assoc a.pass.view.did xs (ys ++ zs) in
      ap (list_any is_look_at_end) (gained_is a.pass.view d.pass.view (xs ++ (ys ++ zs)) whole)
      ∙ any_within is_look_at_end xs ys zs (sym (ap (list_any is_look_at_end) (gained_is b.pass.view c.pass.view ys mid.did.1)) ∙ cause)
  cause_within a b c d react_fault.OutOfMemory first mid cause last = tt

  pub causes_within : {X : Type 0} (a b c d : MemberValue N) (r : Result X ReactFault) → Follows faults is_sure a b → Follows faults is_sure b c → IfErr r (HasFaultCause faults is_sure b c)
      → Follows faults is_sure c d → IfErr r (HasFaultCause faults is_sure a d)
  causes_within a b c d (Ok x) first mid cause last = tt
  causes_within a b c d (Err fault) first mid cause last = cause_within a b c d fault first mid cause last

  pub follows_itself : (a : MemberValue N) → Follows faults is_sure a a
  follows_itself a = record { wait = refl; arms = refl; did = ([], sym (append-nil a.pass.view.did)); notifier = le_refl (faults a.notifier); sure = refl }

  pub follows_later : (a b : MemberValue N) → IsLaterMember faults is_sure a b → Follows faults is_sure a b
  follows_later a b later = record {
    wait = ap (λ t. t.sure_of_wait) later.claim;
    arms = ap (λ t. t.sure_of_arms) later.claim;
    did = later.did;
    notifier = later.notifier;
    sure = later.sure;
  }

  any_shared : MemberValue N → SharedValue
  any_shared a = record { lock = a.claim.lock; words = record { identity = a.pass.words; parkers = 0 }; ops = a.ops.queue; sure_of_arms = a.claim.sure_of_arms }

  pub member_itself : (a : MemberValue N) → IsLaterMember faults is_sure a a
  member_itself a = (later_itself faults is_sure (record { shared = any_shared a; member = a })).member

  pub member_further : (a b c : MemberValue N) → IsLaterMember faults is_sure a b → IsLaterMember faults is_sure b c → IsLaterMember faults is_sure a c
  member_further a b c x y = let s = any_shared a in
      (later_further faults is_sure (record { shared = s; member = a }) (record { shared = s; member = b }) (record { shared = s; member = c }) (record { shared = refl; member = x }) (record { shared = refl; member = y })).member
