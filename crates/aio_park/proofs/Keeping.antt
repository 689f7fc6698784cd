-- What the calls of a thread keep of its member and its clock, one call after another.
use Rattle.std.proofs.Common.{◌≡◌, ◌∙◌, ℕ, zero, suc, Bool, true, false, [], ◌∷◌, refl, ap, sym, subst, le_refl, le_trans, Result, Ok, IfErr}
use Rattle.std.specs.Fn.{iterate}
use Rattle.aio_rules.specs.declared.seats.SeatView.{SeatView}
use Rattle.aio_rules.specs.declared.seats.WordStep.TheVariants as word_step
use Rattle.aio_base.specs.ClockBounds.{ClockBounds}
use Rattle.aio_rules.specs.SharedWords.{after}
use Rattle.aio_rules.specs.WordCalls.{count_of, is_won, park_steps}
use Rattle.aio_shared.specs.declared.reacting.ReactFault.{ReactFault}
use Rattle.aio_base.specs.Devices.{raised}
use Rattle.aio_shared.specs.Notifying.{NotifiesAsWon}
use Rattle.aio_shared.proofs.Notifying.{notifies_further, notifies_nobody}
use Rattle.aio_shared.specs.Members.{IsLaterMember, IsMemberOf, MemberValue, SharedValue}
use Rattle.aio_shared.specs.OneCell.{ClaimValue}
use Rattle.aio_park.specs.Blocking.{HasFaultCause, KeepsThread}
use Rattle.aio_park.specs.Driving.{ParksFor, member_did}
use Rattle.aio_park.proofs.Gaining.{causes_within, follows_itself, follows_later, member_further}
use Rattle.aio_park.proofs.Holding.{follows_claim, later_by_seat, locked_later}

none_won : (parker idle found : ℕ) → count_of is_won (park_steps parker idle found) ≡ 0
none_won parker zero found = refl
none_won parker (suc idle) found = none_won parker idle found

-- how often a member's notifier was called
abbrev CallsBy : {N : Type 0} → (N → ℕ) → MemberValue N → MemberValue N → Type 0
CallsBy calls_of a b = NotifiesAsWon a.pass.view b.pass.view (calls_of a.notifier) (calls_of b.notifier)

module _ {N : Type 0} (calls_of : N → ℕ) (m later : MemberValue N) where
  -- never, by a pop, by a look at the ticker, by a swap of a mask and by a park
  pub called_turn : later ≡ record m { claim = later.claim } → CallsBy calls_of m later
  called_turn is = subst (λ (x : MemberValue N). CallsBy calls_of m x) (sym is) (notifies_nobody m.pass.view (calls_of m.notifier))

  pub called_look : (found : ℕ) → later ≡ record m { pass = later.pass } → later.pass.view ≡ after (word_step.LoadTicker found) m.pass.view → CallsBy calls_of m later
  called_look found is view = record {
    made = word_step.LoadTicker found ∷ [];
    view = ap (λ (v : SeatView). v.did) view;
    count = ap (λ (x : MemberValue N). calls_of x.notifier) is;
  }

  pub called_swap : (parker found : ℕ) → later ≡ member_did (word_step.SwapMask parker found) m → CallsBy calls_of m later
  called_swap parker found is =
      subst (λ (x : MemberValue N). CallsBy calls_of m x) (sym is) (record { made = word_step.SwapMask parker found ∷ []; view = refl; count = refl })

  pub called_park : (parker found : ℕ) → ParksFor parker found m later → CallsBy calls_of m later
  called_park parker found parked = record {
    made = park_steps parker parked.parks.1.0 found;
    view = ap (λ (v : SeatView). v.did) parked.parks.1.1;
    count = ap (λ (x : MemberValue N). calls_of x.notifier) parked.rest
        ∙ ap (λ k. iterate raised k (calls_of m.notifier)) (sym (none_won parker parked.parks.1.0 found));
  }

module _ {N C : Type 0} {faults : N → ℕ} {is_sure : N → Bool} {calls_of : N → ℕ} {bounds_of : C → ClockBounds} {latest_of : C → ℕ} {shared : SharedValue} where
  -- where the clock was not looked at
  pub keeps_member : {a b : MemberValue N} {x : C} → IsMemberOf shared b → IsLaterMember faults is_sure a b → NotifiesAsWon a.pass.view b.pass.view (calls_of a.notifier) (calls_of b.notifier) → KeepsThread faults is_sure {X = Unit {0}} calls_of bounds_of latest_of shared a b x x (Ok tt)
  keeps_member {a} {b} {x} belongs later calls = record { cause = tt; belongs = belongs; later = later; calls = calls; bounds = refl; latest = le_refl (latest_of x) }

  -- a look of the member's seat at the ticker
  pub keeps_look : {a b : MemberValue N} {x : C} (found : ℕ) → IsMemberOf shared a → b ≡ record a { pass = b.pass } → b.pass.words ≡ a.pass.words
      → b.pass.view ≡ after (word_step.LoadTicker found) a.pass.view → KeepsThread faults is_sure {X = Unit {0}} calls_of bounds_of latest_of shared a b x x (Ok tt)
  keeps_look {a} {b} found belongs is words view =
      keeps_member
      (record {
        lock = ap (λ (m : MemberValue N). m.claim.lock) is ∙ belongs.lock;
        words = words ∙ belongs.words;
        ops = ap (λ (m : MemberValue N). m.ops.queue) is ∙ belongs.ops;
        cell = ap (λ (m : MemberValue N). m.claim.words) is ∙ belongs.cell;
        arms = ap (λ (m : MemberValue N). m.claim.sure_of_arms) is ∙ belongs.arms;
      })
      (later_by_seat faults is_sure a b is words (word_step.LoadTicker found ∷ [], ap (λ (v : SeatView). v.did) view)) (called_look calls_of a b found is view)

  -- the same where another call hands the fault on, or answers something of its own
  pub keeps_as : {X Y : Type 0} {a b : MemberValue N} {x y : C} {r : Result X ReactFault} {q : Result Y ReactFault} → (IfErr r (HasFaultCause faults is_sure a b) → IfErr q (HasFaultCause faults is_sure a b))
      → KeepsThread faults is_sure calls_of bounds_of latest_of shared a b x y r → KeepsThread faults is_sure calls_of bounds_of latest_of shared a b x y q
  keeps_as on k = record { cause = on k.cause; belongs = k.belongs; later = k.later; calls = k.calls; bounds = k.bounds; latest = k.latest }

  -- one call and another, whose answer is that of both
  pub keeps_then : {X Y : Type 0} {a b c : MemberValue N} {x y z : C} {r : Result X ReactFault} {q : Result Y ReactFault} → KeepsThread faults is_sure calls_of bounds_of latest_of shared a b x y r
      → KeepsThread faults is_sure calls_of bounds_of latest_of shared b c y z q → KeepsThread faults is_sure calls_of bounds_of latest_of shared a c x z q
  keeps_then {X} {Y} {a} {b} {c} {x} {y} {z} {r} {q} k l = record {
    cause = causes_within faults is_sure a b c c q (follows_later faults is_sure a b k.later) (follows_later faults is_sure b c l.later) l.cause (follows_itself faults is_sure c);
    belongs = l.belongs;
    later = member_further faults is_sure a b c k.later l.later;
    calls = notifies_further a.pass.view b.pass.view c.pass.view (calls_of a.notifier) (calls_of b.notifier) (calls_of c.notifier) k.calls l.calls;
    bounds = l.bounds ∙ k.bounds;
    latest = le_trans k.latest l.latest;
  }

  -- The member took the cell, made a call, and gave the cell back.
  pub keeps_locked : {X : Type 0} {a b c d : MemberValue N} {x y : C} {r : Result X ReactFault} (e : ℕ) → a.claim.holds ≡ false → b ≡ record a { claim = b.claim }
      → b.claim ≡ record a.claim { holds = true; empties = e } → KeepsThread faults is_sure calls_of bounds_of latest_of shared b c x y r → d ≡ record c { claim = record c.claim { holds = false } }
      → IsMemberOf shared d → KeepsThread faults is_sure calls_of bounds_of latest_of shared a d x y r
  keeps_locked {X} {a} {b} {c} {d} {x} {y} {r} e free taken claim k gave belongs =
      let put : d.claim ≡ record c.claim { holds = false } = ap (λ (m : MemberValue N). m.claim) gave in
      record {
        cause = causes_within faults is_sure a b c d r
            (follows_claim faults is_sure a b taken (ap (λ (t : ClaimValue). t.sure_of_wait) claim) (ap (λ (t : ClaimValue). t.sure_of_arms) claim))
            (follows_later faults is_sure b c k.later) k.cause
            (follows_claim faults is_sure c d (gave ∙ (λ i. record c { claim = sym put i })) (ap (λ (t : ClaimValue). t.sure_of_wait) put) (ap (λ (t : ClaimValue). t.sure_of_arms) put));
        belongs = belongs;
        later = locked_later faults is_sure a b c d e free taken claim k.later gave;
        calls =
            subst (λ (x : MemberValue N). NotifiesAsWon a.pass.view x.pass.view (calls_of a.notifier) (calls_of x.notifier)) (sym gave)
            (subst (λ (x : MemberValue N). NotifiesAsWon x.pass.view c.pass.view (calls_of x.notifier) (calls_of c.notifier)) taken k.calls);
        bounds = k.bounds;
        latest = k.latest;
      }
