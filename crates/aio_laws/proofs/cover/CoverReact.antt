-- Cover stands over a whole round, also in the middle of it.
use Rattle.std.proofs.Common.{◌≡◌, ◌⊎◌, ℕ, Bool, true, false, cond, List, [], ◌∷◌, Option, None, Some, is_some, refl, ap, ◌∙◌, sym, subst, inl, inr, ⊎_elim}
use Rattle.std.proofs.lemmas.Bool.{cond_both}
use Rattle.aio_base.specs.declared.names.Event.{Event}
use Rattle.aio_base.specs.declared.outcomes.EndWord.{EndWord}
use Rattle.aio_base.specs.declared.outcomes.EndWord.TheVariants.{Clean, FaultWait, FaultArm}
use Rattle.aio_base.specs.declared.steps.Answer.{Answer}
use Rattle.aio_base.specs.declared.steps.Answer.TheVariants as answer
use Rattle.aio_base.specs.World.{PollerAnswer, RoundState, World, serial_of, is_empty_list}
use Rattle.aio_base.specs.Machine.{Outcome, quiet, begin_round, first_fault, wait_round, handle_first, handle_in, handle_round, finish_in, finish_round, handle_each, hand_of, fault_of_round, react}
use Rattle.aio_laws.specs.Covered.{is_arm_fault, tells_arm_fault}
use Rattle.aio_laws.proofs.cover.Standing.{parts_of, Standing, weaker}
use Rattle.aio_laws.proofs.cover.CoverSources.{Stands, either, quiet_stands}
use Rattle.aio_laws.proofs.cover.CoverRounds.{Handles, empty_is, rehanded, begun_stands, waited_stands, source_handles}

-- ## One event

-- nothing was handled
not_handled : (w : World) (told : List Answer) (F : Type 0) (a : Answer) (answers : List PollerAnswer) → tells_arm_fault a ≡ false
    → Standing (parts_of w) told F → Handles told F (fault_of_round w.round) (quiet a w answers)
not_handled w told F a answers silent s = record {
  failed = false;
  says = silent;
  fault = refl;
  stands = weaker (parts_of w) told F _ (λ f. inl f) s;
}

first_handles : (w : World) (told : List Answer) (F : Type 0) (round : RoundState) (events : List Event) (answers : List PollerAnswer)
    → w.round ≡ Some round → round.in_hand ≡ events → Standing (parts_of w) told F → Handles told F (fault_of_round w.round) (handle_first w round events answers)
first_handles w told F round [] answers at hand s = not_handled w told F answer.Empty answers refl s
first_handles w told F round (event ∷ events) answers at hand s =
    let same : fault_of_round w.round ≡ round.fault = ap fault_of_round at in
    let standing = rehanded w told F (event ∷ events) (ap hand_of at ∙ hand) s in
    subst (λ fault. Handles told F fault (handle_first w round (event ∷ events) answers)) (sym same)
    (source_handles w told F (record round { in_hand = events }) event (serial_of w event.key.0) answers refl standing)

round_handles : (w : World) (told : List Answer) (F : Type 0) (round : Option RoundState) (answers : List PollerAnswer)
    → w.round ≡ round → Standing (parts_of w) told F → Handles told F (fault_of_round w.round) (handle_in w round answers)
round_handles w told F None answers at s = not_handled w told F answer.NoRound answers refl s
round_handles w told F (Some round) answers at s = first_handles w told F round round.in_hand answers at refl s

-- an event as a step of its own
pub handle_stands : (w : World) (told : List Answer) (answers : List PollerAnswer) → Standing (parts_of w) told ⊥ → Stands told (handle_round w answers)
handle_stands w told answers s =
    let h = round_handles w told ⊥ w.round answers refl s in
    record {
      stands = weaker (parts_of (handle_round w answers).world) told _ _
          (λ failed. ⊎_elim (λ (never : ⊥). absurd never) (λ (did : h.failed ≡ true). h.says ∙ did) failed) h.stands;
    }

-- ## All events of a whole round

-- Inside a whole round: an arm has failed only if the round keeps that fault, and it keeps that of a wait only with nothing in hand.
pub record InRound (told : List Answer) (v : World) : Type 0 where
  pub stands : Standing (parts_of v) told (fault_of_round v.round ≡ FaultArm)
  pub fault : (hand_of v.round ≡ []) ⊎ ((fault_of_round v.round ≡ Clean) ⊎ (fault_of_round v.round ≡ FaultArm))

-- the fault of an arm is the first one where none of a wait came before it
kept_fault : (before after : EndWord) (failed : Bool) → (before ≡ Clean) ⊎ (before ≡ FaultArm) → after ≡ cond failed (first_fault before FaultArm) before
    → (before ≡ FaultArm) ⊎ (failed ≡ true) → after ≡ FaultArm
kept_fault Clean after true known same some = same
kept_fault FaultArm after true known same some = same
kept_fault FaultWait after true known same some = ⊎_elim (λ (e : FaultWait ≡ Clean). absurd cc) (λ (e : FaultWait ≡ FaultArm). absurd cc) known
kept_fault before after false known same some = ⊎_elim (λ (e : before ≡ FaultArm). same ∙ e) (λ (wrong : false ≡ true). absurd cc) some

still_known : (before after : EndWord) (failed : Bool) → (before ≡ Clean) ⊎ (before ≡ FaultArm) → after ≡ cond failed (first_fault before FaultArm) before
    → (after ≡ Clean) ⊎ (after ≡ FaultArm)
still_known before after true known same = inr (kept_fault before after true known same (inr refl))
still_known before after false known same = ⊎_elim (λ (e : before ≡ Clean). inl (same ∙ e)) (λ (e : before ≡ FaultArm). inr (same ∙ e)) known

-- where the fault is none of a wait, an event keeps it so
handled_in_round : (told : List Answer) (v : World) (answers : List PollerAnswer) → Standing (parts_of v) told (fault_of_round v.round ≡ FaultArm)
    → (fault_of_round v.round ≡ Clean) ⊎ (fault_of_round v.round ≡ FaultArm) → InRound told (handle_round v answers).world
handled_in_round told v answers s known =
    let h = round_handles v told (fault_of_round v.round ≡ FaultArm) v.round answers refl s in
    record {
      stands = weaker (parts_of (handle_round v answers).world) told _ _ (kept_fault (fault_of_round v.round) _ h.failed known h.fault) h.stands;
      fault = inr (still_known (fault_of_round v.round) _ h.failed known h.fault);
    }

empty_first : (told : List Answer) (v : World) (round : RoundState) (events : List Event) (answers : List PollerAnswer) → events ≡ [] → InRound told v
    → InRound told (handle_first v round events answers).world
empty_first told v round [] answers none r = r
empty_first told v round (event ∷ events) answers none r = absurd (cc)

-- with nothing in hand nothing is handled
empty_in_round : (told : List Answer) (v : World) (round : Option RoundState) (answers : List PollerAnswer) → hand_of round ≡ [] → InRound told v
    → InRound told (handle_in v round answers).world
empty_in_round told v None answers none r = r
empty_in_round told v (Some round) answers none r = empty_first told v round round.in_hand answers none r

event_in_round : (told : List Answer) (v : World) (answers : List PollerAnswer) → InRound told v → InRound told (handle_round v answers).world
event_in_round told v answers r =
    ⊎_elim
    (λ (none : hand_of v.round ≡ []). empty_in_round told v v.round answers none r)
    (λ (known : (fault_of_round v.round ≡ Clean) ⊎ (fault_of_round v.round ≡ FaultArm)). handled_in_round told v answers r.stands known)
    r.fault

pub each_in_round : (events : List Event) (told : List Answer) (v : World) (answers : List PollerAnswer) → InRound told v
    → InRound told (handle_each events v answers).world
each_in_round [] told v answers r = r
each_in_round (event ∷ events) told v answers r =
    each_in_round events told (handle_round v answers).world (handle_round v answers).left (event_in_round told v answers r)

-- ## A round ends

-- what the end of a round leaves, where an arm has failed in the step only if `Failed`
record Leaves (told : List Answer) (Failed : Type 0) (o : Outcome) : Type 0 where
  stands : Standing (parts_of o.world) told Failed

ended_stands : (w : World) (told : List Answer) (F : Type 0) (round : Option RoundState) (answers : List PollerAnswer) → w.round ≡ round
    → Standing (parts_of w) told F → Leaves told F (finish_in w round answers)
ended_stands w told F None answers at s = record { stands = s }
ended_stands w told F (Some round) answers at s =
    cond_both (is_empty_list round.in_hand) _ _ (Leaves told F)
    (λ none. record { stands = rehanded w told F [] (ap hand_of at ∙ empty_is round.in_hand none) s })
    (λ some. record { stands = s })

pub finish_stands : (w : World) (told : List Answer) (answers : List PollerAnswer) → Standing (parts_of w) told ⊥ → Stands told (finish_round w answers)
finish_stands w told answers s =
    let ended = ended_stands w told ⊥ w.round answers refl s in
    record { stands = weaker (parts_of (finish_round w answers).world) told ⊥ _ (λ never. absurd never) ended.stands }

-- ## A whole round

-- after the wait of a whole round
pub waited_in_round : (w : World) (told : List Answer) (given : Option ℕ) (answers : List PollerAnswer) → is_some w.round ≡ false → Standing (parts_of w) told ⊥
    → InRound told (wait_round (begin_round w given answers).world (begin_round w given answers).left).world
waited_in_round w told given answers none s =
    let begun = begin_round w given answers in
    let b = begun_stands w told given answers none s in
    let waited = wait_round begun.world begun.left in
    let x = waited_stands begun.world told ⊥ begun.world.round begun.left refl b.stands in
    record {
      stands = weaker (parts_of waited.world) told ⊥ _ (λ never. absurd never) x.stands;
      fault = ⊎_elim
          (λ (empty : hand_of waited.world.round ≡ []). inl empty)
          (λ (same : fault_of_round waited.world.round ≡ fault_of_round begun.world.round). inr (inl (same ∙ b.clean)))
          x.fault;
    }

pub react_stands : (w : World) (told : List Answer) (given : Option ℕ) (answers : List PollerAnswer) → Standing (parts_of w) told ⊥
    → Stands told (react w given answers)
react_stands w told given answers s =
    let begun = begin_round w given answers in
    let waited = wait_round begun.world begun.left in
    let handled = handle_each (hand_of waited.world.round) waited.world waited.left in
    let ended = finish_round handled.world handled.left in
    either told (is_some w.round) _ _ (λ some. quiet_stands w told _ answers s)
    (λ none.
    let r = each_in_round (hand_of waited.world.round) told waited.world waited.left (waited_in_round w told given answers none s) in
    let e = ended_stands handled.world told (fault_of_round handled.world.round ≡ FaultArm) handled.world.round handled.left refl r.stands in
    record { stands = weaker (parts_of ended.world) told _ _ (λ kept. ap is_arm_fault kept) e.stands })
