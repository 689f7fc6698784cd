-- Histories of storings that no run has, each refused by the law on how storings follow from step to step: a table of what a machine may do wrong
-- in one step, by the kind of the step. A history is refused in every world with the parts that are written out for it. The law reads the machine's own
-- answer to the step, so a history with a wrong answer is no matter of it.
use Rattle.std.proofs.Common.{◌≡◌, ℕ, Bool, true, false, ◌&&◌, List, [], ◌∷◌, ◌++◌, ◌+◌, ◌<◌, length, None, Some, refl, ap, arith, ◌∙◌, sym, subst, ⊎_elim}
use Rattle.std.specs.Prelude.{◌==◌, if◌then◌else◌, take}
use Rattle.std.specs.List.{Contains, list_any}
use Rattle.std.proofs.lemmas.Bool.{and_parts, and_from, eqb-true, eq-eqb, cases_Bool, cond-true, cond-false, cond_both}
use Rattle.std.proofs.lemmas.List.{append_cancel_left}
use Rattle.std.proofs.lemmas.List.Elements.{Contains-append_cases, Contains-append_left, Contains-append_right}
use Rattle.aio_base.specs.declared.names.Dir.TheVariants.{Read, Write}
use Rattle.aio_base.specs.declared.names.Event.{Event}
use Rattle.aio_base.specs.declared.outcomes.EndWord.TheVariants.{Clean}
use Rattle.aio_base.specs.declared.steps.Step.{Step}
use Rattle.aio_base.specs.declared.steps.Step.TheVariants as step
use Rattle.aio_base.specs.World.{PollerAnswer, Gives, RoundState, World, opening}
use Rattle.aio_base.specs.Machine.{step_result}
use Rattle.aio_base.specs.Refusals.{is_refusal}
use Rattle.aio_laws.specs.Storings.{Place, OfPoll, OfListener, OfTimer, same_place, Stored, Storings, no_storings}
use Rattle.aio_laws.specs.Succession.{stored_as, stores, own_storing, replaced_places, taken_places, standing_in, may_give_up, gives_up, ends_round, StoringsFollow}
use Rattle.aio_laws.proofs.storings.Leaving.{stood_in}
use Rattle.aio_base.proofs.Membership.{none_is_in, first_is_in, any_gives, none_passes}
use Rattle.aio_laws.proofs.storings.Places.{same_place-eq, same_place-refl}
use Rattle.aio_laws.proofs.traces.Words.{key, waker, reads}

-- the law refuses these storings after a step, with those before it
abbrev Refused : World → Step → List PollerAnswer → Storings → Storings → Type 0
Refused w s answers before after = StoringsFollow w s answers before after → ⊥

-- ## Which storings are among others

abbrev is_storing : Stored → Stored → Bool
is_storing x y = (x.number == y.number) && (same_place x.place y.place && (x.waker.0 == y.waker.0))

abbrev has : List Stored → Stored → Bool
has stored x = list_any (is_storing x) stored

abbrev has_place : List Place → Place → Bool
has_place places p = list_any (same_place p) places

is_storing-eq : (x y : Stored) → is_storing x y ≡ true → y ≡ x
is_storing-eq x y same =
    let number = and_parts (x.number == y.number) (same_place x.place y.place && (x.waker.0 == y.waker.0)) same in
    let rest = and_parts (same_place x.place y.place) (x.waker.0 == y.waker.0) number.1 in
    ap (λ n. stored_as n y.place y.waker) (sym (eqb-true x.number y.number number.0))
    ∙ ap (λ p. stored_as x.number p y.waker) (sym (same_place-eq x.place y.place rest.0))
    ∙ ap (λ n. stored_as x.number x.place (record { 0 = n })) (sym (eqb-true x.waker.0 y.waker.0 rest.1))

is_storing-refl : (x : Stored) → is_storing x x ≡ true
is_storing-refl x =
    and_from (x.number == x.number) (same_place x.place x.place && (x.waker.0 == x.waker.0)) (eq-eqb x.number x.number refl)
    (and_from (same_place x.place x.place) (x.waker.0 == x.waker.0) (same_place-refl x.place) (eq-eqb x.waker.0 x.waker.0 refl))

known : (stored : List Stored) (x : Stored) → has stored x ≡ true → Contains stored x
known stored x there = let at = any_gives (is_storing x) stored there in subst (Contains stored) (is_storing-eq x at.0 at.2) at.1

unknown : (stored : List Stored) (x : Stored) → has stored x ≡ false → Contains stored x → ⊥
unknown stored x none among = none_passes (is_storing x) stored x none among (is_storing-refl x)

-- what was replaced stood before, where the step replaces
stood_replaced : (w : World) (s : Step) (answers : List PollerAnswer) (before after : Storings) (f : StoringsFollow w s answers before after) (x : Stored)
    → Contains f.replaced_now x → Contains before.standing x × Contains (replaced_places w s) x.place
stood_replaced w s answers before after f x gone =
    cond_both (stores w s answers) (standing_in (replaced_places w s) before.standing) []
    (λ replaced. Contains replaced x → Contains before.standing x × Contains (replaced_places w s) x.place)
    (λ does among. stood_in (replaced_places w s) before.standing x among) (λ never among. none_is_in x among)
    (subst (λ replaced. Contains replaced x) f.replaced gone)

elsewhere : (places : List Place) (p : Place) → has_place places p ≡ false → Contains places p → ⊥
elsewhere places p none among = none_passes (same_place p) places p none among (same_place-refl p)

here : (places : List Place) (p : Place) → has_place places p ≡ true → Contains places p
here places p there = let at = any_gives (same_place p) places there in subst (Contains places) (sym (same_place-eq p at.0 at.2)) at.1

not_among_either : (test : Bool) (stored : List Stored) (x : Stored) → has stored x ≡ false → Contains (if test then stored else []) x → ⊥
not_among_either true stored x none among = unknown stored x none among
not_among_either false stored x none among = none_is_in x among

last_woken : (old : List (List Stored)) (now new : List Stored) → old ++ now ∷ [] ≡ old ++ new ∷ [] → now ≡ new
last_woken old now new same = let last = append_cancel_left old (now ∷ []) (new ∷ []) same in cc

-- ## Why a history is refused

-- what a step takes stood before, where it takes
took_standing : (w : World) (s : Step) (answers : List PollerAnswer) (before after : Storings) (f : StoringsFollow w s answers before after) (x : Stored)
    → Contains f.taken_now x → Contains before.standing x × Contains (taken_places w s answers) x.place
took_standing w s answers before after f x took =
    stood_in (taken_places w s answers) before.standing x (subst (λ xs. Contains xs x) f.taken took)

-- a storing was given up that stood elsewhere
given_up_elsewhere : (w : World) (s : Step) (answers : List PollerAnswer) (before after : Storings) (x : Stored) (now : List Stored)
    → after.given_up ≡ before.given_up ++ now → has now x ≡ true → has_place (may_give_up w s) x.place ≡ false → Refused w s answers before after
given_up_elsewhere w s answers before after x now is there other f =
    elsewhere (may_give_up w s) x.place other
    (f.given_up x (subst (λ gone. Contains gone x) (append_cancel_left before.given_up now f.given_up_now (sym is ∙ f.gone)) (known now x there))).1

-- a storing was given up by a step that gives up nothing
given_up_for_nothing : (w : World) (s : Step) (answers : List PollerAnswer) (before after : Storings) (x : Stored) (now : List Stored)
    → after.given_up ≡ before.given_up ++ now → has now x ≡ true → gives_up w s answers ≡ false → Refused w s answers before after
given_up_for_nothing w s answers before after x now is there none f =
    none_is_in x
    (subst (λ gone. Contains gone x) (append_cancel_left before.given_up now f.given_up_now (sym is ∙ f.gone) ∙ f.keeps none) (known now x there))

-- a storing was woken that was neither taken before, nor stood
woken_from_nowhere : (w : World) (s : Step) (answers : List PollerAnswer) (before after : Storings) (x : Stored) (now : List Stored)
    → after.woken ≡ before.woken ++ now ∷ [] → has now x ≡ true → has before.taken x ≡ false → has before.standing x ≡ false → Refused w s answers before after
woken_from_nowhere w s answers before after x now is there untaken unstood f =
    ⊎_elim
    (λ (ends : ends_round w s answers ≡ true).
    let all = last_woken before.woken now (before.taken ++ f.taken_now) (sym is ∙ (f.ends ends).0) in
    ⊎_elim (unknown before.taken x untaken) (λ (took : Contains f.taken_now x). unknown before.standing x unstood (took_standing w s answers before after f x took).0)
    (Contains-append_cases before.taken f.taken_now x (subst (λ xs. Contains xs x) all (known now x there))))
    (λ (on : ends_round w s answers ≡ false).
    let all = last_woken before.woken now f.replaced_now (sym is ∙ (f.goes_on on).0) in
    unknown before.standing x unstood (stood_replaced w s answers before after f x (subst (λ xs. Contains xs x) all (known now x there))).0)
    (cases_Bool (ends_round w s answers))

-- a storing was woken that no poll replaced, and the step ends no round
woken_too_soon : (w : World) (s : Step) (answers : List PollerAnswer) (before after : Storings) (x : Stored) (now : List Stored)
    → after.woken ≡ before.woken ++ now ∷ [] → has now x ≡ true → ends_round w s answers ≡ false → has_place (replaced_places w s) x.place ≡ false
    → Refused w s answers before after
woken_too_soon w s answers before after x now is there on other f =
    let all = last_woken before.woken now f.replaced_now (sym is ∙ (f.goes_on on).0) in
    elsewhere (replaced_places w s) x.place other (stood_replaced w s answers before after f x (subst (λ xs. Contains xs x) all (known now x there))).1

-- more storings were woken than stood where the step replaces, and the step ends no round
more_woken : (w : World) (s : Step) (answers : List PollerAnswer) (before after : Storings) (now : List Stored)
    → after.woken ≡ before.woken ++ now ∷ [] → ends_round w s answers ≡ false → length (standing_in (replaced_places w s) before.standing) < length now
    → Refused w s answers before after
more_woken w s answers before after now is on more f =
    cond_both (stores w s answers) (standing_in (replaced_places w s) before.standing) [] (λ replaced. now ≡ replaced → ⊥)
    (λ does all. let long : length now ≡ length (standing_in (replaced_places w s) before.standing) = ap length all in absurd (omega arith))
    (λ never all. let none : length now ≡ 0 = ap length all in absurd (omega arith))
    (last_woken before.woken now f.replaced_now (sym is ∙ (f.goes_on on).0) ∙ f.replaced)

-- the storing that the step stores, by the numbers given, stands nowhere
lost_storing : (w : World) (s : Step) (answers : List PollerAnswer) (before after : Storings) (x : Stored) → after.given ≡ before.given + 1
    → own_storing w s before.given ≡ x ∷ [] → has after.standing x ≡ false → Refused w s answers before after
lost_storing w s answers before after x more own gone f =
    ⊎_elim
    (λ (does : stores w s answers ≡ true).
    let is : f.stored_now ≡ x ∷ [] = f.stored ∙ cond-true (stores w s answers) (own_storing w s before.given) [] does ∙ own in
    unknown after.standing x gone (f.stores_it x (subst (λ xs. Contains xs x) (sym is) (first_is_in x []))))
    (λ (never : stores w s answers ≡ false).
    let none : f.stored_now ≡ [] = f.stored ∙ cond-false (stores w s answers) (own_storing w s before.given) [] never in
    let as_many : after.given ≡ before.given + 0 = f.given ∙ ap (λ (xs : List Stored). before.given + length xs) none in absurd (omega arith))
    (cases_Bool (stores w s answers))

-- a storing stands that did not stand before, and is not the one that the step stores
stands_from_nowhere : (w : World) (s : Step) (answers : List PollerAnswer) (before after : Storings) (x : Stored)
    → has after.standing x ≡ true → has before.standing x ≡ false → has (own_storing w s before.given) x ≡ false → Refused w s answers before after
stands_from_nowhere w s answers before after x there unstood other f =
    ⊎_elim (unknown before.standing x unstood)
    (λ (new : Contains f.stored_now x).
    not_among_either (stores w s answers) (own_storing w s before.given) x other (subst (λ xs. Contains xs x) f.stored new))
    (f.stands x (known after.standing x there))

-- more or fewer numbers were given than the step stores wakers
counted_wrongly : (w : World) (s : Step) (answers : List PollerAnswer) (before after : Storings)
    → (after.given == before.given + length (if stores w s answers then own_storing w s before.given else [])) ≡ false → Refused w s answers before after
counted_wrongly w s answers before after wrong f =
    let count : after.given ≡ before.given + length (if stores w s answers then own_storing w s before.given else []) =
    f.given ∙ ap (λ stored. before.given + length stored) f.stored in
    let same = eq-eqb after.given _ count in cc

-- a round took what stood elsewhere
taken_elsewhere : (w : World) (s : Step) (answers : List PollerAnswer) (before after : Storings) (x : Stored) (now : List Stored)
    → after.taken ≡ before.taken ++ now → has now x ≡ true → ends_round w s answers ≡ false → has_place (taken_places w s answers) x.place ≡ false
    → Refused w s answers before after
taken_elsewhere w s answers before after x now is there on other f =
    elsewhere (taken_places w s answers) x.place other
    (took_standing w s answers before after f x
    (subst (λ took. Contains took x) (append_cancel_left before.taken now f.taken_now (sym is ∙ (f.goes_on on).1)) (known now x there))).1

-- a round took another storing first than the first that stood where it takes
taken_out_of_order : (w : World) (s : Step) (answers : List PollerAnswer) (before after : Storings) (x : Stored) (now : List Stored)
    → after.taken ≡ before.taken ++ now → has (take 1 now) x ≡ true → ends_round w s answers ≡ false
    → has (take 1 (standing_in (taken_places w s answers) before.standing)) x ≡ false → Refused w s answers before after
taken_out_of_order w s answers before after x now is there on other f =
    let order : now ≡ standing_in (taken_places w s answers) before.standing =
    append_cancel_left before.taken now f.taken_now (sym is ∙ (f.goes_on on).1) ∙ f.taken in
    unknown (take 1 (standing_in (taken_places w s answers) before.standing)) x other
    (subst (λ (took : List Stored). Contains (take 1 took) x) order (known (take 1 now) x there))

-- a round left standing what it takes
left_standing : (w : World) (s : Step) (answers : List PollerAnswer) (before after : Storings) (x : Stored)
    → has after.standing x ≡ true → has_place (taken_places w s answers) x.place ≡ true → Refused w s answers before after
left_standing w s answers before after x there place f = f.emptied x (known after.standing x there) (here (taken_places w s answers) x.place place)

-- a storing stands on where the step gives up
still_standing : (w : World) (s : Step) (answers : List PollerAnswer) (before after : Storings) (x : Stored)
    → has after.standing x ≡ true → gives_up w s answers ≡ true → has_place (may_give_up w s) x.place ≡ true
    → has (own_storing w s before.given) x ≡ false → Refused w s answers before after
still_standing w s answers before after x there gives place other f =
    not_among_either (stores w s answers) (own_storing w s before.given) x other
    (subst (λ xs. Contains xs x) f.stored (f.cleared gives x (known after.standing x there) (here (may_give_up w s) x.place place)))

-- a round ended and kept what it has taken
kept_taken : (w : World) (s : Step) (answers : List PollerAnswer) (before after : Storings) (x : Stored)
    → has after.taken x ≡ true → ends_round w s answers ≡ true → Refused w s answers before after
kept_taken w s answers before after x there ends f = none_is_in x (subst (λ taken. Contains taken x) (f.ends ends).1 (known after.taken x there))

-- what a round had taken is taken no longer, and the round did not end
lost_taken : (w : World) (s : Step) (answers : List PollerAnswer) (before after : Storings) (x : Stored)
    → has before.taken x ≡ true → has after.taken x ≡ false → ends_round w s answers ≡ false → Refused w s answers before after
lost_taken w s answers before after x there gone on f =
    unknown after.taken x gone
    (subst (λ taken. Contains taken x) (sym (f.goes_on on).1) (Contains-append_left before.taken f.taken_now x (known before.taken x there)))

-- a storing that stood is nowhere any longer
vanished : (w : World) (s : Step) (answers : List PollerAnswer) (before after : Storings) (x : Stored) (now : List Stored)
    → (ends_round w s answers ≡ true → replaced_places w s ≡ []) → has before.standing x ≡ true → has after.standing x ≡ false → has after.taken x ≡ false
    → has after.given_up x ≡ false → after.woken ≡ before.woken ++ now ∷ [] → has now x ≡ false → Refused w s answers before after
vanished w s answers before after x now replaces there unstood untaken ungiven is unwoken f =
    ⊎_elim (unknown after.standing x unstood)
    (λ (went : Contains (f.replaced_now ++ f.taken_now ++ f.given_up_now) x).
    ⊎_elim
    (λ (front : Contains (f.replaced_now ++ f.taken_now) x).
    ⊎_elim
    (λ (replaced : Contains f.replaced_now x).
    ⊎_elim (λ (ends : ends_round w s answers ≡ true). none_is_in x.place (subst (λ ps. Contains ps x.place) (replaces ends) (stood_replaced w s answers before after f x replaced).1))
    (λ (on : ends_round w s answers ≡ false).
    unknown now x unwoken (subst (λ xs. Contains xs x) (last_woken before.woken f.replaced_now now (sym (f.goes_on on).0 ∙ is)) replaced))
    (cases_Bool (ends_round w s answers)))
    (λ (took : Contains f.taken_now x).
    let of_round = Contains-append_right before.taken f.taken_now x took in
    ⊎_elim
    (λ (ends : ends_round w s answers ≡ true).
    unknown now x unwoken (subst (λ xs. Contains xs x) (last_woken before.woken (before.taken ++ f.taken_now) now (sym (f.ends ends).0 ∙ is)) of_round))
    (λ (on : ends_round w s answers ≡ false). unknown after.taken x untaken (subst (λ xs. Contains xs x) (sym (f.goes_on on).1) of_round))
    (cases_Bool (ends_round w s answers)))
    (Contains-append_cases f.replaced_now f.taken_now x front))
    (λ (gave : Contains f.given_up_now x).
    unknown after.given_up x ungiven (subst (λ xs. Contains xs x) (sym f.gone) (Contains-append_right before.given_up f.given_up_now x gave)))
    (Contains-append_cases (f.replaced_now ++ f.taken_now) f.given_up_now x went))
    (f.stood x (known before.standing x there))

-- a step that was refused moved a storing
moved_by_refused : (w : World) (s : Step) (answers : List PollerAnswer) (before after : Storings) (x : Stored)
    → is_refusal (step_result w s answers).answer ≡ true → has before.standing x ≡ true → has after.standing x ≡ false → Refused w s answers before after
moved_by_refused w s answers before after x refusal there gone f =
    unknown after.standing x gone (subst (λ (l : Storings). Contains l.standing x) (sym (f.refused refusal)) (known before.standing x there))

-- ## Words for histories

-- the event that the source with key 0 is readable
abbrev readable : Event
readable = record { key = key 0; on = reads }

-- the storing with this number, place and waker
abbrev storing : ℕ → Place → ℕ → Stored
storing number place task = stored_as number place (waker task)

-- so many storings, of which these stand and those are taken
abbrev before_step : ℕ → List Stored → List Stored → Storings
before_step given stored taken = record no_storings { given = given; standing = stored; taken = taken }

-- the same after a step which woke and gave up these
abbrev after_step : ℕ → List Stored → List Stored → List Stored → List Stored → Storings
after_step given stored taken woken given_up =
    record no_storings { given = given; standing = stored; taken = taken; woken = woken ∷ []; given_up = given_up }

-- two listeners wait
abbrev two_listeners : Storings
two_listeners = before_step 2 (storing 0 (OfListener 1) 11 ∷ storing 1 (OfListener 2) 12 ∷ []) []

-- two timers are registered
abbrev two_registered : Storings
two_registered = before_step 2 (storing 0 (OfTimer 1) 11 ∷ storing 1 (OfTimer 2) 12 ∷ []) []

-- two sources, with keys 0 and 1
abbrev two_sources : World
two_sources = record opening { live = record { key = 0; serial = 1 } ∷ record { key = 1; serial = 2 } ∷ [] }

-- two timers at moment 5, each registered
abbrev two_timers : World
two_timers = record opening {
  timers = record { number = 1; deadline = Some 5; period = None; id = Some 1; kept = Some (waker 11) }
      ∷ record { number = 2; deadline = Some 5; period = None; id = Some 2; kept = Some (waker 12) } ∷ [];
  registrations = record { id = 1; deadline = 5; waker = waker 11 } ∷ record { id = 2; deadline = 5; waker = waker 12 } ∷ [];
  ids_drawn = 2;
}

-- a round that began at the start, with these events in hand, after a wait that gave some
abbrev round_with : List Event → RoundState
round_with events = record {
  number = 1;
  begin = 0;
  limit = None;
  in_hand = events;
  taken = [];
  last_wait = Some (Gives (readable ∷ []));
  fault = Clean;
}

-- ## Histories that a comparison of wakers alone lets through

-- a poll of the second listener drops the waker of the first
pub a_poll_drops_the_waker_of_another_listener : (w : World) (answers : List PollerAnswer)
    → Refused w (step.StepEar 2 (waker 13)) answers two_listeners
    (after_step 3 (storing 2 (OfListener 2) 13 ∷ []) [] [] (storing 0 (OfListener 1) 11 ∷ storing 1 (OfListener 2) 12 ∷ []))
a_poll_drops_the_waker_of_another_listener w answers =
    given_up_elsewhere w _ answers _ _ (storing 0 (OfListener 1) 11) (storing 0 (OfListener 1) 11 ∷ storing 1 (OfListener 2) 12 ∷ []) refl refl refl

-- a whole round takes the first listener out and wakes the task of the second, which goes on waiting
pub a_round_wakes_a_waker_that_it_did_not_take : (w : World) (answers : List PollerAnswer)
    → Refused w step.React answers two_listeners (after_step 2 (storing 1 (OfListener 2) 12 ∷ []) [] (storing 0 (OfListener 1) 12 ∷ []) [])
a_round_wakes_a_waker_that_it_did_not_take w answers =
    woken_from_nowhere w _ answers _ _ (storing 0 (OfListener 1) 12) (storing 0 (OfListener 1) 12 ∷ []) refl refl refl refl

-- the same, under the number of the second
pub a_round_leaves_a_waker_at_another_place : (w : World) (answers : List PollerAnswer)
    → Refused w step.React answers two_listeners (after_step 2 (storing 0 (OfListener 2) 12 ∷ []) [] (storing 1 (OfListener 2) 12 ∷ []) [])
a_round_leaves_a_waker_at_another_place w answers = stands_from_nowhere w _ answers _ _ (storing 0 (OfListener 2) 12) refl refl refl

-- a poll puts its waker under the number that it replaces, and wakes the next number with the old waker
pub a_poll_stores_under_an_old_number : (answers : List PollerAnswer)
    → Refused two_sources (step.Poll (key 0) Read (waker 2)) answers (before_step 1 (storing 0 (OfPoll 1 Read) 1 ∷ []) [])
    (after_step 2 (storing 0 (OfPoll 1 Read) 2 ∷ []) [] (storing 1 (OfPoll 1 Read) 1 ∷ []) [])
a_poll_stores_under_an_old_number answers = stands_from_nowhere two_sources _ answers _ _ (storing 0 (OfPoll 1 Read) 2) refl refl refl

-- ## Polls

-- a poll wakes the waker that it replaces twice
pub a_poll_wakes_what_it_replaces_twice : (answers : List PollerAnswer)
    → Refused two_sources (step.Poll (key 0) Read (waker 2)) answers (before_step 1 (storing 0 (OfPoll 1 Read) 1 ∷ []) [])
    (after_step 2 (storing 1 (OfPoll 1 Read) 2 ∷ []) [] (storing 0 (OfPoll 1 Read) 1 ∷ storing 0 (OfPoll 1 Read) 1 ∷ []) [])
a_poll_wakes_what_it_replaces_twice answers =
    more_woken two_sources _ answers _ _ (storing 0 (OfPoll 1 Read) 1 ∷ storing 0 (OfPoll 1 Read) 1 ∷ []) refl refl (let more : 1 < 2 = omega arith in more)

-- a poll counts the waker that it stores, which stands nowhere
pub a_poll_loses_the_waker_that_it_stores : (answers : List PollerAnswer)
    → Refused two_sources (step.Poll (key 0) Read (waker 2)) answers (before_step 1 [] []) (after_step 2 [] [] [] [])
a_poll_loses_the_waker_that_it_stores answers = lost_storing two_sources _ answers _ _ (storing 1 (OfPoll 1 Read) 2) refl refl refl

-- a poll gives its source's earlier waker up
pub a_poll_gives_up_what_it_replaces : (w : World) (answers : List PollerAnswer)
    → Refused w (step.Poll (key 0) Read (waker 2)) answers (before_step 1 (storing 0 (OfPoll 1 Read) 1 ∷ []) [])
    (after_step 2 (storing 1 (OfPoll 1 Read) 2 ∷ []) [] [] (storing 0 (OfPoll 1 Read) 1 ∷ []))
a_poll_gives_up_what_it_replaces w answers =
    given_up_elsewhere w _ answers _ _ (storing 0 (OfPoll 1 Read) 1) (storing 0 (OfPoll 1 Read) 1 ∷ []) refl refl refl

-- a poll that is ready stores its waker
pub a_ready_poll_stores : (answers : List PollerAnswer)
    → Refused (record two_sources {
      marks = record { serial = 1; dir = Read; position = 1 } ∷ [];
      handled = record { serial = 1; dir = Read; begin = 2 } ∷ [];
    }) (step.Poll (key 0) Read (waker 7)) answers (before_step 0 [] []) (after_step 1 (storing 0 (OfPoll 1 Read) 7 ∷ []) [] [] [])
unfolding step_result
a_ready_poll_stores answers = counted_wrongly _ _ answers _ _ refl

-- a listener's poll with the same waker gets no new number
pub a_listeners_waker_keeps_its_number : (answers : List PollerAnswer)
    → Refused (record two_sources {
      listeners = record { number = 1; serial = 1; dir = Read; position = Some 3; waker = Some (waker 11) } ∷ [];
    }) (step.StepEar 1 (waker 11)) answers (before_step 1 (storing 0 (OfListener 1) 11 ∷ []) [])
    (after_step 1 (storing 0 (OfListener 1) 11 ∷ []) [] [] [])
unfolding step_result
a_listeners_waker_keeps_its_number answers = counted_wrongly _ _ answers _ _ refl

-- a listener's poll wakes its earlier waker
pub a_listeners_poll_wakes : (w : World) (answers : List PollerAnswer)
    → Refused w (step.StepEar 1 (waker 11)) answers (before_step 1 (storing 0 (OfListener 1) 10 ∷ []) [])
    (after_step 2 (storing 1 (OfListener 1) 11 ∷ []) [] (storing 0 (OfListener 1) 10 ∷ []) [])
a_listeners_poll_wakes w answers =
    woken_too_soon w _ answers _ _ (storing 0 (OfListener 1) 10) (storing 0 (OfListener 1) 10 ∷ []) refl refl refl refl

-- ## Sources, listeners and timers that go

pub a_source_gives_up_the_waiter_of_another : (answers : List PollerAnswer)
    → Refused two_sources (step.Del (key 0)) answers (before_step 1 (storing 0 (OfPoll 2 Read) 7 ∷ []) [])
    (after_step 1 [] [] [] (storing 0 (OfPoll 2 Read) 7 ∷ []))
a_source_gives_up_the_waiter_of_another answers =
    given_up_elsewhere two_sources _ answers _ _ (storing 0 (OfPoll 2 Read) 7) (storing 0 (OfPoll 2 Read) 7 ∷ []) refl refl refl

pub a_listener_gives_up_the_waker_of_another : (w : World) (answers : List PollerAnswer)
    → Refused w (step.DropEar 1) answers two_listeners (after_step 2 (storing 0 (OfListener 1) 11 ∷ []) [] [] (storing 1 (OfListener 2) 12 ∷ []))
a_listener_gives_up_the_waker_of_another w answers =
    given_up_elsewhere w _ answers _ _ (storing 1 (OfListener 2) 12) (storing 1 (OfListener 2) 12 ∷ []) refl refl refl

-- a listener that is dropped goes on waiting
pub a_dropped_listener_keeps_its_waker : (answers : List PollerAnswer)
    → Refused (record two_sources {
      listeners = record { number = 1; serial = 1; dir = Read; position = Some 3; waker = Some (waker 11) } ∷ [];
    }) (step.DropEar 1) answers (before_step 1 (storing 0 (OfListener 1) 11 ∷ []) []) (after_step 1 (storing 0 (OfListener 1) 11 ∷ []) [] [] [])
unfolding step_result
a_dropped_listener_keeps_its_waker answers = still_standing _ _ answers _ _ (storing 0 (OfListener 1) 11) refl refl refl refl

pub a_tick_gives_up_the_registration_of_another : (answers : List PollerAnswer)
    → Refused two_timers (step.Tick 1 (waker 13)) answers two_registered
    (after_step 3 (storing 2 (OfTimer 3) 13 ∷ []) [] [] (storing 0 (OfTimer 1) 11 ∷ storing 1 (OfTimer 2) 12 ∷ []))
a_tick_gives_up_the_registration_of_another answers =
    given_up_elsewhere two_timers _ answers _ _ (storing 1 (OfTimer 2) 12) (storing 0 (OfTimer 1) 11 ∷ storing 1 (OfTimer 2) 12 ∷ []) refl refl refl

-- a timer that waits on with the same waker loses its registration, and no round ever wakes it
pub a_tick_that_waits_on_gives_up_its_registration : (answers : List PollerAnswer)
    → Refused two_timers (step.Tick 1 (waker 11)) answers two_registered
    (after_step 2 (storing 1 (OfTimer 2) 12 ∷ []) [] [] (storing 0 (OfTimer 1) 11 ∷ []))
unfolding step_result
a_tick_that_waits_on_gives_up_its_registration answers =
    given_up_for_nothing two_timers _ answers _ _ (storing 0 (OfTimer 1) 11) (storing 0 (OfTimer 1) 11 ∷ []) refl refl refl

pub an_end_gives_up_the_registration_of_another : (answers : List PollerAnswer)
    → Refused two_timers (step.End 1) answers two_registered
    (after_step 2 [] [] [] (storing 0 (OfTimer 1) 11 ∷ storing 1 (OfTimer 2) 12 ∷ []))
an_end_gives_up_the_registration_of_another answers =
    given_up_elsewhere two_timers _ answers _ _ (storing 1 (OfTimer 2) 12) (storing 0 (OfTimer 1) 11 ∷ storing 1 (OfTimer 2) 12 ∷ []) refl refl refl

-- a timer that is given up wakes its task
pub an_end_wakes : (w : World) (answers : List PollerAnswer)
    → Refused w (step.End 1) answers two_registered
    (after_step 2 (storing 1 (OfTimer 2) 12 ∷ []) [] (storing 0 (OfTimer 1) 11 ∷ []) [])
an_end_wakes w answers = woken_too_soon w _ answers _ _ (storing 0 (OfTimer 1) 11) (storing 0 (OfTimer 1) 11 ∷ []) refl refl refl refl

-- a timer that has ended stays registered
pub an_ended_timer_stays_registered : (answers : List PollerAnswer) → Refused two_timers (step.End 1) answers two_registered (after_step 2 two_registered.standing [] [] [])
unfolding step_result
an_ended_timer_stays_registered answers = still_standing two_timers _ answers _ _ (storing 0 (OfTimer 1) 11) refl refl refl refl

-- a timer that is set is registered with another waker than the one that it keeps
pub a_set_stores_another_waker : (answers : List PollerAnswer)
    → Refused two_timers (step.SetAt 1 9) answers two_registered
    (after_step 3 (storing 1 (OfTimer 2) 12 ∷ storing 2 (OfTimer 3) 12 ∷ []) [] [] (storing 0 (OfTimer 1) 11 ∷ []))
a_set_stores_another_waker answers = stands_from_nowhere two_timers _ answers _ _ (storing 2 (OfTimer 3) 12) refl refl refl

-- a timer that is set loses the waker that it keeps
pub a_set_drops_the_kept_waker : (answers : List PollerAnswer)
    → Refused two_timers (step.SetAt 1 9) answers two_registered
    (after_step 2 (storing 1 (OfTimer 2) 12 ∷ []) [] [] (storing 0 (OfTimer 1) 11 ∷ []))
a_set_drops_the_kept_waker answers = counted_wrongly two_timers _ answers _ _ refl

-- the poll of a timer waits for the deadline, and registers nothing
pub a_tick_that_waits_stores_nothing : (answers : List PollerAnswer)
    → Refused (record opening {
      timers = record { number = 1; deadline = Some 5; period = None; id = None; kept = None } ∷ [];
    }) (step.Tick 1 (waker 11)) answers (before_step 0 [] []) (after_step 0 [] [] [] [])
unfolding step_result
a_tick_that_waits_stores_nothing answers = counted_wrongly _ _ answers _ _ refl

-- ## Rounds

pub a_round_takes_what_is_not_due : (answers : List PollerAnswer)
    → Refused two_timers (step.Begin None) answers two_registered
    (after_step 2 [] (storing 0 (OfTimer 1) 11 ∷ storing 1 (OfTimer 2) 12 ∷ []) [] [])
a_round_takes_what_is_not_due answers =
    taken_elsewhere two_timers _ answers _ _ (storing 0 (OfTimer 1) 11) (storing 0 (OfTimer 1) 11 ∷ storing 1 (OfTimer 2) 12 ∷ []) refl refl refl refl

-- of two timers with one deadline the later one is taken first
pub a_round_takes_timers_out_of_order : (answers : List PollerAnswer)
    → Refused (record two_timers { now = 5 }) (step.Begin None) answers two_registered
    (after_step 2 [] (storing 1 (OfTimer 2) 12 ∷ storing 0 (OfTimer 1) 11 ∷ []) [] [])
a_round_takes_timers_out_of_order answers =
    taken_out_of_order _ _ answers _ _ (storing 1 (OfTimer 2) 12) (storing 1 (OfTimer 2) 12 ∷ storing 0 (OfTimer 1) 11 ∷ []) refl refl refl refl

pub a_round_leaves_what_is_due : (answers : List PollerAnswer)
    → Refused (record two_timers { now = 5 }) (step.Begin None) answers two_registered
    (after_step 2 (storing 1 (OfTimer 2) 12 ∷ []) (storing 0 (OfTimer 1) 11 ∷ []) [] [])
a_round_leaves_what_is_due answers = left_standing _ _ answers _ _ (storing 1 (OfTimer 2) 12) refl refl

-- an event takes a waiter of a direction that it does not name
pub an_event_takes_the_other_direction : (answers : List PollerAnswer)
    → Refused (record two_sources { round = Some (round_with (readable ∷ [])) }) step.Handle answers (before_step 1 (storing 0 (OfPoll 1 Write) 7 ∷ []) [])
    (after_step 1 [] (storing 0 (OfPoll 1 Write) 7 ∷ []) [] [])
an_event_takes_the_other_direction answers =
    taken_elsewhere _ _ answers _ _ (storing 0 (OfPoll 1 Write) 7) (storing 0 (OfPoll 1 Write) 7 ∷ []) refl refl refl refl

-- of two listeners of a direction the later one is taken first
pub an_event_takes_listeners_out_of_order : (answers : List PollerAnswer)
    → Refused (record two_sources {
      listeners = record { number = 1; serial = 1; dir = Read; position = Some 3; waker = Some (waker 11) }
          ∷ record { number = 2; serial = 1; dir = Read; position = Some 4; waker = Some (waker 12) } ∷ [];
      round = Some (round_with (readable ∷ []));
    }) step.Handle answers two_listeners (after_step 2 [] (storing 1 (OfListener 2) 12 ∷ storing 0 (OfListener 1) 11 ∷ []) [] [])
an_event_takes_listeners_out_of_order answers =
    taken_out_of_order _ _ answers _ _ (storing 1 (OfListener 2) 12) (storing 1 (OfListener 2) 12 ∷ storing 0 (OfListener 1) 11 ∷ []) refl refl refl refl

pub an_event_leaves_a_waiter_of_its_direction : (answers : List PollerAnswer)
    → Refused (record two_sources { round = Some (round_with (readable ∷ [])) }) step.Handle answers (before_step 1 (storing 0 (OfPoll 1 Read) 7 ∷ []) [])
    (after_step 1 (storing 0 (OfPoll 1 Read) 7 ∷ []) [] [] [])
an_event_leaves_a_waiter_of_its_direction answers = left_standing _ _ answers _ _ (storing 0 (OfPoll 1 Read) 7) refl refl

-- what an event takes is dropped, as where the arm after it failed
pub an_event_drops_what_it_takes : (w : World) (answers : List PollerAnswer)
    → Refused w step.Handle answers (before_step 1 (storing 0 (OfPoll 1 Read) 7 ∷ []) []) (after_step 1 [] [] [] [])
an_event_drops_what_it_takes w answers =
    vanished w _ answers _ _ (storing 0 (OfPoll 1 Read) 7) [] (λ ends. refl) refl refl refl refl refl refl

-- an event wakes what it takes, before the round ends
pub an_event_wakes : (w : World) (answers : List PollerAnswer)
    → Refused w step.Handle answers (before_step 1 (storing 0 (OfPoll 1 Read) 7 ∷ []) []) (after_step 1 [] [] (storing 0 (OfPoll 1 Read) 7 ∷ []) [])
an_event_wakes w answers = woken_too_soon w _ answers _ _ (storing 0 (OfPoll 1 Read) 7) (storing 0 (OfPoll 1 Read) 7 ∷ []) refl refl refl refl

-- a wait, as any step within a round, drops what the round has taken
pub a_wait_drops_what_was_taken : (w : World) (answers : List PollerAnswer)
    → Refused w step.Wait answers (before_step 1 [] (storing 0 (OfPoll 1 Read) 7 ∷ [])) (after_step 1 [] [] [] [])
a_wait_drops_what_was_taken w answers = lost_taken w _ answers _ _ (storing 0 (OfPoll 1 Read) 7) refl refl refl

pub a_finish_keeps_what_was_taken : (answers : List PollerAnswer)
    → Refused (record two_sources { round = Some (round_with []) }) step.Finish answers (before_step 1 [] (storing 0 (OfPoll 1 Read) 7 ∷ []))
    (after_step 1 [] (storing 0 (OfPoll 1 Read) 7 ∷ []) [] [])
unfolding step_result
a_finish_keeps_what_was_taken answers = kept_taken _ _ answers _ _ (storing 0 (OfPoll 1 Read) 7) refl refl

-- a whole round takes a waiter and does not wake it
pub a_react_takes_and_does_not_wake : (w : World) (answers : List PollerAnswer)
    → Refused w step.React answers (before_step 1 (storing 0 (OfPoll 1 Read) 7 ∷ []) []) (after_step 1 [] [] [] [])
a_react_takes_and_does_not_wake w answers =
    vanished w _ answers _ _ (storing 0 (OfPoll 1 Read) 7) [] (λ ends. refl) refl refl refl refl refl refl

-- ## Steps that are refused

-- a whole round takes and wakes, though another round runs
pub a_refused_react_takes : (answers : List PollerAnswer)
    → Refused (record two_sources { round = Some (round_with []) }) step.React answers (before_step 1 (storing 0 (OfPoll 1 Read) 7 ∷ []) [])
    (after_step 1 [] [] (storing 0 (OfPoll 1 Read) 7 ∷ []) [])
unfolding step_result
a_refused_react_takes answers = moved_by_refused _ _ answers _ _ (storing 0 (OfPoll 1 Read) 7) refl refl refl

-- a source in use gives up its waiters, though it stays
pub a_refused_del_gives_up : (answers : List PollerAnswer)
    → Refused (record two_sources {
      listeners = record { number = 1; serial = 1; dir = Read; position = None; waker = None } ∷ [];
    }) (step.Del (key 0)) answers (before_step 1 (storing 0 (OfPoll 1 Read) 7 ∷ []) []) (after_step 1 [] [] [] (storing 0 (OfPoll 1 Read) 7 ∷ []))
unfolding step_result
a_refused_del_gives_up answers = moved_by_refused _ _ answers _ _ (storing 0 (OfPoll 1 Read) 7) refl refl refl
