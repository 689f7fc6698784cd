-- Of all storings of a world, those that a step may leave are of the world after it, and the last that they woke are its wakes: what a step may leave
-- is settled by what stood before it.
use Rattle.std.proofs.Common.{◌≡◌, ℕ, ◌+◌, ◌<◌, ◌≤◌, Bool, true, false, cond, ◌==◌, List, [], ◌∷◌, ◌++◌, map, Option, None, Some, option_to_list, refl, ap, ◌∙◌, sym, subst, ⊎_elim, arith}
use Rattle.std.specs.Prelude.{flat_map, length}
use Rattle.std.specs.List.{Contains}
use Rattle.std.proofs.lemmas.Bool.{cases_Bool, cases_lt, cond_both, eq-eqb}
use Rattle.std.proofs.lemmas.List.Elements.{All-contains, Contains-append_cases}
use Rattle.aio_base.specs.declared.names.Waker.{Waker}
use Rattle.aio_base.specs.declared.steps.Step.{Step}
use Rattle.aio_base.specs.declared.steps.Step.TheVariants as step
use Rattle.aio_base.specs.World.{PollerAnswer, ListenerEntry, Registration, World}
use Rattle.aio_base.specs.Runs.{PolledStep, outcome_of}
use Rattle.aio_laws.specs.Distinct.{NoDoubles}
use Rattle.aio_laws.specs.Storings.{Place, same_place, Stored, Storings, standing_at, times, times_in, waker_at, wakers}
use Rattle.aio_laws.specs.Succession.{StoringsFollow, ends_round, gives_up, replaced_places, standing_in, stores, taken_places}
use Rattle.aio_laws.specs.Waking.{AreOf, EachInOneList, WakesFollow, WokeTheSame}
use Rattle.aio_base.proofs.Membership.{none_is_in, first_is_in, later_is_in, among_cases, filtered_is_in, filtered_passes, passing_is_kept}
use Rattle.aio_laws.proofs.runs.Apart.{differ_apart}
use Rattle.aio_laws.proofs.storings.Following.{step_follows}
use Rattle.aio_laws.proofs.storings.Holding.{Orders, held, holding_of, waker_at-held}
use Rattle.aio_laws.proofs.storings.Leaving.{stood_in}
use Rattle.aio_laws.proofs.storings.Numbering.{held_are_of, held_once, storings_held}
use Rattle.aio_laws.proofs.storings.OnceRuns.{Between, after_step, step_stands, step_wakes}
use Rattle.aio_laws.proofs.storings.StoringCounts.{times-append, times-parted, woken_all}

-- ## Numbers of storings

one_more : (same : Bool) (rest : ℕ) → same ≡ true → cond same 1 0 + rest ≡ rest + 1
one_more true rest e = omega arith
one_more false rest e = absurd cc

-- a storing counts where it is
counted : (xs : List Stored) (x : Stored) → Contains xs x → 1 ≤ times x.number xs
counted [] x among = none_is_in x among
counted (y ∷ xs) x among =
    ⊎_elim
    (λ (same : y ≡ x). let here = one_more (y.number == x.number) (times x.number xs) (eq-eqb y.number x.number (ap (λ (s : Stored). s.number) same)) in omega arith)
    (λ (later : Contains xs x). let more = counted xs x later in omega arith)
    (among_cases y xs x among)

-- no number is anywhere twice
once_at_most : (l : Storings) → EachInOneList l → (n : ℕ) → times_in n l ≤ 1
once_at_most l once n =
    ⊎_elim (λ (below : n < l.given). let one = once.each n below in omega arith) (λ (above : l.given ≤ n). let none = once.no_other n above in omega arith)
    (cases_lt n l.given)

-- ## What a step leaves standing

no_end_replaces : (w : World) (s : Step) (answers : List PollerAnswer) → ends_round w s answers ≡ true → replaced_places w s ≡ []
no_end_replaces w step.Finish answers ends = refl
no_end_replaces w step.React answers ends = refl
no_end_replaces w _ answers ends = absurd cc

-- what was replaced stands no longer: it was woken
replaced_is_gone : (w : World) (s : Step) (answers : List PollerAnswer) (before after : Storings) (f : StoringsFollow w s answers before after)
    → EachInOneList after → (x : Stored) → Contains after.standing x → Contains f.replaced_now x → ⊥
replaced_is_gone w s answers before after f once x here gone =
    ⊎_elim
    (λ (ends : ends_round w s answers ≡ true).
    let none : f.replaced_now ≡ [] = f.replaced ∙ ap (λ places. cond (stores w s answers) (standing_in places before.standing) []) (no_end_replaces w s answers ends)
    ∙ cond_both (stores w s answers) [] [] (λ (stored : List Stored). stored ≡ []) (λ does. refl) (λ never. refl) in
    none_is_in x (subst (λ xs. Contains xs x) none gone))
    (λ (on : ends_round w s answers ≡ false).
    let woken = ap (times x.number) (ap (flat_map (λ (stored : List Stored). stored)) (f.goes_on on).0 ∙ woken_all before.woken f.replaced_now) in
    let joined = times-append x.number (flat_map (λ (stored : List Stored). stored) before.woken) f.replaced_now in
    let there = counted f.replaced_now x gone in
    let standing = counted after.standing x here in
    let once = once_at_most after once x.number in
    absurd (omega arith))
    (cases_Bool (ends_round w s answers))

-- of two lists of storings that a step may leave, what stands in the first stands in the second
stands_too : (w : World) (s : Step) (answers : List PollerAnswer) (before a b : Storings) → StoringsFollow w s answers before a
    → StoringsFollow w s answers before b → EachInOneList a → (x : Stored) → Contains a.standing x → Contains b.standing x
stands_too w s answers before a b f g once x here =
    let new : Contains f.stored_now x → Contains b.standing x = λ now. g.stores_it x (subst (λ xs. Contains xs x) (f.stored ∙ sym g.stored) now) in
    let given_up : Contains g.given_up_now x → Contains b.standing x = λ gone.
    ⊎_elim (λ (gives : gives_up w s answers ≡ true). new (f.cleared gives x here (g.given_up x gone).1))
    (λ (none : gives_up w s answers ≡ false). none_is_in x (subst (λ xs. Contains xs x) (g.keeps none) gone))
    (cases_Bool (gives_up w s answers)) in
    ⊎_elim
    (λ (old : Contains before.standing x).
    ⊎_elim (λ (stays : Contains b.standing x). stays)
    (λ (gone : Contains (g.replaced_now ++ g.taken_now ++ g.given_up_now) x).
    ⊎_elim
    (λ (left : Contains (g.replaced_now ++ g.taken_now) x).
    ⊎_elim
    (λ (replaced : Contains g.replaced_now x).
    absurd (replaced_is_gone w s answers before a f once x here (subst (λ xs. Contains xs x) (g.replaced ∙ sym f.replaced) replaced)))
    (λ (taken : Contains g.taken_now x).
    absurd (f.emptied x here (stood_in (taken_places w s answers) before.standing x (subst (λ xs. Contains xs x) g.taken taken)).1))
    (Contains-append_cases g.replaced_now g.taken_now x left))
    given_up
    (Contains-append_cases (g.replaced_now ++ g.taken_now) g.given_up_now x gone))
    (g.stood x old))
    new
    (f.stands x here)

-- and both have woken and taken the same
woken_too : (w : World) (s : Step) (answers : List PollerAnswer) (before a b : Storings) → StoringsFollow w s answers before a
    → StoringsFollow w s answers before b → a.woken ≡ b.woken
woken_too w s answers before a b f g =
    ⊎_elim
    (λ (ends : ends_round w s answers ≡ true).
    (f.ends ends).0 ∙ ap (λ now. before.woken ++ (before.taken ++ now) ∷ []) (f.taken ∙ sym g.taken) ∙ sym (g.ends ends).0)
    (λ (on : ends_round w s answers ≡ false).
    (f.goes_on on).0 ∙ ap (λ now. before.woken ++ now ∷ []) (f.replaced ∙ sym g.replaced) ∙ sym (g.goes_on on).0)
    (cases_Bool (ends_round w s answers))

taken_too : (w : World) (s : Step) (answers : List PollerAnswer) (before a b : Storings) → StoringsFollow w s answers before a
    → StoringsFollow w s answers before b → a.taken ≡ b.taken
taken_too w s answers before a b f g =
    ⊎_elim (λ (ends : ends_round w s answers ≡ true). (f.ends ends).1 ∙ sym (g.ends ends).1)
    (λ (on : ends_round w s answers ≡ false).
    (f.goes_on on).1 ∙ ap (λ now. before.taken ++ now) (f.taken ∙ sym g.taken) ∙ sym (g.goes_on on).1)
    (cases_Bool (ends_round w s answers))

-- ## What stands at a place

only : (y x : Stored) → Contains (y ∷ []) x → y ≡ x
only y x among = ⊎_elim (λ (same : y ≡ x). same) (λ (none : Contains [] x). none_is_in x none) (among_cases y [] x among)

twice : (x : Stored) (xs : List Stored) → 1 ≤ times x.number xs → times x.number (x ∷ xs) ≤ 1 → ⊥
twice x xs again one = let here = one_more (x.number == x.number) (times x.number xs) (eq-eqb x.number x.number refl) in absurd (omega arith)

-- two lists with the same storings, where no number is in the first twice and the second has one at most
one_alike : (xs ys : List Stored) (o : Option Waker) → wakers ys ≡ option_to_list o → ((x : Stored) → Contains xs x → Contains ys x)
    → ((x : Stored) → Contains ys x → Contains xs x) → ((n : ℕ) → times n xs ≤ 1) → xs ≡ ys
one_alike [] [] o few to from once = refl
one_alike (x ∷ xs) [] o few to from once = none_is_in x (to x (first_is_in x xs))
one_alike [] (y ∷ ys) o few to from once = none_is_in y (from y (first_is_in y ys))
one_alike (x ∷ []) (y ∷ []) o few to from once = ap (λ (s : Stored). s ∷ []) (sym (only y x (to x (first_is_in x []))))
one_alike (x ∷ z ∷ xs) (y ∷ []) o few to from once =
    let first = only y x (to x (first_is_in x (z ∷ xs))) in
    let second = only y z (to z (later_is_in x (z ∷ xs) z (first_is_in z xs))) in
    let again = counted (z ∷ xs) x (subst (Contains (z ∷ xs)) (sym second ∙ first) (first_is_in z xs)) in
    let one = once x.number in
    absurd (twice x (z ∷ xs) again one)
one_alike (x ∷ xs) (y ∷ z ∷ ys) None few to from once = absurd cc
one_alike (x ∷ xs) (y ∷ z ∷ ys) (Some waker) few to from once = let long = ap length few in absurd cc

standing_alike : (a b : Storings) (o : Option Waker) (p : Place) → EachInOneList a → wakers (standing_at p b.standing) ≡ option_to_list o
    → ((x : Stored) → Contains a.standing x → Contains b.standing x) → ((x : Stored) → Contains b.standing x → Contains a.standing x)
    → standing_at p a.standing ≡ standing_at p b.standing
standing_alike a b o p once few to from =
    let at : Stored → Bool = λ (s : Stored). same_place p s.place in
    one_alike (standing_at p a.standing) (standing_at p b.standing) o few
    (λ x here. passing_is_kept at b.standing x (filtered_passes at a.standing x here) (to x (filtered_is_in at a.standing x here)))
    (λ x here. passing_is_kept at a.standing x (filtered_passes at b.standing x here) (from x (filtered_is_in at b.standing x here)))
    (λ n. let parted = times-parted n p a.standing in let one = once_at_most a once n in omega arith)

-- ## A step

orders_of : (w : World) → NoDoubles w → Orders (holding_of w)
orders_of w distinct = record {
  numbers_differ = differ_apart (λ (l : ListenerEntry). l.number) w.listeners distinct.listeners;
  numbers_drawn = λ l among. All-contains (λ (l : ListenerEntry). l.number ≤ w.listeners_drawn) w.listeners l distinct.listeners_drawn among;
  ids_differ = differ_apart (λ (r : Registration). r.id) w.registrations distinct.registrations;
  ids_drawn = λ r among. All-contains (λ (r : Registration). r.id ≤ w.ids_drawn) w.registrations r distinct.ids_drawn among;
}

-- storings of a world stand between two steps
pub between_steps : (w : World) (l : Storings) → NoDoubles w → EachInOneList l → AreOf w l → Between w l
between_steps w l distinct once are = record {
  kept = record { each = once.each; no_other = once.no_other; stands = λ p. are.stands p ∙ ap option_to_list (waker_at-held w p) };
  orders = orders_of w distinct;
  taken_is = are.round;
  waking_is = ap wakers once.at_rest;
  woken_is = refl;
}

pub wakes_follow : (w : World) (s : PolledStep) → WakesFollow w s.step s.answers (outcome_of w s).wakes (outcome_of w s).world
wakes_follow w s distinct before after once are f last =
    let v = (outcome_of w s).world in
    let m = after_step w s before in
    let between = between_steps w before distinct once are in
    let y = step_stands w s before between in
    let g : StoringsFollow w s.step s.answers before m = step_follows w s.step s.answers before once.at_rest in
    let m_once : EachInOneList m = record { each = y.kept.each; no_other = y.kept.no_other; at_rest = refl } in
    record {
      are = record {
        stands = λ p.
            ap wakers (standing_alike after m (held (holding_of v) p) p last (y.kept.stands p) (stands_too w s.step s.answers before after m f g last)
            (stands_too w s.step s.answers before m after g f m_once))
            ∙ y.kept.stands p ∙ sym (ap option_to_list (waker_at-held v p));
        round = ap wakers (taken_too w s.step s.answers before after m f g) ∙ y.taken_is;
      };
      woke = ap (map wakers) (woken_too w s.step s.answers before after m f g) ∙ step_wakes w s before between;
    }

-- ## No other outcome

the_wakes : (a b : List Waker) → a ∷ [] ≡ b ∷ [] → a ≡ b
the_wakes a b same = cc

one_waker : (a b : Option Waker) → option_to_list a ≡ option_to_list b → a ≡ b
one_waker None None same = refl
one_waker (Some a) (Some b) same = cc
one_waker None (Some b) same = absurd cc
one_waker (Some a) None same = absurd cc

pub only_these : (w : World) (s : PolledStep) (wakes : List Waker) (v : World) → NoDoubles w → WakesFollow w s.step s.answers wakes v
    → WokeTheSame (outcome_of w s).wakes (outcome_of w s).world wakes v
only_these w s wakes v distinct follows =
    let l = storings_held w in
    let m = after_step w s l in
    let are = held_are_of w distinct in
    let once = held_once w in
    let y = step_stands w s l (between_steps w l distinct once are) in
    let g : StoringsFollow w s.step s.answers l m = step_follows w s.step s.answers l refl in
    let m_once : EachInOneList m = record { each = y.kept.each; no_other = y.kept.no_other; at_rest = refl } in
    let told = follows distinct l m once are g m_once in
    let machine = wakes_follow w s distinct l m once are g m_once in
    record {
      wakes = the_wakes wakes (outcome_of w s).wakes (sym told.woke ∙ machine.woke);
      held = λ p. one_waker (waker_at v p) (waker_at (outcome_of w s).world p) (sym (told.are.stands p) ∙ machine.are.stands p);
      taken = sym told.are.round ∙ machine.are.round;
    }

-- the numbers and ids of the world differ after a step, and were drawn
pub step_orders : (w : World) (s : PolledStep) → NoDoubles w → Orders (holding_of (outcome_of w s).world)
step_orders w s distinct =
    (step_stands w s (storings_held w) (between_steps w (storings_held w) distinct (held_once w) (held_are_of w distinct))).orders
