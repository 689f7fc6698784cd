-- The storings where a listener comes, is polled and goes.
use Rattle.std.proofs.Common.{◌≡◌, ℕ, ◌+◌, ◌≤◌, Bool, true, false, not, cond, ◌==◌, ◌||◌, if◌then◌else◌, List, [], ◌∷◌, ◌++◌, map, find, Option, None, Some, option_map, is_some, unwrap_or, refl, ap, ◌∙◌, sym, subst, arith, ⊎_elim}
use Rattle.std.specs.Prelude.{option_and_then}
use Rattle.std.specs.List.{Contains}
use Rattle.std.proofs.lemmas.Bool.{eqb-true, eqb-false, eq-eqb, ne_eqb, not-true}
use Rattle.std.proofs.lemmas.List.Elements.{Contains-push_cases}
use Rattle.aio_base.specs.declared.names.Waker.{Waker}
use Rattle.aio_base.specs.declared.names.Dir.{Dir}
use Rattle.aio_base.specs.World.{PollerAnswer, ListenerEntry, World, key_of, is_idle, is_broken}
use Rattle.aio_base.specs.Machine.{is_fresh_since, new_listener, is_listener, without_listener, with_listening, step_listener, drop_listener}
use Rattle.aio_laws.specs.Storings.{Place, OfPoll, OfListener, OfTimer, Stored, Storings, stored_at, given_up_at, listener_moves, drop_moves}
use Rattle.aio_base.proofs.Membership.{filtered_is_in, filtered_passes, mapped_from, found_is_in}
use Rattle.aio_base.proofs.Searching.{false_unless, nothing_found, mapped_found, without_found, last_found}
use Rattle.aio_laws.proofs.storings.Places.{emptied, filled}
use Rattle.aio_laws.proofs.storings.Kept.{held_same, give_up_kept, store_kept}
use Rattle.aio_laws.proofs.runs.Apart.{filtered_apart, mapped_apart, pushed_apart}
use Rattle.aio_laws.proofs.storings.Holding.{Holding, holding_of, held, Orders, Stands, Leaves, quiet_leaves, either}
use Rattle.aio_laws.proofs.storings.HeldPolls.{pending_leaves, now_free}
use Rattle.aio_laws.proofs.storings.HeldTicks.{give_up_stands}

-- what a listener that was found holds
abbrev holds : Option ListenerEntry → Option Waker
holds o = option_and_then (λ (l : ListenerEntry). l.waker) o

holds_none : (b : Bool) (o : Option ListenerEntry) → holds (cond b None o) ≡ cond b None (holds o)
holds_none true o = refl
holds_none false o = refl

-- ## A new listener

abbrev newcomer : Holding → ℕ → Dir → ListenerEntry
newcomer h serial dir = record { number = h.drawn + 1; serial = serial; dir = dir; position = None; waker = None }

abbrev with_newcomer : Holding → ℕ → Dir → Holding
with_newcomer h serial dir = record h { listeners = h.listeners ++ newcomer h serial dir ∷ []; drawn = h.drawn + 1 }

newcomer_step : (b : Bool) (l : ListenerEntry) (o : Option ListenerEntry) → l.waker ≡ None → (b ≡ true → o ≡ None) → holds (cond b (Some l) o) ≡ holds o
newcomer_step true l o silent free = silent ∙ sym (ap holds (free refl))
newcomer_step false l o silent free = refl

newcomer_free : (h : Holding) → Orders h → (n : ℕ) → n ≡ h.drawn + 1 → find (is_listener n) h.listeners ≡ None
newcomer_free h o n e =
    nothing_found (is_listener n) h.listeners
    (λ l among. ne_eqb l.number n (λ (same : l.number ≡ n). let drawn = o.numbers_drawn l among in absurd (omega arith)))

newcomer_held : (h : Holding) (serial : ℕ) (dir : Dir) → Orders h → (q : Place) → held (with_newcomer h serial dir) q ≡ held h q
newcomer_held h serial dir o (OfPoll n d) = refl
newcomer_held h serial dir o (OfTimer id) = refl
newcomer_held h serial dir o (OfListener n) =
    ap holds (last_found (λ (l : ListenerEntry). l.number) (newcomer h serial dir) n h.listeners (newcomer_free h o n))
    ∙ newcomer_step (n == h.drawn + 1) (newcomer h serial dir) (find (is_listener n) h.listeners) refl
    (λ same. newcomer_free h o n (eqb-true n (h.drawn + 1) same))

newcomer_orders : (h : Holding) (serial : ℕ) (dir : Dir) → Orders h → Orders (with_newcomer h serial dir)
newcomer_orders h serial dir o =
    let new = newcomer h serial dir in
    record {
      numbers_differ = pushed_apart (λ (l : ListenerEntry). l.number) h.listeners new o.numbers_differ
          (λ l among. λ (e : l.number ≡ h.drawn + 1). let drawn = o.numbers_drawn l among in absurd (omega arith));
      numbers_drawn = λ l among.
          ⊎_elim
          (λ (old : Contains h.listeners l). let drawn = o.numbers_drawn l old in omega arith)
          (λ (same : new ≡ l). let e : h.drawn + 1 ≡ l.number = ap (λ (l : ListenerEntry). l.number) same in omega arith)
          (Contains-push_cases h.listeners new l among);
      ids_differ = o.ids_differ;
      ids_drawn = o.ids_drawn;
    }

newcomer_stands : (h : Holding) (woken : List (List Stored)) (l : Storings) (serial : ℕ) (dir : Dir) → Stands h [] woken l
    → Stands (with_newcomer h serial dir) [] woken l
newcomer_stands h woken l serial dir s = record {
  kept = held_same (held h) (held (with_newcomer h serial dir)) l (newcomer_held h serial dir s.orders) s.kept;
  orders = newcomer_orders h serial dir s.orders;
  taken_is = s.taken_is;
  waking_is = s.waking_is;
  woken_is = s.woken_is;
}

pub new_leaves : (w : World) (woken : List (List Stored)) (l : Storings) (dir : Dir) (serial : Option ℕ) (answers : List PollerAnswer)
    → Stands (holding_of w) [] woken l → Leaves woken l (new_listener w dir serial answers)
new_leaves w woken l dir None answers s = quiet_leaves w woken l _ answers s
new_leaves w woken l dir (Some serial) answers s = record { stands = newcomer_stands (holding_of w) woken l serial dir s }

-- ## A listener is polled

-- the listener with a waker, at its place
abbrev again : ListenerEntry → Waker → List ListenerEntry → List ListenerEntry
again entry waker listeners = map (λ (l : ListenerEntry). if is_listener entry.number l then record l { waker = Some waker } else l) listeners

-- or at the end, with its first position
abbrev moved : ListenerEntry → ℕ → Waker → List ListenerEntry → List ListenerEntry
moved entry position waker listeners = without_listener listeners entry.number ++ record entry { position = Some position; waker = Some waker } ∷ []

-- the listeners hold what they held, and this one the waker
abbrev Refilled : ListenerEntry → Waker → List ListenerEntry → List ListenerEntry → Type 0
Refilled entry waker before after = (n : ℕ) → holds (find (is_listener n) after)
    ≡ cond (n == entry.number) (Some waker) (cond (n == entry.number) None (holds (find (is_listener n) before)))

again_number : (b : Bool) (l : ListenerEntry) (waker : Waker) → (let m : ListenerEntry = cond b (record l { waker = Some waker }) l in m.number) ≡ l.number
again_number true l waker = refl
again_number false l waker = refl

again_step : (entry : ListenerEntry) (waker : Waker) (n : ℕ) (here : Bool) (o : Option ListenerEntry) → (n == entry.number) ≡ here
    → (o ≡ None → here ≡ false) → ((l : ListenerEntry) → o ≡ Some l → l.number ≡ n)
    → holds (option_map (λ (l : ListenerEntry). if is_listener entry.number l then record l { waker = Some waker } else l) o)
    ≡ cond here (Some waker) (cond here None (holds o))
again_step entry waker n true None same there number = let wrong = there refl in absurd (cc)
again_step entry waker n false None same there number = refl
again_step entry waker n true (Some l) same there number =
    let e : (l.number == entry.number) ≡ true = ap (λ k. k == entry.number) (number l refl) ∙ same in rw e refl
again_step entry waker n false (Some l) same there number =
    let e : (l.number == entry.number) ≡ false = ap (λ k. k == entry.number) (number l refl) ∙ same in rw e refl

again_refills : (entry : ListenerEntry) (waker : Waker) (listeners : List ListenerEntry) → find (is_listener entry.number) listeners ≡ Some entry
    → Refilled entry waker listeners (again entry waker listeners)
again_refills entry waker listeners found n =
    ap holds (mapped_found (λ (l : ListenerEntry). if is_listener entry.number l then record l { waker = Some waker } else l) (is_listener n) (is_listener n)
    (λ l. ap (λ k. k == n) (again_number (is_listener entry.number l) l waker)) listeners)
    ∙ again_step entry waker n (n == entry.number) (find (is_listener n) listeners) refl
    (λ none. false_unless (n == entry.number) (λ same.
    let there : find (is_listener n) listeners ≡ Some entry = ap (λ k. find (is_listener k) listeners) (eqb-true n entry.number same) ∙ found in
    let wrong : ◌≡◌ {A = Option ListenerEntry} None (Some entry) = sym none ∙ there in cc))
    (λ l at. eqb-true l.number n (found_is_in (is_listener n) listeners l at).1)

moved_step : (b : Bool) (l : ListenerEntry) (waker : Waker) (o : Option ListenerEntry) → l.waker ≡ Some waker
    → holds (cond b (Some l) (cond b None o)) ≡ cond b (Some waker) (cond b None (holds o))
moved_step true l waker o e = e
moved_step false l waker o e = refl

moved_refills : (entry : ListenerEntry) (position : ℕ) (waker : Waker) (listeners : List ListenerEntry)
    → Refilled entry waker listeners (moved entry position waker listeners)
moved_refills entry position waker listeners n =
    let now : ListenerEntry = record entry { position = Some position; waker = Some waker } in
    let gone = without_found (λ (l : ListenerEntry). l.number) entry.number n listeners in
    ap holds
    (last_found (λ (l : ListenerEntry). l.number) now n (without_listener listeners entry.number)
    (λ (e : n ≡ entry.number). gone ∙ ap (λ b. cond b None (find (is_listener n) listeners)) (eq-eqb n entry.number e))
    ∙ ap (λ o. cond (n == entry.number) (Some now) o) gone)
    ∙ moved_step (n == entry.number) now waker (find (is_listener n) listeners) refl

either_refills : (entry : ListenerEntry) (waker : Waker) (before x y : List ListenerEntry) (test : Bool) → Refilled entry waker before x → Refilled entry waker before y
    → Refilled entry waker before (cond test x y)
either_refills entry waker before x y true first second = first
either_refills entry waker before x y false first second = second

refilled_held : (h : Holding) (entry : ListenerEntry) (waker : Waker) (listeners : List ListenerEntry) → Refilled entry waker h.listeners listeners → (q : Place)
    → held (record h { listeners = listeners }) q ≡ filled (OfListener entry.number) waker (emptied (OfListener entry.number) (held h)) q
refilled_held h entry waker listeners refilled (OfPoll n d) = refl
refilled_held h entry waker listeners refilled (OfTimer id) = refl
refilled_held h entry waker listeners refilled (OfListener n) = refilled n

again_orders : (h : Holding) (entry : ListenerEntry) (waker : Waker) → Orders h → Orders (record h { listeners = again entry waker h.listeners })
again_orders h entry waker o =
    let f : ListenerEntry → ListenerEntry = λ l. if is_listener entry.number l then record l { waker = Some waker } else l in
    let same : (l : ListenerEntry) → (f l).number ≡ l.number = λ l. again_number (is_listener entry.number l) l waker in
    record {
      numbers_differ = mapped_apart (λ (l : ListenerEntry). l.number) f same h.listeners o.numbers_differ;
      numbers_drawn = λ l among.
          let image = mapped_from f h.listeners l among in
          subst (λ n. n ≤ h.drawn) (sym (same image.0) ∙ ap (λ (l : ListenerEntry). l.number) image.2) (o.numbers_drawn image.0 image.1);
      ids_differ = o.ids_differ;
      ids_drawn = o.ids_drawn;
    }

without_orders : (h : Holding) (number : ℕ) → Orders h → Orders (record h { listeners = without_listener h.listeners number })
without_orders h number o = record {
  numbers_differ = filtered_apart (λ (l : ListenerEntry). l.number) (λ l. not (is_listener number l)) h.listeners o.numbers_differ;
  numbers_drawn = λ l among. o.numbers_drawn l (filtered_is_in (λ l. not (is_listener number l)) h.listeners l among);
  ids_differ = o.ids_differ;
  ids_drawn = o.ids_drawn;
}

moved_orders : (h : Holding) (entry : ListenerEntry) (position : ℕ) (waker : Waker) → Contains h.listeners entry → Orders h
    → Orders (record h { listeners = moved entry position waker h.listeners })
moved_orders h entry position waker here o =
    let now : ListenerEntry = record entry { position = Some position; waker = Some waker } in
    let rest = without_listener h.listeners entry.number in
    let kept = without_orders h entry.number o in
    record {
      numbers_differ = pushed_apart (λ (l : ListenerEntry). l.number) rest now kept.numbers_differ
          (λ l among. eqb-false l.number entry.number
          (not-true (l.number == entry.number) (filtered_passes (λ l. not (is_listener entry.number l)) h.listeners l among)));
      numbers_drawn = λ l among.
          ⊎_elim
          (λ (old : Contains rest l). kept.numbers_drawn l old)
          (λ (same : now ≡ l). subst (λ n. n ≤ h.drawn) (ap (λ (l : ListenerEntry). l.number) same) (o.numbers_drawn entry here))
          (Contains-push_cases rest now l among);
      ids_differ = o.ids_differ;
      ids_drawn = o.ids_drawn;
    }

either_orders : (h : Holding) (x y : List ListenerEntry) (test : Bool) → Orders (record h { listeners = x }) → Orders (record h { listeners = y })
    → Orders (record h { listeners = cond test x y })
either_orders h x y true first second = first
either_orders h x y false first second = second

listened_stands : (w : World) (woken : List (List Stored)) (l : Storings) (entry : ListenerEntry) (waker : Waker)
    → find (is_listener entry.number) w.listeners ≡ Some entry → Stands (holding_of w) [] woken l
    → Stands (record (holding_of w) { listeners = with_listening w entry waker }) [] woken
    (stored_at (OfListener entry.number) waker (given_up_at (OfListener entry.number) l))
listened_stands w woken l entry waker found s =
    let h = holding_of w in
    let p = OfListener entry.number in
    let refilled = either_refills entry waker w.listeners _ _ (is_some entry.position) (again_refills entry waker w.listeners found)
    (moved_refills entry w.pos waker w.listeners) in
    record {
      kept = held_same (filled p waker (emptied p (held h))) (held (record h { listeners = with_listening w entry waker })) _
          (refilled_held h entry waker (with_listening w entry waker) refilled)
          (store_kept (emptied p (held h)) p waker (given_up_at p l) (now_free p (held h)) (give_up_kept (held h) p l s.kept));
      orders = either_orders h _ _ (is_some entry.position) (again_orders h entry waker s.orders)
          (moved_orders h entry w.pos waker (found_is_in (is_listener entry.number) w.listeners entry found).0 s.orders);
      taken_is = s.taken_is;
      waking_is = s.waking_is;
      woken_is = s.woken_is;
    }

-- a listener that is found by a number has it
found_by : (w : World) (number : ℕ) (entry : ListenerEntry) → find (is_listener number) w.listeners ≡ Some entry → entry.number ≡ number
found_by w number entry found = eqb-true entry.number number (found_is_in (is_listener number) w.listeners entry found).1

pub step_leaves : (w : World) (woken : List (List Stored)) (l : Storings) (number : ℕ) (waker : Waker) (entry : Option ListenerEntry) (answers : List PollerAnswer)
    → find (is_listener number) w.listeners ≡ entry → Stands (holding_of w) [] woken l
    → Leaves woken (listener_moves w waker entry l) (step_listener w waker entry answers)
step_leaves w woken l number waker None answers found s = quiet_leaves w woken l _ answers s
step_leaves w woken l number waker (Some entry) answers found s =
    let own = ap (λ n. find (is_listener n) w.listeners) (found_by w number entry found) ∙ found in
    either woken (is_fresh_since w entry.serial entry.dir entry.position) _ _ _ _
    (λ fresh. quiet_leaves w woken l _ answers s)
    (λ stale. pending_leaves (is_idle w entry.serial entry.dir || is_broken w entry.serial) (record w { listeners = with_listening w entry waker }) woken _
    (unwrap_or (key_of w entry.serial) 0) entry.serial [] answers (listened_stands w woken l entry waker own s))

-- ## A listener goes

without_held : (h : Holding) (number : ℕ) (q : Place) → held (record h { listeners = without_listener h.listeners number }) q ≡ emptied (OfListener number) (held h) q
without_held h number (OfPoll n d) = refl
without_held h number (OfTimer id) = refl
without_held h number (OfListener n) =
    ap holds (without_found (λ (l : ListenerEntry). l.number) number n h.listeners) ∙ holds_none (n == number) (find (is_listener n) h.listeners)

pub drop_leaves : (w : World) (woken : List (List Stored)) (l : Storings) (number : ℕ) (entry : Option ListenerEntry) (answers : List PollerAnswer)
    → find (is_listener number) w.listeners ≡ entry → Stands (holding_of w) [] woken l
    → Leaves woken (drop_moves entry l) (drop_listener w number entry answers)
drop_leaves w woken l number None answers found s = quiet_leaves w woken l _ answers s
drop_leaves w woken l number (Some entry) answers found s =
    let h = holding_of w in
    let now : Holding = record h { listeners = without_listener w.listeners number } in
    record {
      stands = subst (λ n. Stands now [] woken (given_up_at (OfListener n) l)) (sym (found_by w number entry found))
          (give_up_stands (OfListener number) h now [] woken l (without_held h number) (without_orders h number) refl s);
    }
