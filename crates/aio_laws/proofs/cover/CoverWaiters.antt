-- Cover stands where a task polls a source and where a listener comes, is polled and goes.
use Rattle.std.proofs.Common.{◌≡◌, ◌⊎◌, ℕ, ◌+◌, Bool, true, false, not, cond, ◌||◌, if◌then◌else◌, List, [], ◌∷◌, ◌++◌, map, find, Option, None, Some, is_some, option_to_list, unwrap_or, refl, ap, ◌∙◌, subst, sym, inl, inr, ⊎_elim, arith}
use Rattle.std.specs.List.{Contains}
use Rattle.std.proofs.lemmas.Bool.{eqb-true, or_parts}
use Rattle.std.proofs.lemmas.List.Elements.{Contains-push_cases}
use Rattle.aio_base.specs.declared.names.Dir.{Dir}
use Rattle.aio_base.specs.declared.names.Waker.{Waker}
use Rattle.aio_base.specs.declared.steps.Answer.{Answer}
use Rattle.aio_base.specs.declared.steps.Answer.TheVariants as answer
use Rattle.aio_base.specs.World.{PollerAnswer, PollWaiter, ListenerEntry, World, is_of, serial_of, key_of, poll_waiter, without_waiter, mark_of, is_idle, is_broken}
use Rattle.aio_base.specs.Machine.{fails, next_answer, pending, is_fresh_since, is_waker, with_waiter, poll_source, new_listener, is_listener, without_listener, with_listening, step_listener, drop_listener}
use Rattle.aio_laws.specs.Covered.{tells_arm_fault}
use Rattle.aio_base.proofs.Membership.{filtered_is_in, mapped_from, found_is_in}
use Rattle.aio_base.proofs.WaiterLemmas.{Wants, Polls, Listens, source, serial_of-live, key_of-live, busy_wants}
use Rattle.aio_laws.proofs.cover.Standing.{Parts, parts_of, Ordered, Standing, StandingBut, all_but, weaker, holds_in, arm_stands}
use Rattle.aio_laws.proofs.cover.Rewaiting.{Comes, stays_listening, Rewaits, rewaiting, rewaits_stands, rewaits_all_but}
use Rattle.aio_laws.proofs.cover.CoverSources.{Stands, either, at_rest, quiet_stands}

-- ## Arming what stays pending

fault_told : (failed : Bool) → failed ≡ true → tells_arm_fault (if failed then answer.FaultArm else answer.Pending) ≡ true
fault_told true e = refl
fault_told false e = absurd cc

pending_stands : (told : List Answer) (test : Bool) (v : World) (key serial : ℕ) (wakes : List Waker) (answers : List PollerAnswer)
    → (test ≡ false → Standing (parts_of v) told ⊥) → StandingBut (parts_of v) told ⊥ key serial → Stands told (pending test v key serial wakes answers)
pending_stands told false v key serial wakes answers calm but = record { stands = at_rest v told _ (calm refl) }
pending_stands told true v key serial wakes answers calm but = record {
  stands = arm_stands v told ⊥ _ key serial (next_answer answers) (λ never. absurd never) (fault_told (fails (next_answer answers))) but;
}

-- ## A task polls a source

-- the direction for which a waker is stored
abbrev At : ℕ → Dir → ℕ → Dir → Type 0
At serial dir n d = (n ≡ serial) × (d ≡ dir)

polled_rewaits : (p : Parts) (key serial : ℕ) (dir : Dir) (waker : Waker) → Contains p.live (source key serial)
    → Rewaits p (without_waiter p.polls serial dir ++ record { serial = serial; dir = dir; waker = waker } ∷ []) p.listeners (At serial dir)
polled_rewaits p key serial dir waker here = record {
  stored_live = λ n d stored. (key, subst (λ x. Contains p.live (source key x)) (sym stored.0) here);
  polls_from = λ q among.
      ⊎_elim
      (λ (kept : Contains (without_waiter p.polls serial dir) q). inr (filtered_is_in (λ (q : PollWaiter). not (is_of serial dir q.serial q.dir)) p.polls q kept))
      (λ (new : record { serial = serial; dir = dir; waker = waker } ≡ q).
      inl (sym (ap (λ (x : PollWaiter). x.serial) new), sym (ap (λ (x : PollWaiter). x.dir) new)))
      (Contains-push_cases (without_waiter p.polls serial dir) (record { serial = serial; dir = dir; waker = waker }) q among);
  listeners_from = λ l among. stays_listening p.listeners (At serial dir) l among;
}

-- where a direction has a waiter, so it has at one more
waited_at : (w : World) (serial : ℕ) (dir : Dir) → is_idle w serial dir ≡ false → (n : ℕ) (d : Dir) → At serial dir n d → Wants w.poll_waiters w.listeners n d
waited_at w serial dir busy n d at = subst (λ x. Wants w.poll_waiters w.listeners x d) (sym at.0)
    (subst (λ x. Wants w.poll_waiters w.listeners serial x) (sym at.1) (busy_wants w serial dir busy))

stored_stands : (w : World) (told : List Answer) (key serial : ℕ) (dir : Dir) (waker : Waker) (wakes : List Waker) (answers : List PollerAnswer)
    → Contains w.live (source key serial) → Standing (parts_of w) told ⊥
    → Stands told (pending (is_idle w serial dir || is_broken w serial) (with_waiter w serial dir waker) key serial wakes answers)
stored_stands w told key serial dir waker wakes answers here s =
    let p = parts_of w in
    let polls = without_waiter p.polls serial dir ++ record { serial = serial; dir = dir; waker = waker } ∷ [] in
    let rewaits = polled_rewaits p key serial dir waker here in
    pending_stands told (is_idle w serial dir || is_broken w serial) (with_waiter w serial dir waker) key serial wakes answers
    (λ calm. rewaits_stands p told ⊥ polls p.listeners (At serial dir) rewaits
    (waited_at w serial dir (or_parts (is_idle w serial dir) (is_broken w serial) calm).0) s)
    (rewaits_all_but p told ⊥ polls p.listeners (At serial dir) key serial rewaits (λ n d at. at.0) (all_but p told ⊥ key serial s here))

pub poll_stands : (w : World) (told : List Answer) (key : ℕ) (dir : Dir) (waker : Waker) (serial : Option ℕ) (answers : List PollerAnswer)
    → serial_of w key ≡ serial → Standing (parts_of w) told ⊥ → Stands told (poll_source w key dir waker serial answers)
poll_stands w told key dir waker None answers named s = quiet_stands w told _ answers s
poll_stands w told key dir waker (Some serial) answers named s =
    let here = serial_of-live w key serial named in
    either told (is_fresh_since w serial dir (mark_of w.marks serial dir)) _ _ (λ fresh. record { stands = at_rest w told _ s })
    (λ stale. either told (is_waker waker (poll_waiter w.poll_waiters serial dir)) _ _
    (λ again. pending_stands told (is_broken w serial) w key serial [] answers (λ calm. s) (all_but (parts_of w) told ⊥ key serial s here))
    (λ other. stored_stands w told key serial dir waker (option_to_list (poll_waiter w.poll_waiters serial dir)) answers here s))

-- ## A new listener

-- the parts with a new listener that holds no waker
abbrev listening : Parts → ℕ → Dir → Parts
listening p serial dir = record p {
  listeners = p.listeners ++ record { number = p.drawn + 1; serial = serial; dir = dir; position = None; waker = None } ∷ [];
  drawn = p.drawn + 1;
}

abbrev newcomer : Parts → ℕ → Dir → ListenerEntry
newcomer p serial dir = record { number = p.drawn + 1; serial = serial; dir = dir; position = None; waker = None }

listener_cases : (p : Parts) (serial : ℕ) (dir : Dir) (l : ListenerEntry) → Contains (listening p serial dir).listeners l
    → Contains p.listeners l ⊎ (newcomer p serial dir ≡ l)
listener_cases p serial dir l among = Contains-push_cases p.listeners (newcomer p serial dir) l among

numbers_still : (p : Parts) (serial : ℕ) (dir : Dir) → Ordered p → (a b : ListenerEntry) → Contains (listening p serial dir).listeners a
    → Contains (listening p serial dir).listeners b → a.number ≡ b.number → (a.serial ≡ b.serial) × (a.dir ≡ b.dir)
numbers_still p serial dir o a b first second same =
    ⊎_elim
    (λ (old : Contains p.listeners a).
    ⊎_elim
    (λ (other : Contains p.listeners b). o.numbers_differ a b old other same)
    (λ (new : newcomer p serial dir ≡ b).
    let drawn = o.numbers_drawn a old in let e : p.drawn + 1 ≡ b.number = ap (λ (x : ListenerEntry). x.number) new in absurd (omega arith))
    (listener_cases p serial dir b second))
    (λ (new : newcomer p serial dir ≡ a).
    ⊎_elim
    (λ (other : Contains p.listeners b).
    let drawn = o.numbers_drawn b other in let e : p.drawn + 1 ≡ a.number = ap (λ (x : ListenerEntry). x.number) new in absurd (omega arith))
    (λ (also : newcomer p serial dir ≡ b). (
      sym (ap (λ (x : ListenerEntry). x.serial) new) ∙ ap (λ (x : ListenerEntry). x.serial) also,
      sym (ap (λ (x : ListenerEntry). x.dir) new) ∙ ap (λ (x : ListenerEntry). x.dir) also,
    ))
    (listener_cases p serial dir b second))
    (listener_cases p serial dir a first)

listening_order : (p : Parts) (key serial : ℕ) (dir : Dir) → Contains p.live (source key serial) → Ordered p → Ordered (listening p serial dir)
listening_order p key serial dir here o = record {
  keys_differ = o.keys_differ;
  serials_differ = o.serials_differ;
  serials_given = o.serials_given;
  polls_live = o.polls_live;
  listeners_live = λ l among.
      ⊎_elim
      (λ (old : Contains p.listeners l). o.listeners_live l old)
      (λ (new : newcomer p serial dir ≡ l). (key, subst (λ x. Contains p.live (source key x)) (ap (λ (x : ListenerEntry). x.serial) new) here))
      (listener_cases p serial dir l among);
  numbers_drawn = λ l among.
      ⊎_elim
      (λ (old : Contains p.listeners l). let drawn = o.numbers_drawn l old in omega arith)
      (λ (new : newcomer p serial dir ≡ l). let e : p.drawn + 1 ≡ l.number = ap (λ (x : ListenerEntry). x.number) new in omega arith)
      (listener_cases p serial dir l among);
  numbers_differ = numbers_still p serial dir o;
}

-- who waits has waited before
listening_wants : (p : Parts) (serial : ℕ) (dir : Dir) (n : ℕ) (d : Dir) → Wants p.polls (listening p serial dir).listeners n d → Wants p.polls p.listeners n d
listening_wants p serial dir n d (Polls q among of_serial of_dir) = Polls q among of_serial of_dir
listening_wants p serial dir n d (Listens l among of_serial of_dir some) =
    ⊎_elim
    (λ (old : Contains p.listeners l). Listens l old of_serial of_dir some)
    (λ (new : newcomer p serial dir ≡ l). let none : false ≡ is_some l.waker = ap (λ (x : ListenerEntry). is_some x.waker) new in absurd cc)
    (listener_cases p serial dir l among)

listening_stands : (p : Parts) (told : List Answer) (F : Type 0) (key serial : ℕ) (dir : Dir) → Contains p.live (source key serial) → Standing p told F
    → Standing (listening p serial dir) told F
listening_stands p told F key serial dir here s = record {
  counted = s.counted;
  ordered = listening_order p key serial dir here s.ordered;
  broken_told = s.broken_told;
  covers = λ k n d lives wants.
      holds_in p (listening p serial dir) k n d (λ among. among) (λ e among same. among) (λ b among same. among)
      (s.covers k n d lives (listening_wants p serial dir n d wants));
}

pub new_stands : (w : World) (told : List Answer) (key : ℕ) (dir : Dir) (serial : Option ℕ) (answers : List PollerAnswer) → serial_of w key ≡ serial
    → Standing (parts_of w) told ⊥ → Stands told (new_listener w dir serial answers)
new_stands w told key dir None answers named s = quiet_stands w told _ answers s
new_stands w told key dir (Some serial) answers named s = record {
  stands = weaker (listening (parts_of w) serial dir) told ⊥ _ (λ never. absurd never)
      (listening_stands (parts_of w) told ⊥ key serial dir (serial_of-live w key serial named) s);
}

-- ## A listener is polled

stored_in : (entry : ListenerEntry) (waker : Waker) (before : List ListenerEntry) (x l : ListenerEntry) (here : Bool) → Contains before x
    → (here ≡ true → (x.serial ≡ entry.serial) × (x.dir ≡ entry.dir)) → cond here (record x { waker = Some waker }) x ≡ l
    → Comes before (At entry.serial entry.dir) l
stored_in entry waker before x l true among of same = record {
  from = x;
  among = among;
  number = ap (λ (y : ListenerEntry). y.number) same;
  serial = ap (λ (y : ListenerEntry). y.serial) same;
  dir = ap (λ (y : ListenerEntry). y.dir) same;
  waker = λ some. inl (sym (ap (λ (y : ListenerEntry). y.serial) same) ∙ (of refl).0, sym (ap (λ (y : ListenerEntry). y.dir) same) ∙ (of refl).1);
}
stored_in entry waker before x l false among of same = stays_listening before (At entry.serial entry.dir) l (subst (Contains before) same among)

again_comes : (w : World) (entry : ListenerEntry) (waker : Waker) → Ordered (parts_of w) → Contains w.listeners entry → (l : ListenerEntry)
    → Contains (map (λ (l : ListenerEntry). if is_listener entry.number l then record l { waker = Some waker } else l) w.listeners) l
    → Comes w.listeners (At entry.serial entry.dir) l
again_comes w entry waker o here l among =
    let image = mapped_from (λ (l : ListenerEntry). if is_listener entry.number l then record l { waker = Some waker } else l) w.listeners l among in
    stored_in entry waker w.listeners image.0 l (is_listener entry.number image.0) image.1
    (λ same. o.numbers_differ image.0 entry image.1 here (eqb-true image.0.number entry.number same)) image.2

first_comes : (w : World) (entry : ListenerEntry) (waker : Waker) → Contains w.listeners entry → (l : ListenerEntry)
    → Contains (without_listener w.listeners entry.number ++ record entry { position = Some w.pos; waker = Some waker } ∷ []) l
    → Comes w.listeners (At entry.serial entry.dir) l
first_comes w entry waker here l among =
    ⊎_elim
    (λ (kept : Contains (without_listener w.listeners entry.number) l).
    stays_listening w.listeners (At entry.serial entry.dir) l (filtered_is_in (λ l. not (is_listener entry.number l)) w.listeners l kept))
    (λ (moved : record entry { position = Some w.pos; waker = Some waker } ≡ l). record {
      from = entry;
      among = here;
      number = ap (λ (y : ListenerEntry). y.number) moved;
      serial = ap (λ (y : ListenerEntry). y.serial) moved;
      dir = ap (λ (y : ListenerEntry). y.dir) moved;
      waker = λ some. inl (sym (ap (λ (y : ListenerEntry). y.serial) moved), sym (ap (λ (y : ListenerEntry). y.dir) moved));
    })
    (Contains-push_cases (without_listener w.listeners entry.number) (record entry { position = Some w.pos; waker = Some waker }) l among)

either_comes : (before : List ListenerEntry) (Stored : ℕ → Dir → Type 0) (test : Bool) (x y : List ListenerEntry) → ((l : ListenerEntry) → Contains x l → Comes before Stored l)
    → ((l : ListenerEntry) → Contains y l → Comes before Stored l) → (l : ListenerEntry) → Contains (cond test x y) l → Comes before Stored l
either_comes before Stored true x y first second = first
either_comes before Stored false x y first second = second

listened_rewaits : (w : World) (key : ℕ) (entry : ListenerEntry) (waker : Waker) → Ordered (parts_of w) → Contains w.listeners entry
    → Contains w.live (source key entry.serial)
    → Rewaits (parts_of w) w.poll_waiters (with_listening w entry waker) (At entry.serial entry.dir)
listened_rewaits w key entry waker o among here = record {
  stored_live = λ n d stored. (key, subst (λ x. Contains w.live (source key x)) (sym stored.0) here);
  polls_from = λ q kept. inr kept;
  listeners_from = either_comes w.listeners (At entry.serial entry.dir) (is_some entry.position) _ _ (again_comes w entry waker o among) (first_comes w entry waker among);
}

listened_stands : (w : World) (told : List Answer) (waker : Waker) (entry : ListenerEntry) (answers : List PollerAnswer) → Contains w.listeners entry
    → Standing (parts_of w) told ⊥ → Stands told (step_listener w waker (Some entry) answers)
listened_stands w told waker entry answers among s =
    let p = parts_of w in
    let o = s.ordered in
    let live = o.listeners_live entry among in
    let here = key_of-live w live.0 entry.serial live.1 in
    let key = unwrap_or (key_of w entry.serial) 0 in
    let listeners = with_listening w entry waker in
    let rewaits = listened_rewaits w key entry waker o among here in
    either told (is_fresh_since w entry.serial entry.dir entry.position) _ _ (λ fresh. quiet_stands w told _ answers s)
    (λ stale. pending_stands told (is_idle w entry.serial entry.dir || is_broken w entry.serial) (record w { listeners = listeners }) key entry.serial [] answers
    (λ calm. rewaits_stands p told ⊥ p.polls listeners (At entry.serial entry.dir) rewaits
    (waited_at w entry.serial entry.dir (or_parts (is_idle w entry.serial entry.dir) (is_broken w entry.serial) calm).0) s)
    (rewaits_all_but p told ⊥ p.polls listeners (At entry.serial entry.dir) key entry.serial rewaits (λ n d at. at.0) (all_but p told ⊥ key entry.serial s here)))

pub step_stands : (w : World) (told : List Answer) (number : ℕ) (waker : Waker) (entry : Option ListenerEntry) (answers : List PollerAnswer)
    → find (is_listener number) w.listeners ≡ entry → Standing (parts_of w) told ⊥ → Stands told (step_listener w waker entry answers)
step_stands w told number waker None answers found s = quiet_stands w told _ answers s
step_stands w told number waker (Some entry) answers found s = listened_stands w told waker entry answers (found_is_in (is_listener number) w.listeners entry found).0 s

-- ## A listener goes

pub drop_stands : (w : World) (told : List Answer) (number : ℕ) (entry : Option ListenerEntry) (answers : List PollerAnswer) → Standing (parts_of w) told ⊥
    → Stands told (drop_listener w number entry answers)
drop_stands w told number None answers s = quiet_stands w told _ answers s
drop_stands w told number (Some entry) answers s =
    let p = parts_of w in
    let Nowhere : ℕ → Dir → Type 0 = λ n d. ⊥ in
    let rewaits : Rewaits p p.polls (without_listener p.listeners number) Nowhere = record {
      stored_live = λ n d never. absurd never;
      polls_from = λ q kept. inr kept;
      listeners_from = λ l kept. stays_listening p.listeners Nowhere l (filtered_is_in (λ l. not (is_listener number l)) p.listeners l kept);
    } in
    let after = rewaits_stands p told ⊥ p.polls (without_listener p.listeners number) Nowhere rewaits (λ n d never. absurd never) s in
    record { stands = weaker (rewaiting p p.polls (without_listener p.listeners number)) told ⊥ _ (λ never. absurd never) after }
