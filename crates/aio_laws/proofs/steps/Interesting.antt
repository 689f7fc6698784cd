-- What a step leaves armed is what it asked the poller for.
use Rattle.std.proofs.Common.{◌≡◌, ◌≢◌, ◌⊎◌, ◌↔◌, ℕ, ◌+◌, ◌≤◌, Bool, true, false, not, cond, ◌||◌, ◌==◌, List, [], ◌∷◌, ◌++◌, length, map, find, Option, None, Some, option_map, option_to_list, unwrap_or, refl, ap, ◌∙◌, sym, subst, inl, inr, ⊎_elim, arith}
use Rattle.std.specs.Prelude.{nat_le}
use Rattle.std.specs.List.{Contains, list_any, filter}
use Rattle.std.proofs.lemmas.Bool.{cond_both, not-true, cases_eq, eq-eqb}
use Rattle.std.proofs.lemmas.List.{length-append}
use Rattle.std.proofs.lemmas.List.Elements.{Contains-append_cases, Contains-append_left, Contains-append_right}
use Rattle.aio_base.specs.declared.names.Key.{Key}
use Rattle.aio_base.specs.declared.names.Waker.{Waker}
use Rattle.aio_base.specs.declared.names.Dir.{Dir}
use Rattle.aio_base.specs.declared.names.Event.{Event}
use Rattle.aio_base.specs.declared.outcomes.EndWord.TheVariants.{FaultArm}
use Rattle.aio_base.specs.declared.outcomes.Which.{Which}
use Rattle.aio_base.specs.declared.outcomes.Which.TheVariants as which
use Rattle.aio_base.specs.declared.steps.Answer.TheVariants as answer
use Rattle.aio_base.specs.World.{PollerAnswer, LiveSource, ListenerEntry, ArmedDirection, RoundState, World, directions, directions_of, serial_of, key_of, poll_waiter, mark_of, is_empty_list, is_idle, is_broken, wanted, set_armed}
use Rattle.aio_base.specs.Machine.{Outcome, fails, next_answer, later_answers, broken_world, armed_world, pending, source_limit, free_key, add, del_source, is_fresh_since, is_waker, with_waiter, poll_source, with_listening, step_listener, first_fault, without_waiters, world_taken, wakers_taken, rearmed, handle_source, handle_first, handle_in, handle_round, handle_each}
use Rattle.aio_laws.specs.Interests.{IsArmedIn, HasWaiter, Nothing, SetsInterest, IsWaitedFor, arms_done}
use Rattle.aio_base.proofs.Membership.{none_is_in, first_is_in, filtered_is_in, filtered_passes, mapped_from}
use Rattle.aio_laws.proofs.cover.CoverRounds.{nowhere, taken_rewaits}
use Rattle.aio_laws.proofs.cover.Rewaiting.{wants_before}
use Rattle.aio_laws.proofs.rounds.RoundEnds.{answers_behind, handle_arms}
use Rattle.aio_laws.proofs.cover.Standing.{parts_with, armed_stays, armed_now}
use Rattle.aio_base.proofs.WaiterLemmas.{Wants, busy_wants, wants_busy, wants_wanted}

-- ## The interest of one key is set

wanted_waits : (w : World) (serial : ℕ) (dir : Dir) → Contains (wanted w serial) dir → HasWaiter w serial dir
wanted_waits w serial dir among = not-true (is_idle w serial dir) (filtered_passes (λ d. not (is_idle w serial d)) directions dir among)

waits_wanted : (w : World) (serial : ℕ) (dir : Dir) → HasWaiter w serial dir → Contains (wanted w serial) dir
waits_wanted w serial dir waits = wants_wanted w serial dir (busy_wants w serial dir waits)

-- an interest that is set is one of these of this key, or was there, of another
set_from : (armed : List ArmedDirection) (key : ℕ) (dirs : List Dir) (k : ℕ) (dir : Dir) → IsArmedIn (set_armed armed key dirs) k dir
    → ((k ≡ key) × Contains dirs dir) ⊎ ((k ≢ key) × IsArmedIn armed k dir)
set_from armed key dirs k dir among =
    let other : ArmedDirection → Bool = λ a. not (a.key == key) in
    let of_key : Dir → ArmedDirection = λ d. record { key = key; dir = d } in
    ⊎_elim
    (λ (kept : Contains (filter other armed) (record { key = k; dir = dir })).
    inr (
      λ same. let here = eq-eqb k key same in let passes = filtered_passes other armed (record { key = k; dir = dir }) kept in cc,
      filtered_is_in other armed (record { key = k; dir = dir }) kept,
    ))
    (λ (new : Contains (map of_key dirs) (record { key = k; dir = dir })).
    let from = mapped_from of_key dirs (record { key = k; dir = dir }) new in
    inl (sym (ap (λ (a : ArmedDirection). a.key) from.2), subst (Contains dirs) (ap (λ (a : ArmedDirection). a.dir) from.2) from.1))
    (Contains-append_cases (filter other armed) (map of_key dirs) (record { key = k; dir = dir }) among)

pub sets : (armed : List ArmedDirection) (key : ℕ) (dirs : List Dir) (On : Dir → Type 0) → ((dir : Dir) → Contains dirs dir → On dir)
    → ((dir : Dir) → On dir → Contains dirs dir) → SetsInterest armed (set_armed armed key dirs) key On
sets armed key dirs On on among = record {
  own = λ dir. (
    λ arms. ⊎_elim (λ (own : (key ≡ key) × Contains dirs dir). on dir own.1) (λ (other : (key ≢ key) × IsArmedIn armed key dir). absurd (other.0 refl))
        (set_from armed key dirs key dir arms),
    λ is_on. armed_now armed key dirs dir (among dir is_on),
  );
  others = λ k dir apart. (
    λ arms. ⊎_elim (λ (own : (k ≡ key) × Contains dirs dir). absurd (apart own.0)) (λ (other : (k ≢ key) × IsArmedIn armed k dir). other.1)
        (set_from armed key dirs k dir arms),
    λ arms. armed_stays armed key dirs k dir apart arms,
  );
}

sets_none : (armed : List ArmedDirection) (key : ℕ) → SetsInterest armed (set_armed armed key []) key Nothing
sets_none armed key = sets armed key [] Nothing (λ dir among. none_is_in dir among) (λ dir never. absurd never)

sets_wanted : (armed : List ArmedDirection) (key : ℕ) (w : World) (serial : ℕ) → SetsInterest armed (set_armed armed key (wanted w serial)) key (HasWaiter w serial)
sets_wanted armed key w serial = sets armed key (wanted w serial) (HasWaiter w serial) (wanted_waits w serial) (waits_wanted w serial)

some_is : (m n : ℕ) → Some m ≡ Some n → m ≡ n
some_is m n same = cc

-- ## Sources

key_is : (a b : Key) → answer.KeyIs a ≡ answer.KeyIs b → a ≡ b
key_is a b same = cc

add_sets_by : (failed : Bool) (armed : List ArmedDirection) (u v : World) (free key : Key) → v.armed ≡ set_armed armed free.0 []
    → cond failed answer.FaultAdd (answer.KeyIs free) ≡ answer.KeyIs key → SetsInterest armed (cond failed u v).armed key.0 Nothing
add_sets_by true armed u v free key is told = absurd cc
add_sets_by false armed u v free key is told =
    subst (λ (k : Key). SetsInterest armed v.armed k.0 Nothing) (key_is free key told)
    (subst (λ xs. SetsInterest armed xs free.0 Nothing) (sym is) (sets_none armed free.0))

pub add_sets : (w : World) (answers : List PollerAnswer) (key : Key) → (add w answers).answer ≡ answer.KeyIs key
    → SetsInterest w.armed (add w answers).world.armed key.0 Nothing
add_sets w answers key =
    cond_both (nat_le source_limit (length w.live)) _ _ (λ (o : Outcome). o.answer ≡ answer.KeyIs key → SetsInterest w.armed o.world.armed key.0 Nothing)
    (λ full told. absurd cc)
    (λ room told. add_sets_by (fails (next_answer answers)) w.armed w _ (record { 0 = free_key w.live }) key refl told)

del_sets_by : (failed : Bool) (armed : List ArmedDirection) (key : ℕ) → cond failed answer.FaultRemove answer.Gone ≡ answer.Gone
    → SetsInterest armed (cond failed armed (set_armed armed key [])) key Nothing
del_sets_by true armed key told = absurd cc
del_sets_by false armed key told = sets_none armed key

pub del_sets : (w : World) (key : ℕ) (found : Option ℕ) (answers : List PollerAnswer) → (del_source w key found answers).answer ≡ answer.Gone
    → SetsInterest w.armed (del_source w key found answers).world.armed key Nothing
del_sets w key None answers told = absurd cc
del_sets w key (Some serial) answers told = by_use told
  where
    by_use : (del_source w key (Some serial) answers).answer ≡ answer.Gone → SetsInterest w.armed (del_source w key (Some serial) answers).world.armed key Nothing
    by_use =
        cond_both (list_any (λ (l : ListenerEntry). l.serial == serial) w.listeners) _ _
        (λ (o : Outcome). o.answer ≡ answer.Gone → SetsInterest w.armed o.world.armed key Nothing) (λ used told. absurd cc)
        (λ free told. del_sets_by (fails (next_answer answers)) w.armed key told)

-- ## Polls

-- what is armed for just those who wait, where an outcome armed and is told pending
abbrev pub Sets : List ArmedDirection → ℕ → ℕ → Outcome → Type 0
Sets before key serial o = o.answer ≡ answer.Pending → o.calls ≡ which.Arm ∷ [] → SetsInterest before o.world.armed key (HasWaiter o.world serial)

armed_sets : (failed : Bool) (v : World) (key serial : ℕ) → cond failed answer.FaultArm answer.Pending ≡ answer.Pending
    → let x = cond failed (broken_world v serial) (armed_world v key serial) in SetsInterest v.armed x.armed key (HasWaiter x serial)
armed_sets true v key serial told = absurd cc
armed_sets false v key serial told = sets_wanted v.armed key v serial

pending_sets : (arms : Bool) (v : World) (key serial : ℕ) (wakes : List Waker) (answers : List PollerAnswer)
    → Sets v.armed key serial (pending arms v key serial wakes answers)
pending_sets false v key serial wakes answers told calls = absurd cc
pending_sets true v key serial wakes answers told calls = armed_sets (fails (next_answer answers)) v key serial told

pub poll_sets : (w : World) (key : ℕ) (dir : Dir) (waker : Waker) (serial : ℕ) (answers : List PollerAnswer)
    → Sets w.armed key serial (poll_source w key dir waker (Some serial) answers)
poll_sets w key dir waker serial answers =
    let waiter = poll_waiter w.poll_waiters serial dir in
    cond_both (is_fresh_since w serial dir (mark_of w.marks serial dir)) _ _ (Sets w.armed key serial) (λ ready told. absurd cc)
    (λ waits. cond_both (is_waker waker waiter) _ _ (Sets w.armed key serial) (λ same. pending_sets (is_broken w serial) w key serial [] answers)
    (λ other. pending_sets (is_idle w serial dir || is_broken w serial) (with_waiter w serial dir waker) key serial (option_to_list waiter) answers))

pub listen_sets : (w : World) (waker : Waker) (entry : ListenerEntry) (answers : List PollerAnswer) (key : ℕ) → key_of w entry.serial ≡ Some key
    → Sets w.armed key entry.serial (step_listener w waker (Some entry) answers)
listen_sets w waker entry answers key at =
    let named : unwrap_or (key_of w entry.serial) 0 ≡ key = ap (λ o. unwrap_or o 0) at in
    cond_both (is_fresh_since w entry.serial entry.dir entry.position) _ _ (Sets w.armed key entry.serial) (λ ready told. absurd cc)
    (λ waits. subst
    (λ k. Sets w.armed key entry.serial
    (pending (is_idle w entry.serial entry.dir || is_broken w entry.serial) (record w { listeners = with_listening w entry waker }) k entry.serial [] answers))
    (sym named)
    (pending_sets (is_idle w entry.serial entry.dir || is_broken w entry.serial) (record w { listeners = with_listening w entry waker }) key entry.serial [] answers))

-- ## A handled event

pub taken_arms : (dirs : List Dir) (w : World) (serial begin : ℕ) → (world_taken w serial begin dirs).armed ≡ w.armed
taken_arms [] w serial begin = refl
taken_arms (dir ∷ dirs) w serial begin = taken_arms dirs (without_waiters w serial begin dir) serial begin

pub taken_live : (dirs : List Dir) (w : World) (serial begin : ℕ) → (world_taken w serial begin dirs).live ≡ w.live
taken_live [] w serial begin = refl
taken_live (dir ∷ dirs) w serial begin = taken_live dirs (without_waiters w serial begin dir) serial begin

taken_waits : (dirs : List Dir) (w : World) (serial begin n : ℕ) (d : Dir) → HasWaiter (world_taken w serial begin dirs) n d → HasWaiter w n d
taken_waits [] w serial begin n d waits = waits
taken_waits (dir ∷ dirs) w serial begin n d waits =
    let v = without_waiters w serial begin dir in
    let p = parts_with w [] in
    ⊎_elim (λ (never : ⊥). absurd never) (λ (before : Wants w.poll_waiters w.listeners n d). wants_busy w n d before)
    (wants_before p v.poll_waiters v.listeners nowhere (taken_rewaits p serial dir) n d (busy_wants v n d (taken_waits dirs v serial begin n d waits)))

-- where an event was handled with an arm that succeeded, what is armed is for just those who wait
abbrev pub Rearms : List ArmedDirection → Key → ℕ → Outcome → Type 0
Rearms before key serial o = o.answer ≡ answer.Handled key false → o.calls ≡ which.Arm ∷ []
    → SetsInterest before o.world.armed key.0 (HasWaiter o.world serial)

key_handled : (a b : Key) (failed : Bool) → answer.Handled a failed ≡ answer.Handled b false → (a ≡ b) × (failed ≡ false)
key_handled a b failed same = (cc, cc)

-- a source that is armed again, by whether that fails
abbrev rearming : Bool → World → RoundState → ℕ → ℕ → World
rearming failed u round key serial =
    let armed = cond failed (broken_world u serial) (armed_world u key serial) in cond failed (record armed { round = Some round }) armed

rearming_sets : (failed : Bool) (before : List ArmedDirection) (u : World) (round : RoundState) (key serial : ℕ) → u.armed ≡ before → failed ≡ false
    → let x = rearming failed u round key serial in SetsInterest before x.armed key (HasWaiter x serial)
rearming_sets true before u round key serial same told = absurd cc
rearming_sets false before u round key serial same told =
    subst (λ xs. SetsInterest xs (set_armed u.armed key (wanted u serial)) key (HasWaiter u serial)) same (sets_wanted u.armed key u serial)

rearmed_sets : (w u : World) (round : RoundState) (named key : Key) (serial : ℕ) (answers : List PollerAnswer) → u.armed ≡ w.armed → named ≡ key
    → Rearms w.armed key serial (rearmed u round named serial answers)
rearmed_sets w u round named key serial answers same is =
    cond_both (is_empty_list (wanted u serial)) _ _ (Rearms w.armed key serial) (λ none told calls. absurd cc)
    (λ some told calls.
    let failed = fails (next_answer answers) in
    let x = rearming failed u (record round { fault = first_fault round.fault FaultArm }) named.0 serial in
    subst (λ (k : Key). SetsInterest w.armed x.armed k.0 (HasWaiter x serial)) is
    (rearming_sets failed w.armed u (record round { fault = first_fault round.fault FaultArm }) named.0 serial same (key_handled named key failed told).1))

named_key : (w : World) (round : RoundState) (event : Event) (found : Option ℕ) (answers : List PollerAnswer) (key : Key)
    → (handle_source w round event found answers).answer ≡ answer.Handled key false → event.key ≡ key
named_key w round event None answers key told = (key_handled event.key key false told).0
named_key w round event (Some serial) answers key told =
    let dirs = directions_of event.on in
    let u : World = record (world_taken w serial round.begin dirs) { round = Some (record round { taken = round.taken ++ wakers_taken w serial round.begin dirs }) } in
    cond_both (is_empty_list (wanted u serial)) _ _ (λ (o : Outcome). o.answer ≡ answer.Handled key false → event.key ≡ key)
    (λ none told. (key_handled event.key key false told).0) (λ some told. (key_handled event.key key (fails (next_answer answers)) told).0) told

source_sets : (w : World) (round : RoundState) (event : Event) (found : Option ℕ) (answers : List PollerAnswer) (key : Key) (serial : ℕ)
    → found ≡ Some serial → event.key ≡ key → Rearms w.armed key serial (handle_source w round event found answers)
source_sets w round event None answers key serial at is told calls = absurd cc
source_sets w round event (Some n) answers key serial at is told calls =
    let dirs = directions_of event.on in
    let taken : RoundState = record round { taken = round.taken ++ wakers_taken w n round.begin dirs } in
    subst (λ m. Rearms w.armed key m (handle_source w round event (Some n) answers)) (some_is n serial at)
    (rearmed_sets w (record (world_taken w n round.begin dirs) { round = Some taken }) taken event.key key n answers (taken_arms dirs w n round.begin) is) told calls

first_sets : (w : World) (round : RoundState) (hand : List Event) (answers : List PollerAnswer) (key : Key) (serial : ℕ) → serial_of w key.0 ≡ Some serial
    → Rearms w.armed key serial (handle_first w round hand answers)
first_sets w round [] answers key serial lives told calls = absurd cc
first_sets w round (event ∷ events) answers key serial lives told calls =
    let found = serial_of w event.key.0 in
    let is = named_key w (record round { in_hand = events }) event found answers key told in
    source_sets w (record round { in_hand = events }) event found answers key serial (ap (λ (k : Key). serial_of w k.0) is ∙ lives) is told calls

pub handle_sets : (w : World) (round : Option RoundState) (answers : List PollerAnswer) (key : Key) (serial : ℕ) → serial_of w key.0 ≡ Some serial
    → Rearms w.armed key serial (handle_in w round answers)
handle_sets w None answers key serial lives told calls = absurd cc
handle_sets w (Some round) answers key serial lives told calls = first_sets w round round.in_hand answers key serial lives told calls

-- ## The events of a whole round

-- What the handling of events leaves armed: of some keys what it armed anew, at most one for each of these arms, and of every other key what was. No
-- waiter joins, and what is armed anew had one.
pub record Leaves (w : World) (made : ℕ) (v : World) : Type 0 where
  pub keys : List ℕ
  pub asked : length keys ≤ made
  pub others : (k : ℕ) (dir : Dir) → (Contains keys k → ⊥) → IsArmedIn v.armed k dir ↔ IsArmedIn w.armed k dir
  pub from : (k : ℕ) (dir : Dir) → IsArmedIn v.armed k dir → IsArmedIn w.armed k dir ⊎ IsWaitedFor w k dir
  pub waits : (serial : ℕ) (dir : Dir) → HasWaiter v serial dir → HasWaiter w serial dir
  pub live : v.live ≡ w.live

leaves_all : (w : World) (made : ℕ) (v : World) → v.armed ≡ w.armed → ((serial : ℕ) (dir : Dir) → HasWaiter v serial dir → HasWaiter w serial dir) → v.live ≡ w.live
    → Leaves w made v
leaves_all w made v same waits live = record {
  keys = [];
  asked = omega arith;
  others = λ k dir none. (λ arms. subst (λ xs. IsArmedIn xs k dir) same arms, λ arms. subst (λ xs. IsArmedIn xs k dir) (sym same) arms);
  from = λ k dir arms. inl (subst (λ xs. IsArmedIn xs k dir) same arms);
  waits = waits;
  live = live;
}

rearming_leaves : (failed : Bool) (w u : World) (round : RoundState) (key serial : ℕ) → u.armed ≡ w.armed
    → ((n : ℕ) (dir : Dir) → HasWaiter u n dir → HasWaiter w n dir) → u.live ≡ w.live → serial_of w key ≡ Some serial
    → Leaves w ((cond failed 0 1) + 0) (rearming failed u round key serial)
rearming_leaves true w u round key serial same waits live at =
    leaves_all w 0 (record (broken_world u serial) { round = Some round }) same waits live
rearming_leaves false w u round key serial same waits live at =
    let set : SetsInterest w.armed (set_armed u.armed key (wanted u serial)) key (HasWaiter u serial) =
    subst (λ xs. SetsInterest xs (set_armed u.armed key (wanted u serial)) key (HasWaiter u serial)) same (sets_wanted u.armed key u serial) in
    record {
      keys = key ∷ [];
      asked = omega arith;
      others = λ k dir none. set.others k dir (λ is. none (subst (Contains (key ∷ [])) (sym is) (first_is_in key [])));
      from = λ k dir arms.
          ⊎_elim
          (λ (is : k ≡ key).
          inr (
            serial,
            ap (serial_of w) is ∙ at,
            waits serial dir ((set.own dir).0 (subst (λ x. IsArmedIn (set_armed u.armed key (wanted u serial)) x dir) is arms)),
          ))
          (λ (apart : k ≢ key). inl ((set.others k dir apart).0 arms)) (cases_eq k key);
      waits = waits;
      live = live;
    }

-- an outcome leaves armed what its arms armed
abbrev LeavesBy : World → List PollerAnswer → Outcome → Type 0
LeavesBy w answers o = Leaves w (arms_done o.calls answers) o.world

rearmed_leaves : (w u : World) (round : RoundState) (key : Key) (serial : ℕ) (answers : List PollerAnswer) → u.armed ≡ w.armed
    → ((n : ℕ) (dir : Dir) → HasWaiter u n dir → HasWaiter w n dir) → u.live ≡ w.live → serial_of w key.0 ≡ Some serial
    → LeavesBy w answers (rearmed u round key serial answers)
rearmed_leaves w u round key serial answers same waits live at =
    cond_both (is_empty_list (wanted u serial)) _ _ (LeavesBy w answers) (λ none. leaves_all w 0 u same waits live)
    (λ some. rearming_leaves (fails (next_answer answers)) w u (record round { fault = first_fault round.fault FaultArm }) key.0 serial same waits live at)

source_leaves : (w : World) (round : RoundState) (event : Event) (found : Option ℕ) (answers : List PollerAnswer) → serial_of w event.key.0 ≡ found
    → LeavesBy w answers (handle_source w round event found answers)
source_leaves w round event None answers at = leaves_all w 0 (record w { round = Some round }) refl (λ n dir waits. waits) refl
source_leaves w round event (Some serial) answers at =
    let dirs = directions_of event.on in
    let taken : RoundState = record round { taken = round.taken ++ wakers_taken w serial round.begin dirs } in
    rearmed_leaves w (record (world_taken w serial round.begin dirs) { round = Some taken }) taken event.key serial answers (taken_arms dirs w serial round.begin)
    (taken_waits dirs w serial round.begin) (taken_live dirs w serial round.begin) at

first_leaves : (w : World) (round : RoundState) (hand : List Event) (answers : List PollerAnswer) → LeavesBy w answers (handle_first w round hand answers)
first_leaves w round [] answers = leaves_all w 0 w refl (λ n dir waits. waits) refl
first_leaves w round (event ∷ events) answers = source_leaves w (record round { in_hand = events }) event (serial_of w event.key.0) answers refl

handle_leaves : (w : World) (round : Option RoundState) (answers : List PollerAnswer) → LeavesBy w answers (handle_in w round answers)
handle_leaves w None answers = leaves_all w 0 w refl (λ n dir waits. waits) refl
handle_leaves w (Some round) answers = first_leaves w round round.in_hand answers

done_both : (first second : List Which) (answers : List PollerAnswer)
    → arms_done (first ++ second) answers ≡ arms_done first answers + arms_done second (answers_behind first answers)
done_both [] second answers = omega arith
done_both (call ∷ first) second answers = let later = done_both first second (later_answers answers) in omega arith

leaves_both : (w u v : World) (first second : ℕ) → Leaves w first u → Leaves u second v → Leaves w (first + second) v
leaves_both w u v first second one two = record {
  keys = one.keys ++ two.keys;
  asked = let long = length-append one.keys two.keys in let a = one.asked in let b = two.asked in omega arith;
  others = λ k dir none.
      let before = one.others k dir (λ here. none (Contains-append_left one.keys two.keys k here)) in
      let after = two.others k dir (λ here. none (Contains-append_right one.keys two.keys k here)) in
      (λ arms. before.0 (after.0 arms), λ arms. after.1 (before.1 arms));
  from = λ k dir arms.
      ⊎_elim (λ (still : IsArmedIn u.armed k dir). one.from k dir still)
      (λ (waited : IsWaitedFor u k dir).
      inr (
        waited.0,
        sym (ap (λ live. option_map (λ (s : LiveSource). s.serial) (find (λ (s : LiveSource). s.key == k) live)) one.live) ∙ waited.1,
        one.waits waited.0 dir waited.2,
      )) (two.from k dir arms);
  waits = λ n dir waits. one.waits n dir (two.waits n dir waits);
  live = two.live ∙ one.live;
}

pub each_leaves : (events : List Event) (w : World) (answers : List PollerAnswer) → LeavesBy w answers (handle_each events w answers)
each_leaves [] w answers = leaves_all w 0 w refl (λ n dir waits. waits) refl
each_leaves (event ∷ events) w answers =
    let first = handle_round w answers in
    let rest = handle_each events first.world first.left in
    let behind : first.left ≡ answers_behind first.calls answers = (handle_arms w w.round answers refl).left in
    let count : arms_done first.calls answers + arms_done rest.calls first.left ≡ arms_done (first.calls ++ rest.calls) answers =
    ap (λ (a : List PollerAnswer). arms_done first.calls answers + arms_done rest.calls a) behind ∙ sym (done_both first.calls rest.calls answers) in
    subst (λ n. Leaves w n rest.world) count
    (leaves_both w first.world rest.world (arms_done first.calls answers) (arms_done rest.calls first.left) (handle_leaves w w.round answers)
    (each_leaves events first.world first.left))
