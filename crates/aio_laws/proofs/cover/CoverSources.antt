-- Cover stands where sources are added and taken out.
use Rattle.std.proofs.Common.{◌≡◌, ◌≢◌, ◌⊎◌, ℕ, ◌+◌, Bool, true, false, not, cond, ◌==◌, List, [], ◌∷◌, ◌++◌, length, Option, None, Some, refl, ap, ◌∙◌, subst, sym, ⊎_elim, arith}
use Rattle.std.specs.Prelude.{nat_le}
use Rattle.std.specs.List.{Contains, filter, list_any}
use Rattle.std.proofs.lemmas.Bool.{eq-eqb, not-true}
use Rattle.std.proofs.lemmas.List.Elements.{Contains-append_left, Contains-push_cases}
use Rattle.aio_base.specs.declared.names.Dir.{Dir}
use Rattle.aio_base.specs.declared.steps.Answer.{Answer}
use Rattle.aio_base.specs.World.{PollerAnswer, LiveSource, PollWaiter, ListenerEntry, ArmedDirection, BrokenSource, World, serial_of, set_armed, without_broken}
use Rattle.aio_base.specs.Machine.{Outcome, quiet, fails, next_answer, free_key, add, remove_source, del_source, source_limit}
use Rattle.aio_laws.specs.Covered.{tells_arm_fault, HasSource}
use Rattle.aio_base.proofs.Membership.{passing_is_kept, filtered_is_in, filtered_passes, any_from, none_passes}
use Rattle.aio_base.proofs.WaiterLemmas.{Wants, Polls, Listens, source, serial_of-live}
use Rattle.aio_laws.proofs.steps.FreeKeys.{free_key-free}
use Rattle.aio_laws.proofs.cover.Standing.{Parts, parts_of, Ordered, Covers, Standing, weaker, other_key, kept_apart, armed_stays, broken_stays, holds_in, either_world}

-- what stands after a step: an arm failed in it only where its answer tells that
pub record Stands (told : List Answer) (o : Outcome) : Type 0 where
  pub stands : Standing (parts_of o.world) told (tells_arm_fault o.answer ≡ true)

-- one of two outcomes
pub either : (told : List Answer) (test : Bool) (x y : Outcome) → (test ≡ true → Stands told x) → (test ≡ false → Stands told y) → Stands told (cond test x y)
either told true x y first second = first refl
either told false x y first second = second refl

-- no arm was tried
pub at_rest : (w : World) (told : List Answer) (G : Type 0) → Standing (parts_of w) told ⊥ → Standing (parts_of w) told G
at_rest w told G s = weaker (parts_of w) told ⊥ G (λ never. absurd never) s

pub quiet_stands : (w : World) (told : List Answer) (a : Answer) (answers : List PollerAnswer) → Standing (parts_of w) told ⊥ → Stands told (quiet a w answers)
quiet_stands w told a answers s = record { stands = at_rest w told _ s }

-- ## A new source

-- the parts with a new source of a key
abbrev added : Parts → ℕ → Parts
added p key = record p {
  live = p.live ++ source key (p.serials + 1) ∷ [];
  serials = p.serials + 1;
  armed = set_armed p.armed key [];
}

-- a live source is an old one, or the new one
new_cases : (p : Parts) (key : ℕ) (a : LiveSource) → Contains (added p key).live a → Contains p.live a ⊎ (source key (p.serials + 1) ≡ a)
new_cases p key a among = Contains-push_cases p.live (source key (p.serials + 1)) a among

old_is_live : (p : Parts) (key : ℕ) (serial : ℕ) → HasSource p.live serial → HasSource (added p key).live serial
old_is_live p key serial here = (here.0, Contains-append_left p.live (source key (p.serials + 1) ∷ []) (source here.0 serial) here.1)

-- a key that no live source has
abbrev IsFree : Parts → ℕ → Type 0
IsFree p key = (a : LiveSource) → Contains p.live a → a.key ≢ key

added_keys : (p : Parts) (key : ℕ) → Ordered p → IsFree p key → (a b : LiveSource) → Contains (added p key).live a → Contains (added p key).live b
    → a.key ≡ b.key → a.serial ≡ b.serial
added_keys p key o free a b first second same =
    ⊎_elim
    (λ (old : Contains p.live a).
    ⊎_elim
    (λ (other : Contains p.live b). o.keys_differ a b old other same)
    (λ (new : source key (p.serials + 1) ≡ b). absurd (free a old (same ∙ sym (ap (λ (s : LiveSource). s.key) new))))
    (new_cases p key b second))
    (λ (new : source key (p.serials + 1) ≡ a).
    ⊎_elim
    (λ (other : Contains p.live b). absurd (free b other (sym same ∙ sym (ap (λ (s : LiveSource). s.key) new))))
    (λ (also : source key (p.serials + 1) ≡ b). sym (ap (λ (s : LiveSource). s.serial) new) ∙ ap (λ (s : LiveSource). s.serial) also)
    (new_cases p key b second))
    (new_cases p key a first)

added_serials : (p : Parts) (key : ℕ) → Ordered p → (a b : LiveSource) → Contains (added p key).live a → Contains (added p key).live b
    → a.serial ≡ b.serial → a.key ≡ b.key
added_serials p key o a b first second same =
    ⊎_elim
    (λ (old : Contains p.live a).
    ⊎_elim
    (λ (other : Contains p.live b). o.serials_differ a b old other same)
    (λ (new : source key (p.serials + 1) ≡ b).
    let given = o.serials_given a old in let e : p.serials + 1 ≡ b.serial = ap (λ (s : LiveSource). s.serial) new in absurd (omega arith))
    (new_cases p key b second))
    (λ (new : source key (p.serials + 1) ≡ a).
    ⊎_elim
    (λ (other : Contains p.live b).
    let given = o.serials_given b other in let e : p.serials + 1 ≡ a.serial = ap (λ (s : LiveSource). s.serial) new in absurd (omega arith))
    (λ (also : source key (p.serials + 1) ≡ b). sym (ap (λ (s : LiveSource). s.key) new) ∙ ap (λ (s : LiveSource). s.key) also)
    (new_cases p key b second))
    (new_cases p key a first)

added_order : (p : Parts) (key : ℕ) → Ordered p → IsFree p key → Ordered (added p key)
added_order p key o free = record {
  keys_differ = added_keys p key o free;
  serials_differ = added_serials p key o;
  serials_given = λ a among.
      ⊎_elim
      (λ (old : Contains p.live a). let given = o.serials_given a old in omega arith)
      (λ (new : source key (p.serials + 1) ≡ a). let e : p.serials + 1 ≡ a.serial = ap (λ (s : LiveSource). s.serial) new in omega arith)
      (new_cases p key a among);
  polls_live = λ q among. old_is_live p key q.serial (o.polls_live q among);
  listeners_live = λ l among. old_is_live p key l.serial (o.listeners_live l among);
  numbers_drawn = o.numbers_drawn;
  numbers_differ = o.numbers_differ;
}

-- who waits waits for a live source
pub wants_live : (p : Parts) → Ordered p → (serial : ℕ) (dir : Dir) → Wants p.polls p.listeners serial dir → HasSource p.live serial
wants_live p o serial dir (Polls q among of_serial of_dir) = subst (HasSource p.live) of_serial (o.polls_live q among)
wants_live p o serial dir (Listens l among of_serial of_dir some) = subst (HasSource p.live) of_serial (o.listeners_live l among)

-- nobody waits for the next serial
none_wants_next : (p : Parts) → Ordered p → (dir : Dir) (serial : ℕ) → p.serials + 1 ≡ serial → Wants p.polls p.listeners serial dir → ⊥
none_wants_next p o dir serial next wants =
    let here = wants_live p o serial dir wants in let given = o.serials_given (source here.0 serial) here.1 in absurd (omega arith)

added_covers : (p : Parts) (key : ℕ) → Ordered p → IsFree p key → Covers p → Covers (added p key)
added_covers p key o free covers k n dir lives wants =
    ⊎_elim
    (λ (old : Contains p.live (source k n)).
    holds_in p (added p key) k n dir (λ among. armed_stays p.armed key [] k dir (free (source k n) old) among) (λ e among same. among)
    (λ b among same. among) (covers k n dir old wants))
    (λ (new : source key (p.serials + 1) ≡ source k n). absurd (none_wants_next p o dir n (ap (λ (s : LiveSource). s.serial) new) wants))
    (new_cases p key (source k n) lives)

added_stands : (p : Parts) (told : List Answer) (F : Type 0) (key : ℕ) → IsFree p key → Standing p told F → Standing (added p key) told F
added_stands p told F key free s = record {
  counted = s.counted;
  ordered = added_order p key s.ordered free;
  broken_told = s.broken_told;
  covers = added_covers p key s.ordered free s.covers;
}

free_is_free : (live : List LiveSource) (a : LiveSource) → Contains live a → a.key ≢ free_key live
free_is_free live a among same =
    let lives = any_from (λ (s : LiveSource). s.key == free_key live) live a among (eq-eqb a.key (free_key live) same) in
    let free = free_key-free live in
    absurd (cc (lives, free))

pub add_stands : (w : World) (told : List Answer) (answers : List PollerAnswer) → Standing (parts_of w) told ⊥ → Stands told (add w answers)
add_stands w told answers s =
    either told (nat_le source_limit (length w.live)) _ _ (λ full. quiet_stands w told _ answers s)
    (λ room. record {
      stands = either_world told _ (fails (next_answer answers)) w _ (λ failed. at_rest w told _ s)
          (λ done. weaker (added (parts_of w) (free_key w.live)) told ⊥ _ (λ never. absurd never)
          (added_stands (parts_of w) told ⊥ (free_key w.live) (free_is_free w.live) s));
    })

-- ## A source that leaves

-- the parts without a source, with these interests
abbrev removed : Parts → ℕ → List ArmedDirection → Parts
removed p serial armed = record p {
  live = filter (λ (s : LiveSource). not (s.serial == serial)) p.live;
  polls = filter (λ (q : PollWaiter). not (q.serial == serial)) p.polls;
  broken = without_broken p.broken serial;
  armed = armed;
}

-- no listener is of a serial
abbrev NoListener : Parts → ℕ → Type 0
NoListener p serial = (l : ListenerEntry) → Contains p.listeners l → l.serial ≢ serial

was_live : (p : Parts) (serial : ℕ) (armed : List ArmedDirection) (a : LiveSource) → Contains (removed p serial armed).live a → Contains p.live a
was_live p serial armed a among = filtered_is_in (λ (s : LiveSource). not (s.serial == serial)) p.live a among

is_apart : (n but : ℕ) → not (n == but) ≡ true → n ≢ but
is_apart n but passes same = let e = eq-eqb n but same in let f = not-true (n == but) passes in absurd (cc (e, f))

other_is_live : (p : Parts) (serial : ℕ) (armed : List ArmedDirection) (n : ℕ) → n ≢ serial → HasSource p.live n → HasSource (removed p serial armed).live n
other_is_live p serial armed n apart here =
    (here.0, passing_is_kept (λ (s : LiveSource). not (s.serial == serial)) p.live (source here.0 n) (kept_apart n serial apart) here.1)

removed_order : (p : Parts) (serial : ℕ) (armed : List ArmedDirection) → NoListener p serial → Ordered p → Ordered (removed p serial armed)
removed_order p serial armed none o = record {
  keys_differ = λ a b first second same. o.keys_differ a b (was_live p serial armed a first) (was_live p serial armed b second) same;
  serials_differ = λ a b first second same. o.serials_differ a b (was_live p serial armed a first) (was_live p serial armed b second) same;
  serials_given = λ a among. o.serials_given a (was_live p serial armed a among);
  polls_live = λ q among.
      other_is_live p serial armed q.serial
      (is_apart q.serial serial (filtered_passes (λ (q : PollWaiter). not (q.serial == serial)) p.polls q among))
      (o.polls_live q (filtered_is_in (λ (q : PollWaiter). not (q.serial == serial)) p.polls q among));
  listeners_live = λ l among. other_is_live p serial armed l.serial (none l among) (o.listeners_live l among);
  numbers_drawn = o.numbers_drawn;
  numbers_differ = o.numbers_differ;
}

waited_before : (p : Parts) (serial n : ℕ) (dir : Dir) → Wants (filter (λ (q : PollWaiter). not (q.serial == serial)) p.polls) p.listeners n dir
    → Wants p.polls p.listeners n dir
waited_before p serial n dir (Polls q among of_serial of_dir) =
    Polls q (filtered_is_in (λ (q : PollWaiter). not (q.serial == serial)) p.polls q among) of_serial of_dir
waited_before p serial n dir (Listens l among of_serial of_dir some) = Listens l among of_serial of_dir some

removed_covers : (p : Parts) (key serial : ℕ) (armed : List ArmedDirection) → Ordered p → Contains p.live (source key serial)
    → ((k : ℕ) (dir : Dir) → k ≢ key → Contains p.armed (record { key = k; dir = dir }) → Contains armed (record { key = k; dir = dir }))
    → Covers p → Covers (removed p serial armed)
removed_covers p key serial armed o here stays covers k n dir lives wants =
    let before = was_live p serial armed (source k n) lives in
    let apart = is_apart n serial (filtered_passes (λ (s : LiveSource). not (s.serial == serial)) p.live (source k n) lives) in
    holds_in p (removed p serial armed) k n dir (stays k dir (other_key p o key serial k n here before apart)) (λ e among same. among)
    (λ b among same. broken_stays p.broken serial b (λ (e : b.serial ≡ serial). apart (sym same ∙ e)) among)
    (covers k n dir before (waited_before p serial n dir wants))

removed_stands : (p : Parts) (told : List Answer) (F : Type 0) (key serial : ℕ) (armed : List ArmedDirection) → NoListener p serial → Contains p.live (source key serial)
    → ((k : ℕ) (dir : Dir) → k ≢ key → Contains p.armed (record { key = k; dir = dir }) → Contains armed (record { key = k; dir = dir }))
    → Standing p told F → Standing (removed p serial armed) told F
removed_stands p told F key serial armed none here stays s = record {
  counted = s.counted;
  ordered = removed_order p serial armed none s.ordered;
  broken_told = λ b among. s.broken_told b (filtered_is_in (λ (b : BrokenSource). not (b.serial == serial)) p.broken b among);
  covers = removed_covers p key serial armed s.ordered here stays s.covers;
}

stays_by : (armed : List ArmedDirection) (key : ℕ) (failed : Bool) (k : ℕ) (dir : Dir) → k ≢ key → Contains armed (record { key = k; dir = dir })
    → Contains (cond failed armed (set_armed armed key [])) (record { key = k; dir = dir })
stays_by armed key true k dir apart among = among
stays_by armed key false k dir apart among = armed_stays armed key [] k dir apart among

remove_stands : (w : World) (told : List Answer) (key serial : ℕ) (answers : List PollerAnswer) → NoListener (parts_of w) serial → Contains w.live (source key serial)
    → Standing (parts_of w) told ⊥ → Stands told (remove_source w key serial answers)
remove_stands w told key serial answers none here s = record {
  stands =
      let armed = cond (fails (next_answer answers)) w.armed (set_armed w.armed key []) in
      weaker (removed (parts_of w) serial armed) told ⊥ _ (λ never. absurd never)
      (removed_stands (parts_of w) told ⊥ key serial armed none here (stays_by w.armed key (fails (next_answer answers))) s);
}

pub del_stands : (w : World) (told : List Answer) (key : ℕ) (serial : Option ℕ) (answers : List PollerAnswer) → serial_of w key ≡ serial
    → Standing (parts_of w) told ⊥ → Stands told (del_source w key serial answers)
del_stands w told key None answers named s = quiet_stands w told _ answers s
del_stands w told key (Some serial) answers named s =
    either told (list_any (λ (l : ListenerEntry). l.serial == serial) w.listeners) _ _ (λ used. quiet_stands w told _ answers s)
    (λ unused. remove_stands w told key serial answers
    (λ l among same. none_passes (λ (l : ListenerEntry). l.serial == serial) w.listeners l unused among (eq-eqb l.serial serial same))
    (serial_of-live w key serial named) s)
