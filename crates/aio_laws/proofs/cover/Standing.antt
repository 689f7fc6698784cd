-- What stands of cover after each step of a run, over the parts of the world that it speaks of.
use Rattle.std.proofs.Common.{◌≡◌, ◌≢◌, ◌⊎◌, ℕ, ◌≤◌, Bool, true, false, not, cond, ◌==◌, List, [], ◌∷◌, ◌++◌, length, map, refl, ap, ◌∙◌, subst, sym, inl, inr, ⊎_elim}
use Rattle.std.specs.List.{Contains, filter}
use Rattle.std.proofs.lemmas.Bool.{cases_eq, ne_eqb, not_from_false}
use Rattle.std.proofs.lemmas.List.Elements.{Contains-append_left, Contains-append_right, Contains-push, Contains-push_cases}
use Rattle.aio_base.specs.declared.names.Dir.{Dir}
use Rattle.aio_base.specs.declared.names.Event.{Event}
use Rattle.aio_base.specs.declared.steps.Answer.{Answer}
use Rattle.aio_base.specs.World.{PollerAnswer, LiveSource, PollWaiter, ListenerEntry, ArmedDirection, BrokenSource, World, set_armed, without_broken, wanted}
use Rattle.aio_base.specs.Machine.{fails, broken_world, armed_world, after_arm, hand_of}
use Rattle.aio_laws.specs.Covered.{tells_at, HasSource}
use Rattle.aio_base.proofs.Membership.{passing_is_kept, filtered_is_in, image_is_in}
use Rattle.aio_base.proofs.WaiterLemmas.{Wants, source, wants_wanted}

-- the parts of a world that cover speaks of
pub record Parts : Type 0 where
  pub live : List LiveSource
  pub serials : ℕ
  pub polls : List PollWaiter
  pub listeners : List ListenerEntry
  pub drawn : ℕ
  pub armed : List ArmedDirection
  pub broken : List BrokenSource
  pub hand : List Event
  pub pos : ℕ

-- these parts of a world, with another hand
abbrev pub parts_with : World → List Event → Parts
parts_with w hand = record {
  live = w.live;
  serials = w.serials;
  polls = w.poll_waiters;
  listeners = w.listeners;
  drawn = w.listeners_drawn;
  armed = w.armed;
  broken = w.broken;
  hand = hand;
  pos = w.pos;
}

abbrev pub parts_of : World → Parts
parts_of w = parts_with w (hand_of w.round)

-- The sources, the poll waiters and the listeners agree: keys and serials of live sources differ, whoever waits waits for a live source, and
-- listeners of one number are of one direction.
pub record InOrder (live : List LiveSource) (serials : ℕ) (polls : List PollWaiter) (listeners : List ListenerEntry) (drawn : ℕ) : Type 0 where
  pub keys_differ : (a b : LiveSource) → Contains live a → Contains live b → a.key ≡ b.key → a.serial ≡ b.serial
  pub serials_differ : (a b : LiveSource) → Contains live a → Contains live b → a.serial ≡ b.serial → a.key ≡ b.key
  pub serials_given : (a : LiveSource) → Contains live a → a.serial ≤ serials
  pub polls_live : (q : PollWaiter) → Contains polls q → HasSource live q.serial
  pub listeners_live : (l : ListenerEntry) → Contains listeners l → HasSource live l.serial
  pub numbers_drawn : (l : ListenerEntry) → Contains listeners l → l.number ≤ drawn
  pub numbers_differ : (a b : ListenerEntry) → Contains listeners a → Contains listeners b → a.number ≡ b.number
      → (a.serial ≡ b.serial) × (a.dir ≡ b.dir)

abbrev pub Ordered : Parts → Type 0
Ordered p = InOrder p.live p.serials p.polls p.listeners p.drawn

-- how a direction is covered; what a broken source has told is kept apart
pub data Holds (p : Parts) (key serial : ℕ) (dir : Dir) : Type 0 where
  Armed : Contains p.armed (record { key = key; dir = dir }) → Holds p key serial dir
  Handed : (e : Event) → Contains p.hand e → e.key.0 ≡ key → Holds p key serial dir
  Broken : (b : BrokenSource) → Contains p.broken b → b.serial ≡ serial → Holds p key serial dir

-- each broken source has told so in an earlier step, or it was broken in this one, in which an arm has failed
abbrev pub BrokenTold : Parts → List Answer → Type 0 → Type 0
BrokenTold p told Failed = (b : BrokenSource) → Contains p.broken b → (tells_at told b.position ≡ true) ⊎ ((b.position ≡ p.pos) × Failed)

abbrev pub Covers : Parts → Type 0
Covers p = (key serial : ℕ) (dir : Dir) → Contains p.live (source key serial) → Wants p.polls p.listeners serial dir → Holds p key serial dir

-- each waiter of the other sources is covered
abbrev pub CoversOthers : Parts → ℕ → Type 0
CoversOthers p but = (key serial : ℕ) (dir : Dir) → Contains p.live (source key serial) → Wants p.polls p.listeners serial dir → serial ≢ but
    → Holds p key serial dir

-- What stands in a step, given the answers of the steps before it; `Failed` says that an arm has failed in this step.
pub record Standing (p : Parts) (told : List Answer) (Failed : Type 0) : Type 0 where
  pub counted : length told ≡ p.pos
  pub ordered : Ordered p
  pub broken_told : BrokenTold p told Failed
  pub covers : Covers p

-- what stands where one live source is still to be armed
pub record StandingBut (p : Parts) (told : List Answer) (Failed : Type 0) (key serial : ℕ) : Type 0 where
  pub counted : length told ≡ p.pos
  pub ordered : Ordered p
  pub broken_told : BrokenTold p told Failed
  pub is_live : Contains p.live (source key serial)
  pub others : CoversOthers p serial

pub all_but : (p : Parts) (told : List Answer) (Failed : Type 0) (key serial : ℕ) → Standing p told Failed → Contains p.live (source key serial)
    → StandingBut p told Failed key serial
all_but p told Failed key serial s here = record {
  counted = s.counted;
  ordered = s.ordered;
  broken_told = s.broken_told;
  is_live = here;
  others = λ k n dir lives wants apart. s.covers k n dir lives wants;
}

-- what says more of a failed arm
pub told_by : (p : Parts) (told : List Answer) (F G : Type 0) → (F → G) → BrokenTold p told F → BrokenTold p told G
told_by p told F G more before b among =
    ⊎_elim (λ (earlier : tells_at told b.position ≡ true). inl earlier) (λ (now : (b.position ≡ p.pos) × F). inr (now.0, more now.1)) (before b among)

pub weaker : (p : Parts) (told : List Answer) (F G : Type 0) → (F → G) → Standing p told F → Standing p told G
weaker p told F G more s = record { counted = s.counted; ordered = s.ordered; broken_told = told_by p told F G more s.broken_told; covers = s.covers }

-- another key than that of a live source is that of another serial
pub other_key : (p : Parts) → Ordered p → (key serial k n : ℕ) → Contains p.live (source key serial) → Contains p.live (source k n) → n ≢ serial → k ≢ key
other_key p o key serial k n here there apart same = apart (o.keys_differ (source k n) (source key serial) there here same)

pub kept_apart : (n but : ℕ) → n ≢ but → not (n == but) ≡ true
kept_apart n but apart = not_from_false (n == but) (ne_eqb n but apart)

-- what covers a direction covers it wherever as much is armed, in hand and broken
pub holds_in : (p q : Parts) (key serial : ℕ) (dir : Dir)
    → (Contains p.armed (record { key = key; dir = dir }) → Contains q.armed (record { key = key; dir = dir }))
    → ((e : Event) → Contains p.hand e → e.key.0 ≡ key → Contains q.hand e)
    → ((b : BrokenSource) → Contains p.broken b → b.serial ≡ serial → Contains q.broken b) → Holds p key serial dir → Holds q key serial dir
holds_in p q key serial dir arms hands breaks (Armed among) = Armed (arms among)
holds_in p q key serial dir arms hands breaks (Handed e among same) = Handed e (hands e among same) same
holds_in p q key serial dir arms hands breaks (Broken b among same) = Broken b (breaks b among same) same

-- ## Arming

-- the interests of another key stay
pub armed_stays : (armed : List ArmedDirection) (key : ℕ) (dirs : List Dir) (k : ℕ) (dir : Dir) → k ≢ key
    → Contains armed (record { key = k; dir = dir }) → Contains (set_armed armed key dirs) (record { key = k; dir = dir })
armed_stays armed key dirs k dir apart among =
    Contains-append_left (filter (λ (a : ArmedDirection). not (a.key == key)) armed) (map (λ d. record { key = key; dir = d }) dirs)
    (record { key = k; dir = dir })
    (passing_is_kept (λ (a : ArmedDirection). not (a.key == key)) armed (record { key = k; dir = dir }) (kept_apart k key apart) among)

pub armed_now : (armed : List ArmedDirection) (key : ℕ) (dirs : List Dir) (dir : Dir) → Contains dirs dir
    → Contains (set_armed armed key dirs) (record { key = key; dir = dir })
armed_now armed key dirs dir among =
    Contains-append_right (filter (λ (a : ArmedDirection). not (a.key == key)) armed) (map (λ d. record { key = key; dir = d }) dirs)
    (record { key = key; dir = dir }) (image_is_in (λ (d : Dir). let a : ArmedDirection = record { key = key; dir = d } in a) dirs dir among)

pub broken_stays : (broken : List BrokenSource) (serial : ℕ) (b : BrokenSource) → b.serial ≢ serial → Contains broken b
    → Contains (without_broken broken serial) b
broken_stays broken serial b apart among =
    passing_is_kept (λ (b : BrokenSource). not (b.serial == serial)) broken b (kept_apart b.serial serial apart) among

-- what covers another source covers it still where the interests of a key are set and its source is broken no longer
pub holds_still : (p : Parts) (key serial : ℕ) (dirs : List Dir) (k n : ℕ) (dir : Dir) → k ≢ key → n ≢ serial → Holds p k n dir
    → Holds (record p { armed = set_armed p.armed key dirs; broken = without_broken p.broken serial }) k n dir
holds_still p key serial dirs k n dir other apart holds =
    holds_in p (record p { armed = set_armed p.armed key dirs; broken = without_broken p.broken serial }) k n dir
    (λ among. armed_stays p.armed key dirs k dir other among) (λ e among same. among)
    (λ b among same. broken_stays p.broken serial b (λ (e : b.serial ≡ serial). apart (sym same ∙ e)) among) holds

holds_armed : (p : Parts) (key serial : ℕ) (dirs : List Dir) → Ordered p → Contains p.live (source key serial) → CoversOthers p serial
    → ((dir : Dir) → Wants p.polls p.listeners serial dir → Contains dirs dir)
    → Covers (record p { armed = set_armed p.armed key dirs; broken = without_broken p.broken serial })
holds_armed p key serial dirs o here others all k n dir lives wants =
    ⊎_elim
    (λ (same : n ≡ serial).
    let same_key : k ≡ key = o.serials_differ (source k n) (source key serial) lives here same in
    let now = armed_now p.armed key dirs dir (all dir (subst (λ x. Wants p.polls p.listeners x dir) same wants)) in
    Armed (subst (λ x. Contains (set_armed p.armed key dirs) (record { key = x; dir = dir })) (sym same_key) now))
    (λ (apart : n ≢ serial).
    holds_still p key serial dirs k n dir (other_key p o key serial k n here lives apart) apart (others k n dir lives wants apart))
    (cases_eq n serial)

-- the broken sources where one of them is noted at this position
abbrev pub with_broken : Parts → ℕ → List BrokenSource
with_broken p serial = without_broken p.broken serial ++ record { serial = serial; position = p.pos } ∷ []

holds_broken : (p : Parts) (serial : ℕ) → CoversOthers p serial → Covers (record p { broken = with_broken p serial })
holds_broken p serial others k n dir lives wants =
    ⊎_elim
    (λ (same : n ≡ serial).
    Broken (record { serial = serial; position = p.pos }) (Contains-push (without_broken p.broken serial) (record { serial = serial; position = p.pos })) (sym same))
    (λ (apart : n ≢ serial).
    holds_in p (record p { broken = with_broken p serial }) k n dir (λ among. among) (λ e among same. among)
    (λ b among same. Contains-append_left (without_broken p.broken serial) (record { serial = serial; position = p.pos } ∷ []) b
    (broken_stays p.broken serial b (λ (e : b.serial ≡ serial). apart (sym same ∙ e)) among))
    (others k n dir lives wants apart))
    (cases_eq n serial)

-- where the poller armed the source
pub armed_stands : (p : Parts) (told : List Answer) (F G : Type 0) (key serial : ℕ) (dirs : List Dir) → (F → G)
    → ((dir : Dir) → Wants p.polls p.listeners serial dir → Contains dirs dir) → StandingBut p told F key serial
    → Standing (record p { armed = set_armed p.armed key dirs; broken = without_broken p.broken serial }) told G
armed_stands p told F G key serial dirs more all s = record {
  counted = s.counted;
  ordered = s.ordered;
  broken_told = λ b among. told_by p told F G more (λ c here. s.broken_told c here) b (filtered_is_in (λ (b : BrokenSource). not (b.serial == serial)) p.broken b among);
  covers = holds_armed p key serial dirs s.ordered s.is_live s.others all;
}

-- where it failed to
pub broken_stands : (p : Parts) (told : List Answer) (F G : Type 0) (key serial : ℕ) → (F → G) → G → StandingBut p told F key serial
    → Standing (record p { broken = with_broken p serial }) told G
broken_stands p told F G key serial more failed s = record {
  counted = s.counted;
  ordered = s.ordered;
  broken_told = λ b among.
      ⊎_elim
      (λ (before : Contains (without_broken p.broken serial) b). told_by p told F G more s.broken_told b (filtered_is_in (λ (b : BrokenSource). not (b.serial == serial)) p.broken b before))
      (λ (same : record { serial = serial; position = p.pos } ≡ b). inr (sym (ap (λ (x : BrokenSource). x.position) same), failed))
      (Contains-push_cases (without_broken p.broken serial) (record { serial = serial; position = p.pos }) b among);
  covers = holds_broken p serial s.others;
}

-- one of two worlds
pub either_world : (told : List Answer) (G : Type 0) (test : Bool) (x y : World) → (test ≡ true → Standing (parts_of x) told G)
    → (test ≡ false → Standing (parts_of y) told G) → Standing (parts_of (cond test x y)) told G
either_world told G true x y first second = first refl
either_world told G false x y first second = second refl

-- a world in which a source was to be armed, by what the poller said
pub arm_stands : (w : World) (told : List Answer) (F G : Type 0) (key serial : ℕ) (said : PollerAnswer) → (F → G) → (fails said ≡ true → G)
    → StandingBut (parts_of w) told F key serial → Standing (parts_of (after_arm w key serial said)) told G
arm_stands w told F G key serial said more failed s =
    either_world told G (fails said) (broken_world w serial) (armed_world w key serial)
    (λ failing. broken_stands (parts_of w) told F G key serial more (failed failing) s)
    (λ armed. armed_stands (parts_of w) told F G key serial (wanted w serial) more (wants_wanted w serial) s)
