-- Waiters that come and go while the sources stay.
use Rattle.std.proofs.Common.{◌≡◌, ◌⊎◌, ℕ, true, List, is_some, refl, ◌∙◌, subst, sym, inl, inr, ⊎_elim}
use Rattle.std.specs.List.{Contains}
use Rattle.aio_base.specs.declared.names.Dir.{Dir}
use Rattle.aio_base.specs.declared.steps.Answer.{Answer}
use Rattle.aio_base.specs.World.{PollWaiter, ListenerEntry}
use Rattle.aio_base.proofs.WaiterLemmas.{Wants, Polls, Listens}
use Rattle.aio_laws.specs.Covered.{HasSource}
use Rattle.aio_laws.proofs.cover.Standing.{Parts, Ordered, Holds, Standing, StandingBut, holds_in}

-- A listener's entry comes from one of a list: of the same number and direction, and with a waker only where that had one or one was stored.
pub record Comes (before : List ListenerEntry) (Stored : ℕ → Dir → Type 0) (l : ListenerEntry) : Type 0 where
  pub from : ListenerEntry
  pub among : Contains before from
  pub number : from.number ≡ l.number
  pub serial : from.serial ≡ l.serial
  pub dir : from.dir ≡ l.dir
  pub waker : is_some l.waker ≡ true → Stored l.serial l.dir ⊎ (is_some from.waker ≡ true)

-- an entry that stays as it is
pub stays_listening : (before : List ListenerEntry) (Stored : ℕ → Dir → Type 0) (l : ListenerEntry) → Contains before l → Comes before Stored l
stays_listening before Stored l here = record { from = l; among = here; number = refl; serial = refl; dir = refl; waker = λ some. inr some }

-- The waiters after a change: each was there before, or is of a direction for which a waker was stored.
pub record Rewaits (p : Parts) (polls : List PollWaiter) (listeners : List ListenerEntry) (Stored : ℕ → Dir → Type 0) : Type 0 where
  pub stored_live : (serial : ℕ) (dir : Dir) → Stored serial dir → HasSource p.live serial
  pub polls_from : (q : PollWaiter) → Contains polls q → Stored q.serial q.dir ⊎ Contains p.polls q
  pub listeners_from : (l : ListenerEntry) → Contains listeners l → Comes p.listeners Stored l

abbrev pub rewaiting : Parts → List PollWaiter → List ListenerEntry → Parts
rewaiting p polls listeners = record p { polls = polls; listeners = listeners }

pub rewaits_order : (p : Parts) (polls : List PollWaiter) (listeners : List ListenerEntry) (Stored : ℕ → Dir → Type 0) → Ordered p
    → Rewaits p polls listeners Stored → Ordered (rewaiting p polls listeners)
rewaits_order p polls listeners Stored o r = record {
  keys_differ = o.keys_differ;
  serials_differ = o.serials_differ;
  serials_given = o.serials_given;
  polls_live = λ q among.
      ⊎_elim (λ (stored : Stored q.serial q.dir). r.stored_live q.serial q.dir stored) (λ (before : Contains p.polls q). o.polls_live q before) (r.polls_from q among);
  listeners_live = λ l among. let c = r.listeners_from l among in subst (HasSource p.live) c.serial (o.listeners_live c.from c.among);
  numbers_drawn = λ l among. let c = r.listeners_from l among in let drawn = o.numbers_drawn c.from c.among in rw (← c.number) drawn;
  numbers_differ = λ a b first second same.
      let c = r.listeners_from a first in
      let d = r.listeners_from b second in
      let before = o.numbers_differ c.from d.from c.among d.among (c.number ∙ same ∙ sym d.number) in
      (sym c.serial ∙ before.0 ∙ d.serial, sym c.dir ∙ before.1 ∙ d.dir);
}

-- whoever waits waited before, or is of a direction for which a waker was stored
pub wants_before : (p : Parts) (polls : List PollWaiter) (listeners : List ListenerEntry) (Stored : ℕ → Dir → Type 0) → Rewaits p polls listeners Stored
    → (n : ℕ) (dir : Dir) → Wants polls listeners n dir → Stored n dir ⊎ Wants p.polls p.listeners n dir
wants_before p polls listeners Stored r n dir (Polls q among of_serial of_dir) =
    ⊎_elim
    (λ (stored : Stored q.serial q.dir). inl (subst (Stored n) of_dir (subst (λ x. Stored x q.dir) of_serial stored)))
    (λ (before : Contains p.polls q). inr (Polls q before of_serial of_dir))
    (r.polls_from q among)
wants_before p polls listeners Stored r n dir (Listens l among of_serial of_dir some) =
    let c = r.listeners_from l among in
    ⊎_elim
    (λ (stored : Stored l.serial l.dir). inl (subst (Stored n) of_dir (subst (λ x. Stored x l.dir) of_serial stored)))
    (λ (held : is_some c.from.waker ≡ true). inr (Listens c.from c.among (c.serial ∙ of_serial) (c.dir ∙ of_dir) held))
    (c.waker some)

-- what covered another source covers it still
covers_before : (p : Parts) (polls : List PollWaiter) (listeners : List ListenerEntry) (k n : ℕ) (dir : Dir) → Holds p k n dir
    → Holds (rewaiting p polls listeners) k n dir
covers_before p polls listeners k n dir holds =
    holds_in p (rewaiting p polls listeners) k n dir (λ among. among) (λ e among same. among) (λ b among same. among) holds

-- nothing has to be armed where whoever waits was covered before
pub rewaits_stands : (p : Parts) (told : List Answer) (F : Type 0) (polls : List PollWaiter) (listeners : List ListenerEntry) (Stored : ℕ → Dir → Type 0)
    → Rewaits p polls listeners Stored → ((n : ℕ) (dir : Dir) → Stored n dir → Wants p.polls p.listeners n dir) → Standing p told F
    → Standing (rewaiting p polls listeners) told F
rewaits_stands p told F polls listeners Stored r waited s = record {
  counted = s.counted;
  ordered = rewaits_order p polls listeners Stored s.ordered r;
  broken_told = s.broken_told;
  covers = λ k n dir lives wants.
      let before = ⊎_elim (λ (stored : Stored n dir). waited n dir stored) (λ (old : Wants p.polls p.listeners n dir). old) (wants_before p polls listeners Stored r n dir wants) in
      covers_before p polls listeners k n dir (s.covers k n dir lives before);
}

-- or only the source of the direction for which a waker was stored
pub rewaits_all_but : (p : Parts) (told : List Answer) (F : Type 0) (polls : List PollWaiter) (listeners : List ListenerEntry) (Stored : ℕ → Dir → Type 0)
    (key serial : ℕ) → Rewaits p polls listeners Stored → ((n : ℕ) (dir : Dir) → Stored n dir → n ≡ serial) → StandingBut p told F key serial
    → StandingBut (rewaiting p polls listeners) told F key serial
rewaits_all_but p told F polls listeners Stored key serial r only s = record {
  counted = s.counted;
  ordered = rewaits_order p polls listeners Stored s.ordered r;
  broken_told = s.broken_told;
  is_live = s.is_live;
  others = λ k n dir lives wants apart.
      ⊎_elim
      (λ (stored : Stored n dir). absurd (apart (only n dir stored)))
      (λ (before : Wants p.polls p.listeners n dir). covers_before p polls listeners k n dir (s.others k n dir lives before apart))
      (wants_before p polls listeners Stored r n dir wants);
}
