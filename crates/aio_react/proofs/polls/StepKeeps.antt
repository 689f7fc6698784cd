-- A poll of a listener keeps what sources and listeners are to one another, and one that is refused changes nothing.
use Rattle.std.proofs.Common.{◌≡◌, ◌≢◌, ℕ, ◌-◌, ◌^◌, Bool, true, false, if◌then◌else◌, ◌||◌, ◌&&◌, is_none, List, slice_set, Option, None, Some, IfSome, Result, Ok, Err, IsErrOf, refl, sym, ap, ◌∙◌, subst, ⊎_elim}
use Rattle.std.proofs.lemmas.Bool.{cases_eq, ne_eqb}
use Rattle.aio_base.specs.declared.names.Dir.{Dir}
use Rattle.aio_base.specs.declared.names.Key.{Key}
use Rattle.aio_base.specs.declared.names.Waker.{Waker}
use Rattle.aio_base.specs.declared.outcomes.ArmFault.{ArmFault}
use Rattle.aio_base.specs.declared.outcomes.Failed.{Failed}
use Rattle.aio_base.specs.declared.outcomes.Poll.{Poll}
use Rattle.aio_base.specs.declared.outcomes.Poll.TheVariants.{Ready, Pending}
use Rattle.aio_listen.specs.declared.ticket.Ticket.{Ticket}
use Rattle.aio_listen.specs.Listening.{Holds}
use Rattle.aio_listen.specs.Tickets.{same_ticket}
use Rattle.aio_listen.proofs.ListeningLaws.{has_ticket-added, Holds-added, has_ticket-with_waker}
use Rattle.aio_source.specs.Answers.{poll_answer, armed_first, listened_in, ticket_in}
use Rattle.aio_base.specs.Devices.{ArmCall}
use Rattle.aio_source.specs.Lent.{ArmsOnce, arm_of, settled}
use Rattle.aio_source.proofs.DirectionCases.{each_put, direction_put}
use Rattle.aio_source.specs.Rules.{Polling, polling_again, listening_first, is_above, listening, listening_again, direction_of, with_source_direction}
use Rattle.aio_source.specs.Values.{DirectionValue, SourceValue}
use Rattle.aio_source.specs.declared.answers.Listened.{Listened}
use Rattle.aio_source.specs.declared.answers.ListenRefusal.{ListenRefusal}
use Rattle.aio_source.specs.declared.answers.ListenRefusal.TheVariants as listen
use Rattle.aio_react.specs.declared.entries.Listener.{Listener}
use Rattle.aio_react.specs.declared.entries.SourceEntry.{SourceEntry}
use Rattle.aio_react.specs.declared.refusals.CoreRefusal.{CoreRefusal}
use Rattle.aio_react.specs.declared.refusals.CoreRefusal.TheVariants as refusal
use Rattle.aio_react.specs.Cores.{entry_at, AreListed, IsListenedTo, HaveOwnTickets, ticket_of}
use Rattle.aio_react.specs.Listeners.{first_step, is_spent, step_refusal_of}
use Rattle.aio_react.specs.Numbers.{value_of, with_value}
use Rattle.aio_react.proofs.listeners.HeardAgain.{value_here, value_aside, counts_again, listed_changed}
use Rattle.aio_react.proofs.listeners.ListenMeets.{count_at}
use Rattle.aio_react.proofs.sources.SourceChanges.{with_state, placed_again}
use Rattle.aio_react.proofs.polls.StepEntries.{polled_listener}

-- each ticket that a direction of a source had it has
abbrev pub KeepsTickets : SourceValue → SourceValue → Type 0
KeepsTickets s new = (dir : Dir) (ticket : Ticket) → Holds (direction_of s.directions dir).listeners.entries ticket → Holds (direction_of new.directions dir).listeners.entries ticket

changed_keeps : (s : SourceValue) (dir : Dir) (d : DirectionValue) → ((ticket : Ticket) → Holds (direction_of s.directions dir).listeners.entries ticket → Holds d.listeners.entries ticket)
    → KeepsTickets s (with_source_direction s dir d)
changed_keeps s dir d each =
    each_put (λ e v. (ticket : Ticket) → Holds (direction_of s.directions e).listeners.entries ticket → Holds v.listeners.entries ticket) s.directions dir d each (λ e other ticket held. held)

either_keeps : (s : SourceValue) (test : Bool) (a b : Polling) → KeepsTickets s a.source → KeepsTickets s b.source → KeepsTickets s (if test then a else b).source
either_keeps s true a b first second = first
either_keeps s false a b first second = second

pub again_keeps : (s : SourceValue) (dir : Dir) (first : Listened) (waker : Waker) → KeepsTickets s (polling_again s dir first waker).source
again_keeps s dir first waker =
    let d = direction_of s.directions dir in
    either_keeps s (is_above first.a first.b d.tick) _ _ (λ dir ticket held. held)
    (changed_keeps s dir (listening_again first.ticket waker d) (λ ticket held. has_ticket-with_waker d.listeners.entries first.ticket waker ticket ∙ held))

neither : (b : Bool) → ◌≡◌ {A = Option CoreRefusal} (if b && false then Some refusal.TicketsSpent else None) None
neither true = refl
neither false = refl

either_key : (s : SourceValue) (test : Bool) (a b : Polling) → a.source.key ≡ s.key → b.source.key ≡ s.key → (if test then a else b).source.key ≡ s.key
either_key s true a b first second = first
either_key s false a b first second = second

pub again_key : (s : SourceValue) (dir : Dir) (first : Listened) (waker : Waker) → (polling_again s dir first waker).source.key ≡ s.key
again_key s dir first waker = either_key s (is_above first.a first.b (direction_of s.directions dir).tick) _ _ refl refl

pub first_keeps : (s : SourceValue) (dir : Dir) (ticket : Ticket) (waker : Waker) → KeepsTickets s (listening_first s dir waker (Some ticket)).source
first_keeps s dir ticket waker =
    let d = direction_of s.directions dir in
    changed_keeps s dir (listening ticket waker d)
    (λ other held. has_ticket-added d.listeners.entries ticket (Some waker) other ∙ ap (λ (b : Bool). b || same_ticket ticket other) held)

-- ## The listeners of the source

kept_heard : (e : SourceEntry) (s' : SourceValue) (m : Listener) (t : Option Ticket) → KeepsTickets e.source s'
    → IfSome t (λ ticket. Holds (direction_of e.source.directions m.dir).listeners.entries ticket) → IfSome t (λ ticket. Holds (direction_of s'.directions m.dir).listeners.entries ticket)
kept_heard e s' m None keeps heard = tt
kept_heard e s' m (Some ticket) keeps heard = keeps m.dir ticket heard

others_heard : (e : SourceEntry) (s' : SourceValue) (key : ℕ) (other : Option Listener) → KeepsTickets e.source s'
    → IfSome other (λ (m : Listener). m.key.0 ≡ key → IsListenedTo (Some e) m → IsListenedTo (Some (with_state e s')) m)
others_heard e s' key None keeps = tt
others_heard e s' key (Some m) keeps = λ same heard. kept_heard e s' m (ticket_of m) keeps heard

heard_of : (sources : List (Option SourceEntry)) (listeners : List (Option Listener)) (number : ℕ) (l : Listener) (e : SourceEntry) → AreListed sources listeners → value_of listeners number ≡ Some l
    → entry_at sources l.key.0 ≡ Some e → IsListenedTo (Some e) l
heard_of sources listeners number l e listed is there =
    subst (λ (place : Option SourceEntry). IsListenedTo place l) there
    (subst (λ (v : Option Listener). IfSome v (λ (l : Listener). IsListenedTo (entry_at sources l.key.0) l)) is (listed.heard number))

-- a source that kept its tickets has its listeners
pub listed_kept : (sources : List (Option SourceEntry)) (listeners : List (Option Listener)) (number : ℕ) (l : Listener) (e : SourceEntry) (s' : SourceValue) → entry_at sources l.key.0 ≡ Some e
    → value_of listeners number ≡ Some l → s'.key ≡ e.source.key → KeepsTickets e.source s' → AreListed sources listeners
    → AreListed (slice_set sources l.key.0 (Some (with_state e s'))) listeners
listed_kept sources listeners number l e s' there is same keeps listed =
    listed_changed sources listeners listeners l.key.0 number e (with_state e s') there
    (record {
      key_is = same;
      values_aside = λ n apart. refl;
      heard = subst (λ (v : Option Listener). IfSome v (λ (m : Listener). (m.key.0 ≡ l.key.0) × IsListenedTo (Some (with_state e s')) m)) (sym is)
          (refl, kept_heard e s' l (ticket_of l) keeps (heard_of sources listeners number l e listed is there));
      heard_aside = λ n apart. others_heard e s' l.key.0 (value_of listeners n) keeps;
      counted = count_at sources listeners l.key.0 e there listed;
      counted_aside = λ k apart. refl;
      apart = listed.apart;
    }) listed

-- ## A listener that drew a ticket

not_drawn : (e : SourceEntry) (l m : Listener) (ticket : Ticket) → (Holds (direction_of e.source.directions l.dir).listeners.entries ticket → ⊥) → IsListenedTo (Some e) m → l.dir ≡ m.dir
    → ticket_of m ≢ Some ticket
not_drawn e l m ticket fresh heard dirs same =
    fresh (subst (λ (d : Dir). Holds (direction_of e.source.directions d).listeners.entries ticket) (sym dirs)
    (subst (λ (t : Option Ticket). IfSome t (λ ticket. Holds (direction_of e.source.directions m.dir).listeners.entries ticket)) same heard))

differs_from : (t : Option Ticket) (ticket : Ticket) → t ≢ Some ticket → IfSome t (λ other. Some ticket ≢ Some other)
differs_from None ticket apart = tt
differs_from (Some other) ticket apart = λ same. apart (sym same)

there_heard : (sources : List (Option SourceEntry)) (l m : Listener) (e : SourceEntry) → entry_at sources l.key.0 ≡ Some e → l.key ≡ m.key → IsListenedTo (entry_at sources m.key.0) m → IsListenedTo (Some e) m
there_heard sources l m e there keys heard =
    subst (λ (place : Option SourceEntry). IsListenedTo place m) (ap (λ (k : Key). entry_at sources k.0) (sym keys) ∙ there) heard

drew_first : (sources : List (Option SourceEntry)) (l : Listener) (first : Listened) (e : SourceEntry) (other : Option Listener) → entry_at sources l.key.0 ≡ Some e
    → (Holds (direction_of e.source.directions l.dir).listeners.entries first.ticket → ⊥) → IfSome other (λ (m : Listener). IsListenedTo (entry_at sources m.key.0) m)
    → IfSome other (λ (m : Listener). HaveOwnTickets (polled_listener l first) m)
drew_first sources l first e None there fresh heard = tt
drew_first sources l first e (Some m) there fresh heard = λ keys dirs. not_drawn e l m first.ticket fresh (there_heard sources l m e there keys heard) dirs

drew_second : (sources : List (Option SourceEntry)) (l : Listener) (first : Listened) (e : SourceEntry) (other : Option Listener) → entry_at sources l.key.0 ≡ Some e
    → (Holds (direction_of e.source.directions l.dir).listeners.entries first.ticket → ⊥) → IfSome other (λ (m : Listener). IsListenedTo (entry_at sources m.key.0) m)
    → IfSome other (λ (m : Listener). HaveOwnTickets m (polled_listener l first))
drew_second sources l first e None there fresh heard = tt
drew_second sources l first e (Some m) there fresh heard = λ keys dirs.
    differs_from (ticket_of m) first.ticket (not_drawn e l m first.ticket fresh (there_heard sources l m e there (sym keys) heard) (sym dirs))

pub listed_drawn : (sources : List (Option SourceEntry)) (listeners : List (Option Listener)) (number : ℕ) (l : Listener) (first : Listened) (e : SourceEntry) (s' : SourceValue)
    → entry_at sources l.key.0 ≡ Some e → value_of listeners number ≡ Some l → s'.key ≡ e.source.key → KeepsTickets e.source s'
    → Holds (direction_of s'.directions l.dir).listeners.entries first.ticket → (Holds (direction_of e.source.directions l.dir).listeners.entries first.ticket → ⊥) → AreListed sources listeners
    → AreListed (slice_set sources l.key.0 (Some (with_state e s'))) (with_value listeners number (Some (polled_listener l first)))
listed_drawn sources listeners number l first e s' there is same keeps holds fresh listed =
    let l' = polled_listener l first in
    let listeners' = with_value listeners number (Some l') in
    let here : (n : ℕ) → n ≡ number → value_of listeners' n ≡ Some l' = λ n at. ap (λ n. value_of listeners' n) at ∙ value_here listeners number (Some l') l is in
    let aside : (n : ℕ) → n ≢ number → value_of listeners' n ≡ value_of listeners n = λ n apart. value_aside listeners number (Some l') n apart in
    listed_changed sources listeners listeners' l.key.0 number e (with_state e s') there
    (record {
      key_is = same;
      values_aside = aside;
      heard = subst (λ (v : Option Listener). IfSome v (λ (m : Listener). (m.key.0 ≡ l.key.0) × IsListenedTo (Some (with_state e s')) m)) (sym (here number refl)) (refl, holds);
      heard_aside = λ n apart. others_heard e s' l.key.0 (value_of listeners n) keeps;
      counted = count_at sources listeners l.key.0 e there listed ∙ sym (counts_again l.key.0 listeners number l l' is refl);
      counted_aside = λ k apart. counts_again k listeners number l l' is refl;
      apart = λ a b differ. ⊎_elim
          (λ (first_here : a ≡ number).
          let second = aside b (λ (at : b ≡ number). differ (first_here ∙ sym at)) in
          subst (λ (v : Option Listener). IfSome v (λ (m : Listener). IfSome (value_of listeners' b) (λ (n : Listener). HaveOwnTickets m n))) (sym (here a first_here))
          (subst (λ (v : Option Listener). IfSome v (λ (n : Listener). HaveOwnTickets l' n)) (sym second) (drew_first sources l first e (value_of listeners b) there fresh (listed.heard b))))
          (λ (first_aside : a ≢ number). subst (λ (v : Option Listener). IfSome v (λ (m : Listener). IfSome (value_of listeners' b) (λ (n : Listener). HaveOwnTickets m n))) (sym (aside a first_aside))
          (⊎_elim
          (λ (second_here : b ≡ number). subst (λ (v : Option Listener). IfSome (value_of listeners a) (λ (m : Listener). IfSome v (λ (n : Listener). HaveOwnTickets m n))) (sym (here b second_here))
          (drew_second sources l first e (value_of listeners a) there fresh (listed.heard a)))
          (λ (second_aside : b ≢ number). subst (λ (v : Option Listener). IfSome (value_of listeners a) (λ (m : Listener). IfSome v (λ (n : Listener). HaveOwnTickets m n))) (sym (aside b second_aside)) (listed.apart a b differ))
          (cases_eq b number)))
          (cases_eq a number);
    }) listed

-- ## What a first poll tells

pub record Drew (listened : Result Listened ListenRefusal) (answer : Poll (Result (Unit {0}) ArmFault)) (first : Listened) : Type 0 where
  pub listened_is : listened_in listened ≡ Some first
  pub ticket_is : ticket_in listened ≡ Some first.ticket
  pub answer_is : answer ≡ poll_answer false (armed_first listened)

pub drew : (listened : Result Listened ListenRefusal) (told : Poll (Result (Unit {0}) ArmFault) × Listened) → Ok told ≡ first_step listened → Drew listened told.0 told.1
drew (Ok first) told is =
    let at : told.0 ≡ Pending = cc in
    let same : told.1 ≡ first = cc in
    record { listened_is = ap (λ (f : Listened). Some f) (sym same); ticket_is = ap (λ (f : Listened). Some f.ticket) (sym same); answer_is = at }
drew (Err (listen.ArmFault fault first)) told is =
    let at : told.0 ≡ Ready (Err fault) = cc in
    let same : told.1 ≡ first = cc in
    record { listened_is = ap (λ (f : Listened). Some f) (sym same); ticket_is = ap (λ (f : Listened). Some f.ticket) (sym same); answer_is = at }
drew (Err listen.TicketsSpent) told is = absurd (cc)
drew (Err listen.OutOfMemory) told is = absurd (cc)

pub drew_none : (listened : Result Listened ListenRefusal) (refused : CoreRefusal) → Err refused ≡ first_step listened → ticket_in listened ≡ None
drew_none (Ok first) refused is = absurd (cc)
drew_none (Err (listen.ArmFault fault first)) refused is = absurd (cc)
drew_none (Err listen.TicketsSpent) refused is = refl
drew_none (Err listen.OutOfMemory) refused is = refl

pub drew_unspent : (listened : Result Listened ListenRefusal) (told : Poll (Result (Unit {0}) ArmFault) × Listened) → Ok told ≡ first_step listened → IsErrOf listened listen.TicketsSpent → ⊥
drew_unspent (Ok first) told is spent = cc
drew_unspent (Err (listen.ArmFault fault first)) told is spent = cc
drew_unspent (Err listen.TicketsSpent) told is spent = cc
drew_unspent (Err listen.OutOfMemory) told is spent = cc

-- where no ticket was drawn the source is as it was
pub source_unchanged : (s s' : SourceValue) (dir : Dir) (waker : Waker) (ticket : Option Ticket) (answer : Result (Unit {0}) Failed) → ticket ≡ None
    → (let p = listening_first s dir waker ticket in s' ≡ settled p.arms answer p.source) → s' ≡ s
source_unchanged s s' dir waker None answer none left = left
source_unchanged s s' dir waker (Some ticket) answer none left = absurd (cc)

-- nor was the poller armed
pub poller_unchanged : {S : Type 0} (step : S → ArmCall → Result (Unit {0}) Failed → S → Type 0) (s : SourceValue) (dir : Dir) (waker : Waker) (ticket : Option Ticket) (answer : Result (Unit {0}) Failed)
    (old new : S) → ticket ≡ None → (let p = listening_first s dir waker ticket in ArmsOnce step p.arms (arm_of p.source) old answer new) → new ≡ old
poller_unchanged step s dir waker None answer old new none did = did.0
poller_unchanged step s dir waker (Some ticket) answer old new none did = absurd (cc)

-- a listener that drew a ticket was not refused
pub first_unrefused : (sources : List (Option SourceEntry)) (value : Option Listener) (l : Listener) (e : SourceEntry) → value ≡ Some l → entry_at sources l.key.0 ≡ Some e
    → (direction_of e.source.directions l.dir).listeners.drawn ≢ 2 ^ 64 - 1 → step_refusal_of sources value ≡ None
first_unrefused sources value l e is there left =
    ap (step_refusal_of sources) is
    ∙ ap (λ (place : Option SourceEntry). if is_none l.first && is_spent place l.dir then Some refusal.TicketsSpent else None) there
    ∙ ap (λ (b : Bool). if is_none l.first && b then Some refusal.TicketsSpent else None) (ne_eqb _ _ left)
    ∙ neither (is_none l.first)

pub places_unchanged : (sources : List (Option SourceEntry)) (key : ℕ) (e : SourceEntry) (s' : SourceValue) → entry_at sources key ≡ Some e → s' ≡ e.source
    → slice_set sources key (Some (with_state e s')) ≡ sources
places_unchanged sources key e s' there same =
    ap (λ (s : SourceValue). slice_set sources key (Some (with_state e s))) same ∙ placed_again sources key e there

-- ## The calls

-- a later poll of a listener
pub listed_again_polled : (sources : List (Option SourceEntry)) (listeners : List (Option Listener)) (number : ℕ) (l : Listener) (first : Listened) (e : SourceEntry) (s' : SourceValue) (waker : Waker)
    (answer : Result (Unit {0}) Failed) → entry_at sources l.key.0 ≡ Some e → value_of listeners number ≡ Some l
    → (let p = polling_again e.source l.dir first waker in s' ≡ settled p.arms answer p.source) → AreListed sources listeners
    → AreListed (slice_set sources l.key.0 (Some (with_state e s'))) listeners
listed_again_polled sources listeners number l first e s' waker answer there is left listed =
    listed_kept sources listeners number l e s' there is (ap (λ (s : SourceValue). s.key) left ∙ again_key e.source l.dir first waker)
    (subst (KeepsTickets e.source) (sym left) (again_keeps e.source l.dir first waker)) listed

pub first_key : (s : SourceValue) (dir : Dir) (waker : Waker) (ticket : Option Ticket) → (listening_first s dir waker ticket).source.key ≡ s.key
first_key s dir waker None = refl
first_key s dir waker (Some ticket) = refl

drawn_holds : (s : SourceValue) (dir : Dir) (waker : Waker) (ticket : Ticket) → Holds (direction_of (listening_first s dir waker (Some ticket)).source.directions dir).listeners.entries ticket
drawn_holds s dir waker ticket =
    let d = direction_of s.directions dir in
    subst (λ (d : DirectionValue). Holds d.listeners.entries ticket) (sym (direction_put s.directions dir (listening ticket waker d))) (Holds-added d.listeners.entries ticket (Some waker))

-- a first poll, which drew a ticket
pub listed_first_polled : (sources : List (Option SourceEntry)) (listeners : List (Option Listener)) (number : ℕ) (l : Listener) (first : Listened) (e : SourceEntry) (s' : SourceValue) (waker : Waker)
    (ticket : Option Ticket) (answer : Result (Unit {0}) Failed) → entry_at sources l.key.0 ≡ Some e → value_of listeners number ≡ Some l → ticket ≡ Some first.ticket
    → IfSome ticket (λ t. Holds (direction_of e.source.directions l.dir).listeners.entries t → ⊥)
    → (let p = listening_first e.source l.dir waker ticket in s' ≡ settled p.arms answer p.source) → AreListed sources listeners
    → AreListed (slice_set sources l.key.0 (Some (with_state e s'))) (with_value listeners number (Some (polled_listener l first)))
listed_first_polled sources listeners number l first e s' waker None answer there is drew fresh left listed = absurd (cc)
listed_first_polled sources listeners number l first e s' waker (Some ticket) answer there is drew fresh left listed =
    let same : ticket ≡ first.ticket = cc in
    listed_drawn sources listeners number l first e s' there is (ap (λ (s : SourceValue). s.key) left)
    (subst (KeepsTickets e.source) (sym left) (first_keeps e.source l.dir ticket waker))
    (subst (λ (t : Ticket). Holds (direction_of s'.directions l.dir).listeners.entries t) same
    (subst (λ (s : SourceValue). Holds (direction_of s.directions l.dir).listeners.entries ticket) (sym left) (drawn_holds e.source l.dir waker ticket)))
    (subst (λ (t : Ticket). Holds (direction_of e.source.directions l.dir).listeners.entries t → ⊥) same fresh) listed

-- a first poll that is refused
pub listed_unpolled : (sources : List (Option SourceEntry)) (listeners : List (Option Listener)) (l : Listener) (e : SourceEntry) (s' : SourceValue) → entry_at sources l.key.0 ≡ Some e
    → s' ≡ e.source → AreListed sources listeners → AreListed (slice_set sources l.key.0 (Some (with_state e s'))) listeners
listed_unpolled sources listeners l e s' there same listed =
    subst (λ (places : List (Option SourceEntry)). AreListed places listeners) (sym (places_unchanged sources l.key.0 e s' there same)) listed
