-- What is read at a key, and that each source stays at its key with its listeners where one of them changes.
use Rattle.std.proofs.Common.{◌≡◌, ◌≢◌, ℕ, Bool, true, false, if◌then◌else◌, List, [], ◌∷◌, slice_set, Option, None, Some, IfSome, Result, refl, sym, ap, ◌∙◌, subst, ⊎_elim}
use Rattle.std.proofs.lemmas.Bool.{cases_eq}
use Rattle.aio_base.specs.declared.names.Dir.{Dir}
use Rattle.aio_base.specs.declared.names.Interest.{Interest}
use Rattle.aio_base.specs.declared.names.Key.{Key}
use Rattle.aio_base.specs.declared.names.Waker.{Waker}
use Rattle.aio_base.specs.declared.outcomes.Failed.{Failed}
use Rattle.aio_base.specs.Machine.{is_waker}
use Rattle.aio_base.specs.World.{directions, has_dir}
use Rattle.aio_listen.specs.declared.ticket.Ticket.{Ticket}
use Rattle.aio_listen.specs.Listening.{Holds, Listening}
use Rattle.aio_listen.proofs.ListeningLaws.{has_ticket-emptied}
use Rattle.aio_source.specs.Lent.{settled}
use Rattle.aio_source.proofs.DirectionCases.{each_put}
use Rattle.aio_source.specs.Rules.{Polling, polling, is_ready, seen, stored, direction_of, with_direction, handled, handled_in, handled_along, handling}
use Rattle.aio_source.specs.Values.{DirectionValues, SourceValue}
use Rattle.aio_react.specs.declared.entries.Listener.{Listener}
use Rattle.aio_react.specs.declared.entries.SourceEntry.{SourceEntry}
use Rattle.aio_react.specs.Cores.{entry_at, AreKeyed, AreListed, IsListenedTo, ticket_of, count_of}
use Rattle.aio_react.specs.Numbers.{value_of}
use Rattle.aio_react.proofs.sources.SourceChanges.{KeepsListeners, keeps_listeners, place_here, place_aside}

pub key_is : (sources : List (Option SourceEntry)) (key : Key) (e : SourceEntry) → AreKeyed sources → entry_at sources key.0 ≡ Some e → key ≡ e.source.key
key_is sources key e keyed is =
    let own : e.source.key.0 ≡ key.0 = subst (λ (place : Option SourceEntry). IfSome place (λ (e : SourceEntry). e.source.key.0 ≡ key.0)) is (keyed key.0) in
    λ i. record { 0 = sym own i }

-- ## A source that keeps its key, and each ticket that it held

pub record HoldsOn (s new : SourceValue) : Type 0 where
  pub key_is : new.key ≡ s.key
  pub holds : (dir : Dir) (ticket : Ticket) → Holds (direction_of s.directions dir).listeners.entries ticket → Holds (direction_of new.directions dir).listeners.entries ticket

pub holds_itself : (s : SourceValue) → HoldsOn s s
holds_itself s = record { key_is = refl; holds = λ dir ticket held. held }

pub keyed_on : (sources : List (Option SourceEntry)) (key : ℕ) (e new : SourceEntry) → entry_at sources key ≡ Some e → HoldsOn e.source new.source → AreKeyed sources
    → AreKeyed (slice_set sources key (Some new))
keyed_on sources key e new is on keyed k =
    let Keyed : Option SourceEntry → Type 0 = λ (place : Option SourceEntry). IfSome place (λ (e : SourceEntry). e.source.key.0 ≡ k) in
    ⊎_elim
    (λ (here : k ≡ key).
    let own : e.source.key.0 ≡ k = subst Keyed (ap (λ n. entry_at sources n) here ∙ is) (keyed k) in
    subst Keyed (sym (ap (λ n. entry_at (slice_set sources key (Some new)) n) here ∙ place_here sources key e (Some new) is)) (ap (λ (k : Key). k.0) on.key_is ∙ own))
    (λ (apart : k ≢ key). subst Keyed (sym (place_aside sources key k (Some new) apart)) (keyed k))
    (cases_eq k key)

ticket_held : (e new : SourceEntry) (dir : Dir) (ticket : Option Ticket) → HoldsOn e.source new.source
    → IfSome ticket (λ ticket. Holds (direction_of e.source.directions dir).listeners.entries ticket)
    → IfSome ticket (λ ticket. Holds (direction_of new.source.directions dir).listeners.entries ticket)
ticket_held e new dir None on held = tt
ticket_held e new dir (Some ticket) on held = on.holds dir ticket held

heard_on : (sources : List (Option SourceEntry)) (key : ℕ) (e new : SourceEntry) → entry_at sources key ≡ Some e → HoldsOn e.source new.source
    → (listener : Option Listener) → IfSome listener (λ (l : Listener). IsListenedTo (entry_at sources l.key.0) l)
    → IfSome listener (λ (l : Listener). IsListenedTo (entry_at (slice_set sources key (Some new)) l.key.0) l)
heard_on sources key e new is on None heard = tt
heard_on sources key e new is on (Some l) heard =
    ⊎_elim
    (λ (here : l.key.0 ≡ key).
    let old : IsListenedTo (Some e) l = subst (λ (place : Option SourceEntry). IsListenedTo place l) (ap (λ n. entry_at sources n) here ∙ is) heard in
    subst (λ (place : Option SourceEntry). IsListenedTo place l) (sym (ap (λ n. entry_at (slice_set sources key (Some new)) n) here ∙ place_here sources key e (Some new) is))
    (ticket_held e new l.dir (ticket_of l) on old))
    (λ (apart : l.key.0 ≢ key). subst (λ (place : Option SourceEntry). IsListenedTo place l) (sym (place_aside sources key l.key.0 (Some new) apart)) heard)
    (cases_eq l.key.0 key)

pub listed_on : (sources : List (Option SourceEntry)) (listeners : List (Option Listener)) (key : ℕ) (e new : SourceEntry) → entry_at sources key ≡ Some e → HoldsOn e.source new.source
    → new.listeners ≡ e.listeners → AreListed sources listeners → AreListed (slice_set sources key (Some new)) listeners
listed_on sources listeners key e new is on count listed =
    let Counted : ℕ → Option SourceEntry → Type 0 = λ k place. IfSome place (λ (e : SourceEntry). e.listeners ≡ count_of k listeners) in
    record {
      heard = λ number. heard_on sources key e new is on (value_of listeners number) (listed.heard number);
      counted = λ k. ⊎_elim
          (λ (here : k ≡ key).
          let own : e.listeners ≡ count_of k listeners = subst (Counted k) (ap (λ n. entry_at sources n) here ∙ is) (listed.counted k) in
          subst (Counted k) (sym (ap (λ n. entry_at (slice_set sources key (Some new)) n) here ∙ place_here sources key e (Some new) is)) (count ∙ own))
          (λ (apart : k ≢ key). subst (Counted k) (sym (place_aside sources key k (Some new) apart)) (listed.counted k))
          (cases_eq k key);
      apart = listed.apart;
    }

-- ## A source that keeps its key and its listeners

pub record Keeps (s new : SourceValue) : Type 0 where
  pub key_is : new.key ≡ s.key
  pub listeners : KeepsListeners s new

keeps_hold : (s new : SourceValue) → Keeps s new → HoldsOn s new
keeps_hold s new keeps = record {
  key_is = keeps.key_is;
  holds = λ dir ticket held. subst (λ (l : Listening Waker). Holds l.entries ticket) (sym (keeps.listeners dir)) held;
}

pub keyed_again : (sources : List (Option SourceEntry)) (key : ℕ) (e new : SourceEntry) → entry_at sources key ≡ Some e → Keeps e.source new.source → AreKeyed sources
    → AreKeyed (slice_set sources key (Some new))
keyed_again sources key e new is keeps keyed = keyed_on sources key e new is (keeps_hold e.source new.source keeps) keyed

pub heard_again : (sources : List (Option SourceEntry)) (key : ℕ) (e new : SourceEntry) → entry_at sources key ≡ Some e → Keeps e.source new.source
    → (listener : Option Listener) → IfSome listener (λ (l : Listener). IsListenedTo (entry_at sources l.key.0) l)
    → IfSome listener (λ (l : Listener). IsListenedTo (entry_at (slice_set sources key (Some new)) l.key.0) l)
heard_again sources key e new is keeps listener heard = heard_on sources key e new is (keeps_hold e.source new.source keeps) listener heard

pub listed_again : (sources : List (Option SourceEntry)) (listeners : List (Option Listener)) (key : ℕ) (e new : SourceEntry) → entry_at sources key ≡ Some e → Keeps e.source new.source
    → new.listeners ≡ e.listeners → AreListed sources listeners → AreListed (slice_set sources key (Some new)) listeners
listed_again sources listeners key e new is keeps count listed = listed_on sources listeners key e new is (keeps_hold e.source new.source keeps) count listed

-- ## Events

handled_holds : (number : ℕ) (dir : Dir) (ds : DirectionValues) (here : Bool) (d : Dir) (ticket : Ticket)
    → Holds (direction_of ds d).listeners.entries ticket
    → Holds (direction_of (if here then with_direction ds dir (handled number (direction_of ds dir)) else ds) d).listeners.entries ticket
handled_holds number dir ds false d ticket = λ held. held
handled_holds number dir ds true d ticket =
    each_put (λ d v. Holds (direction_of ds d).listeners.entries ticket → Holds v.listeners.entries ticket) ds dir (handled number (direction_of ds dir))
    (λ held. has_ticket-emptied (direction_of ds dir).listeners.entries ticket ∙ held) (λ d other held. held) d

along_holds : (on : Interest) (number : ℕ) (dirs : List Dir) (ds : DirectionValues) (d : Dir) (ticket : Ticket) → Holds (direction_of ds d).listeners.entries ticket
    → Holds (direction_of (handled_along on number dirs ds) d).listeners.entries ticket
along_holds on number [] ds d ticket held = held
along_holds on number (dir ∷ dirs) ds d ticket held =
    along_holds on number dirs (handled_in on number dir ds) d ticket (handled_holds number dir ds (has_dir on dir) d ticket held)

-- an event that is handled leaves a source its key and the tickets of its listeners
pub handled_on : (s new : SourceValue) (on : Interest) (number : ℕ) (answer : Result (Unit {0}) Failed)
    → (let p = handling s on number in new ≡ settled p.arms answer p.source) → HoldsOn s new
handled_on s new on number answer is =
    subst (HoldsOn s) (sym is) (record { key_is = refl; holds = λ dir ticket held. along_holds on number directions s.directions dir ticket held })

-- ## Polls

either_keeps : (s : SourceValue) (test : Bool) (a b : Polling) → Keeps s a.source → Keeps s b.source → Keeps s (if test then a else b).source
either_keeps s true a b first second = first
either_keeps s false a b first second = second

poll_keeps : (s : SourceValue) (dir : Dir) (waker : Waker) (ticker : ℕ) → Keeps s (polling s dir waker ticker).source
poll_keeps s dir waker ticker =
    let d = direction_of s.directions dir in
    either_keeps s (is_ready d) _ _ (record { key_is = refl; listeners = keeps_listeners s dir (seen d) refl })
    (either_keeps s (is_waker waker d.waiter) _ _ (record { key_is = refl; listeners = λ dir. refl })
    (record { key_is = refl; listeners = keeps_listeners s dir (stored waker ticker d) refl }))

-- a poll leaves a source its key and its listeners
pub polled_keeps : (s new : SourceValue) (dir : Dir) (waker : Waker) (ticker : ℕ) (answer : Result (Unit {0}) Failed)
    → (let p = polling s dir waker ticker in new ≡ settled p.arms answer p.source) → Keeps s new
polled_keeps s new dir waker ticker answer is =
    let kept = poll_keeps s dir waker ticker in
    subst (Keeps s) (sym is) (record { key_is = kept.key_is; listeners = kept.listeners })
