-- What sources and listeners are to one another where one listener changes with its source.
use Rattle.std.proofs.Common.{◌≡◌, ◌≢◌, ℕ, zero, suc, ◌+◌, Bool, if◌then◌else◌, ◌==◌, List, [], ◌∷◌, length, slice_set, slice_index_or, Option, None, Some, IfSome, option_map, refl, sym, ap, ◌∙◌, subst, arith, ⊎_elim}
use Rattle.std.proofs.lemmas.Bool.{cases_eq, eq-eqb, ne_eqb}
use Rattle.aio_base.specs.declared.names.Dir.{Dir}
use Rattle.aio_base.specs.declared.names.Key.{Key}
use Rattle.aio_base.proofs.Searching.{false_unless}
use Rattle.aio_listen.specs.declared.ticket.Ticket.{Ticket}
use Rattle.aio_listen.specs.Listening.{Holds}
use Rattle.aio_listen.specs.Tickets.{same_ticket}
use Rattle.aio_listen.proofs.ListeningLaws.{has_ticket-without_other}
use Rattle.aio_listen.proofs.TicketLemmas.{same_ticket-true}
use Rattle.aio_source.specs.Rules.{direction_of, with_direction, without_listener}
use Rattle.aio_source.proofs.DirectionCases.{each_put}
use Rattle.aio_source.specs.Values.{DirectionValues, SourceValue}
use Rattle.aio_source.specs.declared.answers.Listened.{Listened}
use Rattle.aio_react.specs.declared.entries.Listener.{Listener}
use Rattle.aio_react.specs.declared.entries.SourceEntry.{SourceEntry}
use Rattle.aio_react.specs.Cores.{entry_at, AreKeyed, AreListed, IsListenedTo, HaveOwnTickets, ticket_of, count_of}
use Rattle.aio_react.specs.Listeners.{left_by, given_up}
use Rattle.aio_react.specs.Numbers.{value_of, with_value}
use Rattle.aio_react.proofs.listeners.ListenMeets.{count_at}
use Rattle.aio_react.proofs.listeners.NewListeners.{each_place}
use Rattle.aio_react.proofs.sources.SourceChanges.{place_here, place_aside, placed_again}

-- ## Values under numbers

module _ {X : Type 0} where
  pub value_here : (xs : List (Option X)) (number : ℕ) (v : Option X) (x : X) → value_of xs number ≡ Some x → value_of (with_value xs number v) number ≡ v
  value_here xs zero v x is = absurd (cc)
  value_here xs (suc place) v x is = place_here xs place x v is

  pub value_aside : (xs : List (Option X)) (number : ℕ) (v : Option X) (n : ℕ) → n ≢ number → value_of (with_value xs number v) n ≡ value_of xs n
  value_aside xs zero v n apart = refl
  value_aside xs (suc place) v zero apart = refl
  value_aside xs (suc place) v (suc n) apart = place_aside xs place n v (λ (same : n ≡ place). apart (ap suc same))

  set_length : (xs : List (Option X)) (place : ℕ) (v : Option X) → length (slice_set xs place v) ≡ length xs
  set_length [] place v = refl
  set_length (x ∷ xs) zero v = refl
  set_length (x ∷ xs) (suc place) v = omega (arith, set_length xs place v)

  pub value_length : (xs : List (Option X)) (number : ℕ) (v : Option X) → length (with_value xs number v) ≡ length xs
  value_length xs zero v = refl
  value_length xs (suc place) v = set_length xs place v

  unset : (xs : List (Option X)) (place : ℕ) → slice_index_or xs place None ≡ None → slice_set xs place None ≡ xs
  unset [] place is = refl
  unset (x ∷ xs) zero is = ap (λ (y : Option X). y ∷ xs) (sym is)
  unset (x ∷ xs) (suc place) is = ap (λ (ys : List (Option X)). x ∷ ys) (unset xs place is)

  -- where no value was nothing is taken
  pub value_untaken : (xs : List (Option X)) (number : ℕ) → value_of xs number ≡ None → with_value xs number None ≡ xs
  value_untaken xs zero is = refl
  value_untaken xs (suc place) is = unset xs place is

  pub value_again : (xs : List (Option X)) (number : ℕ) (x : X) → value_of xs number ≡ Some x → with_value xs number (Some x) ≡ xs
  value_again xs zero x is = absurd (cc)
  value_again xs (suc place) x is = placed_again xs place x is

-- ## The source of a listener

pub heard_at : (sources : List (Option SourceEntry)) (listeners : List (Option Listener)) (number : ℕ) (l : Listener) → AreListed sources listeners → value_of listeners number ≡ Some l
    → IsListenedTo (entry_at sources l.key.0) l
heard_at sources listeners number l listed is = subst (λ (v : Option Listener). IfSome v (λ (l : Listener). IsListenedTo (entry_at sources l.key.0) l)) is (listed.heard number)

-- ## Counts

set_counts : (k : ℕ) (listeners : List (Option Listener)) (place : ℕ) (l : Listener) → slice_index_or listeners place None ≡ Some l
    → count_of k (slice_set listeners place None) + (if l.key.0 == k then 1 else 0) ≡ count_of k listeners
set_counts k [] place l is = absurd (cc)
set_counts k (None ∷ listeners) zero l is = absurd (cc)
set_counts k (Some m ∷ listeners) zero l is =
    let same : m ≡ l = cc in
    subst (λ (m : Listener). count_of k listeners + (if l.key.0 == k then 1 else 0) ≡ (if m.key.0 == k then 1 else 0) + count_of k listeners) (sym same) (omega arith)
set_counts k (None ∷ listeners) (suc place) l is = set_counts k listeners place l is
set_counts k (Some m ∷ listeners) (suc place) l is = omega (arith, set_counts k listeners place l is)

-- the count of a key without one of its listeners
pub counts_less : (k : ℕ) (listeners : List (Option Listener)) (number : ℕ) (l : Listener) → value_of listeners number ≡ Some l
    → count_of k (with_value listeners number None) + (if l.key.0 == k then 1 else 0) ≡ count_of k listeners
counts_less k listeners zero l is = absurd (cc)
counts_less k listeners (suc place) l is = set_counts k listeners place l is

put_counts : (k : ℕ) (listeners : List (Option Listener)) (place : ℕ) (l new : Listener) → slice_index_or listeners place None ≡ Some l → new.key.0 ≡ l.key.0
    → count_of k (slice_set listeners place (Some new)) ≡ count_of k listeners
put_counts k [] place l new is same = absurd (cc)
put_counts k (None ∷ listeners) zero l new is same = absurd (cc)
put_counts k (Some m ∷ listeners) zero l new is same =
    let one : m ≡ l = cc in
    ap (λ n. (if n == k then 1 else 0) + count_of k listeners) (same ∙ ap (λ (l : Listener). l.key.0) (sym one))
put_counts k (None ∷ listeners) (suc place) l new is same = put_counts k listeners place l new is same
put_counts k (Some m ∷ listeners) (suc place) l new is same = omega (arith, put_counts k listeners place l new is same)

-- another listener of the same key in its place
pub counts_again : (k : ℕ) (listeners : List (Option Listener)) (number : ℕ) (l new : Listener) → value_of listeners number ≡ Some l → new.key.0 ≡ l.key.0
    → count_of k (with_value listeners number (Some new)) ≡ count_of k listeners
counts_again k listeners zero l new is same = absurd (cc)
counts_again k listeners (suc place) l new is same = put_counts k listeners place l new is same

pub counts_mine : (key : ℕ) (listeners : List (Option Listener)) (number : ℕ) (l : Listener) → value_of listeners number ≡ Some l → l.key.0 ≡ key
    → count_of key (with_value listeners number None) + 1 ≡ count_of key listeners
counts_mine key listeners number l is mine =
    ap (λ (b : Bool). count_of key (with_value listeners number None) + (if b then 1 else 0)) (sym (eq-eqb l.key.0 key mine)) ∙ counts_less key listeners number l is

plus_nothing : (n : ℕ) → n ≡ n + 0
plus_nothing n = omega arith

counts_other : (k : ℕ) (listeners : List (Option Listener)) (number : ℕ) (l : Listener) → value_of listeners number ≡ Some l → l.key.0 ≢ k
    → count_of k (with_value listeners number None) ≡ count_of k listeners
counts_other k listeners number l is other =
    plus_nothing (count_of k (with_value listeners number None))
    ∙ ap (λ (b : Bool). count_of k (with_value listeners number None) + (if b then 1 else 0)) (sym (ne_eqb l.key.0 k other)) ∙ counts_less k listeners number l is

-- ## The change

pub record Listens (e new : SourceEntry) (key number : ℕ) (listeners listeners' : List (Option Listener)) : Type 0 where
  pub key_is : new.source.key ≡ e.source.key
  pub values_aside : (n : ℕ) → n ≢ number → value_of listeners' n ≡ value_of listeners n
  pub heard : IfSome (value_of listeners' number) (λ (m : Listener). (m.key.0 ≡ key) × IsListenedTo (Some new) m)
  pub heard_aside : (n : ℕ) → n ≢ number → IfSome (value_of listeners n) (λ (m : Listener). m.key.0 ≡ key → IsListenedTo (Some e) m → IsListenedTo (Some new) m)
  pub counted : new.listeners ≡ count_of key listeners'
  pub counted_aside : (k : ℕ) → k ≢ key → count_of k listeners' ≡ count_of k listeners
  pub apart : (a b : ℕ) → a ≢ b → IfSome (value_of listeners' a) (λ (l : Listener). IfSome (value_of listeners' b) (λ (m : Listener). HaveOwnTickets l m))

heard_here : (sources : List (Option SourceEntry)) (key : ℕ) (e new : SourceEntry) (value : Option Listener) → entry_at sources key ≡ Some e
    → IfSome value (λ (m : Listener). (m.key.0 ≡ key) × IsListenedTo (Some new) m) → IfSome value (λ (m : Listener). IsListenedTo (entry_at (slice_set sources key (Some new)) m.key.0) m)
heard_here sources key e new None is heard = tt
heard_here sources key e new (Some m) is heard =
    subst (λ (place : Option SourceEntry). IsListenedTo place m) (sym (ap (λ n. entry_at (slice_set sources key (Some new)) n) heard.0 ∙ place_here sources key e (Some new) is)) heard.1

heard_other : (sources : List (Option SourceEntry)) (key : ℕ) (e new : SourceEntry) (value : Option Listener) → entry_at sources key ≡ Some e
    → IfSome value (λ (m : Listener). m.key.0 ≡ key → IsListenedTo (Some e) m → IsListenedTo (Some new) m) → IfSome value (λ (m : Listener). IsListenedTo (entry_at sources m.key.0) m)
    → IfSome value (λ (m : Listener). IsListenedTo (entry_at (slice_set sources key (Some new)) m.key.0) m)
heard_other sources key e new None is keeps heard = tt
heard_other sources key e new (Some m) is keeps heard =
    ⊎_elim
    (λ (here : m.key.0 ≡ key).
    let old : IsListenedTo (Some e) m = subst (λ (place : Option SourceEntry). IsListenedTo place m) (ap (λ n. entry_at sources n) here ∙ is) heard in
    subst (λ (place : Option SourceEntry). IsListenedTo place m) (sym (ap (λ n. entry_at (slice_set sources key (Some new)) n) here ∙ place_here sources key e (Some new) is)) (keeps here old))
    (λ (apart : m.key.0 ≢ key). subst (λ (place : Option SourceEntry). IsListenedTo place m) (sym (place_aside sources key m.key.0 (Some new) apart)) heard)
    (cases_eq m.key.0 key)

counts_same : (place : Option SourceEntry) (a b : ℕ) → b ≡ a → IfSome place (λ (e : SourceEntry). e.listeners ≡ a) → IfSome place (λ (e : SourceEntry). e.listeners ≡ b)
counts_same None a b same is = tt
counts_same (Some e) a b same is = is ∙ sym same

pub listed_changed : (sources : List (Option SourceEntry)) (listeners listeners' : List (Option Listener)) (key number : ℕ) (e new : SourceEntry) → entry_at sources key ≡ Some e
    → Listens e new key number listeners listeners' → AreListed sources listeners → AreListed (slice_set sources key (Some new)) listeners'
listed_changed sources listeners listeners' key number e new is c listed =
    let sources' = slice_set sources key (Some new) in
    record {
      heard = λ n. ⊎_elim
          (λ (here : n ≡ number). subst (λ n. IfSome (value_of listeners' n) (λ (m : Listener). IsListenedTo (entry_at sources' m.key.0) m)) (sym here)
          (heard_here sources key e new (value_of listeners' number) is c.heard))
          (λ (other : n ≢ number). subst (λ (v : Option Listener). IfSome v (λ (m : Listener). IsListenedTo (entry_at sources' m.key.0) m)) (sym (c.values_aside n other))
          (heard_other sources key e new (value_of listeners n) is (c.heard_aside n other) (listed.heard n)))
          (cases_eq n number);
      counted = λ k. ⊎_elim
          (λ (here : k ≡ key). subst (λ n. IfSome (entry_at sources' n) (λ (e : SourceEntry). e.listeners ≡ count_of n listeners')) (sym here)
          (subst (λ (place : Option SourceEntry). IfSome place (λ (e : SourceEntry). e.listeners ≡ count_of key listeners')) (sym (place_here sources key e (Some new) is)) c.counted))
          (λ (apart : k ≢ key). subst (λ (place : Option SourceEntry). IfSome place (λ (e : SourceEntry). e.listeners ≡ count_of k listeners')) (sym (place_aside sources key k (Some new) apart))
          (counts_same (entry_at sources k) (count_of k listeners) (count_of k listeners') (c.counted_aside k apart) (listed.counted k)))
          (cases_eq k key);
      apart = c.apart;
    }

pub keyed_changed : (sources : List (Option SourceEntry)) (key : ℕ) (e new : SourceEntry) → entry_at sources key ≡ Some e → new.source.key ≡ e.source.key → AreKeyed sources
    → AreKeyed (slice_set sources key (Some new))
keyed_changed sources key e new is same keyed =
    each_place (λ k place. IfSome place (λ (e : SourceEntry). e.source.key.0 ≡ k)) sources key e new is (λ own. ap (λ (k : Key). k.0) same ∙ own) keyed

-- ## A listener that is given up

-- what the tickets of two listeners of one direction are to one another
pub own_tickets : (l m : Listener) (ticket : Ticket) → HaveOwnTickets l m → l.key.0 ≡ m.key.0 → l.dir ≡ m.dir → ticket_of l ≡ Some ticket → ticket_of m ≢ Some ticket
own_tickets l m ticket own keys dirs is =
    subst (λ (t : Option Ticket). IfSome t (λ ticket. ticket_of m ≢ Some ticket)) is (own (λ i. record { 0 = keys i }) dirs)

holds_without : (ds : DirectionValues) (dir d : Dir) (ticket other : Ticket) → (dir ≡ d → other ≢ ticket) → Holds (direction_of ds d).listeners.entries other
    → Holds (direction_of (with_direction ds dir (without_listener ticket (direction_of ds dir))) d).listeners.entries other
holds_without ds dir d ticket other =
    each_put (λ d v. (dir ≡ d → other ≢ ticket) → Holds (direction_of ds d).listeners.entries other → Holds v.listeners.entries other) ds dir
    (without_listener ticket (direction_of ds dir))
    (λ apart held. has_ticket-without_other (direction_of ds dir).listeners.entries ticket other
    (false_unless (same_ticket ticket other) (λ same. apart refl (sym (same_ticket-true ticket other same)))) ∙ held) (λ d aside apart held. held) d

ticket_stays : (s : SourceValue) (dir d : Dir) (first : Option Listened) (other : Option Ticket)
    → (dir ≡ d → IfSome first (λ (f : Listened). other ≢ Some f.ticket))
    → IfSome other (λ ticket. Holds (direction_of s.directions d).listeners.entries ticket)
    → IfSome other (λ ticket. Holds (direction_of (left_by s dir first).directions d).listeners.entries ticket)
ticket_stays s dir d None other apart held = held
ticket_stays s dir d (Some f) None apart held = tt
ticket_stays s dir d (Some f) (Some ticket) apart held =
    holds_without s.directions dir d f.ticket ticket (λ there same. apart there (ap (λ (t : Ticket). Some t) same)) held

apart_from : (m : Listener) (first : Option Listened) → IfSome (option_map (λ (f : Listened). f.ticket) first) (λ ticket. ticket_of m ≢ Some ticket) → IfSome first (λ (f : Listened). ticket_of m ≢ Some f.ticket)
apart_from m None own = tt
apart_from m (Some f) own = own

stays_heard : (e : SourceEntry) (l : Listener) (other : Option Listener) → IfSome other (λ (m : Listener). HaveOwnTickets l m)
    → IfSome other (λ (m : Listener). m.key.0 ≡ l.key.0 → IsListenedTo (Some e) m → IsListenedTo (Some (given_up e l)) m)
stays_heard e l None own = tt
stays_heard e l (Some m) own = λ same heard.
    ticket_stays e.source l.dir m.dir l.first (ticket_of m) (λ there. apart_from m l.first (own (λ i. record { 0 = sym same i }) there)) heard

pair_none : (v : Option Listener) → IfSome v (λ (l : Listener). IfSome None (λ (m : Listener). HaveOwnTickets l m))
pair_none None = tt
pair_none (Some l) = tt

pub left_key : (s : SourceValue) (dir : Dir) (first : Option Listened) → (left_by s dir first).key ≡ s.key
left_key s dir None = refl
left_key s dir (Some f) = refl

pub gives_up : (sources : List (Option SourceEntry)) (listeners : List (Option Listener)) (number : ℕ) (l : Listener) (e : SourceEntry) → entry_at sources l.key.0 ≡ Some e
    → value_of listeners number ≡ Some l → AreListed sources listeners → Listens e (given_up e l) l.key.0 number listeners (with_value listeners number None)
gives_up sources listeners number l e is there listed =
    let gone : (n : ℕ) → n ≡ number → value_of (with_value listeners number None) n ≡ None = λ n here. ap (λ n. value_of (with_value listeners number None) n) here ∙ value_here listeners number None l there in
    record {
      key_is = left_key e.source l.dir l.first;
      values_aside = λ n apart. value_aside listeners number None n apart;
      heard = subst (λ (v : Option Listener). IfSome v (λ (m : Listener). (m.key.0 ≡ l.key.0) × IsListenedTo (Some (given_up e l)) m)) (sym (gone number refl)) tt;
      heard_aside = λ n apart. stays_heard e l (value_of listeners n)
          (subst (λ (v : Option Listener). IfSome v (λ (l : Listener). IfSome (value_of listeners n) (λ (m : Listener). HaveOwnTickets l m))) there (listed.apart number n (λ (same : number ≡ n). apart (sym same))));
      counted = omega (arith, count_at sources listeners l.key.0 e is listed, counts_mine l.key.0 listeners number l there refl);
      counted_aside = λ k apart. counts_other k listeners number l there (λ (same : l.key.0 ≡ k). apart (sym same));
      apart = λ a b differ. ⊎_elim
          (λ (here : a ≡ number). subst (λ (v : Option Listener). IfSome v (λ (l : Listener). IfSome (value_of (with_value listeners number None) b) (λ (m : Listener). HaveOwnTickets l m))) (sym (gone a here)) tt)
          (λ (other : a ≢ number). ⊎_elim
          (λ (here : b ≡ number). subst (λ (v : Option Listener). IfSome (value_of (with_value listeners number None) a) (λ (l : Listener). IfSome v (λ (m : Listener). HaveOwnTickets l m))) (sym (gone b here)) (pair_none (value_of (with_value listeners number None) a)))
          (λ (elsewhere : b ≢ number). subst (λ (v : Option Listener). IfSome v (λ (l : Listener). IfSome (value_of (with_value listeners number None) b) (λ (m : Listener). HaveOwnTickets l m))) (sym (value_aside listeners number None a other))
          (subst (λ (v : Option Listener). IfSome (value_of listeners a) (λ (l : Listener). IfSome v (λ (m : Listener). HaveOwnTickets l m))) (sym (value_aside listeners number None b elsewhere)) (listed.apart a b differ)))
          (cases_eq b number))
          (cases_eq a number);
    }
