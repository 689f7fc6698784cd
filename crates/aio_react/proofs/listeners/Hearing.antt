-- A source has a listener in the world exactly where a core counts one.
use Rattle.std.proofs.Common.{◌≡◌, ◌≢◌, ℕ, zero, suc, nat_eq, ◌+◌, ◌<◌, Bool, true, false, if◌then◌else◌, cond, ◌||◌, ◌==◌, List, [], ◌∷◌, map, find, slice_index_or, Option, None, Some, IfSome, refl, sym, ap, ◌∙◌, arith}
use Rattle.std.specs.List.{AllByRecursion, IsDistinct, list_any}
use Rattle.std.proofs.lemmas.Bool.{eq-eqb, eqb-true, true≢false, false_from_ne_true}
use Rattle.aio_base.specs.World.{LiveSource, ListenerEntry}
use Rattle.aio_base.specs.Machine.{is_listener}
use Rattle.aio_react.specs.declared.entries.Listener.{Listener}
use Rattle.aio_react.specs.Cores.{count_of}
use Rattle.aio_react.specs.Numbers.{value_of}
use Rattle.aio_react.specs.Standing.{ListenerStands}
use Rattle.aio_facts.specs.Facts.{serial_in}
use Rattle.aio_facts.proofs.Departures.{Numbered, one_key}
use Rattle.aio_react.proofs.listeners.Listed.{AreOfOthers, of_number}

-- ## Among the entries

or_is_true : (b : Bool) → b || true ≡ true
or_is_true true = refl
or_is_true false = refl

differs_step : (here : Bool) (n : ℕ) (k l : ListenerEntry) (found : Option ListenerEntry) → nat_eq n k.number ≡ false → (found ≡ Some l → n == l.number ≡ false)
    → cond here (Some k) found ≡ Some l → n == l.number ≡ false
differs_step true n k l found own rest got = let same : k ≡ l = cc in ap (λ (l : ListenerEntry). n == l.number) (sym same) ∙ own
differs_step false n k l found own rest got = rest got

differs_found : (n number : ℕ) (entries : List ListenerEntry) (l : ListenerEntry) → AllByRecursion (λ m. nat_eq n m ≡ false) (map (λ (l : ListenerEntry). l.number) entries)
    → find (is_listener number) entries ≡ Some l → n == l.number ≡ false
differs_found n number [] l each found = absurd (cc)
differs_found n number (k ∷ entries) l each found =
    differs_step (is_listener number k) n k l (find (is_listener number) entries) each.0 (differs_found n number entries l each.1) found

record Among (entries : List ListenerEntry) (serial : ℕ) : Type 0 where
  entry : ListenerEntry
  found : find (is_listener entry.number) entries ≡ Some entry
  is_of : entry.serial ≡ serial

among_later : (k : ListenerEntry) (entries : List ListenerEntry) (serial : ℕ) → AllByRecursion (λ m. nat_eq k.number m ≡ false) (map (λ (l : ListenerEntry). l.number) entries)
    → Among entries serial → Among (k ∷ entries) serial
among_later k entries serial each it =
    record { entry = it.entry; found = rw (differs_found k.number it.entry.number entries it.entry each it.found) it.found; is_of = it.is_of }

among_step : (here : Bool) (k : ListenerEntry) (entries : List ListenerEntry) (serial : ℕ) → k.serial == serial ≡ here
    → AllByRecursion (λ m. nat_eq k.number m ≡ false) (map (λ (l : ListenerEntry). l.number) entries) → (list_any (λ (l : ListenerEntry). l.serial == serial) entries ≡ true → Among entries serial)
    → here || list_any (λ (l : ListenerEntry). l.serial == serial) entries ≡ true → Among (k ∷ entries) serial
among_step true k entries serial is each rest some = record { entry = k; found = rw (eq-eqb k.number k.number refl) refl; is_of = eqb-true k.serial serial is }
among_step false k entries serial is each rest some = among_later k entries serial each (rest some)

among : (entries : List ListenerEntry) (serial : ℕ) → IsDistinct nat_eq (map (λ (l : ListenerEntry). l.number) entries)
    → list_any (λ (l : ListenerEntry). l.serial == serial) entries ≡ true → Among entries serial
unfolding IsDistinct
among [] serial distinct some = absurd (true≢false (sym some))
among (k ∷ entries) serial distinct some = among_step (k.serial == serial) k entries serial refl distinct.0 (among entries serial distinct.1) some

any_step : (here : Bool) (number serial : ℕ) (k l : ListenerEntry) (found : Option ListenerEntry) (others : Bool) → l.serial ≡ serial → cond here (Some k) found ≡ Some l
    → (found ≡ Some l → others ≡ true) → (k.serial == serial) || others ≡ true
any_step true number serial k l found others is got rest = let same : k ≡ l = cc in rw (eq-eqb k.serial serial (ap (λ (l : ListenerEntry). l.serial) same ∙ is)) refl
any_step false number serial k l found others is got rest = rw (rest got) (or_is_true (k.serial == serial))

any_found : (entries : List ListenerEntry) (number serial : ℕ) (l : ListenerEntry) → l.serial ≡ serial → find (is_listener number) entries ≡ Some l
    → list_any (λ (l : ListenerEntry). l.serial == serial) entries ≡ true
any_found [] number serial l is got = absurd (cc)
any_found (k ∷ entries) number serial l is got =
    any_step (is_listener number k) number serial k l (find (is_listener number) entries) (list_any (λ (l : ListenerEntry). l.serial == serial) entries) is got
    (any_found entries number serial l is)

-- ## Among the places

others_step : (here : Bool) (l : Listener) (key n : ℕ) → l.key.0 == key ≡ here → (if here then 1 else 0) + n ≡ 0 → l.key.0 ≢ key
others_step true l key n is none = absurd (omega arith)
others_step false l key n is none = λ same. true≢false (sym (eq-eqb l.key.0 key same) ∙ is)

rest_step : (here : Bool) (n : ℕ) → (if here then 1 else 0) + n ≡ 0 → n ≡ 0
rest_step true n none = absurd (omega arith)
rest_step false n none = omega arith

pub uncounted_others : (listeners : List (Option Listener)) (key : ℕ) → count_of key listeners ≡ 0 → AreOfOthers key listeners
uncounted_others [] key none place = tt
uncounted_others (None ∷ listeners) key none zero = tt
uncounted_others (None ∷ listeners) key none (suc place) = uncounted_others listeners key none place
uncounted_others (Some l ∷ listeners) key none zero = others_step (l.key.0 == key) l key (count_of key listeners) refl none
uncounted_others (Some l ∷ listeners) key none (suc place) = uncounted_others listeners key (rest_step (l.key.0 == key) (count_of key listeners) none) place

record Counted (listeners : List (Option Listener)) (key : ℕ) : Type 0 where
  place : ℕ
  listener : Listener
  stands_there : slice_index_or listeners place None ≡ Some listener
  is_of : listener.key.0 ≡ key

later_place : (first : Option Listener) (listeners : List (Option Listener)) (key : ℕ) → Counted listeners key → Counted (first ∷ listeners) key
later_place first listeners key it = record { place = suc it.place; listener = it.listener; stands_there = it.stands_there; is_of = it.is_of }

counted_step : (here : Bool) (l : Listener) (listeners : List (Option Listener)) (key : ℕ) → l.key.0 == key ≡ here → (0 < count_of key listeners → Counted listeners key)
    → 0 < (if here then 1 else 0) + count_of key listeners → Counted (Some l ∷ listeners) key
counted_step true l listeners key is rest some = record { place = 0; listener = l; stands_there = refl; is_of = eqb-true l.key.0 key is }
counted_step false l listeners key is rest some = later_place (Some l) listeners key (rest (omega arith))

counted : (listeners : List (Option Listener)) (key : ℕ) → 0 < count_of key listeners → Counted listeners key
counted [] key some = absurd (omega arith)
counted (None ∷ listeners) key some = later_place None listeners key (counted listeners key some)
counted (Some l ∷ listeners) key some = counted_step (l.key.0 == key) l listeners key refl (counted listeners key) some

-- ## Both

has_entry : (live : List LiveSource) (begun : List ℕ) (l : Option Listener) (r : Listener) (entry : Option ListenerEntry) (serial : ℕ) → l ≡ Some r → ListenerStands live begun l entry
    → serial_in live r.key.0 ≡ Some serial → (k : ListenerEntry) × (entry ≡ Some k) × (k.serial ≡ serial)
has_entry live begun None r entry serial is stands known = absurd (cc)
has_entry live begun (Some l) r None serial is stands known = absurd stands
has_entry live begun (Some l) r (Some k) serial is stands known =
    let same : l ≡ r = cc in
    let both : Some k.serial ≡ Some serial = sym stands.0 ∙ ap (λ (l : Listener). serial_in live l.key.0) same ∙ known in
    (k, refl, cc)

pub is_heard : (live : List LiveSource) (begun : List ℕ) (listeners : List (Option Listener)) (entries : List ListenerEntry) (key serial : ℕ)
    → ((number : ℕ) → ListenerStands live begun (value_of listeners number) (find (is_listener number) entries)) → serial_in live key ≡ Some serial
    → 0 < count_of key listeners → list_any (λ (l : ListenerEntry). l.serial == serial) entries ≡ true
is_heard live begun listeners entries key serial each known some =
    let it = counted listeners key some in
    let k = has_entry live begun _ it.listener _ serial it.stands_there (each (suc it.place)) (ap (serial_in live) it.is_of ∙ known) in
    any_found entries (suc it.place) serial k.0 k.2 k.1

no_place : (live : List LiveSource) (begun : List ℕ) (l : Option Listener) (entry : Option ListenerEntry) (k : ListenerEntry) (key serial : ℕ) → Numbered live → entry ≡ Some k
    → k.serial ≡ serial → serial_in live key ≡ Some serial → ListenerStands live begun l entry → IfSome l (λ (l : Listener). l.key.0 ≢ key) → ⊥
no_place live begun None None k key serial distinct is of known stands other = cc
no_place live begun None (Some entry) k key serial distinct is of known stands other = stands
no_place live begun (Some l) None k key serial distinct is of known stands other = stands
no_place live begun (Some l) (Some entry) k key serial distinct is of known stands other =
    let same : entry ≡ k = cc in
    other (one_key live l.key.0 key serial distinct (stands.0 ∙ ap (λ (n : ℕ). Some n) (ap (λ (l : ListenerEntry). l.serial) same ∙ of)) known)

pub is_unheard : (live : List LiveSource) (begun : List ℕ) (listeners : List (Option Listener)) (entries : List ListenerEntry) (key serial : ℕ) → Numbered live
    → IsDistinct nat_eq (map (λ (l : ListenerEntry). l.number) entries)
    → ((number : ℕ) → ListenerStands live begun (value_of listeners number) (find (is_listener number) entries)) → serial_in live key ≡ Some serial
    → AreOfOthers key listeners → list_any (λ (l : ListenerEntry). l.serial == serial) entries ≡ false
is_unheard live begun listeners entries key serial distinct numbers each known others =
    false_from_ne_true _ (λ some.
    let it = among entries serial numbers some in
    no_place live begun _ _ it.entry key serial distinct it.found it.is_of known (each it.entry.number) (of_number listeners key it.entry.number others))
