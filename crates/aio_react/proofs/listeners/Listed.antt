-- The listeners of a core, by the sources that they listen to.
use Rattle.std.proofs.Common.{◌≡◌, ◌≢◌, ℕ, zero, suc, ◌+◌, ◌≤◌, Bool, if◌then◌else◌, List, [], ◌∷◌, length, slice_index_or, set, Option, None, Some, IfSome, refl, sym, ap, ◌∙◌, subst, arith}
use Rattle.std.proofs.lemmas.Bool.{ne_eqb}
use Rattle.aio_base.specs.declared.names.Key.{Key}
use Rattle.aio_react.specs.declared.entries.Listener.{Listener}
use Rattle.aio_react.specs.declared.entries.SourceEntry.{SourceEntry}
use Rattle.aio_react.specs.Cores.{entry_at, AreListed, IsListenedTo, count_of}
use Rattle.aio_react.specs.Numbers.{value_of}
use Rattle.aio_react.specs.Sources.{placed, new_entry}
use Rattle.aio_react.proofs.sources.Places.{placed_elsewhere, each_placed, cleared_elsewhere, each_left}

-- no listener is of this key
abbrev pub AreOfOthers : ℕ → List (Option Listener) → Type 0
AreOfOthers key listeners = (place : ℕ) → IfSome (slice_index_or listeners place None) (λ (l : Listener). l.key.0 ≢ key)

pub none_counted : (key : ℕ) (listeners : List (Option Listener)) → AreOfOthers key listeners → count_of key listeners ≡ 0
none_counted key [] others = refl
none_counted key (None ∷ listeners) others = none_counted key listeners (λ place. others (suc place))
none_counted key (Some l ∷ listeners) others =
    ap (λ (b : Bool). (if b then 1 else 0) + count_of key listeners) (ne_eqb l.key.0 key (others 0))
    ∙ omega (arith, none_counted key listeners (λ place. others (suc place)))

-- the source of a listener is there
unfree : (sources : List (Option SourceEntry)) (key : ℕ) (l : Option Listener) → entry_at sources key ≡ None
    → IfSome l (λ (l : Listener). IsListenedTo (entry_at sources l.key.0) l) → IfSome l (λ (l : Listener). l.key.0 ≢ key)
unfree sources key None free heard = tt
unfree sources key (Some l) free heard = λ same. subst (λ (place : Option SourceEntry). IsListenedTo place l) (ap (entry_at sources) same ∙ free) heard

pub none_of_free : (sources : List (Option SourceEntry)) (listeners : List (Option Listener)) (key : ℕ) → AreListed sources listeners → entry_at sources key ≡ None
    → AreOfOthers key listeners
none_of_free sources listeners key listed free place = unfree sources key (slice_index_or listeners place None) free (listed.heard (suc place))

heard_still : (sources : List (Option SourceEntry)) (at : ℕ) (e : SourceEntry) (l : Option Listener) → at ≤ length sources → IfSome l (λ (l : Listener). l.key.0 ≢ at)
    → IfSome l (λ (l : Listener). IsListenedTo (entry_at sources l.key.0) l) → IfSome l (λ (l : Listener). IsListenedTo (entry_at (placed sources at e) l.key.0) l)
heard_still sources at e None within other heard = tt
heard_still sources at e (Some l) within other heard =
    subst (λ (place : Option SourceEntry). IsListenedTo place l) (sym (placed_elsewhere sources at l.key.0 e within other)) heard

pub of_number : (listeners : List (Option Listener)) (key number : ℕ) → AreOfOthers key listeners → IfSome (value_of listeners number) (λ (l : Listener). l.key.0 ≢ key)
of_number listeners key zero others = tt
of_number listeners key (suc place) others = others place

-- a source that came to a free place has no listener
pub listed_placed : (sources : List (Option SourceEntry)) (listeners : List (Option Listener)) (key : Key) → AreListed sources listeners → key.0 ≤ length sources
    → entry_at sources key.0 ≡ None → AreListed (placed sources key.0 (new_entry key)) listeners
listed_placed sources listeners key listed within free =
    let others = none_of_free sources listeners key.0 listed free in
    record {
      heard = λ number. heard_still sources key.0 (new_entry key) (value_of listeners number) within (of_number listeners key.0 number others) (listed.heard number);
      counted = each_placed sources key.0 (new_entry key) (λ k e. e.listeners ≡ count_of k listeners) within (sym (none_counted key.0 listeners others)) listed.counted;
      apart = listed.apart;
    }

heard_left : (sources : List (Option SourceEntry)) (at : ℕ) (l : Option Listener) → IfSome l (λ (l : Listener). l.key.0 ≢ at)
    → IfSome l (λ (l : Listener). IsListenedTo (entry_at sources l.key.0) l) → IfSome l (λ (l : Listener). IsListenedTo (entry_at (set sources at None) l.key.0) l)
heard_left sources at None other heard = tt
heard_left sources at (Some l) other heard = subst (λ (place : Option SourceEntry). IsListenedTo place l) (sym (cleared_elsewhere sources at l.key.0 other)) heard

-- where a source without a listener left
pub listed_left : (sources : List (Option SourceEntry)) (listeners : List (Option Listener)) (key : ℕ) → AreListed sources listeners → AreOfOthers key listeners
    → AreListed (set sources key None) listeners
listed_left sources listeners key listed others = record {
  heard = λ number. heard_left sources key (value_of listeners number) (of_number listeners key number others) (listed.heard number);
  counted = each_left sources key (λ k e. e.listeners ≡ count_of k listeners) (λ k apart. listed.counted k);
  apart = listed.apart;
}
