-- Events of a round that are handled one after the other.
use Rattle.std.proofs.Common.{◌≡◌, ◌≢◌, ◌<◌, ⊎_elim, inl, inr, ℕ, Bool, List, [], ◌∷◌, ◌++◌, length, drop, slice_get, refl, sym, ap, ◌∙◌, subst, append-nil, append_assoc, Option, Some, None, Result, Ok, Err, OnOk, arith}
use Rattle.std.specs.List.{Contains}
use Rattle.aio_base.specs.declared.names.Event.{Event}
use Rattle.aio_base.specs.declared.names.Key.{Key}
use Rattle.aio_base.specs.declared.names.Waker.{Waker}
use Rattle.aio_base.specs.declared.outcomes.Failed.{Failed}
use Rattle.aio_base.specs.declared.outcomes.OutOfMemory.{OutOfMemory}
use Rattle.aio_base.specs.Devices.{ArmCall, Interests}
use Rattle.aio_source.specs.declared.source.SourceCell.{SourceCell}
use Rattle.aio_source.specs.declared.in_hand.RoundFault.{RoundFault}
use Rattle.aio_source.specs.declared.in_hand.RoundFault.TheVariants.{Wait, Arm}
use Rattle.aio_source.specs.InHand.{RoundValue, handled, skipped, taken_first}
use Rattle.aio_sources.specs.Events.{HandlesAt, HandlesBy, HandlesByKey, HandlesEach, HandlesOne, KeepsFault}

keeps_itself : (all_sure : Bool) (f : Option RoundFault) → KeepsFault all_sure f f
keeps_itself all_sure (Some fault) = refl
keeps_itself all_sure None = tt

keeps_further : (all_sure : Bool) (f g h : Option RoundFault) → KeepsFault all_sure f g → KeepsFault all_sure g h → KeepsFault all_sure f h
keeps_further all_sure (Some fault) g h x y = subst (λ z. KeepsFault all_sure z h) x y
keeps_further all_sure None None h x y = y
keeps_further all_sure None (Some (Arm fault)) h x y = subst (λ z. KeepsFault all_sure None z) (sym y) x
keeps_further all_sure None (Some (Wait fault)) h x y = absurd x

pub first_falls : {A : Type 0} (x : A) (l m : List A) → l ≡ x ∷ m → length m < length l
first_falls x l m is = let same : length l ≡ length (x ∷ m) = ap length is in omega arith

pub not_empty : {A : Type 0} (l : List A) → 0 < length l → l ≢ []
not_empty l long empty = let none : length l ≡ 0 = ap length empty in omega arith

-- ## One event

-- what was done on a source of this key was done by a source of that key
pub handles_by_key : {S : Type 0} (step : S → ArmCall → Result (Unit {0}) Failed → S → Type 0) (tells : S → Option Interests) (rest : S → List ℕ) (count : S → ℕ) (is_sure : S → Bool)
    (key : Key) (found put : SourceCell S) (old new : RoundValue) (answer : Result (Unit {0}) OutOfMemory) → OnOk answer (found.state.key ≡ key)
    → OnOk answer (HandlesBy step tells rest count is_sure found put old new) → OnOk answer (HandlesByKey step tells rest count is_sure key old new)
handles_by_key step tells rest count is_sure key found put old new (Ok done) own handles = record { found = found; key_is = own; put = put; handles = handles }
handles_by_key step tells rest count is_sure key found put old new (Err refused) own handles = tt

-- the first event is what is in hand before all others
in_hand : (hand : List Event) (event : Event) → slice_get hand 0 ≡ Some event → hand ≡ event ∷ drop 1 hand
in_hand [] event is = cc
in_hand (first ∷ hand) event is = let same : first ≡ event = cc in ap (λ e. e ∷ hand) same

pub one_first : (first : Option Event) (event same : Event) → first ≡ Some event → first ≡ Some same → same ≡ event
one_first first event same is is_same = cc

pub skips_one : (all_sure : Bool) (keys : List ℕ) (event : Event) (old new : RoundValue) → slice_get old.hand 0 ≡ Some event → ¬ Contains keys event.key.0 → new ≡ skipped old
    → HandlesOne all_sure keys event old new
skips_one all_sure keys event old new first none is = record {
  hand = in_hand old.hand event first ∙ sym (ap (λ (r : RoundValue). event ∷ r.hand) is);
  became = inr (none, is);
  fault = subst (λ (r : RoundValue). KeepsFault all_sure old.fault r.fault) (sym is) (keeps_itself all_sure old.fault);
}

module _ {S : Type 0} (step : S → ArmCall → Result (Unit {0}) Failed → S → Type 0) (tells : S → Option Interests) (rest : S → List ℕ) (count : S → ℕ) (is_sure : S → Bool) where
  pub handles_one : (all_sure : Bool) (keys : List ℕ) (event : Event) (old new : RoundValue) (answer : Result (Unit {0}) OutOfMemory)
      → slice_get old.hand 0 ≡ Some event → Contains keys event.key.0 → OnOk answer (HandlesByKey step tells rest count is_sure event.key old new)
      → OnOk answer (KeepsFault all_sure old.fault new.fault) → OnOk answer ((e : Event) × HandlesOne all_sure keys e old new)
  handles_one all_sure keys event old new (Ok done) first among by fault = (
    event,
    record {
      hand = in_hand old.hand event first ∙ sym (ap (λ (r : RoundValue). event ∷ r.hand) by.handles.round);
      became = inl (among, record { source = by.found.state; key_is = by.key_is; fault = by.handles.fault; round = by.handles.round });
      fault = fault;
    },
  )
  handles_one all_sure keys event old new (Err refused) first among by fault = tt

-- ## One event after the other

-- what an event that left the hand lets be
record Lets (old new : RoundValue) : Type 0 where
  more : List Waker
  taken : new.taken ≡ old.taken ++ more
  running : new.running ≡ old.running
  number : new.number ≡ old.number
  limit : new.limit ≡ old.limit
  last : new.last ≡ old.last

handled_lets : (old new : RoundValue) (wakers : List Waker) (r : RoundValue) → new ≡ r → r.taken ≡ old.taken ++ wakers → r.running ≡ old.running → r.number ≡ old.number
    → r.limit ≡ old.limit → r.last ≡ old.last → Lets old new
handled_lets old new wakers r is taken running number limit last = record {
  more = wakers;
  taken = ap (λ (x : RoundValue). x.taken) is ∙ taken;
  running = ap (λ (x : RoundValue). x.running) is ∙ running;
  number = ap (λ (x : RoundValue). x.number) is ∙ number;
  limit = ap (λ (x : RoundValue). x.limit) is ∙ limit;
  last = ap (λ (x : RoundValue). x.last) is ∙ last;
}

one_lets : (all_sure : Bool) (keys : List ℕ) (event : Event) (old new : RoundValue) → HandlesOne all_sure keys event old new → Lets old new
one_lets all_sure keys event old new one =
    ⊎_elim (λ on. handled_lets old new (taken_first old on.1.source) (handled old (taken_first old on.1.source) on.1.fault) on.1.round refl refl refl refl refl)
    (λ none. handled_lets old new [] (skipped old) none.1 (sym (append-nil old.taken)) refl refl refl refl)
    one.became

each_and_one : (all_sure : Bool) (keys : List ℕ) (events : List Event) (event : Event) (r s t : RoundValue) → HandlesEach all_sure keys events r s → HandlesOne all_sure keys event s t
    → HandlesEach all_sure keys (events ++ event ∷ []) r t
each_and_one all_sure keys [] event r s t each one = (t, subst (λ (x : RoundValue). HandlesOne all_sure keys event x t) each one, refl)
each_and_one all_sure keys (first ∷ events) event r s t (mid, was, each) one = (mid, was, each_and_one all_sure keys events event mid s t each one)

pub handles_itself : (all_sure : Bool) (keys : List ℕ) (r : RoundValue) → HandlesAt keys all_sure r r
handles_itself all_sure keys r = (
  record {
    keys = keys;
    handled = [];
    each = refl;
    hand = refl;
    more = [];
    taken = sym (append-nil r.taken);
    fault = keeps_itself all_sure r.fault;
    running = refl;
    number = refl;
    limit = refl;
    last = refl;
  },
  refl,
)

pub handles_further : (all_sure : Bool) (keys : List ℕ) (r s t : RoundValue) → HandlesAt keys all_sure r s → (event : Event) → HandlesOne all_sure keys event s t
    → HandlesAt keys all_sure r t
handles_further all_sure keys r s t (x, is) event y = let lets = one_lets all_sure keys event s t y in (
  record {
    keys = keys;
    handled = x.handled ++ event ∷ [];
    each = each_and_one all_sure keys x.handled event r s t (subst (λ ks. HandlesEach all_sure ks x.handled r s) is x.each) y;
    hand = x.hand ∙ ap (λ l. x.handled ++ l) y.hand ∙ sym (append_assoc x.handled (event ∷ []) t.hand);
    more = x.more ++ lets.more;
    taken = lets.taken ∙ ap (λ l. l ++ lets.more) x.taken ∙ append_assoc r.taken x.more lets.more;
    fault = keeps_further all_sure r.fault s.fault t.fault x.fault y.fault;
    running = lets.running ∙ x.running;
    number = lets.number ∙ x.number;
    limit = lets.limit ∙ x.limit;
    last = lets.last ∙ x.last;
  },
  refl,
)
