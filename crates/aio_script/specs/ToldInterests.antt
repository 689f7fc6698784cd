-- A wait of a poller in memory does to the interests that it tells what its events say.
use Rattle.std.specs.Prelude.{◌≡◌, ℕ, Bool, true, false, List, [], ◌∷◌, ◌==◌, if◌then◌else◌, length, slice_index_or, slice_set, take, Result, refl}
use Rattle.std.proofs.Common.{◌∙◌, sym, ap, subst, ⊎_elim}
use Rattle.std.proofs.lemmas.Bool.{cases_eq, ne_eqb, eq-eqb, cases_lt}
use Rattle.std.proofs.lemmas.List.{get_or_past, get_or-set_same, get_or-set_other, set_past}
use Rattle.aio_base.specs.declared.names.Interest.{Interest}
use Rattle.aio_base.specs.declared.names.Event.{Event}
use Rattle.aio_base.specs.declared.outcomes.Failed.{Failed}
use Rattle.aio_base.specs.declared.outcomes.Waited.{Waited}
use Rattle.aio_base.specs.Devices.{Interests, with_interest, clear_interests, WaitCall}
use Rattle.aio_base.specs.declared.names.TheConstants.Interest.{NONE}
use Rattle.aio_script.specs.Interests.{interests_in, cleared}
use Rattle.aio_script.specs.Script.{Script, WaitOutcome, interests_of, failed_wait, interrupted_wait, giving_wait, ScriptWaits}

-- an entry that was cleared is none, and so is one past the end
none-at_cleared : (armed : List Interest) (key : ℕ) → slice_index_or (slice_set armed key NONE) key NONE ≡ NONE
none-at_cleared armed key =
    ⊎_elim
    (λ within. get_or-set_same armed key NONE NONE within)
    (λ past. ap (λ (entries : List Interest). slice_index_or entries key NONE) (set_past armed key NONE past) ∙ get_or_past armed key NONE past)
    (cases_lt key (length armed))

-- clearing one entry clears that key's interest, and no other
interest-after_clearing : (armed : List Interest) (gone key : ℕ) → slice_index_or (slice_set armed gone NONE) key NONE ≡ (if key == gone then NONE else slice_index_or armed key NONE)
interest-after_clearing armed gone key =
    let chosen : Bool → Interest = λ same. if same then NONE else slice_index_or armed key NONE in
    ⊎_elim
    (λ same. ap (λ (k : ℕ). slice_index_or (slice_set armed gone NONE) k NONE) same ∙ none-at_cleared armed gone ∙ sym (ap chosen (eq-eqb key gone same)))
    (λ other. get_or-set_other armed gone key NONE NONE other ∙ sym (ap chosen (ne_eqb key gone other)))
    (cases_eq key gone)

-- the entries tell what `clear_interests` makes of the interests that they told before
pub interests_cleared : (events : List Event) (armed : List Interest) (interests : Interests) → ((key : ℕ) → interests_in armed key ≡ interests key) → (key : ℕ) → interests_in (cleared events armed) key ≡ clear_interests events interests key
interests_cleared [] armed interests told key = told key
interests_cleared (event ∷ events) armed interests told key =
    interests_cleared events (slice_set armed event.key.0 NONE) (with_interest event.key.0 NONE interests)
    (λ k. interest-after_clearing armed event.key.0 k ∙ ap (λ (on : Interest). if k == event.key.0 then NONE else on) (told k))
    key

interests-wait : (fails interrupted : Bool) (old : Script) (room key : ℕ) → let outcome : WaitOutcome = if fails then failed_wait old else (if interrupted then interrupted_wait old else giving_wait old room) in interests_of outcome.after key ≡ clear_interests outcome.added (interests_of old) key
interests-wait true interrupted old room key = refl
interests-wait false true old room key = refl
interests-wait false false old room key =
    interests_cleared (take room old.noted) old.armed (interests_of old) (λ k. refl) key

-- after a wait the interests of the keys that its events name are none, and no other has changed
pub wait_clears_interests : (old new : Script) (call : WaitCall) (answer : Result Waited Failed) (added : List Event) → ScriptWaits old call answer added new → (key : ℕ) → interests_of new key ≡ clear_interests added (interests_of old) key
wait_clears_interests old new call answer added did key =
    subst (λ (outcome : WaitOutcome). interests_of outcome.after key ≡ clear_interests outcome.added (interests_of old) key) did (interests-wait old.due.wait old.due.interrupt old call.room key)
