-- What holds of the adapter after each of its calls, from what its raw calls promise.
use Rattle.std.proofs.Common.{◌≡◌, ℕ, Bool, List, Option, None, Some, Result, Ok, sym, ap, subst}
use Rattle.aio_base.specs.declared.names.Event.{Event}
use Rattle.aio_base.specs.declared.outcomes.Failed.{Failed}
use Rattle.aio_base.specs.declared.outcomes.Waited.{Waited}
use Rattle.aio_base.specs.declared.outcomes.Waited.TheVariants.{Given}
use Rattle.aio_base.specs.Devices.{Interests, changed_by, clear_interests, ArmCall, WaitCall, PollerMove, Armed, Awaited}
use Rattle.aio_base.specs.Waits.{IsCountOf}
use Rattle.aio_modes.specs.declared.mode.Mode.{Mode}
use Rattle.aio_modes.specs.Interests.{Cut}
use Rattle.aio_modes.specs.Raw.{RawLists, RawDid, RawTells}
use Rattle.aio_modes.specs.OneShots.{AreAsked, SetsEach, GivesCut, SwallowsNothing, keys_to_set}
use Rattle.aio_modes.proofs.AskingLemmas.{asked_after_call}
use Rattle.aio_modes.proofs.WaitingLemmas.{asked_after_settings, asked_after_wait}
use Rattle.aio_modes.proofs.SwallowingLemmas.{same_after_settings, swallows_nothing}

pub asked_when_done : {S : Type 0} (step : S → PollerMove → S → Type 0) (told : S → Option RawLists) (mode : S → Mode) (count : S → ℕ) (sure : S → Bool) (old new : S) (call : ArmCall) (done : Unit {0}) (armed now : Interests) → RawDid step told mode count sure old (Armed call (Ok done)) new → AreAsked (mode old) (told old) armed → now ≡ changed_by call armed → AreAsked (mode new) (told new) now
asked_when_done step told mode count sure old new call done armed now did asked is =
    subst (λ (m : Mode). AreAsked m (told new) now) (sym did.same_mode)
    (subst (AreAsked (mode old) (told new)) (sym is) (asked_after_call (mode old) (told old) (told new) call armed did.lists asked))

pub asked_when_waited : {S : Type 0} (step : S → PollerMove → S → Type 0) (told : S → Option RawLists) (mode : S → Mode) (count : S → ℕ) (sure : S → Bool) (old mid new : S) (call : WaitCall) (answer : Result Waited Failed) (raw : List Event) (armed now : Interests)
    → RawDid step told mode count sure old (Awaited call answer raw) mid → IsCountOf answer call.room raw → AreAsked (mode old) (told old) armed → now ≡ clear_interests (Cut raw armed) armed
    → SetsEach (RawDid step told mode count sure) now mid (keys_to_set (mode mid) raw) new → AreAsked (mode new) (told new) now
asked_when_waited step told mode count sure old mid new call answer raw armed now did counted asked is sets =
    asked_after_settings step told mode count sure now mid (keys_to_set (mode mid) raw) new sets
    (subst (λ (m : Mode). AreAsked m (told mid) now) (sym did.same_mode)
    (subst (AreAsked (mode old) (told mid)) (sym is) (asked_after_wait (mode old) (told old) (told mid) call answer raw armed counted did.lists asked)))

pub swallows_when_waited : {S : Type 0} (step : S → PollerMove → S → Type 0) (told : S → Option RawLists) (mode : S → Mode) (count : S → ℕ) (sure : S → Bool) (old mid new : S) (call : WaitCall) (answer : Result Waited Failed) (raw : List Event) (armed now : Interests)
    → RawDid step told mode count sure old (Awaited call answer raw) mid → IsCountOf answer call.room raw → now ≡ clear_interests (Cut raw armed) armed
    → SetsEach (RawDid step told mode count sure) now mid (keys_to_set (mode mid) raw) new → SwallowsNothing (mode old) (told old) armed (Cut raw armed) (told new) now
swallows_when_waited step told mode count sure old mid new call answer raw armed now did counted is sets =
    subst (SwallowsNothing (mode old) (told old) armed (Cut raw armed) (told new)) (sym is)
    (swallows_nothing (mode old) (told old) (told mid) (told new) call answer raw armed counted did.lists (λ key unnamed. same_after_settings step told mode count sure (mode mid) now mid raw new key unnamed sets))

cut-when-given : (mode : Mode) (old new : Option RawLists) (call : WaitCall) (n m : ℕ) (raw : List Event) (armed : Interests) → RawTells mode (Awaited call (Ok (Given n)) raw) old new → GivesCut mode old armed call.room (Ok (Given m)) (Cut raw armed)
cut-when-given mode None new call n m raw armed tells = tt
cut-when-given mode (Some lists) new call n m raw armed (given, told) = ap (λ (events : List Event). Cut events armed) given

pub gives_when_waited : {S : Type 0} (step : S → PollerMove → S → Type 0) (told : S → Option RawLists) (mode : S → Mode) (count : S → ℕ) (sure : S → Bool) (old mid : S) (call : WaitCall) (answer : Result Waited Failed) (n m : ℕ) (raw : List Event) (armed : Interests)
    → answer ≡ Ok (Given n) → RawDid step told mode count sure old (Awaited call answer raw) mid → GivesCut (mode old) (told old) armed call.room (Ok (Given m)) (Cut raw armed)
gives_when_waited step told mode count sure old mid call answer n m raw armed is did = cut-when-given (mode old) (told old) (told mid) call n m raw armed (subst (λ (a : Result Waited Failed). RawTells (mode old) (Awaited call a raw) (told old) (told mid)) is did.lists)
