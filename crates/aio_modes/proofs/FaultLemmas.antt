-- The count of faults over a wait of the adapter.
use Rattle.std.proofs.Common.{◌≡◌, ◌≤◌, ℕ, Bool, IsTrue, Option, List, [], ◌∷◌, refl, sym, subst, ◌∙◌, ⊎_elim, le_trans, le_refl}
use Rattle.aio_base.specs.declared.names.Key.{Key}
use Rattle.aio_base.specs.Devices.{Interests, TellsFaults, PollerMove}
use Rattle.aio_modes.specs.declared.mode.Mode.{Mode}
use Rattle.aio_modes.specs.Raw.{RawLists, RawDid}
use Rattle.aio_modes.specs.OneShots.{SetsOne, SetsEach}

-- the count does not fall, and of a sure object it stays
pub record GoesOn {S : Type 0} (count : S → ℕ) (sure : S → Bool) (mode : S → Mode) (old new : S) : Type 0 where
  pub later : count old ≤ count new
  pub stays : sure new ≡ sure old
  pub never : IsTrue (sure old) → count new ≡ count old
  pub same_mode : mode new ≡ mode old

on-itself : {S : Type 0} (count : S → ℕ) (sure : S → Bool) (mode : S → Mode) (s : S) → GoesOn count sure mode s s
on-itself count sure mode s = record { later = le_refl (count s); stays = refl; never = λ is. refl; same_mode = refl }

after-one : {S : Type 0} (step : S → PollerMove → S → Type 0) (told : S → Option RawLists) (mode : S → Mode) (count : S → ℕ) (sure : S → Bool) (armed : Interests) (old : S) (key : Key) (new : S) → SetsOne (RawDid step told mode count sure) armed old key new → GoesOn count sure mode old new
after-one step told mode count sure armed old key new one =
    ⊎_elim
    (λ set. record { later = set.1.1.faults.cause.later; stays = set.1.1.faults.sure; never = λ is. (set.1.1.faults.cause.never is).1; same_mode = set.1.1.same_mode })
    (λ left. subst (λ s. GoesOn count sure mode old s) (sym left.1) (on-itself count sure mode old))
    one

goes-on-then : {S : Type 0} (count : S → ℕ) (sure : S → Bool) (mode : S → Mode) (a b c : S) → GoesOn count sure mode a b → GoesOn count sure mode b c → GoesOn count sure mode a c
goes-on-then count sure mode a b c one two = record {
  later = le_trans one.later two.later;
  stays = two.stays ∙ one.stays;
  never = λ is. two.never (one.stays ∙ is) ∙ one.never is;
  same_mode = two.same_mode ∙ one.same_mode;
}

each-goes-on : {S : Type 0} (step : S → PollerMove → S → Type 0) (told : S → Option RawLists) (mode : S → Mode) (count : S → ℕ) (sure : S → Bool) (armed : Interests) (old : S) (keys : List Key) (new : S) → SetsEach (RawDid step told mode count sure) armed old keys new → GoesOn count sure mode old new
each-goes-on step told mode count sure armed old [] new same = subst (λ s. GoesOn count sure mode old s) (sym same) (on-itself count sure mode old)
each-goes-on step told mode count sure armed old (key ∷ keys) new (mid, one, rest) =
    goes-on-then count sure mode old mid new (after-one step told mode count sure armed old key mid one) (each-goes-on step told mode count sure armed mid keys new rest)

-- a wait fails where the raw one does, and the settings after it are passed over
pub faults_of_wait : {S : Type 0} (step : S → PollerMove → S → Type 0) (told : S → Option RawLists) (mode : S → Mode) (count : S → ℕ) (sure : S → Bool) (armed : Interests) (old mid : S) (keys : List Key) (new : S) (failed : Type 0) → TellsFaults count sure old mid failed → SetsEach (RawDid step told mode count sure) armed mid keys new → TellsFaults count sure old new failed
faults_of_wait step told mode count sure armed old mid keys new failed raw sets =
    let on = each-goes-on step told mode count sure armed mid keys new sets in
    record {
      cause = record {
        later = le_trans raw.cause.later on.later;
        rose = λ so. le_trans (raw.cause.rose so) on.later;
        never = λ is. ((raw.cause.never is).0, on.never (raw.sure ∙ is) ∙ (raw.cause.never is).1);
      };
      sure = on.stays ∙ raw.sure;
    }
