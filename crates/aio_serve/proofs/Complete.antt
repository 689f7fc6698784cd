-- Pairs over sure connections end, and a server with sure devices answers their ends.
use Rattle.std.proofs.Common.{◌≡◌, ◌⊎◌, inl, inr, ℕ, ◌+◌, ◌≤◌, Bool, true, false, List, [], ◌∷◌, length, take, Option, None, Some, refl, sym, ◌∙◌, subst, arith, length-drop}
use Rattle.std.specs.Prelude.{IsSomeAnd, IsTrue}
use Rattle.std.specs.List.{AllByRecursion}
use Rattle.std.proofs.lemmas.Bool.{false≢true}
use Rattle.aio_base.specs.Connections.{Telling}
use Rattle.aio_base.specs.Devices.{Rose}
use Rattle.aio_pairs.specs.Fits.{LongAt}
use Rattle.aio_pairs.specs.Lines.{HasNoLineFeed, lines, longest_line, unfinished}
use Rattle.aio_pairs.specs.declared.outcomes.PairEnd.{PairEnd}
use Rattle.aio_pairs.specs.declared.outcomes.PairEnd.TheVariants as pair
use Rattle.aio_pairs.specs.declared.outcomes.Side.TheVariants.{A, B}
use Rattle.aio_serve.specs.Complete.{AllOfPairs, AreShortLines, EndsInShortLines, IsComplete, NoneIsIdle}
use Rattle.aio_places.specs.Places.{all_of}
use Rattle.aio_serve.specs.Places.{EndsFit, FitsUnder, Terms, earliest_of, latest_of}
use Rattle.aio_serve.specs.Servers.{HasServeCause}
use Rattle.aio_serve.specs.declared.server.ServeFault.{ServeFault}
use Rattle.aio_serve.specs.declared.server.ServeFault.TheVariants as fault

-- ## Pairs

long_bytes : (bytes : List ℕ) → AreShortLines bytes → longest_line ≤ length (unfinished bytes) → HasNoLineFeed (take longest_line (unfinished bytes)) → ⊥
long_bytes bytes short long none = short (length (lines bytes)) (omega (arith, long, length-drop (length (lines bytes)) bytes)) none

none_is_long : (left : Option (List ℕ)) (ends sure prompt : Bool) (sent : Option (List ℕ)) (n : ℕ) → IsSomeAnd left AreShortLines
    → LongAt (all_of (record { left = left; ends = ends; sent = sent; prompt = prompt }) sure) n → ⊥
none_is_long None ends sure prompt sent n short long = elim short [ ]
none_is_long (Some bytes) ends sure prompt sent n short long = long_bytes bytes short long.0 long.1

is_not : (b : Bool) → IsTrue b → b ≡ false → ⊥
is_not b is not = false≢true (sym not ∙ is)

in_time : (t : Terms) (a b : Telling) (last now : ℕ) → (IsTrue a.prompt × IsTrue b.prompt) ⊎ NoneIsIdle t
    → (a.prompt ≡ false) ⊎ (b.prompt ≡ false) → last + t.idle ≤ now → earliest_of t.bounds.least ≤ last → now ≤ latest_of t.bounds.greatest → ⊥
in_time t a b last now (inl prompt) (inl not) passed after before = is_not a.prompt prompt.0 not
in_time t a b last now (inl prompt) (inr not) passed after before = is_not b.prompt prompt.1 not
in_time t a b last now (inr none) some passed after before = omega (arith, none, passed, after, before)

none_fails : (true ≡ false) ⊎ (true ≡ false) → ⊥
none_fails (inl not) = is_not true refl not
none_fails (inr not) = is_not true refl not

pub pair_completes : (t : Terms) (a b : Telling) (end : PairEnd) → IsTrue t.is_sure → EndsInShortLines a → EndsInShortLines b
    → (IsTrue a.prompt × IsTrue b.prompt) ⊎ NoneIsIdle t → FitsUnder t (all_of a true) (all_of b true) end → IsComplete end
pair_completes t a b (pair.Ended to_a to_b) sure ends_a ends_b time fits = tt
pair_completes t a b (pair.Idle last now) sure ends_a ends_b time fits = in_time t a b last now time fits.0 fits.1 fits.2 fits.3
pair_completes t a b (pair.TooLong A n) sure ends_a ends_b time fits = none_is_long a.left a.ends true a.prompt a.sent n ends_a.0 fits
pair_completes t a b (pair.TooLong B n) sure ends_a ends_b time fits = none_is_long b.left b.ends true b.prompt b.sent n ends_b.0 fits
pair_completes t a b (pair.ReadFault f) sure ends_a ends_b time fits = none_fails fits
pair_completes t a b (pair.WriteFault f) sure ends_a ends_b time fits = none_fails fits
pair_completes t a b (pair.ArmFault f) sure ends_a ends_b time fits = none_fails fits
pair_completes t a b (pair.NotifyFault f) sure ends_a ends_b time fits = is_not t.is_sure sure fits
pair_completes t a b pair.OutOfMemory sure ends_a ends_b time fits = tt

module _ {C : Type 0} (telling : C → Telling) (is_sure : C → Bool) where
  one_completes : (t : Terms) (a b : C) (end : PairEnd) → IsTrue t.is_sure → IsTrue (is_sure a) → IsTrue (is_sure b)
      → EndsInShortLines (telling a) → EndsInShortLines (telling b) → (IsTrue (telling a).prompt × IsTrue (telling b).prompt) ⊎ NoneIsIdle t
      → FitsUnder t (all_of (telling a) (is_sure a)) (all_of (telling b) (is_sure b)) end → IsComplete end
  one_completes t a b end sure sure_a sure_b ends_a ends_b time fits = pair_completes t (telling a) (telling b) end sure ends_a ends_b time
      (subst (λ s. FitsUnder t (all_of (telling a) true) (all_of (telling b) s) end) sure_b
      (subst (λ s. FitsUnder t (all_of (telling a) s) (all_of (telling b) (is_sure b)) end) sure_a fits))

  pub all_complete : (t : Terms) (conns : List C) (ends : List PairEnd) → IsTrue t.is_sure → AllOfPairs (λ conn. IsTrue (is_sure conn)) conns ends
      → AllOfPairs (λ conn. EndsInShortLines (telling conn)) conns ends → AllOfPairs (λ conn. IsTrue (telling conn).prompt) conns ends ⊎ NoneIsIdle t
      → EndsFit telling is_sure t conns ends → AllByRecursion IsComplete ends
  all_complete t conns [] sure all_sure all_end time fit = tt
  all_complete t [] (end ∷ ends) sure all_sure all_end time fit = elim fit [ ]
  all_complete t (a ∷ []) (end ∷ ends) sure all_sure all_end time fit = elim fit [ ]
  all_complete t (a ∷ b ∷ conns) (end ∷ ends) sure all_sure all_end (inl prompt) fit = (
    one_completes t a b end sure all_sure.0 all_sure.1 all_end.0 all_end.1 (inl (prompt.0, prompt.1)) fit.0,
    all_complete t conns ends sure all_sure.2 all_end.2 (inl prompt.2) fit.1,
  )
  all_complete t (a ∷ b ∷ conns) (end ∷ ends) sure all_sure all_end (inr none) fit = (
    one_completes t a b end sure all_sure.0 all_sure.1 all_end.0 all_end.1 (inr none) fit.0,
    all_complete t conns ends sure all_sure.2 all_end.2 (inr none) fit.1,
  )

-- ## Servers

pub memory_alone : (port_before port_after : ℕ) (f : ServeFault) → ¬ Rose port_before port_after → HasServeCause port_before port_after true true f
    → f ≡ fault.OutOfMemory
memory_alone port_before port_after (fault.Port f) stays cause =
    let rose : Rose port_before port_after = omega (arith, cause.0, cause.1, cause.2) in elim (stays rose) [ ]
memory_alone port_before port_after (fault.Wait f) stays cause = elim (is_not true refl cause.0) [ ]
memory_alone port_before port_after (fault.Notify f) stays cause = elim (is_not true refl cause.0) [ ]
memory_alone port_before port_after fault.OutOfMemory stays cause = refl
