-- What an end over a shared source tells of its connection and of its faults.
use Rattle.std.proofs.Common.{◌≡◌, ℕ, ◌<◌, ◌≤◌, ◌^◌, ◌==◌, ◌&&◌, nat_lt, Bool, true, false, if◌then◌else◌, IsTrue, List, length, take, Option, None, Some, Result, Ok, Err, refl, sym, ap, ◌∙◌, subst, arith}
use Rattle.std.specs.Prelude.{⊤, IfSome, IsSome}
use Rattle.std.proofs.lemmas.Bool.Decides.{nat_tests}
use Rattle.aio_base.specs.Connections.{ReadTells, Telling, WriteTells, rest_of, sure_read, telling_read}
use Rattle.aio_base.specs.Devices.{HasCause, Rose, raised}
use Rattle.aio_base.specs.declared.outcomes.CountFault.{CountFault}
use Rattle.aio_base.specs.declared.outcomes.Poll.{Poll}
use Rattle.aio_base.specs.declared.outcomes.Poll.TheVariants.{Ready, Pending}
use Rattle.aio_base.proofs.ConnectionRests.{reads_sure, reads_telling}
use Rattle.aio_future.specs.Tries.{FaultsWithin, IsReadAnswer, IsWriteAnswer, MovesWithin, bytes_over, fault_counts}
use Rattle.aio_future.specs.declared.tried.TryFault.{TryFault}
use Rattle.aio_future.specs.declared.tried.TryFault.TheVariants as fault
use Rattle.aio_base.specs.declared.names.Waker.{Waker}
use Rattle.aio_pairs.specs.Calls.{LeavesHost, Reads}
use Rattle.aio_pairs.specs.declared.outcomes.EndTried.{EndTried}
use Rattle.aio_base.specs.Hosts.{HostRules}
use Rattle.std.proofs.lemmas.Bool.{false≢true}
use Rattle.aio_places.specs.SourceEnds.{answer_from, call_from, if_bounded, is_sure_end, last_told, told_by, told_from, tried_from}

-- ## What the rest of a connection tells

pub sure_of : (rest : List ℕ) (sure : Bool) (t : Telling) → rest ≡ rest_of sure t → sure_read rest ≡ sure
sure_of rest sure t is = ap sure_read is ∙ reads_sure sure t

bounded_is : (left : Option (List ℕ)) → IfSome left (λ bytes. length bytes < 2 ^ 64) → if_bounded left ≡ left
bounded_is None few = refl
bounded_is (Some bytes) few = grind (arith, nat_tests, few)

abbrev bounded_telling : Telling → Telling
bounded_telling t = record { left = if_bounded t.left; ends = t.ends; sent = t.sent; prompt = t.prompt }

told_is : (t : Telling) → IfSome t.left (λ bytes. length bytes < 2 ^ 64) → bounded_telling t ≡ t
told_is t few = ap (λ left. record { left = left; ends = t.ends; sent = t.sent; prompt = t.prompt }) (bounded_is t.left few)

pub told_of : (rest : List ℕ) (sure : Bool) (t : Telling) → rest ≡ rest_of sure t → IfSome t.left (λ bytes. length bytes < 2 ^ 64) → told_by rest ≡ t
told_of rest sure t is few = ap (λ r. bounded_telling (telling_read r)) is ∙ ap bounded_telling (reads_telling sure t) ∙ told_is t few

-- ## What is told of an answer

abbrev HasFailed : Poll (Result ℕ TryFault) → Type 0
HasFailed Pending = ⊥
HasFailed (Ready (Ok n)) = ⊥
HasFailed (Ready (Err why)) = ⊤

pub read_told : (old new : Telling) (told : ℕ) (answer : Poll (Result ℕ TryFault)) (buf : List ℕ)
    → ReadTells old new (take (bytes_over answer) buf) (answer ≡ Pending) (answer ≡ Ready (Ok 0))
    → ReadTells old new (take (bytes_over (answer_from told answer)) buf) (answer_from told answer ≡ Pending) (answer_from told answer ≡ Ready (Ok 0))
read_told old new told Pending buf t = t
read_told old new told (Ready (Ok n)) buf t = t
read_told old new told (Ready (Err why)) buf t = record {
  taken = t.taken;
  at_end = λ is. elim (subst HasFailed is tt) [ ];
  ends = t.ends;
  sent = t.sent;
  prompt = t.prompt;
  never = λ prompt is. elim (subst HasFailed is tt) [ ];
}

pub write_told : (old new : Telling) (told : ℕ) (answer : Poll (Result ℕ TryFault)) (piece : List ℕ)
    → WriteTells old new (take (bytes_over answer) piece) (answer ≡ Pending)
    → WriteTells old new (take (bytes_over (answer_from told answer)) piece) (answer_from told answer ≡ Pending)
write_told old new told Pending piece t = t
write_told old new told (Ready (Ok n)) piece t = t
write_told old new told (Ready (Err why)) piece t = record {
  joined = t.joined;
  left = t.left;
  ends = t.ends;
  prompt = t.prompt;
  never = λ prompt is. elim (subst HasFailed is tt) [ ];
}

-- ## What is told of a fault

pub unsure : (before after : ℕ) (was is : Bool) (told : Option CountFault) (rest : List ℕ)
    → FaultsWithin before after was is told → sure_read rest ≡ is → IsSome told → IsTrue (sure_read rest) → ⊥
unsure before after was is told rest within same failed sure =
    (within.cause.never (sym within.sure ∙ sym same ∙ sure)).0 failed

by_test : (told : ℕ) (f : CountFault) (below : Bool) → nat_lt f.before told ≡ below → Rose f.before f.after
    → (told ≤ (if below then record { before = told; after = raised told } else f).before)
    × Rose (if below then record { before = told; after = raised told } else f).before (if below then record { before = told; after = raised told } else f).after
by_test told f true test rose = (omega arith, omega arith)
by_test told f false test rose = (grind (arith, nat_tests, test), rose)

not_below : (told : ℕ) (f : CountFault) → Rose f.before f.after
    → (told ≤ (told_from told f).before) × Rose (told_from told f).before (told_from told f).after
not_below told f rose = by_test told f (nat_lt f.before told) refl rose

silent : (told : ℕ) (sure : Bool) → HasCause told told sure (false ≡ true)
silent told sure = record { later = omega arith; rose = λ failed. absurd (false≢true failed); never = λ is. ((λ failed. absurd (false≢true failed)), refl) }

rises : (told before after : ℕ) → told < 2 ^ 64 → told ≤ before → Rose before after → (told ≤ after) × Rose told after
rises told before after few below rose = (omega (arith, few, below, rose), omega (arith, few, below, rose))

failing : (told : ℕ) (was is last : Bool) (f : CountFault) → told < 2 ^ 64 → was ≡ false → is ≡ was → Rose f.before f.after
    → FaultsWithin told (told_from told f).after (was && (told == 0)) (is && last) (Some (told_from told f))
failing told was is last f few unsure same rose =
    let above = not_below told f rose in
    let up = rises told (told_from told f).before (told_from told f).after few above.0 above.1 in
    record {
      counts = (above.0, above.1, omega arith);
      cause = record {
        later = up.0;
        rose = λ failed. up.1;
        never = λ sure. absurd (false≢true (sym (ap (λ b. b && (told == 0)) unsure) ∙ sure));
      };
      sure = ap (λ b. b && last) (same ∙ unsure) ∙ sym (ap (λ b. b && (told == 0)) unsure);
    }

is_unsure : (was : Bool) → (IsTrue was → ⊥) → was ≡ false
is_unsure true never = elim (never refl) [ ]
is_unsure false never = refl

faults_of : (told before after : ℕ) (was is : Bool) (answer : Poll (Result ℕ TryFault)) → told < 2 ^ 64
    → FaultsWithin before after was is (fault_counts answer)
    → FaultsWithin told (last_told told (answer_from told answer)) (was && (told == 0)) (is && (last_told told (answer_from told answer) == 0))
    (fault_counts (answer_from told answer))
faults_of told before after was is Pending few f = record { counts = tt; cause = silent told (was && (told == 0)); sure = ap (λ b. b && (told == 0)) f.sure }
faults_of told before after was is (Ready (Ok n)) few f = record { counts = tt; cause = silent told (was && (told == 0)); sure = ap (λ b. b && (told == 0)) f.sure }
faults_of told before after was is (Ready (Err (fault.Read why))) few f =
    failing told was is ((told_from told why).after == 0) why few (is_unsure was (λ sure. (f.cause.never sure).0 refl)) f.sure f.counts.1
faults_of told before after was is (Ready (Err (fault.Write why))) few f =
    failing told was is ((told_from told why).after == 0) why few (is_unsure was (λ sure. (f.cause.never sure).0 refl)) f.sure f.counts.1
faults_of told before after was is (Ready (Err (fault.Arm why))) few f =
    let two : CountFault = record { before = why.before; after = why.after } in
    failing told was is ((told_from told two).after == 0) two few (is_unsure was (λ sure. (f.cause.never sure).0 refl)) f.sure f.counts.1

none_told : (told : ℕ) (answer : Poll (Result ℕ TryFault)) → ¬ IsSome (fault_counts answer) → told ≡ 0 → last_told told (answer_from told answer) ≡ 0
none_told told Pending never none = none
none_told told (Ready (Ok n)) never none = none
none_told told (Ready (Err (fault.Read why))) never none = absurd (never refl)
none_told told (Ready (Err (fault.Write why))) never none = absurd (never refl)
none_told told (Ready (Err (fault.Arm why))) never none = absurd (never refl)

-- an end that told no fault has told none after a try without one
pub still_none : (told last : ℕ) (tried answered : EndTried) → answered ≡ tried_from told tried → last ≡ last_told told answered.answer → ¬ IsSome (fault_counts tried.answer)
    → told ≡ 0 → last ≡ 0
still_none told last tried answered is is_last never none = is_last ∙ ap (λ a. last_told told a.answer) is ∙ none_told told tried.answer never none

same_bytes : (told : ℕ) (answer : Poll (Result ℕ TryFault)) → bytes_over (answer_from told answer) ≡ bytes_over answer
same_bytes told Pending = refl
same_bytes told (Ready (Ok n)) = refl
same_bytes told (Ready (Err why)) = refl

-- ## An end over a connection

module _ {C : Type 0} (rest_by : C → List ℕ) (is_sure : C → Bool) (telling : C → Telling) (laid_out : (c : C) → rest_by c ≡ rest_of (is_sure c) (telling c))
    (bounded : (c : C) → IfSome (telling c).left (λ bytes. length bytes < 2 ^ 64)) where
  pub sure_by : (c : C) (rest : List ℕ) → rest_by c ≡ rest → sure_read rest ≡ is_sure c
  sure_by c rest is = sure_of rest (is_sure c) (telling c) (sym is ∙ laid_out c)

  -- a connection stays as sure as it was, and so does what its rest says
  pub stays_sure : (old new : C) (old_rest new_rest : List ℕ) → rest_by old ≡ old_rest → rest_by new ≡ new_rest → is_sure new ≡ is_sure old
      → sure_read new_rest ≡ sure_read old_rest
  stays_sure old new old_rest new_rest is_old is_new same = sure_by new new_rest is_new ∙ same ∙ sym (sure_by old old_rest is_old)

  pub told_as : (c : C) (rest : List ℕ) → rest_by c ≡ rest → told_by rest ≡ telling c
  told_as c rest is = told_of rest (is_sure c) (telling c) (sym is ∙ laid_out c) (bounded c)

  pub end_reads : (told : ℕ) (old new : C) (old_rest new_rest : List ℕ) (tried answered : EndTried) (buf : List ℕ)
      → rest_by old ≡ old_rest → rest_by new ≡ new_rest → answered ≡ tried_from told tried
      → ReadTells (telling old) (telling new) (take (bytes_over tried.answer) buf) (tried.answer ≡ Pending) (tried.answer ≡ Ready (Ok 0))
      → ReadTells (told_by old_rest) (told_by new_rest) (take (bytes_over answered.answer) buf) (answered.answer ≡ Pending) (answered.answer ≡ Ready (Ok 0))
  end_reads told old new old_rest new_rest tried answered buf is_old is_new is t =
      subst (λ a. ReadTells (told_by old_rest) (told_by new_rest) (take (bytes_over a.answer) buf) (a.answer ≡ Pending) (a.answer ≡ Ready (Ok 0))) (sym is)
      (subst (λ x. ReadTells x (told_by new_rest) (take (bytes_over (answer_from told tried.answer)) buf) (answer_from told tried.answer ≡ Pending)
      (answer_from told tried.answer ≡ Ready (Ok 0))) (sym (told_as old old_rest is_old))
      (subst (λ x. ReadTells (telling old) x (take (bytes_over (answer_from told tried.answer)) buf) (answer_from told tried.answer ≡ Pending)
      (answer_from told tried.answer ≡ Ready (Ok 0))) (sym (told_as new new_rest is_new))
      (read_told (telling old) (telling new) told tried.answer buf t)))

  pub end_writes : (told : ℕ) (old new : C) (old_rest new_rest : List ℕ) (tried answered : EndTried) (piece : List ℕ)
      → rest_by old ≡ old_rest → rest_by new ≡ new_rest → answered ≡ tried_from told tried
      → WriteTells (telling old) (telling new) (take (bytes_over tried.answer) piece) (tried.answer ≡ Pending)
      → WriteTells (told_by old_rest) (told_by new_rest) (take (bytes_over answered.answer) piece) (answered.answer ≡ Pending)
  end_writes told old new old_rest new_rest tried answered piece is_old is_new is t =
      subst (λ a. WriteTells (told_by old_rest) (told_by new_rest) (take (bytes_over a.answer) piece) (a.answer ≡ Pending)) (sym is)
      (subst (λ x. WriteTells x (told_by new_rest) (take (bytes_over (answer_from told tried.answer)) piece) (answer_from told tried.answer ≡ Pending))
      (sym (told_as old old_rest is_old))
      (subst (λ x. WriteTells (telling old) x (take (bytes_over (answer_from told tried.answer)) piece) (answer_from told tried.answer ≡ Pending))
      (sym (told_as new new_rest is_new))
      (write_told (telling old) (telling new) told tried.answer piece t)))

  pub end_fails : (told before after last : ℕ) (old new : C) (old_rest new_rest : List ℕ) (tried answered : EndTried) → told < 2 ^ 64
      → rest_by old ≡ old_rest → rest_by new ≡ new_rest → answered ≡ tried_from told tried → last ≡ last_told told answered.answer
      → FaultsWithin before after (is_sure old) (is_sure new) (fault_counts tried.answer)
      → FaultsWithin told last (is_sure_end old_rest told) (is_sure_end new_rest last) (fault_counts answered.answer)
  end_fails told before after last old new old_rest new_rest tried answered few is_old is_new is is_last f =
      subst (λ n. FaultsWithin told n (is_sure_end old_rest told) (is_sure_end new_rest n) (fault_counts answered.answer)) (sym is_last)
      (subst (λ a. FaultsWithin told (last_told told a.answer) (is_sure_end old_rest told) (is_sure_end new_rest (last_told told a.answer)) (fault_counts a.answer)) (sym is)
      (subst (λ s. FaultsWithin told (last_told told (answer_from told tried.answer)) (s && (told == 0))
      (is_sure_end new_rest (last_told told (answer_from told tried.answer))) (fault_counts (answer_from told tried.answer))) (sym (sure_by old old_rest is_old))
      (subst (λ s. FaultsWithin told (last_told told (answer_from told tried.answer)) (is_sure old && (told == 0))
      (s && (last_told told (answer_from told tried.answer) == 0)) (fault_counts (answer_from told tried.answer))) (sym (sure_by new new_rest is_new))
      (faults_of told before after (is_sure old) (is_sure new) tried.answer few f))))

pub read_alike : (told room : ℕ) (w : Waker) (tried answered : EndTried) (buf : List ℕ) → answered ≡ tried_from told tried
    → Reads room w answered (take (bytes_over answered.answer) buf) ≡ call_from told (Reads room w tried (take (bytes_over tried.answer) buf))
read_alike told room w tried answered buf is =
    ap (λ a. Reads room w a (take (bytes_over a.answer) buf)) is ∙ ap (λ n. Reads room w (tried_from told tried) (take n buf)) (same_bytes told tried.answer)

-- what a call did to its host, whatever counts its fault tells
pub leaves_alike : {H : Type 0} (rules : HostRules H) (later : H → H → Type 0) (sure : H → Bool) (told : ℕ) (tried answered : EndTried) (before after : H)
    → answered ≡ tried_from told tried → LeavesHost rules later sure tried before after → LeavesHost rules later sure answered before after
leaves_alike rules later sure told tried answered before after is l = subst (λ t. LeavesHost rules later sure t before after) (sym is) (record {
  between = l.between;
  looks = l.looks;
  wakes = l.wakes;
  silent = l.silent;
  tells = l.tells;
  goes = l.goes;
  same_pass = l.same_pass;
  no_id = l.no_id;
})

pub same_most : (told : ℕ) (tried answered : EndTried) (most : ℕ) → answered ≡ tried_from told tried → bytes_over tried.answer ≤ most → bytes_over answered.answer ≤ most
same_most told tried answered most is within =
    subst (λ t. bytes_over t.answer ≤ most) (sym is) (subst (λ n. n ≤ most) (sym (same_bytes told tried.answer)) within)

same_moves : (told most : ℕ) (answer : Poll (Result ℕ TryFault)) → MovesWithin most answer → MovesWithin most (answer_from told answer)
same_moves told most Pending within = within
same_moves told most (Ready (Ok n)) within = within
same_moves told most (Ready (Err why)) within = tt

pub moves_alike : (told : ℕ) (tried answered : EndTried) (most : ℕ) → answered ≡ tried_from told tried → MovesWithin most tried.answer → MovesWithin most answered.answer
moves_alike told tried answered most is within = subst (λ t. MovesWithin most t.answer) (sym is) (same_moves told most tried.answer within)

read_fault_from : (told : ℕ) (answer : Poll (Result ℕ TryFault)) → IsReadAnswer answer → IsReadAnswer (answer_from told answer)
read_fault_from told Pending kind = kind
read_fault_from told (Ready (Ok n)) kind = kind
read_fault_from told (Ready (Err (fault.Read f))) kind = tt
read_fault_from told (Ready (Err (fault.Arm f))) kind = tt
read_fault_from told (Ready (Err (fault.Write f))) kind = elim kind [ ]

write_fault_from : (told : ℕ) (answer : Poll (Result ℕ TryFault)) → IsWriteAnswer answer → IsWriteAnswer (answer_from told answer)
write_fault_from told Pending kind = kind
write_fault_from told (Ready (Ok n)) kind = kind
write_fault_from told (Ready (Err (fault.Read f))) kind = elim kind [ ]
write_fault_from told (Ready (Err (fault.Arm f))) kind = tt
write_fault_from told (Ready (Err (fault.Write f))) kind = tt

pub read_kind_alike : (told : ℕ) (tried answered : EndTried) → answered ≡ tried_from told tried → IsReadAnswer tried.answer → IsReadAnswer answered.answer
read_kind_alike told tried answered is kind = subst (λ t. IsReadAnswer t.answer) (sym is) (read_fault_from told tried.answer kind)

pub write_kind_alike : (told : ℕ) (tried answered : EndTried) → answered ≡ tried_from told tried → IsWriteAnswer tried.answer → IsWriteAnswer answered.answer
write_kind_alike told tried answered is kind = subst (λ t. IsWriteAnswer t.answer) (sym is) (write_fault_from told tried.answer kind)
