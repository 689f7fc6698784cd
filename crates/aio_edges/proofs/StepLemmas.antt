-- What the steps on a word make of what is owed.
use Rattle.std.proofs.Common.{arith, ◌≡◌, ◌⊎◌, inl, inr, ◌&&◌, ◌||◌, ℕ, ◌+◌, ◌<◌, Bool, true, false, refl, sym, ap, ◌∙◌, subst, List, [], ◌∷◌}
use Rattle.std.specs.Prelude.{bit_and, bit_or, if◌then◌else◌}
use Rattle.aio_base.specs.declared.names.Dir.{Dir}
use Rattle.aio_base.specs.declared.names.Dir.TheVariants.{Read, Write, Priority}
use Rattle.aio_base.specs.declared.names.TheConstants.Interest.{NONE}
use Rattle.aio_base.specs.World.{has_any, has_dir}
use Rattle.aio_edges.specs.Words.{edge_bits, edge_bit, has_bit, owed_in, told_bits, armed_bits}
use Rattle.aio_edges.specs.Steps.{EdgeStep, Joins, Expects, Disarms, Arms, Takes, Keeps, Tells, Looks, Gives, Puts, IsSeenTo, Kept, OnlyAdds, after_step, after_steps, all_armed, hands_after, is_owed, without, word_after}
use Rattle.aio_edges.proofs.WordLemmas.{bit_goes, bit_stays, bit_was}

both : (a b c d : Bool) → (a ≡ true → c ≡ true) → (b ≡ true → d ≡ true) → (a && b) ≡ true → (c && d) ≡ true
both true true c d one two set = ap (λ (x : Bool). x && d) (one refl) ∙ two refl
both true false c d one two set = absurd cc
both false b c d one two set = absurd cc

either : (a b c d : Bool) → (a ≡ true → c ≡ true) → (b ≡ true → d ≡ true) → (a || b) ≡ true → (c || d) ≡ true
either true b c d one two set = ap (λ (x : Bool). x || d) (one refl)
either false true true d one two set = refl
either false true false d one two set = two refl
either false false c d one two set = absurd cc

-- nothing is owed where nothing that may be armed was kept
pub unarmed_owes_nothing : (word keep : ℕ) → bit_and keep 4 ≡ 0 → bit_and keep 8 ≡ 0 → owed_in (bit_and word keep) ≡ NONE
unarmed_owes_nothing word keep read write =
    ap (λ (set : Bool). record { read = set && has_bit (bit_and word keep) 1; write = has_bit (bit_and word keep) 8 && has_bit (bit_and word keep) 2; priority = false }) (bit_goes word keep 4 read)
    ∙ ap (λ (set : Bool). record { read = false; write = set && has_bit (bit_and word keep) 2; priority = false }) (bit_goes word keep 8 write)

expects_no_read : (read write : Bool) → bit_and (without (all_armed + ((if read then 1 else 0) + (if write then 2 else 0)))) 4 ≡ 0
expects_no_read true true = refl
expects_no_read true false = refl
expects_no_read false true = refl
expects_no_read false false = refl

expects_no_write : (read write : Bool) → bit_and (without (all_armed + ((if read then 1 else 0) + (if write then 2 else 0)))) 8 ≡ 0
expects_no_write true true = refl
expects_no_write true false = refl
expects_no_write false true = refl
expects_no_write false false = refl

-- what is owed stays owed where bits are added
pub owed_stays : (word bits : ℕ) (dir : Dir) → has_dir (owed_in word) dir ≡ true → has_dir (owed_in (bit_or word bits)) dir ≡ true
owed_stays word bits Read owed =
    both (has_bit word 4) (has_bit word 1) (has_bit (bit_or word bits) 4) (has_bit (bit_or word bits) 1) (bit_stays word bits 4) (bit_stays word bits 1) owed
owed_stays word bits Write owed =
    both (has_bit word 8) (has_bit word 2) (has_bit (bit_or word bits) 8) (has_bit (bit_or word bits) 2) (bit_stays word bits 8) (bit_stays word bits 2) owed
owed_stays word bits Priority owed = absurd cc

-- what is owed was owed before bits were taken
pub owed_was : (word keep : ℕ) → is_owed (bit_and word keep) ≡ true → is_owed word ≡ true
owed_was word keep =
    either (has_bit (bit_and word keep) 8 && has_bit (bit_and word keep) 2) _ (has_bit word 8 && has_bit word 2) _
    (both _ _ _ _ (bit_was word keep 8) (bit_was word keep 2))
    (either (has_bit (bit_and word keep) 4 && has_bit (bit_and word keep) 1) _ (has_bit word 4 && has_bit word 1) _
    (both _ _ _ _ (bit_was word keep 4) (bit_was word keep 1))
    (λ none. none))

-- what a step that only adds leaves owed
pub only_adds_keeps : (step : EdgeStep) (word : ℕ) (dir : Dir) → OnlyAdds step → has_dir (owed_in word) dir ≡ true → has_dir (owed_in (word_after step word)) dir ≡ true
only_adds_keeps (Arms on) word dir adds = owed_stays word (armed_bits on) dir
only_adds_keeps (Keeps kept) word dir adds = owed_stays word (edge_bit kept) dir
only_adds_keeps (Tells on unsure) word dir adds = owed_stays word (told_bits on unsure) dir
only_adds_keeps Looks word dir adds = λ owed. owed
only_adds_keeps Puts word dir adds = λ owed. owed
only_adds_keeps Joins word dir adds = elim adds [ ]
only_adds_keeps (Expects on) word dir adds = elim adds [ ]
only_adds_keeps Disarms word dir adds = elim adds [ ]
only_adds_keeps (Takes taken) word dir adds = elim adds [ ]
only_adds_keeps Gives word dir adds = elim adds [ ]

-- ## Each key is seen to

one_more : (seen hands : ℕ) (due : Bool) → is_owed seen ≡ true → (due ≡ true) ⊎ (0 < hands_after seen hands)
one_more seen hands due owed = inr (subst (λ (b : Bool). 0 < (if b then hands + 1 else hands)) (sym owed) (omega arith))

not_owed : {X : Type 0} (word : ℕ) → owed_in word ≡ NONE → is_owed word ≡ true → X
not_owed word none owed = absurd (let is = sym (ap has_any none) ∙ owed in cc)

step_is_seen_to : (step : EdgeStep) (kept : Kept) → IsSeenTo kept → IsSeenTo (after_step step kept)
step_is_seen_to Joins kept seen owed = absurd cc
step_is_seen_to (Expects on) kept seen owed =
    not_owed (word_after (Expects on) kept.word)
    (unarmed_owes_nothing kept.word (without (all_armed + edge_bits on)) (expects_no_read on.read on.write) (expects_no_write on.read on.write)) owed
step_is_seen_to Disarms kept seen owed = not_owed (word_after Disarms kept.word) (unarmed_owes_nothing kept.word (without all_armed) refl refl) owed
step_is_seen_to (Arms on) kept seen owed = one_more (word_after (Arms on) kept.word) kept.hands kept.due owed
step_is_seen_to (Takes dir) kept seen owed = seen (owed_was kept.word (without (edge_bit dir)) owed)
step_is_seen_to (Keeps dir) kept seen owed = one_more (word_after (Keeps dir) kept.word) kept.hands kept.due owed
step_is_seen_to (Tells on unsure) kept seen owed = one_more (word_after (Tells on unsure) kept.word) kept.hands kept.due owed
step_is_seen_to Looks kept seen owed = one_more kept.word kept.hands false owed
step_is_seen_to Gives kept seen owed = not_owed (word_after Gives kept.word) (unarmed_owes_nothing kept.word (without all_armed) refl refl) owed
step_is_seen_to Puts kept seen owed = inl refl

pub steps_are_seen_to : (steps : List EdgeStep) → IsSeenTo (after_steps steps)
steps_are_seen_to [] owed = absurd cc
steps_are_seen_to (step ∷ earlier) owed = step_is_seen_to step (after_steps earlier) (steps_are_seen_to earlier) owed
