-- Written as lines come, the text is that of all steps.
use Rattle.std.proofs.Common.{◌≡◌, ℕ, suc, ◌+◌, ◌-◌, ◌/◌, ◌%◌, ◌≤◌, Bool, true, false, cond, List, [], ◌∷◌, ◌++◌, flat_map, Option, None, Some, refl, sym, ap, ◌∙◌, append_assoc, append-nil, arith}
use Rattle.std.specs.Prelude.{bytes_eq, nat_lt}
use Rattle.std.proofs.lemmas.Bool.Decides.{nat_tests}
use Rattle.std.proofs.lemmas.Slice.Eq.{bytes_eq-Decides}
use Rattle.aio_base.specs.declared.steps.LineFault.{LineFault}
use Rattle.aio_base.specs.declared.steps.Step.{Step}
use Rattle.aio_base.specs.declared.steps.Reason.TheVariants as reason
use Rattle.aio_base.specs.Lines.{fault_of, step_read}
use Rattle.aio_base.specs.Text.{ended_line}
use Rattle.aio_base.specs.Trace.{Trace, is_header, line_limit, lines_of, refused, trace_after, trace_from, trace_of, trace_of_lines}
use Rattle.aio_replay.specs.Language.{Told, refused_in, told_after, told_behind, told_from, told_of}
use Rattle.aio_tasks.specs.declared.steps.Line2.{Line2}
use Rattle.aio_tasks.specs.Lines2.{repeat_limit, written_line2}
use Rattle.aio_tasks.specs.Migrating.{Block, block_lines, blocks_of, full_parts, header2, lines_text, migrated, onto_block, plain_line, repeated, same_step}
use Rattle.aio_migrate.specs.MigratedInputs.{migrated_input, migrated_text}
use Rattle.aio_migrate.specs.Migration.{held_text, joined, migrate_header, migrate_reply, migration, part_text, passed}

-- ## A block that is held, in front of blocks

abbrev block : Step → ℕ → Block
block s n = record { step = s; times = n }

abbrev merged : Block → Block → List Block → Bool → List Block
merged b d ds same = cond same (block b.step (b.times + d.times) ∷ ds) (b ∷ d ∷ ds)

abbrev merge : Block → List Block → List Block
merge b [] = b ∷ []
merge b (d ∷ ds) = merged b d ds (same_step b.step d.step)

-- the lines of blocks as bytes
abbrev text_of : List Block → List ℕ
text_of bs = lines_text (flat_map block_lines bs)

abbrev tail_blocks : Option Block → List Step → List Block
tail_blocks None steps = blocks_of steps
tail_blocks (Some b) steps = merge b (blocks_of steps)

merge_one_by : (t : Step) (d : Block) (ds : List Block) (same : Bool)
    → merged (block t 1) d ds same ≡ cond same (block t (d.times + 1) ∷ ds) (block t 1 ∷ d ∷ ds)
merge_one_by t d ds true = let sum : 1 + d.times ≡ d.times + 1 = omega arith in ap (λ n. block t n ∷ ds) sum
merge_one_by t d ds false = refl

-- to hold one step in front of blocks is to put the step onto them
merge_one : (t : Step) (bs : List Block) → merge (block t 1) bs ≡ onto_block t bs
merge_one t [] = refl
merge_one t (d ∷ ds) = merge_one_by t d ds (same_step t d.step)

same_lines : (s t : Step) → same_step s t ≡ true → written_line2 (plain_line s) ≡ written_line2 (plain_line t)
same_lines s t e = (bytes_eq-Decides (written_line2 (plain_line s)) (written_line2 (plain_line t))).0 e

-- an equal step makes the block that is held longer
merge_same : (b : Block) (t : Step) (bs : List Block) → same_step b.step t ≡ true → merge b (onto_block t bs) ≡ merge (block b.step (b.times + 1)) bs
merge_same b t [] e = ap (merged b (block t 1) []) e
merge_same b t (d ∷ ds) e =
    let like : same_step b.step d.step ≡ same_step t d.step = ap (λ l. bytes_eq l (written_line2 (plain_line d.step))) (same_lines b.step t e) in
    by_test (same_step t d.step) ∙ ap (merged (block b.step (b.times + 1)) d ds) (sym like)
  where
    by_test : (u : Bool) → merge b (cond u (block t (d.times + 1) ∷ ds) (block t 1 ∷ d ∷ ds)) ≡ merged (block b.step (b.times + 1)) d ds u
    by_test true = let sum : b.times + (d.times + 1) ≡ b.times + 1 + d.times = omega arith in ap (merged b (block t (d.times + 1)) ds) e ∙ ap (λ n. block b.step n ∷ ds) sum
    by_test false = ap (merged b (block t 1) (d ∷ ds)) e

-- another step leaves it as a block of its own
merge_other : (b : Block) (t : Step) (bs : List Block) → same_step b.step t ≡ false → merge b (onto_block t bs) ≡ b ∷ onto_block t bs
merge_other b t [] e = ap (merged b (block t 1) []) e
merge_other b t (d ∷ ds) e = by_test (same_step t d.step)
  where
    by_test : (u : Bool) → merge b (cond u (block t (d.times + 1) ∷ ds) (block t 1 ∷ d ∷ ds)) ≡ b ∷ cond u (block t (d.times + 1) ∷ ds) (block t 1 ∷ d ∷ ds)
    by_test true = ap (merged b (block t (d.times + 1)) ds) e
    by_test false = ap (merged b (block t 1) (d ∷ ds)) e

-- ## The text of a block

lines_both : (a b : List Line2) → lines_text (a ++ b) ≡ lines_text a ++ lines_text b
lines_both [] b = refl
lines_both (m ∷ a) b = ap (λ t. ended_line (written_line2 m) ++ t) (lines_both a b) ∙ sym (append_assoc (ended_line (written_line2 m)) (lines_text a) (lines_text b))

text_more : (b : Block) (bs : List Block) → text_of (b ∷ bs) ≡ lines_text (block_lines b) ++ text_of bs
text_more b bs = lines_both (block_lines b) (flat_map block_lines bs)

-- a block that one line can repeat has no part more
small_block : (b : Block) → 1 ≤ b.times → b.times ≤ repeat_limit → block_lines b ≡ repeated b.step b.times
small_block b some few =
    let q : (b.times - 1) / repeat_limit ≡ 0 = omega (arith, few) in
    let r : (b.times - 1) % repeat_limit + 1 ≡ b.times = omega (arith, some, few) in
    ap (λ n. full_parts b.step n ++ repeated b.step ((b.times - 1) % repeat_limit + 1)) q ∙ ap (repeated b.step) r

-- a longer one has as much as one line can repeat in front
great_block : (s : Step) (n : ℕ) → 1 ≤ n → block_lines (block s (repeat_limit + n)) ≡ repeated s repeat_limit ++ block_lines (block s n)
great_block s n some =
    let q : (repeat_limit + n - 1) / repeat_limit ≡ suc ((n - 1) / repeat_limit) = omega (arith, some) in
    let r : (repeat_limit + n - 1) % repeat_limit ≡ (n - 1) % repeat_limit = omega (arith, some) in
    ap (λ k. full_parts s k ++ repeated s ((repeat_limit + n - 1) % repeat_limit + 1)) q
    ∙ ap (λ k. full_parts s (suc ((n - 1) / repeat_limit)) ++ repeated s (k + 1)) r
    ∙ append_assoc (repeated s repeat_limit) (full_parts s ((n - 1) / repeat_limit)) (repeated s ((n - 1) % repeat_limit + 1))

great_text_by : (s : Step) (d : Block) (ds : List Block) (same : Bool)
    → text_of (merged (block s (repeat_limit + 1)) d ds same) ≡ part_text (block s repeat_limit) ++ text_of (merged (block s 1) d ds same)
great_text_by s d ds true =
    let sum : repeat_limit + 1 + d.times ≡ repeat_limit + (1 + d.times) = omega arith in
    ap (λ n. text_of (block s n ∷ ds)) sum
    ∙ text_more (block s (repeat_limit + (1 + d.times))) ds
    ∙ ap (λ ls. lines_text ls ++ text_of ds) (great_block s (1 + d.times) (omega arith))
    ∙ ap (λ t. t ++ text_of ds) (lines_both (repeated s repeat_limit) (block_lines (block s (1 + d.times))))
    ∙ append_assoc (part_text (block s repeat_limit)) (lines_text (block_lines (block s (1 + d.times)))) (text_of ds)
    ∙ ap (λ t. part_text (block s repeat_limit) ++ t) (sym (text_more (block s (1 + d.times)) ds))
great_text_by s d ds false =
    text_more (block s (repeat_limit + 1)) (d ∷ ds)
    ∙ ap (λ ls. lines_text ls ++ text_of (d ∷ ds)) (great_block s 1 (omega arith))
    ∙ ap (λ t. t ++ text_of (d ∷ ds)) (lines_both (repeated s repeat_limit) (block_lines (block s 1)))
    ∙ append_assoc (part_text (block s repeat_limit)) (lines_text (block_lines (block s 1))) (text_of (d ∷ ds))
    ∙ ap (λ t. part_text (block s repeat_limit) ++ t) (sym (text_more (block s 1) (d ∷ ds)))

great_text : (s : Step) (bs : List Block) → text_of (merge (block s (repeat_limit + 1)) bs) ≡ part_text (block s repeat_limit) ++ text_of (merge (block s 1) bs)
great_text s [] =
    text_more (block s (repeat_limit + 1)) []
    ∙ ap (λ ls. lines_text ls ++ text_of []) (great_block s 1 (omega arith))
    ∙ ap (λ t. t ++ text_of []) (lines_both (repeated s repeat_limit) (block_lines (block s 1)))
    ∙ append_assoc (part_text (block s repeat_limit)) (lines_text (block_lines (block s 1))) (text_of [])
    ∙ ap (λ t. part_text (block s repeat_limit) ++ t) (sym (text_more (block s 1) []))
great_text s (d ∷ ds) = great_text_by s d ds (same_step s d.step)

-- ## What is held

-- what is held can be written as one part
abbrev IsHeld : Option Block → Type 0
IsHeld None = Unit {0}
IsHeld (Some b) = (1 ≤ b.times) × (b.times ≤ repeat_limit)

-- behind a step: the text is the same in all, and what is held can again be written as one part
record Passes (held : Option Block) (t : Step) (steps : List Step) (after : List ℕ × Option Block) : Type 0 where
  text : text_of (tail_blocks held (t ∷ steps)) ≡ after.0 ++ text_of (tail_blocks after.1 steps)
  bounds : IsHeld after.1

joins : (b : Block) (t : Step) (steps : List Step) (same few : Bool) → IsHeld (Some b) → same_step b.step t ≡ same → nat_lt b.times repeat_limit ≡ few
    → Passes (Some b) t steps (joined b t same few)
joins b t steps true true held like room = record { text = ap text_of (merge_same b t (blocks_of steps) like); bounds = (omega arith, grind (arith, nat_tests)) }
joins b t steps true false held like room =
    let full : b.times ≡ repeat_limit = let most = held.1 in grind (arith, nat_tests) in
    record {
      text = ap text_of (merge_same b t (blocks_of steps) like)
          ∙ ap (λ n. text_of (merge (block b.step (n + 1)) (blocks_of steps))) full
          ∙ great_text b.step (blocks_of steps)
          ∙ ap (λ n. part_text (block b.step n) ++ text_of (merge (block b.step 1) (blocks_of steps))) (sym full);
      bounds = (omega arith, omega arith);
    }
joins b t steps false few held like room = record {
  text = ap text_of (merge_other b t (blocks_of steps) like)
      ∙ text_more b (onto_block t (blocks_of steps))
      ∙ ap (λ ls. lines_text ls ++ text_of (onto_block t (blocks_of steps))) (small_block b held.0 held.1)
      ∙ ap (λ bs. part_text b ++ text_of bs) (sym (merge_one t (blocks_of steps)));
  bounds = (omega arith, omega arith);
}

passes : (held : Option Block) (t : Step) (steps : List Step) → IsHeld held → Passes held t steps (passed held t)
passes None t steps bounds = record { text = ap text_of (sym (merge_one t (blocks_of steps))); bounds = (omega arith, omega arith) }
passes (Some b) t steps bounds = joins b t steps (same_step b.step t) (nat_lt b.times repeat_limit) bounds refl refl

-- where no step follows, what is held is written as it is
held_is : (held : Option Block) → IsHeld held → held_text held ≡ text_of (tail_blocks held [])
held_is None bounds = refl
held_is (Some b) bounds = sym (text_more b [] ∙ append-nil (lines_text (block_lines b)) ∙ ap lines_text (small_block b bounds.0 bounds.1))

-- ## The lines of an input

record TellsSteps (held : Option Block) (told : Told (Option Block)) (trace : Trace) : Type 0 where
  text : told.text ≡ text_of (tail_blocks held trace.steps)
  refusal : told.refusal ≡ trace.refusal

tells_line : (past : Bool) (line : ℕ) (held : Option Block) (fault : Option LineFault) (read : Option Step) (lines : List (List ℕ)) → IsHeld held
    → ((after : Option Block) → IsHeld after → TellsSteps after (told_from migration (line + 1) after lines) (trace_from (line + 1) lines))
    → TellsSteps held (cond past (refused_in migration held line reason.Lines) (told_after migration held line (migrate_reply held fault read) (λ after. told_from migration (line + 1) after lines)))
    (cond past (refused line reason.Lines) (trace_after line fault read (trace_from (line + 1) lines)))
tells_line true line held fault read lines bounds behind = record { text = held_is held bounds; refusal = refl }
tells_line false line held (Some f) read lines bounds behind = record { text = held_is held bounds; refusal = refl }
tells_line false line held None (Some t) lines bounds behind =
    let p = passes held t (trace_from (line + 1) lines).steps bounds in
    let b = behind (passed held t).1 p.bounds in
    record { text = ap (λ x. (passed held t).0 ++ x) b.text ∙ sym p.text; refusal = b.refusal }
tells_line false line held None None lines bounds behind = let b = behind held bounds in record { text = b.text; refusal = b.refusal }

tells_from : (line : ℕ) (held : Option Block) (lines : List (List ℕ)) → IsHeld held → TellsSteps held (told_from migration line held lines) (trace_from line lines)
tells_from line held [] bounds = record { text = held_is held bounds; refusal = refl }
tells_from line held (bytes ∷ lines) bounds =
    tells_line (nat_lt line_limit line) line held (fault_of bytes) (step_read bytes) lines bounds (λ after is. tells_from (line + 1) after lines is)

migrated_is : (steps : List Step) → migrated steps ≡ ended_line header2 ++ text_of (blocks_of steps)
unfolding migrated
migrated_is steps = refl

tells_headed : (headed : Bool) (lines : List (List ℕ))
    → ((told_behind migration (migrate_header headed) lines).refusal ≡ (cond headed (trace_from 2 lines) (refused 1 reason.Header)).refusal)
    × ((told_behind migration (migrate_header headed) lines).text ≡ cond headed (migrated (trace_from 2 lines).steps) [])
tells_headed true lines =
    let b = tells_from 2 None lines tt in
    (b.refusal, ap (λ x. ended_line header2 ++ x) b.text ∙ sym (migrated_is (trace_from 2 lines).steps))
tells_headed false lines = (refl, refl)

tells_lines : (lines : List (List ℕ)) → ((told_of migration lines).refusal ≡ (trace_of_lines lines).refusal) × ((told_of migration lines).text ≡ migrated_text lines)
tells_lines [] = (refl, refl)
tells_lines (header ∷ lines) = tells_headed (is_header header) lines

says_of : (input : List ℕ) → trace_of_lines (lines_of input) ≡ trace_of input
unfolding trace_of
says_of input = refl

-- what the lines of an input come to in the language is what is said of the input
pub migration_tells : (bytes : List ℕ) → ((told_of migration (lines_of bytes)).refusal ≡ (migrated_input bytes).refusal) × ((told_of migration (lines_of bytes)).text ≡ (migrated_input bytes).text)
migration_tells bytes =
    let t = tells_lines (lines_of bytes) in (t.0 ∙ ap (λ (x : Trace). x.refusal) (says_of bytes), t.1)
