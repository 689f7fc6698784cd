-- The text of steps in the second version is a trace of it that says the same steps.
use Rattle.std.proofs.Common.{◌≡◌, ℕ, zero, suc, ◌+◌, ◌-◌, ◌*◌, ◌/◌, ◌%◌, ◌≤◌, Bool, true, false, ◌&&◌, cond, eqb, ltb, List, [], ◌∷◌, ◌++◌, length, map, replicate, flat_map, Option, None, Some, Result, Ok, refl, sym, ap, ◌∙◌, subst, append_assoc, append-nil, arith}
use Rattle.std.specs.List.{list_all}
use Rattle.std.proofs.lemmas.Bool.Decides.{nat_tests}
use Rattle.std.proofs.lemmas.List.{replicate-append-replicate}
use Rattle.std.proofs.lemmas.Slice.Eq.{bytes_eq-Decides}
use Rattle.aio_base.specs.declared.steps.Step.{Step}
use Rattle.aio_base.specs.Lines.{body_of, is_allowed}
use Rattle.aio_base.specs.Script.{output}
use Rattle.aio_base.specs.Text.{ended_line}
use Rattle.aio_base.specs.Trace.{lines_of, onto_first_line}
use Rattle.aio_tasks.specs.declared.steps.LineFault2.{LineFault2}
use Rattle.aio_tasks.specs.declared.steps.Line2.{Line2}
use Rattle.aio_tasks.specs.declared.steps.Line2.TheVariants as line
use Rattle.aio_tasks.specs.declared.steps.Step2.{Step2}
use Rattle.aio_tasks.specs.declared.steps.Step2.TheVariants as step2
use Rattle.aio_tasks.specs.Lines2.{HasNumbers, HasSpelling2, Reads2, repeat_limit, second_read, written_line2}
use Rattle.aio_tasks.specs.Inputs.{Input2, TooManyLines, TooManySteps, input_of, input_of_lines, line_limit2, line_says, lines_say, refused2, step_limit2, with_steps}
use Rattle.aio_tasks.specs.Migrating.{Block, block_lines, blocks_of, full_parts, header2, lines_text, migrated, migrated_lines, onto_block, plain_line, repeated, same_step}
use Rattle.aio_tasks.specs.Tasks.{output2}
use Rattle.aio_tasks.proofs.RunLemmas.{plain_as_before}
use Rattle.aio_trace2.specs.MigratedTexts.{AreNumbered}
use Rattle.aio_trace2.proofs.ReadLaws2.{reads_back2, reads_one2}
use Rattle.aio_trace2.proofs.Written2.{written_reads2}

-- ## Lines of a text

both_parts : (a b : Bool) → (a && b) ≡ true → (a ≡ true) × (b ≡ true)
both_parts true b e = (refl, e)
both_parts false b e = absurd cc

-- each of these bytes is another than a line feed
abbrev NoFeed : List ℕ → Type 0
NoFeed [] = Unit {0}
NoFeed (b ∷ bytes) = (eqb b 10 ≡ false) × NoFeed bytes

lines_of_ended : (bytes text : List ℕ) → NoFeed bytes → lines_of (bytes ++ 10 ∷ text) ≡ bytes ∷ lines_of text
lines_of_ended [] text none = refl
lines_of_ended (b ∷ bytes) text none =
    ap (λ t. cond t ([] ∷ lines_of (bytes ++ 10 ∷ text)) (onto_first_line b (lines_of (bytes ++ 10 ∷ text)))) none.0
    ∙ ap (onto_first_line b) (lines_of_ended bytes text none.1)

no_feed_byte : (b : ℕ) → is_allowed b ≡ true → eqb b 10 ≡ false
no_feed_byte b allowed = grind (arith, nat_tests)

no_feed_allowed : (bytes : List ℕ) → list_all is_allowed bytes ≡ true → NoFeed bytes
no_feed_allowed [] e = tt
no_feed_allowed (b ∷ bytes) e = let p = both_parts (is_allowed b) (list_all is_allowed bytes) e in (no_feed_byte b p.0, no_feed_allowed bytes p.1)

return_by : (b : ℕ) (t : Bool) → eqb b 13 ≡ t → list_all is_allowed (cond t [] (b ∷ [])) ≡ true → NoFeed (b ∷ [])
return_by b true is e = (grind (arith, nat_tests), tt)
return_by b false is e = no_feed_allowed (b ∷ []) e

no_feed_body : (bytes : List ℕ) → list_all is_allowed (body_of bytes) ≡ true → NoFeed bytes
no_feed_body [] e = tt
no_feed_body (b ∷ []) e = return_by b (eqb b 13) refl e
no_feed_body (b ∷ c ∷ bytes) e = let p = both_parts (is_allowed b) (list_all is_allowed (body_of (c ∷ bytes))) e in (no_feed_byte b p.0, no_feed_body (c ∷ bytes) p.1)

abbrev AllFit : List Line2 → Type 0
AllFit [] = Unit {0}
AllFit (m ∷ ms) = HasSpelling2 m × AllFit ms

lines_of_texts : (ms : List Line2) → AllFit ms → lines_of (lines_text ms) ≡ map written_line2 ms
lines_of_texts [] fit = refl
lines_of_texts (m ∷ ms) fit =
    ap lines_of (append_assoc (written_line2 m) (10 ∷ []) (lines_text ms))
    ∙ lines_of_ended (written_line2 m) (lines_text ms) (no_feed_body (written_line2 m) (written_reads2 m fit.0).allowed)
    ∙ ap (λ ls. written_line2 m ∷ ls) (lines_of_texts ms fit.1)

-- ## Lines that say steps

abbrev behind_at : ℕ → List (List ℕ) → Option ℕ → ℕ → Input2
behind_at number ls due count = lines_say (number + 1) due count ls

line_within : (number count : ℕ) (due : Option ℕ) (m : Line2) (ls : List (List ℕ)) → number ≤ line_limit2 → HasSpelling2 m
    → lines_say number due count (written_line2 m ∷ ls) ≡ line_says number due count (Ok m) (behind_at number ls)
line_within number count due m ls few fits =
    let test : ltb line_limit2 number ≡ false = grind (arith, nat_tests) in
    ap (λ t. cond t (refused2 number TooManyLines) (line_says number due count (second_read (written_line2 m)) (behind_at number ls))) test
    ∙ ap (λ (r : Result Line2 LineFault2). line_says number due count r (behind_at number ls)) (reads_back2 m (written_line2 m) (written_reads2 m fits))

steps_within : (number count times : ℕ) (s : Step2) (behind : Input2) → count + times ≤ step_limit2
    → cond (ltb step_limit2 (count + times)) (refused2 number TooManySteps) (with_steps times s behind) ≡ with_steps times s behind
steps_within number count times s behind few =
    let test : ltb step_limit2 (count + times) ≡ false = grind (arith, nat_tests) in
    ap (λ t. cond t (refused2 number TooManySteps) (with_steps times s behind)) test

one_line : (number count : ℕ) (s : Step) (ls : List (List ℕ)) → number ≤ line_limit2 → count + 1 ≤ step_limit2 → HasNumbers s
    → lines_say number None count (written_line2 (plain_line s) ∷ ls) ≡ with_steps 1 (step2.Plain s) (lines_say (number + 1) None (count + 1) ls)
one_line number count s ls few room fits =
    line_within number count None (plain_line s) ls few fits
    ∙ steps_within number count 1 (step2.Plain s) (lines_say (number + 1) None (count + 1) ls) room

two_lines : (number count times : ℕ) (s : Step) (ls : List (List ℕ)) → number + 1 ≤ line_limit2 → count + times ≤ step_limit2 → HasNumbers s → 1 ≤ times → times ≤ repeat_limit
    → lines_say number None count (written_line2 (line.Repeat times) ∷ written_line2 (plain_line s) ∷ ls) ≡ with_steps times (step2.Plain s) (lines_say (number + 1 + 1) None (count + times) ls)
two_lines number count times s ls few room fits some most =
    line_within number count None (line.Repeat times) (written_line2 (plain_line s) ∷ ls) (omega (arith, few)) (some, most)
    ∙ line_within (number + 1) count (Some times) (plain_line s) ls few fits
    ∙ steps_within (number + 1) count times (step2.Plain s) (lines_say (number + 1 + 1) None (count + times) ls) room

-- ## Lines that expand to steps

abbrev most_steps : ℕ
most_steps = 999999

abbrev onto : List Step2 → Input2 → Input2
onto xs t = record t { steps = xs ++ t.steps }

pub record Leaves (number count total : ℕ) (ms : List Line2) (xs : List Step2) (ls : List (List ℕ)) : Type 0 where
  next : ℕ
  few : next ≤ 2 * (count + total) + 2
  is : lines_say number None count (map written_line2 ms ++ ls) ≡ onto xs (lines_say next None (count + total) ls)

-- Lines that put so many steps in front of those behind them, whatever number the first has; they are twice as many as the steps at most.
abbrev Expands : List Line2 → ℕ → List Step2 → Type 0
Expands ms total xs = (number count : ℕ) (ls : List (List ℕ)) → number ≤ 2 * count + 2 → count + total ≤ most_steps → Leaves number count total ms xs ls

repeated_by : (s : Step) (times : ℕ) (one : Bool) → eqb times 1 ≡ one → 1 ≤ times → times ≤ repeat_limit → HasNumbers s
    → Expands (cond one (plain_line s ∷ []) (line.Repeat times ∷ plain_line s ∷ [])) times (replicate times (step2.Plain s))
repeated_by s times true is some most fits = λ number count ls few room.
    let same : times ≡ 1 = grind (arith, nat_tests) in
    subst (λ (n : ℕ). Leaves number count n (plain_line s ∷ []) (replicate n (step2.Plain s)) ls) (sym same)
    (record { next = number + 1; few = omega (arith, few); is = one_line number count s ls (omega (arith, few, room)) (omega (arith, room, same)) fits })
repeated_by s times false is some most fits = λ number count ls few room.
    let two : 2 ≤ times = grind (arith, nat_tests) in
    record { next = number + 1 + 1; few = omega (arith, few, two); is = two_lines number count times s ls (omega (arith, few, room, some)) (omega (arith, room)) fits some most }

repeated_says : (s : Step) (times : ℕ) → 1 ≤ times → times ≤ repeat_limit → HasNumbers s → Expands (repeated s times) times (replicate times (step2.Plain s))
repeated_says s times some most fits = repeated_by s times (eqb times 1) refl some most fits

map-append : {A B : Type 0} (f : A → B) (xs ys : List A) → map f (xs ++ ys) ≡ map f xs ++ map f ys
map-append f [] ys = refl
map-append f (x ∷ xs) ys = ap (λ zs. f x ∷ zs) (map-append f xs ys)

onto_more : (xs ys : List Step2) (t : Input2) → onto xs (onto ys t) ≡ onto (xs ++ ys) t
onto_more xs ys t = ap (λ steps. let r : Input2 = record { steps = steps; refusal = t.refusal } in r) (sym (append_assoc xs ys t.steps))

expands_none : Expands [] 0 []
expands_none = λ number count ls few room.
    let none : count ≡ count + 0 = omega arith in
    record { next = number; few = omega (arith, few); is = ap (λ k. onto [] (lines_say number None k ls)) none }

expands_both : (a b : List Line2) (m n : ℕ) (xs ys : List Step2) → Expands a m xs → Expands b n ys → Expands (a ++ b) (m + n) (xs ++ ys)
expands_both a b m n xs ys p q = λ number count ls few room.
    let one = p number count (map written_line2 b ++ ls) few (omega (arith, room)) in
    let other = q one.next (count + m) ls one.few (omega (arith, room)) in
    let sum : count + m + n ≡ count + (m + n) = omega arith in
    record {
      next = other.next;
      few = omega (arith, other.few);
      is = ap (λ x. lines_say number None count x) (ap (λ x. x ++ ls) (map-append written_line2 a b) ∙ append_assoc (map written_line2 a) (map written_line2 b) ls)
          ∙ one.is
          ∙ ap (onto xs) other.is
          ∙ onto_more xs ys (lines_say other.next None (count + m + n) ls)
          ∙ ap (λ k. onto (xs ++ ys) (lines_say other.next None k ls)) sum;
    }

full_says : (s : Step) (parts : ℕ) → HasNumbers s → Expands (full_parts s parts) (parts * repeat_limit) (replicate (parts * repeat_limit) (step2.Plain s))
full_says s zero fits = expands_none
full_says s (suc parts) fits =
    let sum : repeat_limit + parts * repeat_limit ≡ suc parts * repeat_limit = omega arith in
    subst (λ (n : ℕ). Expands (full_parts s (suc parts)) n (replicate n (step2.Plain s))) sum
    (subst (λ xs. Expands (full_parts s (suc parts)) (repeat_limit + parts * repeat_limit) xs) (replicate-append-replicate repeat_limit (parts * repeat_limit) (step2.Plain s))
    (expands_both (repeated s repeat_limit) (full_parts s parts) repeat_limit (parts * repeat_limit) (replicate repeat_limit (step2.Plain s)) (replicate (parts * repeat_limit) (step2.Plain s))
    (repeated_says s repeat_limit (omega arith) (omega arith) fits) (full_says s parts fits)))

-- no block is empty, and its step can be written
abbrev BlockFits : Block → Type 0
BlockFits b = (1 ≤ b.times) × HasNumbers b.step

block_says : (b : Block) → BlockFits b → Expands (block_lines b) b.times (replicate b.times (step2.Plain b.step))
block_says b fits =
    let q = (b.times - 1) / repeat_limit in
    let r = (b.times - 1) % repeat_limit + 1 in
    let parts : q * repeat_limit + r ≡ b.times = omega (arith, fits.0) in
    let small : r ≤ repeat_limit = omega arith in
    subst (λ (n : ℕ). Expands (block_lines b) n (replicate n (step2.Plain b.step))) parts
    (subst (λ xs. Expands (block_lines b) (q * repeat_limit + r) xs) (replicate-append-replicate (q * repeat_limit) r (step2.Plain b.step))
    (expands_both (full_parts b.step q) (repeated b.step r) (q * repeat_limit) r (replicate (q * repeat_limit) (step2.Plain b.step)) (replicate r (step2.Plain b.step))
    (full_says b.step q fits.1) (repeated_says b.step r (omega arith) small fits.1)))

-- ## The blocks of steps

abbrev BlocksFit : List Block → Type 0
BlocksFit [] = Unit {0}
BlocksFit (b ∷ bs) = BlockFits b × BlocksFit bs

abbrev total : List Block → ℕ
total [] = 0
total (b ∷ bs) = b.times + total bs

abbrev expanded : List Block → List Step
expanded [] = []
expanded (b ∷ bs) = replicate b.times b.step ++ expanded bs

abbrev plain_steps : List Block → List Step2
plain_steps [] = []
plain_steps (b ∷ bs) = replicate b.times (step2.Plain b.step) ++ plain_steps bs

blocks_say : (bs : List Block) → BlocksFit bs → Expands (flat_map block_lines bs) (total bs) (plain_steps bs)
blocks_say [] fit = expands_none
blocks_say (b ∷ bs) fit =
    expands_both (block_lines b) (flat_map block_lines bs) b.times (total bs) (replicate b.times (step2.Plain b.step)) (plain_steps bs) (block_says b fit.0) (blocks_say bs fit.1)

map_replicate : (n : ℕ) (s : Step) → map (λ s. step2.Plain s) (replicate n s) ≡ replicate n (step2.Plain s)
map_replicate zero s = refl
map_replicate (suc n) s = ap (λ xs. step2.Plain s ∷ xs) (map_replicate n s)

plain_expanded : (bs : List Block) → plain_steps bs ≡ map (λ s. step2.Plain s) (expanded bs)
plain_expanded [] = refl
plain_expanded (b ∷ bs) =
    ap (λ xs. replicate b.times (step2.Plain b.step) ++ xs) (plain_expanded bs)
    ∙ ap (λ xs. xs ++ map (λ s. step2.Plain s) (expanded bs)) (sym (map_replicate b.times b.step))
    ∙ sym (map-append (λ s. step2.Plain s) (replicate b.times b.step) (expanded bs))

-- a line is written of one step alone
pub equal_steps : (s t : Step) → HasNumbers s → HasNumbers t → same_step s t ≡ true → s ≡ t
equal_steps s t one other same =
    let lines : written_line2 (plain_line s) ≡ written_line2 (plain_line t) = (bytes_eq-Decides (written_line2 (plain_line s)) (written_line2 (plain_line t))).0 same in
    let equal : plain_line s ≡ plain_line t =
    reads_one2 (plain_line s) (plain_line t) (written_line2 (plain_line s)) (written_reads2 (plain_line s) one) (subst (λ l. Reads2 (plain_line t) l) (sym lines) (written_reads2 (plain_line t) other)) in
    cc

-- what was made of steps: blocks that say just them
pub record AreBlocks (steps : List Step) (bs : List Block) : Type 0 where
  fit : BlocksFit bs
  are : expanded bs ≡ steps
  count : total bs ≡ length steps

onto_is : (s : Step) (steps : List Step) (bs : List Block) → HasNumbers s → AreBlocks steps bs → AreBlocks (s ∷ steps) (onto_block s bs)
onto_is s steps [] fits a = record { fit = ((omega arith, fits), tt); are = ap (λ xs. s ∷ xs) a.are; count = let c = a.count in omega (arith, c) }
onto_is s steps (b ∷ bs) fits a = by_test (same_step s b.step) refl
  where
    by_test : (t : Bool) → same_step s b.step ≡ t
        → AreBlocks (s ∷ steps) (cond t (record { step = s; times = b.times + 1 } ∷ bs) (record { step = s; times = 1 } ∷ b ∷ bs))
    by_test true same =
        let e : s ≡ b.step = equal_steps s b.step fits a.fit.0.1 same in
        let more : b.times + 1 ≡ suc b.times = omega arith in
        record {
          fit = ((omega arith, fits), a.fit.1);
          are = ap (λ (n : ℕ). replicate n s ++ expanded bs) more ∙ ap (λ (x : Step). s ∷ replicate b.times x ++ expanded bs) e ∙ ap (λ xs. s ∷ xs) a.are;
          count = let c = a.count in omega (arith, c);
        }
    by_test false other = record { fit = ((omega arith, fits), a.fit); are = ap (λ xs. s ∷ xs) a.are; count = let c = a.count in omega (arith, c) }

blocks_are : (steps : List Step) → AreNumbered steps → AreBlocks steps (blocks_of steps)
blocks_are [] fits = record { fit = tt; are = refl; count = refl }
blocks_are (s ∷ steps) fits = onto_is s steps (blocks_of steps) fits.0 (blocks_are steps fits.1)

-- ## The lines of blocks can be spelled

fit_both : (a b : List Line2) → AllFit a → AllFit b → AllFit (a ++ b)
fit_both [] b p q = q
fit_both (m ∷ a) b p q = (p.0, fit_both a b p.1 q)

repeated_fit : (s : Step) (times : ℕ) (one : Bool) → HasNumbers s → 1 ≤ times → times ≤ repeat_limit → AllFit (cond one (plain_line s ∷ []) (line.Repeat times ∷ plain_line s ∷ []))
repeated_fit s times true fits some most = (fits, tt)
repeated_fit s times false fits some most = ((some, most), (fits, tt))

full_fit : (s : Step) (parts : ℕ) → HasNumbers s → AllFit (full_parts s parts)
full_fit s zero fits = tt
full_fit s (suc parts) fits = fit_both (repeated s repeat_limit) (full_parts s parts) (repeated_fit s repeat_limit (eqb repeat_limit 1) fits (omega arith) (omega arith)) (full_fit s parts fits)

blocks_fit : (bs : List Block) → BlocksFit bs → AllFit (flat_map block_lines bs)
blocks_fit [] fit = tt
blocks_fit (b ∷ bs) fit =
    let r = (b.times - 1) % repeat_limit + 1 in
    fit_both (block_lines b) (flat_map block_lines bs)
    (fit_both (full_parts b.step ((b.times - 1) / repeat_limit)) (repeated b.step r) (full_fit b.step ((b.times - 1) / repeat_limit) fit.0.1)
    (repeated_fit b.step r (eqb r 1) fit.0.1 (omega arith) (omega arith))) (blocks_fit bs fit.1)

-- ## The whole text

pub migrated_says : (steps : List Step) → AreNumbered steps → length steps ≤ most_steps
    → input_of (migrated steps) ≡ record { steps = map (λ s. step2.Plain s) steps; refusal = None }
unfolding input_of migrated
migrated_says steps fits few =
    let bs = blocks_of steps in
    let a = blocks_are steps fits in
    let lines : lines_of (ended_line header2 ++ lines_text (migrated_lines steps)) ≡ header2 ∷ map written_line2 (migrated_lines steps) =
    lines_of_ended header2 (lines_text (migrated_lines steps)) (refl, (refl, (refl, (refl, (refl, (refl, (refl, tt))))))) ∙ ap (λ ls. header2 ∷ ls) (lines_of_texts (migrated_lines steps) (blocks_fit bs a.fit)) in
    let said = blocks_say bs a.fit 2 0 [] (omega arith) (omega (arith, few, a.count)) in
    ap input_of_lines lines
    ∙ ap (λ ls. lines_say 2 None 0 ls) (sym (append-nil (map written_line2 (migrated_lines steps))))
    ∙ said.is
    ∙ ap (λ xs. let r : Input2 = record { steps = xs; refusal = None } in r) (append-nil (plain_steps bs) ∙ plain_expanded bs ∙ ap (map (λ s. step2.Plain s)) a.are)

pub migrated_answers : (steps : List Step) → AreNumbered steps → length steps ≤ most_steps → output2 (input_of (migrated steps)).steps ≡ output steps
migrated_answers steps fits few = ap (λ (t : Input2). output2 t.steps) (migrated_says steps fits few) ∙ plain_as_before steps
