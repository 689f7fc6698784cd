-- The bytes that are held stand for the block that is held.
use Rattle.std.proofs.Common.{◌≡◌, ℕ, ◌+◌, ◌≤◌, Bool, true, false, ◌&&◌, cond, eqb, List, [], ◌∷◌, ◌++◌, Option, None, Some, Result, Ok, Err, OnOk, refl, sym, ap, ◌∙◌, subst, append-nil, codes, decimal, arith}
use Rattle.std.specs.Prelude.{bytes_eq, nat_lt}
use Rattle.std.proofs.lemmas.Slice.Eq.{bytes_eq-Decides}
use Rattle.std.proofs.lemmas.List.{append_cancel_right}
use Rattle.std.proofs.lemmas.Bool.Decides.{nat_tests}
use Rattle.aio_base.specs.declared.steps.Step.{Step}
use Rattle.aio_base.specs.declared.steps.Step.TheVariants as step
use Rattle.aio_base.specs.Lines.{HasSpelling, Reads, fault_of, step_read}
use Rattle.aio_base.specs.Text.{ended_line}
use Rattle.aio_base.proofs.FirstLines.{no_fault, read_is}
use Rattle.aio_tasks.specs.declared.steps.Line2.TheVariants as line
use Rattle.aio_tasks.specs.Lines2.{HasNumbers, repeat_limit, written_line2}
use Rattle.aio_tasks.specs.Migrating.{Block, lines_text, plain_line, repeated, same_step}
use Rattle.aio_migrate.specs.declared.blocks.Migrator.{Migrator}
use Rattle.aio_migrate.specs.Migration.{held_text, joined, migrate_reply, part_text, passed}
use Rattle.aio_migrate.specs.Migrators.{HoldsBlock, repeated_text}

repeat_written : (n : ℕ) → written_line2 (line.Repeat n) ≡ codes "repeat " ++ decimal n
unfolding written_line2
repeat_written n = refl

part_by : (s : Step) (n : ℕ) (one : Bool) → lines_text (cond one (plain_line s ∷ []) (line.Repeat n ∷ plain_line s ∷ []))
    ≡ cond one [] (ended_line (codes "repeat " ++ decimal n)) ++ ended_line (written_line2 (plain_line s))
part_by s n true = append-nil (ended_line (written_line2 (plain_line s)))
part_by s n false =
    ap (λ t. ended_line t ++ (ended_line (written_line2 (plain_line s)) ++ [])) (repeat_written n)
    ∙ ap (λ t. ended_line (codes "repeat " ++ decimal n) ++ t) (append-nil (ended_line (written_line2 (plain_line s))))

-- a block that is held is written by the line of its step
pub part_is : (b : Block) → part_text b ≡ repeated_text (ended_line (written_line2 (plain_line b.step))) b.times
part_is b = part_by b.step b.times (eqb b.times 1)

-- and so by the line that is held
pub held_is : (m : Migrator) (b : Block) → HoldsBlock m (Some b) → repeated_text m.line.items m.times ≡ part_text b
held_is m b holds =
    ap (λ l. repeated_text l m.times) holds.2 ∙ ap (repeated_text (ended_line (written_line2 (plain_line b.step)))) holds.0 ∙ sym (part_is b)

pub held_put : {E : Type 0} (r : Result (Unit {0}) E) (old new : List ℕ) (m : Migrator) → OnOk r (new ≡ old ++ repeated_text m.line.items m.times) → (m.times ≡ 0 → ⊥)
    → OnOk r ((held : Option Block) → HoldsBlock m held → new ≡ old ++ held_text held)
held_put (Ok done) old new m text some = by_held
  where
    by_held : (held : Option Block) → HoldsBlock m held → new ≡ old ++ held_text held
    by_held None holds = absurd (some holds)
    by_held (Some b) holds = text ∙ ap (λ t. old ++ t) (held_is m b holds)
held_put (Err e) old new m text some = tt

-- the reply to a line is that to its step
pub migrated_reply : (t : Step) (line : List ℕ) (held : Option Block) → Reads t line → migrate_reply held (fault_of line) (step_read line) ≡ Ok (passed held t)
migrated_reply t line held reads = ap (λ f. migrate_reply held f (step_read line)) (no_fault t line reads) ∙ ap (migrate_reply held None) (read_is t line reads)

-- ## A step that is passed

same_by : (b : Block) (t : Step) (next line : List ℕ) → next ≡ ended_line (written_line2 (plain_line t)) → line ≡ ended_line (written_line2 (plain_line b.step)) → (u : Bool) → bytes_eq next line ≡ u → same_step b.step t ≡ u
same_by b t next line one other true e =
    (bytes_eq-Decides (written_line2 (plain_line b.step)) (written_line2 (plain_line t))).1
    (append_cancel_right (written_line2 (plain_line b.step)) (written_line2 (plain_line t)) (10 ∷ []) (sym other ∙ sym ((bytes_eq-Decides next line).0 e) ∙ one))
same_by b t next line one other false e = by_test (same_step b.step t) refl
  where
    by_test : (v : Bool) → same_step b.step t ≡ v → v ≡ false
    by_test false is = refl
    by_test true is =
        let equal : next ≡ line = one ∙ ap ended_line (sym ((bytes_eq-Decides (written_line2 (plain_line b.step)) (written_line2 (plain_line t))).0 is)) ∙ sym other in
        let yes : bytes_eq next line ≡ true = (bytes_eq-Decides next line).1 equal in absurd cc

pub record Passed (text new : List ℕ) (m : Migrator) (p : List ℕ × Option Block) : Type 0 where
  pub text_is : new ≡ text ++ p.0
  pub holds : HoldsBlock m p.1

passed_by : (old m : Migrator) (t : Step) (text new : List ℕ) (b : Block) (same few : Bool) → HoldsBlock old (Some b) → old.next.items ≡ ended_line (written_line2 (plain_line t))
    → same_step b.step t ≡ same → (same && few) ≡ false → m.times ≡ 1 → m.line.items ≡ old.next.items → new ≡ text ++ part_text b → Passed text new m (joined b t same few)
passed_by old m t text new b true true holds next like none one line is = absurd cc
passed_by old m t text new b true false holds next like none one line is =
    let equal : written_line2 (plain_line b.step) ≡ written_line2 (plain_line t) = (bytes_eq-Decides (written_line2 (plain_line b.step)) (written_line2 (plain_line t))).0 like in
    record { text_is = is; holds = (one, omega arith, line ∙ next ∙ ap ended_line (sym equal)) }
passed_by old m t text new b false few holds next like none one line is = record { text_is = is; holds = (one, omega arith, line ∙ next) }

both_parts : (a b : Bool) → (a && b) ≡ true → (a ≡ true) × (b ≡ true)
both_parts true b e = (refl, e)
both_parts false b e = absurd cc

pub joined_held : (m new : Migrator) (t : Step) (text : List ℕ) → m.next.items ≡ ended_line (written_line2 (plain_line t))
    → (bytes_eq m.next.items m.line.items && (nat_lt 0 m.times && nat_lt m.times repeat_limit)) ≡ true → new.times ≡ m.times + 1 → new.line.items ≡ m.line.items
    → (held : Option Block) → HoldsBlock m held → Passed text text new (passed held t)
joined_held m new t text next joins more line None holds =
    let p = both_parts (bytes_eq m.next.items m.line.items) (nat_lt 0 m.times && nat_lt m.times repeat_limit) joins in
    let some : nat_lt 0 m.times ≡ true = (both_parts (nat_lt 0 m.times) (nat_lt m.times repeat_limit) p.1).0 in
    let no : nat_lt 0 0 ≡ true = ap (nat_lt 0) (sym holds) ∙ some in absurd cc
joined_held m new t text next joins more line (Some b) holds =
    let p = both_parts (bytes_eq m.next.items m.line.items) (nat_lt 0 m.times && nat_lt m.times repeat_limit) joins in
    let few = (both_parts (nat_lt 0 m.times) (nat_lt m.times repeat_limit) p.1).1 in
    let like : same_step b.step t ≡ true = same_by b t m.next.items m.line.items next holds.2 true p.0 in
    let room : nat_lt b.times repeat_limit ≡ true = ap (λ n. nat_lt n repeat_limit) (sym holds.0) ∙ few in
    subst (Passed text text new) (sym (ap (λ u. joined b t u (nat_lt b.times repeat_limit)) like ∙ ap (joined b t true) room))
    (record { text_is = sym (append-nil text); holds = (more ∙ ap (λ n. n + 1) holds.0, omega arith, line ∙ holds.2) })

pub passed_held : (old m : Migrator) (t : Step) (text new : List ℕ) → old.next.items ≡ ended_line (written_line2 (plain_line t))
    → (bytes_eq old.next.items old.line.items && (nat_lt 0 old.times && nat_lt old.times repeat_limit)) ≡ false → m.times ≡ 1 → m.line.items ≡ old.next.items
    → ((held : Option Block) → HoldsBlock old held → new ≡ text ++ held_text held) → (held : Option Block) → HoldsBlock old held → Passed text new m (passed held t)
passed_held old m t text new next joins one line put None holds = record { text_is = put None holds; holds = (one, omega arith, line ∙ next) }
passed_held old m t text new next joins one line put (Some b) holds =
    let like = same_by b t old.next.items old.line.items next holds.2 (bytes_eq old.next.items old.line.items) refl in
    let count = holds.0 in
    let least = holds.1 in
    let some : nat_lt 0 old.times ≡ true = grind (arith, nat_tests) in
    let few : nat_lt b.times repeat_limit ≡ (nat_lt 0 old.times && nat_lt old.times repeat_limit) =
    ap (λ n. nat_lt n repeat_limit) (sym count) ∙ ap (λ u. u && nat_lt old.times repeat_limit) (sym some) in
    passed_by old m t text new b (same_step b.step t) (nat_lt b.times repeat_limit) holds next refl
    (ap (λ u. u && nat_lt b.times repeat_limit) like ∙ ap (λ u. bytes_eq old.next.items old.line.items && u) few ∙ joins) one line (put (Some b) holds)

-- a step with a spelling has its numbers in range
pub has_numbers : (s : Step) → HasSpelling s → HasNumbers s
has_numbers (step.Poll key dir waker) fits = (fits.0, fits.2)
has_numbers (step.New key dir) fits = fits.0
has_numbers (step.Note event) fits = fits.0
has_numbers step.Add fits = fits
has_numbers (step.Del key) fits = fits
has_numbers (step.StepEar number waker) fits = fits
has_numbers (step.DropEar number) fits = fits
has_numbers (step.TimerAt deadline) fits = fits
has_numbers (step.TimerEvery deadline period) fits = fits
has_numbers step.TimerNever fits = fits
has_numbers (step.Tick number waker) fits = fits
has_numbers (step.SetAt number deadline) fits = fits
has_numbers (step.SetEvery number deadline period) fits = fits
has_numbers (step.End number) fits = fits
has_numbers (step.Now moment) fits = fits
has_numbers (step.Fault kind) fits = fits
has_numbers step.Interrupt fits = fits
has_numbers (step.Begin limit) fits = fits
has_numbers step.Wait fits = fits
has_numbers step.Handle fits = fits
has_numbers step.Finish fits = fits
has_numbers step.React fits = fits
