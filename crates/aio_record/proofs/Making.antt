-- One call of a job on a cell.
use Rattle.std.proofs.Common.{◌≡◌, ℕ, Bool, true, false, if◌then◌else◌, List, [], ◌∷◌, ◌++◌, length, refl, ap, ◌∙◌, arith, append-nil}
use Rattle.aio_history.specs.declared.steps.CellCall.{CellCall}
use Rattle.aio_history.specs.declared.steps.CellStep.{CellStep}
use Rattle.aio_history.specs.Histories.{call_of}
use Rattle.aio_record.specs.declared.stress_cell.Maker.{Maker}
use Rattle.aio_record.specs.declared.stress_cell.Maker.TheVariants.{First, Second}
use Rattle.std.specs.Prelude.{Result, Ok, Err, IfOk}
use Rattle.atomic_table.specs.Seated.{TableId}
use Rattle.aio_rules.specs.declared.lock_views.LockView.{LockView}
use Rattle.aio_base.specs.declared.outcomes.OutOfMemory.{OutOfMemory}
use Rattle.aio_rules.specs.SharedLock.{first_owner, second_owner, took_out, put_back, AgreesWithNotes}
use Rattle.aio_lock.specs.Tokens.{OwnerValue, owner_of}
use Rattle.aio_history.specs.StepNumbers.{step_numbers, numbers_of}
use Rattle.aio_history.proofs.Coding.{numbers_of-more}
use Rattle.aio_record.specs.Desks.{alone, note_of, NoteGrew}
use Rattle.aio_record.specs.Makers.{StressValue, same_maker, steps_by, steps_of, other, Made}

abbrev one_if : Bool → CellStep → List CellStep
one_if mine s = if mine then s ∷ [] else []

more_step : (mine : Bool) (s : CellStep) (rest all added : List CellStep) → all ≡ rest ++ added
    → (if mine then s ∷ all else all) ≡ (if mine then s ∷ rest else rest) ++ added
more_step true s rest all added e = ap (λ xs. s ∷ xs) e
more_step false s rest all added e = e

by_more : (by : Maker) (makers : List Maker) (steps : List CellStep) (m : Maker) (s : CellStep) → length makers ≡ length steps
    → steps_by by (makers ++ m ∷ []) (steps ++ s ∷ []) ≡ steps_by by makers steps ++ one_if (same_maker m by) s
by_more by [] [] m s same = refl
by_more by [] (t ∷ steps) m s same = absurd (omega (arith, same))
by_more by (n ∷ makers) [] m s same = absurd (omega (arith, same))
by_more by (n ∷ makers) (t ∷ steps) m s same =
    more_step (same_maker n by) t (steps_by by makers steps) (steps_by by (makers ++ m ∷ []) (steps ++ s ∷ [])) (one_if (same_maker m by) s)
    (by_more by makers steps m s (omega (arith, same)))

same_itself : (m : Maker) → same_maker m m ≡ true
same_itself First = refl
same_itself Second = refl

not_other : (m : Maker) → same_maker m (other m) ≡ false
not_other First = refl
not_other Second = refl

pub made_by : (maker : Maker) (call : CellCall) (step : CellStep) (old new : StressValue) → length old.makers ≡ length old.cell.steps
    → call_of step ≡ call → new.cell.steps ≡ old.cell.steps ++ step ∷ [] → new.makers ≡ old.makers ++ maker ∷ [] → Made maker call step old new
made_by maker call step old new same call-is steps makers =
    let both : (by : Maker) → steps_of by new ≡ steps_of by old ++ one_if (same_maker maker by) step =
    λ (by : Maker). ap (λ ms. steps_by by ms new.cell.steps) makers ∙ ap (λ ss. steps_by by (old.makers ++ maker ∷ []) ss) steps ∙ by_more by old.makers old.cell.steps maker step same in
    record {
      call_is = call-is;
      own = both maker ∙ ap (λ mine. steps_of maker old ++ one_if mine step) (same_itself maker);
      others = both (other maker) ∙ ap (λ mine. steps_of (other maker) old ++ one_if mine step) (not_other maker) ∙ append-nil (steps_of (other maker) old);
    }

-- What the owner of a number knows after a call on the cell that it took out.
pub note_grown : (maker : Maker) (call : CellCall) (note : List ℕ) (cell after : StressValue) (result : Result CellStep OutOfMemory)
    (owner taken given : OwnerValue) (here there back : TableId)
    → owner ≡ owner_of here (alone maker note)
    → AgreesWithNotes owner.knows (numbers_of (steps_of First cell)) (numbers_of (steps_of Second cell))
    → taken ≡ owner_of there (took_out (numbers_of (steps_of First cell)) (numbers_of (steps_of Second cell)) owner.knows)
    → given ≡ owner_of back (put_back (numbers_of (steps_of First after)) (numbers_of (steps_of Second after)) taken.knows)
    → IfOk result (λ (step : CellStep). Made maker call step cell after)
    → IfOk result (λ (step : CellStep). NoteGrew call step note (note_of maker given.knows))
note_grown maker call note cell after (Err fault) owner taken given here there back owner-is agrees taken-is given-is made = made
note_grown First call note cell after (Ok step) owner taken given here there back owner-is agrees taken-is given-is made =
    let knew : owner.knows ≡ first_owner note = ap (λ (o : OwnerValue). o.knows) owner-is in
    let known : given.knows ≡ put_back (numbers_of (steps_of First after)) (numbers_of (steps_of Second after))
    (took_out (numbers_of (steps_of First cell)) (numbers_of (steps_of Second cell)) (first_owner note)) =
    ap (λ (o : OwnerValue). o.knows) given-is
    ∙ ap (λ (v : LockView). put_back (numbers_of (steps_of First after)) (numbers_of (steps_of Second after)) v)
    (ap (λ (o : OwnerValue). o.knows) taken-is ∙ ap (λ (v : LockView). took_out (numbers_of (steps_of First cell)) (numbers_of (steps_of Second cell)) v) knew) in
    let noted : numbers_of (steps_of First cell) ≡ note =
    agrees.first (ap (λ (v : LockView). v.owns_first) knew) ∙ ap (λ (v : LockView). v.first) knew in
    record {
      call_is = made.call_is;
      note_is = ap (λ (v : LockView). v.first) known ∙ ap numbers_of made.own ∙ numbers_of-more (steps_of First cell) step
          ∙ ap (λ (n : List ℕ). n ++ step_numbers step) noted;
    }
note_grown Second call note cell after (Ok step) owner taken given here there back owner-is agrees taken-is given-is made =
    let knew : owner.knows ≡ second_owner note = ap (λ (o : OwnerValue). o.knows) owner-is in
    let known : given.knows ≡ put_back (numbers_of (steps_of First after)) (numbers_of (steps_of Second after))
    (took_out (numbers_of (steps_of First cell)) (numbers_of (steps_of Second cell)) (second_owner note)) =
    ap (λ (o : OwnerValue). o.knows) given-is
    ∙ ap (λ (v : LockView). put_back (numbers_of (steps_of First after)) (numbers_of (steps_of Second after)) v)
    (ap (λ (o : OwnerValue). o.knows) taken-is ∙ ap (λ (v : LockView). took_out (numbers_of (steps_of First cell)) (numbers_of (steps_of Second cell)) v) knew) in
    let noted : numbers_of (steps_of Second cell) ≡ note =
    agrees.second (ap (λ (v : LockView). v.owns_second) knew) ∙ ap (λ (v : LockView). v.second) knew in
    record {
      call_is = made.call_is;
      note_is = ap (λ (v : LockView). v.second) known ∙ ap numbers_of made.own ∙ numbers_of-more (steps_of Second cell) step
          ∙ ap (λ (n : List ℕ). n ++ step_numbers step) noted;
    }
