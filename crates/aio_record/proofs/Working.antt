-- The calls of a job on its desks.
use Rattle.std.proofs.Common.{◌≡◌, ℕ, zero, suc, ◌+◌, ◌-◌, ◌<◌, Bool, true, false, ◌==◌, if◌then◌else◌, List, [], ◌∷◌, ◌++◌, length, map, get_or, set, refl, sym, ap, ◌∙◌, subst, arith, append-nil}
use Rattle.std.proofs.lemmas.Bool.Decides.{nat_tests}
use Rattle.std.proofs.lemmas.List.{append_assoc, map-append, length-set}
use Rattle.aio_history.specs.declared.steps.CellCall.{CellCall}
use Rattle.aio_history.specs.declared.steps.CellStep.{CellStep}
use Rattle.aio_history.specs.Histories.{call_of}
use Rattle.aio_history.specs.StepNumbers.{step_numbers, numbers_of}
use Rattle.aio_history.specs.DrawnCalls.{Drawing, call_drawn, calls_from}
use Rattle.aio_history.proofs.Coding.{numbers_of-more}
use Rattle.aio_record.specs.Desks.{DeskValue, NoteGrew, DeskDone, EachDesk, Underway, Worked}

-- at the start nothing is done
pub none_done : (calls state cell : ℕ) (desks : List DeskValue) → EachDesk (λ k. DeskDone (calls_from calls state k) (calls_from calls state k)) cell desks desks
none_done calls state cell [] = tt
none_done calls state cell (d ∷ desks) =
    (record { lock = refl; maker = refl; steps = []; note_is = sym (append-nil d.note); calls_are = refl }, none_done calls state (suc cell) desks)

same_cell : (n : ℕ) → (n == n) ≡ true
same_cell n = grind (arith, nat_tests)

other_cell : (n k : ℕ) → n < k → (n == k) ≡ false
other_cell n k lt = grind (arith, nat_tests)

module _ (calls begun n : ℕ) (one : Drawing) where
  -- what is left for a cell where this call is drawn next
  abbrev left_of : ℕ → List CellCall
  left_of k = if one.cell == k then one.call ∷ calls_from n one.after k else calls_from n one.after k

  passed : (k : ℕ) (began now : DeskValue) → (one.cell == k) ≡ false → DeskDone (calls_from calls begun k) (left_of k) began now
      → DeskDone (calls_from calls begun k) (calls_from n one.after k) began now
  passed k began now differs done = record {
    lock = done.lock;
    maker = done.maker;
    steps = done.steps;
    note_is = done.note_is;
    calls_are = ap (λ (b : Bool). map call_of done.steps ++ (if b then one.call ∷ calls_from n one.after k else calls_from n one.after k)) (sym differs) ∙ done.calls_are;
  }

  called : (k : ℕ) (began now after : DeskValue) (step : CellStep) → (one.cell == k) ≡ true → DeskDone (calls_from calls begun k) (left_of k) began now
      → after.lock ≡ now.lock → after.maker ≡ now.maker → NoteGrew one.call step now.note after.note
      → DeskDone (calls_from calls begun k) (calls_from n one.after k) began after
  called k began now after step same done lock maker grew =
      let rest : List CellCall = calls_from n one.after k in
      record {
        lock = lock ∙ done.lock;
        maker = maker ∙ done.maker;
        steps = done.steps ++ step ∷ [];
        note_is =
            grew.note_is ∙ ap (λ (note : List ℕ). note ++ step_numbers step) done.note_is ∙ append_assoc began.note (numbers_of done.steps) (step_numbers step)
            ∙ ap (λ (more : List ℕ). began.note ++ more) (sym (numbers_of-more done.steps step));
        calls_are =
            ap (λ (cs : List CellCall). cs ++ rest) (map-append call_of done.steps (step ∷ []))
            ∙ append_assoc (map call_of done.steps) (call_of step ∷ []) rest
            ∙ ap (λ (c : CellCall). map call_of done.steps ++ c ∷ rest) grew.call_is
            ∙ ap (λ (b : Bool). map call_of done.steps ++ (if b then one.call ∷ rest else rest)) (sym same)
            ∙ done.calls_are;
      }

  -- the desks behind the one that is called
  all_passed : (k : ℕ) (began now : List DeskValue) → one.cell < k → EachDesk (λ c. DeskDone (calls_from calls begun c) (left_of c)) k began now
      → EachDesk (λ c. DeskDone (calls_from calls begun c) (calls_from n one.after c)) k began now
  all_passed k [] [] lt all = tt
  all_passed k [] (y ∷ ys) lt all = absurd all
  all_passed k (x ∷ xs) [] lt all = absurd all
  all_passed k (x ∷ xs) (y ∷ ys) lt all = (passed k x y (other_cell one.cell k lt) all.0, all_passed (suc k) xs ys (omega (arith, lt)) all.1)

  pub next_desks : (k i : ℕ) (began now : List DeskValue) (d after : DeskValue) (step : CellStep) → one.cell ≡ k + i → i < length now
      → EachDesk (λ c. DeskDone (calls_from calls begun c) (left_of c)) k began now
      → after.lock ≡ (get_or now i d).lock → after.maker ≡ (get_or now i d).maker → NoteGrew one.call step (get_or now i d).note after.note
      → EachDesk (λ c. DeskDone (calls_from calls begun c) (calls_from n one.after c)) k began (set now i after)
  next_desks k i [] [] d after step at within all lock maker grew = absurd (omega (arith, within))
  next_desks k i [] (y ∷ ys) d after step at within all lock maker grew = absurd all
  next_desks k i (x ∷ xs) [] d after step at within all lock maker grew = absurd all
  next_desks k zero (x ∷ xs) (y ∷ ys) d after step at within all lock maker grew =
      let here : one.cell ≡ k = omega (arith, at) in
      (called k x y after step (ap (λ (c : ℕ). c == k) here ∙ same_cell k) all.0 lock maker grew, all_passed (suc k) xs ys (omega (arith, here)) all.1)
  next_desks k (suc i) (x ∷ xs) (y ∷ ys) d after step at within all lock maker grew =
      let before : (one.cell == k) ≡ false = grind (arith, nat_tests, at) in
      (passed k x y before all.0, next_desks (suc k) i xs ys d after step (omega (arith, at)) (omega (arith, within)) all.1 lock maker grew)

-- one call less is left
pub next_underway : (calls begun n state : ℕ) (began now : List DeskValue) (d after : DeskValue) (step : CellStep)
    → (call_drawn state).cell < length now → Underway calls begun (suc n) state began now
    → after.lock ≡ (get_or now (call_drawn state).cell d).lock → after.maker ≡ (get_or now (call_drawn state).cell d).maker
    → NoteGrew (call_drawn state).call step (get_or now (call_drawn state).cell d).note after.note
    → Underway calls begun n (call_drawn state).after began (set now (call_drawn state).cell after)
next_underway calls begun n state began now d after step within all lock maker grew =
    next_desks calls begun n (call_drawn state) 0 (call_drawn state).cell began now d after step (omega arith) within all lock maker grew

-- one turn of a job
pub job_turn : (calls begun left state : ℕ) (began now : List DeskValue) (cell : ℕ) (call : CellCall) (next : ℕ) (lent after : DeskValue) (step : CellStep)
    → 0 < left → length now ≡ 8 → Underway calls begun left state began now
    → cell ≡ (call_drawn state).cell → call ≡ (call_drawn state).call → next ≡ (call_drawn state).after → cell < 8
    → lent ≡ get_or now cell lent → after.lock ≡ lent.lock → after.maker ≡ lent.maker → NoteGrew call step lent.note after.note
    → (length (set now cell after) ≡ 8) × Underway calls begun (left - 1) next began (set now cell after)
job_turn calls begun left state began now cell call next lent after step some eight all cell-is call-is next-is within value lock maker grew =
    let one : Drawing = call_drawn state in
    let left-is : left ≡ suc (left - 1) = omega (arith, some) in
    let here : lent ≡ get_or now one.cell lent = subst (λ (x : ℕ). lent ≡ get_or now x lent) cell-is value in
    let found : NoteGrew one.call step (get_or now one.cell lent).note after.note =
    subst (λ (d : DeskValue). NoteGrew one.call step d.note after.note) here (subst (λ (c : CellCall). NoteGrew c step lent.note after.note) call-is grew) in
    let done : Underway calls begun (left - 1) one.after began (set now one.cell after) =
    next_underway calls begun (left - 1) state began now lent after step (omega (arith, eight, cell-is, within))
    (subst (λ (m : ℕ). Underway calls begun m state began now) left-is all)
    (lock ∙ ap (λ (d : DeskValue). d.lock) here) (maker ∙ ap (λ (d : DeskValue). d.maker) here) found in (
      length-set now cell after ∙ eight,
      subst (λ (s : ℕ). Underway calls begun (left - 1) s began (set now cell after)) (sym next-is)
          (subst (λ (x : ℕ). Underway calls begun (left - 1) one.after began (set now x after)) (sym cell-is) done),
    )

pub job_end : (calls begun left state : ℕ) (began now : List DeskValue) → left ≡ 0 → Underway calls begun left state began now → Worked calls begun began now
job_end calls begun left state began now none all = subst (λ (m : ℕ). Underway calls begun m state began now) none all
