-- From what the caller keeps of tasks to their answers, and from the fault of a worker to that of the executor.
use Rattle.std.proofs.Common.{◌≡◌, ℕ, Bool, true, List, [], ◌∷◌, length, map, refl, sym, ap, ◌∙◌, arith}
use Rattle.std.specs.Prelude.{IfOk, IsTrue, Result, Ok, Err}
use Rattle.std.specs.List.{AllZip}
use Rattle.aio_park.specs.Stopping.{StopsFor}
use Rattle.aio_park.specs.declared.to_end.WorkerFault.{WorkerFault}
use Rattle.aio_park.specs.declared.to_end.WorkerFault.TheVariants as stop
use Rattle.aio_park.proofs.Stops.{unsure}
use Rattle.aio_exec.specs.Workers.{HasExecCause, WorkerEnds, WorkerValue, fault_of_worker}

pub zip_length : {A B : Type 0} (R : A → B → Type 0) (xs : List A) (ys : List B) → AllZip R xs ys → length ys ≡ length xs
zip_length R [] [] all = refl
zip_length R [] (y ∷ ys) all = elim all [ ]
zip_length R (x ∷ xs) [] all = elim all [ ]
zip_length R (x ∷ xs) (y ∷ ys) all = omega (arith, zip_length R xs ys all.1)

-- ## Causes

pub ends_with_cause : (w : WorkerValue) (f : WorkerFault) → WorkerEnds w (Err f) → StopsFor w.terms.sure_of_wait w.terms.is_sure f
ends_with_cause w f stops = stops

pub exec_cause : (sure_of_wait is_sure : Bool) (f : WorkerFault) → StopsFor sure_of_wait is_sure f → HasExecCause sure_of_wait is_sure (fault_of_worker f)
exec_cause sure_of_wait is_sure (stop.Wait f) stops = stops
exec_cause sure_of_wait is_sure (stop.Notify f) stops = stops
exec_cause sure_of_wait is_sure stop.OutOfMemory stops = tt

-- what has its cause in twins of the lent devices has it in these
pub stops_lent : (sure_of_wait is_sure own_wait own_notifier : Bool) (f : WorkerFault) → own_wait ≡ sure_of_wait → (IsTrue is_sure → IsTrue own_notifier)
    → StopsFor own_wait own_notifier f → StopsFor sure_of_wait is_sure f
stops_lent sure_of_wait is_sure own_wait own_notifier (stop.Wait f) wait twin stops = (sym wait ∙ stops.0, stops.1)
stops_lent sure_of_wait is_sure own_wait own_notifier (stop.Notify f) wait twin stops = (unsure is_sure own_notifier twin stops.0, stops.1)
stops_lent sure_of_wait is_sure own_wait own_notifier stop.OutOfMemory wait twin stops = tt

-- ## Answers

-- what follows from what a result is follows from the result
pub with_ok : {O E : Type 0} (r : Result O E) (Given Goal : O → Type 0) → ((output : O) → Given output → Goal output) → IfOk r Given → IfOk r Goal
with_ok (Ok output) Given Goal follows given = follows output given
with_ok (Err fault) Given Goal follows given = tt

head_of : List ℕ → ℕ
head_of [] = 0
head_of (x ∷ xs) = x

pub same_head : (a b : ℕ) → a ∷ [] ≡ b ∷ [] → a ≡ b
unfolding head_of
same_head a b same = ap head_of same

module _ {K O : Type 0} (about_of : K → ℕ) (allows : ℕ → O → Bool) where
  abbrev Noted : K → List ℕ → Type 0
  Noted task note = note ≡ about_of task ∷ []

  abbrev About : List ℕ → ℕ → Type 0
  About note about = note ≡ about ∷ []

  abbrev Allowed : ℕ → O → Type 0
  Allowed about output = allows about output ≡ true

  abbrev Answers : K → O → Type 0
  Answers task output = allows (about_of task) output ≡ true

  abbrev abouts : List K → List ℕ
  abouts tasks = map about_of tasks

  noted : (tasks : List K) (kept : List (List ℕ)) → AllZip Noted tasks kept → AllZip About kept (abouts tasks)
  noted [] [] zip = tt
  noted [] (note ∷ kept) zip = elim zip [ ]
  noted (task ∷ tasks) [] zip = elim zip [ ]
  noted (task ∷ tasks) (note ∷ kept) zip = (zip.0, noted tasks kept zip.1)

  by_abouts : (tasks : List K) (outputs : List O) → AllZip Allowed (abouts tasks) outputs → AllZip Answers tasks outputs
  by_abouts [] [] zip = tt
  by_abouts [] (output ∷ outputs) zip = elim zip [ ]
  by_abouts (task ∷ tasks) [] zip = elim zip [ ]
  by_abouts (task ∷ tasks) (output ∷ outputs) zip = (zip.0, by_abouts tasks outputs zip.1)

  -- the answers of what is kept of these tasks are the answers of the tasks
  pub answers : (tasks : List K) (kept : List (List ℕ)) (outputs : List O) → AllZip Noted tasks kept
      → ((abouts : List ℕ) → AllZip About kept abouts → AllZip Allowed abouts outputs) → AllZip Answers tasks outputs
  answers tasks kept outputs seated finished = by_abouts tasks outputs (finished (abouts tasks) (noted tasks kept seated))

  -- the first of what is kept has the first of the abouts
  pub first_about : (note : List ℕ) (kept : List (List ℕ)) (output : O) (outputs : List O) (abouts : List ℕ)
      → ((about : ℕ) → note ≡ about ∷ [] → allows about output ≡ true)
      → ((rest : List ℕ) → AllZip About kept rest → AllZip Allowed rest outputs)
      → AllZip About (note ∷ kept) abouts → AllZip Allowed abouts (output ∷ outputs)
  first_about note kept output outputs [] one others zip = elim zip [ ]
  first_about note kept output outputs (about ∷ abouts) one others zip = (one about zip.0, others abouts zip.1)

  -- with nothing kept there is no answer
  pub none_left : (rest : List ℕ) → AllZip About [] rest → AllZip Allowed rest []
  none_left [] zip = tt
  none_left (about ∷ rest) zip = elim zip [ ]
