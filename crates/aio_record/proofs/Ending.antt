-- What two jobs come to on the cells that they share.
use Rattle.std.proofs.Common.{◌≡◌, ℕ, suc, ◌+◌, List, [], ◌∷◌, ◌++◌, length, map, refl, sym, ap, ◌∙◌, subst, append-nil, append_assoc}
use Rattle.std.specs.List.{AllZip}
use Rattle.std.specs.Prelude.{Result, Ok, Err, IfOk}
use Rattle.aio_base.specs.declared.outcomes.OutOfMemory.{OutOfMemory}
use Rattle.aio_history.specs.declared.steps.CellCall.{CellCall}
use Rattle.aio_history.specs.declared.steps.CellStep.{CellStep}
use Rattle.aio_history.specs.Histories.{call_of}
use Rattle.aio_history.specs.StepNumbers.{numbers_of}
use Rattle.aio_history.specs.DrawnCalls.{calls_from}
use Rattle.aio_history.proofs.Coding.{numbers_tell}
use Rattle.aio_record.specs.declared.stress_cell.Maker.TheVariants.{First, Second}
use Rattle.aio_record.specs.Makers.{StressValue, steps_of, EachHasDrawn, Stressed}
use Rattle.aio_record.specs.Desks.{DeskValue, DeskDone, EachDesk, Worked, IsFreshPair, IsPair, IsJoint, Joined}
use Rattle.aio_record.proofs.Counting.{all_steps}

-- the desks stay in pairs
pub paired : (P Q : ℕ → List CellCall) (k : ℕ) (a b x y : List DeskValue) → AllZip IsFreshPair a b
    → EachDesk (λ c. DeskDone (P c) []) k a x → EachDesk (λ c. DeskDone (Q c) []) k b y → AllZip IsPair x y
paired P Q k [] [] [] [] fresh one two = tt
paired P Q k [] [] [] (y ∷ ys) fresh one two = absurd two
paired P Q k [] [] (x ∷ xs) y fresh one two = absurd one
paired P Q k [] (b ∷ bs) x y fresh one two = absurd fresh
paired P Q k (a ∷ more) [] x y fresh one two = absurd fresh
paired P Q k (a ∷ more) (b ∷ bs) [] y fresh one two = absurd one
paired P Q k (a ∷ more) (b ∷ bs) (x ∷ xs) [] fresh one two = absurd two
paired P Q k (a ∷ more) (b ∷ bs) (x ∷ xs) (y ∷ ys) fresh one two = (
  record {
    lock = one.0.lock ∙ fresh.0.lock ∙ sym two.0.lock;
    first = one.0.maker ∙ fresh.0.first;
    second = two.0.maker ∙ fresh.0.second;
  },
  paired P Q (suc k) more bs xs ys fresh.1 one.1 two.1,
)

-- a note that began with nothing tells the steps, whose calls are these
told_calls : (steps found : List CellStep) (note began : List ℕ) (calls : List CellCall) → numbers_of found ≡ note → note ≡ began ++ numbers_of steps → began ≡ []
    → map call_of steps ++ [] ≡ calls → map call_of found ≡ calls
told_calls steps found note began calls noted grew none are =
    let same : found ≡ steps = numbers_tell found steps (noted ∙ grew ∙ ap (λ (n : List ℕ). n ++ numbers_of steps) none) in
    ap (λ (s : List CellStep). map call_of s) same ∙ sym (append-nil (map call_of steps)) ∙ are

-- the cells of the joined desks have exactly the calls that were drawn
pub drawn_in_all : (calls seed k : ℕ) (a b x y : List DeskValue) (cells : List StressValue) → AllZip IsFreshPair a b
    → EachDesk (λ c. DeskDone (calls_from calls seed c) []) k a x → EachDesk (λ c. DeskDone (calls_from calls (seed + 1) c) []) k b y
    → Joined x y cells → EachHasDrawn calls seed k cells
drawn_in_all calls seed k [] [] [] [] [] fresh one two joint = tt
drawn_in_all calls seed k [] [] [] [] (c ∷ cells) fresh one two joint = absurd joint
drawn_in_all calls seed k [] [] [] (y ∷ ys) cells fresh one two joint = absurd two
drawn_in_all calls seed k [] [] (x ∷ xs) y cells fresh one two joint = absurd one
drawn_in_all calls seed k [] (b ∷ bs) x y cells fresh one two joint = absurd fresh
drawn_in_all calls seed k (a ∷ more) [] x y cells fresh one two joint = absurd fresh
drawn_in_all calls seed k (a ∷ more) (b ∷ bs) [] y cells fresh one two joint = absurd one
drawn_in_all calls seed k (a ∷ more) (b ∷ bs) (x ∷ xs) [] cells fresh one two joint = absurd two
drawn_in_all calls seed k (a ∷ more) (b ∷ bs) (x ∷ xs) (y ∷ ys) [] fresh one two joint = absurd joint
drawn_in_all calls seed k (a ∷ more) (b ∷ bs) (x ∷ xs) (y ∷ ys) (c ∷ cells) fresh one two joint = (
  record {
    first = told_calls one.0.steps (steps_of First c) x.note a.note (calls_from calls seed k) joint.0.first one.0.note_is fresh.0.none one.0.calls_are;
    second = told_calls two.0.steps (steps_of Second c) y.note b.note (calls_from calls (seed + 1) k) joint.0.second two.0.note_is fresh.0.none-too two.0.calls_are;
    whole = joint.0.whole;
  },
  drawn_in_all calls seed (suc k) more bs xs ys cells fresh.1 one.1 two.1 joint.1,
)

-- one pair more
pub fresh_more : (a b : List DeskValue) (x y : DeskValue) → AllZip IsFreshPair a b → IsFreshPair x y → AllZip IsFreshPair (a ++ x ∷ []) (b ++ y ∷ [])
fresh_more [] [] x y all last = (last, tt)
fresh_more [] (b ∷ bs) x y all last = absurd all
fresh_more (a ∷ more) [] x y all last = absurd all
fresh_more (a ∷ more) (b ∷ bs) x y all last = (all.0, fresh_more more bs x y all.1 last)

-- what is left of desks in pairs where the first of either is taken
pub pairs_left : (firsts seconds rest later : List DeskValue) (x y : DeskValue) → firsts ≡ x ∷ rest → seconds ≡ y ∷ later → AllZip IsPair firsts seconds → AllZip IsPair rest later
pairs_left firsts seconds rest later x y first second pairs =
    let told : AllZip IsPair (x ∷ rest) (y ∷ later) =
    subst (λ (l : List DeskValue). AllZip IsPair (x ∷ rest) l) second (subst (λ (l : List DeskValue). AllZip IsPair l seconds) first pairs) in
    told.1

-- one pair of desks less, and the cell of that pair behind the others
pub joined_more : (firsts seconds rest later : List DeskValue) (cells after : List StressValue) (a b : List DeskValue) (x y : DeskValue) (cell : StressValue)
    → firsts ≡ x ∷ rest → seconds ≡ y ∷ later → after ≡ cells ++ cell ∷ [] → IsJoint x y cell
    → ((more : List StressValue) → Joined firsts seconds more → Joined a b (cells ++ more)) → (more : List StressValue) → Joined rest later more → Joined a b (after ++ more)
joined_more firsts seconds rest later cells after a b x y cell first second is joint joined more left =
    let told : Joined firsts seconds (cell ∷ more) = rw (first, second) (joint, left) in
    subst (λ (cs : List StressValue). Joined a b cs) (sym (append_assoc cells (cell ∷ []) more) ∙ ap (λ (cs : List StressValue). cs ++ more) (sym is)) (joined (cell ∷ more) told)

-- no desk is left
pub joined_end : (firsts seconds : List DeskValue) (cells : List StressValue) (a b : List DeskValue) → firsts ≡ [] → AllZip IsPair firsts seconds
    → ((more : List StressValue) → Joined firsts seconds more → Joined a b (cells ++ more)) → Joined a b cells
joined_end [] [] cells a b none pairs joined = subst (λ (cs : List StressValue). Joined a b cs) (append-nil cells) (joined [] tt)
joined_end [] (y ∷ ys) cells a b none pairs joined = absurd pairs
joined_end (x ∷ xs) seconds cells a b none pairs joined = cc none

-- the ends of two jobs
pub two_worked : {J E : Type 0} (Ends : J → E → Type 0) (jobs : List J) (ends : List E) (one two : J) (x y : E) → jobs ≡ one ∷ two ∷ [] → ends ≡ x ∷ y ∷ []
    → AllZip Ends jobs ends → Ends one x × Ends two y
two_worked {J} {E} Ends jobs ends one two x y jobs-are ends-are all =
    let told : AllZip Ends (one ∷ two ∷ []) (x ∷ y ∷ []) =
    subst (λ (es : List E). AllZip Ends (one ∷ two ∷ []) es) ends-are (subst (λ (js : List J). AllZip Ends js ends) jobs-are all) in
    (told.0, told.1.0)

-- desks are done with calls that are the same for each cell
done_by : (P Q : ℕ → List CellCall) (k : ℕ) (a x : List DeskValue) → ((c : ℕ) → P c ≡ Q c) → EachDesk (λ c. DeskDone (P c) []) k a x → EachDesk (λ c. DeskDone (Q c) []) k a x
done_by P Q k [] [] same done = tt
done_by P Q k [] (y ∷ ys) same done = absurd done
done_by P Q k (x ∷ xs) [] same done = absurd done
done_by P Q k (x ∷ xs) (y ∷ ys) same done = (
  record {
    lock = done.0.lock;
    maker = done.0.maker;
    steps = done.0.steps;
    note_is = done.0.note_is;
    calls_are = done.0.calls_are ∙ same k;
  },
  done_by P Q (suc k) xs ys same done.1,
)

-- what the end of a job tells, where its calls are those of a seed
pub end_of : {V : Type 0} (items : V → List DeskValue) (calls drew seed : ℕ) (began : List DeskValue) (end : Result V OutOfMemory) (v : V) → end ≡ Ok v
    → ((n cell : ℕ) → calls_from n drew cell ≡ calls_from n seed cell)
    → IfOk end (λ (e : V). Worked calls drew began (items e)) → Worked calls seed began (items v)
end_of {V} items calls drew seed began end v end-is same worked =
    done_by (calls_from calls drew) (calls_from calls seed) 0 began (items v) (same calls)
    (subst (λ (e : Result V OutOfMemory). IfOk e (λ (v : V). Worked calls drew began (items v))) end-is worked)

pub after_ok : {V E : Type 0} (r : Result V E) (P Q : V → Type 0) → ((v : V) → P v → Q v) → IfOk r P → IfOk r Q
after_ok (Ok v) P Q then holds = then v holds
after_ok (Err e) P Q then holds = holds

pub fresh_push : (a b : List DeskValue) (x y : DeskValue) (after later : List DeskValue) → AllZip IsFreshPair a b → IsFreshPair x y
    → after ≡ a ++ x ∷ [] → later ≡ b ++ y ∷ [] → AllZip IsFreshPair after later
fresh_push a b x y after later all last after-is later-is =
    subst (λ (l : List DeskValue). AllZip IsFreshPair after l) (sym later-is)
    (subst (λ (l : List DeskValue). AllZip IsFreshPair l (b ++ y ∷ [])) (sym after-is) (fresh_more a b x y all last))

-- as many desks as before
as_many : (P : ℕ → List CellCall) (k : ℕ) (a x : List DeskValue) → EachDesk (λ c. DeskDone (P c) []) k a x → length x ≡ length a
as_many P k [] [] done = refl
as_many P k [] (y ∷ ys) done = absurd done
as_many P k (x ∷ xs) [] done = absurd done
as_many P k (x ∷ xs) (y ∷ ys) done = ap suc (as_many P (suc k) xs ys done.1)

joined_as_many : (a b : List DeskValue) (cells : List StressValue) → Joined a b cells → length cells ≡ length a
joined_as_many [] [] [] joint = refl
joined_as_many [] [] (c ∷ cells) joint = absurd joint
joined_as_many [] (b ∷ bs) cells joint = absurd joint
joined_as_many (a ∷ more) [] cells joint = absurd joint
joined_as_many (a ∷ more) (b ∷ bs) [] joint = absurd joint
joined_as_many (a ∷ more) (b ∷ bs) (c ∷ cells) joint = ap suc (joined_as_many more bs cells joint.1)

-- what both jobs together come to
pub stressed : (calls seed : ℕ) (a b x y : List DeskValue) (cells : List StressValue) → length a ≡ 8 → AllZip IsFreshPair a b
    → Worked calls seed a x → Worked calls (seed + 1) b y → Joined x y cells → Stressed calls seed cells
stressed calls seed a b x y cells eight fresh one two joint =
    let drawn = drawn_in_all calls seed 0 a b x y cells fresh one two joint in
    let many : length cells ≡ 8 = joined_as_many x y cells joint ∙ as_many (calls_from calls seed) 0 a x one ∙ eight in
    record { drawn = drawn; eight = many; in_all = all_steps calls seed cells many drawn }
