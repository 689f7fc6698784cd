-- What one more step of a history leaves in its source.
use Rattle.std.proofs.Common.{◌≡◌, ℕ, ◌+◌, ◌<◌, ◌≤◌, Fits, w32, Bool, true, false, not, ◌&&◌, ◌||◌, nat_lt, if◌then◌else◌, List, [], ◌∷◌, ◌++◌, length, max, reverse, refl, sym, ap, ◌∙◌, subst, arith}
use Rattle.std.specs.Prelude.{Option, Some, None, option_to_list, is_some, Result, Ok, Err, IsErr, OnOk, is_err, cond}
use Rattle.std.proofs.Common.{length-append}
use Rattle.std.specs.List.{list_any, list_all}
use Rattle.std.proofs.lemmas.Bool.Decides.{nat_tests}
use Rattle.std.proofs.lemmas.List.{reverse-append}
use Rattle.aio_base.specs.declared.names.Key.{Key}
use Rattle.aio_base.specs.declared.names.Dir.{Dir}
use Rattle.aio_base.specs.declared.names.Dir.TheVariants.{Read, Write, Priority}
use Rattle.aio_base.specs.declared.names.Waker.{Waker}
use Rattle.aio_base.specs.declared.names.Interest.{Interest}
use Rattle.aio_base.specs.declared.outcomes.Poll.{Poll}
use Rattle.aio_base.specs.declared.outcomes.Poll.TheVariants.{Ready, Pending}
use Rattle.aio_base.specs.World.{directions, same_dir, has_dir}
use Rattle.aio_base.proofs.DirectionLemmas.{same_dir-refl, same_dir-turned}
use Rattle.aio_source.proofs.DirectionCases.{direction_of-where, put_itself, put_where, where_values}
use Rattle.aio_base.specs.Machine.{is_waker}
use Rattle.aio_source.specs.Values.{DirectionValue, DirectionValues, SourceValue}
use Rattle.aio_source.specs.Rules.{is_ready, is_idle, is_above, is_above_both, seen, stored, handled, with_direction, with_source_direction, directions_where, direction_of, handled_along, taken_along, waiters_in, Polling, polling}
use Rattle.aio_history.specs.declared.steps.CellStep.{CellStep}
use Rattle.aio_history.specs.declared.steps.CellStep.TheVariants as step
use Rattle.aio_history.specs.Histories.{StoringPoll, stored_here, one_later, waiter_of, rounds_of, storing_poll, is_news, has_news_since, is_ready_by, is_ready_after, answer_to_poll, waiters_among}
use Rattle.aio_history.proofs.Places.{storing_poll_is_place}
use Rattle.aio_base.specs.declared.outcomes.Failed.{Failed}
use Rattle.aio_base.specs.declared.outcomes.ArmFault.{ArmFault}
use Rattle.aio_source.specs.Lent.{fault_of}
use Rattle.aio_source.specs.Answers.{poll_answer}
use Rattle.aio_history.specs.Histories.{Replays}
use Rattle.aio_record.specs.Recording.{greatest, remembered, direction_left, directions_left, after_poll, after_handle, without_fault, IsRecorded}

-- ## Freshness by two numbers

rounds_step : (mine : Bool) (round : ℕ) (since before all : List ℕ) → all ≡ since ++ before
    → (if mine then round ∷ all else all) ≡ (if mine then round ∷ since else since) ++ before
rounds_step true round since before all e = ap (λ xs. round ∷ xs) e
rounds_step false round since before all e = e

rounds_of-append : (since before : List CellStep) (dir : Dir) → rounds_of (since ++ before) dir ≡ rounds_of since dir ++ rounds_of before dir
rounds_of-append [] before dir = refl
rounds_of-append (step.Poll d waker ticker answer ∷ since) before dir = rounds_of-append since before dir
rounds_of-append (step.Handle on round taken ∷ since) before dir =
    rounds_step (has_dir on dir) round (rounds_of since dir) (rounds_of before dir) (rounds_of (since ++ before) dir) (rounds_of-append since before dir)

greatest-append : (xs ys : List ℕ) → greatest (xs ++ ys) ≡ max (greatest xs) (greatest ys)
greatest-append [] ys = omega arith
greatest-append (x ∷ xs) ys = let rest = greatest-append xs ys in omega (arith, rest)

below_step : (t x g r : ℕ) (rest : Bool) → nat_lt t r && rest ≡ nat_lt t r && nat_lt g r → nat_lt t r && (nat_lt x r && rest) ≡ nat_lt t r && nat_lt (max g x) r
below_step t x g r rest e = grind (arith, nat_tests)

all_below : (t r : ℕ) (xs : List ℕ) → nat_lt t r && list_all (λ e. nat_lt e r) xs ≡ nat_lt t r && nat_lt (greatest xs) r
all_below t r [] = grind (arith, nat_tests)
all_below t r (x ∷ xs) = below_step t x (greatest xs) r (list_all (λ e. nat_lt e r) xs) (all_below t r xs)

any_step : (t g r most : ℕ) (rest : Bool) → rest ≡ nat_lt t most && nat_lt g most
    → (nat_lt t r && nat_lt g r) || rest ≡ nat_lt t (max most r) && nat_lt g (max most r)
any_step t g r most rest e = grind (arith, nat_tests)

any_new : (t : ℕ) (earlier rounds : List ℕ) → list_any (is_news t earlier) rounds ≡ is_above t (greatest earlier) (greatest rounds)
any_new t earlier [] = grind (arith, nat_tests)
any_new t earlier (round ∷ rounds) =
    ap (λ b. b || list_any (is_news t earlier) rounds) (all_below t round earlier)
    ∙ any_step t (greatest earlier) round (greatest rounds) (list_any (is_news t earlier) rounds) (any_new t earlier rounds)

above_both : (t g s : ℕ) → is_above t g s ≡ is_above t g (max s g)
above_both t g s = grind (arith, nat_tests)

place_fresh : (past : List CellStep) (dir : Dir) (mark : StoringPoll) (waker : Waker) → past ≡ mark.since ++ step.Poll dir waker mark.ticker Pending ∷ mark.before
    → is_above mark.ticker (greatest (rounds_of mark.before dir)) (greatest (rounds_of past dir)) ≡ has_news_since dir mark
place_fresh past dir mark waker place =
    let earlier = rounds_of mark.before dir in
    let later = rounds_of mark.since dir in
    let rounds : rounds_of past dir ≡ later ++ earlier =
    ap (λ p. rounds_of p dir) place ∙ rounds_of-append mark.since (step.Poll dir waker mark.ticker Pending ∷ mark.before) dir in
    ap (λ rs. is_above mark.ticker (greatest earlier) (greatest rs)) rounds
    ∙ ap (λ n. is_above mark.ticker (greatest earlier) n) (greatest-append later earlier)
    ∙ sym (above_both mark.ticker (greatest earlier) (greatest later))
    ∙ sym (any_new mark.ticker earlier later)

fresh_by : (past : List CellStep) (dir : Dir) (kept : Option StoringPoll) → storing_poll past dir ≡ kept
    → is_above_both (remembered dir kept) (greatest (rounds_of past dir)) ≡ is_ready_by dir kept
fresh_by past dir None e = refl
fresh_by past dir (Some mark) e = let place = storing_poll_is_place past dir mark e in place_fresh past dir mark place.0 place.1

-- the two remembered numbers tell what the history says
pub ready_by : (past : List CellStep) (dir : Dir) → is_ready (direction_left past dir) ≡ is_ready_after past dir
ready_by past dir = fresh_by past dir (storing_poll past dir) refl

-- ## A poll

remembered_further : (dir : Dir) (s : CellStep) (kept : Option StoringPoll) → remembered dir kept ≡ remembered dir (one_later s kept)
remembered_further dir s None = refl
remembered_further dir s (Some mark) = refl

abbrev fresh_direction : ℕ → Option (ℕ × ℕ) → Option Waker → DirectionValue
fresh_direction tick ticks waiter = record { tick = tick; ticks = ticks; waiter = waiter; listeners = record { entries = []; drawn = 0 } }

held_is : (w : Waker) (waiter : Option Waker) → is_waker w waiter ≡ true → waiter ≡ Some w
held_is w None held = cc held
held_is w (Some v) held = let e : v.0 ≡ w.0 = grind (arith, nat_tests) in ap (λ n. Some (record { 0 = n })) e

-- what a pending poll leaves in its own direction, by whether its waker is the waiter
pending_here : (same : Bool) (past : List CellStep) (dir : Dir) (w : Waker) (ticker : ℕ) → is_waker w (waiter_of past dir) ≡ same
    → (if same then direction_left past dir else stored w ticker (direction_left past dir))
    ≡ fresh_direction (greatest (rounds_of past dir))
    (remembered dir (if not same then Some (stored_here ticker past) else one_later (step.Poll dir w ticker Pending) (storing_poll past dir))) (Some w)
pending_here true past dir w ticker held =
    ap (λ ticks. fresh_direction (greatest (rounds_of past dir)) ticks (waiter_of past dir)) (remembered_further dir (step.Poll dir w ticker Pending) (storing_poll past dir))
    ∙ ap (λ waiter. fresh_direction (greatest (rounds_of past dir)) (remembered dir (one_later (step.Poll dir w ticker Pending) (storing_poll past dir))) waiter) (held_is w (waiter_of past dir) held)
pending_here false past dir w ticker held = refl

pending_left : (past : List CellStep) (dir : Dir) (w : Waker) (ticker : ℕ)
    → (if is_waker w (waiter_of past dir) then direction_left past dir else stored w ticker (direction_left past dir))
    ≡ direction_left (step.Poll dir w ticker Pending ∷ past) dir
pending_left past dir w ticker =
    let s = step.Poll dir w ticker Pending in
    pending_here (is_waker w (waiter_of past dir)) past dir w ticker refl
    ∙ ap (λ (own : Bool). fresh_direction (greatest (rounds_of past dir))
    (remembered dir (if own && not (is_waker w (waiter_of past dir)) then Some (stored_here ticker past) else one_later s (storing_poll past dir))) (if own then Some w else waiter_of past dir))
    (sym (same_dir-refl dir))

ready_left : (past : List CellStep) (dir : Dir) (w : Waker) (ticker : ℕ)
    → seen (direction_left past dir) ≡ direction_left (step.Poll dir w ticker (Ready tt) ∷ past) dir
ready_left past dir w ticker =
    ap (λ (own : Bool). fresh_direction (greatest (rounds_of past dir))
    (remembered dir (if own then None else one_later (step.Poll dir w ticker (Ready tt)) (storing_poll past dir))) (waiter_of past dir))
    (sym (same_dir-refl dir))

further_ticks : (past : List CellStep) (dir : Dir) (s : CellStep)
    → direction_left past dir ≡ fresh_direction (greatest (rounds_of past dir)) (remembered dir (one_later s (storing_poll past dir))) (waiter_of past dir)
further_ticks past dir s =
    ap (λ ticks. fresh_direction (greatest (rounds_of past dir)) ticks (waiter_of past dir)) (remembered_further dir s (storing_poll past dir))

left_of : (past : List CellStep) (dir : Dir) → direction_of (directions_left past) dir ≡ direction_left past dir
left_of past dir = direction_of-where (direction_left past) dir

-- a poll of another direction leaves a direction as it was
left_aside : (past : List CellStep) (dir : Dir) (w : Waker) (ticker : ℕ) (answer : Poll (Unit {0})) (e : Dir) → same_dir dir e ≡ false
    → direction_left past e ≡ direction_left (step.Poll dir w ticker answer ∷ past) e
left_aside past dir w ticker (Ready tt) e other =
    let s = step.Poll dir w ticker (Ready tt) in
    further_ticks past e s
    ∙ ap (λ (own : Bool). fresh_direction (greatest (rounds_of past e)) (remembered e (if own then None else one_later s (storing_poll past e))) (waiter_of past e)) (sym other)
left_aside past dir w ticker Pending e other =
    let s = step.Poll dir w ticker Pending in
    further_ticks past e s
    ∙ ap (λ (own : Bool). fresh_direction (greatest (rounds_of past e))
    (remembered e (if own && not (is_waker w (waiter_of past e)) then Some (stored_here ticker past) else one_later s (storing_poll past e))) (if own then Some w else waiter_of past e))
    (sym other)

-- a poll of one direction, which its own direction becomes so, leaves the directions so
polled : (past : List CellStep) (dir : Dir) (w : Waker) (ticker : ℕ) (answer : Poll (Unit {0})) (d : DirectionValue)
    → d ≡ direction_left (step.Poll dir w ticker answer ∷ past) dir
    → with_direction (directions_left past) dir d ≡ directions_left (step.Poll dir w ticker answer ∷ past)
polled past dir w ticker answer d own =
    put_where (direction_left (step.Poll dir w ticker answer ∷ past)) (directions_left past) dir d own
    (λ e other. left_of past e ∙ left_aside past dir w ticker answer e (same_dir-turned dir e ∙ other))

itself : (ds : DirectionValues) (dir : Dir) → ds ≡ with_direction ds dir (direction_of ds dir)
itself ds dir = sym (put_itself ds dir)

-- the directions that a poll comes to, by whether it is ready and whether its waker is the waiter
abbrev choose : Bool → Bool → DirectionValues → DirectionValues → DirectionValues → DirectionValues
choose ready same a b c = if ready then a else (if same then b else c)

abbrev pick : Bool → Polling → Polling → Polling
pick b p q = if b then p else q

chosen : (ready same : Bool) (replaced : Option Waker) (arms idle : Bool) (a b c : SourceValue)
    → (pick ready (record { ready = true; replaced = None; source = a; arms = false })
    (pick same (record { ready = false; replaced = None; source = b; arms = arms }) (record { ready = false; replaced = replaced; source = c; arms = idle }))).source.directions
    ≡ choose ready same a.directions b.directions c.directions
chosen true same replaced arms idle a b c = refl
chosen false true replaced arms idle a b c = refl
chosen false false replaced arms idle a b c = refl

chosen_left : (ready same : Bool) (past : List CellStep) (dir : Dir) (w : Waker) (ticker : ℕ) → is_waker w (waiter_of past dir) ≡ same
    → choose ready same (with_direction (directions_left past) dir (seen (direction_left past dir))) (directions_left past)
    (with_direction (directions_left past) dir (stored w ticker (direction_left past dir)))
    ≡ directions_left (step.Poll dir w ticker (if ready then Ready tt else Pending) ∷ past)
chosen_left true same past dir w ticker held = polled past dir w ticker (Ready tt) (seen (direction_left past dir)) (ready_left past dir w ticker)
chosen_left false true past dir w ticker held =
    itself (directions_left past) dir
    ∙ ap (λ (d : DirectionValue). with_direction (directions_left past) dir d) (left_of past dir)
    ∙ polled past dir w ticker Pending (direction_left past dir)
    (ap (λ b. if b then direction_left past dir else stored w ticker (direction_left past dir)) (sym held) ∙ pending_left past dir w ticker)
chosen_left false false past dir w ticker held =
    polled past dir w ticker Pending (stored w ticker (direction_left past dir))
    (ap (λ b. if b then direction_left past dir else stored w ticker (direction_left past dir)) (sym held) ∙ pending_left past dir w ticker)

poll_core : (past : List CellStep) (key : Key) (asked : Interest) (broken : Bool) (dir : Dir) (w : Waker) (ticker : ℕ)
    → (polling (record { key = key; directions = directions_left past; asked = asked; broken = broken }) dir w ticker).source.directions
    ≡ directions_left (step.Poll dir w ticker (answer_to_poll past dir) ∷ past)
poll_core past key asked broken dir w ticker =
    let s : SourceValue = record { key = key; directions = directions_left past; asked = asked; broken = broken } in
    subst (λ (d : DirectionValue). (pick (is_ready d) (record { ready = true; replaced = None; source = with_source_direction s dir (seen d); arms = false })
    (pick (is_waker w d.waiter) (record { ready = false; replaced = None; source = s; arms = broken })
    (record { ready = false; replaced = d.waiter; source = with_source_direction s dir (stored w ticker d); arms = is_idle d || broken }))).source.directions
    ≡ directions_left (step.Poll dir w ticker (answer_to_poll past dir) ∷ past)) (sym (left_of past dir))
    (chosen (is_ready (direction_left past dir)) (is_waker w (waiter_of past dir)) _ _ _ _ _ _
    ∙ chosen_left (is_ready (direction_left past dir)) (is_waker w (waiter_of past dir)) past dir w ticker refl
    ∙ ap (λ b. directions_left (step.Poll dir w ticker (if b then Ready tt else Pending) ∷ past)) (ready_by past dir))

-- a poll leaves what one more step of the history leaves
pub poll_left : (past : List CellStep) (s : SourceValue) (dir : Dir) (w : Waker) (ticker : ℕ) → s.directions ≡ directions_left past
    → (after_poll s dir w ticker).directions ≡ directions_left (step.Poll dir w ticker (answer_to_poll past dir) ∷ past)
poll_left past s dir w ticker e =
    subst (λ (ds : DirectionValues). (polling (record { key = s.key; directions = ds; asked = s.asked; broken = s.broken }) dir w ticker).source.directions
    ≡ directions_left (step.Poll dir w ticker (answer_to_poll past dir) ∷ past)) (sym e)
    (poll_core past s.key s.asked s.broken dir w ticker)

ready_picked : (ready same : Bool) (replaced : Option Waker) (arms idle : Bool) (a b c : SourceValue)
    → (pick ready (record { ready = true; replaced = None; source = a; arms = false })
    (pick same (record { ready = false; replaced = None; source = b; arms = arms }) (record { ready = false; replaced = replaced; source = c; arms = idle }))).ready
    ≡ ready
ready_picked true same replaced arms idle a b c = refl
ready_picked false true replaced arms idle a b c = refl
ready_picked false false replaced arms idle a b c = refl

ready_core : (past : List CellStep) (key : Key) (asked : Interest) (broken : Bool) (dir : Dir) (w : Waker) (ticker : ℕ)
    → (polling (record { key = key; directions = directions_left past; asked = asked; broken = broken }) dir w ticker).ready ≡ is_ready_after past dir
ready_core past key asked broken dir w ticker =
    let s : SourceValue = record { key = key; directions = directions_left past; asked = asked; broken = broken } in
    subst (λ (d : DirectionValue). (pick (is_ready d) (record { ready = true; replaced = None; source = with_source_direction s dir (seen d); arms = false })
    (pick (is_waker w d.waiter) (record { ready = false; replaced = None; source = s; arms = broken })
    (record { ready = false; replaced = d.waiter; source = with_source_direction s dir (stored w ticker d); arms = is_idle d || broken }))).ready
    ≡ is_ready_after past dir) (sym (left_of past dir))
    (ready_picked (is_ready (direction_left past dir)) (is_waker w (waiter_of past dir)) _ _ _ _ _ _ ∙ ready_by past dir)

pub poll_ready : (past : List CellStep) (s : SourceValue) (dir : Dir) (w : Waker) (ticker : ℕ) → s.directions ≡ directions_left past
    → (polling s dir w ticker).ready ≡ is_ready_after past dir
poll_ready past s dir w ticker e =
    subst (λ (ds : DirectionValues). (polling (record { key = s.key; directions = ds; asked = s.asked; broken = s.broken }) dir w ticker).ready ≡ is_ready_after past dir) (sym e)
    (ready_core past s.key s.asked s.broken dir w ticker)

-- what a call ensures where it is known not to have failed
pub where_done : {E P : Type 0} (answer : Result (Unit {0}) E) → is_err answer ≡ false → OnOk answer P → P
where_done (Ok done) ok holds = holds
where_done (Err e) ok holds = cc

abbrev answer_if : Bool → Poll (Unit {0})
answer_if ready = if ready then Ready tt else Pending

-- an answer without a fault
pub sure_answer : (ready : Bool) (key : Key) (before after : ℕ) (told : Result (Unit {0}) Failed) → (IsErr told → ⊥)
    → without_fault (poll_answer ready (fault_of key before after told)) ≡ (if ready then Ready tt else Pending)
sure_answer true key before after told sure = refl
sure_answer false key before after (Ok done) sure = refl
sure_answer false key before after (Err failed) sure = absurd (sure refl)

pub sure_told : (told : Result (Unit {0}) Failed) → (IsErr told → ⊥) → told ≡ Ok tt
sure_told (Ok done) sure = refl
sure_told (Err failed) sure = absurd (sure refl)

pub answered : (past : List CellStep) (s : SourceValue) (dir : Dir) (w : Waker) (ticker : ℕ) (key : Key) (before after : ℕ) (told : Result (Unit {0}) Failed)
    (answer : Poll (Result (Unit {0}) ArmFault)) → s.directions ≡ directions_left past → (IsErr told → ⊥)
    → answer ≡ poll_answer (polling s dir w ticker).ready (fault_of key before after told) → without_fault answer ≡ answer_to_poll past dir
answered past s dir w ticker key before after told answer left sure is =
    ap without_fault is
    ∙ sure_answer (polling s dir w ticker).ready key before after told sure
    ∙ ap (λ (b : Bool). answer_if b) (poll_ready past s dir w ticker left)

-- ## An event

handled_dir : (named : Bool) (past : List CellStep) (dir : Dir) (on : Interest) (round n : ℕ)
    → (if named then handled round (direction_left past dir) else direction_left past dir)
    ≡ fresh_direction (greatest (if named then round ∷ rounds_of past dir else rounds_of past dir))
    (remembered dir (one_later (step.Handle on round n) (storing_poll past dir))) (if named then None else waiter_of past dir)
handled_dir true past dir on round n =
    ap (λ ticks. fresh_direction (max (greatest (rounds_of past dir)) round) ticks None) (remembered_further dir (step.Handle on round n) (storing_poll past dir))
handled_dir false past dir on round n = further_ticks past dir (step.Handle on round n)

abbrev flags : Bool → Bool → Bool → Interest
flags r w p = record { read = r; write = w; priority = p }

-- each direction by itself
along : (r w p : Bool) (round : ℕ) (ds : DirectionValues)
    → handled_along (flags r w p) round directions ds
    ≡ directions_where (λ dir. if has_dir (flags r w p) dir then handled round (direction_of ds dir) else direction_of ds dir)
along true true true round ds = refl
along true true false round ds = refl
along true false true round ds = refl
along true false false round ds = refl
along false true true round ds = refl
along false true false round ds = refl
along false false true round ds = refl
along false false false round ds = refl

handle_core : (past : List CellStep) (on : Interest) (round n : ℕ)
    → handled_along on round directions (directions_left past) ≡ directions_left (step.Handle on round n ∷ past)
handle_core past on round n =
    along on.read on.write on.priority round (directions_left past)
    ∙ where_values (λ dir. if has_dir on dir then handled round (direction_of (directions_left past) dir) else direction_of (directions_left past) dir)
    (direction_left (step.Handle on round n ∷ past))
    (λ dir. ap (λ (d : DirectionValue). if has_dir on dir then handled round d else d) (left_of past dir) ∙ handled_dir (has_dir on dir) past dir on round n)

pub handle_left : (past : List CellStep) (s : SourceValue) (on : Interest) (round n : ℕ) → s.directions ≡ directions_left past
    → (after_handle s on round).directions ≡ directions_left (step.Handle on round n ∷ past)
handle_left past s on round n e = ap (λ ds. handled_along on round directions ds) e ∙ handle_core past on round n

count_held : (named : Bool) (waiter : Option Waker) → length (if named then option_to_list waiter ++ [] else []) ≡ cond (named && is_some waiter) 1 0
count_held true None = refl
count_held true (Some waker) = refl
count_held false waiter = refl

-- what an event takes of a direction that never had a listener
abbrev taken_of : List CellStep → Interest → Dir → List Waker
taken_of past on dir = if has_dir on dir then option_to_list (waiter_of past dir) ++ [] else []

taken_three : (r w p : Bool) (round : ℕ) (past : List CellStep)
    → taken_along (flags r w p) round directions (directions_left past)
    ≡ taken_of past (flags r w p) Write ++ (taken_of past (flags r w p) Read ++ (taken_of past (flags r w p) Priority ++ []))
taken_three true true true round past = refl
taken_three true true false round past = refl
taken_three true false true round past = refl
taken_three true false false round past = refl
taken_three false true true round past = refl
taken_three false true false round past = refl
taken_three false false true round past = refl
taken_three false false false round past = refl

taken_core : (past : List CellStep) (on : Interest) (round : ℕ) → length (taken_along on round directions (directions_left past)) ≡ waiters_among on past
taken_core past on round =
    let a : List Waker = taken_of past on Write in
    let b : List Waker = taken_of past on Read in
    let c : List Waker = taken_of past on Priority in
    let all : length (taken_along on round directions (directions_left past)) ≡ length (a ++ (b ++ (c ++ []))) = ap length (taken_three on.read on.write on.priority round past) in
    let f : length a ≡ cond (on.write && is_some (waiter_of past Write)) 1 0 = count_held on.write (waiter_of past Write) in
    let g : length b ≡ cond (on.read && is_some (waiter_of past Read)) 1 0 = count_held on.read (waiter_of past Read) in
    let h : length c ≡ cond (on.priority && is_some (waiter_of past Priority)) 1 0 = count_held on.priority (waiter_of past Priority) in
    omega (arith, all, f, g, h, length-append a (b ++ (c ++ [])), length-append b (c ++ []), length-append c [])

pub taken_count : (past : List CellStep) (s : SourceValue) (on : Interest) (round : ℕ) → s.directions ≡ directions_left past
    → length (taken_along on round directions s.directions) ≡ waiters_among on past
taken_count past s on round e = ap (λ ds. length (taken_along on round directions ds)) e ∙ taken_core past on round

-- what an event took, into an empty list, is as much as the history says
pub counted : (past : List CellStep) (s : SourceValue) (on : Interest) (round n : ℕ) (cleared reserved now : List Waker) → s.directions ≡ directions_left past
    → cleared ≡ [] → reserved ≡ cleared → now ≡ reserved ++ taken_along on round directions s.directions → n ≡ length now → n ≡ waiters_among on past
counted past s on round n cleared reserved now left none same taken count =
    count ∙ ap length (taken ∙ ap (λ (l : List Waker). l ++ taken_along on round directions s.directions) (same ∙ none)) ∙ taken_count past s on round left

at_most_one : (held : Bool) → cond held 1 0 ≤ 1
at_most_one true = omega arith
at_most_one false = omega arith

pub has_room : (len found capacity : ℕ) → len + 3 ≤ capacity → found ≤ 3 → len + found ≤ capacity
has_room len found capacity room few = omega arith

pub has_place : (len capacity : ℕ) → len + 1 ≤ capacity → len < capacity
has_place len capacity room = omega arith

pub fits_few : (n count : ℕ) → n ≡ count → count ≤ 3 → Fits w32 n
fits_few n count is few = omega arith

pub at_most_three : (past : List CellStep) (on : Interest) → waiters_among on past ≤ 3
at_most_three past on =
    omega (
      arith,
      at_most_one (on.write && is_some (waiter_of past Write)),
      at_most_one (on.read && is_some (waiter_of past Read)),
      at_most_one (on.priority && is_some (waiter_of past Priority)),
    )

one_held : (waiter : Option Waker) → length (option_to_list waiter ++ []) ≤ 1
one_held None = omega arith
one_held (Some waker) = omega arith

pub three_wait : (past : List CellStep) (ds : DirectionValues) → ds ≡ directions_left past → length (waiters_in directions ds) ≤ 3
three_wait past ds e =
    subst (λ (d : DirectionValues). length (waiters_in directions d) ≤ 3) (sym e)
    (let a : List Waker = option_to_list (waiter_of past Write) ++ [] in
    let b : List Waker = option_to_list (waiter_of past Read) ++ [] in
    let c : List Waker = option_to_list (waiter_of past Priority) ++ [] in
    omega (arith, one_held (waiter_of past Write), one_held (waiter_of past Read), one_held (waiter_of past Priority), length-append a (b ++ (c ++ [])), length-append b (c ++ []), length-append c []))

-- ## The list of steps

pub last_first : (steps : List CellStep) (s : CellStep) → reverse (steps ++ s ∷ []) ≡ s ∷ reverse steps
last_first steps s = reverse-append steps (s ∷ [])

-- what the type of a recorded cell keeps
pub keeps_poll : (steps : List CellStep) (s : SourceValue) (dir : Dir) (w : Waker) (ticker : ℕ) (answer : Poll (Unit {0})) (after : SourceValue) (all : List CellStep)
    → IsRecorded steps s → answer ≡ answer_to_poll (reverse steps) dir → after ≡ after_poll s dir w ticker
    → all ≡ steps ++ step.Poll dir w ticker answer ∷ [] → after.key ≡ s.key → IsRecorded all after
keeps_poll steps s dir w ticker answer after all kept answered is more key =
    let past = reverse steps in
    let now : reverse all ≡ step.Poll dir w ticker (answer_to_poll past dir) ∷ past =
    ap reverse more ∙ last_first steps (step.Poll dir w ticker answer) ∙ ap (λ a. step.Poll dir w ticker a ∷ past) answered in
    record {
      key = ap (λ (k : Key). k.0) key ∙ kept.key;
      left = ap (λ (v : SourceValue). v.directions) is ∙ poll_left past s dir w ticker kept.left ∙ ap directions_left (sym now);
      replays = subst Replays (sym now) (refl, kept.replays);
    }

pub keeps_handle : (steps : List CellStep) (s : SourceValue) (on : Interest) (round n : ℕ) (after : SourceValue) (all : List CellStep)
    → IsRecorded steps s → n ≡ waiters_among on (reverse steps) → after ≡ after_handle s on round
    → all ≡ steps ++ step.Handle on round n ∷ [] → IsRecorded all after
keeps_handle steps s on round n after all kept answered is more =
    let past = reverse steps in
    let now : reverse all ≡ step.Handle on round (waiters_among on past) ∷ past =
    ap reverse more ∙ last_first steps (step.Handle on round n) ∙ ap (λ a. step.Handle on round a ∷ past) answered in
    record {
      key = ap (λ (v : SourceValue). v.key.0) is ∙ kept.key;
      left = ap (λ (v : SourceValue). v.directions) is ∙ handle_left past s on round (waiters_among on past) kept.left ∙ ap directions_left (sym now);
      replays = subst Replays (sym now) (refl, kept.replays);
    }
