-- The calls of the kit's queue keep the rule of the queue of operations.
use Rattle.std.proofs.Common.{◌≡◌, ℕ, ◌+◌, ◌<◌, ◌≤◌, [], ◌∷◌, ◌++◌, length, sym, refl, subst, arith}
use Rattle.aio_timers.specs.declared.op.TimerOp.{TimerOp}
use Rattle.std.proofs.lemmas.List.{length_push}
use Rattle.std.proofs.lemmas.List.Elements.{All-append, All-cons, All-nil}
use Rattle.crossbeam_queue.specs.Fifo.{Pushes, Pops, Forks}
use Rattle.aio_rules.specs.declared.operations.OpEntry.{OpEntry}
use Rattle.aio_rules.specs.declared.operations.QueueSeat.{QueueSeat}
use Rattle.aio_rules.specs.declared.operations.PushedOp.{PushedOp}
use Rattle.aio_rules.specs.OperationLaws.{KnowsItsPast}
use Rattle.aio_rules.specs.Operations.{SeatsRule, QueuePass, new_seat, with_push, with_pop, with_split, queue_limit}
use Rattle.aio_rules.proofs.OperationSteps.{push_keeps, pop_keeps, new_pass_keeps}
use Rattle.aio_rules.proofs.OperationRules.{start_meets_queue_rule}

pub begins : SeatsRule {O = TimerOp} [] (new_seat 0 1 ∷ [])
begins = (start_meets_queue_rule TimerOp).seats

pub pushes : (capacity pass : ℕ) (h : QueueSeat TimerOp) (x : OpEntry TimerOp) → capacity ≡ queue_limit → x.pass ≡ h.number → x.number ≡ length h.own + 1
    → Pushes SeatsRule capacity pass h x (λ after. after ≡ with_push x h)
pushes capacity pass h x is named number items seats room r at =
    (with_push x h, push_keeps items seats pass h x r at (subst (λ (n : ℕ). length items < n) is room) named number, refl)

pub pops : (pass : ℕ) (h : QueueSeat TimerOp) → Pops SeatsRule pass h (λ x after. after ≡ with_pop x h)
pops pass h x items seats r at = (with_pop x h, pop_keeps x items seats pass h r at, refl)

pub forks : (pass : ℕ) (h : QueueSeat TimerOp) → h.number ≡ 0 → Forks SeatsRule pass h (with_split h) (new_seat h.splits 0)
forks pass h first items seats r at = new_pass_keeps items seats pass h r at first

-- ## What a pass knows of the moments of its pushes

abbrev seen : QueueSeat TimerOp → ℕ → ℕ → QueuePass TimerOp
seen h fulls empties = record { seat = h; fulls = fulls; empties = empties }

pub past_pushed : (h w : QueueSeat TimerOp) (e : OpEntry TimerOp) (fulls empties : ℕ) → w ≡ with_push e h → e.empties ≡ empties
    → KnowsItsPast (seen h fulls empties) → KnowsItsPast (seen w fulls empties)
past_pushed h w e fulls empties is same past =
    let P : PushedOp TimerOp → Type 0 = λ p. (p.pulled ≤ length h.pulled) × (p.entry.empties ≤ empties) in
    let new : PushedOp TimerOp = record { entry = e; pulled = length h.pulled } in
    subst (λ (v : QueueSeat TimerOp). KnowsItsPast (seen v fulls empties)) (sym is)
    (All-append P h.own (new ∷ []) past (All-cons P new [] (omega arith, omega (arith, same)) (All-nil P)))

pub past_popped : (h w : QueueSeat TimerOp) (e : OpEntry TimerOp) (fulls empties : ℕ) → w ≡ with_pop e h
    → KnowsItsPast (seen h fulls empties) → KnowsItsPast (seen w fulls empties)
past_popped h w e fulls empties is past =
    let long : length (h.pulled ++ e ∷ []) ≡ length h.pulled + 1 = length_push h.pulled e in
    subst (λ (v : QueueSeat TimerOp). KnowsItsPast (seen v fulls empties)) (sym is)
    (λ k d below. let before = past k d below in let low = before.0 in (omega (arith, low, long), before.1))

pub past_emptied : (h w : QueueSeat TimerOp) (fulls empties more : ℕ) → w ≡ h → more ≡ empties + 1
    → KnowsItsPast (seen h fulls empties) → KnowsItsPast (seen w fulls more)
past_emptied h w fulls empties more is one past =
    subst (λ (v : QueueSeat TimerOp). KnowsItsPast (seen v fulls more)) (sym is)
    (λ k d below. let before = past k d below in let few = before.1 in (before.0, omega (arith, few, one)))

pub past_full : (h w : QueueSeat TimerOp) (fulls more empties : ℕ) → w ≡ h → KnowsItsPast (seen h fulls empties) → KnowsItsPast (seen w more empties)
past_full h w fulls more empties is past = subst (λ (v : QueueSeat TimerOp). KnowsItsPast (seen v more empties)) (sym is) past

pub past_split : (h w : QueueSeat TimerOp) (fulls empties : ℕ) → w ≡ with_split h → KnowsItsPast (seen h fulls empties) → KnowsItsPast (seen w fulls empties)
past_split h w fulls empties is past = subst (λ (v : QueueSeat TimerOp). KnowsItsPast (seen v fulls empties)) (sym is) past

pub past_new : (w : QueueSeat TimerOp) (number splits fulls empties : ℕ) → w ≡ new_seat number splits → KnowsItsPast (seen w fulls empties)
past_new w number splits fulls empties is =
    subst (λ (v : QueueSeat TimerOp). KnowsItsPast (seen v fulls empties)) (sym is) (All-nil (λ (p : PushedOp TimerOp). (p.pulled ≤ 0) × (p.entry.empties ≤ empties)))
