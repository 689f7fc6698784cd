-- What a try inside a source comes to as a whole, by what each of its attempts came to.
use Rattle.std.proofs.Common.{◌≡◌, inl, inr, ℕ, ◌≤◌, Bool, true, false, List, [], Option, None, Some, Result, Ok, Err, arith, refl, sym, ap, ◌∙◌, subst, append-nil, le_refl, le_trans}
use Rattle.std.specs.Prelude.{IsErr, length, take}
use Rattle.std.proofs.lemmas.Bool.{false≢true}
use Rattle.aio_base.specs.Connections.{ConnMove, Joins, ReadOf, ReadTells, Takes, Telling, WriteTells, rest_of}
use Rattle.aio_base.specs.Devices.{ArmCall, HasCause, Interests, Rose}
use Rattle.aio_base.specs.declared.connections.Did.{Did}
use Rattle.aio_base.specs.declared.connections.Did.TheVariants.{Bytes, Blocked}
use Rattle.aio_base.specs.declared.names.Key.{Key}
use Rattle.aio_base.specs.declared.outcomes.ArmFault.{ArmFault}
use Rattle.aio_base.specs.declared.outcomes.CountFault.{CountFault}
use Rattle.aio_base.specs.declared.outcomes.Failed.{Failed}
use Rattle.aio_base.specs.declared.outcomes.Poll.{Poll}
use Rattle.aio_base.specs.declared.outcomes.Poll.TheVariants.{Ready, Pending}
use Rattle.aio_source.specs.Answers.{poll_answer, armed_in}
use Rattle.aio_source.specs.Lent.{arm_answer, fault_of}
use Rattle.aio_source.specs.Rules.{polling}
use Rattle.aio_source.specs.declared.source.SourceCell.{SourceCell}
use Rattle.aio_future.specs.declared.tried.TryFault.{TryFault}
use Rattle.aio_future.specs.declared.tried.TryFault.TheVariants as fault
use Rattle.aio_future.specs.declared.visits.PollDir.{PollDir}
use Rattle.aio_source.specs.declared.visit.Visited.{Visited}
use Rattle.aio_future.specs.Tries.{FaultsWithin, IsReadAnswer, IsWriteAnswer, MovesWithin, ReadsNow, TriesNow, Tries, WritesNow, answer_so_far, bytes_over, fault_counts, given_by, read_call, tried_of, try_answer, write_call}
use Rattle.aio_future.specs.Visits.{BlocksAndPolls, PollsCell, TriesCell, TriesOnce, unready_answer}
use Rattle.aio_future.proofs.Rests.{told_stays}

-- ## Faults

no_fault : (before after : ℕ) (was_sure is_sure failed : Bool) → HasCause before after was_sure (failed ≡ true) → is_sure ≡ was_sure → FaultsWithin before after was_sure is_sure None
no_fault before after was_sure is_sure failed cause same = record {
  counts = tt;
  cause = record {
    later = cause.later;
    rose = λ told. absurd (false≢true told);
    never = λ sure. (λ told. absurd (false≢true told), (cause.never sure).1);
  };
  sure = same;
}

fault_is : (ready : Bool) (why own : ArmFault) → Ready (Err why) ≡ poll_answer ready (Err own) → why ≡ own
fault_is true why own e = absurd cc
fault_is false why own e = cc

-- of a poll, as the answer of a read or a write
faults_by_poll : (ready : Bool) (key : Key) (before after : ℕ) (was_sure is_sure : Bool) (answer : Poll (Result (Unit {0}) ArmFault))
    → answer ≡ poll_answer ready (fault_of key before after (arm_answer (armed_in answer))) → HasCause before after was_sure (IsErr (arm_answer (armed_in answer)))
    → is_sure ≡ was_sure → FaultsWithin before after was_sure is_sure (fault_counts (try_answer (unready_answer answer)))
faults_by_poll ready key before after was_sure is_sure Pending is cause same = no_fault before after was_sure is_sure false cause same
faults_by_poll ready key before after was_sure is_sure (Ready (Ok done)) is cause same = no_fault before after was_sure is_sure false cause same
faults_by_poll ready key before after was_sure is_sure (Ready (Err why)) is cause same =
    let own : why ≡ record { key = key; before = before; after = after } = fault_is ready why (record { key = key; before = before; after = after }) is in
    rw own (record {
      counts = (le_refl before, cause.rose refl, le_refl after);
      cause = record {
        later = cause.later;
        rose = λ told. cause.rose refl;
        never = λ sure. absurd ((cause.never sure).0 refl);
      };
      sure = same;
    })

-- of a call without a fault, and of what came after it
then_faults : (a b c : ℕ) (sure_a sure_b sure_c : Bool) (told : Option CountFault) → FaultsWithin a b sure_a sure_b None → FaultsWithin b c sure_b sure_c told
    → FaultsWithin a c sure_a sure_c told
then_faults a b c sure_a sure_b sure_c None first second = record {
  counts = tt;
  cause = record {
    later = le_trans first.cause.later second.cause.later;
    rose = λ told. absurd (false≢true told);
    never = λ sure. (λ told. absurd (false≢true told), (second.cause.never (first.sure ∙ sure)).1 ∙ (first.cause.never sure).1);
  };
  sure = second.sure ∙ first.sure;
}
then_faults a b c sure_a sure_b sure_c (Some two) first second =
    let low : a ≤ b = first.cause.later in
    let rises : Rose two.before two.after = second.counts.1 in
    let within : two.after ≤ c = second.counts.2 in
    let from : b ≤ two.before = second.counts.0 in
    record {
      counts = (le_trans low from, rises, within);
      cause = record {
        later = le_trans low second.cause.later;
        rose = λ told. omega arith;
        never = λ sure. absurd ((second.cause.never (first.sure ∙ sure)).0 refl);
      };
      sure = second.sure ∙ first.sure;
    }

-- ## A poll as such an answer

unready_bytes : (answer : Poll (Result (Unit {0}) ArmFault)) → bytes_over (try_answer (unready_answer answer)) ≡ 0
unready_bytes Pending = refl
unready_bytes (Ready (Ok done)) = refl
unready_bytes (Ready (Err why)) = refl

unready_ends : (answer : Poll (Result (Unit {0}) ArmFault)) → try_answer (unready_answer answer) ≡ Ready (Ok 0) → ⊥
unready_ends Pending e = absurd cc
unready_ends (Ready (Ok done)) e = absurd cc
unready_ends (Ready (Err why)) e = absurd cc

-- ## What is told

same_left : (x y : Option (List ℕ)) → Takes x y [] → y ≡ x
same_left None None t = refl
same_left None (Some new) t = absurd t
same_left (Some old) None t = absurd t
same_left (Some old) (Some new) t = ap Some (sym t)

same_sent : (x y : Option (List ℕ)) → Joins x y [] → y ≡ x
same_sent None None t = refl
same_sent None (Some new) t = absurd t
same_sent (Some old) None t = absurd (t refl)
same_sent (Some old) (Some new) t = ap Some (t ∙ append-nil old)

-- a read or a write of no byte changes nothing that is told
read_tells_still : (buf : List ℕ) (a b : Telling) (blocked ended : Type 0) → ReadTells a b (take 0 buf) blocked ended → b ≡ a
read_tells_still buf a b blocked ended t =
    λ i. record { left = same_left a.left b.left t.taken i; ends = t.ends i; sent = t.sent i; prompt = t.prompt i }

write_tells_still : (piece : List ℕ) (a b : Telling) (blocked : Type 0) → WriteTells a b (take 0 piece) blocked → b ≡ a
write_tells_still piece a b blocked t =
    λ i. record { left = t.left i; ends = t.ends i; sent = same_sent a.sent b.sent t.joined i; prompt = t.prompt i }

module _ {C T : Type 0} (step : C → ArmCall → Result (Unit {0}) Failed → C → Type 0) (tells : C → Option Interests) (rest : C → List ℕ)
    (count : C → ℕ) (is_sure : C → Bool) (attempts : T → C → Option (Result ℕ TryFault) → T → C → Type 0) where
  -- ## Its answer

  once_answers : (Q : Poll (Result ℕ TryFault) → Type 0) → Q Pending → ((why : ArmFault) → Q (Ready (Err (fault.Arm why))))
      → (poll : PollDir) (a : T) (found : SourceCell C) (ticker : ℕ) (tried : Visited (Result ℕ TryFault)) (left : T) (put : SourceCell C)
      → ((before : T) (io : C) (given : Result ℕ TryFault) (io_left : C) → attempts before io (Some given) left io_left → Q (Ready given))
      → TriesOnce step tells rest count is_sure attempts poll a found ticker (Some tried) left put → Q (try_answer tried.answer)
  once_answers Q pending arms poll a found ticker tried left put gives (inl g) =
      subst (λ (v : Visited (Result ℕ TryFault)). Q (try_answer v.answer)) (sym g.tried_is) (gives a found.io g.output put.io g.gave.attempted)
  once_answers Q pending arms poll a found ticker tried left put gives (inr w) =
      subst (λ (v : Visited (Result ℕ TryFault)). Q (try_answer v.answer)) (sym w.tried_is) (unready w.polled.answer)
    where
      unready : (answer : Poll (Result (Unit {0}) ArmFault)) → Q (try_answer (unready_answer answer))
      unready Pending = pending
      unready (Ready (Ok done)) = pending
      unready (Ready (Err why)) = arms why

  -- what holds of what any last attempt gives, of a pending call and of one that could not be armed holds of the answer
  answers_as_whole : (Q : Poll (Result ℕ TryFault) → Type 0) → Q Pending → ((why : ArmFault) → Q (Ready (Err (fault.Arm why))))
      → (poll : PollDir) (a : T) (found : SourceCell C) (ticker : ℕ) (tried : Visited (Result ℕ TryFault)) (left : T) (put : SourceCell C)
      → ((before : T) (io : C) (given : Result ℕ TryFault) (io_left : C) → attempts before io (Some given) left io_left → Q (Ready given))
      → TriesCell step tells rest count is_sure attempts poll a found ticker tried left put → Q (try_answer tried.answer)
  answers_as_whole Q pending arms poll a found ticker tried left put gives (inl once) = once_answers Q pending arms poll a found ticker tried left put gives once
  answers_as_whole Q pending arms poll a found ticker tried left put gives (inr (first, between, ready, once)) =
      once_answers Q pending arms poll first between ticker tried left put gives once

  -- ## What stays of the attempt

  module _ (Stays : T → Type 0)
      (stays_of : (a : T) (io : C) (given : Option (Result ℕ TryFault)) (left : T) (io_left : C) → Stays a → attempts a io given left io_left → Stays left) where
    once_stays : (poll : PollDir) (a : T) (found : SourceCell C) (ticker : ℕ) (tried : Option (Visited (Result ℕ TryFault))) (left : T) (put : SourceCell C) → Stays a
        → TriesOnce step tells rest count is_sure attempts poll a found ticker tried left put → Stays left
    once_stays poll a found ticker (Some tried) left put stays (inl g) = stays_of a found.io (Some g.output) left put.io stays g.gave.attempted
    once_stays poll a found ticker (Some tried) left put stays (inr w) = stays_of a found.io None left w.blocks.between.io stays w.blocks.blocked.attempted
    once_stays poll a found ticker None left put stays ready = stays_of a found.io None left ready.blocks.between.io stays ready.blocks.blocked.attempted

    stays_as_whole : (poll : PollDir) (a : T) (found : SourceCell C) (ticker : ℕ) (tried : Visited (Result ℕ TryFault)) (left : T) (put : SourceCell C) → Stays a
        → TriesCell step tells rest count is_sure attempts poll a found ticker tried left put → Stays left
    stays_as_whole poll a found ticker tried left put stays (inl once) = once_stays poll a found ticker (Some tried) left put stays once
    stays_as_whole poll a found ticker tried left put stays (inr (first, between, ready, once)) =
        once_stays poll first between ticker (Some tried) left put (once_stays poll a found ticker None first between stays ready) once

  -- ## Its faults

  module _ (faults_of : (a : T) (io : C) (given : Option (Result ℕ TryFault)) (left : T) (io_left : C) → attempts a io given left io_left
      → FaultsWithin (count io) (count io_left) (is_sure io) (is_sure io_left) (fault_counts (answer_so_far given))) where
    blocks_faults : (poll : PollDir) (a : T) (found : SourceCell C) (ticker : ℕ) (polled : Visited (Unit {0})) (left : T) (put : SourceCell C)
        → BlocksAndPolls step tells rest count is_sure attempts poll a found ticker polled left put
        → FaultsWithin (count found.io) (count put.io) (is_sure found.io) (is_sure put.io) (fault_counts (try_answer (unready_answer polled.answer)))
    blocks_faults poll a found ticker polled left put b =
        then_faults (count found.io) (count b.between.io) (count put.io) (is_sure found.io) (is_sure b.between.io) (is_sure put.io) _
        (faults_of a found.io None left b.between.io b.blocked.attempted)
        (faults_by_poll (polling b.between.state poll.dir poll.waker ticker).ready b.between.state.key (count b.between.io) (count put.io)
        (is_sure b.between.io) (is_sure put.io) polled.answer (ap (λ (v : Visited (Unit {0})). v.answer) b.polls.answer)
        b.polls.lent.faults.cause b.polls.lent.faults.sure)

    once_faults : (poll : PollDir) (a : T) (found : SourceCell C) (ticker : ℕ) (tried : Visited (Result ℕ TryFault)) (left : T) (put : SourceCell C)
        → TriesOnce step tells rest count is_sure attempts poll a found ticker (Some tried) left put
        → FaultsWithin (count found.io) (count put.io) (is_sure found.io) (is_sure put.io) (fault_counts (try_answer tried.answer))
    once_faults poll a found ticker tried left put (inl g) =
        subst (λ (v : Visited (Result ℕ TryFault)). FaultsWithin (count found.io) (count put.io) (is_sure found.io) (is_sure put.io) (fault_counts (try_answer v.answer)))
        (sym g.tried_is) (faults_of a found.io (Some g.output) left put.io g.gave.attempted)
    once_faults poll a found ticker tried left put (inr w) =
        subst (λ (v : Visited (Result ℕ TryFault)). FaultsWithin (count found.io) (count put.io) (is_sure found.io) (is_sure put.io) (fault_counts (try_answer v.answer)))
        (sym w.tried_is) (blocks_faults poll a found ticker w.polled left put w.blocks)

    faults_as_whole : (poll : PollDir) (a : T) (found : SourceCell C) (ticker : ℕ) (tried : Visited (Result ℕ TryFault)) (left : T) (put : SourceCell C)
        → TriesCell step tells rest count is_sure attempts poll a found ticker tried left put
        → FaultsWithin (count found.io) (count put.io) (is_sure found.io) (is_sure put.io) (fault_counts (try_answer tried.answer))
    faults_as_whole poll a found ticker tried left put (inl once) = once_faults poll a found ticker tried left put once
    faults_as_whole poll a found ticker tried left put (inr (first, between, ready, once)) =
        then_faults (count found.io) (count between.io) (count put.io) (is_sure found.io) (is_sure between.io) (is_sure put.io) _
        (subst (λ (answer : Poll (Result (Unit {0}) ArmFault)). FaultsWithin (count found.io) (count between.io) (is_sure found.io) (is_sure between.io)
        (fault_counts (try_answer (unready_answer answer)))) ready.ready (blocks_faults poll a found ticker ready.polled first between ready.blocks))
        (once_faults poll first between ticker tried left put once)

  -- ## What it tells

  module _ (telling : C → Telling) (laid : (c : C) → rest c ≡ rest_of (is_sure c) (telling c))
      (Told : T → Telling → Telling → ℕ → (blocked ended : Type 0) → Type 0)
      (told_of : (a : T) (io : C) (given : Option (Result ℕ TryFault)) (left : T) (io_left : C) → attempts a io given left io_left
      → Told left (telling io) (telling io_left) (bytes_over (answer_so_far given)) (given ≡ None) (given ≡ Some (Ok 0)))
      (still : (left : T) (a b : Telling) (blocked ended : Type 0) → Told left a b 0 blocked ended → b ≡ a)
      (implied : (left : T) (a b : Telling) (n : ℕ) (blocked ended blocked_too ended_too : Type 0) → (blocked_too → blocked) → (ended_too → ended)
      → Told left a b n blocked ended → Told left a b n blocked_too ended_too) where
    poll_tells : (poll : PollDir) (found : SourceCell C) (ticker : ℕ) (polled : Visited (Unit {0})) (put : SourceCell C)
        → PollsCell step tells rest count is_sure poll found ticker polled put → telling put.io ≡ telling found.io
    poll_tells poll found ticker polled put p =
        told_stays (is_sure found.io) (is_sure put.io) (telling found.io) (telling put.io) (rest found.io) (rest put.io) (laid found.io) (laid put.io) p.lent.stays

    blocks_tells : (poll : PollDir) (a : T) (found : SourceCell C) (ticker : ℕ) (polled : Visited (Unit {0})) (left : T) (put : SourceCell C)
        → BlocksAndPolls step tells rest count is_sure attempts poll a found ticker polled left put → telling put.io ≡ telling found.io
    blocks_tells poll a found ticker polled left put b =
        poll_tells poll b.between ticker polled put b.polls
        ∙ still left (telling found.io) (telling b.between.io) _ _ (told_of a found.io None left b.between.io b.blocked.attempted)

    once_tells : (poll : PollDir) (a : T) (found : SourceCell C) (ticker : ℕ) (tried : Visited (Result ℕ TryFault)) (left : T) (put : SourceCell C)
        → TriesOnce step tells rest count is_sure attempts poll a found ticker (Some tried) left put
        → Told left (telling found.io) (telling put.io) (bytes_over (try_answer tried.answer)) (try_answer tried.answer ≡ Pending) (try_answer tried.answer ≡ Ready (Ok 0))
    once_tells poll a found ticker tried left put (inl g) =
        subst (λ (v : Visited (Result ℕ TryFault)). Told left (telling found.io) (telling put.io) (bytes_over (try_answer v.answer)) (try_answer v.answer ≡ Pending) (try_answer v.answer ≡ Ready (Ok 0)))
        (sym g.tried_is)
        (implied left (telling found.io) (telling put.io) _ _ _ (Ready g.output ≡ Pending) (Ready g.output ≡ Ready (Ok 0)) (λ e. absurd cc) (λ e. cc)
        (told_of a found.io (Some g.output) left put.io g.gave.attempted))
    once_tells poll a found ticker tried left put (inr w) =
        let between = w.blocks.between in
        let answer = w.polled.answer in
        subst (λ (v : Visited (Result ℕ TryFault)). Told left (telling found.io) (telling put.io) (bytes_over (try_answer v.answer)) (try_answer v.answer ≡ Pending) (try_answer v.answer ≡ Ready (Ok 0)))
        (sym w.tried_is)
        (subst (λ n. Told left (telling found.io) (telling put.io) n (try_answer (unready_answer answer) ≡ Pending) (try_answer (unready_answer answer) ≡ Ready (Ok 0)))
        (sym (unready_bytes answer))
        (subst (λ (t : Telling). Told left (telling found.io) t 0 (try_answer (unready_answer answer) ≡ Pending) (try_answer (unready_answer answer) ≡ Ready (Ok 0)))
        (sym (poll_tells poll between ticker w.polled put w.blocks.polls))
        (implied left (telling found.io) (telling between.io) 0 _ _ _ _ (λ e. refl) (λ e. absurd (unready_ends answer e))
        (told_of a found.io None left between.io w.blocks.blocked.attempted))))

    tells_as_whole : (poll : PollDir) (a : T) (found : SourceCell C) (ticker : ℕ) (tried : Visited (Result ℕ TryFault)) (left : T) (put : SourceCell C)
        → TriesCell step tells rest count is_sure attempts poll a found ticker tried left put
        → Told left (telling found.io) (telling put.io) (bytes_over (try_answer tried.answer)) (try_answer tried.answer ≡ Pending) (try_answer tried.answer ≡ Ready (Ok 0))
    tells_as_whole poll a found ticker tried left put (inl once) = once_tells poll a found ticker tried left put once
    tells_as_whole poll a found ticker tried left put (inr (first, between, ready, once)) =
        subst (λ (t : Telling). Told left t (telling put.io) (bytes_over (try_answer tried.answer)) (try_answer tried.answer ≡ Pending) (try_answer tried.answer ≡ Ready (Ok 0)))
        (blocks_tells poll a found ticker ready.polled first between ready.blocks) (once_tells poll first between ticker tried left put once)

  -- ## Its calls

  module _ (makes : C → Option (Result ℕ TryFault) → C → Type 0) (Fits : T → Type 0)
      (blocked_of : (a : T) (io : C) (left : T) (io_left : C) → Fits a → attempts a io None left io_left → Fits left × makes io None io_left) where
    abbrev OneTries : PollDir → SourceCell C → ℕ → Option (Visited (Result ℕ TryFault)) → SourceCell C → Type 0
    OneTries poll found ticker tried put =
        TriesOnce step tells rest count is_sure (λ (one : Unit {0}) io given (same : Unit {0}) io_left. makes io given io_left) poll tt found ticker tried tt put

    blocks_calls : (poll : PollDir) (a : T) (found : SourceCell C) (ticker : ℕ) (polled : Visited (Unit {0})) (left : T) (put : SourceCell C) → Fits a
        → BlocksAndPolls step tells rest count is_sure attempts poll a found ticker polled left put
        → BlocksAndPolls step tells rest count is_sure (λ (one : Unit {0}) io given (same : Unit {0}) io_left. makes io given io_left) poll tt found ticker polled tt put
    blocks_calls poll a found ticker polled left put fits b = record {
      between = b.between;
      blocked = record { attempted = (blocked_of a found.io left b.between.io fits b.blocked.attempted).1; state = b.blocked.state };
      polls = b.polls;
    }

    once_calls : (poll : PollDir) (a : T) (found : SourceCell C) (ticker : ℕ) (tried : Visited (Result ℕ TryFault)) (left : T) (put : SourceCell C) → Fits a
        → ((before : T) (io : C) (given : Result ℕ TryFault) (io_left : C) → Fits before → attempts before io (Some given) left io_left → makes io (Some given) io_left)
        → TriesOnce step tells rest count is_sure attempts poll a found ticker (Some tried) left put → OneTries poll found ticker (Some tried) put
    once_calls poll a found ticker tried left put fits gives (inl g) = inl (record {
      output = g.output;
      gave = record { attempted = gives a found.io g.output put.io fits g.gave.attempted; state = g.gave.state };
      tried_is = g.tried_is;
    })
    once_calls poll a found ticker tried left put fits gives (inr w) = inr (record {
      polled = w.polled;
      blocks = blocks_calls poll a found ticker w.polled left put fits w.blocks;
      unready = w.unready;
      tried_is = w.tried_is;
    })

    -- the same of attempts that say no more than which call of the connection was made
    calls_as_whole : (poll : PollDir) (a : T) (found : SourceCell C) (ticker : ℕ) (tried : Visited (Result ℕ TryFault)) (left : T) (put : SourceCell C) → Fits a
        → ((before : T) (io : C) (given : Result ℕ TryFault) (io_left : C) → Fits before → attempts before io (Some given) left io_left → makes io (Some given) io_left)
        → TriesCell step tells rest count is_sure attempts poll a found ticker tried left put
        → TriesCell step tells rest count is_sure (λ (one : Unit {0}) io given (same : Unit {0}) io_left. makes io given io_left) poll tt found ticker tried tt put
    calls_as_whole poll a found ticker tried left put fits gives (inl once) = inl (once_calls poll a found ticker tried left put fits gives once)
    calls_as_whole poll a found ticker tried left put fits gives (inr (first, between, ready, once)) =
        inr (
          tt,
          between,
          record { polled = ready.polled; blocks = blocks_calls poll a found ticker ready.polled first between fits ready.blocks; ready = ready.ready },
          once_calls poll first between ticker tried left put (blocked_of a found.io first ready.blocks.between.io fits ready.blocks.blocked.attempted).0 gives once,
        )

-- ## A whole read, and a whole write

read_blocked : {C : Type 0} (conn : C → ConnMove → C → Type 0) (count : C → ℕ) (room room_too : ℕ) (buf buf_too : List ℕ) (io io_left : C) → room ≡ room_too
    → TriesNow conn count (read_call room buf) fault.Read io None io_left → TriesNow conn count (read_call room_too buf_too) fault.Read io None io_left
read_blocked conn count room room_too buf buf_too io io_left same t = by_answer t.did t.made t.gives
  where
    by_answer : (did : Result Did Failed) → conn io (read_call room buf did) io_left → None ≡ given_by fault.Read (count io) (count io_left) did
        → TriesNow conn count (read_call room_too buf_too) fault.Read io None io_left
    by_answer (Ok Blocked) made gives = record { did = Ok Blocked; made = subst (λ r. conn io (ReadOf r (Ok Blocked) []) io_left) same made; gives = refl }
    by_answer (Ok (Bytes n)) made gives = absurd cc
    by_answer (Err failed) made gives = absurd cc

module _ {C T : Type 0} (conn : C → ConnMove → C → Type 0) (step : C → ArmCall → Result (Unit {0}) Failed → C → Type 0) (tells : C → Option Interests)
    (rest : C → List ℕ) (count : C → ℕ) (is_sure : C → Bool) (telling : C → Telling) (laid : (c : C) → rest c ≡ rest_of (is_sure c) (telling c))
    (attempts : T → C → Option (Result ℕ TryFault) → T → C → Type 0) (buf_of : T → List ℕ) where
  module _ (reads : (a : T) (io : C) (given : Option (Result ℕ TryFault)) (left : T) (io_left : C) → attempts a io given left io_left
      → ReadsNow conn telling count is_sure (buf_of a) io given (buf_of left) io_left)
      (poll : PollDir) (a : T) (found : SourceCell C) (ticker : ℕ) (tried : Visited (Result ℕ TryFault)) (left : T) (put : SourceCell C)
      (tries : TriesCell step tells rest count is_sure attempts poll a found ticker tried left put) where
    pub read_tries : Tries conn step tells rest count is_sure (read_call (length (buf_of a)) (buf_of left)) fault.Read poll.dir poll.waker ticker
        found.state found.io (tried_of tried) put.state put.io
    read_tries = record {
      visited = tried;
      tries = calls_as_whole step tells rest count is_sure attempts
          (λ io given io_left. TriesNow conn count (read_call (length (buf_of a)) (buf_of left)) fault.Read io given io_left)
          (λ b. length (buf_of b) ≡ length (buf_of a))
          (λ b io l io_left fits at. let r = reads b io None l io_left at in (r.room ∙ fits, read_blocked conn count _ _ (buf_of l) (buf_of left) io io_left fits r.tries))
          poll a found ticker tried left put refl
          (λ b io given io_left fits at. subst (λ n. TriesNow conn count (read_call n (buf_of left)) fault.Read io (Some given) io_left) fits (reads b io (Some given) left io_left at).tries)
          tries;
      result_is = refl;
    }

    pub read_most : bytes_over (try_answer tried.answer) ≤ length (buf_of left)
    read_most = answers_as_whole step tells rest count is_sure attempts (λ answer. bytes_over answer ≤ length (buf_of left)) (omega arith) (λ why. omega arith)
        poll a found ticker tried left put (λ b io given io_left at. (reads b io (Some given) left io_left at).most) tries

    pub read_kind : IsReadAnswer (try_answer tried.answer)
    read_kind = answers_as_whole step tells rest count is_sure attempts IsReadAnswer tt (λ why. tt)
        poll a found ticker tried left put (λ b io given io_left at. (reads b io (Some given) left io_left at).kind) tries

    pub read_told : ReadTells (telling found.io) (telling put.io) (take (bytes_over (try_answer tried.answer)) (buf_of left))
        (try_answer tried.answer ≡ Pending) (try_answer tried.answer ≡ Ready (Ok 0))
    read_told = tells_as_whole step tells rest count is_sure attempts telling laid
        (λ l old new n blocked ended. ReadTells old new (take n (buf_of l)) blocked ended)
        (λ b io given l io_left at. (reads b io given l io_left at).told)
        (λ l. read_tells_still (buf_of l))
        (λ l old new n blocked ended blocked_too ended_too if_blocked if_ended t. record {
          taken = t.taken;
          at_end = λ e. t.at_end (if_ended e);
          ends = t.ends;
          sent = t.sent;
          prompt = t.prompt;
          never = λ prompt b. t.never prompt (if_blocked b);
        }) poll a found ticker tried left put tries

    pub read_faults : FaultsWithin (count found.io) (count put.io) (is_sure found.io) (is_sure put.io) (fault_counts (try_answer tried.answer))
    read_faults = faults_as_whole step tells rest count is_sure attempts (λ b io given l io_left at. (reads b io given l io_left at).faults)
        poll a found ticker tried left put tries

  module _ (writes : (a : T) (io : C) (given : Option (Result ℕ TryFault)) (left : T) (io_left : C) → attempts a io given left io_left
      → (left ≡ a) × WritesNow conn telling count is_sure (buf_of a) io given io_left)
      (poll : PollDir) (a : T) (found : SourceCell C) (ticker : ℕ) (tried : Visited (Result ℕ TryFault)) (left : T) (put : SourceCell C)
      (tries : TriesCell step tells rest count is_sure attempts poll a found ticker tried left put) where
    -- the piece stays as it was
    pub same : left ≡ a
    same = stays_as_whole step tells rest count is_sure attempts (λ b. b ≡ a) (λ b io given l io_left fits at. (writes b io given l io_left at).0 ∙ fits)
        poll a found ticker tried left put refl tries

    pub write_tries : Tries conn step tells rest count is_sure (write_call (buf_of a)) fault.Write poll.dir poll.waker ticker
        found.state found.io (tried_of tried) put.state put.io
    write_tries = record {
      visited = tried;
      tries = calls_as_whole step tells rest count is_sure attempts
          (λ io given io_left. TriesNow conn count (write_call (buf_of a)) fault.Write io given io_left)
          (λ b. b ≡ a)
          (λ b io l io_left fits at. let r = writes b io None l io_left at in (r.0 ∙ fits, subst (λ t. TriesNow conn count (write_call (buf_of t)) fault.Write io None io_left) fits r.1.tries))
          poll a found ticker tried left put refl
          (λ b io given io_left fits at. subst (λ t. TriesNow conn count (write_call (buf_of t)) fault.Write io (Some given) io_left) fits (writes b io (Some given) left io_left at).1.tries)
          tries;
      result_is = refl;
    }

    pub write_most : MovesWithin (length (buf_of a)) (try_answer tried.answer)
    write_most = subst (λ t. MovesWithin (length (buf_of t)) (try_answer tried.answer)) same
        (answers_as_whole step tells rest count is_sure attempts (MovesWithin (length (buf_of left))) tt (λ why. tt) poll a found ticker tried left put
        (λ b io given io_left at. let w = writes b io (Some given) left io_left at in subst (λ t. MovesWithin (length (buf_of t)) (Ready given)) (sym w.0) w.1.most) tries)

    pub write_kind : IsWriteAnswer (try_answer tried.answer)
    write_kind = answers_as_whole step tells rest count is_sure attempts IsWriteAnswer tt (λ why. tt)
        poll a found ticker tried left put (λ b io given io_left at. (writes b io (Some given) left io_left at).1.kind) tries

    pub write_told : WriteTells (telling found.io) (telling put.io) (take (bytes_over (try_answer tried.answer)) (buf_of a)) (try_answer tried.answer ≡ Pending)
    write_told = subst (λ t. WriteTells (telling found.io) (telling put.io) (take (bytes_over (try_answer tried.answer)) (buf_of t)) (try_answer tried.answer ≡ Pending)) same
        (tells_as_whole step tells rest count is_sure attempts telling laid
        (λ l old new n blocked ended. WriteTells old new (take n (buf_of l)) blocked)
        (λ b io given l io_left at. let w = writes b io given l io_left at in
        subst (λ t. WriteTells (telling io) (telling io_left) (take (bytes_over (answer_so_far given)) (buf_of t)) (given ≡ None)) (sym w.0) w.1.told)
        (λ l old new blocked ended. write_tells_still (buf_of l) old new blocked)
        (λ l old new n blocked ended blocked_too ended_too if_blocked if_ended t. record {
          joined = t.joined;
          left = t.left;
          ends = t.ends;
          prompt = t.prompt;
          never = λ prompt b. t.never prompt (if_blocked b);
        }) poll a found ticker tried left put tries)

    pub write_faults : FaultsWithin (count found.io) (count put.io) (is_sure found.io) (is_sure put.io) (fault_counts (try_answer tried.answer))
    write_faults = faults_as_whole step tells rest count is_sure attempts (λ b io given l io_left at. (writes b io given l io_left at).1.faults)
        poll a found ticker tried left put tries
