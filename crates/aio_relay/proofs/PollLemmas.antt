-- Lemmas on a poll of a pair.
use Rattle.std.proofs.Common.{◌≡◌, ℕ, ◌+◌, ◌<◌, ◌≤◌, Bool, true, false, List, [], length, refl, sym, ap, ◌∙◌, subst, arith, inl, inr, Option, None, Some, Result, Ok, Err}
use Rattle.std.specs.Prelude.{◌⊎◌, ◌||◌, ◌==◌, zero, suc, max, nat_lt, if◌then◌else◌}
use Rattle.std.proofs.lemmas.Bool.{lt-ltb}
use Rattle.std.proofs.lemmas.List.{nil_from_length}
use Rattle.aio_base.specs.Connections.{Telling}
use Rattle.aio_base.specs.Devices.{raised, Rose}
use Rattle.aio_base.specs.Tasks.{own_waker}
use Rattle.aio_base.specs.declared.names.Dir.TheVariants.{Read, Write}
use Rattle.aio_base.specs.declared.names.Waker.{Waker}
use Rattle.aio_base.specs.declared.outcomes.CountFault.{CountFault}
use Rattle.aio_base.specs.declared.outcomes.Poll.{Poll}
use Rattle.aio_base.specs.declared.outcomes.Poll.TheVariants.{Ready, Pending}
use Rattle.aio_base.specs.declared.tasks.Cx.{Cx}
use Rattle.aio_future.specs.Timers.{TimerValue}
use Rattle.aio_pairs.specs.Backlogs.{SideState}
use Rattle.aio_pairs.specs.Calls.{CallsFor, EndCall, RoseIn}
use Rattle.aio_pairs.specs.Exchanges.{Exchange, IsLongThere, IsReason, OneFailed, OneWay, went_over}
use Rattle.aio_pairs.specs.Fits.{Fits, LinesAre, to_give}
use Rattle.aio_pairs.specs.Lines.{lines}
use Rattle.aio_pairs.specs.declared.outcomes.PairEnd.{PairEnd}
use Rattle.aio_pairs.specs.declared.outcomes.PairEnd.TheVariants as pair
use Rattle.aio_pairs.specs.declared.outcomes.Side.{Side}
use Rattle.aio_pairs.specs.declared.outcomes.Side.TheVariants.{A, B}
use Rattle.aio_pairs.specs.declared.outcomes.Tally.{Tally}
use Rattle.aio_pairs.proofs.ExchangeLemmas.{exchange-begins}
use Rattle.aio_pairs.proofs.FitLemmas.{fitted, done-fits, long-fits}
use Rattle.aio_pairs.proofs.PassingLemmas.{wrote-more}
use Rattle.aio_base.specs.Hosts.{HostRules, has_id_left}
use Rattle.aio_relay.specs.Waiting.{IsSetTo, Waits, idle_from}
use Rattle.aio_relay.specs.declared.waiting.WaitFault.{WaitFault}
use Rattle.aio_relay.specs.declared.waiting.WaitFault.TheVariants as wait_fault
use Rattle.aio_relay.specs.Pairs.{PairState, IsKept, IsPair, BothDone, BothShort, Follows, IsTheEnd, IsWaiting, Passed, PollsPair, Tells, bytes_moved, last_after, may_come_to, own_of, reads_block}

-- ## The last byte

-- what a tally says of one way
tally-moved : (tally : Tally) (read written : List ℕ) → tally.read ≡ length read → tally.wrote ≡ nat_lt 0 (length written) → (tally.wrote || nat_lt 0 tally.read) ≡ nat_lt 0 (length read + length written)
tally-moved tally read written is_read is_written =
    ap (λ b. b || nat_lt 0 tally.read) is_written ∙ ap (λ n. nat_lt 0 (length written) || nat_lt 0 n) is_read
    ∙ sym (wrote-more (length written) (length read)) ∙ ap (nat_lt 0) (omega arith)

last-by : (moved last now : ℕ) → (if nat_lt 0 moved then max last now else last) ≡ last_after moved last now
last-by zero last now = refl
last-by (suc more) last now = ap (λ (b : Bool). if b then max last now else last) (lt-ltb 0 (suc more) (omega arith))

last-of : (m n last now : ℕ) → (if nat_lt 0 m || nat_lt 0 n then max last now else last) ≡ last_after (m + n) last now
last-of m n last now = ap (λ (b : Bool). if b then max last now else last) (sym (wrote-more m n)) ∙ last-by (m + n) last now

pub last-is : {E : Type 0} (told : E → Telling) (a_old b_old a b : E) (a_calls b_calls : List EndCall) (from_a_old from_b_old from_a from_b : SideState) (tally_a tally_b : Tally)
    (more_a more_b : Bool) (last now : ℕ)
    → OneWay told a_old b_old a b a_calls b_calls from_a_old from_a tally_a more_a → OneWay told b_old a_old b a b_calls a_calls from_b_old from_b tally_b more_b
    → (if (tally_a.wrote || nat_lt 0 tally_a.read) || (tally_b.wrote || nat_lt 0 tally_b.read) then max last now else last) ≡ last_after (bytes_moved a_calls b_calls) last now
last-is told a_old b_old a b a_calls b_calls from_a_old from_b_old from_a from_b tally_a tally_b more_a more_b last now forth back =
    let one = tally-moved tally_a (went_over Read a_calls) (went_over Write b_calls) forth.tally_read forth.tally_wrote in
    let two = tally-moved tally_b (went_over Read b_calls) (went_over Write a_calls) back.tally_read back.tally_wrote in
    ap (λ (x : Bool). if x || (tally_b.wrote || nat_lt 0 tally_b.read) then max last now else last) one
    ∙ ap (λ (x : Bool). if nat_lt 0 (length (went_over Read a_calls) + length (went_over Write b_calls)) || x then max last now else last) two
    ∙ last-of (length (went_over Read a_calls) + length (went_over Write b_calls)) (length (went_over Read b_calls) + length (went_over Write a_calls)) last now

last-grows : (moved last now : ℕ) → last ≤ last_after moved last now
last-grows zero last now = omega arith
last-grows (suc n) last now = omega arith

-- nothing went over in a poll at which the pair is idle
none-moved : (moved last now idle : ℕ) → 0 < idle → last_after moved last now + idle ≤ now → moved ≡ 0
none-moved zero last now idle some late = refl
none-moved (suc n) last now idle some late = absurd (omega (arith, some, late))

-- ## What fits

module _ {E H : Type 0} (step : E → EndCall → E → Type 0) (told : E → Telling) (sure : E → Bool) (count : E → ℕ) (on_host : H → EndCall → H → Type 0) where
  -- the pair may come to nothing that it might not come to before
  pub came-before : {P : Type 0} {stop : Option PairEnd} (host until : H) (old new : PairState E) (now moment : ℕ) (notifier_sure : Bool) (end : PairEnd)
      → Passed step told sure count on_host host until old new now P stop → may_come_to told sure new notifier_sure moment end → may_come_to told sure old notifier_sure moment end
  came-before host until old new now moment notifier_sure end p fits =
      let x = p.exchanged in
      fitted step told sure count old.a old.b new.a new.b old.from_a old.from_b new.from_a new.from_b p.tally_a p.tally_b x.more_a x.more_b _ x.exchange
      old.last new.last moment old.idle notifier_sure end (omega (arith, last-grows (bytes_moved x.exchange.a_calls x.exchange.b_calls) old.last now, p.last))
      (subst (λ (idle : ℕ). Fits (to_give new.from_a (told new.a) (sure new.a)) (to_give new.from_b (told new.b) (sure new.b)) new.last moment idle notifier_sure end) p.idle fits)

  -- one way of a pair that is idle: it is done, or a call of it was blocked
  idle-way : (from_old to_old from to : E) (from_calls to_calls : List EndCall) (old side : SideState) (tally : Tally) (more : Bool)
      → OneWay told from_old to_old from to from_calls to_calls old side tally more → more ≡ false
      → ((lines side.backlog ≡ []) × (side.ended ≡ true)) ⊎ (((told from).prompt ≡ false) ⊎ ((told to).prompt ≡ false))
  idle-way from_old to_old from to from_calls to_calls old side tally more way over = go (length (lines side.backlog)) refl where
    go : (n : ℕ) → length (lines side.backlog) ≡ n → ((lines side.backlog ≡ []) × (side.ended ≡ true)) ⊎ (((told from).prompt ≡ false) ⊎ ((told to).prompt ≡ false))
    go zero none =
        let no_lines = nil_from_length (lines side.backlog) none in
        elim ((way.stuck over).starved no_lines) [ inl ended ↦ inl (no_lines, ended) | inr blocked ↦ inr (inl blocked.1) ]
    go (suc n) some = inr (inr ((way.stuck over).jammed (omega (arith, some))).1)

  pub idle-blocked : {P : Type 0} {stop : Option PairEnd} → P → (host until : H) (old new : PairState E) (now : ℕ)
      → Passed step told sure count on_host host until old new now P stop
      → 0 < new.idle → new.last + new.idle ≤ now → ¬ BothDone new → ((told new.a).prompt ≡ false) ⊎ ((told new.b).prompt ≡ false)
  idle-blocked over host until old new now p some late not_done =
      let x = p.exchanged.exchange in
      let none : bytes_moved x.a_calls x.b_calls ≡ 0 = none-moved (bytes_moved x.a_calls x.b_calls) old.last now new.idle some (omega (arith, late, p.last)) in
      elim (p.exchanged.is_over over) [
        | inl both ↦ elim (idle-way old.a old.b new.a new.b x.a_calls x.b_calls old.from_a new.from_a p.tally_a p.exchanged.more_a x.forth both.0) [
          | inl a_done ↦ elim (idle-way old.b old.a new.b new.a x.b_calls x.a_calls old.from_b new.from_b p.tally_b p.exchanged.more_b x.back both.1) [
            | inl b_done ↦ absurd (not_done (a_done, b_done))
            | inr blocked ↦ elim blocked [ inl b ↦ inr b | inr a ↦ inl a ]
          ]
          | inr blocked ↦ blocked
        ]
        | inr read ↦ elim read [
          | inl a ↦ absurd (omega (arith, a, none, x.forth.tally_read))
          | inr b ↦ absurd (omega (arith, b, none, x.back.tally_read))
        ]
      ]

  pub ended-fits : (p : PairState E) (moment : ℕ) (notifier_sure : Bool) (to_a to_b : ℕ) → IsPair told p → BothDone p → to_a ≡ p.from_b.forwarded → to_b ≡ p.from_a.forwarded
      → may_come_to told sure p notifier_sure moment (pair.Ended to_a to_b)
  ended-fits p moment notifier_sure to_a to_b is done is_a is_b = (
    subst (LinesAre (to_give p.from_b (told p.b) (sure p.b))) (sym is_a) (done-fits p.from_b (told p.b) (sure p.b) is.side_b.small done.1.0 (is.side_b.at_end done.1.1)),
    subst (LinesAre (to_give p.from_a (told p.a) (sure p.a))) (sym is_b) (done-fits p.from_a (told p.a) (sure p.a) is.side_a.small done.0.0 (is.side_a.at_end done.0.1)),
  )

  one-unsure : (old new : PairState E) (f : CountFault) → OneFailed sure count old.a new.a old.b new.b f → (sure new.a ≡ false) ⊎ (sure new.b ≡ false)
  one-unsure old new f is = elim is [ inl a ↦ inl a.0 | inr b ↦ inr b.0 ]

  pub reason-fits : (old new : PairState E) (moment before after : ℕ) (notifier_sure : Bool) (end : PairEnd)
      → IsReason (IsLongThere new.from_a new.from_b) (OneFailed sure count old.a new.a old.b new.b) (RoseIn before after notifier_sure) end → may_come_to told sure new notifier_sure moment end
  reason-fits old new moment before after notifier_sure (pair.TooLong A at) is = long-fits new.from_a (told new.a) (sure new.a) at is
  reason-fits old new moment before after notifier_sure (pair.TooLong B at) is = long-fits new.from_b (told new.b) (sure new.b) at is
  reason-fits old new moment before after notifier_sure (pair.ReadFault f) is = one-unsure old new f is
  reason-fits old new moment before after notifier_sure (pair.WriteFault f) is = one-unsure old new f is
  reason-fits old new moment before after notifier_sure (pair.ArmFault f) is = one-unsure old new (record { before = f.before; after = f.after }) is
  reason-fits old new moment before after notifier_sure (pair.NotifyFault f) is = is.0
  reason-fits old new moment before after notifier_sure (pair.Ended to_a to_b) is = absurd is
  reason-fits old new moment before after notifier_sure (pair.Idle last now) is = absurd is
  reason-fits old new moment before after notifier_sure pair.OutOfMemory is = absurd is

  -- what passed is the same whatever became of the timer and of the count of polls, and however much is asked of it being over
  pub passed-same : {P Q : Type 0} {stop : Option PairEnd} (host until : H) (old new other : PairState E) (now : ℕ) → (Q → P) → Passed step told sure count on_host host until old new now P stop
      → other ≡ record new { timer = other.timer } → Passed step told sure count on_host host until old other now Q stop
  passed-same {P = P} {Q = Q} {stop = stop} host until old new other now less p rest =
      subst (λ (o : PairState E). Passed step told sure count on_host host until old o now Q stop) (sym rest) (record {
        tally_a = p.tally_a;
        tally_b = p.tally_b;
        exchanged = record { more_a = p.exchanged.more_a; more_b = p.exchanged.more_b; exchange = p.exchanged.exchange; is_over = λ q. p.exchanged.is_over (less q) };
        most_of_a = p.most_of_a;
        most_of_b = p.most_of_b;
        last = p.last;
        idle = p.idle;
        has_more = p.has_more;
      })

-- ## What is told

pub reason-tells : {E : Type 0} (failed notified : CountFault → Type 0) (p : PairState E) (now : ℕ) (w : Waker) (id_left : Bool) (end : PairEnd)
    → IsReason (IsLongThere p.from_a p.from_b) failed notified end → Tells failed notified p now w id_left (Ready end)
reason-tells failed notified p now w id_left (pair.TooLong side at) is = is
reason-tells failed notified p now w id_left (pair.ReadFault f) is = is
reason-tells failed notified p now w id_left (pair.WriteFault f) is = is
reason-tells failed notified p now w id_left (pair.ArmFault f) is = is
reason-tells failed notified p now w id_left (pair.NotifyFault f) is = is
reason-tells failed notified p now w id_left (pair.Ended to_a to_b) is = absurd is
reason-tells failed notified p now w id_left (pair.Idle last at) is = absurd is
reason-tells failed notified p now w id_left pair.OutOfMemory is = absurd is

-- ## Completeness

pub no-rise : (before after : ℕ) (sure : Bool) (f : CountFault) → ¬ Rose before after → ¬ RoseIn before after sure f
no-rise before after sure f still is = still (omega (arith, is.1, is.2, is.3))

pub none-failed : {E : Type 0} (sure : E → Bool) (count : E → ℕ) (a_old a b_old b : E) (f : CountFault) → ¬ Rose (count a_old) (count a) → ¬ Rose (count b_old) (count b)
    → ¬ OneFailed sure count a_old a b_old b f
none-failed sure count a_old a b_old b f still_a still_b is = elim is [
  | inl x ↦ no-rise (count a_old) (count a) (sure a) f still_a x
  | inr y ↦ no-rise (count b_old) (count b) (sure b) f still_b y
]

pub done-tells : {E : Type 0} (failed notified : CountFault → Type 0) (p : PairState E) (now : ℕ) (w : Waker) (id_left : Bool) (answer : Poll PairEnd)
    → Tells failed notified p now w id_left answer → BothShort p → BothDone p → ((f : CountFault) → ¬ failed f) → ((f : CountFault) → ¬ notified f) → IsTheEnd answer
done-tells failed notified p now w id_left Pending h short done none no_notify = h.1.not_done done
done-tells failed notified p now w id_left (Ready (pair.Ended to_a to_b)) h short done none no_notify = tt
done-tells failed notified p now w id_left (Ready (pair.Idle last at)) h short done none no_notify = h.1 done
done-tells failed notified p now w id_left (Ready (pair.TooLong A at)) h short done none no_notify = absurd (omega (arith, h.0, short.0))
done-tells failed notified p now w id_left (Ready (pair.TooLong B at)) h short done none no_notify = absurd (omega (arith, h.0, short.1))
done-tells failed notified p now w id_left (Ready (pair.ReadFault f)) h short done none no_notify = none f h
done-tells failed notified p now w id_left (Ready (pair.WriteFault f)) h short done none no_notify = none f h
done-tells failed notified p now w id_left (Ready (pair.ArmFault f)) h short done none no_notify = none (record { before = f.before; after = f.after }) h
done-tells failed notified p now w id_left (Ready (pair.NotifyFault f)) h short done none no_notify = no_notify f h
done-tells failed notified p now w id_left (Ready pair.OutOfMemory) h short done none no_notify = tt

-- ## The begin of a poll

-- what is said of a call that ended the pair
pub reason-follows : (is_long : Side → ℕ → Type 0) (failed notified : CountFault → Type 0) {nothing : Type 0} (waits : Result (Unit {0}) WaitFault → Type 0) (end : PairEnd)
    → IsReason is_long failed notified end → nothing → Follows (Some end) nothing waits (Ready end)
reason-follows is_long failed notified waits (pair.TooLong side at) is nothing = (refl, nothing)
reason-follows is_long failed notified waits (pair.ReadFault f) is nothing = (refl, nothing)
reason-follows is_long failed notified waits (pair.WriteFault f) is nothing = (refl, nothing)
reason-follows is_long failed notified waits (pair.ArmFault f) is nothing = (refl, nothing)
reason-follows is_long failed notified waits (pair.NotifyFault f) is nothing = inl (refl, nothing)
reason-follows is_long failed notified waits (pair.Ended to_a to_b) is nothing = absurd is
reason-follows is_long failed notified waits (pair.Idle last at) is nothing = absurd is
reason-follows is_long failed notified waits pair.OutOfMemory is nothing = absurd is

-- whether a block of a side was read, by the tallies
pub block-is : (tally_a tally_b : Tally) (a_calls b_calls : List EndCall) → tally_a.read ≡ length (went_over Read a_calls) → tally_b.read ≡ length (went_over Read b_calls)
    → ((tally_a.read == 65536) || (tally_b.read == 65536)) ≡ reads_block a_calls b_calls
block-is tally_a tally_b a_calls b_calls is_a is_b =
    ap (λ (n : ℕ). (n == 65536) || (tally_b.read == 65536)) is_a ∙ ap (λ (n : ℕ). (length (went_over Read a_calls) == 65536) || (n == 65536)) is_b

module _ {E H : Type 0} (step : E → EndCall → E → Type 0) (told : E → Telling) (sure : E → Bool) (count : E → ℕ) (on_host : H → EndCall → H → Type 0) where
  pub exchange-starts : (host : H) (a b : E) (from_a from_b : SideState) (tally_a tally_b : Tally) → IsKept from_a (told a) → IsKept from_b (told b)
      → tally_a ≡ record { read = 0; wrote = false } → tally_b ≡ record { read = 0; wrote = false }
      → Exchange step told sure count on_host host host a b a b from_a from_b from_a from_b tally_a tally_b true true None
  exchange-starts host a b from_a from_b tally_a tally_b side_a side_b is_a is_b =
      subst (λ (t : Tally). Exchange step told sure count on_host host host a b a b from_a from_b from_a from_b t tally_b true true None) (sym is_a)
      (subst (λ (t : Tally). Exchange step told sure count on_host host host a b a b from_a from_b from_a from_b (record { read = 0; wrote = false }) t true true None) (sym is_b)
      (exchange-begins step told sure count on_host host a b from_a from_b side_a.small side_b.small side_a.at_end side_b.at_end))

-- ## A whole poll

module _ {E H : Type 0} (step : E → EndCall → E → Type 0) (told : E → Telling) (sure : E → Bool) (count : E → ℕ) (rules : HostRules H) (later : H → H → Type 0) (notifier_sure : H → Bool) where
  -- what passed, for the waker of the poll's own task
  pub owned : {P : Type 0} {stop : Option PairEnd} (w : Waker) (host until : H) (old new : PairState E) (cx : Cx) → w.0 ≡ own_waker cx.parker cx.mask
      → Passed step told sure count (CallsFor rules later notifier_sure w) host until old new cx.now P stop
      → Passed step told sure count (CallsFor rules later notifier_sure (own_of cx)) host until old new cx.now P stop
  owned {P = P} {stop = stop} w host until old new cx own p =
      subst (λ (n : ℕ). Passed step told sure count (CallsFor rules later notifier_sure (record { 0 = n })) host until old new cx.now P stop) own p

  pub done-polls : {P : Type 0} → P → (old new : PairState E) (host left : H) (cx : Cx) (end : PairEnd)
      → Passed step told sure count (CallsFor rules later notifier_sure (own_of cx)) host left old new cx.now P None
      → new.polls ≡ raised old.polls → new.timer ≡ old.timer → BothShort new → BothDone new → end ≡ pair.Ended new.from_b.forwarded new.from_a.forwarded
      → PollsPair step told sure count rules later notifier_sure old host cx (Ready end) new left
  done-polls settled old new host left cx end passed polls timer short done is =
      subst (λ (e : PairEnd). PollsPair step told sure count rules later notifier_sure old host cx (Ready e) new left) (sym is) (record {
        until = left;
        stop = None;
        passed = passed-same step told sure count (CallsFor rules later notifier_sure (own_of cx)) host left old new new cx.now (λ q. settled) passed refl;
        follows = (refl, (refl, timer));
        tells = (short, done, refl, refl);
        polls = polls;
      })

  pub idle-polls : {P : Type 0} → P → (old new : PairState E) (host left : H) (cx : Cx) (end : PairEnd)
      → Passed step told sure count (CallsFor rules later notifier_sure (own_of cx)) host left old new cx.now P None
      → new.polls ≡ raised old.polls → new.timer ≡ old.timer → BothShort new → ¬ BothDone new → new.last + new.idle ≤ cx.now → end ≡ pair.Idle new.last cx.now
      → PollsPair step told sure count rules later notifier_sure old host cx (Ready end) new left
  idle-polls settled old new host left cx end passed polls timer short not_done late is =
      subst (λ (e : PairEnd). PollsPair step told sure count rules later notifier_sure old host cx (Ready e) new left) (sym is) (record {
        until = left;
        stop = None;
        passed = passed-same step told sure count (CallsFor rules later notifier_sure (own_of cx)) host left old new new cx.now (λ q. settled) passed refl;
        follows = (refl, (refl, timer));
        tells = (short, not_done, late, refl, refl);
        polls = polls;
      })

  pub reason-polls : {P : Type 0} (old new : PairState E) (host left : H) (cx : Cx) (end : PairEnd)
      → Passed step told sure count (CallsFor rules later notifier_sure (own_of cx)) host left old new cx.now P (Some end)
      → new.polls ≡ raised old.polls → new.timer ≡ old.timer
      → IsReason (IsLongThere new.from_a new.from_b) (OneFailed sure count old.a new.a old.b new.b) (RoseIn (rules.faults host) (rules.faults left) (notifier_sure host)) end
      → PollsPair step told sure count rules later notifier_sure old host cx (Ready end) new left
  reason-polls old new host left cx end passed polls timer is =
      let said = reason-tells (OneFailed sure count old.a new.a old.b new.b) (RoseIn (rules.faults host) (rules.faults left) (notifier_sure host)) new cx.now
      (own_of cx) (has_id_left (rules.drawn left)) end is in
      record {
        until = left;
        stop = Some end;
        passed = passed-same step told sure count (CallsFor rules later notifier_sure (own_of cx)) host left old new new cx.now (λ q. absurd cc) passed refl;
        follows = reason-follows (IsLongThere new.from_a new.from_b) (OneFailed sure count old.a new.a old.b new.b)
            (RoseIn (rules.faults host) (rules.faults left) (notifier_sure host))
            (λ result. Waits rules later notifier_sure new.has_more (idle_from new.last new.idle) cx.now (own_of cx) old.timer new.timer left left result) end is (refl, timer);
        tells = said;
        polls = polls;
      }

  module _ {P : Type 0} (settled : P) (old mid new : PairState E) (host until left : H) (cx : Cx)
      (passed : Passed step told sure count (CallsFor rules later notifier_sure (own_of cx)) host until old mid cx.now P None)
      (polls : mid.polls ≡ raised old.polls) (timer : mid.timer ≡ old.timer) (short : BothShort mid) (rest : new ≡ record mid { timer = new.timer })
      (w : Waker) (own : w.0 ≡ own_waker cx.parker cx.mask) where
    -- how it waits, of the pair as it was before the poll and is after it
    waited : (more : Bool) (result : Result (Unit {0}) WaitFault) → more ≡ mid.has_more
        → Waits rules later notifier_sure more (idle_from mid.last mid.idle) cx.now w mid.timer new.timer until left result
        → Waits rules later notifier_sure new.has_more (idle_from new.last new.idle) cx.now (own_of cx) old.timer new.timer until left result
    waited more result is waits =
        let other : PairState E = record mid { timer = new.timer } in
        let asked = subst (λ (m : Bool). Waits rules later notifier_sure m (idle_from mid.last mid.idle) cx.now w mid.timer new.timer until left result) is waits in
        let from_old = subst (λ (t : TimerValue). Waits rules later notifier_sure mid.has_more (idle_from mid.last mid.idle) cx.now w t new.timer until left result) timer asked in
        let by_own = subst (λ (n : ℕ). Waits rules later notifier_sure mid.has_more (idle_from mid.last mid.idle) cx.now (record { 0 = n }) old.timer new.timer until left result) own from_old in
        subst (λ (p : PairState E). Waits rules later notifier_sure p.has_more (idle_from p.last p.idle) cx.now (own_of cx) old.timer new.timer until left result) (sym rest) by_own

    pub wait-polls : (more : Bool) → more ≡ mid.has_more → ¬ BothDone mid → cx.now < mid.last + mid.idle
        → IsSetTo (idle_from mid.last mid.idle) w (has_id_left (rules.drawn left)) new.timer
        → Waits rules later notifier_sure more (idle_from mid.last mid.idle) cx.now w mid.timer new.timer until left (Ok tt)
        → PollsPair step told sure count rules later notifier_sure old host cx Pending new left
    wait-polls more is not_done early set waits =
        let same : IsSetTo (idle_from mid.last mid.idle) (own_of cx) (has_id_left (rules.drawn left)) new.timer =
        subst (λ (n : ℕ). IsSetTo (idle_from mid.last mid.idle) (record { 0 = n }) (has_id_left (rules.drawn left)) new.timer) own set in
        record {
          until = until;
          stop = None;
          passed = passed-same step told sure count (CallsFor rules later notifier_sure (own_of cx)) host until old mid new cx.now (λ q. settled) passed rest;
          follows = (refl, waited more (Ok tt) is waits);
          tells = subst (λ (p : PairState E). BothShort p × IsWaiting p cx.now (own_of cx) (has_id_left (rules.drawn left))) (sym rest)
              (short, record { not_done = not_done; not_idle = early; timer = same });
          polls = ap (λ (p : PairState E). p.polls) rest ∙ polls;
        }

    pub memory-polls : (more : Bool) → more ≡ mid.has_more
        → Waits rules later notifier_sure more (idle_from mid.last mid.idle) cx.now w mid.timer new.timer until left (Err wait_fault.OutOfMemory)
        → PollsPair step told sure count rules later notifier_sure old host cx (Ready pair.OutOfMemory) new left
    memory-polls more is waits = record {
      until = until;
      stop = None;
      passed = passed-same step told sure count (CallsFor rules later notifier_sure (own_of cx)) host until old mid new cx.now (λ q. settled) passed rest;
      follows = (refl, waited more (Err wait_fault.OutOfMemory) is waits);
      tells = subst (λ (p : PairState E). BothShort p) (sym rest) short;
      polls = ap (λ (p : PairState E). p.polls) rest ∙ polls;
    }

    pub notify-polls : (more : Bool) (f : CountFault) → more ≡ mid.has_more
        → Waits rules later notifier_sure more (idle_from mid.last mid.idle) cx.now w mid.timer new.timer until left (Err (wait_fault.Notify f))
        → RoseIn (rules.faults host) (rules.faults left) (notifier_sure host) f
        → PollsPair step told sure count rules later notifier_sure old host cx (Ready (pair.NotifyFault f)) new left
    notify-polls more f is waits rose = record {
      until = until;
      stop = None;
      passed = passed-same step told sure count (CallsFor rules later notifier_sure (own_of cx)) host until old mid new cx.now (λ q. settled) passed rest;
      follows = inr (refl, waited more (Err (wait_fault.Notify f)) is waits);
      tells = rose;
      polls = ap (λ (p : PairState E). p.polls) rest ∙ polls;
    }
