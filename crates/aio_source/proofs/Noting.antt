-- A call of a source leaves its key, so it leaves the note of its cell.
use Rattle.std.specs.Prelude.{◌≡◌, ℕ, Bool, true, false, if◌then◌else◌, List, [], ◌∷◌, Option, None, Some, Result, refl}
use Rattle.std.proofs.Common.{ap}
use Rattle.aio_base.specs.declared.names.Key.{Key}
use Rattle.aio_base.specs.declared.names.Dir.{Dir}
use Rattle.aio_base.specs.declared.names.Waker.{Waker}
use Rattle.aio_base.specs.declared.outcomes.Failed.{Failed}
use Rattle.aio_base.specs.Devices.{ArmCall, Interests}
use Rattle.aio_base.specs.Machine.{is_waker}
use Rattle.aio_listen.specs.declared.ticket.Ticket.{Ticket}
use Rattle.aio_source.specs.declared.answers.Listened.{Listened}
use Rattle.aio_source.specs.Values.{SourceValue}
use Rattle.aio_source.specs.Rules.{is_ready, is_above, direction_of, Polling, polling, listening_first, listening_on, polling_again, handling}
use Rattle.aio_source.specs.Noting.{NoteTellsCell, KeepsNote, CallsKeepNote}

abbrev head_of : List ℕ → ℕ
head_of [] = 0
head_of (x ∷ xs) = x

abbrev tail_of : List ℕ → List ℕ
tail_of [] = []
tail_of (x ∷ xs) = xs

-- both cases keep the key
either_keeps : {P : Type 0} (key : P → Key) (b : Bool) (x y : P) (k : Key) → key x ≡ k → key y ≡ k → key (if b then x else y) ≡ k
either_keeps key true x y k e f = e
either_keeps key false x y k e f = f

poll_key : (s : SourceValue) (dir : Dir) (waker : Waker) (ticker : ℕ) → (polling s dir waker ticker).source.key ≡ s.key
poll_key s dir waker ticker = let d = direction_of s.directions dir in
    either_keeps (λ (p : Polling). p.source.key) (is_ready d) _ _ s.key refl (either_keeps (λ (p : Polling). p.source.key) (is_waker waker d.waiter) _ _ s.key refl refl)

first_listen_key : (s : SourceValue) (dir : Dir) (waker : Waker) (ticket : Option Ticket) → (listening_first s dir waker ticket).source.key ≡ s.key
first_listen_key s dir waker None = refl
first_listen_key s dir waker (Some ticket) = refl

listen_again_key : (s : SourceValue) (dir : Dir) (l : Listened) (waker : Waker) → (polling_again s dir l waker).source.key ≡ s.key
listen_again_key s dir l waker = either_keeps (λ (p : Polling). p.source.key) (is_above l.a l.b (direction_of s.directions dir).tick) _ _ s.key refl refl

pub note_tells_cell : {S : Type 0} (rest : S → List ℕ) → NoteTellsCell rest
note_tells_cell rest s t io other e = ((λ i. record { 0 = head_of (e i) }), ap tail_of e)

module _ {S : Type 0} (step : S → ArmCall → Result (Unit {0}) Failed → S → Type 0) (tells : S → Option Interests) (rest : S → List ℕ)
    (count : S → ℕ) (is_sure : S → Bool) where
  keeps : (s left : SourceValue) (arms : Bool) → left.key ≡ s.key → KeepsNote step tells rest count is_sure s left arms
  keeps s left arms same answer old new uses = λ i. (same i).0 ∷ uses.stays i

  pub calls_keep_note : CallsKeepNote step tells rest count is_sure
  calls_keep_note = record {
    poll = λ s dir waker ticker. let p = polling s dir waker ticker in keeps s p.source p.arms (poll_key s dir waker ticker);
    first_listen = λ s dir waker ticket. let p = listening_first s dir waker ticket in keeps s p.source p.arms (first_listen_key s dir waker ticket);
    listen_again = λ s dir l waker. let p = polling_again s dir l waker in keeps s p.source p.arms (listen_again_key s dir l waker);
    listen_on = λ s dir ticket waker. let p = listening_on s dir ticket waker in keeps s p.source p.arms refl;
    handle = λ s on round. let p = handling s on round in keeps s p.source p.arms refl;
    unlisten = λ s dir ticket io. refl;
  }
