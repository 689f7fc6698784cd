-- What a later poll of a listener reads, and that its source and its seat are among those that there are.
use Rattle.std.proofs.Common.{◌≡◌, ◌<◌, ◌≤◌, ℕ, zero, suc, List, [], ◌∷◌, length, slice_index_or, Option, None, Some, subst, arith}
use Rattle.aio_base.specs.declared.names.Dir.{Dir}
use Rattle.aio_listen.specs.Listening.{Holds}
use Rattle.aio_source.specs.Rules.{direction_of}
use Rattle.aio_source.specs.declared.answers.Listened.{Listened}
use Rattle.aio_react.specs.declared.entries.Listener.{Listener}
use Rattle.aio_react.specs.declared.entries.SourceEntry.{SourceEntry}
use Rattle.aio_react.specs.declared.listener_table.FirstPoll.{FirstPoll}
use Rattle.aio_react.specs.declared.listener_table.Seat.TheVariants as seat
use Rattle.aio_react.specs.Cores.{entry_at, AreListed, IsListenedTo}
use Rattle.aio_react.specs.Numbers.{value_of}
use Rattle.aio_react.specs.Seats.{seat_in, listened_in, IsBeside}
use Rattle.aio_react.proofs.listeners.HeardAgain.{heard_at}
use Rattle.aio_react.proofs.polls.SeatLemmas.{seated, polled-seat}

-- the listener, and its source, which holds its ticket
pub record Again (sources : List (Option SourceEntry)) (listeners : List (Option Listener)) (number key : ℕ) (dir : Dir) (early : ℕ) (first : Listened) (e : SourceEntry) : Type 0 where
  pub is : value_of listeners number ≡ Some (seated key dir (Some first))
  pub there : entry_at sources key ≡ Some e
  pub early_is : early ≤ first.a
  pub held : Holds (direction_of e.source.directions dir).listeners.entries first.ticket

pub again_read : (sources : List (Option SourceEntry)) (listeners : List (Option Listener)) (number key : ℕ) (dir : Dir) (place early : ℕ) (p : FirstPoll) (e : SourceEntry)
    → AreListed sources listeners → seat.Polled dir key place early ≡ seat_in (value_of listeners number) → IsBeside (value_of listeners number) p
    → entry_at sources key ≡ Some e → Again sources listeners number key dir early (listened_in place p) e
again_read sources listeners number key dir place early p e listed seats beside there =
    let l = seated key dir (Some (listened_in place p)) in
    let both = polled-seat (value_of listeners number) dir key place early p seats beside in
    let is = both.0 in
    record {
      is = is;
      there = there;
      early_is = both.1;
      held = subst (λ (place : Option SourceEntry). IsListenedTo place l) there (heard_at sources listeners number l listed is);
    }

-- ## Places

heard_within : (sources : List (Option SourceEntry)) (at : ℕ) (l : Listener) → IsListenedTo (slice_index_or sources at None) l → at < length sources
heard_within [] at l heard = absurd heard
heard_within (e ∷ sources) zero l heard = omega arith
heard_within (e ∷ sources) (suc at) l heard = omega (arith, heard_within sources at l heard)

-- the key of a listener is within the sources
pub listed_within : (sources : List (Option SourceEntry)) (listeners : List (Option Listener)) (number : ℕ) (l : Listener) → AreListed sources listeners → value_of listeners number ≡ Some l
    → l.key.0 < length sources
listed_within sources listeners number l listed is = heard_within sources l.key.0 l (heard_at sources listeners number l listed is)

polled_at : (listeners : List (Option Listener)) (at key : ℕ) (dir : Dir) (place early : ℕ) → seat.Polled dir key place early ≡ seat_in (slice_index_or listeners at None) → at < length listeners
polled_at [] at key dir place early seats = absurd cc
polled_at (l ∷ listeners) zero key dir place early seats = omega arith
polled_at (l ∷ listeners) (suc at) key dir place early seats = omega (arith, polled_at listeners at key dir place early seats)

-- the number of a listener that was polled was given
pub polled_given : (listeners : List (Option Listener)) (number key : ℕ) (dir : Dir) (place early : ℕ) → seat.Polled dir key place early ≡ seat_in (value_of listeners number) → number ≤ length listeners
polled_given listeners zero key dir place early seats = omega arith
polled_given listeners (suc at) key dir place early seats = omega (arith, polled_at listeners at key dir place early seats)
